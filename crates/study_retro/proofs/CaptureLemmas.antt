-- The captures of a position, man by man.
use Rattle.std.proofs.Common.{◌≡◌, ℕ, ◌+◌, ◌<◌, ◌&&◌, not, Bool, true, false, inl, inr, List, [], ◌∷◌, ◌++◌, length, get_or, take, Contains}
use Rattle.std.proofs.Common.{refl, sym, ◌∙◌, subst}
use Rattle.std.proofs.lemmas.Bool.{false≢true}
use Rattle.std.proofs.lemmas.List.Elements.{All-contains, Contains-append_left, Contains-get_or, Contains-push, Contains-push_cases}
use Rattle.study_board.specs.declared.men.Man.{Man}
use Rattle.study_board.specs.Men.{same_side}
use Rattle.study_board.specs.Position.{Position, IsValid}
use Rattle.study_board.specs.Sets.{has}
use Rattle.study_moves.specs.declared.moves.Move.{Move}
use Rattle.study_moves.specs.Rules.{is_legal, reaches_last_rank}
use Rattle.study_moves.specs.AnyOrder.{HasSafeTargets, is_safe_target}
use Rattle.study_retro.specs.Still.{GoesWithoutPromotion, move_to}
use Rattle.study_levels.proofs.CellsLemmas.{each-more}

-- one move more
module _ (xs ys : List Move) (mv : Move) (more : ys ≡ xs ++ mv ∷ []) where
  pub more_kept : (m : Move) → Contains xs m → Contains ys m
  more_kept m c = subst (λ (zs : List Move). Contains zs m) (sym more) (Contains-append_left xs (mv ∷ []) m c)

  pub more_only : (Q : Move → Type 0) → ((m : Move) → Contains xs m → Q m) → Q mv → (m : Move) → Contains ys m → Q m
  more_only Q before here m c = elim (Contains-push_cases xs mv m (subst (λ (zs : List Move). Contains zs m) more c)) [
    | inl h ↦ before m h
    | inr e ↦ subst Q e here
  ]

  pub more_here : Contains ys mv
  more_here = subst (λ (zs : List Move). Contains zs mv) (sym more) (Contains-push xs mv)

module _ (q : Position) (valid : IsValid q) (men : List Man) (same : men ≡ q.men) (i : ℕ) (d o : Man) (before : i < length men) (is : o ≡ get_or men i d) where
  pub item_there : Contains q.men o
  item_there = subst (λ (zs : List Man). Contains zs o) same (subst (λ (k : Man). Contains men k) (sym is) (Contains-get_or men i d before))

  pub item_on : o.at < 64
  item_on = All-contains (λ (k : Man). k.at < 64) q.men o valid.on_board item_there

  pub each_man : (Q : Man → Type 0) → ((k : Man) → Contains (take i men) k → Q k) → Q o → (k : Man) → Contains (take (i + 1) men) k → Q k
  each_man Q f here = each-more Q men i d before f (subst Q is here)

  module _ (tells : HasSafeTargets q q.men) (man : Man) (among : Contains q.men man) (his : same_side man.side q.to_move ≡ true) (safe : ℕ) (word : (x : ℕ)
      → x < 64 → has safe x ≡ is_safe_target men q.to_move man x) where
    word_is : has safe o.at ≡ is_safe_target q.men q.to_move man o.at
    word_is = subst (λ (zs : List Man). has safe o.at ≡ is_safe_target zs q.to_move man o.at) same (word o.at item_on)

    pub goes_legally : (b : Bool) → b ≡ (has safe o.at && not (reaches_last_rank man o.at)) → b ≡ true → is_legal q (move_to man o.at) ≡ true
    goes_legally b e t =
        let parts = both (has safe o.at) (reaches_last_rank man o.at) (sym e ∙ t) in
        tells.legal man (move_to man o.at) among refl item_on ∙ rw (his, sym word_is ∙ parts.0, parts.1) refl
      where
        both : (a r : Bool) → (a && not r) ≡ true → (a ≡ true) × (r ≡ false)
        both true false f = (refl, refl)
        both true true f = absurd (false≢true f)
        both false r f = absurd (false≢true f)

    pub goes_not : (b : Bool) → b ≡ (has safe o.at && not (reaches_last_rank man o.at)) → b ≡ false → GoesWithoutPromotion q man o.at → ⊥
    goes_not b e f g = false≢true (sym f ∙ e ∙ rw (word_is ∙ g.0, g.1) refl)
