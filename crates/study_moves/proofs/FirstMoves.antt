-- Whether a man has a legal move, if no square is passed.
use Rattle.std.proofs.Common.{◌≡◌, ℕ, ◌<◌, ◌+◌, Bool, true, false, List, length, get_or, take, Option, Some, None, is_some, refl, sym, ◌∙◌, ap, subst, inl, inr}
use Rattle.std.specs.List.{Contains}
use Rattle.std.proofs.lemmas.Bool.{false≢true, and_parts}
use Rattle.std.proofs.lemmas.List.{take_more}
use Rattle.std.proofs.lemmas.List.Elements.{Contains-push_cases}
use Rattle.std.proofs.lemmas.List.Sorted.{IsPermutation-refl}
use Rattle.std.specs.List.Sorted.{IsPermutation}
use Rattle.study_board.specs.declared.men.Kind.{Kind}
use Rattle.study_board.specs.declared.men.Kind.TheVariants.{Queen}
use Rattle.study_board.specs.declared.men.Man.{Man}
use Rattle.study_board.specs.declared.men.Side.{Side}
use Rattle.study_board.specs.Men.{same_side}
use Rattle.study_board.specs.Position.{Position, IsValid}
use Rattle.study_moves.specs.declared.moves.Move.{Move}
use Rattle.study_moves.specs.Rules.{is_legal, is_promotion_choice, reaches_last_rank}
use Rattle.study_moves.specs.EnPassant.{has_legal_en_passant, is_capturable_en_passant}
use Rattle.study_moves.specs.AnyOrder.{is_safe_target, HasSafeTargets}
use Rattle.study_moves.specs.Game.{HasNoMove}
use Rattle.study_moves.proofs.AnyOrder.{men-tell-moves}

-- the man does not belong to the side, or has no safe target; and so for each man of a list
abbrev pub HasNoTarget : List Man → Side → Man → Type 0
HasNoTarget men side m = same_side m.side side ≡ true → (x : ℕ) → x < 64 → is_safe_target men side m x ≡ false

abbrev pub NoneMoves : List Man → Side → List Man → Type 0
NoneMoves men side some = (m : Man) → Contains some m → HasNoTarget men side m

-- and so with one more man
pub NoneMoves-more : (men : List Man) (side : Side) (ms : List Man) (i : ℕ) (d : Man) → i < length ms → NoneMoves men side (take i ms)
    → HasNoTarget men side (get_or ms i d) → NoneMoves men side (take (i + 1) ms)
NoneMoves-more men side ms i d b before here m c =
    elim (Contains-push_cases (take i ms) (get_or ms i d) m (subst (λ (xs : List Man). Contains xs m) (take_more ms i d b) c)) [
      | inl h ↦ before m h
      | inr e ↦ subst (HasNoTarget men side) e here
    ]

-- no square is passed if the test says so
pub no_passed : (passed reported : Option ℕ) (b : Bool) → reported ≡ passed → b ≡ is_some reported → b ≡ false → passed ≡ None
no_passed passed reported b same is e = sym same ∙ by_cases reported (sym is ∙ e)
  where
    by_cases : (o : Option ℕ) → is_some o ≡ false → o ≡ None
    by_cases None e = refl
    by_cases (Some x) e = absurd (false≢true (sym e))

module _ (q : Position) (men : List Man) (side : Side) (valid : IsValid q) (none : q.passed ≡ None) (em : men ≡ q.men) (es : side ≡ q.to_move) where
  safe_targets_found : HasSafeTargets q men
  safe_targets_found =
      let dead : has_legal_en_passant q ≡ false = ap (λ (o : Option ℕ). is_capturable_en_passant q o) none in
      (men-tell-moves q men valid (subst (λ (zs : List Man). IsPermutation zs q.men) (sym em) (IsPermutation-refl q.men))).0 dead

  -- a man with a safe target has a legal move
  pub some_legal : (man : Man) → Contains men man → same_side man.side side ≡ true → (x : ℕ) → x < 64 → is_safe_target men side man x ≡ true
      → (m : Move) × (is_legal q m ≡ true)
  some_legal man among his x on safe =
      let choice : Option Kind = chosen (reaches_last_rank man x) in
      let m : Move = record { origin = man.at; target = x; promoted = choice } in (
        m,
        safe_targets_found.legal man m among refl on
            ∙ rw (
              ap (λ (t : Side). same_side man.side t) (sym es) ∙ his,
              ap (λ (t : Side). is_safe_target men t man x) (sym es) ∙ safe,
            ) (is_chosen (reaches_last_rank man x)),
      )
    where
      chosen : Bool → Option Kind
      chosen true = Some Queen
      chosen false = None

      is_chosen : (b : Bool) → is_promotion_choice b (chosen b) ≡ true
      is_chosen true = refl
      is_chosen false = refl

  -- if no man has one, there is no legal move
  pub none_legal : NoneMoves men side men → HasNoMove q
  none_legal idle m legal =
      let t = safe_targets_found.mover m legal in
      let on = t.3 in
      let is = and_parts _ _ (sym (safe_targets_found.legal t.0 m t.1 t.2 on) ∙ legal) in
      let own = and_parts _ _ is.0 in
      false≢true
      (sym (idle t.0 t.1 (ap (λ (r : Side). same_side t.0.side r) es ∙ own.0) m.target on)
      ∙ ap (λ (r : Side). is_safe_target men r t.0 m.target) es ∙ own.1)
