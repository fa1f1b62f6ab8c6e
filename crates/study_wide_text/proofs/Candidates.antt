-- One move of each man is enough to find the moves that a text can mean.
use Rattle.std.proofs.Common.{◌≡◌, ℕ, ◌+◌, ◌*◌, ◌<◌, Bool, true, ◌&&◌, inl, inr, List, [], ◌∷◌, map, Option, sym, ap, ◌∙◌, subst, arith}
use Rattle.std.specs.List.{filter}
use Rattle.std.proofs.lemmas.Bool.{and_parts, and_from}
use Rattle.study_board.specs.declared.men.Kind.{Kind}
use Rattle.study_board.specs.declared.men.Man.{Man}
use Rattle.study_board.specs.Position.{Position, AllAbove, IsAscending}
use Rattle.study_board.specs.Sound.{IsSound}
use Rattle.study_moves.specs.declared.moves.Move.{Move}
use Rattle.study_moves.specs.Rules.{is_legal}
use Rattle.study_moves.specs.Order.{move_place, choice_place}
use Rattle.study_moves.specs.LegalList.{legal_list, all_moves}
use Rattle.study_moves.proofs.MenOfList.{IsAmong, found_among}
use Rattle.study_moves.proofs.NoMoveBetween.{HasMover-from_is_legal}
use Rattle.study_moves.proofs.AscendingKeys.{IsIn, IsIn-filter, IsIn-kept, AscendsFrom, AscendsFrom-filter, same_list}
use Rattle.study_moves.proofs.LegalLists.{in_all, is_legal-in, AscendsFrom-legal_list}
use Rattle.study_wide_text.specs.Candidates.{move_to, candidates}

module _ (t : ℕ) (promoted : Option Kind) (small : t < 64) where
  place_of : (a : ℕ) → ℕ
  place_of a = (64 * a + t) * 8 + choice_place promoted

  -- the moves of ascending men ascend
  ascend : (lo : ℕ) (xs : List Man) → AllAbove lo xs → IsAscending xs
      → AscendsFrom move_place ((64 * lo + t) * 8 + choice_place promoted + 1) (map (move_to t promoted) xs)
  ascend lo [] above h = tt
  ascend lo (x ∷ xs) above h = let a = above.0 in (omega arith, ascend x.at xs h.0 h.1)

  ascend_all : (xs : List Man) → IsAscending xs → AscendsFrom move_place 0 (map (move_to t promoted) xs)
  ascend_all [] h = tt
  ascend_all (x ∷ xs) h = (omega arith, ascend x.at xs h.0 h.1)

  among_map : (xs : List Man) (man : Man) → IsAmong man xs → IsIn (move_to t promoted man) (map (move_to t promoted) xs)
  among_map [] man i = absurd i
  among_map (x ∷ xs) man (inl s) = inl (ap (move_to t promoted) s)
  among_map (x ∷ xs) man (inr i) = inr (among_map xs man i)

-- a test that fixes target and promotion passes exactly these of all legal moves, in their order, with any number of men
pub candidates_found : (p : Position) → IsSound p → (q : Move → Bool) (t : ℕ) (promoted : Option Kind) → t < 64
    → ((m : Move) → q m ≡ true → (m.target ≡ t) × (m.promoted ≡ promoted)) → candidates p q t promoted ≡ filter q (legal_list p)
unfolding candidates legal_list
candidates_found p sound q t promoted small fixed =
    let all = map (move_to t promoted) p.men in
    let both : Move → Bool = λ m. is_legal p m && q m in
    same_list move_place 0 0 (filter both all) (filter q (legal_list p))
    (AscendsFrom-filter move_place both 0 all (ascend_all t promoted small p.men sound.ordered))
    (AscendsFrom-filter move_place q 0 (legal_list p) (AscendsFrom-legal_list p))
    (λ m i.
    let r = IsIn-filter both all m i in
    let e = and_parts (is_legal p m) (q m) r.1 in
    IsIn-kept q (legal_list p) m (IsIn-kept (is_legal p) all_moves m (in_all p m sound.on_board e.0) e.0) e.1)
    (λ m i.
    let r = IsIn-filter q (legal_list p) m i in
    let legal = is_legal-in p m r.0 in
    let mover = HasMover-from_is_legal p m legal in
    let found = found_among p.men m.origin mover.man mover.here in
    let f = fixed m r.1 in
    let build : ℕ → ℕ → Option Kind → Move = λ a x k. record { origin = a; target = x; promoted = k } in
    let same : move_to t promoted mover.man ≡ m =
    ap (λ a. build a t promoted) found.1 ∙ (ap (λ x. build m.origin x promoted) (sym f.0) ∙ ap (λ k. build m.origin m.target k) (sym f.1)) in
    let there = subst (λ (y : Move). IsIn y all) same (among_map t promoted small p.men mover.man found.0) in
    IsIn-kept both all m there (and_from _ _ legal r.1))
