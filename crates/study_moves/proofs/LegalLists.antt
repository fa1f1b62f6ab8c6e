-- The list of the legal moves.
use Rattle.std.proofs.Common.{◌≡◌, ℕ, ◌+◌, ◌*◌, ◌<◌, ◌≤◌, ◌==◌, zero, suc, Bool, true, false, inl, inr, List}
use Rattle.std.proofs.Common.{[], ◌∷◌, length, Option, Some, None, refl, sym, ap, ◌∙◌, arith, subst}
use Rattle.std.specs.Prelude.{◌↔◌, IsTrue}
use Rattle.std.specs.List.{All, AllPairs, Contains, flat_map, range_with_len}
use Rattle.std.proofs.lemmas.Bool.{false≢true, and_parts, and_from, cases_Bool, cases_lt, eqb-true, eq-eqb, false_from_ne_true}
use Rattle.study_board.specs.declared.men.Kind.{Kind}
use Rattle.study_board.specs.declared.men.Kind.TheVariants.{King, Queen, Rook, Bishop, Knight, Pawn}
use Rattle.study_board.specs.Position.{Position, IsValid, in_check}
use Rattle.study_moves.specs.declared.moves.Move.{Move}
use Rattle.study_moves.specs.Rules.{is_legal, is_promotion_choice, reaches_last_rank}
use Rattle.study_moves.specs.Order.{move_place, IsBefore}
use Rattle.study_moves.specs.Game.{IsMate, HasNoMove}
use Rattle.study_moves.proofs.MenOfList.{found_among, All-among}
use Rattle.study_moves.proofs.NoMoveBetween.{HasMover-from_is_legal}
use Rattle.study_moves.specs.LegalList.{moves_between, moves_from, all_moves, legal_list, is_mate}
use Rattle.study_moves.proofs.AscendingKeys.{IsIn, IsIn-left, IsIn-right, IsIn-filter, IsIn-kept}
use Rattle.study_moves.proofs.AscendingKeys.{IsIn-from_Contains, Contains-from_in, AscendsFrom}
use Rattle.study_moves.proofs.AscendingKeys.{Spans, AscendsFrom-spans, AscendsFrom-filter}
use Rattle.study_moves.proofs.AscendingKeys.{AscendsFrom-pairs, Spans-append, same_list}

-- the results of a range of numbers, one after another
spans_range : (f : ℕ → List Move) (c base : ℕ)
    → ((k : ℕ) → Spans move_place (base + c * k) (base + c * (k + 1)) (f k)) → (start n : ℕ)
    → Spans move_place (base + c * start) (base + c * (start + n)) (flat_map f (range_with_len start n))
spans_range f c base h start zero = let e : base + c * start ≤ base + c * (start + 0) = omega arith in e
spans_range f c base h start (suc n) =
    let e : base + c * (start + 1 + n) ≡ base + c * (start + suc n) = ap (λ k. base + c * k) (omega arith) in
    subst (λ hi. Spans move_place (base + c * start) hi (flat_map f (range_with_len start (suc n)))) e
    (Spans-append move_place (base + c * start) (base + c * (start + 1)) (base + c * (start + 1 + n)) (f start)
    (flat_map f (range_with_len (start + 1) n)) (h start) (spans_range f c base h (start + 1) n))

spans_between : (a x : ℕ) → Spans move_place (512 * a + 8 * x) (512 * a + 8 * (x + 1)) (moves_between a x)
spans_between a x = (omega arith, (omega arith, (omega arith, (omega arith, (omega arith, omega arith)))))

spans_from : (a : ℕ) → Spans move_place (0 + 512 * a) (0 + 512 * (a + 1)) (moves_from a)
spans_from a =
    let lo : 512 * a + 8 * 0 ≡ 0 + 512 * a = omega arith in
    let hi : 512 * a + 8 * (0 + 64) ≡ 0 + 512 * (a + 1) = omega arith in
    subst (λ l. Spans move_place l (0 + 512 * (a + 1)) (moves_from a)) lo
    (subst (λ u. Spans move_place (512 * a + 8 * 0) u (moves_from a)) hi
    (spans_range (moves_between a) 8 (512 * a) (spans_between a) 0 64))

pub AscendsFrom-all_moves : AscendsFrom move_place 0 all_moves
unfolding all_moves
AscendsFrom-all_moves =
    AscendsFrom-spans move_place (0 + 512 * 0) (0 + 512 * (0 + 64)) (flat_map moves_from (range_with_len 0 64))
    (spans_range moves_from 512 0 spans_from 0 64)

in_range : (f : ℕ → List Move) (m : Move) (start n k : ℕ) → start ≤ k → k < start + n → IsIn m (f k) → IsIn m (flat_map f (range_with_len start n))
in_range f m start zero k le lt i = absurd (omega arith)
in_range f m start (suc n) k le lt i = elim (cases_Bool (start == k)) [
  | inl e ↦ let same = eqb-true start k e in IsIn-left m (f start) _ (subst (λ j. IsIn m (f j)) (sym same) i)
  | inr ne ↦ IsIn-right m (f start) _ (in_range f m (start + 1) n k (apart ne) (omega arith) i)
]
  where
    apart : (start == k) ≡ false → start + 1 ≤ k
    apart ne = elim (cases_lt start k) [ inl lt ↦ omega arith | inr ge ↦ absurd (false≢true (sym ne ∙ eq-eqb start k (omega arith))) ]

in_between : (m : Move) (b : Bool) → is_promotion_choice b m.promoted ≡ true → IsIn m (moves_between m.origin m.target)
in_between m b e = go m.promoted e
  where
    made : Option Kind → Move
    made q = record { origin = m.origin; target = m.target; promoted = q }

    go : (q : Option Kind) → is_promotion_choice b q ≡ true → IsIn (made q) (moves_between m.origin m.target)
    go None e = inl refl
    go (Some Queen) e = inr (inl refl)
    go (Some Rook) e = inr (inr (inl refl))
    go (Some Bishop) e = inr (inr (inr (inl refl)))
    go (Some Knight) e = inr (inr (inr (inr (inl refl))))
    go (Some King) e = absurd (none b e)
      where
        none : (b : Bool) → is_promotion_choice b (Some King) ≡ true → ⊥
        none true e = false≢true e
        none false e = false≢true e
    go (Some Pawn) e = absurd (none b e)
      where
        none : (b : Bool) → is_promotion_choice b (Some Pawn) ≡ true → ⊥
        none true e = false≢true e
        none false e = false≢true e

pub in_all : (p : Position) (m : Move) → All (λ x. x.at < 64) p.men → is_legal p m ≡ true → IsIn m all_moves
unfolding all_moves
in_all p m board e =
    let h = HasMover-from_is_legal p m e in
    let found = found_among p.men m.origin h.man h.here in
    let on_board : h.man.at < 64 = All-among (λ x. x.at < 64) p.men h.man board found.0 in
    let origin : m.origin < 64 = subst (λ a. a < 64) found.1 on_board in
    in_range moves_from m 0 64 m.origin (omega arith) origin
    (in_range (moves_between m.origin) m 0 64 m.target (omega arith) h.moves.target
    (in_between m (reaches_last_rank h.man m.target) h.moves.choice))

pub in_legal : (p : Position) (m : Move) → IsValid p → is_legal p m ≡ true → IsIn m (legal_list p)
unfolding legal_list
in_legal p m valid e = IsIn-kept (is_legal p) all_moves m (in_all p m valid.on_board e) e

pub is_legal-in : (p : Position) (m : Move) → IsIn m (legal_list p) → is_legal p m ≡ true
unfolding legal_list
is_legal-in p m i = (IsIn-filter (is_legal p) all_moves m i).1

pub legal_list_exact : (p : Position) (m : Move) → IsValid p → Contains (legal_list p) m ↔ (is_legal p m ≡ true)
legal_list_exact p m valid = (λ c. is_legal-in p m (IsIn-from_Contains m (legal_list p) c), λ e. Contains-from_in m (legal_list p) (in_legal p m valid e))

pub AscendsFrom-legal_list : (p : Position) → AscendsFrom move_place 0 (legal_list p)
unfolding legal_list
AscendsFrom-legal_list p = AscendsFrom-filter move_place (is_legal p) 0 all_moves AscendsFrom-all_moves

-- an ordered list of exactly the legal moves is the list
pub legal_list_is : (p : Position) (xs : List Move) → IsValid p
    → ((m : Move) → Contains xs m ↔ (is_legal p m ≡ true)) → AllPairs IsBefore xs → xs ≡ legal_list p
legal_list_is p xs valid legal ordered =
    same_list move_place 0 0 xs (legal_list p) (AscendsFrom-pairs move_place 0 xs (λ k d lt. omega arith) ordered) (AscendsFrom-legal_list p)
    (λ m i. in_legal p m valid ((legal m).0 (Contains-from_in m xs i))) (λ m i. IsIn-from_Contains m xs ((legal m).1 (is_legal-in p m i)))

empty_or : (p : Position) (xs : List Move) → ((m : Move) → IsIn m xs → is_legal p m ≡ true)
    → ((m : Move) → is_legal p m ≡ true → IsIn m xs) → ((length xs == 0) ≡ true → HasNoMove p)
    × (HasNoMove p → (length xs == 0) ≡ true)
empty_or p [] out into = ((λ _ m e. into m e), λ _. refl)
empty_or p (x ∷ xs) out into = ((λ e. absurd (let n = eqb-true (suc (length xs)) 0 e in omega arith)), λ none. absurd (none x (out x (inl refl))))

pub is_mate_is : (p : Position) → IsValid p → (is_mate p ≡ true) ↔ IsMate p
unfolding is_mate
is_mate_is p valid =
    let none = empty_or p (legal_list p) (is_legal-in p) (λ m. in_legal p m valid) in
    ((λ e. let a = and_parts (in_check p.men p.to_move) (length (legal_list p) == 0) e in (a.0, none.0 a.1)), λ m. and_from _ _ m.0 (none.1 m.1))

-- a test for mate
pub mate_tested : (p : Position) (b : Bool) → IsValid p → IsTrue b ↔ IsMate p → b ≡ is_mate p
mate_tested p true valid h = sym ((is_mate_is p valid).1 (h.0 refl))
mate_tested p false valid h = sym (false_from_ne_true (is_mate p) (λ e. false≢true (h.1 ((is_mate_is p valid).0 e))))
