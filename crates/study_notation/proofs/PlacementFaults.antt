-- The faults of men that are placed.
use Rattle.std.proofs.Common.{◌≡◌, ◌==◌, subst, reverse, ℕ, ◌+◌, ◌<◌, Bool, true, false, not, cond, ◌&&◌, nat_lt}
use Rattle.std.proofs.Common.{List, [], ◌∷◌, length, Option, Some, None, refl, sym, ◌∙◌, arith, inl, inr}
use Rattle.std.specs.List.{flat_map, slice_split, list_any}
use Rattle.std.specs.List.Sorted.{IsPermutation}
use Rattle.std.proofs.lemmas.List.Sorted.{list_any-IsPermutation, IsPermutation-sym}
use Rattle.std.specs.Prelude.{Result, Ok, Err, IfOk, IfErr}
use Rattle.std.specs.Result.{result_ok}
use Rattle.study_board.specs.declared.fault.PositionFault.TheVariants.{EnPassantImpossible}
use Rattle.study_board.specs.Equal.{same_man}
use Rattle.study_board.specs.EqualLaws.{same_man-equal, same_position-self}
use Rattle.study_moves.proofs.AscendingKeys.{IsIn, AscendsFrom, list_any-in, some_in, same_list}
use Rattle.std.proofs.lemmas.Bool.{cases_Bool, and_parts}
use Rattle.study_board.specs.declared.men.Man.{Man}
use Rattle.study_board.specs.declared.men.Side.{Side}
use Rattle.study_board.specs.declared.men.Side.TheVariants.{White, Black}
use Rattle.study_board.specs.declared.fault.PositionFault.{PositionFault}
use Rattle.study_board.specs.Position.{Position, IsValid, passed_possible, AllAbove, IsAscending, has_one_king, has_end_pawn, in_check, first_fault}
use Rattle.study_board.specs.Men.{other_side}
use Rattle.study_moves.proofs.MenOfList.{has_square_twice-ascending}
use Rattle.study_notation.specs.declared.placement.Piece.{Piece}
use Rattle.study_notation.specs.declared.fault.FenFault.{FenFault}
use Rattle.study_notation.specs.Fen.{placement, placement_fault, fen_fault_of_men, position_of, men_from, squares}

AllAbove-men_from : (k n : ℕ) (cells : List (Option Piece)) → k < n → AllAbove k (men_from n cells)
AllAbove-men_from k n [] lt = tt
AllAbove-men_from k n (None ∷ cells) lt = AllAbove-men_from k (n + 1) cells (omega arith)
AllAbove-men_from k n (Some p ∷ cells) lt = (lt, AllAbove-men_from k (n + 1) cells (omega arith))

pub IsAscending-men_from : (n : ℕ) (cells : List (Option Piece)) → IsAscending (men_from n cells)
IsAscending-men_from n [] = tt
IsAscending-men_from n (None ∷ cells) = IsAscending-men_from (n + 1) cells
IsAscending-men_from n (Some p ∷ cells) = (AllAbove-men_from n (n + 1) cells (omega arith), IsAscending-men_from (n + 1) cells)

some_where : {A : Type 0} (b : Bool) (x y : A) → cond b (Some x) None ≡ Some y → x ≡ y
some_where true x y e = cc
some_where false x y e = absurd (let no : ⊥ = cc in no)

pub IsAscending-placement : (text : List ℕ) (men : List Man) → placement text ≡ Some men → IsAscending men
unfolding placement
IsAscending-placement text men e =
    subst (λ (ms : List Man). IsAscending ms) (some_where _ _ _ e) (IsAscending-men_from 0 (flat_map squares (reverse (slice_split (λ b. b == 47) text))))

abbrev pub reported : Option PositionFault → Option FenFault
reported None = None
reported (Some fault) = fen_fault_of_men fault

pub placement_fault-reported : (men : List Man) → IsAscending men → placement_fault men ≡ reported (first_fault men White None)
unfolding placement_fault first_fault
placement_fault-reported men h =
    elim (cases_Bool (nat_lt 4 (length men))) [
      | inl many ↦ rw many refl
      | inr few ↦ rw (few, has_square_twice-ascending men h) (elim (cases_Bool (not (has_one_king men White && has_one_king men Black))) [
        | inl wrong ↦ rw wrong refl
        | inr right ↦ rw right (elim (cases_Bool (has_end_pawn men)) [
          | inl end ↦ rw end refl
          | inr inside ↦ rw inside (elim (cases_Bool (in_check men (other_side White))) [ inl c ↦ rw c refl | inr s ↦ rw s refl ])
        ])
      ])
    ]

AscendsFrom-above : (n : ℕ) (xs : List Man) → AllAbove n xs → IsAscending xs → AscendsFrom (λ m. m.at) (n + 1) xs
AscendsFrom-above n [] above h = tt
AscendsFrom-above n (x ∷ xs) above h = (let lt = above.0 in omega arith, AscendsFrom-above x.at xs h.0 h.1)

AscendsFrom-ascending : (xs : List Man) → IsAscending xs → AscendsFrom (λ m. m.at) 0 xs
AscendsFrom-ascending [] h = tt
AscendsFrom-ascending (x ∷ xs) h = (omega arith, AscendsFrom-above x.at xs h.0 h.1)

same_man-self : (m : Man) → same_man m m ≡ true
same_man-self m = let e = same_position-self (record { men = m ∷ []; to_move = White; passed = None }) in
    (and_parts (same_man m m) true ((and_parts _ true ((and_parts _ true e).0)).0)).0

in_permuted : (xs ys : List Man) → IsPermutation xs ys → (m : Man) → IsIn m xs → IsIn m ys
in_permuted xs ys same m i =
    let hit : list_any (same_man m) ys ≡ true = sym (list_any-IsPermutation (same_man m) xs ys same) ∙ list_any-in (same_man m) xs m i (same_man-self m) in
    let r = some_in (same_man m) ys hit in
    subst (λ z. IsIn z ys) (sym (same_man-equal m r.0 r.2)) r.1

-- two lists of the same men in order are equal
pub ascending_same : (xs ys : List Man) → IsAscending xs → IsAscending ys → IsPermutation xs ys → xs ≡ ys
ascending_same xs ys h k same =
    same_list (λ m. m.at) 0 0 xs ys (AscendsFrom-ascending xs h) (AscendsFrom-ascending ys k)
    (in_permuted xs ys same) (in_permuted ys xs (IsPermutation-sym xs ys same))

not_reported : {F : Type 0} (b : Bool) (f : F) (r : Option F) → cond b (Some f) r ≡ None → (b ≡ false) × (r ≡ None)
not_reported true f r e = cc
not_reported false f r e = (refl, e)

-- men without a fault of their own, a side to move and a passed square
pub faultless_but_passed : (men : List Man) (s : Side) (q : Option ℕ) → IsAscending men → placement_fault men ≡ None → in_check men (other_side s) ≡ false
    → first_fault men s q ≡ cond (not (passed_possible men s q)) (Some EnPassantImpossible) None
unfolding placement_fault first_fault
faultless_but_passed men s q h none safe =
    let a = not_reported _ _ _ none in
    let b = not_reported _ _ _ a.1 in
    let c = not_reported _ _ _ b.1 in
    let few : nat_lt 4 (length men) ≡ false = a.0 in
    let kings : not (has_one_king men White && has_one_king men Black) ≡ false = b.0 in
    let pawns : has_end_pawn men ≡ false = c.0 in
    rw (few, has_square_twice-ascending men h, kings, pawns, safe) refl

pub position_decoded : (men : List Man) (s : Side) (q : Option ℕ) (r : Result Position PositionFault) → IsAscending men
    → placement_fault men ≡ None → in_check men (other_side s) ≡ false
    → IfErr r (λ e. first_fault men s q ≡ Some e) → IfOk r (λ p. IsPermutation men p.men)
    → IfOk r (λ p. p.to_move ≡ s) → IfOk r (λ p. p.passed ≡ q) → IfOk r (λ p. IsValid p)
    → result_ok r ≡ position_of men s q
unfolding position_of
position_decoded men s q (Ok p) h none safe fault same side passed valid =
    let e = ascending_same men p.men h valid.ordered same in
    let w : first_fault p.men p.to_move p.passed ≡ None = valid.faultless in
    let v : first_fault men s q ≡ None = rw (e, ← side, ← passed) w in
    let possible : passed_possible men s q ≡ true = elim (cases_Bool (passed_possible men s q)) [
      | inl t ↦ t
      | inr f ↦ let reported : first_fault men s q ≡ Some EnPassantImpossible =
          faultless_but_passed men s q h none safe ∙ rw f refl in absurd (let no : ⊥ = cc in no)
    ] in
    let made : Some p ≡ Some (record { men = men; to_move = s; passed = q }) = rw (e, ← side, ← passed) refl in
    rw possible made
position_decoded men s q (Err f) h none safe fault same side passed valid = elim (cases_Bool (passed_possible men s q)) [
  | inl t ↦ let reported : first_fault men s q ≡ None = faultless_but_passed men s q h none safe ∙ rw t refl in absurd (let no : ⊥ = cc in no)
  | inr n ↦ rw n refl
]
