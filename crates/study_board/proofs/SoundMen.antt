-- Men without a fault, put in order, are a sound position; and a valid position is a sound one of at most four men.
use Rattle.std.proofs.Common.{◌≡◌, ℕ, ◌<◌, Bool, true, false, not, cond, ◌&&◌, List, length, nat_lt, Option, Some, None, refl, sym, ◌∙◌}
use Rattle.std.specs.List.{All}
use Rattle.std.specs.List.Sorted.{IsPermutation}
use Rattle.study_board.specs.declared.men.Man.{Man}
use Rattle.study_board.specs.declared.men.Side.{Side}
use Rattle.study_board.specs.declared.men.Side.TheVariants.{White, Black}
use Rattle.study_board.specs.declared.fault.PositionFault.{PositionFault}
use Rattle.study_board.specs.Men.{other_side}
use Rattle.study_board.specs.Position.{Position, IsValid, in_order, has_square_twice, has_one_king, has_end_pawn, in_check, passed_possible}
use Rattle.study_board.specs.Sound.{IsSound, fault_among}
use Rattle.study_board.proofs.Lists.{not_false}
use Rattle.study_board.proofs.MenInOrder.{IsPermutation-in_order, IsSortedByAt-in_order}
use Rattle.study_board.proofs.Faults.{has_square_twice_same, has_one_king_same, has_end_pawn_same, in_check_same, passed_possible_same}
use Rattle.study_board.proofs.Valid.{IsFaultless, IsFaultless-from_first, first_fault-from_IsFaultless, IsAscending-from_sorted}

pub IsSound-from_IsValid : (p : Position) → IsValid p → IsSound p
IsSound-from_IsValid p v =
    let f = IsFaultless-from_first p.men p.to_move p.passed v.faultless in
    record {
      ordered = v.ordered;
      on_board = v.on_board;
      once = f.once;
      kings = f.kings;
      pawns = f.pawns;
      safe = f.safe;
      possible = f.possible;
    }

pub IsValid-from_IsSound : (p : Position) → IsSound p → nat_lt 4 (length p.men) ≡ false → IsValid p
IsValid-from_IsSound p s few = record {
  ordered = s.ordered;
  on_board = s.on_board;
  faultless = first_fault-from_IsFaultless p.men p.to_move p.passed
      (record { few = few; once = s.once; kings = s.kings; pawns = s.pawns; safe = s.safe; possible = s.possible });
}

past : (b : Bool) (f : PositionFault) (r : Option PositionFault) → cond b (Some f) r ≡ None → (b ≡ false) × (r ≡ None)
past true f r e = cc
past false f r e = (refl, e)

pub sound_in_order : (xs : List Man) (s : Side) (q : Option ℕ) → All (λ m. m.at < 64) (in_order xs)
    → fault_among xs s q ≡ None → IsSound (record { men = in_order xs; to_move = s; passed = q })
unfolding fault_among
sound_in_order xs s q all e =
    let b = past _ _ _ e in
    let c = past _ _ _ b.1 in
    let d = past _ _ _ c.1 in
    let f = past _ _ _ d.1 in
    let g = past _ _ _ f.1 in
    let same = IsPermutation-in_order xs in
    let once : has_square_twice (in_order xs) ≡ false = sym (has_square_twice_same xs (in_order xs) same) ∙ b.0 in
    record {
      ordered = IsAscending-from_sorted (in_order xs) (IsSortedByAt-in_order xs) once;
      on_board = all;
      once = once;
      kings = rw (← has_one_king_same xs (in_order xs) same White, ← has_one_king_same xs (in_order xs) same Black) (not_false _ c.0);
      pawns = sym (has_end_pawn_same xs (in_order xs) same) ∙ d.0;
      safe = sym (in_check_same xs (in_order xs) same (other_side s)) ∙ f.0;
      possible = sym (passed_possible_same xs (in_order xs) same s q) ∙ not_false _ g.0;
    }
