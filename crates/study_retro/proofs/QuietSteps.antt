-- The position after a quiet move: the other side to move, and no capture in passing.
use Rattle.std.proofs.Common.{◌≡◌, ℕ, ◌<◌, Bool, true, false, Option, Some, inl, inr}
use Rattle.std.proofs.Common.{refl, sym, ◌∙◌, ap, arith}
use Rattle.study_board.specs.Men.{other_side}
use Rattle.study_board.specs.Position.{Position, IsValid}
use Rattle.study_moves.specs.declared.moves.Move.{Move}
use Rattle.study_moves.specs.Rules.{is_legal, after}
use Rattle.study_moves.proofs.NoMoveBetween.{HasMover-from_is_legal}
use Rattle.study_values.specs.Number.{has_both_pawns}
use Rattle.study_index.proofs.LivePassing.{live_class}
use Rattle.study_material.specs.declared.class.Class.{Class}
use Rattle.study_material.specs.Class.{lists_of, IsOf}
use Rattle.study_moves.specs.EnPassant.{has_legal_en_passant, is_capturable_en_passant}
use Rattle.study_values.specs.Number.{with_bit, without_bit}
use Rattle.study_index.specs.Computed.{position_numbered}
use Rattle.study_index.proofs.ComputedIndex.{decoded_of_numbered}
use Rattle.study_index.proofs.WithBit.{HasParts-from}
use Rattle.study_retro.specs.Predecessors.{PassesNone}
use Rattle.study_retro.proofs.Jumps.{unjumped}
use Rattle.std.proofs.lemmas.Bool.{false≢true}

pub other_turn : (q : Position) (m : Move) → is_legal q m ≡ true → (after q m).to_move ≡ other_side q.to_move
unfolding after
other_turn q m legal = (let e = (HasMover-from_is_legal q m legal).here in rw e refl)

-- if only one side has a pawn no capture in passing is legal
pub dead_of : (c : Class) (p : Position) → IsValid p → IsOf c p → has_both_pawns (lists_of c) ≡ false → has_legal_en_passant p ≡ false
dead_of c p v o h = by_test (has_legal_en_passant p) refl
  where
    by_test : (b : Bool) → has_legal_en_passant p ≡ b → b ≡ false
    by_test false e = refl
    by_test true e = absurd (false≢true (sym h ∙ ap (λ l. has_both_pawns l) (live_class c p v o e)))

-- nor is one in the position of a number without the bit
pub dead_plain : (c : Class) (n : ℕ) (q : Position) → position_numbered c n ≡ Some q → n < 16777216 → has_legal_en_passant q ≡ false
dead_plain c n q at l = let d = decoded_of_numbered c n q at in by_live (has_legal_en_passant q) (HasParts-from q n d.valid d.index).is
  where
    by_live : (b : Bool) → n ≡ with_bit b (without_bit n) → b ≡ false
    by_live false e = refl
    by_live true e = absurd (omega (arith, e, l))

-- nor after a move that leaves none
pub dead_after : (c : Class) (p : Position) (m : Move) → IsValid (after p m) → IsOf c (after p m) → is_legal p m ≡ true → PassesNone c m.origin m.target
    → has_legal_en_passant (after p m) ≡ false
dead_after c p m v o legal (inl single) = dead_of c (after p m) v o single
dead_after c p m v o legal (inr step) = ap (λ (x : Option ℕ). is_capturable_en_passant (after p m) x) (unjumped p m legal step)
