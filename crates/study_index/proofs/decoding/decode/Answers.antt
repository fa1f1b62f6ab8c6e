use Rattle.std.proofs.Common.{◌≡◌, ℕ, ◌≤◌, Option, Some, None, IfSome, IfNone, refl, sym, arith}
use Rattle.study_board.specs.Position.{Position}
use Rattle.study_material.specs.declared.class.Class.{Class}
use Rattle.study_values.specs.Number.{cells_of}
use Rattle.study_index.specs.Decoded.{IsDecoded}
use Rattle.study_index.specs.Computed.{position_numbered}
use Rattle.study_index.proofs.ClassLaws.{below}
use Rattle.study_index.proofs.ComputedIndex.{numbered_of_decoded, decoded_of_numbered}
use Rattle.study_index.proofs.decoding.decode.Goals as goal

none_above : (c : Class) (n m : ℕ) → m ≡ cells_of c → m ≤ n → (q : Position) → IsDecoded c n q → ⊥
none_above c n m e l q d = (let b = below c n q d in omega arith)

as_function : (c : Class) (n : ℕ) (o : Option Position) → IfSome o (IsDecoded c n) → IfNone o ((q : Position) → IsDecoded c n q → ⊥) → o ≡ position_numbered c n
as_function c n (Some q) h k = sym (numbered_of_decoded c n q h)
as_function c n None h k = by_read (position_numbered c n) refl
  where
    by_read : (o : Option Position) → position_numbered c n ≡ o → None ≡ o
    by_read None e = refl
    by_read (Some q) e = absurd (k q (decoded_of_numbered c n q e))

pub returns-then-n-cells-clause-none : goal.returns-then-n-cells-clause-none
returns-then-n-cells-clause-none c = none_above c.args.class c.args.n _ c.cells.ensures c.if-n-cells.true

pub returns-then-n-cells-clause-value : goal.returns-then-n-cells-clause-value
returns-then-n-cells-clause-value c = as_function c.args.class c.args.n None tt (none_above c.args.class c.args.n _ c.cells.ensures c.if-n-cells.true)

pub returns-then-n-lt-EN_PASSANT_BIT-clause-value : goal.returns-then-n-lt-EN_PASSANT_BIT-clause-value
returns-then-n-lt-EN_PASSANT_BIT-clause-value c = as_function c.args.class c.args.n _ c.decode_plain.ensures.some c.decode_plain.ensures.none

pub returns-else-n-lt-EN_PASSANT_BIT-clause-value : goal.returns-else-n-lt-EN_PASSANT_BIT-clause-value
returns-else-n-lt-EN_PASSANT_BIT-clause-value c = as_function c.args.class c.args.n _ c.decode_en_passant.ensures.some c.decode_en_passant.ensures.none
