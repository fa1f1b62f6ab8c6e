-- The slots and the numbers of each class.
use Rattle.std.proofs.Common.{◌≡◌, ℕ, ◌/◌, ◌<◌, true, false, cond, not, ◌&&◌, [], ◌∷◌, nat_lt, List, refl, arith, lit<, lit≤}
use Rattle.std.proofs.lemmas.Bool.Decides.{nat_tests}
use Rattle.study_board.specs.declared.men.Side.{Side}
use Rattle.study_board.specs.declared.men.Side.TheVariants.{White, Black}
use Rattle.study_board.specs.declared.men.Kind.{Kind}
use Rattle.study_board.specs.declared.men.Kind.TheVariants.{King}
use Rattle.study_board.specs.Men.{same_side, same_kind}
use Rattle.study_material.specs.Lists.{of, put_kind, is_exchanged}
use Rattle.study_material.specs.Class.{lists_of}
use Rattle.study_index.specs.declared.decoding.Slot.{Slot}
use Rattle.study_material.specs.declared.class.Class.{Class}
use Rattle.study_material.specs.declared.class.Class.TheVariants.{KK, KQK, KRK, KBK, KNK, KPK, KQQK, KQRK, KQBK}
use Rattle.study_material.specs.declared.class.Class.TheVariants.{KQNK, KQPK, KRRK, KRBK, KRNK, KRPK, KBBK}
use Rattle.study_material.specs.declared.class.Class.TheVariants.{KBNK, KBPK, KNNK, KNPK, KPPK, KQKQ, KQKR}
use Rattle.study_material.specs.declared.class.Class.TheVariants.{KQKB, KQKN, KQKP, KRKR, KRKB, KRKN, KRKP}
use Rattle.study_material.specs.declared.class.Class.TheVariants.{KBKB, KBKN, KBKP, KNKN, KNKP, KPKP}
use Rattle.study_board.proofs.Coordinates.{bool_same}
use borrow.Author.Tests.{ltb-true}
use Rattle.study_values.specs.Number.{numbers_of, cells_of, without_bit}
use Rattle.study_index.specs.Decoded.{AreSlots, slots_of, is_cell}

pub AreSlots-class : (c : Class) → AreSlots (slots_of c)
AreSlots-class KK = (refl, refl)
AreSlots-class KQK = (refl, refl, lit< tt)
AreSlots-class KRK = (refl, refl, lit< tt)
AreSlots-class KBK = (refl, refl, lit< tt)
AreSlots-class KNK = (refl, refl, lit< tt)
AreSlots-class KPK = (refl, refl, lit< tt)
AreSlots-class KQQK = (refl, refl, lit< tt, lit≤ tt)
AreSlots-class KQRK = (refl, refl, lit< tt, lit≤ tt)
AreSlots-class KQBK = (refl, refl, lit< tt, lit≤ tt)
AreSlots-class KQNK = (refl, refl, lit< tt, lit≤ tt)
AreSlots-class KQPK = (refl, refl, lit< tt, lit≤ tt)
AreSlots-class KRRK = (refl, refl, lit< tt, lit≤ tt)
AreSlots-class KRBK = (refl, refl, lit< tt, lit≤ tt)
AreSlots-class KRNK = (refl, refl, lit< tt, lit≤ tt)
AreSlots-class KRPK = (refl, refl, lit< tt, lit≤ tt)
AreSlots-class KBBK = (refl, refl, lit< tt, lit≤ tt)
AreSlots-class KBNK = (refl, refl, lit< tt, lit≤ tt)
AreSlots-class KBPK = (refl, refl, lit< tt, lit≤ tt)
AreSlots-class KNNK = (refl, refl, lit< tt, lit≤ tt)
AreSlots-class KNPK = (refl, refl, lit< tt, lit≤ tt)
AreSlots-class KPPK = (refl, refl, lit< tt, lit≤ tt)
AreSlots-class KQKQ = (refl, refl, lit< tt, lit≤ tt)
AreSlots-class KQKR = (refl, refl, lit< tt, lit≤ tt)
AreSlots-class KQKB = (refl, refl, lit< tt, lit≤ tt)
AreSlots-class KQKN = (refl, refl, lit< tt, lit≤ tt)
AreSlots-class KQKP = (refl, refl, lit< tt, lit≤ tt)
AreSlots-class KRKR = (refl, refl, lit< tt, lit≤ tt)
AreSlots-class KRKB = (refl, refl, lit< tt, lit≤ tt)
AreSlots-class KRKN = (refl, refl, lit< tt, lit≤ tt)
AreSlots-class KRKP = (refl, refl, lit< tt, lit≤ tt)
AreSlots-class KBKB = (refl, refl, lit< tt, lit≤ tt)
AreSlots-class KBKN = (refl, refl, lit< tt, lit≤ tt)
AreSlots-class KBKP = (refl, refl, lit< tt, lit≤ tt)
AreSlots-class KNKN = (refl, refl, lit< tt, lit≤ tt)
AreSlots-class KNKP = (refl, refl, lit< tt, lit≤ tt)
AreSlots-class KPKP = (refl, refl, lit< tt, lit≤ tt)

below : (n m : ℕ) → n < m → nat_lt n m ≡ true
below n m l = grind (arith, nat_tests)

same_test : (a b m n : ℕ) → (a < m → b < n) → (b < n → a < m) → nat_lt a m ≡ nat_lt b n
same_test a b m n to from = bool_same (nat_lt a m) (nat_lt b n) (λ e. below b n (to (ltb-true a m e))) (λ e. below a m (from (ltb-true b n e)))

-- a number of a class encodes a side to move
pub is_cell-below : (c : Class) (n : ℕ) → is_cell (slots_of c) n ≡ nat_lt n (numbers_of c)
is_cell-below KK n = same_test (n / 64 / 10) n 2 1280 (λ l. omega arith) (λ l. omega arith)
is_cell-below KQK n = same_test (n / 64 / 64 / 10) n 2 81920 (λ l. omega arith) (λ l. omega arith)
is_cell-below KRK n = same_test (n / 64 / 64 / 10) n 2 81920 (λ l. omega arith) (λ l. omega arith)
is_cell-below KBK n = same_test (n / 64 / 64 / 10) n 2 81920 (λ l. omega arith) (λ l. omega arith)
is_cell-below KNK n = same_test (n / 64 / 64 / 10) n 2 81920 (λ l. omega arith) (λ l. omega arith)
is_cell-below KPK n = same_test (n / 64 / 64 / 32) n 2 262144 (λ l. omega arith) (λ l. omega arith)
is_cell-below KQQK n = same_test (n / 64 / 64 / 64 / 10) n 2 5242880 (λ l. omega arith) (λ l. omega arith)
is_cell-below KQRK n = same_test (n / 64 / 64 / 64 / 10) n 2 5242880 (λ l. omega arith) (λ l. omega arith)
is_cell-below KQBK n = same_test (n / 64 / 64 / 64 / 10) n 2 5242880 (λ l. omega arith) (λ l. omega arith)
is_cell-below KQNK n = same_test (n / 64 / 64 / 64 / 10) n 2 5242880 (λ l. omega arith) (λ l. omega arith)
is_cell-below KQPK n = same_test (n / 64 / 64 / 64 / 32) n 2 16777216 (λ l. omega arith) (λ l. omega arith)
is_cell-below KRRK n = same_test (n / 64 / 64 / 64 / 10) n 2 5242880 (λ l. omega arith) (λ l. omega arith)
is_cell-below KRBK n = same_test (n / 64 / 64 / 64 / 10) n 2 5242880 (λ l. omega arith) (λ l. omega arith)
is_cell-below KRNK n = same_test (n / 64 / 64 / 64 / 10) n 2 5242880 (λ l. omega arith) (λ l. omega arith)
is_cell-below KRPK n = same_test (n / 64 / 64 / 64 / 32) n 2 16777216 (λ l. omega arith) (λ l. omega arith)
is_cell-below KBBK n = same_test (n / 64 / 64 / 64 / 10) n 2 5242880 (λ l. omega arith) (λ l. omega arith)
is_cell-below KBNK n = same_test (n / 64 / 64 / 64 / 10) n 2 5242880 (λ l. omega arith) (λ l. omega arith)
is_cell-below KBPK n = same_test (n / 64 / 64 / 64 / 32) n 2 16777216 (λ l. omega arith) (λ l. omega arith)
is_cell-below KNNK n = same_test (n / 64 / 64 / 64 / 10) n 2 5242880 (λ l. omega arith) (λ l. omega arith)
is_cell-below KNPK n = same_test (n / 64 / 64 / 64 / 32) n 2 16777216 (λ l. omega arith) (λ l. omega arith)
is_cell-below KPPK n = same_test (n / 64 / 64 / 64 / 32) n 2 16777216 (λ l. omega arith) (λ l. omega arith)
is_cell-below KQKQ n = same_test (n / 64 / 64 / 64 / 10) n 2 5242880 (λ l. omega arith) (λ l. omega arith)
is_cell-below KQKR n = same_test (n / 64 / 64 / 64 / 10) n 2 5242880 (λ l. omega arith) (λ l. omega arith)
is_cell-below KQKB n = same_test (n / 64 / 64 / 64 / 10) n 2 5242880 (λ l. omega arith) (λ l. omega arith)
is_cell-below KQKN n = same_test (n / 64 / 64 / 64 / 10) n 2 5242880 (λ l. omega arith) (λ l. omega arith)
is_cell-below KQKP n = same_test (n / 64 / 64 / 64 / 32) n 2 16777216 (λ l. omega arith) (λ l. omega arith)
is_cell-below KRKR n = same_test (n / 64 / 64 / 64 / 10) n 2 5242880 (λ l. omega arith) (λ l. omega arith)
is_cell-below KRKB n = same_test (n / 64 / 64 / 64 / 10) n 2 5242880 (λ l. omega arith) (λ l. omega arith)
is_cell-below KRKN n = same_test (n / 64 / 64 / 64 / 10) n 2 5242880 (λ l. omega arith) (λ l. omega arith)
is_cell-below KRKP n = same_test (n / 64 / 64 / 64 / 32) n 2 16777216 (λ l. omega arith) (λ l. omega arith)
is_cell-below KBKB n = same_test (n / 64 / 64 / 64 / 10) n 2 5242880 (λ l. omega arith) (λ l. omega arith)
is_cell-below KBKN n = same_test (n / 64 / 64 / 64 / 10) n 2 5242880 (λ l. omega arith) (λ l. omega arith)
is_cell-below KBKP n = same_test (n / 64 / 64 / 64 / 32) n 2 16777216 (λ l. omega arith) (λ l. omega arith)
is_cell-below KNKN n = same_test (n / 64 / 64 / 64 / 10) n 2 5242880 (λ l. omega arith) (λ l. omega arith)
is_cell-below KNKP n = same_test (n / 64 / 64 / 64 / 32) n 2 16777216 (λ l. omega arith) (λ l. omega arith)
is_cell-below KPKP n = same_test (n / 64 / 64 / 64 / 32) n 2 16777216 (λ l. omega arith) (λ l. omega arith)

-- a cell without its bit is a number
pub number_below : (c : Class) (n : ℕ) → n < cells_of c → without_bit n < numbers_of c
number_below KK n l = omega arith
number_below KQK n l = omega arith
number_below KRK n l = omega arith
number_below KBK n l = omega arith
number_below KNK n l = omega arith
number_below KPK n l = omega arith
number_below KQQK n l = omega arith
number_below KQRK n l = omega arith
number_below KQBK n l = omega arith
number_below KQNK n l = omega arith
number_below KQPK n l = omega arith
number_below KRRK n l = omega arith
number_below KRBK n l = omega arith
number_below KRNK n l = omega arith
number_below KRPK n l = omega arith
number_below KBBK n l = omega arith
number_below KBNK n l = omega arith
number_below KBPK n l = omega arith
number_below KNNK n l = omega arith
number_below KNPK n l = omega arith
number_below KPPK n l = omega arith
number_below KQKQ n l = omega arith
number_below KQKR n l = omega arith
number_below KQKB n l = omega arith
number_below KQKN n l = omega arith
number_below KQKP n l = omega arith
number_below KRKR n l = omega arith
number_below KRKB n l = omega arith
number_below KRKN n l = omega arith
number_below KRKP n l = omega arith
number_below KBKB n l = omega arith
number_below KBKN n l = omega arith
number_below KBKP n l = omega arith
number_below KNKN n l = omega arith
number_below KNKP n l = omega arith
number_below KPKP n l = omega arith

pub few_cells : (c : Class) (n : ℕ) → n < cells_of c → n < 33554432
few_cells KK n l = omega arith
few_cells KQK n l = omega arith
few_cells KRK n l = omega arith
few_cells KBK n l = omega arith
few_cells KNK n l = omega arith
few_cells KPK n l = omega arith
few_cells KQQK n l = omega arith
few_cells KQRK n l = omega arith
few_cells KQBK n l = omega arith
few_cells KQNK n l = omega arith
few_cells KQPK n l = omega arith
few_cells KRRK n l = omega arith
few_cells KRBK n l = omega arith
few_cells KRNK n l = omega arith
few_cells KRPK n l = omega arith
few_cells KBBK n l = omega arith
few_cells KBNK n l = omega arith
few_cells KBPK n l = omega arith
few_cells KNNK n l = omega arith
few_cells KNPK n l = omega arith
few_cells KPPK n l = omega arith
few_cells KQKQ n l = omega arith
few_cells KQKR n l = omega arith
few_cells KQKB n l = omega arith
few_cells KQKN n l = omega arith
few_cells KQKP n l = omega arith
few_cells KRKR n l = omega arith
few_cells KRKB n l = omega arith
few_cells KRKN n l = omega arith
few_cells KRKP n l = omega arith
few_cells KBKB n l = omega arith
few_cells KBKN n l = omega arith
few_cells KBKP n l = omega arith
few_cells KNKN n l = omega arith
few_cells KNKP n l = omega arith
few_cells KPKP n l = omega arith

-- the kinds of a side's slots without the king's, in list order
abbrev pub kinds_in : Side → List Slot → List Kind
kinds_in side [] = []
kinds_in side (s ∷ ss) = cond (same_side s.side side && not (same_kind s.kind King)) (put_kind s.kind (kinds_in side ss)) (kinds_in side ss)

pub kinds_in-class : (c : Class) → of (kinds_in White (slots_of c)) (kinds_in Black (slots_of c)) ≡ lists_of c
kinds_in-class KK = refl
kinds_in-class KQK = refl
kinds_in-class KRK = refl
kinds_in-class KBK = refl
kinds_in-class KNK = refl
kinds_in-class KPK = refl
kinds_in-class KQQK = refl
kinds_in-class KQRK = refl
kinds_in-class KQBK = refl
kinds_in-class KQNK = refl
kinds_in-class KQPK = refl
kinds_in-class KRRK = refl
kinds_in-class KRBK = refl
kinds_in-class KRNK = refl
kinds_in-class KRPK = refl
kinds_in-class KBBK = refl
kinds_in-class KBNK = refl
kinds_in-class KBPK = refl
kinds_in-class KNNK = refl
kinds_in-class KNPK = refl
kinds_in-class KPPK = refl
kinds_in-class KQKQ = refl
kinds_in-class KQKR = refl
kinds_in-class KQKB = refl
kinds_in-class KQKN = refl
kinds_in-class KQKP = refl
kinds_in-class KRKR = refl
kinds_in-class KRKB = refl
kinds_in-class KRKN = refl
kinds_in-class KRKP = refl
kinds_in-class KBKB = refl
kinds_in-class KBKN = refl
kinds_in-class KBKP = refl
kinds_in-class KNKN = refl
kinds_in-class KNKP = refl
kinds_in-class KPKP = refl

pub class_in_order : (c : Class) → is_exchanged (lists_of c) ≡ false
class_in_order KK = refl
class_in_order KQK = refl
class_in_order KRK = refl
class_in_order KBK = refl
class_in_order KNK = refl
class_in_order KPK = refl
class_in_order KQQK = refl
class_in_order KQRK = refl
class_in_order KQBK = refl
class_in_order KQNK = refl
class_in_order KQPK = refl
class_in_order KRRK = refl
class_in_order KRBK = refl
class_in_order KRNK = refl
class_in_order KRPK = refl
class_in_order KBBK = refl
class_in_order KBNK = refl
class_in_order KBPK = refl
class_in_order KNNK = refl
class_in_order KNPK = refl
class_in_order KPPK = refl
class_in_order KQKQ = refl
class_in_order KQKR = refl
class_in_order KQKB = refl
class_in_order KQKN = refl
class_in_order KQKP = refl
class_in_order KRKR = refl
class_in_order KRKB = refl
class_in_order KRKN = refl
class_in_order KRKP = refl
class_in_order KBKB = refl
class_in_order KBKN = refl
class_in_order KBKP = refl
class_in_order KNKN = refl
class_in_order KNKP = refl
class_in_order KPKP = refl
