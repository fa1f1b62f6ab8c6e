-- Bounds on the names and the cells of classes.
use Rattle.std.proofs.Common.{◌+◌, ◌*◌, ◌<◌, ◌≤◌, length, arith}
use Rattle.study_material.specs.declared.class.Class.{Class}
use Rattle.study_material.specs.declared.class.Class.TheVariants.{KK, KQK, KRK, KBK, KNK, KPK, KQQK, KQRK, KQBK}
use Rattle.study_material.specs.declared.class.Class.TheVariants.{KQNK, KQPK, KRRK, KRBK, KRNK, KRPK, KBBK}
use Rattle.study_material.specs.declared.class.Class.TheVariants.{KBNK, KBPK, KNNK, KNPK, KPPK, KQKQ, KQKR}
use Rattle.study_material.specs.declared.class.Class.TheVariants.{KQKB, KQKN, KQKP, KRKR, KRKB, KRKN, KRKP}
use Rattle.study_material.specs.declared.class.Class.TheVariants.{KBKB, KBKN, KBKP, KNKN, KNKP, KPKP}
use Rattle.study_material.specs.Class.{name_of}
use Rattle.study_values.specs.Number.{cells_of}
use Rattle.study_values.specs.Size.{pages_of}

pub short_name : (c : Class) → length (name_of c) ≤ 8
unfolding name_of
short_name KK = omega arith
short_name KQK = omega arith
short_name KRK = omega arith
short_name KBK = omega arith
short_name KNK = omega arith
short_name KPK = omega arith
short_name KQQK = omega arith
short_name KQRK = omega arith
short_name KQBK = omega arith
short_name KQNK = omega arith
short_name KQPK = omega arith
short_name KRRK = omega arith
short_name KRBK = omega arith
short_name KRNK = omega arith
short_name KRPK = omega arith
short_name KBBK = omega arith
short_name KBNK = omega arith
short_name KBPK = omega arith
short_name KNNK = omega arith
short_name KNPK = omega arith
short_name KPPK = omega arith
short_name KQKQ = omega arith
short_name KQKR = omega arith
short_name KQKB = omega arith
short_name KQKN = omega arith
short_name KQKP = omega arith
short_name KRKR = omega arith
short_name KRKB = omega arith
short_name KRKN = omega arith
short_name KRKP = omega arith
short_name KBKB = omega arith
short_name KBKN = omega arith
short_name KBKP = omega arith
short_name KNKN = omega arith
short_name KNKP = omega arith
short_name KPKP = omega arith

pub few_cells : (c : Class) → cells_of c ≤ 33554432
few_cells KK = omega arith
few_cells KQK = omega arith
few_cells KRK = omega arith
few_cells KBK = omega arith
few_cells KNK = omega arith
few_cells KPK = omega arith
few_cells KQQK = omega arith
few_cells KQRK = omega arith
few_cells KQBK = omega arith
few_cells KQNK = omega arith
few_cells KQPK = omega arith
few_cells KRRK = omega arith
few_cells KRBK = omega arith
few_cells KRNK = omega arith
few_cells KRPK = omega arith
few_cells KBBK = omega arith
few_cells KBNK = omega arith
few_cells KBPK = omega arith
few_cells KNNK = omega arith
few_cells KNPK = omega arith
few_cells KPPK = omega arith
few_cells KQKQ = omega arith
few_cells KQKR = omega arith
few_cells KQKB = omega arith
few_cells KQKN = omega arith
few_cells KQKP = omega arith
few_cells KRKR = omega arith
few_cells KRKB = omega arith
few_cells KRKN = omega arith
few_cells KRKP = omega arith
few_cells KBKB = omega arith
few_cells KBKN = omega arith
few_cells KBKP = omega arith
few_cells KNKN = omega arith
few_cells KNKP = omega arith
few_cells KPKP = omega arith

-- the pages of a class have room for its cells, and all except the last are full
pub pages_hold : (c : Class) → cells_of c ≤ 4096 * pages_of c
unfolding pages_of
pages_hold c = omega arith

pub pages_full : (c : Class) → 4096 * pages_of c < cells_of c + 4096
unfolding pages_of
pages_full c = omega arith

pub few_pages : (c : Class) → pages_of c ≤ 8192
few_pages c = let h = few_cells c in let g = pages_full c in omega arith
