-- Right tables of chess are right cells of its classes.
use Rattle.std.proofs.Common.{◌≡◌, ℕ, ◌<◌, ◌⊎◌, inl, inr, arith, length, get_or, List, slice_index, Option, Some, None, sym, ◌∙◌, subst, ap}
use Rattle.std.specs.Prelude.{replicate}
use Rattle.std.specs.List.{Contains}
use Rattle.std.proofs.lemmas.Bool.{false≢true}
use Rattle.study_board.specs.Position.{Position, IsValid}
use Rattle.study_moves.specs.Game.{IsMate}
use Rattle.study_moves.specs.Alike.{Leads}
use Rattle.study_material.specs.declared.class.Class.{Class}
use Rattle.study_material.specs.Class.{IsOf}
use Rattle.study_material.specs.Needs.{LeadsOn, needs_of}
use Rattle.study_values.specs.Number.{IsIndex, cells_of}
use Rattle.study_index.proofs.ComputedIndex.{index_of-only}
use Rattle.study_index.specs.Computed.{position_numbered}
use Rattle.study_values.specs.Index.{index_of}
use Rattle.study_index.specs.Laws.{AreAlikeIn}
use Rattle.study_values.specs.declared.value.Value.{Value}
use Rattle.study_table.specs.Forced.{IsGame}
use Rattle.study_values.specs.Cells.{value_of}
use Rattle.study_table.specs.Right.{IsRightCell, AreRight, IsRightOutside, HasFar}
use Rattle.study_table.specs.Table.{Table, IsComplete, table_of, IsReady, IsClosed}
use Rattle.study_material.specs.Class.{is_of}
use Rattle.study_material.proofs.Classes.{IsOf-is_of, is_of-IsOf}
use Rattle.study_table.specs.Game.{value_in}
use Rattle.study_values.specs.Game.{IsValueOf}
use Rattle.study_table.specs.Sound.{TellsValue, IsRight, NeedsAreRight, HasFarPosition}
use Rattle.study_table.proofs.GameValues.{IsGame-from_value, IsValueOf-from_game}
use Rattle.study_table.proofs.AlongLemmas.{IsGame-along}
use Rattle.study_table.proofs.ClassLemmas.{image_keeps}
use Rattle.study_table.proofs.ChessClass.{chess_class, value_in-held}
use Rattle.study_table.proofs.SetLemmas.{some-is, empty-closed}

cell-from_value : (o : Option Position) (c : ℕ) → TellsValue o c → IsRightCell Leads IsMate o c
cell-from_value None c h = h
cell-from_value (Some p) c h = IsGame-from_value p (value_of c) h

value-from_cell : (o : Option Position) (c : ℕ) → IsRightCell Leads IsMate o c → TellsValue o c
value-from_cell None c h = h
value-from_cell (Some p) c h = IsValueOf-from_game p (value_of c) h

pub AreRight-from : (t : Table) → IsRight t → AreRight Leads IsMate (position_numbered t.class) (cells_of t.class) t.cells
AreRight-from t r n l = cell-from_value (position_numbered t.class n) (slice_index t.cells n) (r.tells n l)

pub IsRight-from : (t : Table) → AreRight Leads IsMate (position_numbered t.class) (cells_of t.class) t.cells → IsRight t
IsRight-from t r = record { tells = λ n l. value-from_cell (position_numbered t.class n) (slice_index t.cells n) (r n l) }

-- a right table has the game's value of each position of its class
pub at_right : (t : Table) → IsComplete t → IsRight t → (p : Position) → IsValid p → IsOf t.class p → IsValueOf p (value_of (slice_index t.cells (index_of p)))
at_right t complete right p valid of_class =
    let c = t.class in
    let laws = chess_class c (replicate 36 None) empty-closed in
    let v = value_of (slice_index t.cells (index_of p)) in
    let n = laws.numbered p (record { valid = valid; of_class = inl of_class }) (is_of-IsOf c p of_class) in
    let small = laws.below (index_of p) n.0 n.1 in
    let tells : IsValueOf n.0 v = subst (λ (o : Option Position). TellsValue o (slice_index t.cells (index_of p))) n.1 (right.tells (index_of p) small) in
    IsValueOf-from_game p v (IsGame-along Leads IsMate (AreAlikeIn c) (image_keeps laws t.cells) n.0 p v n.2 (IsGame-from_value n.0 v tells))

-- the values of right tables, for the positions that a class leads to, are right
pub outside_right : (held : List (Option Table)) (c : Class) → IsClosed held → IsReady held c → NeedsAreRight held c
    → IsRightOutside Leads IsMate (λ p. LeadsOn c p) (is_of c) (value_in held)
outside_right held c closed ready needs p known away = by_class known.of_class
  where
    from_need : (d : Class) → Contains (needs_of c) d → IsOf d p → (t : Table) → table_of held d ≡ Some t → IsGame Leads IsMate p (value_in held p)
    from_need d n o t e =
        let same : d ≡ t.class = sym (closed.class d t e) in
        let value = at_right t (closed.complete d t e) (needs.right d t n e) p known.valid (subst (λ (x : Class). IsOf x p) same o) in
        IsGame-from_value p (value_in held p) (subst (λ (v : Value). IsValueOf p v) (sym (value_in-held held d t p o e)) value)

    by_class : IsOf c p ⊎ ((d : Class) × Contains (needs_of c) d × IsOf d p) → IsGame Leads IsMate p (value_in held p)
    by_class (inl o) = absurd (false≢true (sym away ∙ is_of-IsOf c p o))
    by_class (inr h) = let t = some-is (table_of held h.0) (ready h.0 h.1) in from_need h.0 h.1 h.2 t.0 t.1

pub far-from : (c : Class) → HasFar Leads IsMate (λ p. LeadsOn c p) (is_of c) → HasFarPosition c
far-from c h = (h.0, (h.3.0, record { valid = h.1.valid; of_class = IsOf-is_of c h.0 h.2; value = IsValueOf-from_game h.0 h.3.0 h.3.1; far = h.3.2 }))

-- the index of a position is below the number of its table's cells
pub cell_in_bounds : (t : Table) (p : Position) (n : ℕ) → IsComplete t → IsValid p → IsOf t.class p → IsIndex p n → n < length t.cells
cell_in_bounds t p n complete valid of_class is =
    let laws = chess_class t.class (replicate 36 None) empty-closed in
    let h = laws.numbered p (record { valid = valid; of_class = inl of_class }) (is_of-IsOf t.class p of_class) in
    let small = laws.below (index_of p) h.0 h.1 in
    let same : n ≡ index_of p = index_of-only p n valid is in
    omega (arith, complete.size)

-- the value of a table at a position
pub value_of_cells : (t u : Table) (p : Position) (n : ℕ) (cells : List ℕ) (v : Value) → t ≡ u → IsValid p → IsIndex p n
    → cells ≡ t.cells → v ≡ value_of (get_or cells n 0) → v ≡ value_of (slice_index u.cells (index_of p))
value_of_cells t u p n cells v e valid is s w =
    w ∙ ap (λ (xs : List ℕ). value_of (slice_index xs n)) (s ∙ ap (λ (x : Table). x.cells) e)
    ∙ ap (λ (m : ℕ). value_of (slice_index u.cells m)) (index_of-only p n valid is)

pub at_value : (u : Table) (p : Position) (v : Value) → IsComplete u → IsValid p → IsOf u.class p
    → v ≡ value_of (slice_index u.cells (index_of p)) → IsRight u → IsValueOf p v
at_value u p v complete valid of_class e right = subst (λ (x : Value). IsValueOf p x) (sym e) (at_right u complete right p valid of_class)

-- if right cells encode the game's values, a table with them is right
pub table_right : (t : Table) (c : Class) (cells : List ℕ) → c ≡ t.class → cells ≡ t.cells
    → AreRight Leads IsMate (position_numbered c) (cells_of c) cells → IsRight t
table_right t c cells e f h =
    IsRight-from t (subst (λ (xs : List ℕ). AreRight Leads IsMate (position_numbered t.class) (cells_of t.class) xs) f
    (subst (λ (d : Class). AreRight Leads IsMate (position_numbered d) (cells_of d) cells) e h))

pub right_cells : (t : Table) (c : Class) (cells : List ℕ) → c ≡ t.class → cells ≡ t.cells → IsRight t
    → AreRight Leads IsMate (position_numbered c) (cells_of c) cells
right_cells t c cells e f h =
    subst (λ (xs : List ℕ). AreRight Leads IsMate (position_numbered c) (cells_of c) xs) (sym f)
    (subst (λ (d : Class). AreRight Leads IsMate (position_numbered d) (cells_of d) t.cells) (sym e)
    (AreRight-from t h))
