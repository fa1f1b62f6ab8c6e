use Rattle.std.proofs.Common.{◌≡◌, sym, subst}
use Rattle.study_material.specs.Class.{IsOf}
use Rattle.study_table.specs.Table.{Table, IsComplete}
use Rattle.study_table.proofs.SoundLemmas.{cell_in_bounds, value_of_cells, at_value}
use Rattle.study_table.proofs.table.Table.at.Goals as goal

pub bounds-as_slice-index : goal.bounds-as_slice-index
bounds-as_slice-index g c =
    let seen : Table = record { class = c.self.inside.class; cells = c.self.inside.cells.items } in
    let is : seen ≡ c.args.self.now = c.self.view_is in
    let of_class : IsOf seen.class c.args.p.now = subst (λ (t : Table). IsOf t.class c.args.p.now) (sym is) c.requires in
    rw c.as_slice.ensures.value (cell_in_bounds seen c.args.p.now c.index.result c.self.invariant c.men-men.ensures.valid of_class c.index.ensures.least)

pub returns-clause-reported : goal.returns-clause-reported
returns-clause-reported g c =
    let seen : Table = record { class = c.self.inside.class; cells = c.self.inside.cells.items } in
    let is : seen ≡ c.args.self.now = c.self.view_is in
    value_of_cells seen c.args.self.now c.args.p.now c.index.result c.as_slice.result.now c.value_at.result is
    c.men-men.ensures.valid c.index.ensures.least c.as_slice.ensures.value c.value_at.ensures

pub returns-clause-right : goal.returns-clause-right
returns-clause-right g c =
    let seen : Table = record { class = c.self.inside.class; cells = c.self.inside.cells.items } in
    let is : seen ≡ c.args.self.now = c.self.view_is in
    at_value c.args.self.now c.args.p.now c.value_at.result (subst IsComplete is c.self.invariant) c.men-men.ensures.valid c.requires
    (value_of_cells seen c.args.self.now c.args.p.now c.index.result c.as_slice.result.now c.value_at.result is
    c.men-men.ensures.valid c.index.ensures.least c.as_slice.ensures.value c.value_at.ensures)
