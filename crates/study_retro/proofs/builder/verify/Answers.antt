use Rattle.std.proofs.Common.{sym, subst}
use Rattle.study_material.specs.declared.class.Class.{Class}
use Rattle.study_table.specs.Table.{IsReady}
use Rattle.study_table.specs.Sound.{NeedsAreRight}
use Rattle.study_table.proofs.ChessClass.{chess_class}
use Rattle.study_table.proofs.SoundLemmas.{outside_right, table_right, right_cells}
use Rattle.study_retro.proofs.builder.verify.Goals as goal

pub are_right-requires-clause-laws : goal.are_right-requires-clause-laws
are_right-requires-clause-laws g c =
    chess_class c.class-class.result c.args.tables.now c.table-held.ensures.closed

pub returns : goal.returns
returns g c = λ needs.
    let class = c.class-class.result in
    let t = c.args.table.now in
    let same = c.class-class.ensures.value in
    let held = c.args.tables.now in
    let ready = subst (λ (d : Class). IsReady held d) (sym same) c.requires in
    let right = subst (λ (d : Class). NeedsAreRight held d) (sym same) needs in
    let encodes = c.are_right.ensures (outside_right held class c.table-held.ensures.closed ready right) in (
      λ e. table_right t class c.cells.result.now same c.cells.ensures.value (encodes.0 e),
      λ h. encodes.1 (right_cells t class c.cells.result.now same c.cells.ensures.value h),
    )
