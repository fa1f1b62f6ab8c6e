use Rattle.std.proofs.Common.{ℕ, ◌+◌, ◌*◌, ◌++◌, ◌∷◌, [], List, Contains, inl, inr, arith, sym, ◌∙◌, ap, subst}
use Rattle.std.proofs.lemmas.Bool.{cases_Bool, false≢true}
use Rattle.std.proofs.lemmas.List.{take_all}
use Rattle.std.proofs.lemmas.List.Elements.{Contains-get_or}
use Rattle.study_board.specs.declared.men.Man.{Man}
use Rattle.study_board.specs.Sets.{has}
use Rattle.study_board.proofs.SetBits.{has-zero}
use Rattle.study_material.specs.declared.class.Class.{Class}
use Rattle.study_retro.specs.ClassGame.{class_game}
use Rattle.study_retro.specs.Predecessors.{AreEncoded}
use Rattle.study_retro.specs.RowEscapes.{AllLoseBy}
use Rattle.study_retro.specs.Still.{on_square}
use Rattle.study_levels.proofs.CellsLemmas.{each-more}
use Rattle.study_retro.proofs.RowEscapeLemmas.{row_lose}
use Rattle.study_retro.proofs.rows.quiet_moves.quiet_moves_in_row.Goals as goal

pub loop-slot-init : goal.loop-slot-init
loop-slot-init g c = record {
  among = λ y on e. e;
  hold = λ y on e f. absurd (false≢true (sym f ∙ e));
  lose = λ m i. absurd (let l = i.1 in omega (arith, l));
  some = λ y q on e. absurd (false≢true (sym (ap (λ (s : ℕ). has s y) c.empty.ensures ∙ has-zero y) ∙ e));
}

pub quiet_moves_of_row-moves-requires-clause-numbered : goal.quiet_moves_of_row-moves-requires-clause-numbered
quiet_moves_of_row-moves-requires-clause-numbered g c = λ y on e. c.requires.numbered y on (c.loop-slot.invariant.among y on e)

pub quiet_moves_of_row-moves-requires-clause-man : goal.quiet_moves_of_row-moves-requires-clause-man
quiet_moves_of_row-moves-requires-clause-man g c =
    let men = c.as_slice-man-items.result.now in
    let there : Contains men c.man-item.result = subst (λ (x : Man). Contains men x) (sym c.man-item.is)
    (Contains-get_or men c.loop-slot.slot _ c.loop-slot-test.true) in
    subst (λ (xs : List Man). Contains xs c.man-item.result) c.as_slice-man-items.ensures.value there

pub loop-slot-preserved : goal.loop-slot-preserved
loop-slot-preserved g c =
    let men = c.as_slice-man-items.result.now in
    let m = c.man-item.result in
    let inv = c.loop-slot.invariant in
    let e = c.quiet_moves_of_row-moves.ensures in
    let new = c.quiet_moves_of_row-moves.result.losing in
    let Q : Man → Type 0 = λ x. AllLoseBy (class_game c.args.game.now.class c.args.game.now.tables.now) c.args.cells.now c.args.level
    c.args.row.now.number new x in
    record {
      among = λ y on t. inv.among y on (e.only y on t);
      hold = λ y on t f. elim (cases_Bool (has c.loop-slot.moves.losing y)) [ inl there ↦ e.no y on there f | inr out ↦ inv.hold y on t out ];
      lose = each-more Q men c.loop-slot.slot m c.loop-slot-test.true (λ x i y q on t at. inv.lose x i y q on (e.only y on t) at)
          (subst Q c.man-item.is e.yes);
      some = e.some;
    }

pub quiet_moves_of_last-requires-clause-numbered : goal.quiet_moves_of_last-requires-clause-numbered
quiet_moves_of_last-requires-clause-numbered g c = λ y on e. c.requires.numbered y on (c.loop-slot.invariant.among y on e)

pub returns-clause-only : goal.returns-clause-only
returns-clause-only g c = λ y on e. c.loop-slot.invariant.among y on (c.quiet_moves_of_last.ensures.only y on e)

pub returns-clause-no : goal.returns-clause-no
returns-clause-no g c = λ y on t f. elim (cases_Bool (has c.loop-slot.moves.losing y)) [
  | inl there ↦ c.quiet_moves_of_last.ensures.no y on there f
  | inr out ↦ c.loop-slot.invariant.hold y on t out
]

pub returns-clause-yes : goal.returns-clause-yes
returns-clause-yes g c = λ y q on t at.
    let men = c.as_slice-man-items.result.now in
    let row = c.args.row.now in
    let small = row.plain in
    let encodes = subst (λ (d : Class). AreEncoded d (64 * row.number + y) (row.others.items ++ on_square row.last y ∷ []) row.to_move) c.requires.class
    (row.encoded y on) in
    row_lose c.args.game.now.class (64 * row.number + y) y q at (omega (arith, small, on)) row.others.items row.last row.to_move encodes
    (class_game c.args.game.now.class c.args.game.now.tables.now) c.args.cells.now c.args.level
    (λ m i. let C : List Man → Type 0 = λ xs. Contains xs m in
    c.loop-slot.invariant.lose m
    (subst C (sym (take_all c.loop-slot.slot men (let h = c.loop-slot-test.false in omega (arith, h))))
    (subst C (sym c.as_slice-man-items.ensures.value) i))
    y q on (c.quiet_moves_of_last.ensures.only y on t) at)
    (c.quiet_moves_of_last.ensures.yes y q on t at)
