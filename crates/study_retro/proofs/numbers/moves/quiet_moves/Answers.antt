use Rattle.std.proofs.Common.{◌≡◌, arith, Some, List, Contains, sym, ◌∙◌, subst}
use Rattle.std.proofs.lemmas.Bool.{false≢true}
use Rattle.std.proofs.lemmas.List.{take_all}
use Rattle.std.proofs.lemmas.List.Elements.{Contains-get_or}
use Rattle.study_board.specs.declared.men.Man.{Man}
use Rattle.study_board.specs.Position.{Position}
use Rattle.study_index.specs.Computed.{position_numbered}
use Rattle.study_retro.specs.ClassGame.{class_game}
use Rattle.study_retro.specs.Still.{QuietMovesLoseBy}
use Rattle.study_levels.proofs.CellsLemmas.{each-more}
use Rattle.study_retro.proofs.BackLemmas.{lose_each}
use Rattle.study_retro.proofs.numbers.moves.quiet_moves.Goals as goal
use Rattle.study_retro.proofs.numbers.moves.quiet_moves.Goals.{then-some, else-some}

pub loop-slot-init : goal.loop-slot-init
loop-slot-init g c = record { lose = λ m i. absurd (let l = i.1 in omega (arith, l)); some = λ t. absurd (false≢true t) }

pub quiet_moves_of-moves-requires-clause-man : goal.quiet_moves_of-moves-requires-clause-man
quiet_moves_of-moves-requires-clause-man g c =
    let men = c.as_slice-man-items.result.now in
    let there : Contains men c.man-item.result = subst (λ (x : Man). Contains men x) (sym c.man-item.is)
    (Contains-get_or men c.loop-slot.slot _ c.loop-slot-test.true) in
    subst (λ (xs : List Man). Contains xs c.man-item.result) c.as_slice-man-items.ensures.value there

pub loop-slot-preserved : goal.loop-slot-preserved
loop-slot-preserved g c =
    let men = c.as_slice-man-items.result.now in
    let m = c.man-item.result in
    let Q : Man → Type 0 = λ x. (q : Position) → position_numbered c.args.game.now.class c.args.number ≡ Some q
    → QuietMovesLoseBy (class_game c.args.game.now.class c.args.game.now.tables.now) c.args.cells.now c.args.level q x in
    record {
      lose = each-more Q men c.loop-slot.slot m c.loop-slot-test.true c.loop-slot.invariant.lose
          (subst Q c.man-item.is (λ q at. c.quiet_moves_of-moves.ensures.no c.if-moves.false q at));
      some = elim c.if-some.branch [
        | then-some w ↦ (λ t q at. c.loop-slot.invariant.some w.if-some.true q at)
        | else-some w ↦ (λ t q at. c.quiet_moves_of-moves.ensures.some (sym w.some-is ∙ t) q at)
      ];
    }

pub returns-clause-no : goal.returns-clause-no
returns-clause-no g c = λ f q at.
    let men = c.as_slice-man-items.result.now in
    lose_each c.args.game.now.class c.args.number q at c.requires.plain c.args.setup.now.men.items c.args.setup.now.to_move c.requires.encodes
    (class_game c.args.game.now.class c.args.game.now.tables.now) c.args.cells.now c.args.level
    (λ m i. let C : List Man → Type 0 = λ xs. Contains xs m in
    c.loop-slot.invariant.lose m
    (subst C (sym (take_all c.loop-slot.slot men (let h = c.loop-slot-test.false in omega (arith, h)))) (subst C (sym c.as_slice-man-items.ensures.value) i))
    q at)
