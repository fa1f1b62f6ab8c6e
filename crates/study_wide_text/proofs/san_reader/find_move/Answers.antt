use Rattle.std.proofs.Common.{◌∙◌, List, [], sym, ap}
use Rattle.std.proofs.lemmas.List.{take_all}
use Rattle.study_board.specs.declared.men.Man.{Man}
use Rattle.study_notation.specs.Matching.{only_match}
use Rattle.study_wide_text.proofs.FindMove.{meant_among, meant_among-all, meant_among-none, meant_more, meant_same, twice, found_is, none_found, man_here}
use Rattle.study_wide_text.proofs.san_reader.find_move.Goals as goal
use Rattle.study_wide_text.proofs.san_reader.find_move.Goals.{then-is_meant+else-is_some, else-is_meant}

pub loop-man-init : goal.loop-man-init
loop-man-init c = meant_among-none c.args.p.now.board c.args.san.now []

pub is_meant-requires-clause-here : goal.is_meant-requires-clause-here
is_meant-requires-clause-here c =
    man_here c.args.p.now c.men-men.result.now c.loop-man.man-index c.man-item.result c.man-item.result c.men-men.ensures.valid c.men-men.ensures.value
    c.loop-man-test.true c.man-item.is

pub returns-then-is_some : goal.returns-then-is_some
returns-then-is_some c =
    let p = c.args.p.now.board in
    let s = c.args.san.now in
    let all = meant_among-all p s c.men-men.ensures.valid.sound c.number-target.ensures.small in
    twice p s c.men-men.result.now c.loop-man.man-index c.man-item.result c.man-item.result c.move_spelled-m.result c.loop-man.found
    (sym c.is_some.ensures ∙ c.if-is_some.true) c.loop-man-test.true c.man-item.is c.move_spelled-m.ensures
    (sym c.is_meant.ensures ∙ c.if-is_meant.true) c.loop-man.invariant
    ∙ ap only_match (ap (λ (men : List Man). meant_among p s men) c.men-men.ensures.value ∙ sym all)

pub loop-man-preserved : goal.loop-man-preserved
loop-man-preserved c =
    let p = c.args.p.now.board in
    let s = c.args.san.now in
    let men = c.men-men.result.now in
    let i = c.loop-man.man-index in
    let man = c.man-item.result in
    let m = c.move_spelled-m.result in
    elim c.if-is_meant.branch [
      | then-is_meant+else-is_some w ↦ rw w.found-is
          (meant_more p s men i man man m c.loop-man-test.true c.man-item.is c.move_spelled-m.ensures (sym c.is_meant.ensures ∙ w.if-is_meant.true)
          (c.loop-man.invariant ∙ none_found c.loop-man.found (sym w.is_some.ensures ∙ w.if-is_some.false)))
      | else-is_meant w ↦ rw w.found-is
          (meant_same p s men i man man m c.loop-man-test.true c.man-item.is c.move_spelled-m.ensures (sym c.is_meant.ensures ∙ w.if-is_meant.false)
          ∙ c.loop-man.invariant)
    ]

pub returns : goal.returns
returns c =
    let p = c.args.p.now.board in
    let s = c.args.san.now in
    let all = meant_among-all p s c.men-men.ensures.valid.sound c.number-target.ensures.small in
    let whole = take_all c.loop-man.man-index c.men-men.result.now c.loop-man-test.false in
    c.ok_or.ensures.value ∙ (found_is c.loop-man.found ∙ ap only_match (sym c.loop-man.invariant
    ∙ (ap (λ (men : List Man). meant_among p s men) (whole ∙ c.men-men.ensures.value) ∙ sym all)))
