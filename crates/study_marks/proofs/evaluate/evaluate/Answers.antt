use Rattle.std.proofs.Common.{◌≡◌, List, map, length, suc, ◌<◌, arith, ap, sym, ◌∙◌, subst, false}
use Rattle.study_moves.specs.declared.moves.Move.{Move}
use Rattle.study_moves.specs.Rules.{after}
use Rattle.study_moves.specs.LegalList.{legal_list}
use Rattle.study_marks.specs.Evaluated.{IsProbeFaultOf, ProbeCount}
use Rattle.study_marks.proofs.ValuesAsked.{held-evaluated, no_value-here, no_value-later, asked-more, length-map}
use Rattle.study_marks.proofs.evaluate.evaluate.Goals as goal

pub returns-in-Err-clause-no_value : goal.returns-in-Err-clause-no_value
returns-in-Err-clause-no_value g c =
    no_value-here (g.V.Values.source.held c.args.values.now) c.args.p.now (map (after c.args.p.now) (legal_list c.args.p.now))
    c.value.result c.in-Err.fault c.in-Err.is c.value.ensures.no_table c.value.ensures.damaged

pub returns-in-Err-clause-asked : goal.returns-in-Err-clause-asked
returns-in-Err-clause-asked g c =
    let many = length (map (after c.args.p.now) (legal_list c.args.p.now)) in
    (0, (let z : 0 < suc many = omega arith in z), c.value.ensures.asked)

pub returns-in-Err-tally_moves-clause-no_value : goal.returns-in-Err-tally_moves-clause-no_value
returns-in-Err-tally_moves-clause-no_value g c =
    let moves : c.as_slice.result.now ≡ legal_list c.args.p.now = c.as_slice.ensures.value ∙ c.legal_moves-moves.ensures.listed in
    no_value-later (g.V.Values.source.held c.args.values.now) (g.V.Values.source.held c.value.new.self) c.args.p.now
    (map (after c.args.p.now) (legal_list c.args.p.now)) c.in-Err-tally_moves.fault
    (held-evaluated (g.V.Values.source.held c.args.values.now) c.args.p.now c.value.result c.in-Ok.value c.in-Ok.is c.value.ensures.no_table)
    c.value.ensures.same_tables
    (subst (λ (ms : List Move). IsProbeFaultOf (g.V.Values.source.held c.value.new.self) (map (after c.args.p.now) ms)
    c.in-Err-tally_moves.fault) moves c.in-Err-tally_moves.ensures.no_value)

pub returns-in-Err-tally_moves-clause-asked : goal.returns-in-Err-tally_moves-clause-asked
returns-in-Err-tally_moves-clause-asked g c =
    let moves : c.as_slice.result.now ≡ legal_list c.args.p.now = c.as_slice.ensures.value ∙ c.legal_moves-moves.ensures.listed in
    let long : length c.as_slice.result.now ≡ length (map (after c.args.p.now) (legal_list c.args.p.now)) =
    ap length moves ∙ sym (length-map (after c.args.p.now) (legal_list c.args.p.now)) in
    asked-more (length (map (after c.args.p.now) (legal_list c.args.p.now))) false
    (g.V.Values.source.asked_of c.args.values.now) (g.V.Values.source.asked_of c.value.new.self)
    (g.V.Values.source.asked_of c.tally_moves.new.values) c.value.ensures.asked
    (subst (λ n. ProbeCount n false (g.V.Values.source.asked_of c.value.new.self) (g.V.Values.source.asked_of c.tally_moves.new.values)) long
    c.in-Err-tally_moves.ensures.asked)
