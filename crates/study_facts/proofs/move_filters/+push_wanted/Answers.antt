use Rattle.arrayvec.specs.ArrayVec.{array_vec_len}
use Rattle.std.proofs.Common.{◌≡◌, ◌+◌, ◌≤◌, arith, List, ◌∷◌, map, length, is_ok, IfErr, sym, ap, subst, suc}
use Rattle.study_board.specs.Position.{Position}
use Rattle.study_moves.specs.declared.moves.Move.{Move}
use Rattle.study_moves.specs.Rules.{after}
use Rattle.study_values.specs.Game.{IsValueOf}
use Rattle.study_marks.specs.Evaluated.{IsProbeFaultOf, ProbeCount}
use Rattle.study_marks.proofs.ValuesAsked.{no_value-here, no_value-more, asked-more, legal-rest}
use Rattle.study_facts.specs.Continuations.{is_wanted}
use Rattle.study_facts.proofs.Chosen.{one-added, legal-first}
use Rattle.study_facts.proofs.move_filters.+push_wanted.Goals as goal

pub returns-in-Err-clause-no_value : goal.returns-in-Err-clause-no_value
returns-in-Err-clause-no_value g t c =
    let held = g.V.Values.source.held c.args.values.now in
    let p = c.args.node.now.position.now in
    let rest = map (after p) c.in-Some.rest.now in
    subst (λ (ms : List Move). IsProbeFaultOf held (map (after p) ms) c.in-Err.fault)
    (sym c.in-Some.ensures.cases.0)
    (subst (λ (q : Position). IsProbeFaultOf held (q ∷ rest) c.in-Err.fault) c.played-next.ensures.value
    (no_value-here held c.played-next.result rest c.value.result c.in-Err.fault c.in-Err.is c.value.ensures.no_table
    c.value.ensures.damaged))

pub returns-in-Ok-clause-game : goal.returns-in-Ok-clause-game
returns-in-Ok-clause-game g t c h =
    let n = c.args.node.now in
    one-added (is_wanted c.args.wanted n.aim.now n.depth) n.position.now c.in-Some.m.now c.args.moves.now c.in-Some.rest.now c.in-Ok.value
    c.args.list.now.items c.push_if_wanted.new.list.items c.push_wanted.new.list.items c.push_wanted.result c.in-Some.ensures.cases.0
    (subst (λ (q : Position). IsValueOf q c.in-Ok.value) c.played-next.ensures.value (c.in-Ok.ensures.game h))
    c.push_if_wanted.ensures.items (c.push_wanted.ensures.game (c.value.ensures.stays_honest h))

pub returns-in-Ok-clause-no_value : goal.returns-in-Ok-clause-no_value
returns-in-Ok-clause-no_value g t c =
    let p = c.args.node.now.position.now in
    subst
    (λ (ms : List Move). IfErr c.push_wanted.result
    (IsProbeFaultOf (g.V.Values.source.held c.args.values.now) (map (after p) ms)))
    (sym c.in-Some.ensures.cases.0)
    (subst (λ (q : Position). IfErr c.push_wanted.result (IsProbeFaultOf (g.V.Values.source.held c.args.values.now) (q ∷ map (after p) c.in-Some.rest.now)))
    c.played-next.ensures.value
    (no_value-more (g.V.Values.source.held c.args.values.now) (g.V.Values.source.held c.value.new.self) c.played-next.result
    (map (after p) c.in-Some.rest.now) c.value.result c.in-Ok.value c.push_wanted.result c.in-Ok.is
    c.value.ensures.no_table c.value.ensures.same_tables c.push_wanted.ensures.no_value))

pub returns-in-Ok-clause-asked : goal.returns-in-Ok-clause-asked
returns-in-Ok-clause-asked g t c =
    let long : suc (length c.in-Some.rest.now) ≡ length c.args.moves.now = sym (ap length c.in-Some.ensures.cases.0) in
    subst (λ n. ProbeCount n (is_ok c.push_wanted.result) (g.V.Values.source.asked_of c.args.values.now)
    (g.V.Values.source.asked_of c.push_wanted.new.values)) long
    (asked-more (length c.in-Some.rest.now) (is_ok c.push_wanted.result) (g.V.Values.source.asked_of c.args.values.now)
    (g.V.Values.source.asked_of c.value.new.self) (g.V.Values.source.asked_of c.push_wanted.new.values) c.value.ensures.asked
    c.push_wanted.ensures.asked)

pub push_wanted-requires : goal.push_wanted-requires
push_wanted-requires g t c κs within =
    let p = c.args.node.now.position.now in
    let long : length c.args.moves.now ≡ suc (length c.in-Some.rest.now) = ap length c.in-Some.ensures.cases.0 in
    let room : array_vec_len c.args.list.now + length c.args.moves.now ≤ 62 = c.requires.room in
    let few : array_vec_len c.push_if_wanted.new.list ≤ array_vec_len c.args.list.now + 1 = c.push_if_wanted.ensures.len in (
      omega (arith, long, c.decreases),
      (
        within,
        (
          c.requires.depth,
          (
            legal-rest p _ c.args.moves.now c.in-Some.rest.now c.in-Some.ensures.cases.0 c.requires.legal,
            (
              (let z : array_vec_len c.push_if_wanted.new.list + length c.in-Some.rest.now ≤ 62 = omega (arith, long, room, few) in z),
              c.push_if_wanted.ensures.legal
                  (legal-first p c.in-Some.m.now c.args.moves.now c.in-Some.rest.now c.in-Some.ensures.cases.0 c.requires.legal)
                  c.requires.listed,
            ),
          ),
        ),
      ),
    )
