use Rattle.std.proofs.Common.{rules, ◌≡◌, ◌↔◌, ◌∷◌, Bool, true, List, inl, refl, sym, subst}
use Rattle.study_board.specs.Position.{Position}
use Rattle.study_moves.specs.declared.moves.Move.{Move}
use Rattle.study_moves.specs.Rules.{after}
use Rattle.study_search.specs.Listed.{SomeLeads}
use Rattle.study_material.specs.Needs.{NeedsClass}
use Rattle.study_search.proofs.Faults.{needs-after, reported-wider}
use Rattle.study_search.specs.Themes.{FailsIntoZugzwang}
use Rattle.study_search.proofs.OnlyMoves.{some-later}
use Rattle.study_search.proofs.themes.+some_fails_into_zugzwang.Goals as goal

pub returns-in-Ok-false-clause-game : goal.returns-in-Ok-false-clause-game
returns-in-Ok-false-clause-game g t c h =
    some-later (FailsIntoZugzwang c.args.outcome) c.args.p.now c.in-Some.m.now c.args.moves.now c.in-Some.rest.now c.played-next.result c.in-Ok-false.field-0
    c.some_fails_into_zugzwang.result c.in-Some.ensures.cases.0 c.played-next.ensures.value c.in-Ok-false.field-0-test (c.in-Ok-false.ensures.game h)
    (c.some_fails_into_zugzwang.ensures.game (c.fails_into_zugzwang.ensures.honest h))

pub returns-in-Err-clause-faults : goal.returns-in-Err-clause-faults
returns-in-Err-clause-faults g t c =
    reported-wider g.V.Values.source (NeedsClass c.played-next.result) (NeedsClass c.args.p.now)
    (needs-after c.args.p.now c.played-next.result c.in-Some.m.now c.men-men.ensures.valid (search rules) c.played-next.ensures.value)
    c.args.values.now c.in-Err.fault c.in-Err.ensures.faults

some-here : (P : Position → Type 0) (p : Position) (m : Move) (ms rest : List Move) (next : Position) (b : Bool) → ms ≡ m ∷ rest → next ≡ after p m
    → b ≡ true → ((b ≡ true) ↔ P next) → (true ≡ true) ↔ SomeLeads P p ms
some-here P p m ms rest next b e n t h = ((λ x. subst (λ (l : List Move). SomeLeads P p l) (sym e) (inl (subst P n (h.0 t)))), (λ x. refl))

pub returns-in-Ok-true-clause-game : goal.returns-in-Ok-true-clause-game
returns-in-Ok-true-clause-game g t c h =
    some-here (FailsIntoZugzwang c.args.outcome) c.args.p.now c.in-Some.m.now c.args.moves.now c.in-Some.rest.now c.played-next.result c.in-Ok-true.field-0
    c.in-Some.ensures.cases.0 c.played-next.ensures.value c.in-Ok-true.field-0-test (c.in-Ok-true.ensures.game h)
