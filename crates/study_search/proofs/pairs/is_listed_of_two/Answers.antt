use Rattle.std.proofs.Common.{◌⊎◌, inl, inr}
use Rattle.study_material.specs.Needs.{NeedsClass}
use Rattle.study_search.proofs.Faults.{needs-across, needs-image, if-wider}
use Rattle.std.proofs.Common.{◌≡◌, true, ◌↔◌, IfOk, ap, ◌∙◌, subst}
use Rattle.study_board.specs.Position.{Position}
use Rattle.study_board.specs.Symmetry.{image}
use Rattle.study_search.specs.Laws.{colours_swapped}
use Rattle.study_search.specs.Pairs.{ComesFirst}
use Rattle.study_search.proofs.EachFound.{colours-admitted}
use Rattle.study_search.proofs.pairs.is_listed_of_two.Goals as goal

pub turned-other-requires : goal.turned-other-requires
turned-other-requires g c = colours-admitted c.in-Some.q

pub returns-in-None-clause-game : goal.returns-in-None-clause-game
returns-in-None-clause-game g c h valid = absurd (c.in-None.ensures.none valid)

pub returns-in-Some-clause-game : goal.returns-in-Some-clause-game
returns-in-Some-clause-game g c h valid =
    subst (λ (q : Position). IfOk c.comes_first.result (λ b. (b ≡ true) ↔ ComesFirst c.args.p.now q))
    (c.turned-other.ensures.value ∙ ap (λ (q : Position). image colours_swapped q) c.in-Some.ensures.some.0)
    (c.comes_first.ensures.game h)

pub returns-in-Some-clause-faults : goal.returns-in-Some-clause-faults
returns-in-Some-clause-faults g c =
    if-wider g.V.Values.source (λ d. NeedsClass c.args.p.now d ⊎ NeedsClass c.turned-other.result d) (NeedsClass c.args.p.now)
    (λ d n. elim n [
      | inl own ↦ own
      | inr other ↦ needs-across c.args.p.now c.in-Some.q c.in-Some.ensures.some.0 d
          (needs-image c.in-Some.q c.turned-other.result colours_swapped c.turned-other.ensures.value d other)
    ]) c.args.values.now c.comes_first.result c.comes_first.ensures.faults
