use Rattle.std.proofs.Common.{◌≡◌, refl, ap, sym, ◌∙◌, subst, true, false, IsTrue}
use Rattle.study_tree.specs.Tree.{plain_tree, has_spot}
use Rattle.study_moves.specs.Rules.{is_legal}
use Rattle.study_marks.specs.declared.refusal.Refusal.TheVariants as refusal
use Rattle.study_marks.specs.Study.{position_after, moves_to}
use Rattle.study_marks.specs.BenchState.{BenchState}
use Rattle.study_marks.specs.Bench.{bench_state_of}
use Rattle.study_marks.proofs.BenchEdits.{match-ok}
use Rattle.study_marks.proofs.InsertedMoves.{deep-none, node-gone, node-found, match-some}
use Rattle.study_marks.proofs.TrialMoves.{trial-reason}
use Rattle.study_marks.proofs.bench.Bench.check_move.Goals as goal
use Rattle.study_marks.proofs.bench.Bench.check_move.Goals.{then-steps-gt-MAX_DEPTH-via-then-steps-gt-MAX_DEPTH}
use Rattle.study_marks.proofs.bench.Bench.check_move.Goals.{then-steps-gt-MAX_DEPTH-via-else-steps-gt-MAX_DEPTH+then-is_none}

pub returns-then-steps-gt-MAX_DEPTH-clause-refusal : goal.returns-then-steps-gt-MAX_DEPTH-clause-refusal
returns-then-steps-gt-MAX_DEPTH-clause-refusal g c =
    let b = bench_state_of c.self.inside.start c.self.inside.stipulation c.self.inside.tags c.self.inside.tree in
    let gone : has_spot (plain_tree c.self.inside.tree) c.args.steps.now ≡ false = elim c.then-steps-gt-MAX_DEPTH.branch [
      | then-steps-gt-MAX_DEPTH-via-then-steps-gt-MAX_DEPTH w ↦ deep-none 256 b.study.tree.below c.args.steps.now
          c.self.invariant.0.shallow w.if-steps-gt-MAX_DEPTH.true
      | then-steps-gt-MAX_DEPTH-via-else-steps-gt-MAX_DEPTH+then-is_none w ↦ node-gone
          (plain_tree c.self.inside.tree) c.args.steps.now w.node.result _ w.node.ensures w.if-is_none.ensures
    ] in
    match-some _ _ _ refusal.NoSuchNode (trial-reason b c.args.self.now c.args.steps.now c.args.m.now false _ c.self.view_is gone refl)

pub position_at-before-requires-clause-found : goal.position_at-before-requires-clause-found
position_at-before-requires-clause-found g c =
    node-found (plain_tree c.self.inside.tree) c.args.steps.now c.node.result _ c.node.ensures c.if-is_none.ensures

pub returns-then-not-is_legal-clause-refusal : goal.returns-then-not-is_legal-clause-refusal
returns-then-not-is_legal-clause-refusal g c =
    let b = bench_state_of c.self.inside.start c.self.inside.stipulation c.self.inside.tags c.self.inside.tree in
    let found = node-found (plain_tree c.self.inside.tree) c.args.steps.now c.node.result _ c.node.ensures c.if-is_none.ensures in
    let legal : is_legal (position_after b.study.start.position (moves_to b.study.tree.below c.args.steps.now))
    c.args.m.now ≡ false = ap (λ p. is_legal p c.args.m.now) (sym c.position_at-before.ensures)
    ∙ sym c.is_legal.ensures ∙ c.if-not-is_legal.true in
    match-some _ _ _ refusal.IllegalMove (trial-reason b c.args.self.now c.args.steps.now c.args.m.now true false c.self.view_is found legal)

pub returns-clause-refusal : goal.returns-clause-refusal
returns-clause-refusal g c =
    let b = bench_state_of c.self.inside.start c.self.inside.stipulation c.self.inside.tags c.self.inside.tree in
    let found = node-found (plain_tree c.self.inside.tree) c.args.steps.now c.node.result _ c.node.ensures c.if-is_none.ensures in
    let legal : is_legal (position_after b.study.start.position (moves_to b.study.tree.below c.args.steps.now))
    c.args.m.now ≡ true = ap (λ p. is_legal p c.args.m.now) (sym c.position_at-before.ensures)
    ∙ sym c.is_legal.ensures ∙ c.if-not-is_legal.false in
    match-ok _ _ _ (trial-reason b c.args.self.now c.args.steps.now c.args.m.now true true c.self.view_is found legal) refl

pub returns-clause-found : goal.returns-clause-found
returns-clause-found g c =
    subst (λ (k : BenchState). IsTrue (has_spot k.study.tree c.args.steps.now)) c.self.view_is
    (node-found (plain_tree c.self.inside.tree) c.args.steps.now c.node.result _ c.node.ensures c.if-is_none.ensures)
