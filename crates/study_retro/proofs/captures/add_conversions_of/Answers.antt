use Rattle.std.proofs.Common.{◌∙◌, sym, subst, Contains}
use Rattle.study_moves.specs.declared.moves.Move.{Move}
use Rattle.study_retro.proofs.LeavingLemmas.{capture_is}
use Rattle.study_retro.proofs.captures.add_conversions_of.Goals as goal

pub returns-else-is_about_to_promote-clause-all : goal.returns-else-is_about_to_promote-clause-all
returns-else-is_about_to_promote-clause-all c = λ m origin legal leaves.
    let o = capture_is c.args.at.now c.requires.tells c.args.man.now c.requires.man c.requires.side m origin legal leaves
    (sym c.is_about_to_promote.ensures ∙ c.if-is_about_to_promote.false) in
    subst (λ (n : Move). Contains c.add_captures_of.new.list.items n) o.3 (c.add_captures_of.ensures.all o.0 o.1 o.2)
