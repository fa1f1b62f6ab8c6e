use Rattle.std.proofs.Common.{◌≡◌, sym, ◌∙◌, rules}
use Rattle.std.specs.Prelude.{codes}
use Rattle.std.specs.Str.{bytes_eq}
use Rattle.study_command.specs.Paths.{steps_of}
use Rattle.study_command.proofs.PathRead.{other_form}
use Rattle.study_command.proofs.path.is_root.Goals as goal

pub returns-clause-root : goal.returns-clause-root
unfolding steps_of
returns-clause-root c = search rules

pub returns-clause-places : goal.returns-clause-places
unfolding steps_of
returns-clause-places c = search rules

pub returns-clause-form : goal.returns-clause-form
returns-clause-form c = λ other. let e : c.eq.result ≡ bytes_eq c.args.path.now (codes "root") = search rules in
    other_form c.args.path.now c.requires (sym e ∙ other)
