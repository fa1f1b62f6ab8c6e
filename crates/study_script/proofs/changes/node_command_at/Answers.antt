use Rattle.std.proofs.Common.{refl}
use Rattle.study_command.specs.Parser.{node_command}
use Rattle.study_command.specs.declared.command.NodeCommand.TheVariants.{Delete, Promote, Mark}
use Rattle.study_command.specs.Documents.{after_delete, after_promote}
use Rattle.study_script.specs.SessionHolds.{bench_seen}
use Rattle.study_script.proofs.DocumentsLeft.{leaves_ruled, leaves_same}
use Rattle.study_script.proofs.changes.node_command_at.Goals as goal

pub returns-in-Delete-clause-done : goal.returns-in-Delete-clause-done
returns-in-Delete-clause-done g c = λ s h. rw c.in-Delete.is (c.delete.ensures.done s h)

pub returns-in-Promote-clause-done : goal.returns-in-Promote-clause-done
returns-in-Promote-clause-done g c = λ s h. rw c.in-Promote.is (c.promote.ensures.done s h)

pub returns-in-Mark-clause-done : goal.returns-in-Mark-clause-done
returns-in-Mark-clause-done g c = λ s h. rw c.in-Mark.is (c.mark_at.ensures s h)

pub returns-in-Delete-clause-document : goal.returns-in-Delete-clause-document
returns-in-Delete-clause-document g c = rw c.in-Delete.is
    (leaves_ruled c.delete.result (node_command Delete c.args.path) (after_delete (bench_seen c.args.bench.now) c.args.path) (bench_seen c.args.bench.now)
    (bench_seen c.delete.new.bench) (λ e. e) c.delete.ensures.document)

pub returns-in-Promote-clause-document : goal.returns-in-Promote-clause-document
returns-in-Promote-clause-document g c = rw c.in-Promote.is
    (leaves_ruled c.promote.result (node_command Promote c.args.path) (after_promote (bench_seen c.args.bench.now) c.args.path) (bench_seen c.args.bench.now)
    (bench_seen c.promote.new.bench) (λ e. e) c.promote.ensures.document)

pub returns-in-Mark-clause-document : goal.returns-in-Mark-clause-document
returns-in-Mark-clause-document g c = rw c.in-Mark.is (leaves_same c.mark_at.result (node_command Mark c.args.path) (bench_seen c.args.bench.now) refl)
