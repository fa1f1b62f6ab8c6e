use Rattle.std.proofs.Common.{[], ◌∷◌, sym, subst, ◌∙◌}
use Rattle.std.proofs.lemmas.Bool.{false≢true}
use Rattle.std.proofs.KnownBytes.{Keeps-refl}
use Rattle.std.proofs.lemmas.Result.{on_err_weaker, IfOk-weaker}
use Rattle.std.specs.Io.KnownBytes.{Consumes, Keeps}
use Rattle.study_text.proofs.TextTaken.{OnErr-known}
use Rattle.study_import_program.specs.Streams.{PutsRest, IsWhole, IsFront}
use Rattle.study_import_program.proofs.Streamed.{reached_first, reached_more, reached_end, stops_reading, stops_at_byte, stops_at_end}
use Rattle.study_import_program.proofs.streaming.import_games.Goals as goal
use Rattle.study_import_program.proofs.streaming.import_games.Goals.{then-progress, else-progress}

pub loop-init : goal.loop-init
loop-init g c = record {
  reached = λ text is.
      reached_first (g.R.Read.remaining c.args.games.now) (g.W.Write.contents c.args.out.now) c.args.choice c.new-importer.result text c.new-importer.ensures
      is;
  quiet = λ none. Keeps-refl (g.E.Write.contents c.args.errors.now);
}

pub returns-in-Err-clause-err : goal.returns-in-Err-clause-err
returns-in-Err-clause-err g c = λ text is.
    stops_reading (g.R.Read.remaining c.loop.games) (g.W.Write.contents c.args.out.now) (g.W.Write.contents c.loop.out) c.args.choice c.loop.importer text
    (c.loop.invariant.reached text is)

pub returns-clause-err : goal.returns-clause-err
returns-clause-err g c = λ text is.
    stops_reading (g.R.Read.remaining c.loop.games) (g.W.Write.contents c.args.out.now) (g.W.Write.contents c.loop.out) c.args.choice c.loop.importer text
    (c.loop.invariant.reached text is)

pub returns-in-Ok-None-clause-ok : goal.returns-in-Ok-None-clause-ok
returns-in-Ok-None-clause-ok g c =
    let end = rw c.in-Ok-None.field-0-is at c.in-Ok-None.ensures.end in
    IfOk-weaker c.finish.result (λ imported. PutsRest c.loop.importer imported (g.W.Write.contents c.loop.out) (g.W.Write.contents c.finish.new.out))
    (λ imported. IsWhole c.args.choice (g.R.Read.remaining c.args.games.now) (g.W.Write.contents c.args.out.now) (g.W.Write.contents c.finish.new.out) imported)
    (λ imported put text is.
    reached_end (g.R.Read.remaining c.loop.games) (g.R.Read.remaining c.read_byte.new.script) (g.W.Write.contents c.args.out.now)
    (g.W.Write.contents c.loop.out) (g.W.Write.contents c.finish.new.out) c.args.choice c.loop.importer text imported (c.loop.invariant.reached text is) end.0
    end.1 put)
    c.finish.ensures.ok

pub returns-in-Ok-None-clause-err : goal.returns-in-Ok-None-clause-err
returns-in-Ok-None-clause-err g c =
    let end = rw c.in-Ok-None.field-0-is at c.in-Ok-None.ensures.end in
    on_err_weaker c.finish.result (λ front text is.
    stops_at_end (g.R.Read.remaining c.loop.games) (g.R.Read.remaining c.read_byte.new.script) (g.W.Write.contents c.args.out.now)
    (g.W.Write.contents c.loop.out) (g.W.Write.contents c.finish.new.out) c.args.choice c.loop.importer text (c.loop.invariant.reached text is) end.0 end.1
    front)
    c.finish.ensures.err

pub returns-in_err-take-in-Ok-Some-clause-err : goal.returns-in_err-take-in-Ok-Some-clause-err
returns-in_err-take-in-Ok-Some-clause-err g c =
    let eaten : Consumes (g.R.Read.remaining c.loop.games) (g.R.Read.remaining c.read_byte.new.script) (c.in-Ok-Some.byte ∷ []) =
    rw c.in-Ok-Some.field-0-is at c.in-Ok-Some.ensures.some in
    OnErr-known c.from_residual.result
    (IsFront c.args.choice (g.R.Read.remaining c.args.games.now) (g.W.Write.contents c.args.out.now) (g.W.Write.contents c.take.new.out)) (λ text is.
    stops_at_byte (g.R.Read.remaining c.loop.games) (g.R.Read.remaining c.read_byte.new.script) (g.W.Write.contents c.args.out.now)
    (g.W.Write.contents c.loop.out) (g.W.Write.contents c.take.new.out) c.args.choice c.loop.importer text c.in-Ok-Some.byte
    (c.loop.invariant.reached text is) eaten
    c.in_err-take-in-Ok-Some.ensures.err)

pub loop-preserved : goal.loop-preserved
loop-preserved g c =
    let eaten : Consumes (g.R.Read.remaining c.loop.games) (g.R.Read.remaining c.read_byte.new.script) (c.in-Ok-Some.byte ∷ []) =
    rw c.in-Ok-Some.field-0-is at c.in-Ok-Some.ensures.some in
    record {
      reached = λ text is.
          reached_more (g.R.Read.remaining c.loop.games) (g.R.Read.remaining c.read_byte.new.script) (g.W.Write.contents c.args.out.now)
          (g.W.Write.contents c.loop.out) (g.W.Write.contents c.take.new.out) c.args.choice c.loop.importer c.take.new.importer text c.in-Ok-Some.byte
          (c.loop.invariant.reached text is) eaten c.in_ok-take-in-Ok-Some.ensures.ok;
      quiet = λ none. elim c.if-progress.branch [
        | then-progress w ↦ absurd (false≢true (sym none ∙ w.if-progress.true))
        | else-progress w ↦ subst (λ e. Keeps (g.E.Write.contents c.args.errors.now) (g.E.Write.contents e)) (sym w.errors-is) (c.loop.invariant.quiet none)
      ];
    }
