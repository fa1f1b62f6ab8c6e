use Rattle.std.proofs.Common.{◌≡◌, true, Err, refl, sym, subst}
use Rattle.std.specs.Prelude.{MatchOption, IfErr}
use Rattle.study_board.specs.Position.{Position}
use Rattle.study_moves.specs.Rules.{after}
use Rattle.study_marks.specs.Study.{plain_study, position_at}
use Rattle.study_marks.specs.BenchState.{marked_study}
use Rattle.study_marks.specs.Queries.{asked_at, AllHeld, IsOutside}
use Rattle.study_marks.specs.Answers.{TellsFirstFault}
use Rattle.study_marks.specs.Edits.{with_insertion, insert_refusal}
use Rattle.study_script.specs.State.{quiet}
use Rattle.study_script.specs.SessionHolds.{tables_held, tables_source, are_paged}
use Rattle.study_script.specs.Replies.{accepted_reply, with_study, inserted_text, IsInserted}
use Rattle.study_script.proofs.AskingEdits.{accepted_outside}
use Rattle.study_script.proofs.HeldBehindReplies.{study_edited, study_same}
use Rattle.study_script.proofs.PlainNodes.{position_at-plain, inserted_said}
use Rattle.study_script.proofs.InsertReplies.{insert_same, none_of, insert_refused}
use Rattle.study_script.proofs.TablesFaults.{failing_known}
use Rattle.std.proofs.Common.{ap}
use Rattle.study_script.specs.SessionHolds.{bench_seen}
use Rattle.study_script.proofs.DocumentsLeft.{ruled_after}
use Rattle.study_script.proofs.changes.insert_move.Goals as goal

pub returns-in-Ok-clause-done : goal.returns-in-Ok-clause-done
returns-in-Ok-clause-done g c = λ s h.
    let shown = marked_study c.args.bench.now in
    let old = plain_study shown in
    let steps = c.args.path in
    let m = c.args.by.now in
    let new = with_insertion old steps m in
    let said = inserted_text old steps m in
    let tables = c.args.tables.now in
    rw c.write_san-san.ensures (rw (inserted_said shown steps steps c.in-Ok.place c.args.start.now.position m refl c.in-Ok.ensures.place c.requires.at) (
      quiet,
      with_study s new,
      subst (λ x. IsInserted s quiet old steps m x (accepted_reply (with_study s new) said))
          (sym (none_of _ (insert_refusal {A = g.row.A.Denot} old steps m) (insert_refusal {A = Unit {0}} old steps m)
          (insert_same g.row.A.Denot (Unit {0}) old steps m) c.insert_move.result c.in-Ok.place
          c.insert_move.ensures.refusal c.in-Ok.is))
          (accepted_outside s (tables_held tables) (asked_at (after (position_at old steps) m)) new said h.classes
          (subst (λ (p : Position). AllHeld (tables_held tables) (asked_at (after p m)))
          (sym (position_at-plain shown steps)) c.in-Ok.ensures.found)),
      study_edited g.P.PageSource.honest g.P.PageSource.gives c.args.bench.now c.insert_move.new.bench tables c.insert_move.new.tables s new h
          c.in-Ok.ensures.edited (c.in-Ok.ensures.right h.values h.marks) (c.insert_move.ensures.honest h.values)
          c.insert_move.ensures.tables c.insert_move.ensures.mode c.insert_move.ensures.fails_as_before,
    ))

pub returns-clause-done : goal.returns-clause-done
returns-clause-done g c = λ s h.
    let shown = marked_study c.args.bench.now in
    let old = plain_study shown in
    let steps = c.args.path in
    let m = c.args.by.now in
    let tables = c.args.tables.now in
    let others = c.insert_move.new.tables in
    let reported = insert_refused s (tables_held tables) (are_paged tables) old steps m c.insert_move.result
    c.in-Err.refusal h.classes h.paged
    (subst (λ (p : Position). MatchOption (insert_refusal {A = g.row.A.Denot} old steps m)
    (IfErr c.insert_move.result (IsOutside (tables_held tables) (asked_at (after p m))))
    (λ fault. c.insert_move.result ≡ Err fault)) (sym (position_at-plain shown steps))
    c.insert_move.ensures.refusal) c.in-Err.is c.in-Err.ensures.device (c.in-Err.ensures.no_damage h.values)
    (failing_known (tables_source g.P.PageSource.honest g.P.PageSource.gives)
    (λ d f. s.shelf.faults d f ≡ true) tables others (asked_at (after (position_at old steps) m)) c.in-Err.refusal h.faults
    (subst (λ (p : Position). TellsFirstFault (tables_source g.P.PageSource.honest g.P.PageSource.gives)
    tables (asked_at (after p m)) others c.in-Err.refusal) (sym (position_at-plain shown steps)) c.in-Err.ensures.first)) in (
      reported.0,
      s,
      reported.1,
      study_same g.P.PageSource.honest g.P.PageSource.gives c.args.bench.now c.insert_move.new.bench tables others s h
          c.in-Err.ensures.same (c.insert_move.ensures.honest h.values) c.insert_move.ensures.tables
          c.insert_move.ensures.mode c.insert_move.ensures.fails_as_before,
    )

pub returns-in-Ok-clause-document : goal.returns-in-Ok-clause-document
returns-in-Ok-clause-document g c =
    let old = plain_study (marked_study c.args.bench.now) in
    let steps = c.args.path in
    let m = c.args.by.now in
    let reason = insert_refusal {A = Unit {0}} old steps m in
    ruled_after reason (with_insertion old steps m) (plain_study (marked_study c.insert_move.new.bench))
    (none_of _ (insert_refusal {A = g.row.A.Denot} old steps m) reason (insert_same g.row.A.Denot (Unit {0}) old steps m) c.insert_move.result c.in-Ok.place
    c.insert_move.ensures.refusal c.in-Ok.is) c.in-Ok.ensures.edited

pub returns-clause-document : goal.returns-clause-document
returns-clause-document g c = ap bench_seen c.in-Err.ensures.same
