use Rattle.std.proofs.Common.{ℕ, List, [], ◌∷◌, ◌++◌, sym, subst}
use Rattle.std.specs.Prelude.{decimal}
use Rattle.std.proofs.lemmas.Result.{on_ok_weaker, on_err_weaker}
use Rattle.std.specs.Prelude.{OnOk, OnErr}
use Rattle.std.specs.Io.KnownBytes.{Appends}
use Rattle.std.proofs.KnownBytes.{Appends-trans}
use Rattle.study_text.specs.Taken.{TakesPrefix}
use Rattle.study_text.proofs.TextTaken.{TakesPrefix-first, TakesPrefix-second, TakesPrefix-same, OnErr-known}
use Rattle.study_text.specs.Paths.{path_text, more_places}
use Rattle.study_text.proofs.PathText.{child_none, child_some}
use Rattle.study_text.proofs.paths.write_child.Goals as goal

pub returns-in_default-clause-ok : goal.returns-in_default-clause-ok
returns-in_default-clause-ok g c =
    subst
    (λ (t : List ℕ). OnOk c.write_number.result
    (Appends (g.W.Write.contents c.args.out.now) (g.W.Write.contents c.write_number.new.out) t))
    (sym (child_none c.args.steps.now c.args.place c.in_default.ensures.cases)) c.write_number.ensures.ok

pub returns-in_default-clause-err : goal.returns-in_default-clause-err
returns-in_default-clause-err g c =
    subst
    (λ (t : List ℕ). OnErr c.write_number.result
    (TakesPrefix (g.W.Write.contents c.args.out.now) (g.W.Write.contents c.write_number.new.out) t))
    (sym (child_none c.args.steps.now c.args.place c.in_default.ensures.cases)) c.write_number.ensures.err

pub returns-in_err-write_number-clause-err : goal.returns-in_err-write_number-clause-err
returns-in_err-write_number-clause-err g c =
    OnErr-known _ _ (TakesPrefix-same (g.W.Write.contents c.args.out.now) (g.W.Write.contents c.write_number-2.new.out)
    ((decimal c.in-Some.first.now) ++ ((more_places c.in-Some.rest.now) ++ (46 ∷ decimal c.args.place)))
    (path_text (c.args.steps.now ++ c.args.place ∷ []))
    (child_some c.args.steps.now c.in-Some.first.now c.in-Some.rest.now c.args.place c.in-Some.ensures.cases.0)
    (TakesPrefix-first (g.W.Write.contents c.args.out.now) (g.W.Write.contents c.write_number-2.new.out)
    (decimal c.in-Some.first.now) ((more_places c.in-Some.rest.now) ++ (46 ∷ decimal c.args.place))
    c.in_err-write_number.ensures.err))

pub returns-in_err-write_places-clause-err : goal.returns-in_err-write_places-clause-err
returns-in_err-write_places-clause-err g c =
    OnErr-known _ _ (TakesPrefix-same (g.W.Write.contents c.args.out.now) (g.W.Write.contents c.write_places.new.out)
    ((decimal c.in-Some.first.now) ++ ((more_places c.in-Some.rest.now) ++ (46 ∷ decimal c.args.place)))
    (path_text (c.args.steps.now ++ c.args.place ∷ []))
    (child_some c.args.steps.now c.in-Some.first.now c.in-Some.rest.now c.args.place c.in-Some.ensures.cases.0)
    (TakesPrefix-second (g.W.Write.contents c.args.out.now) (g.W.Write.contents c.write_number-2.new.out)
    (g.W.Write.contents c.write_places.new.out) (decimal c.in-Some.first.now)
    ((more_places c.in-Some.rest.now) ++ (46 ∷ decimal c.args.place)) c.in_ok-write_number.ensures.ok
    (TakesPrefix-first (g.W.Write.contents c.write_number-2.new.out) (g.W.Write.contents c.write_places.new.out)
    (more_places c.in-Some.rest.now) (46 ∷ decimal c.args.place) c.in_err-write_places.ensures.err)))

pub returns-clause-err : goal.returns-clause-err
returns-clause-err g c =
    on_err_weaker _
    (λ h. (TakesPrefix-same (g.W.Write.contents c.args.out.now) (g.W.Write.contents c.write_next.new.out)
    ((decimal c.in-Some.first.now) ++ ((more_places c.in-Some.rest.now) ++ (46 ∷ decimal c.args.place)))
    (path_text (c.args.steps.now ++ c.args.place ∷ []))
    (child_some c.args.steps.now c.in-Some.first.now c.in-Some.rest.now c.args.place
    c.in-Some.ensures.cases.0)
    (TakesPrefix-second (g.W.Write.contents c.args.out.now) (g.W.Write.contents c.write_number-2.new.out)
    (g.W.Write.contents c.write_next.new.out) (decimal c.in-Some.first.now)
    ((more_places c.in-Some.rest.now) ++ (46 ∷ decimal c.args.place)) c.in_ok-write_number.ensures.ok
    (TakesPrefix-second (g.W.Write.contents c.write_number-2.new.out) (g.W.Write.contents c.write_places.new.out)
    (g.W.Write.contents c.write_next.new.out) (more_places c.in-Some.rest.now) (46 ∷ decimal c.args.place)
    c.in_ok-write_places.ensures.ok h)))) c.write_next.ensures.err

pub returns-clause-ok : goal.returns-clause-ok
returns-clause-ok g c =
    on_ok_weaker _
    (λ h.
    (subst (λ (t : List ℕ). Appends (g.W.Write.contents c.args.out.now) (g.W.Write.contents c.write_next.new.out)
    t)
    (sym (child_some c.args.steps.now c.in-Some.first.now c.in-Some.rest.now c.args.place
    c.in-Some.ensures.cases.0))
    (Appends-trans (g.W.Write.contents c.args.out.now) (g.W.Write.contents c.write_number-2.new.out)
    (g.W.Write.contents c.write_next.new.out) (decimal c.in-Some.first.now)
    ((more_places c.in-Some.rest.now) ++ (46 ∷ decimal c.args.place)) c.in_ok-write_number.ensures.ok
    (Appends-trans (g.W.Write.contents c.write_number-2.new.out) (g.W.Write.contents c.write_places.new.out)
    (g.W.Write.contents c.write_next.new.out) (more_places c.in-Some.rest.now) (46 ∷ decimal c.args.place)
    c.in_ok-write_places.ensures.ok h)))) c.write_next.ensures.ok
