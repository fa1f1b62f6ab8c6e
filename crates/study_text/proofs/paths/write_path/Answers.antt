use Rattle.std.proofs.Common.{◌≡◌, ℕ, List, [], ◌∷◌, ◌++◌, length, refl, sym, ap, ◌∙◌, subst, OnOk, OnErr}
use Rattle.std.specs.Prelude.{codes, decimal}
use Rattle.std.specs.Io.KnownBytes.{Appends}
use Rattle.std.proofs.lemmas.List.{nil_from_length}
use Rattle.std.proofs.lemmas.Result.{on_ok_weaker, on_err_weaker}
use Rattle.std.proofs.KnownBytes.{Appends-trans}
use Rattle.study_text.specs.Taken.{TakesPrefix}
use Rattle.study_text.proofs.TextTaken.{TakesPrefix-first, TakesPrefix-second, TakesPrefix-same, OnErr-known}
use Rattle.study_text.specs.Paths.{path_text, more_places}
use Rattle.study_text.proofs.paths.write_path.Goals as goal

text_root : path_text [] ≡ codes "root"
unfolding path_text
text_root = refl

text_none : (ks : List ℕ) → length ks ≡ 0 → path_text ks ≡ codes "root"
text_none ks e = ap path_text (nil_from_length ks e) ∙ text_root

text_cons : (k : ℕ) (rest : List ℕ) → path_text (k ∷ rest) ≡ decimal k ++ more_places rest
unfolding path_text
text_cons k rest = refl

text_some : (ks : List ℕ) (k : ℕ) (rest : List ℕ) → ks ≡ k ∷ rest → path_text ks ≡ decimal k ++ more_places rest
text_some ks k rest e = ap path_text e ∙ text_cons k rest

pub returns-in_default-clause-ok : goal.returns-in_default-clause-ok
returns-in_default-clause-ok g c =
    subst
    (λ (t : List ℕ). OnOk c.write_text.result
    (Appends (g.W.Write.contents c.args.out.now) (g.W.Write.contents c.write_text.new.out) t))
    (sym (text_none c.args.steps.now c.in_default.ensures.cases)) c.write_text.ensures.ok

pub returns-in_default-clause-err : goal.returns-in_default-clause-err
returns-in_default-clause-err g c =
    subst
    (λ (t : List ℕ). OnErr c.write_text.result
    (TakesPrefix (g.W.Write.contents c.args.out.now) (g.W.Write.contents c.write_text.new.out) t))
    (sym (text_none c.args.steps.now c.in_default.ensures.cases)) c.write_text.ensures.err

pub returns-in_err-write_number-clause-err : goal.returns-in_err-write_number-clause-err
returns-in_err-write_number-clause-err g c =
    let k = c.in-Some.first.now in
    let rest = c.in-Some.rest.now in
    OnErr-known _ _ (TakesPrefix-same (g.W.Write.contents c.args.out.now) (g.W.Write.contents c.write_number.new.out)
    (decimal k ++ more_places rest) (path_text c.args.steps.now)
    (text_some c.args.steps.now k rest c.in-Some.ensures.cases.0)
    (TakesPrefix-first (g.W.Write.contents c.args.out.now) (g.W.Write.contents c.write_number.new.out) (decimal k)
    (more_places rest) c.in_err-write_number.ensures.err))

pub returns-clause-ok : goal.returns-clause-ok
returns-clause-ok g c =
    let k = c.in-Some.first.now in
    let rest = c.in-Some.rest.now in
    let old = g.W.Write.contents c.args.out.now in
    let mid = g.W.Write.contents c.write_number.new.out in
    let new = g.W.Write.contents c.write_places.new.out in
    on_ok_weaker _ (λ h. subst (Appends old new) (sym (text_some c.args.steps.now k rest c.in-Some.ensures.cases.0))
    (Appends-trans old mid new (decimal k) (more_places rest) c.in_ok-write_number.ensures.ok h))
    c.write_places.ensures.ok

pub returns-clause-err : goal.returns-clause-err
returns-clause-err g c =
    let k = c.in-Some.first.now in
    let rest = c.in-Some.rest.now in
    let old = g.W.Write.contents c.args.out.now in
    let mid = g.W.Write.contents c.write_number.new.out in
    let new = g.W.Write.contents c.write_places.new.out in
    on_err_weaker _ (λ h. TakesPrefix-same old new (decimal k ++ more_places rest) (path_text c.args.steps.now)
    (text_some c.args.steps.now k rest c.in-Some.ensures.cases.0)
    (TakesPrefix-second old mid new (decimal k) (more_places rest) c.in_ok-write_number.ensures.ok h))
    c.write_places.ensures.err
