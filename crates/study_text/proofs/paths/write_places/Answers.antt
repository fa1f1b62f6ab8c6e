use Rattle.std.proofs.Common.{◌≡◌, ℕ, suc, ◌+◌, ◌<◌, List, ◌∷◌, ◌++◌, drop, length, ap, ◌∙◌, get_or, arith, drop-cons}
use Rattle.std.specs.Prelude.{decimal}
use Rattle.study_text.proofs.TextTaken.{Wrote-cut, Wrote-stops_at, OnErr-known}
use Rattle.study_text.specs.Paths.{more_places}
use Rattle.study_text.proofs.paths.write_places.Goals as goal

-- the next place, and then the places after it
more-next : (ks : List ℕ) (i : ℕ) → i < length ks → more_places (drop i ks) ≡ (46 ∷ decimal (get_or ks i 0)) ++ more_places (drop (i + 1) ks)
more-next ks i lt =
    let next : suc i ≡ i + 1 = omega arith in
    ap more_places (drop-cons ks i 0 lt) ∙ ap (λ j. (46 ∷ decimal (get_or ks i 0)) ++ more_places (drop j ks)) next

pub returns-in_err-write_next-clause-err : goal.returns-in_err-write_next-clause-err
returns-in_err-write_next-clause-err g c =
    let ks = c.args.steps.now in
    let i = c.loop-place.place-index in
    OnErr-known _ _ (Wrote-stops_at (g.W.Write.contents c.args.out.now) (g.W.Write.contents c.loop-place.out)
    (g.W.Write.contents c.write_next.new.out) (more_places ks) (more_places (drop i ks))
    (46 ∷ decimal (get_or ks i 0)) (more_places (drop (i + 1) ks)) c.loop-place.invariant
    (more-next ks i c.loop-place-test.true) c.in_err-write_next.ensures.err)

pub loop-place-preserved : goal.loop-place-preserved
loop-place-preserved g c =
    let ks = c.args.steps.now in
    let i = c.loop-place.place-index in
    Wrote-cut (g.W.Write.contents c.args.out.now) (g.W.Write.contents c.loop-place.out)
    (g.W.Write.contents c.write_next.new.out) (more_places ks) (more_places (drop i ks))
    (46 ∷ decimal (get_or ks i 0)) (more_places (drop (i + 1) ks)) c.loop-place.invariant
    (more-next ks i c.loop-place-test.true) c.in_ok-write_next.ensures.ok
