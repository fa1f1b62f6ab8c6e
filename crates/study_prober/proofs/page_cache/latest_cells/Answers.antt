use Rattle.std.proofs.Common.{◌∷◌, sym, ap, ◌∙◌}
use Rattle.study_prober.proofs.Keys.{same_key-is}
use Rattle.study_prober.proofs.LatestPage.{slice_get-first}
use Rattle.study_prober.proofs.page_cache.latest_cells.Goals as goal

pub returns-in-Some : goal.returns-in-Some
returns-in-Some g c =
    let first = slice_get-first c.args.pages.now.entries (c.in-Some.latest.now, c.in-Some.cells.now) c.in-Some.ensures in
    let same = same_key-is c.in-Some.latest.now c.args.key (sym c.if-eq.ensures) in
    (c.in-Some.cells.now, first.0, first.1 ∙ ap (λ k. (k, c.in-Some.cells.now) ∷ first.0) same, sym c.as_slice.ensures.value)
