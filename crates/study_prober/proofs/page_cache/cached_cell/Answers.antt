use Rattle.std.proofs.Common.{◌≡◌, rules, sym, ap, ◌∙◌, Contains, subst, Some, None, slice_get}
use Rattle.std.specs.Map.{lookup}
use Rattle.lru.specs.LruCache.{promoted}
use Rattle.lru.proofs.Splits.{Contains-head}
use Rattle.lru.proofs.CallerLemmas.{Contains-promoted, Contains-lookup}
use Rattle.study_prober.specs.contracts.page_cache.PageKeyPartialEq.TheImpl.{eq-value}
use Rattle.study_prober.specs.PageCache.{cell_at}
use Rattle.study_prober.proofs.Keys.{same_key-is, keys_compared}
use Rattle.study_prober.proofs.LatestPage.{kept-cell}
use Rattle.study_prober.proofs.page_cache.cached_cell.Goals as goal

pub returns-in-Some-clause-found : goal.returns-in-Some-clause-found
returns-in-Some-clause-found g c =
    let latest = c.in-Some.ensures in
    let kept = subst (λ es. Contains es (c.args.key, latest.0)) (sym latest.2) (Contains-head (c.args.key, latest.0) latest.1) in
    kept-cell (λ v. v.items) c.args.pages.now.entries c.args.key latest.0 c.args.at kept c.cell_of.result
    (c.cell_of.ensures ∙ ap (λ xs. slice_get xs c.args.at) (sym latest.3))

pub returns-in_err-page-clause-fewer : goal.returns-in_err-page-clause-fewer
returns-in_err-page-clause-fewer g c = λ e h. Contains-promoted (eq-value.it c.args.key) c.args.pages.now.entries e
    (subst (λ q. Contains q.entries e) c.get.follows.holds-at-none h)

pub returns-clause-fewer : goal.returns-clause-fewer
returns-clause-fewer g c = λ e h. Contains-promoted (eq-value.it c.args.key) c.args.pages.now.entries e
    (subst (λ q. Contains q.entries e) c.get.follows.holds-at-none h)

pub returns-clause-found : goal.returns-clause-found
returns-clause-found g c =
    let v : lookup (eq-value.it c.args.key) c.args.pages.now.entries ≡ Some c.in_ok-page.page.now = search rules in
    let l = Contains-lookup (eq-value.it c.args.key) c.args.pages.now.entries c.in_ok-page.page.now v in
    let kept = subst (λ k. Contains c.args.pages.now.entries (k, c.in_ok-page.page.now)) (sym (same_key-is _ _ l.2)) l.1 in
    kept-cell (λ v. v.items) c.args.pages.now.entries c.args.key c.in_ok-page.page.now c.args.at kept c.cell_of-2.result
    (c.cell_of-2.ensures ∙ ap (λ xs. slice_get xs c.args.at) c.as_slice.ensures.value)

pub returns-in_err-page-clause-used : goal.returns-in_err-page-clause-used
returns-in_err-page-clause-used g c =
    ap (λ q. q.entries) c.get.follows.holds-at-none ∙ ap (λ test. promoted (test c.args.key) c.args.pages.now.entries) keys_compared

pub returns-clause-used : goal.returns-clause-used
returns-clause-used g c =
    ap (λ q. q.entries) c.get.follows.holds-at-none ∙ ap (λ test. promoted (test c.args.key) c.args.pages.now.entries) keys_compared

pub returns-in_err-page-clause-value : goal.returns-in_err-page-clause-value
returns-in_err-page-clause-value g c =
    let none : lookup (eq-value.it c.args.key) c.args.pages.now.entries ≡ None = search rules in
    let reported : c.from_residual.result ≡ None = search rules in
    reported ∙ ap (λ o. cell_at (λ v. v.items) c.args.at o) (sym none ∙ ap (λ test. lookup (test c.args.key) c.args.pages.now.entries) keys_compared)

pub returns-clause-value : goal.returns-clause-value
returns-clause-value g c =
    let v : lookup (eq-value.it c.args.key) c.args.pages.now.entries ≡ Some c.in_ok-page.page.now = search rules in
    c.cell_of-2.ensures ∙ ap (λ xs. slice_get xs c.args.at) c.as_slice.ensures.value
    ∙ ap (λ o. cell_at (λ v. v.items) c.args.at o) (sym v ∙ ap (λ test. lookup (test c.args.key) c.args.pages.now.entries) keys_compared)
