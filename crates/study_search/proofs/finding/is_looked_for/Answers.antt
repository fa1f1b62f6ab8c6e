use Rattle.std.proofs.Common.{◌≡◌, true, ap, sym, ◌∙◌}
use Rattle.study_search.specs.Finding.{is_for}
use Rattle.study_search.specs.Themes.{HasTheme}
use Rattle.study_search.proofs.OneMove.{both-by, not-first}
use Rattle.study_search.proofs.finding.is_looked_for.Goals as goal

pub returns-then-wanted-clause-game : goal.returns-then-wanted-clause-game
returns-then-wanted-clause-game g c h =
    let same = c.is_for-wanted.ensures ∙ ap (λ x. is_for c.args.search.now.side x) c.to_move.ensures in
    both-by (is_for c.args.search.now.side c.args.p.now.to_move ≡ true) (HasTheme c.args.search.now.theme c.args.p.now) c.is_for-wanted.result
    c.has_theme.result ((λ e. sym same ∙ e), (λ e. same ∙ e)) c.if-wanted.true (c.has_theme.ensures.game h)

pub returns-clause-game : goal.returns-clause-game
returns-clause-game g c h =
    let same = c.is_for-wanted.ensures ∙ ap (λ x. is_for c.args.search.now.side x) c.to_move.ensures in
    not-first (is_for c.args.search.now.side c.args.p.now.to_move ≡ true) (HasTheme c.args.search.now.theme c.args.p.now) c.is_for-wanted.result
    ((λ e. sym same ∙ e), (λ e. same ∙ e)) c.if-wanted.false
