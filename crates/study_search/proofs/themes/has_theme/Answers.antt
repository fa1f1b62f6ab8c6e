use Rattle.std.proofs.Common.{◌≡◌, true, ◌↔◌, IfOk, sym, subst}
use Rattle.study_search.specs.declared.themes.Theme.{Theme}
use Rattle.study_search.specs.Themes.{HasTheme}
use Rattle.study_search.proofs.themes.has_theme.Goals as goal

pub returns-in-Zugzwang-clause-game : goal.returns-in-Zugzwang-clause-game
returns-in-Zugzwang-clause-game g c h =
    subst (λ (x : Theme). IfOk c.is_zugzwang.result (λ b. (b ≡ true) ↔ HasTheme x c.args.p.now)) (sym c.in-Zugzwang.is) (c.is_zugzwang.ensures.game h)

pub returns-in-OnlyMoves-clause-game : goal.returns-in-OnlyMoves-clause-game
returns-in-OnlyMoves-clause-game g c h =
    subst (λ (x : Theme). IfOk c.has_only_moves.result (λ b. (b ≡ true) ↔ HasTheme x c.args.p.now)) (sym c.in-OnlyMoves.is)
    (c.has_only_moves.ensures.game h)

pub returns-in-Underpromotion-clause-game : goal.returns-in-Underpromotion-clause-game
returns-in-Underpromotion-clause-game g c h =
    subst (λ (x : Theme). IfOk c.holds_by_underpromotion.result (λ b. (b ≡ true) ↔ HasTheme x c.args.p.now)) (sym c.in-Underpromotion.is)
    (c.holds_by_underpromotion.ensures.game h)

pub returns-in-IntoZugzwang-clause-game : goal.returns-in-IntoZugzwang-clause-game
returns-in-IntoZugzwang-clause-game g c h =
    subst (λ (x : Theme). IfOk c.leads_into_zugzwang.result (λ b. (b ≡ true) ↔ HasTheme x c.args.p.now)) (sym c.in-IntoZugzwang.is)
    (c.leads_into_zugzwang.ensures.game h)

pub returns-in-ZugzwangTry-clause-game : goal.returns-in-ZugzwangTry-clause-game
returns-in-ZugzwangTry-clause-game g c h =
    subst (λ (x : Theme). IfOk c.has_zugzwang_try.result (λ b. (b ≡ true) ↔ HasTheme x c.args.p.now)) (sym c.in-ZugzwangTry.is)
    (c.has_zugzwang_try.ensures.game h)

pub returns-in-MateIn-clause-game : goal.returns-in-MateIn-clause-game
returns-in-MateIn-clause-game g c h =
    subst (λ (x : Theme). IfOk c.mates_in.result (λ b. (b ≡ true) ↔ HasTheme x c.args.p.now)) (sym c.in-MateIn.is) (c.mates_in.ensures.game h)
