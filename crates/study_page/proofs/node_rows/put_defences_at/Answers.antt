use Rattle.std.proofs.Common.{◌≡◌, ◌≤◌, List, length, sym, ap, subst, ◌∙◌}
use Rattle.std.specs.List.{All}
use Rattle.study_facts.specs.declared.missing_defences.Defence.{Defence}
use Rattle.study_facts.specs.Play.{IsPlayed}
use Rattle.study_page.specs.Rows.{main_among}
use Rattle.study_page.proofs.MainAmong.{main-played, main-few}
use Rattle.study_page.proofs.node_rows.put_defences_at.Goals as goal

pub put_defences-requires-clause-all : goal.put_defences-requires-clause-all
put_defences-requires-clause-all g c =
    let known = c.args.node.now.known.now in
    let p = c.args.node.now.here.node.position.now in
    let list = c.args.list.now in
    let main : c.as_slice-3.result.now ≡ main_among known p c.args.given list = c.as_slice-3.ensures.value ∙ c.in_ok-main.ensures in
    subst (All (IsPlayed p)) (sym main) (main-played known p c.args.given list c.requires.all)

pub put_defences-requires-clause-some : goal.put_defences-requires-clause-some
put_defences-requires-clause-some g c =
    let known = c.args.node.now.known.now in
    let p = c.args.node.now.here.node.position.now in
    let list = c.args.list.now in
    let main : c.as_slice-3.result.now ≡ main_among known p c.args.given list = c.as_slice-3.ensures.value ∙ c.in_ok-main.ensures in
    subst (λ (l : List Defence). length l ≤ length list) (sym main) (main-few known p c.args.given list)
