use Rattle.std.proofs.Common.{◌≡◌, ℕ, ◌+◌, List, ◌++◌, take, drop, sym, ap, ◌∙◌, append_assoc}
use Rattle.std.proofs.lemmas.Result.{on_ok_weaker}
use Rattle.study_page.specs.Rows.{group_at, groups_from}
use Rattle.study_page.proofs.GroupsFound.{next-group}
use Rattle.study_page.proofs.defence_groups.+put_groups.Goals as goal

pub returns-in_ok-put_group_at-in-Some : goal.returns-in_ok-put_group_at-in-Some
returns-in_ok-put_group_at-in-Some g t c =
    let p = c.args.p.now in
    let list = c.args.list.now in
    let n = c.args.place in
    let html = c.args.html.now in
    let y = c.in-Some.y.now in
    let own = group_at p list (take n list) y in
    let later = groups_from p list (take (n + 1) list) (drop (n + 1) list) in
    let here : c.put_group_at.new.html ≡ html ++ own = rw c.split_at.ensures.front at c.in_ok-put_group_at-in-Some.ensures in
    let left = sym c.split_at.ensures.back ∙ c.in-Some.ensures.cases.0 in
    on_ok_weaker c.put_groups.result
    (λ grew. grew ∙ ap (λ (h : List ℕ). h ++ later) here ∙ append_assoc html own later
    ∙ ap (λ (x : List ℕ). html ++ x) (sym (next-group p list _ n y left)))
    c.put_groups.ensures
