use Rattle.std.proofs.Common.{◌≤◌, arith}
use Rattle.study_values.specs.Number.{cells_of}
use Rattle.study_listing.specs.declared.text.Form.TheVariants.{Script}
use Rattle.study_listing.proofs.OneList.{few-written}
use Rattle.study_listing.proofs.Written.{written-none}
use Rattle.study_listing.proofs.listing.list_studies.Goals as goal

pub returns-else-count-gt-MAX_STUDIES-clause-few : goal.returns-else-count-gt-MAX_STUDIES-clause-few
returns-else-count-gt-MAX_STUDIES-clause-few g c h =
    let past = c.if-count-gt-MAX_STUDIES.false in
    let few : c.in-Ok.count ≤ 3846 = omega (arith, past) in
    few-written c.args.selection.now Script 0 c.cells.result c.in-Ok.count 3846 (g.W.Write.contents c.args.out.now)
    (g.W.Write.contents c.list_numbers.new.out) c.list_numbers.result (c.in-Ok.ensures.count h) few
    (c.list_numbers.ensures.list (c.count_numbers.ensures.honest h))

pub returns-in-Err-clause-values : goal.returns-in-Err-clause-values
returns-in-Err-clause-values g c h f e =
    let low : 0 ≤ cells_of c.args.selection.now.search.class = omega arith in
    (0, low, (0, written-none c.args.selection.now Script 0 (g.W.Write.contents c.args.out.now)))
