use Rattle.std.proofs.Common.{◌≡◌, ◌<◌, ◌∙◌, sym, subst, arith}
use Rattle.std.proofs.lemmas.Bool.{not-false}
use Rattle.study_marks.proofs.DualCounts.{same_move-one}
use Rattle.study_marks.proofs.EqualMoves.{move_same}
use Rattle.study_moves.specs.declared.moves.Move.{Move}
use Rattle.study_search.specs.OnlyMoves.{IsKey}
use Rattle.study_listing.proofs.Kin.{earlier-if}
use Rattle.study_listing.proofs.families.is_earlier_kin.Goals as goal

pub returns-else-ne-clause-game : goal.returns-else-ne-clause-game
returns-else-ne-clause-game g c h =
    let key = c.args.key.now in
    let q = c.args.q.now in
    let m = c.in-Ok-Some.m in
    let less : c.index-own.result < c.args.number = omega (arith, c.if-number-own.false) in
    let same : m ≡ key.played = same_move-one m key.played (sym (move_same m key.played) ∙ not-false _ (sym c.ne.ensures ∙ c.if-ne.false)) in
    let is_key : IsKey key.outcome q m = (c.in-Ok-Some.ensures.game h m).0 c.in-Ok-Some.field-0-is in
    earlier-if c.args.selection.now c.args.number key.outcome key.played q c.is_listed_too.result
    (subst (λ n. n < c.args.number) c.index-own.ensures.value less) (subst (λ (x : Move). IsKey key.outcome q x) same is_key)
    (c.is_listed_too.ensures.game (c.key_move.ensures.honest h))
