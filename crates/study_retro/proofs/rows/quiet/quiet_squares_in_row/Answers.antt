use Rattle.std.proofs.Common.{◌≡◌, ◌+◌, ◌-◌, ◌*◌, ◌<◌, [], ◌∷◌, ◌++◌, length, take, inl, inr, arith, ◌∙◌, sym, ap}
use Rattle.std.proofs.lemmas.Bool.{false≢true}
use Rattle.std.proofs.lemmas.List.{take_all, take_more}
use Rattle.study_board.specs.declared.men.Man.{Man}
use Rattle.study_retro.proofs.RowBackLemmas.{row_apart}
use Rattle.study_retro.proofs.RowMoveLemmas.{stands_alone}
use Rattle.study_retro.proofs.RowLemmas.{row_decoded, others_on_board, still_position}
use Rattle.study_retro.specs.Predecessors.{AreEncoded}
use Rattle.study_retro.specs.Still.{on_square}
use Rattle.study_retro.proofs.rows.quiet.quiet_squares_in_row.Goals as goal

pub returns-in-len1-up : goal.returns-in-len1-up
returns-in-len1-up c = λ y ly e q at.
    let men = c.as_slice.result.now in
    let n = length men in
    let some = c.in-len1-up.len_at_least in
    let last = c.last-item.result in
    let others = take (n - 1) men in
    let whole : others ++ last ∷ [] ≡ men =
    ap (λ (m : Man). others ++ m ∷ []) c.last-item.is ∙ sym (take_more men (n - 1) last (omega (arith, some)))
    ∙ take_all (n - 1 + 1) men (omega (arith, some)) in
    let side = c.decode_men-setup.result.to_move in
    let first : AreEncoded c.args.class (64 * c.args.row) (others ++ last ∷ []) side = (
      whole ∙ c.as_slice.ensures.value ∙ c.decode_men-setup.ensures.men,
      c.decode_men-setup.ensures.to_move,
    ) in
    let encodes = row_decoded c.args.class c.args.row y ly c.requires others last side first in
    let low : 64 * c.args.row + y < 16777216 = (let r = c.requires in omega (arith, r, ly)) in
    let l = on_square last y in
    elim (c.undecided_squares.ensures y ly e (others_on_board c.args.class (64 * c.args.row + y) q at low others l side encodes)) [
      | inl still ↦ still_position c.args.class (64 * c.args.row + y) q at low others l side encodes still
      | inr there ↦ absurd (false≢true (sym (stands_alone others last y (row_apart c.args.class (64 * c.args.row + y) y q at others last side encodes))
          ∙ there))
    ]
