use Rattle.std.proofs.Common.{◌&&◌, List, sym, ◌∙◌, ap}
use Rattle.std.specs.List.{list_any}
use Rattle.study_board.specs.declared.men.Kind.TheVariants.{King}
use Rattle.study_board.specs.declared.men.Man.{Man}
use Rattle.study_board.specs.declared.men.Side.{Side}
use Rattle.study_board.specs.Men.{is_attacked, is_man}
use Rattle.study_board.specs.Position.{in_check}
use Rattle.study_board.specs.Sets.{has}
use Rattle.study_retro.proofs.BackLemmas.{side_is}
use Rattle.study_retro.proofs.StillChess.{check_by_word}
use Rattle.study_retro.proofs.numbers.quiet.is_checked.Goals as goal

pub returns : goal.returns
returns c q at =
    let men = c.args.setup.now.men.items in
    let side = c.args.setup.now.to_move in
    let set = c.attacked_squares-attacked.result in
    ap (λ (s : Side). in_check q.men s) (sym (side_is c.args.class c.args.number q at men side c.requires))
    ∙ sym
    (check_by_word c.args.class c.args.number q at men side c.requires c.other.result set
    (λ x l. c.attacked_squares-attacked.ensures x l ∙ ap (λ (zs : List Man). is_attacked zs c.other.result x) c.as_slice-men.ensures.value) side
    c.other.ensures)
    ∙ ap (λ (zs : List Man). list_any (λ m. is_man side King m && has set m.at) zs) (sym c.as_slice-men.ensures.value)
    ∙ sym c.has_king_in.ensures
