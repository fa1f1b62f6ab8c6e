use Rattle.std.proofs.Common.{◌&&◌, List, sym, ◌∙◌, ap}
use Rattle.std.specs.List.{list_any}
use Rattle.study_board.specs.declared.men.Kind.TheVariants.{King}
use Rattle.study_board.specs.declared.men.Man.{Man}
use Rattle.study_board.specs.declared.men.Side.{Side}
use Rattle.study_board.specs.Men.{is_man, other_side}
use Rattle.study_board.specs.Sets.{has}
use Rattle.study_retro.proofs.StillChess.{check_by_word, no_capture_of_king, other_other}
use Rattle.study_retro.proofs.numbers.quiet.could_take_king.Goals as goal

pub returns : goal.returns
returns c = λ t q at.
    let men = c.args.setup.now.men.items in
    let side = c.args.setup.now.to_move in
    let set = c.args.attacked in
    no_capture_of_king c.args.class c.args.number q at men side c.requires.encodes
    (sym (check_by_word c.args.class c.args.number q at men side c.requires.encodes side set c.requires.attacked (other_side side) (other_other side))
    ∙ ap (λ (s : Side). list_any (λ m. is_man s King m && has set m.at) men) (sym c.other.ensures)
    ∙ ap (λ (zs : List Man). list_any (λ m. is_man c.other.result King m && has set m.at) zs) (sym c.as_slice.ensures.value)
    ∙ sym c.has_king_in.ensures ∙ t)
