use Rattle.std.proofs.Common.{◌&&◌, ◌==◌, List, sym, ◌∙◌, ap}
use Rattle.std.specs.List.{list_any}
use Rattle.study_board.specs.declared.men.Kind.TheVariants.{Pawn}
use Rattle.study_board.specs.declared.men.Man.{Man}
use Rattle.study_board.specs.declared.men.Side.{Side}
use Rattle.study_board.specs.Geometry.{rank_of}
use Rattle.study_board.specs.Men.{is_man, other_side, same_side}
use Rattle.study_board.specs.Sets.{has}
use Rattle.study_retro.specs.Still.{rank_before_last}
use Rattle.study_retro.proofs.StillChess.{by_word, stays_quiet, not_true}
use Rattle.study_retro.proofs.numbers.quiet.stays_by.Goals as goal

pub returns : goal.returns
returns c = λ t q at.
    let men = c.args.setup.now.men.items in
    let side = c.args.setup.now.to_move in
    let same = sym c.as_slice-men.ensures.value in
    stays_quiet c.args.class c.args.number q at c.requires.plain men side c.requires.encodes
    (sym (by_word c.args.class c.args.number q at men side c.requires.encodes side c.args.attacked c.requires.attacked
    (λ m. same_side m.side (other_side side)))
    ∙ ap (λ (s : Side). list_any (λ m. same_side m.side s && has c.args.attacked m.at) men) (sym c.other.ensures)
    ∙ ap (λ (zs : List Man). list_any (λ m. same_side m.side c.other.result && has c.args.attacked m.at) zs) same
    ∙ sym c.has_man_in.ensures ∙ c.if-has_man_in.false)
    (ap (λ (zs : List Man). list_any (λ m. is_man side Pawn m && (rank_of m.at == rank_before_last side)) zs) same
    ∙ sym c.may_promote.ensures ∙ not_true c.may_promote.result t)
