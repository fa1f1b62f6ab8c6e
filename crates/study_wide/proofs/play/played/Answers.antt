use Rattle.std.proofs.Common.{◌≡◌, ◌<◌, true, List, refl, sym, ◌∙◌, subst}
use Rattle.std.specs.List.{All}
use Rattle.std.proofs.lemmas.Bool.{and_parts}
use Rattle.study_board.specs.declared.men.Man.{Man}
use Rattle.study_moves.proofs.MenFound.{is_occupied-from_man_at}
use Rattle.study_moves.proofs.NoMoveBetween.{HasMover-from_is_legal}
use Rattle.study_wide.specs.Castling.{men_after_castling, is_castling_move, can_castle}
use Rattle.study_wide.specs.Rules.{castles}
use Rattle.study_wide.proofs.Playing.{wing_castles, plain_legal, after_plain}
use Rattle.study_wide.proofs.AfterPlain.{IsWide-after_by}
use Rattle.study_wide.proofs.AfterCastling.{MayCastle-from, IsWide-castled}
use Rattle.study_wide.proofs.play.played.Goals as goal

pub of-requires : goal.of-requires
of-requires c =
    let g = c.args.p.now in
    let w = c.in-Some.wing in
    let castling : castles g c.args.m w ≡ true = wing_castles g c.args.m w (sym c.wing_of.ensures ∙ c.in-Some.is) in
    let parts = and_parts (is_castling_move g.board.to_move w c.args.m) (can_castle g w) castling in
    let items : c.men_after_castling.result.items ≡ men_after_castling g.board.men g.board.to_move w = c.men_after_castling.ensures.value
    ∙ rw (c.men-all.ensures.value, c.to_move-side.ensures) refl in
    let on = subst (λ (l : List Man). All (λ m. m.at < 64) l) items c.men_after_castling.ensures.on_board in
    rw (items, c.other.ensures, c.to_move-side.ensures, c.after-rights.ensures, c.rights.ensures)
    (IsWide-castled g w c.men-all.ensures.valid (MayCastle-from g w parts.1) c.args.m castling on)

pub unreachable-requires : goal.unreachable-requires
unreachable-requires c =
    let legal = plain_legal c.args.p.now c.args.m (sym c.wing_of.ensures ∙ c.in-None.is) c.requires in
    let h = HasMover-from_is_legal c.args.p.now.board c.args.m legal in
    let none = sym h.here ∙ sym c.man_at.ensures ∙ c.in-None-man_at.is in
    cc none

pub men_after-men-requires : goal.men_after-men-requires
men_after-men-requires c = is_occupied-from_man_at _ _ _ (sym c.man_at.ensures ∙ c.in-Some-man_at.is)

pub of-requires-in-Some-man_at : goal.of-requires-in-Some-man_at
of-requires-in-Some-man_at c =
    let g = c.args.p.now in
    let legal = plain_legal g c.args.m (sym c.wing_of.ensures ∙ c.in-None.is) c.requires in
    let here = sym c.man_at.ensures ∙ c.in-Some-man_at.is in
    rw (c.men_after-men.ensures, c.other-in-Some-man_at.ensures, c.to_move-side.ensures, c.passed_by.ensures, c.after-rights.ensures, c.rights.ensures)
    (IsWide-after_by g c.in-Some-man_at.man c.args.m c.men-all.ensures.valid here legal)

pub returns-in-Some-man_at-clause-value : goal.returns-in-Some-man_at-clause-value
returns-in-Some-man_at-clause-value c =
    let g = c.args.p.now in
    let here = sym c.man_at.ensures ∙ c.in-Some-man_at.is in
    let none = sym c.wing_of.ensures ∙ c.in-None.is in
    c.of-in-Some-man_at.ensures.value
    ∙ rw (c.men_after-men.ensures, c.other-in-Some-man_at.ensures, c.to_move-side.ensures, c.passed_by.ensures, c.after-rights.ensures, c.rights.ensures)
    (sym (after_plain g c.in-Some-man_at.man c.args.m none here))
