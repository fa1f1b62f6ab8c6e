use Rattle.std.proofs.Common.{ℕ, Option, ap, sym, ◌∙◌}
use Rattle.std.proofs.lemmas.Bool.{false≢true}
use Rattle.study_material.proofs.Classes.{is_of-IsOf}
use Rattle.study_moves.specs.EnPassant.{is_capturable_en_passant}
use Rattle.study_moves.specs.Rules.{after}
use Rattle.study_retro.proofs.MovedSteps.{quiet_stays}
use Rattle.study_retro.proofs.StillChess.{own_targets}
use Rattle.study_retro.proofs.class_game.ClassGameGame.conversions.Goals as goal

pub captures_and_promotions-requires : goal.captures_and_promotions-requires
captures_and_promotions-requires g c =
    let n = c.requires.numbered in
    let q = c.args.at.now in
    own_targets c.args.self.now.class n.0 q n.1 (ap (λ (x : Option ℕ). is_capturable_en_passant q x) (c.has_passed.ensures c.if-has_passed.false))

pub returns-clause-all : goal.returns-clause-all
returns-clause-all g c = λ m legal out.
    let n = c.requires.numbered in
    let q = c.args.at.now in
    let class = c.args.self.now.class in
    c.captures_and_promotions.ensures.all m legal (λ quiet. false≢true (sym out ∙ is_of-IsOf class (after q m)
    (quiet_stays class n.0 q n.1 (ap (λ (x : Option ℕ). is_capturable_en_passant q x) (c.has_passed.ensures c.if-has_passed.false)) m legal quiet)))
