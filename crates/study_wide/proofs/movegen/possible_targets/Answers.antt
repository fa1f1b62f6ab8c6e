use Rattle.std.proofs.Common.{◌≡◌, false, ◌∙◌, sym, ap, refl}
use Rattle.study_board.specs.declared.men.Kind.{Kind}
use Rattle.study_board.specs.declared.men.Kind.TheVariants.{King, Queen, Rook, Bishop, Knight, Pawn}
use Rattle.study_board.specs.declared.men.Side.{Side}
use Rattle.study_board.specs.Men.{same_kind}
use Rattle.study_board.specs.Sets.{has}
use Rattle.study_wide.specs.Castling.{king_target}
use Rattle.study_wide.proofs.PossibleTargets.{pawn_targets_all, piece_targets_all, king_targets_all}
use Rattle.study_wide.proofs.movegen.possible_targets.Goals as goal

no_pawn : (k : Kind) → (k ≡ Pawn → ⊥) → same_kind k Pawn ≡ false
no_pawn King h = refl
no_pawn Queen h = refl
no_pawn Rook h = refl
no_pawn Bishop h = refl
no_pawn Knight h = refl
no_pawn Pawn h = absurd (h refl)

pub returns-in-Pawn : goal.returns-in-Pawn
returns-in-Pawn c =
    pawn_targets_all c.args.p.now c.args.man.now c.men-men.ensures.valid c.requires c.pawn_step_targets.result c.pawn_captures_of.result
    c.union.result c.in-Pawn.is (rw c.men-men.ensures.value at c.pawn_step_targets.ensures) c.pawn_captures_of.ensures c.union.ensures

pub returns-in-King : goal.returns-in-King
returns-in-King c =
    king_targets_all c.args.p.now c.args.man.now c.men-men.ensures.valid c.requires c.attacks.result c.castling_targets.result
    c.union-in-King.result (ap (λ k. same_kind k Pawn) c.in-King.is) (rw c.men-men.ensures.value at c.attacks.ensures)
    (λ w. ap (λ (s : Side). has c.castling_targets.result (king_target s w)) (sym c.to_move.ensures) ∙ c.castling_targets.ensures w)
    c.union-in-King.ensures

pub returns-in_default : goal.returns-in_default
returns-in_default c =
    piece_targets_all c.args.p.now c.args.man.now c.men-men.ensures.valid c.requires c.attacks-in_default.result
    (no_pawn c.args.man.now.kind c.in_default.not-Pawn) c.in_default.not-King (rw c.men-men.ensures.value at c.attacks-in_default.ensures)
