use Rattle.std.proofs.Common.{inl, ◌≡◌, ℕ, false, Option, ap}
use Rattle.study_moves.specs.EnPassant.{has_legal_en_passant, is_capturable_en_passant}
use Rattle.study_index.proofs.ClassLaws.{below}
use Rattle.study_index.proofs.ComputedIndex.{decoded_of_numbered}
use Rattle.study_retro.proofs.MovedSteps.{index_after}
use Rattle.study_retro.proofs.class_game.number_after.Goals as goal

pub index_after_move-requires : goal.index_after_move-requires
index_after_move-requires c =
    below c.args.class c.args.number c.args.at.now (decoded_of_numbered c.args.class c.args.number c.args.at.now c.requires.at)

pub returns-then-is_quiet : goal.returns-then-is_quiet
returns-then-is_quiet c =
    let dead : has_legal_en_passant c.args.at.now ≡ false =
    ap (λ (x : Option ℕ). is_capturable_en_passant c.args.at.now x) (c.has_passed.ensures c.if-has_passed.false) in
    let quiet = c.is_quiet.ensures c.if-is_quiet.true in (
      dead,
      quiet,
      index_after c.args.class c.args.number c.args.at.now c.requires.at dead c.args.by.now c.requires.by quiet c.index_after_move.result
          c.index_after_move.ensures (inl (c.may_allow_en_passant.ensures c.if-may_allow_en_passant.false)),
    )
