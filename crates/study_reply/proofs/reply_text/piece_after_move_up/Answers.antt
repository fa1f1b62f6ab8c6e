use Rattle.std.proofs.Common.{ℕ, [], ◌∷◌, ◌++◌, sym, ap, ◌∙◌}
use Rattle.study_text.specs.Paths.{path_text}
use Rattle.study_reply.proofs.PathText.{raised_some}
use Rattle.study_reply.proofs.reply_text.piece_after_move_up.Goals as goal

pub returns-in-Some : goal.returns-in-Some
returns-in-Some c =
    ap (λ (n : ℕ). path_text (c.in-Some.front.now ++ n ∷ [])) c.saturating_sub.ensures
    ∙ sym (raised_some c.args.steps.now c.in-Some.front.now c.in-Some.last.now c.in-Some.ensures.cases.0)
