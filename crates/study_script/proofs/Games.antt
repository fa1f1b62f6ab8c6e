-- The text of a game of PGN.
use Rattle.std.proofs.Common.{◌≡◌, true, take, refl}
use Rattle.std.specs.Prelude.{codes}
use Rattle.study_marks.specs.declared.mark.Mark.{Mark}
use Rattle.study_marks.specs.Study.{Study}
use Rattle.study_text.specs.Words.{words}
use Rattle.study_pgn.specs.Tags.{tags_text, user_lines, tag_line}
use Rattle.study_pgn.specs.Wrap.{lines_text}
use Rattle.study_pgn.specs.Pgn.{pgn_text, movetext}
use Rattle.study_reply.specs.Words.{ends_line}
use Rattle.study_script.proofs.Behind.{behind3}

pub game-begins : (s : Study Mark) → take 8 (pgn_text s) ≡ codes "[Event \""
unfolding pgn_text tags_text user_lines tag_line
game-begins s = refl

pub game-ends : (s : Study Mark) → ends_line (pgn_text s) ≡ true
unfolding pgn_text
game-ends s = behind3 (tags_text s) (codes "\n") (lines_text (words (movetext s))) (codes "\n") refl
