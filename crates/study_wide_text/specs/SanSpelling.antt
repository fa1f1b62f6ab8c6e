-- The one SAN text that is written for a legal move.
use Rattle.std.specs.Prelude.{ℕ, Bool, true, not, ◌&&◌, ◌||◌, ◌==◌, List, [], ◌∷◌, ◌++◌, Option, Some, None, if◌then◌else◌}
use Rattle.std.specs.List.{list_any}
use Rattle.std.specs.Option.{option_map_or}
use Rattle.study_board.specs.declared.men.Man.{Man}
use Rattle.study_board.specs.Geometry.{file_of, rank_of}
use Rattle.study_board.specs.Men.{is_pawn}
use Rattle.study_board.specs.Position.{Position, man_at}
use Rattle.study_moves.specs.declared.moves.Move.{Move}
use Rattle.study_moves.specs.LegalList.{is_capture}
use Rattle.study_notation.specs.declared.san.San.{San}
use Rattle.study_notation.specs.San.{san_text}
use Rattle.study_notation.specs.SanSpelling.{is_rival, has_rival, has_file_rival, gives_rank}
use Rattle.study_wide.specs.declared.castling.Wing.{Wing}
use Rattle.study_wide.specs.declared.castling.Wing.TheVariants.{Short, Long}
use Rattle.study_wide.specs.Wide.{Wide}
use Rattle.study_wide.specs.Rules.{wing_of, wide_after}
use Rattle.study_wide.specs.LegalList.{is_in_check, is_wide_mate}

unfoldable pub has_rank_rival : Position → Man → ℕ → Bool
has_rank_rival p man x = list_any (λ o. is_rival p man x o && rank_of o.at == rank_of man.at) p.men

-- a pawn's capture has the origin's file; a piece with a rival has it, unless the rank alone tells it apart: a rival is on its file, and none on its rank
unfoldable pub gives_wide_file : Position → Man → ℕ → Bool
gives_wide_file p man x = if is_pawn man then is_capture p man x else (has_rival p man x && (not (has_file_rival p man x) || has_rank_rival p man x))

-- the parts that are written for a legal move of this man; a piece has the origin's rank if a rival is on its file
unfoldable pub wide_san_for : Position → Man → Move → San
wide_san_for p man m = record {
  kind = man.kind;
  file = if gives_wide_file p man m.target then Some (file_of man.at) else None;
  rank = if gives_rank p man m.target then Some (rank_of man.at) else None;
  is_capture = is_capture p man m.target;
  target = m.target;
  promoted = m.promoted;
}

-- `O-O` and `O-O-O`
abbrev pub castling_san : Wing → List ℕ
castling_san Short = 79 ∷ 45 ∷ 79 ∷ []
castling_san Long = 79 ∷ 45 ∷ 79 ∷ 45 ∷ 79 ∷ []

-- `#` for checkmate, otherwise `+` for check
unfoldable pub wide_check_text : Wide → List ℕ
wide_check_text g = if is_wide_mate g then 35 ∷ [] else (if is_in_check g then 43 ∷ [] else [])

-- castling, or the parts of a man's move
abbrev pub move_parts_text : Wide → Move → Option Wing → List ℕ
move_parts_text g m (Some w) = castling_san w
move_parts_text g m None = option_map_or (λ man. san_text (wide_san_for g.board man m) true) (man_at g.board.men m.origin) []

unfoldable pub wide_move_text : Wide → Move → List ℕ
wide_move_text g m = move_parts_text g m (wing_of g m) ++ wide_check_text (wide_after g m)
