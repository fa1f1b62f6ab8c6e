-- The one SAN text that is written for a legal move.
use Rattle.std.specs.Prelude.{ℕ, Bool, true, not, ◌&&◌, ◌==◌, List, [], ◌∷◌, ◌++◌, Option, Some, None, if◌then◌else◌}
use Rattle.std.specs.List.{list_any}
use Rattle.std.specs.Option.{option_map_or}
use Rattle.study_board.specs.declared.men.Man.{Man}
use Rattle.study_board.specs.Geometry.{file_of, rank_of}
use Rattle.study_board.specs.Men.{is_man, is_pawn}
use Rattle.study_board.specs.Position.{Position, in_check, man_at}
use Rattle.study_moves.specs.declared.moves.Move.{Move}
use Rattle.study_moves.specs.Rules.{is_legal, after}
use Rattle.study_notation.specs.declared.san.San.{San}
use Rattle.study_notation.specs.San.{san_text}
use Rattle.study_moves.specs.LegalList.{is_mate, is_capture}

-- another man of the same kind and side, which can legally go to the square
unfoldable pub is_rival : Position → Man → ℕ → Man → Bool
is_rival p man x o =
    not (o.at == man.at) && is_man man.side man.kind o && is_legal p (record { origin = o.at; target = x; promoted = None })

unfoldable pub has_rival : Position → Man → ℕ → Bool
has_rival p man x = list_any (is_rival p man x) p.men

unfoldable pub has_file_rival : Position → Man → ℕ → Bool
has_file_rival p man x = list_any (λ o. is_rival p man x o && file_of o.at == file_of man.at) p.men

-- a pawn's capture has the origin's file; a piece has it if it has a rival, and no rival is on that file
unfoldable pub gives_file : Position → Man → ℕ → Bool
gives_file p man x = if is_pawn man then is_capture p man x else (has_rival p man x && not (has_file_rival p man x))

-- a piece has the origin's rank if a rival is on its file
unfoldable pub gives_rank : Position → Man → ℕ → Bool
gives_rank p man x = not (is_pawn man) && has_file_rival p man x

-- no text has both
abbrev pub GivesOne : Option ℕ → Option ℕ → Type 0
GivesOne (Some f) (Some r) = ⊥
GivesOne file rank = Unit {0}

-- the parts that are written for a legal move of this man
unfoldable pub san_for : Position → Man → Move → San
san_for p man m = record {
  kind = man.kind;
  file = if gives_file p man m.target then Some (file_of man.at) else None;
  rank = if gives_rank p man m.target then Some (rank_of man.at) else None;
  is_capture = is_capture p man m.target;
  target = m.target;
  promoted = m.promoted;
}

-- `#` for checkmate, otherwise `+` for check
unfoldable pub check_text : Position → List ℕ
check_text p = if is_mate p then 35 ∷ [] else (if in_check p.men p.to_move then 43 ∷ [] else [])

unfoldable pub move_text : Position → Move → List ℕ
move_text p m = option_map_or (λ man. san_text (san_for p man m) true ++ check_text (after p m)) (man_at p.men m.origin) []
