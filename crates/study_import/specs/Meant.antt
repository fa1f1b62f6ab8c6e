-- The studies of a game.
use Rattle.std.specs.Prelude.{ℕ, ◌==◌, List, [], ◌∷◌, length, map, codes, Option, Some, None, Result, Ok, Err, if◌then◌else◌}
use Rattle.study_notation.specs.declared.start.Start.{Start}
use Rattle.study_notation.specs.declared.fault.FenFault.{FenFault}
use Rattle.study_notation.specs.declared.fault.FenFault.TheVariants as fault
use Rattle.study_notation.specs.Fen.{start_of}
use Rattle.study_marks.specs.declared.stipulation.Stipulation.{Stipulation}
use Rattle.study_marks.specs.Study.{tag_name}
use Rattle.study_marks.specs.Edits.{PlainStudy}
use Rattle.study_games.specs.Header.{Pair, tags_of, header_fault, value_of}
use Rattle.study_games.specs.declared.header.HeaderFault.{HeaderFault}
use Rattle.study_reading.specs.declared.aims.Aim.{Aim}
use Rattle.study_reading.specs.declared.movetext.MovesFault.{MovesFault}
use Rattle.study_wide_text.specs.declared.start.WideStart.{WideStart}
use Rattle.study_wide_text.specs.Fen.{wide_start_of}
use Rattle.study_tails.specs.declared.tails.LeftOut.{LeftOut}
use Rattle.study_tails.specs.declared.blocks.GameLeftOut.{GameLeftOut}
use Rattle.study_tails.specs.Study.{WideStudy}
use Rattle.study_tails.specs.Tails.{tails, tail}
use Rattle.study_tails.specs.Blocks.{game_reason}
use Rattle.study_import.specs.FewMen.{Ended}
use Rattle.study_import.specs.declared.importer.Choice.{Choice}
use Rattle.study_import.specs.Tails.{Tail, position_text}
use Rattle.study_import.specs.Blocks.{six_names, tag_value_text, aim_of_game, repeated_name, game_read, text_up_to, language_of, text_in, fen_in, tail_of}
use Rattle.study_import.specs.Blocks.{WideRead, wide_read, wide_study, wide_language_of, initial_fen}

-- the texts of the six tags; each is known, if only as `?`
abbrev pub tag_texts : List Pair → List (Option (List ℕ))
tag_texts tags = map (λ name. Some (tag_value_text name (value_of (tag_name name) tags))) six_names

abbrev pub study_aimed : Start → List Pair → Ended → Option Aim → Option PlainStudy
study_aimed start tags x None = None
study_aimed start tags x (Some aim) =
    Some (record { start = start; stipulation = aim.stipulation; tags = tag_texts tags; tree = x.game.reading.study.tree })

abbrev pub study_of_moves : Option Stipulation → List Pair → Start → Result Ended MovesFault → Option PlainStudy
study_of_moves given tags start (Err fault) = None
study_of_moves given tags start (Ok x) = study_aimed start tags x (aim_of_game given tags start.position.to_move x.game.notes)

-- of a game with a fault, if it is asked for, the moves before the fault
unfoldable pub study_up_to : Choice → List ℕ → Start → MovesFault → Option PlainStudy
study_up_to c text start fault =
    if c.up_to_faults then study_of_moves c.given (tags_of text) start (game_read (text_up_to text fault.left) start) else None

abbrev pub study_read : Choice → List ℕ → Start → Result Ended MovesFault → Option PlainStudy
study_read c text start (Err fault) = study_up_to c text start fault
study_read c text start (Ok x) = study_of_moves c.given (tags_of text) start (Ok x)

-- ---- a game with more men, or with rights to castle

-- the study of a tail, if it has one
abbrev pub tail_study : Result PlainStudy LeftOut → Option PlainStudy
tail_study (Ok u) = Some u
tail_study (Err why) = None

-- one for each tail; `None` for a tail that is left out, and once for a game that is
abbrev pub tail_studies : WideStudy → Option GameLeftOut → List (Option PlainStudy)
tail_studies s (Some why) = None ∷ []
tail_studies s None = map (λ path. tail_study (tail s path)) (tails s)

abbrev pub wide_studies_aimed : List Pair → WideStudy → Option Aim → List (Option PlainStudy)
wide_studies_aimed tags s None = None ∷ []
wide_studies_aimed tags s (Some aim) = tail_studies (wide_study tags aim.stipulation s) (game_reason (wide_study tags aim.stipulation s))

abbrev pub wide_studies_of_moves : Option Stipulation → List Pair → WideStart → Result WideRead MovesFault → List (Option PlainStudy)
wide_studies_of_moves given tags start (Err fault) = None ∷ []
wide_studies_of_moves given tags start (Ok x) = wide_studies_aimed tags x.study (aim_of_game given tags start.position.board.to_move x.notes)

unfoldable pub wide_studies_up_to : Choice → List ℕ → WideStart → MovesFault → List (Option PlainStudy)
wide_studies_up_to c text start fault =
    if c.up_to_faults then wide_studies_of_moves c.given (tags_of text) start (wide_read (text_up_to text fault.left) start) else None ∷ []

abbrev pub wide_studies_read : Choice → List ℕ → WideStart → Result WideRead MovesFault → List (Option PlainStudy)
wide_studies_read c text start (Err fault) = wide_studies_up_to c text start fault
wide_studies_read c text start (Ok x) = wide_studies_of_moves c.given (tags_of text) start (Ok x)

abbrev pub wide_studies_begun : Choice → List ℕ → Result WideStart FenFault → List (Option PlainStudy)
wide_studies_begun c text (Err fault) = None ∷ []
wide_studies_begun c text (Ok start) = wide_studies_read c text start (wide_read (text_in (wide_language_of text start) text) start)

-- ---- a game

abbrev pub studies_begun : Choice → List ℕ → List ℕ → Result Start FenFault → List (Option PlainStudy)
studies_begun c text fen (Err fault.TooManyMen) = wide_studies_begun c text (wide_start_of fen)
studies_begun c text fen (Err fault.Castling) = wide_studies_begun c text (wide_start_of fen)
studies_begun c text fen (Err other) = None ∷ []
studies_begun c text fen (Ok start) = study_read c text start (game_read (text_in (language_of text start) text) start) ∷ []

abbrev pub studies_with_fen : Choice → List ℕ → Option (List ℕ) → List (Option PlainStudy)
studies_with_fen c text None = wide_studies_begun c text (wide_start_of initial_fen)
studies_with_fen c text (Some value) = studies_begun c text (fen_in value) (start_of (fen_in value))

abbrev pub studies_unless_repeated : Choice → List ℕ → List Pair → Option (List ℕ) → List (Option PlainStudy)
studies_unless_repeated c text tags (Some name) = None ∷ []
studies_unless_repeated c text tags None = studies_with_fen c text (value_of (codes "FEN") tags)

abbrev pub studies_behind_header : Choice → List ℕ → Option HeaderFault → List (Option PlainStudy)
studies_behind_header c text (Some fault) = None ∷ []
studies_behind_header c text None =
    if length (tags_of text) == 0 then None ∷ [] else studies_unless_repeated c text (tags_of text) (repeated_name (tags_of text))

-- of a game with at most four men one study: the start of its FEN, its stipulation, its tags and its tree; of one with more one for each tail, in order;
-- `None` for a tail that is left out, and once for a game that is
unfoldable pub studies_in : Choice → List ℕ → List (Option PlainStudy)
studies_in c text = studies_behind_header c text (header_fault text)

-- the same for a game that may have too many bytes
abbrev pub studies_of_game : Choice → Option (List ℕ) → List (Option PlainStudy)
studies_of_game c None = None ∷ []
studies_of_game c (Some text) = studies_in c text

-- the same for a game that begins where a comment states its position
abbrev pub studies_of_tail : Choice → Option (List ℕ) → Option Tail → List (Option PlainStudy)
studies_of_tail c text None = studies_of_game c text
studies_of_tail c text (Some t) = studies_begun c t.text (position_text t.position) (start_of (position_text t.position))

abbrev pub studies_by : Choice → Option (List ℕ) → List (Option PlainStudy)
studies_by c text = studies_of_tail c text (tail_of c.tails text)
