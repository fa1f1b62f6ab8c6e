-- The output of a run, whatever its state and its files are.
use Rattle.std.specs.Prelude.{◌≡◌, ◌⊎◌, ℕ, ◌+◌, ◌-◌, ◌≤◌, Bool, true, false, List, [], ◌∷◌, length, take, drop}
use Rattle.std.specs.Prelude.{slice_get, Option, Some, None, Result, Ok, Err, count_by, codes, IsSomeAnd}
use Rattle.std.specs.List.{flat_map, list_any}
use Rattle.std.specs.Str.{bytes_eq}
use Rattle.std.specs.Io.KnownBytes.{Appends, Keeps}
use Rattle.study_text.specs.Taken.{TakesPrefix}
use Rattle.study_command.specs.Lines.{script_lines, GaveFeeds}
use Rattle.study_command.specs.Parser.{Asks, command_of}
use Rattle.study_reply.specs.declared.refusal.Refusal.TheVariants.{Form}
use Rattle.study_reply.specs.Names.{words_of}
use Rattle.study_reply.specs.Words.{reply_line, ends_line}
use Rattle.study_script.specs.declared.running.Summary.{Summary}
use Rattle.study_script.specs.declared.running.RunFault.{RunFault}
use Rattle.study_script.specs.declared.running.RunFault.TheVariants.{ReadDevice, WriteDevice, LineTooLong, TooManyLines, OutOfMemory}
use Rattle.study_script.specs.Outcome.{AreLeft}

-- the output for a line, and whether the line counts as refused
pub record Piece : Type 0 where
  pub text : List ℕ
  pub refused : Bool

abbrev pub silent_piece : Piece
silent_piece = record { text = []; refused = false }

-- `error NAME`
abbrev pub error_of : List ℕ → Piece
error_of words = record { text = reply_line (codes "error ") words; refused = true }

-- the first words of replies to successful commands
abbrev pub fronts : List (List ℕ)
fronts =
    codes "position " ∷ codes "shift " ∷ codes "stipulate " ∷ codes "insert " ∷ codes "delete " ∷ codes "promote " ∷ codes "tag "
    ∷ codes "mark " ∷ codes "moves " ∷ codes "fen " ∷ codes "solve " ∷ codes "[Event \"" ∷ codes "built " ∷ codes "loaded " ∷ codes "saved "
    ∷ codes "verified " ∷ []

-- a reply to a successful command, which ends with a line feed; it does not begin as an error does
abbrev pub IsDone : List ℕ → Type 0
IsDone text = (front : List ℕ) × (list_any (bytes_eq front) fronts ≡ true) × (take (length front) text ≡ front) × (ends_line text ≡ true)

-- nothing for a line without a command, the fault of its form for a line with one, and for a command its reply or an error
abbrev pub IsPieceWhere : Asks → Piece → Type 0
IsPieceWhere (Ok None) piece = piece ≡ silent_piece
IsPieceWhere (Ok (Some asked)) piece = ((words : List ℕ) × (piece ≡ error_of words)) ⊎ (IsDone piece.text × (piece.refused ≡ false))
IsPieceWhere (Err fault) piece = piece ≡ error_of (words_of (Form fault))

abbrev pub IsPiece : List ℕ → Piece → Type 0
IsPiece line piece = IsPieceWhere (command_of line) piece

-- a piece for each line
abbrev pub ArePieces : List (List ℕ) → List Piece → Type 0
ArePieces [] [] = Unit {0}
ArePieces [] (piece ∷ more) = ⊥
ArePieces (line ∷ lines) [] = ⊥
ArePieces (line ∷ lines) (piece ∷ more) = IsPiece line piece × ArePieces lines more

abbrev pub pieces_text : List Piece → List ℕ
pieces_text pieces = flat_map (λ piece. piece.text) pieces

abbrev pub refused_count : List Piece → ℕ
refused_count pieces = count_by (λ piece. piece.refused) pieces

-- the piece of a line is written, and the line was refused as the piece says
abbrev pub IsWritten : List ℕ → Option (List ℕ) → Option (List ℕ) → Bool → Type 0
IsWritten line old new was_refused = (piece : Piece) × IsPiece line piece × Appends old new piece.text × (was_refused ≡ piece.refused)

-- the piece of a line is written in part
abbrev pub IsCutOff : List ℕ → Option (List ℕ) → Option (List ℕ) → Type 0
IsCutOff line old new = (piece : Piece) × IsPiece line piece × TakesPrefix old new piece.text

-- a piece for each of these lines is written, and the count is the number of errors among them
abbrev pub AreWritten : List (List ℕ) → Option (List ℕ) → Option (List ℕ) → ℕ → Type 0
AreWritten lines old new count =
    (pieces : List Piece) × ArePieces lines pieces × Appends old new (pieces_text pieces) × (count ≡ refused_count pieces)

-- The output of a run, given the bytes of its script, the bytes left in the reader, the writer's bytes before and after, and the result: a piece for each
-- line that was read, and as many errors among them as the run counts. So the run reports no refusal exactly if it wrote none.
abbrev pub Fits : List ℕ → Option (List ℕ) → Option (List ℕ) → Option (List ℕ) → Result Summary RunFault → Type 0
Fits script left old new (Ok summary) = AreWritten (script_lines script) old new summary.refused
Fits script left old new (Err ReadDevice) =
    (n : ℕ) × (n ≤ length (script_lines script)) × GaveFeeds (Some script) left n
    × (count : ℕ) × AreWritten (take n (script_lines script)) old new count
Fits script left old new (Err WriteDevice) =
    (n : ℕ) × AreLeft left (drop (n + 1) (script_lines script))
    × IsSomeAnd (slice_get (script_lines script) n) (λ line. (mid : Option (List ℕ)) × (count : ℕ)
    × AreWritten (take n (script_lines script)) old mid count × IsCutOff line mid new)
Fits script left old new (Err (LineTooLong n)) = (count : ℕ) × AreWritten (take (n - 1) (script_lines script)) old new count
Fits script left old new (Err TooManyLines) = (count : ℕ) × AreWritten (take 100000 (script_lines script)) old new count
Fits script left old new (Err OutOfMemory) = Keeps old new
