-- Why a line is refused, in words.
use Rattle.std.specs.Prelude.{◌≡◌, ℕ, ◌+◌, ◌==◌, List, [], ◌∷◌, ◌++◌, take, if◌then◌else◌, codes}
use Rattle.std.specs.Str.{bytes_eq}
use Rattle.study_material.specs.declared.class.Class.TheVariants.{KK}
use Rattle.study_notation.specs.declared.fault.FenFault.{FenFault}
use Rattle.study_notation.specs.declared.fault.FenFault.TheVariants as fen
use Rattle.study_notation.specs.declared.fault.SanFault.{SanFault}
use Rattle.study_notation.specs.declared.fault.SanFault.TheVariants as san
use Rattle.study_values.specs.declared.fault.FileFault.{FileFault}
use Rattle.study_values.specs.declared.fault.FileFault.TheVariants as file
use Rattle.study_values.specs.declared.fault.SourceFault.TheVariants as source
use Rattle.study_command.specs.declared.command.SyntaxFault.{SyntaxFault}
use Rattle.study_command.specs.declared.command.SyntaxFault.TheVariants as form
use Rattle.study_text.specs.Paths.{path_text}
use Rattle.study_reply.specs.declared.refusal.Refusal.{Refusal}
use Rattle.study_reply.specs.declared.refusal.Refusal.TheVariants.{Form, NoPosition, NoStudy, OutOfMemory}
use Rattle.study_reply.specs.declared.refusal.Refusal.TheVariants.{NotAClass, NoSuchNode, Fen, San}
use Rattle.study_reply.specs.declared.refusal.Refusal.TheVariants.{RootNotAllowed, AlreadyFirst}
use Rattle.study_reply.specs.declared.refusal.Refusal.TheVariants.{AlreadyThere, TooDeep, TreeFull, TagText}
use Rattle.study_reply.specs.declared.refusal.Refusal.TheVariants.{NoTable, File, TableRead, TableReadPage, IllegalMove}
use Rattle.study_marks.specs.declared.refusal.Refusal.{Refusal as EditRefusal}
use Rattle.study_marks.specs.declared.refusal.Refusal.TheVariants as edit
use Rattle.study_reply.specs.Names.{name_text, words_of, of_probe}

abbrev pub form_reason : SyntaxFault → List ℕ
form_reason form.BadByte = codes "a letter outside plain ASCII"
form_reason form.UnknownCommand = codes "the first word is no command"
form_reason form.BadArguments = codes "a word too few or too many, or a path or number not of its form"
form_reason form.UnknownStipulation = codes "no stipulation of a known form"
form_reason form.UnknownTag = codes "not one of the six tags"

abbrev pub fen_reason : FenFault → List ℕ
fen_reason fen.FieldCount = codes "not six fields, and not four"
fen_reason fen.Placement = codes "the first field does not fill eight ranks of eight squares"
fen_reason fen.TooManyMen = codes "more than four men"
fen_reason fen.KingCount = codes "not one king each"
fen_reason fen.PawnOnEndRank = codes "a pawn on the first or last rank"
fen_reason fen.SideField = codes "neither w nor b is to move"
fen_reason fen.OpponentInCheck = codes "the side that is not to move is in check"
fen_reason fen.Castling = codes "castling is left out: write -"
fen_reason fen.EnPassantField = codes "neither a square nor -"
fen_reason fen.EnPassantImpossible = codes "no pawn can just have passed over that square"
fen_reason fen.Clock = codes "not one to four digits"
fen_reason fen.MoveNumber = codes "not one to four digits"

abbrev pub san_reason : SanFault → List ℕ
san_reason san.NotSan = codes "not the text of a move, which stands without its number"
san_reason san.CastlingLeftOut = codes "castling is left out"
san_reason san.NoSuchMove = codes "no legal move of this position"
san_reason san.Ambiguous = codes "several men can make this move"

-- of a refusal without words of its own
abbrev pub default_reason : List ℕ
default_reason = codes "it cannot be done"

abbrev pub file_reason : FileFault → List ℕ
file_reason file.OutOfMemory = codes "no memory is left"
file_reason _ = default_reason

-- why a line is refused, in words
abbrev pub refusal_reason : Refusal → List ℕ
refusal_reason (Form fault) = form_reason fault
refusal_reason NoPosition = codes "no position yet"
refusal_reason NoStudy = codes "no stipulation yet"
refusal_reason OutOfMemory = codes "no memory is left"
refusal_reason NotAClass = codes "no such material, or its men in another order"
refusal_reason NoSuchNode = codes "no move stands at this place of the tree"
refusal_reason (Fen fault) = fen_reason fault
refusal_reason (San fault) = san_reason fault
refusal_reason RootNotAllowed = codes "the start can be neither deleted nor promoted"
refusal_reason AlreadyFirst = codes "it is the first already"
refusal_reason (AlreadyThere k) = codes "the move stands there already"
refusal_reason TooDeep = codes "more than 256 plies below the start"
refusal_reason TreeFull = codes "more than 4,096 nodes"
refusal_reason TagText = codes "more than 60 characters"
refusal_reason (NoTable c) = codes "the table of this material is not in the folder"
refusal_reason (File fault) = file_reason fault
refusal_reason (TableRead fault) = codes "the file of a table could not be read"
refusal_reason (TableReadPage n) = codes "the file of a table could not be read"
refusal_reason _ = default_reason

-- why a shift is refused after which a move of the tree would not be legal
abbrev pub shift_reason : List ℕ
shift_reason = codes "a move of the tree is not legal from the new start"

-- why an edit is refused, in words
abbrev pub edit_reason : {A : Type 0} → EditRefusal A → List ℕ
edit_reason edit.NoSuchNode = refusal_reason NoSuchNode
edit_reason edit.RootNotAllowed = refusal_reason RootNotAllowed
edit_reason edit.AlreadyFirst = refusal_reason AlreadyFirst
edit_reason edit.IllegalMove = refusal_reason IllegalMove
edit_reason (edit.AlreadyThere k) = refusal_reason (AlreadyThere k)
edit_reason edit.TooDeep = refusal_reason TooDeep
edit_reason edit.TreeFull = refusal_reason TreeFull
edit_reason (edit.ShiftBroken steps) = shift_reason
edit_reason edit.TagText = refusal_reason TagText
edit_reason edit.OutOfMemory = refusal_reason OutOfMemory
edit_reason (edit.NoTable c) = refusal_reason (NoTable c)
edit_reason (edit.TableRead fault) = refusal_reason (of_probe fault)

-- ---- the reason by the text of a refusal

-- the number of bytes before the first space
abbrev pub word_length : List ℕ → ℕ
word_length [] = 0
word_length (b ∷ rest) = if b == 32 then 0 else 1 + word_length rest

-- the first word
abbrev pub first_word : List ℕ → List ℕ
first_word text = take (word_length text) text

-- a refusal of each name that has words of its own
unfoldable pub explained_refusals : List Refusal
explained_refusals =
    Form form.BadByte ∷ Form form.UnknownCommand ∷ Form form.BadArguments ∷ Form form.UnknownStipulation ∷ Form form.UnknownTag ∷ TagText ∷
    NoPosition ∷ NoStudy ∷ NoSuchNode ∷ San san.NotSan ∷ San san.CastlingLeftOut ∷ San san.NoSuchMove ∷ San san.Ambiguous ∷ AlreadyThere 0 ∷
    RootNotAllowed ∷ AlreadyFirst ∷ TooDeep ∷ TreeFull ∷ Fen fen.FieldCount ∷ Fen fen.Placement ∷ Fen fen.TooManyMen ∷ Fen fen.KingCount ∷
    Fen fen.PawnOnEndRank ∷ Fen fen.SideField ∷ Fen fen.OpponentInCheck ∷ Fen fen.Castling ∷ Fen fen.EnPassantField ∷ Fen fen.EnPassantImpossible ∷
    Fen fen.Clock ∷ Fen fen.MoveNumber ∷ NotAClass ∷ NoTable KK ∷ TableRead source.Short ∷ OutOfMemory ∷ []

-- the reason of the first of these refusals whose name has this word first
abbrev pub reason_among : List Refusal → List ℕ → List ℕ
reason_among [] name = default_reason
reason_among (r ∷ rs) name = if bytes_eq (first_word (name_text r)) name then refusal_reason r else reason_among rs name

-- why a line is refused, by the text of the refusal: its first word decides
unfoldable pub reason_of : List ℕ → List ℕ
reason_of text = if bytes_eq (first_word text) (codes "ShiftBroken") then shift_reason else reason_among explained_refusals (first_word text)

-- law: the text of each refusal has its reason
abbrev pub TextsHaveReasons : Type 0
TextsHaveReasons =
    ((r : Refusal) → reason_of (words_of r) ≡ refusal_reason r)
    × ((steps : List ℕ) → reason_of (codes "ShiftBroken " ++ path_text steps) ≡ shift_reason)
