-- The words of refusals.
use Rattle.std.specs.Prelude.{ℕ, List, [], ◌++◌, codes, decimal}
use Rattle.study_material.specs.Class.{name_of}
use Rattle.study_notation.specs.declared.fault.FenFault.{FenFault}
use Rattle.study_notation.specs.declared.fault.FenFault.TheVariants as fen
use Rattle.study_notation.specs.declared.fault.SanFault.{SanFault}
use Rattle.study_notation.specs.declared.fault.SanFault.TheVariants as san
use Rattle.study_values.specs.declared.fault.FileFault.{FileFault}
use Rattle.study_values.specs.declared.fault.FileFault.TheVariants as file
use Rattle.study_values.specs.declared.fault.SourceFault.TheVariants as source
use Rattle.study_values.specs.declared.values.ProbeFault.{ProbeFault}
use Rattle.study_values.specs.declared.values.ProbeFault.TheVariants as probe
use Rattle.study_command.specs.declared.command.SyntaxFault.{SyntaxFault}
use Rattle.study_command.specs.declared.command.SyntaxFault.TheVariants as form
use Rattle.study_text.specs.Paths.{path_text}
use Rattle.study_marks.specs.declared.refusal.Refusal.{Refusal as EditRefusal}
use Rattle.study_marks.specs.declared.refusal.Refusal.TheVariants as edit
use Rattle.study_reply.specs.declared.refusal.Refusal.{Refusal}
use Rattle.study_reply.specs.declared.refusal.Refusal.TheVariants.{Form, NoPosition, NoStudy, OutOfMemory}
use Rattle.study_reply.specs.declared.refusal.Refusal.TheVariants.{PagedMode, NotAClass, NoSuchNode, Fen, San}
use Rattle.study_reply.specs.declared.refusal.Refusal.TheVariants.{RootNotAllowed, AlreadyFirst, IllegalMove}
use Rattle.study_reply.specs.declared.refusal.Refusal.TheVariants.{AlreadyThere, TooDeep, TreeFull, TagText}
use Rattle.study_reply.specs.declared.refusal.Refusal.TheVariants.{NoTable, MissingTable, AlreadyHeld, OtherClass}
use Rattle.study_reply.specs.declared.refusal.Refusal.TheVariants.{NoFile, Device, File, TableRead, TableReadPage}
use Rattle.study_reply.specs.declared.refusal.Refusal.TheVariants.{DistanceTooLarge}
use Rattle.study_reply.specs.declared.refusal.Argument.{Argument}
use Rattle.study_reply.specs.declared.refusal.Argument.TheVariants.{None as NoArgument, Class as OfClass, Number}

abbrev pub form_name : SyntaxFault → List ℕ
form_name form.BadByte = codes "BadByte"
form_name form.UnknownCommand = codes "UnknownCommand"
form_name form.BadArguments = codes "BadArguments"
form_name form.UnknownStipulation = codes "UnknownStipulation"
form_name form.UnknownTag = codes "UnknownTag"

abbrev pub fen_name : FenFault → List ℕ
fen_name fen.FieldCount = codes "FieldCount"
fen_name fen.Placement = codes "Placement"
fen_name fen.TooManyMen = codes "TooManyMen"
fen_name fen.KingCount = codes "KingCount"
fen_name fen.PawnOnEndRank = codes "PawnOnEndRank"
fen_name fen.SideField = codes "SideField"
fen_name fen.OpponentInCheck = codes "OpponentInCheck"
fen_name fen.Castling = codes "Castling"
fen_name fen.EnPassantField = codes "EnPassantField"
fen_name fen.EnPassantImpossible = codes "EnPassantImpossible"
fen_name fen.Clock = codes "Clock"
fen_name fen.MoveNumber = codes "MoveNumber"

abbrev pub san_name : SanFault → List ℕ
san_name san.NotSan = codes "NotSan"
san_name san.CastlingLeftOut = codes "CastlingLeftOut"
san_name san.NoSuchMove = codes "NoSuchMove"
san_name san.Ambiguous = codes "Ambiguous"

abbrev pub file_name : FileFault → List ℕ
file_name file.Cut = codes "Cut"
file_name file.NotATable = codes "NotATable"
file_name (file.Version n) = codes "Version "
file_name file.ClassUnknown = codes "ClassUnknown"
file_name file.HeaderDamaged = codes "HeaderDamaged"
file_name file.OutOfMemory = codes "OutOfMemory"
file_name (file.PageDamaged n) = codes "PageDamaged "
file_name file.Padding = codes "Padding"
file_name file.TrailingBytes = codes "TrailingBytes"
file_name file.Device = codes "Device"

-- the name, with a space if an argument follows
abbrev pub name_text : Refusal → List ℕ
name_text (Form fault) = form_name fault
name_text NoPosition = codes "NoPosition"
name_text NoStudy = codes "NoStudy"
name_text OutOfMemory = codes "OutOfMemory"
name_text PagedMode = codes "PagedMode"
name_text NotAClass = codes "NotAClass"
name_text NoSuchNode = codes "NoSuchNode"
name_text (Fen fault) = fen_name fault
name_text (San fault) = san_name fault
name_text RootNotAllowed = codes "RootNotAllowed"
name_text AlreadyFirst = codes "AlreadyFirst"
name_text IllegalMove = codes "IllegalMove"
name_text (AlreadyThere k) = codes "AlreadyThere "
name_text TooDeep = codes "TooDeep"
name_text TreeFull = codes "TreeFull"
name_text TagText = codes "TagText"
name_text (NoTable c) = codes "NoTable "
name_text (MissingTable c) = codes "MissingTable "
name_text (AlreadyHeld c) = codes "AlreadyHeld "
name_text (OtherClass c) = codes "OtherClass "
name_text NoFile = codes "NoFile"
name_text Device = codes "Device"
name_text (File fault) = file_name fault
name_text (TableRead source.Device) = codes "TableRead Device"
name_text (TableRead source.Short) = codes "TableRead Short"
name_text (TableReadPage n) = codes "TableRead Page "
name_text DistanceTooLarge = codes "DistanceTooLarge"

abbrev pub file_argument : FileFault → Argument
file_argument (file.Version n) = Number n
file_argument (file.PageDamaged n) = Number n
file_argument _ = NoArgument

-- the argument after the name
abbrev pub argument_of : Refusal → Argument
argument_of (AlreadyThere k) = Number k
argument_of (NoTable c) = OfClass c
argument_of (MissingTable c) = OfClass c
argument_of (AlreadyHeld c) = OfClass c
argument_of (OtherClass c) = OfClass c
argument_of (File fault) = file_argument fault
argument_of (TableReadPage n) = Number n
argument_of _ = NoArgument

abbrev pub argument_text : Argument → List ℕ
argument_text NoArgument = []
argument_text (OfClass c) = name_of c
argument_text (Number n) = decimal n

-- a refusal in the words of a reply
unfoldable pub words_of : Refusal → List ℕ
words_of refusal = name_text refusal ++ argument_text (argument_of refusal)

-- ---- the refusals of other crates

abbrev pub of_probe : ProbeFault → Refusal
of_probe (probe.NoTable c) = NoTable c
of_probe (probe.TableRead fault) = TableRead fault
of_probe (probe.PageDamaged c n) = TableReadPage n

-- the refusal of an edit, in words
abbrev pub edit_words : {A : Type 0} → EditRefusal A → List ℕ
edit_words edit.NoSuchNode = words_of NoSuchNode
edit_words edit.RootNotAllowed = words_of RootNotAllowed
edit_words edit.AlreadyFirst = words_of AlreadyFirst
edit_words edit.IllegalMove = words_of IllegalMove
edit_words (edit.AlreadyThere k) = words_of (AlreadyThere k)
edit_words edit.TooDeep = words_of TooDeep
edit_words edit.TreeFull = words_of TreeFull
edit_words (edit.ShiftBroken steps) = codes "ShiftBroken " ++ path_text steps
edit_words edit.TagText = words_of TagText
edit_words edit.OutOfMemory = words_of OutOfMemory
edit_words (edit.NoTable c) = words_of (NoTable c)
edit_words (edit.TableRead fault) = words_of (of_probe fault)
