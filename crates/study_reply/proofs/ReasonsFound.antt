-- The reason of a refusal is found by its text.
use Rattle.std.proofs.Common.{◌≡◌, refl, sym}
use Rattle.study_notation.specs.declared.fault.FenFault.{FenFault}
use Rattle.study_notation.specs.declared.fault.FenFault.TheVariants as fen
use Rattle.study_notation.specs.declared.fault.SanFault.{SanFault}
use Rattle.study_notation.specs.declared.fault.SanFault.TheVariants as san
use Rattle.study_values.specs.declared.fault.FileFault.{FileFault}
use Rattle.study_values.specs.declared.fault.FileFault.TheVariants as file
use Rattle.study_values.specs.declared.fault.SourceFault.TheVariants as source
use Rattle.study_command.specs.declared.command.SyntaxFault.{SyntaxFault}
use Rattle.study_command.specs.declared.command.SyntaxFault.TheVariants as form
use Rattle.study_reply.specs.declared.refusal.Refusal.{Refusal}
use Rattle.study_reply.specs.declared.refusal.Refusal.TheVariants.{Form, NoPosition, NoStudy, OutOfMemory}
use Rattle.study_reply.specs.declared.refusal.Refusal.TheVariants.{PagedMode, NotAClass, NoSuchNode, Fen, San}
use Rattle.study_reply.specs.declared.refusal.Refusal.TheVariants.{RootNotAllowed, AlreadyFirst, IllegalMove}
use Rattle.study_reply.specs.declared.refusal.Refusal.TheVariants.{AlreadyThere, TooDeep, TreeFull, TagText}
use Rattle.study_reply.specs.declared.refusal.Refusal.TheVariants.{NoTable, MissingTable, AlreadyHeld, OtherClass}
use Rattle.study_reply.specs.declared.refusal.Refusal.TheVariants.{NoFile, Device, File, TableRead, TableReadPage}
use Rattle.study_reply.specs.declared.refusal.Refusal.TheVariants.{DistanceTooLarge}
use Rattle.study_marks.specs.declared.refusal.Refusal.{Refusal as EditRefusal}
use Rattle.study_marks.specs.declared.refusal.Refusal.TheVariants as edit
use Rattle.study_reply.specs.Names.{words_of, edit_words, of_probe}
use Rattle.study_reply.specs.Reasons.{reason_of, refusal_reason, edit_reason, explained_refusals, TextsHaveReasons}

of-form : (fault : SyntaxFault) → reason_of (words_of (Form fault)) ≡ refusal_reason (Form fault)
unfolding words_of reason_of explained_refusals
of-form form.BadByte = refl
of-form form.UnknownCommand = refl
of-form form.BadArguments = refl
of-form form.UnknownStipulation = refl
of-form form.UnknownTag = refl

of-fen : (fault : FenFault) → reason_of (words_of (Fen fault)) ≡ refusal_reason (Fen fault)
unfolding words_of reason_of explained_refusals
of-fen fen.FieldCount = refl
of-fen fen.Placement = refl
of-fen fen.TooManyMen = refl
of-fen fen.KingCount = refl
of-fen fen.PawnOnEndRank = refl
of-fen fen.SideField = refl
of-fen fen.OpponentInCheck = refl
of-fen fen.Castling = refl
of-fen fen.EnPassantField = refl
of-fen fen.EnPassantImpossible = refl
of-fen fen.Clock = refl
of-fen fen.MoveNumber = refl

of-san : (fault : SanFault) → reason_of (words_of (San fault)) ≡ refusal_reason (San fault)
unfolding words_of reason_of explained_refusals
of-san san.NotSan = refl
of-san san.CastlingLeftOut = refl
of-san san.NoSuchMove = refl
of-san san.Ambiguous = refl

of-file : (fault : FileFault) → reason_of (words_of (File fault)) ≡ refusal_reason (File fault)
unfolding words_of reason_of explained_refusals
of-file file.Cut = refl
of-file file.NotATable = refl
of-file (file.Version n) = refl
of-file file.ClassUnknown = refl
of-file file.HeaderDamaged = refl
of-file file.OutOfMemory = refl
of-file (file.PageDamaged n) = refl
of-file file.Padding = refl
of-file file.TrailingBytes = refl
of-file file.Device = refl

of-refusal : (r : Refusal) → reason_of (words_of r) ≡ refusal_reason r
unfolding words_of reason_of explained_refusals
of-refusal (Form fault) = of-form fault
of-refusal (Fen fault) = of-fen fault
of-refusal (San fault) = of-san fault
of-refusal (File fault) = of-file fault
of-refusal NoPosition = refl
of-refusal NoStudy = refl
of-refusal OutOfMemory = refl
of-refusal PagedMode = refl
of-refusal NotAClass = refl
of-refusal NoSuchNode = refl
of-refusal RootNotAllowed = refl
of-refusal AlreadyFirst = refl
of-refusal IllegalMove = refl
of-refusal (AlreadyThere k) = refl
of-refusal TooDeep = refl
of-refusal TreeFull = refl
of-refusal TagText = refl
of-refusal (NoTable c) = refl
of-refusal (MissingTable c) = refl
of-refusal (AlreadyHeld c) = refl
of-refusal (OtherClass c) = refl
of-refusal NoFile = refl
of-refusal Device = refl
of-refusal (TableRead source.Device) = refl
of-refusal (TableRead source.Short) = refl
of-refusal (TableReadPage n) = refl
of-refusal DistanceTooLarge = refl

pub texts-have-reasons : TextsHaveReasons
unfolding reason_of
texts-have-reasons = (of-refusal, λ steps. refl)

-- the reason of a refused edit is found by its text
pub of-edit : {A : Type 0} → TextsHaveReasons → (e : EditRefusal A) → edit_reason e ≡ reason_of (edit_words e)
of-edit law edit.NoSuchNode = sym (law.0 NoSuchNode)
of-edit law edit.RootNotAllowed = sym (law.0 RootNotAllowed)
of-edit law edit.AlreadyFirst = sym (law.0 AlreadyFirst)
of-edit law edit.IllegalMove = sym (law.0 IllegalMove)
of-edit law (edit.AlreadyThere k) = sym (law.0 (AlreadyThere k))
of-edit law edit.TooDeep = sym (law.0 TooDeep)
of-edit law edit.TreeFull = sym (law.0 TreeFull)
of-edit law (edit.ShiftBroken steps) = sym (law.1 steps)
of-edit law edit.TagText = sym (law.0 TagText)
of-edit law edit.OutOfMemory = sym (law.0 OutOfMemory)
of-edit law (edit.NoTable c) = sym (law.0 (NoTable c))
of-edit law (edit.TableRead fault) = sym (law.0 (of_probe fault))
