-- The document after a command, whatever the tables say.
use Rattle.std.proofs.Common.{◌≡◌, Bool, true, false, ◌&&◌, List, ℕ, Option, Some, None, Result, Ok, Err, refl, sym, ap, ◌∙◌}
use Rattle.std.specs.Prelude.{is_err, if◌then◌else◌}
use Rattle.study_marks.specs.declared.refusal.Refusal.{Refusal as EditRefusal}
use Rattle.study_marks.specs.Edits.{PlainStudy}
use Rattle.study_command.specs.Documents.{Document, empty, study, unless_refused, IsAfter}
use Rattle.study_command.specs.Parser.{Asked, command_of}
use Rattle.study_reply.specs.declared.reply.Reply.{Reply as Done}
use Rattle.study_reply.specs.declared.reply.LineRefusal.{LineRefusal}
use Rattle.study_reply.specs.Replied.{of_command}
use Rattle.study_script.specs.declared.document.Document.{Document as HeldDocument}
use Rattle.study_script.specs.declared.document.Document.TheVariants as held
use Rattle.study_script.specs.Replies.{begins_position}
use Rattle.study_script.specs.SessionHolds.{document_seen}
use Rattle.study_script.specs.Executed.{Leaves, LeavesLine, LeavesRuled, LeavesApart}

-- an edit that no rule refuses gives the study after it
pub ruled_after : (why : Option (EditRefusal (Unit {0}))) (new plain : PlainStudy) → why ≡ None → plain ≡ new → unless_refused why new ≡ Some (study plain)
ruled_after why new plain e f = ap (λ w. unless_refused w new) e ∙ ap (λ s. Some (study s)) (sym f)

module _ {T E : Type 0} where
  -- a command that is one edit
  pub leaves_ruled : (r : Result T E) (asked : Asked) (ruled : Option Document) (old new : Document) → (ruled ≡ Some new → IsAfter old asked new)
      → LeavesRuled r ruled old new → Leaves r asked old new
  leaves_ruled (Ok x) asked ruled old new f h = f h
  leaves_ruled (Err e) asked ruled old new f h = h

  -- a command that edits nothing
  pub leaves_same : (r : Result T E) (asked : Asked) (old : Document) → IsAfter old asked old → Leaves r asked old old
  leaves_same (Ok x) asked old h = h
  leaves_same (Err e) asked old h = refl

  -- a line after which the document was emptied, or was not
  pub leaves_apart : {A : Type 0} (r : Result T E) (line : List ℕ) (refused : Bool) (old : Document) (b c : HeldDocument A) → refused ≡ is_err r
      → (refused && begins_position line ≡ true → c ≡ held.Empty) → (refused && begins_position line ≡ false → c ≡ b)
      → LeavesLine r (command_of line) old (document_seen b) → LeavesApart r line old (document_seen c)
  leaves_apart (Ok x) line true old b c e f g h = absurd cc
  leaves_apart (Ok x) line false old b c e f g h = rw (g refl) h
  leaves_apart (Err x) line false old b c e f g h = absurd cc
  leaves_apart (Err x) line true old b c e f g h = go (begins_position line) f g
    where
      go : (begins : Bool) → (begins ≡ true → c ≡ held.Empty) → (begins ≡ false → c ≡ b) → document_seen c ≡ (if begins then empty else old)
      go true f g = ap document_seen (f refl)
      go false f g = ap document_seen (g refl) ∙ h

-- the line of a command
pub leaves_line : {A : Type 0} (answer : Result (Done A) (LineRefusal A)) (asked : Asked) (old new : Document) → Leaves answer asked old new
    → LeavesLine (of_command answer) (Ok (Some asked)) old new
leaves_line (Ok reply) asked old new h = h
leaves_line (Err refused) asked old new h = h
