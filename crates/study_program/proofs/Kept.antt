-- A flushed writer has everything that a run wrote.
use Rattle.std.proofs.Common.{ℕ, Bool, false, List, Option, None, Some, Result, Ok, Err, IfSome, IsSomeAnd}
use Rattle.std.specs.Io.KnownBytes.{Keeps}
use Rattle.std.proofs.KnownBytes.{Appends-kept, Keeps-trans}
use Rattle.study_script.specs.declared.running.Summary.{Summary}
use Rattle.study_script.specs.declared.running.RunFault.{RunFault}
use Rattle.study_script.specs.declared.running.RunFault.TheVariants.{ReadDevice, WriteDevice, LineTooLong, TooManyLines, OutOfMemory}
use Rattle.study_script.specs.State.{State}
use Rattle.study_script.specs.Stores.{AreTrusted}
use Rattle.study_script.specs.Replies.{replies_text}
use Rattle.study_script.specs.Outcome.{Outcome, Shape, AreAnswered, AreBrokenOff, initial_state}
use Rattle.study_script.specs.Written.{AreWritten, IsCutOff, Fits, pieces_text}
use Rattle.study_program.specs.Ended.{HasRun, nothing_known}

AreAnswered-kept : (separate : Bool) (first : State) (lines : List (List ℕ)) (old mid new : Option (List ℕ)) → Keeps mid new
    → AreAnswered separate first lines old mid → AreAnswered separate first lines old new
AreAnswered-kept separate first lines old mid new kept (short, replies, right, written) =
    (short, replies, right, Appends-kept old mid new (replies_text replies) written kept)

AreBrokenOff-kept : (separate : Bool) (first : State) (lines : List (List ℕ)) (line : List ℕ) (old mid new : Option (List ℕ)) → Keeps mid new
    → AreBrokenOff separate first lines line old mid → AreBrokenOff separate first lines line old new
AreBrokenOff-kept separate first lines line old mid new kept (short, few, replies, right, before, written, o, reply, is, (front, byte, back, parts, taken)) =
    (short, few, replies, right, before, written, o, reply, is, (front, byte, back, parts, Appends-kept before mid new front taken kept))

some_kept : {A : Type 0} {P Q : A → Type 0} (o : Option A) → ((x : A) → P x → Q x) → IsSomeAnd o P → IsSomeAnd o Q
some_kept None weaker h = h
some_kept (Some x) weaker h = weaker x h

pub Outcome-kept : (separate : Bool) (first : State) (script : List ℕ) (left old mid new : Option (List ℕ)) (answer : Result Summary RunFault) → Keeps mid new
    → Outcome separate first script left old mid answer → Outcome separate first script left old new answer
Outcome-kept separate first script left old mid new (Ok summary) kept (few, short, replies, right, written, lines, refused) =
    (few, short, replies, right, Appends-kept old mid new (replies_text replies) written kept, lines, refused)
Outcome-kept separate first script left old mid new (Err ReadDevice) kept (n, few, within, fed, rest, same, begun, answered) =
    (n, few, within, fed, rest, same, begun, AreAnswered-kept separate first _ old mid new kept answered)
Outcome-kept separate first script left old mid new (Err WriteDevice) kept (n, few, fed, after, broken) =
    (n, few, fed, after, some_kept _ (λ line. AreBrokenOff-kept separate first _ line old mid new kept) broken)
Outcome-kept separate first script left old mid new (Err (LineTooLong n)) kept (some, few, long, answered) =
    (some, few, long, AreAnswered-kept separate first _ old mid new kept answered)
Outcome-kept separate first script left old mid new (Err TooManyLines) kept (many, answered) = (
  many,
  AreAnswered-kept separate first _ old mid new kept answered,
)
Outcome-kept separate first script left old mid new (Err OutOfMemory) kept (written, same) = (Keeps-trans old mid new written kept, same)

AreWritten-kept : (lines : List (List ℕ)) (old mid new : Option (List ℕ)) (count : ℕ) → Keeps mid new → AreWritten lines old mid count
    → AreWritten lines old new count
AreWritten-kept lines old mid new count kept (pieces, are, wrote, counted) =
    (pieces, are, Appends-kept old mid new (pieces_text pieces) wrote kept, counted)

IsCutOff-kept : (line : List ℕ) (old mid new : Option (List ℕ)) → Keeps mid new → IsCutOff line old mid → IsCutOff line old new
IsCutOff-kept line old mid new kept (piece, is, (front, byte, back, parts, taken)) =
    (piece, is, (front, byte, back, parts, Appends-kept old mid new front taken kept))

cut_kept : (lines : List (List ℕ)) (line : List ℕ) (old mid new : Option (List ℕ)) → Keeps mid new
    → (before : Option (List ℕ)) × (count : ℕ) × AreWritten lines old before count × IsCutOff line before mid
    → (before : Option (List ℕ)) × (count : ℕ) × AreWritten lines old before count × IsCutOff line before new
cut_kept lines line old mid new kept (before, count, h, part) = (before, count, h, IsCutOff-kept line before mid new kept part)

pub Fits-kept : (script : List ℕ) (left old mid new : Option (List ℕ)) (answer : Result Summary RunFault) → Keeps mid new
    → Fits script left old mid answer → Fits script left old new answer
Fits-kept script left old mid new (Ok summary) kept h = AreWritten-kept _ old mid new summary.refused kept h
Fits-kept script left old mid new (Err ReadDevice) kept (n, within, fed, count, h) = (n, within, fed, count, AreWritten-kept _ old mid new count kept h)
Fits-kept script left old mid new (Err WriteDevice) kept (n, after, broken) =
    (n, after, some_kept _ (λ line. cut_kept _ line old mid new kept) broken)
Fits-kept script left old mid new (Err (LineTooLong n)) kept (count, h) = (count, AreWritten-kept _ old mid new count kept h)
Fits-kept script left old mid new (Err TooManyLines) kept (count, h) = (count, AreWritten-kept _ old mid new count kept h)
Fits-kept script left old mid new (Err OutOfMemory) kept h = Keeps-trans old mid new h kept

pub HasRun-kept : (by_pages separate : Bool) (script left old mid new : Option (List ℕ)) (answer : Result Summary RunFault) → Keeps mid new
    → HasRun by_pages separate script left old mid answer → HasRun by_pages separate script left old new answer
HasRun-kept by_pages separate None left old mid new answer kept h = h
HasRun-kept by_pages separate (Some bytes) left old mid new answer kept (shape, fits, outcome) =
    (shape, Fits-kept bytes left old mid new answer kept fits, λ trusted. Outcome-kept separate _ bytes left old mid new answer kept (outcome trusted))

pub HasRun-both : (by_pages separate : Bool) (script left old new : Option (List ℕ)) (answer : Result Summary RunFault)
    → IfSome script (λ bytes. Shape bytes left answer)
    → IfSome script (λ bytes. Fits bytes left old new answer)
    → IfSome script (λ bytes. AreTrusted (λ c. false) bytes → Outcome separate (initial_state nothing_known by_pages) bytes left old new answer)
    → HasRun by_pages separate script left old new answer
HasRun-both by_pages separate None left old new answer shape fits outcome = tt
HasRun-both by_pages separate (Some bytes) left old new answer shape fits outcome = (shape, fits, outcome)
