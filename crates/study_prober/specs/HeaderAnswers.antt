-- Why a source is refused.
use Rattle.std.specs.Prelude.{◌≡◌, ℕ, ◌==◌, List, Bool, true, false, ⊤, Option, Some, None, Result, Ok, Err, IfErr, IsErrOf, MatchOption, if◌then◌else◌}
use Rattle.study_material.specs.declared.class.Class.{Class}
use Rattle.study_material.specs.Class.{class_number}
use Rattle.study_table.specs.Table.{Table}
use Rattle.study_values.specs.declared.fault.SourceFault.{SourceFault}
use Rattle.study_values.specs.declared.fault.FileFault.{FileFault}
use Rattle.study_tablefile.specs.declared.page_source.Header.{Header}
use Rattle.study_text.specs.Counts.{next_count}
use Rattle.study_tablefile.specs.PageSource.{of_header}
use Rattle.study_tablefile.specs.Format.{header_text}
use Rattle.study_tablefile.specs.Reading.{version_of, class_read}
use Rattle.study_prober.specs.Sources.{GivesOf, HonestOf}
use Rattle.study_prober.specs.declared.fault.PagedFault.{PagedFault}
use Rattle.study_prober.specs.declared.fault.PagedFault.TheVariants.{AlreadyHeld, TableRead, Header as BadHeader, OtherClass, OutOfMemory}

-- the possible answers of a source to the request for its header: a fault, or bytes, which are the header of each table for which it is honest
abbrev pub MayTell : {S : Type 0} → HonestOf S → S → Result (List ℕ) SourceFault → Type 0
MayTell honest source (Err fault) = ⊤
MayTell honest source (Ok bytes) = (t : Table) (v : ℕ) → honest source t v → bytes ≡ header_text t.class v

-- the possible answers of this source to the request for its header
abbrev pub MayAnswer : {S : Type 0} → GivesOf S → HonestOf S → S → Result (List ℕ) SourceFault → Type 0
MayAnswer gives honest source reported = gives source of_header reported × MayTell honest source reported

abbrev pub class_fault : Class → Result Class FileFault → Option PagedFault
class_fault c (Err fault) = Some (BadHeader fault)
class_fault c (Ok d) = if class_number d == class_number c then None else Some (OtherClass d)

abbrev pub header_fault : Class → Result (List ℕ) SourceFault → Option PagedFault
header_fault c (Err fault) = Some (TableRead fault)
header_fault c (Ok bytes) = class_fault c (class_read bytes)

-- the first fault of a source for a class, by whether the class has a source already and the source's answer
abbrev pub paged_fault : Bool → Class → Result (List ℕ) SourceFault → Option PagedFault
paged_fault held c reported = if held then Some (AlreadyHeld c) else header_fault c reported

-- the result of adding a source, by its first fault: that fault, or otherwise success or want of memory
abbrev pub IsRefusedBy : Option PagedFault → Result (Unit {0}) PagedFault → Type 0
IsRefusedBy first answer = MatchOption first (IfErr answer (λ fault. fault ≡ OutOfMemory)) (λ fault. IsErrOf answer fault)

-- the result of the request for a header, by the source's answer
abbrev pub IsReported : Result (List ℕ) SourceFault → Result Header PagedFault → Type 0
IsReported (Err fault) answer = answer ≡ Err (TableRead fault)
IsReported (Ok bytes) (Ok h) = (class_read bytes ≡ Ok h.class) × (version_of bytes ≡ h.version)
IsReported (Ok bytes) (Err fault) = (e : FileFault) × (fault ≡ BadHeader e) × (class_read bytes ≡ Err e)

-- the result of the request for a header to a source that is honest for a table of the class in this version: its header, or a device's fault
abbrev pub IsHonestHeader : Result Header PagedFault → Class → ℕ → Type 0
IsHonestHeader (Ok h) c v = (h.class ≡ c) × (h.version ≡ v)
IsHonestHeader (Err fault) c v = (f : SourceFault) × (fault ≡ TableRead f)

-- the result is that a source returned no header
abbrev pub is_unread : {T : Type 0} → Result T PagedFault → Bool
is_unread (Ok x) = false
is_unread (Err (AlreadyHeld c)) = false
is_unread (Err (TableRead f)) = true
is_unread (Err (BadHeader f)) = false
is_unread (Err (OtherClass c)) = false
is_unread (Err OutOfMemory) = false

-- the number of failures of a source after such a result
abbrev pub unread_after : {T : Type 0} → ℕ → Result T PagedFault → ℕ
unread_after count answer = if is_unread answer then next_count count else count
