-- The knowledge of a store in memory: all its answers, except for a file that was opened to be written.
use Rattle.std.specs.Prelude.{◌≡◌, ℕ, ◌+◌, ◌*◌, nat_lt, Bool, true, false, List, length, take, slice_index_or, Option, Some, None, Result, Ok, Err}
use Rattle.study_material.specs.declared.class.Class.{Class}
use Rattle.study_material.specs.Class.{class_number}
use Rattle.study_table.specs.Table.{Table, IsComplete}
use Rattle.study_table.specs.Sound.{IsRight}
use Rattle.study_values.specs.declared.fault.SourceFault.{SourceFault}
use Rattle.study_values.specs.declared.fault.SourceFault.TheVariants as source
use Rattle.study_tablefile.specs.Format.{IsVersionOf, table_text}
use Rattle.study_values.specs.Size.{pages_of}
use Rattle.study_script.specs.declared.store.StoreFault.{StoreFault}
use Rattle.study_script.specs.declared.store.StoreFault.TheVariants.{NoFile, Device}
use Rattle.study_script.specs.declared.memory_store.MemoryFile.{MemoryFile}
use Rattle.study_script.specs.declared.memory_store.MemoryFile.TheVariants.{Absent, Closed, Bytes, Written}
use Rattle.study_script.specs.Stores.{IsRightFile}

-- the file of a class
abbrev pub memory_file : List MemoryFile → Class → MemoryFile
memory_file files c = slice_index_or files (class_number c) Absent

-- the bytes of a file from front to back; of a file that was opened to be written nothing is known
abbrev pub file_known : MemoryFile → Option (Result (List ℕ) StoreFault)
file_known Absent = Some (Err NoFile)
file_known Closed = Some (Err Device)
file_known (Bytes bytes) = Some (Ok bytes.now)
file_known Written = None

-- the header that its source returns, if that is known
abbrev pub header_known : MemoryFile → Option (Result (List ℕ) StoreFault)
header_known Absent = Some (Err NoFile)
header_known Closed = Some (Err Device)
header_known (Bytes bytes) = Some (Ok (take 64 bytes.now))
header_known Written = None

-- the faults for which reading a source over a text may fail: a device's if one is planned, and `Short` if the text is too short for its class
abbrev pub text_faults : Bool → List ℕ → Class → SourceFault → Bool
text_faults fails text c source.Device = fails
text_faults fails text c source.Short = nat_lt (length text) (64 + 4128 * pages_of c)

abbrev pub memory_faults : Bool → MemoryFile → Class → SourceFault → Bool
memory_faults fails Absent c f = false
memory_faults fails Closed c f = false
memory_faults fails (Bytes bytes) c f = text_faults fails bytes.now c f
memory_faults fails Written c f = true

-- the text of a right table
pub record IsRightText (bytes : List ℕ) : Type 0 where
  pub table : Table
  pub version : ℕ
  pub known : IsVersionOf table.class version
  pub complete : IsComplete table
  pub right : IsRight table
  pub text : bytes ≡ table_text table version

-- by pages each file is the text of a right table; from front to back each file that is read as a table is read as a right one
abbrev pub IsHonestFile : Bool → MemoryFile → Type 0
IsHonestFile by_pages Absent = Unit {0}
IsHonestFile by_pages Closed = Unit {0}
IsHonestFile true (Bytes bytes) = IsRightText bytes.now
IsHonestFile false (Bytes bytes) = IsRightFile (Some bytes.now)
IsHonestFile by_pages Written = Unit {0}

-- the fault of opening a file without bytes
abbrev pub IsFaultOf : StoreFault → MemoryFile → Type 0
IsFaultOf fault Absent = fault ≡ NoFile
IsFaultOf fault Closed = fault ≡ Device
IsFaultOf fault (Bytes bytes) = ⊥
IsFaultOf fault Written = fault ≡ Device
