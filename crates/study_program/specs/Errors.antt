-- What a program writes to standard error of the files of tables.
use Rattle.std.specs.Prelude.{◌≡◌, ◌⊎◌, ℕ, List, [], ◌∷◌, ◌++◌, Option, codes}
use Rattle.std.specs.Io.KnownBytes.{Appends}
use Rattle.study_text.specs.Taken.{TakesPrefix}
use Rattle.study_material.specs.declared.class.Class.{Class}
use Rattle.study_material.specs.Class.{name_of}
use Rattle.study_reply.specs.declared.refusal.Refusal.{Refusal}
use Rattle.study_reply.specs.Names.{words_of}

-- `studyreport: KRK.dtm: HeaderDamaged`, as a line
unfoldable pub file_fault_text : List ℕ → Class → List ℕ → List ℕ
file_fault_text program c words = program ++ (codes ": " ++ (name_of c ++ (codes ".dtm: " ++ (words ++ codes "\n"))))

-- a text is written, or a prefix of it if standard error fails
abbrev pub IsWrittenOrCut : Option (List ℕ) → Option (List ℕ) → List ℕ → Type 0
IsWrittenOrCut old new text = Appends old new text ⊎ TakesPrefix old new text

-- nothing is written of a class, or a line on why its file is not a table
abbrev pub IsFaultOrNone : List ℕ → Class → Option (List ℕ) → Option (List ℕ) → Type 0
IsFaultOrNone program c old new = (new ≡ old) ⊎ ((why : Refusal) × IsWrittenOrCut old new (file_fault_text program c (words_of why)))

-- the same of these classes, one after the other
abbrev pub AreFaultsOf : List ℕ → List Class → Option (List ℕ) → Option (List ℕ) → Type 0
AreFaultsOf program [] old new = new ≡ old
AreFaultsOf program (c ∷ more) old new = (mid : Option (List ℕ)) × IsFaultOrNone program c old mid × AreFaultsOf program more mid new
