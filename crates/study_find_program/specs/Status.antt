-- The exit status of the program, and what it writes to standard error.
use Rattle.std.specs.Prelude.{ℕ, List, [], ◌∷◌, ◌++◌, Result, Ok, Err, codes, decimal}
use Rattle.study_material.specs.declared.class.Class.{Class}
use Rattle.study_material.specs.Class.{name_of}
use Rattle.study_values.specs.declared.fault.SourceFault.{SourceFault}
use Rattle.study_values.specs.declared.fault.SourceFault.TheVariants as source
use Rattle.study_values.specs.declared.values.ProbeFault.{ProbeFault}
use Rattle.study_values.specs.declared.values.ProbeFault.TheVariants.{NoTable, TableRead, PageDamaged}
use Rattle.study_listing.specs.declared.fault.Stop.{Stop}
use Rattle.study_listing.specs.declared.fault.Stop.TheVariants.{Values, TooManyStudies, WriteDevice}

-- 0 if the list is complete, and 3 if it stopped
abbrev pub status_of : Result (Unit {0}) Stop → ℕ
status_of (Ok x) = 0
status_of (Err stop) = 3

-- `studymine: KRK.dtm: HeaderDamaged`, of words that end with a line feed
abbrev pub file_fault_text : Class → List ℕ → List ℕ
file_fault_text c words = codes "studymine: " ++ (name_of c ++ (codes ".dtm: " ++ words))

-- `studymine: NoTable KRK`
abbrev pub no_table_text : Class → List ℕ
no_table_text c = codes "studymine: NoTable " ++ (name_of c ++ 10 ∷ [])

abbrev pub read_text : SourceFault → List ℕ
read_text source.Device = codes "studymine: TableRead Device\n"
read_text source.Short = codes "studymine: TableRead Short\n"

abbrev pub probe_text : ProbeFault → List ℕ
probe_text (NoTable c) = no_table_text c
probe_text (TableRead fault) = read_text fault
probe_text (PageDamaged c n) = file_fault_text c (codes "PageDamaged " ++ (decimal n ++ 10 ∷ []))

-- why a list is not complete
abbrev pub stop_text : Stop → List ℕ
stop_text (Values fault) = probe_text fault
stop_text TooManyStudies = codes "studymine: TooManyStudies\n"
stop_text WriteDevice = codes "studymine: WriteDevice\n"

-- `300000 of 5242880 numbers, 12 positions`
abbrev pub progress_text : ℕ → ℕ → ℕ → List ℕ
progress_text number end found =
    decimal number ++ (codes " of " ++ (decimal end ++ (codes " numbers, " ++ (decimal found ++ codes " positions\n"))))
