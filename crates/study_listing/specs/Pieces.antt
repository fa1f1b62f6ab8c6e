-- A list piece by piece: the lines of a range of numbers, and the progress of the list.
use Rattle.std.specs.Prelude.{◌≡◌, ℕ, ◌-◌, nat_le, min, Bool, true, false, List, [], ◌∷◌, ◌++◌, length, take, drop, Option, Some, None, Result, Ok}
use Rattle.std.specs.Prelude.{Err, codes, decimal, if◌then◌else◌}
use Rattle.std.specs.Io.KnownBytes.{Appends}
use Rattle.std.specs.List.{AllByRecursion}
use Rattle.study_material.specs.declared.class.Class.{Class}
use Rattle.study_material.specs.Needs.{IsOrder}
use Rattle.study_notation.specs.Fen.{digits_parsed}
use Rattle.study_values.specs.declared.values.ProbeFault.{ProbeFault}
use Rattle.study_values.specs.declared.values.ProbeFault.TheVariants.{NoTable, TableRead, PageDamaged}
use Rattle.study_values.specs.Number.{cells_of}
use Rattle.study_listing.specs.declared.filters.Selection.{Selection}
use Rattle.study_listing.specs.declared.filter_words.Unread.{Unread}
use Rattle.study_listing.specs.declared.listing.Numbers.{Numbers}
use Rattle.study_listing.specs.declared.piece_words.Piece.{Piece}
use Rattle.study_listing.specs.declared.piece_words.PieceFault.{PieceFault}
use Rattle.study_listing.specs.declared.piece_words.PieceFault.TheVariants as fault
use Rattle.study_listing.specs.declared.request.Request.{Request}
use Rattle.study_listing.specs.declared.text.Form.TheVariants.{Lines}
use Rattle.study_listing.specs.Lists.{IsList, IsSelectionOf}
use Rattle.study_listing.specs.Requests.{request_of, class_of_request, needs_one_table}

-- ---- `THEME [FILTER ..] FROM TO`

-- one to nine digits
abbrev pub number_parsed : List ℕ → Option ℕ
number_parsed word = digits_parsed 9 word

abbrev pub numbers_of : Option ℕ → Option ℕ → Option Numbers
numbers_of (Some from) (Some to) = Some (record { from = from; to = to })
numbers_of _ _ = None

abbrev pub numbers_parsed : List (List ℕ) → Option Numbers
numbers_parsed (from ∷ to ∷ []) = numbers_of (number_parsed from) (number_parsed to)
numbers_parsed _ = None

-- the theme and its filters are read before the numbers
abbrev pub piece_with_numbers : Result Request Unread → Option Numbers → Result Piece PieceFault
piece_with_numbers (Err unread) numbers = Err (fault.Unread unread)
piece_with_numbers (Ok request) None = Err fault.NoNumbers
piece_with_numbers (Ok request) (Some numbers) = Ok (record { request = request; numbers = numbers })

-- the last two words are the numbers
abbrev pub piece_of : Class → List (List ℕ) → Result Piece PieceFault
piece_of c ws =
    if nat_le 2 (length ws)
    then piece_with_numbers (request_of c (take (length ws - 2) ws)) (numbers_parsed (drop (length ws - 2) ws))
    else Err fault.NoNumbers

-- ---- the tables

-- the class alone, or with all that it needs
abbrev pub AreThese : Bool → Class → List Class → Type 0
AreThese true c classes = classes ≡ c ∷ []
AreThese false c classes = IsOrder c classes

-- the classes whose tables are used: for a mutual zugzwang and the longest mate the class alone is enough
abbrev pub AreLookedAt : Request → List Class → Type 0
AreLookedAt r classes = AreThese (needs_one_table r) (class_of_request r) classes

-- a table of each class that is used is held
abbrev pub AreHeld : Request → (Class → Bool) → Type 0
AreHeld r held = (classes : List Class) × AreLookedAt r classes × AllByRecursion (λ c. held c ≡ true) classes

-- no table of a class that is used is held, the first such class of the list, and nothing else is wrong
abbrev pub IsMissing : Request → (Class → Bool) → ProbeFault → Type 0
IsMissing r held (NoTable c) =
    (before after : List Class) × AreLookedAt r (before ++ c ∷ after) × AllByRecursion (λ d. held d ≡ true) before × (held c ≡ false)
IsMissing r held (TableRead f) = ⊥
IsMissing r held (PageDamaged c n) = ⊥

-- ---- the text

-- the end of the range: its last number, or the end of the class
abbrev pub end_of : Piece → ℕ
end_of piece = min piece.numbers.to (cells_of (class_of_request piece.request))

-- the lines of the listed positions between two numbers
abbrev pub AreLines : Option Selection → ℕ → ℕ → List ℕ → Type 0
AreLines None from to lines = lines ≡ []
AreLines (Some s) from to lines = (ns : List ℕ) × IsList s Lines from to ns lines

-- `to 100000 of 331776`
unfoldable pub how_far : ℕ → ℕ → List ℕ
how_far end all = codes "to " ++ (decimal end ++ (codes " of " ++ (decimal all ++ codes "\n")))

-- The lines of the listed positions between the numbers, then the progress of the list among all numbers of the class.
pub record IsPiece (piece : Piece) (text : List ℕ) : Type 0 where
  pub selection : Option Selection
  pub selected : IsSelectionOf piece.request selection
  pub lines : List ℕ
  pub listed : AreLines selection piece.numbers.from (end_of piece) lines
  pub is : text ≡ lines ++ how_far (end_of piece) (cells_of (class_of_request piece.request))

abbrev pub HasWrittenPiece : Piece → Option (List ℕ) → Option (List ℕ) → Type 0
HasWrittenPiece piece old new = (text : List ℕ) × IsPiece piece text × Appends old new text

-- the lines alone are written
abbrev pub HasWrittenLines : Option Selection → ℕ → ℕ → Option (List ℕ) → Option (List ℕ) → Type 0
HasWrittenLines selection from to old new = (lines : List ℕ) × AreLines selection from to lines × Appends old new lines
