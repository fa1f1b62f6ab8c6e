-- The spelling of a move in SAN.
use Rattle.std.specs.Prelude.{◌≡◌, ℕ, ◌+◌, ◌<◌, Bool, true, false, ◌&&◌, ◌||◌, ◌==◌, if◌then◌else◌, List, [], ◌∷◌, ◌++◌, Option, Some, None, IfSome}
use Rattle.study_board.specs.declared.men.Kind.{Kind}
use Rattle.study_board.specs.declared.men.Kind.TheVariants.{King, Queen, Rook, Bishop, Knight, Pawn}
use Rattle.study_board.specs.Letters.{letter}
use Rattle.study_moves.specs.Rules.{is_promotion_piece}
use Rattle.study_notation.specs.declared.san.San.{San}
use Rattle.study_notation.specs.FenSpelling.{square_text}

abbrev pub kind_text : Kind → List ℕ
kind_text King = letter King ∷ []
kind_text Queen = letter Queen ∷ []
kind_text Rook = letter Rook ∷ []
kind_text Bishop = letter Bishop ∷ []
kind_text Knight = letter Knight ∷ []
kind_text Pawn = []

abbrev pub file_text : Option ℕ → List ℕ
file_text None = []
file_text (Some f) = (97 + f) ∷ []

abbrev pub rank_text : Option ℕ → List ℕ
rank_text None = []
rank_text (Some r) = (49 + r) ∷ []

abbrev pub takes_text : Bool → List ℕ
takes_text false = []
takes_text true = 120 ∷ []

-- with `=` or without
abbrev pub promotion_text : Bool → Option Kind → List ℕ
promotion_text equals None = []
promotion_text false (Some k) = kind_text k
promotion_text true (Some k) = 61 ∷ kind_text k

abbrev pub san_text : San → Bool → List ℕ
san_text s equals =
    kind_text s.kind ++ (file_text s.file ++ (rank_text s.rank ++ (takes_text s.is_capture ++ (square_text s.target ++ promotion_text equals s.promoted))))

-- `!` or `?`
abbrev pub is_suffix_annotation : ℕ → Bool
is_suffix_annotation b = b == 33 || b == 63

-- at most two of them
abbrev pub is_glyphs : List ℕ → Bool
is_glyphs [] = true
is_glyphs (a ∷ []) = is_suffix_annotation a
is_glyphs (a ∷ b ∷ []) = is_suffix_annotation a && is_suffix_annotation b
is_glyphs _ = false

-- `+`, `#` or neither, then the glyphs
abbrev pub is_ending : List ℕ → Bool
is_ending [] = true
is_ending (b ∷ bs) = if b == 43 || b == 35 then is_glyphs bs else is_glyphs (b ∷ bs)

-- parts that a text can have
pub record Fits (s : San) : Type 0 where
  pub file : IfSome s.file (λ f. f < 8)
  pub rank : IfSome s.rank (λ r. r < 8)
  pub target : s.target < 64
  pub promoted : IfSome s.promoted (λ k. is_promotion_piece k ≡ true)

-- the text has these parts, and an ending
abbrev pub Says : List ℕ → San → Type 0
Says text s = Fits s × ((equals : Bool) × (ending : List ℕ) × (is_ending ending ≡ true) × (text ≡ san_text s equals ++ ending))
