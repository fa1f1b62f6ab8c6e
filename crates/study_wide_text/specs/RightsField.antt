-- The field of a FEN with the rights to castle.
use Rattle.std.specs.Prelude.{ℕ, Bool, true, false, ◌==◌, List, [], ◌∷◌, ◌++◌, Option, Some, None, if◌then◌else◌}
use Rattle.study_notation.specs.Fen.{is_dash}
use Rattle.study_wide.specs.declared.rights.Rights.{Rights}
use Rattle.study_wide.specs.Rights.{no_rights}
use Rattle.study_wide.specs.Rules.{has_rights}

abbrev pub letter_if : Bool → ℕ → List ℕ
letter_if true b = b ∷ []
letter_if false b = []

-- a letter for each right that is held: K and Q for White, k and q for Black
abbrev pub letters_of : Rights → List ℕ
letters_of r = letter_if r.white_short 75 ++ (letter_if r.white_long 81 ++ (letter_if r.black_short 107 ++ letter_if r.black_long 113))

-- these letters, or `-` if there is none
unfoldable pub castling_text : Rights → List ℕ
castling_text r = if has_rights r then letters_of r else 45 ∷ []

-- whether a text begins with the letter, and the rest behind it
abbrev pub letter_at : ℕ → List ℕ → Bool × List ℕ
letter_at b [] = (false, [])
letter_at b (c ∷ cs) = if c == b then (true, cs) else (false, c ∷ cs)

abbrev pub rights_at : Bool → Bool → Bool → Bool × List ℕ → Option Rights
rights_at a b c (d, []) = Some (record { white_short = a; white_long = b; black_short = c; black_long = d })
rights_at a b c (d, x ∷ xs) = None

-- `-`, or some of the letters KQkq in this order
unfoldable pub rights_of : List ℕ → Option Rights
rights_of [] = None
rights_of (x ∷ xs) =
    if is_dash (x ∷ xs) then Some no_rights
    else (let a = letter_at 75 (x ∷ xs) in let b = letter_at 81 a.1 in let c = letter_at 107 b.1 in rights_at a.0 b.0 c.0 (letter_at 113 c.1))
