-- Runs of bytes of one kind.
use Rattle.std.specs.Prelude.{ℕ, Bool}
use Rattle.study_games.specs.declared.runs.Run.{Run}
use Rattle.study_games.specs.declared.runs.Run.TheVariants.{Blanks, Word, Spaces, Gap, Name, Digits, Glyphs, Signs, Symbol, Line, Comment}
use Rattle.study_games.specs.Bytes.{is_blank, is_gap, is_name_byte, is_digit, is_glyph, is_tail, is_symbol_byte}
use Rattle.study_games.specs.Tokens.{is_inside, is_in_line}
use Rattle.study_games.specs.Words.{is_inked, is_space}

abbrev pub is_in : Run → ℕ → Bool
is_in Blanks = is_blank
is_in Word = is_inked
is_in Spaces = is_space
is_in Gap = is_gap
is_in Name = is_name_byte
is_in Digits = is_digit
is_in Glyphs = is_glyph
is_in Signs = is_tail
is_in Symbol = is_symbol_byte
is_in Line = is_in_line
is_in Comment = is_inside
