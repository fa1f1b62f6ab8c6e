-- The definitions on small scripts.
use Rattle.std.proofs.Common.{◌≡◌, [], ◌∷◌, Some, None, Ok, Err, refl}
use Rattle.std.specs.Prelude.{codes}
use Rattle.study_board.specs.declared.men.Side.TheVariants.{Black}
use Rattle.study_text.specs.Words.{words, behind_word}
use Rattle.study_marks.specs.declared.stipulation.Goal.TheVariants.{MateIn}
use Rattle.study_marks.specs.declared.tag.TagName.TheVariants.{Event}
use Rattle.study_command.specs.declared.command.FenCommand.TheVariants.{Position}
use Rattle.study_command.specs.declared.command.TableCommand.TheVariants.{Build}
use Rattle.study_command.specs.declared.command.SyntaxFault.TheVariants.{BadByte, UnknownCommand, BadArguments, UnknownStipulation, UnknownTag}
use Rattle.study_command.specs.Lines.{script_lines}
use Rattle.study_command.specs.Paths.{place_parsed, is_path, is_path_word, steps_of}
use Rattle.study_command.specs.Parser.{Asks, fen_command, table_command, stipulate, insert, tag, solve, trim, word_asked, word_of, command_of}

-- ---- lines

-- a line feed that ends the script begins no line
ends : script_lines (codes "a\n") ≡ codes "a" ∷ []
unfolding script_lines
ends = refl

none : script_lines [] ≡ []
unfolding script_lines
none = refl

empty_line : script_lines (codes "\n\nb") ≡ [] ∷ [] ∷ codes "b" ∷ []
unfolding script_lines
empty_line = refl

-- one carriage return belongs to the line end, also at the end of the script
returns_dropped : script_lines (codes "a\r\nb\r\r\nc\r") ≡ codes "a" ∷ codes "b\r" ∷ codes "c" ∷ []
unfolding script_lines
returns_dropped = refl

-- ---- commands

silent : ◌≡◌ {A = Asks} (command_of (codes "  # \t")) (Ok None)
unfolding command_of words
silent = refl

tab : ◌≡◌ {A = Asks} (command_of (codes "\t# x")) (Err BadByte)
unfolding command_of words
tab = refl

unknown : ◌≡◌ {A = Asks} (command_of (codes "castle KK")) (Err UnknownCommand)
unfolding command_of words word_of
unknown = refl

of_position : ◌≡◌ {A = Asks} (command_of (codes "position  k7 ")) (Ok (Some (fen_command Position (codes "k7"))))
unfolding command_of words behind_word word_of word_asked trim
of_position = refl

-- a class is checked after the mode
of_build : ◌≡◌ {A = Asks} (command_of (codes "build KX")) (Ok (Some (table_command Build (codes "KX"))))
unfolding command_of words behind_word word_of word_asked
of_build = refl

of_solve : ◌≡◌ {A = Asks} (command_of (codes "solve 3 0.12.003")) (Ok (Some (solve 3 (0 ∷ 12 ∷ 3 ∷ []))))
unfolding command_of words behind_word word_of word_asked is_path_word is_path steps_of
of_solve = refl

four : ◌≡◌ {A = Asks} (command_of (codes "solve 4 root")) (Err BadArguments)
unfolding command_of words behind_word word_of word_asked is_path_word steps_of
four = refl

two_digits : ◌≡◌ {A = Asks} (command_of (codes "solve 01 root")) (Err BadArguments)
unfolding command_of words behind_word word_of word_asked is_path_word steps_of
two_digits = refl

no_place : ◌≡◌ {A = Asks} (command_of (codes "moves 0.")) (Err BadArguments)
unfolding command_of words behind_word word_of word_asked is_path_word is_path
no_place = refl

long_place : ◌≡◌ {A = Asks} (command_of (codes "moves 1234")) (Err BadArguments)
unfolding command_of words behind_word word_of word_asked is_path_word is_path
long_place = refl

of_insert : ◌≡◌ {A = Asks} (command_of (codes "insert 000.1 Qh2")) (Ok (Some (insert (0 ∷ 1 ∷ []) (codes "Qh2"))))
unfolding command_of words behind_word word_of word_asked is_path_word is_path steps_of
of_insert = refl

of_mate : ◌≡◌ {A = Asks} (command_of (codes "stipulate black mate 001")) (Ok (Some (stipulate (record { hero = Black; goal = MateIn 1 }))))
unfolding command_of words behind_word word_of word_asked place_parsed
of_mate = refl

no_mate : ◌≡◌ {A = Asks} (command_of (codes "stipulate white mate 128")) (Err UnknownStipulation)
unfolding command_of words behind_word word_of word_asked place_parsed
no_mate = refl

no_goal : ◌≡◌ {A = Asks} (command_of (codes "stipulate")) (Err UnknownStipulation)
unfolding command_of words behind_word word_of word_asked
no_goal = refl

-- a name is checked before its text
no_tag : ◌≡◌ {A = Asks} (command_of (codes "tag Foo")) (Err UnknownTag)
unfolding command_of words behind_word word_of word_asked trim
no_tag = refl

no_text : ◌≡◌ {A = Asks} (command_of (codes "tag Event")) (Err BadArguments)
unfolding command_of words behind_word word_of word_asked trim
no_text = refl

of_tag : ◌≡◌ {A = Asks} (command_of (codes "tag Event  a b ")) (Ok (Some (tag Event (codes "a b"))))
unfolding command_of words behind_word word_of word_asked trim
of_tag = refl
