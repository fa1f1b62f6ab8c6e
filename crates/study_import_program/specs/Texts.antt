-- The text of a file.
use Rattle.std.specs.Prelude.{ℕ, List, Option, Some, None}
use Rattle.std.specs.Option.{option_map}
use Rattle.study_import_program.specs.declared.code_page.CodePage.{CodePage}
use Rattle.study_import_program.specs.CodePages.{in_utf8}
use Rattle.study_import_program.specs.LineEnds.{with_feeds}

-- in UTF-8 if its code page is named, and with a line feed in place of each carriage return that none follows
abbrev pub text_of : Option CodePage → Option (List ℕ) → Option (List ℕ)
text_of None bytes = option_map with_feeds bytes
text_of (Some page) bytes = option_map with_feeds (option_map (in_utf8 page) bytes)
