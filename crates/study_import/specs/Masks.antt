-- Bytes written with substitutes.
use Rattle.std.specs.Prelude.{ℕ}
use Rattle.study_import.specs.declared.masks.Mask.{Mask}
use Rattle.study_import.specs.declared.masks.Mask.TheVariants.{Printed, Spaced, Shown, Blank, NoColon}
use Rattle.study_import.specs.Blocks.{printable_byte, remark_byte, no_colon}
use Rattle.study_import.specs.Tails.{byte_or_space, blank_for}

abbrev pub masked_byte : Mask → ℕ → ℕ
masked_byte Printed = printable_byte
masked_byte Spaced = byte_or_space
masked_byte Shown = remark_byte
masked_byte Blank = blank_for
masked_byte NoColon = no_colon
