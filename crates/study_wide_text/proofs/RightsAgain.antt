-- The field of the rights to castle is read back, and is no other than what is written.
use Rattle.std.proofs.Common.{◌≡◌, ◌<◌, Bool, true, false, length, Some, refl, arith}
use Rattle.study_wide.specs.declared.rights.Rights.{Rights}
use Rattle.study_wide_text.specs.RightsField.{castling_text, rights_of}
use Rattle.study_wide_text.proofs.FieldsAgain.{Above}

abbrev made : Bool → Bool → Bool → Bool → Rights
made a b c d = record { white_short = a; white_long = b; black_short = c; black_long = d }

again : (a b c d : Bool) → rights_of (castling_text (made a b c d)) ≡ Some (made a b c d)
unfolding rights_of castling_text
again true true true true = refl
again true true true false = refl
again true true false true = refl
again true true false false = refl
again true false true true = refl
again true false true false = refl
again true false false true = refl
again true false false false = refl
again false true true true = refl
again false true true false = refl
again false true false true = refl
again false true false false = refl
again false false true true = refl
again false false true false = refl
again false false false true = refl
again false false false false = refl

pub rights_again : (r : Rights) → rights_of (castling_text r) ≡ Some r
rights_again r = again r.white_short r.white_long r.black_short r.black_long

word : (a b c d : Bool) → Above 32 (castling_text (made a b c d)) × (0 < length (castling_text (made a b c d)))
unfolding castling_text
word true true true true = ((omega arith, (omega arith, (omega arith, (omega arith, tt)))), omega arith)
word true true true false = ((omega arith, (omega arith, (omega arith, tt))), omega arith)
word true true false true = ((omega arith, (omega arith, (omega arith, tt))), omega arith)
word true true false false = ((omega arith, (omega arith, tt)), omega arith)
word true false true true = ((omega arith, (omega arith, (omega arith, tt))), omega arith)
word true false true false = ((omega arith, (omega arith, tt)), omega arith)
word true false false true = ((omega arith, (omega arith, tt)), omega arith)
word true false false false = ((omega arith, tt), omega arith)
word false true true true = ((omega arith, (omega arith, (omega arith, tt))), omega arith)
word false true true false = ((omega arith, (omega arith, tt)), omega arith)
word false true false true = ((omega arith, (omega arith, tt)), omega arith)
word false true false false = ((omega arith, tt), omega arith)
word false false true true = ((omega arith, (omega arith, tt)), omega arith)
word false false true false = ((omega arith, tt), omega arith)
word false false false true = ((omega arith, tt), omega arith)
word false false false false = ((omega arith, tt), omega arith)

pub castling_word : (r : Rights) → Above 32 (castling_text r) × (0 < length (castling_text r))
castling_word r = word r.white_short r.white_long r.black_short r.black_long
