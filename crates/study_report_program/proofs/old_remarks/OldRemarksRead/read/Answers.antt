use Rattle.std.proofs.Common.{◌≡◌, ℕ, zero, suc, ◌<◌, ◌==◌, false, length, List, [], ◌∷◌, take, slice_set, refl, sym, subst, ◌∙◌, arith}
use Rattle.std.specs.Option.{option_map}
use Rattle.std.specs.Io.KnownBytes.{Consumes}
use Rattle.study_report_program.specs.OldRemarks.{renewed_behind}
use Rattle.study_report_program.proofs.old_remarks.OldRemarksRead.read.Goals as goal

one_given : (buf : List ℕ) (byte : ℕ) → 0 < length buf → take 1 (slice_set buf 0 byte) ≡ byte ∷ []
one_given [] byte some = absurd (omega arith)
one_given (x ∷ xs) byte some = refl

some_of : (n : ℕ) → (n == 0) ≡ false → 0 < n
some_of zero e = absurd cc
some_of (suc n) e = omega arith

pub returns-in-Some-clause-bytes : goal.returns-in-Some-clause-bytes
returns-in-Some-clause-bytes g c = (
  subst (λ (bytes : List ℕ). Consumes (option_map (renewed_behind c.args.self.now.owed c.args.self.now.part) (g.R.Read.remaining c.args.self.now.script))
      (option_map (renewed_behind c.next_byte.new.self.owed c.next_byte.new.self.part) (g.R.Read.remaining c.next_byte.new.self.script)) bytes)
      (sym (one_given c.args.buf.now c.in-Some.byte (some_of (length c.args.buf.now) (sym c.is_empty.ensures ∙ c.if-is_empty.false))))
      (rw c.in-Some.is at c.in_ok-next_byte.ensures.some),
  λ none some. absurd cc,
)
