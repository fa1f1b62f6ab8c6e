use Rattle.std.proofs.Common.{ℕ, sym, subst}
use Rattle.study_tablefile.specs.Format.{IsVersionOf}
use Rattle.study_tablefile.proofs.TablesRead.{known_is}
use Rattle.study_tablefile.proofs.page_source.read_header.Goals as goal

pub returns-clause-known : goal.returns-clause-known
returns-clause-known c =
    subst (λ (v : ℕ). IsVersionOf c.in_ok-class.class v) (sym c.version_of-version.ensures)
    (known_is c.args.bytes.now c.in_ok-class.class (sym c.in_ok-class.ensures.read))
