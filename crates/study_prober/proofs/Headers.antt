-- The header of a table's file is read as the class of the table, and as its version.
use Rattle.std.proofs.Common.{◌≡◌, ℕ, List, sym, ap, ◌∙◌}
use Rattle.std.specs.Prelude.{Result, Ok, Err}
use Rattle.study_material.specs.declared.class.Class.{Class}
use Rattle.study_table.specs.Table.{Table}
use Rattle.study_values.specs.declared.fault.FileFault.{FileFault}
use Rattle.study_tablefile.specs.Format.{IsVersionOf, header_text}
use Rattle.study_tablefile.specs.Reading.{version_of, class_read}
use Rattle.study_tablefile.specs.declared.page_source.Header.{Header}
use Rattle.study_tablefile.proofs.ReadAgain.{header_again, version_again}

-- a header that was returned is read as the class of each table for which the source is honest, and its version
pub read_of : (t : Table) (v : ℕ) (bytes : List ℕ) (h : Header) → IsVersionOf t.class v
    → bytes ≡ header_text t.class v → class_read bytes ≡ Ok h.class → h.version ≡ version_of bytes
    → (h.class ≡ t.class) × (h.version ≡ v)
read_of t v bytes h known given is version = (
  (let same : ◌≡◌ {A = Result Class FileFault} (Ok h.class) (Ok t.class) = sym is ∙ ap class_read given ∙ header_again t.class v known in cc),
  version ∙ ap version_of given ∙ version_again t.class v known.0,
)

pub never_bad : (t : Table) (v : ℕ) (bytes : List ℕ) (e : FileFault) → IsVersionOf t.class v → bytes ≡ header_text t.class v → class_read bytes ≡ Err e → ⊥
never_bad t v bytes e known given is = let same : ◌≡◌ {A = Result Class FileFault} (Err e) (Ok t.class) =
    sym is ∙ ap class_read given ∙ header_again t.class v known in cc
