-- Not part of any public contract: the line of a node, as a relation.
use Rattle.std.specs.Prelude.{◌≡◌, ℕ, List}
use Rattle.study_marks.specs.declared.mark.Mark.{Mark}
use Rattle.study_marks.specs.Study.{Study}
use Rattle.study_view.specs.View.{node_line}

abbrev pub IsNodeLine : Study Mark → List ℕ → List ℕ → Type 0
IsNodeLine s path text = text ≡ node_line s path
