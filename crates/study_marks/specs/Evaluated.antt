-- Not part of any public contract: the evaluation of one position, or of a list of positions.
use Rattle.std.specs.Prelude.{◌≡◌, ℕ, ◌<◌, suc, Bool, true, false, List, Result, Ok, Err}
use Rattle.study_board.specs.Position.{Position}
use Rattle.study_material.specs.declared.class.Class.{Class}
use Rattle.study_values.specs.Game.{IsValueOf}
use Rattle.study_values.specs.declared.values.ProbeFault.{ProbeFault}
use Rattle.study_values.specs.declared.values.ProbeFault.TheVariants.{NoTable, TableRead, PageDamaged}
use Rattle.study_moves.specs.Rules.{after}
use Rattle.study_tree.specs.Forest.{Forest, none, more}
use Rattle.study_text.specs.Counts.{next_count}
use Rattle.study_tree.specs.Tree.{Plain}
use Rattle.study_marks.specs.declared.node_label.Evaluation.{Evaluation}
use Rattle.study_marks.specs.Queries.{IsFirstMissing, IsFirstUnread, counted_up_by}
use Rattle.study_marks.specs.BenchState.{IsTallied}

-- the game's value of the position, and the tally of its legal moves
abbrev pub IsEvaluationOf : Position → Evaluation → Type 0
IsEvaluationOf p t = IsValueOf p t.value × IsTallied p t.tally

-- the first of these values that could not be read failed with this fault
abbrev pub IsProbeFaultOf : (Class → Bool) → List Position → ProbeFault → Type 0
IsProbeFaultOf held asked (NoTable c) = IsFirstMissing held asked c
IsProbeFaultOf held asked (TableRead f) = IsFirstUnread held asked (TableRead f)
IsProbeFaultOf held asked (PageDamaged c n) = IsFirstUnread held asked (PageDamaged c n)

abbrev pub ProbeCount : ℕ → Bool → ℕ → ℕ → Type 0
ProbeCount n true old new = new ≡ counted_up_by n old
ProbeCount n false old new = (k : ℕ) × (k < n) × (new ≡ counted_up_by (suc k) old)

abbrev pub failures_of : {T : Type 0} → Result T ProbeFault → ℕ → ℕ
failures_of (Ok x) old = old
failures_of (Err (NoTable c)) old = old
failures_of (Err (TableRead f)) old = next_count old
failures_of (Err (PageDamaged c n)) old = next_count old

-- the evaluation at each node is that of its position
abbrev pub AreEvaluated : Position → Forest Evaluation → Type 0
AreEvaluated p none = Unit {0}
AreEvaluated p (more m t b r) = IsEvaluationOf (after p m) t × AreEvaluated (after p m) b × AreEvaluated p r

abbrev pub AllAreEvaluated : Position → Plain Evaluation → Type 0
AllAreEvaluated p t = IsEvaluationOf p t.label × AreEvaluated p t.below
