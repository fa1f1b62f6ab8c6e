-- The refusal of an edit for a fault of a tree or of values.
use Rattle.study_values.specs.declared.values.ProbeFault.{ProbeFault}
use Rattle.study_values.specs.declared.values.ProbeFault.TheVariants as probe
use Rattle.study_tree.specs.declared.fault.TreeFault.{TreeFault}
use Rattle.study_tree.specs.declared.fault.TreeFault.TheVariants as tree
use Rattle.study_marks.specs.declared.refusal.Refusal.{Refusal}
use Rattle.study_marks.specs.declared.refusal.Refusal.TheVariants.{NoSuchNode, RootNotAllowed, AlreadyFirst, TooDeep}
use Rattle.study_marks.specs.declared.refusal.Refusal.TheVariants.{TreeFull, OutOfMemory, NoTable, TableRead}

abbrev pub refused_by : {A : Type 0} → ProbeFault → Refusal A
refused_by (probe.NoTable c) = NoTable c
refused_by (probe.TableRead f) = TableRead (probe.TableRead f)
refused_by (probe.PageDamaged c n) = TableRead (probe.PageDamaged c n)

abbrev pub refused_by_tree : {A : Type 0} → TreeFault → Refusal A
refused_by_tree tree.NoSuchNode = NoSuchNode
refused_by_tree tree.Root = RootNotAllowed
refused_by_tree tree.AlreadyFirst = AlreadyFirst
refused_by_tree tree.TooDeep = TooDeep
refused_by_tree tree.TreeFull = TreeFull
refused_by_tree tree.OutOfMemory = OutOfMemory
