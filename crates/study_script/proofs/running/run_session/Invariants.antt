use Rattle.std.proofs.Common.{◌≡◌, ◌≤◌, Bool, List, ℕ, Some}
use Rattle.study_material.specs.declared.class.Class.{Class}
use Rattle.study_command.specs.Lines.{GaveFeeds}
use Rattle.study_script.specs.State.{State}
use Rattle.study_script.specs.Stores.{AreTrusted}
use Rattle.study_script.proofs.FirstLines.{RanOn, Gone}
use Rattle.study_script.proofs.PiecesWritten.{Wrote}
use Rattle.study_script.proofs.running.run_session.Given as goal

abbrev pub invariant-loop-n : goal.invariant-loop-n
invariant-loop-n g l =
    ((trusted : Class → Bool) (separate : Bool) (first : State) → g.D.Interpreter.holds l.fn.interpreter trusted separate first
    → (bytes : List ℕ) → g.R.Read.remaining l.fn.script ≡ Some bytes → AreTrusted trusted bytes
    → RanOn separate (g.D.Interpreter.holds l.interpreter trusted separate) (g.R.Read.remaining l.fn.script) (g.R.Read.remaining l.script)
    (g.W.Write.contents l.fn.out) (g.W.Write.contents l.out) first l.n l.refused)
    × (l.refused ≤ l.n) × GaveFeeds (g.R.Read.remaining l.fn.script) (g.R.Read.remaining l.script) l.n
    × Gone (g.R.Read.remaining l.fn.script) (g.R.Read.remaining l.script) l.n
    × Wrote (g.R.Read.remaining l.fn.script) (g.R.Read.remaining l.script) (g.W.Write.contents l.fn.out) (g.W.Write.contents l.out) l.n l.refused
