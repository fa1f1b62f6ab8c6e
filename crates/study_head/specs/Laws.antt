-- Laws of the verdict on a study.
use Rattle.std.specs.Prelude.{◌≡◌, ℕ, false, List, [], ◌∷◌, length, Option, Some}
use Rattle.study_marks.specs.declared.mark.Mark.{Mark}
use Rattle.study_marks.specs.Annotated.{IsAnnotated}
use Rattle.study_marks.specs.Study.{Study}
use Rattle.study_marks.specs.Verdict.{verdict, sound, unsound}
use Rattle.study_facts.specs.Faults.{Fault, solution_faults}
use Rattle.study_facts.specs.Nodes.{is_mistake}
use Rattle.study_head.specs.declared.verdict.Stamp.TheVariants.{Sound, Duals}
use Rattle.study_head.specs.declared.mistake.NamedMove.{NamedMove}
use Rattle.study_head.specs.declared.solution.DualCounts.{DualCounts}
use Rattle.study_head.specs.declared.solution.SolutionFacts.{SolutionFacts}
use Rattle.study_head.specs.Verdict.{stamp_of}

-- none of these faults is a mistake: all are duals
abbrev pub AreDuals : List Fault → Type 0
AreDuals [] = Unit {0}
AreDuals (x ∷ xs) = (is_mistake (Some x.mark) ≡ false) × AreDuals xs

-- a study with a stamp of duals has a correct stipulation, and so many faults, each of them a dual
abbrev pub DualsAreCounted : Type 0
DualsAreCounted =
    (s : Study Mark) (f : SolutionFacts) (duals : ℕ) (counts : DualCounts) (missing : Option NamedMove) → IsAnnotated s
    → stamp_of s f ≡ Duals duals counts missing
    → (verdict s ≡ unsound duals) × (length (solution_faults s) ≡ duals) × AreDuals (solution_faults s)

-- a study that is called sound, without a word on its duals, has a correct stipulation and no fault
abbrev pub SoundHasNoFault : Type 0
SoundHasNoFault =
    (s : Study Mark) (f : SolutionFacts) (missing : Option NamedMove) → IsAnnotated s → stamp_of s f ≡ Sound false missing
    → (verdict s ≡ sound) × (length (solution_faults s) ≡ 0)
