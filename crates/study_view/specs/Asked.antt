-- The probed positions, and their values.
use Rattle.std.specs.Prelude.{◌≡◌, List, ◌++◌, Result, Ok, Err}
use Rattle.study_board.specs.Position.{Position}
use Rattle.study_values.specs.Values.{ValueSource}
use Rattle.study_values.specs.declared.values.ProbeFault.{ProbeFault}
use Rattle.study_marks.specs.Answers.{WereEvaluated, IsFirstFault}
use Rattle.study_facts.specs.Asked.{AllEvaluated, Stopped, within}
use Rattle.study_view.specs.declared.fault.ViewFault.{ViewFault}
use Rattle.study_view.specs.declared.fault.ViewFault.TheVariants.{NoSuchNode, OutOfMemory, Device, Values}
use Rattle.study_view.specs.declared.fault.SurveyFault.{SurveyFault}
use Rattle.study_view.specs.declared.fault.SurveyFault.TheVariants as survey

module _ {V : Type 0} (source : ValueSource V) where
  -- these positions were probed in order, and then perhaps more, to each of which p leads, and each value was read
  pub record EachEvaluated (p : Position) (asked : List Position) (old new : V) : Type 0 where
    pub each : (more : List Position) × WereEvaluated source old (asked ++ more) new
    pub all : AllEvaluated (within p source) old new

  -- these positions were probed in order, and then perhaps more, up to the first whose value could not be read, for this fault
  pub record StoppedAt (p : Position) (asked : List Position) (old : V) (f : ProbeFault) (new : V) : Type 0 where
    pub first : (more : List Position) × IsFirstFault source old (asked ++ more) f new
    pub stopped : Stopped (within p source) old f new

  abbrev pub HasEvaluatedEach : {T : Type 0} → Position → List Position → V → Result T ProbeFault → V → Type 0
  HasEvaluatedEach p asked old (Ok x) new = EachEvaluated p asked old new
  HasEvaluatedEach p asked old (Err f) new = StoppedAt p asked old f new

  -- some positions were probed, and each value was read, unless the call stopped for the first that was not
  abbrev pub HasWalked : {T : Type 0} → V → Result T ViewFault → V → Type 0
  HasWalked old (Ok x) new = AllEvaluated source old new
  HasWalked old (Err NoSuchNode) new = ⊥
  HasWalked old (Err OutOfMemory) new = AllEvaluated source old new
  HasWalked old (Err Device) new = ⊥
  HasWalked old (Err (Values f)) new = Stopped source old f new

  -- each value was read, unless the call was refused for the first that could not be read, or before the first probe
  abbrev pub HasViewed : {T : Type 0} → Position → List Position → V → Result T ViewFault → V → Type 0
  HasViewed p asked old (Ok x) new = EachEvaluated p asked old new
  HasViewed p asked old (Err NoSuchNode) new = new ≡ old
  HasViewed p asked old (Err OutOfMemory) new = EachEvaluated p asked old new
  HasViewed p asked old (Err Device) new = EachEvaluated p asked old new
  HasViewed p asked old (Err (Values f)) new = StoppedAt p asked old f new

  -- some positions were probed, and each value was read, or this fault is not that of the first that could not be read
  abbrev pub HasEvaluatedSome : {T : Type 0} → V → Result T ProbeFault → V → Type 0
  HasEvaluatedSome old (Ok x) new = AllEvaluated source old new
  HasEvaluatedSome old (Err f) new = Stopped source old f new

  -- the same for a survey, which probes nothing if the square is empty
  abbrev pub HasSurveyed : {T : Type 0} → V → Result T SurveyFault → V → Type 0
  HasSurveyed old (Ok x) new = AllEvaluated source old new
  HasSurveyed old (Err survey.NoMan) new = new ≡ old
  HasSurveyed old (Err survey.OutOfMemory) new = AllEvaluated source old new
  HasSurveyed old (Err survey.Device) new = AllEvaluated source old new
  HasSurveyed old (Err (survey.Values f)) new = Stopped source old f new
