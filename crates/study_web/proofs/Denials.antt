-- Whole answers, and refusals.
use Rattle.std.proofs.Common.{◌≡◌, ◌⊎◌, ℕ, Bool, true, false, List, Option, Result, Ok, Err, refl, sym, ap, subst, ◌∙◌, inl, inr}
use Rattle.std.specs.Prelude.{IfOk, IfErr, IsErrAnd}
use Rattle.study_script.specs.declared.running.RunFault.{RunFault}
use Rattle.study_script.specs.declared.running.RunFault.TheVariants as run_fault
use Rattle.study_board.specs.Position.{Position, IsValid}
use Rattle.study_material.specs.declared.class.Class.{Class}
use Rattle.study_material.specs.Needs.{NeedsClass}
use Rattle.study_notation.specs.declared.start.Start.{Start}
use Rattle.study_values.specs.declared.fault.SourceFault.{SourceFault}
use Rattle.study_facts.specs.Asked.{Stopped, within}
use Rattle.study_facts.proofs.Within.{missed-needed, unread-needed}
use Rattle.study_view.specs.declared.fault.SurveyFault.{SurveyFault}
use Rattle.study_view.specs.declared.fault.SurveyFault.TheVariants as survey
use Rattle.study_view.specs.declared.fault.ViewFault.{ViewFault}
use Rattle.study_view.specs.declared.fault.ViewFault.TheVariants as view
use Rattle.study_view.specs.Asked.{HasSurveyed, HasViewed}
use Rattle.study_table.specs.Table.{Table}
use Rattle.study_prober.specs.Sources.{GivesOf}
use Rattle.study_script.specs.declared.store.StoreFault.{StoreFault}
use Rattle.study_script.specs.declared.document.Document.{Document as HeldDocument}
use Rattle.study_script.specs.declared.tables.Tables.{Tables}
use Rattle.study_script.specs.declared.tables.Tables.TheVariants.{Whole, Paged}
use Rattle.study_script.specs.State.{State, is_among}
use Rattle.study_web.specs.Views.{IsViewFault, StudyStopped}
use Rattle.study_script.specs.SessionHolds.{Holds, document_seen, are_paged, tables_may_fail, tables_source}
use Rattle.study_report.specs.Reported.{IsValueFaultIn}
use Rattle.study_web.specs.declared.request_fault.RequestFault.{RequestFault}
use Rattle.study_web.specs.declared.request_fault.RequestFault.TheVariants as denial
use Rattle.study_web.specs.declared.reply.AnswerFault.{AnswerFault}
use Rattle.study_web.specs.declared.reply.AnswerFault.TheVariants as no_text
use Rattle.study_web.specs.declared.reply.Ending.{Ending}
use Rattle.study_web.specs.declared.reply.Ending.TheVariants.{Answered, Refused, Ran}
use Rattle.study_web.specs.declared.reply.Ending.TheVariants as ending
use Rattle.study_values.specs.Values.{ValueSource}
use Rattle.study_values.specs.declared.values.ProbeFault.{ProbeFault}
use Rattle.study_values.specs.declared.values.ProbeFault.TheVariants as probe
use Rattle.study_reply.specs.declared.refusal.Refusal.TheVariants.{NoSuchNode, OutOfMemory}
use Rattle.study_reply.specs.Names.{of_probe}
use Rattle.study_web.specs.Answers.{IsWhole, MayEnd, IsNever, IsNoMemory, IsViewDenial, IsSurveyDenial}
use Rattle.study_listing.specs.declared.fault.Stop.{Stop}
use Rattle.study_listing.specs.declared.fault.Stop.TheVariants as stops
use Rattle.study_listing.specs.Stops.{CanStop}
use Rattle.study_search.specs.Faults.{CanReport}
use Rattle.study_web.specs.Found.{of_stop}
use Rattle.study_web.specs.Opened.{IsHeldAs, IsOfTables, IsOfValues, IsUnreadValue, IsOfTablesFor, IsOfSearch}
use Rattle.study_web.specs.Reported.{denial_text, IsDenied, IsAnswerFault}

pub whole_denied : (IsIt : List ℕ → Type 0) (May : RequestFault → Type 0) (Stops : RunFault → Type 0) (d : RequestFault) (text : List ℕ) (ended : Ending)
    → IsDenied d text ended → May d → Stops run_fault.OutOfMemory → IsWhole IsIt May Stops text ended
whole_denied IsIt May Stops d text Answered x may stops = absurd x
whole_denied IsIt May Stops d text (Refused e) (same, is) may stops = (subst May (sym same) may, is ∙ ap denial_text (sym same))
whole_denied IsIt May Stops d text (ending.Stopped fault) (same, is) may stops = (subst Stops (sym same) stops, is)
whole_denied IsIt May Stops d text (Ran summary) x may stops = absurd x

-- a finished text, or the reason why there is none
pub whole_reported : {V : Type 0} (made : Result V AnswerFault) (items : V → List ℕ) (IsIt : List ℕ → Type 0) (May : RequestFault → Type 0)
    (Stops : RunFault → Type 0) (text : List ℕ) (ended : Ending) → IfOk made (λ v. (ended ≡ Answered) × (text ≡ items v))
    → IfErr made (λ why. IsAnswerFault why text ended) → IfOk made (λ v. IsIt (items v)) → IfErr made (MayEnd May Stops)
    → Stops run_fault.OutOfMemory → IsWhole IsIt May Stops text ended
whole_reported (Ok v) items IsIt May Stops text ended (e, t) no_value is may stops = rw (e, t) is
whole_reported (Err (no_text.Denied d)) items IsIt May Stops text ended done no_value is may stops =
    whole_denied IsIt May Stops d text ended no_value may stops
whole_reported (Err (no_text.Stopped fault)) items IsIt May Stops text ended done (e, t) is may stops = rw (e, t) (may, refl)

-- there is no text, for this reason
pub no_value_end : (May : RequestFault → Type 0) (Stops : RunFault → Type 0) (why : AnswerFault) (text : List ℕ) (ended : Ending) → IsAnswerFault why text ended
    → MayEnd May Stops why → Stops run_fault.OutOfMemory → IsWhole (λ t. ⊥) May Stops text ended
no_value_end May Stops (no_text.Denied d) text ended no_value may stops = whole_denied (λ t. ⊥) May Stops d text ended no_value may stops
no_value_end May Stops (no_text.Stopped fault) text ended (e, t) may stops = rw (e, t) (may, refl)

-- ---- why the values of an opened store cannot be read

abbrev Known : Type 0
Known = Class → Option (Result (List ℕ) StoreFault)

abbrev Faults : Type 0
Faults = Class → SourceFault → Bool

pub survey_over : (h : Known) (m : Faults) (Right : Type 0) (start : Start) (square : ℕ) (d : RequestFault) → IsOfTables h m d
    → IsSurveyDenial (IsOfValues h m Right start.position) start square d
survey_over h m Right start square (denial.Refused refusal) is = inl is
survey_over h m Right start square (denial.OfFile c refusal) is = inl is
survey_over h m Right start square denial.NoMan is = absurd is
survey_over h m Right start square (denial.Unread fault) is = inl is

-- ---- why a search fails

pub values_over : (h : Known) (m : Faults) (Right : Type 0) (p : Position) (d : RequestFault) → IsOfTables h m d → IsOfValues h m Right p d
values_over h m Right p d is = inl is

pub search_over : (h : Known) (m : Faults) (Right : Type 0) (c : Class) (d : RequestFault) → IsOfTables h m d → IsOfSearch h m Right c d
search_over h m Right c d is = inl is

-- a value that was not read, as honest values may report
pub search_reported : {V : Type 0} (source : ValueSource V)
    → (h : Known) (m : Faults) (Right : Type 0) (Needs : Class → Type 0) (v : V) (fault : ProbeFault) → CanReport source Needs v fault
    → ((c : Class) → IsHeldAs (h c) (source.held v c)) → ((c : Class) (f : SourceFault) → source.may_fail v c f → m c f ≡ true) → (Right → source.is_honest v)
    → IsOfTablesFor h m Right Needs (denial.Refused (of_probe fault))
search_reported source h m Right Needs v fault can known fails right = inr (fault, no_value-in fault can, refl)
  where
    no_value-in : (fault : ProbeFault) → CanReport source Needs v fault → IsUnreadValue h m Right Needs fault
    no_value-in (probe.NoTable c) none = (subst (IsHeldAs (h c)) none.0 (known c), none.1)
    no_value-in (probe.TableRead f) r = (r.0, r.2, fails r.0 f r.1)
    no_value-in (probe.PageDamaged c n) damaged = λ k. damaged (right k)

-- the same for a search that stopped; writing into memory fails only for want of it
pub search_stopped : {V : Type 0} (source : ValueSource V)
    → (h : Known) (m : Faults) (Right : Type 0) (Needs : Class → Type 0) (v : V) (stop : Stop) → CanStop source Needs v stop
    → ((c : Class) → IsHeldAs (h c) (source.held v c)) → ((c : Class) (f : SourceFault) → source.may_fail v c f → m c f ≡ true) → (Right → source.is_honest v)
    → IsOfTablesFor h m Right Needs (of_stop stop)
search_stopped source h m Right Needs v (stops.Values fault) can known fails right = search_reported source h m Right Needs v fault can known fails right
search_stopped source h m Right Needs v stops.TooManyStudies can known fails right = inl refl
search_stopped source h m Right Needs v stops.WriteDevice can known fails right = inl refl

module _ {V : Type 0} (source : ValueSource V) where
  no_value : (h : Known) (m : Faults) (Right : Type 0) (p : Position) → IsValid p → (old new : V) (fault : ProbeFault)
      → Stopped (within p source) old fault new → ((c : Class) → IsHeldAs (h c) (source.held old c))
      → ((c : Class) (f : SourceFault) → source.may_fail old c f → m c f ≡ true) → (Right → source.is_honest old) → IsUnreadValue h m Right (NeedsClass p) fault
  no_value h m Right p valid old new (probe.NoTable c) is known fails right =
      (subst (IsHeldAs (h c)) (is.no_value c refl) (known c), missed-needed source p valid old new (probe.NoTable c) c is.evaluated refl)
  no_value h m Right p valid old new (probe.TableRead f) is known fails right =
      let r = unread-needed source p valid old new (probe.TableRead f) f is.evaluated refl in (r.0, r.1, fails r.0 f r.2)
  no_value h m Right p valid old new (probe.PageDamaged c n) is known fails right = λ k. is.no_damage (right k)

  -- a survey is refused for the value that cannot be read
  pub survey_denied : (h : Known) (m : Faults) (Right : Type 0) (old new : V) (fault : ProbeFault) (start : Start) (square : ℕ)
      (r : Result (Unit {0}) SurveyFault) → IsValid start.position → r ≡ Err (survey.Values fault)
      → HasSurveyed (within start.position source) old r new → ((c : Class) → IsHeldAs (h c) (source.held old c))
      → ((c : Class) (f : SourceFault) → source.may_fail old c f → m c f ≡ true) → (Right → source.is_honest old)
      → IsSurveyDenial (IsOfValues h m Right start.position) start square (denial.Refused (of_probe fault))
  survey_denied h m Right old new fault start square r valid e is known fails right =
      let stopped = subst (λ (x : Result (Unit {0}) SurveyFault). HasSurveyed (within start.position source) old x new) e is in
      inr (fault, no_value h m Right start.position valid old new fault stopped known fails right, refl)

  -- a view is refused for the value that cannot be read
  pub view_stopped : (p : Position) (asked : List Position) (old new : V) (fault : ProbeFault) (r : Result (Unit {0}) ViewFault) → r ≡ Err (view.Values fault)
      → HasViewed source p asked old r new → Stopped (within p source) old fault new
  view_stopped p asked old new fault r e is =
      let there = subst (λ (x : Result (Unit {0}) ViewFault). HasViewed source p asked old x new) e is in
      there.stopped

  -- if a state has the same tables, the value cannot be read for this fault
  pub no_value_in : (s : State) (p : Position) → IsValid p → (old new : V) (fault : ProbeFault)
      → Stopped (within p source) old fault new
      → source.is_honest old → ((c : Class) → source.held old c ≡ is_among s.classes c)
      → ((c : Class) (f : SourceFault) → source.may_fail old c f → (s.paged ≡ true) × (s.shelf.faults c f ≡ true)) → IsValueFaultIn s p fault
  no_value_in s p valid old new (probe.NoTable c) is honest known fails =
      (sym (known c) ∙ is.no_value c refl, missed-needed source p valid old new (probe.NoTable c) c is.evaluated refl)
  no_value_in s p valid old new (probe.TableRead f) is honest known fails =
      let r = unread-needed source p valid old new (probe.TableRead f) f is.evaluated refl in
      let k = fails r.0 f r.2 in (k.0, r.0, r.1, k.1)
  no_value_in s p valid old new (probe.PageDamaged c n) is honest known fails = absurd (is.no_damage honest)

-- pages read from tables that may fail
paged_where : {P A : Type 0} (gives : GivesOf P) (t : Tables P A) (c : Class) (f : SourceFault) → tables_may_fail gives t c f → are_paged t ≡ true
paged_where gives (Whole w) c f h = absurd h
paged_where gives (Paged w) c f h = refl

-- the same for the tables of a session
pub no_value_left : {P A : Type 0} (honest : P → Table → ℕ → Type 0) (gives : GivesOf P) (b : HeldDocument A) (old new : Tables P A) (fault : ProbeFault)
    → StudyStopped (tables_source honest gives) (document_seen b) old fault new
    → (s : State) → Holds honest gives b old s → IsViewFault s fault
no_value_left honest gives b old new fault (plain, seen, valid, is) s holds = (
  plain,
  sym holds.document ∙ seen,
  no_value_in (tables_source honest gives) s plain.start.position valid old new
      fault is holds.values holds.classes (λ c f h. (sym holds.paged ∙ paged_where gives old c f h, holds.faults c f h)),
)

-- the result of each request under a premise
pub if_right : {V E : Type 0} (made : Result V E) (items : V → List ℕ) (Right : Type 0) (IsIt : List ℕ → Type 0)
    → (Right → IfOk made (λ v. IsIt (items v))) → IfOk made (λ v. Right → IsIt (items v))
if_right (Ok v) items Right IsIt f = f
if_right (Err e) items Right IsIt f = tt

-- ---- why there is no view

pub node_denial : (NoValue : ProbeFault → Type 0) (Lacks : Type 0) → Lacks → IsViewDenial NoValue Lacks (denial.Refused NoSuchNode)
node_denial NoValue Lacks h = inr (inl (refl, h))

pub memory_denial : (NoValue : ProbeFault → Type 0) (Lacks : Type 0) → IsViewDenial NoValue Lacks (denial.Refused OutOfMemory)
memory_denial NoValue Lacks = inl refl

pub probe_denial : (NoValue : ProbeFault → Type 0) (Lacks : Type 0) (fault : ProbeFault) → NoValue fault
    → IsViewDenial NoValue Lacks (denial.Refused (of_probe fault))
probe_denial NoValue Lacks fault is = inr (inr (fault, is, refl))

-- without a text: no such node, or no memory
pub node_end : (NoValue : ProbeFault → Type 0) (Lacks : Type 0) (Stops : RunFault → Type 0) (why : AnswerFault)
    → why ≡ no_text.Denied (denial.Refused NoSuchNode) → Lacks → MayEnd (IsViewDenial NoValue Lacks) Stops why
node_end NoValue Lacks Stops why e h = subst (MayEnd (IsViewDenial NoValue Lacks) Stops) (sym e) (node_denial NoValue Lacks h)

pub memory_end : {V : Type 0} (made : Result V AnswerFault) (NoValue : ProbeFault → Type 0) (Lacks : Type 0)
    → IfErr made (λ why. why ≡ no_text.Denied (denial.Refused OutOfMemory)) → IfErr made (MayEnd (IsViewDenial NoValue Lacks) IsNever)
memory_end (Ok v) NoValue Lacks h = tt
memory_end (Err why) NoValue Lacks h = subst (MayEnd (IsViewDenial NoValue Lacks) IsNever) (sym h) (memory_denial NoValue Lacks)

module _ (NoValue Unread : ProbeFault → Type 0) (Lacks Misses : Type 0) (no_value-so : (fault : ProbeFault) → NoValue fault → Unread fault)
    (lacks : Lacks → Misses) where
  weaker_view : (d : RequestFault) → IsViewDenial NoValue Lacks d → IsViewDenial Unread Misses d
  weaker_view d (inl same) = inl same
  weaker_view d (inr (inl (same, is))) = inr (inl (same, lacks is))
  weaker_view d (inr (inr (fault, is, same))) = inr (inr (fault, no_value-so fault is, same))

  weaker_end : (Stops : RunFault → Type 0) (why : AnswerFault) → MayEnd (IsViewDenial NoValue Lacks) Stops why → MayEnd (IsViewDenial Unread Misses) Stops why
  weaker_end Stops (no_text.Denied d) h = weaker_view d h
  weaker_end Stops (no_text.Stopped fault) h = h

  -- an error that is passed on
  pub passed_on : {V : Type 0} (made : Result V AnswerFault) (Stops : RunFault → Type 0) (why : AnswerFault) → IsErrAnd made (λ x. x ≡ why)
      → MayEnd (IsViewDenial NoValue Lacks) Stops why → IfErr made (MayEnd (IsViewDenial Unread Misses) Stops)
  passed_on (Ok v) Stops why e h = absurd e
  passed_on (Err x) Stops why e h = subst (MayEnd (IsViewDenial Unread Misses) Stops) (sym e) (weaker_end Stops why h)

  -- a reason why there is no view of what is left is also a reason for the script
  pub weaker_denial : {V : Type 0} (May : RequestFault → Type 0) (Stops Ends : RunFault → Type 0) → ((fault : RunFault) → Stops fault → Ends fault)
      → (made : Result V AnswerFault) → IfErr made (MayEnd (IsViewDenial NoValue Lacks) Stops)
      → IfErr made (MayEnd (λ d. May d ⊎ IsViewDenial Unread Misses d) Ends)
  weaker_denial May Stops Ends ends (Ok v) h = tt
  weaker_denial May Stops Ends ends (Err (no_text.Denied d)) h = inr (weaker_view d h)
  weaker_denial May Stops Ends ends (Err (no_text.Stopped fault)) h = ends fault h

  -- the same over the files of the request
  pub handed_denial : {V : Type 0} (May Might : RequestFault → Type 0) (Stops : RunFault → Type 0) → ((d : RequestFault) → May d → Might d)
      → (made : Result V AnswerFault) → IfErr made (MayEnd (λ d. May d ⊎ IsViewDenial NoValue Lacks d) Stops)
      → IfErr made (MayEnd (λ d. Might d ⊎ IsViewDenial Unread Misses d) Stops)
  handed_denial May Might Stops may (Ok v) h = tt
  handed_denial May Might Stops may (Err (no_text.Denied d)) (inl h) = inl (may d h)
  handed_denial May Might Stops may (Err (no_text.Denied d)) (inr h) = inr (weaker_view d h)
  handed_denial May Might Stops may (Err (no_text.Stopped fault)) h = h

-- the same for a survey
module _ (May Might : RequestFault → Type 0) (start : Start) (square : ℕ) (may : (d : RequestFault) → May d → Might d) where
  survey_end : (why : AnswerFault) → MayEnd (IsSurveyDenial May start square) IsNoMemory why → MayEnd (IsSurveyDenial Might start square) IsNoMemory why
  survey_end (no_text.Denied (denial.Refused refusal)) h = may (denial.Refused refusal) h
  survey_end (no_text.Denied (denial.OfFile c refusal)) h = may (denial.OfFile c refusal) h
  survey_end (no_text.Denied denial.NoMan) h = h
  survey_end (no_text.Denied (denial.Unread fault)) h = may (denial.Unread fault) h
  survey_end (no_text.Stopped fault) h = h

  pub survey_denial : {V : Type 0} (made : Result V AnswerFault) → IfErr made (MayEnd (IsSurveyDenial May start square) IsNoMemory)
      → IfErr made (MayEnd (IsSurveyDenial Might start square) IsNoMemory)
  survey_denial (Ok v) h = tt
  survey_denial (Err why) h = survey_end why h

-- the same for a search
pub search_denial : {V : Type 0} (made : Result V AnswerFault) (May Might : RequestFault → Type 0) → ((d : RequestFault) → May d → Might d)
    → IfErr made (MayEnd May IsNoMemory) → IfErr made (MayEnd Might IsNoMemory)
search_denial (Ok v) May Might may h = tt
search_denial (Err (no_text.Denied d)) May Might may h = may d h
search_denial (Err (no_text.Stopped fault)) May Might may h = h
