-- What a verdict says of the faults of a solution.
use Rattle.std.proofs.Common.{◌≡◌, ◌==◌, ℕ, Bool, true, false, List, [], ◌∷◌, Option, Some, None, refl, sym, ap, ◌∙◌}
use Rattle.std.proofs.lemmas.Bool.{eqb-true}
use Rattle.std.specs.Prelude.{if◌then◌else◌}
use Rattle.study_board.specs.declared.men.Side.{Side}
use Rattle.study_board.specs.Men.{same_side}
use Rattle.study_values.specs.declared.value.Value.{Value}
use Rattle.study_marks.specs.declared.mark.Mark.{Mark}
use Rattle.study_marks.specs.declared.stipulation.Goal.{Goal}
use Rattle.study_marks.specs.declared.stipulation.Goal.TheVariants.{Win, Draw, MateIn}
use Rattle.study_marks.specs.declared.stipulation.Stipulation.{Stipulation}
use Rattle.study_marks.specs.Goals.{aim_of, meets_stipulation}
use Rattle.study_marks.specs.Study.{Study}
use Rattle.study_marks.specs.Verdict.{sound, unsound, verdict}
use Rattle.study_facts.specs.Faults.{Fault, solution_faults}
use Rattle.study_facts.specs.Nodes.{is_mistake}
use Rattle.study_facts.specs.Order.{is_empty}
use Rattle.study_facts.proofs.FaultsListed.{faults-of-solution}
use Rattle.study_head.specs.declared.mistake.NamedMove.{NamedMove}
use Rattle.study_head.specs.declared.verdict.Stamp.{Stamp}
use Rattle.study_head.specs.declared.verdict.Stamp.TheVariants.{Sound, Duals}
use Rattle.study_head.specs.declared.solution.DualCounts.{DualCounts}
use Rattle.study_head.specs.declared.solution.SolutionFacts.{SolutionFacts}
use Rattle.study_head.specs.Mistake.{mistake_among, named_fault, first_mistake}
use Rattle.study_head.specs.Verdict.{missing_beside, asks_too_little, excess_stamp, wrong_stamp, cook_of, cook_stamp, solution_stamp, mistake_stamp, first_stamp, stamp_of}
use Rattle.study_head.specs.Laws.{AreDuals, DualsAreCounted, SoundHasNoFault}

-- the stamps of a study whose stipulation is correct, and which has no mistake
abbrev IsRight : Stamp → Bool
IsRight (Sound wastes missing) = true
IsRight (Duals d counts missing) = true
IsRight _ = false

not-excess : (g : Goal) (hero first : Side) (v : Value) → IsRight (excess_stamp g hero first v) ≡ true → ⊥
not-excess Win hero first v h = let no : ⊥ = cc in no
not-excess Draw hero first v h = let no : ⊥ = cc in no
not-excess (MateIn k) hero first v h = let no : ⊥ = cc in no

right-claim : (x : Stipulation) (first : Side) (v : Value) (other : Stamp) → IsRight (first_stamp (wrong_stamp x first v) other) ≡ true
    → (meets_stipulation (record { goal = x.goal; hero_first = same_side x.hero first }) v ≡ true) × (first_stamp (wrong_stamp x first v) other ≡ other)
right-claim x first v other h =
    go (asks_too_little x.goal (same_side x.hero first) v) refl (meets_stipulation (record { goal = x.goal; hero_first = same_side x.hero first }) v) refl h
  where
    go : (b : Bool) → asks_too_little x.goal (same_side x.hero first) v ≡ b
        → (c : Bool) → meets_stipulation (record { goal = x.goal; hero_first = same_side x.hero first }) v ≡ c
        → IsRight (first_stamp (wrong_stamp x first v) other) ≡ true
        → (meets_stipulation (record { goal = x.goal; hero_first = same_side x.hero first }) v ≡ true) × (first_stamp (wrong_stamp x first v) other ≡ other)
    go true e c f = rw e (λ h. absurd (not-excess x.goal x.hero first v h))
    go false e true f = rw e (rw f (λ h. (refl, refl)))
    go false e false f = rw e (rw f (λ h. let no : ⊥ = cc in absurd no))

no-mistake : (o reply : Option NamedMove) (other : Stamp) → IsRight (mistake_stamp o reply other) ≡ true
    → (o ≡ None) × (mistake_stamp o reply other ≡ other)
no-mistake None reply other h = (refl, refl)
no-mistake (Some m) reply other h = let no : ⊥ = cc in absurd no

none-named : (s : Study Mark) (o : Option Fault) → named_fault s o ≡ None → o ≡ None
none-named s None h = refl
none-named s (Some x) h = let no : ⊥ = cc in absurd no

all-duals : (xs : List Fault) → mistake_among xs ≡ None → AreDuals xs
all-duals [] h = tt
all-duals (x ∷ xs) h = go (is_mistake (Some x.mark)) refl (all-duals xs) h
  where
    go : (b : Bool) → is_mistake (Some x.mark) ≡ b → (mistake_among xs ≡ None → AreDuals xs) → mistake_among (x ∷ xs) ≡ None → AreDuals (x ∷ xs)
    go true e ih = rw e (λ h. let no : ⊥ = cc in absurd no)
    go false e ih = rw e (λ h. (refl, ih h))

module _ (s : Study Mark) (f : SolutionFacts) where
  abbrev of_solution : Stamp
  of_solution = solution_stamp s.tree.label.faults (is_empty (aim_of s).hero_first s.tree.below) f

  right : IsRight (stamp_of s f) ≡ true
      → (meets_stipulation (aim_of s) s.tree.label.value ≡ true) × (first_mistake s ≡ None) × (stamp_of s f ≡ of_solution)
  right h =
      let claim = right-claim s.stipulation s.start.position.to_move s.tree.label.value (mistake_stamp (first_mistake s) f.refutation of_solution) h in
      let solved = no-mistake (first_mistake s) f.refutation of_solution (ap IsRight (sym claim.1) ∙ h) in
      (claim.0, solved.0, claim.1 ∙ solved.1)

verdict-by : (s : Study Mark) (b : Bool) → meets_stipulation (aim_of s) s.tree.label.value ≡ true → (s.tree.label.faults == 0) ≡ b
    → verdict s ≡ (if b then sound else unsound s.tree.label.faults)
verdict-by s b meets e = rw meets (rw e refl)

-- by the number of duals
counted-in : (o : Option NamedMove) (n : ℕ) (c : DualCounts) (a : Option NamedMove) (duals : ℕ) (counts : DualCounts) (missing : Option NamedMove)
    → cook_stamp o (Duals n c a) ≡ Duals duals counts missing → n ≡ duals
counted-in None n c a duals counts missing h = let same : n ≡ duals = cc in same
counted-in (Some m) n c a duals counts missing h = let no : ⊥ = cc in absurd no

not-sound : (o : Option NamedMove) (n : ℕ) (c : DualCounts) (a missing : Option NamedMove) → cook_stamp o (Duals n c a) ≡ Sound false missing → ⊥
not-sound None n c a missing h = let no : ⊥ = cc in no
not-sound (Some m) n c a missing h = let no : ⊥ = cc in no

by-duals : (n : ℕ) (e : Bool) (f : SolutionFacts) (duals : ℕ) (counts : DualCounts) (missing : Option NamedMove)
    → solution_stamp n e f ≡ Duals duals counts missing
    → (n ≡ duals) × ((n == 0) ≡ false)
by-duals n e f duals counts missing h = go (n == 0) refl (f.counts.time == n) refl e h
  where
    go : (b : Bool) → (n == 0) ≡ b → (t : Bool) → (f.counts.time == n) ≡ t → (e : Bool)
        → solution_stamp n e f ≡ Duals duals counts missing → (n ≡ duals) × ((n == 0) ≡ false)
    go true z t y true = rw z (λ h. let no : ⊥ = cc in absurd no)
    go true z t y false = rw z (λ h. let no : ⊥ = cc in absurd no)
    go false z true y e = rw z (rw y (λ h. let no : ⊥ = cc in absurd no))
    go false z false y e = rw z (rw y (λ h. (counted-in (cook_of f.worst) n f.counts (missing_beside f) duals counts missing h, refl)))

by-sound : (n : ℕ) (e : Bool) (f : SolutionFacts) (missing : Option NamedMove) → solution_stamp n e f ≡ Sound false missing → (n == 0) ≡ true
by-sound n e f missing h = go (n == 0) refl (f.counts.time == n) refl h
  where
    go : (b : Bool) → (n == 0) ≡ b → (t : Bool) → (f.counts.time == n) ≡ t → solution_stamp n e f ≡ Sound false missing → (n == 0) ≡ true
    go true z t y = rw z (λ h. refl)
    go false z true y = rw z (rw y (λ h. let no : ⊥ = cc in absurd no))
    go false z false y = rw z (rw y (λ h. absurd (not-sound (cook_of f.worst) n f.counts (missing_beside f) missing h)))

pub duals-counted : DualsAreCounted
duals-counted s f duals counts missing h e =
    let r = right s f (ap IsRight e) in
    let n = by-duals s.tree.label.faults (is_empty (aim_of s).hero_first s.tree.below) f duals counts missing (sym r.2 ∙ e) in (
      verdict-by s false r.0 n.1 ∙ ap unsound n.0,
      (faults-of-solution s h).0 ∙ n.0,
      all-duals (solution_faults s) (none-named s (mistake_among (solution_faults s)) r.1),
    )

pub sound-faultless : SoundHasNoFault
sound-faultless s f missing h e =
    let r = right s f (ap IsRight e) in
    let n = by-sound s.tree.label.faults (is_empty (aim_of s).hero_first s.tree.below) f missing (sym r.2 ∙ e) in (
      verdict-by s true r.0 n,
      (faults-of-solution s h).0 ∙ eqb-true s.tree.label.faults 0 n,
    )
