-- The evaluation of each node, and the marks that are shown.
use Rattle.std.proofs.Common.{◌≡◌, ℕ, ◌+◌, ◌%◌, ◌==◌, List, [], ◌∷◌, length, Bool, true, false, not, refl, sym, ap, ◌∙◌, arith, zero, suc, subst, inl, inr}
use Rattle.std.specs.Prelude.{if◌then◌else◌, nat_le}
use Rattle.std.specs.List.{count_by}
use Rattle.std.proofs.lemmas.Bool.{false≢true, eqb-true, cases_lt}
use Rattle.study_board.proofs.Lists.{count_by-cons}
use Rattle.study_board.specs.Position.{Position}
use Rattle.study_moves.specs.declared.moves.Move.{Move}
use Rattle.study_moves.specs.Rules.{after}
use Rattle.study_values.specs.declared.value.Value.{Value}
use Rattle.study_values.specs.declared.value.Value.TheVariants as values
use Rattle.study_tree.specs.Forest.{Forest, none, more}
use Rattle.study_tree.specs.Edits.{with_last, add_last, place_edited, dropped_at, raised_at, second}
use Rattle.study_marks.specs.declared.stipulation.Goal.{Goal}
use Rattle.study_marks.specs.declared.stipulation.Goal.TheVariants.{Win, Draw, MateIn}
use Rattle.study_marks.specs.declared.node_label.NodeLabel.{NodeLabel}
use Rattle.study_marks.specs.declared.node_label.Evaluation.{Evaluation}
use Rattle.study_marks.specs.declared.mark_rules.Aim.{Aim}
use Rattle.study_marks.specs.Study.{mapped, moves_to, position_after}
use Rattle.study_marks.specs.Goals.{aim_of, hero_moves, holds, keeps_goal, plies_of}
use Rattle.study_marks.specs.Marks.{mark_of, move_mark, faults_in}
use Rattle.study_marks.specs.Annotated.{AreAnnotated}
use Rattle.study_marks.specs.MoveOutcomes.{tally_of}
use Rattle.study_marks.specs.BenchState.{BenchState, count_holding, mark_by_label, shown_marks, AreTallied, IsKeptRight}
use Rattle.study_marks.specs.BenchState.{own_fault, all_faults, faults_below, FaultsAddUp, AllAddUp, evaluation_tree}
use Rattle.study_marks.specs.Evaluated.{IsEvaluationOf, AreEvaluated, AllAreEvaluated}

-- edits keep the evaluations
AreEvaluated-with_last : (p : Position) (f : Forest Evaluation) (m : Move) (x : Evaluation) → AreEvaluated p f → IsEvaluationOf (after p m) x
    → AreEvaluated p (with_last m x f)
AreEvaluated-with_last p none m x h k = (k, tt, tt)
AreEvaluated-with_last p (more n t b r) m x h k = (h.0, h.1, AreEvaluated-with_last p r m x h.2 k)

pub AreEvaluated-add_last : (p : Position) (f : Forest Evaluation) (ks : List ℕ) (m : Move) (x : Evaluation) → AreEvaluated p f
    → IsEvaluationOf (after (position_after p (moves_to f ks)) m) x → AreEvaluated p (add_last f ks m x)
AreEvaluated-add_last p f [] m x h k = AreEvaluated-with_last p f m x h k
AreEvaluated-add_last p none (j ∷ js) m x h k = tt
AreEvaluated-add_last p (more n t b r) (zero ∷ js) m x h k = (h.0, AreEvaluated-add_last (after p n) b js m x h.1 k, h.2)
AreEvaluated-add_last p (more n t b r) (suc j ∷ js) m x h k = (h.0, h.1, AreEvaluated-add_last p r (j ∷ js) m x h.2 k)

AreEvaluated-place_edited : (e : ℕ → Forest Evaluation → Forest Evaluation)
    → ((p : Position) (k : ℕ) (f : Forest Evaluation) → AreEvaluated p f → AreEvaluated p (e k f))
    → (p : Position) (f : Forest Evaluation) (k : ℕ) (ks : List ℕ) → AreEvaluated p f → AreEvaluated p (place_edited e f k ks)
AreEvaluated-place_edited e keeps p f k [] h = keeps p k f h
AreEvaluated-place_edited e keeps p none k (j ∷ js) h = tt
AreEvaluated-place_edited e keeps p (more m t b r) zero (j ∷ js) h = (h.0, AreEvaluated-place_edited e keeps (after p m) b j js h.1, h.2)
AreEvaluated-place_edited e keeps p (more m t b r) (suc k) (j ∷ js) h = (h.0, h.1, AreEvaluated-place_edited e keeps p r k (j ∷ js) h.2)

AreEvaluated-dropped_at : (p : Position) (k : ℕ) (f : Forest Evaluation) → AreEvaluated p f → AreEvaluated p (dropped_at k f)
AreEvaluated-dropped_at p k none h = h
AreEvaluated-dropped_at p zero (more n t b r) h = h.2
AreEvaluated-dropped_at p (suc k) (more n t b r) h = (h.0, h.1, AreEvaluated-dropped_at p k r h.2)

AreEvaluated-second : (p : Position) (m : Move) (t : Evaluation) (b r : Forest Evaluation) → IsEvaluationOf (after p m) t
    → AreEvaluated (after p m) b → AreEvaluated p r → AreEvaluated p (second m t b r)
AreEvaluated-second p m t b none e h k = (e, h, tt)
AreEvaluated-second p m t b (more n x d r) e h k = (k.0, k.1, (e, h, k.2))

AreEvaluated-raised_at : (p : Position) (k : ℕ) (f : Forest Evaluation) → AreEvaluated p f → AreEvaluated p (raised_at k f)
AreEvaluated-raised_at p k none h = h
AreEvaluated-raised_at p zero (more n t b r) h = h
AreEvaluated-raised_at p (suc zero) (more n t b r) h = AreEvaluated-second p n t b r h.0 h.1 h.2
AreEvaluated-raised_at p (suc (suc k)) (more n t b r) h = (h.0, h.1, AreEvaluated-raised_at p (suc k) r h.2)

pub AreEvaluated-dropped : (p : Position) (f : Forest Evaluation) (k : ℕ) (ks : List ℕ) → AreEvaluated p f → AreEvaluated p (place_edited dropped_at f k ks)
AreEvaluated-dropped = AreEvaluated-place_edited dropped_at AreEvaluated-dropped_at

pub AreEvaluated-raised : (p : Position) (f : Forest Evaluation) (k : ℕ) (ks : List ℕ) → AreEvaluated p f → AreEvaluated p (place_edited raised_at f k ks)
AreEvaluated-raised = AreEvaluated-place_edited raised_at AreEvaluated-raised_at

-- from right marks to right evaluations
AreEvaluated-annotated : (a : Aim) (d : ℕ) (p : Position) (v : Value) (q : Evaluation) (f : Forest NodeLabel)
    → AreAnnotated a d p v (shown_marks a d q f) → AreTallied p f → AreEvaluated p (mapped (λ l. l.evaluated) f)
AreEvaluated-annotated a d p v q none h t = tt
AreEvaluated-annotated a d p v q (more m l b r) h t =
    ((h.0, t.0), AreEvaluated-annotated a (d + 1) (after p m) l.evaluated.value l.evaluated b h.3 t.1, AreEvaluated-annotated a d p v q r h.4 t.2)

pub AllAreEvaluated-right : (k : BenchState) → IsKeptRight k → AllAreEvaluated k.study.start.position (evaluation_tree k.study.tree)
AllAreEvaluated-right k h = (
  (h.marks.value, h.root),
  AreEvaluated-annotated (aim_of k.study) 0 k.study.start.position
      k.study.tree.label.evaluated.value k.study.tree.label.evaluated k.study.tree.below h.marks.below h.tallies,
)

AreTallied-evaluated : (p : Position) (f : Forest NodeLabel) → AreEvaluated p (mapped (λ l. l.evaluated) f) → AreTallied p f
AreTallied-evaluated p none h = tt
AreTallied-evaluated p (more m l b r) h = (h.0.1, AreTallied-evaluated (after p m) b h.1, AreTallied-evaluated p r h.2)

-- the hero does not move twice
odd_after : (d : ℕ) (c : Bool) → (d % 2 == 0) ≡ c → ((d + 1) % 2 == 0) ≡ not c
odd_after d true e =
    let even = eqb-true (d % 2) 0 e in
    let odd : (d + 1) % 2 ≡ 1 = omega arith in ap (λ n. n == 0) odd
odd_after d false e = elim (cases_lt 0 (d % 2)) [
  | inl lt ↦ let even : (d + 1) % 2 ≡ 0 = omega arith in ap (λ n. n == 0) even
  | inr le ↦ let even : d % 2 ≡ 0 = omega arith in absurd (false≢true (sym e ∙ ap (λ n. n == 0) even))
]

turn : (a : Aim) (d : ℕ) → hero_moves a d ≡ true → hero_moves a (d + 1) ≡ false
turn a d h = go (d % 2 == 0) refl a.hero_first h
  where
    go : (c : Bool) → (d % 2 == 0) ≡ c → (first : Bool) → (if d % 2 == 0 then first else not first) ≡ true
        → (if (d + 1) % 2 == 0 then first else not first) ≡ false
    go true e first k =
        let k2 : first ≡ true = subst (λ b. (if b then first else not first) ≡ true) e k in
        subst (λ b. (if b then first else not first) ≡ false) (sym (odd_after d true e)) (ap not k2)
    go false e first k =
        let k2 : not first ≡ true = subst (λ b. (if b then first else not first) ≡ true) e k in
        subst (λ b. (if b then first else not first) ≡ false) (sym (odd_after d false e)) (flip first k2)
      where
        flip : (b : Bool) → not b ≡ true → b ≡ false
        flip true e = sym e
        flip false e = refl

-- the tally counts the moves that hold, if the opponent is to move
held-counted : (goal : Goal) (first : Bool) (d : ℕ) (vs : List Value) → count_holding goal first d (tally_of vs)
    ≡ count_by (λ v. keeps_goal goal first d false v) vs
held-counted Win first d [] = refl
held-counted Win first d (values.Win n ∷ vs) =
    let rest : length (tally_of vs).mates ≡ count_by (λ v. keeps_goal Win first d false v) vs = held-counted Win first d vs in
    let step : count_by (λ v. keeps_goal Win first d false v) (values.Win n ∷ vs)
    ≡ 0 + count_by (λ v. keeps_goal Win first d false v) vs =
    count_by-cons (λ v. keeps_goal Win first d false v) (values.Win n) vs in
    let sum : length (tally_of vs).mates ≡ count_by (λ v. keeps_goal Win first d false v) (values.Win n ∷ vs) = omega (arith, rest, step) in sum
held-counted Win first d (values.Loss n ∷ vs) =
    let rest : length (tally_of vs).mates ≡ count_by (λ v. keeps_goal Win first d false v) vs = held-counted Win first d vs in
    let step : count_by (λ v. keeps_goal Win first d false v) (values.Loss n ∷ vs)
    ≡ 1 + count_by (λ v. keeps_goal Win first d false v) vs =
    count_by-cons (λ v. keeps_goal Win first d false v) (values.Loss n) vs in
    let sum : suc (length (tally_of vs).mates) ≡ count_by (λ v. keeps_goal Win first d false v) (values.Loss n ∷ vs) = omega (arith, rest, step) in sum
held-counted Win first d (values.Draw ∷ vs) =
    let rest : length (tally_of vs).mates ≡ count_by (λ v. keeps_goal Win first d false v) vs = held-counted Win first d vs in
    let step : count_by (λ v. keeps_goal Win first d false v) (values.Draw ∷ vs)
    ≡ 0 + count_by (λ v. keeps_goal Win first d false v) vs =
    count_by-cons (λ v. keeps_goal Win first d false v) (values.Draw) vs in
    let sum : length (tally_of vs).mates ≡ count_by (λ v. keeps_goal Win first d false v) (values.Draw ∷ vs) = omega (arith, rest, step) in sum
held-counted Draw first d [] = refl
held-counted Draw first d (values.Win n ∷ vs) =
    let rest : length (tally_of vs).mates + (tally_of vs).draws ≡ count_by (λ v. keeps_goal Draw first d false v) vs = held-counted Draw first d vs in
    let step : count_by (λ v. keeps_goal Draw first d false v) (values.Win n ∷ vs)
    ≡ 0 + count_by (λ v. keeps_goal Draw first d false v) vs =
    count_by-cons (λ v. keeps_goal Draw first d false v) (values.Win n) vs in
    let sum : length (tally_of vs).mates + (tally_of vs).draws ≡ count_by (λ v. keeps_goal Draw first d false v)
    (values.Win n ∷ vs) = omega (arith, rest, step) in sum
held-counted Draw first d (values.Loss n ∷ vs) =
    let rest : length (tally_of vs).mates + (tally_of vs).draws ≡ count_by (λ v. keeps_goal Draw first d false v) vs = held-counted Draw first d vs in
    let step : count_by (λ v. keeps_goal Draw first d false v) (values.Loss n ∷ vs)
    ≡ 1 + count_by (λ v. keeps_goal Draw first d false v) vs =
    count_by-cons (λ v. keeps_goal Draw first d false v) (values.Loss n) vs in
    let sum : suc (length (tally_of vs).mates) + (tally_of vs).draws ≡ count_by (λ v. keeps_goal Draw first d false v)
    (values.Loss n ∷ vs) = omega (arith, rest, step) in sum
held-counted Draw first d (values.Draw ∷ vs) =
    let rest : length (tally_of vs).mates + (tally_of vs).draws ≡ count_by (λ v. keeps_goal Draw first d false v) vs = held-counted Draw first d vs in
    let step : count_by (λ v. keeps_goal Draw first d false v) (values.Draw ∷ vs)
    ≡ 1 + count_by (λ v. keeps_goal Draw first d false v) vs =
    count_by-cons (λ v. keeps_goal Draw first d false v) (values.Draw) vs in
    let sum : length (tally_of vs).mates + (1 + (tally_of vs).draws) ≡ count_by (λ v. keeps_goal Draw first d false v)
    (values.Draw ∷ vs) = omega (arith, rest, step) in sum
held-counted (MateIn k) first d [] = refl
held-counted (MateIn k) first d (values.Win n ∷ vs) =
    let rest : count_by (λ n. nat_le (d + n) (plies_of first k)) (tally_of vs).mates
    ≡ count_by (λ v. keeps_goal (MateIn k) first d false v) vs = held-counted (MateIn k) first d vs in
    let step : count_by (λ v. keeps_goal (MateIn k) first d false v) (values.Win n ∷ vs)
    ≡ 0 + count_by (λ v. keeps_goal (MateIn k) first d false v) vs =
    count_by-cons (λ v. keeps_goal (MateIn k) first d false v) (values.Win n) vs in
    let sum : count_by (λ n. nat_le (d + n) (plies_of first k)) (tally_of vs).mates
    ≡ count_by (λ v. keeps_goal (MateIn k) first d false v) (values.Win n ∷ vs) = omega (arith, rest, step) in sum
held-counted (MateIn k) first d (values.Loss n ∷ vs) =
    count_by-cons (λ n. nat_le (d + n) (plies_of first k)) n (tally_of vs).mates
    ∙ ap (λ c. (if nat_le (d + n) (plies_of first k) then 1 else 0) + c) (held-counted (MateIn k) first d vs)
    ∙ sym (count_by-cons (λ v. keeps_goal (MateIn k) first d false v) (values.Loss n) vs)
held-counted (MateIn k) first d (values.Draw ∷ vs) =
    let rest : count_by (λ n. nat_le (d + n) (plies_of first k)) (tally_of vs).mates
    ≡ count_by (λ v. keeps_goal (MateIn k) first d false v) vs = held-counted (MateIn k) first d vs in
    let step : count_by (λ v. keeps_goal (MateIn k) first d false v) (values.Draw ∷ vs)
    ≡ 0 + count_by (λ v. keeps_goal (MateIn k) first d false v) vs =
    count_by-cons (λ v. keeps_goal (MateIn k) first d false v) (values.Draw) vs in
    let sum : count_by (λ n. nat_le (d + n) (plies_of first k)) (tally_of vs).mates
    ≡ count_by (λ v. keeps_goal (MateIn k) first d false v) (values.Draw ∷ vs) = omega (arith, rest, step) in sum

-- the mark from the evaluation is the one from all values
mark_of-opponent : (before after : Bool) (n k : ℕ) → mark_of false before after n ≡ mark_of false before after k
mark_of-opponent true after n k = refl
mark_of-opponent false true n k = refl
mark_of-opponent false false n k = refl

pub kept-move : (a : Aim) (d : ℕ) (q : Evaluation) (all : List Value) (w : Value) → q.tally ≡ tally_of all → mark_by_label a d q w ≡ move_mark a d q.value all w
kept-move a d q all w e = go (hero_moves a d) refl
  where
    held : ℕ
    held = count_holding a.goal a.hero_first (d + 1) q.tally

    counted : ℕ
    counted = count_by (holds a (d + 1)) all

    go : (b : Bool) → hero_moves a d ≡ b → mark_of (hero_moves a d) (holds a d q.value) (holds a (d + 1) w) held
        ≡ mark_of (hero_moves a d) (holds a d q.value) (holds a (d + 1) w) counted
    go true h =
        let same : held ≡ counted = ap (count_holding a.goal a.hero_first (d + 1)) e ∙ held-counted a.goal a.hero_first (d + 1) all
        ∙ ap (λ b. count_by (λ v. keeps_goal a.goal a.hero_first (d + 1) b v) all) (sym (turn a d h)) in
        ap (mark_of (hero_moves a d) (holds a d q.value) (holds a (d + 1) w)) same
    go false h = subst (λ b. mark_of b (holds a d q.value) (holds a (d + 1) w) held ≡ mark_of b (holds a d q.value) (holds a (d + 1) w) counted) (sym h)
        (mark_of-opponent (holds a d q.value) (holds a (d + 1) w) held counted)

-- faults that add up are those counted from the marks
below-opponent : (f : Forest NodeLabel) → faults_below false f ≡ all_faults f
below-opponent none = refl
below-opponent (more n k c s) = refl

sums-shown_marks : (hero : Bool) (n later counted : ℕ) (r : Forest NodeLabel) → faults_below hero r ≡ counted → n ≡ later
    → n + (if hero then 0 else all_faults r) ≡ later + (if hero then 0 else counted)
sums-shown_marks true n later counted r e h = omega (arith, h)
sums-shown_marks false n later counted r e h = let two : all_faults r ≡ counted = sym (below-opponent r) ∙ e in omega (arith, h, two)

faults-shown_marks : (a : Aim) (d : ℕ) (q : Evaluation) (f : Forest NodeLabel) → FaultsAddUp a d q f → faults_below (hero_moves a d) f
    ≡ faults_in a d (shown_marks a d q f)
faults-shown_marks a d q none h = refl
faults-shown_marks a d q (more m l b r) h =
    sums-shown_marks (hero_moves a d) l.faults (own_fault a d q l.evaluated.value + faults_in a (d + 1) (shown_marks a (d + 1) l.evaluated b))
    (faults_in a d (shown_marks a d q r)) r
    (faults-shown_marks a d q r h.2) (h.0 ∙ ap (λ n. own_fault a d q l.evaluated.value + n) (faults-shown_marks a (d + 1) l.evaluated b h.1))

AreAnnotated-evaluated : (a : Aim) (d : ℕ) (p : Position) (q : Evaluation) (f : Forest NodeLabel) → FaultsAddUp a d q f → IsEvaluationOf p q
    → AreEvaluated p (mapped (λ l. l.evaluated) f) → AreAnnotated a d p q.value (shown_marks a d q f)
AreAnnotated-evaluated a d p q none s h t = tt
AreAnnotated-evaluated a d p q (more m l b r) s h t = (
  t.0.0,
  (mark_by_label a d q l.evaluated.value, refl, (h.1.0, h.1.1, kept-move a d q h.1.0 l.evaluated.value h.1.2)),
  s.0 ∙ ap (λ n. own_fault a d q l.evaluated.value + n) (faults-shown_marks a (d + 1) l.evaluated b s.1),
  AreAnnotated-evaluated a (d + 1) (after p m) l.evaluated b s.1 t.0 t.1,
  AreAnnotated-evaluated a d p q r s.2 h t.2,
)

-- from right evaluations, and faults that add up, to right marks
pub right-evaluated : (k : BenchState) → AllAddUp (aim_of k.study) k.study.tree → AllAreEvaluated k.study.start.position (evaluation_tree k.study.tree)
    → IsKeptRight k
right-evaluated k s t = record {
  marks = record {
    value = t.0.0;
    no_move = refl;
    faults = s.0 ∙ faults-shown_marks (aim_of k.study) 0 k.study.tree.label.evaluated k.study.tree.below s.1;
    below = AreAnnotated-evaluated (aim_of k.study) 0 k.study.start.position k.study.tree.label.evaluated k.study.tree.below s.1 t.0 t.1;
  };
  root = t.0.1;
  tallies = AreTallied-evaluated k.study.start.position k.study.tree.below t.1;
}
