-- A move tried at a node: why it is refused, and the mark that it would have.
use Rattle.std.proofs.Common.{◌≡◌, ℕ, List, length, Bool, true, false, Option, Some, None, Result, Ok, Err, IsOk, IsErrAnd}
use Rattle.std.proofs.Common.{is_ok, refl, sym, ap, ◌∙◌, subst}
use Rattle.std.specs.Prelude.{if◌then◌else◌, not, nat_le, MatchOption}
use Rattle.std.proofs.lemmas.Bool.{false≢true}
use Rattle.study_moves.specs.declared.moves.Move.{Move}
use Rattle.study_moves.specs.Rules.{is_legal}
use Rattle.study_tree.specs.Tree.{Plain, has_spot, size_of}
use Rattle.study_marks.specs.declared.node_label.NodeLabel.{NodeLabel}
use Rattle.study_marks.specs.declared.refusal.Refusal.{Refusal}
use Rattle.study_marks.specs.declared.refusal.Refusal.TheVariants as refusal
use Rattle.study_marks.specs.Study.{plain_study, moves_to, position_after, position_at, place_at}
use Rattle.study_marks.specs.Edits.{PlainStudy, insert_refusal}
use Rattle.study_marks.specs.BenchState.{BenchState, marked_study}
use Rattle.study_marks.specs.Trial.{trial_refusal}
use Rattle.study_marks.proofs.SameShape.{has_node-mapped, moves_to-mapped}
use Rattle.study_marks.proofs.BenchEdits.{bare-marked_study}
use Rattle.study_marks.proofs.InsertedMoves.{chosen}

-- the first reason, checked in order
abbrev pub tried : {A : Type 0} → Bool → Bool → Option (Refusal A)
tried found legal = if not found then Some refusal.NoSuchNode else (if not legal then Some refusal.IllegalMove else None)

tried-same : {A : Type 0} (found found' legal legal' : Bool) → found ≡ found' → legal ≡ legal' → tried {A = A} found legal ≡ tried found' legal'
tried-same {A = A} found found' legal legal' a b = ap (λ x. tried {A = A} x legal) a ∙ ap (tried {A = A} found') b

pub trial-reason : {A : Type 0} (b k : BenchState) (steps : List ℕ) (m : Move) (found legal : Bool) → b ≡ k → has_spot b.study.tree steps ≡ found
    → is_legal (position_after b.study.start.position (moves_to b.study.tree.below steps)) m ≡ legal
    → trial_refusal {A = A} (plain_study (marked_study k)) steps m ≡ tried found legal
trial-reason {A = A} b k steps m found legal same e l =
    let p = b.study.start.position in
    ap (λ (x : BenchState). trial_refusal {A = A} (plain_study (marked_study x)) steps m) (sym same)
    ∙ ap (λ (t : Plain (Unit {0})). tried {A = A} (has_spot t steps) (is_legal (position_after p (moves_to t.below steps)) m)) (bare-marked_study b)
    ∙ tried-same _ found _ legal (has_node-mapped (λ (x : NodeLabel). tt {0}) b.study.tree.below steps ∙ e)
    (ap (λ ms. is_legal (position_after p ms) m) (moves_to-mapped (λ (x : NodeLabel). tt {0}) b.study.tree.below steps) ∙ l)

-- a reason not to try a move is one not to insert it
pub insert-first : {A : Type 0} (s : PlainStudy) (steps : List ℕ) (m : Move) (f : Refusal A) → trial_refusal s steps m ≡ Some f
    → insert_refusal s steps m ≡ Some f
insert-first s steps m f e = go (has_spot s.tree steps) (is_legal (position_at s steps) m) e
  where
    go : (found legal : Bool) → tried found legal ≡ Some f
        → chosen found legal (place_at s.tree.below steps m) (nat_le 256 (length steps)) (nat_le 4096 (size_of s.tree)) ≡ Some f
    go false legal h = h
    go true false h = h
    go true true h = let no : None ≡ Some f = h in absurd cc

pub refused-next : {A T U : Type 0} (reason next : Option (Refusal A)) (r : Result T (Refusal A)) (f : Refusal A) (answer : Result U (Refusal A))
    (P : Type 0) → ((g : Refusal A) → reason ≡ Some g → next ≡ Some g) → r ≡ Err f → MatchOption reason (IsOk r) (λ g. r ≡ Err g)
    → IsErrAnd answer (λ x. x ≡ f) → MatchOption next P (λ g. answer ≡ Err g)
refused-next {A = A} {U = U} None next r f answer P on e h a = absurd (false≢true (sym (ap is_ok e) ∙ h))
refused-next {A = A} {U = U} (Some g) next r f answer P on e h a =
    subst (λ o. MatchOption o P (λ x. answer ≡ Err x)) (sym (on g refl))
    (let one : f ≡ g = (let two : Err f ≡ Err g = sym e ∙ h in cc) in evaluated f answer a ∙ ap Err one)
  where
    evaluated : (x : Refusal A) (q : Result U (Refusal A)) → IsErrAnd q (λ y. y ≡ x) → q ≡ Err x
    evaluated x (Ok u) k = absurd k
    evaluated x (Err y) k = ap Err k
