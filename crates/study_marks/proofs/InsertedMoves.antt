-- A move inserted: why it is refused, and the bench after it.
use Rattle.std.proofs.Common.{◌≡◌, ℕ, ◌+◌, ◌≤◌, ◌<◌, List, [], ◌∷◌, length, Bool, true, false, Option}
use Rattle.std.proofs.Common.{Some, None, is_some, true≢false, Result, Ok, Err, is_ok, IsOk, IsErrAnd}
use Rattle.std.proofs.Common.{IfErr, refl, sym, ap, ◌∙◌, arith, zero, suc, subst, IsTrue}
use Rattle.std.specs.Prelude.{if◌then◌else◌, MatchOption, not, nat_le}
use Rattle.std.proofs.lemmas.Bool.{lt-leb, le-leb, leb-false, false≢true}
use Rattle.study_board.specs.Position.{Position}
use Rattle.study_moves.specs.declared.moves.Move.{Move}
use Rattle.study_moves.specs.Rules.{is_legal, after}
use Rattle.study_tree.specs.Forest.{Forest, none, more}
use Rattle.study_tree.specs.Edits.{IsWithin, has_node, children_at}
use Rattle.study_tree.proofs.TreeDepth.{IsWithin-add_last}
use Rattle.study_text.specs.Counts.{next_count}
use Rattle.study_tree.specs.Tree.{Plain, Spot, has_spot, spot_at, size_of, with_child}
use Rattle.study_material.specs.declared.class.Class.{Class}
use Rattle.study_values.specs.declared.values.ProbeFault.{ProbeFault}
use Rattle.study_values.specs.declared.values.ProbeFault.TheVariants as probe
use Rattle.study_marks.specs.declared.node_label.NodeLabel.{NodeLabel}
use Rattle.study_marks.specs.declared.node_label.Evaluation.{Evaluation}
use Rattle.study_marks.specs.declared.mark.Mark.{Mark}
use Rattle.study_marks.specs.declared.refusal.Refusal.{Refusal}
use Rattle.study_marks.specs.declared.refusal.Refusal.TheVariants as refusal
use Rattle.study_marks.specs.Study.{Study, plain_study, moves_to, position_after, position_at, place_at}
use Rattle.study_marks.specs.Edits.{there, insert_refusal, with_insertion}
use Rattle.study_marks.specs.BenchState.{BenchState, marked_study, IsStudy, IsKeptRight, AllAddUp, evaluation_tree}
use Rattle.study_marks.specs.Goals.{aim_of}
use Rattle.study_marks.specs.Queries.{IsOutside, HasAsked, HasStopped, is_of_tables, counted_up_by}
use Rattle.study_marks.specs.Refusals.{refused_by}
use Rattle.study_marks.specs.Evaluated.{IsEvaluationOf, IsProbeFaultOf, ProbeCount, AllAreEvaluated}
use Rattle.study_marks.proofs.SameShape.{has_node-mapped, moves_to-mapped, place_at-mapped, nodes_in-mapped}
use Rattle.study_marks.proofs.PathRenewed.{spot-there, there-spot}
use Rattle.study_marks.proofs.SameShape.{children_at-mapped, mapped-with_child}
use Rattle.study_marks.proofs.StudyEdits.{IsPlayable-add_last, AreDistinct-add_last}
use Rattle.study_marks.proofs.MarksShown.{AllAreEvaluated-right, right-evaluated, AreEvaluated-add_last}
use Rattle.study_marks.proofs.BenchEdits.{bare, bare-marked_study, bare-evaluated, Fits, fits, study, with_tree, same-plain, next_count-later}

-- no node is deeper than the limit of the study
pub deep-none : {L : Type 0} (n : ℕ) (f : Forest L) (ks : List ℕ) → IsWithin n f → n < length ks → has_node f ks ≡ false
deep-none n f [] h w = absurd (omega (arith, w))
deep-none n none (k ∷ ks) h w = refl
deep-none zero (more m l b r) (k ∷ ks) h w = absurd h
deep-none (suc n) (more m l b r) (zero ∷ ks) h w = deep-none n b ks h.0 (let z : n < length ks = omega (arith, w) in z)
deep-none (suc n) (more m l b r) (suc k ∷ ks) h w = deep-none (suc n) r (k ∷ ks) h.1 w

-- the consequences of looking up a node
pub node-gone : {L N : Type 0} (t : Plain L) (ks : List ℕ) (o : Option N) (g : N → Spot L)
    → MatchOption o (spot_at t ks ≡ None) (λ n. spot_at t ks ≡ Some (g n)) → is_some o ≡ false → has_spot t ks ≡ false
node-gone t ks None g h e = go (has_spot t ks) refl
  where
    go : (b : Bool) → has_spot t ks ≡ b → has_spot t ks ≡ false
    go false k = k
    go true k = let s = spot-there t ks k in let no : Some s.0 ≡ None = sym s.1 ∙ h in absurd cc
node-gone t ks (Some n) g h e = absurd (true≢false e)

pub node-found : {L N : Type 0} (t : Plain L) (ks : List ℕ) (o : Option N) (g : N → Spot L)
    → MatchOption o (spot_at t ks ≡ None) (λ n. spot_at t ks ≡ Some (g n)) → is_some o ≡ true → IsTrue (has_spot t ks)
node-found t ks None g h e = absurd (false≢true e)
node-found t ks (Some n) g h e = there-spot t ks (g n) h

-- the first reason, checked in order
abbrev pub chosen : {A : Type 0} → Bool → Bool → Option ℕ → Bool → Bool → Option (Refusal A)
chosen found legal place deep full =
    if not found then Some refusal.NoSuchNode
    else (if not legal then Some refusal.IllegalMove else (there place (if deep then Some refusal.TooDeep else (if full then Some refusal.TreeFull else None))))

chosen-same : {A : Type 0} (found found' legal legal' : Bool) (place place' : Option ℕ)
    (deep deep' full full' : Bool) → found ≡ found' → legal ≡ legal' → place ≡ place' → deep ≡ deep' → full ≡ full'
    → chosen {A = A} found legal place deep full ≡ chosen found' legal' place' deep' full'
chosen-same {A = A} found found' legal legal' place place' deep deep' full full' a b c d e =
    ap (λ x. chosen {A = A} x legal place deep full) a ∙ ap (λ x. chosen {A = A} found' x place deep full) b
    ∙ ap (λ x. chosen {A = A} found' legal' x deep full) c
    ∙ ap (λ x. chosen {A = A} found' legal' place' x full) d ∙ ap (chosen {A = A} found' legal' place' deep') e

abbrev pub reason : {A L : Type 0} → Position → Plain L → List ℕ → Move → Option (Refusal A)
reason p t steps m = chosen (has_spot t steps) (is_legal (position_after p (moves_to t.below steps)) m)
    (place_at t.below steps m) (nat_le 256 (length steps)) (nat_le 4096 (size_of t))

reason-bare : {A : Type 0} (p : Position) (t : Plain NodeLabel) (steps : List ℕ) (m : Move) → reason {A = A} p (bare t) steps m ≡ reason p t steps m
reason-bare p t steps m =
    chosen-same (has_spot (bare t) steps) (has_spot t steps)
    (is_legal (position_after p (moves_to (bare t).below steps)) m)
    (is_legal (position_after p (moves_to t.below steps)) m)
    (place_at (bare t).below steps m) (place_at t.below steps m) (nat_le 256 (length steps))
    (nat_le 256 (length steps)) (nat_le 4096 (size_of (bare t))) (nat_le 4096 (size_of t))
    (has_node-mapped (λ (l : NodeLabel). tt {0}) t.below steps)
    (ap (λ ms. is_legal (position_after p ms) m) (moves_to-mapped (λ (l : NodeLabel). tt {0}) t.below steps))
    (place_at-mapped (λ (l : NodeLabel). tt {0}) t.below steps m) refl (ap (λ n. nat_le 4096 (1 + n)) (nodes_in-mapped (λ (l : NodeLabel). tt {0}) t.below))

pub insert-reason : {A : Type 0} (b k : BenchState) (steps : List ℕ) (m : Move) → b ≡ k
    → insert_refusal {A = A} (plain_study (marked_study k)) steps m ≡ reason b.study.start.position b.study.tree steps m
insert-reason {A = A} b k steps m same =
    ap (λ (x : BenchState). insert_refusal {A = A} (plain_study (marked_study x)) steps m) (sym same)
    ∙ ap (λ (t : Plain (Unit {0})). reason {A = A} b.study.start.position t steps m) (bare-marked_study b)
    ∙ reason-bare b.study.start.position b.study.tree steps m

abbrev pub err_as : {A : Type 0} (T : Type 0) → Refusal A → Result T (Refusal A)
err_as T r = Err r

pub match-some : {A : Type 0} (T : Type 0) (o : Option (Refusal A)) (P : Type 0) (f : Refusal A) → o ≡ Some f → MatchOption o P (λ g. err_as T f ≡ Err g)
match-some T o P f e = subst (λ x. MatchOption x P (λ g. err_as T f ≡ Err g)) (sym e) refl

pub some-none : {A : Type 0} (o : Option A) → ((x : A) → o ≡ Some x → ⊥) → o ≡ None
some-none None h = refl
some-none (Some x) h = absurd (h x refl)

pub at-most : (a b : ℕ) → a ≤ b → nat_le a b ≡ true
at-most a b h = le-leb a b h

pub not-at-most : (a b : ℕ) → b < a → nat_le a b ≡ false
not-at-most a b h = lt-leb a b h

-- each reason
module _ {A : Type 0} (b k : BenchState) (steps : List ℕ) (m : Move) (same : b ≡ k) where
  pub no-node : has_spot b.study.tree steps ≡ false → insert_refusal {A = A} (plain_study (marked_study k)) steps m ≡ Some refusal.NoSuchNode
  no-node f = insert-reason b k steps m same ∙ chosen-same _ false _ _ _ _ _ _ _ _ f refl refl refl refl

  pub not-legal : has_spot b.study.tree steps ≡ true → is_legal (position_after b.study.start.position (moves_to b.study.tree.below steps)) m ≡ false
      → insert_refusal {A = A} (plain_study (marked_study k)) steps m ≡ Some refusal.IllegalMove
  not-legal f l = insert-reason b k steps m same ∙ chosen-same _ true _ false _ _ _ _ _ _ f l refl refl refl

  pub is-there : (place : ℕ) → has_spot b.study.tree steps ≡ true
      → is_legal (position_after b.study.start.position (moves_to b.study.tree.below steps)) m ≡ true
      → place_at b.study.tree.below steps m ≡ Some place
      → insert_refusal {A = A} (plain_study (marked_study k)) steps m ≡ Some (refusal.AlreadyThere place)
  is-there place f l p = insert-reason b k steps m same ∙ chosen-same _ true _ true _ (Some place) _ _ _ _ f l p refl refl

  pub too-deep : has_spot b.study.tree steps ≡ true
      → is_legal (position_after b.study.start.position (moves_to b.study.tree.below steps)) m ≡ true
      → place_at b.study.tree.below steps m ≡ None → 256 ≤ length steps
      → insert_refusal {A = A} (plain_study (marked_study k)) steps m ≡ Some refusal.TooDeep
  too-deep f l p d = insert-reason b k steps m same ∙ chosen-same _ true _ true _ None _ true _ _ f l p (at-most 256 (length steps) d) refl

  pub too-full : has_spot b.study.tree steps ≡ true
      → is_legal (position_after b.study.start.position (moves_to b.study.tree.below steps)) m ≡ true
      → place_at b.study.tree.below steps m ≡ None → length steps < 256
      → 4096 ≤ size_of b.study.tree → insert_refusal {A = A} (plain_study (marked_study k)) steps m ≡ Some refusal.TreeFull
  too-full f l p d n = insert-reason b k steps m same ∙ chosen-same _ true _ true _ None _ false _ true f l p
      (not-at-most 256 (length steps) d) (at-most 4096 (size_of b.study.tree) n)

  pub no-reason : has_spot b.study.tree steps ≡ true
      → is_legal (position_after b.study.start.position (moves_to b.study.tree.below steps)) m ≡ true
      → place_at b.study.tree.below steps m ≡ None → length steps < 256
      → size_of b.study.tree < 4096 → insert_refusal {A = A} (plain_study (marked_study k)) steps m ≡ None
  no-reason f l p d n = insert-reason b k steps m same ∙ chosen-same _ true _ true _ None _ false _ false f l p
      (not-at-most 256 (length steps) d) (not-at-most 4096 (size_of b.study.tree) n)

-- the result of a move that is not refused
pub record Open (p : Position) (t : Plain NodeLabel) (steps : List ℕ) (m : Move) : Type 0 where
  pub found : has_spot t steps ≡ true
  pub legal : is_legal (position_after p (moves_to t.below steps)) m ≡ true
  pub place : place_at t.below steps m ≡ None
  pub depth : length steps < 256

chosen-open : {A : Type 0} (found legal : Bool) (place : Option ℕ) (deep full : Bool)
    → chosen {A = A} found legal place deep full ≡ None → (found ≡ true) × (legal ≡ true) × (place ≡ None)
    × (deep ≡ false)
chosen-open false legal place deep full e = let no : ⊥ = cc in absurd no
chosen-open true false place deep full e = let no : ⊥ = cc in absurd no
chosen-open true true (Some k) deep full e = let no : ⊥ = cc in absurd no
chosen-open true true None true full e = let no : ⊥ = cc in absurd no
chosen-open true true None false full e = (refl, refl, refl, refl)

none-refused : {T A : Type 0} (o : Option (Refusal A)) (r : Result T (Refusal A)) (x : T) → r ≡ Ok x → MatchOption o (IsOk r) (λ g. r ≡ Err g) → o ≡ None
none-refused None r x e h = refl
none-refused (Some f) r x e h = let no : Ok x ≡ Err f = sym e ∙ h in absurd cc

pub allowed : {A T : Type 0} (b : BenchState) (steps : List ℕ) (m : Move) (r : Result T (Refusal A)) (x : T) → r ≡ Ok x
    → MatchOption (insert_refusal {A = A} (plain_study (marked_study b)) steps m) (IsOk r) (λ g. r ≡ Err g)
    → Open b.study.start.position b.study.tree steps m
allowed {A = A} b steps m r x e h =
    let all = chosen-open _ _ _ _ _ (sym (insert-reason {A = A} b b steps m refl) ∙ none-refused _ r x e h) in
    record { found = all.0; legal = all.1; place = all.2; depth = leb-false 256 (length steps) all.3 }

pub open-as : (b k : BenchState) (steps : List ℕ) (m : Move) → b ≡ k → Open k.study.start.position k.study.tree steps m
    → Open b.study.start.position b.study.tree steps m
open-as b k steps m same o = subst (λ (y : BenchState). Open y.study.start.position y.study.tree steps m) (sym same) o

pub unrefused : {A T : Type 0} (k : BenchState) (steps path : List ℕ) (m : Move) (r : Result T (Refusal A)) (x : T)
    → steps ≡ path → r ≡ Ok x → MatchOption (insert_refusal {A = A} (plain_study (marked_study k)) steps m) (IsOk r)
    (λ g. r ≡ Err g)
    → insert_refusal {A = A} (plain_study (marked_study k)) path m ≡ None
unrefused {A = A} k steps path m r x way e h = ap (λ p. insert_refusal {A = A} (plain_study (marked_study k)) p m) (sym way) ∙ none-refused _ r x e h

pub refused-before : {A T U : Type 0} (k : BenchState) (steps path : List ℕ) (m : Move) (r : Result T (Refusal A))
    (f : Refusal A) (answer : Result U (Refusal A)) (P : Type 0) → steps ≡ path → r ≡ Err f
    → MatchOption (insert_refusal {A = A} (plain_study (marked_study k)) steps m) (IsOk r) (λ g. r ≡ Err g) → IsErrAnd answer (λ x. x ≡ f)
    → MatchOption (insert_refusal {A = A} (plain_study (marked_study k)) path m) P (λ g. answer ≡ Err g)
refused-before {A = A} {U = U} k steps path m r f answer P way e h a =
    subst (λ p. MatchOption (insert_refusal {A = A} (plain_study (marked_study k)) p m) P (λ g. answer ≡ Err g)) way
    (go (insert_refusal {A = A} (plain_study (marked_study k)) steps m) h)
  where
    evaluated : (x : Refusal A) (q : Result U (Refusal A)) → IsErrAnd q (λ y. y ≡ x) → q ≡ Err x
    evaluated x (Ok u) h = absurd h
    evaluated x (Err y) h = ap Err h

    go : (o : Option (Refusal A)) → MatchOption o (IsOk r) (λ g. r ≡ Err g) → MatchOption o P (λ g. answer ≡ Err g)
    go None h = absurd (false≢true (sym (ap is_ok e) ∙ h))
    go (Some g) h = let one : f ≡ g = (let two : Err f ≡ Err g = sym e ∙ h in cc) in evaluated f answer a ∙ ap Err one

-- a value that could not be read
pub outside-evaluated : (A : Type 0) (held : Class → Bool) (asked : List Position) (f : ProbeFault)
    → IsProbeFaultOf held asked f → IsOutside {A = A} held asked (refused_by f)
outside-evaluated A held asked (probe.NoTable c) h = h
outside-evaluated A held asked (probe.TableRead x) h = h
outside-evaluated A held asked (probe.PageDamaged c n) h = h

pub outside-answer : {A T : Type 0} (held : Class → Bool) (asked : List Position) (f : ProbeFault)
    (r : Result T (Refusal A)) → IsErrAnd r (λ x. x ≡ refused_by f) → IsProbeFaultOf held asked f
    → IfErr r (IsOutside {A = A} held asked)
outside-answer held asked f (Ok x) e h = absurd e
outside-answer {A = A} held asked f (Err x) e h = subst (IsOutside {A = A} held asked) (sym e) (outside-evaluated A held asked f h)

pub tables-answer : {A T : Type 0} (f : ProbeFault) (r : Result T (Refusal A)) → IsErrAnd r (λ x. x ≡ refused_by f) → IfErr r (λ x. is_of_tables x ≡ true)
tables-answer f (Ok x) e = absurd e
tables-answer {A = A} f (Err x) e = ap (is_of_tables {A = A}) e ∙ go f
  where
    go : (f : ProbeFault) → is_of_tables (refused_by {A = A} f) ≡ true
    go (probe.NoTable c) = refl
    go (probe.TableRead x) = refl
    go (probe.PageDamaged c k) = refl

pub asked-answer : {A T : Type 0} (n old new : ℕ) (f : ProbeFault) (r : Result T (Refusal A))
    → IsErrAnd r (λ x. x ≡ refused_by f) → ProbeCount n false old new → HasAsked n r old new
asked-answer n old new f (Ok x) e h = absurd e
asked-answer {A = A} n old new f (Err x) e h = subst (λ (y : Refusal A). HasStopped (is_of_tables y) n old new) (sym e) (go f)
  where
    go : (f : ProbeFault) → HasStopped (is_of_tables (refused_by {A = A} f)) n old new
    go (probe.NoTable c) = h
    go (probe.TableRead x) = h
    go (probe.PageDamaged c k) = h

-- the same node with the marks shown
pub children-marked_study : (b k : BenchState) (steps path : List ℕ) → b ≡ k → steps ≡ path → children_at b.study.tree.below steps
    ≡ children_at (marked_study k).tree.below path
children-marked_study b k steps path same way =
    sym (children_at-mapped (λ (l : NodeLabel). tt {0}) b.study.tree.below steps)
    ∙ ap (λ (t : Plain (Unit {0})). children_at t.below steps) (sym (bare-marked_study b))
    ∙ children_at-mapped (λ (x : Mark). tt {0}) (marked_study b).tree.below steps
    ∙ ap (λ (x : BenchState). children_at (marked_study x).tree.below steps) same ∙ ap (children_at (marked_study k).tree.below) way

pub position-marked_study : (b k : BenchState) (steps path : List ℕ) → b ≡ k → steps ≡ path → position_at b.study steps ≡ position_at (marked_study k) path
position-marked_study b k steps path same way =
    ap (position_after b.study.start.position)
    (sym (moves_to-mapped (λ (l : NodeLabel). tt {0}) b.study.tree.below steps)
    ∙ ap (λ (t : Plain (Unit {0})). moves_to t.below steps) (sym (bare-marked_study b))
    ∙ moves_to-mapped (λ (x : Mark). tt {0}) (marked_study b).tree.below steps)
    ∙ ap (λ (x : BenchState). position_at (marked_study x) steps) same ∙ ap (position_at (marked_study k)) way

-- the nodes after the edit
bare-inserted : (t u : Plain NodeLabel) (ks : List ℕ) (m : Move) (x : Evaluation) → evaluation_tree u ≡ with_child (evaluation_tree t) ks m x
    → bare u ≡ with_child (bare t) ks m tt
bare-inserted t u ks m x e = sym (bare-evaluated u) ∙ ap bare e ∙ mapped-with_child (λ (y : Evaluation). tt {0}) (evaluation_tree t)
    ks m x ∙ ap (λ y. with_child y ks m tt) (bare-evaluated t)

fits-with_child : (p : Position) (t : Plain (Unit {0})) (ks : List ℕ) (m : Move)
    → is_legal (position_after p (moves_to t.below ks)) m ≡ true → place_at t.below ks m ≡ None → length ks < 256
    → Fits p t → Fits p (with_child t ks m tt)
fits-with_child p t ks m legal place depth h = record {
  playable = IsPlayable-add_last p t.below ks m tt h.playable legal;
  distinct = AreDistinct-add_last t.below ks m tt h.distinct place;
  shallow = IsWithin-add_last 256 t.below ks m tt h.shallow depth;
}

pub inserted-study : (s : Study NodeLabel) (u : Plain NodeLabel) (ks : List ℕ) (m : Move) (x : Evaluation)
    → evaluation_tree u ≡ with_child (evaluation_tree s.tree) ks m x → Open s.start.position s.tree ks m → IsStudy s
    → IsStudy (with_tree s u)
inserted-study s u ks m x e o h =
    study s u h (subst (Fits s.start.position) (sym (bare-inserted s.tree u ks m x e)) (fits-with_child s.start.position (bare s.tree) ks m
    (ap (λ ms. is_legal (position_after s.start.position ms) m) (moves_to-mapped (λ (l : NodeLabel). tt {0}) s.tree.below ks) ∙ o.legal)
    (place_at-mapped (λ (l : NodeLabel). tt {0}) s.tree.below ks m ∙ o.place) o.depth (fits s h)))

pub inserted-plain : (k : BenchState) (u : Plain NodeLabel) (n : ℕ) (ks : List ℕ) (m : Move) (x : Evaluation)
    → evaluation_tree u ≡ with_child (evaluation_tree k.study.tree) ks m x
    → plain_study (marked_study (record { study = with_tree k.study u; relabelled = n })) ≡ with_insertion (plain_study (marked_study k)) ks m
inserted-plain k u n ks m x e = same-plain k u n
    ∙ ap (λ y. record { start = k.study.start; stipulation = k.study.stipulation; tags = k.study.tags; tree = y })
    (bare-inserted k.study.tree u ks m x e ∙ ap (λ y. with_child y ks m tt) (sym (bare-marked_study k)))

pub inserted-right : (k : BenchState) (u : Plain NodeLabel) (n : ℕ) (ks : List ℕ) (m : Move) (x : Evaluation)
    → evaluation_tree u ≡ with_child (evaluation_tree k.study.tree) ks m x → AllAddUp (aim_of k.study) u
    → IsEvaluationOf (after (position_at k.study ks) m) x → IsKeptRight k → IsKeptRight (record { study = with_tree k.study u; relabelled = n })
inserted-right k u n ks m x e s g h =
    let p = k.study.start.position in
    let old = AllAreEvaluated-right k h in
    let here : IsEvaluationOf (after (position_after p (moves_to (evaluation_tree k.study.tree).below ks)) m) x =
    subst (λ ms. IsEvaluationOf (after (position_after p ms) m) x)
    (sym (moves_to-mapped (λ (l : NodeLabel). l.evaluated) k.study.tree.below ks)) g in
    right-evaluated (record { study = with_tree k.study u; relabelled = n }) s
    (subst (AllAreEvaluated p) (sym e) (old.0, AreEvaluated-add_last p (evaluation_tree k.study.tree).below ks m x old.1 here))

-- the number of labels written
pub inserted-count : (n old mid new : ℕ) → mid ≡ old → new ≡ counted_up_by n mid → next_count new ≡ counted_up_by n (next_count old)
inserted-count n old mid new same e = next_count-later n old new (e ∙ ap (counted_up_by n) same)
