-- A bench after an edit of its tree.
use Rattle.std.proofs.Common.{◌≡◌, ℕ, ◌+◌, List, [], ◌∷◌, Bool, true, false, Option, Some, None, refl, sym, ap, ◌∙◌, zero, suc, subst}
use Rattle.std.specs.Prelude.{if◌then◌else◌, Result, Ok, Err, IsOk, IsErrAnd, MatchOption, not, nat_eq}
use Rattle.study_board.specs.Position.{Position}
use Rattle.study_moves.specs.declared.moves.Move.{Move}
use Rattle.study_moves.specs.Rules.{after}
use Rattle.study_tree.specs.declared.fault.TreeFault.{TreeFault}
use Rattle.study_tree.specs.declared.fault.TreeFault.TheVariants as tree
use Rattle.study_tree.specs.Forest.{Forest, none, more}
use Rattle.study_tree.specs.Edits.{IsWithin, last_place, place_edited, dropped_at, raised_at}
use Rattle.study_tree.proofs.TreeDepth.{IsWithin-place, IsWithin-dropped_at, IsWithin-raised_at}
use Rattle.study_text.specs.Counts.{next_count}
use Rattle.study_tree.specs.Tree.{Plain, has_spot, without, moved_up, removal_refusal, move_up_refusal}
use Rattle.study_marks.specs.declared.mark.Mark.{Mark}
use Rattle.study_marks.specs.declared.node_label.NodeLabel.{NodeLabel}
use Rattle.study_marks.specs.declared.node_label.Evaluation.{Evaluation}
use Rattle.study_marks.specs.declared.mark_rules.Aim.{Aim}
use Rattle.study_marks.specs.declared.refusal.Refusal.{Refusal}
use Rattle.study_marks.specs.declared.refusal.Refusal.TheVariants as refusal
use Rattle.study_marks.specs.Refusals.{refused_by_tree}
use Rattle.study_marks.specs.Study.{Study, mapped, mapped_tree, plain_study, IsPlayable, AreOthers, AreDistinct}
use Rattle.study_marks.specs.Goals.{aim_of}
use Rattle.study_marks.specs.Edits.{with_deletion, with_promotion, delete_refusal, promote_refusal}
use Rattle.study_marks.specs.Queries.{counted_up_by}
use Rattle.study_marks.specs.BenchState.{BenchState, shown_marks, marked_study, IsStudy, IsKeptRight, AllAddUp, evaluation_tree}
use Rattle.study_marks.specs.Evaluated.{AllAreEvaluated}
use Rattle.study_marks.proofs.SameShape.{mapped-mapped, mapped-without, mapped-moved_up, has_node-mapped}
use Rattle.study_marks.proofs.SameShape.{IsPlayable-mapped, mapped-IsPlayable, AreDistinct-mapped}
use Rattle.study_marks.proofs.SameShape.{mapped-AreDistinct, IsWithin-mapped, mapped-IsWithin}
use Rattle.study_marks.proofs.MarksShown.{AllAreEvaluated-right, right-evaluated, AreEvaluated-dropped, AreEvaluated-raised}

abbrev pub bare : {L : Type 0} → Plain L → Plain (Unit {0})
bare t = mapped_tree (λ _. tt) t

-- showing marks changes no node
bare-shown_marks : (a : Aim) (d : ℕ) (q : Evaluation) (f : Forest NodeLabel) → mapped (λ (x : Mark). tt {0}) (shown_marks a d q f)
    ≡ mapped (λ (l : NodeLabel). tt {0}) f
bare-shown_marks a d q none = refl
bare-shown_marks a d q (more m l b r) =
    ap (λ x. more m tt x (mapped (λ _. tt) (shown_marks a d q r))) (bare-shown_marks a (d + 1) l.evaluated b)
    ∙ ap (more m tt (mapped (λ _. tt) b)) (bare-shown_marks a d q r)

pub bare-marked_study : (k : BenchState) → (plain_study (marked_study k)).tree ≡ bare k.study.tree
bare-marked_study k = ap (λ f. record { label = tt; below = f }) (bare-shown_marks (aim_of k.study) 0 k.study.tree.label.evaluated k.study.tree.below)

-- the evaluations without the faults determine the nodes
pub bare-evaluated : (t : Plain NodeLabel) → bare (evaluation_tree t) ≡ bare t
bare-evaluated t = ap (λ f. record { label = tt; below = f }) (mapped-mapped (λ (l : NodeLabel). l.evaluated) (λ (x : Evaluation). tt {0}) t.below)

-- edits keep the invariants of a study
IsPlayable-place : {L : Type 0} (e : ℕ → Forest L → Forest L) → ((p : Position) (k : ℕ) (f : Forest L) → IsPlayable p f → IsPlayable p (e k f))
    → (p : Position) (f : Forest L) (k : ℕ) (ks : List ℕ) → IsPlayable p f → IsPlayable p (place_edited e f k ks)
IsPlayable-place e keeps p f k [] h = keeps p k f h
IsPlayable-place e keeps p none k (j ∷ js) h = h
IsPlayable-place e keeps p (more m l b r) zero (j ∷ js) h = (h.0, IsPlayable-place e keeps (after p m) b j js h.1, h.2)
IsPlayable-place e keeps p (more m l b r) (suc k) (j ∷ js) h = (h.0, h.1, IsPlayable-place e keeps p r k (j ∷ js) h.2)

IsPlayable-dropped_at : {L : Type 0} (p : Position) (k : ℕ) (f : Forest L) → IsPlayable p f → IsPlayable p (dropped_at k f)
IsPlayable-dropped_at p k none h = h
IsPlayable-dropped_at p zero (more n l b r) h = h.2
IsPlayable-dropped_at p (suc k) (more n l b r) h = (h.0, h.1, IsPlayable-dropped_at p k r h.2)

IsPlayable-raised_at : {L : Type 0} (p : Position) (k : ℕ) (f : Forest L) → IsPlayable p f → IsPlayable p (raised_at k f)
IsPlayable-raised_at p k none h = h
IsPlayable-raised_at p zero (more n l b r) h = h
IsPlayable-raised_at p (suc zero) (more n l b none) h = h
IsPlayable-raised_at p (suc zero) (more n l b (more n2 l2 b2 r2)) h = (h.2.0, h.2.1, (h.0, h.1, h.2.2))
IsPlayable-raised_at p (suc (suc k)) (more n l b r) h = (h.0, h.1, IsPlayable-raised_at p (suc k) r h.2)

-- siblings with other moves
module _ {L : Type 0} where
  AreOthers-dropped : (m : Move) (k : ℕ) (f : Forest L) → AreOthers m f → AreOthers m (dropped_at k f)
  AreOthers-dropped m k none h = h
  AreOthers-dropped m zero (more n l b r) h = h.1
  AreOthers-dropped m (suc k) (more n l b r) h = (h.0, AreOthers-dropped m k r h.1)

  AreOthers-raised : (m : Move) (k : ℕ) (f : Forest L) → AreOthers m f → AreOthers m (raised_at k f)
  AreOthers-raised m k none h = h
  AreOthers-raised m zero (more n l b r) h = h
  AreOthers-raised m (suc zero) (more n l b none) h = h
  AreOthers-raised m (suc zero) (more n l b (more n2 l2 b2 r2)) h = (h.1.0, (h.0, h.1.1))
  AreOthers-raised m (suc (suc k)) (more n l b r) h = (h.0, AreOthers-raised m (suc k) r h.1)

  AreDistinct-dropped_at : (k : ℕ) (f : Forest L) → AreDistinct f → AreDistinct (dropped_at k f)
  AreDistinct-dropped_at k none h = h
  AreDistinct-dropped_at zero (more n l b r) h = h.2
  AreDistinct-dropped_at (suc k) (more n l b r) h = (AreOthers-dropped n k r h.0, h.1, AreDistinct-dropped_at k r h.2)

  AreDistinct-raised_at : (k : ℕ) (f : Forest L) → AreDistinct f → AreDistinct (raised_at k f)
  AreDistinct-raised_at k none h = h
  AreDistinct-raised_at zero (more n l b r) h = h
  AreDistinct-raised_at (suc zero) (more n l b none) h = h
  AreDistinct-raised_at (suc zero) (more n l b (more n2 l2 b2 r2)) h = (((λ e. h.0.0 (sym e)), h.2.0), h.2.1, (h.0.1, h.1, h.2.2))
  AreDistinct-raised_at (suc (suc k)) (more n l b r) h = (AreOthers-raised n (suc k) r h.0, h.1, AreDistinct-raised_at (suc k) r h.2)

  AreOthers-place : (e : ℕ → Forest L → Forest L) (m : Move) (f : Forest L) (k j : ℕ) (js : List ℕ) → AreOthers m f → AreOthers m (place_edited e f k (j ∷ js))
  AreOthers-place e m none k j js h = h
  AreOthers-place e m (more n l b r) zero j js h = h
  AreOthers-place e m (more n l b r) (suc k) j js h = (h.0, AreOthers-place e m r k j js h.1)

  AreDistinct-place : (e : ℕ → Forest L → Forest L) → ((k : ℕ) (f : Forest L) → AreDistinct f → AreDistinct (e k f))
      → (f : Forest L) (k : ℕ) (ks : List ℕ) → AreDistinct f → AreDistinct (place_edited e f k ks)
  AreDistinct-place e keeps f k [] h = keeps k f h
  AreDistinct-place e keeps none k (j ∷ js) h = h
  AreDistinct-place e keeps (more m l b r) zero (j ∷ js) h = (h.0, AreDistinct-place e keeps b j js h.1, h.2)
  AreDistinct-place e keeps (more m l b r) (suc k) (j ∷ js) h = (AreOthers-place e m r k j js h.0, h.1, AreDistinct-place e keeps r k (j ∷ js) h.2)

-- a study whose tree has the nodes of another
pub record Fits (p : Position) (t : Plain (Unit {0})) : Type 0 where
  pub playable : IsPlayable p t.below
  pub distinct : AreDistinct t.below
  pub shallow : IsWithin 256 t.below

pub fits : {L : Type 0} (s : Study L) → IsStudy s → Fits s.start.position (bare s.tree)
fits s h =
    record {
      playable = mapped-IsPlayable (λ _. tt) s.start.position s.tree.below h.playable;
      distinct = mapped-AreDistinct (λ _. tt) s.tree.below h.distinct;
      shallow = mapped-IsWithin (λ _. tt) 256
          s.tree.below h.shallow;
    }

pub study : {L M : Type 0} (s : Study L) (t : Plain M) → IsStudy s → Fits s.start.position (bare t)
    → IsStudy (record { start = s.start; stipulation = s.stipulation; tags = s.tags; tree = t })
study s t h f =
    record {
      valid = h.valid;
      playable = IsPlayable-mapped (λ _. tt) s.start.position t.below f.playable;
      distinct = AreDistinct-mapped (λ _. tt) t.below f.distinct;
      shallow = IsWithin-mapped (λ _. tt) 256 t.below
          f.shallow;
      printed = h.printed;
    }

fits-without : (p : Position) (t : Plain (Unit {0})) (ks : List ℕ) → Fits p t → Fits p (without t ks)
fits-without p t [] h = h
fits-without p t (k ∷ ks) h = record {
  playable = IsPlayable-place dropped_at IsPlayable-dropped_at p t.below k ks h.playable;
  distinct = AreDistinct-place dropped_at AreDistinct-dropped_at t.below k ks h.distinct;
  shallow = IsWithin-place dropped_at IsWithin-dropped_at 256 t.below k ks h.shallow;
}

fits-moved_up : (p : Position) (t : Plain (Unit {0})) (ks : List ℕ) → Fits p t → Fits p (moved_up t ks)
fits-moved_up p t [] h = h
fits-moved_up p t (k ∷ ks) h = record {
  playable = IsPlayable-place raised_at IsPlayable-raised_at p t.below k ks h.playable;
  distinct = AreDistinct-place raised_at AreDistinct-raised_at t.below k ks h.distinct;
  shallow = IsWithin-place raised_at IsWithin-raised_at 256 t.below k ks h.shallow;
}

-- the nodes, from the evaluations
bare-removed : (t u : Plain NodeLabel) (ks : List ℕ) → evaluation_tree u ≡ without (evaluation_tree t) ks → bare u ≡ without (bare t) ks
bare-removed t u ks e = sym (bare-evaluated u) ∙ ap bare e ∙ mapped-without (λ (x : Evaluation). tt {0}) (evaluation_tree t) ks
    ∙ ap (λ x. without x ks) (bare-evaluated t)

bare-raised : (t u : Plain NodeLabel) (ks : List ℕ) → evaluation_tree u ≡ moved_up (evaluation_tree t) ks → bare u ≡ moved_up (bare t) ks
bare-raised t u ks e = sym (bare-evaluated u) ∙ ap bare e ∙ mapped-moved_up (λ (x : Evaluation). tt {0}) (evaluation_tree t) ks
    ∙ ap (λ x. moved_up x ks) (bare-evaluated t)

abbrev pub with_tree : Study NodeLabel → Plain NodeLabel → Study NodeLabel
with_tree s u = record { start = s.start; stipulation = s.stipulation; tags = s.tags; tree = u }

pub removed-study : (s : Study NodeLabel) (u : Plain NodeLabel) (ks : List ℕ) → evaluation_tree u ≡ without (evaluation_tree s.tree) ks → IsStudy s
    → IsStudy (with_tree s u)
removed-study s u ks e h =
    study s u h
    (subst (Fits s.start.position) (sym (bare-removed s.tree u ks e))
    (fits-without s.start.position (bare s.tree) ks (fits s h)))

pub raised-study : (s : Study NodeLabel) (u : Plain NodeLabel) (ks : List ℕ) → evaluation_tree u ≡ moved_up (evaluation_tree s.tree) ks → IsStudy s
    → IsStudy (with_tree s u)
raised-study s u ks e h =
    study s u h
    (subst (Fits s.start.position) (sym (bare-raised s.tree u ks e))
    (fits-moved_up s.start.position (bare s.tree) ks (fits s h)))

-- the plain study after the edit
pub same-plain : (k : BenchState) (u : Plain NodeLabel) (n : ℕ)
    → plain_study (marked_study (record { study = with_tree k.study u; relabelled = n }))
    ≡ record { start = k.study.start; stipulation = k.study.stipulation; tags = k.study.tags; tree = bare u }
same-plain k u n =
    ap (λ x. record { start = k.study.start; stipulation = k.study.stipulation; tags = k.study.tags; tree = x })
    (bare-marked_study (record { study = with_tree k.study u; relabelled = n }))

pub removed-plain : (k : BenchState) (u : Plain NodeLabel) (n : ℕ) (ks : List ℕ)
    → evaluation_tree u ≡ without (evaluation_tree k.study.tree) ks
    → plain_study (marked_study (record { study = with_tree k.study u; relabelled = n })) ≡ with_deletion (plain_study (marked_study k))
    ks
removed-plain k u n ks e = same-plain k u n
    ∙ ap (λ x. record { start = k.study.start; stipulation = k.study.stipulation; tags = k.study.tags; tree = x })
    (bare-removed k.study.tree u ks e ∙ ap (λ x. without x ks) (sym (bare-marked_study k)))

pub raised-plain : (k : BenchState) (u : Plain NodeLabel) (n : ℕ) (ks : List ℕ)
    → evaluation_tree u ≡ moved_up (evaluation_tree k.study.tree) ks
    → plain_study (marked_study (record { study = with_tree k.study u; relabelled = n }))
    ≡ with_promotion (plain_study (marked_study k)) ks
raised-plain k u n ks e = same-plain k u n
    ∙ ap (λ x. record { start = k.study.start; stipulation = k.study.stipulation; tags = k.study.tags; tree = x })
    (bare-raised k.study.tree u ks e ∙ ap (λ x. moved_up x ks) (sym (bare-marked_study k)))

-- right marks after the edit
evaluated-without : (p : Position) (t : Plain Evaluation) (ks : List ℕ) → AllAreEvaluated p t → AllAreEvaluated p (without t ks)
evaluated-without p t [] h = h
evaluated-without p t (k ∷ ks) h = (h.0, AreEvaluated-dropped p t.below k ks h.1)

evaluated-moved_up : (p : Position) (t : Plain Evaluation) (ks : List ℕ) → AllAreEvaluated p t → AllAreEvaluated p (moved_up t ks)
evaluated-moved_up p t [] h = h
evaluated-moved_up p t (k ∷ ks) h = (h.0, AreEvaluated-raised p t.below k ks h.1)

pub removed-right : (k : BenchState) (u : Plain NodeLabel) (n : ℕ) (ks : List ℕ)
    → evaluation_tree u ≡ without (evaluation_tree k.study.tree) ks → AllAddUp (aim_of k.study) u → IsKeptRight k
    → IsKeptRight (record { study = with_tree k.study u; relabelled = n })
removed-right k u n ks e s h = right-evaluated (record { study = with_tree k.study u; relabelled = n }) s
    (subst (AllAreEvaluated k.study.start.position) (sym e) (evaluated-without k.study.start.position (evaluation_tree k.study.tree) ks
    (AllAreEvaluated-right k h)))

pub raised-right : (k : BenchState) (u : Plain NodeLabel) (n : ℕ) (ks : List ℕ)
    → evaluation_tree u ≡ moved_up (evaluation_tree k.study.tree) ks → AllAddUp (aim_of k.study) u → IsKeptRight k
    → IsKeptRight (record { study = with_tree k.study u; relabelled = n })
raised-right k u n ks e s h = right-evaluated (record { study = with_tree k.study u; relabelled = n }) s
    (subst (AllAreEvaluated k.study.start.position) (sym e) (evaluated-moved_up k.study.start.position (evaluation_tree k.study.tree) ks
    (AllAreEvaluated-right k h)))

-- refusals
has_spot-plain : (k : BenchState) (ks : List ℕ) → has_spot (plain_study (marked_study k)).tree ks ≡ has_spot k.study.tree ks
has_spot-plain k ks = ap (λ (x : Plain (Unit {0})). has_spot x ks) (bare-marked_study k) ∙ has_node-mapped (λ (l : NodeLabel). tt {0}) k.study.tree.below ks

abbrev pub refused : {A : Type 0} → Option TreeFault → Option (Refusal A)
refused None = None
refused (Some f) = Some (refused_by_tree f)

pub delete-refused : {A : Type 0} (k : BenchState) (ks : List ℕ) → delete_refusal {A = A} (plain_study (marked_study k)) ks
    ≡ refused (removal_refusal k.study.tree ks)
delete-refused k [] = refl
delete-refused {A = A} k (j ∷ js) = ap (λ b. if not b then Some refusal.NoSuchNode else None) (has_spot-plain k (j ∷ js)) ∙ go (has_spot k.study.tree (j ∷ js))
  where
    go : (b : Bool) → (if not b then Some refusal.NoSuchNode else None) ≡ refused {A = A} (if not b then Some tree.NoSuchNode else None)
    go true = refl
    go false = refl

pub promote-refused : {A : Type 0} (k : BenchState) (ks : List ℕ) → promote_refusal {A = A} (plain_study (marked_study k)) ks
    ≡ refused (move_up_refusal k.study.tree ks)
promote-refused k [] = refl
promote-refused {A = A} k (j ∷ js) =
    ap (λ b. if not b then Some refusal.NoSuchNode
    else (if nat_eq (last_place j js) 0 then Some refusal.AlreadyFirst else None)) (has_spot-plain k (j ∷ js))
    ∙ go (has_spot k.study.tree (j ∷ js)) (nat_eq (last_place j js) 0)
  where
    go : (b c : Bool) → (if not b then Some refusal.NoSuchNode else (if c then Some refusal.AlreadyFirst else None))
        ≡ refused {A = A} (if not b then Some tree.NoSuchNode else (if c then Some tree.AlreadyFirst else None))
    go true true = refl
    go true false = refl
    go false c = refl

pub refusal-ok : {A : Type 0} (o : Option TreeFault) (r : Result (Unit {0}) TreeFault) (u : Unit {0}) → r ≡ Ok u
    → MatchOption o (IsOk r) (λ f. r ≡ Err f) → refused {A = A} o ≡ None
refusal-ok None r u e h = refl
refusal-ok (Some f) r u e h = let no : Ok u ≡ Err f = sym e ∙ h in absurd cc

pub refusal-err : {A : Type 0} (o : Option TreeFault) (r : Result (Unit {0}) TreeFault) (f : TreeFault) → r ≡ Err f
    → MatchOption o (IsOk r) (λ g. r ≡ Err g) → refused {A = A} o ≡ Some (refused_by_tree f)
refusal-err None r f e h = let no : ⊥ = cc in absurd no
refusal-err (Some g) r f e h = let same : g ≡ f = cc in ap (λ x. Some (refused_by_tree x)) same

-- counts
counted_times-next_count : (n m : ℕ) → counted_up_by n (next_count m) ≡ next_count (counted_up_by n m)
counted_times-next_count zero m = refl
counted_times-next_count (suc n) m = counted_times-next_count n (next_count m)

pub next_count-later : (n old new : ℕ) → new ≡ counted_up_by n old → next_count new ≡ counted_up_by n (next_count old)
next_count-later n old new e = ap next_count e ∙ sym (counted_times-next_count n old)

abbrev err_of : {A : Type 0} → Refusal A → Result (Unit {0}) (Refusal A)
err_of r = Err r

-- the refusal, from the result of a call
match-err : {A : Type 0} (o : Option (Refusal A)) (r : Result (Unit {0}) (Refusal A)) (f : Refusal A) → o ≡ Some f
    → IsErrAnd r (λ x. x ≡ f) → MatchOption o (IsOk r) (λ fault. r ≡ Err fault)
match-err o (Ok x) f e h = absurd h
match-err {A = A} o (Err x) f e h =
    let r : Result (Unit {0}) (Refusal A) = Err x in
    let evaluated : r ≡ err_of f = ap err_of h in
    subst (λ (p : Option (Refusal A)). MatchOption p (IsOk r) (λ fault. r ≡ Err fault)) (sym e) evaluated

pub delete-err : {A : Type 0} (b k : BenchState) (steps path : List ℕ) (r : Result (Unit {0}) TreeFault) (f : TreeFault)
    (answer : Result (Unit {0}) (Refusal A)) → b ≡ k → steps ≡ path → r ≡ Err f
    → MatchOption (removal_refusal b.study.tree steps) (IsOk r) (λ g. r ≡ Err g) → IsErrAnd answer (λ x. x ≡ refused_by_tree f)
    → MatchOption (delete_refusal {A = A} (plain_study (marked_study k)) path) (IsOk answer) (λ fault. answer ≡ Err fault)
delete-err {A = A} b k steps path r f answer same way e h a =
    match-err (delete_refusal {A = A} (plain_study (marked_study k)) path) answer (refused_by_tree f)
    (ap (λ (x : BenchState). delete_refusal {A = A} (plain_study (marked_study x)) path) (sym same)
    ∙ ap (delete_refusal {A = A} (plain_study (marked_study b))) (sym way)
    ∙ delete-refused b steps ∙ refusal-err (removal_refusal b.study.tree steps) r f e h) a

pub delete-ok : {A : Type 0} (b k : BenchState) (steps path : List ℕ) (r : Result (Unit {0}) TreeFault) (u : Unit {0}) → b ≡ k → steps ≡ path → r ≡ Ok u
    → MatchOption (removal_refusal b.study.tree steps) (IsOk r) (λ g. r ≡ Err g) → delete_refusal {A = A} (plain_study (marked_study k)) path ≡ None
delete-ok {A = A} b k steps path r u same way e h =
    ap (λ (x : BenchState). delete_refusal {A = A} (plain_study (marked_study x)) path) (sym same)
    ∙ ap (delete_refusal {A = A} (plain_study (marked_study b))) (sym way)
    ∙ delete-refused b steps ∙ refusal-ok (removal_refusal b.study.tree steps) r u e h

pub promote-err : {A : Type 0} (b k : BenchState) (steps path : List ℕ) (r : Result (Unit {0}) TreeFault) (f : TreeFault)
    (answer : Result (Unit {0}) (Refusal A)) → b ≡ k → steps ≡ path → r ≡ Err f
    → MatchOption (move_up_refusal b.study.tree steps) (IsOk r) (λ g. r ≡ Err g) → IsErrAnd answer (λ x. x ≡ refused_by_tree f)
    → MatchOption (promote_refusal {A = A} (plain_study (marked_study k)) path) (IsOk answer) (λ fault. answer ≡ Err fault)
promote-err {A = A} b k steps path r f answer same way e h a =
    match-err (promote_refusal {A = A} (plain_study (marked_study k)) path) answer (refused_by_tree f)
    (ap (λ (x : BenchState). promote_refusal {A = A} (plain_study (marked_study x)) path) (sym same)
    ∙ ap (promote_refusal {A = A} (plain_study (marked_study b))) (sym way)
    ∙ promote-refused b steps ∙ refusal-err (move_up_refusal b.study.tree steps) r f e h) a

pub promote-ok : {A : Type 0} (b k : BenchState) (steps path : List ℕ) (r : Result (Unit {0}) TreeFault) (u : Unit {0}) → b ≡ k → steps ≡ path → r ≡ Ok u
    → MatchOption (move_up_refusal b.study.tree steps) (IsOk r) (λ g. r ≡ Err g) → promote_refusal {A = A} (plain_study (marked_study k)) path ≡ None
promote-ok {A = A} b k steps path r u same way e h =
    ap (λ (x : BenchState). promote_refusal {A = A} (plain_study (marked_study x)) path) (sym same)
    ∙ ap (promote_refusal {A = A} (plain_study (marked_study b))) (sym way)
    ∙ promote-refused b steps ∙ refusal-ok (move_up_refusal b.study.tree steps) r u e h

pub match-ok : {A : Type 0} (o : Option (Refusal A)) (P : Type 0) (Q : Refusal A → Type 0) → o ≡ None → P → MatchOption o P Q
match-ok o P Q e h = subst (λ p. MatchOption p P Q) (sym e) h

-- the marks are those of a study
pub study-marked_study : (b k : BenchState) → b ≡ k → IsStudy b.study → IsStudy (marked_study k)
study-marked_study b k e h =
    subst (λ (x : BenchState). IsStudy (marked_study x)) e
    (study b.study (marked_study b).tree h (subst (Fits b.study.start.position) (sym (bare-marked_study b)) (fits b.study h)))
