-- One more child, one less, or two exchanged: the change of the parent's faults.
use Rattle.std.proofs.Common.{◌≡◌, ℕ, ◌+◌, ◌<◌, List, [], ◌∷◌, ◌++◌, length, Bool, true, false, Some, None, refl, sym, ap, ◌∙◌, arith, zero, suc, subst, IsTrue}
use Rattle.std.specs.Prelude.{if◌then◌else◌, Result, Ok, Err, IsOk, MatchOption, not, nat_eq, nat_le}
use Rattle.study_moves.specs.declared.moves.Move.{Move}
use Rattle.study_tree.specs.Forest.{Forest, none, more, Twig}
use Rattle.study_tree.specs.Edits.{has_node, node_in, width, with_last, below_edited, place_edited, dropped_at, raised_at, second, children_at, last_place}
use Rattle.study_tree.specs.declared.fault.TreeFault.{TreeFault}
use Rattle.study_tree.specs.declared.fault.TreeFault.TheVariants.{NoSuchNode, AlreadyFirst, TooDeep, TreeFull}
use Rattle.study_text.specs.Counts.{next_count}
use Rattle.study_tree.specs.Tree.{Plain, Spot, spot_at, twig_spot, has_spot, with_child, without, moved_up}
use Rattle.study_tree.specs.Tree.{removal_refusal, move_up_refusal, child_refusal, size_of}
use Rattle.study_marks.specs.Queries.{counted_up_by}
use Rattle.study_marks.specs.declared.node_label.NodeLabel.{NodeLabel}
use Rattle.study_marks.specs.declared.node_label.Evaluation.{Evaluation}
use Rattle.study_marks.specs.declared.mark_rules.Aim.{Aim}
use Rattle.study_marks.specs.Goals.{hero_moves}
use Rattle.study_marks.specs.BenchState.{own_fault, all_faults, faults_below, FaultsAddUp, AllAddUp}
use Rattle.study_marks.specs.FaultSums.{evaluation_at, counted_faults, faults_newly_first, faults_of_first, faults_of, FaultsAreOffBy, below_at}
use Rattle.study_marks.proofs.FaultSums.{AddUpBut-edited}
use Rattle.study_marks.proofs.PathRenewed.{has_spot-front, twig-of}

-- the faults at place k of sibling nodes
abbrev pub nth_faults : ℕ → Forest NodeLabel → ℕ
nth_faults k none = 0
nth_faults zero (more m l b r) = l.faults
nth_faults (suc k) (more m l b r) = nth_faults k r

faults_of-twig : (f : Forest NodeLabel) (k : ℕ) → faults_of (twig_spot (node_in f k [])) ≡ nth_faults k f
faults_of-twig none k = refl
faults_of-twig (more m l b r) zero = refl
faults_of-twig (more m l b r) (suc k) = faults_of-twig r k

faults_of-deep : (f : Forest NodeLabel) (j : ℕ) (js : List ℕ) (k : ℕ) → faults_of (twig_spot (node_in f j (js ++ k ∷ []))) ≡ nth_faults k (below_at f (j ∷ js))
faults_of-deep none j js k = refl
faults_of-deep (more m l b r) zero [] k = faults_of-twig b k
faults_of-deep (more m l b r) zero (i ∷ is) k = faults_of-deep b i is k
faults_of-deep (more m l b r) (suc j) [] k = faults_of-deep r j [] k
faults_of-deep (more m l b r) (suc j) (i ∷ is) k = faults_of-deep r j (i ∷ is) k

-- the node at a path's end
pub faults_of-spot : (t : Plain NodeLabel) (front : List ℕ) (k : ℕ) → faults_of (spot_at t (front ++ k ∷ [])) ≡ nth_faults k (below_at t.below front)
faults_of-spot t [] k = faults_of-twig t.below k
faults_of-spot t (j ∷ js) k = faults_of-deep t.below j js k

-- the forest below the path's node, after an edit there
pub below_at-edited : (e : Forest NodeLabel → Forest NodeLabel) (f : Forest NodeLabel) (ks : List ℕ) → IsTrue (has_node f ks)
    → below_at (below_edited e f ks) ks ≡ e (below_at f ks)
below_at-edited e f [] h = refl
below_at-edited e none (k ∷ ks) h = let no : ⊥ = cc in absurd no
below_at-edited e (more m l b r) (zero ∷ ks) h = below_at-edited e b ks h
below_at-edited e (more m l b r) (suc k ∷ ks) h = below_at-edited e r (k ∷ ks) h

pub place-below : (g : ℕ → Forest NodeLabel → Forest NodeLabel) (f : Forest NodeLabel) (j : ℕ) (js : List ℕ) (k : ℕ)
    → place_edited g f j (js ++ k ∷ []) ≡ below_edited (g k) f (j ∷ js)
place-below g none j [] k = refl
place-below g none j (i ∷ is) k = refl
place-below g (more m l b r) zero [] k = refl
place-below g (more m l b r) zero (i ∷ is) k = ap (λ x. more m l x r) (place-below g b i is k)
place-below g (more m l b r) (suc j) [] k = ap (more m l b) (place-below g r j [] k)
place-below g (more m l b r) (suc j) (i ∷ is) k = ap (more m l b) (place-below g r j (i ∷ is) k)

pub without-below : (t : Plain NodeLabel) (front : List ℕ) (k : ℕ)
    → without t (front ++ k ∷ []) ≡ record { label = t.label; below = below_edited (dropped_at k) t.below front }
without-below t [] k = refl
without-below t (j ∷ js) k = ap (λ f. record { label = t.label; below = f }) (place-below dropped_at t.below j js k)

pub moved_up-below : (t : Plain NodeLabel) (front : List ℕ) (k : ℕ)
    → moved_up t (front ++ k ∷ []) ≡ record { label = t.label; below = below_edited (raised_at k) t.below front }
moved_up-below t [] k = refl
moved_up-below t (j ∷ js) k = ap (λ f. record { label = t.label; below = f }) (place-below raised_at t.below j js k)

-- siblings that add up
AddUp-with_last : (a : Aim) (d : ℕ) (q : Evaluation) (f : Forest NodeLabel) (m : Move) (x : NodeLabel) → FaultsAddUp a d q f
    → x.faults ≡ own_fault a d q x.evaluated.value → FaultsAddUp a d q (with_last m x f)
AddUp-with_last a d q none m x h e = (omega (arith, e), tt, tt)
AddUp-with_last a d q (more n l b r) m x h e = (h.0, h.1, AddUp-with_last a d q r m x h.2 e)

AddUp-dropped_at : (a : Aim) (d : ℕ) (q : Evaluation) (k : ℕ) (f : Forest NodeLabel) → FaultsAddUp a d q f → FaultsAddUp a d q (dropped_at k f)
AddUp-dropped_at a d q k none h = h
AddUp-dropped_at a d q zero (more n l b r) h = h.2
AddUp-dropped_at a d q (suc k) (more n l b r) h = (h.0, h.1, AddUp-dropped_at a d q k r h.2)

AddUp-second : (a : Aim) (d : ℕ) (q : Evaluation) (m : Move) (l : NodeLabel) (b r : Forest NodeLabel)
    → l.faults ≡ own_fault a d q l.evaluated.value + faults_below (hero_moves a (d + 1)) b → FaultsAddUp a (d + 1) l.evaluated b
    → FaultsAddUp a d q r → FaultsAddUp a d q (second m l b r)
AddUp-second a d q m l b none e h k = (e, h, tt)
AddUp-second a d q m l b (more n x c r) e h k = (k.0, k.1, (e, h, k.2))

AddUp-raised_at : (a : Aim) (d : ℕ) (q : Evaluation) (k : ℕ) (f : Forest NodeLabel) → FaultsAddUp a d q f → FaultsAddUp a d q (raised_at k f)
AddUp-raised_at a d q k none h = h
AddUp-raised_at a d q zero (more n l b r) h = h
AddUp-raised_at a d q (suc zero) (more n l b r) h = AddUp-second a d q n l b r h.0 h.1 h.2
AddUp-raised_at a d q (suc (suc k)) (more n l b r) h = (h.0, h.1, AddUp-raised_at a d q (suc k) r h.2)

-- sums of siblings
all-with_last : (m : Move) (x : NodeLabel) (f : Forest NodeLabel) → all_faults (with_last m x f) ≡ all_faults f + x.faults
all-with_last m x none = omega arith
all-with_last m x (more n l b r) = omega (arith, all-with_last m x r)

sum-with_last : (hero : Bool) (m : Move) (x : NodeLabel) (f : Forest NodeLabel)
    → faults_below hero (with_last m x f) ≡ faults_below hero f + counted_faults hero (width f) x.faults
sum-with_last true m x none = omega arith
sum-with_last false m x none = omega arith
sum-with_last true m x (more n l b r) = let later : counted_faults true (1 + width r) x.faults ≡ 0 = shared (1 + width r) (omega arith) in omega (arith, later)
  where
    shared : (k : ℕ) → 0 < k → counted_faults true k x.faults ≡ 0
    shared zero h = absurd (omega arith)
    shared (suc k) h = refl
sum-with_last false m x (more n l b r) =
    let all : counted_faults false (1 + width r) x.faults ≡ x.faults = shared (1 + width r) in
    let sum : l.faults + all_faults (with_last m x r) ≡ l.faults + all_faults r + counted_faults false (1 + width r)
    x.faults = omega (arith, all-with_last m x r, all) in sum
  where
    shared : (k : ℕ) → counted_faults false k x.faults ≡ x.faults
    shared zero = refl
    shared (suc k) = refl

all-dropped : (k : ℕ) (f : Forest NodeLabel) → all_faults (dropped_at k f) + nth_faults k f ≡ all_faults f
all-dropped k none = omega arith
all-dropped zero (more m l b r) = omega arith
all-dropped (suc k) (more m l b r) = omega (arith, all-dropped k r)

sum-dropped : (hero : Bool) (k : ℕ) (f : Forest NodeLabel)
    → faults_below hero (dropped_at k f) + counted_faults hero k (nth_faults k f) ≡ faults_below hero f + faults_newly_first hero k
    (nth_faults k (dropped_at k f))
sum-dropped true zero none = refl
sum-dropped false zero none = refl
sum-dropped true (suc k) none = refl
sum-dropped false (suc k) none = refl
sum-dropped true zero (more m l b none) = omega arith
sum-dropped true zero (more m l b (more n x c s)) = omega arith
sum-dropped false zero (more m l b none) = omega arith
sum-dropped false zero (more m l b (more n x c s)) = omega arith
sum-dropped true (suc k) (more m l b r) = omega arith
sum-dropped false (suc k) (more m l b r) =
    let sum : l.faults + all_faults (dropped_at k r) + nth_faults k r ≡ l.faults + all_faults r + 0 = omega (arith, all-dropped k r) in sum

all-raised : (k : ℕ) (f : Forest NodeLabel) → all_faults (raised_at k f) ≡ all_faults f
all-raised k none = refl
all-raised zero (more m l b r) = refl
all-raised (suc zero) (more m l b none) = refl
all-raised (suc zero) (more m l b (more n x d r)) = omega arith
all-raised (suc (suc k)) (more m l b r) = ap (λ n. l.faults + n) (all-raised (suc k) r)

sum-raised : (hero : Bool) (k : ℕ) (f : Forest NodeLabel)
    → faults_below hero (raised_at k f) + faults_of_first hero k (nth_faults k (raised_at k f)) ≡ faults_below hero f
    + faults_of_first hero k (nth_faults k f)
sum-raised hero zero none = refl
sum-raised true (suc zero) none = refl
sum-raised false (suc zero) none = refl
sum-raised hero (suc (suc k)) none = refl
sum-raised hero zero (more m l b r) = refl
sum-raised true (suc zero) (more m l b none) = refl
sum-raised true (suc zero) (more m l b (more n x c s)) = omega arith
sum-raised false (suc zero) (more m l b none) = refl
sum-raised false (suc zero) (more m l b (more n x c s)) = omega arith
sum-raised true (suc (suc k)) (more m l b r) = refl
sum-raised false (suc (suc k)) (more m l b r) =
    let sum : l.faults + all_faults (raised_at (suc k) r) + 0 ≡ l.faults + all_faults r + 0 =
    omega (arith, all-raised (suc k) r) in sum

-- an edit of the forest below the path's node: then the faults of that node are off
pub IsOff-edited : (a : Aim) (t : Plain NodeLabel) (e : Forest NodeLabel → Forest NodeLabel) (ks : List ℕ) (minus plus : ℕ)
    → ((s : Forest NodeLabel) → FaultsAddUp a (length ks) (evaluation_at t.label.evaluated t.below ks) s
    → FaultsAddUp a (length ks) (evaluation_at t.label.evaluated t.below ks) (e s))
    → faults_below (hero_moves a (length ks)) (e (below_at t.below ks)) + minus ≡ faults_below (hero_moves a (length ks)) (below_at t.below ks) + plus
    → AllAddUp a t → FaultsAreOffBy a (record { label = t.label; below = below_edited e t.below ks }) ks minus plus
IsOff-edited a t e [] minus plus keeps sum h = (omega (arith, h.0, sum), keeps t.below h.1)
IsOff-edited a t e (k ∷ ks) minus plus keeps sum h = (
  h.0 ∙ sym (top k ks t.below),
  AddUpBut-edited a e (hero_moves a (length (k ∷ ks))) 0 (length (k ∷ ks)) t.label.evaluated t.below (k ∷ ks) minus plus
      (let z : length (k ∷ ks) ≡ 0 + length (k ∷ ks) = omega arith in z) refl keeps sum h.1,
)
  where
    all : (k : ℕ) (ks : List ℕ) (f : Forest NodeLabel) → all_faults (below_edited e f (k ∷ ks)) ≡ all_faults f
    all k ks none = refl
    all zero ks (more m l b r) = refl
    all (suc k) ks (more m l b r) = ap (λ s. l.faults + s) (all k ks r)

    top : (k : ℕ) (ks : List ℕ) (f : Forest NodeLabel) → faults_below (hero_moves a 0) (below_edited e f (k ∷ ks)) ≡ faults_below (hero_moves a 0) f
    top k ks none = refl
    top zero ks (more m l b r) = refl
    top (suc k) ks (more m l b r) = ap (λ s. l.faults + (if hero_moves a 0 then 0 else s)) (all k ks r)

pub off-added : (a : Aim) (t : Plain NodeLabel) (ks : List ℕ) (m : Move) (x : NodeLabel) → AllAddUp a t
    → x.faults ≡ own_fault a (length ks) (evaluation_at t.label.evaluated t.below ks) x.evaluated.value
    → FaultsAreOffBy a (with_child t ks m x) ks 0 (counted_faults (hero_moves a (length ks)) (children_at t.below ks) x.faults)
off-added a t ks m x h e = IsOff-edited a t (with_last m x) ks 0 (counted_faults (hero_moves a (length ks)) (children_at t.below ks) x.faults)
    (λ s k. AddUp-with_last a (length ks) (evaluation_at t.label.evaluated t.below ks) s m x k e)
    (let sum = sum-with_last (hero_moves a (length ks)) m x (below_at t.below ks) in
    let same : counted_faults (hero_moves a (length ks)) (width (below_at t.below ks)) x.faults
    ≡ counted_faults (hero_moves a (length ks)) (children_at t.below ks) x.faults =
    ap (λ n. counted_faults (hero_moves a (length ks)) n x.faults) (widths t.below ks) in
    omega (arith, sum, same)) h
  where
    widths : (f : Forest NodeLabel) (ks : List ℕ) → width (below_at f ks) ≡ children_at f ks
    widths f [] = refl
    widths none (k ∷ ks) = refl
    widths (more n l b r) (zero ∷ ks) = widths b ks
    widths (more n l b r) (suc k ∷ ks) = widths r (k ∷ ks)

pub off-removed : (a : Aim) (t : Plain NodeLabel) (front : List ℕ) (k : ℕ) → IsTrue (has_node t.below front) → AllAddUp a t
    → FaultsAreOffBy a (without t (front ++ k ∷ [])) front
    (counted_faults (hero_moves a (length front)) k (faults_of (spot_at t (front ++ k ∷ []))))
    (faults_newly_first (hero_moves a (length front)) k
    (faults_of (spot_at (without t (front ++ k ∷ [])) (front ++ k ∷ []))))
off-removed a t front k there h =
    let g = hero_moves a (length front) in
    let new : Plain NodeLabel = record { label = t.label; below = below_edited (dropped_at k) t.below front } in
    let gone : nth_faults k (below_at t.below front) ≡ faults_of (spot_at t (front ++ k ∷ [])) = sym (faults_of-spot t front k) in
    let next : nth_faults k (dropped_at k (below_at t.below front)) ≡ faults_of (spot_at new (front ++ k ∷ [])) =
    ap (nth_faults k) (sym (below_at-edited (dropped_at k) t.below front there))
    ∙ sym (faults_of-spot new front k) in
    let off : FaultsAreOffBy a new front (counted_faults g k (nth_faults k (below_at t.below front)))
    (faults_newly_first g k (nth_faults k (dropped_at k (below_at t.below front)))) =
    IsOff-edited a t (dropped_at k) front (counted_faults g k (nth_faults k (below_at t.below front)))
    (faults_newly_first g k (nth_faults k (dropped_at k (below_at t.below front))))
    (λ s x. AddUp-dropped_at a (length front) (evaluation_at t.label.evaluated t.below front) k s x) (sum-dropped g k (below_at t.below front)) h in
    subst (λ (u : Plain NodeLabel). FaultsAreOffBy a u front (counted_faults g k (faults_of (spot_at t (front ++ k ∷ []))))
    (faults_newly_first g k (faults_of (spot_at u (front ++ k ∷ []))))) (sym (without-below t front k))
    (subst (λ n. FaultsAreOffBy a new front (counted_faults g k (faults_of (spot_at t (front ++ k ∷ [])))) (faults_newly_first g k n)) next
    (subst (λ n. FaultsAreOffBy a new front (counted_faults g k n) (faults_newly_first g k (nth_faults k (dropped_at k (below_at t.below front))))) gone off))

pub off-raised : (a : Aim) (t : Plain NodeLabel) (front : List ℕ) (k : ℕ) → IsTrue (has_node t.below front) → AllAddUp a t
    → FaultsAreOffBy a (moved_up t (front ++ k ∷ [])) front
    (faults_of_first (hero_moves a (length front)) k
    (faults_of (spot_at (moved_up t (front ++ k ∷ [])) (front ++ k ∷ []))))
    (faults_of_first (hero_moves a (length front)) k (faults_of (spot_at t (front ++ k ∷ []))))
off-raised a t front k there h =
    let g = hero_moves a (length front) in
    let new : Plain NodeLabel = record { label = t.label; below = below_edited (raised_at k) t.below front } in
    let was : nth_faults k (below_at t.below front) ≡ faults_of (spot_at t (front ++ k ∷ [])) = sym (faults_of-spot t front k) in
    let now : nth_faults k (raised_at k (below_at t.below front)) ≡ faults_of (spot_at new (front ++ k ∷ [])) =
    ap (nth_faults k) (sym (below_at-edited (raised_at k) t.below front there))
    ∙ sym (faults_of-spot new front k) in
    let off : FaultsAreOffBy a new front (faults_of_first g k (nth_faults k (raised_at k (below_at t.below front))))
    (faults_of_first g k (nth_faults k (below_at t.below front))) =
    IsOff-edited a t (raised_at k) front (faults_of_first g k (nth_faults k (raised_at k (below_at t.below front))))
    (faults_of_first g k (nth_faults k (below_at t.below front)))
    (λ s x. AddUp-raised_at a (length front) (evaluation_at t.label.evaluated t.below front) k s x) (sum-raised g k (below_at t.below front)) h in
    subst (λ (u : Plain NodeLabel). FaultsAreOffBy a u front (faults_of_first g k (faults_of (spot_at u (front ++ k ∷ []))))
    (faults_of_first g k (faults_of (spot_at t (front ++ k ∷ []))))) (sym (moved_up-below t front k))
    (subst (λ n. FaultsAreOffBy a new front (faults_of_first g k n) (faults_of_first g k (faults_of (spot_at t (front ++ k ∷ []))))) now
    (subst (λ n. FaultsAreOffBy a new front (faults_of_first g k (nth_faults k (raised_at k (below_at t.below front)))) (faults_of_first g k n)) was off))

-- the path's front still leads to a node
kept-front : {L : Type 0} (e : Forest L → Forest L) (f : Forest L) (ks : List ℕ) → IsTrue (has_node f ks) → IsTrue (has_node (below_edited e f ks) ks)
kept-front e f [] h = refl
kept-front e none (k ∷ ks) h = h
kept-front e (more m l b r) (zero ∷ ks) h = kept-front e b ks h
kept-front e (more m l b r) (suc k ∷ ks) h = kept-front e r (k ∷ ks) h

pub removed-front : (t new : Plain NodeLabel) (steps front : List ℕ) (k : ℕ) → steps ≡ front ++ k ∷ []
    → new ≡ without t steps → IsTrue (has_spot t steps) → IsTrue (has_spot new front)
removed-front t new steps front k path e h =
    let made : new ≡ record { label = t.label; below = below_edited (dropped_at k) t.below front } = e ∙ ap (without t) path ∙ without-below t front k in
    subst (λ (u : Plain NodeLabel). IsTrue (has_spot u front)) (sym made)
    (kept-front (dropped_at k) t.below front
    (has_spot-front t front (k ∷ []) (subst (λ p. IsTrue (has_spot t p)) path h)))

pub raised-front : (t new : Plain NodeLabel) (steps front : List ℕ) (k : ℕ) → steps ≡ front ++ k ∷ []
    → new ≡ moved_up t steps → IsTrue (has_spot t steps) → IsTrue (has_spot new front)
raised-front t new steps front k path e h =
    let made : new ≡ record { label = t.label; below = below_edited (raised_at k) t.below front } = e ∙ ap (moved_up t) path ∙ moved_up-below t front k in
    subst (λ (u : Plain NodeLabel). IsTrue (has_spot u front)) (sym made)
    (kept-front (raised_at k) t.below front
    (has_spot-front t front (k ∷ []) (subst (λ p. IsTrue (has_spot t p)) path h)))

pub added-found : (t new : Plain NodeLabel) (steps : List ℕ) (m : Move) (x : NodeLabel) → new ≡ with_child t steps m x
    → IsTrue (has_spot t steps) → IsTrue (has_spot new steps)
added-found t new steps m x e h = subst (λ (u : Plain NodeLabel). IsTrue (has_spot u steps)) (sym e) (kept-front (with_last m x) t.below steps h)

pub removed-off : (a : Aim) (t new : Plain NodeLabel) (steps front : List ℕ) (k gone next minus plus : ℕ)
    → steps ≡ front ++ k ∷ [] → new ≡ without t steps → gone ≡ faults_of (spot_at t steps)
    → next ≡ faults_of (spot_at new steps)
    → minus ≡ counted_faults (hero_moves a (length front)) k gone → plus ≡ faults_newly_first (hero_moves a (length front)) k next
    → IsTrue (has_spot t steps) → AllAddUp a t → FaultsAreOffBy a new front minus plus
removed-off a t new steps front k gone next minus plus path e eg en em ep h s =
    let g = hero_moves a (length front) in
    let one = off-removed a t front k (has_spot-front t front (k ∷ []) (subst (λ p. IsTrue (has_spot t p)) path h)) s in
    let two =
    subst (λ p. FaultsAreOffBy a (without t p) front (counted_faults g k (faults_of (spot_at t p)))
    (faults_newly_first g k (faults_of (spot_at (without t p) p)))) (sym path) one in
    let three =
    subst (λ (u : Plain NodeLabel). FaultsAreOffBy a u front (counted_faults g k (faults_of (spot_at t steps)))
    (faults_newly_first g k (faults_of (spot_at u steps)))) (sym e) two in
    let four = subst (λ n. FaultsAreOffBy a new front n (faults_newly_first g k (faults_of (spot_at new steps)))) (ap (counted_faults g k) (sym eg) ∙ sym em)
    three in
    subst (λ n. FaultsAreOffBy a new front minus n) (ap (faults_newly_first g k) (sym en) ∙ sym ep) four

pub raised-off : (a : Aim) (t new : Plain NodeLabel) (steps front : List ℕ) (k raised lowered minus plus : ℕ)
    → steps ≡ front ++ k ∷ [] → new ≡ moved_up t steps → raised ≡ faults_of (spot_at t steps)
    → lowered ≡ faults_of (spot_at new steps)
    → minus ≡ faults_of_first (hero_moves a (length front)) k lowered
    → plus ≡ faults_of_first (hero_moves a (length front)) k raised → IsTrue (has_spot t steps) → AllAddUp a t
    → FaultsAreOffBy a new front minus plus
raised-off a t new steps front k raised lowered minus plus path e er el em ep h s =
    let g = hero_moves a (length front) in
    let one = off-raised a t front k (has_spot-front t front (k ∷ []) (subst (λ p. IsTrue (has_spot t p)) path h)) s in
    let two =
    subst (λ p. FaultsAreOffBy a (moved_up t p) front (faults_of_first g k (faults_of (spot_at (moved_up t p) p)))
    (faults_of_first g k (faults_of (spot_at t p)))) (sym path) one in
    let three =
    subst (λ (u : Plain NodeLabel). FaultsAreOffBy a u front (faults_of_first g k (faults_of (spot_at u steps)))
    (faults_of_first g k (faults_of (spot_at t steps)))) (sym e) two in
    let four = subst (λ n. FaultsAreOffBy a new front n (faults_of_first g k (faults_of (spot_at t steps)))) (ap (faults_of_first g k) (sym el) ∙ sym em)
    three in
    subst (λ n. FaultsAreOffBy a new front minus n) (ap (faults_of_first g k) (sym er) ∙ sym ep) four

-- the evaluation at the path's node is the one shown there
evaluated-spot-in : (q : Evaluation) (f : Forest NodeLabel) (k : ℕ) (ks : List ℕ) (w : Twig NodeLabel) → node_in f k ks ≡ Some w
    → evaluation_at q f (k ∷ ks) ≡ w.label.evaluated
evaluated-spot-in q none k ks w e = let no : ⊥ = cc in absurd no
evaluated-spot-in q (more m l b r) zero [] w e = ap (λ (u : Twig NodeLabel). u.label.evaluated)
    (let s : record { played = m; label = l; below = b } ≡ w = cc in s)
evaluated-spot-in q (more m l b r) zero (j ∷ js) w e = evaluated-spot-in l.evaluated b j js w e
evaluated-spot-in q (more m l b r) (suc k) [] w e = evaluated-spot-in q r k [] w e
evaluated-spot-in q (more m l b r) (suc k) (j ∷ js) w e = evaluated-spot-in q r k (j ∷ js) w e

pub evaluated-spot : (t : Plain NodeLabel) (ks : List ℕ) (s : Spot NodeLabel) → spot_at t ks ≡ Some s
    → evaluation_at t.label.evaluated t.below ks ≡ s.label.evaluated
evaluated-spot t [] s e = ap (λ (u : Spot NodeLabel). u.label.evaluated)
    (let x : record { played = None; label = t.label; children = width t.below } ≡ s = cc in x)
evaluated-spot t (k ∷ ks) s e = let w = twig-of (node_in t.below k ks) s e in evaluated-spot-in t.label.evaluated t.below k ks w.0 w.1
    ∙ ap (λ (l : NodeLabel). l.evaluated) w.2

-- an edit that was not refused found its node
pub removal-there : {L : Type 0} (t : Plain L) (steps : List ℕ) (r : Result (Unit {0}) TreeFault) (u : Unit {0})
    → r ≡ Ok u → MatchOption (removal_refusal t steps) (IsOk r) (λ f. r ≡ Err f) → IsTrue (has_spot t steps)
removal-there t [] r u e h = refl
removal-there t (k ∷ ks) r u e h = go (has_node t.below (k ∷ ks)) h
  where
    go : (b : Bool) → MatchOption (if not b then Some NoSuchNode else None) (IsOk r) (λ f. r ≡ Err f) → IsTrue b
    go true h = refl
    go false h = let no : Ok u ≡ Err NoSuchNode = sym e ∙ h in absurd cc

pub raising-there : {L : Type 0} (t : Plain L) (steps : List ℕ) (r : Result (Unit {0}) TreeFault) (u : Unit {0})
    → r ≡ Ok u → MatchOption (move_up_refusal t steps) (IsOk r) (λ f. r ≡ Err f) → IsTrue (has_spot t steps)
raising-there t [] r u e h = refl
raising-there t (k ∷ ks) r u e h = go (has_node t.below (k ∷ ks)) h
  where
    go : (b : Bool)
        → MatchOption (if not b then Some NoSuchNode
        else (if nat_eq (last_place k ks) 0 then Some AlreadyFirst else None)) (IsOk r) (λ f. r ≡ Err f) → IsTrue b
    go true h = refl
    go false h = let no : Ok u ≡ Err NoSuchNode = sym e ∙ h in absurd cc

pub child-there : {L : Type 0} (t : Plain L) (steps : List ℕ) → child_refusal t steps ≡ None → IsTrue (has_spot t steps)
child-there t steps h = go (has_spot t steps) h
  where
    go : (b : Bool)
        → (if not b then Some NoSuchNode
        else (if nat_le 256 (length steps) then Some TooDeep
        else (if nat_le 4096 (size_of t) then Some TreeFull else None))) ≡ None → IsTrue b
    go true h = refl
    go false h = absurd cc

pub added-off : (a : Aim) (t new : Plain NodeLabel) (ks : List ℕ) (m : Move) (x : NodeLabel) (place plus : ℕ)
    → new ≡ with_child t ks m x → place ≡ children_at t.below ks
    → plus ≡ counted_faults (hero_moves a (length ks)) place x.faults
    → x.faults ≡ own_fault a (length ks) (evaluation_at t.label.evaluated t.below ks) x.evaluated.value → AllAddUp a t → FaultsAreOffBy a new ks 0 plus
added-off a t new ks m x place plus e ep es eo h =
    let g = hero_moves a (length ks) in
    let one = subst (λ (u : Plain NodeLabel). FaultsAreOffBy a u ks 0 (counted_faults g (children_at t.below ks) x.faults)) (sym e)
    (off-added a t ks m x h eo) in
    subst (λ n. FaultsAreOffBy a new ks 0 n) (ap (λ n. counted_faults g n x.faults) (sym ep) ∙ sym es) one

pub count-two : (n old mid new : ℕ) → mid ≡ next_count old → new ≡ counted_up_by (n + 1) mid → new ≡ counted_up_by (n + 2) old
count-two n old mid new e h =
    let two : suc (n + 1) ≡ n + 2 = omega arith in h ∙ ap (counted_up_by (n + 1)) e ∙ ap (λ k. counted_up_by k old) two
