-- The mark of a move, and the mark of the node with it.
use Rattle.std.proofs.Common.{◌≡◌, ℕ, ◌+◌, ◌++◌, zero, suc, List, [], ◌∷◌, Option, Some, None, refl, sym, ap, subst, ◌∙◌, length, IsTrue, arith}
use Rattle.study_board.specs.Position.{Position}
use Rattle.study_moves.specs.declared.moves.Move.{Move}
use Rattle.study_moves.specs.Rules.{after}
use Rattle.study_moves.specs.Laws.{EachHasAtMostOneValue}
use Rattle.study_values.specs.Game.{IsValueOf}
use Rattle.study_values.specs.declared.value.Value.{Value}
use Rattle.study_values.specs.declared.value.Value.TheVariants.{Draw}
use Rattle.study_tree.specs.Forest.{Forest, none, more, Twig}
use Rattle.study_tree.specs.Edits.{has_node, node_in, width, children_at, add_last}
use Rattle.study_tree.specs.Tree.{Spot, spot_at, twig_spot}
use Rattle.study_marks.specs.declared.mark.Mark.{Mark}
use Rattle.study_marks.specs.declared.mark_rules.Aim.{Aim}
use Rattle.study_marks.specs.Annotated.{AreAnnotated}
use Rattle.study_marks.specs.Goals.{aim_of, hero_moves}
use Rattle.study_marks.specs.Marks.{own_faults, faults_in}
use Rattle.study_marks.specs.Study.{Study, mapped, moves_to, position_after, position_at}
use Rattle.study_marks.proofs.OneAnnotation.{one-value}
use Rattle.study_marks.proofs.PathRenewed.{spot-there}
use Rattle.study_view.proofs.OneView.{one-mark}
use Rattle.study_view.specs.Insertion.{MarksOfMovesAreThoseOfInsertions}

mark-is : (x y : Mark) → x.value ≡ y.value → x.on_move ≡ y.on_move → x.faults ≡ y.faults → x ≡ y
mark-is x y ev eo ef =
    ap (λ v. record { value = v; on_move = x.on_move; faults = x.faults }) ev
    ∙ ap (λ o. record { value = y.value; on_move = o; faults = x.faults }) eo
    ∙ ap (λ n. record { value = y.value; on_move = y.on_move; faults = n }) ef

abbrev Shape : Forest Mark → Forest (Unit {0})
Shape f = mapped (λ (x : Mark). tt {0}) f

abbrev first_move : Forest (Unit {0}) → Move → Move
first_move none m = m
first_move (more n l b r) m = n

abbrev first_below : Forest (Unit {0}) → Forest (Unit {0})
first_below none = none
first_below (more n l b r) = b

abbrev rest_of : Forest (Unit {0}) → Forest (Unit {0})
rest_of none = none
rest_of (more n l b r) = r

no-shape : (f : Forest Mark) → Shape f ≡ none → f ≡ none
no-shape none e = refl
no-shape (more m x b r) e = let no : ⊥ = cc in absurd no

-- a move has one mark if no node is below it
mark-once : EachHasAtMostOneValue → (a : Aim) (d : ℕ) (p : Position) (v : Value) (m : Move) (x y : Mark) (r q : Forest Mark)
    → AreAnnotated a d p v (more m x none r) → AreAnnotated a d p v (more m y none q) → x ≡ y
mark-once law a d p v m x y r q h j =
    let value : x.value ≡ y.value = one-value law (after p m) x.value y.value h.0 j.0 in
    let on_move : x.on_move ≡ y.on_move = one-mark law a d p v x.value y.value x.on_move y.on_move value h.1 j.1 in
    mark-is x y value on_move (h.2 ∙ ap (λ o. own_faults (hero_moves a d) o + faults_in a (d + 1) none) on_move ∙ sym j.2)

-- these are the marks of sibling nodes below the node at the path
abbrev There : Aim → ℕ → Position → Value → Forest Mark → List ℕ → Forest Mark → Type 0
There a d p v f [] g = AreAnnotated a d p v g
There a d p v none (k ∷ ks) g = ⊥
There a d p v (more n x b r) (zero ∷ ks) g = There a (d + 1) (after p n) x.value b ks g
There a d p v (more n x b r) (suc k ∷ ks) g = There a d p v r (k ∷ ks) g

abbrev twig_at : Forest Mark → List ℕ → Option (Twig Mark)
twig_at f [] = None
twig_at f (k ∷ ks) = node_in f k ks

spot-twig : (s : Study Mark) (path : List ℕ) (c : ℕ) → spot_at s.tree (path ++ c ∷ []) ≡ twig_spot (twig_at s.tree.below (path ++ c ∷ []))
spot-twig s [] c = refl
spot-twig s (k ∷ ks) c = refl

below-first : (n : Move) (y : Mark) (c q : Forest Mark) (ks : List ℕ) (i : ℕ)
    → twig_at (more n y c q) (zero ∷ (ks ++ i ∷ [])) ≡ twig_at c (ks ++ i ∷ [])
below-first n y c q [] i = refl
below-first n y c q (j ∷ js) i = refl

abbrev new_twig : Move → Mark → Twig Mark
new_twig m mark = record { played = m; label = mark; below = none }

-- the last child of the root
last-here : EachHasAtMostOneValue → (a : Aim) (d : ℕ) (p : Position) (v : Value) (f g : Forest Mark) (m : Move) (mark : Mark)
    → AreAnnotated a d p v g → Shape g ≡ add_last (Shape f) [] m tt → AreAnnotated a d p v (more m mark none none)
    → node_in g (width f) [] ≡ Some (new_twig m mark)
last-here law a d p v none none m mark h e j = let no : ⊥ = cc in absurd no
last-here law a d p v none (more n y c q) m mark h e j =
    let same : n ≡ m = ap (λ u. first_move u m) e in
    let empty : c ≡ none = no-shape c (ap first_below e) in
    let k = subst (λ u. AreAnnotated a d p v (more n y u q)) empty h in
    let l = subst (λ o. AreAnnotated a d p v (more o y none q)) same k in
    let one : y ≡ mark = mark-once law a d p v m y mark q none l j in
    ap (λ o. Some (record { played = o; label = y; below = c })) same
    ∙ ap (λ z. Some (record { played = m; label = z; below = c })) one ∙ ap (λ u. Some (record { played = m; label = mark; below = u })) empty
last-here law a d p v (more n x b r) none m mark h e j = let no : ⊥ = cc in absurd no
last-here law a d p v (more n x b r) (more o y c q) m mark h e j =
    ap (λ k. node_in (more o y c q) k []) (let z : 1 + width r ≡ suc (width r) = omega arith in z)
    ∙ last-here law a d p v r q m mark h.4 (ap rest_of e) j

new-node : EachHasAtMostOneValue → (a : Aim) (d : ℕ) (p : Position) (v : Value) (f g : Forest Mark) (path : List ℕ) (m : Move) (mark : Mark)
    → AreAnnotated a d p v f → AreAnnotated a d p v g → Shape g ≡ add_last (Shape f) path m tt
    → There a d p v f path (more m mark none none) → twig_at g (path ++ children_at f path ∷ []) ≡ Some (new_twig m mark)
new-node law a d p v f g [] m mark h i e j = last-here law a d p v f g m mark i e j
new-node law a d p v none g (k ∷ ks) m mark h i e j = absurd j
new-node law a d p v (more n x b r) none (zero ∷ ks) m mark h i e j = let no : ⊥ = cc in absurd no
new-node law a d p v (more n x b r) none (suc k ∷ ks) m mark h i e j = let no : ⊥ = cc in absurd no
new-node law a d p v (more n x b r) (more o y c q) (zero ∷ ks) m mark h i e j =
    let same : o ≡ n = ap (λ u. first_move u n) e in
    let i' = subst (λ z. AreAnnotated a d p v (more z y c q)) same i in
    let value : y.value ≡ x.value = one-value law (after p n) y.value x.value i'.0 h.0 in
    below-first o y c q ks (children_at b ks)
    ∙ new-node law a (d + 1) (after p n) x.value b c ks m mark h.3 (subst (λ w. AreAnnotated a (d + 1) (after p n) w c) value i'.3)
    (ap first_below e) j
new-node law a d p v (more n x b r) (more o y c q) (suc k ∷ ks) m mark h i e j = new-node law a d p v r q (k ∷ ks) m mark h.4 i.4 (ap rest_of e) j

-- the value at the end of a path, v if the path is empty
abbrev value_along : Value → Forest Mark → List ℕ → Value
value_along v f [] = v
value_along v none (k ∷ ks) = v
value_along v (more n x b r) (zero ∷ ks) = value_along x.value b ks
value_along v (more n x b r) (suc k ∷ ks) = value_along v r (k ∷ ks)

there : (a : Aim) (d e : ℕ) (p : Position) (v : Value) (f : Forest Mark) (path : List ℕ) (g : Forest Mark) → IsTrue (has_node f path)
    → e ≡ d + length path → AreAnnotated a e (position_after p (moves_to f path)) (value_along v f path) g → There a d p v f path g
there a d e p v f [] g h n j = subst (λ k. AreAnnotated a k p v g) (let z : e ≡ d = omega (arith, n) in z) j
there a d e p v none (k ∷ ks) g h n j = let no : ⊥ = cc in no
there a d e p v (more m x b r) (zero ∷ ks) g h n j =
    there a (d + 1) e (after p m) x.value b ks g h (let z : e ≡ (d + 1) + length ks = omega (arith, n) in z) j
there a d e p v (more m x b r) (suc k ∷ ks) g h n j = there a d e p v r (k ∷ ks) g h n j

abbrev twig_value : Value → Option (Twig Mark) → Value
twig_value v None = v
twig_value v (Some t) = t.label.value

along-twig : (v : Value) (f : Forest Mark) (k : ℕ) (ks : List ℕ) (t : Twig Mark) → node_in f k ks ≡ Some t → value_along v f (k ∷ ks) ≡ t.label.value
along-twig v none k ks t e = let no : ⊥ = cc in absurd no
along-twig v (more m x b r) zero [] t e = ap (twig_value v) e
along-twig v (more m x b r) zero (j ∷ js) t e = along-twig x.value b j js t e
along-twig v (more m x b r) (suc k) ks t e = along-twig v r k ks t e

abbrev spot_value : Value → Option (Spot Mark) → Value
spot_value v None = v
spot_value v (Some x) = x.label.value

along-spot : (s : Study Mark) (path : List ℕ) (x : Spot Mark) → spot_at s.tree path ≡ Some x → value_along s.tree.label.value s.tree.below path ≡ x.label.value
along-spot s [] x e = ap (spot_value Draw) e
along-spot s (k ∷ ks) x e = go (node_in s.tree.below k ks) refl
  where
    go : (o : Option (Twig Mark)) → node_in s.tree.below k ks ≡ o → value_along s.tree.label.value s.tree.below (k ∷ ks) ≡ x.label.value
    go None q = let no : None ≡ Some x = sym (ap twig_spot q) ∙ e in absurd cc
    go (Some t) q = along-twig s.tree.label.value s.tree.below k ks t q ∙ ap (spot_value Draw) (sym (ap twig_spot q) ∙ e)

pub marks-of-insertions : EachHasAtMostOneValue → MarksOfMovesAreThoseOfInsertions
marks-of-insertions law s t path m mark hs ht e found j =
    let start : t.start ≡ s.start = ap (λ u. u.start) e in
    let stipulation : t.stipulation ≡ s.stipulation = ap (λ u. u.stipulation) e in
    let aim : aim_of t ≡ aim_of s = ap (λ u. aim_of u) e in
    let value : t.tree.label.value ≡ s.tree.label.value =
    one-value law s.start.position t.tree.label.value s.tree.label.value
    (subst (λ q. IsValueOf q.position t.tree.label.value) start ht.value) hs.value in
    let below = subst (λ w. AreAnnotated (aim_of s) 0 s.start.position w t.tree.below) value
    (subst (λ q. AreAnnotated (aim_of s) 0 q.position t.tree.label.value t.tree.below) start
    (subst (λ a. AreAnnotated a 0 t.start.position t.tree.label.value t.tree.below) aim ht.below)) in
    let spot = spot-there s.tree path found in
    let there_it = there (aim_of s) 0 (length path) s.start.position s.tree.label.value s.tree.below path (more m mark none none) found
    (let z : length path ≡ 0 + length path = omega arith in z)
    (subst (λ w. AreAnnotated (aim_of s) (length path) (position_at s path) w (more m mark none none)) (sym (along-spot s path spot.0 spot.1))
    (j spot.0 spot.1)) in
    spot-twig t path (children_at s.tree.below path)
    ∙ ap twig_spot (new-node law (aim_of s) 0 s.start.position s.tree.label.value s.tree.below t.tree.below path m mark hs.below below
    (ap (λ u. u.tree.below) e) there_it)
