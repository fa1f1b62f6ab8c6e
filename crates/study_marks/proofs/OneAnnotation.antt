-- A plain study has exactly one annotation.
use Rattle.std.proofs.Common.{◌≡◌, ℕ, ◌+◌, List, [], ◌∷◌, Option, Some, refl, sym, ap, ◌∙◌, subst}
use Rattle.study_board.specs.Position.{Position}
use Rattle.study_moves.specs.declared.moves.Move.{Move}
use Rattle.study_moves.specs.Rules.{after}
use Rattle.study_moves.specs.Laws.{EachHasAtMostOneValue}
use Rattle.study_values.specs.declared.value.Value.{Value}
use Rattle.study_values.specs.declared.value.Value.TheVariants.{Win, Loss, Draw}
use Rattle.study_values.specs.Game.{IsValueOf}
use Rattle.study_tree.specs.Forest.{Forest, none, more}
use Rattle.study_marks.specs.declared.mark.Mark.{Mark}
use Rattle.study_notation.specs.declared.start.Start.{Start}
use Rattle.study_moves.specs.LegalList.{legal_list}
use Rattle.study_marks.specs.declared.mark.MoveMark.{MoveMark}
use Rattle.study_marks.specs.declared.mark_rules.Aim.{Aim}
use Rattle.study_marks.specs.declared.stipulation.Stipulation.{Stipulation}
use Rattle.study_marks.specs.Study.{Study, mapped}
use Rattle.study_marks.specs.Goals.{aim_of, hero_moves}
use Rattle.study_marks.specs.Marks.{move_mark, own_faults, faults_in}
use Rattle.study_marks.specs.Laws.{AnnotationsAreUnique}
use Rattle.study_marks.specs.Annotated.{AreValuesAfter, IsMoveMark, AreAnnotated}

-- a position has at most one value
pub one-value : EachHasAtMostOneValue → (p : Position) (v w : Value) → IsValueOf p v → IsValueOf p w → v ≡ w
one-value law p (Win n) (Win k) h j = ap Win ((law p).won_once n k h j)
one-value law p (Win n) (Loss k) h j = absurd ((law p).won_not_lost n k h j)
one-value law p (Win n) Draw h j = absurd ((law p).won_not_drawn n h j)
one-value law p (Loss n) (Win k) h j = absurd ((law p).won_not_lost k n j h)
one-value law p (Loss n) (Loss k) h j = ap Loss ((law p).lost_once n k h j)
one-value law p (Loss n) Draw h j = absurd ((law p).lost_not_drawn n h j)
one-value law p Draw (Win k) h j = absurd ((law p).won_not_drawn k j h)
one-value law p Draw (Loss k) h j = absurd ((law p).lost_not_drawn k j h)
one-value law p Draw Draw h j = refl

pub one-list : EachHasAtMostOneValue → (p : Position) (ms : List Move) (vs ws : List Value) → AreValuesAfter p ms vs → AreValuesAfter p ms ws → vs ≡ ws
one-list law p [] [] [] h j = refl
one-list law p [] [] (w ∷ ws) h j = absurd j
one-list law p [] (v ∷ vs) ws h j = absurd h
one-list law p (m ∷ ms) [] ws h j = absurd h
one-list law p (m ∷ ms) (v ∷ vs) [] h j = absurd j
one-list law p (m ∷ ms) (v ∷ vs) (w ∷ ws) h j = ap (λ x. x ∷ vs) (one-value law (after p m) v w h.0 j.0) ∙ ap (λ xs. w ∷ xs) (one-list law p ms vs ws h.1 j.1)

mark-is : (x y : Mark) → x.value ≡ y.value → x.on_move ≡ y.on_move → x.faults ≡ y.faults → x ≡ y
mark-is x y ev eo ef =
    ap (λ v. record { value = v; on_move = x.on_move; faults = x.faults }) ev
    ∙ ap (λ o. record { value = y.value; on_move = o; faults = x.faults }) eo
    ∙ ap (λ n. record { value = y.value; on_move = y.on_move; faults = n }) ef

one-mark : EachHasAtMostOneValue → (a : Aim) (d : ℕ) (p : Position) (v w w' : Value) (o o' : Option MoveMark) → w ≡ w'
    → ((mark : MoveMark) × (o ≡ Some mark) × IsMoveMark a d p v w mark) → ((mark : MoveMark) × (o' ≡ Some mark) × IsMoveMark a d p v w' mark) → o ≡ o'
one-mark law a d p v w w' o o' e h j =
    let all = one-list law p (legal_list p) h.2.0 j.2.0 h.2.1 j.2.1 in
    h.1 ∙ ap Some (h.2.2 ∙ ap (λ vs. move_mark a d v vs w) all ∙ ap (move_mark a d v j.2.0) e ∙ sym j.2.2) ∙ sym j.1

abbrev first_move : Forest (Unit {0}) → Move → Move
first_move none m = m
first_move (more n l b r) m = n

abbrev first_below : Forest (Unit {0}) → Forest (Unit {0})
first_below none = none
first_below (more n l b r) = b

abbrev others : Forest (Unit {0}) → Forest (Unit {0})
others none = none
others (more n l b r) = r

unique-below : EachHasAtMostOneValue → (a : Aim) (d : ℕ) (p : Position) (v : Value) (f g : Forest Mark)
    → AreAnnotated a d p v f → AreAnnotated a d p v g
    → mapped (λ (x : Mark). tt {0}) f ≡ mapped (λ (x : Mark). tt {0}) g → f ≡ g
unique-below law a d p v none none h j e = refl
unique-below law a d p v none (more n y c s) h j e = let no : ⊥ = cc in absurd no
unique-below law a d p v (more m x b r) none h j e = let no : ⊥ = cc in absurd no
unique-below law a d p v (more m x b r) (more n y c s) h j e =
    let same : m ≡ n = ap (λ u. first_move u m) e in
    let k = subst (λ o. AreAnnotated a d p v (more o y c s)) (sym same) j in
    let value : x.value ≡ y.value = one-value law (after p m) x.value y.value h.0 k.0 in
    let on_move : x.on_move ≡ y.on_move = one-mark law a d p v x.value y.value x.on_move y.on_move value h.1 k.1 in
    let deep : b ≡ c =
    unique-below law a (d + 1) (after p m) x.value b c h.3
    (subst (λ w. AreAnnotated a (d + 1) (after p m) w c) (sym value) k.3) (ap first_below e) in
    let faults : x.faults ≡ y.faults = h.2 ∙ ap (λ o. own_faults (hero_moves a d) o + faults_in a (d + 1) b) on_move
    ∙ ap (λ f. own_faults (hero_moves a d) y.on_move + faults_in a (d + 1) f) deep ∙ sym k.2 in
    ap (λ o. more o x b r) same ∙ ap (λ z. more n z b r) (mark-is x y value on_move faults) ∙ ap (λ f. more n y f r) deep
    ∙ ap (more n y c) (unique-below law a d p v r s h.4 j.4 (ap others e))

abbrev made : Start → Stipulation → List (Option (List ℕ)) → Mark → Forest Mark → Study Mark
made start stipulation tags mark below = record { start = start; stipulation = stipulation; tags = tags; tree = record { label = mark; below = below } }

pub unique : EachHasAtMostOneValue → AnnotationsAreUnique
unique law s t hs ht e =
    let start : s.start ≡ t.start = ap (λ (u : Study (Unit {0})). u.start) e in
    let stipulation : s.stipulation ≡ t.stipulation = ap (λ (u : Study (Unit {0})). u.stipulation) e in
    let tags : s.tags ≡ t.tags = ap (λ (u : Study (Unit {0})). u.tags) e in
    let aim : aim_of s ≡ aim_of t = ap (λ (u : Study (Unit {0})). aim_of u) e in
    let value : s.tree.label.value ≡ t.tree.label.value =
    one-value law t.start.position s.tree.label.value t.tree.label.value
    (subst (λ (x : Start). IsValueOf x.position s.tree.label.value) start hs.value) ht.value in
    let one = subst (λ (x : Aim). AreAnnotated x 0 s.start.position s.tree.label.value s.tree.below) aim hs.below in
    let two = subst (λ (x : Start). AreAnnotated (aim_of t) 0 x.position s.tree.label.value s.tree.below) start one in
    let three = subst (λ w. AreAnnotated (aim_of t) 0 t.start.position w s.tree.below) value two in
    let below : s.tree.below ≡ t.tree.below =
    unique-below law (aim_of t) 0 t.start.position t.tree.label.value s.tree.below t.tree.below three ht.below
    (ap (λ (u : Study (Unit {0})). u.tree.below) e) in
    let faults : s.tree.label.faults ≡ t.tree.label.faults =
    hs.faults ∙ ap (λ (x : Aim). faults_in x 0 s.tree.below) aim ∙ ap (faults_in (aim_of t) 0) below
    ∙ sym ht.faults in
    let mark : s.tree.label ≡ t.tree.label = mark-is s.tree.label t.tree.label value (hs.no_move ∙ sym ht.no_move) faults in
    ap (λ x. made x s.stipulation s.tags s.tree.label s.tree.below) start ∙ ap (λ x. made t.start x s.tags s.tree.label s.tree.below) stipulation
    ∙ ap (λ x. made t.start t.stipulation x s.tree.label s.tree.below) tags
    ∙ ap (λ x. made t.start t.stipulation t.tags x s.tree.below) mark
    ∙ ap (made t.start t.stipulation t.tags t.tree.label) below
