-- The texts of castling: how they are spelled, and that they are the texts of no other move.
use Rattle.std.proofs.Common.{◌≡◌, ℕ, ◌==◌, Bool, true, false, cond, ◌&&◌, ◌||◌, inl, inr, List, [], ◌∷◌, ◌++◌, Option, Some, None, refl, sym, ap, ◌∙◌, subst}
use Rattle.std.proofs.lemmas.Bool.{false≢true, and_parts, cases_Bool, eqb-true, or_from}
use Rattle.study_notation.specs.San.{is_ending}
use Rattle.study_notation.specs.SanParts.{san_of, is_castling, is_castling_with, kind_at, file_at, rank_at, takes_at, squares_at}
use Rattle.study_wide.specs.declared.castling.Wing.{Wing}
use Rattle.study_wide.specs.declared.castling.Wing.TheVariants.{Short, Long}
use Rattle.study_wide_text.specs.Matching.{is_long, wing_behind, wing_spelled_with, wing_or, castling_wing}
use Rattle.study_wide_text.specs.Meaning.{castling_with, SpellsCastling}

-- ---- what is read is spelled so

abbrev SpelledWith : ℕ → List ℕ → Wing → Type 0
SpelledWith o text w = (ending : List ℕ) × (is_ending ending ≡ true) × (text ≡ castling_with o w ++ ending)

same_front : (o a b c : ℕ) (t : List ℕ) → (a == o && b == 45 && c == o) ≡ true → a ∷ b ∷ c ∷ t ≡ o ∷ 45 ∷ o ∷ t
same_front o a b c t e =
    let p = and_parts (a == o && b == 45) (c == o) e in
    let q = and_parts (a == o) (b == 45) p.0 in
    ap (λ z. z ∷ b ∷ c ∷ t) (eqb-true a o q.0) ∙ (ap (λ z. o ∷ z ∷ c ∷ t) (eqb-true b 45 q.1) ∙ ap (λ z. o ∷ 45 ∷ z ∷ t) (eqb-true c o p.1))

same_back : (o d e : ℕ) (t : List ℕ) → (d == 45 && e == o) ≡ true → o ∷ 45 ∷ o ∷ d ∷ e ∷ t ≡ o ∷ 45 ∷ o ∷ 45 ∷ o ∷ t
same_back o d e t h =
    let p = and_parts (d == 45) (e == o) h in
    ap (λ z. o ∷ 45 ∷ o ∷ z ∷ e ∷ t) (eqb-true d 45 p.0) ∙ ap (λ z. o ∷ 45 ∷ o ∷ 45 ∷ z ∷ t) (eqb-true e o p.1)

no_wing : {A : Type 0} (w : Wing) → None ≡ Some w → A
no_wing w e = absurd (let no : ⊥ = cc in no)

-- the front, a dash and the byte again, and an ending
long : (o a b c : ℕ) (rest : List ℕ) → (a == o && b == 45 && c == o) ≡ true → is_long o rest ≡ true → SpelledWith o (a ∷ b ∷ c ∷ rest) Long
long o a b c [] front h = absurd (false≢true h)
long o a b c (d ∷ []) front h = absurd (false≢true h)
long o a b c (d ∷ e ∷ rest) front h =
    let p = and_parts (d == 45 && e == o) (is_ending rest) h in
    (rest, p.1, same_front o a b c (d ∷ e ∷ rest) front ∙ same_back o d e rest p.0)

behind : (o a b c : ℕ) (rest : List ℕ) (w : Wing) → (a == o && b == 45 && c == o) ≡ true → wing_behind o rest ≡ Some w
    → SpelledWith o (a ∷ b ∷ c ∷ rest) w
unfolding wing_behind
behind o a b c rest w front h = elim (cases_Bool (is_long o rest)) [
  | inl t ↦
      let it : Some Long ≡ Some w = rw t at h in
      let same : Long ≡ w = cc in
      subst (λ (v : Wing). SpelledWith o (a ∷ b ∷ c ∷ rest) v) same (long o a b c rest front t)
  | inr f ↦ elim (cases_Bool (is_ending rest)) [
    | inl t ↦
        let it : cond (is_ending rest) (Some Short) None ≡ Some w = rw f at h in
        let it' : Some Short ≡ Some w = rw t at it in
        let same : Short ≡ w = cc in
        subst (λ (v : Wing). SpelledWith o (a ∷ b ∷ c ∷ rest) v) same (rest, t, same_front o a b c rest front)
    | inr g ↦
        let it : cond (is_ending rest) (Some Short) None ≡ Some w = rw f at h in
        let it' : None ≡ Some w = rw g at it in
        no_wing w it'
  ]
]

spelled_with : (o : ℕ) (text : List ℕ) (w : Wing) → wing_spelled_with o text ≡ Some w → SpelledWith o text w
spelled_with o [] w h = no_wing w h
spelled_with o (a ∷ []) w h = no_wing w h
spelled_with o (a ∷ b ∷ []) w h = no_wing w h
spelled_with o (a ∷ b ∷ c ∷ rest) w h = elim (cases_Bool (a == o && b == 45 && c == o)) [
  | inl t ↦ behind o a b c rest w t (rw t at h)
  | inr f ↦ (let it : None ≡ Some w = rw f at h in no_wing w it)
]

pub spelled : (text : List ℕ) (w : Wing) → castling_wing text ≡ Some w → SpellsCastling text w
unfolding castling_wing
spelled text w h = cases (wing_spelled_with 79 text) refl h
  where
    cases : (v : Option Wing) → wing_spelled_with 79 text ≡ v → wing_or v (wing_spelled_with 48 text) ≡ Some w → SpellsCastling text w
    cases (Some v) e k = (79, inl refl, spelled_with 79 text w (e ∙ k))
    cases None e k = (48, inr refl, spelled_with 48 text w k)

-- ---- what is spelled so is read

-- an ending does not begin with a dash
no_dash : (d e o : ℕ) (t : List ℕ) → is_ending (d ∷ e ∷ t) ≡ true → (d == 45) ≡ false
no_dash d e o t h = elim (cases_Bool (d == 45)) [
  | inl y ↦ (let same = eqb-true d 45 y in
      let k : is_ending (45 ∷ e ∷ t) ≡ true = ap (λ z. is_ending (z ∷ e ∷ t)) (sym same) ∙ h in
      absurd (false≢true (sym (none t) ∙ k)))
  | inr n ↦ n
]
  where
    none : (t : List ℕ) → is_ending (45 ∷ e ∷ t) ≡ false
    none [] = refl
    none (a ∷ t) = refl

read_letters : (w : Wing) (ending : List ℕ) → is_ending ending ≡ true → castling_wing (castling_with 79 w ++ ending) ≡ Some w
unfolding castling_wing wing_behind
read_letters Short [] h = refl
read_letters Short (a ∷ []) h = rw h refl
read_letters Short (a ∷ b ∷ t) h = rw (no_dash a b 79 t h, h) refl
read_letters Long ending h = rw h refl

read_digits : (w : Wing) (ending : List ℕ) → is_ending ending ≡ true → castling_wing (castling_with 48 w ++ ending) ≡ Some w
unfolding castling_wing wing_behind
read_digits Short [] h = refl
read_digits Short (a ∷ []) h = rw h refl
read_digits Short (a ∷ b ∷ t) h = rw (no_dash a b 48 t h, h) refl
read_digits Long ending h = rw h refl

pub read_spelled : (text : List ℕ) (w : Wing) → SpellsCastling text w → castling_wing text ≡ Some w
read_spelled text w s = elim s.1 [
  | inl e ↦ ap castling_wing (s.2.2 ∙ ap (λ o. castling_with o w ++ s.2.0) e) ∙ read_letters w s.2.0 s.2.1
  | inr e ↦ ap castling_wing (s.2.2 ∙ ap (λ o. castling_with o w ++ s.2.0) e) ∙ read_digits w s.2.0 s.2.1
]

-- ---- castling has no parts

no_parts_letters : (w : Wing) (ending : List ℕ) → san_of (castling_with 79 w ++ ending) ≡ None
unfolding san_of kind_at squares_at file_at rank_at takes_at
no_parts_letters Short ending = refl
no_parts_letters Long ending = refl

no_parts_digits : (w : Wing) (ending : List ℕ) → san_of (castling_with 48 w ++ ending) ≡ None
unfolding san_of kind_at squares_at file_at rank_at takes_at
no_parts_digits Short ending = refl
no_parts_digits Long ending = refl

pub no_parts : (text : List ℕ) (w : Wing) → SpellsCastling text w → san_of text ≡ None
no_parts text w s = elim s.1 [
  | inl e ↦ ap san_of (s.2.2 ∙ ap (λ o. castling_with o w ++ s.2.0) e) ∙ no_parts_letters w s.2.0
  | inr e ↦ ap san_of (s.2.2 ∙ ap (λ o. castling_with o w ++ s.2.0) e) ∙ no_parts_digits w s.2.0
]

-- ---- castling as with four men, where it is left out

one_ending : (x z : Bool) → cond x (cond z (Some Short) None) None ≡ None → (x && z) ≡ false
one_ending false z k = refl
one_ending true true k = absurd (let no : ⊥ = cc in no)
one_ending true false k = refl

two_endings : (x y z : Bool) → cond x (cond y (Some Long) (cond z (Some Short) None)) None ≡ None → (x && (y || z)) ≡ false
two_endings false y z k = refl
two_endings true true z k = absurd (let no : ⊥ = cc in no)
two_endings true false true k = absurd (let no : ⊥ = cc in no)
two_endings true false false k = refl

some_with : (o : ℕ) (text : List ℕ) → wing_spelled_with o text ≡ None → is_castling_with o text ≡ false
unfolding wing_behind
some_with o [] h = refl
some_with o (a ∷ []) h = refl
some_with o (a ∷ b ∷ []) h = refl
some_with o (a ∷ b ∷ c ∷ []) h = one_ending (a == o && b == 45 && c == o) (is_ending []) h
some_with o (a ∷ b ∷ c ∷ d ∷ []) h = one_ending (a == o && b == 45 && c == o) (is_ending (d ∷ [])) h
some_with o (a ∷ b ∷ c ∷ d ∷ e ∷ rest) h =
    two_endings (a == o && b == 45 && c == o) (d == 45 && e == o && is_ending rest) (is_ending (d ∷ e ∷ rest)) h

pub none_castles : (text : List ℕ) → castling_wing text ≡ None → is_castling text ≡ false
unfolding castling_wing
none_castles text h = cases (wing_spelled_with 79 text) refl h
  where
    cases : (v : Option Wing) → wing_spelled_with 79 text ≡ v → wing_or v (wing_spelled_with 48 text) ≡ None → is_castling text ≡ false
    cases (Some v) e k = absurd (let no : ⊥ = cc in no)
    cases None e k = or_from _ _ (some_with 79 text e) (some_with 48 text k)

castling_letters : (w : Wing) (ending : List ℕ) → is_ending ending ≡ true → is_castling (castling_with 79 w ++ ending) ≡ true
castling_letters Short [] h = refl
castling_letters Short (a ∷ []) h = rw h refl
castling_letters Short (a ∷ b ∷ t) h = rw (no_dash a b 79 t h, h) refl
castling_letters Long ending h = rw h refl

castling_digits : (w : Wing) (ending : List ℕ) → is_ending ending ≡ true → is_castling (castling_with 48 w ++ ending) ≡ true
castling_digits Short [] h = refl
castling_digits Short (a ∷ []) h = rw h refl
castling_digits Short (a ∷ b ∷ t) h = rw (no_dash a b 48 t h, h) refl
castling_digits Long ending h = rw h refl

pub some_castles : (text : List ℕ) (w : Wing) → SpellsCastling text w → is_castling text ≡ true
some_castles text w s = elim s.1 [
  | inl e ↦ ap is_castling (s.2.2 ∙ ap (λ o. castling_with o w ++ s.2.0) e) ∙ castling_letters w s.2.0 s.2.1
  | inr e ↦ ap is_castling (s.2.2 ∙ ap (λ o. castling_with o w ++ s.2.0) e) ∙ castling_digits w s.2.0 s.2.1
]
