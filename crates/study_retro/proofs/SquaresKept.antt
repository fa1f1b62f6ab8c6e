-- Of the squares of a set, taken one by one, some are kept, or others are gathered for them.
use Rattle.std.proofs.Common.{◌≡◌, ℕ, ◌<◌, ◌==◌, ◌&&◌, ◌||◌, Bool, true, false, ◌∷◌, inl, inr, refl, sym, ◌∙◌, ap, subst}
use Rattle.std.proofs.lemmas.Bool.{and_parts, eq-eqb, eqb-true, false≢true, or_cases}
use Rattle.study_board.specs.Sets.{has}
use Rattle.study_board.specs.Squares.{squares_of}
use Rattle.study_board.proofs.SetBits.{has-zero}
use Rattle.study_board.proofs.SquareLists.{IsFirstOf, first-of}
use Rattle.study_levels.proofs.SquaresLeft.{still-among, taken-too}

-- the first square of a set, by its number
pub first-as : (set t rest s : ℕ) → squares_of set ≡ t ∷ squares_of rest → s ≡ t → IsFirstOf set s rest
first-as set t rest s steps same = subst (λ (x : ℕ). IsFirstOf set x rest) (sym same) (first-of set t rest steps)

left_false : (a b : Bool) → (a || b) ≡ false → a ≡ false
left_false true b e = e
left_false false b e = refl

right_false : (a b : Bool) → (a || b) ≡ false → b ≡ false
right_false true b e = absurd (false≢true (sym e))
right_false false b e = e

right_true : (a b : Bool) → b ≡ true → (a || b) ≡ true
right_true true b e = refl
right_true false b e = e

left_and : (a b : Bool) → b ≡ true → (a && b) ≡ false → a ≡ false
left_and true b e f = absurd (false≢true (sym f ∙ e))
left_and false b e f = refl

or_none : (a : Bool) → a ≡ (a || false)
or_none true = refl
or_none false = refl

-- what holds of the squares of a set, and of one more if it is added
pub has-if : (kept t more : ℕ) (b : Bool) → ((x : ℕ) → x < 64 → has more x ≡ (has kept x || (b && (t == x))))
    → (Q : ℕ → Type 0) → ((x : ℕ) → x < 64 → has kept x ≡ true → Q x) → (b ≡ true → Q t) → (x : ℕ) → x < 64 → has more x ≡ true → Q x
has-if kept t more b word Q before here x on e = elim (or_cases (has kept x) (b && (t == x)) (sym (word x on) ∙ e)) [
  | inl there ↦ before x on there
  | inr new ↦ let both = and_parts b (t == x) new in subst Q (eqb-true t x both.1) (here both.0)
]

module _ (all : ℕ) (Yes Not : ℕ → Type 0) where
  -- squares of the set are kept, and of those that are not left only some that need not be
  pub record AreKeptExcept (rest kept : ℕ) : Type 0 where
    pub among : (y : ℕ) → y < 64 → has rest y ≡ true → has all y ≡ true
    pub keeps : (y : ℕ) → y < 64 → has kept y ≡ true → (has all y ≡ true) × Yes y
    pub others : (y : ℕ) → y < 64 → has all y ≡ true → has rest y ≡ false → has kept y ≡ false → Not y

  pub kept-none : (rest kept : ℕ) → rest ≡ all → kept ≡ 0 → AreKeptExcept rest kept
  kept-none rest kept is none = record {
    among = λ y on e. subst (λ (s : ℕ). has s y ≡ true) is e;
    keeps = λ y on e. absurd (false≢true (sym (ap (λ (s : ℕ). has s y) none ∙ has-zero y) ∙ e));
    others = λ y on e out. absurd (false≢true (sym out ∙ subst (λ (s : ℕ). has s y ≡ true) (sym is) e));
  }

  -- s is the first of the remaining squares
  module _ (set kept : ℕ) (h : AreKeptExcept set kept) (t rest : ℕ) (f : IsFirstOf set t rest) (s : ℕ) (same : s ≡ t) where
    -- it is kept if the test holds
    pub kept-if : (b : Bool) (more : ℕ) → ((x : ℕ) → x < 64 → has more x ≡ (has kept x || (b && (t == x)))) → (b ≡ true → Yes s) → (b ≡ false → Not s)
        → AreKeptExcept rest more
    kept-if b more word holds fails = record {
      among = still-among all set t rest f h.among;
      keeps = has-if kept t more b word (λ (y : ℕ). (has all y ≡ true) × Yes y) h.keeps (λ e. (h.among t f.inside f.there, subst Yes same (holds e)));
      others = taken-too all set t rest f (λ (y : ℕ). has more y ≡ false → Not y)
          (λ y on e gone n. h.others y on e gone (left_false (has kept y) (b && (t == y)) (sym (word y on) ∙ n)))
          (λ n. subst Not same (fails (left_and b (t == t) (eq-eqb t t refl)
          (right_false (has kept t) (b && (t == t)) (sym (word t f.inside) ∙ n)))));
    }

    pub kept-with : (one more : ℕ) → ((x : ℕ) → x < 64 → has one x ≡ (t == x)) → ((x : ℕ) → has more x ≡ (has kept x || has one x)) → Yes s
        → AreKeptExcept rest more
    kept-with one more single union here =
        kept-if true more (λ x on. union x ∙ ap (λ (b : Bool). has kept x || b) (single x on)) (λ e. here) (λ e. absurd (false≢true (sym e)))

    pub kept-without : Not s → AreKeptExcept rest kept
    kept-without here = kept-if false kept (λ x on. or_none (has kept x)) (λ e. absurd (false≢true e)) (λ e. here)

module _ (all : ℕ) (finds : ℕ → ℕ → Bool) where
  -- the squares that are found from one of the set
  abbrev pub IsFound : ℕ → Type 0
  IsFound x = (y : ℕ) × (y < 64) × (has all y ≡ true) × (finds y x ≡ true)

  -- squares are gathered that are found from the set, and all from those of the set that are not left
  pub record AreGatheredExcept (rest squares : ℕ) : Type 0 where
    pub among : (y : ℕ) → y < 64 → has rest y ≡ true → has all y ≡ true
    pub only : (x : ℕ) → x < 64 → has squares x ≡ true → IsFound x
    pub each : (x y : ℕ) → x < 64 → y < 64 → has all y ≡ true → has rest y ≡ false → finds y x ≡ true → has squares x ≡ true

  pub gathered-none : (rest squares : ℕ) → rest ≡ all → squares ≡ 0 → AreGatheredExcept rest squares
  gathered-none rest squares is none = record {
    among = λ y on e. subst (λ (s : ℕ). has s y ≡ true) is e;
    only = λ x on e. absurd (false≢true (sym (ap (λ (s : ℕ). has s x) none ∙ has-zero x) ∙ e));
    each = λ x y in64 on e out. absurd (false≢true (sym out ∙ subst (λ (s : ℕ). has s y ≡ true) (sym is) e));
  }

  pub gathered-more : (set squares : ℕ) → AreGatheredExcept set squares → (t rest : ℕ) → IsFirstOf set t rest
      → (from more : ℕ) → ((x : ℕ) → x < 64 → has from x ≡ finds t x) → ((x : ℕ) → has more x ≡ (has squares x || has from x))
      → AreGatheredExcept rest more
  gathered-more set squares h t rest f from more word union = record {
    among = still-among all set t rest f h.among;
    only = λ x on e. elim (or_cases (has squares x) (has from x) (sym (union x) ∙ e)) [
      | inl before ↦ h.only x on before
      | inr now ↦ (t, f.inside, h.among t f.inside f.there, sym (word x on) ∙ now)
    ];
    each = λ x y in64.
        taken-too all set t rest f (λ (z : ℕ). finds z x ≡ true → has more x ≡ true)
        (λ z on e gone w. union x ∙ ap (λ (b : Bool). b || has from x) (h.each x z in64 on e gone w))
        (λ w. union x ∙ right_true (has squares x) (has from x) (word x in64 ∙ w))
        y;
  }
