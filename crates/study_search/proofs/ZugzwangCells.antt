-- A mutual zugzwang by the cells of the same men with either side to move, and the pages that have them.
use Rattle.std.proofs.Common.{◌≡◌, ℕ, ◌+◌, ◌*◌, ◌/◌, ◌%◌, ◌<◌, ◌≤◌, inl, inr, Bool, true, false, List, Option, Some, None, Result, Ok, Err, IfOk, ◌↔◌}
use Rattle.std.proofs.Common.{refl, sym, ◌∙◌, ap, subst, arith}
use Rattle.std.specs.Prelude.{slice_index, IfSome}
use Rattle.std.proofs.lemmas.Bool.{false≢true, cases_lt, lt-ltb, ltb-true}
use Rattle.study_board.specs.declared.men.Side.{Side}
use Rattle.study_board.specs.declared.men.Side.TheVariants.{White, Black}
use Rattle.study_board.specs.Position.{Position, IsValid}
use Rattle.study_moves.specs.Laws.{EachHasAtMostOneValue}
use Rattle.study_material.specs.declared.class.Class.{Class}
use Rattle.study_values.specs.Number.{with_bit, without_bit}
use Rattle.study_values.specs.Index.{index_of}
use Rattle.study_values.specs.Cells.{value_of}
use Rattle.study_values.specs.Game.{IsValueOf}
use Rattle.study_index.specs.Decoded.{slots_of, decoded_side, IsDecoded}
use Rattle.study_index.specs.Computed.{position_numbered}
use Rattle.study_index.proofs.ClassLaws.{entry}
use Rattle.study_index.proofs.ClassSlots.{AreSlots-class}
use Rattle.study_index.proofs.ComputedIndex.{decoded_of_numbered, numbered_of_decoded, index_of-only}
use Rattle.study_index.proofs.NumbersReadOff.{IsOfMen-decoded}
use Rattle.study_index.proofs.WithBit.{HasParts-from}
use Rattle.study_prober.specs.CellPages.{AreValuesOf}
use Rattle.study_zugzwang.specs.Zugzwang.{half_points, handed_on, EitherCanMove, Scores}
use Rattle.study_zugzwang.proofs.Zugzwangs.{one-score}
use Rattle.study_search.specs.declared.finding.Search.{Search}
use Rattle.study_search.specs.declared.themes.Theme.{Theme}
use Rattle.study_search.specs.declared.themes.Theme.TheVariants as theme
use Rattle.study_search.specs.Themes.{HasTheme}
use Rattle.study_search.specs.Finding.{is_for, IsFound, IsNext, HoldsOfNone, IsFirst}
use Rattle.study_search.specs.ByCells.{side_step, IsZugzwangAt, IsHandedOn, IsZugzwangBy, IsOpposite, IsFoundOn}
use Rattle.study_search.proofs.SideDecoded.{side-decoded}
use Rattle.study_search.proofs.OtherSide.{step-small, white-decoded, black-decoded, reported-below, quiet, other-number}

-- ---- by the decoded position

pub not-handed : (c : Class) (n : ℕ) → ((q : Position) → IsDecoded c n q → ⊥) → (false ≡ true) ↔ IsHandedOn c n
not-handed c n none = ((λ f. absurd (false≢true f)), (λ h. absurd (none h.0 (decoded_of_numbered c n h.0 h.1))))

pub handed-by : (c : Class) (n : ℕ) (p : Position) (b : Bool) → IsDecoded c n p → ((b ≡ true) ↔ EitherCanMove p) → (b ≡ true) ↔ IsHandedOn c n
handed-by c n p b d h = (
  (λ e. (p, numbered_of_decoded c n p d, h.0 e)),
  (λ x. h.1 (subst (λ (q : Position). EitherCanMove q) (same x.0 p (sym x.1 ∙ numbered_of_decoded c n p d)) x.2)),
)
  where
    same : (q r : Position) → Some q ≡ Some r → q ≡ r
    same q r e = cc

pub not-less : (A : Type 0) (b : Bool) → b ≡ false → (false ≡ true) ↔ ((b ≡ true) × A)
not-less A b e = ((λ f. absurd (false≢true f)), (λ h. absurd (false≢true (sym e ∙ h.0))))

pub less-and : (A : Type 0) (b r : Bool) → b ≡ true → ((r ≡ true) ↔ A) → (r ≡ true) ↔ ((b ≡ true) × A)
less-and A b r e h = ((λ t. (e, h.0 t)), (λ x. h.1 x.1))

-- ---- by the cells

-- where the cell of the same men with the other side to move is
other-place : (c : Class) (n page opposite m : ℕ) → side_step c % 4096 ≡ 0 → IsOpposite c page opposite → n / 4096 ≡ page
    → (decoded_side (slots_of c) n ≡ White → m ≡ n + side_step c) × (decoded_side (slots_of c) n ≡ Black → m + side_step c ≡ n)
    → (m / 4096 ≡ opposite) × (m % 4096 ≡ n % 4096)
other-place c n page opposite m whole facing at other = elim (cases_lt n (side_step c)) [
  | inl l ↦
      let e = other.0 (white-decoded c n l) in
      let low : 4096 * page < side_step c = omega (arith, l, at) in
      let o = facing.black low in
      (omega (arith, whole, at, e, o), omega (arith, whole, e))
  | inr g ↦
      let e = other.1 (black-decoded c n g) in
      let high : side_step c ≤ 4096 * page = omega (arith, g, at, whole) in
      let o = facing.white high in
      (omega (arith, whole, at, e, o), omega (arith, whole, e))
]

module _ (law : EachHasAtMostOneValue) (c : Class) (page opposite : ℕ) (own other : List ℕ) (owns : AreValuesOf c page own)
    (others : AreValuesOf c opposite other) (whole : side_step c % 4096 ≡ 0) (facing : IsOpposite c page opposite) where
  module _ (n : ℕ) (at : n / 4096 ≡ page) (low : n < 2 * side_step c) where
    small : n < 16777216
    small = let few = step-small c in omega (arith, low, few)

    own-score : (p : Position) → position_numbered c n ≡ Some p → Scores p (half_points (value_of (slice_index own (n % 4096))))
    own-score p e =
        let d = decoded_of_numbered c n p e in
        let index : index_of p ≡ n = sym (index_of-only p n d.valid d.index) in
        let v = owns p d.valid (entry c n p d).of_class (ap (λ (m : ℕ). m / 4096) index ∙ at) in
        (value_of (slice_index own (n % 4096)), subst (λ (m : ℕ). IsValueOf p (value_of (slice_index own (m % 4096)))) index v, refl)

    other-score : (p : Position) → position_numbered c n ≡ Some p → IsValid (handed_on p)
        → Scores (handed_on p) (half_points (value_of (slice_index other (n % 4096))))
    other-score p e valid =
        let d = decoded_of_numbered c n p e in
        let q = handed_on p in
        let there = other-place c n page opposite (index_of q) whole facing at (other-number c n p d small valid) in
        let v = others q valid (entry c n p d).of_class there.0 in
        (value_of (slice_index other (n % 4096)), subst (λ (m : ℕ). IsValueOf q (value_of (slice_index other m))) there.1 v, refl)

    pub by-cells : IsZugzwangBy c own other n → IsZugzwangAt c n
    by-cells h =
        let p = h.1.0 in
        let i = half_points (value_of (slice_index own (n % 4096))) in
        let j = half_points (value_of (slice_index other (n % 4096))) in (
          p,
          h.1.1,
          record {
            none_passed = quiet c n p (decoded_of_numbered c n p h.1.1) small;
            either = h.1.2;
            less = (i, j, own-score p h.1.1, other-score p h.1.1 h.1.2.other, ltb-true (i + j) 2 h.0);
          },
        )

    pub to-cells : IsZugzwangAt c n → IsZugzwangBy c own other n
    to-cells h =
        let p = h.0 in
        let z = h.2 in
        let i = half_points (value_of (slice_index own (n % 4096))) in
        let j = half_points (value_of (slice_index other (n % 4096))) in
        let e : z.less.0 ≡ i = one-score law p z.less.0 i z.less.2 (own-score p h.1) in
        let f : z.less.1 ≡ j = one-score law (handed_on p) z.less.1 j z.less.3 (other-score p h.1 z.either.other) in
        let less = z.less.4 in
        (lt-ltb (i + j) 2 (omega (arith, e, f, less)), (p, h.1, z.either))

  -- the next one on a page by the cells is the next one
  pub next-at : (from to : ℕ) (next : Option ℕ) → 4096 * page ≤ from → to ≤ 4096 * page + 4096 → 4096 * page < 2 * side_step c
      → IsNext (IsZugzwangBy c own other) from to next → IsNext (IsZugzwangAt c) from to next
  next-at from to None first last low h = λ k a b z. h k a b (to-cells k (omega (arith, first, last, a, b)) (omega (arith, first, last, a, b, low, whole)) z)
  next-at from to (Some n) first last low h =
      let a = h.0 in
      let b = h.1 in (
        a,
        b,
        by-cells n (omega (arith, first, last, a, b)) (omega (arith, first, last, a, b, low, whole)) h.2,
        (λ k d e z. h.3 k d e (to-cells k (omega (arith, first, last, d, e, b)) (omega (arith, first, last, d, e, b, low, whole)) z)),
      )

-- ---- the pages

-- a number with the bit of a capture in passing, or beyond its class, is none
pub none-beyond : (c : Class) (n : ℕ) → 2 * side_step c ≤ n → IsZugzwangAt c n → ⊥
none-beyond c n far z =
    let d = decoded_of_numbered c n z.0 z.1 in
    let is : n ≡ without_bit n = (HasParts-from z.0 n d.valid d.index).is ∙ ap (λ b. with_bit b (without_bit n)) z.2.none_passed in
    let low : without_bit n < 2 * side_step c = reported-below c (without_bit n) (IsOfMen-decoded (slots_of c) n z.0 (AreSlots-class c) d).cell in
    omega (arith, far, is, low)

module _ (s : Search) (is : s.theme ≡ theme.Zugzwang) where
  at-found : (n : ℕ) → IsFound s n → IsZugzwangAt s.class n
  at-found n f = (f.0, f.1, subst (λ (t : Theme). HasTheme t f.0) is f.2.1)

  found-at : (n : ℕ) → is_for s.side (decoded_side (slots_of s.class) (without_bit n)) ≡ true → IsZugzwangAt s.class n → IsFound s n
  found-at n e z = (
    z.0,
    z.1,
    (
      ap (λ x. is_for s.side x) (side-decoded s.class n z.0 z.1) ∙ e,
      subst (λ (t : Theme). HasTheme t z.0) (sym is) z.2,
    ),
  )

  pub found-below : (n : ℕ) → IsFound s n → n < 2 * side_step s.class
  found-below n f = elim (cases_lt n (2 * side_step s.class)) [ inl l ↦ l | inr g ↦ absurd (none-beyond s.class n g (at-found n f)) ]

  module _ (page : ℕ) (side : Side) (whole : side_step s.class % 4096 ≡ 0) (low : 4096 * page < 2 * side_step s.class)
      (white : page < side_step s.class / 4096 → side ≡ White) (black : side_step s.class / 4096 ≤ page → side ≡ Black) where
    side-here : (n : ℕ) → 4096 * page ≤ n → n < 4096 * page + 4096 → decoded_side (slots_of s.class) (without_bit n) ≡ side
    side-here n first last =
        let few = step-small s.class in
        let plain : without_bit n ≡ n = (let l : n < 16777216 = omega (arith, last, low, few, whole) in omega (arith, l)) in
        let here : decoded_side (slots_of s.class) n ≡ side = elim (cases_lt page (side_step s.class / 4096)) [
          | inl l ↦ white-decoded s.class n (omega (arith, l, last, whole)) ∙ sym (white l)
          | inr g ↦ black-decoded s.class n (omega (arith, g, first, whole)) ∙ sym (black g)
        ] in
        ap (λ (m : ℕ). decoded_side (slots_of s.class) m) plain ∙ here

    -- with this side to move nothing is looked for
    pub none-wanted : (from to : ℕ) → is_for s.side side ≡ false → IsNext (IsFoundOn s page) from to None
    none-wanted from to e = λ k a b f.
        false≢true (sym e ∙ ap (λ x. is_for s.side x) (sym (side-here k f.0 f.1)) ∙ ap (λ x. is_for s.side x) (sym (side-decoded s.class k f.2.0 f.2.1))
        ∙ f.2.2.0)

    pub next-wanted : (from to first end : ℕ) (next : Option ℕ) → is_for s.side side ≡ true
        → 4096 * page ≤ first → from ≤ first → ((k : ℕ) → from ≤ k → 4096 * page ≤ k → first ≤ k)
        → end ≤ 4096 * page + 4096 → end ≤ to → ((k : ℕ) → k < to → k < 4096 * page + 4096 → k < end)
        → IsNext (IsZugzwangAt s.class) first end next → IsNext (IsFoundOn s page) from to next
    next-wanted from to first end None e on from_on least within to_end most h = λ k a b f. h k (least k a f.0) (most k b f.1) (at-found k f.2)
    next-wanted from to first end (Some n) e on from_on least within to_end most h =
        let a = h.0 in
        let b = h.1 in
        let up : 4096 * page ≤ n = omega (arith, on, a) in
        let down : n < 4096 * page + 4096 = omega (arith, within, b) in (
          omega (arith, from_on, a),
          omega (arith, to_end, b),
          (up, down, found-at n (ap (λ x. is_for s.side x) (side-here n up down) ∙ e) h.2),
          (λ k d l f. h.3 k (least k d f.0) l (at-found k f.2)),
        )

-- ---- page by page

pub first-of : (P : ℕ → Type 0) (a b n : ℕ) (next : Option ℕ) → IsNext P a b next → next ≡ Some n → IsFirst P a b n
first-of P a b n next h e = subst (λ (o : Option ℕ). IsNext P a b o) e h

pub none-of : (P : ℕ → Type 0) (a b : ℕ) (next : Option ℕ) → IsNext P a b next → next ≡ None → HoldsOfNone P a b
none-of P a b next h e = subst (λ (o : Option ℕ). IsNext P a b o) e h

pub next-within : (P : ℕ → Type 0) (a b : ℕ) (next : Option ℕ) → IsNext P a b next → IfSome next (λ n. (a ≤ n) × (n < b))
next-within P a b None h = tt
next-within P a b (Some n) h = (h.0, h.1)

pub within-more : {E : Type 0} (a b first end : ℕ) (r : Result (Option ℕ) E) → a ≤ first → end ≤ b
    → IfOk r (λ next. IfSome next (λ n. (first ≤ n) × (n < end))) → IfOk r (λ next. IfSome next (λ n. (a ≤ n) × (n < b)))
within-more a b first end (Ok None) low high h = tt
within-more a b first end (Ok (Some n)) low high h = let x = h.0 in let y = h.1 in (omega (arith, low, x), omega (arith, high, y))
within-more a b first end (Err e) low high h = tt

pub if-ok : {T E : Type 0} (P Q : T → Type 0) (r : Result T E) → ((x : T) → P x → Q x) → IfOk r P → IfOk r Q
if-ok P Q (Ok x) f h = f x h
if-ok P Q (Err e) f h = tt

-- nothing is found on the page, nor before it
pub none-on : (s : Search) (page from to : ℕ) → ((k : ℕ) → from ≤ k → k < to → k < 4096 * page → ¬ (IsFound s k))
    → HoldsOfNone (IsFoundOn s page) from to → (k : ℕ) → from ≤ k → k < to → k < 4096 * (page + 1) → ¬ (IsFound s k)
none-on s page from to before here k a b l f = elim (cases_lt k (4096 * page)) [
  | inl e ↦ before k a b e f
  | inr g ↦ (let up : k < 4096 * page + 4096 = omega (arith, l) in here k a b (g, up, f))
]

-- the first on the page, and nothing before it
pub first-found : (s : Search) (page from to n : ℕ) → ((k : ℕ) → from ≤ k → k < to → k < 4096 * page → ¬ (IsFound s k))
    → IsFirst (IsFoundOn s page) from to n → IsFirst (IsFound s) from to n
first-found s page from to n before h =
    let on = h.2.1 in
    let less = h.1 in (
      h.0,
      h.1,
      h.2.2,
      (λ k a b f. elim (cases_lt k (4096 * page)) [
        | inl e ↦ before k a (omega (arith, b, less)) e f
        | inr g ↦ h.3 k a b (g, (let up : k < 4096 * page + 4096 = omega (arith, b, on) in up), f)
      ]),
    )

-- nothing is found behind the last page
pub none-left : (s : Search) (page end from to : ℕ) → s.theme ≡ theme.Zugzwang → end ≤ page
    → ((k : ℕ) → k < to → k < 2 * side_step s.class → k < 4096 * end)
    → ((k : ℕ) → from ≤ k → k < to → k < 4096 * page → ¬ (IsFound s k)) → HoldsOfNone (IsFound s) from to
none-left s page end from to is past all before k a b f =
    let l = all k b (found-below s is k f) in
    before k a b (omega (arith, l, past)) f
