-- The positions before those of a row, if the numbers after a man has moved are a row.
use Rattle.std.proofs.Common.{◌≡◌, ◌==◌, ℕ, ◌<◌, ◌+◌, ◌*◌, ◌&&◌, ◌||◌, ◌++◌, ◌∷◌, [], arith, Bool, true, false, not, List, Contains, Some, inl, inr}
use Rattle.std.proofs.Common.{refl, sym, ◌∙◌, subst}
use Rattle.std.specs.List.Sorted.{IsPermutation}
use Rattle.std.proofs.lemmas.List.Elements.{Contains-append_left, Contains-push}
use Rattle.study_board.specs.declared.men.Man.{Man}
use Rattle.study_board.specs.declared.men.Side.{Side}
use Rattle.study_board.specs.Men.{other_side, same_side, is_pawn}
use Rattle.study_board.specs.Geometry.{on_bishop_line, rank_of, file_of, ranks_apart, strictly_between}
use Rattle.study_index.proofs.Symmetries.{all_below, at_below}
use Rattle.study_board.specs.Position.{Position, is_empty}
use Rattle.study_board.specs.declared.men.Side.TheVariants.{White, Black}
use Rattle.study_board.specs.Sets.{has}
use Rattle.std.proofs.lemmas.Bool.{false≢true, and_parts, or_cases, eqb-true, eq-eqb}
use Rattle.study_moves.specs.Unmoves.{CanHaveLed, is_unmove_origin, comes, first_rank, move_from, pawn_comes}
use Rattle.study_moves.specs.Rules.{half_way, is_ahead}
use Rattle.study_material.specs.declared.class.Class.{Class}
use Rattle.study_moves.specs.Rules.{after}
use Rattle.study_values.specs.Number.{cells_of}
use Rattle.study_index.specs.Computed.{position_numbered}
use Rattle.study_values.specs.Index.{index_of}
use Rattle.study_index.specs.Moved.{IsMoved}
use Rattle.study_index.proofs.ComputedIndex.{decoded_of_numbered}
use Rattle.study_index.proofs.DecodedNumbers.{encoded_by}
use Rattle.study_retro.specs.Predecessors.{AreEncoded, IsBeforeFrom, PassesNone}
use Rattle.study_retro.specs.RowBack.{ComesWithoutEnPassant, IsItOrTwin, double_step_rank}
use Rattle.study_retro.specs.RowMoves.{AreOnDistinctSquares}
use Rattle.study_retro.specs.Still.{on_square}
use Rattle.study_retro.proofs.BackLemmas.{before_below, is_before, twin_before, small_before, came_led, led_came}
use Rattle.study_retro.proofs.MovedSteps.{lands_left}
use Rattle.study_retro.proofs.QuietSteps.{dead_plain}
use Rattle.study_retro.proofs.RowMoveLemmas.{AreApart-position, came_less}

module _ (c : Class) (number : ℕ) (q : Position) (at : position_numbered c number ≡ Some q) (plain : number < 16777216) (man : Man) (a k : ℕ)
    (passes : PassesNone c a man.at) (fits : (p : Position) → IsMoved c number man.at a p → index_of p ≡ k) (h : CanHaveLed q (move_from man a)) where
  lands : index_of (after h.from (move_from man a)) ≡ number
  lands = lands_left c number q at (dead_plain c number q at plain) h.from (move_from man a) h.leads (inl passes)

  -- if the move leaves no capture in passing the number that fits is before, and so is its twin; and no other is
  pub fit_before : (n : ℕ) → IsItOrTwin c k n → IsBeforeFrom c number man a n
  fit_before n (inl e) = subst (λ (m : ℕ). IsBeforeFrom c number man a m) (sym e) (is_before c number q at man a k fits h lands)
  fit_before n (inr s) =
      subst (λ (m : ℕ). IsBeforeFrom c number man a m) (sym s.0)
      (twin_before c number q at man a k fits h lands s.1.0 (subst (λ (m : ℕ). position_numbered c m ≡ Some s.1.0) s.0 s.1.1))

  pub fit_below : (k < cells_of c) × (k < 16777216)
  fit_below = (before_below c number man a k (fit_before k (inl refl)), small_before c number q at man a k fits h)

-- ---- the men of a row

module _ (c : Class) (number y : ℕ) (q : Position) (at : position_numbered c number ≡ Some q) (others : List Man) (last : Man) (side : Side)
    (encodes : AreEncoded c number (others ++ on_square last y ∷ []) side) where
  abbrev pub row_men : List Man
  row_men = others ++ on_square last y ∷ []

  -- no two of them share a square
  pub row_apart : AreOnDistinctSquares row_men
  row_apart =
      let d = decoded_of_numbered c number q at in
      AreApart-position q row_men d.valid (subst (λ (zs : List Man). IsPermutation zs q.men) (sym encodes.0) (encoded_by c number q d).same_men)

  -- the last man can have led to the position from its possible origins
  pub last_led : same_side last.side (other_side side) ≡ true → (a : ℕ) → a < 64 → is_unmove_origin row_men side (on_square last y) a ≡ true
      → CanHaveLed q (move_from (on_square last y) a)
  last_led his a on e = came_led c number q at row_men side encodes (on_square last y) (Contains-push others (on_square last y)) his a on e

  -- and only from those
  pub last_came : (a n : ℕ) → a < 64 → IsBeforeFrom c number (on_square last y) a n → (same_side last.side (other_side side) ≡ true)
      × (is_unmove_origin row_men side (on_square last y) a ≡ true)
  last_came a n on b = led_came c number q at row_men side encodes (on_square last y) (Contains-push others (on_square last y)) a n on b

  module _ (man : Man) (among : Contains others man) where
    -- one of the other men can have led to the position from its possible origins with the last man on y
    pub row_led : same_side man.side (other_side side) ≡ true → (a : ℕ) → a < 64 → (led : ℕ)
        → (AreOnDistinctSquares row_men → has led y ≡ is_unmove_origin row_men side man a)
        → has led y ≡ true → CanHaveLed q (move_from man a)
    row_led his a on led word e =
        came_led c number q at row_men side encodes man (Contains-append_left others (on_square last y ∷ []) man among) his a on (sym (word row_apart) ∙ e)

    -- and only from those
    pub row_came : (a n : ℕ) → a < 64 → IsBeforeFrom c number man a n → (same_side man.side (other_side side) ≡ true)
        × (is_unmove_origin row_men side man a ≡ true) × (comes others man a ≡ true)
    row_came a n on b =
        let h = led_came c number q at row_men side encodes man (Contains-append_left others (on_square last y ∷ []) man among) a n on b in
        (h.0, h.1, came_less others last y side man a h.1)

-- ---- the targets of double steps

same_bool : Bool → Bool → Bool
same_bool true b = b
same_bool false b = not b

abbrev pub on_rank_line : ℕ → ℕ → Bool
on_rank_line a y = (a == y || strictly_between a y (a + 7)) || (a + 7 == y)

rank_test : (s : Side) → all_below 64 (λ y. same_bool (on_rank_line (8 * double_step_rank s) y) (rank_of y == double_step_rank s)) ≡ true
unfolding same_bool strictly_between on_bishop_line
rank_test White = refl
rank_test Black = refl

pub on_double_step_rank : (s : Side) (y : ℕ) → y < 64 → on_rank_line (8 * double_step_rank s) y ≡ (rank_of y == double_step_rank s)
unfolding same_bool
on_double_step_rank s y l =
    by_test _ _ (at_below 64 (λ y. same_bool (on_rank_line (8 * double_step_rank s) y) (rank_of y == double_step_rank s)) (rank_test s) y l)
  where
    by_test : (b c : Bool) → same_bool b c ≡ true → b ≡ c
    by_test true c e = sym e
    by_test false true e = absurd (false≢true e)
    by_test false false e = refl

-- a pawn that came to any other square came by a step
no_double : (side : Side) (men : List Man) (y a : ℕ) → (rank_of y == double_step_rank side) ≡ false → pawn_comes men side y a ≡ true
    → (ranks_apart a y == 2) ≡ false
unfolding pawn_comes
no_double White men y a off e =
    let first = not (rank_of a == first_rank White) in
    let step = is_ahead White 1 a y && first in
    let double = (rank_of a == 1) && is_ahead White 2 a y && is_empty men (half_way a y) in
    elim (or_cases step double (and_parts (step || double) (is_empty men a) e).0) [
      | inl one ↦
          let s = eqb-true (rank_of y) (rank_of a + 1)
          (and_parts (file_of y == file_of a) (rank_of y == rank_of a + 1) (and_parts (is_ahead White 1 a y) first one).0).1 in
          let d : ranks_apart a y ≡ 1 = omega (arith, s) in
          rw d refl
      | inr two ↦
          let h = and_parts (rank_of a == 1) (is_ahead White 2 a y) (and_parts _ (is_empty men (half_way a y)) two).0 in
          let s = eqb-true (rank_of y) (rank_of a + 2) (and_parts (file_of y == file_of a) (rank_of y == rank_of a + 2) h.1).1 in
          let t = eqb-true (rank_of a) 1 h.0 in
          let r : rank_of y ≡ 3 = omega (arith, s, t) in
          absurd (false≢true (sym off ∙ eq-eqb _ _ r))
    ]
no_double Black men y a off e =
    let first = not (rank_of a == first_rank Black) in
    let step = is_ahead Black 1 a y && first in
    let double = (rank_of a == 6) && is_ahead Black 2 a y && is_empty men (half_way a y) in
    elim (or_cases step double (and_parts (step || double) (is_empty men a) e).0) [
      | inl one ↦
          let s = eqb-true (rank_of y + 1) (rank_of a)
          (and_parts (file_of y == file_of a) (rank_of y + 1 == rank_of a) (and_parts (is_ahead Black 1 a y) first one).0).1 in
          let d : ranks_apart a y ≡ 1 = omega (arith, s) in
          rw d refl
      | inr two ↦
          let h = and_parts (rank_of a == 6) (is_ahead Black 2 a y) (and_parts _ (is_empty men (half_way a y)) two).0 in
          let s = eqb-true (rank_of y + 2) (rank_of a) (and_parts (file_of y == file_of a) (rank_of y + 2 == rank_of a) h.1).1 in
          let t = eqb-true (rank_of a) 6 h.0 in
          let r : rank_of y ≡ 4 = omega (arith, s, t) in
          absurd (false≢true (sym off ∙ eq-eqb _ _ r))
    ]

pub pawn_plainly : (c : Class) (last : Man) (y : ℕ) → is_pawn last ≡ true → (rank_of y == double_step_rank last.side) ≡ false → ComesWithoutEnPassant c last y
unfolding comes
pawn_plainly c last y pawn off men a e =
    let e' : pawn_comes men last.side y a ≡ true = rw pawn at e in
    inr (no_double last.side men y a off e')

-- if the last man comes plainly, its last move has left no capture in passing
pub came_plainly : (c : Class) (last : Man) (y : ℕ) → ComesWithoutEnPassant c last y → (others : List Man) (side : Side) (a : ℕ)
    → is_unmove_origin (others ++ on_square last y ∷ []) side (on_square last y) a ≡ true → PassesNone c a y
came_plainly c last y plainly others side a e = plainly (others ++ on_square last y ∷ []) a (and_parts _ _ e).0
