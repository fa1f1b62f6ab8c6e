-- The quiet moves from the numbers of a row.
use Rattle.std.proofs.Common.{◌≡◌, ℕ, ◌+◌, ◌*◌, ◌<◌, ◌≤◌, ◌==◌, Bool, true, false, not, ◌&&◌, ◌||◌, ◌++◌, ◌∷◌}
use Rattle.std.proofs.Common.{[], List, slice_index, Option, Contains, Some, ◌⊎◌, inl, inr}
use Rattle.std.proofs.Common.{refl, sym, ◌∙◌, ap, subst}
use Rattle.std.proofs.lemmas.Bool.{and_parts, false≢true, not-true}
use Rattle.std.proofs.lemmas.List.Elements.{Contains-append_left, Contains-push, Contains-push_cases}
use Rattle.study_board.specs.declared.men.Man.{Man}
use Rattle.study_board.specs.declared.men.Side.{Side}
use Rattle.study_board.specs.declared.men.Side.TheVariants.{White, Black}
use Rattle.study_board.specs.Geometry.{on_bishop_line, rank_of, strictly_between}
use Rattle.study_board.specs.Men.{same_side}
use Rattle.study_board.specs.Position.{Position, is_occupied}
use Rattle.study_board.specs.Sets.{has}
use Rattle.study_moves.specs.Rules.{is_legal, last_rank, reaches_last_rank}
use Rattle.study_moves.specs.Unmoves.{IsQuiet}
use Rattle.study_moves.specs.AnyOrder.{is_safe_target}
use Rattle.study_material.specs.declared.class.Class.{Class}
use Rattle.study_values.specs.Number.{cells_of, without_bit}
use Rattle.study_index.specs.Decoded.{slots_of, decoded_men, decoded_side}
use Rattle.study_index.specs.Computed.{position_numbered}
use Rattle.study_values.specs.Index.{index_of}
use Rattle.study_index.specs.Moved.{IsMoved}
use Rattle.study_index.proofs.Symmetries.{all_below, at_below}
use Rattle.study_table.specs.Table.{Table}
use Rattle.study_values.specs.Cells.{value_of}
use Rattle.study_values.specs.declared.value.Value.TheVariants.{Win}
use Rattle.study_retro.specs.ClassGame.{class_game}
use Rattle.study_levels.specs.Numbered.{IsNumberedClass, NoLossBy, Numbered}
use Rattle.study_retro.specs.Predecessors.{AreEncoded, PassesNone}
use Rattle.study_retro.specs.RowEscapes.{CanGo, goes_beside}
use Rattle.study_retro.specs.RowMoves.{AreOnDistinctSquares, goes_quietly}
use Rattle.study_retro.specs.Still.{HasMove, IsWonAfter, QuietMovesLose, QuietMovesLoseBy, move_to, on_square}
use Rattle.study_retro.proofs.BackLemmas.{lose_each, occupied_same, safe_below, safe_by, safe_escape, safe_plain, safe_won, some_legal}
use Rattle.study_retro.proofs.RowBackLemmas.{row_apart}
use Rattle.study_retro.proofs.RowMoveLemmas.{going_less}

-- ---- a quiet move of a man from a number, and the number that fits

module _ (c : Class) (number : ℕ) (q : Position) (at : position_numbered c number ≡ Some q) (plain : number < 16777216) (man : Man) (x : ℕ) (on : x < 64)
    (go : CanGo c number man x) where
  abbrev the_men : List Man
  the_men = decoded_men (slots_of c) (without_bit number)

  abbrev the_side : Side
  the_side = decoded_side (slots_of c) (without_bit number)

  pub go_some : HasMove q
  go_some = some_legal c number q at plain the_men the_side (refl, refl) man go.among go.own x on go.safe

  module _ (passes : PassesNone c man.at x) (stays : reaches_last_rank man x ≡ false) (held : List (Option Table))
      (laws : IsNumberedClass (class_game c held)) (cells : List ℕ) (k : ℕ) (fits : (p : Position) → IsMoved c number man.at x p → index_of p ≡ k) where
    pub go_below : k < cells_of c
    go_below = safe_below c number q at plain the_men the_side (refl, refl) man go.among go.own x on go.safe go.free stays held laws cells k fits
        (inl passes)

    pub go_escape : (level : ℕ) → (((m : ℕ) × (value_of (slice_index cells k) ≡ Win m) × (m ≤ level)) → ⊥) → NoLossBy (class_game c held) cells level number
    go_escape = safe_escape c number q at plain the_men the_side (refl, refl) man go.among go.own x on go.safe go.free stays held laws cells k fits
        (inl passes)

    pub go_won : (level : ℕ) → ((m : ℕ) × (value_of (slice_index cells k) ≡ Win m) × (m ≤ level))
        → (p : Position) → position_numbered c number ≡ Some p → IsWonAfter (class_game c held) cells level p (move_to man x)
    go_won = safe_won c number q at plain the_men the_side (refl, refl) man go.among go.own x on go.safe go.free stays held laws cells k fits
        (inl passes)

-- ---- of the squares that may lose, those from which the man goes stay exactly if it loses

module _ (losing going lost less new : ℕ) (less-is : (x : ℕ) → x < 64 → has less x ≡ (has losing x && not (has going x)))
    (new-is : (x : ℕ) → has new x ≡ (has less x || has lost x)) where
  pub thin-cases : (y : ℕ) → y < 64 → has new y ≡ true → (has lost y ≡ true) ⊎ (has losing y ≡ true) × (has going y ≡ false)
  thin-cases y on e = by_lost (has losing y) (has going y) (has lost y) (sym (ap (λ (b : Bool). b || has lost y) (less-is y on)) ∙ (sym (new-is y) ∙ e))
    where
      by_lost : (a b k : Bool) → ((a && not b) || k) ≡ true → (k ≡ true) ⊎ (a ≡ true) × (b ≡ false)
      by_lost a b true e = inl refl
      by_lost true false false e = inr (refl, refl)
      by_lost true true false e = absurd (false≢true e)
      by_lost false b false e = absurd (false≢true e)

  pub thin-gone : (y : ℕ) → y < 64 → has losing y ≡ true → has new y ≡ false → (has going y ≡ true) × (has lost y ≡ false)
  thin-gone y on t e =
      by_lost (has losing y) (has going y) (has lost y) t (sym (ap (λ (b : Bool). b || has lost y) (less-is y on)) ∙ (sym (new-is y) ∙ e))
    where
      by_lost : (a b k : Bool) → a ≡ true → ((a && not b) || k) ≡ false → (b ≡ true) × (k ≡ false)
      by_lost true true false t e = (refl, refl)
      by_lost true true true t e = absurd (false≢true (sym e))
      by_lost true false k t e = absurd (false≢true (sym e))
      by_lost false b k t e = absurd (false≢true t)

-- ---- the men of a row

module _ (c : Class) (number y : ℕ) (q : Position) (at : position_numbered c number ≡ Some q) (plain : number < 16777216) (others : List Man) (last : Man)
    (side : Side) (encodes : AreEncoded c number (others ++ on_square last y ∷ []) side) where
  -- if the quiet moves of the other men lose, and those of the last, all do
  pub row_lose : (g : Numbered Position) (cells : List ℕ) (k : ℕ) → ((m : Man) → Contains others m → QuietMovesLoseBy g cells k q m)
      → QuietMovesLoseBy g cells k q (on_square last y) → QuietMovesLose g cells k q
  row_lose g cells k each final =
      lose_each c number q at plain (others ++ on_square last y ∷ []) side encodes g cells k
      (λ m i. elim (Contains-push_cases others (on_square last y) m i) [
        | inl h ↦ each m h
        | inr e ↦ subst (λ (x : Man). QuietMovesLoseBy g cells k q x) e final
      ])

module _ (c : Class) (number y : ℕ) (q : Position) (at : position_numbered c number ≡ Some q) (plain : number < 16777216) (others : List Man) (last : Man)
    (side : Side) (encodes : AreEncoded c number (others ++ on_square last y ∷ []) side) (man : Man) (among : Contains others man) where
  abbrev men : List Man
  men = others ++ on_square last y ∷ []

  -- one of the other men goes to its safe targets with the last man on y
  pub row_can : same_side man.side side ≡ true → (x set : ℕ)
      → (AreOnDistinctSquares men → has set y ≡ (is_safe_target men side man x && not (is_occupied men x))) → has set y ≡ true → CanGo c number man x
  row_can his x set word e =
      let both = and_parts (is_safe_target men side man x) (not (is_occupied men x)) (sym (word (row_apart c number y q at others last side encodes)) ∙ e) in
      record {
        among = subst (λ (ms : List Man). Contains ms man) encodes.0 (Contains-append_left others (on_square last y ∷ []) man among);
        own = ap (λ (s : Side). same_side man.side s) (sym encodes.1) ∙ his;
        safe = ap (λ (s : Side). is_safe_target (decoded_men (slots_of c) (without_bit number)) s man x) (sym encodes.1)
            ∙ (ap (λ (ms : List Man). is_safe_target ms side man x) (sym encodes.0) ∙ both.0);
        free = ap (λ (ms : List Man). is_occupied ms x) (sym encodes.0) ∙ negated (is_occupied men x) both.1;
      }
    where
      negated : (b : Bool) → not b ≡ true → b ≡ false
      negated false e = refl
      negated true e = absurd (false≢true e)

  -- and the targets of its quiet moves are safe
  module _ (x : ℕ) (legal : is_legal q (move_to man x) ≡ true) (quiet : IsQuiet q (move_to man x)) where
    pub row_goes : (x < 64) × (same_side man.side side ≡ true) × (goes_quietly others man x ≡ true)
        × ((set : ℕ) → (AreOnDistinctSquares men → has set y ≡ (is_safe_target men side man x && not (is_occupied men x))) → has set y ≡ true)
    row_goes =
        let s = safe_by c number q at plain men side encodes (move_to man x) legal man (Contains-append_left others (on_square last y ∷ []) man among) refl in
        let free = occupied_same c number q at plain men side encodes x ∙ quiet.0 in (
          s.0,
          s.1,
          going_less others last y side man x s.2 free,
          λ set word. word (row_apart c number y q at others last side encodes) ∙ rw (s.2, free) refl,
        )

    -- and it does not promote
    pub row_stays : reaches_last_rank man x ≡ false
    row_stays =
        safe_plain c number q at plain men side encodes (move_to man x) legal man (Contains-append_left others (on_square last y ∷ []) man among) refl refl

module _ (c : Class) (number y : ℕ) (q : Position) (at : position_numbered c number ≡ Some q) (plain : number < 16777216) (others : List Man) (last : Man)
    (side : Side) (encodes : AreEncoded c number (others ++ on_square last y ∷ []) side) where
  abbrev all_men : List Man
  all_men = others ++ on_square last y ∷ []

  -- the last man goes to its safe targets
  pub last_can : same_side last.side side ≡ true → (x : ℕ) → goes_beside others last side y x ≡ true → CanGo c number (on_square last y) x
  last_can his x e =
      let both = and_parts (is_safe_target all_men side (on_square last y) x) (not (is_occupied all_men x)) e in
      record {
        among = subst (λ (ms : List Man). Contains ms (on_square last y)) encodes.0 (Contains-push others (on_square last y));
        own = ap (λ (s : Side). same_side last.side s) (sym encodes.1) ∙ his;
        safe = ap (λ (s : Side). is_safe_target (decoded_men (slots_of c) (without_bit number)) s (on_square last y) x) (sym encodes.1)
            ∙ (ap (λ (ms : List Man). is_safe_target ms side (on_square last y) x) (sym encodes.0) ∙ both.0);
        free = ap (λ (ms : List Man). is_occupied ms x) (sym encodes.0) ∙ not-true (is_occupied all_men x) both.1;
      }

  -- and its quiet moves go there, and do not promote
  pub last_goes : (x : ℕ) → is_legal q (move_to (on_square last y) x) ≡ true → IsQuiet q (move_to (on_square last y) x)
      → (x < 64) × (same_side last.side side ≡ true) × (goes_beside others last side y x ≡ true) × (reaches_last_rank last x ≡ false)
  last_goes x legal quiet =
      let s = safe_by c number q at plain all_men side encodes (move_to (on_square last y) x) legal (on_square last y)
      (Contains-push others (on_square last y)) refl in
      let free = occupied_same c number q at plain all_men side encodes x ∙ quiet.0 in (
        s.0,
        s.1,
        rw (s.2, free) refl,
        safe_plain c number q at plain all_men side encodes (move_to (on_square last y) x) legal (on_square last y)
            (Contains-push others (on_square last y)) refl refl,
      )

-- ---- the last rank of a side

same_bool : Bool → Bool → Bool
same_bool true b = b
same_bool false b = not b

abbrev pub on_rank_line : ℕ → ℕ → Bool
on_rank_line a y = (a == y || strictly_between a y (a + 7)) || (a + 7 == y)

rank_test : (s : Side) → all_below 64 (λ y. same_bool (on_rank_line (8 * last_rank s) y) (rank_of y == last_rank s)) ≡ true
unfolding same_bool strictly_between on_bishop_line
rank_test White = refl
rank_test Black = refl

pub on_last_rank : (s : Side) (y : ℕ) → y < 64 → on_rank_line (8 * last_rank s) y ≡ (rank_of y == last_rank s)
unfolding same_bool
on_last_rank s y l = by_test _ _ (at_below 64 (λ y. same_bool (on_rank_line (8 * last_rank s) y) (rank_of y == last_rank s)) (rank_test s) y l)
  where
    by_test : (b c : Bool) → same_bool b c ≡ true → b ≡ c
    by_test true c e = sym e
    by_test false true e = absurd (false≢true e)
    by_test false false e = refl
