-- A legal move of a valid position leads to a valid position.
use Rattle.std.proofs.Common.{◌≡◌, ℕ, ◌+◌, ◌-◌, ◌*◌, ◌<◌, ◌≤◌, ◌==◌, nat_lt, Bool, true}
use Rattle.std.proofs.Common.{false, not, cond, ◌&&◌, ◌||◌, ◌⊎◌, inl, inr, List, ◌∷◌, length}
use Rattle.std.proofs.Common.{Option, Some, None, refl, sym, ap, ◌∙◌, arith, subst}
use Rattle.std.specs.List.{All, filter, list_any, count_by}
use Rattle.std.specs.List.Sorted.{IsPermutation}
use Rattle.std.proofs.lemmas.Bool.{false≢true, and_parts, and_from, and_left, and_right, or_cases}
use Rattle.std.proofs.lemmas.Bool.{cases_Bool, eqb-true, eq-eqb, ne_eqb, not-true, not_from_false}
use Rattle.std.proofs.lemmas.Bool.{not_from_true, false_from_ne_true, le-ltb}
use borrow.Author.Tests.{ltb-false}
use Rattle.std.proofs.lemmas.List.Elements.{All-filter}
use Rattle.study_board.specs.declared.men.Man.{Man}
use Rattle.study_board.specs.declared.men.Side.{Side}
use Rattle.study_board.specs.declared.men.Side.TheVariants.{White, Black}
use Rattle.study_board.specs.declared.men.Kind.TheVariants.{King, Pawn}
use Rattle.study_board.specs.Geometry.{file_of, rank_of, ranks_apart}
use Rattle.study_board.specs.Men.{same_side, other_side, same_kind, is_man, is_attacked, attacks_square, is_pawn}
use Rattle.study_board.specs.Position.{Position, IsValid, IsAscending, man_at, is_occupied}
use Rattle.study_board.specs.Position.{is_empty, has_man, has_square_twice, has_one_king, is_end_pawn, has_end_pawn}
use Rattle.study_board.specs.Position.{in_check, could_be_passed, passed_possible}
use Rattle.study_board.specs.EqualLaws.{sides_equal}
use Rattle.study_board.proofs.Lists.{count_by-cons}
use Rattle.study_board.proofs.Ascending.{IsAscending-filter, IsAscending-insert_man}
use Rattle.study_board.proofs.MenInOrder.{All-insert_man, IsPermutation-insert_man}
use Rattle.study_board.proofs.Faults.{has_one_king_same, has_end_pawn_same, passed_possible_same}
use Rattle.study_board.specs.Sound.{IsSound}
use Rattle.study_board.proofs.SoundMen.{IsSound-from_IsValid, IsValid-from_IsSound}
use Rattle.study_board.proofs.Valid.{IsFaultless-from_first}
use Rattle.std.proofs.lemmas.List.Sorted.{length_permutation}
use Rattle.study_moves.specs.declared.moves.Move.{Move}
use Rattle.study_moves.specs.Rules.{is_legal, is_legal_for, is_pseudo_legal, has_side, is_square, men_after}
use Rattle.study_moves.specs.Rules.{survives, moved_man, passed_by, after_by, after, is_en_passant}
use Rattle.study_moves.specs.Rules.{half_way, is_promotion_choice, reaches_last_rank, last_rank}
use Rattle.study_moves.proofs.MenFound.{fewer_stay}
use Rattle.study_moves.proofs.NoMoveBetween.{IsMoveOf, HasMover-from_is_legal}
use Rattle.study_moves.proofs.MenOfList.{IsAmong, list_any-from, list_any-none, none_among, some_among}
use Rattle.study_moves.proofs.MenOfList.{IsAmong-filter, count_by-filter-kept, count_by-filter-less}
use Rattle.study_moves.proofs.MenOfList.{same_square, found_among, All-among, has_square_twice-ascending}
use Rattle.study_moves.proofs.HowMenGo.{IsAheadBy, IsDoubleStep, pawn_ways, bears_or_empty, pawn_no_king, promoted-king, still_pawn, pawn_stays}

pub other_twice : (s : Side) → other_side (other_side s) ≡ s
other_twice White = refl
other_twice Black = refl

not_own : (s : Side) → same_side s (other_side s) ≡ false
not_own White = refl
not_own Black = refl

pub other_not_own : (s : Side) → same_side (other_side s) s ≡ false
other_not_own White = refl
other_not_own Black = refl

not_first_rank : (s : Side) (n a x : ℕ) → 1 ≤ n → IsAheadBy s n a x → (rank_of x == last_rank s) ≡ false → rank_of x ≡ 0 → ⊥
not_first_rank White n a x low h l e = absurd (omega arith)
not_first_rank Black n a x low h l e = false≢true (sym l ∙ eq-eqb _ _ e)

not_eighth_rank : (s : Side) (n a x : ℕ) → 1 ≤ n → a < 64 → IsAheadBy s n a x → (rank_of x == last_rank s) ≡ false → rank_of x ≡ 7 → ⊥
not_eighth_rank White n a x low on h l e = false≢true (sym l ∙ eq-eqb _ _ e)
not_eighth_rank Black n a x low on h l e = absurd (omega arith)

side_cases : (s t : Side) → (t ≡ s) ⊎ (t ≡ other_side s)
side_cases White White = inl refl
side_cases White Black = inr refl
side_cases Black White = inr refl
side_cases Black Black = inl refl

-- the square of the pawn that is taken in passing
passed_pawn : (men : List Man) (s : Side) (a x : ℕ) → could_be_passed men s x ≡ true → IsAheadBy s 1 a x
    → has_man men (other_side s) Pawn (8 * rank_of a + file_of x) ≡ true
unfolding could_be_passed
passed_pawn men White a x e h =
    let l = and_parts _ (has_man men Black Pawn (x - 8)) e in
    let same : 8 * rank_of a + file_of x ≡ x - 8 = omega arith in
    rw same l.1
passed_pawn men Black a x e h =
    let l = and_parts _ (has_man men White Pawn (x + 8)) e in
    let same : 8 * rank_of a + file_of x ≡ x + 8 = omega arith in
    rw same l.1

passed_square : (men : List Man) (s : Side) (q : Option ℕ) (x : ℕ) → passed_possible men s q ≡ true → is_square q x ≡ true → could_be_passed men s x ≡ true
passed_square men s None x e h = absurd (false≢true h)
passed_square men s (Some y) x e h = let same = eqb-true y x h in rw (← same) e

second_false : (x y : Bool) → x ≡ true → (x && y) ≡ false → y ≡ false
second_false true y t e = e
second_false false y t e = absurd (false≢true t)

king_safe : (men : List Man) (s : Side) (k : Man) → in_check men s ≡ false → IsAmong k men → is_man s King k ≡ true
    → is_attacked men (other_side s) k.at ≡ false
unfolding in_check
king_safe men s k e i t = second_false _ _ t (none_among (λ k. is_man s King k && is_attacked men (other_side s) k.at) men k e i)

not_bearing : (men : List Man) (s : Side) (x : ℕ) (man : Man) → is_attacked men s x ≡ false → IsAmong man men
    → same_side man.side s ≡ true → attacks_square men man x ≡ false
unfolding is_attacked
not_bearing men s x man e i t = second_false _ _ t (none_among (λ m. same_side m.side s && attacks_square men m x) men man e i)

empty_there : (men : List Man) (x : ℕ) (k : Man) → is_empty men x ≡ true → IsAmong k men → k.at ≡ x → ⊥
unfolding is_occupied
empty_there men x k e i t =
    let free = none_among (λ m. m.at == x) men k (not-true (is_occupied men x) e) i in
    false≢true (sym free ∙ eq-eqb k.at x t)

-- the board after a double step lets the pawn be captured in passing
could_pass : (men before : List Man) (s : Side) (a x : ℕ) → IsDoubleStep before s a x
    → is_empty men (half_way a x) ≡ true → is_empty men a ≡ true → has_man men s Pawn x ≡ true
    → could_be_passed men (other_side s) (half_way a x) ≡ true
unfolding could_be_passed
could_pass men before White a x d over e t =
    let start = d.start in
    let ahead = d.ahead in
    let file = d.file in
    let below : half_way a x - 8 ≡ a = omega arith in
    let above : half_way a x + 8 ≡ x = omega arith in
    let rank : rank_of (half_way a x) ≡ 2 = omega arith in
    and_from _ _ (and_from _ _ (and_from _ _ (eq-eqb _ _ rank) over) (rw below e)) (rw above t)
could_pass men before Black a x d over e t =
    let start = d.start in
    let ahead = d.ahead in
    let file = d.file in
    let above : half_way a x + 8 ≡ a = omega arith in
    let below : half_way a x - 8 ≡ x = omega arith in
    let rank : rank_of (half_way a x) ≡ 5 = omega arith in
    and_from _ _ (and_from _ _ (and_from _ _ (eq-eqb _ _ rank) over) (rw above e)) (rw below t)

one_apart : (s : Side) (a x : ℕ) → IsAheadBy s 1 a x → ranks_apart a x ≡ 2 → ⊥
one_apart White a x h e = absurd (omega arith)
one_apart Black a x h e = absurd (omega arith)

-- the target of a double step
pub record IsApart (s : Side) (a x : ℕ) : Type 0 where
  pub over : x ≡ half_way a x → ⊥
  pub start : x ≡ a → ⊥
  pub inside : (rank_of x == last_rank s) ≡ false

double_apart : (men : List Man) (s : Side) (a x : ℕ) → IsDoubleStep men s a x → IsApart s a x
double_apart men White a x d =
    let start = d.start in
    let ahead = d.ahead in
    let file = d.file in
    record { over = λ e. absurd (omega arith); start = λ e. absurd (omega arith); inside = ne_eqb _ _ (λ e. absurd (omega arith)) }
double_apart men Black a x d =
    let start = d.start in
    let ahead = d.ahead in
    let file = d.file in
    record { over = λ e. absurd (omega arith); start = λ e. absurd (omega arith); inside = ne_eqb _ _ (λ e. absurd (omega arith)) }

is_occupied-from_any : (men : List Man) (x : ℕ) → list_any (λ y. y.at == x) men ≡ true → is_occupied men x ≡ true
unfolding is_occupied
is_occupied-from_any men x e = e

-- a move of a man of the mover, in a position without a fault
pub record IsMoveFrom (p : Position) (man : Man) (m : Move) : Type 0 where
  pub valid : IsSound p
  pub among : IsAmong man p.men
  pub moves : IsMoveOf p man m
  pub free : has_side p.men p.to_move m.target ≡ false
  pub safe : in_check (men_after p man m) p.to_move ≡ false

module _ (p : Position) (man : Man) (m : Move) (h : IsMoveFrom p man m) where
  abbrev pub those : List Man
  those = filter (survives p.passed man m.target) p.men

  abbrev pub all_after : List Man
  all_after = moved_man man m ∷ those

  faultless : IsSound p
  faultless = h.valid

  mine : man.side ≡ p.to_move
  mine = sides_equal man.side p.to_move h.moves.mine

  pub permuted : IsPermutation all_after (men_after p man m)
  unfolding men_after
  permuted = IsPermutation-insert_man (moved_man man m) those

  -- no king is captured
  pub king_not_taken : (k : Man) → IsAmong k p.men → is_man (other_side p.to_move) King k ≡ true → k.at ≡ m.target → ⊥
  king_not_taken k i e t =
      let safe = king_safe p.men (other_side p.to_move) k faultless.safe i e in
      let unattacked : is_attacked p.men p.to_move m.target ≡ false = rw (other_twice p.to_move, t) at safe in
      elim (bears_or_empty p.men p.passed man m.target h.moves.going) [
        | inl b ↦ false≢true (sym (not_bearing p.men p.to_move m.target man unattacked h.among h.moves.mine) ∙ b)
        | inr empty ↦ empty_there p.men m.target k empty i t
      ]

  pub en_passant_pawn : is_en_passant p.passed man m.target ≡ true → has_man p.men (other_side p.to_move) Pawn (8 * rank_of man.at + file_of m.target) ≡ true
  unfolding is_en_passant
  en_passant_pawn e =
      let a = and_parts (is_pawn man && not (file_of man.at == file_of m.target)) (is_square p.passed m.target) e in
      let b = and_parts (is_pawn man) (not (file_of man.at == file_of m.target)) a.0 in
      let could = passed_square p.men p.to_move p.passed m.target faultless.possible a.1 in
      let aside : file_of m.target ≡ file_of man.at → ⊥ = λ f. false≢true (sym (not_from_true _ (eq-eqb _ _ (sym f))) ∙ b.1) in
      let ahead : IsAheadBy man.side 1 man.at m.target = elim (pawn_ways p.men p.passed man m.target b.0 h.moves.going) [
        | inl s ↦ absurd (aside s.file)
        | inr r ↦ elim r [
          | inl d ↦ absurd (aside d.file)
          | inr c ↦ c.ahead
        ]
      ] in
      let S : Side → Type 0 = λ s. IsAheadBy s 1 man.at m.target in
      passed_pawn p.men p.to_move man.at m.target could (subst S mine ahead)

  -- a king that does not move stays
  pub king_stays : (k : Man) → IsAmong k p.men → same_kind k.kind King ≡ true → (k.at ≡ man.at → ⊥)
      → (k.at ≡ m.target → ⊥) → survives p.passed man m.target k ≡ true
  unfolding survives has_man
  king_stays k i e a t =
      let square = 8 * rank_of man.at + file_of m.target in
      let no_king : (n : Man) → IsAmong n p.men → (is_man (other_side p.to_move) Pawn n && (n.at == square)) ≡ true → k.at ≡ square → ⊥ =
      λ n j u c.
      let b = and_parts (is_man (other_side p.to_move) Pawn n) (n.at == square) u in
      let d = and_parts (same_side n.side (other_side p.to_move)) (same_kind n.kind Pawn) b.0 in
      let same = same_square p.men k n h.valid.ordered i j (c ∙ sym (eqb-true _ _ b.1)) in
      false≢true (sym (pawn_no_king n.kind d.1) ∙ sym (ap (λ z. same_kind z.kind King) same) ∙ e) in
      and_from (not (k.at == man.at) && not (k.at == m.target)) (not (is_en_passant p.passed man m.target && (k.at == square)))
      (and_from (not (k.at == man.at)) (not (k.at == m.target)) (not_from_false _ (ne_eqb _ _ a)) (not_from_false _ (ne_eqb _ _ t)))
      (not_from_false _ (false_from_ne_true _ (λ u.
      let b = and_parts (is_en_passant p.passed man m.target) (k.at == square) u in
      let found = some_among (λ n. is_man (other_side p.to_move) Pawn n && (n.at == square)) p.men (en_passant_pawn b.0) in
      no_king found.0 found.1 found.2 (eqb-true _ _ b.1))))

  -- each side keeps its only king
  one_king : (t : Side) → count_by (is_man t King) p.men ≡ 1
  unfolding has_one_king
  one_king t =
      let both = and_parts (has_one_king p.men White) (has_one_king p.men Black) faultless.kings in
      let each : (u : Side) → has_one_king p.men u ≡ true = λ u. elim u as (λ v. has_one_king p.men v ≡ true) [ White ↦ both.0 | Black ↦ both.1 ] in
      eqb-true _ _ (each t)

  others_king : has_one_king all_after (other_side p.to_move) ≡ true
  unfolding has_one_king
  others_king =
      let q : Man → Bool = is_man (other_side p.to_move) King in
      let kept = count_by-filter-kept q (survives p.passed man m.target) p.men (λ k i e.
      let b = and_parts (same_side k.side (other_side p.to_move)) (same_kind k.kind King) e in
      king_stays k i b.1
      (λ a.
      let same = same_square p.men k man h.valid.ordered i h.among a in
      let own : same_side k.side p.to_move ≡ true = ap (λ z. same_side z.side p.to_move) same ∙ h.moves.mine in
      let his : k.side ≡ other_side p.to_move = sides_equal k.side (other_side p.to_move) b.0 in
      false≢true (sym (other_not_own p.to_move) ∙ rw his at own))
      (king_not_taken k i e))
      in
      let whole = count_by-cons q (moved_man man m) those in
      let no : same_side man.side (other_side p.to_move) ≡ false = rw mine (not_own p.to_move) in
      let none : q (moved_man man m) ≡ false = and_left _ _ no in
      let one = one_king (other_side p.to_move) in
      let total : count_by q all_after ≡ 1 = whole ∙ rw none (omega arith) in
      eq-eqb _ _ total

  mover_leaves : survives p.passed man m.target man ≡ false
  unfolding survives
  mover_leaves = and_left _ _ (and_left _ _ (not_from_true _ (eq-eqb man.at man.at refl)))

  not_to_own : (k : Man) → IsAmong k p.men → same_side k.side p.to_move ≡ true → k.at ≡ m.target → ⊥
  unfolding has_side
  not_to_own k i e t =
      let none = none_among (λ k. same_side k.side p.to_move && (k.at == m.target)) p.men k h.free i in
      false≢true (sym none ∙ and_from _ _ e (eq-eqb _ _ t))

  own_king : has_one_king all_after p.to_move ≡ true
  unfolding has_one_king
  own_king =
      let q : Man → Bool = is_man p.to_move King in
      let one = one_king p.to_move in
      let whole = count_by-cons q (moved_man man m) those in
      let kind = promoted-king man m.target m.promoted h.moves.choice in
      let total : count_by q all_after ≡ 1 = elim (cases_Bool (same_kind man.kind King)) [
        | inl king ↦
            let yes : q (moved_man man m) ≡ true = and_from _ _ h.moves.mine (kind ∙ king) in
            let leaves : survives p.passed man m.target man ≡ false = mover_leaves in
            let less = count_by-filter-less q (survives p.passed man m.target) p.men man h.among (and_from _ _ h.moves.mine king) leaves in
            whole ∙ rw yes (omega arith)
        | inr other ↦
            let no : q (moved_man man m) ≡ false = and_right _ _ (kind ∙ other) in
            let kept = count_by-filter-kept q (survives p.passed man m.target) p.men (λ k i e.
            let b = and_parts (same_side k.side p.to_move) (same_kind k.kind King) e in
            king_stays k i b.1
            (λ a.
            let same = same_square p.men k man h.valid.ordered i h.among a in
            false≢true (sym other ∙ sym (ap (λ z. same_kind z.kind King) same) ∙ b.1))
            (λ t. not_to_own k i b.0 t))
            in
            whole ∙ rw no (omega arith)
      ] in
      eq-eqb _ _ total

  kings : (has_one_king all_after White && has_one_king all_after Black) ≡ true
  kings =
      let each : (t : Side) → has_one_king all_after t ≡ true = λ t. elim (side_cases p.to_move t) [
        | inl e ↦ rw e own_king
        | inr e ↦ rw e others_king
      ] in
      and_from _ _ (each White) (each Black)

  -- no pawn stands on an end rank
  mover_inside : is_end_pawn (moved_man man m) ≡ false
  unfolding is_end_pawn
  mover_inside = false_from_ne_true _ (λ e.
      let a = and_parts (is_man White Pawn (moved_man man m) || is_man Black Pawn (moved_man man m)) ((rank_of m.target == 0) || (rank_of m.target == 7)) e in
      let pawn : same_kind (moved_man man m).kind Pawn ≡ true = elim (or_cases (is_man White Pawn (moved_man man m))
      (is_man Black Pawn (moved_man man m)) a.0) [
        | inl w ↦ (and_parts (same_side man.side White) (same_kind (moved_man man m).kind Pawn) w).1
        | inr b ↦ (and_parts (same_side man.side Black) (same_kind (moved_man man m).kind Pawn) b).1
      ] in
      let still = still_pawn man m.target m.promoted h.moves.choice pawn in
      let not_last : (rank_of m.target == last_rank man.side) ≡ false = second_false (is_pawn man) (rank_of m.target == last_rank man.side) still.0 still.1 in
      let on : man.at < 64 = All-among (λ m. m.at < 64) p.men man h.valid.on_board h.among in
      let inside : (n : ℕ) → 1 ≤ n → IsAheadBy man.side n man.at m.target → ⊥ =
      λ n low s. elim (or_cases (rank_of m.target == 0) (rank_of m.target == 7) a.1) [
        | inl z ↦ not_first_rank man.side n man.at m.target low s not_last (eqb-true _ _ z)
        | inr z ↦ not_eighth_rank man.side n man.at m.target low on s not_last (eqb-true _ _ z)
      ] in
      elim (pawn_ways p.men p.passed man m.target still.0 h.moves.going) [
        | inl s ↦ inside 1 (omega arith) s.ahead
        | inr r ↦ elim r [
          | inl d ↦ inside 2 (omega arith) d.ahead
          | inr c ↦ inside 1 (omega arith) c.ahead
        ]
      ])

  no_end_pawn : has_end_pawn all_after ≡ false
  unfolding has_end_pawn
  no_end_pawn = list_any-none is_end_pawn all_after here
    where
      here : (k : Man) → IsAmong k all_after → is_end_pawn k ≡ false
      here k (inl s) = rw (← s) mover_inside
      here k (inr i) =
          let r = IsAmong-filter (survives p.passed man m.target) p.men k i in
          none_among is_end_pawn p.men k faultless.pawns r.0

  -- a square that is empty after the move
  empty_after : (y : ℕ) → (m.target ≡ y → ⊥) → ((k : Man) → IsAmong k p.men → survives p.passed man m.target k ≡ true → k.at ≡ y → ⊥)
      → is_empty all_after y ≡ true
  unfolding is_occupied
  empty_after y away others = not_from_false _ (list_any-none (λ k. k.at == y) all_after here)
    where
      here : (k : Man) → IsAmong k all_after → (k.at == y) ≡ false
      here k (inl s) = rw (← s) (ne_eqb _ _ away)
      here k (inr i) =
          let r = IsAmong-filter (survives p.passed man m.target) p.men k i in
          ne_eqb _ _ (others k r.0 r.1)

  by_double_step : is_pawn man ≡ true → ranks_apart man.at m.target ≡ 2 → could_be_passed all_after (other_side p.to_move) (half_way man.at m.target) ≡ true
  unfolding survives has_man
  by_double_step pawn two =
      let d : IsDoubleStep p.men man.side man.at m.target = elim (pawn_ways p.men p.passed man m.target pawn h.moves.going) [
        | inl s ↦ absurd (one_apart man.side man.at m.target s.ahead two)
        | inr r ↦ elim r [
          | inl d ↦ d
          | inr c ↦ absurd (one_apart man.side man.at m.target c.ahead two)
        ]
      ] in
      let apart = double_apart p.men man.side man.at m.target d in
      let S : Side → Type 0 = λ s. IsDoubleStep p.men s man.at m.target in
      let kind = pawn_stays man m.target m.promoted h.moves.choice (and_right _ _ apart.inside) in
      could_pass all_after p.men p.to_move man.at m.target (subst S mine d)
      (empty_after (half_way man.at m.target) apart.over (λ k i _. empty_there p.men (half_way man.at m.target) k d.over i))
      (empty_after man.at apart.start (λ k i u e. left_there k u e))
      (list_any-from (λ n. is_man p.to_move Pawn n && (n.at == m.target)) all_after (moved_man man m) (inl refl)
      (and_from _ _ (and_from _ _ h.moves.mine (ap (λ v. same_kind v Pawn) kind ∙ pawn)) (eq-eqb m.target m.target refl)))
    where
      left_there : (k : Man) → survives p.passed man m.target k ≡ true → k.at ≡ man.at → ⊥
      left_there k u e =
          let a =
          and_parts (not (k.at == man.at) && not (k.at == m.target))
          (not (is_en_passant p.passed man m.target && (k.at == 8 * rank_of man.at + file_of m.target))) u in
          let b = and_parts (not (k.at == man.at)) (not (k.at == m.target)) a.0 in
          false≢true (sym (not_from_true _ (eq-eqb _ _ e)) ∙ b.0)

  passes : passed_possible all_after (other_side p.to_move) (passed_by man m.target) ≡ true
  passes =
      let go : (b : Bool) → (is_pawn man && (ranks_apart man.at m.target == 2)) ≡ b
      → passed_possible all_after (other_side p.to_move) (cond b (Some (half_way man.at m.target)) None) ≡ true =
      λ b. elim b as (λ v. (is_pawn man && (ranks_apart man.at m.target == 2)) ≡ v
      → passed_possible all_after (other_side p.to_move) (cond v (Some (half_way man.at m.target)) None) ≡ true) [
        | true ↦ λ e.
            let a = and_parts (is_pawn man) (ranks_apart man.at m.target == 2) e in
            by_double_step a.0 (eqb-true _ _ a.1)
        | false ↦ λ _. refl
      ] in
      go (is_pawn man && (ranks_apart man.at m.target == 2)) refl

  pub few : (n : ℕ) → nat_lt n (length p.men) ≡ false → nat_lt n (length (men_after p man m)) ≡ false
  few n before =
      let occupied = list_any-from (λ y. y.at == man.at) p.men man h.among (eq-eqb man.at man.at refl) in
      let fewer = fewer_stay p.passed man m.target p.men (is_occupied-from_any p.men man.at occupied) in
      let most = ltb-false n (length p.men) before in
      let same = length_permutation all_after (men_after p man m) permuted in
      let one : length all_after ≡ 1 + length those = omega arith in
      le-ltb n (length (men_after p man m)) (omega arith)

  none_on_target : list_any (λ y. y.at == m.target) those ≡ false
  unfolding survives
  none_on_target = list_any-none (λ y. y.at == m.target) those (λ k i.
      let r = IsAmong-filter (survives p.passed man m.target) p.men k i in
      let a =
      and_parts (not (k.at == man.at) && not (k.at == m.target))
      (not (is_en_passant p.passed man m.target && (k.at == 8 * rank_of man.at + file_of m.target))) r.1 in
      let b = and_parts (not (k.at == man.at)) (not (k.at == m.target)) a.0 in
      not-true _ b.1)

  ordered : IsAscending (men_after p man m)
  unfolding men_after
  ordered = IsAscending-insert_man (moved_man man m) those (IsAscending-filter (survives p.passed man m.target) p.men h.valid.ordered) none_on_target

  on_board : All (λ k. k.at < 64) (men_after p man m)
  unfolding men_after
  on_board = All-insert_man (moved_man man m) those h.moves.target (All-filter (survives p.passed man m.target) (λ k. k.at < 64) p.men h.valid.on_board)

  pub IsSound-after_by : IsSound (after_by p man m)
  IsSound-after_by =
      let kings_same : (s : Side) → has_one_king all_after s ≡ has_one_king (men_after p man m) s = has_one_king_same all_after (men_after p man m) permuted in
      record {
        ordered = ordered;
        on_board = on_board;
        once = has_square_twice-ascending (men_after p man m) ordered;
        kings = rw (← kings_same White, ← kings_same Black) kings;
        pawns = sym (has_end_pawn_same all_after (men_after p man m) permuted) ∙ no_end_pawn;
        safe = rw (other_twice p.to_move) h.safe;
        possible = sym (passed_possible_same all_after (men_after p man m) permuted (other_side p.to_move) (passed_by man m.target)) ∙ passes;
      }

  pub IsValid-after_by : nat_lt 4 (length p.men) ≡ false → IsValid (after_by p man m)
  IsValid-after_by before = IsValid-from_IsSound (after_by p man m) IsSound-after_by (few 4 before)

pub IsMoveFrom-sound : (p : Position) (man : Man) (m : Move) → IsSound p → man_at p.men m.origin ≡ Some man → IsMoveOf p man m → IsMoveFrom p man m
unfolding is_legal_for is_pseudo_legal
IsMoveFrom-sound p man m valid here moves =
    let a = and_parts (is_pseudo_legal p man m) (not (in_check (men_after p man m) p.to_move)) moves.legal in
    let b = and_parts _ (is_promotion_choice (reaches_last_rank man m.target) m.promoted) a.0 in
    let c = and_parts _ (not (has_side p.men p.to_move m.target)) b.0 in
    record {
      valid = valid;
      among = (found_among p.men m.origin man here).0;
      moves = moves;
      free = not-true _ c.1;
      safe = not-true _ a.1;
    }

pub IsMoveFrom-is_legal : (p : Position) (man : Man) (m : Move) → IsValid p → man_at p.men m.origin ≡ Some man → IsMoveOf p man m → IsMoveFrom p man m
IsMoveFrom-is_legal p man m valid here moves = IsMoveFrom-sound p man m (IsSound-from_IsValid p valid) here moves

four : (p : Position) → IsValid p → nat_lt 4 (length p.men) ≡ false
four p valid = (IsFaultless-from_first p.men p.to_move p.passed valid.faultless).few

-- the position after a legal move is without a fault if the position before is, however many men there are
pub IsSound-after : (p : Position) (m : Move) → IsSound p → is_legal p m ≡ true → IsSound (after p m)
unfolding after
IsSound-after p m sound legal =
    let h = HasMover-from_is_legal p m legal in
    let e = h.here in
    rw e (IsSound-after_by p h.man m (IsMoveFrom-sound p h.man m sound h.here h.moves))

-- the position after a legal move is valid
pub IsValid-after : (p : Position) (m : Move) → IsValid p → is_legal p m ≡ true → IsValid (after p m)
unfolding after
IsValid-after p m valid legal =
    let h = HasMover-from_is_legal p m legal in
    let e = h.here in
    rw e (IsValid-after_by p h.man m (IsMoveFrom-is_legal p h.man m valid h.here h.moves) (four p valid))

-- the same, by the man on the move's origin
pub IsValid-after_man : (p : Position) (man : Man) (m : Move) → IsValid p → man_at p.men m.origin ≡ Some man → is_legal p m ≡ true → IsValid (after_by p man m)
IsValid-after_man p man m valid here legal =
    let h = HasMover-from_is_legal p m legal in
    let both : Some h.man ≡ Some man = sym h.here ∙ here in
    let same : h.man ≡ man = cc in
    let moves = subst (λ (x : Man). IsMoveOf p x m) same h.moves in
    IsValid-after_by p man m (IsMoveFrom-is_legal p man m valid here moves) (four p valid)
