-- The targets and origins of men do not depend on their order.
use Rattle.std.proofs.Common.{◌≡◌, ℕ, zero, suc, ◌<◌, eqb, nat_lt, Bool, true, false, cond, not, ◌&&◌, List, [], ◌∷◌, length, get_or}
use Rattle.std.proofs.Common.{Option, Some, None, refl, sym, ◌∙◌, ap, subst, arith, inl, inr}
use Rattle.std.specs.List.{Contains}
use Rattle.std.specs.Option.{option_map_or}
use Rattle.std.specs.List.Sorted.{IsPermutation}
use borrow.Author.Tests.{ltb-true}
use Rattle.std.proofs.lemmas.Bool.{false≢true, and_parts, lt-ltb}
use Rattle.std.proofs.lemmas.List.Sorted.{list_any-IsPermutation, Contains-permutation, IsPermutation-sym}
use Rattle.study_board.specs.declared.men.Side.{Side}
use Rattle.study_board.specs.declared.men.Man.{Man}
use Rattle.study_board.specs.EqualLaws.{sides_equal}
use Rattle.study_board.specs.Men.{same_side, other_side}
use Rattle.study_board.specs.Position.{Position, IsValid, man_at, in_check}
use Rattle.study_board.specs.Sets.{is_blocked_past, bears_past}
use Rattle.study_board.proofs.Faults.{list_any_same, reaches_same, is_occupied_same}
use Rattle.study_moves.specs.declared.moves.Move.{Move}
use Rattle.study_moves.specs.Rules.{has_side, pawn_steps, pawn_double_steps, pawn_takes, reaches_target, is_promotion_choice, reaches_last_rank}
use Rattle.study_moves.specs.Rules.{is_pseudo_legal, is_legal_for, is_legal, men_after}
use Rattle.study_moves.specs.EnPassant.{has_legal_en_passant, without_idle_passed_square, without_passed}
use Rattle.study_moves.specs.KingSafety.{is_other_man, attacked_past, threatens, threatened_past, king_threatened, threatened_by_others, is_unsafe}
use Rattle.study_moves.specs.Unmoves.{CanHaveLed, pawn_comes, comes, king_was_attacked, was_check, is_unmove_origin, move_from, position_before}
use Rattle.study_moves.specs.AnyOrder.{is_safe_target, HasSafeTargets, HasOrigins, MenTellMoves, AreSameInOrder, OrderIsIrrelevant}
use Rattle.study_moves.proofs.MenFound.{IsFound-from_man_at}
use Rattle.study_moves.proofs.MenOfList.{IsAmong}
use Rattle.study_moves.proofs.KingSafety.{in_check_is_unsafe}
use Rattle.study_moves.proofs.SafeTargets.{none_passed}
use Rattle.study_moves.proofs.QuietChecks.{same_side-self}
use Rattle.study_moves.proofs.QuietBack.{CameFrom, LeadsQuietly-before, IsTakenBack-from, man_at-among, taken_from}
use Rattle.study_moves.proofs.BarePassing.{AgreesWithBare-from_valid}

module _ (xs ys : List Man) (same : IsPermutation xs ys) where
  has_side_same : (side : Side) (x : ℕ) → has_side xs side x ≡ has_side ys side x
  unfolding has_side
  has_side_same side x = list_any-IsPermutation _ xs ys same

  is_blocked_past_same : (lifted a x : ℕ) → is_blocked_past xs lifted a x ≡ is_blocked_past ys lifted a x
  unfolding is_blocked_past
  is_blocked_past_same lifted a x = list_any-IsPermutation _ xs ys same

  attacked_past_same : (by : Side) (lifted x : ℕ) → attacked_past xs by lifted x ≡ attacked_past ys by lifted x
  unfolding attacked_past
  attacked_past_same by lifted x =
      list_any_same (λ m. is_other_man by lifted m && bears_past xs lifted m x) (λ m. is_other_man by lifted m && bears_past ys lifted m x)
      (λ m. rw (is_blocked_past_same lifted m.at x)) xs
      ∙ list_any-IsPermutation (λ m. is_other_man by lifted m && bears_past ys lifted m x) xs ys same

  threatened_past_same : (by : Side) (lifted k x : ℕ) → threatened_past xs by lifted k x ≡ threatened_past ys by lifted k x
  unfolding threatened_past
  threatened_past_same by lifted k x =
      list_any_same (threatens xs by lifted k x) (threatens ys by lifted k x) (λ m. rw (is_blocked_past_same lifted m.at k)) xs
      ∙ list_any-IsPermutation (threatens ys by lifted k x) xs ys same

  others_threatened_same : (side : Side) (lifted x : ℕ) → threatened_by_others xs side lifted x ≡ threatened_by_others ys side lifted x
  unfolding threatened_by_others
  others_threatened_same side lifted x =
      list_any_same (king_threatened xs side lifted x) (king_threatened ys side lifted x)
      (λ k. rw (threatened_past_same (other_side side) lifted k.at x)) xs
      ∙ list_any-IsPermutation (king_threatened ys side lifted x) xs ys same

  is_unsafe_same : (side : Side) (man : Man) (x : ℕ) → is_unsafe xs side man x ≡ is_unsafe ys side man x
  unfolding is_unsafe
  is_unsafe_same side man x = rw (attacked_past_same (other_side side) man.at x, others_threatened_same side man.at x)

  reaches_target_same : (passed : Option ℕ) (man : Man) (x : ℕ) → reaches_target xs passed man x ≡ reaches_target ys passed man x
  unfolding reaches_target pawn_steps pawn_double_steps pawn_takes
  reaches_target_same passed man x =
      simp (is_occupied_same xs ys same, has_side_same, reaches_same xs ys same)

  is_safe_target_same : (side : Side) (man : Man) (x : ℕ) → is_safe_target xs side man x ≡ is_safe_target ys side man x
  unfolding is_safe_target
  is_safe_target_same side man x = rw (reaches_target_same None man x, has_side_same side x, is_unsafe_same side man x)

  was_check_same : (side : Side) (man : Man) (a : ℕ) → was_check xs side man a ≡ was_check ys side man a
  unfolding was_check
  was_check_same side man a =
      list_any_same (king_was_attacked xs side man a) (king_was_attacked ys side man a)
      (λ k. rw (is_blocked_past_same man.at a k.at, threatened_past_same (other_side side) man.at k.at a)) xs
      ∙ list_any-IsPermutation (king_was_attacked ys side man a) xs ys same

  comes_same : (man : Man) (a : ℕ) → comes xs man a ≡ comes ys man a
  unfolding comes pawn_comes
  comes_same man a = simp (is_occupied_same xs ys same, reaches_same xs ys same)

  came_from_same : (side : Side) (man : Man) (a : ℕ) → is_unmove_origin xs side man a ≡ is_unmove_origin ys side man a
  came_from_same side man a = rw (comes_same man a, was_check_same side man a)

  pub AreSameInOrder-permuted : AreSameInOrder xs ys
  AreSameInOrder-permuted = record {
    side = has_side_same;
    reaches = reaches_target_same;
    unsafe = is_unsafe_same;
    safe = is_safe_target_same;
    came = came_from_same;
  }

pub order-is-idle : OrderIsIrrelevant
order-is-idle xs ys same = AreSameInOrder-permuted xs ys same

-- ---- the moves of men in any order

among-of : (xs : List Man) (m : Man) → Contains xs m → IsAmong m xs
among-of [] m c = absurd (omega (arith, c.1))
among-of (x ∷ xs) m c = by_index (among-of xs m) c.0 c.1 c.2
  where
    by_index : (Contains xs m → IsAmong m xs) → (i : ℕ) → i < length (x ∷ xs) → get_or (x ∷ xs) i m ≡ m → IsAmong m (x ∷ xs)
    by_index f zero l e = inl e
    by_index f (suc i) l e = inr (f (i, omega arith, e))

Contains-among : (xs : List Man) (m : Man) → IsAmong m xs → Contains xs m
Contains-among [] m i = absurd i
Contains-among (x ∷ xs) m (inl s) = (0, omega arith, s)
Contains-among (x ∷ xs) m (inr i) = let r = Contains-among xs m i in (suc r.0, omega (arith, r.1), r.2)

among-found : (xs : List Man) (x : ℕ) (m : Man) → man_at xs x ≡ Some m → IsAmong m xs
among-found [] x m e = cc
among-found (y ∷ ys) x m e = by_test (among-found ys x m) (eqb y.at x) e
  where
    by_test : (man_at ys x ≡ Some m → IsAmong m ys) → (b : Bool) → cond b (Some y) (man_at ys x) ≡ Some m → IsAmong m (y ∷ ys)
    by_test f true k = inl (let s : y ≡ m = cc in s)
    by_test f false k = inr (f k)

safe_if : (s r h c k u : Bool) → (s ≡ true → h ≡ false → c ≡ true → k ≡ u)
    → ((((s && r) && not h) && c) && not k) ≡ ((s && ((r && not h) && not u)) && c)
safe_if false r h c k u e = refl
safe_if true false h c k u e = refl
safe_if true true true c k u e = refl
safe_if true true false false true true e = refl
safe_if true true false false true false e = refl
safe_if true true false false false true e = refl
safe_if true true false false false false e = refl
safe_if true true false true k u e = rw (e refl refl refl) (last (not u))
  where
    last : (b : Bool) → b ≡ (b && true)
    last true = refl
    last false = refl

legal_if_safe : (q : Position) (man : Man) (m : Move)
    → is_legal_for (without_passed q) man m ≡ ((same_side man.side q.to_move && is_safe_target q.men q.to_move man m.target)
    && is_promotion_choice (reaches_last_rank man m.target) m.promoted)
unfolding is_legal_for is_pseudo_legal is_safe_target
legal_if_safe q man m =
    safe_if (same_side man.side q.to_move) (reaches_target q.men None man m.target) (has_side q.men q.to_move m.target)
    (is_promotion_choice (reaches_last_rank man m.target) m.promoted) (in_check (men_after (without_passed q) man m) q.to_move)
    (is_unsafe q.men q.to_move man m.target)
    (λ mine free choice. in_check_is_unsafe (without_passed q) man m mine (none_passed None man m.target refl) free choice)

legal_there : (p : Position) (man : Man) (m : Move) → man_at p.men m.origin ≡ Some man → m.target < 64 → is_legal p m ≡ is_legal_for p man m
unfolding is_legal
legal_there p man m here on = rw (lt-ltb m.target 64 on, here) refl

legal_found : (p : Position) (m : Move) → is_legal p m ≡ true → (man : Man) × (man_at p.men m.origin ≡ Some man) × (m.target < 64)
unfolding is_legal
legal_found p m e = let a = and_parts (nat_lt m.target 64) (option_map_or (λ man. is_legal_for p man m) (man_at p.men m.origin) false) e in
    let f = found (man_at p.men m.origin) a.1 in
    (f.0, f.1, ltb-true m.target 64 a.0)
  where
    found : (o : Option Man) → option_map_or (λ man. is_legal_for p man m) o false ≡ true → (man : Man) × (o ≡ Some man)
    found None k = absurd (false≢true k)
    found (Some man) k = (man, refl)

module _ (q : Position) (men : List Man) (valid : IsValid q) (same : IsPermutation men q.men) where
  back : IsPermutation q.men men
  back = IsPermutation-sym men q.men same

  among_position : (man : Man) → Contains men man → IsAmong man q.men
  among_position man c = among-of q.men man (Contains-permutation men q.men man same c)

  among_men : (man : Man) → IsAmong man q.men → Contains men man
  among_men man i = Contains-permutation q.men men man back (Contains-among q.men man i)

  bare_is : has_legal_en_passant q ≡ false → without_idle_passed_square q ≡ without_passed q
  bare_is dead = rw dead refl

  HasSafeTargets-men : has_legal_en_passant q ≡ false → HasSafeTargets q men
  HasSafeTargets-men dead = record {
    legal = λ man m c o on.
        let p = without_passed q in
        let there : man_at q.men m.origin ≡ Some man =
        subst (λ (x : ℕ). man_at q.men x ≡ Some man) (sym o) (man_at-among q.men man valid.ordered (among_position man c)) in
        sym ((AgreesWithBare-from_valid q valid).legal m)
        ∙ ap (λ (r : Position). is_legal r m) (bare_is dead)
        ∙ legal_there p man m there on
        ∙ legal_if_safe q man m
        ∙ ap (λ b. (same_side man.side q.to_move && b) && is_promotion_choice (reaches_last_rank man m.target) m.promoted)
        (sym ((AreSameInOrder-permuted men q.men same).safe q.to_move man m.target));
    mover = λ m e.
        let f = legal_found q m e in
        let man : Man = f.0 in
        (man, among_men man (among-found q.men m.origin man f.1), sym (IsFound-from_man_at q.men m.origin man f.1).at, f.2);
  }

  HasOrigins-men : HasOrigins q men
  HasOrigins-men = record {
    led = λ man a c on. (led_by man a c on, leads man a c on);
    mover = λ m h.
        let t = IsTakenBack-from q m h.from valid h.leads in
        let o : m.origin ≡ t.origin = ap (λ (x : Move). x.origin) t.by in (
          t.man,
          among_men t.man t.came.among,
          subst (λ (x : ℕ). x < 64) (sym o) t.came.on,
          t.by ∙ ap (λ (x : ℕ). move_from t.man x) (sym o),
        );
  }
    where
      both : (a b : Bool) → a ≡ true → b ≡ true → (a && b) ≡ true
      both a b e f = rw (e, f)

      came_is : (man : Man) (a : ℕ) → is_unmove_origin men q.to_move man a ≡ is_unmove_origin q.men q.to_move man a
      came_is man a = (AreSameInOrder-permuted men q.men same).came q.to_move man a

      led_by : (man : Man) (a : ℕ) → Contains men man → a < 64 → CanHaveLed q (move_from man a)
          → (same_side man.side (other_side q.to_move) && is_unmove_origin men q.to_move man a) ≡ true
      led_by man a c on h =
          let t = taken_from q (move_from man a) h.from man valid (man_at-among q.men man valid.ordered (among_position man c)) h.leads in
          both (same_side man.side (other_side q.to_move)) (is_unmove_origin men q.to_move man a)
          (ap (λ (s : Side). same_side s (other_side q.to_move)) t.came.his ∙ same_side-self (other_side q.to_move))
          (came_is man a ∙ t.came.came)

      leads : (man : Man) (a : ℕ) → Contains men man → a < 64
          → (same_side man.side (other_side q.to_move) && is_unmove_origin men q.to_move man a) ≡ true → CanHaveLed q (move_from man a)
      leads man a c on e =
          let b = and_parts (same_side man.side (other_side q.to_move)) (is_unmove_origin men q.to_move man a) e in
          let came : CameFrom q man a = record {
            among = among_position man c;
            his = sides_equal man.side (other_side q.to_move) b.0;
            on = on;
            came = sym (came_is man a) ∙ b.1;
          } in
          record { from = position_before q man a; leads = LeadsQuietly-before q valid man a came }

pub men-tell-moves : MenTellMoves
men-tell-moves q men valid same = (HasSafeTargets-men q men valid same, HasOrigins-men q men valid same)
