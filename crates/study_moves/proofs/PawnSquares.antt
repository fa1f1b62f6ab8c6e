-- The squares to which a pawn goes, as sets.
use Rattle.std.proofs.Common.{◌≡◌, ℕ, ◌+◌, ◌-◌, ◌<◌, ◌≤◌, ◌==◌, nat_le, Bool, true, false, not, ◌&&◌, ◌||◌, inl, inr, List, Option, refl, sym, ◌∙◌, arith}
use Rattle.std.proofs.lemmas.Bool.{le-leb, leb-true, and_parts, and_from, cases_Bool, eqb-true, eq-eqb}
use Rattle.study_board.specs.declared.men.Man.{Man}
use Rattle.study_board.specs.declared.men.Side.{Side}
use Rattle.study_board.specs.declared.men.Side.TheVariants.{White, Black}
use Rattle.study_board.specs.Geometry.{file_of, rank_of, files_apart}
use Rattle.study_board.specs.Men.{other_side, pawn_captures}
use Rattle.study_board.specs.Position.{is_empty}
use Rattle.study_board.specs.Sets.{has}
use Rattle.study_moves.specs.Rules.{has_side, is_square, is_ahead, half_way, pawn_steps, pawn_double_steps, pawn_takes}
use Rattle.study_moves.specs.Unmoves.{pawn_came}
use Rattle.study_moves.proofs.BearsBothWays.{same_test}
use Rattle.study_moves.proofs.QuietPawns.{joined}

-- a pawn does not capture on its own square
captures_elsewhere : (side : Side) (a x : ℕ) → (not (a == x) && pawn_captures side a x) ≡ pawn_captures side a x
unfolding pawn_captures
captures_elsewhere side a x =
    elim (cases_Bool (a == x)) [
      | inl e ↦
          let s = eqb-true a x e in
          let d : files_apart a x ≡ 0 = omega arith in
          rw (e, d) refl
      | inr e ↦ rw e refl
    ]

pub takes_there : (men : List Man) (passed : Option ℕ) (side enemy : Side) (a x beside theirs gone both set : ℕ) → enemy ≡ other_side side
    → has beside x ≡ (not (a == x) && pawn_captures side a x) → has theirs x ≡ has_side men enemy x → has gone x ≡ is_square passed x
    → has both x ≡ (has theirs x || has gone x) → has set x ≡ (has beside x && has both x) → has set x ≡ pawn_takes men passed side a x
unfolding pawn_takes
takes_there men passed side enemy a x beside theirs gone both set o e f g h i = i ∙ rw (h, e, f, g, o, captures_elsewhere side a x)

white_one : (a x one : ℕ) → x < 64 → (rank_of a ≤ 6 → one ≡ a + 8) → is_ahead White 1 a x ≡ (nat_le (rank_of a) 6 && (one == x))
white_one a x one lx o = same_test _ _ to from
  where
    to : is_ahead White 1 a x ≡ true → (nat_le (rank_of a) 6 && (one == x)) ≡ true
    to e =
        let q = and_parts (file_of x == file_of a) (rank_of x == rank_of a + 1) e in
        let f = eqb-true (file_of x) (file_of a) q.0 in
        let r = eqb-true (rank_of x) (rank_of a + 1) q.1 in
        let low : rank_of a ≤ 6 = omega arith in
        let u = o low in
        let s : one ≡ x = omega arith in
        and_from _ _ (le-leb (rank_of a) 6 low) (eq-eqb _ _ s)

    from : (nat_le (rank_of a) 6 && (one == x)) ≡ true → is_ahead White 1 a x ≡ true
    from e =
        let p = and_parts (nat_le (rank_of a) 6) (one == x) e in
        let s = eqb-true one x p.1 in
        let u = o (leb-true (rank_of a) 6 p.0) in
        let f : file_of x ≡ file_of a = omega arith in
        let r : rank_of x ≡ rank_of a + 1 = omega arith in
        and_from _ _ (eq-eqb _ _ f) (eq-eqb _ _ r)

white_two : (a x two : ℕ) → (rank_of a ≡ 1 → two ≡ a + 16) → ((rank_of a == 1) && is_ahead White 2 a x) ≡ ((rank_of a == 1) && (two == x))
white_two a x two o = same_test _ _ to from
  where
    to : ((rank_of a == 1) && is_ahead White 2 a x) ≡ true → ((rank_of a == 1) && (two == x)) ≡ true
    to e =
        let p = and_parts (rank_of a == 1) (is_ahead White 2 a x) e in
        let q = and_parts (file_of x == file_of a) (rank_of x == rank_of a + 2) p.1 in
        let f = eqb-true (file_of x) (file_of a) q.0 in
        let r = eqb-true (rank_of x) (rank_of a + 2) q.1 in
        let n = eqb-true (rank_of a) 1 p.0 in
        let u = o n in
        let s : two ≡ x = omega arith in
        and_from _ _ p.0 (eq-eqb _ _ s)

    from : ((rank_of a == 1) && (two == x)) ≡ true → ((rank_of a == 1) && is_ahead White 2 a x) ≡ true
    from e =
        let p = and_parts (rank_of a == 1) (two == x) e in
        let s = eqb-true two x p.1 in
        let u = o (eqb-true (rank_of a) 1 p.0) in
        let f : file_of x ≡ file_of a = omega arith in
        let r : rank_of x ≡ rank_of a + 2 = omega arith in
        and_from _ _ p.0 (and_from _ _ (eq-eqb _ _ f) (eq-eqb _ _ r))

black_one : (a x : ℕ) → is_ahead Black 1 a x ≡ (nat_le 1 (rank_of a) && (a - 8 == x))
black_one a x = same_test _ _ to from
  where
    to : is_ahead Black 1 a x ≡ true → (nat_le 1 (rank_of a) && (a - 8 == x)) ≡ true
    to e =
        let q = and_parts (file_of x == file_of a) (rank_of x + 1 == rank_of a) e in
        let f = eqb-true (file_of x) (file_of a) q.0 in
        let r = eqb-true (rank_of x + 1) (rank_of a) q.1 in
        let low : 1 ≤ rank_of a = omega arith in
        let s : a - 8 ≡ x = omega arith in
        and_from _ _ (le-leb 1 (rank_of a) low) (eq-eqb _ _ s)

    from : (nat_le 1 (rank_of a) && (a - 8 == x)) ≡ true → is_ahead Black 1 a x ≡ true
    from e =
        let p = and_parts (nat_le 1 (rank_of a)) (a - 8 == x) e in
        let s = eqb-true (a - 8) x p.1 in
        let low = leb-true 1 (rank_of a) p.0 in
        let f : file_of x ≡ file_of a = omega arith in
        let r : rank_of x + 1 ≡ rank_of a = omega arith in
        and_from _ _ (eq-eqb _ _ f) (eq-eqb _ _ r)

black_two : (a x : ℕ) → ((rank_of a == 6) && is_ahead Black 2 a x) ≡ ((rank_of a == 6) && (a - 16 == x))
black_two a x = same_test _ _ to from
  where
    to : ((rank_of a == 6) && is_ahead Black 2 a x) ≡ true → ((rank_of a == 6) && (a - 16 == x)) ≡ true
    to e =
        let p = and_parts (rank_of a == 6) (is_ahead Black 2 a x) e in
        let q = and_parts (file_of x == file_of a) (rank_of x + 2 == rank_of a) p.1 in
        let f = eqb-true (file_of x) (file_of a) q.0 in
        let r = eqb-true (rank_of x + 2) (rank_of a) q.1 in
        let n = eqb-true (rank_of a) 6 p.0 in
        let s : a - 16 ≡ x = omega arith in
        and_from _ _ p.0 (eq-eqb _ _ s)

    from : ((rank_of a == 6) && (a - 16 == x)) ≡ true → ((rank_of a == 6) && is_ahead Black 2 a x) ≡ true
    from e =
        let p = and_parts (rank_of a == 6) (a - 16 == x) e in
        let s = eqb-true (a - 16) x p.1 in
        let n = eqb-true (rank_of a) 6 p.0 in
        let f : file_of x ≡ file_of a = omega arith in
        let r : rank_of x + 2 ≡ rank_of a = omega arith in
        and_from _ _ p.0 (and_from _ _ (eq-eqb _ _ f) (eq-eqb _ _ r))

either_way : (s r t h e : Bool) → ((s || ((r && t) && h)) && e) ≡ ((s && e) || (((r && t) && h) && e))
either_way true r t h true = refl
either_way true true true true false = refl
either_way true true true false false = refl
either_way true true false h false = refl
either_way true false t h false = refl
either_way false r t h e = refl

pub white_steps : (men : List Man) (a x r one two : ℕ) → x < 64 → r ≡ rank_of a → (a < 56 → one ≡ a + 8) → (a < 48 → two ≡ a + 16)
    → pawn_came men (nat_le r 6) (r == 1) one two x ≡ (pawn_steps men White a x || pawn_double_steps men White a x)
unfolding pawn_steps pawn_double_steps
white_steps men a x r one two lx i j k =
    rw i
    (sym (joined men one (half_way a x) _ _ _ _ (is_empty men x)
    (white_one a x one lx (λ l. j (omega arith))) (white_two a x two (λ e. k (omega arith))) (λ e.
    let p = and_parts (rank_of a == 1) (two == x) e in
    let t = eqb-true (rank_of a) 1 p.0 in
    let s = eqb-true two x p.1 in
    let u = k (omega arith) in
    let v = j (omega arith) in
    let h : half_way a x ≡ one = omega arith in
    h)))
    ∙ either_way (is_ahead White 1 a x) (rank_of a == 1) (is_ahead White 2 a x) (is_empty men (half_way a x)) (is_empty men x)

pub black_steps : (men : List Man) (a x r one two : ℕ) → r ≡ rank_of a → one ≡ a - 8 → two ≡ a - 16
    → pawn_came men (nat_le 1 r) (r == 6) one two x ≡ (pawn_steps men Black a x || pawn_double_steps men Black a x)
unfolding pawn_steps pawn_double_steps
black_steps men a x r one two i j k =
    rw (i, j, k)
    (sym (joined men (a - 8) (half_way a x) _ _ _ _ (is_empty men x) (black_one a x) (black_two a x) (λ e.
    let p = and_parts (rank_of a == 6) (a - 16 == x) e in
    let t = eqb-true (rank_of a) 6 p.0 in
    let s = eqb-true (a - 16) x p.1 in
    let h : half_way a x ≡ a - 8 = omega arith in
    h)))
    ∙ either_way (is_ahead Black 1 a x) (rank_of a == 6) (is_ahead Black 2 a x) (is_empty men (half_way a x)) (is_empty men x)
