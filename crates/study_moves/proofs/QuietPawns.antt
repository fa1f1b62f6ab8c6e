-- The squares from which a pawn can have come by a step or a double step.
use Rattle.std.proofs.Common.{◌≡◌, ℕ, ◌+◌, ◌-◌, ◌<◌, ◌≤◌, ◌==◌, nat_le, Bool, true, false, not, ◌&&◌, ◌||◌, inl, inr, List, refl, sym, ◌∙◌, arith}
use Rattle.std.proofs.lemmas.Bool.{cases_lt, le-leb, leb-true, false≢true, and_parts, and_from, cases_Bool}
use Rattle.std.proofs.lemmas.Bool.{eqb-true, eq-eqb, ne_eqb, not_from_false, not_from_true}
use Rattle.study_board.specs.declared.men.Man.{Man}
use Rattle.study_board.specs.declared.men.Side.TheVariants.{White, Black}
use Rattle.study_board.specs.Geometry.{file_of, rank_of}
use Rattle.study_board.specs.Position.{is_occupied, is_empty}
use Rattle.study_board.specs.Sets.{has}
use Rattle.study_board.proofs.SetBits.{has-zero}
use Rattle.study_moves.specs.Rules.{is_ahead, half_way}
use Rattle.study_moves.specs.Unmoves.{pawn_comes, pawn_came}
use Rattle.study_moves.proofs.BearsBothWays.{same_test}

and_false : (b : Bool) → (b && false) ≡ false
and_false true = refl
and_false false = refl

empty_there : (men : List Man) (x a : ℕ) → ((x == a) && is_empty men x) ≡ ((x == a) && is_empty men a)
empty_there men x a = elim (cases_Bool (x == a)) [
  | inl e ↦ let s = eqb-true x a e in rw s refl
  | inr e ↦ rw e refl
]

pub none_there : (men : List Man) (x n a : ℕ) → n ≡ x → is_occupied men n ≡ true → has 0 a ≡ ((x == a) && is_empty men x)
none_there men x n a i o = let f : is_occupied men x ≡ true = rw (← i) o in has-zero a ∙ rw f (sym (and_false (x == a)))

none_inside : (inside starts b c d e : Bool) → inside ≡ false → (starts ≡ true → inside ≡ true) → false ≡ (((inside && b) || (starts && c && d)) && e)
none_inside false false b c d e i h = refl
none_inside false true b c d e i h = absurd (false≢true (h refl))
none_inside true starts b c d e i h = absurd (false≢true (sym i))

module _ (men : List Man) (one two a : ℕ) where
  pub outside : (inside starts : Bool) → inside ≡ false → (starts ≡ true → inside ≡ true) → has 0 a ≡ pawn_came men inside starts one two a
  outside inside starts i h = has-zero a ∙ none_inside inside starts (one == a) (two == a) (is_empty men one) (is_empty men a) i h

  pub one_step : (inside starts : Bool) (s : ℕ) → inside ≡ true → starts ≡ false
      → has s a ≡ ((one == a) && is_empty men one) → has s a ≡ pawn_came men inside starts one two a
  one_step inside starts s i j e = e ∙ empty_there men one a ∙ rw (i, j) (same (one == a) (is_empty men a))
    where
      same : (b e : Bool) → (b && e) ≡ ((b || false) && e)
      same true e = refl
      same false e = refl

  pub stopped : is_occupied men one ≡ true → has 0 a ≡ pawn_came men true true one two a
  stopped o =
      has-zero a
      ∙ elim (cases_Bool (one == a)) [
        | inl e ↦
            let s = eqb-true one a e in
            let f : is_occupied men a ≡ true = rw (← s) o in
            rw f (sym (and_false ((one == a) || ((two == a) && not (is_occupied men one)))))
        | inr e ↦ rw (e, o, and_false (two == a)) refl
      ]

  pub two_steps : (s t u : ℕ) → is_occupied men one ≡ false → has s a ≡ (one == a)
      → has t a ≡ ((two == a) && is_empty men two) → has u a ≡ (has s a || has t a)
      → has u a ≡ pawn_came men true true one two a
  two_steps s t u o e f g =
      g ∙ rw (e, f, empty_there men two a, o)
      (elim (cases_Bool (one == a)) [
        | inl h ↦
            let k = eqb-true one a h in
            let l : is_occupied men a ≡ false = rw (← k) o in
            rw (h, l) refl
        | inr h ↦ rw h (same (two == a) (is_empty men a))
      ])
    where
      same : (b e : Bool) → (b && e) ≡ ((b && true) && e)
      same true e = refl
      same false e = refl

not_edge : (r e : ℕ) → not (r == e) ≡ true → r ≡ e → ⊥
not_edge r e h z = false≢true (sym (not_from_true _ (eq-eqb r e z)) ∙ h)

white_one : (x a : ℕ) → (is_ahead White 1 a x && not (rank_of a == 0)) ≡ (nat_le 2 (rank_of x) && (x - 8 == a))
white_one x a = same_test _ _ to from
  where
    to : (is_ahead White 1 a x && not (rank_of a == 0)) ≡ true → (nat_le 2 (rank_of x) && (x - 8 == a)) ≡ true
    to e =
        let p = and_parts (is_ahead White 1 a x) (not (rank_of a == 0)) e in
        let q = and_parts (file_of x == file_of a) (rank_of x == rank_of a + 1) p.0 in
        let f = eqb-true (file_of x) (file_of a) q.0 in
        let r = eqb-true (rank_of x) (rank_of a + 1) q.1 in
        let n = not_edge (rank_of a) 0 p.1 in
        let low : 2 ≤ rank_of x = elim (cases_lt (rank_of a) 1) [ inl l ↦ absurd (n (omega arith)) | inr g ↦ omega arith ] in
        let s : x - 8 ≡ a = omega arith in
        and_from _ _ (le-leb 2 (rank_of x) low) (eq-eqb _ _ s)

    from : (nat_le 2 (rank_of x) && (x - 8 == a)) ≡ true → (is_ahead White 1 a x && not (rank_of a == 0)) ≡ true
    from e =
        let p = and_parts (nat_le 2 (rank_of x)) (x - 8 == a) e in
        let s = eqb-true (x - 8) a p.1 in
        let low = leb-true 2 (rank_of x) p.0 in
        let f : file_of x ≡ file_of a = omega arith in
        let r : rank_of x ≡ rank_of a + 1 = omega arith in
        let n : rank_of a ≡ 0 → ⊥ = λ z. absurd (omega arith) in
        and_from _ _ (and_from _ _ (eq-eqb _ _ f) (eq-eqb _ _ r)) (not_from_false _ (ne_eqb _ _ n))

white_two : (x a : ℕ) → ((rank_of a == 1) && is_ahead White 2 a x) ≡ ((rank_of x == 3) && (x - 16 == a))
white_two x a = same_test _ _ to from
  where
    to : ((rank_of a == 1) && is_ahead White 2 a x) ≡ true → ((rank_of x == 3) && (x - 16 == a)) ≡ true
    to e =
        let p = and_parts (rank_of a == 1) (is_ahead White 2 a x) e in
        let q = and_parts (file_of x == file_of a) (rank_of x == rank_of a + 2) p.1 in
        let f = eqb-true (file_of x) (file_of a) q.0 in
        let r = eqb-true (rank_of x) (rank_of a + 2) q.1 in
        let n = eqb-true (rank_of a) 1 p.0 in
        let t : rank_of x ≡ 3 = omega arith in
        let s : x - 16 ≡ a = omega arith in
        and_from _ _ (eq-eqb _ _ t) (eq-eqb _ _ s)

    from : ((rank_of x == 3) && (x - 16 == a)) ≡ true → ((rank_of a == 1) && is_ahead White 2 a x) ≡ true
    from e =
        let p = and_parts (rank_of x == 3) (x - 16 == a) e in
        let t = eqb-true (rank_of x) 3 p.0 in
        let s = eqb-true (x - 16) a p.1 in
        let f : file_of x ≡ file_of a = omega arith in
        let r : rank_of x ≡ rank_of a + 2 = omega arith in
        let n : rank_of a ≡ 1 = omega arith in
        and_from _ _ (eq-eqb _ _ n) (and_from _ _ (eq-eqb _ _ f) (eq-eqb _ _ r))

black_one : (x a one : ℕ) → (nat_le (rank_of x) 5 ≡ true → one ≡ x + 8) → a < 64
    → (is_ahead Black 1 a x && not (rank_of a == 7)) ≡ (nat_le (rank_of x) 5 && (one == a))
black_one x a one o la = same_test _ _ to from
  where
    to : (is_ahead Black 1 a x && not (rank_of a == 7)) ≡ true → (nat_le (rank_of x) 5 && (one == a)) ≡ true
    to e =
        let p = and_parts (is_ahead Black 1 a x) (not (rank_of a == 7)) e in
        let q = and_parts (file_of x == file_of a) (rank_of x + 1 == rank_of a) p.0 in
        let f = eqb-true (file_of x) (file_of a) q.0 in
        let r = eqb-true (rank_of x + 1) (rank_of a) q.1 in
        let n = not_edge (rank_of a) 7 p.1 in
        let high : rank_of x ≤ 5 = elim (cases_lt (rank_of x) 6) [ inl l ↦ omega arith | inr g ↦ absurd (n (omega arith)) ] in
        let t = le-leb (rank_of x) 5 high in
        let u = o t in
        let s : one ≡ a = omega arith in
        and_from _ _ t (eq-eqb _ _ s)

    from : (nat_le (rank_of x) 5 && (one == a)) ≡ true → (is_ahead Black 1 a x && not (rank_of a == 7)) ≡ true
    from e =
        let p = and_parts (nat_le (rank_of x) 5) (one == a) e in
        let s = eqb-true one a p.1 in
        let high = leb-true (rank_of x) 5 p.0 in
        let u = o p.0 in
        let f : file_of x ≡ file_of a = omega arith in
        let r : rank_of x + 1 ≡ rank_of a = omega arith in
        let n : rank_of a ≡ 7 → ⊥ = λ z. absurd (omega arith) in
        and_from _ _ (and_from _ _ (eq-eqb _ _ f) (eq-eqb _ _ r)) (not_from_false _ (ne_eqb _ _ n))

black_two : (x a two : ℕ) → (rank_of x ≡ 4 → two ≡ x + 16) → ((rank_of a == 6) && is_ahead Black 2 a x) ≡ ((rank_of x == 4) && (two == a))
black_two x a two o = same_test _ _ to from
  where
    to : ((rank_of a == 6) && is_ahead Black 2 a x) ≡ true → ((rank_of x == 4) && (two == a)) ≡ true
    to e =
        let p = and_parts (rank_of a == 6) (is_ahead Black 2 a x) e in
        let q = and_parts (file_of x == file_of a) (rank_of x + 2 == rank_of a) p.1 in
        let f = eqb-true (file_of x) (file_of a) q.0 in
        let r = eqb-true (rank_of x + 2) (rank_of a) q.1 in
        let n = eqb-true (rank_of a) 6 p.0 in
        let t : rank_of x ≡ 4 = omega arith in
        let u = o t in
        let s : two ≡ a = omega arith in
        and_from _ _ (eq-eqb _ _ t) (eq-eqb _ _ s)

    from : ((rank_of x == 4) && (two == a)) ≡ true → ((rank_of a == 6) && is_ahead Black 2 a x) ≡ true
    from e =
        let p = and_parts (rank_of x == 4) (two == a) e in
        let t = eqb-true (rank_of x) 4 p.0 in
        let s = eqb-true two a p.1 in
        let u = o t in
        let f : file_of x ≡ file_of a = omega arith in
        let r : rank_of x + 2 ≡ rank_of a = omega arith in
        let n : rank_of a ≡ 6 = omega arith in
        and_from _ _ (eq-eqb _ _ n) (and_from _ _ (eq-eqb _ _ f) (eq-eqb _ _ r))

-- both ways together; the square passed is the square one rank back
pub joined : (men : List Man) (one h : ℕ) (s s' t t' e : Bool) → s' ≡ s → t' ≡ t → (t ≡ true → h ≡ one)
    → ((s' || (t' && is_empty men h)) && e) ≡ ((s || (t && is_empty men one)) && e)
joined men one h s s' true t' e i j k = let o = k refl in rw (i, j, o) refl
joined men one h s s' false t' e i j k = rw (i, j) refl

pub white_origins : (men : List Man) (x a r one two : ℕ) → r ≡ rank_of x → one ≡ x - 8 → two ≡ x - 16
    → pawn_came men (nat_le 2 r) (r == 3) one two a ≡ pawn_comes men White x a
unfolding pawn_comes
white_origins men x a r one two i j k =
    rw (i, j, k)
    (sym (joined men (x - 8) (half_way a x) _ _ _ _ (is_empty men a) (white_one x a) (white_two x a) (λ e.
    let p = and_parts (rank_of x == 3) (x - 16 == a) e in
    let t = eqb-true (rank_of x) 3 p.0 in
    let s = eqb-true (x - 16) a p.1 in
    let h : half_way a x ≡ x - 8 = omega arith in
    h)))

pub black_origins : (men : List Man) (x a r one two : ℕ) → a < 64 → x < 64 → r ≡ rank_of x → (x < 56 → one ≡ x + 8) → (x < 48 → two ≡ x + 16)
    → pawn_came men (nat_le r 5) (r == 4) one two a ≡ pawn_comes men Black x a
unfolding pawn_comes
black_origins men x a r one two la lx i j k =
    rw i
    (sym (joined men one (half_way a x) _ _ _ _ (is_empty men a)
    (black_one x a one (λ e. let l = leb-true (rank_of x) 5 e in j (omega arith)) la) (black_two x a two (λ e. k (omega arith))) (λ e.
    let p = and_parts (rank_of x == 4) (two == a) e in
    let t = eqb-true (rank_of x) 4 p.0 in
    let s = eqb-true two a p.1 in
    let u = k (omega arith) in
    let v = j (omega arith) in
    let h : half_way a x ≡ one = omega arith in
    h)))
