-- A man taken back goes to its square again.
use Rattle.std.proofs.Common.{◌≡◌, ℕ, ◌+◌, ◌<◌, ◌==◌, Bool, true, false, not, ◌&&◌, ◌||◌, inl, inr, List, ◌∷◌, None, refl, sym, ◌∙◌, ap, arith}
use Rattle.std.specs.List.{filter}
use Rattle.std.proofs.lemmas.Bool.{false≢true, and_parts, or_cases, or_parts, cases_Bool, eqb-true, ne_eqb, not-true}
use Rattle.study_board.specs.declared.men.Man.{Man}
use Rattle.study_board.specs.declared.men.Side.{Side}
use Rattle.study_board.specs.declared.men.Side.TheVariants.{White, Black}
use Rattle.study_board.specs.declared.men.Kind.{Kind}
use Rattle.study_board.specs.declared.men.Kind.TheVariants.{King, Queen, Rook, Bishop, Knight, Pawn}
use Rattle.study_board.specs.Geometry.{strictly_between, rank_of, file_of}
use Rattle.study_board.specs.Men.{same_side, same_kind, other_side, is_blocked, attacks_square, pawn_captures, is_pawn}
use Rattle.study_board.specs.Position.{is_empty, is_end_pawn}
use Rattle.study_board.specs.Sets.{reaches_if, is_blocked_past}
use Rattle.study_board.proofs.MenInOrder.{IsPermutation-insert_man}
use Rattle.study_board.proofs.Faults.{list_any_same, is_blocked_same}
use Rattle.study_moves.specs.Rules.{is_ahead, starting_rank, half_way, pawn_steps, pawn_double_steps, pawn_takes, reaches_target, survives}
use Rattle.study_moves.specs.Rules.{reaches_last_rank, last_rank}
use Rattle.study_moves.specs.Unmoves.{set_back, men_before, first_rank, pawn_comes, comes}
use Rattle.study_moves.proofs.SafeTargets.{none_passed}
use Rattle.study_moves.proofs.BearsBothWays.{between-both, reaches-both, eqb-both}
use Rattle.study_moves.proofs.KingSafety.{not_at_end, blocked_after, reaches_is}
use Rattle.study_moves.proofs.QuietChecks.{same_side-self, no_side_there}
use Rattle.study_moves.proofs.PutBack.{CanBeMoved, target_is_empty, others_stay}

-- only the moves of pawns depend on their side
side_apart : (b : Bool) (s t : Side) (kind : Kind) (a x : ℕ) → same_kind kind Pawn ≡ false → reaches_if b s kind a x ≡ reaches_if b t kind a x
unfolding reaches_if
side_apart b s t King a x e = refl
side_apart b s t Queen a x e = refl
side_apart b s t Rook a x e = refl
side_apart b s t Bishop a x e = refl
side_apart b s t Knight a x e = refl
side_apart b s t Pawn a x e = absurd (false≢true (sym e))

or_false : (b : Bool) → (b || false) ≡ b
or_false true = refl
or_false false = refl

and_false : (b : Bool) → (b && false) ≡ false
and_false true = refl
and_false false = refl

and_true : (b : Bool) → (b && true) ≡ b
and_true true = refl
and_true false = refl

-- the square passed in a double step is neither of its ends
over : (side : Side) (a x : ℕ) → is_ahead side 2 a x ≡ true → (half_way a x ≡ a → ⊥) × (half_way a x ≡ x → ⊥)
over White a x e =
    let q = and_parts (file_of x == file_of a) (rank_of x == rank_of a + 2) e in
    let f = eqb-true (file_of x) (file_of a) q.0 in
    let r = eqb-true (rank_of x) (rank_of a + 2) q.1 in
    (λ h. absurd (omega arith), λ h. absurd (omega arith))
over Black a x e =
    let q = and_parts (file_of x == file_of a) (rank_of x + 2 == rank_of a) e in
    let f = eqb-true (file_of x) (file_of a) q.0 in
    let r = eqb-true (rank_of x + 2) (rank_of a) q.1 in
    (λ h. absurd (omega arith), λ h. absurd (omega arith))

-- a pawn does not stand on an end rank before a step or a double step
inside : (side : Side) (a x : ℕ) (e : Bool) → x < 64
    → ((is_ahead side 1 a x && not (rank_of a == first_rank side)) ||
    ((rank_of a == starting_rank side) && is_ahead side 2 a x && e)) ≡ true
    → ((rank_of a == 0) || (rank_of a == 7)) ≡ false
inside side a x e lx h =
    elim (or_cases (is_ahead side 1 a x && not (rank_of a == first_rank side)) ((rank_of a == starting_rank side) && is_ahead side 2 a x && e) h) [
      | inl k ↦ let p = and_parts (is_ahead side 1 a x) (not (rank_of a == first_rank side)) k in one side p.0 (not-true _ p.1)
      | inr k ↦
          let p = and_parts ((rank_of a == starting_rank side) && is_ahead side 2 a x) e k in
          let q = and_parts (rank_of a == starting_rank side) (is_ahead side 2 a x) p.0 in
          two side (eqb-true _ _ q.0)
    ]
  where
    one : (side : Side) → is_ahead side 1 a x ≡ true → (rank_of a == first_rank side) ≡ false → ((rank_of a == 0) || (rank_of a == 7)) ≡ false
    one White g n =
        let q = and_parts (file_of x == file_of a) (rank_of x == rank_of a + 1) g in
        let r = eqb-true (rank_of x) (rank_of a + 1) q.1 in
        rw (n, ne_eqb (rank_of a) 7 (λ z. absurd (omega arith))) refl
    one Black g n =
        let q = and_parts (file_of x == file_of a) (rank_of x + 1 == rank_of a) g in
        let r = eqb-true (rank_of x + 1) (rank_of a) q.1 in
        rw (n, ne_eqb (rank_of a) 0 (λ z. absurd (omega arith))) refl

    two : (side : Side) → rank_of a ≡ starting_rank side → ((rank_of a == 0) || (rank_of a == 7)) ≡ false
    two White s = rw s refl
    two Black s = rw s refl

-- a pawn that is not on an end rank is not on its first
not_first : (man : Man) (a : ℕ) → is_pawn man ≡ true → is_end_pawn (set_back man a) ≡ false → (rank_of a == first_rank man.side) ≡ false
unfolding is_end_pawn
not_first man a p n = first man.side (rw p at n)
  where
    first : (s : Side)
        → (((same_side s White && true) || (same_side s Black && true)) && ((rank_of a == 0) || (rank_of a == 7)))
        ≡ false → (rank_of a == first_rank s) ≡ false
    first White e = (or_parts (rank_of a == 0) (rank_of a == 7) e).0
    first Black e = (or_parts (rank_of a == 0) (rank_of a == 7) e).1

-- a pawn that is not on an end rank is not on its last
pub not_last : (man : Man) → is_end_pawn man ≡ false → reaches_last_rank man man.at ≡ false
unfolding is_end_pawn
not_last man n = elim (cases_Bool (is_pawn man)) [
  | inl p ↦ rw p (last man.side (rw p at n))
  | inr p ↦ rw p refl
]
  where
    last : (s : Side)
        → (((same_side s White && true) || (same_side s Black && true)) &&
        ((rank_of man.at == 0) || (rank_of man.at == 7))) ≡ false → (rank_of man.at == last_rank s) ≡ false
    last White e = (or_parts (rank_of man.at == 0) (rank_of man.at == 7) e).1
    last Black e = (or_parts (rank_of man.at == 0) (rank_of man.at == 7) e).0

module _ (men : List Man) (man : Man) (a : ℕ) (h : CanBeMoved men man a) where
  abbrev pub z : Man
  z = set_back man a

  abbrev pub ys : List Man
  ys = filter (survives None man a) men

  -- lines are open then exactly if they are open after the move
  blocked_before : is_blocked (men_before men man a) a man.at ≡ is_blocked men man.at a
  unfolding men_before is_blocked_past is_blocked
  blocked_before =
      let end : strictly_between a a man.at ≡ false = between-both a a man.at ∙ not_at_end man.at a in
      sym (is_blocked_same (z ∷ ys) _ (IsPermutation-insert_man z ys) a man.at)
      ∙ blocked_after men None man a man.side z refl (same_side-self man.side) (none_passed None man a refl) (no_side_there men man.side a h.free) a man.at
      ∙ rw end
      (list_any_same (λ y. not (y.at == man.at) && strictly_between a y.at man.at) (λ y. strictly_between a y.at man.at) there men
      ∙ list_any_same (λ y. strictly_between a y.at man.at) (λ y. strictly_between man.at y.at a) (λ y. between-both a y.at man.at) men)
    where
      there : (y : Man) → (not (y.at == man.at) && strictly_between a y.at man.at) ≡ strictly_between a y.at man.at
      there y = elim (cases_Bool (y.at == man.at)) [
        | inl e ↦ let s = eqb-true y.at man.at e in rw (e, s, not_at_end a man.at) refl
        | inr e ↦ rw e refl
      ]

  bears_before : same_kind man.kind Pawn ≡ false → attacks_square (men_before men man a) z man.at ≡ attacks_square men man a
  bears_before e =
      rw (reaches_is (men_before men man a) man.side man.kind a man.at, blocked_before, reaches_is men man.side man.kind man.at a, eqb-both a man.at)
      (ap (λ (b : Bool). not (man.at == a) && b)
      (side_apart (is_blocked men man.at a) man.side (other_side (other_side man.side)) man.kind a man.at e
      ∙ reaches-both (is_blocked men man.at a) (other_side man.side) man.kind man.at a
      ∙ side_apart (is_blocked men man.at a) (other_side man.side) man.side man.kind man.at a e))

  -- the moves of a pawn, with no man to capture
  pawn_goes : is_pawn man ≡ true → reaches_target (men_before men man a) None z man.at
      ≡ (is_ahead man.side 1 a man.at ||
      ((rank_of a == starting_rank man.side) && is_ahead man.side 2 a man.at && is_empty men (half_way a man.at)))
  unfolding reaches_target pawn_steps pawn_double_steps pawn_takes
  pawn_goes e =
      rw (
        e,
        target_is_empty men man a h,
        no_side_there (men_before men man a) (other_side man.side) man.at
            (target_is_empty men man a h),
        and_true (is_ahead man.side 1 a man.at),
        and_false (pawn_captures man.side a man.at),
      )
      (or_false _ ∙ ap (λ (b : Bool). is_ahead man.side 1 a man.at || b) double)
    where
      double : (((rank_of a == starting_rank man.side) && is_ahead man.side 2 a man.at && is_empty
          (men_before men man a) (half_way a man.at)) && true)
          ≡ ((rank_of a == starting_rank man.side) && is_ahead man.side 2 a man.at && is_empty men
          (half_way a man.at))
      double = and_true _ ∙ elim (cases_Bool (is_ahead man.side 2 a man.at)) [
        | inl f ↦ let k = over man.side a man.at f in rw (others_stay men man a h (half_way a man.at) k.0 k.1) refl
        | inr f ↦ rw (f, and_false (rank_of a == starting_rank man.side)) refl
      ]

  goes_bears : is_pawn man ≡ false → reaches_target (men_before men man a) None z man.at ≡ attacks_square (men_before men man a) z man.at
  unfolding reaches_target
  goes_bears p = rw p refl

  -- a man that can have come from a square goes from there to its own
  pub going : comes men man a ≡ true → reaches_target (men_before men man a) None z man.at ≡ true
  unfolding comes pawn_comes
  going e = elim (cases_Bool (is_pawn man)) [
    | inl p ↦
        let
        c : (((is_ahead man.side 1 a man.at && not (rank_of a == first_rank man.side)) ||
        ((rank_of a == starting_rank man.side) && is_ahead man.side 2 a man.at && is_empty men
        (half_way a man.at))) && is_empty men a) ≡ true = rw p at e in
        pawn_goes p ∙ weaker (is_ahead man.side 1 a man.at) (not (rank_of a == first_rank man.side))
        ((rank_of a == starting_rank man.side) && is_ahead man.side 2 a man.at && is_empty men
        (half_way a man.at)) (and_parts _ (is_empty men a) c).0
    | inr p ↦
        let c : (attacks_square men man a && is_empty men a) ≡ true = rw p at e in
        goes_bears p ∙ bears_before p ∙ (and_parts (attacks_square men man a) (is_empty men a) c).0
  ]
    where
      weaker : (b n c : Bool) → ((b && n) || c) ≡ true → (b || c) ≡ true
      weaker true n c e = refl
      weaker false n c e = e

  -- and is not a pawn on an end rank there
  pub stands_inside : man.at < 64 → comes men man a ≡ true → is_end_pawn z ≡ false
  unfolding comes pawn_comes is_end_pawn
  stands_inside lx e = elim (cases_Bool (is_pawn man)) [
    | inl p ↦
        let
        c : (((is_ahead man.side 1 a man.at && not (rank_of a == first_rank man.side)) ||
        ((rank_of a == starting_rank man.side) && is_ahead man.side 2 a man.at && is_empty men
        (half_way a man.at))) && is_empty men a) ≡ true = rw p at e in
        let r = inside man.side a man.at (is_empty men (half_way a man.at)) lx (and_parts _ (is_empty men a) c).0 in
        rw r (and_false _)
    | inr p ↦ rw (p, and_false (same_side man.side White), and_false (same_side man.side Black)) refl
  ]

  -- a man that goes to its square, and is not a pawn on an end rank, can have come from there
  pub coming : reaches_target (men_before men man a) None z man.at ≡ true → is_end_pawn z ≡ false → comes men man a ≡ true
  unfolding comes pawn_comes
  coming g n = elim (cases_Bool (is_pawn man)) [
    | inl p ↦
        let r = not_first man a p n in
        let o = sym (pawn_goes p) ∙ g in
        rw (p, h.free, r) (and_true _ ∙ stronger (is_ahead man.side 1 a man.at) _ o)
    | inr p ↦ rw (p, h.free) (and_true _ ∙ sym (bears_before p) ∙ sym (goes_bears p) ∙ g)
  ]
    where
      stronger : (b c : Bool) → (b || c) ≡ true → ((b && true) || c) ≡ true
      stronger true c e = refl
      stronger false c e = e
