-- Captures and promotions: a pawn one step from its last rank goes to at most three squares, and promotes there; no other man promotes.
use Rattle.std.proofs.Common.{◌≡◌, ℕ, zero, suc, ◌+◌, ◌<◌, ◌≤◌, ◌==◌, ◌⊎◌, inl, inr, arith, Bool, true, false}
use Rattle.std.proofs.Common.{List, [], ◌∷◌, ◌++◌, length, get_or, Contains, Option, None, Some, refl, sym, ◌∙◌, ap, subst}
use Rattle.std.proofs.lemmas.List.{length-append}
use Rattle.std.proofs.lemmas.List.Elements.{Contains-append_cases, Contains-append_left, Contains-append_right}
use Rattle.std.proofs.lemmas.Bool.{and_parts, cases_Bool, eqb-true, eq-eqb, false≢true}
use Rattle.study_board.specs.declared.men.Man.{Man}
use Rattle.study_board.specs.declared.men.Side.{Side}
use Rattle.study_board.specs.declared.men.Side.TheVariants.{White, Black}
use Rattle.study_board.specs.Geometry.{rank_of}
use Rattle.study_board.specs.Men.{is_pawn, same_side}
use Rattle.study_board.specs.Position.{Position, is_occupied}
use Rattle.study_board.specs.declared.men.Kind.{Kind}
use Rattle.study_board.specs.declared.men.Kind.TheVariants.{King, Queen, Rook, Bishop, Knight, Pawn}
use Rattle.study_moves.specs.declared.moves.Move.{Move}
use Rattle.study_moves.specs.AnyOrder.{HasSafeTargets, is_safe_target}
use Rattle.study_moves.specs.Rules.{is_legal, is_promotion_choice, is_promotion_piece, last_rank, reaches_last_rank, reaches_target}
use Rattle.study_moves.proofs.MenOfList.{IsAmong, some_among}
use Rattle.study_moves.proofs.HowMenGo.{IsAheadBy, IsStep, IsDoubleStep, IsCapture, pawn_ways}
use Rattle.study_moves.specs.Unmoves.{IsQuiet}
use Rattle.study_retro.specs.Still.{GoesWithoutPromotion, move_to, is_about_to_promote, promotion_to, promotions_to, rank_before_last}

pub last_or_before : (x n : ℕ) → x < n + 1 → (x < n) ⊎ (x ≡ n)
last_or_before x n l = grind arith

-- the squares next ahead
abbrev pub IsNext : Side → ℕ → ℕ → Type 0
IsNext White a x = (a + 7 ≤ x) × (x < a + 10)
IsNext Black a x = (x + 7 ≤ a) × (a ≤ x + 9)

module _ (men : List Man) where
  step_next : (s : Side) (a x : ℕ) → IsStep men s a x → IsNext s a x
  step_next White a x h = let r = h.ahead in let f = h.file in (omega (arith, r, f), omega (arith, r, f))
  step_next Black a x h = let r = h.ahead in let f = h.file in (omega (arith, r, f), omega (arith, r, f))

  takes_next : (s : Side) (a x : ℕ) → IsCapture s a x → IsNext s a x
  takes_next White a x h = let r = h.ahead in let f = h.files in (omega (arith, r, f), omega (arith, r, f))
  takes_next Black a x h = let r = h.ahead in let f = h.files in (omega (arith, r, f), omega (arith, r, f))

  no_double : (s : Side) (a x : ℕ) → rank_of a ≡ rank_before_last s → IsDoubleStep men s a x → ⊥
  no_double White a x e h = let r = h.start in omega (arith, e, r)
  no_double Black a x e h = let r = h.start in omega (arith, e, r)

  onto_last : (s : Side) (a x : ℕ) → rank_of a ≡ rank_before_last s → IsAheadBy s 1 a x → rank_of x ≡ last_rank s
  onto_last White a x e h = omega (arith, e, h)
  onto_last Black a x e h = omega (arith, e, h)

  from_before : (s : Side) (a x : ℕ) → rank_of x ≡ last_rank s → IsAheadBy s 1 a x → rank_of a ≡ rank_before_last s
  from_before White a x e h = omega (arith, e, h)
  from_before Black a x e h = omega (arith, e, h)

  double_short : (s : Side) (a x : ℕ) → rank_of x ≡ last_rank s → IsDoubleStep men s a x → ⊥
  double_short White a x e h = let r = h.start in let f = h.ahead in omega (arith, e, r, f)
  double_short Black a x e h = let r = h.start in let f = h.ahead in omega (arith, e, r, f)

  module _ (man : Man) (x : ℕ) (goes : reaches_target men None man x ≡ true) where
    module _ (near : is_about_to_promote man ≡ true) where
      pawn : is_pawn man ≡ true
      pawn = (and_parts _ _ near).0

      before : rank_of man.at ≡ rank_before_last man.side
      before = eqb-true _ _ (and_parts _ _ near).1

      pub near_next : IsNext man.side man.at x
      near_next = elim (pawn_ways men None man x pawn goes) [
        | inl h ↦ step_next man.side man.at x h
        | inr r ↦ elim r [
          | inl h ↦ absurd (no_double man.side man.at x before h)
          | inr h ↦ takes_next man.side man.at x h
        ]
      ]

      last : rank_of x ≡ last_rank man.side
      last = elim (pawn_ways men None man x pawn goes) [
        | inl h ↦ onto_last man.side man.at x before h.ahead
        | inr r ↦ elim r [
          | inl h ↦ absurd (no_double man.side man.at x before h)
          | inr h ↦ onto_last man.side man.at x before h.ahead
        ]
      ]

      pub near_promotes : reaches_last_rank man x ≡ true
      near_promotes = rw (pawn, eq-eqb _ _ last) refl

    pub far_plain : is_about_to_promote man ≡ false → reaches_last_rank man x ≡ false
    far_plain far = elim (cases_Bool (is_pawn man)) [
      | inr e ↦ rw e refl
      | inl pawn ↦ elim (cases_Bool (rank_of x == last_rank man.side)) [
        | inr e ↦ rw (pawn, e) refl
        | inl e ↦ absurd (stands pawn (from_last pawn (eqb-true _ _ e)))
      ]
    ]
      where
        from_last : is_pawn man ≡ true → rank_of x ≡ last_rank man.side → rank_of man.at ≡ rank_before_last man.side
        from_last pawn e = elim (pawn_ways men None man x pawn goes) [
          | inl h ↦ from_before man.side man.at x e h.ahead
          | inr r ↦ elim r [
            | inl h ↦ absurd (double_short man.side man.at x e h)
            | inr h ↦ from_before man.side man.at x e h.ahead
          ]
        ]

        stands : is_pawn man ≡ true → rank_of man.at ≡ rank_before_last man.side → ⊥
        stands pawn r = false≢true (sym far ∙ rw (pawn, eq-eqb _ _ r) refl)

-- the four promotions on a square
pub promotions_there : (man : Man) (x : ℕ) (k : Kind) → is_promotion_piece k ≡ true → Contains (promotions_to man x) (promotion_to man x k)
promotions_there man x King e = absurd (false≢true e)
promotions_there man x Queen e = (0, omega arith, refl)
promotions_there man x Rook e = (1, omega arith, refl)
promotions_there man x Bishop e = (2, omega arith, refl)
promotions_there man x Knight e = (3, omega arith, refl)
promotions_there man x Pawn e = absurd (false≢true e)

promotions_only : (man : Man) (x : ℕ) (Q : Move → Type 0) → ((k : Kind) → is_promotion_piece k ≡ true → Q (promotion_to man x k))
    → (m : Move) → Contains (promotions_to man x) m → Q m
promotions_only man x Q f m c = by_index c.0 c.1 c.2
  where
    by_index : (i : ℕ) → i < length (promotions_to man x) → get_or (promotions_to man x) i m ≡ m → Q m
    by_index zero l e = subst Q e (f Queen refl)
    by_index (suc zero) l e = subst Q e (f Rook refl)
    by_index (suc (suc zero)) l e = subst Q e (f Bishop refl)
    by_index (suc (suc (suc zero))) l e = subst Q e (f Knight refl)
    by_index (suc (suc (suc (suc i)))) l e = absurd (omega (arith, l))

module _ (xs ys : List Move) (man : Man) (x : ℕ) (more : ys ≡ xs ++ promotions_to man x) where
  pub four_kept : (m : Move) → Contains xs m → Contains ys m
  four_kept m c = subst (λ (zs : List Move). Contains zs m) (sym more) (Contains-append_left xs (promotions_to man x) m c)

  pub four_more : length ys ≡ length xs + 4
  four_more = ap length more ∙ length-append xs (promotions_to man x)

  pub four_there : (k : Kind) → is_promotion_piece k ≡ true → Contains ys (promotion_to man x k)
  four_there k e = subst (λ (zs : List Move). Contains zs (promotion_to man x k)) (sym more)
      (Contains-append_right xs (promotions_to man x) (promotion_to man x k) (promotions_there man x k e))

  pub four_only : (Q : Move → Type 0) → ((m : Move) → Contains xs m → Q m) → ((k : Kind) → is_promotion_piece k ≡ true → Q (promotion_to man x k))
      → (m : Move) → Contains ys m → Q m
  four_only Q before here m c =
      elim (Contains-append_cases xs (promotions_to man x) m (subst (λ (zs : List Move). Contains zs m) more c)) [
        | inl h ↦ before m h
        | inr h ↦ promotions_only man x Q here m h
      ]

-- the kind that a move promotes to
chosen : (b : Bool) (o : Option Kind) → b ≡ true → is_promotion_choice b o ≡ true → (k : Kind) × (o ≡ Some k) × (is_promotion_piece k ≡ true)
chosen false o e c = absurd (false≢true e)
chosen true None e c = absurd (false≢true c)
chosen true (Some k) e c = (k, refl, c)

promoted_parts : (m : Move) (man : Man) (k : Kind) → m.origin ≡ man.at → m.promoted ≡ Some k → promotion_to man m.target k ≡ m
promoted_parts m man k o p =
    sym
    (ap (λ (a : ℕ). let r : Move = record { origin = a; target = m.target; promoted = m.promoted } in r) o
    ∙ ap (λ (c : Option Kind). let r : Move = record { origin = man.at; target = m.target; promoted = c } in r) p)

-- no kind is chosen if the man does not promote
pub unpromoted : (b : Bool) (o : Option Kind) → b ≡ false → is_promotion_choice b o ≡ true → o ≡ None
unpromoted false None e c = refl
unpromoted false (Some k) e c = absurd (false≢true c)
unpromoted true o e c = absurd (false≢true (sym e))

goes_there : (q : Position) (man : Man) (x : ℕ) → is_safe_target q.men q.to_move man x ≡ true → reaches_target q.men None man x ≡ true
unfolding is_safe_target
goes_there q man x e = (and_parts _ _ (and_parts _ _ e).0).0

-- the man on an occupied square
in-of : (xs : List Man) (m : Man) → IsAmong m xs → Contains xs m
in-of [] m i = absurd i
in-of (x ∷ xs) m (inl e) = (zero, omega arith, e)
in-of (x ∷ xs) m (inr i) = let r = in-of xs m i in let l = r.1 in (suc r.0, omega (arith, l), r.2)

standing : (men : List Man) (x : ℕ) → is_occupied men x ≡ true → (o : Man) × Contains men o × (o.at ≡ x)
unfolding is_occupied
standing men x e = let s = some_among (λ m. m.at == x) men e in (s.0, in-of men s.0 s.1, eqb-true s.0.at x s.2)

move_parts : (m : Move) (man : Man) (x : ℕ) → m.origin ≡ man.at → m.target ≡ x → m.promoted ≡ None → move_to man x ≡ m
move_parts m man x o t p =
    sym
    (ap (λ (a : ℕ). let r : Move = record { origin = a; target = m.target; promoted = m.promoted } in r) o
    ∙ ap (λ (y : ℕ). let r : Move = record { origin = man.at; target = y; promoted = m.promoted } in r) t
    ∙ ap (λ (k : Option Kind). let r : Move = record { origin = man.at; target = x; promoted = k } in r) p)

-- the man that a legal move moves
pub mover_is : (q : Position) → HasSafeTargets q q.men → (m : Move) → is_legal q m ≡ true
    → (man : Man) × Contains q.men man × (m.origin ≡ man.at) × (same_side man.side q.to_move ≡ true)
mover_is q tells m legal =
    let t = tells.mover m legal in
    let is = and_parts _ _ (sym (tells.legal t.0 m t.1 t.2 t.3) ∙ legal) in
    (t.0, t.1, t.2, (and_parts _ _ is.0).0)

-- a man of the side to move
module _ (q : Position) (tells : HasSafeTargets q q.men) (man : Man) (among : Contains q.men man) (his : same_side man.side q.to_move ≡ true) where
  -- the properties of a legal move of this man
  module _ (m : Move) (origin : m.origin ≡ man.at) (legal : is_legal q m ≡ true) where
    pub target_on : m.target < 64
    target_on = (tells.mover m legal).3

    pub parts : (is_safe_target q.men q.to_move man m.target ≡ true) × (is_promotion_choice (reaches_last_rank man m.target) m.promoted ≡ true)
    parts =
        let is = and_parts _ _ (sym (tells.legal man m among origin target_on) ∙ legal) in
        ((and_parts _ _ is.0).1, is.1)

    pub reached : reaches_target q.men None man m.target ≡ true
    reached = goes_there q man m.target parts.0

    pub promotion_is : is_about_to_promote man ≡ true → (k : Kind) × (promotion_to man m.target k ≡ m) × (is_promotion_piece k ≡ true)
    promotion_is near =
        let k = chosen (reaches_last_rank man m.target) m.promoted (near_promotes q.men man m.target reached near) parts.1 in
        (k.0, promoted_parts m man k.0 origin k.1, k.2)

  pub promotion_legal : is_about_to_promote man ≡ true → (x : ℕ) → x < 64 → is_safe_target q.men q.to_move man x ≡ true → (k : Kind)
      → is_promotion_piece k ≡ true → is_legal q (promotion_to man x k) ≡ true
  promotion_legal near x on safe k piece =
      tells.legal man (promotion_to man x k) among refl on
      ∙ rw (his, safe, near_promotes q.men man x (goes_there q man x safe) near, piece) refl

  -- a move of another man that is not quiet is a capture
  module _ (m : Move) (origin : m.origin ≡ man.at) (legal : is_legal q m ≡ true) (leaves : IsQuiet q m → ⊥) (far : is_about_to_promote man ≡ false) where
    plain : reaches_last_rank man m.target ≡ false
    plain = far_plain q.men man m.target (reached m origin legal) far

    none : m.promoted ≡ None
    none = unpromoted (reaches_last_rank man m.target) m.promoted plain (parts m origin legal).1

    taken : (o : Man) × Contains q.men o × (o.at ≡ m.target)
    taken = elim (cases_Bool (is_occupied q.men m.target)) [
      | inl e ↦ standing q.men m.target e
      | inr e ↦ absurd (leaves (e, none))
    ]

    pub capture_is : (o : Man) × Contains q.men o × GoesWithoutPromotion q man o.at × (move_to man o.at ≡ m)
    capture_is =
        let o = taken in (
          o.0,
          o.1,
          (ap (λ (y : ℕ). is_safe_target q.men q.to_move man y) o.2 ∙ (parts m origin legal).0, ap (λ (y : ℕ). reaches_last_rank man y) o.2 ∙ plain),
          move_parts m man o.0.at origin (sym o.2) none,
        )
