-- A man has at most 27 legal moves, castling counted.
use Rattle.std.proofs.Common.{◌≡◌, ℕ, ◌+◌, ◌<◌, ◌≤◌, ◌==◌, zero, suc, Bool, true, false, cond, ◌⊎◌, inl, inr}
use Rattle.std.proofs.Common.{List, [], ◌∷◌, ◌++◌, length, Option, Some, None, refl, sym, ap, ◌∙◌, arith, length-append, append_assoc}
use Rattle.std.specs.List.{filter, flat_map, range_with_len}
use Rattle.std.proofs.lemmas.Bool.{false≢true, and_parts, cases_Bool, eq-eqb, false_from_ne_true}
use Rattle.std.proofs.lemmas.List.Elements.{filter-append}
use Rattle.study_board.specs.declared.men.Man.{Man}
use Rattle.study_board.specs.declared.men.Side.{Side}
use Rattle.study_board.specs.declared.men.Side.TheVariants.{White, Black}
use Rattle.study_board.specs.declared.men.Kind.{Kind}
use Rattle.study_board.specs.declared.men.Kind.TheVariants.{King, Queen, Rook, Bishop, Knight, Pawn}
use Rattle.study_board.specs.Men.{same_kind, is_pawn}
use Rattle.study_board.specs.Position.{man_at}
use Rattle.study_moves.specs.declared.moves.Move.{Move}
use Rattle.study_moves.specs.Rules.{reaches_target, is_promotion_choice, reaches_last_rank}
use Rattle.study_moves.specs.LegalList.{moves_between}
use Rattle.study_moves.specs.MoveCount.{most_moves}
use Rattle.study_moves.proofs.FewMoves.{moves_below, moves_below-next, moves_below-more, moves_below-most}
use Rattle.study_moves.proofs.NoMoveBetween.{IsMoveOf-at}
use Rattle.study_wide.specs.declared.castling.Wing.{Wing}
use Rattle.study_wide.specs.declared.castling.Wing.TheVariants.{Short, Long}
use Rattle.study_wide.specs.Wide.{Wide, IsWide}
use Rattle.study_wide.specs.Castling.{king_target}
use Rattle.study_wide.specs.Rules.{is_wide_legal}
use Rattle.study_wide.specs.LegalList.{legal_from, legal_between}
use Rattle.study_wide.proofs.Movers.{IsMover-at}
use Rattle.study_wide.proofs.MovesOfMan.{filter-flat_map}

-- the castlings with the target x, and those with a target below n
castlings_at : Side → ℕ → ℕ
castlings_at side x = cond (x == king_target side Short) 1 0 + cond (x == king_target side Long) 1 0

castlings_below : Side → ℕ → ℕ
castlings_below side zero = 0
castlings_below side (suc n) = castlings_below side n + castlings_at side n

two_castlings : (side : Side) → castlings_below side 64 ≡ 2
unfolding castlings_below castlings_at
two_castlings White = refl
two_castlings Black = refl

-- the length of the list of at most five
one_if : (p : Move → Bool) (a x : ℕ) (q : Option Kind) → ℕ
one_if p a x q = cond (p (record { origin = a; target = x; promoted = q })) 1 0

length-kept : (p : Move → Bool) (m : Move) (ms : List Move) → length (filter p (m ∷ ms)) ≡ cond (p m) 1 0 + length (filter p ms)
length-kept p m ms =
    elim (p m) as (λ b. length (cond b (m ∷ filter p ms) (filter p ms)) ≡ cond b 1 0 + length (filter p ms)) [ true ↦ omega arith | false ↦ omega arith ]

length-between : (p : Move → Bool) (a x : ℕ)
    → length (filter p (moves_between a x))
    ≡ one_if p a x None + (one_if p a x (Some Queen) + (one_if p a x (Some Rook) + (one_if p a x (Some Bishop) + one_if p a x (Some Knight))))
unfolding one_if
length-between p a x =
    let made : Option Kind → Move = λ q. record { origin = a; target = x; promoted = q } in
    let e = length-kept p (made (Some Knight)) [] in
    let d = length-kept p (made (Some Bishop)) (made (Some Knight) ∷ []) in
    let c = length-kept p (made (Some Rook)) (made (Some Bishop) ∷ made (Some Knight) ∷ []) in
    let b = length-kept p (made (Some Queen)) (made (Some Rook) ∷ made (Some Bishop) ∷ made (Some Knight) ∷ []) in
    let f = length-kept p (made None) (made (Some Queen) ∷ made (Some Rook) ∷ made (Some Bishop) ∷ made (Some Knight) ∷ []) in
    omega (arith, b, c, d, e, f)

at_most_one : (p : Move → Bool) (a x : ℕ) (q : Option Kind) → one_if p a x q ≤ 1
unfolding one_if
at_most_one p a x q = elim (p (record { origin = a; target = x; promoted = q })) as (λ b. cond b 1 0 ≤ 1) [ true ↦ omega arith | false ↦ omega arith ]

none_if : (p : Move → Bool) (a x : ℕ) (q : Option Kind) → p (record { origin = a; target = x; promoted = q }) ≡ false → one_if p a x q ≡ 0
unfolding one_if
none_if p a x q e = rw e refl

module _ (g : Wide) (man : Man) (wide : IsWide g) (here : man_at g.board.men man.at ≡ Some man) where
  abbrev p : Move → Bool
  p = is_wide_legal g

  abbrev made : ℕ → Option Kind → Move
  made x q = record { origin = man.at; target = x; promoted = q }

  -- what a legal move of the man to x tells
  record IsTold (x : ℕ) (q : Option Kind) : Type 0 where
    how : ((reaches_target g.board.men g.board.passed man x ≡ true) × (is_promotion_choice (reaches_last_rank man x) q ≡ true))
        ⊎ ((man.kind ≡ King) × ((w : Wing) × (x ≡ king_target g.board.to_move w)) × (q ≡ None))

  told : (x : ℕ) (q : Option Kind) → is_wide_legal g (made x q) ≡ true → IsTold x q
  told x q e =
      let h = IsMover-at g man (made x q) wide here refl e in
      record {
        how = elim h.0.how [
          | inl plain ↦ (let k = IsMoveOf-at g.board man (made x q) here refl plain in inl (k.going, k.choice))
          | inr castling ↦ inr (ap (λ (y : Man). y.kind) (sym h.1) ∙ castling.2, (castling.0, castling.1.target), castling.1.whole)
        ];
      }

  extra_at : ℕ → ℕ
  extra_at x = cond (same_kind man.kind King) (castlings_at g.board.to_move x) 0

  extra_below : ℕ → ℕ
  extra_below x = cond (same_kind man.kind King) (castlings_below g.board.to_move x) 0

  extra-next : (n : ℕ) → extra_below (suc n) ≡ extra_below n + extra_at n
  unfolding extra_below extra_at castlings_below
  extra-next n = elim (same_kind man.kind King) as (λ b. cond b (castlings_below g.board.to_move n + castlings_at g.board.to_move n) 0
      ≡ cond b (castlings_below g.board.to_move n) 0 + cond b (castlings_at g.board.to_move n) 0) [ true ↦ refl | false ↦ omega arith ]

  castling_counts : (x : ℕ) → man.kind ≡ King → (w : Wing) → x ≡ king_target g.board.to_move w → 1 ≤ extra_at x
  unfolding extra_at castlings_at
  castling_counts x king w e =
      let is : same_kind man.kind King ≡ true = ap (λ k. same_kind k King) king in
      rw is (elim w as (λ v. x ≡ king_target g.board.to_move v
      → 1 ≤ cond (x == king_target g.board.to_move Short) 1 0 + cond (x == king_target g.board.to_move Long) 1 0) [
        | Short ↦ λ s. (let t = eq-eqb x (king_target g.board.to_move Short) s in rw t (omega arith))
        | Long ↦ λ s. (let t = eq-eqb x (king_target g.board.to_move Long) s in rw t (omega arith))
      ] e)

  no_king_at_end : (x : ℕ) → man.kind ≡ King → reaches_last_rank man x ≡ true → ⊥
  no_king_at_end x king e =
      let pawn = (and_parts (is_pawn man) _ e).0 in
      false≢true (ap (λ k. same_kind k Pawn) (sym king) ∙ pawn)

  -- a pawn on its last rank promotes, and no other man does
  pub none_at_end : (x : ℕ) → reaches_last_rank man x ≡ true → is_wide_legal g (record { origin = man.at; target = x; promoted = None }) ≡ false
  none_at_end x end = false_from_ne_true _ (λ e. elim (told x None e).how [
    | inl t ↦ false≢true (ap (λ c. is_promotion_choice c None) (sym end) ∙ t.1)
    | inr t ↦ no_king_at_end x t.0 end
  ])

  pub none_elsewhere : (x : ℕ) (c : Kind) → reaches_last_rank man x ≡ false
      → is_wide_legal g (record { origin = man.at; target = x; promoted = Some c }) ≡ false
  none_elsewhere x c mid = false_from_ne_true _ (λ e. elim (told x (Some c) e).how [
    | inl t ↦ false≢true (ap (λ l. is_promotion_choice l (Some c)) (sym mid) ∙ t.1)
    | inr t ↦ (let no : ⊥ = cc t.2 in no)
  ])

  -- to a square to which the man goes
  length-goes : (x : ℕ) → reaches_target g.board.men g.board.passed man x ≡ true → length (legal_between g man.at x) ≤ cond (reaches_last_rank man x) 4 1
  unfolding legal_between
  length-goes x goes =
      let whole = length-between p man.at x in
      let n = at_most_one p man.at x None in
      let q = at_most_one p man.at x (Some Queen) in
      let r = at_most_one p man.at x (Some Rook) in
      let b = at_most_one p man.at x (Some Bishop) in
      let k = at_most_one p man.at x (Some Knight) in
      elim (cases_Bool (reaches_last_rank man x)) [
        | inl end ↦
            let none = none_if p man.at x None (none_at_end x end) in
            rw end (omega (arith, whole, none, q, r, b, k))
        | inr mid ↦
            let none : (c : Kind) → one_if p man.at x (Some c) ≡ 0 = λ c. none_if p man.at x (Some c) (none_elsewhere x c mid) in
            rw mid (omega (arith, whole, n, none Queen, none Rook, none Bishop, none Knight))
      ]

  -- to any other square
  length-castles : (x : ℕ) → reaches_target g.board.men g.board.passed man x ≡ false → length (legal_between g man.at x) ≤ extra_at x
  unfolding legal_between
  length-castles x stays =
      let whole = length-between p man.at x in
      let none : (c : Kind) → one_if p man.at x (Some c) ≡ 0 = λ c. none_if p man.at x (Some c) (false_from_ne_true _ (λ e. elim (told x (Some c) e).how [
        | inl t ↦ false≢true (sym stays ∙ t.0)
        | inr t ↦ (let no : ⊥ = cc t.2 in no)
      ])) in
      elim (cases_Bool (is_wide_legal g (made x None))) [
        | inl legal ↦
            let n = at_most_one p man.at x None in
            let one = elim (told x None legal).how as (λ _. 1 ≤ extra_at x) [
              | inl t ↦ absurd (false≢true (sym stays ∙ t.0))
              | inr t ↦ castling_counts x t.0 t.1.0 t.1.1
            ] in
            omega (arith, whole, n, one, none Queen, none Rook, none Bishop, none Knight)
        | inr illegal ↦
            let n = none_if p man.at x None illegal in
            omega (arith, whole, n, none Queen, none Rook, none Bishop, none Knight)
      ]

  bound : ℕ → ℕ
  bound n = moves_below man.side man.kind man.at n + extra_below n

  step : (n : ℕ) → length (legal_between g man.at n) + bound n ≤ bound (n + 1)
  unfolding bound
  step n =
      let up : n + 1 ≡ suc n = omega arith in
      let next = extra-next n in
      let same = ap extra_below up in
      elim (cases_Bool (reaches_target g.board.men g.board.passed man n)) [
        | inl goes ↦
            let l = length-goes n goes in
            let m = moves_below-next g.board.men g.board.passed man n n (omega arith) goes in
            omega (arith, l, m, next, same)
        | inr stays ↦
            let l = length-castles n stays in
            let m = moves_below-more man.side man.kind man.at n (n + 1) (omega arith) in
            omega (arith, l, m, next, same)
      ]

  from : (s n : ℕ) → length (flat_map (legal_between g man.at) (range_with_len s n)) + bound s ≤ bound (s + n)
  from s zero = let e : bound s ≡ bound (s + 0) = ap bound (omega arith) in omega (arith, e)
  from s (suc n) =
      let here = step s in
      let rest = from (s + 1) n in
      let split = length-append (legal_between g man.at s) (flat_map (legal_between g man.at) (range_with_len (s + 1) n)) in
      let e : bound (s + 1 + n) ≡ bound (s + suc n) = ap bound (omega arith) in
      omega (arith, here, rest, split, e)

  most : (k : Kind) → most_moves k + cond (same_kind k King) 2 0 ≤ 27
  most King = omega arith
  most Queen = omega arith
  most Rook = omega arith
  most Bishop = omega arith
  most Knight = omega arith
  most Pawn = omega arith

  bound_ends : man.at < 64 → bound 64 ≤ 27
  unfolding bound extra_below
  bound_ends low =
      let a = moves_below-most man.side man.kind man.at low in
      let b : cond (same_kind man.kind King) (castlings_below g.board.to_move 64) 0 ≡ cond (same_kind man.kind King) 2 0 =
      ap (λ k. cond (same_kind man.kind King) k 0) (two_castlings g.board.to_move) in
      let c = most man.kind in
      omega (arith, a, b, c)

  pub few_moves : man.at < 64 → length (legal_from g man.at) ≤ 27
  unfolding legal_from legal_between
  few_moves low =
      let e = ap (λ (l : List Move). length l) (filter-flat_map (is_wide_legal g) (moves_between man.at) (range_with_len 0 64)) in
      let f = from 0 64 in
      let t = bound_ends low in
      omega (arith, e, f, t)

-- ---- as the list grows

one_more_move : (p : Move → Bool) (m n : Move) (ms : List Move) → filter p (m ∷ n ∷ ms) ≡ filter p (m ∷ []) ++ filter p (n ∷ ms)
one_more_move p m n ms = filter-append p (m ∷ []) (n ∷ ms)

four_moves : (p : Move → Bool) (q r b k : Move) (old : List Move)
    → (((old ++ filter p (q ∷ [])) ++ filter p (r ∷ [])) ++ filter p (b ∷ [])) ++ filter p (k ∷ []) ≡ old ++ filter p (q ∷ r ∷ b ∷ k ∷ [])
four_moves p q r b k old =
    let whole : filter p (q ∷ r ∷ b ∷ k ∷ []) ≡ filter p (q ∷ []) ++ (filter p (r ∷ []) ++ (filter p (b ∷ []) ++ filter p (k ∷ []))) =
    one_more_move p q r (b ∷ k ∷ []) ∙ ap (λ (l : List Move). filter p (q ∷ []) ++ l) (one_more_move p r b (k ∷ [])
    ∙ ap (λ (l : List Move). filter p (r ∷ []) ++ l) (one_more_move p b k [])) in
    append_assoc ((old ++ filter p (q ∷ [])) ++ filter p (r ∷ [])) (filter p (b ∷ [])) (filter p (k ∷ []))
    ∙ (append_assoc (old ++ filter p (q ∷ [])) (filter p (r ∷ [])) (filter p (b ∷ []) ++ filter p (k ∷ []))
    ∙ (append_assoc old (filter p (q ∷ [])) (filter p (r ∷ []) ++ (filter p (b ∷ []) ++ filter p (k ∷ [])))
    ∙ ap (λ (l : List Move). old ++ l) (sym whole)))

module _ (g : Wide) (man : Man) (wide : IsWide g) (here : man_at g.board.men man.at ≡ Some man) (x : ℕ) (old : List Move) where
  pub at_end : reaches_last_rank man x ≡ true → (((old ++ filter (is_wide_legal g) (record { origin = man.at; target = x; promoted = Some Queen } ∷ []))
      ++ filter (is_wide_legal g) (record { origin = man.at; target = x; promoted = Some Rook } ∷ []))
      ++ filter (is_wide_legal g) (record { origin = man.at; target = x; promoted = Some Bishop } ∷ []))
      ++ filter (is_wide_legal g) (record { origin = man.at; target = x; promoted = Some Knight } ∷ []) ≡ old ++ legal_between g man.at x
  unfolding legal_between
  at_end end =
      let none = none_at_end g man wide here x end in
      four_moves (is_wide_legal g) _ _ _ _ old ∙ rw none refl

  pub elsewhere : reaches_last_rank man x ≡ false → old ++ filter (is_wide_legal g) (record {
    origin = man.at;
    target = x;
    promoted =
        None;
  } ∷ []) ≡ old ++ legal_between g man.at x
  unfolding legal_between
  elsewhere mid =
      let q = none_elsewhere g man wide here x Queen mid in
      let r = none_elsewhere g man wide here x Rook mid in
      let b = none_elsewhere g man wide here x Bishop mid in
      let k = none_elsewhere g man wide here x Knight mid in
      rw (q, r, b, k) refl

  abbrev pub kept : Kind → List Move
  kept k = filter (is_wide_legal g) (record { origin = man.at; target = x; promoted = Some k } ∷ [])

  -- there is room for one promotion after the other
  pub record IsRoom : Type 0 where
    pub queen : length old + length (kept Queen) ≤ 432
    pub rook : length (old ++ kept Queen) + length (kept Rook) ≤ 432
    pub bishop : length ((old ++ kept Queen) ++ kept Rook) + length (kept Bishop) ≤ 432
    pub knight : length (((old ++ kept Queen) ++ kept Rook) ++ kept Bishop) + length (kept Knight) ≤ 432

  pub room_at_end : reaches_last_rank man x ≡ true → length old + length (legal_between g man.at x) ≤ 432 → IsRoom
  room_at_end end room =
      let all = ap (λ (l : List Move). length l) (at_end end) ∙ length-append old (legal_between g man.at x) in
      let four = length-append (((old ++ kept Queen) ++ kept Rook) ++ kept Bishop) (kept Knight) in
      let three = length-append ((old ++ kept Queen) ++ kept Rook) (kept Bishop) in
      let two = length-append (old ++ kept Queen) (kept Rook) in
      let one = length-append old (kept Queen) in
      record { queen = omega arith; rook = omega arith; bishop = omega arith; knight = omega arith }
