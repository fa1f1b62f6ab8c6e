-- Quiet moves stay in the class, and no other moves do.
use Rattle.std.proofs.Common.{◌≡◌, ◌≢◌, ℕ, ◌+◌, ◌*◌, ◌<◌, ◌≤◌, ◌==◌, eqb, Bool, true, false, cond}
use Rattle.std.proofs.Common.{nat_lt, not, ◌&&◌, ◌||◌, ◌⊎◌, inl, inr, List, [], ◌∷◌, ◌++◌, map, Option}
use Rattle.std.proofs.Common.{Some, None, unwrap_or, refl, sym, ◌∙◌, ap, subst, arith}
use Rattle.std.specs.Prelude.{sum_by, count_by}
use Rattle.std.specs.List.{filter, list_any}
use Rattle.std.specs.List.Sorted.{IsPermutation}
use Rattle.std.proofs.lemmas.Bool.{false≢true, false_from_ne_true, and_parts, eqb-true}
use Rattle.std.proofs.lemmas.Bool.Decides.{nat_tests}
use Rattle.std.proofs.lemmas.List.Sums.{sum_by-cons}
use Rattle.study_board.proofs.Lists.{count_by-cons}
use Rattle.std.proofs.lemmas.List.Sorted.{IsPermutation-trans, IsPermutation-append_comm, IsPermutation-sym, sum_by-IsPermutation, list_any-IsPermutation}
use Rattle.std.proofs.lemmas.List.Sorted.{IsPermutation-map}
use Rattle.study_board.specs.declared.men.Man.{Man}
use Rattle.study_board.specs.declared.men.Side.{Side}
use Rattle.study_board.specs.declared.men.Side.TheVariants.{White, Black}
use Rattle.study_board.specs.declared.men.Kind.{Kind}
use Rattle.study_board.specs.declared.men.Kind.TheVariants.{King, Queen, Rook, Bishop, Knight, Pawn}
use Rattle.study_board.specs.EqualLaws.{kinds_equal}
use Rattle.study_board.specs.Geometry.{file_of, rank_of}
use Rattle.study_board.specs.Men.{same_side, other_side, is_man, is_pawn, moved_if}
use Rattle.study_board.specs.Position.{Position, IsValid, AllAbove, IsAscending, is_occupied, has_man, man_at}
use Rattle.study_moves.specs.declared.moves.Move.{Move}
use Rattle.study_moves.specs.Rules.{is_en_passant, is_square, has_side, survives, moved_man, is_legal, after, is_promotion_choice, is_promotion_piece}
use Rattle.study_moves.specs.Rules.{reaches_last_rank, last_rank}
use Rattle.study_moves.specs.Unmoves.{IsQuiet}
use Rattle.study_moves.proofs.MenOfList.{IsAmong, none_among, some_among, found_among}
use Rattle.study_moves.proofs.NoMoveBetween.{HasMover-from_is_legal}
use Rattle.study_moves.proofs.AfterMove.{IsMoveFrom-is_legal, IsValid-after, en_passant_pawn}
use Rattle.study_material.specs.declared.class.Class.{Class}
use Rattle.study_material.specs.Lists.{Lists, kind_place, put_kind, kinds_of, lists, ordered_lists, lists_exchanged, is_exchanged}
use Rattle.study_material.specs.Class.{IsOf}
use Rattle.study_material.proofs.KindCounts.{lists-IsPermutation}
use Rattle.study_material.proofs.MenBesideKings.{one_king}
use Rattle.study_material.proofs.MenAfterMove.{goes_away, IsStep-move}
use Rattle.study_index.proofs.Fillings.{AreApart-ascending}
use Rattle.study_index.proofs.AddedNumbers.{moves_there, none_moves}
use Rattle.study_material.proofs.MovesOn.{passed_there, passed_empty}

-- a pawn weighs more than the kind that it promotes to
abbrev pub weight_of : Kind → ℕ
weight_of Pawn = 2
weight_of _ = 1

abbrev pub weight : Man → ℕ
weight m = weight_of m.kind

light : (k : Kind) → 1 ≤ weight_of k
light King = omega arith
light Queen = omega arith
light Rook = omega arith
light Bishop = omega arith
light Knight = omega arith
light Pawn = omega arith

weight-put : (k : Kind) (l : List Kind) → sum_by weight_of (put_kind k l) ≡ weight_of k + sum_by weight_of l
weight-put k [] = sum_by-cons weight_of k []
weight-put k (x ∷ xs) = by_test (nat_lt (kind_place x) (kind_place k)) (weight-put k xs)
  where
    by_test : (b : Bool) → sum_by weight_of (put_kind k xs) ≡ weight_of k + sum_by weight_of xs
        → sum_by weight_of (cond b (x ∷ put_kind k xs) (k ∷ x ∷ xs)) ≡ weight_of k + sum_by weight_of (x ∷ xs)
    by_test true h = (let a = sum_by-cons weight_of x (put_kind k xs) in let c = sum_by-cons weight_of x xs in omega (arith, h))
    by_test false h = sum_by-cons weight_of k (x ∷ xs)

abbrev both : Lists → ℕ
both l = sum_by weight_of l.white + sum_by weight_of l.black

both-ordered_lists : (l : Lists) → both (ordered_lists l) ≡ both l
both-ordered_lists l = by_test (is_exchanged l)
  where
    by_test : (b : Bool) → both (cond b (lists_exchanged l) l) ≡ both l
    by_test true = omega arith
    by_test false = refl

abbrev kings : List Man → ℕ
kings xs = count_by (is_man White King) xs + count_by (is_man Black King) xs

-- all men, by the lists and the kings
weight-lists : (xs : List Man) → sum_by weight xs ≡ both (lists xs) + kings xs
weight-lists [] = refl
weight-lists (x ∷ xs) = sum_by-cons weight x xs ∙ by_man x.side x.kind x.at (weight-lists xs)
  where
    by_man : (s : Side) (k : Kind) (a : ℕ) → sum_by weight xs ≡ both (lists xs) + kings xs
        → weight_of k + sum_by weight xs ≡ both (lists (record { side = s; kind = k; at = a } ∷ xs)) + kings (record { side = s; kind = k; at = a } ∷ xs)
    by_man White King a h =
        (let u = sum_by-cons (λ m. cond (is_man White King m) 1 0) (record { side = White; kind = King; at = a })
        xs in let v = sum_by-cons (λ m. cond (is_man Black King m) 1 0)
        (record { side = White; kind = King; at = a }) xs in omega (arith, h, u, v))
    by_man White Queen a h =
        (let u = sum_by-cons (λ m. cond (is_man White King m) 1 0) (record { side = White; kind = Queen; at = a })
        xs in let v = sum_by-cons (λ m. cond (is_man Black King m) 1 0)
        (record { side = White; kind = Queen; at = a }) xs in
        let p = weight-put Queen (kinds_of White xs) in omega (arith, h, u, v, p))
    by_man White Rook a h =
        (let u = sum_by-cons (λ m. cond (is_man White King m) 1 0) (record { side = White; kind = Rook; at = a })
        xs in let v = sum_by-cons (λ m. cond (is_man Black King m) 1 0)
        (record { side = White; kind = Rook; at = a }) xs in let p = weight-put Rook (kinds_of White xs) in omega
        (arith, h, u, v, p))
    by_man White Bishop a h =
        (let u = sum_by-cons (λ m. cond (is_man White King m) 1 0) (record { side = White; kind = Bishop; at = a })
        xs in let v = sum_by-cons (λ m. cond (is_man Black King m) 1 0)
        (record { side = White; kind = Bishop; at = a }) xs in
        let p = weight-put Bishop (kinds_of White xs) in omega (arith, h, u, v, p))
    by_man White Knight a h =
        (let u = sum_by-cons (λ m. cond (is_man White King m) 1 0) (record { side = White; kind = Knight; at = a })
        xs in let v = sum_by-cons (λ m. cond (is_man Black King m) 1 0)
        (record { side = White; kind = Knight; at = a }) xs in
        let p = weight-put Knight (kinds_of White xs) in omega (arith, h, u, v, p))
    by_man White Pawn a h =
        (let u = sum_by-cons (λ m. cond (is_man White King m) 1 0) (record { side = White; kind = Pawn; at = a })
        xs in let v = sum_by-cons (λ m. cond (is_man Black King m) 1 0)
        (record { side = White; kind = Pawn; at = a }) xs in let p = weight-put Pawn (kinds_of White xs) in omega
        (arith, h, u, v, p))
    by_man Black King a h =
        (let u = sum_by-cons (λ m. cond (is_man White King m) 1 0) (record { side = Black; kind = King; at = a })
        xs in let v = sum_by-cons (λ m. cond (is_man Black King m) 1 0)
        (record { side = Black; kind = King; at = a }) xs in omega (arith, h, u, v))
    by_man Black Queen a h =
        (let u = sum_by-cons (λ m. cond (is_man White King m) 1 0) (record { side = Black; kind = Queen; at = a })
        xs in let v = sum_by-cons (λ m. cond (is_man Black King m) 1 0)
        (record { side = Black; kind = Queen; at = a }) xs in
        let p = weight-put Queen (kinds_of Black xs) in omega (arith, h, u, v, p))
    by_man Black Rook a h =
        (let u = sum_by-cons (λ m. cond (is_man White King m) 1 0) (record { side = Black; kind = Rook; at = a })
        xs in let v = sum_by-cons (λ m. cond (is_man Black King m) 1 0)
        (record { side = Black; kind = Rook; at = a }) xs in let p = weight-put Rook (kinds_of Black xs) in omega
        (arith, h, u, v, p))
    by_man Black Bishop a h =
        (let u = sum_by-cons (λ m. cond (is_man White King m) 1 0) (record { side = Black; kind = Bishop; at = a })
        xs in let v = sum_by-cons (λ m. cond (is_man Black King m) 1 0)
        (record { side = Black; kind = Bishop; at = a }) xs in
        let p = weight-put Bishop (kinds_of Black xs) in omega (arith, h, u, v, p))
    by_man Black Knight a h =
        (let u = sum_by-cons (λ m. cond (is_man White King m) 1 0) (record { side = Black; kind = Knight; at = a })
        xs in let v = sum_by-cons (λ m. cond (is_man Black King m) 1 0)
        (record { side = Black; kind = Knight; at = a }) xs in
        let p = weight-put Knight (kinds_of Black xs) in omega (arith, h, u, v, p))
    by_man Black Pawn a h =
        (let u = sum_by-cons (λ m. cond (is_man White King m) 1 0) (record { side = Black; kind = Pawn; at = a })
        xs in let v = sum_by-cons (λ m. cond (is_man Black King m) 1 0)
        (record { side = Black; kind = Pawn; at = a }) xs in let p = weight-put Pawn (kinds_of Black xs) in omega
        (arith, h, u, v, p))

among_filter : (f : Man → Bool) (xs : List Man) (m : Man) → IsAmong m xs → f m ≡ true → IsAmong m (filter f xs)
among_filter f [] m i e = absurd i
among_filter f (x ∷ xs) m (inl s) e = here (f x) (ap f s ∙ e)
  where
    here : (b : Bool) → b ≡ true → IsAmong m (cond b (x ∷ filter f xs) (filter f xs))
    here true h = inl s
    here false h = absurd (false≢true h)
among_filter f (x ∷ xs) m (inr i) e = later (f x) (among_filter f xs m i e)
  where
    later : (b : Bool) → IsAmong m (filter f xs) → IsAmong m (cond b (x ∷ filter f xs) (filter f xs))
    later true h = inr h
    later false h = h

one_weighs : (xs : List Man) (a : Man) → IsAmong a xs → weight a ≤ sum_by weight xs
one_weighs [] a i = absurd i
one_weighs (x ∷ xs) a (inl e) = let c = sum_by-cons weight x xs in let w : weight x ≡ weight a = ap weight e in omega arith
one_weighs (x ∷ xs) a (inr i) = let c = sum_by-cons weight x xs in let w = one_weighs xs a i in omega arith

two_weigh : (xs : List Man) (a b : Man) → IsAmong a xs → IsAmong b xs → a.at ≢ b.at → weight a + weight b ≤ sum_by weight xs
two_weigh [] a b i j n = absurd i
two_weigh (x ∷ xs) a b (inl e) (inl f) n = absurd (n (ap (λ (z : Man). z.at) (sym e ∙ f)))
two_weigh (x ∷ xs) a b (inl e) (inr j) n = let c = sum_by-cons weight x xs in
    let w : weight x ≡ weight a = ap weight e in let l = one_weighs xs b j in omega arith
two_weigh (x ∷ xs) a b (inr i) (inl f) n = let c = sum_by-cons weight x xs in
    let w : weight x ≡ weight b = ap weight f in let l = one_weighs xs a i in omega arith
two_weigh (x ∷ xs) a b (inr i) (inr j) n = let c = sum_by-cons weight x xs in let l = two_weigh xs a b i j n in omega arith

sum-append : (xs ys : List Man) → sum_by weight (xs ++ ys) ≡ sum_by weight xs + sum_by weight ys
sum-append [] ys = omega arith
sum-append (x ∷ xs) ys = let a = sum_by-cons weight x (xs ++ ys) in let b = sum_by-cons weight x xs in let c = sum-append xs ys in omega arith

filter_none : (g : Man → Bool) (xs : List Man) → ((y : Man) → IsAmong y xs → g y ≡ true → ⊥) → filter g xs ≡ []
filter_none g [] h = refl
filter_none g (x ∷ xs) h = by_test (g x) (h x (inl refl)) (filter_none g xs (λ y i. h y (inr i)))
  where
    by_test : (b : Bool) → (b ≡ true → ⊥) → filter g xs ≡ [] → cond b (x ∷ filter g xs) (filter g xs) ≡ []
    by_test true n e = absurd (n refl)
    by_test false n e = e

above_each : (n : ℕ) (xs : List Man) → AllAbove n xs → (y : Man) → IsAmong y xs → n < y.at
above_each n [] h y i = absurd i
above_each n (x ∷ xs) h y (inl e) = subst (λ (z : Man). n < z.at) e h.0
above_each n (x ∷ xs) h y (inr i) = above_each n xs h.1 y i

filter_one : (g : Man → Bool) (xs : List Man) → IsAscending xs → (a : Man) → IsAmong a xs → g a ≡ true
    → ((y : Man) → IsAmong y xs → g y ≡ true → y.at ≡ a.at) → filter g xs ≡ a ∷ []
filter_one g [] o a i e h = absurd i
filter_one g (x ∷ xs) o a (inl s) e h =
    by_test (g x) (ap g s ∙ e)
    (filter_none g xs
    (λ y i t. (let k = h y (inr i) t in let l = above_each x.at xs o.0 y i in
    let m : x.at ≡ a.at = ap (λ (z : Man). z.at) s in omega arith)))
  where
    by_test : (b : Bool) → b ≡ true → filter g xs ≡ [] → cond b (x ∷ filter g xs) (filter g xs) ≡ a ∷ []
    by_test true t n = ap (λ (ys : List Man). x ∷ ys) n ∙ ap (λ (z : Man). z ∷ []) s
    by_test false t n = absurd (false≢true t)
filter_one g (x ∷ xs) o a (inr i) e h = by_test (g x) (h x (inl refl)) (filter_one g xs o.1 a i e (λ y j. h y (inr j)))
  where
    by_test : (b : Bool) → (b ≡ true → x.at ≡ a.at) → filter g xs ≡ a ∷ [] → cond b (x ∷ filter g xs) (filter g xs) ≡ a ∷ []
    by_test true t n = absurd (let k = t refl in let l = above_each x.at xs o.0 a i in omega arith)
    by_test false t n = n

module _ (p : Position) (m : Move) (v : IsValid p) (legal : is_legal p m ≡ true) where
  abbrev mover : Man
  mover = (HasMover-from_is_legal p m legal).man

  abbrev left : List Man
  left = filter (survives p.passed mover m.target) p.men

  abbrev gone : List Man
  gone = filter (goes_away p.passed mover m.target) p.men

  found : IsAmong mover p.men × (mover.at ≡ m.origin)
  found = found_among p.men m.origin mover (HasMover-from_is_legal p m legal).here

  same_number : (n k : ℕ) → n ≡ k → eqb n k ≡ true
  same_number n k e = grind (arith, nat_tests)

  mover_goes : goes_away p.passed mover m.target mover ≡ true
  unfolding survives
  mover_goes = (let same : eqb mover.at mover.at ≡ true = same_number mover.at mover.at refl in rw same refl)

  step_empty : is_en_passant p.passed mover m.target ≡ true → list_any (λ y. y.at == m.target) p.men ≡ false
  step_empty e = passed_empty p.men p.to_move m.target (passed_there p mover m.target v e)

  after_men : IsPermutation (moved_man mover m ∷ left) (after p m).men
  unfolding after
  after_men = (let e = (HasMover-from_is_legal p m legal).here in rw e (IsStep-move p mover m v.ordered step_empty).after)

  before_men : IsPermutation p.men (left ++ gone)
  before_men = (IsStep-move p mover m v.ordered step_empty).before

  -- the mover does not stand on the target
  goes_elsewhere : mover.at ≢ m.target
  unfolding has_side
  goes_elsewhere e =
      let h = HasMover-from_is_legal p m legal in
      let free = (IsMoveFrom-is_legal p mover m v h.here h.moves).free in
      let none = none_among (λ y. same_side y.side p.to_move && (y.at == m.target)) p.men mover free found.0 in
      let mine = h.moves.mine in
      let at : (mover.at == m.target) ≡ true = same_number mover.at m.target e in
      false≢true (sym none ∙ rw (mine, at) refl)

  sums : sum_by weight (after p m).men + sum_by weight gone ≡ sum_by weight p.men + weight (moved_man mover m)
  sums =
      let a = sum_by-IsPermutation weight (moved_man mover m ∷ left) (after p m).men after_men in
      let b = sum_by-IsPermutation weight p.men (left ++ gone) before_men in
      let c = sum-append left gone in
      let d = sum_by-cons weight (moved_man mover m) left in
      omega arith

  same_sums : (c : Class) → IsOf c p → IsOf c (after p m) → sum_by weight (after p m).men ≡ sum_by weight p.men
  same_sums c h k =
      let w = IsValid-after p m v legal in
      let x = one_king p v in
      let y = one_king (after p m) w in
      let a = weight-lists p.men in
      let b = weight-lists (after p m).men in
      let d : both (lists p.men) ≡ both (lists (after p m).men) =
      sym (both-ordered_lists (lists p.men)) ∙ ap both (sym h ∙ k) ∙ both-ordered_lists (lists (after p m).men) in
      omega (arith, x.0, x.1, y.0, y.1)

  -- a promotion makes the mover lighter, and no move heavier
  moved_weight : (o : Option Kind) → is_promotion_choice (reaches_last_rank mover m.target) o ≡ true → (o ≡ None)
      × (weight_of (unwrap_or o mover.kind) ≡ weight mover) ⊎ (weight_of (unwrap_or o mover.kind) < weight mover)
  moved_weight None e = inl (refl, refl)
  moved_weight (Some k) e = by_end (reaches_last_rank mover m.target) refl e
    where
      by_end : (b : Bool) → reaches_last_rank mover m.target ≡ b → is_promotion_choice b (Some k) ≡ true → (Some k ≡ None)
          × (weight_of k ≡ weight mover) ⊎ (weight_of k < weight mover)
      by_end false f g = absurd (false≢true g)
      by_end true f g = inr (
          let pawn : mover.kind ≡ Pawn = kinds_equal mover.kind Pawn (and_parts (is_pawn mover) (rank_of m.target == last_rank mover.side) f).0 in
          subst (λ (j : Kind). weight_of k < weight_of j) (sym pawn) (officer k g))
        where
          officer : (j : Kind) → is_promotion_piece j ≡ true → weight_of j < 2
          officer Queen t = omega arith
          officer Rook t = omega arith
          officer Bishop t = omega arith
          officer Knight t = omega arith
          officer King t = absurd (false≢true t)
          officer Pawn t = absurd (false≢true t)

  one : weight mover ≤ sum_by weight gone
  one = one_weighs gone mover (among_filter (goes_away p.passed mover m.target) p.men mover found.0 mover_goes)

  choice : is_promotion_choice (reaches_last_rank mover m.target) m.promoted ≡ true
  choice = (HasMover-from_is_legal p m legal).moves.choice

  -- if a second man goes away, the men weigh less
  lighter : (c : Class) → IsOf c p → IsOf c (after p m) → (y : Man) → IsAmong y p.men → goes_away p.passed mover m.target y ≡ true → mover.at ≢ y.at → ⊥
  lighter c h k y i away apart =
      let two =
      two_weigh gone mover y (among_filter (goes_away p.passed mover m.target) p.men mover found.0 mover_goes)
      (among_filter (goes_away p.passed mover m.target) p.men y i away) apart in
      let l = light y.kind in
      let s = sums in
      let b = same_sums c h k in
      elim (moved_weight m.promoted choice) [ inl x ↦ omega (arith, x.1) | inr w ↦ omega arith ]

  -- the square of the pawn that a capture in passing captures
  abbrev behind : ℕ
  behind = 8 * rank_of mover.at + file_of m.target

  behind_aside : is_en_passant p.passed mover m.target ≡ true → mover.at ≢ behind
  unfolding is_en_passant
  behind_aside e at =
      let a = and_parts (is_pawn mover && not (file_of mover.at == file_of m.target)) (is_square p.passed m.target) e in
      let b = and_parts (is_pawn mover) (not (file_of mover.at == file_of m.target)) a.0 in
      let same : file_of mover.at ≡ file_of m.target = omega (arith, at) in
      false≢true (sym (ap not (same_number (file_of mover.at) (file_of m.target) same)) ∙ b.1)

  behind_goes : (y : Man) → is_en_passant p.passed mover m.target ≡ true → (y.at == behind) ≡ true → goes_away p.passed mover m.target y ≡ true
  unfolding survives
  behind_goes y e t = rw (e, t) (by_both (y.at == mover.at) (y.at == m.target))
    where
      by_both : (a b : Bool) → not (not a && not b && false) ≡ true
      by_both true b = refl
      by_both false true = refl
      by_both false false = refl

  taken_behind : (c : Class) → IsOf c p → IsOf c (after p m) → is_en_passant p.passed mover m.target ≡ true → ⊥
  unfolding has_man
  taken_behind c h k e =
      let has = HasMover-from_is_legal p m legal in
      let pawn = en_passant_pawn p mover m (IsMoveFrom-is_legal p mover m v has.here has.moves) e in
      let y = some_among (λ z. is_man (other_side p.to_move) Pawn z && (z.at == behind)) p.men pawn in
      let t = (and_parts (is_man (other_side p.to_move) Pawn y.0) (y.0.at == behind) y.2).1 in
      lighter c h k y.0 y.1 (behind_goes y.0 e t) (λ s. behind_aside e (s ∙ eqb-true y.0.at behind t))

  -- a move within the class does not capture in passing
  pub passes_none : (c : Class) → IsOf c p → IsOf c (after p m) → is_en_passant p.passed mover m.target ≡ false
  passes_none c h k = false_from_ne_true (is_en_passant p.passed mover m.target) (taken_behind c h k)

  -- nor does a move from a position without a passed square
  pub unpassing : p.passed ≡ None → is_en_passant p.passed mover m.target ≡ false
  unfolding is_en_passant
  unpassing unpassed = subst (λ (q : Option ℕ). is_en_passant q mover m.target ≡ false) (sym unpassed)
      (and_no (is_pawn mover && not (file_of mover.at == file_of m.target)))
    where
      and_no : (b : Bool) → (b && false) ≡ false
      and_no true = refl
      and_no false = refl

  module _ (no_passing : is_en_passant p.passed mover m.target ≡ false) where
    -- a man that goes away stands on the mover's square or on the target
    away_cases : (y : Man) → goes_away p.passed mover m.target y ≡ true → (y.at ≡ mover.at) ⊎ (y.at ≡ m.target)
    unfolding survives
    away_cases y e = by_tests (y.at == mover.at) (y.at == m.target) refl refl (rw no_passing at e)
      where
        by_tests : (a b : Bool) → (y.at == mover.at) ≡ a → (y.at == m.target) ≡ b → not (not a && not b && true) ≡ true → (y.at ≡ mover.at) ⊎ (y.at ≡ m.target)
        by_tests true b f g h = inl (eqb-true y.at mover.at f)
        by_tests false true f g h = inr (eqb-true y.at m.target g)
        by_tests false false f g h = absurd (false≢true h)

    -- a quiet move takes only the mover away
    gone_alone : is_occupied p.men m.target ≡ false → gone ≡ mover ∷ []
    unfolding is_occupied
    gone_alone quiet = filter_one (goes_away p.passed mover m.target) p.men v.ordered mover found.0 mover_goes (λ y i e. elim (away_cases y e) [
      | inl s ↦ s
      | inr t ↦ absurd (false≢true (sym (none_among (λ z. z.at == m.target) p.men y quiet i) ∙ same_number y.at m.target t))
    ])

    before_alone : is_occupied p.men m.target ≡ false → IsPermutation p.men (mover ∷ left)
    before_alone quiet =
        IsPermutation-trans p.men (left ++ mover ∷ []) (mover ∷ left)
        (subst (λ (ys : List Man). IsPermutation p.men (left ++ ys)) (gone_alone quiet) before_men)
        (IsPermutation-append_comm left (mover ∷ []))

    moved_quietly : m.promoted ≡ None → moved_man mover m ≡ record { side = mover.side; kind = mover.kind; at = m.target }
    moved_quietly e = ap (λ (o : Option Kind). record { side = mover.side; kind = unwrap_or o mover.kind; at = m.target }) e

    -- the lists stay
    pub quiet_lists : IsQuiet p m → lists (after p m).men ≡ lists p.men
    quiet_lists q =
        lists-IsPermutation (moved_man mover m ∷ left) (after p m).men after_men ∙ ap (λ (x : Man). lists (x ∷ left))
        (moved_quietly q.1)
        ∙ sym
        (lists-IsPermutation (mover ∷ left) p.men (IsPermutation-sym p.men (mover ∷ left) (before_alone q.0)))

    -- the men after it are the men before it, with the mover on its target
    pub quiet_men : IsQuiet p m → IsPermutation (map (moved_if m.origin m.target) p.men) (after p m).men
    quiet_men q =
        let f = moved_if m.origin m.target in
        let at : mover.at ≡ m.origin = found.1 in
        let one = AreApart-ascending p.men v.ordered m.origin in
        let count = sum_by-IsPermutation (λ (y : Man). cond (y.at == m.origin) 1 0) p.men (mover ∷ left) (before_alone q.0) in
        let same : eqb mover.at m.origin ≡ true = same_number mover.at m.origin at in
        let more : count_by (λ y. y.at == m.origin) (mover ∷ left) ≡ 1 + count_by (λ y. y.at == m.origin) left =
        count_by-cons (λ y. y.at == m.origin) mover left ∙ rw same refl in
        let none : count_by (λ y. y.at == m.origin) left ≡ 0 = omega (arith, one, count, more) in
        let first : f mover ≡ moved_man mover m = moves_there m.origin m.target mover same ∙ sym (moved_quietly q.1) in
        let is : map f (mover ∷ left) ≡ moved_man mover m ∷ left =
        ap (λ (z : Man). z ∷ map f left) first ∙ ap (λ (zs : List Man). moved_man mover m ∷ zs) (none_moves m.origin m.target left none) in
        IsPermutation-trans (map f p.men) (moved_man mover m ∷ left) (after p m).men
        (subst (λ (zs : List Man). IsPermutation (map f p.men) zs) is (IsPermutation-map f p.men (mover ∷ left) (before_alone q.0))) after_men

    -- and so does the number of men of each kind
    pub quiet_any : (f : Man → Bool)
        → ((s : Side) (k : Kind) (a b : ℕ) → f (record { side = s; kind = k; at = a })
        ≡ f (record { side = s; kind = k; at = b })) → IsQuiet p m → list_any f (after p m).men ≡ list_any f p.men
    quiet_any f any q =
        sym (list_any-IsPermutation f (moved_man mover m ∷ left) (after p m).men after_men) ∙ ap (λ (x : Man). list_any f (x ∷ left)) (moved_quietly q.1)
        ∙ ap (λ (b : Bool). b || list_any f left) (any mover.side mover.kind m.target mover.at)
        ∙ list_any-IsPermutation f (mover ∷ left) p.men
        (IsPermutation-sym p.men (mover ∷ left) (before_alone q.0))

    -- a move within the class is quiet
    pub quiet_within : (c : Class) → IsOf c p → IsOf c (after p m) → IsQuiet p m
    unfolding is_occupied survives
    quiet_within c h k = (empty (is_occupied p.men m.target) refl, unpromoted)
      where
        total : sum_by weight gone ≡ weight (moved_man mover m)
        total = let a = sums in let b = same_sums c h k in omega arith

        unpromoted : m.promoted ≡ None
        unpromoted = elim (moved_weight m.promoted choice) [ inl x ↦ x.0 | inr l ↦ absurd (let a = total in let b = one in omega arith) ]

        empty : (b : Bool) → is_occupied p.men m.target ≡ b → is_occupied p.men m.target ≡ false
        empty false e = e
        empty true e = absurd (
            let y = some_among (λ z. z.at == m.target) p.men e in
            let at : y.0.at ≡ m.target = eqb-true y.0.at m.target y.2 in
            let away : goes_away p.passed mover m.target y.0 ≡ true = goes (y.0) y.2 in
            lighter c h k y.0 y.1 away (λ s. goes_elsewhere (s ∙ at)))
          where
            goes : (z : Man) → (z.at == m.target) ≡ true → goes_away p.passed mover m.target z ≡ true
            goes z t = rw t (by_at (z.at == mover.at))
              where
                by_at : (b : Bool)
                    → not
                    (not b && false && not
                    (is_en_passant p.passed mover m.target && (z.at == 8 * rank_of mover.at + file_of m.target)))
                    ≡ true
                by_at true = refl
                by_at false = refl

-- a square without a man is not occupied
pub unoccupied : (men : List Man) (x : ℕ) → man_at men x ≡ None → is_occupied men x ≡ false
unfolding is_occupied
unoccupied [] x e = refl
unoccupied (y ∷ ys) x e = by_test (y.at == x) refl e (unoccupied ys x)
  where
    by_test : (b : Bool) → (y.at == x) ≡ b → cond b (Some y) (man_at ys x) ≡ None
        → (man_at ys x ≡ None → list_any (λ m. m.at == x) ys ≡ false) → (b || list_any (λ m. m.at == x) ys) ≡ false
    by_test true t k rest = absurd (let no : Some y ≡ None = k in cc)
    by_test false t k rest = rest k
