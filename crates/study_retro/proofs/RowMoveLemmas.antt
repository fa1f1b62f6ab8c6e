-- The origins and targets of the men of a row, by the square of the man of the last slot.
use Rattle.std.proofs.Common.{◌≡◌, ℕ, ◌+◌, ◌<◌, ◌≤◌, ◌==◌, Bool, true, false, cond, not, ◌&&◌, ◌||◌}
use Rattle.std.proofs.Common.{inl, inr, List, [], ◌∷◌, ◌++◌, map, None, refl, sym, ◌∙◌, ap, subst, arith}
use Rattle.std.specs.Prelude.{count_by}
use Rattle.std.specs.List.{Contains, filter, list_any}
use Rattle.std.specs.List.Sorted.{IsPermutation}
use Rattle.std.proofs.lemmas.Bool.{and_from, and_parts, cases_Bool, eq-eqb, eqb-true, false≢true, false_from_ne_true, not-true, or_parts}
use Rattle.std.proofs.lemmas.List.{map-append}
use Rattle.std.proofs.lemmas.List.Folds.{list_any-append}
use Rattle.std.proofs.lemmas.List.Sums.{sum_by-append}
use Rattle.std.proofs.lemmas.List.Sorted.{IsPermutation-cons, IsPermutation-middle, IsPermutation-refl, IsPermutation-trans, sum_by-IsPermutation}
use Rattle.study_board.specs.declared.men.Side.{Side}
use Rattle.study_board.specs.declared.men.Side.TheVariants.{White, Black}
use Rattle.study_board.specs.declared.men.Kind.{Kind}
use Rattle.study_board.specs.declared.men.Kind.TheVariants.{King, Queen, Rook, Bishop, Knight, Pawn}
use Rattle.study_board.specs.declared.men.Man.{Man}
use Rattle.study_board.specs.EqualLaws.{sides_equal}
use Rattle.study_board.specs.Geometry.{file_of, rank_of, strictly_between}
use Rattle.study_board.specs.Men.{attacks_square, is_pawn, other_side, pawn_captures, reaches, same_kind, same_side, moved_if}
use Rattle.study_board.specs.Position.{Position, IsValid, in_check, is_empty, is_occupied}
use Rattle.study_board.specs.Sets.{has, is_slider}
use Rattle.study_board.proofs.Faults.{in_check_same}
use Rattle.study_board.proofs.Lists.{count_by-cons}
use Rattle.study_board.proofs.MenInOrder.{IsPermutation-insert_man}
use Rattle.study_moves.specs.Rules.{half_way, has_side, is_ahead, pawn_double_steps, pawn_steps, pawn_takes, reaches_target, starting_rank, survives}
use Rattle.study_moves.specs.AnyOrder.{is_safe_target}
use Rattle.study_moves.specs.KingSafety.{is_unsafe}
use Rattle.study_moves.specs.Unmoves.{is_unmove_origin, comes, first_rank, men_before, pawn_comes, was_check}
use Rattle.study_moves.proofs.BearsBothWays.{between-both, eqb-both}
use Rattle.study_moves.proofs.KingSafety.{in_check_after, not_at_end}
use Rattle.study_moves.proofs.MenOfList.{IsAmong, none_among}
use Rattle.study_moves.proofs.PutBack.{stays_plain}
use Rattle.study_moves.proofs.QuietChecks.{in_check_before, is_occupied_is, no_side_there}
use Rattle.study_moves.proofs.SafeTargets.{none_passed}
use Rattle.study_index.proofs.AddedNumbers.{moves_there, none_moves}
use Rattle.study_index.proofs.Fillings.{AreApart-ascending}
use Rattle.study_retro.specs.RowMoves.{AreOnDistinctSquares, goes_quietly, hinders, does_not_interfere, pawn_goes}
use Rattle.study_retro.specs.Still.{on_square}
use Rattle.study_retro.proofs.RowChecks.{bears_men}
use Rattle.study_retro.proofs.RowGeometry.{none_on_king_step, none_on_jump, none_on_step, one_on_double_step}
use Rattle.study_retro.proofs.StillChess.{among-of}

-- ---- tests

split : (b c : Bool) → not (b || (c || false)) ≡ (not b && not c)
split true c = refl
split false true = refl
split false false = refl

neither : (s w : Bool) → (not s && not w) ≡ not (s || w)
neither true w = refl
neither false w = refl

and_false : (b : Bool) → (b && false) ≡ false
and_false true = refl
and_false false = refl

double_with : (eh ea s h w eh' ea' : Bool) → eh' ≡ (eh && not h) → ea' ≡ (ea && not w) → s ≡ h → (eh && ea) ≡ true → (eh' && ea') ≡ not (s || w)
double_with eh ea s h w eh' ea' i j k e = let p = and_parts eh ea e in rw (i, j, k, p.0, p.1) (neither h w)

single_with : (ea s w ea' : Bool) → ea' ≡ (ea && not w) → s ≡ false → ea ≡ true → ea' ≡ not (s || w)
single_with ea s w ea' j k e = rw (j, k, e) refl

-- a step, or a double step over an empty square, to an empty square
pawn_with : (one st two eh ea s h w eh' ea' : Bool) → eh' ≡ (eh && not h) → ea' ≡ (ea && not w) → (one ≡ true → s ≡ false) → (two ≡ true → s ≡ h)
    → ((one || ((st && two) && eh)) && ea) ≡ true → ((one || ((st && two) && eh')) && ea') ≡ not (s || w)
pawn_with true st two eh ea s h w eh' ea' i j f g e = single_with ea s w ea' j (f refl) e
pawn_with false true true eh ea s h w eh' ea' i j f g e = double_with eh ea s h w eh' ea' i j (g refl) e
pawn_with false true false eh ea s h w eh' ea' i j f g e = absurd (false≢true e)
pawn_with false false two eh ea s h w eh' ea' i j f g e = absurd (false≢true e)

less : (b w b' : Bool) → b' ≡ (b && not w) → b' ≡ true → b ≡ true
less b w b' i e = (and_parts b (not w) (sym i ∙ e)).0

pawn_less : (one t eh ea h w eh' ea' : Bool) → eh' ≡ (eh && not h) → ea' ≡ (ea && not w)
    → ((one || (t && eh')) && ea') ≡ true → ((one || (t && eh)) && ea) ≡ true
pawn_less true t eh ea h w eh' ea' i j e = less ea w ea' j e
pawn_less false true eh ea h w eh' ea' i j e = let p = and_parts eh' ea' e in and_from _ _ (less eh h eh' i p.0) (less ea w ea' j p.1)
pawn_less false false eh ea h w eh' ea' i j e = absurd (false≢true e)

-- a man that bears on an empty square
piece_with : (b ea sl s w b' ea' : Bool) → b' ≡ (b && not (sl && s)) → ea' ≡ (ea && not w) → (sl ≡ false → b ≡ true → s ≡ false)
    → (b && ea) ≡ true → (b' && ea') ≡ not (s || w)
piece_with b ea true s w b' ea' i j f e = let p = and_parts b ea e in rw (i, j, p.0, p.1) (neither s w)
piece_with b ea false s w b' ea' i j f e = let p = and_parts b ea e in rw (i, j, p.0, p.1, f refl p.0) refl

piece_less : (b ea c w b' ea' : Bool) → b' ≡ (b && not c) → ea' ≡ (ea && not w) → (b' && ea') ≡ true → (b && ea) ≡ true
piece_less b ea c w b' ea' i j e = let p = and_parts b' ea' e in and_from _ _ (less b c b' i p.0) (less ea w ea' j p.1)

going_pawn : (one t pc hs ea : Bool) → (ea ≡ true → hs ≡ false) → ((((one && ea) || (t && ea)) || (pc && (hs || false))) && ea) ≡ ((one || t) && ea)
going_pawn one t pc hs false f = and_false _ ∙ sym (and_false (one || t))
going_pawn true t pc hs true f = refl
going_pawn false true pc hs true f = refl
going_pawn false false pc hs true f = rw (f refl) (and_false' pc)
  where
    and_false' : (b : Bool) → ((b && false) && true) ≡ false
    and_false' true = refl
    and_false' false = refl

each_empty : (one t ea : Bool) → ((one && ea) || (t && ea)) ≡ ((one || t) && ea)
each_empty true t true = refl
each_empty true t false = and_false t
each_empty false t ea = refl

letting : (h c m w : Bool) → m ≡ not h → (m ≡ true → w ≡ c) → not (h || c) ≡ (m && not w)
letting true c m w i f = rw i refl
letting false c m w i f = rw (i, f i) refl

letting_go : (h c r hs u o : Bool) → (r && not o) ≡ not h → (o ≡ false → hs ≡ false) → (o ≡ false → u ≡ c) → not (h || c) ≡ (((r && not hs) && not u) && not o)
letting_go true c true hs u true i f g = sym (and_false ((true && not hs) && not u))
letting_go true c true hs u false i f g = absurd (false≢true (sym i))
letting_go true c false hs u o i f g = refl
letting_go false c true hs u true i f g = absurd (false≢true i)
letting_go false c true hs u false i f g = rw (f refl, g refl) (alone (not c))
  where
    alone : (b : Bool) → b ≡ (b && true)
    alone true = refl
    alone false = refl
letting_go false c false hs u o i f g = absurd (false≢true i)

-- ---- tests if the last man itself goes: it is not in its own way

and_true : (b : Bool) → (b && true) ≡ b
and_true true = refl
and_true false = refl

unchanged : (b w b' : Bool) → b' ≡ (b && not w) → w ≡ false → b' ≡ b
unchanged b w b' i e = i ∙ rw e (and_true b)

pawn_alone : (one t eh ea h w eh' ea' : Bool) → eh' ≡ (eh && not h) → ea' ≡ (ea && not w) → (one ≡ true → w ≡ false)
    → (t ≡ true → w ≡ false) → (t ≡ true → h ≡ false) → ((one || (t && eh')) && ea') ≡ ((one || (t && eh)) && ea)
pawn_alone true t eh ea h w eh' ea' i j f g k = unchanged ea w ea' j (f refl)
pawn_alone false true eh ea h w eh' ea' i j f g k = rw (unchanged eh h eh' i (k refl), unchanged ea w ea' j (g refl)) refl
pawn_alone false false eh ea h w eh' ea' i j f g k = refl

piece_alone : (b ea c w b' ea' : Bool) → b' ≡ (b && not c) → ea' ≡ (ea && not w) → c ≡ false → (b ≡ true → w ≡ false) → (b' && ea') ≡ (b && ea)
piece_alone true ea c w b' ea' i j e f = rw (i, e, unchanged ea w ea' j (f refl)) refl
piece_alone false ea c w b' ea' i j e f = rw i refl

letting_own : (m w c : Bool) → (m ≡ true → w ≡ c) → (m && not c) ≡ (m && not w)
letting_own true w c f = rw (f refl) refl
letting_own false w c f = refl

letting_own_go : (r hs u o c : Bool) → (o ≡ false → hs ≡ false) → (o ≡ false → u ≡ c) → ((r && not o) && not c) ≡ (((r && not hs) && not u) && not o)
letting_own_go false hs u o c f g = refl
letting_own_go true hs u true c f g = sym (and_false ((true && not hs) && not u))
letting_own_go true hs u false c f g = rw (f refl, g refl) (sym (and_true (not c)))

-- ---- for men that go in one step, no square is between

none_if_bears : (men : List Man) (p : Bool) (side : Side) (kind : Kind) (a y x : ℕ) → is_slider kind ≡ false → same_kind kind Pawn ≡ false
    → (p && reaches men side kind a x) ≡ true → strictly_between a y x ≡ false
unfolding reaches
none_if_bears men p side King a y x s k e = none_on_king_step a y x (and_parts p _ e).1
none_if_bears men p side Queen a y x s k e = absurd (false≢true (sym s))
none_if_bears men p side Rook a y x s k e = absurd (false≢true (sym s))
none_if_bears men p side Bishop a y x s k e = absurd (false≢true (sym s))
none_if_bears men p side Knight a y x s k e = none_on_jump a y x (and_parts p _ e).1
none_if_bears men p side Pawn a y x s k e = absurd (false≢true (sym k))

goes_as_pawn : (men : List Man) (man : Man) (x : ℕ) → is_pawn man ≡ true → goes_quietly men man x ≡ pawn_goes men man.side man.at x
unfolding reaches_target pawn_steps pawn_double_steps pawn_takes
goes_as_pawn men man x p =
    rw p
    (going_pawn (is_ahead man.side 1 man.at x) ((rank_of man.at == starting_rank man.side) && is_ahead man.side 2 man.at x && is_empty men (half_way man.at x))
    (pawn_captures man.side man.at x) (has_side men (other_side man.side) x) (is_empty men x)
    (λ e. no_side_there men (other_side man.side) x (not-true _ e)))

pub steps_as_pawn : (men : List Man) (man : Man) (x : ℕ) → is_pawn man ≡ true
    → (pawn_steps men man.side man.at x || pawn_double_steps men man.side man.at x) ≡ goes_quietly men man x
unfolding pawn_steps pawn_double_steps
steps_as_pawn men man x p =
    each_empty (is_ahead man.side 1 man.at x) ((rank_of man.at == starting_rank man.side) && is_ahead man.side 2 man.at x && is_empty men (half_way man.at x))
    (is_empty men x)
    ∙ sym (goes_as_pawn men man x p)

pub goes_as_piece : (men : List Man) (man : Man) (x : ℕ) → is_pawn man ≡ false → goes_quietly men man x ≡ (attacks_square men man x && is_empty men x)
unfolding reaches_target
goes_as_piece men man x p = rw p refl

-- a pawn goes to another square
elsewhere_ahead : (side : Side) (a x n : ℕ) → (n ≡ 0 → ⊥) → is_ahead side n a x ≡ true → (a == x) ≡ false
elsewhere_ahead White a x n some e = false_from_ne_true _ (λ k.
    let r = eqb-true _ _ (and_parts (file_of x == file_of a) (rank_of x == rank_of a + n) e).1 in some (omega (arith, r, ap rank_of (eqb-true a x k))))
elsewhere_ahead Black a x n some e = false_from_ne_true _ (λ k.
    let r = eqb-true _ _ (and_parts (file_of x == file_of a) (rank_of x + n == rank_of a) e).1 in some (omega (arith, r, ap rank_of (eqb-true a x k))))

-- the origins of a pawn, with another man
comes_as_pawn : (men : List Man) (man : Man) (a : ℕ) → is_pawn man ≡ true → comes men man a
    ≡ (((is_ahead man.side 1 a man.at && not (rank_of a == first_rank man.side))
    || ((rank_of a == starting_rank man.side) && is_ahead man.side 2 a man.at && is_empty men (half_way a man.at))) && is_empty men a)
unfolding comes pawn_comes
comes_as_pawn men man a p = rw p refl

comes_as_piece : (men : List Man) (man : Man) (a : ℕ) → is_pawn man ≡ false → comes men man a ≡ (attacks_square men man a && is_empty men a)
unfolding comes
comes_as_piece men man a p = rw p refl

free_if_comes : (men : List Man) (man : Man) (a : ℕ) → comes men man a ≡ true → is_occupied men a ≡ false
free_if_comes men man a e = elim (cases_Bool (is_pawn man)) [
  | inl p ↦ not-true _ (and_parts _ (is_empty men a) (sym (comes_as_pawn men man a p) ∙ e)).1
  | inr p ↦ not-true _ (and_parts _ (is_empty men a) (sym (comes_as_piece men man a p) ∙ e)).1
]

-- ---- the man put on another square

pub unoccupied : (x : ℕ) (xs : List Man) → count_by (λ m. m.at == x) xs ≡ 0 → is_occupied xs x ≡ false
unfolding is_occupied
unoccupied x [] e = refl
unoccupied x (m ∷ ms) e = by_test (m.at == x) refl (unoccupied x ms (omega (arith, e, count_by-cons (λ y. y.at == x) m ms)))
  where
    by_test : (b : Bool) → (m.at == x) ≡ b → is_occupied ms x ≡ false → (b || list_any (λ y. y.at == x) ms) ≡ false
    by_test true t f =
        absurd (let c : count_by (λ y. y.at == x) (m ∷ ms) ≡ 1 + count_by (λ y. y.at == x) ms = count_by-cons (λ y. y.at == x) m ms ∙ rw t refl in
        omega (arith, e, c))
    by_test false t f = f

all_survive : (man : Man) (a : ℕ) (xs : List Man) → is_occupied xs man.at ≡ false → is_occupied xs a ≡ false → filter (survives None man a) xs ≡ xs
unfolding is_occupied
all_survive man a [] e f = refl
all_survive man a (x ∷ xs) e f =
    let p = or_parts (x.at == man.at) (list_any (λ y. y.at == man.at) xs) e in
    let q = or_parts (x.at == a) (list_any (λ y. y.at == a) xs) f in
    let s : survives None man a x ≡ true = stays_plain man a x ∙ rw (p.0, q.0) refl in
    rw s (ap (λ (zs : List Man). x ∷ zs) (all_survive man a xs p.1 q.1))

module _ (man : Man) (a : ℕ) where
  abbrev f : Man → Man
  f = moved_if man.at a

  abbrev z : Man
  z = on_square man a

  abbrev q : Man → Bool
  q = survives None man a

  moved_men : (xs : List Man) → IsAmong man xs → count_by (λ m. m.at == man.at) xs ≤ 1 → is_occupied xs a ≡ false → IsPermutation (map f xs) (z ∷ filter q xs)
  unfolding is_occupied
  moved_men [] i c o = absurd i
  moved_men (x ∷ xs) (inl s) c o =
      let same : (x.at == man.at) ≡ true = eq-eqb _ _ (ap (λ (m : Man). m.at) s) in
      let more : count_by (λ m. m.at == man.at) (x ∷ xs) ≡ 1 + count_by (λ m. m.at == man.at) xs =
      count_by-cons (λ m. m.at == man.at) x xs ∙ rw same refl in
      let none : count_by (λ m. m.at == man.at) xs ≡ 0 = omega (arith, c, more) in
      let first : f x ≡ z = moves_there man.at a x same ∙ ap (λ (m : Man). on_square m a) s in
      let gone : q x ≡ false = stays_plain man a x ∙ rw same refl in
      let stay : filter q xs ≡ xs = all_survive man a xs (unoccupied man.at xs none) (or_parts (x.at == a) (list_any (λ y. y.at == a) xs) o).1 in
      let left : map f (x ∷ xs) ≡ z ∷ xs = ap (λ (m : Man). m ∷ map f xs) first ∙ ap (λ (ms : List Man). z ∷ ms) (none_moves man.at a xs none) in
      let right : filter q (x ∷ xs) ≡ xs = rw gone stay in
      subst (λ (ms : List Man). IsPermutation ms (z ∷ filter q (x ∷ xs))) (sym left)
      (subst (λ (ms : List Man). IsPermutation (z ∷ xs) (z ∷ ms)) (sym right) (IsPermutation-refl (z ∷ xs)))
  moved_men (x ∷ xs) (inr i) c o = by_test (moved_men xs i) (x.at == man.at) refl
    where
      by_test : (count_by (λ m. m.at == man.at) xs ≤ 1 → is_occupied xs a ≡ false → IsPermutation (map f xs) (z ∷ filter q xs))
          → (b : Bool) → (x.at == man.at) ≡ b → IsPermutation (map f (x ∷ xs)) (z ∷ filter q (x ∷ xs))
      by_test ih true same =
          let more : count_by (λ m. m.at == man.at) (x ∷ xs) ≡ 1 + count_by (λ m. m.at == man.at) xs =
          count_by-cons (λ m. m.at == man.at) x xs ∙ rw same refl in
          let none : count_by (λ m. m.at == man.at) xs ≡ 0 = omega (arith, c, more) in
          absurd (false≢true (sym (none_among (λ y. y.at == man.at) xs man (unoccupied man.at xs none) i) ∙ eq-eqb man.at man.at refl))
      by_test ih false other =
          let p = or_parts (x.at == a) (list_any (λ y. y.at == a) xs) o in
          let first : f x ≡ x = rw other refl in
          let kept : q x ≡ true = stays_plain man a x ∙ rw (other, p.0) refl in
          let rest = ih (omega (arith, c, count_by-cons (λ m. m.at == man.at) x xs)) p.1 in
          let left : map f (x ∷ xs) ≡ x ∷ map f xs = ap (λ (m : Man). m ∷ map f xs) first in
          let right : filter q (x ∷ xs) ≡ x ∷ filter q xs = rw kept refl in
          subst (λ (ms : List Man). IsPermutation ms (z ∷ filter q (x ∷ xs))) (sym left)
          (subst (λ (ms : List Man). IsPermutation (x ∷ map f xs) (z ∷ ms)) (sym right)
          (IsPermutation-trans (x ∷ map f xs) (x ∷ z ∷ filter q xs) (z ∷ x ∷ filter q xs)
          (IsPermutation-cons x (map f xs) (z ∷ filter q xs) rest) (IsPermutation-middle (x ∷ []) z (filter q xs))))

-- ---- the men of a row

module _ (others : List Man) (last : Man) (y : ℕ) where
  abbrev l : Man
  l = on_square last y

  abbrev men : List Man
  men = others ++ l ∷ []

  occupied_with : (x : ℕ) → is_occupied men x ≡ (is_occupied others x || ((y == x) || false))
  unfolding is_occupied
  occupied_with x = list_any-append (λ m. m.at == x) others (l ∷ [])

  empty_with : (x : ℕ) → is_empty men x ≡ (is_empty others x && not (y == x))
  empty_with x = ap not (occupied_with x) ∙ split (is_occupied others x) (y == x)

  empty_there : (x : ℕ) → is_empty men x ≡ (is_empty others x && not (x == y))
  empty_there x = empty_with x ∙ ap (λ (b : Bool). is_empty others x && not b) (eqb-both y x)

  -- the empty squares on which a man that is not a pawn bears
  bears_where : (man : Man) (x : ℕ) → is_pawn man ≡ false → (attacks_square others man x && is_empty others x) ≡ true
      → (attacks_square men man x && is_empty men x) ≡ not (hinders man.at x y)
  bears_where man x p e =
      piece_with (attacks_square others man x) (is_empty others x) (is_slider man.kind) (strictly_between man.at y x) (x == y)
      (attacks_square men man x) (is_empty men x) (bears_men others last y man x) (empty_there x)
      (λ s k. none_if_bears others (not (man.at == x)) man.side man.kind man.at y x s p k) e

  bears_less : (man : Man) (x : ℕ) → (attacks_square men man x && is_empty men x) ≡ true → (attacks_square others man x && is_empty others x) ≡ true
  bears_less man x e =
      piece_less (attacks_square others man x) (is_empty others x) (is_slider man.kind && strictly_between man.at y x) (x == y)
      (attacks_square men man x) (is_empty men x) (bears_men others last y man x) (empty_there x) e

  -- the last man hinders the coming of a man if it stands in between or on the square, and otherwise does not
  pub comes_with : (man : Man) (a : ℕ) → comes others man a ≡ true → comes men man a ≡ not (hinders man.at a y)
  comes_with man a e = elim (cases_Bool (is_pawn man)) [
    | inl p ↦
        let h = half_way a man.at in
        comes_as_pawn men man a p
        ∙ pawn_with (is_ahead man.side 1 a man.at && not (rank_of a == first_rank man.side)) (rank_of a == starting_rank man.side)
        (is_ahead man.side 2 a man.at) (is_empty others h) (is_empty others a) (strictly_between man.at y a) (y == h) (a == y)
        (is_empty men h) (is_empty men a) (empty_with h) (empty_there a)
        (λ k. between-both man.at y a ∙ none_on_step man.side a y man.at (and_parts _ _ k).0)
        (λ k. between-both man.at y a ∙ one_on_double_step man.side a y man.at k) (sym (comes_as_pawn others man a p) ∙ e)
    | inr p ↦ comes_as_piece men man a p ∙ bears_where man a p (sym (comes_as_piece others man a p) ∙ e)
  ]

  -- if a man comes with the last man on the board, it comes without it
  pub comes_less : (man : Man) (a : ℕ) → comes men man a ≡ true → comes others man a ≡ true
  comes_less man a e = elim (cases_Bool (is_pawn man)) [
    | inl p ↦
        let h = half_way a man.at in
        comes_as_pawn others man a p
        ∙ pawn_less (is_ahead man.side 1 a man.at && not (rank_of a == first_rank man.side))
        ((rank_of a == starting_rank man.side) && is_ahead man.side 2 a man.at) (is_empty others h) (is_empty others a) (y == h) (a == y)
        (is_empty men h) (is_empty men a) (empty_with h) (empty_there a) (sym (comes_as_pawn men man a p) ∙ e)
    | inr p ↦ comes_as_piece others man a p ∙ bears_less man a (sym (comes_as_piece men man a p) ∙ e)
  ]

  -- the same for going
  pub goes_with : (man : Man) (x : ℕ) → goes_quietly others man x ≡ true → goes_quietly men man x ≡ not (hinders man.at x y)
  goes_with man x e = elim (cases_Bool (is_pawn man)) [
    | inl p ↦
        let h = half_way man.at x in
        goes_as_pawn men man x p
        ∙ pawn_with (is_ahead man.side 1 man.at x) (rank_of man.at == starting_rank man.side) (is_ahead man.side 2 man.at x)
        (is_empty others h) (is_empty others x) (strictly_between man.at y x) (y == h) (x == y)
        (is_empty men h) (is_empty men x) (empty_with h) (empty_there x)
        (none_on_step man.side man.at y x) (one_on_double_step man.side man.at y x) (sym (goes_as_pawn others man x p) ∙ e)
    | inr p ↦ goes_as_piece men man x p ∙ bears_where man x p (sym (goes_as_piece others man x p) ∙ e)
  ]

  pub goes_less : (man : Man) (x : ℕ) → goes_quietly men man x ≡ true → goes_quietly others man x ≡ true
  goes_less man x e = elim (cases_Bool (is_pawn man)) [
    | inl p ↦
        let h = half_way man.at x in
        goes_as_pawn others man x p
        ∙ pawn_less (is_ahead man.side 1 man.at x) ((rank_of man.at == starting_rank man.side) && is_ahead man.side 2 man.at x)
        (is_empty others h) (is_empty others x) (y == h) (x == y) (is_empty men h) (is_empty men x) (empty_with h) (empty_there x)
        (sym (goes_as_pawn men man x p) ∙ e)
    | inr p ↦ goes_as_piece others man x p ∙ bears_less man x (sym (goes_as_piece men man x p) ∙ e)
  ]

  among_end : (ms : List Man) → IsAmong l (ms ++ l ∷ [])
  among_end [] = inl refl
  among_end (m ∷ ms) = inr (among_end ms)

  -- ---- the king with a man on another square

  module _ (man : Man) (a : ℕ) (among : IsAmong man men) (apart : AreOnDistinctSquares men) (side : Side) where
    check_moved : is_occupied men a ≡ false
        → in_check (on_square man a ∷ filter (survives None man a) men) side ≡ in_check (map (moved_if man.at a) men) side
    check_moved free =
        sym (in_check_same (map (moved_if man.at a) men) (on_square man a ∷ filter (survives None man a) men)
        (moved_men man a men among (apart man.at) free) side)

    check_before : same_side man.side (other_side side) ≡ true → is_occupied men a ≡ false
        → was_check men side man a ≡ in_check (map (moved_if man.at a) men) side
    unfolding men_before
    check_before his free =
        sym (in_check_before men man a free side (sides_equal man.side (other_side side) his))
        ∙ sym (in_check_same (on_square man a ∷ filter (survives None man a) men) (men_before men man a)
        (IsPermutation-insert_man (on_square man a) (filter (survives None man a) men)) side)
        ∙ check_moved free

    check_after : same_side man.side side ≡ true → is_occupied men a ≡ false → is_unsafe men side man a ≡ in_check (map (moved_if man.at a) men) side
    check_after mine free =
        sym (in_check_after men None man a side (on_square man a) refl mine (none_passed None man a refl) (no_side_there men side a free) refl)
        ∙ check_moved free

  -- ---- one of the other men

  module _ (man : Man) (a : ℕ) (among : Contains others man) (apart : AreOnDistinctSquares men) where
    last_elsewhere : (xs : List Man) → IsAmong man xs → count_by (λ m. m.at == man.at) (xs ++ l ∷ []) ≤ 1 → (y == man.at) ≡ false
    last_elsewhere [] i c = absurd i
    last_elsewhere (x ∷ xs) (inl s) c =
        let same : (x.at == man.at) ≡ true = eq-eqb _ _ (ap (λ (m : Man). m.at) s) in
        let more : count_by (λ m. m.at == man.at) (x ∷ (xs ++ l ∷ [])) ≡ 1 + count_by (λ m. m.at == man.at) (xs ++ l ∷ []) =
        count_by-cons (λ m. m.at == man.at) x (xs ++ l ∷ []) ∙ rw same refl in
        let none : count_by (λ m. m.at == man.at) (xs ++ l ∷ []) ≡ 0 = omega (arith, c, more) in
        none_among (λ m. m.at == man.at) (xs ++ l ∷ []) l (is_occupied_is (xs ++ l ∷ []) man.at ∙ (unoccupied man.at (xs ++ l ∷ []) none)) (among_end xs)
    last_elsewhere (x ∷ xs) (inr i) c = last_elsewhere xs i (omega (arith, c, count_by-cons (λ m. m.at == man.at) x (xs ++ l ∷ [])))

    among_all : (xs : List Man) → IsAmong man xs → IsAmong man (xs ++ l ∷ [])
    among_all [] i = absurd i
    among_all (x ∷ xs) (inl s) = inl s
    among_all (x ∷ xs) (inr i) = inr (among_all xs i)

    moved_with : map (moved_if man.at a) men ≡ map (moved_if man.at a) others ++ l ∷ []
    moved_with =
        let stays : moved_if man.at a l ≡ l = rw (last_elsewhere others (among-of others man among) (apart man.at)) refl in
        map-append (moved_if man.at a) others (l ∷ []) ∙ ap (λ (m : Man). map (moved_if man.at a) others ++ m ∷ []) stays

    among_men : IsAmong man men
    among_men = among_all others (among-of others man among)

    check_with : (side : Side) → in_check (map (moved_if man.at a) men) side ≡ in_check (map (moved_if man.at a) others ++ l ∷ []) side
    check_with side = ap (λ (ms : List Man). in_check ms side) moved_with

    -- the squares of the last man with which the man can have come from a square
    pub led_with : (side : Side) → same_side man.side (other_side side) ≡ true → comes others man a ≡ true
        → does_not_interfere others last side man.at a y ≡ is_unmove_origin men side man a
    led_with side his e =
        letting (hinders man.at a y) (in_check (map (moved_if man.at a) others ++ l ∷ []) side) (comes men man a) (was_check men side man a)
        (comes_with man a e)
        (λ k. check_before man a among_men apart side his (free_if_comes men man a k) ∙ check_with side)

    -- and with which it can go to an empty square
    pub going_with : (side : Side) → same_side man.side side ≡ true → goes_quietly others man a ≡ true
        → does_not_interfere others last side man.at a y ≡ (is_safe_target men side man a && not (is_occupied men a))
    unfolding is_safe_target
    going_with side mine e =
        letting_go (hinders man.at a y) (in_check (map (moved_if man.at a) others ++ l ∷ []) side) (reaches_target men None man a) (has_side men side a)
        (is_unsafe men side man a) (is_occupied men a) (goes_with man a e) (no_side_there men side a)
        (λ k. check_after man a among_men apart side mine k ∙ check_with side)

  -- ---- the last man itself: it comes and goes as with the others alone

  apart_if_bears : (x : ℕ) → attacks_square others l x ≡ true → (x == y) ≡ false
  apart_if_bears x e = eqb-both x y ∙ not-true _ (and_parts (not (y == x)) (reaches others last.side last.kind y x) e).0

  piece_itself : (x : ℕ) → (attacks_square men l x && is_empty men x) ≡ (attacks_square others l x && is_empty others x)
  piece_itself x =
      piece_alone (attacks_square others l x) (is_empty others x) (is_slider last.kind && strictly_between y y x) (x == y)
      (attacks_square men l x) (is_empty men x) (bears_men others last y l x) (empty_there x)
      (ap (λ (b : Bool). is_slider last.kind && b) (between-both y y x ∙ not_at_end x y) ∙ and_false (is_slider last.kind)) (apart_if_bears x)

  comes_itself : (a : ℕ) → comes men l a ≡ comes others l a
  comes_itself a = elim (cases_Bool (is_pawn last)) [
    | inl p ↦
        let h = half_way a y in
        comes_as_pawn men l a p
        ∙ pawn_alone (is_ahead last.side 1 a y && not (rank_of a == first_rank last.side))
        ((rank_of a == starting_rank last.side) && is_ahead last.side 2 a y)
        (is_empty others h) (is_empty others a) (y == h) (a == y) (is_empty men h) (is_empty men a) (empty_with h) (empty_there a)
        (λ k. elsewhere_ahead last.side a y 1 (λ z. absurd (omega (arith, z))) (and_parts _ _ k).0)
        (λ k. elsewhere_ahead last.side a y 2 (λ z. absurd (omega (arith, z))) (and_parts _ _ k).1)
        (λ k. sym (one_on_double_step last.side a y y (and_parts _ _ k).1) ∙ not_at_end a y)
        ∙ sym (comes_as_pawn others l a p)
    | inr p ↦ comes_as_piece men l a p ∙ piece_itself a ∙ sym (comes_as_piece others l a p)
  ]

  goes_itself : (x : ℕ) → goes_quietly men l x ≡ goes_quietly others l x
  goes_itself x = elim (cases_Bool (is_pawn last)) [
    | inl p ↦
        let h = half_way y x in
        goes_as_pawn men l x p
        ∙ pawn_alone (is_ahead last.side 1 y x) ((rank_of y == starting_rank last.side) && is_ahead last.side 2 y x)
        (is_empty others h) (is_empty others x) (y == h) (x == y) (is_empty men h) (is_empty men x) (empty_with h) (empty_there x)
        (λ k. eqb-both x y ∙ elsewhere_ahead last.side y x 1 (λ z. absurd (omega (arith, z))) k)
        (λ k. eqb-both x y ∙ elsewhere_ahead last.side y x 2 (λ z. absurd (omega (arith, z))) (and_parts _ _ k).1)
        (λ k. sym (one_on_double_step last.side y y x (and_parts _ _ k).1) ∙ between-both y y x ∙ not_at_end x y)
        ∙ sym (goes_as_pawn others l x p)
    | inr p ↦ goes_as_piece men l x p ∙ piece_itself x ∙ sym (goes_as_piece others l x p)
  ]

  -- none of the others stands on the last man's square
  none_there : AreOnDistinctSquares men → count_by (λ m. m.at == y) others ≡ 0
  none_there apart =
      let sum = sum_by-append (λ (m : Man). cond (m.at == y) 1 0) others (l ∷ []) in
      let one : count_by (λ m. m.at == y) (l ∷ []) ≡ 1 = count_by-cons (λ m. m.at == y) l [] ∙ rw (eq-eqb y y refl) refl in
      omega (arith, apart y, sum, one)

  pub stands_alone : AreOnDistinctSquares men → is_occupied others y ≡ false
  stands_alone apart = unoccupied y others (none_there apart)

  module _ (side : Side) (check : ℕ) (tells : (a : ℕ) → a < 64 → has check a ≡ in_check (others ++ on_square last a ∷ []) side)
      (apart : AreOnDistinctSquares men) (a : ℕ) (on : a < 64) where
    moved_itself : map (moved_if y a) men ≡ others ++ on_square last a ∷ []
    moved_itself =
        map-append (moved_if y a) others (l ∷ [])
        ∙ ap (λ (ms : List Man). ms ++ moved_if y a l ∷ []) (none_moves y a others (none_there apart))
        ∙ ap (λ (m : Man). others ++ m ∷ []) (moves_there y a l (eq-eqb y y refl))

    check_itself : in_check (map (moved_if y a) men) side ≡ has check a
    check_itself = ap (λ (ms : List Man). in_check ms side) moved_itself ∙ sym (tells a on)

    -- its possible origins, and its targets without a capture
    pub led_itself : same_side last.side (other_side side) ≡ true → (comes others l a && not (has check a)) ≡ is_unmove_origin men side l a
    led_itself his =
        ap (λ (b : Bool). b && not (has check a)) (sym (comes_itself a))
        ∙ letting_own (comes men l a) (was_check men side l a) (has check a)
        (λ k. check_before l a (among_end others) apart side his (free_if_comes men l a k) ∙ check_itself)

    pub going_itself : same_side last.side side ≡ true
        → (goes_quietly others l a && not (has check a)) ≡ (is_safe_target men side l a && not (is_occupied men a))
    unfolding is_safe_target
    going_itself mine =
        ap (λ (b : Bool). b && not (has check a)) (sym (goes_itself a))
        ∙ letting_own_go (reaches_target men None l a) (has_side men side a) (is_unsafe men side l a) (is_occupied men a) (has check a)
        (no_side_there men side a) (λ k. check_after l a (among_end others) apart side mine k ∙ check_itself)

  -- origins and targets are among those without the last man
  pub came_less : (side : Side) (man : Man) (a : ℕ) → is_unmove_origin men side man a ≡ true → comes others man a ≡ true
  came_less side man a e = comes_less man a (and_parts (comes men man a) (not (was_check men side man a)) e).0

  pub going_less : (side : Side) (man : Man) (x : ℕ) → is_safe_target men side man x ≡ true → is_occupied men x ≡ false → goes_quietly others man x ≡ true
  unfolding is_safe_target
  going_less side man x e free =
      let p = and_parts (reaches_target men None man x && not (has_side men side x)) (not (is_unsafe men side man x)) e in
      let r = and_parts (reaches_target men None man x) (not (has_side men side x)) p.0 in
      goes_less man x (and_from _ _ r.0 (ap not free))

-- the men of a valid position, in any order, share no square
pub AreApart-position : (q : Position) (men : List Man) → IsValid q → IsPermutation men q.men → AreOnDistinctSquares men
AreApart-position q men valid same x =
    let one = AreApart-ascending q.men valid.ordered x in
    let count = sum_by-IsPermutation (λ (y : Man). cond (y.at == x) 1 0) men q.men same in
    omega (arith, one, count)
