-- The properties of the image of a list of men, and that the image of a valid position is valid.
use Rattle.std.proofs.Common.{◌≡◌, ℕ, ◌+◌, ◌-◌, ◌<◌, ◌≤◌, ◌==◌, eqb, nat_lt, Bool, true, false}
use Rattle.std.proofs.Common.{not, cond, ◌&&◌, ◌||◌, List, [], ◌∷◌, length, Option, Some, None}
use Rattle.std.proofs.Common.{refl, sym, ◌∙◌, ap, arith, suc, zero, take, add-one, get_or}
use Rattle.std.specs.List.{list_any, count_by, filter, All}
use Rattle.std.specs.Option.{option_map}
use Rattle.std.proofs.lemmas.Bool.{false≢true, and_parts}
use Rattle.std.proofs.lemmas.Bool.Decides.{nat_tests}
use Rattle.std.proofs.lemmas.List.Elements.{All-nil, All-cons, All-head, All-tail, All-get_or}
use borrow.Author.Tests.{ltb-true, ltb-false}
use Rattle.study_board.specs.declared.men.Man.{Man}
use Rattle.study_board.specs.declared.men.Side.{Side}
use Rattle.study_board.specs.declared.men.Side.TheVariants.{White, Black}
use Rattle.study_board.specs.declared.men.Kind.{Kind}
use Rattle.study_board.specs.declared.men.Kind.TheVariants.{King, Queen, Rook, Bishop, Knight, Pawn}
use Rattle.study_board.specs.declared.symmetry.Symmetry.{Symmetry}
use Rattle.study_board.specs.Geometry.{rank_of, strictly_between}
use Rattle.study_board.specs.Men.{same_side, other_side, same_kind, is_man, is_blocked, reaches, attacks_square, is_attacked, is_pawn}
use Rattle.study_board.specs.Position.{Position, IsValid, AllAbove, IsAscending, insert_man, man_at, is_occupied}
use Rattle.study_board.specs.Position.{is_empty, has_man, has_square_twice, has_one_king, is_end_pawn}
use Rattle.study_board.specs.Position.{has_end_pawn, in_check, could_be_passed, passed_possible}
use Rattle.study_board.specs.Symmetry.{mirror_if, turned_square, turned_side, turned_man, turned_men, turned_passed, image, keeps_pawns, admits}
use Rattle.study_board.proofs.Lists.{or_false, not_true, count_by-cons, list_any_weaker}
use Rattle.study_board.proofs.MenInOrder.{IsSortedByAt, NoneBelow, NoneBelow-less, IsSortedByAt-insert_man}
use Rattle.study_board.proofs.Valid.{IsFaultless, IsFaultless-from_first, first_fault-from_IsFaultless, IsAscending-from_sorted}
use Rattle.study_board.proofs.Coordinates.{and_comm, KeepsPawns, turned_small, turned_apart, on_rook_line-turned}
use Rattle.study_board.proofs.Coordinates.{on_bishop_line-turned, knight_jump-turned, king_step-turned}
use Rattle.study_board.proofs.Coordinates.{strictly_between-turned, pawn_captures-turned, same_side-turned}
use Rattle.study_board.proofs.Coordinates.{other_side-turned, rank_of-kept, rank_small, and_under, home_rank}
use Rattle.study_board.proofs.Coordinates.{shadow, ahead, turned_behind, turned_ahead, home_rank-turned, eqb_then}

-- a property of each man of a list
abbrev pub Each : (Man → Type 0) → List Man → Type 0
Each P [] = Unit {0}
Each P (x ∷ xs) = P x × Each P xs

pub Each-weaker : (P Q : Man → Type 0) → ((m : Man) → P m → Q m) → (xs : List Man) → Each P xs → Each Q xs
Each-weaker P Q f [] h = tt
Each-weaker P Q f (x ∷ xs) h = (f x h.0, Each-weaker P Q f xs h.1)

pub Each-filter : (P : Man → Type 0) (q : Man → Bool) (xs : List Man) → Each P xs → Each P (filter q xs)
Each-filter P q [] h = tt
Each-filter P q (x ∷ xs) h =
    elim (q x) as (λ b. Each P (cond b (x ∷ filter q xs) (filter q xs)))
    [ true ↦ (h.0, Each-filter P q xs h.1) | false ↦ Each-filter P q xs h.1 ]

pub Each-insert_man : (P : Man → Type 0) (m : Man) (xs : List Man) → P m → Each P xs → Each P (insert_man m xs)
Each-insert_man P m [] one h = (one, tt)
Each-insert_man P m (x ∷ xs) one h = elim (nat_lt x.at m.at) as (λ b. Each P (cond b (x ∷ insert_man m xs) (m ∷ x ∷ xs)))
    [ true ↦ (h.0, Each-insert_man P m xs one h.1) | false ↦ (one, h) ]

-- a list with a man inserted in order has the members of the list, and the man
pub list_any-insert_man : (p : Man → Bool) (m : Man) (xs : List Man) → list_any p (insert_man m xs) ≡ (p m || list_any p xs)
list_any-insert_man p m [] = refl
list_any-insert_man p m (x ∷ xs) =
    elim (nat_lt x.at m.at) as (λ b. list_any p (cond b (x ∷ insert_man m xs) (m ∷ x ∷ xs)) ≡ (p m || (p x || list_any p xs)))
    [ true ↦ rw (list_any-insert_man p m xs) (exchanged (p x) (p m) (list_any p xs)) | false ↦ refl ]
  where
    exchanged : (a b c : Bool) → (a || (b || c)) ≡ (b || (a || c))
    exchanged true true c = refl
    exchanged true false c = refl
    exchanged false true c = refl
    exchanged false false c = refl

pub count_by-insert_man : (p : Man → Bool) (m : Man) (xs : List Man) → count_by p (insert_man m xs) ≡ cond (p m) 1 0 + count_by p xs
count_by-insert_man p m [] = count_by-cons p m []
count_by-insert_man p m (x ∷ xs) =
    elim (nat_lt x.at m.at) as (λ b. count_by p (cond b (x ∷ insert_man m xs) (m ∷ x ∷ xs)) ≡ cond (p m) 1 0 + count_by p (x ∷ xs)) [
      | true ↦ let e = count_by-cons p x (insert_man m xs) in let f = count_by-cons p x xs in let ih = count_by-insert_man p m xs in omega arith
      | false ↦ count_by-cons p m (x ∷ xs)
    ]

pub length-insert_man : (m : Man) (xs : List Man) → length (insert_man m xs) ≡ suc (length xs)
length-insert_man m [] = refl
length-insert_man m (x ∷ xs) =
    elim (nat_lt x.at m.at) as (λ b. length (cond b (x ∷ insert_man m xs) (m ∷ x ∷ xs)) ≡ suc (suc (length xs)))
    [ true ↦ ap suc (length-insert_man m xs) | false ↦ refl ]

pub man_at-insert_man : (m : Man) (xs : List Man) (x : ℕ) → man_at (insert_man m xs) x ≡ cond (m.at == x) (Some m) (man_at xs x)
man_at-insert_man m [] x = refl
man_at-insert_man m (y ∷ ys) x =
    let go : (b : Bool) → nat_lt y.at m.at ≡ b → man_at (cond b (y ∷ insert_man m ys) (m ∷ y ∷ ys)) x ≡ cond (m.at == x) (Some m) (man_at (y ∷ ys) x) =
    λ b. elim b as (λ v. nat_lt y.at m.at ≡ v → man_at (cond v (y ∷ insert_man m ys) (m ∷ y ∷ ys)) x ≡ cond (m.at == x) (Some m) (man_at (y ∷ ys) x)) [
      | true ↦ λ t. rw (man_at-insert_man m ys x) (not_both (y.at == x) (m.at == x) (below y.at m.at x (ltb-true _ _ t)))
      | false ↦ λ t. refl
    ] in
    go (nat_lt y.at m.at) refl
  where
    below : (a b x : ℕ) → a < b → eqb a x ≡ true → eqb b x ≡ false
    below a b x lt e = grind (arith, nat_tests)

    not_both : (u v : Bool) → (u ≡ true → v ≡ false) → cond u (Some y) (cond v (Some m) (man_at ys x)) ≡ cond v (Some m) (cond u (Some y) (man_at ys x))
    not_both true true h = absurd (false≢true (sym (h refl)))
    not_both true false h = refl
    not_both false v h = refl

-- two men on different squares can be inserted in order in either sequence
pub insert_man-exchanged : (a b : Man) (xs : List Man) → eqb a.at b.at ≡ false → insert_man a (insert_man b xs) ≡ insert_man b (insert_man a xs)
insert_man-exchanged a b [] e = two (nat_lt b.at a.at) (nat_lt a.at b.at) (opposite b.at a.at e)
  where
    opposite : (m n : ℕ) → eqb n m ≡ false → nat_lt n m ≡ not (nat_lt m n)
    opposite m n e = grind (arith, nat_tests)

    two : (u v : Bool) → v ≡ not u → cond u (b ∷ a ∷ []) (a ∷ b ∷ []) ≡ cond v (a ∷ b ∷ []) (b ∷ a ∷ [])
    two true v e = rw e
    two false v e = rw e
insert_man-exchanged a b (x ∷ xs) e =
    let go : (u v : Bool) → nat_lt x.at a.at ≡ u → nat_lt x.at b.at ≡ v
    → insert_man a (cond v (x ∷ insert_man b xs) (b ∷ x ∷ xs)) ≡ insert_man b (cond u (x ∷ insert_man a xs) (a ∷ x ∷ xs)) =
    λ u v. elim u as (λ w. nat_lt x.at a.at ≡ w → nat_lt x.at b.at ≡ v
    → insert_man a (cond v (x ∷ insert_man b xs) (b ∷ x ∷ xs)) ≡ insert_man b (cond w (x ∷ insert_man a xs) (a ∷ x ∷ xs))) [
      | true ↦ elim v as (λ w. nat_lt x.at a.at ≡ true → nat_lt x.at b.at ≡ w → insert_man a (cond w (x ∷ insert_man b xs) (b ∷ x ∷ xs))
          ≡ insert_man b (x ∷ insert_man a xs)) [
            | true ↦ λ p q. rw (p, q) (ap (λ l. x ∷ l) (insert_man-exchanged a b xs e))
            | false ↦ λ p q. let r : nat_lt b.at a.at ≡ true = above b.at x.at a.at q p in rw (q, r, p)
          ]
      | false ↦ elim v as (λ w. nat_lt x.at a.at ≡ false → nat_lt x.at b.at ≡ w → insert_man a (cond w (x ∷ insert_man b xs) (b ∷ x ∷ xs))
          ≡ insert_man b (a ∷ x ∷ xs)) [
            | true ↦ λ p q. let r : nat_lt a.at b.at ≡ true = above a.at x.at b.at p q in rw (p, r, q)
            | false ↦ λ p q. rw (p, q) (two (nat_lt b.at a.at) (nat_lt a.at b.at) (opposite b.at a.at e))
          ]
    ] in
    go (nat_lt x.at a.at) (nat_lt x.at b.at) refl refl
  where
    opposite : (m n : ℕ) → eqb n m ≡ false → nat_lt n m ≡ not (nat_lt m n)
    opposite m n e = grind (arith, nat_tests)

    above : (m x n : ℕ) → nat_lt x m ≡ false → nat_lt x n ≡ true → nat_lt m n ≡ true
    above m x n e f = grind (arith, nat_tests)

    two : (u v : Bool) → v ≡ not u → cond u (b ∷ a ∷ x ∷ xs) (a ∷ b ∷ x ∷ xs) ≡ cond v (a ∷ b ∷ x ∷ xs) (b ∷ a ∷ x ∷ xs)
    two true v e = rw e
    two false v e = rw e

pub insert_man-first : (m : Man) (xs : List Man) → NoneBelow m.at xs → insert_man m xs ≡ m ∷ xs
insert_man-first m [] h = refl
insert_man-first m (x ∷ xs) h = let e : nat_lt x.at m.at ≡ false = not_below x.at m.at h.0 in rw e
  where
    not_below : (a b : ℕ) → b ≤ a → nat_lt a b ≡ false
    not_below a b h = grind (arith, nat_tests)

NoneBelow-filter : (q : Man → Bool) (n : ℕ) (xs : List Man) → NoneBelow n xs → NoneBelow n (filter q xs)
NoneBelow-filter q n [] h = tt
NoneBelow-filter q n (x ∷ xs) h = elim (q x) as (λ b. NoneBelow n (cond b (x ∷ filter q xs) (filter q xs)))
    [ true ↦ (h.0, NoneBelow-filter q n xs h.1) | false ↦ NoneBelow-filter q n xs h.1 ]

-- a filter of a list with a man inserted in order
pub filter-insert_man : (q : Man → Bool) (m : Man) (xs : List Man) → IsSortedByAt xs → filter q (insert_man m xs)
    ≡ cond (q m) (insert_man m (filter q xs)) (filter q xs)
filter-insert_man q m [] h = refl
filter-insert_man q m (x ∷ xs) h =
    let go : (b c d : Bool) → nat_lt x.at m.at ≡ b → q x ≡ c → q m ≡ d
    → filter q (cond b (x ∷ insert_man m xs) (m ∷ x ∷ xs))
    ≡ cond d (insert_man m (cond c (x ∷ filter q xs) (filter q xs))) (cond c (x ∷ filter q xs) (filter q xs)) =
    λ b c d. elim b as (λ v. nat_lt x.at m.at ≡ v → q x ≡ c → q m ≡ d
    → filter q (cond v (x ∷ insert_man m xs) (m ∷ x ∷ xs))
    ≡ cond d (insert_man m (cond c (x ∷ filter q xs) (filter q xs))) (cond c (x ∷ filter q xs) (filter q xs))) [
      | true ↦ λ t e f. rw (filter-insert_man q m xs h.1, e, f) (later c d t)
      | false ↦ λ t e f. rw (e, f) (first c d t)
    ] in
    go (nat_lt x.at m.at) (q x) (q m) refl refl refl
  where
    later : (c d : Bool) → nat_lt x.at m.at ≡ true → cond c (x ∷ cond d (insert_man m (filter q xs)) (filter q xs))
        (cond d (insert_man m (filter q xs)) (filter q xs)) ≡ cond d (insert_man m (cond c (x ∷ filter q xs) (filter q xs)))
        (cond c (x ∷ filter q xs) (filter q xs))
    later true true t = rw t
    later true false t = refl
    later false true t = refl
    later false false t = refl

    first : (c d : Bool) → nat_lt x.at m.at ≡ false
        → cond d (m ∷ cond c (x ∷ filter q xs) (filter q xs)) (cond c (x ∷ filter q xs) (filter q xs))
        ≡ cond d (insert_man m (cond c (x ∷ filter q xs) (filter q xs))) (cond c (x ∷ filter q xs) (filter q xs))
    first true true t = rw t
    first false true t = sym (insert_man-first m (filter q xs) (NoneBelow-filter q m.at xs (NoneBelow-less m.at x.at xs (ltb-false _ _ t) h.0)))
    first c false t = refl

-- a man on the board, of a kind that the symmetry respects
pub record IsSeated (s : Symmetry) (m : Man) : Type 0 where
  pub on : m.at < 64
  pub pawn : is_pawn m ≡ true → KeepsPawns s

not_both_true : (a b : Bool) → (not a && not b) ≡ true → (a ≡ false) × (b ≡ false)
not_both_true a b e = let h = and_parts _ _ e in (not_true a h.0, not_true b h.1)

pub KeepsPawns-from : (s : Symmetry) → keeps_pawns s ≡ true → KeepsPawns s
KeepsPawns-from s e = let h = not_both_true s.ranks s.diagonal e in record { ranks = h.0; diagonal = h.1 }

-- the men of a position that admits the symmetry
pub IsSeated-from_admits : (s : Symmetry) (xs : List Man) → (not (list_any is_pawn xs) || keeps_pawns s) ≡ true → All (λ m. m.at < 64) xs → Each (IsSeated s) xs
IsSeated-from_admits s [] e all = tt
IsSeated-from_admits s (x ∷ xs) e all =
    let parts = split (is_pawn x) (list_any is_pawn xs) (keeps_pawns s) e in (
      record { on = All-head (λ m. m.at < 64) x xs all; pawn = λ k. KeepsPawns-from s (parts.0 k) },
      IsSeated-from_admits s xs parts.1 (All-tail (λ m. m.at < 64) x xs all),
    )
  where
    split : (a b k : Bool) → (not (a || b) || k) ≡ true → (a ≡ true → k ≡ true) × ((not b || k) ≡ true)
    split true b true e = (λ _. refl, or_true (not b))
      where
        or_true : (u : Bool) → (u || true) ≡ true
        or_true true = refl
        or_true false = refl
    split true b false e = absurd (false≢true e)
    split false b k e = (λ h. absurd (false≢true h), e)

module _ (s : Symmetry) where
  -- a test of each image that agrees with another test of the man
  pub any_turned : (q p : Man → Bool) → ((m : Man) → IsSeated s m → q (turned_man s m) ≡ p m) → (xs : List Man)
      → Each (IsSeated s) xs → list_any q (turned_men s xs) ≡ list_any p xs
  any_turned q p f [] h = refl
  any_turned q p f (x ∷ xs) h = list_any-insert_man q (turned_man s x) (turned_men s xs) ∙ rw (f x h.0, any_turned q p f xs h.1)

  pub count_turned : (q p : Man → Bool) → ((m : Man) → IsSeated s m → q (turned_man s m) ≡ p m) → (xs : List Man)
      → Each (IsSeated s) xs → count_by q (turned_men s xs) ≡ count_by p xs
  count_turned q p f [] h = refl
  count_turned q p f (x ∷ xs) h = count_by-insert_man q (turned_man s x) (turned_men s xs)
      ∙ rw (f x h.0, count_turned q p f xs h.1) (sym (count_by-cons p x xs))

  pub length-turned : (xs : List Man) → length (turned_men s xs) ≡ length xs
  length-turned [] = refl
  length-turned (x ∷ xs) = length-insert_man (turned_man s x) (turned_men s xs) ∙ ap suc (length-turned xs)

  pub sorted_turned : (xs : List Man) → IsSortedByAt (turned_men s xs)
  sorted_turned [] = tt
  sorted_turned (x ∷ xs) = IsSortedByAt-insert_man (turned_man s x) (turned_men s xs) (sorted_turned xs)

  pub man_at_turned : (x : ℕ) → x < 64 → (xs : List Man) → Each (IsSeated s) xs
      → man_at (turned_men s xs) (turned_square s x) ≡ option_map (turned_man s) (man_at xs x)
  man_at_turned x lx [] h = refl
  man_at_turned x lx (y ∷ ys) h =
      man_at-insert_man (turned_man s y) (turned_men s ys) (turned_square s x)
      ∙ rw (turned_apart s y.at x (h.0).on lx, man_at_turned x lx ys h.1) (moved (eqb y.at x))
    where
      moved : (b : Bool) → cond b (Some (turned_man s y)) (option_map (turned_man s) (man_at ys x)) ≡ option_map (turned_man s) (cond b (Some y) (man_at ys x))
      moved true = refl
      moved false = refl

  pub filter_turned : (q p : Man → Bool) → ((m : Man) → IsSeated s m → q (turned_man s m) ≡ p m) → (xs : List Man)
      → Each (IsSeated s) xs → filter q (turned_men s xs) ≡ turned_men s (filter p xs)
  filter_turned q p f [] h = refl
  filter_turned q p f (x ∷ xs) h =
      filter-insert_man q (turned_man s x) (turned_men s xs) (sorted_turned xs)
      ∙ rw (f x h.0, filter_turned q p f xs h.1) (moved (p x))
    where
      moved : (b : Bool) → cond b (insert_man (turned_man s x) (turned_men s (filter p xs)))
          (turned_men s (filter p xs)) ≡ turned_men s (cond b (x ∷ filter p xs) (filter p xs))
      moved true = refl
      moved false = refl

  -- a man inserted among men on other squares
  pub placed_turned : (m : Man) → m.at < 64 → (xs : List Man) → Each (IsSeated s) xs
      → list_any (λ y. y.at == m.at) xs ≡ false
      → turned_men s (insert_man m xs) ≡ insert_man (turned_man s m) (turned_men s xs)
  placed_turned m lm [] h e = refl
  placed_turned m lm (x ∷ xs) h e =
      let parts = or_false (x.at == m.at) (list_any (λ y. y.at == m.at) xs) e in
      let other : eqb (turned_square s x.at) (turned_square s m.at) ≡ false = turned_apart s x.at m.at (h.0).on lm ∙ parts.0 in
      elim (nat_lt x.at m.at) as (λ b. turned_men s (cond b (x ∷ insert_man m xs) (m ∷ x ∷ xs))
      ≡ insert_man (turned_man s m) (insert_man (turned_man s x) (turned_men s xs))) [
        | true ↦ rw (placed_turned m lm xs h.1 parts.1) (insert_man-exchanged (turned_man s x) (turned_man s m) (turned_men s xs) other)
        | false ↦ refl
      ]

  -- the tests of a position, of images
  module _ (xs : List Man) (h : Each (IsSeated s) xs) where
    pub is_blocked-turned : (a x : ℕ) → a < 64 → x < 64 → is_blocked (turned_men s xs) (turned_square s a) (turned_square s x) ≡ is_blocked xs a x
    unfolding is_blocked
    is_blocked-turned a x la lx = any_turned _ (λ m. strictly_between a m.at x) (λ m k. strictly_between-turned s a m.at x la k.on lx) xs h

    pub reaches-turned : (side : Side) (kind : Kind) (a x : ℕ) → a < 64 → x < 64 → (same_kind kind Pawn ≡ true → KeepsPawns s)
        → reaches (turned_men s xs) (turned_side s.colours side) kind (turned_square s a) (turned_square s x) ≡ reaches xs side kind a x
    unfolding reaches
    reaches-turned side King a x la lx k = king_step-turned s a x la lx
    reaches-turned side Queen a x la lx k = rw (on_rook_line-turned s a x la lx, on_bishop_line-turned s a x la lx, is_blocked-turned a x la lx)
    reaches-turned side Rook a x la lx k = rw (on_rook_line-turned s a x la lx, is_blocked-turned a x la lx)
    reaches-turned side Bishop a x la lx k = rw (on_bishop_line-turned s a x la lx, is_blocked-turned a x la lx)
    reaches-turned side Knight a x la lx k = knight_jump-turned s a x la lx
    reaches-turned side Pawn a x la lx k = pawn_captures-turned s (k refl) side a x la lx

    pub bears_on-turned : (m : Man) (x : ℕ) → IsSeated s m → x < 64 → attacks_square (turned_men s xs) (turned_man s m) (turned_square s x) ≡ attacks_square
        xs m x
    bears_on-turned m x k lx = rw (turned_apart s m.at x k.on lx, reaches-turned m.side m.kind m.at x k.on lx k.pawn)

    pub is_attacked-turned : (side : Side) (x : ℕ) → x < 64
        → is_attacked (turned_men s xs) (turned_side s.colours side) (turned_square s x) ≡ is_attacked xs side x
    unfolding is_attacked
    is_attacked-turned side x lx =
        any_turned _ (λ m. same_side m.side side && attacks_square xs m x) (λ m k. rw (same_side-turned s.colours m.side side, bears_on-turned m x k lx)) xs h

    is_man-turned : (side : Side) (kind : Kind) (m : Man) → is_man (turned_side s.colours side) kind (turned_man s m) ≡ is_man side kind m
    is_man-turned side k m = rw (same_side-turned s.colours m.side side)

    pub in_check-turned : (side : Side) → in_check (turned_men s xs) (turned_side s.colours side) ≡ in_check xs side
    unfolding in_check
    in_check-turned side =
        any_turned _ (λ k. is_man side King k && is_attacked xs (other_side side) k.at)
        (λ m k. rw (is_man-turned side King m, other_side-turned s.colours side, is_attacked-turned (other_side side) m.at k.on)) xs h

    pub is_occupied-turned : (x : ℕ) → x < 64 → is_occupied (turned_men s xs) (turned_square s x) ≡ is_occupied xs x
    unfolding is_occupied
    is_occupied-turned x lx = any_turned _ (λ m. m.at == x) (λ m k. turned_apart s m.at x k.on lx) xs h

    pub has_man-turned : (side : Side) (kind : Kind) (x : ℕ) → x < 64
        → has_man (turned_men s xs) (turned_side s.colours side) kind (turned_square s x) ≡ has_man xs side kind x
    unfolding has_man
    has_man-turned side kind x lx =
        any_turned _ (λ m. is_man side kind m && (m.at == x))
        (λ m k. rw (is_man-turned side kind m, turned_apart s m.at x k.on lx)) xs h

    pub has_square_twice-turned : has_square_twice (turned_men s xs) ≡ has_square_twice xs
    unfolding has_square_twice
    has_square_twice-turned =
        any_turned _ (λ x. nat_lt 1 (count_by (λ y. y.at == x.at) xs))
        (λ m k. rw (count_turned (λ y. y.at == turned_square s m.at) (λ y. y.at == m.at) (λ y l. turned_apart s y.at m.at l.on k.on) xs h)) xs h

    pub has_one_king-turned : (side : Side) → has_one_king (turned_men s xs) (turned_side s.colours side) ≡ has_one_king xs side
    unfolding has_one_king
    has_one_king-turned side = rw (count_turned (is_man (turned_side s.colours side) King) (is_man side King) (λ m _. is_man-turned side King m) xs h)

    pub is_end_pawn-turned : (m : Man) → IsSeated s m → is_end_pawn (turned_man s m) ≡ is_end_pawn m
    unfolding is_end_pawn
    is_end_pawn-turned m k =
        rw (either_side (turned_side s.colours m.side) (same_kind m.kind Pawn), either_side m.side (same_kind m.kind Pawn))
        (and_under (is_pawn m) (is_pawn m) _ _ refl (λ e. rw (rank_of-kept s (k.pawn e) m.at k.on) (ends s.colours (rank_of m.at) (rank_small m.at k.on))))
      where
        either_side : (side : Side) (b : Bool) → ((same_side side White && b) || (same_side side Black && b)) ≡ b
        either_side White true = refl
        either_side White false = refl
        either_side Black true = refl
        either_side Black false = refl

        far_ends : (n : ℕ) → n < 8 → (eqb (7 - n) 0 || eqb (7 - n) 7) ≡ (eqb n 0 || eqb n 7)
        far_ends n h = grind (arith, nat_tests)

        ends : (c : Bool) (n : ℕ) → n < 8 → (eqb (mirror_if c n) 0 || eqb (mirror_if c n) 7) ≡ (eqb n 0 || eqb n 7)
        ends true n h = far_ends n h
        ends false n h = refl

    pub has_end_pawn-turned : has_end_pawn (turned_men s xs) ≡ has_end_pawn xs
    unfolding has_end_pawn
    has_end_pawn-turned = any_turned is_end_pawn is_end_pawn is_end_pawn-turned xs h

    could_be : List Man → Side → ℕ → Bool
    could_be men side x =
        (rank_of x == home_rank side) &&
        (is_empty men x && (is_empty men (shadow side x) && has_man men (other_side side) Pawn (ahead side x)))

    pub could_be_passed-turned : KeepsPawns s → (side : Side) (x : ℕ) → x < 64
        → could_be_passed (turned_men s xs) (turned_side s.colours side) (turned_square s x) ≡ could_be_passed xs side
        x
    unfolding could_be could_be_passed
    could_be_passed-turned keeps side x lx =
        by_home (turned_men s xs) (turned_side s.colours side) (turned_square s x)
        ∙ and_under (rank_of x == home_rank side) (rank_of (turned_square s x) == home_rank (turned_side s.colours side))
        (is_empty xs x && (is_empty xs (shadow side x) && has_man xs (other_side side) Pawn (ahead side x)))
        (is_empty (turned_men s xs) (turned_square s x) &&
        (is_empty (turned_men s xs) (shadow (turned_side s.colours side) (turned_square s x)) && has_man
        (turned_men s xs) (other_side (turned_side s.colours side)) Pawn
        (ahead (turned_side s.colours side) (turned_square s x))))
        (rw (rank_of-kept s keeps x lx) (home_rank-turned s.colours side (rank_of x) (rank_small x lx)))
        (λ e.
        let r = eqb_then (rank_of x) (home_rank side) e in
        let b = near side x r in
        rw (
          ← turned_behind s keeps side x r,
          ← turned_ahead s keeps side x r,
          is_occupied-turned x lx,
          is_occupied-turned (shadow side x) b.0,
          other_side-turned s.colours side,
          has_man-turned (other_side side) Pawn (ahead side x) b.1,
        ))
        ∙ sym (by_home xs side x)
      where
        assoc : (a b c d : Bool) → (a && b && c && d) ≡ (a && (b && (c && d)))
        assoc true true c d = refl
        assoc true false c d = refl
        assoc false b c d = refl

        by_home : (men : List Man) (side : Side) (x : ℕ) → could_be_passed men side x ≡ could_be men side x
        by_home men White x = assoc (rank_of x == 5) (is_empty men x) (is_empty men (x + 8)) (has_man men Black Pawn (x - 8))
        by_home men Black x = assoc (rank_of x == 2) (is_empty men x) (is_empty men (x - 8)) (has_man men White Pawn (x + 8))

        near : (side : Side) (x : ℕ) → rank_of x ≡ home_rank side → (shadow side x < 64) × (ahead side x < 64)
        near White x r = (omega arith, omega arith)
        near Black x r = (omega arith, omega arith)

  -- the image of a passed square that is possible
  pub passed_square : (side : Side) (men : List Man) (x : ℕ) → could_be_passed men side x ≡ true → (x < 64)
      × (has_man men (other_side side) Pawn (ahead side x) ≡ true)
  unfolding could_be_passed
  passed_square White men x e =
      let a = and_parts _ _ e in let r = eqb_then (rank_of x) 5 (and_parts _ _ (and_parts _ _ a.0).0).0 in (omega arith, a.1)
  passed_square Black men x e =
      let a = and_parts _ _ e in let r = eqb_then (rank_of x) 2 (and_parts _ _ (and_parts _ _ a.0).0).0 in (omega arith, a.1)

  pawn_there : (xs : List Man) (side : Side) (y : ℕ) → has_man xs side Pawn y ≡ true → list_any is_pawn xs ≡ true
  unfolding has_man
  pawn_there xs side y e =
      let go : (b : Bool) → list_any is_pawn xs ≡ b → list_any is_pawn xs ≡ true =
      λ b. elim b as (λ v. list_any is_pawn xs ≡ v → list_any is_pawn xs ≡ true) [
        | true ↦ λ k. k
        | false ↦ λ k. absurd
            (false≢true
            (sym
            (list_any_weaker (λ m. is_man side Pawn m && (m.at == y)) is_pawn
            (λ m f. (and_parts _ _ (and_parts _ _ f).0).1) xs k) ∙ e))
      ] in
      go (list_any is_pawn xs) refl

  passed_possible-turned : (xs : List Man) → Each (IsSeated s) xs → (not (list_any is_pawn xs) || keeps_pawns s)
      ≡ true → (side : Side) (q : Option ℕ) → passed_possible xs side q ≡ true
      → passed_possible (turned_men s xs) (turned_side s.colours side) (turned_passed s q) ≡ true
  passed_possible-turned xs h ad side None e = refl
  passed_possible-turned xs h ad side (Some x) e =
      let sq = passed_square side xs x e in
      let pawn = pawn_there xs (other_side side) (ahead side x) sq.1 in
      let keeps = KeepsPawns-from s (then_keeps (list_any is_pawn xs) (keeps_pawns s) pawn ad) in
      could_be_passed-turned xs h keeps side x sq.0 ∙ e
    where
      then_keeps : (a k : Bool) → a ≡ true → (not a || k) ≡ true → k ≡ true
      then_keeps true k e f = f
      then_keeps false k e f = absurd (false≢true e)

  -- the image of a valid position is valid
  pub IsFaultless-turned : (p : Position) → Each (IsSeated s) p.men → admits p s ≡ true
      → IsFaultless p.men p.to_move p.passed → IsFaultless (image s p).men (image s p).to_move (image s p).passed
  IsFaultless-turned p h ad f = record {
    few = rw (length-turned p.men) f.few;
    once = has_square_twice-turned p.men h ∙ f.once;
    kings = both s.colours (has_one_king (turned_men s p.men)) (has_one_king p.men) (has_one_king-turned p.men h) ∙ f.kings;
    pawns = has_end_pawn-turned p.men h ∙ f.pawns;
    safe = rw (other_side-turned s.colours p.to_move) (in_check-turned p.men h (other_side p.to_move) ∙ f.safe);
    possible = passed_possible-turned p.men h ad p.to_move p.passed f.possible;
  }
    where
      both : (c : Bool) (f g : Side → Bool) → ((side : Side) → f (turned_side c side) ≡ g side) → (f White && f Black) ≡ (g White && g Black)
      both true f g e = let w = e White in let b = e Black in rw (b, w) (and_comm (g Black) (g White))
      both false f g e = rw (e White, e Black)

  Each-small : (xs : List Man) → Each (IsSeated s) xs → All (λ m. m.at < 64) (turned_men s xs)
  Each-small xs h = from_each (turned_men s xs) (small xs h)
    where
      from_each : (ys : List Man) → Each (λ m. m.at < 64) ys → All (λ m. m.at < 64) ys
      from_each [] h = All-nil (λ m. m.at < 64)
      from_each (y ∷ ys) h = All-cons (λ m. m.at < 64) y ys h.0 (from_each ys h.1)

      small : (xs : List Man) → Each (IsSeated s) xs → Each (λ m. m.at < 64) (turned_men s xs)
      small [] h = tt
      small (x ∷ xs) h = Each-insert_man (λ m. m.at < 64) (turned_man s x) (turned_men s xs) (turned_small s x.at (h.0).on) (small xs h.1)

  pub seats : (p : Position) → IsValid p → admits p s ≡ true → Each (IsSeated s) p.men
  seats p v ad = IsSeated-from_admits s p.men ad v.on_board

  pub valid_image : (p : Position) → IsValid p → admits p s ≡ true → IsValid (image s p)
  valid_image p v ad =
      let h = seats p v ad in
      let f = IsFaultless-turned p h ad (IsFaultless-from_first p.men p.to_move p.passed v.faultless) in
      record {
        ordered = IsAscending-from_sorted (turned_men s p.men) (sorted_turned p.men) f.once;
        on_board = Each-small p.men h;
        faultless = first_fault-from_IsFaultless (image s p).men (image s p).to_move (image s p).passed f;
      }

-- one more man of men in order
module _ (s : Symmetry) where
  AllAbove-get_or : (n : ℕ) (xs : List Man) (k : ℕ) (d : Man) → k < length xs → AllAbove n xs → n < (get_or xs k d).at
  AllAbove-get_or n [] k d lt h = absurd (omega arith)
  AllAbove-get_or n (x ∷ xs) zero d lt h = h.0
  AllAbove-get_or n (x ∷ xs) (suc k) d lt h = AllAbove-get_or n xs k d (omega arith) h.1

  turned_men-suc : (xs : List Man) (k : ℕ) (d : Man) → k < length xs → IsAscending xs → All (λ m. m.at < 64) xs
      → turned_men s (take (suc k) xs) ≡ insert_man (turned_man s (get_or xs k d)) (turned_men s (take k xs))
  turned_men-suc [] k d lt h all = absurd (omega arith)
  turned_men-suc (x ∷ xs) zero d lt h all = refl
  turned_men-suc (x ∷ xs) (suc k) d lt h all =
      let rest = All-tail (λ m. m.at < 64) x xs all in
      let here = All-head (λ m. m.at < 64) x xs all in
      let lt' : k < length xs = omega arith in
      let there = All-get_or (λ m. m.at < 64) xs k d lt' rest in
      let above = AllAbove-get_or x.at xs k d lt' h.0 in
      let other = turned_apart s x.at (get_or xs k d).at here there ∙ not_same x.at (get_or xs k d).at above in
      rw (turned_men-suc xs k d lt' h.1 rest) (insert_man-exchanged (turned_man s x) (turned_man s (get_or xs k d)) (turned_men s (take k xs)) other)
    where
      not_same : (a b : ℕ) → a < b → eqb a b ≡ false
      not_same a b lt = grind (arith, nat_tests)

  pub turned_men-more : (xs ys zs : List Man) (k : ℕ) (d m : Man) → k < length xs → IsAscending xs
      → All (λ m. m.at < 64) xs → m ≡ turned_man s (get_or xs k d) → ys ≡ turned_men s (take k xs) → zs ≡ insert_man m ys
      → zs ≡ turned_men s (take (k + 1) xs)
  turned_men-more xs ys zs k d m lt h all e f g = g ∙ rw (e, f, add-one) (sym (turned_men-suc xs k d lt h all))
