-- The lists of an image are those of the position, exchanged if the colours are swapped; so the class is the same.
use Rattle.std.proofs.Common.{◌≡◌, ℕ, ◌⊎◌, Bool, true, false, cond, ◌&&◌, ◌||◌, nat_lt, eqb, List, [], ◌∷◌, length, map, refl, sym, ◌∙◌, ap, arith, inl, inr}
use Rattle.std.specs.List.Sorted.{IsPermutation}
use Rattle.std.proofs.lemmas.Bool.{false≢true}
use Rattle.std.proofs.lemmas.Bool.Decides.{nat_tests}
use Rattle.std.proofs.lemmas.List.Sorted.{IsPermutation-refl, IsPermutation-trans, IsPermutation-cons}
use Rattle.study_board.specs.declared.men.Man.{Man}
use Rattle.study_board.specs.declared.men.Side.{Side}
use Rattle.study_board.specs.declared.men.Side.TheVariants.{White, Black}
use Rattle.study_board.specs.declared.men.Kind.{Kind}
use Rattle.study_board.specs.declared.men.Kind.TheVariants.{King, Queen, Rook, Bishop, Knight, Pawn}
use Rattle.study_board.specs.declared.symmetry.Symmetry.{Symmetry}
use Rattle.study_board.specs.Men.{same_kind}
use Rattle.study_board.specs.EqualLaws.{kind_self}
use Rattle.study_board.specs.Symmetry.{turned_side, turned_man, turned_men}
use Rattle.study_board.specs.Images.{differ}
use Rattle.study_board.proofs.Coordinates.{same_side-turned}
use Rattle.study_board.proofs.MenInOrder.{IsPermutation-insert_man}
use Rattle.study_material.specs.Lists.{Lists, of, kind_place, kinds_of, lists, is_earlier, comes_before, lists_exchanged, is_exchanged, ordered_lists}
use Rattle.study_material.specs.Lists.{is_swapped}
use Rattle.study_material.proofs.KindCounts.{lists-IsPermutation}

-- the men of an image are the men turned
pub IsPermutation-turned : (t : Symmetry) (xs : List Man) → IsPermutation (map (turned_man t) xs) (turned_men t xs)
IsPermutation-turned t [] = IsPermutation-refl []
IsPermutation-turned t (x ∷ xs) =
    IsPermutation-trans _ _ _ (IsPermutation-cons (turned_man t x) _ _ (IsPermutation-turned t xs))
    (IsPermutation-insert_man (turned_man t x) (turned_men t xs))

kinds_of-turned : (t : Symmetry) (side : Side) (xs : List Man) → kinds_of (turned_side t.colours side) (map (turned_man t) xs) ≡ kinds_of side xs
kinds_of-turned t side [] = refl
kinds_of-turned t side (x ∷ xs) = rw (same_side-turned t.colours x.side side, kinds_of-turned t side xs) refl

-- the lists, exchanged or not
abbrev pub turned_lists : Bool → Lists → Lists
turned_lists true l = lists_exchanged l
turned_lists false l = l

lists-turned : (t : Symmetry) (xs : List Man) → lists (map (turned_man t) xs) ≡ turned_lists t.colours (lists xs)
lists-turned t xs = by_colours t.colours (λ side. kinds_of-turned t side xs)
  where
    by_colours : (c : Bool)
        → ((side : Side) → kinds_of (turned_side c side) (map (turned_man t) xs) ≡ kinds_of side xs)
        → lists (map (turned_man t) xs) ≡ turned_lists c (lists xs)
    by_colours true h = both (h Black) (h White)
      where
        both : kinds_of White (map (turned_man t) xs) ≡ kinds_of Black xs → kinds_of Black (map (turned_man t) xs)
            ≡ kinds_of White xs → lists (map (turned_man t) xs) ≡ lists_exchanged (lists xs)
        both e f = rw (e, f) refl
    by_colours false h = both (h White) (h Black)
      where
        both : kinds_of White (map (turned_man t) xs) ≡ kinds_of White xs → kinds_of Black (map (turned_man t) xs)
            ≡ kinds_of Black xs → lists (map (turned_man t) xs) ≡ lists xs
        both e f = rw (e, f) refl

pub lists-image : (t : Symmetry) (xs : List Man) → lists (turned_men t xs) ≡ turned_lists t.colours (lists xs)
lists-image t xs = lists-IsPermutation (map (turned_man t) xs) (turned_men t xs) (IsPermutation-turned t xs) ∙ lists-turned t xs

-- one kind before another in list order
abbrev Precedes : Kind → Kind → Type 0
Precedes x y = (nat_lt (kind_place x) (kind_place y) ≡ true) × (nat_lt (kind_place y) (kind_place x) ≡ false)
    × (same_kind x y ≡ false) × (same_kind y x ≡ false)

compared : (x y : Kind) → Precedes x y ⊎ (Precedes y x ⊎ (x ≡ y))
compared King King = inr (inr refl)
compared King Queen = inr (inl (refl, refl, refl, refl))
compared King Rook = inr (inl (refl, refl, refl, refl))
compared King Bishop = inr (inl (refl, refl, refl, refl))
compared King Knight = inr (inl (refl, refl, refl, refl))
compared King Pawn = inr (inl (refl, refl, refl, refl))
compared Queen King = inl (refl, refl, refl, refl)
compared Queen Queen = inr (inr refl)
compared Queen Rook = inl (refl, refl, refl, refl)
compared Queen Bishop = inl (refl, refl, refl, refl)
compared Queen Knight = inl (refl, refl, refl, refl)
compared Queen Pawn = inl (refl, refl, refl, refl)
compared Rook King = inl (refl, refl, refl, refl)
compared Rook Queen = inr (inl (refl, refl, refl, refl))
compared Rook Rook = inr (inr refl)
compared Rook Bishop = inl (refl, refl, refl, refl)
compared Rook Knight = inl (refl, refl, refl, refl)
compared Rook Pawn = inl (refl, refl, refl, refl)
compared Bishop King = inl (refl, refl, refl, refl)
compared Bishop Queen = inr (inl (refl, refl, refl, refl))
compared Bishop Rook = inr (inl (refl, refl, refl, refl))
compared Bishop Bishop = inr (inr refl)
compared Bishop Knight = inl (refl, refl, refl, refl)
compared Bishop Pawn = inl (refl, refl, refl, refl)
compared Knight King = inl (refl, refl, refl, refl)
compared Knight Queen = inr (inl (refl, refl, refl, refl))
compared Knight Rook = inr (inl (refl, refl, refl, refl))
compared Knight Bishop = inr (inl (refl, refl, refl, refl))
compared Knight Knight = inr (inr refl)
compared Knight Pawn = inl (refl, refl, refl, refl)
compared Pawn King = inl (refl, refl, refl, refl)
compared Pawn Queen = inr (inl (refl, refl, refl, refl))
compared Pawn Rook = inr (inl (refl, refl, refl, refl))
compared Pawn Bishop = inr (inl (refl, refl, refl, refl))
compared Pawn Knight = inr (inl (refl, refl, refl, refl))
compared Pawn Pawn = inr (inr refl)

-- of two equal kinds neither comes first
not_below : (k : ℕ) → nat_lt k k ≡ false
not_below k = grind (arith, nat_tests)

abbrev step : Kind → Kind → Bool → Bool
step x y rest = cond (nat_lt (kind_place x) (kind_place y)) true (same_kind x y && rest)

not_both_earlier : (xs ys : List Kind) → is_earlier xs ys ≡ true → is_earlier ys xs ≡ false
not_both_earlier [] ys e = absurd (false≢true e)
not_both_earlier (x ∷ xs) [] e = absurd (false≢true e)
not_both_earlier (x ∷ xs) (y ∷ ys) e = by_heads (compared x y) e (λ k. not_both_earlier xs ys k)
  where
    or_else : (s a b : Bool) → (s && a) ≡ true → (a ≡ true → b ≡ false) → (s && b) ≡ false
    or_else true a b e h = h e
    or_else false a b e h = refl

    by_heads : Precedes x y ⊎ (Precedes y x ⊎ (x ≡ y)) → step x y (is_earlier xs ys) ≡ true
        → (is_earlier xs ys ≡ true → is_earlier ys xs ≡ false) → step y x (is_earlier ys xs) ≡ false
    by_heads (inl h) e rest = rw (h.1, h.3)
    by_heads (inr (inl h)) e rest = absurd (false≢true (sym (rw (h.1, h.3)) ∙ e))
    by_heads (inr (inr h)) e rest = same x y h e
      where
        same : (x y : Kind) → x ≡ y → step x y (is_earlier xs ys) ≡ true → step y x (is_earlier ys xs) ≡ false
        same x y h e =
            rw (← h, not_below (kind_place x))
            (or_else (same_kind x x) (is_earlier xs ys) (is_earlier ys xs) (rw (← h, not_below (kind_place x)) at e)
            rest)

neither_earlier : (xs ys : List Kind) → length xs ≡ length ys → is_earlier xs ys ≡ false → is_earlier ys xs ≡ false → xs ≡ ys
neither_earlier [] [] l e f = refl
neither_earlier [] (y ∷ ys) l e f = absurd (let k : 0 ≡ length (y ∷ ys) = l in omega arith)
neither_earlier (x ∷ xs) [] l e f = absurd (let k : length (x ∷ xs) ≡ 0 = l in omega arith)
neither_earlier (x ∷ xs) (y ∷ ys) l e f = by_heads (compared x y) e f (λ h k. neither_earlier xs ys (omega arith) h k)
  where
    by_heads : Precedes x y ⊎ (Precedes y x ⊎ (x ≡ y)) → step x y (is_earlier xs ys) ≡ false → step y x (is_earlier ys xs) ≡ false
        → (is_earlier xs ys ≡ false → is_earlier ys xs ≡ false → xs ≡ ys) → x ∷ xs ≡ y ∷ ys
    by_heads (inl h) e f rest = absurd (false≢true (sym e ∙ rw h.0))
    by_heads (inr (inl h)) e f rest = absurd (false≢true (sym f ∙ rw h.0))
    by_heads (inr (inr h)) e f rest = same x y h e f
      where
        same : (x y : Kind) → x ≡ y → step x y (is_earlier xs ys) ≡ false → step y x (is_earlier ys xs) ≡ false → x ∷ xs ≡ y ∷ ys
        same x y h e f =
            let e' : is_earlier xs ys ≡ false = rw (← h, not_below (kind_place x), kind_self x) at e in
            let f' : is_earlier ys xs ≡ false = rw (← h, not_below (kind_place x), kind_self x) at f in
            rw (h, rest e' f') refl

not_both : (xs ys : List Kind) → comes_before xs ys ≡ true → comes_before ys xs ≡ false
not_both xs ys e = by_tests (nat_lt (length ys) (length xs)) (nat_lt (length xs) (length ys))
    (eqb (length xs) (length ys)) (eqb (length ys) (length xs)) refl refl refl refl e
  where
    by_tests : (g l s s' : Bool) → nat_lt (length ys) (length xs) ≡ g → nat_lt (length xs) (length ys) ≡ l
        → eqb (length xs) (length ys) ≡ s → eqb (length ys) (length xs) ≡ s'
        → (g || (s && is_earlier xs ys)) ≡ true → (l || (s' && is_earlier ys xs)) ≡ false
    by_tests true true s s' a b c d e = absurd (both (length xs) (length ys) a b)
      where
        both : (m n : ℕ) → nat_lt n m ≡ true → nat_lt m n ≡ true → ⊥
        both m n a b = grind (arith, nat_tests)
    by_tests true false s true a b c d e = absurd (both (length xs) (length ys) a d)
      where
        both : (m n : ℕ) → nat_lt n m ≡ true → eqb n m ≡ true → ⊥
        both m n a b = grind (arith, nat_tests)
    by_tests true false s false a b c d e = refl
    by_tests false l false s' a b c d e = absurd (false≢true e)
    by_tests false true true s' a b c d e = absurd (both (length xs) (length ys) b c)
      where
        both : (m n : ℕ) → nat_lt m n ≡ true → eqb m n ≡ true → ⊥
        both m n a b = grind (arith, nat_tests)
    by_tests false false true false a b c d e = refl
    by_tests false false true true a b c d e = not_both_earlier xs ys e

neither : (xs ys : List Kind) → comes_before xs ys ≡ false → comes_before ys xs ≡ false → xs ≡ ys
neither xs ys e f =
    by_tests (nat_lt (length ys) (length xs)) (nat_lt (length xs) (length ys)) (eqb (length xs) (length ys))
    (eqb (length ys) (length xs)) refl refl refl refl e f
  where
    by_tests : (g l s s' : Bool) → nat_lt (length ys) (length xs) ≡ g → nat_lt (length xs) (length ys) ≡ l
        → eqb (length xs) (length ys) ≡ s → eqb (length ys) (length xs) ≡ s'
        → (g || (s && is_earlier xs ys)) ≡ false → (l || (s' && is_earlier ys xs)) ≡ false → xs ≡ ys
    by_tests true l s s' a b c d e f = absurd (false≢true (sym e))
    by_tests false true s s' a b c d e f = absurd (false≢true (sym f))
    by_tests false false false s' a b c d e f = absurd (other (length xs) (length ys) a b c)
      where
        other : (m n : ℕ) → nat_lt n m ≡ false → nat_lt m n ≡ false → eqb m n ≡ false → ⊥
        other m n a b c = grind (arith, nat_tests)
    by_tests false false true false a b c d e f = absurd (other (length xs) (length ys) c d)
      where
        other : (m n : ℕ) → eqb m n ≡ true → eqb n m ≡ false → ⊥
        other m n a b = grind (arith, nat_tests)
    by_tests false false true true a b c d e f = neither_earlier xs ys (same (length xs) (length ys) c) e f
      where
        same : (m n : ℕ) → eqb m n ≡ true → m ≡ n
        same m n c = grind (arith, nat_tests)

-- either list comes first, or they are equal
pub data IsCompared (l : Lists) : Type 0 where
  black_first : is_exchanged l ≡ true → is_exchanged (lists_exchanged l) ≡ false → IsCompared l
  white_first : is_exchanged l ≡ false → is_exchanged (lists_exchanged l) ≡ true → IsCompared l
  equal : is_exchanged l ≡ false → is_exchanged (lists_exchanged l) ≡ false → l.white ≡ l.black → IsCompared l

pub compare_lists : (l : Lists) → IsCompared l
compare_lists l = by_tests (is_exchanged l) (is_exchanged (lists_exchanged l)) refl refl
  where
    by_tests : (b w : Bool) → is_exchanged l ≡ b → is_exchanged (lists_exchanged l) ≡ w → IsCompared l
    by_tests true w e f = black_first e (not_both l.black l.white e)
    by_tests false true e f = white_first e f
    by_tests false false e f = equal e f (neither l.white l.black f e)

pub ordered_lists-exchanged : (l : Lists) → ordered_lists (lists_exchanged l) ≡ ordered_lists l
ordered_lists-exchanged l = elim (compare_lists l)
    [ black_first e f ↦ rw (f, e) refl | white_first e f ↦ rw (f, e) refl | equal e f s ↦ rw (f, e) (same l.white l.black s) ]
  where
    same : (xs ys : List Kind) → xs ≡ ys → of ys xs ≡ of xs ys
    same xs ys s = rw s refl

pub ordered_lists-turned : (c : Bool) (l : Lists) → ordered_lists (turned_lists c l) ≡ ordered_lists l
ordered_lists-turned true l = ordered_lists-exchanged l
ordered_lists-turned false l = refl

-- the class of an image is that of the position
pub ordered_lists-image : (t : Symmetry) (xs : List Man) → ordered_lists (lists (turned_men t xs)) ≡ ordered_lists (lists xs)
ordered_lists-image t xs = ap (λ l. ordered_lists l) (lists-image t xs) ∙ ordered_lists-turned t.colours (lists xs)

-- the colours of an image are swapped for the class if exactly one of the position and the symmetry swaps them
pub swapped-image : (t : Symmetry) (xs : List Man) → ((lists xs).white ≡ (lists xs).black → t.colours ≡ false)
    → is_swapped (turned_men t xs) ≡ differ t.colours (is_swapped xs)
swapped-image t xs h = ap (λ l. is_exchanged l) (lists-image t xs) ∙ by_colours t.colours (lists xs) h
  where
    by_colours : (c : Bool) (l : Lists) → (l.white ≡ l.black → c ≡ false) → is_exchanged (turned_lists c l) ≡ differ c (is_exchanged l)
    by_colours false l h = refl
    by_colours true l h = elim (compare_lists l) [ black_first e f ↦ rw (f, e) | white_first e f ↦ rw (f, e) | equal e f s ↦ absurd (false≢true (sym (h s))) ]

-- a class has its lists in order
pub ordered_lists-twice : (l : Lists) → is_exchanged (ordered_lists l) ≡ false
ordered_lists-twice l = elim (compare_lists l) [ black_first e f ↦ rw (e, f) | white_first e f ↦ rw (e, e) | equal e f s ↦ rw (e, e) ]
