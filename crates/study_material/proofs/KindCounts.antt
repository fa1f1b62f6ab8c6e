-- The kinds of a side's men by the number of men of each, so for any order of the men.
use Rattle.std.proofs.Common.{◌≡◌, ℕ, ◌+◌, ◌≤◌, zero, suc, Bool, true, false, cond, nat_lt, List, [], ◌∷◌, length, filter, refl, sym, ◌∙◌, ap, arith}
use Rattle.std.specs.List.{count_by}
use Rattle.std.specs.List.Sorted.{IsPermutation}
use Rattle.std.proofs.lemmas.List.Sorted.{sum_by-IsPermutation}
use Rattle.study_board.specs.declared.men.Man.{Man}
use Rattle.study_board.specs.declared.men.Side.{Side}
use Rattle.study_board.specs.declared.men.Side.TheVariants.{White, Black}
use Rattle.study_board.specs.declared.men.Kind.{Kind}
use Rattle.study_board.specs.declared.men.Kind.TheVariants.{King, Queen, Rook, Bishop, Knight, Pawn}
use Rattle.study_board.specs.Men.{is_man}
use Rattle.study_board.proofs.Lists.{count_by-cons}
use Rattle.study_material.specs.Lists.{of, kind_place, put_kind, kinds_of, lists, is_other_than_king}

-- the number of men of a side and a kind
abbrev pub many : Side → Kind → List Man → ℕ
many side k [] = 0
many side k (x ∷ xs) = cond (is_man side k x) (suc (many side k xs)) (many side k xs)

pub many-count : (side : Side) (k : Kind) (xs : List Man) → many side k xs ≡ count_by (is_man side k) xs
many-count side k [] = refl
many-count side k (x ∷ xs) = by_test (is_man side k x) (many-count side k xs) ∙ sym (count_by-cons (is_man side k) x xs)
  where
    by_test : (b : Bool) → many side k xs ≡ count_by (is_man side k) xs
        → cond b (suc (many side k xs)) (many side k xs) ≡ cond b 1 0 + count_by (is_man side k) xs
    by_test true rest = omega (arith, rest)
    by_test false rest = omega (arith, rest)

pub many-IsPermutation : (side : Side) (k : Kind) (xs ys : List Man) → IsPermutation xs ys → many side k ys ≡ many side k xs
many-IsPermutation side k xs ys p =
    many-count side k ys ∙ sum_by-IsPermutation (λ m. cond (is_man side k m) 1 0) xs ys p ∙ sym (many-count side k xs)

abbrev repeated : Kind → ℕ → List Kind → List Kind
repeated k zero l = l
repeated k (suc n) l = k ∷ repeated k n l

-- queens, rooks, bishops, knights, pawns
abbrev pub listing : ℕ → ℕ → ℕ → ℕ → ℕ → List Kind
listing q r b n p = repeated Queen q (repeated Rook r (repeated Bishop b (repeated Knight n (repeated Pawn p []))))

-- a kind is inserted after earlier kinds, and before its own and later ones
past : (k j : Kind) (n : ℕ) (l : List Kind) → nat_lt (kind_place j) (kind_place k) ≡ true → put_kind k (repeated j n l) ≡ repeated j n (put_kind k l)
past k j zero l e = refl
past k j (suc n) l e = rw e (ap (λ m. j ∷ m) (past k j n l e))

before : (k j : Kind) (n : ℕ) (l : List Kind) → nat_lt (kind_place j) (kind_place k) ≡ false → put_kind k l ≡ k ∷ l
    → put_kind k (repeated j n l) ≡ k ∷ repeated j n l
before k j zero l e h = h
before k j (suc n) l e h = rw e refl

put-queen : (q r b n p : ℕ) → put_kind Queen (listing q r b n p) ≡ listing (suc q) r b n p
put-queen q r b n p =
    before Queen Queen q (repeated Rook r (repeated Bishop b (repeated Knight n (repeated Pawn p [])))) refl
    (before Queen Rook r (repeated Bishop b (repeated Knight n (repeated Pawn p []))) refl
    (before Queen Bishop b (repeated Knight n (repeated Pawn p [])) refl
    (before Queen Knight n (repeated Pawn p []) refl (before Queen Pawn p [] refl (refl)))))

put-rook : (q r b n p : ℕ) → put_kind Rook (listing q r b n p) ≡ listing q (suc r) b n p
put-rook q r b n p =
    past Rook Queen q (repeated Rook r (repeated Bishop b (repeated Knight n (repeated Pawn p [])))) refl
    ∙ ap (λ l. repeated Queen q (l))
    (before Rook Rook r (repeated Bishop b (repeated Knight n (repeated Pawn p []))) refl
    (before Rook Bishop b (repeated Knight n (repeated Pawn p [])) refl
    (before Rook Knight n (repeated Pawn p []) refl (before Rook Pawn p [] refl (refl)))))

put-bishop : (q r b n p : ℕ) → put_kind Bishop (listing q r b n p) ≡ listing q r (suc b) n p
put-bishop q r b n p =
    past Bishop Queen q (repeated Rook r (repeated Bishop b (repeated Knight n (repeated Pawn p [])))) refl
    ∙ ap (λ l. repeated Queen q (l))
    (past Bishop Rook r (repeated Bishop b (repeated Knight n (repeated Pawn p []))) refl)
    ∙ ap (λ l. repeated Queen q (repeated Rook r (l)))
    (before Bishop Bishop b (repeated Knight n (repeated Pawn p [])) refl
    (before Bishop Knight n (repeated Pawn p []) refl (before Bishop Pawn p [] refl (refl))))

put-knight : (q r b n p : ℕ) → put_kind Knight (listing q r b n p) ≡ listing q r b (suc n) p
put-knight q r b n p =
    past Knight Queen q (repeated Rook r (repeated Bishop b (repeated Knight n (repeated Pawn p [])))) refl
    ∙ ap (λ l. repeated Queen q (l))
    (past Knight Rook r (repeated Bishop b (repeated Knight n (repeated Pawn p []))) refl)
    ∙ ap (λ l. repeated Queen q (repeated Rook r (l)))
    (past Knight Bishop b (repeated Knight n (repeated Pawn p [])) refl)
    ∙ ap (λ l. repeated Queen q (repeated Rook r (repeated Bishop b (l))))
    (before Knight Knight n (repeated Pawn p []) refl (before Knight Pawn p [] refl (refl)))

put-pawn : (q r b n p : ℕ) → put_kind Pawn (listing q r b n p) ≡ listing q r b n (suc p)
put-pawn q r b n p =
    past Pawn Queen q (repeated Rook r (repeated Bishop b (repeated Knight n (repeated Pawn p [])))) refl
    ∙ ap (λ l. repeated Queen q (l)) (past Pawn Rook r (repeated Bishop b (repeated Knight n (repeated Pawn p [])))
    refl) ∙ ap (λ l. repeated Queen q (repeated Rook r (l)))
    (past Pawn Bishop b (repeated Knight n (repeated Pawn p [])) refl)
    ∙ ap (λ l. repeated Queen q (repeated Rook r (repeated Bishop b (l))))
    (past Pawn Knight n (repeated Pawn p []) refl)
    ∙ ap (λ l. repeated Queen q (repeated Rook r (repeated Bishop b (repeated Knight n (l)))))
    (before Pawn Pawn p [] refl (refl))

abbrev pub counted_kinds : Side → List Man → List Kind
counted_kinds side xs = listing (many side Queen xs) (many side Rook xs) (many side Bishop xs) (many side Knight xs) (many side Pawn xs)

one_more : (side s : Side) (k : Kind) (a : ℕ) (xs : List Man) → kinds_of side xs ≡ counted_kinds side xs
    → kinds_of side (record { side = s; kind = k; at = a } ∷ xs) ≡ counted_kinds side (record { side = s; kind = k; at = a } ∷ xs)
one_more White White King a xs h = h
one_more White White Queen a xs h = ap (λ l. put_kind Queen l) h ∙ put-queen _ _ _ _ _
one_more White White Rook a xs h = ap (λ l. put_kind Rook l) h ∙ put-rook _ _ _ _ _
one_more White White Bishop a xs h = ap (λ l. put_kind Bishop l) h ∙ put-bishop _ _ _ _ _
one_more White White Knight a xs h = ap (λ l. put_kind Knight l) h ∙ put-knight _ _ _ _ _
one_more White White Pawn a xs h = ap (λ l. put_kind Pawn l) h ∙ put-pawn _ _ _ _ _
one_more White Black King a xs h = h
one_more White Black Queen a xs h = h
one_more White Black Rook a xs h = h
one_more White Black Bishop a xs h = h
one_more White Black Knight a xs h = h
one_more White Black Pawn a xs h = h
one_more Black White King a xs h = h
one_more Black White Queen a xs h = h
one_more Black White Rook a xs h = h
one_more Black White Bishop a xs h = h
one_more Black White Knight a xs h = h
one_more Black White Pawn a xs h = h
one_more Black Black King a xs h = h
one_more Black Black Queen a xs h = ap (λ l. put_kind Queen l) h ∙ put-queen _ _ _ _ _
one_more Black Black Rook a xs h = ap (λ l. put_kind Rook l) h ∙ put-rook _ _ _ _ _
one_more Black Black Bishop a xs h = ap (λ l. put_kind Bishop l) h ∙ put-bishop _ _ _ _ _
one_more Black Black Knight a xs h = ap (λ l. put_kind Knight l) h ∙ put-knight _ _ _ _ _
one_more Black Black Pawn a xs h = ap (λ l. put_kind Pawn l) h ∙ put-pawn _ _ _ _ _

pub kinds_of-counted : (side : Side) (xs : List Man) → kinds_of side xs ≡ counted_kinds side xs
kinds_of-counted side [] = refl
kinds_of-counted side (x ∷ xs) = one_more side x.side x.kind x.at xs (kinds_of-counted side xs)

pub kinds_of-IsPermutation : (side : Side) (xs ys : List Man) → IsPermutation xs ys → kinds_of side ys ≡ kinds_of side xs
kinds_of-IsPermutation side xs ys p =
    kinds_of-counted side ys
    ∙ rw (
      many-IsPermutation side Queen xs ys p,
      many-IsPermutation side Rook xs ys p,
      many-IsPermutation side
          Bishop xs ys p,
      many-IsPermutation side Knight xs ys p,
      many-IsPermutation side Pawn xs ys p,
    )
    (sym (kinds_of-counted side xs))

pub lists-IsPermutation : (xs ys : List Man) → IsPermutation xs ys → lists ys ≡ lists xs
lists-IsPermutation xs ys p = rw (kinds_of-IsPermutation White xs ys p, kinds_of-IsPermutation Black xs ys p) refl

-- the number of men beside the kings
abbrev pub many_of : Side → List Man → ℕ
many_of side xs = many side Queen xs + many side Rook xs + many side Bishop xs + many side Knight xs + many side Pawn xs

one_counted : (s : Side) (k : Kind) (a : ℕ) (xs : List Man) → many_of White xs + many_of Black xs ≡ length (filter is_other_than_king xs)
    → many_of White (record { side = s; kind = k; at = a } ∷ xs) + many_of Black
    (record { side = s; kind = k; at = a } ∷ xs)
    ≡ length (filter is_other_than_king (record { side = s; kind = k; at = a } ∷ xs))
one_counted White King a xs h = h
one_counted White Queen a xs h = omega (arith, h)
one_counted White Rook a xs h = omega (arith, h)
one_counted White Bishop a xs h = omega (arith, h)
one_counted White Knight a xs h = omega (arith, h)
one_counted White Pawn a xs h = omega (arith, h)
one_counted Black King a xs h = h
one_counted Black Queen a xs h = omega (arith, h)
one_counted Black Rook a xs h = omega (arith, h)
one_counted Black Bishop a xs h = omega (arith, h)
one_counted Black Knight a xs h = omega (arith, h)
one_counted Black Pawn a xs h = omega (arith, h)

pub many_others : (xs : List Man) → many_of White xs + many_of Black xs ≡ length (filter is_other_than_king xs)
many_others [] = refl
many_others (x ∷ xs) = one_counted x.side x.kind x.at xs (many_others xs)

-- among at most two men, a pawn of each side
pub two_pawns : (xs : List Man) → length (filter is_other_than_king xs) ≤ 2 → 1 ≤ many White Pawn xs → 1 ≤ many Black Pawn xs
    → lists xs ≡ of (Pawn ∷ []) (Pawn ∷ [])
two_pawns xs few white black =
    let all = many_others xs in
    both (kinds_of White xs) (kinds_of Black xs)
    (kinds_of-counted White xs ∙ one_pawn _ _ _ _ _ (omega (arith, all)) (omega (arith, all)) (omega (arith, all)) (omega (arith, all)) (omega (arith, all)))
    (kinds_of-counted Black xs ∙ one_pawn _ _ _ _ _ (omega (arith, all)) (omega (arith, all)) (omega (arith, all)) (omega (arith, all)) (omega (arith, all)))
  where
    one_pawn : (q r b n p : ℕ) → q ≡ 0 → r ≡ 0 → b ≡ 0 → n ≡ 0 → p ≡ 1 → listing q r b n p ≡ Pawn ∷ []
    one_pawn q r b n p e f g h i = rw (e, f, g, h, i) refl

    both : (ws bs : List Kind) → ws ≡ Pawn ∷ [] → bs ≡ Pawn ∷ [] → of ws bs ≡ of (Pawn ∷ []) (Pawn ∷ [])
    both ws bs e f = rw (e, f) refl
