-- Castling leads to a wide position.
use Rattle.std.proofs.Common.{inl, inr, ◌≡◌, ℕ, ◌≤◌, ◌<◌, ◌==◌, eqb, nat_lt, Bool, true, false, not, cond, ◌&&◌, ◌||◌, List, [], ◌∷◌, map, refl}
use Rattle.std.proofs.Common.{sym, ap, ◌∙◌, arith}
use Rattle.std.specs.List.{All, list_any, count_by}
use Rattle.std.specs.List.Sorted.{IsPermutation}
use Rattle.std.proofs.lemmas.Bool.{false≢true, and_parts, and_from, eqb-true, eq-eqb, not-true, le-ltb}
use Rattle.std.proofs.lemmas.List.Sorted.{sum_by-IsPermutation}
use borrow.Author.Tests.{ltb-false}
use Rattle.study_board.specs.declared.men.Man.{Man}
use Rattle.study_board.specs.declared.men.Side.{Side}
use Rattle.study_board.specs.declared.men.Side.TheVariants.{White, Black}
use Rattle.study_board.specs.declared.men.Kind.{Kind}
use Rattle.study_board.specs.declared.men.Kind.TheVariants.{King, Rook, Pawn}
use Rattle.study_board.specs.Geometry.{rank_of}
use Rattle.study_board.specs.Men.{is_man, moved_if}
use Rattle.study_board.specs.Position.{in_order, is_occupied, has_man, has_square_twice, has_one_king, has_end_pawn, is_end_pawn, in_check}
use Rattle.study_board.specs.Sound.{IsSound}
use Rattle.study_board.proofs.Lists.{count_by-cons}
use Rattle.study_board.proofs.MenInOrder.{IsPermutation-in_order, IsSortedByAt-in_order}
use Rattle.study_board.proofs.Valid.{IsAscending-from_sorted}
use Rattle.study_board.proofs.Faults.{list_any_same, has_man_same, has_square_twice_same, has_end_pawn_same}
use Rattle.study_moves.proofs.MenOfList.{IsAmong, list_any-from, list_any-none, none_among, some_among}
use Rattle.study_moves.proofs.AfterMove.{other_twice}
use Rattle.study_moves.specs.declared.moves.Move.{Move}
use Rattle.study_wide.specs.declared.castling.Wing.{Wing}
use Rattle.study_wide.specs.declared.castling.Wing.TheVariants.{Short, Long}
use Rattle.study_wide.specs.Rights.{touches, rights_after, fits, rights_fit}
use Rattle.study_wide.specs.Wide.{Wide, IsWide, of_side}
use Rattle.study_wide.specs.Castling.{home, corner, king_target, rook_target, men_after_castling, is_clear, can_castle, is_castling_move}
use Rattle.study_wide.specs.Rules.{castles, board_after_castling}
use Rattle.study_wide.proofs.AfterPlain.{fits_from, fits_parts}

-- ---- lists under a map

any_map : (f : Man → Man) (q : Man → Bool) (xs : List Man) → list_any q (map f xs) ≡ list_any (λ m. q (f m)) xs
any_map f q [] = refl
any_map f q (x ∷ xs) = rw (any_map f q xs) refl

count_map : (f : Man → Man) (q : Man → Bool) (xs : List Man) → count_by q (map f xs) ≡ count_by (λ m. q (f m)) xs
count_map f q [] = refl
count_map f q (x ∷ xs) = count_by-cons q (f x) (map f xs) ∙ rw (count_map f q xs) (sym (count_by-cons (λ m. q (f m)) x xs))

count_same_test : (q r : Man → Bool) → ((m : Man) → q m ≡ r m) → (xs : List Man) → count_by q xs ≡ count_by r xs
count_same_test q r h [] = refl
count_same_test q r h (x ∷ xs) = count_by-cons q x xs ∙ rw (h x, count_same_test q r h xs) (sym (count_by-cons r x xs))

-- a test that is weaker among the men of a list counts no more
count_weaker : (q r : Man → Bool) (xs : List Man) → ((m : Man) → IsAmong m xs → q m ≡ true → r m ≡ true) → count_by q xs ≤ count_by r xs
count_weaker q r [] h = omega arith
count_weaker q r (x ∷ xs) h =
    let ih = count_weaker q r xs (λ m i. h m (inr i)) in
    let a = count_by-cons q x xs in
    let b = count_by-cons r x xs in
    let go : (u v : Bool) → q x ≡ u → r x ≡ v → cond u 1 0 ≤ cond v 1 0 = λ u v. elim u as (λ y. q x ≡ y → r x ≡ v → cond y 1 0 ≤ cond v 1 0) [
      | true ↦ λ e f. let t : v ≡ true = sym f ∙ h x (inl refl) e in rw t (omega arith)
      | false ↦ λ e f. omega arith
    ] in
    let here = go (q x) (r x) refl refl in
    omega arith

-- ---- two squares exchanged for two others

module _ (a b c d : ℕ) (apart : eqb d a ≡ false) where
  abbrev pub moved : Man → Man
  moved m = moved_if a c (moved_if b d m)

  abbrev pub moved_at : ℕ → ℕ
  moved_at x = cond (eqb x b) d (cond (eqb x a) c x)

  at_moved : (m : Man) → (moved m).at ≡ moved_at m.at
  at_moved m =
      let go : (u : Bool) → eqb m.at b ≡ u → (moved_if a c (cond u (record {
        side = m.side;
        kind = m.kind;
        at =
            d;
      }) m)).at ≡ cond u d (cond (eqb m.at a) c m.at) =
      λ u. elim u as (λ v. eqb m.at b ≡ v → (moved_if a c (cond v (record {
        side = m.side;
        kind = m.kind;
        at =
            d;
      }) m)).at ≡ cond v d (cond (eqb m.at a) c m.at)) [
        | true ↦ λ _. rw apart refl
        | false ↦ λ _. elim (eqb m.at a) as (λ v. (cond v (record {
          side = m.side;
          kind = m.kind;
          at =
              c;
        }) m).at ≡ cond v c m.at) [ true ↦ refl | false ↦ refl ]
      ] in
      go (eqb m.at b) refl

  kept : (x y : ℕ) (m : Man) → ((moved_if x y m).side ≡ m.side) × ((moved_if x y m).kind ≡ m.kind)
  kept x y m =
      elim (eqb m.at x) as (λ v. ((cond v (record { side = m.side; kind = m.kind; at = y }) m).side ≡ m.side)
      × ((cond v (record { side = m.side; kind = m.kind; at = y }) m).kind ≡ m.kind)) [ true ↦ (refl, refl) | false ↦ (refl, refl) ]

  side_moved : (m : Man) → (moved m).side ≡ m.side
  side_moved m = (kept a c (moved_if b d m)).0 ∙ (kept b d m).0

  kind_moved : (m : Man) → (moved m).kind ≡ m.kind
  kind_moved m = (kept a c (moved_if b d m)).1 ∙ (kept b d m).1

  is_man_moved : (s : Side) (k : Kind) (m : Man) → is_man s k (moved m) ≡ is_man s k m
  is_man_moved s k m = rw (side_moved m, kind_moved m) refl

  module _ (xs : List Man) (once : has_square_twice xs ≡ false) (free_c : is_occupied xs c ≡ false) (free_d : is_occupied xs d ≡ false) (ends : c ≡ d
      → ⊥) where
    not_there : (y : ℕ) → is_occupied xs y ≡ false → (m : Man) → IsAmong m xs → m.at ≡ y → ⊥
    unfolding is_occupied
    not_there y e m i t = false≢true (sym (none_among (λ z. z.at == y) xs m e i) ∙ eq-eqb m.at y t)

    one_to_one : (m y : Man) → IsAmong m xs → IsAmong y xs → moved_at m.at ≡ moved_at y.at → m.at ≡ y.at
    one_to_one m y i j = cases (eqb m.at b) (eqb m.at a) (eqb y.at b) (eqb y.at a) refl refl refl refl
      where
        cases : (p q r s : Bool) → eqb m.at b ≡ p → eqb m.at a ≡ q → eqb y.at b ≡ r → eqb y.at a ≡ s
            → cond p d (cond q c m.at) ≡ cond r d (cond s c y.at) → m.at ≡ y.at
        cases true q true s e f g h t = eqb-true _ _ e ∙ sym (eqb-true _ _ g)
        cases true q false true e f g h t = absurd (ends (sym t))
        cases true q false false e f g h t = absurd (not_there d free_d y j (sym t))
        cases false true true s e f g h t = absurd (ends t)
        cases false true false true e f g h t = eqb-true _ _ f ∙ sym (eqb-true _ _ h)
        cases false true false false e f g h t = absurd (not_there c free_c y j (sym t))
        cases false false true s e f g h t = absurd (not_there d free_d m i t)
        cases false false false true e f g h t = absurd (not_there c free_c m i t)
        cases false false false false e f g h t = t

    pub moved_once : has_square_twice (map moved xs) ≡ false
    unfolding has_square_twice
    moved_once = any_map moved (λ x. nat_lt 1 (count_by (λ y. y.at == x.at) (map moved xs))) xs ∙ list_any-none _ xs (λ x i.
        let before = none_among (λ z. nat_lt 1 (count_by (λ y. y.at == z.at) xs)) xs x once i in
        let whole = count_map moved (λ y. y.at == (moved x).at) xs in
        let less = count_weaker (λ m. (moved m).at == (moved x).at) (λ m. m.at == x.at) xs (λ m j e.
        eq-eqb m.at x.at (one_to_one m x j i (sym (at_moved m) ∙ (eqb-true _ _ e ∙ at_moved x)))) in
        le-ltb 1 (count_by (λ y. y.at == (moved x).at) (map moved xs)) (omega (arith, whole, less, ltb-false 1 (count_by (λ y. y.at == x.at) xs) before)))

  module _ (xs : List Man) where
    same : IsPermutation (map moved xs) (in_order (map moved xs))
    same = IsPermutation-in_order (map moved xs)

    pub count_moved : (q : Man → Bool) → ((m : Man) → q (moved m) ≡ q m) → count_by q (in_order (map moved xs)) ≡ count_by q xs
    count_moved q h = sum_by-IsPermutation _ (map moved xs) (in_order (map moved xs)) same ∙ (count_map moved q xs ∙ count_same_test (λ m. q (moved m)) q h xs)

    pub one_king_moved : (s : Side) → has_one_king xs s ≡ true → has_one_king (in_order (map moved xs)) s ≡ true
    unfolding has_one_king
    one_king_moved s e = rw (count_moved (is_man s King) (is_man_moved s King)) e

    pub no_pawn_moved : rank_of c ≡ rank_of a → rank_of d ≡ rank_of b → has_end_pawn xs ≡ false → has_end_pawn (in_order (map moved xs)) ≡ false
    unfolding has_end_pawn is_end_pawn
    no_pawn_moved ra rb e =
        let rank : (m : Man) → rank_of (moved m).at ≡ rank_of m.at = λ m.
        let go : (u v : Bool) → eqb m.at b ≡ u → eqb m.at a ≡ v → rank_of (cond u d (cond v c m.at)) ≡ rank_of m.at =
        λ u v. elim u as (λ y. eqb m.at b ≡ y → eqb m.at a ≡ v → rank_of (cond y d (cond v c m.at)) ≡ rank_of m.at) [
          | true ↦ λ t _. rb ∙ ap rank_of (sym (eqb-true _ _ t))
          | false ↦ λ _. elim v as (λ y. eqb m.at a ≡ y → rank_of (cond y c m.at) ≡ rank_of m.at) [
            | true ↦ λ t. ra
                ∙ ap rank_of (sym (eqb-true _ _ t))
            | false ↦ λ _. refl
          ]
        ] in
        ap rank_of (at_moved m) ∙ go (eqb m.at b) (eqb m.at a) refl refl in
        sym (has_end_pawn_same (map moved xs) (in_order (map moved xs)) same)
        ∙ (any_map moved is_end_pawn xs ∙ (list_any_same (λ m. is_end_pawn (moved m)) is_end_pawn
        (λ m. rw (is_man_moved White Pawn m, is_man_moved Black Pawn m, rank m) refl) xs ∙ e))

    -- a man on a square that is neither of the two stays
    pub has_moved : (s : Side) (k : Kind) (x : ℕ) → eqb x a ≡ false → eqb x b ≡ false → has_man xs s k x ≡ true
        → has_man (in_order (map moved xs)) s k x ≡ true
    unfolding has_man
    has_moved s k x na nb e =
        let found = some_among (λ n. is_man s k n && (n.at == x)) xs e in
        let p = and_parts (is_man s k found.0) (found.0.at == x) found.2 in
        let there : found.0.at ≡ x = eqb-true _ _ p.1 in
        let at : (moved found.0).at ≡ x = at_moved found.0 ∙ (rw there (rw (nb, na) refl)) in
        sym (has_man_same (map moved xs) (in_order (map moved xs)) same s k x)
        ∙ (any_map moved (λ n. is_man s k n && (n.at == x)) xs
        ∙ list_any-from (λ n. is_man s k (moved n) && ((moved n).at == x)) xs found.0 found.1 (and_from _ _ (is_man_moved s k found.0 ∙ p.0) (eq-eqb _ _ at)))

-- ---- castling

-- the squares of castling
record IsCastling (a b c d : ℕ) : Type 0 where
  apart : eqb d a ≡ false
  ends : c ≡ d → ⊥
  king_rank : rank_of c ≡ rank_of a
  rook_rank : rank_of d ≡ rank_of b

squares : (s : Side) (w : Wing) → IsCastling (home s) (corner s w) (king_target s w) (rook_target s w)
squares White Short = record { apart = refl; ends = λ e. absurd (omega arith); king_rank = refl; rook_rank = refl }
squares White Long = record { apart = refl; ends = λ e. absurd (omega arith); king_rank = refl; rook_rank = refl }
squares Black Short = record { apart = refl; ends = λ e. absurd (omega arith); king_rank = refl; rook_rank = refl }
squares Black Long = record { apart = refl; ends = λ e. absurd (omega arith); king_rank = refl; rook_rank = refl }

of_side_moved : (s : Side) (a b c d : ℕ) (e : eqb d a ≡ false) (m : Man) → of_side s (moved a b c d e m) ≡ of_side s m
of_side_moved s a b c d e m = rw (side_moved a b c d e m) refl

-- what castling asks
pub record MayCastle (g : Wide) (w : Wing) : Type 0 where
  pub king_free : is_occupied g.board.men (king_target g.board.to_move w) ≡ false
  pub rook_free : is_occupied g.board.men (rook_target g.board.to_move w) ≡ false
  pub safe : in_check (men_after_castling g.board.men g.board.to_move w) g.board.to_move ≡ false

pub MayCastle-from : (g : Wide) (w : Wing) → can_castle g w ≡ true → MayCastle g w
unfolding can_castle is_clear
MayCastle-from g w e =
    let a = and_parts _ _ e in
    let b = and_parts _ _ a.1 in
    let c = and_parts _ _ b.1 in
    let f = and_parts _ _ b.0 in
    let k = and_parts _ _ f.0 in
    record { king_free = not-true _ k.0; rook_free = not-true _ k.1; safe = not-true _ c.1 }

fits_none : (held t y king rook : Bool) → t ≡ true → (not (held && not t && y) || (king && rook)) ≡ true
fits_none true true y king rook e = refl
fits_none false t y king rook e = refl
fits_none true false y king rook e = absurd (false≢true e)

touched : (m : Move) (x : ℕ) → (m.origin == x) ≡ true → touches m x ≡ true
touched m x e = rw e refl

away_white : (w : Wing) → (eqb 60 (corner White w) ≡ false) × (eqb 63 (corner White w) ≡ false) × (eqb 56 (corner White w) ≡ false)
away_white Short = (refl, refl, refl)
away_white Long = (refl, refl, refl)

away_black : (w : Wing) → (eqb 4 (corner Black w) ≡ false) × (eqb 7 (corner Black w) ≡ false) × (eqb 0 (corner Black w) ≡ false)
away_black Short = (refl, refl, refl)
away_black Long = (refl, refl, refl)

module _ (g : Wide) (w : Wing) (v : IsWide g) (may : MayCastle g w) where
  abbrev s : Side
  s = g.board.to_move

  abbrev xs : List Man
  xs = g.board.men

  abbrev q : IsCastling (home g.board.to_move) (corner g.board.to_move w) (king_target g.board.to_move w) (rook_target g.board.to_move w)
  q = squares g.board.to_move w

  abbrev a : ℕ
  a = home g.board.to_move

  abbrev b : ℕ
  b = corner g.board.to_move w

  abbrev c : ℕ
  c = king_target g.board.to_move w

  abbrev d : ℕ
  d = rook_target g.board.to_move w

  abbrev f : Man → Man
  f = moved a b c d q.apart

  pub sound_castled : All (λ m. m.at < 64) (men_after_castling g.board.men g.board.to_move w) → IsSound (board_after_castling g.board w)
  unfolding men_after_castling
  sound_castled on =
      let once : has_square_twice (in_order (map f xs)) ≡ false =
      sym (has_square_twice_same (map f xs) (in_order (map f xs)) (IsPermutation-in_order (map f xs)))
      ∙ moved_once a b c d q.apart xs v.sound.once may.king_free may.rook_free q.ends in
      let kings = and_parts (has_one_king xs White) (has_one_king xs Black) v.sound.kings in
      record {
        ordered = IsAscending-from_sorted (in_order (map f xs)) (IsSortedByAt-in_order (map f xs)) once;
        on_board = on;
        once = once;
        kings = and_from _ _ (one_king_moved a b c d q.apart xs White kings.0) (one_king_moved a b c d q.apart xs Black kings.1);
        pawns = no_pawn_moved a b c d q.apart xs q.king_rank q.rook_rank v.sound.pawns;
        safe = rw (other_twice s) may.safe;
        possible = refl;
      }

  pub few_castled : (t : Side) → count_by (of_side t) (men_after_castling g.board.men g.board.to_move w) ≤ 16
  unfolding men_after_castling
  few_castled t =
      let same = count_moved a b c d q.apart xs (of_side t) (of_side_moved t a b c d q.apart) in
      let few = v.few t in
      omega arith

  fits_castled : (held x y : Bool) (t : Side) (king rook : ℕ) → eqb king a ≡ false → eqb king b ≡ false → eqb rook a ≡ false → eqb rook b ≡ false
      → fits held xs t king rook ≡ true → fits (held && x && y) (men_after_castling g.board.men g.board.to_move w) t king rook ≡ true
  unfolding men_after_castling
  fits_castled held x y t king rook ka kb ra rb e =
      fits_from (held && x && y) (has_man (in_order (map f xs)) t King king) (has_man (in_order (map f xs)) t Rook rook) (λ z.
      let u = and_parts (held && x) y z in
      let r = and_parts held x u.0 in
      let both = fits_parts held (has_man xs t King king) (has_man xs t Rook rook) r.0 e in
      (has_moved a b c d q.apart xs t King king ka kb both.0, has_moved a b c d q.apart xs t Rook rook ra rb both.1))

  pub fit_castled : (m : Move) → is_castling_move g.board.to_move w m ≡ true
      → rights_fit (men_after_castling g.board.men g.board.to_move w) (rights_after g.rights m) ≡ true
  unfolding rights_fit
  fit_castled m e =
      let r = g.rights in
      let men = men_after_castling g.board.men g.board.to_move w in
      let p3 = and_parts (fits r.white_short xs White 4 7 && fits r.white_long xs White 4 0 && fits r.black_short xs Black 60 63)
      (fits r.black_long xs Black 60 56) v.fit in
      let p2 = and_parts (fits r.white_short xs White 4 7 && fits r.white_long xs White 4 0) (fits r.black_short xs Black 60 63) p3.0 in
      let p1 = and_parts (fits r.white_short xs White 4 7) (fits r.white_long xs White 4 0) p2.0 in
      let from = and_parts (m.origin == home g.board.to_move && m.target == king_target g.board.to_move w) _ e in
      let start = (and_parts (m.origin == home g.board.to_move) (m.target == king_target g.board.to_move w) from.0).0 in
      let own : (t : Side) (held y : Bool) (rook : ℕ) → g.board.to_move ≡ t → fits (held && not (touches m (home t)) && y) men t (home t) rook ≡ true =
      λ t held y rook z. fits_none held (touches m (home t)) y (has_man men t King (home t)) (has_man men t Rook rook)
      (touched m (home t) (ap (λ k. m.origin == home k) (sym z) ∙ start)) in
      let cases : (t : Side) → g.board.to_move ≡ t → rights_fit men (rights_after r m) ≡ true =
      λ t. elim t as (λ u. g.board.to_move ≡ u → rights_fit men (rights_after r m) ≡ true) [
        | White ↦ λ z.
            let away = away_white w in
            and_from _ _ (and_from _ _ (and_from _ _ (own White r.white_short (not (touches m 7)) 7 z) (own White r.white_long (not (touches m 0)) 0 z))
            (fits_castled r.black_short (not (touches m 60)) (not (touches m 63)) Black 60 63 (rw z refl) (rw z away.0) (rw z refl) (rw z away.1) p2.1))
            (fits_castled r.black_long (not (touches m 60)) (not (touches m 56)) Black 60 56 (rw z refl) (rw z away.0) (rw z refl) (rw z away.2) p3.1)
        | Black ↦ λ z.
            let away = away_black w in
            and_from _ _ (and_from _ _ (and_from _ _
            (fits_castled r.white_short (not (touches m 4)) (not (touches m 7)) White 4 7 (rw z refl) (rw z away.0) (rw z refl) (rw z away.1) p1.0)
            (fits_castled r.white_long (not (touches m 4)) (not (touches m 0)) White 4 0 (rw z refl) (rw z away.0) (rw z refl) (rw z away.2) p1.1))
            (own Black r.black_short (not (touches m 63)) 63 z)) (own Black r.black_long (not (touches m 56)) 56 z)
      ] in
      cases g.board.to_move refl

  pub IsWide-castled : (m : Move) → castles g m w ≡ true → All (λ m. m.at < 64) (men_after_castling g.board.men g.board.to_move w)
      → IsWide (record { board = board_after_castling g.board w; rights = rights_after g.rights m })
  IsWide-castled m e on =
      let parts = and_parts (is_castling_move g.board.to_move w m) (can_castle g w) e in
      record { sound = sound_castled on; few = few_castled; fit = fit_castled m parts.0 }
