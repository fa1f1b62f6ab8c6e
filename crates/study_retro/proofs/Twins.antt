-- Positions in which a capture in passing is legal, by the squares of their pawns.
use Rattle.std.proofs.Common.{◌≡◌, ℕ, ◌+◌, ◌-◌, ◌/◌, ◌%◌, ◌<◌, ◌≤◌, ◌==◌, Bool, true, false, not, ◌&&◌, ◌⊎◌, inl, inr, arith}
use Rattle.std.proofs.Common.{Option, Some, None, refl, sym, ◌∙◌, ap, subst}
use Rattle.std.specs.List.{list_any}
use Rattle.std.specs.List.Sorted.{IsPermutation}
use Rattle.std.proofs.lemmas.Bool.{false≢true, and_parts, or_cases, eqb-true, eq-eqb}
use Rattle.std.proofs.lemmas.List.Sorted.{list_any-IsPermutation}
use Rattle.study_board.specs.declared.men.Man.{Man}
use Rattle.study_board.specs.declared.men.Side.{Side}
use Rattle.study_board.specs.declared.men.Side.TheVariants.{White, Black}
use Rattle.study_board.specs.declared.men.Kind.TheVariants.{Pawn}
use Rattle.study_board.specs.Geometry.{file_of, rank_of, files_apart}
use Rattle.study_board.specs.Men.{same_side, is_man, is_pawn}
use Rattle.study_board.specs.Position.{Position, IsValid, could_be_passed, has_man, is_empty}
use Rattle.study_board.specs.EqualLaws.{sides_equal}
use Rattle.study_moves.specs.declared.moves.Move.{Move}
use Rattle.study_moves.specs.Rules.{is_en_passant, is_square, is_legal, reaches_target}
use Rattle.study_moves.specs.EnPassant.{is_capturable_en_passant, has_legal_en_passant, without_passed}
use Rattle.study_moves.proofs.MenOfList.{some_among, list_any-from, same_square, found_among}
use Rattle.study_moves.proofs.NoMoveBetween.{HasMover-from_is_legal}
use Rattle.study_moves.proofs.HowMenGo.{IsStep, IsDoubleStep, IsCapture, pawn_ways}
use Rattle.study_material.specs.declared.class.Class.{Class}
use Rattle.study_material.specs.declared.class.Class.TheVariants.{KPKP}
use Rattle.study_material.specs.Class.{lists_of, IsOf}
use Rattle.study_material.proofs.Classes.{lists_of-injective}
use Rattle.study_values.specs.Number.{with_bit, without_bit, has_both_pawns}
use Rattle.study_index.specs.Decoded.{slots_of, decoded_men}
use Rattle.study_index.specs.Computed.{position_numbered}
use Rattle.study_values.specs.Index.{index_of, least_number}
use Rattle.study_index.proofs.ClassLaws.{entry, numbered}
use Rattle.study_index.proofs.ComputedIndex.{IsIndex-index_of, decoded_of_numbered, numbered_of_decoded}
use Rattle.study_index.proofs.DecodedNumbers.{encoded_by}
use Rattle.study_index.proofs.LivePassing.{live_class, live_pawns}
use Rattle.study_index.proofs.WithBit.{HasParts-from}
use Rattle.study_retro.specs.Predecessors.{IsWithoutEnPassant}
use Rattle.study_retro.proofs.QuietSteps.{dead_of}

-- the pawn that captures in passing stands one rank behind the passed square, on a file beside it
record HasTaker (p : Position) (x : ℕ) : Type 0 where
  pub at : ℕ
  pub there : has_man p.men p.to_move Pawn at ≡ true
  pub takes : IsCapture p.to_move at x

taker : (p : Position) (x : ℕ) → IsValid p → is_capturable_en_passant p (Some x) ≡ true → HasTaker p x
unfolding has_man is_en_passant
taker p x v e =
    let r = some_among (λ man. is_en_passant p.passed man x && is_legal p (record { origin = man.at; target = x; promoted = None })) p.men e in
    let man = r.0 in
    let move : Move = record { origin = man.at; target = x; promoted = None } in
    let parts = and_parts (is_en_passant p.passed man x) (is_legal p move) r.2 in
    let h = HasMover-from_is_legal p move parts.1 in
    let found = found_among p.men man.at h.man h.here in
    let same : h.man ≡ man = same_square p.men h.man man v.ordered found.0 r.1 found.1 in
    let mine : same_side man.side p.to_move ≡ true = subst (λ (m : Man). same_side m.side p.to_move ≡ true) same h.moves.mine in
    let goes : reaches_target p.men p.passed man x ≡ true = subst (λ (m : Man). reaches_target p.men p.passed m x ≡ true) same h.moves.going in
    let aside = and_parts (is_pawn man && not (file_of man.at == file_of x)) (is_square p.passed x) parts.0 in
    let pawn = and_parts (is_pawn man) (not (file_of man.at == file_of x)) aside.0 in
    let side : man.side ≡ p.to_move = sides_equal man.side p.to_move mine in
    record {
      at = man.at;
      there = list_any-from (λ m. is_man p.to_move Pawn m && (m.at == man.at)) p.men man r.1
          (rw (mine, pawn.0, eq-eqb man.at man.at refl) refl);
      takes = subst (λ (s : Side). IsCapture s man.at x) side (by_ways man pawn.1 (pawn_ways p.men p.passed man x pawn.0 goes));
    }
  where
    straight : (a : ℕ) → not (file_of a == file_of x) ≡ true → file_of x ≡ file_of a → ⊥
    straight a n f = false≢true (sym (ap not (eq-eqb (file_of a) (file_of x) (sym f))) ∙ n)

    by_ways : (man : Man) → not (file_of man.at == file_of x) ≡ true
        → IsStep p.men man.side man.at x ⊎ (IsDoubleStep p.men man.side man.at x ⊎ IsCapture man.side man.at x) → IsCapture man.side man.at x
    by_ways man n (inl s) = absurd (straight man.at n s.file)
    by_ways man n (inr (inl d)) = absurd (straight man.at n d.file)
    by_ways man n (inr (inr c)) = c

-- so the pawns of both sides stand side by side
pub record AreAbreast (p : Position) : Type 0 where
  pub white : ℕ
  pub black : ℕ
  pub is_white : has_man p.men White Pawn white ≡ true
  pub is_black : has_man p.men Black Pawn black ≡ true
  pub rank : rank_of white ≡ rank_of black
  pub files : files_apart white black ≡ 1
  pub low : 3 ≤ rank_of white
  pub high : rank_of white ≤ 4

abreast_by : (p : Position) (side : Side) (x y : ℕ) → could_be_passed p.men side x ≡ true → has_man p.men side Pawn y ≡ true → IsCapture side y x
    → AreAbreast p
unfolding could_be_passed
abreast_by p White x y e there takes =
    let parts = and_parts ((rank_of x == 5) && is_empty p.men x && is_empty p.men (x + 8)) (has_man p.men Black Pawn (x - 8)) e in
    let rank : rank_of x ≡ 5 =
    eqb-true (rank_of x) 5
    (and_parts (rank_of x == 5) (is_empty p.men x)
    (and_parts (rank_of x == 5 && is_empty p.men x) (is_empty p.men (x + 8)) parts.0).0).0 in
    let ahead = takes.ahead in
    let files = takes.files in
    record {
      white = y;
      black = x - 8;
      is_white = there;
      is_black = parts.1;
      rank = omega (arith, rank, ahead);
      files = omega (arith, rank, ahead, files);
      low = omega (arith, rank, ahead);
      high = omega (arith, rank, ahead);
    }
abreast_by p Black x y e there takes =
    let parts = and_parts ((rank_of x == 2) && is_empty p.men x && is_empty p.men (x - 8)) (has_man p.men White Pawn (x + 8)) e in
    let rank : rank_of x ≡ 2 =
    eqb-true (rank_of x) 2
    (and_parts (rank_of x == 2) (is_empty p.men x)
    (and_parts (rank_of x == 2 && is_empty p.men x) (is_empty p.men (x - 8)) parts.0).0).0 in
    let ahead = takes.ahead in
    let files = takes.files in
    record {
      white = x + 8;
      black = y;
      is_white = parts.1;
      is_black = there;
      rank = omega (arith, rank, ahead);
      files = omega (arith, rank, ahead, files);
      low = omega (arith, rank, ahead);
      high = omega (arith, rank, ahead);
    }

pub AreAbreast-live : (p : Position) → IsValid p → has_legal_en_passant p ≡ true → AreAbreast p
AreAbreast-live p v live =
    let r = live_pawns p v live in
    let t = taker p r.0 v (sym (ap (λ (o : Option ℕ). is_capturable_en_passant p o) r.1) ∙ live) in
    abreast_by p p.to_move r.0 t.at r.2 t.there t.takes

-- the squares of the pawns that a number encodes
white_decoded : (n a : ℕ) → list_any (λ m. is_man White Pawn m && (m.at == a)) (decoded_men (slots_of KPKP) n) ≡ true → n / 64 % 64 ≡ a
white_decoded n a e = elim (or_cases (n / 64 % 64 == a) false e) [ inl t ↦ eqb-true (n / 64 % 64) a t | inr f ↦ absurd (false≢true f) ]

black_decoded : (n b : ℕ) → list_any (λ m. is_man Black Pawn m && (m.at == b)) (decoded_men (slots_of KPKP) n) ≡ true → n % 64 ≡ b
black_decoded n b e = elim (or_cases (n % 64 == b) false e) [ inl t ↦ eqb-true (n % 64) b t | inr f ↦ absurd (false≢true f) ]

-- a number with the bit that has a position has a live one, with the same men
record HasTwin (c : Class) (n : ℕ) (p : Position) : Type 0 where
  pub live : has_legal_en_passant p ≡ true
  pub class : c ≡ KPKP
  pub men : IsPermutation (decoded_men (slots_of c) n) p.men

HasTwin-from : (c : Class) (n : ℕ) (p : Position) → position_numbered c (n + 16777216) ≡ Some p → HasTwin c n p
HasTwin-from c n p at =
    let d = decoded_of_numbered c (n + 16777216) p at in
    let h = HasParts-from p (n + 16777216) d.valid d.index in
    let b = by_live (has_legal_en_passant p) h.is h.small in
    record {
      live = b.0;
      class = lists_of-injective c KPKP (live_class c p d.valid (entry c (n + 16777216) p d).of_class b.0);
      men = subst (λ (k : ℕ). IsPermutation (decoded_men (slots_of c) k) p.men) b.1 (encoded_by c (n + 16777216) p d).same_men;
    }
  where
    by_live : (b : Bool) → n + 16777216 ≡ with_bit b (without_bit (n + 16777216)) → without_bit (n + 16777216) < 16777216
        → (b ≡ true) × (without_bit (n + 16777216) ≡ n)
    by_live true e l = (refl, omega (arith, e))
    by_live false e l = absurd (omega (arith, e, l))

-- if only one side of a class has pawns, or the pawns that the number encodes are not side by side, there is none
pub single_without_en_passant : (c : Class) (n : ℕ) → has_both_pawns (lists_of c) ≡ false → IsWithoutEnPassant c n
single_without_en_passant c n single p at =
    let t = HasTwin-from c n p at in
    let d = decoded_of_numbered c (n + 16777216) p at in
    false≢true (sym (dead_of c p d.valid (entry c (n + 16777216) p d).of_class single) ∙ t.live)

pub apart_without_en_passant : (c : Class) (n : ℕ)
    → (rank_of (n / 64 % 64) ≡ rank_of (n % 64) → files_apart (n / 64 % 64) (n % 64) ≡ 1 → 3 ≤ rank_of (n / 64 % 64) → rank_of (n / 64 % 64) ≤ 4 → ⊥)
    → IsWithoutEnPassant c n
unfolding has_man
apart_without_en_passant c n none p at =
    let t = HasTwin-from c n p at in
    let d = decoded_of_numbered c (n + 16777216) p at in
    let a = AreAbreast-live p d.valid t.live in
    let men : IsPermutation (decoded_men (slots_of KPKP) n) p.men = subst (λ (k : Class). IsPermutation (decoded_men (slots_of k) n) p.men) t.class t.men in
    let w : n / 64 % 64 ≡ a.white = white_decoded n a.white
    (list_any-IsPermutation (λ m. is_man White Pawn m && (m.at == a.white)) (decoded_men (slots_of KPKP) n) p.men men ∙ a.is_white) in
    let b : n % 64 ≡ a.black = black_decoded n a.black
    (list_any-IsPermutation (λ m. is_man Black Pawn m && (m.at == a.black)) (decoded_men (slots_of KPKP) n) p.men men ∙ a.is_black) in
    none
    (ap (λ (x : ℕ). rank_of x) w ∙ a.rank ∙ sym (ap (λ (x : ℕ). rank_of x) b))
    (ap (λ (x : ℕ). files_apart x (n % 64)) w ∙ ap (λ (y : ℕ). files_apart a.white y) b ∙ a.files)
    (subst (λ (x : ℕ). 3 ≤ rank_of x) (sym w) a.low)
    (subst (λ (x : ℕ). rank_of x ≤ 4) (sym w) a.high)

-- a position of the class has no legal capture in passing if no position with its men has one
pub dead_without_en_passant : (c : Class) (p : Position) → IsValid p → IsOf c p → (n : ℕ) → index_of (without_passed p) ≡ n → IsWithoutEnPassant c n
    → has_legal_en_passant p ≡ false
unfolding index_of least_number
dead_without_en_passant c p v o n is none = by_live (has_legal_en_passant p) refl
  where
    by_live : (b : Bool) → has_legal_en_passant p ≡ b → b ≡ false
    by_live false e = refl
    by_live true e =
        let q = numbered c p (index_of p) v o (IsIndex-index_of p v) in
        let is_live : index_of p ≡ 16777216 + least_number p = ap (λ (b : Bool). with_bit b (least_number p)) e in
        let plain : least_number p ≡ n = is in
        let at : index_of p ≡ n + 16777216 = omega (arith, is_live, plain) in
        absurd (none q.0 (subst (λ (k : ℕ). position_numbered c k ≡ Some q.0) at (numbered_of_decoded c (index_of p) q.0 q.1)))
