-- The laws of classes, on which tables rest.
use Rattle.std.proofs.Common.{◌≡◌, ℕ, ◌+◌, ◌*◌, ◌^◌, ◌<◌, Bool, true, false, cond, ◌||◌, List, []}
use Rattle.std.proofs.Common.{◌∷◌, length, Option, Some, None, refl, sym, ◌∙◌, ap, subst, arith}
use Rattle.std.proofs.lemmas.Bool.{false≢true}
use borrow.Author.Tests.{ltb-true}
use Rattle.study_board.specs.declared.men.Man.{Man}
use Rattle.study_board.specs.declared.men.Side.{Side}
use Rattle.study_board.specs.declared.men.Kind.TheVariants.{Pawn}
use Rattle.study_board.specs.Position.{Position, IsValid}
use Rattle.study_board.specs.Symmetry.{turned_men, image, admits}
use Rattle.study_board.specs.Images.{differ, back}
use Rattle.study_board.proofs.ImagesValid.{valid_image}
use Rattle.study_board.proofs.ImagesOfImages.{IsTurnable-from_valid, image_back, admits_image, admits_back}
use Rattle.study_moves.specs.Rules.{after}
use Rattle.study_moves.specs.Symmetry.{image_move}
use Rattle.study_moves.specs.Game.{IsLegal}
use Rattle.study_moves.specs.EnPassant.{has_legal_en_passant, without_passed, without_idle_passed_square}
use Rattle.study_moves.specs.Laws.{HasSameGame}
use Rattle.study_moves.specs.Alike.{AreAlike, Leads}
use Rattle.study_moves.proofs.RulesOfImages.{after-turned, image_legal}
use Rattle.study_moves.proofs.ImageMates.{IsMate-image, IsMate-from_image, IsStalemate-image}
use Rattle.study_moves.proofs.ImageMates.{IsStalemate-from_image, MatesWithin-image, MatesWithin-from_image}
use Rattle.study_moves.proofs.ImageMates.{IsMatedWithin-image, IsMatedWithin-from_image}
use Rattle.study_moves.proofs.BarePassing.{AgreesWithBare-from_valid}
use Rattle.study_moves.proofs.BareImages.{bare_image}
use Rattle.study_moves.proofs.AfterMove.{IsValid-after}
use Rattle.study_moves.proofs.AlikePositions.{admits_after, admits_bare}
use Rattle.study_material.specs.declared.class.Class.{Class}
use Rattle.study_material.specs.Lists.{Lists, of, lists_exchanged, lists, ordered_lists, is_exchanged, is_swapped}
use Rattle.study_material.specs.Class.{lists_of, IsOf}
use Rattle.study_material.proofs.ClassOfImage.{ordered_lists-image, swapped-image, compare_lists, black_first, white_first, equal}
use Rattle.study_values.specs.Slots.{IsFilling}
use Rattle.study_values.specs.Number.{number, king_places, kinds_have_pawn, has_both_pawns, numbers_of, cells_of}
use Rattle.study_values.specs.Number.{with_bit, has_bit, without_bit, IsLeastNumber, IsIndex}
use Rattle.study_index.specs.Decoded.{slots_of, passed_behind, IsDecoded}
use Rattle.study_index.specs.Laws.{AreAlikeIn}
use Rattle.study_index.proofs.ClassSlots.{AreSlots-class, is_cell-below, class_in_order}
use Rattle.study_index.proofs.ImageNumbers.{Keeps, has_pawn-image, IsLeastNumber-image, IsLeastNumber-passed, bare_men, bare_to_move}
use Rattle.study_index.proofs.ListOrder.{lists-filled, filled_in_order, slots_for}
use Rattle.study_index.proofs.LivePassing.{live_class, live_behind, live_along, live_bare, bare_twice, not_live_passed}
use Rattle.study_index.proofs.NumbersReadOff.{IsLeastNumber-unique, IsOfMen-decoded}
use Rattle.study_index.proofs.WithBit.{HasParts-from}

-- a class with a pawn on each side has twice as many cells as numbers
live_cells : (c : Class) → lists_of c ≡ of (Pawn ∷ []) (Pawn ∷ []) → cells_of c ≡ 33554432
live_cells c e = ap cells_for e
  where
    numbers_for : Lists → ℕ
    numbers_for l = 2 * king_places (kinds_have_pawn l.white || kinds_have_pawn l.black) * 64 ^ (1 + length l.white + length l.black)

    cells_for : Lists → ℕ
    cells_for l = cond (has_both_pawns l) (2 * numbers_for l) (numbers_for l)

pub below : (c : Class) (n : ℕ) (q : Position) → IsDecoded c n q → n < cells_of c
below c n q d =
    let o = IsOfMen-decoded (slots_of c) n q (AreSlots-class c) d in
    let small = ltb-true (without_bit n) (numbers_of c) (sym (is_cell-below c (without_bit n)) ∙ o.cell) in
    let parts = HasParts-from q n d.valid d.index in
    by_live (has_legal_en_passant q) refl parts.is parts.small small
  where
    same : lists q.men ≡ lists_of c
    same = lists-filled c q.men d.read_off.filling d.read_off.fills.each_once d.read_off.slots_are

    of_class : IsOf c q
    of_class = sym same ∙ unchanged (lists q.men) (ap (λ l. is_exchanged l) same ∙ class_in_order c)
      where
        unchanged : (l : Lists) → is_exchanged l ≡ false → l ≡ ordered_lists l
        unchanged l e = rw e refl

    doubled : (b : Bool) (k m : ℕ) → k < m → k < cond b (2 * m) m
    doubled true k m l = omega arith
    doubled false k m l = l

    by_live : (b : Bool) → has_legal_en_passant q ≡ b → n ≡ with_bit b (without_bit n) → without_bit n < 16777216 → without_bit n < numbers_of c
        → n < cells_of c
    by_live true e is l small = subst (λ m. n < m) (sym (live_cells c (live_class c q d.valid of_class e))) (let h : n < 33554432 = omega arith in h)
    by_live false e is l small = doubled (has_both_pawns (lists_of c)) n (numbers_of c) (subst (λ m. m < numbers_of c) (sym is) small)

-- the data read off a number
pub record IsRead (c : Class) (n : ℕ) (q : Position) : Type 0 where
  pub valid : IsValid q
  pub of_class : IsOf c q
  pub in_order : is_swapped q.men ≡ false
  pub is_bare : without_idle_passed_square q ≡ q
  pub index : IsIndex q n

pub entry : (c : Class) (n : ℕ) (q : Position) → IsDecoded c n q → IsRead c n q
entry c n q d =
    let same : lists q.men ≡ lists_of c = lists-filled c q.men d.read_off.filling d.read_off.fills.each_once d.read_off.slots_are in
    let in_order : is_exchanged (lists q.men) ≡ false = ap (λ l. is_exchanged l) same ∙ class_in_order c in
    record {
      valid = d.valid;
      of_class = sym same ∙ unchanged (lists q.men) in_order;
      in_order = in_order;
      is_bare = by_live (has_legal_en_passant q) refl;
      index = d.index;
    }
  where
    none : (b : Bool) (s : Side) (xs : List Man) → b ≡ false → passed_behind b s xs ≡ None
    none true s xs e = absurd (false≢true (sym e))
    none false s xs e = refl

    without : (men : List Man) (side : Side) (o : Option ℕ) → o ≡ None
        → (let r : Position = record { men = men; to_move = side; passed = o } in without_passed r ≡ r)
    without men side None e = refl
    without men side (Some x) e = cc

    by_live : (b : Bool) → has_legal_en_passant q ≡ b → cond b q (without_passed q) ≡ q
    by_live true e = refl
    by_live false e =
        without q.men q.to_move q.passed (d.read_off.passed ∙ none (has_bit n) q.to_move d.read_off.filling ((HasParts-from q n d.valid d.index).bit ∙ e))

    unchanged : (l : Lists) → is_exchanged l ≡ false → l ≡ ordered_lists l
    unchanged l e = rw e refl

-- the lists of a class are equal if those of its positions are
equal_lists : (c : Class) (p : Position) → IsOf c p → (lists p.men).white ≡ (lists p.men).black → (lists_of c).white ≡ (lists_of c).black
equal_lists c p o e = subst (λ (l : Lists). l.white ≡ l.black) (sym o) (by_test (is_exchanged (lists p.men)))
  where
    by_test : (b : Bool) → (let l : Lists = cond b (lists_exchanged (lists p.men)) (lists p.men) in l.white ≡ l.black)
    by_test true = sym e
    by_test false = e

-- if the colours are swapped for the class, its lists differ
keeps_swapped : (p : Position) → (lists p.men).white ≡ (lists p.men).black → is_swapped p.men ≡ false
keeps_swapped p e = by_lists (lists p.men) e
  where
    by_lists : (l : Lists) → l.white ≡ l.black → is_exchanged l ≡ false
    by_lists l e =
        elim (compare_lists l) [
          | black_first f g ↦ absurd (false≢true (sym g ∙ ap (λ m. is_exchanged m) (same l e) ∙ f))
          | white_first f g ↦ f
          | equal f g s ↦ f
        ]
      where
        same : (l : Lists) → l.white ≡ l.black → lists_exchanged l ≡ l
        same l e = rw e refl

pub same_class : (p q : Position) (c : Class) → AreAlike p q → IsOf c p → IsOf c q
same_class p q c h o =
    let s = h.images.by in
    let men : q.men ≡ turned_men s p.men = sym (bare_men q) ∙ ap (λ r. r.men) h.images.is ∙ ap (λ xs. turned_men s xs) (bare_men p) in
    o ∙ sym (ap (λ xs. ordered_lists (lists xs)) men ∙ ordered_lists-image s p.men)

same_least : (c : Class) (p q : Position) (n : ℕ) → AreAlikeIn c p q → IsOf c p → IsLeastNumber p n → IsLeastNumber q n
same_least c p q n h o i =
    let s = h.alike.images.by in
    let v = (AgreesWithBare-from_valid p h.alike.left).valid in
    let keeps : Keeps s (without_idle_passed_square p) = λ e. h.kept (equal_lists c p o (subst (λ xs. (lists xs).white ≡ (lists xs).black) (bare_men p) e)) in
    let j : IsLeastNumber (image s (without_idle_passed_square p)) n =
    IsLeastNumber-image s (without_idle_passed_square p) n v h.alike.images.admitted keeps
    (IsLeastNumber-passed p (without_idle_passed_square p) n (sym (bare_men p)) (sym (bare_to_move p)) i) in
    IsLeastNumber-passed (without_idle_passed_square q) q n (bare_men q) (bare_to_move q)
    (subst (λ (r : Position). IsLeastNumber r n) (sym h.alike.images.is) j)

pub same_index : (c : Class) (p q : Position) (n : ℕ) → AreAlikeIn c p q → IsOf c p → IsIndex p n → IsIndex q n
same_index c p q n h o i = record {
  number = i.number;
  least = same_least c p q i.number h o i.least;
  is = i.is ∙ ap (λ b. with_bit b i.number) (sym (live_along h.alike.images.by p q h.alike.images.is));
}

pub alike_back : (c : Class) (p q : Position) → AreAlikeIn c p q → AreAlikeIn c q p
alike_back c p q h =
    let s = h.alike.images.by in
    let v = (AgreesWithBare-from_valid p h.alike.left).valid in
    let a = h.alike.images.admitted in
    record {
      alike = record {
        left = h.alike.right;
        right = h.alike.left;
        images = record {
          by = back s;
          admitted = subst (λ (x : Position). admits x (back s) ≡ true) (sym h.alike.images.is)
              (admits_image s (back s) (without_idle_passed_square p) v a ∙ admits_back s (without_idle_passed_square p) a);
          is = sym (subst (λ (x : Position). image (back s) x ≡ without_idle_passed_square p) (sym h.alike.images.is)
              (image_back s (without_idle_passed_square p) (IsTurnable-from_valid s (without_idle_passed_square p) v a)));
        };
      };
      kept = h.kept;
    }

pub alike_move : (c : Class) (p q r : Position) → AreAlikeIn c p q → Leads p r → (t : Position) × Leads q t × AreAlikeIn c r t
alike_move c p q r h l =
    let s = h.alike.images.by in
    let m = l.0 in
    let b = AgreesWithBare-from_valid p h.alike.left in
    let d = AgreesWithBare-from_valid q h.alike.right in
    let t = IsTurnable-from_valid s (without_idle_passed_square p) b.valid h.alike.images.admitted in
    let lb : IsLegal (without_idle_passed_square p) m = b.legal m ∙ l.1 in
    let m' = image_move s m in
    let lq : IsLegal (without_idle_passed_square q) m' = subst (λ (x : Position). IsLegal x m') (sym h.alike.images.is)
    (image_legal s (without_idle_passed_square p) t m lb) in
    let l' : IsLegal q m' = sym (d.legal m') ∙ lq in
    let same : after q m' ≡ image s r =
    sym (d.after m' l') ∙ ap (λ x. after x m') h.alike.images.is ∙ after-turned s (without_idle_passed_square p) t m lb ∙ ap (image s) (b.after m l.1 ∙ l.2) in
    let v : IsValid r = subst IsValid l.2 (IsValid-after p m h.alike.left l.1) in
    let a : admits r s ≡ true = subst (λ (x : Position). admits x s ≡ true) l.2 (admits_after s p m l.1 (sym (admits_bare s p) ∙ h.alike.images.admitted)) in (
      after q m',
      (m', l', refl),
      record {
        alike = record {
          left = v;
          right = IsValid-after q m' h.alike.right l';
          images = record { by = s; admitted = admits_bare s r ∙ a; is = ap without_idle_passed_square same ∙ bare_image s r (IsTurnable-from_valid s r v a) };
        };
        kept = h.kept;
      },
    )

pub same_game : (p q : Position) → AreAlike p q → HasSameGame p q
same_game p q h =
    let s = h.images.by in
    let b = AgreesWithBare-from_valid p h.left in
    let d = AgreesWithBare-from_valid q h.right in
    let t = IsTurnable-from_valid s (without_idle_passed_square p) b.valid h.images.admitted in
    joined p (without_idle_passed_square p) q b.game (joined (without_idle_passed_square p) (without_idle_passed_square q) q
    (subst (λ (r : Position). HasSameGame (without_idle_passed_square p) r) (sym h.images.is) (record {
      mate = (IsMate-image s (without_idle_passed_square p) t, IsMate-from_image s (without_idle_passed_square p) t);
      stalemate = (IsStalemate-image s (without_idle_passed_square p) t, IsStalemate-from_image s (without_idle_passed_square p) t);
      mates = λ n. (MatesWithin-image n s (without_idle_passed_square p) t, MatesWithin-from_image s (without_idle_passed_square p) t n);
      mated = λ n. (IsMatedWithin-image n s (without_idle_passed_square p) t, IsMatedWithin-from_image s (without_idle_passed_square p) t n);
    })) (turned_round q (without_idle_passed_square q) d.game))
  where
    joined : (p q r : Position) → HasSameGame p q → HasSameGame q r → HasSameGame p r
    joined p q r h k = record {
      mate = (λ m. k.mate.0 (h.mate.0 m), λ m. h.mate.1 (k.mate.1 m));
      stalemate = (λ m. k.stalemate.0 (h.stalemate.0 m), λ m. h.stalemate.1 (k.stalemate.1 m));
      mates = λ n. (λ m. (k.mates n).0 ((h.mates n).0 m), λ m. (h.mates n).1 ((k.mates n).1 m));
      mated = λ n. (λ m. (k.mated n).0 ((h.mated n).0 m), λ m. (h.mated n).1 ((k.mated n).1 m));
    }

    turned_round : (p q : Position) → HasSameGame p q → HasSameGame q p
    turned_round p q h = record {
      mate = (h.mate.1, h.mate.0);
      stalemate = (h.stalemate.1, h.stalemate.0);
      mates = λ n. ((h.mates n).1, (h.mates n).0);
      mated = λ n. ((h.mated n).1, (h.mated n).0);
    }

HasParts-number : (p : Position) (n : ℕ) (v : IsValid p) (i : IsIndex p n) → without_bit n ≡ i.number
HasParts-number p n v i = IsLeastNumber-unique p (without_bit n) i.number (HasParts-from p n v i).least i.least

-- the passed square of a position that is its own bare form is the one that the bit encodes
decoded_passed : (q : Position) (xs : List Man) (b : Bool) → IsValid q → without_idle_passed_square q ≡ q → IsFilling false q.men xs
    → has_legal_en_passant q ≡ b → q.passed ≡ passed_behind b q.to_move xs
decoded_passed q xs true v own f e = live_behind q xs v f.each_once e
decoded_passed q xs false v own f e = not_live_passed q own e

-- if the lists of the class are equal, so are those of its positions
equal_back : (c : Class) (p : Position) → IsOf c p → (lists_of c).white ≡ (lists_of c).black → (lists p.men).white ≡ (lists p.men).black
equal_back c p o e = by_test (is_exchanged (lists p.men)) (subst (λ (l : Lists). l.white ≡ l.black) o e)
  where
    by_test : (b : Bool) → (let l : Lists = cond b (lists_exchanged (lists p.men)) (lists p.men) in l.white ≡ l.black)
        → (lists p.men).white ≡ (lists p.men).black
    by_test true e = sym e
    by_test false e = e

-- the image of the bare form by the symmetry of its index is read off the index
numbered_bare : (c : Class) (p b : Position) (n : ℕ) → IsValid p → IsValid b → without_idle_passed_square p ≡ b → without_idle_passed_square b ≡ b → IsOf c b
    → IsIndex b n → (q : Position) × IsDecoded c n q × AreAlikeIn c q p
numbered_bare c p b n v w plain own o i =
    let t = i.least.number.by in
    let a : admits b t ≡ true = i.least.number.admitted in
    let filling = i.least.number.filling in
    let q : Position = image t b in
    let turn = IsTurnable-from_valid t b w a in
    let u : IsValid q = valid_image t b w a in
    let keeps : Keeps t b = λ e. i.least.number.colours ∙ keeps_swapped b e in
    let of_class : IsOf c q = o ∙ sym (ordered_lists-image t b.men) in
    let in_order : is_exchanged (lists q.men) ≡ false =
    swapped-image t b.men keeps ∙ ap (λ s. differ s (is_swapped b.men)) i.least.number.colours
    ∙ differ_same (is_swapped b.men) in
    let same : lists q.men ≡ lists_of c = sym (of_class ∙ unchanged (lists q.men) in_order) in
    let own_image : without_idle_passed_square q ≡ q = bare_image t b turn ∙ ap (image t) own in
    let live : has_legal_en_passant q ≡ has_legal_en_passant b = live_along t b q (own_image ∙ sym (ap (image t) own)) in
    let index : IsIndex q n = record {
      number = i.number;
      least = IsLeastNumber-image t b i.number w a keeps i.least;
      is = i.is ∙ ap (λ l. with_bit l i.number) (sym live);
    } in
    let parts = HasParts-from q n u index in
    let same_number : without_bit n ≡ i.number = HasParts-number b n w i in (
      q,
      record {
        valid = u;
        read_off = record {
          filling = filling;
          fills = i.least.number.fills;
          slots_are = filled_in_order q filling u i.least.number.fills ∙ ap (λ l. slots_for l) same;
          is = subst (λ h. number h q.to_move filling ≡ Some (without_bit n)) (sym (has_pawn-image t b w a))
              (i.least.number.is ∙ ap (λ k. Some k) (sym same_number));
          passed = decoded_passed q filling (has_bit n) u own_image i.least.number.fills (sym parts.bit);
        };
        index = index;
      },
      record {
        alike = record {
          left = u;
          right = v;
          images = record {
            by = back t;
            admitted = subst (λ (x : Position). admits x (back t) ≡ true) (sym own_image) (admits_image t (back t) b w a ∙ admits_back t b a);
            is = plain ∙ sym (image_back t b turn) ∙ ap (image (back t)) (sym own_image);
          };
        };
        kept = λ e. i.least.number.colours ∙ keeps_swapped b (equal_back c b o e);
      },
    )
  where
    differ_same : (s : Bool) → differ s s ≡ false
    differ_same true = refl
    differ_same false = refl

    unchanged : (l : Lists) → is_exchanged l ≡ false → ordered_lists l ≡ l
    unchanged l e = rw e refl

-- each position has a number that is read as a position that is alike
pub numbered : (c : Class) (p : Position) (n : ℕ) → IsValid p → IsOf c p → IsIndex p n → (q : Position) × IsDecoded c n q × AreAlikeIn c q p
numbered c p n v o i =
    numbered_bare c p (without_idle_passed_square p) n v (AgreesWithBare-from_valid p v).valid refl (bare_twice p) (o
    ∙ ap (λ xs. ordered_lists (lists xs)) (sym (bare_men p)))
    (record {
      number = i.number;
      least = IsLeastNumber-passed p (without_idle_passed_square p) i.number (sym (bare_men p)) (sym (bare_to_move p)) i.least;
      is = i.is ∙ ap (λ l. with_bit l i.number) (sym (live_bare p));
    })
