-- A passed square on which no legal move captures changes nothing.
use Rattle.std.proofs.Common.{◌≡◌, ℕ, ◌+◌, ◌-◌, ◌<◌, ◌==◌, eqb, nat_lt, zero, suc, Bool, true}
use Rattle.std.proofs.Common.{false, not, cond, ◌&&◌, ◌||◌, ◌⊎◌, inl, inr, List, [], ◌∷◌}
use Rattle.std.proofs.Common.{Option, Some, None, refl, sym, ◌∙◌, ap, arith, subst}
use Rattle.std.specs.List.{list_any}
use Rattle.std.specs.Option.{option_map_or}
use Rattle.std.proofs.lemmas.Bool.{false≢true, and_parts}
use Rattle.std.proofs.lemmas.Bool.Decides.{nat_tests}
use Rattle.std.proofs.lemmas.List.Elements.{filter_agree}
use Rattle.study_board.specs.declared.men.Man.{Man}
use Rattle.study_board.specs.declared.men.Side.{Side}
use Rattle.study_board.specs.declared.men.Side.TheVariants.{White, Black}
use Rattle.study_board.specs.declared.men.Kind.{Kind}
use Rattle.study_board.specs.Geometry.{file_of, rank_of, files_apart}
use Rattle.study_board.specs.Men.{same_side, other_side, pawn_captures, is_rank_ahead, attacks_square, is_pawn}
use Rattle.study_board.specs.Position.{Position, IsValid, is_occupied, is_empty, in_check, man_at, insert_man, could_be_passed, passed_possible}
use Rattle.study_board.proofs.Lists.{not_true, list_any_weaker}
use Rattle.study_board.proofs.Valid.{IsFaultless-from_first, first_fault-from_IsFaultless}
use Rattle.study_board.proofs.Coordinates.{and_under, eqb_then}
use Rattle.study_moves.specs.declared.moves.Move.{Move}
use Rattle.study_moves.specs.Rules.{has_side, is_square, is_ahead, starting_rank, last_rank, half_way}
use Rattle.study_moves.specs.Rules.{pawn_steps, pawn_double_steps, pawn_takes, reaches_target}
use Rattle.study_moves.specs.Rules.{is_promotion_choice, reaches_last_rank, is_en_passant, survives, moved_man, men_after}
use Rattle.study_moves.specs.Rules.{is_pseudo_legal, is_legal_for, is_legal, after_by, after}
use Rattle.study_moves.specs.Game.{HasNoMove, IsMate, IsStalemate, MatesWithin, IsMatedWithin}
use Rattle.study_moves.specs.EnPassant.{is_capturable_en_passant, has_legal_en_passant, without_passed, without_idle_passed_square}
use Rattle.study_moves.specs.Laws.{HasSameGame, AgreesWithBare}
use Rattle.study_moves.proofs.OneValue.{HasSameValue-from_game}
use Rattle.study_moves.proofs.NoMoveBetween.{HasMover-from_is_legal}
use Rattle.study_moves.proofs.MenFound.{IsFound-from_man_at}
use Rattle.study_moves.proofs.RulesOfImages.{cond_under}

true_or_false : (b : Bool) → (b ≡ true) ⊎ (b ≡ false)
true_or_false true = inl refl
true_or_false false = inr refl

and_false : (b : Bool) → (b && false) ≡ false
and_false true = refl
and_false false = refl

or_none : (b : Bool) → (b || false) ≡ b
or_none true = refl
or_none false = refl

apart_files : (a x : ℕ) → eqb (files_apart a x) 1 ≡ true → not (eqb (file_of a) (file_of x)) ≡ true
apart_files a x e = not_same (file_of a) (file_of x) (eqb_then (files_apart a x) 1 e)
  where
    not_same : (f g : ℕ) → (f - g) + (g - f) ≡ 1 → not (eqb f g) ≡ true
    not_same f g e = grind (arith, nat_tests)

no_passed : (man : Man) (x : ℕ) → is_en_passant None man x ≡ false
unfolding is_en_passant
no_passed man x = and_false (is_pawn man && not (file_of man.at == file_of x))

-- a man that does not capture on the passed square goes as if no square were passed
module _ (q : Option ℕ) (man : Man) (x : ℕ) (no : is_en_passant q man x ≡ false) where
  not_square : is_pawn man ≡ true → pawn_captures man.side man.at x ≡ true → is_square q x ≡ false
  unfolding is_en_passant pawn_captures
  not_square e c =
      let aside = apart_files man.at x (and_parts (files_apart man.at x == 1) (is_rank_ahead man.side man.at x) c).0 in
      drop_two (is_pawn man) (not (file_of man.at == file_of x)) (is_square q x) e aside no
    where
      drop_two : (a b c : Bool) → a ≡ true → b ≡ true → (a && b && c) ≡ false → c ≡ false
      drop_two true true c e f g = g
      drop_two true false c e f g = absurd (false≢true f)
      drop_two false b c e f g = absurd (false≢true e)

  goes_bare : (men : List Man) → reaches_target men None man x ≡ reaches_target men q man x
  unfolding reaches_target pawn_takes
  goes_bare men =
      cond_under (is_pawn man) (pawn_steps men man.side man.at x || pawn_double_steps men man.side man.at x || pawn_takes men q man.side man.at x)
      (pawn_steps men man.side man.at x || pawn_double_steps men man.side man.at x || pawn_takes men None man.side
      man.at x) (attacks_square men man x) (attacks_square men man x)
      (λ e.
      let same : pawn_takes men None man.side man.at x ≡ pawn_takes men q man.side man.at x =
      and_under (pawn_captures man.side man.at x) (pawn_captures man.side man.at x)
      (has_side men (other_side man.side) x || is_square q x) (has_side men (other_side man.side) x || false) refl
      (λ c. rw (not_square e c)) in
      ap (λ b. pawn_steps men man.side man.at x || pawn_double_steps men man.side man.at x || b) same)
      (λ _. refl)

  stays_bare : (m : Man) → survives None man x m ≡ survives q man x m
  unfolding survives
  stays_bare m =
      let none : is_en_passant None man x ≡ false = no_passed man x in
      rw (no, none)

module _ (p : Position) (man : Man) (m : Move) (no : is_en_passant p.passed man m.target ≡ false) where
  pub men_after_bare : men_after (without_passed p) man m ≡ men_after p man m
  unfolding men_after
  men_after_bare = ap (insert_man (moved_man man m)) (filter_agree (survives None man m.target) (survives p.passed man m.target)
      (stays_bare p.passed man m.target no)
      p.men)

  pub is_legal_for_bare : is_legal_for (without_passed p) man m ≡ is_legal_for p man m
  unfolding is_legal_for is_pseudo_legal
  is_legal_for_bare = rw (men_after_bare, goes_bare p.passed man m.target no p.men)

-- a pawn that captures on the passed square does not go there without it
captured_empty : (men : List Man) (side : Side) (x : ℕ) → is_empty men x ≡ true → has_side men side x ≡ false
unfolding has_side is_occupied
captured_empty men side x e = list_any_weaker (λ m. same_side m.side side && (m.at == x)) (λ m. m.at == x)
    (λ m k. (and_parts (same_side m.side side) (m.at == x) k).1) men (not_true (list_any (λ m. m.at == x) men) e)

not_ahead : (side : Side) (n a x : ℕ) → (file_of a == file_of x) ≡ false → is_ahead side n a x ≡ false
not_ahead side n a x e = by_side side (flip (file_of x) (file_of a) e)
  where
    flip : (u v : ℕ) → eqb v u ≡ false → eqb u v ≡ false
    flip u v e = grind (arith, nat_tests)

    by_side : (side : Side) → (file_of x == file_of a) ≡ false → is_ahead side n a x ≡ false
    by_side White f = rw f
    by_side Black f = rw f

pub goes_without : (men : List Man) (q : Option ℕ) (man : Man) (x : ℕ) → is_en_passant q man x ≡ true → is_empty men x ≡ true
    → reaches_target men None man x ≡ false
unfolding reaches_target is_en_passant pawn_steps pawn_double_steps pawn_takes
goes_without men q man x e empty =
    let a = and_parts (is_pawn man && not (file_of man.at == file_of x)) (is_square q x) e in
    let b = and_parts (is_pawn man) (not (file_of man.at == file_of x)) a.0 in
    let f = not_true (file_of man.at == file_of x) b.1 in
    rw (b.0, not_ahead man.side 1 man.at x f, not_ahead man.side 2 man.at x f, captured_empty men (other_side man.side) x empty)
    (all_false (rank_of man.at == starting_rank man.side) (is_empty men (half_way man.at x)) (is_empty men x) (pawn_captures man.side man.at x))
  where
    all_false : (a b c d : Bool) → (((a && false) && b && c) || (d && false)) ≡ false
    all_false true b c true = refl
    all_false true b c false = refl
    all_false false b c true = refl
    all_false false b c false = refl

not_legal_for : (p : Position) (man : Man) (m : Move) → reaches_target p.men p.passed man m.target ≡ false → is_legal_for p man m ≡ false
unfolding is_legal_for is_pseudo_legal
not_legal_for p man m e =
    rw e (off (same_side man.side p.to_move) (not (has_side p.men p.to_move m.target))
    (is_promotion_choice (reaches_last_rank man m.target) m.promoted) (not (in_check (men_after p man m) p.to_move)))
  where
    off : (a b c d : Bool) → ((a && false) && b && c && d) ≡ false
    off true b c d = refl
    off false b c d = refl

-- the properties of a square that can be passed
pub record IsPassed (men : List Man) (x : ℕ) : Type 0 where
  pub on : x < 64
  pub empty : is_empty men x ≡ true
  pub inside : (rank_of x ≡ 5) ⊎ (rank_of x ≡ 2)

IsPassed-from : (men : List Man) (side : Side) (x : ℕ) → could_be_passed men side x ≡ true → IsPassed men x
unfolding could_be_passed
IsPassed-from men White x e =
    let a = and_parts (rank_of x == 5 && is_empty men x && is_empty men (x + 8)) _ e in
    let b = and_parts (rank_of x == 5 && is_empty men x) (is_empty men (x + 8)) a.0 in
    let d = and_parts (rank_of x == 5) (is_empty men x) b.0 in
    let r : rank_of x ≡ 5 = eqb_then (rank_of x) 5 d.0 in
    record { on = omega arith; empty = d.1; inside = inl r }
IsPassed-from men Black x e =
    let a = and_parts (rank_of x == 2 && is_empty men x && is_empty men (x - 8)) _ e in
    let b = and_parts (rank_of x == 2 && is_empty men x) (is_empty men (x - 8)) a.0 in
    let d = and_parts (rank_of x == 2) (is_empty men x) b.0 in
    let r : rank_of x ≡ 2 = eqb_then (rank_of x) 2 d.0 in
    record { on = omega arith; empty = d.1; inside = inr r }

-- a man that a test finds
pub found_any : (q : Man → Bool) (xs : List Man) (x : ℕ) (m : Man) → man_at xs x ≡ Some m → q m ≡ true → list_any q xs ≡ true
found_any q [] x m e h = cc
found_any q (y ∷ ys) x m e h = by_test (y.at == x) e (λ k. found_any q ys x m k h)
  where
    or_true : (b : Bool) → (b || true) ≡ true
    or_true true = refl
    or_true false = refl

    by_test : (b : Bool) → cond b (Some y) (man_at ys x) ≡ Some m → (man_at ys x ≡ Some m → list_any q ys ≡ true) → (q y || list_any q ys) ≡ true
    by_test true k rest = let same : m ≡ y = cc in let t : q y ≡ true = ap q (sym same) ∙ h in rw t
    by_test false k rest = rw (rest k) (or_true (q y))

no_choice : (man : Man) (x : ℕ) (o : Option Kind) → (rank_of x ≡ 5) ⊎ (rank_of x ≡ 2) → is_promotion_choice (reaches_last_rank man x) o ≡ true → o ≡ None
no_choice man x o r e =
    let end : reaches_last_rank man x ≡ false = rw (not_last man.side) (and_false (is_pawn man)) in
    by_choice o (ap (λ b. is_promotion_choice b o) (sym end) ∙ e)
  where
    apart : (a b : ℕ) → ((a ≡ 5) ⊎ (a ≡ 2)) → ((b ≡ 7) ⊎ (b ≡ 0)) → eqb a b ≡ false
    apart a b h k = grind (arith, nat_tests)

    not_last : (side : Side) → (rank_of x == last_rank side) ≡ false
    not_last White = apart (rank_of x) 7 r (inl refl)
    not_last Black = apart (rank_of x) 0 r (inr refl)

    by_choice : (o : Option Kind) → is_promotion_choice false o ≡ true → o ≡ None
    by_choice None e = refl
    by_choice (Some k) e = absurd (false≢true e)

-- if no legal move captures on the passed square, no move that goes there is legal
module _ (p : Position) (possible : passed_possible p.men p.to_move p.passed ≡ true) (dead : has_legal_en_passant p ≡ false) where
  passed_here : (man : Man) (x : ℕ) → is_en_passant p.passed man x ≡ true → (p.passed ≡ Some x) × IsPassed p.men x
  unfolding is_en_passant
  passed_here man x e = by_passed p.passed possible (and_parts (is_pawn man && not (file_of man.at == file_of x)) (is_square p.passed x) e).1
    where
      by_passed : (q : Option ℕ) → passed_possible p.men p.to_move q ≡ true → is_square q x ≡ true → (q ≡ Some x) × IsPassed p.men x
      by_passed None k t = absurd (false≢true t)
      by_passed (Some y) k t = let same : y ≡ x = eqb_then y x t in (ap (λ n. Some n) same, subst (IsPassed p.men) same (IsPassed-from p.men p.to_move y k))

  not_taken : (man : Man) (m : Move) → man_at p.men m.origin ≡ Some man → is_en_passant p.passed man m.target ≡ true → is_legal p m ≡ true → ⊥
  not_taken man m here e legal =
      let at = passed_here man m.target e in
      let h = HasMover-from_is_legal p m legal in
      let both : Some h.man ≡ Some man = sym h.here ∙ here in
      let same : h.man ≡ man = cc in
      let choice : is_promotion_choice (reaches_last_rank man m.target) m.promoted ≡ true =
      subst (λ (y : Man). is_promotion_choice (reaches_last_rank y m.target) m.promoted ≡ true) same h.moves.choice in
      let o = no_choice man m.target m.promoted (at.1).inside choice in
      let from = (IsFound-from_man_at p.men m.origin man here).at in
      let try : ℕ → Option Kind → Move = λ a k. record { origin = a; target = m.target; promoted = k } in
      let legal' : is_legal p (try man.at None) ≡ true = ap (λ k. is_legal p (try man.at k)) (sym o) ∙ ap (λ a. is_legal p (try a m.promoted)) from ∙ legal in
      let one : (is_en_passant p.passed man m.target && is_legal p (try man.at None)) ≡ true = rw (e, legal') in
      let any : is_capturable_en_passant p (Some m.target) ≡ true =
      found_any (λ y. is_en_passant p.passed y m.target && is_legal p (try y.at None)) p.men m.origin man here
      one in
      false≢true (sym dead ∙ ap (is_capturable_en_passant p) at.0 ∙ any)

  legal_without : (m : Move) → is_legal (without_passed p) m ≡ is_legal p m
  unfolding is_legal
  legal_without m = by_man (man_at p.men m.origin) refl
    where
      by_man : (o : Option Man) → man_at p.men m.origin ≡ o
          → (nat_lt m.target 64 && option_map_or (λ man. is_legal_for (without_passed p) man m) o false)
          ≡ (nat_lt m.target 64 && option_map_or (λ man. is_legal_for p man m) o false)
      by_man None e = refl
      by_man (Some man) e =
          elim (true_or_false (is_en_passant p.passed man m.target)) as
          (λ _. (nat_lt m.target 64 && is_legal_for (without_passed p) man m)
          ≡ (nat_lt m.target 64 && is_legal_for p man m)) [
            | inl t ↦
                let at = passed_here man m.target t in
                let left : is_legal_for (without_passed p) man m ≡ false =
                not_legal_for (without_passed p) man m
                (goes_without p.men p.passed man m.target t (at.1).empty) in
                let right : (nat_lt m.target 64 && is_legal_for p man m) ≡ false =
                never (nat_lt m.target 64 && is_legal_for p man m) (λ l. not_taken man m e t (whole man e l)) in
                rw left (and_false (nat_lt m.target 64) ∙ sym right)
            | inr f ↦ rw (is_legal_for_bare p man m f)
          ]
        where
          never : (b : Bool) → (b ≡ true → ⊥) → b ≡ false
          never true h = absurd (h refl)
          never false h = refl

          whole : (man : Man) → man_at p.men m.origin ≡ Some man → (nat_lt m.target 64 && is_legal_for p man m) ≡ true → is_legal p m ≡ true
          whole man e l = rw e l

  after_without : (m : Move) → is_legal p m ≡ true → after (without_passed p) m ≡ after p m
  unfolding after
  after_without m l =
      let h = HasMover-from_is_legal p m l in
      rw h.here (elim (true_or_false (is_en_passant p.passed h.man m.target)) as (λ _. after_by (without_passed p) h.man m ≡ after_by p h.man m) [
        | inl t ↦ absurd (not_taken h.man m h.here t l)
        | inr f ↦ rw (men_after_bare p h.man m f)
      ])

-- positions that agree in check, legal moves and the positions after them
module _ (p q : Position) (check : in_check p.men p.to_move ≡ in_check q.men q.to_move) (legal : (m : Move)
    → is_legal p m ≡ is_legal q m) (afters : (m : Move) → is_legal p m ≡ true → after p m ≡ after q m) where
  same_no_move : HasNoMove p → HasNoMove q
  same_no_move h m e = h m (legal m ∙ e)

  pub same_mate : IsMate p → IsMate q
  same_mate h = (sym check ∙ h.0, same_no_move h.1)

  pub same_stalemate : IsStalemate p → IsStalemate q
  same_stalemate h = (sym check ∙ h.0, same_no_move h.1)

  pub same_mates : (n : ℕ) → MatesWithin n p → MatesWithin n q
  same_mates zero h = h
  same_mates (suc n) h = (h.0, sym (legal h.0) ∙ h.1, subst (λ (r : Position). IsMatedWithin n r) (afters h.0 h.1) h.2)

  pub same_mated : (n : ℕ) → IsMatedWithin n p → IsMatedWithin n q
  same_mated zero h = same_mate h
  same_mated (suc n) h =
      elim h as (λ _. IsMatedWithin (suc n) q) [
        | inl mate ↦ inl (same_mate mate)
        | inr all ↦ inr (
          ((all.0).0, sym (legal (all.0).0) ∙ (all.0).1),
          λ m e. let l : is_legal p m ≡ true = legal m ∙ e in subst (λ (r : Position). MatesWithin n r) (afters m l) (all.1 m l),
        )
      ]

pub HasSameGame-from : (p q : Position) → in_check p.men p.to_move ≡ in_check q.men q.to_move
    → ((m : Move) → is_legal p m ≡ is_legal q m) → ((m : Move) → is_legal p m ≡ true → after p m ≡ after q m)
    → HasSameGame p q
HasSameGame-from p q check legal afters =
    let check' = sym check in
    let legal' : (m : Move) → is_legal q m ≡ is_legal p m = λ m. sym (legal m) in
    let afters' : (m : Move) → is_legal q m ≡ true → after q m ≡ after p m = λ m l. sym (afters m (legal m ∙ l)) in
    record {
      mate = (same_mate p q check legal afters, same_mate q p check' legal' afters');
      stalemate = (same_stalemate p q check legal afters, same_stalemate q p check' legal' afters');
      mates = λ n. (same_mates p q check legal afters n, same_mates q p check' legal' afters' n);
      mated = λ n. (same_mated p q check legal afters n, same_mated q p check' legal' afters' n);
    }

-- the agreement of a position and another
record Agrees (p q : Position) : Type 0 where
  valid : IsValid q
  legal : (m : Move) → is_legal q m ≡ is_legal p m
  after : (m : Move) → is_legal p m ≡ true → after q m ≡ after p m
  game : HasSameGame p q

Agrees-without : (p : Position) → IsValid p → has_legal_en_passant p ≡ false → Agrees p (without_passed p)
Agrees-without p v dead =
    let f = IsFaultless-from_first p.men p.to_move p.passed v.faultless in
    let l = legal_without p f.possible dead in
    let a = after_without p f.possible dead in
    record {
      valid = record {
        ordered = v.ordered;
        on_board = v.on_board;
        faultless =
            first_fault-from_IsFaultless p.men p.to_move None
            (record {
              few = f.few;
              once = f.once;
              kings = f.kings;
              pawns = f.pawns;
              safe = f.safe;
              possible = refl;
            });
      };
      legal = l;
      after = a;
      game = HasSameGame-from p (without_passed p) refl (λ m. sym (l m)) (λ m k. sym (a m k));
    }

Agrees-itself : (p : Position) → IsValid p → Agrees p p
Agrees-itself p v = record { valid = v; legal = λ m. refl; after = λ m l. refl; game = HasSameGame-from p p refl (λ m. refl) (λ m l. refl) }

Agrees-bare : (p : Position) → IsValid p → Agrees p (without_idle_passed_square p)
Agrees-bare p v = by_live (has_legal_en_passant p) refl
  where
    by_live : (b : Bool) → has_legal_en_passant p ≡ b → Agrees p (cond b p (without_passed p))
    by_live true e = Agrees-itself p v
    by_live false e = Agrees-without p v e

pub AgreesWithBare-from_valid : (p : Position) → IsValid p → AgreesWithBare p
AgreesWithBare-from_valid p v =
    let h = Agrees-bare p v in
    record {
      valid = h.valid;
      legal = h.legal;
      after = h.after;
      game = h.game;
      value = HasSameValue-from_game p
          (without_idle_passed_square p) h.game;
    }
