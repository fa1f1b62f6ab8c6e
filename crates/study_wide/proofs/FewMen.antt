-- Where four men and no right to castle are left, the wide rules are the rules.
use Rattle.std.proofs.Common.{◌≡◌, ℕ, ◌≤◌, Bool, true, false, not, cond, ◌||◌, nat_lt, nat_le, List, [], ◌∷◌, length}
use Rattle.std.proofs.Common.{refl, sym, ap, ◌∙◌, arith, subst, Some, None}
use Rattle.std.specs.List.{count_by, filter}
use Rattle.std.proofs.lemmas.Bool.{false≢true, and_parts, and_right, and_from, not-true}
use Rattle.std.proofs.lemmas.Bool.Decides.{nat_tests}
use borrow.Author.Tests.{ltb-false}
use Rattle.study_board.specs.declared.men.Side.{Side}
use Rattle.study_board.specs.declared.men.Side.TheVariants.{White, Black}
use Rattle.study_board.specs.declared.men.Man.{Man}
use Rattle.study_board.specs.Position.{Position, IsValid}
use Rattle.study_board.proofs.Lists.{count_by-cons}
use Rattle.study_board.proofs.Valid.{IsFaultless-from_first}
use Rattle.study_board.proofs.SoundMen.{IsSound-from_IsValid, IsValid-from_IsSound}
use Rattle.study_moves.specs.declared.moves.Move.{Move}
use Rattle.study_moves.specs.Rules.{is_legal, after}
use Rattle.study_moves.specs.LegalList.{all_moves, legal_list}
use Rattle.study_moves.proofs.AfterMove.{IsValid-after}
use Rattle.study_wide.specs.declared.castling.Wing.{Wing}
use Rattle.study_wide.specs.declared.castling.Wing.TheVariants.{Short, Long}
use Rattle.study_wide.specs.declared.rights.Rights.{Rights}
use Rattle.study_wide.specs.Rights.{no_rights, has_right, rights_fit}
use Rattle.study_wide.specs.Wide.{Wide, IsWide, of_side}
use Rattle.study_wide.specs.Castling.{can_castle, is_castling_move}
use Rattle.study_wide.specs.Rules.{castles, wing_of, is_wide_legal, wide_after, has_rights, is_small, narrow, widen}
use Rattle.study_wide.specs.LegalList.{wide_legal_list}
use Rattle.study_wide.specs.Laws.{AllAgreeWithFew, AreSmallValid, SmallStaysSmall}

no_right : (s : Side) (w : Wing) → has_right no_rights s w ≡ false
no_right White Short = refl
no_right White Long = refl
no_right Black Short = refl
no_right Black Long = refl

cannot_castle : (p : Position) (w : Wing) → can_castle (widen p) w ≡ false
unfolding can_castle
cannot_castle p w = rw (no_right p.to_move w) refl

no_castling : (p : Position) (m : Move) (w : Wing) → castles (widen p) m w ≡ false
no_castling p m w = and_right (is_castling_move p.to_move w m) (can_castle (widen p) w) (cannot_castle p w)

no_wing : (p : Position) (m : Move) → wing_of (widen p) m ≡ None
no_wing p m = rw (no_castling p m Short, no_castling p m Long) refl

legal_same : (p : Position) (m : Move) → is_wide_legal (widen p) m ≡ is_legal p m
unfolding is_wide_legal
legal_same p m = rw (no_wing p m) refl

after_same : (p : Position) (m : Move) → wide_after (widen p) m ≡ widen (after p m)
unfolding wide_after
after_same p m = rw (no_wing p m) refl

filter_same : (f g : Move → Bool) → ((m : Move) → f m ≡ g m) → (xs : List Move) → filter f xs ≡ filter g xs
filter_same f g h [] = refl
filter_same f g h (x ∷ xs) = rw (h x, filter_same f g h xs) refl

listed_same : (p : Position) → wide_legal_list (widen p) ≡ legal_list p
unfolding wide_legal_list legal_list
listed_same p = filter_same (is_wide_legal (widen p)) (is_legal p) (legal_same p) all_moves

pub few_agree : AllAgreeWithFew
few_agree p = record { legal = legal_same p; listed = listed_same p; after = after_same p }

count_at_most : (q : Man → Bool) (xs : List Man) → count_by q xs ≤ length xs
count_at_most q [] = omega arith
count_at_most q (x ∷ xs) =
    let ih = count_at_most q xs in
    let whole = count_by-cons q x xs in
    let one : cond (q x) 1 0 ≤ 1 = elim (q x) as (λ b. cond b 1 0 ≤ 1) [ true ↦ omega arith | false ↦ omega arith ] in
    omega arith

le_from : (n k : ℕ) → nat_lt k n ≡ false → nat_le n k ≡ true
le_from n k e = grind (arith, nat_tests)

lt_from : (n k : ℕ) → nat_le n k ≡ true → nat_lt k n ≡ false
lt_from n k e = grind (arith, nat_tests)

few_of : (p : Position) → IsValid p → nat_lt 4 (length p.men) ≡ false
few_of p v = (IsFaultless-from_first p.men p.to_move p.passed v.faultless).few

pub wide_of : (p : Position) → IsValid p → IsWide (widen p)
unfolding rights_fit
wide_of p v =
    let most : length p.men ≤ 4 = omega (arith, ltb-false 4 (length p.men) (few_of p v)) in
    record {
      sound = IsSound-from_IsValid p v;
      few = λ s. let c = count_at_most (of_side s) p.men in omega arith;
      fit = refl;
    }

small_of : (p : Position) → IsValid p → is_small (widen p) ≡ true
unfolding is_small
small_of p v = and_from _ _ (le_from (length p.men) 4 (few_of p v)) refl

narrow_of : (p : Position) → IsValid p → narrow (widen p) ≡ Some p
narrow_of p v = rw (small_of p v) refl

rights_none : (r : Rights) → has_rights r ≡ false → r ≡ no_rights
rights_none r e = none_of r.white_short r.white_long r.black_short r.black_long e
  where
    rights_of : Bool → Bool → Bool → Bool → Rights
    rights_of a b c d = record { white_short = a; white_long = b; black_short = c; black_long = d }

    none_of : (a b c d : Bool) → (((a || b) || c) || d) ≡ false → rights_of a b c d ≡ no_rights
    none_of true b c d e = absurd (false≢true (sym e))
    none_of false true c d e = absurd (false≢true (sym e))
    none_of false false true d e = absurd (false≢true (sym e))
    none_of false false false true e = absurd (false≢true (sym e))
    none_of false false false false e = refl

-- a small position has no right to castle
pub small_widened : (g : Wide) → is_small g ≡ true → g ≡ widen g.board
unfolding is_small
small_widened g e =
    let a = and_parts (nat_le (length g.board.men) 4) (not (has_rights g.rights)) e in
    let build : Rights → Wide = λ r. record { board = g.board; rights = r } in
    ap build (rights_none g.rights (not-true _ a.1))

valid_of : (g : Wide) → IsWide g → is_small g ≡ true → IsValid g.board
unfolding is_small
valid_of g w e =
    let a = and_parts (nat_le (length g.board.men) 4) (not (has_rights g.rights)) e in
    IsValid-from_IsSound g.board w.sound (lt_from (length g.board.men) 4 a.0)

-- the board of a small position
pub record IsNarrow (g : Wide) (p : Position) : Type 0 where
  pub small : is_small g ≡ true
  pub board : g.board ≡ p

pub IsNarrow-from : (g : Wide) (p : Position) → narrow g ≡ Some p → IsNarrow g p
IsNarrow-from g p e = cases (is_small g) refl e
  where
    cases : (b : Bool) → is_small g ≡ b → cond b (Some g.board) None ≡ Some p → IsNarrow g p
    cases true s h = record { small = s; board = cc }
    cases false s h = absurd (let no : ⊥ = cc in no)

-- a small position is its board, widened
pub narrow_widened : (g : Wide) (p : Position) → narrow g ≡ Some p → g ≡ widen p
narrow_widened g p e = let h = IsNarrow-from g p e in small_widened g h.small ∙ ap widen h.board

pub small_valid : AreSmallValid
small_valid = record {
  wide = λ p v. (wide_of p v, narrow_of p v);
  valid = λ g p w e. let h = IsNarrow-from g p e in (subst IsValid h.board (valid_of g w h.small), narrow_widened g p e);
}

pub small_stays : SmallStaysSmall
small_stays g m w small legal =
    let same = small_widened g small in
    let valid = valid_of g w small in
    let plain : is_legal g.board m ≡ true = sym (legal_same g.board m) ∙ (ap (λ (h : Wide). is_wide_legal h m) (sym same) ∙ legal) in
    ap (λ (h : Wide). is_small (wide_after h m)) same ∙ (ap is_small (after_same g.board m) ∙ small_of (after g.board m) (IsValid-after g.board m valid plain))
