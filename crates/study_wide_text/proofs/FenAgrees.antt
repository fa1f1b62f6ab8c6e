-- With at most four men and no right to castle a FEN is read, written and played on as with four men.
use Rattle.std.proofs.Common.{◌≡◌, ◌==◌, ℕ, Bool, true, false, not, cond, inl, inr, nat_lt, List, [], ◌∷◌, length}
use Rattle.std.proofs.Common.{Option, Some, None, refl, sym, ap, ◌∙◌, subst, arith}
use Rattle.std.specs.Prelude.{Result, Ok, Err}
use Rattle.std.specs.List.{count_by}
use Rattle.std.proofs.lemmas.Bool.{false≢true, cases_Bool, or_from, le-ltb}
use Rattle.std.proofs.lemmas.List.Sums.{count_by-le-length}
use borrow.Author.Tests.{ltb-false}
use Rattle.study_text.specs.Words.{words}
use Rattle.study_board.specs.declared.men.Man.{Man}
use Rattle.study_board.specs.declared.men.Side.{Side}
use Rattle.study_board.specs.declared.men.Side.TheVariants.{White, Black}
use Rattle.study_board.specs.Men.{other_side}
use Rattle.study_board.specs.Position.{Position, IsValid, in_check, passed_possible}
use Rattle.study_board.proofs.Valid.{IsFaultless-from_first}
use Rattle.study_moves.specs.declared.moves.Move.{Move}
use Rattle.study_notation.specs.declared.start.Start.{Start}
use Rattle.study_notation.specs.declared.fault.FenFault.{FenFault}
use Rattle.study_notation.specs.declared.fault.FenFault.TheVariants.{TooManyMen, Castling}
use Rattle.study_notation.specs.Fen.{fields_of, placement, placement_fault, side_of, is_dash, passed_of, position_of, count_of, start_of}
use Rattle.study_notation.specs.Fen.{◌>>=◌, refuse, refuse_any, field_needed}
use Rattle.study_notation.specs.FenSpelling.{fen_text}
use Rattle.study_notation.specs.StartAfter.{start_after, resets_clock, one_more, number_after}
use Rattle.study_wide.specs.declared.rights.Rights.{Rights}
use Rattle.study_wide.specs.Rights.{no_rights, rights_fit}
use Rattle.study_wide.specs.Wide.{Wide, of_side, is_crowded}
use Rattle.study_wide.specs.Rules.{widen}
use Rattle.study_wide.proofs.FewMen.{few_agree}
use Rattle.study_wide_text.specs.declared.start.WideStart.{WideStart}
use Rattle.study_wide_text.specs.StartAfter.{wide_start_after, widen_start}
use Rattle.study_wide_text.specs.RightsField.{letter_at, rights_at, rights_of, castling_text}
use Rattle.study_wide_text.specs.Fen.{wide_placement_fault, wide_position_of, wide_start_of, wide_fen_text}
use Rattle.study_wide_text.specs.Laws.{FenAgrees}
use Rattle.study_wide_text.proofs.StepsRead.{after_needed, after_refuse, after_refuse_any, where_true}
use Rattle.study_wide_text.proofs.WideFen.{parsed}

-- ---- the steps

few_uncrowded : (men : List Man) → nat_lt 4 (length men) ≡ false → is_crowded men ≡ false
few_uncrowded men e =
    let few = ltb-false 4 (length men) e in
    let w = count_by-le-length (of_side White) men in
    let b = count_by-le-length (of_side Black) men in
    or_from _ _ (le-ltb 16 (count_by (of_side White) men) (omega (arith, few, w))) (le-ltb 16 (count_by (of_side Black) men) (omega (arith, few, b)))

-- men that are at most four have the same fault of their own
same_fault : (men : List Man) → nat_lt 4 (length men) ≡ false → wide_placement_fault men ≡ placement_fault men
unfolding wide_placement_fault placement_fault
same_fault men e = let few = few_uncrowded men e in rw (few, e) refl

few_placed : (men : List Man) → placement_fault men ≡ None → nat_lt 4 (length men) ≡ false
unfolding placement_fault
few_placed men e = cases (nat_lt 4 (length men)) _ e
  where
    cases : (b : Bool) (r : Option FenFault) → cond b (Some TooManyMen) r ≡ None → b ≡ false
    cases true r h = absurd (let no : ⊥ = cc in no)
    cases false r h = refl

other_fault_few : (men : List Man) (e : FenFault) → (e ≡ TooManyMen → ⊥) → placement_fault men ≡ Some e → nat_lt 4 (length men) ≡ false
unfolding placement_fault
other_fault_few men e other h = cases (nat_lt 4 (length men)) _ h
  where
    cases : (b : Bool) (r : Option FenFault) → cond b (Some TooManyMen) r ≡ Some e → b ≡ false
    cases true r k = absurd (other (let same : TooManyMen ≡ e = cc in sym same))
    cases false r k = refl

fit_none : (men : List Man) → rights_fit men no_rights ≡ true
unfolding rights_fit
fit_none men = refl

dash_none : (text : List ℕ) → is_dash text ≡ true → rights_of text ≡ Some no_rights
unfolding rights_of
dash_none [] e = absurd (false≢true e)
dash_none (x ∷ xs) e = rw e refl

-- ---- letters that spell no right

abbrev white_short_of : Option Rights → Bool
white_short_of None = true
white_short_of (Some r) = r.white_short

abbrev white_long_of : Option Rights → Bool
white_long_of None = true
white_long_of (Some r) = r.white_long

abbrev black_short_of : Option Rights → Bool
black_short_of None = true
black_short_of (Some r) = r.black_short

abbrev black_long_of : Option Rights → Bool
black_long_of None = true
black_long_of (Some r) = r.black_long

record HasNone (a b c : Bool) (d : Bool × List ℕ) : Type 0 where
  white_short : a ≡ false
  white_long : b ≡ false
  black_short : c ≡ false
  black_long : d.0 ≡ false
  rest : d.1 ≡ []

none_at : (a b c d : Bool) (rest : List ℕ) → rights_at a b c (d, rest) ≡ Some no_rights → HasNone a b c (d, rest)
none_at a b c d [] h = record {
  white_short = ap white_short_of h;
  white_long = ap white_long_of h;
  black_short = ap black_short_of h;
  black_long = ap black_long_of h;
  rest = refl;
}
none_at a b c d (x ∷ xs) h = absurd (let no : ⊥ = cc in no)

letter_stays : (b x : ℕ) (xs : List ℕ) → (letter_at b (x ∷ xs)).0 ≡ false → (letter_at b (x ∷ xs)).1 ≡ x ∷ xs
letter_stays b x xs e = elim (cases_Bool (x == b)) [
  | inl t ↦ (let y : true ≡ false = rw t at e in absurd (false≢true (sym y)))
  | inr f ↦ rw f refl
]

stays_after : (b : ℕ) (text : List ℕ) (x : ℕ) (xs : List ℕ) → text ≡ x ∷ xs → (letter_at b text).0 ≡ false → (letter_at b text).1 ≡ x ∷ xs
stays_after b text x xs same e =
    let e' : (letter_at b (x ∷ xs)).0 ≡ false = ap (λ (t : List ℕ). (letter_at b t).0) (sym same) ∙ e in
    ap (λ (t : List ℕ). (letter_at b t).1) same ∙ letter_stays b x xs e'

letters_none : (x : ℕ) (xs a b c : List ℕ) → a ≡ (letter_at 75 (x ∷ xs)).1 → b ≡ (letter_at 81 a).1 → c ≡ (letter_at 107 b).1
    → rights_at (letter_at 75 (x ∷ xs)).0 (letter_at 81 a).0 (letter_at 107 b).0 (letter_at 113 c) ≡ Some no_rights → ⊥
letters_none x xs a b c ea eb ec h =
    let r = none_at (letter_at 75 (x ∷ xs)).0 (letter_at 81 a).0 (letter_at 107 b).0 (letter_at 113 c).0 (letter_at 113 c).1 h in
    let ia = ea ∙ letter_stays 75 x xs r.white_short in
    let ib = eb ∙ stays_after 81 a x xs ia r.white_long in
    let ic = ec ∙ stays_after 107 b x xs ib r.black_short in
    let id = stays_after 113 c x xs ic r.black_long in
    let none : x ∷ xs ≡ [] = sym id ∙ r.rest in
    let no : ⊥ = cc in no

dash_only : (text : List ℕ) → rights_of text ≡ Some no_rights → is_dash text ≡ true
unfolding rights_of
dash_only [] e = absurd (let no : ⊥ = cc in no)
dash_only (x ∷ xs) e = elim (cases_Bool (is_dash (x ∷ xs))) [
  | inl t ↦ t
  | inr f ↦ absurd (letters_none x xs _ _ _ refl refl refl (rw f at e))
]

-- ---- what is read

-- a start of four men, or a fault that is neither the number of men nor a right to castle, comes out the same
record Agree (x : Result Start FenFault) (y : Result WideStart FenFault) : Type 0 where
  ok : (s : Start) → x ≡ Ok s → y ≡ Ok (widen_start s)
  err : (e : FenFault) → (e ≡ TooManyMen → ⊥) → (e ≡ Castling → ⊥) → x ≡ Err e → y ≡ Err e

abbrev start_ok : Start → Result Start FenFault
start_ok s = Ok s

abbrev start_err : FenFault → Result Start FenFault
start_err e = Err e

abbrev wide_ok : WideStart → Result WideStart FenFault
wide_ok s = Ok s

abbrev wide_err : FenFault → Result WideStart FenFault
wide_err e = Err e

same_err : (k e : FenFault) → start_err k ≡ start_err e → wide_err k ≡ wide_err e
same_err k e h = let same : k ≡ e = cc in ap wide_err same

agree_needed : {A : Type 0} (o : Option A) (k : FenFault) (f : A → Result Start FenFault) (g : A → Result WideStart FenFault)
    → ((x : A) → o ≡ Some x → Agree (f x) (g x)) → Agree (field_needed o k >>= f) (field_needed o k >>= g)
agree_needed None k f g h = record { ok = λ s e. absurd (let no : ⊥ = cc in no); err = λ e m c t. same_err k e t }
agree_needed (Some x) k f g h = h x refl

agree_refuse : (b : Bool) (k : FenFault) (f : Unit {0} → Result Start FenFault) (g : Unit {0} → Result WideStart FenFault)
    → (b ≡ false → Agree (f tt) (g tt)) → Agree (refuse b k >>= f) (refuse b k >>= g)
agree_refuse true k f g h = record { ok = λ s e. absurd (let no : ⊥ = cc in no); err = λ e m c t. same_err k e t }
agree_refuse false k f g h = h refl

agree_fault : (o p : Option FenFault) (f : Unit {0} → Result Start FenFault) (g : Unit {0} → Result WideStart FenFault)
    → ((e : FenFault) → (e ≡ TooManyMen → ⊥) → o ≡ Some e → p ≡ Some e) → (o ≡ None → p ≡ None) → (o ≡ None → Agree (f tt) (g tt))
    → Agree (refuse_any o >>= f) (refuse_any p >>= g)
agree_fault None p f g same none h = rw (none refl) (h refl)
agree_fault (Some k) p f g same none h = record {
  ok = λ s e. absurd (let no : ⊥ = cc in no);
  err = λ e m c t. (let it : k ≡ e = cc in rw (same k (λ z. m (sym it ∙ z)) refl) (same_err k e t));
}

agree_castling : (text : List ℕ) (men : List Man) (f : Unit {0} → Result Start FenFault) (g : Rights → Unit {0} → Result WideStart FenFault)
    → Agree (f tt) (g no_rights tt)
    → Agree (refuse (not (is_dash text)) Castling >>= f)
    (field_needed (rights_of text) Castling >>= λ r. refuse (not (rights_fit men r)) Castling >>= g r)
agree_castling text men f g h = elim (cases_Bool (is_dash text)) [
  | inl t ↦ rw (t, dash_none text t, fit_none men) h
  | inr n ↦ rw n (record { ok = λ s e. absurd (let no : ⊥ = cc in no); err = λ e m c t. absurd (c (let it : Castling ≡ e = cc in sym it)) })
]

agree_position : (men : List Man) (s : Side) (q : Option ℕ) (k : FenFault) (f : Position → Result Start FenFault) (g : Wide → Result WideStart FenFault)
    → ((p : Position) → Agree (f p) (g (widen p)))
    → Agree (field_needed (position_of men s q) k >>= f) (field_needed (wide_position_of men s q no_rights) k >>= g)
unfolding position_of wide_position_of
agree_position men s q k f g h = elim (cases_Bool (passed_possible men s q)) [
  | inl t ↦ rw t (h (record { men = men; to_move = s; passed = q }))
  | inr n ↦ rw n (record { ok = λ x e. absurd (let no : ⊥ = cc in no); err = λ e m c t. same_err k e t })
]

agree_start : (x : Start) → Agree (Ok x) (Ok (widen_start x))
agree_start x = record {
  ok = λ s e. (let same : x ≡ s = cc in ap (λ (z : Start). wide_ok (widen_start z)) same);
  err = λ e m c t. absurd (let no : ⊥ = cc in no);
}

all_agree : (text : List ℕ) → Agree (start_of text) (wide_start_of text)
unfolding start_of wide_start_of
all_agree text =
    agree_needed (fields_of (words text)) _ _ _ (λ f _.
    agree_needed (placement f.placement) _ _ _ (λ men _.
    agree_fault (placement_fault men) (wide_placement_fault men) _ _
    (λ e m t. same_fault men (other_fault_few men e m t) ∙ t)
    (λ t. same_fault men (few_placed men t) ∙ t) (λ _.
    agree_needed (side_of f.side) _ _ _ (λ side _.
    agree_refuse (in_check men (other_side side)) _ _ _ (λ _.
    agree_castling f.castling men _ _ (
    agree_needed (passed_of f.passed) _ _ _ (λ passed _.
    agree_position men side passed _ _ _ (λ p.
    agree_needed (count_of f.clock) _ _ _ (λ clock _.
    agree_needed (count_of f.number) _ _ _ (λ number _.
    agree_start (record { position = p; clock = clock; number = cond (number == 0) 1 number })))))))))))

-- ---- back

abbrev start_made : Position → ℕ → ℕ → Start
start_made p clock number = record { position = p; clock = clock; number = number }

abbrev made : List Man → Side → Option ℕ → Position
made men s q = record { men = men; to_move = s; passed = q }

from_wide : (text : List ℕ) (s : Start) → IsValid s.position → wide_start_of text ≡ Ok (widen_start s) → start_of text ≡ Ok s
unfolding start_of position_of wide_position_of
from_wide text s valid e =
    let p = parsed text (widen_start s) e in
    let is = where_true (passed_possible p.men p.side p.passed) (record { board = made p.men p.side p.passed; rights = p.rights }) (widen s.position) p.position in
    let board : made p.men p.side p.passed ≡ s.position = ap (λ (g : Wide). g.board) is.1 in
    let none : p.rights ≡ no_rights = ap (λ (g : Wide). g.rights) is.1 in
    let few : nat_lt 4 (length p.men) ≡ false =
    (IsFaultless-from_first p.men p.side p.passed (subst (λ (q : Position). IsValid q) (sym board) valid).faultless).few in
    let dash = dash_only p.fields.castling (p.righted ∙ ap (λ (r : Rights). Some r) none) in
    after_needed _ _ _ _ _ p.in_fields (
    after_needed _ _ _ _ _ p.placed (
    after_refuse_any _ _ _ (sym (same_fault p.men few) ∙ p.whole) (
    after_needed _ _ _ _ _ p.sided (
    after_refuse _ _ _ _ p.safe (
    after_refuse _ _ _ _ (ap not dash) (
    after_needed _ _ _ _ _ p.jumped (
    after_needed (position_of p.men p.side p.passed) _ _ s.position _ (rw is.0 (ap (λ (q : Position). Some q) board)) (
    after_needed _ _ _ _ _ p.clocked (
    after_needed _ _ _ _ _ p.numbered (ap (λ (n : ℕ). start_ok (start_made s.position s.clock n)) p.counted))))))))))

written_same : (s : Start) → wide_fen_text (widen_start s) ≡ fen_text s
unfolding wide_fen_text fen_text castling_text
written_same s = refl

after_same : (s : Start) (m : Move) → wide_start_after (widen_start s) m ≡ widen_start (start_after s m)
unfolding wide_start_after start_after
after_same s m =
    let build : Wide → WideStart = λ g. record {
      position = g;
      clock = cond (resets_clock s.position m) 0 (one_more s.clock);
      number = number_after s.position.to_move s.number;
    } in
    ap build ((few_agree s.position).after m)

pub fen_agrees : FenAgrees
fen_agrees = record {
  read = λ text s valid. ((all_agree text).ok s, from_wide text s valid);
  fault = λ text e m c t. (all_agree text).err e m c t;
  written = written_same;
  after = after_same;
}
