-- A start with more than four men is read, and written and read back.
use Rattle.std.proofs.Common.{◌≡◌, ◌==◌, ℕ, ◌<◌, ◌≤◌, Bool, true, false, not, cond, ◌&&◌, eqb, nat_lt, List, [], ◌∷◌}
use Rattle.std.proofs.Common.{Option, Some, None, refl, sym, ap, ◌∙◌, subst, arith, inl, inr}
use Rattle.std.specs.Prelude.{◌↔◌, Result, Ok, Err, IfOk, IsOk, decimal}
use Rattle.std.specs.Result.{result_ok}
use Rattle.std.specs.List.{All, count_by}
use Rattle.std.proofs.lemmas.Bool.{false≢true, or_from, or_parts, ne_eqb, cases_Bool, le-ltb}
use borrow.Author.Tests.{ltb-false}
use Rattle.study_text.specs.Words.{words}
use Rattle.study_board.specs.declared.men.Man.{Man}
use Rattle.study_board.specs.declared.men.Side.{Side}
use Rattle.study_board.specs.declared.men.Side.TheVariants.{White, Black}
use Rattle.study_board.specs.declared.fault.PositionFault.TheVariants.{EnPassantImpossible}
use Rattle.study_board.specs.Men.{other_side}
use Rattle.study_board.specs.Position.{Position, IsAscending, in_order, has_one_king, has_end_pawn, has_square_twice, in_check, passed_possible}
use Rattle.study_board.specs.Sound.{IsSound, fault_among}
use Rattle.study_board.proofs.MenInOrder.{IsPermutation-in_order, IsSortedByAt-in_order}
use Rattle.study_board.proofs.Valid.{IsAscending-from_sorted}
use Rattle.study_board.proofs.Faults.{has_square_twice_same}
use Rattle.std.proofs.lemmas.List.Sorted.{IsPermutation-sym}
use Rattle.study_moves.proofs.MenOfList.{has_square_twice-ascending}
use Rattle.study_notation.specs.declared.fault.FenFault.{FenFault}
use Rattle.study_notation.specs.declared.fault.FenFault.TheVariants.{TooManyMen}
use Rattle.study_notation.specs.Fen.{Fields, fields_of, placement, side_of, passed_of, count_of, refuse, refuse_any, field_needed}
use Rattle.study_notation.specs.FenSpelling.{placement_text, side_text, passed_text}
use Rattle.study_notation.proofs.PlacementFaults.{IsAscending-placement, reported, ascending_same}
use Rattle.study_wide.specs.declared.rights.Rights.{Rights}
use Rattle.study_wide.specs.declared.wide.WideFault.{WideFault}
use Rattle.study_wide.specs.declared.wide.WideFault.TheVariants as wide
use Rattle.study_wide.specs.Rights.{rights_fit}
use Rattle.study_wide.specs.Wide.{Wide, IsWide, of_side, is_crowded, wide_fault}
use Rattle.study_wide_text.specs.declared.start.WideStart.{WideStart}
use Rattle.study_wide_text.specs.RightsField.{rights_of, castling_text}
use Rattle.study_wide_text.specs.Fen.{wide_placement_fault, wide_position_of, wide_start_of, wide_fen_text}
use Rattle.study_wide_text.proofs.FieldsAgain.{words_again, side_word, passed_word, count_word, placement_word, placement_again, Ascending-valid}
use Rattle.study_wide_text.proofs.FieldsAgain.{side_again, passed_again, passed_in, count_again}
use Rattle.study_wide_text.proofs.StepsRead.{bind_then, needed_ok, refuse_ok, refuse_any_ok, after_needed, after_refuse, after_refuse_any}
use Rattle.study_wide_text.proofs.StepsRead.{where_true, on_board, count_low, one_or_more}
use Rattle.study_wide_text.proofs.RightsAgain.{rights_again, castling_word}

pub placed_fault : (men : List Man) → IsAscending men
    → wide_placement_fault men ≡ cond (is_crowded men) (Some TooManyMen) (reported (fault_among men White None))
unfolding wide_placement_fault fault_among
placed_fault men h = elim (cases_Bool (is_crowded men)) [
  | inl many ↦ rw many refl
  | inr few ↦ rw (few, has_square_twice-ascending men h) (elim (cases_Bool (not (has_one_king men White && has_one_king men Black))) [
    | inl wrong ↦ rw wrong refl
    | inr right ↦ rw right (elim (cases_Bool (has_end_pawn men)) [
      | inl end ↦ rw end refl
      | inr inside ↦ rw inside (elim (cases_Bool (in_check men (other_side White))) [ inl c ↦ rw c refl | inr s ↦ rw s refl ])
    ])
  ])
]

not_reported : {F : Type 0} (b : Bool) (f : F) (r : Option F) → cond b (Some f) r ≡ None → (b ≡ false) × (r ≡ None)
not_reported true f r e = cc
not_reported false f r e = (refl, e)

-- men that are placed without a fault
pub record IsPlaced (men : List Man) : Type 0 where
  pub few : is_crowded men ≡ false
  pub kings : (has_one_king men White && has_one_king men Black) ≡ true
  pub pawns : has_end_pawn men ≡ false

not_false : (b : Bool) → not b ≡ false → b ≡ true
not_false true e = refl
not_false false e = absurd (false≢true (sym e))

pub IsPlaced-from : (men : List Man) → wide_placement_fault men ≡ None → IsPlaced men
unfolding wide_placement_fault
IsPlaced-from men none =
    let a = not_reported _ _ _ none in
    let b = not_reported _ _ _ a.1 in
    let c = not_reported _ _ _ b.1 in
    record { few = a.0; kings = not_false _ b.0; pawns = c.0 }

-- men without a fault of their own, a side to move, a passed square and rights that fit
faultless_but_passed : (men : List Man) (s : Side) (q : Option ℕ) (r : Rights) → IsAscending men → wide_placement_fault men ≡ None
    → in_check men (other_side s) ≡ false → rights_fit men r ≡ true
    → wide_fault men s q r ≡ cond (not (passed_possible men s q)) (Some (wide.Men EnPassantImpossible)) None
unfolding wide_fault fault_among
faultless_but_passed men s q r h none safe fit =
    let p = IsPlaced-from men none in
    let few = p.few in
    let kings = p.kings in
    let pawns = p.pawns in
    rw (few, has_square_twice-ascending men h, kings, pawns, safe)
    (elim (cases_Bool (passed_possible men s q)) [ inl t ↦ rw (t, fit) refl | inr f ↦ rw f refl ])

in_order_ascending : (men : List Man) → IsAscending men → in_order men ≡ men
in_order_ascending men h =
    let once : has_square_twice (in_order men) ≡ false =
    sym (has_square_twice_same men (in_order men) (IsPermutation-in_order men)) ∙ has_square_twice-ascending men h in
    ascending_same (in_order men) men (IsAscending-from_sorted (in_order men) (IsSortedByAt-in_order men) once) h
    (IsPermutation-sym men (in_order men) (IsPermutation-in_order men))

abbrev made : List Man → Side → Option ℕ → Rights → Wide
made men s q r = record { board = record { men = men; to_move = s; passed = q }; rights = r }

pub position_decoded : (men : List Man) (s : Side) (q : Option ℕ) (r : Rights) (p : Result Wide WideFault) → IsAscending men
    → wide_placement_fault men ≡ None → in_check men (other_side s) ≡ false → rights_fit men r ≡ true
    → IsOk p ↔ (wide_fault men s q r ≡ None) → IfOk p (λ g. g ≡ made (in_order men) s q r)
    → result_ok p ≡ wide_position_of men s q r
unfolding wide_position_of
position_decoded men s q r (Ok g) h none safe fit known value = elim (cases_Bool (passed_possible men s q)) [
  | inl t ↦ rw t (ap (λ z. Some z) (value ∙ ap (λ (l : List Man). made l s q r) (in_order_ascending men h)))
  | inr f ↦
      let fault : wide_fault men s q r ≡ Some (wide.Men EnPassantImpossible) = faultless_but_passed men s q r h none safe fit ∙ rw f refl in
      let fine : wide_fault men s q r ≡ None = known.0 refl in
      absurd (let no : ⊥ = cc in no)
]
position_decoded men s q r (Err f) h none safe fit known value = elim (cases_Bool (passed_possible men s q)) [
  | inl t ↦
      let fine : wide_fault men s q r ≡ None = faultless_but_passed men s q r h none safe fit ∙ rw t refl in
      let no = known.1 fine in
      absurd (let bad : ⊥ = cc no in bad)
  | inr n ↦ rw n refl
]

-- ---- what is read

pub record IsRead (s : WideStart) : Type 0 where
  pub valid : IsWide s.position
  pub clock : s.clock ≤ 9999
  pub positive : 1 ≤ s.number
  pub number : s.number ≤ 9999

few_from : (men : List Man) → is_crowded men ≡ false → (s : Side) → count_by (of_side s) men ≤ 16
few_from men e s =
    let a = or_parts (nat_lt 16 (count_by (of_side White) men)) (nat_lt 16 (count_by (of_side Black) men)) e in
    elim s as (λ t. count_by (of_side t) men ≤ 16) [
      | White ↦ omega (arith, ltb-false 16 (count_by (of_side White) men) a.0)
      | Black ↦ omega (arith, ltb-false 16 (count_by (of_side Black) men) a.1)
    ]

sound_position : (men : List Man) (side : Side) (passed : Option ℕ) (r : Rights) (g : Wide) → IsAscending men → All (λ m. m.at < 64) men
    → wide_placement_fault men ≡ None → in_check men (other_side side) ≡ false → rights_fit men r ≡ true
    → wide_position_of men side passed r ≡ Some g → IsWide g
unfolding wide_position_of
sound_position men side passed r g ordered board none safe fit e =
    let p = IsPlaced-from men none in
    let is = where_true (passed_possible men side passed) (made men side passed r) g e in
    subst (λ (z : Wide). IsWide z) is.1 (record {
      sound = record {
        ordered = ordered;
        on_board = board;
        once = has_square_twice-ascending men ordered;
        kings = p.kings;
        pawns = p.pawns;
        safe = safe;
        possible = is.0;
      };
      few = few_from men p.few;
      fit = fit;
    })

abbrev made_ok : WideStart → Result WideStart FenFault
made_ok s = Ok s

ok_is : (x y : WideStart) → made_ok x ≡ made_ok y → x ≡ y
ok_is x y e = cc

-- the parts of a text that is read as a start
pub record IsParsed (text : List ℕ) (s : WideStart) : Type 0 where
  pub fields : Fields
  pub men : List Man
  pub side : Side
  pub rights : Rights
  pub passed : Option ℕ
  pub number : ℕ
  pub in_fields : fields_of (words text) ≡ Some fields
  pub placed : placement fields.placement ≡ Some men
  pub whole : wide_placement_fault men ≡ None
  pub sided : side_of fields.side ≡ Some side
  pub safe : in_check men (other_side side) ≡ false
  pub righted : rights_of fields.castling ≡ Some rights
  pub fit : rights_fit men rights ≡ true
  pub jumped : passed_of fields.passed ≡ Some passed
  pub position : wide_position_of men side passed rights ≡ Some s.position
  pub clocked : count_of fields.clock ≡ Some s.clock
  pub numbered : count_of fields.number ≡ Some number
  pub counted : cond (number == 0) 1 number ≡ s.number

pub parsed : (text : List ℕ) (s : WideStart) → wide_start_of text ≡ Ok s → IsParsed text s
unfolding wide_start_of
parsed text s e =
    bind_then (field_needed (fields_of (words text)) _) _ s e (λ f in_fields e.
    bind_then (field_needed (placement f.placement) _) _ s e (λ men placed e.
    bind_then (refuse_any (wide_placement_fault men)) _ s e (λ _ whole e.
    bind_then (field_needed (side_of f.side) _) _ s e (λ side sided e.
    bind_then (refuse (in_check men (other_side side)) _) _ s e (λ _ safe e.
    bind_then (field_needed (rights_of f.castling) _) _ s e (λ rights righted e.
    bind_then (refuse (not (rights_fit men rights)) _) _ s e (λ _ fit e.
    bind_then (field_needed (passed_of f.passed) _) _ s e (λ passed jumped e.
    bind_then (field_needed (wide_position_of men side passed rights) _) _ s e (λ position made e.
    bind_then (field_needed (count_of f.clock) _) _ s e (λ clock clocked e.
    bind_then (field_needed (count_of f.number) _) _ s e (λ n numbered e.
    let same = ok_is (record { position = position; clock = clock; number = cond (n == 0) 1 n }) s e in
    record {
      fields = f;
      men = men;
      side = side;
      rights = rights;
      passed = passed;
      number = n;
      in_fields = needed_ok _ _ f in_fields;
      placed = needed_ok _ _ men placed;
      whole = refuse_any_ok _ _ whole;
      sided = needed_ok _ _ side sided;
      safe = refuse_ok _ _ _ safe;
      righted = needed_ok _ _ rights righted;
      fit = not_false _ (refuse_ok _ _ _ fit);
      jumped = needed_ok _ _ passed jumped;
      position = needed_ok _ _ position made ∙ ap (λ (z : WideStart). Some z.position) same;
      clocked = needed_ok _ _ clock clocked ∙ ap (λ (z : WideStart). Some z.clock) same;
      numbered = needed_ok _ _ n numbered;
      counted = ap (λ (z : WideStart). z.number) same;
    })))))))))))

pub read_is : (text : List ℕ) (s : WideStart) → wide_start_of text ≡ Ok s → IsRead s
read_is text s e =
    let p = parsed text s e in
    let counted = one_or_more p.number (count_low p.fields.number p.number p.numbered) in
    record {
      valid = sound_position p.men p.side p.passed p.rights s.position (IsAscending-placement p.fields.placement p.men p.placed)
          (on_board p.fields.placement p.men p.placed) p.whole p.safe p.fit p.position;
      clock = count_low p.fields.clock s.clock p.clocked;
      positive = subst (λ (n : ℕ). 1 ≤ n) p.counted counted.0;
      number = subst (λ (n : ℕ). n ≤ 9999) p.counted counted.1;
    }

-- ---- what is written

crowded_none : (men : List Man) → ((s : Side) → count_by (of_side s) men ≤ 16) → is_crowded men ≡ false
crowded_none men few = or_from _ _ (le-ltb 16 (count_by (of_side White) men) (few White)) (le-ltb 16 (count_by (of_side Black) men) (few Black))

placed_none : (men : List Man) (s : Side) (q : Option ℕ) (g : Position) → g ≡ record { men = men; to_move = s; passed = q } → IsSound g
    → ((t : Side) → count_by (of_side t) men ≤ 16) → wide_placement_fault men ≡ None
unfolding wide_placement_fault
placed_none men s q g e sound few =
    let h = subst (λ (z : Position). IsSound z) e sound in
    let none = crowded_none men few in
    let kings = h.kings in
    let pawns = h.pawns in
    rw (none, kings, pawns) refl

pub start_again : (s : WideStart) → IsWide s.position → s.clock ≤ 9999 → 1 ≤ s.number → s.number ≤ 9999 → wide_start_of (wide_fen_text s) ≡ Ok s
unfolding wide_start_of fields_of wide_fen_text wide_position_of
start_again s valid clock low high =
    let men = s.position.board.men in
    let side = s.position.board.to_move in
    let passed = s.position.board.passed in
    let rights = s.position.rights in
    let sound = valid.sound in
    let a = placement_word men in
    let b = side_word side in
    let r = castling_word rights in
    let p = passed_word passed in
    let h = count_word s.clock clock in
    let n = count_word s.number high in
    let all =
    words_again (placement_text men)
    (side_text side ∷ castling_text rights ∷ passed_text passed ∷ decimal s.clock ∷ decimal s.number ∷ [])
    (a.0, a.1, (b.0, b.1, (r.0, r.1, (p.0, p.1, (h.0, h.1, (n.0, n.1, tt)))))) in
    let some : eqb s.number 0 ≡ false = ne_eqb s.number 0 (λ e. omega arith) in
    after_needed _ _ _ _ _ (ap fields_of all) (
    after_needed _ _ _ _ _ (placement_again men (Ascending-valid men sound.ordered sound.on_board)) (
    after_refuse_any _ _ _ (placed_none men side passed s.position.board refl sound valid.few) (
    after_needed _ _ _ _ _ (side_again side) (
    after_refuse _ _ _ _ sound.safe (
    after_needed _ _ _ _ _ (rights_again rights) (
    after_refuse _ _ _ _ (ap not valid.fit) (
    after_needed _ _ _ _ _ (passed_again passed (passed_in men side passed sound.possible)) (
    after_needed (wide_position_of men side passed rights) _ _ s.position _ (rw sound.possible refl) (
    after_needed _ _ _ _ _ (count_again s.clock clock) (
    after_needed _ _ _ _ _ (count_again s.number high) (rw some refl)))))))))))

pub settled : (text : List ℕ) (s : WideStart) → wide_start_of text ≡ Ok s → wide_start_of (wide_fen_text s) ≡ Ok s
settled text s e = let r = read_is text s e in start_again s r.valid r.clock r.positive r.number
