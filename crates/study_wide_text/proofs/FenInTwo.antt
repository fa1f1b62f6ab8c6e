-- A FEN text is read in two: the position of the first four fields, and the counts of the other two.
use Rattle.std.proofs.Common.{◌≡◌, ℕ, Bool, true, false, List, Option, Some, None, refl}
use Rattle.std.specs.Prelude.{Result, Err, not}
use Rattle.study_text.specs.Words.{words}
use Rattle.study_board.specs.Men.{other_side}
use Rattle.study_board.specs.Position.{in_check}
use Rattle.study_notation.specs.declared.fault.FenFault.{FenFault}
use Rattle.study_notation.specs.declared.fault.FenFault.TheVariants.{FieldCount}
use Rattle.study_notation.specs.Fen.{Fields, fields_of, placement, side_of, passed_of, ◌>>=◌, refuse, refuse_any, field_needed}
use Rattle.study_wide.specs.Rights.{rights_fit}
use Rattle.study_wide.specs.Wide.{Wide}
use Rattle.study_wide_text.specs.declared.start.WideStart.{WideStart}
use Rattle.study_wide_text.specs.RightsField.{rights_of}
use Rattle.study_wide_text.specs.Fen.{wide_placement_fault, wide_position_at, wide_counted, wide_start_of}

-- a step before the others, and before the first of two parts of them
needed_both : {A B C : Type 0} (o : Option A) (k : FenFault) (f : A → Result B FenFault) (g : B → Result C FenFault) (h : A → Result C FenFault)
    → ((x : A) → h x ≡ (f x >>= g)) → (field_needed o k >>= h) ≡ ((field_needed o k >>= f) >>= g)
needed_both None k f g h e = refl
needed_both (Some x) k f g h e = e x

refuse_both : {B C : Type 0} (b : Bool) (k : FenFault) (f : Unit {0} → Result B FenFault) (g : B → Result C FenFault) (h : Unit {0} → Result C FenFault)
    → h tt ≡ (f tt >>= g) → (refuse b k >>= h) ≡ ((refuse b k >>= f) >>= g)
refuse_both true k f g h e = refl
refuse_both false k f g h e = e

refuse_any_both : {B C : Type 0} (o : Option FenFault) (f : Unit {0} → Result B FenFault) (g : B → Result C FenFault) (h : Unit {0} → Result C FenFault)
    → h tt ≡ (f tt >>= g) → (refuse_any o >>= h) ≡ ((refuse_any o >>= f) >>= g)
refuse_any_both None f g h e = e
refuse_any_both (Some x) f g h e = refl

needed_same : {A C : Type 0} (o : Option A) (k : FenFault) (f g : A → Result C FenFault) → ((x : A) → f x ≡ g x)
    → (field_needed o k >>= f) ≡ (field_needed o k >>= g)
needed_same None k f g e = refl
needed_same (Some x) k f g e = e x

-- the start of these fields, if there are any
unfoldable pub start_with : Option Fields → Result WideStart FenFault
start_with o = field_needed o FieldCount >>= (λ f. wide_position_at f >>= wide_counted f)

pub in_two : (text : List ℕ) → wide_start_of text ≡ start_with (fields_of (words text))
unfolding wide_start_of wide_position_at wide_counted start_with
in_two text =
    needed_same (fields_of (words text)) _ _ _ (λ f.
    needed_both (placement f.placement) _ _ (wide_counted f) _ (λ men.
    refuse_any_both (wide_placement_fault men) _ (wide_counted f) _ (
    needed_both (side_of f.side) _ _ (wide_counted f) _ (λ side.
    refuse_both (in_check men (other_side side)) _ _ (wide_counted f) _ (
    needed_both (rights_of f.castling) _ _ (wide_counted f) _ (λ rights.
    refuse_both (not (rights_fit men rights)) _ _ (wide_counted f) _ (
    needed_both (passed_of f.passed) _ _ (wide_counted f) _ (λ passed. refl))))))))

pub no_fields : (o : Option Fields) → o ≡ None → start_with o ≡ Err FieldCount
unfolding start_with
no_fields o e = rw e refl

pub with_fields : (o : Option Fields) (f : Fields) (r : Result Wide FenFault) → o ≡ Some f → r ≡ wide_position_at f → start_with o ≡ (r >>= wide_counted f)
unfolding start_with
with_fields o f r e h = rw (e, h) refl
