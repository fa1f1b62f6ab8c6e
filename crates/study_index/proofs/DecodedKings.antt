-- The men that a number encodes are few, and each side has exactly one king among them.
use Rattle.std.proofs.Common.{◌≡◌, ℕ, ◌/◌, ◌%◌, ◌<◌, ◌&&◌, Bool, true, false, cond, List, [], ◌∷◌, refl, arith}
use Rattle.std.specs.List.{count_by}
use Rattle.study_board.specs.declared.men.Side.{Side}
use Rattle.study_board.specs.declared.men.Side.TheVariants.{White, Black}
use Rattle.study_board.specs.declared.men.Kind.{Kind}
use Rattle.study_board.specs.declared.men.Kind.TheVariants.{King, Queen, Rook, Bishop, Knight, Pawn}
use Rattle.study_board.specs.declared.men.Man.{Man}
use Rattle.study_board.specs.Men.{same_side, same_kind, is_man}
use Rattle.study_board.specs.Position.{has_one_king}
use Rattle.study_board.proofs.Lists.{count_by-cons}
use Rattle.study_index.specs.declared.decoding.Slot.{Slot}
use Rattle.study_values.specs.Slots.{slot_number}
use Rattle.study_index.specs.Decoded.{number_of_slot, AreSlots, man, decoded_men}

white_king : (side : Side) (kind : Kind) → slot_number side kind ≡ 0 → (side ≡ White) × (kind ≡ King)
white_king White King e = (refl, refl)
white_king White Queen e = absurd (omega (arith, e))
white_king White Rook e = absurd (omega (arith, e))
white_king White Bishop e = absurd (omega (arith, e))
white_king White Knight e = absurd (omega (arith, e))
white_king White Pawn e = absurd (omega (arith, e))
white_king Black King e = absurd (omega (arith, e))
white_king Black Queen e = absurd (omega (arith, e))
white_king Black Rook e = absurd (omega (arith, e))
white_king Black Bishop e = absurd (omega (arith, e))
white_king Black Knight e = absurd (omega (arith, e))
white_king Black Pawn e = absurd (omega (arith, e))

black_king : (side : Side) (kind : Kind) → slot_number side kind ≡ 1 → (side ≡ Black) × (kind ≡ King)
black_king Black King e = (refl, refl)
black_king Black Queen e = absurd (omega (arith, e))
black_king Black Rook e = absurd (omega (arith, e))
black_king Black Bishop e = absurd (omega (arith, e))
black_king Black Knight e = absurd (omega (arith, e))
black_king Black Pawn e = absurd (omega (arith, e))
black_king White King e = absurd (omega (arith, e))
black_king White Queen e = absurd (omega (arith, e))
black_king White Rook e = absurd (omega (arith, e))
black_king White Bishop e = absurd (omega (arith, e))
black_king White Knight e = absurd (omega (arith, e))
black_king White Pawn e = absurd (omega (arith, e))

no_king : (side : Side) (kind : Kind) → 1 < slot_number side kind → same_kind kind King ≡ false
no_king White King h = absurd (omega (arith, h))
no_king Black King h = absurd (omega (arith, h))
no_king White Queen h = refl
no_king White Rook h = refl
no_king White Bishop h = refl
no_king White Knight h = refl
no_king White Pawn h = refl
no_king Black Queen h = refl
no_king Black Rook h = refl
no_king Black Bishop h = refl
no_king Black Knight h = refl
no_king Black Pawn h = refl

never : (b : Bool) (x y : ℕ) → cond (b && false) x y ≡ y
never true x y = refl
never false x y = refl

NoKings : List Man → Type 0
NoKings men = (side : Side) → count_by (is_man side King) men ≡ 0

NoKings-further : (s : Slot) (x : ℕ) (men : List Man) → 1 < number_of_slot s → NoKings men → NoKings (man s x ∷ men)
unfolding NoKings
NoKings-further s x men h none side =
    rw (count_by-cons (is_man side King) (man s x) men, none side, no_king s.side s.kind h) (rw (never (same_side s.side side) 1 0) refl)

NoKings-none : NoKings []
unfolding NoKings
NoKings-none side = refl

kings : (k b : Slot) (x y : ℕ) (men : List Man) → number_of_slot k ≡ 0 → number_of_slot b ≡ 1 → NoKings men
    → (has_one_king (man k x ∷ man b y ∷ men) White && has_one_king (man k x ∷ man b y ∷ men) Black) ≡ true
unfolding NoKings has_one_king
kings k b x y men hk hb none =
    rw (
      count_by-cons (is_man White King) (man k x) (man b y ∷ men),
      count_by-cons (is_man White King) (man b y) men,
      count_by-cons (is_man Black King) (man k x) (man b y ∷ men),
      count_by-cons (is_man Black King) (man b y) men,
      none White,
      none Black,
      (white_king k.side k.kind hk).0,
      (white_king k.side k.kind hk).1,
      (black_king b.side b.kind hb).0,
      (black_king b.side b.kind hb).1,
    ) refl

-- the men that a number encodes have one king of each side
pub decoded_kings : (slots : List Slot) (n : ℕ) → AreSlots slots → (has_one_king (decoded_men slots n) White && has_one_king (decoded_men slots n) Black) ≡ true
decoded_kings (k ∷ b ∷ []) n a = kings k b _ _ [] a.0 a.1 NoKings-none
decoded_kings (k ∷ b ∷ x ∷ []) n a = kings k b _ _ (man x (n % 64) ∷ []) a.0 a.1 (NoKings-further x (n % 64) [] a.2 NoKings-none)
decoded_kings (k ∷ b ∷ x ∷ y ∷ []) n a =
    kings k b _ _ (man x (n / 64 % 64) ∷ man y (n % 64) ∷ []) a.0 a.1
    (NoKings-further x (n / 64 % 64) (man y (n % 64) ∷ []) a.2 (NoKings-further y (n % 64) [] (omega (arith, a.2, a.3)) NoKings-none))
decoded_kings [] n a = absurd a
decoded_kings (k ∷ []) n a = absurd a
decoded_kings (k ∷ b ∷ x ∷ y ∷ z ∷ fs) n a = absurd a
