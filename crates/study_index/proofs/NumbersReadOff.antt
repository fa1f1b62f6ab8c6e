-- The position read off a number.
use Rattle.std.proofs.Common.{◌≡◌, ℕ, ◌+◌, ◌*◌, ◌/◌, ◌%◌, ◌<◌, ◌==◌, Bool, true, false, cond, ◌&&◌, nat_lt, eqb}
use Rattle.std.proofs.Common.{List, [], ◌∷◌, map, Option, Some, None, refl, sym, ◌∙◌, subst, ap, arith}
use Rattle.std.specs.List.{All, list_any}
use Rattle.std.specs.List.Sorted.{IsPermutation}
use Rattle.std.specs.Option.{option_map}
use Rattle.std.proofs.lemmas.Bool.{false≢true, eqb-true}
use Rattle.std.proofs.lemmas.Bool.Decides.{nat_tests}
use Rattle.std.proofs.lemmas.List.Sorted.{All-permutation, IsPermutation-sym, list_any-IsPermutation}
use borrow.Author.Tests.{ltb-true}
use Rattle.study_board.specs.declared.men.Side.{Side}
use Rattle.study_board.specs.declared.men.Side.TheVariants.{White, Black}
use Rattle.study_board.specs.declared.men.Kind.TheVariants.{Pawn}
use Rattle.study_board.specs.declared.men.Man.{Man}
use Rattle.study_board.specs.declared.fault.PositionFault.{PositionFault}
use Rattle.study_board.specs.Men.{same_kind}
use Rattle.study_board.specs.Position.{Position, IsValid, first_fault}
use Rattle.study_index.proofs.MenInOrder.{ascending_same}
use Rattle.study_board.proofs.Faults.{first_fault_same}
use Rattle.study_moves.specs.EnPassant.{has_legal_en_passant}
use Rattle.study_index.specs.declared.decoding.Slot.{Slot}
use Rattle.study_values.specs.Slots.{IsInSlots, man_slot_number}
use Rattle.study_values.specs.Number.{place, king_places, number, has_pawn, append_squares, side_number, with_bit, has_bit, without_bit, IsLeastNumber, IsIndex}
use Rattle.study_index.specs.Decoded.{slot_filled, IsDecodedAt, AreSlots, listed_square, slots_have_pawn, man, head, men_of}
use Rattle.study_index.specs.Decoded.{side_numbered, decoded_men, decoded_side, passed_behind, is_cell, IsPlaced, IsFaulty}
use Rattle.study_index.proofs.Symmetries.{all_below, at_below}

-- an option is this number
abbrev pub is_number : ℕ → Option ℕ → Bool
is_number q None = false
is_number q (Some r) = r == q

pub is_number-true : (q : ℕ) (o : Option ℕ) → is_number q o ≡ true → o ≡ Some q
is_number-true q None e = absurd (false≢true e)
is_number-true q (Some r) e = ap (λ x. Some x) (let d : r ≡ q = grind (arith, nat_tests) in d)

place_test : (pawns : Bool) → all_below (king_places pawns) (λ q. is_number q (place pawns (listed_square pawns q))) ≡ true
unfolding place listed_square
place_test true = refl
place_test false = refl

pub place-listed : (pawns : Bool) (q : ℕ) → q < king_places pawns → place pawns (listed_square pawns q) ≡ Some q
place-listed pawns q l = is_number-true q _ (at_below (king_places pawns) (λ q. is_number q (place pawns (listed_square pawns q))) (place_test pawns) q l)

abbrev pub listed_back : Bool → ℕ → Option ℕ → Bool
listed_back pawns s None = true
listed_back pawns s (Some q) = (listed_square pawns q == s) && nat_lt q (king_places pawns)

listed_test : (pawns : Bool) → all_below 64 (λ s. listed_back pawns s (place pawns s)) ≡ true
unfolding place listed_square
listed_test true = refl
listed_test false = refl

both : (x y : Bool) → (x && y) ≡ true → (x ≡ true) × (y ≡ true)
both true y e = (refl, e)
both false y e = absurd (false≢true e)

pub listed-place : (pawns : Bool) (s q : ℕ) → s < 64 → place pawns s ≡ Some q → (listed_square pawns q ≡ s) × (q < king_places pawns)
listed-place pawns s q l e =
    let t : listed_back pawns s (Some q) ≡ true =
    subst (λ o. listed_back pawns s o ≡ true) e
    (at_below 64 (λ s. listed_back pawns s (place pawns s)) (listed_test pawns) s l) in
    let parts = both (listed_square pawns q == s) (nat_lt q (king_places pawns)) t in
    (eqb-true (listed_square pawns q) s parts.0, ltb-true q (king_places pawns) parts.1)

-- the parts of a number
pub number-parts : (pawns : Bool) (side : Side) (k : Man) (rest : List Man) (n : ℕ) → number pawns side (k ∷ rest) ≡ Some n
    → (q : ℕ) × (place pawns k.at ≡ Some q) × (n ≡ append_squares (side_number side * king_places pawns + q) rest)
unfolding number
number-parts pawns side k rest n e =
    let go : (o : Option ℕ) → option_map (λ q. append_squares (side_number side * king_places pawns + q) rest) o ≡ Some n
    → (q : ℕ) × (o ≡ Some q) × (n ≡ append_squares (side_number side * king_places pawns + q) rest) =
    λ o. elim o as (λ v. option_map (λ q. append_squares (side_number side * king_places pawns + q) rest) v ≡ Some n
    → (q : ℕ) × (v ≡ Some q) × (n ≡ append_squares (side_number side * king_places pawns + q) rest))
    [ None ↦ λ d. cc | Some q ↦ λ d. (q, refl, cc) ]
    in
    let r = go (place pawns (k.at)) e in
    (r.0, r.1, r.2)

-- the side and the king's place
pub head_parts : (pawns : Bool) (side : Side) (q h : ℕ) → q < king_places pawns → h ≡ side_number side * king_places pawns + q
    → (h % king_places pawns ≡ q) × (side ≡ side_numbered (h / king_places pawns)) × (nat_lt (h / king_places pawns) 2 ≡ true)
head_parts true White q h l e = (omega arith, (let z : h / 32 ≡ 0 = omega arith in rw z refl), (let z : h / 32 ≡ 0 = omega arith in rw z refl))
head_parts true Black q h l e = (omega arith, (let z : h / 32 ≡ 1 = omega arith in rw z refl), (let z : h / 32 ≡ 1 = omega arith in rw z refl))
head_parts false White q h l e = (omega arith, (let z : h / 10 ≡ 0 = omega arith in rw z refl), (let z : h / 10 ≡ 0 = omega arith in rw z refl))
head_parts false Black q h l e = (omega arith, (let z : h / 10 ≡ 1 = omega arith in rw z refl), (let z : h / 10 ≡ 1 = omega arith in rw z refl))

-- the data read off the number of men
pub record IsRead (pawns : Bool) (side : Side) (fs : List Man) (n : ℕ) : Type 0 where
  pub men : fs ≡ men_of pawns (map slot_filled fs) n
  pub side_is : side ≡ side_numbered (head (map slot_filled fs) n / king_places pawns)
  pub cell : nat_lt (head (map slot_filled fs) n / king_places pawns) 2 ≡ true

pub IsRead-number : (pawns : Bool) (side : Side) (fs : List Man) (n : ℕ) → AreSlots (map slot_filled fs)
    → All (λ m. m.at < 64) fs → number pawns side fs ≡ Some n → IsRead pawns side fs n
IsRead-number pawns side (k ∷ b ∷ []) n a all e =
    let p = number-parts pawns side k (b ∷ []) n e in
    let lk = all 0 k (omega arith) in let lb = all 1 b (omega arith) in
    let l = listed-place pawns k.at p.0 lk p.1 in
    let h : n / 64 ≡ side_number side * king_places pawns + p.0 = (let w = p.2 in omega (arith, w)) in
    let d : n % 64 ≡ b.at = (let w = p.2 in omega (arith, w)) in
    let r = head_parts pawns side p.0 (n / 64) l.1 h in
    record {
      men = sym (two k b _ _ (ap (λ q. listed_square pawns q) r.0 ∙ l.0) d);
      side_is = r.1;
      cell = r.2;
    }
  where
    two : (k b : Man) (x y : ℕ) → x ≡ k.at → y ≡ b.at → man (slot_filled k) x ∷ man (slot_filled b) y ∷ [] ≡ k ∷ b ∷ []
    two k b x y e f = rw (e, f) refl
IsRead-number pawns side (k ∷ b ∷ x ∷ []) n a all e =
    let p = number-parts pawns side k (b ∷ x ∷ []) n e in
    let lk = all 0 k (omega arith) in let lb = all 1 b (omega arith) in let lx = all 2 x (omega arith) in
    let l = listed-place pawns k.at p.0 lk p.1 in
    let w : n ≡ ((side_number side * king_places pawns + p.0) * 64 + b.at) * 64 + x.at = p.2 in
    let d : n / 64 ≡ (side_number side * king_places pawns + p.0) * 64 + b.at = omega arith in
    let d' : n % 64 ≡ x.at = omega arith in
    let h : n / 64 / 64 ≡ side_number side * king_places pawns + p.0 = omega arith in
    let h' : n / 64 % 64 ≡ b.at = omega arith in
    let r = head_parts pawns side p.0 (n / 64 / 64) l.1 h in
    record {
      men = sym (three k b x _ _ _ (ap (λ q. listed_square pawns q) r.0 ∙ l.0) h' d');
      side_is = r.1;
      cell = r.2;
    }
  where
    three : (k b c : Man) (x y z : ℕ) → x ≡ k.at → y ≡ b.at → z ≡ c.at
        → man (slot_filled k) x ∷ man (slot_filled b) y ∷ man (slot_filled c) z ∷ [] ≡ k ∷ b ∷ c ∷ []
    three k b c x y z e f g = rw (e, f, g) refl
IsRead-number pawns side (k ∷ b ∷ x ∷ y ∷ []) n a all e =
    let p = number-parts pawns side k (b ∷ x ∷ y ∷ []) n e in
    let lk = all 0 k (omega arith) in let lb = all 1 b (omega arith) in let lx = all 2 x (omega arith) in let ly = all 3 y (omega arith) in
    let l = listed-place pawns k.at p.0 lk p.1 in
    let w : n ≡ (((side_number side * king_places pawns + p.0) * 64 + b.at) * 64 + x.at) * 64 + y.at = p.2 in
    let d : n / 64 ≡ ((side_number side * king_places pawns + p.0) * 64 + b.at) * 64 + x.at = omega arith in
    let d' : n % 64 ≡ y.at = omega arith in
    let g : n / 64 / 64 ≡ (side_number side * king_places pawns + p.0) * 64 + b.at = omega arith in
    let g' : n / 64 % 64 ≡ x.at = omega arith in
    let h : n / 64 / 64 / 64 ≡ side_number side * king_places pawns + p.0 = omega arith in
    let h' : n / 64 / 64 % 64 ≡ b.at = omega arith in
    let r = head_parts pawns side p.0 (n / 64 / 64 / 64) l.1 h in
    record {
      men = sym (four k b x y _ _ _ _ (ap (λ q. listed_square pawns q) r.0 ∙ l.0) h' g' d');
      side_is = r.1;
      cell = r.2;
    }
  where
    four : (k b c d : Man) (x y z w : ℕ) → x ≡ k.at → y ≡ b.at → z ≡ c.at → w ≡ d.at
        → man (slot_filled k) x ∷ man (slot_filled b) y ∷ man (slot_filled c) z ∷ man (slot_filled d) w ∷ []
        ≡ k ∷ b ∷ c ∷ d ∷ []
    four k b c d x y z w e f g h = rw (e, f, g, h) refl
IsRead-number pawns side [] n a all e = absurd a
IsRead-number pawns side (k ∷ []) n a all e = absurd a
IsRead-number pawns side (k ∷ b ∷ x ∷ y ∷ z ∷ fs) n a all e = absurd a

-- the men that are read off have the number
side_back : (h : ℕ) → nat_lt h 2 ≡ true → side_number (side_numbered h) ≡ h
side_back h e =
    let lt = ltb-true h 2 e in
    let go : (b : Bool) → eqb h 0 ≡ b → side_number (cond b White Black) ≡ h =
    λ b. elim b as (λ v. eqb h 0 ≡ v → side_number (cond v White Black) ≡ h)
    [ true ↦ λ d. (let z : h ≡ 0 = grind (arith, nat_tests) in sym z) | false ↦ λ d. (let z : h ≡ 1 = grind (arith, nat_tests) in sym z) ]
    in go (eqb h 0) refl

pub head_back : (pawns : Bool) (h : ℕ) → nat_lt (h / king_places pawns) 2 ≡ true
    → side_number (side_numbered (h / king_places pawns)) * king_places pawns + h % king_places pawns ≡ h
head_back true h e = (let s = side_back (h / 32) e in omega (arith, s))
head_back false h e = (let s = side_back (h / 10) e in omega (arith, s))

pub place-king : (pawns : Bool) (h : ℕ) → place pawns ((listed_square pawns (h % king_places pawns))) ≡ Some (h % king_places pawns)
place-king true h = place-listed true (h % 32) (omega arith)
place-king false h = place-listed false (h % 10) (omega arith)

pub number-men_of : (pawns : Bool) (slots : List Slot) (n : ℕ) → AreSlots slots
    → nat_lt (head slots n / king_places pawns) 2 ≡ true
    → number pawns (side_numbered (head slots n / king_places pawns)) (men_of pawns slots n) ≡ Some n
unfolding number
number-men_of pawns (k ∷ b ∷ []) n a c =
    rw (place-king pawns (n / 64)) (ap (λ x. Some x) (let h = head_back pawns (n / 64) c in omega (arith, h)))
number-men_of pawns (k ∷ b ∷ x ∷ []) n a c =
    rw (place-king pawns (n / 64 / 64)) (ap (λ x. Some x) (let h = head_back pawns (n / 64 / 64) c in omega (arith, h)))
number-men_of pawns (k ∷ b ∷ x ∷ y ∷ []) n a c =
    rw (place-king pawns (n / 64 / 64 / 64)) (ap (λ x. Some x) (let h = head_back pawns (n / 64 / 64 / 64) c in omega (arith, h)))
number-men_of pawns [] n a c = absurd a
number-men_of pawns (k ∷ []) n a c = absurd a
number-men_of pawns (k ∷ b ∷ x ∷ y ∷ z ∷ fs) n a c = absurd a

pub filled-men_of : (pawns : Bool) (slots : List Slot) (n : ℕ) → AreSlots slots → map slot_filled (men_of pawns slots n) ≡ slots
filled-men_of pawns (k ∷ b ∷ []) n a = refl
filled-men_of pawns (k ∷ b ∷ x ∷ []) n a = refl
filled-men_of pawns (k ∷ b ∷ x ∷ y ∷ []) n a = refl
filled-men_of pawns [] n a = absurd a
filled-men_of pawns (k ∷ []) n a = absurd a
filled-men_of pawns (k ∷ b ∷ x ∷ y ∷ z ∷ fs) n a = absurd a

pub IsInSlots-men_of : (pawns : Bool) (slots : List Slot) (n : ℕ) → AreSlots slots → IsInSlots false (men_of pawns slots n)
unfolding man_slot_number
IsInSlots-men_of pawns (k ∷ b ∷ []) n a = (((let e = a.0 in omega arith), tt), (tt, tt))
IsInSlots-men_of pawns (k ∷ b ∷ x ∷ []) n a = (((let e = a.0 in omega arith), ((let e = a.0 in omega arith), tt)), (((let e = a in omega arith), tt), (tt, tt)))
IsInSlots-men_of pawns (k ∷ b ∷ x ∷ y ∷ []) n a = (
  ((let e = a in omega arith), ((let e = a in omega arith), ((let e = a in omega arith), tt))),
  (((let e = a in omega arith), ((let e = a in omega arith), tt)), ((a.3, tt), (tt, tt))),
)
IsInSlots-men_of pawns [] n a = absurd a
IsInSlots-men_of pawns (k ∷ []) n a = absurd a
IsInSlots-men_of pawns (k ∷ b ∷ x ∷ y ∷ z ∷ fs) n a = absurd a

pawn_in_slots : (fs : List Man) → list_any (λ m. same_kind m.kind Pawn) fs ≡ slots_have_pawn (map slot_filled fs)
pawn_in_slots [] = refl
pawn_in_slots (x ∷ xs) = rw (pawn_in_slots xs) refl

pub has_pawn-slots : (men fs : List Man) (slots : List Slot) → IsPermutation men fs → map slot_filled fs ≡ slots → has_pawn men ≡ slots_have_pawn slots
has_pawn-slots men fs slots p e = list_any-IsPermutation (λ m. same_kind m.kind Pawn) men fs p ∙ pawn_in_slots fs ∙ ap (λ s. slots_have_pawn s) e

pub IsLeastNumber-unique : (p : Position) (m n : ℕ) → IsLeastNumber p m → IsLeastNumber p n → m ≡ n
IsLeastNumber-unique p m n h k = omega (arith, h.least n k.number, k.least m h.number)

pub IsIndex-unique : (p : Position) (m n : ℕ) → IsIndex p m → IsIndex p n → m ≡ n
IsIndex-unique p m n h k = h.is ∙ ap (λ l. with_bit (has_legal_en_passant p) l) (IsLeastNumber-unique p h.number k.number h.least k.least) ∙ sym k.is

-- a decoded position is that of the men that are read off
pub record IsOfMen (slots : List Slot) (n : ℕ) (q : Position) : Type 0 where
  pub same : IsPermutation (decoded_men slots (without_bit n)) q.men
  pub move : q.to_move ≡ decoded_side slots (without_bit n)
  pub passed : q.passed ≡ passed_behind (has_bit n) (decoded_side slots (without_bit n)) (decoded_men slots (without_bit n))
  pub cell : is_cell slots (without_bit n) ≡ true

pub IsOfMen-decoded : (slots : List Slot) (n : ℕ) (q : Position) → AreSlots slots → IsDecodedAt slots n q → IsOfMen slots n q
IsOfMen-decoded slots n q a d =
    let f = d.read_off.filling in
    let b = without_bit n in
    let p = has_pawn-slots q.men f slots d.read_off.fills.each_once d.read_off.slots_are in
    let a' : AreSlots (map slot_filled f) = subst (λ s. AreSlots s) (sym d.read_off.slots_are) a in
    let r =
    IsRead-number (slots_have_pawn slots) q.to_move f b a'
    (All-permutation (λ m. m.at < 64) q.men f d.read_off.fills.each_once d.valid.on_board)
    (subst (λ h. number h q.to_move f ≡ Some b) p d.read_off.is) in
    let men : f ≡ decoded_men slots b = subst (λ s. f ≡ men_of (slots_have_pawn slots) s b) d.read_off.slots_are r.men in
    let move : q.to_move ≡ decoded_side slots b =
    subst (λ s. q.to_move ≡ side_numbered (head s b / king_places (slots_have_pawn slots))) d.read_off.slots_are r.side_is in
    record {
      same = subst (λ l. IsPermutation l q.men) men (IsPermutation-sym q.men f d.read_off.fills.each_once);
      move = move;
      passed = d.read_off.passed ∙ ap (λ s. passed_behind (has_bit n) s f) move ∙ ap (λ l. passed_behind (has_bit n) (decoded_side slots b) l) men;
      cell = subst (λ s. nat_lt (head s b / king_places (slots_have_pawn slots)) 2 ≡ true) d.read_off.slots_are r.cell;
    }

-- a number that is not a cell is not decoded
pub no_cell : (slots : List Slot) (n : ℕ) → AreSlots slots → is_cell slots (without_bit n) ≡ false → (q : Position) → IsDecodedAt slots n q → ⊥
no_cell slots n a e q d = false≢true (sym e ∙ (IsOfMen-decoded slots n q a d).cell)

some_fault : (o : Option PositionFault) (f : PositionFault) → o ≡ None → o ≡ Some f → ⊥
some_fault o f e d = (let no : None ≡ Some f = sym e ∙ d in cc)

-- the men and the passed square that a number encodes have the same fault as those of a decoded position
pub decoded_fault : (slots : List Slot) (n : ℕ) (q : Position) → IsOfMen slots n q
    → first_fault (decoded_men slots (without_bit n)) (decoded_side slots (without_bit n))
    (passed_behind (has_bit n) (decoded_side slots (without_bit n)) (decoded_men slots (without_bit n)))
    ≡ first_fault q.men q.to_move q.passed
decoded_fault slots n q o =
    first_fault_same (decoded_men slots (without_bit n)) q.men o.same (decoded_side slots (without_bit n))
    (passed_behind (has_bit n) (decoded_side slots (without_bit n)) (decoded_men slots (without_bit n)))
    ∙ ap (λ s. first_fault q.men s (passed_behind (has_bit n) (decoded_side slots (without_bit n)) (decoded_men slots (without_bit n)))) (sym o.move)
    ∙ ap (λ r. first_fault q.men q.to_move r) (sym o.passed)

-- if the men are faulty nothing is decoded
pub no_position : (slots : List Slot) (n : ℕ) → AreSlots slots
    → IsFaulty (decoded_men slots (without_bit n)) (decoded_side slots (without_bit n))
    (passed_behind (has_bit n) (decoded_side slots (without_bit n)) (decoded_men slots (without_bit n)))
    → (q : Position) → IsDecodedAt slots n q → ⊥
no_position slots n a f q d = some_fault _ f.fault d.valid.faultless (sym (decoded_fault slots n q (IsOfMen-decoded slots n q a d)) ∙ f.is)

-- valid positions with the same men, the same side to move and the same passed square are equal
pub same_position : (p q : Position) → IsValid p → IsValid q → IsPermutation p.men q.men → p.to_move ≡ q.to_move → p.passed ≡ q.passed → p ≡ q
same_position p q v w same move passed = one p.men q.men p.to_move q.to_move p.passed q.passed (ascending_same p.men q.men same v.ordered w.ordered) move passed
  where
    one : (xs ys : List Man) (s t : Side) (a b : Option ℕ) → xs ≡ ys → s ≡ t → a ≡ b
        → (let p : Position = record { men = xs; to_move = s; passed = a } in
        let q : Position = record { men = ys; to_move = t; passed = b } in p ≡ q)
    one xs ys s t a b e f g = rw (e, f, g) refl

-- if it has this index it is decoded
pub decoded : (slots : List Slot) (n : ℕ) (p : Position) → AreSlots slots → is_cell slots (without_bit n) ≡ true
    → IsPlaced (decoded_men slots (without_bit n)) (decoded_side slots (without_bit n))
    (passed_behind (has_bit n) (decoded_side slots (without_bit n)) (decoded_men slots (without_bit n))) p → IsIndex p n
    → IsDecodedAt slots n p
decoded slots n p a cell l i =
    let b = without_bit n in
    let men = decoded_men slots b in
    let back : IsPermutation p.men men = IsPermutation-sym men p.men l.same_men in
    let h : has_pawn p.men ≡ slots_have_pawn slots = has_pawn-slots p.men men slots back (filled-men_of (slots_have_pawn slots) slots b a) in
    record {
      valid = l.valid;
      read_off = record {
        filling = men;
        fills = record { each_once = back; in_slots = IsInSlots-men_of (slots_have_pawn slots) slots b a };
        slots_are = filled-men_of (slots_have_pawn slots) slots b a;
        is = rw (h, l.same_side) (number-men_of (slots_have_pawn slots) slots b a cell);
        passed = l.same_passed ∙ ap (λ s. passed_behind (has_bit n) s men) (sym l.same_side);
      };
      index = i;
    }
