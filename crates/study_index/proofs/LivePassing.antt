-- Positions in which a capture in passing is legal: their class, and the passed square.
use Rattle.std.proofs.Common.{◌≡◌, ℕ, ◌+◌, ◌-◌, ◌≤◌, ◌==◌, suc, Bool, true, false, cond, not, ◌&&◌, inl, inr}
use Rattle.std.proofs.Common.{List, [], ◌∷◌, Option, Some, None, refl, sym, ◌∙◌, ap, subst, arith, find}
use Rattle.std.proofs.lemmas.Bool.{false≢true, and_parts, and_from, eqb-true}
use Rattle.std.specs.List.{list_any}
use Rattle.std.specs.List.Sorted.{IsPermutation}
use Rattle.std.specs.Option.{option_map, is_some}
use Rattle.std.proofs.lemmas.List.Sorted.{list_any-IsPermutation}
use Rattle.study_board.specs.declared.symmetry.Symmetry.{Symmetry}
use Rattle.study_board.specs.Symmetry.{turned_passed, image}
use Rattle.study_board.specs.declared.men.Man.{Man}
use Rattle.study_board.specs.declared.men.Side.{Side}
use Rattle.study_board.specs.declared.men.Side.TheVariants.{White, Black}
use Rattle.study_board.specs.declared.men.Kind.{Kind}
use Rattle.study_board.specs.declared.men.Kind.TheVariants.{Pawn}
use Rattle.study_board.specs.Geometry.{file_of, rank_of}
use Rattle.study_board.specs.Men.{same_side, other_side, is_man, is_pawn}
use Rattle.study_board.specs.Position.{Position, IsValid, could_be_passed, has_man, is_empty, passed_possible}
use Rattle.study_board.proofs.Valid.{IsFaultless-from_first}
use Rattle.study_moves.specs.declared.moves.Move.{Move}
use Rattle.study_moves.specs.Rules.{is_en_passant, is_square, is_legal}
use Rattle.study_moves.specs.EnPassant.{is_capturable_en_passant, has_legal_en_passant, without_passed, without_idle_passed_square}
use Rattle.study_index.specs.Decoded.{square_behind, square_behind_pawn}
use Rattle.study_moves.proofs.MenOfList.{IsAmong, some_among, same_square, found_among}
use Rattle.study_moves.proofs.NoMoveBetween.{HasMover-from_is_legal}
use Rattle.study_material.specs.declared.class.Class.{Class}
use Rattle.study_material.specs.Lists.{of, ordered_lists}
use Rattle.study_material.specs.Class.{lists_of, IsOf}
use Rattle.study_material.proofs.KindCounts.{many, many-IsPermutation, many_others, two_pawns}
use Rattle.study_material.proofs.MenBesideKings.{few_others}

-- a man of a side and a kind is counted
many-among : (side : Side) (k : Kind) (xs : List Man) (m : Man) → IsAmong m xs → is_man side k m ≡ true → 1 ≤ many side k xs
many-among side k [] m i e = absurd i
many-among side k (x ∷ xs) m (inl s) e = counted (is_man side k x) (ap (λ z. is_man side k z) s ∙ e)
  where
    counted : (b : Bool) → b ≡ true → 1 ≤ cond b (suc (many side k xs)) (many side k xs)
    counted true h = omega arith
    counted false h = absurd (false≢true h)
many-among side k (x ∷ xs) m (inr i) e = append_square (is_man side k x) (many-among side k xs m i e)
  where
    append_square : (b : Bool) → 1 ≤ many side k xs → 1 ≤ cond b (suc (many side k xs)) (many side k xs)
    append_square true h = omega arith
    append_square false h = h

many-has_man : (men : List Man) (side : Side) (k : Kind) (x : ℕ) → has_man men side k x ≡ true → 1 ≤ many side k men
unfolding has_man
many-has_man men side k x e =
    let r = some_among (λ m. is_man side k m && (m.at == x)) men e in
    many-among side k men r.0 r.1 (and_parts (is_man side k r.0) (r.0.at == x) r.2).0

-- the pawn that has just made a double step
jumped_pawn : (men : List Man) (side : Side) (x : ℕ) → could_be_passed men side x ≡ true → 1 ≤ many (other_side side) Pawn men
unfolding could_be_passed
jumped_pawn men White x e =
    many-has_man men Black Pawn (x - 8)
    (and_parts (rank_of x == 5 && is_empty men x && is_empty men (x + 8)) (has_man men Black Pawn (x - 8)) e).1
jumped_pawn men Black x e =
    many-has_man men White Pawn (x + 8)
    (and_parts (rank_of x == 2 && is_empty men x && is_empty men (x - 8)) (has_man men White Pawn (x + 8)) e).1

passing_pawn : (q : Option ℕ) (m : Man) (x : ℕ) → is_en_passant q m x ≡ true → is_pawn m ≡ true
unfolding is_en_passant
passing_pawn q m x e =
    (and_parts (is_pawn m) (not (file_of m.at == file_of x))
    (and_parts (is_pawn m && not (file_of m.at == file_of x)) (is_square q x) e).0).0

-- the pawn that captures on the passed square
capturing_pawn : (p : Position) (x : ℕ) → IsValid p → is_capturable_en_passant p (Some x) ≡ true → 1 ≤ many p.to_move Pawn p.men
capturing_pawn p x v e =
    let r = some_among (λ man. is_en_passant p.passed man x && is_legal p (record { origin = man.at; target = x; promoted = None })) p.men e in
    let man = r.0 in
    let move : Move = record { origin = man.at; target = x; promoted = None } in
    let parts = and_parts (is_en_passant p.passed man x) (is_legal p move) r.2 in
    let h = HasMover-from_is_legal p move parts.1 in
    let found = found_among p.men man.at h.man h.here in
    let same : h.man ≡ man = same_square p.men h.man man v.ordered found.0 r.1 found.1 in
    let mine : same_side man.side p.to_move ≡ true = subst (λ (m : Man). same_side m.side p.to_move ≡ true) same h.moves.mine in
    many-among p.to_move Pawn p.men man r.1 (and_from (same_side man.side p.to_move) (is_pawn man) mine (passing_pawn p.passed man x parts.0))

both_pawns : (men : List Man) (side : Side) → 1 ≤ many side Pawn men → 1 ≤ many (other_side side) Pawn men
    → (1 ≤ many White Pawn men) × (1 ≤ many Black Pawn men)
both_pawns men White a b = (a, b)
both_pawns men Black a b = (b, a)

-- if a capture in passing is legal each side has a pawn, and no other man beside its king
pub live_pawns : (p : Position) → IsValid p → has_legal_en_passant p ≡ true
    → (x : ℕ) × (p.passed ≡ Some x) × (could_be_passed p.men p.to_move x ≡ true) × (1 ≤ many White Pawn p.men) × (1 ≤ many Black Pawn p.men)
live_pawns p v taken = by_passed p.passed refl taken
  where
    at_square : (x : ℕ) → p.passed ≡ Some x → passed_possible p.men p.to_move (Some x) ≡ true → is_capturable_en_passant p (Some x) ≡ true
        → (y : ℕ) × (p.passed ≡ Some y) × (could_be_passed p.men p.to_move y ≡ true) × (1 ≤ many White Pawn p.men) × (1 ≤ many Black Pawn p.men)
    at_square x e possible taken =
        let both = both_pawns p.men p.to_move (capturing_pawn p x v taken) (jumped_pawn p.men p.to_move x possible) in
        (x, e, possible, both.0, both.1)

    by_passed : (q : Option ℕ) → p.passed ≡ q → is_capturable_en_passant p q ≡ true
        → (y : ℕ) × (p.passed ≡ Some y) × (could_be_passed p.men p.to_move y ≡ true) × (1 ≤ many White Pawn p.men) × (1 ≤ many Black Pawn p.men)
    by_passed None e t = absurd (false≢true t)
    by_passed (Some x) e t =
        at_square x e (subst (λ q. passed_possible p.men p.to_move q ≡ true) e (IsFaultless-from_first p.men p.to_move p.passed v.faultless).possible) t

-- the class is pawn against pawn
pub live_class : (c : Class) (p : Position) → IsValid p → IsOf c p → has_legal_en_passant p ≡ true → lists_of c ≡ of (Pawn ∷ []) (Pawn ∷ [])
live_class c p v o taken =
    let r = live_pawns p v taken in
    o ∙ ap (λ l. ordered_lists l) (two_pawns p.men (few_others p v) (r.3) (r.4))

-- the first pawn of a side is its only pawn
behind-one : (side : Side) (xs : List Man) (m : Man) → IsAmong m xs → is_man side Pawn m ≡ true
    → many side Pawn xs ≤ 1 → square_behind_pawn side xs ≡ Some (square_behind side m.at)
behind-one side [] m i e few = absurd i
behind-one side (x ∷ xs) m (inl s) e few = found (is_man side Pawn x) (ap (λ z. is_man side Pawn z) s ∙ e)
  where
    found : (b : Bool) → b ≡ true
        → option_map (λ y. square_behind side y.at) (cond b (Some x) (find (λ y. is_man side Pawn y) xs))
        ≡ Some (square_behind side m.at)
    found true h = ap (λ y. Some (square_behind side y.at)) s
    found false h = absurd (false≢true h)
behind-one side (x ∷ xs) m (inr i) e few = further (is_man side Pawn x) few (λ l. behind-one side xs m i e l)
  where
    further : (b : Bool) → cond b (suc (many side Pawn xs)) (many side Pawn xs) ≤ 1
        → (many side Pawn xs ≤ 1 → square_behind_pawn side xs ≡ Some (square_behind side m.at))
        → option_map (λ y. square_behind side y.at) (cond b (Some x) (find (λ y. is_man side Pawn y) xs)) ≡ Some (square_behind side m.at)
    further true l rest = absurd (let n = many-among side Pawn xs m i e in omega arith)
    further false l rest = rest l

-- a live passed square is the one behind the pawn of the side not to move
pub live_behind : (p : Position) (xs : List Man) → IsValid p → IsPermutation p.men xs → has_legal_en_passant p ≡ true
    → p.passed ≡ square_behind_pawn (other_side p.to_move) xs
unfolding has_man could_be_passed
live_behind p xs v same taken =
    let r = live_pawns p v taken in
    let white : many White Pawn xs ≤ 1 =
    (let a = many_others p.men in let f = few_others p v in
    let b = r.4 in omega (arith, a, f, b, many-IsPermutation White Pawn p.men xs same)) in
    let black : many Black Pawn xs ≤ 1 =
    (let a = many_others p.men in let f = few_others p v in
    let b = r.3 in omega (arith, a, f, b, many-IsPermutation Black Pawn p.men xs same)) in
    r.1 ∙ by_side p.to_move r.0 r.2 white black
  where
    among : (side : Side) (y : ℕ) → has_man p.men side Pawn y ≡ true → many side Pawn xs ≤ 1 → square_behind_pawn side xs ≡ Some (square_behind side y)
    among side y e few =
        let f : list_any (λ m. is_man side Pawn m && (m.at == y)) xs ≡ true =
        sym (list_any-IsPermutation (λ m. is_man side Pawn m && (m.at == y)) p.men xs same) ∙ e in
        let s = some_among (λ m. is_man side Pawn m && (m.at == y)) xs f in
        let both = and_parts (is_man side Pawn s.0) (s.0.at == y) s.2 in
        behind-one side xs s.0 s.1 both.0 few ∙ ap (λ z. Some (square_behind side z)) (eqb-true s.0.at y both.1)

    by_side : (side : Side) (x : ℕ) → could_be_passed p.men side x ≡ true → many White Pawn xs ≤ 1
        → many Black Pawn xs ≤ 1 → Some x ≡ square_behind_pawn (other_side side) xs
    by_side White x e white black =
        let front = (rank_of x == 5) && is_empty p.men x && is_empty p.men (x + 8) in
        let parts = and_parts front (has_man p.men Black Pawn (x - 8)) e in
        let rank : rank_of x ≡ 5 =
        eqb-true (rank_of x) 5
        (and_parts (rank_of x == 5) (is_empty p.men x)
        (and_parts (rank_of x == 5 && is_empty p.men x) (is_empty p.men (x + 8)) parts.0).0).0 in
        let back : x ≡ x - 8 + 8 = omega (arith, rank) in
        ap (λ z. Some z) back ∙ sym (among Black (x - 8) parts.1 black)
    by_side Black x e white black =
        let front = (rank_of x == 2) && is_empty p.men x && is_empty p.men (x - 8) in
        let parts = and_parts front (has_man p.men White Pawn (x + 8)) e in
        let back : x ≡ x + 8 - 8 = omega arith in
        ap (λ z. Some z) back ∙ sym (among White (x + 8) parts.1 white)

-- whether a position is live depends only on its bare form
live-bare : (p : Position) → has_legal_en_passant p ≡ is_some (without_idle_passed_square p).passed
live-bare p = by_live (has_legal_en_passant p) refl
  where
    some_passed : (q : Option ℕ) → is_capturable_en_passant p q ≡ true → is_some q ≡ true
    some_passed None e = absurd (false≢true e)
    some_passed (Some x) e = refl

    by_live : (b : Bool) → has_legal_en_passant p ≡ b → b ≡ is_some (cond b p (without_passed p)).passed
    by_live true e = sym (some_passed p.passed e)
    by_live false e = refl

-- a position that has an image as its bare form is live exactly if the image is
pub live_along : (s : Symmetry) (p q : Position) → without_idle_passed_square q ≡ image s (without_idle_passed_square p)
    → has_legal_en_passant q ≡ has_legal_en_passant p
live_along s p q e = live-bare q ∙ ap (λ (r : Position). is_some r.passed) e ∙ turned s (without_idle_passed_square p).passed ∙ sym (live-bare p)
  where
    turned : (s : Symmetry) (o : Option ℕ) → is_some (turned_passed s o) ≡ is_some o
    turned s None = refl
    turned s (Some x) = refl

-- the bare form is its own bare form
pub bare_twice : (p : Position) → without_idle_passed_square (without_idle_passed_square p) ≡ without_idle_passed_square p
bare_twice p = by_live (has_legal_en_passant p) refl
  where
    by_live : (b : Bool) → has_legal_en_passant p ≡ b → (let q : Position = cond b p (without_passed p) in without_idle_passed_square q ≡ q)
    by_live true e = rw e refl
    by_live false e = refl

pub live_bare : (p : Position) → has_legal_en_passant (without_idle_passed_square p) ≡ has_legal_en_passant p
live_bare p = live-bare (without_idle_passed_square p) ∙ ap (λ (r : Position). is_some r.passed) (bare_twice p) ∙ sym (live-bare p)

-- a position that is its own bare form and is not live has no passed square
pub not_live_passed : (p : Position) → without_idle_passed_square p ≡ p → has_legal_en_passant p ≡ false → p.passed ≡ None
not_live_passed p e f = sym (ap (λ (r : Position). r.passed) e) ∙ by_live (has_legal_en_passant p) f
  where
    by_live : (b : Bool) → b ≡ false → (cond b p (without_passed p)).passed ≡ None
    by_live true h = absurd (false≢true (sym h))
    by_live false h = refl
