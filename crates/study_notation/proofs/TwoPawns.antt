-- Two pawns of one side that advance to the same square, or capture there from the same file, are the same pawn.
use Rattle.std.proofs.Common.{◌≡◌, ℕ, ◌+◌, ◌==◌, true, false, ◌&&◌, ◌||◌, ◌⊎◌, inl, inr, List, Option, refl, sym, ◌∙◌, subst, arith}
use Rattle.std.proofs.lemmas.Bool.{false≢true, and_parts, and_from, or_left, or_right, or_cases, or_from}
use Rattle.std.proofs.lemmas.Bool.{eqb-true, eq-eqb, ne_eqb, not-true, not_from_false, false_from_ne_true}
use Rattle.study_board.specs.declared.men.Man.{Man}
use Rattle.study_board.specs.declared.men.Side.{Side}
use Rattle.study_board.specs.declared.men.Side.TheVariants.{White, Black}
use Rattle.study_board.specs.Geometry.{file_of, rank_of, files_apart}
use Rattle.study_board.specs.Men.{same_side, other_side, pawn_captures, is_pawn}
use Rattle.study_board.specs.Position.{Position, is_occupied, is_empty}
use Rattle.study_moves.specs.Rules.{has_side, is_square, is_ahead, starting_rank, half_way, pawn_steps}
use Rattle.study_moves.specs.Rules.{pawn_double_steps, pawn_takes, reaches_target, is_en_passant}
use Rattle.study_moves.proofs.HowMenGo.{IsAheadBy, IsStep, IsDoubleStep, IsCapture, pawn_ways}
use Rattle.study_moves.proofs.MenOfList.{IsAmong, list_any-from, some_among}
use Rattle.study_moves.specs.LegalList.{is_capture}

occupied_by : (men : List Man) (m : Man) → IsAmong m men → is_occupied men m.at ≡ true
unfolding is_occupied
occupied_by men m i = list_any-from (λ y. y.at == m.at) men m i (eq-eqb m.at m.at refl)

occupied_by_side : (men : List Man) (s : Side) (x : ℕ) → has_side men s x ≡ true → is_occupied men x ≡ true
unfolding has_side is_occupied
occupied_by_side men s x e =
    let r = some_among (λ m. same_side m.side s && (m.at == x)) men e in
    list_any-from (λ y. y.at == x) men r.0 r.1 (and_parts (same_side r.0.side s) (r.0.at == x) r.2).1

not_passing : (q : Option ℕ) (man : Man) (x : ℕ) → file_of x ≡ file_of man.at → is_en_passant q man x ≡ false
unfolding is_en_passant
not_passing q man x e =
    rw (eq-eqb (file_of man.at) (file_of x) (sym e))
    (false_from_ne_true ((is_pawn man && false) && is_square q x)
    (λ t. false≢true (and_parts (is_pawn man) false (and_parts (is_pawn man && false) (is_square q x) t).0).1))

passing : (q : Option ℕ) (man : Man) (x : ℕ) → is_pawn man ≡ true → (file_of man.at ≡ file_of x → ⊥) → is_square q x ≡ true → is_en_passant q man x ≡ true
unfolding is_en_passant
passing q man x pawn aside e = and_from _ _ (and_from _ _ pawn (not_from_false _ (ne_eqb (file_of man.at) (file_of x) aside))) e

no_capture : (p : Position) (man : Man) (x : ℕ) → file_of x ≡ file_of man.at → is_empty p.men x ≡ true → is_capture p man x ≡ false
unfolding is_capture
no_capture p man x file empty =
    or_from (is_occupied p.men x) (is_en_passant p.passed man x) (not-true (is_occupied p.men x) empty)
    (not_passing p.passed man x file)

-- the pawn advances on its file
abbrev pub Advances : List Man → Side → ℕ → ℕ → Type 0
Advances men side a x = IsStep men side a x ⊎ IsDoubleStep men side a x

aside : (a x : ℕ) → files_apart a x ≡ 1 → file_of a ≡ file_of x → ⊥
aside a x e same = let k : files_apart a x ≡ 0 = omega (arith, same) in absurd (omega arith)

steps_ahead : (men : List Man) (side : Side) (a x : ℕ) → (pawn_steps men side a x || pawn_double_steps men side a x) ≡ true → file_of x ≡ file_of a
unfolding pawn_steps pawn_double_steps
steps_ahead men side a x e = elim (or_cases (pawn_steps men side a x) (pawn_double_steps men side a x) e) [
  | inl h ↦ file side 1 (and_parts (is_ahead side 1 a x) (is_empty men x) h).0
  | inr h ↦ file side 2 (and_parts (rank_of a == starting_rank side) (is_ahead side 2 a x) (and_parts _ _ (and_parts _ (is_empty men x) h).0).0).1
]
  where
    file : (s : Side) (n : ℕ) → is_ahead s n a x ≡ true → file_of x ≡ file_of a
    file White n h = eqb-true _ _ (and_parts (file_of x == file_of a) (rank_of x == rank_of a + n) h).0
    file Black n h = eqb-true _ _ (and_parts (file_of x == file_of a) (rank_of x + n == rank_of a) h).0

capture_takes : (p : Position) (man : Man) (x : ℕ) → is_pawn man ≡ true → reaches_target p.men p.passed man x ≡ true → files_apart man.at x ≡ 1
    → is_capture p man x ≡ true
unfolding reaches_target is_capture pawn_takes
capture_takes p man x pawn e files =
    let a = pawn_steps p.men man.side man.at x || pawn_double_steps p.men man.side man.at x in
    let other = aside man.at x files in
    elim (or_cases a (pawn_takes p.men p.passed man.side man.at x) (rw pawn at e)) [
      | inl ahead ↦ absurd (other (sym (steps_ahead p.men man.side man.at x ahead)))
      | inr captures ↦ elim (or_cases (has_side p.men (other_side man.side) x) (is_square p.passed x)
          (and_parts (pawn_captures man.side man.at x)
          (has_side p.men (other_side man.side) x || is_square p.passed x) captures).1) [
            | inl enemy ↦ or_left (is_occupied p.men x) (is_en_passant p.passed man x) (occupied_by_side p.men (other_side man.side) x enemy)
            | inr passed ↦ or_right (is_occupied p.men x) (is_en_passant p.passed man x) (passing p.passed man x pawn other passed)
          ]
    ]

-- a pawn's move advances, or is a capture
pub advances_or_captures : (p : Position) (man : Man) (x : ℕ) → is_pawn man ≡ true → reaches_target p.men p.passed man x ≡ true
    → ((is_capture p man x ≡ false) × Advances p.men man.side man.at x) ⊎ ((is_capture p man x ≡ true) × IsCapture man.side man.at x)
advances_or_captures p man x pawn e = elim (pawn_ways p.men p.passed man x pawn e) [
  | inl s ↦ inl (no_capture p man x s.file s.empty, inl s)
  | inr r ↦ elim r [
    | inl d ↦ inl (no_capture p man x d.file d.empty, inr d)
    | inr c ↦ inr (capture_takes p man x pawn e c.files, c)
  ]
]

same_square_by : (a b : ℕ) → file_of a ≡ file_of b → rank_of a ≡ rank_of b → a ≡ b
same_square_by a b f r = omega arith

ahead_same : (s : Side) (n a b x : ℕ) → IsAheadBy s n a x → IsAheadBy s n b x → rank_of a ≡ rank_of b
ahead_same White n a b x h k = omega (arith, h, k)
ahead_same Black n a b x h k = omega (arith, h, k)

-- a pawn one square behind x is passed over in a double step to x
stands_between : (s : Side) (a b x : ℕ) → file_of x ≡ file_of a → file_of x ≡ file_of b → IsAheadBy s 1 a x → IsAheadBy s 2 b x → half_way b x ≡ a
stands_between White a b x f g h k = omega (arith, f, g, h, k)
stands_between Black a b x f g h k = omega (arith, f, g, h, k)

not_between : (men : List Man) (s : Side) (m : Man) (b x : ℕ) → IsAmong m men → IsStep men s m.at x → IsDoubleStep men s b x → ⊥
not_between men s m b x i step double =
    let e = stands_between s m.at b x step.file double.file step.ahead double.ahead in
    let over : is_empty men m.at ≡ true = subst (λ z. is_empty men z ≡ true) e double.over in
    false≢true (sym (not-true (is_occupied men m.at) over) ∙ occupied_by men m i)

pub same_advance : (men : List Man) (s : Side) (m n : Man) (x : ℕ) → IsAmong m men → IsAmong n men → Advances men s m.at x → Advances men s n.at x → m.at ≡ n.at
same_advance men s m n x i j (inl a) (inl b) = same_square_by m.at n.at (sym a.file ∙ b.file) (ahead_same s 1 m.at n.at x a.ahead b.ahead)
same_advance men s m n x i j (inl a) (inr b) = absurd (not_between men s m n.at x i a b)
same_advance men s m n x i j (inr a) (inl b) = absurd (not_between men s n m.at x j b a)
same_advance men s m n x i j (inr a) (inr b) = same_square_by m.at n.at (sym a.file ∙ b.file) (ahead_same s 2 m.at n.at x a.ahead b.ahead)

pub same_capture : (s : Side) (a b x : ℕ) → IsCapture s a x → IsCapture s b x → file_of a ≡ file_of b → a ≡ b
same_capture s a b x h k f = same_square_by a b f (ahead_same s 1 a b x h.ahead k.ahead)
