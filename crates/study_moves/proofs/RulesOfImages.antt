-- The rules agree on the image of a position.
use Rattle.std.proofs.Common.{◌≡◌, ℕ, ◌+◌, ◌-◌, ◌*◌, ◌<◌, ◌==◌, eqb, nat_lt, Bool, true, false}
use Rattle.std.proofs.Common.{not, cond, ◌&&◌, ◌||◌, ◌⊎◌, inl, inr, List, [], ◌∷◌, Option, Some}
use Rattle.std.proofs.Common.{None, unwrap_or, refl, sym, ◌∙◌, ap, arith, subst}
use Rattle.std.specs.List.{list_any, filter}
use Rattle.std.specs.Option.{option_map_or, option_map}
use Rattle.std.proofs.lemmas.Bool.{false≢true, and_parts}
use Rattle.std.proofs.lemmas.Bool.Decides.{nat_tests}
use Rattle.study_board.specs.declared.men.Man.{Man}
use Rattle.study_board.specs.declared.men.Side.{Side}
use Rattle.study_board.specs.declared.men.Side.TheVariants.{White, Black}
use Rattle.study_board.specs.declared.men.Kind.{Kind}
use Rattle.study_board.specs.declared.men.Kind.TheVariants.{King, Queen, Rook, Bishop, Knight, Pawn}
use Rattle.study_board.specs.declared.symmetry.Symmetry.{Symmetry}
use Rattle.study_board.specs.Geometry.{file_of, rank_of, ranks_apart, files_apart}
use Rattle.study_board.specs.Men.{same_side, other_side, same_kind, pawn_captures, is_rank_ahead, attacks_square, is_pawn}
use Rattle.study_board.specs.Position.{Position, is_empty, in_check, man_at}
use Rattle.study_board.specs.Symmetry.{mirror_if, turned_square, turned_side, turned_man, turned_men, turned_passed, image}
use Rattle.study_board.proofs.Coordinates.{and_under, eqb_then, KeepsPawns, eqb-mirror_if, file_small}
use Rattle.study_board.proofs.Coordinates.{rank_small, file_of-kept, rank_of-kept, ranks_apart-kept}
use Rattle.study_board.proofs.Coordinates.{kept_at, kept_square, turned_small, turned_apart, same_side-turned}
use Rattle.study_board.proofs.Coordinates.{other_side-turned, pawn_captures-turned}
use Rattle.study_board.proofs.ImagesValid.{Each, Each-filter, Each-insert_man, IsSeated, any_turned}
use Rattle.study_board.proofs.ImagesValid.{filter_turned, placed_turned, man_at_turned, bears_on-turned}
use Rattle.study_board.proofs.ImagesValid.{is_occupied-turned, in_check-turned}
use Rattle.study_board.proofs.Ascending.{IsAscending-filter, IsAscending-insert_man}
use Rattle.study_board.proofs.ImagesOfImages.{IsOnBoard, IsTurnable}
use Rattle.study_moves.specs.declared.moves.Move.{Move}
use Rattle.study_moves.specs.Rules.{has_side, is_square, is_ahead, starting_rank, last_rank, half_way}
use Rattle.study_moves.specs.Rules.{pawn_steps, pawn_double_steps, pawn_takes, reaches_target, is_promotion_piece}
use Rattle.study_moves.specs.Rules.{is_promotion_choice, reaches_last_rank, is_en_passant, survives, moved_man, men_after}
use Rattle.study_moves.specs.Rules.{is_pseudo_legal, is_legal_for, is_legal, passed_by, after_by, after}
use Rattle.study_moves.specs.Symmetry.{image_move}
use Rattle.study_moves.specs.Game.{IsLegal}
use Rattle.study_moves.proofs.NoMoveBetween.{HasMover, HasMover-from_is_legal}

pub cond_under : {X : Type 0} (b : Bool) (u u' v v' : X) → (b ≡ true → u' ≡ u) → (b ≡ false → v' ≡ v) → cond b u' v' ≡ cond b u v
cond_under true u u' v v' f g = f refl
cond_under false u u' v v' f g = g refl

pub or_cases : (a b : Bool) → (a || b) ≡ true → (a ≡ true) ⊎ (b ≡ true)
or_cases true b e = inl refl
or_cases false b e = inr e

ahead_ranks : (c : Bool) (side : Side) (n a x ra rx : ℕ) (u : Bool) → rank_of a < 8 → rank_of x < 8
    → rank_of ra ≡ mirror_if c (rank_of a) → rank_of rx ≡ mirror_if c (rank_of x)
    → eqb (file_of rx) (file_of ra) ≡ eqb (file_of x) (file_of a)
    → is_ahead (turned_side c side) n ra rx ≡ is_ahead side n a x
ahead_ranks true White n a x a' x' u ha hx ea ex ef = rw (ef, ea, ex, mirror_ahead (rank_of a) (rank_of x) ha hx)
  where
    mirror_ahead : (a x : ℕ) → a < 8 → x < 8 → eqb (7 - x + n) (7 - a) ≡ eqb x (a + n)
    mirror_ahead a x h k = grind (arith, nat_tests)
ahead_ranks true Black n a x a' x' u ha hx ea ex ef = rw (ef, ea, ex, mirror_ahead (rank_of a) (rank_of x) ha hx)
  where
    mirror_ahead : (a x : ℕ) → a < 8 → x < 8 → eqb (7 - x) (7 - a + n) ≡ eqb (x + n) a
    mirror_ahead a x h k = grind (arith, nat_tests)
ahead_ranks false White n a x a' x' u ha hx ea ex ef = rw (ef, ea, ex)
ahead_ranks false Black n a x a' x' u ha hx ea ex ef = rw (ef, ea, ex)

starting_rank-turned : (c : Bool) (side : Side) (n : ℕ) → n < 8 → eqb (mirror_if c n) (starting_rank (turned_side c side)) ≡ eqb n (starting_rank side)
starting_rank-turned true White n h = mirror_rank n h
  where
    mirror_rank : (n : ℕ) → n < 8 → eqb (7 - n) 6 ≡ eqb n 1
    mirror_rank n h = grind (arith, nat_tests)
starting_rank-turned true Black n h = mirror_rank n h
  where
    mirror_rank : (n : ℕ) → n < 8 → eqb (7 - n) 1 ≡ eqb n 6
    mirror_rank n h = grind (arith, nat_tests)
starting_rank-turned false side n h = refl

last_rank-turned : (c : Bool) (side : Side) (n : ℕ) → n < 8 → eqb (mirror_if c n) (last_rank (turned_side c side)) ≡ eqb n (last_rank side)
last_rank-turned true White n h = mirror_rank n h
  where
    mirror_rank : (n : ℕ) → n < 8 → eqb (7 - n) 0 ≡ eqb n 7
    mirror_rank n h = grind (arith, nat_tests)
last_rank-turned true Black n h = mirror_rank n h
  where
    mirror_rank : (n : ℕ) → n < 8 → eqb (7 - n) 7 ≡ eqb n 0
    mirror_rank n h = grind (arith, nat_tests)
last_rank-turned false side n h = refl

-- two ranks along a file
pub record IsDouble (a x : ℕ) : Type 0 where
  pub file : file_of x ≡ file_of a
  pub ranks : ranks_apart a x ≡ 2

half_kept : (c b : Bool) (a x : ℕ) → a < 64 → x < 64 → IsDouble a x → half_way (kept_at c b a) (kept_at c b x) ≡ kept_at c b (half_way a x)
unfolding kept_at
half_kept true true a x la lx d = omega (arith, d.file, d.ranks)
half_kept true false a x la lx d = omega (arith, d.file, d.ranks)
half_kept false true a x la lx d = omega (arith, d.file, d.ranks)
half_kept false false a x la lx d = omega (arith, d.file, d.ranks)

half_small : (a x : ℕ) → a < 64 → x < 64 → half_way a x < 64
half_small a x la lx = omega arith

corner_kept : (c b : Bool) (a x : ℕ) → a < 64 → x < 64 → 8 * rank_of (kept_at c b a) + file_of (kept_at c b x) ≡ kept_at c b (8 * rank_of a + file_of x)
unfolding kept_at
corner_kept true true a x la lx = omega arith
corner_kept true false a x la lx = omega arith
corner_kept false true a x la lx = omega arith
corner_kept false false a x la lx = omega arith

corner_small : (a x : ℕ) → a < 64 → x < 64 → 8 * rank_of a + file_of x < 64
corner_small a x la lx = omega arith

IsDouble-from_ahead : (side : Side) (a x : ℕ) → is_ahead side 2 a x ≡ true → IsDouble a x
IsDouble-from_ahead White a x e =
    let h = and_parts _ _ e in let f = eqb_then (file_of x) (file_of a) h.0 in let r = eqb_then (rank_of x) (rank_of a + 2) h.1 in
    record { file = f; ranks = omega arith }
IsDouble-from_ahead Black a x e =
    let h = and_parts _ _ e in let f = eqb_then (file_of x) (file_of a) h.0 in let r = eqb_then (rank_of x + 2) (rank_of a) h.1 in
    record { file = f; ranks = omega arith }

not_two-from_ahead : (side : Side) (a x : ℕ) → is_ahead side 1 a x ≡ true → ranks_apart a x ≡ 2 → ⊥
not_two-from_ahead White a x e t = let r = eqb_then (rank_of x) (rank_of a + 1) (and_parts _ _ e).1 in omega arith
not_two-from_ahead Black a x e t = let r = eqb_then (rank_of x + 1) (rank_of a) (and_parts _ _ e).1 in omega arith

not_two-from_capture : (side : Side) (a x : ℕ) → is_rank_ahead side a x ≡ true → ranks_apart a x ≡ 2 → ⊥
not_two-from_capture White a x e t = let r = eqb_then (rank_of x) (rank_of a + 1) e in omega arith
not_two-from_capture Black a x e t = let r = eqb_then (rank_of x + 1) (rank_of a) e in omega arith

-- a pawn that goes two ranks goes along its file
pub IsDouble-from_goes : (men : List Man) (q : Option ℕ) (m : Man) (x : ℕ) → reaches_target men q m x ≡ true → is_pawn m ≡ true → ranks_apart m.at x ≡ 2
    → IsDouble m.at x
unfolding reaches_target pawn_steps pawn_double_steps pawn_takes pawn_captures
IsDouble-from_goes men q m x g k t =
    let e : (pawn_steps men m.side m.at x || pawn_double_steps men m.side m.at x || pawn_takes men q m.side m.at x) ≡ true = rw k at g in
    elim (or_cases (pawn_steps men m.side m.at x || pawn_double_steps men m.side m.at x) (pawn_takes men q m.side m.at x) e) [
      | inl f ↦ elim (or_cases (pawn_steps men m.side m.at x) (pawn_double_steps men m.side m.at x) f) [
        | inl a ↦ absurd (not_two-from_ahead m.side m.at x (and_parts (is_ahead m.side 1 m.at x) (is_empty men x) a).0 t)
        | inr b ↦ IsDouble-from_ahead m.side m.at x
            (and_parts (eqb (rank_of m.at) (starting_rank m.side)) (is_ahead m.side 2 m.at x)
            (and_parts (eqb (rank_of m.at) (starting_rank m.side) && is_ahead m.side 2 m.at x)
            (is_empty men (half_way m.at x))
            (and_parts (eqb (rank_of m.at) (starting_rank m.side) && is_ahead m.side 2 m.at x && is_empty men
            (half_way m.at x)) (is_empty men x) b).0).0).1
      ]
      | inr c ↦ absurd
          (not_two-from_capture m.side m.at x
          (and_parts (files_apart m.at x == 1) (is_rank_ahead m.side m.at x)
          (and_parts (files_apart m.at x == 1 && is_rank_ahead m.side m.at x)
          (has_side men (other_side m.side) x || is_square q x) c).0).1 t)
    ]

module _ (s : Symmetry) where
  is_square-turned : (q : Option ℕ) → IsOnBoard q → (x : ℕ) → x < 64 → is_square (turned_passed s q) (turned_square s x) ≡ is_square q x
  is_square-turned None h x lx = refl
  is_square-turned (Some y) h x lx = turned_apart s y x h lx

  -- symmetries under which pawns move as pawns
  module _ (keeps : KeepsPawns s) where
    file_same-turned : (a x : ℕ) → a < 64 → x < 64 → eqb (file_of (turned_square s x)) (file_of (turned_square s a)) ≡ eqb (file_of x) (file_of a)
    file_same-turned a x la lx =
        rw (file_of-kept s keeps a la, file_of-kept s keeps x lx)
        (eqb-mirror_if s.files (file_of x) (file_of a) (file_small x) (file_small a))

    is_ahead-turned : (side : Side) (n a x : ℕ) → a < 64 → x < 64
        → is_ahead (turned_side s.colours side) n (turned_square s a) (turned_square s x) ≡ is_ahead side n a x
    is_ahead-turned side n a x la lx = ahead_ranks s.colours side n a x (turned_square s a) (turned_square s x) true
        (rank_small a la) (rank_small x lx) (rank_of-kept s keeps a la) (rank_of-kept s keeps x lx)
        (file_same-turned a x la lx)

    half_way-turned : (a x : ℕ) → a < 64 → x < 64 → IsDouble a x → half_way (turned_square s a) (turned_square s x) ≡ turned_square s (half_way a x)
    half_way-turned a x la lx d =
        rw (kept_square s keeps a, kept_square s keeps x, kept_square s keeps (half_way a x))
        (half_kept s.colours s.files a x la lx d)

    corner-turned : (a x : ℕ) → a < 64 → x < 64 → 8 * rank_of (turned_square s a) + file_of (turned_square s x) ≡ turned_square s (8 * rank_of a + file_of x)
    corner-turned a x la lx =
        rw (kept_square s keeps a, kept_square s keeps x, kept_square s keeps (8 * rank_of a + file_of x))
        (corner_kept s.colours s.files a x la lx)

  module _ (xs : List Man) (h : Each (IsSeated s) xs) where
    has_side-turned : (side : Side) (x : ℕ) → x < 64 → has_side (turned_men s xs) (turned_side s.colours side) (turned_square s x) ≡ has_side xs side x
    unfolding has_side
    has_side-turned side x lx =
        any_turned s _ (λ m. same_side m.side side && (m.at == x))
        (λ m k. rw (same_side-turned s.colours m.side side, turned_apart s m.at x k.on lx)) xs h

    module _ (keeps : KeepsPawns s) (side : Side) (a x : ℕ) (la : a < 64) (lx : x < 64) where
      pawn_steps-turned : pawn_steps (turned_men s xs) (turned_side s.colours side) (turned_square s a) (turned_square s x) ≡ pawn_steps xs side a x
      unfolding pawn_steps
      pawn_steps-turned = rw (is_ahead-turned keeps side 1 a x la lx, is_occupied-turned s xs h x lx)

      pawn_double_steps-turned : pawn_double_steps (turned_men s xs) (turned_side s.colours side)
          (turned_square s a) (turned_square s x) ≡ pawn_double_steps xs side a x
      unfolding pawn_double_steps
      pawn_double_steps-turned =
          let start : eqb (rank_of (turned_square s a)) (starting_rank (turned_side s.colours side)) ≡ eqb (rank_of a) (starting_rank side) =
          ap (λ r. eqb r (starting_rank (turned_side s.colours side))) (rank_of-kept s keeps a la)
          ∙ starting_rank-turned s.colours side (rank_of a) (rank_small a la) in
          let reaches_target : (eqb (rank_of (turned_square s a)) (starting_rank (turned_side s.colours side)) && is_ahead
          (turned_side s.colours side) 2 (turned_square s a) (turned_square s x))
          ≡ (eqb (rank_of a) (starting_rank side) && is_ahead side 2 a x) =
          rw (start, is_ahead-turned keeps side 2 a x la lx) in
          let over : (eqb (rank_of (turned_square s a)) (starting_rank (turned_side s.colours side)) && is_ahead
          (turned_side s.colours side) 2 (turned_square s a) (turned_square s x) && is_empty (turned_men s xs)
          (half_way (turned_square s a) (turned_square s x)))
          ≡ (eqb (rank_of a) (starting_rank side) && is_ahead side 2 a x && is_empty xs (half_way a x)) =
          and_under (eqb (rank_of a) (starting_rank side) && is_ahead side 2 a x) _ (is_empty xs (half_way a x))
          (is_empty (turned_men s xs) (half_way (turned_square s a) (turned_square s x))) reaches_target
          (λ e. rw (
            half_way-turned keeps a x la lx
                (IsDouble-from_ahead side a x
                (and_parts (eqb (rank_of a) (starting_rank side)) (is_ahead side 2 a x) e).1),
            is_occupied-turned s xs h (half_way a x) (half_small a x la lx),
          )) in
          rw (over, is_occupied-turned s xs h x lx)

      pawn_takes-turned : (q : Option ℕ) → IsOnBoard q
          → pawn_takes (turned_men s xs) (turned_passed s q) (turned_side s.colours side) (turned_square s a)
          (turned_square s x) ≡ pawn_takes xs q side a x
      unfolding pawn_takes
      pawn_takes-turned q hq =
          rw (
            pawn_captures-turned s keeps side a x la lx,
            other_side-turned s.colours side,
            has_side-turned (other_side side) x lx,
            is_square-turned q hq x lx,
          )

    goes-turned : (q : Option ℕ) → IsOnBoard q → (m : Man) → IsSeated s m → (x : ℕ) → x < 64
        → reaches_target (turned_men s xs) (turned_passed s q) (turned_man s m) (turned_square s x) ≡ reaches_target xs q m x
    unfolding reaches_target
    goes-turned q hq m k x lx =
        cond_under (is_pawn m) (pawn_steps xs m.side m.at x || pawn_double_steps xs m.side m.at x || pawn_takes xs q m.side m.at x) _ (attacks_square xs m x) _
        (λ e. rw (
          pawn_steps-turned (k.pawn e) m.side m.at x k.on lx,
          pawn_double_steps-turned (k.pawn e) m.side
              m.at x k.on lx,
          pawn_takes-turned (k.pawn e) m.side m.at x k.on lx q hq,
        ))
        (λ _. bears_on-turned s xs h m x k lx)

  reaches_last_rank-turned : (m : Man) → IsSeated s m → (x : ℕ) → x < 64 → reaches_last_rank (turned_man s m) (turned_square s x) ≡ reaches_last_rank m x
  reaches_last_rank-turned m k x lx =
      and_under (is_pawn m) (is_pawn m) (eqb (rank_of x) (last_rank m.side)) (eqb (rank_of (turned_square s x)) (last_rank (turned_side s.colours m.side))) refl
      (λ e. rw (rank_of-kept s (k.pawn e) x lx) (last_rank-turned s.colours m.side (rank_of x) (rank_small x lx)))

  pub is_en_passant-turned : (q : Option ℕ) → IsOnBoard q → (m : Man) → IsSeated s m → (x : ℕ) → x < 64
      → is_en_passant (turned_passed s q) (turned_man s m) (turned_square s x) ≡ is_en_passant q m x
  unfolding is_en_passant
  is_en_passant-turned q hq m k x lx =
      let aside : (is_pawn m && not (eqb (file_of (turned_square s m.at)) (file_of (turned_square s x))))
      ≡ (is_pawn m && not (eqb (file_of m.at) (file_of x))) =
      and_under (is_pawn m) (is_pawn m) (not (eqb (file_of m.at) (file_of x))) (not (eqb (file_of (turned_square s m.at)) (file_of (turned_square s x)))) refl
      (λ e. rw (file_same-turned (k.pawn e) x m.at lx k.on)) in
      rw (aside, is_square-turned q hq x lx)

  pawn_of : (q : Option ℕ) (man : Man) (x : ℕ) → is_en_passant q man x ≡ true → is_pawn man ≡ true
  unfolding is_en_passant
  pawn_of q man x e = (and_parts _ _ (and_parts _ _ e).0).0

  stays-turned : (q : Option ℕ) → IsOnBoard q → (man : Man) → IsSeated s man → (x : ℕ) → x < 64 → (m : Man)
      → IsSeated s m → survives (turned_passed s q) (turned_man s man) (turned_square s x) (turned_man s m)
      ≡ survives q man x m
  unfolding survives
  stays-turned q hq man k x lx m l =
      let taken : (is_en_passant (turned_passed s q) (turned_man s man) (turned_square s x) && eqb
      (turned_square s m.at) (8 * rank_of (turned_square s man.at) + file_of (turned_square s x)))
      ≡ (is_en_passant q man x && eqb m.at (8 * rank_of man.at + file_of x)) =
      and_under (is_en_passant q man x) _ (eqb m.at (8 * rank_of man.at + file_of x))
      (eqb (turned_square s m.at) (8 * rank_of (turned_square s man.at) + file_of (turned_square s x)))
      (is_en_passant-turned q hq man k x lx)
      (λ e. rw (corner-turned (k.pawn (pawn_of q man x e)) man.at x k.on lx)
      (turned_apart s m.at (8 * rank_of man.at + file_of x) l.on (corner_small man.at x k.on lx))) in
      rw (turned_apart s m.at man.at l.on k.on, turned_apart s m.at x l.on lx, taken)

-- the form of a move: a man of the mover goes
pub record IsGoing (p : Position) (man : Man) (m : Move) : Type 0 where
  pub reaches_target : reaches_target p.men p.passed man m.target ≡ true
  pub choice : is_promotion_choice (reaches_last_rank man m.target) m.promoted ≡ true

IsGoing-from : (p : Position) (man : Man) (m : Move) → is_pseudo_legal p man m ≡ true → IsGoing p man m
unfolding is_pseudo_legal
IsGoing-from p man m e =
    let b = and_parts _ _ e in let c = and_parts _ _ b.0 in let d = and_parts _ _ c.0 in record { reaches_target = d.1; choice = b.1 }

-- a promoted man is not a pawn
pub moved_pawn : (man : Man) (m : Move) (b : Bool) → is_promotion_choice b m.promoted ≡ true → is_pawn (moved_man man m) ≡ true → is_pawn man ≡ true
moved_pawn man m b e k = by_choice b m.promoted e k
  where
    no_officer : (k : Kind) → is_promotion_piece k ≡ true → same_kind k Pawn ≡ true → ⊥
    no_officer King e k = false≢true e
    no_officer Queen e k = false≢true k
    no_officer Rook e k = false≢true k
    no_officer Bishop e k = false≢true k
    no_officer Knight e k = false≢true k
    no_officer Pawn e k = false≢true e

    by_choice : (b : Bool) (o : Option Kind) → is_promotion_choice b o ≡ true → same_kind (unwrap_or o man.kind) Pawn ≡ true → same_kind man.kind Pawn ≡ true
    by_choice b None e k = k
    by_choice true (Some n) e k = absurd (no_officer n e k)
    by_choice false (Some n) e k = absurd (false≢true e)

no_third : (u w : Bool) → (u && false && w) ≡ false
no_third true w = refl
no_third false w = refl

pub no_one_on_target : (q : Option ℕ) (man : Man) (x : ℕ) (xs : List Man) → list_any (λ y. y.at == x) (filter (survives q man x) xs) ≡ false
unfolding survives
no_one_on_target q man x [] = refl
no_one_on_target q man x (y ∷ ys) =
    kept (not (y.at == man.at)) (y.at == x) (not (is_en_passant q man x && (y.at == 8 * rank_of man.at + file_of x))) refl (no_one_on_target q man x ys)
  where
    kept : (u v w : Bool) → (y.at == x) ≡ v → list_any (λ z. z.at == x) (filter (survives q man x) ys) ≡ false
        → list_any (λ z. z.at == x) (cond (u && not v && w) (y ∷ filter (survives q man x) ys) (filter (survives q man x) ys)) ≡ false
    kept u true w e rest = rw (no_third u w) rest
    kept true false true e rest = rw e rest
    kept true false false e rest = rest
    kept false false w e rest = rest

module _ (s : Symmetry) (p : Position) (turn : IsTurnable s p) where
  module _ (man : Man) (seat : IsSeated s man) (m : Move) (lt : m.target < 64) where
    is_pseudo_legal-turned : is_pseudo_legal (image s p) (turned_man s man) (image_move s m) ≡ is_pseudo_legal p man m
    unfolding is_pseudo_legal
    is_pseudo_legal-turned =
        rw (
          same_side-turned s.colours man.side p.to_move,
          goes-turned s p.men turn.seats p.passed turn.passed man seat m.target lt,
          has_side-turned s p.men turn.seats p.to_move m.target lt,
          reaches_last_rank-turned s man seat m.target lt,
        )

    stay_seats : Each (IsSeated s) (filter (survives p.passed man m.target) p.men)
    stay_seats = Each-filter (IsSeated s) (survives p.passed man m.target) p.men turn.seats

    men_after-turned : men_after (image s p) (turned_man s man) (image_move s m) ≡ turned_men s (men_after p man m)
    unfolding men_after
    men_after-turned =
        rw (filter_turned s (survives (turned_passed s p.passed) (turned_man s man) (turned_square s m.target)) (survives p.passed man m.target)
        (λ y l. stays-turned s p.passed turn.passed man seat m.target lt y l) p.men turn.seats)
        (sym (placed_turned s (moved_man man m) lt (filter (survives p.passed man m.target) p.men) stay_seats (no_one_on_target p.passed man m.target p.men)))

    men_after_seats : IsGoing p man m → Each (IsSeated s) (men_after p man m)
    unfolding men_after
    men_after_seats g =
        Each-insert_man (IsSeated s) (moved_man man m) (filter (survives p.passed man m.target) p.men)
        (record { on = lt; pawn = λ k. seat.pawn (moved_pawn man m (reaches_last_rank man m.target) g.choice k) }) stay_seats

    is_legal_for-turned : is_legal_for (image s p) (turned_man s man) (image_move s m) ≡ is_legal_for p man m
    unfolding is_legal_for
    is_legal_for-turned =
        and_under (is_pseudo_legal p man m) (is_pseudo_legal (image s p) (turned_man s man) (image_move s m)) (not (in_check (men_after p man m) p.to_move))
        (not (in_check (men_after (image s p) (turned_man s man) (image_move s m)) (turned_side s.colours p.to_move))) is_pseudo_legal-turned
        (λ e. rw (men_after-turned, in_check-turned s (men_after p man m) (men_after_seats (IsGoing-from p man m e)) p.to_move))

    -- the square that is passed in a double step
    jumped-turned : IsGoing p man m → passed_by (turned_man s man) (turned_square s m.target) ≡ turned_passed s (passed_by man m.target)
    jumped-turned g =
        let two : (is_pawn man && eqb (ranks_apart (turned_square s man.at) (turned_square s m.target)) 2)
        ≡ (is_pawn man && eqb (ranks_apart man.at m.target) 2) =
        and_under (is_pawn man) (is_pawn man) (eqb (ranks_apart man.at m.target) 2)
        (eqb (ranks_apart (turned_square s man.at) (turned_square s m.target)) 2) refl
        (λ e. rw (ranks_apart-kept s (seat.pawn e) man.at m.target seat.on lt)) in
        rw two (by_test (is_pawn man && eqb (ranks_apart man.at m.target) 2) refl)
      where
        by_test : (b : Bool) → (is_pawn man && eqb (ranks_apart man.at m.target) 2) ≡ b
            → cond b (Some (half_way (turned_square s man.at) (turned_square s m.target))) None
            ≡ turned_passed s (cond b (Some (half_way man.at m.target)) None)
        by_test true e =
            let a = and_parts (is_pawn man) (eqb (ranks_apart man.at m.target) 2) e in
            let d = IsDouble-from_goes p.men p.passed man m.target g.reaches_target a.0 (eqb_then (ranks_apart man.at m.target) 2 a.1) in
            rw (half_way-turned s (seat.pawn a.0) man.at m.target seat.on lt d)
        by_test false e = refl

    -- the position after the image of the move
    after_by-turned : IsGoing p man m → after_by (image s p) (turned_man s man) (image_move s m) ≡ image s (after_by p man m)
    after_by-turned g = rw (men_after-turned, other_side-turned s.colours p.to_move, jumped-turned g)

    turnable_after : IsGoing p man m → IsTurnable s (after_by p man m)
    unfolding men_after
    turnable_after g = record {
      seats = men_after_seats g;
      ordered = IsAscending-insert_man (moved_man man m) (filter (survives p.passed man m.target) p.men)
          (IsAscending-filter (survives p.passed man m.target) p.men turn.ordered)
          (no_one_on_target p.passed man m.target p.men);
      passed = on_board (is_pawn man && eqb (ranks_apart man.at m.target) 2);
    }
      where
        on_board : (b : Bool) → IsOnBoard (cond b (Some (half_way man.at m.target)) None)
        on_board true = half_small man.at m.target seat.on lt
        on_board false = tt

-- a man found is one of the men, and on the square
pub Each-man_at : (P : Man → Type 0) (xs : List Man) (x : ℕ) (m : Man) → Each P xs → man_at xs x ≡ Some m → P m × (m.at ≡ x)
Each-man_at P [] x m h e = cc
Each-man_at P (y ∷ ys) x m h e = by_test (y.at == x) refl e (λ k. Each-man_at P ys x m h.1 k)
  where
    by_test : (b : Bool) → (y.at == x) ≡ b → cond b (Some y) (man_at ys x) ≡ Some m → (man_at ys x ≡ Some m → P m × (m.at ≡ x)) → P m × (m.at ≡ x)
    by_test true t k rest =
        let same : y ≡ m = cc in
        let Q : Man → Type 0 = λ z. P z × (z.at ≡ x) in
        subst Q same (h.0, eqb_then y.at x t)
    by_test false t k rest = rest k

lt_true : (x : ℕ) → x < 64 → nat_lt x 64 ≡ true
lt_true x h = grind (arith, nat_tests)

module _ (s : Symmetry) (p : Position) (turn : IsTurnable s p) where
  -- a move is legal exactly if its image is
  pub is_legal-turned : (m : Move) → m.origin < 64 → m.target < 64 → is_legal (image s p) (image_move s m) ≡ is_legal p m
  unfolding is_legal
  is_legal-turned m lo lt =
      rw (lt_true m.target lt, lt_true (turned_square s m.target) (turned_small s m.target lt), man_at_turned s m.origin lo p.men turn.seats)
      (by_man (man_at p.men m.origin) refl)
    where
      by_man : (o : Option Man) → man_at p.men m.origin ≡ o
          → option_map_or (λ man. is_legal_for (image s p) man (image_move s m)) (option_map (turned_man s) o) false
          ≡ option_map_or (λ man. is_legal_for p man m) o false
      by_man None e = refl
      by_man (Some man) e = is_legal_for-turned s p turn man (Each-man_at (IsSeated s) p.men m.origin man turn.seats e).0 m lt

  pub legal_small : (m : Move) → is_legal p m ≡ true → (m.origin < 64) × (m.target < 64)
  legal_small m e = let h = HasMover-from_is_legal p m e in
      let found = Each-man_at (IsSeated s) p.men m.origin h.man turn.seats h.here in
      let on : h.man.at < 64 = (found.0).on in
      (omega (arith, found.1), h.moves.target)

  going_mover : (m : Move) (h : HasMover p m) → IsGoing p h.man m
  going_mover m h = record { reaches_target = h.moves.going; choice = h.moves.choice }

  -- the position after the image of a legal move is the image of the position after it
  pub after-turned : (m : Move) → is_legal p m ≡ true → after (image s p) (image_move s m) ≡ image s (after p m)
  unfolding after
  after-turned m e =
      let h = HasMover-from_is_legal p m e in
      let on = legal_small m e in
      rw (man_at_turned s m.origin on.0 p.men turn.seats, h.here)
      (after_by-turned s p turn h.man (Each-man_at (IsSeated s) p.men m.origin h.man turn.seats h.here).0 m on.1 (going_mover m h))

  pub IsTurnable-after : (m : Move) → is_legal p m ≡ true → IsTurnable s (after p m)
  unfolding after
  IsTurnable-after m e =
      let h = HasMover-from_is_legal p m e in
      let on = legal_small m e in
      rw h.here (turnable_after s p turn h.man (Each-man_at (IsSeated s) p.men m.origin h.man turn.seats h.here).0 m on.1 (going_mover m h))

  pub in_check-image : in_check (image s p).men (image s p).to_move ≡ in_check p.men p.to_move
  in_check-image = in_check-turned s p.men turn.seats p.to_move

  pub image_legal : (m : Move) → IsLegal p m → IsLegal (image s p) (image_move s m)
  image_legal m e = let on = legal_small m e in is_legal-turned m on.0 on.1 ∙ e
