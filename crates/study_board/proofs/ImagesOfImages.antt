-- Composed symmetries, and images of images.
use Rattle.study_board.specs.Men.{is_pawn}
use Rattle.std.proofs.Common.{◌≡◌, ℕ, ◌<◌, ◌==◌, Bool, true, false, not, cond, ◌&&◌, ◌||◌, List, [], ◌∷◌, Option, Some, None, refl, sym, ◌∙◌, ap, arith, subst}
use Rattle.std.specs.List.{list_any}
use Rattle.std.proofs.lemmas.Bool.{false≢true}
use Rattle.study_board.specs.declared.men.Man.{Man}
use Rattle.study_board.specs.declared.men.Side.{Side}
use Rattle.study_board.specs.declared.men.Side.TheVariants.{White, Black}
use Rattle.study_board.specs.declared.symmetry.Symmetry.{Symmetry}
use Rattle.study_board.specs.Geometry.{rank_of, file_of}
use Rattle.study_board.specs.Position.{Position, IsValid, AllAbove, IsAscending, passed_possible}
use Rattle.study_board.specs.Symmetry.{mirror_if, turned_square, turned_side, turned_man, turned_men, turned_passed, image, keeps_pawns, admits}
use Rattle.study_board.specs.Images.{differ, turns_file, turns_rank, symmetry_of, composition, back, IsImage, AreClosedUnderImages}
use Rattle.study_board.proofs.MenInOrder.{NoneBelow}
use Rattle.study_board.proofs.Valid.{IsFaultless-from_first}
use Rattle.study_board.proofs.Ascending.{IsAscending-insert_man, none_at}
use Rattle.study_board.proofs.Coordinates.{KeepsPawns, file_small, rank_small, square_same, file_of-turned, rank_of-turned, turned_small, turned_apart}
use Rattle.study_board.proofs.ImagesValid.{Each, Each-weaker, Each-insert_man, IsSeated, seats, any_turned, placed_turned, insert_man-first, valid_image}
use Rattle.study_board.proofs.ImagesValid.{passed_square}

mirror_if-twice : (a b : Bool) (n : ℕ) → n < 8 → mirror_if a (mirror_if b n) ≡ mirror_if (differ a b) n
mirror_if-twice true true n h = omega arith
mirror_if-twice true false n h = refl
mirror_if-twice false b n h = refl

differ_comm : (a b : Bool) → differ a b ≡ differ b a
differ_comm true true = refl
differ_comm true false = refl
differ_comm false true = refl
differ_comm false false = refl

-- the coordinates of an image
file_of-image : (s : Symmetry) (x : ℕ) → x < 64 → file_of (turned_square s x) ≡ mirror_if (turns_file s) (cond s.diagonal (rank_of x) (file_of x))
file_of-image s x lx = file_of-turned s x lx ∙ chosen s.diagonal
  where
    chosen : (d : Bool) → cond d (mirror_if s.ranks (rank_of x)) (mirror_if s.files (file_of x))
        ≡ mirror_if (cond d s.ranks s.files) (cond d (rank_of x) (file_of x))
    chosen true = refl
    chosen false = refl

rank_of-image : (s : Symmetry) (x : ℕ) → x < 64 → rank_of (turned_square s x) ≡ mirror_if (turns_rank s) (cond s.diagonal (file_of x) (rank_of x))
rank_of-image s x lx = rank_of-turned s x lx ∙ chosen s.diagonal
  where
    chosen : (d : Bool) → mirror_if s.colours (cond d (mirror_if s.files (file_of x)) (mirror_if s.ranks (rank_of x)))
        ≡ mirror_if (differ (cond d s.files s.ranks) s.colours) (cond d (file_of x) (rank_of x))
    chosen true = mirror_if-twice s.colours s.files (file_of x) (file_small x) ∙ rw (differ_comm s.colours s.files)
    chosen false = mirror_if-twice s.colours s.ranks (rank_of x) (rank_small x lx) ∙ rw (differ_comm s.colours s.ranks)

twice_file : (d e a b a' : Bool) (f r : ℕ) → f < 8 → r < 8
    → mirror_if a' (cond e (mirror_if b (cond d f r)) (mirror_if a (cond d r f))) ≡ mirror_if (differ a' (cond e b a)) (cond (differ d e) r f)
twice_file true true a b a' f r hf hr = mirror_if-twice a' b f hf
twice_file true false a b a' f r hf hr = mirror_if-twice a' a r hr
twice_file false true a b a' f r hf hr = mirror_if-twice a' b r hr
twice_file false false a b a' f r hf hr = mirror_if-twice a' a f hf

turns_file-of : (d c a b : Bool) → turns_file (symmetry_of d c a b) ≡ a
turns_file-of true c a b = refl
turns_file-of false c a b = refl

turns_rank-of : (d c a b : Bool) → turns_rank (symmetry_of d c a b) ≡ b
turns_rank-of true true a true = refl
turns_rank-of true true a false = refl
turns_rank-of true false a true = refl
turns_rank-of true false a false = refl
turns_rank-of false true a true = refl
turns_rank-of false true a false = refl
turns_rank-of false false a true = refl
turns_rank-of false false a false = refl

pub turned_square-joined : (s t : Symmetry) (x : ℕ) → x < 64 → turned_square t (turned_square s x) ≡ turned_square (composition s t) x
turned_square-joined s t x lx =
    let on = turned_small s x lx in
    let d = differ s.diagonal t.diagonal in
    let c = differ s.colours t.colours in
    let a = differ (turns_file t) (cond t.diagonal (turns_rank s) (turns_file s)) in
    let b = differ (turns_rank t) (cond t.diagonal (turns_file s) (turns_rank s)) in
    let f : file_of (turned_square t (turned_square s x)) ≡ mirror_if a (cond d (rank_of x) (file_of x)) =
    file_of-image t (turned_square s x) on
    ∙ rw (file_of-image s x lx, rank_of-image s x lx)
    (twice_file s.diagonal t.diagonal (turns_file s) (turns_rank s) (turns_file t) (file_of x) (rank_of x)
    (file_small x) (rank_small x lx)) in
    let r : rank_of (turned_square t (turned_square s x)) ≡ mirror_if b (cond d (file_of x) (rank_of x)) =
    rank_of-image t (turned_square s x) on
    ∙ rw (file_of-image s x lx, rank_of-image s x lx)
    (twice_file s.diagonal t.diagonal (turns_rank s) (turns_file s) (turns_rank t) (rank_of x) (file_of x)
    (rank_small x lx) (file_small x)) in
    let g : file_of (turned_square (composition s t) x) ≡ mirror_if a (cond d (rank_of x) (file_of x)) =
    file_of-image (composition s t) x lx ∙ ap (λ m. mirror_if m (cond d (rank_of x) (file_of x))) (turns_file-of d c a b) in
    let q : rank_of (turned_square (composition s t) x) ≡ mirror_if b (cond d (file_of x) (rank_of x)) =
    rank_of-image (composition s t) x lx ∙ ap (λ m. mirror_if m (cond d (file_of x) (rank_of x))) (turns_rank-of d c a b) in
    square_same (turned_square t (turned_square s x)) (turned_square (composition s t) x) (f ∙ sym g) (r ∙ sym q)

turned_side-twice : (a b : Bool) (side : Side) → turned_side b (turned_side a side) ≡ turned_side (differ a b) side
turned_side-twice true true White = refl
turned_side-twice true true Black = refl
turned_side-twice true false side = refl
turned_side-twice false b side = refl

turned_man-joined : (s t : Symmetry) (m : Man) → m.at < 64 → turned_man t (turned_man s m) ≡ turned_man (composition s t) m
turned_man-joined s t m on = rw (turned_side-twice s.colours t.colours m.side, turned_square-joined s t m.at on)

-- the premise of the laws of images on a position: weaker than validity
abbrev pub IsOnBoard : Option ℕ → Type 0
IsOnBoard None = Unit {0}
IsOnBoard (Some x) = x < 64

pub record IsTurnable (s : Symmetry) (p : Position) : Type 0 where
  pub seats : Each (IsSeated s) p.men
  pub ordered : IsAscending p.men
  pub passed : IsOnBoard p.passed

pub IsTurnable-from_valid : (s : Symmetry) (p : Position) → IsValid p → admits p s ≡ true → IsTurnable s p
IsTurnable-from_valid s p v a = record {
  seats = seats s p v a;
  ordered = v.ordered;
  passed = on_board p.passed ((IsFaultless-from_first p.men p.to_move p.passed v.faultless).possible);
}
  where
    on_board : (q : Option ℕ) → passed_possible p.men p.to_move q ≡ true → IsOnBoard q
    on_board None e = tt
    on_board (Some x) e = (passed_square s p.to_move p.men x e).0

pub seated_turned : (s t : Symmetry) (xs : List Man) → Each (IsSeated s) xs → Each (IsSeated t) xs → Each (IsSeated t) (turned_men s xs)
seated_turned s t [] h k = tt
seated_turned s t (x ∷ xs) h k =
    Each-insert_man (IsSeated t) (turned_man s x) (turned_men s xs) (record { on = turned_small s x.at (h.0).on; pawn = (k.0).pawn })
    (seated_turned s t xs h.1 k.1)

apart_turned : (s : Symmetry) (x : Man) (xs : List Man) → IsAscending (x ∷ xs) → Each (IsSeated s) (x ∷ xs)
    → list_any (λ y. y.at == turned_square s x.at) (turned_men s xs) ≡ false
apart_turned s x xs up h =
    any_turned s (λ y. y.at == turned_square s x.at) (λ y. y.at == x.at) (λ m l. turned_apart s m.at x.at l.on (h.0).on) xs h.1 ∙ none_at x.at xs up.0

pub turned_men-joined : (s t : Symmetry) (xs : List Man) → IsAscending xs → Each (IsSeated s) xs
    → Each (IsSeated t) xs → turned_men t (turned_men s xs) ≡ turned_men (composition s t) xs
turned_men-joined s t [] up h k = refl
turned_men-joined s t (x ∷ xs) up h k =
    let on = turned_small s x.at (h.0).on in
    placed_turned t (turned_man s x) on (turned_men s xs) (seated_turned s t xs h.1 k.1) (apart_turned s x xs up h)
    ∙ rw (turned_man-joined s t x (h.0).on, turned_men-joined s t xs up.1 h.1 k.1)

pub image_joined : (s t : Symmetry) (p : Position) → IsTurnable s p → IsTurnable t p → image t (image s p) ≡ image (composition s t) p
image_joined s t p h k =
    rw (turned_men-joined s t p.men h.ordered h.seats k.seats, turned_side-twice s.colours t.colours p.to_move, passed p.passed h.passed)
  where
    passed : (q : Option ℕ) → IsOnBoard q → turned_passed t (turned_passed s q) ≡ turned_passed (composition s t) q
    passed None e = refl
    passed (Some x) e = ap (λ n. Some n) (turned_square-joined s t x e)

-- the image is turnable if the position is
pub IsTurnable-image : (s t : Symmetry) (p : Position) → IsTurnable s p → IsTurnable t p → IsTurnable t (image s p)
IsTurnable-image s t p h k = record {
  seats = seated_turned s t p.men h.seats k.seats;
  ordered = ascending p.men h.ordered h.seats;
  passed = on_board p.passed h.passed;
}
  where
    ascending : (xs : List Man) → IsAscending xs → Each (IsSeated s) xs → IsAscending (turned_men s xs)
    ascending [] up l = tt
    ascending (x ∷ xs) up l = IsAscending-insert_man (turned_man s x) (turned_men s xs) (ascending xs up.1 l.1) (apart_turned s x xs up l)

    on_board : (q : Option ℕ) → IsOnBoard q → IsOnBoard (turned_passed s q)
    on_board None e = tt
    on_board (Some x) e = turned_small s x e

-- the identity
abbrev pub unturned : Symmetry
unturned = record { files = false; ranks = false; diagonal = false; colours = false }

turned_square-unturned : (x : ℕ) → turned_square unturned x ≡ x
unfolding turned_square
turned_square-unturned x = omega arith

turned_men-unturned : (xs : List Man) → IsAscending xs → turned_men unturned xs ≡ xs
turned_men-unturned [] up = refl
turned_men-unturned (x ∷ xs) up =
    rw (turned_square-unturned x.at, turned_men-unturned xs up.1) (insert_man-first x xs (none_below x.at xs up.0))
  where
    none_below : (n : ℕ) (xs : List Man) → AllAbove n xs → NoneBelow n xs
    none_below n [] h = tt
    none_below n (x ∷ xs) h = (omega (arith, h.0), none_below n xs h.1)

pub image_unturned : (p : Position) → IsAscending p.men → image unturned p ≡ p
image_unturned p up = rw (turned_men-unturned p.men up, passed p.passed)
  where
    passed : (q : Option ℕ) → turned_passed unturned q ≡ q
    passed None = refl
    passed (Some x) = ap (λ n. Some n) (turned_square-unturned x)

joined_back : (s : Symmetry) → composition s (back s) ≡ unturned
joined_back s = by_parts s.files s.ranks s.diagonal s.colours
  where
    by_parts : (f r d c : Bool) → (let u : Symmetry = record { files = f; ranks = r; diagonal = d; colours = c } in composition u (back u) ≡ unturned)
    by_parts true true true true = refl
    by_parts true true true false = refl
    by_parts true true false true = refl
    by_parts true true false false = refl
    by_parts true false true true = refl
    by_parts true false true false = refl
    by_parts true false false true = refl
    by_parts true false false false = refl
    by_parts false true true true = refl
    by_parts false true true false = refl
    by_parts false true false true = refl
    by_parts false true false false = refl
    by_parts false false true true = refl
    by_parts false false true false = refl
    by_parts false false false true = refl
    by_parts false false false false = refl

keeps_back : (s : Symmetry) → keeps_pawns s ≡ true → keeps_pawns (back s) ≡ true
keeps_back s e = by_parts s.files s.ranks s.diagonal s.colours e
  where
    by_parts : (f r d c : Bool) → (not r && not d) ≡ true
        → (let u : Symmetry = record { files = f; ranks = r; diagonal = d; colours = c } in keeps_pawns (back u)
        ≡ true)
    by_parts f true d c e = absurd (false≢true e)
    by_parts f false true c e = absurd (false≢true e)
    by_parts f false false true e = refl
    by_parts f false false false e = refl

keeps_joined : (s t : Symmetry) → keeps_pawns s ≡ true → keeps_pawns t ≡ true → keeps_pawns (composition s t) ≡ true
keeps_joined s t a b = by_parts s.files s.ranks s.diagonal s.colours t.files t.ranks t.diagonal t.colours a b
  where
    by_parts : (f r d c f' r' d' c' : Bool) → (not r && not d) ≡ true → (not r' && not d') ≡ true
        → (let u : Symmetry = record { files = f; ranks = r; diagonal = d; colours = c } in
        let w : Symmetry = record { files = f'; ranks = r'; diagonal = d'; colours = c' } in keeps_pawns
        (composition u w) ≡ true)
    by_parts f true d c f' r' d' c' a b = absurd (false≢true a)
    by_parts f false true c f' r' d' c' a b = absurd (false≢true a)
    by_parts f false false c f' true d' c' a b = absurd (false≢true b)
    by_parts f false false c f' false true c' a b = absurd (false≢true b)
    by_parts f false false true f' false false true a b = refl
    by_parts f false false true f' false false false a b = refl
    by_parts f false false false f' false false true a b = refl
    by_parts f false false false f' false false false a b = refl

admits_where : (p : Position) (k k' : Bool) → (k ≡ true → k' ≡ true) → (not (list_any is_pawn p.men) || k) ≡ true → (not (list_any is_pawn p.men) || k') ≡ true
admits_where p k k' f = go (not (list_any is_pawn p.men))
  where
    go : (b : Bool) → (b || k) ≡ true → (b || k') ≡ true
    go true e = refl
    go false e = f e

pub admits_back : (s : Symmetry) (p : Position) → admits p s ≡ true → admits p (back s) ≡ true
admits_back s p = admits_where p (keeps_pawns s) (keeps_pawns (back s)) (keeps_back s)

pub admits_joined : (s t : Symmetry) (p : Position) → admits p s ≡ true → admits p t ≡ true → admits p (composition s t) ≡ true
admits_joined s t p = go (list_any is_pawn p.men)
  where
    go : (b : Bool) → (not b || keeps_pawns s) ≡ true → (not b || keeps_pawns t) ≡ true → (not b || keeps_pawns (composition s t)) ≡ true
    go true a b = keeps_joined s t a b
    go false a b = refl

-- the image admits the symmetries that the position admits
pub admits_image : (s t : Symmetry) (p : Position) → IsValid p → admits p s ≡ true → admits (image s p) t ≡ admits p t
admits_image s t p v a = rw (any_turned s is_pawn is_pawn (λ m _. refl) p.men (seats s p v a))

both_false : (a b : Bool) → (not a && not b) ≡ true → (a ≡ false) × (b ≡ false)
both_false true b e = absurd (false≢true e)
both_false false true e = absurd (false≢true e)
both_false false false e = (refl, refl)

pub IsTurnable-back : (s : Symmetry) (p : Position) → IsTurnable s p → IsTurnable (back s) p
IsTurnable-back s p h = record {
  seats = Each-weaker (IsSeated s) (IsSeated (back s)) (λ m k. record { on = k.on; pawn = λ e. keeps (k.pawn e) }) p.men h.seats;
  ordered = h.ordered;
  passed = h.passed;
}
  where
    keeps : KeepsPawns s → KeepsPawns (back s)
    keeps k =
        let e : keeps_pawns s ≡ true = both_not s.ranks s.diagonal k.ranks k.diagonal in
        let f = both_false (back s).ranks (back s).diagonal (keeps_back s e) in
        record { ranks = f.0; diagonal = f.1 }
      where
        both_not : (a b : Bool) → a ≡ false → b ≡ false → (not a && not b) ≡ true
        both_not a b e f = rw (e, f)

pub image_back : (s : Symmetry) (p : Position) → IsTurnable s p → image (back s) (image s p) ≡ p
image_back s p h = image_joined s (back s) p h (IsTurnable-back s p h) ∙ ap (λ u. image u p) (joined_back s) ∙ image_unturned p h.ordered

-- images are images of one another
pub IsImage-refl : (p : Position) → IsValid p → IsImage p p
IsImage-refl p v = record { by = unturned; admitted = or_true (not (list_any is_pawn p.men)); is = sym (image_unturned p v.ordered) }
  where
    or_true : (b : Bool) → (b || true) ≡ true
    or_true true = refl
    or_true false = refl

pub IsImage-sym : (p q : Position) → IsValid p → IsImage p q → IsImage q p
IsImage-sym p q v h = record {
  by = back h.by;
  admitted = subst (λ (x : Position). admits x (back h.by) ≡ true) (sym h.is) (admits_image h.by (back h.by) p v h.admitted ∙ admits_back h.by p h.admitted);
  is = sym (subst (λ (x : Position). image (back h.by) x ≡ p) (sym h.is) (image_back h.by p (IsTurnable-from_valid h.by p v h.admitted)));
}

pub IsImage-trans : (p q r : Position) → IsValid p → IsImage p q → IsImage q r → IsImage p r
IsImage-trans p q r v h k =
    let a : admits p k.by ≡ true = sym (admits_image h.by k.by p v h.admitted) ∙ subst (λ (x : Position). admits x k.by ≡ true) h.is k.admitted in
    record {
      by = composition h.by k.by;
      admitted = admits_joined h.by k.by p h.admitted a;
      is = k.is ∙ ap (λ x. image k.by x) h.is ∙ image_joined h.by k.by p (IsTurnable-from_valid h.by p v h.admitted) (IsTurnable-from_valid k.by p v a);
    }

back_back : (s : Symmetry) → back (back s) ≡ s
back_back s = by_parts s.files s.ranks s.diagonal s.colours
  where
    by_parts : (f r d c : Bool) → (let u : Symmetry = record { files = f; ranks = r; diagonal = d; colours = c } in back (back u) ≡ u)
    by_parts true true true true = refl
    by_parts true true true false = refl
    by_parts true true false true = refl
    by_parts true true false false = refl
    by_parts true false true true = refl
    by_parts true false true false = refl
    by_parts true false false true = refl
    by_parts true false false false = refl
    by_parts false true true true = refl
    by_parts false true true false = refl
    by_parts false true false true = refl
    by_parts false true false false = refl
    by_parts false false true true = refl
    by_parts false false true false = refl
    by_parts false false false true = refl
    by_parts false false false false = refl

-- the square whose image is the square
pub turned_back : (s : Symmetry) (x : ℕ) → x < 64 → turned_square s (turned_square (back s) x) ≡ x
turned_back s x lx =
    ap (λ u. turned_square u (turned_square (back s) x)) (sym (back_back s))
    ∙ turned_square-joined (back s) (back (back s)) x lx ∙ ap (λ u. turned_square u x) (joined_back (back s)) ∙ turned_square-unturned x

IsValid-image_of : (p q : Position) → IsValid p → IsImage p q → IsValid q
IsValid-image_of p q v h = subst IsValid (sym h.is) (valid_image h.by p v h.admitted)

pub AreClosedUnderImages-from : (p q : Position) → IsValid p → IsImage p q → AreClosedUnderImages p q
AreClosedUnderImages-from p q v h = record { valid = IsValid-image_of p q v h; back = IsImage-sym p q v h; further = λ r k. IsImage-trans p q r v h k }
