-- The squares that the men exclude as targets of a man, gathered from man to man.
use Rattle.std.proofs.Common.{◌≡◌, ℕ, Bool, true, false, not, ◌&&◌, ◌||◌, ◌==◌, List, [], ◌∷◌, None, refl, ◌∙◌}
use Rattle.std.specs.List.{list_any}
use Rattle.study_board.specs.declared.men.Man.{Man}
use Rattle.study_board.specs.declared.men.Side.{Side}
use Rattle.study_board.specs.declared.men.Side.TheVariants.{White, Black}
use Rattle.study_board.specs.declared.men.Kind.TheVariants.{King}
use Rattle.study_board.specs.Men.{same_side, other_side, same_kind}
use Rattle.study_board.specs.Sets.{has, bears_past}
use Rattle.study_moves.specs.Rules.{has_side, reaches_target}
use Rattle.study_moves.specs.AnyOrder.{is_safe_target}
use Rattle.study_moves.specs.KingSafety.{is_other_man, attacked_past, king_threatened, threatened_by_others, is_unsafe, closes}

other_of : (a b : Side) → same_side a (other_side b) ≡ not (same_side a b)
other_of White White = refl
other_of White Black = refl
other_of Black White = refl
other_of Black Black = refl

none_more : (b k : Bool) → b ≡ (b || (k && false))
none_more true k = refl
none_more false true = refl
none_more false false = refl

module _ (men : List Man) (side : Side) (man : Man) (x : ℕ) (m : Man) where
  -- a man of the side excludes no square by its reach
  pub closed_by_own : (own threats set : ℕ) → same_side m.side side ≡ true → has own x ≡ (m.at == x) → has threats x ≡ king_threatened men side man.at x m
      → has set x ≡ (has own x || has threats x) → has set x ≡ closes men side man x m
  unfolding closes
  closed_by_own own threats set s e f g =
      g ∙ rw (e, f, other_of m.side side, s) (none_more _ (same_kind man.kind King))

  -- a man of the other side excludes only its reach
  pub closed_by_other : (set : ℕ) → same_side m.side side ≡ false
      → has set x ≡ (same_kind man.kind King && (is_other_man (other_side side) man.at m && bears_past men man.at m x)) → has set x ≡ closes men side man x m
  unfolding closes
  closed_by_other set s e = e ∙ rw s refl

regroup : (k a b c p q r : Bool) → (((a || b) || (k && c)) || (p || ((k && r) || q))) ≡ ((a || p) || ((k && (c || r)) || (b || q)))
regroup k true b c p q r = refl
regroup k false b c true q r = any_true ((b || (k && c)))
  where
    any_true : (z : Bool) → (z || true) ≡ true
    any_true true = refl
    any_true false = refl
regroup true false true true false q r = refl
regroup true false true false false q true = refl
regroup true false true false false q false = refl
regroup true false false true false q r = refl
regroup true false false false false q r = refl
regroup false false true c false q r = refl
regroup false false false c false q r = refl

any_of_three : (k : Bool) (p q r : Man → Bool) (xs : List Man)
    → list_any (λ m. (p m || q m) || (k && r m)) xs ≡ (list_any p xs || ((k && list_any r xs) || list_any q xs))
any_of_three true p q r [] = refl
any_of_three false p q r [] = refl
any_of_three k p q r (m ∷ xs) =
    rw (any_of_three k p q r xs) (regroup k (p m) (q m) (r m) (list_any p xs) (list_any q xs) (list_any r xs))

pub closed_is : (men : List Man) (side : Side) (man : Man) (x : ℕ) → list_any (closes men side man x) men ≡ (has_side men side x || is_unsafe men side man x)
unfolding closes has_side is_unsafe attacked_past threatened_by_others
closed_is men side man x =
    any_of_three (same_kind man.kind King) (λ m. same_side m.side side && (m.at == x)) (king_threatened men side man.at x)
    (λ m. is_other_man (other_side side) man.at m && bears_past men man.at m x) men

neither_of : (a b c : Bool) → (a && not (b || c)) ≡ ((a && not b) && not c)
neither_of true true c = refl
neither_of true false c = refl
neither_of false b c = refl

pub open_squares : (men : List Man) (side : Side) (man : Man) (x goes closed safe : ℕ) → has goes x ≡ reaches_target men None man x
    → has closed x ≡ (has_side men side x || is_unsafe men side man x) → has safe x ≡ (has goes x && not (has closed x))
    → has safe x ≡ is_safe_target men side man x
unfolding is_safe_target
open_squares men side man x goes closed safe e f g =
    g ∙ rw (e, f) (neither_of (reaches_target men None man x) (has_side men side x) (is_unsafe men side man x))
