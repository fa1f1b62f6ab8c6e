-- Whether a man taken back leaves the other king attacked, decided by the men after its move.
use Rattle.std.proofs.Common.{◌≡◌, ℕ, Bool, true, false, not, ◌&&◌, ◌||◌, ◌==◌, List, ◌∷◌, None, refl, sym, ◌∙◌}
use Rattle.std.specs.List.{list_any, filter}
use Rattle.std.proofs.lemmas.Bool.{and_parts}
use Rattle.study_board.specs.declared.men.Man.{Man}
use Rattle.study_board.specs.declared.men.Side.{Side}
use Rattle.study_board.specs.declared.men.Side.TheVariants.{White, Black}
use Rattle.study_board.specs.declared.men.Kind.TheVariants.{King}
use Rattle.study_board.specs.Geometry.{strictly_between}
use Rattle.study_board.specs.Men.{same_side, other_side, is_man, is_attacked, attacks_square}
use Rattle.study_board.specs.Position.{is_occupied, in_check}
use Rattle.study_board.specs.Sets.{is_slider, bears_past}
use Rattle.study_board.proofs.Lists.{list_any_weaker}
use Rattle.study_board.proofs.MenInOrder.{IsPermutation-insert_man}
use Rattle.study_board.proofs.Faults.{list_any_same, in_check_same}
use Rattle.study_moves.specs.Rules.{has_side, survives}
use Rattle.study_moves.specs.KingSafety.{threatened_past, threatens}
use Rattle.study_moves.specs.Unmoves.{king_was_attacked, was_check, set_back, men_before}
use Rattle.study_moves.proofs.SafeTargets.{none_passed}
use Rattle.study_moves.proofs.BearsBothWays.{between-both}
use Rattle.study_moves.proofs.PutBack.{stays_plain}
use Rattle.study_moves.proofs.KingSafety.{filter_any, any_same_where, bears_after, not_at_end, no_line, shuffle, threatened_past_is}

pub was_check_is : (men : List Man) (side : Side) (man : Man) (a : ℕ) → list_any (king_was_attacked men side man a) men ≡ was_check men side man a
unfolding was_check
was_check_is men side man a = refl

pub is_occupied_is : (men : List Man) (x : ℕ) → list_any (λ m. m.at == x) men ≡ is_occupied men x
unfolding is_occupied
is_occupied_is men x = refl

pub same_side-self : (s : Side) → same_side s s ≡ true
same_side-self White = refl
same_side-self Black = refl

pub no_side_there : (men : List Man) (side : Side) (x : ℕ) → is_occupied men x ≡ false → has_side men side x ≡ false
unfolding has_side is_occupied
no_side_there men side x e =
    list_any_weaker (λ m. same_side m.side side && (m.at == x)) (λ m. m.at == x) (λ m k. (and_parts (same_side m.side side) (m.at == x) k).1) men e

and_true : (b : Bool) → (b && true) ≡ b
and_true true = refl
and_true false = refl

-- the two parts of an attack
two_ways : (s b b' r r' : Bool) → s ≡ true → b ≡ b' → r ≡ r' → ((s && b) || r) ≡ (b' || r')
two_ways s b b' r r' e f g = rw (e, f, g) refl

-- a king that neither leaves its square nor is put on that square
kept : (n o K b b' : Bool) → o ≡ false → b ≡ b' → ((n && not o) && (K && b)) ≡ ((K && n) && b')
kept true o true b b' e f = rw (e, f) refl
kept true o false b b' e f = rw e refl
kept false o true b b' e f = refl
kept false o false b b' e f = refl

own_not : (s t : Side) → s ≡ other_side t → same_side s t ≡ false
own_not s White e = rw e refl
own_not s Black e = rw e refl

module _ (men : List Man) (man : Man) (a : ℕ) (free : is_occupied men a ≡ false) (side : Side) (his : man.side ≡ other_side side) where
  abbrev pub z : Man
  z = set_back man a

  abbrev pub ys : List Man
  ys = filter (survives None man a) men

  bears_then : (m : Man) (k : ℕ) → attacks_square (z ∷ ys) m k ≡ (bears_past men man.at m k && not (is_slider m.kind && strictly_between m.at a k))
  bears_then m k = bears_after men None man a man.side z refl (same_side-self man.side) (none_passed None man a refl) (no_side_there men man.side a free) m k

  own_attack : (k : ℕ) → attacks_square (z ∷ ys) z k ≡ bears_past men man.at z k
  own_attack k =
      let end : strictly_between a a k ≡ false = between-both a a k ∙ not_at_end k a in
      bears_then z k ∙ rw (end, no_line (is_slider man.kind)) (and_true (bears_past men man.at z k))

  others_attack : (k : ℕ) → list_any (λ m. same_side m.side (other_side side) && attacks_square (z ∷ ys) m k) ys ≡ threatened_past men (other_side side)
      man.at k a
  others_attack k =
      filter_any (λ m. same_side m.side (other_side side) && attacks_square (z ∷ ys) m k) (survives None man a) men
      ∙ list_any_same (λ m. survives None man a m && (same_side m.side (other_side side) && attacks_square (z ∷ ys) m k))
      (threatens men (other_side side) man.at k a)
      (λ m. rw (stays_plain man a m, bears_then m k)
      (shuffle (not (m.at == man.at)) (not (m.at == a)) (same_side m.side (other_side side))
      (bears_past men man.at m k) (not (is_slider m.kind && strictly_between m.at a k)))) men
      ∙ threatened_past_is men (other_side side) man.at k a

  attacked_then : (k : ℕ) → is_attacked (z ∷ ys) (other_side side) k ≡ (bears_past men man.at z k || threatened_past men (other_side side) man.at k a)
  unfolding is_attacked
  attacked_then k =
      let mine : same_side man.side (other_side side) ≡ true = rw his (same_side-self (other_side side)) in
      two_ways _ _ _ _ _ mine (own_attack k) (others_attack k)

  king_then : (k : Man) → (k.at == a) ≡ false
      → (survives None man a k && (is_man side King k && is_attacked (z ∷ ys) (other_side side) k.at))
      ≡ king_was_attacked men side man a k
  king_then k e =
      rw (stays_plain man a k)
      (kept (not (k.at == man.at)) (k.at == a) (is_man side King k) _ _ e (attacked_then k.at))

  -- whether a king of the side is attacked with the man taken back
  pub in_check_before : in_check (men_before men man a) side ≡ was_check men side man a
  unfolding in_check was_check men_before is_occupied
  in_check_before =
      let other : same_side man.side side ≡ false = own_not man.side side his in
      sym (in_check_same (z ∷ ys) _ (IsPermutation-insert_man z ys) side)
      ∙ rw other
      (filter_any (λ k. is_man side King k && is_attacked (z ∷ ys) (other_side side) k.at) (survives None man a) men
      ∙ any_same_where (λ y. y.at == a)
      (λ k. survives None man a k && (is_man side King k && is_attacked (z ∷ ys) (other_side side) k.at))
      (king_was_attacked men side man a) king_then men free)
