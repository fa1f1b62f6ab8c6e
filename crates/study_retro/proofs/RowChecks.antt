-- Whether a king is attacked, by the square of the man of the last slot.
use Rattle.std.proofs.Common.{◌≡◌, ℕ, ◌==◌, Bool, true, false, not, ◌&&◌, ◌||◌, List, [], ◌∷◌, ◌++◌, refl, sym, ◌∙◌, ap}
use Rattle.std.specs.List.{list_any}
use Rattle.std.proofs.lemmas.Bool.{eqb-true, eq-eqb}
use Rattle.std.proofs.lemmas.List.Folds.{list_any-append}
use Rattle.study_board.specs.declared.men.Side.{Side}
use Rattle.study_board.specs.declared.men.Kind.{Kind}
use Rattle.study_board.specs.declared.men.Kind.TheVariants.{King, Queen, Rook, Bishop, Knight, Pawn}
use Rattle.study_board.specs.declared.men.Man.{Man}
use Rattle.study_board.specs.Geometry.{strictly_between}
use Rattle.study_board.specs.Men.{attacks_square, is_attacked, is_blocked, is_man, other_side, reaches, same_kind, same_side}
use Rattle.study_board.specs.Position.{in_check}
use Rattle.study_board.specs.Sets.{is_slider, reaches_if}
use Rattle.study_board.proofs.Faults.{list_any_same}
use Rattle.study_moves.proofs.KingSafety.{not_at_end}
use Rattle.study_moves.proofs.BearsBothWays.{between-both, blocked-both, reaches-both, same_test}
use Rattle.study_retro.specs.RowMoves.{keeps_attack_with, king_attacked_with}
use Rattle.study_retro.specs.Still.{opposing_man, on_square}

-- ---- tests

and_one : (b : Bool) → b ≡ (b && true)
and_one true = refl
and_one false = refl

pub and_and : (a b c : Bool) → ((a && b) && c) ≡ (a && (b && c))
and_and true b c = refl
and_and false b c = refl

pub or_none : (b : Bool) → (b || false) ≡ b
or_none true = refl
or_none false = refl

line_with : (p o b s : Bool) → (p && (o && not (b || (s || false)))) ≡ ((p && (o && not b)) && not s)
line_with false o b s = refl
line_with true false b s = refl
line_with true true true s = refl
line_with true true false true = refl
line_with true true false false = refl

-- ---- further men

pub between_self : (y x : ℕ) → strictly_between y y x ≡ false
between_self y x = between-both y y x ∙ not_at_end x y

pub reach_if : (xs : List Man) (side : Side) (kind : Kind) (a x : ℕ) → reaches xs side kind a x ≡ reaches_if (is_blocked xs a x) side kind a x
unfolding reaches reaches_if
reach_if xs side King a x = refl
reach_if xs side Queen a x = refl
reach_if xs side Rook a x = refl
reach_if xs side Bishop a x = refl
reach_if xs side Knight a x = refl
reach_if xs side Pawn a x = refl

module _ (others : List Man) (last : Man) (y : ℕ) where
  abbrev pub l : Man
  l = on_square last y

  abbrev pub men : List Man
  men = others ++ l ∷ []

  blocked_with : (a x : ℕ) → is_blocked men a x ≡ (is_blocked others a x || (strictly_between a y x || false))
  unfolding is_blocked
  blocked_with a x = list_any-append (λ m. strictly_between a m.at x) others (l ∷ [])

  reaches_with : (p : Bool) (side : Side) (kind : Kind) (a x : ℕ) → (p && reaches men side kind a x)
      ≡ ((p && reaches others side kind a x) && not (is_slider kind && strictly_between a y x))
  unfolding reaches
  reaches_with p side King a x = and_one _
  reaches_with p side Queen a x = rw (blocked_with a x) (line_with p _ (is_blocked others a x) (strictly_between a y x))
  reaches_with p side Rook a x = rw (blocked_with a x) (line_with p _ (is_blocked others a x) (strictly_between a y x))
  reaches_with p side Bishop a x = rw (blocked_with a x) (line_with p _ (is_blocked others a x) (strictly_between a y x))
  reaches_with p side Knight a x = and_one _
  reaches_with p side Pawn a x = and_one _

  pub bears_men : (m : Man) (x : ℕ) → attacks_square men m x ≡ keeps_attack_with others y m x
  bears_men m x = reaches_with (not (m.at == x)) m.side m.kind m.at x

  same_squares : (a b : ℕ) → (a == b) ≡ (b == a)
  same_squares a b = same_test (a == b) (b == a) (λ e. eq-eqb b a (sym (eqb-true a b e))) (λ e. eq-eqb a b (sym (eqb-true b a e)))

  pub bears_last : (x : ℕ) → attacks_square men l x ≡ attacks_square others (opposing_man last x) y
  bears_last x =
      rw (
        same_squares y x,
        reach_if men last.side last.kind y x,
        blocked_with y x,
        between_self y x,
        or_none (is_blocked others y x),
        blocked-both others y x,
        reach_if others (other_side last.side) last.kind x y,
        reaches-both (is_blocked others x y) last.side last.kind y x,
      ) refl

  attacked_with : (by : Side) (x : ℕ) → is_attacked men by x ≡ (list_any (λ m. same_side m.side by && keeps_attack_with others y m x) others
      || (same_side last.side by && attacks_square others (opposing_man last x) y))
  unfolding is_attacked
  attacked_with by x =
      list_any-append (λ m. same_side m.side by && attacks_square men m x) others (l ∷ [])
      ∙ rw (
        or_none (same_side last.side by && attacks_square men l x),
        bears_last x,
        list_any_same (λ m. same_side m.side by && attacks_square men m x) (λ m. same_side m.side by && keeps_attack_with others y m x)
            (λ m. ap (λ (b : Bool). same_side m.side by && b) (bears_men m x)) others,
      ) refl

  pub row_check : (side : Side) → same_kind last.kind King ≡ false → list_any (king_attacked_with others last side y) others ≡ in_check men side
  unfolding in_check
  row_check side none =
      sym (list_any-append (λ k. is_man side King k && is_attacked men (other_side side) k.at) others (l ∷ [])
      ∙ ap (λ (b : Bool). list_any (λ k. is_man side King k && is_attacked men (other_side side) k.at) others || b) (no_king (same_side last.side side))
      ∙ or_none _
      ∙ list_any_same (λ k. is_man side King k && is_attacked men (other_side side) k.at) (king_attacked_with others last side y)
      (λ k. ap (λ (b : Bool). is_man side King k && b) (attacked_with (other_side side) k.at)) others)
    where
      no_king : (b : Bool) → ((b && same_kind last.kind King && is_attacked men (other_side side) y) || false) ≡ false
      no_king true = rw none refl
      no_king false = refl
