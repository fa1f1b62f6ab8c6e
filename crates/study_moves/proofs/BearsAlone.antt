-- A man that would not bear on a square of an empty board does not bear on it.
use Rattle.std.proofs.Common.{◌≡◌, ℕ, ◌==◌, Bool, true, false, not, ◌&&◌, List, [], refl}
use Rattle.study_board.specs.declared.men.Side.{Side}
use Rattle.study_board.specs.declared.men.Kind.{Kind}
use Rattle.study_board.specs.declared.men.Kind.TheVariants.{King, Queen, Rook, Bishop, Knight, Pawn}
use Rattle.study_board.specs.declared.men.Man.{Man}
use Rattle.study_board.specs.Men.{attacks_square, is_blocked, reaches}
use Rattle.study_board.specs.Sets.{bears_past, is_blocked_past, reaches_if}

open_line : (p x b : Bool) → (p && (x && true)) ≡ false → (p && (x && not b)) ≡ false
open_line false x b e = refl
open_line true false b e = refl
open_line true true b e = absurd cc

by_kind : (p blocked : Bool) (side : Side) (kind : Kind) (a k : ℕ) → (p && reaches [] side kind a k) ≡ false → (p && reaches_if blocked side kind a k) ≡ false
unfolding reaches reaches_if is_blocked
by_kind p blocked side King a k e = e
by_kind p blocked side Queen a k e = open_line p _ blocked e
by_kind p blocked side Rook a k e = open_line p _ blocked e
by_kind p blocked side Bishop a k e = open_line p _ blocked e
by_kind p blocked side Knight a k e = e
by_kind p blocked side Pawn a k e = e

neither : (o b : Bool) → b ≡ false → (o && b) ≡ false
neither false b e = refl
neither true b e = e

pub alone_not : (o : Bool) (men : List Man) (lifted : ℕ) (m : Man) (k : ℕ) → attacks_square [] m k ≡ false → (o && bears_past men lifted m k) ≡ false
alone_not o men lifted m k e = neither o _ (by_kind (not (m.at == k)) (is_blocked_past men lifted m.at k) m.side m.kind m.at k e)
