-- The moves after which no square is passed.
use Rattle.std.proofs.Common.{◌≡◌, ℕ, ◌==◌, Bool, true, false, cond, ◌&&◌, Option, None, refl, sym, subst, arith}
use Rattle.std.proofs.lemmas.Bool.Decides.{nat_tests}
use Rattle.study_board.specs.Geometry.{ranks_apart}
use Rattle.study_board.specs.Men.{is_pawn}
use Rattle.study_board.specs.Position.{Position}
use Rattle.study_moves.specs.declared.moves.Move.{Move}
use Rattle.study_moves.specs.Rules.{is_legal, after}
use Rattle.study_moves.proofs.MenOfList.{found_among}
use Rattle.study_moves.proofs.NoMoveBetween.{HasMover-from_is_legal}

none_so : (b : Bool) (o : Option ℕ) → cond (b && false) o None ≡ None
none_so true o = refl
none_so false o = refl

-- a move that is not across two ranks
pub unjumped : (p : Position) (m : Move) → is_legal p m ≡ true → (ranks_apart m.origin m.target == 2) ≡ false → (after p m).passed ≡ None
unfolding after
unjumped p m legal e =
    let h = HasMover-from_is_legal p m legal in
    let at : h.man.at ≡ m.origin = (found_among p.men m.origin h.man h.here).1 in
    let far : (ranks_apart h.man.at m.target == 2) ≡ false = subst (λ (a : ℕ). (ranks_apart a m.target == 2) ≡ false) (sym at) e in
    rw (h.here, far) (none_so (is_pawn h.man) _)

pub not_two : (n : ℕ) → (n ≡ 2 → ⊥) → (n == 2) ≡ false
not_two n h = grind (arith, nat_tests)
