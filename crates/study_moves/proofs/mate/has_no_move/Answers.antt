use Rattle.std.proofs.Common.{◌≡◌, ◌∙◌, ◌==◌, ℕ, suc, true, false, refl, sym, arith, List, [], ◌∷◌, length, Bool, take, subst}
use Rattle.std.specs.List.{Contains}
use Rattle.std.proofs.lemmas.List.{take_all}
use Rattle.std.proofs.lemmas.List.Elements.{Contains-get_or}
use Rattle.study_board.specs.declared.men.Man.{Man}
use Rattle.study_moves.proofs.FirstMoves.{HasNoTarget, NoneMoves, NoneMoves-more, no_passed, none_legal, some_legal}
use Rattle.std.proofs.lemmas.Bool.{false≢true}
use Rattle.std.proofs.lemmas.Bool.Decides.{nat_tests}
use Rattle.study_moves.specs.declared.moves.Move.{Move}
use Rattle.study_board.specs.Position.{Position}
use Rattle.study_moves.specs.Rules.{is_legal}
use Rattle.study_moves.specs.Game.{HasNoMove}
use Rattle.study_moves.proofs.mate.has_no_move.Goals as goal

some_length : (n : ℕ) → (suc n == 0) ≡ false
some_length n = grind (arith, nat_tests)

-- a list of exactly the legal moves is empty exactly if there is none
empty_where_none : (p : Position) (xs : List Move) (r : Bool) → r ≡ (length xs == 0)
    → ((m : Move) → (Contains xs m → is_legal p m ≡ true) × (is_legal p m ≡ true → Contains xs m))
    → (r ≡ true → HasNoMove p) × (HasNoMove p → r ≡ true)
empty_where_none p [] r e h = ((λ _ m l. absurd (omega (arith, ((h m).1 l).1))), λ _. e)
empty_where_none p (x ∷ xs) r e h =
    ((λ t. absurd (false≢true (sym (e ∙ some_length (length xs)) ∙ t))), λ none. absurd (none x ((h x).0 (0, omega arith, refl))))

pub returns-then-is_some : goal.returns-then-is_some
returns-then-is_some c = empty_where_none _ _ _ c.is_empty.ensures c.legal_moves.ensures.legal

pub loop-man-init : goal.loop-man-init
loop-man-init c = λ m i. absurd (let l = i.1 in omega (arith, l))

pub loop-man-preserved : goal.loop-man-preserved
loop-man-preserved c =
    let men = c.men-men.result.now in
    let side = c.to_move-side.result in
    NoneMoves-more men side men c.loop-man.man-index c.man-item.result c.loop-man-test.true c.loop-man.invariant
    (subst (HasNoTarget men side) c.man-item.is (c.can_move.ensures.no c.if-can_move.false))

pub returns-then-can_move : goal.returns-then-can_move
returns-then-can_move c =
    let men = c.men-men.result.now in
    let m = c.man-item.result in
    let there : Contains men m =
    subst (λ (x : Man). Contains men x) (sym c.man-item.is) (Contains-get_or men c.loop-man.man-index _ c.loop-man-test.true) in
    let s = c.can_move.ensures.yes c.if-can_move.true in
    let l = some_legal c.args.p.now men c.to_move-side.result c.men-men.ensures.valid (no_passed _ _ _ c.passed.ensures c.is_some.ensures c.if-is_some.false)
    c.men-men.ensures.value c.to_move-side.ensures m there s.0 s.1.0 s.1.1 s.1.2 in
    (λ t. absurd (false≢true t), λ none. absurd (none l.0 l.1))

pub returns : goal.returns
returns c =
    let men = c.men-men.result.now in
    let all : take c.loop-man.man-index men ≡ men = take_all c.loop-man.man-index men (let h = c.loop-man-test.false in omega (arith, h)) in (
      λ _. none_legal c.args.p.now men c.to_move-side.result c.men-men.ensures.valid (no_passed _ _ _ c.passed.ensures c.is_some.ensures c.if-is_some.false)
          c.men-men.ensures.value c.to_move-side.ensures
          (subst (NoneMoves men c.to_move-side.result) all c.loop-man.invariant),
      λ _. refl,
    )
