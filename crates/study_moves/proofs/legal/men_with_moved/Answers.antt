use Rattle.std.proofs.Common.{◌≡◌, Bool, ℕ, ◌≤◌, length, [], ◌∷◌, ◌++◌, drop, sym, ap, ◌∙◌, arith, List}
use Rattle.std.proofs.lemmas.List.{drop_all, length-append}
use Rattle.study_board.specs.declared.men.Man.{Man}
use Rattle.study_moves.specs.Rules.{survives}
use Rattle.study_moves.proofs.MenFound.{fewer_stay}
use Rattle.study_moves.proofs.CarriedUp.{carried_into, carried-insert_man, length-carried}
use Rattle.study_moves.proofs.legal.men_with_moved.Goals as goal

at_end : (q : Man → Bool) (list men all : List Man) (c : Man) (i : ℕ) → length men ≤ i → list ++ carried_into q c (drop i men) ≡ all → list ++ c ∷ [] ≡ all
at_end q list men all c i l e = (let d = drop_all i men l in rw d at e)

pub push-requires : goal.push-requires
push-requires g c =
    let q = survives c.args.passed c.args.man.now c.args.moved.at in
    let less = fewer_stay c.args.passed c.args.man.now c.args.moved.at c.args.men.now c.requires.here in
    let whole = at_end q c.loop-m.list.items c.args.men.now _ c.loop-m.carried c.loop-m.m-index c.loop-m-test.false c.loop-m.invariant.carried in
    let long = sym (length-append c.loop-m.list.items (c.loop-m.carried ∷ [])) ∙ ap (λ xs. length xs) whole ∙ length-carried q c.args.moved c.args.men.now in
    (omega arith, omega (arith, long, less, c.requires.few))

pub returns : goal.returns
returns g c =
    let q = survives c.args.passed c.args.man.now c.args.moved.at in
    c.push.ensures.items
    ∙ at_end q c.loop-m.list.items c.args.men.now _ c.loop-m.carried c.loop-m.m-index c.loop-m-test.false c.loop-m.invariant.carried
    ∙ carried-insert_man q c.args.moved c.args.men.now c.requires.ordered
