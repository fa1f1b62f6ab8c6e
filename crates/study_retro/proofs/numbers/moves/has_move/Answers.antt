use Rattle.std.proofs.Common.{◌≡◌, ℕ, ◌<◌, arith, true, false, List, Contains, sym, ◌∙◌, subst}
use Rattle.std.proofs.lemmas.Bool.{false≢true}
use Rattle.std.proofs.lemmas.List.{take_all}
use Rattle.std.proofs.lemmas.List.Elements.{Contains-get_or}
use Rattle.study_board.specs.declared.men.Man.{Man}
use Rattle.study_board.specs.Men.{same_side}
use Rattle.study_moves.specs.AnyOrder.{is_safe_target}
use Rattle.study_levels.proofs.CellsLemmas.{each-more}
use Rattle.study_retro.proofs.BackLemmas.{safe_by, some_legal, targets_found}
use Rattle.study_retro.proofs.numbers.moves.has_move.Goals as goal

pub loop-man-init : goal.loop-man-init
loop-man-init c = λ m i. absurd (let l = i.1 in omega (arith, l))

pub loop-man-preserved : goal.loop-man-preserved
loop-man-preserved c =
    let men = c.as_slice-man-items.result.now in
    let m = c.man-item.result in
    let Q : Man → Type 0 = λ y. same_side y.side c.args.setup.now.to_move ≡ true → (x : ℕ) → x < 64
    → is_safe_target c.args.setup.now.men.items c.args.setup.now.to_move y x ≡ false in
    each-more Q men c.loop-man.man-index m c.loop-man-test.true c.loop-man.invariant (subst Q c.man-item.is (c.can_move.ensures.no c.if-can_move.false))

pub returns-then-can_move-clause-yes : goal.returns-then-can_move-clause-yes
returns-then-can_move-clause-yes c = λ t q at.
    let men = c.as_slice-man-items.result.now in
    let m = c.man-item.result in
    let there : Contains men m = subst (λ (x : Man). Contains men x) (sym c.man-item.is) (Contains-get_or men c.loop-man.man-index _ c.loop-man-test.true) in
    let among = subst (λ (xs : List Man). Contains xs m) c.as_slice-man-items.ensures.value there in
    let s = c.can_move.ensures.yes c.if-can_move.true in
    some_legal c.args.class c.args.number q at c.requires.plain c.args.setup.now.men.items c.args.setup.now.to_move c.requires.encodes
    m among s.0 s.1.0 s.1.1 s.1.2

pub returns-clause-no : goal.returns-clause-no
returns-clause-no c = λ f q at m legal.
    let items = c.as_slice-man-items.result.now in
    let men = c.args.setup.now.men.items in
    let side = c.args.setup.now.to_move in
    let t = (targets_found c.args.class c.args.number q at c.requires.plain men side c.requires.encodes).mover m legal in
    let s = safe_by c.args.class c.args.number q at c.requires.plain men side c.requires.encodes m legal t.0 t.1 t.2 in
    let C : List Man → Type 0 = λ xs. Contains xs t.0 in
    false≢true (sym (c.loop-man.invariant t.0
    (subst C (sym (take_all c.loop-man.man-index items (let h = c.loop-man-test.false in omega (arith, h))))
    (subst C (sym c.as_slice-man-items.ensures.value) t.1))
    s.1 m.target s.0) ∙ s.2)
