use Rattle.std.proofs.Common.{◌≡◌, ◌∙◌, ◌++◌, ℕ, List, length, sym, ap, arith, append_assoc, length-append}
use Rattle.std.proofs.lemmas.List.{append-nil}
use Rattle.std.specs.List.{flat_map}
use Rattle.study_board.specs.Squares.{squares_of}
use Rattle.study_moves.specs.declared.moves.Move.{Move}
use Rattle.study_wide.specs.LegalList.{legal_between, legal_from}
use Rattle.study_wide.proofs.MovesOfMan.{from_targets}
use Rattle.study_wide.proofs.FewMovesOfMan.{few_moves}
use Rattle.study_wide.proofs.movegen.add_moves_of.Goals as goal

pub loop-target-init : goal.loop-target-init
loop-target-init c =
    ap (λ (l : List Move). c.args.list.now.items ++ l)
    (ap (λ (set : ℕ). flat_map (legal_between c.args.p.now c.args.man.now.at) (squares_of set)) c.into_iter-target-iterator.ensures.into_iter_gives
    ∙ from_targets c.args.p.now c.args.man.now.at c.possible_targets-target-items.result c.possible_targets-target-items.ensures)

pub add_moves_to-requires-clause-room : goal.add_moves_to-requires-clause-room
add_moves_to-requires-clause-room c =
    let f = legal_between c.args.p.now c.args.man.now.at in
    let t = c.in-Some.target in
    let rest = flat_map f (squares_of c.next.new.self) in
    let list = c.loop-target.list.items in
    let whole : list ++ (f t ++ rest) ≡ c.args.list.now.items ++ legal_from c.args.p.now c.args.man.now.at =
    ap (λ (s : List ℕ). list ++ flat_map f s) (sym c.in-Some.ensures.steps) ∙ c.loop-target.invariant in
    let lengths = ap (λ (l : List Move). length l) whole in
    let a = length-append list (f t ++ rest) in
    let b = length-append (f t) rest in
    let d = length-append c.args.list.now.items (legal_from c.args.p.now c.args.man.now.at) in
    let few = few_moves c.args.p.now c.args.man.now c.men-men.ensures.valid c.requires.here c.number-origin.ensures.small in
    omega (arith, lengths, a, b, d, few, c.requires.room)

pub loop-target-preserved : goal.loop-target-preserved
loop-target-preserved c =
    let f = legal_between c.args.p.now c.args.man.now.at in
    let t = c.in-Some.target in
    let rest = flat_map f (squares_of c.next.new.self) in
    let list = c.loop-target.list.items in
    rw c.add_moves_to.ensures (append_assoc list (f t) rest)
    ∙ (ap (λ (s : List ℕ). list ++ flat_map f s) (sym c.in-Some.ensures.steps) ∙ c.loop-target.invariant)

pub returns-clause-moves : goal.returns-clause-moves
returns-clause-moves c =
    let f = legal_between c.args.p.now c.args.man.now.at in
    let list = c.loop-target.list.items in
    sym (append-nil list) ∙ (ap (λ (s : List ℕ). list ++ flat_map f s) (sym c.in-None.ensures.steps.0) ∙ c.loop-target.invariant)

pub returns-clause-few : goal.returns-clause-few
returns-clause-few c =
    let f = legal_between c.args.p.now c.args.man.now.at in
    let list = c.loop-target.list.items in
    let moves : list ≡ c.args.list.now.items ++ legal_from c.args.p.now c.args.man.now.at =
    sym (append-nil list) ∙ (ap (λ (s : List ℕ). list ++ flat_map f s) (sym c.in-None.ensures.steps.0) ∙ c.loop-target.invariant) in
    let lengths = ap (λ (l : List Move). length l) moves in
    let d = length-append c.args.list.now.items (legal_from c.args.p.now c.args.man.now.at) in
    let few = few_moves c.args.p.now c.args.man.now c.men-men.ensures.valid c.requires.here c.number-origin.ensures.small in
    omega (arith, lengths, d, few)
