use Rattle.std.proofs.Common.{◌≡◌, ℕ, ◌+◌, ◌*◌, List, Contains, sym, ◌∙◌, ap, subst}
use Rattle.study_board.specs.declared.men.Man.{Man}
use Rattle.study_board.specs.declared.men.Side.{Side}
use Rattle.study_board.specs.Men.{same_side}
use Rattle.study_board.specs.Position.{is_occupied}
use Rattle.study_board.proofs.SquareLists.{first-of, none-of-empty}
use Rattle.study_moves.specs.AnyOrder.{is_safe_target}
use Rattle.study_values.specs.Number.{without_bit}
use Rattle.study_index.specs.Decoded.{slots_of, decoded_men}
use Rattle.study_index.specs.Computed.{position_numbered}
use Rattle.study_index.proofs.ClassLaws.{below}
use Rattle.study_index.proofs.ComputedIndex.{decoded_of_numbered}
use Rattle.study_retro.specs.ClassGame.{class_game}
use Rattle.study_levels.specs.Numbered.{NoLossBy}
use Rattle.study_retro.proofs.SquaresKept.{first-as, kept-none, kept-with, kept-without}
use Rattle.study_retro.proofs.rows.quiet_moves.losing_each.Goals as goal

pub loop-square-init : goal.loop-square-init
loop-square-init g c = kept-none _ _ _ _ _ c.into_iter-square-iterator.ensures.into_iter_gives c.empty-losing.ensures

pub new-one-requires : goal.new-one-requires
new-one-requires g c =
    let class = c.args.game.now.class in
    let y = c.from.result in
    let f = first-as _ _ _ y c.in-Some.ensures.steps (c.from.ensures ∙ c.number.ensures.value) in
    let number = 64 * c.args.departure.now.row + y in
    let q = c.requires.numbered y f.inside (c.loop-square.invariant.among y f.inside f.there) in
    below class number q.0 (decoded_of_numbered class number q.0 q.1)

pub loses_after-requires-clause-numbered : goal.loses_after-requires-clause-numbered
loses_after-requires-clause-numbered g c =
    let y = c.from.result in
    let f = first-as _ _ _ y c.in-Some.ensures.steps (c.from.ensures ∙ c.number.ensures.value) in
    let q = c.requires.numbered y f.inside (c.loop-square.invariant.among y f.inside f.there) in
    (q.0, ap (λ (n : ℕ). position_numbered c.args.game.now.class n) c.new-one.ensures.number ∙ q.1)

pub loses_after-requires-clause-man : goal.loses_after-requires-clause-man
loses_after-requires-clause-man g c =
    let y = c.from.result in
    let f = first-as _ _ _ y c.in-Some.ensures.steps (c.from.ensures ∙ c.number.ensures.value) in
    let can = c.requires.going y f.inside (c.loop-square.invariant.among y f.inside f.there) in
    subst (λ (ms : List Man). Contains ms c.args.man.now) (sym c.decode_men-setup.ensures.men) can.among

pub loses_after-requires-clause-side : goal.loses_after-requires-clause-side
loses_after-requires-clause-side g c =
    let y = c.from.result in
    let f = first-as _ _ _ y c.in-Some.ensures.steps (c.from.ensures ∙ c.number.ensures.value) in
    let can = c.requires.going y f.inside (c.loop-square.invariant.among y f.inside f.there) in
    ap (λ (s : Side). same_side c.args.man.now.side s) c.decode_men-setup.ensures.to_move ∙ can.own

pub loses_after-requires-clause-safe : goal.loses_after-requires-clause-safe
loses_after-requires-clause-safe g c =
    let class = c.args.game.now.class in
    let number = 64 * c.args.departure.now.row + c.from.result in
    let y = c.from.result in
    let f = first-as _ _ _ y c.in-Some.ensures.steps (c.from.ensures ∙ c.number.ensures.value) in
    let can = c.requires.going y f.inside (c.loop-square.invariant.among y f.inside f.there) in
    ap (λ (ms : List Man). is_safe_target ms c.decode_men-setup.result.to_move c.args.man.now c.args.target) c.decode_men-setup.ensures.men
    ∙ (ap (λ (s : Side). is_safe_target (decoded_men (slots_of class) (without_bit number)) s c.args.man.now c.args.target) c.decode_men-setup.ensures.to_move
    ∙ can.safe)

pub loses_after-requires-clause-free : goal.loses_after-requires-clause-free
loses_after-requires-clause-free g c =
    let y = c.from.result in
    let f = first-as _ _ _ y c.in-Some.ensures.steps (c.from.ensures ∙ c.number.ensures.value) in
    let can = c.requires.going y f.inside (c.loop-square.invariant.among y f.inside f.there) in
    ap (λ (ms : List Man). is_occupied ms c.args.target) c.decode_men-setup.ensures.men ∙ can.free

pub loop-square-preserved-then-loses_after : goal.loop-square-preserved-then-loses_after
loop-square-preserved-then-loses_after g c =
    let f = first-of _ _ _ c.in-Some.ensures.steps in
    let same : c.from.result ≡ c.in-Some.square = c.from.ensures ∙ c.number.ensures.value in
    kept-with _ _ _ _ _ c.loop-square.invariant _ _ f c.from.result same _ _ c.of.ensures c.union-losing.ensures
    (λ plain q at. c.loses_after.ensures.yes c.if-loses_after.true plain q
    (ap (λ (n : ℕ). position_numbered c.args.game.now.class n) c.new-one.ensures.number ∙ at))

pub loop-square-preserved : goal.loop-square-preserved
loop-square-preserved g c =
    let f = first-of _ _ _ c.in-Some.ensures.steps in
    let same : c.from.result ≡ c.in-Some.square = c.from.ensures ∙ c.number.ensures.value in
    kept-without _ _ _ _ _ c.loop-square.invariant _ _ f c.from.result same
    (subst (λ (n : ℕ). NoLossBy (class_game c.args.game.now.class c.args.game.now.tables.now) c.args.cells.now c.args.level n) c.new-one.ensures.number
    (c.loses_after.ensures.no c.if-loses_after.false))

pub returns-clause-only : goal.returns-clause-only
returns-clause-only g c = λ y on e. (c.loop-square.invariant.keeps y on e).0

pub returns-clause-yes : goal.returns-clause-yes
returns-clause-yes g c = λ plain y q on e at. (c.loop-square.invariant.keeps y on e).1 plain q at

pub returns-clause-no : goal.returns-clause-no
returns-clause-no g c = λ y on e n. c.loop-square.invariant.others y on e (none-of-empty _ c.in-None.ensures.steps.0 y on) n
