use Rattle.std.proofs.Common.{◌≡◌, ℕ, false, true, List, Some, refl, sym, ◌∙◌, ap}
use Rattle.std.proofs.lemmas.Bool.{false≢true, not-false, not-true}
use Rattle.study_board.specs.declared.men.Man.{Man}
use Rattle.study_board.specs.Men.{same_side}
use Rattle.study_board.specs.Position.{Position, is_occupied}
use Rattle.study_board.specs.Sets.{has}
use Rattle.study_board.proofs.EqualMen.{side_same}
use Rattle.study_board.proofs.SquareLists.{first-of, none-of-empty}
use Rattle.study_moves.specs.Rules.{reaches_last_rank}
use Rattle.study_moves.specs.AnyOrder.{is_safe_target}
use Rattle.study_index.specs.Computed.{position_numbered}
use Rattle.study_levels.proofs.SquaresLeft.{in-one, not-other, in-one-alone, still-among, taken-too}
use Rattle.study_retro.specs.ClassGame.{class_game}
use Rattle.study_retro.specs.Still.{IsWonAfter, move_to}
use Rattle.study_retro.proofs.BackLemmas.{occupied_same, safe_by, safe_plain, some_legal}
use Rattle.study_retro.proofs.numbers.moves.quiet_moves_of.Goals as goal

-- no man of the other side moves
pub returns-then-ne-clause-no : goal.returns-then-ne-clause-no
returns-then-ne-clause-no g c = λ f q at x legal quiet.
    let man = c.args.mover.man.now in
    let s = safe_by c.args.game.now.class c.args.number q at c.requires.plain c.args.mover.setup.now.men.items c.args.mover.setup.now.to_move c.requires.encodes
    (move_to man x) legal man c.requires.man refl in
    absurd (false≢true (sym (sym (side_same _ _) ∙ not-true _ (sym c.ne.ensures ∙ c.if-ne.true)) ∙ s.1))

pub loop-target-init : goal.loop-target-init
loop-target-init g c = record {
  among = λ y on e. e;
  lose = λ x on e out. absurd (false≢true (sym out ∙ e));
  some = λ t. absurd (false≢true t);
}

pub loses_after-requires-clause-safe : goal.loses_after-requires-clause-safe
loses_after-requires-clause-safe g c =
    let f = first-of _ _ _ c.in-Some.ensures.steps in
    let x = c.in-Some.target in
    ap (λ (zs : List Man). is_safe_target zs c.args.mover.setup.now.to_move c.args.mover.man.now x) (sym c.as_slice-men.ensures.value)
    ∙ sym (c.safe_targets.ensures x f.inside)
    ∙ in-one _ _ (sym (ap (λ (s : ℕ). has s x) c.into_iter-target-iterator.ensures.into_iter_gives ∙ c.without-free.ensures x f.inside)
    ∙ c.loop-target.invariant.among x f.inside f.there)

pub loses_after-requires-clause-free : goal.loses_after-requires-clause-free
loses_after-requires-clause-free g c =
    let f = first-of _ _ _ c.in-Some.ensures.steps in
    let x = c.in-Some.target in
    ap (λ (zs : List Man). is_occupied zs x) (sym c.as_slice-men.ensures.value)
    ∙ sym (c.occupied_squares.ensures x f.inside)
    ∙ not-other _ _ (sym (ap (λ (s : ℕ). has s x) c.into_iter-target-iterator.ensures.into_iter_gives ∙ c.without-free.ensures x f.inside)
    ∙ c.loop-target.invariant.among x f.inside f.there)

pub loop-target-preserved : goal.loop-target-preserved
loop-target-preserved g c =
    let f = first-of _ _ _ c.in-Some.ensures.steps in
    let a = c.in-Some.target in
    let inv = c.loop-target.invariant in
    let man = c.args.mover.man.now in
    let all = c.into_iter-target-iterator.result in
    let set = c.loop-target.target-iterator in
    let own : same_side man.side c.args.mover.setup.now.to_move ≡ true = sym (side_same _ _) ∙ not-false _ (sym c.ne.ensures ∙ c.if-ne.false) in
    let safe : is_safe_target c.args.mover.setup.now.men.items c.args.mover.setup.now.to_move man a ≡ true =
    ap (λ (zs : List Man). is_safe_target zs c.args.mover.setup.now.to_move man a) (sym c.as_slice-men.ensures.value)
    ∙ sym (c.safe_targets.ensures a f.inside)
    ∙ in-one _ _ (sym (ap (λ (s : ℕ). has s a) c.into_iter-target-iterator.ensures.into_iter_gives ∙ c.without-free.ensures a f.inside)
    ∙ inv.among a f.inside f.there) in
    record {
      some = λ t q at. some_legal c.args.game.now.class c.args.number q at c.requires.plain
          c.args.mover.setup.now.men.items c.args.mover.setup.now.to_move c.requires.encodes man c.requires.man own a f.inside safe;
      among = still-among all set a c.next.new.self f inv.among;
      lose = taken-too all set a c.next.new.self f (λ (x : ℕ). reaches_last_rank man x ≡ false → (q : Position)
          → position_numbered c.args.game.now.class c.args.number ≡ Some q
          → IsWonAfter (class_game c.args.game.now.class c.args.game.now.tables.now) c.args.cells.now c.args.level q (move_to man x)) inv.lose
          (λ plain q at. c.loses_after.ensures.yes c.if-not-loses_after.false plain q
          (ap (λ (n : ℕ). position_numbered c.args.game.now.class n) c.new-departure.ensures.number ∙ at));
    }

pub returns-clause-no : goal.returns-clause-no
returns-clause-no g c = λ f q at x legal quiet.
    let man = c.args.mover.man.now in
    let men = c.args.mover.setup.now.men.items in
    let side = c.args.mover.setup.now.to_move in
    let class = c.args.game.now.class in
    let s = safe_by class c.args.number q at c.requires.plain men side c.requires.encodes (move_to man x) legal man c.requires.man refl in
    let plain = safe_plain class c.args.number q at c.requires.plain men side c.requires.encodes (move_to man x) legal man c.requires.man refl refl in
    let free = occupied_same class c.args.number q at c.requires.plain men side c.requires.encodes x ∙ quiet.0 in
    let there = ap (λ (set : ℕ). has set x) c.into_iter-target-iterator.ensures.into_iter_gives ∙ c.without-free.ensures x s.0
    ∙ in-one-alone _ _ (c.safe_targets.ensures x s.0 ∙ ap (λ (zs : List Man). is_safe_target zs side man x) c.as_slice-men.ensures.value ∙ s.2)
    (c.occupied_squares.ensures x s.0 ∙ ap (λ (zs : List Man). is_occupied zs x) c.as_slice-men.ensures.value ∙ free) in
    c.loop-target.invariant.lose x s.0 there (none-of-empty _ c.in-None.ensures.steps.0 x s.0) plain q at
