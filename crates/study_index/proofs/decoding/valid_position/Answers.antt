use Rattle.std.proofs.Common.{◌≡◌, ◌<◌, false, true, sym, subst, List, ap, refl, ◌∙◌}
use Rattle.std.specs.Prelude.{Option, Some, None, is_some}
use Rattle.std.specs.List.{All}
use Rattle.study_board.specs.declared.fault.PositionFault.{PositionFault}
use Rattle.study_board.specs.declared.men.Man.{Man}
use Rattle.study_board.proofs.MenInOrder.{IsPermutation-in_order}
use Rattle.study_board.proofs.Valid.{valid_in_order}
use Rattle.study_index.proofs.decoding.valid_position.Goals as goal

no-fault : (o : Option PositionFault) → is_some o ≡ false → o ≡ None
no-fault None e = refl
no-fault (Some x) e = let no : true ≡ false = e in cc

pub of-position-requires : goal.of-position-requires
of-position-requires c =
    let none = no-fault _ (sym c.has_fault.ensures ∙ c.if-has_fault.false) in
    let e = c.in_order-list.ensures.value in
    let all = subst (λ (l : List Man). All (λ m. m.at < 64) l) e c.in_order-list.ensures.on_board in
    rw e (valid_in_order c.args.men.now c.args.to_move c.args.passed all none)

pub returns-clause-some : goal.returns-clause-some
returns-clause-some c =
    let none = no-fault _ (sym c.has_fault.ensures ∙ c.if-has_fault.false) in
    let e = c.in_order-list.ensures.value in
    let all = subst (λ (l : List Man). All (λ m. m.at < 64) l) e c.in_order-list.ensures.on_board in
    let is = c.of-position.ensures.value in
    let men = ap (λ p. p.men) is ∙ e in
    record {
      valid = rw (is, e) (valid_in_order c.args.men.now c.args.to_move c.args.passed all none);
      same_men = rw men (IsPermutation-in_order c.args.men.now);
      same_side = ap (λ p. p.to_move) is;
      same_passed = ap (λ p. p.passed) is;
    }
