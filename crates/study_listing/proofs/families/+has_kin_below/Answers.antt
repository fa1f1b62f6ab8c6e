use Rattle.std.proofs.Common.{◌≡◌, ◌-◌, ◌↔◌, true, arith, subst}
use Rattle.study_values.specs.Index.{index_of}
use Rattle.study_listing.specs.Families.{IsMovedTo}
use Rattle.study_listing.specs.Lists.{IsEarlierKin}
use Rattle.study_listing.proofs.Kin.{below-none, below-here, below-on}
use Rattle.study_listing.proofs.families.+has_kin_below.Goals as goal

pub returns-then-end-eq0-clause-game : goal.returns-then-end-eq0-clause-game
returns-then-end-eq0-clause-game g t c h =
    let kin = IsEarlierKin c.args.selection.now (index_of c.args.p.now) c.args.key.now.outcome c.args.key.now.played in
    below-none (IsMovedTo kin c.args.p.now c.args.from) c.args.end c.if-end-eq0.true

pub returns-in-Ok-true-clause-game : goal.returns-in-Ok-true-clause-game
returns-in-Ok-true-clause-game g t c h =
    let kin = IsEarlierKin c.args.selection.now (index_of c.args.p.now) c.args.key.now.outcome c.args.key.now.played in
    let Q = IsMovedTo kin c.args.p.now c.args.from in
    below-here Q (c.args.end - 1) c.args.end (omega (arith, c.if-end-eq0.false))
    (subst Q c.at.ensures ((c.in-Ok-true.ensures.game h).0 c.in-Ok-true.field-0-test))

pub returns-in-Ok-false-clause-game : goal.returns-in-Ok-false-clause-game
returns-in-Ok-false-clause-game g t c h =
    let kin = IsEarlierKin c.args.selection.now (index_of c.args.p.now) c.args.key.now.outcome c.args.key.now.played in
    let Q = IsMovedTo kin c.args.p.now c.args.from in
    let b = c.in-Ok-false.field-0 in
    below-on Q (c.args.end - 1) c.args.end b c.has_kin_below.result (omega (arith, c.if-end-eq0.false))
    (subst (λ x. (b ≡ true) ↔ Q x) c.at.ensures (c.in-Ok-false.ensures.game h)) c.in-Ok-false.field-0-test
    (c.has_kin_below.ensures.game (c.has_kin_at.ensures.honest h))
