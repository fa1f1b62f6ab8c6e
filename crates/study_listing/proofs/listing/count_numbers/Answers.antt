use Rattle.std.proofs.Common.{◌+◌, ◌<◌, ◌≤◌, inl, arith}
use Rattle.study_search.specs.Finding.{IsFound}
use Rattle.study_search.proofs.Faults.{same_on}
use Rattle.study_listing.specs.Lists.{IsListedAt}
use Rattle.study_listing.proofs.Written.{not-listed, none-listed, many-on, many-more, many-end, next-none, next-some, if-some, if-none}
use Rattle.study_listing.proofs.listing.count_numbers.Goals as goal

pub loop-at-preserved-in-Ok-None : goal.loop-at-preserved-in-Ok-None
loop-at-preserved-in-Ok-None g c =
    let s = c.args.selection.now in
    let at = c.loop-at.at in
    let end = c.piece_end-end.result in
    let on = c.piece_end-end.ensures.on in
    let from = c.loop-at.invariant.from in
    let few = c.loop-at.invariant.few in
    let up : at ≤ end = omega (arith, on) in
    record {
      within = inl c.piece_end-end.ensures.within;
      from = omega (arith, from, on);
      few = omega (arith, few, on);
      counted = λ h.
          many-on s c.args.numbers.from at end c.loop-at.count (c.loop-at.invariant.counted h) up
          (not-listed s at end (next-none (IsFound s.search) at end c.in-Ok-None.field-0 (c.in-Ok-None.ensures.game (c.loop-at.invariant.honest h))
          c.in-Ok-None.field-0-is));
      honest = λ h. c.next_found.ensures.honest (c.loop-at.invariant.honest h);
      tables = same_on c.loop-at.invariant.tables c.next_found.ensures.tables;
    }

pub loop-at-preserved-in-Ok-None-listed_at : goal.loop-at-preserved-in-Ok-None-listed_at
loop-at-preserved-in-Ok-None-listed_at g c =
    let s = c.args.selection.now in
    let at = c.loop-at.at in
    let end = c.piece_end-end.result in
    let n = c.in-Ok-Some.number in
    let bounds = if-some (λ k. (at ≤ k) × (k < end)) n c.in-Ok-Some.field-0 c.in-Ok-Some.ensures.within c.in-Ok-Some.field-0-is in
    let up = bounds.0 in
    let below = bounds.1 in
    let last = c.piece_end-end.ensures.within in
    let from = c.loop-at.invariant.from in
    let few = c.loop-at.invariant.few in
    let to : n + 1 ≤ c.args.numbers.to = omega (arith, below, last) in
    let on : at ≤ n + 1 = omega (arith, up) in
    record {
      within = inl to;
      from = omega (arith, from, up);
      few = omega (arith, few, up);
      counted = λ h.
          let honest = c.loop-at.invariant.honest h in
          let first = next-some (IsFound s.search) at end n c.in-Ok-Some.field-0 (c.in-Ok-Some.ensures.game honest) c.in-Ok-Some.field-0-is in
          let not = if-none (¬ (IsListedAt s n)) c.in-Ok-None-listed_at.field-0
          (c.in-Ok-None-listed_at.ensures.none (c.next_found.ensures.honest honest) first.2) c.in-Ok-None-listed_at.field-0-is in
          many-on s c.args.numbers.from at (n + 1) c.loop-at.count (c.loop-at.invariant.counted h) on (none-listed s at n first.3 not);
      honest = λ h. c.listed_at.ensures.honest (c.next_found.ensures.honest (c.loop-at.invariant.honest h));
      tables = same_on (same_on c.loop-at.invariant.tables c.next_found.ensures.tables) c.listed_at.ensures.tables;
    }

pub loop-at-preserved : goal.loop-at-preserved
loop-at-preserved g c =
    let s = c.args.selection.now in
    let at = c.loop-at.at in
    let end = c.piece_end-end.result in
    let n = c.in-Ok-Some.number in
    let bounds = if-some (λ k. (at ≤ k) × (k < end)) n c.in-Ok-Some.field-0 c.in-Ok-Some.ensures.within c.in-Ok-Some.field-0-is in
    let up = bounds.0 in
    let below = bounds.1 in
    let last = c.piece_end-end.ensures.within in
    let from = c.loop-at.invariant.from in
    let few = c.loop-at.invariant.few in
    let to : n + 1 ≤ c.args.numbers.to = omega (arith, below, last) in
    record {
      within = inl to;
      from = omega (arith, from, up);
      few = omega (arith, few, up);
      counted = λ h.
          let honest = c.loop-at.invariant.honest h in
          let first = next-some (IsFound s.search) at end n c.in-Ok-Some.field-0 (c.in-Ok-Some.ensures.game honest) c.in-Ok-Some.field-0-is in
          let listed = if-some (λ p. IsListedAt s n) c.in-Ok-Some-listed_at.field-0-0 c.in-Ok-Some-listed_at.field-0
          (c.in-Ok-Some-listed_at.ensures.some (c.next_found.ensures.honest honest) first.2) c.in-Ok-Some-listed_at.field-0-is in
          many-more s c.args.numbers.from at n c.loop-at.count (c.loop-at.invariant.counted h) from up (not-listed s at n first.3) listed;
      honest = λ h. c.listed_at.ensures.honest (c.next_found.ensures.honest (c.loop-at.invariant.honest h));
      tables = same_on (same_on c.loop-at.invariant.tables c.next_found.ensures.tables) c.listed_at.ensures.tables;
    }

pub returns-clause-count : goal.returns-clause-count
returns-clause-count g c h =
    let past = c.loop-at-test.false in
    many-end c.args.selection.now c.args.numbers.from c.loop-at.at c.args.numbers.to c.loop-at.count (c.loop-at.invariant.counted h)
    c.loop-at.invariant.within (omega (arith, past))
