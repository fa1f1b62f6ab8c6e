use Rattle.std.proofs.Common.{ℕ, ◌+◌, ◌<◌, ◌≤◌, ◌∙◌, List, inl, arith, subst}
use Rattle.std.specs.Io.KnownBytes.{Appends}
use Rattle.study_text.specs.Taken.{TakesPrefix}
use Rattle.study_search.specs.Finding.{IsFound}
use Rattle.study_search.proofs.Faults.{same_on}
use Rattle.study_listing.specs.Lists.{IsListedAt, IsTextAt}
use Rattle.study_listing.proofs.Written.{not-listed, none-listed, written-on, written-more, written-stopped, written-end, next-none, next-some}
use Rattle.study_listing.proofs.Written.{if-some, if-none}
use Rattle.study_listing.proofs.listing.list_numbers.Goals as goal

pub loop-at-preserved-in-Ok-None : goal.loop-at-preserved-in-Ok-None
loop-at-preserved-in-Ok-None g c =
    let s = c.args.selection.now in
    let at = c.loop-at.at in
    let end = c.piece_end-end.result in
    let on = c.piece_end-end.ensures.on in
    let from = c.loop-at.invariant.from in
    let few = c.loop-at.invariant.few in
    let up : at ≤ end = omega (arith, on) in
    record {
      within = inl c.piece_end-end.ensures.within;
      from = omega (arith, from, on);
      few = omega (arith, few, on);
      written = λ h.
          written-on s c.args.form c.args.numbers.from at end (g.W.Write.contents c.args.out.now) (g.W.Write.contents c.loop-at.out) c.loop-at.count
          (c.loop-at.invariant.written h) up
          (not-listed s at end (next-none (IsFound s.search) at end c.in-Ok-None.field-0 (c.in-Ok-None.ensures.game (c.loop-at.invariant.honest h))
          c.in-Ok-None.field-0-is));
      honest = λ h. c.next_found.ensures.honest (c.loop-at.invariant.honest h);
      tables = same_on c.loop-at.invariant.tables c.next_found.ensures.tables;
    }

pub loop-at-preserved-in-Ok-None-text_at : goal.loop-at-preserved-in-Ok-None-text_at
loop-at-preserved-in-Ok-None-text_at g c =
    let s = c.args.selection.now in
    let at = c.loop-at.at in
    let end = c.piece_end-end.result in
    let n = c.in-Ok-Some.number in
    let old = g.W.Write.contents c.args.out.now in
    let mid = g.W.Write.contents c.loop-at.out in
    let bounds = if-some (λ k. (at ≤ k) × (k < end)) n c.in-Ok-Some.field-0 c.in-Ok-Some.ensures.within c.in-Ok-Some.field-0-is in
    let up = bounds.0 in
    let below = bounds.1 in
    let last = c.piece_end-end.ensures.within in
    let from = c.loop-at.invariant.from in
    let few = c.loop-at.invariant.few in
    let to : n + 1 ≤ c.args.numbers.to = omega (arith, below, last) in
    let on : at ≤ n + 1 = omega (arith, up) in
    record {
      within = inl to;
      from = omega (arith, from, up);
      few = omega (arith, few, up);
      written = λ h.
          let honest = c.loop-at.invariant.honest h in
          let after = c.next_found.ensures.honest honest in
          let first = next-some (IsFound s.search) at end n c.in-Ok-Some.field-0 (c.in-Ok-Some.ensures.game honest) c.in-Ok-Some.field-0-is in
          let not = if-none (¬ (IsListedAt s n)) c.in-Ok-None-text_at.field-0 (c.in-Ok-None-text_at.ensures.none after first.2)
          c.in-Ok-None-text_at.field-0-is in
          written-on s c.args.form c.args.numbers.from at (n + 1) old mid c.loop-at.count (c.loop-at.invariant.written h) on
          (none-listed s at n first.3 not);
      honest = λ h. c.text_at.ensures.honest (c.next_found.ensures.honest (c.loop-at.invariant.honest h));
      tables = same_on (same_on c.loop-at.invariant.tables c.next_found.ensures.tables) c.text_at.ensures.tables;
    }

pub returns-in-Err-write_text-clause-device : goal.returns-in-Err-write_text-clause-device
returns-in-Err-write_text-clause-device g c h e =
    let s = c.args.selection.now in
    let at = c.loop-at.at in
    let end = c.piece_end-end.result in
    let n = c.in-Ok-Some.number in
    let old = g.W.Write.contents c.args.out.now in
    let mid = g.W.Write.contents c.loop-at.out in
    let bounds = if-some (λ k. (at ≤ k) × (k < end)) n c.in-Ok-Some.field-0 c.in-Ok-Some.ensures.within c.in-Ok-Some.field-0-is in
    let up = bounds.0 in
    let below = bounds.1 in
    let last = c.piece_end-end.ensures.within in
    let from = c.loop-at.invariant.from in
    let few = c.loop-at.invariant.few in
    let to : n + 1 ≤ c.args.numbers.to = omega (arith, below, last) in
    let honest = c.loop-at.invariant.honest h in
    let after = c.next_found.ensures.honest honest in
    let first = next-some (IsFound s.search) at end n c.in-Ok-Some.field-0 (c.in-Ok-Some.ensures.game honest) c.in-Ok-Some.field-0-is in
    let text = c.in-Ok-Some-text_at.text.bytes in
    let listed = if-some (λ p. IsListedAt s n) c.in-Ok-Some-text_at.text c.in-Ok-Some-text_at.field-0
    (c.in-Ok-Some-text_at.ensures.some after first.2) c.in-Ok-Some-text_at.field-0-is in
    let said = if-some (λ t. IsTextAt s c.args.form n t.bytes) c.in-Ok-Some-text_at.text c.in-Ok-Some-text_at.field-0
    (c.in-Ok-Some-text_at.ensures.text after first.2) c.in-Ok-Some-text_at.field-0-is in
    let same = c.as_bytes.ensures.value ∙ c.as_str.ensures.value in
    written-stopped s c.args.form c.args.numbers.from c.args.numbers.to at n old mid (g.W.Write.contents c.write_text.new.out) c.loop-at.count text
    (c.loop-at.invariant.written h) from up to (not-listed s at n first.3) listed said
    (subst (λ (t : List ℕ). TakesPrefix mid (g.W.Write.contents c.write_text.new.out) t) same c.in-Err-write_text.ensures.err)

pub loop-at-preserved : goal.loop-at-preserved
loop-at-preserved g c =
    let s = c.args.selection.now in
    let at = c.loop-at.at in
    let end = c.piece_end-end.result in
    let n = c.in-Ok-Some.number in
    let old = g.W.Write.contents c.args.out.now in
    let mid = g.W.Write.contents c.loop-at.out in
    let bounds = if-some (λ k. (at ≤ k) × (k < end)) n c.in-Ok-Some.field-0 c.in-Ok-Some.ensures.within c.in-Ok-Some.field-0-is in
    let up = bounds.0 in
    let below = bounds.1 in
    let last = c.piece_end-end.ensures.within in
    let from = c.loop-at.invariant.from in
    let few = c.loop-at.invariant.few in
    let to : n + 1 ≤ c.args.numbers.to = omega (arith, below, last) in
    record {
      within = inl to;
      from = omega (arith, from, up);
      few = omega (arith, few, up);
      written = λ h.
          let honest = c.loop-at.invariant.honest h in
          let after = c.next_found.ensures.honest honest in
          let first = next-some (IsFound s.search) at end n c.in-Ok-Some.field-0 (c.in-Ok-Some.ensures.game honest) c.in-Ok-Some.field-0-is in
          let text = c.in-Ok-Some-text_at.text.bytes in
          let listed = if-some (λ p. IsListedAt s n) c.in-Ok-Some-text_at.text c.in-Ok-Some-text_at.field-0
          (c.in-Ok-Some-text_at.ensures.some after first.2) c.in-Ok-Some-text_at.field-0-is in
          let said = if-some (λ t. IsTextAt s c.args.form n t.bytes) c.in-Ok-Some-text_at.text c.in-Ok-Some-text_at.field-0
          (c.in-Ok-Some-text_at.ensures.text after first.2) c.in-Ok-Some-text_at.field-0-is in
          let same = c.as_bytes.ensures.value ∙ c.as_str.ensures.value in
          written-more s c.args.form c.args.numbers.from at n old mid (g.W.Write.contents c.write_text.new.out) c.loop-at.count text
          (c.loop-at.invariant.written h) from up (not-listed s at n first.3) listed said
          (subst (λ (t : List ℕ). Appends mid (g.W.Write.contents c.write_text.new.out) t) same c.in-Ok.ensures.ok);
      honest = λ h. c.text_at.ensures.honest (c.next_found.ensures.honest (c.loop-at.invariant.honest h));
      tables = same_on (same_on c.loop-at.invariant.tables c.next_found.ensures.tables) c.text_at.ensures.tables;
    }

pub returns-clause-list : goal.returns-clause-list
returns-clause-list g c h =
    let past = c.loop-at-test.false in
    written-end c.args.selection.now c.args.form c.args.numbers.from c.loop-at.at c.args.numbers.to (g.W.Write.contents c.args.out.now)
    (g.W.Write.contents c.loop-at.out) c.loop-at.count (c.loop-at.invariant.written h) c.loop-at.invariant.within (omega (arith, past))
