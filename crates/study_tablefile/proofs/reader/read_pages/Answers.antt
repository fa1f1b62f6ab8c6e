use Rattle.std.proofs.Common.{◌≡◌, ℕ, suc, ◌+◌, ◌*◌, ◌-◌, List, drop, Some, rules, arith, inl, inr, ap, ◌∙◌}
use Rattle.study_values.specs.Size.{pages_of}
use Rattle.study_tablefile.proofs.BytesGiven.{pages_stop, pages_step, IfErr-given}
use Rattle.study_tablefile.proofs.StoppedAt.{next_page_at}
use Rattle.study_tablefile.proofs.reader.read_pages.Goals as goal

pub returns-in_err-read_page-clause-fault : goal.returns-in_err-read_page-clause-fault
returns-in_err-read_page-clause-fault g c bytes e =
    let (rest, now, same) = c.loop-number.invariant.read bytes e in
    let more : pages_of c.args.class - c.loop-number.number
    ≡ suc (pages_of c.args.class - (c.loop-number.number + 1)) =
    omega (arith, c.pages-count.ensures, c.loop-number-test.true) in
    IfErr-given c.from_residual.result c.in_err-read_page.field-0.0 _ (search rules) (elim (c.in_err-read_page.ensures.fault rest now) [
      | inl device ↦ inl device
      | inr fault ↦ inr (same ∙ pages_stop c.args.class c.args.version c.loop-number.number _ _ _ _ rest _ c.fields-fields.ensures more fault)
    ])

pub loop-number-preserved : goal.loop-number-preserved
loop-number-preserved g c =
    let more : pages_of c.args.class - c.loop-number.number
    ≡ suc (pages_of c.args.class - (c.loop-number.number + 1)) =
    omega (arith, c.pages-count.ensures, c.loop-number-test.true) in
    record {
      counted = omega (arith, c.pages-count.ensures, c.loop-number-test.true);
      len = omega (arith, c.in_ok-read_page.ensures.len, c.loop-number.invariant.len);
      room = omega (arith, c.read_page.ensures.capacity, c.loop-number.invariant.room);
      read = λ bytes e.
          let (rest, now, same) = c.loop-number.invariant.read bytes e in
          let page = c.in_ok-read_page.ensures.ok rest now in
          (_, page.0, same ∙ pages_step c.args.class c.args.version c.loop-number.number _ _ _ _ _ rest c.fields-fields.ensures more page.2 page.1);
      stands = λ bytes e.
          (c.in_ok-read_page.ensures.ok _ (c.loop-number.invariant.stands bytes e)).0
          ∙ ap (λ (l : List ℕ). Some l) (next_page_at bytes c.loop-number.number);
    }

pub returns-in_err-read_page-clause-stops : goal.returns-in_err-read_page-clause-stops
returns-in_err-read_page-clause-stops g c bytes e =
    IfErr-given c.from_residual.result c.in_err-read_page.field-0.0 _ (search rules)
    (c.in_err-read_page.ensures.stops bytes (pages_of c.args.class) (c.loop-number.invariant.stands bytes e)
    (omega (arith, c.pages-count.ensures, c.loop-number-test.true)))

pub returns-clause-ends : goal.returns-clause-ends
returns-clause-ends g c bytes e =
    let all : c.loop-number.number ≡ pages_of c.args.class =
    omega (arith, c.pages-count.ensures, c.loop-number-test.false, c.loop-number.invariant.counted) in
    c.loop-number.invariant.stands bytes e ∙ ap (λ (n : ℕ). Some (drop (64 + 4128 * n) bytes)) all
