use Rattle.std.proofs.Common.{◌≡◌, ℕ, ◌+◌, ◌<◌, inl, inr, Some, refl, sym, ◌∙◌, subst}
use Rattle.std.proofs.lemmas.Bool.{false≢true}
use Rattle.study_index.specs.Computed.{position_numbered}
use Rattle.study_retro.specs.Predecessors.{IsBeforeFrom}
use Rattle.study_levels.specs.Propagation.{IsSetWhere}
use Rattle.study_retro.proofs.BackLemmas.{departed, is_before, twin_before, small_before, before_is, before_below, set-then, set-kept, set-why}
use Rattle.study_retro.proofs.numbers.predecessors.write_from.Goals as goal

-- a move that lands on another number is not before this one
pub returns-then-not-leads_to_number_from-clause-done : goal.returns-then-not-leads_to_number_from-clause-done
returns-then-not-leads_to_number_from-clause-done g c = λ n b.
    absurd (false≢true (sym c.if-not-leads_to_number_from.true ∙ (c.leads_to_number_from.ensures b.to b.before.from b.at b.before.leads).1 b.before.lands))

pub write_cell-requires-clause-number : goal.write_cell-requires-clause-number
write_cell-requires-clause-number g c =
    let class = c.args.class in
    let number = c.args.departure.now.number in
    let man = c.args.man.now in
    let a = c.args.origin in
    let k = c.number_to-before.result in
    let q = c.requires.numbered.0 in
    let at = c.requires.numbered.1 in
    let fits =
    departed class c.args.departure.now.class number number man.at c.args.departure.now.from a k c.requires.class refl c.requires.from
    c.number_to-before.ensures in
    let led = c.requires.led q at in
    let lands = (c.leads_to_number_from.ensures q led.from at led.leads).0 c.if-not-leads_to_number_from.false in
    subst (λ (m : ℕ). k < m) (sym c.requires.cells) (before_below class number man a k (is_before class number q at man a k fits led lands))

pub has_en_passant-requires : goal.has_en_passant-requires
has_en_passant-requires g c =
    let class = c.args.class in
    let number = c.args.departure.now.number in
    let man = c.args.man.now in
    let a = c.args.origin in
    let k = c.number_to-before.result in
    let q = c.requires.numbered.0 in
    let at = c.requires.numbered.1 in
    let fits =
    departed class c.args.departure.now.class number number man.at c.args.departure.now.from a k c.requires.class refl c.requires.from
    c.number_to-before.ensures in
    small_before class number q at man a k fits (c.requires.led q at)

pub write_cell-requires-then-has_en_passant-clause-number : goal.write_cell-requires-then-has_en_passant-clause-number
write_cell-requires-then-has_en_passant-clause-number g c =
    let class = c.args.class in
    let number = c.args.departure.now.number in
    let man = c.args.man.now in
    let a = c.args.origin in
    let k = c.number_to-before.result in
    let q = c.requires.numbered.0 in
    let at = c.requires.numbered.1 in
    let fits =
    departed class c.args.departure.now.class number number man.at c.args.departure.now.from a k c.requires.class refl c.requires.from
    c.number_to-before.ensures in
    let led = c.requires.led q at in
    let lands = (c.leads_to_number_from.ensures q led.from at led.leads).0 c.if-not-leads_to_number_from.false in
    let p = c.has_en_passant.ensures.0 c.if-has_en_passant.true in
    let twin = twin_before class number q at man a k fits led lands p.0 p.1 in
    subst (λ (m : ℕ). k + 16777216 < m) (sym (c.write_cell.ensures.size ∙ c.requires.cells)) (before_below class number man a (k + 16777216) twin)

pub returns-then-has_en_passant-clause-rise : goal.returns-then-has_en_passant-clause-rise
returns-then-has_en_passant-clause-rise g c =
    let class = c.args.class in
    let number = c.args.departure.now.number in
    let man = c.args.man.now in
    let a = c.args.origin in
    let k = c.number_to-before.result in
    let q = c.requires.numbered.0 in
    let at = c.requires.numbered.1 in
    let fits =
    departed class c.args.departure.now.class number number man.at c.args.departure.now.from a k c.requires.class refl c.requires.from
    c.number_to-before.ensures in
    let led = c.requires.led q at in
    let lands = (c.leads_to_number_from.ensures q led.from at led.leads).0 c.if-not-leads_to_number_from.false in
    let p = c.has_en_passant.ensures.0 c.if-has_en_passant.true in
    let twin = twin_before class number q at man a k fits led lands p.0 p.1 in
    let cell = c.args.change.cell in
    let over = c.args.change.over in
    let Why : ℕ → Type 0 = IsBeforeFrom class number man a in
    let old = c.args.cells.now in
    let mid = c.write_cell.new.cells in
    let new = c.write_cell-then-has_en_passant.new.cells in
    let before = is_before class number q at man a k fits led lands in
    set-then cell over Why old mid new
    (set-why cell over (λ i. i ≡ k) Why old mid (λ i e. subst Why (sym e) before) c.write_cell.ensures.rise)
    (set-why cell over (λ i. i ≡ k + 16777216) Why mid new (λ i e. subst Why (sym e) twin) c.write_cell-then-has_en_passant.ensures.rise)

pub returns-else-has_en_passant-clause-rise : goal.returns-else-has_en_passant-clause-rise
returns-else-has_en_passant-clause-rise g c =
    let class = c.args.class in
    let number = c.args.departure.now.number in
    let man = c.args.man.now in
    let a = c.args.origin in
    let k = c.number_to-before.result in
    let q = c.requires.numbered.0 in
    let at = c.requires.numbered.1 in
    let fits =
    departed class c.args.departure.now.class number number man.at c.args.departure.now.from a k c.requires.class refl c.requires.from
    c.number_to-before.ensures in
    let led = c.requires.led q at in
    let lands = (c.leads_to_number_from.ensures q led.from at led.leads).0 c.if-not-leads_to_number_from.false in
    let cell = c.args.change.cell in
    let over = c.args.change.over in
    let Why : ℕ → Type 0 = IsBeforeFrom class number man a in
    let old = c.args.cells.now in
    let mid = c.write_cell.new.cells in
    set-why cell over (λ i. i ≡ k) Why old mid (λ i e. subst Why (sym e) (is_before class number q at man a k fits led lands)) c.write_cell.ensures.rise

pub returns-then-has_en_passant-clause-done : goal.returns-then-has_en_passant-clause-done
returns-then-has_en_passant-clause-done g c = λ n b.
    let class = c.args.class in
    let number = c.args.departure.now.number in
    let man = c.args.man.now in
    let a = c.args.origin in
    let k = c.number_to-before.result in
    let q = c.requires.numbered.0 in
    let at = c.requires.numbered.1 in
    let fits =
    departed class c.args.departure.now.class number number man.at c.args.departure.now.from a k c.requires.class refl c.requires.from
    c.number_to-before.ensures in
    let cell = c.args.change.cell in
    let over = c.args.change.over in
    let mid = c.write_cell.new.cells in
    let new = c.write_cell-then-has_en_passant.new.cells in
    elim (before_is class number q at man a k fits n b) [
      | inl e ↦ set-kept cell over (λ i. i ≡ k + 16777216) mid new c.write_cell-then-has_en_passant.ensures.rise c.requires.cell n
          (subst (λ (x : ℕ). IsSetWhere cell over mid x) (sym e) c.write_cell.ensures.done)
      | inr s ↦ subst (λ (x : ℕ). IsSetWhere cell over new x) (sym s.0) c.write_cell-then-has_en_passant.ensures.done
    ]

pub returns-else-has_en_passant-clause-done : goal.returns-else-has_en_passant-clause-done
returns-else-has_en_passant-clause-done g c = λ n b.
    let class = c.args.class in
    let number = c.args.departure.now.number in
    let man = c.args.man.now in
    let a = c.args.origin in
    let k = c.number_to-before.result in
    let q = c.requires.numbered.0 in
    let at = c.requires.numbered.1 in
    let fits =
    departed class c.args.departure.now.class number number man.at c.args.departure.now.from a k c.requires.class refl c.requires.from
    c.number_to-before.ensures in
    elim (before_is class number q at man a k fits n b) [
      | inl e ↦ subst (λ (x : ℕ). IsSetWhere c.args.change.cell c.args.change.over c.write_cell.new.cells x) (sym e) c.write_cell.ensures.done
      | inr s ↦ absurd (false≢true (sym c.if-has_en_passant.false
          ∙ c.has_en_passant.ensures.1 (s.1.0, subst (λ (x : ℕ). position_numbered class x ≡ Some s.1.0) s.0 s.1.1)))
    ]
