use Rattle.std.proofs.Common.{rules, refl, sym, ◌∙◌, ◌≡◌, ap, subst, ◌<◌, ℕ, List, length, arith}
use Rattle.std.specs.Prelude.{Option, is_some, Ok, Err}
use Rattle.study_prober.specs.declared.fault.PagedFault.TheVariants.{OutOfMemory}
use Rattle.study_prober.specs.declared.open_table.OpenTable.{OpenTable}
use Rattle.study_material.specs.declared.class.Class.{Class}
use denote.Enum.Bare.{differs_true, differs_false}
use Rattle.study_material.specs.contracts.class.Class.{the_type}
use Rattle.study_prober.specs.Sources.{IsHeaderOf, GivesRight}
use Rattle.study_tablefile.specs.Format.{IsVersionOf}
use Rattle.study_prober.specs.PagedTables.{Paged, held_of, SourcesAreRight}
use Rattle.study_prober.specs.HeaderAnswers.{MayAnswer}
use Rattle.study_prober.proofs.GivenPages.{given_with}
use Rattle.std.proofs.lemmas.List.{length-set}
use Rattle.study_prober.proofs.Faults.{fault_held, fault_other, fault_none}
use Rattle.study_prober.proofs.HeldSources.{kept_with, places_length, right_with, gives_more}
use Rattle.study_prober.proofs.paged_tables.PagedTables.add.Goals as goal

pub returns-then-holds-clause-fault : goal.returns-then-holds-clause-fault
returns-then-holds-clause-fault g c =
    fault_held (MayAnswer g.S.PageSource.gives g.S.PageSource.honest c.args.source)
    (is_some (held_of c.args.self.now.sources c.args.class)) c.args.class (sym c.holds.ensures ∙ c.if-holds.true)

pub returns-then-ne-clause-fault : goal.returns-then-ne-clause-fault
returns-then-ne-clause-fault g c =
    fault_other (MayAnswer g.S.PageSource.gives g.S.PageSource.honest c.args.source)
    (is_some (held_of c.args.self.now.sources c.args.class)) c.args.class c.in_ok-header.header
    (sym c.holds.ensures ∙ c.if-holds.false)
    (differs_true the_type _ _ (sym c.ne.ensures ∙ c.if-ne.true)) c.in_ok-header.ensures.reported

pub returns-in_default-clause-fault : goal.returns-in_default-clause-fault
returns-in_default-clause-fault g c =
    fault_none (MayAnswer g.S.PageSource.gives g.S.PageSource.honest c.args.source)
    (is_some (held_of c.args.self.now.sources c.args.class)) c.args.class c.in_ok-header.header
    (Err OutOfMemory) (sym c.holds.ensures ∙ c.if-holds.false)
    (differs_false the_type (search rules) _ _ (sym c.ne.ensures ∙ c.if-ne.false))
    refl c.in_ok-header.ensures.reported

pub invariant_of-self-2 : goal.invariant_of-self-2
invariant_of-self-2 g c =
    let same = ap (λ (w : Paged g.row.S.Denot). is_some (held_of w.sources c.args.class)) c.self.view_is in
    let of_class = differs_false the_type (search rules) c.in_ok-header.header.class c.args.class (sym c.ne.ensures ∙ c.if-ne.false) in
    let small = subst (λ (n : ℕ). n < 36) c.number.ensures.value c.number.ensures.small in
    let long = places_length c.self.inside.sources.items c.self.invariant.0.some in
    let none = same ∙ sym c.holds.ensures ∙ c.if-holds.false in (
      rw c.in-Ok.ensures.made
          (rw c.number.ensures.value (kept_with g.S.PageSource.honest (λ v. v.items) c.self.inside.sources.items
          c.self.inside.kept.entries c.args.class
          (record { header = c.in_ok-header.header; source = c.header_of.new.source }) c.self.invariant.0
          none (subst (λ (x : Class). IsHeaderOf c.in_ok-header.header x) of_class c.in_ok-header.ensures.header) small)),
      rw c.in-Ok.ensures.made
          (rw c.number.ensures.value
          (given_with g.S.PageSource.gives (λ v. v.items) g.S.PageSource.honest c.self.inside.sources.items
          c.self.inside.kept.entries c.args.class
          (record { header = c.in_ok-header.header; source = c.header_of.new.source }) c.self.invariant.0
          c.self.invariant.1
          none (omega (arith, long, small)))),
    )

pub returns-clause-fault : goal.returns-clause-fault
returns-clause-fault g c =
    fault_none (MayAnswer g.S.PageSource.gives g.S.PageSource.honest c.args.source)
    (is_some (held_of c.args.self.now.sources c.args.class)) c.args.class c.in_ok-header.header (Ok tt)
    (sym c.holds.ensures ∙ c.if-holds.false)
    (differs_false the_type (search rules) _ _ (sym c.ne.ensures ∙ c.if-ne.false)) tt c.in_ok-header.ensures.reported

pub returns-clause-added : goal.returns-clause-added
returns-clause-added g c =
    let of_class = differs_false the_type (search rules) c.in_ok-header.header.class c.args.class (sym c.ne.ensures ∙ c.if-ne.false) in (
      record { header = c.in_ok-header.header; source = c.header_of.new.source },
      subst (λ (x : Class). IsHeaderOf c.in_ok-header.header x) of_class c.in_ok-header.ensures.header,
      λ t v known honest. (c.in_ok-header.ensures.reads t v known honest).1,
      c.in_ok-header.ensures.same,
      c.in_ok-header.ensures.alike,
      c.in_ok-header.ensures.count,
      rw (← c.self.view_is) (rw c.in-Ok.ensures.made (rw c.number.ensures.value refl)),
      c.in_ok-header.ensures.asked,
    )

pub returns-clause-honest : goal.returns-clause-honest
returns-clause-honest g c = λ v known all right.
    let version = (c.in_ok-header.ensures.reads right.table v (subst (λ (x : Class). IsVersionOf x v) (sym right.of_class) known) right.is_honest).1 in
    let same = ap (λ (w : Paged g.row.S.Denot). is_some (held_of w.sources c.args.class)) c.self.view_is in
    let of_class = differs_false the_type (search rules) c.in_ok-header.header.class c.args.class (sym c.ne.ensures ∙ c.if-ne.false) in
    let before = subst (λ (w : Paged g.row.S.Denot). SourcesAreRight g.S.PageSource.honest w.sources) (sym c.self.view_is) all in
    rw c.in-Ok.ensures.made
    (rw c.number.ensures.value (right_with g.S.PageSource.honest (λ v. v.items) c.self.inside.sources.items
    c.self.inside.kept.entries c.args.class
    (record { header = c.in_ok-header.header; source = c.header_of.new.source }) c.self.invariant.0
    (same ∙ sym c.holds.ensures ∙ c.if-holds.false)
    (subst (λ (x : Class). IsHeaderOf c.in_ok-header.header x) of_class c.in_ok-header.ensures.header)
    (subst (λ (n : ℕ). n < 36) c.number.ensures.value c.number.ensures.small) before
    (subst (λ (n : ℕ). GivesRight g.S.PageSource.honest c.header_of.new.source n c.args.class) (sym version)
    (gives_more g.S.PageSource.honest c.args.source c.header_of.new.source v c.args.class
    c.in_ok-header.ensures.same right))))

pub index_mut-requires : goal.index_mut-requires
index_mut-requires g c =
    let long : length c.make_places.new.sources.items ≡ 36 =
    ap (λ (xs : List (Option (OpenTable g.row.S.Denot))). length xs) c.in-Ok.ensures.made
    ∙ places_length c.self.inside.sources.items c.self.invariant.0.some in
    omega (arith, long, c.number.ensures.small)

pub returns-clause-own : goal.returns-clause-own
returns-clause-own g c = λ t v known honest.
    let of_class = differs_false the_type (search rules) c.in_ok-header.header.class c.args.class (sym c.ne.ensures ∙ c.if-ne.false) in
    sym (c.in_ok-header.ensures.reads t v known honest).0 ∙ of_class

pub returns-clause-places : goal.returns-clause-places
returns-clause-places g c =
    let long : length c.make_places.new.sources.items ≡ 36 =
    ap (λ (xs : List (Option (OpenTable g.row.S.Denot))). length xs) c.in-Ok.ensures.made
    ∙ places_length c.self.inside.sources.items c.self.invariant.0.some in
    length-set _ _ _ ∙ long
