use denote.Enum.Bare.{same_true, same_false}
use Rattle.std.proofs.Common.{rules, sym, ◌∙◌}
use Rattle.study_material.specs.contracts.class.Class.{the_type}
use Rattle.study_retro.proofs.PlaceLemmas.{place_home, place_away, table_class, table_value, table_held}
use Rattle.study_retro.proofs.class_game.ClassGameGame.place.Goals as goal

pub returns-then-eq : goal.returns-then-eq
returns-then-eq g c =
    place_home c.args.self.now.tables.now c.args.self.now.class c.class_of-class.result.0 c.args.at.now c.args.self.now.closed c.class_of-class.ensures.class
    c.index.result c.requires.valid (same_true the_type (search rules) _ _ (sym c.eq.ensures ∙ c.if-eq.true)) c.index.ensures.least

pub at-requires : goal.at-requires
at-requires g c =
    table_class c.args.self.now.tables.now c.args.self.now.class c.class_of-class.result.0 c.args.at.now
    c.args.self.now.closed c.class_of-class.ensures.class c.in-Some.table.now c.in-Some.ensures.value

pub unreachable-requires : goal.unreachable-requires
unreachable-requires g c =
    table_held c.args.self.now.tables.now c.args.self.now.class c.class_of-class.result.0 c.args.at.now c.args.self.now.closed c.class_of-class.ensures.class
    (same_false the_type _ _ (sym c.eq.ensures ∙ c.if-eq.false)) c.args.self.now.ready c.requires c.in-None.ensures.value

pub returns : goal.returns
returns g c = (
  place_away c.args.self.now.tables.now c.args.self.now.class c.class_of-class.result.0 c.args.at.now c.args.self.now.closed c.class_of-class.ensures.class
      (same_false the_type _ _ (sym c.eq.ensures ∙ c.if-eq.false)),
  table_value c.args.self.now.tables.now c.args.self.now.class c.class_of-class.result.0 c.args.at.now c.args.self.now.closed c.class_of-class.ensures.class
      c.in-Some.table.now c.at.result c.in-Some.ensures.value c.at.ensures.reported,
  c.at.ensures.near,
)
