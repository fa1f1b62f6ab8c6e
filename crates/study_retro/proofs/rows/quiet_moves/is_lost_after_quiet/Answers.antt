use Rattle.std.proofs.Common.{◌≡◌, ℕ, ◌≤◌, refl, subst}
use Rattle.study_board.specs.Position.{Position}
use Rattle.study_moves.specs.Rules.{after}
use Rattle.study_values.specs.declared.value.Value.TheVariants.{Win}
use Rattle.study_retro.specs.ClassGame.{class_game}
use Rattle.study_levels.specs.Numbered.{label_by}
use Rattle.study_retro.proofs.rows.quiet_moves.is_lost_after_quiet.Goals as goal

-- if each move is quiet, the quiet moves decide
pub returns-then-some-clause-yes : goal.returns-then-some-clause-yes
returns-then-some-clause-yes g c = λ t.
    let q = c.requires.numbered in
    let m = c.requires.some t q.0 q.1 in (
      q.0,
      q.1,
      record {
        some = (after q.0 m.0, (m.0, m.1, refl));
        each = λ r l.
            subst (λ (p : Position). (n : ℕ) × (label_by (class_game c.args.game.now.class c.args.game.now.tables.now) c.args.cells.now p ≡ Win n)
            × (n ≤ c.args.level)) l.2
            (c.requires.quiet q.0 q.1 l.0 l.1 (c.stays.ensures c.if-stays.true q.0 q.1 l.0 l.1));
      },
    )

pub returns-else-some-clause-yes : goal.returns-else-some-clause-yes
returns-else-some-clause-yes g c = λ t.
    let q = c.requires.numbered in
    let m = c.has_move.ensures.yes t q.0 q.1 in (
      q.0,
      q.1,
      record {
        some = (after q.0 m.0, (m.0, m.1, refl));
        each = λ r l.
            subst (λ (p : Position). (n : ℕ) × (label_by (class_game c.args.game.now.class c.args.game.now.tables.now) c.args.cells.now p ≡ Win n)
            × (n ≤ c.args.level)) l.2
            (c.requires.quiet q.0 q.1 l.0 l.1 (c.stays.ensures c.if-stays.true q.0 q.1 l.0 l.1));
      },
    )

pub returns-else-some-clause-no : goal.returns-else-some-clause-no
returns-else-some-clause-no g c = λ f p e h. c.has_move.ensures.no f p e h.some.1.0 h.some.1.1

pub is_lost_by_moves-requires-clause-number : goal.is_lost_by_moves-requires-clause-number
is_lost_by_moves-requires-clause-number g c = c.requires.laws.below c.args.number c.requires.numbered.0 c.requires.numbered.1
