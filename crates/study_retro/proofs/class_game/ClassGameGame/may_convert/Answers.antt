use Rattle.std.proofs.Common.{◌≡◌, true, false, Option, Some, None, sym, ◌∙◌, refl}
use Rattle.std.specs.Prelude.{is_some}
use Rattle.study_retro.proofs.EarlierChess.{quiet_home}
use Rattle.study_retro.proofs.class_game.ClassGameGame.may_convert.Goals as goal
use Rattle.study_retro.proofs.class_game.ClassGameGame.may_convert.Goals.{then-is_some, else-is_some}
use Rattle.std.proofs.lemmas.Bool.{false≢true}

none_where : {X : Type 0} (o : Option X) → is_some o ≡ false → o ≡ None
none_where None e = refl
none_where (Some x) e = absurd (let no : true ≡ false = e in cc)

pub returns-else-is_some-2 : goal.returns-else-is_some-2
returns-else-is_some-2 g c = λ f.
    let none : (c.args.by.promoted ≡ None) × (c.args.at.now.passed ≡ None) = elim c.if-is_some.branch [
      | then-is_some w ↦ absurd (false≢true (sym c.if-is_some-2.false ∙ w.value-is ∙ w.if-is_some.true))
      | else-is_some w ↦ (
        none_where c.args.by.promoted (sym c.is_some.ensures ∙ w.if-is_some.false),
        sym w.passed.ensures ∙ none_where w.passed.result (sym w.is_some-else-is_some.ensures ∙ sym w.value-is ∙ c.if-is_some-2.false),
      )
    ] in
    quiet_home c.args.self.now.class c.requires.numbered.0 c.args.at.now c.args.by c.requires.numbered.1 c.requires.legal none.0 none.1
    (sym c.man_at.ensures ∙ none_where c.man_at.result (sym c.is_some-else-is_some-2.ensures ∙ f))
