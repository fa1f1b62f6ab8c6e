use Rattle.std.proofs.Common.{ℕ, List, sym, ◌∙◌, subst}
use Rattle.std.specs.Prelude.{Option}
use Rattle.study_tablefile.specs.PageSource.{IsAnswerOf}
use Rattle.study_tablefile.proofs.memory_source.MemorySourcePageSource.TheImpl.Goals as goal

pub header-tells : goal.header-tells
header-tells g x c = record {
  ok = c.ensures.ok;
  given = c.ensures.given;
  refused = c.ensures.refused;
  gives_on = λ q a h. subst (λ (text : List ℕ). IsAnswerOf text c.new.self.now.fails_at q a) (sym c.ensures.text)
      (subst (λ (plan : Option ℕ). IsAnswerOf c.args.self.now.text.now plan q a) (sym c.ensures.plan) h);
  gave = λ q a h. subst (λ (text : List ℕ). IsAnswerOf text c.args.self.now.fails_at q a) c.ensures.text
      (subst (λ (plan : Option ℕ). IsAnswerOf c.new.self.now.text.now plan q a) c.ensures.plan h);
  stays = λ t v h. c.ensures.text ∙ h;
  back = λ t v h. sym c.ensures.text ∙ h;
  asked = c.ensures.asked;
  no_failure = c.ensures.no_failure;
  failure = c.ensures.failure;
}

pub page-tells : goal.page-tells
page-tells g x c = record {
  ok = c.ensures.ok;
  given = c.ensures.given;
  refused = c.ensures.refused;
  gives_on = λ q a h. subst (λ (text : List ℕ). IsAnswerOf text c.new.self.now.fails_at q a) (sym c.ensures.text)
      (subst (λ (plan : Option ℕ). IsAnswerOf c.args.self.now.text.now plan q a) (sym c.ensures.plan) h);
  gave = λ q a h. subst (λ (text : List ℕ). IsAnswerOf text c.args.self.now.fails_at q a) c.ensures.text
      (subst (λ (plan : Option ℕ). IsAnswerOf c.new.self.now.text.now plan q a) c.ensures.plan h);
  stays = λ t v h. c.ensures.text ∙ h;
  back = λ t v h. sym c.ensures.text ∙ h;
  asked = c.ensures.asked;
  no_failure = c.ensures.no_failure;
  failure = c.ensures.failure;
}
