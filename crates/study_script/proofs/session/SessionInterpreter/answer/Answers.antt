use Rattle.std.proofs.Common.{true, false, refl}
use Rattle.study_script.specs.Session.{SessionHolds}
use Rattle.study_script.specs.Stores.{HonestOn}
use Rattle.study_script.proofs.Apart.{in-mode, in-mode-broken}
use Rattle.study_script.proofs.session.SessionInterpreter.answer.Goals as goal

pub returns-then-self-clause-ok : goal.returns-then-self-clause-ok
returns-then-self-clause-ok g c = λ trusted separate s may (e, h).
    in-mode c.answer_apart.result separate c.args.self.now.separate true c.answer_apart.new.self.separate s c.args.line.now
    (SessionHolds g.S.Pages.PageSource.honest g.S.Pages.PageSource.gives (HonestOn trusted g.S.TableStore.honest) g.S.TableStore.files
    g.S.TableStore.headers g.S.TableStore.faults c.answer_apart.new.self.document c.answer_apart.new.self.tables c.answer_apart.new.self.store.now)
    (g.W.Write.contents c.args.out.now) (g.W.Write.contents c.answer_apart.new.out) e c.if-self.true c.answer_apart.ensures.mode
    (c.answer_apart.ensures.ok trusted s may h)

pub returns-then-self-clause-err : goal.returns-then-self-clause-err
returns-then-self-clause-err g c = λ trusted separate s may (e, h).
    in-mode-broken c.answer_apart.result separate c.args.self.now.separate true s c.args.line.now (g.W.Write.contents c.args.out.now)
    (g.W.Write.contents c.answer_apart.new.out) e c.if-self.true (c.answer_apart.ensures.err trusted s may h)

pub returns-clause-ok : goal.returns-clause-ok
returns-clause-ok g c = λ trusted separate s may (e, h).
    in-mode c.answer.result separate c.args.self.now.separate false c.args.self.now.separate s c.args.line.now
    (SessionHolds g.S.Pages.PageSource.honest g.S.Pages.PageSource.gives (HonestOn trusted g.S.TableStore.honest) g.S.TableStore.files
    g.S.TableStore.headers g.S.TableStore.faults c.answer.new.document c.answer.new.tables c.answer.new.store)
    (g.W.Write.contents c.args.out.now) (g.W.Write.contents c.answer.new.out) e c.if-self.false refl
    (c.answer.ensures.ok trusted s may h)

pub returns-clause-err : goal.returns-clause-err
returns-clause-err g c = λ trusted separate s may (e, h).
    in-mode-broken c.answer.result separate c.args.self.now.separate false s c.args.line.now (g.W.Write.contents c.args.out.now)
    (g.W.Write.contents c.answer.new.out) e c.if-self.false (c.answer.ensures.err trusted s may h)
