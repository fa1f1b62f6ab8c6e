use Rattle.std.proofs.Common.{rules, ◌≡◌, Err, refl, sym, subst}
use Rattle.study_script.specs.State.{quiet, is_among}
use Rattle.study_script.specs.Replies.{IsClassReply, IsOpenReply, refused_reply}
use Rattle.study_command.specs.declared.command.TableCommand.{TableCommand}
use Rattle.study_command.specs.declared.command.TableCommand.TheVariants.{Load}
use Rattle.study_reply.specs.declared.refusal.Refusal.TheVariants.{NotAClass}
use Rattle.study_script.specs.Stores.{HonestOn, StoreSeen}
use Rattle.study_script.specs.Decided.{HoldsPaged}
use Rattle.study_script.proofs.ClassReplies.{trust_of, open_as, decided_weaker, not_named, refused_paged}
use Rattle.study_script.proofs.table_commands.paged_command.Goals as goal

pub returns-in_err-class-in-Load : goal.returns-in_err-class-in-Load
returns-in_err-class-in-Load g c = λ trusted s may h seen.
    let is : c.from_residual.result ≡ Err NotAClass = search rules in
    rw is (
      quiet,
      s,
      subst (λ (w : TableCommand). IsClassReply s quiet w c.args.name.now (refused_reply s NotAClass))
          (sym c.in-Load.is) (not_named s quiet Load c.args.name.now c.in_err-class-in-Load.ensures.err.1),
      (h, refl, seen),
    )

pub returns-in-Build : goal.returns-in-Build
returns-in-Build g c = λ trusted s may h seen. (quiet, s, refused_paged s c.args.word c.args.name.now h.by_pages c.in-Build.is, (h, refl, seen))

pub returns-in_ok-class-in-Load : goal.returns-in_ok-class-in-Load
returns-in_ok-class-in-Load g c = λ trusted s may h seen.
    let class = c.in_ok-class-in-Load.class in
    let reported = c.in_ok-class-in-Load.ensures.ok in
    decided_weaker (λ o. IsOpenReply s o class (is_among s.classes class)) (λ o. IsClassReply s o c.args.word c.args.name.now)
    (λ t. HoldsPaged g.S.Pages.PageSource.honest g.S.Pages.PageSource.gives c.open_class.new.tables t × (t.document ≡ s.document)
    × StoreSeen (HonestOn trusted g.S.TableStore.honest) g.S.TableStore.files g.S.TableStore.headers g.S.TableStore.faults c.open_class.new.store t)
    (λ t. HoldsPaged g.S.Pages.PageSource.honest g.S.Pages.PageSource.gives c.open_class.new.tables t × (t.document ≡ s.document)
    × StoreSeen (HonestOn trusted g.S.TableStore.honest) g.S.TableStore.files g.S.TableStore.headers g.S.TableStore.faults c.open_class.new.store t)
    c.open_class.result
    (λ o r i. subst (λ (w : TableCommand). IsClassReply s o w c.args.name.now r) (sym c.in-Load.is)
    (open_as s o c.args.name.now class r reported h.by_pages i))
    (λ t k. k)
    (c.open_class.ensures trusted s (trust_of trusted c.args.word c.args.name.now class c.in-Load.is reported may) h seen)
