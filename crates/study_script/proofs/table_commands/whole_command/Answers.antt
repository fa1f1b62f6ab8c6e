use Rattle.std.proofs.Common.{rules, ◌≡◌, Err, refl, sym, subst, ◌∙◌}
use Rattle.study_script.specs.Stores.{HonestOn, StoreSeen}
use Rattle.study_script.specs.State.{quiet, is_among, first_lacking}
use Rattle.study_script.specs.Replies.{class_parsed, IsNamedReply, IsBuildReply, IsTableReply, IsLoadReply, verify_reply, save_reply}
use Rattle.study_reply.specs.declared.refusal.Refusal.TheVariants.{NotAClass}
use Rattle.study_command.specs.declared.command.TableCommand.{TableCommand}
use Rattle.study_script.specs.Decided.{WholeFrom, HoldsWhole}
use Rattle.study_script.proofs.HeldTables.{store_of}
use Rattle.study_script.proofs.ClassReplies.{trust_of, load_as, not_named, named_as, decided_weaker}
use Rattle.study_script.proofs.table_commands.whole_command.Goals as goal

pub returns-in_err-class : goal.returns-in_err-class
returns-in_err-class g c = λ trusted s may h seen.
    let is : c.from_residual.result ≡ Err NotAClass = search rules in
    rw is (quiet, s, not_named s quiet c.args.word c.args.name.now c.in_err-class.ensures.err.1, (h, refl, seen))

pub returns-in-Build : goal.returns-in-Build
returns-in-Build g c = λ trusted s may h seen.
    decided_weaker (λ o. IsBuildReply s o c.in_ok-class.class (is_among s.classes c.in_ok-class.class)
    (first_lacking s.classes c.in_ok-class.class))
    (λ o. IsNamedReply s o c.args.word (class_parsed c.args.name.now)) (WholeFrom s c.build_class.new.tables)
    (λ t. HoldsWhole c.build_class.new.tables t × (t.document ≡ s.document)
    × StoreSeen (HonestOn trusted g.S.TableStore.honest) g.S.TableStore.files g.S.TableStore.headers g.S.TableStore.faults c.args.store.now t)
    c.build_class.result
    (λ o r i. named_as s o c.args.word c.args.name.now c.in_ok-class.class r c.in_ok-class.ensures.ok
    (subst (λ (w : TableCommand). IsTableReply s o w c.in_ok-class.class r) (sym c.in-Build.is) i))
    (λ t f. (
      f.holds,
      f.document,
      store_of (HonestOn trusted g.S.TableStore.honest) g.S.TableStore.files g.S.TableStore.headers g.S.TableStore.faults
          c.args.store.now s t (sym f.holds.whole ∙ h.whole) f.shelf seen,
    )) (c.build_class.ensures s h)

pub returns-in-Verify : goal.returns-in-Verify
returns-in-Verify g c = λ trusted s may h seen.
    decided_weaker (λ o reply. reply ≡ verify_reply s c.in_ok-class.class (is_among s.classes c.in_ok-class.class))
    (λ o. IsNamedReply s o c.args.word (class_parsed c.args.name.now)) (WholeFrom s c.args.tables.now)
    (λ t. HoldsWhole c.args.tables.now t × (t.document ≡ s.document)
    × StoreSeen (HonestOn trusted g.S.TableStore.honest) g.S.TableStore.files g.S.TableStore.headers g.S.TableStore.faults c.args.store.now t)
    c.verify_class.result
    (λ o r i. named_as s o c.args.word c.args.name.now c.in_ok-class.class r c.in_ok-class.ensures.ok
    (subst (λ (w : TableCommand). IsTableReply s o w c.in_ok-class.class r) (sym c.in-Verify.is) i))
    (λ t f. (
      f.holds,
      f.document,
      store_of (HonestOn trusted g.S.TableStore.honest) g.S.TableStore.files g.S.TableStore.headers g.S.TableStore.faults
          c.args.store.now s t (sym f.holds.whole ∙ h.whole) f.shelf seen,
    )) (c.verify_class.ensures s h)

pub returns-in-Load : goal.returns-in-Load
returns-in-Load g c = λ trusted s may h seen.
    let class = c.in_ok-class.class in
    decided_weaker (λ o. IsLoadReply s o class (is_among s.classes class) (first_lacking s.classes class))
    (λ o. IsNamedReply s o c.args.word (class_parsed c.args.name.now))
    (λ t. WholeFrom s c.load_class.new.tables t
    × StoreSeen (HonestOn trusted g.S.TableStore.honest) g.S.TableStore.files g.S.TableStore.headers g.S.TableStore.faults c.load_class.new.store t)
    (λ t. HoldsWhole c.load_class.new.tables t × (t.document ≡ s.document)
    × StoreSeen (HonestOn trusted g.S.TableStore.honest) g.S.TableStore.files g.S.TableStore.headers g.S.TableStore.faults c.load_class.new.store t)
    c.load_class.result
    (λ o r i. named_as s o c.args.word c.args.name.now class r c.in_ok-class.ensures.ok
    (subst (λ (w : TableCommand). IsTableReply s o w class r) (sym c.in-Load.is) (load_as s o class r h.whole i)))
    (λ t k. (k.0.holds, k.0.document, k.1))
    (c.load_class.ensures trusted s (trust_of trusted c.args.word c.args.name.now class c.in-Load.is c.in_ok-class.ensures.ok may) h seen)

pub returns-in-Save : goal.returns-in-Save
returns-in-Save g c = λ trusted s may h seen.
    let class = c.in_ok-class.class in
    decided_weaker (λ o reply. reply ≡ save_reply s o class (is_among s.classes class))
    (λ o. IsNamedReply s o c.args.word (class_parsed c.args.name.now))
    (λ t. HoldsWhole c.args.tables.now t × (t.document ≡ s.document)
    × StoreSeen (HonestOn trusted g.S.TableStore.honest) g.S.TableStore.files g.S.TableStore.headers g.S.TableStore.faults c.save_class.new.store t)
    (λ t. HoldsWhole c.args.tables.now t × (t.document ≡ s.document)
    × StoreSeen (HonestOn trusted g.S.TableStore.honest) g.S.TableStore.files g.S.TableStore.headers g.S.TableStore.faults c.save_class.new.store t)
    c.save_class.result
    (λ o r i. named_as s o c.args.word c.args.name.now class r c.in_ok-class.ensures.ok
    (subst (λ (w : TableCommand). IsTableReply s o w class r) (sym c.in-Save.is) i))
    (λ t k. k) (c.save_class.ensures trusted s h seen)
