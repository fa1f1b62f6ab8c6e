use Rattle.std.proofs.Common.{sym, ◌∙◌}
use Rattle.study_import.specs.Blocks.{entry_seen}
use Rattle.study_import.proofs.Spelt.{foreign_added, unread_added}
use Rattle.study_import.proofs.letters.add_unread.Goals as goal

pub returns-in-Some : goal.returns-in-Some
returns-in-Some g c = λ is.
    foreign_added c.add_foreign.result c.args.out.now c.add_foreign.new.out c.args.setting.now.choice (entry_seen c.args.setting.now.entry) c.args.start.now
    c.args.fault.now c.in-Some.language is (sym c.in_ok-language.ensures ∙ c.in-Some.is) c.add_foreign.ensures

pub returns-in-None : goal.returns-in-None
returns-in-None g c = λ is.
    unread_added c.add_faulty.result c.args.out.now c.add_faulty.new.out c.args.setting.now.choice (entry_seen c.args.setting.now.entry) c.args.start.now
    c.args.fault.now is (sym c.in_ok-language.ensures ∙ c.in-None.is) c.add_faulty.ensures
