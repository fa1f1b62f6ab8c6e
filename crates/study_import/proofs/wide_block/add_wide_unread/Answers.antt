use Rattle.std.proofs.Common.{sym, ◌∙◌}
use Rattle.study_import.specs.Blocks.{entry_seen}
use Rattle.study_import.proofs.WideSpelt.{foreign_added, unread_added}
use Rattle.study_import.proofs.wide_block.add_wide_unread.Goals as goal

pub returns-in-Some : goal.returns-in-Some
returns-in-Some g c = λ is.
    foreign_added c.add_wide_foreign.result c.args.out.now c.add_wide_foreign.new.out c.args.setting.now.choice (entry_seen c.args.setting.now.entry) c.args.start.now
    c.args.fault.now c.in-Some.language is (sym c.in_ok-language.ensures ∙ c.in-Some.is) c.add_wide_foreign.ensures

pub returns-in-None : goal.returns-in-None
returns-in-None g c = λ is.
    unread_added c.add_wide_faulty.result c.args.out.now c.add_wide_faulty.new.out c.args.setting.now.choice (entry_seen c.args.setting.now.entry) c.args.start.now
    c.args.fault.now is (sym c.in_ok-language.ensures ∙ c.in-None.is) c.add_wide_faulty.ensures
