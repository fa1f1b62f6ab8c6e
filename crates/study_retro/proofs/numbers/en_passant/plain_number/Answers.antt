use Rattle.std.proofs.Common.{ℕ, ◌<◌, sym, subst}
use Rattle.study_index.proofs.ClassLaws.{below}
use Rattle.study_index.proofs.ComputedIndex.{decoded_of_numbered}
use Rattle.study_retro.proofs.EarlierChess.{small_index}
use Rattle.study_retro.proofs.MovedSteps.{moved_before}
use Rattle.study_retro.proofs.numbers.en_passant.plain_number.Goals as goal

pub index_after_move-requires : goal.index_after_move-requires
index_after_move-requires c =
    below c.args.class c.args.number c.args.at.now (decoded_of_numbered c.args.class c.args.number c.args.at.now c.requires.at)

pub returns-then-leads_to_number-clause-small : goal.returns-then-leads_to_number-clause-small
returns-then-leads_to_number-clause-small c =
    let from = c.requires.by.from in
    let leads = c.requires.by.leads in
    subst (λ (n : ℕ). n < 16777216)
    (c.index_after_move.ensures from (moved_before c.args.class c.args.number c.args.at.now c.requires.at from c.args.by.now leads))
    (small_index from leads.valid leads.unpassed)

pub returns-then-leads_to_number-clause-some : goal.returns-then-leads_to_number-clause-some
returns-then-leads_to_number-clause-some c =
    let from = c.requires.by.from in
    let leads = c.requires.by.leads in
    let before = moved_before c.args.class c.args.number c.args.at.now c.requires.at in
    record {
      from = from;
      leads = leads;
      lands = (c.leads_to_number.ensures from leads).0 c.if-leads_to_number.true;
      is = sym (c.index_after_move.ensures from (before from c.args.by.now leads));
      only = λ p l. c.index_after_move.ensures p (before p c.args.by.now l);
    }
