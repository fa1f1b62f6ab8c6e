use Rattle.std.proofs.Common.{rules, ◌≡◌, ℕ, true, List, [], ◌++◌, refl, sym, ap, ◌∙◌, subst, take}
use Rattle.std.specs.Prelude.{codes}
use Rattle.study_pgn.specs.Pgn.{pgn_text}
use Rattle.study_marks.specs.BenchState.{marked_study}
use Rattle.study_script.specs.State.{quiet, no_room}
use Rattle.study_script.specs.Replies.{accepted_reply}
use Rattle.study_script.proofs.HeldBehindReplies.{bench_kept}
use Rattle.study_reply.specs.Words.{ends_line}
use Rattle.study_script.proofs.Games.{game-begins, game-ends}
use Rattle.study_script.proofs.queries.document_pgn.Goals as goal

pub returns-in-Ok : goal.returns-in-Ok
returns-in-Ok g c = λ s h.
    let m = marked_study c.args.bench.now in
    let none : c.new-text.result.items ≡ [] = search rules in
    let text : c.write_pgn.new.out.items ≡ pgn_text m = c.in-Ok.ensures.ok ∙ ap (λ (xs : List ℕ). xs ++ pgn_text m) none in
    (quiet, s, (m, h.marks.marks, refl, ap (accepted_reply s) text), bench_kept c.args.bench.now s h)

pub returns : goal.returns
returns g c = λ s h. (no_room, s, refl, bench_kept c.args.bench.now s h)

pub invariant_of-result : goal.invariant_of-result
invariant_of-result g c =
    let m = marked_study c.args.bench.now in
    let none : c.new-text.result.items ≡ [] = search rules in
    let text : c.write_pgn.new.out.items ≡ pgn_text m = c.in-Ok.ensures.ok ∙ ap (λ (xs : List ℕ). xs ++ pgn_text m) none in
    record {
      begun = subst (λ (xs : List ℕ). take 8 xs ≡ codes "[Event \"") (sym text) (game-begins m);
      ended = subst (λ (xs : List ℕ). ends_line xs ≡ true) (sym text) (game-ends m);
    }
