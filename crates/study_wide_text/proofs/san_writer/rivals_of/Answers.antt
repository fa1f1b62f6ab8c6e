use Rattle.std.proofs.Common.{◌≡◌, ℕ, ◌+◌, ◌<◌, ◌≤◌, ◌==◌, Bool, true, false, ◌&&◌, ◌||◌, List, length, drop, get_or, refl, sym, ap, ◌∙◌}
use Rattle.std.specs.List.{list_any}
use Rattle.std.proofs.lemmas.List.{drop_more, drop_all}
use Rattle.study_board.specs.declared.men.Man.{Man}
use Rattle.study_board.specs.Geometry.{file_of, rank_of}
use Rattle.study_notation.specs.SanSpelling.{is_rival, has_rival, has_file_rival}
use Rattle.study_wide_text.specs.SanSpelling.{has_rank_rival}
use Rattle.study_wide_text.proofs.san_writer.rivals_of.Goals as goal

or_more : (a b c : Bool) → ((a || b) || c) ≡ (a || (b || c))
or_more true b c = refl
or_more false b c = refl

or_none : (a : Bool) → (a || false) ≡ a
or_none true = refl
or_none false = refl

-- one man more
one_more : (f : Man → Bool) (men : List Man) (i : ℕ) (d m : Man) (old new : Bool) → i < length men → m ≡ get_or men i d → new ≡ (old || f m)
    → (new || list_any f (drop (i + 1) men)) ≡ (old || list_any f (drop i men))
one_more f men i d m old new lt is e =
    ap (λ b. b || list_any f (drop (i + 1) men)) e
    ∙ (or_more old (f m) (list_any f (drop (i + 1) men))
    ∙ (ap (λ x. old || (f x || list_any f (drop (i + 1) men))) is ∙ ap (λ (xs : List Man). old || list_any f xs) (sym (drop_more men i d lt))))

-- no man is left
no_more : (f : Man → Bool) (men : List Man) (i : ℕ) (old : Bool) → length men ≤ i → (old || list_any f (drop i men)) ≡ old
no_more f men i old end = ap (λ (xs : List Man). old || list_any f xs) (drop_all i men end) ∙ or_none old

pub loop-o-init : goal.loop-o-init
unfolding has_rival has_file_rival has_rank_rival
loop-o-init c = rw c.men-men.ensures.value record { any = refl; on_file = refl; on_rank = refl }

pub loop-o-preserved : goal.loop-o-preserved
loop-o-preserved c =
    let p = c.args.p.now.board in
    let man = c.args.man.now in
    let x = c.args.x in
    let men = c.men-men.result.now in
    let i = c.loop-o.o-index in
    let o = c.o-item.result in
    let is = c.is_rival.ensures in
    record {
      any = one_more (is_rival p man x) men i o o _ _ c.loop-o-test.true c.o-item.is (c.with_man-found.ensures.any ∙ ap (λ b. c.loop-o.found.any || b) is)
          ∙ c.loop-o.invariant.any;
      on_file = one_more (λ (n : Man). is_rival p man x n && file_of n.at == file_of man.at) men i o o _ _ c.loop-o-test.true c.o-item.is
          (c.with_man-found.ensures.on_file ∙ ap (λ b. c.loop-o.found.on_file || (b && file_of o.at == file_of man.at)) is)
          ∙ c.loop-o.invariant.on_file;
      on_rank = one_more (λ (n : Man). is_rival p man x n && rank_of n.at == rank_of man.at) men i o o _ _ c.loop-o-test.true c.o-item.is
          (c.with_man-found.ensures.on_rank ∙ ap (λ b. c.loop-o.found.on_rank || (b && rank_of o.at == rank_of man.at)) is)
          ∙ c.loop-o.invariant.on_rank;
    }

pub returns : goal.returns
returns c =
    let p = c.args.p.now.board in
    let man = c.args.man.now in
    let x = c.args.x in
    let men = c.men-men.result.now in
    let i = c.loop-o.o-index in
    record {
      any = sym (no_more (is_rival p man x) men i _ c.loop-o-test.false) ∙ c.loop-o.invariant.any;
      on_file = sym (no_more (λ (n : Man). is_rival p man x n && file_of n.at == file_of man.at) men i _ c.loop-o-test.false) ∙ c.loop-o.invariant.on_file;
      on_rank = sym (no_more (λ (n : Man). is_rival p man x n && rank_of n.at == rank_of man.at) men i _ c.loop-o-test.false) ∙ c.loop-o.invariant.on_rank;
    }
