-- What the signs behind a move claim, at a node.
use Rattle.std.proofs.Common.{◌≡◌, ℕ, false, List, Some, None, sym, ap, subst, ◌∙◌, refl}
use Rattle.study_notation.specs.declared.start.Start.{Start}
use Rattle.study_marks.specs.Study.{Study, plain_study}
use Rattle.study_marks.specs.Bench.{start_at}
use Rattle.study_games.specs.declared.spelling.Claim.{Claim}
use Rattle.study_reading.specs.Notes.{is_false}
use Rattle.study_import.specs.FewMen.{few_men}
use Rattle.study_import.proofs.Moved.{has_spot-plain, position_at-plain, at_start, here, no_spot}

module _ {L : Type 0} (s : Study L) (path : List ℕ) (claim : Claim) where
  -- no node is there
  pub not_there : (ks : List ℕ) → ks ≡ path → None ≡ start_at s ks → false ≡ few_men.is_false (plain_study s) path claim
  not_there ks e gone = rw (no_spot s path (subst (λ (x : List ℕ). None ≡ start_at s x) e gone)) refl

  pub claimed : (ks : List ℕ) (st : Start) → ks ≡ path → Some st ≡ start_at s ks
      → is_false claim st.position ≡ few_men.is_false (plain_study s) path claim
  claimed ks st e is =
      let at : Some st ≡ start_at s path = subst (λ (x : List ℕ). Some st ≡ start_at s x) e is in
      rw (has_spot-plain s path ∙ here s path st at) (ap (is_false claim) (at_start s path st at ∙ sym (position_at-plain s path)))
