-- The parts of a review, one after the other.
use Rattle.std.specs.Prelude.{codes, decimal}
use Rattle.std.proofs.Common.{◌≡◌, ℕ, Bool, true, false, List, [], ◌++◌, refl, sym, ap, subst, ◌∙◌, append_assoc}
use Rattle.std.proofs.lemmas.List.{append-nil}
use Rattle.study_marks.specs.declared.mark.Mark.{Mark}
use Rattle.study_marks.specs.Study.{Study}
use Rattle.study_facts.specs.Made.{Grew}
use Rattle.study_facts.specs.Nodes.{AlsoLines, FaultLines, NodeLines, is_dual, mark_at}
use Rattle.study_notation.specs.FenSpelling.{fen_text}
use Rattle.study_review.specs.Review.{study_line, stipulation_line, empty_line, waste_line, IsReview, BeginsReview}
use Rattle.study_facts.specs.Order.{LinesOfEach, AreTimeFaults, written_order}
use Rattle.study_review.specs.NodeFacts.{HereLines}
use Rattle.study_facts.proofs.NodesShown.{are-there, not-there}
use Rattle.study_review.proofs.NodesReported.{node-evaluated}

module _ (s : Study Mark) where
  -- no move leads to the root
  root-also : (text : List ℕ) → Grew (AlsoLines s []) text text
  root-also text = go (is_dual (mark_at s [])) refl
    where
      nothing : List ℕ
      nothing = []

      go : (b : Bool) → is_dual (mark_at s []) ≡ b → Grew (AlsoLines s []) text text
      go false e = not-there (is_dual (mark_at s [])) _ text e
      go true e = are-there (is_dual (mark_at s [])) _ text text e (nothing, refl, sym (append-nil text))

  pub root-fault : (text : List ℕ) → Grew (FaultLines s []) text text
  root-fault text = ([], refl, sym (append-nil text))

  pub root-evaluated : (old new : List ℕ) → Grew (HereLines s []) old new → Grew (NodeLines s []) old new
  root-evaluated old new h = node-evaluated s [] old old new (root-also old) h

pub whole : (s : Study Mark) (number time : ℕ) (t0 t1 f0 f1 f2 t2 n0 n2 text : List ℕ) → t0 ≡ [] → f0 ≡ [] → n0 ≡ []
    → t1 ≡ t0 ++ (study_line s number ++ (stipulation_line s ++ empty_line s))
    → Grew (LinesOfEach (FaultLines s) (written_order s)) f0 f1 → AreTimeFaults s time → f2 ≡ f1 ++ waste_line s time → t2 ≡ t1 ++ f2
    → Grew (LinesOfEach (NodeLines s) (written_order s)) n0 n2 → text ≡ t2 ++ n2 → IsReview s number text
whole s number time t0 t1 f0 f1 f2 t2 n0 n2 text te fe ne h f timed w t n e =
    let a = study_line s number in
    let b = stipulation_line s in
    let c = empty_line s in
    let l = waste_line s time in
    let faults : f1 ≡ f.0 = f.2 ∙ ap (λ (u : List ℕ). u ++ f.0) fe in
    let lines : f2 ≡ f.0 ++ l = w ∙ ap (λ (u : List ℕ). u ++ l) faults in
    let nodes : n2 ≡ n.0 = n.2 ∙ ap (λ (u : List ℕ). u ++ n.0) ne in (
      f.0,
      n.0,
      time,
      f.1,
      n.1,
      timed,
      e ∙ ap (λ (u : List ℕ). t2 ++ u) nodes
          ∙ ap (λ (u : List ℕ). u ++ n.0) (t ∙ ap (λ (u : List ℕ). t1 ++ u) lines
          ∙ ap (λ (u : List ℕ). u ++ (f.0 ++ l)) (h ∙ ap (λ (u : List ℕ). u ++ (a ++ (b ++ c))) te))
          ∙ append_assoc (a ++ (b ++ c)) (f.0 ++ l) n.0 ∙ append_assoc a (b ++ c) ((f.0 ++ l) ++ n.0)
          ∙ ap (λ (u : List ℕ). a ++ u) (append_assoc b c ((f.0 ++ l) ++ n.0))
          ∙ ap (λ (u : List ℕ). a ++ (b ++ (c ++ u))) (append_assoc f.0 l n.0),
    )

four-behind : (a d s x z : List ℕ) → (a ++ (d ++ (s ++ x))) ++ z ≡ a ++ (d ++ (s ++ (x ++ z)))
four-behind a d s x z = append_assoc a (d ++ (s ++ x)) z
    ∙ ap (λ (u : List ℕ). a ++ u) (append_assoc d (s ++ x) z ∙ ap (λ (u : List ℕ). d ++ u) (append_assoc s x z))

study-line-begins : (s : Study Mark) (number : ℕ) (z : List ℕ) → BeginsReview number (study_line s number ++ z)
unfolding study_line
study-line-begins s number z = (_, four-behind (codes "study ") (decimal number) (codes " ") (fen_text s.start ++ codes "\n") z)

pub begins : (s : Study Mark) (number : ℕ) (t0 t1 f1 t2 n2 text : List ℕ) → t0 ≡ []
    → t1 ≡ t0 ++ (study_line s number ++ (stipulation_line s ++ empty_line s)) → t2 ≡ t1 ++ f1 → text ≡ t2 ++ n2 → BeginsReview number text
begins s number t0 t1 f1 t2 n2 text te h t e =
    let a = study_line s number in
    let b = stipulation_line s ++ empty_line s in
    let same : text ≡ a ++ (b ++ (f1 ++ n2)) = e ∙ ap (λ (u : List ℕ). u ++ n2) (t ∙ ap (λ (u : List ℕ). u ++ f1) (h ∙ ap (λ (u : List ℕ). u ++ (a ++ b)) te))
    ∙ append_assoc (a ++ b) f1 n2 ∙ append_assoc a b (f1 ++ n2) in
    subst (BeginsReview number) (sym same) (study-line-begins s number (b ++ (f1 ++ n2)))
