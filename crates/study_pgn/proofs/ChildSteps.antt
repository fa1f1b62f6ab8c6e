-- A step to a child, and the text that is written with it.
use Rattle.std.proofs.Common.{◌≡◌, ℕ, suc, ◌+◌, ◌≤◌, List, [], ◌∷◌, ◌++◌, Some, None, sym}
use Rattle.std.proofs.Common.{ap, subst, ◌∙◌, arith, append_assoc, add-one, ◌-◌, length, take, length-append}
use Rattle.std.specs.Prelude.{codes}
use Rattle.std.proofs.lemmas.List.{append-nil}
use Rattle.std.proofs.Math.Seq.{take-append_seam}
use Rattle.study_moves.specs.declared.moves.Move.{Move}
use Rattle.study_moves.specs.Rules.{after}
use Rattle.study_notation.specs.declared.start.Start.{Start}
use Rattle.study_notation.specs.StartAfter.{start_after}
use Rattle.study_tree.specs.Forest.{Forest, Twig}
use Rattle.study_tree.specs.Edits.{node_in, width}
use Rattle.study_marks.specs.declared.mark.Mark.{Mark}
use Rattle.study_marks.specs.Study.{IsPlayable}
use Rattle.study_pgn.specs.Moves.{words_of_move, continuation_text, variations}
use Rattle.study_marks.proofs.PathWalks.{skip, playable_at}
use Rattle.study_pgn.proofs.PathWalks.{following_none, following_first, others_first, others_done}

-- ---- the step

-- a place is pushed, and taken off again
pub popped : (xs ys zs : List ℕ) (x n : ℕ) → ys ≡ xs ++ x ∷ [] → n ≡ length ys → zs ≡ take (n - 1) ys → zs ≡ xs
popped xs ys zs x n pushed len rest =
    let e : n - 1 ≡ length xs = omega (arith, len, ap length pushed, length-append xs (x ∷ [])) in
    rest ∙ ap (λ k. take k ys) e ∙ ap (take (length xs)) pushed ∙ take-append_seam xs (x ∷ [])

position_after : (s next : Start) (m : Move) → next ≡ start_after s m → next.position ≡ after s.position m
unfolding start_after
position_after s next m n = ap (λ x. x.position) n

-- the moves below a child are legal after its own
pub playable_below : (s next : Start) (f : Forest Mark) (k : ℕ) (t : Twig Mark) → node_in f k [] ≡ Some t → next ≡ start_after s t.played
    → IsPlayable s.position f → IsPlayable next.position t.below
playable_below s next f k t e n h = subst (λ p. IsPlayable p t.below) (sym (position_after s next t.played n)) (playable_at s.position f k t h e).1

-- ---- the text

five : (a b w f c v : List ℕ) → (((a ++ (b ++ w)) ++ f) ++ c) ++ v ≡ a ++ (b ++ (w ++ (f ++ (c ++ v))))
five a b w f c v = append_assoc ((a ++ (b ++ w)) ++ f) c v ∙ append_assoc (a ++ (b ++ w)) f (c ++ v)
    ∙ append_assoc a (b ++ w) (f ++ (c ++ v)) ∙ ap (λ (t : List ℕ). a ++ t) (append_assoc b w (f ++ (c ++ v)))

four : (a b w v f : List ℕ) → ((a ++ (b ++ w)) ++ v) ++ f ≡ a ++ (b ++ (w ++ (v ++ f)))
four a b w v f = append_assoc (a ++ (b ++ w)) v f ∙ append_assoc a (b ++ w) (v ++ f) ∙ ap (λ (t : List ℕ). a ++ t) (append_assoc b w (v ++ f))

module _ (s next : Start) (f : Forest Mark) (k : ℕ) where
  -- a variation is written
  pub variation_written : (t : Twig Mark) (old mid new last whole : List ℕ) → node_in f k [] ≡ Some t → next ≡ start_after s t.played
      → mid ≡ old ++ (codes " (" ++ words_of_move s t.played t.label) → new ≡ mid ++ continuation_text next t.below → last ≡ new ++ codes ")"
      → old ++ variations s (skip k f) ≡ whole → last ++ variations s (skip (k + 1) f) ≡ whole
  variation_written t old mid new last whole e en em n l h =
      let w = words_of_move s t.played t.label in
      let b = continuation_text (start_after s t.played) t.below in
      let v = variations s (skip (suc k) f) in
      let written : last ≡ ((old ++ (codes " (" ++ w)) ++ b) ++ codes ")" =
      l ∙ ap (λ (x : List ℕ). x ++ codes ")") (n ∙ ap (λ (x : List ℕ). x ++ continuation_text next t.below) em
      ∙ ap (λ x. (old ++ (codes " (" ++ w)) ++ continuation_text x t.below) en) in
      ap (λ j. last ++ variations s (skip j f)) (add-one k) ∙ ap (λ (x : List ℕ). x ++ v) written
      ∙ five old (codes " (") w b (codes ")") v ∙ ap (λ (x : List ℕ). old ++ x) (sym (others_first s f k t e)) ∙ h

  -- the whole movetext after the node is written
  pub all_written : (t : Twig Mark) (old mid looped new : List ℕ) → node_in f 0 [] ≡ Some t → next ≡ start_after s t.played
      → mid ≡ old ++ (codes " " ++ words_of_move s t.played t.label) → width f ≤ k
      → looped ++ variations s (skip k f) ≡ mid ++ variations s (skip 1 f)
      → new ≡ looped ++ continuation_text next t.below → new ≡ old ++ continuation_text s f
  all_written t old mid looped new e en em few h n =
      let w = words_of_move s t.played t.label in
      let b = continuation_text (start_after s t.played) t.below in
      let v = variations s (skip 1 f) in
      let done : looped ≡ mid ++ v = sym (append-nil looped) ∙ ap (λ (x : List ℕ). looped ++ x) (sym (others_done s f k few)) ∙ h in
      n ∙ ap (λ x. looped ++ continuation_text x t.below) en ∙ ap (λ (x : List ℕ). x ++ b) (done ∙ ap (λ (x : List ℕ). x ++ v) em)
      ∙ four old (codes " ") w v b ∙ ap (λ (x : List ℕ). old ++ x) (sym (following_first s f t e))

-- there is nothing to write
pub nothing_written : (s : Start) (f : Forest Mark) (text : List ℕ) → node_in f 0 [] ≡ None → text ≡ text ++ continuation_text s f
nothing_written s f text e = sym (append-nil text) ∙ ap (λ (x : List ℕ). text ++ x) (sym (following_none s f e))
