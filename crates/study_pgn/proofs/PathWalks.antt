-- The movetext after a node.
use Rattle.std.proofs.Common.{◌≡◌, ℕ, zero, suc, ◌≤◌, List, [], ◌++◌, Option, Some, None, refl, sym, ap, ◌∙◌}
use Rattle.std.specs.Prelude.{codes}
use Rattle.study_moves.specs.Rules.{after}
use Rattle.study_notation.specs.declared.start.Start.{Start}
use Rattle.study_notation.specs.StartAfter.{start_after}
use Rattle.study_tree.specs.Forest.{Forest, none, more, Twig}
use Rattle.study_tree.specs.Edits.{node_in, width}
use Rattle.study_marks.specs.declared.mark.Mark.{Mark}
use Rattle.study_pgn.specs.Moves.{words_of_move, continuation_text, variations}
use Rattle.study_marks.proofs.PathWalks.{skip, skip_all}

abbrev pub first_text : Start → Forest Mark → Option (Twig Mark) → List ℕ
first_text s f None = []
first_text s f (Some t) = codes " " ++ (words_of_move s t.played t.label ++ (variations s (skip 1 f) ++ continuation_text (start_after s t.played) t.below))

skip_zero : (f : Forest Mark) → skip 0 f ≡ f
skip_zero none = refl
skip_zero (more m l b r) = refl

following_is : (s : Start) (f : Forest Mark) → continuation_text s f ≡ first_text s f (node_in f 0 [])
following_is s none = refl
following_is s (more m l b r) = ap (λ g. codes " " ++ (words_of_move s m l ++ (variations s g ++ continuation_text (start_after s m) b))) (sym (skip_zero r))

pub following_none : (s : Start) (f : Forest Mark) → node_in f 0 [] ≡ None → continuation_text s f ≡ []
following_none s f e = following_is s f ∙ ap (first_text s f) e

pub following_first : (s : Start) (f : Forest Mark) (t : Twig Mark) → node_in f 0 [] ≡ Some t →
    continuation_text s f ≡ codes " " ++ (words_of_move s t.played t.label ++ (variations s (skip 1 f) ++ continuation_text (start_after s t.played) t.below))
following_first s f t e = following_is s f ∙ ap (first_text s f) e

abbrev pub other_text : Start → List ℕ → Option (Twig Mark) → List ℕ
other_text s rest None = rest
other_text s rest (Some t) = codes " (" ++ (words_of_move s t.played t.label ++ (continuation_text (start_after s t.played) t.below ++ (codes ")" ++ rest)))

others_are : (s : Start) (f : Forest Mark) (k : ℕ) → variations s (skip k f) ≡ other_text s (variations s (skip (suc k) f)) (node_in f k [])
others_are s none k = refl
others_are s (more m l b r) zero =
    ap
    (λ g. codes " (" ++ (words_of_move s m l ++ (continuation_text (start_after s m) b ++ (codes ")" ++ variations s g))))
    (sym (skip_zero r))
others_are s (more m l b r) (suc k) = others_are s r k

pub others_first : (s : Start) (f : Forest Mark) (k : ℕ) (t : Twig Mark) → node_in f k [] ≡ Some t →
    variations s (skip k f) ≡ codes " ("
    ++ (words_of_move s t.played t.label
    ++ (continuation_text (start_after s t.played) t.below ++ (codes ")" ++ variations s (skip (suc k) f))))
others_first s f k t e = others_are s f k ∙ ap (other_text s (variations s (skip (suc k) f))) e

pub others_done : (s : Start) (f : Forest Mark) (k : ℕ) → width f ≤ k → variations s (skip k f) ≡ []
others_done s f k h = ap (variations s) (skip_all k f h)
