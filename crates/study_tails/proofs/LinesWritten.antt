-- The lines of siblings, one sibling after the other.
use Rattle.std.proofs.Common.{◌≡◌, ℕ, suc, true, List, [], ◌∷◌, ◌++◌, Option, Some, sym, ap, ◌∙◌, append_assoc, append-nil}
use Rattle.study_tree.specs.Forest.{none}
use Rattle.study_tree.specs.Edits.{node_in}
use Rattle.study_marks.specs.FaultSums.{siblings_from}
use Rattle.study_wide.specs.Wide.{Wide}
use Rattle.study_wide.specs.Rules.{wide_after}
use Rattle.study_wide.specs.Rules.{is_small}
use Rattle.study_wide_text.specs.declared.start.WideStart.{WideStart}
use Rattle.study_marks.specs.declared.stipulation.Stipulation.{Stipulation}
use Rattle.study_tails.specs.Study.{Moves}
use Rattle.study_tails.specs.Tails.{narrow_start}
use Rattle.study_tails.specs.Lines.{insert_line, insert_lines, head_lines, study_lines}
use Rattle.study_tails.specs.Blocks.{widen_study}
use Rattle.study_tails.proofs.TailStudies.{small_start}
use Rattle.study_tails.proofs.Nodes.{Branch, from_child}

pub written_child : (before : List ℕ) (g : Wide) (path : List ℕ) (k next : ℕ) (f : Moves) (t : Branch) (front : List ℕ) (after : Wide)
    (xs ys zs : List ℕ) → next ≡ suc k → node_in f k [] ≡ Some t → front ≡ path ++ k ∷ [] → after ≡ wide_after g t.played
    → ys ≡ xs ++ insert_line before g path t.played → zs ≡ ys ++ insert_lines before after front 0 t.below
    → zs ++ insert_lines before g path next (siblings_from next f) ≡ xs ++ insert_lines before g path k (siblings_from k f)
written_child before g path k next f t front after xs ys zs one e there position line below =
    let own = insert_line before g path t.played in
    let these = insert_lines before (wide_after g t.played) (path ++ k ∷ []) 0 t.below in
    let others = insert_lines before g path (suc k) (siblings_from (suc k) f) in
    ap (λ (j : ℕ). zs ++ insert_lines before g path j (siblings_from j f)) one
    ∙ ap (λ (s : List ℕ). s ++ others)
    (below ∙ ap (λ (q : List ℕ). ys ++ insert_lines before after q 0 t.below) there
    ∙ ap (λ (p : Wide). ys ++ insert_lines before p (path ++ k ∷ []) 0 t.below) position)
    ∙ append_assoc ys these others
    ∙ ap (λ (s : List ℕ). s ++ (these ++ others)) line
    ∙ append_assoc xs own (these ++ others)
    ∙ ap (λ (s : Moves). xs ++ insert_lines before g path k s) (sym (from_child f k t e))

pub written_end : (before : List ℕ) (g : Wide) (path : List ℕ) (k : ℕ) (f : Moves) (xs ys : List ℕ) → siblings_from k f ≡ none
    → ys ++ insert_lines before g path k (siblings_from k f) ≡ xs ++ insert_lines before g path 0 f → ys ≡ xs ++ insert_lines before g path 0 f
written_end before g path k f xs ys end h = sym (append-nil ys) ∙ ap (λ (s : Moves). ys ++ insert_lines before g path k s) (sym end) ∙ h

-- the lines of a tail
pub tail_written : (start : WideStart) (stipulation : Stipulation) (tags : List (Option (List ℕ))) (below : Moves) (xs ys zs : List ℕ)
    → is_small start.position ≡ true → ys ≡ xs ++ head_lines [] start stipulation tags → zs ≡ ys ++ insert_lines [] start.position [] 0 below
    → zs ≡ xs ++ study_lines [] (widen_study (record {
      start = narrow_start start;
      stipulation = stipulation;
      tags = tags;
      tree = record { label = tt; below = below };
    }))
unfolding study_lines
tail_written start stipulation tags below xs ys zs small head lines =
    lines
    ∙ ap (λ (s : List ℕ). s ++ insert_lines [] start.position [] 0 below) head
    ∙ append_assoc xs (head_lines [] start stipulation tags) (insert_lines [] start.position [] 0 below)
    ∙ ap (λ (w : WideStart). xs ++ (head_lines [] w stipulation tags ++ insert_lines [] w.position [] 0 below)) (small_start start small)
