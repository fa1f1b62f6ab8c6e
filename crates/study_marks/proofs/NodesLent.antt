-- A child with its mark, from the child with its label.
use Rattle.std.proofs.Common.{◌≡◌, ℕ, ◌+◌, [], Option, Some, None, zero, suc, refl, sym, ap, ◌∙◌}
use Rattle.study_tree.specs.Forest.{Forest, none, more, Twig}
use Rattle.study_tree.specs.Edits.{node_in}
use Rattle.study_marks.specs.declared.node_label.NodeLabel.{NodeLabel}
use Rattle.study_marks.specs.declared.node_label.Evaluation.{Evaluation}
use Rattle.study_marks.specs.declared.mark.Mark.{Mark}
use Rattle.study_marks.specs.declared.mark.MoveMark.{MoveMark}
use Rattle.study_marks.specs.declared.mark_rules.Aim.{Aim}
use Rattle.study_marks.specs.BenchState.{mark_by_label, shown_mark, shown_marks}

-- a child as it is shown, at a node of depth d with the evaluation q
abbrev pub child_shown : Aim → ℕ → Evaluation → Option (Twig NodeLabel) → Option (Twig Mark)
child_shown a d q None = None
child_shown a d q (Some t) = Some (record { played = t.played; label = shown_mark a d q t.label; below = shown_marks a (d + 1) t.label.evaluated t.below })

node_in-shown_marks : (a : Aim) (d : ℕ) (q : Evaluation) (f : Forest NodeLabel) (k : ℕ) → node_in (shown_marks a d q f) k []
    ≡ child_shown a d q (node_in f k [])
node_in-shown_marks a d q none k = refl
node_in-shown_marks a d q (more m l b r) zero = refl
node_in-shown_marks a d q (more m l b r) (suc k) = node_in-shown_marks a d q r k

-- the mark of a child with the label l, of a node with the label p
pub mark-made : (a : Aim) (d : ℕ) (p l before label : NodeLabel) (made : MoveMark) (mark : Mark) → before ≡ p → label ≡ l
    → made ≡ mark_by_label a d before.evaluated label.evaluated.value
    → mark ≡ record { value = label.evaluated.value; on_move = Some made; faults = label.faults }
    → shown_mark a d p.evaluated l ≡ mark
mark-made a d p l before label made mark ep el em er =
    sym
    (er ∙ ap (λ m. record { value = label.evaluated.value; on_move = Some m; faults = label.faults }) em
    ∙ ap (λ (x : NodeLabel). shown_mark a d x.evaluated label) ep ∙ ap (shown_mark a d p.evaluated) el)

-- the child with this mark
pub child-made : (a : Aim) (d : ℕ) (q : Evaluation) (f : Forest NodeLabel) (k : ℕ) (t : Twig NodeLabel) (mark : Mark) → node_in f k [] ≡ Some t
    → shown_mark a d q t.label ≡ mark
    → node_in (shown_marks a d q f) k [] ≡ Some (record { played = t.played; label = mark; below = shown_marks a (d + 1) t.label.evaluated t.below })
child-made a d q f k t mark e em =
    node_in-shown_marks a d q f k ∙ ap (child_shown a d q) e
    ∙ ap (λ m. Some (record { played = t.played; label = m; below = shown_marks a (d + 1) t.label.evaluated t.below })) em

-- there is no such child
pub child-missing : (a : Aim) (d : ℕ) (q : Evaluation) (f : Forest NodeLabel) (k : ℕ) → node_in f k [] ≡ None → node_in (shown_marks a d q f) k [] ≡ None
child-missing a d q f k e = node_in-shown_marks a d q f k ∙ ap (child_shown a d q) e
