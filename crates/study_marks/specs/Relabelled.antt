-- Not part of any public contract: the new evaluations of all nodes, and the faults that are counted from them. Nodes are numbered in written order.
use Rattle.std.specs.Prelude.{ℕ, ◌+◌, ◌-◌, ◌^◌, min, List, [], ◌∷◌, ◌++◌, zero, suc, slice_index_or}
use Rattle.study_board.specs.Position.{Position}
use Rattle.study_moves.specs.Rules.{after}
use Rattle.study_tree.specs.Forest.{Forest, none, more, nodes_in}
use Rattle.study_tree.specs.Tree.{Plain}
use Rattle.study_tree.specs.Changes.{Pass}
use Rattle.study_marks.specs.declared.node_label.NodeLabel.{NodeLabel}
use Rattle.study_marks.specs.declared.node_label.Evaluation.{Evaluation}
use Rattle.study_marks.specs.declared.mark_rules.Aim.{Aim}
use Rattle.study_marks.specs.Goals.{hero_moves}
use Rattle.study_marks.specs.BenchState.{own_fault, faults_below}
use Rattle.study_marks.specs.FaultSums.{counted_faults}
use Rattle.study_marks.specs.Queries.{asked_at}
use Rattle.study_marks.specs.Evaluated.{IsEvaluationOf}

-- the list's evaluation of node n; the node's present one if the list is shorter
abbrev pub evaluation_in : List Evaluation → ℕ → Evaluation → Evaluation
evaluation_in all n t = slice_index_or all n t

-- the same sibling nodes with the list's evaluations; the first of them is node n
abbrev pub with_evaluations : List Evaluation → ℕ → Forest Evaluation → Forest Evaluation
with_evaluations all n none = none
with_evaluations all n (more m t b r) = more m (evaluation_in all n t) (with_evaluations all (n + 1) b) (with_evaluations all (n + 1 + nodes_in b) r)

-- the tree with the list's evaluations of its nodes; the root is node 0
abbrev pub reevaluated_tree : List Evaluation → Plain Evaluation → Plain Evaluation
reevaluated_tree all t = record { label = evaluation_in all 0 t.label; below = with_evaluations all 1 t.below }

-- the same nodes with their faults; their moves are made at depth d at the node with the evaluation q
abbrev pub with_faults : List Evaluation → Aim → ℕ → ℕ → Evaluation → Forest NodeLabel → Forest NodeLabel
with_faults all a d n q none = none
with_faults all a d n q (more m l b r) =
    more m
    (record {
      evaluated = evaluation_in all n l.evaluated;
      faults = own_fault a d q (evaluation_in all n l.evaluated).value + faults_below
          (hero_moves a (d + 1)) (with_faults all a (d + 1) (n + 1) (evaluation_in all n l.evaluated) b);
    })
    (with_faults all a (d + 1) (n + 1) (evaluation_in all n l.evaluated) b) (with_faults all a d (n + 1 + nodes_in b) q r)

-- `with_faults`, as labels are written one after the other: a node begins with its own faults, and each child adds its count
abbrev pub fault_pass : List Evaluation → Aim → Pass NodeLabel
fault_pass all a = record {
  begun = λ l. record { evaluated = evaluation_in all 0 l.evaluated; faults = 0 };
  entered = λ d n q l. record { evaluated = evaluation_in all n l.evaluated; faults = own_fault a d q.evaluated (evaluation_in all n l.evaluated).value };
  joined = λ d k q l. record { evaluated = q.evaluated; faults = min (q.faults + counted_faults (hero_moves a d) k l.faults) (2 ^ 32 - 1) };
}

-- the first k siblings
abbrev pub firsts : {L : Type 0} → ℕ → Forest L → Forest L
firsts zero f = none
firsts (suc k) none = none
firsts (suc k) (more m l b r) = more m l b (firsts k r)

-- the positions of sibling nodes, and of all nodes below them, in written order; their moves are made in p
abbrev pub positions_in : {L : Type 0} → Position → Forest L → List Position
positions_in p none = []
positions_in p (more m l b r) = after p m ∷ (positions_in (after p m) b ++ positions_in p r)

-- the probes for these positions, one position after the other
abbrev pub asked_each : List Position → List Position
asked_each [] = []
asked_each (p ∷ ps) = asked_at p ++ asked_each ps

-- the evaluation of each of these positions
abbrev pub AreEvaluationsOf : List Position → List Evaluation → Type 0
AreEvaluationsOf [] [] = Unit {0}
AreEvaluationsOf [] (t ∷ ts) = ⊥
AreEvaluationsOf (p ∷ ps) [] = ⊥
AreEvaluationsOf (p ∷ ps) (t ∷ ts) = IsEvaluationOf p t × AreEvaluationsOf ps ts
