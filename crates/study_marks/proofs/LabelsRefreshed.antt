-- All labels written in one walk are the refreshed labels.
use Rattle.std.proofs.Common.{◌≡◌, ℕ, ◌+◌, ◌≤◌, List, Bool, true, false, refl, sym, ap, ◌∙◌, arith, zero, suc, subst}
use Rattle.std.specs.Prelude.{if◌then◌else◌, ◌-◌, ◌^◌, min}
use Rattle.study_moves.specs.declared.moves.Move.{Move}
use Rattle.study_tree.specs.Forest.{Forest, none, more, nodes_in}
use Rattle.study_tree.specs.Tree.{Plain, size_of}
use Rattle.study_tree.specs.Changes.{rewritten, rewritten_tree}
use Rattle.study_marks.specs.declared.node_label.NodeLabel.{NodeLabel}
use Rattle.study_marks.specs.declared.node_label.Evaluation.{Evaluation}
use Rattle.study_marks.specs.declared.mark_rules.Aim.{Aim}
use Rattle.study_marks.specs.Goals.{hero_moves}
use Rattle.study_marks.specs.BenchState.{own_fault, all_faults, faults_below, AllAddUp, evaluation_tree}
use Rattle.study_marks.specs.FaultSums.{counted_faults}
use Rattle.study_marks.specs.Relabelled.{evaluation_in, reevaluated_tree, with_faults, fault_pass}
use Rattle.study_marks.proofs.PathRenewed.{own≤1}
use Rattle.study_marks.proofs.LabelsWritten.{evaluated-refreshed, adds-refreshed, few-refreshed}

-- the faults that nodes from place k on count for their parent
abbrev counts_from : Bool → ℕ → Forest NodeLabel → ℕ
counts_from hero zero f = faults_below hero f
counts_from hero (suc k) f = if hero then 0 else all_faults f

counts-none : (hero : Bool) (k : ℕ) → counts_from hero k none ≡ 0
counts-none hero zero = refl
counts-none true (suc k) = refl
counts-none false (suc k) = refl

counts-more : (hero : Bool) (k : ℕ) (m : Move) (l : NodeLabel) (b r : Forest NodeLabel)
    → counted_faults hero k l.faults + counts_from hero (suc k) r ≡ counts_from hero k (more m l b r)
counts-more hero zero m l b r = refl
counts-more true (suc k) m l b r = refl
counts-more false (suc k) m l b r = refl

counted≤ : (hero : Bool) (k n : ℕ) → counted_faults hero k n ≤ n
counted≤ hero zero n = omega arith
counted≤ true (suc k) n = omega arith
counted≤ false (suc k) n = omega arith

module _ (all : List Evaluation) (a : Aim) where
  -- the evaluation of the node and of those below it, and their faults for the parent
  step : (d k n : ℕ) (q : Evaluation) (x : ℕ) (m : Move) (l : NodeLabel) (b r : Forest NodeLabel) (t : Evaluation) (below later : Forest NodeLabel)
      (own_count : ℕ)
      → x + 1 + nodes_in b + nodes_in r ≤ 4096 → own_count ≤ 1
      → faults_below (hero_moves a (d + 1)) below ≤ nodes_in b
      → t ≡ evaluation_in all n l.evaluated → own_count ≡ own_fault a d q t.value
      → rewritten (fault_pass all a) (d + 1) 0 (n + 1) (record { evaluated = t; faults = own_count }) b
      ≡ (record { evaluated = t; faults = own_count + faults_below (hero_moves a (d + 1)) below }, below)
      → ((y : ℕ) → y + nodes_in r ≤ 4096 → rewritten (fault_pass all a) d (suc k) (n + 1 + nodes_in b) (record { evaluated = q; faults = y }) r
      ≡ (record { evaluated = q; faults = y + counts_from (hero_moves a d) (suc k) later }, later))
      → rewritten (fault_pass all a) d k n (record { evaluated = q; faults = x }) (more m l b r)
      ≡ (
        record {
          evaluated = q;
          faults = x + counts_from (hero_moves a d) k
              (more m (record { evaluated = t; faults = own_count + faults_below (hero_moves a (d + 1)) below }) below later);
        },
        more m (record { evaluated = t; faults = own_count + faults_below (hero_moves a (d + 1)) below }) below later,
      )
  step d k n q x m l b r t below later own_count few one small et eo under rest =
      ap whole (ap (λ (y : Evaluation). rewritten (fault_pass all a) (d + 1) 0 (n + 1) (record { evaluated = y; faults = own_fault a d q y.value }) b) (sym et)
      ∙ ap (λ y. rewritten (fault_pass all a) (d + 1) 0 (n + 1) (record { evaluated = t; faults = y }) b) (sym eo) ∙ under)
      ∙ ap (λ y. (
        (rewritten (fault_pass all a) d (suc k) (n + 1 + nodes_in b) (record { evaluated = q; faults = y }) r).0,
        more m child below (rewritten (fault_pass all a) d (suc k) (n + 1 + nodes_in b) (record { evaluated = q; faults = y }) r).1,
      )) joined
      ∙ ap (λ (s : NodeLabel × Forest NodeLabel). (s.0, more m child below s.1)) (rest (x + share) (omega (arith, few, one, small, fewer)))
      ∙ ap (λ y. (record { evaluated = q; faults = y }, more m child below later)) sum
    where
      child : NodeLabel
      child = record { evaluated = t; faults = own_count + faults_below (hero_moves a (d + 1)) below }

      share : ℕ
      share = counted_faults (hero_moves a d) k child.faults

      whole : NodeLabel × Forest NodeLabel → NodeLabel × Forest NodeLabel
      whole c = (
        (rewritten (fault_pass all a) d (suc k) (n + 1 + nodes_in b) ((fault_pass all a).joined d k (record { evaluated = q; faults = x }) c.0) r).0,
        more m c.0 c.1 (rewritten (fault_pass all a) d (suc k) (n + 1 + nodes_in b) ((fault_pass all a).joined d k (record { evaluated = q; faults = x }) c.0)
            r).1,
      )

      fewer : share ≤ child.faults
      fewer = counted≤ (hero_moves a d) k child.faults

      joined : min (x + share) (2 ^ 32 - 1) ≡ x + share
      joined = omega (arith, few, one, small, fewer)

      sum : x + share + counts_from (hero_moves a d) (suc k) later ≡ x + counts_from (hero_moves a d) k (more m child below later)
      sum = omega (arith, counts-more (hero_moves a d) k m child below later)

  are-refreshed : (d k n : ℕ) (q : Evaluation) (x : ℕ) (f : Forest NodeLabel) → x + nodes_in f ≤ 4096
      → rewritten (fault_pass all a) d k n (record { evaluated = q; faults = x }) f
      ≡ (record { evaluated = q; faults = x + counts_from (hero_moves a d) k (with_faults all a d n q f) }, with_faults all a d n q f)
  are-refreshed d k n q x none few =
      ap (λ y. (record { evaluated = q; faults = y }, none))
      (let same : x ≡ x + counts_from (hero_moves a d) k none = omega (arith, counts-none (hero_moves a d) k) in same)
  are-refreshed d k n q x (more m l b r) few =
      step d k n q x m l b r (evaluation_in all n l.evaluated) (with_faults all a (d + 1) (n + 1) (evaluation_in all n l.evaluated) b)
      (with_faults all a d (n + 1 + nodes_in b) q r) (own_fault a d q (evaluation_in all n l.evaluated).value)
      (omega (arith, few)) (own≤1 a d q (evaluation_in all n l.evaluated).value)
      (few-refreshed all a (d + 1) (n + 1) (hero_moves a (d + 1)) (evaluation_in all n l.evaluated) b) refl refl
      (are-refreshed (d + 1) 0 (n + 1) (evaluation_in all n l.evaluated) (own_fault a d q (evaluation_in all n l.evaluated).value) b
      (omega (arith, few, own≤1 a d q (evaluation_in all n l.evaluated).value)))
      (λ y h. are-refreshed d (suc k) (n + 1 + nodes_in b) q y r (omega (arith, h)))

  -- the whole tree
  pub tree-refreshed : (t : Plain NodeLabel) → size_of t ≤ 4096
      → rewritten_tree (fault_pass all a) t
      ≡ record {
        label = record {
          evaluated = evaluation_in all 0 t.label.evaluated;
          faults = faults_below (hero_moves a 0) (with_faults all a 0 1 (evaluation_in all 0 t.label.evaluated) t.below);
        };
        below = with_faults all a 0 1 (evaluation_in all 0 t.label.evaluated) t.below;
      }
  tree-refreshed t few =
      ap (λ (s : NodeLabel × Forest NodeLabel). record { label = s.0; below = s.1 })
      (are-refreshed 0 0 1 (evaluation_in all 0 t.label.evaluated) 0 t.below (omega (arith, few)))
      ∙ ap (λ n. record {
        label = record { evaluated = evaluation_in all 0 t.label.evaluated; faults = n };
        below = with_faults all a 0 1 (evaluation_in all 0 t.label.evaluated) t.below;
      })
      (let sum : 0 + counts_from (hero_moves a 0) 0 (with_faults all a 0 1 (evaluation_in all 0 t.label.evaluated) t.below)
      ≡ faults_below (hero_moves a 0) (with_faults all a 0 1 (evaluation_in all 0 t.label.evaluated) t.below) = omega arith in sum)

  pub right-refreshed : (t new : Plain NodeLabel) → size_of t ≤ 4096 → new ≡ rewritten_tree (fault_pass all a) t → AllAddUp a new
  right-refreshed t new few e =
      subst (AllAddUp a) (sym (e ∙ tree-refreshed t few)) (refl, adds-refreshed all a 0 1 (evaluation_in all 0 t.label.evaluated) t.below)

  pub evaluated-restated : (t new : Plain NodeLabel) → size_of t ≤ 4096 → new ≡ rewritten_tree (fault_pass all a) t
      → evaluation_tree new ≡ reevaluated_tree all (evaluation_tree t)
  evaluated-restated t new few e =
      ap evaluation_tree (e ∙ tree-refreshed t few)
      ∙ ap (λ x. record { label = evaluation_in all 0 t.label.evaluated; below = x })
      (evaluated-refreshed all a 0 1 (evaluation_in all 0 t.label.evaluated) t.below)
