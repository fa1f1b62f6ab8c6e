-- All labels written anew.
use Rattle.std.proofs.Common.{◌≡◌, ℕ, ◌+◌, ◌≤◌, List, [], ◌∷◌, ◌++◌, length, Bool}
use Rattle.std.proofs.Common.{refl, sym, ap, ◌∙◌, arith, zero, suc}
use Rattle.std.specs.Prelude.{take, ◌-◌}
use Rattle.study_tree.specs.Forest.{Forest, none, more, nodes_in}
use Rattle.study_tree.specs.Edits.{width}
use Rattle.study_text.specs.Counts.{next_count}
use Rattle.study_marks.specs.declared.node_label.NodeLabel.{NodeLabel}
use Rattle.study_marks.specs.declared.node_label.Evaluation.{Evaluation}
use Rattle.study_marks.specs.declared.mark_rules.Aim.{Aim}
use Rattle.study_marks.specs.Queries.{counted_up_by}
use Rattle.study_marks.specs.Study.{mapped}
use Rattle.study_marks.specs.BenchState.{faults_below, FaultsAddUp}
use Rattle.study_marks.specs.Relabelled.{evaluation_in, with_evaluations, with_faults, firsts}
use Rattle.study_marks.proofs.SameShape.{nodes_in-mapped}
use Rattle.study_marks.proofs.PathRenewed.{below≤all, all≤nodes}

module _ {L : Type 0} where
  pub firsts-all : (k : ℕ) (f : Forest L) → width f ≤ k → firsts k f ≡ f
  firsts-all zero none h = refl
  firsts-all zero (more m l b r) h = absurd (omega arith)
  firsts-all (suc k) none h = refl
  firsts-all (suc k) (more m l b r) h = ap (more m l b) (firsts-all k r (omega arith))

module _ (all : List Evaluation) (a : Aim) where
  -- the evaluations come from the list
  pub evaluated-refreshed : (d n : ℕ) (q : Evaluation) (f : Forest NodeLabel)
      → mapped (λ (l : NodeLabel). l.evaluated) (with_faults all a d n q f) ≡ with_evaluations all n (mapped (λ l. l.evaluated) f)
  evaluated-refreshed d n q none = refl
  evaluated-refreshed d n q (more m l b r) =
      ap
      (λ x. more m (evaluation_in all n l.evaluated) x
      (mapped (λ (y : NodeLabel). y.evaluated) (with_faults all a d (n + 1 + nodes_in b) q r)))
      (evaluated-refreshed (d + 1) (n + 1) (evaluation_in all n l.evaluated) b)
      ∙ ap (more m (evaluation_in all n l.evaluated) (with_evaluations all (n + 1) (mapped (λ (y : NodeLabel). y.evaluated) b)))
      (evaluated-refreshed d (n + 1 + nodes_in b) q r
      ∙ ap (λ x. with_evaluations all (n + 1 + x) (mapped (λ (y : NodeLabel). y.evaluated) r))
      (sym (nodes_in-mapped (λ (y : NodeLabel). y.evaluated) b)))

  -- the faults add up
  pub adds-refreshed : (d n : ℕ) (q : Evaluation) (f : Forest NodeLabel) → FaultsAddUp a d q (with_faults all a d n q f)
  adds-refreshed d n q none = tt
  adds-refreshed d n q (more m l b r) = (refl, adds-refreshed (d + 1) (n + 1) (evaluation_in all n l.evaluated) b, adds-refreshed d (n + 1 + nodes_in b) q r)

  nodes-refreshed : (d n : ℕ) (q : Evaluation) (f : Forest NodeLabel) → nodes_in (with_faults all a d n q f) ≡ nodes_in f
  nodes-refreshed d n q none = refl
  nodes-refreshed d n q (more m l b r) = omega (
    arith,
    nodes-refreshed (d + 1) (n + 1) (evaluation_in all n l.evaluated) b,
    nodes-refreshed d (n + 1 + nodes_in b) q r,
  )

  pub few-refreshed : (d n : ℕ) (hero : Bool) (q : Evaluation) (f : Forest NodeLabel) → faults_below hero (with_faults all a d n q f) ≤ nodes_in f
  few-refreshed d n hero q f =
      omega (
        arith,
        below≤all hero (with_faults all a d n q f),
        all≤nodes a d q (with_faults all a d n q f)
            (adds-refreshed d n q f),
        nodes-refreshed d n q f,
      )

pub length-further : (ks : List ℕ) (k : ℕ) → length (ks ++ k ∷ []) ≡ length ks + 1
length-further [] k = refl
length-further (j ∷ js) k = omega (arith, length-further js k)

take-front : (xs ys : List ℕ) (n : ℕ) → n ≡ length xs → take n (xs ++ ys) ≡ xs
take-front [] ys zero e = refl
take-front [] ys (suc n) e = absurd (omega arith)
take-front (x ∷ xs) ys zero e = absurd (omega arith)
take-front (x ∷ xs) ys (suc n) e = ap (λ zs. x ∷ zs) (take-front xs ys n (omega arith))

-- the path after its last step is taken back
pub back : (ks zs : List ℕ) (k : ℕ) → zs ≡ ks ++ k ∷ [] → take (length zs - 1) zs ≡ ks
back ks zs k e = ap (λ xs. take (length xs - 1) xs) e ∙ take-front ks (k ∷ []) (length (ks ++ k ∷ []) - 1) (omega (arith, length-further ks k))

pub counted_times-sum : (b c n : ℕ) → counted_up_by (b + c) n ≡ counted_up_by c (counted_up_by b n)
counted_times-sum zero c n = ap (λ x. counted_up_by x n) (let z : 0 + c ≡ c = omega arith in z)
counted_times-sum (suc b) c n = ap (λ x. counted_up_by x n) (let z : suc b + c ≡ suc (b + c) = omega arith in z) ∙ counted_times-sum b c (next_count n)
