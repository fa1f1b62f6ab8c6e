-- A bench with the same nodes and new labels.
use Rattle.std.proofs.Common.{◌≡◌, ℕ, ◌+◌, List, [], ◌++◌, refl, sym, ap, ◌∙◌, subst}
use Rattle.study_board.specs.Position.{Position, IsValid}
use Rattle.study_moves.specs.Rules.{after}
use Rattle.study_tree.specs.Forest.{Forest, none, more, nodes_in}
use Rattle.study_tree.specs.Tree.{Plain}
use Rattle.study_notation.specs.declared.start.Start.{Start}
use Rattle.study_marks.specs.declared.node_label.NodeLabel.{NodeLabel}
use Rattle.study_marks.specs.declared.node_label.Evaluation.{Evaluation}
use Rattle.study_marks.specs.declared.stipulation.Stipulation.{Stipulation}
use Rattle.study_marks.specs.Study.{Study, plain_study, mapped, IsPlayable}
use Rattle.study_marks.specs.Goals.{aim_of}
use Rattle.study_marks.specs.Edits.{with_stipulation, with_start}
use Rattle.study_marks.specs.Queries.{asked_at, asked_below, positions_asked, IsOutside, HasAsked, HasStopped, is_of_tables}
use Rattle.study_marks.specs.declared.refusal.Refusal.{Refusal}
use Rattle.study_material.specs.declared.class.Class.{Class}
use Rattle.std.specs.Prelude.{Bool, Result, Ok, Err, IfErr, IsErrAnd}
use Rattle.study_marks.specs.Relabelled.{with_evaluations, reevaluated_tree}
use Rattle.study_marks.specs.declared.mark.Mark.{Mark}
use Rattle.study_marks.proofs.SameShape.{IsPlayable-mapped, mapped-IsPlayable}
use Rattle.study_marks.specs.BenchState.{BenchState, marked_study, IsStudy, IsKeptRight, AllAddUp, evaluation_tree}
use Rattle.study_marks.specs.Evaluated.{AllAreEvaluated}
use Rattle.study_marks.proofs.BenchEdits.{bare, bare-marked_study, bare-evaluated, Fits, fits, study}
use Rattle.study_marks.proofs.MarksShown.{AllAreEvaluated-right, right-evaluated}

-- the study with another stipulation and other labels
abbrev pub restipulated : Study NodeLabel → Stipulation → Plain NodeLabel → Study NodeLabel
restipulated s stipulation u = record { start = s.start; stipulation = stipulation; tags = s.tags; tree = u }

same-bare : (t u : Plain NodeLabel) → evaluation_tree u ≡ evaluation_tree t → bare u ≡ bare t
same-bare t u e = sym (bare-evaluated u) ∙ ap bare e ∙ bare-evaluated t

pub stipulated-study : (s : Study NodeLabel) (stipulation : Stipulation) (u : Plain NodeLabel)
    → evaluation_tree u ≡ evaluation_tree s.tree → IsStudy s → IsStudy (restipulated s stipulation u)
stipulated-study s stipulation u e h =
    let x = study s u h (subst (Fits s.start.position) (sym (same-bare s.tree u e)) (fits s h)) in
    record { valid = x.valid; playable = x.playable; distinct = x.distinct; shallow = x.shallow; printed = x.printed }

pub stipulated-plain : (k : BenchState) (stipulation : Stipulation) (u : Plain NodeLabel) (n : ℕ) → evaluation_tree u ≡ evaluation_tree k.study.tree
    → plain_study (marked_study (record { study = restipulated k.study stipulation u; relabelled = n }))
    ≡ with_stipulation (plain_study (marked_study k)) stipulation
stipulated-plain k stipulation u n e =
    ap (λ x. record { start = k.study.start; stipulation = stipulation; tags = k.study.tags; tree = x })
    (bare-marked_study (record { study = restipulated k.study stipulation u; relabelled = n }) ∙ same-bare k.study.tree u e ∙ sym (bare-marked_study k))

pub stipulated-right : (k : BenchState) (stipulation : Stipulation) (u : Plain NodeLabel) (n : ℕ)
    → evaluation_tree u ≡ evaluation_tree k.study.tree → AllAddUp (aim_of (restipulated k.study stipulation u)) u → IsKeptRight k
    → IsKeptRight (record { study = restipulated k.study stipulation u; relabelled = n })
stipulated-right k stipulation u n e s h =
    right-evaluated (record { study = restipulated k.study stipulation u; relabelled = n }) s
    (subst (AllAreEvaluated k.study.start.position) (sym e) (AllAreEvaluated-right k h))

-- an empty list keeps the evaluations
restated-none : (n : ℕ) (f : Forest Evaluation) → with_evaluations [] n f ≡ f
restated-none n none = refl
restated-none n (more m t b r) = ap (λ x. more m t x (with_evaluations [] (n + 1 + nodes_in b) r)) (restated-none (n + 1) b)
    ∙ ap (more m t b) (restated-none (n + 1 + nodes_in b) r)

pub evaluated-kept : (t u : Plain NodeLabel) → evaluation_tree u ≡ reevaluated_tree [] (evaluation_tree t) → evaluation_tree u ≡ evaluation_tree t
evaluated-kept t u e = e ∙ ap (λ f. record { label = t.label.evaluated; below = f }) (restated-none 1 (evaluation_tree t).below)

-- no list of evaluations changes a node
bare-restated : (all : List Evaluation) (n : ℕ) (f : Forest Evaluation) → mapped (λ (x : Evaluation). tt {0}) (with_evaluations all n f) ≡ mapped
    (λ (x : Evaluation). tt {0}) f
bare-restated all n none = refl
bare-restated all n (more m t b r) =
    ap (λ x. more m tt x (mapped (λ (y : Evaluation). tt {0}) (with_evaluations all (n + 1 + nodes_in b) r)))
    (bare-restated all (n + 1) b) ∙ ap (more m tt (mapped (λ (y : Evaluation). tt {0}) b))
    (bare-restated all (n + 1 + nodes_in b) r)

bare-rewritten : (all : List Evaluation) (t u : Plain NodeLabel) → evaluation_tree u ≡ reevaluated_tree all (evaluation_tree t) → bare u ≡ bare t
bare-rewritten all t u e = sym (bare-evaluated u) ∙ ap bare e ∙ ap (λ f. record { label = tt; below = f }) (bare-restated all 1 (evaluation_tree t).below)
    ∙ bare-evaluated t

-- the study with another start and other labels
abbrev pub restarted : Study NodeLabel → Start → Plain NodeLabel → Study NodeLabel
restarted s start u = record { start = start; stipulation = s.stipulation; tags = s.tags; tree = u }

module _ (all : List Evaluation) (k : BenchState) (start : Start) (u : Plain NodeLabel) (n : ℕ)
    (e : evaluation_tree u ≡ reevaluated_tree all (evaluation_tree k.study.tree)) where
  pub shifted-study : IsValid start.position → IsPlayable start.position k.study.tree.below → IsStudy k.study → IsStudy (restarted k.study start u)
  shifted-study valid legal h =
      let x = study k.study u h (subst (Fits k.study.start.position) (sym (bare-rewritten all k.study.tree u e)) (fits k.study h)) in
      record {
        valid = valid;
        playable = IsPlayable-mapped (λ _. tt {0}) start.position u.below
            (subst (λ (t : Plain (Unit {0})). IsPlayable start.position t.below)
            (sym (bare-rewritten all k.study.tree u e))
            (mapped-IsPlayable (λ _. tt {0}) start.position k.study.tree.below legal));
        distinct = x.distinct;
        shallow = x.shallow;
        printed = x.printed;
      }

  pub shifted-plain : plain_study (marked_study (record { study = restarted k.study start u; relabelled = n }))
      ≡ with_start (plain_study (marked_study k)) start
  shifted-plain =
      ap (λ x. record { start = start; stipulation = k.study.stipulation; tags = k.study.tags; tree = x })
      (bare-marked_study (record { study = restarted k.study start u; relabelled = n }) ∙ bare-rewritten all k.study.tree u e ∙ sym (bare-marked_study k))

  pub shifted-right : AllAddUp (aim_of (restarted k.study start u)) u
      → AllAreEvaluated start.position (reevaluated_tree all (evaluation_tree k.study.tree))
      → IsKeptRight (record { study = restarted k.study start u; relabelled = n })
  shifted-right s h = right-evaluated (record { study = restarted k.study start u; relabelled = n }) s (subst (AllAreEvaluated start.position) (sym e) h)

-- the probes for a study with this start
asked-mapped : {L M : Type 0} (g : L → M) (p : Position) (f : Forest L) → asked_below p (mapped g f) ≡ asked_below p f
asked-mapped g p none = refl
asked-mapped g p (more m l b r) =
    ap (λ x. asked_at (after p m) ++ (x ++ asked_below p (mapped g r))) (asked-mapped g (after p m) b)
    ∙ ap (λ x. asked_at (after p m) ++ (asked_below (after p m) b ++ x)) (asked-mapped g p r)

pub asked-shifted : (b k : BenchState) (start : Start) → b ≡ k
    → asked_at start.position ++ asked_below start.position b.study.tree.below
    ≡ positions_asked (with_start (plain_study (marked_study k)) start)
asked-shifted b k start same =
    ap (λ x. asked_at start.position ++ x)
    (sym (asked-mapped (λ (l : NodeLabel). tt {0}) start.position b.study.tree.below)
    ∙ ap (λ (t : Plain (Unit {0})). asked_below start.position t.below) (sym (bare-marked_study b)))
    ∙ ap (λ (x : BenchState). positions_asked (with_start (plain_study (marked_study x)) start)) same

pub asked-plain : (s : Study Mark) → positions_asked (plain_study s) ≡ positions_asked s
asked-plain s = ap (λ x. asked_at s.start.position ++ x) (asked-mapped (λ (x : Mark). tt {0}) s.start.position s.tree.below)

-- a result that passes a refusal on
pub same-refusal : {T A : Type 0} (r : Result T (Refusal A)) (f : Refusal A) (held : Class → Bool)
    (asked : List Position) → IsErrAnd r (λ x. x ≡ f) → IsOutside held asked f → IfErr r (IsOutside held asked)
same-refusal (Ok x) f held asked e h = absurd e
same-refusal {A = A} (Err x) f held asked e h = subst (IsOutside {A = A} held asked) (sym e) h

pub refusal-asked : {T A : Type 0} (r : Result T (Refusal A)) (f : Refusal A) (n old new : ℕ)
    → IsErrAnd r (λ x. x ≡ f) → HasStopped (is_of_tables f) n old new → HasAsked n r old new
refusal-asked (Ok x) f n old new e h = absurd e
refusal-asked {A = A} (Err x) f n old new e h = subst (λ (y : Refusal A). HasStopped (is_of_tables y) n old new) (sym e) h
