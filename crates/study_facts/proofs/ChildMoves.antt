-- The moves of children, one by one.
use Rattle.std.proofs.Common.{◌≡◌, ℕ, ◌≤◌, List, [], ◌∷◌, ◌++◌, Option, Some, Result, Ok, Err, OnOk, suc, arith, sym, ap, ◌∙◌, append_assoc}
use Rattle.std.proofs.lemmas.List.{append-nil}
use Rattle.study_moves.specs.declared.moves.Move.{Move}
use Rattle.study_tree.specs.Forest.{Forest}
use Rattle.study_tree.specs.Edits.{width, children_at}
use Rattle.study_marks.specs.FaultSums.{below_at, siblings_from}
use Rattle.study_marks.proofs.ChildFound.{Here, children-width, skipped-end}
use Rattle.study_facts.specs.Line.{moves_of}

module _ {L : Type 0} where
  pub no-children : (f : Forest L) (steps : List ℕ) (k count : ℕ) (moves : List Move) → count ≡ children_at f steps → count ≤ k
      → moves ≡ moves ++ moves_of (siblings_from k (below_at f steps))
  no-children f steps k count moves e h =
      let few : width (below_at f steps) ≤ k = omega (arith, h, e, children-width f steps) in
      sym (append-nil moves) ∙ ap (λ (g : Forest L). moves ++ moves_of g) (sym (skipped-end k (below_at f steps) few))

  pub one-child : {T E : Type 0} (f : Forest L) (k next : ℕ) (r : Option Move) (m : Move) (old mid new : List Move) (done : Result T E) → Here k f r
      → r ≡ Some m → next ≡ suc k → mid ≡ old ++ m ∷ [] → OnOk done (new ≡ mid ++ moves_of (siblings_from next f))
      → OnOk done (new ≡ old ++ moves_of (siblings_from k f))
  one-child f k next r m old mid new (Err y) x e n h t = tt
  one-child f k next r m old mid new (Ok y) x e n h t =
      let same : x.0 ≡ m = (let s : Some x.0 ≡ Some m = sym x.4 ∙ e in cc) in
      let rest = moves_of (siblings_from (suc k) f) in
      t ∙ ap (λ j. mid ++ moves_of (siblings_from j f)) n ∙ ap (λ (l : List Move). l ++ rest) h ∙ append_assoc old (m ∷ []) rest
      ∙ ap (λ y. old ++ y ∷ rest) (sym same) ∙ ap (λ (g : Forest L). old ++ moves_of g) (sym x.3)
