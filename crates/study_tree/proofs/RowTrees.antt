-- Each list of rows belongs to a tree.
use Rattle.std.proofs.Common.{◌≡◌, ℕ, ◌<◌, ◌≤◌, List, [], ◌∷◌, ◌++◌, length, Bool, true}
use Rattle.std.proofs.Common.{false, Option, Some, None, refl, sym, ap, ◌∙◌, arith, zero}
use Rattle.std.proofs.Common.{suc, append_assoc, append-nil, subst, length-append}
use Rattle.std.specs.Prelude.{is_some, nat_lt}
use Rattle.std.proofs.lemmas.Bool.{ltb-true, ltb-false}
use Rattle.study_moves.specs.declared.moves.Move.{Move}
use Rattle.study_tree.specs.Forest.{Forest, none, more}
use Rattle.study_tree.specs.Tree.{Plain}
use Rattle.study_tree.specs.Rows.{Row, rows_in, rows, AreRows, AreRowsBelow}
use Rattle.study_tree.proofs.RowBlocks.{row}

some-of : {X : Type 0} (o : Option X) → is_some o ≡ true → (x : X) × (o ≡ Some x)
some-of None h = let no : ⊥ = cc in absurd no
some-of (Some x) h = (x, refl)

module _ {L : Type 0} where
  -- the rows end, or continue above depth d
  abbrev StopsAbove : ℕ → List (Row L) → Type 0
  StopsAbove d [] = Unit {0}
  StopsAbove d (r ∷ rs) = r.depth < d

  -- the rows of siblings, one level deeper than e, with all rows below them, and then other rows
  record Split (e : ℕ) (rs : List (Row L)) : Type 0 where
    pub siblings : Forest L
    pub rest : List (Row L)
    pub joined : rows_in (suc e) siblings ++ rest ≡ rs
    pub stops : StopsAbove (suc e) rest
    pub are : (h : ℕ) → e ≤ suc h → AreRowsBelow h rest

  same-row : (r : Row L) (d : ℕ) (m : Move) → r.depth ≡ d → r.played ≡ Some m → row d m r.label ≡ r
  same-row r d m deep played = rw (deep, played) refl

  joined-more : (e : ℕ) (r : Row L) (m : Move) (b f : Forest L) (rest later rs : List (Row L)) → r.depth ≡ suc e
      → r.played ≡ Some m → rows_in (suc (suc e)) b ++ later ≡ rs → rows_in (suc e) f ++ rest ≡ later
      → rows_in (suc e) (more m r.label b f) ++ rest ≡ r ∷ rs
  joined-more e r m b f rest later rs deep played inner outer =
      ap (λ xs. row (suc e) m r.label ∷ xs) (append_assoc (rows_in (suc (suc e)) b) (rows_in (suc e) f) rest
      ∙ ap (λ xs. rows_in (suc (suc e)) b ++ xs) outer ∙ inner)
      ∙ ap (λ x. x ∷ rs) (same-row r (suc e) m deep played)

  more-split : (e : ℕ) (r : Row L) (rs : List (Row L)) (m : Move) → r.depth ≡ suc e → r.played ≡ Some m
      → (inner : Split (suc e) rs) → Split e inner.rest → Split e (r ∷ rs)
  more-split e r rs m deep played inner outer =
      record {
        siblings = more m r.label inner.siblings outer.siblings;
        rest = outer.rest;
        joined = joined-more e r m inner.siblings outer.siblings outer.rest inner.rest rs deep played inner.joined outer.joined;
        stops = outer.stops;
        are = outer.are;
      }

  rest-shorter : (e n : ℕ) (rs : List (Row L)) (s : Split e rs) → length rs ≤ n → length s.rest ≤ n
  rest-shorter e n rs s p = omega (arith, ap length s.joined, length-append (rows_in (suc e) s.siblings) s.rest, p)

  above-split : (e : ℕ) (r : Row L) (rs : List (Row L)) → r.depth < suc e → AreRowsBelow e (r ∷ rs) → Split e (r ∷ rs)
  above-split e r rs above a =
      record { siblings = none; rest = r ∷ rs; joined = refl; stops = above; are = λ h p. (a.0, omega (arith, p, above), a.2, a.3) }

  -- the rows after a first one at depth e + 1, given the splitting of shorter lists
  first-split : (n e : ℕ) (r : Row L) (rs : List (Row L)) (above : Bool) → nat_lt r.depth (suc e) ≡ above → length rs ≤ n → AreRowsBelow e (r ∷ rs)
      → ((d : ℕ) (qs : List (Row L)) → length qs ≤ n → AreRowsBelow d qs → Split d qs) → Split e (r ∷ rs)
  first-split n e r rs true above short a split = above-split e r rs (ltb-true r.depth (suc e) above) a
  first-split n e r rs false above short a split =
      let deep : r.depth ≡ suc e = omega (arith, ltb-false r.depth (suc e) above, a.1) in
      let played = some-of r.played a.2 in
      let inner = split (suc e) rs short (subst (λ d. AreRowsBelow d rs) deep a.3) in
      more-split e r rs played.0 deep played.1 inner (split e inner.rest (rest-shorter (suc e) n rs inner short) (inner.are e (omega arith)))

  split-of : (n e : ℕ) (rs : List (Row L)) → length rs ≤ n → AreRowsBelow e rs → Split e rs
  split-of n e [] short a = record { siblings = none; rest = []; joined = refl; stops = tt; are = λ h p. tt }
  split-of zero e (r ∷ rs) short a = absurd (omega (arith, short))
  split-of (suc n) e (r ∷ rs) short a = first-split n e r rs (nat_lt r.depth (suc e)) refl (omega (arith, short)) a (split-of n)

  no-rest : (rs : List (Row L)) → StopsAbove 1 rs → AreRowsBelow 0 rs → rs ≡ []
  no-rest [] stops a = refl
  no-rest (r ∷ rs) stops a = absurd (omega (arith, stops, a.0))

  abbrev root_row : L → Row L
  root_row l = record { depth = 0; played = None; label = l }

  same-root : (r : Row L) → r.depth ≡ 0 → r.played ≡ None → root_row r.label ≡ r
  same-root r deep played = rw (deep, played) refl

  pub tree-of : (rs : List (Row L)) → AreRows rs → (t : Plain L) × (rows t ≡ rs)
  tree-of [] a = absurd a
  tree-of (r ∷ rs) a =
      let s = split-of (length rs) 0 rs (omega arith) a.2 in
      let all = no-rest s.rest s.stops (s.are 0 (omega arith)) in (
        record { label = r.label; below = s.siblings },
        ap (λ xs. root_row r.label ∷ xs) (sym (append-nil (rows_in 1 s.siblings)) ∙ ap (λ xs. rows_in 1 s.siblings ++ xs) (sym all) ∙ s.joined)
            ∙ ap (λ x. x ∷ rs) (same-root r a.0 a.1),
      )
