-- How an insertion becomes a step.
use Rattle.std.proofs.Common.{◌≡◌, ℕ, zero, suc, Bool, true, false, List, [], ◌∷◌, length, Option, Some, None, Result, Ok, Err, refl, sym, ap, subst, ◌∙◌, ◌+◌}
use Rattle.std.specs.Prelude.{MatchOption, IfOk, IfErr, IfSome, nat_le, if◌then◌else◌}
use Rattle.study_board.specs.Position.{Position}
use Rattle.study_moves.specs.declared.moves.Move.{Move}
use Rattle.study_moves.specs.Rules.{is_legal}
use Rattle.study_material.specs.declared.class.Class.{Class}
use Rattle.study_notation.specs.declared.start.Start.{Start}
use Rattle.study_tree.specs.Forest.{Forest, none, more, nodes_in}
use Rattle.study_tree.specs.Edits.{has_node, children_at}
use Rattle.study_tree.specs.Tree.{has_spot, size_of}
use Rattle.study_marks.specs.Study.{Study, mapped, plain_study, moves_to, position_after, position_at, place_at}
use Rattle.study_marks.specs.declared.refusal.Refusal.{Refusal}
use Rattle.study_marks.specs.declared.refusal.Refusal.TheVariants as refusal
use Rattle.study_marks.specs.Queries.{IsOutside}
use Rattle.study_marks.specs.Edits.{PlainStudy, with_insertion, insert_refusal, there}
use Rattle.study_reading.specs.declared.moves.MoveFault.{MoveFault}
use Rattle.study_reading.specs.declared.moves.MoveFault.TheVariants.{TooDeep, TreeFull}
use Rattle.study_reading.specs.declared.moves.MoveFault.TheVariants.{San, NoSuchNode}
use Rattle.study_reading.specs.declared.moves.Step.{Step}
use Rattle.study_import.specs.Moves.{After, child_or_added, moved_by, after_move_text, after_san, Comes}
use Rattle.study_notation.specs.declared.fault.SanFault.{SanFault}
use Rattle.study_notation.specs.Matching.{move_of}
use Rattle.study_notation.specs.StartAfter.{start_after}
use Rattle.study_marks.specs.Study.{start_along}
use Rattle.study_marks.specs.Bench.{start_at}

module _ {L M : Type 0} where
  has_node-mapped : (f : L → M) (t : Forest L) (ks : List ℕ) → has_node (mapped f t) ks ≡ has_node t ks
  has_node-mapped f t [] = refl
  has_node-mapped f none (k ∷ ks) = refl
  has_node-mapped f (more m l b r) (zero ∷ ks) = has_node-mapped f b ks
  has_node-mapped f (more m l b r) (suc k ∷ ks) = has_node-mapped f r (k ∷ ks)

  moves_to-mapped : (f : L → M) (t : Forest L) (ks : List ℕ) → moves_to (mapped f t) ks ≡ moves_to t ks
  moves_to-mapped f t [] = refl
  moves_to-mapped f none (k ∷ ks) = refl
  moves_to-mapped f (more m l b r) (zero ∷ ks) = ap (λ ms. m ∷ ms) (moves_to-mapped f b ks)
  moves_to-mapped f (more m l b r) (suc k ∷ ks) = moves_to-mapped f r (k ∷ ks)

  width-mapped : (f : L → M) (t : Forest L) → children_at (mapped f t) [] ≡ children_at t []
  width-mapped f none = refl
  width-mapped f (more m l b r) = ap (λ n. 1 + n) (width-mapped f r)

  children_at-mapped : (f : L → M) (t : Forest L) (ks : List ℕ) → children_at (mapped f t) ks ≡ children_at t ks
  children_at-mapped f t [] = width-mapped f t
  children_at-mapped f none (k ∷ ks) = refl
  children_at-mapped f (more m l b r) (zero ∷ ks) = children_at-mapped f b ks
  children_at-mapped f (more m l b r) (suc k ∷ ks) = children_at-mapped f r (k ∷ ks)

  nodes_in-mapped : (f : L → M) (t : Forest L) → nodes_in (mapped f t) ≡ nodes_in t
  nodes_in-mapped f none = refl
  nodes_in-mapped f (more m l b r) = let x = nodes_in-mapped f b in let y = nodes_in-mapped f r in rw (x, y) refl

module _ {L : Type 0} where
  pub size_plain : (s : Study L) → size_of (plain_study s).tree ≡ size_of s.tree
  size_plain s = ap (λ n. 1 + n) (nodes_in-mapped (λ _. tt) s.tree.below)

  pub has_spot-plain : (s : Study L) (ks : List ℕ) → has_spot (plain_study s).tree ks ≡ has_spot s.tree ks
  has_spot-plain s ks = has_node-mapped (λ _. tt) s.tree.below ks

  pub position_at-plain : (s : Study L) (ks : List ℕ) → position_at (plain_study s) ks ≡ position_at s ks
  position_at-plain s ks = ap (position_after s.start.position) (moves_to-mapped (λ _. tt) s.tree.below ks)

  pub children_at-plain : (s : Study L) (ks : List ℕ) → children_at (plain_study s).tree.below ks ≡ children_at s.tree.below ks
  children_at-plain s ks = children_at-mapped (λ _. tt) s.tree.below ks

module _ {A : Type 0} where
  -- the general reasons against a legal move at an existing node
  abbrev limits : Option ℕ → Bool → Bool → Option (Refusal A)
  limits place deep full = there place (if deep then Some refusal.TooDeep else (if full then Some refusal.TreeFull else None))

  refusal_is : (s : PlainStudy) (at : List ℕ) (m : Move) → has_spot s.tree at ≡ true → is_legal (position_at s at) m ≡ true
      → insert_refusal {A = A} s at m ≡ limits (place_at s.tree.below at m) (nat_le 256 (length at)) (nat_le 4096 (size_of s.tree))
  refusal_is s at m here legal = rw here (rw legal refl)

  err_is : (r : Result ℕ (Refusal A)) (e f : Refusal A) → r ≡ Err e → r ≡ Err f → e ≡ f
  err_is r e f is was = let both : ◌≡◌ {A = Result ℕ (Refusal A)} (Err e) (Err f) = sym is ∙ was in cc

  ok_not_err : (r : Result ℕ (Refusal A)) (v : ℕ) (e : Refusal A) → r ≡ Ok v → r ≡ Err e → ⊥
  ok_not_err r v e is was = let both : ◌≡◌ {A = Result ℕ (Refusal A)} (Ok v) (Err e) = sym is ∙ was in absurd cc

  module _ (s : PlainStudy) (at : List ℕ) (m : Move) (held : Class → Bool) (asked : List Position) (r : Result ℕ (Refusal A)) where
    abbrev Reported : Option ℕ → Bool → Bool → Type 0
    Reported place deep full = MatchOption (limits place deep full) (IfErr r (IsOutside held asked)) (λ f. r ≡ Err f)

    ok_steps : (place : Option ℕ) (deep full : Bool) (v : ℕ) → Reported place deep full → r ≡ Ok v → v ≡ children_at s.tree.below at
        → child_or_added s at m place deep full ≡ Ok (record { study = with_insertion s at m; step = record { place = v; added = Some m } })
    ok_steps (Some k) deep full v reported is e = absurd (ok_not_err r v _ is reported)
    ok_steps None true full v reported is e = absurd (ok_not_err r v _ is reported)
    ok_steps None false true v reported is e = absurd (ok_not_err r v _ is reported)
    ok_steps None false false v reported is e = rw e refl

    there_steps : (place : Option ℕ) (deep full : Bool) (k : ℕ) → Reported place deep full → r ≡ Err (refusal.AlreadyThere k)
        → child_or_added s at m place deep full ≡ Ok (record { study = s; step = record { place = k; added = None } })
    there_steps (Some j) deep full k reported is = let same = err_is r _ _ reported is in let e : j ≡ k = cc in rw e refl
    there_steps None true full k reported is = let same = err_is r _ _ reported is in absurd cc
    there_steps None false true k reported is = let same = err_is r _ _ reported is in absurd cc
    there_steps None false false k reported is = absurd (subst (λ (z : Result ℕ (Refusal A)). IfErr z (IsOutside held asked)) is reported)

    deep_steps : (place : Option ℕ) (deep full : Bool) → Reported place deep full → r ≡ Err refusal.TooDeep → child_or_added s at m place deep full
        ≡ Err TooDeep
    deep_steps (Some j) deep full reported is = let same = err_is r _ _ reported is in absurd cc
    deep_steps None true full reported is = refl
    deep_steps None false true reported is = let same = err_is r _ _ reported is in absurd cc
    deep_steps None false false reported is = absurd (subst (λ (z : Result ℕ (Refusal A)). IfErr z (IsOutside held asked)) is reported)

    full_steps : (place : Option ℕ) (deep full : Bool) → Reported place deep full → r ≡ Err refusal.TreeFull → child_or_added s at m place deep full
        ≡ Err TreeFull
    full_steps (Some j) deep full reported is = let same = err_is r _ _ reported is in absurd cc
    full_steps None true full reported is = let same = err_is r _ _ reported is in absurd cc
    full_steps None false true reported is = refl
    full_steps None false false reported is = absurd (subst (λ (z : Result ℕ (Refusal A)). IfErr z (IsOutside held asked)) is reported)

module _ {L A : Type 0} where
  module _ (s : Study L) (at : List ℕ) (m : Move) (held : Class → Bool) (asked : List Position) (r : Result ℕ (Refusal A)) (here : has_spot s.tree at ≡ true)
      (legal : is_legal (position_at s at) m ≡ true)
      (answered : MatchOption (insert_refusal {A = A} (plain_study s) at m) (IfErr r (IsOutside held asked)) (λ f. r ≡ Err f)) where
    plainly : Reported (plain_study s) at m held asked r (place_at (plain_study s).tree.below at m) (nat_le 256 (length at))
        (nat_le 4096 (size_of (plain_study s).tree))
    plainly =
        subst (λ (x : Option (Refusal A)). MatchOption x (IfErr r (IsOutside held asked)) (λ f. r ≡ Err f))
        (refusal_is (plain_study s) at m (has_spot-plain s at ∙ here) (ap (λ (p : Position). is_legal p m) (position_at-plain s at) ∙ legal)) answered

    pub moved_new : (v : ℕ) (new : PlainStudy) → r ≡ Ok v → v ≡ children_at s.tree.below at → new ≡ with_insertion (plain_study s) at m
        → moved_by (plain_study s) at m ≡ Ok (record { study = new; step = record { place = v; added = Some m } })
    unfolding moved_by
    moved_new v new is place e = rw e (ok_steps (plain_study s) at m held asked r _ _ _ v plainly is (place ∙ sym (children_at-plain s at)))

    pub moved_there : (k : ℕ) (new : PlainStudy) → r ≡ Err (refusal.AlreadyThere k) → new ≡ plain_study s
        → moved_by (plain_study s) at m ≡ Ok (record { study = new; step = record { place = k; added = None } })
    unfolding moved_by
    moved_there k new is e = rw e (there_steps (plain_study s) at m held asked r _ _ _ k plainly is)

    pub moved_deep : r ≡ Err refusal.TooDeep → moved_by (plain_study s) at m ≡ Err TooDeep
    unfolding moved_by
    moved_deep is = deep_steps (plain_study s) at m held asked r _ _ _ plainly is

    pub moved_full : r ≡ Err refusal.TreeFull → moved_by (plain_study s) at m ≡ Err TreeFull
    unfolding moved_by
    moved_full is = full_steps (plain_study s) at m held asked r _ _ _ plainly is

-- ---- the position in which a text is read

along_position : (st : Start) (ms : List Move) → (start_along st ms).position ≡ position_after st.position ms
unfolding start_after
along_position st [] = refl
along_position st (m ∷ ms) = along_position (start_after st m) ms

module _ {L : Type 0} where
  there_at : (s : Study L) (ks : List ℕ) (b : Bool) (st : Start)
      → Some st ≡ (if b then Some (start_along s.start (moves_to s.tree.below ks)) else None) → st.position ≡ position_at s ks
  there_at s ks true st e = let same : start_along s.start (moves_to s.tree.below ks) ≡ st = cc in
      ap (λ (x : Start). x.position) (sym same) ∙ along_position s.start (moves_to s.tree.below ks)
  there_at s ks false st e = absurd cc

  pub at_start : (s : Study L) (ks : List ℕ) (st : Start) → Some st ≡ start_at s ks → st.position ≡ position_at s ks
  at_start s ks st e = there_at s ks (has_spot s.tree ks) st e

  here_at : (s : Study L) (ks : List ℕ) (b : Bool) (st : Start)
      → Some st ≡ (if b then Some (start_along s.start (moves_to s.tree.below ks)) else None) → b ≡ true
  here_at s ks true st e = refl
  here_at s ks false st e = absurd cc

  -- a node that has a start exists
  pub here : (s : Study L) (ks : List ℕ) (st : Start) → Some st ≡ start_at s ks → has_spot s.tree ks ≡ true
  here s ks st e = here_at s ks (has_spot s.tree ks) st e

  gone_at : (s : Study L) (ks : List ℕ) (b : Bool) → None ≡ (if b then Some (start_along s.start (moves_to s.tree.below ks)) else None) → b ≡ false
  gone_at s ks true e = absurd cc
  gone_at s ks false e = refl

  -- a node that has no start does not exist
  pub no_spot : (s : Study L) (ks : List ℕ) → None ≡ start_at s ks → has_spot (plain_study s).tree ks ≡ false
  no_spot s ks e = has_spot-plain s ks ∙ gone_at s ks (has_spot s.tree ks) e

  pub nowhere : (s : Study L) (ks san : List ℕ) → None ≡ start_at s ks → after_move_text (plain_study s) ks san ≡ Err NoSuchNode
  unfolding after_move_text
  nowhere s ks san e = rw (has_spot-plain s ks ∙ gone_at s ks (has_spot s.tree ks) e) refl

  moved_is : (s : Study L) (ks san : List ℕ) (st : Start) (x : Result Move SanFault) → has_spot s.tree ks ≡ true → st.position ≡ position_at s ks
      → x ≡ move_of st.position san
      → after_move_text (plain_study s) ks san ≡ after_san (plain_study s) ks x
  unfolding after_move_text
  moved_is s ks san st x is at e = rw (has_spot-plain s ks ∙ is) (ap (λ (p : Position). after_san (plain_study s) ks (move_of p san)) (position_at-plain s ks
      ∙ sym at) ∙ ap (after_san (plain_study s) ks) (sym e))

  pub read_at : (s : Study L) (ks san : List ℕ) (m : Move) (st : Start) → has_spot s.tree ks ≡ true → st.position ≡ position_at s ks
      → Ok m ≡ move_of st.position san
      → (r : Result Step MoveFault) (new : PlainStudy) → Comes r (plain_study s) new (moved_by (plain_study s) ks m)
      → Comes r (plain_study s) new (after_move_text (plain_study s) ks san)
  read_at s ks san m st is at e r new h = subst (λ (x : Result After MoveFault). Comes r (plain_study s) new x) (sym (moved_is s ks san st (Ok m) is at e)) h

  pub unread_at : (s : Study L) (ks san : List ℕ) (fault : SanFault) (st : Start) → has_spot s.tree ks ≡ true → st.position ≡ position_at s ks
      → Err fault ≡ move_of st.position san
      → after_move_text (plain_study s) ks san ≡ Err (San fault)
  unread_at s ks san fault st is at e = moved_is s ks san st (Err fault) is at e

-- ---- new moves are legal

some_legal : (added : Option Move) (p : Position) (m : Move) → is_legal p m ≡ true → IfSome added (λ n. n ≡ m) → IfSome added (λ n. is_legal p n ≡ true)
some_legal None p m legal same = tt
some_legal (Some n) p m legal same = subst (λ (x : Move). is_legal p x ≡ true) (sym same) legal

pub added_legal : (r : Result Step MoveFault) (p : Position) (m : Move) → is_legal p m ≡ true → IfOk r (λ step. IfSome step.added (λ n. n ≡ m))
    → IfOk r (λ step. IfSome step.added (λ n. is_legal p n ≡ true))
added_legal (Ok s) p m legal same = some_legal s.added p m legal same
added_legal (Err fault) p m legal same = tt
