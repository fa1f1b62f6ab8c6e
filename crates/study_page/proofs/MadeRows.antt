-- What the parts of a page have of one node.
use Rattle.std.proofs.Common.{◌≡◌, ◌≤◌, ℕ, Bool, true, false, arith, List, [], ◌∷◌, ◌++◌, Option, Some, None, length, Result, Ok, Err, OnOk, refl}
use Rattle.std.proofs.Common.{sym, ap, subst, ◌∙◌}
use Rattle.std.specs.Prelude.{MatchOption, if◌then◌else◌}
use Rattle.study_notation.specs.declared.start.Start.{Start}
use Rattle.std.proofs.lemmas.List.{append-nil}
use Rattle.study_board.specs.Position.{Position}
use Rattle.study_moves.specs.declared.moves.Move.{Move}
use Rattle.study_values.specs.declared.value.Value.{Value}
use Rattle.study_tree.specs.Tree.{spot_at}
use Rattle.study_marks.specs.declared.mark_rules.Aim.{Aim}
use Rattle.study_marks.specs.declared.mark.Mark.{Mark}
use Rattle.study_marks.specs.declared.mark.MoveMark.{MoveMark}
use Rattle.study_marks.specs.declared.mark.MoveMark.TheVariants.{Only, Dual, Mistake, Idle, Reply}
use Rattle.study_marks.specs.Bench.{played_by}
use Rattle.study_marks.specs.FaultSums.{below_at}
use Rattle.study_marks.specs.Study.{Study, position_at}
use Rattle.study_marks.specs.Goals.{aim_of}
use Rattle.study_facts.specs.declared.continuation.EvaluatedMove.{EvaluatedMove}
use Rattle.study_facts.specs.declared.study_node.StudyMove.{StudyMove}
use Rattle.study_facts.specs.declared.study_node.StudyNode.{StudyNode}
use Rattle.study_facts.specs.declared.missing_defences.Defence.{Defence}
use Rattle.study_facts.specs.declared.time_loss.Alternative.{Alternative}
use Rattle.study_facts.specs.Time.{AreTimedAlternatives}
use Rattle.study_facts.specs.Continuations.{AreRefutations}
use Rattle.study_facts.specs.Defences.{AreDefences}
use Rattle.study_facts.specs.Line.{line_to, moves_of}
use Rattle.study_facts.specs.Nodes.{EmptyUnless, parent_path, is_defended, is_open_end, is_solution_move, is_try, mark_at, value_at}
use Rattle.study_facts.specs.Made.{Grew}
use Rattle.study_facts.specs.StudyNode.{IsStudyNode, IsStudyMove}
use Rattle.study_facts.proofs.AtPath.{as-made, as-placed}
use Rattle.study_facts.proofs.NodesShown.{are-there, not-there}
use Rattle.study_page.specs.Words.{where_words, label_to}
use Rattle.study_head.specs.Words.{label}
use Rattle.study_page.specs.Rows.{IsFaultOf, FaultItems, IsCardOf, Cards, TryRows, DefenceRowsAmong, IsEnd, EndRows, try_row, missing_row, zugzwang_rows}
use Rattle.study_head.specs.declared.reached.Reached.{Reached}
use Rattle.study_page.specs.Rows.{ZugzwangRows, mistake_item, dual_item, card}
use Rattle.study_facts.specs.declared.zugzwang.Zugzwang.{Zugzwang}
use Rattle.study_facts.specs.Zugzwang.{IsZugzwangOf}

-- a text to which nothing was added
pub nothing-grew : (Lines : List ℕ → Type 0) (text : List ℕ) → Lines [] → Grew Lines text text
nothing-grew Lines text h = ([], h, sym (append-nil text))

-- what holds anyway
pub on-ok : {T E : Type 0} (r : Result T E) (P : Type 0) → P → OnOk r P
on-ok (Ok x) P h = h
on-ok (Err e) P h = tt

-- six facts of one outcome
pub on-ok-six : {T E : Type 0} (r : Result T E) (A B C D F G : Type 0) → OnOk r A → OnOk r B → OnOk r C → OnOk r D → OnOk r F → OnOk r G
    → OnOk r (A × B × C × D × F × G)
on-ok-six (Ok x) A B C D F G a b c d f g = (a, b, c, d, f, g)
on-ok-six (Err e) A B C D F G a b c d f g = tt

-- a text that nothing else changes
pub grew-to : (Lines : List ℕ → Type 0) (old mid new : List ℕ) → new ≡ mid → Grew Lines old mid → Grew Lines old new
grew-to Lines old mid new e h = (h.0, h.1, e ∙ h.2)

pub grew-from : (Lines : List ℕ → Type 0) (old mid new : List ℕ) → mid ≡ old → Grew Lines mid new → Grew Lines old new
grew-from Lines old mid new e h = (h.0, h.1, h.2 ∙ ap (λ (t : List ℕ). t ++ h.0) e)

-- the node before is no deeper
pub before-shallow : (path : List ℕ) → length (parent_path path) ≤ length path
before-shallow [] = omega arith
before-shallow (k ∷ []) = omega arith
before-shallow (k ∷ j ∷ js) = let less = before-shallow (j ∷ js) in omega (arith, less)

-- of a dual with these others, where it is listed
module _ (a : Aim) (d : ℕ) (line : List Position) (p : Position) (m : Move) (list : List Alternative) (are : AreTimedAlternatives a d line p m list) where
  pub dual-listed : (start : Start) (v : Value) (k : ℕ) (listed : Bool) (old new : List ℕ)
      → new ≡ old ++ (if listed then dual_item start d p m v list else [])
      → Grew (EmptyUnless listed (IsFaultOf start a d line p m v (Some (Dual k)))) old new
  dual-listed start v k true old new e = (dual_item start d p m v list, (list, are, refl), e)
  dual-listed start v k false old new e = ([], refl, e)

  pub dual-carded : (start : Start) (v : Value) (k : ℕ) (old new : List ℕ) → new ≡ old ++ card start d p m k v list
      → Grew (IsCardOf start a d line p m v (Some (Dual k))) old new
  dual-carded start v k old new e = (card start d p m k v list, (list, are, refl), e)

-- nothing of a move with no such mark
abbrev pub IsPlain : Option MoveMark → Type 0
IsPlain None = Unit {0}
IsPlain (Some Only) = Unit {0}
IsPlain (Some (Dual k)) = ⊥
IsPlain (Some Mistake) = ⊥
IsPlain (Some Idle) = Unit {0}
IsPlain (Some Reply) = Unit {0}

module _ (s : Study Mark) (x : StudyMove) (h : IsStudyMove s x) where
  abbrev path : List ℕ
  path = x.steps.now

  pub label-made : label s.start x.before.depth x.before.position.now x.played ≡ where_words s x.steps.now
  label-made =
      as-made s x h (λ a d l p. label s.start x.before.depth x.before.position.now x.played ≡ label s.start d p x.played) refl
      ∙ ap (label_to s path) (sym h.step.played)

  -- a fault of the solution, by its mark
  fault-there : (mark : Option MoveMark) (text : List ℕ) → mark ≡ x.mark.on_move
      → IsFaultOf s.start x.before.aim.now x.before.depth x.line.now x.before.position.now x.played x.mark.value mark text
      → MatchOption (played_by (spot_at s.tree path)) (text ≡ []) (λ m. IsFaultOf s.start (aim_of s) (length (parent_path path))
      (line_to s (parent_path path)) (position_at s (parent_path path)) m (value_at s path) (mark_at s path) text)
  fault-there mark text e k =
      let there = as-made s x h (λ a d l p. IsFaultOf s.start a d l p x.played x.mark.value mark text) k in
      let valued = subst (λ w. IsFaultOf s.start (aim_of s) (length (parent_path path)) (line_to s (parent_path path))
      (position_at s (parent_path path)) x.played w mark text) h.value there in
      let marked = subst (λ (o : Option MoveMark). IsFaultOf s.start (aim_of s) (length (parent_path path)) (line_to s (parent_path path))
      (position_at s (parent_path path)) x.played (value_at s path) o text) (e ∙ h.mark) valued in
      subst (λ (o : Option Move). MatchOption o (text ≡ []) (λ m. IsFaultOf s.start (aim_of s) (length (parent_path path))
      (line_to s (parent_path path)) (position_at s (parent_path path)) m (value_at s path) (mark_at s path) text)) (sym h.step.played) marked

  pub fault-listed : (mark : Option MoveMark) (old new : List ℕ) → mark ≡ x.mark.on_move
      → Grew (EmptyUnless x.solution (IsFaultOf s.start x.before.aim.now x.before.depth x.line.now x.before.position.now x.played x.mark.value mark)) old new
      → Grew (FaultItems s x.steps.now) old new
  fault-listed mark old new e grew = (
    grew.0,
    subst (λ b. EmptyUnless b (λ (t : List ℕ). MatchOption (played_by (spot_at s.tree path)) (t ≡ []) (λ m. IsFaultOf s.start (aim_of s)
        (length (parent_path path)) (line_to s (parent_path path)) (position_at s (parent_path path)) m (value_at s path) (mark_at s path) t)) grew.0)
        h.solution (listed x.solution grew.1),
    grew.2,
  )
    where
      listed : (b : Bool)
          → EmptyUnless b (IsFaultOf s.start x.before.aim.now x.before.depth x.line.now x.before.position.now x.played x.mark.value mark) grew.0
          → EmptyUnless b (λ (t : List ℕ). MatchOption (played_by (spot_at s.tree path)) (t ≡ []) (λ m. IsFaultOf s.start (aim_of s)
          (length (parent_path path)) (line_to s (parent_path path)) (position_at s (parent_path path)) m (value_at s path) (mark_at s path) t)) grew.0
      listed true k = fault-there mark grew.0 e k
      listed false k = k

  pub mistake-listed : (start : Start) (old new : List ℕ) → Some Mistake ≡ x.mark.on_move → start ≡ s.start
      → new ≡ old ++ (if x.solution then mistake_item start x.before.aim.now x.before.depth x.before.position.now x.played x.mark.value
      else [])
      → Grew (FaultItems s x.steps.now) old new
  mistake-listed start old new e st grew = fault-listed (Some Mistake) old new e (listed x.solution grew)
    where
      listed : (b : Bool) → new ≡ old ++ (if b then mistake_item start x.before.aim.now x.before.depth x.before.position.now x.played
          x.mark.value else [])
          → Grew (EmptyUnless b (IsFaultOf s.start x.before.aim.now x.before.depth x.line.now x.before.position.now x.played x.mark.value (Some Mistake))) old
          new
      listed true k = (
        mistake_item s.start x.before.aim.now x.before.depth x.before.position.now x.played x.mark.value,
        refl,
        k ∙ ap (λ (t : Start). old ++ mistake_item t x.before.aim.now x.before.depth x.before.position.now x.played x.mark.value) st,
      )
      listed false k = ([], refl, k)

  plain-fault : (mark : Option MoveMark) → IsPlain mark
      → IsFaultOf s.start x.before.aim.now x.before.depth x.line.now x.before.position.now x.played x.mark.value mark []
  plain-fault None i = refl
  plain-fault (Some Only) i = refl
  plain-fault (Some (Dual k)) i = absurd i
  plain-fault (Some Mistake) i = absurd i
  plain-fault (Some Idle) i = refl
  plain-fault (Some Reply) i = refl

  no-item : (mark : Option MoveMark) (listed : Bool) → IsPlain mark
      → EmptyUnless listed (IsFaultOf s.start x.before.aim.now x.before.depth x.line.now x.before.position.now x.played x.mark.value mark) []
  no-item mark true i = plain-fault mark i
  no-item mark false i = refl

  pub fault-plain : (mark : Option MoveMark) (text : List ℕ) → mark ≡ x.mark.on_move → IsPlain mark → Grew (FaultItems s x.steps.now) text text
  fault-plain mark text e i = fault-listed mark text text e (nothing-grew _ text (no-item mark x.solution i))

  -- a card, by the mark of the move
  pub card-made : (mark : Option MoveMark) (old new : List ℕ) → mark ≡ x.mark.on_move
      → Grew (IsCardOf s.start x.before.aim.now x.before.depth x.line.now x.before.position.now x.played x.mark.value mark) old new
      → Grew (Cards s x.steps.now) old new
  card-made mark old new e grew =
      let there = as-made s x h (λ a d l p. IsCardOf s.start a d l p x.played x.mark.value mark grew.0) grew.1 in
      let valued = subst (λ w. IsCardOf s.start (aim_of s) (length (parent_path path)) (line_to s (parent_path path))
      (position_at s (parent_path path)) x.played w mark grew.0) h.value there in
      let marked = subst (λ (o : Option MoveMark). IsCardOf s.start (aim_of s) (length (parent_path path)) (line_to s (parent_path path))
      (position_at s (parent_path path)) x.played (value_at s path) o grew.0) (e ∙ h.mark) valued in (
        grew.0,
        subst (λ (o : Option Move). MatchOption o (grew.0 ≡ []) (λ m. IsCardOf s.start (aim_of s) (length (parent_path path))
            (line_to s (parent_path path)) (position_at s (parent_path path)) m (value_at s path) (mark_at s path) grew.0)) (sym h.step.played) marked,
        grew.2,
      )

module _ (s : Study Mark) (path : List ℕ) where
  -- nothing of a move where there is none
  no-fault : (text : List ℕ) → is_solution_move s path ≡ true → played_by (spot_at s.tree path) ≡ None → Grew (FaultItems s path) text text
  no-fault text so e =
      let nothing : List ℕ = [] in
      are-there (is_solution_move s path) _ text text so (
        nothing,
        subst (λ (o : Option Move). MatchOption o (nothing ≡ nothing) (λ m. IsFaultOf s.start (aim_of s) (length (parent_path path))
            (line_to s (parent_path path)) (position_at s (parent_path path)) m (value_at s path) (mark_at s path) nothing)) (sym e) refl,
        sym (append-nil text),
      )

  pub fault-unplayed : (text : List ℕ) → played_by (spot_at s.tree path) ≡ None → Grew (FaultItems s path) text text
  fault-unplayed text e = go (is_solution_move s path) refl
    where
      go : (b : Bool) → is_solution_move s path ≡ b → Grew (FaultItems s path) text text
      go true so = no-fault text so e
      go false so = not-there (is_solution_move s path) _ text so

  pub no-card : (text : List ℕ) → played_by (spot_at s.tree path) ≡ None → Grew (Cards s path) text text
  no-card text e =
      let nothing : List ℕ = [] in (
        nothing,
        subst (λ (o : Option Move). MatchOption o (nothing ≡ nothing) (λ m. IsCardOf s.start (aim_of s) (length (parent_path path))
            (line_to s (parent_path path)) (position_at s (parent_path path)) m (value_at s path) (mark_at s path) nothing)) (sym e) refl,
        sym (append-nil text),
      )

module _ (s : Study Mark) (x : StudyNode) (h : IsStudyNode s x) where
  abbrev here : List ℕ
  here = x.steps.now

  pub zugzwang-evaluated : (z : Option Zugzwang) (old new : List ℕ) → IsZugzwangOf x.node.position.now z
      → new ≡ old ++ zugzwang_rows (where_words s x.steps.now) z → Grew (ZugzwangRows s x.steps.now) old new
  zugzwang-evaluated z old new k grew = (zugzwang_rows (where_words s here) z, (z, as-placed s x h (λ a d p. IsZugzwangOf p z) k, refl), grew)

  pub try-evaluated : (list : List EvaluatedMove) (old new : List ℕ) → x.tried ≡ true
      → AreRefutations x.node.aim.now x.node.depth x.node.position.now list
      → new ≡ old ++ try_row (where_words s x.steps.now) x.node.aim.now x.node.depth x.node.position.now x.value list → Grew (TryRows s x.steps.now) old new
  try-evaluated list old new is k grew =
      are-there (is_try s here) _ old new (sym h.tried ∙ is) (
        try_row (where_words s here) x.node.aim.now x.node.depth x.node.position.now x.value list,
        (
          list,
          as-placed s x h (λ a d p. AreRefutations a d p list) k,
          as-placed s x h (λ a d p. try_row (where_words s here) x.node.aim.now x.node.depth x.node.position.now x.value list
              ≡ try_row (where_words s here) a d p x.value list) refl
              ∙ ap (λ v. try_row (where_words s here) (aim_of s) (length here) (position_at s here) v list) h.value,
        ),
        grew,
      )

  pub defences-evaluated : (known : List Reached) (there : List Move) (list : List Defence) (old new : List ℕ) → is_defended s x.steps.now ≡ true
      → there ≡ moves_of (below_at s.tree.below x.steps.now) → AreDefences x.node.aim.now x.node.depth x.node.position.now there list
      → new ≡ old ++ missing_row known s x.steps.now x.node.position.now list
      → Grew (DefenceRowsAmong known s x.steps.now) old new
  defences-evaluated known there list old new is all k grew =
      let row : Position → List ℕ = λ p. missing_row known s here p list in
      let three = as-placed s x h (λ a d p. AreDefences a d p there list) k in
      let four = subst (λ (ms : List Move). AreDefences (aim_of s) (length here) (position_at s here) ms list) all three in
      are-there (is_defended s here) _ old new is (
        row x.node.position.now,
        (list, four, ap row h.node.position),
        grew,
      )

  pub end-evaluated : (name : List ℕ) (old new : List ℕ) → is_open_end s x.steps.now ≡ true → name ≡ where_words s x.steps.now
      → Grew (IsEnd s.start x.node.depth name x.node.position.now x.value) old new → Grew (EndRows s x.steps.now) old new
  end-evaluated name old new is n grew =
      let one = as-placed s x h (λ a d p. IsEnd s.start d name p x.value grew.0) grew.1 in
      let two = subst (λ (u : List ℕ). IsEnd s.start (length here) u (position_at s here) x.value grew.0) n one in
      are-there (is_open_end s here) _ old new is
      (grew.0, subst (λ w. IsEnd s.start (length here) (where_words s here) (position_at s here) w grew.0) h.value two, grew.2)
