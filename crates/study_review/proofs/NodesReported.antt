-- The lines of one node, kind by kind.
use Rattle.std.proofs.Common.{◌≡◌, ◌==◌, ℕ, ◌+◌, ◌<◌, ◌^◌, Bool, true, false, not, ◌&&◌, List, [], ◌∷◌, ◌++◌, Option, Some, None, length, refl, sym}
use Rattle.std.proofs.Common.{ap, subst, ◌∙◌, append_assoc, arith}
use Rattle.std.specs.Prelude.{MatchOption, if◌then◌else◌}
use Rattle.std.specs.List.{flat_map}
use Rattle.std.proofs.lemmas.List.{append-nil}
use Rattle.study_board.specs.Position.{Position}
use Rattle.study_moves.specs.declared.moves.Move.{Move}
use Rattle.study_moves.specs.LegalList.{legal_list}
use Rattle.study_values.specs.declared.value.Value.{Value}
use Rattle.study_values.specs.declared.value.Value.TheVariants as values
use Rattle.study_tree.specs.Edits.{width}
use Rattle.study_tree.specs.Tree.{spot_at}
use Rattle.study_marks.specs.declared.mark_rules.Aim.{Aim}
use Rattle.study_marks.specs.declared.mark.Mark.{Mark}
use Rattle.study_marks.specs.declared.mark.MoveMark.{MoveMark}
use Rattle.study_marks.specs.declared.mark.MoveMark.TheVariants.{Only, Dual, Mistake, Idle, Reply}
use Rattle.study_marks.specs.Bench.{played_by}
use Rattle.study_marks.specs.FaultSums.{below_at}
use Rattle.study_marks.specs.Study.{Study, position_at}
use Rattle.study_marks.specs.Goals.{aim_of}
use Rattle.study_facts.specs.declared.continuation.EvaluatedMove.{EvaluatedMove}
use Rattle.study_facts.specs.declared.time_loss.Alternative.{Alternative}
use Rattle.study_facts.specs.Continuations.{AreRefutations, AreChosen}
use Rattle.study_facts.specs.Time.{AreTimedAlternatives}
use Rattle.study_facts.specs.Defences.{AreDefences}
use Rattle.study_facts.specs.Line.{line_to, moves_of}
use Rattle.study_facts.specs.Words.{also_line, missing_line, keep_line, dual_line, mistake_line, times_lost}
use Rattle.study_facts.specs.Nodes.{parent_path, is_dual, is_try, is_defended, is_open_end, is_solution_move, mark_at, value_at}
use Rattle.study_facts.specs.Nodes.{refuted_text, AreAlso, AlsoLines, RefutedLines, MissingLines, IsEnd, EndLines, NodeLines, IsFaultOf, FaultLines}
use Rattle.study_facts.specs.Made.{Grew, Rose}
use Rattle.study_facts.specs.TimeFaults.{CountWhere, IsTimeFaultOf, IsTimeFault, all_lose_time}
use Rattle.study_facts.specs.WalkState.{IsNodeAt, IsStep}
use Rattle.study_review.specs.NodeFacts.{AreAlsoLines, AreMissingLines, OwnLines, HereLines, besides, failing_moves, drawing_moves}
use Rattle.study_facts.specs.declared.zugzwang.Zugzwang.{Zugzwang}
use Rattle.study_facts.specs.Zugzwang.{IsZugzwangOf, zugzwang_line}
use Rattle.study_facts.proofs.NodesShown.{are-there, not-there, none-counted}
use Rattle.study_review.proofs.MovesReported.{timed-length, all-counted}
use Rattle.study_review.proofs.ReportedMoves.{failing_moves-evaluated, drawing_moves-evaluated, moves_outside-evaluated, besides-evaluated}

module _ (s : Study Mark) (path : List ℕ) where
  -- ---- the move to the node

  module _ (a : Aim) (d : ℕ) (line : List Position) (p : Position) (m : Move) (h : IsStep s path a d line p m) where
    alternatives-at : (list : List Alternative) → AreTimedAlternatives a d line p m list
        → AreTimedAlternatives (aim_of s) (length (parent_path path)) (line_to s (parent_path path)) (position_at s (parent_path path)) m list
    alternatives-at list k =
        let one = subst (λ (x : Aim). AreTimedAlternatives x d line p m list) h.before.aim k in
        let two = subst (λ n. AreTimedAlternatives (aim_of s) n line p m list) h.before.depth one in
        let three = subst (λ (l : List Position). AreTimedAlternatives (aim_of s) (length (parent_path path)) l p m list) h.line two in
        subst (λ (q : Position). AreTimedAlternatives (aim_of s) (length (parent_path path)) (line_to s (parent_path path)) q m list) h.before.position three

    -- the alternatives of a dual, among the evaluated moves
    pub timed-evaluated : (evaluated : List EvaluatedMove) (n : ℕ) (text : List ℕ) → AreChosen (λ v. true) p (legal_list p) evaluated
        → AreAlsoLines path a d line p m evaluated n text
        → (list : List Alternative) × AreTimedAlternatives a d line p m list × (n ≡ times_lost list) × (text ≡ flat_map (also_line path p) list)
    timed-evaluated evaluated n text all k = (k.0, (_, besides-evaluated a d p m evaluated all, k.1), k.2, k.3)

    pub also-evaluated : (evaluated : List EvaluatedMove) (n k : ℕ) (old new : List ℕ) → mark_at s path ≡ Some (Dual k)
        → AreChosen (λ v. true) p (legal_list p) evaluated → Grew (AreAlsoLines path a d line p m evaluated n) old new → Grew (AlsoLines s path) old new
    also-evaluated evaluated n k old new mark all grew =
        let x = timed-evaluated evaluated n grew.0 all grew.1 in
        are-there (is_dual (mark_at s path)) _ old new (ap is_dual mark) (
          grew.0,
          subst (λ (o : Option Move). MatchOption o (grew.0 ≡ []) (λ n. AreAlso s path n grew.0)) (sym h.played)
              (x.0, alternatives-at x.0 x.1, x.3 ∙ ap (λ (q : Position). flat_map (also_line path q) x.0) h.before.position),
          grew.2,
        )

    -- a fault of the solution, by its mark
    fault-of : (mark : Option MoveMark) (text : List ℕ) → mark ≡ mark_at s path → IsFaultOf s path m mark text
        → MatchOption (played_by (spot_at s.tree path)) (text ≡ []) (λ n. IsFaultOf s path n (mark_at s path) text)
    fault-of mark text e k =
        subst (λ (o : Option Move). MatchOption o (text ≡ []) (λ n. IsFaultOf s path n (mark_at s path) text)) (sym h.played)
        (subst (λ (o : Option MoveMark). IsFaultOf s path m o text) e k)

    pub dual-evaluated : (evaluated : List EvaluatedMove) (n k : ℕ) (v : Value) (listed : Bool) (also old new : List ℕ)
        → mark_at s path ≡ Some (Dual k) → v ≡ value_at s path → listed ≡ is_solution_move s path
        → AreChosen (λ w. true) p (legal_list p) evaluated → AreAlsoLines path a d line p m evaluated n also
        → new ≡ old ++ (if listed then dual_line path p m v k n else []) → Grew (FaultLines s path) old new
    dual-evaluated evaluated n k v true also old new mark value so all lines grew =
        let x = timed-evaluated evaluated n also all lines in
        let text = dual_line path p m v k n in
        let same : text ≡ dual_line path (position_at s (parent_path path)) m (value_at s path) k (times_lost x.0) =
        ap (λ (q : Position). dual_line path q m v k n) h.before.position
        ∙ ap (λ (w : Value). dual_line path (position_at s (parent_path path)) m w k n) value
        ∙ ap (dual_line path (position_at s (parent_path path)) m (value_at s path) k) x.2 in
        are-there (is_solution_move s path) _ old new (sym so)
        (text, fault-of (Some (Dual k)) text (sym mark) (x.0, alternatives-at x.0 x.1, same), grew)
    dual-evaluated evaluated n k v false also old new mark value so all lines grew =
        subst (λ (t : List ℕ). Grew (FaultLines s path) old t) (sym (grew ∙ append-nil old)) (not-there (is_solution_move s path) _ old (sym so))

    pub mistake-evaluated : (v : Value) (old new : List ℕ) → mark_at s path ≡ Some Mistake → v ≡ value_at s path → is_solution_move s path ≡ true
        → new ≡ old ++ mistake_line path p m v → Grew (FaultLines s path) old new
    mistake-evaluated v old new mark value so grew =
        let text = mistake_line path p m v in
        are-there (is_solution_move s path) _ old new so (
          text,
          fault-of (Some Mistake) text (sym mark)
              (ap (λ (q : Position). mistake_line path q m v) h.before.position ∙ ap (mistake_line path (position_at s (parent_path path)) m) value),
          grew,
        )

    -- a fault that loses time alone, by its mark
    time-of : (mark : Option MoveMark) (n : ℕ) → mark ≡ mark_at s path → IsTimeFaultOf s path m mark n
        → MatchOption (played_by (spot_at s.tree path)) (n ≡ 0) (λ i. IsTimeFaultOf s path i (mark_at s path) n)
    time-of mark n e k =
        subst (λ (o : Option Move). MatchOption o (n ≡ 0) (λ i. IsTimeFaultOf s path i (mark_at s path) n)) (sym h.played)
        (subst (λ (o : Option MoveMark). IsTimeFaultOf s path m o n) e k)

    time-where : (n : ℕ) → is_solution_move s path ≡ true
        → MatchOption (played_by (spot_at s.tree path)) (n ≡ 0) (λ i. IsTimeFaultOf s path i (mark_at s path) n) → IsTimeFault s path n
    time-where n e k =
        subst (λ b. CountWhere b (λ j. MatchOption (played_by (spot_at s.tree path)) (j ≡ 0) (λ i. IsTimeFaultOf s path i (mark_at s path) j)) n)
        (sym e) k

    no-time-where : is_solution_move s path ≡ false → IsTimeFault s path 0
    no-time-where e =
        subst (λ b. CountWhere b (λ j. MatchOption (played_by (spot_at s.tree path)) (j ≡ 0) (λ i. IsTimeFaultOf s path i (mark_at s path) j)) 0)
        (sym e) refl

    pub dual-timed : (evaluated : List EvaluatedMove) (n others k : ℕ) (listed alone : Bool) (also : List ℕ) (old new : ℕ)
        → mark_at s path ≡ Some (Dual k) → listed ≡ is_solution_move s path → others ≡ length (besides a d (m ∷ []) evaluated)
        → AreChosen (λ w. true) p (legal_list p) evaluated → AreAlsoLines path a d line p m evaluated n also
        → alone ≡ (listed && (n == others)) → (old + (if alone then 1 else 0) < 2 ^ 32 → new ≡ old + (if alone then 1 else 0))
        → Rose (IsTimeFault s path) old new
    dual-timed evaluated n others k true alone also old new mark so count all lines is rose =
        let list = lines.0 in
        let timed : AreTimedAlternatives a d line p m list = (_, besides-evaluated a d p m evaluated all, lines.1) in
        let number = if alone then 1 else 0 in
        let same : number ≡ (if all_lose_time list then 1 else 0) =
        ap (λ b. if b then 1 else 0) is ∙ ap (λ t. if t == others then 1 else 0) lines.2
        ∙ ap (λ o. if times_lost list == o then 1 else 0) (count ∙ timed-length a.goal line p (besides a d (m ∷ []) evaluated) list lines.1)
        ∙ ap (λ b. if b then 1 else 0) (all-counted list) in (
          number,
          time-where number (sym so) (time-of (Some (Dual k)) number (sym mark) (list, alternatives-at list timed, same)),
          rose,
        )
    dual-timed evaluated n others k false alone also old new mark so count all lines is rose =
        let none : (if alone then 1 else 0) ≡ 0 = ap (λ b. if b then 1 else 0) is in
        (0, no-time-where (sym so), λ few. (let z : new ≡ old + 0 = ap (λ i. i) (rose (omega (arith, few, none))) ∙ ap (λ i. old + i) none in z))

    -- a move without such a mark has no such line
    abbrev IsPlain : Option MoveMark → Type 0
    IsPlain None = Unit {0}
    IsPlain (Some Only) = Unit {0}
    IsPlain (Some (Dual k)) = ⊥
    IsPlain (Some Mistake) = ⊥
    IsPlain (Some Idle) = Unit {0}
    IsPlain (Some Reply) = Unit {0}

    plain-fault : (mark : Option MoveMark) → IsPlain mark → IsFaultOf s path m mark []
    plain-fault None i = refl
    plain-fault (Some Only) i = refl
    plain-fault (Some (Dual k)) i = absurd i
    plain-fault (Some Mistake) i = absurd i
    plain-fault (Some Idle) i = refl
    plain-fault (Some Reply) i = refl

    plain-dual : (mark : Option MoveMark) → IsPlain mark → is_dual mark ≡ false
    plain-dual None i = refl
    plain-dual (Some Only) i = refl
    plain-dual (Some (Dual k)) i = absurd i
    plain-dual (Some Mistake) i = absurd i
    plain-dual (Some Idle) i = refl
    plain-dual (Some Reply) i = refl

    pub no-fault : (mark : Option MoveMark) (text : List ℕ) → mark ≡ mark_at s path → IsPlain mark → Grew (FaultLines s path) text text
    no-fault mark text e i = go (is_solution_move s path) refl
      where
        nothing : List ℕ
        nothing = []

        go : (b : Bool) → is_solution_move s path ≡ b → Grew (FaultLines s path) text text
        go false so = not-there (is_solution_move s path) _ text so
        go true so =
            are-there (is_solution_move s path) _ text text so
            (nothing, fault-of mark nothing e (plain-fault mark i), sym (append-nil text))

    pub no-also : (mark : Option MoveMark) (text : List ℕ) → mark ≡ mark_at s path → is_dual mark ≡ false → Grew (AlsoLines s path) text text
    no-also mark text e i = not-there (is_dual (mark_at s path)) _ text (ap is_dual (sym e) ∙ i)

  -- ---- the node

  -- one kind of line after the other
  pub own-evaluated : (t0 t1 t2 t3 : List ℕ) → Grew (RefutedLines s path) t0 t1 → Grew (MissingLines s path) t1 t2 → Grew (EndLines s path) t2 t3
      → Grew (OwnLines s path) t0 t3
  own-evaluated t0 t1 t2 t3 b c d = (
    b.0 ++ (c.0 ++ d.0),
    (b.0, c.0, d.0, b.1, c.1, d.1, refl),
    d.2 ∙ ap (λ (t : List ℕ). t ++ d.0) (c.2 ∙ ap (λ (t : List ℕ). t ++ c.0) b.2) ∙ append_assoc (t0 ++ b.0) c.0 d.0 ∙ append_assoc t0 b.0 (c.0 ++ d.0),
  )

  module _ (a : Aim) (d : ℕ) (p : Position) (h : IsNodeAt s path a d p) where
    pub refuted-evaluated : (evaluated : List EvaluatedMove) (old new : List ℕ) → is_try s path ≡ true → AreChosen (λ v. true) p (legal_list p) evaluated
        → new ≡ old ++ refuted_text path p (failing_moves a d evaluated) → Grew (RefutedLines s path) old new
    refuted-evaluated evaluated old new is all grew =
        let list = failing_moves a d evaluated in
        let one = subst (λ (x : Aim). AreRefutations x d p list) h.aim (failing_moves-evaluated a d p evaluated all) in
        let two = subst (λ n. AreRefutations (aim_of s) n p list) h.depth one in
        let three = subst (λ (q : Position). AreRefutations (aim_of s) (length path) q list) h.position two in
        are-there (is_try s path) _ old new is
        (refuted_text path p list, (list, three, ap (λ (q : Position). refuted_text path q list) h.position), grew)

    pub missing-evaluated : (there : List Move) (evaluated : List EvaluatedMove) (old new : List ℕ) → is_defended s path ≡ true
        → there ≡ moves_of (below_at s.tree.below path) → AreChosen (λ v. true) p (legal_list p) evaluated
        → Grew (AreMissingLines path a d p there evaluated) old new → Grew (MissingLines s path) old new
    missing-evaluated there evaluated old new is all chosen grew =
        let list = grew.1.0 in
        let k : AreDefences a d p there list = (_, moves_outside-evaluated p there evaluated chosen, grew.1.1) in
        let one = subst (λ (x : Aim). AreDefences x d p there list) h.aim k in
        let two = subst (λ n. AreDefences (aim_of s) n p there list) h.depth one in
        let three = subst (λ (q : Position). AreDefences (aim_of s) (length path) q there list) h.position two in
        let four = subst (λ (ms : List Move). AreDefences (aim_of s) (length path) (position_at s path) ms list) all three in
        are-there (is_defended s path) _ old new is
        (grew.0, (list, four, grew.1.2 ∙ ap (λ (q : Position). flat_map (missing_line path q) list) h.position), grew.2)

    pub end-evaluated : (v : Value) (old new : List ℕ) → is_open_end s path ≡ true → v ≡ value_at s path → Grew (IsEnd path p v) old new
        → Grew (EndLines s path) old new
    end-evaluated v old new is e grew =
        let one = subst (λ (q : Position). IsEnd path q v grew.0) h.position grew.1 in
        are-there (is_open_end s path) _ old new is (grew.0, subst (λ w. IsEnd path (position_at s path) w grew.0) e one, grew.2)

  -- no lines if there is nothing to report
  pub own-none : (children : ℕ) (text : List ℕ) → children ≡ width (below_at s.tree.below path) → (children == 0) ≡ false → is_try s path ≡ false
      → is_defended s path ≡ false → Grew (OwnLines s path) text text
  own-none children text c some try def =
      let r = not-there (is_try s path) _ text try in
      let m = not-there (is_defended s path) _ text def in
      let leaf = sym (none-counted (below_at s.tree.below path) children (sym c)) ∙ some in
      let n = not-there (is_open_end s path) _ text (ap (λ b. b && not (length (legal_list (position_at s path)) == 0)) leaf) in
      own-evaluated text text text text r m n

  -- the line of a mutual zugzwang, after the other lines of its node
  pub here-evaluated : (p : Position) (t0 t1 t2 : List ℕ) → p ≡ position_at s path → Grew (OwnLines s path) t0 t1
      → ((z : Option Zugzwang) × IsZugzwangOf p z × (t2 ≡ t1 ++ zugzwang_line path z)) → Grew (HereLines s path) t0 t2
  here-evaluated p t0 t1 t2 e x y =
      let line = zugzwang_line path y.0 in (
        x.0 ++ line,
        (x.0, line, x.1, (y.0, subst (λ (q : Position). IsZugzwangOf q y.0) e y.1, refl), refl),
        y.2 ∙ ap (λ (t : List ℕ). t ++ line) x.2 ∙ append_assoc t0 x.0 line,
      )

  -- the lines of a node, after those of the move to it
  pub node-evaluated : (t0 t1 t2 : List ℕ) → Grew (AlsoLines s path) t0 t1 → Grew (HereLines s path) t1 t2 → Grew (NodeLines s path) t0 t2
  node-evaluated t0 t1 t2 x y =
      let k = y.1 in
      let own = k.2 in
      let parts : y.0 ≡ own.0 ++ (own.1 ++ (own.2 ++ k.1)) =
      k.4 ∙ ap (λ (t : List ℕ). t ++ k.1) own.6 ∙ append_assoc own.0 (own.1 ++ own.2) k.1
      ∙ ap (λ (t : List ℕ). own.0 ++ t) (append_assoc own.1 own.2 k.1) in (
        x.0 ++ y.0,
        (x.0, own.0, own.1, own.2, k.1, x.1, own.3, own.4, own.5, k.3, ap (λ (t : List ℕ). x.0 ++ t) parts),
        y.2 ∙ ap (λ (t : List ℕ). t ++ y.0) x.2 ∙ append_assoc t0 x.0 y.0,
      )

-- the moves that keep a draw
pub keep-evaluated : (path : List ℕ) (p : Position) (evaluated : List EvaluatedMove) (v : Value) (old new : List ℕ) → v ≡ values.Draw
    → AreChosen (λ w. true) p (legal_list p) evaluated → new ≡ old ++ keep_line path p (drawing_moves evaluated) → Grew (IsEnd path p v) old new
keep-evaluated path p evaluated v old new e all grew =
    let text = keep_line path p (drawing_moves evaluated) in
    (text, subst (λ w. IsEnd path p w text) (sym e) (drawing_moves evaluated, drawing_moves-evaluated p evaluated all, refl), grew)
