-- A study has exactly one review.
use Rattle.std.proofs.Common.{◌≡◌, ℕ, ◌+◌, ◌<◌, suc, zero, Bool, true, false, not, List, []}
use Rattle.std.proofs.Common.{◌∷◌, ◌++◌, Option, Some, None, length, refl, sym, ap, subst, ◌∙◌, arith}
use Rattle.std.specs.Prelude.{MatchOption, if◌then◌else◌}
use Rattle.std.specs.List.{flat_map}
use Rattle.study_board.specs.Position.{Position}
use Rattle.study_moves.specs.declared.moves.Move.{Move}
use Rattle.study_moves.specs.Rules.{after}
use Rattle.study_moves.specs.LegalList.{legal_list}
use Rattle.study_moves.specs.Laws.{EachHasAtMostOneValue}
use Rattle.study_values.specs.declared.value.Value.{Value}
use Rattle.study_values.specs.declared.value.Value.TheVariants.{Win, Loss, Draw}
use Rattle.study_marks.specs.declared.stipulation.Goal.{Goal}
use Rattle.study_marks.specs.declared.stipulation.Goal.TheVariants as goals
use Rattle.study_marks.specs.declared.mark_rules.Aim.{Aim}
use Rattle.study_marks.specs.declared.mark.Mark.{Mark}
use Rattle.study_marks.specs.declared.mark.MoveMark.{MoveMark}
use Rattle.study_marks.specs.declared.mark.MoveMark.TheVariants.{Only, Dual, Mistake, Idle, Reply}
use Rattle.study_marks.specs.Study.{Study, position_at}
use Rattle.study_marks.specs.FaultSums.{below_at}
use Rattle.study_marks.specs.Bench.{played_by}
use Rattle.study_marks.specs.Goals.{aim_of, holds}
use Rattle.study_tree.specs.Tree.{spot_at}
use Rattle.study_marks.proofs.OneAnnotation.{one-list}
use Rattle.study_facts.specs.declared.continuation.EvaluatedMove.{EvaluatedMove}
use Rattle.study_facts.specs.declared.time_loss.Alternative.{Alternative}
use Rattle.study_facts.specs.declared.missing_defences.Defence.{Defence}
use Rattle.study_facts.specs.Continuations.{wanted_moves, moves_except, AreChosen}
use Rattle.study_facts.specs.Repetition.{IsWasteOfTime}
use Rattle.study_facts.specs.Time.{IsTimeGiven, AreTimed, AreTimedAlternatives}
use Rattle.study_facts.specs.Defences.{only_move, AreAnswered, AreDefences}
use Rattle.study_facts.specs.Best.{first_best, IsBestMove, IsBestPlay}
use Rattle.study_facts.specs.Line.{line_to, moves_of}
use Rattle.study_facts.specs.Words.{also_line, missing_line, play_line, keep_line, dual_line, times_lost}
use Rattle.study_facts.specs.Nodes.{parent_path, EmptyUnless, is_dual, is_try, is_defended, is_open_end, is_solution_move, mark_at, value_at, refuted_text}
use Rattle.study_facts.specs.Nodes.{AreAlso, AlsoLines, RefutedLines, MissingLines, IsPlay, IsEnd, EndLines, NodeLines, IsFaultOf, FaultLines}
use Rattle.study_facts.specs.Order.{written_order, LinesOfEach, SumOfEach, AreTimeFaults}
use Rattle.study_facts.specs.Zugzwang.{zugzwang_line, ZugzwangLines}
use Rattle.study_facts.proofs.ZugzwangReported.{one-kind}
use Rattle.study_facts.specs.TimeFaults.{CountWhere, IsTimeFaultOf, IsTimeFault, all_lose_time}

pub one-chosen : EachHasAtMostOneValue → (wanted : Value → Bool) (p : Position) (ms : List Move) (l k : List EvaluatedMove)
    → AreChosen wanted p ms l → AreChosen wanted p ms k → l ≡ k
one-chosen law wanted p ms l k h j = h.2 ∙ ap (wanted_moves wanted ms) (one-list law p ms h.0 j.0 h.1 j.1) ∙ sym j.2

one-order : (m n : ℕ) → (m < n → ⊥) → (n < m → ⊥) → m ≡ n
one-order m n h j = omega (arith, h, j)

one-least : (line : List Position) (q : Position) (t u : Option ℕ) → IsWasteOfTime line q t → IsWasteOfTime line q u → t ≡ u
one-least line q None None h j = refl
one-least line q None (Some n) h j = absurd (h n j.0 j.1)
one-least line q (Some m) None h j = absurd (j m h.0 h.1)
one-least line q (Some m) (Some n) h j = ap Some (one-order m n (λ lt. j.2 m lt h.1) (λ lt. h.2 n lt j.1))

one-evaluated : (g : Goal) (line : List Position) (q : Position) (t u : Option ℕ) → IsTimeGiven g line q t → IsTimeGiven g line q u → t ≡ u
one-evaluated goals.Win line q t u h j = one-least line q t u h j
one-evaluated goals.Draw line q t u h j = h ∙ sym j
one-evaluated (goals.MateIn k) line q t u h j = h ∙ sym j

alternative-is : (x y : Alternative) → x.played ≡ y.played → x.value ≡ y.value → x.time ≡ y.time → x ≡ y
alternative-is x y em ev et =
    ap (λ m. record { played = m; value = x.value; time = x.time }) em ∙ ap (λ v. record { played = y.played; value = v; time = x.time }) ev
    ∙ ap (λ t. record { played = y.played; value = y.value; time = t }) et

one-timed : (g : Goal) (line : List Position) (p : Position) (xs : List EvaluatedMove) (ys zs : List Alternative)
    → AreTimed g line p xs ys → AreTimed g line p xs zs → ys ≡ zs
one-timed g line p [] [] [] h j = refl
one-timed g line p [] [] (z ∷ zs) h j = absurd j
one-timed g line p [] (y ∷ ys) zs h j = absurd h
one-timed g line p (x ∷ xs) [] zs h j = absurd h
one-timed g line p (x ∷ xs) (y ∷ ys) [] h j = absurd j
one-timed g line p (x ∷ xs) (y ∷ ys) (z ∷ zs) h j =
    ap (λ a. a ∷ ys) (alternative-is y z (h.0 ∙ sym j.0) (h.1 ∙ sym j.1) (one-evaluated g line (after p x.played) y.time z.time h.2 j.2))
    ∙ ap (λ l. z ∷ l) (one-timed g line p xs ys zs h.3 j.3)

pub one-alternatives : EachHasAtMostOneValue → (a : Aim) (d : ℕ) (line : List Position) (p : Position) (m : Move) (ys zs : List Alternative)
    → AreTimedAlternatives a d line p m ys → AreTimedAlternatives a d line p m zs → ys ≡ zs
one-alternatives law a d line p m ys zs h j =
    one-timed a.goal line p j.0 ys zs
    (subst (λ (l : List EvaluatedMove). AreTimed a.goal line p l ys) (one-chosen law (holds a (d + 1)) p (moves_except (m ∷ []) p) h.0 j.0 h.1 j.1) h.2) j.2

defence-is : (x y : Defence) → x.played ≡ y.played → x.value ≡ y.value → x.answers ≡ y.answers → x.only ≡ y.only → x ≡ y
defence-is x y em ev en eo =
    ap (λ m. record { played = m; value = x.value; answers = x.answers; only = x.only }) em
    ∙ ap (λ v. record { played = y.played; value = v; answers = x.answers; only = x.only }) ev
    ∙ ap (λ n. record { played = y.played; value = y.value; answers = n; only = x.only }) en
    ∙ ap (λ o. record { played = y.played; value = y.value; answers = y.answers; only = o }) eo

one-answered : EachHasAtMostOneValue → (a : Aim) (d : ℕ) (p : Position) (xs : List EvaluatedMove) (ys zs : List Defence)
    → AreAnswered a d p xs ys → AreAnswered a d p xs zs → ys ≡ zs
one-answered law a d p [] [] [] h j = refl
one-answered law a d p [] [] (z ∷ zs) h j = absurd j
one-answered law a d p [] (y ∷ ys) zs h j = absurd h
one-answered law a d p (x ∷ xs) [] zs h j = absurd h
one-answered law a d p (x ∷ xs) (y ∷ ys) [] h j = absurd j
one-answered law a d p (x ∷ xs) (y ∷ ys) (z ∷ zs) h j =
    let q = after p x.played in
    let same : h.2.0 ≡ j.2.0 = one-chosen law (holds a (d + 1 + 1)) q (legal_list q) h.2.0 j.2.0 h.2.1 j.2.1 in
    ap (λ a. a ∷ ys) (defence-is y z (h.0 ∙ sym j.0) (h.1 ∙ sym j.1) (h.2.2 ∙ ap (λ l. length l) same ∙ sym j.2.2) (h.2.3 ∙ ap only_move same ∙ sym j.2.3))
    ∙ ap (λ l. z ∷ l) (one-answered law a d p xs ys zs h.3 j.3)

pub one-defences : EachHasAtMostOneValue → (a : Aim) (d : ℕ) (p : Position) (there : List Move) (ys zs : List Defence)
    → AreDefences a d p there ys → AreDefences a d p there zs → ys ≡ zs
one-defences law a d p there ys zs h j =
    one-answered law a d p j.0 ys zs
    (subst (λ (l : List EvaluatedMove). AreAnswered a d p l ys) (one-chosen law (λ v. true) p (moves_except there p) h.0 j.0 h.1 j.1) h.2) j.2

one-best : EachHasAtMostOneValue → (p : Position) (x y : Option EvaluatedMove) → IsBestMove p x → IsBestMove p y → x ≡ y
one-best law p x y h j = h.2 ∙ ap first_best (one-chosen law (λ v. true) p (legal_list p) h.0 j.0 h.1 j.1) ∙ sym j.2

pub one-play : EachHasAtMostOneValue → (n : ℕ) (p : Position) (xs ys : List EvaluatedMove) → IsBestPlay n p xs → IsBestPlay n p ys → xs ≡ ys
one-play law zero p [] [] h j = refl
one-play law zero p [] (y ∷ ys) h j = absurd j
one-play law zero p (x ∷ xs) ys h j = absurd h
one-play law (suc n) p [] [] h j = refl
one-play law (suc n) p [] (y ∷ ys) h j = let no : None ≡ Some y = one-best law p None (Some y) h j.0 in absurd cc
one-play law (suc n) p (x ∷ xs) [] h j = let no : Some x ≡ None = one-best law p (Some x) None h.0 j in absurd cc
one-play law (suc n) p (x ∷ xs) (y ∷ ys) h j =
    let both : Some x ≡ Some y = one-best law p (Some x) (Some y) h.0 j.0 in
    let same : x ≡ y = cc in
    ap (λ a. a ∷ xs) same
    ∙ ap (λ l. y ∷ l) (one-play law n (after p y.played) xs ys (subst (λ (a : EvaluatedMove). IsBestPlay n (after p a.played) xs) same h.1) j.1)

-- ---- lines

abbrev pub One : (List ℕ → Type 0) → Type 0
One Lines = (t u : List ℕ) → Lines t → Lines u → t ≡ u

pub one-where : (b : Bool) (Lines : List ℕ → Type 0) → One Lines → One (EmptyUnless b Lines)
one-where true Lines f t u h j = f t u h j
one-where false Lines f t u h j = h ∙ sym j

pub one-match : (o : Option Move) (Lines : Move → List ℕ → Type 0) → ((m : Move) → One (Lines m)) → One (λ t. MatchOption o (t ≡ []) (λ m. Lines m t))
one-match None Lines f t u h j = h ∙ sym j
one-match (Some m) Lines f t u h j = f m t u h j

module _ (law : EachHasAtMostOneValue) (s : Study Mark) (path : List ℕ) where
  one-also : (m : Move) → One (AreAlso s path m)
  one-also m t u h j =
      h.2 ∙ ap (flat_map (also_line path (position_at s (parent_path path))))
      (one-alternatives law (aim_of s) (length (parent_path path)) (line_to s (parent_path path)) (position_at s (parent_path path)) m h.0 j.0 h.1 j.1)
      ∙ sym j.2

  also-once : One (AlsoLines s path)
  also-once = one-where (is_dual (mark_at s path)) _ (one-match (played_by (spot_at s.tree path)) (AreAlso s path) one-also)

  refuted-once : One (RefutedLines s path)
  refuted-once = one-where (is_try s path) _ (λ t u h j. h.2 ∙ ap (refuted_text path (position_at s path))
      (one-chosen law (λ v. not (holds (aim_of s) (length path + 1) v)) (position_at s path) (legal_list (position_at s path)) h.0 j.0 h.1 j.1) ∙ sym j.2)

  missing-once : One (MissingLines s path)
  missing-once = one-where (is_defended s path) _ (λ t u h j. h.2 ∙ ap (flat_map (missing_line path (position_at s path)))
      (one-defences law (aim_of s) (length path) (position_at s path) (moves_of (below_at s.tree.below path)) h.0 j.0 h.1 j.1) ∙ sym j.2)

  play-once : (p : Position) (v : Value) → One (IsPlay path p v)
  play-once p v t u h j = h.2 ∙ ap (play_line path p v) (one-play law 20 p h.0 j.0 h.1 j.1) ∙ sym j.2

  end-once : (p : Position) (v : Value) → One (IsEnd path p v)
  end-once p (Win n) t u h j = play-once p (Win n) t u h j
  end-once p (Loss n) t u h j = play-once p (Loss n) t u h j
  end-once p Draw t u h j = h.2 ∙ ap (keep_line path p) (one-chosen law _ p (legal_list p) h.0 j.0 h.1 j.1) ∙ sym j.2

  ends-once : One (EndLines s path)
  ends-once = one-where (is_open_end s path) _ (end-once (position_at s path) (value_at s path))

  pub zugzwang-once : One (ZugzwangLines s path)
  zugzwang-once t u h j = h.2 ∙ ap (zugzwang_line path) (one-kind law (position_at s path) h.0 j.0 h.1 j.1) ∙ sym j.2

  pub node-once : One (NodeLines s path)
  node-once t u h j =
      h.10 ∙ ap (λ (x : List ℕ). x ++ (h.1 ++ (h.2 ++ (h.3 ++ h.4)))) (also-once h.0 j.0 h.5 j.5)
      ∙ ap (λ (x : List ℕ). j.0 ++ (x ++ (h.2 ++ (h.3 ++ h.4)))) (refuted-once h.1 j.1 h.6 j.6)
      ∙ ap (λ (x : List ℕ). j.0 ++ (j.1 ++ (x ++ (h.3 ++ h.4)))) (missing-once h.2 j.2 h.7 j.7)
      ∙ ap (λ (x : List ℕ). j.0 ++ (j.1 ++ (j.2 ++ (x ++ h.4)))) (ends-once h.3 j.3 h.8 j.8)
      ∙ ap (λ (x : List ℕ). j.0 ++ (j.1 ++ (j.2 ++ (j.3 ++ x)))) (zugzwang-once h.4 j.4 h.9 j.9) ∙ sym j.10

  fault-once : (m : Move) (mark : Option MoveMark) → One (IsFaultOf s path m mark)
  fault-once m None t u h j = h ∙ sym j
  fault-once m (Some (Dual k)) t u h j =
      h.2 ∙ ap (λ l. dual_line path (position_at s (parent_path path)) m (value_at s path) k (times_lost l))
      (one-alternatives law (aim_of s) (length (parent_path path)) (line_to s (parent_path path)) (position_at s (parent_path path)) m h.0 j.0 h.1 j.1)
      ∙ sym j.2
  fault-once m (Some Mistake) t u h j = h ∙ sym j
  fault-once m (Some Only) t u h j = h ∙ sym j
  fault-once m (Some Idle) t u h j = h ∙ sym j
  fault-once m (Some Reply) t u h j = h ∙ sym j

  pub faults-once : One (FaultLines s path)
  faults-once =
      one-where (is_solution_move s path) _
      (one-match (played_by (spot_at s.tree path)) (λ m t. IsFaultOf s path m (mark_at s path) t) (λ m. fault-once m (mark_at s path)))

pub one-each : (Lines : List ℕ → List ℕ → Type 0) → ((path : List ℕ) → One (Lines path)) → (paths : List (List ℕ)) → One (LinesOfEach Lines paths)
one-each Lines f [] t u h j = h ∙ sym j
one-each Lines f (x ∷ xs) t u h j =
    h.4 ∙ ap (λ (o : List ℕ). o ++ h.1) (f x h.0 j.0 h.2 j.2) ∙ ap (λ (r : List ℕ). j.0 ++ r) (one-each Lines f xs h.1 j.1 h.3 j.3) ∙ sym j.4

-- ---- the number of faults that lose time alone

abbrev pub OneNumber : (ℕ → Type 0) → Type 0
OneNumber Count = (m n : ℕ) → Count m → Count n → m ≡ n

count-where : (b : Bool) (Count : ℕ → Type 0) → OneNumber Count → OneNumber (CountWhere b Count)
count-where true Count f m n h j = f m n h j
count-where false Count f m n h j = h ∙ sym j

count-match : (o : Option Move) (Count : Move → ℕ → Type 0) → ((m : Move) → OneNumber (Count m)) → OneNumber (λ n. MatchOption o (n ≡ 0) (λ m. Count m n))
count-match None Count f m n h j = h ∙ sym j
count-match (Some x) Count f m n h j = f x m n h j

module _ (law : EachHasAtMostOneValue) (s : Study Mark) (path : List ℕ) where
  time-fault-once : (x : Move) (mark : Option MoveMark) → OneNumber (IsTimeFaultOf s path x mark)
  time-fault-once x None m n h j = h ∙ sym j
  time-fault-once x (Some (Dual k)) m n h j =
      h.2 ∙ ap (λ l. if all_lose_time l then 1 else 0)
      (one-alternatives law (aim_of s) (length (parent_path path)) (line_to s (parent_path path)) (position_at s (parent_path path)) x h.0 j.0 h.1 j.1)
      ∙ sym j.2
  time-fault-once x (Some Mistake) m n h j = h ∙ sym j
  time-fault-once x (Some Only) m n h j = h ∙ sym j
  time-fault-once x (Some Idle) m n h j = h ∙ sym j
  time-fault-once x (Some Reply) m n h j = h ∙ sym j

  time-once : OneNumber (IsTimeFault s path)
  time-once =
      count-where (is_solution_move s path) _
      (count-match (played_by (spot_at s.tree path)) (λ x n. IsTimeFaultOf s path x (mark_at s path) n) (λ x. time-fault-once x (mark_at s path)))

one-sum : (Count : List ℕ → ℕ → Type 0) → ((path : List ℕ) → OneNumber (Count path)) → (paths : List (List ℕ)) → OneNumber (SumOfEach Count paths)
one-sum Count f [] m n h j = h ∙ sym j
one-sum Count f (x ∷ xs) m n h j =
    h.4 ∙ ap (λ i. i + h.1) (f x h.0 j.0 h.2 j.2) ∙ ap (λ i. j.0 + i) (one-sum Count f xs h.1 j.1 h.3 j.3) ∙ sym j.4

pub one-time-count : EachHasAtMostOneValue → (s : Study Mark) → OneNumber (AreTimeFaults s)
one-time-count law s = one-sum (IsTimeFault s) (time-once law s) (written_order s)
