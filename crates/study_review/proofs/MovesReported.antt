-- Lines of moves whose values were read, one move after the other.
use Rattle.std.proofs.Common.{◌≡◌, ℕ, ◌+◌, ◌==◌, Bool, true, false, not, ◌&&◌, List, [], ◌∷◌, ◌++◌}
use Rattle.std.proofs.Common.{Some, None, length, refl, sym, ap, subst, ◌∙◌, arith, append_assoc}
use Rattle.std.specs.Prelude.{if◌then◌else◌, is_some, cond}
use Rattle.std.specs.List.{filter, flat_map}
use Rattle.std.proofs.lemmas.List.{append-nil}
use Rattle.std.proofs.lemmas.List.Concat.{flat_map-append}
use Rattle.std.proofs.lemmas.List.Sums.{sum_by-append, count_by-le-length}
use Rattle.std.proofs.lemmas.List.Folds.{list_all-append}
use Rattle.std.proofs.lemmas.Bool.{eqb-true, eqb-false, eq-eqb, ne_eqb}
use Rattle.study_board.specs.Position.{Position}
use Rattle.study_moves.specs.declared.moves.Move.{Move}
use Rattle.study_moves.specs.Rules.{after}
use Rattle.study_values.specs.declared.value.Value.{Value}
use Rattle.study_values.specs.Game.{IsValueOf}
use Rattle.study_marks.specs.declared.mark_rules.Aim.{Aim}
use Rattle.study_marks.specs.declared.stipulation.Goal.{Goal}
use Rattle.study_marks.specs.Goals.{holds}
use Rattle.study_facts.specs.declared.continuation.EvaluatedMove.{EvaluatedMove}
use Rattle.study_facts.specs.declared.time_loss.Alternative.{Alternative}
use Rattle.study_facts.specs.declared.missing_defences.Defence.{Defence}
use Rattle.study_review.specs.declared.defence_lines.Answers.{Answers}
use Rattle.study_facts.specs.Continuations.{wanted_moves, contains_move}
use Rattle.study_facts.specs.Defences.{only_move, AreAnswered, IsAnswered}
use Rattle.study_facts.specs.Made.{Grew}
use Rattle.study_facts.specs.Time.{IsTimeGiven, AreTimed}
use Rattle.study_review.specs.NodeFacts.{AreAlsoLines, AreMissingLines, AreAnswers, besides, moves_outside}
use Rattle.study_facts.specs.Words.{also_line, missing_line, times_lost}
use Rattle.study_facts.specs.TimeFaults.{all_lose_time}
use Rattle.study_facts.proofs.NodesShown.{not-zero}

-- ---- alternatives

timed-append : (g : Goal) (line : List Position) (p : Position) (xs us : List EvaluatedMove) (ys vs : List Alternative)
    → AreTimed g line p xs ys → AreTimed g line p us vs → AreTimed g line p (xs ++ us) (ys ++ vs)
timed-append g line p [] us [] vs h k = k
timed-append g line p [] us (y ∷ ys) vs h k = absurd h
timed-append g line p (x ∷ xs) us [] vs h k = absurd h
timed-append g line p (x ∷ xs) us (y ∷ ys) vs h k = (h.0, h.1, h.2, timed-append g line p xs us ys vs h.3 k)

pub timed-length : (g : Goal) (line : List Position) (p : Position) (xs : List EvaluatedMove) (ys : List Alternative)
    → AreTimed g line p xs ys → length xs ≡ length ys
timed-length g line p [] [] h = refl
timed-length g line p [] (y ∷ ys) h = absurd h
timed-length g line p (x ∷ xs) [] h = absurd h
timed-length g line p (x ∷ xs) (y ∷ ys) h = let e = timed-length g line p xs ys h.3 in omega (arith, e)

times-append : (ys vs : List Alternative) → times_lost (ys ++ vs) ≡ times_lost ys + times_lost vs
times-append ys vs = sum_by-append (λ y. cond (is_some y.time) 1 0) ys vs

same-count : (a b : ℕ) → (1 + a == 1 + b) ≡ (a == b)
same-count a b = go (a == b) refl
  where
    go : (t : Bool) → (a == b) ≡ t → (1 + a == 1 + b) ≡ t
    go true e = eq-eqb (1 + a) (1 + b) (ap (λ i. 1 + i) (eqb-true a b e))
    go false e =
        let n : (a ≡ b → ⊥) = eqb-false a b e in
        ne_eqb (1 + a) (1 + b) (λ k. n (omega (arith, k)))

one-lost : (x : Alternative) → times_lost (x ∷ []) ≡ (if is_some x.time then 1 else 0)
one-lost x = go (is_some x.time) refl
  where
    go : (b : Bool) → is_some x.time ≡ b → times_lost (x ∷ []) ≡ (if is_some x.time then 1 else 0)
    go true e = rw e refl
    go false e = rw e refl

one-loses : (x : Alternative) → all_lose_time (x ∷ []) ≡ is_some x.time
one-loses x = go (is_some x.time) refl
  where
    go : (b : Bool) → is_some x.time ≡ b → all_lose_time (x ∷ []) ≡ is_some x.time
    go true e = rw e refl
    go false e = rw e refl

-- all lose time exactly if each does
pub all-counted : (list : List Alternative) → (times_lost list == length list) ≡ all_lose_time list
all-counted [] = refl
all-counted (x ∷ xs) = go (all-counted xs) (is_some x.time) refl
  where
    both : all_lose_time (x ∷ xs) ≡ (all_lose_time (x ∷ []) && all_lose_time xs)
    both = list_all-append (λ (y : Alternative). is_some y.time) (x ∷ []) xs

    go : (times_lost xs == length xs) ≡ all_lose_time xs → (b : Bool) → is_some x.time ≡ b
        → (times_lost (x ∷ xs) == length (x ∷ xs)) ≡ all_lose_time (x ∷ xs)
    go more true e =
        let one : times_lost (x ∷ []) ≡ 1 = one-lost x ∙ ap (λ b. if b then 1 else 0) e in
        let sum = times-append (x ∷ []) xs in
        let count : times_lost (x ∷ xs) ≡ 1 + times_lost xs = omega (arith, one, sum) in
        let len : length (x ∷ xs) ≡ 1 + length xs = omega arith in
        let all : all_lose_time (x ∷ xs) ≡ all_lose_time xs = both ∙ ap (λ b. b && all_lose_time xs) (one-loses x ∙ e) in
        ap (λ n. n == length (x ∷ xs)) count ∙ ap (λ n. 1 + times_lost xs == n) len ∙ same-count (times_lost xs) (length xs) ∙ more ∙ sym all
    go more false e =
        let one : times_lost (x ∷ []) ≡ 0 = one-lost x ∙ ap (λ b. if b then 1 else 0) e in
        let sum = times-append (x ∷ []) xs in
        let count : times_lost (x ∷ xs) ≡ times_lost xs = omega (arith, one, sum) in
        let all : all_lose_time (x ∷ xs) ≡ false = both ∙ ap (λ b. b && all_lose_time xs) (one-loses x ∙ e) in
        let few = count_by-le-length (λ (y : Alternative). is_some y.time) xs in
        let len : length (x ∷ xs) ≡ 1 + length xs = omega arith in
        ne_eqb (times_lost (x ∷ xs)) (length (x ∷ xs)) (λ k. absurd (omega (arith, k, count, few, len))) ∙ sym all

module _ {X : Type 0} (f : X → Bool) where
  filter-more : (x : X) (xs : List X) → filter f (x ∷ xs) ≡ filter f (x ∷ []) ++ filter f xs
  filter-more x xs = go (f x) refl
    where
      go : (b : Bool) → f x ≡ b → filter f (x ∷ xs) ≡ filter f (x ∷ []) ++ filter f xs
      go true e = rw e refl
      go false e = rw e refl

  filter-kept : (x : X) → f x ≡ true → filter f (x ∷ []) ≡ x ∷ []
  filter-kept x e = rw e refl

  filter-left : (x : X) → f x ≡ false → filter f (x ∷ []) ≡ []
  filter-left x e = rw e refl

module _ (path : List ℕ) (a : Aim) (d : ℕ) (line : List Position) (p : Position) (m : Move) where
  pub no-alternatives : (evaluated : List EvaluatedMove) (text : List ℕ) → length evaluated ≡ 0 → Grew (AreAlsoLines path a d line p m evaluated 0) text text
  no-alternatives [] text e = ([], ([], tt, refl, refl), sym (append-nil text))
  no-alternatives (x ∷ xs) text e = absurd (omega (arith, e))

  -- the only other move that holds
  pub one-besides : (x : EvaluatedMove) (y : Alternative) (n : ℕ) (old new : List ℕ) → contains_move x.played (m ∷ []) ≡ false
      → holds a (d + 1) x.value ≡ true → y.played ≡ x.played → y.value ≡ x.value → IsTimeGiven a.goal line (after p x.played) y.time
      → (if is_some y.time then 1 else 0) ≡ n → new ≡ old ++ also_line path p y → Grew (AreAlsoLines path a d line p m (x ∷ []) n) old new
  one-besides x y n old new e f h v t k grew =
      let kept = filter-kept (λ z. not (contains_move z.played (m ∷ [])) && holds a (d + 1) z.value) x
      (ap (λ b. not b && holds a (d + 1) x.value) e ∙ f) in (
        also_line path p y,
        (
          y ∷ [],
          subst (λ (l : List EvaluatedMove). AreTimed a.goal line p l (y ∷ [])) (sym kept) (h, v, t, tt),
          sym k ∙ count (is_some y.time) refl,
          sym (append-nil (also_line path p y)),
        ),
        grew,
      )
    where
      count : (b : Bool) → is_some y.time ≡ b → (if is_some y.time then 1 else 0) ≡ times_lost (y ∷ [])
      count true e = rw e refl
      count false e = rw e refl

  pub more-alternatives : (x : EvaluatedMove) (evaluated rest : List EvaluatedMove) (n k : ℕ) (t0 t1 t2 : List ℕ) → evaluated ≡ x ∷ rest
      → Grew (AreAlsoLines path a d line p m (x ∷ []) n) t0 t1 → Grew (AreAlsoLines path a d line p m rest k) t1 t2
      → Grew (AreAlsoLines path a d line p m evaluated (n + k)) t0 t2
  more-alternatives x evaluated rest n k t0 t1 t2 e h j =
      let ys = h.1.0 in
      let vs = j.1.0 in
      let list : besides a d (m ∷ []) evaluated ≡ besides a d (m ∷ []) (x ∷ []) ++ besides a d (m ∷ []) rest =
      ap (besides a d (m ∷ [])) e ∙ filter-more (λ y. not (contains_move y.played (m ∷ [])) && holds a (d + 1) y.value) x rest in (
        h.0 ++ j.0,
        (
          ys ++ vs,
          subst (λ (l : List EvaluatedMove). AreTimed a.goal line p l (ys ++ vs)) (sym list)
              (timed-append a.goal line p (besides a d (m ∷ []) (x ∷ [])) (besides a d (m ∷ []) rest) ys vs h.1.1 j.1.1),
          ap (λ i. i + k) h.1.2 ∙ ap (λ i. times_lost ys + i) j.1.2 ∙ sym (times-append ys vs),
          ap (λ (t : List ℕ). t ++ j.0) h.1.3 ∙ ap (λ (t : List ℕ). flat_map (also_line path p) ys ++ t) j.1.3
              ∙ sym (flat_map-append (also_line path p) ys vs),
        ),
        j.2 ∙ ap (λ (t : List ℕ). t ++ j.0) h.2 ∙ append_assoc t0 h.0 j.0,
      )

-- ---- answers

pub no-answers : (a : Aim) (d : ℕ) (q : Position) (ms : List Move) (y : Answers) → length ms ≡ 0 → y.count ≡ 0 → y.only ≡ None → AreAnswers a d q ms y
no-answers a d q [] y e n o = ([], ([], tt, refl), n, o)
no-answers a d q (m ∷ ms) y e n o = absurd (omega (arith, e))

only-more : (x : EvaluatedMove) (l : List EvaluatedMove) (n : ℕ) → n ≡ length l → (if n == 0 then Some x.played else None) ≡ only_move (x ∷ l)
only-more x [] n e = rw e refl
only-more x (y ∷ l) n e = ap (λ b. if b then Some x.played else None) (not-zero n (λ z. absurd (omega (arith, e, z))))

pub answer-more : (a : Aim) (d : ℕ) (q : Position) (m : Move) (ms rest : List Move) (v : Value) (later y : Answers) → ms ≡ m ∷ rest
    → IsValueOf (after q m) v → holds a (d + 1) v ≡ true → AreAnswers a d q rest later → y.count ≡ later.count + 1
    → y.only ≡ (if later.count == 0 then Some m else None) → AreAnswers a d q ms y
answer-more a d q m ms rest v later y e g h k n o =
    let x : EvaluatedMove = record { played = m; value = v } in
    let list = k.0 in
    let same : wanted_moves (holds a (d + 1)) (m ∷ rest) (v ∷ k.1.0) ≡ x ∷ wanted_moves (holds a (d + 1)) rest k.1.0 = rw h refl in
    subst (λ (l : List Move). AreAnswers a d q l y) (sym e) (
      x ∷ list,
      (v ∷ k.1.0, (g, k.1.1), ap (λ (l : List EvaluatedMove). x ∷ l) k.1.2 ∙ sym same),
      (let c = k.2 in let z : y.count ≡ length (x ∷ list) = omega (arith, n, c) in z),
      o ∙ only-more x list later.count k.2,
    )

pub answer-same : (a : Aim) (d : ℕ) (q : Position) (m : Move) (ms rest : List Move) (v : Value) (later : Answers) → ms ≡ m ∷ rest
    → IsValueOf (after q m) v → holds a (d + 1) v ≡ false → AreAnswers a d q rest later → AreAnswers a d q ms later
answer-same a d q m ms rest v later e g h k =
    let same : wanted_moves (holds a (d + 1)) (m ∷ rest) (v ∷ k.1.0) ≡ wanted_moves (holds a (d + 1)) rest k.1.0 = rw h refl in
    subst (λ (l : List Move). AreAnswers a d q l later) (sym e)
    (k.0, (v ∷ k.1.0, (g, k.1.1), k.1.2 ∙ sym same), k.2, k.3)

-- ---- defences

module _ (path : List ℕ) (a : Aim) (d : ℕ) (p : Position) (there : List Move) where
  -- one defence, with its line
  abbrev pub OneDefence : EvaluatedMove → List ℕ → List ℕ → Type 0
  OneDefence x old new =
      (y : Defence) × (y.played ≡ x.played) × (y.value ≡ x.value) × IsAnswered a (d + 1) (after p x.played) y × (new ≡ old ++ missing_line path p y)

  pub no-defences : (evaluated : List EvaluatedMove) (text : List ℕ) → length evaluated ≡ 0 → Grew (AreMissingLines path a d p there evaluated) text text
  no-defences [] text e = ([], ([], tt, refl), sym (append-nil text))
  no-defences (x ∷ xs) text e = absurd (omega (arith, e))

  pub defence-there : (x : EvaluatedMove) (evaluated rest : List EvaluatedMove) (old new : List ℕ) → evaluated ≡ x ∷ rest → contains_move x.played there ≡ true
      → Grew (AreMissingLines path a d p there rest) old new → Grew (AreMissingLines path a d p there evaluated) old new
  defence-there x evaluated rest old new e h k =
      let left = filter-left (λ y. not (contains_move y.played there)) x (ap not h) in
      let list : moves_outside there evaluated ≡ moves_outside there rest =
      ap (moves_outside there) e ∙ filter-more (λ y. not (contains_move y.played there)) x rest
      ∙ ap (λ (l : List EvaluatedMove). l ++ moves_outside there rest) left in
      (k.0, (k.1.0, subst (λ (l : List EvaluatedMove). AreAnswered a d p l k.1.0) (sym list) k.1.1, k.1.2), k.2)

  pub defence-more : (x : EvaluatedMove) (evaluated rest : List EvaluatedMove) (old mid new : List ℕ) → evaluated ≡ x ∷ rest
      → contains_move x.played there ≡ false
      → OneDefence x old mid → Grew (AreMissingLines path a d p there rest) mid new → Grew (AreMissingLines path a d p there evaluated) old new
  defence-more x evaluated rest old mid new e h o k =
      let y = o.0 in
      let kept = filter-kept (λ z. not (contains_move z.played there)) x (ap not h) in
      let list : moves_outside there evaluated ≡ x ∷ moves_outside there rest =
      ap (moves_outside there) e ∙ filter-more (λ z. not (contains_move z.played there)) x rest
      ∙ ap (λ (l : List EvaluatedMove). l ++ moves_outside there rest) kept in (
        missing_line path p y ++ k.0,
        (
          y ∷ k.1.0,
          subst (λ (l : List EvaluatedMove). AreAnswered a d p l (y ∷ k.1.0)) (sym list) (o.1, o.2, o.3, k.1.1),
          ap (λ (t : List ℕ). missing_line path p y ++ t) k.1.2,
        ),
        k.2 ∙ ap (λ (t : List ℕ). t ++ k.0) o.4 ∙ append_assoc old (missing_line path p y) k.0,
      )
