-- The quiet moves that can have led to a position, gathered man by man and square by square.
use Rattle.std.proofs.Common.{◌≡◌, ◌≢◌, ℕ, ◌+◌, ◌*◌, ◌<◌, ◌≤◌, ◌==◌, zero, suc, Bool, true}
use Rattle.std.proofs.Common.{false, not, cond, ◌&&◌, ◌⊎◌, inl, inr, ◌↔◌, List, [], ◌∷◌, ◌++◌}
use Rattle.std.proofs.Common.{length, take, get_or, refl, sym, ◌∙◌, ap, arith, subst}
use Rattle.std.specs.List.{Contains, AllPairs, count_by}
use Rattle.std.proofs.lemmas.Bool.{false≢true, and_parts, cases_Bool, cases_lt, eqb-true, eq-eqb}
use Rattle.std.proofs.lemmas.List.Elements.{Contains-push, Contains-append_left, Contains-push_cases}
use Rattle.std.proofs.lemmas.List.Quantifiers.{all_pairs_push}
use Rattle.std.proofs.lemmas.List.{length-append, get_or-take, length-take-le, get_or_default, take_more, take_all}
use Rattle.std.proofs.lemmas.List.Sums.{sum_by-take-le, count_by_more_yes, count_by_more_no}
use Rattle.study_board.specs.declared.men.Man.{Man}
use Rattle.study_board.specs.declared.men.Side.{Side}
use Rattle.study_board.specs.declared.men.Side.TheVariants.{White, Black}
use Rattle.study_board.specs.declared.men.Kind.TheVariants.{King}
use borrow.Author.Tests.{ltb-false}
use Rattle.study_board.proofs.Lists.{count_by-cons}
use Rattle.study_board.proofs.Valid.{IsFaultless-from_first}
use Rattle.study_moves.proofs.AfterMove.{other_not_own}
use Rattle.study_board.specs.Men.{same_side, other_side, is_man}
use Rattle.study_board.specs.Position.{Position, IsValid, IsAscending, has_one_king}
use Rattle.study_board.specs.EqualLaws.{sides_equal}
use Rattle.study_board.specs.Sets.{has}
use Rattle.study_board.proofs.SquareLists.{IsFirstOf}
use Rattle.study_moves.specs.declared.moves.Move.{Move}
use Rattle.study_moves.specs.Unmoves.{LeadsQuietly, IsEarlier, CanHaveLed, IsMoveFrom, IsLastMove, move_from, position_before, is_unmove_origin}
use Rattle.study_moves.proofs.MenOfList.{IsAmong, above_among}
use Rattle.study_moves.proofs.QuietChecks.{same_side-self}
use Rattle.study_moves.proofs.QuietBack.{CameFrom, LeadsQuietly-before, IsTakenBack-from, same_move}

abbrev pub AreDistinct : {X : Type 0} → List X → Type 0
AreDistinct {X} xs = AllPairs (λ (x y : X). x ≢ y) xs

distinct_more : {X : Type 0} (xs : List X) (x : X) → AreDistinct xs → ¬ (Contains xs x) → AreDistinct (xs ++ x ∷ [])
distinct_more xs x h n = all_pairs_push (λ y z. y ≢ z) xs x h (λ k d l e. n (k, l, get_or_default xs k x d l ∙ e))

-- the invariant of a loop over a set of origins of one man
pub record IsGathering (man : Man) (all rest next len old : ℕ) (first now : List Move) : Type 0 where
  pub kept : (m : Move) → (Contains now m ⊎ IsMoveFrom man (has rest) m) ↔ (Contains first m ⊎ IsMoveFrom man (has all) m)
  pub once : AreDistinct now
  pub apart : (m : Move) → Contains now m → ¬ (IsMoveFrom man (has rest) m)
  pub done : (x : ℕ) → x < next → x < 64 → has rest x ≡ false
  pub few : len ≤ old + next
  pub small : next ≤ 64

-- a set of origins of one man, and the moves from them
module _ (man : Man) (all : ℕ) where
  pub gathering_begins : (len : ℕ) (first : List Move) → AreDistinct first
      → ((m : Move) → Contains first m → m.target ≢ man.at) → IsGathering man all all 0 len len first first
  gathering_begins len first once apart = record {
    kept = λ m. (λ h. h, λ h. h);
    once = once;
    apart = λ m c h. apart m c (ap (λ (x : Move). x.target) h.3);
    done = λ x l lx. absurd (omega arith);
    few = omega arith;
    small = omega arith;
  }

  pub next_below : (rest next len old t : ℕ) (first now : List Move) → IsGathering man all rest next len old first now → t < 64 → has rest t ≡ true → next ≤ t
  next_below rest next len old t first now g lt e = elim (cases_lt t next) [ inl l ↦ absurd (false≢true (sym (g.done t l lt) ∙ e)) | inr l ↦ l ]

  gathering_goes_on : (rest next len old t rest' len' : ℕ) (first now : List Move)
      → IsGathering man all rest next len old first now → IsFirstOf rest t rest'
      → len' ≡ len + 1 → IsGathering man all rest' (t + 1) len' old first (now ++ move_from man t ∷ [])
  gathering_goes_on rest next len old t rest' len' first now g f longer =
      let lt = f.inside in
      let there = f.there in
      let low = next_below rest next len old t first now g lt there in
      record {
        kept = λ m. (λ h. (g.kept m).0 (back m h), λ h. on m ((g.kept m).1 h));
        once = distinct_more now (move_from man t) g.once (λ c. g.apart (move_from man t) c (t, lt, there, refl));
        apart = λ m c h. elim (Contains-push_cases now (move_from man t) m c) [
          | inl d ↦ g.apart m d (h.0, h.1, of_rest h.0 h.1 h.2, h.3)
          | inr e ↦ false≢true (sym (taken h.0 h.1 (ap (λ (x : Move). x.origin) (e ∙ h.3))) ∙ h.2)
        ];
        done = λ x l lx. elim (cases_lt x t) [
          | inl k ↦ f.left x lx ∙ rw (f.least x k) refl
          | inr k ↦ taken x lx (omega arith)
        ];
        few = omega (arith, g.few);
        small = omega arith;
      }
    where
      and_false : (b : Bool) → (b && false) ≡ false
      and_false true = refl
      and_false false = refl

      taken : (x : ℕ) → x < 64 → t ≡ x → has rest' x ≡ false
      taken x lx e = f.left x lx ∙ rw (eq-eqb t x e) (and_false (has rest x))

      of_rest : (x : ℕ) → x < 64 → has rest' x ≡ true → has rest x ≡ true
      of_rest x lx e = (and_parts (has rest x) (not (t == x)) (sym (f.left x lx) ∙ e)).0

      back : (m : Move) → Contains (now ++ move_from man t ∷ []) m ⊎ IsMoveFrom man (has rest') m → Contains now m ⊎ IsMoveFrom man (has rest) m
      back m (inl c) = elim (Contains-push_cases now (move_from man t) m c) [ inl d ↦ inl d | inr e ↦ inr (t, f.inside, f.there, sym e) ]
      back m (inr h) = inr (h.0, h.1, of_rest h.0 h.1 h.2, h.3)

      on : (m : Move) → Contains now m ⊎ IsMoveFrom man (has rest) m → Contains (now ++ move_from man t ∷ []) m ⊎ IsMoveFrom man (has rest') m
      on m (inl c) = inl (Contains-append_left now (move_from man t ∷ []) m c)
      on m (inr h) = elim (cases_Bool (t == h.0)) [
        | inl e ↦
            let same : move_from man t ≡ m = ap (λ (x : ℕ). move_from man x) (eqb-true t h.0 e) ∙ sym h.3 in
            let P : Move → Type 0 = λ r. Contains (now ++ move_from man t ∷ []) r in
            inl (subst P same (Contains-push now (move_from man t)))
        | inr e ↦ inr (h.0, h.1, f.left h.0 h.1 ∙ rw (h.2, e) refl, h.3)
      ]

  pub gathered_more : (rest next old t rest' : ℕ) (first now now' : List Move) (b : Move)
      → IsGathering man all rest next (length now) old first now → IsFirstOf rest t rest'
      → b ≡ move_from man t → now' ≡ now ++ b ∷ [] → IsGathering man all rest' (t + 1) (length now') old first now'
  gathered_more rest next old t rest' first now now' b g f is more =
      rw (more, is)
      (gathering_goes_on rest next (length now) old t rest' (length (now ++ move_from man t ∷ [])) first now g f
      (length-append now (move_from man t ∷ [])))

  pub gathering_ends : (q : Position) → ((a : ℕ) → a < 64 → has all a ≡ is_unmove_origin q.men q.to_move man a)
      → (rest next len old : ℕ) (first now : List Move) → IsGathering man all rest next len old first now
      → ((x : ℕ) → x < 64 → has rest x ≡ false) → (m : Move) → Contains now m ↔ (Contains first m ⊎ IsLastMove q man m)
  gathering_ends q these rest next len old first now g e m = (λ c. here ((g.kept m).0 (inl c)), λ h. left ((g.kept m).1 (there h)))
    where
      here : Contains first m ⊎ IsMoveFrom man (has all) m → Contains first m ⊎ IsLastMove q man m
      here (inl c) = inl c
      here (inr h) = inr (h.0, h.1, sym (these h.0 h.1) ∙ h.2, h.3)

      there : Contains first m ⊎ IsLastMove q man m → Contains first m ⊎ IsMoveFrom man (has all) m
      there (inl c) = inl c
      there (inr h) = inr (h.0, h.1, these h.0 h.1 ∙ h.2, h.3)

      left : Contains now m ⊎ IsMoveFrom man (has rest) m → Contains now m
      left (inl c) = c
      left (inr h) = absurd (false≢true (sym (e h.0 h.1) ∙ h.2))

  pub few_end : (rest next len old : ℕ) (first now : List Move) → IsGathering man all rest next len old first now → len ≤ old + 64
  few_end rest next len old first now g = omega (arith, g.few, g.small)

-- the quiet moves that can have led here, of the men so far
pub record AreOfMen (q : Position) (taken : List Man) (now : List Move) : Type 0 where
  pub exact : (m : Move) → Contains now m ↔ ((man : Man) × IsAmong man taken × (man.side ≡ other_side q.to_move) × IsLastMove q man m)
  pub once : AreDistinct now
  pub few : length now ≤ 64 * count_by (λ m. same_side m.side (other_side q.to_move)) taken

-- the first men of a list
among-push : (xs : List Man) (m n : Man) → IsAmong m (xs ++ n ∷ []) → IsAmong m xs ⊎ (n ≡ m)
among-push [] m n (inl s) = inr s
among-push [] m n (inr i) = absurd i
among-push (x ∷ xs) m n (inl s) = inl (inl s)
among-push (x ∷ xs) m n (inr i) = elim (among-push xs m n i) [ inl j ↦ inl (inr j) | inr s ↦ inr s ]

among-left : (xs ys : List Man) (m : Man) → IsAmong m xs → IsAmong m (xs ++ ys)
among-left [] ys m i = absurd i
among-left (x ∷ xs) ys m (inl s) = inl s
among-left (x ∷ xs) ys m (inr i) = inr (among-left xs ys m i)

among-last : (xs : List Man) (n : Man) → IsAmong n (xs ++ n ∷ [])
among-last [] n = inl refl
among-last (x ∷ xs) n = inr (among-last xs n)

among-take : (xs : List Man) (i : ℕ) (m : Man) → IsAmong m (take i xs) → IsAmong m xs
among-take xs zero m h = absurd h
among-take [] (suc i) m h = absurd h
among-take (x ∷ xs) (suc i) m (inl s) = inl s
among-take (x ∷ xs) (suc i) m (inr h) = inr (among-take xs i m h)

among-get : (xs : List Man) (i : ℕ) (d : Man) → i < length xs → IsAmong (get_or xs i d) xs
among-get [] i d l = absurd (omega arith)
among-get (x ∷ xs) zero d l = inl refl
among-get (x ∷ xs) (suc i) d l = inr (among-get xs i d (omega arith))

-- the men before a man of an ascending list stand below it
below_next : (xs : List Man) (i : ℕ) (d m : Man) → IsAscending xs → i < length xs → IsAmong m (take i xs) → m.at < (get_or xs i d).at
below_next xs zero d m h l k = absurd k
below_next [] (suc i) d m h l k = absurd k
below_next (x ∷ xs) (suc i) d m h l (inl s) = let a = ap (λ (y : Man). y.at) s in
    let b = above_among x.at xs (get_or xs i d) h.0 (among-get xs i d (omega arith)) in omega arith
below_next (x ∷ xs) (suc i) d m h l (inr k) = below_next xs i d m h.1 (omega arith) k

-- two tests of which no man passes both
disjoint : (p r : Man → Bool) → ((m : Man) → p m ≡ true → r m ≡ false) → (xs : List Man) → count_by p xs + count_by r xs ≤ length xs
disjoint p r h [] = omega arith
disjoint p r h (x ∷ xs) =
    let a = count_by-cons p x xs in
    let b = count_by-cons r x xs in
    let ih = disjoint p r h xs in
    elim (cases_Bool (p x)) [
      | inl e ↦
          let a' : count_by p (x ∷ xs) ≡ 1 + count_by p xs = a ∙ rw e refl in
          let b' : count_by r (x ∷ xs) ≡ 0 + count_by r xs = b ∙ rw (h x e) refl in
          omega arith
      | inr e ↦
          let a' : count_by p (x ∷ xs) ≡ 0 + count_by p xs = a ∙ rw e refl in
          let b' : count_by r (x ∷ xs) ≤ 1 + count_by r xs =
          elim (r x) as (λ (v : Bool). count_by r (x ∷ xs) ≡ cond v 1 0 + count_by r xs
          → count_by r (x ∷ xs) ≤ 1 + count_by r xs) [ true ↦ λ k. omega arith | false ↦ λ k. omega arith ]
          b in
          omega arith
    ]

-- a side that has just moved has at most three men
pub at_most_three : (q : Position) → IsValid q → count_by (λ m. same_side m.side (other_side q.to_move)) q.men ≤ 3
unfolding has_one_king
at_most_three q valid =
    let f = IsFaultless-from_first q.men q.to_move q.passed valid.faultless in
    let both = and_parts (has_one_king q.men White) (has_one_king q.men Black) f.kings in
    let each : (s : Side) → has_one_king q.men s ≡ true = λ s. elim s as (λ v. has_one_king q.men v ≡ true) [ White ↦ both.0 | Black ↦ both.1 ] in
    let one = eqb-true (count_by (is_man q.to_move King) q.men) 1 (each q.to_move) in
    let most = ltb-false 4 (length q.men) f.few in
    let sum = disjoint (λ m. same_side m.side (other_side q.to_move)) (is_man q.to_move King) (λ m e. apart q.to_move m e) q.men in
    omega arith
  where
    apart : (s : Side) (m : Man) → same_side m.side (other_side s) ≡ true → is_man s King m ≡ false
    apart s m e = let k = sides_equal m.side (other_side s) e in rw (k, other_not_own s) refl

module _ (q : Position) (valid : IsValid q) (men : List Man) (same : men ≡ q.men) where
  pub men_begin : (now : List Move) → now ≡ [] → AreOfMen q (take 0 men) now
  men_begin now e = record {
    exact = λ m. (λ c. absurd (none m (subst (λ (xs : List Move). Contains xs m) e c)), λ h. absurd h.1);
    once = λ i j d l k. absurd (let n = ap length e in omega arith);
    few = (let n = ap length e in omega arith);
  }
    where
      none : (m : Move) → Contains [] m → ⊥
      none m c = absurd (omega (arith, c.1))

  module _ (i : ℕ) (d man : Man) (now : List Move) (lt : i < length men) (is : man ≡ get_or men i d) (g : AreOfMen q (take i men) now) where
    taken_more : take (i + 1) men ≡ take i men ++ man ∷ []
    taken_more = take_more men i d lt ∙ rw (← is) refl

    -- no move so far is a move of the next man
    pub apart_so_far : (m : Move) → Contains now m → m.target ≢ man.at
    apart_so_far m c e =
        let h = (g.exact m).0 c in
        let other : Man = h.0 in
        let there : m.target ≡ other.at = ap (λ (x : Move). x.target) h.3.3 in
        let asc : IsAscending men = let P : List Man → Type 0 = λ xs. IsAscending xs in subst P (sym same) valid.ordered in
        let low = below_next men i d other asc lt h.1 in
        let a = ap (λ (y : Man). y.at) is in
        omega arith

    pub has_room : same_side man.side (other_side q.to_move) ≡ true → length now ≤ 128
    has_room his =
        let f : Man → Bool = λ m. same_side m.side (other_side q.to_move) in
        let yes : f (get_or men i d) ≡ true = rw (← is) his in
        let more = count_by_more_yes f men i d lt yes in
        let part : count_by f (take (i + 1) men) ≤ count_by f men = sum_by-take-le (λ m. cond (f m) 1 0) men (i + 1) in
        let whole : count_by f men ≤ 3 = rw same (at_most_three q valid) in
        omega (arith, g.few)

    abbrev pub IsOfMen : ℕ → Move → Type 0
    IsOfMen n m = (man : Man) × IsAmong man (take n men) × (man.side ≡ other_side q.to_move) × IsLastMove q man m

    before_too : (m : Move) → Contains now m → IsOfMen (i + 1) m
    before_too m c =
        let h = (g.exact m).0 c in
        let other : Man = h.0 in
        (other, rw taken_more (among-left (take i men) (man ∷ []) other h.1), h.2, h.3)

    -- a man of the side that has moved
    pub man_more : same_side man.side (other_side q.to_move) ≡ true → (now' : List Move)
        → ((m : Move) → Contains now' m ↔ (Contains now m ⊎ IsLastMove q man m)) → AreDistinct now'
        → length now' ≤ length now + 64
        → AreOfMen q (take (i + 1) men) now'
    man_more his now' exact once few = record {
      exact = λ m. (λ c. into m ((exact m).0 c), λ h. (exact m).1 (out m h));
      once = once;
      few =
          let f : Man → Bool = λ m. same_side m.side (other_side q.to_move) in
          let yes : f (get_or men i d) ≡ true = rw (← is) his in
          let more = count_by_more_yes f men i d lt yes in
          omega (arith, g.few);
    }
      where
        into : (m : Move) → Contains now m ⊎ IsLastMove q man m → IsOfMen (i + 1) m
        into m (inl c) = before_too m c
        into m (inr b) = (man, rw taken_more (among-last (take i men) man), sides_equal man.side (other_side q.to_move) his, b)

        out : (m : Move) → IsOfMen (i + 1) m → Contains now m ⊎ IsLastMove q man m
        out m h =
            let other : Man = h.0 in
            let P : List Man → Type 0 = λ xs. IsAmong other xs in
            elim (among-push (take i men) other man (subst P taken_more h.1)) [
              | inl k ↦ inl ((g.exact m).1 (other, k, h.2, h.3))
              | inr s ↦ let B : Man → Type 0 = λ x. IsLastMove q x m in inr (subst B (sym s) h.3)
            ]

    -- a man of the side that is to move
    pub man_passed : same_side man.side (other_side q.to_move) ≡ false → AreOfMen q (take (i + 1) men) now
    man_passed other_moves = record {
      exact = λ m. (λ c. before_too m c, λ h. out m h);
      once = g.once;
      few =
          let f : Man → Bool = λ m. same_side m.side (other_side q.to_move) in
          let no : f (get_or men i d) ≡ false = rw (← is) other_moves in
          let more = count_by_more_no f men i d lt no in
          omega (arith, g.few);
    }
      where
        out : (m : Move) → IsOfMen (i + 1) m → Contains now m
        out m h =
            let other : Man = h.0 in
            let P : List Man → Type 0 = λ xs. IsAmong other xs in
            elim (among-push (take i men) other man (subst P taken_more h.1)) [
              | inl k ↦ (g.exact m).1 (other, k, h.2, h.3)
              | inr s ↦
                  let e : man.side ≡ other_side q.to_move = ap (λ (x : Man). x.side) s ∙ h.2 in
                  absurd (false≢true (sym other_moves ∙ rw e (same_side-self (other_side q.to_move))))
            ]

  pub men_end : (i : ℕ) (now : List Move) → length men ≤ i → AreOfMen q (take i men) now → (m : Move) → Contains now m ↔ CanHaveLed q m
  men_end i now le g m = (λ c. led ((g.exact m).0 c), λ h. listed h)
    where
      whole : take i men ≡ q.men
      whole = take_all i men le ∙ same

      led : (man : Man) × IsAmong man (take i men) × (man.side ≡ other_side q.to_move) × IsLastMove q man m → CanHaveLed q m
      led h =
          let man : Man = h.0 in
          let o = h.3 in
          let P : List Man → Type 0 = λ xs. IsAmong man xs in
          let came : CameFrom q man o.0 = record { among = subst P whole h.1; his = h.2; on = o.1; came = o.2 } in
          let L : Move → Type 0 = λ n. LeadsQuietly (position_before q man o.0) n q in
          record { from = position_before q man o.0; leads = subst L (sym o.3) (LeadsQuietly-before q valid man o.0 came) }

      listed : CanHaveLed q m → Contains now m
      listed h =
          let t = IsTakenBack-from q m h.from valid h.leads in
          let P : List Man → Type 0 = λ xs. IsAmong t.man xs in
          (g.exact m).1 (t.man, subst P (sym whole) t.came.among, t.came.his, (t.origin, t.came.on, t.came.came, t.by))

-- the positions before the first moves of a list
pub record AreBefore (q : Position) (moves : List Move) (i : ℕ) (now : List Position) : Type 0 where
  pub exact : (p : Position) → Contains now p ↔ ((m : Move) × Contains (take i moves) m × LeadsQuietly p m q)
  pub once : AreDistinct now
  pub few : length now ≤ i

pub none_before : (q : Position) (moves : List Move) (now : List Position) → now ≡ [] → AreBefore q moves 0 now
none_before q moves now e = record {
  exact = λ p. (λ c. absurd (none p (subst (λ (xs : List Position). Contains xs p) e c)), λ h. absurd (nothing h.0 h.1));
  once = λ i j d l k. absurd (let n = ap length e in omega arith);
  few = (let n = ap length e in omega arith);
}
  where
    none : (p : Position) → Contains [] p → ⊥
    none p c = absurd (omega (arith, c.1))

    nothing : (m : Move) → Contains [] m → ⊥
    nothing m c = absurd (omega (arith, c.1))

module _ (q : Position) (valid : IsValid q) (moves : List Move) (i : ℕ) (d m : Move) (lt : i < length moves)
    (is : m ≡ get_or moves i d) (each : AreDistinct moves) where
  first_moves : take (i + 1) moves ≡ take i moves ++ m ∷ []
  first_moves = take_more moves i d lt ∙ rw (← is) refl

  -- the move is not one of those before it
  is_new : ¬ (Contains (take i moves) m)
  is_new c =
      let k = c.0 in
      let few : length (take i moves) ≡ i = length-take-le i moves (omega arith) in
      let low : k < i = omega (arith, c.1) in
      let at : get_or (take i moves) k m ≡ get_or moves k m = get_or-take i moves k m low in
      each k i d low lt (get_or_default moves k d m (omega arith) ∙ sym at ∙ c.2 ∙ is)

  pub one_before : (b : Position) (now now' : List Position) → AreBefore q moves i now → LeadsQuietly b m q
      → ((p : Position) → LeadsQuietly p m q → b ≡ p) → now' ≡ now ++ b ∷ [] → AreBefore q moves (i + 1) now'
  one_before b now now' g leads only more = rw more record {
    exact = λ p. (λ c. into p (Contains-push_cases now b p c), λ h. out p h);
    once = distinct_more now b g.once (λ c.
        let h = (g.exact b).0 c in
        let n : Move = h.0 in
        let same = same_move q n m b valid h.2 leads in
        is_new (subst (λ (x : Move). Contains (take i moves) x) same h.1));
    few = omega (arith, g.few, length-append now (b ∷ []));
  }
    where
      into : (p : Position) → Contains now p ⊎ (b ≡ p) → (n : Move) × Contains (take (i + 1) moves) n × LeadsQuietly p n q
      into p (inl c) =
          let h = (g.exact p).0 c in
          let n : Move = h.0 in
          (n, rw first_moves (Contains-append_left (take i moves) (m ∷ []) n h.1), h.2)
      into p (inr e) = (m, rw first_moves (Contains-push (take i moves) m), subst (λ (x : Position). LeadsQuietly x m q) e leads)

      out : (p : Position) → (n : Move) × Contains (take (i + 1) moves) n × LeadsQuietly p n q → Contains (now ++ b ∷ []) p
      out p h =
          let n : Move = h.0 in
          let C : List Move → Type 0 = λ xs. Contains xs n in
          elim (Contains-push_cases (take i moves) m n (subst C first_moves h.1)) [
            | inl c ↦ Contains-append_left now (b ∷ []) p ((g.exact p).1 (n, c, h.2))
            | inr s ↦
                let e : b ≡ p = only p (subst (λ (x : Move). LeadsQuietly p x q) (sym s) h.2) in
                subst (λ (x : Position). Contains (now ++ b ∷ []) x) e (Contains-push now b)
          ]

pub all_before : (q : Position) (moves : List Move) (i : ℕ) (now : List Position)
    → ((m : Move) → Contains moves m ↔ CanHaveLed q m) → length moves ≤ i → AreBefore q moves i now → (p : Position)
    → Contains now p ↔ IsEarlier q p
all_before q moves i now all le g p = (λ c. back ((g.exact p).0 c), λ h. on h)
  where
    whole : take i moves ≡ moves
    whole = take_all i moves le

    back : (m : Move) × Contains (take i moves) m × LeadsQuietly p m q → IsEarlier q p
    back h = record { by = h.0; leads = h.2 }

    on : IsEarlier q p → Contains now p
    on h = (g.exact p).1 (h.by, subst (λ (xs : List Move). Contains xs h.by) (sym whole) ((all h.by).1 (record { from = p; leads = h.leads })), h.leads)
