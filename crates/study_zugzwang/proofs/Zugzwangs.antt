-- Mutual zugzwangs by values, and with the other side to move.
use Rattle.std.proofs.Common.{arith, ◌≡◌, ℕ, ◌+◌, ◌-◌, ◌<◌, Bool, true, false, cond, List, Option, None, Result, Ok, Err, IfOk, ◌↔◌, refl, sym, ap, ◌∙◌, subst}
use Rattle.std.specs.Prelude.{nat_lt}
use Rattle.std.specs.List.Sorted.{IsPermutation}
use Rattle.std.proofs.lemmas.Bool.{false≢true, ltb-true, lt-ltb}
use Rattle.study_board.specs.declared.men.Man.{Man}
use Rattle.study_board.specs.declared.men.Side.{Side}
use Rattle.study_board.specs.declared.men.Side.TheVariants.{White, Black}
use Rattle.study_board.specs.Men.{other_side}
use Rattle.study_board.specs.Position.{Position, IsValid, in_check}
use Rattle.study_moves.specs.EnPassant.{has_legal_en_passant, without_idle_passed_square, without_passed}
use Rattle.study_moves.specs.Game.{HasNoMove, IsMate, IsStalemate}
use Rattle.study_moves.specs.Laws.{AllAgreeWithBare, EachHasAtMostOneValue, HasSameValue}
use Rattle.study_index.proofs.MenInOrder.{ascending_same}
use Rattle.study_values.specs.declared.value.Value.{Value}
use Rattle.study_values.specs.declared.value.Value.TheVariants.{Win, Loss, Draw}
use Rattle.study_values.specs.Game.{IsValueOf}
use Rattle.study_zugzwang.specs.Zugzwang.{ZugzwangsAreMutual, IsZugzwang, EitherCanMove, Scores, ScoresLessThan, ScoreLessThanAPoint, half_points, handed_on}

abbrev of : List Man → Side → Option ℕ → Position
of xs s x = record { men = xs; to_move = s; passed = x }

-- the position made with the other side to move has the men in the same order
pub handed_on_is : (p q : Position) → IsValid p → IsValid q → IsPermutation p.men q.men → q.to_move ≡ other_side p.to_move → q.passed ≡ None → q ≡ handed_on p
handed_on_is p q v w h e f =
    let same : p.men ≡ q.men = ascending_same p.men q.men h v.ordered w.ordered in
    made p.men q.men q.to_move q.passed same e f
  where
    made : (xs ys : List Man) (s : Side) (x : Option ℕ) → xs ≡ ys → s ≡ other_side p.to_move → x ≡ None → of ys s x ≡ of xs (other_side p.to_move) None
    made xs ys s x e f g = ap (λ zs. of zs s x) (sym e) ∙ ap (λ r. of xs r x) f ∙ ap (λ y. of xs (other_side p.to_move) y) g

pub one-value : EachHasAtMostOneValue → (p : Position) (v w : Value) → IsValueOf p v → IsValueOf p w → v ≡ w
one-value law p (Win n) (Win k) h j = ap Win ((law p).won_once n k h j)
one-value law p (Win n) (Loss k) h j = absurd ((law p).won_not_lost n k h j)
one-value law p (Win n) Draw h j = absurd ((law p).won_not_drawn n h j)
one-value law p (Loss n) (Win k) h j = absurd ((law p).won_not_lost k n j h)
one-value law p (Loss n) (Loss k) h j = ap Loss ((law p).lost_once n k h j)
one-value law p (Loss n) Draw h j = absurd ((law p).lost_not_drawn n h j)
one-value law p Draw (Win k) h j = absurd ((law p).won_not_drawn k j h)
one-value law p Draw (Loss k) h j = absurd ((law p).lost_not_drawn k j h)
one-value law p Draw Draw h j = refl

-- a position has exactly one score in half points
pub one-score : EachHasAtMostOneValue → (p : Position) (i j : ℕ) → Scores p i → Scores p j → i ≡ j
one-score law p i j x y = sym x.2 ∙ ap (λ v. half_points v) (one-value law p x.0 y.0 x.1 y.1) ∙ y.2

pub less-by : EachHasAtMostOneValue → (p : Position) (i n : ℕ) → Scores p i → (nat_lt i n ≡ true) ↔ ScoresLessThan p n
less-by law p i n x = (
  (λ e. (i, x, ltb-true i n e)),
  (λ s.
      let same : s.0 ≡ i = one-score law p s.0 i s.1 x in
      let low = s.2 in
      let less : i < n = omega (arith, same, low) in
      lt-ltb i n less),
)

-- a win alone is a point
pub won-enough : EachHasAtMostOneValue → (p q : Position) (k : ℕ) → Scores p k → k ≡ 2 → (false ≡ true) ↔ ScoreLessThanAPoint p q
won-enough law p q k x e = (
  (λ f. absurd (false≢true f)),
  (λ s.
      let same : s.0 ≡ k = one-score law p s.0 k s.2 x in
      let less = s.4 in
      absurd (omega (arith, same, e, less))),
)

-- the rest of a point
pub rest-by : {E : Type 0} → EachHasAtMostOneValue → (p q : Position) (k : ℕ) (r : Result Bool E) → Scores p k → k < 3
    → IfOk r (λ b. (b ≡ true) ↔ ScoresLessThan q (2 - k)) → IfOk r (λ b. (b ≡ true) ↔ ScoreLessThanAPoint p q)
rest-by law p q k (Ok b) x few h = (
  (λ e.
      let s = h.0 e in
      let low = s.2 in
      let less : k + s.0 < 2 = omega (arith, few, low) in
      (k, s.0, x, s.1, less)),
  (λ s.
      let same : s.0 ≡ k = one-score law p s.0 k s.2 x in
      let less = s.4 in
      let low : s.1 < 2 - k = omega (arith, same, less) in
      h.1 (s.1, s.3, low)),
)
rest-by law p q k (Err e) x few h = tt

pub no-zugzwang : (p : Position) → has_legal_en_passant p ≡ true → (false ≡ true) ↔ IsZugzwang p
no-zugzwang p e = ((λ f. absurd (false≢true f)), (λ z. absurd (false≢true (sym z.none_passed ∙ e))))

pub no-other : (p : Position) → ¬ (EitherCanMove p) → (false ≡ true) ↔ IsZugzwang p
no-other p n = ((λ f. absurd (false≢true f)), (λ z. absurd (n z.either)))

pub zugzwang-by : {E : Type 0} (p q : Position) (r : Result Bool E) → has_legal_en_passant p ≡ false → q ≡ handed_on p → EitherCanMove p
    → IfOk r (λ b. (b ≡ true) ↔ ScoreLessThanAPoint p q) → IfOk r (λ b. (b ≡ true) ↔ IsZugzwang p)
zugzwang-by p q (Ok b) none is either h = (
  (λ e. record {
    none_passed = none;
    either = either;
    less = subst (λ (x : Position). ScoreLessThanAPoint p x) is (h.0 e);
  }),
  (λ z. h.1 (subst (λ (x : Position). ScoreLessThanAPoint p x) (sym is) z.less)),
)
zugzwang-by p q (Err e) none is either h = tt

-- the other side's other side is the side itself
other-twice : (s : Side) → other_side (other_side s) ≡ s
other-twice White = refl
other-twice Black = refl

bare-quiet : (p : Position) → has_legal_en_passant p ≡ false → without_idle_passed_square p ≡ without_passed p
bare-quiet p e = go (has_legal_en_passant p) e
  where
    go : (b : Bool) → b ≡ false → cond b p (without_passed p) ≡ without_passed p
    go b e = rw e refl

value-along : (p q : Position) → HasSameValue p q → (v : Value) → IsValueOf p v → IsValueOf q v
value-along p q h (Win n) i = (h.won n).0 i
value-along p q h (Loss n) i = (h.lost n).0 i
value-along p q h Draw i = h.drawn.0 i

pub both-ways : AllAgreeWithBare → ZugzwangsAreMutual
both-ways law p valid z = record {
  none_passed = refl;
  either = record {
    other = subst (λ (q : Position). IsValid q) back (law p valid).valid;
    own_moves = z.either.other_moves;
    other_moves = subst (λ (q : Position). ¬ (HasNoMove q)) back (λ none. z.either.own_moves (λ m l. none m ((law p valid).legal m ∙ l)));
  };
  less = (
    z.less.1,
    z.less.0,
    z.less.3,
    (
      (z.less.2).0,
      subst (λ (q : Position). IsValueOf q (z.less.2).0) back (value-along p (without_idle_passed_square p) (law p valid).value (z.less.2).0
          (z.less.2).1),
      (z.less.2).2,
    ),
    (let less = z.less.4 in let turned : z.less.1 + z.less.0 < 2 = omega (arith, less) in turned),
  );
}
  where
    back : without_idle_passed_square p ≡ handed_on (handed_on p)
    back = bare-quiet p z.none_passed ∙ ap (λ s. of p.men s None) (sym (other-twice p.to_move))

-- ---- a side that has no legal move

pub mated-first : (p : Position) (b : Bool) → ((b ≡ true) ↔ IsMate p) → b ≡ true → (true ≡ true) ↔ HasNoMove p
mated-first p b h e = ((λ t. (h.0 e).1), (λ none. refl))

pub stalemated-else : (p : Position) (b r : Bool) → ((b ≡ true) ↔ IsMate p) → b ≡ false → ((r ≡ true) ↔ IsStalemate p) → (r ≡ true) ↔ HasNoMove p
stalemated-else p b r h e k = ((λ t. (k.0 t).1), (λ none. go (in_check p.men p.to_move) refl none))
  where
    go : (t : Bool) → in_check p.men p.to_move ≡ t → HasNoMove p → r ≡ true
    go true c none = absurd (false≢true (sym e ∙ h.1 (c, none)))
    go false c none = k.1 (c, none)

pub either-by : (p q : Position) → q ≡ handed_on p → IsValid q → (a b : Bool) → ((a ≡ true) ↔ HasNoMove p) → ((b ≡ true) ↔ HasNoMove q) → a ≡ false → b ≡ false
    → EitherCanMove p
either-by p q is valid a b h k e f = record {
  other = subst (λ (x : Position). IsValid x) is valid;
  own_moves = λ none. false≢true (sym e ∙ h.1 none);
  other_moves = subst (λ (x : Position). ¬ (HasNoMove x)) is (λ none. false≢true (sym f ∙ k.1 none));
}

pub other-blocked : (p q : Position) → q ≡ handed_on p → HasNoMove q → ¬ (EitherCanMove p)
other-blocked p q is none x = x.other_moves (subst (λ (r : Position). HasNoMove r) is none)
