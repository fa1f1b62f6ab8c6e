-- An image of a position, and its bare form, have the themes of the position.
use Rattle.std.proofs.Common.{◌≡◌, ℕ, zero, suc, ◌⊎◌, Bool, true, false, not, ◌||◌, cond, List, [], ◌∷◌, None, inl, inr, refl, sym, ◌∙◌, ap, subst}
use Rattle.std.specs.List.{list_any}
use Rattle.study_board.specs.declared.men.Man.{Man}
use Rattle.study_board.specs.declared.men.Side.{Side}
use Rattle.study_board.specs.declared.symmetry.Symmetry.{Symmetry}
use Rattle.study_board.specs.Men.{other_side, is_pawn}
use Rattle.study_board.specs.Position.{Position, IsValid}
use Rattle.study_board.specs.Symmetry.{image, turned_men, turned_side, keeps_pawns}
use Rattle.study_board.specs.Images.{back}
use Rattle.study_board.proofs.Coordinates.{KeepsPawns}
use Rattle.study_board.proofs.ImagesValid.{Each, IsSeated, valid_image}
use Rattle.study_board.proofs.ImagesOfImages.{IsTurnable, IsTurnable-image, IsTurnable-back, image_back}
use Rattle.study_moves.specs.declared.moves.Move.{Move}
use Rattle.study_moves.specs.EnPassant.{has_legal_en_passant, without_idle_passed_square, without_passed}
use Rattle.study_moves.specs.Rules.{is_legal, after}
use Rattle.study_moves.specs.Symmetry.{image_move}
use Rattle.study_moves.specs.Game.{IsLegal, HasNoMove, IsWon, IsLost, IsDrawn}
use Rattle.study_moves.specs.Laws.{AllAgreeWithBare, HasSameValue}
use Rattle.study_moves.proofs.RulesOfImages.{after-turned, IsTurnable-after, image_legal}
use Rattle.study_moves.proofs.BareImages.{bare_image}
use Rattle.study_moves.proofs.ImageMates.{legal_back, move_back, MatesWithin-image, IsMatedWithin-image, MatesWithin-from_image, IsMatedWithin-from_image}
use Rattle.study_index.proofs.LivePassing.{live_along, live_bare}
use Rattle.study_values.specs.declared.value.Value.{Value}
use Rattle.study_values.specs.declared.value.Value.TheVariants as values
use Rattle.study_values.specs.Game.{IsValueOf}
use Rattle.study_search.specs.declared.only_moves.Outcome.{Outcome}
use Rattle.study_search.specs.declared.only_moves.Outcome.TheVariants.{Win, Draw}
use Rattle.study_search.specs.declared.themes.Theme.{Theme}
use Rattle.study_search.specs.declared.themes.Theme.TheVariants as theme
use Rattle.study_zugzwang.specs.Zugzwang.{IsZugzwang, Scores, handed_on}
use Rattle.study_search.specs.OnlyMoves.{Has, Holds, IsOnlyMove, IsKey, HasOnlyMoves}
use Rattle.study_search.specs.Themes.{Underpromotes, LeadsIntoZugzwang, spoiling_outcome, IsZugzwangOf, FailsIntoZugzwang, HasTheme}

module _ (s : Symmetry) (p : Position) (t : IsTurnable s p) where
  won-image : (k : ℕ) → IsWon p k → IsWon (image s p) k
  won-image k w = (MatesWithin-image k s p t w.0, λ i l x. w.1 i l (MatesWithin-from_image s p t i x))

  won-from : (k : ℕ) → IsWon (image s p) k → IsWon p k
  won-from k w = (MatesWithin-from_image s p t k w.0, λ i l x. w.1 i l (MatesWithin-image i s p t x))

  lost-image : (k : ℕ) → IsLost p k → IsLost (image s p) k
  lost-image k w = (IsMatedWithin-image k s p t w.0, λ i l x. w.1 i l (IsMatedWithin-from_image s p t i x))

  drawn-image : IsDrawn p → IsDrawn (image s p)
  drawn-image d k = ((λ x. (d k).0 (MatesWithin-from_image s p t k x)), (λ x. (d k).1 (IsMatedWithin-from_image s p t k x)))

pub value-image : (s : Symmetry) (p : Position) → IsTurnable s p → (v : Value) → IsValueOf p v → IsValueOf (image s p) v
value-image s p t (values.Win n) i = won-image s p t n i
value-image s p t (values.Loss n) i = lost-image s p t n i
value-image s p t values.Draw i = drawn-image s p t i

score-image : (s : Symmetry) (p : Position) → IsTurnable s p → (k : ℕ) → Scores p k → Scores (image s p) k
score-image s p t k x = (x.0, value-image s p t x.0 x.1, x.2)

Has-image : (o : Outcome) (s : Symmetry) (p : Position) → IsTurnable s p → Has o p → Has o (image s p)
Has-image Win s p t h = (h.0, won-image s p t h.0 h.1)
Has-image Draw s p t h = drawn-image s p t h

Holds-image : (o : Outcome) (s : Symmetry) (p : Position) → IsTurnable s p → Holds o p → Holds o (image s p)
Holds-image Win s p t h = (h.0, lost-image s p t h.0 h.1)
Holds-image Draw s p t h = λ k w. h k (won-from s p t k w)

Holds-from : (o : Outcome) (s : Symmetry) (p : Position) → IsTurnable s p → Holds o (image s p) → Holds o p
Holds-from o s p t h = subst (Holds o) (image_back s p t) (Holds-image o (back s) (image s p) (IsTurnable-image s (back s) p t (IsTurnable-back s p t)) h)

-- ---- mutual zugzwangs

other-turned : (c : Bool) (s : Side) → other_side (turned_side c s) ≡ turned_side c (other_side s)
other-turned false s = refl
other-turned true s = refl

pub handed-image : (s : Symmetry) (p : Position) → handed_on (image s p) ≡ image s (handed_on p)
handed-image s p = ap (λ (x : Side). (let q : Position = record { men = turned_men s p.men; to_move = x; passed = None } in q))
    (other-turned s.colours p.to_move)

-- men that a symmetry can turn admit it
admits-from_seats : (s : Symmetry) (xs : List Man) → Each (IsSeated s) xs → (not (list_any is_pawn xs) || keeps_pawns s) ≡ true
admits-from_seats s [] h = refl
admits-from_seats s (x ∷ xs) h = go (is_pawn x) (λ e. keeps (h.0.pawn e)) (admits-from_seats s xs h.1)
  where
    keeps : KeepsPawns s → keeps_pawns s ≡ true
    keeps k = rw (k.ranks, k.diagonal) refl

    either : (a k : Bool) → k ≡ true → (a || k) ≡ true
    either true k e = refl
    either false k e = e

    go : (a : Bool) → (a ≡ true → keeps_pawns s ≡ true) → (not (list_any is_pawn xs) || keeps_pawns s) ≡ true
        → (not (a || list_any is_pawn xs) || keeps_pawns s) ≡ true
    go true k e = k refl
    go false k e = e

moves-image : (s : Symmetry) (p : Position) → IsTurnable s p → ¬ (HasNoMove p) → ¬ (HasNoMove (image s p))
moves-image s p t moves none = moves (λ m l. none (image_move s m) (image_legal s p t m l))

zugzwang-image : (s : Symmetry) (p : Position) → IsTurnable s p → IsZugzwang p → IsZugzwang (image s p)
zugzwang-image s p t z =
    let ends = sym (handed-image s p) in
    let u : IsTurnable s (handed_on p) = record { seats = t.seats; ordered = t.ordered; passed = tt } in
    record {
      none_passed = live_along s p (image s p) (bare_image s p t) ∙ z.none_passed;
      either = record {
        other = subst (λ (q : Position). IsValid q) ends (valid_image s (handed_on p) z.either.other (admits-from_seats s p.men t.seats));
        own_moves = moves-image s p t z.either.own_moves;
        other_moves = subst (λ (q : Position). ¬ (HasNoMove q)) ends (moves-image s (handed_on p) u z.either.other_moves);
      };
      less = (
        z.less.0,
        z.less.1,
        score-image s p t z.less.0 z.less.2,
        subst (λ (q : Position). Scores q z.less.1) ends (score-image s (handed_on p) u z.less.1 z.less.3),
        z.less.4,
      );
    }

-- after a legal move
zugzwang-after : (s : Symmetry) (p : Position) → IsTurnable s p → (m : Move) → IsLegal p m → IsZugzwang (after p m)
    → IsZugzwang (after (image s p) (image_move s m))
zugzwang-after s p t m l z =
    subst (λ (q : Position). IsZugzwang q) (sym (after-turned s p t m l)) (zugzwang-image s (after p m) (IsTurnable-after s p t m l) z)

-- the hero's
of-image : (o : Outcome) (s : Symmetry) (p : Position) → IsTurnable s p → IsZugzwangOf o p → IsZugzwangOf o (image s p)
of-image o s p t z =
    let u : IsTurnable s (handed_on p) = record { seats = t.seats; ordered = t.ordered; passed = tt } in
    (zugzwang-image s p t z.0, subst (Holds o) (sym (handed-image s p)) (Holds-image o s (handed_on p) u z.1))

of-after : (o : Outcome) (s : Symmetry) (p : Position) → IsTurnable s p → (m : Move) → IsLegal p m → IsZugzwangOf o (after p m)
    → IsZugzwangOf o (after (image s p) (image_move s m))
of-after o s p t m l z =
    subst (λ (q : Position). IsZugzwangOf o q) (sym (after-turned s p t m l)) (of-image o s (after p m) (IsTurnable-after s p t m l) z)

-- ---- only moves

only-image : (o : Outcome) (s : Symmetry) (p : Position) → IsTurnable s p → (m : Move) → IsOnlyMove o p m → IsOnlyMove o (image s p) (image_move s m)
only-image o s p t m y = record {
  legal = image_legal s p t m y.legal;
  holds = subst (Holds o) (sym (after-turned s p t m y.legal)) (Holds-image o s (after p m) (IsTurnable-after s p t m y.legal) y.holds);
  alone = λ k l h.
      let q = image_move (back s) k in
      let legal = legal_back s p t k l in
      let ends : image s (after p q) ≡ after (image s p) k = sym (after-turned s p t q legal) ∙ ap (after (image s p)) (move_back s p t k l) in
      let holds = Holds-from o s (after p q) (IsTurnable-after s p t q legal) (subst (Holds o) (sym ends) h) in
      sym (move_back s p t k l) ∙ ap (image_move s) (y.alone q legal holds);
}

key-image : (o : Outcome) (s : Symmetry) (p : Position) → IsTurnable s p → (m : Move) → IsKey o p m → IsKey o (image s p) (image_move s m)
key-image o s p t m k = (Has-image o s p t k.0, only-image o s p t m k.1)

line-image : (o : Outcome) (n : ℕ) (s : Symmetry) (p : Position) → IsTurnable s p → HasOnlyMoves o n p → HasOnlyMoves o n (image s p)
line-image o zero s p t a = Has-image o s p t a
line-image o (suc n) s p t a =
    let m = a.1.0 in
    let only = a.1.1 in
    let q = after p m in
    let u = IsTurnable-after s p t m only.legal in
    let ends : image s q ≡ after (image s p) (image_move s m) = sym (after-turned s p t m only.legal) in (
      Has-image o s p t a.0,
      (
        image_move s m,
        only-image o s p t m only,
        subst (λ (x : Position). (n ≡ 0) ⊎ ((r : Move) × IsLegal x r × HasOnlyMoves o n (after x r))) ends (elim a.1.2 [
          | inl e ↦ inl e
          | inr y ↦ inr (
            image_move s y.0,
            image_legal s q u y.0 y.1,
            subst (HasOnlyMoves o n) (sym (after-turned s q u y.0 y.1)) (line-image o n s (after q y.0) (IsTurnable-after s q u y.0 y.1) y.2),
          )
        ]),
      ),
    )

-- ---- all themes

module _ (s : Symmetry) (p : Position) (t : IsTurnable s p) where
  underpromotes-image : (o : Outcome) → Underpromotes o p → Underpromotes o (image s p)
  underpromotes-image o u = (image_move s u.0, key-image o s p t u.0 u.1, u.2)

  into-image : (o : Outcome) → LeadsIntoZugzwang o p → LeadsIntoZugzwang o (image s p)
  into-image o u = (image_move s u.0, key-image o s p t u.0 u.1, zugzwang-after s p t u.0 u.1.1.legal u.2)

  fails-image : (o : Outcome) → FailsIntoZugzwang o p → FailsIntoZugzwang o (image s p)
  fails-image o u = (image_move s u.0, only-image (spoiling_outcome o) s p t u.0 u.1, of-after o s p t u.0 u.1.legal u.2)

pub theme-image : (x : Theme) (s : Symmetry) (p : Position) → IsTurnable s p → HasTheme x p → HasTheme x (image s p)
theme-image theme.Zugzwang s p t h = zugzwang-image s p t h
theme-image (theme.OnlyMoves o n) s p t h = line-image o n s p t h
theme-image theme.Underpromotion s p t (inl h) = inl (underpromotes-image s p t Win h)
theme-image theme.Underpromotion s p t (inr h) = inr (underpromotes-image s p t Draw h)
theme-image (theme.IntoZugzwang o) s p t h = into-image s p t o h
theme-image (theme.ZugzwangTry o) s p t h = (
  into-image s p t o h.0,
  (
    image_move s h.1.0,
    image_legal s p t h.1.0 h.1.1,
    subst (FailsIntoZugzwang o) (sym (after-turned s p t h.1.0 h.1.1))
        (fails-image s (after p h.1.0) (IsTurnable-after s p t h.1.0 h.1.1) o h.1.2),
  ),
)
theme-image (theme.MateIn n) s p t h = won-image s p t n h

-- ---- a passed square is irrelevant if no legal move captures on it

value-along : (p q : Position) → HasSameValue p q → (v : Value) → IsValueOf p v → IsValueOf q v
value-along p q h (values.Win n) i = (h.won n).0 i
value-along p q h (values.Loss n) i = (h.lost n).0 i
value-along p q h values.Draw i = h.drawn.0 i

handed-bare : (p : Position) → handed_on (without_idle_passed_square p) ≡ handed_on p
handed-bare p = by_live (has_legal_en_passant p)
  where
    by_live : (b : Bool) → handed_on (cond b p (without_passed p)) ≡ handed_on p
    by_live true = refl
    by_live false = refl

module _ (law : AllAgreeWithBare) (p : Position) (valid : IsValid p) where
  Has-bare : (o : Outcome) → Has o p → Has o (without_idle_passed_square p)
  Has-bare Win h = (h.0, ((law p valid).value.won h.0).0 h.1)
  Has-bare Draw h = (law p valid).value.drawn.0 h

  ends-bare : (m : Move) → IsLegal p m → after p m ≡ after (without_idle_passed_square p) m
  ends-bare m l = sym ((law p valid).after m l)

  legal-bare : (m : Move) → IsLegal p m → IsLegal (without_idle_passed_square p) m
  legal-bare m l = (law p valid).legal m ∙ l

  only-bare : (o : Outcome) (m : Move) → IsOnlyMove o p m → IsOnlyMove o (without_idle_passed_square p) m
  only-bare o m y = record {
    legal = legal-bare m y.legal;
    holds = subst (Holds o) (ends-bare m y.legal) y.holds;
    alone = λ k l h.
        let legal : is_legal p k ≡ true = sym ((law p valid).legal k) ∙ l in
        y.alone k legal (subst (Holds o) ((law p valid).after k legal) h);
  }

  key-bare : (o : Outcome) (m : Move) → IsKey o p m → IsKey o (without_idle_passed_square p) m
  key-bare o m k = (Has-bare o k.0, only-bare o m k.1)

  line-bare : (o : Outcome) (n : ℕ) → HasOnlyMoves o n p → HasOnlyMoves o n (without_idle_passed_square p)
  line-bare o zero a = Has-bare o a
  line-bare o (suc n) a = (
    Has-bare o a.0,
    (
      a.1.0,
      only-bare o a.1.0 a.1.1,
      subst (λ (x : Position). (n ≡ 0) ⊎ ((r : Move) × IsLegal x r × HasOnlyMoves o n (after x r))) (ends-bare a.1.0 a.1.1.legal) a.1.2,
    ),
  )

  zugzwang-bare : IsZugzwang p → IsZugzwang (without_idle_passed_square p)
  zugzwang-bare z =
      let same = sym (handed-bare p) in
      record {
        none_passed = live_bare p ∙ z.none_passed;
        either = record {
          other = subst (λ (q : Position). IsValid q) same z.either.other;
          own_moves = λ none. z.either.own_moves (λ m l. none m (legal-bare m l));
          other_moves = subst (λ (q : Position). ¬ (HasNoMove q)) same z.either.other_moves;
        };
        less = (
          z.less.0,
          z.less.1,
          ((z.less.2).0, value-along p (without_idle_passed_square p) (law p valid).value (z.less.2).0 (z.less.2).1, (z.less.2).2),
          subst (λ (q : Position). Scores q z.less.1) same z.less.3,
          z.less.4,
        );
      }

  underpromotes-bare : (o : Outcome) → Underpromotes o p → Underpromotes o (without_idle_passed_square p)
  underpromotes-bare o u = (u.0, key-bare o u.0 u.1, u.2)

  into-bare : (o : Outcome) → LeadsIntoZugzwang o p → LeadsIntoZugzwang o (without_idle_passed_square p)
  into-bare o u = (u.0, key-bare o u.0 u.1, subst (λ (q : Position). IsZugzwang q) (ends-bare u.0 u.1.1.legal) u.2)

  pub theme-bare : (x : Theme) → HasTheme x p → HasTheme x (without_idle_passed_square p)
  theme-bare theme.Zugzwang h = zugzwang-bare h
  theme-bare (theme.OnlyMoves o n) h = line-bare o n h
  theme-bare theme.Underpromotion (inl h) = inl (underpromotes-bare Win h)
  theme-bare theme.Underpromotion (inr h) = inr (underpromotes-bare Draw h)
  theme-bare (theme.IntoZugzwang o) h = into-bare o h
  theme-bare (theme.ZugzwangTry o) h = (
    into-bare o h.0,
    (
      h.1.0,
      legal-bare h.1.0 h.1.1,
      subst (FailsIntoZugzwang o) (ends-bare h.1.0 h.1.1) h.1.2,
    ),
  )
  theme-bare (theme.MateIn n) h = ((law p valid).value.won n).0 h
