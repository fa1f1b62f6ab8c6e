-- The game with at most four men and no right to castle is that of the rules.
use Rattle.std.proofs.Common.{◌≡◌, ℕ, zero, suc, true, inl, inr, sym, ◌∙◌, subst}
use Rattle.study_board.specs.Position.{Position}
use Rattle.study_moves.specs.declared.moves.Move.{Move}
use Rattle.study_moves.specs.Rules.{is_legal, after}
use Rattle.study_moves.specs.Game.{HasNoMove, IsMate, MatesWithin, IsMatedWithin}
use Rattle.study_wide.specs.Wide.{Wide}
use Rattle.study_wide.specs.Rules.{is_wide_legal, widen}
use Rattle.study_wide.specs.Game.{HasNoWideMove, IsWideMate, IsWideMatedWithin, WideMatesWithin}
use Rattle.study_wide.specs.Laws.{HasSameGame, FewMenHaveSameGame}
use Rattle.study_wide.proofs.FewMen.{few_agree, narrow_widened}

legal_to : (p : Position) (m : Move) → is_legal p m ≡ true → is_wide_legal (widen p) m ≡ true
legal_to p m e = (few_agree p).legal m ∙ e

legal_from : (p : Position) (m : Move) → is_wide_legal (widen p) m ≡ true → is_legal p m ≡ true
legal_from p m e = sym ((few_agree p).legal m) ∙ e

none_to : (p : Position) → HasNoMove p → HasNoWideMove (widen p)
none_to p h m l = h m (legal_from p m l)

none_from : (p : Position) → HasNoWideMove (widen p) → HasNoMove p
none_from p h m l = h m (legal_to p m l)

mate_to : (p : Position) → IsMate p → IsWideMate (widen p)
mate_to p h = (h.0, none_to p h.1)

mate_from : (p : Position) → IsWideMate (widen p) → IsMate p
mate_from p h = (h.0, none_from p h.1)

mutual
  mates_to : (n : ℕ) (p : Position) → MatesWithin n p → WideMatesWithin n (widen p)
  mates_to zero p h = absurd h
  mates_to (suc n) p h =
      (h.0, legal_to p h.0 h.1, subst (λ (g : Wide). IsWideMatedWithin n g) (sym ((few_agree p).after h.0)) (mated_to n (after p h.0) h.2))

  mated_to : (n : ℕ) (p : Position) → IsMatedWithin n p → IsWideMatedWithin n (widen p)
  mated_to zero p h = mate_to p h
  mated_to (suc n) p (inl h) = inl (mate_to p h)
  mated_to (suc n) p (inr h) = inr (
    (h.0.0, legal_to p h.0.0 h.0.1),
    λ m l.
        subst (λ (g : Wide). WideMatesWithin n g) (sym ((few_agree p).after m)) (mates_to n (after p m) (h.1 m (legal_from p m l))),
  )

mutual
  mates_from : (n : ℕ) (p : Position) → WideMatesWithin n (widen p) → MatesWithin n p
  mates_from zero p h = absurd h
  mates_from (suc n) p h =
      (h.0, legal_from p h.0 h.1, mated_from n (after p h.0) (subst (λ (g : Wide). IsWideMatedWithin n g) ((few_agree p).after h.0) h.2))

  mated_from : (n : ℕ) (p : Position) → IsWideMatedWithin n (widen p) → IsMatedWithin n p
  mated_from zero p h = mate_from p h
  mated_from (suc n) p (inl h) = inl (mate_from p h)
  mated_from (suc n) p (inr h) = inr (
    (h.0.0, legal_from p h.0.0 h.0.1),
    λ m l.
        mates_from n (after p m) (subst (λ (g : Wide). WideMatesWithin n g) ((few_agree p).after m) (h.1 m (legal_to p m l))),
  )

pub same_game : FewMenHaveSameGame
same_game g p e = subst (λ (h : Wide). HasSameGame h p) (sym (narrow_widened g p e)) (record {
  mate = (mate_to p, mate_from p);
  stalemate = (λ h. (h.0, none_to p h.1), λ h. (h.0, none_from p h.1));
  mates = λ n. (mates_to n p, mates_from n p);
  mated = λ n. (mated_to n p, mated_from n p);
})
