-- A move of one man leads to a wide position: the sides do not grow, and the rights that are left have their kings and rooks in place.
use Rattle.std.proofs.Common.{◌≡◌, ℕ, ◌≤◌, ◌+◌, ◌*◌, ◌==◌, Bool, true, false, not, cond, ◌&&◌, ◌||◌, List, [], ◌∷◌, refl, sym, ap, ◌∙◌, subst}
use Rattle.std.proofs.Common.{arith, inl, inr, Some}
use Rattle.std.specs.List.{filter, count_by}
use Rattle.std.proofs.lemmas.Bool.{false≢true, and_parts, and_from, and_left, cases_Bool, eqb-true, eq-eqb, ne_eqb}
use Rattle.std.proofs.lemmas.Bool.{not_from_false, not_from_true, false_from_ne_true}
use Rattle.std.proofs.lemmas.List.Sorted.{sum_by-IsPermutation}
use Rattle.study_board.specs.declared.men.Man.{Man}
use Rattle.study_board.specs.declared.men.Side.{Side}
use Rattle.study_board.specs.declared.men.Side.TheVariants.{White, Black}
use Rattle.study_board.specs.declared.men.Kind.{Kind}
use Rattle.study_board.specs.declared.men.Kind.TheVariants.{King, Rook, Pawn}
use Rattle.study_board.specs.Geometry.{file_of, rank_of}
use Rattle.study_board.specs.Men.{same_side, same_kind, other_side, is_man}
use Rattle.study_board.specs.Position.{Position, has_man, man_at}
use Rattle.study_board.proofs.Lists.{count_by-cons}
use Rattle.study_board.proofs.Faults.{has_man_same}
use Rattle.study_moves.specs.declared.moves.Move.{Move}
use Rattle.study_moves.specs.Rules.{is_legal, after_by, men_after, moved_man, survives, is_en_passant}
use Rattle.study_moves.proofs.MenOfList.{IsAmong, list_any-from, some_among, same_square, found_among, count_by-filter-le, count_by-filter-less}
use Rattle.study_moves.proofs.NoMoveBetween.{IsMoveOf, HasMover-from_is_legal}
use Rattle.study_moves.proofs.AfterMove.{IsMoveFrom, IsMoveFrom-sound, those, all_after, permuted, en_passant_pawn, IsSound-after_by}
use Rattle.study_wide.specs.declared.rights.Rights.{Rights}
use Rattle.study_wide.specs.Rights.{touches, rights_after, fits, rights_fit}
use Rattle.study_wide.specs.Wide.{Wide, IsWide, of_side}

IsAmong-filter-from : (f : Man → Bool) (xs : List Man) (m : Man) → IsAmong m xs → f m ≡ true → IsAmong m (filter f xs)
IsAmong-filter-from f [] m i e = absurd i
IsAmong-filter-from f (x ∷ xs) m (inl s) e =
    let t : f x ≡ true = rw s e in
    rw t (inl s)
IsAmong-filter-from f (x ∷ xs) m (inr i) e =
    let ih = IsAmong-filter-from f xs m i e in
    elim (f x) as (λ b. IsAmong m (cond b (x ∷ filter f xs) (filter f xs))) [ true ↦ inr ih | false ↦ ih ]

module _ (p : Position) (man : Man) (m : Move) (h : IsMoveFrom p man m) where
  leaves : survives p.passed man m.target man ≡ false
  unfolding survives
  leaves = and_left _ _ (and_left _ _ (not_from_true _ (eq-eqb man.at man.at refl)))

  count_after : (q : Man → Bool) → count_by q (men_after p man m) ≡ cond (q (moved_man man m)) 1 0 + count_by q (those p man m h)
  count_after q = sum_by-IsPermutation _ (all_after p man m h) (men_after p man m) (permuted p man m h) ∙ count_by-cons q (moved_man man m) (those p man m h)

  pub few_after : (s : Side) → count_by (of_side s) p.men ≤ 16 → count_by (of_side s) (men_after p man m) ≤ 16
  few_after s few =
      let whole = count_after (of_side s) in
      elim (cases_Bool (same_side man.side s)) [
        | inl mine ↦
            let less = count_by-filter-less (of_side s) (survives p.passed man m.target) p.men man h.among mine leaves in
            let same : of_side s (moved_man man m) ≡ true = mine in
            let w : count_by (of_side s) (men_after p man m) ≡ 1 + count_by (of_side s) (those p man m h) =
            whole ∙ ap (λ b. cond b 1 0 + count_by (of_side s) (those p man m h)) same in
            omega arith
        | inr his ↦
            let le = count_by-filter-le (of_side s) (survives p.passed man m.target) p.men in
            let same : of_side s (moved_man man m) ≡ false = his in
            let w : count_by (of_side s) (men_after p man m) ≡ 0 + count_by (of_side s) (those p man m h) =
            whole ∙ ap (λ b. cond b 1 0 + count_by (of_side s) (those p man m h)) same in
            omega arith
      ]

  -- a man of another kind than a pawn stays if the move neither begins nor ends on its square
  stays : (n : Man) → IsAmong n p.men → (same_kind n.kind Pawn ≡ false) → (n.at == man.at) ≡ false → (n.at == m.target) ≡ false
      → survives p.passed man m.target n ≡ true
  unfolding survives has_man
  stays n i k o t =
      let square = 8 * rank_of man.at + file_of m.target in
      and_from (not (n.at == man.at) && not (n.at == m.target)) (not (is_en_passant p.passed man m.target && (n.at == square)))
      (and_from (not (n.at == man.at)) (not (n.at == m.target)) (not_from_false _ o) (not_from_false _ t))
      (not_from_false _ (false_from_ne_true _ (λ u.
      let b = and_parts (is_en_passant p.passed man m.target) (n.at == square) u in
      let found = some_among (λ z. is_man (other_side p.to_move) Pawn z && (z.at == square)) p.men (en_passant_pawn p man m h b.0) in
      let c = and_parts (is_man (other_side p.to_move) Pawn found.0) (found.0.at == square) found.2 in
      let d = and_parts (same_side found.0.side (other_side p.to_move)) (same_kind found.0.kind Pawn) c.0 in
      let same = same_square p.men n found.0 h.valid.ordered i found.1 (eqb-true _ _ b.1 ∙ sym (eqb-true _ _ c.1)) in
      false≢true (sym k ∙ ap (λ z. same_kind z.kind Pawn) same ∙ d.1))))

  has_after : (s : Side) (k : Kind) (x : ℕ) → ((n : Man) → same_kind n.kind k ≡ true → same_kind n.kind Pawn ≡ false)
      → (man.at == x) ≡ false → (m.target == x) ≡ false → has_man p.men s k x ≡ true → has_man (men_after p man m) s k x ≡ true
  unfolding has_man
  has_after s k x piece o t e =
      let found = some_among (λ n. is_man s k n && (n.at == x)) p.men e in
      let a = and_parts (is_man s k found.0) (found.0.at == x) found.2 in
      let b = and_parts (same_side found.0.side s) (same_kind found.0.kind k) a.0 in
      let there = eqb-true _ _ a.1 in
      let not_origin : (found.0.at == man.at) ≡ false = ne_eqb _ _ (λ z. false≢true (sym o ∙ eq-eqb man.at x (sym z ∙ there))) in
      let not_target : (found.0.at == m.target) ≡ false = ne_eqb _ _ (λ z. false≢true (sym t ∙ eq-eqb m.target x (sym z ∙ there))) in
      let kept = IsAmong-filter-from (survives p.passed man m.target) p.men found.0 found.1 (stays found.0 found.1
      (piece found.0 b.1) not_origin not_target) in
      sym (has_man_same (all_after p man m h) (men_after p man m) (permuted p man m h) s k x)
      ∙ list_any-from (λ n. is_man s k n && (n.at == x)) (all_after p man m h) found.0 (inr kept) found.2

king_no_pawn : (n : Man) → same_kind n.kind King ≡ true → same_kind n.kind Pawn ≡ false
king_no_pawn n e = kind_no_pawn n.kind e
  where
    kind_no_pawn : (k : Kind) → same_kind k King ≡ true → same_kind k Pawn ≡ false
    kind_no_pawn King e = refl
    kind_no_pawn _ e = absurd (false≢true e)

rook_no_pawn : (n : Man) → same_kind n.kind Rook ≡ true → same_kind n.kind Pawn ≡ false
rook_no_pawn n e = kind_no_pawn n.kind e
  where
    kind_no_pawn : (k : Kind) → same_kind k Rook ≡ true → same_kind k Pawn ≡ false
    kind_no_pawn Rook e = refl
    kind_no_pawn _ e = absurd (false≢true e)

-- a test of rights: not held, or both men in place
pub fits_from : (held : Bool) (king rook : Bool) → (held ≡ true → (king ≡ true) × (rook ≡ true)) → (not held || (king && rook)) ≡ true
fits_from true king rook f = let t = f refl in and_from _ _ t.0 t.1
fits_from false king rook f = refl

pub fits_parts : (held king rook : Bool) → held ≡ true → (not held || (king && rook)) ≡ true → (king ≡ true) × (rook ≡ true)
fits_parts true king rook e f = and_parts king rook f
fits_parts false king rook e f = absurd (false≢true e)

or_neither : (a b : Bool) → not (a || b) ≡ true → (a ≡ false) × (b ≡ false)
or_neither true b e = absurd (false≢true e)
or_neither false true e = absurd (false≢true e)
or_neither false false e = (refl, refl)

module _ (p : Position) (man : Man) (m : Move) (h : IsMoveFrom p man m) (origin : man.at ≡ m.origin) where
  -- a right that is still held after the move fits
  fits_after : (held : Bool) (s : Side) (king rook : ℕ) → fits held p.men s king rook ≡ true
      → fits (held && not (touches m king) && not (touches m rook)) (men_after p man m) s king rook ≡ true
  fits_after held s king rook e =
      fits_from (held && not (touches m king) && not (touches m rook)) (has_man (men_after p man m) s King king) (has_man
      (men_after p man m) s Rook rook) (λ t.
      let a = and_parts (held && not (touches m king)) (not (touches m rook)) t in
      let b = and_parts held (not (touches m king)) a.0 in
      let both = fits_parts held (has_man p.men s King king) (has_man p.men s Rook rook) b.0 e in
      let k = or_neither (m.origin == king) (m.target == king) b.1 in
      let r = or_neither (m.origin == rook) (m.target == rook) a.1 in (
        has_after p man m h s King king king_no_pawn (ap (λ z. z == king) origin ∙ k.0) k.1 both.0,
        has_after p man m h s Rook rook rook_no_pawn (ap (λ z. z == rook) origin ∙ r.0) r.1 both.1,
      ))

  pub fit_after : (r : Rights) → rights_fit p.men r ≡ true → rights_fit (men_after p man m) (rights_after r m) ≡ true
  unfolding rights_fit
  fit_after r e =
      let a = and_parts (fits r.white_short p.men White 4 7 && fits r.white_long p.men White 4 0 && fits r.black_short p.men Black 60 63)
      (fits r.black_long p.men Black 60 56) e in
      let b = and_parts (fits r.white_short p.men White 4 7 && fits r.white_long p.men White 4 0) (fits r.black_short p.men Black 60 63) a.0 in
      let c = and_parts (fits r.white_short p.men White 4 7) (fits r.white_long p.men White 4 0) b.0 in
      and_from _ _ (and_from _ _ (and_from _ _ (fits_after r.white_short White 4 7 c.0) (fits_after r.white_long White 4 0 c.1))
      (fits_after r.black_short Black 60 63 b.1)) (fits_after r.black_long Black 60 56 a.1)

-- the position after a move of one man, by that man
pub IsWide-after_by : (g : Wide) (man : Man) (m : Move) → IsWide g → man_at g.board.men m.origin ≡ Some man → is_legal g.board m ≡ true
    → IsWide (record { board = after_by g.board man m; rights = rights_after g.rights m })
IsWide-after_by g man m w here legal =
    let mover = HasMover-from_is_legal g.board m legal in
    let both : Some mover.man ≡ Some man = sym mover.here ∙ here in
    let same : mover.man ≡ man = cc in
    let moves = subst (λ (x : Man). IsMoveOf g.board x m) same mover.moves in
    let from = IsMoveFrom-sound g.board man m w.sound here moves in
    let found = found_among g.board.men m.origin man here in
    record {
      sound = IsSound-after_by g.board man m from;
      few = λ s. few_after g.board man m from s (w.few s);
      fit = fit_after g.board man m from found.1 g.rights w.fit;
    }
