-- Quiet moves lead to like positions from like positions.
use Rattle.std.proofs.Common.{◌≡◌, Bool, true, false, cond, ◌||◌, not, None, refl, sym, ◌∙◌, ap, ℕ, Option, Some}
use Rattle.std.specs.List.{list_any, count_by}
use Rattle.study_board.specs.declared.men.Man.{Man}
use Rattle.study_board.specs.declared.men.Side.{Side}
use Rattle.study_board.specs.declared.men.Kind.{Kind}
use Rattle.study_board.specs.declared.symmetry.Symmetry.{Symmetry}
use Rattle.study_board.specs.Men.{is_man, is_pawn}
use Rattle.study_board.specs.Position.{Position, IsValid, man_at}
use Rattle.study_board.specs.Symmetry.{image, admits, keeps_pawns, turned_passed}
use Rattle.study_board.proofs.ImagesValid.{is_occupied-turned, valid_image}
use Rattle.study_board.proofs.ImagesOfImages.{IsTurnable, IsTurnable-from_valid}
use Rattle.study_moves.specs.declared.moves.Move.{Move}
use Rattle.study_moves.specs.Rules.{is_legal, after}
use Rattle.study_moves.specs.Symmetry.{image_move}
use Rattle.study_moves.specs.EnPassant.{has_legal_en_passant, without_passed, without_idle_passed_square}
use Rattle.study_moves.specs.Alike.{AreAlike}
use Rattle.study_moves.specs.Unmoves.{IsQuiet, LeadsQuietly}
use Rattle.study_moves.specs.Laws.{AgreesQuietly}
use Rattle.study_moves.proofs.AlikePositions.{admits_bare}
use Rattle.study_moves.proofs.BareImages.{bare_image}
use Rattle.study_moves.proofs.RulesOfImages.{legal_small, image_legal, after-turned}
use Rattle.study_moves.proofs.NoMoveBetween.{HasMover-from_is_legal}
use Rattle.study_moves.proofs.MenOfList.{found_among, none_among}
use Rattle.study_moves.proofs.QuietBack.{IsTakenBack-from, tested_alike, counted_alike}

pub known : (p : Position) (m : Move) → IsValid p → p.passed ≡ None → is_legal p m ≡ true → IsQuiet p m → LeadsQuietly p m (after p m)
known p m valid unpassed legal quiet = record { valid = valid; unpassed = unpassed; legal = legal; quiet = quiet; leads = refl }

without_bare : (p : Position) → without_passed (without_idle_passed_square p) ≡ without_passed p
without_bare p = by_live (has_legal_en_passant p)
  where
    by_live : (b : Bool) → without_passed (cond b p (without_passed p)) ≡ without_passed p
    by_live true = refl
    by_live false = refl

module _ (p q : Position) (m : Move) (valid : IsValid q) (e : LeadsQuietly p m q) where
  pub same_men : (s : Side) (k : Kind) → count_by (is_man s k) p.men ≡ count_by (is_man s k) q.men
  same_men s k =
      let t = IsTakenBack-from q m p valid e in
      ap (λ (x : Position). count_by (is_man s k) x.men) t.is ∙ counted_alike q valid t.man t.origin t.came s k

  same_pawns : list_any is_pawn p.men ≡ list_any is_pawn q.men
  same_pawns =
      let t = IsTakenBack-from q m p valid e in
      ap (λ (x : Position). list_any is_pawn x.men) t.is ∙ tested_alike q valid t.man t.origin t.came is_pawn refl

  module _ (r : Position) (h : AreAlike q r) where
    abbrev pub s : Symmetry
    s = h.images.by

    admitted : admits p s ≡ true
    admitted = ap (λ (b : Bool). not b || keeps_pawns s) same_pawns ∙ sym (admits_bare s q) ∙ h.images.admitted

    turn : IsTurnable s p
    turn = IsTurnable-from_valid s p e.valid admitted

    ends : without_passed (after (image s p) (image_move s m)) ≡ without_passed r
    ends =
        ap without_passed (after-turned s p turn m e.legal)
        ∙ ap (λ (x : Position). image s x) (e.leads ∙ sym (without_bare q))
        ∙ sym (ap without_passed h.images.is) ∙ without_bare r

    leads : LeadsQuietly (image s p) (image_move s m) r
    leads =
        let on = legal_small s p turn m e.legal in
        record {
          valid = valid_image s p e.valid admitted;
          unpassed = ap (turned_passed s) e.unpassed;
          legal = image_legal s p turn m e.legal;
          quiet = (is_occupied-turned s p.men turn.seats m.target on.1 ∙ e.quiet.0, e.quiet.1);
          leads = ends;
        }

    pub from_alike : (o : Position) × (n : Move) × LeadsQuietly o n r × AreAlike p o
    from_alike = (
      image s p,
      image_move s m,
      leads,
      record {
        left = e.valid;
        right = valid_image s p e.valid admitted;
        images = record { by = s; admitted = admits_bare s p ∙ admitted; is = bare_image s p turn };
      },
    )

unpassed_same : (x : Position) → x.passed ≡ None → x ≡ without_passed x
unpassed_same x e =
    let by : Option ℕ → Position = λ o. record { men = x.men; to_move = x.to_move; passed = o } in
    ap by e

none_jumped : (p : Position) (m : Move) (man : Man) → man_at p.men m.origin ≡ Some man → is_pawn man ≡ false → (after p m).passed ≡ None
unfolding after
none_jumped p m man here e = rw (here, e) refl

no_pawn_jumps : (p q : Position) (m : Move) → IsValid q → LeadsQuietly p m q → list_any is_pawn q.men ≡ false → (after p m).passed ≡ None
no_pawn_jumps p q m valid e none =
    let h = HasMover-from_is_legal p m e.legal in
    let among = (found_among p.men m.origin h.man h.here).0 in
    none_jumped p m h.man h.here (none_among is_pawn p.men h.man (same_pawns p q m valid e ∙ none) among)

pub AgreesQuietly-from : (p q : Position) (m : Move) → IsValid q → LeadsQuietly p m q → AgreesQuietly p m q
AgreesQuietly-from p q m valid e = record {
  men = same_men p q m valid e;
  alike = from_alike p q m valid e;
  straight = λ u. unpassed_same (after p m) u ∙ e.leads;
  pawnless = no_pawn_jumps p q m valid e;
}
