-- The texts of moves and of starts with any number of men are printable and short.
use Rattle.std.proofs.Common.{◌≡◌, ℕ, ◌<◌, ◌≤◌, Bool, true, false, List, [], ◌∷◌, ◌++◌, length, Option, Some, None, refl, ap, inl, inr, arith}
use Rattle.std.proofs.Common.{length-append}
use Rattle.std.specs.Prelude.{decimal}
use Rattle.std.proofs.lemmas.Bool.{cases_Bool}
use Rattle.std.proofs.lemmas.Fmt.{decimal_nonempty}
use Rattle.study_board.specs.declared.men.Man.{Man}
use Rattle.study_board.specs.Geometry.{file_of, rank_of}
use Rattle.study_moves.specs.declared.moves.Move.{Move}
use Rattle.study_moves.proofs.MenOfList.{found_among, All-among}
use Rattle.study_moves.proofs.NoMoveBetween.{HasMover-from_is_legal}
use Rattle.study_notation.specs.San.{san_text}
use Rattle.study_notation.specs.SanSpelling.{gives_rank}
use Rattle.study_notation.specs.FenSpelling.{placement_text, side_text, passed_text}
use Rattle.study_wide.specs.declared.castling.Wing.{Wing}
use Rattle.study_wide.specs.declared.castling.Wing.TheVariants.{Short, Long}
use Rattle.study_wide.specs.declared.rights.Rights.{Rights}
use Rattle.study_wide.specs.Wide.{Wide, IsWide}
use Rattle.study_wide.specs.Rules.{has_rights, wing_of, is_wide_legal, wide_after}
use Rattle.study_wide.specs.LegalList.{is_in_check, is_wide_mate}
use Rattle.study_wide.proofs.Playing.{plain_legal}
use Rattle.study_wide_text.specs.declared.start.WideStart.{WideStart}
use Rattle.study_wide_text.specs.RightsField.{letter_if, castling_text}
use Rattle.study_wide_text.specs.Fen.{wide_fen_text}
use Rattle.study_wide_text.specs.SanSpelling.{gives_wide_file, wide_san_for, castling_san, wide_check_text, wide_move_text}
use Rattle.study_wide_text.proofs.PlacementLength.{placement_is_short}
use Rattle.study_import.proofs.Ink.{Print, ink_prints, decimal_ink, decimal_few}
use Rattle.study_import.proofs.Spelling.{IsShort, both, square_some, san_short, some_below, placement_ink, side_ink, passed_in, passed_on, first_of, spaced}
use Rattle.study_import.proofs.Spelling.{regrouped, longs, side_few, passed_few}
use Rattle.study_import.proofs.CommandLines.{IsTrimmed, inked_ends}

-- ---- moves

castling_short : (w : Wing) → IsShort 8 (castling_san w)
castling_short Short = record { ink = (omega arith, omega arith, (omega arith, omega arith, (omega arith, omega arith, tt))); few = omega arith }
castling_short Long = record {
  ink = (omega arith, omega arith, (omega arith, omega arith, (omega arith, omega arith, (omega arith, omega arith, (omega arith, omega arith, tt)))));
  few = omega arith;
}

check_short : (g : Wide) → IsShort 1 (wide_check_text g)
unfolding wide_check_text
check_short g = elim (cases_Bool (is_wide_mate g)) [
  | inl mate ↦ rw mate (record { ink = (omega arith, omega arith, tt); few = omega arith })
  | inr none ↦ elim (cases_Bool (is_in_check g)) [
    | inl check ↦ rw (none, check) (record { ink = (omega arith, omega arith, tt); few = omega arith })
    | inr safe ↦ rw (none, safe) (record { ink = tt; few = omega arith })
  ]
]

parts_short : (g : Wide) (man : Man) (m : Move) → man.at < 64 → m.target < 64 → IsShort 8 (san_text (wide_san_for g.board man m) true)
unfolding wide_san_for
parts_short g man m at target =
    san_short (wide_san_for g.board man m) (some_below (gives_wide_file g.board man m.target) (file_of man.at) 8 (omega arith))
    (some_below (gives_rank g.board man m.target) (rank_of man.at) 8 (omega arith)) target

-- the text of a legal move
pub wide_move_short : (g : Wide) (m : Move) → IsWide g → is_wide_legal g m ≡ true → IsShort 9 (wide_move_text g m)
unfolding wide_move_text
wide_move_short g m h legal = by_wing (wing_of g m) refl
  where
    by_wing : (o : Option Wing) → wing_of g m ≡ o → IsShort 9 (wide_move_text g m)
    by_wing (Some w) e = rw e (both 8 1 (castling_san w) (wide_check_text (wide_after g m)) (castling_short w) (check_short (wide_after g m)))
    by_wing None e =
        let mover = HasMover-from_is_legal g.board m (plain_legal g m e legal) in
        let at = All-among (λ x. x.at < 64) g.board.men mover.man h.sound.on_board (found_among g.board.men m.origin mover.man mover.here).0 in
        rw (e, mover.here)
        (both 8 1 (san_text (wide_san_for g.board mover.man m) true) (wide_check_text (wide_after g m)) (parts_short g mover.man m at mover.moves.target)
        (check_short (wide_after g m)))

castling_some : (w : Wing) → 0 < length (castling_san w)
castling_some Short = omega arith
castling_some Long = omega arith

-- it is not empty
pub wide_move_some : (g : Wide) (m : Move) → is_wide_legal g m ≡ true → 0 < length (wide_move_text g m)
unfolding wide_move_text
wide_move_some g m legal = by_wing (wing_of g m) refl
  where
    by_wing : (o : Option Wing) → wing_of g m ≡ o → 0 < length (wide_move_text g m)
    by_wing (Some w) e = rw e (omega (arith, length-append (castling_san w) (wide_check_text (wide_after g m)), castling_some w))
    by_wing None e =
        let mover = HasMover-from_is_legal g.board m (plain_legal g m e legal) in
        let san = wide_san_for g.board mover.man m in
        rw (e, mover.here) (omega (arith, length-append (san_text san true) (wide_check_text (wide_after g m)), square_some san))

-- ---- starts

letter_short : (b : Bool) (n : ℕ) → 32 < n → n ≤ 126 → IsShort 1 (letter_if b n)
letter_short true n low high = record { ink = (low, high, tt); few = omega arith }
letter_short false n low high = record { ink = tt; few = omega arith }

rights_short : (r : Rights) → IsShort 4 (castling_text r)
unfolding castling_text
rights_short r = elim (cases_Bool (has_rights r)) [
  | inl some ↦ rw some
      (both 1 3 (letter_if r.white_short 75) _ (letter_short r.white_short 75 (omega arith) (omega arith))
      (both 1 2 (letter_if r.white_long 81) _ (letter_short r.white_long 81 (omega arith) (omega arith))
      (both 1 1 (letter_if r.black_short 107) (letter_if r.black_long 113) (letter_short r.black_short 107 (omega arith) (omega arith))
      (letter_short r.black_long 113 (omega arith) (omega arith)))))
  | inr none ↦ rw none (record { ink = (omega arith, omega arith, tt); few = omega arith })
]

pub record IsWideFen (t : List ℕ) : Type 0 where
  pub prints : Print t
  pub few : length t ≤ 300
  pub trimmed : IsTrimmed t

pub wide_fen_is : (s : WideStart) → IsWide s.position → s.number ≤ 65535 → IsWideFen (wide_fen_text s)
unfolding wide_fen_text
wide_fen_is s h number_low =
    let men = s.position.board.men in
    let side = side_text s.position.board.to_move in
    let rights = castling_text s.position.rights in
    let passed = passed_text s.position.board.passed in
    let p = placement_ink men in
    let q = passed_in s.position.board.passed (passed_on men s.position.board.to_move s.position.board.passed h.sound.possible) in
    let r = rights_short s.position.rights in
    let b = first_of (placement_text men) p.0 p.1 in
    let number = decimal s.number in
    let behind = 32 ∷ (side ++ (32 ∷ (rights ++ (32 ∷ (passed ++ (32 ∷ (decimal s.clock ++ (32 ∷ number)))))))) in
    record {
      trimmed = inked_ends (placement_text men ++ behind)
          (placement_text men ++ (32 ∷ (side ++ (32 ∷ (rights ++ (32 ∷ (passed ++ (32 ∷ (decimal s.clock ++ 32 ∷ [])))))))))
          number (b.1 ++ behind) b.0 (ap (λ (t : List ℕ). t ++ behind) b.2) b.3
          (regrouped (placement_text men) side rights passed (decimal s.clock) number) (decimal_ink s.number) (decimal_nonempty s.number (omega (arith, number_low)));
      prints = spaced (placement_text men) _ p.0 (spaced side _ (side_ink s.position.board.to_move)
          (spaced rights _ r.ink (spaced passed _ q (spaced (decimal s.clock) _ (decimal_ink s.clock) (ink_prints (decimal s.number) (decimal_ink s.number))))));
      few = omega (
        arith,
        longs (placement_text men) side rights passed (decimal s.clock) (decimal s.number),
        placement_is_short men,
        side_few s.position.board.to_move,
        r.few,
        passed_few s.position.board.passed,
        decimal_few s.clock,
        decimal_few s.number,
      );
    }
