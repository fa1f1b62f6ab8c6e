-- The targets of the legal moves of a man are among those of its kind and those of castling.
use Rattle.std.proofs.Common.{◌≡◌, ℕ, ◌<◌, ◌==◌, true, false, not, ◌&&◌, ◌||◌, ◌⊎◌, inl, inr, List, Option, Some}
use Rattle.std.proofs.Common.{sym, ap, ◌∙◌, arith}
use Rattle.std.proofs.lemmas.Bool.{and_parts, and_from, or_cases, or_left, or_right, ne_eqb, eqb-true, not_from_false}
use Rattle.study_board.specs.declared.men.Man.{Man}
use Rattle.study_board.specs.declared.men.Side.{Side}
use Rattle.study_board.specs.declared.men.Kind.TheVariants.{King, Pawn}
use Rattle.study_board.specs.Geometry.{files_apart}
use Rattle.study_board.specs.Men.{same_kind, is_pawn, pawn_captures, attacks_square}
use Rattle.study_board.specs.Position.{man_at}
use Rattle.study_board.specs.Sets.{has}
use Rattle.study_moves.specs.declared.moves.Move.{Move}
use Rattle.study_moves.specs.Rules.{reaches_target, pawn_steps, pawn_double_steps, pawn_takes}
use Rattle.study_moves.proofs.NoMoveBetween.{IsMoveOf-at}
use Rattle.study_wide.specs.declared.castling.Wing.{Wing}
use Rattle.study_wide.specs.Wide.{Wide, IsWide}
use Rattle.study_wide.specs.Castling.{king_target}
use Rattle.study_wide.specs.Rules.{is_wide_legal}
use Rattle.study_wide.proofs.Movers.{IsMover-at}

-- the man can go to the target, or the move is castling of a king
goes_or_castles : (g : Wide) (man : Man) (m : Move) → IsWide g → man_at g.board.men man.at ≡ Some man → m.origin ≡ man.at → is_wide_legal g m ≡ true
    → (m.target < 64) × ((reaches_target g.board.men g.board.passed man m.target ≡ true)
    ⊎ ((man.kind ≡ King) × ((w : Wing) × (m.target ≡ king_target g.board.to_move w))))
goes_or_castles g man m wide here o legal =
    let h = IsMover-at g man m wide here o legal in (
      h.0.target,
      elim h.0.how [
        | inl plain ↦ inl (IsMoveOf-at g.board man m here o plain).going
        | inr castling ↦ inr (ap (λ (x : Man). x.kind) (sym h.1) ∙ castling.2, (castling.0, castling.1.target))
      ],
    )

pub going_piece : (men : List Man) (q : Option ℕ) (man : Man) (x : ℕ) → is_pawn man ≡ false → reaches_target men q man x ≡ true
    → attacks_square men man x ≡ true
unfolding reaches_target
going_piece men q man x piece e = rw piece at e

going_pawn : (men : List Man) (q : Option ℕ) (man : Man) (x : ℕ) → is_pawn man ≡ true → reaches_target men q man x ≡ true
    → (pawn_steps men man.side man.at x || pawn_double_steps men man.side man.at x || pawn_takes men q man.side man.at x) ≡ true
unfolding reaches_target
going_pawn men q man x pawn e = rw pawn at e

-- a pawn does not capture on its own square
captures_elsewhere : (side : Side) (a x : ℕ) → pawn_captures side a x ≡ true → (not (a == x) && pawn_captures side a x) ≡ true
unfolding pawn_captures
captures_elsewhere side a x e =
    let files = eqb-true (files_apart a x) 1 (and_parts (files_apart a x == 1) _ e).0 in
    and_from (not (a == x)) (pawn_captures side a x) (not_from_false _ (ne_eqb a x (λ same.
    let none : files_apart a x ≡ 0 = omega arith in omega arith))) e

module _ (g : Wide) (man : Man) (wide : IsWide g) (here : man_at g.board.men man.at ≡ Some man) where
  pub pawn_targets_all : (steps takes set : ℕ) → man.kind ≡ Pawn
      → ((x : ℕ) → x < 64 → has steps x ≡ (pawn_steps g.board.men man.side man.at x || pawn_double_steps g.board.men man.side man.at x))
      → ((x : ℕ) → x < 64 → has takes x ≡ (not (man.at == x) && pawn_captures man.side man.at x))
      → ((x : ℕ) → has set x ≡ (has steps x || has takes x))
      → (m : Move) → m.origin ≡ man.at → is_wide_legal g m ≡ true → has set m.target ≡ true
  unfolding pawn_takes
  pawn_targets_all steps takes set pawn hs ht hu m o legal =
      let h = goes_or_castles g man m wide here o legal in
      let x = m.target in
      let is : is_pawn man ≡ true = ap (λ k. same_kind k Pawn) pawn in
      elim h.1 [
        | inl goes ↦
            let e = going_pawn g.board.men g.board.passed man x is goes in
            let stepping = pawn_steps g.board.men man.side man.at x || pawn_double_steps g.board.men man.side man.at x in
            elim (or_cases stepping (pawn_takes g.board.men g.board.passed man.side man.at x) e) [
              | inl s ↦ hu x ∙ or_left (has steps x) (has takes x) (hs x h.0 ∙ s)
              | inr t ↦
                  let takes_it = (and_parts (pawn_captures man.side man.at x) _ t).0 in
                  hu x ∙ or_right (has steps x) (has takes x) (ht x h.0 ∙ captures_elsewhere man.side man.at x takes_it)
            ]
        | inr castling ↦ absurd (let no : ⊥ = cc in no)
      ]

  pub piece_targets_all : (set : ℕ) → is_pawn man ≡ false → (man.kind ≡ King → ⊥)
      → ((x : ℕ) → x < 64 → has set x ≡ attacks_square g.board.men man x)
      → (m : Move) → m.origin ≡ man.at → is_wide_legal g m ≡ true → has set m.target ≡ true
  piece_targets_all set piece king hs m o legal =
      let h = goes_or_castles g man m wide here o legal in
      elim h.1 [
        | inl goes ↦ hs m.target h.0 ∙ going_piece g.board.men g.board.passed man m.target piece goes
        | inr castling ↦ absurd (king castling.0)
      ]

  pub king_targets_all : (near far set : ℕ) → is_pawn man ≡ false
      → ((x : ℕ) → x < 64 → has near x ≡ attacks_square g.board.men man x)
      → ((w : Wing) → has far (king_target g.board.to_move w) ≡ true)
      → ((x : ℕ) → has set x ≡ (has near x || has far x))
      → (m : Move) → m.origin ≡ man.at → is_wide_legal g m ≡ true → has set m.target ≡ true
  king_targets_all near far set piece hn hf hu m o legal =
      let h = goes_or_castles g man m wide here o legal in
      elim h.1 [
        | inl goes ↦ hu m.target ∙ or_left (has near m.target) (has far m.target)
            (hn m.target h.0 ∙ going_piece g.board.men g.board.passed man m.target piece goes)
        | inr castling ↦ hu m.target ∙ or_right (has near m.target) (has far m.target) (ap (has far) castling.1.1 ∙ hf castling.1.0)
      ]
