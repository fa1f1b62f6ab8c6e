-- The move that a text means is legal.
use Rattle.std.proofs.Common.{◌≡◌, ℕ, true, List, Option, Some, None, refl, inl, inr, is_some}
use Rattle.std.specs.Prelude.{Result, Ok, Err, IfOk}
use Rattle.std.specs.List.{filter}
use Rattle.std.proofs.lemmas.Bool.{and_from, or_left, or_right, cases_Bool, eq-eqb}
use Rattle.study_board.specs.declared.men.Side.{Side}
use Rattle.study_board.specs.Position.{Position}
use Rattle.study_moves.specs.declared.moves.Move.{Move}
use Rattle.study_moves.specs.Rules.{is_legal}
use Rattle.study_moves.specs.LegalList.{legal_list}
use Rattle.study_notation.specs.declared.san.San.{San}
use Rattle.study_notation.specs.declared.fault.SanFault.{SanFault}
use Rattle.study_notation.specs.declared.fault.SanFault.TheVariants.{NotSan}
use Rattle.study_notation.specs.SanParts.{san_of}
use Rattle.study_notation.specs.Matching.{matches, only_match, move_meant, move_of}
use Rattle.study_notation.proofs.MeansLegal.{picked_legal}
use Rattle.study_wide.specs.declared.castling.Wing.{Wing}
use Rattle.study_wide.specs.declared.castling.Wing.TheVariants.{Short, Long}
use Rattle.study_wide.specs.Wide.{Wide}
use Rattle.study_wide.specs.Castling.{home, king_target, can_castle, is_castling_move, castling_move}
use Rattle.study_wide.specs.Rules.{castles, wing_of, is_wide_legal}
use Rattle.study_wide_text.specs.Matching.{castling_wing}
use Rattle.study_wide_text.proofs.CastlingTexts.{none_castles}

castles_itself : (g : Wide) (w : Wing) → can_castle g w ≡ true → castles g (castling_move g.board.to_move w) w ≡ true
castles_itself g w may = and_from _ _ (itself g.board.to_move w) may
  where
    itself : (s : Side) (v : Wing) → is_castling_move s v (castling_move s v) ≡ true
    itself s v = and_from _ _ (and_from _ _ (eq-eqb (home s) (home s) refl) (eq-eqb (king_target s v) (king_target s v) refl)) refl

some_wing : (g : Wide) (m : Move) (w : Wing) → castles g m w ≡ true → is_some (wing_of g m) ≡ true
some_wing g m Short e = rw e refl
some_wing g m Long e = elim (cases_Bool (castles g m Short)) [ inl t ↦ rw t refl | inr f ↦ rw (f, e) refl ]

pub castling_legal : (g : Wide) (w : Wing) → can_castle g w ≡ true → is_wide_legal g (castling_move g.board.to_move w) ≡ true
unfolding is_wide_legal
castling_legal g w may =
    let m = castling_move g.board.to_move w in
    or_left (is_some (wing_of g m)) (is_legal g.board m) (some_wing g m w (castles_itself g w may))

plain_legal : (g : Wide) (m : Move) → is_legal g.board m ≡ true → is_wide_legal g m ≡ true
unfolding is_wide_legal
plain_legal g m e = or_right (is_some (wing_of g m)) (is_legal g.board m) e

weaker : (P Q : Move → Type 0) (r : Result Move SanFault) → ((m : Move) → P m → Q m) → IfOk r P → IfOk r Q
weaker P Q (Ok m) f h = f m h
weaker P Q (Err e) f h = tt

pub means_legal : (g : Wide) (text : List ℕ) → IfOk (move_of g.board text) (λ m. is_wide_legal g m ≡ true)
unfolding move_of
means_legal g text = go (san_of text)
  where
    go : (o : Option San) → IfOk (move_meant g.board text o) (λ m. is_wide_legal g m ≡ true)
    go (Some s) =
        let p = g.board in
        weaker (λ m. is_legal g.board m ≡ true) (λ m. is_wide_legal g m ≡ true) (only_match (filter (matches p s) (legal_list p))) (plain_legal g)
        (picked_legal p s (legal_list p) (legal_list p) (only_match (filter (matches p s) (legal_list p))) refl refl refl)
    go None = tt

abbrev no_san : Result Move SanFault
no_san = Err NotSan

pub no_form : (p : Position) (text : List ℕ) → castling_wing text ≡ None → san_of text ≡ None → no_san ≡ move_of p text
unfolding move_of
no_form p text none parts = let castling = none_castles text none in rw (parts, castling) refl
