-- The definitions of texts on worked rows.
use Rattle.std.proofs.Common.{◌≡◌, ℕ, true, false, [], ◌∷◌, Some, None, Ok, Err, refl}
use Rattle.std.specs.Prelude.{codes}
use Rattle.study_board.specs.declared.men.Man.{Man}
use Rattle.study_board.specs.declared.men.Side.{Side}
use Rattle.study_board.specs.declared.men.Side.TheVariants.{White, Black}
use Rattle.study_board.specs.declared.men.Kind.{Kind}
use Rattle.study_board.specs.declared.men.Kind.TheVariants.{King, Queen, Rook, Knight, Pawn}
use Rattle.study_board.specs.Geometry.{on_rook_line, on_bishop_line, king_step, knight_jump, strictly_between}
use Rattle.study_board.specs.Men.{is_blocked, reaches, is_attacked, pawn_captures}
use Rattle.study_board.specs.Position.{Position, is_occupied, has_man, has_one_king, has_end_pawn, is_end_pawn, in_check, could_be_passed}
use Rattle.study_notation.specs.declared.fault.FenFault.TheVariants.{KingCount, OpponentInCheck}
use Rattle.study_notation.specs.declared.start.Start.{Start}
use Rattle.study_text.specs.Words.{words}
use Rattle.study_notation.specs.Fen.{fields_of, squares_of, is_rank, placement, placement_fault, position_of, count_of, start_of}
use Rattle.study_notation.specs.FenSpelling.{rank_field, ranks_text, placement_text}
use Rattle.study_moves.specs.declared.moves.Move.{Move}
use Rattle.study_moves.specs.Rules.{is_legal, is_legal_for, is_pseudo_legal, reaches_target, has_side, men_after, survives, is_en_passant, pawn_steps}
use Rattle.study_moves.specs.Rules.{pawn_double_steps, pawn_takes}
use Rattle.study_notation.specs.San.{san_text}
use Rattle.study_moves.specs.LegalList.{is_capture}
use Rattle.study_notation.specs.SanSpelling.{is_rival, has_rival, has_file_rival, gives_file, gives_rank, san_for}
use Rattle.study_notation.specs.SanParts.{kind_at, file_at, rank_at, takes_at, promotion_piece, promotion_piece_at, promotion_at, squares_at, san_of}
use Rattle.study_notation.specs.SanParts.{is_castling}

abbrev man : Side → Kind → ℕ → Man
man s k a = record { side = s; kind = k; at = a }

-- row 2 and row 12: four fields, and a run in two digits
abbrev row_2 : Start
row_2 =
    record {
      position = record {
        men = man White Rook 7 ∷ man White King 42 ∷ man Black King 56 ∷ [];
        to_move = White;
        passed = None;
      };
      clock = 0;
      number = 1;
    }

four_fields : start_of (codes " k7/44/2K5/8/8/8/8/7R  w - - ") ≡ Ok row_2
unfolding start_of words fields_of squares_of is_rank placement placement_fault position_of count_of has_one_king
    has_end_pawn is_end_pawn in_check is_attacked reaches is_blocked on_rook_line on_bishop_line king_step knight_jump
    strictly_between pawn_captures could_be_passed is_occupied has_man
four_fields = refl

-- (a whole `fen_text` does not compute: the digits of a number are closed in std)
written : placement_text row_2.position.men ≡ codes "k7/8/2K5/8/8/8/8/7R"
unfolding placement_text ranks_text rank_field
written = refl

-- row 11: two knights that reach e2 from two files; a pinned knight is not a rival
abbrev row_11 : Position
row_11 = record { men = man White King 4 ∷ man White Knight 6 ∷ man White Knight 18 ∷ man Black King 63 ∷ []; to_move = White; passed = None }

abbrev to_e2 : ℕ → Move
to_e2 a = record { origin = a; target = 12; promoted = None }

knights : san_text (san_for row_11 (man White Knight 18) (to_e2 18)) true ≡ codes "Nce2"
unfolding san_for gives_file gives_rank has_rival has_file_rival is_rival is_capture is_legal is_legal_for is_pseudo_legal reaches_target
    pawn_steps pawn_double_steps pawn_takes has_side men_after survives is_en_passant in_check is_attacked reaches
    is_blocked on_rook_line on_bishop_line king_step knight_jump strictly_between pawn_captures is_occupied
knights = refl

-- row 9: a capture in passing
in_passing : san_text
    (san_for
    (record {
      men = man White King 4 ∷ man Black King 24 ∷ man White Pawn 27 ∷ man Black Pawn 28 ∷ [];
      to_move = Black;
      passed = Some 19;
    }) (man Black Pawn 28)
    (record { origin = 28; target = 19; promoted = None })) true ≡ codes "exd3"
unfolding san_for gives_file gives_rank has_rival has_file_rival is_rival is_capture is_legal is_legal_for is_pseudo_legal reaches_target
    pawn_steps pawn_double_steps pawn_takes has_side men_after survives is_en_passant in_check is_attacked reaches
    is_blocked on_rook_line on_bishop_line king_step knight_jump strictly_between pawn_captures is_occupied
in_passing = refl

-- row 12
no_white_king : start_of (codes "k7/8/8/8/8/8/8/8 x K - 0 1") ≡ Err KingCount
unfolding start_of words fields_of squares_of is_rank placement placement_fault position_of count_of has_one_king
    has_end_pawn is_end_pawn in_check is_attacked reaches is_blocked on_rook_line on_bishop_line king_step knight_jump
    strictly_between pawn_captures could_be_passed is_occupied has_man
no_white_king = refl

kings_touch : start_of (codes "k7/K7/8/8/8/8/8/8 w - - 0 1") ≡ Err OpponentInCheck
unfolding start_of words fields_of squares_of is_rank placement placement_fault position_of count_of has_one_king
    has_end_pawn is_end_pawn in_check is_attacked reaches is_blocked on_rook_line on_bishop_line king_step knight_jump
    strictly_between pawn_captures could_be_passed is_occupied has_man
kings_touch = refl

-- counts have at most four digits, and leading zeros are accepted
count : count_of (codes "0042") ≡ Some 42
unfolding count_of
count = refl

long_count : count_of (codes "10000") ≡ None
unfolding count_of
long_count = refl

-- row 11
with_origin : san_of (codes "Nc3e2+!?") ≡ Some (record { kind = Knight; file = Some 2; rank = Some 2; is_capture = false; target = 12; promoted = None })
unfolding san_of kind_at squares_at file_at rank_at takes_at promotion_at promotion_piece_at promotion_piece
with_origin = refl

promotion : san_of (codes "exd8Q#") ≡ Some (record { kind = Pawn; file = Some 4; rank = None; is_capture = true; target = 59; promoted = Some Queen })
unfolding san_of kind_at squares_at file_at rank_at takes_at promotion_at promotion_piece_at promotion_piece
promotion = refl

no_move : san_of (codes "Nz9") ≡ None
unfolding san_of kind_at squares_at file_at rank_at takes_at promotion_at promotion_piece_at promotion_piece
no_move = refl

two_ends : san_of (codes "e4+#") ≡ None
unfolding san_of kind_at squares_at file_at rank_at takes_at promotion_at promotion_piece_at promotion_piece
two_ends = refl

castling : is_castling (codes "0-0-0+!") ≡ true
castling = refl

mixed : is_castling (codes "O-0") ≡ false
mixed = refl

castling_promoted : is_castling (codes "O-O=Q") ≡ false
castling_promoted = refl
