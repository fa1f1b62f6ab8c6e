-- The legal move that a SAN text means.
use Rattle.std.specs.Prelude.{ℕ, Bool, true, false, not, ◌&&◌, ◌||◌, ◌==◌, List, [], ◌∷◌, filter, Option, Some, None, Result, Ok, Err, if◌then◌else◌}
use Rattle.std.specs.Option.{option_map_or}
use Rattle.study_board.specs.declared.men.Kind.{Kind}
use Rattle.study_board.specs.declared.men.Man.{Man}
use Rattle.study_board.specs.Geometry.{file_of, rank_of}
use Rattle.study_board.specs.Men.{same_kind, is_pawn}
use Rattle.study_board.specs.Position.{Position, man_at}
use Rattle.study_moves.specs.declared.moves.Move.{Move}
use Rattle.study_notation.specs.declared.san.San.{San}
use Rattle.study_notation.specs.declared.fault.SanFault.{SanFault}
use Rattle.study_notation.specs.declared.fault.SanFault.TheVariants.{NotSan, CastlingLeftOut, NoSuchMove, Ambiguous}
use Rattle.study_notation.specs.SanParts.{san_of, is_castling}
use Rattle.study_moves.specs.LegalList.{legal_list, is_capture}

abbrev pub same_promotion : Option Kind → Option Kind → Bool
same_promotion None None = true
same_promotion (Some a) (Some b) = same_kind a b
same_promotion _ _ = false

-- a given number agrees with this one; a missing one always does
abbrev pub fits_given : Option ℕ → ℕ → Bool
fits_given None n = true
fits_given (Some g) n = g == n

-- a written `x` requires a capture, and a pawn's capture requires the `x`
abbrev pub fits_takes : Bool → Bool → Bool → Bool
fits_takes written capture pawn = if capture then (written || not pawn) else not written

-- the parts agree with a move of this man
unfoldable pub agrees : Position → San → Man → Move → Bool
agrees p s man m =
    same_kind man.kind s.kind && (m.target == s.target) && fits_given s.file (file_of m.origin) && fits_given s.rank (rank_of m.origin)
    && same_promotion s.promoted m.promoted && fits_takes s.is_capture (is_capture p man m.target) (is_pawn man)

unfoldable pub matches : Position → San → Move → Bool
matches p s m = option_map_or (λ man. agrees p s man m) (man_at p.men m.origin) false

abbrev pub only_match : List Move → Result Move SanFault
only_match [] = Err NoSuchMove
only_match (m ∷ []) = Ok m
only_match (m ∷ n ∷ more) = Err Ambiguous

abbrev pub move_meant : Position → List ℕ → Option San → Result Move SanFault
move_meant p text (Some s) = only_match (filter (matches p s) (legal_list p))
move_meant p text None = Err (if is_castling text then CastlingLeftOut else NotSan)

-- the only legal move that matches the text, or why there is none
unfoldable pub move_of : Position → List ℕ → Result Move SanFault
move_of p text = move_meant p text (san_of text)
