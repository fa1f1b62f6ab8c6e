-- Not part of any public contract: the quiet moves of a position, and their results.
use Rattle.std.specs.Prelude.{◌≡◌, ℕ, ◌≤◌, Bool, true, false, not, ◌&&◌, ◌||◌, ◌==◌, ◌⊎◌, if◌then◌else◌, List, [], ◌∷◌, None, Some}
use Rattle.std.specs.List.{list_any}
use Rattle.study_board.specs.declared.men.Side.{Side}
use Rattle.study_board.specs.declared.men.Side.TheVariants.{White, Black}
use Rattle.study_board.specs.declared.men.Kind.{Kind}
use Rattle.study_board.specs.declared.men.Kind.TheVariants.{King, Queen, Rook, Bishop, Knight, Pawn}
use Rattle.study_board.specs.declared.men.Man.{Man}
use Rattle.study_board.specs.Geometry.{rank_of}
use Rattle.study_board.specs.Men.{is_attacked, is_man, is_pawn, other_side, same_kind, same_side}
use Rattle.study_board.specs.Position.{Position, in_check}
use Rattle.study_board.specs.Sets.{has}
use Rattle.study_moves.specs.declared.moves.Move.{Move}
use Rattle.study_moves.specs.Game.{IsMate}
use Rattle.study_moves.specs.Rules.{is_legal, after, reaches_last_rank}
use Rattle.study_moves.specs.AnyOrder.{is_safe_target}
use Rattle.study_moves.specs.Unmoves.{IsQuiet}
use Rattle.study_values.specs.declared.value.Value.TheVariants.{Win}
use Rattle.study_levels.specs.Numbered.{Numbered, label_by}

-- the rank from which a pawn promotes
abbrev pub rank_before_last : Side → ℕ
rank_before_last White = 6
rank_before_last Black = 1

-- each legal move is quiet
abbrev pub HasOnlyQuiet : Position → Type 0
HasOnlyQuiet q = (m : Move) → is_legal q m ≡ true → IsQuiet q m

-- the side to move is not mated, and each of its moves is quiet
abbrev pub IsQuietPosition : Position → Type 0
IsQuietPosition q = (IsMate q → ⊥) × HasOnlyQuiet q

-- the move of the man to x, without a promotion
abbrev pub move_to : Man → ℕ → Move
move_to man x = record { origin = man.at; target = x; promoted = None }

-- the move of the man to x with a promotion
abbrev pub promotion_to : Man → ℕ → Kind → Move
promotion_to man x kind = record { origin = man.at; target = x; promoted = Some kind }

-- the four promotions of the man on x
abbrev pub promotions_to : Man → ℕ → List Move
promotions_to man x = promotion_to man x Queen ∷ promotion_to man x Rook ∷ promotion_to man x Bishop ∷ promotion_to man x Knight ∷ []

-- a pawn one step from its last rank
abbrev pub is_about_to_promote : Man → Bool
is_about_to_promote man = is_pawn man && (rank_of man.at == rank_before_last man.side)

-- the man can go to x if no capture in passing is legal, and does not promote there
abbrev pub GoesWithoutPromotion : Position → Man → ℕ → Type 0
GoesWithoutPromotion q man x = (is_safe_target q.men q.to_move man x ≡ true) × (reaches_last_rank man x ≡ false)

-- after the move the other side wins within k plies by the cells
abbrev pub IsWonAfter : Numbered Position → List ℕ → ℕ → Position → Move → Type 0
IsWonAfter g cells k q by = (m : ℕ) × (label_by g cells (after q by) ≡ Win m) × (m ≤ k)

-- the other side wins after each quiet move; and after each quiet move of the man
abbrev pub QuietMovesLose : Numbered Position → List ℕ → ℕ → Position → Type 0
QuietMovesLose g cells k q = (m : Move) → is_legal q m ≡ true → IsQuiet q m → IsWonAfter g cells k q m

abbrev pub QuietMovesLoseBy : Numbered Position → List ℕ → ℕ → Position → Man → Type 0
QuietMovesLoseBy g cells k q man =
    (x : ℕ) → is_legal q (move_to man x) ≡ true → IsQuiet q (move_to man x) → IsWonAfter g cells k q (move_to man x)

-- no man of the side bears on a man of the other side, none of its pawns is a step from its last rank, and it is not in check
pub record AreQuietPositions (men : List Man) (side : Side) : Type 0 where
  pub spares : list_any (λ m. same_side m.side (other_side side) && is_attacked men side m.at) men ≡ false
  pub keeps : list_any (λ m. is_man side Pawn m && (rank_of m.at == rank_before_last side)) men ≡ false
  pub safe : in_check men side ≡ false

-- the man on another square; and a man of the other side there, which bears on a square exactly if the man bears on x from it
abbrev pub on_square : Man → ℕ → Man
on_square man x = record { side = man.side; kind = man.kind; at = x }

abbrev pub opposing_man : Man → ℕ → Man
opposing_man man x = record { side = other_side man.side; kind = man.kind; at = x }

-- if the man bears on the other one, the men are not still: that one is of the other side, and is the king if it is not the man's turn
abbrev pub is_relevant_target : Man → Side → Man → Bool
is_relevant_target man side m = not (same_side m.side man.side) && (same_side man.side side || same_kind m.kind King)

-- on x the man promotes with its next step, if it is the man's turn; or x is in the set, so that the man can be taken
abbrev pub is_capturable_or_promotes : Man → Side → ℕ → ℕ → Bool
is_capturable_or_promotes man side attacked x = if same_side man.side side then is_pawn man && (rank_of x == rank_before_last side) else has attacked x

-- the last man is a king, or a man of the side bears on another of the others, or promotes with its next step, or the side is in check
abbrev pub has_forcing_move : List Man → Man → Side → ℕ → ℕ → Bool
has_forcing_move others last side ours theirs = same_kind last.kind King
    || list_any (λ m. same_side m.side (other_side side) && has ours m.at) others
    || list_any (λ m. is_man side Pawn m && (rank_of m.at == rank_before_last side)) others
    || list_any (λ m. is_man side King m && has theirs m.at) others

-- the men are still, or the other king could be taken, so that they are not a valid position
abbrev pub AreStillOrNone : List Man → Side → Type 0
AreStillOrNone men side = AreQuietPositions men side ⊎ (in_check men (other_side side) ≡ true)

-- the side to move has a legal move
abbrev pub HasMove : Position → Type 0
HasMove q = (m : Move) × (is_legal q m ≡ true)
