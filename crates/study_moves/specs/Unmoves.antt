-- Quiet moves, which capture no man and promote none, and the positions before them.
use Rattle.std.specs.Prelude.{◌≡◌, ℕ, ◌<◌, Bool, true, false, not, ◌&&◌, ◌||◌, ◌==◌, List, None, if◌then◌else◌}
use Rattle.std.specs.List.{list_any, filter}
use Rattle.study_board.specs.declared.men.Side.{Side}
use Rattle.study_board.specs.declared.men.Side.TheVariants.{White, Black}
use Rattle.study_board.specs.declared.men.Kind.TheVariants.{King}
use Rattle.study_board.specs.declared.men.Man.{Man}
use Rattle.study_board.specs.Geometry.{rank_of}
use Rattle.study_board.specs.Men.{other_side, is_man, attacks_square, is_pawn}
use Rattle.study_board.specs.Position.{Position, IsValid, is_occupied, is_empty, insert_man}
use Rattle.study_board.specs.Sets.{bears_past}
use Rattle.study_moves.specs.declared.moves.Move.{Move}
use Rattle.study_moves.specs.Rules.{is_legal, after, is_ahead, starting_rank, half_way, survives}
use Rattle.study_moves.specs.EnPassant.{without_passed}
use Rattle.study_moves.specs.KingSafety.{threatened_past}

-- a move that captures no man, promotes none, and is made while no square is passed
abbrev pub IsQuiet : Position → Move → Type 0
IsQuiet p m = (is_occupied p.men m.target ≡ false) × (m.promoted ≡ None)

-- p is a valid position without a passed square, and the legal quiet move m leads from it to q, passed squares left out
pub record LeadsQuietly (p : Position) (m : Move) (q : Position) : Type 0 where
  pub valid : IsValid p
  pub unpassed : p.passed ≡ None
  pub legal : is_legal p m ≡ true
  pub quiet : IsQuiet p m
  pub leads : without_passed (after p m) ≡ without_passed q

-- some quiet move leads from p to q
pub record IsEarlier (q p : Position) : Type 0 where
  pub by : Move
  pub leads : LeadsQuietly p by q

-- the quiet move can have led to q
pub record CanHaveLed (q : Position) (m : Move) : Type 0 where
  pub from : Position
  pub leads : LeadsQuietly from m q

-- the man on another square
abbrev pub set_back : Man → ℕ → Man
set_back man a = record { side = man.side; kind = man.kind; at = a }

-- the men, and the position, before a quiet move of the man from a square (not part of any public contract)
unfoldable pub men_before : List Man → Man → ℕ → List Man
men_before men man a = insert_man (set_back man a) (filter (survives None man a) men)

abbrev pub position_before : Position → Man → ℕ → Position
position_before q man a = record { men = men_before q.men man a; to_move = other_side q.to_move; passed = None }

abbrev pub first_rank : Side → ℕ
first_rank White = 0
first_rank Black = 7

-- a pawn comes to x from a by a step or a double step
unfoldable pub pawn_comes : List Man → Side → ℕ → ℕ → Bool
pawn_comes men side x a =
    ((is_ahead side 1 a x && not (rank_of a == first_rank side))
    || ((rank_of a == starting_rank side) && is_ahead side 2 a x && is_empty men (half_way a x)))
    && is_empty men a

-- `pawn_comes`, by the squares one and two ranks back
abbrev pub pawn_came : List Man → Bool → Bool → ℕ → ℕ → ℕ → Bool
pawn_came men inside starts one two a =
    ((inside && (one == a)) || (starts && (two == a) && is_empty men one)) && is_empty men a

-- the man comes to its square from an empty square, by the moves of its kind
unfoldable pub comes : List Man → Man → ℕ → Bool
comes men man a = if is_pawn man then pawn_comes men man.side man.at a else attacks_square men man a && is_empty men a

-- with the man back on a, the king k of the side is attacked, by that man or by another
abbrev pub king_was_attacked : List Man → Side → Man → ℕ → Man → Bool
king_was_attacked men side man a k =
    (is_man side King k && not (k.at == man.at))
    && (bears_past men man.at (set_back man a) k.at || threatened_past men (other_side side) man.at k.at a)

unfoldable pub was_check : List Man → Side → Man → ℕ → Bool
was_check men side man a = list_any (king_was_attacked men side man a) men

-- the man can have come from a by a quiet move: before it, the king of the side now to move was safe
abbrev pub is_unmove_origin : List Man → Side → Man → ℕ → Bool
is_unmove_origin men side man a = comes men man a && not (was_check men side man a)

-- the quiet move of a man from a square to its own square
abbrev pub move_from : Man → ℕ → Move
move_from man a = record { origin = a; target = man.at; promoted = None }

-- a move of the man from a square that passes the test
abbrev pub IsMoveFrom : Man → (ℕ → Bool) → Move → Type 0
IsMoveFrom man came m = (a : ℕ) × (a < 64) × (came a ≡ true) × (m ≡ move_from man a)

abbrev pub IsLastMove : Position → Man → Move → Type 0
IsLastMove q man m = IsMoveFrom man (λ a. is_unmove_origin q.men q.to_move man a) m
