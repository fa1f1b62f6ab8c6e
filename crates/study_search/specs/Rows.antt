-- A row of only moves: the hero's moves, each the only one that keeps the outcome, and between them the replies that lead on.
use Rattle.std.specs.Prelude.{◌≡◌, ℕ, zero, suc, true, List, [], ◌∷◌, ◌++◌}
use Rattle.std.specs.List.{AllByRecursion}
use Rattle.study_board.specs.Position.{Position}
use Rattle.study_moves.specs.declared.moves.Move.{Move}
use Rattle.study_moves.specs.Rules.{is_legal, after}
use Rattle.study_moves.specs.LegalList.{legal_list}
use Rattle.study_search.specs.declared.only_moves.Outcome.{Outcome}
use Rattle.study_search.specs.OnlyMoves.{Has, IsKey, HasOnlyMoves}

-- the first of these moves of q that leads to such a position
pub record IsFirst (P : Position → Type 0) (q : Position) (ms : List Move) (m : Move) : Type 0 where
  pub before : List Move
  pub behind : List Move
  pub among : ms ≡ before ++ m ∷ behind
  pub leads : P (after q m)
  pub first : AllByRecursion (λ k. ¬ (P (after q k))) before

-- after this reply, the first such of the legal moves, the hero has to find n only moves in a row
abbrev pub IsFirstReply : Outcome → ℕ → Position → Move → Type 0
IsFirstReply o n q r = IsFirst (HasOnlyMoves o n) q (legal_list q) r

-- n only moves in a row, with the replies between them
abbrev pub IsRow : Outcome → ℕ → Position → List Move → Type 0
IsRow o zero p row = Has o p × (row ≡ [])
IsRow o (suc zero) p row = (m : Move) × IsKey o p m × (row ≡ m ∷ [])
IsRow o (suc (suc n)) p row =
    (m : Move) × (r : Move) × (rest : List Move) × IsKey o p m × IsFirstReply o (suc n) (after p m) r
    × IsRow o (suc n) (after (after p m) r) rest × (row ≡ m ∷ r ∷ rest)

-- each move is legal after those before it
abbrev pub IsLine : Position → List Move → Type 0
IsLine p [] = Unit {0}
IsLine p (m ∷ ms) = (is_legal p m ≡ true) × IsLine (after p m) ms

-- Only a position in which the hero has to find so many only moves in a row has a row of them, and it has one.
pub record HasAtMostOneRow (o : Outcome) (n : ℕ) (p : Position) : Type 0 where
  pub found : (row : List Move) → IsRow o n p row → HasOnlyMoves o n p
  pub same : (row other : List Move) → IsRow o n p row → IsRow o n p other → row ≡ other

abbrev pub RowsAreUnique : Type 0
RowsAreUnique = (o : Outcome) (n : ℕ) (p : Position) → HasAtMostOneRow o n p
