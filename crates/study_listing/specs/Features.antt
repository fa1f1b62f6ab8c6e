-- What is looked for in the row of only moves that is shown with a position.
use Rattle.std.specs.Prelude.{◌≡◌, Bool, true, false, ◌⊎◌, List, [], ◌∷◌, Option, Some, None, is_some}
use Rattle.std.specs.List.{list_any}
use Rattle.study_board.specs.Position.{Position}
use Rattle.study_moves.specs.declared.moves.Move.{Move}
use Rattle.study_moves.specs.Rules.{has_side, after}
use Rattle.study_moves.specs.Game.{IsLegal, IsStalemate}
use Rattle.study_values.specs.declared.value.Value.{Value}
use Rattle.study_values.specs.Game.{IsValueOf}
use Rattle.study_zugzwang.specs.Zugzwang.{IsZugzwang}
use Rattle.study_search.specs.Themes.{is_underpromoted}
use Rattle.study_listing.specs.declared.features.Feature.{Feature}
use Rattle.study_listing.specs.declared.features.Feature.TheVariants.{Underpromotion, Offer, Zugzwang, Stalemate}
use Rattle.study_listing.specs.Facts.{outcome_by, IsMainLine}

-- some legal reply takes the man that moved, in passing too: no man of the mover is left on the square that it reached
abbrev pub CanBeTaken : Position → Move → Type 0
CanBeTaken p m = (r : Move) × IsLegal (after p m) r × (has_side (after (after p m) r).men p.to_move m.target ≡ false)

-- the hero's move is such
abbrev pub MoveHas : Feature → Position → Move → Type 0
MoveHas Underpromotion p m = is_underpromoted m.promoted ≡ true
MoveHas Offer p m = CanBeTaken p m
MoveHas Zugzwang p m = IsZugzwang (after p m)
MoveHas Stalemate p m = IsStalemate (after p m)

-- some move of the hero in the row is such: his are the first, the third, and so on, and between them are the replies
abbrev pub RowHas : Feature → Position → List Move → Type 0
RowHas f p [] = ⊥
RowHas f p (m ∷ []) = MoveHas f p m
RowHas f p (m ∷ r ∷ row) = MoveHas f p m ⊎ RowHas f (after (after p m) r) row

-- each wanted feature is in the row
abbrev pub RowHasAll : List (Option Feature) → Position → List Move → Type 0
RowHasAll [] p row = Unit {0}
RowHasAll (None ∷ ws) p row = RowHasAll ws p row
RowHasAll (Some f ∷ ws) p row = RowHas f p row × RowHasAll ws p row

-- the row of only moves that a study of the position shows as its main line
abbrev pub IsShownRow : Position → List Move → Type 0
IsShownRow p row = (v : Value) × IsValueOf p v × IsMainLine p (outcome_by v) row

-- some feature is wanted
abbrev pub is_on_row : List (Option Feature) → Bool
is_on_row ws = list_any is_some ws

-- the row that is shown has them all, if some are wanted
abbrev pub HasWantedRow : List (Option Feature) → Position → Type 0
HasWantedRow ws p = is_on_row ws ≡ true → (row : List Move) × IsShownRow p row × RowHasAll ws p row
