-- Not part of any public contract: the targets on which a move leaves the mover's king attacked, man by man.
use Rattle.std.specs.Prelude.{ℕ, Bool, not, ◌&&◌, ◌||◌, ◌==◌, List}
use Rattle.std.specs.List.{list_any}
use Rattle.study_board.specs.declared.men.Side.{Side}
use Rattle.study_board.specs.declared.men.Kind.TheVariants.{King}
use Rattle.study_board.specs.declared.men.Man.{Man}
use Rattle.study_board.specs.Geometry.{strictly_between}
use Rattle.study_board.specs.Men.{same_side, other_side, same_kind, is_man}
use Rattle.study_board.specs.Sets.{is_slider, bears_past}

-- a man of the side, not on the lifted square
abbrev pub is_other_man : Side → ℕ → Man → Bool
is_other_man by lifted m = same_side m.side by && not (m.at == lifted)

-- a man of the side bears on x once the man on `lifted` is taken away
unfoldable pub attacked_past : List Man → Side → ℕ → ℕ → Bool
attacked_past men by lifted x = list_any (λ m. is_other_man by lifted m && bears_past men lifted m x) men

-- x neither takes the man nor stands in its line to the square k
abbrev pub is_no_shield : Man → ℕ → ℕ → Bool
is_no_shield m k x = not (m.at == x) && not (is_slider m.kind && strictly_between m.at x k)

-- the man bears on the king's square k, and a move to x does not help
abbrev pub threatens : List Man → Side → ℕ → ℕ → ℕ → Man → Bool
threatens men by lifted k x m = (is_other_man by lifted m && bears_past men lifted m k) && is_no_shield m k x

unfoldable pub threatened_past : List Man → Side → ℕ → ℕ → ℕ → Bool
threatened_past men by lifted k x = list_any (threatens men by lifted k x) men

-- a king of the side, not on the lifted square, is threatened
abbrev pub king_threatened : List Man → Side → ℕ → ℕ → Man → Bool
king_threatened men side lifted x k = (is_man side King k && not (k.at == lifted)) && threatened_past men (other_side side) lifted k.at x

unfoldable pub threatened_by_others : List Man → Side → ℕ → ℕ → Bool
threatened_by_others men side lifted x = list_any (king_threatened men side lifted x) men

unfoldable pub is_unsafe : List Man → Side → Man → ℕ → Bool
is_unsafe men side man x = (same_kind man.kind King && attacked_past men (other_side side) man.at x) || threatened_by_others men side man.at x

-- the man m excludes x as a target of the man: by its own square, by the threats to it as a king of the side, or by its reach if the man is a king
unfoldable pub closes : List Man → Side → Man → ℕ → Man → Bool
closes men side man x m =
    ((same_side m.side side && (m.at == x)) || king_threatened men side man.at x m)
    || (same_kind man.kind King && (is_other_man (other_side side) man.at m && bears_past men man.at m x))
