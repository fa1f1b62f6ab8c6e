-- Not part of any public contract: the attacks on the men of a row and their moves, by the square of the man of the last slot.
use Rattle.std.specs.Prelude.{◌≡◌, ℕ, ◌<◌, ◌≤◌, Bool, not, ◌&&◌, ◌||◌, ◌==◌, List, [], ◌∷◌, ◌++◌, None, if◌then◌else◌, map, count_by}
use Rattle.std.specs.List.{list_any}
use Rattle.study_board.specs.declared.men.Side.{Side}
use Rattle.study_board.specs.declared.men.Kind.TheVariants.{King}
use Rattle.study_board.specs.declared.men.Man.{Man}
use Rattle.study_board.specs.Geometry.{rank_of, strictly_between}
use Rattle.study_board.specs.Men.{attacks_square, is_man, other_side, same_side, moved_if}
use Rattle.study_board.specs.Position.{in_check, is_empty, is_occupied}
use Rattle.study_board.specs.Sets.{has, is_slider}
use Rattle.study_moves.specs.Rules.{half_way, is_ahead, reaches_target, starting_rank}
use Rattle.study_retro.specs.declared.rows.checks.Attacker.{Attacker}
use Rattle.study_retro.specs.Still.{opposing_man, on_square}

-- the man bears on x with a further man on y
abbrev pub keeps_attack_with : List Man → ℕ → Man → ℕ → Bool
keeps_attack_with others y m x = attacks_square others m x && not (is_slider m.kind && strictly_between m.at y x)

-- the king of the side is attacked with the last man on y
abbrev pub king_attacked_with : List Man → Man → Side → ℕ → Man → Bool
king_attacked_with others last side y k = is_man side King k
    && (list_any (λ m. same_side m.side (other_side side) && keeps_attack_with others y m k.at) others
    || (same_side last.side (other_side side) && attacks_square others (opposing_man last k.at) y))

-- no two of the men share a square
abbrev pub AreOnDistinctSquares : List Man → Type 0
AreOnDistinctSquares men = (x : ℕ) → count_by (λ m. m.at == x) men ≤ 1

-- a pawn goes from a to the empty square x, by a step or a double step
abbrev pub pawn_goes : List Man → Side → ℕ → ℕ → Bool
pawn_goes men side a x =
    (is_ahead side 1 a x || ((rank_of a == starting_rank side) && is_ahead side 2 a x && is_empty men (half_way a x))) && is_empty men x

-- the man goes to the empty square x
abbrev pub goes_quietly : List Man → Man → ℕ → Bool
goes_quietly men man x = reaches_target men None man x && not (is_occupied men x)

-- a man on y stands in the way between two squares, or on the second
abbrev pub hinders : ℕ → ℕ → ℕ → Bool
hinders from to y = strictly_between from y to || (to == y)

-- the last man on y is not in the way, and no king of the side is attacked after the man has gone from the first square to the second
abbrev pub does_not_interfere : List Man → Man → Side → ℕ → ℕ → ℕ → Bool
does_not_interfere others last side from to y = not (hinders from to y || in_check (map (moved_if from to) others ++ on_square last y ∷ []) side)

-- with the last man on y some man of the side, the last or another, bears on x
abbrev pub attacked_with_last : List Man → Man → Side → ℕ → ℕ → Bool
attacked_with_last others last side x y = list_any (λ m. same_side m.side side && keeps_attack_with others y m x) others
    || (same_side last.side side && attacks_square others (opposing_man last x) y)

-- the others that do not stand on the square, by the properties that one of them has
abbrev pub AreRest : List Man → ℕ → List Man → Type 0
AreRest others from rest = (p : Man → Bool) → list_any p rest ≡ list_any (λ m. not (m.at == from) && p m) others

-- k is the square of the only king of the side among the men
abbrev pub IsOnlyKing : List Man → Side → ℕ → Type 0
IsOnlyKing men side k = (f : ℕ → Bool) → list_any (λ m. is_man side King m && f m.at) men ≡ f k

-- the square of a man on a after the man on the first square has gone to the second
abbrev pub gone_to : ℕ → ℕ → ℕ → ℕ
gone_to from to a = if a == from then to else a

-- a further man on y is not in the way of the man to x
abbrev pub does_not_block : Man → ℕ → ℕ → Bool
does_not_block m x y = not (is_slider m.kind && strictly_between m.at y x)

-- the man bears on x past men on z and y
abbrev pub keeps_attack_past : ℕ → ℕ → ℕ → Attacker → Bool
keeps_attack_past z x y b = has b.squares x && (does_not_block b.man x z && does_not_block b.man x y)

-- the men of the side, each with the squares on which it bears, by the properties of the men that bear on a square
abbrev pub AreAttackers : List Man → Side → List Attacker → Type 0
AreAttackers men side attackers = (x : ℕ) → x < 64 → (p : Man → Bool)
    → list_any (λ b. has b.squares x && p b.man) attackers ≡ list_any (λ m. (same_side m.side side && attacks_square men m x) && p m) men

-- the set has the squares from which the man, if it is of the side, bears on k
abbrev pub AreChecks : List Man → Man → Side → ℕ → ℕ → Type 0
AreChecks men man side set k = (y : ℕ) → y < 64 → has set y ≡ (same_side man.side side && attacks_square men (opposing_man man k) y)
