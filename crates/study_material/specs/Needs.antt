-- The classes that one move can lead to.
use Rattle.std.specs.Prelude.{◌≡◌, ◌↔◌, ◌⊎◌, ℕ, ◌+◌, ◌*◌, zero, suc, Bool, true, not, nat_lt, List, [], ◌∷◌, ◌++◌, length, map, filter, if◌then◌else◌}
use Rattle.std.specs.List.{list_any, list_all, flat_map, fold, count_by, Contains}
use Rattle.study_board.specs.declared.men.Kind.{Kind}
use Rattle.study_board.specs.declared.men.Kind.TheVariants.{Queen, Rook, Bishop, Knight, Pawn}
use Rattle.study_board.specs.Men.{same_kind}
use Rattle.study_board.specs.Position.{Position, IsValid}
use Rattle.study_moves.specs.Alike.{Leads}
use Rattle.study_material.specs.declared.class.Class.{Class}
use Rattle.study_material.specs.Lists.{Lists, of, put_kind, lists_exchanged, ordered_lists}
use Rattle.study_material.specs.Class.{lists_of, class_list, same_lists, IsOf}

-- the number of pawns
abbrev pub pawns_of : List Kind → ℕ
pawns_of xs = count_by (λ k. same_kind k Pawn) xs

-- the sort key: the number of men, then the number of pawns
abbrev pub size : Class → ℕ
size c = 8 * (length (lists_of c).white + length (lists_of c).black) + (pawns_of (lists_of c).white + pawns_of (lists_of c).black)

-- a class inserted after those of no greater size
abbrev pub put_class : Class → List Class → List Class
put_class c [] = c ∷ []
put_class c (d ∷ ds) = if nat_lt (size c) (size d) then c ∷ d ∷ ds else d ∷ put_class c ds

-- all classes, by number of men, number of pawns, index in the class list
unfoldable pub by_size : List Class
by_size = fold (λ ds c. put_class c ds) [] class_list

-- for each of the kinds that pass, the list without one of them
abbrev pub without_one : (Kind → Bool) → List Kind → List (List Kind)
without_one p [] = []
without_one p (x ∷ xs) = if p x then xs ∷ map (λ l. x ∷ l) (without_one p xs) else map (λ l. x ∷ l) (without_one p xs)

abbrev pub any_kind : Kind → Bool
any_kind k = true

abbrev pub is_pawn_kind : Kind → Bool
is_pawn_kind k = same_kind k Pawn

abbrev pub no_pawn : Kind → Bool
no_pawn k = not (is_pawn_kind k)

abbrev pub officers : List Kind
officers = Queen ∷ Rook ∷ Bishop ∷ Knight ∷ []

-- the lists with a pawn promoted
abbrev pub lists_promoted : List Kind → List (List Kind)
lists_promoted xs = flat_map (λ l. map (λ k. put_kind k l) officers) (without_one is_pawn_kind xs)

-- each list of the first paired with each of the second
abbrev pub pairs : List (List Kind) → List (List Kind) → List Lists
pairs xs ys = flat_map (λ x. map (λ y. of x y) ys) xs

-- after one capture, one promotion, or one promotion that captures a man other than a pawn, by White
abbrev pub reached_by_white : Lists → List Lists
reached_by_white l =
    pairs (l.white ∷ []) (without_one any_kind l.black)
    ++ pairs (lists_promoted l.white) (l.black ∷ [])
    ++ pairs (lists_promoted l.white) (without_one no_pawn l.black)

-- the lists that are reached by a move of either side
abbrev pub reached_lists : Lists → List Lists
reached_lists l = reached_by_white l ++ map lists_exchanged (reached_by_white (lists_exchanged l))

-- the lists that are reached, Black's list exchanged with White's if it comes first
unfoldable pub ordered_reached : Class → List Lists
ordered_reached c = map ordered_lists (reached_lists (lists_of c))

-- the lists of the class are among these
abbrev pub has_lists : List Lists → Class → Bool
has_lists ls d = list_any (λ l. same_lists l (lists_of d)) ls

-- the classes that one capture, one promotion, or both together, leads to
unfoldable pub needs_of : Class → List Class
needs_of c = filter (has_lists (ordered_reached c)) by_size

-- n steps lead from one class to the other, each to a class that is needed
abbrev pub Reaches : ℕ → Class → Class → Type 0
Reaches zero c d = c ≡ d
Reaches (suc n) c d = (e : Class) × Contains (needs_of c) e × Reaches n e d

-- d is c, or c needs it, directly or through others
abbrev pub IsNeeded : Class → Class → Type 0
IsNeeded c d = (n : ℕ) × Reaches n c d

abbrev pub is_in : List Class → Class → Bool
is_in ds d = list_any (λ c. same_lists (lists_of c) (lists_of d)) ds

-- the class and all classes that it needs, each once, by number of men, number of pawns, index in the class list
pub record IsOrder (c : Class) (ds : List Class) : Type 0 where
  pub each : (d : Class) → Contains ds d ↔ IsNeeded c d
  pub ascending : ds ≡ filter (is_in ds) by_size

-- a needed class is smaller, so it comes before the class in any order by size
abbrev pub NeedsComeFirst : Type 0
NeedsComeFirst = (c : Class) → list_all (λ d. nat_lt (size d) (size c)) (needs_of c) ≡ true

-- a valid position of the class, or of a class that it needs
pub record LeadsOn (c : Class) (q : Position) : Type 0 where
  pub valid : IsValid q
  pub of_class : IsOf c q ⊎ ((d : Class) × Contains (needs_of c) d × IsOf d q)

-- the positions that legal moves lead to
abbrev pub MovesLeadOn : Type 0
MovesLeadOn = (c : Class) (p q : Position) → IsValid p → IsOf c p → Leads p q → LeadsOn c q

-- the position is of the class, or of one that needs it, directly or through others
abbrev pub NeedsClass : Position → Class → Type 0
NeedsClass p d = (c : Class) × IsOf c p × IsNeeded c d
