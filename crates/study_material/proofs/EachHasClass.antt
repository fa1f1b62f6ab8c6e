-- Every position has a class.
use Rattle.std.proofs.Common.{◌≡◌, ℕ, ◌≤◌, Bool, true, false, ◌&&◌, List, [], ◌∷◌, length, refl, sym, ◌∙◌, ap, arith, filter}
use Rattle.std.specs.List.{All}
use Rattle.std.proofs.lemmas.Bool.{false≢true, and_parts}
use Rattle.study_board.specs.declared.men.Man.{Man}
use Rattle.study_board.specs.declared.men.Side.{Side}
use Rattle.study_board.specs.declared.men.Side.TheVariants.{White, Black}
use Rattle.study_board.specs.declared.men.Kind.{Kind}
use Rattle.study_board.specs.declared.men.Kind.TheVariants.{King, Queen, Rook, Bishop, Knight, Pawn}
use Rattle.study_board.specs.Men.{same_kind}
use Rattle.study_board.specs.Position.{Position, IsValid}
use Rattle.study_material.specs.declared.class.Class.{Class}
use Rattle.study_material.specs.Lists.{Lists, of, lists, ordered_lists, is_other_than_king}
use Rattle.study_material.specs.Class.{lists_of, class_list, same_lists, IsOf}
use Rattle.study_material.proofs.Classes.{first, same_lists-equal}
use Rattle.study_material.proofs.MenBesideKings.{lists-others, none_king, few_others}

abbrev has_class : Lists → Bool
has_class l = same_lists (lists_of (first l class_list)) l

a_class : (l : Lists) → has_class l ≡ true → (c : Class) × (lists_of c ≡ l)
a_class l e = (first l class_list, same_lists-equal (lists_of (first l class_list)) l e)

-- a test of all kinds except the king
abbrev all_officers : (Kind → Bool) → Bool
all_officers p = p Queen && (p Rook && (p Bishop && (p Knight && p Pawn)))

at_officer : (p : Kind → Bool) → all_officers p ≡ true → (k : Kind) → same_kind k King ≡ false → p k ≡ true
at_officer p e King h = absurd (false≢true (sym h))
at_officer p e Queen h = (and_parts _ _ e).0
at_officer p e Rook h = (and_parts (p Rook) (p Bishop && (p Knight && p Pawn)) (and_parts (p Queen) _ e).1).0
at_officer p e Bishop h = (and_parts (p Bishop) (p Knight && p Pawn) (and_parts (p Rook) (p Bishop && (p Knight && p Pawn)) (and_parts (p Queen) _ e).1).1).0
at_officer p e Knight h =
    (and_parts (p Knight) (p Pawn)
    (and_parts (p Bishop) (p Knight && p Pawn)
    (and_parts (p Rook) (p Bishop && (p Knight && p Pawn)) (and_parts (p Queen) _ e).1).1).1).0
at_officer p e Pawn h =
    (and_parts (p Knight) (p Pawn)
    (and_parts (p Bishop) (p Knight && p Pawn)
    (and_parts (p Rook) (p Bishop && (p Knight && p Pawn)) (and_parts (p Queen) _ e).1).1).1).1

abbrev man : Side → Kind → ℕ → Man
man s k x = record { side = s; kind = k; at = x }

one_has : (s : Side) (x : ℕ) → all_officers (λ k. has_class (ordered_lists (lists (man s k x ∷ [])))) ≡ true
one_has White x = refl
one_has Black x = refl

two_have : (s t : Side) (x y : ℕ) → all_officers (λ k. all_officers (λ l. has_class (ordered_lists (lists (man s k x ∷ man t l y ∷ []))))) ≡ true
two_have White White x y = refl
two_have White Black x y = refl
two_have Black White x y = refl
two_have Black Black x y = refl

class_of_others : (xs : List Man) → length xs ≤ 2 → All (λ m. same_kind m.kind King ≡ false) xs → (c : Class) × (lists_of c ≡ ordered_lists (lists xs))
class_of_others [] l h = a_class (of [] []) refl
class_of_others (a ∷ []) l h =
    a_class (ordered_lists (lists (a ∷ []))) (at_officer (λ k. has_class (ordered_lists (lists (man a.side k a.at ∷ []))))
    (one_has a.side a.at) a.kind (h 0 a (omega arith)))
class_of_others (a ∷ b ∷ []) l h =
    a_class (ordered_lists (lists (a ∷ b ∷ [])))
    (at_officer (λ k. has_class (ordered_lists (lists (a ∷ man b.side k b.at ∷ []))))
    (at_officer (λ j. all_officers (λ k. has_class (ordered_lists (lists (man a.side j a.at ∷ man b.side k b.at ∷ [])))))
    (two_have a.side b.side a.at b.at) a.kind (h 0 a (omega arith)))
    b.kind (h 1 b (omega arith)))
class_of_others (a ∷ b ∷ x ∷ xs) l h = absurd (omega arith)

pub class_exists : (p : Position) → IsValid p → (c : Class) × IsOf c p
class_exists p v =
    let r = class_of_others (filter is_other_than_king p.men) (few_others p v) (none_king p.men) in
    (r.0, r.1 ∙ ap (λ l. ordered_lists l) (lists-others p.men))
