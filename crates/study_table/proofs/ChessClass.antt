-- The laws of a class's numbers, for chess.
use Rattle.std.proofs.Common.{◌≡◌, ℕ, ◌<◌, ◌⊎◌, inl, inr, Bool, true, false, cond, List, [], ◌∷◌, length, get_or}
use Rattle.std.proofs.Common.{slice_index, Option, Some, None, refl, sym, ◌∙◌, subst, ap, arith, zero, suc}
use Rattle.std.specs.List.{All, Contains}
use Rattle.std.proofs.lemmas.Bool.{false≢true}
use Rattle.study_board.specs.Position.{Position}
use Rattle.study_moves.specs.Game.{IsMate}
use Rattle.study_moves.specs.Alike.{AreAlike, Leads}
use Rattle.study_material.specs.declared.class.Class.{Class}
use Rattle.study_material.specs.Lists.{Lists, lists, ordered_lists}
use Rattle.study_material.specs.Class.{lists_of, same_lists, class_list, IsOf}
use Rattle.study_material.specs.Needs.{LeadsOn, needs_of}
use Rattle.study_material.proofs.Classes.{same_lists-self, same_lists-equal, lists_of-injective}
use Rattle.study_material.proofs.ClassNames.{Contains-class}
use Rattle.study_material.proofs.EachHasClass.{class_exists}
use Rattle.study_material.proofs.MovesOn.{moves_lead_on}
use Rattle.study_values.specs.Number.{cells_of}
use Rattle.study_index.specs.Laws.{AreAlikeIn}
use Rattle.study_index.proofs.ClassLaws.{below, entry, numbered, same_class, same_index, alike_back, alike_move, same_game}
use Rattle.study_values.specs.Cells.{distance_of, value_of}
use Rattle.study_table.specs.Class.{IsClass}
use Rattle.study_index.specs.Computed.{position_numbered}
use Rattle.study_values.specs.Index.{index_of}
use Rattle.study_table.specs.Table.{Table, table_of, IsClosed}
use Rattle.study_material.specs.Class.{is_of, class_in, class_found}
use Rattle.study_material.proofs.Classes.{IsOf-is_of, is_of-IsOf}
use Rattle.study_table.specs.Game.{value_by, value_in}
use Rattle.study_index.proofs.ComputedIndex.{IsIndex-index_of, index_of-only, decoded_of_numbered, numbered_of_decoded}
use Rattle.study_table.proofs.LevelLemmas.{distance-byte}

-- positions that are alike have the same pair of lists
pub same_ordered : (p q : Position) → AreAlike p q → ordered_lists (lists p.men) ≡ ordered_lists (lists q.men)
same_ordered p q h = let d = class_exists p h.left in sym d.1 ∙ same_class p q d.0 h d.1

class_in-is : (cs : List Class) (c : Class) (l : Lists) → Contains cs c → lists_of c ≡ l → class_in cs l ≡ c
class_in-is [] c l h e = absurd (omega (arith, h.1))
class_in-is (d ∷ cs) c l h e = by_head (same_lists (lists_of d) l) refl (rest h.0 h.1 h.2 (λ k. class_in-is cs c l k e))
  where
    rest : (i : ℕ) → i < length (d ∷ cs) → get_or (d ∷ cs) i c ≡ c → (Contains cs c → class_in cs l ≡ c) → (d ≡ c) ⊎ (class_in cs l ≡ c)
    rest zero b f g = inl f
    rest (suc i) b f g = inr (g (i, omega arith, f))

    by_head : (b : Bool) → same_lists (lists_of d) l ≡ b → (d ≡ c) ⊎ (class_in cs l ≡ c) → cond b d (class_in cs l) ≡ c
    by_head true f g = lists_of-injective d c (same_lists-equal (lists_of d) l f ∙ sym e)
    by_head false f (inl s) =
        absurd
        (false≢true (sym f ∙ subst (λ (x : Class). same_lists (lists_of x) l ≡ true) (sym s)
        (subst (λ (m : Lists). same_lists (lists_of c) m ≡ true) e (same_lists-self (lists_of c)))))
    by_head false f (inr g) = g

pub class_found-is : (c : Class) (p : Position) → IsOf c p → class_found p ≡ c
unfolding class_found
class_found-is c p h = class_in-is class_list c (ordered_lists (lists p.men)) (Contains-class c) h

-- the value in a loaded table of a position of its class
pub value_in-held : (held : List (Option Table)) (c : Class) (t : Table) (p : Position) → IsOf c p
    → table_of held c ≡ Some t → value_in held p ≡ value_of (slice_index t.cells (index_of p))
value_in-held held c t p h e = ap (λ (d : Class). value_by (table_of held d) p) (class_found-is c p h) ∙ ap (λ (o : Option Table). value_by o p) e

byte_near : (cells : List ℕ) → All (λ c. c < 256) cells → (n : ℕ) → slice_index cells n < 256
byte_near [] h n = omega arith
byte_near (x ∷ xs) h zero = h zero 0 (omega arith)
byte_near (x ∷ xs) h (suc n) = byte_near xs (λ k d l. h (suc k) d (omega arith)) n

pub value_in-near : (held : List (Option Table)) → IsClosed held → (p : Position) → distance_of (value_in held p) < 255
value_in-near held closed p = by_table (table_of held (class_found p)) refl
  where
    by_table : (o : Option Table) → table_of held (class_found p) ≡ o → distance_of (value_by o p) < 255
    by_table None e = omega arith
    by_table (Some t) e = let b = byte_near t.cells (closed.complete (class_found p) t e).bytes (index_of p) in
        distance-byte (slice_index t.cells (index_of p)) (omega arith)

of_class_after : (c : Class) (p q : Position) → AreAlike p q → IsOf c p
    ⊎ ((d : Class) × Contains (needs_of c) d × IsOf d p) → IsOf c q
    ⊎ ((d : Class) × Contains (needs_of c) d × IsOf d q)
of_class_after c p q h (inl k) = inl (same_class p q c h k)
of_class_after c p q h (inr k) = inr (k.0, k.1, same_class p q k.0 h k.2)

pub chess_class : (c : Class) (held : List (Option Table)) → IsClosed held
    → IsClass Leads IsMate (λ p. LeadsOn c p) (is_of c) index_of (value_in held) (position_numbered c) (cells_of c) (AreAlikeIn c)
chess_class c held closed = record {
  stuck = λ p q m l. m.1 l.0 l.1;
  below = λ n p e. below c n p (decoded_of_numbered c n p e);
  decoded = λ n p e. (
      let h = entry c n p (decoded_of_numbered c n p e) in
      (record { valid = h.valid; of_class = inl h.of_class }, is_of-IsOf c p h.of_class, sym (index_of-only p n h.valid h.index)));
  numbered =
      λ p k e. (let h = numbered c p (index_of p) k.valid (IsOf-is_of c p e) (IsIndex-index_of p k.valid) in
      (h.0, numbered_of_decoded c (index_of p) h.0 h.1, h.2));
  closed = λ p q k e l. moves_lead_on c p q k.valid (IsOf-is_of c p e) l;
  back = alike_back c;
  move = alike_move c;
  mated = λ p q h m. (same_game p q h.alike).mate.0 m;
  same_home = λ p q k h. ap (λ (l : Lists). same_lists (lists_of c) l) (same_ordered p q h.alike);
  same_index = λ p q k e h. index_of-only q (index_of p) h.alike.right (same_index c p q (index_of p) h (IsOf-is_of c p e) (IsIndex-index_of p k.valid));
  same_known = λ p q k h. record { valid = h.alike.right; of_class = of_class_after c p q h.alike k.of_class };
  near_outside = λ p k e. value_in-near held closed p;
}
