-- What can come of a later evaluation could have come before the first.
use Rattle.std.proofs.Common.{◌≡◌, ℕ, zero, suc, true, false, Result, Ok, Err, IfErr, ◌↔◌, inl, inr, refl, sym, ap, subst, ◌∙◌}
use Rattle.std.specs.Prelude.{IsErrOf}
use Rattle.study_board.specs.Position.{Position, IsValid}
use Rattle.study_moves.specs.declared.moves.Move.{Move}
use Rattle.study_moves.specs.Rules.{is_legal, after}
use Rattle.study_material.specs.declared.class.Class.{Class}
use Rattle.study_material.specs.Class.{IsOf}
use Rattle.study_material.specs.Needs.{Reaches, IsNeeded, NeedsClass}
use Rattle.study_material.proofs.ClassOfImage.{ordered_lists-image}
use Rattle.study_material.proofs.Classes.{lists_of-injective}
use Rattle.study_material.proofs.EachHasClass.{class_exists}
use Rattle.study_material.proofs.MovesOn.{moves_lead_on}
use Rattle.study_values.specs.declared.fault.SourceFault.{SourceFault}
use Rattle.study_values.specs.declared.value.Value.{Value}
use Rattle.study_values.specs.declared.values.ProbeFault.{ProbeFault}
use Rattle.study_values.specs.declared.values.ProbeFault.TheVariants.{NoTable, TableRead, PageDamaged}
use Rattle.study_values.specs.Values.{IsNotDamage, ValueSource}
use Rattle.study_board.specs.declared.symmetry.Symmetry.{Symmetry}
use Rattle.study_board.specs.Symmetry.{image}
use Rattle.study_index.specs.Decoded.{IsDecoded}
use Rattle.study_index.proofs.ClassLaws.{entry}
use Rattle.study_zugzwang.specs.Zugzwang.{handed_on}
use Rattle.study_search.specs.Faults.{CanReport, HasSameTables}

pub same_on : {V : Type 0} {source : ValueSource V} {old mid new : V}
    → HasSameTables source old mid → HasSameTables source mid new → HasSameTables source old new
same_on h k = record { same = λ c. k.same c ∙ h.same c; fails = λ c f m. h.fails c f (k.fails c f m) }

-- ---- the classes that are needed

needed-on : (n : ℕ) (c d e : Class) → Reaches n c d → IsNeeded d e → IsNeeded c e
needed-on zero c d e h k = subst (λ (x : Class). IsNeeded x e) (sym h) k
needed-on (suc n) c d e (b, in_needs, h) k = let x = needed-on n b d e h k in (suc x.0, (b, in_needs, x.1))

-- a position of a class needs what the class needs
pub needs-of_class : (class : Class) (p : Position) → IsOf class p → (c : Class) → NeedsClass p c → IsNeeded class c
needs-of_class class p of c (d, other, n) =
    subst (λ (x : Class). IsNeeded x c) (lists_of-injective d class (other ∙ sym of)) n

-- a position needs what it needs after a legal move
pub needs-after : (p q : Position) (m : Move) → IsValid p → is_legal p m ≡ true → q ≡ after p m → (c : Class) → NeedsClass q c → NeedsClass p c
needs-after p q m valid legal e c (d, of, n) =
    let own = class_exists p valid in
    let here : IsOf d (after p m) = subst (λ (x : Position). IsOf d x) e of in
    elim (moves_lead_on own.0 p (after p m) valid own.1 (m, legal, refl)).of_class [
      | inl same ↦ (own.0, own.1, subst (λ (x : Class). IsNeeded x c) (lists_of-injective d own.0 (here ∙ sym same)) n)
      | inr y ↦ (own.0, own.1, needed-on 1 own.0 d c (y.0, y.1, lists_of-injective y.0 d (y.2 ∙ sym here)) n)
    ]

-- an image of a position needs what the position needs
pub needs-image : (p q : Position) (t : Symmetry) → q ≡ image t p → (c : Class) → NeedsClass q c → NeedsClass p c
needs-image p q t e c (d, of, n) = let here : IsOf d (image t p) = subst (λ (x : Position). IsOf d x) e of in (d, here ∙ ordered_lists-image t p.men, n)

-- a position read from a number of a class needs what the class needs
pub needs-decoded : (class : Class) (n : ℕ) (p : Position) → IsDecoded class n p → (c : Class) → NeedsClass p c → IsNeeded class c
needs-decoded class n p d = needs-of_class class p (entry class n p d).of_class

-- and with the other side to move
pub needs-across : (p q : Position) → q ≡ handed_on p → (c : Class) → NeedsClass q c → NeedsClass p c
needs-across p q e c h = subst (λ (x : Position). NeedsClass x c) e h

module _ {V : Type 0} (source : ValueSource V) where
  -- what a probe reports
  pub probed : (p : Position) → IsValid p → (old : V) (r : Result Value ProbeFault)
      → ((c : Class) → IsErrOf r (NoTable c) ↔ (IsOf c p × (source.held old c ≡ false)))
      → ((c : Class) (f : SourceFault) → IsOf c p → IsErrOf r (TableRead f) → source.may_fail old c f) → (source.is_honest old → IfErr r IsNotDamage)
      → IfErr r (CanReport source (NeedsClass p) old)
  probed p valid old (Ok v) lacks fails right = tt
  probed p valid old (Err (NoTable c)) lacks fails right = let h = (lacks c).0 refl in (h.1, (c, h.0, (0, refl)))
  probed p valid old (Err (TableRead f)) lacks fails right =
      let own = class_exists p valid in (own.0, fails own.0 f own.1 refl, (own.0, own.1, (0, refl)))
  probed p valid old (Err (PageDamaged c n)) lacks fails right = right

  -- what the reading of a page reports
  pub read : (c : Class) (old : V) (r : Result (Unit {0}) ProbeFault)
      → ((d : Class) → IsErrOf r (NoTable d) ↔ ((d ≡ c) × (source.held old c ≡ false)))
      → ((f : SourceFault) → IsErrOf r (TableRead f) → source.may_fail old c f) → (source.is_honest old → IfErr r IsNotDamage)
      → IfErr r (CanReport source (IsNeeded c) old)
  read c old (Ok x) lacks fails right = tt
  read c old (Err (NoTable d)) lacks fails right =
      let h = (lacks d).0 refl in (ap (λ (k : Class). source.held old k) h.0 ∙ h.1, (0, sym h.0))
  read c old (Err (TableRead f)) lacks fails right = (c, fails f refl, (0, refl))
  read c old (Err (PageDamaged d n)) lacks fails right = right

  module _ (Needs : Class → Type 0) where
    pub can_report : (old new : V) (f : ProbeFault) → CanReport source Needs new f → HasSameTables source old new
        → (source.is_honest old → source.is_honest new) → CanReport source Needs old f
    can_report old new (NoTable c) e tables honest = (sym (tables.same c) ∙ e.0, e.1)
    can_report old new (TableRead f) e tables honest = (e.0, tables.fails e.0 f e.1, e.2)
    can_report old new (PageDamaged c n) e tables honest = λ h. e (honest h)

    pub if_reported : {T : Type 0} (old new : V) (r : Result T ProbeFault) → IfErr r (CanReport source Needs new) → HasSameTables source old new
        → (source.is_honest old → source.is_honest new) → IfErr r (CanReport source Needs old)
    if_reported old new (Ok x) e tables honest = tt
    if_reported old new (Err f) e tables honest = can_report old new f e tables honest

  -- where more classes are needed
  pub reported-wider : (Some All : Class → Type 0) → ((c : Class) → Some c → All c) → (v : V) (f : ProbeFault) → CanReport source Some v f
      → CanReport source All v f
  reported-wider Some All more v (NoTable c) e = (e.0, more c e.1)
  reported-wider Some All more v (TableRead f) e = (e.0, e.1, more e.0 e.2)
  reported-wider Some All more v (PageDamaged c n) e = e

  pub if-wider : {T : Type 0} (Some All : Class → Type 0) → ((c : Class) → Some c → All c) → (v : V) (r : Result T ProbeFault)
      → IfErr r (CanReport source Some v) → IfErr r (CanReport source All v)
  if-wider Some All more v (Ok x) e = tt
  if-wider Some All more v (Err f) e = reported-wider Some All more v f e
