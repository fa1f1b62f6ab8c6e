-- A fault in the file of a needed class is a fault of the whole request.
use Rattle.std.proofs.Common.{◌≡◌, ◌≢◌, ◌<◌, ℕ, List, [], ◌∷◌, length, Option, Some, None, Result, Ok, Err, subst, inl, inr}
use Rattle.std.specs.Prelude.{IfErr}
use Rattle.std.proofs.Math.ListN.{get_or}
use Rattle.std.specs.List.{Contains}
use Rattle.std.proofs.lemmas.List.Elements.{Contains-get_or}
use Rattle.study_material.specs.declared.class.Class.{Class}
use Rattle.study_material.specs.Needs.{IsNeeded, IsOrder}
use Rattle.study_table.specs.Table.{Table}
use Rattle.study_table.specs.Sound.{NeedsAreRight}
use Rattle.study_prober.specs.WholeTables.{TablesAreRight}
use Rattle.study_web.specs.declared.file_spans.FileSpan.{FileSpan}
use Rattle.study_web.specs.declared.answers.make.MakeFault.{MakeFault}
use Rattle.study_web.specs.declared.answers.make.MakeFault.TheVariants.{MissingTable, File, OtherClass, DistanceTooLarge, OutOfMemory}
use Rattle.study_web.specs.Spans.{file_in}
use Rattle.study_web.specs.Making.{IsFaultIn, IsFirstFault, IsMakeFault, IsSoundIn}

-- if no file has one of these faults
no_missing : (spans : List FileSpan) (bytes : List ℕ) (c e : Class) (ds : List Class) → IsFirstFault spans bytes c ds (MissingTable e) → ⊥
no_missing spans bytes c e [] x = x
no_missing spans bytes c e (d ∷ ds) (inl (other, x)) = none (file_in spans bytes d) x
  where
    none : (file : Option (List ℕ)) → IsFaultIn file d (MissingTable e) → ⊥
    none None x = x
    none (Some text) x = x
no_missing spans bytes c e (d ∷ ds) (inr (sound, x)) = no_missing spans bytes c e ds x

no_distance : (spans : List FileSpan) (bytes : List ℕ) (c : Class) (ds : List Class) → IsFirstFault spans bytes c ds DistanceTooLarge → ⊥
no_distance spans bytes c [] x = x
no_distance spans bytes c (d ∷ ds) (inl (other, x)) = none (file_in spans bytes d) x
  where
    none : (file : Option (List ℕ)) → IsFaultIn file d DistanceTooLarge → ⊥
    none None x = x
    none (Some text) x = x
no_distance spans bytes c (d ∷ ds) (inr (sound, x)) = no_distance spans bytes c ds x

-- the first fault among the files that a class needs is a fault of the whole request
pub fault_raised : (spans : List FileSpan) (bytes : List ℕ) (c : Class) (ds : List Class) (fault : MakeFault) → IsOrder c ds
    → IsFirstFault spans bytes c ds fault → IsMakeFault spans bytes c fault
fault_raised spans bytes c ds (File e f) order x = (ds, order, x)
fault_raised spans bytes c ds (OtherClass e o) order x = (ds, order, x)
fault_raised spans bytes c ds (MissingTable e) order x = absurd (no_missing spans bytes c e ds x)
fault_raised spans bytes c ds DistanceTooLarge order x = absurd (no_distance spans bytes c ds x)
fault_raised spans bytes c ds OutOfMemory order x = tt

-- the first fault among the files of the classes behind one whose file has none
pub later_fault : {T : Type 0} (r : Result T MakeFault) (spans : List FileSpan) (bytes : List ℕ) (c need : Class) (rest all : List Class) → all ≡ need ∷ rest
    → (need ≢ c → IsSoundIn (file_in spans bytes need) need) → IfErr r (IsFirstFault spans bytes c rest) → IfErr r (IsFirstFault spans bytes c all)
later_fault (Ok x) spans bytes c need rest all is sound later = tt
later_fault (Err fault) spans bytes c need rest all is sound later = rw is (inr (sound, later))

pub all_raised : {T : Type 0} (r : Result T MakeFault) (spans : List FileSpan) (bytes : List ℕ) (c : Class) (ds : List Class) → IsOrder c ds
    → IfErr r (IsFirstFault spans bytes c ds) → IfErr r (IsMakeFault spans bytes c)
all_raised (Ok x) spans bytes c ds order is = tt
all_raised (Err fault) spans bytes c ds order is = fault_raised spans bytes c ds fault order is

-- each class in the order of a class is needed
pub needed_at : {c : Class} {order items : List Class} {i : ℕ} (d : Class) → IsOrder c order → items ≡ order → i < length items
    → IsNeeded c (get_or items i d)
needed_at {c} {order} {items} {i} d all same l =
    (all.each (get_or items i d)).0 (subst (λ ds. Contains ds (get_or items i d)) same (Contains-get_or items i d l))

-- if all tables are right, so are those that a class needs
pub needs_right : {held : List (Option Table)} {c : Class} → TablesAreRight held → NeedsAreRight held c
needs_right all = record { right = λ d t needed is. all.right d t is }
