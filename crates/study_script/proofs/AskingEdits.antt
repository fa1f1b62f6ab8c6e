-- The replies to edits that probe the tables.
use Rattle.std.proofs.Common.{◌≡◌, ℕ, Bool, true, List, [], ◌∷◌, refl, sym, ◌∙◌, inl, inr}
use Rattle.study_board.specs.Position.{Position}
use Rattle.study_material.specs.declared.class.Class.{Class}
use Rattle.study_values.specs.declared.values.ProbeFault.{ProbeFault}
use Rattle.study_values.specs.declared.values.ProbeFault.TheVariants as probe
use Rattle.study_marks.specs.declared.refusal.Refusal.{Refusal as EditRefusal}
use Rattle.study_marks.specs.declared.refusal.Refusal.TheVariants as edit
use Rattle.study_marks.specs.Queries.{IsTableHeld, AreTablesHeld, AllHeld, IsFirstMissing, IsFirstUnread, IsOutside, is_of_tables}
use Rattle.study_marks.specs.Answers.{IsUndamaged}
use Rattle.study_marks.specs.Edits.{PlainStudy}
use Rattle.study_reply.specs.Names.{edit_words}
use Rattle.study_script.specs.State.{State, is_among, Environment, quiet, no_room, unread}
use Rattle.study_script.specs.Replies.{accepted_reply, refused_as, with_study, missing, found, IsProbingEdit, IsProbingEditWithMemory}
use Rattle.study_script.specs.SessionHolds.{HasNoDeviceFault, IsFailingTable}

-- the same tables are loaded
held-same : (h k : Class → Bool) (p : Position) → ((c : Class) → h c ≡ k c) → IsTableHeld h p → IsTableHeld k p
held-same h k p e held c is = sym (e c) ∙ held c is

are_held-same : (h k : Class → Bool) (ps : List Position) → ((c : Class) → h c ≡ k c) → AreTablesHeld h ps → AreTablesHeld k ps
are_held-same h k [] e held = tt
are_held-same h k (p ∷ ps) e held = (held-same h k p e held.0, are_held-same h k ps e held.1)

missing-same : (h k : Class → Bool) (ps : List Position) (c : Class) → ((d : Class) → h d ≡ k d) → IsFirstMissing h ps c → IsFirstMissing k ps c
missing-same h k [] c e m = absurd m
missing-same h k (p ∷ ps) c e (inl m) = inl (m.0, sym (e c) ∙ m.1)
missing-same h k (p ∷ ps) c e (inr m) = inr (held-same h k p e m.0, missing-same h k ps c e m.1)

unread-same : (h k : Class → Bool) (ps : List Position) (f : ProbeFault) → ((d : Class) → h d ≡ k d) → IsFirstUnread h ps f → IsFirstUnread k ps f
unread-same h k [] f e m = absurd m
unread-same h k (p ∷ ps) f e m =
    (held-same h k p e m.0, elim m.1 [ inl here ↦ inl here | inr there ↦ inr (unread-same h k ps f e there) ])

-- a missing table is not reported as a fault of reading
missing-unread : (held : Class → Bool) (ps : List Position) (c : Class) → IsFirstUnread held ps (probe.NoTable c) → ⊥
missing-unread held [] c m = m
missing-unread held (p ∷ ps) c m = elim m.1 [ inl here ↦ here | inr there ↦ missing-unread held ps c there ]

-- an edit that is refused for memory or tables has that reply
pub refused_outside : (A : Type 0) (s : State) (held : Class → Bool) (paged : Bool) (asked : List Position)
    (new : PlainStudy) (text : List ℕ) (refusal : EditRefusal A) → ((c : Class) → held c ≡ is_among s.classes c)
    → paged ≡ s.paged → IsOutside held asked refusal → HasNoDeviceFault paged refusal → IsUndamaged refusal
    → IsFailingTable (λ c f. s.shelf.faults c f ≡ true) asked refusal
    → (o : Environment) × IsProbingEditWithMemory s o asked new text (refused_as s (edit_words refusal))
refused_outside A s held paged asked new text edit.OutOfMemory e m out reported clean failing = (no_room, refl)
refused_outside A s held paged asked new text (edit.NoTable c) e m out reported clean failing = (
  quiet,
  missing c (missing-same held (is_among s.classes) asked c
      e out) refl,
)
refused_outside A s held paged asked new text (edit.TableRead (probe.TableRead x)) e m out reported clean failing =
    (unread (probe.TableRead x), (sym m ∙ reported, unread-same held (is_among s.classes) asked (probe.TableRead x) e out, failing, refl))
refused_outside A s held paged asked new text (edit.TableRead (probe.PageDamaged c n)) e m out reported clean failing = absurd clean
refused_outside A s held paged asked new text (edit.TableRead (probe.NoTable c)) e m out reported clean failing = absurd (missing-unread held asked c out)
refused_outside A s held paged asked new text edit.NoSuchNode e m out reported clean failing = absurd out
refused_outside A s held paged asked new text edit.RootNotAllowed e m out reported clean failing = absurd out
refused_outside A s held paged asked new text edit.AlreadyFirst e m out reported clean failing = absurd out
refused_outside A s held paged asked new text edit.IllegalMove e m out reported clean failing = absurd out
refused_outside A s held paged asked new text (edit.AlreadyThere k) e m out reported clean failing = absurd out
refused_outside A s held paged asked new text edit.TooDeep e m out reported clean failing = absurd out
refused_outside A s held paged asked new text edit.TreeFull e m out reported clean failing = absurd out
refused_outside A s held paged asked new text (edit.ShiftBroken steps) e m out reported clean failing = absurd out
refused_outside A s held paged asked new text edit.TagText e m out reported clean failing = absurd out

-- the same for an edit that takes no memory
pub refused_asking : (A : Type 0) (s : State) (held : Class → Bool) (paged : Bool) (asked : List Position)
    (new : PlainStudy) (text : List ℕ) (refusal : EditRefusal A) → ((c : Class) → held c ≡ is_among s.classes c)
    → paged ≡ s.paged → IsOutside held asked refusal → HasNoDeviceFault paged refusal → IsUndamaged refusal → is_of_tables refusal ≡ true
    → IsFailingTable (λ c f. s.shelf.faults c f ≡ true) asked refusal
    → (o : Environment) × IsProbingEdit s o asked new text (refused_as s (edit_words refusal))
refused_asking A s held paged asked new text edit.OutOfMemory e m out reported clean of_tables failing = let absent : ⊥ = cc in absurd absent
refused_asking A s held paged asked new text (edit.NoTable c) e m out reported clean of_tables failing =
    (quiet, missing c (missing-same held (is_among s.classes) asked c e out) refl)
refused_asking A s held paged asked new text (edit.TableRead (probe.TableRead x)) e m out reported clean of_tables failing =
    (unread (probe.TableRead x), (sym m ∙ reported, unread-same held (is_among s.classes) asked (probe.TableRead x) e out, failing, refl))
refused_asking A s held paged asked new text (edit.TableRead (probe.PageDamaged c n)) e m out reported clean of_tables failing = absurd clean
refused_asking A s held paged asked new text (edit.TableRead (probe.NoTable c)) e m out reported clean of_tables
    failing = absurd (missing-unread held asked c out)
refused_asking A s held paged asked new text edit.NoSuchNode e m out reported clean of_tables failing = absurd out
refused_asking A s held paged asked new text edit.RootNotAllowed e m out reported clean of_tables failing = absurd out
refused_asking A s held paged asked new text edit.AlreadyFirst e m out reported clean of_tables failing = absurd out
refused_asking A s held paged asked new text edit.IllegalMove e m out reported clean of_tables failing = absurd out
refused_asking A s held paged asked new text (edit.AlreadyThere k) e m out reported clean of_tables failing = absurd out
refused_asking A s held paged asked new text edit.TooDeep e m out reported clean of_tables failing = absurd out
refused_asking A s held paged asked new text edit.TreeFull e m out reported clean of_tables failing = absurd out
refused_asking A s held paged asked new text (edit.ShiftBroken steps) e m out reported clean of_tables failing = absurd out
refused_asking A s held paged asked new text edit.TagText e m out reported clean of_tables failing = absurd out

-- an accepted edit found all tables that it probed
pub accepted_outside : (s : State) (held : Class → Bool) (asked : List Position) (new : PlainStudy) (text : List ℕ)
    → ((c : Class) → held c ≡ is_among s.classes c) → AllHeld held asked
    → IsProbingEditWithMemory s quiet asked new text (accepted_reply (with_study s new) text)
accepted_outside s held asked new text e all = found (record { each = are_held-same held (is_among s.classes) asked e all.each }) refl
