-- The outcome of each command of a class gives its reply.
use Rattle.std.proofs.Common.{◌≡◌, ◌⊎◌, ℕ, Bool, true, false, eqb, List, Option, Some, None, Result, Ok, Err, refl, sym, ap, subst, ◌∙◌, inl, inr, is_some}
use Rattle.std.specs.Prelude.{◌&&◌, IfSome}
use Rattle.study_prober.specs.PagedTables.{Paged}
use Rattle.study_script.specs.declared.tables.Tables.{Tables}
use Rattle.study_script.specs.declared.tables.Tables.TheVariants as held
use Rattle.study_command.specs.declared.command.TableCommand.{TableCommand}
use Rattle.study_command.specs.declared.command.TableCommand.TheVariants.{Build, Load, Save, Verify}
use Rattle.study_material.specs.declared.class.Class.{Class}
use Rattle.study_material.specs.Needs.{needs_of}
use Rattle.study_prober.specs.Sources.{GivesOf}
use Rattle.study_material.specs.Class.{class_number}
use Rattle.study_table.specs.Table.{Table, IsComplete, table_of}
use Rattle.study_table.specs.TableSet.{first_missing}
use Rattle.study_table.specs.Sound.{IsRight, HasFarPosition}
use Rattle.study_retro.specs.Report.{IsGreatest, win_of}
use Rattle.study_tablefile.specs.Reading.{table_read, HasHeader}
use Rattle.study_values.specs.declared.fault.FileFault.{FileFault}
use Rattle.study_values.specs.declared.fault.FileFault.TheVariants as file_fault
use Rattle.study_prober.specs.WholeTables.{Whole}
use Rattle.study_script.specs.declared.store.StoreFault.{StoreFault}
use Rattle.study_reply.specs.declared.refusal.Refusal.{Refusal}
use Rattle.study_reply.specs.declared.refusal.Refusal.TheVariants.{PagedMode, NotAClass, AlreadyHeld}
use Rattle.study_reply.specs.declared.refusal.Refusal.TheVariants.{MissingTable, OtherClass, OutOfMemory}
use Rattle.study_reply.specs.declared.refusal.Refusal.TheVariants.{DistanceTooLarge, NoTable, Device, File}
use Rattle.study_reply.specs.declared.table_reply.TableReply.{TableReply}
use Rattle.study_reply.specs.declared.table_reply.TableReply.TheVariants.{Built, Loaded, Saved, Verified}
use Rattle.study_script.specs.State.{State, is_among, first_lacking, written_anew, IsGiven, IsOpened}
use Rattle.study_script.specs.State.{Environment, quiet, no_room, no_room_for, unopened, cut_off, file}
use Rattle.study_script.specs.Replies.{Reply, refused_reply, refused_as, with_class, built, too_far, IsBuildReply}
use Rattle.study_script.specs.Replies.{IsLoadReply, IsNamedReply, IsTableReply, IsClassReply, IsClassReplyIn, IsOpenReply, IsLoadIn}
use Rattle.study_script.specs.Replies.{class_parsed, needs_whole_tables, save_reply, verify_reply}
use Rattle.study_reply.specs.Names.{words_of}
use Rattle.study_script.specs.Stores.{IsRightFile, GivesBytes, IsTrustedClass}
use Rattle.study_script.specs.Decided.{decided_reply, Decided, HoldsWhole, HoldsPaged, WholeFrom, IsFileRefusal}
use Rattle.study_script.specs.SessionHolds.{HoldsTables, TablesFrom}
use Rattle.study_script.proofs.HeldTables.{lacking, whole_kept}

-- the knowledge of the class before a command
module _ (w : Whole) (s : State) (h : HoldsWhole w s) (c : Class) where
  among : (b : Bool) → is_some (table_of w.tables c) ≡ b → is_among s.classes c ≡ b
  among b e = sym (h.classes c) ∙ e

  first : (o : Option Class) → first_missing w.tables (needs_of c) ≡ o → first_lacking s.classes c ≡ o
  first o e = sym (lacking w.tables s.classes (needs_of c) h.classes) ∙ e

  -- ---- `build`

  pub build_held : is_some (table_of w.tables c) ≡ true
      → Decided (λ o. IsBuildReply s o c (is_among s.classes c) (first_lacking s.classes c)) (WholeFrom s w)
      (Err (AlreadyHeld c))
  build_held e = (quiet, s, rw (among true e) refl, whole_kept w s h)

  pub build_no_room : is_some (table_of w.tables c) ≡ false
      → Decided (λ o. IsBuildReply s o c (is_among s.classes c) (first_lacking s.classes c)) (WholeFrom s w)
      (Err OutOfMemory)
  build_no_room e = (no_room, s, rw (among false e) refl, whole_kept w s h)

  pub build_missing : (d : Class) → is_some (table_of w.tables c) ≡ false
      → first_missing w.tables (needs_of c) ≡ Some d
      → Decided (λ o. IsBuildReply s o c (is_among s.classes c) (first_lacking s.classes c)) (WholeFrom s w)
      (Err (MissingTable d))
  build_missing d e f = (quiet, s, rw (among false e, first (Some d) f) refl, whole_kept w s h)

  pub build_far : is_some (table_of w.tables c) ≡ false → first_missing w.tables (needs_of c) ≡ None
      → HasFarPosition c → Decided (λ o. IsBuildReply s o c (is_among s.classes c) (first_lacking s.classes c))
      (WholeFrom s w) (Err DistanceTooLarge)
  build_far e f far = (quiet, s, rw (among false e, first None f) (too_far far refl), whole_kept w s h)

  pub build_done : (v : Whole) (t : Table) (win : Option ℕ) → is_some (table_of w.tables c) ≡ false
      → first_missing w.tables (needs_of c) ≡ None → t.class ≡ c → IsComplete t → IsRight t
      → IsGreatest win_of t.cells win → WholeFrom s v (with_class s c)
      → Decided (λ o. IsBuildReply s o c (is_among s.classes c) (first_lacking s.classes c)) (WholeFrom s v) (Ok (Built c win))
  build_done v t win e f same complete right deepest holds = (
    quiet,
    with_class s c,
    rw (among false e, first None f) (built t win same complete right deepest refl),
    holds,
  )

  -- ---- `verify`

  pub verify_none : is_some (table_of w.tables c) ≡ false
      → Decided (λ o reply. reply ≡ verify_reply s c (is_among s.classes c)) (WholeFrom s w) (Err (NoTable c))
  verify_none e = (quiet, s, rw (among false e) refl, whole_kept w s h)

  pub verify_reported : (b : Bool) → is_some (table_of w.tables c) ≡ true → b ≡ true
      → Decided (λ o reply. reply ≡ verify_reply s c (is_among s.classes c)) (WholeFrom s w) (Ok (Verified c b))
  verify_reported b e right = (quiet, s, rw (among true e, right) refl, whole_kept w s h)

  -- ---- `load` of a file from front to back

  module _ (Seen : State → Type 0) where
    pub load_held : Seen s → is_some (table_of w.tables c) ≡ true
        → Decided (λ o. IsLoadReply s o c (is_among s.classes c) (first_lacking s.classes c)) (λ t. WholeFrom s w t
        × Seen t) (Err (AlreadyHeld c))
    load_held seen e = (quiet, s, rw (among true e) refl, (whole_kept w s h, seen))

    pub load_missing : Seen s → (d : Class) → is_some (table_of w.tables c) ≡ false
        → first_missing w.tables (needs_of c) ≡ Some d
        → Decided (λ o. IsLoadReply s o c (is_among s.classes c) (first_lacking s.classes c)) (λ t. WholeFrom s w t
        × Seen t) (Err (MissingTable d))
    load_missing seen d e f = (quiet, s, rw (among false e, first (Some d) f) refl, (whole_kept w s h, seen))

    pub load_refused : Seen s → (refusal : Refusal) → is_some (table_of w.tables c) ≡ false
        → first_missing w.tables (needs_of c) ≡ None → IsFileRefusal (s.shelf.files c) refusal
        → Decided (λ o. IsLoadReply s o c (is_among s.classes c) (first_lacking s.classes c)) (λ t. WholeFrom s w t × Seen t) (Err refusal)
    load_refused seen refusal e f (inl (fault, given, is)) = (
      unopened fault,
      s,
      rw (among false e, first None f) (given, ap (refused_as s) is),
      (whole_kept w s h, seen),
    )
    load_refused seen refusal e f (inr (inl (is_open, is))) =
        (cut_off, s, rw (among false e, first None f) (is_open, ap (refused_as s) is), (whole_kept w s h, seen))
    load_refused seen refusal e f (inr (inr (inl (bytes, given, has, is)))) = (
      no_room_for bytes,
      s,
      rw (among false e, first None f) (given, has, ap (refused_as s) is),
      (whole_kept w s h, seen),
    )
    load_refused seen refusal e f (inr (inr (inr (bytes, fault, given, read, is)))) = (
      file bytes,
      s,
      rw (among false e, first None f) (given, rw read (ap (refused_as s) is)),
      (whole_kept w s h, seen),
    )

    pub load_other : Seen s → (bytes : List ℕ) (t : Table) → is_some (table_of w.tables c) ≡ false
        → first_missing w.tables (needs_of c) ≡ None → IsGiven (s.shelf.files c) (Ok bytes) → table_read bytes ≡ Ok t
        → eqb (class_number t.class) (class_number c) ≡ false
        → Decided (λ o. IsLoadReply s o c (is_among s.classes c) (first_lacking s.classes c)) (λ t. WholeFrom s w t × Seen t) (Err (OtherClass t.class))
    load_other seen bytes t e f given read other = (file bytes, s, rw (among false e, first None f) (given, rw (read, other) refl), (whole_kept w s h, seen))

    pub load_done : Seen (with_class s c) → (v : Whole) (bytes : List ℕ) (t : Table)
        → is_some (table_of w.tables c) ≡ false → first_missing w.tables (needs_of c) ≡ None
        → IsGiven (s.shelf.files c) (Ok bytes) → table_read bytes ≡ Ok t → eqb (class_number t.class) (class_number c) ≡ true
        → WholeFrom s v (with_class s c)
        → Decided (λ o. IsLoadReply s o c (is_among s.classes c) (first_lacking s.classes c))
        (λ t. WholeFrom s v t × Seen t) (Ok (Loaded c))
    load_done seen v bytes t e f given read same holds =
        (file bytes, with_class s c, rw (among false e, first None f) (given, rw (read, same) refl), (holds, seen))

  -- ---- `save`

  module _ (Seen : State → Type 0) where
    pub save_none : Seen s → is_some (table_of w.tables c) ≡ false
        → Decided (λ o reply. reply ≡ save_reply s o c (is_among s.classes c)) (λ t. HoldsWhole w t
        × (t.document ≡ s.document) × Seen t) (Err (NoTable c))
    save_none seen e = (quiet, s, rw (among false e) refl, (h, refl, seen))

    anew : HoldsWhole w (written_anew s c)
    anew = record { values = h.values; classes = h.classes; whole = h.whole }

    pub save_unopened : Seen (written_anew s c) → (fault : StoreFault) → is_some (table_of w.tables c) ≡ true
        → Decided (λ o reply. reply ≡ save_reply s o c (is_among s.classes c)) (λ t. HoldsWhole w t
        × (t.document ≡ s.document) × Seen t) (Err Device)
    save_unopened seen fault e = (unopened fault, written_anew s c, rw (among true e) refl, (anew, refl, seen))

    pub save_cut : Seen (written_anew s c) → is_some (table_of w.tables c) ≡ true
        → Decided (λ o reply. reply ≡ save_reply s o c (is_among s.classes c)) (λ t. HoldsWhole w t
        × (t.document ≡ s.document) × Seen t) (Err Device)
    save_cut seen e = (cut_off, written_anew s c, rw (among true e) refl, (anew, refl, seen))

    pub save_done : Seen (written_anew s c) → is_some (table_of w.tables c) ≡ true
        → Decided (λ o reply. reply ≡ save_reply s o c (is_among s.classes c)) (λ t. HoldsWhole w t
        × (t.document ≡ s.document) × Seen t) (Ok (Saved c))
    save_done seen e = (quiet, written_anew s c, rw (among true e) refl, (anew, refl, seen))

-- ---- the loaded tables

module _ {P A : Type 0} where
  pub whole_of : (honest : P → Table → ℕ → Type 0) (gives : GivesOf P) (t : Tables P A) (w : Whole) (s : State) → t ≡ held.Whole w
      → HoldsTables honest gives t s → HoldsWhole w s
  whole_of honest gives t w s e h = let k = subst (λ (x : Tables P A). HoldsTables honest gives x s) e h in
      record { values = k.values; classes = k.classes; whole = k.paged }

  pub paged_of : (honest : P → Table → ℕ → Type 0) (gives : GivesOf P) (t : Tables P A) (w : Paged P) (s : State) → t ≡ held.Paged w
      → HoldsTables honest gives t s → HoldsPaged honest gives w s
  paged_of honest gives t w s e h = let k = subst (λ (x : Tables P A). HoldsTables honest gives x s) e h in
      record { values = k.values; classes = k.classes; by_pages = k.paged; faults = k.faults }

  pub tables_whole : (honest : P → Table → ℕ → Type 0) (gives : GivesOf P) (w : Whole) (s t : State) → HoldsWhole w t
      → t.document ≡ s.document → TablesFrom {A = A} honest gives s (held.Whole w) t
  tables_whole honest gives w s t h e = record {
    holds = record { values = h.values; classes = h.classes; paged = h.whole; faults = λ c f m. absurd m };
    document
        = e;
  }

  pub tables_paged : (honest : P → Table → ℕ → Type 0) (gives : GivesOf P) (w : Paged P) (s t : State) → HoldsPaged honest gives w t
      → t.document ≡ s.document → TablesFrom {A = A} honest gives s (held.Paged w) t
  tables_paged honest gives w s t h e = record {
    holds = record { values = h.values; classes = h.classes; paged = h.by_pages; faults = h.faults };
    document = e;
  }

-- whole tables accept any command
pub asked_whole : (s : State) (o : Environment) (word : TableCommand) (name : List ℕ) (reply : Reply) → false ≡ s.paged
    → IsNamedReply s o word (class_parsed name) reply → IsClassReply s o word name reply
asked_whole s o word name reply e h = subst (λ b. IsClassReplyIn s o word name b reply) (sym (by_word word s.paged e)) h
  where
    by_word : (w : TableCommand) (p : Bool) → false ≡ p → needs_whole_tables w && p ≡ false
    by_word Build p k = sym k
    by_word Save p k = sym k
    by_word Verify p k = sym k
    by_word Load p k = refl

-- and tables by pages only one
pub refused_paged : (s : State) (word : TableCommand) (name : List ℕ) → true ≡ s.paged → (word ≡ Build)
    ⊎ ((word ≡ Save) ⊎ (word ≡ Verify)) → IsClassReply s quiet word name (refused_reply s PagedMode)
refused_paged s word name e (inl k) = subst (λ w. IsClassReply s quiet w name (refused_reply s PagedMode)) (sym k) (rw (← e) refl)
refused_paged s word name e (inr (inl k)) = subst (λ w. IsClassReply s quiet w name (refused_reply s PagedMode)) (sym k) (rw (← e) refl)
refused_paged s word name e (inr (inr k)) = subst (λ w. IsClassReply s quiet w name (refused_reply s PagedMode)) (sym k) (rw (← e) refl)

-- a word that is not the name of a class
pub not_named : (s : State) (o : Environment) (word : TableCommand) (name : List ℕ) → class_parsed name ≡ None
    → IsNamedReply s o word (class_parsed name) (refused_reply s NotAClass)
not_named s o word name e = rw e refl

pub named_as : (s : State) (o : Environment) (word : TableCommand) (name : List ℕ) (c : Class) (reply : Reply)
    → class_parsed name ≡ Some c → IsTableReply s o word c reply → IsNamedReply s o word (class_parsed name) reply
named_as s o word name c reply e i = rw e i

-- ---- an outcome, by a weaker property

pub decided_weaker : (I J : Environment → Reply → Type 0) (H K : State → Type 0) (reported : Result TableReply Refusal)
    → ((o : Environment) (r : Reply) → I o r → J o r) → ((t : State) → H t → K t) → Decided I H reported → Decided J K reported
decided_weaker I J H K reported f g (o, t, is, holds) = (o, t, f o (decided_reply t reported) is, g t holds)

-- ---- the answers of a file and its source

-- a reader of an honest store returns its known bytes
pub reader_tells : (reported : Option (List ℕ)) → IsRightFile reported → (bytes : List ℕ) × (reported ≡ Some bytes)
    × ((t : Table) → table_read bytes ≡ Ok t → IsRight t)
reader_tells None h = absurd h
reader_tells (Some bytes) h = (bytes, refl, h)

pub given_bytes : (known : Option (Result (List ℕ) StoreFault)) (bytes : List ℕ) → GivesBytes known (Some bytes) → IsGiven known (Ok bytes)
given_bytes None bytes h = tt
given_bytes (Some k) bytes h = h

pub opened_bytes : (known : Option (Result (List ℕ) StoreFault)) (bytes : List ℕ) → GivesBytes known (Some bytes) → IsOpened known
opened_bytes None bytes h = tt
opened_bytes (Some (Ok k)) bytes h = tt
opened_bytes (Some (Err k)) bytes h = absurd cc

-- the words of a device's fault and of want of memory are those of the file's
file_words : (fault : FileFault) (refusal : Refusal)
    → (fault ≡ file_fault.Device → words_of (File fault) ≡ words_of Device)
    × (fault ≡ file_fault.OutOfMemory → words_of (File fault) ≡ words_of OutOfMemory)
unfolding words_of
file_words fault refusal = (λ e. rw e refl, λ e. rw e refl)

-- why no table was read
pub file_refusal : (known : Option (Result (List ℕ) StoreFault)) (reported : Option (List ℕ)) (fault : FileFault)
    (refusal : Refusal) → IsRightFile reported → GivesBytes known reported
    → ((bytes : List ℕ) → reported ≡ Some bytes → (fault ≡ file_fault.Device)
    ⊎ (((fault ≡ file_fault.OutOfMemory) × HasHeader bytes) ⊎ (table_read bytes ≡ Err fault)))
    → words_of refusal ≡ words_of (File fault) → IsFileRefusal known refusal
file_refusal known None fault refusal right given why same = absurd right
file_refusal known (Some bytes) fault refusal right given why same = elim (why bytes refl) [
  | inl e ↦ inr (inl (opened_bytes known bytes given, same ∙ (file_words fault refusal).0 e))
  | inr k ↦ elim k [
    | inl m ↦ inr (inr (inl (bytes, given_bytes known bytes given, m.1, same ∙ (file_words fault refusal).1 m.0)))
    | inr e ↦ inr (inr (inr (bytes, fault, given_bytes known bytes given, e, same)))
  ]
]

pub memory_words : (fault : FileFault) → fault ≡ file_fault.OutOfMemory → words_of OutOfMemory ≡ words_of (File fault)
memory_words fault e = sym ((file_words fault OutOfMemory).1 e)

-- a class that a line loads is trusted
pub trust_of : (trusted : Class → Bool) (word : TableCommand) (name : List ℕ) (c : Class) → word ≡ Load → class_parsed name ≡ Some c
    → IsTrustedClass trusted word name → trusted c ≡ true
trust_of trusted word name c is reported may =
    subst (λ (o : Option Class). IfSome o (λ k. trusted k ≡ true)) reported (subst (λ (w : TableCommand). IsTrustedClass trusted w name) is may)

pub open_as : (s : State) (o : Environment) (name : List ℕ) (c : Class) (r : Reply) → class_parsed name ≡ Some c → true ≡ s.paged
    → IsOpenReply s o c (is_among s.classes c) r → IsClassReply s o Load name r
open_as s o name c r reported paged i = subst (λ (x : Option Class). IsNamedReply s o Load x r) (sym reported)
    (subst (λ (b : Bool). IsLoadIn s o b c r) paged i)

pub load_as : (s : State) (o : Environment) (c : Class) (r : Reply) → false ≡ s.paged
    → IsLoadReply s o c (is_among s.classes c) (first_lacking s.classes c) r → IsTableReply s o Load c r
load_as s o c r whole i = subst (λ (b : Bool). IsLoadIn s o b c r) whole i
