-- The tables of a script, and the outcomes of its commands of a class.
use Rattle.std.proofs.Common.{◌≡◌, ◌≢◌, ℕ, ◌<◌, Bool, true, false, not, cond, eqb, List, [], ◌∷◌, length, set, find}
use Rattle.std.proofs.Common.{Option, Some, None, Result, refl, sym, ap, subst, ◌∙◌, inl, inr, arith, is_some}
use Rattle.std.specs.Prelude.{IsSome, IfSome, IsTrue, ◌↔◌}
use Rattle.std.proofs.lemmas.List.{get_or-set_same, get_or-set_other}
use Rattle.std.proofs.lemmas.Bool.{false≢true}
use Rattle.std.proofs.lemmas.Bool.Decides.{nat_tests}
use Rattle.study_material.specs.declared.class.Class.{Class}
use Rattle.study_material.specs.declared.class.Class.TheVariants.{KK, KQK, KRK, KBK, KNK, KPK, KQQK, KQRK, KQBK}
use Rattle.study_material.specs.declared.class.Class.TheVariants.{KQNK, KQPK, KRRK, KRBK, KRNK, KRPK, KBBK}
use Rattle.study_material.specs.declared.class.Class.TheVariants.{KBNK, KBPK, KNNK, KNPK, KPPK, KQKQ, KQKR}
use Rattle.study_material.specs.declared.class.Class.TheVariants.{KQKB, KQKN, KQKP, KRKR, KRKB, KRKN, KRKP}
use Rattle.study_material.specs.declared.class.Class.TheVariants.{KBKB, KBKN, KBKP, KNKN, KNKP, KPKP}
use Rattle.study_material.specs.Class.{name_of}
use Rattle.study_material.specs.Needs.{needs_of}
use Rattle.study_material.specs.Class.{class_number}
use Rattle.study_table.specs.Table.{Table, IsClosed, IsReady, table_of}
use Rattle.study_table.specs.TableSet.{first_missing, add_fault}
use Rattle.study_table.specs.Sound.{IsRight, NeedsAreRight}
use Rattle.study_prober.specs.WholeTables.{Whole, TablesAreRight}
use Rattle.study_prober.proofs.HeldSources.{same_class}
use Rattle.study_values.specs.declared.fault.SourceFault.{SourceFault}
use Rattle.study_script.specs.declared.store.StoreFault.{StoreFault}
use Rattle.study_script.specs.State.{State, StoreKnowledge, is_among, unknown_after_write, forgotten_faults, written_anew}
use Rattle.study_script.specs.Replies.{with_class, class_parsed}
use Rattle.study_script.specs.Stores.{StoreSeen}
use Rattle.study_script.specs.Decided.{HoldsWhole, WholeFrom}

-- ---- classes and their places

pub place_below : (c : Class) → class_number c < 36
place_below KK = omega arith
place_below KQK = omega arith
place_below KRK = omega arith
place_below KBK = omega arith
place_below KNK = omega arith
place_below KPK = omega arith
place_below KQQK = omega arith
place_below KQRK = omega arith
place_below KQBK = omega arith
place_below KQNK = omega arith
place_below KQPK = omega arith
place_below KRRK = omega arith
place_below KRBK = omega arith
place_below KRNK = omega arith
place_below KRPK = omega arith
place_below KBBK = omega arith
place_below KBNK = omega arith
place_below KBPK = omega arith
place_below KNNK = omega arith
place_below KNPK = omega arith
place_below KPPK = omega arith
place_below KQKQ = omega arith
place_below KQKR = omega arith
place_below KQKB = omega arith
place_below KQKN = omega arith
place_below KQKP = omega arith
place_below KRKR = omega arith
place_below KRKB = omega arith
place_below KRKN = omega arith
place_below KRKP = omega arith
place_below KBKB = omega arith
place_below KBKN = omega arith
place_below KBKP = omega arith
place_below KNKN = omega arith
place_below KNKP = omega arith
place_below KPKP = omega arith

-- the class of a name
pub class_parsed-name_of : (c : Class) → class_parsed (name_of c) ≡ Some c
unfolding name_of class_parsed
class_parsed-name_of KK = refl
class_parsed-name_of KQK = refl
class_parsed-name_of KRK = refl
class_parsed-name_of KBK = refl
class_parsed-name_of KNK = refl
class_parsed-name_of KPK = refl
class_parsed-name_of KQQK = refl
class_parsed-name_of KQRK = refl
class_parsed-name_of KQBK = refl
class_parsed-name_of KQNK = refl
class_parsed-name_of KQPK = refl
class_parsed-name_of KRRK = refl
class_parsed-name_of KRBK = refl
class_parsed-name_of KRNK = refl
class_parsed-name_of KRPK = refl
class_parsed-name_of KBBK = refl
class_parsed-name_of KBNK = refl
class_parsed-name_of KBPK = refl
class_parsed-name_of KNNK = refl
class_parsed-name_of KNPK = refl
class_parsed-name_of KPPK = refl
class_parsed-name_of KQKQ = refl
class_parsed-name_of KQKR = refl
class_parsed-name_of KQKB = refl
class_parsed-name_of KQKN = refl
class_parsed-name_of KQKP = refl
class_parsed-name_of KRKR = refl
class_parsed-name_of KRKB = refl
class_parsed-name_of KRKN = refl
class_parsed-name_of KRKP = refl
class_parsed-name_of KBKB = refl
class_parsed-name_of KBKN = refl
class_parsed-name_of KBKP = refl
class_parsed-name_of KNKN = refl
class_parsed-name_of KNKP = refl
class_parsed-name_of KPKP = refl

same_place : (n m : ℕ) → n ≡ m → eqb n m ≡ true
same_place n m e = grind (arith, nat_tests)

other_place : (n m : ℕ) → n ≢ m → eqb n m ≡ false
other_place n m e = grind (arith, nat_tests)

pub same_at : (c d : Class) → c ≡ d → eqb (class_number c) (class_number d) ≡ true
same_at c d e = same_place (class_number c) (class_number d) (ap class_number e)

pub other_at : (c d : Class) → (c ≡ d → ⊥) → eqb (class_number c) (class_number d) ≡ false
other_at c d f = other_place (class_number c) (class_number d) (λ k. elim (same_class c d) [ inl e ↦ f e | inr g ↦ g k ])

pub among_with : (c d : Class) (cs : List Class) (b : Bool) → is_among cs d ≡ b → (c ≡ d → ⊥) → b ≡ is_among (c ∷ cs) d
among_with c d cs b e f = rw (other_at c d f) (sym e)

pub among_head : (c d : Class) (cs : List Class) → c ≡ d → true ≡ is_among (c ∷ cs) d
among_head c d cs e = rw (same_at c d e) refl

-- ---- sets of tables

-- the first missing class is the first whose table is missing
pub lacking : (held : List (Option Table)) (cs : List Class) (xs : List Class)
    → ((c : Class) → is_some (table_of held c) ≡ is_among cs c)
    → first_missing held xs ≡ find (λ d. not (is_among cs d)) xs
lacking held cs [] e = refl
lacking held cs (x ∷ xs) e = rw (e x) (by_case (is_among cs x) _ _ (lacking held cs xs e))
  where
    by_case : (b : Bool) (left right : Option Class) → left ≡ right → cond b left (Some x) ≡ cond (not b) (Some x) right
    by_case true left right k = k
    by_case false left right k = refl

pub none_missing : (o : Option Class) → ((d : Class) → o ≡ Some d → ⊥) → o ≡ None
none_missing None f = refl
none_missing (Some d) f = absurd (f d refl)

-- a table whose class is not loaded, and whose needs are, is added
pub may_add : (held : List (Option Table)) (c d : Class) → d ≡ c → is_some (table_of held c) ≡ false
    → first_missing held (needs_of c) ≡ None → add_fault held d ≡ None
may_add held c d same e f = rw (same, e, f) refl

module _ (held : List (Option Table)) (t : Table) (full : length held ≡ 36) where
  here : (d : Class) → d ≡ t.class → table_of (set held (class_number t.class) (Some t)) d ≡ Some t
  here d e = rw e (get_or-set_same held (class_number t.class) (Some t) None (let small = place_below t.class in omega (arith, full, small)))

  there : (d : Class) → class_number d ≢ class_number t.class → table_of (set held (class_number t.class) (Some t)) d ≡ table_of held d
  there d f = get_or-set_other held (class_number t.class) (class_number d) (Some t) None f

  right_with : TablesAreRight held → IsRight t → TablesAreRight (set held (class_number t.class) (Some t))
  right_with all right = record {
    right = λ d u e. elim (same_class d t.class) [
      | inl k ↦ let same : Some t ≡ Some u = sym (here d k) ∙ e in let one : t ≡ u = cc in subst IsRight one right
      | inr f ↦ all.right d u (sym (there d f) ∙ e)
    ];
  }

  classes_with : (cs : List Class) → ((d : Class) → is_some (table_of held d) ≡ is_among cs d) → (d : Class)
      → is_some (table_of (set held (class_number t.class) (Some t)) d) ≡ is_among (t.class ∷ cs) d
  classes_with cs e d = elim (same_class d t.class) [
    | inl k ↦ ap (λ (o : Option Table). is_some o) (here d k) ∙ among_head t.class d cs (sym k)
    | inr f ↦ ap (λ (o : Option Table). is_some o) (there d f)
        ∙ among_with t.class d cs (is_some (table_of held d)) (sym (e d)) (λ k. f (ap class_number (sym k)))
  ]

-- the table is then loaded, and it is right
pub whole_with : (w v : Whole) (s : State) (t : Table) (c : Class) → IsClosed w.tables → HoldsWhole w s → IsRight t
    → t.class ≡ c → v ≡ record w { tables = set w.tables (class_number t.class) (Some t) }
    → WholeFrom s v (with_class s c)
whole_with w v s t c closed h right same e =
    subst (λ (x : Whole). WholeFrom s x (with_class s c)) (sym e)
    (subst (λ (k : Class). WholeFrom s (record w { tables = set w.tables (class_number t.class) (Some t) })
    (with_class s k)) same (record {
      holds =
          record {
            values = right_with w.tables t closed.places h.values right;
            classes = classes_with w.tables t
                closed.places s.classes h.classes;
            whole = h.whole;
          };
      document = refl;
      shelf = refl;
    }))

pub whole_kept : (w : Whole) (s : State) → HoldsWhole w s → WholeFrom s w s
whole_kept w s h = record { holds = h; document = refl; shelf = refl }

-- a loaded table has the tables that it needs
pub ready_of : (held : List (Option Table)) (c : Class) (t : Table) → IsClosed held → Some t ≡ table_of held c → IsReady held t.class
ready_of held c t closed e = subst (λ (k : Class). IsReady held k) (sym (closed.class c t (sym e)))
    (closed.ready c (subst (λ (o : Option Table). IsSome o) e refl))

pub class_of_held : (held : List (Option Table)) (c : Class) (t : Table) → IsClosed held → Some t ≡ table_of held c → t.class ≡ c
class_of_held held c t closed e = closed.class c t (sym e)

pub needs_right : (held : List (Option Table)) (c : Class) → TablesAreRight held → NeedsAreRight held c
needs_right held c all = record { right = λ d t n e. all.right d t e }

-- a loaded table is right if all are
pub right_reported : (held : List (Option Table)) (c : Class) (b : Bool) → TablesAreRight held
    → is_some (table_of held c) ≡ true → IfSome (table_of held c) (λ t. IsTrue b ↔ IsRight t) → b ≡ true
right_reported held c b all some reported = go (table_of held c) refl some reported
  where
    go : (o : Option Table) → table_of held c ≡ o → is_some o ≡ true → IfSome o (λ t. IsTrue b ↔ IsRight t) → b ≡ true
    go None e s t = absurd (false≢true s)
    go (Some x) e s t = t.1 (all.right c x e)

-- ---- stores

module _ {S : Type 0} where
  -- a store with the same answers as before
  pub store_same : (honest : S → Bool → Type 0) (files headers : S → Class → Option (Result (List ℕ) StoreFault)) (faults : S → Class → SourceFault → Bool)
      (old new : S) (s : State) → ((b : Bool) → honest old b → honest new b)
      → ((c : Class) → files new c ≡ files old c) → ((c : Class) → headers new c ≡ headers old c)
      → ((c : Class) (f : SourceFault) → faults new c f ≡ faults old c f)
      → StoreSeen honest files headers faults old s → StoreSeen honest files headers faults new s
  store_same honest files headers faults old new s stays f k l h = record {
    is_honest = stays s.paged h.is_honest;
    known = record {
      files_known = λ c. f c ∙ h.known.files_known c;
      headers_known = λ c. k c ∙ h.known.headers_known c;
      faults_known = λ c g. l c g
          ∙ h.known.faults_known c g;
    };
  }

  pub store_with : (honest : S → Bool → Type 0) (files headers : S → Class → Option (Result (List ℕ) StoreFault)) (faults : S → Class → SourceFault → Bool)
      (store : S) (s : State) (c : Class) → StoreSeen honest files headers faults store s
      → StoreSeen honest files headers faults store (with_class s c)
  store_with honest files headers faults store s c h =
      record {
        is_honest = h.is_honest;
        known = record { files_known = h.known.files_known; headers_known = h.known.headers_known; faults_known = h.known.faults_known };
      }

  -- a store has the same answers after a command that leaves it
  pub store_of : (honest : S → Bool → Type 0) (files headers : S → Class → Option (Result (List ℕ) StoreFault)) (faults : S → Class → SourceFault → Bool)
      (store : S) (s t : State) → t.paged ≡ s.paged → t.shelf ≡ s.shelf → StoreSeen honest files headers faults store s
      → StoreSeen honest files headers faults store t
  store_of honest files headers faults store s t p e h = record {
    is_honest = subst (λ (b : Bool). honest store b) (sym p) h.is_honest;
    known =
        record {
          files_known = λ c. h.known.files_known c ∙ ap (λ (x : StoreKnowledge). x.files c) (sym e);
          headers_known = λ c. h.known.headers_known c ∙ ap (λ (x : StoreKnowledge). x.headers c) (sym e);
          faults_known = λ c f. h.known.faults_known c f ∙ ap (λ (x : StoreKnowledge). x.faults c f) (sym e);
        };
  }

  -- a store in which the file of a class was written
  pub store_anew : (honest : S → Bool → Type 0) (files headers : S → Class → Option (Result (List ℕ) StoreFault)) (faults : S → Class → SourceFault → Bool)
      (old new : S) (s : State) (c : Class) → ((b : Bool) → honest old b → honest new b)
      → ((d : Class) → files new d ≡ unknown_after_write c (files old) d)
      → ((d : Class) → headers new d ≡ unknown_after_write c (headers old) d)
      → ((d : Class) (g : SourceFault) → faults new d g ≡ forgotten_faults c (faults old) d g) → StoreSeen honest files headers faults old s
      → StoreSeen honest files headers faults new (written_anew s c)
  store_anew honest files headers faults old new s c stays f k l h = record {
    is_honest = stays s.paged h.is_honest;
    known = record {
      files_known = λ d. f d ∙ alike (eqb (class_number d) (class_number c)) (files old d) (s.shelf.files d) (h.known.files_known d);
      headers_known = λ d. k d ∙ alike (eqb (class_number d) (class_number c)) (headers old d) (s.shelf.headers d) (h.known.headers_known d);
      faults_known = λ d g. l d g ∙ either (eqb (class_number d) (class_number c)) (faults old d g) (s.shelf.faults d g) (h.known.faults_known d g);
    };
  }
    where
      alike : {T : Type 0} (b : Bool) (x y : Option T) → x ≡ y → cond b None x ≡ cond b None y
      alike true x y e = refl
      alike false x y e = e

      either : (b x y : Bool) → x ≡ y → cond b true x ≡ cond b true y
      either true x y e = refl
      either false x y e = e
