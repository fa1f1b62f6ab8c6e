-- Values probed one after the other.
use Rattle.std.proofs.Common.{◌≡◌, ℕ, ◌+◌, ◌≤◌, ◌<◌, List, [], ◌∷◌, ◌++◌, map, length, Bool, true}
use Rattle.std.proofs.Common.{false, inl, inr, Result, Ok, Err, refl, sym, ap, ◌∙◌, arith, suc, subst}
use Rattle.std.proofs.Common.{is_ok, OnOk, IfErr, IsErrOf, ◌↔◌, append_assoc, length-append}
use Rattle.std.specs.List.{All}
use Rattle.std.proofs.lemmas.Bool.{false≢true}
use Rattle.study_board.specs.Position.{Position}
use Rattle.study_material.specs.declared.class.Class.{Class}
use Rattle.study_material.specs.Class.{IsOf}
use Rattle.study_moves.specs.declared.moves.Move.{Move}
use Rattle.study_moves.specs.Rules.{is_legal, after}
use Rattle.study_values.specs.declared.value.Value.{Value}
use Rattle.study_values.specs.declared.value.Value.TheVariants.{Win, Loss, Draw}
use Rattle.study_values.specs.Game.{IsValueOf}
use Rattle.study_values.specs.declared.values.ProbeFault.{ProbeFault}
use Rattle.study_values.specs.declared.values.ProbeFault.TheVariants as probe
use Rattle.study_text.specs.Counts.{next_count}
use Rattle.study_marks.specs.Annotated.{AreValuesAfter}
use Rattle.study_marks.specs.MoveOutcomes.{MoveOutcomes, tally_of, with_value, with_last_value, tallies_joined}
use Rattle.study_values.specs.Values.{page_number}
use Rattle.study_marks.specs.Queries.{IsTableHeld, IsFirstMissing, IsFirstUnread, counted_up_by}
use Rattle.study_marks.specs.Evaluated.{IsProbeFaultOf, ProbeCount}

-- one more value, counted before or after
joined-with : (t u : MoveOutcomes) (v : Value) → tallies_joined (with_last_value t v) u ≡ tallies_joined t (with_value v u)
joined-with t u (Win n) = refl
joined-with t u (Loss n) = ap (λ ms. record { mates = ms; draws = t.draws + u.draws }) (append_assoc t.mates (n ∷ []) u.mates)
joined-with t u Draw =
    let sum : t.draws + 1 + u.draws ≡ t.draws + (1 + u.draws) = omega arith in
    ap (λ n. record { mates = t.mates ++ u.mates; draws = n }) sum

-- the values after the moves are in the tally
abbrev pub AreCounted : Position → List Move → MoveOutcomes → MoveOutcomes → Type 0
AreCounted p ms old new = (all : List Value) × AreValuesAfter p ms all × (new ≡ tallies_joined old (tally_of all))

pub next_count-more : {T : Type 0} (p : Position) (m : Move) (ms rest : List Move) (v : Value) (old mid new : MoveOutcomes)
    (r : Result T ProbeFault) → ms ≡ m ∷ rest → IsValueOf (after p m) v → mid ≡ with_last_value old v
    → OnOk r (AreCounted p rest mid new) → OnOk r (AreCounted p ms old new)
next_count-more p m ms rest v old mid new (Ok x) e g t h =
    subst (λ (l : List Move). AreCounted p l old new) (sym e)
    (v ∷ h.0, (g, h.1), h.2 ∙ ap (λ u. tallies_joined u (tally_of h.0)) t ∙ joined-with old (tally_of h.0) v)
next_count-more p m ms rest v old mid new (Err f) e g t h = tt

-- tables that are loaded
pub held-evaluated : {V : Type 0} (held : Class → Bool) (p : Position) (r : Result V ProbeFault) (v : V) → r ≡ Ok v
    → ((c : Class) → IsErrOf r (probe.NoTable c) ↔ (IsOf c p × (held c ≡ false))) → IsTableHeld held p
held-evaluated held p r v e h c o = go (held c) refl
  where
    go : (b : Bool) → held c ≡ b → held c ≡ true
    go true k = k
    go false k =
        let one : r ≡ Err (probe.NoTable c) = (h c).1 (o, k) in
        let two : is_ok r ≡ true = ap is_ok e in
        let no : false ≡ true = sym (ap is_ok one) ∙ two in absurd (false≢true no)

pub missing-same : (held now : Class → Bool) (ps : List Position) (c : Class) → ((d : Class) → now d ≡ held d)
    → IsFirstMissing now ps c → IsFirstMissing held ps c
missing-same held now [] c same h = h
missing-same held now (p ∷ ps) c same (inl h) = inl (h.0, sym (same c) ∙ h.1)
missing-same held now (p ∷ ps) c same (inr h) = inr ((λ d o. sym (same d) ∙ h.0 d o), missing-same held now ps c same h.1)

pub unread-same : (held now : Class → Bool) (ps : List Position) (f : ProbeFault) → ((d : Class) → now d ≡ held d)
    → IsFirstUnread now ps f → IsFirstUnread held ps f
unread-same held now [] f same h = h
unread-same held now (p ∷ ps) f same h = (
  (λ d o. sym (same d) ∙ h.0 d o),
  elim h.1 [ inl here ↦ inl here | inr there ↦ inr (unread-same held now ps f same there) ],
)

-- a fault other than a missing table is of a table that is loaded
unread-held : {V : Type 0} (held : Class → Bool) (p : Position) (r : Result V ProbeFault) (f : ProbeFault) → r ≡ Err f
    → ((c : Class) → f ≡ probe.NoTable c → ⊥)
    → ((c : Class) → IsErrOf r (probe.NoTable c) ↔ (IsOf c p × (held c ≡ false))) → IsTableHeld held p
unread-held held p r f e other h c o = go (held c) refl
  where
    go : (b : Bool) → held c ≡ b → held c ≡ true
    go true k = k
    go false k =
        let one : r ≡ Err (probe.NoTable c) = (h c).1 (o, k) in
        let two : Err f ≡ Err (probe.NoTable c) = sym e ∙ one in
        let three : f ≡ probe.NoTable c = cc in absurd (other c three)

-- the first of some values could not be read
pub no_value-here : {V : Type 0} (held : Class → Bool) (p : Position) (ps : List Position) (r : Result V ProbeFault)
    (f : ProbeFault) → r ≡ Err f → ((c : Class) → IsErrOf r (probe.NoTable c) ↔ (IsOf c p × (held c ≡ false)))
    → ((c : Class) (n : ℕ) → IsErrOf r (probe.PageDamaged c n) → IsOf c p × (n ≡ page_number p))
    → IsProbeFaultOf held (p ∷ ps) f
no_value-here held p ps r (probe.NoTable c) e h d = inl ((h c).0 e)
no_value-here held p ps r (probe.TableRead x) e h d =
    (unread-held held p r (probe.TableRead x) e (λ c is. let no : ⊥ = cc in no) h, inl tt)
no_value-here held p ps r (probe.PageDamaged c n) e h d =
    (unread-held held p r (probe.PageDamaged c n) e (λ b is. let no : ⊥ = cc in no) h, inl (d c n e))

pub no_value-later : (held now : Class → Bool) (p : Position) (ps : List Position) (f : ProbeFault) → IsTableHeld held p
    → ((d : Class) → now d ≡ held d) → IsProbeFaultOf now ps f → IsProbeFaultOf held (p ∷ ps) f
no_value-later held now p ps (probe.NoTable c) k same h = inr (k, missing-same held now ps c same h)
no_value-later held now p ps (probe.TableRead x) k same h = (k, inr (unread-same held now ps (probe.TableRead x) same h))
no_value-later held now p ps (probe.PageDamaged c n) k same h =
    (k, inr (unread-same held now ps (probe.PageDamaged c n) same h))

pub no_value-more : {T V : Type 0} (held now : Class → Bool) (p : Position) (ps : List Position)
    (a : Result V ProbeFault) (v : V) (r : Result T ProbeFault) → a ≡ Ok v
    → ((c : Class) → IsErrOf a (probe.NoTable c) ↔ (IsOf c p × (held c ≡ false))) → ((d : Class) → now d ≡ held d)
    → IfErr r (IsProbeFaultOf now ps) → IfErr r (IsProbeFaultOf held (p ∷ ps))
no_value-more held now p ps a v (Ok x) e k same h = tt
no_value-more held now p ps a v (Err f) e k same h = no_value-later held now p ps f (held-evaluated held p a v e k) same h

-- the number of probes
pub asked-more : (n : ℕ) (b : Bool) (old mid new : ℕ) → mid ≡ next_count old → ProbeCount n b mid new → ProbeCount (suc n) b old new
asked-more n true old mid new e h = h ∙ ap (counted_up_by n) e
asked-more n false old mid new e h = (suc h.0, (let z : suc h.0 < suc n = omega (arith, h.1) in z), h.2 ∙ ap (counted_up_by (suc h.0)) e)

-- the remaining moves are legal
pub legal-rest : (p : Position) (m : Move) (ms rest : List Move) → ms ≡ m ∷ rest → All (λ n. is_legal p n ≡ true) ms → All (λ n. is_legal p n ≡ true) rest
legal-rest p m ms rest e h = λ k d i. subst (λ l. All (λ n. is_legal p n ≡ true) l) e h (suc k) d (let z : suc k < length (m ∷ rest) = omega (arith, i) in z)

pub room-with : (t : MoveOutcomes) (v : Value) (n : ℕ) → length t.mates + t.draws + suc n ≤ 62
    → length (with_last_value t v).mates + (with_last_value t v).draws + n ≤ 62
room-with t (Win k) n h = omega (arith, h)
room-with t (Loss k) n h = let long : length (t.mates ++ k ∷ []) ≡ length t.mates + 1 = length-append t.mates (k ∷ []) in omega (arith, h, long)
room-with t Draw n h = omega (arith, h)

pub length-map : {A B : Type 0} (f : A → B) (xs : List A) → length (map f xs) ≡ length xs
length-map f [] = refl
length-map f (x ∷ xs) = ap suc (length-map f xs)
