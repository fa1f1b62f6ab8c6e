-- The replies to edits that probe no table.
use Rattle.std.proofs.Common.{◌≡◌, ℕ, Bool, true, false, List, [], ◌∷◌, Option, Some, None, Result, Ok, Err, refl, sym, ap, ◌∙◌, subst}
use Rattle.std.specs.Prelude.{MatchOption, IsOk, not, nat_eq, if◌then◌else◌}
use mathlib.Core.Bool.{true≢false}
use Rattle.study_tree.specs.Edits.{last_place}
use Rattle.study_tree.specs.Tree.{has_spot}
use Rattle.study_marks.specs.declared.refusal.Refusal.{Refusal as EditRefusal}
use Rattle.study_marks.specs.Edits.{PlainStudy, there, is_tag_text, delete_refusal, promote_refusal, tag_refusal}
use Rattle.study_reply.specs.Names.{edit_words}
use Rattle.study_script.specs.State.{State}
use Rattle.study_script.specs.Replies.{accepted_reply, refused_as, with_study, edit_reply}

-- two reasons have the same words
abbrev pub SameWords : {A B : Type 0} → Option (EditRefusal A) → Option (EditRefusal B) → Type 0
SameWords None None = Unit {0}
SameWords None (Some b) = ⊥
SameWords (Some a) None = ⊥
SameWords (Some a) (Some b) = edit_words a ≡ edit_words b

abbrev pub result_words : {T A : Type 0} → Result T (EditRefusal A) → List ℕ
result_words (Ok v) = []
result_words (Err e) = edit_words e

module _ {T A B : Type 0} where
  pub refused_same : (s : State) (x : Option (EditRefusal A)) (y : Option (EditRefusal B)) → SameWords x y
      → (r : Result T (EditRefusal A)) (e : EditRefusal A) → MatchOption x (IsOk r) (λ f. r ≡ Err f) → r ≡ Err e
      → MatchOption y (⊥) (λ f. edit_words e ≡ edit_words f)
  refused_same s None None same r e m is = true≢false (sym (subst IsOk is m))
  refused_same s None (Some b) same r e m is = absurd same
  refused_same s (Some a) None same r e m is = absurd same
  refused_same s (Some a) (Some b) same r e m is = ap result_words (sym is ∙ m) ∙ same

  pub accepted_same : (x : Option (EditRefusal A)) (y : Option (EditRefusal B)) → SameWords x y
      → (r : Result T (EditRefusal A)) (v : T) → MatchOption x (IsOk r) (λ f. r ≡ Err f) → r ≡ Ok v → y ≡ None
  accepted_same None None same r v m is = refl
  accepted_same None (Some b) same r v m is = absurd same
  accepted_same (Some a) None same r v m is = absurd same
  accepted_same (Some a) (Some b) same r v m is = absurd (true≢false (sym (subst IsOk m (subst IsOk (sym is) refl))))

-- a refused edit has the reply of the definition
reply_refused : (s : State) (y : Option (EditRefusal (Unit {0}))) (words : List ℕ) (new : PlainStudy) (text : List ℕ)
    → MatchOption y (⊥) (λ f. words ≡ edit_words f) → refused_as s words ≡ edit_reply s y new text
reply_refused s None words new text m = absurd m
reply_refused s (Some f) words new text m = ap (refused_as s) m

module _ {T A : Type 0} where
  pub edit_refused : (s : State) (x : Option (EditRefusal A)) (y : Option (EditRefusal (Unit {0}))) (new : PlainStudy)
      (text : List ℕ) → SameWords x y → (r : Result T (EditRefusal A)) (e : EditRefusal A)
      → MatchOption x (IsOk r) (λ f. r ≡ Err f) → r ≡ Err e → refused_as s (edit_words e) ≡ edit_reply s y new text
  edit_refused s x y new text same r e m is = reply_refused s y (edit_words e) new text (refused_same s x y same r e m is)

  pub edit_accepted : (s : State) (x : Option (EditRefusal A)) (y : Option (EditRefusal (Unit {0}))) (new : PlainStudy)
      (text : List ℕ) → SameWords x y → (r : Result T (EditRefusal A)) (v : T)
      → MatchOption x (IsOk r) (λ f. r ≡ Err f) → r ≡ Ok v → accepted_reply (with_study s new) text ≡ edit_reply s y new text
  edit_accepted s x y new text same r v m is = ap (λ z. edit_reply s z new text) (sym (accepted_same x y same r v m is))

-- ---- the reasons

module _ {A B : Type 0} where
  pub same_if : (b : Bool) (x1 x2 : Option (EditRefusal A)) (y1 y2 : Option (EditRefusal B)) → SameWords x1 y1
      → SameWords x2 y2 → SameWords (if b then x1 else x2) (if b then y1 else y2)
  same_if true x1 x2 y1 y2 p q = p
  same_if false x1 x2 y1 y2 p q = q

  pub same_there : (k : Option ℕ) (x : Option (EditRefusal A)) (y : Option (EditRefusal B)) → SameWords x y → SameWords (there k x) (there k y)
  same_there None x y p = p
  same_there (Some k) x y p = refl

pub delete_same : (A B : Type 0) (s : PlainStudy) (steps : List ℕ) → SameWords (delete_refusal {A = A} s steps) (delete_refusal {A = B} s steps)
delete_same A B s [] = refl
delete_same A B s (k ∷ ks) = same_if (not (has_spot s.tree (k ∷ ks))) _ _ _ _ refl tt

pub promote_same : (A B : Type 0) (s : PlainStudy) (steps : List ℕ) → SameWords (promote_refusal {A = A} s steps) (promote_refusal {A = B} s steps)
promote_same A B s [] = refl
promote_same A B s (k ∷ ks) = same_if (not (has_spot s.tree (k ∷ ks))) _ _ _ _ refl (same_if (nat_eq (last_place k ks) 0) _ _ _ _ refl tt)

pub tag_same : (A B : Type 0) (text : List ℕ) → SameWords (tag_refusal {A = A} text) (tag_refusal {A = B} text)
tag_same A B text = same_if (is_tag_text text) _ _ _ _ tt refl
