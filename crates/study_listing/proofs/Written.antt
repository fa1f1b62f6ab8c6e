-- The growing list.
use Rattle.std.proofs.Common.{◌≡◌, ℕ, ◌+◌, ◌≤◌, List, [], ◌∷◌, ◌++◌, Option, Some, None, ◌⊎◌, ◌∙◌, ap, refl, subst, arith, inl, inr}
use Rattle.std.specs.Prelude.{IfSome, IfNone}
use Rattle.std.proofs.lemmas.List.{length-append}
use Rattle.std.proofs.lemmas.Bool.{cases_lt}
use Rattle.std.specs.Io.KnownBytes.{Appends}
use Rattle.std.proofs.KnownBytes.{Appends-nil, Appends-trans}
use Rattle.study_text.specs.Taken.{TakesPrefix}
use Rattle.study_text.proofs.TextTaken.{TakesPrefix-second}
use Rattle.study_listing.specs.declared.filters.Selection.{Selection}
use Rattle.study_search.specs.Finding.{HoldsOfNone, AreFound, IsFound, IsFirst, IsNext}
use Rattle.study_listing.specs.declared.text.Form.{Form}
use Rattle.study_listing.specs.Lists.{IsListedAt, IsTextAt, AreSoMany, HasWritten, HasStopped}
use Rattle.study_listing.proofs.Found.{found-on, found-more, found-none, texts-more}

-- a number that is not found is not listed
pub not-listed : (s : Selection) (a b : ℕ) → HoldsOfNone (IsFound s.search) a b → HoldsOfNone (IsListedAt s) a b
not-listed s a b none k from below x = none k from below (x.0, x.1, x.2.sought)

-- no number before the first that is found is listed
pub none-listed : (s : Selection) (a n : ℕ) → HoldsOfNone (IsFound s.search) a n → ¬ (IsListedAt s n) → HoldsOfNone (IsListedAt s) a (n + 1)
none-listed s a n none not k from below x = elim (cases_lt k n) [
  | inl l ↦ none k from l (x.0, x.1, x.2.sought)
  | inr g ↦ (let same : k ≡ n = omega (arith, g, below) in not (subst (IsListedAt s) same x))
]

-- ---- counted

pub many-none : (s : Selection) (a : ℕ) → AreSoMany s a a 0
many-none s a = ([], (λ k on below. absurd (omega (arith, on, below))), refl)

pub many-on : (s : Selection) (a m n c : ℕ) → AreSoMany s a m c → m ≤ n → HoldsOfNone (IsListedAt s) m n → AreSoMany s a n c
many-on s a m n c w l none = (w.0, found-on (IsListedAt s) w.0 a m n w.1 l none, w.2)

pub many-more : (s : Selection) (a m n c : ℕ) → AreSoMany s a m c → a ≤ m → m ≤ n → HoldsOfNone (IsListedAt s) m n → IsListedAt s n
    → AreSoMany s a (n + 1) (c + 1)
many-more s a m n c w from l none p =
    (w.0 ++ n ∷ [], found-more (IsListedAt s) w.0 a m n w.1 from l none p, length-append w.0 (n ∷ []) ∙ ap (λ k. k + 1) w.2)

pub many-end : (s : Selection) (a at b c : ℕ) → AreSoMany s a at c → (at ≤ b) ⊎ (at ≡ a) → b ≤ at → AreSoMany s a b c
many-end s a at b c w within past = elim within [
  | inl l ↦ (let same : at ≡ b = omega (arith, l, past) in subst (λ k. AreSoMany s a k c) same w)
  | inr e ↦
      let low : b ≤ a = omega (arith, e, past) in
      (w.0, found-none (IsListedAt s) w.0 a b (subst (λ k. AreFound (IsListedAt s) a k w.0) e w.1) low, w.2)
]

-- ---- written

pub written-none : (s : Selection) (form : Form) (a : ℕ) (old : Option (List ℕ)) → HasWritten s form a a old old 0
written-none s form a old = record {
  numbers = [];
  text = [];
  list = record { found = λ k on below. absurd (omega (arith, on, below)); texts = refl };
  written = Appends-nil old;
  counted = refl;
}

pub written-on : (s : Selection) (form : Form) (a m n : ℕ) (old new : Option (List ℕ)) (c : ℕ) → HasWritten s form a m old new c → m ≤ n
    → HoldsOfNone (IsListedAt s) m n → HasWritten s form a n old new c
written-on s form a m n old new c w l none = record {
  numbers = w.numbers;
  text = w.text;
  list = record { found = found-on (IsListedAt s) w.numbers a m n w.list.found l none; texts = w.list.texts };
  written = w.written;
  counted = w.counted;
}

pub written-more : (s : Selection) (form : Form) (a m n : ℕ) (old mid new : Option (List ℕ)) (c : ℕ) (text : List ℕ)
    → HasWritten s form a m old mid c → a ≤ m → m ≤ n → HoldsOfNone (IsListedAt s) m n → IsListedAt s n → IsTextAt s form n text
    → Appends mid new text → HasWritten s form a (n + 1) old new (c + 1)
written-more s form a m n old mid new c text w from l none p t h = record {
  numbers = w.numbers ++ n ∷ [];
  text = w.text ++ text;
  list = record {
    found = found-more (IsListedAt s) w.numbers a m n w.list.found from l none p;
    texts = texts-more (IsTextAt s form) w.numbers n w.text text w.list.texts t;
  };
  written = Appends-trans old mid new w.text text w.written h;
  counted = length-append w.numbers (n ∷ []) ∙ ap (λ k. k + 1) w.counted;
}

pub written-stopped : (s : Selection) (form : Form) (a b m n : ℕ) (old mid new : Option (List ℕ)) (c : ℕ) (text : List ℕ)
    → HasWritten s form a m old mid c → a ≤ m → m ≤ n → n + 1 ≤ b → HoldsOfNone (IsListedAt s) m n → IsListedAt s n → IsTextAt s form n text
    → TakesPrefix mid new text → HasStopped s form a b old new
written-stopped s form a b m n old mid new c text w from l less none p t h = record {
  end = n + 1;
  within = less;
  numbers = w.numbers ++ n ∷ [];
  text = w.text ++ text;
  list = record {
    found = found-more (IsListedAt s) w.numbers a m n w.list.found from l none p;
    texts = texts-more (IsTextAt s form) w.numbers n w.text text w.list.texts t;
  };
  taken = TakesPrefix-second old mid new w.text text w.written h;
}

pub written-end : (s : Selection) (form : Form) (a at b : ℕ) (old new : Option (List ℕ)) (c : ℕ) → HasWritten s form a at old new c
    → (at ≤ b) ⊎ (at ≡ a) → b ≤ at → HasWritten s form a b old new c
written-end s form a at b old new c w within past = elim within [
  | inl l ↦ (let same : at ≡ b = omega (arith, l, past) in subst (λ k. HasWritten s form a k old new c) same w)
  | inr e ↦
      let low : b ≤ a = omega (arith, e, past) in
      record {
        numbers = w.numbers;
        text = w.text;
        list = record {
          found = found-none (IsListedAt s) w.numbers a b (subst (λ k. AreFound (IsListedAt s) a k w.numbers) e w.list.found) low;
          texts = w.list.texts;
        };
        written = w.written;
        counted = w.counted;
      }
]

-- ---- the result of the search

pub next-none : (P : ℕ → Type 0) (a b : ℕ) (next : Option ℕ) → IsNext P a b next → next ≡ None → HoldsOfNone P a b
next-none P a b next h e = subst (λ (x : Option ℕ). IsNext P a b x) e h

pub next-some : (P : ℕ → Type 0) (a b n : ℕ) (next : Option ℕ) → IsNext P a b next → next ≡ Some n → IsFirst P a b n
next-some P a b n next h e = subst (λ (x : Option ℕ). IsNext P a b x) e h

pub if-some : {A : Type 0} (P : A → Type 0) (x : A) (o : Option A) → IfSome o P → o ≡ Some x → P x
if-some P x o h e = subst (λ o. IfSome o P) e h

pub if-none : {A : Type 0} (P : Type 0) (o : Option A) → IfNone o P → o ≡ None → P
if-none P o h e = subst (λ o. IfNone o P) e h
