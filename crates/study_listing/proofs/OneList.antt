-- A range has exactly one list.
use Rattle.std.proofs.Common.{◌≡◌, ℕ, ◌+◌, ◌≤◌, Bool, true, false, List, [], ◌∷◌, ◌++◌, length, Option, Some, None, ◌∙◌, ap, refl, sym, subst, arith}
use Rattle.std.proofs.Common.{inl, inr, Result, Ok, Err, IfOk}
use Rattle.std.proofs.lemmas.Bool.{cases_lt}
use Rattle.study_board.specs.Position.{Position}
use Rattle.study_moves.specs.declared.moves.Move.{Move}
use Rattle.study_moves.specs.Laws.{EachHasAtMostOneValue}
use Rattle.study_values.specs.declared.value.Value.{Value}
use Rattle.study_listing.specs.declared.filters.Selection.{Selection}
use Rattle.study_search.specs.declared.themes.Theme.{Theme}
use Rattle.study_search.specs.Finding.{AreFound}
use Rattle.study_search.proofs.AllFound.{in-range, there, ascend}
use Rattle.study_zugzwang.proofs.Zugzwangs.{one-value}
use Rattle.study_listing.specs.declared.facts.Facts.{Facts}
use Rattle.study_listing.specs.declared.text.Form.{Form}
use Rattle.study_listing.specs.declared.text.Form.TheVariants.{Lines, Script}
use Rattle.study_listing.specs.Facts.{IsOtherValue, IsOneKey, SaidIf, AreFacts, IsTextOf, has_other, has_key}
use Rattle.study_listing.specs.Lines.{line_of}
use Rattle.study_listing.proofs.MainLines.{study-unique}
use Rattle.study_listing.specs.Lists.{IsListedAt, IsTextAt, AreTexts, AreSoMany, HasWritten, listed_image}
use Rattle.study_listing.specs.Laws.{ListsAreUnique, ListsHaveAll}

pub found-unique : (P : ℕ → Type 0) (a b : ℕ) (ns ms : List ℕ) → AreFound P a b ns → AreFound P a b ms → ns ≡ ms
found-unique P a b [] [] h k = refl
found-unique P a b [] (m ∷ ms) h k = absurd (h m k.0.0 k.0.1 k.0.2)
found-unique P a b (n ∷ ns) [] h k = absurd (k n h.0.0 h.0.1 h.0.2)
found-unique P a b (n ∷ ns) (m ∷ ms) h k = elim (cases_lt n m) [
  | inl l ↦ absurd (k.0.3 n h.0.0 l h.0.2)
  | inr g ↦ elim (cases_lt m n) [
    | inl l ↦ absurd (h.0.3 m k.0.0 l k.0.2)
    | inr f ↦
        let same : n ≡ m = omega (arith, g, f) in
        ap (λ x. x ∷ ns) same
        ∙ ap (λ (xs : List ℕ). m ∷ xs) (found-unique P (n + 1) b ns ms h.1 (subst (λ x. AreFound P (x + 1) b ms) (sym same) k.1))
  ]
]

-- so the counts are equal
pub one-count : (s : Selection) (a b c : ℕ) (ns : List ℕ) → AreSoMany s a b c → AreFound (IsListedAt s) a b ns → length ns ≡ c
one-count s a b c ns w h = ap (λ (xs : List ℕ). length xs) (found-unique (IsListedAt s) a b ns w.0 h w.1) ∙ w.2

-- and as many are written as were counted
pub few-written : {E : Type 0} (s : Selection) (form : Form) (a b c limit : ℕ) (old new : Option (List ℕ)) (r : Result ℕ E) → AreSoMany s a b c
    → c ≤ limit → IfOk r (HasWritten s form a b old new) → IfOk r (λ k. k ≤ limit)
few-written s form a b c limit old new (Ok k) many few w =
    let same : k ≡ c = sym w.counted ∙ one-count s a b c w.numbers many w.list.found in
    subst (λ x. x ≤ limit) (sym same) few
few-written s form a b c limit old new (Err e) many few w = tt

pub texts-unique : (T : ℕ → List ℕ → Type 0) → ((n : ℕ) (x y : List ℕ) → T n x → T n y → x ≡ y) → (ns : List ℕ) (x y : List ℕ)
    → AreTexts T ns x → AreTexts T ns y → x ≡ y
texts-unique T one [] x y e f = e ∙ sym f
texts-unique T one (n ∷ ns) x y (first, rest, t, ts, e) (front, back, u, us, f) =
    e ∙ ap (λ (z : List ℕ). z ++ rest) (one n first front t u)
    ∙ ap (λ (z : List ℕ). front ++ z) (texts-unique T one ns rest back ts us) ∙ sym f

pub none-some : {A : Type 0} (x : A) → None ≡ Some x → ⊥
none-some x e = cc

pub same-some : {A : Type 0} (x y : A) → Some x ≡ Some y → x ≡ y
same-some x y e = cc

other-unique : EachHasAtMostOneValue → (p : Position) (x y : Option Value) → IsOtherValue p x → IsOtherValue p y → x ≡ y
other-unique law p None None h k = refl
other-unique law p None (Some v) h k = absurd (h k.0)
other-unique law p (Some v) None h k = absurd (k h.0)
other-unique law p (Some v) (Some w) h k = ap (λ (z : Value). Some z) (one-value law _ v w h.1 k.1)

key-unique : (p : Position) (x y : Option Move) → IsOneKey p x → IsOneKey p y → x ≡ y
key-unique p None None h k = refl
key-unique p None (Some m) h k = absurd (none-some m ((h m).1 ((k m).0 refl)))
key-unique p (Some m) y h k = sym ((k m).1 ((h m).0 refl))

said-unique : {A : Type 0} (b : Bool) (P : Option A → Type 0) (x y : Option A) → (P x → P y → x ≡ y) → SaidIf b P x → SaidIf b P y → x ≡ y
said-unique true P x y one h k = one h k
said-unique false P x y one h k = h ∙ sym k

abbrev facts : Value → Option Value → Option Move → Facts
facts v o m = record { value = v; other = o; key = m }

facts-same : (f g : Facts) → f.value ≡ g.value → f.other ≡ g.other → f.key ≡ g.key → f ≡ g
facts-same f g a b c =
    ap (λ (v : Value). facts v f.other f.key) a
    ∙ ap (λ (o : Option Value). facts g.value o f.key) b
    ∙ ap (λ (m : Option Move). facts g.value g.other m) c

facts-unique : EachHasAtMostOneValue → (o k : Bool) (p : Position) (f g : Facts) → AreFacts o k p f → AreFacts o k p g → f ≡ g
facts-unique law o k p f g h j =
    facts-same f g (one-value law p f.value g.value h.value j.value)
    (said-unique o (IsOtherValue p) f.other g.other (other-unique law p f.other g.other) h.other j.other)
    (said-unique k (IsOneKey p) f.key g.key (key-unique p f.key g.key) h.key j.key)

text-unique : EachHasAtMostOneValue → (form : Form) (t : Theme) (p : Position) (x y : List ℕ) → IsTextOf form t p x → IsTextOf form t p y → x ≡ y
text-unique law Lines t p x y (f, h, e) (g, k, d) =
    e ∙ ap (λ (z : Facts). line_of p z) (facts-unique law (has_other t) (has_key t) p f g h k) ∙ sym d
text-unique law Script t p x y h k = study-unique law p x y h k

text-at-unique : EachHasAtMostOneValue → (s : Selection) (form : Form) (n : ℕ) (x y : List ℕ) → IsTextAt s form n x → IsTextAt s form n y → x ≡ y
text-at-unique law s form n x y (p, e, (i, f, h)) (q, d, (j, g, k)) =
    let same = same-some q p (sym d ∙ e) in
    let image = same-some j i (sym (subst (λ (r : Position). listed_image s r ≡ Some j) same g) ∙ f) in
    text-unique law form s.search.theme i x y h (subst (λ (r : Position). IsTextOf form s.search.theme r y) image k)

pub lists-unique : EachHasAtMostOneValue → ListsAreUnique
lists-unique law s form a b ns ms text other h k =
    let same = found-unique (IsListedAt s) a b ns ms h.found k.found in (
      same,
      texts-unique (IsTextAt s form) (text-at-unique law s form) ns text other h.texts
          (subst (λ (xs : List ℕ). AreTexts (IsTextAt s form) xs other) (sym same) k.texts),
    )

pub lists-all : ListsHaveAll
lists-all s form a b ns text h = (
  λ k. (
    (λ m. in-range (IsListedAt s) ns a b h.found k m.0 m.1 m.2),
    (λ r. there (IsListedAt s) ns a b h.found k r.0 r.1 r.2),
  ),
  ascend (IsListedAt s) ns a b h.found,
)
