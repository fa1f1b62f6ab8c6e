-- Markup that grows at the end.
use Rattle.std.proofs.Common.{◌≡◌, ℕ, List, [], ◌++◌, refl, sym, ap, ◌∙◌, append_assoc}
use Rattle.std.proofs.lemmas.List.{append-nil}
use Rattle.study_html.specs.declared.element.Element.{Element}
use Rattle.study_html.specs.declared.drawing.Drawing.{Drawing}
use Rattle.study_html.specs.Escape.{escaped_text, lettered_text}
use Rattle.study_html.specs.Elements.{element_text}
use Rattle.study_html.specs.Drawings.{drawing_text}
use Rattle.study_html.specs.Markup.{Markup, nothing, words, letters, element, drawing, text_of, IsWellNested}

abbrev then : Markup → Markup → Markup
then nothing n = n
then (words w r) n = words w (then r n)
then (letters w r) n = letters w (then r n)
then (element e i r) n = element e i (then r n)
then (drawing d r) n = drawing d (then r n)

then-text : (m n : Markup) → text_of (then m n) ≡ text_of m ++ text_of n
then-text nothing n = refl
then-text (words w r) n = ap (λ (t : List ℕ). escaped_text w ++ t) (then-text r n) ∙ sym (append_assoc (escaped_text w) (text_of r) (text_of n))
then-text (letters w r) n = ap (λ (t : List ℕ). lettered_text w ++ t) (then-text r n) ∙ sym (append_assoc (lettered_text w) (text_of r) (text_of n))
then-text (element e i r) n =
    ap (λ (t : List ℕ). element_text e (text_of i) ++ t) (then-text r n) ∙ sym (append_assoc (element_text e (text_of i)) (text_of r) (text_of n))
then-text (drawing d r) n = ap (λ (t : List ℕ). drawing_text d ++ t) (then-text r n) ∙ sym (append_assoc (drawing_text d) (text_of r) (text_of n))

pub none_nested : IsWellNested []
none_nested = (nothing, refl)

pub both_nested : (a b : List ℕ) → IsWellNested a → IsWellNested b → IsWellNested (a ++ b)
both_nested a b h k = (then h.0 k.0, ap (λ (t : List ℕ). t ++ b) h.1 ∙ ap (λ (t : List ℕ). text_of h.0 ++ t) k.1 ∙ sym (then-text h.0 k.0))

pub said_nested : (a w : List ℕ) → IsWellNested a → IsWellNested (a ++ escaped_text w)
said_nested a w h = both_nested a (escaped_text w) h (words w nothing, sym (append-nil (escaped_text w)))

pub spelled_nested : (a w : List ℕ) → IsWellNested a → IsWellNested (a ++ lettered_text w)
spelled_nested a w h = both_nested a (lettered_text w) h (letters w nothing, sym (append-nil (lettered_text w)))

pub inside_nested : (a i : List ℕ) (e : Element) → IsWellNested a → IsWellNested i → IsWellNested (a ++ element_text e i)
inside_nested a i e h k =
    both_nested a (element_text e i) h (element e k.0 nothing, ap (element_text e) k.1 ∙ sym (append-nil (element_text e (text_of k.0))))

pub drawn_nested : (a : List ℕ) (d : Drawing) → IsWellNested a → IsWellNested (a ++ drawing_text d)
drawn_nested a d h = both_nested a (drawing_text d) h (drawing d nothing, sym (append-nil (drawing_text d)))
