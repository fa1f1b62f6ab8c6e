-- Words that are refused, keys that pass the filters, and positions that are listed.
use Rattle.std.proofs.Common.{◌≡◌, ◌↔◌, ℕ, Bool, true, List, [], ◌∷◌, Option, Some, None, is_some, false, Result, Ok, Err, refl, sym, subst, ◌∙◌}
use Rattle.std.specs.Prelude.{IfOk}
use Rattle.std.proofs.lemmas.Bool.{false≢true}
use Rattle.study_board.specs.Position.{Position}
use Rattle.study_moves.specs.declared.moves.Move.{Move}
use Rattle.study_search.specs.declared.themes.Theme.{Theme}
use Rattle.study_search.specs.Finding.{IsLookedFor}
use Rattle.study_listing.specs.declared.filters.Filters.{Filters}
use Rattle.study_listing.specs.declared.filters.Selection.{Selection}
use Rattle.study_listing.specs.declared.filter_words.Unread.{Unread}
use Rattle.study_listing.specs.Facts.{IsOneKey}
use Rattle.study_listing.specs.Filters.{is_let_through, is_key_let_through, is_on_key, HasKeyLetThrough, HasWantedKey, HasWantedResult}
use Rattle.study_listing.specs.Features.{HasWantedRow}
use Rattle.study_listing.specs.FilterWords.{with_words}
use Rattle.study_listing.specs.Lists.{listed_image, IsOneOfPair, IsListed}
use Rattle.study_listing.specs.LetThrough.{IsLetThrough}
use Rattle.study_listing.proofs.OneList.{none-some, same-some}

pub still_refused : (t : Theme) (fault : Unread) (words : List (List ℕ)) → with_words t (Err fault) words ≡ Err fault
still_refused t fault [] = refl
still_refused t fault (word ∷ more) = refl

pub has_key_let_through : (f : Filters) (p : Position) (key : Option Move) → IsOneKey p key
    → (is_key_let_through f p key ≡ true) ↔ HasKeyLetThrough f p
has_key_let_through f p None one = ((λ e. absurd (false≢true e)), (λ h. absurd (none-some h.0 ((one h.0).1 h.1))))
has_key_let_through f p (Some m) one =
    ((λ e. (m, (one m).0 refl, e)), (λ h. subst (λ (k : Move). is_let_through f p k ≡ true) (sym (same-some m h.0 ((one h.0).1 h.1))) h.2))

-- the same if a filter concerns the key
pub if-asked : {E : Type 0} (f : Filters) (p : Position) (r : Result Bool E) → is_on_key f ≡ true
    → IfOk r (λ b. (b ≡ true) ↔ HasKeyLetThrough f p) → IfOk r (λ b. (b ≡ true) ↔ HasWantedKey f p)
if-asked f p (Ok b) asked h = ((λ e. λ x. h.0 e), (λ k. h.1 (k asked)))
if-asked f p (Err e) asked h = tt

pub if-through : {E : Type 0} (s : Selection) (p : Position) (r : Result Bool E) → IsOneOfPair s.search p → HasWantedKey s.filters p
    → IfOk r (λ b. (b ≡ true) ↔ HasWantedResult s.filters.result p) → IfOk r (λ b. (b ≡ true) ↔ IsLetThrough s p)
if-through s p (Ok b) first key h = ((λ e. (first, key, h.0 e)), (λ l. h.1 l.2))
if-through s p (Err e) first key h = tt

pub if-shown : {E : Type 0} (s : Selection) (p q : Position) (r : Result Bool E) → IsLookedFor s.search p → IsLetThrough s p
    → listed_image s p ≡ Some q → IfOk r (λ b. (b ≡ true) ↔ HasWantedRow s.filters.row q) → IfOk r (λ b. (b ≡ true) ↔ IsListed s p)
if-shown s p q (Ok b) sought through shown h = (
  (λ e. record {
    sought = sought;
    first = through.0;
    placed = subst (λ (i : Option Position). is_some i ≡ true) (sym shown) refl;
    key = through.1;
    result = through.2;
    row = λ x is. subst (λ (y : Position). HasWantedRow s.filters.row y) (same-some q x (sym shown ∙ is)) (h.0 e);
  }),
  (λ l. h.1 (l.row q shown)),
)
if-shown s p q (Err e) sought through shown h = tt

pub not-through : (s : Selection) (p : Position) (b : Bool) → ((b ≡ true) ↔ IsLetThrough s p) → b ≡ false → (false ≡ true) ↔ IsListed s p
not-through s p b h is = ((λ e. absurd (false≢true e)), (λ l. absurd (false≢true (sym is ∙ h.1 (l.first, l.key, l.result)))))
