-- Each position that passes the filters is listed.
use Rattle.std.proofs.Common.{sym, ap, subst, ◌∙◌}
use Rattle.std.proofs.lemmas.Bool.{false≢true}
use Rattle.study_board.specs.Symmetry.{turned_side}
use Rattle.study_board.proofs.ImagesOfImages.{IsTurnable-from_valid}
use Rattle.study_moves.specs.Laws.{AllAgreeWithBare}
use Rattle.study_search.specs.Laws.{EachIsFoundOnce}
use Rattle.study_search.specs.Finding.{is_for}
use Rattle.study_listing.specs.Filters.{HasWantedKey, HasWantedResult}
use Rattle.study_listing.specs.Laws.{EachIsListed}
use Rattle.study_listing.proofs.PlacedImages.{kept, image-placed}
use Rattle.study_listing.proofs.KeyImages.{wanted-image, result-image}
use Rattle.study_listing.proofs.Shown.{has-some}

pub each-listed : AllAgreeWithBare → EachIsFoundOnce → EachIsListed
each-listed law each s p valid home unswapped side theme there key result shown unpaired alone plain =
    let found = (each s.search p valid home (ap (λ b. is_for s.search.side (turned_side b p.to_move)) unswapped ∙ side) theme).found in
    let q = found.0 in
    let k = kept law s.search.class p q valid home unswapped found.1 in
    let turnable = IsTurnable-from_valid k.by _ (law p valid).valid k.admitted in (
      q,
      found.1,
      record {
        sought = found.2;
        first = λ paired. absurd (false≢true (sym unpaired ∙ paired));
        placed = has-some s q plain (image-placed law s.search.class p q valid home unswapped found.1 s.filters.men there);
        key = subst (λ x. HasWantedKey s.filters x) (sym k.is) (wanted-image law p valid k.by turnable s.filters key);
        result = subst (λ x. HasWantedResult s.filters.result x) (sym k.is) (result-image law p valid k.by turnable s.filters.result result);
        row = shown q found.1;
      },
      λ wanted. absurd (false≢true (sym alone ∙ wanted)),
    )
