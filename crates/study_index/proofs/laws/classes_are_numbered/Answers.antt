use Rattle.std.proofs.Common.{◌≡◌, unwrap_or, sym, ap, ◌∙◌, subst}
use Rattle.study_board.specs.Position.{Position}
use Rattle.study_board.specs.Images.{IsImage}
use Rattle.study_moves.specs.EnPassant.{without_idle_passed_square}
use Rattle.study_moves.proofs.AlikePositions.{AreAlike-mated}
use Rattle.study_material.proofs.MovesOn.{moves_lead_on}
use Rattle.study_index.proofs.ClassLaws.{below, entry, same_class, same_index, alike_back, alike_move, numbered}
use Rattle.study_index.proofs.ComputedIndex.{numbered_of_decoded}
use Rattle.study_index.proofs.laws.classes_are_numbered.Goals as goal

pub returns : goal.returns
returns c = λ k. record {
  below = λ n q d. below k n q d;
  decoded = λ n q d. (let r = entry k n q d in record { valid = r.valid; of_class = r.of_class; in_order = r.in_order; is_bare = r.is_bare; index = r.index });
  numbered = λ p n v o i. numbered k p n v o i;
  index_below = λ p n v o i. (let r = numbered k p n v o i in below k n r.0 r.1);
  image = λ p q n v o i d. (
      let r = numbered k p n v o i in
      let same : r.0 ≡ q = ap (λ x. unwrap_or x q) (sym (numbered_of_decoded k n r.0 r.1) ∙ numbered_of_decoded k n q d) in
      subst (λ (x : Position). IsImage (without_idle_passed_square p) x) (ap (λ x. without_idle_passed_square x) same ∙ (entry k n q d).is_bare)
      (alike_back k r.0 p r.2).alike.images);
  back = λ p q h. alike_back k p q h;
  move = λ p q r h l. alike_move k p q r h l;
  mated = λ p q h mate. AreAlike-mated p q h.alike mate;
  same_home = λ p q h o. same_class p q k h.alike o;
  same_index = λ p q n h o i. same_index k p q n h o i;
  closed = λ p q v o l. moves_lead_on k p q v o l;
}
