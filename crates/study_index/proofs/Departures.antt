-- How to compute the number after a man has moved.
use Rattle.std.proofs.Common.{◌≡◌, ℕ, subst}
use Rattle.study_material.specs.declared.class.Class.{Class}
use Rattle.study_index.specs.declared.index_rule.IndexTerms.{IndexTerms}
use Rattle.study_index.specs.declared.index_rule.IndexRule.TheVariants.{Sum, LeastImage, King, Search}
use Rattle.study_index.specs.Departure.{IsAdded, IsLeastOfAdded, IsFoundBy, StandsOn}

module _ (c : Class) (n x : ℕ) where
  pub found_sum : (t : IndexTerms) → IsAdded c n x t → IsFoundBy c n x (Sum t)
  found_sum t h = record {
    sum = λ u e. subst (λ (v : IndexTerms). IsAdded c n x v) (let r : t ≡ u = cc in r) h;
    image = λ u e. absurd cc;
    king = λ e. absurd cc;
  }

  pub found_image : (t : IndexTerms) → IsLeastOfAdded c n x t → IsFoundBy c n x (LeastImage t)
  found_image t h = record {
    sum = λ u e. absurd cc;
    image = λ u e. subst (λ (v : IndexTerms). IsLeastOfAdded c n x v) (let r : t ≡ u = cc in r) h;
    king = λ e. absurd cc;
  }

  pub found_king : StandsOn c n 0 x → IsFoundBy c n x King
  found_king h = record { sum = λ u e. absurd cc; image = λ u e. absurd cc; king = λ e. h }

  pub found_search : IsFoundBy c n x Search
  found_search = record { sum = λ u e. absurd cc; image = λ u e. absurd cc; king = λ e. absurd cc }
