use Rattle.std.proofs.Common.{◌≡◌, ℕ, Some, refl, sym, ◌∙◌, ap}
use Rattle.std.proofs.lemmas.Bool.{eqb-true, eq-eqb}
use Rattle.study_index.specs.Decoded.{slots_have_pawn}
use Rattle.study_index.specs.Stepped.{are_like_slots}
use Rattle.study_index.specs.LeastImage.{least_image}
use Rattle.study_index.proofs.LeastImages.{least_decoded}
use Rattle.study_index.proofs.decoding.is_least.Goals as goal

the_same : (m n : ℕ) → Some m ≡ Some n → m ≡ n
the_same m n e = cc

pub returns : goal.returns
returns c =
    let slots = c.args.slots.now in
    let least = least_image (slots_have_pawn slots) (are_like_slots slots) slots c.args.n in
    let decoded_as = least_decoded (slots_have_pawn slots) slots c.args.n c.requires.slots c.requires.cell in
    let is : c.least_image.result ≡ least = c.least_image.ensures ∙ rw (c.requires.pawns, c.requires.like) refl in (
      λ h. decoded_as ∙ ap (λ (m : ℕ). Some m) (sym is ∙ eqb-true c.least_image.result c.args.n h),
      λ h. eq-eqb c.least_image.result c.args.n (is ∙ the_same least c.args.n (sym decoded_as ∙ h)),
    )
