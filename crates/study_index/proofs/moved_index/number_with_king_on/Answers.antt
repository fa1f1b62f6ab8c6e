use Rattle.std.proofs.Common.{◌≡◌, ℕ, Some, refl, sym, ◌∙◌, ap}
use Rattle.study_board.specs.declared.men.Side.{Side}
use Rattle.study_board.specs.Men.{other_side}
use Rattle.study_index.specs.Decoded.{decoded_side}
use Rattle.study_index.specs.LeastImage.{with_head}
use Rattle.study_index.proofs.ListedKings.{listed_number}
use Rattle.study_index.proofs.moved_index.number_with_king_on.Goals as goal

pub returns-in-Some-clause-value : goal.returns-in-Some-clause-value
returns-in-Some-clause-value c =
    let a = c.args in
    let side : Side = other_side (decoded_side a.slots.now a.n) in
    let same : c.other-side.result ≡ side =
    c.other-side.ensures ∙ ap (λ (s : Side). other_side s)
    (c.side_of_number.ensures ∙ rw (c.head.ensures, c.requires.pawns) refl) in
    ap (λ (m : ℕ). Some m)
    (c.with_head.ensures.value
    ∙ ap (λ (h : ℕ). with_head a.slots.now h a.n)
    (rw (c.side_number.ensures.value, c.king_places.ensures.value, c.from.ensures, same) refl))
    ∙ sym (listed_number a.pawns a.slots.now side a.n a.to c.in-Some.q c.requires.slots c.number-square.ensures.small (sym c.in-Some.is
    ∙ c.place.ensures.value))
