-- Of a mutual zugzwang and its counterpart one is listed.
use Rattle.std.proofs.Common.{arith, ◌≡◌, ◌+◌, ◌<◌, ◌≤◌, inl, inr, Bool, true, false, cond, None, Result, Ok, Err, IfOk, ◌↔◌, refl, sym, ap, ◌∙◌, subst}
use Rattle.std.proofs.lemmas.Bool.{false≢true, cases_lt}
use Rattle.study_board.specs.declared.men.Side.{Side}
use Rattle.study_board.specs.declared.men.Side.TheVariants.{White, Black}
use Rattle.study_board.specs.Men.{other_side}
use Rattle.study_board.specs.Position.{Position, IsValid}
use Rattle.study_board.specs.Symmetry.{image}
use Rattle.study_board.proofs.ImagesOfImages.{IsTurnable, IsTurnable-from_valid, image_back}
use Rattle.study_moves.specs.EnPassant.{has_legal_en_passant, without_idle_passed_square, without_passed}
use Rattle.study_moves.specs.Game.{IsDrawn}
use Rattle.study_moves.specs.Laws.{AllAgreeWithBare, EachHasAtMostOneValue}
use Rattle.study_values.specs.Number.{with_bit}
use Rattle.study_values.specs.Index.{index_of, least_number}
use Rattle.study_values.specs.declared.value.Value.{Value}
use Rattle.study_values.specs.declared.value.Value.TheVariants.{Win, Loss, Draw}
use Rattle.study_values.specs.Game.{IsValueOf}
use Rattle.study_zugzwang.specs.Zugzwang.{IsZugzwang, half_points, handed_on}
use Rattle.study_search.specs.Laws.{colours_swapped}
use Rattle.study_search.specs.Pairs.{counterpart, ComesFirst, IsOneOfTwo, OneOfTwoIsListed}
use Rattle.study_search.proofs.ThemeImages.{handed-image, value-image}
use Rattle.study_search.proofs.EachFound.{colours-admitted}

-- ---- by the computed result

pub first-drawn : (p q : Position) (b : Bool) → ((b ≡ true) ↔ IsDrawn p) → b ≡ true → (true ≡ true) ↔ ComesFirst p q
first-drawn p q b h e = ((λ t. inl (h.0 e)), (λ x. refl))

pub not-drawn : {E : Type 0} (p q : Position) (b : Bool) (r : Result Bool E) → ((b ≡ true) ↔ IsDrawn p) → b ≡ false
    → IfOk r (λ c. (c ≡ true) ↔ (¬ (IsDrawn q) × (index_of p ≤ index_of q))) → IfOk r (λ c. (c ≡ true) ↔ ComesFirst p q)
not-drawn p q b (Ok c) h e k = (
  (λ t. inr (k.0 t)),
  (λ x. elim x [ inl d ↦ absurd (false≢true (sym e ∙ h.1 d)) | inr y ↦ k.1 y ]),
)
not-drawn p q b (Err f) h e k = tt

pub other-drawn : (p q : Position) (b : Bool) → ((b ≡ true) ↔ IsDrawn q) → b ≡ true → (false ≡ true) ↔ (¬ (IsDrawn q) × (index_of p ≤ index_of q))
other-drawn p q b h e = ((λ f. absurd (false≢true f)), (λ x. absurd (x.0 (h.0 e))))

pub lower-number : (p q : Position) (b c : Bool) → ((b ≡ true) ↔ IsDrawn q) → b ≡ false → ((c ≡ true) ↔ (index_of p ≤ index_of q))
    → (c ≡ true) ↔ (¬ (IsDrawn q) × (index_of p ≤ index_of q))
lower-number p q b c h e k = ((λ t. ((λ d. false≢true (sym e ∙ h.1 d)), k.0 t)), (λ x. k.1 x.1))

-- ---- the law

other-twice : (s : Side) → other_side (other_side s) ≡ s
other-twice White = refl
other-twice Black = refl

quiet-index : (p : Position) → has_legal_en_passant p ≡ false → index_of (without_passed p) ≡ index_of p
unfolding index_of least_number
quiet-index p e = ap (λ b. with_bit b (least_number p)) (sym e)

bare-quiet : (p : Position) → has_legal_en_passant p ≡ false → without_idle_passed_square p ≡ without_passed p
bare-quiet p e = go (has_legal_en_passant p) e
  where
    go : (b : Bool) → b ≡ false → cond b p (without_passed p) ≡ without_passed p
    go b e = rw e refl

module _ (law : AllAgreeWithBare) (unique : EachHasAtMostOneValue) (p : Position) (valid : IsValid p) (z : IsZugzwang p) where
  twice : handed_on (handed_on p) ≡ without_passed p
  twice = ap (λ (s : Side). (let q : Position = record { men = p.men; to_move = s; passed = None } in q)) (other-twice p.to_move)

  turnable : IsTurnable colours_swapped (handed_on p)
  turnable = IsTurnable-from_valid colours_swapped (handed_on p) z.either.other (colours-admitted (handed_on p))

  turnable-twice : IsTurnable colours_swapped (handed_on (handed_on p))
  turnable-twice = record { seats = turnable.seats; ordered = turnable.ordered; passed = tt }

  again : counterpart (counterpart p) ≡ without_passed p
  again =
      ap (λ (q : Position). image colours_swapped q) (handed-image colours_swapped (handed_on p))
      ∙ image_back colours_swapped (handed_on (handed_on p)) turnable-twice ∙ twice

  drawn-again : IsDrawn p → IsDrawn (counterpart (counterpart p))
  drawn-again d = subst (λ (q : Position). IsDrawn q) (bare-quiet p z.none_passed ∙ sym again) ((law p valid).value.drawn.0 d)

  drawn-before : IsDrawn (counterpart (counterpart p)) → IsDrawn p
  drawn-before d = (law p valid).value.drawn.1 (subst (λ (q : Position). IsDrawn q) (again ∙ sym (bare-quiet p z.none_passed)) d)

  index-again : index_of (counterpart (counterpart p)) ≡ index_of p
  index-again = ap (λ (q : Position). index_of q) again ∙ quiet-index p z.none_passed

  by-values : (v w : Value) → IsValueOf p v → IsValueOf (counterpart p) w → half_points v + half_points w < 2 → IsOneOfTwo p
  by-values (Win n) (Win k) h j less = absurd (omega (arith, less))
  by-values (Win n) (Loss k) h j less = absurd (omega (arith, less))
  by-values (Win n) Draw h j less = absurd (omega (arith, less))
  by-values Draw (Win k) h j less = absurd (omega (arith, less))
  by-values Draw Draw h j less = absurd (omega (arith, less))
  by-values (Loss n) (Win k) h j less = absurd (omega (arith, less))
  by-values Draw (Loss k) h j less = record {
    some = inl (inl h);
    one = λ a b. elim b [ inl d ↦ absurd ((unique (counterpart p)).lost_not_drawn k j d) | inr x ↦ absurd (x.0 (drawn-again h)) ];
  }
  by-values (Loss n) Draw h j less = record {
    some = inr (inl j);
    one = λ a b. elim a [ inl d ↦ absurd ((unique p).lost_not_drawn n h d) | inr x ↦ absurd (x.0 j) ];
  }
  by-values (Loss n) (Loss k) h j less =
      let first : IsDrawn p → ⊥ = (λ d. (unique p).lost_not_drawn n h d) in
      let second : IsDrawn (counterpart p) → ⊥ = (λ d. (unique (counterpart p)).lost_not_drawn k j d) in
      let same = index-again in
      record {
        some = elim (cases_lt (index_of (counterpart p)) (index_of p)) [
          | inl l ↦
              let low : index_of (counterpart p) ≤ index_of (counterpart (counterpart p)) = omega (arith, l, same) in
              inr (inr ((λ d. first (drawn-before d)), low))
          | inr g ↦ let low : index_of p ≤ index_of (counterpart p) = omega (arith, g) in inl (inr (second, low))
        ];
        one = λ a b. elim a [
          | inl d ↦ absurd (first d)
          | inr x ↦ elim b [
            | inl d ↦ absurd (second d)
            | inr y ↦
                let up = x.1 in
                let down = y.1 in
                omega (arith, same, up, down)
          ]
        ];
      }

pub one-of-two-listed : AllAgreeWithBare → EachHasAtMostOneValue → OneOfTwoIsListed
one-of-two-listed law unique p valid z =
    by-values law unique p valid z (z.less.2).0 (z.less.3).0 (z.less.2).1
    (value-image colours_swapped (handed_on p) (turnable law unique p valid z) (z.less.3).0 (z.less.3).1)
    (let i = (z.less.2).2 in
    let j = (z.less.3).2 in
    let less = z.less.4 in
    let sum : half_points (z.less.2).0 + half_points (z.less.3).0 < 2 = omega (arith, i, j, less) in
    sum)
