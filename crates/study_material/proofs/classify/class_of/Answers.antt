use Rattle.std.proofs.Common.{◌≡◌, ◌≤◌, false, length, sym, ◌∙◌, ap, subst, List, filter}
use Rattle.std.specs.List.{All}
use Rattle.study_board.specs.declared.men.Man.{Man}
use Rattle.study_board.specs.declared.men.Kind.TheVariants.{King}
use Rattle.study_board.specs.Men.{same_kind}
use Rattle.study_material.specs.Lists.{is_other_than_king, lists, ordered_lists, is_exchanged}
use Rattle.study_material.proofs.MenBesideKings.{lists-others, none_king, few_others}
use Rattle.study_material.proofs.classify.class_of.Goals as goal

-- the listed men are the men beside the kings
are_others : (xs ys zs men : List Man) → zs ≡ ys → ys ≡ filter is_other_than_king xs → xs ≡ men → zs ≡ filter is_other_than_king men
are_others xs ys zs men e f g = e ∙ f ∙ ap (λ l. filter is_other_than_king l) g

same_lists : (zs men : List Man) → zs ≡ filter is_other_than_king men → lists zs ≡ lists men
same_lists zs men e = ap (λ l. lists l) e ∙ lists-others men

pub class_of_others-requires-clause-few : goal.class_of_others-requires-clause-few
class_of_others-requires-clause-few c =
    subst (λ (l : List Man). length l ≤ 2)
    (sym (are_others _ _ _ _ c.as_slice.ensures.value c.others.ensures c.men.ensures.value))
    (few_others c.args.p.now c.men.ensures.valid)

pub class_of_others-requires-clause-others : goal.class_of_others-requires-clause-others
class_of_others-requires-clause-others c =
    subst (λ (l : List Man). All (λ m. same_kind m.kind King ≡ false) l)
    (sym (are_others _ _ _ _ c.as_slice.ensures.value c.others.ensures c.men.ensures.value))
    (none_king c.args.p.now.men)

pub returns-clause-class : goal.returns-clause-class
returns-clause-class c =
    c.class_of_others.ensures.class ∙ ap (λ l. ordered_lists l)
    (same_lists _ c.args.p.now.men
    (are_others _ _ _ _ c.as_slice.ensures.value c.others.ensures c.men.ensures.value))

pub returns-clause-swapped : goal.returns-clause-swapped
returns-clause-swapped c =
    c.class_of_others.ensures.swapped ∙ ap (λ l. is_exchanged l)
    (same_lists _ c.args.p.now.men
    (are_others _ _ _ _ c.as_slice.ensures.value c.others.ensures c.men.ensures.value))
