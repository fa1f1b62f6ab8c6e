-- Paths without a node.
use Rattle.std.proofs.Common.{◌≡◌, ◌==◌, ℕ, false, List, [], length, map, Option, None, is_some, ap, ◌∙◌, arith}
use Rattle.std.specs.Prelude.{codes}
use Rattle.std.specs.Str.{bytes_eq}
use Rattle.std.specs.Str.Parse.{digits_value}
use Rattle.std.proofs.lemmas.List.{length-map}
use Rattle.std.proofs.lemmas.List.Splits.{length-slice_split}
use Rattle.study_tree.specs.Tree.{has_spot, spot_at, Spot}
use Rattle.study_tree.proofs.PathEnds.{places-shown}
use Rattle.study_marks.specs.declared.mark.Mark.{Mark}
use Rattle.study_marks.specs.Study.{Study, plain_study}
use Rattle.study_marks.proofs.SameShape.{has_node-mapped}
use Rattle.study_command.specs.Paths.{places_in, steps_of}

-- a node that is missing from an annotated study is missing from the plain study
pub lacks_plainly : (s : Study Mark) (path : List ℕ) → spot_at s.tree path ≡ None → has_spot (plain_study s).tree path ≡ false
lacks_plainly s path none =
    has_node-mapped (λ (x : Mark). tt) s.tree.below path ∙ (places-shown s.tree path).0 ∙ ap (λ (o : Option (Spot Mark)). is_some o) none

-- a word other than `root` is a list of child numbers
pub places_other : (word : List ℕ) → bytes_eq word (codes "root") ≡ false → steps_of word ≡ [] → ⊥
unfolding steps_of
places_other word other e =
    let none : map (digits_value 10) (places_in word) ≡ [] = rw other at e in
    let some = length-slice_split (λ (b : ℕ). b == 46) word in
    let same = length-map (places_in word) (digits_value 10) in
    let zero = ap length none in
    absurd (omega (arith, some, same, zero))
