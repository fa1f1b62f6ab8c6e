-- The first moves of a study, by the nodes that they lead to.
use Rattle.std.proofs.Common.{◌≡◌, ℕ, [], ◌∷◌, Some, None, refl, ap, ◌∙◌}
use Rattle.study_board.specs.Position.{Position}
use Rattle.study_moves.specs.declared.moves.Move.{Move}
use Rattle.study_moves.specs.Rules.{after}
use Rattle.study_notation.specs.declared.start.Start.{Start}
use Rattle.study_tree.specs.Forest.{Forest, none, more}
use Rattle.study_tree.specs.Edits.{node_in}
use Rattle.study_tree.specs.Tree.{spot_at, twig_spot}
use Rattle.study_marks.specs.Bench.{played_by}
use Rattle.study_marks.specs.Study.{Study}
use Rattle.study_head.specs.Words.{label}
use Rattle.study_page.specs.Sheet.{first_words, second_words}

module _ {L : Type 0} where
  none-first : (start : Start) (d : ℕ) (p : Position) (f : Forest L) → played_by (twig_spot (node_in f 0 [])) ≡ None → first_words start d p f ≡ []
  none-first start d p none h = refl
  none-first start d p (more m l below rest) h = absurd (let no : ⊥ = cc in no)

  some-first : (start : Start) (d : ℕ) (p : Position) (f : Forest L) (m : Move) → played_by (twig_spot (node_in f 0 [])) ≡ Some m
      → label start d p m ≡ first_words start d p f
  some-first start d p none m h = absurd (let no : ⊥ = cc in no)
  some-first start d p (more n l below rest) m h = let same : m ≡ n = cc in ap (label start d p) same

  -- where no move is given
  pub key_none : (s : Study L) → played_by (spot_at s.tree (0 ∷ [])) ≡ None → first_words s.start 0 s.start.position s.tree.below ≡ []
  key_none s h = none-first s.start 0 s.start.position s.tree.below h

  pub key_some : (s : Study L) (m : Move) → played_by (spot_at s.tree (0 ∷ [])) ≡ Some m
      → label s.start 0 s.start.position m ≡ first_words s.start 0 s.start.position s.tree.below
  key_some s m h = some-first s.start 0 s.start.position s.tree.below m h

  pub second_none : (s : Study L) → played_by (spot_at s.tree (0 ∷ [])) ≡ None → second_words s.start s.tree.below ≡ []
  second_none s h = none-second s.start s.tree.below h
    where
      none-second : (start : Start) (f : Forest L) → played_by (twig_spot (node_in f 0 [])) ≡ None → second_words start f ≡ []
      none-second start none h = refl
      none-second start (more m l below rest) h = absurd (let no : ⊥ = cc in no)

  -- after the first move m
  pub answer_none : (s : Study L) (m : Move) → played_by (spot_at s.tree (0 ∷ [])) ≡ Some m → played_by (spot_at s.tree (0 ∷ 0 ∷ [])) ≡ None
      → second_words s.start s.tree.below ≡ []
  answer_none s m h k = behind s.start s.tree.below h k
    where
      behind : (start : Start) (f : Forest L) → played_by (twig_spot (node_in f 0 [])) ≡ Some m → played_by (twig_spot (node_in f 0 (0 ∷ []))) ≡ None
          → second_words start f ≡ []
      behind start none h k = refl
      behind start (more n l below rest) h k = none-first start 1 (after start.position n) below k

  pub answer_some : (s : Study L) (m n : Move) → played_by (spot_at s.tree (0 ∷ [])) ≡ Some m → played_by (spot_at s.tree (0 ∷ 0 ∷ [])) ≡ Some n
      → label s.start 1 (after s.start.position m) n ≡ second_words s.start s.tree.below
  answer_some s m n h k = behind s.start s.tree.below h k
    where
      behind : (start : Start) (f : Forest L) → played_by (twig_spot (node_in f 0 [])) ≡ Some m → played_by (twig_spot (node_in f 0 (0 ∷ []))) ≡ Some n
          → label start 1 (after start.position m) n ≡ second_words start f
      behind start none h k = absurd (let no : ⊥ = cc in no)
      behind start (more i l below rest) h k =
          let same : m ≡ i = cc in
          ap (λ x. label start 1 (after start.position x) n) same ∙ some-first start 1 (after start.position i) below n k
