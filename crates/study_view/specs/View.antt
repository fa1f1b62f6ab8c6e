-- The view of a study, at one of its nodes.
use Rattle.std.specs.Prelude.{◌≡◌, ℕ, IsTrue, List, [], ◌∷◌, ◌++◌}
use Rattle.std.specs.List.{flat_map}
use Rattle.std.specs.Option.{option_map_or}
use Rattle.study_board.specs.Position.{Position}
use Rattle.study_moves.specs.declared.moves.Move.{Move}
use Rattle.study_moves.specs.LegalList.{legal_list}
use Rattle.study_notation.specs.declared.start.Start.{Start}
use Rattle.study_tree.specs.Tree.{has_spot, spot_at}
use Rattle.study_marks.specs.declared.mark.Mark.{Mark}
use Rattle.study_marks.specs.Study.{Study, moves_to, position_at, start_along, plain_study}
use Rattle.study_marks.specs.Annotated.{IsAnnotated}
use Rattle.study_marks.specs.Trial.{IsMarkOf}
use Rattle.study_facts.specs.Continuations.{positions_after}
use Rattle.study_facts.specs.Nodes.{parent_path}
use Rattle.study_review.specs.Review.{stipulation_line}
use Rattle.study_head.specs.declared.solution.SolutionFacts.{SolutionFacts}
use Rattle.study_head.specs.Solution.{AreSolutionFacts}
use Rattle.study_head.specs.Verdict.{first_fault, judgement_of}
use Rattle.study_head.specs.declared.verdict.Judgement.{Judgement}
use Rattle.study_facts.specs.Order.{LinesOfEach, written_order}
use Rattle.study_facts.specs.Zugzwang.{ZugzwangLines}
use Rattle.study_view.specs.Words.{start_lines, stamp_line, worst_line, sentence_line, node_words, at_line, move_line}

-- the start, with its counts, at the node of the path
abbrev pub start_to : {L : Type 0} → Study L → List ℕ → Start
start_to s path = start_along s.start (moves_to s.tree.below path)

-- the line of the node at the path
abbrev pub node_line : Study Mark → List ℕ → List ℕ
node_line s path = option_map_or (λ x. node_words path (position_at s (parent_path path)) x (start_to s path)) (spot_at s.tree path) []

-- a line for each of these moves from the node at the path, with the value and the mark that a new node for it would have
abbrev pub AreMoveLines : Study Mark → List ℕ → List Move → List ℕ → Type 0
AreMoveLines s path [] text = text ≡ []
AreMoveLines s path (m ∷ ms) text =
    (mark : Mark) × (rest : List ℕ) × IsMarkOf s path m mark × AreMoveLines s path ms rest
    × (text ≡ move_line (start_to s path) m mark.value mark.on_move ++ rest)

-- the verdict as a judge reads it, as a stamp, with the worst dual and in sentences
unfoldable pub judged_lines : Judgement → SolutionFacts → List ℕ
judged_lines j facts = stamp_line j.stamp ++ (worst_line (first_fault j.stamp facts) ++ sentence_line j)

-- the start with its counts of men, the verdict as scripts have it, and as a judge reads it
unfoldable pub head_lines : Study Mark → SolutionFacts → List ℕ
head_lines s facts = start_lines s.start ++ (stipulation_line s ++ judged_lines (judgement_of s facts) facts)

-- The view of an annotated study at the path of a node: its start, its verdict, each node, then the number of legal moves at the path, and each of them.
abbrev pub IsView : Study Mark → List ℕ → List ℕ → Type 0
IsView s path text =
    (moves zugzwangs : List ℕ) × (facts : SolutionFacts)
    × IsTrue (has_spot s.tree path)
    × AreMoveLines s path (legal_list (position_at s path)) moves
    × LinesOfEach (ZugzwangLines s) (written_order s) zugzwangs
    × AreSolutionFacts s facts
    × (text ≡ head_lines s facts ++ (flat_map (node_line s) (written_order s)
    ++ (at_line path (position_at s path) ++ (moves ++ zugzwangs))))

-- a study has exactly one view at a path
abbrev pub ViewsAreUnique : Type 0
ViewsAreUnique = (s : Study Mark) (path : List ℕ) (t u : List ℕ) → IsView s path t → IsView s path u → t ≡ u

-- the view of a plain study is that of its annotation
abbrev pub IsViewOf : Study (Unit {0}) → List ℕ → List ℕ → Type 0
IsViewOf plain path text = (s : Study Mark) × (plain_study s ≡ plain) × IsAnnotated s × IsView s path text

-- a plain study has exactly one view at a path
abbrev pub PlainStudiesHaveOneView : Type 0
PlainStudiesHaveOneView =
    (plain : Study (Unit {0})) (path : List ℕ) (t u : List ℕ) → IsViewOf plain path t → IsViewOf plain path u → t ≡ u

-- the positions that a view evaluates first: those after the legal moves at the path
abbrev pub asked_at : {L : Type 0} → Study L → List ℕ → List Position
asked_at s path = positions_after (position_at s path) (legal_list (position_at s path))
