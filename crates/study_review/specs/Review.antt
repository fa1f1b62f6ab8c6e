-- The review of a study.
use Rattle.std.specs.Prelude.{◌≡◌, ◌==◌, ℕ, List, [], ◌++◌, codes, decimal, if◌then◌else◌}
use Rattle.study_notation.specs.FenSpelling.{fen_text}
use Rattle.study_marks.specs.declared.mark.Mark.{Mark}
use Rattle.study_marks.specs.Study.{Study, plain_study}
use Rattle.study_marks.specs.Annotated.{IsAnnotated}
use Rattle.study_marks.specs.Verdict.{Verdict, wrong, sound, unsound, verdict}
use Rattle.study_marks.specs.Goals.{aim_of}
use Rattle.study_pgn.specs.Pgn.{opening_words}
use Rattle.study_facts.specs.Nodes.{NodeLines, FaultLines}
use Rattle.study_facts.specs.Words.{time_verdict}
use Rattle.study_facts.specs.Order.{is_empty, written_order, LinesOfEach, AreTimeFaults}

-- `study 1 k7/8/1K6/8/8/8/8/6Q1 w - - 0 1`
unfoldable pub study_line : Study Mark → ℕ → List ℕ
study_line s number = codes "study " ++ (decimal number ++ (codes " " ++ (fen_text s.start ++ codes "\n")))

-- the words of the opening comment of the PGN
unfoldable pub stipulation_line : Study Mark → List ℕ
stipulation_line s = codes "stipulation " ++ (opening_words s ++ codes "\n")

abbrev pub empty_line : Study Mark → List ℕ
empty_line s = if is_empty (aim_of s).hero_first s.tree.below then codes "empty\n" else []

-- `waste unsound 5, 4 lose time alone`, if the study is unsound and some of its faults lose time alone
abbrev pub waste_words : Verdict → ℕ → List ℕ
waste_words wrong n = []
waste_words sound n = []
waste_words (unsound faults) n = if n == 0 then [] else codes "waste " ++ (time_verdict faults n ++ codes "\n")

unfoldable pub waste_line : Study Mark → ℕ → List ℕ
waste_line s n = waste_words (verdict s) n

-- the review of an annotated study: its start, its verdict, its faults, the number of them that lose time alone, and then node by node
abbrev pub IsReview : Study Mark → ℕ → List ℕ → Type 0
IsReview s number text =
    (faults nodes : List ℕ) × (time : ℕ)
    × LinesOfEach (FaultLines s) (written_order s) faults
    × LinesOfEach (NodeLines s) (written_order s) nodes
    × AreTimeFaults s time
    × (text ≡ study_line s number ++ (stipulation_line s ++ (empty_line s ++ (faults ++ (waste_line s time ++ nodes)))))

-- the beginning of each review, whatever the values are: with its study's number
abbrev pub BeginsReview : ℕ → List ℕ → Type 0
BeginsReview number text = (rest : List ℕ) × (text ≡ codes "study " ++ (decimal number ++ (codes " " ++ rest)))

-- a study has exactly one review
abbrev pub ReviewsAreUnique : Type 0
ReviewsAreUnique = (s : Study Mark) (number : ℕ) (t u : List ℕ) → IsReview s number t → IsReview s number u → t ≡ u

-- the review of a plain study is that of its annotation
abbrev pub IsReviewOf : Study (Unit {0}) → ℕ → List ℕ → Type 0
IsReviewOf plain number text = (s : Study Mark) × (plain_study s ≡ plain) × IsAnnotated s × IsReview s number text

-- a plain study has exactly one review
abbrev pub PlainStudiesHaveOneReview : Type 0
PlainStudiesHaveOneReview =
    (plain : Study (Unit {0})) (number : ℕ) (t u : List ℕ) → IsReviewOf plain number t → IsReviewOf plain number u → t ≡ u
