-- The words of a view's lines.
use Rattle.std.specs.Prelude.{◌==◌, ℕ, ◌+◌, List, [], ◌∷◌, ◌++◌, length, Option, Some, None, codes, decimal, if◌then◌else◌}
use Rattle.study_board.specs.declared.men.Kind.{Kind}
use Rattle.study_board.specs.Letters.{letter}
use Rattle.study_board.specs.Position.{Position, in_check}
use Rattle.study_moves.specs.declared.moves.Move.{Move}
use Rattle.study_moves.specs.LegalList.{legal_list}
use Rattle.study_notation.specs.declared.start.Start.{Start}
use Rattle.study_notation.specs.FenSpelling.{fen_text, square_text}
use Rattle.study_notation.specs.StartAfter.{start_after}
use Rattle.study_notation.specs.SanSpelling.{move_text}
use Rattle.study_values.specs.declared.value.Value.{Value}
use Rattle.study_tree.specs.Tree.{Spot}
use Rattle.study_marks.specs.declared.mark.Mark.{Mark}
use Rattle.study_marks.specs.declared.mark.MoveMark.{MoveMark}
use Rattle.study_marks.specs.Marks.{value_words, on_move_text}
use Rattle.study_head.specs.Counts.{counts_words}
use Rattle.study_head.specs.Verdict.{stamp_words, verdict_words}
use Rattle.study_head.specs.declared.verdict.Stamp.{Stamp}
use Rattle.study_head.specs.declared.verdict.Judgement.{Judgement}
use Rattle.study_facts.specs.Words.{front_words}

-- a small letter
abbrev pub promoted_text : Option Kind → List ℕ
promoted_text None = []
promoted_text (Some k) = (letter k + 32) ∷ []

-- `c7c8r`, as in long algebraic notation
unfoldable pub squares_text : Move → List ℕ
squares_text m = square_text m.origin ++ (square_text m.target ++ promoted_text m.promoted)

-- `c8=R c7c8r`, a move from p
unfoldable pub moved_words : Position → Move → List ℕ
moved_words p m = move_text p m ++ (codes " " ++ squares_text m)

-- the move that led to a node, from p; empty for the root
abbrev pub move_to_node_text : Position → Option Move → List ℕ
move_to_node_text p None = codes "- -"
move_to_node_text p (Some m) = moved_words p m

-- `loss 12 dual 2`
unfoldable pub mark_words : Value → Option MoveMark → List ℕ
mark_words v mark = value_words v ++ (codes " " ++ on_move_text mark)

-- `study 8/8/1KP5/3r4/8/8/8/k7 w - - 0 1`
unfoldable pub study_line : Start → List ℕ
study_line start = codes "study " ++ (fen_text start ++ codes "\n")

-- `counts 2 + 2, 0300.10 b6a1`: how many men each side has, and the code of Guy, Blandford and Roycroft
unfoldable pub counts_line : Position → List ℕ
counts_line p = codes "counts " ++ (counts_words p.men ++ codes "\n")

-- the start of the study, and its counts of men
unfoldable pub start_lines : Start → List ℕ
start_lines start = study_line start ++ counts_line start.position

-- `stamp 3 duals`: the verdict as a judge reads it
unfoldable pub stamp_line : Stamp → List ℕ
stamp_line x = codes "stamp " ++ (stamp_words x ++ codes "\n")

-- `worst 3. Kb4: also Kb6 (after 2... h3)`: the worst dual behind a stamp that counts them
abbrev pub worst_line : List ℕ → List ℕ
worst_line words = if length words == 0 then [] else (codes "worst " ++ (words ++ codes "\n"))

-- `sentence The stipulation is wrong. At the start: draw.`
unfoldable pub sentence_line : Judgement → List ℕ
sentence_line j = codes "sentence " ++ (verdict_words j ++ codes "\n")

-- `loss 50 only faults 3 8/2P5/1K6/3r4/8/8/8/k7 b - - 0 1`, and the end of the line
unfoldable pub shown_words : Mark → Start → List ℕ
shown_words x here =
    mark_words x.value x.on_move ++ (codes " faults " ++ (decimal x.faults ++ (codes " " ++ (fen_text here ++ codes "\n"))))

-- `node 0 c7 c6c7 loss 50 only faults 3 8/2P5/1K6/3r4/8/8/8/k7 b - - 0 1`: p is the position before the node, and `here` the node's start
unfoldable pub node_words : List ℕ → Position → Spot Mark → Start → List ℕ
node_words path p x here = front_words (codes "node ") path ++ (move_to_node_text p x.played ++ (codes " " ++ shown_words x.label here))

-- the number of legal moves; or how the game ended
unfoldable pub count_words : Position → List ℕ
count_words p =
    if length (legal_list p) == 0 then (if in_check p.men p.to_move then codes "mate" else codes "stalemate") else decimal (length (legal_list p))

-- `at root 5`, `at 0.0 mate`
unfoldable pub at_line : List ℕ → Position → List ℕ
at_line path p = front_words (codes "at ") path ++ (count_words p ++ codes "\n")

-- `loss 50 only 8/2P5/1K6/3r4/8/8/8/k7 b - - 0 1`, and the end of the line
unfoldable pub reached_words : Value → Option MoveMark → Start → List ℕ
reached_words v mark next = mark_words v mark ++ (codes " " ++ (fen_text next ++ codes "\n"))

-- `move c7 c6c7 loss 50 only 8/2P5/1K6/3r4/8/8/8/k7 b - - 0 1`
unfoldable pub move_line : Start → Move → Value → Option MoveMark → List ℕ
move_line here m v mark = codes "move " ++ (moved_words here.position m ++ (codes " " ++ reached_words v mark (start_after here m)))
