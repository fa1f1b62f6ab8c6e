-- A study has one page.
use Rattle.std.proofs.Common.{ℕ, ◌+◌, true, not, List, Option, Some, None, length, sym, ap, ◌∙◌}
use Rattle.study_board.specs.Position.{Position}
use Rattle.study_moves.specs.declared.moves.Move.{Move}
use Rattle.study_moves.specs.LegalList.{legal_list}
use Rattle.study_moves.specs.Laws.{EachHasAtMostOneValue}
use Rattle.study_values.specs.declared.value.Value.{Value}
use Rattle.study_values.specs.declared.value.Value.TheVariants.{Win, Loss, Draw}
use Rattle.study_notation.specs.declared.start.Start.{Start}
use Rattle.study_tree.specs.Tree.{spot_at}
use Rattle.study_marks.specs.declared.mark_rules.Aim.{Aim}
use Rattle.study_marks.specs.declared.mark.Mark.{Mark}
use Rattle.study_marks.specs.declared.mark.MoveMark.{MoveMark}
use Rattle.study_marks.specs.declared.mark.MoveMark.TheVariants.{Only, Dual, Mistake, Idle, Reply}
use Rattle.study_marks.specs.Bench.{played_by}
use Rattle.study_marks.specs.FaultSums.{below_at}
use Rattle.study_marks.specs.Study.{Study, position_at}
use Rattle.study_marks.specs.Goals.{aim_of, holds}
use Rattle.study_facts.specs.Line.{line_to, moves_of}
use Rattle.study_facts.specs.Nodes.{parent_path, mark_at, value_at, is_try, is_defended, is_open_end, is_solution_move}
use Rattle.study_facts.proofs.OneFacts.{One, one-chosen, one-alternatives, one-defences, one-play, one-where, one-match, one-each}
use Rattle.study_head.proofs.OneFacts.{one-facts}
use Rattle.study_page.specs.Words.{where_words}
use Rattle.study_page.specs.Rows.{IsFaultOf, FaultItems, IsCardOf, Cards, TryRows, DefenceRows, IsPlay, IsEnd, EndRows}
use Rattle.study_head.specs.Reached.{all_reached}
use Rattle.study_page.specs.Rows.{dual_item, card, try_row, missing_row, end_row, play_words, keep_words, zugzwang_rows, ZugzwangRows}
use Rattle.study_facts.proofs.ZugzwangReported.{one-kind}
use Rattle.study_page.specs.Page.{page_text, PagesAreUnique}
use Rattle.study_facts.specs.Order.{written_order}

module _ (law : EachHasAtMostOneValue) (start : Start) (a : Aim) (d : ℕ) (line : List Position) (p : Position) (m : Move) (v : Value) where
  one-fault : (mark : Option MoveMark) → One (IsFaultOf start a d line p m v mark)
  one-fault None t u h j = h ∙ sym j
  one-fault (Some (Dual k)) t u h j = h.2 ∙ ap (dual_item start d p m v) (one-alternatives law a d line p m h.0 j.0 h.1 j.1) ∙ sym j.2
  one-fault (Some Mistake) t u h j = h ∙ sym j
  one-fault (Some Only) t u h j = h ∙ sym j
  one-fault (Some Idle) t u h j = h ∙ sym j
  one-fault (Some Reply) t u h j = h ∙ sym j

  one-card : (mark : Option MoveMark) → One (IsCardOf start a d line p m v mark)
  one-card None t u h j = h ∙ sym j
  one-card (Some (Dual k)) t u h j = h.2 ∙ ap (card start d p m k v) (one-alternatives law a d line p m h.0 j.0 h.1 j.1) ∙ sym j.2
  one-card (Some Mistake) t u h j = h ∙ sym j
  one-card (Some Only) t u h j = h ∙ sym j
  one-card (Some Idle) t u h j = h ∙ sym j
  one-card (Some Reply) t u h j = h ∙ sym j

module _ (law : EachHasAtMostOneValue) (start : Start) (d : ℕ) (node : List ℕ) (p : Position) where
  one-best-play : (v : Value) → One (IsPlay start d node p v)
  one-best-play v t u h j = h.2 ∙ ap (λ l. end_row node p.to_move v (play_words true start d p l)) (one-play law 20 p h.0 j.0 h.1 j.1) ∙ sym j.2

  one-end : (v : Value) → One (IsEnd start d node p v)
  one-end (Win n) t u h j = one-best-play (Win n) t u h j
  one-end (Loss n) t u h j = one-best-play (Loss n) t u h j
  one-end Draw t u h j =
      h.2 ∙ ap (λ l. end_row node p.to_move Draw (keep_words p l)) (one-chosen law _ p (legal_list p) h.0 j.0 h.1 j.1) ∙ sym j.2

module _ (law : EachHasAtMostOneValue) (s : Study Mark) (path : List ℕ) where
  faults-once : One (FaultItems s path)
  faults-once = one-where (is_solution_move s path) _ (one-match (played_by (spot_at s.tree path)) _
      (λ m. one-fault law s.start (aim_of s) (length (parent_path path)) (line_to s (parent_path path)) (position_at s (parent_path path)) m
      (value_at s path) (mark_at s path)))

  cards-once : One (Cards s path)
  cards-once = one-match (played_by (spot_at s.tree path)) _
      (λ m. one-card law s.start (aim_of s) (length (parent_path path)) (line_to s (parent_path path)) (position_at s (parent_path path)) m
      (value_at s path) (mark_at s path))

  tries-once : One (TryRows s path)
  tries-once = one-where (is_try s path) _ (λ t u h j. h.2 ∙ ap (try_row (where_words s path) (aim_of s) (length path) (position_at s path) (value_at s path))
      (one-chosen law (λ v. not (holds (aim_of s) (length path + 1) v)) (position_at s path) (legal_list (position_at s path)) h.0 j.0 h.1 j.1) ∙ sym j.2)

  defences-once : One (DefenceRows s path)
  defences-once = one-where (is_defended s path) _ (λ t u h j. h.2 ∙ ap (λ l. missing_row (all_reached s) s path (position_at s path) l)
      (one-defences law (aim_of s) (length path) (position_at s path) (moves_of (below_at s.tree.below path)) h.0 j.0 h.1 j.1) ∙ sym j.2)

  ends-once : One (EndRows s path)
  ends-once = one-where (is_open_end s path) _
      (one-end law s.start (length path) (where_words s path) (position_at s path) (value_at s path))

  zugzwangs-once : One (ZugzwangRows s path)
  zugzwangs-once t u h j = h.2 ∙ ap (zugzwang_rows (where_words s path)) (one-kind law (position_at s path) h.0 j.0 h.1 j.1) ∙ sym j.2

pub one-page : EachHasAtMostOneValue → PagesAreUnique
one-page law s n t u h j =
    let one = one-each (FaultItems s) (faults-once law s) (written_order s) h.0 j.0 h.7 j.7 in
    let facts = one-facts law s h.6 j.6 h.8 j.8 in
    let two = one-each (Cards s) (cards-once law s) (written_order s) h.1 j.1 h.9 j.9 in
    let three = one-each (TryRows s) (tries-once law s) (written_order s) h.2 j.2 h.10 j.10 in
    let four = one-each (ZugzwangRows s) (zugzwangs-once law s) (written_order s) h.3 j.3 h.11 j.11 in
    let five = one-each (DefenceRows s) (defences-once law s) (written_order s) h.4 j.4 h.12 j.12 in
    let six = one-each (EndRows s) (ends-once law s) (written_order s) h.5 j.5 h.13 j.13 in
    h.14 ∙ ap (λ k. page_text s n k h.0 h.1 h.2 h.3 h.4 h.5) facts
    ∙ ap (λ (x : List ℕ). page_text s n j.6 x h.1 h.2 h.3 h.4 h.5) one ∙ ap (λ (x : List ℕ). page_text s n j.6 j.0 x h.2 h.3 h.4 h.5) two
    ∙ ap (λ (x : List ℕ). page_text s n j.6 j.0 j.1 x h.3 h.4 h.5) three ∙ ap (λ (x : List ℕ). page_text s n j.6 j.0 j.1 j.2 x h.4 h.5) four
    ∙ ap (λ (x : List ℕ). page_text s n j.6 j.0 j.1 j.2 j.3 x h.5) five ∙ ap (λ (x : List ℕ). page_text s n j.6 j.0 j.1 j.2 j.3 j.4 x) six ∙ sym j.14
