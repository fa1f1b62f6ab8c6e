-- The reply to a command is a piece of a run's output.
use Rattle.std.proofs.Common.{◌≡◌, ℕ, ◌+◌, ◌*◌, Bool, true, false, List, [], ◌∷◌, ◌++◌, length, take, Option, Some, None, Result, Ok, Err, refl}
use Rattle.std.proofs.Common.{inl, inr}
use Rattle.std.specs.Prelude.{codes, decimal, if◌then◌else◌}
use Rattle.std.specs.List.{list_any}
use Rattle.std.specs.Str.{bytes_eq}
use Rattle.study_board.specs.Position.{Position, in_check}
use Rattle.study_moves.specs.declared.moves.Move.{Move}
use Rattle.study_moves.specs.LegalList.{legal_list}
use Rattle.study_material.specs.Class.{name_of}
use Rattle.study_notation.specs.FenSpelling.{fen_text}
use Rattle.study_command.specs.Parser.{Asked}
use Rattle.study_reply.specs.declared.table_reply.TableReply.{TableReply}
use Rattle.study_reply.specs.declared.table_reply.TableReply.TheVariants.{Built, Loaded, Saved, Verified}
use Rattle.study_reply.specs.declared.reply.Reply.{Reply}
use Rattle.study_reply.specs.declared.reply.Reply.TheVariants as done
use Rattle.study_reply.specs.declared.reply.LineRefusal.{LineRefusal}
use Rattle.study_reply.specs.Replied.{reply_text, refused_words, of_command}
use Rattle.study_reply.specs.TableReply.{table_text}
use Rattle.study_reply.specs.Words.{reply_line, ends_line, list_text, moves_listed, solve_text, win_text, side_word, goal_words, path_after_move_up}
use Rattle.study_reply.proofs.LineEnds.{ends-behind}
use Rattle.study_script.proofs.Behind.{behind2, behind4, behind6}
use Rattle.study_values.specs.Number.{cells_of}
use Rattle.study_values.specs.Size.{pages_of}
use Rattle.study_text.specs.Paths.{path_text}
use Rattle.study_marks.specs.Study.{tag_name}
use Rattle.study_marks.specs.Marks.{value_words, on_move_text}
use Rattle.study_script.specs.Written.{fronts, IsDone, IsPieceWhere}
use Rattle.study_script.specs.Executed.{line_piece}

-- ---- replies to successful commands

line-ends : (front back : List ℕ) → ends_line (reply_line front back) ≡ true
line-ends front back = ends-behind front (back ++ 10 ∷ []) (ends-behind back (10 ∷ []) refl)

done-as : (front text : List ℕ) → list_any (bytes_eq front) fronts ≡ true → take (length front) text ≡ front → ends_line text ≡ true → IsDone text
done-as front text is begins ends = (front, is, begins, ends)

list-done : (p : Position) (ms : List Move) → IsDone (list_text p ms)
list-done p [] = by_check (in_check p.men p.to_move)
  where
    by_check : (b : Bool) → IsDone (if b then codes "moves 0 mate\n" else codes "moves 0 stalemate\n")
    by_check true = done-as (codes "moves ") _ refl refl refl
    by_check false = done-as (codes "moves ") _ refl refl refl
list-done p (m ∷ ms) =
    let count = decimal (length (m ∷ ms)) in
    let list = moves_listed p (m ∷ ms) in
    done-as (codes "moves ") _ refl refl (ends-behind (codes "moves ") (reply_line count list) (line-ends count list))

solve-done : (plies : Option ℕ) → IsDone (solve_text plies)
solve-done None = done-as (codes "solve ") _ refl refl refl
solve-done (Some plies) = done-as (codes "solve ") _ refl refl (line-ends (codes "solve plies ") (decimal plies))

table-done : (reported : TableReply) → IsDone (table_text reported)
table-done (Built c win) = done-as (codes "built ") _ refl refl (behind4 (codes "built ") (name_of c) (codes " cells ") (decimal (cells_of c))
    (reply_line (codes " win ") (win_text win)) (line-ends (codes " win ") (win_text win)))
table-done (Loaded c) = done-as (codes "loaded ") _ refl refl (behind2 (codes "loaded ") (name_of c)
    (reply_line (codes " cells ") (decimal (cells_of c))) (line-ends (codes " cells ") (decimal (cells_of c))))
table-done (Saved c) = let bytes = decimal (64 + 4128 * pages_of c) in
    done-as (codes "saved ") _ refl refl (behind2 (codes "saved ") (name_of c) (reply_line (codes " bytes ") bytes) (line-ends (codes " bytes ") bytes))
table-done (Verified c true) = done-as (codes "verified ") _ refl refl (behind2 (codes "verified ") (name_of c) (codes " yes\n") refl)
table-done (Verified c false) = done-as (codes "verified ") _ refl refl (behind2 (codes "verified ") (name_of c) (codes " no\n") refl)

module _ {A : Type 0} where
  reply-done : (r : Reply A) → IsDone (reply_text r)
  reply-done (done.Position start) = done-as (codes "position ") _ refl refl (line-ends (codes "position ") (fen_text start))
  reply-done (done.Shift start) = done-as (codes "shift ") _ refl refl (line-ends (codes "shift ") (fen_text start))
  reply-done (done.Stipulated s) = done-as (codes "stipulate ") _ refl refl (behind2 (codes "stipulate ") (side_word s.hero)
      (reply_line (codes " to ") (goal_words s.goal)) (line-ends (codes " to ") (goal_words s.goal)))
  reply-done (done.Inserted steps place san) = done-as (codes "insert ") _ refl refl (behind2 (codes "insert ") (path_text (steps ++ place ∷ []))
      (reply_line (codes " ") san.bytes) (line-ends (codes " ") san.bytes))
  reply-done (done.Deleted steps) = done-as (codes "delete ") _ refl refl (line-ends (codes "delete ") (path_text steps))
  reply-done (done.Promoted steps) = done-as (codes "promote ") _ refl refl (line-ends (codes "promote ") (path_text (path_after_move_up steps)))
  reply-done (done.Tagged name) = done-as (codes "tag ") _ refl refl (line-ends (codes "tag ") (tag_name name))
  reply-done (done.Mark steps mark) = done-as (codes "mark ") _ refl refl (behind6 (codes "mark ") (path_text steps) (32 ∷ []) (value_words mark.value)
      (32 ∷ []) (on_move_text mark.on_move) (reply_line (codes " faults ") (decimal mark.faults)) (line-ends (codes " faults ") (decimal mark.faults)))
  reply-done (done.Moves start) = list-done start.position (legal_list start.position)
  reply-done (done.Fen start) = done-as (codes "fen ") _ refl refl (line-ends (codes "fen ") (fen_text start))
  reply-done (done.Solved plies) = solve-done plies
  reply-done (done.Pgn game) = done-as (codes "[Event \"") _ refl game.begun game.ended
  reply-done (done.Table reported) = table-done reported

  -- ---- the output for a command

  pub piece-of : (asked : Asked) (answer : Result (Reply A) (LineRefusal A)) → IsPieceWhere (Ok (Some asked)) (line_piece (of_command answer))
  piece-of asked (Ok reply) = inr (reply-done reply, refl)
  piece-of asked (Err why) = inl (refused_words why, refl)
