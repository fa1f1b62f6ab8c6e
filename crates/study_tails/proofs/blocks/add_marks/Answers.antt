use Rattle.std.proofs.Common.{decimal, append-nil}
use Rattle.study_tails.proofs.blocks.add_marks.Goals as goal

pub returns-in-Some : goal.returns-in-Some
returns-in-Some g c = rw (c.in-Some.is, ← c.beside_words-words.ensures, ← append-nil (decimal c.in-Some.number)) c.add_pieces.ensures
