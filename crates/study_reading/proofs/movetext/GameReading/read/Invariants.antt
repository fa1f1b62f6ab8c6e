use Rattle.std.proofs.Common.{◌≡◌, length}
use Rattle.study_reading.specs.Notes.{game_of}
use Rattle.study_reading.specs.Movetext.{read_moves}
use Rattle.study_reading.proofs.movetext.GameReading.read.Given as goal

abbrev pub invariant-loop-fuel : goal.invariant-loop-fuel
invariant-loop-fuel g l =
    read_moves g.F.Followed.rules l.fuel l.fresh l.rest (game_of (g.F.Followed.study l.self.reading.study) l.self.reading.lines.path.items
    l.self.reading.lines.begun l.self.reading.lines.waiting.items
    l.self.reading.lines.cut l.self.reading.inserts l.self.notes)
    ≡ read_moves g.F.Followed.rules (length l.fn.text) l.fn.fresh l.fn.text (game_of (g.F.Followed.study l.fn.self.reading.study)
    l.fn.self.reading.lines.path.items l.fn.self.reading.lines.begun l.fn.self.reading.lines.waiting.items
    l.fn.self.reading.lines.cut l.fn.self.reading.inserts l.fn.self.notes)

abbrev pub decreases-loop-fuel : goal.decreases-loop-fuel
decreases-loop-fuel g l = l.fuel
