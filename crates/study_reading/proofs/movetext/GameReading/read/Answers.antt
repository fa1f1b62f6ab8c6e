use Rattle.std.proofs.Common.{Bool, ◌-◌, Some, Ok, sym, ap, ◌∙◌, arith}
use Rattle.std.specs.Option.{option_map}
use Rattle.study_reading.specs.Notes.{game_of, game_taken}
use Rattle.study_reading.specs.Movetext.{with_numbering}
use Rattle.study_games.specs.Tokens.{token_seen, lexed_seen}
use Rattle.study_reading.proofs.TokenByToken.{step_on, stop_on, unfit_on, reported_by}
use Rattle.study_reading.proofs.movetext.GameReading.read.Goals as goal

pub returns-in_default-numbering_after : goal.returns-in_default-numbering_after
returns-in_default-numbering_after g c =
    let s = c.loop-fuel.self in
    let r = (game_of (g.F.Followed.study s.reading.study) s.reading.lines.path.items s.reading.lines.begun s.reading.lines.waiting.items
    s.reading.lines.cut s.reading.inserts s.notes) in
    let t = token_seen c.in-Ok.cut.token in
    sym c.loop-fuel.invariant
    ∙ unfit_on g.F.Followed.rules c.loop-fuel.fuel (c.loop-fuel.fuel - 1) c.loop-fuel.fresh r t c.in-Ok.cut.rest.now c.loop-fuel.rest.now
    (omega (arith, c.loop-fuel-test.true)) (sym c.read_token.ensures ∙ ap (option_map lexed_seen) (c.in-Some.is ∙ ap Some c.in-Ok.is)) (sym c.in_default-numbering_after.ensures)

pub returns-in-Err-take : goal.returns-in-Err-take
returns-in-Err-take g c =
    let s = c.loop-fuel.self in
    let r = (game_of (g.F.Followed.study s.reading.study) s.reading.lines.path.items s.reading.lines.begun s.reading.lines.waiting.items
    s.reading.lines.cut s.reading.inserts s.notes) in
    let t = token_seen c.in-Ok.cut.token in
    let n = c.in-Some-numbering_after.numbering in
    reported_by c.in-Err-take.reason (game_taken g.F.Followed.rules (with_numbering r n) t) _ _ _ c.in-Err-take.ensures
    (λ e. sym c.loop-fuel.invariant
    ∙ stop_on g.F.Followed.rules c.loop-fuel.fuel (c.loop-fuel.fuel - 1) c.loop-fuel.fresh r t c.in-Ok.cut.rest.now c.loop-fuel.rest.now n c.in-Err-take.reason
    (omega (arith, c.loop-fuel-test.true))
    (sym c.read_token.ensures ∙ ap (option_map lexed_seen) (c.in-Some.is ∙ ap Some c.in-Ok.is)) (sym c.in-Some-numbering_after.ensures) e)

pub loop-fuel-preserved : goal.loop-fuel-preserved
loop-fuel-preserved g c =
    let s = c.loop-fuel.self in
    let r = (game_of (g.F.Followed.study s.reading.study) s.reading.lines.path.items s.reading.lines.begun s.reading.lines.waiting.items
    s.reading.lines.cut s.reading.inserts s.notes) in
    let m = c.take.new.self in
    let next = (game_of (g.F.Followed.study m.reading.study) m.reading.lines.path.items m.reading.lines.begun m.reading.lines.waiting.items
    m.reading.lines.cut m.reading.inserts m.notes) in
    let t = token_seen c.in-Ok.cut.token in
    rw c.begins_feed-fresh.ensures (sym (step_on g.F.Followed.rules c.loop-fuel.fuel (c.loop-fuel.fuel - 1) c.loop-fuel.fresh r t c.in-Ok.cut.rest.now
    c.loop-fuel.rest.now c.in-Some-numbering_after.numbering next
    (omega (arith, c.loop-fuel-test.true))
    (sym c.read_token.ensures ∙ ap (option_map lexed_seen) (c.in-Some.is ∙ ap Some c.in-Ok.is))
    (sym c.in-Some-numbering_after.ensures)
    (c.in-Ok-false.ensures ∙ ap (λ (b : Bool). Ok (record { game = next; ended = b })) c.in-Ok-false.field-0-test)) ∙ c.loop-fuel.invariant)
