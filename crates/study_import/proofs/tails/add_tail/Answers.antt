use Rattle.std.proofs.Common.{◌≡◌, ℕ, ◌-◌, Bool, List, ◌++◌, length, take, Some, sym, ap, ◌∙◌, arith}
use Rattle.std.specs.Option.{option_map}
use Rattle.study_games.specs.Tokens.{begins_feed, token_seen, lexed_seen}
use Rattle.study_import.specs.declared.tails.Act.TheVariants as act
use Rattle.study_import.specs.declared.tails.Search.{Search}
use Rattle.study_import.specs.Tails.{act_of, bytes_then, search_then, sought_seen, tail_from}
use Rattle.study_import.proofs.TailFound.{act_on, next_on}
use Rattle.study_import.proofs.tails.add_tail.Goals as goal

pub returns-in-Stop : goal.returns-in-Stop
returns-in-Stop g c =
    let s = sought_seen c.loop-fuel.search c.loop-fuel.out c.loop-fuel.position.now in
    let t = token_seen c.in-Ok.cut.token in
    sym (act_on c.loop-fuel.fuel (c.loop-fuel.fuel - 1) c.loop-fuel.fresh s c.loop-fuel.rest.now t c.in-Ok.cut.rest.now act.Stop
    (omega (arith, c.loop-fuel-test.true))
    (sym c.read_token.ensures ∙ ap (option_map lexed_seen) (c.in-Some.is ∙ ap Some c.in-Ok.is))
    (sym (c.act_of-act.ensures ∙ ap (act_of c.loop-fuel.search) c.in_ok-part_of.ensures) ∙ c.in-Stop.is))
    ∙ c.loop-fuel.invariant

pub loop-fuel-preserved : goal.loop-fuel-preserved
loop-fuel-preserved g c =
    let s = sought_seen c.loop-fuel.search c.loop-fuel.out c.loop-fuel.position.now in
    let t = token_seen c.in-Ok.cut.token in
    let a = c.act_of-act.result in
    let rest = c.loop-fuel.rest.now in
    let behind = c.in-Ok.cut.rest.now in
    let kept : c.add_bytes.new.out ≡ s.kept ++ bytes_then a (take (length rest - length behind) rest) =
    c.in_ok-add_bytes.ensures ∙ ap (λ (x : List ℕ). s.kept ++ bytes_then a x) c.before-in-loop-fuel.ensures in
    let next = tail_from (c.loop-fuel.fuel - 1) (begins_feed rest) behind in
    ap (λ (b : Bool). tail_from (c.loop-fuel.fuel - 1) b behind (sought_seen c.then-search.result c.add_bytes.new.out c.position_then-position.result.now))
    c.begins_feed-fresh.ensures
    ∙ ap (λ (x : Search). next (sought_seen x c.add_bytes.new.out c.position_then-position.result.now)) c.then-search.ensures
    ∙ ap (λ (x : List ℕ). next (sought_seen (search_then c.loop-fuel.search a) x c.position_then-position.result.now)) kept
    ∙ ap (λ (x : List ℕ). next (sought_seen (search_then c.loop-fuel.search a) (s.kept ++ bytes_then a (take (length rest - length behind) rest)) x))
    c.position_then-position.ensures
    ∙ sym (next_on c.loop-fuel.fuel (c.loop-fuel.fuel - 1) c.loop-fuel.fresh s rest t behind a (omega (arith, c.loop-fuel-test.true))
    (sym c.read_token.ensures ∙ ap (option_map lexed_seen) (c.in-Some.is ∙ ap Some c.in-Ok.is))
    (sym (c.act_of-act.ensures ∙ ap (act_of c.loop-fuel.search) c.in_ok-part_of.ensures)) c.in_default-act.not-Begin c.in_default-act.not-Stop)
    ∙ c.loop-fuel.invariant
