use Rattle.std.proofs.Common.{◌&&◌, ◌||◌, ℕ, Bool, List, map, sym, ◌∙◌, ap}
use Rattle.std.specs.List.{list_any}
use Rattle.study_board.specs.Men.{attacks_square, other_side, same_side, moved_if}
use Rattle.study_board.specs.Sets.{has}
use Rattle.study_retro.specs.declared.rows.checks.Attacker.{Attacker}
use Rattle.study_retro.specs.RowMoves.{attacked_with_last, keeps_attack_past, does_not_block}
use Rattle.study_retro.specs.Still.{opposing_man, on_square}
use Rattle.study_retro.proofs.CheckLemmas.{bears_without, by_three, king_itself, still_at}
use Rattle.study_retro.proofs.rows.checks.squares_attacking_after.Goals as goal

pub returns-then-eq : goal.returns-then-eq
returns-then-eq c y ly apart =
    let checks = c.args.checks.now in
    c.squares_attacking_by.ensures y ly
    ∙ king_itself checks.others.now checks.men.items checks.last.now checks.man.now c.args.to y c.requires.man checks.rest apart (other_side checks.side)
    c.args.king (sym c.eq.ensures ∙ c.if-eq.true)

pub squares_of_last_past-of_last-requires : goal.squares_of_last_past-of_last-requires
squares_of_last_past-of_last-requires c y ly gives =
    let checks = c.args.checks.now in
    let last = checks.last.now in
    bears_without checks.men.items (opposing_man last c.args.king) y (same_side last.side (other_side checks.side))
    (sym (checks.last_bears c.args.king c.requires.king y ly) ∙ gives)

pub returns : goal.returns
returns c y ly apart =
    let checks = c.args.checks.now in
    let last = checks.last.now in
    let to = c.args.to in
    let man = checks.man.now in
    let k = c.args.king in
    let men = checks.men.items in
    let attackers = checks.attackers.items in
    let by = other_side checks.side in
    let moved = map (moved_if man.at to) checks.others.now in
    let of_man = c.squares_keeping_attack_from-of_man in
    let of_last = c.squares_of_last_past-of_last in
    c.union-2.ensures y
    ∙ ap (λ (b : Bool). b || has of_last.result y)
    (c.union.ensures y
    ∙ ap (λ (b : Bool). b || has of_man.result y)
    (c.squares_attacking_past.ensures y ly ∙ ap (λ (l : List Attacker). list_any (keeps_attack_past to k y) l) c.as_slice.ensures.value)
    ∙ ap (λ (b : Bool). list_any (keeps_attack_past to k y) attackers || b)
    (of_man.ensures y ly ∙ ap (λ (b : Bool). b && does_not_block (on_square man to) k y) (checks.man_bears k c.requires.king to c.number-2.ensures.small)))
    ∙ ap (λ (b : Bool). (list_any (keeps_attack_past to k y) attackers
    || ((same_side man.side by && attacks_square men (opposing_man man k) to) && does_not_block (on_square man to) k y)) || b)
    (of_last.ensures y ly ∙ ap (λ (b : Bool). b && does_not_block (opposing_man last k) y to) (checks.last_bears k c.requires.king y ly))
    ∙ sym (by_three checks.others.now men last man to y c.requires.man checks.rest apart by attackers checks.bear k c.number.ensures.small)
    ∙ ap (λ (x : ℕ). attacked_with_last moved last by x y) (sym (still_at man.at to k (sym c.eq.ensures ∙ c.if-eq.false)))
