use Rattle.std.proofs.Common.{◌≡◌, ℕ, ◌+◌, ◌*◌, ◌/◌, ◌%◌, ◌≤◌, arith, sym, ◌∙◌, ap, subst}
use Rattle.study_board.specs.Geometry.{files_apart, rank_of}
use Rattle.study_board.specs.Sets.{has}
use Rattle.study_retro.proofs.StillChess.{not_true}
use Rattle.study_retro.proofs.Twins.{apart_without_en_passant, single_without_en_passant}
use Rattle.study_retro.proofs.numbers.en_passant.squares_without_en_passant.Goals as goal

pub returns-then-not-has_both_pawns : goal.returns-then-not-has_both_pawns
returns-then-not-has_both_pawns c = λ y ly e.
    single_without_en_passant c.args.class (64 * c.args.row + y) (sym c.has_both_pawns.ensures ∙ c.if-not-has_both_pawns.true)

pub returns : goal.returns
returns c = λ y ly e.
    let n : ℕ = 64 * c.args.row + y in
    let pawn = c.at-pawn.ensures in
    let white : n / 64 % 64 ≡ c.at-pawn.result = omega (arith, ly, pawn) in
    let black : n % 64 ≡ y = omega (arith, ly) in
    let out = not_true (has c.adjacent_squares.result y) (sym (c.complement-2.ensures y ly) ∙ e) in
    apart_without_en_passant c.args.class n
    (λ rank files low high.
    c.adjacent_squares.ensures y ly out
    (sym (ap (λ (x : ℕ). rank_of x) white) ∙ rank ∙ ap (λ (x : ℕ). rank_of x) black)
    (sym (ap (λ (x : ℕ). files_apart x y) white) ∙ sym (ap (λ (x : ℕ). files_apart (n / 64 % 64) x) black) ∙ files)
    (subst (λ (x : ℕ). 3 ≤ rank_of x) white low)
    (subst (λ (x : ℕ). rank_of x ≤ 4) white high))
