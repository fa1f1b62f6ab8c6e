use Rattle.std.proofs.Common.{◌≡◌, ◌≤◌, ℕ, ◌+◌, ◌-◌, ◌++◌, List, length, sym, ap, ◌∙◌, arith, length-append}
use Rattle.std.proofs.lemmas.List.{append-nil}
use Rattle.study_board.specs.declared.men.Man.{Man}
use Rattle.study_notation.specs.FenSpelling.{rank_field, placement_text}
use Rattle.study_notation.proofs.RowText.{below, placement_below, below_none, below_written, len_below}
use Rattle.study_notation.proofs.fen_writer.write_placement.Goals as goal

pub write_rank-requires : goal.write_rank-requires
write_rank-requires g c = (
  omega arith,
  (
    omega arith,
    omega (
      arith,
      ap length c.requires.empty,
      c.requires.room,
      ap length (placement_below c.args.men.now),
      length-append (rank_field c.args.men.now 7)
          (below c.args.men.now 7),
    ),
  ),
)

pub loop-down-init : goal.loop-down-init
loop-down-init g c =
    ap (λ (t : List ℕ). t ++ below c.args.men.now 7)
    (c.write_rank.ensures ∙ ap (λ (t : List ℕ). t ++ rank_field c.args.men.now 7) c.requires.empty)
    ∙ sym (placement_below c.args.men.now)

pub push_byte-requires : goal.push_byte-requires
push_byte-requires g c = (
  omega arith,
  (
    omega arith,
    omega (
      arith,
      c.requires.room,
      ap length c.loop-down.invariant,
      length-append c.loop-down.out.bytes (below c.args.men.now (8 - c.loop-down.down)),
      len_below c.args.men.now (8 - c.loop-down.down) (7 - c.loop-down.down) (omega arith),
    ),
  ),
)

pub write_rank-requires-in-loop-down : goal.write_rank-requires-in-loop-down
write_rank-requires-in-loop-down g c = (
  omega arith,
  (
    omega arith,
    omega (
      arith,
      c.push_byte.ensures.len,
      c.requires.room,
      ap length c.loop-down.invariant,
      length-append c.loop-down.out.bytes
          (below c.args.men.now (8 - c.loop-down.down)),
      len_below c.args.men.now (8 - c.loop-down.down)
          (7 - c.loop-down.down) (omega arith),
    ),
  ),
)

pub loop-down-preserved : goal.loop-down-preserved
loop-down-preserved g c =
    let e : 8 - (c.loop-down.down + 1) ≡ 7 - c.loop-down.down = omega arith in
    rw e (below_written c.loop-down.out.bytes c.push_byte.new.out.bytes c.write_rank-in-loop-down.new.out.bytes
    (placement_text c.args.men.now) c.args.men.now (8 - c.loop-down.down) (7 - c.loop-down.down) (omega arith)
    c.push_byte.ensures.bytes c.write_rank-in-loop-down.ensures c.loop-down.invariant)

written : (men : List Man) (out : List ℕ) (down : ℕ) → out ++ below men (8 - down) ≡ placement_text men → 8 ≤ down → out ≡ placement_text men
written men out down e all = sym (append-nil out) ∙ ap (λ (t : List ℕ). out ++ t) (sym (below_none men (8 - down) (omega arith))) ∙ e

pub returns-clause-bytes : goal.returns-clause-bytes
returns-clause-bytes g c = written c.args.men.now c.loop-down.out.bytes c.loop-down.down c.loop-down.invariant (omega arith)

pub returns-clause-len : goal.returns-clause-len
returns-clause-len g c = ap length (written c.args.men.now c.loop-down.out.bytes c.loop-down.down c.loop-down.invariant (omega arith))
