use Rattle.std.proofs.Common.{ℕ, ◌+◌, ◌*◌, ◌-◌, ◌++◌, List, length, sym, ap, ◌∙◌, arith, length-append}
use Rattle.study_notation.specs.FenSpelling.{run, rank_field}
use Rattle.study_notation.proofs.RowText.{rest_text, rest_init, rest_none, rest_end, len_both, len_some, some_written}
use Rattle.study_notation.proofs.fen_writer.write_rank.Goals as goal
use Rattle.study_notation.proofs.fen_writer.write_rank.Goals.{in-None, in-Some}

pub loop-file-init : goal.loop-file-init
loop-file-init g c = (ap (λ (t : List ℕ). c.args.out.now.bytes ++ t) (rest_init c.args.men.now c.args.rank (8 * c.args.rank + 0) (omega arith)), omega arith)

pub push_run-requires : goal.push_run-requires
push_run-requires g c =
    let at = 8 * c.args.rank + c.loop-file.file in
    let n = 8 - c.loop-file.file in
    let m = 8 - (c.loop-file.file + 1) in
    let room = len_some c.args.men.now at (at + 1) n m c.loop-file.empty c.in-Some.piece (omega arith) (omega arith) (sym c.in-Some.ensures) in
    let both = len_both c.loop-file.out.bytes
    (rest_text c.args.men.now (8 * c.args.rank + c.loop-file.file) (8 - c.loop-file.file) c.loop-file.empty)
    c.args.out.now.bytes (rank_field c.args.men.now c.args.rank) c.loop-file.invariant.0 in
    (omega arith, (omega (arith, c.loop-file.invariant.1), omega (arith, c.requires.room, both, room)))

pub push_byte-requires : goal.push_byte-requires
push_byte-requires g c =
    let at = 8 * c.args.rank + c.loop-file.file in
    let n = 8 - c.loop-file.file in
    let m = 8 - (c.loop-file.file + 1) in (
      omega arith,
      (
        c.letter_of.ensures.ascii,
        omega (
          arith,
          c.requires.room,
          len_both c.loop-file.out.bytes
              (rest_text c.args.men.now (8 * c.args.rank + c.loop-file.file) (8 - c.loop-file.file) c.loop-file.empty)
              c.args.out.now.bytes (rank_field c.args.men.now c.args.rank) c.loop-file.invariant.0,
          ap length c.push_run.ensures,
          length-append c.loop-file.out.bytes (run c.loop-file.empty),
          len_some c.args.men.now at (at + 1) n m c.loop-file.empty c.in-Some.piece (omega arith) (omega arith)
              (sym c.in-Some.ensures),
        ),
      ),
    )

pub loop-file-preserved : goal.loop-file-preserved
loop-file-preserved g c =
    let at = 8 * c.args.rank + c.loop-file.file in
    let at' = 8 * c.args.rank + (c.loop-file.file + 1) in
    let n = 8 - c.loop-file.file in
    let m = 8 - (c.loop-file.file + 1) in
    let men = c.args.men.now in
    elim c.match-find_piece.branch [
      | in-None w ↦ rw (w.out-is, w.empty-is) (
        ap (λ (t : List ℕ). c.loop-file.out.bytes ++ t)
            (sym (rest_none men at at' n m c.loop-file.empty (omega arith) (omega arith) (sym w.in-None.ensures)))
            ∙ c.loop-file.invariant.0,
        omega arith,
      )
      | in-Some w ↦ rw (w.out-is, w.empty-is) (
        some_written c.loop-file.out.bytes w.push_run.new.out.bytes w.push_byte.new.out.bytes
            (c.args.out.now.bytes ++ rank_field men c.args.rank) men at at' n m c.loop-file.empty w.letter_of.result
            w.in-Some.piece (omega arith) (omega arith) (sym w.in-Some.ensures) w.letter_of.ensures.value
            w.push_run.ensures w.push_byte.ensures.bytes c.loop-file.invariant.0,
        omega arith,
      )
    ]

pub push_run-requires-2 : goal.push_run-requires-2
push_run-requires-2 g c = (
  omega arith,
  (
    omega (arith, c.loop-file.invariant.1),
    omega (
      arith,
      c.requires.room,
      len_both c.loop-file.out.bytes
          (rest_text c.args.men.now (8 * c.args.rank + c.loop-file.file) (8 - c.loop-file.file) c.loop-file.empty)
          c.args.out.now.bytes (rank_field c.args.men.now c.args.rank) c.loop-file.invariant.0,
      ap length (rest_end c.args.men.now (8 * c.args.rank + c.loop-file.file) (8 - c.loop-file.file)
          c.loop-file.empty (omega arith)),
    ),
  ),
)

pub returns : goal.returns
returns g c = c.push_run-2.ensures ∙ ap (λ (t : List ℕ). c.loop-file.out.bytes ++ t)
    (sym (rest_end c.args.men.now (8 * c.args.rank + c.loop-file.file) (8 - c.loop-file.file) c.loop-file.empty
    (omega arith))) ∙ c.loop-file.invariant.0
