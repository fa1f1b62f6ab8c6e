-- The words of replies on small cases.
use Rattle.std.proofs.Common.{◌≡◌, [], ◌∷◌, Some, None, refl}
use Rattle.std.specs.Prelude.{codes}
use Rattle.std.specs.Fmt.{digits}
use Rattle.study_board.specs.declared.men.Side.TheVariants.{White}
use Rattle.study_material.specs.declared.class.Class.TheVariants.{KK, KQK, KRK}
use Rattle.study_material.specs.Class.{name_of}
use Rattle.study_values.specs.declared.value.Value.TheVariants.{Win, Loss}
use Rattle.study_values.specs.declared.fault.FileFault.TheVariants.{Version}
use Rattle.study_marks.specs.declared.mark.MoveMark.TheVariants.{Dual}
use Rattle.study_marks.specs.declared.stipulation.Goal.TheVariants.{MateIn}
use Rattle.study_reply.specs.declared.refusal.Refusal.TheVariants.{NoTable, AlreadyThere, File, TableReadPage}
use Rattle.study_text.specs.Paths.{path_text}
use Rattle.study_reply.specs.Names.{words_of}
use Rattle.study_reply.specs.Words.{stipulation_words, mark_text, solve_text, insert_text, built_text, loaded_text, saved_text, verified_text}

-- ---- replies

of_paths : path_text (0 ∷ 12 ∷ []) ≡ codes "0.12"
unfolding path_text digits
of_paths = refl

root : path_text [] ≡ codes "root"
unfolding path_text digits
root = refl

missing : words_of (NoTable KQK) ≡ codes "NoTable KQK"
unfolding words_of name_of
missing = refl

there : words_of (AlreadyThere 1) ≡ codes "AlreadyThere 1"
unfolding words_of digits
there = refl

newer : words_of (File (Version 3)) ≡ codes "Version 3"
unfolding words_of digits
newer = refl

damaged : words_of (TableReadPage 0) ≡ codes "TableRead Page 0"
unfolding words_of digits
damaged = refl

to_mate : stipulation_words (record { hero = White; goal = MateIn 2 }) ≡ codes "stipulate White to mate in 2\n"
unfolding digits
to_mate = refl

marked : mark_text (0 ∷ []) (record { value = Loss 0; on_move = Some (Dual 21); faults = 1 }) ≡ codes "mark 0 loss 0 dual 21 faults 1\n"
unfolding path_text digits
marked = refl

marked_root : mark_text [] (record { value = Win 1; on_move = None; faults = 1 }) ≡ codes "mark root win 1 - faults 1\n"
unfolding path_text digits
marked_root = refl

mated : insert_text (0 ∷ []) (codes "Qg8#") ≡ codes "insert 0 Qg8#\n"
unfolding path_text digits
mated = refl

solved : solve_text (Some 3) ≡ codes "solve plies 3\n"
unfolding digits
solved = refl

bare : built_text KK None ≡ codes "built KK cells 1280 win -\n"
unfolding name_of digits
bare = refl

deep : built_text KQK (Some 19) ≡ codes "built KQK cells 81920 win 19\n"
unfolding name_of digits
deep = refl

loaded : loaded_text KRK ≡ codes "loaded KRK cells 81920\n"
unfolding name_of digits
loaded = refl

saved : saved_text KRK 82624 ≡ codes "saved KRK bytes 82624\n"
unfolding name_of digits
saved = refl

verified : verified_text KRK ≡ codes "verified KRK yes\n"
unfolding name_of
verified = refl
