-- The lines `#> ` of a study with any number of men spell that study.
use Rattle.std.proofs.Common.{◌≡◌, ℕ, suc, ◌+◌, ◌<◌, ◌≤◌, List, [], ◌∷◌, ◌++◌, map, Option, Some, None, Result, Ok, refl, sym, ap, subst}
use Rattle.std.proofs.Common.{◌∙◌, arith}
use Rattle.std.specs.Prelude.{drop, codes}
use Rattle.std.specs.List.{AllByRecursion}
use Rattle.study_text.specs.Paths.{path_text}
use Rattle.study_board.specs.declared.men.Side.TheVariants.{White}
use Rattle.study_notation.specs.declared.fault.FenFault.{FenFault}
use Rattle.study_tree.specs.Forest.{none, more}
use Rattle.study_tree.specs.Edits.{width}
use Rattle.study_marks.specs.declared.stipulation.Goal.TheVariants.{Win}
use Rattle.study_marks.specs.declared.stipulation.Stipulation.{Stipulation}
use Rattle.study_marks.specs.declared.tag.TagName.{TagName}
use Rattle.study_marks.specs.Study.{AreDistinct}
use Rattle.study_wide.specs.Wide.{Wide, IsWide}
use Rattle.study_wide.specs.Rules.{wide_after}
use Rattle.study_wide_text.specs.declared.start.WideStart.{WideStart}
use Rattle.study_wide_text.specs.Fen.{wide_fen_text}
use Rattle.study_wide_text.specs.SanSpelling.{wide_move_text}
use Rattle.study_wide_text.proofs.WideFen.{read_is, start_again}
use Rattle.study_command.specs.declared.command.FenCommand.TheVariants.{Position}
use Rattle.study_command.specs.Parser.{Asks, fen_command, stipulate, insert, tag, command_of}
use Rattle.study_command.specs.Lines.{script_lines}
use Rattle.study_games.specs.Header.{Pair}
use Rattle.study_tails.specs.Study.{Moves, WideStudy, IsWidePlayable, with_wide_stipulation, with_wide_tag}
use Rattle.study_tails.specs.Followed.{bare_study}
use Rattle.study_tails.specs.Lines.{study_lines}
use Rattle.study_import.specs.Blocks.{with_tags, wide_study, six_names}
use Rattle.study_import.specs.Meant.{tag_texts}
use Rattle.study_import.specs.ReadBack.{study_begun, study_asked, study_told, AreWideReadBack}
use Rattle.study_import.proofs.AimsCounted.{aim_counted}
use Rattle.study_import.proofs.CommandLines.{stipulate_words, tag_words, position_read, stipulate_asked, insert_asked}
use Rattle.study_import.proofs.PathAgain.{path_again}
use Rattle.study_import.proofs.Soundness.{Spelled, found, lines_of_remarks, text_of, tag_lines, tag_read}
use Rattle.study_import.proofs.Spelling.{AllBelow, path_some}
use Rattle.study_import.proofs.TailBlocks.{whole}
use Rattle.study_import.proofs.TailRead.{IsWhole}
use Rattle.study_import.proofs.WideFew.{few_children}
use Rattle.study_import.proofs.WideGathered.{gathered}
use Rattle.study_import.proofs.WideLines.{told, position_words, move_words, move_told, told_lines, study_remarked}
use Rattle.study_import.proofs.WidePaths.{path_ink}
use Rattle.study_import.proofs.WideReads.{noted}
use Rattle.study_import.proofs.WideRebuilt.{Told, moves_told, with_move, with_moves, rooted, rebuilt}
use Rattle.study_import.proofs.WideSound.{IsSoundStart, wide_sound}
use Rattle.study_import.proofs.WideTexts.{wide_fen_is, wide_move_short, wide_move_some}

told_append : (o : Option WideStudy) (xs ys : List (List ℕ)) → study_told o (xs ++ ys) ≡ study_told (study_told o xs) ys
told_append o [] ys = refl
told_append o (x ∷ xs) ys = told_append (study_asked o (command_of (drop 3 x))) xs ys

on_line : (o : Option WideStudy) (words : List ℕ) (lines : List (List ℕ)) (a : Asks) → command_of words ≡ a
    → study_told o (told words ∷ lines) ≡ study_told (study_asked o a) lines
on_line o words lines a e = ap (λ (x : Asks). study_told (study_asked o x) lines) e

-- ---- moves

IsReadMove : Told → Type 0
IsReadMove x = ◌≡◌ {A = Asks} (command_of (move_words x)) (Ok (Some (insert x.0 x.1)))

all_append : (xs ys : List Told) → AllByRecursion IsReadMove xs → AllByRecursion IsReadMove ys → AllByRecursion IsReadMove (xs ++ ys)
all_append [] ys h k = k
all_append (x ∷ xs) ys h k = (h.0, all_append xs ys h.1 k)

below_last : (ks : List ℕ) (k : ℕ) → AllBelow 1000 ks → k < 1000 → AllBelow 1000 (ks ++ k ∷ [])
below_last [] k h low = (low, tt)
below_last (j ∷ ks) k h low = (h.0, below_last ks k h.1 low)

moves_read : (g : Wide) (at : List ℕ) (k : ℕ) (f : Moves) → IsWide g → IsWidePlayable g f → AreDistinct f → AllBelow 1000 at → k + width f ≤ 1000
    → AllByRecursion IsReadMove (moves_told g at k f)
unfolding moves_told IsReadMove
moves_read g at k none h p d low few = tt
moves_read g at k (more m l b r) h p d low few =
    let after = wide_sound g m h p.0 in
    let children = few_children (wide_after g m) b after p.1 d.1 in
    let san = wide_move_text g m in
    let short = wide_move_short g m h p.0 in (
      insert_asked (path_text at) san at (path_ink at) (path_some 1000 at (omega arith) low) short.ink (wide_move_some g m p.0) (path_again at low),
      all_append (moves_told (wide_after g m) (at ++ k ∷ []) 0 b) (moves_told g at (suc k) r)
          (moves_read (wide_after g m) (at ++ k ∷ []) 0 b after p.1 d.1 (below_last at k low (omega (arith, few))) (omega (arith, children)))
          (moves_read g at (suc k) r h p.2 d.2 low (omega (arith, few))),
    )

moves_made : (o : Option WideStudy) (xs : List Told) → AllByRecursion IsReadMove xs → study_told o (map move_told xs) ≡ with_moves o xs
unfolding with_moves IsReadMove
moves_made o [] h = refl
moves_made None (x ∷ xs) h = on_line None (move_words x) (map move_told xs) (Ok (Some (insert x.0 x.1))) h.0 ∙ moves_made None xs h.1
moves_made (Some s) (x ∷ xs) h =
    on_line (Some s) (move_words x) (map move_told xs) (Ok (Some (insert x.0 x.1))) h.0 ∙ moves_made (with_move (Some s) x) xs h.1

-- ---- tags

tags_made : (tags : List Pair) (s : WideStudy) (names : List TagName) → study_told (Some s) (map told (tag_lines tags names)) ≡ Some (with_tags tags names s)
unfolding tag_lines
tags_made tags s [] = refl
tags_made tags s (name ∷ names) =
    on_line (Some s) (tag_words name (text_of tags name)) (map told (tag_lines tags names)) (Ok (Some (tag name (text_of tags name)))) (tag_read tags name)
    ∙ tags_made tags (with_wide_tag s name (text_of tags name)) names

-- ---- a study

abbrev any : Stipulation
any = record { hero = White; goal = Win }

begun : (start : WideStart) (lines : List (List ℕ)) → IsSoundStart start → start.clock ≤ 9999 → start.number ≤ 9999
    → study_told None (told (position_words start) ∷ lines) ≡ study_told (Some (bare_study start any)) lines
begun start lines h clock number =
    let fen = wide_fen_is start h.valid h.number in
    on_line None (position_words start) lines (Ok (Some (fen_command Position (wide_fen_text start))))
    (position_read (wide_fen_text start) fen.trimmed fen.prints)
    ∙ ap (λ (x : Result WideStart FenFault). study_told (study_begun x) lines) (start_again start h.valid clock h.positive number)

-- the study before its first move
completed : (tags : List Pair) (s : WideStudy) → s.tags ≡ tag_texts tags
    → Some (with_tags tags six_names (with_wide_stipulation (bare_study s.start any) s.stipulation)) ≡ Some (rooted s)
completed tags s e =
    ap (λ (ts : List (Option (List ℕ))). Some (rooted (record { start = s.start; stipulation = s.stipulation; tags = ts; tree = s.tree }))) (sym e)

again : (tags : List Pair) (s : WideStudy) → IsWhole tags s → s.start.clock ≤ 9999 → s.start.number ≤ 9999 → study_told None (told_lines tags s) ≡ Some s
unfolding told_lines
again tags s w clock number =
    let tagged = map told (tag_lines tags six_names) in
    let moves = moves_told s.start.position [] 0 s.tree.below in
    let stipulated = told (stipulate_words s.stipulation) in
    let bare = bare_study s.start any in
    let children = few_children s.start.position s.tree.below w.study.sound w.study.playable w.study.distinct in
    let read = moves_read s.start.position [] 0 s.tree.below w.study.sound w.study.playable w.study.distinct tt (omega (arith, children)) in
    let head : study_told None (told (position_words s.start) ∷ (stipulated ∷ tagged)) ≡ Some (rooted s) =
    begun s.start (stipulated ∷ tagged) w.begins clock number
    ∙ on_line (Some bare) (stipulate_words s.stipulation) tagged (Ok (Some (stipulate s.stipulation))) (stipulate_asked s.stipulation w.counted)
    ∙ tags_made tags (with_wide_stipulation bare s.stipulation) six_names
    ∙ completed tags s w.titled in
    told_append None (told (position_words s.start) ∷ (stipulated ∷ tagged)) (map move_told moves)
    ∙ ap (λ (o : Option WideStudy). study_told o (map move_told moves)) head
    ∙ moves_made (Some (rooted s)) moves read
    ∙ rebuilt s w.study w.shallow w.few

read_back : (tags : List Pair) (s : WideStudy) → IsWhole tags s → s.start.clock ≤ 9999 → s.start.number ≤ 9999
    → study_told None (script_lines (study_lines (codes "#> ") s)) ≡ Some s
read_back tags s w clock number =
    let r = study_remarked tags s w.begins w.study.playable w.shallow w.few w.titled in
    let spelled : Spelled (study_lines (codes "#> ") s) (told_lines tags s) = record { text = r.text; each = lines_of_remarks (told_lines tags s) r.each } in
    ap (study_told None) (found (study_lines (codes "#> ") s) (told_lines tags s) spelled) ∙ again tags s w clock number

same_start : (tags : List Pair) (aim : Stipulation) (s : WideStudy) → (wide_study tags aim s).start ≡ s.start
unfolding wide_study
same_start tags aim s = refl

pub wide_read_back : AreWideReadBack
wide_read_back c given tags fen text start x aim begins is stated =
    let r = read_is fen start begins in
    let few = r.number in
    let sound : IsSoundStart start = record { valid = r.valid; positive = r.positive; number = omega (arith, few) } in
    let study = gathered text start x is in
    let s = wide_study tags aim.stipulation x.study in
    let same : start ≡ s.start = sym study.begins ∙ sym (same_start tags aim.stipulation x.study) in
    let w = whole tags aim.stipulation start x.study study sound
    (aim_counted c.given tags start.position.board.to_move x.notes aim given (noted text start x is) stated) in
    read_back tags s w (subst (λ (z : WideStart). z.clock ≤ 9999) same r.clock) (subst (λ (z : WideStart). z.number ≤ 9999) same few)
