-- The block of a game with more men reads as a script that no rule refuses, and leads to the studies of its tails.
use Rattle.std.proofs.Common.{◌≡◌, ℕ, Bool, true, false, List, [], ◌∷◌, length, Option, Some, None, Result, Ok, Err, refl, subst, arith}
use Rattle.std.specs.Prelude.{if◌then◌else◌}
use Rattle.std.proofs.lemmas.List.{length-map}
use Rattle.study_board.specs.declared.men.Side.TheVariants.{White}
use Rattle.study_notation.specs.declared.fault.FenFault.{FenFault}
use Rattle.study_marks.specs.declared.stipulation.Goal.TheVariants.{Win}
use Rattle.study_marks.specs.declared.stipulation.Stipulation.{Stipulation}
use Rattle.study_wide_text.specs.declared.start.WideStart.{WideStart}
use Rattle.study_wide_text.specs.Fen.{wide_start_of}
use Rattle.study_wide_text.proofs.WideFen.{read_is}
use Rattle.study_games.specs.Header.{tags_of}
use Rattle.study_games.specs.declared.language.Language.{Language}
use Rattle.study_reading.specs.declared.aims.Aim.{Aim}
use Rattle.study_reading.specs.declared.movetext.MovesFault.{MovesFault}
use Rattle.study_reading.specs.Movetext.{Ended, read_moves}
use Rattle.study_reading.specs.Behind.{to_the_end}
use Rattle.study_reading.proofs.NoneBehind.{end_is}
use Rattle.study_tails.specs.declared.blocks.GameLeftOut.{GameLeftOut}
use Rattle.study_tails.specs.Study.{WideStudy}
use Rattle.study_tails.specs.Followed.{wide_men, no_wide_moves}
use Rattle.study_tails.specs.Tails.{tails, tail}
use Rattle.study_tails.specs.Blocks.{game_reason}
use Rattle.study_import.specs.declared.importer.Choice.{Choice}
use Rattle.study_import.specs.Blocks.{Entry, Reported, sources_of, aim_of_game, stopped_block, not_read_line, text_up_to, text_in}
use Rattle.study_import.specs.Blocks.{WideRead, wide_ended, wide_read, wide_study, wide_reported, tails_block, tailed_block, wide_aimed, tailed_up_to}
use Rattle.study_import.specs.Blocks.{wide_aimed_up_to, wide_up_to, wide_faulty, wide_read_block, wide_language_of, wide_block}
use Rattle.study_import.specs.Meant.{tail_study, tail_studies, wide_studies_aimed, wide_studies_of_moves, wide_studies_up_to, wide_studies_read, wide_studies_begun}
use Rattle.study_import.specs.Laws.{IsGiven}
use Rattle.study_import.proofs.AimsCounted.{IsNoted, aim_counted}
use Rattle.study_import.proofs.Openings.{opening_given}
use Rattle.study_import.proofs.Remarks.{wider, stopped_lines, not_read_is, unaimed_is, left_out_is, fen_words_part}
use Rattle.study_import.proofs.Soundness.{Reads, remarks_read, under_reads}
use Rattle.study_import.proofs.TailBlocks.{whole, tails_reads, no_tails_is, has_tails}
use Rattle.study_import.proofs.TailRead.{IsWhole}
use Rattle.study_import.proofs.WideGathered.{IsGathered, gathered}
use Rattle.study_import.proofs.WideSound.{IsSoundStart}

-- ---- the notes of a game

any : Stipulation
any = record { hero = White; goal = Win }

pub noted : (text : List ℕ) (start : WideStart) (x : WideRead) → wide_read text start ≡ Ok x → IsNoted x.notes
unfolding wide_read any
noted text start x e = by_end (to_the_end (read_moves wide_men (length text) true text (no_wide_moves start any))) refl e
  where
    by_end : (r : Result (Ended WideStudy) MovesFault) → to_the_end (read_moves wide_men (length text) true text (no_wide_moves start any)) ≡ r
        → wide_ended r ≡ Ok x → IsNoted x.notes
    by_end (Err fault) is e = let no : ⊥ = cc in absurd no
    by_end (Ok y) is e =
        let one : record { study = y.game.reading.study; notes = y.game.notes; behind = y.behind } ≡ x = cc in
        let read = end_is (read_moves wide_men (length text) true text (no_wide_moves start any)) y is in
        subst (λ (z : WideRead). IsNoted z.notes) one
        (opening_given wide_men (length text) true text (no_wide_moves start any) y (tt, tt) read)

-- ---- a game

module _ (c : Choice) (g : IsGiven c.given) (e : Entry) where
  stopped_reads : (fault : MovesFault) → Reads (stopped_block e fault) (None ∷ [])
  stopped_reads fault = remarks_read (stopped_block e fault).text (stopped_lines e fault)

  tailed_reads : (aim : Aim) (t : Reported) (s : WideStudy) (o : Option GameLeftOut) → IsWhole (tags_of e.text) s → game_reason s ≡ o
      → Reads (tailed_block e aim t s o) (tail_studies s o)
  tailed_reads aim t s (Some why) w is = remarks_read _ (no_tails_is e s why)
  tailed_reads aim t s None w is = let h = has_tails s is in tails_reads e s w aim t h.some h.few

  tailed_up_to_reads : (fault : MovesFault) (aim : Aim) (t : Reported) (s : WideStudy) (o : Option GameLeftOut) → IsWhole (tags_of e.text) s
      → game_reason s ≡ o → Reads (tailed_up_to e fault aim t s o) (tail_studies s o)
  tailed_up_to_reads fault aim t s (Some why) w is = stopped_reads fault
  tailed_up_to_reads fault aim t s None w is =
      let h = has_tails s is in
      let some = h.some in
      under_reads (not_read_line e fault) (tails_block e aim t s) _ (omega (arith, some, length-map (tails s) (λ path. tail_study (tail s path))))
      (not_read_is e fault) (tails_reads e s w aim t h.some h.few)

  -- what is known of the moves that were read
  record IsReadWide (start : WideStart) (x : WideRead) : Type 0 where
    sound : IsSoundStart start
    study : IsGathered start x.study
    notes : IsNoted x.notes

  whole_aimed : (start : WideStart) (x : WideRead) (aim : Aim) → IsReadWide start x
      → aim_of_game c.given (tags_of e.text) start.position.board.to_move x.notes ≡ Some aim
      → IsWhole (tags_of e.text) (wide_study (tags_of e.text) aim.stipulation x.study)
  whole_aimed start x aim r a =
      whole (tags_of e.text) aim.stipulation start x.study r.study r.sound
      (aim_counted c.given (tags_of e.text) start.position.board.to_move x.notes aim g r.notes a)

  aimed_reads : (start : WideStart) (x : WideRead) (t : Reported) (aim : Option Aim) → IsReadWide start x
      → aim_of_game c.given (tags_of e.text) start.position.board.to_move x.notes ≡ aim
      → Reads (wide_aimed e t x.study (sources_of c.given (tags_of e.text) start.position.board.to_move x.notes) aim)
      (wide_studies_aimed (tags_of e.text) x.study aim)
  aimed_reads start x t None r a = remarks_read _ (unaimed_is e (sources_of c.given (tags_of e.text) start.position.board.to_move x.notes))
  aimed_reads start x t (Some aim) r a =
      let s = wide_study (tags_of e.text) aim.stipulation x.study in tailed_reads aim t s (game_reason s) (whole_aimed start x aim r a) refl

  aimed_up_to_reads : (start : WideStart) (fault : MovesFault) (x : WideRead) (aim : Option Aim) → IsReadWide start x
      → aim_of_game c.given (tags_of e.text) start.position.board.to_move x.notes ≡ aim
      → Reads (wide_aimed_up_to e fault x aim) (wide_studies_aimed (tags_of e.text) x.study aim)
  aimed_up_to_reads start fault x None r a = stopped_reads fault
  aimed_up_to_reads start fault x (Some aim) r a =
      let s = wide_study (tags_of e.text) aim.stipulation x.study in
      tailed_up_to_reads fault aim (record (wide_reported None x) { behind = [] }) s (game_reason s) (whole_aimed start x aim r a) refl

  read_wide : (text : List ℕ) (start : WideStart) (x : WideRead) → IsSoundStart start → wide_read text start ≡ Ok x → IsReadWide start x
  read_wide text start x h is = record { sound = h; study = gathered text start x is; notes = noted text start x is }

  up_to_reads : (text : List ℕ) (start : WideStart) (fault : MovesFault) (x : Result WideRead MovesFault) → IsSoundStart start → wide_read text start ≡ x
      → Reads (wide_up_to c.given e start fault x) (wide_studies_of_moves c.given (tags_of e.text) start x)
  up_to_reads text start fault (Err other) h is = stopped_reads fault
  up_to_reads text start fault (Ok x) h is =
      aimed_up_to_reads start fault x (aim_of_game c.given (tags_of e.text) start.position.board.to_move x.notes) (read_wide text start x h is) refl

  if_up_to_reads : (start : WideStart) (fault : MovesFault) (wanted : Bool) → IsSoundStart start
      → (let x = wide_read (text_up_to e.text fault.left) start in
      Reads (if wanted then wide_up_to c.given e start fault x else stopped_block e fault)
      (if wanted then wide_studies_of_moves c.given (tags_of e.text) start x else None ∷ []))
  if_up_to_reads start fault true h = up_to_reads (text_up_to e.text fault.left) start fault (wide_read (text_up_to e.text fault.left) start) h refl
  if_up_to_reads start fault false h = stopped_reads fault

  faulty_reads : (start : WideStart) (fault : MovesFault) → IsSoundStart start → Reads (wide_faulty c e start fault) (wide_studies_up_to c e.text start fault)
  unfolding wide_faulty wide_studies_up_to
  faulty_reads start fault h = if_up_to_reads start fault c.up_to_faults h

  read_reads : (text : List ℕ) (start : WideStart) (l : Option Language) (x : Result WideRead MovesFault) → IsSoundStart start → wide_read text start ≡ x
      → Reads (wide_read_block c e start l x) (wide_studies_read c e.text start x)
  read_reads text start l (Err fault) h is = faulty_reads start fault h
  read_reads text start l (Ok x) h is =
      aimed_reads start x (wide_reported l x) (aim_of_game c.given (tags_of e.text) start.position.board.to_move x.notes) (read_wide text start x h is) refl

  pub wide_reads : (fen : List ℕ) (x : Result WideStart FenFault) → wide_start_of fen ≡ x → Reads (wide_block c e fen x) (wide_studies_begun c e.text x)
  wide_reads fen (Err fault) is = remarks_read _ (left_out_is e _ (wider 100 200 _ (omega arith) (fen_words_part fen fault)))
  wide_reads fen (Ok start) is =
      let r = read_is fen start is in
      let number = r.number in
      let sound : IsSoundStart start = record { valid = r.valid; positive = r.positive; number = omega (arith, number) } in
      let l = wide_language_of e.text start in let text = text_in l e.text in read_reads text start l (wide_read text start) sound refl
