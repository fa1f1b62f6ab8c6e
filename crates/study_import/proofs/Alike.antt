-- The study of a game depends on no number.
use Rattle.std.proofs.Common.{◌≡◌, ℕ, ◌≤◌, Bool, true, false, List, [], length, Option, Some, None, Result, Ok, Err, refl, sym, ap, ◌∙◌, arith}
use Rattle.std.proofs.lemmas.Bool.{false≢true}
use Rattle.std.specs.Prelude.{◌==◌, ◌&&◌, not, is_none, codes, if◌then◌else◌}
use Rattle.study_notation.specs.declared.start.Start.{Start}
use Rattle.study_notation.specs.declared.fault.FenFault.{FenFault}
use Rattle.study_notation.specs.declared.fault.FenFault.TheVariants as fen_fault
use Rattle.study_notation.specs.Fen.{start_of}
use Rattle.study_import.specs.declared.importer.Choice.{Choice}
use Rattle.study_games.specs.Header.{tags_of, header_fault, value_of}
use Rattle.study_games.specs.declared.language.Language.{Language}
use Rattle.study_games.specs.declared.header.HeaderFault.{HeaderFault}
use Rattle.study_reading.specs.declared.aims.Aim.{Aim}
use Rattle.study_reading.specs.declared.aims.Sources.{Sources}
use Rattle.study_reading.specs.Aims.{aim_by_sources}
use Rattle.study_reading.specs.declared.movetext.MovesFault.{MovesFault}
use Rattle.study_import.specs.FewMen.{Ended}
use Rattle.study_import.specs.Blocks.{Block, Reported, reported_of, reported_up_to, no_study, left_out, sources_of, aim_of_game, aimed_block, stopped_block}
use Rattle.study_import.specs.Blocks.{text_up_to, aimed_up_to, block_up_to, faulty_block, read_block, game_read, language_of, text_in}
use Rattle.study_wide_text.specs.declared.start.WideStart.{WideStart}
use Rattle.study_wide_text.specs.Fen.{wide_start_of}
use Rattle.study_tails.specs.declared.blocks.GameLeftOut.{GameLeftOut}
use Rattle.study_tails.specs.Study.{WideStudy}
use Rattle.study_tails.specs.Blocks.{game_reason}
use Rattle.study_import.specs.Blocks.{fault_line, WideRead, wide_read, wide_study, wide_reported, tails_block, tailed_block, wide_aimed}
use Rattle.study_import.specs.Blocks.{tailed_up_to, wide_aimed_up_to, wide_up_to, wide_faulty, wide_read_block, wide_language_of}
use Rattle.study_import.specs.Blocks.{wide_block, initial_fen}
use Rattle.study_import.specs.Blocks.{fen_in, start_block, fen_block, repeated_name, single_block, header_block, block_of, tail_of, tail_line, under_remark, block_or_tail}
use Rattle.study_import.specs.Tails.{Tail, position_text}
use Rattle.study_import.specs.Laws.{entry_of, study_block, is_beyond, has_wide_fen, is_wide_by, Alike, AreAlike}

module _ (c : Choice) (text : List ℕ) where
  abbrev Made : Bool → (ℕ → ℕ → Block) → Type 0
  Made false make = (start : Start) × (aim : Aim) × (reported : Reported) × (fault : Option MovesFault)
      × (c.up_to_faults ≡ false → fault ≡ None) × ((number line : ℕ) → make number line ≡ study_block (entry_of number line text) start aim reported fault)
  Made true make = (study : WideStudy) × (aim : Aim) × (reported : Reported) × (fault : Option MovesFault)
      × (c.up_to_faults ≡ false → fault ≡ None) × ((number line : ℕ) → make number line
      ≡ under_remark (fault_line (entry_of number line text) fault) (tails_block (entry_of number line text) aim reported study))

  aimed_alike : (start : Start) (t : Reported) (s : Sources) (aim : Option Aim) (m k : ℕ) → 1 ≤ (aimed_block (entry_of m k text) start t s aim).studies
      → Made false (λ number line. aimed_block (entry_of number line text) start t s aim)
  aimed_alike start t s None m k e = absurd (omega arith)
  aimed_alike start t s (Some aim) m k e = (start, aim, t, None, λ off. refl, λ number line. refl)

  aimed_up_to_alike : c.up_to_faults ≡ true → (start : Start) (fault : MovesFault) (t : Reported) (aim : Option Aim) (m k : ℕ)
      → 1 ≤ (aimed_up_to (entry_of m k text) start fault t aim).studies → Made false (λ number line. aimed_up_to (entry_of number line text) start fault t aim)
  aimed_up_to_alike on start fault t None m k e = absurd (omega arith)
  aimed_up_to_alike on start fault t (Some aim) m k e = (start, aim, t, Some fault, λ off. absurd (false≢true (sym off ∙ on)), λ number line. refl)

  up_to_alike : c.up_to_faults ≡ true → (start : Start) (fault : MovesFault) (x : Result Ended MovesFault) (m k : ℕ)
      → 1 ≤ (block_up_to c.given (entry_of m k text) start fault x).studies
      → Made false (λ number line. block_up_to c.given (entry_of number line text) start fault x)
  up_to_alike on start fault (Err other) m k e = absurd (omega arith)
  up_to_alike on start fault (Ok x) m k e =
      aimed_up_to_alike on start fault (reported_up_to x) (aim_of_game c.given (tags_of text) start.position.to_move x.game.notes) m k e

  if_up_to_alike : (start : Start) (fault : MovesFault) (x : Result Ended MovesFault) (wanted : Bool) → c.up_to_faults ≡ wanted → (m k : ℕ)
      → 1 ≤ (if wanted then block_up_to c.given (entry_of m k text) start fault x else stopped_block (entry_of m k text) fault).studies
      → Made false
      (λ number line. if wanted then block_up_to c.given (entry_of number line text) start fault x else stopped_block (entry_of number line text) fault)
  if_up_to_alike start fault x true on m k e = up_to_alike on start fault x m k e
  if_up_to_alike start fault x false off m k e = absurd (omega arith)

  faulty_alike : (start : Start) (fault : MovesFault) (m k : ℕ) → 1 ≤ (faulty_block c (entry_of m k text) start fault).studies
      → Made false (λ number line. faulty_block c (entry_of number line text) start fault)
  unfolding faulty_block
  faulty_alike start fault m k e = if_up_to_alike start fault (game_read (text_up_to text fault.left) start) c.up_to_faults refl m k e

  read_alike : (start : Start) (l : Option Language) (x : Result Ended MovesFault) (m k : ℕ)
      → 1 ≤ (read_block c (entry_of m k text) start l x).studies → Made false (λ number line. read_block c (entry_of number line text) start l x)
  read_alike start l (Err fault) m k e = faulty_alike start fault m k e
  read_alike start l (Ok x) m k e =
      let s = sources_of c.given (tags_of text) start.position.to_move x.game.notes in
      aimed_alike start (reported_of l x) s (aim_by_sources s) m k e

  -- ---- with more men

  tailed_alike : (aim : Aim) (t : Reported) (s : WideStudy) (o : Option GameLeftOut) (m k : ℕ) → 1 ≤ (tailed_block (entry_of m k text) aim t s o).studies
      → Made true (λ number line. tailed_block (entry_of number line text) aim t s o)
  tailed_alike aim t s (Some why) m k e = absurd (omega arith)
  tailed_alike aim t s None m k e = (s, aim, t, None, λ off. refl, λ number line. refl)

  wide_aimed_alike : (t : Reported) (s : WideStudy) (from : Sources) (aim : Option Aim) (m k : ℕ)
      → 1 ≤ (wide_aimed (entry_of m k text) t s from aim).studies → Made true (λ number line. wide_aimed (entry_of number line text) t s from aim)
  wide_aimed_alike t s from None m k e = absurd (omega arith)
  wide_aimed_alike t s from (Some aim) m k e =
      let study = wide_study (tags_of text) aim.stipulation s in tailed_alike aim t study (game_reason study) m k e

  tailed_up_to_alike : c.up_to_faults ≡ true → (fault : MovesFault) (aim : Aim) (t : Reported) (s : WideStudy) (o : Option GameLeftOut) (m k : ℕ)
      → 1 ≤ (tailed_up_to (entry_of m k text) fault aim t s o).studies
      → Made true (λ number line. tailed_up_to (entry_of number line text) fault aim t s o)
  tailed_up_to_alike on fault aim t s (Some why) m k e = absurd (omega arith)
  tailed_up_to_alike on fault aim t s None m k e = (s, aim, t, Some fault, λ off. absurd (false≢true (sym off ∙ on)), λ number line. refl)

  wide_aimed_up_to_alike : c.up_to_faults ≡ true → (fault : MovesFault) (x : WideRead) (aim : Option Aim) (m k : ℕ)
      → 1 ≤ (wide_aimed_up_to (entry_of m k text) fault x aim).studies
      → Made true (λ number line. wide_aimed_up_to (entry_of number line text) fault x aim)
  wide_aimed_up_to_alike on fault x None m k e = absurd (omega arith)
  wide_aimed_up_to_alike on fault x (Some aim) m k e =
      let study = wide_study (tags_of text) aim.stipulation x.study in
      tailed_up_to_alike on fault aim (record (wide_reported None x) { behind = [] }) study (game_reason study) m k e

  wide_up_to_alike : c.up_to_faults ≡ true → (start : WideStart) (fault : MovesFault) (x : Result WideRead MovesFault) (m k : ℕ)
      → 1 ≤ (wide_up_to c.given (entry_of m k text) start fault x).studies
      → Made true (λ number line. wide_up_to c.given (entry_of number line text) start fault x)
  wide_up_to_alike on start fault (Err other) m k e = absurd (omega arith)
  wide_up_to_alike on start fault (Ok x) m k e =
      wide_aimed_up_to_alike on fault x (aim_of_game c.given (tags_of text) start.position.board.to_move x.notes) m k e

  if_wide_up_to_alike : (start : WideStart) (fault : MovesFault) (x : Result WideRead MovesFault) (wanted : Bool) → c.up_to_faults ≡ wanted → (m k : ℕ)
      → 1 ≤ (if wanted then wide_up_to c.given (entry_of m k text) start fault x else stopped_block (entry_of m k text) fault).studies
      → Made true
      (λ number line. if wanted then wide_up_to c.given (entry_of number line text) start fault x else stopped_block (entry_of number line text) fault)
  if_wide_up_to_alike start fault x true on m k e = wide_up_to_alike on start fault x m k e
  if_wide_up_to_alike start fault x false off m k e = absurd (omega arith)

  wide_faulty_alike : (start : WideStart) (fault : MovesFault) (m k : ℕ) → 1 ≤ (wide_faulty c (entry_of m k text) start fault).studies
      → Made true (λ number line. wide_faulty c (entry_of number line text) start fault)
  unfolding wide_faulty
  wide_faulty_alike start fault m k e = if_wide_up_to_alike start fault (wide_read (text_up_to text fault.left) start) c.up_to_faults refl m k e

  wide_read_alike : (start : WideStart) (l : Option Language) (x : Result WideRead MovesFault) (m k : ℕ)
      → 1 ≤ (wide_read_block c (entry_of m k text) start l x).studies → Made true (λ number line. wide_read_block c (entry_of number line text) start l x)
  wide_read_alike start l (Err fault) m k e = wide_faulty_alike start fault m k e
  wide_read_alike start l (Ok x) m k e =
      let s = sources_of c.given (tags_of text) start.position.board.to_move x.notes in
      wide_aimed_alike (wide_reported l x) x.study s (aim_by_sources s) m k e

  wide_alike : (fen : List ℕ) (x : Result WideStart FenFault) (m k : ℕ) → 1 ≤ (wide_block c (entry_of m k text) fen x).studies
      → Made true (λ number line. wide_block c (entry_of number line text) fen x)
  wide_alike fen (Err fault) m k e = absurd (omega arith)
  wide_alike fen (Ok start) m k e =
      let l = wide_language_of text start in wide_read_alike start l (wide_read (text_in l text) start) m k e

  -- ---- a game

  start_alike : (fen : List ℕ) (x : Result Start FenFault) (m k : ℕ) → 1 ≤ (start_block c (entry_of m k text) fen x).studies
      → Made (is_beyond x) (λ number line. start_block c (entry_of number line text) fen x)
  start_alike fen (Err fen_fault.TooManyMen) m k e = wide_alike fen (wide_start_of fen) m k e
  start_alike fen (Err fen_fault.Castling) m k e = wide_alike fen (wide_start_of fen) m k e
  start_alike fen (Err fen_fault.FieldCount) m k e = absurd (omega arith)
  start_alike fen (Err fen_fault.Placement) m k e = absurd (omega arith)
  start_alike fen (Err fen_fault.KingCount) m k e = absurd (omega arith)
  start_alike fen (Err fen_fault.PawnOnEndRank) m k e = absurd (omega arith)
  start_alike fen (Err fen_fault.SideField) m k e = absurd (omega arith)
  start_alike fen (Err fen_fault.OpponentInCheck) m k e = absurd (omega arith)
  start_alike fen (Err fen_fault.EnPassantField) m k e = absurd (omega arith)
  start_alike fen (Err fen_fault.EnPassantImpossible) m k e = absurd (omega arith)
  start_alike fen (Err fen_fault.Clock) m k e = absurd (omega arith)
  start_alike fen (Err fen_fault.MoveNumber) m k e = absurd (omega arith)
  start_alike fen (Ok start) m k e =
      let l = language_of text start in read_alike start l (game_read (text_in l text) start) m k e

  fen_alike : (value : Option (List ℕ)) (m k : ℕ) → 1 ≤ (fen_block c (entry_of m k text) value).studies
      → Made (has_wide_fen value) (λ number line. fen_block c (entry_of number line text) value)
  fen_alike None m k e = wide_alike initial_fen (wide_start_of initial_fen) m k e
  fen_alike (Some value) m k e = start_alike (fen_in value) (start_of (fen_in value)) m k e

  single_alike : (name : Option (List ℕ)) (m k : ℕ) → 1 ≤ (single_block c (entry_of m k text) (tags_of text) name).studies
      → Made (is_none name && has_wide_fen (value_of (codes "FEN") (tags_of text)))
      (λ number line. single_block c (entry_of number line text) (tags_of text) name)
  single_alike (Some name) m k e = absurd (omega arith)
  single_alike None m k e = fen_alike (value_of (codes "FEN") (tags_of text)) m k e

  tagged_alike : (none : Bool) (m k : ℕ)
      → 1 ≤ (if none then no_study (left_out (entry_of m k text) (codes "left out: no tags")) else single_block c (entry_of m k text)
      (tags_of text) (repeated_name (tags_of text))).studies
      → Made (not none && (is_none (repeated_name (tags_of text)) && has_wide_fen (value_of (codes "FEN") (tags_of text))))
      (λ number line. if none then no_study (left_out (entry_of number line text) (codes "left out: no tags"))
      else single_block c (entry_of number line text) (tags_of text) (repeated_name (tags_of text)))
  tagged_alike true m k e = absurd (omega arith)
  tagged_alike false m k e = single_alike (repeated_name (tags_of text)) m k e

  header_alike : (fault : Option HeaderFault) (m k : ℕ) → 1 ≤ (header_block c (entry_of m k text) fault).studies
      → Made (is_none fault && (not (length (tags_of text) == 0)
      && (is_none (repeated_name (tags_of text)) && has_wide_fen (value_of (codes "FEN") (tags_of text)))))
      (λ number line. header_block c (entry_of number line text) fault)
  header_alike (Some fault) m k e = absurd (omega arith)
  header_alike None m k e = tagged_alike (length (tags_of text) == 0) m k e

own_alike : (c : Choice) (text : List ℕ) (m k : ℕ) → 1 ≤ (block_of c m (record { line = k; text = Some text })).studies
    → Made c text (is_wide_by (Some text) None) (λ number line. block_of c number (record { line = line; text = Some text }))
unfolding block_of
own_alike c text m k e = header_alike c text (header_fault text) m k e

-- below no remark
alone : (c : Choice) (text : List ℕ) (wide : Bool) (make : ℕ → ℕ → Block) → Made c text wide make → Alike wide c text None make
alone c text false make (start, aim, reported, fault, none, same) = (start, aim, reported, fault, none, same)
alone c text true make (study, aim, reported, fault, none, same) = (study, aim, reported, fault, none, same)

-- below that of a tail
below : (c : Choice) (text : List ℕ) (t : Tail) (wide : Bool) (make : ℕ → ℕ → Block) → Made c t.text wide make
    → Alike wide c text (Some t) (λ number line. under_remark (tail_line t.skipped) (make number line))
below c text t false make (start, aim, reported, fault, none, same) =
    (start, aim, reported, fault, none, λ number line. ap (under_remark (tail_line t.skipped)) (same number line))
below c text t true make (study, aim, reported, fault, none, same) =
    (study, aim, reported, fault, none, λ number line. ap (under_remark (tail_line t.skipped)) (same number line))

by_alike : (c : Choice) (text : List ℕ) (tail : Option Tail) (m k : ℕ)
    → 1 ≤ (block_or_tail c m (record { line = k; text = Some text }) tail).studies
    → Alike (is_wide_by (Some text) tail) c text tail (λ number line. block_or_tail c number (record { line = line; text = Some text }) tail)
by_alike c text None m k e =
    alone c text (is_wide_by (Some text) None) (λ number line. block_of c number (record { line = line; text = Some text })) (own_alike c text m k e)
by_alike c text (Some t) m k e =
    let fen = position_text t.position in
    below c text t (is_beyond (start_of fen)) (λ number line. start_block c (entry_of number line t.text) fen (start_of fen))
    (start_alike c t.text fen (start_of fen) m k e)

pub alike : AreAlike
alike c text m k e = by_alike c text (tail_of c.tails (Some text)) m k e
