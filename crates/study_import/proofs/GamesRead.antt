-- The block of a game that is read by the rules for four men reads as a script that no rule refuses, and leads to the game's study.
use Rattle.std.proofs.Common.{◌≡◌, ℕ, ◌-◌, ◌≤◌, Bool, true, false, List, [], ◌∷◌, ◌++◌, length, Option, Some, None}
use Rattle.std.proofs.Common.{Result, Ok, Err, refl, sym, ap, subst, ◌∙◌, arith}
use Rattle.std.specs.Prelude.{◌==◌, codes, if◌then◌else◌}
use Rattle.std.specs.List.{AllByRecursion}
use Rattle.study_notation.specs.declared.start.Start.{Start}
use Rattle.study_notation.specs.declared.fault.FenFault.{FenFault}
use Rattle.study_notation.specs.declared.fault.FenFault.TheVariants as fen_fault
use Rattle.study_notation.specs.Fen.{start_of}
use Rattle.study_notation.proofs.FenStarts.{IsRead as IsStart, read_is}
use Rattle.study_marks.specs.declared.stipulation.Stipulation.{Stipulation}
use Rattle.study_games.specs.Games.{Game, games_of, one_more}
use Rattle.study_import.specs.declared.importer.Choice.{Choice}
use Rattle.study_import.specs.Imported.{no_game, script_of}
use Rattle.study_games.specs.Header.{Pair, tags_of, header_fault, value_of}
use Rattle.study_games.specs.declared.header.HeaderFault.{HeaderFault}
use Rattle.study_reading.specs.declared.aims.Aim.{Aim}
use Rattle.study_reading.specs.declared.movetext.MovesFault.{MovesFault}
use Rattle.study_games.specs.declared.language.Language.{Language}
use Rattle.study_import.specs.FewMen.{few_men, Ended, read_moves}
use Rattle.study_import.specs.Blocks.{Entry, no_study, left_out, token_name, Reported, reported_of}
use Rattle.study_import.specs.Blocks.{block_lines, sources_of, aim_of_game, aimed_block}
use Rattle.study_import.specs.Blocks.{reported_up_to, text_up_to, not_read_line, aimed_up_to, block_up_to, faulty_block}
use Rattle.study_import.specs.Blocks.{stopped_block, read_block, no_moves, game_read, language_of, text_in, fen_in, start_block, fen_block, repeated_name, single_block, header_block, sized_block}
use Rattle.study_import.specs.Blocks.{block_of, tail_of, tail_line, block_or_tail, block_by, place_in, last_line, is_chosen, Tally}
use Rattle.study_import.specs.Blocks.{tally_with_game, reported_text, blocks}
use Rattle.study_import.specs.Tails.{Tail, position_text}
use Rattle.study_command.specs.Documents.{Document}
use Rattle.study_command.specs.Documents.{after_lines}
use Rattle.study_import.specs.Meant.{study_of_moves, study_up_to}
use Rattle.study_import.specs.Meant.{study_aimed, study_read, studies_begun, studies_with_fen, studies_unless_repeated, studies_behind_header}
use Rattle.study_import.specs.Meant.{studies_in, studies_of_game, studies_of_tail, studies_by}
use Rattle.study_import.specs.Laws.{IsGiven, HasSixTags, document_then, document_behind}
use Rattle.study_import.specs.Laws.{AreParts}
use Rattle.study_import.specs.Laws.{IsShort as IsShortLine, AreRead, AreScriptsRead}
use Rattle.study_import.proofs.TextAgain.{read_again}
use Rattle.study_import.proofs.Made.{moves_lead}
use Rattle.study_reading.proofs.NoneBehind.{end_is}
use Rattle.study_import.proofs.AimsCounted.{aim_counted}
use Rattle.study_import.proofs.Openings.{opening_given}
use Rattle.study_import.proofs.Remarks.{wider}
use Rattle.study_import.proofs.Remarks.{left_out_is, unaimed_is, repeated_is, fault_words_are, token_part, stopped_lines, not_read_is, fen_words_part, last_is, tail_is}
use Rattle.study_import.proofs.Soundness.{Spelled, found, both, all_short, remarks_spelled, after_append, after_remarks, parts_lead, six_behind}
use Rattle.study_import.proofs.Soundness.{Reads, remarks_read, block_reads, under_reads}
use Rattle.std.proofs.lemmas.List.{length-map}
use Rattle.study_wide_text.specs.declared.start.WideStart.{WideStart}
use Rattle.study_wide_text.specs.Fen.{wide_start_of}
use Rattle.study_tails.specs.declared.blocks.GameLeftOut.{GameLeftOut}
use Rattle.study_tails.specs.Study.{WideStudy}
use Rattle.study_tails.specs.Tails.{tails, tail as tail_to}
use Rattle.study_tails.specs.Blocks.{game_reason}
use Rattle.study_import.specs.Blocks.{fen_words, WideRead, wide_read, wide_study, wide_language_of, initial_fen}
use Rattle.study_import.specs.Meant.{tail_study, tail_studies, wide_studies_aimed, wide_studies_of_moves, wide_studies_up_to, wide_studies_read, wide_studies_begun}
use Rattle.study_import.proofs.TailBlocks.{has_tails}
use Rattle.study_import.proofs.WideReads.{wide_reads}

module _ (c : Choice) (g : IsGiven c.given) (e : Entry) where
  study_reads : (text : List ℕ) (start : Start) (x : Ended) (aim : Aim) (t : Reported) → IsStart start → game_read text start ≡ Ok x
      → aim_of_game c.given (tags_of e.text) start.position.to_move x.game.notes ≡ Some aim → t.inserts ≡ x.game.reading.inserts
      → Reads (record { text = block_lines e start aim t; studies = 1 }) (study_aimed start (tags_of e.text) x (Some aim) ∷ [])
  unfolding game_read
  study_reads text start x aim t r is a same =
      let read = end_is (read_moves (length text) true text (no_moves start)) x is in
      let made = moves_lead (Unit {0}) (length text) true text (no_moves start) x read in
      let counted = aim_counted c.given (tags_of e.text) start.position.to_move x.game.notes aim g
      (opening_given few_men (length text) true text (no_moves start) x (tt, tt) read) a in
      block_reads e start aim t made.insertions x.game.reading.study r counted made.accepted
      (read_again (Unit {0}) (no_moves start).reading.study made.insertions r.valid tt made.accepted) made.study (same ∙ made.lines)

  aimed_reads : (text : List ℕ) (start : Start) (l : Option Language) (x : Ended) (aim : Option Aim) → IsStart start → game_read text start ≡ Ok x
      → aim_of_game c.given (tags_of e.text) start.position.to_move x.game.notes ≡ aim
      → Reads (aimed_block e start (reported_of l x) (sources_of c.given (tags_of e.text) start.position.to_move x.game.notes) aim)
      (study_aimed start (tags_of e.text) x aim ∷ [])
  aimed_reads text start l x None r is a = remarks_read _ (unaimed_is e (sources_of c.given (tags_of e.text) start.position.to_move x.game.notes))
  aimed_reads text start l x (Some aim) r is a = study_reads text start x aim (reported_of l x) r is a refl

  -- up to a fault
  aimed_up_to_reads : (text : List ℕ) (start : Start) (fault : MovesFault) (x : Ended) (aim : Option Aim) → IsStart start → game_read text start ≡ Ok x
      → aim_of_game c.given (tags_of e.text) start.position.to_move x.game.notes ≡ aim
      → Reads (aimed_up_to e start fault (reported_up_to x) aim) (study_aimed start (tags_of e.text) x aim ∷ [])
  aimed_up_to_reads text start fault x None r is a = remarks_read (stopped_block e fault).text (stopped_lines e fault)
  aimed_up_to_reads text start fault x (Some aim) r is a =
      under_reads (not_read_line e fault) _ _ (omega arith) (not_read_is e fault) (study_reads text start x aim (reported_up_to x) r is a refl)

  up_to_reads : (text : List ℕ) (start : Start) (fault : MovesFault) (x : Result Ended MovesFault) → IsStart start → game_read text start ≡ x
      → Reads (block_up_to c.given e start fault x) (study_of_moves c.given (tags_of e.text) start x ∷ [])
  up_to_reads text start fault (Err other) r is = remarks_read (stopped_block e fault).text (stopped_lines e fault)
  up_to_reads text start fault (Ok x) r is =
      aimed_up_to_reads text start fault x (aim_of_game c.given (tags_of e.text) start.position.to_move x.game.notes) r is refl

  if_up_to_reads : (start : Start) (fault : MovesFault) (wanted : Bool) → IsStart start
      → (let x = game_read (text_up_to e.text fault.left) start in
      Reads (if wanted then block_up_to c.given e start fault x else stopped_block e fault)
      ((if wanted then study_of_moves c.given (tags_of e.text) start x else None) ∷ []))
  if_up_to_reads start fault true r = up_to_reads (text_up_to e.text fault.left) start fault (game_read (text_up_to e.text fault.left) start) r refl
  if_up_to_reads start fault false r = remarks_read (stopped_block e fault).text (stopped_lines e fault)

  faulty_reads : (start : Start) (fault : MovesFault) → IsStart start → Reads (faulty_block c e start fault) (study_up_to c e.text start fault ∷ [])
  unfolding faulty_block study_up_to
  faulty_reads start fault r = if_up_to_reads start fault c.up_to_faults r

  read_reads : (text : List ℕ) (start : Start) (l : Option Language) (x : Result Ended MovesFault) → IsStart start → game_read text start ≡ x
      → Reads (read_block c e start l x) (study_read c e.text start x ∷ [])
  read_reads text start l (Err fault) r is = faulty_reads start fault r
  read_reads text start l (Ok x) r is = aimed_reads text start l x (aim_of_game c.given (tags_of e.text) start.position.to_move x.game.notes) r is refl

  refused_reads : (fen : List ℕ) (fault : FenFault) → Reads (no_study (left_out e (fen_words fen fault))) (None ∷ [])
  refused_reads fen fault = remarks_read _ (left_out_is e _ (wider 100 200 _ (omega arith) (fen_words_part fen fault)))

  start_reads : (fen : List ℕ) (x : Result Start FenFault) → start_of fen ≡ x → Reads (start_block c e fen x) (studies_begun c e.text fen x)
  start_reads fen (Err fen_fault.TooManyMen) is = wide_reads c g e fen (wide_start_of fen) refl
  start_reads fen (Err fen_fault.Castling) is = wide_reads c g e fen (wide_start_of fen) refl
  start_reads fen (Err fen_fault.FieldCount) is = refused_reads fen fen_fault.FieldCount
  start_reads fen (Err fen_fault.Placement) is = refused_reads fen fen_fault.Placement
  start_reads fen (Err fen_fault.KingCount) is = refused_reads fen fen_fault.KingCount
  start_reads fen (Err fen_fault.PawnOnEndRank) is = refused_reads fen fen_fault.PawnOnEndRank
  start_reads fen (Err fen_fault.SideField) is = refused_reads fen fen_fault.SideField
  start_reads fen (Err fen_fault.OpponentInCheck) is = refused_reads fen fen_fault.OpponentInCheck
  start_reads fen (Err fen_fault.EnPassantField) is = refused_reads fen fen_fault.EnPassantField
  start_reads fen (Err fen_fault.EnPassantImpossible) is = refused_reads fen fen_fault.EnPassantImpossible
  start_reads fen (Err fen_fault.Clock) is = refused_reads fen fen_fault.Clock
  start_reads fen (Err fen_fault.MoveNumber) is = refused_reads fen fen_fault.MoveNumber
  start_reads fen (Ok start) is =
      let l = language_of e.text start in let text = text_in l e.text in read_reads text start l (game_read text start) (read_is fen start is) refl

  fen_reads : (value : Option (List ℕ)) → Reads (fen_block c e value) (studies_with_fen c e.text value)
  fen_reads None = wide_reads c g e initial_fen (wide_start_of initial_fen) refl
  fen_reads (Some value) = start_reads (fen_in value) (start_of (fen_in value)) refl

  single_reads : (tags : List Pair) (name : Option (List ℕ)) → repeated_name tags ≡ name
      → Reads (single_block c e tags name) (studies_unless_repeated c e.text tags name)
  single_reads tags (Some name) is = remarks_read _ (repeated_is e tags name is)
  single_reads tags None is = fen_reads (value_of (codes "FEN") tags)

  no_tag : (tags : List Pair) (none : Bool)
      → Reads (if none then no_study (left_out e (codes "left out: no tags")) else single_block c e tags (repeated_name tags))
      (if none then None ∷ [] else studies_unless_repeated c e.text tags (repeated_name tags))
  no_tag tags true = remarks_read _ (left_out_is e (codes "left out: no tags") (record { shown = refl; few = omega arith }))
  no_tag tags false = single_reads tags (repeated_name tags) refl

  header_reads : (fault : Option HeaderFault) → Reads (header_block c e fault) (studies_behind_header c e.text fault)
  header_reads (Some fault) =
      remarks_read _ (fault_words_are e (place_in e fault.left) (token_name fault.why) (wider 20 100 _ (omega arith) (token_part fault.why)))
  header_reads None = no_tag (tags_of e.text) (length (tags_of e.text) == 0)

-- ---- each game has an answer

tailed_some : (s : WideStudy) (o : Option GameLeftOut) → game_reason s ≡ o → 1 ≤ length (tail_studies s o)
tailed_some s (Some why) e = omega arith
tailed_some s None e = let some = (has_tails s e).some in omega (arith, some, length-map (tails s) (λ path. tail_study (tail_to s path)))

aimed_some : (tags : List Pair) (s : WideStudy) (aim : Option Aim) → 1 ≤ length (wide_studies_aimed tags s aim)
aimed_some tags s None = omega arith
aimed_some tags s (Some aim) = let t = wide_study tags aim.stipulation s in tailed_some t (game_reason t) refl

moves_some : (given : Option Stipulation) (tags : List Pair) (start : WideStart) (x : Result WideRead MovesFault)
    → 1 ≤ length (wide_studies_of_moves given tags start x)
moves_some given tags start (Err fault) = omega arith
moves_some given tags start (Ok x) = aimed_some tags x.study (aim_of_game given tags start.position.board.to_move x.notes)

up_to_some : (c : Choice) (text : List ℕ) (start : WideStart) (fault : MovesFault) → 1 ≤ length (wide_studies_up_to c text start fault)
unfolding wide_studies_up_to
up_to_some c text start fault = go c.up_to_faults
  where
    go : (b : Bool) → 1 ≤ length (if b then wide_studies_of_moves c.given (tags_of text) start (wide_read (text_up_to text fault.left) start) else None ∷ [])
    go true = moves_some c.given (tags_of text) start (wide_read (text_up_to text fault.left) start)
    go false = omega arith

read_some : (c : Choice) (text : List ℕ) (start : WideStart) (x : Result WideRead MovesFault) → 1 ≤ length (wide_studies_read c text start x)
read_some c text start (Err fault) = up_to_some c text start fault
read_some c text start (Ok x) = moves_some c.given (tags_of text) start (Ok x)

wide_some : (c : Choice) (text : List ℕ) (x : Result WideStart FenFault) → 1 ≤ length (wide_studies_begun c text x)
wide_some c text (Err fault) = omega arith
wide_some c text (Ok start) = read_some c text start (wide_read (text_in (wide_language_of text start) text) start)

begun_some : (c : Choice) (text fen : List ℕ) (x : Result Start FenFault) → 1 ≤ length (studies_begun c text fen x)
begun_some c text fen (Err fen_fault.TooManyMen) = wide_some c text (wide_start_of fen)
begun_some c text fen (Err fen_fault.Castling) = wide_some c text (wide_start_of fen)
begun_some c text fen (Err fen_fault.FieldCount) = omega arith
begun_some c text fen (Err fen_fault.Placement) = omega arith
begun_some c text fen (Err fen_fault.KingCount) = omega arith
begun_some c text fen (Err fen_fault.PawnOnEndRank) = omega arith
begun_some c text fen (Err fen_fault.SideField) = omega arith
begun_some c text fen (Err fen_fault.OpponentInCheck) = omega arith
begun_some c text fen (Err fen_fault.EnPassantField) = omega arith
begun_some c text fen (Err fen_fault.EnPassantImpossible) = omega arith
begun_some c text fen (Err fen_fault.Clock) = omega arith
begun_some c text fen (Err fen_fault.MoveNumber) = omega arith
begun_some c text fen (Ok start) = omega arith

-- ---- a game by choice

sized_reads : (c : Choice) (number line : ℕ) (text : Option (List ℕ)) → IsGiven c.given
    → Reads (sized_block c number line text) (studies_of_game c text)
unfolding studies_in
sized_reads c number line None g =
    remarks_read _ (fault_words_are (record { number = number; line = line; text = [] }) (record { line = line; column = 1 }) (codes "GameTooLarge")
    (record { shown = refl; few = omega arith }))
sized_reads c number line (Some text) g = header_reads c g (record { number = number; line = line; text = text }) (header_fault text)

game_reads : (c : Choice) (number : ℕ) (game : Game) → IsGiven c.given → Reads (block_of c number game) (studies_of_game c game.text)
unfolding block_of
game_reads c number game g = sized_reads c number game.line game.text g

tail_reads : (c : Choice) (number : ℕ) (game : Game) (tail : Option Tail) → IsGiven c.given
    → Reads (block_or_tail c number game tail) (studies_of_tail c game.text tail)
tail_reads c number game None g = game_reads c number game g
tail_reads c number game (Some t) g =
    let fen = position_text t.position in
    under_reads (tail_line t.skipped) _ _ (begun_some c t.text fen (start_of fen)) (tail_is t.skipped)
    (start_reads c g (record { number = number; line = game.line; text = t.text }) fen (start_of fen) refl)

by_reads : (c : Choice) (number : ℕ) (game : Game) → IsGiven c.given → Reads (block_by c number game) (studies_by c game.text)
by_reads c number game g = tail_reads c number game (tail_of c.tails game.text) g

pub are_read : AreRead
are_read c g number game =
    let r = by_reads c number game g in
    let f = found (block_by c number game).text r.lines r.spelled in
    record {
      studies = r.studies;
      short = subst (λ (ls : List (List ℕ)). AllByRecursion IsShortLine ls) (sym f) (all_short r.lines r.spelled.each);
      parts = subst (λ (ls : List (List ℕ)). AreParts (studies_by c game.text) ls) (sym f) r.parts;
      study = λ d six. ap (after_lines (Some d)) f ∙ parts_lead (studies_by c game.text) r.lines r.parts r.six d six;
    }

-- ---- a script

-- lines that lead from any document to another
record LeadsTo (text : List ℕ) (next : Document → Document) : Type 0 where
  lines : List (List ℕ)
  spelled : Spelled text lines
  study : (d : Document) → HasSixTags d → after_lines (Some d) lines ≡ Some (next d)

last_leads : (games studies : ℕ) → LeadsTo (last_line games studies) (λ d. d)
last_leads games studies =
    let h = last_is games studies in
    record { lines = h.lines; spelled = remarks_spelled (last_line games studies) h; study = λ d six. after_remarks h.lines h.each d }

-- a game that is not chosen has no block
reported_leads : (c : Choice) (g : Game) (number : ℕ) (chosen : Bool) → IsGiven c.given
    → LeadsTo (if chosen then (block_by c number g).text else []) (λ d. if chosen then document_then d (studies_by c g.text) else d)
reported_leads c g number true given =
    let r = by_reads c number g given in
    record { lines = r.lines; spelled = r.spelled; study = λ d six. parts_lead (studies_by c g.text) r.lines r.parts r.six d six }
reported_leads c g number false given = record { lines = []; spelled = record { text = refl; each = tt }; study = λ d six. refl }

six_then : (c : Choice) (g : Game) (number : ℕ) (chosen : Bool) → IsGiven c.given → (d : Document) → HasSixTags d
    → HasSixTags (if chosen then document_then d (studies_by c g.text) else d)
six_then c g number true given d six = six_behind (studies_by c g.text) (by_reads c number g given).six d six
six_then c g number false given d six = six

met_if : (b : Bool) (x y : Tally) (n : ℕ) → x.met ≡ n → y.met ≡ n → (u : Tally) → u ≡ (if b then x else y) → u.met ≡ n
met_if true x y n h k u e = ap (λ (z : Tally). z.met) e ∙ h
met_if false x y n h k u e = ap (λ (z : Tally). z.met) e ∙ k

met_then : (c : Choice) (t : Tally) (g : Game) → (tally_with_game c t g).met ≡ one_more t.met
met_then c t g = met_if (is_chosen c (one_more t.met)) _ _ (one_more t.met) refl refl (tally_with_game c t g) refl

blocks_lead : (c : Choice) (t : Tally) (games : List Game) → IsGiven c.given
    → LeadsTo (blocks c t games) (λ d. document_behind c t.met d games)
blocks_lead c t [] given = last_leads t.reported t.studies
blocks_lead c t (g ∷ gs) given =
    let number = one_more t.met in
    let here = reported_leads c g number (is_chosen c number) given in
    let later = blocks_lead c (tally_with_game c t g) gs given in
    let next = λ (d : Document). if is_chosen c number then document_then d (studies_by c g.text) else d in
    record {
      lines = here.lines ++ later.lines;
      spelled = both (reported_text c t g) (blocks c (tally_with_game c t g) gs) here.lines later.lines here.spelled later.spelled;
      study = λ d six.
          after_append (Some d) here.lines later.lines ∙ ap (λ (o : Option Document). after_lines o later.lines) (here.study d six)
          ∙ later.study (next d) (six_then c g number (is_chosen c number) given d six)
          ∙ ap (λ (n : ℕ). Some (document_behind c n (next d) gs)) (met_then c t g);
    }

pub scripts_read : AreScriptsRead
unfolding script_of
scripts_read c given text =
    let r = blocks_lead c no_game (games_of text) given in
    let f = found (blocks c no_game (games_of text)) r.lines r.spelled in
    record {
      short = subst (λ (ls : List (List ℕ)). AllByRecursion IsShortLine ls) (sym f) (all_short r.lines r.spelled.each);
      study = λ d six. ap (after_lines (Some d)) f ∙ r.study d six;
    }
