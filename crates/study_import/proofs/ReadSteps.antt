-- Token by token through the movetext of a study.
use Rattle.std.proofs.Common.{◌≡◌, ℕ, zero, suc, ◌+◌, ◌-◌, ◌/◌, ◌%◌, ◌<◌, ◌≤◌, Bool, true, false, List, [], ◌∷◌, ◌++◌, length, take, Option, Some, Err}
use Rattle.std.proofs.Common.{None, Result, Ok, refl, sym, ap, subst, ◌∙◌, inl, inr, arith, length-append}
use Rattle.std.specs.Prelude.{◌==◌, ◌&&◌, not, nat_le, slice_index, decimal, if◌then◌else◌}
use Rattle.std.specs.List.{list_all}
use Rattle.std.specs.Fmt.{digits, digits_onto, digit_glyph}
use Rattle.std.proofs.lemmas.Bool.{lt-leb, le-ltb, le-leb, lt-ltb, and_right, cases_Bool, and_from}
use Rattle.std.proofs.lemmas.List.{take_at, get_or_at}
use Rattle.study_board.specs.declared.men.Side.{Side}
use Rattle.study_moves.specs.declared.moves.Move.{Move}
use Rattle.study_notation.specs.Matching.{move_of}
use Rattle.study_tree.specs.Edits.{children_at}
use Rattle.study_tree.specs.Tree.{has_spot, size_of}
use Rattle.study_marks.specs.declared.stipulation.Stipulation.{Stipulation}
use Rattle.study_marks.specs.Study.{position_at, place_at}
use Rattle.study_marks.specs.Edits.{PlainStudy, with_insertion, is_printable}
use Rattle.study_games.specs.Bytes.{is_digit, begins_symbol, is_symbol_byte}
use Rattle.study_games.specs.declared.symbols.Said.{Said}
use Rattle.study_games.specs.declared.symbols.Said.TheVariants as say
use Rattle.study_games.specs.Symbols.{said_of, san_in}
use Rattle.study_games.specs.Tokens.{Token, Lexed, lexed_token, behind, is_inside, lexed_comment, comment_at, blank, aside, opening, closing, comment, symbol}
use Rattle.study_games.proofs.Lexing.{Stops, run_cut, is_plain_symbol, symbol_read}
use Rattle.study_reading.specs.declared.lines.Waiting.{Waiting}
use Rattle.study_reading.specs.declared.lines.LineFault.{LineFault}
use Rattle.study_reading.specs.declared.moves.MoveFault.{MoveFault}
use Rattle.study_reading.specs.declared.notes.Notes.{Notes}
use Rattle.study_reading.specs.declared.token_effects.Reason.{Reason}
use Rattle.study_reading.specs.declared.movetext.MovesFault.{MovesFault}
use Rattle.study_reading.specs.Lines.{Lines, begin_line, end_line}
use Rattle.study_import.specs.Moves.{after_move_text, moved_by}
use Rattle.study_reading.specs.Taken.{on_line, on_move}
use Rattle.study_reading.specs.Notes.{after_header, with_aside, with_comment, with_move, with_said, noted_on}
use Rattle.study_reading.specs.Notes.{said_misplaced, placed_or, more_if}
use Rattle.study_reading.specs.declared.token_effects.Reason.TheVariants as reason
use Rattle.study_reading.specs.declared.numbering.Numbering.{Numbering}
use Rattle.study_reading.specs.Numbering.{digits_numbered, said_numbered, token_numbered}
use Rattle.study_reading.specs.Movetext.{goes_on, with_numbering}
use Rattle.study_reading.specs.Reading.{after_move as after_move_by, symbol_played as symbol_played_by}
use Rattle.study_import.specs.FewMen.{few_men, Reading, symbol_played, taken_symbol, GameRead, GameTaken, token_taken, game_taken, is_wrong_said}
use Rattle.study_import.specs.FewMen.{with_signs, signs_noted, Ended, game_numbered, on_numbered, on_token, read_moves}
use Rattle.study_games.proofs.Within.{within_lexed}
use Rattle.study_reading.proofs.ReadWhole.{same_token, moves_same}
use Rattle.study_import.proofs.Blanks.{IsGap}
use Rattle.study_import.proofs.Numbers.{IsFirst}

some_is : (x y : Lexed) → Some x ≡ Some y → x ≡ y
some_is x y e = cc

-- ---- as many steps as there are bytes

abbrev pub reads : Bool → List ℕ → GameRead → Result Ended MovesFault
reads fresh text g = read_moves (length text) fresh text g

pub on_reads : (fresh : Bool) (b : ℕ) (bs : List ℕ) (g : GameRead)
    → reads fresh (b ∷ bs) g ≡ on_token (λ rest h. reads (b == 10) rest h) (length (b ∷ bs)) g (lexed_token fresh b bs)
on_reads fresh b bs g =
    same_token few_men (read_moves (length bs) (b == 10)) (λ rest h. reads (b == 10) rest h) (length (b ∷ bs)) (length bs) g (lexed_token fresh b bs)
    (within_lexed fresh b bs)
    (λ rest h le. moves_same few_men (length bs) (length rest) (b == 10) rest h le (omega arith))

pub on_number : (fresh : Bool) (b : ℕ) (bs : List ℕ) (g : GameRead) (t : Token) (rest : List ℕ) (s : Numbering) (h : GameRead)
    → lexed_token fresh b bs ≡ Ok (t, rest)
    → game_numbered g t rest ≡ Some s → game_taken (with_numbering g s) t ≡ Ok (record { game = h; ended = false })
    → reads fresh (b ∷ bs) g ≡ reads (b == 10) rest h
on_number fresh b bs g t rest s h l i k =
    on_reads fresh b bs g ∙ ap (λ (x : Lexed). on_token (λ r j. reads (b == 10) r j) (length (b ∷ bs)) g x) l
    ∙ ap (λ (x : Option Numbering). on_numbered (λ j. reads (b == 10) rest j) (length (b ∷ bs)) g t rest x) i
    ∙ ap (λ (x : Result GameTaken Reason). goes_on (λ j. reads (b == 10) rest j) (length (b ∷ bs)) rest x) k

-- a token that is not a number
abbrev pub IsQuiet : Token → List ℕ → Type 0
IsQuiet t rest = (side : Side) → (d : ℕ) → (s : Numbering) → token_numbered side d s t rest ≡ Some s

pub quiet_numbered : (g : GameRead) (t : Token) (rest : List ℕ) → IsQuiet t rest → game_numbered g t rest ≡ Some g.notes.numbering
quiet_numbered g t rest q =
    same (nat_le 1 g.reading.lines.cut) (Some g.notes.numbering) _ (q g.reading.study.start.position.to_move (length g.reading.lines.path) g.notes.numbering)
  where
    same : (b : Bool) (x y : Option Numbering) → y ≡ x → (if b then x else y) ≡ x
    same true x y e = refl
    same false x y e = e

pub on_step : (fresh : Bool) (b : ℕ) (bs : List ℕ) (g : GameRead) (t : Token) (rest : List ℕ) (h : GameRead) → lexed_token fresh b bs ≡ Ok (t, rest)
    → IsQuiet t rest → game_taken g t ≡ Ok (record { game = h; ended = false }) → reads fresh (b ∷ bs) g ≡ reads (b == 10) rest h
on_step fresh b bs g t rest h l q k = on_number fresh b bs g t rest g.notes.numbering h l (quiet_numbered g t rest q) k

-- ---- a symbol, by what it says

abbrev signed_as : List ℕ → Said → Result GameTaken Reason → Result GameTaken Reason
signed_as text said (Err why) = Err why
signed_as text said (Ok t) = Ok (record {
  game = record {
    reading = t.game.reading;
    notes = record t.game.notes { wrong_signs = more_if (is_wrong_said t.game.reading text said) t.game.notes.wrong_signs };
  };
  ended = t.ended;
})

signs_as : (text : List ℕ) (x : Result GameTaken Reason) → signs_noted (symbol text) x ≡ signed_as text (said_of text) x
signs_as text (Err why) = refl
signs_as text (Ok t) = refl

abbrev pub taken_as : GameRead → List ℕ → Said → Result GameTaken Reason
taken_as g text said =
    signed_as text said (noted_on (with_said g.notes (nat_le 1 g.reading.lines.cut) (not (length g.reading.lines.waiting == 0)) said)
    (placed_or (said_misplaced g.notes (nat_le 1 g.reading.lines.cut) said) (taken_symbol g.reading text said)))

pub symbol_as : (g : GameRead) (text : List ℕ) (said : Said) → said_of text ≡ said → game_taken g (symbol text) ≡ taken_as g text said
symbol_as g text said e = signs_as text (token_taken g (symbol text)) ∙ ap (taken_as g text) e

-- reading leads from this text and this state to that text and that state
abbrev pub Goes : List ℕ → GameRead → List ℕ → GameRead → Type 0
Goes text g rest h = (fresh : Bool) → (f : Bool) × (reads fresh text g ≡ reads f rest h)

-- ---- the state of a reading

-- after the opening comment, in a line that no null move cuts
pub record At (s : PlainStudy) (path : List ℕ) (begun : ℕ) (ws : List Waiting) (o : Option Stipulation) (g : GameRead) : Type 0 where
  pub study : g.reading.study ≡ s
  pub lines : g.reading.lines ≡ record { path = path; begun = begun; waiting = ws; cut = 0 }
  pub opening : g.notes.opening ≡ o
  pub had : g.notes.has_comment ≡ true
  pub numbers : IsFirst s.start g.notes.numbering
  pub apart : g.notes.behind_word ≡ false

pub record Reached (text rest : List ℕ) (s : PlainStudy) (path : List ℕ) (begun : ℕ) (ws : List Waiting) (o : Option Stipulation) (g : GameRead) : Type 0 where
  pub next : GameRead
  pub goes : Goes text g rest next
  pub at : At s path begun ws o next

pub reached_on : (text mid rest : List ℕ) (s u : PlainStudy) (p q : List ℕ) (b c : ℕ) (ws vs : List Waiting) (o : Option Stipulation) (g : GameRead)
    → Reached text mid s p b ws o g → ((h : GameRead) → At s p b ws o h → Reached mid rest u q c vs o h) → Reached text rest u q c vs o g
reached_on text mid rest s u p q b c ws vs o g r f =
    let k = f r.next r.at in
    record { next = k.next; goes = λ fresh. let x = r.goes fresh in let y = k.goes x.0 in (y.0, x.1 ∙ y.1); at = k.at }

pub lexed_brace : (bs : List ℕ) (fresh : Bool) → lexed_token fresh 123 bs ≡ comment_at bs
unfolding lexed_token
lexed_brace bs true = refl
lexed_brace bs false = refl

pub comment_is : (text rest : List ℕ) → list_all is_inside text ≡ true → comment_at (text ++ (125 ∷ rest)) ≡ Ok (comment text, rest)
unfolding comment_at
comment_is text rest all =
    let cut = run_cut is_inside text (125 ∷ rest) all refl in
    ap (λ (x : List ℕ). lexed_comment x (behind is_inside (text ++ (125 ∷ rest)))) cut.0 ∙ ap (lexed_comment text) cut.1

module _ (s : PlainStudy) (path : List ℕ) (from : ℕ) (ws : List Waiting) (o : Option Stipulation) (g : GameRead) (at : At s path from ws o g) where
  -- a token that changes only the notes
  noted_step : (b : ℕ) (bs rest : List ℕ) (t : Token) (n : Notes) → ((fresh : Bool) → lexed_token fresh b bs ≡ Ok (t, rest))
      → IsQuiet t rest → game_taken g t ≡ Ok (record { game = record { reading = g.reading; notes = n }; ended = false }) → n.opening ≡ g.notes.opening
      → n.has_comment ≡ true → n.numbering ≡ g.notes.numbering → n.behind_word ≡ g.notes.behind_word → Reached (b ∷ bs) rest s path from ws o g
  noted_step b bs rest t n l q k e h i w = record {
    next = record { reading = g.reading; notes = n };
    goes = λ fresh. (b == 10, on_step fresh b bs g t rest (record { reading = g.reading; notes = n }) (l fresh) q k);
    at = record {
      study = at.study;
      lines = at.lines;
      opening = e ∙ at.opening;
      had = h;
      numbers = subst (λ (x : Numbering). IsFirst s.start x) (sym i)
          at.numbers;
      apart = w ∙ at.apart;
    };
  }

  lexed_space : (bs : List ℕ) (fresh : Bool) → lexed_token fresh 32 bs ≡ Ok (blank, bs)
  unfolding lexed_token
  lexed_space bs true = refl
  lexed_space bs false = refl

  lexed_feed : (bs : List ℕ) (fresh : Bool) → lexed_token fresh 10 bs ≡ Ok (blank, bs)
  unfolding lexed_token
  lexed_feed bs true = refl
  lexed_feed bs false = refl

  lexed_dot : (bs : List ℕ) (fresh : Bool) → lexed_token fresh 46 bs ≡ Ok (blank, bs)
  unfolding lexed_token
  lexed_dot bs true = refl
  lexed_dot bs false = refl

  gap_lexed : (b : ℕ) (bs : List ℕ) → IsGap b → (fresh : Bool) → lexed_token fresh b bs ≡ Ok (blank, bs)
  gap_lexed b bs (inl e) fresh = subst (λ (x : ℕ). lexed_token fresh x bs ≡ Ok (blank, bs)) (sym e) (lexed_space bs fresh)
  gap_lexed b bs (inr e) fresh = subst (λ (x : ℕ). lexed_token fresh x bs ≡ Ok (blank, bs)) (sym e) (lexed_feed bs fresh)

  pub gap_step : (b : ℕ) (bs : List ℕ) → IsGap b → Reached (b ∷ bs) bs s path from ws o g
  gap_step b bs gap = noted_step b bs bs blank g.notes (gap_lexed b bs gap) (λ _ _ _. refl) refl refl at.had refl refl

  pub dot_step : (bs : List ℕ) → Reached (46 ∷ bs) bs s path from ws o g
  dot_step bs = noted_step 46 bs bs blank g.notes (lexed_dot bs) (λ _ _ _. refl) refl refl at.had refl refl

  -- ---- numbers

  symbol_lexed : (w : List ℕ) (b : ℕ) (bs rest : List ℕ) → begins_symbol b ≡ true → list_all is_plain_symbol (b ∷ bs) ≡ true → Stops is_symbol_byte rest
      → (fresh : Bool) → lexed_token fresh b (bs ++ rest) ≡ Ok (symbol (b ∷ bs), rest)
  symbol_lexed w b bs rest begins all stops fresh =
      some_is (lexed_token fresh b (bs ++ rest)) (Ok (symbol (b ∷ bs), rest)) (symbol_read fresh b bs rest begins all stops)

  same_reading : g.reading ≡ record { study = s; lines = record { path = path; begun = from; waiting = ws; cut = 0 }; inserts = g.reading.inserts }
  same_reading =
      ap (λ (x : PlainStudy). record { study = x; lines = g.reading.lines; inserts = g.reading.inserts }) at.study
      ∙ ap (λ (x : Lines). record { study = s; lines = x; inserts = g.reading.inserts }) at.lines

  -- a number that fits
  pub number_step : (b : ℕ) (bs rest : List ℕ) → begins_symbol b ≡ true → list_all is_plain_symbol (b ∷ bs) ≡ true → said_of (b ∷ bs) ≡ say.Number
      → Stops is_symbol_byte rest
      → (next : Numbering) → digits_numbered s.start.position.to_move (length path) g.notes.numbering (b ∷ bs) rest ≡ Some next → IsFirst s.start next
      → Reached ((b ∷ bs) ++ rest) rest s path from ws o g
  number_step b bs rest begins all said stops next is first =
      let t = symbol (b ∷ bs) in
      let notes : Notes = record g.notes { numbering = next } in
      let h : GameRead = record { reading = g.reading; notes = after_header notes } in
      let fits : game_numbered g t rest ≡ Some next =
      ap (λ (r : Reading). if nat_le 1 r.lines.cut then Some g.notes.numbering else token_numbered r.study.start.position.to_move (length r.lines.path)
      g.notes.numbering t rest) same_reading
      ∙ ap (said_numbered s.start.position.to_move (length path) g.notes.numbering (b ∷ bs) rest) said ∙ is in
      let takes : game_taken (with_numbering g next) t ≡ Ok (record { game = h; ended = false }) =
      symbol_as (with_numbering g next) (b ∷ bs) say.Number said in
      record {
        next = h;
        goes = λ fresh. (b == 10, on_number fresh b (bs ++ rest) g t rest next h (symbol_lexed [] b bs rest begins all stops fresh) fits takes);
        at = record { study = at.study; lines = at.lines; opening = at.opening; had = at.had; numbers = first; apart = refl };
      }

  -- ---- NAGs

  lexed_dollar : (bs : List ℕ) (fresh : Bool) → lexed_token fresh 36 bs ≡ Ok (aside, behind is_digit bs)
  unfolding lexed_token
  lexed_dollar bs true = refl
  lexed_dollar bs false = refl

  pub glyph_step : (d : ℕ) (rest : List ℕ) → is_digit d ≡ true → Stops is_digit rest → Reached (36 ∷ d ∷ rest) rest s path from ws o g
  glyph_step d rest digit stops =
      let cut = run_cut is_digit (d ∷ []) rest (and_from (is_digit d) true digit refl) stops in
      noted_step 36 (d ∷ rest) rest aside (with_aside g.notes)
      (λ fresh. lexed_dollar (d ∷ rest) fresh ∙ ap (λ (x : List ℕ). Ok (aside, x)) cut.1) (λ _ _ _. refl) refl refl at.had refl refl

  -- ---- comments

  later_comment : (n : Notes) (text : List ℕ) → n.has_comment ≡ true
      → ((with_comment n text).opening ≡ n.opening) × ((with_comment n text).has_comment ≡ true) × ((with_comment n text).numbering ≡ n.numbering)
      × ((with_comment n text).behind_word ≡ n.behind_word)
  later_comment n text h =
      let second : (n.before_moves && not n.has_comment) ≡ false = and_right n.before_moves (not n.has_comment) (rw h refl) in
      rw second (refl, h, refl, refl)

  pub comment_step : (text rest : List ℕ) → list_all is_inside text ≡ true → Reached (123 ∷ (text ++ (125 ∷ rest))) rest s path from ws o g
  comment_step text rest all =
      let l = later_comment g.notes text at.had in
      noted_step 123 (text ++ (125 ∷ rest)) rest (comment text) (with_comment g.notes text)
      (λ fresh. lexed_brace (text ++ (125 ∷ rest)) fresh ∙ comment_is text rest all) (λ _ _ _. refl) refl l.0 l.1 l.2 l.3

  -- ---- moves

  -- a move that is new at the current node
  pub record IsNew (text : List ℕ) (m : Move) : Type 0 where
    pub said : said_of text ≡ say.Move
    pub few : length text ≤ 32
    pub prints : list_all is_printable (san_in text) ≡ true
    pub found : has_spot s.tree path ≡ true
    pub means : move_of (position_at s path) (san_in text) ≡ Ok m
    pub place : place_at s.tree.below path m ≡ None
    pub depth : length path < 256
    pub room : size_of s.tree < 4096

  record Played (r : Result Reading MoveFault) (m : Move) : Type 0 where
    reading : Reading
    is : r ≡ Ok reading
    study : reading.study ≡ with_insertion s path m
    lines : reading.lines ≡ record { path = path ++ children_at s.tree.below path ∷ []; begun = from; waiting = ws; cut = 0 }

  plays : (inserts text : List ℕ) (m : Move) → IsNew text m
      → Played (symbol_played (record { study = s; lines = record { path = path; begun = from; waiting = ws; cut = 0 }; inserts = inserts }) text) m
  unfolding symbol_played_by after_move_by after_move_text moved_by
  plays inserts text m h =
      rw (le-ltb 32 (length text) h.few, h.prints, h.found, h.means, h.place, lt-leb 256 (length path) h.depth, lt-leb 4096 (size_of s.tree) h.room)
      (record { reading = _; is = refl; study = refl; lines = refl })

  pub move_step : (b : ℕ) (bs rest : List ℕ) (m : Move) → begins_symbol b ≡ true → list_all is_plain_symbol (b ∷ bs) ≡ true → Stops is_symbol_byte rest
      → IsNew (b ∷ bs) m
      → Reached ((b ∷ bs) ++ rest) rest (with_insertion s path m) (path ++ children_at s.tree.below path ∷ []) from ws o g
  move_step b bs rest m begins all stops h =
      let p = plays g.reading.inserts (b ∷ bs) m h in
      let played : symbol_played g.reading (b ∷ bs) ≡ Ok p.reading = ap (λ (r : Reading). symbol_played r (b ∷ bs)) same_reading ∙ p.is in
      let notes = with_move g.notes (nat_le 1 g.reading.lines.cut) in
      let signs = more_if (is_wrong_said p.reading (b ∷ bs) say.Move) notes.wrong_signs in
      let next : GameRead = record { reading = p.reading; notes = record notes { wrong_signs = signs } } in
      let cut = nat_le 1 g.reading.lines.cut in
      let takes : game_taken g (symbol (b ∷ bs)) ≡ Ok (record { game = next; ended = false }) =
      symbol_as g (b ∷ bs) say.Move h.said
      ∙ ap (λ (x : Bool). signed_as (b ∷ bs) say.Move (noted_on notes (placed_or (if x && not cut then Some reason.BehindWord else None)
      (on_move (symbol_played g.reading (b ∷ bs)))))) at.apart
      ∙ ap (λ (x : Result Reading MoveFault). signed_as (b ∷ bs) say.Move (noted_on notes (on_move x))) played in
      record {
        next = next;
        goes = λ fresh. (
          b == 10,
          on_step fresh b (bs ++ rest) g (symbol (b ∷ bs)) rest next (symbol_lexed [] b bs rest begins all stops fresh)
              (λ side d n. ap (said_numbered side d n (b ∷ bs) rest) h.said) takes,
        );
        at = record { study = p.study; lines = p.lines; opening = at.opening; had = at.had; numbers = at.numbers; apart = refl };
      }

  -- ---- variations

  lexed_open : (bs : List ℕ) (fresh : Bool) → lexed_token fresh 40 bs ≡ Ok (opening, bs)
  unfolding lexed_token
  lexed_open bs true = refl
  lexed_open bs false = refl

  lexed_close : (bs : List ℕ) (fresh : Bool) → lexed_token fresh 41 bs ≡ Ok (closing, bs)
  unfolding lexed_token
  lexed_close bs true = refl
  lexed_close bs false = refl

  line_step : (b : ℕ) (bs : List ℕ) (t : Token) (x : Result Lines LineFault) (l : Lines) → ((fresh : Bool) → lexed_token fresh b bs ≡ Ok (t, bs)) → IsQuiet t bs
      → game_taken g t ≡ signs_noted t (noted_on (after_header g.notes) (on_line g.reading x)) → x ≡ Ok l → l.cut ≡ 0 → Reached (b ∷ bs) bs s l.path l.begun l.waiting o g
  line_step b bs t x l lex q k e cut =
      let lined : GameRead = record { reading = record { study = g.reading.study; lines = l; inserts = g.reading.inserts }; notes = after_header g.notes } in
      let next : GameRead = (with_signs t (record { game = lined; ended = false })).game in
      let takes : game_taken g t ≡ Ok (record { game = next; ended = false }) = k
      ∙ ap (λ (y : Result Lines LineFault). signs_noted t (noted_on (after_header g.notes) (on_line g.reading y))) e in
      record {
        next = next;
        goes = λ fresh. (b == 10, on_step fresh b bs g t bs next (lex fresh) q takes);
        at = record {
          study = at.study;
          lines = ap (λ (c : ℕ). record { path = l.path; begun = l.begun; waiting = l.waiting; cut = c }) cut;
          opening = at.opening;
          had = at.had;
          numbers = at.numbers;
          apart = refl;
        };
      }

-- a variation begins after the node at the path's end
pub open_step : (s : PlainStudy) (path : List ℕ) (k from : ℕ) (ws : List Waiting) (o : Option Stipulation) (g : GameRead) → At s (path ++ k ∷ []) from ws o g
    → (bs : List ℕ) → from ≤ length path → length ws < 256
    → Reached (40 ∷ bs) bs s path (length path) (record { replaced = k; begun = from } ∷ ws) o g
unfolding begin_line
open_step s path k from ws o g at bs le few =
    let long : length (path ++ k ∷ []) ≡ length path + 1 = length-append path (k ∷ []) in
    let one : length (path ++ k ∷ []) - 1 ≡ length path = omega arith in
    let shorter : take (length (path ++ k ∷ []) - 1) (path ++ k ∷ []) ≡ path = ap (λ n. take n (path ++ k ∷ [])) one
    ∙ take_at path (k ∷ []) (length path) refl in
    let last : slice_index (path ++ k ∷ []) (length (path ++ k ∷ []) - 1) ≡ k = ap (λ n. slice_index (path ++ k ∷ []) n) one
    ∙ get_or_at path k [] 0 (length path) refl in
    let l : Lines = record { path = path; begun = length path; waiting = record { replaced = k; begun = from } ∷ ws; cut = 0 } in
    let begins : begin_line (record { path = path ++ k ∷ []; begun = from; waiting = ws; cut = 0 }) ≡ Ok l =
    rw (lt-leb (length (path ++ k ∷ [])) from (omega arith), lt-leb 256 (length ws) few)
    (ap (λ (p : List ℕ). Ok (record {
      path = p;
      begun = length (path ++ k ∷ []) - 1;
      waiting = record { replaced = slice_index (path ++ k ∷ []) (length (path ++ k ∷ []) - 1); begun = from } ∷ ws;
      cut = 0;
    })) shorter ∙ ap (λ (n : ℕ). Ok (record {
      path = path;
      begun = n;
      waiting = record { replaced = slice_index (path ++ k ∷ []) (length (path ++ k ∷ []) - 1); begun = from } ∷ ws;
      cut = 0;
    })) one
    ∙ ap (λ (n : ℕ). Ok (record { path = path; begun = length path; waiting = record { replaced = n; begun = from } ∷ ws; cut = 0 })) last) in
    line_step s (path ++ k ∷ []) from ws o g at 40 bs opening (begin_line g.reading.lines) l (lexed_open s (path ++ k ∷ []) from ws o g at bs) (λ _ _ _. refl)
    refl
    (ap begin_line at.lines ∙ begins) refl

-- a variation ends, and the waiting line continues
pub close_step : (s : PlainStudy) (path : List ℕ) (from : ℕ) (w : Waiting) (ws : List Waiting) (o : Option Stipulation) (g : GameRead)
    → At s path from (w ∷ ws) o g
    → (bs : List ℕ) → Reached (41 ∷ bs) bs s (take from path ++ w.replaced ∷ []) w.begun ws o g
unfolding end_line
close_step s path from w ws o g at bs =
    line_step s path from (w ∷ ws) o g at 41 bs closing (end_line g.reading.lines)
    (record { path = take from path ++ w.replaced ∷ []; begun = w.begun; waiting = ws; cut = 0 })
    (lexed_close s path from (w ∷ ws) o g at bs) (λ _ _ _. refl) refl (ap end_line at.lines) refl

-- ---- numbers in their written form

onto_digits : (k n : ℕ) (acc : List ℕ) → list_all is_digit acc ≡ true → list_all is_digit (digits_onto k 10 false n acc) ≡ true
onto_digits zero n acc h = h
onto_digits (suc k) n acc h =
    let glyph : digit_glyph false (n % 10) ≡ 48 + n % 10 = rw (lt-ltb (n % 10) 10 (omega arith)) refl in
    let more : list_all is_digit (digit_glyph false (n % 10) ∷ acc) ≡ true =
    rw glyph (and_from (is_digit (48 + n % 10)) (list_all is_digit acc) (rw (le-leb 48 (48 + n % 10) (omega arith), le-leb (48 + n % 10) 57 (omega arith))
    refl) h) in
    elim (cases_Bool (n / 10 == 0)) [ inl last ↦ rw last more | inr later ↦ rw later (onto_digits k (n / 10) (digit_glyph false (n % 10) ∷ acc) more) ]

onto_some : (k n : ℕ) (acc : List ℕ) → length acc ≤ length (digits_onto k 10 false n acc)
onto_some zero n acc = omega arith
onto_some (suc k) n acc =
    let later = onto_some k (n / 10) (digit_glyph false (n % 10) ∷ acc) in
    elim (cases_Bool (n / 10 == 0)) [ inl last ↦ rw last (omega arith) | inr more ↦ rw more (omega arith) ]

pub decimal_digits : (n : ℕ) → list_all is_digit (decimal n) ≡ true
unfolding digits
decimal_digits n = onto_digits 64 n [] refl

onto_first : (k n : ℕ) → 0 < length (digits_onto (suc k) 10 false n [])
onto_first k n =
    let later = onto_some k (n / 10) (digit_glyph false (n % 10) ∷ []) in
    elim (cases_Bool (n / 10 == 0)) [ inl last ↦ rw last (omega arith) | inr more ↦ rw more (omega arith) ]

pub decimal_some : (n : ℕ) → 0 < length (decimal n)
unfolding digits
decimal_some n = onto_first 63 n
