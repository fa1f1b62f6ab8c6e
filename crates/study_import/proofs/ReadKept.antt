-- What holds of a study holds of it while a game is read, if each move keeps it.
use Rattle.std.proofs.Common.{◌≡◌, ℕ, Bool, true, false, List, length, Option, Some, None, Result, Ok, Err, refl, sym, ap}
use Rattle.std.proofs.Common.{subst}
use Rattle.std.specs.Prelude.{◌==◌, nat_le, nat_lt, codes, if◌then◌else◌}
use Rattle.std.specs.List.{list_all}
use Rattle.std.specs.Str.{bytes_eq}
use Rattle.study_notation.specs.declared.fault.SanFault.TheVariants.{NotSan}
use Rattle.study_marks.specs.Edits.{is_printable}
use Rattle.study_games.specs.declared.symbols.Said.{Said}
use Rattle.study_games.specs.declared.symbols.Said.TheVariants as say
use Rattle.study_games.specs.Symbols.{said_of, san_in}
use Rattle.study_games.specs.Tokens.{Token, blank, aside, opening, closing, star, tag, comment, rest, sign, symbol}
use Rattle.study_reading.specs.declared.lines.LineFault.{LineFault}
use Rattle.study_reading.specs.declared.moves.MoveFault.{MoveFault}
use Rattle.study_reading.specs.declared.moves.MoveFault.TheVariants.{San as SanRefused}
use Rattle.study_reading.specs.declared.token_effects.Reason.{Reason}
use Rattle.study_reading.specs.declared.token_effects.Reason.TheVariants as reason
use Rattle.study_reading.specs.Lines.{Lines, begin_line, end_line}
use Rattle.study_reading.specs.Followed.{After, Rules}
use Rattle.study_reading.specs.Reading.{Reading, gone_on, read_on, after_move, symbol_played}
use Rattle.study_reading.specs.Taken.{Taken, going_on, on_line, at_result, cut_line, at_null_move, on_move, taken_sign, taken_symbol, after_token}
use Rattle.study_reading.specs.declared.notes.Notes.{Notes}
use Rattle.study_reading.specs.Notes.{GameRead, GameTaken, is_header_tag, noted_on, placed_or, with_signs, signs_noted, game_taken}
use Rattle.study_reading.specs.Movetext.{Ended, read_moves}
use Rattle.study_import.proofs.Kept.{kept as all_kept}

module _ {S : Type 0} (rules : Rules S) (P : S → Type 0)
    (kept : (s : S) (at san : List ℕ) (a : After S) → P s → rules.played s at san ≡ Ok a → P a.study) where
  abbrev Keeps : Reading S → Reading S → Type 0
  Keeps r now = P r.study → P now.study

  stays : (r now : Reading S) → now.study ≡ r.study → Keeps r now
  stays r now e h = subst P (sym e) h

  same : (r now : Reading S) → now ≡ r → Keeps r now
  same r now e = stays r now (ap (λ (x : Reading S). x.study) e)

  read_kept : (r now : Reading S) (x : Result (After S) MoveFault) → ((a : After S) → x ≡ Ok a → Keeps r (gone_on rules r a)) → read_on rules r x ≡ Ok now → Keeps r now
  read_kept r now (Err fault) f e = absurd cc
  read_kept r now (Ok a) f e = let is : gone_on rules r a ≡ now = cc in subst (λ (z : Reading S). Keeps r z) is (f a refl)

  played_kept : (r now : Reading S) (san : List ℕ) → after_move rules r san ≡ Ok now → Keeps r now
  unfolding after_move
  played_kept r now san e = read_kept r now (rules.played r.study r.lines.path san) (λ a is h. kept r.study r.lines.path san a h is) e

  symbol_by : (r now : Reading S) (san : List ℕ) (cut long prints : Bool)
      → (if cut then Ok r else (if long then Err (SanRefused NotSan) else (if prints then after_move rules r san else Err (SanRefused NotSan)))) ≡ Ok now
      → Keeps r now
  symbol_by r now san true long prints e = let is : r ≡ now = cc in same r now (sym is)
  symbol_by r now san false true prints e = absurd cc
  symbol_by r now san false false true e = played_kept r now san e
  symbol_by r now san false false false e = absurd cc

  symbol_kept : (r now : Reading S) (text : List ℕ) → symbol_played rules r text ≡ Ok now → Keeps r now
  unfolding symbol_played
  symbol_kept r now text e = symbol_by r now (san_in text) (nat_le 1 r.lines.cut) (nat_lt 32 (length text)) (list_all is_printable (san_in text)) e

  -- ---- a token

  going : (r : Reading S) (t : Taken S) → going_on r ≡ Ok t → Keeps r t.reading
  going r t e = let is : record { reading = r; ended = false } ≡ t = cc in same r t.reading (sym (ap (λ (x : Taken S). x.reading) is))

  lines_only : (r : Reading S) (t : Taken S) (l : Lines) → going_on (record { study = r.study; lines = l; inserts = r.inserts }) ≡ Ok t → Keeps r t.reading
  lines_only r t l e =
      let is : record { reading = record { study = r.study; lines = l; inserts = r.inserts }; ended = false } ≡ t = cc in
      stays r t.reading (sym (ap (λ (x : Taken S). x.reading.study) is))

  line_kept : (r : Reading S) (t : Taken S) (x : Result Lines LineFault) → on_line r x ≡ Ok t → Keeps r t.reading
  line_kept r t (Err fault) e = absurd cc
  line_kept r t (Ok l) e = lines_only r t l e

  result_kept : (r : Reading S) (t : Taken S) → at_result r ≡ Ok t → Keeps r t.reading
  result_kept r t e =
      let is : record { reading = r; ended = length r.lines.waiting == 0 } ≡ t = cc in same r t.reading (sym (ap (λ (x : Taken S). x.reading) is))

  null_by : (r : Reading S) (t : Taken S) (main : Bool)
      → (if main then Err reason.NullMove else going_on (record { study = r.study; lines = cut_line r.lines; inserts = r.inserts })) ≡ Ok t
      → Keeps r t.reading
  null_by r t true e = absurd cc
  null_by r t false e = lines_only r t (cut_line r.lines) e

  null_kept : (r : Reading S) (t : Taken S) → at_null_move r ≡ Ok t → Keeps r t.reading
  null_kept r t e = null_by r t (length r.lines.waiting == 0) e

  sign_kept : (r : Reading S) (t : Taken S) (is_null : Bool) → taken_sign r is_null ≡ Ok t → Keeps r t.reading
  sign_kept r t true e = null_kept r t e
  sign_kept r t false e = going r t e

  move_kept : (r : Reading S) (t : Taken S) (x : Result (Reading S) MoveFault) → ((now : Reading S) → x ≡ Ok now → Keeps r now) → on_move x ≡ Ok t
      → Keeps r t.reading
  move_kept r t (Err fault) f e = absurd cc
  move_kept r t (Ok now) f e =
      let is : record { reading = now; ended = false } ≡ t = cc in subst (λ (z : Taken S). Keeps r z.reading) is (f now refl)

  said_kept : (r : Reading S) (t : Taken S) (text : List ℕ) (said : Said) → taken_symbol rules r text said ≡ Ok t → Keeps r t.reading
  said_kept r t text say.Number e = going r t e
  said_kept r t text (say.Result outcome) e = result_kept r t e
  said_kept r t text say.NullMove e = null_kept r t e
  said_kept r t text say.Passing e = going r t e
  said_kept r t text say.Aside e = going r t e
  said_kept r t text say.Word e = going r t e
  said_kept r t text say.Move e = move_kept r t (symbol_played rules r text) (λ now is. symbol_kept r now text is) e

  token_kept : (r : Reading S) (t : Taken S) (token : Token) → after_token rules r token ≡ Ok t → Keeps r t.reading
  token_kept r t blank e = going r t e
  token_kept r t aside e = going r t e
  token_kept r t (comment text) e = going r t e
  token_kept r t (rest text) e = going r t e
  token_kept r t opening e = line_kept r t (begin_line r.lines) e
  token_kept r t closing e = line_kept r t (end_line r.lines) e
  token_kept r t star e = result_kept r t e
  token_kept r t (tag name value) e = absurd cc
  token_kept r t (sign text) e = sign_kept r t (bytes_eq text (codes "--")) e
  token_kept r t (symbol text) e = said_kept r t text (said_of text) e

  noted_kept : (r : Reading S) (n : Notes) (t : GameTaken S) (x : Result (Taken S) Reason) → ((u : Taken S) → x ≡ Ok u → Keeps r u.reading)
      → noted_on n x ≡ Ok t → Keeps r t.game.reading
  noted_kept r n t (Err why) f e = absurd cc
  noted_kept r n t (Ok u) f e =
      let is : record { game = record { reading = u.reading; notes = n }; ended = u.ended } ≡ t = cc in
      subst (λ (z : GameTaken S). Keeps r z.game.reading) is (f u refl)

  placed_kept : (r : Reading S) (u : Taken S) (why : Option Reason) (x : Result (Taken S) Reason) → (x ≡ Ok u → Keeps r u.reading)
      → placed_or why x ≡ Ok u → Keeps r u.reading
  placed_kept r u (Some why) x f e = absurd cc
  placed_kept r u None x f e = f e

  signed_kept : (r : Reading S) (t : GameTaken S) (token : Token) (x : Result (GameTaken S) Reason) → ((u : GameTaken S) → x ≡ Ok u → Keeps r u.game.reading)
      → signs_noted rules token x ≡ Ok t → Keeps r t.game.reading
  signed_kept r t token (Err why) f e = absurd cc
  signed_kept r t token (Ok u) f e = let is : with_signs rules token u ≡ t = cc in subst (λ (z : GameTaken S). Keeps r z.game.reading) is (f u refl)

  header_or : (g : GameRead S) (t : GameTaken S) (n : Notes) (why : Option Reason) (token : Token) (in_header : Bool)
      → (if in_header then Ok (record { game = g; ended = false }) else signs_noted rules token (noted_on n (placed_or why (after_token rules g.reading token)))) ≡ Ok t
      → Keeps g.reading t.game.reading
  header_or g t n why token true e =
      let is : record { game = g; ended = false } ≡ t = cc in same g.reading t.game.reading (sym (ap (λ (x : GameTaken S). x.game.reading) is))
  header_or g t n why token false e =
      let placed = placed_or why (after_token rules g.reading token) in
      signed_kept g.reading t token (noted_on n placed)
      (λ v at. noted_kept g.reading n v placed
      (λ u is. placed_kept g.reading u why (after_token rules g.reading token) (λ k. token_kept g.reading u token k) is) at) e

  game_kept : (g : GameRead S) (t : GameTaken S) (token : Token) → game_taken rules g token ≡ Ok t → Keeps g.reading t.game.reading
  game_kept g t token e = header_or g t _ _ token (is_header_tag g.notes token) e

  -- ---- a game

  pub moves_kept : (n : ℕ) (fresh : Bool) (text : List ℕ) (g : GameRead S) (x : Ended S) → P g.reading.study → read_moves rules n fresh text g ≡ Ok x
      → P x.game.reading.study
  moves_kept n fresh text g x h e =
      all_kept rules (λ (i : GameRead S). P i.reading.study) (λ i s k. k) (λ i token t k is. game_kept i t token is k) n fresh text g x h e
