-- The tree read from a game's moves is made by insertions.
use Rattle.std.proofs.Common.{◌≡◌, ℕ, zero, suc, Bool, true, false, List, [], ◌∷◌, ◌++◌, length, Option, Some, None, Result, Ok, Err, refl, sym, ap}
use Rattle.std.proofs.Common.{subst, ◌∙◌, append_assoc}
use Rattle.std.specs.Prelude.{◌==◌, IfOk, nat_le, nat_lt, codes, if◌then◌else◌}
use Rattle.std.specs.List.{list_all}
use Rattle.std.specs.Str.{bytes_eq}
use Rattle.std.proofs.lemmas.List.{append-nil}
use Rattle.study_board.specs.Position.{Position}
use Rattle.study_moves.specs.declared.moves.Move.{Move}
use Rattle.study_moves.specs.Rules.{is_legal}
use Rattle.study_moves.specs.LegalList.{legal_list}
use Rattle.std.specs.List.{filter}
use Rattle.study_notation.specs.declared.san.San.{San}
use Rattle.study_notation.specs.declared.fault.SanFault.{SanFault}
use Rattle.study_notation.specs.declared.fault.SanFault.TheVariants.{NotSan}
use Rattle.study_notation.specs.SanParts.{san_of}
use Rattle.study_notation.specs.Matching.{matches, move_meant, only_match, move_of}
use Rattle.study_notation.proofs.MeansLegal.{picked_legal}
use Rattle.study_tree.specs.Edits.{children_at}
use Rattle.study_tree.specs.Tree.{has_spot, size_of}
use Rattle.study_marks.specs.Study.{position_at, place_at}
use Rattle.study_marks.specs.Edits.{PlainStudy, with_insertion, insert_refusal, is_printable}
use Rattle.study_games.specs.declared.symbols.Said.{Said}
use Rattle.study_games.specs.declared.symbols.Said.TheVariants as say
use Rattle.study_games.specs.Symbols.{said_of, san_in}
use Rattle.study_games.specs.Tokens.{Token, Lexed, blank, aside, opening, closing, star, tag, comment, rest, sign, symbol, lexed_token}
use Rattle.study_reading.specs.declared.lines.LineFault.{LineFault}
use Rattle.study_reading.specs.declared.moves.MoveFault.{MoveFault}
use Rattle.study_reading.specs.declared.moves.MoveFault.TheVariants.{San as SanRefused, NoSuchNode}
use Rattle.study_reading.specs.declared.token_effects.Reason.{Reason}
use Rattle.study_reading.specs.declared.token_effects.Reason.TheVariants as reason
use Rattle.study_reading.specs.declared.movetext.MovesFault.{MovesFault}
use Rattle.study_reading.specs.declared.movetext.Stop.TheVariants as stop
use Rattle.study_reading.specs.Lines.{Lines, begin_line, end_line}
use Rattle.study_import.specs.Moves.{After, child_or_added, moved_by, after_san, after_move_text, insert_line}
use Rattle.study_reading.specs.Taken.{going_on, on_line, at_result, cut_line, at_null_move, on_move, taken_sign}
use Rattle.study_reading.specs.declared.notes.Notes.{Notes}
use Rattle.study_reading.specs.Notes.{is_header_tag, noted_on, placed_or}
use Rattle.study_reading.specs.declared.numbering.Numbering.{Numbering}
use Rattle.study_reading.specs.Movetext.{at_end, goes_on, with_numbering}
use Rattle.study_reading.specs.Reading.{after_move as after_move_by, symbol_played as symbol_played_by}
use Rattle.study_import.specs.FewMen.{Reading, gone_on, read_on, after_move, symbol_played, Taken, taken_symbol, after_token, GameRead, GameTaken}
use Rattle.study_import.specs.FewMen.{with_signs, signs_noted, game_taken, Ended, game_numbered, on_numbered, on_token, fault_at, read_moves}
use Rattle.study_import.specs.Insertions.{Insertion, made_by, AllAccepted, lines_for, Leads}

-- ---- lists of insertions

made-append : (s : PlainStudy) (xs ys : List Insertion) → made_by s (xs ++ ys) ≡ made_by (made_by s xs) ys
made-append s [] ys = refl
made-append s (i ∷ xs) ys = made-append (with_insertion s i.0 i.1) xs ys

lines-append : (s : PlainStudy) (xs ys : List Insertion) → lines_for s (xs ++ ys) ≡ lines_for s xs ++ lines_for (made_by s xs) ys
lines-append s [] ys = refl
lines-append s (i ∷ xs) ys =
    ap (λ (t : List ℕ). insert_line (position_at s i.0) i.0 (Some i.1) ++ t) (lines-append (with_insertion s i.0 i.1) xs ys)
    ∙ sym (append_assoc (insert_line (position_at s i.0) i.0 (Some i.1)) (lines_for (with_insertion s i.0 i.1) xs)
    (lines_for (made_by (with_insertion s i.0 i.1) xs) ys))

accepted-append : (A : Type 0) (s : PlainStudy) (xs ys : List Insertion) → AllAccepted A s xs → AllAccepted A (made_by s xs) ys → AllAccepted A s (xs ++ ys)
accepted-append A s [] ys h k = k
accepted-append A s (i ∷ xs) ys h k = (h.0, accepted-append A (with_insertion s i.0 i.1) xs ys h.1 k)

module _ (A : Type 0) where
  stays : (r now : Reading) → now.study ≡ r.study → now.inserts ≡ r.inserts → Leads A r now
  stays r now e f = record { insertions = []; accepted = tt; study = e; lines = f ∙ sym (append-nil r.inserts) }

  same : (r now : Reading) → now ≡ r → Leads A r now
  same r now e = stays r now (ap (λ (x : Reading). x.study) e) (ap (λ (x : Reading). x.inserts) e)

  leads_on : (r mid now : Reading) → Leads A r mid → Leads A mid now → Leads A r now
  leads_on r mid now a b =
      record {
        insertions = a.insertions ++ b.insertions;
        accepted = accepted-append A r.study a.insertions b.insertions a.accepted (subst (λ (s : PlainStudy). AllAccepted A s b.insertions) a.study b.accepted);
        study = b.study ∙ ap (λ (s : PlainStudy). made_by s b.insertions) a.study ∙ sym (made-append r.study a.insertions b.insertions);
        lines = b.lines ∙ ap (λ (t : List ℕ). t ++ lines_for mid.study b.insertions) a.lines
            ∙ append_assoc r.inserts (lines_for r.study a.insertions) (lines_for mid.study b.insertions)
            ∙ ap (λ (s : PlainStudy). r.inserts ++ (lines_for r.study a.insertions ++ lines_for s b.insertions)) a.study
            ∙ ap (λ (t : List ℕ). r.inserts ++ t) (sym (lines-append r.study a.insertions b.insertions));
      }

  -- ---- a move

  refused_none : (s : PlainStudy) (at : List ℕ) (m : Move) → has_spot s.tree at ≡ true → is_legal (position_at s at) m ≡ true
      → place_at s.tree.below at m ≡ None → nat_le 256 (length at) ≡ false → nat_le 4096 (size_of s.tree) ≡ false
      → insert_refusal {A = A} s at m ≡ None
  refused_none s at m here legal new deep full = rw here (rw legal (rw new (rw deep (rw full refl))))

  legal_picked : (p : Position) (text : List ℕ) (m : Move) (o : Option San) → move_meant p text o ≡ Ok m → is_legal p m ≡ true
  legal_picked p text m None e = absurd cc
  legal_picked p text m (Some s) e =
      subst (λ (x : Result Move SanFault). IfOk x (λ n. is_legal p n ≡ true)) e
      (picked_legal p s (legal_list p) (legal_list p) (only_match (filter (matches p s) (legal_list p))) refl refl refl)

  legal_meant : (p : Position) (text : List ℕ) (m : Move) → move_of p text ≡ Ok m → is_legal p m ≡ true
  unfolding move_of
  legal_meant p text m e = legal_picked p text m (san_of text) e

  stepped_leads : (r : Reading) (m : Move) (place : Option ℕ) (deep full : Bool) (a : After)
      → has_spot r.study.tree r.lines.path ≡ true → is_legal (position_at r.study r.lines.path) m ≡ true
      → place_at r.study.tree.below r.lines.path m ≡ place → nat_le 256 (length r.lines.path) ≡ deep → nat_le 4096 (size_of r.study.tree) ≡ full
      → child_or_added r.study r.lines.path m place deep full ≡ Ok a → Leads A r (gone_on r a)
  stepped_leads r m (Some k) deep full a here legal ep ed ef e =
      let is : record { study = r.study; step = record { place = k; added = None } } ≡ a = cc in
      stays r (gone_on r a) (ap (λ (x : After). x.study) (sym is))
      (ap (λ (x : After). r.inserts ++ insert_line (position_at r.study r.lines.path) r.lines.path x.step.added) (sym is) ∙ append-nil r.inserts)
  stepped_leads r m None true full a here legal ep ed ef e = absurd cc
  stepped_leads r m None false true a here legal ep ed ef e = absurd cc
  stepped_leads r m None false false a here legal ep ed ef e =
      let is : record {
        study = with_insertion r.study r.lines.path m;
        step = record { place = children_at r.study.tree.below r.lines.path; added = Some m };
      } ≡ a = cc in
      record {
        insertions = (r.lines.path, m) ∷ [];
        accepted = (refused_none r.study r.lines.path m here legal ep ed ef, tt);
        study = ap (λ (x : After). x.study) (sym is);
        lines = ap (λ (x : After). r.inserts ++ insert_line (position_at r.study r.lines.path) r.lines.path x.step.added) (sym is)
            ∙ ap (λ (t : List ℕ). r.inserts ++ t) (sym (append-nil (insert_line (position_at r.study r.lines.path) r.lines.path (Some m))));
      }

  by_leads : (r : Reading) (m : Move) (a : After) → has_spot r.study.tree r.lines.path ≡ true → is_legal (position_at r.study r.lines.path) m ≡ true
      → moved_by r.study r.lines.path m ≡ Ok a → Leads A r (gone_on r a)
  unfolding moved_by
  by_leads r m a here legal e = stepped_leads r m _ _ _ a here legal refl refl refl e

  met_leads : (r : Reading) (x : Result Move SanFault) (a : After) → has_spot r.study.tree r.lines.path ≡ true
      → ((m : Move) → x ≡ Ok m → is_legal (position_at r.study r.lines.path) m ≡ true)
      → after_san r.study r.lines.path x ≡ Ok a → Leads A r (gone_on r a)
  met_leads r (Err fault) a here legal e = absurd cc
  met_leads r (Ok m) a here legal e = by_leads r m a here (legal m refl) e

  at_spot : (r : Reading) (san : List ℕ) (b : Bool) (a : After) → has_spot r.study.tree r.lines.path ≡ b
      → (if b then after_san r.study r.lines.path (move_of (position_at r.study r.lines.path) san) else Err NoSuchNode) ≡ Ok a → Leads A r (gone_on r a)
  at_spot r san false a is e = absurd cc
  at_spot r san true a is e = met_leads r (move_of (position_at r.study r.lines.path) san) a is (legal_meant (position_at r.study r.lines.path) san) e

  moved_leads : (r : Reading) (san : List ℕ) (a : After) → after_move_text r.study r.lines.path san ≡ Ok a → Leads A r (gone_on r a)
  unfolding after_move_text
  moved_leads r san a e = at_spot r san (has_spot r.study.tree r.lines.path) a refl e

  read_leads : (r now : Reading) (x : Result After MoveFault) → ((a : After) → x ≡ Ok a → Leads A r (gone_on r a)) → read_on r x ≡ Ok now → Leads A r now
  read_leads r now (Err fault) f e = absurd cc
  read_leads r now (Ok a) f e = let is : gone_on r a ≡ now = cc in subst (λ (z : Reading). Leads A r z) is (f a refl)

  played_leads : (r now : Reading) (san : List ℕ) → after_move r san ≡ Ok now → Leads A r now
  unfolding after_move_by
  played_leads r now san e = read_leads r now (after_move_text r.study r.lines.path san) (moved_leads r san) e

  symbol_by : (r now : Reading) (san : List ℕ) (cut long prints : Bool)
      → (if cut then Ok r else (if long then Err (SanRefused NotSan) else (if prints then after_move r san else Err (SanRefused NotSan)))) ≡ Ok now
      → Leads A r now
  symbol_by r now san true long prints e = let is : r ≡ now = cc in same r now (sym is)
  symbol_by r now san false true prints e = absurd cc
  symbol_by r now san false false true e = played_leads r now san e
  symbol_by r now san false false false e = absurd cc

  symbol_leads : (r now : Reading) (text : List ℕ) → symbol_played r text ≡ Ok now → Leads A r now
  unfolding symbol_played_by
  symbol_leads r now text e = symbol_by r now (san_in text) (nat_le 1 r.lines.cut) (nat_lt 32 (length text)) (list_all is_printable (san_in text)) e

  -- ---- a token

  going : (r : Reading) (t : Taken) → going_on r ≡ Ok t → Leads A r t.reading
  going r t e = let is : record { reading = r; ended = false } ≡ t = cc in same r t.reading (sym (ap (λ (x : Taken). x.reading) is))

  lines_only : (r : Reading) (t : Taken) (l : Lines) → going_on (record { study = r.study; lines = l; inserts = r.inserts }) ≡ Ok t → Leads A r t.reading
  lines_only r t l e =
      let is : record { reading = record { study = r.study; lines = l; inserts = r.inserts }; ended = false } ≡ t = cc in
      stays r t.reading (sym (ap (λ (x : Taken). x.reading.study) is)) (sym (ap (λ (x : Taken). x.reading.inserts) is))

  line_leads : (r : Reading) (t : Taken) (x : Result Lines LineFault) → on_line r x ≡ Ok t → Leads A r t.reading
  line_leads r t (Err fault) e = absurd cc
  line_leads r t (Ok l) e = lines_only r t l e

  result_leads : (r : Reading) (t : Taken) → at_result r ≡ Ok t → Leads A r t.reading
  result_leads r t e =
      let is : record { reading = r; ended = length r.lines.waiting == 0 } ≡ t = cc in same r t.reading (sym (ap (λ (x : Taken). x.reading) is))

  null_by : (r : Reading) (t : Taken) (main : Bool)
      → (if main then Err reason.NullMove else going_on (record { study = r.study; lines = cut_line r.lines; inserts = r.inserts })) ≡ Ok t
      → Leads A r t.reading
  null_by r t true e = absurd cc
  null_by r t false e = lines_only r t (cut_line r.lines) e

  null_leads : (r : Reading) (t : Taken) → at_null_move r ≡ Ok t → Leads A r t.reading
  null_leads r t e = null_by r t (length r.lines.waiting == 0) e

  sign_leads : (r : Reading) (t : Taken) (is_null : Bool) → taken_sign r is_null ≡ Ok t → Leads A r t.reading
  sign_leads r t true e = null_leads r t e
  sign_leads r t false e = going r t e

  move_leads : (r : Reading) (t : Taken) (x : Result Reading MoveFault) → ((now : Reading) → x ≡ Ok now → Leads A r now) → on_move x ≡ Ok t
      → Leads A r t.reading
  move_leads r t (Err fault) f e = absurd cc
  move_leads r t (Ok now) f e =
      let is : record { reading = now; ended = false } ≡ t = cc in subst (λ (z : Taken). Leads A r z.reading) is (f now refl)

  said_leads : (r : Reading) (t : Taken) (text : List ℕ) (said : Said) → taken_symbol r text said ≡ Ok t → Leads A r t.reading
  said_leads r t text say.Number e = going r t e
  said_leads r t text (say.Result outcome) e = result_leads r t e
  said_leads r t text say.NullMove e = null_leads r t e
  said_leads r t text say.Passing e = going r t e
  said_leads r t text say.Aside e = going r t e
  said_leads r t text say.Word e = going r t e
  said_leads r t text say.Move e = move_leads r t (symbol_played r text) (λ now is. symbol_leads r now text is) e

  token_leads : (r : Reading) (t : Taken) (token : Token) → after_token r token ≡ Ok t → Leads A r t.reading
  token_leads r t blank e = going r t e
  token_leads r t aside e = going r t e
  token_leads r t (comment text) e = going r t e
  token_leads r t (rest text) e = going r t e
  token_leads r t opening e = line_leads r t (begin_line r.lines) e
  token_leads r t closing e = line_leads r t (end_line r.lines) e
  token_leads r t star e = result_leads r t e
  token_leads r t (tag name value) e = absurd cc
  token_leads r t (sign text) e = sign_leads r t (bytes_eq text (codes "--")) e
  token_leads r t (symbol text) e = said_leads r t text (said_of text) e

  noted_leads : (r : Reading) (n : Notes) (t : GameTaken) (x : Result Taken Reason) → ((u : Taken) → x ≡ Ok u → Leads A r u.reading)
      → noted_on n x ≡ Ok t → Leads A r t.game.reading
  noted_leads r n t (Err why) f e = absurd cc
  noted_leads r n t (Ok u) f e =
      let is : record { game = record { reading = u.reading; notes = n }; ended = u.ended } ≡ t = cc in
      subst (λ (z : GameTaken). Leads A r z.game.reading) is (f u refl)

  placed_leads : (r : Reading) (u : Taken) (why : Option Reason) (x : Result Taken Reason) → (x ≡ Ok u → Leads A r u.reading)
      → placed_or why x ≡ Ok u → Leads A r u.reading
  placed_leads r u (Some why) x f e = absurd cc
  placed_leads r u None x f e = f e

  signed_leads : (r : Reading) (t : GameTaken) (token : Token) (x : Result GameTaken Reason) → ((u : GameTaken) → x ≡ Ok u → Leads A r u.game.reading)
      → signs_noted token x ≡ Ok t → Leads A r t.game.reading
  signed_leads r t token (Err why) f e = absurd cc
  signed_leads r t token (Ok u) f e = let is : with_signs token u ≡ t = cc in subst (λ (z : GameTaken). Leads A r z.game.reading) is (f u refl)

  header_or : (g : GameRead) (t : GameTaken) (n : Notes) (why : Option Reason) (token : Token) (in_header : Bool)
      → (if in_header then Ok (record { game = g; ended = false }) else signs_noted token (noted_on n (placed_or why (after_token g.reading token)))) ≡ Ok t
      → Leads A g.reading t.game.reading
  header_or g t n why token true e =
      let is : record { game = g; ended = false } ≡ t = cc in same g.reading t.game.reading (sym (ap (λ (x : GameTaken). x.game.reading) is))
  header_or g t n why token false e =
      let placed = placed_or why (after_token g.reading token) in
      signed_leads g.reading t token (noted_on n placed)
      (λ v at. noted_leads g.reading n v placed
      (λ u is. placed_leads g.reading u why (after_token g.reading token) (λ k. token_leads g.reading u token k) is) at) e

  game_leads : (g : GameRead) (t : GameTaken) (token : Token) → game_taken g token ≡ Ok t → Leads A g.reading t.game.reading
  game_leads g t token e = header_or g t _ _ token (is_header_tag g.notes token) e

  -- ---- a game

  ends_leads : (g : GameRead) (x : Ended) (none : Bool)
      → (if none then Ok (record { game = g; behind = [] }) else fault_at stop.OpenVariation 0) ≡ Ok x → Leads A g.reading x.game.reading
  ends_leads g x true e = let is : record { game = g; behind = [] } ≡ x = cc in same g.reading x.game.reading (sym (ap (λ (z : Ended). z.game.reading) is))
  ends_leads g x false e = absurd cc

  end_leads : (g : GameRead) (x : Ended) → at_end g ≡ Ok x → Leads A g.reading x.game.reading
  end_leads g x e = ends_leads g x (length g.reading.lines.waiting == 0) e

  ended_or : (next : GameRead → Result Ended MovesFault) (t : GameTaken) (behind : List ℕ) (x : Ended) (ended : Bool)
      → ((h : GameRead) → next h ≡ Ok x → Leads A h.reading x.game.reading)
      → (if ended then Ok (record { game = t.game; behind = behind }) else next t.game) ≡ Ok x → Leads A t.game.reading x.game.reading
  ended_or next t behind x true f e =
      let is : record { game = t.game; behind = behind } ≡ x = cc in same t.game.reading x.game.reading (sym (ap (λ (z : Ended). z.game.reading) is))
  ended_or next t behind x false f e = f t.game e

  on_leads : (next : GameRead → Result Ended MovesFault) (g : GameRead) (left : ℕ) (behind : List ℕ) (x : Ended) (taken_on : Result GameTaken Reason)
      → ((t : GameTaken) → taken_on ≡ Ok t → Leads A g.reading t.game.reading) → ((h : GameRead) → next h ≡ Ok x → Leads A h.reading x.game.reading)
      → goes_on next left behind taken_on ≡ Ok x → Leads A g.reading x.game.reading
  on_leads next g left behind x (Err why) f k e = absurd cc
  on_leads next g left behind x (Ok t) f k e = leads_on g.reading t.game.reading x.game.reading (f t refl) (ended_or next t behind x t.ended k e)

  numbered_leads : (next : GameRead → Result Ended MovesFault) (g : GameRead) (left : ℕ) (token : Token) (behind : List ℕ) (x : Ended) (s : Option Numbering)
      → ((h : GameRead) → next h ≡ Ok x → Leads A h.reading x.game.reading) → on_numbered next left g token behind s ≡ Ok x → Leads A g.reading x.game.reading
  numbered_leads next g left token behind x None k e = absurd cc
  numbered_leads next g left token behind x (Some s) k e =
      on_leads next (with_numbering g s) left behind x (game_taken (with_numbering g s) token) (λ t is. game_leads (with_numbering g s) t token is) k e

  lexed_leads : (next : List ℕ → GameRead → Result Ended MovesFault) (g : GameRead) (left : ℕ) (x : Ended) (token : Lexed)
      → ((bs : List ℕ) (h : GameRead) → next bs h ≡ Ok x → Leads A h.reading x.game.reading)
      → on_token next left g token ≡ Ok x → Leads A g.reading x.game.reading
  lexed_leads next g left x (Err fault) k e = absurd cc
  lexed_leads next g left x (Ok y) k e = numbered_leads (next y.1) g left y.0 y.1 x (game_numbered g y.0 y.1) (k y.1) e

  pub moves_lead : (n : ℕ) (fresh : Bool) (text : List ℕ) (g : GameRead) (x : Ended) → read_moves n fresh text g ≡ Ok x → Leads A g.reading x.game.reading
  moves_lead zero fresh text g x e = end_leads g x e
  moves_lead (suc n) fresh [] g x e = end_leads g x e
  moves_lead (suc n) fresh (b ∷ bs) g x e =
      lexed_leads (read_moves n (b == 10)) g (length (b ∷ bs)) x (lexed_token fresh b bs) (λ rest h is. moves_lead n (b == 10) rest h x is) e
