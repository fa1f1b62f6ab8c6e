-- The current place is a node of the tree, and so is each waiting one.
use Rattle.std.proofs.Common.{◌≡◌, ℕ, zero, suc, ◌+◌, ◌-◌, ◌<◌, ◌≤◌, Bool, true, false, List, [], ◌∷◌, ◌++◌, length, take, Option, Some, None, Result}
use Rattle.std.proofs.Common.{Ok, Err, refl, sym, ap, subst, ◌∙◌, arith, length-append, length-take}
use Rattle.std.specs.Prelude.{◌==◌, not, nat_le, nat_lt, slice_index, codes, if◌then◌else◌, ◌&&◌}
use Rattle.std.specs.List.{list_all}
use Rattle.std.specs.Str.{bytes_eq}
use Rattle.std.proofs.lemmas.Bool.{false≢true, leb-false}
use Rattle.std.proofs.lemmas.List.{take-take, take_more, take_all, take-append-le}
use Rattle.study_moves.specs.declared.moves.Move.{Move}
use Rattle.study_notation.specs.declared.start.Start.{Start}
use Rattle.study_notation.specs.declared.fault.SanFault.{SanFault}
use Rattle.study_notation.specs.declared.fault.SanFault.TheVariants.{NotSan}
use Rattle.study_notation.specs.Matching.{move_of}
use Rattle.study_tree.specs.Forest.{Forest, none, more}
use Rattle.study_tree.specs.Edits.{has_node, with_last, add_last, children_at, width}
use Rattle.study_tree.specs.Tree.{size_of}
use Rattle.study_marks.specs.Study.{same_move, position_at, place_from, place_at}
use Rattle.study_marks.specs.Edits.{with_insertion, is_printable}
use Rattle.study_games.specs.declared.symbols.Said.{Said}
use Rattle.study_games.specs.declared.symbols.Said.TheVariants as say
use Rattle.study_games.specs.Symbols.{said_of, san_in}
use Rattle.study_games.specs.Tokens.{Token, blank, aside, opening, closing, star, tag, comment, rest, sign, symbol}
use Rattle.study_reading.specs.declared.lines.Waiting.{Waiting}
use Rattle.study_reading.specs.declared.lines.LineFault.{LineFault}
use Rattle.study_reading.specs.declared.lines.LineFault.TheVariants as line_fault
use Rattle.study_reading.specs.declared.moves.MoveFault.{MoveFault}
use Rattle.study_reading.specs.declared.moves.MoveFault.TheVariants as move_fault
use Rattle.study_reading.specs.declared.notes.Notes.{Notes}
use Rattle.study_reading.specs.declared.token_effects.Reason.{Reason}
use Rattle.study_reading.specs.declared.token_effects.Reason.TheVariants as reason
use Rattle.study_reading.specs.declared.movetext.Stop.TheVariants as stop
use Rattle.study_reading.specs.Lines.{Lines, lines_in_variation, begin_line, lines_after_variation, end_line}
use Rattle.study_import.specs.Moves.{After, child_or_added, moved_by, after_san, after_move_text}
use Rattle.study_reading.specs.Taken.{going_on, on_line, cut_line, on_move, taken_sign}
use Rattle.study_reading.specs.Notes.{is_header_tag, with_token, noted_on}
use Rattle.study_reading.specs.Notes.{said_misplaced, misplaced, placed_or}
use Rattle.study_import.specs.Blocks.{no_moves, game_read}
use Rattle.study_import.specs.Laws.{IsListed, AreListed}
use Rattle.study_reading.specs.Reading.{after_move as after_move_by, symbol_played as symbol_played_by}
use Rattle.study_import.specs.FewMen.{few_men, Reading, gone_on, read_on, after_move, symbol_played, Taken, taken_symbol, after_token, GameRead, GameTaken}
use Rattle.study_import.specs.FewMen.{game_taken, signs_noted, read_moves}
use Rattle.study_import.proofs.Kept.{stops}
use Rattle.study_reading.proofs.NoneBehind.{stops_at_end}

abbrev Plain : Type 0
Plain = Forest (Unit {0})

-- ---- nodes

one_up : (n : ℕ) → 1 + n ≡ suc n
one_up n = omega arith

last_grows : (f : Plain) (m : Move) (ks : List ℕ) → has_node f ks ≡ true → has_node (with_last m tt f) ks ≡ true
last_grows f m [] h = refl
last_grows none m (k ∷ ks) h = absurd (false≢true h)
last_grows (more n l b r) m (zero ∷ ks) h = h
last_grows (more n l b r) m (suc k ∷ ks) h = last_grows r m (k ∷ ks) h

grows : (f : Plain) (at : List ℕ) (m : Move) (ks : List ℕ) → has_node f ks ≡ true → has_node (add_last f at m tt) ks ≡ true
grows f at m [] h = refl
grows f [] m (k ∷ ks) h = last_grows f m (k ∷ ks) h
grows none (a ∷ js) m (k ∷ ks) h = absurd (false≢true h)
grows (more n l b r) (zero ∷ js) m (zero ∷ ks) h = grows b js m ks h
grows (more n l b r) (zero ∷ js) m (suc k ∷ ks) h = h
grows (more n l b r) (suc a ∷ js) m (zero ∷ ks) h = h
grows (more n l b r) (suc a ∷ js) m (suc k ∷ ks) h = grows r (a ∷ js) m (k ∷ ks) h

last_child : (f : Plain) (m : Move) → has_node (with_last m tt f) (width f ∷ []) ≡ true
last_child none m = refl
last_child (more n l b r) m = rw (one_up (width r)) (last_child r m)

new_child : (f : Plain) (at : List ℕ) (m : Move) → has_node f at ≡ true → has_node (add_last f at m tt) (at ++ children_at f at ∷ []) ≡ true
new_child f [] m h = last_child f m
new_child none (k ∷ ks) m h = absurd (false≢true h)
new_child (more n l b r) (zero ∷ ks) m h = new_child b ks m h
new_child (more n l b r) (suc k ∷ ks) m h = new_child r (k ∷ ks) m h

abbrev FoundFrom : Plain → ℕ → ℕ → Type 0
FoundFrom f j k = (i : ℕ) × (k ≡ j + i) × (has_node f (i ∷ []) ≡ true)

found_by : (n : Move) (b r : Plain) (m : Move) (j k : ℕ) (c : Bool) → (place_from (suc j) m r ≡ Some k → FoundFrom r (suc j) k)
    → (if c then Some j else place_from (suc j) m r) ≡ Some k → FoundFrom (more n tt b r) j k
found_by n b r m j k true f e = let same : j ≡ k = cc in (0, omega arith, refl)
found_by n b r m j k false f e = let h = f e in (suc h.0, omega (arith, h.1), h.2)

found_from : (f : Plain) (m : Move) (j k : ℕ) → place_from j m f ≡ Some k → FoundFrom f j k
found_from none m j k e = absurd cc
found_from (more n l b r) m j k e = found_by n b r m j k (same_move m n) (found_from r m (suc j) k) e

old_child : (f : Plain) (at : List ℕ) (m : Move) (k : ℕ) → place_at f at m ≡ Some k → has_node f (at ++ k ∷ []) ≡ true
old_child f [] m k e =
    let h = found_from f m 0 k e in
    let same : k ≡ h.0 = omega (arith, h.1) in
    subst (λ (i : ℕ). has_node f (i ∷ []) ≡ true) (sym same) h.2
old_child none (j ∷ js) m k e = absurd cc
old_child (more n l b r) (zero ∷ js) m k e = old_child b js m k e
old_child (more n l b r) (suc j ∷ js) m k e = old_child r (j ∷ js) m k e

prefix_node : (f : Plain) (n : ℕ) (ks : List ℕ) → has_node f ks ≡ true → has_node f (take n ks) ≡ true
prefix_node f zero ks h = refl
prefix_node f (suc n) [] h = refl
prefix_node none (suc n) (k ∷ ks) h = absurd (false≢true h)
prefix_node (more m l b r) (suc n) (zero ∷ ks) h = prefix_node b n ks h
prefix_node (more m l b r) (suc n) (suc k ∷ ks) h = prefix_node r (suc n) (k ∷ ks) h

-- ---- places

-- the path leads to a node and is at least as long as when its line began, and so for the waiting lines
Known : Plain → List ℕ → ℕ → List Waiting → Type 0
Known f path begun [] = (has_node f path ≡ true) × (begun ≤ length path)
Known f path begun (w ∷ ws) = (has_node f path ≡ true) × (begun ≤ length path) × Known f (take begun path ++ w.replaced ∷ []) w.begun ws

here : (f : Plain) (path : List ℕ) (begun : ℕ) (ws : List Waiting) → Known f path begun ws → (has_node f path ≡ true) × (begun ≤ length path)
unfolding Known
here f path begun [] h = h
here f path begun (w ∷ ws) h = (h.0, h.1)

known_grows : (f g : Plain) (path : List ℕ) (begun : ℕ) (ws : List Waiting) → ((ks : List ℕ) → has_node f ks ≡ true → has_node g ks ≡ true)
    → Known f path begun ws → Known g path begun ws
unfolding Known
known_grows f g path begun [] up h = (up path h.0, h.1)
known_grows f g path begun (w ∷ ws) up h = (up path h.0, h.1, known_grows f g (take begun path ++ w.replaced ∷ []) w.begun ws up h.2)

known_on : (f : Plain) (path : List ℕ) (begun : ℕ) (ws : List Waiting) (k : ℕ) → Known f path begun ws → has_node f (path ++ k ∷ []) ≡ true
    → Known f (path ++ k ∷ []) begun ws
unfolding Known
known_on f path begun [] k h n = let le = h.1 in (n, omega (arith, length-append path (k ∷ [])))
known_on f path begun (w ∷ ws) k h n =
    let le = h.1 in
    (n, omega (arith, length-append path (k ∷ [])), rw (take-append-le begun path (k ∷ []) le) h.2)

IsPlaced : Reading → Type 0
IsPlaced r = Known r.study.tree.below r.lines.path r.lines.begun r.lines.waiting

-- ---- moves

stepped_placed : (r : Reading) (m : Move) (place : Option ℕ) (deep full : Bool) (a : After) → IsPlaced r → place_at r.study.tree.below r.lines.path m ≡ place
    → child_or_added r.study r.lines.path m place deep full ≡ Ok a → IsPlaced (gone_on r a)
unfolding IsPlaced
stepped_placed r m (Some k) deep full a h p e =
    let is : record { study = r.study; step = record { place = k; added = None } } ≡ a = cc in
    let f = r.study.tree.below in
    subst (λ (x : After). Known x.study.tree.below (r.lines.path ++ x.step.place ∷ []) r.lines.begun r.lines.waiting) is
    (known_on f r.lines.path r.lines.begun r.lines.waiting k h (old_child f r.lines.path m k p))
stepped_placed r m None true full a h p e = absurd cc
stepped_placed r m None false true a h p e = absurd cc
stepped_placed r m None false false a h p e =
    let f = r.study.tree.below in
    let is : record { study = with_insertion r.study r.lines.path m; step = record { place = children_at f r.lines.path; added = Some m } } ≡ a = cc in
    let g = add_last f r.lines.path m tt in
    subst (λ (x : After). Known x.study.tree.below (r.lines.path ++ x.step.place ∷ []) r.lines.begun r.lines.waiting) is
    (known_on g r.lines.path r.lines.begun r.lines.waiting (children_at f r.lines.path)
    (known_grows f g r.lines.path r.lines.begun r.lines.waiting (λ ks. grows f r.lines.path m ks) h)
    (new_child f r.lines.path m (here f r.lines.path r.lines.begun r.lines.waiting h).0))

-- the result of a move
MoveOk : Reading → Result After MoveFault → Type 0
MoveOk r (Ok a) = IsPlaced (gone_on r a)
MoveOk r (Err fault) = IsListed (stop.Taking (reason.Move fault))

stepped_ok : (r : Reading) (m : Move) (place : Option ℕ) (deep full : Bool) → IsPlaced r → place_at r.study.tree.below r.lines.path m ≡ place
    → MoveOk r (child_or_added r.study r.lines.path m place deep full)
unfolding MoveOk
stepped_ok r m (Some k) deep full h p = stepped_placed r m (Some k) deep full _ h p refl
stepped_ok r m None true full h p = tt
stepped_ok r m None false true h p = tt
stepped_ok r m None false false h p = stepped_placed r m None false false _ h p refl

met_ok : (r : Reading) (x : Result Move SanFault) → IsPlaced r → MoveOk r (after_san r.study r.lines.path x)
unfolding MoveOk moved_by
met_ok r (Err fault) h = tt
met_ok r (Ok m) h =
    stepped_ok r m (place_at r.study.tree.below r.lines.path m) (nat_le 256 (length r.lines.path)) (nat_le 4096 (size_of r.study.tree)) h refl

moved_ok : (r : Reading) (san : List ℕ) → IsPlaced r → MoveOk r (after_move_text r.study r.lines.path san)
unfolding after_move_text IsPlaced
moved_ok r san h = rw (here r.study.tree.below r.lines.path r.lines.begun r.lines.waiting h).0 (met_ok r (move_of (position_at r.study r.lines.path) san) h)

-- the result of a symbol
ReadOk : Result Reading MoveFault → Type 0
ReadOk (Ok r) = IsPlaced r
ReadOk (Err fault) = IsListed (stop.Taking (reason.Move fault))

on_ok : (r : Reading) (x : Result After MoveFault) → MoveOk r x → ReadOk (read_on r x)
unfolding MoveOk ReadOk
on_ok r (Ok a) h = h
on_ok r (Err fault) h = h

played_ok : (r : Reading) (san : List ℕ) → IsPlaced r → ReadOk (after_move r san)
unfolding after_move_by
played_ok r san h = on_ok r (after_move_text r.study r.lines.path san) (moved_ok r san h)

symbol_by : (r : Reading) (san : List ℕ) (cut long prints : Bool) → IsPlaced r
    → ReadOk (if cut then Ok r else (if long then Err (move_fault.San NotSan) else (if prints then after_move r san else Err (move_fault.San NotSan))))
unfolding ReadOk
symbol_by r san true long prints h = h
symbol_by r san false true prints h = tt
symbol_by r san false false true h = played_ok r san h
symbol_by r san false false false h = tt

symbol_ok : (r : Reading) (text : List ℕ) → IsPlaced r → ReadOk (symbol_played r text)
unfolding symbol_played_by
symbol_ok r text h = symbol_by r (san_in text) (nat_le 1 r.lines.cut) (nat_lt 32 (length text)) (list_all is_printable (san_in text)) h

-- ---- lines

LineOk : Plain → Result Lines LineFault → Type 0
LineOk f (Ok l) = Known f l.path l.begun l.waiting
LineOk f (Err fault) = IsListed (stop.Taking (reason.Line fault))

whole_path : (path : List ℕ) → 0 < length path → take (length path - 1) (take (length path - 1) path) ++ slice_index path (length path - 1) ∷ [] ≡ path
whole_path path some =
    let up : length path - 1 + 1 ≡ length path = omega arith in
    ap (λ (t : List ℕ). t ++ slice_index path (length path - 1) ∷ []) (take-take (length path - 1) (length path - 1) path (omega arith))
    ∙ sym (take_more path (length path - 1) 0 (omega arith)) ∙ ap (λ n. take n path) up ∙ take_all (length path) path (omega arith)

varied_ok : (f : Plain) (l : Lines) → l.begun < length l.path → Known f l.path l.begun l.waiting → LineOk f (Ok (lines_in_variation l))
unfolding LineOk Known
varied_ok f l lt h =
    let known = here f l.path l.begun l.waiting h in
    let back = whole_path l.path (omega arith) in (
      prefix_node f (length l.path - 1) l.path known.0,
      omega (arith, length-take (length l.path - 1) l.path),
      subst (λ (p : List ℕ). Known f p l.begun l.waiting) (sym back) h,
    )

begin_by : (f : Plain) (l : Lines) (cut bare full : Bool) (cut_on : Lines) → nat_le (length l.path) l.begun ≡ bare → Known f l.path l.begun l.waiting
    → Known f cut_on.path cut_on.begun cut_on.waiting
    → LineOk f (if cut then Ok cut_on else (if bare then Err line_fault.NoMoveBefore else
    (if full then Err line_fault.TooNested else Ok (lines_in_variation l))))
unfolding LineOk
begin_by f l true bare full cut_on e h k = k
begin_by f l false true full cut_on e h k = tt
begin_by f l false false true cut_on e h k = tt
begin_by f l false false false cut_on e h k = varied_ok f l (leb-false (length l.path) l.begun e) h

begin_ok : (f : Plain) (l : Lines) → Known f l.path l.begun l.waiting → LineOk f (begin_line l)
unfolding begin_line
begin_ok f l h = begin_by f l (nat_le 1 l.cut) (nat_le (length l.path) l.begun) (nat_le 256 (length l.waiting)) _ refl h h

resumed_ok : (f : Plain) (l : Lines) (ws : List Waiting) → Known f l.path l.begun ws → LineOk f (lines_after_variation l ws)
unfolding LineOk Known
resumed_ok f l [] h = tt
resumed_ok f l (w ∷ ws) h = h.2

end_by : (f : Plain) (deep : Bool) (x y : Result Lines LineFault) → LineOk f x → LineOk f y → LineOk f (if deep then x else y)
end_by f true x y h k = h
end_by f false x y h k = k

end_ok : (f : Plain) (l : Lines) → Known f l.path l.begun l.waiting → LineOk f (end_line l)
unfolding end_line LineOk
end_ok f l h = end_by f (nat_le 2 l.cut) _ (lines_after_variation l l.waiting) h (resumed_ok f l l.waiting h)

-- ---- tokens

TakenOk : Result Taken Reason → Type 0
TakenOk (Ok t) = IsPlaced t.reading
TakenOk (Err why) = IsListed (stop.Taking why)

line_taken : (r : Reading) (x : Result Lines LineFault) → LineOk r.study.tree.below x → TakenOk (on_line r x)
unfolding LineOk TakenOk IsPlaced
line_taken r (Ok l) h = h
line_taken r (Err fault) h = h

move_taken : (x : Result Reading MoveFault) → ReadOk x → TakenOk (on_move x)
unfolding ReadOk TakenOk
move_taken (Ok r) h = h
move_taken (Err fault) h = h

-- in the main line a null move is a fault
null_taken : (r : Reading) (main : Bool) → IsPlaced r
    → TakenOk (if main then Err reason.NullMove else going_on (record { study = r.study; lines = cut_line r.lines; inserts = r.inserts }))
unfolding TakenOk IsPlaced
null_taken r true h = tt
null_taken r false h = h

symbol_taken : (r : Reading) (text : List ℕ) (said : Said) → IsPlaced r → TakenOk (taken_symbol r text said)
unfolding TakenOk IsPlaced
symbol_taken r text say.Number h = h
symbol_taken r text (say.Result outcome) h = h
symbol_taken r text say.NullMove h = null_taken r (length r.lines.waiting == 0) h
symbol_taken r text say.Passing h = h
symbol_taken r text say.Aside h = h
symbol_taken r text say.Word h = h
symbol_taken r text say.Move h = move_taken (symbol_played r text) (symbol_ok r text h)

sign_taken : (r : Reading) (is_null : Bool) → IsPlaced r → TakenOk (taken_sign r is_null)
unfolding TakenOk IsPlaced
sign_taken r true h = null_taken r (length r.lines.waiting == 0) h
sign_taken r false h = h

token_taken : (r : Reading) (token : Token) → IsPlaced r → TakenOk (after_token r token)
unfolding TakenOk IsPlaced
token_taken r blank h = h
token_taken r aside h = h
token_taken r (comment text) h = h
token_taken r (rest text) h = h
token_taken r opening h = line_taken r (begin_line r.lines) (begin_ok r.study.tree.below r.lines h)
token_taken r closing h = line_taken r (end_line r.lines) (end_ok r.study.tree.below r.lines h)
token_taken r star h = h
token_taken r (tag name value) h = tt
token_taken r (sign text) h = sign_taken r (bytes_eq text (codes "--")) h
token_taken r (symbol text) h = symbol_taken r text (said_of text) h

IsListedOr : Option Reason → Type 0
IsListedOr None = Unit {0}
IsListedOr (Some why) = IsListed (stop.Taking why)

GameOk : Result GameTaken Reason → Type 0
GameOk (Ok t) = IsPlaced t.game.reading
GameOk (Err why) = IsListed (stop.Taking why)

noted_ok : (n : Notes) (x : Result Taken Reason) → TakenOk x → GameOk (noted_on n x)
unfolding TakenOk GameOk
noted_ok n (Ok t) h = h
noted_ok n (Err why) h = h

game_by : (g : GameRead) (x : Result GameTaken Reason) (in_header : Bool) → IsPlaced g.reading → GameOk x
    → GameOk (if in_header then Ok (record { game = g; ended = false }) else x)
unfolding GameOk
game_by g x true h k = h
game_by g x false h k = k

word_misplaced : (n : Notes) (cut : Bool) (said : Said) → IsListedOr (said_misplaced n cut said)
unfolding IsListedOr
word_misplaced n cut say.Word = first n.before_moves
  where
    first : (b : Bool) → IsListedOr (if b then Some (reason.Move (move_fault.San NotSan)) else None)
    first true = tt
    first false = tt
word_misplaced n cut say.Move = behind (n.behind_word && not cut)
  where
    behind : (b : Bool) → IsListedOr (if b then Some reason.BehindWord else None)
    behind true = tt
    behind false = tt
word_misplaced n cut say.Number = tt
word_misplaced n cut (say.Result outcome) = tt
word_misplaced n cut say.NullMove = tt
word_misplaced n cut say.Passing = tt
word_misplaced n cut say.Aside = tt

token_misplaced : (n : Notes) (cut : Bool) (token : Token) → IsListedOr (misplaced n cut token)
unfolding IsListedOr
token_misplaced n cut (symbol text) = word_misplaced n cut (said_of text)
token_misplaced n cut blank = tt
token_misplaced n cut aside = tt
token_misplaced n cut (comment text) = tt
token_misplaced n cut (rest text) = tt
token_misplaced n cut opening = tt
token_misplaced n cut closing = tt
token_misplaced n cut star = tt
token_misplaced n cut (tag name value) = tt
token_misplaced n cut (sign text) = tt

placed_ok : (why : Option Reason) (t : Result Taken Reason) → IsListedOr why → TakenOk t → TakenOk (placed_or why t)
unfolding IsListedOr TakenOk
placed_ok None t h k = k
placed_ok (Some why) t h k = h

signs_ok : (token : Token) (x : Result GameTaken Reason) → GameOk x → GameOk (signs_noted token x)
unfolding GameOk
signs_ok token (Ok t) h = h
signs_ok token (Err why) h = h

game_ok : (g : GameRead) (token : Token) → IsPlaced g.reading → GameOk (game_taken g token)
game_ok g token h =
    let cut = nat_le 1 g.reading.lines.cut in
    let noted = with_token g.notes cut (not (length g.reading.lines.waiting == 0)) token in
    let placed = placed_or (misplaced g.notes cut token) (after_token g.reading token) in
    game_by g (signs_noted token (noted_on noted placed)) (is_header_tag g.notes token) h
    (signs_ok token (noted_on noted placed) (noted_ok noted placed
    (placed_ok (misplaced g.notes cut token) (after_token g.reading token) (token_misplaced g.notes cut token) (token_taken g.reading token h))))

-- ---- a game

abbrev Placed : GameRead → Type 0
Placed g = IsPlaced g.reading

step : (g : GameRead) (token : Token) (t : GameTaken) → Placed g → game_taken g token ≡ Ok t → Placed t.game
unfolding GameOk
step g token t h e = subst GameOk e (game_ok g token h)

taking : (g : GameRead) (token : Token) (why : Reason) → Placed g → game_taken g token ≡ Err why → IsListed (stop.Taking why)
unfolding GameOk
taking g token why h e = subst GameOk e (game_ok g token h)

at_root : (start : Start) → Placed (no_moves start)
unfolding IsPlaced Known
at_root start = (refl, omega arith)

pub listed : AreListed
unfolding game_read
listed text start fault e =
    stops_at_end IsListed tt (read_moves (length text) true text (no_moves start)) fault
    (λ f is. stops few_men Placed (λ g s h. h) step IsListed tt (λ why. tt) tt taking (length text) true text (no_moves start) f (at_root start) is) e
