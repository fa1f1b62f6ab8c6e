-- The lines of a study in remarks, and the headings of its tails, have no command.
use Rattle.std.proofs.Common.{◌≡◌, ℕ, zero, suc, ◌+◌, ◌<◌, ◌≤◌, Bool, true, false, List, [], ◌∷◌, ◌++◌, length, Option, Some, None, refl, sym, ap, subst, ◌∙◌}
use Rattle.std.proofs.Common.{arith, length-append, append_assoc, append-nil, map}
use Rattle.std.proofs.lemmas.List.{map-append}
use Rattle.std.proofs.lemmas.Grind.{flat_map-append}
use Rattle.std.specs.Prelude.{codes, decimal}
use Rattle.std.specs.List.{flat_map, AllByRecursion}
use Rattle.std.proofs.lemmas.Fmt.{length-decimal-le}
use Rattle.study_text.specs.Paths.{path_text}
use Rattle.study_board.specs.declared.men.Side.{Side}
use Rattle.study_board.specs.declared.men.Side.TheVariants.{White, Black}
use Rattle.study_moves.specs.declared.moves.Move.{Move}
use Rattle.study_tree.specs.Forest.{none, more, nodes_in}
use Rattle.study_tree.specs.Edits.{IsWithin, has_node}
use Rattle.study_tree.specs.Tree.{size_of}
use Rattle.study_tree.proofs.TreeDepth.{within-length}
use Rattle.study_marks.specs.declared.stipulation.Goal.{Goal}
use Rattle.study_marks.specs.declared.stipulation.Goal.TheVariants.{Win, Draw, MateIn}
use Rattle.study_marks.specs.declared.tag.TagName.{TagName}
use Rattle.study_marks.specs.declared.tag.TagName.TheVariants as named
use Rattle.study_marks.specs.Study.{tag_name}
use Rattle.study_wide.specs.Wide.{Wide, IsWide}
use Rattle.study_wide.specs.Rules.{is_wide_legal, wide_after}
use Rattle.study_wide_text.specs.declared.start.WideStart.{WideStart}
use Rattle.study_wide_text.specs.Fen.{wide_fen_text}
use Rattle.study_wide_text.specs.SanSpelling.{wide_move_text}
use Rattle.study_games.specs.Header.{Pair, value_of}
use Rattle.study_tails.specs.declared.blocks.LastMove.{LastMove}
use Rattle.study_tails.specs.declared.blocks.Heading.{Heading}
use Rattle.study_tails.specs.declared.tails.LeftOut.{LeftOut}
use Rattle.study_tails.specs.declared.tails.LeftOut.TheVariants.{NoTail, MateIsDue, NumbersAbove9999}
use Rattle.study_tails.specs.Study.{Moves, WideStudy, IsWidePlayable}
use Rattle.study_tails.specs.Lines.{position_line, stipulation_line, tag_line, line_of_tag, tag_lines, insert_line, insert_lines, head_lines, study_lines, six_names}
use Rattle.study_tails.specs.Blocks.{last_from, dots, last_words, beside_words, twin_words, reason_words, node_words}
use Rattle.study_import.specs.Blocks.{tag_value_text}
use Rattle.study_import.specs.Meant.{tag_texts}
use Rattle.study_import.proofs.CommandLines.{stipulate_words, insert_words, tag_words, remark_asked}
use Rattle.study_import.proofs.Ink.{Print}
use Rattle.study_import.proofs.Remarks.{IsRemark, fed, AreLines, each_append, IsPart, joined, wider, number_part, remark_line, tag_part, shown_ink}
use Rattle.study_import.proofs.Soundness.{shown_print, text_of, tag_lines as tag_lines_of}
use Rattle.study_import.proofs.Spelling.{IsShort}
use Rattle.study_import.proofs.TagsTrimmed.{text_prints, text_few}
use Rattle.study_import.proofs.WideRebuilt.{Told, moves_told}
use Rattle.study_import.proofs.WidePaths.{nodes_along, along_few, path_ink, path_few}
use Rattle.study_import.proofs.WideSound.{wide_sound, IsSoundStart, last_sound}
use Rattle.study_import.proofs.WideTexts.{wide_fen_is, wide_move_short}

printed_part : (n : ℕ) (t : List ℕ) → Print t → length t ≤ n → IsPart n t
printed_part n t h few = record { shown = shown_print t h; few = few }

inked_part : (n : ℕ) (t : List ℕ) → IsShort n t → IsPart n t
inked_part n t h = record { shown = shown_ink t h.ink; few = h.few }

-- ---- the study in remarks

-- a text, and its lines, none of which has a command
pub record Remarked (t : List ℕ) (lines : List (List ℕ)) : Type 0 where
  pub text : t ≡ flat_map fed lines
  pub each : AllByRecursion IsRemark lines

one_remark : (t line : List ℕ) → t ≡ fed line → IsRemark line → Remarked t (line ∷ [])
one_remark t line e h = record { text = e ∙ sym (append-nil (fed line)); each = (h, tt) }

both_remarked : (s t : List ℕ) (xs ys : List (List ℕ)) → Remarked s xs → Remarked t ys → Remarked (s ++ t) (xs ++ ys)
both_remarked s t xs ys h k = record {
  text = ap (λ (x : List ℕ). x ++ t) h.text ∙ ap (λ (x : List ℕ). flat_map fed xs ++ x) k.text ∙ sym (flat_map-append fed xs ys);
  each = each_append IsRemark xs ys h.each k.each;
}

-- a line of the study, behind `#> `
abbrev pub told : List ℕ → List ℕ
told words = 35 ∷ 62 ∷ 32 ∷ words

abbrev pub position_words : WideStart → List ℕ
position_words s = codes "position" ++ (32 ∷ wide_fen_text s)

position_is : (s : WideStart) → IsSoundStart s → Remarked (position_line (codes "#> ") s) (told (position_words s) ∷ [])
unfolding position_line
position_is s h =
    let fen = wide_fen_is s h.valid h.number in
    one_remark _ (told (position_words s)) refl
    (remark_line _ (wider (11 + 300) 1000 _ (omega arith)
    (joined 11 300 (codes "> position ") (wide_fen_text s) (record { shown = refl; few = omega arith }) (printed_part 300 (wide_fen_text s) fen.prints fen.few))))

mate_part : (before : List ℕ) (n : ℕ) → IsPart 23 before → IsPart 1000 (before ++ decimal n)
mate_part before n h = wider (23 + 64) 1000 _ (omega arith) (joined 23 64 before (decimal n) h (number_part n))

stipulation_is : (hero : Side) (goal : Goal)
    → Remarked (stipulation_line (codes "#> ") (record { hero = hero; goal = goal })) (told (stipulate_words (record { hero = hero; goal = goal })) ∷ [])
unfolding stipulation_line
stipulation_is White Win =
    one_remark _ (codes "#> stipulate white win") refl (remark_line (codes "> stipulate white win") (record { shown = refl; few = omega arith }))
stipulation_is White Draw =
    one_remark _ (codes "#> stipulate white draw") refl (remark_line (codes "> stipulate white draw") (record { shown = refl; few = omega arith }))
stipulation_is White (MateIn n) =
    one_remark _ (told (stipulate_words (record { hero = White; goal = MateIn n }))) refl
    (remark_line _ (mate_part (codes "> stipulate white mate ") n (record { shown = refl; few = omega arith })))
stipulation_is Black Win =
    one_remark _ (codes "#> stipulate black win") refl (remark_line (codes "> stipulate black win") (record { shown = refl; few = omega arith }))
stipulation_is Black Draw =
    one_remark _ (codes "#> stipulate black draw") refl (remark_line (codes "> stipulate black draw") (record { shown = refl; few = omega arith }))
stipulation_is Black (MateIn n) =
    one_remark _ (told (stipulate_words (record { hero = Black; goal = MateIn n }))) refl
    (remark_line _ (mate_part (codes "> stipulate black mate ") n (record { shown = refl; few = omega arith })))

tag_is : (name : TagName) (text : List ℕ) → IsPart 60 text → Remarked (tag_line (codes "#> ") name (Some text)) (told (tag_words name text) ∷ [])
tag_is name text h =
    one_remark _ (told (tag_words name text))
    (ap (λ (t : List ℕ). codes "#> tag " ++ t) (sym (append_assoc (tag_name name) (32 ∷ text) (10 ∷ []))))
    (remark_line _ (wider (6 + (5 + (1 + 60))) 1000 _ (omega arith)
    (joined 6 (5 + (1 + 60)) (codes "> tag ") _ (record { shown = refl; few = omega arith })
    (joined 5 (1 + 60) (tag_name name) _ (tag_part name) (joined 1 60 (codes " ") text (record { shown = refl; few = omega arith }) h)))))

text_part : (tags : List Pair) (name : TagName) → IsPart 60 (text_of tags name)
text_part tags name =
    let value = value_of (tag_name name) tags in
    printed_part 60 (tag_value_text name value) (text_prints name value) (text_few name value)

tag_told : (tags : List Pair) (name : TagName)
    → Remarked (line_of_tag (codes "#> ") (tag_texts tags) name) (told (tag_words name (text_of tags name)) ∷ [])
unfolding line_of_tag
tag_told tags named.Event = tag_is named.Event _ (text_part tags named.Event)
tag_told tags named.Site = tag_is named.Site _ (text_part tags named.Site)
tag_told tags named.Date = tag_is named.Date _ (text_part tags named.Date)
tag_told tags named.Round = tag_is named.Round _ (text_part tags named.Round)
tag_told tags named.White = tag_is named.White _ (text_part tags named.White)
tag_told tags named.Black = tag_is named.Black _ (text_part tags named.Black)

tags_told : (tags : List Pair) (names : List TagName)
    → Remarked (flat_map (line_of_tag (codes "#> ") (tag_texts tags)) names) (map told (tag_lines_of tags names))
unfolding tag_lines_of
tags_told tags [] = record { text = refl; each = tt }
tags_told tags (name ∷ names) =
    both_remarked (line_of_tag (codes "#> ") (tag_texts tags) name) (flat_map (line_of_tag (codes "#> ") (tag_texts tags)) names)
    (told (tag_words name (text_of tags name)) ∷ []) (map told (tag_lines_of tags names)) (tag_told tags name) (tags_told tags names)

along_append : (ks : List ℕ) (k : ℕ) → nodes_along (ks ++ k ∷ []) ≡ nodes_along ks + (k + 1)
along_append [] k = omega arith
along_append (j ∷ ks) k = omega (arith, along_append ks k)

-- a move of the study
abbrev pub move_words : Told → List ℕ
move_words x = insert_words (path_text x.0) x.1

abbrev pub move_told : Told → List ℕ
move_told x = told (move_words x)

insert_is : (g : Wide) (at : List ℕ) (m : Move) → IsWide g → is_wide_legal g m ≡ true → length at ≤ 256 → nodes_along at < 4096
    → Remarked (insert_line (codes "#> ") g at m) (move_told (at, wide_move_text g m) ∷ [])
unfolding insert_line
insert_is g at m h legal few low =
    let san = wide_move_text g m in
    one_remark _ (move_told (at, san))
    (ap (λ (t : List ℕ). codes "#> insert " ++ t) (sym (append_assoc (path_text at) (32 ∷ san) (10 ∷ []))))
    (remark_line _ (wider (9 + (813 + (1 + 9))) 1000 _ (omega arith)
    (joined 9 (813 + (1 + 9)) (codes "> insert ") _ (record { shown = refl; few = omega arith })
    (joined 813 (1 + 9) (path_text at) _ (record { shown = shown_ink (path_text at) (path_ink at); few = path_few at few low })
    (joined 1 9 (codes " ") san (record { shown = refl; few = omega arith }) (inked_part 9 san (wide_move_short g m h legal)))))))

inserts_are : (g : Wide) (at : List ℕ) (k d : ℕ) (f : Moves) → IsWide g → IsWidePlayable g f → IsWithin d f → d + length at ≤ 256
    → nodes_along at + k + nodes_in f < 4096 → Remarked (insert_lines (codes "#> ") g at k f) (map move_told (moves_told g at k f))
unfolding moves_told
inserts_are g at k d none h p w few low = record { text = refl; each = tt }
inserts_are g at k zero (more m l b r) h p w few low = absurd w
inserts_are g at k (suc d) (more m l b r) h p w few low =
    let x = moves_told (wide_after g m) (at ++ k ∷ []) 0 b in
    let y = moves_told g at (suc k) r in
    subst (λ (ls : List (List ℕ)). Remarked (insert_lines (codes "#> ") g at k (more m l b r)) (move_told (at, wide_move_text g m) ∷ ls))
    (sym (map-append move_told x y))
    (both_remarked _ _ (move_told (at, wide_move_text g m) ∷ []) (map move_told x ++ map move_told y)
    (insert_is g at m h p.0 (omega (arith, few)) (omega (arith, low)))
    (both_remarked _ _ (map move_told x) (map move_told y)
    (inserts_are (wide_after g m) (at ++ k ∷ []) 0 d b (wide_sound g m h p.0) p.1 w.0 (omega (arith, few, length-append at (k ∷ [])))
    (omega (arith, low, along_append at k)))
    (inserts_are g at (suc k) (suc d) r h p.2 w.1 few (omega (arith, low)))))

-- the lines of a study
unfoldable pub told_lines : List Pair → WideStudy → List (List ℕ)
told_lines tags s =
    (told (position_words s.start) ∷ (told (stipulate_words s.stipulation) ∷ map told (tag_lines_of tags six_names)))
    ++ map move_told (moves_told s.start.position [] 0 s.tree.below)

pub study_remarked : (tags : List Pair) (s : WideStudy) → IsSoundStart s.start → IsWidePlayable s.start.position s.tree.below → IsWithin 256 s.tree.below
    → size_of s.tree ≤ 4096 → s.tags ≡ tag_texts tags → Remarked (study_lines (codes "#> ") s) (told_lines tags s)
unfolding study_lines head_lines told_lines
study_remarked tags s h p w few e =
    let tagged = map told (tag_lines_of tags six_names) in
    let head : Remarked (tag_lines (codes "#> ") s.tags) tagged =
    subst (λ (ts : List (Option (List ℕ))). Remarked (tag_lines (codes "#> ") ts) tagged) (sym e) (tags_told tags six_names) in
    both_remarked _ _ (told (position_words s.start) ∷ (told (stipulate_words s.stipulation) ∷ tagged)) _
    (both_remarked _ _ (told (position_words s.start) ∷ []) (told (stipulate_words s.stipulation) ∷ tagged) (position_is s.start h)
    (both_remarked _ _ (told (stipulate_words s.stipulation) ∷ []) tagged (stipulation_is s.stipulation.hero s.stipulation.goal) head))
    (inserts_are s.start.position [] 0 256 s.tree.below h.valid p w (omega arith) (omega (arith, few)))

pub study_told : (tags : List Pair) (s : WideStudy) → IsSoundStart s.start → IsWidePlayable s.start.position s.tree.below → IsWithin 256 s.tree.below
    → size_of s.tree ≤ 4096 → s.tags ≡ tag_texts tags → AreLines IsRemark (study_lines (codes "#> ") s)
study_told tags s h p w few e =
    let r = study_remarked tags s h p w few e in record { lines = told_lines tags s; each = r.each; text = r.text }

-- ---- the heading of a tail

dots_part : (side : Side) → IsPart 4 (dots side)
dots_part White = record { shown = refl; few = omega arith }
dots_part Black = record { shown = refl; few = omega arith }

last_part : (s : WideStudy) (path : List ℕ) (o : Option LastMove) → IsSoundStart s.start → IsWidePlayable s.start.position s.tree.below
    → last_from s.start s.tree.below path ≡ o → IsPart 18 (last_words o)
last_part s path None h p e = record { shown = refl; few = omega arith }
last_part s path (Some m) h p e =
    let l = last_sound s.start s.tree.below path m h p e in
    let few = l.0.number in
    joined 5 (4 + 9) (decimal m.start.number) _
    (record { shown = (number_part m.start.number).shown; few = length-decimal-le 5 m.start.number (omega arith) (omega (arith, few)) (omega arith) })
    (joined 4 9 (dots m.start.position.board.to_move) (wide_move_text m.start.position m.played) (dots_part m.start.position.board.to_move)
    (inked_part 9 (wide_move_text m.start.position m.played) (wide_move_short m.start.position m.played l.0.valid l.1)))

small_number : (n : ℕ) → n ≤ 255 → IsPart 3 (decimal n)
small_number n h = record { shown = (number_part n).shown; few = length-decimal-le 3 n (omega arith) (omega (arith, h)) (omega arith) }

beside_part : (b : Bool) → IsPart 21 (beside_words b)
beside_part true = record { shown = refl; few = omega arith }
beside_part false = record { shown = refl; few = omega arith }

abbrev pub IsTwin : Option ℕ → Type 0
IsTwin None = Unit {0}
IsTwin (Some n) = n ≤ 255

twin_part : (o : Option ℕ) → IsTwin o → IsPart 26 (twin_words o)
twin_part None h = record { shown = refl; few = omega arith }
twin_part (Some n) h = joined 23 3 (codes ", the position of tail ") (decimal n) (record { shown = refl; few = omega arith }) (small_number n h)

-- a node of the study that a heading names
pub record IsTold (s : WideStudy) (path : List ℕ) : Type 0 where
  pub begins : IsSoundStart s.start
  pub playable : IsWidePlayable s.start.position s.tree.below
  pub shallow : IsWithin 256 s.tree.below
  pub few : size_of s.tree ≤ 4096
  pub found : has_node s.tree.below path ≡ true

node_part : (s : WideStudy) (path : List ℕ) → IsTold s path → IsPart (7 + (813 + (8 + 18))) (node_words s path)
node_part s path t =
    let along = along_few s.tree.below path t.found in
    let few = t.few in
    let short = path_few path (within-length 256 s.tree.below path t.shallow t.found) (omega (arith, along, few)) in
    joined 7 (813 + (8 + 18)) (codes ", node ") _ (record { shown = refl; few = omega arith })
    (joined 813 (8 + 18) (path_text path) _ (record { shown = shown_ink (path_text path) (path_ink path); few = short })
    (joined 8 18 (codes ", after ") _ (record { shown = refl; few = omega arith })
    (last_part s path (last_from s.start s.tree.below path) t.begins t.playable refl)))

-- the heading without its first byte
abbrev pub rest_of_place : Heading → List ℕ
rest_of_place h = codes "! tail " ++ (decimal h.number ++ (codes " of " ++ (decimal h.count ++ (codes " of game " ++ decimal h.game))))

place_part : (h : Heading) → h.number ≤ 255 → h.count ≤ 255 → IsPart (7 + (3 + (4 + (3 + (9 + 64))))) (rest_of_place h)
place_part h number count =
    joined 7 (3 + (4 + (3 + (9 + 64)))) (codes "! tail ") _ (record { shown = refl; few = omega arith })
    (joined 3 (4 + (3 + (9 + 64))) (decimal h.number) _ (small_number h.number number)
    (joined 4 (3 + (9 + 64)) (codes " of ") _ (record { shown = refl; few = omega arith })
    (joined 3 (9 + 64) (decimal h.count) _ (small_number h.count count)
    (joined 9 64 (codes " of game ") (decimal h.game) (record { shown = refl; few = omega arith }) (number_part h.game)))))

abbrev pub heading : WideStudy → Heading → List ℕ → Bool → Option ℕ → List ℕ
heading s h path beside twin = rest_of_place h ++ (node_words s path ++ (beside_words beside ++ twin_words twin))

pub heading_part : (s : WideStudy) (h : Heading) (path : List ℕ) (beside : Bool) (twin : Option ℕ) → IsTold s path → h.number ≤ 255 → h.count ≤ 255
    → IsTwin twin → IsPart 983 (heading s h path beside twin)
heading_part s h path beside twin t number count one =
    joined 90 (846 + (21 + 26)) (rest_of_place h) _ (place_part h number count)
    (joined 846 (21 + 26) (node_words s path) _ (node_part s path t)
    (joined 21 26 (beside_words beside) (twin_words twin) (beside_part beside) (twin_part twin one)))

pub reason_part : (why : LeftOut) → IsPart 30 (codes ": left out: " ++ reason_words why)
reason_part NoTail = record { shown = refl; few = omega arith }
reason_part MateIsDue = record { shown = refl; few = omega arith }
reason_part NumbersAbove9999 = record { shown = refl; few = omega arith }

pub long_remark : (t : List ℕ) → IsPart 1023 t → IsRemark (35 ∷ t)
long_remark t h = record { fits = record { shown = h.shown; few = omega (arith, h.few) }; silent = remark_asked t }
