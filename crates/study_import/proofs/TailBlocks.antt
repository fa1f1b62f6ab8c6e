-- The block of a game with more men: its study in remarks, and the parts of its tails.
use Rattle.std.proofs.Common.{◌≡◌, ℕ, suc, ◌+◌, ◌≤◌, Bool, true, false, List, [], ◌∷◌, ◌++◌, length, map, Option, Some, None, Result, Ok, Err, refl}
use Rattle.std.proofs.Common.{sym, ap, subst, ◌∙◌, arith, length-append, append_assoc, append-nil}
use Rattle.std.specs.Prelude.{◌==◌, ◌||◌, cond, is_some, is_ok, nat_lt, codes, count_by, if◌then◌else◌}
use Rattle.std.specs.List.{All, Contains, AllByRecursion, flat_map, fold}
use Rattle.std.proofs.lemmas.Bool.{eqb-false, ltb-false}
use Rattle.std.proofs.lemmas.List.Elements.{All-nil, All-cons, All-head, All-tail, All-contains_itself, All-from_recursion}
use Rattle.study_board.specs.Position.{Position}
use Rattle.study_tree.specs.Edits.{has_node}
use Rattle.study_marks.specs.declared.stipulation.Stipulation.{Stipulation}
use Rattle.study_marks.specs.declared.tag.TagName.{TagName}
use Rattle.study_marks.specs.declared.tag.TagName.TheVariants as named
use Rattle.study_marks.specs.Study.{tag_name}
use Rattle.study_marks.specs.BenchState.{IsTag}
use Rattle.study_marks.specs.Edits.{PlainStudy}
use Rattle.study_wide_text.specs.declared.start.WideStart.{WideStart}
use Rattle.study_games.specs.Header.{Pair, tags_of, value_of}
use Rattle.study_reading.specs.declared.aims.Aim.{Aim}
use Rattle.study_tails.specs.declared.tails.LeftOut.{LeftOut}
use Rattle.study_tails.specs.declared.blocks.Heading.{Heading}
use Rattle.study_tails.specs.declared.blocks.GameLeftOut.{GameLeftOut}
use Rattle.study_tails.specs.declared.blocks.GameLeftOut.TheVariants.{NeverFourMen, RightsToTheEnd, TooManyTails}
use Rattle.study_tails.specs.Study.{WideStudy, node_at, IsWidePlayable}
use Rattle.study_tails.specs.Tails.{is_beside, tails, tail}
use Rattle.study_tails.specs.Lines.{study_lines as tail_lines}
use Rattle.study_tails.specs.Blocks.{small_of, is_same, twin_among, beside_words, twin_words, reason_words, place_words, node_words, body_text}
use Rattle.study_tails.specs.Blocks.{block_text, blocks_text, wide_text, has_four, gets_to_four, game_reason}
use Rattle.study_tails.proofs.Nodes.{node_has}
use Rattle.study_tails.proofs.TailsFound.{tails_small}
use Rattle.study_import.specs.Blocks.{Entry, Reported, left_out, head_line, remark_lines, tails_block, no_tails_words, six_names}
use Rattle.study_import.specs.Blocks.{with_tags, wide_study, studies_among}
use Rattle.study_import.specs.Meant.{tag_texts, tail_study}
use Rattle.study_import.specs.Laws.{IsCounted, IsPart as IsPartOf, AreParts}
use Rattle.study_import.proofs.Remarks.{IsRemark, AreLines, one_line, more_lines, empty_line, joined, wider, number_part, head_remark, remarks_are, left_out_is}
use Rattle.study_import.proofs.Soundness.{Spelled, both, before, remarks_spelled, all_silent, below_remarks, AreSix, Reads, parts_below}
use Rattle.study_import.proofs.TagsTaken.{text_taken}
use Rattle.study_import.proofs.TailRead.{IsWhole, tail_rest, lines_of_tail, tail_spelled, tail_part}
use Rattle.study_import.proofs.WideGathered.{IsGathered}
use Rattle.study_import.proofs.WideLines.{study_told, IsTwin, IsTold, heading, heading_part, reason_part, long_remark}
use Rattle.study_import.proofs.WideSound.{IsSoundStart}

-- ---- the study with its stipulation and its tags

abbrev no_tags : List (Option (List ℕ))
no_tags = None ∷ None ∷ None ∷ None ∷ None ∷ None ∷ []

completed : (tags : List Pair) (aim : Stipulation) (start : WideStart) (s : WideStudy) → IsGathered start s
    → wide_study tags aim s ≡ record { start = start; stipulation = aim; tags = tag_texts tags; tree = s.tree }
unfolding wide_study
completed tags aim start s h =
    ap (λ (x : WideStart). with_tags tags six_names (record { start = x; stipulation = aim; tags = s.tags; tree = s.tree })) h.begins
    ∙ ap (λ (ts : List (Option (List ℕ))). with_tags tags six_names (record { start = start; stipulation = aim; tags = ts; tree = s.tree })) h.tags

printed : (tags : List Pair) → All IsTag (tag_texts tags)
printed tags =
    let one = λ (name : TagName). text_taken name (value_of (tag_name name) tags) in
    All-from_recursion IsTag (tag_texts tags)
    (one named.Event, (one named.Site, (one named.Date, (one named.Round, (one named.White, (one named.Black, tt))))))

pub whole : (tags : List Pair) (aim : Stipulation) (start : WideStart) (s : WideStudy) → IsGathered start s → IsSoundStart start → IsCounted aim.goal
    → IsWhole tags (wide_study tags aim s)
whole tags aim start s h sound counted =
    let playable = subst (λ (x : WideStart). IsWidePlayable x.position s.tree.below) h.begins h.playable in
    subst (IsWhole tags) (sym (completed tags aim start s h))
    (record {
      study = record { sound = sound.valid; playable = playable; distinct = h.distinct; printed = printed tags };
      shallow = h.shallow;
      few = h.few;
      begins = sound;
      titled = refl;
      counted = counted;
    })

-- ---- the part of a tail

-- the lines of a text, which are the parts for these studies
record Parts (text : List ℕ) (os : List (Option PlainStudy)) : Type 0 where
  lines : List (List ℕ)
  spelled : Spelled text lines
  parts : AreParts os lines
  six : AreSix os

module _ (e : Entry) (s : WideStudy) (w : IsWhole (tags_of e.text) s) where
  told : (path : List ℕ) → has_node s.tree.below path ≡ true → IsTold s path
  told path h = record { begins = w.begins; playable = w.study.playable; shallow = w.shallow; few = w.few; found = h }

  -- the text of a heading, and what stands behind it
  cut_heading : (h : Heading) (path : List ℕ) (beside : Bool) (twin : Option ℕ) (body : List ℕ)
      → place_words h ++ (node_words s path ++ (beside_words beside ++ (twin_words twin ++ body))) ≡ (35 ∷ heading s h path beside twin) ++ body
  cut_heading h path beside twin body =
      ap (λ (x : List ℕ). place_words h ++ (node_words s path ++ x)) (sym (append_assoc (beside_words beside) (twin_words twin) body))
      ∙ ap (λ (x : List ℕ). place_words h ++ x) (sym (append_assoc (node_words s path) (beside_words beside ++ twin_words twin) body))
      ∙ sym (append_assoc (place_words h) (node_words s path ++ (beside_words beside ++ twin_words twin)) body)

  headed : (line text : List ℕ) (lines : List (List ℕ)) → IsRemark line → Spelled text lines → Spelled (line ++ (codes "\n" ++ text)) (line ∷ lines)
  headed line text lines h k =
      subst (λ (t : List ℕ). Spelled t (line ∷ lines)) (append_assoc line (codes "\n") text)
      (before (line ++ codes "\n") text line lines refl h.fits k)

  tail_parts : (h : Heading) (path : List ℕ) (beside : Bool) (twin : Option ℕ) (r : Result PlainStudy LeftOut) → has_node s.tree.below path ≡ true
      → h.number ≤ 255 → h.count ≤ 255 → IsTwin twin → tail s path ≡ r
      → Parts (place_words h ++ (node_words s path ++ (beside_words beside ++ (twin_words twin ++ body_text r)))) (tail_study r ∷ [])
  tail_parts h path beside twin (Ok u) found number count one is =
      let rest = tail_rest (tags_of e.text) s path u w is in
      let line = 35 ∷ heading s h path beside twin in
      let remark = long_remark (heading s h path beside twin)
      (wider 983 1023 _ (omega arith) (heading_part s h path beside twin (told path found) number count one)) in
      let lines = lines_of_tail e u in
      record {
        lines = line ∷ lines;
        spelled = subst (λ (t : List ℕ). Spelled t (line ∷ lines)) (sym (cut_heading h path beside twin (body_text (Ok u))))
            (headed line _ lines remark (tail_spelled e u rest));
        parts = (line ∷ lines, [], sym (append-nil (line ∷ lines)), below_remarks u (line ∷ []) lines (remark, tt) (tail_part e u rest), refl);
        six = (ap length rest.titled, tt);
      }
  tail_parts h path beside twin (Err why) found number count one is =
      let line = 35 ∷ (heading s h path beside twin ++ (codes ": left out: " ++ reason_words why)) in
      let remark = long_remark _
      (wider (983 + 30) 1023 _ (omega arith)
      (joined 983 30 (heading s h path beside twin) _ (heading_part s h path beside twin (told path found) number count one) (reason_part why))) in
      let lines = line ∷ [] ∷ [] in
      let all : AreLines IsRemark (line ++ codes "\n\n") = record { lines = lines; each = (remark, (empty_line, tt)); text = two_lines line } in
      record {
        lines = lines;
        spelled = subst (λ (t : List ℕ). Spelled t lines)
            (sym (cut_heading h path beside twin (body_text (Err why)) ∙ left_line (35 ∷ heading s h path beside twin) (codes ": left out: ") (reason_words why)))
            (remarks_spelled (line ++ codes "\n\n") all);
        parts = (lines, [], refl, all_silent lines (remark, (empty_line, tt)), refl);
        six = tt;
      }
    where
      two_lines : (line : List ℕ) → line ++ codes "\n\n" ≡ flat_map (λ l. l ++ 10 ∷ []) (line ∷ [] ∷ [])
      two_lines line = sym (append_assoc line (10 ∷ []) (10 ∷ []))

      left_line : (a b c : List ℕ) → a ++ (b ++ (c ++ codes "\n\n")) ≡ (a ++ (b ++ c)) ++ codes "\n\n"
      left_line a b c = ap (λ (x : List ℕ). a ++ x) (sym (append_assoc b c (codes "\n\n"))) ∙ sym (append_assoc a (b ++ c) (codes "\n\n"))

  -- ---- all tails

  twin_low : (p : Option Position) (k : ℕ) (ts : List (List ℕ)) → k + length ts ≤ 256 → IsTwin (twin_among s p k ts)
  twin_low p k [] h = tt
  twin_low p k (t ∷ ts) h = go (is_same (small_of (node_at s t)) p) (twin_low p (suc k) ts (omega arith))
    where
      go : (b : Bool) → IsTwin (twin_among s p (suc k) ts) → IsTwin (if b then Some k else twin_among s p (suc k) ts)
      go true later = omega arith
      go false later = later

  blocks_parts : (game count : ℕ) (earlier later : List (List ℕ)) → count ≤ 255 → length earlier + length later ≤ 255
      → All (λ t. has_node s.tree.below t ≡ true) later
      → Parts (blocks_text s game count earlier later) (map (λ t. tail_study (tail s t)) later)
  unfolding block_text
  blocks_parts game count earlier [] low few all = record { lines = []; spelled = record { text = refl; each = tt }; parts = refl; six = tt }
  blocks_parts game count earlier (t ∷ ts) low few all =
      let h : Heading = record { number = length earlier + 1; count = count; game = game } in
      let here = tail_parts h t (is_beside s t) (twin_among s (small_of (node_at s t)) 1 earlier) (tail s t)
      (All-head (λ x. has_node s.tree.below x ≡ true) t ts all) (omega arith) low (twin_low (small_of (node_at s t)) 1 earlier (omega arith)) refl in
      let later = blocks_parts game count (earlier ++ t ∷ []) ts low (omega (arith, length-append earlier (t ∷ [])))
      (All-tail (λ x. has_node s.tree.below x ≡ true) t ts all) in
      record {
        lines = here.lines ++ later.lines;
        spelled = both (block_text s h earlier t) (blocks_text s game count (earlier ++ t ∷ []) ts) here.lines later.lines here.spelled later.spelled;
        parts = (here.lines, later.lines, refl, first_part (tail_study (tail s t)) here.lines here.parts, later.parts);
        six = six_more (tail_study (tail s t)) (map (λ x. tail_study (tail s x)) ts) here.six later.six;
      }
    where
      first_part : (o : Option PlainStudy) (lines : List (List ℕ)) → AreParts (o ∷ []) lines → IsPartOf o lines
      first_part o lines (first, rest, cut, part, none) =
          subst (IsPartOf o) (sym (cut ∙ ap (λ (r : List (List ℕ)). first ++ r) none ∙ append-nil first)) part

      six_more : (o : Option PlainStudy) (os : List (Option PlainStudy)) → AreSix (o ∷ []) → AreSix os → AreSix (o ∷ os)
      six_more None os h k = k
      six_more (Some u) os h k = (h.0, k)

  all_nodes : (ts : List (List ℕ)) → All (Contains (tails s)) ts → All (λ t. has_node s.tree.below t ≡ true) ts
  all_nodes [] h = All-nil (λ t. has_node s.tree.below t ≡ true)
  all_nodes (t ∷ ts) h =
      let n = tails_small s t (All-head (Contains (tails s)) t ts h) in
      All-cons (λ x. has_node s.tree.below x ≡ true) t ts (node_has s.start s.tree.below t n.0 n.1) (all_nodes ts (All-tail (Contains (tails s)) t ts h))

  -- ---- the block of the game

  counts_from : (n : ℕ) (ts : List (List ℕ))
      → fold (λ a t. a + cond (is_ok (tail s t)) 1 0) n ts ≡ fold (λ a o. a + cond (is_some o) 1 0) n (map (λ t. tail_study (tail s t)) ts)
  counts_from n [] = refl
  counts_from n (t ∷ ts) = go (tail s t) (λ k. counts_from k ts)
    where
      go : (r : Result PlainStudy LeftOut)
          → ((k : ℕ) → fold (λ a x. a + cond (is_ok (tail s x)) 1 0) k ts ≡ fold (λ a o. a + cond (is_some o) 1 0) k (map (λ x. tail_study (tail s x)) ts))
          → fold (λ a x. a + cond (is_ok (tail s x)) 1 0) (n + cond (is_ok r) 1 0) ts
          ≡ fold (λ a o. a + cond (is_some o) 1 0) (n + cond (is_some (tail_study r)) 1 0) (map (λ x. tail_study (tail s x)) ts)
      go (Ok u) f = f (n + 1)
      go (Err why) f = f (n + 0)

  counts_same : (ts : List (List ℕ)) → studies_among s ts ≡ count_by is_some (map (λ t. tail_study (tail s t)) ts)
  counts_same ts = counts_from 0 ts

  pub tails_reads : (aim : Aim) (t : Reported) → 1 ≤ length (tails s) → length (tails s) ≤ 255
      → Reads (tails_block e aim t s) (map (λ path. tail_study (tail s path)) (tails s))
  unfolding tails_block wide_text
  tails_reads aim t some few =
      let head = head_remark e aim in
      let remarks = remarks_are e t in
      let study = study_told (tags_of e.text) s w.begins w.study.playable w.shallow w.few w.titled in
      let empty : AreLines IsRemark (codes "\n") = one_line IsRemark (codes "\n") [] refl empty_line in
      let above = more_lines IsRemark _ _ head (more_lines IsRemark _ _ remarks (more_lines IsRemark _ _ study empty)) in
      let p = blocks_parts e.number (length (tails s)) [] (tails s) few (omega (arith, few))
      (all_nodes (tails s) (All-contains_itself (tails s))) in
      let text = blocks_text s e.number (length (tails s)) [] (tails s) in
      let lines = above.lines ++ p.lines in
      record {
        studies = counts_same (tails s);
        lines = lines;
        spelled = subst (λ (x : List ℕ). Spelled x lines) (regrouped (head_line e aim) (remark_lines e t) (tail_lines (codes "#> ") s) (codes "\n") text)
            (both _ text above.lines p.lines (remarks_spelled _ above) p.spelled);
        parts = all_below (tails s) above.lines p.lines some above.each p.parts;
        six = p.six;
      }
    where
      regrouped : (a b c d x : List ℕ) → (a ++ (b ++ (c ++ d))) ++ x ≡ a ++ (b ++ (c ++ (d ++ x)))
      regrouped a b c d x =
          append_assoc a (b ++ (c ++ d)) x
          ∙ ap (λ (y : List ℕ). a ++ y) (append_assoc b (c ++ d) x ∙ ap (λ (y : List ℕ). b ++ y) (append_assoc c d x))

      all_below : (ts : List (List ℕ)) (above lines : List (List ℕ)) → 1 ≤ length ts → AllByRecursion IsRemark above
          → AreParts (map (λ path. tail_study (tail s path)) ts) lines → AreParts (map (λ path. tail_study (tail s path)) ts) (above ++ lines)
      all_below [] above lines some h p = absurd (omega arith)
      all_below (t ∷ ts) above lines some h p =
          parts_below (tail_study (tail s t)) (map (λ path. tail_study (tail s path)) ts) above lines h p

-- ---- a game without tails, or with too many

pub no_tails_is : (e : Entry) (s : WideStudy) (why : GameLeftOut) → AreLines IsRemark (left_out e (no_tails_words s why))
no_tails_is e s NeverFourMen =
    left_out_is e _ (wider (10 + (64 + 26)) 200 _ (omega arith) (joined 10 (64 + 26) (codes "left out: ") _ (record { shown = refl; few = omega arith })
    (joined 64 26 _ (codes " men, never four or fewer") (number_part (length s.start.position.board.men)) (record { shown = refl; few = omega arith }))))
no_tails_is e s RightsToTheEnd =
    left_out_is e _ (wider (10 + (64 + 40)) 200 _ (omega arith) (joined 10 (64 + 40) (codes "left out: ") _ (record { shown = refl; few = omega arith })
    (joined 64 40 _ (codes " men, castling rights to the end") (number_part (length s.start.position.board.men)) (record { shown = refl; few = omega arith }))))
no_tails_is e s TooManyTails = left_out_is e (codes "left out: more than 255 endings") (record { shown = refl; few = omega arith })

pub record HasTails (s : WideStudy) : Type 0 where
  pub some : 1 ≤ length (tails s)
  pub few : length (tails s) ≤ 255

pub has_tails : (s : WideStudy) → game_reason s ≡ None → HasTails s
unfolding game_reason
has_tails s e = go (length (tails s) == 0) (nat_lt 255 (length (tails s))) refl refl e
  where
    go : (none many : Bool) → (length (tails s) == 0) ≡ none → nat_lt 255 (length (tails s)) ≡ many
        → (if none then Some (if has_four s.start.position || gets_to_four s.start.position s.tree.below then RightsToTheEnd else NeverFourMen)
        else (if many then Some TooManyTails else None)) ≡ None → HasTails s
    go true many n m h = let no : ⊥ = cc in absurd no
    go false true n m h = let no : ⊥ = cc in absurd no
    go false false n m h =
        let some = eqb-false (length (tails s)) 0 n in
        let few = ltb-false 255 (length (tails s)) m in
        record { some = omega arith; few = few }
