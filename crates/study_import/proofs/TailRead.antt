-- The lines of a tail are those of a game that begins there, and lead to its study.
use Rattle.std.proofs.Common.{◌≡◌, ℕ, ◌≤◌, Bool, true, false, List, [], ◌∷◌, ◌++◌, Option, Some, None, Ok, Err, refl, sym, ap, subst, ◌∙◌}
use Rattle.std.proofs.Common.{arith, append_assoc}
use Rattle.std.specs.Prelude.{◌-◌, nat_le, nat_lt, codes, if◌then◌else◌}
use Rattle.std.specs.List.{flat_map}
use Rattle.std.proofs.lemmas.Bool.{and_parts, leb-true, ltb-true}
use Rattle.study_board.specs.Position.{IsValid}
use Rattle.study_notation.specs.declared.start.Start.{Start}
use Rattle.study_notation.proofs.FenStarts.{IsRead as IsStart}
use Rattle.study_tree.specs.Edits.{IsWithin}
use Rattle.study_tree.specs.Tree.{size_of}
use Rattle.study_board.specs.declared.men.Side.TheVariants.{White}
use Rattle.study_marks.specs.declared.stipulation.Goal.{Goal}
use Rattle.study_marks.specs.declared.stipulation.Goal.TheVariants.{Win, Draw, MateIn}
use Rattle.study_marks.specs.Study.{position_at}
use Rattle.study_marks.specs.Edits.{PlainStudy, with_insertion}
use Rattle.study_wide.specs.Rules.{is_small}
use Rattle.study_wide.proofs.FewMen.{small_valid}
use Rattle.study_wide_text.specs.declared.start.WideStart.{WideStart}
use Rattle.study_wide_text.specs.StartAfter.{widen_start}
use Rattle.study_wide_text.proofs.FenAgrees.{fen_agrees}
use Rattle.study_games.specs.Header.{Pair, tags_of}
use Rattle.study_tails.specs.declared.tails.LeftOut.TheVariants.{NoTail, NumbersAbove9999}
use Rattle.study_tails.specs.Study.{WideStudy, Node, node_at, IsWideStudy}
use Rattle.study_tails.specs.Tails.{moves_by, goal_after, has_four_digits, study_from, tail_with, tail_to, tail}
use Rattle.study_tails.specs.Lines.{position_line as tail_position, stipulation_line as tail_stipulation, tag_lines as tail_tags, insert_lines as tail_inserts}
use Rattle.study_tails.specs.Lines.{line_of_tag, head_lines, study_lines as tail_lines}
use Rattle.study_tails.specs.Insertions.{insertions, IsPlain, IsBuilt}
use Rattle.study_tails.specs.Insertions.{made_by as tail_made, AllAccepted as AllTailAccepted, lines_for as tail_lines_for, plain_line, root_alone}
use Rattle.study_tails.specs.Blocks.{widen_study}
use Rattle.study_tails.proofs.TailStudies.{tail_of}
use Rattle.study_tails.proofs.TailsBuilt.{tail_plain}
use Rattle.study_tails.proofs.Built.{built}
use Rattle.study_import.specs.Insertions.{Insertion, made_by, AllAccepted, lines_for}
use Rattle.study_import.proofs.Stipulated.{stipulation_same}
use Rattle.study_import.specs.Blocks.{Entry, position_line, stipulation_line, tag_line, six_names, study_lines, no_moves}
use Rattle.study_import.specs.Meant.{tag_texts}
use Rattle.study_import.specs.Laws.{IsCounted, IsStudyIn}
use Rattle.study_import.proofs.TextAgain.{read_again}
use Rattle.study_import.proofs.Soundness.{Spelled, lines_of_study, study_spelled, study_part}
use Rattle.study_import.proofs.WideSound.{IsSoundStart, node_sound}

-- ---- the same insertions

made_same : (s : PlainStudy) (is : List Insertion) → tail_made s is ≡ made_by s is
made_same s [] = refl
made_same s (i ∷ is) = made_same (with_insertion s i.0 i.1) is

accepted_same : (s : PlainStudy) (is : List Insertion) → AllTailAccepted (Unit {0}) s is → AllAccepted (Unit {0}) s is
accepted_same s [] h = tt
accepted_same s (i ∷ is) h = (h.0, accepted_same (with_insertion s i.0 i.1) is h.1)

lines_same : (s : PlainStudy) (is : List Insertion) → tail_lines_for s is ≡ lines_for s is
lines_same s [] = refl
lines_same s (i ∷ is) =
    ap (λ (t : List ℕ). plain_line (position_at s i.0) i.0 i.1 ++ t) (lines_same (with_insertion s i.0 i.1) is)

-- ---- the same lines

position_same : (start : Start) → tail_position [] (widen_start start) ≡ position_line start
unfolding tail_position position_line
position_same start = ap (λ (t : List ℕ). codes "position " ++ (t ++ codes "\n")) (fen_agrees.written start)

tags_same : (tags : List Pair) → tail_tags [] (tag_texts tags) ≡ flat_map (tag_line tags) six_names
unfolding tag_line line_of_tag
tags_same tags = refl

joined_lines : (p s t i pgn : List ℕ) → ((p ++ (s ++ t)) ++ i) ++ pgn ≡ p ++ (s ++ (t ++ (i ++ pgn)))
joined_lines p s t i pgn =
    append_assoc (p ++ (s ++ t)) i pgn ∙ append_assoc p (s ++ t) (i ++ pgn) ∙ ap (λ (x : List ℕ). p ++ x) (append_assoc s t (i ++ pgn))

abbrev pub moves_of : PlainStudy → List Insertion
moves_of u = insertions [] 0 u.tree.below

-- ---- a tail of a study

-- what holds of the study that a game with any number of men leads to
pub record IsWhole (tags : List Pair) (s : WideStudy) : Type 0 where
  pub study : IsWideStudy s
  pub shallow : IsWithin 256 s.tree.below
  pub few : size_of s.tree ≤ 4096
  pub begins : IsSoundStart s.start
  pub titled : s.tags ≡ tag_texts tags
  pub counted : IsCounted s.stipulation.goal

four_digits : (s : WideStudy) (path : List ℕ) (u : PlainStudy) → tail s path ≡ Ok u → (u.start.clock ≤ 9999) × (u.start.number ≤ 9999)
unfolding tail
four_digits s path u e = at_node (node_at s path) e
  where
    left : Option Goal
    left = goal_after s.stipulation.goal (moves_by s.stipulation.hero s.start.position.board.to_move path)

    written : (n : Node) (goal : Goal) (b : Bool) → has_four_digits n.start ≡ b → (if b then Ok (study_from s n goal) else Err NumbersAbove9999) ≡ Ok u
        → (u.start.clock ≤ 9999) × (u.start.number ≤ 9999)
    written n goal true is e =
        let same : study_from s n goal ≡ u = cc in
        let both = and_parts (nat_le n.start.clock 9999) (nat_le n.start.number 9999) is in
        subst (λ (v : PlainStudy). (v.start.clock ≤ 9999) × (v.start.number ≤ 9999)) same
        (leb-true n.start.clock 9999 both.0, leb-true n.start.number 9999 both.1)
    written n goal false is e = let no : ⊥ = cc in absurd no

    with_goal : (n : Node) (o : Option Goal) → tail_with s n o ≡ Ok u → (u.start.clock ≤ 9999) × (u.start.number ≤ 9999)
    with_goal n None e = let no : ⊥ = cc in absurd no
    with_goal n (Some goal) e = written n goal (has_four_digits n.start) refl e

    if_small : (n : Node) (b : Bool) → (if b then tail_with s n left else Err NoTail) ≡ Ok u → (u.start.clock ≤ 9999) × (u.start.number ≤ 9999)
    if_small n true e = with_goal n left e
    if_small n false e = let no : ⊥ = cc in absurd no

    at_node : (o : Option Node) → tail_to s path o ≡ Ok u → (u.start.clock ≤ 9999) × (u.start.number ≤ 9999)
    at_node None e = let no : ⊥ = cc in absurd no
    at_node (Some n) e = if_small n (is_small n.start.position) e

counted_after : (goal : Goal) (n : ℕ) (left : Goal) → IsCounted goal → goal_after goal n ≡ Some left → IsCounted left
counted_after Win n left h e = let same : Win ≡ left = cc in subst IsCounted same tt
counted_after Draw n left h e = let same : Draw ≡ left = cc in subst IsCounted same tt
counted_after (MateIn k) n left h e = go (nat_lt n k) refl e
  where
    go : (b : Bool) → nat_lt n k ≡ b → (if b then Some (MateIn (k - n)) else None) ≡ Some left → IsCounted left
    go true is e = let same : MateIn (k - n) ≡ left = cc in
        let low = ltb-true n k is in
        subst IsCounted same (omega (arith, low, h.0), omega (arith, low, h.1))
    go false is e = let no : ⊥ = cc in absurd no

small_is_narrow : (s : WideStart) → is_small s.position ≡ true → IsSoundStart s → IsValid s.position.board
small_is_narrow s small h = (small_valid.valid s.position s.position.board h.valid (rw small refl)).0

-- the study of a tail, taken apart
pub record IsRest (tags : List Pair) (u : PlainStudy) : Type 0 where
  pub start : IsStart u.start
  pub titled : u.tags ≡ tag_texts tags
  pub counted : IsCounted u.stipulation.goal
  pub plain : IsPlain u

pub tail_rest : (tags : List Pair) (s : WideStudy) (path : List ℕ) (u : PlainStudy) → IsWhole tags s → tail s path ≡ Ok u → IsRest tags u
tail_rest tags s path u w e =
    let t = tail_of s path u e in
    let sound = node_sound s.start s.tree.below path t.node w.begins w.study.playable t.found in
    let own = study_from s t.node t.goal in
    let valid : IsValid own.start.position = small_is_narrow t.node.start t.small sound in
    let digits = four_digits s path u e in
    let start : IsStart u.start = record {
      valid = subst (λ (v : PlainStudy). IsValid v.start.position) (sym t.study) valid;
      clock = digits.0;
      positive = subst (λ (v : PlainStudy). 1 ≤ v.start.number) (sym t.study) sound.positive;
      number = digits.1;
    } in
    record {
      start = start;
      titled = subst (λ (v : PlainStudy). v.tags ≡ tag_texts tags) (sym t.study) w.titled;
      counted =
          subst (λ (v : PlainStudy). IsCounted v.stipulation.goal) (sym t.study)
          (counted_after s.stipulation.goal (moves_by s.stipulation.hero s.start.position.board.to_move path) t.goal w.counted t.left);
      plain = tail_plain s path u w.study w.shallow w.few e start.valid;
    }

-- ---- its lines

-- the study without what does not matter for its moves
abbrev untitled : PlainStudy → PlainStudy
untitled u = record {
  start = u.start;
  stipulation = record { hero = White; goal = Win };
  tags = None ∷ None ∷ None ∷ None ∷ None ∷ None ∷ [];
  tree = u.tree;
}

untitled_built : (u : PlainStudy) → IsPlain u → IsBuilt (Unit {0}) (untitled u)
untitled_built u h = built (Unit {0}) (untitled u)
    (record { valid = h.valid; playable = h.playable; distinct = h.distinct; shallow = h.shallow; few = h.few })

abbrev pub bare_at : PlainStudy → PlainStudy
bare_at u = (no_moves u.start).reading.study

lines_as_told : (e : Entry) (u : PlainStudy) → IsRest (tags_of e.text) u
    → tail_lines [] (widen_study u) ++ codes "pgn\n\n" ≡ study_lines e u.start u.stipulation (lines_for (bare_at u) (moves_of u))
unfolding tail_lines head_lines study_lines
lines_as_told e u h =
    let b = untitled_built u h.plain in
    let p = position_line u.start in
    let s = stipulation_line u.stipulation in
    let t = flat_map (tag_line (tags_of e.text)) six_names in
    let i = lines_for (bare_at u) (moves_of u) in
    let old_s = tail_stipulation [] u.stipulation in
    let old_t = tail_tags [] u.tags in
    let old_i = tail_inserts [] (widen_start u.start).position [] 0 u.tree.below in
    let pgn = codes "pgn\n\n" in
    joined_lines (tail_position [] (widen_start u.start)) old_s old_t old_i pgn
    ∙ ap (λ (x : List ℕ). x ++ (old_s ++ (old_t ++ (old_i ++ pgn)))) (position_same u.start)
    ∙ ap (λ (x : List ℕ). p ++ (x ++ (old_t ++ (old_i ++ pgn)))) (stipulation_same u.stipulation)
    ∙ ap (λ (x : List ℕ). p ++ (s ++ (x ++ (old_i ++ pgn)))) (ap (tail_tags []) h.titled ∙ tags_same (tags_of e.text))
    ∙ ap (λ (x : List ℕ). p ++ (s ++ (t ++ (x ++ pgn)))) (b.lines ∙ lines_same (root_alone (untitled u)) (moves_of u))

-- the lines of a tail, as those of a block
abbrev pub lines_of_tail : Entry → PlainStudy → List (List ℕ)
lines_of_tail e u = lines_of_study e u.start u.stipulation (moves_of u)

pub tail_spelled : (e : Entry) (u : PlainStudy) → IsRest (tags_of e.text) u
    → Spelled (tail_lines [] (widen_study u) ++ codes "pgn\n\n") (lines_of_tail e u)
tail_spelled e u h =
    let b = untitled_built u h.plain in
    subst (λ (t : List ℕ). Spelled t (lines_of_tail e u)) (sym (lines_as_told e u h))
    (study_spelled e u.start u.stipulation (moves_of u) h.start (accepted_same (bare_at u) (moves_of u) b.accepted))

-- they lead to its study
pub tail_part : (e : Entry) (u : PlainStudy) → IsRest (tags_of e.text) u → IsStudyIn u (lines_of_tail e u)
tail_part e u h =
    let b = untitled_built u h.plain in
    let accepted = accepted_same (bare_at u) (moves_of u) b.accepted in
    let made : untitled u ≡ made_by (bare_at u) (moves_of u) = sym b.made ∙ made_same (bare_at u) (moves_of u) in
    let part = study_part e u.start u.stipulation (moves_of u) (untitled u) h.start h.counted accepted
    (read_again (Unit {0}) (bare_at u) (moves_of u) h.start.valid tt accepted) made in
    subst (λ (ts : List (Option (List ℕ))). IsStudyIn (record { start = u.start; stipulation = u.stipulation; tags = ts; tree = u.tree }) (lines_of_tail e u))
    (sym h.titled) part
