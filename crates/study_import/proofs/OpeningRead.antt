-- The opening comment states the stipulation, however it is cut into lines.
use Rattle.std.proofs.Common.{◌≡◌, ℕ, ◌-◌, ◌<◌, true, false, List, [], ◌∷◌, ◌++◌, length, take, Some, None, refl, sym, ap, subst, ◌∙◌, inl, inr}
use Rattle.std.proofs.Common.{arith, length-append, append_assoc}
use Rattle.std.specs.Prelude.{◌==◌, ◌&&◌, nat_le, slice_index, codes, decimal}
use Rattle.std.specs.List.{list_all}
use Rattle.std.specs.Str.{bytes_eq}
use Rattle.std.proofs.lemmas.Bool.{ne_eqb, le-leb, lt-leb, and_from, and_right, or_from}
use Rattle.std.proofs.lemmas.List.{take_at, get_or_at}
use Rattle.study_board.specs.declared.men.Side.{Side}
use Rattle.study_board.specs.declared.men.Side.TheVariants.{White, Black}
use Rattle.study_marks.specs.declared.stipulation.Goal.{Goal}
use Rattle.study_marks.specs.declared.stipulation.Goal.TheVariants.{Win, Draw, MateIn}
use Rattle.study_marks.specs.declared.stipulation.Stipulation.{Stipulation}
use Rattle.study_command.specs.Paths.{place_parsed}
use Rattle.study_pgn.specs.Values.{side_name}
use Rattle.study_pgn.specs.Pgn.{goal_text, stipulation_text}
use Rattle.study_games.specs.Bytes.{is_blank}
use Rattle.study_games.specs.Words.{is_inked, begun_word, first_word}
use Rattle.study_games.specs.Tokens.{behind}
use Rattle.study_games.proofs.Lexing.{run_cut}
use Rattle.study_reading.specs.Aims.{ends_clause, ends_phrase, last_of_phrase, hero_of, goal_named, goal_or_mate, goal_in, aim_in, begins_clause}
use Rattle.study_import.specs.Laws.{IsCounted}
use Rattle.study_import.proofs.Ink.{Ink, ink_of, ink_append, decimal_ink}
use Rattle.study_import.proofs.PathAgain.{number_parsed}
use Rattle.study_import.proofs.Blanks.{Same, word_cut, IsGap, space_cut}

-- ---- words

no_blank : (b : ℕ) → 32 < b → is_blank b ≡ false
no_blank b lt = or_from (b == 32) (nat_le 9 b && nat_le b 13) (ne_eqb b 32 (λ e. omega arith))
    (and_right (nat_le 9 b) (nat_le b 13) (lt-leb b 13 (omega arith)))

all_inked : (w : List ℕ) → Ink w → list_all is_inked w ≡ true
all_inked [] h = refl
all_inked (b ∷ w) h = rw (no_blank b h.0) (all_inked w h.2)

gap_blank : (b : ℕ) → IsGap b → is_blank b ≡ true
gap_blank b (inl e) = rw e refl
gap_blank b (inr e) = rw e refl

-- the first byte of a text without blanks at the front
begun : (w : List ℕ) (b : ℕ) (rest : List ℕ) → Ink w → 0 < length w → IsGap b → begun_word (w ++ (b ∷ rest)) ≡ Some (w, b ∷ rest)
begun [] b rest h some gap = absurd (omega arith)
begun (x ∷ w) b rest h some gap =
    let stops : is_inked b ≡ false = rw (gap_blank b gap) refl in
    let cut = run_cut is_inked (x ∷ w) (b ∷ rest) (all_inked (x ∷ w) h) stops in
    ap (λ (y : List ℕ). Some (y, behind is_inked ((x ∷ w) ++ (b ∷ rest)))) cut.0 ∙ ap (λ (y : List ℕ). Some (x ∷ w, y)) cut.1

pub word_first : (w : List ℕ) (b : ℕ) (rest : List ℕ) → Ink w → 0 < length w → IsGap b → first_word (w ++ (b ∷ rest)) ≡ Some (w, b ∷ rest)
unfolding first_word
word_first [] b rest h some gap = absurd (omega arith)
word_first (x ∷ w) b rest h some gap =
    let cut = run_cut is_blank [] ((x ∷ w) ++ (b ∷ rest)) refl (no_blank x h.0) in
    ap begun_word cut.1 ∙ begun (x ∷ w) b rest h some gap

pub word_next : (a : ℕ) (w : List ℕ) (b : ℕ) (rest : List ℕ) → IsGap a → Ink w → 0 < length w → IsGap b
    → first_word (a ∷ (w ++ (b ∷ rest))) ≡ Some (w, b ∷ rest)
unfolding first_word
word_next a [] b rest first h some gap = absurd (omega arith)
word_next a (x ∷ w) b rest first h some gap =
    let cut = run_cut is_blank (a ∷ []) ((x ∷ w) ++ (b ∷ rest)) (and_from (is_blank a) true (gap_blank a first) refl) (no_blank x h.0) in
    ap begun_word cut.1 ∙ begun (x ∷ w) b rest h some gap

-- ---- the goal

colon_at : (w : List ℕ) → ends_phrase (w ++ 58 ∷ []) ≡ true
colon_at w =
    let n = length-append w (58 ∷ []) in
    let at : length (w ++ 58 ∷ []) - 1 ≡ length w = omega arith in
    let last : slice_index (w ++ 58 ∷ []) (length (w ++ 58 ∷ []) - 1) ≡ 58 = ap (slice_index (w ++ 58 ∷ [])) at ∙ get_or_at w 58 [] 0 (length w) refl in
    and_from (nat_le 1 (length (w ++ 58 ∷ []))) (ends_clause (slice_index (w ++ 58 ∷ []) (length (w ++ 58 ∷ []) - 1)))
    (le-leb 1 (length (w ++ 58 ∷ [])) (omega arith)) (ap ends_clause last)

colon_off : (w behind : List ℕ) → last_of_phrase (w ++ 58 ∷ []) behind ≡ Some w
unfolding last_of_phrase
colon_off w behind =
    let n = length-append w (58 ∷ []) in
    let at : length (w ++ 58 ∷ []) - 1 ≡ length w = omega arith in
    rw (colon_at w) (ap (λ (t : List ℕ). Some t) (ap (λ k. take k (w ++ 58 ∷ [])) at ∙ take_at w (58 ∷ []) (length w) refl))

named_plain : (word : List ℕ) (g : Goal) (behind : List ℕ) → goal_named (Some word) ≡ Some g
    → goal_or_mate (goal_named (last_of_phrase (word ++ 58 ∷ []) behind)) (word ++ 58 ∷ []) behind ≡ Some g
named_plain word g behind h = rw (colon_off word behind, h) refl

mate_later : (behind : List ℕ) (x : List ℕ × List ℕ) → first_word behind ≡ Some x → begins_clause x.0 ≡ false
    → last_of_phrase (codes "mate") behind ≡ None
unfolding last_of_phrase
mate_later behind x e h = rw (e, h) refl

-- ---- a goal after `to`

abbrev Reads_goal : Goal → List ℕ → Type 0
Reads_goal g t = goal_in (first_word t) ≡ Some g

plain_goal : (word : List ℕ) (g : Goal) (rest t : List ℕ) → Ink word → 0 < length word → goal_named (Some word) ≡ Some g
    → Same (32 ∷ (word ++ (58 ∷ 32 ∷ rest))) t → Reads_goal g t
plain_goal word g rest t ink some named h =
    let a = space_cut (word ++ (58 ∷ 32 ∷ rest)) t h in
    let c = word_cut (word ++ 58 ∷ []) (32 ∷ rest) a.back (ink_append word (58 ∷ []) ink (omega arith, omega arith, tt))
    (subst (λ (x : List ℕ). Same x a.back) (sym (append_assoc word (58 ∷ []) (32 ∷ rest))) a.rest) in
    let e = space_cut rest c.back c.rest in
    let text : t ≡ a.byte ∷ ((word ++ 58 ∷ []) ++ (e.byte ∷ e.back)) =
    a.text ∙ ap (λ (x : List ℕ). a.byte ∷ x) (c.text ∙ ap (λ (x : List ℕ). (word ++ 58 ∷ []) ++ x) e.text) in
    ap (λ (x : List ℕ). goal_in (first_word x)) text
    ∙ ap goal_in (word_next a.byte (word ++ 58 ∷ []) e.byte e.back a.gap (ink_append word (58 ∷ []) ink (omega arith, omega arith, tt))
    (omega (arith, length-append word (58 ∷ []))) e.gap)
    ∙ named_plain word g (e.byte ∷ e.back) named

mate_read : (k : ℕ) (rest t : List ℕ) → IsCounted (MateIn k) → Same (32 ∷ (codes "mate" ++ (32 ∷ (codes "in" ++ (32 ∷ (decimal k ++ (58 ∷ 32 ∷ rest))))))) t
    → Reads_goal (MateIn k) t
mate_read k rest t counted h =
    let high = counted.1 in
    let a = space_cut (codes "mate" ++ (32 ∷ (codes "in" ++ (32 ∷ (decimal k ++ (58 ∷ 32 ∷ rest)))))) t h in
    let b = word_cut (codes "mate") (32 ∷ (codes "in" ++ (32 ∷ (decimal k ++ (58 ∷ 32 ∷ rest))))) a.back (ink_of (codes "mate") refl) a.rest in
    let c = space_cut (codes "in" ++ (32 ∷ (decimal k ++ (58 ∷ 32 ∷ rest)))) b.back b.rest in
    let d = word_cut (codes "in") (32 ∷ (decimal k ++ (58 ∷ 32 ∷ rest))) c.back (ink_of (codes "in") refl) c.rest in
    let e = space_cut (decimal k ++ (58 ∷ 32 ∷ rest)) d.back d.rest in
    let number = decimal k ++ 58 ∷ [] in
    let ink = ink_append (decimal k) (58 ∷ []) (decimal_ink k) (omega arith, omega arith, tt) in
    let f = word_cut number (32 ∷ rest) e.back ink (subst (λ (x : List ℕ). Same x e.back) (sym (append_assoc (decimal k) (58 ∷ []) (32 ∷ rest))) e.rest) in
    let g = space_cut rest f.back f.rest in
    let t3 = e.byte ∷ (number ++ (g.byte ∷ g.back)) in
    let t2 = c.byte ∷ (codes "in" ++ t3) in
    let tail : e.back ≡ number ++ (g.byte ∷ g.back) = f.text ∙ ap (λ (x : List ℕ). number ++ x) g.text in
    let d_is : d.back ≡ t3 = e.text ∙ ap (λ (x : List ℕ). e.byte ∷ x) tail in
    let b_is : b.back ≡ t2 = c.text ∙ ap (λ (x : List ℕ). c.byte ∷ x) (d.text ∙ ap (λ (x : List ℕ). codes "in" ++ x) d_is) in
    let text : t ≡ a.byte ∷ (codes "mate" ++ t2) = a.text ∙ ap (λ (x : List ℕ). a.byte ∷ x) (b.text ∙ ap (λ (x : List ℕ). codes "mate" ++ x) b_is) in
    let third : first_word t3 ≡ Some (number, g.byte ∷ g.back) = word_next e.byte number g.byte g.back e.gap ink
    (omega (arith, length-append (decimal k) (58 ∷ []))) g.gap in
    let second : first_word t2 ≡ Some (codes "in", t3) = word_next c.byte (codes "in") e.byte (number ++ (g.byte ∷ g.back)) c.gap (ink_of (codes "in") refl)
    (omega arith) e.gap in
    let first : first_word t ≡ Some (codes "mate", t2) = ap first_word text
    ∙ word_next a.byte (codes "mate") c.byte (codes "in" ++ t3) a.gap (ink_of (codes "mate") refl) (omega arith) c.gap in
    let known : place_parsed (decimal k) ≡ Some k = number_parsed k (omega arith) in
    rw (first, mate_later t2 (codes "in", t3) second refl, second, third, colon_off (decimal k) (g.byte ∷ g.back), known, le-leb 1 k counted.0, le-leb k 127 high)
    refl

goal_read : (g : Goal) (rest t : List ℕ) → IsCounted g → Same (goal_text g ++ (58 ∷ 32 ∷ rest)) t
    → (x : List ℕ × List ℕ) × (first_word t ≡ Some x) × (bytes_eq x.0 (codes "to") ≡ true) × (goal_in (first_word x.1) ≡ Some g)
goal_read g rest t counted h = go g counted h
  where
    behind_to : (g : Goal) (tail t : List ℕ) → Same (32 ∷ (codes "to" ++ (32 ∷ tail))) t → ((u : List ℕ) → Same (32 ∷ tail) u → Reads_goal g u)
        → (x : List ℕ × List ℕ) × (first_word t ≡ Some x) × (bytes_eq x.0 (codes "to") ≡ true) × (goal_in (first_word x.1) ≡ Some g)
    behind_to g tail t h f =
        let a = space_cut (codes "to" ++ (32 ∷ tail)) t h in
        let b = word_cut (codes "to") (32 ∷ tail) a.back (ink_of (codes "to") refl) a.rest in
        let c = space_cut tail b.back b.rest in
        let text : t ≡ a.byte ∷ (codes "to" ++ (c.byte ∷ c.back)) = a.text
        ∙ ap (λ (x : List ℕ). a.byte ∷ x) (b.text ∙ ap (λ (x : List ℕ). codes "to" ++ x) c.text) in (
          (codes "to", c.byte ∷ c.back),
          ap first_word text ∙ word_next a.byte (codes "to") c.byte c.back a.gap (ink_of (codes "to") refl) (omega arith) c.gap,
          refl,
          f (c.byte ∷ c.back) (subst (λ (x : List ℕ). Same (32 ∷ tail) x) c.text b.rest),
        )

    go : (g : Goal) → IsCounted g → Same (goal_text g ++ (58 ∷ 32 ∷ rest)) t
        → (x : List ℕ × List ℕ) × (first_word t ≡ Some x) × (bytes_eq x.0 (codes "to") ≡ true) × (goal_in (first_word x.1) ≡ Some g)
    go Win c h = behind_to Win (codes "win" ++ (58 ∷ 32 ∷ rest)) t h (λ u k. plain_goal (codes "win") Win rest u (ink_of (codes "win") refl) (omega arith)
        refl k)
    go Draw c h = behind_to Draw (codes "draw" ++ (58 ∷ 32 ∷ rest)) t h (λ u k. plain_goal (codes "draw") Draw rest u (ink_of (codes "draw") refl)
        (omega arith) refl k)
    go (MateIn k) c h = behind_to (MateIn k) (codes "mate" ++ (32 ∷ (codes "in" ++ (32 ∷ (decimal k ++ (58 ∷ 32 ∷ rest)))))) t h (λ u i. mate_read k rest u c i)

hero_read : (side : Side) → Ink (side_name side) × (0 < length (side_name side)) × (hero_of (side_name side) ≡ Some side)
hero_read White = (ink_of (codes "White") refl, omega arith, refl)
hero_read Black = (ink_of (codes "Black") refl, omega arith, refl)

goal_gap : (g : Goal) (rest t : List ℕ) → Same (goal_text g ++ (58 ∷ 32 ∷ rest)) t → (b : ℕ) × (bs : List ℕ) × (t ≡ b ∷ bs) × IsGap b
goal_gap Win rest t h = let a = space_cut (codes "to win" ++ (58 ∷ 32 ∷ rest)) t h in (a.byte, a.back, a.text, a.gap)
goal_gap Draw rest t h = let a = space_cut (codes "to draw" ++ (58 ∷ 32 ∷ rest)) t h in (a.byte, a.back, a.text, a.gap)
goal_gap (MateIn k) rest t h = let a = space_cut (codes "to mate in " ++ (decimal k ++ (58 ∷ 32 ∷ rest))) t h in (a.byte, a.back, a.text, a.gap)

pub aim_read : (s : Stipulation) (rest t : List ℕ) → IsCounted s.goal → Same (stipulation_text s ++ (58 ∷ 32 ∷ rest)) t → aim_in t ≡ Some s
unfolding aim_in
aim_read s rest t counted h =
    let hero = hero_read s.hero in
    let a = word_cut (side_name s.hero) (goal_text s.goal ++ (58 ∷ 32 ∷ rest)) t hero.0
    (subst (λ (x : List ℕ). Same x t) (append_assoc (side_name s.hero) (goal_text s.goal) (58 ∷ 32 ∷ rest)) h) in
    let g = goal_read s.goal rest a.back counted a.rest in
    let b = goal_gap s.goal rest a.back a.rest in
    let first : first_word t ≡ Some (side_name s.hero, b.0 ∷ b.1) =
    ap first_word (a.text ∙ ap (λ (x : List ℕ). side_name s.hero ++ x) b.2) ∙ word_first (side_name s.hero) b.0 b.1 hero.0 hero.1 b.3 in
    let second : first_word (b.0 ∷ b.1) ≡ Some g.0 = ap first_word (sym b.2) ∙ g.1 in
    rw (first, hero.2, second, g.2, g.3) refl
