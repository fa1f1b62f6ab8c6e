-- Numbers of a row encode the same men except for the last one; on most squares of that one the men are still.
use Rattle.std.proofs.Common.{◌≡◌, ℕ, ◌+◌, ◌*◌, ◌/◌, ◌%◌, ◌<◌, ◌==◌, Bool, true, false, not, ◌&&◌, ◌||◌, inl, inr, List, [], ◌∷◌, ◌++◌}
use Rattle.std.proofs.Common.{Some, refl, sym, ◌∙◌, ap, subst, arith}
use Rattle.std.specs.List.{All, list_any}
use Rattle.std.specs.List.Sorted.{IsPermutation}
use Rattle.std.proofs.lemmas.Bool.{and_parts, cases_Bool, eqb-true, eq-eqb, false≢true, or_from, or_parts}
use Rattle.std.proofs.lemmas.List.Elements.{All-pop}
use Rattle.std.proofs.lemmas.List.Folds.{list_any-append}
use Rattle.std.proofs.lemmas.List.Sorted.{All-permutation, IsPermutation-sym}
use Rattle.study_board.specs.declared.men.Side.{Side}
use Rattle.study_board.specs.declared.men.Side.TheVariants.{White, Black}
use Rattle.study_board.specs.declared.men.Kind.{Kind}
use Rattle.study_board.specs.declared.men.Kind.TheVariants.{King, Queen, Rook, Bishop, Knight, Pawn}
use Rattle.study_board.specs.declared.men.Man.{Man}
use Rattle.study_board.specs.Geometry.{on_bishop_line, rank_of, strictly_between}
use Rattle.study_board.specs.Men.{attacks_square, is_attacked, is_blocked, is_man, is_pawn, other_side, reaches, same_kind, same_side}
use Rattle.study_board.specs.Position.{Position, in_check}
use Rattle.study_board.specs.Sets.{has, is_slider, reaches_if}
use Rattle.study_board.proofs.Faults.{in_check_same}
use Rattle.study_moves.proofs.BearsBothWays.{reaches-both, same_test}
use Rattle.study_moves.proofs.MenOfList.{All-among, IsAmong, list_any-none, none_among}
use Rattle.study_material.specs.declared.class.Class.{Class}
use Rattle.study_index.specs.declared.decoding.Slot.{Slot}
use Rattle.study_index.specs.Computed.{position_numbered}
use Rattle.study_index.specs.Decoded.{AreSlots, man, men_of, slots_of, decoded_men, decoded_side, head, slots_have_pawn, side_numbered}
use Rattle.study_values.specs.Number.{king_places, without_bit}
use Rattle.study_index.proofs.ClassSlots.{AreSlots-class}
use Rattle.study_index.proofs.ComputedIndex.{decoded_of_numbered}
use Rattle.study_index.proofs.DecodedNumbers.{encoded_by}
use Rattle.study_index.proofs.Symmetries.{all_below, at_below}
use Rattle.study_retro.specs.Predecessors.{AreEncoded}
use Rattle.study_retro.specs.Still.{AreQuietPositions, AreStillOrNone, IsQuietPosition, opposing_man, is_capturable_or_promotes, has_forcing_move}
use Rattle.study_retro.specs.Still.{is_relevant_target, on_square, rank_before_last}
use Rattle.study_retro.proofs.BackLemmas.{side_is}
use Rattle.study_retro.proofs.StillChess.{no_capture_of_king, stays_quiet}

-- ---- the squares on which a man bears with further men on the board

open_line : (p o b b' : Bool) → (b ≡ true → b' ≡ true) → (p && (o && not b)) ≡ false → (p && (o && not b')) ≡ false
open_line false o b b' f e = refl
open_line true false b b' f e = refl
open_line true true true true f e = refl
open_line true true true false f e = absurd (false≢true (f refl))
open_line true true false b' f e = absurd (false≢true (sym e))

by_kind : (p : Bool) (men more : List Man) (side : Side) (kind : Kind) (a x : ℕ) → (is_blocked men a x ≡ true → is_blocked more a x ≡ true)
    → (p && reaches men side kind a x) ≡ false → (p && reaches more side kind a x) ≡ false
unfolding reaches
by_kind p men more side King a x f e = e
by_kind p men more side Queen a x f e = open_line p _ (is_blocked men a x) (is_blocked more a x) f e
by_kind p men more side Rook a x f e = open_line p _ (is_blocked men a x) (is_blocked more a x) f e
by_kind p men more side Bishop a x f e = open_line p _ (is_blocked men a x) (is_blocked more a x) f e
by_kind p men more side Knight a x f e = e
by_kind p men more side Pawn a x f e = e

blocked_more : (others : List Man) (l : Man) (a x : ℕ) → is_blocked others a x ≡ true → is_blocked (others ++ l ∷ []) a x ≡ true
unfolding is_blocked
blocked_more others l a x e = list_any-append (λ m. strictly_between a m.at x) others (l ∷ []) ∙ rw e refl

bears_more : (others : List Man) (l m : Man) (x : ℕ) → attacks_square others m x ≡ false → attacks_square (others ++ l ∷ []) m x ≡ false
bears_more others l m x e = by_kind (not (m.at == x)) others (others ++ l ∷ []) m.side m.kind m.at x (blocked_more others l m.at x) e

blocked_any : (men : List Man) (a x : ℕ) → is_blocked [] a x ≡ true → is_blocked men a x ≡ true
unfolding is_blocked
blocked_any men a x e = absurd (false≢true e)

pub bears_alone : (men : List Man) (m : Man) (x : ℕ) → attacks_square [] m x ≡ false → attacks_square men m x ≡ false
bears_alone men m x e = by_kind (not (m.at == x)) [] men m.side m.kind m.at x (blocked_any men m.at x) e

-- no man is in the way of one that does not move along lines
reach_stepping : (men : List Man) (side : Side) (kind : Kind) (a x : ℕ) → is_slider kind ≡ false → reaches [] side kind a x ≡ reaches men side kind a x
unfolding reaches
reach_stepping men side King a x e = refl
reach_stepping men side Queen a x e = absurd (false≢true (sym e))
reach_stepping men side Rook a x e = absurd (false≢true (sym e))
reach_stepping men side Bishop a x e = absurd (false≢true (sym e))
reach_stepping men side Knight a x e = refl
reach_stepping men side Pawn a x e = refl

pub bears_stepping : (men : List Man) (m : Man) (x : ℕ) → is_slider m.kind ≡ false → attacks_square [] m x ≡ attacks_square men m x
bears_stepping men m x e = ap (λ (r : Bool). not (m.at == x) && r) (reach_stepping men m.side m.kind m.at x e)

open_reach : (side : Side) (kind : Kind) (a x : ℕ) → reaches [] side kind a x ≡ reaches_if false side kind a x
unfolding reaches reaches_if is_blocked
open_reach side King a x = refl
open_reach side Queen a x = refl
open_reach side Rook a x = refl
open_reach side Bishop a x = refl
open_reach side Knight a x = refl
open_reach side Pawn a x = refl

same_squares : (a b : ℕ) → (a == b) ≡ (b == a)
same_squares a b = same_test (a == b) (b == a) (λ e. eq-eqb b a (sym (eqb-true a b e))) (λ e. eq-eqb a b (sym (eqb-true b a e)))

faces : (man : Man) (x y : ℕ) → attacks_square [] (opposing_man man x) y ≡ attacks_square [] (on_square man y) x
faces man x y =
    rw (same_squares x y, open_reach (other_side man.side) man.kind x y, open_reach man.side man.kind y x, reaches-both false man.side man.kind y x) refl

-- a man bears on the square whether or not a man that is not in between is there
blocked_same : (others : List Man) (l : Man) (a x : ℕ) → strictly_between a l.at x ≡ false → is_blocked (others ++ l ∷ []) a x ≡ is_blocked others a x
unfolding is_blocked
blocked_same others l a x e = list_any-append (λ m. strictly_between a m.at x) others (l ∷ []) ∙ rw e (or_none _)
  where
    or_none : (b : Bool) → (b || (false || false)) ≡ b
    or_none true = refl
    or_none false = refl

reaches_same : (men more : List Man) (side : Side) (kind : Kind) (a x : ℕ) → is_blocked more a x ≡ is_blocked men a x
    → reaches more side kind a x ≡ reaches men side kind a x
unfolding reaches
reaches_same men more side King a x e = refl
reaches_same men more side Queen a x e = rw e refl
reaches_same men more side Rook a x e = rw e refl
reaches_same men more side Bishop a x e = rw e refl
reaches_same men more side Knight a x e = refl
reaches_same men more side Pawn a x e = refl

bears_still : (others : List Man) (l m : Man) (x : ℕ) → strictly_between m.at l.at x ≡ false → attacks_square others m x ≡ true
    → attacks_square (others ++ l ∷ []) m x ≡ true
bears_still others l m x e b = ap (λ (r : Bool). not (m.at == x) && r)
    (reaches_same others (others ++ l ∷ []) m.side m.kind m.at x (blocked_same others l m.at x e)) ∙ b

IsAmong-more : (xs : List Man) (l m : Man) → IsAmong m xs → IsAmong m (xs ++ l ∷ [])
IsAmong-more [] l m i = absurd i
IsAmong-more (x ∷ xs) l m (inl e) = inl e
IsAmong-more (x ∷ xs) l m (inr i) = inr (IsAmong-more xs l m i)

not_true : (b : Bool) → not b ≡ true → b ≡ false
not_true false e = refl
not_true true e = absurd (false≢true e)

same_twice : (s t : Side) → same_side s (other_side (other_side t)) ≡ same_side s t
same_twice White White = refl
same_twice White Black = refl
same_twice Black White = refl
same_twice Black Black = refl

-- ---- sides

and_less : (a b c : Bool) → (b ≡ false → c ≡ false) → (a && b) ≡ false → (a && c) ≡ false
and_less false b c f e = refl
and_less true b c f e = f e

spared : (ls s ms : Side) (k b c : Bool) → same_side ms (other_side s) ≡ true → ((not (same_side ms ls) && (same_side ls s || k)) && b) ≡ false
    → (b ≡ false → c ≡ false) → (same_side ls s && c) ≡ false
spared White White White k b c e g f = absurd (false≢true e)
spared White White Black k b c e g f = f g
spared White Black ms k b c e g f = refl
spared Black White ms k b c e g f = refl
spared Black Black White k b c e g f = f g
spared Black Black Black k b c e g f = absurd (false≢true e)

unchecked : (ls s ms : Side) (k b c : Bool) → same_side ms s ≡ true → k ≡ true → ((not (same_side ms ls) && (same_side ls s || k)) && b) ≡ false
    → (b ≡ false → c ≡ false) → (same_side ls (other_side s) && c) ≡ false
unchecked White White ms k b c e t g f = refl
unchecked White Black White k b c e t g f = absurd (false≢true e)
unchecked White Black Black true b c e t g f = f g
unchecked White Black Black false b c e t g f = absurd (false≢true t)
unchecked Black White White true b c e t g f = f g
unchecked Black White White false b c e t g f = absurd (false≢true t)
unchecked Black White Black k b c e t g f = absurd (false≢true e)
unchecked Black Black ms k b c e t g f = refl

-- ---- the men of a row

module _ (others : List Man) (last : Man) (side : Side) (ours theirs y : ℕ)
    (attacked : (x : ℕ) → x < 64 → has ours x ≡ is_attacked others side x)
    (checked : (x : ℕ) → x < 64 → has theirs x ≡ is_attacked others (other_side side) x)
    (restless : has_forcing_move others last side ours theirs ≡ false)
    (bearing : list_any (λ m. is_relevant_target last side m && attacks_square [] (opposing_man last m.at) y) others ≡ false)
    (exposed : is_capturable_or_promotes last side ours y ≡ false) (board : All (λ m. m.at < 64) others) (on : y < 64) where
  abbrev pub l : Man
  l = on_square last y

  abbrev pub men : List Man
  men = others ++ l ∷ []

  -- without the last man no man bears on the square, nor does the last one
  clear : (s : Side) (set : ℕ) → ((x : ℕ) → x < 64 → has set x ≡ is_attacked others s x) → (x : ℕ) → x < 64 → has set x ≡ false
      → (same_side l.side s && attacks_square men l x) ≡ false → is_attacked men s x ≡ false
  unfolding is_attacked
  clear s set word x lx out mine =
      list_any-append (λ k. same_side k.side s && attacks_square men k x) others (l ∷ [])
      ∙ or_from _ _ (list_any-none (λ k. same_side k.side s && attacks_square men k x) others
      (λ k i. and_less (same_side k.side s) _ _ (bears_more others l k x)
      (none_among (λ n. same_side n.side s && attacks_square others n x) others k (sym (word x lx) ∙ out) i))) (or_from _ _ mine refl)

  from_square : (m : Man) → IsAmong m others → attacks_square [] (opposing_man last m.at) y ≡ false → attacks_square men l m.at ≡ false
  from_square m i e = bears_alone men l m.at (sym (faces last m.at y) ∙ e)

  bears_none : (m : Man) → IsAmong m others → (is_relevant_target last side m && attacks_square [] (opposing_man last m.at) y) ≡ false
  bears_none m i = none_among (λ k. is_relevant_target last side k && attacks_square [] (opposing_man last k.at) y) others m bearing i

  quiet_parts : (same_kind last.kind King ≡ false) × (list_any (λ m. same_side m.side (other_side side) && has ours m.at) others ≡ false)
      × (list_any (λ m. is_man side Pawn m && (rank_of m.at == rank_before_last side)) others ≡ false)
      × (list_any (λ m. is_man side King m && has theirs m.at) others ≡ false)
  quiet_parts =
      let a = or_parts _ _ restless in
      let b = or_parts _ _ a.0 in
      let c = or_parts _ _ b.0 in
      (c.0, c.1, b.1, a.1)

  by_test : (b c d : Bool) → (b ≡ true → c ≡ false → d ≡ false) → (b && c) ≡ false → (b && d) ≡ false
  by_test false c d f e = refl
  by_test true c d f e = f refl e

  spares : list_any (λ m. same_side m.side (other_side side) && is_attacked men side m.at) men ≡ false
  spares =
      list_any-append (λ m. same_side m.side (other_side side) && is_attacked men side m.at) others (l ∷ [])
      ∙ or_from _ _ (list_any-none (λ m. same_side m.side (other_side side) && is_attacked men side m.at) others
      (λ m i. by_test (same_side m.side (other_side side)) (has ours m.at) _
      (λ e out. clear side ours attacked m.at (All-among (λ k. k.at < 64) others m board i) out
      (spared last.side side m.side _ _ _ e (bears_none m i) (from_square m i)))
      (none_among (λ m. same_side m.side (other_side side) && has ours m.at) others m quiet_parts.1 i)))
      (or_from _ _ (own last.side side refl refl) refl)
    where
      own : (ls s : Side) → ls ≡ last.side → s ≡ side → (same_side l.side (other_side side) && is_attacked men side y) ≡ false
      own ls s e f = elim (cases_Bool (same_side last.side side)) [
        | inl t ↦ rw (not_other last.side side t) refl
        | inr t ↦ and_less (same_side last.side (other_side side)) false _ (λ g. clear side ours attacked y on
            (let x : is_capturable_or_promotes last side ours y ≡ has ours y = rw t refl in sym x ∙ exposed) (rw t refl))
            (never (same_side last.side (other_side side)))
      ]
        where
          not_other : (a b : Side) → same_side a b ≡ true → same_side a (other_side b) ≡ false
          not_other White White t = refl
          not_other White Black t = absurd (false≢true t)
          not_other Black White t = absurd (false≢true t)
          not_other Black Black t = refl

          never : (b : Bool) → (b && false) ≡ false
          never true = refl
          never false = refl

  keeps : list_any (λ m. is_man side Pawn m && (rank_of m.at == rank_before_last side)) men ≡ false
  keeps =
      list_any-append (λ m. is_man side Pawn m && (rank_of m.at == rank_before_last side)) others (l ∷ [])
      ∙ or_from _ _ quiet_parts.2 (or_from _ _ own refl)
    where
      own : (is_man side Pawn l && (rank_of y == rank_before_last side)) ≡ false
      own = elim (cases_Bool (same_side last.side side)) [
        | inl t ↦ (let x : is_capturable_or_promotes last side ours y ≡ (is_pawn last && (rank_of y == rank_before_last side)) = rw t refl in
            rw t (sym x ∙ exposed))
        | inr t ↦ rw t refl
      ]

  safe : in_check men side ≡ false
  unfolding in_check
  safe =
      list_any-append (λ m. is_man side King m && is_attacked men (other_side side) m.at) others (l ∷ [])
      ∙ or_from _ _ (list_any-none (λ m. is_man side King m && is_attacked men (other_side side) m.at) others
      (λ m i. by_test (is_man side King m) (has theirs m.at) _
      (λ e out. let p = and_parts _ _ e in clear (other_side side) theirs checked m.at (All-among (λ k. k.at < 64) others m board i) out
      (unchecked last.side side m.side _ _ _ p.0 p.1 (bears_none m i) (from_square m i)))
      (none_among (λ m. is_man side King m && has theirs m.at) others m quiet_parts.3 i)))
      (or_from _ _ (no_king (same_side last.side side)) refl)
    where
      no_king : (b : Bool) → (b && same_kind last.kind King && is_attacked men (other_side side) y) ≡ false
      no_king true = rw quiet_parts.0 refl
      no_king false = refl

  pub are_still : AreQuietPositions men side
  are_still = record { spares = spares; keeps = keeps; safe = safe }

-- ---- numbers of a row

-- the last man on another square
abbrev move_last : List Man → ℕ → List Man
move_last [] y = []
move_last (m ∷ []) y = on_square m y ∷ []
move_last (m ∷ n ∷ ms) y = m ∷ move_last (n ∷ ms) y

move_last-append : (others : List Man) (last : Man) (y : ℕ) → move_last (others ++ last ∷ []) y ≡ others ++ on_square last y ∷ []
move_last-append [] last y = refl
move_last-append (m ∷ []) last y = refl
move_last-append (m ∷ n ∷ ms) last y = ap (λ (zs : List Man). m ∷ zs) (move_last-append (n ∷ ms) last y)

row_men : (pawns : Bool) (slots : List Slot) (row y : ℕ) → y < 64 → AreSlots slots
    → men_of pawns slots (64 * row + y) ≡ move_last (men_of pawns slots (64 * row)) y
row_men pawns [] row y ly a = elim a [ ]
row_men pawns (k ∷ []) row y ly a = elim a [ ]
row_men pawns (k ∷ b ∷ x ∷ z ∷ w ∷ ms) row y ly a = elim a [ ]
row_men pawns (k ∷ b ∷ []) row y ly a =
    let q : (64 * row + y) / 64 ≡ 64 * row / 64 = omega arith in
    let r : (64 * row + y) % 64 ≡ y = omega arith in
    rw (q, r) refl
row_men pawns (k ∷ b ∷ x ∷ []) row y ly a =
    let q : (64 * row + y) / 64 ≡ 64 * row / 64 = omega arith in
    let r : (64 * row + y) % 64 ≡ y = omega arith in
    rw (q, r) refl
row_men pawns (k ∷ b ∷ x ∷ z ∷ []) row y ly a =
    let q : (64 * row + y) / 64 ≡ 64 * row / 64 = omega arith in
    let r : (64 * row + y) % 64 ≡ y = omega arith in
    rw (q, r) refl

row_head : (slots : List Slot) (row y : ℕ) → y < 64 → AreSlots slots → head slots (64 * row + y) ≡ head slots (64 * row)
row_head [] row y ly a = elim a [ ]
row_head (k ∷ []) row y ly a = elim a [ ]
row_head (k ∷ b ∷ x ∷ z ∷ w ∷ ms) row y ly a = elim a [ ]
row_head (k ∷ b ∷ []) row y ly a = omega arith
row_head (k ∷ b ∷ x ∷ []) row y ly a = omega arith
row_head (k ∷ b ∷ x ∷ z ∷ []) row y ly a = omega arith

pub row_decoded : (c : Class) (row y : ℕ) → y < 64 → row < 262144 → (others : List Man) (last : Man) (side : Side)
    → AreEncoded c (64 * row) (others ++ last ∷ []) side → AreEncoded c (64 * row + y) (others ++ on_square last y ∷ []) side
row_decoded c row y ly lr others last side encodes =
    let low : without_bit (64 * row) ≡ 64 * row = omega arith in
    let high : without_bit (64 * row + y) ≡ 64 * row + y = omega arith in (
      sym (move_last-append others last y)
          ∙ ap (λ (zs : List Man). move_last zs y) (encodes.0 ∙ ap (λ (n : ℕ). decoded_men (slots_of c) n) low)
          ∙ sym (row_men (slots_have_pawn (slots_of c)) (slots_of c) row y ly (AreSlots-class c))
          ∙ ap (λ (n : ℕ). decoded_men (slots_of c) n) (sym high),
      encodes.1 ∙ ap (λ (n : ℕ). decoded_side (slots_of c) n) low
          ∙ ap (λ (h : ℕ). side_numbered (h / king_places (slots_have_pawn (slots_of c)))) (sym (row_head (slots_of c) row y ly (AreSlots-class c)))
          ∙ ap (λ (n : ℕ). decoded_side (slots_of c) n) (sym high),
    )

-- positions whose men are still are
module _ (c : Class) (number : ℕ) (q : Position) (at : position_numbered c number ≡ Some q) (low : number < 16777216) (others : List Man) (l : Man)
    (side : Side)
    (encodes : AreEncoded c number (others ++ l ∷ []) side) where
  pub others_on_board : All (λ m. m.at < 64) others
  others_on_board =
      (All-pop (λ (k : Man). k.at < 64) (others ++ l ∷ []) others (Some l) refl
      (All-permutation (λ (k : Man). k.at < 64) q.men (others ++ l ∷ []) (IsPermutation-sym (others ++ l ∷ []) q.men same)
      (decoded_of_numbered c number q at).valid.on_board)).0
    where
      same : IsPermutation (others ++ l ∷ []) q.men
      same = subst (λ (zs : List Man). IsPermutation zs q.men) (sym encodes.0) (encoded_by c number q (decoded_of_numbered c number q at)).same_men

  same : IsPermutation (others ++ l ∷ []) q.men
  same = subst (λ (zs : List Man). IsPermutation zs q.men) (sym encodes.0) (encoded_by c number q (decoded_of_numbered c number q at)).same_men

  pub still_position : AreStillOrNone (others ++ l ∷ []) side → IsQuietPosition q
  still_position (inl still) = (
    λ mate. false≢true (sym still.safe ∙ in_check_same (others ++ l ∷ []) q.men same side
        ∙ ap (λ (s : Side). in_check q.men s) (side_is c number q at (others ++ l ∷ []) side encodes) ∙ mate.0),
    stays_quiet c number q at low (others ++ l ∷ []) side encodes still.spares still.keeps,
  )
  still_position (inr check) = absurd (no_capture_of_king c number q at (others ++ l ∷ []) side encodes
      (sym (in_check_same (others ++ l ∷ []) q.men same (other_side side)) ∙ check))

-- ---- the rank from which a pawn promotes

same_bool : Bool → Bool → Bool
same_bool true b = b
same_bool false b = not b

abbrev pub on_rank_line : ℕ → ℕ → Bool
on_rank_line a y = (a == y || strictly_between a y (a + 7)) || (a + 7 == y)

rank_test : (s : Side) → all_below 64 (λ y. same_bool (on_rank_line (8 * rank_before_last s) y) (rank_of y == rank_before_last s)) ≡ true
unfolding same_bool strictly_between on_bishop_line
rank_test White = refl
rank_test Black = refl

pub on_rank : (s : Side) (y : ℕ) → y < 64 → on_rank_line (8 * rank_before_last s) y ≡ (rank_of y == rank_before_last s)
unfolding same_bool
on_rank s y l = by_test _ _ (at_below 64 (λ y. same_bool (on_rank_line (8 * rank_before_last s) y) (rank_of y == rank_before_last s)) (rank_test s) y l)
  where
    by_test : (b c : Bool) → same_bool b c ≡ true → b ≡ c
    by_test true c e = sym e
    by_test false true e = absurd (false≢true e)
    by_test false false e = refl

pub not_false : (b : Bool) → not b ≡ false → b ≡ true
not_false true e = refl
not_false false e = absurd (false≢true (sym e))
