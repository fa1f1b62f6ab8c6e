-- If nothing is attacked and no pawn is about to promote, each move is quiet.
use Rattle.std.proofs.Common.{◌≡◌, ℕ, zero, suc, ◌<◌, ◌==◌, inl, inr, arith, Bool, true, false, not, ◌&&◌, List, [], ◌∷◌, length, get_or, Contains}
use Rattle.std.proofs.Common.{Option, Some, None, refl, sym, ◌∙◌, ap, subst}
use Rattle.std.specs.List.{list_any}
use Rattle.std.specs.List.Sorted.{IsPermutation}
use Rattle.std.proofs.lemmas.List.Sorted.{All-permutation, IsPermutation-refl, IsPermutation-sym}
use Rattle.std.proofs.lemmas.Bool.{and_parts, cases_Bool, eqb-true, eq-eqb, false≢true}
use Rattle.study_board.specs.declared.men.Side.{Side}
use Rattle.study_board.specs.declared.men.Side.TheVariants.{White, Black}
use Rattle.study_board.specs.declared.men.Kind.TheVariants.{King, Pawn}
use Rattle.study_board.specs.declared.men.Man.{Man}
use Rattle.study_board.specs.Geometry.{rank_of}
use Rattle.study_board.specs.Men.{attacks_square, is_attacked, is_man, is_pawn, other_side, same_side}
use Rattle.study_board.specs.Position.{Position, in_check, is_occupied}
use Rattle.study_board.specs.EqualLaws.{sides_equal}
use Rattle.study_board.specs.Sets.{has}
use Rattle.study_board.proofs.Faults.{in_check_same}
use Rattle.study_board.proofs.Valid.{IsFaultless, IsFaultless-from_first}
use Rattle.study_moves.specs.declared.moves.Move.{Move}
use Rattle.study_moves.specs.Rules.{after, has_side, is_legal, is_promotion_choice, reaches_last_rank, reaches_target}
use Rattle.study_moves.specs.AnyOrder.{HasSafeTargets, is_safe_target}
use Rattle.study_moves.proofs.AnyOrder.{men-tell-moves}
use Rattle.study_moves.specs.Unmoves.{IsQuiet}
use Rattle.study_moves.proofs.HowMenGo.{bears_or_empty}
use Rattle.study_moves.proofs.MenOfList.{All-among, IsAmong, list_any-none, none_among}
use Rattle.study_material.specs.declared.class.Class.{Class}
use Rattle.study_material.specs.Class.{is_of}
use Rattle.study_material.proofs.Classes.{is_of-IsOf}
use Rattle.study_index.specs.Computed.{position_numbered}
use Rattle.study_index.proofs.ComputedIndex.{decoded_of_numbered}
use Rattle.study_index.proofs.DecodedNumbers.{encoded_by}
use Rattle.study_moves.specs.Game.{IsMate}
use Rattle.study_table.specs.Table.{Table}
use Rattle.study_retro.specs.ClassGame.{class_game}
use Rattle.study_levels.specs.Numbered.{CellIsHeld, IsNumberedClass, OutsideIsRight, leads_in}
use Rattle.study_levels.specs.Propagation.{IsHeldCell}
use Rattle.study_retro.specs.Predecessors.{AreEncoded}
use Rattle.study_levels.proofs.FirstLemmas.{held-draw}
use Rattle.study_retro.specs.Still.{is_about_to_promote, HasOnlyQuiet, IsQuietPosition, rank_before_last}
use Rattle.study_retro.proofs.LeavingLemmas.{far_plain, unpromoted}
use Rattle.study_retro.proofs.BackLemmas.{occupied_same, side_is, targets_found}
use Rattle.study_retro.proofs.MovedSteps.{quiet_stays}
use Rattle.study_retro.proofs.QuietSteps.{dead_plain}
use Rattle.study_moves.specs.EnPassant.{has_legal_en_passant}

pub among-of : (xs : List Man) (m : Man) → Contains xs m → IsAmong m xs
among-of [] m c = absurd (omega (arith, c.1))
among-of (x ∷ xs) m c = by_index (among-of xs m) c.0 c.1 c.2
  where
    by_index : (Contains xs m → IsAmong m xs) → (i : ℕ) → i < length (x ∷ xs) → get_or (x ∷ xs) i m ≡ m → IsAmong m (x ∷ xs)
    by_index f zero l e = inl e
    by_index f (suc i) l e = inr (f (i, omega arith, e))

other_than : (s t : Side) → same_side s t ≡ false → same_side s (other_side t) ≡ true
other_than White White e = absurd (let no : true ≡ false = e in cc)
other_than White Black e = refl
other_than Black White e = refl
other_than Black Black e = absurd (let no : true ≡ false = e in cc)

first_false : (a b : Bool) → (a && b) ≡ false → b ≡ true → a ≡ false
first_false false b e f = refl
first_false true b e f = absurd (false≢true (sym e ∙ f))

last_false : (a b : Bool) → (a && b) ≡ false → a ≡ true → b ≡ false
last_false true b e f = e
last_false false b e f = absurd (false≢true f)

-- the men of the side to move, none of which attacks another, go to empty squares
module _ (men : List Man) (side : Side) where
  module _ (takes : list_any (λ m. same_side m.side (other_side side) && is_attacked men side m.at) men ≡ false) (man : Man) (among : IsAmong
      man men) (his : same_side man.side side ≡ true) (x : ℕ) where
    target_empty : reaches_target men None man x ≡ true → has_side men side x ≡ false → is_occupied men x ≡ false
    unfolding is_occupied has_side is_attacked
    target_empty goes own = elim (bears_or_empty men None man x goes) [
      | inr e ↦ empty (is_occupied men x) e
      | inl bears ↦ list_any-none (λ m. m.at == x) men (λ m i. by_test m i bears (m.at == x) refl)
    ]
      where
        empty : (b : Bool) → not b ≡ true → b ≡ false
        empty false e = refl
        empty true e = absurd (false≢true e)

        by_test : (m : Man) → IsAmong m men → attacks_square men man x ≡ true → (b : Bool) → (m.at == x) ≡ b → b ≡ false
        by_test m i bears false e = refl
        by_test m i bears true e =
            let mine = first_false _ _ (none_among (λ k. same_side k.side side && (k.at == x)) men m own i) e in
            let free = last_false _ _ (none_among (λ k. same_side k.side (other_side side)
            && list_any (λ n. same_side n.side side && attacks_square men n k.at) men) men m takes i) (other_than m.side side mine) in
            let at : m.at ≡ x = eqb-true m.at x e in
            absurd (false≢true (sym (none_among (λ n. same_side n.side side && attacks_square men n m.at) men man free among)
            ∙ rw (his, at, bears) refl))

  -- nor does a pawn of theirs reach its last rank
  module _ (promotes : list_any (λ m. is_man side Pawn m && (rank_of m.at == rank_before_last side)) men ≡ false) (man : Man) (among : IsAmong
      man men) (his : same_side man.side side ≡ true) (x : ℕ) where
    target_plain : reaches_target men None man x ≡ true → reaches_last_rank man x ≡ false
    target_plain goes = elim (cases_Bool (is_about_to_promote man)) [
      | inr far ↦ far_plain men man x goes far
      | inl near ↦ (
          let h = and_parts (is_pawn man) (rank_of man.at == rank_before_last man.side) near in
          let pawn : is_pawn man ≡ true = h.0 in
          let rank : rank_of man.at ≡ rank_before_last side = eqb-true _ _ h.1 ∙ ap (λ (s : Side). rank_before_last s) (sides_equal man.side side his) in
          absurd (false≢true (sym (none_among (λ m. is_man side Pawn m && (rank_of m.at == rank_before_last side)) men man promotes among)
          ∙ rw (his, pawn, eq-eqb _ _ rank) refl)))
    ]

pub not_true : (b : Bool) → not b ≡ true → b ≡ false
not_true false e = refl
not_true true e = absurd (false≢true e)

-- a man that bears on no man of the other side captures none
module _ (men : List Man) (side : Side) (man : Man) (ours : ℕ) (word : (x : ℕ) → x < 64 → has ours x ≡ attacks_square men man x) where
  pub takes_none : list_any (λ m. same_side m.side (other_side side) && has ours m.at) men ≡ false → (o : Man) → Contains men o → o.at < 64
      → is_safe_target men side man o.at ≡ true → ⊥
  unfolding is_safe_target is_occupied has_side
  takes_none none o among on safe =
      let goes = and_parts _ _ (and_parts _ _ safe).0 in
      let own : has_side men side o.at ≡ false = not_true _ goes.1 in
      elim (bears_or_empty men None man o.at goes.0) [
        | inr e ↦
            false≢true (sym (none_among (λ m. m.at == o.at) men o (not_true _ e) (among-of men o among)) ∙ eq-eqb o.at o.at refl)
        | inl bears ↦
            let mine = first_false _ _ (none_among (λ k. same_side k.side side && (k.at == o.at)) men o own (among-of men o among)) (eq-eqb o.at o.at refl) in
            false≢true (sym (none_among (λ m. same_side m.side (other_side side) && has ours m.at) men o none (among-of men o among))
            ∙ rw (other_than o.side side mine, word o.at on ∙ bears) refl)
      ]

-- so each move is quiet
pub stays_quiet : (c : Class) (number : ℕ) (q : Position) → position_numbered c number ≡ Some q → number < 16777216
    → (men : List Man) (side : Side) → AreEncoded c number men side
    → list_any (λ m. same_side m.side (other_side side) && is_attacked men side m.at) men ≡ false
    → list_any (λ m. is_man side Pawn m && (rank_of m.at == rank_before_last side)) men ≡ false → HasOnlyQuiet q
unfolding is_safe_target
stays_quiet c number q at low men side encodes takes promotes = quiet
  where
    turn : side ≡ q.to_move
    turn = side_is c number q at men side encodes

    quiet : (m : Move) → is_legal q m ≡ true → IsQuiet q m
    quiet m legal =
        let targets = targets_found c number q at low men side encodes in
        let t = targets.mover m legal in
        let man = t.0 in
        let is = and_parts _ _ (sym (targets.legal man m t.1 t.2 t.3) ∙ legal) in
        let own = and_parts _ _ is.0 in
        by_parts m man t.1 own.0 own.1 is.1
      where
        by_parts : (m : Move) (man : Man) → Contains men man → same_side man.side q.to_move ≡ true → is_safe_target men q.to_move man m.target ≡ true
            → is_promotion_choice (reaches_last_rank man m.target) m.promoted ≡ true → IsQuiet q m
        by_parts m man among own safe choice =
            let his : same_side man.side side ≡ true = ap (λ (t : Side). same_side man.side t) turn ∙ own in
            let goes = and_parts _ _ (and_parts _ _ safe).0 in
            let free = target_empty men side takes man (among-of men man among) his m.target goes.0
            (ap (λ (t : Side). has_side men t m.target) turn ∙ not_true (has_side men q.to_move m.target) goes.1) in
            let plain = target_plain men side promotes man (among-of men man among) his m.target goes.0 in
            (sym (occupied_same c number q at low men side encodes m.target) ∙ free, unpromoted (reaches_last_rank man m.target) m.promoted plain choice)

-- ---- sets of squares

pub attacked_is : (men : List Man) (side : Side) (x : ℕ) → list_any (λ m. same_side m.side side && attacks_square men m x) men ≡ is_attacked men side x
unfolding is_attacked
attacked_is men side x = refl

pub other_other : (s : Side) → s ≡ other_side (other_side s)
other_other White = refl
other_other Black = refl

-- tests that agree at each man of a list agree on it
any_alike : (p r : Man → Bool) (xs : List Man) → ((m : Man) → IsAmong m xs → p m ≡ r m) → list_any p xs ≡ list_any r xs
any_alike p r [] h = refl
any_alike p r (x ∷ xs) h = rw (h x (inl refl), any_alike p r xs (λ m i. h m (inr i)))

-- the encoded men determine the position
module _ (c : Class) (number : ℕ) (q : Position) (at : position_numbered c number ≡ Some q) (men : List Man) (side : Side)
    (encodes : AreEncoded c number men side) where
  decoded_men_are : IsPermutation men q.men
  decoded_men_are = subst (λ (zs : List Man). IsPermutation zs q.men) (sym encodes.0) (encoded_by c number q (decoded_of_numbered c number q at)).same_men

  on_board : (m : Man) → IsAmong m men → m.at < 64
  on_board m i =
      All-among (λ (k : Man). k.at < 64) men m
      (All-permutation (λ (k : Man). k.at < 64) q.men men (IsPermutation-sym men q.men decoded_men_are) (decoded_of_numbered c number q at).valid.on_board) i

  faultless : IsFaultless q.men q.to_move q.passed
  faultless = IsFaultless-from_first q.men q.to_move q.passed (decoded_of_numbered c number q at).valid.faultless

  -- a set of the squares on which the men of a side bear
  module _ (by : Side) (set : ℕ) (word : (x : ℕ) → x < 64 → has set x ≡ is_attacked men by x) where
    pub by_word : (p : Man → Bool) → list_any (λ m. p m && has set m.at) men ≡ list_any (λ m. p m && is_attacked men by m.at) men
    by_word p = any_alike (λ m. p m && has set m.at) (λ m. p m && is_attacked men by m.at) men
        (λ m i. ap (λ (b : Bool). p m && b) (word m.at (on_board m i)))

    -- the side is in check exactly if a king of it is on the set
    pub check_by_word : (s : Side) → by ≡ other_side s → list_any (λ m. is_man s King m && has set m.at) men ≡ in_check q.men s
    unfolding in_check
    check_by_word s o =
        by_word (λ m. is_man s King m)
        ∙ ap (λ (t : Side). list_any (λ m. is_man s King m && is_attacked men t m.at) men) o
        ∙ in_check_same men q.men decoded_men_are s

  -- if the side to move bears on the other king the position is not valid
  pub no_capture_of_king : in_check q.men (other_side side) ≡ true → ⊥
  no_capture_of_king e =
      false≢true (sym faultless.safe ∙ ap (λ (t : Side). in_check q.men (other_side t)) (sym (side_is c number q at men side encodes)) ∙ e)

-- before the levels the cell of its number is 0, as is that of a number without a position
pub still_held : (c : Class) (held : List (Option Table)) (number : ℕ) → IsNumberedClass (class_game c held) → OutsideIsRight (class_game c held)
    → ((q : Position) → position_numbered c number ≡ Some q → (number < 16777216) × IsQuietPosition q) → CellIsHeld (class_game c held) false 0 number 0
still_held c held number laws outer still = by_position (position_numbered c number) refl
  where
    Held : Option Position → Type 0
    Held o = IsHeldCell (leads_in (class_game c held)) IsMate (is_of c) false 0 o 0

    by_position : (o : Option Position) → position_numbered c number ≡ o → Held (position_numbered c number)
    by_position None e = subst Held (sym e) refl
    by_position (Some q) e =
        let d = laws.decoded number q e in
        let low = (still q e).0 in
        let s = (still q e).1 in
        subst Held (sym e)
        (held-draw laws outer q d.0 d.1 s.0 false (record {
          no_loss = λ r m l. absurd (leaves q e low s r l);
          holds = inr ((λ x. x), (λ r l. leaves q e low s r l));
        }))
      where
        leaves : (q : Position) → position_numbered c number ≡ Some q → number < 16777216 → IsQuietPosition q → (r : Position)
            → leads_in (class_game c held) q r × (is_of c r ≡ false) → ⊥
        leaves q e low s r l =
            let home = is_of-IsOf c (after q l.0.0) (quiet_stays c number q e (dead_plain c number q e low) l.0.0 l.0.1 (s.1 l.0.0 l.0.1)) in
            false≢true (sym l.1 ∙ ap (λ (p : Position). is_of c p) (sym l.0.2) ∙ home)

-- ---- the legal moves by the men of the position

module _ (c : Class) (number : ℕ) (q : Position) (at : position_numbered c number ≡ Some q) (dead : has_legal_en_passant q ≡ false) where
  -- the men of the position determine its legal moves
  pub own_targets : HasSafeTargets q q.men
  own_targets =
      let d = decoded_of_numbered c number q at in
      (men-tell-moves q q.men d.valid (IsPermutation-refl q.men)).0 dead
