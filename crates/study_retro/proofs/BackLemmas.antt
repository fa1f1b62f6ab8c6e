-- The positions before quiet moves, by the men that a number encodes.
use Rattle.std.proofs.Common.{◌≡◌, ℕ, ◌+◌, ◌<◌, ◌≤◌, ◌⊎◌, inl, inr, arith, Bool, true, false, List, slice_index, Contains, Option, Some, None, refl}
use Rattle.std.proofs.Common.{sym, ◌∙◌, ap, subst}
use Rattle.std.proofs.lemmas.Bool.{and_parts, false≢true}
use Rattle.std.specs.List.Sorted.{IsPermutation}
use Rattle.study_board.specs.declared.men.Side.{Side}
use Rattle.study_board.specs.declared.men.Kind.{Kind}
use Rattle.study_board.specs.declared.men.Kind.TheVariants.{Queen}
use Rattle.study_board.specs.declared.men.Man.{Man}
use Rattle.study_board.specs.Men.{same_side, other_side}
use Rattle.study_board.specs.Position.{Position, is_occupied}
use Rattle.study_board.proofs.Faults.{is_occupied_same}
use Rattle.study_board.specs.Sets.{has}
use Rattle.study_moves.specs.declared.moves.Move.{Move}
use Rattle.study_moves.specs.Rules.{after, is_legal, is_promotion_choice, reaches_last_rank}
use Rattle.study_moves.specs.Alike.{Leads}
use Rattle.study_moves.specs.Unmoves.{IsQuiet, LeadsQuietly, CanHaveLed, move_from, is_unmove_origin}
use Rattle.study_moves.specs.AnyOrder.{HasOrigins, HasSafeTargets, is_safe_target}
use Rattle.study_moves.proofs.AnyOrder.{men-tell-moves}
use Rattle.study_material.specs.declared.class.Class.{Class}
use Rattle.study_material.specs.Class.{is_of}
use Rattle.study_values.specs.Number.{cells_of, without_bit}
use Rattle.study_index.specs.Decoded.{slots_of, decoded_men, decoded_side}
use Rattle.study_index.specs.Computed.{position_numbered}
use Rattle.study_values.specs.Index.{index_of}
use Rattle.study_index.specs.Moved.{IsMoved}
use Rattle.study_index.proofs.ClassLaws.{below}
use Rattle.study_index.proofs.ComputedIndex.{decoded_of_numbered}
use Rattle.study_index.proofs.DecodedNumbers.{encoded_by}
use Rattle.study_levels.specs.Propagation.{AreAdded, AreLowered, AreSet, IsSetWhere, LeadsTo}
use Rattle.study_table.specs.Table.{Table}
use Rattle.study_values.specs.Cells.{value_of}
use Rattle.study_values.specs.declared.value.Value.TheVariants.{Win}
use Rattle.study_retro.specs.ClassGame.{class_game}
use Rattle.study_levels.specs.Numbered.{Numbered, IsNumberedClass, LosesBy, NoLossBy}
use Rattle.study_retro.specs.Still.{IsWonAfter, QuietMovesLose, QuietMovesLoseBy, move_to}
use Rattle.study_retro.specs.Predecessors.{AreEncoded, IsBefore, IsBeforeBy, IsBeforeFrom, IsNumberBefore, LeavesNone}
use Rattle.study_retro.proofs.EarlierChess.{before_leads, leads_before, leads_numbered, small_index}
use Rattle.study_retro.proofs.MovedSteps.{moved_before, index_after, quiet_below, quiet_label}
use Rattle.study_moves.specs.EnPassant.{has_legal_en_passant}
use Rattle.study_retro.proofs.QuietSteps.{dead_plain}

-- ---- cells

module _ (k : ℕ) (over : Bool) where
  pub set-then : (Why : ℕ → Type 0) (a b c : List ℕ) → AreSet Why k over a b → AreSet Why k over b c → AreSet Why k over a c
  set-then Why a b c f g i = elim (g i) [
    | inl same ↦ elim (f i) [ inl e ↦ inl (same ∙ e) | inr x ↦ inr (x.0, same ∙ x.1, x.2) ]
    | inr y ↦ elim (f i) [
      | inl e ↦ inr (y.0, y.1, subst (λ (n : ℕ). (n ≡ 0) ⊎ (over ≡ true) × (k < n)) e y.2)
      | inr x ↦ inr (x.0, y.1, x.2)
    ]
  ]

  pub set-kept : (Why : ℕ → Type 0) (a b : List ℕ) → AreSet Why k over a b → 0 < k → (i : ℕ) → IsSetWhere k over a i → IsSetWhere k over b i
  set-kept Why a b f pos i h = elim (f i) [
    | inl e ↦ ((λ z. h.0 (sym e ∙ z)), (λ o. let l = h.1 o in omega (arith, l, e)))
    | inr x ↦ ((λ z. let s = x.1 in omega (arith, z, s)), (λ o. let s = x.1 in omega (arith, s)))
  ]

  pub set-why : (Why More : ℕ → Type 0) (a b : List ℕ) → ((i : ℕ) → Why i → More i) → AreSet Why k over a b → AreSet More k over a b
  set-why Why More a b w f i = elim (f i) [ inl e ↦ inl e | inr x ↦ inr (w i x.0, x.1, x.2) ]

-- over greater values cells are lowered; over 0 alone they are added
pub set-lowered : (Why : ℕ → Type 0) (k c : ℕ) (a b : List ℕ) → c ≡ k + 2 → AreSet Why c true a b → AreLowered Why k a b
set-lowered Why k c a b s f i = elim (f i) [
  | inl e ↦ inl e
  | inr x ↦ inr (x.0, x.1 ∙ s, elim x.2 [ inl z ↦ inl z | inr l ↦ inr (let m = l.1 in omega (arith, m, s)) ])
]

pub set-added : (Why : ℕ → Type 0) (k c : ℕ) (a b : List ℕ) → c ≡ k + 2 → AreSet Why c false a b → AreAdded Why k a b
set-added Why k c a b s f i = elim (f i) [
  | inl e ↦ inl e
  | inr x ↦ inr (x.0, x.1 ∙ s, elim x.2 [ inl z ↦ z | inr l ↦ absurd (false≢true l.0) ])
]

-- the results of a departure from a number
pub departed : (c d : Class) (number n x y a k : ℕ) → d ≡ c → n ≡ number → y ≡ x → ((p : Position) → IsMoved d n y a p → index_of p ≡ k)
    → (p : Position) → IsMoved c number x a p → index_of p ≡ k
departed c d number n x y a k e f g fits p moved =
    fits p
    (subst (λ (b : Class). IsMoved b n y a p) (sym e)
    (subst (λ (m : ℕ). IsMoved c m y a p) (sym f) (subst (λ (z : ℕ). IsMoved c number z a p) (sym g) moved)))

-- ---- positions before quiet moves

module _ (c : Class) (number : ℕ) (q : Position) (at : position_numbered c number ≡ Some q) where
  pub one_position : (p : Position) → position_numbered c number ≡ Some p → p ≡ q
  one_position p e = let s : Some p ≡ Some q = sym e ∙ at in cc

  module _ (men : List Man) (side : Side) (encodes : AreEncoded c number men side) where
    pub origins_found : HasOrigins q men
    origins_found =
        let d = decoded_of_numbered c number q at in
        let t = encoded_by c number q d in
        (men-tell-moves q men d.valid (subst (λ (zs : List Man). IsPermutation zs q.men) (sym encodes.0) t.same_men)).1

    pub side_is : side ≡ q.to_move
    side_is = encodes.1 ∙ sym (encoded_by c number q (decoded_of_numbered c number q at)).same_side

    module _ (man : Man) (among : Contains men man) where
      -- an origin of the man gives a position before
      pub came_led : same_side man.side (other_side side) ≡ true → (a : ℕ) → a < 64 → is_unmove_origin men side man a ≡ true → CanHaveLed q (move_from man a)
      came_led s a on e =
          (origins_found.led man a among on).1
          (rw (ap (λ (t : Side). same_side man.side (other_side t)) (sym side_is) ∙ s, ap (λ (t : Side). is_unmove_origin men t man a) (sym side_is) ∙ e) refl)

      -- and only such an origin, and only for the side that moved
      pub led_came : (a n : ℕ) → a < 64 → IsBeforeFrom c number man a n
          → (same_side man.side (other_side side) ≡ true) × (is_unmove_origin men side man a ≡ true)
      led_came a n on b =
          let led : CanHaveLed q (move_from man a) = record {
            from = b.before.from;
            leads = subst (λ (p : Position). LeadsQuietly b.before.from (move_from man a) p) (one_position b.to b.at) b.before.leads;
          } in
          let parts = and_parts (same_side man.side (other_side q.to_move)) (is_unmove_origin men q.to_move man a) ((origins_found.led man a among on).0 led) in
          (ap (λ (t : Side). same_side man.side (other_side t)) side_is ∙ parts.0, ap (λ (t : Side). is_unmove_origin men t man a) side_is ∙ parts.1)

      -- the set of those squares, and a number that fits the position before from one of them
      module _ (all : ℕ) (shown : List Man) (same : shown ≡ men) (came : (a : ℕ) → a < 64 → has all a ≡ is_unmove_origin shown side man a) where
        came_men : (a : ℕ) → a < 64 → has all a ≡ is_unmove_origin men side man a
        came_men a on = came a on ∙ ap (λ (zs : List Man). is_unmove_origin zs side man a) same

        pub before_in : (a : ℕ) → a < 64 → same_side man.side (other_side side) ≡ true → has all a ≡ true → CanHaveLed q (move_from man a)
        before_in a on his e = came_led his a on (sym (came_men a on) ∙ e)

        pub in_before : (a n : ℕ) → a < 64 → IsBeforeFrom c number man a n → has all a ≡ true
        in_before a n on b = came_men a on ∙ (led_came a n on b).1

    -- a number before the number is so by one of the men
    pub before_among : (m : Move) (n : ℕ) → IsNumberBefore c q number m n → (man : Man) × Contains men man × IsBeforeBy c number man n
    before_among m n b =
        let t = origins_found.mover m (record { from = b.from; leads = b.leads }) in (
          t.0,
          t.1,
          (
            m.origin,
            t.2,
            record { to = q; at = at; before = subst (λ (x : Move). IsNumberBefore c q number x n) t.3 b },
          ),
        )

    pub before_found : (n : ℕ) → IsBefore c number n → (man : Man) × Contains men man × IsBeforeBy c number man n
    before_found n h =
        let b = h.1.2 in
        before_among (move_from h.0 h.1.0) n (subst (λ (p : Position). IsNumberBefore c p number (move_from h.0 h.1.0) n) (one_position b.to b.at) b.before)

  -- the numbers before a number by a man from a square, if a number fits each position without a passed square before it
  module _ (man : Man) (a k : ℕ) (fits : (p : Position) → IsMoved c number man.at a p → index_of p ≡ k) where
    pub before_is : (n : ℕ) → IsBeforeFrom c number man a n → (n ≡ k) ⊎ (n ≡ k + 16777216) × ((p : Position) × (position_numbered c n ≡ Some p))
    before_is n b =
        subst (λ (j : ℕ). (n ≡ j) ⊎ (n ≡ j + 16777216) × ((p : Position) × (position_numbered c n ≡ Some p)))
        (fits b.before.from (moved_before c number b.to b.at b.before.from (move_from man a) b.before.leads)) b.before.is

    module _ (h : CanHaveLed q (move_from man a)) where
      fits_before : index_of h.from ≡ k
      fits_before = fits h.from (moved_before c number q at h.from (move_from man a) h.leads)

      pub small_before : k < 16777216
      small_before = subst (λ (n : ℕ). n < 16777216) fits_before (small_index h.from h.leads.valid h.leads.unpassed)

      module _ (lands : index_of (after h.from (move_from man a)) ≡ number) where
        pub is_before : IsBeforeFrom c number man a k
        is_before = record { to = q; at = at; before = record { from = h.from; leads = h.leads; lands = lands; is = inl (sym fits_before) } }

        pub twin_before : (p : Position) → position_numbered c (k + 16777216) ≡ Some p → IsBeforeFrom c number man a (k + 16777216)
        twin_before p there = record {
          to = q;
          at = at;
          before = record { from = h.from; leads = h.leads; lands = lands; is = inr (ap (λ (n : ℕ). n + 16777216) (sym fits_before), (p, there)) };
        }

-- ---- positions after quiet moves

module _ (c : Class) (number : ℕ) (q : Position) (at : position_numbered c number ≡ Some q) (plain : number < 16777216) (men : List Man)
    (side : Side) (encodes : AreEncoded c number men side) where
  dead : has_legal_en_passant q ≡ false
  dead = dead_plain c number q at plain

  pub targets_found : HasSafeTargets q men
  targets_found =
      let d = decoded_of_numbered c number q at in
      let t = encoded_by c number q d in
      (men-tell-moves q men d.valid (subst (λ (zs : List Man). IsPermutation zs q.men) (sym encodes.0) t.same_men)).0
      dead

  pub occupied_same : (x : ℕ) → is_occupied men x ≡ is_occupied q.men x
  occupied_same x =
      is_occupied_same men q.men (subst (λ (zs : List Man). IsPermutation zs q.men) (sym encodes.0)
      (encoded_by c number q (decoded_of_numbered c number q at)).same_men) x

  -- a quiet move of a man to a safe target is legal, and its number fits
  module _ (man : Man) (among : Contains men man) (his : same_side man.side side ≡ true) (x : ℕ) (on : x < 64) where
    module _ (safe : is_safe_target men side man x ≡ true) (free : is_occupied men x ≡ false) (stays : reaches_last_rank man x ≡ false) where
      pub safe_legal : is_legal q (move_to man x) ≡ true
      safe_legal =
          targets_found.legal man (move_to man x) among refl on
          ∙ rw (
            ap (λ (t : Side). same_side man.side t) (sym (side_is c number q at men side encodes)) ∙ his,
            ap (λ (t : Side). is_safe_target men t man x) (sym (side_is c number q at men side encodes)) ∙ safe,
            stays,
          ) refl

      safe_quiet : IsQuiet q (move_to man x)
      safe_quiet = (sym (occupied_same x) ∙ free, refl)

      module _ (held : List (Option Table)) (laws : IsNumberedClass (class_game c held)) (cells : List ℕ) (k : ℕ) (fits : (p : Position)
          → IsMoved c number man.at x p → index_of p ≡ k) (leaves : LeavesNone c man.at x k) where
        safe_index : index_of (after q (move_to man x)) ≡ k
        safe_index = index_after c number q at dead (move_to man x) safe_legal safe_quiet k fits leaves

        pub safe_below : k < cells_of c
        safe_below = quiet_below c number q at dead (move_to man x) safe_legal safe_quiet held laws cells k safe_index

        -- if the move does not lead to a won position, the position does not lose
        pub safe_escape : (level : ℕ) → (((m : ℕ) × (value_of (slice_index cells k) ≡ Win m) × (m ≤ level)) → ⊥)
            → NoLossBy (class_game c held) cells level number
        safe_escape level unwon p e h =
            let same = one_position c number q at p e in
            let w = subst (λ (r : Position). LosesBy (class_game c held) cells level r) same h in
            let t = w.each (after q (move_to man x)) (move_to man x, safe_legal, refl) in
            unwon (t.0, quiet_label c number q at dead (move_to man x) safe_legal safe_quiet held laws cells k safe_index ∙ t.1, t.2)

        -- if it leads to a won position, the move leads to a win
        pub safe_won : (level : ℕ) → ((m : ℕ) × (value_of (slice_index cells k) ≡ Win m) × (m ≤ level))
            → (p : Position) → position_numbered c number ≡ Some p → IsWonAfter (class_game c held) cells level p (move_to man x)
        safe_won level w p e =
            subst (λ (r : Position). IsWonAfter (class_game c held) cells level r (move_to man x)) (sym (one_position c number q at p e))
            (w.0, sym (quiet_label c number q at dead (move_to man x) safe_legal safe_quiet held laws cells k safe_index) ∙ w.1, w.2)

  -- the properties of a legal move of a man
  pub safe_by : (m : Move) → is_legal q m ≡ true → (man : Man) → Contains men man → m.origin ≡ man.at
      → (m.target < 64) × (same_side man.side side ≡ true) × (is_safe_target men side man m.target ≡ true)
  safe_by m legal man among origin =
      let on = (targets_found.mover m legal).3 in
      let is = and_parts _ _ (sym (targets_found.legal man m among origin on) ∙ legal) in
      let own = and_parts _ _ is.0 in (
        on,
        ap (λ (t : Side). same_side man.side t) (side_is c number q at men side encodes) ∙ own.0,
        ap (λ (t : Side). is_safe_target men t man m.target) (side_is c number q at men side encodes) ∙ own.1,
      )

  -- a legal move without a promotion does not reach the last rank
  pub safe_plain : (m : Move) → is_legal q m ≡ true → (man : Man) → Contains men man → m.origin ≡ man.at → m.promoted ≡ None
      → reaches_last_rank man m.target ≡ false
  safe_plain m legal man among origin none =
      let on = (targets_found.mover m legal).3 in
      let is = and_parts _ _ (sym (targets_found.legal man m among origin on) ∙ legal) in
      unreached (reaches_last_rank man m.target) (sym (ap (λ (o : Option Kind). is_promotion_choice (reaches_last_rank man m.target) o) none) ∙ is.1)
    where
      unreached : (b : Bool) → is_promotion_choice b None ≡ true → b ≡ false
      unreached false e = refl
      unreached true e = absurd (false≢true e)

  -- if the quiet moves of each man lose, all do
  pub lose_each : (g : Numbered Position) (cells : List ℕ) (k : ℕ) → ((man : Man) → Contains men man → QuietMovesLoseBy g cells k q man)
      → QuietMovesLose g cells k q
  lose_each g cells k each m legal quiet =
      let t = targets_found.mover m legal in
      let same : m ≡ move_to t.0 m.target = by_fields m t.0 t.2 quiet.1 in
      subst (λ (x : Move). IsWonAfter g cells k q x) (sym same)
      (each t.0 t.1 m.target (subst (λ (x : Move). is_legal q x ≡ true) same legal) (quiet.0, refl))
    where
      by_fields : (m : Move) (man : Man) → m.origin ≡ man.at → m.promoted ≡ None → m ≡ move_to man m.target
      by_fields m man o p =
          ap (λ (a : ℕ). let r : Move = record { origin = a; target = m.target; promoted = m.promoted } in r) o
          ∙ ap (λ (k : Option Kind). let r : Move = record { origin = man.at; target = m.target; promoted = k } in r) p

  -- a man with a safe target has a legal move
  pub some_legal : (man : Man) → Contains men man → same_side man.side side ≡ true → (x : ℕ) → x < 64 → is_safe_target men side man x ≡ true
      → (m : Move) × (is_legal q m ≡ true)
  some_legal man among his x on safe =
      let choice : Option Kind = chosen (reaches_last_rank man x) in
      let m : Move = record { origin = man.at; target = x; promoted = choice } in (
        m,
        targets_found.legal man m among refl on
            ∙ rw (
              ap (λ (t : Side). same_side man.side t) (sym (side_is c number q at men side encodes)) ∙ his,
              ap (λ (t : Side). is_safe_target men t man x) (sym (side_is c number q at men side encodes)) ∙ safe,
            ) (is_chosen (reaches_last_rank man x)),
      )
    where
      chosen : Bool → Option Kind
      chosen true = Some Queen
      chosen false = None

      is_chosen : (b : Bool) → is_promotion_choice b (chosen b) ≡ true
      is_chosen true = refl
      is_chosen false = refl

-- ---- positions before them, in a game of numbers

-- a number that leads to the number is before it
pub leads_is_before : (c : Class) (number i : ℕ) → LeadsTo Leads (is_of c) index_of (position_numbered c) i number → IsBefore c number i
leads_is_before c number i t =
    let q = leads_numbered c number i t in
    let b = leads_before c number i q.0 q.1 t in
    let h =
    before_among c number q.0 q.1 (decoded_men (slots_of c) (without_bit number)) (decoded_side (slots_of c) (without_bit number)) (refl, refl) b.by i b.is in
    (h.0, h.2)

-- a number before the number leads to it
pub before_is_leads : (c : Class) (number i : ℕ) → IsBefore c number i → LeadsTo Leads (is_of c) index_of (position_numbered c) i number
before_is_leads c number i h = let b = h.1.2 in before_leads c number i b.to (move_from h.0 h.1.0) b.at b.before

-- and is below the cells of the class
pub before_below : (c : Class) (number : ℕ) (man : Man) (a i : ℕ) → IsBeforeFrom c number man a i → i < cells_of c
before_below c number man a i b =
    let t = before_leads c number i b.to (move_from man a) b.at b.before in
    below c i t.0 (decoded_of_numbered c i t.0 t.2)
