-- The numbers after a quiet move and before it.
use Rattle.std.proofs.Common.{inl, inr, ◌≡◌, ℕ, ◌<◌, ◌==◌, eqb, Bool, true, false, cond, ◌||◌, List, [], ◌∷◌, map, slice_index, Option, Some}
use Rattle.std.proofs.Common.{refl, sym, ◌∙◌, ap, subst, arith}
use Rattle.std.specs.List.{list_any}
use Rattle.std.specs.List.Sorted.{IsPermutation}
use Rattle.std.proofs.lemmas.Bool.{eqb-true}
use Rattle.std.proofs.lemmas.Bool.Decides.{nat_tests}
use Rattle.std.proofs.lemmas.List.Sorted.{IsPermutation-trans, IsPermutation-sym, IsPermutation-map}
use Rattle.study_board.specs.declared.men.Side.{Side}
use Rattle.study_board.specs.declared.men.Side.TheVariants.{White, Black}
use Rattle.study_board.specs.declared.men.Man.{Man}
use Rattle.study_board.specs.Men.{other_side, moved_if}
use Rattle.study_board.specs.Position.{Position, IsValid, is_occupied}
use Rattle.study_moves.specs.declared.moves.Move.{Move}
use Rattle.study_moves.specs.Rules.{is_legal, after, is_en_passant}
use Rattle.study_moves.specs.EnPassant.{is_capturable_en_passant, has_legal_en_passant, without_passed}
use Rattle.study_moves.specs.Unmoves.{IsQuiet, LeadsQuietly}
use Rattle.study_moves.proofs.AfterMove.{IsValid-after}
use Rattle.study_material.specs.declared.class.Class.{Class}
use Rattle.study_material.specs.Lists.{ordered_lists}
use Rattle.study_material.specs.Class.{lists_of, IsOf}
use Rattle.study_material.proofs.Classes.{is_of-IsOf}
use Rattle.study_values.specs.Number.{with_bit, without_bit, has_both_pawns, cells_of}
use Rattle.study_index.specs.Decoded.{slots_of, decoded_men, decoded_side}
use Rattle.study_index.specs.Computed.{position_numbered}
use Rattle.study_values.specs.Index.{index_of, least_number}
use Rattle.study_index.specs.Moved.{IsMoved}
use Rattle.study_index.proofs.ClassLaws.{entry}
use Rattle.study_index.proofs.ComputedIndex.{decoded_of_numbered}
use Rattle.study_index.proofs.DecodedNumbers.{encoded_by}
use Rattle.study_index.proofs.LivePassing.{not_live_passed}
use Rattle.study_table.specs.Table.{Table}
use Rattle.study_values.specs.Cells.{value_of}
use Rattle.study_retro.specs.ClassGame.{class_game}
use Rattle.study_levels.specs.Numbered.{IsNumberedClass, label_by}
use Rattle.study_retro.specs.Predecessors.{LeavesNone}
use Rattle.study_moves.proofs.NoMoveBetween.{HasMover-from_is_legal}
use Rattle.study_table.proofs.ClassLemmas.{label-home}
use Rattle.study_retro.proofs.QuietClass.{quiet_men, quiet_lists, unpassing}
use Rattle.study_retro.proofs.QuietSteps.{other_turn, dead_of, dead_after}
use Rattle.study_retro.proofs.EarlierChess.{lands_home, numbered_index, valid_without}
use Rattle.study_retro.proofs.Twins.{dead_without_en_passant}

-- a man that moves to an empty square and back
man_back : (x a : ℕ) (m : Man) → (m.at == a) ≡ false → moved_if a x (moved_if x a m) ≡ m
man_back x a m e = by_test (m.at == x) refl
  where
    by_test : (b : Bool) → (m.at == x) ≡ b → moved_if a x (cond b (let r : Man = record { side = m.side; kind = m.kind; at = a } in r) m) ≡ m
    by_test true t =
        let same : eqb a a ≡ true = grind (arith, nat_tests) in
        let at : x ≡ m.at = sym (eqb-true m.at x t) in
        rw same (ap (λ (y : ℕ). let r : Man = record { side = m.side; kind = m.kind; at = y } in r) at)
    by_test false t = rw e refl

men_back : (x a : ℕ) (ms : List Man) → is_occupied ms a ≡ false → map (moved_if a x) (map (moved_if x a) ms) ≡ ms
unfolding is_occupied
men_back x a [] e = refl
men_back x a (m ∷ ms) e = by_test (m.at == a) refl e (men_back x a ms)
  where
    by_test : (b : Bool) → (m.at == a) ≡ b → (b || list_any (λ y. y.at == a) ms) ≡ false
        → (list_any (λ y. y.at == a) ms ≡ false → map (moved_if a x) (map (moved_if x a) ms) ≡ ms)
        → moved_if a x (moved_if x a m) ∷ map (moved_if a x) (map (moved_if x a) ms) ≡ m ∷ ms
    by_test true t o f = absurd (let no : true ≡ false = o in cc)
    by_test false t o f =
        ap (λ (z : Man). z ∷ map (moved_if a x) (map (moved_if x a) ms)) (man_back x a m t) ∙ ap (λ (zs : List Man). m ∷ zs) (f o)

other_again : (s : Side) → other_side (other_side s) ≡ s
other_again White = refl
other_again Black = refl

-- the number does not encode a passed square on which no capture is legal
plain_index : (x y : Position) → has_legal_en_passant x ≡ false → has_legal_en_passant y ≡ false → without_passed x ≡ without_passed y → index_of x ≡ index_of y
unfolding index_of least_number
plain_index x y d e s =
    ap (λ (b : Bool). with_bit b (least_number x)) d ∙ ap (λ (z : Position). least_number z) s ∙ sym (ap (λ (b : Bool). with_bit b (least_number y)) e)

-- a move that leaves no capture in passing
dead_left : (c : Class) (x r : Position) (m : Move) → after r m ≡ x → IsValid x → IsOf c x → is_legal r m ≡ true → (k : ℕ)
    → index_of (without_passed x) ≡ k → LeavesNone c m.origin m.target k → has_legal_en_passant x ≡ false
dead_left c x r m e v o legal k is (inl passes) =
    subst (λ (y : Position). has_legal_en_passant y ≡ false) e (dead_after c r m (subst IsValid (sym e) v) (subst (λ (y : Position). IsOf c y) (sym e) o)
    legal passes)
dead_left c x r m e v o legal k is (inr none) = dead_without_en_passant c x v o k is none

module _ (c : Class) (n : ℕ) (q : Position) (at : position_numbered c n ≡ Some q) where
  -- the position before a quiet move
  pub moved_before : (r : Position) (m : Move) → LeadsQuietly r m q → IsMoved c n m.target m.origin r
  moved_before r m b =
      let t = encoded_by c n q (decoded_of_numbered c n q at) in
      let f = moved_if m.origin m.target in
      let g = moved_if m.target m.origin in
      let encodes = decoded_men (slots_of c) (without_bit n) in
      let men : (after r m).men ≡ q.men = ap (λ (p : Position). p.men) b.leads in
      let turn : (after r m).to_move ≡ q.to_move = ap (λ (p : Position). p.to_move) b.leads in
      let moved : IsPermutation (map f r.men) q.men =
      subst (λ (zs : List Man). IsPermutation (map f r.men) zs) men
      (quiet_men r m b.valid b.legal (unpassing r m b.valid b.legal b.unpassed) b.quiet) in
      let to : IsPermutation (map f r.men) encodes = IsPermutation-trans (map f r.men) q.men encodes moved (IsPermutation-sym encodes q.men t.same_men) in
      let other : other_side r.to_move ≡ decoded_side (slots_of c) (without_bit n) = sym (other_turn r m b.legal) ∙ (turn ∙ t.same_side) in
      record {
        valid = b.valid;
        men = subst (λ (zs : List Man). IsPermutation zs (map g encodes)) (men_back m.origin m.target r.men b.quiet.0)
            (IsPermutation-map g (map f r.men) encodes to);
        to_move = sym (other_again r.to_move) ∙ ap (λ s. other_side s) other;
        dead = ap (λ (o : Option ℕ). is_capturable_en_passant r o) b.unpassed;
      }

  -- it leads to the number, if no capture in passing is legal in either position
  pub lands_there : has_legal_en_passant q ≡ false → (r : Position) (m : Move) → LeadsQuietly r m q → has_legal_en_passant (after r m) ≡ false
      → index_of (after r m) ≡ n
  lands_there dead r m b gone = plain_index (after r m) q gone dead b.leads ∙ numbered_index c n q at

  -- the same if the move leaves none
  pub lands_left : has_legal_en_passant q ≡ false → (r : Position) (m : Move) → LeadsQuietly r m q → LeavesNone c m.origin m.target n → index_of (after r m) ≡ n
  lands_left dead r m b leaves =
      let w = IsValid-after r m b.valid b.legal in
      let bare : index_of (without_passed (after r m)) ≡ n =
      plain_index (without_passed (after r m)) q refl dead b.leads ∙ numbered_index c n q at in
      lands_there dead r m b (dead_left c (after r m) r m refl w (lands_home c n q r m at b) b.legal n bare leaves)

  -- and if only one side has pawns
  pub lands_single : has_both_pawns (lists_of c) ≡ false → (r : Position) (m : Move) → LeadsQuietly r m q → index_of (after r m) ≡ n
  lands_single single r m b =
      let d = decoded_of_numbered c n q at in
      lands_there (dead_of c q d.valid (entry c n q d).of_class single) r m b
      (dead_of c (after r m) (IsValid-after r m b.valid b.legal) (lands_home c n q r m at b) single)

  module _ (dead : has_legal_en_passant q ≡ false) (m : Move) (legal : is_legal q m ≡ true) (quiet : IsQuiet q m) where
    no_passing : is_en_passant q.passed (HasMover-from_is_legal q m legal).man m.target ≡ false
    no_passing =
        let d = decoded_of_numbered c n q at in
        unpassing q m d.valid legal (not_live_passed q (entry c n q d).is_bare dead)

    pub quiet_stays : IsOf c (after q m)
    quiet_stays =
        let d = decoded_of_numbered c n q at in
        (entry c n q d).of_class ∙ ap (λ l. ordered_lists l) (sym (quiet_lists q m d.valid legal no_passing quiet))

    -- the position after a quiet move, without its passed square
    moved_bare : IsMoved c n m.origin m.target (without_passed (after q m))
    moved_bare =
        let d = decoded_of_numbered c n q at in
        let t = encoded_by c n q d in
        let encodes = decoded_men (slots_of c) (without_bit n) in
        let f = moved_if m.origin m.target in
        let moved = quiet_men q m d.valid legal no_passing quiet in
        record {
          valid = valid_without (after q m) (IsValid-after q m d.valid legal);
          men = IsPermutation-trans (after q m).men (map f q.men) (map f encodes) (IsPermutation-sym (map f q.men) (after q m).men moved)
              (IsPermutation-map f q.men encodes (IsPermutation-sym encodes q.men t.same_men));
          to_move = other_turn q m legal ∙ ap (λ s. other_side s) t.same_side;
          dead = refl;
        }

    -- a number that fits is its number, if it leaves no capture in passing
    pub index_after : (k : ℕ) → ((p : Position) → IsMoved c n m.origin m.target p → index_of p ≡ k) → LeavesNone c m.origin m.target k
        → index_of (after q m) ≡ k
    index_after k fits leaves =
        let w = IsValid-after q m (decoded_of_numbered c n q at).valid legal in
        let bare : index_of (without_passed (after q m)) ≡ k = fits (without_passed (after q m)) moved_bare in
        plain_index (after q m) (without_passed (after q m)) (dead_left c (after q m) q m refl w quiet_stays legal k bare leaves) refl refl ∙ bare

    module _ (held : List (Option Table)) (laws : IsNumberedClass (class_game c held)) (cells : List ℕ) (k : ℕ) (is : index_of (after q m) ≡ k) where
      -- its number is below the cells of the class
      pub quiet_below : k < cells_of c
      quiet_below =
          let d = laws.decoded n q at in
          let known = laws.closed q (after q m) d.0 d.1 (m, legal, refl) in
          let s = laws.numbered (after q m) known (is_of-IsOf c (after q m) quiet_stays) in
          subst (λ (j : ℕ). j < cells_of c) is (laws.below (index_of (after q m)) s.0 s.1)

      -- and its cell is that of its value
      pub quiet_label : value_of (slice_index cells k) ≡ label_by (class_game c held) cells (after q m)
      quiet_label =
          sym (label-home laws cells (after q m) (is_of-IsOf c (after q m) quiet_stays)
          ∙ ap (λ (j : ℕ). value_of (slice_index cells j)) is)
