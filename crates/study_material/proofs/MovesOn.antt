-- Every legal move leads to a position of the class or of one that it needs.
use Rattle.std.proofs.Common.{◌≡◌, ℕ, ◌+◌, ◌-◌, ◌*◌, ◌≤◌, ◌==◌, eqb, suc, Bool, true, false, cond}
use Rattle.std.proofs.Common.{not, ◌&&◌, ◌||◌, ◌⊎◌, inl, inr, List, [], ◌∷◌, ◌++◌, length, Option}
use Rattle.std.proofs.Common.{Some, None, unwrap_or, refl, sym, ◌∙◌, ap, subst, arith}
use Rattle.std.specs.List.{filter, list_any}
use Rattle.std.specs.List.Sorted.{IsPermutation}
use Rattle.std.proofs.lemmas.Bool.{false≢true, and_parts, eqb-true}
use Rattle.std.proofs.lemmas.Bool.Decides.{nat_tests}
use Rattle.std.proofs.lemmas.List.Sorted.{IsPermutation-refl, IsPermutation-trans, IsPermutation-append_comm, IsPermutation-append_left}
use Rattle.study_board.specs.declared.men.Man.{Man}
use Rattle.study_board.specs.declared.men.Side.{Side}
use Rattle.study_board.specs.declared.men.Side.TheVariants.{White, Black}
use Rattle.study_board.specs.declared.men.Kind.{Kind}
use Rattle.study_board.specs.declared.men.Kind.TheVariants.{King, Queen, Rook, Bishop, Knight, Pawn}
use Rattle.study_board.specs.Geometry.{file_of, rank_of}
use Rattle.study_board.specs.Men.{same_side, same_kind, is_man, is_pawn}
use Rattle.study_board.specs.Position.{Position, IsValid, IsAscending, is_empty, is_occupied, has_man}
use Rattle.study_board.specs.Position.{could_be_passed, passed_possible, has_end_pawn, is_end_pawn}
use Rattle.study_board.proofs.Lists.{not_true}
use Rattle.study_board.proofs.Valid.{IsFaultless-from_first}
use Rattle.study_board.proofs.Ascending.{IsAscending-filter}
use Rattle.study_moves.specs.declared.moves.Move.{Move}
use Rattle.study_moves.specs.Rules.{is_en_passant, is_square, has_side, survives, moved_man, is_legal, after, is_promotion_choice, is_promotion_piece}
use Rattle.study_moves.specs.Rules.{reaches_last_rank, last_rank}
use Rattle.study_moves.specs.Alike.{Leads}
use Rattle.study_moves.proofs.MenOfList.{IsAmong, none_among, IsAmong-filter, found_among}
use Rattle.study_moves.proofs.NoMoveBetween.{HasMover-from_is_legal}
use Rattle.study_moves.proofs.AfterMove.{IsMoveFrom-is_legal, IsValid-after}
use Rattle.study_material.specs.declared.class.Class.{Class}
use Rattle.study_material.specs.Lists.{Lists, of, put_kind, kinds_of, lists, ordered_lists}
use Rattle.study_material.specs.Class.{IsOf}
use Rattle.study_material.specs.Needs.{officers, reached_lists, LeadsOn}
use Rattle.study_board.specs.EqualLaws.{kinds_equal}
use Rattle.study_material.proofs.KindCounts.{many, many-count, many-IsPermutation, lists-IsPermutation}
use Rattle.study_material.proofs.EachHasClass.{class_exists}
use Rattle.study_material.proofs.ClassOfImage.{ordered_lists-exchanged}
use Rattle.study_material.proofs.MenBesideKings.{one_king}
use Rattle.study_material.proofs.ReachedLists.{In, captured_by_white, promoted_by_white, both_by_white, by_white, by_black, needed}
use Rattle.study_material.proofs.MenAfterMove.{goes_away, IsStep-move}

abbrev man : Side → Kind → ℕ → Man
man s k a = record { side = s; kind = k; at = a }

-- the lists stay, or are reached
abbrev Goes : Lists → Lists → Type 0
Goes l m = (m ≡ l) ⊎ In m (reached_lists l)

-- a man is captured
taken : (t : Side) (j : Kind) (b : ℕ) (xs : List Man) → same_kind j King ≡ false → In (lists xs) (reached_lists (lists (man t j b ∷ xs)))
taken White j b xs e =
    rw e
    (by_black (of (put_kind j (kinds_of White xs)) (kinds_of Black xs)) (of (kinds_of Black xs) (kinds_of White xs))
    (captured_by_white (kinds_of Black xs) (kinds_of White xs) j))
taken Black j b xs e =
    rw e
    (by_white (of (kinds_of White xs) (put_kind j (kinds_of Black xs))) (of (kinds_of White xs) (kinds_of Black xs))
    (captured_by_white (kinds_of White xs) (kinds_of Black xs) j))

officer : (k : Kind) → is_promotion_piece k ≡ true → In k officers × (same_kind k King ≡ false)
officer Queen e = (inl refl, refl)
officer Rook e = (inr (inl refl), refl)
officer Bishop e = (inr (inr (inl refl)), refl)
officer Knight e = (inr (inr (inr (inl refl))), refl)
officer King e = absurd (false≢true e)
officer Pawn e = absurd (false≢true e)

-- a pawn is promoted
promotes : (s : Side) (k : Kind) (a b : ℕ) (xs : List Man) → is_promotion_piece k ≡ true
    → In (lists (man s k b ∷ xs)) (reached_lists (lists (man s Pawn a ∷ xs)))
promotes White k a b xs e =
    let o = officer k e in
    let none : same_kind k King ≡ false = o.1 in
    rw none (by_white (of (put_kind Pawn (kinds_of White xs)) (kinds_of Black xs))
    (of (put_kind k (kinds_of White xs)) (kinds_of Black xs))
    (promoted_by_white (kinds_of White xs) (kinds_of Black xs) k o.0))
promotes Black k a b xs e =
    let o = officer k e in
    let none : same_kind k King ≡ false = o.1 in
    rw none (by_black (of (kinds_of White xs) (put_kind Pawn (kinds_of Black xs)))
    (of (put_kind k (kinds_of Black xs)) (kinds_of White xs))
    (promoted_by_white (kinds_of Black xs) (kinds_of White xs) k o.0))

-- a pawn captures and is promoted
promotes_taking : (s t : Side) (k j : Kind) (a b d : ℕ) (xs : List Man) → is_promotion_piece k ≡ true
    → same_side t s ≡ false → same_kind j King ≡ false → same_kind j Pawn ≡ false
    → In (lists (man s k b ∷ xs)) (reached_lists (lists (man s Pawn a ∷ man t j d ∷ xs)))
promotes_taking White Black k j a b d xs e h f g =
    let o = officer k e in
    let none : same_kind k King ≡ false = o.1 in
    rw (none, f) (by_white (of (put_kind Pawn (kinds_of White xs)) (put_kind j (kinds_of Black xs))) (of (put_kind k (kinds_of White xs)) (kinds_of Black xs))
    (both_by_white (kinds_of White xs) (kinds_of Black xs) k j o.0 (ap not g)))
promotes_taking Black White k j a b d xs e h f g =
    let o = officer k e in
    let none : same_kind k King ≡ false = o.1 in
    rw (none, f) (by_black (of (put_kind j (kinds_of White xs)) (put_kind Pawn (kinds_of Black xs))) (of (put_kind k (kinds_of Black xs)) (kinds_of White xs))
    (both_by_white (kinds_of Black xs) (kinds_of White xs) k j o.0 (ap not g)))
promotes_taking White White k j a b d xs e h f g = absurd (false≢true (sym h))
promotes_taking Black Black k j a b d xs e h f g = absurd (false≢true (sym h))

-- if a pawn captures on the passed square, that square is passed
pub passed_there : (p : Position) (m : Man) (x : ℕ) → IsValid p → is_en_passant p.passed m x ≡ true → could_be_passed p.men p.to_move x ≡ true
unfolding is_en_passant
passed_there p m x v e =
    by_passed p.passed (and_parts (is_pawn m && not (file_of m.at == file_of x)) (is_square p.passed x) e).1
    (IsFaultless-from_first p.men p.to_move p.passed v.faultless).possible
  where
    by_passed : (q : Option ℕ) → is_square q x ≡ true → passed_possible p.men p.to_move q ≡ true → could_be_passed p.men p.to_move x ≡ true
    by_passed None e h = absurd (false≢true e)
    by_passed (Some s) e h = subst (λ y. could_be_passed p.men p.to_move y ≡ true) (eqb-true s x e) h

pub passed_empty : (men : List Man) (side : Side) (x : ℕ) → could_be_passed men side x ≡ true → list_any (λ y. y.at == x) men ≡ false
unfolding could_be_passed is_occupied
passed_empty men White x e =
    let a = and_parts (rank_of x == 5 && is_empty men x && is_empty men (x + 8)) (has_man men Black Pawn (x - 8)) e in
    let b = and_parts (rank_of x == 5 && is_empty men x) (is_empty men (x + 8)) a.0 in
    not_true (is_occupied men x) (and_parts (rank_of x == 5) (is_empty men x) b.0).1
passed_empty men Black x e =
    let a = and_parts (rank_of x == 2 && is_empty men x && is_empty men (x - 8)) (has_man men White Pawn (x + 8)) e in
    let b = and_parts (rank_of x == 2 && is_empty men x) (is_empty men (x - 8)) a.0 in
    not_true (is_occupied men x) (and_parts (rank_of x == 2) (is_empty men x) b.0).1

passed_inside : (men : List Man) (side : Side) (x : ℕ) → could_be_passed men side x ≡ true → (rank_of x ≡ 5) ⊎ (rank_of x ≡ 2)
unfolding could_be_passed
passed_inside men White x e =
    let a = and_parts (rank_of x == 5 && is_empty men x && is_empty men (x + 8)) (has_man men Black Pawn (x - 8)) e in
    let b = and_parts (rank_of x == 5 && is_empty men x) (is_empty men (x + 8)) a.0 in
    inl (eqb-true (rank_of x) 5 (and_parts (rank_of x == 5) (is_empty men x) b.0).0)
passed_inside men Black x e =
    let a = and_parts (rank_of x == 2 && is_empty men x && is_empty men (x - 8)) (has_man men White Pawn (x + 8)) e in
    let b = and_parts (rank_of x == 2 && is_empty men x) (is_empty men (x - 8)) a.0 in
    inr (eqb-true (rank_of x) 2 (and_parts (rank_of x == 2) (is_empty men x) b.0).0)

among_filter : (f : Man → Bool) (xs : List Man) (m : Man) → IsAmong m xs → f m ≡ true → IsAmong m (filter f xs)
among_filter f [] m i e = absurd i
among_filter f (x ∷ xs) m (inl s) e = here (f x) (ap f s ∙ e)
  where
    here : (b : Bool) → b ≡ true → IsAmong m (cond b (x ∷ filter f xs) (filter f xs))
    here true h = inl s
    here false h = absurd (false≢true h)
among_filter f (x ∷ xs) m (inr i) e = later (f x) (among_filter f xs m i e)
  where
    later : (b : Bool) → IsAmong m (filter f xs) → IsAmong m (cond b (x ∷ filter f xs) (filter f xs))
    later true h = inr h
    later false h = h

-- the men that go away: the mover, and at most one more, on another square
record IsGone (mover : Man) (gone : List Man) : Type 0 where
  more : List Man
  one : length more ≤ 1
  are : IsPermutation gone (mover ∷ more)
  each : (x : Man) → IsAmong x more → IsAmong x gone × (x.at ≡ mover.at → ⊥)

IsGone-from : (mover : Man) (gone : List Man) → length gone ≤ 2 → IsAscending gone → IsAmong mover gone → IsGone mover gone
IsGone-from mover [] l h i = absurd i
IsGone-from mover (a ∷ []) l h (inl e) =
    record { more = []; one = omega arith; are = subst (λ z. IsPermutation (a ∷ []) (z ∷ [])) e (IsPermutation-refl (a ∷ [])); each = λ x i. absurd i }
IsGone-from mover (a ∷ []) l h (inr i) = absurd i
IsGone-from mover (a ∷ b ∷ []) l h (inl e) =
    record {
      more = b ∷ [];
      one = omega arith;
      are = subst (λ z. IsPermutation (a ∷ b ∷ []) (z ∷ b ∷ [])) e (IsPermutation-refl (a ∷ b ∷ []));
      each =
          λ x i. elim i [
            | inl s ↦ (
              inr (inl s),
              λ k. absurd (let c : a.at ≡ mover.at = ap (λ z. z.at) e in
                  let d : b.at ≡ x.at = ap (λ z. z.at) s in let f = h.0.0 in omega arith),
            )
            | inr j ↦ absurd j
          ];
    }
IsGone-from mover (a ∷ b ∷ []) l h (inr (inl e)) =
    record {
      more = a ∷ [];
      one = omega arith;
      are = subst (λ z. IsPermutation (a ∷ b ∷ []) (z ∷ a ∷ [])) e (IsPermutation-append_comm (a ∷ []) (b ∷ []));
      each =
          λ x i. elim i [
            | inl s ↦ (
              inl s,
              λ k. absurd (let c : b.at ≡ mover.at = ap (λ z. z.at) e in
                  let d : a.at ≡ x.at = ap (λ z. z.at) s in let f = h.0.0 in omega arith),
            )
            | inr j ↦ absurd j
          ];
    }
IsGone-from mover (a ∷ b ∷ []) l h (inr (inr i)) = absurd i
IsGone-from mover (a ∷ b ∷ x ∷ xs) l h i = absurd (omega arith)

module _ (p : Position) (m : Move) (v : IsValid p) (legal : is_legal p m ≡ true) where
  abbrev mover : Man
  mover = (HasMover-from_is_legal p m legal).man

  abbrev left : List Man
  left = filter (survives p.passed mover m.target) p.men

  abbrev gone : List Man
  gone = filter (goes_away p.passed mover m.target) p.men

  abbrev moved_as : Option Kind → Man
  moved_as o = record { side = mover.side; kind = unwrap_or o mover.kind; at = m.target }

  mover_among : IsAmong mover p.men
  mover_among = (found_among p.men m.origin mover (HasMover-from_is_legal p m legal).here).0

  mover_goes : goes_away p.passed mover m.target mover ≡ true
  unfolding survives
  mover_goes = (let same : eqb mover.at mover.at ≡ true = same_number mover.at in rw same)
    where
      same_number : (n : ℕ) → eqb n n ≡ true
      same_number n = grind (arith, nat_tests)

  step_empty : is_en_passant p.passed mover m.target ≡ true → list_any (λ y. y.at == m.target) p.men ≡ false
  step_empty e = passed_empty p.men p.to_move m.target (passed_there p mover m.target v e)

  has_gone : IsGone mover gone
  has_gone =
      IsGone-from mover gone (IsStep-move p mover m v.ordered step_empty).few (IsAscending-filter (goes_away p.passed mover m.target) p.men v.ordered)
      (among_filter (goes_away p.passed mover m.target) p.men mover mover_among mover_goes)

  abbrev more : List Man
  more = has_gone.more

  before : IsPermutation p.men (mover ∷ more ++ left)
  before =
      IsPermutation-trans p.men (left ++ gone) (mover ∷ more ++ left) (IsStep-move p mover m v.ordered step_empty).before
      (IsPermutation-trans (left ++ gone) (gone ++ left) (mover ∷ more ++ left)
      (IsPermutation-append_comm left gone) (IsPermutation-append_left left gone (mover ∷ more) has_gone.are))

  after_men : IsPermutation (moved_man mover m ∷ left) (after p m).men
  unfolding after
  after_men = (let e = (HasMover-from_is_legal p m legal).here in rw e (IsStep-move p mover m v.ordered step_empty).after)

  -- the captured man is not a king
  no_king : (x : Man) → more ≡ x ∷ [] → same_kind x.kind King ≡ false
  no_king x e = by_king (same_kind x.kind King) refl
    where
      side : Side
      side = x.side

      same_side-self : (s : Side) → same_side s s ≡ true
      same_side-self White = refl
      same_side-self Black = refl

      one_before : (s : Side) → many s King p.men ≡ 1
      one_before White = many-count White King p.men ∙ (one_king p v).0
      one_before Black = many-count Black King p.men ∙ (one_king p v).1

      one_after : (s : Side) → many s King (after p m).men ≡ 1
      one_after White = many-count White King (after p m).men ∙ (one_king (after p m) (IsValid-after p m v legal)).0
      one_after Black = many-count Black King (after p m).men ∙ (one_king (after p m) (IsValid-after p m v legal)).1

      counted_before : many x.side King (mover ∷ x ∷ left) ≡ 1
      counted_before =
          subst (λ ys. many x.side King (mover ∷ ys ++ left) ≡ 1) e
          (many-IsPermutation x.side King p.men (mover ∷ more ++ left) before ∙ one_before x.side)

      counted_after : many x.side King (moved_man mover m ∷ left) ≡ 1
      counted_after = sym (many-IsPermutation x.side King (moved_man mover m ∷ left) (after p m).men after_men) ∙ one_after x.side

      moved_king : (o : Option Kind) → is_promotion_choice (reaches_last_rank mover m.target) o ≡ true
          → is_man x.side King (moved_as o) ≡ true → is_man x.side King mover ≡ true
      moved_king None c h = h
      moved_king (Some k) c h =
          absurd
          (false≢true (sym (officer k (chosen (reaches_last_rank mover m.target) c)).1
          ∙ (and_parts (same_side mover.side x.side) (same_kind k King) h).1))
        where
          chosen : (b : Bool) → is_promotion_choice b (Some k) ≡ true → is_promotion_piece k ≡ true
          chosen true c = c
          chosen false c = absurd (false≢true c)

      contradiction : (b d : Bool) → is_man x.side King mover ≡ b → is_man x.side King (moved_man mover m) ≡ d → is_man x.side King x ≡ true
          → cond b (suc (cond true (suc (many x.side King left)) (many x.side King left))) (cond true (suc (many x.side King left)) (many x.side King left)) ≡ 1
          → cond d (suc (many x.side King left)) (many x.side King left) ≡ 1 → ⊥
      contradiction true d f g k a b = omega arith
      contradiction false true f g k a b = false≢true (sym f ∙ moved_king m.promoted (HasMover-from_is_legal p m legal).moves.choice g)
      contradiction false false f g k a b = omega arith

      by_king : (b : Bool) → same_kind x.kind King ≡ b → b ≡ false
      by_king false f = refl
      by_king true f =
          let k : is_man x.side King x ≡ true = rw (same_side-self x.side, f) in
          absurd (contradiction (is_man x.side King mover) (is_man x.side King (moved_man mover m)) refl refl k (rw k at counted_before) counted_after)

  -- if a pawn is promoted, the captured man stands on the target
  on_target : (x : Man) → more ≡ x ∷ [] → reaches_last_rank mover m.target ≡ true → IsAmong x p.men × (x.at ≡ m.target)
  unfolding survives
  on_target x e end =
      let i : IsAmong x more = subst (λ ys. IsAmong x ys) (sym e) (inl refl) in
      let r = has_gone.each x i in
      let f = IsAmong-filter (goes_away p.passed mover m.target) p.men x r.0 in
      let apart : eqb x.at mover.at ≡ false = other x.at mover.at r.1 in (
        f.0,
        at_target (x.at == mover.at) (x.at == m.target) (is_en_passant p.passed mover m.target)
            (x.at == 8 * rank_of mover.at + file_of m.target) apart refl no_passing f.1,
      )
    where
      other : (a b : ℕ) → (a ≡ b → ⊥) → eqb a b ≡ false
      other a b h = grind (arith, nat_tests)

      last : (s : Side) (n : ℕ) → (n == last_rank s) ≡ true → ((n ≡ 5) ⊎ (n ≡ 2)) → ⊥
      last White n e h = grind (arith, nat_tests)
      last Black n e h = grind (arith, nat_tests)

      by_passing : (b : Bool) → is_en_passant p.passed mover m.target ≡ b → b ≡ false
      by_passing false f = refl
      by_passing true f =
          absurd (last mover.side (rank_of m.target) (and_parts (is_pawn mover) (rank_of m.target == last_rank mover.side) end).1
          (passed_inside p.men p.to_move m.target (passed_there p mover m.target v f)))

      no_passing : is_en_passant p.passed mover m.target ≡ false
      no_passing = by_passing (is_en_passant p.passed mover m.target) refl

      at_target : (a b c d : Bool) → a ≡ false → (x.at == m.target) ≡ b → c ≡ false → not (not a && not b && not (c && d)) ≡ true → x.at ≡ m.target
      at_target a true c d e f g h = eqb-true x.at m.target f
      at_target a false c d e f g h = absurd (false≢true (sym (rw (e, g)) ∙ h))

  taken_side : (x : Man) → IsAmong x p.men → x.at ≡ m.target → same_side x.side mover.side ≡ false
  unfolding has_side
  taken_side x i e =
      let h = HasMover-from_is_legal p m legal in
      let free = (IsMoveFrom-is_legal p mover m v h.here h.moves).free in
      let none = none_among (λ y. same_side y.side p.to_move && (y.at == m.target)) p.men x free i in
      by_side x.side mover.side p.to_move (x.at == m.target) (same x.at m.target e) h.moves.mine none
    where
      same : (a b : ℕ) → a ≡ b → (a == b) ≡ true
      same a b e = grind (arith, nat_tests)

      by_side : (s t u : Side) (b : Bool) → b ≡ true → same_side t u ≡ true → (same_side s u && b) ≡ false → same_side s t ≡ false
      by_side White White White b e f g = absurd (false≢true (sym g ∙ rw e))
      by_side White Black Black b e f g = refl
      by_side Black White White b e f g = refl
      by_side Black Black Black b e f g = absurd (false≢true (sym g ∙ rw e))
      by_side s White Black b e f g = absurd (false≢true f)
      by_side s Black White b e f g = absurd (false≢true f)

  taken_kind : (x : Man) → IsAmong x p.men → x.at ≡ m.target → reaches_last_rank mover m.target ≡ true → same_kind x.kind Pawn ≡ false
  unfolding has_end_pawn is_end_pawn
  taken_kind x i e end =
      let none =
      none_among
      (λ y. (is_man White Pawn y || is_man Black Pawn y) && ((rank_of y.at == 0) || (rank_of y.at == 7))) p.men
      x (IsFaultless-from_first p.men p.to_move p.passed v.faultless).pawns i in
      by_kind (same_kind x.kind Pawn) x.side
      (last mover.side (rank_of m.target) (rank_of x.at) (ap rank_of e)
      (and_parts (is_pawn mover) (rank_of m.target == last_rank mover.side) end).1) none
    where
      last : (s : Side) (n k : ℕ) → k ≡ n → (n == last_rank s) ≡ true → ((k == 0) || (k == 7)) ≡ true
      last White n k d e = (let f : k ≡ 7 = d ∙ eqb-true n 7 e in rw f)
      last Black n k d e = (let f : k ≡ 0 = d ∙ eqb-true n 0 e in rw f)

      by_kind : (b : Bool) (s : Side) {c : Bool} → c ≡ true → (((same_side s White && b) || (same_side s Black && b)) && c) ≡ false → b ≡ false
      by_kind false s e h = refl
      by_kind true White e h = absurd (false≢true (sym h ∙ e))
      by_kind true Black e h = absurd (false≢true (sym h ∙ e))

  -- the lists after a move, by the captured man and the promotion
  goes_on : (gone : List Man) → more ≡ gone → length gone ≤ 1 → (o : Option Kind) → is_promotion_choice (reaches_last_rank mover m.target) o ≡ true
      → Goes (lists (mover ∷ gone ++ left)) (lists (moved_as o ∷ left))
  goes_on [] e l None c = inl refl
  goes_on [] e l (Some k) c =
      let end = ended (reaches_last_rank mover m.target) c in
      inr (subst (λ j. In (lists (moved_as (Some k) ∷ left)) (reached_lists (lists (man mover.side j mover.at ∷ left))))
      (sym
      (kinds_equal mover.kind Pawn
      (and_parts (is_pawn mover) (rank_of m.target == last_rank mover.side) end.0).0))
      (promotes mover.side k mover.at m.target left end.1))
    where
      ended : (b : Bool) → is_promotion_choice b (Some k) ≡ true → (b ≡ true) × (is_promotion_piece k ≡ true)
      ended true c = (refl, c)
      ended false c = absurd (false≢true c)
  goes_on (x ∷ []) e l None c =
      inr
      (subst (λ k. In (lists (mover ∷ left)) (reached_lists k))
      (lists-IsPermutation (mover ∷ x ∷ left) (x ∷ mover ∷ left)
      (IsPermutation-append_left left (mover ∷ x ∷ []) (x ∷ mover ∷ [])
      (IsPermutation-append_comm (mover ∷ []) (x ∷ []))))
      (taken x.side x.kind x.at (mover ∷ left) (no_king x e)))
  goes_on (x ∷ []) e l (Some k) c =
      let end = ended (reaches_last_rank mover m.target) c in
      let there = on_target x e end.0 in
      inr
      (subst (λ j. In (lists (moved_as (Some k) ∷ left)) (reached_lists (lists (man mover.side j mover.at ∷ x ∷ left))))
      (sym
      (kinds_equal mover.kind Pawn
      (and_parts (is_pawn mover) (rank_of m.target == last_rank mover.side) end.0).0))
      (promotes_taking mover.side x.side k x.kind mover.at m.target x.at left end.1 (taken_side x there.0 there.1)
      (no_king x e) (taken_kind x there.0 there.1 end.0)))
    where
      ended : (b : Bool) → is_promotion_choice b (Some k) ≡ true → (b ≡ true) × (is_promotion_piece k ≡ true)
      ended true c = (refl, c)
      ended false c = absurd (false≢true c)
  goes_on (x ∷ y ∷ ys) e l o c = absurd (omega arith)

  lists_after : Goes (lists p.men) (lists (after p m).men)
  lists_after =
      let b : lists (mover ∷ more ++ left) ≡ lists p.men = lists-IsPermutation p.men (mover ∷ more ++ left) before in
      let a : lists (after p m).men ≡ lists (moved_man mover m ∷ left) = lists-IsPermutation (moved_man mover m ∷ left) (after p m).men after_men in
      subst (λ l. Goes l (lists (after p m).men)) b (subst (λ k. Goes (lists (mover ∷ more ++ left)) k) (sym a)
      (goes_on more refl has_gone.one m.promoted (HasMover-from_is_legal p m legal).moves.choice))

pub moves_lead_on : (c : Class) (p q : Position) → IsValid p → IsOf c p → Leads p q → LeadsOn c q
moves_lead_on c p q v o l =
    let w : IsValid (after p l.0) = IsValid-after p l.0 v l.1 in
    let d = class_exists (after p l.0) w in
    subst (λ (r : Position). LeadsOn c r) l.2 (record {
      valid = w;
      of_class = elim (lists_after p l.0 v l.1) [
        | inl e ↦ inl (o ∙ ap (λ k. ordered_lists k) (sym e))
        | inr i ↦ inr (d.0, needed c d.0 (lists p.men) (lists (after p l.0).men) o d.1 i (ordered_lists-exchanged (lists (after p l.0).men)), d.1)
      ];
    })
