-- No other legal move agrees with the text of a legal move, with any number of men.
use Rattle.std.proofs.Common.{◌≡◌, ℕ, ◌==◌, Bool, true, false, cond, ◌&&◌, ◌⊎◌, inl, inr, [], ◌∷◌, Option, Some, None, refl, sym, ap, ◌∙◌, subst, arith}
use Rattle.std.proofs.lemmas.Bool.{false≢true, and_parts, and_from, or_left, or_right, cases_Bool, eqb-true, eq-eqb, ne_eqb, not_from_true, not_from_false}
use Rattle.std.specs.List.{filter}
use Rattle.study_board.specs.declared.men.Man.{Man}
use Rattle.study_board.specs.declared.men.Side.{Side}
use Rattle.study_board.specs.declared.men.Kind.{Kind}
use Rattle.study_board.specs.declared.men.Kind.TheVariants.{Pawn}
use Rattle.study_board.specs.Geometry.{file_of, rank_of}
use Rattle.study_board.specs.Men.{same_side, same_kind, is_man, is_pawn}
use Rattle.study_board.specs.EqualLaws.{side_self, sides_equal, kind_self, kinds_equal}
use Rattle.study_board.specs.Position.{Position, man_at}
use Rattle.study_board.specs.Sound.{IsSound}
use Rattle.study_moves.specs.declared.moves.Move.{Move}
use Rattle.study_moves.specs.Rules.{is_legal, is_promotion_choice, reaches_last_rank}
use Rattle.study_moves.specs.Order.{move_place}
use Rattle.study_moves.proofs.HowMenGo.{IsCapture}
use Rattle.study_moves.proofs.MenOfList.{IsAmong, found_among, list_any-from}
use Rattle.study_moves.proofs.NoMoveBetween.{IsMoveOf, HasMover-from_is_legal}
use Rattle.study_notation.specs.declared.san.San.{San}
use Rattle.study_moves.specs.LegalList.{all_moves, legal_list, is_capture}
use Rattle.study_notation.specs.Matching.{same_promotion, fits_given, fits_takes, agrees, matches}
use Rattle.study_notation.specs.SanSpelling.{is_rival, has_rival, has_file_rival, gives_rank}
use Rattle.study_wide_text.specs.SanSpelling.{has_rank_rival, gives_wide_file, wide_san_for}
use Rattle.study_moves.proofs.AscendingKeys.{IsIn-kept, alone}
use Rattle.study_moves.proofs.LegalLists.{in_all, is_legal-in, AscendsFrom-legal_list}
use Rattle.study_notation.proofs.TwoPawns.{Advances, advances_or_captures, same_advance, same_capture}

pub promotion_self : (q : Option Kind) → same_promotion q q ≡ true
promotion_self None = refl
promotion_self (Some k) = kind_self k

pub promotions_equal : (q r : Option Kind) → same_promotion q r ≡ true → q ≡ r
promotions_equal None None e = refl
promotions_equal None (Some l) e = absurd (false≢true e)
promotions_equal (Some k) None e = absurd (false≢true e)
promotions_equal (Some k) (Some l) e = ap (λ z. Some z) (kinds_equal k l e)

-- the parts of an agreement
pub record Agrees (p : Position) (s : San) (man : Man) (m : Move) : Type 0 where
  pub kind : same_kind man.kind s.kind ≡ true
  pub target : (m.target == s.target) ≡ true
  pub file : fits_given s.file (file_of m.origin) ≡ true
  pub rank : fits_given s.rank (rank_of m.origin) ≡ true
  pub promoted : same_promotion s.promoted m.promoted ≡ true
  pub captures : fits_takes s.is_capture (is_capture p man m.target) (is_pawn man) ≡ true

pub agrees_parts : (p : Position) (s : San) (man : Man) (m : Move) → agrees p s man m ≡ true → Agrees p s man m
unfolding agrees
agrees_parts p s man m h =
    let a = and_parts _ _ h in
    let b = and_parts _ _ a.0 in
    let d = and_parts _ _ b.0 in
    let e = and_parts _ _ d.0 in
    let f = and_parts _ _ e.0 in
    record { kind = f.0; target = f.1; file = e.1; rank = d.1; promoted = b.1; captures = a.1 }

agrees_from : (p : Position) (s : San) (man : Man) (m : Move) → Agrees p s man m → agrees p s man m ≡ true
unfolding agrees
agrees_from p s man m h = and_from _ _ (and_from _ _ (and_from _ _ (and_from _ _ (and_from _ _ h.kind h.target) h.file) h.rank) h.promoted) h.captures

-- a pawn's move is a capture if it is written as one
pawn_written : (written capture pawn : Bool) → pawn ≡ true → fits_takes written capture pawn ≡ true → capture ≡ written
pawn_written true true pawn e h = refl
pawn_written false true pawn e h = absurd (false≢true (sym (not_from_true pawn e) ∙ h))
pawn_written true false pawn e h = absurd (false≢true h)
pawn_written false false pawn e h = refl

fits_itself : (capture pawn : Bool) → fits_takes capture capture pawn ≡ true
fits_itself true pawn = refl
fits_itself false pawn = refl

given_fits : (b : Bool) (n : ℕ) → fits_given (cond b (Some n) None) n ≡ true
given_fits true n = eq-eqb n n refl
given_fits false n = refl

-- a given coordinate is the move's
given_is : (b : Bool) (g n : ℕ) → b ≡ true → fits_given (cond b (Some g) None) n ≡ true → g ≡ n
given_is true g n e h = eqb-true g n h
given_is false g n e h = absurd (false≢true e)

piece_choice : (man : Man) (x : ℕ) (q : Option Kind) → is_pawn man ≡ false → is_promotion_choice (reaches_last_rank man x) q ≡ true → q ≡ None
piece_choice man x None e h = refl
piece_choice man x (Some k) e h =
    let c : is_promotion_choice false (Some k) ≡ true = rw e at h in
    absurd (false≢true c)

-- a legal move and its man
record IsMove (p : Position) (man : Man) (m : Move) : Type 0 where
  among : IsAmong man p.men
  here : man_at p.men m.origin ≡ Some man
  at : man.at ≡ m.origin
  legal : is_legal p m ≡ true
  moves : IsMoveOf p man m

IsMove-from : (p : Position) (m : Move) → is_legal p m ≡ true → (man : Man) × IsMove p man m
IsMove-from p m e =
    let h = HasMover-from_is_legal p m e in
    let found = found_among p.men m.origin h.man h.here in
    (h.man, record { among = found.0; here = h.here; at = found.1; legal = e; moves = h.moves })

same_square_by : (a b : ℕ) → file_of a ≡ file_of b → rank_of a ≡ rank_of b → a ≡ b
same_square_by a b f r = omega arith

module _ (p : Position) (valid : IsSound p) (man : Man) (m : Move) (h : IsMove p man m) (other : Man) (n : Move)
    (k : IsMove p other n) (a : Agrees p (wide_san_for p man m) other n) where
  same_sides : other.side ≡ man.side
  same_sides = sides_equal _ _ k.moves.mine ∙ sym (sides_equal _ _ h.moves.mine)

  same_kinds : other.kind ≡ man.kind
  unfolding wide_san_for
  same_kinds = kinds_equal _ _ a.kind

  same_targets : n.target ≡ m.target
  unfolding wide_san_for
  same_targets = eqb-true _ _ a.target

  same_promotions : n.promoted ≡ m.promoted
  unfolding wide_san_for
  same_promotions = sym (promotions_equal _ _ a.promoted)

  is_pawn_too : (b : Bool) → is_pawn man ≡ b → is_pawn other ≡ b
  is_pawn_too b e = ap (λ z. same_kind z Pawn) same_kinds ∙ e

  file_given : gives_wide_file p man m.target ≡ true → file_of man.at ≡ file_of n.origin
  unfolding wide_san_for
  file_given e = given_is (gives_wide_file p man m.target) (file_of man.at) (file_of n.origin) e a.file

  rank_given : gives_rank p man m.target ≡ true → rank_of man.at ≡ rank_of n.origin
  unfolding wide_san_for
  rank_given e = given_is (gives_rank p man m.target) (rank_of man.at) (rank_of n.origin) e a.rank

  takes_written : is_pawn man ≡ true → is_capture p other m.target ≡ is_capture p man m.target
  unfolding wide_san_for
  takes_written e = pawn_written (is_capture p man m.target) (is_capture p other m.target) (is_pawn other)
      (is_pawn_too true e) (subst (λ x. fits_takes (is_capture p man m.target) (is_capture p other x) (is_pawn other) ≡ true)
      same_targets a.captures)

  pawn_gives : is_pawn man ≡ true → gives_wide_file p man m.target ≡ is_capture p man m.target
  unfolding gives_wide_file
  pawn_gives e = rw e refl

  others : is_pawn other ≡ true → ((is_capture p other m.target ≡ false) × Advances p.men man.side other.at m.target)
      ⊎ ((is_capture p other m.target ≡ true) × IsCapture man.side other.at m.target)
  others pawn =
      let X : ℕ → Type 0 = λ x. ((is_capture p other x ≡ false) × Advances p.men other.side other.at x)
      ⊎ ((is_capture p other x ≡ true) × IsCapture other.side other.at x) in
      let S : Side → Type 0 = λ s. ((is_capture p other m.target ≡ false) × Advances p.men s other.at m.target)
      ⊎ ((is_capture p other m.target ≡ true) × IsCapture s other.at m.target) in
      subst S same_sides (subst X same_targets (advances_or_captures p other n.target pawn k.moves.going))

  same_pawn : is_pawn man ≡ true → man.at ≡ other.at
  same_pawn e =
      let pawn = is_pawn_too true e in
      elim (advances_or_captures p man m.target e h.moves.going) [
        | inl w ↦ elim (others pawn) [
          | inl v ↦ same_advance p.men man.side man other m.target h.among k.among w.1 v.1
          | inr v ↦ absurd (false≢true (sym w.0 ∙ sym (takes_written e) ∙ v.0))
        ]
        | inr w ↦ elim (others pawn) [
          | inl v ↦ absurd (false≢true (sym v.0 ∙ takes_written e ∙ w.0))
          | inr v ↦ same_capture man.side man.at other.at m.target w.1 v.1 (file_given (pawn_gives e ∙ w.0) ∙ ap file_of (sym k.at))
        ]
      ]

  -- another man of the same kind is a rival
  plain_move : is_pawn man ≡ false → n ≡ record { origin = other.at; target = m.target; promoted = None }
  plain_move e =
      let none = piece_choice other n.target n.promoted (is_pawn_too false e) k.moves.choice in
      let by_origin : ℕ → Move = λ o. record { origin = o; target = n.target; promoted = n.promoted } in
      let by_target : ℕ → Move = λ x. record { origin = other.at; target = x; promoted = n.promoted } in
      let by_choice : Option Kind → Move = λ q. record { origin = other.at; target = m.target; promoted = q } in
      ap by_origin (sym k.at) ∙ ap by_target same_targets ∙ ap by_choice none

  other_man : is_man man.side man.kind other ≡ true
  other_man = and_from _ _ (subst (λ s. same_side other.side s ≡ true) same_sides (side_self other.side))
      (subst (λ l. same_kind other.kind l ≡ true) same_kinds (kind_self other.kind))

  this_man : is_man man.side man.kind man ≡ true
  this_man = and_from _ _ (side_self man.side) (kind_self man.kind)

  rival : is_pawn man ≡ false → (other.at ≡ man.at → ⊥) → is_rival p man m.target other ≡ true
  unfolding is_rival
  rival e apart =
      let L : Move → Type 0 = λ z. is_legal p z ≡ true in
      and_from _ _ (and_from _ _ (not_from_false _ (ne_eqb other.at man.at apart)) other_man) (subst L (plain_move e) k.legal)

  some_rival : is_rival p man m.target other ≡ true → has_rival p man m.target ≡ true
  unfolding has_rival
  some_rival e = list_any-from (is_rival p man m.target) p.men other k.among e

  on_file : is_rival p man m.target other ≡ true → file_of other.at ≡ file_of man.at → has_file_rival p man m.target ≡ true
  unfolding has_file_rival
  on_file e f = list_any-from (λ o. is_rival p man m.target o && file_of o.at == file_of man.at) p.men other k.among (and_from _ _ e (eq-eqb _ _ f))

  on_rank : is_rival p man m.target other ≡ true → rank_of other.at ≡ rank_of man.at → has_rank_rival p man m.target ≡ true
  unfolding has_rank_rival
  on_rank e f = list_any-from (λ o. is_rival p man m.target o && rank_of o.at == rank_of man.at) p.men other k.among (and_from _ _ e (eq-eqb _ _ f))

  gives_rank_if : is_pawn man ≡ false → has_file_rival p man m.target ≡ true → gives_rank p man m.target ≡ true
  unfolding gives_rank
  gives_rank_if e f = and_from _ _ (not_from_false _ e) f

  gives_file_if : is_pawn man ≡ false → has_rival p man m.target ≡ true → (has_file_rival p man m.target ≡ false) ⊎ (has_rank_rival p man m.target ≡ true)
      → gives_wide_file p man m.target ≡ true
  unfolding gives_wide_file
  gives_file_if e r f = rw e (and_from _ _ r (elim f [
    | inl free ↦ or_left _ _ (not_from_false _ free)
    | inr shared ↦ or_right _ _ shared
  ]))

  file_same : gives_wide_file p man m.target ≡ true → file_of other.at ≡ file_of man.at
  file_same e = sym (file_given e ∙ ap file_of (sym k.at))

  no_other_piece : is_pawn man ≡ false → (other.at ≡ man.at → ⊥) → ⊥
  no_other_piece e apart =
      let there = rival e apart in
      let some = some_rival there in
      elim (cases_Bool (has_file_rival p man m.target)) [
        | inl shared ↦
            let rank : rank_of other.at ≡ rank_of man.at = sym (rank_given (gives_rank_if e shared) ∙ ap rank_of (sym k.at)) in
            let file = file_same (gives_file_if e some (inr (on_rank there rank))) in
            apart (same_square_by other.at man.at file rank)
        | inr free ↦
            let file = file_same (gives_file_if e some (inl free)) in
            false≢true (sym free ∙ on_file there file)
      ]

  same_man : other.at ≡ man.at
  same_man = elim (cases_Bool (is_pawn man)) [
    | inl pawn ↦ sym (same_pawn pawn)
    | inr piece ↦ elim (cases_Bool (other.at == man.at)) [
      | inl same ↦ eqb-true _ _ same
      | inr differ ↦ absurd (no_other_piece piece (λ s. false≢true (sym differ ∙ eq-eqb _ _ s)))
    ]
  ]

  same_move : n ≡ m
  same_move =
      let by_origin : ℕ → Move = λ o. record { origin = o; target = n.target; promoted = n.promoted } in
      let by_target : ℕ → Move = λ x. record { origin = m.origin; target = x; promoted = n.promoted } in
      let by_choice : Option Kind → Move = λ q. record { origin = m.origin; target = m.target; promoted = q } in
      ap by_origin (sym k.at ∙ same_man ∙ h.at) ∙ ap by_target same_targets ∙ ap by_choice same_promotions

itself : (p : Position) (man : Man) (m : Move) → IsMove p man m → agrees p (wide_san_for p man m) man m ≡ true
unfolding wide_san_for
itself p man m h = agrees_from p (wide_san_for p man m) man m (record {
  kind = kind_self man.kind;
  target = eq-eqb m.target m.target refl;
  file = subst (λ o. fits_given (cond (gives_wide_file p man m.target) (Some (file_of man.at)) None) (file_of o) ≡ true)
      h.at (given_fits (gives_wide_file p man m.target) (file_of man.at));
  rank = subst (λ o. fits_given (cond (gives_rank p man m.target) (Some (rank_of man.at)) None) (rank_of o) ≡ true)
      h.at (given_fits (gives_rank p man m.target) (rank_of man.at));
  promoted = promotion_self m.promoted;
  captures = fits_itself (is_capture p man m.target) (is_pawn man);
})

matches_at : (p : Position) (s : San) (man : Man) (m : Move) → man_at p.men m.origin ≡ Some man → matches p s m ≡ agrees p s man m
unfolding matches
matches_at p s man m e = rw e refl

pub alone_matches : (p : Position) (m : Move) (man : Man) → IsSound p → is_legal p m ≡ true
    → man_at p.men m.origin ≡ Some man → filter (matches p (wide_san_for p man m)) (legal_list p) ≡ m ∷ []
unfolding legal_list
alone_matches p m man valid e here =
    let found = IsMove-from p m e in
    let both : Some found.0 ≡ Some man = sym found.1.here ∙ here in
    let same : found.0 ≡ man = cc in
    let h : IsMove p man m = subst (λ (z : Man). IsMove p z m) same found.1 in
    alone move_place 0 (matches p (wide_san_for p man m)) (legal_list p) m (AscendsFrom-legal_list p)
    (IsIn-kept (is_legal p) all_moves m (in_all p m valid.on_board e) e) (matches_at p (wide_san_for p man m) man m here ∙ itself p man m h)
    (λ n i t.
    let k = IsMove-from p n (is_legal-in p n i) in
    same_move p valid man m h k.0 n k.1 (agrees_parts p (wide_san_for p man m) k.0 n (sym (matches_at p (wide_san_for p man m) k.0 n k.1.here) ∙ t)))
