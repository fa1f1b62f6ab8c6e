-- A man taken back gives exactly the positions from which a quiet move leads on.
use Rattle.std.proofs.Common.{◌≡◌, ℕ, ◌<◌, ◌==◌, nat_lt, Bool, true, false, not, ◌&&◌, ◌||◌, inl, inr, List}
use Rattle.std.proofs.Common.{[], ◌∷◌, length, Option, Some, None, refl, sym, ◌∙◌, ap, arith, subst}
use Rattle.std.specs.List.{All, list_any, filter, count_by}
use Rattle.std.proofs.lemmas.Bool.{false≢true, and_parts, cases_Bool, eqb-true, eq-eqb, ne_eqb, not-true, lt-ltb, le-ltb, or_from}
use borrow.Author.Tests.{ltb-false}
use Rattle.std.proofs.lemmas.List.Elements.{All-filter}
use Rattle.study_board.specs.declared.men.Man.{Man}
use Rattle.study_board.specs.declared.men.Side.{Side}
use Rattle.study_board.specs.declared.men.Side.TheVariants.{White, Black}
use Rattle.study_board.specs.declared.men.Kind.{Kind}
use Rattle.study_board.specs.declared.men.Kind.TheVariants.{King}
use Rattle.study_board.specs.Men.{same_side, other_side, is_man, is_pawn}
use Rattle.study_board.specs.Position.{Position, IsValid, IsAscending, is_occupied, insert_man, man_at, has_one_king, has_end_pawn, is_end_pawn, in_check}
use Rattle.study_board.specs.EqualLaws.{sides_equal}
use Rattle.study_board.proofs.Ascending.{IsAscending-filter, IsAscending-insert_man}
use Rattle.study_board.proofs.MenInOrder.{All-insert_man}
use Rattle.study_board.proofs.ImagesValid.{list_any-insert_man, count_by-insert_man, length-insert_man}
use Rattle.study_board.proofs.Valid.{IsFaultless, IsFaultless-from_first, first_fault-from_IsFaultless}
use Rattle.study_moves.specs.declared.moves.Move.{Move}
use Rattle.study_moves.specs.Rules.{is_legal, reaches_target, survives, men_after, after, is_promotion_choice, reaches_last_rank}
use Rattle.study_moves.specs.EnPassant.{without_passed}
use Rattle.study_moves.specs.Unmoves.{LeadsQuietly, move_from, set_back, men_before, position_before, pawn_comes, comes, was_check, is_unmove_origin}
use Rattle.study_moves.proofs.MenFound.{fewer_stay}
use Rattle.study_moves.proofs.MenOfList.{IsAmong, above_among, list_any-from, list_any-none, none_among, IsAmong-filter}
use Rattle.study_moves.proofs.MenOfList.{found_among, All-among, same_square, has_square_twice-ascending}
use Rattle.study_moves.proofs.NoMoveBetween.{HasMover, HasMover-from_is_legal}
use Rattle.study_moves.proofs.AfterMove.{other_twice}
use Rattle.study_moves.proofs.SafeTargets.{legal_from}
use Rattle.study_moves.proofs.PutBack.{CanBeMoved, IsAmong-insert_man, others_and_man, back_and_forth, target_is_empty}
use Rattle.study_moves.proofs.PutBack.{man_at_origin, occupied_before, no_man_on_origin, apart_from_origin}
use Rattle.study_moves.proofs.QuietChecks.{same_side-self, no_side_there, in_check_before}
use Rattle.study_moves.proofs.QuietGoes.{going, stands_inside, coming, not_last}

and_false : (b : Bool) → (b && false) ≡ false
and_false true = refl
and_false false = refl

pub men_before_is : (men : List Man) (man : Man) (a : ℕ) → insert_man (set_back man a) (filter (survives None man a) men) ≡ men_before men man a
unfolding men_before
men_before_is men man a = refl

-- the man can have come from there by a quiet move
pub record CameFrom (q : Position) (man : Man) (a : ℕ) : Type 0 where
  pub among : IsAmong man q.men
  pub his : man.side ≡ other_side q.to_move
  pub on : a < 64
  pub came : is_unmove_origin q.men q.to_move man a ≡ true

comes_free : (men : List Man) (man : Man) (a : ℕ) → comes men man a ≡ true → is_occupied men a ≡ false
unfolding comes pawn_comes
comes_free men man a e = elim (cases_Bool (is_pawn man)) [
  | inl p ↦ let c = rw p at e in not-true _ (and_parts _ (not (is_occupied men a)) c).1
  | inr p ↦ let c = rw p at e in not-true _ (and_parts _ (not (is_occupied men a)) c).1
]

faultless : (q : Position) → IsValid q → IsFaultless q.men q.to_move q.passed
faultless q valid = IsFaultless-from_first q.men q.to_move q.passed valid.faultless

occupied_from : (men : List Man) (man : Man) → IsAmong man men → is_occupied men man.at ≡ true
unfolding is_occupied
occupied_from men man i = list_any-from (λ y. y.at == man.at) men man i (eq-eqb man.at man.at refl)

inside_among : (men : List Man) (man : Man) → has_end_pawn men ≡ false → IsAmong man men → is_end_pawn man ≡ false
unfolding has_end_pawn
inside_among men man e i = none_among is_end_pawn men man e i

module _ (q : Position) (valid : IsValid q) (man : Man) (a : ℕ) (h : CameFrom q man a) where
  abbrev pub ys : List Man
  ys = filter (survives None man a) q.men

  abbrev pub z : Man
  z = set_back man a

  comes_so : comes q.men man a ≡ true
  comes_so = (and_parts (comes q.men man a) (not (was_check q.men q.to_move man a)) h.came).0

  no_check : was_check q.men q.to_move man a ≡ false
  no_check = not-true _ (and_parts (comes q.men man a) (not (was_check q.men q.to_move man a)) h.came).1

  pub movable : CanBeMoved q.men man a
  movable = record { ordered = valid.ordered; among = h.among; free = comes_free q.men man a comes_so }

  on_square : man.at < 64
  on_square = All-among (λ m. m.at < 64) q.men man valid.on_board h.among

  occupied : is_occupied q.men man.at ≡ true
  occupied = occupied_from q.men man h.among

  -- the same men, one of them on another square
  pub tested_alike : (p : Man → Bool) → p z ≡ p man → list_any p (men_before q.men man a) ≡ list_any p q.men
  unfolding men_before
  tested_alike p e =
      list_any-insert_man p z ys ∙ rw e (sym (list_any-insert_man p man ys)) ∙ ap (λ (xs : List Man). list_any p xs) (others_and_man q.men man a movable)

  pub counted_alike : (t : Side) (k : Kind) → count_by (is_man t k) (men_before q.men man a) ≡ count_by (is_man t k) q.men
  unfolding men_before
  counted_alike t k =
      let p = is_man t k in
      let now = ap (λ (xs : List Man). count_by p xs) (sym (others_and_man q.men man a movable)) ∙ count_by-insert_man p man ys in
      count_by-insert_man p z ys ∙ sym now

  kings_kept : (t : Side) → has_one_king (men_before q.men man a) t ≡ has_one_king q.men t
  unfolding has_one_king
  kings_kept t = ap (λ (n : ℕ). n == 1) (counted_alike t King)

  no_end_pawn : has_end_pawn (men_before q.men man a) ≡ false
  unfolding has_end_pawn men_before
  no_end_pawn =
      list_any-insert_man is_end_pawn z ys
      ∙ or_from _ _ (stands_inside q.men man a movable on_square comes_so)
      (list_any-none is_end_pawn ys (λ k i. let r = IsAmong-filter (survives None man a) q.men k i in none_among
      is_end_pawn q.men k (faultless q valid).pawns r.0))

  none_there : list_any (λ y. y.at == a) ys ≡ false
  none_there = list_any-none (λ y. y.at == a) ys (λ k i.
      let r = IsAmong-filter (survives None man a) q.men k i in
      not_there k (no_man_on_origin q.men man a movable k r.0))
    where
      not_there : (k : Man) → (k.at ≡ a → ⊥) → (k.at == a) ≡ false
      not_there k n = ne_eqb k.at a n

  ordered : IsAscending (men_before q.men man a)
  unfolding men_before
  ordered = IsAscending-insert_man z ys (IsAscending-filter (survives None man a) q.men valid.ordered) none_there

  on_board : All (λ k. k.at < 64) (men_before q.men man a)
  unfolding men_before
  on_board = All-insert_man z ys h.on (All-filter (survives None man a) (λ k. k.at < 64) q.men valid.on_board)

  few : nat_lt 4 (length (men_before q.men man a)) ≡ false
  unfolding men_before
  few =
      let less = fewer_stay None man a q.men occupied in
      let most = ltb-false 4 (length q.men) (faultless q valid).few in
      let long = length-insert_man z ys in
      le-ltb 4 (length (insert_man z ys)) (omega arith)

  pub IsValid-before : IsValid (position_before q man a)
  IsValid-before =
      let f = faultless q valid in
      let now : IsFaultless (men_before q.men man a) (other_side q.to_move) None = record {
        few = few;
        once = has_square_twice-ascending (men_before q.men man a) ordered;
        kings = rw (kings_kept White, kings_kept Black) f.kings;
        pawns = no_end_pawn;
        safe = rw (other_twice q.to_move) (in_check_before q.men man a movable.free q.to_move h.his ∙ no_check);
        possible = refl;
      } in
      record {
        ordered = ordered;
        on_board = on_board;
        faultless = first_fault-from_IsFaultless (men_before q.men man a) (other_side q.to_move) None now;
      }

  -- the move that leads back to the position
  abbrev pub onward : Move
  onward = move_from man a

  played_on : men_after (position_before q man a) z onward ≡ q.men
  unfolding men_after men_before
  played_on = back_and_forth q.men man a movable

  onward_legal : is_legal (position_before q man a) onward ≡ true
  unfolding is_legal
  onward_legal =
      let b = position_before q man a in
      let here = man_at_origin q.men man a movable in
      let mine : same_side man.side (other_side q.to_move) ≡ true = rw h.his (same_side-self (other_side q.to_move)) in
      let none = no_side_there (men_before q.men man a) (other_side q.to_move) man.at (target_is_empty q.men man a movable) in
      let end = not_last man (inside_among q.men man (faultless q valid).pawns h.among) in
      let choice : is_promotion_choice (reaches_last_rank z man.at) None ≡ true = rw end refl in
      let safe : in_check (men_after b z onward) (other_side q.to_move) ≡ false = rw played_on (faultless q valid).safe in
      rw (lt-ltb man.at 64 on_square, here) (legal_from b z onward mine (going q.men man a movable comes_so) none choice safe)

  leads_on : without_passed (after (position_before q man a) onward) ≡ without_passed q
  unfolding after
  leads_on =
      let here = man_at_origin q.men man a movable in
      rw (here, played_on, other_twice q.to_move) refl

  pub LeadsQuietly-before : LeadsQuietly (position_before q man a) onward q
  LeadsQuietly-before = record {
    valid = IsValid-before;
    unpassed = refl;
    legal = onward_legal;
    quiet = (target_is_empty q.men man a movable, refl);
    leads = leads_on;
  }

-- a position reached from the one before it
pub record IsTakenBack (q : Position) (m : Move) (p : Position) : Type 0 where
  pub man : Man
  pub origin : ℕ
  pub came : CameFrom q man origin
  pub is : p ≡ position_before q man origin
  pub by : m ≡ move_from man origin

quiet_men : (p : Position) (man : Man) (m : Move) → p.passed ≡ None → m.promoted ≡ None → men_after p man m ≡ men_before p.men man m.target
unfolding men_after men_before
quiet_men p man m u v = rw (u, v) refl

led_to : (p : Position) (man : Man) (m : Move) (xs : List Man) → man_at p.men m.origin ≡ Some man → men_after p man m ≡ xs
    → without_passed (after p m) ≡ record { men = xs; to_move = other_side p.to_move; passed = None }
unfolding after
led_to p man m xs here e = rw (here, e) refl

module _ (q : Position) (by : Move) (p : Position) (valid : IsValid q) (e : LeadsQuietly p by q) where
  pub mover : HasMover p by
  mover = HasMover-from_is_legal p by e.legal

  abbrev pub man : Man
  man = mover.man

  found : IsAmong man p.men × (man.at ≡ by.origin)
  found = found_among p.men by.origin man mover.here

  movable_on : CanBeMoved p.men man by.target
  movable_on = record { ordered = e.valid.ordered; among = found.0; free = e.quiet.0 }

  led : without_passed (after p by) ≡ record { men = men_before p.men man by.target; to_move = other_side p.to_move; passed = None }
  led = led_to p man by (men_before p.men man by.target) mover.here (quiet_men p man by e.unpassed e.quiet.1)

  men_now : men_before p.men man by.target ≡ q.men
  men_now = ap (λ (x : Position). x.men) (sym led ∙ e.leads)

  side_now : other_side p.to_move ≡ q.to_move
  side_now = ap (λ (x : Position). x.to_move) (sym led ∙ e.leads)

  side_before : other_side q.to_move ≡ p.to_move
  side_before = ap other_side (sym side_now) ∙ other_twice p.to_move

  abbrev pub then : Man
  then = set_back man by.target

  men_then : men_before q.men then man.at ≡ p.men
  men_then = ap (λ (xs : List Man). men_before xs then man.at) (sym men_now) ∙ back_and_forth p.men man by.target movable_on

  among_now : IsAmong then q.men
  unfolding men_before
  among_now =
      let P : List Man → Type 0 = λ xs. IsAmong then xs in
      subst P men_now (IsAmong-insert_man then (filter (survives None man by.target) p.men))

  free_now : is_occupied q.men man.at ≡ false
  free_now = ap (λ (xs : List Man). is_occupied xs man.at) (sym men_now) ∙ target_is_empty p.men man by.target movable_on

  movable_back : CanBeMoved q.men then man.at
  movable_back = record { ordered = valid.ordered; among = among_now; free = free_now }

  his_now : man.side ≡ other_side q.to_move
  his_now = sides_equal man.side p.to_move mover.moves.mine ∙ sym side_before

  goes_on : reaches_target (men_before q.men then man.at) None man by.target ≡ true
  goes_on =
      let P : Option ℕ → Type 0 = λ o. reaches_target p.men o man by.target ≡ true in
      rw men_then (subst P e.unpassed mover.moves.going)

  came_now : is_unmove_origin q.men q.to_move then man.at ≡ true
  came_now =
      let pseudo_targets : comes q.men then man.at ≡ true = coming q.men then man.at movable_back goes_on
      (inside_among p.men man (faultless p e.valid).pawns found.0) in
      let safe : was_check q.men q.to_move then man.at ≡ false =
      sym (in_check_before q.men then man.at free_now q.to_move his_now) ∙ rw (men_then, ← side_now) (faultless p e.valid).safe in
      rw (pseudo_targets, safe) refl

  by_man : by ≡ move_from then man.at
  by_man =
      let whole : (o : ℕ) (k : Option Kind) → by.origin ≡ o → by.promoted ≡ k
      → by ≡ record { origin = o; target = by.target; promoted = k } = λ o k i j. rw (← i, ← j) refl in
      whole man.at None (sym found.1) e.quiet.1

  pub IsTakenBack-from : IsTakenBack q by p
  IsTakenBack-from = record {
    man = then;
    origin = man.at;
    came = record { among = among_now; his = his_now; on = All-among (λ m. m.at < 64) p.men man e.valid.on_board found.0; came = came_now };
    is =
        let whole : (xs : List Man) (s : Side) (o : Option ℕ) → p.men ≡ xs → p.to_move ≡ s → p.passed ≡ o
        → p ≡ record { men = xs; to_move = s; passed = o } = λ xs s o i j k. rw (← i, ← j, ← k) refl in
        whole _ _ _ (sym men_then) (sym side_before) e.unpassed;
    by = by_man;
  }

-- the position before determines the man and its square
module _ (q : Position) (valid : IsValid q) (man man' : Man) (a a' : ℕ) (h : CameFrom q man a)
    (k : CameFrom q man' a') (same : men_before q.men man a ≡ men_before q.men man' a') where
  both : (x : ℕ) → ((a == x) || ((not (x == man.at) && not (x == a)) && is_occupied q.men x))
      ≡ ((a' == x) || ((not (x == man'.at) && not (x == a')) && is_occupied q.men x))
  both x = sym (occupied_before q.men man a (movable q valid man a h) x) ∙ ap (λ (xs : List Man). is_occupied xs x)
      same ∙ occupied_before q.men man' a' (movable q valid man' a' k) x

  pub same_man : man ≡ man'
  same_man = elim (cases_Bool (man'.at == man.at)) [
    | inl e ↦ same_square q.men man man' valid.ordered h.among k.among (sym (eqb-true man'.at man.at e))
    | inr e ↦
        let o = occupied_from q.men man' k.among in
        let m = movable q valid man' a' k in
        let n = movable q valid man a h in
        let t : (a' == man'.at) ≡ false = ne_eqb a' man'.at (λ s. apart_from_origin q.men man' a' m (sym s)) in
        let u : (man'.at == a) ≡ false = ne_eqb man'.at a (λ s. no_man_on_origin q.men man a n man' k.among s) in
        let v : (a == man'.at) ≡ false = ne_eqb a man'.at (λ s. no_man_on_origin q.men man a n man' k.among (sym s)) in
        let there = both man'.at in
        absurd (false≢true (sym (rw (t, u, v, e, o, eq-eqb man'.at man'.at refl) at there)))
  ]

  pub same_origin : a ≡ a'
  same_origin = elim (cases_Bool (a == a')) [
    | inl e ↦ eqb-true a a' e
    | inr e ↦
        let n = movable q valid man' a' k in
        let o = n.free in
        let there = both a' in
        absurd (false≢true (rw (e, o, eq-eqb a' a' refl, and_false (not (a' == man.at) && not (a' == a))) at there))
  ]

pub man_at-among : (men : List Man) (man : Man) → IsAscending men → IsAmong man men → man_at men man.at ≡ Some man
man_at-among [] man h i = absurd i
man_at-among (x ∷ xs) man h (inl s) = rw (s, eq-eqb man.at man.at refl) refl
man_at-among (x ∷ xs) man h (inr i) =
    let low = above_among x.at xs man h.0 i in
    rw (ne_eqb x.at man.at (λ e. absurd (omega arith))) (man_at-among xs man h.1 i)

-- the man on the target of a quiet move that can have led here
pub record IsTakenFrom (q : Position) (m : Move) (man : Man) (p : Position) : Type 0 where
  pub came : CameFrom q man m.origin
  pub by : m ≡ move_from man m.origin
  pub is : p ≡ position_before q man m.origin

pub mover_there : (q : Position) (m : Move) (p : Position) → IsValid q → LeadsQuietly p m q → (man : Man) × (man_at q.men m.target ≡ Some man)
mover_there q m p valid e =
    let t = IsTakenBack-from q m p valid e in
    let at : m.target ≡ t.man.at = ap (λ (x : Move). x.target) t.by in
    (t.man, subst (λ (x : ℕ). man_at q.men x ≡ Some t.man) (sym at) (man_at-among q.men t.man valid.ordered t.came.among))

pub taken_from : (q : Position) (m : Move) (p : Position) (man : Man) → IsValid q → man_at q.men m.target ≡ Some man
    → LeadsQuietly p m q → IsTakenFrom q m man p
taken_from q m p man valid here e =
    let t = IsTakenBack-from q m p valid e in
    let at : m.target ≡ t.man.at = ap (λ (x : Move). x.target) t.by in
    let from : t.origin ≡ m.origin = sym (ap (λ (x : Move). x.origin) t.by) in
    let f = found_among q.men m.target man here in
    let same : t.man ≡ man = same_square q.men t.man man valid.ordered t.came.among f.0 (sym at ∙ sym f.1) in
    record {
      came = subst (λ (x : Man). CameFrom q x m.origin) same (subst (λ (o : ℕ). CameFrom q t.man o) from t.came);
      by = t.by ∙ ap (λ (o : ℕ). move_from t.man o) from ∙ ap (λ (x : Man). move_from x m.origin) same;
      is = t.is ∙ ap (λ (o : ℕ). position_before q t.man o) from ∙ ap (λ (x : Man). position_before q x m.origin) same;
    }

-- the position before determines the move
pub same_move : (q : Position) (m n : Move) (p : Position) → IsValid q → LeadsQuietly p m q → LeadsQuietly p n q → m ≡ n
same_move q m n p valid e f =
    let t = IsTakenBack-from q m p valid e in
    let u = IsTakenBack-from q n p valid f in
    let men = ap (λ (x : Position). x.men) (sym t.is ∙ u.is) in
    let a = same_man q valid t.man u.man t.origin u.origin t.came u.came men in
    let b = same_origin q valid t.man u.man t.origin u.origin t.came u.came men in
    t.by ∙ ap (λ (o : ℕ). move_from t.man o) b ∙ ap (λ (x : Man). move_from x u.origin) a ∙ sym u.by
