-- Whether a king is attacked after one of the men of a row has gone to another square, by the men that stay.
use Rattle.std.proofs.Common.{◌≡◌, ℕ, ◌+◌, ◌<◌, ◌≤◌, ◌==◌, Bool, true, false, cond, not, ◌&&◌, ◌||◌, inl, inr, List, [], ◌∷◌, ◌++◌}
use Rattle.std.proofs.Common.{map, take, get_or, length, refl, sym, ◌∙◌, ap, subst, arith}
use Rattle.std.specs.Prelude.{count_by}
use Rattle.std.specs.List.{Contains, list_any}
use Rattle.std.proofs.lemmas.Bool.{and_left, eq-eqb, false≢true, or_from, or_parts}
use Rattle.std.proofs.lemmas.List.Folds.{list_any-append, list_any_more}
use Rattle.std.proofs.lemmas.List.Sums.{sum_by-append}
use Rattle.study_board.specs.declared.men.Side.{Side}
use Rattle.study_board.specs.declared.men.Kind.TheVariants.{King}
use Rattle.study_board.specs.declared.men.Man.{Man}
use Rattle.study_board.specs.Geometry.{strictly_between}
use Rattle.study_board.specs.Men.{attacks_square, is_blocked, is_man, other_side, reaches, same_kind, same_side, moved_if}
use Rattle.study_board.specs.Position.{in_check, is_occupied}
use Rattle.study_board.specs.Sets.{has, is_slider, reaches_if}
use Rattle.study_board.proofs.Faults.{list_any_same}
use Rattle.study_board.proofs.Lists.{count_by-cons}
use Rattle.study_moves.proofs.KingSafety.{not_at_end}
use Rattle.study_moves.proofs.MenOfList.{IsAmong, none_among}
use Rattle.study_retro.specs.RowMoves.{AreOnDistinctSquares, AreAttackers, AreRest, IsOnlyKing, attacked_with_last, keeps_attack_past}
use Rattle.study_retro.specs.RowMoves.{keeps_attack_with, gone_to}
use Rattle.study_retro.specs.RowMoves.{king_attacked_with, does_not_block}
use Rattle.study_retro.specs.declared.rows.checks.Attacker.{Attacker}
use Rattle.study_retro.specs.Still.{opposing_man, on_square}
use Rattle.study_retro.proofs.RowChecks.{and_and, bears_last, bears_men, between_self, or_none, reach_if, row_check}
use Rattle.study_retro.proofs.RowLemmas.{bears_alone}
use Rattle.study_retro.proofs.RowMoveLemmas.{unoccupied}
use Rattle.study_retro.proofs.StillChess.{among-of}

-- ---- tests

-- no square is between on a line to its own end
aside : (b s e : Bool) → e ≡ false → (b && not (s && e)) ≡ b
aside true true false n = refl
aside true true true n = absurd (false≢true (sym n))
aside true false e n = refl
aside false s e n = refl

neither : (s b : Bool) → b ≡ false → (s && b) ≡ false
neither true b e = e
neither false b e = refl

-- a man that bears on a square past another man bears on it without that man
pub past_one : (h c t n : Bool) → (h ≡ true → c ≡ true) → t ≡ (c && n) → (h && t) ≡ (h && n)
past_one true c t n f i = i ∙ ap (λ (b : Bool). b && n) (f refl)
past_one false c t n f i = refl

past_two : (s b n k : Bool) → (s && ((b && n) && k)) ≡ ((s && b) && (n && k))
past_two true true n k = refl
past_two true false n k = refl
past_two false b n k = refl

nowhere : (s t r n : Bool) → t ≡ true → (s && ((not t && r) && n)) ≡ false
nowhere true true r n e = refl
nowhere true false r n e = absurd (false≢true e)
nowhere false t r n e = refl

crosswise : (i j a b : Bool) → ((i || j) || (a || b)) ≡ ((i || a) || (j || b))
crosswise true j a b = refl
crosswise false true true b = refl
crosswise false true false b = refl
crosswise false false a b = refl

-- ---- some man of a list

any_map : (p : Man → Bool) (h : Man → Man) (xs : List Man) → list_any p (map h xs) ≡ list_any (λ m. p (h m)) xs
any_map p h [] = refl
any_map p h (x ∷ xs) = ap (λ (b : Bool). p (h x) || b) (any_map p h xs)

any_weaker : (p q : Man → Bool) → ((m : Man) → p m ≡ false → q m ≡ false) → (xs : List Man) → list_any p xs ≡ false → list_any q xs ≡ false
any_weaker p q h [] e = refl
any_weaker p q h (x ∷ xs) e =
    let o = or_parts (p x) (list_any p xs) e in
    or_from (q x) (list_any q xs) (h x o.0) (any_weaker p q h xs o.1)

none_of : (p q : Attacker → Bool) → ((b : Attacker) → p b ≡ false → q b ≡ false) → (bs : List Attacker) → list_any p bs ≡ false → list_any q bs ≡ false
none_of p q h [] e = refl
none_of p q h (b ∷ bs) e =
    let o = or_parts (p b) (list_any p bs) e in
    or_from (q b) (list_any q bs) (h b o.0) (none_of p q h bs o.1)

-- a set gathered from one bearer to the next
pub gathered : (p : Attacker → Bool) (bs : List Attacker) (i : ℕ) (d b : Attacker) (x set more set' : ℕ) → i < length bs → b ≡ get_or bs i d
    → has set x ≡ list_any p (take i bs) → has more x ≡ p b → has set' x ≡ (has set x || has more x) → has set' x ≡ list_any p (take (i + 1) bs)
gathered p bs i d b x set more set' lt is e f g = g ∙ rw (e, f, is) (sym (list_any_more p bs i d lt))

-- a square on which a man bears among others, it bears on alone
pub bears_without : (men : List Man) (m : Man) (x : ℕ) (s : Bool) → (s && attacks_square men m x) ≡ true → attacks_square [] m x ≡ true
bears_without men m x s e = by_test (attacks_square [] m x) refl
  where
    by_test : (b : Bool) → attacks_square [] m x ≡ b → b ≡ true
    by_test true o = refl
    by_test false o = absurd (false≢true (sym (neither s (attacks_square men m x) (bears_alone men m x o)) ∙ e))

-- if no man bears on x, no man of any kind does
pub none_with : (attackers : List Attacker) (p : Man → Bool) (x : ℕ) → list_any (λ b. has b.squares x) attackers ≡ false
    → list_any (λ b. has b.squares x && p b.man) attackers ≡ false
none_with attackers p x none =
    none_of (λ b. has b.squares x) (λ b. has b.squares x && p b.man) (λ b e. and_left (has b.squares x) (p b.man) e) attackers none

-- one more man is of the side, or is not
module _ (men : List Man) (by : Side) (i : ℕ) (d m : Man) (lt : i < length men) (is : m ≡ get_or men i d) (x : ℕ) (p : Man → Bool) where
  pub attacker_more : (bs : List Attacker) (s : ℕ)
      → list_any (λ b. has b.squares x && p b.man) bs ≡ list_any (λ k. (same_side k.side by && attacks_square men k x) && p k) (take i men)
      → has s x ≡ attacks_square men m x → same_side m.side by ≡ true
      → list_any (λ b. has b.squares x && p b.man) (bs ++ record { man = m; squares = s } ∷ [])
      ≡ list_any (λ k. (same_side k.side by && attacks_square men k x) && p k) (take (i + 1) men)
  attacker_more bs s so_far on ours =
      let q : Attacker → Bool = λ b. has b.squares x && p b.man in
      let of : Man → Bool = λ k. (same_side k.side by && attacks_square men k x) && p k in
      let all = list_any-append q bs (record { man = m; squares = s } ∷ []) in
      all
      ∙ ap (λ (b : Bool). b || ((has s x && p m) || false)) so_far
      ∙ ap (λ (b : Bool). list_any of (take i men) || b)
      (or_none (has s x && p m) ∙ ap (λ (b : Bool). b && p m) (on ∙ sym (ap (λ (b : Bool). b && attacks_square men m x) ours)) ∙ ap of is)
      ∙ sym (list_any_more of men i d lt)

  pub attacker_less : same_side m.side by ≡ false
      → list_any (λ k. (same_side k.side by && attacks_square men k x) && p k) (take i men)
      ≡ list_any (λ k. (same_side k.side by && attacks_square men k x) && p k) (take (i + 1) men)
  attacker_less other =
      let of : Man → Bool = λ k. (same_side k.side by && attacks_square men k x) && p k in
      sym (list_any_more of men i d lt
      ∙ ap (λ (b : Bool). list_any of (take i men) || b) (sym (ap of is) ∙ ap (λ (b : Bool). (b && attacks_square men m x) && p m) other)
      ∙ or_none (list_any of (take i men)))

-- the men that bear on a square are among those that bear
pub among_attackers : (men : List Man) (by : Side) (attackers : List Attacker) → AreAttackers men by attackers → (x y : ℕ) → x < 64
    → list_any (λ b. has b.squares x && does_not_block b.man x y) attackers ≡ list_any (λ m. same_side m.side by && keeps_attack_with men y m x) men
among_attackers men by attackers bear x y on =
    bear x on (λ m. does_not_block m x y)
    ∙ list_any_same (λ m. (same_side m.side by && attacks_square men m x) && does_not_block m x y) (λ m. same_side m.side by && keeps_attack_with men y m x)
    (λ m. and_and (same_side m.side by) (attacks_square men m x) (does_not_block m x y)) men

-- what is true of the men, the last man, the side and the man that the checks are for
pub made-for : (P : List Man → Man → Side → Man → Type 0) {xs ys : List Man} → xs ≡ ys → {l k : Man} → l ≡ k → {s t : Side} → s ≡ t
    → {m n : Man} → m ≡ n → P xs l s m → P ys k t n
made-for P {xs} {ys} others {l} {k} last {s} {t} side {m} {n} man p =
    subst (P ys k t) man (subst (λ (z : Side). P ys k z m) side
    (subst (λ (z : Man). P ys z s m) last (subst (λ (zs : List Man). P zs l s m) others p)))

-- one more man of the others stays, or is the one that goes
module _ (others : List Man) (from i : ℕ) (d m : Man) (lt : i < length others) (is : m ≡ get_or others i d) where
  pub staying_more : (xs : List Man) → AreRest (take i others) from xs → not (m.at == from) ≡ true → AreRest (take (i + 1) others) from (xs ++ m ∷ [])
  staying_more xs rest e p =
      list_any-append p xs (m ∷ [])
      ∙ ap (λ (b : Bool). b || list_any p (m ∷ [])) (rest p)
      ∙ ap (λ (b : Bool). list_any (λ k. not (k.at == from) && p k) (take i others) || b)
      (or_none (p m) ∙ sym (ap (λ (b : Bool). b && p m) e) ∙ ap (λ (k : Man). not (k.at == from) && p k) is)
      ∙ sym (list_any_more (λ k. not (k.at == from) && p k) others i d lt)

  pub staying_less : (xs : List Man) → AreRest (take i others) from xs → not (m.at == from) ≡ false → AreRest (take (i + 1) others) from xs
  staying_less xs rest e p =
      rest p
      ∙ sym (list_any_more (λ k. not (k.at == from) && p k) others i d lt
      ∙ ap (λ (b : Bool). list_any (λ k. not (k.at == from) && p k) (take i others) || b)
      (and_left (not ((get_or others i d).at == from)) (p (get_or others i d)) (ap (λ (k : Man). not (k.at == from)) (sym is) ∙ e))
      ∙ or_none (list_any (λ k. not (k.at == from) && p k) (take i others)))

-- one more man is a king of the side, or is not
module _ (others : List Man) (side : Side) (i : ℕ) (d m : Man) (lt : i < length others) (is : m ≡ get_or others i d) where
  pub king_more : is_man side King m ≡ true → ((f : ℕ → Bool) → list_any (λ k. is_man side King k && f k.at) (take i others) ≡ false)
      → IsOnlyKing (take (i + 1) others) side m.at
  king_more king none f =
      list_any_more (λ k. is_man side King k && f k.at) others i d lt
      ∙ ap (λ (b : Bool). b || (is_man side King (get_or others i d) && f (get_or others i d).at)) (none f)
      ∙ ap (λ (k : Man). is_man side King k && f k.at) (sym is)
      ∙ ap (λ (b : Bool). b && f m.at) king

  pub king_less : is_man side King m ≡ false → (f : ℕ → Bool)
      → list_any (λ k. is_man side King k && f k.at) (take (i + 1) others) ≡ list_any (λ k. is_man side King k && f k.at) (take i others)
  king_less no_king f =
      list_any_more (λ k. is_man side King k && f k.at) others i d lt
      ∙ ap (λ (b : Bool). list_any (λ k. is_man side King k && f k.at) (take i others) || b)
      (ap (λ (k : Man). is_man side King k && f k.at) (sym is) ∙ and_left (is_man side King m) (f m.at) no_king)
      ∙ or_none (list_any (λ k. is_man side King k && f k.at) (take i others))

-- ---- the man put on another square

module _ (man : Man) (to : ℕ) where
  one_moved : (p : Man → Bool) (t : Bool) (x : Man) → p (cond t (on_square x to) x) ≡ ((not t && p x) || (t && p (on_square x to)))
  one_moved p true x = refl
  one_moved p false x = sym (or_none (p x))

  -- a man that stays, or one that has gone
  each_moved : (p : Man → Bool) (xs : List Man) → list_any p (map (moved_if man.at to) xs)
      ≡ (list_any (λ m. not (m.at == man.at) && p m) xs || list_any (λ m. (m.at == man.at) && p (on_square m to)) xs)
  each_moved p [] = refl
  each_moved p (x ∷ xs) =
      ap (λ (b : Bool). b || list_any p (map (moved_if man.at to) xs)) (one_moved p (x.at == man.at) x)
      ∙ ap (λ (b : Bool). ((not (x.at == man.at) && p x) || ((x.at == man.at) && p (on_square x to))) || b) (each_moved p xs)
      ∙ crosswise (not (x.at == man.at) && p x) ((x.at == man.at) && p (on_square x to))
      (list_any (λ m. not (m.at == man.at) && p m) xs) (list_any (λ m. (m.at == man.at) && p (on_square m to)) xs)

  the_moved : (p : Man → Bool) (xs : List Man) → IsAmong man xs → count_by (λ m. m.at == man.at) xs ≤ 1
      → list_any (λ m. (m.at == man.at) && p (on_square m to)) xs ≡ p (on_square man to)
  unfolding is_occupied
  the_moved p [] i c = absurd i
  the_moved p (x ∷ xs) (inl s) c =
      let same : (x.at == man.at) ≡ true = eq-eqb _ _ (ap (λ (m : Man). m.at) s) in
      let more : count_by (λ m. m.at == man.at) (x ∷ xs) ≡ 1 + count_by (λ m. m.at == man.at) xs =
      count_by-cons (λ m. m.at == man.at) x xs ∙ rw same refl in
      let none : count_by (λ m. m.at == man.at) xs ≡ 0 = omega (arith, c, more) in
      let out : list_any (λ m. (m.at == man.at) && p (on_square m to)) xs ≡ false =
      any_weaker (λ m. m.at == man.at) (λ m. (m.at == man.at) && p (on_square m to)) (λ m e. and_left (m.at == man.at) (p (on_square m to)) e) xs
      (unoccupied man.at xs none) in
      ap (λ (b : Bool). (b && p (on_square x to)) || list_any (λ m. (m.at == man.at) && p (on_square m to)) xs) same
      ∙ ap (λ (b : Bool). p (on_square x to) || b) out
      ∙ or_none (p (on_square x to))
      ∙ ap (λ (m : Man). p (on_square m to)) s
  the_moved p (x ∷ xs) (inr i) c = by_test (the_moved p xs i) (x.at == man.at) refl
    where
      by_test : (count_by (λ m. m.at == man.at) xs ≤ 1 → list_any (λ m. (m.at == man.at) && p (on_square m to)) xs ≡ p (on_square man to))
          → (b : Bool) → (x.at == man.at) ≡ b → list_any (λ m. (m.at == man.at) && p (on_square m to)) (x ∷ xs) ≡ p (on_square man to)
      by_test ih true same =
          let more : count_by (λ m. m.at == man.at) (x ∷ xs) ≡ 1 + count_by (λ m. m.at == man.at) xs =
          count_by-cons (λ m. m.at == man.at) x xs ∙ rw same refl in
          let none : count_by (λ m. m.at == man.at) xs ≡ 0 = omega (arith, c, more) in
          absurd (false≢true (sym (none_among (λ y. y.at == man.at) xs man (unoccupied man.at xs none) i) ∙ eq-eqb man.at man.at refl))
      by_test ih false other =
          ap (λ (b : Bool). (b && p (on_square x to)) || list_any (λ m. (m.at == man.at) && p (on_square m to)) xs) other
          ∙ ih (omega (arith, c, count_by-cons (λ m. m.at == man.at) x xs))

-- ---- the men of a row, one of the others put on another square

module _ (others staying : List Man) (last man : Man) (to y : ℕ) (among : Contains others man) (rest : AreRest others man.at staying)
    (apart : AreOnDistinctSquares (others ++ on_square last y ∷ [])) where
  abbrev pub moved : List Man
  moved = map (moved_if man.at to) others

  abbrev z : Man
  z = on_square man to

  any_moved : (p : Man → Bool) → list_any p moved ≡ (list_any p staying || p z)
  any_moved p =
      let all = apart man.at in
      let sum = sum_by-append (λ (m : Man). cond (m.at == man.at) 1 0) others (on_square last y ∷ []) in
      let few : count_by (λ m. m.at == man.at) others ≤ 1 = omega (arith, all, sum) in
      each_moved man to p others
      ∙ ap (λ (b : Bool). list_any (λ m. not (m.at == man.at) && p m) others || b) (the_moved man to p others (among-of others man among) few)
      ∙ ap (λ (b : Bool). b || p z) (sym (rest p))

  blocked_moved : (a x : ℕ) → is_blocked moved a x ≡ is_blocked (staying ++ z ∷ []) a x
  unfolding is_blocked
  blocked_moved a x =
      any_moved (λ m. strictly_between a m.at x)
      ∙ sym (list_any-append (λ m. strictly_between a m.at x) staying (z ∷ [])
      ∙ ap (λ (b : Bool). list_any (λ m. strictly_between a m.at x) staying || b) (or_none (strictly_between a to x)))

  bears_moved : (m : Man) (x : ℕ) → attacks_square moved m x ≡ keeps_attack_with staying to m x
  bears_moved m x =
      ap (λ (b : Bool). not (m.at == x) && b)
      (reach_if moved m.side m.kind m.at x ∙ ap (λ (b : Bool). reaches_if b m.side m.kind m.at x) (blocked_moved m.at x)
      ∙ sym (reach_if (staying ++ z ∷ []) m.side m.kind m.at x))
      ∙ bears_men staying man to m x

  -- ---- on the square to which the man has gone

  bears_there : (m : Man) → keeps_attack_with moved y m to ≡ keeps_attack_with staying y m to
  bears_there m =
      ap (λ (b : Bool). b && not (is_slider m.kind && strictly_between m.at y to))
      (bears_moved m to ∙ aside (attacks_square staying m to) (is_slider m.kind) (strictly_between m.at to to) (not_at_end m.at to))

  none_itself : (side : Side) → (same_side man.side side && keeps_attack_with moved y z to) ≡ false
  none_itself side =
      nowhere (same_side man.side side) (to == to) (reaches moved man.side man.kind to to) (not (is_slider man.kind && strictly_between to y to))
      (eq-eqb to to refl)

  last_there : attacks_square moved (opposing_man last to) y ≡ attacks_square staying (opposing_man last to) y
  last_there =
      bears_moved (opposing_man last to) y
      ∙ aside (attacks_square staying (opposing_man last to) y) (is_slider last.kind) (strictly_between to to y) (between_self to y)

  attacked_there : (side : Side) → attacked_with_last moved last side to y ≡ attacked_with_last staying last side to y
  attacked_there side =
      ap (λ (b : Bool). b || (same_side last.side side && attacks_square moved (opposing_man last to) y))
      (any_moved (λ m. same_side m.side side && keeps_attack_with moved y m to)
      ∙ ap (λ (b : Bool). list_any (λ m. same_side m.side side && keeps_attack_with moved y m to) staying || b) (none_itself side)
      ∙ or_none (list_any (λ m. same_side m.side side && keeps_attack_with moved y m to) staying)
      ∙ list_any_same (λ m. same_side m.side side && keeps_attack_with moved y m to) (λ m. same_side m.side side && keeps_attack_with staying y m to)
      (λ m. ap (λ (b : Bool). same_side m.side side && b) (bears_there m)) staying)
      ∙ ap (λ (b : Bool). list_any (λ m. same_side m.side side && keeps_attack_with staying y m to) staying || (same_side last.side side && b)) last_there

  -- ---- on another square

  module _ (side : Side) (attackers : List Attacker) (bear : AreAttackers staying side attackers) (x : ℕ) (on : x < 64) where
    by_staying : list_any (λ m. same_side m.side side && keeps_attack_with moved y m x) staying ≡ list_any (keeps_attack_past to x y) attackers
    by_staying =
        list_any_same (λ m. same_side m.side side && keeps_attack_with moved y m x)
        (λ m. (same_side m.side side && attacks_square staying m x) && (does_not_block m x to && does_not_block m x y))
        (λ m. ap (λ (b : Bool). same_side m.side side && (b && does_not_block m x y)) (bears_moved m x)
        ∙ past_two (same_side m.side side) (attacks_square staying m x) (does_not_block m x to) (does_not_block m x y)) staying
        ∙ sym (bear x on (λ m. does_not_block m x to && does_not_block m x y))

    by_itself : (same_side man.side side && keeps_attack_with moved y z x)
        ≡ ((same_side man.side side && attacks_square staying (opposing_man man x) to) && does_not_block z x y)
    by_itself =
        ap (λ (b : Bool). same_side man.side side && (b && does_not_block z x y))
        (bears_moved z x ∙ sym (bears_men staying man to z x) ∙ bears_last staying man to x)
        ∙ sym (and_and (same_side man.side side) (attacks_square staying (opposing_man man x) to) (does_not_block z x y))

    by_last : (same_side last.side side && attacks_square moved (opposing_man last x) y)
        ≡ ((same_side last.side side && attacks_square staying (opposing_man last x) y) && does_not_block (opposing_man last x) y to)
    by_last =
        ap (λ (b : Bool). same_side last.side side && b) (bears_moved (opposing_man last x) y)
        ∙ sym (and_and (same_side last.side side) (attacks_square staying (opposing_man last x) y) (does_not_block (opposing_man last x) y to))

    pub by_three : attacked_with_last moved last side x y
        ≡ ((list_any (keeps_attack_past to x y) attackers || ((same_side man.side side && attacks_square staying (opposing_man man x) to) &&
        does_not_block z x y))
        || ((same_side last.side side && attacks_square staying (opposing_man last x) y) && does_not_block (opposing_man last x) y to))
    by_three =
        ap (λ (b : Bool). b || (same_side last.side side && attacks_square moved (opposing_man last x) y))
        (any_moved (λ m. same_side m.side side && keeps_attack_with moved y m x)
        ∙ ap (λ (b : Bool). b || (same_side man.side side && keeps_attack_with moved y z x)) by_staying
        ∙ ap (λ (b : Bool). list_any (keeps_attack_past to x y) attackers || b) by_itself)
        ∙ ap (λ (b : Bool). (list_any (keeps_attack_past to x y) attackers
        || ((same_side man.side side && attacks_square staying (opposing_man man x) to) && does_not_block z x y)) || b) by_last

  -- ---- on the square of a king, that of the man or another

  pub king_itself : (side : Side) (k : ℕ) → (k == man.at) ≡ true
      → attacked_with_last staying last side to y ≡ attacked_with_last moved last side (gone_to man.at to k) y
  king_itself side k e = sym (attacked_there side) ∙ ap (λ (x : ℕ). attacked_with_last moved last side x y) (sym (goes k e))
    where
      goes : (a : ℕ) → (a == man.at) ≡ true → gone_to man.at to a ≡ to
      goes a t = rw t refl

-- the square of a man after another one has gone
pub still_at : (from to k : ℕ) → (k == from) ≡ false → gone_to from to k ≡ k
still_at from to k e = rw e refl

-- the side is in check if its only king, after the man has gone, is attacked
module _ (others : List Man) (last : Man) (from to y : ℕ) (side : Side) where
  one_king : (men : List Man) (t : Bool) (m : Man) → king_attacked_with men last side y (cond t (on_square m to) m)
      ≡ (is_man side King m && attacked_with_last men last (other_side side) (cond t to m.at) y)
  one_king men true m = refl
  one_king men false m = refl

  pub check_by_king : (k : ℕ) → IsOnlyKing others side k → same_kind last.kind King ≡ false
      → attacked_with_last (map (moved_if from to) others) last (other_side side) (gone_to from to k) y
      ≡ in_check (map (moved_if from to) others ++ on_square last y ∷ []) side
  check_by_king k only none =
      let men = map (moved_if from to) others in
      let f : ℕ → Bool = λ a. attacked_with_last men last (other_side side) (gone_to from to a) y in
      sym (sym (row_check men last y side none)
      ∙ any_map (king_attacked_with men last side y) (moved_if from to) others
      ∙ list_any_same (λ m. king_attacked_with men last side y (moved_if from to m)) (λ m. is_man side King m && f m.at)
      (λ m. one_king men (m.at == from) m) others
      ∙ only f)
