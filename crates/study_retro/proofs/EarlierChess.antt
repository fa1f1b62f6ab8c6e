-- The numbers that lead to the position of a number, by the positions before a quiet move.
use Rattle.study_board.specs.Men.{is_pawn}
use Rattle.std.proofs.Common.{◌≡◌, ℕ, ◌+◌, ◌<◌, ◌⊎◌, inl, inr, arith, Bool, true, false, cond, not, ◌||◌, ◌↔◌}
use Rattle.std.proofs.Common.{List, [], ◌∷◌, ◌++◌, Contains, Option, Some, None, refl, sym, ◌∙◌, ap, subst}
use Rattle.std.proofs.lemmas.Bool.{false≢true, false_from_ne_true}
use Rattle.std.proofs.lemmas.List.Elements.{Contains-push, Contains-push_cases, Contains-append_left}
use Rattle.study_board.specs.declared.men.Man.{Man}
use Rattle.study_board.specs.Position.{Position, IsValid, man_at, is_empty, in_order}
use Rattle.study_board.proofs.Valid.{IsFaultless-from_first, first_fault-from_IsFaultless}
use Rattle.study_board.specs.declared.symmetry.Symmetry.{Symmetry}
use Rattle.study_board.specs.Symmetry.{image, admits, keeps_pawns}
use Rattle.study_board.proofs.ImagesValid.{valid_image}
use Rattle.study_board.proofs.ImagesOfImages.{IsTurnable-from_valid}
use Rattle.study_moves.specs.declared.moves.Move.{Move}
use Rattle.study_moves.specs.Rules.{is_legal, after, reaches_target, is_en_passant}
use Rattle.study_moves.specs.Symmetry.{image_move}
use Rattle.study_moves.specs.EnPassant.{is_capturable_en_passant, has_legal_en_passant, without_passed, without_idle_passed_square}
use Rattle.study_moves.specs.Alike.{Leads}
use Rattle.study_moves.specs.Unmoves.{IsQuiet, LeadsQuietly}
use Rattle.study_moves.proofs.RulesOfImages.{after-turned, image_legal}
use Rattle.study_moves.proofs.BarePassing.{goes_without, is_legal_for_bare, men_after_bare}
use Rattle.study_moves.proofs.BareImages.{bare_image}
use Rattle.study_moves.proofs.NoMoveBetween.{HasMover-from_is_legal}
use Rattle.study_moves.proofs.AfterMove.{IsValid-after}
use Rattle.study_moves.proofs.AlikePositions.{admits_bare}
use Rattle.study_material.specs.declared.class.Class.{Class}
use Rattle.study_material.specs.Lists.{Lists, lists, ordered_lists}
use Rattle.study_material.specs.Class.{IsOf}
use Rattle.study_values.specs.Number.{IsIndex, with_bit, without_bit}
use Rattle.study_index.specs.Decoded.{slots_of, decoded_men, decoded_side}
use Rattle.study_index.specs.Computed.{position_decoded, is_entry, position_numbered}
use Rattle.study_values.specs.Index.{index_of}
use Rattle.study_index.specs.Laws.{AreAlikeIn}
use Rattle.study_index.proofs.ClassLaws.{entry, numbered, same_class, same_index, alike_back, alike_move}
use Rattle.study_index.proofs.ComputedIndex.{IsIndex-index_of, index_of-only, decoded_of_numbered, numbered_of_decoded}
use Rattle.study_index.proofs.ImageNumbers.{IsLeastNumber-passed}
use Rattle.study_index.proofs.LivePassing.{live_along, not_live_passed}
use Rattle.study_index.proofs.WithBit.{HasParts-from}
use Rattle.study_levels.specs.Propagation.{LeadsTo}
use Rattle.study_retro.specs.Predecessors.{IsPlainNumber, IsNumberBefore, ComesBefore}
use Rattle.study_material.specs.Class.{is_of}
use Rattle.study_material.proofs.Classes.{IsOf-is_of, is_of-IsOf}
use Rattle.study_retro.proofs.QuietClass.{quiet_lists, quiet_any, quiet_within, passes_none, unpassing, unoccupied}

without_bare : (p : Position) → without_passed (without_idle_passed_square p) ≡ without_passed p
without_bare p = by_live (has_legal_en_passant p)
  where
    by_live : (b : Bool) → without_passed (cond b p (without_passed p)) ≡ without_passed p
    by_live true = refl
    by_live false = refl

without_image : (s : Symmetry) (p : Position) → without_passed (image s (without_idle_passed_square p)) ≡ without_passed (image s p)
without_image s p = by_live (has_legal_en_passant p)
  where
    by_live : (b : Bool) → without_passed (image s (cond b p (without_passed p))) ≡ without_passed (image s p)
    by_live true = refl
    by_live false = refl

-- a quiet move leaves the pawns on the board
admits_before : (s : Symmetry) (p : Position) (m : Move) → IsValid p → p.passed ≡ None → is_legal p m ≡ true
    → IsQuiet p m → admits (after p m) s ≡ true → admits p s ≡ true
admits_before s p m v u l q a = subst (λ (b : Bool). (not b || keeps_pawns s) ≡ true) (quiet_any p m v l (unpassing p m v l u) is_pawn (λ t k x y. refl) q) a

-- if a position leads to one of the class, an image of it leads to any position that is alike
record IsLedAlike (c : Class) (p : Position) (m : Move) (q : Position) : Type 0 where
  pub from : Position
  pub by : Move
  pub alike : AreAlikeIn c p from
  pub leads : LeadsQuietly from by q
  pub lands : AreAlikeIn c (after p m) (after from by)

before_alike : (c : Class) (p q : Position) (m : Move) → IsValid p → p.passed ≡ None → IsOf c p
    → is_legal p m ≡ true → IsOf c (after p m) → AreAlikeIn c (after p m) q → IsLedAlike c p m q
before_alike c p q m v u o l k h =
    let s = h.alike.images.by in
    let quiet = quiet_within p m v l (unpassing p m v l u) c o k in
    let b : admits (after p m) s ≡ true = sym (admits_bare s (after p m)) ∙ h.alike.images.admitted in
    let a : admits p s ≡ true = admits_before s p m v u l quiet b in
    let t = IsTurnable-from_valid s p v a in
    let r = image s p in
    let m' = image_move s m in
    let l' : is_legal r m' ≡ true = image_legal s p t m l in
    let w : IsValid r = valid_image s p v a in
    let u' : r.passed ≡ None = unturned s u in
    let to : after r m' ≡ image s (after p m) = after-turned s p t m l in
    let same : without_passed (after r m') ≡ without_passed q =
    ap without_passed to ∙ sym (without_image s (after p m)) ∙ ap without_passed (sym h.alike.images.is)
    ∙ without_bare q in
    let alike : AreAlikeIn c p r = record {
      alike = record { left = v; right = w; images = record { by = s; admitted = admits_bare s p ∙ a; is = bare_image s p t } };
      kept = h.kept;
    } in
    let here : IsOf c r = same_class p r c alike.alike o in
    let there : IsOf c q = same_class (after p m) q c h.alike k in
    let lands : IsOf c (after r m') = there ∙ ap (λ (x : Position). ordered_lists (lists x.men)) (sym same) in
    let va : IsValid (after p m) = IsValid-after p m v l in
    record {
      from = r;
      by = m';
      alike = alike;
      leads = record { valid = w; unpassed = u'; legal = l'; quiet = quiet_within r m' w l' (unpassing r m' w l' u') c here lands; leads = same };
      lands = record {
        alike = record {
          left = va;
          right = IsValid-after r m' w l';
          images = record {
            by = s;
            admitted = h.alike.images.admitted;
            is = ap without_idle_passed_square to
                ∙ bare_image s (after p m) (IsTurnable-from_valid s (after p m) va b);
          };
        };
        kept = h.kept;
      };
    }
  where
    unturned : (s : Symmetry) → p.passed ≡ None → (image s p).passed ≡ None
    unturned s e = rw e refl

-- a position without its passed square
pub valid_without : (p : Position) → IsValid p → IsValid (without_passed p)
valid_without p v =
    let f = IsFaultless-from_first p.men p.to_move p.passed v.faultless in
    record {
      ordered = v.ordered;
      on_board = v.on_board;
      faultless =
          first_fault-from_IsFaultless p.men p.to_move None
          (record { few = f.few; once = f.once; kings = f.kings; pawns = f.pawns; safe = f.safe; possible = refl });
    }

-- a move that does not capture in passing needs no passed square
module _ (p : Position) (m : Move) (man : Man) (here : man_at p.men m.origin ≡ Some man) (no : is_en_passant p.passed man m.target ≡ false) where
  legal_without : is_legal (without_passed p) m ≡ is_legal p m
  unfolding is_legal
  legal_without = rw (here, is_legal_for_bare p man m no) refl

  after_without : after (without_passed p) m ≡ after p m
  unfolding after
  after_without = rw (here, men_after_bare p man m no) refl

-- the number of a position with the bit of a live passed square is that of the position without it, increased by the bit
record HasPlain (p : Position) (i : ℕ) : Type 0 where
  pub plain : IsIndex (without_passed p) (without_bit i)
  pub is : i ≡ with_bit (has_legal_en_passant p) (without_bit i)

HasPlain-from : (p : Position) (i : ℕ) → IsValid p → IsIndex p i → HasPlain p i
HasPlain-from p i v x =
    let h = HasParts-from p i v x in
    record {
      plain = record {
        number = without_bit i;
        least = IsLeastNumber-passed p (without_passed p) (without_bit i)
            refl refl h.least;
        is = refl;
      };
      is = h.is;
    }

pub small_index : (p : Position) → IsValid p → p.passed ≡ None → index_of p < 16777216
small_index p v u =
    let h = HasParts-from p (index_of p) v (IsIndex-index_of p v) in
    let dead : has_legal_en_passant p ≡ false = ap (λ (o : Option ℕ). is_capturable_en_passant p o) u in
    let is : index_of p ≡ without_bit (index_of p) = h.is ∙ ap (λ (b : Bool). with_bit b (without_bit (index_of p))) dead in
    subst (λ (n : ℕ). n < 16777216) (sym is) h.small

position_is : (c : Class) (n : ℕ) (q : Position) → position_numbered c n ≡ Some q → q ≡ position_decoded c n
unfolding position_numbered
position_is c n q e = by_entry (is_entry c n) e
  where
    by_entry : (b : Bool) → cond b (Some (position_decoded c n)) None ≡ Some q → q ≡ position_decoded c n
    by_entry true k = let no : Some (position_decoded c n) ≡ Some q = k in cc
    by_entry false k = absurd (let no : None ≡ Some q = k in cc)

unpassed_same : (x : Position) → x.passed ≡ None → without_passed x ≡ x
unpassed_same x e = ap (λ (o : Option ℕ). let r : Position = record { men = x.men; to_move = x.to_move; passed = o } in r) (sym e)

-- the position of a number from which a move leads to the position of another
pub record IsLed (c : Class) (r : Position) (n : ℕ) : Type 0 where
  pub from : Position
  pub to : Position
  pub at : position_numbered c (index_of r) ≡ Some from
  pub unpassed : from.passed ≡ None
  pub leads : Leads from to
  pub home : IsOf c to
  pub lands : index_of to ≡ n

module _ (c : Class) where
  -- numbers that differ only in the bit encode the same men and side to move
  same_plain : (k : ℕ) (o p : Position) → position_numbered c k ≡ Some o → position_numbered c (k + 16777216) ≡ Some p → without_passed p ≡ without_passed o
  same_plain k o p e f =
      let plain : ℕ → Position = λ j. record { men = in_order (decoded_men (slots_of c) j); to_move = decoded_side (slots_of c) j; passed = None } in
      let bit : without_bit (k + 16777216) ≡ without_bit k = omega arith in
      ap without_passed (position_is c (k + 16777216) p f) ∙ ap plain bit ∙ sym (ap without_passed (position_is c k o e))

  pub lands_home : (n : ℕ) (q r : Position) (m : Move) → position_numbered c n ≡ Some q → LeadsQuietly r m q → IsOf c (after r m)
  lands_home n q r m e b =
      let d = entry c n q (decoded_of_numbered c n q e) in
      d.of_class ∙ ap (λ (y : Position). ordered_lists (lists y.men)) (sym b.leads)

  pub starts_home : (n : ℕ) (q r : Position) (m : Move) → position_numbered c n ≡ Some q → LeadsQuietly r m q → IsOf c r
  starts_home n q r m e b =
      lands_home n q r m e b ∙ ap (λ (l : Lists). ordered_lists l) (quiet_lists r m b.valid b.legal (unpassing r m b.valid b.legal b.unpassed) b.quiet)

  pub IsLed-from : (n : ℕ) (q r : Position) (m : Move) → position_numbered c n ≡ Some q → LeadsQuietly r m q → index_of (after r m) ≡ n → IsLed c r n
  IsLed-from n q r m e b lands =
      let x = after r m in
      let vx : IsValid x = IsValid-after r m b.valid b.legal in
      let ox : IsOf c x = lands_home n q r m e b in
      let p = numbered c r (index_of r) b.valid (starts_home n q r m e b) (IsIndex-index_of r b.valid) in
      let t = alike_move c r p.0 x (alike_back c p.0 r p.2) (m, b.legal, refl) in
      let ix : IsIndex x n = subst (λ (k : ℕ). IsIndex x k) lands (IsIndex-index_of x vx) in
      let it : IsIndex t.0 n = same_index c x t.0 n t.2 ox ix in
      let d = entry c (index_of r) p.0 p.1 in
      let dead : has_legal_en_passant p.0 ≡ false = sym (live_along p.2.alike.images.by p.0 r p.2.alike.images.is)
      ∙ ap (λ (o : Option ℕ). is_capturable_en_passant r o) b.unpassed in
      record {
        from = p.0;
        to = t.0;
        at = numbered_of_decoded c (index_of r) p.0 p.1;
        unpassed = not_live_passed p.0 d.is_bare dead;
        leads = t.1;
        home = same_class x t.0 c t.2.alike ox;
        lands = sym (index_of-only t.0 n t.2.alike.right it);
      }

  -- with its live passed square, the same position leads there too
  twin_leads : (n : ℕ) (r o p t : Position) → position_numbered c (index_of r) ≡ Some o → o.passed ≡ None → Leads o t
      → IsOf c t → position_numbered c (index_of r + 16777216) ≡ Some p → Leads p t
  twin_leads n r o p t e u l home f =
      let m = l.0 in
      let d = entry c (index_of r) o (decoded_of_numbered c (index_of r) o e) in
      let same : without_passed p ≡ o = same_plain (index_of r) o p e f ∙ unpassed_same o u in
      let men : p.men ≡ o.men = ap (λ (x : Position). x.men) same in
      let k : IsOf c (after o m) = subst (λ (x : Position). IsOf c x) (sym l.2) home in
      let quiet = quiet_within o m d.valid l.1 (unpassing o m d.valid l.1 u) c d.of_class k in
      let h = HasMover-from_is_legal o m l.1 in
      let here : man_at p.men m.origin ≡ Some h.man = ap (λ (xs : List Man). man_at xs m.origin) men ∙ h.here in
      let going : reaches_target p.men None h.man m.target ≡ true = ap (λ (xs : List Man). reaches_target xs None h.man m.target) men
      ∙ ap (λ (y : Option ℕ). reaches_target o.men y h.man m.target) (sym u) ∙ h.moves.going in
      let empty : is_empty p.men m.target ≡ true = ap (λ (xs : List Man). is_empty xs m.target) men ∙ ap not quiet.0 in
      let no : is_en_passant p.passed h.man m.target ≡ false =
      false_from_ne_true (is_en_passant p.passed h.man m.target)
      (λ y. false≢true (sym (goes_without p.men p.passed h.man m.target y empty) ∙ going)) in (
        m,
        sym (legal_without p m h.man here no) ∙ ap (λ (x : Position). is_legal x m) same ∙ l.1,
        sym (after_without p m h.man here no) ∙ ap (λ (x : Position). after x m) same ∙ l.2,
      )

  -- the numbers before a number lead to it
  pub before_leads : (n i : ℕ) (q : Position) (m : Move) → position_numbered c n ≡ Some q → IsNumberBefore c q n m i
      → LeadsTo Leads (is_of c) index_of (position_numbered c) i n
  before_leads n i q m e b =
      let t = IsLed-from n q b.from m e b.leads b.lands in
      elim b.is [
        | inl s ↦ (t.from, t.to, subst (λ (k : ℕ). position_numbered c k ≡ Some t.from) (sym s) t.at, t.leads, is_of-IsOf c t.to t.home, t.lands)
        | inr s ↦ (
          s.1.0,
          t.to,
          s.1.1,
          twin_leads n b.from t.from s.1.0 t.to t.at t.unpassed t.leads t.home
              (subst (λ (k : ℕ). position_numbered c k ≡ Some s.1.0) s.0 s.1.1),
          is_of-IsOf c t.to t.home,
          t.lands,
        )
      ]

  -- and no others do
  pub leads_before : (n i : ℕ) (q : Position) → position_numbered c n ≡ Some q
      → LeadsTo Leads (is_of c) index_of (position_numbered c) i n → ComesBefore c q n i
  leads_before n i q e t =
      let d = entry c i t.0 (decoded_of_numbered c i t.0 t.2) in
      let m = t.3.0 in
      let l = t.3.1 in
      let x = after t.0 m in
      let vx : IsValid x = IsValid-after t.0 m d.valid l in
      let ox : IsOf c x = subst (λ (y : Position). IsOf c y) (sym t.3.2) (IsOf-is_of c t.1 t.4) in
      let ix : index_of x ≡ n = ap index_of t.3.2 ∙ t.5 in
      let p = numbered c x (index_of x) vx ox (IsIndex-index_of x vx) in
      let there : position_numbered c n ≡ Some p.0 = subst (λ (k : ℕ). position_numbered c k ≡ Some p.0) ix (numbered_of_decoded c (index_of x) p.0 p.1) in
      let same : p.0 ≡ q = (let f : Some p.0 ≡ Some q = sym there ∙ e in cc) in
      let h : AreAlikeIn c x q = subst (λ (y : Position). AreAlikeIn c x y) same (alike_back c p.0 x p.2) in
      let has = HasMover-from_is_legal t.0 m l in
      let no = passes_none t.0 m d.valid l c d.of_class ox in
      let b = without_passed t.0 in
      let lb : is_legal b m ≡ true = legal_without t.0 m has.man has.here no ∙ l in
      let ab : after b m ≡ x = after_without t.0 m has.man has.here no in
      let r =
      before_alike c b q m (valid_without t.0 d.valid) refl d.of_class lb
      (subst (λ (y : Position). IsOf c y) (sym ab) ox)
      (subst (λ (y : Position). AreAlikeIn c y q) (sym ab) h) in
      let plain = HasPlain-from t.0 i d.valid d.index in
      let at : without_bit i ≡ index_of r.from =
      index_of-only r.from (without_bit i) r.alike.alike.right
      (same_index c b r.from (without_bit i) r.alike d.of_class plain.plain) in
      let vy : IsValid (after r.from r.by) = r.lands.alike.right in
      let iy : IsIndex (after r.from r.by) n =
      same_index c (after b m) (after r.from r.by) n r.lands (subst (λ (y : Position). IsOf c y) (sym ab) ox)
      (subst (λ (y : Position). IsIndex y n) (sym ab)
      (subst (λ (k : ℕ). IsIndex x k) ix (IsIndex-index_of x vx))) in
      record {
        by = r.by;
        is = record {
          from = r.from;
          leads = r.leads;
          lands = sym (index_of-only (after r.from r.by) n vy iy);
          is = by_live (has_legal_en_passant t.0) plain.is at;
        };
      }
    where
      by_live : (b : Bool) {k : ℕ} → i ≡ with_bit b (without_bit i) → without_bit i ≡ k → (i ≡ k)
          ⊎ (i ≡ k + 16777216) × ((p : Position) × (position_numbered c i ≡ Some p))
      by_live true f g = inr (omega (arith, f, g), (t.0, t.2))
      by_live false f g = inl (f ∙ g)

  -- a number that another leads to has a position
  pub leads_numbered : (n i : ℕ) → LeadsTo Leads (is_of c) index_of (position_numbered c) i n → (q : Position) × (position_numbered c n ≡ Some q)
  leads_numbered n i t =
      let d = entry c i t.0 (decoded_of_numbered c i t.0 t.2) in
      let vx : IsValid t.1 = subst IsValid t.3.2 (IsValid-after t.0 t.3.0 d.valid t.3.1) in
      let p = numbered c t.1 (index_of t.1) vx (IsOf-is_of c t.1 t.4) (IsIndex-index_of t.1 vx) in
      (p.0, subst (λ (k : ℕ). position_numbered c k ≡ Some p.0) t.5 (numbered_of_decoded c (index_of t.1) p.0 p.1))

  -- a quiet move stays in the class
  pub quiet_home : (n : ℕ) (p : Position) (m : Move) → position_numbered c n ≡ Some p → is_legal p m ≡ true
      → m.promoted ≡ None → p.passed ≡ None → man_at p.men m.target ≡ None → is_of c (after p m) ≡ true
  quiet_home n p m e l o u none =
      let d = entry c n p (decoded_of_numbered c n p e) in
      is_of-IsOf c (after p m)
      (d.of_class ∙ ap (λ (k : Lists). ordered_lists k)
      (sym (quiet_lists p m d.valid l (unpassing p m d.valid l u) (unoccupied p.men m.target none, o))))

  pub numbered_index : (n : ℕ) (q : Position) → position_numbered c n ≡ Some q → index_of q ≡ n
  numbered_index n q e = let d = entry c n q (decoded_of_numbered c n q e) in sym (index_of-only q n d.valid d.index)

  module _ (q : Position) (number : ℕ) (m : Move) (k : ℕ) (h : IsPlainNumber q number m k) (old : List ℕ) where
    plain_first : IsNumberBefore c q number m k
    plain_first = record { from = h.from; leads = h.leads; lands = h.lands; is = inl h.is }

    -- the plain number was added
    pub one_added : (new : List ℕ) → new ≡ old ++ k ∷ []
        → ((p : Position) × (position_numbered c (k + 16777216) ≡ Some p) → ⊥) → (n : ℕ) → Contains new n ↔ Contains old n
        ⊎ IsNumberBefore c q number m n
    one_added new e none n = (
      λ i. elim (Contains-push_cases old k n (subst (λ (xs : List ℕ). Contains xs n) e i)) [
        | inl i ↦ inl i
        | inr s ↦ inr (subst (λ (x : ℕ). IsNumberBefore c q number m x) s plain_first)
      ],
      λ b. subst (λ (xs : List ℕ). Contains xs n) (sym e) (back b),
    )
      where
        back : Contains old n ⊎ IsNumberBefore c q number m n → Contains (old ++ k ∷ []) n
        back (inl i) = Contains-append_left old (k ∷ []) n i
        back (inr b) = elim b.is [
          | inl s ↦ subst (λ (x : ℕ). Contains (old ++ k ∷ []) x) (sym (s ∙ h.only b.from b.leads)) (Contains-push old k)
          | inr s ↦ absurd (none (
            s.1.0,
            subst (λ (x : ℕ). position_numbered c x ≡ Some s.1.0) (s.0 ∙ ap (λ (x : ℕ). x + 16777216) (h.only b.from b.leads)) s.1.1,
          ))
        ]

    -- and so was the number with the bit
    pub two_added : (new : List ℕ) → new ≡ (old ++ k ∷ []) ++ (k + 16777216) ∷ [] → (p : Position)
        × (position_numbered c (k + 16777216) ≡ Some p) → (n : ℕ) → Contains new n ↔ Contains old n
        ⊎ IsNumberBefore c q number m n
    two_added new e some n = (
      λ i. elim (Contains-push_cases (old ++ k ∷ []) (k + 16777216) n (subst (λ (xs : List ℕ). Contains xs n) e i)) [
        | inl i ↦ elim (Contains-push_cases old k n i) [
          | inl i ↦ inl i
          | inr s ↦ inr (subst (λ (x : ℕ). IsNumberBefore c q number m x) s plain_first)
        ]
        | inr s ↦ inr (subst (λ (x : ℕ). IsNumberBefore c q number m x) s
            (record { from = h.from; leads = h.leads; lands = h.lands; is = inr (ap (λ (x : ℕ). x + 16777216) h.is, some) }))
      ],
      λ b. subst (λ (xs : List ℕ). Contains xs n) (sym e) (back b),
    )
      where
        back : Contains old n ⊎ IsNumberBefore c q number m n → Contains ((old ++ k ∷ []) ++ (k + 16777216) ∷ []) n
        back (inl i) = Contains-append_left (old ++ k ∷ []) ((k + 16777216) ∷ []) n (Contains-append_left old (k ∷ []) n i)
        back (inr b) = elim b.is [
          | inl s ↦ Contains-append_left (old ++ k ∷ []) ((k + 16777216) ∷ []) n
              (subst (λ (x : ℕ). Contains (old ++ k ∷ []) x) (sym (s ∙ h.only b.from b.leads)) (Contains-push old k))
          | inr s ↦ subst (λ (x : ℕ). Contains ((old ++ k ∷ []) ++ (k + 16777216) ∷ []) x)
              (sym (s.0 ∙ ap (λ (x : ℕ). x + 16777216) (h.only b.from b.leads)))
              (Contains-push (old ++ k ∷ []) (k + 16777216))
        ]
