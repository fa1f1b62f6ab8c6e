-- Who makes a legal move: a man of the side to move, which stands on the origin; a king if the move is castling.
use Rattle.std.proofs.Common.{◌≡◌, ℕ, ◌<◌, ◌==◌, eqb, Bool, true, false, ◌&&◌, ◌||◌, ◌⊎◌, inl, inr, List, [], ◌∷◌}
use Rattle.std.proofs.Common.{Option, Some, None, refl, sym, ap, ◌∙◌, arith, subst, is_some}
use Rattle.std.proofs.lemmas.Bool.{false≢true, and_parts, eqb-true, eq-eqb, ne_eqb}
use Rattle.study_board.specs.declared.men.Man.{Man}
use Rattle.study_board.specs.declared.men.Side.{Side}
use Rattle.study_board.specs.declared.men.Side.TheVariants.{White, Black}
use Rattle.study_board.specs.declared.men.Kind.{Kind}
use Rattle.study_board.specs.declared.men.Kind.TheVariants.{King, Rook}
use Rattle.study_board.specs.Men.{same_side, same_kind, is_man}
use Rattle.study_board.specs.EqualLaws.{kinds_equal}
use Rattle.study_board.specs.Position.{IsAscending, has_man, man_at}
use Rattle.study_moves.specs.declared.moves.Move.{Move}
use Rattle.study_moves.specs.Rules.{is_legal}
use Rattle.study_moves.proofs.MenOfList.{IsAmong, some_among, above_among}
use Rattle.study_moves.proofs.NoMoveBetween.{HasMover-from_is_legal}
use Rattle.study_wide.specs.declared.castling.Wing.{Wing}
use Rattle.study_wide.specs.declared.castling.Wing.TheVariants.{Short, Long}
use Rattle.study_wide.specs.Rights.{has_right, fits, rights_fit}
use Rattle.study_wide.specs.Wide.{Wide, IsWide}
use Rattle.study_wide.specs.Castling.{home, king_target, no_promotion, can_castle, is_castling_move}
use Rattle.study_wide.specs.Rules.{castles, wing_of, is_wide_legal}
use Rattle.study_wide.proofs.AfterPlain.{fits_parts}
use Rattle.study_wide.proofs.Playing.{wing_castles}

-- a right that is held has its king at home
king_home : (g : Wide) (s : Side) (w : Wing) → rights_fit g.board.men g.rights ≡ true → has_right g.rights s w ≡ true
    → has_man g.board.men s King (home s) ≡ true
unfolding rights_fit
king_home g s w e =
    let men = g.board.men in
    let r = g.rights in
    let a = and_parts (fits r.white_short men White 4 7 && fits r.white_long men White 4 0 && fits r.black_short men Black 60 63)
    (fits r.black_long men Black 60 56) e in
    let b = and_parts (fits r.white_short men White 4 7 && fits r.white_long men White 4 0) (fits r.black_short men Black 60 63) a.0 in
    let c = and_parts (fits r.white_short men White 4 7) (fits r.white_long men White 4 0) b.0 in
    let held : (b : Bool) (s : Side) (king rook : ℕ) → fits b men s king rook ≡ true → b ≡ true → has_man men s King king ≡ true =
    λ b s king rook f h. (fits_parts b (has_man men s King king) (has_man men s Rook rook) h f).0 in
    elim s as (λ t. has_right r t w ≡ true → has_man men t King (home t) ≡ true) [
      | White ↦ elim w as (λ v. has_right r White v ≡ true → has_man men White King 4 ≡ true) [
        | Short ↦ held r.white_short White 4 7 c.0
        | Long ↦ held r.white_long White 4 0 c.1
      ]
      | Black ↦ elim w as (λ v. has_right r Black v ≡ true → has_man men Black King 60 ≡ true) [
        | Short ↦ held r.black_short Black 60 63 b.1
        | Long ↦ held r.black_long Black 60 56 a.1
      ]
    ]

-- castling is a king's move from home
pub record IsCastlingOf (g : Wide) (m : Move) (w : Wing) : Type 0 where
  pub origin : m.origin ≡ home g.board.to_move
  pub target : m.target ≡ king_target g.board.to_move w
  pub whole : m.promoted ≡ None
  pub king : has_man g.board.men g.board.to_move King m.origin ≡ true

not_promoted : (q : Option Kind) → no_promotion q ≡ true → q ≡ None
not_promoted None e = refl
not_promoted (Some k) e = absurd (false≢true e)

pub IsCastlingOf-from : (g : Wide) (m : Move) (w : Wing) → IsWide g → castles g m w ≡ true → IsCastlingOf g m w
unfolding can_castle
IsCastlingOf-from g m w wide e =
    let s = g.board.to_move in
    let a = and_parts (is_castling_move s w m) (can_castle g w) e in
    let b = and_parts (m.origin == home s && m.target == king_target s w) (no_promotion m.promoted) a.0 in
    let c = and_parts (m.origin == home s) (m.target == king_target s w) b.0 in
    let right = (and_parts (has_right g.rights s w) _ a.1).0 in
    let from = eqb-true _ _ c.0 in
    record {
      origin = from;
      target = eqb-true _ _ c.1;
      whole = not_promoted m.promoted b.1;
      king = ap (λ (x : ℕ). has_man g.board.men s King x) from ∙ king_home g s w wide.fit right;
    }

-- a legal move is castling, or a move of one man
pub castling_or_plain : (g : Wide) (m : Move) → is_wide_legal g m ≡ true → ((w : Wing) × (castles g m w ≡ true)) ⊎ (is_legal g.board m ≡ true)
unfolding is_wide_legal
castling_or_plain g m e = cases (wing_of g m) refl e
  where
    cases : (o : Option Wing) → wing_of g m ≡ o → (is_some o || is_legal g.board m) ≡ true
        → ((w : Wing) × (castles g m w ≡ true)) ⊎ (is_legal g.board m ≡ true)
    cases (Some w) h k = inl (w, wing_castles g m w h)
    cases None h k = inr k

man_at-among : (xs : List Man) (n : Man) → IsAscending xs → IsAmong n xs → man_at xs n.at ≡ Some n
man_at-among [] n h i = absurd i
man_at-among (x ∷ xs) n h (inl s) =
    let t : eqb x.at n.at ≡ true = eq-eqb x.at n.at (ap (λ z. z.at) s) in
    rw t (ap (λ z. Some z) s)
man_at-among (x ∷ xs) n h (inr i) =
    let lt = above_among x.at xs n h.0 i in
    let f : eqb x.at n.at ≡ false = ne_eqb x.at n.at (λ e. omega arith) in
    rw f (man_at-among xs n h.1 i)

-- the man on the origin of a legal move, and whether the move is its own or castling
pub record IsMover (g : Wide) (m : Move) : Type 0 where
  pub man : Man
  pub here : man_at g.board.men m.origin ≡ Some man
  pub mine : same_side man.side g.board.to_move ≡ true
  pub target : m.target < 64
  pub how : (is_legal g.board m ≡ true) ⊎ ((w : Wing) × IsCastlingOf g m w × (man.kind ≡ King))

target_small : (s : Side) (w : Wing) → king_target s w < 64
target_small White Short = omega arith
target_small White Long = omega arith
target_small Black Short = omega arith
target_small Black Long = omega arith

pub IsMover-from : (g : Wide) (m : Move) → IsWide g → is_wide_legal g m ≡ true → IsMover g m
unfolding has_man
IsMover-from g m wide e = elim (castling_or_plain g m e) [
  | inl c ↦
      let k = IsCastlingOf-from g m c.0 wide c.1 in
      let s = g.board.to_move in
      let found = some_among (λ n. is_man s King n && (n.at == m.origin)) g.board.men k.king in
      let a = and_parts (is_man s King found.0) (found.0.at == m.origin) found.2 in
      let b = and_parts (same_side found.0.side s) (same_kind found.0.kind King) a.0 in
      let at = man_at-among g.board.men found.0 wide.sound.ordered found.1 in
      record {
        man = found.0;
        here = ap (λ (x : ℕ). man_at g.board.men x) (sym (eqb-true _ _ a.1)) ∙ at;
        mine = b.0;
        target = subst (λ (x : ℕ). x < 64) (sym k.target) (target_small s c.0);
        how = inr (c.0, k, kinds_equal found.0.kind King b.1);
      }
  | inr plain ↦
      let h = HasMover-from_is_legal g.board m plain in
      record { man = h.man; here = h.here; mine = h.moves.mine; target = h.moves.target; how = inl plain }
]

-- the same, by the man on the square
pub IsMover-at : (g : Wide) (man : Man) (m : Move) → IsWide g → man_at g.board.men man.at ≡ Some man → m.origin ≡ man.at → is_wide_legal g m ≡ true
    → (h : IsMover g m) × (h.man ≡ man)
IsMover-at g man m wide here o e =
    let h = IsMover-from g m wide e in
    let both : Some h.man ≡ Some man = sym h.here ∙ (ap (λ (x : ℕ). man_at g.board.men x) o ∙ here) in
    (h, cc)
