-- Each node of a game with any number of men has a sound position, and a number that is not 0.
use Rattle.std.proofs.Common.{◌≡◌, ℕ, zero, suc, ◌+◌, ◌<◌, ◌≤◌, Bool, true, false, List, [], ◌∷◌, map, Option, Some, None, refl, sym, subst, arith}
use Rattle.std.specs.Prelude.{◌==◌, nat_lt, if◌then◌else◌}
use Rattle.std.specs.List.{All, fold}
use Rattle.std.proofs.lemmas.Bool.{and_parts, ltb-true}
use Rattle.std.proofs.lemmas.List.Elements.{All-nil, All-cons, All-head, All-tail}
use Rattle.study_board.specs.declared.men.Man.{Man}
use Rattle.study_board.specs.declared.men.Side.{Side}
use Rattle.study_board.specs.declared.men.Side.TheVariants.{White, Black}
use Rattle.study_board.specs.Men.{moved_if}
use Rattle.study_board.specs.Position.{insert_man}
use Rattle.study_board.proofs.MenInOrder.{All-insert_man}
use Rattle.study_moves.specs.declared.moves.Move.{Move}
use Rattle.study_moves.proofs.NoMoveBetween.{HasMover-from_is_legal}
use Rattle.study_notation.specs.StartAfter.{one_more, number_after}
use Rattle.study_tree.specs.Forest.{none, more}
use Rattle.study_wide.specs.declared.castling.Wing.{Wing}
use Rattle.study_wide.specs.declared.castling.Wing.TheVariants.{Short, Long}
use Rattle.study_wide.specs.Castling.{king_target, rook_target, man_after_castling, men_after_castling, is_castling_move, can_castle, home, corner}
use Rattle.study_wide.specs.Rights.{rights_after}
use Rattle.study_wide.specs.Wide.{Wide, IsWide}
use Rattle.study_wide.specs.Rules.{wing_of, board_after, is_wide_legal, wide_after}
use Rattle.study_wide.proofs.Playing.{wing_castles, plain_legal, after_plain}
use Rattle.study_wide.proofs.AfterPlain.{IsWide-after_by}
use Rattle.study_wide.proofs.AfterCastling.{MayCastle-from, IsWide-castled}
use Rattle.study_wide_text.specs.declared.start.WideStart.{WideStart}
use Rattle.study_wide_text.specs.StartAfter.{wide_start_after}
use Rattle.study_tails.specs.declared.blocks.LastMove.{LastMove}
use Rattle.study_tails.specs.Study.{Moves, Node, node_from, IsWidePlayable}
use Rattle.study_tails.specs.Blocks.{last_from}

abbrev OnBoard : List Man → Type 0
OnBoard men = All (λ m. m.at < 64) men

-- ---- after castling

moved_below : (from to : ℕ) (m : Man) → to < 64 → m.at < 64 → (moved_if from to m).at < 64
moved_below from to m low h = go (m.at == from)
  where
    go : (b : Bool) → (if b then record m { at = to } else m).at < 64
    go true = low
    go false = h

king_below : (side : Side) (w : Wing) → king_target side w < 64
king_below White Short = omega arith
king_below White Long = omega arith
king_below Black Short = omega arith
king_below Black Long = omega arith

rook_below : (side : Side) (w : Wing) → rook_target side w < 64
rook_below White Short = omega arith
rook_below White Long = omega arith
rook_below Black Short = omega arith
rook_below Black Long = omega arith

castled_below : (side : Side) (w : Wing) (m : Man) → m.at < 64 → (man_after_castling side w m).at < 64
castled_below side w m h =
    moved_below (home side) (king_target side w) (moved_if (corner side w) (rook_target side w) m) (king_below side w)
    (moved_below (corner side w) (rook_target side w) m (rook_below side w) h)

all_castled : (side : Side) (w : Wing) (men : List Man) → OnBoard men → OnBoard (map (man_after_castling side w) men)
all_castled side w [] h = All-nil (λ m. m.at < 64)
all_castled side w (m ∷ ms) h =
    All-cons (λ x. x.at < 64) (man_after_castling side w m) (map (man_after_castling side w) ms)
    (castled_below side w m (All-head (λ x. x.at < 64) m ms h)) (all_castled side w ms (All-tail (λ x. x.at < 64) m ms h))

all_placed : (done men : List Man) → OnBoard done → OnBoard men → OnBoard (fold (λ ms m. insert_man m ms) done men)
all_placed done [] h k = h
all_placed done (m ∷ ms) h k =
    all_placed (insert_man m done) ms (All-insert_man m done (All-head (λ x. x.at < 64) m ms k) h) (All-tail (λ x. x.at < 64) m ms k)

on_board_castled : (g : Wide) (w : Wing) → IsWide g → OnBoard (men_after_castling g.board.men g.board.to_move w)
unfolding men_after_castling
on_board_castled g w h =
    all_placed [] (map (man_after_castling g.board.to_move w) g.board.men) (All-nil (λ m. m.at < 64))
    (all_castled g.board.to_move w g.board.men h.sound.on_board)

-- ---- after a move

pub wide_sound : (g : Wide) (m : Move) → IsWide g → is_wide_legal g m ≡ true → IsWide (wide_after g m)
unfolding wide_after
wide_sound g m h legal = by_wing (wing_of g m) refl
  where
    castled : (w : Wing) → wing_of g m ≡ Some w → IsWide (record { board = board_after g m (Some w); rights = rights_after g.rights m })
    castled w e =
        let castling = wing_castles g m w e in
        let parts = and_parts (is_castling_move g.board.to_move w m) (can_castle g w) castling in
        IsWide-castled g w h (MayCastle-from g w parts.1) m castling (on_board_castled g w h)

    by_wing : (o : Option Wing) → wing_of g m ≡ o → IsWide (wide_after g m)
    by_wing (Some w) e = rw e (castled w e)
    by_wing None e =
        let plain = plain_legal g m e legal in
        let mover = HasMover-from_is_legal g.board m plain in
        subst IsWide (sym (after_plain g mover.man m e mover.here)) (IsWide-after_by g mover.man m h mover.here plain)

-- ---- a node

abbrev IsNumber : ℕ → Type 0
IsNumber n = (1 ≤ n) × (n ≤ 65535)

number_more : (n : ℕ) → IsNumber n → IsNumber (one_more n)
number_more n h = go (nat_lt n 65535) refl
  where
    go : (b : Bool) → nat_lt n 65535 ≡ b → IsNumber (if b then n + 1 else n)
    go true e = let low = ltb-true n 65535 e in (omega arith, omega (arith, low))
    go false e = h

number_then : (side : Side) (n : ℕ) → IsNumber n → IsNumber (number_after side n)
number_then White n h = h
number_then Black n h = number_more n h

pub record IsSoundStart (s : WideStart) : Type 0 where
  pub valid : IsWide s.position
  pub positive : 1 ≤ s.number
  pub number : s.number ≤ 65535

sound_after : (s : WideStart) (m : Move) → IsSoundStart s → is_wide_legal s.position m ≡ true → IsSoundStart (wide_start_after s m)
unfolding wide_start_after
sound_after s m h legal =
    let n = number_then s.position.board.to_move s.number (h.positive, h.number) in
    record { valid = wide_sound s.position m h.valid legal; positive = n.0; number = n.1 }

pub node_sound : (s : WideStart) (f : Moves) (path : List ℕ) (n : Node) → IsSoundStart s → IsWidePlayable s.position f → node_from s f path ≡ Some n
    → IsSoundStart n.start
unfolding wide_start_after
node_sound s f [] n h p e = let same : record { start = s; below = f } ≡ n = cc in subst (λ (x : Node). IsSoundStart x.start) same h
node_sound s none (k ∷ ks) n h p e = let no : ⊥ = cc in absurd no
node_sound s (more m l b r) (zero ∷ ks) n h p e = node_sound (wide_start_after s m) b ks n (sound_after s m h p.0) p.1 e
node_sound s (more m l b r) (suc k ∷ ks) n h p e = node_sound s r (k ∷ ks) n h p.2 e

-- the start before the last move of a path
pub last_sound : (s : WideStart) (f : Moves) (path : List ℕ) (l : LastMove) → IsSoundStart s → IsWidePlayable s.position f → last_from s f path ≡ Some l
    → IsSoundStart l.start × (is_wide_legal l.start.position l.played ≡ true)
unfolding wide_start_after
last_sound s f [] l h p e = let no : ⊥ = cc in absurd no
last_sound s none (k ∷ ks) l h p e = let no : ⊥ = cc in absurd no
last_sound s (more m x b r) (zero ∷ []) l h p e =
    let same : record { start = s; played = m } ≡ l = cc in
    subst (λ (z : LastMove). IsSoundStart z.start × (is_wide_legal z.start.position z.played ≡ true)) same (h, p.0)
last_sound s (more m x b r) (zero ∷ j ∷ js) l h p e = last_sound (wide_start_after s m) b (j ∷ js) l (sound_after s m h p.0) p.1 e
last_sound s (more m x b r) (suc k ∷ ks) l h p e = last_sound s r (k ∷ ks) l h p.2 e
