-- What a legal move is: castling, or a move of one man.
use Rattle.std.proofs.Common.{◌≡◌, Bool, true, false, cond, Some, None, refl}
use Rattle.study_board.specs.declared.men.Man.{Man}
use Rattle.study_board.specs.Position.{man_at}
use Rattle.study_moves.specs.declared.moves.Move.{Move}
use Rattle.study_moves.specs.Rules.{is_legal, after, after_by}
use Rattle.study_wide.specs.declared.castling.Wing.{Wing}
use Rattle.study_wide.specs.declared.castling.Wing.TheVariants.{Short, Long}
use Rattle.study_wide.specs.Rights.{rights_after}
use Rattle.study_wide.specs.Wide.{Wide}
use Rattle.study_wide.specs.Rules.{castles, wing_of, is_wide_legal, wide_after}

wing_in : (f : Wing → Bool) (w : Wing) → cond (f Short) (Some Short) (cond (f Long) (Some Long) None) ≡ Some w → f w ≡ true
wing_in f w e = cases (f Short) (f Long) refl refl e
  where
    cases : (a b : Bool) → f Short ≡ a → f Long ≡ b → cond a (Some Short) (cond b (Some Long) None) ≡ Some w → f w ≡ true
    cases true b s l h = let same : Short ≡ w = cc in rw (← same) s
    cases false true s l h = let same : Long ≡ w = cc in rw (← same) l
    cases false false s l h = absurd (let no : ⊥ = cc in no)

pub wing_castles : (g : Wide) (m : Move) (w : Wing) → wing_of g m ≡ Some w → castles g m w ≡ true
wing_castles g m w e = wing_in (castles g m) w e

pub plain_legal : (g : Wide) (m : Move) → wing_of g m ≡ None → is_wide_legal g m ≡ true → is_legal g.board m ≡ true
unfolding is_wide_legal
plain_legal g m e l = rw e at l

pub after_plain : (g : Wide) (man : Man) (m : Move) → wing_of g m ≡ None → man_at g.board.men m.origin ≡ Some man
    → wide_after g m ≡ record { board = after_by g.board man m; rights = rights_after g.rights m }
unfolding wide_after after
after_plain g man m e h = rw (e, h) refl
