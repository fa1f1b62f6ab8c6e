-- Positions with the same game have the same value, and so have positions that are alike.
use Rattle.std.proofs.Common.{ℕ}
use Rattle.study_board.specs.Position.{Position}
use Rattle.study_moves.specs.Game.{IsWon, IsLost, IsDrawn}
use Rattle.study_moves.specs.Laws.{HasSameGame, HasSameValue}

same_won : (p q : Position) → HasSameGame p q → (n : ℕ) → IsWon p n → IsWon q n
same_won p q g n w = ((g.mates n).0 w.0, λ k l m. w.1 k l ((g.mates k).1 m))

same_lost : (p q : Position) → HasSameGame p q → (n : ℕ) → IsLost p n → IsLost q n
same_lost p q g n w = ((g.mated n).0 w.0, λ k l m. w.1 k l ((g.mated k).1 m))

same_drawn : (p q : Position) → HasSameGame p q → IsDrawn p → IsDrawn q
same_drawn p q g d = λ n. (λ m. (d n).0 ((g.mates n).1 m), λ m. (d n).1 ((g.mated n).1 m))

pub HasSameGame-back : (p q : Position) → HasSameGame p q → HasSameGame q p
HasSameGame-back p q g = record {
  mate = (g.mate.1, g.mate.0);
  stalemate = (g.stalemate.1, g.stalemate.0);
  mates = λ n. ((g.mates n).1, (g.mates n).0);
  mated = λ n. ((g.mated n).1, (g.mated n).0);
}

pub HasSameGame-joined : (p q r : Position) → HasSameGame p q → HasSameGame q r → HasSameGame p r
HasSameGame-joined p q r g h = record {
  mate = (λ m. h.mate.0 (g.mate.0 m), λ m. g.mate.1 (h.mate.1 m));
  stalemate = (λ m. h.stalemate.0 (g.stalemate.0 m), λ m. g.stalemate.1 (h.stalemate.1 m));
  mates = λ n. (λ m. (h.mates n).0 ((g.mates n).0 m), λ m. (g.mates n).1 ((h.mates n).1 m));
  mated = λ n. (λ m. (h.mated n).0 ((g.mated n).0 m), λ m. (g.mated n).1 ((h.mated n).1 m));
}

pub HasSameValue-from_game : (p q : Position) → HasSameGame p q → HasSameValue p q
HasSameValue-from_game p q g =
    let h = HasSameGame-back p q g in
    record {
      won = λ n. (same_won p q g n, same_won q p h n);
      lost = λ n. (same_lost p q g n, same_lost q p h n);
      drawn = (same_drawn p q g, same_drawn q p h);
    }
