-- Texts of several parts, the last of which ends with a line feed.
use Rattle.std.proofs.Common.{◌≡◌, ℕ, true, List, ◌++◌}
use Rattle.study_reply.specs.Words.{ends_line}
use Rattle.study_reply.proofs.LineEnds.{ends-behind}

pub behind2 : (a b c : List ℕ) → ends_line c ≡ true → ends_line (a ++ (b ++ c)) ≡ true
behind2 a b c h = ends-behind a (b ++ c) (ends-behind b c h)

pub behind3 : (a b c d : List ℕ) → ends_line d ≡ true → ends_line (a ++ (b ++ (c ++ d))) ≡ true
behind3 a b c d h = ends-behind a (b ++ (c ++ d)) (behind2 b c d h)

pub behind4 : (a b c d e : List ℕ) → ends_line e ≡ true → ends_line (a ++ (b ++ (c ++ (d ++ e)))) ≡ true
behind4 a b c d e h = ends-behind a (b ++ (c ++ (d ++ e))) (behind3 b c d e h)

pub behind6 : (a b c d e f i : List ℕ) → ends_line i ≡ true → ends_line (a ++ (b ++ (c ++ (d ++ (e ++ (f ++ i)))))) ≡ true
behind6 a b c d e f i h = ends-behind a (b ++ (c ++ (d ++ (e ++ (f ++ i))))) (ends-behind b (c ++ (d ++ (e ++ (f ++ i)))) (behind4 c d e f i h))
