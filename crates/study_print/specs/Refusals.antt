-- The name of a refusal, from the reply to a refused line.
use Rattle.std.specs.Prelude.{ℕ, ◌-◌, List, length, take, drop}

-- the reply without `error ` and without its line feed: `NoTable KRK`
unfoldable pub refusal_name : List ℕ → List ℕ
refusal_name reply = take (length (drop 6 reply) - 1) (drop 6 reply)
