-- The words and blocks of tails.
use Rattle.std.proofs.Common.{◌≡◌, ℕ, zero, suc, Bool, true, false, ◌||◌, List, [], ◌∷◌, ◌++◌, Option, Some, None, refl, sym, ap, ◌∙◌, decimal, append-nil}
use Rattle.study_tree.specs.Forest.{none, more}
use Rattle.study_tree.specs.Edits.{node_in}
use Rattle.study_marks.specs.FaultSums.{siblings_from}
use Rattle.study_wide.specs.Wide.{Wide}
use Rattle.study_wide.specs.Rules.{wide_after}
use Rattle.study_wide_text.specs.declared.start.WideStart.{WideStart}
use Rattle.study_wide_text.specs.StartAfter.{wide_start_after}
use Rattle.study_tails.specs.declared.blocks.LastMove.{LastMove}
use Rattle.study_tails.specs.declared.blocks.GameLeftOut.{GameLeftOut}
use Rattle.study_tails.specs.declared.blocks.GameLeftOut.TheVariants.{NeverFourMen, RightsToTheEnd, TooManyTails}
use Rattle.study_tails.specs.Study.{Moves, Node, node_from}
use Rattle.study_tails.specs.Blocks.{last_from, has_four, gets_to_four, reason_of_game, game_words}
use Rattle.study_tails.proofs.Nodes.{Branch, from_child}

-- ---- the last move

pub last_nowhere : (s : WideStart) (f : Moves) (front : List ℕ) (k : ℕ) → node_from s f front ≡ None → last_from s f (front ++ k ∷ []) ≡ None
last_nowhere s f [] k e = let no : ⊥ = cc in absurd no
last_nowhere s none (j ∷ js) k e = refl
last_nowhere s (more m l b r) (zero ∷ []) k e = let no : ⊥ = cc in absurd no
last_nowhere s (more m l b r) (zero ∷ i ∷ is) k e = last_nowhere (wide_start_after s m) b (i ∷ is) k e
last_nowhere s (more m l b r) (suc j ∷ js) k e = last_nowhere s r (j ∷ js) k e

abbrev pub moved_from : WideStart → Option Branch → Option LastMove
moved_from s None = None
moved_from s (Some t) = Some (record { start = s; played = t.played })

last_child : (s : WideStart) (f : Moves) (k : ℕ) → last_from s f (k ∷ []) ≡ moved_from s (node_in f k [])
last_child s none k = refl
last_child s (more m l b r) zero = refl
last_child s (more m l b r) (suc k) = last_child s r k

pub last_at : (s : WideStart) (f : Moves) (front : List ℕ) (k : ℕ) (n : Node) → node_from s f front ≡ Some n
    → last_from s f (front ++ k ∷ []) ≡ moved_from n.start (node_in n.below k [])
last_at s f [] k n e =
    let same : record { start = s; below = f } ≡ n = cc in last_child s f k ∙ ap (λ (u : Node). moved_from u.start (node_in u.below k [])) same
last_at s none (j ∷ js) k n e = let no : ⊥ = cc in absurd no
last_at s (more m l b r) (zero ∷ []) k n e = last_at (wide_start_after s m) b [] k n e
last_at s (more m l b r) (zero ∷ i ∷ is) k n e = last_at (wide_start_after s m) b (i ∷ is) k n e
last_at s (more m l b r) (suc j ∷ js) k n e = last_at s r (j ∷ js) k n e

-- ---- four men

four_child : (g : Wide) (f : Moves) (k : ℕ) (t : Branch) → node_in f k [] ≡ Some t
    → gets_to_four g (siblings_from k f)
    ≡ ((has_four (wide_after g t.played) || gets_to_four (wide_after g t.played) t.below) || gets_to_four g (siblings_from (suc k) f))
four_child g f k t e = ap (gets_to_four g) (from_child f k t e)

pub four_here : (g : Wide) (f : Moves) (k : ℕ) (t : Branch) (after : Wide) → node_in f k [] ≡ Some t → after ≡ wide_after g t.played
    → (has_four after || gets_to_four after t.below) ≡ true → gets_to_four g (siblings_from k f) ≡ true
four_here g f k t after e position h =
    four_child g f k t e
    ∙ ap (λ (p : Wide). (has_four p || gets_to_four p t.below) || gets_to_four g (siblings_from (suc k) f)) (sym position)
    ∙ ap (λ (b : Bool). b || gets_to_four g (siblings_from (suc k) f)) h

pub four_later : (g : Wide) (f : Moves) (k next : ℕ) (t : Branch) (after : Wide) → next ≡ suc k → node_in f k [] ≡ Some t → after ≡ wide_after g t.played
    → (has_four after || gets_to_four after t.below) ≡ false → gets_to_four g (siblings_from next f) ≡ gets_to_four g (siblings_from k f)
four_later g f k next t after one e position h =
    ap (λ (j : ℕ). gets_to_four g (siblings_from j f)) one
    ∙ sym (four_child g f k t e
    ∙ ap (λ (p : Wide). (has_four p || gets_to_four p t.below) || gets_to_four g (siblings_from (suc k) f)) (sym position)
    ∙ ap (λ (b : Bool). b || gets_to_four g (siblings_from (suc k) f)) h)

pub either_left : (a b : Bool) → a ≡ true → (a || b) ≡ true
either_left a b e = rw e refl

pub either_right : (a b : Bool) → b ≡ true → (a || b) ≡ true
either_right true b e = refl
either_right false b e = e

pub neither : (a b : Bool) → a ≡ false → b ≡ false → (a || b) ≡ false
neither a b e f = rw (e, f) refl

-- ---- the reason why there is no text

pub counted : (men : ℕ) (why : GameLeftOut) (reason : List ℕ) → reason ≡ reason_of_game why → (why ≡ TooManyTails → ⊥)
    → game_words men why ≡ decimal men ++ (reason ++ [])
counted men NeverFourMen reason e not = ap (λ (w : List ℕ). decimal men ++ w) (sym (append-nil reason ∙ e))
counted men RightsToTheEnd reason e not = ap (λ (w : List ℕ). decimal men ++ w) (sym (append-nil reason ∙ e))
counted men TooManyTails reason e not = absurd (not refl)
