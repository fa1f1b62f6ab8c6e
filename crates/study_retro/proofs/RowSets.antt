-- Cells set for each square of a set in turn.
use Rattle.std.proofs.Common.{◌≡◌, ◌≢◌, ℕ, ◌+◌, ◌<◌, Bool, true, false, List, inl, inr, refl, sym, ◌∙◌, subst, slice_index}
use Rattle.std.proofs.lemmas.Bool.{false≢true}
use Rattle.study_board.specs.Sets.{has}
use Rattle.study_board.proofs.SquareLists.{IsFirstOf}
use Rattle.study_levels.specs.Propagation.{AreAdded, AreLowered, AreSet, IsSetBy, IsSetWhere}
use Rattle.study_levels.proofs.SquaresLeft.{still-among, taken-too}
use Rattle.study_retro.proofs.BackLemmas.{set-then, set-kept, set-why}

module _ (all : ℕ) (Why : ℕ → ℕ → Type 0) (k : ℕ) (over : Bool) where
  -- the reason for some square of the set
  abbrev pub ForSome : ℕ → Type 0
  ForSome n = (y : ℕ) × (y < 64) × (has all y ≡ true) × Why y n

  -- cells are set for squares of the set, and all for those that are not left
  pub record AreSetExcept (rest : ℕ) (old new : List ℕ) : Type 0 where
    pub among : (y : ℕ) → y < 64 → has rest y ≡ true → has all y ≡ true
    pub rise : AreSet ForSome k over old new
    pub done : (n y : ℕ) → y < 64 → has all y ≡ true → has rest y ≡ false → Why y n → IsSetWhere k over new n

  pub set-none : (rest : ℕ) (old : List ℕ) → rest ≡ all → AreSetExcept rest old old
  set-none rest old is = record {
    among = λ y on e. subst (λ (s : ℕ). has s y ≡ true) is e;
    rise = λ i. inl refl;
    done = λ n y on e out. absurd (false≢true (sym out ∙ subst (λ (s : ℕ). has s y ≡ true) (sym is) e));
  }

  pub set-more : (set t rest : ℕ) → IsFirstOf set t rest → 0 < k → (old mid new : List ℕ) → AreSetExcept set old mid → AreSet (Why t) k over mid new
      → ((n : ℕ) → Why t n → IsSetWhere k over new n) → AreSetExcept rest old new
  set-more set t rest f pos old mid new h rise done = record {
    among = still-among all set t rest f h.among;
    rise = set-then k over ForSome old mid new h.rise
        (set-why k over (Why t) ForSome mid new (λ n w. (t, f.inside, h.among t f.inside f.there, w)) rise);
    done = λ n.
        taken-too all set t rest f (λ (y : ℕ). Why y n → IsSetWhere k over new n)
        (λ y on e gone w. set-kept k over (Why t) mid new rise pos n (h.done n y on e gone w)) (done n);
  }

-- cells that are lowered are set over greater values, those that are added over 0 alone
pub lowered-set : (Why : ℕ → Type 0) (k : ℕ) (a b : List ℕ) → AreLowered Why k a b → AreSet Why (k + 2) true a b
lowered-set Why k a b f i = elim (f i) [
  | inl e ↦ inl e
  | inr x ↦ inr (x.0, x.1, elim x.2 [ inl z ↦ inl z | inr l ↦ inr (refl, l) ])
]

pub added-set : (Why : ℕ → Type 0) (k : ℕ) (a b : List ℕ) → AreAdded Why k a b → AreSet Why (k + 2) false a b
added-set Why k a b f i = elim (f i) [ inl e ↦ inl e | inr x ↦ inr (x.0, x.1, inl x.2) ]

pub lowered-where : (k : ℕ) (cells : List ℕ) (i : ℕ) → IsSetBy k cells i → IsSetWhere k true cells i
lowered-where k cells i h = (h.0, λ e. h.1)

pub added-where : (k : ℕ) (cells : List ℕ) (i : ℕ) → slice_index cells i ≢ 0 → IsSetWhere k false cells i
added-where k cells i h = (h, λ e. absurd (false≢true e))
