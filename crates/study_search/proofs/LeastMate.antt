-- Whether the side to move mates within so many plies is decided, so that who has a mate has a quickest one.
use Rattle.std.proofs.Common.{◌≡◌, ℕ, ◌<◌, zero, suc, Bool, true, false, List, [], ◌∷◌, inl, inr, ◌⊎◌, length, arith, refl, sym, subst}
use Rattle.std.specs.List.{Contains}
use Rattle.std.specs.Prelude.{slice_index_or}
use Rattle.std.proofs.lemmas.Bool.{false≢true, cases_lt}
use Rattle.study_board.specs.Position.{Position, IsValid, in_check}
use Rattle.study_moves.specs.declared.moves.Move.{Move}
use Rattle.study_moves.specs.Rules.{after}
use Rattle.study_moves.specs.LegalList.{legal_list}
use Rattle.study_moves.specs.Game.{IsLegal, IsMate, IsMatedWithin, MatesWithin, IsWon}
use Rattle.study_moves.proofs.LegalLists.{legal_list_exact}
use Rattle.study_moves.proofs.AfterMove.{IsValid-after}

abbrev Decided : Type 0 → Type 0
Decided P = P ⊎ (P → ⊥)

not-decided : (P : Type 0) → Decided P → Decided (P → ⊥)
not-decided P (inl h) = inr (λ never. never h)
not-decided P (inr never) = inl never

pub first-there : (n : Move) (ms : List Move) → Contains (n ∷ ms) n
first-there n ms = (0, (let z : 0 < length (n ∷ ms) = omega arith in z), refl)

pub later-there : (n : Move) (ms : List Move) (m : Move) → Contains ms m → Contains (n ∷ ms) m
later-there n ms m c = (suc c.0, (let l = c.1 in let z : suc c.0 < length (n ∷ ms) = omega (arith, l) in z), c.2)

module _ (P : Move → Type 0) where
  none-there : (x : Move) (xs : List Move) → (P x → ⊥) → ((m : Move) → Contains xs m → P m → ⊥) → (m : Move) (i : ℕ) → i < length (x ∷ xs)
      → slice_index_or (x ∷ xs) i m ≡ m → P m → ⊥
  none-there x xs never none m zero l e h = never (subst P (sym e) h)
  none-there x xs never none m (suc i) l e h = none m (i, (let z : i < length xs = omega (arith, l) in z), e) h

  some-or-none : (ms : List Move) → ((m : Move) → Contains ms m → Decided (P m)) → ((m : Move) × Contains ms m × P m) ⊎ ((m : Move) → Contains ms m → P m → ⊥)
  some-or-none [] dec = inr (λ m c. let l = c.1 in absurd (omega (arith, l)))
  some-or-none (x ∷ xs) dec = elim (dec x (first-there x xs)) [
    | inl h ↦ inl (x, first-there x xs, h)
    | inr never ↦ elim (some-or-none xs (λ m c. dec m (later-there x xs m c))) [
      | inl s ↦ inl (s.0, later-there x xs s.0 s.1, s.2)
      | inr none ↦ inr (λ m c. none-there x xs never none m c.0 c.1 c.2)
    ]
  ]

  some-legal-or-none : (p : Position) → IsValid p → ((m : Move) → IsLegal p m → Decided (P m))
      → ((m : Move) × IsLegal p m × P m) ⊎ ((m : Move) → IsLegal p m → P m → ⊥)
  some-legal-or-none p valid dec = elim (some-or-none (legal_list p) (λ m c. dec m ((legal_list_exact p m valid).0 c))) [
    | inl s ↦ inl (s.0, (legal_list_exact p s.0 valid).0 s.1, s.2)
    | inr none ↦ inr (λ m l. none m ((legal_list_exact p m valid).1 l))
  ]

check-decided : (b : Bool) → Decided (b ≡ true)
check-decided true = inl refl
check-decided false = inr (λ e. false≢true e)

mate-decided : (p : Position) → IsValid p → Decided (IsMate p)
mate-decided p valid = both (check-decided (in_check p.men p.to_move)) (some-legal-or-none (λ m. IsLegal p m) p valid (λ m l. inl l))
  where
    both : Decided (in_check p.men p.to_move ≡ true) → ((m : Move) × IsLegal p m × IsLegal p m) ⊎ ((m : Move) → IsLegal p m → IsLegal p m → ⊥)
        → Decided (IsMate p)
    both (inr never) some = inr (λ h. never h.0)
    both (inl check) (inl s) = inr (λ h. h.1 s.0 s.1)
    both (inl check) (inr none) = inl (check, (λ m l. none m l l))

-- every legal move has it, or one has not
all-legal-or-one-not : (P : Move → Type 0) (p : Position) → IsValid p → ((m : Move) → IsLegal p m → Decided (P m))
    → ((m : Move) → IsLegal p m → P m) ⊎ ((m : Move) × IsLegal p m × (P m → ⊥))
all-legal-or-one-not P p valid dec =
    elim (some-legal-or-none (λ m. P m → ⊥) p valid (λ m l. not-decided (P m) (dec m l))) [
      | inl s ↦ inr s
      | inr none ↦ inl (λ m l. elim (dec m l) [ inl h ↦ h | inr never ↦ absurd (none m l never) ])
    ]

move-decided : (p : Position) → IsValid p → Decided ((m : Move) × IsLegal p m)
move-decided p valid = elim (some-legal-or-none (λ m. IsLegal p m) p valid (λ m l. inl l)) [
  | inl s ↦ inl (s.0, s.1)
  | inr none ↦ inr (λ r. none r.0 r.1 r.1)
]

after-decided : (n : ℕ) (p : Position) → IsMate p ⊎ (IsMate p → ⊥) → Decided ((m : Move) × IsLegal p m)
    → ((m : Move) → IsLegal p m → MatesWithin n (after p m)) ⊎ ((m : Move) × IsLegal p m × (MatesWithin n (after p m) → ⊥))
    → Decided (IsMatedWithin (suc n) p)
after-decided n p (inl mate) some all = inl (inl mate)
after-decided n p (inr never) (inr none) all = inr (λ h. elim h [ inl mate ↦ never mate | inr r ↦ none r.0 ])
after-decided n p (inr never) (inl s) (inl all) = inl (inr (s, all))
after-decided n p (inr never) (inl s) (inr free) = inr (λ h. elim h [ inl mate ↦ never mate | inr r ↦ free.2 (r.1 free.0 free.1) ])

mutual
  mated-decided : (n : ℕ) (p : Position) → IsValid p → Decided (IsMatedWithin n p)
  mated-decided zero p valid = mate-decided p valid
  mated-decided (suc n) p valid =
      after-decided n p (mate-decided p valid) (move-decided p valid)
      (all-legal-or-one-not (λ m. MatesWithin n (after p m)) p valid (λ m l. mates-decided n (after p m) (IsValid-after p m valid l)))

  mates-decided : (n : ℕ) (p : Position) → IsValid p → Decided (MatesWithin n p)
  mates-decided zero p valid = inr (λ h. h)
  mates-decided (suc n) p valid =
      elim (some-legal-or-none (λ m. IsMatedWithin n (after p m)) p valid (λ m l. mated-decided n (after p m) (IsValid-after p m valid l))) [
        | inl s ↦ inl s
        | inr none ↦ inr (λ h. none h.0 h.1 h.2)
      ]

module _ (P : ℕ → Type 0) (dec : (n : ℕ) → Decided (P n)) where
  least-below : (n : ℕ) → ((k : ℕ) × P k × ((j : ℕ) → j < k → P j → ⊥)) ⊎ ((j : ℕ) → j < n → P j → ⊥)
  least-below zero = inr (λ j l. absurd (omega (arith, l)))
  least-below (suc n) = elim (least-below n) [
    | inl k ↦ inl k
    | inr none ↦ elim (dec n) [
      | inl h ↦ inl (n, h, none)
      | inr never ↦ inr (λ j l h. elim (cases_lt j n) [
        | inl less ↦ none j less h
        | inr least ↦ (let same : j ≡ n = omega (arith, l, least) in never (subst P same h))
      ])
    ]
  ]

pub quickest : (n : ℕ) (p : Position) → IsValid p → MatesWithin n p → (k : ℕ) × IsWon p k
quickest n p valid h = elim (least-below (λ k. MatesWithin k p) (λ k. mates-decided k p valid) (suc n)) [
  | inl k ↦ (k.0, (k.1, k.2))
  | inr none ↦ absurd (none n (omega arith) h)
]

-- a move that mates in the end is a win
pub won-by : (p : Position) (m : Move) → IsValid p → IsLegal p m → (k : ℕ) → IsMatedWithin k (after p m) → (n : ℕ) × IsWon p n
won-by p m valid legal k h = quickest (suc k) p valid (m, legal, h)
