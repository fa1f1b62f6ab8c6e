-- The legal moves man by man, and square by square.
use Rattle.std.proofs.Common.{◌≡◌, ℕ, ◌+◌, ◌<◌, ◌≤◌, zero, suc, Bool, true, false, inl, inr}
use Rattle.std.proofs.Common.{List, [], ◌∷◌, ◌++◌, Option, Some, None, refl, sym, ap, ◌∙◌, arith, subst}
use Rattle.std.specs.List.{Contains, filter, flat_map, range_with_len}
use Rattle.std.specs.Prelude.{◌↔◌}
use Rattle.std.proofs.lemmas.Bool.{false≢true, cases_Bool, cases_lt, false_from_ne_true}
use Rattle.std.proofs.lemmas.List.Elements.{filter-append}
use Rattle.study_board.specs.declared.men.Man.{Man}
use Rattle.study_board.specs.declared.men.Kind.{Kind}
use Rattle.study_board.specs.declared.men.Kind.TheVariants.{Queen, Rook, Bishop, Knight}
use Rattle.study_board.specs.Men.{same_side}
use Rattle.study_board.specs.Position.{IsAscending, man_at}
use Rattle.study_board.specs.Sets.{has}
use Rattle.study_board.specs.Squares.{squares_of}
use Rattle.study_moves.specs.declared.moves.Move.{Move}
use Rattle.study_moves.specs.LegalList.{moves_between, moves_from, all_moves}
use Rattle.study_moves.proofs.MenOfList.{IsAmong, above_among, found_among, All-among}
use Rattle.study_moves.proofs.AscendingKeys.{IsIn, IsIn-left, IsIn-right, IsIn-filter, IsIn-kept, IsIn-from_Contains, Contains-from_in}
use Rattle.study_moves.proofs.LegalLists.{in_all}
use Rattle.study_wide.specs.Wide.{Wide, IsWide}
use Rattle.study_wide.specs.Rules.{is_wide_legal}
use Rattle.study_wide.specs.LegalList.{wide_legal_list, legal_from, legal_between}
use Rattle.study_wide.proofs.Movers.{IsMover-from, IsMover-at}

-- ---- lists one after another

pub filter-flat_map : {X : Type 0} (p : Move → Bool) (f : X → List Move) (xs : List X) → filter p (flat_map f xs) ≡ flat_map (λ x. filter p (f x)) xs
filter-flat_map p f [] = refl
filter-flat_map {X} p f (x ∷ xs) =
    filter-append p (f x) (flat_map f xs) ∙ ap (λ (zs : List Move). filter p (f x) ++ zs) (filter-flat_map {X = X} p f xs)

-- numbers that give nothing may be left out
pub flat_map-kept : (f : ℕ → List Move) (q : ℕ → Bool) (a n : ℕ) → ((x : ℕ) → x < a + n → q x ≡ false → f x ≡ [])
    → flat_map f (filter q (range_with_len a n)) ≡ flat_map f (range_with_len a n)
flat_map-kept f q a zero none = refl
flat_map-kept f q a (suc n) none =
    let rest = flat_map-kept f q (a + 1) n (λ x l e. none x (omega arith) e) in
    elim (cases_Bool (q a)) [
      | inl t ↦ rw t (ap (λ (zs : List Move). f a ++ zs) rest)
      | inr u ↦ rw (u, none a (omega arith) u) rest
    ]

-- squares without a man give nothing
pub flat_map-men : (f : ℕ → List Move) (a n : ℕ) (xs : List Man) → IsAscending xs → ((m : Man) → IsAmong m xs → a ≤ m.at) → ((m : Man) → IsAmong m xs
    → m.at < a + n)
    → ((x : ℕ) → a ≤ x → ((m : Man) → IsAmong m xs → m.at ≡ x → ⊥) → f x ≡ []) → flat_map (λ m. f m.at) xs ≡ flat_map f (range_with_len a n)
flat_map-men f a zero [] asc low high none = refl
flat_map-men f a zero (x ∷ xs) asc low high none =
    let l = low x (inl refl) in
    let h = high x (inl refl) in
    absurd (omega arith)
flat_map-men f a (suc n) [] asc low high none =
    rw (none a (omega arith) (λ m i _. i)) (flat_map-men f (a + 1) n [] asc (λ m i. absurd i) (λ m i. absurd i) (λ x l h. none x (omega arith) h))
flat_map-men f a (suc n) (x ∷ xs) asc low high none = elim (cases_lt a x.at) [
  | inl above ↦
      let all_above : (m : Man) → IsAmong m (x ∷ xs) → a + 1 ≤ m.at = λ m i. elim i [
        | inl s ↦ (let e : x.at ≡ m.at = ap (λ z. z.at) s in omega arith)
        | inr j ↦ (let k = above_among x.at xs m asc.0 j in omega arith)
      ] in
      let here = none a (omega arith) (λ m i e. let k = all_above m i in absurd (omega arith)) in
      rw here (flat_map-men f (a + 1) n (x ∷ xs) asc all_above (λ m i. let h = high m i in omega arith) (λ y l h. none y (omega arith) h))
  | inr at ↦
      let l = low x (inl refl) in
      let same : x.at ≡ a = omega arith in
      let rest = flat_map-men f (a + 1) n xs asc.1 (λ m i. let k = above_among x.at xs m asc.0 i in omega arith)
      (λ m i. let h = high m (inr i) in omega arith)
      (λ y g h. none y (omega arith) (λ m i e. elim i [
        | inl s ↦ (let u : x.at ≡ m.at = ap (λ z. z.at) s in absurd (omega arith))
        | inr j ↦ h m j e
      ])) in
      ap (λ (k : ℕ). f k ++ flat_map (λ m. f m.at) xs) same ∙ ap (λ (zs : List Move). f a ++ zs) rest
]

in_flat : (f : ℕ → List Move) (m : Move) (a n k : ℕ) → a ≤ k → k < a + n → IsIn m (f k) → IsIn m (flat_map f (range_with_len a n))
in_flat f m a zero k le lt i = absurd (omega arith)
in_flat f m a (suc n) k le lt i = elim (cases_lt a k) [
  | inl above ↦ IsIn-right m (f a) _ (in_flat f m (a + 1) n k (omega arith) (omega arith) i)
  | inr at ↦
      let same : k ≡ a = omega arith in
      IsIn-left m (f a) _ (subst (λ (j : ℕ). IsIn m (f j)) same i)
]

-- ---- the moves of a man

none_between : (p : Move → Bool) (a x : ℕ) → ((m : Move) → m.origin ≡ a → m.target ≡ x → p m ≡ false) → filter p (moves_between a x) ≡ []
none_between p a x h =
    let made : Option Kind → Move = λ q. record { origin = a; target = x; promoted = q } in
    let no : (q : Option Kind) → p (made q) ≡ false = λ q. h (made q) refl refl in
    rw (no None, no (Some Queen), no (Some Rook), no (Some Bishop), no (Some Knight)) refl

-- a set with the targets of all legal moves of a man gives them all
pub from_targets : (g : Wide) (a set : ℕ) → ((m : Move) → m.origin ≡ a → is_wide_legal g m ≡ true → has set m.target ≡ true)
    → flat_map (legal_between g a) (squares_of set) ≡ legal_from g a
unfolding squares_of legal_from legal_between
from_targets g a set all =
    flat_map-kept (legal_between g a) (has set) 0 64 (λ x l e. none_between (is_wide_legal g) a x (λ m o t.
    false_from_ne_true (is_wide_legal g m) (λ legal. false≢true (sym e ∙ (ap (has set) (sym t) ∙ all m o legal)))))
    ∙ sym (filter-flat_map (is_wide_legal g) (moves_between a) (range_with_len 0 64))

none_from : (p : Move → Bool) (a : ℕ) → ((m : Move) → m.origin ≡ a → p m ≡ false) → filter p (moves_from a) ≡ []
none_from p a h = filter-flat_map p (moves_between a) (range_with_len 0 64) ∙ empty 0 64
  where
    empty : (s n : ℕ) → flat_map (λ x. filter p (moves_between a x)) (range_with_len s n) ≡ []
    empty s zero = refl
    empty s (suc n) = rw (none_between p a s (λ m o t. h m o)) (empty (s + 1) n)

-- a man of the other side has no legal move
pub none_of_other : (g : Wide) (man : Man) → IsWide g → man_at g.board.men man.at ≡ Some man → same_side man.side g.board.to_move ≡ false
    → legal_from g man.at ≡ []
unfolding legal_from
none_of_other g man wide here other =
    none_from (is_wide_legal g) man.at (λ m o. false_from_ne_true (is_wide_legal g m) (λ legal.
    let h = IsMover-at g man m wide here o legal in
    false≢true (sym other ∙ subst (λ (x : Man). same_side x.side g.board.to_move ≡ true) h.1 h.0.mine)))

-- the legal moves are those of the men, one after another
pub men_give_all : (g : Wide) → IsWide g → flat_map (λ (m : Man). legal_from g m.at) g.board.men ≡ wide_legal_list g
unfolding wide_legal_list all_moves legal_from
men_give_all g wide =
    flat_map-men (legal_from g) 0 64 g.board.men wide.sound.ordered (λ m i. omega arith)
    (λ m i. All-among (λ x. x.at < 64) g.board.men m wide.sound.on_board i)
    (λ x l none. none_from (is_wide_legal g) x (λ m o. false_from_ne_true (is_wide_legal g m) (λ legal.
    let h = IsMover-from g m wide legal in
    let found = found_among g.board.men m.origin h.man h.here in
    none h.man found.0 (found.1 ∙ o))))
    ∙ sym (filter-flat_map (is_wide_legal g) moves_from (range_with_len 0 64))

-- ---- the list has exactly the legal moves

in_all_moves : (m : Move) → m.origin < 64 → m.target < 64 → IsIn m (moves_between m.origin m.target) → IsIn m all_moves
unfolding all_moves
in_all_moves m o t i = in_flat moves_from m 0 64 m.origin (omega arith) o (in_flat (moves_between m.origin) m 0 64 m.target (omega arith) t i)

pub in_wide_list : (g : Wide) (m : Move) → IsWide g → is_wide_legal g m ≡ true → IsIn m (wide_legal_list g)
unfolding wide_legal_list
in_wide_list g m wide legal =
    let h = IsMover-from g m wide legal in
    let found = found_among g.board.men m.origin h.man h.here in
    let board = All-among (λ x. x.at < 64) g.board.men h.man wide.sound.on_board found.0 in
    IsIn-kept (is_wide_legal g) all_moves m (elim h.how [
      | inl plain ↦ in_all g.board m wide.sound.on_board plain
      | inr castling ↦
          let made : Option Kind → Move = λ q. record { origin = m.origin; target = m.target; promoted = q } in
          in_all_moves m (subst (λ (x : ℕ). x < 64) found.1 board) h.target (inl (ap made (sym castling.1.whole)))
    ]) legal

pub wide_list_exact : (g : Wide) (m : Move) → IsWide g → Contains (wide_legal_list g) m ↔ (is_wide_legal g m ≡ true)
unfolding wide_legal_list
wide_list_exact g m wide = (
  λ c. (IsIn-filter (is_wide_legal g) all_moves m (IsIn-from_Contains m (wide_legal_list g) c)).1,
  λ e. Contains-from_in m (wide_legal_list g) (in_wide_list g m wide e),
)
