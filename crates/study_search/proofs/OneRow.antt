-- A position has at most one row of so many only moves.
use Rattle.std.proofs.Common.{◌≡◌, ℕ, ◌-◌, ◌<◌, ◌⊎◌, zero, suc, arith, append_assoc, Bool, true, false, ◌↔◌, Result, Ok, Err, IfOk, List, [], ◌∷◌, ◌++◌, Option, Some, None, inl, inr, refl, sym, ap, subst, ◌∙◌}
use Rattle.std.specs.Prelude.{MatchOption}
use Rattle.std.specs.List.{AllByRecursion}
use Rattle.std.proofs.lemmas.Bool.{false≢true}
use Rattle.study_search.proofs.OnlyMoves.{AreLegal, some-at}
use Rattle.study_moves.proofs.AscendingKeys.{IsIn, IsIn-filter}
use Rattle.study_board.specs.Position.{Position}
use Rattle.study_moves.specs.declared.moves.Move.{Move}
use Rattle.study_moves.specs.Rules.{is_legal, after}
use Rattle.study_moves.specs.LegalList.{legal_list, all_moves}
use Rattle.study_search.specs.declared.only_moves.Outcome.{Outcome}
use Rattle.study_search.specs.OnlyMoves.{IsKey, IsOnlyMove, HasOnlyMoves}
use Rattle.study_search.specs.Listed.{SomeLeads, AddsRow}
use Rattle.study_search.specs.Rows.{IsFirst, IsFirstReply, IsRow, HasAtMostOneRow}

-- ---- the first that leads on is one

head-same : (m k : Move) (ms ks : List Move) → m ∷ ms ≡ k ∷ ks → m ≡ k
head-same m k ms ks e = cc

tail-same : (m k : Move) (ms ks : List Move) → m ∷ ms ≡ k ∷ ks → ms ≡ ks
tail-same m k ms ks e = cc

first-one : (P : Position → Type 0) (q : Position) (before behind before2 behind2 : List Move) (m k : Move)
    → before ++ m ∷ behind ≡ before2 ++ k ∷ behind2 → P (after q m) → P (after q k) → AllByRecursion (λ x. ¬ (P (after q x))) before
    → AllByRecursion (λ x. ¬ (P (after q x))) before2 → m ≡ k
first-one P q [] behind [] behind2 m k e leads leads2 none none2 = head-same m k behind behind2 e
first-one P q [] behind (y ∷ ys) behind2 m k e leads leads2 none none2 =
    absurd (none2.0 (subst (λ (x : Move). P (after q x)) (head-same m y behind (ys ++ k ∷ behind2) e) leads))
first-one P q (x ∷ xs) behind [] behind2 m k e leads leads2 none none2 =
    absurd (none.0 (subst (λ (z : Move). P (after q z)) (sym (head-same x k (xs ++ m ∷ behind) behind2 e)) leads2))
first-one P q (x ∷ xs) behind (y ∷ ys) behind2 m k e leads leads2 none none2 =
    first-one P q xs behind ys behind2 m k (tail-same x y (xs ++ m ∷ behind) (ys ++ k ∷ behind2) e) leads leads2 none.1 none2.1

pub first-same : (P : Position → Type 0) (q : Position) (ms : List Move) (m k : Move) → IsFirst P q ms m → IsFirst P q ms k → m ≡ k
first-same P q ms m k f g = first-one P q f.before f.behind g.before g.behind m k (sym f.among ∙ g.among) f.leads g.leads f.first g.first

-- ---- the reply is legal

is-in : (before behind : List Move) (r : Move) → IsIn r (before ++ r ∷ behind)
is-in [] behind r = inl refl
is-in (x ∷ xs) behind r = inr (is-in xs behind r)

pub reply-legal : (P : Position → Type 0) (q : Position) (r : Move) → IsFirst P q (legal_list q) r → is_legal q r ≡ true
unfolding legal_list
reply-legal P q r f = (IsIn-filter (is_legal q) all_moves r (subst (λ (l : List Move). IsIn r l) (sym f.among) (is-in f.before f.behind r))).1

-- ---- a row is one

pub row-found : (o : Outcome) (n : ℕ) (p : Position) (row : List Move) → IsRow o n p row → HasOnlyMoves o n p
row-found o zero p row h = h.0
row-found o (suc zero) p row h = (h.1.0, (h.0, h.1.1, inl refl))
row-found o (suc (suc n)) p row (m, r, rest, key, first, on, is) =
    (key.0, (m, key.1, inr (r, reply-legal (HasOnlyMoves o (suc n)) (after p m) r first, first.leads)))

cons-two : (m k r t : Move) (rest other : List Move) → m ≡ k → r ≡ t → rest ≡ other → m ∷ r ∷ rest ≡ k ∷ t ∷ other
cons-two m k r t rest other e f g = cc

cons-one : (m k : Move) → m ≡ k → m ∷ [] ≡ k ∷ []
cons-one m k e = cc

none-same : (row other : List Move) → row ≡ [] → other ≡ [] → row ≡ other
none-same row other e f = cc

pub row-same : (o : Outcome) (n : ℕ) (p : Position) (row other : List Move) → IsRow o n p row → IsRow o n p other → row ≡ other
row-same o zero p row other h g = none-same row other h.1 g.1
row-same o (suc zero) p row other (m, key, is) (k, key2, is2) =
    is ∙ (cons-one m k (key2.1.alone m key.1.legal key.1.holds) ∙ sym is2)
row-same o (suc (suc n)) p row other (m, r, rest, key, first, on, is) (k, t, rest2, key2, first2, on2, is2) =
    let e : m ≡ k = key2.1.alone m key.1.legal key.1.holds in
    let first1 : IsFirstReply o (suc n) (after p k) r = subst (λ (x : Move). IsFirstReply o (suc n) (after p x) r) e first in
    let f : r ≡ t = first-same (HasOnlyMoves o (suc n)) (after p k) (legal_list (after p k)) r t first1 first2 in
    let on1 : IsRow o (suc n) (after (after p k) t) rest =
    subst (λ (x : Move). IsRow o (suc n) (after (after p k) x) rest) f (subst (λ (x : Move). IsRow o (suc n) (after (after p x) r) rest) e on) in
    is ∙ (cons-two m k r t rest rest2 e f (row-same o (suc n) (after (after p k) t) rest rest2 on1 on2) ∙ sym is2)

pub one-row : (o : Outcome) (n : ℕ) (p : Position) → HasAtMostOneRow o n p
one-row o n p = record { found = row-found o n p; same = row-same o n p }

-- ---- the first of a list that leads on

pub none-leads : (P : Position → Type 0) (q : Position) → ¬ (SomeLeads P q [])
none-leads P q s = s

pub first-here : (P : Position → Type 0) (q : Position) (m : Move) (rest ms : List Move) → ms ≡ m ∷ rest → P (after q m) → IsFirst P q ms m
first-here P q m rest ms e h = record { before = []; behind = rest; among = e; leads = h; first = tt }

pub first-behind : (P : Position → Type 0) (q : Position) (m : Move) (rest ms : List Move) (r : Move) → ms ≡ m ∷ rest → ¬ (P (after q m))
    → IsFirst P q rest r → IsFirst P q ms r
first-behind P q m rest ms r e none f = record {
  before = m ∷ f.before;
  behind = f.behind;
  among = e ∙ ap (λ (l : List Move). m ∷ l) f.among;
  leads = f.leads;
  first = (none, f.first);
}

pub none-behind : (P : Position → Type 0) (q : Position) (m : Move) (rest ms : List Move) → ms ≡ m ∷ rest → ¬ (P (after q m))
    → ¬ (SomeLeads P q rest) → ¬ (SomeLeads P q ms)
none-behind P q m rest ms e none later s = go (subst (λ (l : List Move). SomeLeads P q l) e s)
  where
    go : SomeLeads P q (m ∷ rest) → ⊥
    go (inl x) = none x
    go (inr y) = later y

by-result : {E : Type 0} (P : Position → Type 0) (q : Position) (m : Move) (rest ms : List Move) (r : Result (Option Move) E) → ms ≡ m ∷ rest
    → ¬ (P (after q m)) → IfOk r (λ reply. MatchOption reply (¬ (SomeLeads P q rest)) (IsFirst P q rest))
    → IfOk r (λ reply. MatchOption reply (¬ (SomeLeads P q ms)) (IsFirst P q ms))
by-result P q m rest ms (Err x) e none k = tt
by-result P q m rest ms (Ok None) e none k = none-behind P q m rest ms e none k
by-result P q m rest ms (Ok (Some y)) e none k = first-behind P q m rest ms y e none k

pub first-later : {E : Type 0} (P : Position → Type 0) (q : Position) (m : Move) (rest ms : List Move) (next : Position) (w : Bool)
    (r : Result (Option Move) E) → ms ≡ m ∷ rest → next ≡ after q m → w ≡ false → ((w ≡ true) ↔ P next)
    → IfOk r (λ reply. MatchOption reply (¬ (SomeLeads P q rest)) (IsFirst P q rest))
    → IfOk r (λ reply. MatchOption reply (¬ (SomeLeads P q ms)) (IsFirst P q ms))
first-later P q m rest ms next w r e n is h g = by-result P q m rest ms r e (λ x. false≢true (sym is ∙ h.1 (subst P (sym n) x))) g

-- ---- a row is added

pub none-legal : {E : Type 0} (P : Position → Type 0) (q : Position) (ms : List Move) (r : Result (Option Move) E) → ms ≡ legal_list q → AreLegal q ms
    → IfOk r (λ reply. MatchOption reply (¬ (SomeLeads P q ms)) (IsFirst P q ms))
    → IfOk r (λ reply. MatchOption reply ((m : Move) → is_legal q m ≡ true → ¬ (P (after q m))) (IsFirst P q (legal_list q)))
none-legal P q ms (Err x) e legal g = tt
none-legal P q ms (Ok None) e legal g = λ m l h. let c = (legal m).1 l in g (some-at P q ms m c.0 c.1 c.2 h)
none-legal P q ms (Ok (Some m)) e legal g = subst (λ (l : List Move). IsFirst P q l m) e g

pub no-row : (o : Outcome) (n : ℕ) (p q : Position) (m : Move) → 0 < n → (n ≡ 1 → ⊥) → IsOnlyMove o p m → q ≡ after p m
    → ((r : Move) → is_legal q r ≡ true → ¬ (HasOnlyMoves o (n - 1) (after q r))) → ¬ (HasOnlyMoves o n p)
no-row o zero p q m some more only e none h = absurd (omega (arith, some))
no-row o (suc zero) p q m some more only e none h = absurd (more refl)
no-row o (suc (suc n)) p q m some more only e none h =
    at-key h.1.0 (only.alone h.1.0 h.1.1.legal h.1.1.holds) h.1.2
  where
    one : suc (suc n) - 1 ≡ suc n
    one = omega arith

    at-key : (k : Move) → k ≡ m
        → ((suc n ≡ 0) ⊎ ((r : Move) × (is_legal (after p k) r ≡ true) × HasOnlyMoves o (suc n) (after (after p k) r))) → ⊥
    at-key k same (inl e) = absurd (omega (arith, e))
    at-key k same (inr y) =
        let z = subst (λ (x : Position). (r : Move) × (is_legal x r ≡ true) × HasOnlyMoves o (suc n) (after x r)) (ap (after p) same ∙ sym e) y in
        none z.0 z.1 (subst (λ i. HasOnlyMoves o i (after q z.0)) (sym one) z.2)

appended : (old mid row : List Move) (m r : Move) → mid ≡ (old ++ m ∷ []) ++ r ∷ [] → mid ++ row ≡ old ++ m ∷ r ∷ row
appended old mid row m r e = ap (λ (l : List Move). l ++ row) e ∙ (append_assoc (old ++ m ∷ []) (r ∷ []) row ∙ append_assoc old (m ∷ []) (r ∷ row))

pub row-on : {E : Type 0} (o : Outcome) (n : ℕ) (p q last : Position) (m r : Move) (old mid new : List Move) (result : Result Bool E)
    → 0 < n → (n ≡ 1 → ⊥) → IsKey o p m → q ≡ after p m → IsFirstReply o (n - 1) q r → last ≡ after q r → mid ≡ (old ++ m ∷ []) ++ r ∷ []
    → IfOk result (AddsRow o (n - 1) last mid new) → IfOk result (AddsRow o n p old new)
row-on o zero p q last m r old mid new result some more key e first f is h = absurd (omega (arith, some))
row-on o (suc zero) p q last m r old mid new result some more key e first f is h = absurd (more refl)
row-on o (suc (suc n)) p q last m r old mid new (Err x) some more key e first f is h = tt
row-on o (suc (suc n)) p q last m r old mid new (Ok false) some more key e first f is h =
    absurd (h (subst (λ (x : Position). HasOnlyMoves o (suc (suc n) - 1) x) (sym f) first.leads))
row-on o (suc (suc n)) p q last m r old mid new (Ok true) some more key e first f is (row, on, now) =
    let one : suc (suc n) - 1 ≡ suc n = omega arith in
    let first1 : IsFirstReply o (suc n) (after p m) r =
    subst (λ (x : Position). IsFirstReply o (suc n) x r) e (subst (λ i. IsFirstReply o i q r) one first) in
    let on1 : IsRow o (suc n) (after (after p m) r) row =
    subst (λ (x : Position). IsRow o (suc n) x row) (f ∙ ap (λ (x : Position). after x r) e) (subst (λ i. IsRow o i last row) one on) in
    (m ∷ r ∷ row, (m, r, row, key, first1, on1, refl), now ∙ appended old mid row m r is)

pub of-none : (A : Type 0) (B : Move → Type 0) (x : Option Move) → x ≡ None → MatchOption x A B → A
of-none A B x e h = subst (λ (y : Option Move). MatchOption y A B) e h

pub of-some : (A : Type 0) (B : Move → Type 0) (x : Option Move) (m : Move) → x ≡ Some m → MatchOption x A B → B m
of-some A B x m e h = subst (λ (y : Option Move). MatchOption y A B) e h
