-- Rows that have what is wanted.
use Rattle.std.proofs.Common.{◌≡◌, ◌↔◌, Bool, true, false, List, ◌∷◌, Option, Result, Ok, Err, IfOk, inl, inr, sym, ◌∙◌, subst}
use Rattle.std.proofs.lemmas.Bool.{false≢true}
use Rattle.study_board.specs.declared.men.Side.{Side}
use Rattle.study_board.specs.Position.{Position}
use Rattle.study_moves.specs.declared.moves.Move.{Move}
use Rattle.study_moves.specs.Rules.{has_side, is_legal, after}
use Rattle.study_moves.specs.Game.{IsLegal}
use Rattle.study_moves.specs.Laws.{EachHasAtMostOneValue}
use Rattle.study_search.specs.Listed.{SomeLeads}
use Rattle.study_search.specs.Rows.{IsLine}
use Rattle.study_search.proofs.OnlyMoves.{AreLegal, some-at, some-to}
use Rattle.study_listing.specs.declared.features.Feature.{Feature}
use Rattle.study_listing.specs.Features.{CanBeTaken, MoveHas, RowHas, RowHasAll, IsShownRow, is_on_row, HasWantedRow}
use Rattle.study_listing.proofs.MainLines.{shown-same}

-- ---- some legal reply takes the man

pub taken : (p q : Position) (m : Move) (side : Side) (ms : List Move) (b : Bool) → q ≡ after p m → side ≡ p.to_move → AreLegal q ms
    → ((b ≡ true) ↔ SomeLeads (λ s. has_side s.men side m.target ≡ false) q ms) → (b ≡ true) ↔ CanBeTaken p m
taken p q m side ms b is own legal h =
    subst (λ (x : Position). (b ≡ true) ↔ ((r : Move) × IsLegal x r × (has_side (after x r).men p.to_move m.target ≡ false))) is
    (subst (λ (s : Side). (b ≡ true) ↔ ((r : Move) × IsLegal q r × (has_side (after q r).men s m.target ≡ false))) own (
      (λ t. let x = some-to (λ s. has_side s.men side m.target ≡ false) q ms (h.0 t) in (x.0, (legal x.0).0 x.1, x.2)),
      (λ x. let c = (legal x.0).1 x.1 in h.1 (some-at (λ s. has_side s.men side m.target ≡ false) q ms x.0 c.0 c.1 c.2 x.2)),
    ))

-- ---- some move of the hero

pub line-first : (p : Position) (m : Move) (row rest : List Move) → row ≡ m ∷ rest → IsLine p row → is_legal p m ≡ true
line-first p m row rest e line = (subst (λ (l : List Move). IsLine p l) e line).0

pub line-second : (p next : Position) (m r : Move) (row rest more : List Move) → row ≡ m ∷ rest → rest ≡ r ∷ more → next ≡ after p m → IsLine p row
    → is_legal next r ≡ true
line-second p next m r row rest more e d is line =
    let behind = (subst (λ (l : List Move). IsLine p l) e line).1 in
    subst (λ (q : Position). is_legal q r ≡ true) (sym is) (subst (λ (l : List Move). IsLine (after p m) l) d behind).0

pub row-behind : {E : Type 0} (f : Feature) (p next last : Position) (m r : Move) (row rest more : List Move) (b : Bool) (result : Result Bool E)
    → row ≡ m ∷ rest → rest ≡ r ∷ more → next ≡ after p m → last ≡ after next r → ((b ≡ true) ↔ MoveHas f p m) → b ≡ false
    → IfOk result (λ c. (c ≡ true) ↔ RowHas f last more) → IfOk result (λ c. (c ≡ true) ↔ RowHas f p row)
row-behind f p next last m r row rest more b (Err x) e d is ends such lacks h = tt
row-behind f p next last m r row rest more b (Ok c) e d is ends such lacks h =
    subst (λ (l : List Move). (c ≡ true) ↔ RowHas f p l) (sym e)
    (subst (λ (l : List Move). (c ≡ true) ↔ RowHas f p (m ∷ l)) (sym d) ((λ t. inr (moved (h.0 t))), (λ s. go s)))
  where
    moved : RowHas f last more → RowHas f (after (after p m) r) more
    moved x = subst (λ (q : Position). RowHas f (after q r) more) is (subst (λ (q : Position). RowHas f q more) ends x)

    back : RowHas f (after (after p m) r) more → RowHas f last more
    back x = subst (λ (q : Position). RowHas f q more) (sym ends) (subst (λ (q : Position). RowHas f (after q r) more) (sym is) x)

    go : RowHas f p (m ∷ r ∷ more) → c ≡ true
    go (inl x) = absurd (false≢true (sym lacks ∙ such.1 x))
    go (inr y) = h.1 (back y)

-- ---- the row that is shown

pub row-wanted : {E : Type 0} → EachHasAtMostOneValue → (ws : List (Option Feature)) (p : Position) (row : List Move) (result : Result Bool E)
    → is_on_row ws ≡ true → IsShownRow p row → IfOk result (λ b. (b ≡ true) ↔ RowHasAll ws p row)
    → IfOk result (λ b. (b ≡ true) ↔ HasWantedRow ws p)
row-wanted law ws p row (Err x) asked shown h = tt
row-wanted law ws p row (Ok b) asked shown h = (
  (λ e. λ on. (row, shown, h.0 e)),
  (λ k. let x = k asked in h.1 (subst (λ (l : List Move). RowHasAll ws p l) (shown-same law p x.0 row x.1 shown) x.2)),
)
