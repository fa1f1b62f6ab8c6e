-- The search among one move of each man.
use Rattle.std.proofs.Common.{◌≡◌, ℕ, ◌+◌, ◌<◌, Bool, true, false, ◌&&◌, List, [], ◌∷◌, ◌++◌, length, get_or, take, map, zero, suc}
use Rattle.std.proofs.Common.{Option, Some, None, refl, sym, ap, ◌∙◌, subst, arith, inl, inr, is_some}
use Rattle.std.specs.Prelude.{Result, Err}
use Rattle.std.specs.List.{filter}
use Rattle.std.specs.Option.{option_to_list, option_map_or, ok_or}
use Rattle.std.proofs.lemmas.Bool.{false≢true, cases_Bool, eqb-true}
use Rattle.std.proofs.lemmas.List.{append-nil}
use Rattle.study_board.specs.declared.men.Man.{Man}
use Rattle.study_board.specs.Position.{Position, man_at}
use Rattle.study_board.specs.Sound.{IsSound}
use Rattle.study_moves.specs.declared.moves.Move.{Move}
use Rattle.study_moves.specs.Rules.{is_legal}
use Rattle.study_moves.specs.LegalList.{legal_list}
use Rattle.study_moves.proofs.NoManBetween.{man_at-self}
use Rattle.study_notation.specs.declared.san.San.{San}
use Rattle.study_notation.specs.declared.fault.SanFault.{SanFault}
use Rattle.study_notation.specs.declared.fault.SanFault.TheVariants.{NoSuchMove, Ambiguous}
use Rattle.study_notation.specs.Matching.{agrees, matches, only_match}
use Rattle.study_wide.specs.Wide.{Wide, IsWide}
use Rattle.study_wide_text.specs.Candidates.{move_to, candidates}
use Rattle.study_wide_text.proofs.Candidates.{candidates_found}
use Rattle.study_wide_text.proofs.OneMoveAgrees.{agrees_parts, promotions_equal}

-- a move that agrees with the parts has their target and promotion
fixed : (p : Position) (s : San) (m : Move) → matches p s m ≡ true → (m.target ≡ s.target) × (m.promoted ≡ s.promoted)
unfolding matches
fixed p s m e = go (man_at p.men m.origin) e
  where
    go : (o : Option Man) → option_map_or (λ man. agrees p s man m) o false ≡ true → (m.target ≡ s.target) × (m.promoted ≡ s.promoted)
    go None h = absurd (false≢true h)
    go (Some man) h = let a = agrees_parts p s man m h in (eqb-true _ _ a.target, sym (promotions_equal s.promoted m.promoted a.promoted))

-- the moves of the first men that are meant
abbrev pub meant : Position → San → Move → Bool
meant p s m = is_legal p m && matches p s m

unfoldable pub meant_among : Position → San → List Man → List Move
meant_among p s men = filter (meant p s) (map (move_to s.target s.promoted) men)

pub meant_among-all : (p : Position) (s : San) → IsSound p → s.target < 64 → filter (matches p s) (legal_list p) ≡ meant_among p s p.men
unfolding meant_among candidates
meant_among-all p s sound small = sym (candidates_found p sound (matches p s) s.target s.promoted small (fixed p s))

pub meant_among-none : (p : Position) (s : San) (men : List Man) → meant_among p s (take 0 men) ≡ []
unfolding meant_among
meant_among-none p s [] = refl
meant_among-none p s (x ∷ xs) = refl

-- with one man more
meant_step : (p : Position) (s : San) (men : List Man) (i : ℕ) (d : Man) → i < length men
    → meant_among p s (take (i + 1) men) ≡ meant_among p s (take i men) ++ filter (meant p s) (move_to s.target s.promoted (get_or men i d) ∷ [])
unfolding meant_among
meant_step p s [] i d lt = absurd (omega arith)
meant_step p s (x ∷ xs) zero d lt = start xs
  where
    start : (ys : List Man) → filter (meant p s) (map (move_to s.target s.promoted) (take 1 (x ∷ ys)))
        ≡ [] ++ filter (meant p s) (move_to s.target s.promoted x ∷ [])
    start [] = refl
    start (y ∷ ys) = refl
meant_step p s (x ∷ xs) (suc i) d lt =
    let up : suc i + 1 ≡ suc (i + 1) = omega arith in
    let f = move_to s.target s.promoted in
    let rest = meant_step p s xs i d (omega arith) in
    ap (λ (n : ℕ). filter (meant p s) (map f (take n (x ∷ xs)))) up
    ∙ elim (cases_Bool (meant p s (f x))) [
      | inl t ↦ rw t (ap (λ (l : List Move). f x ∷ l) rest)
      | inr u ↦ rw u rest
    ]

pub meant_more : (p : Position) (s : San) (men : List Man) (i : ℕ) (d man : Man) (m : Move) → i < length men → man ≡ get_or men i d
    → m ≡ move_to s.target s.promoted man → meant p s m ≡ true → meant_among p s (take i men) ≡ [] → meant_among p s (take (i + 1) men) ≡ m ∷ []
meant_more p s men i d man m lt is made e none =
    let it : m ≡ move_to s.target s.promoted (get_or men i d) = made ∙ ap (move_to s.target s.promoted) is in
    let yes : meant p s (move_to s.target s.promoted (get_or men i d)) ≡ true = ap (meant p s) (sym it) ∙ e in
    meant_step p s men i d lt ∙ rw (none, yes) (ap (λ (z : Move). z ∷ []) (sym it))

pub meant_same : (p : Position) (s : San) (men : List Man) (i : ℕ) (d man : Man) (m : Move) → i < length men → man ≡ get_or men i d
    → m ≡ move_to s.target s.promoted man → meant p s m ≡ false → meant_among p s (take (i + 1) men) ≡ meant_among p s (take i men)
meant_same p s men i d man m lt is made e =
    let it : m ≡ move_to s.target s.promoted (get_or men i d) = made ∙ ap (move_to s.target s.promoted) is in
    let no : meant p s (move_to s.target s.promoted (get_or men i d)) ≡ false = ap (meant p s) (sym it) ∙ e in
    meant_step p s men i d lt ∙ rw no (append-nil (meant_among p s (take i men)))

-- a second one, and no more men than there are
meant_grows : (p : Position) (s : San) (men : List Man) (i : ℕ) → (rest : List Move) × (meant_among p s men ≡ meant_among p s (take i men) ++ rest)
unfolding meant_among
meant_grows p s [] zero = ([], refl)
meant_grows p s [] (suc i) = ([], refl)
meant_grows p s (x ∷ xs) zero = (filter (meant p s) (map (move_to s.target s.promoted) (x ∷ xs)), refl)
meant_grows p s (x ∷ xs) (suc i) =
    let f = move_to s.target s.promoted in
    let rest = meant_grows p s xs i in (
      rest.0,
      elim (cases_Bool (meant p s (f x))) [
        | inl t ↦ rw t (ap (λ (l : List Move). f x ∷ l) rest.1)
        | inr u ↦ rw u rest.1
      ],
    )

abbrev ambiguous : Result Move SanFault
ambiguous = Err Ambiguous

pub meant_twice : (p : Position) (s : San) (men : List Man) (i : ℕ) (d man : Man) (m f : Move) → i < length men → man ≡ get_or men i d
    → m ≡ move_to s.target s.promoted man → meant p s m ≡ true → meant_among p s (take i men) ≡ f ∷ []
    → ambiguous ≡ only_match (meant_among p s men)
meant_twice p s men i d man m f lt is made e one =
    let it : m ≡ move_to s.target s.promoted (get_or men i d) = made ∙ ap (move_to s.target s.promoted) is in
    let yes : meant p s (move_to s.target s.promoted (get_or men i d)) ≡ true = ap (meant p s) (sym it) ∙ e in
    let two : meant_among p s (take (i + 1) men) ≡ f ∷ move_to s.target s.promoted (get_or men i d) ∷ [] = meant_step p s men i d lt ∙ rw (one, yes) refl in
    let all = meant_grows p s men (i + 1) in
    sym (ap only_match (all.1 ∙ ap (λ (l : List Move). l ++ all.0) two))

pub twice : (p : Position) (s : San) (men : List Man) (i : ℕ) (d man : Man) (m : Move) (found : Option Move) → is_some found ≡ true → i < length men
    → man ≡ get_or men i d → m ≡ move_to s.target s.promoted man → meant p s m ≡ true → meant_among p s (take i men) ≡ option_to_list found
    → ambiguous ≡ only_match (meant_among p s men)
twice p s men i d man m None some lt is made e h = absurd (false≢true some)
twice p s men i d man m (Some f) some lt is made e h = meant_twice p s men i d man m f lt is made e h

pub found_is : (found : Option Move) → ok_or found NoSuchMove ≡ only_match (option_to_list found)
found_is None = refl
found_is (Some m) = refl

pub none_found : (found : Option Move) → is_some found ≡ false → option_to_list found ≡ []
none_found None e = refl
none_found (Some f) e = absurd (false≢true (sym e))

pub man_here : (g : Wide) (men : List Man) (i : ℕ) (d m : Man) → IsWide g → men ≡ g.board.men → i < length men → m ≡ get_or men i d
    → man_at g.board.men m.at ≡ Some m
man_here g men i d m wide e lt is =
    let lt' : i < length g.board.men = subst (λ (xs : List Man). i < length xs) e lt in
    let here = man_at-self i d g.board.men wide.sound.ordered lt' in
    let same : m ≡ get_or g.board.men i d = is ∙ ap (λ (xs : List Man). get_or xs i d) e in
    subst (λ (x : Man). man_at g.board.men x.at ≡ Some x) (sym same) here
