-- The move that a text means is legal.
use Rattle.std.proofs.Common.{◌≡◌, true, List, [], ◌∷◌, refl, sym, ap, ◌∙◌, inl, subst}
use Rattle.std.specs.Prelude.{Result, Ok, Err, IfOk}
use Rattle.std.specs.List.{filter}
use Rattle.study_board.specs.Position.{Position}
use Rattle.study_moves.specs.declared.moves.Move.{Move}
use Rattle.study_moves.specs.Rules.{is_legal}
use Rattle.study_notation.specs.declared.san.San.{San}
use Rattle.study_notation.specs.declared.fault.SanFault.{SanFault}
use Rattle.study_moves.specs.LegalList.{legal_list}
use Rattle.study_notation.specs.Matching.{matches, only_match}
use Rattle.study_moves.proofs.AscendingKeys.{IsIn, IsIn-filter}
use Rattle.study_moves.proofs.LegalLists.{is_legal-in}

picked_in : (xs : List Move) → IfOk (only_match xs) (λ m. IsIn m xs)
picked_in [] = tt
picked_in (m ∷ []) = inl refl
picked_in (m ∷ n ∷ xs) = tt

IfOk-weaker : {A E : Type 0} (P Q : A → Type 0) (r : Result A E) → ((x : A) → P x → Q x) → IfOk r P → IfOk r Q
IfOk-weaker P Q (Ok x) f h = f x h
IfOk-weaker P Q (Err e) f h = tt

pub picked_legal : (p : Position) (s : San) (ms xs : List Move) (r : Result Move SanFault) → ms ≡ xs
    → xs ≡ legal_list p → r ≡ only_match (filter (matches p s) ms) → IfOk r (λ m. is_legal p m ≡ true)
picked_legal p s ms xs r e h k =
    let all = filter (matches p s) (legal_list p) in
    let reported : r ≡ only_match all = k ∙ ap (λ (l : List Move). only_match (filter (matches p s) l)) (e ∙ h) in
    subst (λ (x : Result Move SanFault). IfOk x (λ m. is_legal p m ≡ true)) (sym reported)
    (IfOk-weaker (λ m. IsIn m all) (λ m. is_legal p m ≡ true) (only_match all)
    (λ m i. is_legal-in p m (IsIn-filter (matches p s) (legal_list p) m i).0) (picked_in all))
