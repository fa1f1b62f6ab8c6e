-- The result of reading a text is its meaning.
use Rattle.std.proofs.Common.{◌≡◌, ℕ, Bool, true, false, List, [], ◌∷◌, Option, Some, None, refl, sym, ap, ◌∙◌, subst, inl, inr, arith}
use Rattle.std.specs.Prelude.{◌↔◌, Result, Ok, Err, if◌then◌else◌}
use Rattle.std.specs.List.{filter}
use Rattle.study_board.specs.Position.{Position, IsValid}
use Rattle.study_moves.specs.declared.moves.Move.{Move}
use Rattle.study_moves.specs.Order.{move_place}
use Rattle.study_notation.specs.declared.san.San.{San}
use Rattle.study_notation.specs.declared.fault.SanFault.{SanFault}
use Rattle.study_notation.specs.declared.fault.SanFault.TheVariants.{NotSan, CastlingLeftOut, NoSuchMove, Ambiguous}
use Rattle.study_notation.specs.SanParts.{san_of, is_castling}
use Rattle.study_moves.specs.LegalList.{legal_list}
use Rattle.study_notation.specs.Matching.{matches, only_match, move_meant, move_of}
use Rattle.study_notation.specs.Meaning.{IsSan, Matches}
use Rattle.study_moves.proofs.AscendingKeys.{IsIn, IsIn-filter, IsIn-kept, AscendsFrom, AscendsFrom-filter}
use Rattle.study_moves.proofs.LegalLists.{in_legal, is_legal-in, AscendsFrom-legal_list}
use Rattle.study_notation.proofs.MoveAgain.{parts_spelled}

-- the meaning of the result, given the moves M that match, and the claim T that the text is castling
pub record Tells (r : Result Move SanFault) (san : Type 0) (M : Move → Type 0) (castling : Bool) : Type 0 where
  pub one : (m : Move) → (r ≡ Ok m) ↔ (M m × ((n : Move) → M n → n ≡ m))
  pub none : (r ≡ Err NoSuchMove) ↔ (san × ((m : Move) → ¬ (M m)))
  pub more : (r ≡ Err Ambiguous) ↔ ((m : Move) × (n : Move) × M m × M n × ¬ (m ≡ n))
  pub left_out : (r ≡ Err CastlingLeftOut) ↔ (¬ san × (castling ≡ true))
  pub not_san : (r ≡ Err NotSan) ↔ (¬ san × (castling ≡ false))

differ : (lo : ℕ) (m n : Move) (ms : List Move) → AscendsFrom move_place lo (m ∷ n ∷ ms) → m ≡ n → ⊥
differ lo m n ms h e = let lt = h.1.0 in let same : move_place m ≡ move_place n = ap move_place e in absurd (omega arith)

reported_by_list : (ms : List Move) (san : Type 0) (M : Move → Type 0) (castling : Bool) → san
    → AscendsFrom move_place 0 ms → ((m : Move) → M m → IsIn m ms) → ((m : Move) → IsIn m ms → M m)
    → Tells (only_match ms) san M castling
reported_by_list [] san M castling s h into out = record {
  one = λ m. (λ e. absurd (let no : ⊥ = cc in no), λ a. absurd (into m a.0));
  none = (λ _. (s, into), λ _. refl);
  more = (λ e. absurd (let no : ⊥ = cc in no), λ a. absurd (into a.0 a.2));
  left_out = (λ e. absurd (let no : ⊥ = cc in no), λ a. absurd (a.0 s));
  not_san = (λ e. absurd (let no : ⊥ = cc in no), λ a. absurd (a.0 s));
}
reported_by_list (x ∷ []) san M castling s h into out = record {
  one = λ m. (
    λ e.
        let same : x ≡ m = cc in
        (subst M same (out x (inl refl)), λ n a. elim (into n a) [ inl t ↦ sym t ∙ same | inr i ↦ absurd i ]),
    λ a. elim (into m a.0) [ inl t ↦ ap (λ z. Ok z) t | inr i ↦ absurd i ],
  );
  none = (λ e. absurd (let no : ⊥ = cc in no), λ a. absurd (a.1 x (out x (inl refl))));
  more = (λ e. absurd (let no : ⊥ = cc in no), λ a. absurd (a.4 (only a.0 (into a.0 a.2) ∙ sym (only a.1 (into a.1 a.3)))));
  left_out = (λ e. absurd (let no : ⊥ = cc in no), λ a. absurd (a.0 s));
  not_san = (λ e. absurd (let no : ⊥ = cc in no), λ a. absurd (a.0 s));
}
  where
    only : (m : Move) → IsIn m (x ∷ []) → m ≡ x
    only m (inl t) = sym t
    only m (inr i) = absurd i
reported_by_list (x ∷ y ∷ ms) san M castling s h into out =
    let apart = differ 0 x y ms h in
    let mx = out x (inl refl) in
    let my = out y (inr (inl refl)) in record {
      one = λ m. (λ e. absurd (let no : ⊥ = cc in no), λ a. absurd (apart (a.1 x mx ∙ sym (a.1 y my))));
      none = (λ e. absurd (let no : ⊥ = cc in no), λ a. absurd (a.1 x mx));
      more = (λ _. (x, y, mx, my, apart), λ _. refl);
      left_out = (λ e. absurd (let no : ⊥ = cc in no), λ a. absurd (a.0 s));
      not_san = (λ e. absurd (let no : ⊥ = cc in no), λ a. absurd (a.0 s));
    }

reported_by_text : (castling : Bool) (san : Type 0) (M : Move → Type 0) → ¬ san → ((m : Move) → ¬ (M m))
    → Tells (Err (if castling then CastlingLeftOut else NotSan)) san M castling
reported_by_text true san M unsaid none = record {
  one = λ m. (λ e. absurd (let no : ⊥ = cc in no), λ a. absurd (none m a.0));
  none = (λ e. absurd (let no : ⊥ = cc in no), λ a. absurd (unsaid a.0));
  more = (λ e. absurd (let no : ⊥ = cc in no), λ a. absurd (none a.0 a.2));
  left_out = (λ _. (unsaid, refl), λ _. refl);
  not_san = (λ e. absurd (let no : ⊥ = cc in no), λ a. absurd (let bad = a.1 in let no : ⊥ = cc in no));
}
reported_by_text false san M unsaid none = record {
  one = λ m. (λ e. absurd (let no : ⊥ = cc in no), λ a. absurd (none m a.0));
  none = (λ e. absurd (let no : ⊥ = cc in no), λ a. absurd (unsaid a.0));
  more = (λ e. absurd (let no : ⊥ = cc in no), λ a. absurd (none a.0 a.2));
  left_out = (λ e. absurd (let no : ⊥ = cc in no), λ a. absurd (let bad = a.1 in let no : ⊥ = cc in no));
  not_san = (λ _. (unsaid, refl), λ _. refl);
}

pub exactly : (p : Position) (text : List ℕ) → IsValid p → Tells (move_of p text) (IsSan text) (Matches p text) (is_castling text)
unfolding move_of
exactly p text valid = go (san_of text) refl
  where
    go : (o : Option San) → san_of text ≡ o → Tells (move_meant p text o) (IsSan text) (Matches p text) (is_castling text)
    go None e =
        let unsaid : ¬ (IsSan text) = λ a. let said = sym e ∙ (parts_spelled text a.0).1 a.1 in absurd (let bad : ⊥ = cc in bad) in
        reported_by_text (is_castling text) (IsSan text) (Matches p text) unsaid (λ m a. unsaid (a.1.0, a.1.1))
    go (Some s) e =
        let said = (parts_spelled text s).0 e in
        reported_by_list (filter (matches p s) (legal_list p)) (IsSan text) (Matches p text) (is_castling text) (s, said)
        (AscendsFrom-filter move_place (matches p s) 0 (legal_list p) (AscendsFrom-legal_list p))
        (λ m a.
        let both : Some a.1.0 ≡ Some s = sym ((parts_spelled text a.1.0).1 a.1.1) ∙ e in
        let same : a.1.0 ≡ s = cc in
        IsIn-kept (matches p s) (legal_list p) m (in_legal p m valid a.0) (subst (λ z. matches p z m ≡ true) same a.1.2))
        (λ m i.
        let r = IsIn-filter (matches p s) (legal_list p) m i in
        (is_legal-in p m r.0, (s, said, r.1)))
