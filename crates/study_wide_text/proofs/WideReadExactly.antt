-- The result of reading a text is its meaning.
use Rattle.std.proofs.Common.{◌≡◌, ℕ, true, false, List, [], ◌∷◌, Option, Some, None, refl, sym, ap, ◌∙◌, subst, inl, inr, arith}
use Rattle.std.specs.Prelude.{◌↔◌, Result, Ok, Err, if◌then◌else◌}
use Rattle.std.specs.List.{filter}
use Rattle.std.proofs.lemmas.Bool.{false≢true, and_parts, and_from, cases_Bool, eq-eqb}
use Rattle.study_board.specs.declared.men.Side.{Side}
use Rattle.study_board.specs.declared.men.Kind.{Kind}
use Rattle.study_moves.specs.declared.moves.Move.{Move}
use Rattle.study_moves.specs.Rules.{is_legal}
use Rattle.study_moves.specs.Order.{move_place}
use Rattle.study_moves.specs.LegalList.{all_moves, legal_list}
use Rattle.study_moves.proofs.AscendingKeys.{IsIn, IsIn-filter, IsIn-kept, AscendsFrom, AscendsFrom-filter}
use Rattle.study_moves.proofs.LegalLists.{in_all, is_legal-in, AscendsFrom-legal_list}
use Rattle.study_notation.specs.declared.san.San.{San}
use Rattle.study_notation.specs.declared.fault.SanFault.{SanFault}
use Rattle.study_notation.specs.declared.fault.SanFault.TheVariants.{NotSan, CastlingLeftOut, NoSuchMove, Ambiguous}
use Rattle.study_notation.specs.SanParts.{san_of}
use Rattle.study_notation.specs.Matching.{matches, only_match, move_meant, move_of}
use Rattle.study_notation.specs.Meaning.{IsSan, Matches}
use Rattle.study_notation.proofs.MoveAgain.{parts_spelled}
use Rattle.study_wide.specs.declared.castling.Wing.{Wing}
use Rattle.study_wide.specs.Wide.{Wide, IsWide}
use Rattle.study_wide.specs.Castling.{home, king_target, can_castle, is_castling_move, castling_move}
use Rattle.study_wide.specs.Rules.{castles}
use Rattle.study_wide.proofs.Movers.{IsCastlingOf-from}
use Rattle.study_wide_text.specs.Matching.{castling_wing, wide_move_meant, wide_move_of}
use Rattle.study_wide_text.specs.Meaning.{IsWideSan, WideMatches}
use Rattle.study_wide_text.proofs.CastlingTexts.{spelled, read_spelled, no_parts, none_castles}

-- the meaning of the result, given the claim that the text has a form of SAN and the moves M that match
pub record Tells (r : Result Move SanFault) (san : Type 0) (M : Move → Type 0) : Type 0 where
  pub one : (m : Move) → (r ≡ Ok m) ↔ (M m × ((n : Move) → M n → n ≡ m))
  pub none : (r ≡ Err NoSuchMove) ↔ (san × ((m : Move) → ¬ (M m)))
  pub more : (r ≡ Err Ambiguous) ↔ ((m : Move) × (n : Move) × M m × M n × ¬ (m ≡ n))
  pub not_san : (r ≡ Err NotSan) ↔ ¬ san
  pub never : ¬ (r ≡ Err CastlingLeftOut)

differ : (lo : ℕ) (m n : Move) (ms : List Move) → AscendsFrom move_place lo (m ∷ n ∷ ms) → m ≡ n → ⊥
differ lo m n ms h e = let lt = h.1.0 in let same : move_place m ≡ move_place n = ap move_place e in absurd (omega arith)

reported_by_list : (ms : List Move) (san : Type 0) (M : Move → Type 0) → san
    → AscendsFrom move_place 0 ms → ((m : Move) → M m → IsIn m ms) → ((m : Move) → IsIn m ms → M m) → Tells (only_match ms) san M
reported_by_list [] san M s h into out = record {
  one = λ m. (λ e. absurd (let no : ⊥ = cc in no), λ a. absurd (into m a.0));
  none = (λ _. (s, into), λ _. refl);
  more = (λ e. absurd (let no : ⊥ = cc in no), λ a. absurd (into a.0 a.2));
  not_san = (λ e. absurd (let no : ⊥ = cc in no), λ a. absurd (a s));
  never = λ e. absurd (let no : ⊥ = cc in no);
}
reported_by_list (x ∷ []) san M s h into out = record {
  one = λ m. (
    λ e.
        let same : x ≡ m = cc in
        (subst M same (out x (inl refl)), λ n a. elim (into n a) [ inl t ↦ sym t ∙ same | inr i ↦ absurd i ]),
    λ a. elim (into m a.0) [ inl t ↦ ap (λ z. Ok z) t | inr i ↦ absurd i ],
  );
  none = (λ e. absurd (let no : ⊥ = cc in no), λ a. absurd (a.1 x (out x (inl refl))));
  more = (λ e. absurd (let no : ⊥ = cc in no), λ a. absurd (a.4 (only a.0 (into a.0 a.2) ∙ sym (only a.1 (into a.1 a.3)))));
  not_san = (λ e. absurd (let no : ⊥ = cc in no), λ a. absurd (a s));
  never = λ e. absurd (let no : ⊥ = cc in no);
}
  where
    only : (m : Move) → IsIn m (x ∷ []) → m ≡ x
    only m (inl t) = sym t
    only m (inr i) = absurd i
reported_by_list (x ∷ y ∷ ms) san M s h into out =
    let apart = differ 0 x y ms h in
    let mx = out x (inl refl) in
    let my = out y (inr (inl refl)) in record {
      one = λ m. (λ e. absurd (let no : ⊥ = cc in no), λ a. absurd (apart (a.1 x mx ∙ sym (a.1 y my))));
      none = (λ e. absurd (let no : ⊥ = cc in no), λ a. absurd (a.1 x mx));
      more = (λ _. (x, y, mx, my, apart), λ _. refl);
      not_san = (λ e. absurd (let no : ⊥ = cc in no), λ a. absurd (a s));
      never = λ e. absurd (let no : ⊥ = cc in no);
    }

no_form : (san : Type 0) (M : Move → Type 0) → ¬ san → ((m : Move) → ¬ (M m)) → Tells (Err NotSan) san M
no_form san M unsaid none = record {
  one = λ m. (λ e. absurd (let no : ⊥ = cc in no), λ a. absurd (none m a.0));
  none = (λ e. absurd (let no : ⊥ = cc in no), λ a. absurd (unsaid a.0));
  more = (λ e. absurd (let no : ⊥ = cc in no), λ a. absurd (none a.0 a.2));
  not_san = (λ _. unsaid, λ _. refl);
  never = λ e. absurd (let no : ⊥ = cc in no);
}

-- ---- castling

abbrev read_as : Move → Result Move SanFault
read_as m = Ok m

some_is : (v w : Wing) → Some v ≡ Some w → v ≡ w
some_is v w e = cc

module _ (g : Wide) (text : List ℕ) (w : Wing) (wide : IsWide g) (read : castling_wing text ≡ Some w) where
  -- only castling matches
  castles_only : (m : Move) → WideMatches g text m → castles g m w ≡ true
  castles_only m (inl c) =
      let same = some_is c.0 w (sym (read_spelled text c.0 c.1) ∙ read) in
      subst (λ (v : Wing). castles g m v ≡ true) same c.2
  castles_only m (inr a) =
      let none = no_parts text w (spelled text w read) in
      absurd (let both : None ≡ Some a.1.0 = sym none ∙ (parts_spelled text a.1.0).1 a.1.1 in let no : ⊥ = cc in no)

  is_that : (m : Move) → castles g m w ≡ true → m ≡ castling_move g.board.to_move w
  is_that m e =
      let k = IsCastlingOf-from g m w wide e in
      let build : ℕ → ℕ → Option Kind → Move = λ a x q. record { origin = a; target = x; promoted = q } in
      ap (λ a. build a m.target m.promoted) k.origin
      ∙ (ap (λ x. build (home g.board.to_move) x m.promoted) k.target ∙ ap (λ q. build (home g.board.to_move) (king_target g.board.to_move w) q) k.whole)

  castles_itself : can_castle g w ≡ true → WideMatches g text (castling_move g.board.to_move w)
  castles_itself may = inl (w, spelled text w read, and_from _ _ (itself g.board.to_move w) may)
    where
      itself : (s : Side) (v : Wing) → is_castling_move s v (castling_move s v) ≡ true
      itself s v = and_from _ _ (and_from _ _ (eq-eqb (home s) (home s) refl) (eq-eqb (king_target s v) (king_target s v) refl)) refl

  pub told_castling : Tells (if can_castle g w then Ok (castling_move g.board.to_move w) else Err NoSuchMove) (IsWideSan text) (WideMatches g text)
  told_castling = elim (cases_Bool (can_castle g w)) [
    | inl may ↦ rw may (one (castles_itself may))
    | inr not_now ↦ rw not_now (none not_now)
  ]
    where
      said : IsWideSan text
      said = inl (w, spelled text w read)

      one : WideMatches g text (castling_move g.board.to_move w) → Tells (Ok (castling_move g.board.to_move w)) (IsWideSan text) (WideMatches g text)
      one h = record {
        one = λ m. (
          λ e. (let same : castling_move g.board.to_move w ≡ m = cc in
              (subst (λ (z : Move). WideMatches g text z) same h, λ n a. is_that n (castles_only n a) ∙ same)),
          λ a. ap read_as (sym (is_that m (castles_only m a.0))),
        );
        none = (λ e. absurd (let no : ⊥ = cc in no), λ a. absurd (a.1 (castling_move g.board.to_move w) h));
        more = (
          λ e. absurd (let no : ⊥ = cc in no),
          λ a. absurd (a.4 (is_that a.0 (castles_only a.0 a.2) ∙ sym (is_that a.1 (castles_only a.1 a.3)))),
        );
        not_san = (λ e. absurd (let no : ⊥ = cc in no), λ a. absurd (a said));
        never = λ e. absurd (let no : ⊥ = cc in no);
      }

      none : can_castle g w ≡ false → Tells (Err NoSuchMove) (IsWideSan text) (WideMatches g text)
      none e =
          let never_castles : (m : Move) → ¬ (WideMatches g text m) = λ m a.
          false≢true (sym e ∙ (and_parts (is_castling_move g.board.to_move w m) (can_castle g w) (castles_only m a)).1) in
          record {
            one = λ m. (λ t. absurd (let no : ⊥ = cc in no), λ a. absurd (never_castles m a.0));
            none = (λ _. (said, never_castles), λ _. refl);
            more = (λ t. absurd (let no : ⊥ = cc in no), λ a. absurd (never_castles a.0 a.2));
            not_san = (λ t. absurd (let no : ⊥ = cc in no), λ a. absurd (a said));
            never = λ t. absurd (let no : ⊥ = cc in no);
          }

-- ---- a move of one man

module _ (g : Wide) (text : List ℕ) (wide : IsWide g) (read : castling_wing text ≡ None) where
  plain_only : (m : Move) → WideMatches g text m → Matches g.board text m
  plain_only m (inl c) = absurd (let both : None ≡ Some c.0 = sym read ∙ read_spelled text c.0 c.1 in let no : ⊥ = cc in no)
  plain_only m (inr a) = a

  plain_san : IsWideSan text → IsSan text
  plain_san (inl c) = absurd (let both : None ≡ Some c.0 = sym read ∙ read_spelled text c.0 c.1 in let no : ⊥ = cc in no)
  plain_san (inr a) = a

  pub told_plain : Tells (move_of g.board text) (IsWideSan text) (WideMatches g text)
  unfolding move_of legal_list
  told_plain = go (san_of text) refl
    where
      go : (o : Option San) → san_of text ≡ o → Tells (move_meant g.board text o) (IsWideSan text) (WideMatches g text)
      go None e =
          let unsaid : ¬ (IsWideSan text) = λ a.
          let b = plain_san a in
          let said = sym e ∙ (parts_spelled text b.0).1 b.1 in
          absurd (let bad : ⊥ = cc in bad) in
          let form = none_castles text read in
          rw form (no_form (IsWideSan text) (WideMatches g text) unsaid (λ m a. unsaid (inr (let b = plain_only m a in (b.1.0, b.1.1)))))
      go (Some s) e =
          let said = (parts_spelled text s).0 e in
          reported_by_list (filter (matches g.board s) (legal_list g.board)) (IsWideSan text) (WideMatches g text) (inr (s, said))
          (AscendsFrom-filter move_place (matches g.board s) 0 (legal_list g.board) (AscendsFrom-legal_list g.board))
          (λ m a.
          let b = plain_only m a in
          let both : Some b.1.0 ≡ Some s = sym ((parts_spelled text b.1.0).1 b.1.1) ∙ e in
          let same : b.1.0 ≡ s = cc in
          IsIn-kept (matches g.board s) (legal_list g.board) m
          (IsIn-kept (is_legal g.board) all_moves m (in_all g.board m wide.sound.on_board b.0) b.0)
          (subst (λ z. matches g.board z m ≡ true) same b.1.2))
          (λ m i.
          let r = IsIn-filter (matches g.board s) (legal_list g.board) m i in
          inr (is_legal-in g.board m r.0, (s, said, r.1)))

pub exactly : (g : Wide) (text : List ℕ) → IsWide g → Tells (wide_move_of g text) (IsWideSan text) (WideMatches g text)
unfolding wide_move_of
exactly g text wide = go (castling_wing text) refl
  where
    go : (o : Option Wing) → castling_wing text ≡ o → Tells (wide_move_meant g text o) (IsWideSan text) (WideMatches g text)
    go None e = told_plain g text wide e
    go (Some w) e = told_castling g text w wide e
