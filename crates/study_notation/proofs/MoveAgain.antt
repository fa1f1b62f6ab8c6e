-- The text of a legal move is read as that move.
use Rattle.std.proofs.Common.{◌≡◌, ℕ, ◌<◌, Bool, true, false, cond, List, ◌++◌, Option, Some, None, Ok, refl, ap, ◌∙◌, inl, inr, arith}
use Rattle.std.specs.Prelude.{◌↔◌, IfSome}
use Rattle.std.proofs.lemmas.Bool.{false≢true, cases_Bool}
use Rattle.study_board.specs.declared.men.Man.{Man}
use Rattle.study_board.specs.declared.men.Kind.{Kind}
use Rattle.study_board.specs.Geometry.{file_of, rank_of}
use Rattle.study_board.specs.Position.{Position, IsValid, man_at, in_check}
use Rattle.study_moves.specs.declared.moves.Move.{Move}
use Rattle.study_moves.specs.Rules.{is_legal, is_promotion_choice, is_promotion_piece, reaches_last_rank, after}
use Rattle.study_moves.proofs.MenOfList.{found_among, All-among}
use Rattle.study_moves.proofs.NoMoveBetween.{HasMover-from_is_legal}
use Rattle.study_notation.specs.declared.san.San.{San}
use Rattle.study_notation.specs.San.{Fits, Says, san_text, is_ending}
use Rattle.study_notation.specs.SanParts.{san_of}
use Rattle.study_moves.specs.LegalList.{is_mate}
use Rattle.study_notation.specs.Matching.{only_match, move_meant, move_of}
use Rattle.study_notation.specs.SanSpelling.{gives_file, gives_rank, san_for, check_text, move_text}
use Rattle.study_notation.proofs.SanAgain.{san_again}
use Rattle.study_notation.proofs.ReadIsSpelled.{says}
use Rattle.study_notation.proofs.OneMoveAgrees.{alone_matches}

some_below : (b : Bool) (n k : ℕ) → n < k → IfSome (cond b (Some n) None) (λ f. f < k)
some_below true n k lt = lt
some_below false n k lt = tt

officer_chosen : (b : Bool) (q : Option Kind) → is_promotion_choice b q ≡ true → IfSome q (λ k. is_promotion_piece k ≡ true)
officer_chosen b None e = tt
officer_chosen true (Some k) e = e
officer_chosen false (Some k) e = absurd (false≢true e)

fits_for : (p : Position) (man : Man) (m : Move) → man.at < 64 → m.target < 64 → is_promotion_choice (reaches_last_rank man m.target) m.promoted ≡ true
    → Fits (san_for p man m)
unfolding san_for
fits_for p man m at target choice = record {
  file = some_below (gives_file p man m.target) (file_of man.at) 8 (omega arith);
  rank = some_below (gives_rank p man m.target) (rank_of man.at) 8 (omega arith);
  target = target;
  promoted = officer_chosen (reaches_last_rank man m.target) m.promoted choice;
}

check_ending : (p : Position) → is_ending (check_text p) ≡ true
unfolding check_text
check_ending p = elim (cases_Bool (is_mate p)) [
  | inl mate ↦ rw mate refl
  | inr none ↦ elim (cases_Bool (in_check p.men p.to_move)) [ inl check ↦ rw (none, check) refl | inr safe ↦ rw (none, safe) refl ]
]

text_of : (p : Position) (m : Move) (man : Man) → man_at p.men m.origin ≡ Some man → move_text p m ≡ san_text (san_for p man m) true ++ check_text (after p m)
unfolding move_text
text_of p m man e = rw e refl

pub move_again : (p : Position) (m : Move) → IsValid p → is_legal p m ≡ true → move_of p (move_text p m) ≡ Ok m
unfolding move_of
move_again p m valid e =
    let h = HasMover-from_is_legal p m e in
    let s = san_for p h.man m in
    let check = check_text (after p m) in
    let on_board = All-among (λ x. x.at < 64) p.men h.man valid.on_board (found_among p.men m.origin h.man h.here).0 in
    let read : san_of (san_text s true ++ check) ≡ Some s =
    san_again s true check (fits_for p h.man m on_board h.moves.target h.moves.choice)
    (check_ending (after p m)) in
    ap (λ (t : List ℕ). move_meant p t (san_of t)) (text_of p m h.man h.here) ∙ ap (move_meant p (san_text s true ++ check))
    read ∙ ap only_match (alone_matches p m h.man valid e h.here)

read_where_spelled : (text : List ℕ) (s : San) → Says text s → san_of text ≡ Some s
read_where_spelled text s h = ap san_of h.1.3 ∙ san_again s h.1.0 h.1.1 h.0 h.1.2

pub parts_spelled : (text : List ℕ) (s : San) → (san_of text ≡ Some s) ↔ Says text s
parts_spelled text s = (says text s, read_where_spelled text s)
