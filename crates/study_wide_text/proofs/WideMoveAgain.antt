-- The text of a legal move is read as that move.
use Rattle.std.proofs.Common.{◌≡◌, ℕ, ◌<◌, Bool, true, false, cond, List, ◌++◌, Option, Some, None, Ok, refl, sym, ap, ◌∙◌, inl, inr, arith}
use Rattle.std.specs.Prelude.{IfSome, Result}
use Rattle.std.proofs.lemmas.Bool.{false≢true, and_parts, cases_Bool}
use Rattle.study_board.specs.declared.men.Man.{Man}
use Rattle.study_board.specs.declared.men.Kind.{Kind}
use Rattle.study_board.specs.Geometry.{file_of, rank_of}
use Rattle.study_board.specs.Position.{Position, man_at}
use Rattle.study_moves.specs.declared.moves.Move.{Move}
use Rattle.study_moves.specs.Rules.{is_legal, is_promotion_choice, is_promotion_piece, reaches_last_rank}
use Rattle.study_moves.proofs.MenOfList.{found_among, All-among}
use Rattle.study_moves.proofs.NoMoveBetween.{HasMover-from_is_legal}
use Rattle.study_notation.specs.declared.san.San.{San}
use Rattle.study_notation.specs.declared.fault.SanFault.{SanFault}
use Rattle.study_notation.specs.San.{Fits, san_text, is_ending}
use Rattle.study_notation.specs.SanParts.{san_of}
use Rattle.study_notation.specs.SanSpelling.{gives_rank}
use Rattle.study_notation.specs.Matching.{only_match, move_of}
use Rattle.study_notation.proofs.SanAgain.{san_again}
use Rattle.study_wide.specs.declared.castling.Wing.{Wing}
use Rattle.study_wide.specs.declared.castling.Wing.TheVariants.{Short, Long}
use Rattle.study_wide.specs.Wide.{Wide, IsWide}
use Rattle.study_wide.specs.Castling.{can_castle, is_castling_move, castling_move}
use Rattle.study_wide.specs.Rules.{wing_of, is_wide_legal, wide_after}
use Rattle.study_wide.specs.LegalList.{is_in_check, is_wide_mate}
use Rattle.study_wide.proofs.Playing.{wing_castles, plain_legal}
use Rattle.study_wide.proofs.Movers.{IsCastlingOf-from}
use Rattle.study_wide_text.specs.Matching.{castling_wing, wide_move_meant, wide_move_of}
use Rattle.study_wide_text.specs.Meaning.{SpellsCastling}
use Rattle.study_wide_text.specs.SanSpelling.{gives_wide_file, wide_san_for, castling_san, wide_check_text, move_parts_text, wide_move_text}
use Rattle.study_wide_text.proofs.CastlingTexts.{spelled, read_spelled, no_parts}
use Rattle.study_wide_text.proofs.OneMoveAgrees.{alone_matches}

some_below : (b : Bool) (n k : ℕ) → n < k → IfSome (cond b (Some n) None) (λ f. f < k)
some_below true n k lt = lt
some_below false n k lt = tt

officer_chosen : (b : Bool) (q : Option Kind) → is_promotion_choice b q ≡ true → IfSome q (λ k. is_promotion_piece k ≡ true)
officer_chosen b None e = tt
officer_chosen true (Some k) e = e
officer_chosen false (Some k) e = absurd (false≢true e)

fits_for : (p : Position) (man : Man) (m : Move) → man.at < 64 → m.target < 64 → is_promotion_choice (reaches_last_rank man m.target) m.promoted ≡ true
    → Fits (wide_san_for p man m)
unfolding wide_san_for
fits_for p man m at target choice = record {
  file = some_below (gives_wide_file p man m.target) (file_of man.at) 8 (omega arith);
  rank = some_below (gives_rank p man m.target) (rank_of man.at) 8 (omega arith);
  target = target;
  promoted = officer_chosen (reaches_last_rank man m.target) m.promoted choice;
}

pub check_ending : (g : Wide) → is_ending (wide_check_text g) ≡ true
unfolding wide_check_text
check_ending g = elim (cases_Bool (is_wide_mate g)) [
  | inl mate ↦ rw mate refl
  | inr none ↦ elim (cases_Bool (is_in_check g)) [ inl check ↦ rw (none, check) refl | inr safe ↦ rw (none, safe) refl ]
]

spells : (w : Wing) (ending : List ℕ) → is_ending ending ≡ true → SpellsCastling (castling_san w ++ ending) w
spells Short ending h = (79, inl refl, (ending, h, refl))
spells Long ending h = (79, inl refl, (ending, h, refl))

abbrev read_as : Move → Result Move SanFault
read_as m = Ok m

castling_again : (g : Wide) (m : Move) (w : Wing) → IsWide g → wing_of g m ≡ Some w
    → wide_move_of g (castling_san w ++ wide_check_text (wide_after g m)) ≡ Ok m
unfolding wide_move_of
castling_again g m w wide e =
    let check = wide_check_text (wide_after g m) in
    let castling = wing_castles g m w e in
    let k = IsCastlingOf-from g m w wide castling in
    let may = (and_parts (is_castling_move g.board.to_move w m) (can_castle g w) castling).1 in
    let text = castling_san w ++ check in
    let read = read_spelled text w (spells w check (check_ending (wide_after g m))) in
    let build : ℕ → ℕ → Option Kind → Move = λ a x q. record { origin = a; target = x; promoted = q } in
    let same : castling_move g.board.to_move w ≡ m =
    ap (λ a. build a (castling_move g.board.to_move w).target None) (sym k.origin)
    ∙ (ap (λ x. build m.origin x None) (sym k.target) ∙ ap (λ q. build m.origin m.target q) (sym k.whole)) in
    rw (read, may) (ap read_as same)

text_of : (g : Wide) (m : Move) (man : Man) → man_at g.board.men m.origin ≡ Some man
    → move_parts_text g m None ≡ san_text (wide_san_for g.board man m) true
text_of g m man e = rw e refl

plain_again : (g : Wide) (m : Move) → IsWide g → is_legal g.board m ≡ true
    → wide_move_of g (move_parts_text g m None ++ wide_check_text (wide_after g m)) ≡ Ok m
unfolding wide_move_of move_of
plain_again g m wide e =
    let p = g.board in
    let h = HasMover-from_is_legal p m e in
    let s = wide_san_for p h.man m in
    let check = wide_check_text (wide_after g m) in
    let on_board = All-among (λ x. x.at < 64) p.men h.man wide.sound.on_board (found_among p.men m.origin h.man h.here).0 in
    let read : san_of (san_text s true ++ check) ≡ Some s =
    san_again s true check (fits_for p h.man m on_board h.moves.target h.moves.choice) (check_ending (wide_after g m)) in
    let text = san_text s true ++ check in
    let none : castling_wing text ≡ None = no_wing text s (castling_wing text) refl read in
    ap (λ (t : List ℕ). wide_move_meant g (t ++ check) (castling_wing (t ++ check))) (text_of g m h.man h.here)
    ∙ rw (none, read) (ap only_match (alone_matches p m h.man wide.sound e h.here))
  where
    no_wing : (text : List ℕ) (s : San) (v : Option Wing) → castling_wing text ≡ v → san_of text ≡ Some s → v ≡ None
    no_wing text s None k r = refl
    no_wing text s (Some w) k r =
        let none = no_parts text w (spelled text w k) in
        absurd (let both : None ≡ Some s = sym none ∙ r in let no : ⊥ = cc in no)

pub move_again : (g : Wide) (m : Move) → IsWide g → is_wide_legal g m ≡ true → wide_move_of g (wide_move_text g m) ≡ Ok m
unfolding wide_move_text
move_again g m wide e = cases (wing_of g m) refl
  where
    cases : (v : Option Wing) → wing_of g m ≡ v → wide_move_of g (move_parts_text g m v ++ wide_check_text (wide_after g m)) ≡ Ok m
    cases (Some w) k = castling_again g m w wide k
    cases None k = plain_again g m wide (plain_legal g m k e)
