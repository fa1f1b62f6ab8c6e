-- With at most four men and no right to castle a SAN is read and written as with four men.
use Rattle.std.proofs.Common.{◌≡◌, ◌==◌, ℕ, true, false, not, ◌&&◌, inl, inr, List, [], ◌∷◌, ◌++◌, Option, Some, None}
use Rattle.std.proofs.Common.{refl, sym, ap, ◌∙◌, arith}
use Rattle.std.specs.Prelude.{Result, Err}
use Rattle.std.specs.List.{filter}
use Rattle.std.proofs.lemmas.Bool.{false≢true, and_parts, and_from, and_right, cases_Bool, eqb-true, eq-eqb, not-true, false_from_ne_true}
use Rattle.study_board.specs.declared.men.Man.{Man}
use Rattle.study_board.specs.declared.men.Side.{Side}
use Rattle.study_board.specs.declared.men.Side.TheVariants.{White, Black}
use Rattle.study_board.specs.Geometry.{file_of, rank_of}
use Rattle.study_board.specs.Men.{is_man}
use Rattle.study_board.specs.EqualLaws.{side_self, kind_self}
use Rattle.study_board.specs.Position.{Position, IsValid, man_at}
use Rattle.study_moves.specs.declared.moves.Move.{Move}
use Rattle.study_moves.specs.Rules.{is_legal, after}
use Rattle.study_moves.specs.LegalList.{legal_list, is_mate}
use Rattle.study_moves.proofs.MenOfList.{IsAmong, found_among, some_among}
use Rattle.study_moves.proofs.NoMoveBetween.{HasMover-from_is_legal}
use Rattle.study_notation.specs.declared.san.San.{San}
use Rattle.study_notation.specs.declared.fault.SanFault.{SanFault}
use Rattle.study_notation.specs.declared.fault.SanFault.TheVariants.{NoSuchMove}
use Rattle.study_notation.specs.San.{san_text}
use Rattle.study_notation.specs.SanParts.{san_of, is_castling}
use Rattle.study_notation.specs.Matching.{matches, only_match, move_meant, move_of}
use Rattle.study_notation.specs.SanSpelling.{is_rival, has_file_rival, gives_file, san_for, check_text, move_text}
use Rattle.study_notation.proofs.ThreeAlike.{not_three}
use Rattle.study_wide.specs.declared.castling.Wing.{Wing}
use Rattle.study_wide.specs.declared.castling.Wing.TheVariants.{Short, Long}
use Rattle.study_wide.specs.Rights.{no_rights, has_right}
use Rattle.study_wide.specs.Castling.{can_castle, is_castling_move}
use Rattle.study_wide.specs.Rules.{castles, wing_of, wide_after, widen}
use Rattle.study_wide.proofs.FewMen.{few_agree}
use Rattle.study_wide_text.specs.Matching.{castling_wing, wide_move_meant, wide_move_of}
use Rattle.study_wide_text.specs.SanSpelling.{has_rank_rival, gives_wide_file, wide_san_for, wide_check_text, move_parts_text, wide_move_text}
use Rattle.study_wide_text.specs.Laws.{castling_is_no_move, SanAgrees}
use Rattle.study_wide_text.proofs.CastlingTexts.{spelled, no_parts, none_castles, some_castles}

-- ---- no castling

no_right : (s : Side) (w : Wing) → has_right no_rights s w ≡ false
no_right White Short = refl
no_right White Long = refl
no_right Black Short = refl
no_right Black Long = refl

cannot_castle : (p : Position) (w : Wing) → can_castle (widen p) w ≡ false
unfolding can_castle
cannot_castle p w = rw (no_right p.to_move w) refl

no_castling : (p : Position) (m : Move) (w : Wing) → castles (widen p) m w ≡ false
no_castling p m w = and_right (is_castling_move p.to_move w m) (can_castle (widen p) w) (cannot_castle p w)

no_wing : (p : Position) (m : Move) → wing_of (widen p) m ≡ None
no_wing p m = rw (no_castling p m Short, no_castling p m Long) refl

-- ---- what is read

abbrev no_such_move : Result Move SanFault
no_such_move = Err NoSuchMove

list_as_is : (ms : List Move) → only_match ms ≡ castling_is_no_move (only_match ms)
list_as_is [] = refl
list_as_is (m ∷ []) = refl
list_as_is (m ∷ n ∷ ms) = refl

plain_read : (p : Position) (text : List ℕ) → is_castling text ≡ false → move_of p text ≡ castling_is_no_move (move_of p text)
unfolding move_of
plain_read p text none = go (san_of text)
  where
    go : (o : Option San) → move_meant p text o ≡ castling_is_no_move (move_meant p text o)
    go (Some s) = list_as_is (filter (matches p s) (legal_list p))
    go None = rw none refl

castling_read : (p : Position) (text : List ℕ) (w : Wing) → castling_wing text ≡ Some w → no_such_move ≡ castling_is_no_move (move_of p text)
unfolding move_of
castling_read p text w e =
    let said = spelled text w e in
    let parts = no_parts text w said in
    let castling = some_castles text w said in
    rw (parts, castling) refl

read_same : (p : Position) (text : List ℕ) → wide_move_of (widen p) text ≡ castling_is_no_move (move_of p text)
unfolding wide_move_of
read_same p text = go (castling_wing text) refl
  where
    go : (o : Option Wing) → castling_wing text ≡ o → wide_move_meant (widen p) text o ≡ castling_is_no_move (move_of p text)
    go None e = plain_read p text (none_castles text e)
    go (Some w) e = let may = cannot_castle p w in rw may (castling_read p text w e)

-- ---- what is written

rival_parts : (p : Position) (man o : Man) (x : ℕ) → is_rival p man x o ≡ true → (o.at ≡ man.at → ⊥) × (is_man man.side man.kind o ≡ true)
unfolding is_rival
rival_parts p man o x e =
    let a = and_parts (not (o.at == man.at) && is_man man.side man.kind o) _ e in
    let b = and_parts (not (o.at == man.at)) (is_man man.side man.kind o) a.0 in
    (λ s. false≢true (sym (not-true (o.at == man.at) b.0) ∙ eq-eqb _ _ s), b.1)

same_square_by : (a b : ℕ) → file_of a ≡ file_of b → rank_of a ≡ rank_of b → a ≡ b
same_square_by a b f r = omega arith

-- of four men no two are rivals of a third
not_both : (p : Position) (man : Man) (x : ℕ) → IsValid p → IsAmong man p.men → has_file_rival p man x ≡ true → has_rank_rival p man x ≡ false
unfolding has_file_rival has_rank_rival
not_both p man x valid among f = false_from_ne_true _ (λ r.
    let a = some_among (λ o. is_rival p man x o && file_of o.at == file_of man.at) p.men f in
    let b = some_among (λ o. is_rival p man x o && rank_of o.at == rank_of man.at) p.men r in
    let c = and_parts (is_rival p man x a.0) (file_of a.0.at == file_of man.at) a.2 in
    let d = and_parts (is_rival p man x b.0) (rank_of b.0.at == rank_of man.at) b.2 in
    let k = rival_parts p man a.0 x c.0 in
    let l = rival_parts p man b.0 x d.0 in
    let file = eqb-true (file_of a.0.at) (file_of man.at) c.1 in
    let rank = eqb-true (rank_of b.0.at) (rank_of man.at) d.1 in
    let apart : a.0.at ≡ b.0.at → ⊥ = λ s. k.0 (same_square_by a.0.at man.at file (ap rank_of s ∙ rank)) in
    not_three p valid man.side man.kind man a.0 b.0 among a.1 b.1 (and_from _ _ (side_self man.side) (kind_self man.kind)) k.1 l.1
    (λ s. k.0 (sym s)) (λ s. l.0 (sym s)) apart)

file_same : (p : Position) (man : Man) (x : ℕ) → IsValid p → IsAmong man p.men → gives_wide_file p man x ≡ gives_file p man x
unfolding gives_wide_file gives_file
file_same p man x valid among = elim (cases_Bool (has_file_rival p man x)) [
  | inl shared ↦ (let none = not_both p man x valid among shared in rw (shared, none) refl)
  | inr free ↦ rw free refl
]

san_same : (p : Position) (man : Man) (m : Move) → IsValid p → IsAmong man p.men → wide_san_for p man m ≡ san_for p man m
unfolding wide_san_for san_for
san_same p man m valid among = let e = file_same p man m.target valid among in rw e refl

check_same : (p : Position) → wide_check_text (widen p) ≡ check_text p
unfolding wide_check_text check_text is_mate
check_same p = let e = (few_agree p).listed in rw e refl

parts_same : (p : Position) (m : Move) (man : Man) → IsValid p → man_at p.men m.origin ≡ Some man
    → move_parts_text (widen p) m None ++ check_text (after p m) ≡ move_text p m
unfolding move_text
parts_same p m man valid here =
    let among = (found_among p.men m.origin man here).0 in
    rw here (ap (λ (s : San). san_text s true ++ check_text (after p m)) (san_same p man m valid among))

written_same : (p : Position) (m : Move) → IsValid p → is_legal p m ≡ true → wide_move_text (widen p) m ≡ move_text p m
unfolding wide_move_text
written_same p m valid legal =
    let h = HasMover-from_is_legal p m legal in
    let next : wide_check_text (wide_after (widen p) m) ≡ check_text (after p m) = ap wide_check_text ((few_agree p).after m) ∙ check_same (after p m) in
    rw (no_wing p m, next) (parts_same p m h.man valid h.here)

pub san_agree : SanAgrees
san_agree = record { read = read_same; written = written_same }
