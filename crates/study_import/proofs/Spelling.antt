-- The texts of moves, of starts and of paths are printable words.
use Rattle.std.proofs.Common.{◌≡◌, ℕ, zero, suc, ◌+◌, ◌*◌, ◌/◌, ◌<◌, ◌≤◌, Bool, true, false, List, [], ◌∷◌, ◌++◌, length, Option, Some, None, refl}
use Rattle.std.proofs.Common.{sym, ap, subst, inl, inr, arith, length-append, append_assoc}
use Rattle.std.specs.Prelude.{IfSome, decimal, ◌==◌, if◌then◌else◌}
use Rattle.std.proofs.lemmas.Bool.{cases_Bool, eqb-true, and_parts, ltb-false}
use Rattle.std.proofs.lemmas.Fmt.{length-decimal-le, decimal_nonempty}
use Rattle.study_board.specs.declared.men.Side.{Side}
use Rattle.study_board.specs.declared.men.Side.TheVariants.{White, Black}
use Rattle.study_board.specs.declared.men.Kind.{Kind}
use Rattle.study_board.specs.declared.men.Kind.TheVariants.{King, Queen, Rook, Bishop, Knight, Pawn}
use Rattle.study_board.specs.declared.men.Man.{Man}
use Rattle.study_board.specs.Geometry.{file_of, rank_of}
use Rattle.study_board.specs.Position.{Position, IsValid, man_at, in_check, passed_possible, could_be_passed}
use Rattle.study_board.proofs.Valid.{IsFaultless-from_first}
use Rattle.study_moves.specs.declared.moves.Move.{Move}
use Rattle.study_moves.specs.Rules.{is_legal, after}
use Rattle.study_moves.specs.LegalList.{is_mate}
use Rattle.study_moves.proofs.MenOfList.{found_among, All-among}
use Rattle.study_moves.proofs.NoMoveBetween.{HasMover-from_is_legal}
use Rattle.study_notation.specs.declared.san.San.{San}
use Rattle.study_notation.specs.declared.placement.Piece.{Piece}
use Rattle.study_notation.specs.declared.start.Start.{Start}
use Rattle.study_notation.specs.San.{kind_text, file_text, rank_text, takes_text, promotion_text, san_text}
use Rattle.study_notation.specs.FenSpelling.{man_letter, row, run, squares_text, rank_field, ranks_text, placement_text, side_text, square_text}
use Rattle.study_notation.specs.FenSpelling.{passed_text, fen_text}
use Rattle.study_notation.specs.SanSpelling.{gives_file, gives_rank, san_for, check_text, move_text}
use Rattle.study_notation.proofs.FenStarts.{IsRead}
use Rattle.study_notation.proofs.RowText.{placement_is_short}
use Rattle.study_text.specs.Paths.{path_text, more_places}
use Rattle.study_import.proofs.Ink.{Ink, Print, ink_append, ink_prints, print_append, decimal_ink}

-- a word of at most n bytes
pub record IsShort (n : ℕ) (w : List ℕ) : Type 0 where
  pub ink : Ink w
  pub few : length w ≤ n

-- ---- moves

-- a text of at most so many bytes, then a word
pub both : (m n : ℕ) (xs ys : List ℕ) → IsShort m xs → IsShort n ys → IsShort (m + n) (xs ++ ys)
both m n xs ys h k = record { ink = ink_append xs ys h.ink k.ink; few = omega (arith, length-append xs ys, h.few, k.few) }

kind_short : (k : Kind) → IsShort 1 (kind_text k)
kind_short King = record { ink = (omega arith, omega arith, tt); few = omega arith }
kind_short Queen = record { ink = (omega arith, omega arith, tt); few = omega arith }
kind_short Rook = record { ink = (omega arith, omega arith, tt); few = omega arith }
kind_short Bishop = record { ink = (omega arith, omega arith, tt); few = omega arith }
kind_short Knight = record { ink = (omega arith, omega arith, tt); few = omega arith }
kind_short Pawn = record { ink = tt; few = omega arith }

file_short : (f : Option ℕ) → IfSome f (λ n. n < 8) → IsShort 1 (file_text f)
file_short None h = record { ink = tt; few = omega arith }
file_short (Some n) h = record { ink = (omega arith, omega arith, tt); few = omega arith }

rank_short : (f : Option ℕ) → IfSome f (λ n. n < 8) → IsShort 1 (rank_text f)
rank_short None h = record { ink = tt; few = omega arith }
rank_short (Some n) h = record { ink = (omega arith, omega arith, tt); few = omega arith }

takes_short : (b : Bool) → IsShort 1 (takes_text b)
takes_short false = record { ink = tt; few = omega arith }
takes_short true = record { ink = (omega arith, omega arith, tt); few = omega arith }

square_short : (at : ℕ) → at < 64 → IsShort 2 (square_text at)
square_short at lt = record { ink = (omega arith, omega arith, (omega arith, omega arith, tt)); few = omega arith }

promotion_short : (q : Option Kind) → IsShort 2 (promotion_text true q)
promotion_short None = record { ink = tt; few = omega arith }
promotion_short (Some k) = let h = kind_short k in record { ink = (omega arith, omega arith, h.ink); few = omega (arith, h.few) }

check_short : (p : Position) → IsShort 1 (check_text p)
unfolding check_text
check_short p = elim (cases_Bool (is_mate p)) [
  | inl mate ↦ rw mate (record { ink = (omega arith, omega arith, tt); few = omega arith })
  | inr none ↦ elim (cases_Bool (in_check p.men p.to_move)) [
    | inl check ↦ rw (none, check) (record { ink = (omega arith, omega arith, tt); few = omega arith })
    | inr safe ↦ rw (none, safe) (record { ink = tt; few = omega arith })
  ]
]

pub some_below : (b : Bool) (n k : ℕ) → n < k → IfSome (if b then Some n else None) (λ f. f < k)
some_below true n k lt = lt
some_below false n k lt = tt

pub san_short : (s : San) → IfSome s.file (λ f. f < 8) → IfSome s.rank (λ r. r < 8) → s.target < 64 → IsShort 8 (san_text s true)
san_short s file rank target =
    both 1 7 (kind_text s.kind) _ (kind_short s.kind)
    (both 1 6 (file_text s.file) _ (file_short s.file file)
    (both 1 5 (rank_text s.rank) _ (rank_short s.rank rank)
    (both 1 4 (takes_text s.is_capture) _ (takes_short s.is_capture)
    (both 2 2 (square_text s.target) (promotion_text true s.promoted) (square_short s.target target) (promotion_short s.promoted)))))

written : (p : Position) (man : Man) (m : Move) → man.at < 64 → m.target < 64 → IsShort 8 (san_text (san_for p man m) true)
unfolding san_for
written p man m at target =
    san_short (san_for p man m) (some_below (gives_file p man m.target) (file_of man.at) 8 (omega arith))
    (some_below (gives_rank p man m.target) (rank_of man.at) 8 (omega arith)) target

text_of : (p : Position) (m : Move) (man : Man) → man_at p.men m.origin ≡ Some man → move_text p m ≡ san_text (san_for p man m) true ++ check_text (after p m)
unfolding move_text
text_of p m man e = rw e refl

-- the text of a legal move
pub move_short : (p : Position) (m : Move) → IsValid p → is_legal p m ≡ true → IsShort 9 (move_text p m)
move_short p m valid e =
    let h = HasMover-from_is_legal p m e in
    let at = All-among (λ x. x.at < 64) p.men h.man valid.on_board (found_among p.men m.origin h.man h.here).0 in
    subst (λ (t : List ℕ). IsShort 9 t) (sym (text_of p m h.man h.here))
    (both 8 1 (san_text (san_for p h.man m) true) (check_text (after p m)) (written p h.man m at h.moves.target) (check_short (after p m)))

pub square_some : (s : San) → 0 < length (san_text s true)
square_some s =
    let a = length-append (kind_text s.kind) (file_text s.file
    ++ (rank_text s.rank ++ (takes_text s.is_capture ++ (square_text s.target ++ promotion_text true s.promoted)))) in
    let b = length-append (file_text s.file) (rank_text s.rank ++ (takes_text s.is_capture ++ (square_text s.target ++ promotion_text true s.promoted))) in
    let c = length-append (rank_text s.rank) (takes_text s.is_capture ++ (square_text s.target ++ promotion_text true s.promoted)) in
    let d = length-append (takes_text s.is_capture) (square_text s.target ++ promotion_text true s.promoted) in
    omega (arith, a, b, c, d)

pub move_some : (p : Position) (m : Move) → is_legal p m ≡ true → 0 < length (move_text p m)
move_some p m e =
    let h = HasMover-from_is_legal p m e in
    subst (λ (t : List ℕ). 0 < length t) (sym (text_of p m h.man h.here))
    (omega (arith, length-append (san_text (san_for p h.man m) true) (check_text (after p m)), square_some (san_for p h.man m)))

-- ---- starts

letter_ink : (s : Side) (k : Kind) → (32 < man_letter s k) × (man_letter s k ≤ 126)
letter_ink White King = (omega arith, omega arith)
letter_ink White Queen = (omega arith, omega arith)
letter_ink White Rook = (omega arith, omega arith)
letter_ink White Bishop = (omega arith, omega arith)
letter_ink White Knight = (omega arith, omega arith)
letter_ink White Pawn = (omega arith, omega arith)
letter_ink Black King = (omega arith, omega arith)
letter_ink Black Queen = (omega arith, omega arith)
letter_ink Black Rook = (omega arith, omega arith)
letter_ink Black Bishop = (omega arith, omega arith)
letter_ink Black Knight = (omega arith, omega arith)
letter_ink Black Pawn = (omega arith, omega arith)

run_ink : (n : ℕ) → n ≤ 8 → Ink (run n)
run_ink n le = elim (cases_Bool (n == 0)) [ inl hit ↦ rw hit tt | inr miss ↦ rw miss (omega arith, omega arith, tt) ]

spelled_ink : (n : ℕ) (cells : List (Option Piece)) → n + length cells ≤ 8 → Ink (squares_text n cells)
spelled_ink n [] le = run_ink n (omega arith)
spelled_ink n (None ∷ cells) le = spelled_ink (n + 1) cells (omega arith)
spelled_ink n (Some p ∷ cells) le =
    let l = letter_ink p.side p.kind in
    ink_append (run n) (man_letter p.side p.kind ∷ squares_text 0 cells) (run_ink n (omega arith)) (l.0, l.1, spelled_ink 0 cells (omega arith))

row_length : (men : List Man) (at n : ℕ) → length (row men at n) ≡ n
row_length men at zero = refl
row_length men at (suc n) = omega (arith, row_length men (at + 1) n)

rank_ink : (men : List Man) (rank : ℕ) → Ink (rank_field men rank)
unfolding rank_field
rank_ink men rank = spelled_ink 0 (row men (8 * rank) 8) (omega (arith, row_length men (8 * rank) 8))

ranks_ink : (men : List Man) (k : ℕ) → Ink (ranks_text men k)
unfolding ranks_text
ranks_ink men zero = rank_ink men 0
ranks_ink men (suc k) = ink_append (rank_field men (suc k)) (47 ∷ ranks_text men k) (rank_ink men (suc k)) (omega arith, omega arith, ranks_ink men k)

ranks_some : (men : List Man) (k : ℕ) → 0 < length (ranks_text men (suc k))
unfolding ranks_text
ranks_some men k = omega (arith, length-append (rank_field men (suc k)) (47 ∷ ranks_text men k))

pub placement_ink : (men : List Man) → Ink (placement_text men) × (0 < length (placement_text men))
unfolding placement_text
placement_ink men = (ranks_ink men 7, ranks_some men 6)

pub passed_in : (p : Option ℕ) → IfSome p (λ at. at < 64) → Ink (passed_text p)
passed_in None h = (omega arith, omega arith, tt)
passed_in (Some at) h = (omega arith, omega arith, (omega arith, omega arith, tt))

pub side_ink : (s : Side) → Ink (side_text s)
side_ink White = (omega arith, omega arith, tt)
side_ink Black = (omega arith, omega arith, tt)

pub passed_on : (men : List Man) (s : Side) (q : Option ℕ) → passed_possible men s q ≡ true → IfSome q (λ at. at < 64)
unfolding could_be_passed
passed_on men s None e = tt
passed_on men White (Some x) e =
    let rank = eqb-true (x / 8) 5 ((and_parts _ _ ((and_parts _ _ ((and_parts _ _ e).0)).0)).0) in
    omega arith
passed_on men Black (Some x) e =
    let rank = eqb-true (x / 8) 2 ((and_parts _ _ ((and_parts _ _ ((and_parts _ _ e).0)).0)).0) in
    omega arith

counted : (n : ℕ) → n ≤ 9999 → IsShort 4 (decimal n)
counted n le = record { ink = decimal_ink n; few = length-decimal-le 4 n (omega arith) (omega arith) (omega arith) }

-- two words
pub spaced : (xs ys : List ℕ) → Ink xs → Print ys → Print (xs ++ (32 ∷ ys))
spaced xs ys h k = print_append xs (32 ∷ ys) (ink_prints xs h) (omega arith, omega arith, k)

-- the text of a start: printable words, the last of which is the number
pub record IsFen (t : List ℕ) : Type 0 where
  pub first : ℕ
  pub rest : List ℕ
  pub front : List ℕ
  pub last : List ℕ
  pub begins : t ≡ first ∷ rest
  pub no_space : 32 < first
  pub ends : t ≡ front ++ last
  pub inked : Ink last
  pub some : 0 < length last
  pub prints : Print t
  pub few : length t ≤ 60

pub first_of : (xs : List ℕ) → Ink xs → 0 < length xs → (b : ℕ) × (bs : List ℕ) × (xs ≡ b ∷ bs) × (32 < b)
first_of [] h some = absurd (omega arith)
first_of (b ∷ bs) h some = (b, bs, refl, h.0)

pub regrouped : (a b c d e f : List ℕ) → a ++ (32 ∷ (b ++ (32 ∷ (c ++ (32 ∷ (d ++ (32 ∷ (e ++ (32 ∷ f)))))))))
    ≡ (a ++ (32 ∷ (b ++ (32 ∷ (c ++ (32 ∷ (d ++ (32 ∷ (e ++ 32 ∷ []))))))))) ++ f
regrouped a b c d e f = simp append_assoc

pub longs : (a b c d e f : List ℕ) → length (a ++ (32 ∷ (b ++ (32 ∷ (c ++ (32 ∷ (d ++ (32 ∷ (e ++ (32 ∷ f))))))))))
    ≡ length a + length b + length c + length d + length e + length f + 5
longs a b c d e f = simp length-append (omega arith)

pub side_few : (s : Side) → length (side_text s) ≤ 1
side_few White = omega arith
side_few Black = omega arith

pub passed_few : (q : Option ℕ) → length (passed_text q) ≤ 2
passed_few None = omega arith
passed_few (Some at) = omega arith

pub fen_is : (s : Start) → IsRead s → IsFen (fen_text s)
unfolding fen_text
fen_is s r =
    let men = s.position.men in
    let p = placement_ink men in
    let q = passed_in s.position.passed (passed_on men s.position.to_move s.position.passed
    (IsFaultless-from_first men s.position.to_move s.position.passed r.valid.faultless).possible) in
    let c = counted s.clock r.clock in
    let n = counted s.number r.number in
    let some = decimal_nonempty s.number (omega (arith, r.number)) in
    let b = first_of (placement_text men) p.0 p.1 in
    let few = ltb-false 4 (length men) (IsFaultless-from_first men s.position.to_move s.position.passed r.valid.faultless).few in
    record {
      first = b.0;
      rest = b.1 ++ (32 ∷ (side_text s.position.to_move
          ++ (32 ∷ ((45 ∷ []) ++ (32 ∷ (passed_text s.position.passed ++ (32 ∷ (decimal s.clock ++ (32 ∷ decimal s.number)))))))));
      front = placement_text men ++ (32 ∷ (side_text s.position.to_move
          ++ (32 ∷ ((45 ∷ []) ++ (32 ∷ (passed_text s.position.passed ++ (32 ∷ (decimal s.clock ++ 32 ∷ []))))))));
      last = decimal s.number;
      begins = ap (λ (t : List ℕ). t ++ (32 ∷ (side_text s.position.to_move
          ++ (32 ∷ ((45 ∷ []) ++ (32 ∷ (passed_text s.position.passed ++ (32 ∷ (decimal s.clock ++ (32 ∷ decimal s.number)))))))))) b.2;
      no_space = b.3;
      ends = regrouped (placement_text men) (side_text s.position.to_move) (45 ∷ []) (passed_text s.position.passed) (decimal s.clock) (decimal s.number);
      inked = n.ink;
      some = some;
      prints = spaced (placement_text men) _ p.0 (spaced (side_text s.position.to_move) _ (side_ink s.position.to_move)
          (spaced (45 ∷ []) _ (omega arith, omega arith, tt)
          (spaced (passed_text s.position.passed) _ q (spaced (decimal s.clock) _ c.ink (ink_prints (decimal s.number) n.ink)))));
      few = omega (
        arith,
        longs (placement_text men) (side_text s.position.to_move) (45 ∷ []) (passed_text s.position.passed) (decimal s.clock) (decimal s.number),
        placement_is_short men few,
        side_few s.position.to_move,
        passed_few s.position.passed,
        c.few,
        n.few,
      );
    }

-- ---- paths

abbrev pub AllBelow : ℕ → List ℕ → Type 0
AllBelow n [] = Unit {0}
AllBelow n (k ∷ ks) = (k < n) × AllBelow n ks

place_short : (k : ℕ) → k < 62 → IsShort 2 (decimal k)
place_short k lt = record { ink = decimal_ink k; few = length-decimal-le 2 k (omega arith) (omega arith) (omega arith) }

places_short : (ks : List ℕ) → AllBelow 62 ks → IsShort (3 * length ks) (more_places ks)
places_short [] h = record { ink = tt; few = omega arith }
places_short (k ∷ ks) h =
    let p = place_short k h.0 in
    let q = places_short ks h.1 in
    record {
      ink = (omega arith, omega arith, ink_append (decimal k) (more_places ks) p.ink q.ink);
      few = omega (arith, length-append (decimal k) (more_places ks), p.few, q.few);
    }

pub path_short : (ks : List ℕ) → AllBelow 62 ks → IsShort (3 * length ks + 4) (path_text ks)
unfolding path_text
path_short [] h = record {
  ink = (omega arith, omega arith, (omega arith, omega arith, (omega arith, omega arith, (omega arith, omega arith, tt))));
  few = omega arith;
}
path_short (k ∷ ks) h =
    let p = place_short k h.0 in
    let q = places_short ks h.1 in
    record {
      ink = ink_append (decimal k) (more_places ks) p.ink q.ink;
      few = omega (arith, length-append (decimal k) (more_places ks), p.few, q.few);
    }

pub path_some : (n : ℕ) (ks : List ℕ) → n ≤ 1000 → AllBelow n ks → 0 < length (path_text ks)
unfolding path_text
path_some n [] le h = omega arith
path_some n (k ∷ ks) le h = let lt = h.0 in omega (arith, length-append (decimal k) (more_places ks), decimal_nonempty k (omega arith))
