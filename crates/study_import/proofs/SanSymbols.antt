-- The text of a move is a symbol that is read as that move.
use Rattle.std.proofs.Common.{◌≡◌, ℕ, ◌+◌, ◌-◌, ◌/◌, ◌%◌, ◌<◌, ◌≤◌, Bool, true, false, List, [], ◌∷◌, ◌++◌, length, take, Option, Some, None, Ok}
use Rattle.std.proofs.Common.{refl, sym, ap, subst, ◌∙◌, inl, inr, arith, length-append, append_assoc}
use Rattle.std.specs.Prelude.{◌==◌, ◌&&◌, ◌||◌, not, nat_le, slice_index, codes, IfSome, if◌then◌else◌}
use Rattle.std.specs.List.{list_all, flat_map}
use Rattle.std.specs.Str.{bytes_eq}
use Rattle.std.proofs.lemmas.Bool.{false≢true, cases_Bool, ne_eqb, le-leb, leb-true, lt-leb, and_parts, and_from, or_from, or_parts, leb-false}
use Rattle.std.proofs.lemmas.Bool.{false_from_ne_true, agree_below, agree_below_at}
use Rattle.std.proofs.lemmas.List.Folds.{list_all-append}
use Rattle.std.proofs.lemmas.List.{append-nil, get_or_at}
use Rattle.std.proofs.lemmas.Slice.Eq.{bytes_eq-Decides}
use Rattle.study_board.specs.declared.men.Kind.{Kind}
use Rattle.study_board.specs.declared.men.Kind.TheVariants.{King, Queen, Rook, Bishop, Knight, Pawn}
use Rattle.study_board.specs.declared.men.Man.{Man}
use Rattle.study_board.specs.Geometry.{file_of, rank_of}
use Rattle.study_board.specs.Position.{Position, IsValid, man_at, in_check}
use Rattle.study_moves.specs.declared.moves.Move.{Move}
use Rattle.study_moves.specs.Rules.{is_legal, is_promotion_choice, is_promotion_piece, reaches_last_rank, after}
use Rattle.study_moves.specs.LegalList.{is_mate}
use Rattle.study_moves.proofs.MenOfList.{found_among, All-among}
use Rattle.study_moves.proofs.NoMoveBetween.{HasMover-from_is_legal}
use Rattle.study_notation.specs.declared.san.San.{San}
use Rattle.study_notation.specs.San.{Fits, kind_text, file_text, rank_text, takes_text, promotion_text, san_text}
use Rattle.study_notation.specs.FenSpelling.{square_text}
use Rattle.study_notation.specs.SanParts.{san_of}
use Rattle.study_notation.specs.Matching.{only_match, move_meant, move_of}
use Rattle.study_notation.specs.SanSpelling.{gives_file, gives_rank, san_for, check_text, move_text}
use Rattle.study_notation.proofs.SanAgain.{san_again}
use Rattle.study_notation.proofs.OneMoveAgrees.{alone_matches}
use Rattle.study_games.specs.Bytes.{is_digit, is_tail, begins_symbol}
use Rattle.study_games.proofs.Lexing.{is_plain_symbol}
use Rattle.study_games.specs.declared.symbols.Said.TheVariants.{Word as WordSaid, Move as MoveSaid}
use Rattle.study_games.specs.Symbols.{has_figurine, with_letters, half, said_of, without_end, without_tail, without_passing, without_pawn, plain_bytes}
use Rattle.study_games.specs.Symbols.{plain_spelling, san_in, is_word_byte, is_word}
use Rattle.study_marks.specs.Edits.{is_printable}

-- ---- the bytes of a SAN text

-- ranks, files, `x`, and the letters of pieces
is_start : ℕ → Bool
is_start b = (nat_le 49 b && nat_le b 56) || ((nat_le 97 b && nat_le b 104) || (b == 120 || ((b == 75 || b == 81) || (b == 82 || (b == 66 || b == 78)))))

-- and `=`
is_san_byte : ℕ → Bool
is_san_byte b = is_start b || b == 61

-- with the marks of check
is_text_byte : ℕ → Bool
is_text_byte b = is_san_byte b || (b == 43 || b == 35)

abbrev AllSan : List ℕ → Type 0
AllSan xs = list_all is_san_byte xs ≡ true

all_append : (q : ℕ → Bool) (xs ys : List ℕ) → list_all q xs ≡ true → list_all q ys ≡ true → list_all q (xs ++ ys) ≡ true
all_append q xs ys h k = list_all-append q xs ys ∙ and_from (list_all q xs) (list_all q ys) h k

abbrev AllStart : List ℕ → Type 0
AllStart xs = list_all is_start xs ≡ true

kind_start : (k : Kind) → AllStart (kind_text k)
unfolding is_start
kind_start King = refl
kind_start Queen = refl
kind_start Rook = refl
kind_start Bishop = refl
kind_start Knight = refl
kind_start Pawn = refl

file_byte : (f : ℕ) → f < 8 → is_start (97 + f) ≡ true
unfolding is_start
file_byte f lt = rw (le-leb 49 (97 + f) (omega arith), lt-leb (97 + f) 56 (omega arith), le-leb 97 (97 + f) (omega arith), le-leb (97 + f) 104 (omega arith))
    refl

rank_byte : (r : ℕ) → r < 8 → is_start (49 + r) ≡ true
unfolding is_start
rank_byte r lt = rw (le-leb 49 (49 + r) (omega arith), le-leb (49 + r) 56 (omega arith)) refl

file_start : (f : Option ℕ) → IfSome f (λ n. n < 8) → AllStart (file_text f)
file_start None h = refl
file_start (Some n) h = rw (file_byte n h) refl

rank_start : (f : Option ℕ) → IfSome f (λ n. n < 8) → AllStart (rank_text f)
rank_start None h = refl
rank_start (Some n) h = rw (rank_byte n h) refl

takes_start : (b : Bool) → AllStart (takes_text b)
unfolding is_start
takes_start false = refl
takes_start true = refl

square_start : (at : ℕ) → at < 64 → AllStart (square_text at)
square_start at lt = rw (file_byte (at % 8) (omega arith), rank_byte (at / 8) (omega arith)) refl

start_san : (xs : List ℕ) → AllStart xs → AllSan xs
unfolding is_san_byte
start_san [] h = refl
start_san (x ∷ xs) h = let a = and_parts (is_start x) (list_all is_start xs) h in rw a.0 (start_san xs a.1)

-- the part before a promotion
before_promotion : San → List ℕ
before_promotion s = kind_text s.kind ++ (file_text s.file ++ (rank_text s.rank ++ (takes_text s.is_capture ++ square_text s.target)))

before_start : (s : San) → Fits s → AllStart (before_promotion s)
unfolding before_promotion
before_start s f =
    all_append is_start (kind_text s.kind) _ (kind_start s.kind)
    (all_append is_start (file_text s.file) _ (file_start s.file f.file)
    (all_append is_start (rank_text s.rank) _ (rank_start s.rank f.rank)
    (all_append is_start (takes_text s.is_capture) (square_text s.target) (takes_start s.is_capture) (square_start s.target f.target))))

before_is : (s : San) → san_text s true ≡ before_promotion s ++ promotion_text true s.promoted
unfolding before_promotion
before_is s = regroup (kind_text s.kind) (file_text s.file) (rank_text s.rank) (takes_text s.is_capture) (square_text s.target) (promotion_text true s.promoted)
  where
    regroup : (a b c d e f : List ℕ) → a ++ (b ++ (c ++ (d ++ (e ++ f)))) ≡ (a ++ (b ++ (c ++ (d ++ e)))) ++ f
    regroup a b c d e f = simp append_assoc

before_some : (s : San) → 0 < length (before_promotion s)
unfolding before_promotion
before_some s =
    omega (
      arith,
      length-append (kind_text s.kind) (file_text s.file ++ (rank_text s.rank ++ (takes_text s.is_capture ++ square_text s.target))),
      length-append (file_text s.file) (rank_text s.rank ++ (takes_text s.is_capture ++ square_text s.target)),
      length-append (rank_text s.rank) (takes_text s.is_capture ++ square_text s.target),
      length-append (takes_text s.is_capture) (square_text s.target),
    )

promotion_san : (q : Option Kind) → AllSan (promotion_text true q)
unfolding is_san_byte is_start
promotion_san None = refl
promotion_san (Some King) = refl
promotion_san (Some Queen) = refl
promotion_san (Some Rook) = refl
promotion_san (Some Bishop) = refl
promotion_san (Some Knight) = refl
promotion_san (Some Pawn) = refl

san_bytes : (s : San) → Fits s → AllSan (san_text s true)
san_bytes s f =
    subst AllSan (sym (before_is s))
    (all_append is_san_byte (before_promotion s) (promotion_text true s.promoted) (start_san (before_promotion s) (before_start s f))
    (promotion_san s.promoted))

-- ---- kinds that these bytes do not have, by a table

unlike : (q : ℕ → Bool) (wrong : ℕ → Bool) → agree_below (λ b. q b && wrong b) (λ _. false) 128 ≡ true → ((b : ℕ) → q b ≡ true → b < 128) → (b : ℕ)
    → q b ≡ true → wrong b ≡ false
unlike q wrong table low b h =
    let both = agree_below_at (λ b. q b && wrong b) (λ _. false) 128 b table (low b h) in
    rw h at both

text_low : (b : ℕ) → is_text_byte b ≡ true → b < 128
unfolding is_text_byte is_san_byte is_start
text_low b h = elim (cases_Bool (nat_le 128 b)) [
  | inl high ↦ absurd (false≢true (sym (no_high b (leb-true 128 b high)) ∙ h))
  | inr low ↦ omega (arith, leb-false 128 b low)
]
  where
    no_high : (b : ℕ) → 128 ≤ b → is_text_byte b ≡ false
    no_high b le =
        rw (
          le-leb 49 b (omega arith),
          lt-leb b 56 (omega arith),
          le-leb 97 b (omega arith),
          lt-leb b 104 (omega arith),
          ne_eqb b 120 (λ e. omega arith),
          ne_eqb b 75 (λ e. omega arith),
          ne_eqb b 81 (λ e. omega arith),
          ne_eqb b 82 (λ e. omega arith),
          ne_eqb b 66 (λ e. omega arith),
          ne_eqb b 78 (λ e. omega arith),
          ne_eqb b 61 (λ e. omega arith),
          ne_eqb b 43 (λ e. omega arith),
          ne_eqb b 35 (λ e. omega arith),
        ) refl

san_text_byte : (b : ℕ) → is_san_byte b ≡ true → is_text_byte b ≡ true
unfolding is_text_byte
san_text_byte b h = rw h refl

san_low : (b : ℕ) → is_san_byte b ≡ true → b < 128
san_low b h = text_low b (san_text_byte b h)

-- `-`, `:`, `/`, and the first bytes of castling or a pawn's `P`
is_odd : ℕ → Bool
is_odd b = (b == 45 || b == 58) || (b == 47 || (b == 80 || (b == 79 || b == 48)))

odd_table : agree_below (λ b. is_san_byte b && is_odd b) (λ _. false) 128 ≡ true
unfolding is_san_byte is_start is_odd
odd_table = refl

not_odd : (b : ℕ) → is_san_byte b ≡ true → is_odd b ≡ false
not_odd b h = unlike is_san_byte is_odd odd_table san_low b h

record Plain_byte (b : ℕ) : Type 0 where
  dash : (b == 45) ≡ false
  colon : (b == 58) ≡ false
  stroke : (b == 47) ≡ false
  pawn : (b == 80) ≡ false
  letter_o : (b == 79) ≡ false
  nought : (b == 48) ≡ false

plain_of : (b : ℕ) → is_odd b ≡ false → Plain_byte b
unfolding is_odd
plain_of b h =
    let a = or_parts (b == 45 || b == 58) (b == 47 || (b == 80 || (b == 79 || b == 48))) h in
    let c = or_parts (b == 45) (b == 58) a.0 in
    let d = or_parts (b == 47) (b == 80 || (b == 79 || b == 48)) a.1 in
    let e = or_parts (b == 80) (b == 79 || b == 48) d.1 in
    let f = or_parts (b == 79) (b == 48) e.1 in
    record { dash = c.0; colon = c.1; stroke = d.0; pawn = e.0; letter_o = f.0; nought = f.1 }

san_plain : (b : ℕ) → is_san_byte b ≡ true → Plain_byte b
san_plain b h = plain_of b (not_odd b h)

-- ---- letters and dashes

spelled_by : (xs : List ℕ) → AllSan xs → flat_map (plain_bytes false) xs ≡ xs
spelled_by [] h = refl
spelled_by (b ∷ bs) h =
    let a = and_parts (is_san_byte b) (list_all is_san_byte bs) h in
    let p = san_plain b a.0 in
    rw (p.dash, p.colon, p.stroke) (ap (λ (t : List ℕ). b ∷ t) (spelled_by bs a.1))

spelled_same : (xs : List ℕ) → AllSan xs → plain_spelling xs ≡ xs
spelled_same [] h = refl
spelled_same (b ∷ bs) h =
    let a = and_parts (is_san_byte b) (list_all is_san_byte bs) h in
    let p = san_plain b a.0 in
    ap (λ (c : Bool). flat_map (plain_bytes c) (b ∷ bs)) (or_from (b == 79) (b == 48) p.letter_o p.nought) ∙ spelled_by (b ∷ bs) h

pawn_same : (xs : List ℕ) → AllSan xs → without_pawn xs ≡ xs
pawn_same [] h = refl
pawn_same (b ∷ bs) h = rw (san_plain b (and_parts (is_san_byte b) (list_all is_san_byte bs) h).0).pawn refl

lettered_same : (xs : List ℕ) → list_all is_text_byte xs ≡ true → with_letters xs ≡ xs
lettered_same [] h = refl
lettered_same (a ∷ []) h = refl
lettered_same (a ∷ b ∷ []) h = refl
lettered_same (a ∷ b ∷ c ∷ bs) h =
    let p = and_parts (is_text_byte a) (list_all is_text_byte (b ∷ c ∷ bs)) h in
    let low = text_low a p.0 in
    rw (ne_eqb a 226 (λ e. omega arith)) (ap (λ (t : List ℕ). a ∷ t) (lettered_same (b ∷ c ∷ bs) p.1))

figures_none : (xs : List ℕ) → list_all is_text_byte xs ≡ true → has_figurine xs ≡ false
figures_none [] h = refl
figures_none (a ∷ []) h = refl
figures_none (a ∷ b ∷ []) h = refl
figures_none (a ∷ b ∷ c ∷ bs) h =
    let p = and_parts (is_text_byte a) (list_all is_text_byte (b ∷ c ∷ bs)) h in
    let low = text_low a p.0 in
    rw (ne_eqb a 226 (λ e. omega arith)) (figures_none (b ∷ c ∷ bs) p.1)

-- ---- the end

-- the last byte of a SAN text: a rank, or the letter of an officer
is_end : ℕ → Bool
is_end b = (nat_le 49 b && nat_le b 56) || ((b == 75 || b == 81) || (b == 82 || (b == 66 || b == 78)))

record Ends (xs : List ℕ) : Type 0 where
  before : List ℕ
  last : ℕ
  text : xs ≡ before ++ last ∷ []
  is : is_end last ≡ true

end_low : (b : ℕ) → is_end b ≡ true → b < 128
unfolding is_end
end_low b h = elim (cases_Bool (nat_le 128 b)) [
  | inl high ↦ absurd (false≢true (sym (no_high b (leb-true 128 b high)) ∙ h))
  | inr low ↦ omega (arith, leb-false 128 b low)
]
  where
    no_high : (b : ℕ) → 128 ≤ b → is_end b ≡ false
    no_high b le =
        rw (
          le-leb 49 b (omega arith),
          lt-leb b 56 (omega arith),
          ne_eqb b 75 (λ e. omega arith),
          ne_eqb b 81 (λ e. omega arith),
          ne_eqb b 82 (λ e. omega arith),
          ne_eqb b 66 (λ e. omega arith),
          ne_eqb b 78 (λ e. omega arith),
        ) refl

is_loose : ℕ → Bool
is_loose b = is_tail b || (b == 101 || b == 112)

loose_table : agree_below (λ b. is_end b && is_loose b) (λ _. false) 128 ≡ true
unfolding is_end is_loose
loose_table = refl

record Firm (b : ℕ) : Type 0 where
  tail : is_tail b ≡ false
  e : (b == 101) ≡ false
  p : (b == 112) ≡ false

firm : (b : ℕ) → is_end b ≡ true → Firm b
unfolding is_loose
firm b h =
    let none = unlike is_end is_loose loose_table end_low b h in
    let a = or_parts (is_tail b) (b == 101 || b == 112) none in
    let c = or_parts (b == 101) (b == 112) a.1 in
    record { tail = a.0; e = c.0; p = c.1 }

rank_end : (r : ℕ) → r < 8 → is_end (49 + r) ≡ true
unfolding is_end
rank_end r lt = rw (le-leb 49 (49 + r) (omega arith), le-leb (49 + r) 56 (omega arith)) refl

officer_end : (k : Kind) → is_promotion_piece k ≡ true → Ends (61 ∷ kind_text k)
unfolding is_end
officer_end King e = absurd (false≢true e)
officer_end Queen e = record { before = 61 ∷ []; last = 81; text = refl; is = refl }
officer_end Rook e = record { before = 61 ∷ []; last = 82; text = refl; is = refl }
officer_end Bishop e = record { before = 61 ∷ []; last = 66; text = refl; is = refl }
officer_end Knight e = record { before = 61 ∷ []; last = 78; text = refl; is = refl }
officer_end Pawn e = absurd (false≢true e)

ends_behind : (xs ys : List ℕ) → Ends ys → Ends (xs ++ ys)
ends_behind xs ys h = record {
  before = xs ++ h.before;
  last = h.last;
  text = ap (λ (t : List ℕ). xs ++ t) h.text ∙ sym (append_assoc xs h.before (h.last ∷ []));
  is = h.is;
}

target_ends : (at : ℕ) (q : Option Kind) → at < 64 → IfSome q (λ k. is_promotion_piece k ≡ true) → Ends (square_text at ++ promotion_text true q)
target_ends at None lt h = record { before = (97 + at % 8) ∷ []; last = 49 + at / 8; text = refl; is = rank_end (at / 8) (omega arith) }
target_ends at (Some k) lt h = ends_behind (square_text at) (61 ∷ kind_text k) (officer_end k h)

san_ends : (s : San) → Fits s → Ends (san_text s true)
san_ends s f =
    ends_behind (kind_text s.kind) _ (ends_behind (file_text s.file) _ (ends_behind (rank_text s.rank) _
    (ends_behind (takes_text s.is_capture) _ (target_ends s.target s.promoted f.target f.promoted))))

-- marks of check
all_tail : (xs ys : List ℕ) → list_all is_tail ys ≡ true → without_end is_tail (xs ++ ys) ≡ without_end is_tail xs
all_tail [] ys h = none ys h
  where
    none : (ys : List ℕ) → list_all is_tail ys ≡ true → without_end is_tail ys ≡ []
    none [] h = refl
    none (y ∷ ys) h = rw h refl
all_tail (x ∷ xs) ys h =
    let same : list_all is_tail (x ∷ (xs ++ ys)) ≡ list_all is_tail (x ∷ xs) = list_all-append is_tail (x ∷ xs) ys
    ∙ rw h (and_yes (list_all is_tail (x ∷ xs))) in
    ap (λ (b : Bool). if b then [] else x ∷ without_end is_tail (xs ++ ys)) same
    ∙ ap (λ (t : List ℕ). if list_all is_tail (x ∷ xs) then [] else x ∷ t) (all_tail xs ys h)
  where
    and_yes : (b : Bool) → (b && true) ≡ b
    and_yes true = refl
    and_yes false = refl

firm_end : (xs : List ℕ) (b : ℕ) → is_tail b ≡ false → without_end is_tail (xs ++ b ∷ []) ≡ xs ++ b ∷ []
firm_end [] b h = rw h refl
firm_end (x ∷ xs) b h =
    let not_all : list_all is_tail (x ∷ (xs ++ b ∷ [])) ≡ false = list_all-append is_tail (x ∷ xs) (b ∷ []) ∙ rw h (and_no (list_all is_tail (x ∷ xs))) in
    ap (λ (c : Bool). if c then [] else x ∷ without_end is_tail (xs ++ b ∷ [])) not_all ∙ ap (λ (t : List ℕ). x ∷ t) (firm_end xs b h)
  where
    and_no : (b : Bool) → (b && false) ≡ false
    and_no true = refl
    and_no false = refl

tail_off : (xs ys : List ℕ) → Ends xs → list_all is_tail ys ≡ true → without_tail (xs ++ ys) ≡ xs
tail_off xs ys h k = all_tail xs ys k ∙ ap (without_end is_tail) h.text ∙ firm_end h.before h.last (firm h.last h.is).tail ∙ sym h.text

last_of : (xs : List ℕ) (h : Ends xs) → slice_index xs (length xs - 1) ≡ h.last
last_of xs h =
    let at : length (h.before ++ h.last ∷ []) - 1 ≡ length h.before = omega (arith, length-append h.before (h.last ∷ [])) in
    ap (λ (t : List ℕ). slice_index t (length t - 1)) h.text ∙ ap (λ i. slice_index (h.before ++ h.last ∷ []) i) at
    ∙ get_or_at h.before h.last [] 0 (length h.before) refl

passing_by : (xs : List ℕ) (a b c d : Bool) → c ≡ false → d ≡ false
    → (if a && (b && c) then take (length xs - 2) xs else (if nat_le 1 (length xs) && d then take (length xs - 1) xs else xs)) ≡ xs
passing_by xs a b c d e f = rw (e, f) (go a b (nat_le 1 (length xs)))
  where
    go : (a b g : Bool) → (if a && (b && false) then take (length xs - 2) xs else (if g && false then take (length xs - 1) xs else xs)) ≡ xs
    go true true true = refl
    go true true false = refl
    go true false true = refl
    go true false false = refl
    go false b true = refl
    go false b false = refl

passing_same : (xs : List ℕ) → Ends xs → without_passing xs ≡ xs
unfolding without_passing
passing_same xs h =
    let l = last_of xs h in
    let f = firm h.last h.is in
    passing_by xs (nat_le 2 (length xs)) (slice_index xs (length xs - 2) == 101) (slice_index xs (length xs - 1) == 112) (slice_index xs (length xs - 1) == 101)
    (ap (λ (b : ℕ). b == 112) l ∙ f.p) (ap (λ (b : ℕ). b == 101) l ∙ f.e)

-- ---- the whole

check_tail : (p : Position) → list_all is_tail (check_text p) ≡ true
unfolding check_text
check_tail p = elim (cases_Bool (is_mate p)) [
  | inl mate ↦ rw mate refl
  | inr none ↦ elim (cases_Bool (in_check p.men p.to_move)) [ inl check ↦ rw (none, check) refl | inr safe ↦ rw (none, safe) refl ]
]

check_bytes : (p : Position) → list_all is_text_byte (check_text p) ≡ true
unfolding check_text is_text_byte is_san_byte is_start
check_bytes p = elim (cases_Bool (is_mate p)) [
  | inl mate ↦ rw mate refl
  | inr none ↦ elim (cases_Bool (in_check p.men p.to_move)) [ inl check ↦ rw (none, check) refl | inr safe ↦ rw (none, safe) refl ]
]

text_bytes : (xs : List ℕ) → AllSan xs → list_all is_text_byte xs ≡ true
text_bytes [] h = refl
text_bytes (x ∷ xs) h = let a = and_parts (is_san_byte x) (list_all is_san_byte xs) h in rw (san_text_byte x a.0) (text_bytes xs a.1)

san_same : (s : San) (check : List ℕ) → Fits s → list_all is_tail check ≡ true → list_all is_text_byte check ≡ true
    → san_in (san_text s true ++ check) ≡ san_text s true
unfolding san_in
san_same s check f tail bytes =
    let t = san_text s true in
    let all = san_bytes s f in
    ap (λ (x : List ℕ). plain_spelling (without_pawn (without_passing (without_tail x))))
    (lettered_same (t ++ check) (all_append is_text_byte t check (text_bytes t all) bytes))
    ∙ ap (λ (x : List ℕ). plain_spelling (without_pawn (without_passing x))) (tail_off t check (san_ends s f) tail)
    ∙ ap (λ (x : List ℕ). plain_spelling (without_pawn x)) (passing_same t (san_ends s f)) ∙ ap plain_spelling (pawn_same t all) ∙ spelled_same t all

some_below : (b : Bool) (n k : ℕ) → n < k → IfSome (if b then Some n else None) (λ f. f < k)
some_below true n k lt = lt
some_below false n k lt = tt

officer_chosen : (b : Bool) (q : Option Kind) → is_promotion_choice b q ≡ true → IfSome q (λ k. is_promotion_piece k ≡ true)
officer_chosen b None e = tt
officer_chosen true (Some k) e = e
officer_chosen false (Some k) e = absurd (false≢true e)

fits_for : (p : Position) (man : Man) (m : Move) → man.at < 64 → m.target < 64 → is_promotion_choice (reaches_last_rank man m.target) m.promoted ≡ true
    → Fits (san_for p man m)
unfolding san_for
fits_for p man m at target choice = record {
  file = some_below (gives_file p man m.target) (file_of man.at) 8 (omega arith);
  rank = some_below (gives_rank p man m.target) (rank_of man.at) 8 (omega arith);
  target = target;
  promoted = officer_chosen (reaches_last_rank man m.target) m.promoted choice;
}

text_of : (p : Position) (m : Move) (man : Man) → man_at p.men m.origin ≡ Some man → move_text p m ≡ san_text (san_for p man m) true ++ check_text (after p m)
unfolding move_text
text_of p m man e = rw e refl

record Symbol (p : Position) (m : Move) : Type 0 where
  man : Man
  here : man_at p.men m.origin ≡ Some man
  fits : Fits (san_for p man m)

symbol : (p : Position) (m : Move) → IsValid p → is_legal p m ≡ true → Symbol p m
symbol p m valid e =
    let h = HasMover-from_is_legal p m e in
    let at = All-among (λ x. x.at < 64) p.men h.man valid.on_board (found_among p.men m.origin h.man h.here).0 in
    record { man = h.man; here = h.here; fits = fits_for p h.man m at h.moves.target h.moves.choice }

-- its SAN is read as the move
pub symbol_move : (p : Position) (m : Move) → IsValid p → is_legal p m ≡ true → move_of p (san_in (move_text p m)) ≡ Ok m
unfolding move_of
symbol_move p m valid e =
    let h = symbol p m valid e in
    let s = san_for p h.man m in
    let san : san_in (move_text p m) ≡ san_text s true = ap san_in (text_of p m h.man h.here)
    ∙ san_same s (check_text (after p m)) h.fits (check_tail (after p m)) (check_bytes (after p m)) in
    let read : san_of (san_text s true) ≡ Some s = ap san_of (sym (append-nil (san_text s true))) ∙ san_again s true [] h.fits refl in
    ap (λ (t : List ℕ). move_meant p t (san_of t)) san ∙ ap (move_meant p (san_text s true)) read ∙ ap only_match (alone_matches p m h.man valid e h.here)

-- ---- the meaning

whole_bytes : (p : Position) (m : Move) → IsValid p → is_legal p m ≡ true → list_all is_text_byte (move_text p m) ≡ true
whole_bytes p m valid e =
    let h = symbol p m valid e in
    subst (λ (t : List ℕ). list_all is_text_byte t ≡ true) (sym (text_of p m h.man h.here))
    (all_append is_text_byte (san_text (san_for p h.man m) true) (check_text (after p m))
    (text_bytes (san_text (san_for p h.man m) true) (san_bytes (san_for p h.man m) h.fits))
    (check_bytes (after p m)))

-- not a text with another byte
unequal : (t word : List ℕ) → list_all is_text_byte t ≡ true → list_all is_text_byte word ≡ false → bytes_eq t word ≡ false
unequal t word h k =
    false_from_ne_true (bytes_eq t word) (λ e.
    let same : t ≡ word = (bytes_eq-Decides t word).0 e in false≢true (sym k ∙ subst (λ (x : List ℕ). list_all is_text_byte x ≡ true) same h))

-- not a text of another length
longer : (t word : List ℕ) → length word < length t → bytes_eq t word ≡ false
longer t word lt =
    false_from_ne_true (bytes_eq t word) (λ e. let same : t ≡ word = (bytes_eq-Decides t word).0 e in absurd (omega (arith, ap length same)))

has_other : (q : ℕ → Bool) (xs ys : List ℕ) (b : ℕ) → q b ≡ false → list_all q (xs ++ (b ∷ ys)) ≡ false
has_other q xs ys b h = list_all-append q xs (b ∷ ys) ∙ rw h (no (list_all q xs))
  where
    no : (b : Bool) → (b && false) ≡ false
    no true = refl
    no false = refl

file_no_digit : (f : ℕ) → is_digit (97 + f) ≡ false
file_no_digit f = rw (le-leb 48 (97 + f) (omega arith), lt-leb (97 + f) 57 (omega arith)) refl

is_file : ℕ → Bool
is_file b = nat_le 97 b && nat_le b 104

tail_table : agree_below (λ b. is_file b && is_tail b) (λ _. false) 128 ≡ true
unfolding is_file
tail_table = refl

file_no_tail : (f : ℕ) → f < 8 → is_tail (97 + f) ≡ false
unfolding is_file
file_no_tail f lt = unlike is_file is_tail tail_table (λ b h. let high = leb-true b 104 (and_parts (nat_le 97 b) (nat_le b 104) h).1 in omega (arith, high))
    (97 + f)
    (and_from (nat_le 97 (97 + f)) (nat_le (97 + f) 104) (le-leb 97 (97 + f) (omega arith)) (le-leb (97 + f) 104 (omega (arith, lt))))

-- not all of it are bytes of a kind that has no file
not_all : (q : ℕ → Bool) → ((f : ℕ) → f < 8 → q (97 + f) ≡ false) → (s : San) (check : List ℕ) → list_all q (san_text s true ++ check) ≡ false
not_all q none s check =
    let cut : san_text s true ++ check ≡ (kind_text s.kind ++ (file_text s.file ++ (rank_text s.rank ++ takes_text s.is_capture))) ++ (97 + s.target % 8)
    ∷ ((49 + s.target / 8) ∷ (promotion_text true s.promoted ++ check)) =
    regrouped (kind_text s.kind) (file_text s.file) (rank_text s.rank) (takes_text s.is_capture) (square_text s.target) (promotion_text true s.promoted)
    check in
    ap (list_all q) cut
    ∙ has_other q (kind_text s.kind ++ (file_text s.file ++ (rank_text s.rank ++ takes_text s.is_capture))) ((49 + s.target / 8)
    ∷ (promotion_text true s.promoted ++ check)) (97 + s.target % 8)
    (none (s.target % 8) (omega arith))
  where
    regrouped : (a b c d e f g : List ℕ) → (a ++ (b ++ (c ++ (d ++ (e ++ f))))) ++ g ≡ (a ++ (b ++ (c ++ d))) ++ (e ++ (f ++ g))
    regrouped a b c d e f g = simp append_assoc

-- a square has a rank, which no word has
no_word : (s : San) (check : List ℕ) → s.target < 64 → list_all is_word_byte (san_text s true ++ check) ≡ false
no_word s check lt =
    let rank : is_word_byte (49 + s.target / 8) ≡ false = rank_no_word (s.target / 8) (omega arith) in
    let front = kind_text s.kind ++ (file_text s.file ++ (rank_text s.rank ++ takes_text s.is_capture)) in
    let cut : san_text s true ++ check ≡ (front ++ (97 + s.target % 8) ∷ []) ++ (49 + s.target / 8) ∷ (promotion_text true s.promoted ++ check) =
    regrouped (kind_text s.kind) (file_text s.file) (rank_text s.rank) (takes_text s.is_capture) ((97 + s.target % 8) ∷ []) ((49 + s.target / 8) ∷ [])
    (promotion_text true s.promoted) check in
    ap (list_all is_word_byte) cut
    ∙ has_other is_word_byte (front ++ (97 + s.target % 8) ∷ []) (promotion_text true s.promoted ++ check) (49 + s.target / 8) rank
  where
    rank_no_word : (r : ℕ) → r < 8 → is_word_byte (49 + r) ≡ false
    rank_no_word r lt = rw (lt-leb 65 (49 + r) (omega arith), lt-leb 97 (49 + r) (omega arith), lt-leb 128 (49 + r) (omega arith)) refl

    regrouped : (a b c d e f g h : List ℕ) → (a ++ (b ++ (c ++ (d ++ ((e ++ f) ++ g))))) ++ h ≡ ((a ++ (b ++ (c ++ d))) ++ e) ++ (f ++ (g ++ h))
    regrouped a b c d e f g h = simp append_assoc

two_bytes : (s : San) (check : List ℕ) → 1 < length (san_text s true ++ check)
two_bytes s check =
    omega (
      arith,
      length-append (san_text s true) check,
      length-append (kind_text s.kind) (file_text s.file
          ++ (rank_text s.rank ++ (takes_text s.is_capture ++ (square_text s.target ++ promotion_text true s.promoted)))),
      length-append (file_text s.file) (rank_text s.rank ++ (takes_text s.is_capture ++ (square_text s.target ++ promotion_text true s.promoted))),
      length-append (rank_text s.rank) (takes_text s.is_capture ++ (square_text s.target ++ promotion_text true s.promoted)),
      length-append (takes_text s.is_capture) (square_text s.target ++ promotion_text true s.promoted),
    )

words_none : (list_all is_text_byte (codes "1-0") ≡ false) × (list_all is_text_byte (codes "0-1") ≡ false) × (list_all is_text_byte (codes "1/2-1/2") ≡ false)
    × (list_all is_text_byte (codes "1/2") ≡ false) × (list_all is_text_byte (codes "Z0") ≡ false) × (list_all is_text_byte (codes "null") ≡ false)
    × (list_all is_text_byte (codes "pass") ≡ false) × (list_all is_text_byte (codes "p") ≡ false) × (list_all is_text_byte (codes "ep") ≡ false)
    × (list_all is_text_byte (226 ∷ 128 ∷ 147 ∷ []) ≡ false) × (list_all is_text_byte (226 ∷ 128 ∷ 148 ∷ []) ≡ false)
    × (list_all is_text_byte (half ++ 45 ∷ half) ≡ false) × (list_all is_text_byte half ≡ false)
unfolding is_text_byte is_san_byte is_start
words_none = (refl, refl, refl, refl, refl, refl, refl, refl, refl, refl, refl, refl, refl)

said_by : (t : List ℕ) → list_all is_text_byte t ≡ true → 1 < length t → list_all is_digit t ≡ false → list_all is_tail t ≡ false
    → list_all is_word_byte t ≡ false → said_of t ≡ MoveSaid
unfolding said_of is_word
said_by t h long digits tails word =
    let w = words_none in
    rw (
      digits,
      lettered_same t h,
      unequal t (codes "1-0") h w.0,
      unequal t (codes "0-1") h w.1,
      unequal t (codes "1/2-1/2") h w.2,
      unequal t (codes "1/2") h w.3,
      unequal t (half ++ 45 ∷ half) h w.11,
      unequal t half h w.12,
      unequal t (codes "Z0") h w.4,
      unequal t (codes "null") h w.5,
      unequal t (codes "pass") h w.6,
      unequal t (226 ∷ 128 ∷ 147 ∷ []) h w.9,
      unequal t (226 ∷ 128 ∷ 148 ∷ []) h w.10,
      longer t (codes "e") long,
      unequal t (codes "p") h w.7,
      unequal t (codes "ep") h w.8,
      tails,
      word,
    ) (if_none (nat_le (length t) 32))
  where
    if_none : (b : Bool) → (if b && false then WordSaid else MoveSaid) ≡ MoveSaid
    if_none true = refl
    if_none false = refl

pub symbol_said : (p : Position) (m : Move) → IsValid p → is_legal p m ≡ true → said_of (move_text p m) ≡ MoveSaid
symbol_said p m valid e =
    let h = symbol p m valid e in
    let s = san_for p h.man m in
    let check = check_text (after p m) in
    let text = text_of p m h.man h.here in
    said_by (move_text p m) (whole_bytes p m valid e) (subst (λ (t : List ℕ). 1 < length t) (sym text) (two_bytes s check))
    (ap (list_all is_digit) text ∙ not_all is_digit (λ f _. file_no_digit f) s check) (ap (list_all is_tail) text ∙ not_all is_tail file_no_tail s check)
    (ap (list_all is_word_byte) text ∙ no_word s check h.fits.target)

-- ---- its bytes as a symbol

symbol_table : agree_below (λ b. is_text_byte b && not (is_plain_symbol b)) (λ _. false) 128 ≡ true
unfolding is_text_byte is_san_byte is_start
symbol_table = refl

symbol_byte : (b : ℕ) → is_text_byte b ≡ true → is_plain_symbol b ≡ true
symbol_byte b h = not_false (is_plain_symbol b) (unlike is_text_byte (λ c. not (is_plain_symbol c)) symbol_table text_low b h)
  where
    not_false : (b : Bool) → not b ≡ false → b ≡ true
    not_false true e = refl
    not_false false e = absurd (false≢true (sym e))

symbol_all : (t : List ℕ) → list_all is_text_byte t ≡ true → list_all is_plain_symbol t ≡ true
symbol_all [] h = refl
symbol_all (b ∷ bs) h = let a = and_parts (is_text_byte b) (list_all is_text_byte bs) h in rw (symbol_byte b a.0) (symbol_all bs a.1)

begin_table : agree_below (λ b. is_start b && not (begins_symbol b)) (λ _. false) 128 ≡ true
unfolding is_start
begin_table = refl

not_false : (b : Bool) → not b ≡ false → b ≡ true
not_false true e = refl
not_false false e = absurd (false≢true (sym e))

start_begins : (b : ℕ) → is_start b ≡ true → begins_symbol b ≡ true
unfolding is_san_byte
start_begins b h = not_false (begins_symbol b) (unlike is_start (λ c. not (begins_symbol c)) begin_table (λ c k. san_low c (rw k refl)) b h)

-- a symbol, byte by byte
pub record IsSymbol (t : List ℕ) : Type 0 where
  pub first : ℕ
  pub rest : List ℕ
  pub text : t ≡ first ∷ rest
  pub begins : begins_symbol first ≡ true
  pub all : list_all is_plain_symbol (first ∷ rest) ≡ true

first_of : (xs ys t : List ℕ) → t ≡ xs ++ ys → AllStart xs → 0 < length xs → list_all is_text_byte t ≡ true → IsSymbol t
first_of [] ys t e h some all = absurd (omega arith)
first_of (x ∷ xs) ys t e h some all = record {
  first = x;
  rest = xs ++ ys;
  text = e;
  begins = start_begins x (and_parts (is_start x) (list_all is_start xs) h).0;
  all = symbol_all (x ∷ (xs ++ ys)) (subst (λ (u : List ℕ). list_all is_text_byte u ≡ true) e all);
}

pub symbol_is : (p : Position) (m : Move) → IsValid p → is_legal p m ≡ true → IsSymbol (move_text p m)
symbol_is p m valid e =
    let h = symbol p m valid e in
    let s = san_for p h.man m in
    let check = check_text (after p m) in
    let text = text_of p m h.man h.here ∙ ap (λ (t : List ℕ). t ++ check) (before_is s) ∙ append_assoc (before_promotion s) (promotion_text true s.promoted)
    check in
    first_of (before_promotion s) (promotion_text true s.promoted ++ check) (move_text p m) text (before_start s h.fits) (before_some s)
    (whole_bytes p m valid e)

printed_table : agree_below (λ b. is_san_byte b && not (is_printable b)) (λ _. false) 128 ≡ true
unfolding is_san_byte is_start
printed_table = refl

san_prints : (xs : List ℕ) → AllSan xs → list_all is_printable xs ≡ true
san_prints [] h = refl
san_prints (x ∷ xs) h =
    let a = and_parts (is_san_byte x) (list_all is_san_byte xs) h in
    rw (not_false (is_printable x) (unlike is_san_byte (λ c. not (is_printable c)) printed_table san_low x a.0)) (san_prints xs a.1)

pub symbol_prints : (p : Position) (m : Move) → IsValid p → is_legal p m ≡ true → list_all is_printable (san_in (move_text p m)) ≡ true
symbol_prints p m valid e =
    let h = symbol p m valid e in
    let s = san_for p h.man m in
    let san : san_in (move_text p m) ≡ san_text s true = ap san_in (text_of p m h.man h.here)
    ∙ san_same s (check_text (after p m)) h.fits (check_tail (after p m)) (check_bytes (after p m)) in
    ap (list_all is_printable) san ∙ san_prints (san_text s true) (san_bytes s h.fits)
