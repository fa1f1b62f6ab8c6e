-- Texts are read as they are spelled.
use Rattle.std.proofs.Common.{◌≡◌, ℕ, ◌+◌, ◌*◌, ◌-◌, ◌/◌, ◌%◌, ◌<◌, ◌≤◌, Bool, true, false, ◌||◌, eqb, List, [], ◌∷◌}
use Rattle.std.proofs.Common.{◌++◌, Option, Some, None, refl, ap, ◌∙◌, inl, inr, ◌⊎◌, arith, append_assoc}
use Rattle.std.specs.Prelude.{IfSome}
use Rattle.std.proofs.lemmas.Bool.{ne_eqb, eqb-true, le-leb, lt-leb, and_parts, or_cases, cases_Bool}
use Rattle.study_board.specs.declared.men.Kind.{Kind}
use Rattle.study_board.specs.declared.men.Kind.TheVariants.{King, Queen, Rook, Bishop, Knight, Pawn}
use Rattle.study_notation.specs.declared.san.San.{San}
use Rattle.study_notation.specs.San.{Fits, kind_text, file_text, rank_text, takes_text, promotion_text, san_text, is_suffix_annotation, is_glyphs, is_ending}
use Rattle.study_moves.specs.Rules.{is_promotion_piece}
use Rattle.study_notation.specs.FenSpelling.{square_text}
use Rattle.study_notation.specs.SanParts.{SanSquares, kind_at, file_at, rank_at, takes_at, promotion_piece, promotion_piece_at, promotion_at}
use Rattle.study_notation.specs.SanParts.{squares_at, san_of}

-- a byte that is neither a coordinate nor `x`
abbrev pub Aside : ℕ → Type 0
Aside b = (b < 97) × ((b < 49) ⊎ (56 < b))

abbrev pub AsideFirst : List ℕ → Type 0
AsideFirst [] = Unit {0}
AsideFirst (b ∷ bs) = Aside b

-- ---- one part

file_again : (f : ℕ) (t : List ℕ) → f < 8 → file_at ((97 + f) ∷ t) ≡ (Some f, t)
unfolding file_at
file_again f t lt =
    let e : 97 + f - 97 ≡ f = omega arith in
    rw (le-leb 97 (97 + f) (omega arith), le-leb (97 + f) 104 (omega arith), e) refl

file_low : (b : ℕ) (t : List ℕ) → b < 97 → file_at (b ∷ t) ≡ (None, b ∷ t)
unfolding file_at
file_low b t lt = rw (lt-leb 97 b lt) refl

file_x : (t : List ℕ) → file_at (120 ∷ t) ≡ (None, 120 ∷ t)
unfolding file_at
file_x t = refl

file_aside : (t : List ℕ) → AsideFirst t → file_at t ≡ (None, t)
unfolding file_at
file_aside [] h = refl
file_aside (b ∷ t) h = let lt = h.0 in rw (lt-leb 97 b lt) refl

rank_again : (r : ℕ) (t : List ℕ) → r < 8 → rank_at ((49 + r) ∷ t) ≡ (Some r, t)
unfolding rank_at
rank_again r t lt =
    let e : 49 + r - 49 ≡ r = omega arith in
    rw (le-leb 49 (49 + r) (omega arith), le-leb (49 + r) 56 (omega arith), e) refl

rank_high : (b : ℕ) (t : List ℕ) → 56 < b → rank_at (b ∷ t) ≡ (None, b ∷ t)
unfolding rank_at
rank_high b t lt = rw (le-leb 49 b (omega arith), lt-leb b 56 lt) refl

takes_no : (b : ℕ) (t : List ℕ) → (b ≡ 120 → ⊥) → takes_at (b ∷ t) ≡ (false, b ∷ t)
unfolding takes_at
takes_no b t ne = rw (ne_eqb b 120 ne) refl

takes_yes : (t : List ℕ) → takes_at (120 ∷ t) ≡ (true, t)
unfolding takes_at
takes_yes t = refl

takes_aside : (t : List ℕ) → AsideFirst t → takes_at t ≡ (false, t)
unfolding takes_at
takes_aside [] h = refl
takes_aside (b ∷ t) h = let lt = h.0 in rw (ne_eqb b 120 (λ e. omega arith)) refl

-- ---- the coordinates

abbrev pub coords : Option ℕ → Option ℕ → Bool → ℕ → List ℕ → List ℕ
coords f r x s t = file_text f ++ (rank_text r ++ (takes_text x ++ (square_text s ++ t)))

abbrev made : Option ℕ → Option ℕ → Bool → ℕ → SanSquares
made f r x s = record { file = f; rank = r; is_capture = x; target = s }

squares_again : (f r : Option ℕ) (x : Bool) (s : ℕ) (t : List ℕ) → IfSome f (λ k. k < 8) → IfSome r (λ k. k < 8)
    → s < 64 → AsideFirst t → squares_at (coords f r x s t) ≡ Some (made f r x s, t)
unfolding squares_at
squares_again None None false s t hf hr hs ht =
    let e : 8 * (s / 8) + s % 8 ≡ s = omega arith in
    rw (file_again (s % 8) ((49 + s / 8) ∷ t) (omega arith), rank_again (s / 8) t (omega arith), takes_aside t ht, file_aside t ht, e) refl
squares_again None None true s t hf hr hs ht =
    let e : 8 * (s / 8) + s % 8 ≡ s = omega arith in
    rw (
      file_x ((97 + s % 8) ∷ (49 + s / 8) ∷ t),
      rank_high 120 ((97 + s % 8) ∷ (49 + s / 8) ∷ t) (omega arith),
      takes_yes ((97 + s % 8) ∷ (49 + s / 8) ∷ t),
      file_again (s % 8) ((49 + s / 8) ∷ t) (omega arith),
      rank_again (s / 8) t (omega arith),
      e,
    ) refl
squares_again (Some f) None false s t hf hr hs ht =
    let e : 8 * (s / 8) + s % 8 ≡ s = omega arith in
    let sq = (97 + s % 8) ∷ (49 + s / 8) ∷ t in
    rw (
      file_again f sq hf,
      rank_high (97 + s % 8) ((49 + s / 8) ∷ t) (omega arith),
      takes_no (97 + s % 8)
          ((49 + s / 8) ∷ t) (λ e. omega arith),
      file_again (s % 8) ((49 + s / 8) ∷ t) (omega arith),
      rank_again (s / 8) t (omega arith),
      e,
    ) refl
squares_again (Some f) None true s t hf hr hs ht =
    let e : 8 * (s / 8) + s % 8 ≡ s = omega arith in
    let sq = (97 + s % 8) ∷ (49 + s / 8) ∷ t in
    rw (
      file_again f (120 ∷ sq) hf,
      rank_high 120 sq (omega arith),
      takes_yes sq,
      file_again (s % 8) ((49 + s / 8) ∷ t) (omega arith),
      rank_again (s / 8) t (omega arith),
      e,
    ) refl
squares_again None (Some r) false s t hf hr hs ht =
    let e : 8 * (s / 8) + s % 8 ≡ s = omega arith in
    let sq = (97 + s % 8) ∷ (49 + s / 8) ∷ t in
    rw (
      file_low (49 + r) sq (omega arith),
      rank_again r sq hr,
      takes_no (97 + s % 8) ((49 + s / 8) ∷ t)
          (λ e. omega arith),
      file_again (s % 8) ((49 + s / 8) ∷ t) (omega arith),
      rank_again (s / 8) t (omega arith),
      e,
    ) refl
squares_again None (Some r) true s t hf hr hs ht =
    let e : 8 * (s / 8) + s % 8 ≡ s = omega arith in
    let sq = (97 + s % 8) ∷ (49 + s / 8) ∷ t in
    rw (
      file_low (49 + r) (120 ∷ sq) (omega arith),
      rank_again r (120 ∷ sq) hr,
      takes_yes sq,
      file_again (s % 8) ((49 + s / 8) ∷ t) (omega arith),
      rank_again (s / 8) t (omega arith),
      e,
    ) refl
squares_again (Some f) (Some r) false s t hf hr hs ht =
    let e : 8 * (s / 8) + s % 8 ≡ s = omega arith in
    let sq = (97 + s % 8) ∷ (49 + s / 8) ∷ t in
    rw (
      file_again f ((49 + r) ∷ sq) hf,
      rank_again r sq hr,
      takes_no (97 + s % 8) ((49 + s / 8) ∷ t)
          (λ e. omega arith),
      file_again (s % 8) ((49 + s / 8) ∷ t) (omega arith),
      rank_again (s / 8) t (omega arith),
      e,
    ) refl
squares_again (Some f) (Some r) true s t hf hr hs ht =
    let e : 8 * (s / 8) + s % 8 ≡ s = omega arith in
    let sq = (97 + s % 8) ∷ (49 + s / 8) ∷ t in
    rw (
      file_again f ((49 + r) ∷ (120 ∷ sq)) hf,
      rank_again r (120 ∷ sq) hr,
      takes_yes sq,
      file_again (s % 8) ((49 + s / 8) ∷ t) (omega arith),
      rank_again (s / 8) t (omega arith),
      e,
    ) refl

-- ---- the kind

-- coordinates do not begin with a kind
abbrev pub Starts : List ℕ → Type 0
Starts [] = ⊥
Starts (b ∷ bs) = (b < 66) ⊎ (82 < b)

coords_start : (f r : Option ℕ) (x : Bool) (s : ℕ) (t : List ℕ) → IfSome r (λ k. k < 8) → Starts (coords f r x s t)
coords_start (Some f) r x s t h = inr (omega arith)
coords_start None (Some r) x s t h = inl (omega arith)
coords_start None None true s t h = inr (omega arith)
coords_start None None false s t h = inr (omega arith)

no_kind : (b n : ℕ) → (b < 66) ⊎ (82 < b) → 66 ≤ n → n ≤ 82 → eqb b n ≡ false
no_kind b n h low high = ne_eqb b n (λ e. elim h [ inl lt ↦ omega arith | inr gt ↦ omega arith ])

kind_again : (k : Kind) (t : List ℕ) → Starts t → kind_at (kind_text k ++ t) ≡ (k, t)
unfolding kind_at
kind_again King t h = refl
kind_again Queen t h = refl
kind_again Rook t h = refl
kind_again Bishop t h = refl
kind_again Knight t h = refl
kind_again Pawn [] h = absurd h
kind_again Pawn (b ∷ t) h =
    rw (
      no_kind b 75 h (omega arith) (omega arith),
      no_kind b 81 h (omega arith) (omega arith),
      no_kind b 82 h (omega arith) (omega arith),
      no_kind b 66 h (omega arith) (omega arith),
      no_kind b 78 h (omega arith) (omega arith),
    ) refl

-- ---- the promotion and the ending

-- an ending begins with one of four bytes
abbrev pub EndingByte : ℕ → Type 0
EndingByte b = (b ≡ 33) ⊎ ((b ≡ 63) ⊎ ((b ≡ 43) ⊎ (b ≡ 35)))

glyph_byte : (b : ℕ) → is_suffix_annotation b ≡ true → EndingByte b
glyph_byte b h = elim (or_cases (eqb b 33) (eqb b 63) h) [ inl e ↦ inl (eqb-true b 33 e) | inr e ↦ inr (inl (eqb-true b 63 e)) ]

glyphs_byte : (b : ℕ) (bs : List ℕ) → is_glyphs (b ∷ bs) ≡ true → EndingByte b
glyphs_byte b [] h = glyph_byte b h
glyphs_byte b (c ∷ []) h = glyph_byte b ((and_parts (is_suffix_annotation b) (is_suffix_annotation c) h).0)
glyphs_byte b (c ∷ d ∷ bs) h = absurd cc

ending_byte : (b : ℕ) (bs : List ℕ) → is_ending (b ∷ bs) ≡ true → EndingByte b
ending_byte b bs h =
    elim (cases_Bool (eqb b 43 || eqb b 35)) [
      | inl check ↦ elim (or_cases (eqb b 43) (eqb b 35) check) [ inl e ↦ inr (inr (inl (eqb-true b 43 e))) | inr e ↦ inr (inr (inr (eqb-true b 35 e))) ]
      | inr none ↦ glyphs_byte b bs (rw none at h)
    ]

aside_byte : (b : ℕ) → EndingByte b → Aside b
aside_byte b (inl e) = (omega arith, inl (omega arith))
aside_byte b (inr (inl e)) = (omega arith, inr (omega arith))
aside_byte b (inr (inr (inl e))) = (omega arith, inl (omega arith))
aside_byte b (inr (inr (inr e))) = (omega arith, inl (omega arith))

ending_aside : (t : List ℕ) → is_ending t ≡ true → AsideFirst t
ending_aside [] h = tt
ending_aside (b ∷ bs) h = aside_byte b (ending_byte b bs h)

no_promotion : (b : ℕ) (bs : List ℕ) → EndingByte b → promotion_at (b ∷ bs) ≡ Some (None, b ∷ bs)
unfolding promotion_at promotion_piece_at promotion_piece
no_promotion b bs (inl e) = rw e refl
no_promotion b bs (inr (inl e)) = rw e refl
no_promotion b bs (inr (inr (inl e))) = rw e refl
no_promotion b bs (inr (inr (inr e))) = rw e refl

promotion_again : (equals : Bool) (p : Option Kind) (t : List ℕ) → IfSome p (λ k. is_promotion_piece k ≡ true)
    → is_ending t ≡ true → promotion_at (promotion_text equals p ++ t) ≡ Some (p, t)
unfolding promotion_at promotion_piece_at promotion_piece
promotion_again equals None [] h e = refl
promotion_again equals None (b ∷ t) h e = no_promotion b t (ending_byte b t e)
promotion_again true (Some Queen) t h e = refl
promotion_again true (Some Rook) t h e = refl
promotion_again true (Some Bishop) t h e = refl
promotion_again true (Some Knight) t h e = refl
promotion_again true (Some King) t h e = absurd cc
promotion_again true (Some Pawn) t h e = absurd cc
promotion_again false (Some Queen) t h e = refl
promotion_again false (Some Rook) t h e = refl
promotion_again false (Some Bishop) t h e = refl
promotion_again false (Some Knight) t h e = refl
promotion_again false (Some King) t h e = absurd cc
promotion_again false (Some Pawn) t h e = absurd cc

promotion_aside : (equals : Bool) (p : Option Kind) (t : List ℕ) → IfSome p (λ k. is_promotion_piece k ≡ true)
    → is_ending t ≡ true → AsideFirst (promotion_text equals p ++ t)
promotion_aside equals None t h e = ending_aside t e
promotion_aside true (Some k) t h e = (omega arith, inr (omega arith))
promotion_aside false (Some Queen) t h e = (omega arith, inr (omega arith))
promotion_aside false (Some Rook) t h e = (omega arith, inr (omega arith))
promotion_aside false (Some Bishop) t h e = (omega arith, inr (omega arith))
promotion_aside false (Some Knight) t h e = (omega arith, inr (omega arith))
promotion_aside false (Some King) t h e = absurd cc
promotion_aside false (Some Pawn) t h e = absurd cc

-- ---- all of it

regrouped : (a b c d e f t : List ℕ) → (a ++ (b ++ (c ++ (d ++ (e ++ f))))) ++ t ≡ a ++ (b ++ (c ++ (d ++ (e ++ (f ++ t)))))
regrouped a b c d e f t = simp append_assoc

pub san_again : (s : San) (equals : Bool) (ending : List ℕ) → Fits s → is_ending ending ≡ true → san_of (san_text s equals ++ ending) ≡ Some s
unfolding san_of
san_again s equals ending fits e =
    let p = promotion_text equals s.promoted ++ ending in
    let t = coords s.file s.rank s.is_capture s.target p in
    let whole : san_text s equals ++ ending ≡ kind_text s.kind ++ t =
    regrouped (kind_text s.kind) (file_text s.file) (rank_text s.rank) (takes_text s.is_capture)
    (square_text s.target) (promotion_text equals s.promoted) ending in
    ap san_of whole ∙ rw (
      kind_again s.kind t (coords_start s.file s.rank s.is_capture s.target p fits.rank),
      squares_again s.file s.rank s.is_capture s.target p fits.file fits.rank fits.target
          (promotion_aside equals s.promoted ending fits.promoted e),
      promotion_again equals s.promoted ending
          fits.promoted e,
      e,
    ) refl
