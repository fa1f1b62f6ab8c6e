-- One line taken from the front of a script.
use Rattle.std.proofs.Common.{◌≡◌, ℕ, ◌+◌, ◌-◌, ◌<◌, ◌≤◌, Bool, true, false, cond, not, eqb, List, []}
use Rattle.std.proofs.Common.{◌∷◌, ◌++◌, length, take, map, get_or, Option, Some, None, refl, sym, ap}
use Rattle.std.proofs.Common.{subst, ◌∙◌, inl, inr, arith, length-append, length-take, add-zero}
use Rattle.std.specs.Prelude.{◌||◌, ◌&&◌, ◌==◌, nat_lt}
use Rattle.std.proofs.lemmas.List.{append-nil, nil_from_length}
use Rattle.std.proofs.lemmas.Bool.{ne_eqb, eqb-true, eqb-false, cases_Bool, cases_lt, le-ltb, lt-ltb}
use Rattle.std.proofs.lemmas.List.Splits.{length-slice_split}
use Rattle.std.proofs.Math.Seq.{get_or-append_seam, take-append_seam}
use Rattle.std.proofs.lemmas.List.Sums.{sum_by-append}
use Rattle.std.proofs.KnownBytes.{Consumes-nil, Consumes-trans, Consumes-kept}
use Rattle.std.specs.List.{slice_split, onto_first}
use Rattle.std.specs.Str.Lines.{strip_carriage_return}
use Rattle.std.specs.Io.KnownBytes.{Consumes, IsAtEnd, Keeps}
use Rattle.study_command.specs.Lines.{begun_lines, script_lines, TakesLine, BeginsLong, feed_count, GaveFeeds}

abbrev pub is_feed : ℕ → Bool
is_feed b = eqb b 10

abbrev pub NoFeed : List ℕ → Type 0
NoFeed [] = Unit {0}
NoFeed (b ∷ bs) = (is_feed b ≡ false) × NoFeed bs

pub NoFeed-push : (bs : List ℕ) (b : ℕ) → NoFeed bs → (b ≡ 10 → ⊥) → NoFeed (bs ++ b ∷ [])
NoFeed-push [] b h ne = (ne_eqb b 10 ne, tt)
NoFeed-push (x ∷ bs) b h ne = (h.0, NoFeed-push bs b h.1 ne)

-- a part continues to the first feed
split_on : (raw ys p : List ℕ) (ps : List (List ℕ)) → NoFeed raw → slice_split is_feed ys ≡ p ∷ ps → slice_split is_feed (raw ++ ys) ≡ (raw ++ p) ∷ ps
split_on [] ys p ps h e = e
split_on (x ∷ raw) ys p ps h e = rw h.0 (ap (onto_first x) (split_on raw ys p ps h.1 e))

begun_lines-cons : (x : List ℕ) (parts : List (List ℕ)) → 0 < length parts → begun_lines (x ∷ parts) ≡ x ∷ begun_lines parts
begun_lines-cons x [] h = absurd (omega arith)
begun_lines-cons x (y ∷ more) h = refl

begun_lines-first : (x : List ℕ) (parts : List (List ℕ)) → 0 < length x → (more : List (List ℕ)) × (begun_lines (x ∷ parts) ≡ x ∷ more)
begun_lines-first x [] h = ([], rw (ne_eqb (length x) 0 (λ e. omega arith)) refl)
begun_lines-first x (y ∷ parts) h = (begun_lines (y ∷ parts), refl)

-- ---- the first line of a script

pub lines_feed : (raw rest : List ℕ) → NoFeed raw → script_lines (raw ++ (10 ∷ rest)) ≡ strip_carriage_return raw ∷ script_lines rest
unfolding script_lines
lines_feed raw rest h =
    let e : slice_split is_feed (raw ++ (10 ∷ rest)) ≡ raw ∷ slice_split is_feed rest =
    split_on raw (10 ∷ rest) [] (slice_split is_feed rest) h refl
    ∙ ap (λ (p : List ℕ). p ∷ slice_split is_feed rest) (append-nil raw) in
    ap (λ (ps : List (List ℕ)). map strip_carriage_return (begun_lines ps)) e ∙ ap (map strip_carriage_return)
    (begun_lines-cons raw (slice_split is_feed rest) (omega (arith, length-slice_split is_feed rest)))

lines_end : (raw : List ℕ) → NoFeed raw → 0 < length raw → script_lines raw ≡ strip_carriage_return raw ∷ []
unfolding script_lines
lines_end raw h long =
    let e : slice_split is_feed raw ≡ raw ∷ [] =
    ap (slice_split is_feed) (sym (append-nil raw)) ∙ split_on raw [] [] [] h refl ∙ ap (λ (p : List ℕ). p ∷ [])
    (append-nil raw) in
    let whole : begun_lines (raw ∷ []) ≡ raw ∷ [] = rw (ne_eqb (length raw) 0 (λ e. omega arith)) refl in
    ap (λ (ps : List (List ℕ)). map strip_carriage_return (begun_lines ps)) e ∙ ap (map strip_carriage_return) whole

pub lines_none : script_lines [] ≡ []
unfolding script_lines
lines_none = refl

-- ---- the carriage return at the end of a line

length-strip : (l : List ℕ) → (length l ≤ length (strip_carriage_return l) + 1) × (length (strip_carriage_return l) ≤ length l)
length-strip l =
    elim (cases_Bool (eqb (get_or l (length l - 1) 0) 13)) [
      | inl cr ↦ rw cr (omega (arith, length-take (length l - 1) l), omega (arith, length-take (length l - 1) l))
      | inr none ↦ rw none (omega arith, omega arith)
    ]

last-pushed : (raw : List ℕ) (b : ℕ) → get_or (raw ++ b ∷ []) (length (raw ++ b ∷ []) - 1) 0 ≡ b
last-pushed raw b =
    let at : length (raw ++ b ∷ []) - 1 ≡ length raw = omega (arith, length-append raw (b ∷ [])) in
    ap (λ i. get_or (raw ++ b ∷ []) i 0) at ∙ get_or-append_seam raw b [] 0

strip-other : (raw : List ℕ) (b : ℕ) → (b ≡ 13 → ⊥) → strip_carriage_return (raw ++ b ∷ []) ≡ raw ++ b ∷ []
strip-other raw b ne = rw (ap (λ x. eqb x 13) (last-pushed raw b) ∙ ne_eqb b 13 ne) refl

pub strip_return : (raw : List ℕ) → strip_carriage_return (raw ++ 13 ∷ []) ≡ raw
strip_return raw =
    let before : length (raw ++ 13 ∷ []) - 1 ≡ length raw = omega (arith, length-append raw (13 ∷ [])) in
    rw (ap (λ x. eqb x 13) (last-pushed raw 13)) (ap (λ n. take n (raw ++ 13 ∷ [])) before ∙ take-append_seam raw (13 ∷ []))

length-strip_return : (raw : List ℕ) → length (strip_carriage_return (raw ++ 13 ∷ [])) ≤ length raw
length-strip_return raw =
    rw (ap (λ x. eqb x 13) (last-pushed raw 13))
    (omega (arith, length-take (length (raw ++ 13 ∷ []) - 1) (raw ++ 13 ∷ []), length-append raw (13 ∷ [])))

-- there is room for the byte
abbrev pub has_room : List ℕ → ℕ → Bool
has_room raw b = nat_lt (length raw) 1024 || ((length raw == 1024) && (b == 13))

both : (x y : Bool) → (x && y) ≡ true → (x ≡ true) × (y ≡ true)
both true y e = (refl, e)
both false y e = absurd cc

fits-pushed : (raw : List ℕ) (b : ℕ) → has_room raw b ≡ true → (length raw ≤ 1024) × (length (strip_carriage_return (raw ++ b ∷ [])) ≤ 1024)
fits-pushed raw b h =
    elim (cases_lt (length raw) 1024) [
      | inl lt ↦ (omega arith, omega (arith, (length-strip (raw ++ b ∷ [])).1, length-append raw (b ∷ [])))
      | inr le ↦
          let at = both (eqb (length raw) 1024) (eqb b 13) (rw (le-ltb (length raw) 1024 le) at h) in
          let full = eqb-true (length raw) 1024 at.0 in
          let return = eqb-true b 13 at.1 in
          (omega arith, rw return (omega (arith, length-strip_return raw)))
    ]

pub fits-room : (raw : List ℕ) (b : ℕ) → has_room raw b ≡ true → length raw ≤ 1024
fits-room raw b h = (fits-pushed raw b h).0

other_byte : (raw : List ℕ) (b : ℕ) → 1024 ≤ length raw → length raw ≤ 1024 → has_room raw b ≡ false → b ≡ 13 → ⊥
other_byte raw b le ge h e =
    let full : length raw ≡ 1024 = omega arith in
    let no : true ≡ false = rw (le-ltb (length raw) 1024 le, full, e) at h in
    absurd cc

long_by : (raw t : List ℕ) (b : ℕ) → 1024 ≤ length raw → (b ≡ 13 → ⊥) → 1024 < length (strip_carriage_return (raw ++ (b ∷ t)))
long_by raw [] b le ne = rw (strip-other raw b ne) (omega (arith, length-append raw (b ∷ [])))
long_by raw (x ∷ t) b le ne = omega (arith, (length-strip (raw ++ (b ∷ x ∷ t))).0, length-append raw (b ∷ x ∷ t))

long-without_room : (raw t : List ℕ) (b : ℕ) → has_room raw b ≡ false → 1024 < length (strip_carriage_return (raw ++ (b ∷ t)))
long-without_room raw t b h =
    elim (cases_lt (length raw) 1024) [
      | inl lt ↦ let no : true ≡ false = rw (lt-ltb (length raw) 1024 lt) at h in absurd cc
      | inr le ↦
          elim (cases_lt 1024 (length raw)) [
            | inl more ↦ omega (arith, (length-strip (raw ++ (b ∷ t))).0, length-append raw (b ∷ t))
            | inr full ↦ long_by raw t b le (other_byte raw b le full h)
          ]
    ]

-- a part has a first piece, which begins with its first byte
first_of : (b : ℕ) (parts whole : List (List ℕ)) → whole ≡ onto_first b parts → (t : List ℕ) × (ps : List (List ℕ)) × (whole ≡ (b ∷ t) ∷ ps)
first_of b [] whole e = ([], [], e)
first_of b (p ∷ ps) whole e = (p, ps, e)

split_some : (b : ℕ) (rest : List ℕ) → is_feed b ≡ false → (t : List ℕ) × (ps : List (List ℕ)) × (slice_split is_feed (b ∷ rest) ≡ (b ∷ t) ∷ ps)
split_some b rest e = first_of b (slice_split is_feed rest) (slice_split is_feed (b ∷ rest)) (rw e refl)

lines_long : (raw : List ℕ) (b : ℕ) (rest : List ℕ) → NoFeed raw → (b ≡ 10 → ⊥) → has_room raw b ≡ false
    → (line : List ℕ) × (more : List (List ℕ)) × (script_lines (raw ++ (b ∷ rest)) ≡ line ∷ more) × (1024 < length line)
unfolding script_lines
lines_long raw b rest h ne full =
    let s = split_some b rest (ne_eqb b 10 ne) in
    let e = split_on raw (b ∷ rest) (b ∷ s.0) s.1 h s.2 in
    let f = begun_lines-first (raw ++ (b ∷ s.0)) s.1 (omega (arith, length-append raw (b ∷ s.0))) in (
      strip_carriage_return (raw ++ (b ∷ s.0)),
      map strip_carriage_return f.0,
      ap (λ (ps : List (List ℕ)). map strip_carriage_return (begun_lines ps)) e ∙ ap (map strip_carriage_return) f.1,
      long-without_room raw s.0 b full,
    )

-- ---- the bytes left in a reader

-- the bytes read so far of a line that has not ended
pub record Begins (old new : Option (List ℕ)) (raw : List ℕ) : Type 0 where
  pub taken : Consumes old new raw
  pub no_feed : NoFeed raw
  pub fits : length (strip_carriage_return raw) ≤ 1024

pub Begins-none : (c : Option (List ℕ)) → Begins c c []
Begins-none c = record { taken = Consumes-nil c; no_feed = tt; fits = omega arith }

pub Begins-more : (old mid new : Option (List ℕ)) (raw : List ℕ) (b : ℕ) → Begins old mid raw
    → Consumes mid new (b ∷ []) → (b ≡ 10 → ⊥) → has_room raw b ≡ true → Begins old new (raw ++ b ∷ [])
Begins-more old mid new raw b s h ne room =
    record {
      taken = Consumes-trans old mid new raw (b ∷ []) s.taken h;
      no_feed = NoFeed-push raw b s.no_feed ne;
      fits = (fits-pushed raw b room).1;
    }

pub ends_at_feed : (old mid new : Option (List ℕ)) (raw line : List ℕ) → Begins old mid raw
    → Consumes mid new (10 ∷ []) → line ≡ strip_carriage_return raw → TakesLine old new true line
ends_at_feed None mid new raw line s h e = tt
ends_at_feed (Some bs) None new raw line s h e = absurd s.taken
ends_at_feed (Some bs) (Some ms) None raw line s h e = h
ends_at_feed (Some bs) (Some ms) (Some rest) raw line s h e =
    ap script_lines (s.taken ∙ ap (λ (t : List ℕ). raw ++ t) h) ∙ lines_feed raw rest s.no_feed
    ∙ ap (λ (l : List ℕ). l ∷ script_lines rest) (sym e)

ends_at_end : (old mid new : Option (List ℕ)) (raw line : List ℕ) → Begins old mid raw → 0 < length raw
    → Consumes mid new [] → IsAtEnd new → line ≡ strip_carriage_return raw → TakesLine old new true line
ends_at_end None mid new raw line s some h end e = tt
ends_at_end (Some bs) None new raw line s some h end e = absurd s.taken
ends_at_end (Some bs) (Some ms) None raw line s some h end e = h
ends_at_end (Some bs) (Some ms) (Some rest) raw line s some h end e =
    let whole : bs ≡ raw = s.taken ∙ ap (λ (t : List ℕ). raw ++ t) (h ∙ end) ∙ append-nil raw in
    ap script_lines whole ∙ lines_end raw s.no_feed some ∙ ap (λ (l : List ℕ). l ∷ []) (sym e)
    ∙ ap (λ (ls : List (List ℕ)). line ∷ ls) (sym (ap script_lines end ∙ lines_none))

none_at_end : (old mid new : Option (List ℕ)) (raw line : List ℕ) → Begins old mid raw → length raw ≡ 0
    → Consumes mid new [] → IsAtEnd new → TakesLine old new false line
none_at_end None mid new raw line s none h end = tt
none_at_end (Some bs) None new raw line s none h end = absurd s.taken
none_at_end (Some bs) (Some ms) None raw line s none h end = h
none_at_end (Some bs) (Some ms) (Some rest) raw line s none h end =
    ap script_lines (s.taken ∙ ap (λ (t : List ℕ). raw ++ t) (h ∙ end) ∙ append-nil raw ∙ nil_from_length raw none)
    ∙ lines_none

-- at the end of the input a line ends if a byte of it was read
pub stops_at_end : (old mid new : Option (List ℕ)) (raw line : List ℕ) (empty : Bool) → Begins old mid raw
    → empty ≡ eqb (length raw) 0 → Consumes mid new [] → IsAtEnd new → line ≡ strip_carriage_return raw
    → TakesLine old new (not empty) line
stops_at_end old mid new raw line true s t h end e = none_at_end old mid new raw line s (eqb-true (length raw) 0 (sym t)) h end
stops_at_end old mid new raw line false s t h end e = let ne = eqb-false (length raw) 0 (sym t) in ends_at_end old mid new raw line s (omega arith) h end e

pub long_inside : (old mid new : Option (List ℕ)) (raw : List ℕ) (b : ℕ) → Begins old mid raw
    → Consumes mid new (b ∷ []) → (b ≡ 10 → ⊥) → has_room raw b ≡ false → BeginsLong old
long_inside None mid new raw b s h ne full = tt
long_inside (Some bs) None new raw b s h ne full = absurd s.taken
long_inside (Some bs) (Some ms) None raw b s h ne full = absurd h
long_inside (Some bs) (Some ms) (Some rest) raw b s h ne full =
    subst (λ (t : List ℕ). BeginsLong (Some t)) (sym (s.taken ∙ ap (λ (t : List ℕ). raw ++ t) h))
    (lines_long raw b rest s.no_feed ne full)

-- ---- a byte after the lines

-- a further line begins
abbrev pub HasMore : Option (List ℕ) → Type 0
HasMore None = Unit {0}
HasMore (Some bs) = 0 < length (script_lines bs)

lines_other : (b : ℕ) (rest : List ℕ) → is_feed b ≡ false → 0 < length (script_lines (b ∷ rest))
unfolding script_lines
lines_other b rest other =
    let s = split_some b rest other in
    let f = begun_lines-first (b ∷ s.0) s.1 (omega arith) in
    omega (
      arith,
      ap (λ (ps : List (List ℕ)). length (map strip_carriage_return (begun_lines ps))) s.2,
      ap (λ (ps : List (List ℕ)). length (map strip_carriage_return ps)) f.1,
    )

lines_some : (b : ℕ) (rest : List ℕ) → 0 < length (script_lines (b ∷ rest))
lines_some b rest =
    elim (cases_Bool (is_feed b)) [
      | inl feed ↦ subst (λ (c : ℕ). 0 < length (script_lines (c ∷ rest))) (sym (eqb-true b 10 feed)) (omega (arith, ap length (lines_feed [] rest tt)))
      | inr other ↦ lines_other b rest other
    ]

pub has_more : (old new : Option (List ℕ)) (b : ℕ) → Consumes old new (b ∷ []) → HasMore old
has_more None new b h = tt
has_more (Some bs) None b h = absurd h
has_more (Some bs) (Some rest) b h = subst (λ (t : List ℕ). 0 < length (script_lines t)) (sym h) (lines_some b rest)

pub has_none : (old new : Option (List ℕ)) → Consumes old new [] → IsAtEnd new → TakesLine old new false []
has_none None new h e = tt
has_none (Some bs) None h e = h
has_none (Some bs) (Some rest) h e = ap script_lines (h ∙ e) ∙ lines_none

-- ---- the number of line feeds read

feeds-none : (raw : List ℕ) → NoFeed raw → feed_count raw ≡ 0
feeds-none [] h = refl
feeds-none (b ∷ raw) h = rw h.0 (omega (arith, feeds-none raw h.1))

pub feeds-append : (xs ys : List ℕ) → feed_count (xs ++ ys) ≡ feed_count xs + feed_count ys
feeds-append xs ys = sum_by-append (λ (b : ℕ). cond (is_feed b) 1 0) xs ys

pub gave-none : (c : Option (List ℕ)) → GaveFeeds c c 0
gave-none c = ([], Consumes-nil c, omega arith)

pub gave-more : (old mid new : Option (List ℕ)) (n m : ℕ) → GaveFeeds old mid n → GaveFeeds mid new m → GaveFeeds old new (n + m)
gave-more old mid new n m (xs, h, le) (ys, k, le') = (xs ++ ys, Consumes-trans old mid new xs ys h k, omega (arith, feeds-append xs ys))

-- a line that has not ended
pub gave-begun_lines : (old mid new : Option (List ℕ)) (raw : List ℕ) → Begins old mid raw → Keeps mid new → GaveFeeds old new 0
gave-begun_lines old mid new raw s h = (raw, Consumes-kept old mid new raw s.taken h, omega (arith, feeds-none raw s.no_feed))

pub gave-ended : (old mid new : Option (List ℕ)) (raw : List ℕ) → Begins old mid raw → Consumes mid new (10 ∷ []) → GaveFeeds old new 1
gave-ended old mid new raw s h = gave-more old mid new 0 1 (raw, s.taken, omega (arith, feeds-none raw s.no_feed)) (10 ∷ [], h, omega arith)

pub gave-last : (old mid new : Option (List ℕ)) (raw : List ℕ) → Begins old mid raw → Consumes mid new [] → GaveFeeds old new 1
gave-last old mid new raw s h = gave-more old mid new 0 1 (raw, s.taken, omega (arith, feeds-none raw s.no_feed)) ([], h, omega arith)

-- and then bytes without a feed
pub gave-same : (old mid new : Option (List ℕ)) (n : ℕ) → GaveFeeds old mid n → GaveFeeds mid new 0 → GaveFeeds old new n
gave-same old mid new n g h = subst (GaveFeeds old new) (add-zero n) (gave-more old mid new n 0 g h)
