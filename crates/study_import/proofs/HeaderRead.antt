-- The header of a study is read back.
use Rattle.std.proofs.Common.{◌≡◌, ℕ, suc, ◌+◌, ◌≤◌, Bool, true, false, List, [], ◌∷◌, ◌++◌, length, drop, map, Option, Some, None, Ok, Err, refl}
use Rattle.std.proofs.Common.{sym, ap, subst, ◌∙◌, inl, inr, arith, append_assoc, add-zero}
use Rattle.std.specs.Prelude.{◌==◌, ◌||◌, nat_le, codes, if◌then◌else◌}
use Rattle.std.specs.List.{list_all, flat_map}
use Rattle.std.proofs.lemmas.Bool.{cases_Bool, ne_eqb, and_parts, or_parts, leb-true}
use Rattle.std.proofs.lemmas.List.{take_at, drop_at}
use Rattle.study_marks.specs.Edits.{is_printable}
use Rattle.study_pgn.specs.Tags.{with_backslash, tag_line}
use Rattle.study_games.specs.Bytes.{is_gap, is_letter, is_name_byte}
use Rattle.study_games.specs.Tokens.{Token, Lexed, lexed_token, front, behind, ends_tag, value_end, behind_value, lexed_value, lexed_quotation, lexed_name}
use Rattle.study_games.specs.Tokens.{tag_at, blank, tag}
use Rattle.study_games.specs.Header.{Pair, Step, on, step_of, with_tags, tags_in, with_fault, fault_in, unescape}
use Rattle.study_games.specs.declared.token.TokenFault.TheVariants.{TagForm}
use Rattle.study_games.specs.declared.header.HeaderFault.{HeaderFault}
use Rattle.study_games.proofs.Lexing.{run_cut}
use Rattle.study_import.specs.FewMen.{GameRead, game_taken}
use Rattle.study_games.proofs.Within.{within_lexed}
use Rattle.study_import.proofs.Whole.{within_step, same_tags, same_fault, tags_same, fault_same}
use Rattle.study_import.proofs.ReadSteps.{reads, on_step}

-- ---- a value in quotation marks

abbrev Prints : List ℕ → Type 0
Prints t = list_all is_printable t ≡ true

no_feed : (b : ℕ) → is_printable b ≡ true → (b == 10) ≡ false
no_feed b h = let low : 32 ≤ b = leb-true 32 b (and_parts (nat_le 32 b) (nat_le b 126) h).0 in ne_eqb b 10 (λ e. omega arith)

closing : (rest : List ℕ) → ends_tag (93 ∷ rest) ≡ true
unfolding ends_tag
closing rest = refl

escape_end : (n b : ℕ) (bs : List ℕ) → (b == 10) ≡ false → value_end n false (92 ∷ b ∷ bs) ≡ value_end (n + 1 + 1) false bs
escape_end n b bs h = rw h refl

plain_end : (n b : ℕ) (bs : List ℕ) → (b == 10) ≡ false → (b == 34) ≡ false → (b == 92) ≡ false → value_end n false (b ∷ bs) ≡ value_end (n + 1) false bs
plain_end n b bs h k l = rw (h, k, l) refl

end_is : (text rest : List ℕ) (n : ℕ) → Prints text → value_end n false (flat_map with_backslash text ++ (34 ∷ 93 ∷ rest))
    ≡ Some (n + length (flat_map with_backslash text))
end_is [] rest n h = rw (closing rest) (ap (λ (k : ℕ). Some k) (sym (add-zero n)))
end_is (b ∷ text) rest n h =
    let a = and_parts (is_printable b) (list_all is_printable text) h in
    let feed = no_feed b a.0 in
    elim (cases_Bool (b == 34 || b == 92)) [
      | inl odd ↦
          let e : n + 1 + 1 + length (flat_map with_backslash text) ≡ n + suc (suc (length (flat_map with_backslash text))) = omega arith in
          rw odd (escape_end n b (flat_map with_backslash text ++ (34 ∷ 93 ∷ rest)) feed ∙ end_is text rest (n + 1 + 1) a.1 ∙ ap (λ (k : ℕ). Some k) e)
      | inr plain ↦
          let o = or_parts (b == 34) (b == 92) plain in
          let e : n + 1 + length (flat_map with_backslash text) ≡ n + suc (length (flat_map with_backslash text)) = omega arith in
          rw plain (plain_end n b (flat_map with_backslash text ++ (34 ∷ 93 ∷ rest)) feed o.0 o.1 ∙ end_is text rest (n + 1) a.1 ∙ ap (λ (k : ℕ). Some k) e)
    ]

plain_byte : (b : ℕ) (xs : List ℕ) → (b == 92) ≡ false → unescape (b ∷ xs) ≡ b ∷ unescape xs
plain_byte b [] h = refl
plain_byte b (x ∷ xs) h = rw h refl

escaped_byte : (b : ℕ) (xs : List ℕ) → (b == 34 || b == 92) ≡ true → unescape (92 ∷ b ∷ xs) ≡ b ∷ unescape xs
escaped_byte b xs h = rw h refl

pub value_again : (text : List ℕ) → unescape (flat_map with_backslash text) ≡ text
value_again [] = refl
value_again (b ∷ text) = elim (cases_Bool (b == 34 || b == 92)) [
  | inl odd ↦ rw odd (escaped_byte b (flat_map with_backslash text) odd ∙ ap (λ (t : List ℕ). b ∷ t) (value_again text))
  | inr plain ↦ rw plain (plain_byte b (flat_map with_backslash text) (or_parts (b == 34) (b == 92) plain).1 ∙ ap (λ (t : List ℕ). b ∷ t) (value_again text))
]

-- ---- a line of a tag

pub record IsName (name : List ℕ) : Type 0 where
  pub first : ℕ
  pub more : List ℕ
  pub text : name ≡ first ∷ more
  pub letter : is_letter first ≡ true
  pub gap : is_gap first ≡ false
  pub all : list_all is_name_byte name ≡ true

abbrev pub tag_text_line : List ℕ → List ℕ → List ℕ → List ℕ
tag_text_line name text rest = 91 ∷ (name ++ (32 ∷ 34 ∷ (flat_map with_backslash text ++ (34 ∷ 93 ∷ rest))))

name_stop : (b : ℕ) (bs : List ℕ) → is_gap b ≡ false → behind is_gap (b ∷ bs) ≡ b ∷ bs
name_stop b bs h = (run_cut is_gap [] (b ∷ bs) refl h).1

value_behind : (rest : List ℕ) → behind_value (34 ∷ 93 ∷ rest) ≡ rest
unfolding behind_value
value_behind rest = refl

valued_is : (name text rest : List ℕ) → Prints text
    → lexed_value name (flat_map with_backslash text ++ (34 ∷ 93 ∷ rest)) (value_end 0 false (flat_map with_backslash text ++ (34 ∷ 93 ∷ rest)))
    ≡ Ok (tag name (flat_map with_backslash text), rest)
valued_is name text rest h =
    let v = flat_map with_backslash text in
    let n : 0 + length v ≡ length v = omega arith in
    ap (lexed_value name (v ++ (34 ∷ 93 ∷ rest))) (end_is text rest 0 h ∙ ap (λ (k : ℕ). Some k) n)
    ∙ ap (λ (t : List ℕ). Ok (tag name t, behind_value (drop (length v) (v ++ (34 ∷ 93 ∷ rest))))) (take_at v (34 ∷ 93 ∷ rest) (length v) refl)
    ∙ ap (λ (t : List ℕ). Ok (tag name v, behind_value t)) (drop_at v (34 ∷ 93 ∷ rest) (length v) refl)
    ∙ ap (λ (t : List ℕ). Ok (tag name v, t)) (value_behind rest)

quoted_is : (name text rest : List ℕ) → Prints text → lexed_quotation name (34 ∷ (flat_map with_backslash text ++ (34 ∷ 93 ∷ rest))) ≡ Ok (
  tag name (flat_map with_backslash text),
  rest,
)
quoted_is name text rest h = valued_is name text rest h

named_by : (b : ℕ) (bs : List ℕ) → is_letter b ≡ true → lexed_name (b ∷ bs)
    ≡ lexed_quotation (front is_name_byte (b ∷ bs)) (behind is_gap (behind is_name_byte (b ∷ bs)))
named_by b bs h =
    ap (λ (c : Bool). if c then lexed_quotation (front is_name_byte (b ∷ bs)) (behind is_gap (behind is_name_byte (b ∷ bs))) else Err TagForm) h

named_is : (name text rest : List ℕ) (is : IsName name) → Prints text
    → lexed_name (is.first ∷ (is.more ++ (32 ∷ 34 ∷ (flat_map with_backslash text ++ (34 ∷ 93 ∷ rest))))) ≡ Ok (tag name (flat_map with_backslash text), rest)
named_is name text rest is h =
    let after_name = 32 ∷ 34 ∷ (flat_map with_backslash text ++ (34 ∷ 93 ∷ rest)) in
    let all : list_all is_name_byte (is.first ∷ is.more) ≡ true = subst (λ (t : List ℕ). list_all is_name_byte t ≡ true) is.text is.all in
    let cut = run_cut is_name_byte (is.first ∷ is.more) after_name all refl in
    let gap = run_cut is_gap (32 ∷ []) (34 ∷ (flat_map with_backslash text ++ (34 ∷ 93 ∷ rest))) refl refl in
    named_by is.first (is.more ++ after_name) is.letter
    ∙ ap (λ (t : List ℕ). lexed_quotation t (behind is_gap (behind is_name_byte ((is.first ∷ is.more) ++ after_name)))) cut.0
    ∙ ap (λ (t : List ℕ). lexed_quotation (is.first ∷ is.more) (behind is_gap t)) cut.1 ∙ ap (lexed_quotation (is.first ∷ is.more)) gap.1
    ∙ quoted_is (is.first ∷ is.more) text rest h ∙ ap (λ (t : List ℕ). Ok (tag t (flat_map with_backslash text), rest)) (sym is.text)

tag_is : (name text rest : List ℕ) → IsName name → Prints text → tag_at (name ++ (32 ∷ 34 ∷ (flat_map with_backslash text ++ (34 ∷ 93 ∷ rest)))) ≡ Ok
    (tag name (flat_map with_backslash text), rest)
unfolding tag_at
tag_is name text rest is h =
    let after_name = 32 ∷ 34 ∷ (flat_map with_backslash text ++ (34 ∷ 93 ∷ rest)) in
    ap (λ (t : List ℕ). lexed_name (behind is_gap (t ++ after_name))) is.text ∙ ap lexed_name (name_stop is.first (is.more ++ after_name) is.gap)
    ∙ named_is name text rest is h

lexed_bracket : (bs : List ℕ) (fresh : Bool) → lexed_token fresh 91 bs ≡ tag_at bs
unfolding lexed_token
lexed_bracket bs true = refl
lexed_bracket bs false = refl

pub line_lexed : (name text rest : List ℕ) (fresh : Bool) → IsName name → Prints text
    → lexed_token fresh 91 (name ++ (32 ∷ 34 ∷ (flat_map with_backslash text ++ (34 ∷ 93 ∷ rest)))) ≡ Ok (tag name (flat_map with_backslash text), rest)
line_lexed name text rest fresh is h = lexed_bracket (name ++ (32 ∷ 34 ∷ (flat_map with_backslash text ++ (34 ∷ 93 ∷ rest)))) fresh ∙ tag_is name text rest is h

pub feed_lexed : (bs : List ℕ) (fresh : Bool) → lexed_token fresh 10 bs ≡ Ok (blank, bs)
unfolding lexed_token
feed_lexed bs true = refl
feed_lexed bs false = refl

-- ---- step by step

abbrev pub tags_from : Bool → List ℕ → List Pair
tags_from fresh text = tags_in (length text) fresh text

abbrev pub fault_from : Bool → List ℕ → Option HeaderFault
fault_from fresh text = fault_in (length text) fresh text

on_tags : (fresh : Bool) (b : ℕ) (bs : List ℕ) → tags_from fresh (b ∷ bs) ≡ with_tags (λ rest. tags_from (b == 10) rest) (step_of (lexed_token fresh b bs))
on_tags fresh b bs =
    same_tags (tags_in (length bs) (b == 10)) (λ rest. tags_from (b == 10) rest) (length bs) (step_of (lexed_token fresh b bs))
    (within_step (length bs) (lexed_token fresh b bs) (within_lexed fresh b bs))
    (λ rest le. tags_same (length bs) (length rest) (b == 10) rest le (omega arith))

on_fault : (fresh : Bool) (b : ℕ) (bs : List ℕ) → fault_from fresh (b ∷ bs) ≡ with_fault (λ rest. fault_from (b == 10) rest) (length (b ∷ bs))
    (step_of (lexed_token fresh b bs))
on_fault fresh b bs =
    same_fault (fault_in (length bs) (b == 10)) (λ rest. fault_from (b == 10) rest) (length (b ∷ bs)) (length bs) (step_of (lexed_token fresh b bs))
    (within_step (length bs) (lexed_token fresh b bs) (within_lexed fresh b bs))
    (λ rest le. fault_same (length bs) (length rest) (b == 10) rest le (omega arith))

pub tags_step : (fresh : Bool) (b : ℕ) (bs rest : List ℕ) (t : Token) (s : Step) → lexed_token fresh b bs ≡ Ok (t, rest) → step_of (Ok (t, rest)) ≡ s
    → tags_from fresh (b ∷ bs) ≡ with_tags (λ r. tags_from (b == 10) r) s
tags_step fresh b bs rest t s e k = on_tags fresh b bs ∙ ap (λ (x : Lexed). with_tags (λ r. tags_from (b == 10) r) (step_of x)) e
    ∙ ap (with_tags (λ r. tags_from (b == 10) r)) k

pub fault_step : (fresh : Bool) (b : ℕ) (bs rest : List ℕ) (t : Token) (s : Step) → lexed_token fresh b bs ≡ Ok (t, rest) → step_of (Ok (t, rest)) ≡ s
    → fault_from fresh (b ∷ bs) ≡ with_fault (λ r. fault_from (b == 10) r) (length (b ∷ bs)) s
fault_step fresh b bs rest t s e k =
    on_fault fresh b bs ∙ ap (λ (x : Lexed). with_fault (λ r. fault_from (b == 10) r) (length (b ∷ bs)) (step_of x)) e
    ∙ ap (with_fault (λ r. fault_from (b == 10) r) (length (b ∷ bs))) k

-- a line of a tag, with its line feed, in all three readings
pub record LineRead (name text rest : List ℕ) (fresh : Bool) (g : GameRead) : Type 0 where
  pub tags : tags_from fresh (tag_text_line name text (10 ∷ rest)) ≡ (name, flat_map with_backslash text) ∷ tags_from true rest
  pub fault : fault_from fresh (tag_text_line name text (10 ∷ rest)) ≡ fault_from true rest
  pub moves : g.notes.in_header ≡ true → reads fresh (tag_text_line name text (10 ∷ rest)) g ≡ reads true rest g

header_takes : (g : GameRead) (name value : List ℕ) → g.notes.in_header ≡ true → game_taken g (tag name value) ≡ Ok (record { game = g; ended = false })
header_takes g name value h = rw h refl

pub line_read : (name text rest : List ℕ) (fresh : Bool) (g : GameRead) → IsName name → Prints text → LineRead name text rest fresh g
line_read name text rest fresh g is h =
    let lex = line_lexed name text (10 ∷ rest) fresh is h in
    let bs = name ++ (32 ∷ 34 ∷ (flat_map with_backslash text ++ (34 ∷ 93 ∷ 10 ∷ rest))) in
    let t = tag name (flat_map with_backslash text) in
    record {
      tags = tags_step fresh 91 bs (10 ∷ rest) t (on (Some (name, flat_map with_backslash text)) (10 ∷ rest)) lex refl
          ∙ ap (λ (ps : List Pair). (name, flat_map with_backslash text) ∷ ps) (tags_step false 10 rest rest blank (on None rest) (feed_lexed rest false) refl);
      fault = fault_step fresh 91 bs (10 ∷ rest) t (on (Some (name, flat_map with_backslash text)) (10 ∷ rest)) lex refl
          ∙ fault_step false 10 rest rest blank (on None rest) (feed_lexed rest false) refl;
      moves = λ header. on_step fresh 91 bs g t (10 ∷ rest) g lex (λ _ _ _. refl) (header_takes g name (flat_map with_backslash text) header)
          ∙ on_step false 10 rest g blank rest g (feed_lexed rest false) (λ _ _ _. refl) refl;
    }

pub line_is : (name text rest : List ℕ) → tag_line name text ++ rest ≡ tag_text_line name text (10 ∷ rest)
unfolding tag_line
line_is name text rest = regroup name (flat_map with_backslash text) rest
  where
    regroup : (a b c : List ℕ) → (codes "[" ++ (a ++ (codes " \"" ++ (b ++ codes "\"]\n")))) ++ c ≡ 91 ∷ (a ++ (32 ∷ 34 ∷ (b ++ (34 ∷ 93 ∷ 10 ∷ c))))
    regroup a b c = simp append_assoc

-- ---- lines of tags

abbrev pub Named : Type 0
Named = List ℕ × List ℕ

abbrev pub written : List Named → List ℕ → List ℕ
written [] rest = rest
written (p ∷ ps) rest = tag_line p.0 p.1 ++ written ps rest

abbrev pub AllNamed : List Named → Type 0
AllNamed [] = Unit {0}
AllNamed (p ∷ ps) = IsName p.0 × Prints p.1 × AllNamed ps

abbrev pub pairs_of : List Named → List Pair
pairs_of ps = map (λ p. (p.0, flat_map with_backslash p.1)) ps

pub record LinesRead (ps : List Named) (rest : List ℕ) (fresh : Bool) (g : GameRead) : Type 0 where
  pub then_fresh : Bool
  pub tags : tags_from fresh (written ps rest) ≡ pairs_of ps ++ tags_from then_fresh rest
  pub fault : fault_from fresh (written ps rest) ≡ fault_from then_fresh rest
  pub moves : g.notes.in_header ≡ true → reads fresh (written ps rest) g ≡ reads then_fresh rest g

pub lines_read : (ps : List Named) (rest : List ℕ) (fresh : Bool) (g : GameRead) → AllNamed ps → LinesRead ps rest fresh g
lines_read [] rest fresh g h = record { then_fresh = fresh; tags = refl; fault = refl; moves = λ _. refl }
lines_read (p ∷ ps) rest fresh g h =
    let behind = written ps rest in
    let later = lines_read ps rest true g h.2 in
    let one = line_read p.0 p.1 behind fresh g h.0 h.1 in
    let text = line_is p.0 p.1 behind in
    record {
      then_fresh = later.then_fresh;
      tags = ap (tags_from fresh) text ∙ one.tags ∙ ap (λ (xs : List Pair). (p.0, flat_map with_backslash p.1) ∷ xs) later.tags;
      fault = ap (fault_from fresh) text ∙ one.fault ∙ later.fault;
      moves = λ header. ap (λ (t : List ℕ). reads fresh t g) text ∙ one.moves header ∙ later.moves header;
    }
