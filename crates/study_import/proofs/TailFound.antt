-- A tail is searched token by token.
use Rattle.std.proofs.Common.{◌≡◌, ℕ, zero, suc, ◌-◌, ◌≤◌, Bool, true, List, [], ◌∷◌, ◌++◌, length, take, Option, Some, None, Ok, Err, refl, ap, ◌∙◌}
use Rattle.std.proofs.Common.{inl, inr, arith, append_assoc}
use Rattle.std.specs.Prelude.{◌==◌, map, unwrap_or}
use Rattle.std.specs.List.{list_all}
use Rattle.std.proofs.lemmas.Bool.{cases_Bool}
use Rattle.study_marks.specs.Edits.{is_printable}
use Rattle.study_games.specs.declared.token.TokenFault.{TokenFault}
use Rattle.study_games.specs.declared.token.TokenFault.TheVariants.{Byte}
use Rattle.study_games.specs.Tokens.{Token, Lexed, lexed_token, token_at, begins_feed}
use Rattle.study_import.specs.declared.tails.Act.{Act}
use Rattle.study_import.specs.declared.tails.Act.TheVariants as act
use Rattle.study_import.specs.Tails.{byte_or_space, part_of, act_of, Sought, sought_then, Tail, on_act, on_part, tail_from, not_begun, tail_in}
use Rattle.study_games.proofs.Within.{Within, within_lexed}

spaced_prints : (b : ℕ) → is_printable (byte_or_space b) ≡ true
spaced_prints b = elim (cases_Bool (is_printable b)) [ inl prints ↦ rw prints prints | inr hidden ↦ rw hidden refl ]

pub all_spaced : (bytes : List ℕ) → list_all is_printable (map byte_or_space bytes) ≡ true
all_spaced [] = refl
all_spaced (b ∷ bs) = rw (spaced_prints b) (all_spaced bs)

pub three_joined : (out a b c : List ℕ) → ((out ++ a) ++ b) ++ c ≡ out ++ (a ++ (b ++ c))
three_joined out a b c = simp append_assoc

-- ---- a token

abbrev lexed_or : Option Lexed → Lexed
lexed_or o = unwrap_or o (Err Byte)

module _ (n m : ℕ) (fresh : Bool) (s : Sought) where
  -- if no token begins there is no tail
  pub none_on : (rest : List ℕ) (fault : TokenFault) → n ≡ suc m → token_at fresh rest ≡ Some (Err fault) → tail_from n fresh rest s ≡ None
  none_on [] fault e k = absurd cc
  none_on (b ∷ bs) fault e k =
      let l : lexed_token fresh b bs ≡ Err fault = ap lexed_or k in
      ap (λ (i : ℕ). tail_from i fresh (b ∷ bs) s) e ∙ ap (on_part (tail_from m (b == 10)) (b ∷ bs) s) l

  pub act_on : (rest : List ℕ) (t : Token) (behind : List ℕ) (what : Act) → n ≡ suc m → token_at fresh rest ≡ Some (Ok (t, behind))
      → act_of s.search (part_of t) ≡ what
      → tail_from n fresh rest s ≡ on_act (tail_from m (begins_feed rest) behind) rest s (take (length rest - length behind) rest) t what
  act_on [] t behind what e k h = absurd cc
  act_on (b ∷ bs) t behind what e k h =
      let l : lexed_token fresh b bs ≡ Ok (t, behind) = ap lexed_or k in
      ap (λ (i : ℕ). tail_from i fresh (b ∷ bs) s) e ∙ ap (on_part (tail_from m (b == 10)) (b ∷ bs) s) l
      ∙ ap (on_act (tail_from m (b == 10) behind) (b ∷ bs) s (take (length (b ∷ bs) - length behind) (b ∷ bs)) t) h

goes_on : (next : Sought → Option Tail) (text : List ℕ) (s : Sought) (bytes : List ℕ) (t : Token) (what : Act) → (what ≡ act.Begin → ⊥) → (what ≡ act.Stop → ⊥)
    → on_act next text s bytes t what ≡ next (sought_then s bytes t what)
goes_on next text s bytes t act.Keep h k = refl
goes_on next text s bytes t act.Blank h k = refl
goes_on next text s bytes t act.Skip h k = refl
goes_on next text s bytes t act.Deepen h k = refl
goes_on next text s bytes t act.Rise h k = refl
goes_on next text s bytes t act.Name h k = refl
goes_on next text s bytes t act.Begin h k = absurd (h refl)
goes_on next text s bytes t act.Stop h k = absurd (k refl)

-- the search continues after the token
pub next_on : (n m : ℕ) (fresh : Bool) (s : Sought) (rest : List ℕ) (t : Token) (behind : List ℕ) (what : Act) → n ≡ suc m
    → token_at fresh rest ≡ Some (Ok (t, behind)) → act_of s.search (part_of t) ≡ what → (what ≡ act.Begin → ⊥) → (what ≡ act.Stop → ⊥)
    → tail_from n fresh rest s ≡ tail_from m (begins_feed rest) behind (sought_then s (take (length rest - length behind) rest) t what)
next_on n m fresh s rest t behind what e k a h l =
    act_on n m fresh s rest t behind what e k a
    ∙ goes_on (tail_from m (begins_feed rest) behind) rest s (take (length rest - length behind) rest) t what h l

-- ---- a text is searched to its end

same_act : (p q : Sought → Option Tail) (text : List ℕ) (s : Sought) (bytes : List ℕ) (t : Token) (what : Act) → ((x : Sought) → p x ≡ q x)
    → on_act p text s bytes t what ≡ on_act q text s bytes t what
same_act p q text s bytes t act.Keep h = h (sought_then s bytes t act.Keep)
same_act p q text s bytes t act.Blank h = h (sought_then s bytes t act.Blank)
same_act p q text s bytes t act.Skip h = h (sought_then s bytes t act.Skip)
same_act p q text s bytes t act.Deepen h = h (sought_then s bytes t act.Deepen)
same_act p q text s bytes t act.Rise h = h (sought_then s bytes t act.Rise)
same_act p q text s bytes t act.Name h = h (sought_then s bytes t act.Name)
same_act p q text s bytes t act.Begin h = refl
same_act p q text s bytes t act.Stop h = refl

same_part : (p q : List ℕ → Sought → Option Tail) (text : List ℕ) (n : ℕ) (s : Sought) (x : Lexed) → Within n x
    → ((bs : List ℕ) (y : Sought) → length bs ≤ n → p bs y ≡ q bs y) → on_part p text s x ≡ on_part q text s x
same_part p q text n s (Err fault) w h = refl
same_part p q text n s (Ok x) w h =
    same_act (p x.1) (q x.1) text s (take (length text - length x.1) text) x.0 (act_of s.search (part_of x.0)) (λ y. h x.1 y w)

pub tail_same : (n m : ℕ) (fresh : Bool) (text : List ℕ) (s : Sought) → length text ≤ n → length text ≤ m → tail_from n fresh text s ≡ tail_from m fresh text s
tail_same zero zero fresh text s h k = refl
tail_same zero (suc m) fresh [] s h k = refl
tail_same zero (suc m) fresh (b ∷ bs) s h k = absurd (omega arith)
tail_same (suc n) zero fresh [] s h k = refl
tail_same (suc n) zero fresh (b ∷ bs) s h k = absurd (omega arith)
tail_same (suc n) (suc m) fresh [] s h k = refl
tail_same (suc n) (suc m) fresh (b ∷ bs) s h k =
    same_part (tail_from n (b == 10)) (tail_from m (b == 10)) (b ∷ bs) (length bs) s (lexed_token fresh b bs) (within_lexed fresh b bs)
    (λ rest x le. tail_same n m (b == 10) rest x (omega arith) (omega arith))

pub tail_whole : (text : List ℕ) (n : ℕ) → length text ≤ n → tail_from n true text (not_begun []) ≡ tail_in text
unfolding tail_in
tail_whole text n le = tail_same n (length text) true text (not_begun []) le (omega arith)
