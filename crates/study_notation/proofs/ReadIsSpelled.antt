-- Texts are spelled as they are read.
use Rattle.std.proofs.Common.{◌≡◌, ℕ, ◌+◌, ◌*◌, ◌-◌, ◌/◌, ◌%◌, ◌<◌, Bool, true, false, cond}
use Rattle.std.proofs.Common.{◌&&◌, eqb, leb, List, [], ◌∷◌, ◌++◌, Option, Some, None, refl}
use Rattle.std.proofs.Common.{sym, ap, subst, ◌∙◌, inl, inr, arith, append_assoc}
use Rattle.std.specs.Prelude.{IfSome}
use Rattle.std.proofs.lemmas.Bool.{cases_Bool, eqb-true, leb-true, and_parts}
use Rattle.study_board.specs.declared.men.Kind.{Kind}
use Rattle.study_notation.specs.declared.san.San.{San}
use Rattle.study_notation.specs.San.{Says, kind_text, file_text, rank_text, takes_text, promotion_text, is_ending}
use Rattle.study_moves.specs.Rules.{is_promotion_piece}
use Rattle.study_notation.specs.FenSpelling.{square_text}
use Rattle.study_notation.specs.SanParts.{◌>>=◌, SanSquares, kind_at, file_at, rank_at, takes_at}
use Rattle.study_notation.specs.SanParts.{promotion_piece, promotion_piece_at, split_kind, required_kind, promotion_at}
use Rattle.study_notation.specs.SanParts.{squares_from, rank_behind, squares_at, san_of}

bind_some : {A B : Type 0} (o : Option A) (f : A → Option B) (y : B) → (o >>= f) ≡ Some y → (x : A) × (o ≡ Some x) × (f x ≡ Some y)
bind_some (Some x) f y e = (x, refl, e)
bind_some None f y e = absurd cc

kind_takes : (text : List ℕ) → text ≡ kind_text (kind_at text).0 ++ (kind_at text).1
unfolding kind_at
kind_takes [] = refl
kind_takes (b ∷ bs) =
    elim (cases_Bool (eqb b 75)) [
      | inl h ↦ rw h (ap (λ c. c ∷ bs) (eqb-true b 75 h))
      | inr h ↦ rw h (elim (cases_Bool (eqb b 81)) [
        | inl h ↦ rw h (ap (λ c. c ∷ bs) (eqb-true b 81 h))
        | inr h ↦ rw h (elim (cases_Bool (eqb b 82)) [
          | inl h ↦ rw h (ap (λ c. c ∷ bs) (eqb-true b 82 h))
          | inr h ↦ rw h (elim (cases_Bool (eqb b 66)) [
            | inl h ↦ rw h (ap (λ c. c ∷ bs) (eqb-true b 66 h))
            | inr h ↦ rw h (elim (cases_Bool (eqb b 78)) [
              | inl h ↦ rw h (ap (λ c. c ∷ bs) (eqb-true b 78 h))
              | inr h ↦ rw h refl
            ])
          ])
        ])
      ])
    ]

file_takes : (text : List ℕ) → (text ≡ file_text (file_at text).0 ++ (file_at text).1) × IfSome (file_at text).0 (λ f. f < 8)
unfolding file_at
file_takes [] = (refl, tt)
file_takes (b ∷ bs) =
    elim (cases_Bool (leb 97 b && leb b 104)) [
      | inl h ↦
          let p = and_parts (leb 97 b) (leb b 104) h in
          let low = leb-true 97 b p.0 in
          let high = leb-true b 104 p.1 in
          let e : b ≡ 97 + (b - 97) = omega arith in
          rw h (ap (λ c. c ∷ bs) e, omega arith)
      | inr h ↦ rw h (refl, tt)
    ]

rank_takes : (text : List ℕ) → (text ≡ rank_text (rank_at text).0 ++ (rank_at text).1) × IfSome (rank_at text).0 (λ r. r < 8)
unfolding rank_at
rank_takes [] = (refl, tt)
rank_takes (b ∷ bs) =
    elim (cases_Bool (leb 49 b && leb b 56)) [
      | inl h ↦
          let p = and_parts (leb 49 b) (leb b 56) h in
          let low = leb-true 49 b p.0 in
          let high = leb-true b 56 p.1 in
          let e : b ≡ 49 + (b - 49) = omega arith in
          rw h (ap (λ c. c ∷ bs) e, omega arith)
      | inr h ↦ rw h (refl, tt)
    ]

takes_takes : (text : List ℕ) → text ≡ takes_text (takes_at text).0 ++ (takes_at text).1
unfolding takes_at
takes_takes [] = refl
takes_takes (b ∷ bs) = elim (cases_Bool (eqb b 120)) [ inl h ↦ rw h (ap (λ c. c ∷ bs) (eqb-true b 120 h)) | inr h ↦ rw h refl ]

abbrev coords : SanSquares → List ℕ → List ℕ
coords q t = file_text q.file ++ (rank_text q.rank ++ (takes_text q.is_capture ++ (square_text q.target ++ t)))

pub record Found (text : List ℕ) (q : SanSquares) (rest : List ℕ) : Type 0 where
  pub parts : text ≡ coords q rest
  pub file : IfSome q.file (λ f. f < 8)
  pub rank : IfSome q.rank (λ r. r < 8)
  pub target : q.target < 64

found_at : (f r : Option ℕ) (x : Bool) (a b : ℕ) (t : List ℕ) → IfSome f (λ k. k < 8) → IfSome r (λ k. k < 8) → a < 8 → b < 8
    → Found (file_text f ++ (rank_text r ++ (takes_text x ++ ((97 + a) ∷ (49 + b) ∷ t)))) (record { file = f; rank = r; is_capture = x; target = 8 * b + a }) t
found_at f r x a b t hf hr ha hb =
    let m : (8 * b + a) % 8 ≡ a = omega arith in
    let d : (8 * b + a) / 8 ≡ b = omega arith in
    record { parts = rw (m, d) refl; file = hf; rank = hr; target = omega arith }

abbrev ends : List ℕ → SanSquares → Option (SanSquares × List ℕ)
ends t s = Some (s, t)

abbrev some : {A : Type 0} → A → Option A
some x = Some x

some_is : {A : Type 0} (x y : A) → some x ≡ some y → x ≡ y
some_is x y e = cc

behind : (f r : Option ℕ) (x : Bool) (a : ℕ) (u : List ℕ) (tr : Option ℕ) (t : List ℕ) (q : SanSquares) (rest : List ℕ)
    → IfSome f (λ k. k < 8) → IfSome r (λ k. k < 8) → a < 8 → u ≡ rank_text tr ++ t → IfSome tr (λ k. k < 8)
    → (squares_from f r x (Some a) tr >>= ends t) ≡ Some (q, rest) → Found (file_text f ++ (rank_text r ++ (takes_text x ++ ((97 + a) ∷ u)))) q rest
behind f r x a u None t q rest hf hr ha k hb e = absurd cc
behind f r x a u (Some b) t q rest hf hr ha k hb e =
    let made : SanSquares × List ℕ = (record { file = f; rank = r; is_capture = x; target = 8 * b + a }, t) in
    subst (λ (v : List ℕ). Found (file_text f ++ (rank_text r ++ (takes_text x ++ ((97 + a) ∷ v)))) q rest) (sym k)
    (subst
    (λ (y : SanSquares × List ℕ). Found
    (file_text f ++ (rank_text r ++ (takes_text x ++ ((97 + a) ∷ (49 + b) ∷ t)))) y.0 y.1)
    (some_is made (q, rest) e) (found_at f r x a b t hf hr ha hb))

from_takes : (f r : Option ℕ) (x : Bool) (tf : Option ℕ) (u : List ℕ) (q : SanSquares) (rest : List ℕ)
    → IfSome f (λ k. k < 8) → IfSome r (λ k. k < 8) → IfSome tf (λ k. k < 8)
    → (squares_from f r x tf (rank_behind (tf, u)).0 >>= ends (rank_behind (tf, u)).1) ≡ Some (q, rest)
    → Found (file_text f ++ (rank_text r ++ (takes_text x ++ (file_text tf ++ u)))) q rest
from_takes f r x (Some a) u q rest hf hr ha e =
    let k = rank_takes u in
    behind f r x a u (rank_at u).0 (rank_at u).1 q rest hf hr ha k.0 k.1 e
from_takes None r x None u q rest hf hr ha e = absurd cc
from_takes (Some f) None x None u q rest hf hr ha e = absurd cc
from_takes (Some f) (Some r) true None u q rest hf hr ha e = absurd cc
from_takes (Some f) (Some r) false None u q rest hf hr ha e =
    let made : SanSquares × List ℕ = (record { file = None; rank = None; is_capture = false; target = 8 * r + f }, u) in
    subst (λ (y : SanSquares × List ℕ). Found ((97 + f) ∷ (49 + r) ∷ u) y.0 y.1) (some_is made (q, rest) e) (found_at None None false f r u tt tt hf hr)

squares_takes : (text : List ℕ) (q : SanSquares) (rest : List ℕ) → squares_at text ≡ Some (q, rest) → Found text q rest
unfolding squares_at
squares_takes text q rest e =
    let f = file_at text in
    let r = rank_at f.1 in
    let x = takes_at r.1 in
    let tf = file_at x.1 in
    let hf = file_takes text in
    let hr = rank_takes f.1 in
    let hx = takes_takes r.1 in
    let ht = file_takes x.1 in
    let whole : text ≡ file_text f.0 ++ (rank_text r.0 ++ (takes_text x.0 ++ (file_text tf.0 ++ tf.1))) =
    hf.0 ∙ ap (λ (t : List ℕ). file_text f.0 ++ t)
    (hr.0 ∙ ap (λ (t : List ℕ). rank_text r.0 ++ t) (hx ∙ ap (λ (t : List ℕ). takes_text x.0 ++ t) ht.0)) in
    subst (λ (t : List ℕ). Found t q rest) (sym whole) (from_takes f.0 r.0 x.0 tf.0 tf.1 q rest hf.1 hr.1 ht.1 e)

-- ---- the promotion

abbrev IsLetter : ℕ → Option Kind → Type 0
IsLetter b o = IfSome o (λ k. (b ∷ [] ≡ kind_text k) × (is_promotion_piece k ≡ true))

officer_takes : (b : ℕ) → IsLetter b (promotion_piece b)
unfolding promotion_piece
officer_takes b =
    elim (cases_Bool (eqb b 81)) [
      | inl h ↦ rw h (ap (λ c. c ∷ []) (eqb-true b 81 h), refl)
      | inr h ↦ rw h (elim (cases_Bool (eqb b 82)) [
        | inl h ↦ rw h (ap (λ c. c ∷ []) (eqb-true b 82 h), refl)
        | inr h ↦ rw h (elim (cases_Bool (eqb b 66)) [
          | inl h ↦ rw h (ap (λ c. c ∷ []) (eqb-true b 66 h), refl)
          | inr h ↦ rw h (elim (cases_Bool (eqb b 78)) [
            | inl h ↦ rw h (ap (λ c. c ∷ []) (eqb-true b 78 h), refl)
            | inr h ↦ rw h tt
          ])
        ])
      ])
    ]

abbrev Promotes : List ℕ → Option Kind → List ℕ → Type 0
Promotes text p rest = ((equals : Bool) × (text ≡ promotion_text equals p ++ rest)) × IfSome p (λ k. is_promotion_piece k ≡ true)

-- an optional letter, and the bytes after it
given_takes : (o : Option Kind) (b : ℕ) (bs : List ℕ) → IsLetter b o → Promotes (b ∷ bs) (split_kind o b bs).0 (split_kind o b bs).1
given_takes None b bs h = ((false, refl), tt)
given_takes (Some k) b bs h = ((false, ap (λ (t : List ℕ). t ++ bs) h.0), h.1)

wanted_takes : (o : Option Kind) (b : ℕ) (bs : List ℕ) (p : Option Kind) (rest : List ℕ) → IsLetter b o
    → required_kind (split_kind o b bs) ≡ Some (p, rest) → Promotes (61 ∷ b ∷ bs) p rest
wanted_takes None b bs p rest h e = absurd cc
wanted_takes (Some k) b bs p rest h e =
    let made : Option Kind × List ℕ = (Some k, bs) in
    subst (λ (y : Option Kind × List ℕ). Promotes (61 ∷ b ∷ bs) y.0 y.1) (some_is made (p, rest) e) ((true, ap (λ (t : List ℕ). 61 ∷ (t ++ bs)) h.0), h.1)

equals_takes : (bs : List ℕ) (p : Option Kind) (rest : List ℕ) → required_kind (promotion_piece_at bs) ≡ Some (p, rest) → Promotes (61 ∷ bs) p rest
unfolding promotion_piece_at
equals_takes [] p rest e = absurd cc
equals_takes (b ∷ bs) p rest e = wanted_takes (promotion_piece b) b bs p rest (officer_takes b) e

plain_takes : (b : ℕ) (bs : List ℕ) (p : Option Kind) (rest : List ℕ) → some (promotion_piece_at (b ∷ bs)) ≡ some (p, rest) → Promotes (b ∷ bs) p rest
unfolding promotion_piece_at
plain_takes b bs p rest e =
    subst (λ (y : Option Kind × List ℕ). Promotes (b ∷ bs) y.0 y.1)
    (some_is (split_kind (promotion_piece b) b bs) (p, rest) e) (given_takes (promotion_piece b) b bs (officer_takes b))

promotion_takes : (text : List ℕ) (p : Option Kind) (rest : List ℕ) → promotion_at text ≡ Some (p, rest) → Promotes text p rest
unfolding promotion_at
promotion_takes [] p rest e =
    let made : Option Kind × List ℕ = (None, []) in
    subst (λ (y : Option Kind × List ℕ). Promotes [] y.0 y.1) (some_is made (p, rest) e) ((false, refl), tt)
promotion_takes (b ∷ bs) p rest e =
    elim (cases_Bool (eqb b 61)) [
      | inl h ↦ subst (λ c. Promotes (c ∷ bs) p rest) (sym (eqb-true b 61 h)) (equals_takes bs p rest (rw h at e))
      | inr h ↦ plain_takes b bs p rest (rw h at e)
    ]

-- ---- all of it

guard_some : {A : Type 0} (b : Bool) (x y : A) → cond b (some x) None ≡ some y → (b ≡ true) × (x ≡ y)
guard_some true x y e = (refl, cc)
guard_some false x y e = absurd cc

regrouped : (a b c d e f t : List ℕ) → (a ++ (b ++ (c ++ (d ++ (e ++ f))))) ++ t ≡ a ++ (b ++ (c ++ (d ++ (e ++ (f ++ t)))))
regrouped a b c d e f t = simp append_assoc

abbrev made : Kind → SanSquares → Option Kind → San
made k q p = record { kind = k; file = q.file; rank = q.rank; is_capture = q.is_capture; target = q.target; promoted = p }

-- the parts of a text, one after another
assembled : (text : List ℕ) (k : Kind) (at_squares : List ℕ) (q : SanSquares) (at_promotion : List ℕ) (p : Option Kind) (ending : List ℕ)
    → text ≡ kind_text k ++ at_squares → Found at_squares q at_promotion → Promotes at_promotion p ending → is_ending ending ≡ true → Says text (made k q p)
assembled text k at_squares q at_promotion p ending begins found promotes ends =
    let equals = promotes.0.0 in
    let rest : at_squares ≡ coords q (promotion_text equals p ++ ending) = found.parts ∙ ap (λ (t : List ℕ). coords q t) promotes.0.1 in
    let whole : text ≡ kind_text k ++ coords q (promotion_text equals p ++ ending) = begins ∙ ap (λ (t : List ℕ). kind_text k ++ t) rest in
    let grouped = regrouped (kind_text k) (file_text q.file) (rank_text q.rank) (takes_text q.is_capture) (square_text q.target) (promotion_text equals p)
    ending in
    (record { file = found.file; rank = found.rank; target = found.target; promoted = promotes.1 }, (equals, ending, ends, whole ∙ sym grouped))

abbrev ended : Kind → SanSquares → Option Kind × List ℕ → Option San
ended k q p = cond (is_ending p.1) (Some (made k q p.0)) None

pub says : (text : List ℕ) (s : San) → san_of text ≡ Some s → Says text s
unfolding san_of
says text s e =
    let k = kind_at text in
    let a = bind_some (squares_at k.1) (λ (q : SanSquares × List ℕ). promotion_at q.1 >>= ended k.0 q.0) s e in
    let q = a.0 in
    let b = bind_some (promotion_at q.1) (ended k.0 q.0) s a.2 in
    let p = b.0 in
    let g = guard_some (is_ending p.1) (made k.0 q.0 p.0) s b.2 in
    subst (λ (y : San). Says text y) g.1
    (assembled text k.0 k.1 q.0 q.1 p.0 p.1 (kind_takes text) (squares_takes k.1 q.0 q.1 a.1)
    (promotion_takes q.1 p.0 p.1 b.1) g.0)
