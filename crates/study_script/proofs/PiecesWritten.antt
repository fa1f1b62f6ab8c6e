-- The output for the first lines of a script, for any state.
use Rattle.std.proofs.Common.{◌≡◌, ℕ, suc, ◌+◌, ◌-◌, ◌≤◌, Bool, true, false, cond}
use Rattle.std.proofs.Common.{List, [], ◌∷◌, ◌++◌, length, take, drop, Option, Some, None, Ok}
use Rattle.std.proofs.Common.{Err, refl, sym, ap, subst, ◌∙◌, arith, append_assoc}
use Rattle.std.specs.Prelude.{IfSome}
use Rattle.std.proofs.lemmas.List.{append-nil}
use Rattle.std.proofs.lemmas.List.Sums.{sum_by-append}
use Rattle.std.proofs.KnownBytes.{Appends-nil, Appends-trans}
use Rattle.study_script.specs.declared.running.RunFault.TheVariants.{ReadDevice, WriteDevice, LineTooLong, TooManyLines}
use Rattle.study_command.specs.Lines.{script_lines, TakesLine, BeginsLong, GaveFeeds}
use Rattle.study_script.specs.Written.{Piece, IsPiece, ArePieces, pieces_text, refused_count, IsWritten, IsCutOff, AreWritten, Fits}
use Rattle.study_script.proofs.FirstLines.{first_left, none_left}

-- ---- one piece more

are-more : (lines : List (List ℕ)) (pieces : List Piece) (line : List ℕ) (piece : Piece) → ArePieces lines pieces → IsPiece line piece
    → ArePieces (lines ++ line ∷ []) (pieces ++ piece ∷ [])
are-more [] [] line piece h r = (r, tt)
are-more [] (x ∷ pieces) line piece h r = absurd h
are-more (l ∷ lines) [] line piece h r = absurd h
are-more (l ∷ lines) (x ∷ pieces) line piece h r = (h.0, are-more lines pieces line piece h.1 r)

text-more : (pieces : List Piece) (piece : Piece) → pieces_text (pieces ++ piece ∷ []) ≡ pieces_text pieces ++ piece.text
text-more [] piece = append-nil piece.text
text-more (x ∷ pieces) piece = ap (λ (t : List ℕ). x.text ++ t) (text-more pieces piece) ∙ sym (append_assoc x.text (pieces_text pieces) piece.text)

count-more : (pieces : List Piece) (piece : Piece) → refused_count (pieces ++ piece ∷ []) ≡ refused_count pieces + cond piece.refused 1 0
count-more pieces piece = omega (arith, sum_by-append (λ (p : Piece). cond p.refused 1 0) pieces (piece ∷ []))

written-more : (lines : List (List ℕ)) (line : List ℕ) (old mid new : Option (List ℕ)) (count count' : ℕ) (was : Bool)
    → AreWritten lines old mid count → IsWritten line mid new was → count' ≡ count + cond was 1 0 → AreWritten (lines ++ line ∷ []) old new count'
written-more lines line old mid new count count' was (pieces, are, wrote, counted) (piece, is, writes, same) k = (
  pieces ++ piece ∷ [],
  are-more lines pieces line piece are is,
  rw (text-more pieces piece) (Appends-trans old mid new (pieces_text pieces) piece.text wrote writes),
  k ∙ ap (λ b. count + cond b 1 0) same ∙ ap (λ i. i + cond piece.refused 1 0) counted ∙ sym (count-more pieces piece),
)

-- ---- the invariant of the loop of a run

-- n lines were read, and the pieces of these are written
pub record WroteOver (all left : List (List ℕ)) (old new : Option (List ℕ)) (n refused : ℕ) : Type 0 where
  pub left_is : drop n all ≡ left
  pub within : n ≤ length all
  pub written : AreWritten (take n all) old new refused

abbrev pub WroteKnown : Option (List ℕ) → Option (List ℕ) → Option (List ℕ) → Option (List ℕ) → ℕ → ℕ → Type 0
WroteKnown None now old new n refused = Unit {0}
WroteKnown (Some bs) None old new n refused = ⊥
WroteKnown (Some bs) (Some rest) old new n refused = WroteOver (script_lines bs) (script_lines rest) old new n refused

pub record Wrote (script now old new : Option (List ℕ)) (n refused : ℕ) : Type 0 where
  pub known : WroteKnown script now old new n refused

pub wrote_none : (script out : Option (List ℕ)) → Wrote script script out out 0 0
wrote_none None out = record { known = tt }
wrote_none (Some bs) out = record { known = record { left_is = refl; within = omega arith; written = ([], tt, Appends-nil out, refl) } }

pub wrote_more : (script now next old mid new : Option (List ℕ)) (line : List ℕ) (n refused refused' : ℕ) (was : Bool)
    → Wrote script now old mid n refused → TakesLine now next true line → IsWritten line mid new was → refused' ≡ refused + cond was 1 0
    → Wrote script next old new (n + 1) refused'
wrote_more None now next old mid new line n refused refused' was r t is k = record { known = tt }
wrote_more (Some bs) None next old mid new line n refused refused' was r t is k = absurd r.known
wrote_more (Some bs) (Some rest) None old mid new line n refused refused' was r t is k = absurd t
wrote_more (Some bs) (Some rest) (Some rest') old mid new line n refused refused' was r t is k =
    let v = r.known in
    let all = script_lines bs in
    let f = first_left all (script_lines rest') n line (v.left_is ∙ t) in
    let e : n + 1 ≡ suc n = omega arith in
    let grown : take (n + 1) all ≡ take n all ++ line ∷ [] = ap (λ i. take i all) e ∙ f.1 in
    let lt = f.0 in
    record {
      known = record {
        left_is = ap (λ i. drop i all) e ∙ f.2;
        within = omega arith;
        written = rw grown (written-more (take n all) line old mid new refused refused' was v.written is k);
      };
    }

-- ---- the ends of a run

pub wrote_ends : (left script now next old new : Option (List ℕ)) (line : List ℕ) (n refused : ℕ) → Wrote script now old new n refused
    → TakesLine now next false line → IfSome script (λ bytes. Fits bytes left old new (Ok (record { lines = n; refused = refused })))
wrote_ends left None now next old new line n refused r t = tt
wrote_ends left (Some bs) None next old new line n refused r t = absurd r.known
wrote_ends left (Some bs) (Some rest) None old new line n refused r t = absurd t
wrote_ends left (Some bs) (Some rest) (Some rest') old new line n refused r t =
    let v = r.known in
    let d = none_left (script_lines bs) n v.within (v.left_is ∙ t) in
    subst (λ (ls : List (List ℕ)). AreWritten ls old new refused) d.0 v.written

pub wrote_long : (left script now old new : Option (List ℕ)) (n refused : ℕ) → Wrote script now old new n refused
    → BeginsLong now → IfSome script (λ bytes. Fits bytes left old new (Err (LineTooLong (n + 1))))
wrote_long left None now old new n refused r t = tt
wrote_long left (Some bs) None old new n refused r t = absurd r.known
wrote_long left (Some bs) (Some rest) old new n refused r t =
    let v = r.known in
    let e : n + 1 - 1 ≡ n = omega arith in
    (refused, rw e v.written)

pub wrote_read : (left script now old new : Option (List ℕ)) (n refused : ℕ) → Wrote script now old new n refused
    → GaveFeeds script left n → IfSome script (λ bytes. Fits bytes left old new (Err ReadDevice))
wrote_read left None now old new n refused r g = tt
wrote_read left (Some bs) None old new n refused r g = absurd r.known
wrote_read left (Some bs) (Some rest) old new n refused r g = let v = r.known in (n, v.within, g, refused, v.written)

pub wrote_many : (left script now old new : Option (List ℕ)) (refused : ℕ) → Wrote script now old new 100000 refused
    → IfSome script (λ bytes. Fits bytes left old new (Err TooManyLines))
wrote_many left None now old new refused r = tt
wrote_many left (Some bs) None old new refused r = absurd r.known
wrote_many left (Some bs) (Some rest) old new refused r = let v = r.known in (refused, v.written)

pub wrote_cut_off : (script now next old mid new : Option (List ℕ)) (line : List ℕ) (n refused : ℕ) → Wrote script now old mid n refused
    → TakesLine now next true line → IsCutOff line mid new → IfSome script (λ bytes. Fits bytes next old new (Err WriteDevice))
wrote_cut_off None now next old mid new line n refused r t part = tt
wrote_cut_off (Some bs) None next old mid new line n refused r t part = absurd r.known
wrote_cut_off (Some bs) (Some rest) None old mid new line n refused r t part = absurd t
wrote_cut_off (Some bs) (Some rest) (Some rest') old mid new line n refused r t part =
    let v = r.known in
    let all = script_lines bs in
    let f = first_left all (script_lines rest') n line (v.left_is ∙ t) in
    let e : n + 1 ≡ suc n = omega arith in
    (n, sym (ap (λ i. drop i all) e ∙ f.2), rw f.3 (mid, refused, v.written, part))
