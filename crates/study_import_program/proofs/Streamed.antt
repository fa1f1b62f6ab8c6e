-- A script that is written game by game.
use Rattle.std.proofs.Common.{◌≡◌, ℕ, List, [], ◌∷◌, ◌++◌, Option, Some, None, Result, Ok, Err, inl, inr, refl, sym, ap, subst, ◌∙◌, append_assoc}
use Rattle.std.specs.Io.KnownBytes.{Appends, Consumes, IsAtEnd, Keeps}
use Rattle.std.proofs.KnownBytes.{Appends-nil, Appends-trans, Appends-kept, Keeps-trans}
use Rattle.study_text.specs.Taken.{TakesPrefix}
use Rattle.study_import.specs.declared.importer.Choice.{Choice}
use Rattle.study_import.specs.declared.importer.Imported.{Imported}
use Rattle.study_import.specs.Imported.{Held, nothing_held, script_of, tally_of, still_written, still_tallied}
use Rattle.study_import.specs.ImportedSeen.{tally_seen}
use Rattle.study_import.proofs.Ended.{script_is, tally_is}
use Rattle.std.specs.Prelude.{IfOk, OnErr}
use Rattle.study_import_program.specs.declared.streaming.ImportFault.{ImportFault}
use Rattle.study_import_program.specs.Status.{stop_text, IsReported}
use Rattle.study_import_program.specs.Ended.{HasRun}
use Rattle.study_import_program.specs.Streams.{AppendsFront, PutsByte, StopsAtByte, PutsRest, IsWhole, IsFront}

-- the text written so far, and the rest to read
pub record Reached (now old new : Option (List ℕ)) (c : Choice) (h : Held) (text : List ℕ) : Type 0 where
  pub rest : List ℕ
  pub done : List ℕ
  pub left : now ≡ Some rest
  pub taken : Appends old new done
  pub whole : done ++ still_written h rest ≡ script_of c text
  pub counted : still_tallied h rest ≡ tally_of c text

pub reached_first : (now old : Option (List ℕ)) (c : Choice) (h : Held) (text : List ℕ) → h ≡ nothing_held c → now ≡ Some text → Reached now old old c h text
reached_first now old c h text e is = rw e (record {
  rest = text;
  done = [];
  left = is;
  taken = Appends-nil old;
  whole = script_is c text;
  counted = tally_is c text;
})

-- ---- a byte

pub consumed : (a b : Option (List ℕ)) (rest : List ℕ) (byte : ℕ) → a ≡ Some rest → Consumes a b (byte ∷ [])
    → (ys : List ℕ) × (b ≡ Some ys) × (rest ≡ byte ∷ ys)
consumed None b rest byte is h = let no = is in cc
consumed (Some xs) None rest byte is h = absurd h
consumed (Some xs) (Some ys) rest byte is h = let same : rest ≡ xs = (let both = is in cc) in (ys, refl, same ∙ h)

pub reached_more : (now now' old mid new : Option (List ℕ)) (c : Choice) (h h' : Held) (text : List ℕ) (byte : ℕ) → Reached now old mid c h text
    → Consumes now now' (byte ∷ []) → PutsByte byte h h' mid new → Reached now' old new c h' text
reached_more now now' old mid new c h h' text byte r eaten (t, put, kept, counted) =
    let (ys, is, cut) = consumed now now' r.rest byte r.left eaten in
    record {
      rest = ys;
      done = r.done ++ t;
      left = is;
      taken = Appends-trans old mid new r.done t r.taken put;
      whole = append_assoc r.done t (still_written h' ys) ∙ ap (λ (x : List ℕ). r.done ++ x) (sym (kept ys))
          ∙ ap (λ (x : List ℕ). r.done ++ still_written h x) (sym cut) ∙ r.whole;
      counted = sym (counted ys) ∙ ap (still_tallied h) (sym cut) ∙ r.counted;
    }

-- ---- the end

pub at_end : (a b : Option (List ℕ)) (rest : List ℕ) → a ≡ Some rest → Consumes a b [] → IsAtEnd b → rest ≡ []
at_end None b rest is h e = let no = is in cc
at_end (Some xs) None rest is h e = absurd h
at_end (Some xs) (Some ys) rest is h e = let same : rest ≡ xs = (let both = is in cc) in same ∙ h ∙ e

pub reached_end : (now now' old mid new : Option (List ℕ)) (c : Choice) (h : Held) (text : List ℕ) (i : Imported) → Reached now old mid c h text
    → Consumes now now' [] → IsAtEnd now' → PutsRest h i mid new → Appends old new (script_of c text) × (tally_seen i ≡ tally_of c text)
reached_end now now' old mid new c h text i r eaten end (put, counted) =
    let none = at_end now now' r.rest r.left eaten end in (
      subst (λ (x : List ℕ). Appends old new x) (ap (λ (x : List ℕ). r.done ++ still_written h x) (sym none) ∙ r.whole)
          (Appends-trans old mid new r.done (still_written h []) r.taken put),
      counted ∙ ap (still_tallied h) (sym none) ∙ r.counted,
    )

-- ---- a stop

pub front_of : (old mid new : Option (List ℕ)) (done more : List ℕ) → Appends old mid done → AppendsFront mid new more → AppendsFront old new (done ++ more)
front_of old mid new done more a (front, back, e, h) = (
  done ++ front,
  back,
  ap (λ (x : List ℕ). done ++ x) e ∙ sym (append_assoc done front back),
  Appends-trans old mid new done front a h,
)

pub stops_in : (now old mid new : Option (List ℕ)) (c : Choice) (h : Held) (text : List ℕ) (r : Reached now old mid c h text)
    → AppendsFront mid new (still_written h r.rest) → AppendsFront old new (script_of c text)
stops_in now old mid new c h text r f =
    subst (λ (x : List ℕ). AppendsFront old new x) r.whole (front_of old mid new r.done (still_written h r.rest) r.taken f)

pub no_more : (old : Option (List ℕ)) (text : List ℕ) → AppendsFront old old text
no_more old text = ([], text, refl, Appends-nil old)

pub stops_reading : (now old mid : Option (List ℕ)) (c : Choice) (h : Held) (text : List ℕ) → Reached now old mid c h text
    → AppendsFront old mid (script_of c text)
stops_reading now old mid c h text r = stops_in now old mid mid c h text r (no_more mid (still_written h r.rest))

pub stops_at_byte : (now now' old mid new : Option (List ℕ)) (c : Choice) (h : Held) (text : List ℕ) (byte : ℕ) → Reached now old mid c h text
    → Consumes now now' (byte ∷ []) → StopsAtByte byte h mid new → AppendsFront old new (script_of c text)
stops_at_byte now now' old mid new c h text byte r eaten f =
    let (ys, is, cut) = consumed now now' r.rest byte r.left eaten in
    stops_in now old mid new c h text r (subst (λ (x : List ℕ). AppendsFront mid new (still_written h x)) (sym cut) (f ys))

pub stops_at_end : (now now' old mid new : Option (List ℕ)) (c : Choice) (h : Held) (text : List ℕ) → Reached now old mid c h text
    → Consumes now now' [] → IsAtEnd now' → AppendsFront mid new (still_written h []) → AppendsFront old new (script_of c text)
stops_at_end now now' old mid new c h text r eaten end f =
    let none = at_end now now' r.rest r.left eaten end in
    stops_in now old mid new c h text r (subst (λ (x : List ℕ). AppendsFront mid new (still_written h x)) (sym none) f)

-- ---- a partly written text

pub prefix_front : (old new : Option (List ℕ)) (text : List ℕ) → TakesPrefix old new text → AppendsFront old new text
prefix_front old new text (front, byte, back, e, h) = (front, byte ∷ back, e, h)

-- ---- given the result

pub stopped_put : (byte : ℕ) (before now : Held) (old new : Option (List ℕ)) (text : List ℕ)
    → ((bytes : List ℕ) → [] ++ still_written before (byte ∷ bytes) ≡ text ++ still_written now bytes)
    → AppendsFront old new text → StopsAtByte byte before old new
stopped_put byte before now old new text kept (front, back, e, h) = λ bytes. (
  front,
  back ++ still_written now bytes,
  kept bytes ∙ ap (λ (x : List ℕ). x ++ still_written now bytes) e ∙ append_assoc front back (still_written now bytes),
  h,
)

-- ---- the result of a run

whole_kept : (c : Choice) (left old mid new : Option (List ℕ)) (i : Imported) → Keeps mid new → IsWhole c left old mid i → IsWhole c left old new i
whole_kept c left old mid new i kept h = λ text is. let (put, counted) = h text is in (Appends-kept old mid new (script_of c text) put kept, counted)

front_kept : (c : Choice) (left old mid new : Option (List ℕ)) → Keeps mid new → IsFront c left old mid → IsFront c left old new
front_kept c left old mid new kept h = λ text is. let (front, back, e, put) = h text is in (front, back, e, Appends-kept old mid new front put kept)

pub has_run : (c : Choice) (left old mid new : Option (List ℕ)) (answer : Result Imported ImportFault) → Keeps mid new
    → IfOk answer (λ i. IsWhole c left old mid i) → OnErr answer (IsFront c left old mid) → HasRun c left old new answer
has_run c left old mid new (Ok i) kept whole front = whole_kept c left old mid new i kept whole
has_run c left old mid new (Err fault) kept whole front = front_kept c left old mid new kept front

-- a text appended after nothing
appends_behind : (a b c : Option (List ℕ)) (text : List ℕ) → Keeps a b → Appends b c text → Appends a c text
appends_behind None b c text kept h = tt
appends_behind (Some xs) None c text kept h = absurd kept
appends_behind (Some xs) (Some ys) None text kept h = h
appends_behind (Some xs) (Some ys) (Some zs) text kept h = h ∙ ap (λ (x : List ℕ). x ++ text) kept

pub reported_behind : (old mid new : Option (List ℕ)) (answer : Result Imported ImportFault) → Keeps old mid → IsReported answer mid new
    → IsReported answer old new
reported_behind old mid new (Ok i) kept h = Keeps-trans old mid new kept h
reported_behind old mid new (Err fault) kept (inl all) = inl (appends_behind old mid new (stop_text fault) kept all)
reported_behind old mid new (Err fault) kept (inr (front, byte, back, e, h)) = inr (front, byte, back, e, appends_behind old mid new front kept h)
