-- A run over the first lines of a script.
use Rattle.std.proofs.Common.{◌≡◌, ℕ, zero, suc, ◌+◌, ◌-◌, ◌<◌, ◌≤◌, Bool, true, false, cond}
use Rattle.std.proofs.Common.{List, [], ◌∷◌, ◌++◌, length, take, drop, Option, Some, None, Ok}
use Rattle.std.proofs.Common.{Err, refl, sym, ap, subst, ◌∙◌, arith, append_assoc}
use Rattle.std.specs.Prelude.{slice_get, IfSome}
use Rattle.std.proofs.lemmas.List.{append-nil, length-drop}
use Rattle.std.proofs.lemmas.List.Sums.{sum_by-append}
use Rattle.std.proofs.KnownBytes.{Appends-nil, Appends-trans}
use Rattle.std.specs.Io.KnownBytes.{Appends}
use Rattle.study_script.specs.declared.running.RunFault.TheVariants.{ReadDevice, WriteDevice, LineTooLong, TooManyLines}
use Rattle.study_command.specs.Lines.{script_lines, TakesLine, BeginsLong, GaveFeeds}
use Rattle.study_command.proofs.LineTaken.{HasMore}
use Rattle.study_script.specs.State.{State, Environment}
use Rattle.study_script.specs.Replies.{Reply, Answer, IsReplyIn, AreReplies, replies_text}
use Rattle.study_script.specs.SessionHolds.{Answered, BrokenOff}
use Rattle.std.specs.List.{AllByRecursion}
use Rattle.study_material.specs.declared.class.Class.{Class}
use Rattle.study_script.specs.Stores.{IsTrusted, AreTrusted}
use Rattle.study_script.specs.Outcome.{AreShort, error_count, state_after, Outcome, Shape}

-- ---- one reply more

are-more : (separate : Bool) (s : State) (lines : List (List ℕ)) (replies : List Answer) (line : List ℕ) (o : Environment) (reply : Reply)
    → AreReplies separate s lines replies → IsReplyIn separate (state_after s replies) line o reply
    → AreReplies separate s (lines ++ line ∷ []) (replies ++ (o, reply) ∷ [])
are-more separate s [] [] line o reply h r = (r, tt)
are-more separate s [] (x ∷ replies) line o reply h r = absurd h
are-more separate s (l ∷ lines) [] line o reply h r = absurd h
are-more separate s (l ∷ lines) (x ∷ replies) line o reply h r = (h.0, are-more separate x.1.state lines replies line o reply h.1 r)

state_after-more : (s : State) (replies : List Answer) (answer : Answer) → state_after s (replies ++ answer ∷ []) ≡ answer.1.state
state_after-more s [] answer = refl
state_after-more s (x ∷ replies) answer = state_after-more x.1.state replies answer

text-more : (replies : List Answer) (answer : Answer) → replies_text (replies ++ answer ∷ []) ≡ replies_text replies ++ answer.1.text
text-more [] answer = append-nil answer.1.text
text-more (x ∷ replies) answer = ap (λ (t : List ℕ). x.1.text ++ t) (text-more replies answer)
    ∙ sym (append_assoc x.1.text (replies_text replies) answer.1.text)

errors-more : (replies : List Answer) (answer : Answer) → error_count (replies ++ answer ∷ []) ≡ error_count replies + cond answer.1.refused 1 0
errors-more replies answer = omega (arith, sum_by-append (λ (a : Answer). cond a.1.refused 1 0) replies (answer ∷ []))

short-more : (lines : List (List ℕ)) (line : List ℕ) → AreShort lines → length line ≤ 1024 → AreShort (lines ++ line ∷ [])
short-more [] line h k = (k, tt)
short-more (l ∷ lines) line h k = (h.0, short-more lines line h.1 k)

-- ---- the first line that is left

pub first_left : (all left : List (List ℕ)) (n : ℕ) (x : List ℕ) → drop n all ≡ x ∷ left → (n < length all)
    × (take (suc n) all ≡ take n all ++ x ∷ []) × (drop (suc n) all ≡ left) × (slice_get all n ≡ Some x)
first_left [] left zero x e = absurd cc
first_left [] left (suc n) x e = absurd cc
first_left (a ∷ all) left zero x e = let h : a ≡ x = cc in
    let t : all ≡ left = cc in (omega arith, ap (λ (y : List ℕ). y ∷ []) h, t, ap (λ (y : List ℕ). Some y) h)
first_left (a ∷ all) left (suc n) x e =
    let r = first_left all left n x e in
    let lt = r.0 in
    (omega arith, ap (λ (xs : List (List ℕ)). a ∷ xs) r.1, r.2, r.3)

pub none_left : (all : List (List ℕ)) (n : ℕ) → n ≤ length all → drop n all ≡ [] → (take n all ≡ all) × (n ≡ length all)
none_left [] zero le e = (refl, refl)
none_left [] (suc n) le e = absurd (omega arith)
none_left (a ∷ all) zero le e = absurd cc
none_left (a ∷ all) (suc n) le e = let r = none_left all n (omega arith) e in let k = r.1 in (ap (λ (xs : List (List ℕ)). a ∷ xs) r.0, omega arith)

-- ---- the first n lines are answered

pub record RanOver (separate : Bool) (all left : List (List ℕ)) (old new : Option (List ℕ)) (first : State) (s : State) (n refused : ℕ) : Type 0 where
  pub left_is : drop n all ≡ left
  pub within : n ≤ length all
  pub short : AreShort (take n all)
  pub replies : List Answer
  pub are : AreReplies separate first (take n all) replies
  pub written : Appends old new (replies_text replies)
  pub state_is : s ≡ state_after first replies
  pub refused_is : refused ≡ error_count replies

abbrev pub RanKnown : Bool → Option (List ℕ) → Option (List ℕ) → Option (List ℕ) → Option (List ℕ) → State → State → ℕ → ℕ → Type 0
RanKnown separate None now old new first s n refused = Unit {0}
RanKnown separate (Some bs) None old new first s n refused = ⊥
RanKnown separate (Some bs) (Some rest) old new first s n refused = RanOver separate (script_lines bs) (script_lines rest) old new first s n refused

pub record Ran (separate : Bool) (script now old new : Option (List ℕ)) (first : State) (s : State) (n refused : ℕ) : Type 0 where
  pub known : RanKnown separate script now old new first s n refused

pub ran_none : (separate : Bool) (script out : Option (List ℕ)) (first : State) → Ran separate script script out out first first 0 0
ran_none separate None out first = record { known = tt }
ran_none separate (Some bs) out first =
    record {
      known = record {
        left_is = refl;
        within = omega arith;
        short = tt;
        replies = [];
        are = tt;
        written = Appends-nil out;
        state_is = refl;
        refused_is = refl;
      };
    }

pub ran_more : (separate : Bool) (script now next old mid new : Option (List ℕ)) (first : State) (s : State) (line : List ℕ)
    (o : Environment) (reply : Reply) (n refused refused' : ℕ) → Ran separate script now old mid first s n refused
    → TakesLine now next true line → length line ≤ 1024
    → IsReplyIn separate s line o reply → Appends mid new reply.text → refused' ≡ refused + cond reply.refused 1 0
    → Ran separate script next old new first reply.state (n + 1) refused'
ran_more separate None now next old mid new first s line o reply n refused refused' r t short is wrote k = record { known = tt }
ran_more separate (Some bs) None next old mid new first s line o reply n refused refused' r t short is wrote k = absurd r.known
ran_more separate (Some bs) (Some rest) None old mid new first s line o reply n refused refused' r t short is wrote k = absurd t
ran_more separate (Some bs) (Some rest) (Some rest') old mid new first s line o reply n refused refused' r t short is wrote k =
    let v = r.known in
    let all = script_lines bs in
    let f = first_left all (script_lines rest') n line (v.left_is ∙ t) in
    let e : n + 1 ≡ suc n = omega arith in
    let grown : take (n + 1) all ≡ take n all ++ line ∷ [] = ap (λ i. take i all) e ∙ f.1 in
    let lt = f.0 in
    record {
      known = record {
        left_is = ap (λ i. drop i all) e ∙ f.2;
        within = omega arith;
        short = rw grown (short-more (take n all) line v.short short);
        replies = v.replies ++ (o, reply) ∷ [];
        are = rw grown (are-more separate first (take n all) v.replies line o reply v.are
            (subst (λ (h : State). IsReplyIn separate h line o reply) v.state_is is));
        written = rw (text-more v.replies (o, reply)) (Appends-trans old mid new (replies_text v.replies) reply.text v.written wrote);
        state_is = sym (state_after-more first v.replies (o, reply));
        refused_is = k ∙ ap (λ i. i + cond reply.refused 1 0) v.refused_is ∙ sym (errors-more v.replies (o, reply));
      };
    }

-- ---- the ends of a run

pub ran_ends : (separate : Bool) (left script now next old new : Option (List ℕ)) (first : State) (s : State) (line : List ℕ)
    (n refused : ℕ) → Ran separate script now old new first s n refused → TakesLine now next false line → n ≤ 100000
    → IfSome script (λ bytes. Outcome separate first bytes left old new (Ok (record { lines = n; refused = refused })))
ran_ends separate left None now next old new first s line n refused r t le = tt
ran_ends separate left (Some bs) None next old new first s line n refused r t le = absurd r.known
ran_ends separate left (Some bs) (Some rest) None old new first s line n refused r t le = absurd t
ran_ends separate left (Some bs) (Some rest) (Some rest') old new first s line n refused r t le =
    let v = r.known in
    let d = none_left (script_lines bs) n v.within (v.left_is ∙ t) in
    let e = d.1 in (
      omega arith,
      subst AreShort d.0 v.short,
      v.replies,
      subst (λ (ls : List (List ℕ)). AreReplies separate first ls v.replies) d.0 v.are,
      v.written,
      e,
      v.refused_is,
    )

pub ran_long : (separate : Bool) (left script now old new : Option (List ℕ)) (first : State) (s : State) (n refused : ℕ)
    → Ran separate script now old new first s n refused → BeginsLong now → n < 100000
    → IfSome script (λ bytes. Outcome separate first bytes left old new (Err (LineTooLong (n + 1))))
ran_long separate left None now old new first s n refused r t lt = tt
ran_long separate left (Some bs) None old new first s n refused r t lt = absurd r.known
ran_long separate left (Some bs) (Some rest) old new first s n refused r (line, more, is, long) lt =
    let v = r.known in
    let f = first_left (script_lines bs) more n line (v.left_is ∙ is) in
    let e : n + 1 - 1 ≡ n = omega arith in
    (omega arith, omega arith, rw (e, f.3) long, (rw e v.short, v.replies, rw e v.are, v.written))

pub ran_read : (separate : Bool) (left script now old new : Option (List ℕ)) (first : State) (s : State) (n refused : ℕ)
    → Ran separate script now old new first s n refused → n ≤ 100000 → GaveFeeds script left n → GaveFeeds now left 0
    → IfSome script (λ bytes. Outcome separate first bytes left old new (Err ReadDevice))
ran_read separate left None now old new first s n refused r le g h = tt
ran_read separate left (Some bs) None old new first s n refused r le g h = absurd r.known
ran_read separate left (Some bs) (Some rest) old new first s n refused r le g h =
    let v = r.known in (n, le, v.within, g, rest, v.left_is, h, (v.short, v.replies, v.are, v.written))

pub more_left : (all left : List (List ℕ)) (n : ℕ) → drop n all ≡ left → 0 < length left → n < length all
more_left all left n e some = omega (arith, length-drop n all, ap length e)

pub ran_many : (separate : Bool) (left script now old new : Option (List ℕ)) (first : State) (s : State) (refused : ℕ)
    → Ran separate script now old new first s 100000 refused → HasMore now
    → IfSome script (λ bytes. Outcome separate first bytes left old new (Err TooManyLines))
ran_many separate left None now old new first s refused r t = tt
ran_many separate left (Some bs) None old new first s refused r t = absurd r.known
ran_many separate left (Some bs) (Some rest) old new first s refused r t =
    let v = r.known in
    (more_left (script_lines bs) (script_lines rest) 100000 v.left_is t, (v.short, v.replies, v.are, v.written))

pub ran_write : (separate : Bool) (script now next old mid new : Option (List ℕ)) (first : State) (s : State) (line : List ℕ)
    (n refused : ℕ) → Ran separate script now old mid first s n refused → TakesLine now next true line → length line ≤ 1024
    → n < 100000 → GaveFeeds script next (n + 1)
    → BrokenOff (IsReplyIn separate s line) mid new → IfSome script (λ bytes. Outcome separate first bytes next old new (Err WriteDevice))
ran_write separate None now next old mid new first s line n refused r t short lt g p = tt
ran_write separate (Some bs) None next old mid new first s line n refused r t short lt g p = absurd r.known
ran_write separate (Some bs) (Some rest) None old mid new first s line n refused r t short lt g p = absurd t
ran_write separate (Some bs) (Some rest) (Some rest') old mid new first s line n refused r t short lt g (o, reply, is, part) =
    let v = r.known in
    let all = script_lines bs in
    let f = first_left all (script_lines rest') n line (v.left_is ∙ t) in
    let e : n + 1 ≡ suc n = omega arith in (
      n,
      lt,
      g,
      sym (ap (λ i. drop i all) e ∙ f.2),
      rw f.3 (
        v.short,
        short,
        v.replies,
        v.are,
        mid,
        v.written,
        o,
        reply,
        subst (λ (h : State). IsReplyIn separate h line o reply) v.state_is is,
        part,
      ),
    )

-- ---- the invariant of the loop of a run

-- with an honest store: the lines so far are answered, the state is the one after them, and the store is still honest
pub record RanOn (separate : Bool) (holds : State → Type 0) (script now old new : Option (List ℕ)) (first : State) (n refused : ℕ) : Type 0 where
  pub state : State
  pub ran : Ran separate script now old new first state n refused
  pub held : holds state

pub RanOn-more : (separate : Bool) (holds holds' : State → Type 0) (script now next old mid new : Option (List ℕ)) (first : State)
    (line : List ℕ) (n refused refused' : ℕ) (was_refused : Bool) (r : RanOn separate holds script now old mid first n refused)
    → TakesLine now next true line → length line ≤ 1024
    → Answered (IsReplyIn separate r.state line) holds' mid new was_refused → refused' ≡ refused + cond was_refused 1 0
    → RanOn separate holds' script next old new first (n + 1) refused'
RanOn-more separate holds holds' script now next old mid new first line n refused refused' w r t short (o, reply, is, wrote, held, same) k = record {
  state = reply.state;
  ran = ran_more separate script now next old mid new first r.state line o reply n refused refused' r.ran t short is wrote (k
      ∙ ap (λ b. refused + cond b 1 0) same);
  held = held;
}

-- ---- for any replies

-- n lines were read, and none of them is too long
pub record Went (all left : List (List ℕ)) (n : ℕ) : Type 0 where
  pub left_is : drop n all ≡ left
  pub within : n ≤ length all
  pub short : AreShort (take n all)

abbrev pub WentKnown : Option (List ℕ) → Option (List ℕ) → ℕ → Type 0
WentKnown None now n = Unit {0}
WentKnown (Some bs) None n = ⊥
WentKnown (Some bs) (Some rest) n = Went (script_lines bs) (script_lines rest) n

pub record Gone (script now : Option (List ℕ)) (n : ℕ) : Type 0 where
  pub known : WentKnown script now n

pub gone_none : (script : Option (List ℕ)) → Gone script script 0
gone_none None = record { known = tt }
gone_none (Some bs) = record { known = record { left_is = refl; within = omega arith; short = tt } }

pub gone_more : (script now next : Option (List ℕ)) (line : List ℕ) (n : ℕ) → Gone script now n
    → TakesLine now next true line → length line ≤ 1024 → Gone script next (n + 1)
gone_more None now next line n r t short = record { known = tt }
gone_more (Some bs) None next line n r t short = absurd r.known
gone_more (Some bs) (Some rest) None line n r t short = absurd t
gone_more (Some bs) (Some rest) (Some rest') line n r t short =
    let v = r.known in
    let all = script_lines bs in
    let f = first_left all (script_lines rest') n line (v.left_is ∙ t) in
    let e : n + 1 ≡ suc n = omega arith in
    let grown : take (n + 1) all ≡ take n all ++ line ∷ [] = ap (λ i. take i all) e ∙ f.1 in
    let lt = f.0 in
    record {
      known = record {
        left_is = ap (λ i. drop i all) e ∙ f.2;
        within = omega arith;
        short = rw grown (short-more (take n all) line v.short short);
      };
    }

pub gone_ends : (left script now next : Option (List ℕ)) (line : List ℕ) (n refused : ℕ) → Gone script now n
    → TakesLine now next false line → n ≤ 100000 → refused ≤ n
    → IfSome script (λ bytes. Shape bytes left (Ok (record { lines = n; refused = refused })))
gone_ends left None now next line n refused r t le few = tt
gone_ends left (Some bs) None next line n refused r t le few = absurd r.known
gone_ends left (Some bs) (Some rest) None line n refused r t le few = absurd t
gone_ends left (Some bs) (Some rest) (Some rest') line n refused r t le few =
    let v = r.known in
    let d = none_left (script_lines bs) n v.within (v.left_is ∙ t) in
    let e = d.1 in
    (omega arith, subst AreShort d.0 v.short, e, few)

pub gone_long : (left script now : Option (List ℕ)) (n : ℕ) → Gone script now n → BeginsLong now → n < 100000
    → IfSome script (λ bytes. Shape bytes left (Err (LineTooLong (n + 1))))
gone_long left None now n r t lt = tt
gone_long left (Some bs) None n r t lt = absurd r.known
gone_long left (Some bs) (Some rest) n r (line, more, is, long) lt =
    let v = r.known in
    let f = first_left (script_lines bs) more n line (v.left_is ∙ is) in
    let e : n + 1 - 1 ≡ n = omega arith in
    (omega arith, omega arith, rw e v.short, rw (e, f.3) long)

pub gone_read : (left script now : Option (List ℕ)) (n : ℕ) → Gone script now n → n ≤ 100000 → GaveFeeds script left n
    → IfSome script (λ bytes. Shape bytes left (Err ReadDevice))
gone_read left None now n r le g = tt
gone_read left (Some bs) None n r le g = absurd r.known
gone_read left (Some bs) (Some rest) n r le g = let v = r.known in (n, le, v.within, g, v.short)

pub gone_many : (left script now : Option (List ℕ)) → Gone script now 100000 → HasMore now
    → IfSome script (λ bytes. Shape bytes left (Err TooManyLines))
gone_many left None now r t = tt
gone_many left (Some bs) None r t = absurd r.known
gone_many left (Some bs) (Some rest) r t =
    let v = r.known in (more_left (script_lines bs) (script_lines rest) 100000 v.left_is t, v.short)

pub gone_write : (script now next : Option (List ℕ)) (line : List ℕ) (n : ℕ) → Gone script now n
    → TakesLine now next true line → length line ≤ 1024 → n < 100000
    → IfSome script (λ bytes. Shape bytes next (Err WriteDevice))
gone_write None now next line n r t short lt = tt
gone_write (Some bs) None next line n r t short lt = absurd r.known
gone_write (Some bs) (Some rest) None line n r t short lt = absurd t
gone_write (Some bs) (Some rest) (Some rest') line n r t short lt =
    let v = r.known in
    let all = script_lines bs in
    let f = first_left all (script_lines rest') n line (v.left_is ∙ t) in
    let e : n + 1 ≡ suc n = omega arith in
    let grown : take (n + 1) all ≡ take n all ++ line ∷ [] = ap (λ i. take i all) e ∙ f.1 in
    (n, lt, f.0, rw grown (short-more (take n all) line v.short short), sym (ap (λ i. drop i all) e ∙ f.2))

-- ---- lines that are trusted

held_at : (P : List ℕ → Type 0) (all more : List (List ℕ)) (n : ℕ) (x : List ℕ) → AllByRecursion P all → drop n all ≡ x ∷ more → P x
held_at P [] more zero x h e = absurd cc
held_at P [] more (suc n) x h e = absurd cc
held_at P (a ∷ all) more zero x h e = let k : a ≡ x = cc in subst P k h.0
held_at P (a ∷ all) more (suc n) x h e = held_at P all more n x h.1 e

-- the next line to be read is a line of the script
pub next_trusted : (trusted : Class → Bool) (script now next : Option (List ℕ)) (line : List ℕ) (n : ℕ) (bytes : List ℕ)
    → Gone script now n → TakesLine now next true line → script ≡ Some bytes → AreTrusted trusted bytes
    → IsTrusted trusted line
next_trusted trusted script now next line n bytes g t e h = go now next (subst (λ (o : Option (List ℕ)). Gone o now n) e g) t
  where
    go : (now next : Option (List ℕ)) → Gone (Some bytes) now n → TakesLine now next true line → IsTrusted trusted line
    go None next g t = absurd g.known
    go (Some rest) None g t = absurd t
    go (Some rest) (Some rest') g t = held_at (IsTrusted trusted) (script_lines bytes) (script_lines rest') n line h (g.known.left_is ∙ t)

-- a premise on the bytes of a script
pub with_trust : (script : Option (List ℕ)) (P Q : List ℕ → Type 0) → ((bytes : List ℕ) → script ≡ Some bytes → Q bytes → IfSome script P)
    → IfSome script (λ bytes. Q bytes → P bytes)
with_trust None P Q f = tt
with_trust (Some bytes) P Q f = λ q. f bytes refl q
