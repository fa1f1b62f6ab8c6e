-- The outcome of a command: by a weaker property, and as it is written.
use Rattle.std.proofs.Common.{◌≡◌, Bool, List, ℕ, Option, Result, Ok, Err, subst}
use Rattle.std.specs.Prelude.{IfOk, OnOk, OnErr, is_err}
use Rattle.std.specs.Io.KnownBytes.{Appends}
use Rattle.study_text.specs.Taken.{TakesPrefix}
use Rattle.study_reply.specs.declared.table_reply.TableReply.{TableReply}
use Rattle.study_reply.specs.declared.refusal.Refusal.{Refusal}
use Rattle.study_reply.specs.declared.reply.Reply.{Reply as Done}
use Rattle.study_reply.specs.declared.reply.Reply.TheVariants.{Table}
use Rattle.study_reply.specs.declared.reply.LineRefusal.{LineRefusal}
use Rattle.study_reply.specs.declared.reply.LineRefusal.TheVariants.{Line}
use Rattle.study_reply.specs.Replied.{of_command, line_text}
use Rattle.study_script.specs.State.{State, Environment}
use Rattle.study_script.specs.Replies.{Reply}
use Rattle.study_script.specs.SessionHolds.{Answered, BrokenOff}
use Rattle.study_script.specs.Decided.{decided_reply, Decided}
use Rattle.study_script.specs.Executed.{reply_of, Executed, line_reply, ExecutedLine, line_piece}
use Rattle.study_script.specs.Written.{IsPiece, IsWritten, IsCutOff}

module _ {A : Type 0} {I J : Environment → Reply → Type 0} {H K : State → Type 0} where
  pub executed_weaker : (answer : Result (Done A) (LineRefusal A)) → ((o : Environment) (r : Reply) → I o r → J o r)
      → ((t : State) → H t → K t) → Executed I H answer → Executed J K answer
  executed_weaker answer f g (o, t, is, holds) = (o, t, f o (reply_of t answer) is, g t holds)

  -- the environment is described differently
  pub executed_reported : (answer : Result (Done A) (LineRefusal A)) → ((o : Environment) (r : Reply) → I o r → (p : Environment) × J p r)
      → ((t : State) → H t → K t) → Executed I H answer → Executed J K answer
  executed_reported answer f g (o, t, is, holds) = let j = f o (reply_of t answer) is in (j.0, t, j.1, g t holds)

  -- the state after a reply, by the reply
  pub executed_kept : (answer : Result (Done A) (LineRefusal A)) → ((o : Environment) (r : Reply) → I o r → J o r)
      → ((o : Environment) (r : Reply) → I o r → H r.state → K r.state) → Executed I H answer → Executed J K answer
  executed_kept answer f g (o, t, is, holds) = (o, t, f o (reply_of t answer) is, g o (reply_of t answer) is holds)

-- the outcome of the line of a command
pub executed-line : {A : Type 0} (I : Environment → Reply → Type 0) (H : State → Type 0) (answer : Result (Done A) (LineRefusal A)) → Executed I H answer
    → ExecutedLine I H (of_command answer)
executed-line I H (Ok reply) d = d
executed-line I H (Err refused) d = d

module _ {A : Type 0} (I : Environment → Reply → Type 0) (H : State → Type 0) (answer : Result (Option (Done A)) (LineRefusal A)) where
  pub executed_answered : {E : Type 0} (r : Result Bool E) (old new : Option (List ℕ)) → ExecutedLine I H answer
      → OnOk r (Appends old new (line_text answer)) → IfOk r (λ b. b ≡ is_err answer) → IfOk r (Answered I H old new)
  executed_answered (Ok b) old new (o, t, is, holds) wrote e = (o, line_reply t answer, is, wrote, holds, e)
  executed_answered (Err e) old new d wrote k = tt

  pub executed_broken : {T E : Type 0} (r : Result T E) (old new : Option (List ℕ)) → ExecutedLine I H answer
      → OnErr r (TakesPrefix old new (line_text answer)) → OnErr r (BrokenOff I old new)
  executed_broken (Ok x) old new d part = tt
  executed_broken (Err e) old new (o, t, is, holds) part = (o, line_reply t answer, is, part)

-- what is written for a line
module _ {A : Type 0} (line : List ℕ) (answer : Result (Option (Done A)) (LineRefusal A)) (is : IsPiece line (line_piece answer)) where
  pub piece_written : {E : Type 0} (r : Result Bool E) (old new : Option (List ℕ)) → OnOk r (Appends old new (line_text answer))
      → IfOk r (λ b. b ≡ is_err answer) → IfOk r (IsWritten line old new)
  piece_written (Ok b) old new wrote same = (line_piece answer, is, wrote, same)
  piece_written (Err f) old new wrote same = tt

  pub piece_cut_off : {T E : Type 0} (r : Result T E) (old new : Option (List ℕ)) → OnErr r (TakesPrefix old new (line_text answer))
      → OnErr r (IsCutOff line old new)
  piece_cut_off (Ok x) old new part = tt
  piece_cut_off (Err f) old new part = (line_piece answer, is, part)

-- the outcome of a command of a class
module _ (A : Type 0) (I : Environment → Reply → Type 0) (H : State → Type 0) (reported : Result TableReply Refusal) where
  pub table_done : (done : TableReply) → reported ≡ Ok done → Decided I H reported → Executed {A = A} I H (Ok (Table done))
  table_done done e (o, t, is, holds) = (o, t, subst (λ (x : Result TableReply Refusal). I o (decided_reply t x)) e is, holds)

  pub table_refused : (refusal : Refusal) → reported ≡ Err refusal → Decided I H reported → Executed {A = A} I H (Err (Line refusal))
  table_refused refusal e (o, t, is, holds) = (o, t, subst (λ (x : Result TableReply Refusal). I o (decided_reply t x)) e is, holds)
