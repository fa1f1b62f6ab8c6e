-- A reply if studies are kept apart, by the reply if they are not.
use Rattle.std.proofs.Common.{◌≡◌, ℕ, Bool, true, false, ◌&&◌, List, Option, Result, Ok, Err, refl, sym, subst, ◌∙◌}
use Rattle.std.specs.Prelude.{IfOk, OnErr, is_err}
use Rattle.study_reply.specs.declared.reply.Reply.{Reply as Done}
use Rattle.study_reply.specs.declared.reply.LineRefusal.{LineRefusal}
use Rattle.study_material.specs.declared.class.Class.{Class}
use Rattle.study_table.specs.Table.{Table}
use Rattle.study_values.specs.declared.fault.SourceFault.{SourceFault}
use Rattle.study_prober.specs.Sources.{GivesOf}
use Rattle.study_script.specs.declared.document.Document.{Document as HeldDocument}
use Rattle.study_script.specs.declared.document.Document.TheVariants as held
use Rattle.study_script.specs.declared.tables.Tables.{Tables}
use Rattle.study_script.specs.State.{State}
use Rattle.study_script.specs.Replies.{IsReply, IsReplyIn, begins_position, without_document}
use Rattle.study_script.specs.Executed.{line_reply, ExecutedLine}
use Rattle.study_script.specs.SessionHolds.{Answered, BrokenOff}
use Rattle.study_script.specs.Session.{Known, SessionHolds}

pub executed-apart : {A : Type 0} (s : State) (line : List ℕ) (H K : State → Type 0) (answer : Result (Option (Done A)) (LineRefusal A))
    → (refused : Bool) → refused ≡ is_err answer → ((t : State) → H t → K (without_document (refused && begins_position line) t))
    → ExecutedLine (IsReply s line) H answer → ExecutedLine (IsReplyIn true s line) K answer
executed-apart s line H K answer refused e f (o, t, is, held) = (
  o,
  without_document (is_err answer && begins_position line) t,
  (line_reply t answer, is, refl),
  subst (λ (b : Bool). K (without_document (b && begins_position line) t)) e (f t held),
)

-- the state after the document was emptied, or was not
module _ {S P A : Type 0} (source_honest : P → Table → ℕ → Type 0) (source_gives : GivesOf P) (store_honest : S → Bool → Type 0)
    (files headers : Known S) (faults : S → Class → SourceFault → Bool) where
  pub holds-cleared : (b c : HeldDocument A) (t : Tables P A) (store : S) (s : State) (clears : Bool) → (clears ≡ true → c ≡ held.Empty)
      → (clears ≡ false → c ≡ b)
      → SessionHolds source_honest source_gives store_honest files headers faults b t store s
      → SessionHolds source_honest source_gives store_honest files headers faults c t store (without_document clears s)
  holds-cleared b c t store s false f g h =
      subst (λ (x : HeldDocument A). SessionHolds source_honest source_gives store_honest files headers faults x t store s) (sym (g refl)) h
  holds-cleared b c t store s true f g h =
      subst (λ (x : HeldDocument A). SessionHolds source_honest source_gives store_honest files headers faults x t store (without_document true s))
      (sym (f refl))
      (record {
        held =
            record {
              document = refl;
              marks = tt;
              values = h.held.values;
              classes = h.held.classes;
              paged = h.held.paged;
              faults = h.held.faults;
            };
        seen = record {
          is_honest = h.seen.is_honest;
          known = record { files_known = h.seen.known.files_known; headers_known = h.seen.known.headers_known; faults_known = h.seen.known.faults_known };
        };
      })

-- a session answers in its own mode
pub in-mode : {E : Type 0} (r : Result Bool E) (separate own b left : Bool) (s : State) (line : List ℕ) (H : State → Type 0) (old new : Option (List ℕ))
    → separate ≡ own → own ≡ b → left ≡ own → IfOk r (Answered (IsReplyIn b s line) H old new)
    → IfOk r (Answered (IsReplyIn separate s line) (λ t. (separate ≡ left) × H t) old new)
in-mode (Ok x) separate own b left s line H old new e k m (o, reply, is, wrote, held, same) =
    (o, reply, subst (λ (m : Bool). IsReplyIn m s line o reply) (sym (e ∙ k)) is, wrote, (e ∙ sym m, held), same)
in-mode (Err f) separate own b left s line H old new e k m h = tt

pub in-mode-broken : {T E : Type 0} (r : Result T E) (separate own b : Bool) (s : State) (line : List ℕ) (old new : Option (List ℕ))
    → separate ≡ own → own ≡ b → OnErr r (BrokenOff (IsReplyIn b s line) old new) → OnErr r (BrokenOff (IsReplyIn separate s line) old new)
in-mode-broken (Ok x) separate own b s line old new e k h = tt
in-mode-broken (Err f) separate own b s line old new e k (o, reply, is, part) =
    (o, reply, subst (λ (m : Bool). IsReplyIn m s line o reply) (sym (e ∙ k)) is, part)
