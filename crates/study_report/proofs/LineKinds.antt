-- What is known of a line, by its kind.
use Rattle.std.proofs.Common.{◌≡◌, ℕ, Bool, true, false, List, [], ◌∷◌, Option, Some, None, Ok, Err, refl, sym, ap, subst, ◌∙◌}
use Rattle.std.specs.Prelude.{IfSome, not, codes, if◌then◌else◌}
use Rattle.std.specs.List.{list_all}
use Rattle.std.specs.Str.{bytes_eq}
use Rattle.study_material.specs.declared.class.Class.{Class}
use Rattle.study_command.specs.declared.command.TableCommand.TheVariants.{Build, Load, Save, Verify}
use Rattle.study_command.specs.Parser.{Asks, fen_command, node_query, node_command, table_command, stipulate, insert, tag, solve, pgn, command_of}
use Rattle.study_command.specs.Parser.{arguments_needed, with_text, text_parsed, word_asked, word_of, asked_with, begins_comment, line_asked}
use Rattle.study_script.specs.Stores.{IsTrusted, IsTrustedAsk}
use Rattle.study_text.specs.Words.{words, behind_word}
use Rattle.study_command.specs.declared.command.SyntaxFault.TheVariants.{BadByte}
use Rattle.study_command.specs.declared.command.FenCommand.TheVariants.{Position}
use Rattle.study_command.specs.declared.command.Keyword.{Keyword}
use Rattle.study_command.specs.declared.command.Keyword.TheVariants.{FromFen}
use Rattle.study_marks.specs.Edits.{PlainStudy, is_printable}
use Rattle.study_marks.specs.declared.mark.Mark.{Mark}
use Rattle.study_marks.specs.Study.{Study as AStudy, plain_study}
use Rattle.study_marks.specs.Annotated.{IsAnnotated}
use Rattle.study_marks.specs.BenchState.{marked_study}
use Rattle.study_pgn.specs.Pgn.{pgn_text}
use Rattle.study_reply.specs.declared.refusal.Refusal.TheVariants.{NoStudy}
use Rattle.study_command.specs.Documents.{Document, empty, start, study}
use Rattle.study_script.specs.State.{State, quiet}
use Rattle.study_script.specs.declared.document.Document.{Document as HeldDocument}
use Rattle.study_script.specs.declared.document.Document.TheVariants as held
use Rattle.study_script.specs.SessionHolds.{document_seen, IsMarked}
use Rattle.study_script.specs.Replies.{Reply, accepted_reply, refused_reply, class_parsed, IsPgnReply, IsReplyWhere, IsReply, IsReplyIn}
use Rattle.study_script.specs.Replies.{names_position, begins_position, without_document}
use Rattle.study_report.specs.declared.line_kind.LineKind.{LineKind}
use Rattle.study_report.specs.declared.line_kind.LineKind.TheVariants.{Remark, PassedOver, Study, Checked}
use Rattle.study_report.specs.Remarks.{is_remark}
use Rattle.study_report.specs.Reported.{kind_in, line_kind, class_kind, lacks_study}
use Rattle.study_report.specs.Written.{none_trusted}

-- ---- a line that is no remark

-- it is of the kind of its command
plain-kind : (b : Bool) (k kind : LineKind) → (Remark ≡ kind → ⊥) → (if b then Remark else k) ≡ kind → k ≡ kind
plain-kind true k kind other e = absurd (other e)
plain-kind false k kind other e = e

plain-study : (line : List ℕ) → line_kind line ≡ Study → kind_in (command_of line) ≡ Study
plain-study line k = plain-kind (is_remark line) (kind_in (command_of line)) Study (λ e. absurd cc) k

-- ---- a line that is answered opens no file

no-class : (o : Option Class) → (class_kind o ≡ PassedOver → ⊥) → IfSome o (λ c. none_trusted c ≡ true)
no-class None h = tt
no-class (Some c) h = absurd (h refl)

pub trusted-ask : (asks : Asks) → (kind_in asks ≡ PassedOver → ⊥) → IsTrustedAsk none_trusted asks
trusted-ask (Err fault) h = tt
trusted-ask (Ok None) h = tt
trusted-ask (Ok (Some (table_command Load name))) h = no-class (class_parsed name) h
trusted-ask (Ok (Some (table_command Build name))) h = tt
trusted-ask (Ok (Some (table_command Save name))) h = tt
trusted-ask (Ok (Some (table_command Verify name))) h = tt
trusted-ask (Ok (Some (fen_command word fen))) h = tt
trusted-ask (Ok (Some (node_query word steps))) h = tt
trusted-ask (Ok (Some (node_command word steps))) h = tt
trusted-ask (Ok (Some (stipulate stipulation))) h = tt
trusted-ask (Ok (Some (insert steps san))) h = tt
trusted-ask (Ok (Some (tag name text))) h = tt
trusted-ask (Ok (Some (solve count steps))) h = tt
trusted-ask (Ok (Some pgn)) h = tt

pub trusted-checked : (line : List ℕ) → line_kind line ≡ Checked → IsTrusted none_trusted line
trusted-checked line k =
    let asked : kind_in (command_of line) ≡ Checked = plain-kind (is_remark line) (kind_in (command_of line)) Checked (λ e. absurd cc) k in
    trusted-ask (command_of line) (λ e. let bad : Checked ≡ PassedOver = sym asked ∙ e in absurd cc)

pub trusted-study : (line : List ℕ) → line_kind line ≡ Study → IsTrusted none_trusted line
trusted-study line k =
    let asked = plain-study line k in
    trusted-ask (command_of line) (λ e. let bad : Study ≡ PassedOver = sym asked ∙ e in absurd cc)

-- ---- a line that reports a study

class-no-study : (o : Option Class) → class_kind o ≡ Study → ⊥
class-no-study None k = absurd cc
class-no-study (Some c) k = absurd cc

-- it is the command `pgn`
is-pgn : (asks : Asks) → kind_in asks ≡ Study → asks ≡ Ok (Some pgn)
is-pgn (Ok (Some pgn)) k = refl
is-pgn (Ok (Some (table_command word name))) k = absurd (class-no-study (class_parsed name) k)
is-pgn (Ok (Some (fen_command word fen))) k = absurd cc
is-pgn (Ok (Some (node_query word steps))) k = absurd cc
is-pgn (Ok (Some (node_command word steps))) k = absurd cc
is-pgn (Ok (Some (stipulate stipulation))) k = absurd cc
is-pgn (Ok (Some (insert steps san))) k = absurd cc
is-pgn (Ok (Some (tag name text))) k = absurd cc
is-pgn (Ok (Some (solve count steps))) k = absurd cc
is-pgn (Ok None) k = absurd cc
is-pgn (Err fault) k = absurd cc

pgn-reply : (s : State) (line : List ℕ) (reply : Reply) → line_kind line ≡ Study → IsPgnReply s quiet s.document reply → IsReply s line quiet reply
pgn-reply s line reply kind is = subst (λ (a : Asks). IsReplyWhere s quiet a reply) (sym (is-pgn (command_of line) (plain-study line kind))) is

-- so its first word is not `position`
fen-kind : (text : Option (List ℕ)) → kind_in (arguments_needed (with_text (fen_command Position) text)) ≡ Study → ⊥
fen-kind None k = absurd cc
fen-kind (Some text) k = absurd cc

position-kind : (comment unprintable : Bool) (word : Option Keyword) (rest : List ℕ) → word ≡ Some (FromFen Position)
    → kind_in (if comment then Ok None else (if unprintable then Err BadByte else asked_with word rest)) ≡ Study → ⊥
unfolding word_asked
position-kind true unprintable word rest e k = absurd cc
position-kind false true word rest e k = absurd cc
position-kind false false word rest e k = fen-kind (text_parsed rest) (subst (λ (w : Option Keyword). kind_in (asked_with w rest) ≡ Study) e k)

is-position : (first : List ℕ) → bytes_eq first (codes "position") ≡ true → word_of first ≡ Some (FromFen Position)
unfolding word_of
is-position first e = rw e refl

not-position : (line : List ℕ) (ws : List (List ℕ)) → kind_in (line_asked line ws) ≡ Study → names_position ws ≡ false
not-position line [] k = refl
not-position line (first ∷ more) k = go (bytes_eq first (codes "position")) refl
  where
    go : (b : Bool) → bytes_eq first (codes "position") ≡ b → bytes_eq first (codes "position") ≡ false
    go false e = e
    go true e = absurd (position-kind (begins_comment first) (not (list_all is_printable line)) (word_of first) (behind_word line) (is-position first e) k)

no-position : (line : List ℕ) → line_kind line ≡ Study → begins_position line ≡ false
unfolding command_of
no-position line kind = not-position line (words line) (plain-study line kind)

-- ---- the replies to it, if studies are kept apart

no-study : (s : State) (document : Document) → lacks_study document ≡ true → IsPgnReply s quiet document (refused_reply s NoStudy)
no-study s empty e = refl
no-study s (start from) e = refl
no-study s (study plain) e = absurd cc

-- without a study it is refused
pub pgn-lacks : (s : State) (line : List ℕ) → line_kind line ≡ Study → lacks_study s.document ≡ true
    → IsReplyIn true s line quiet (refused_reply s NoStudy)
pgn-lacks s line kind lacks = (
  refused_reply s NoStudy,
  pgn-reply s line (refused_reply s NoStudy) kind (no-study s s.document lacks),
  ap (λ (b : Bool). record { text = (refused_reply s NoStudy).text; state = without_document b s; refused = true }) (sym (no-position line kind)),
)

pgn-of : (s : State) (annotated : AStudy Mark) (document : Document) → document ≡ study (plain_study annotated) → IsAnnotated annotated
    → IsPgnReply s quiet document (accepted_reply s (pgn_text annotated))
pgn-of s annotated document e right =
    subst (λ (d : Document). IsPgnReply s quiet d (accepted_reply s (pgn_text annotated))) (sym e) (annotated, right, refl, refl)

-- the study that is held, without its marks
pub held-study : {A : Type 0} (b : HeldDocument A) (document : Document) → document_seen b ≡ document → lacks_study (document_seen b) ≡ false
    → (plain : PlainStudy) × (document ≡ study plain)
held-study held.Empty document e here = absurd cc
held-study (held.Start s) document e here = absurd cc
held-study (held.Study k) document e here = (plain_study (marked_study k), sym e)

-- with a study it is accepted
pub pgn-accepted : {A : Type 0} (s : State) (line : List ℕ) (b : HeldDocument A) → line_kind line ≡ Study → document_seen b ≡ s.document → IsMarked b
    → lacks_study (document_seen b) ≡ false → (reply : Reply) × IsReplyIn true s line quiet reply × (reply.refused ≡ false) × (reply.state ≡ s)
pgn-accepted s line held.Empty kind e right here = absurd cc
pgn-accepted s line (held.Start from) kind e right here = absurd cc
pgn-accepted s line (held.Study k) kind e right here =
    let reply = accepted_reply s (pgn_text (marked_study k)) in
    (reply, (reply, pgn-reply s line reply kind (pgn-of s (marked_study k) s.document (sym e) right.marks), refl), refl, refl)
