use Rattle.std.proofs.Common.{List, refl, ap, ◌∙◌, inl}
use Rattle.study_material.specs.declared.class.Class.{Class}
use Rattle.study_listing.specs.Requests.{class_of_request}
use Rattle.study_listing.specs.Pieces.{IsPiece}
use Rattle.study_reply.specs.declared.refusal.Refusal.TheVariants.{OutOfMemory}
use Rattle.study_web.specs.declared.request_fault.RequestFault.TheVariants as denial
use Rattle.study_web.specs.Answers.{IsNoMemory}
use Rattle.study_web.specs.Spans.{spans_for}
use Rattle.study_web.specs.Opened.{AreAllRight, IsOfFileSearch}
use Rattle.study_web.proofs.Denials.{whole_reported, whole_denied, if_right, search_denial}
use Rattle.study_web.proofs.Shelves.{right_made, search_made}
use Rattle.study_web.proofs.dispatch.of_find.Goals as goal

pub returns-in-Err : goal.returns-in-Err
returns-in-Err g c =
    let bytes = c.args.files.now.bytes.now in
    let those = spans_for c.classes_for-classes.result.items c.args.files.now.spans.now in (
      c.classes_for-classes.result.items,
      c.classes_for-classes.ensures,
      whole_denied (λ text. AreAllRight those bytes → IsPiece c.args.piece.now text)
          (IsOfFileSearch those bytes (class_of_request c.args.piece.now.request)) IsNoMemory (denial.Refused OutOfMemory) c.fault_answer.result.text.items c.fault_answer.result.ended c.fault_answer.ensures (inl refl) refl,
    )

pub returns-in-Ok : goal.returns-in-Ok
returns-in-Ok g c =
    let piece = c.args.piece.now in
    let made = c.new-store.ensures in
    let bytes = c.args.files.now.bytes.now in
    let classes = c.classes_for-classes.result.items in
    let those = spans_for classes c.args.files.now.spans.now in
    let spans = made.spans ∙ c.as_slice-in-Ok.ensures.value ∙ c.in-Ok.ensures
    ∙ ap (λ (cs : List Class). spans_for cs c.args.files.now.spans.now) c.as_slice.ensures.value in (
      classes,
      c.classes_for-classes.ensures,
      whole_reported c.found_of.result (λ v. v.items) (λ text. AreAllRight those bytes → IsPiece piece text)
          (IsOfFileSearch those bytes (class_of_request piece.request)) IsNoMemory c.answer_of.result.text.items c.answer_of.result.ended c.answer_of.ensures.text c.answer_of.ensures.none
          (if_right c.found_of.result (λ v. v.items) (AreAllRight those bytes) (IsPiece piece)
          (λ right. c.found_of.ensures.text (right_made spans made.bytes right)))
          (search_denial c.found_of.result _ (IsOfFileSearch those bytes (class_of_request piece.request))
          (search_made spans made.bytes made.written (class_of_request piece.request)) c.found_of.ensures.none) refl,
    )
