use Rattle.std.proofs.Common.{◌∷◌, [], List, refl, ap, subst, ◌∙◌, inl}
use Rattle.study_board.specs.Position.{Position}
use Rattle.study_material.specs.declared.class.Class.{Class}
use Rattle.study_view.specs.Setup.{AreClassesNeeded}
use Rattle.study_reply.specs.declared.refusal.Refusal.TheVariants.{OutOfMemory}
use Rattle.study_web.specs.declared.request_fault.RequestFault.TheVariants as denial
use Rattle.study_web.specs.Answers.{IsNoMemory}
use Rattle.study_web.specs.Opened.{AreAllRight, IsOfFileValues}
use Rattle.study_web.specs.Row.{IsRowAnswer}
use Rattle.study_web.specs.Spans.{spans_for}
use Rattle.study_web.proofs.Denials.{whole_reported, whole_denied, if_right, search_denial}
use Rattle.study_web.proofs.Shelves.{right_made, values_made}
use Rattle.study_web.proofs.dispatch.of_row.Goals as goal

pub returns-in-Err : goal.returns-in-Err
returns-in-Err g c =
    let row = c.args.row.now in
    let bytes = c.args.files.now.bytes.now in
    let classes = c.classes_needed-classes.result.items in
    let those = spans_for classes c.args.files.now.spans.now in (
      classes,
      subst (λ (q : Position). AreClassesNeeded (q ∷ []) classes) c.copied.ensures c.classes_needed-classes.ensures,
      whole_denied (λ text. AreAllRight those bytes → IsRowAnswer row.outcome row.start.position text) (IsOfFileValues those bytes row.start.position) IsNoMemory
          (denial.Refused OutOfMemory) c.fault_answer.result.text.items c.fault_answer.result.ended c.fault_answer.ensures (inl refl) refl,
    )

pub returns-in-Ok : goal.returns-in-Ok
returns-in-Ok g c =
    let row = c.args.row.now in
    let made = c.new-store.ensures in
    let bytes = c.args.files.now.bytes.now in
    let classes = c.classes_needed-classes.result.items in
    let those = spans_for classes c.args.files.now.spans.now in
    let spans = made.spans ∙ c.as_slice-in-Ok.ensures.value ∙ c.in-Ok.ensures
    ∙ ap (λ (cs : List Class). spans_for cs c.args.files.now.spans.now) c.as_slice.ensures.value in (
      classes,
      subst (λ (q : Position). AreClassesNeeded (q ∷ []) classes) c.copied.ensures c.classes_needed-classes.ensures,
      whole_reported c.row_of.result (λ v. v.items) (λ text. AreAllRight those bytes → IsRowAnswer row.outcome row.start.position text)
          (IsOfFileValues those bytes row.start.position) IsNoMemory
          c.answer_of.result.text.items c.answer_of.result.ended c.answer_of.ensures.text c.answer_of.ensures.none
          (if_right c.row_of.result (λ v. v.items) (AreAllRight those bytes) (IsRowAnswer row.outcome row.start.position)
          (λ right. c.row_of.ensures.text (right_made spans made.bytes right)))
          (search_denial c.row_of.result _ (IsOfFileValues those bytes row.start.position)
          (values_made spans made.bytes made.written row.start.position) c.row_of.ensures.none) refl,
    )
