use Rattle.std.proofs.Common.{◌⊎◌}
use Rattle.study_command.specs.Paths.{steps_of}
use Rattle.study_web.specs.Answers.{IsUnread, IsViewDenial}
use Rattle.study_web.specs.Opened.{AreAllRight, IsOfFiles}
use Rattle.study_web.specs.Views.{IsValueFaultOver, IsViewOver, LacksNodeOver, OverFiles}
use Rattle.study_web.proofs.Denials.{whole_reported, if_right, handed_denial}
use Rattle.study_web.proofs.Shelves.{right_made, over_made, views_made, tables_made}
use Rattle.study_web.proofs.Unread.{no_memory}
use Rattle.study_web.proofs.dispatch.view_over.Goals as goal

pub returns : goal.returns
returns g c =
    let made = c.new-store.ensures in
    let spans = c.args.files.now.spans.now in
    let bytes = c.args.files.now.bytes.now in
    let script = c.args.script.now in
    let steps = steps_of c.args.path.now in
    whole_reported c.view_of.result (λ v. v.items) (λ text. AreAllRight spans bytes → OverFiles spans bytes (IsViewOver script steps text))
    (λ d. IsOfFiles spans bytes d ⊎ IsViewDenial (λ fault. AreAllRight spans bytes → OverFiles spans bytes (IsValueFaultOver script fault))
    (AreAllRight spans bytes → OverFiles spans bytes (LacksNodeOver script steps)) d) (IsUnread script)
    c.answer_of.result.text.items c.answer_of.result.ended c.answer_of.ensures.text c.answer_of.ensures.none
    (if_right c.view_of.result (λ v. v.items) (AreAllRight spans bytes) (λ text. OverFiles spans bytes (IsViewOver script steps text))
    (λ right. views_made made.spans made.bytes made.written c.view_of.result (λ v. IsViewOver script steps v.items)
    (c.view_of.ensures.text (right_made made.spans made.bytes right))))
    (handed_denial _ (λ fault. AreAllRight spans bytes → OverFiles spans bytes (IsValueFaultOver script fault)) _
    (AreAllRight spans bytes → OverFiles spans bytes (LacksNodeOver script steps))
    (λ fault no_value right. over_made made.spans made.bytes made.written (IsValueFaultOver script fault) (no_value (right_made made.spans made.bytes right)))
    (λ lacks right. over_made made.spans made.bytes made.written (LacksNodeOver script steps) (lacks (right_made made.spans made.bytes right)))
    _ (IsOfFiles spans bytes) (IsUnread script) (tables_made made.spans made.bytes made.written)
    c.view_of.result c.view_of.ensures.none) (no_memory script)
