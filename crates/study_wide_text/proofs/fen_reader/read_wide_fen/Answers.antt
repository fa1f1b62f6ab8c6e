use Rattle.std.proofs.Common.{sym, ap, ◌∙◌}
use Rattle.std.specs.Prelude.{Ok, Err}
use Rattle.std.specs.Option.{option_map}
use Rattle.study_text.specs.Words.{words}
use Rattle.study_notation.specs.Fen.{fields_of}
use Rattle.study_notation.specs.FieldsView.{fields_view}
use Rattle.study_wide_text.specs.Fen.{wide_start_of}
use Rattle.study_wide_text.proofs.FenInTwo.{in_two, no_fields, with_fields}
use Rattle.study_wide_text.proofs.fen_reader.read_wide_fen.Goals as goal

pub returns-in-None : goal.returns-in-None
returns-in-None c =
    sym (ap wide_start_of (sym c.as_bytes.ensures.value) ∙ in_two c.as_bytes.result.now
    ∙ no_fields (fields_of (words c.as_bytes.result.now)) (sym c.split_fields.ensures ∙ ap (option_map fields_view) c.in-None.is))

pub returns-in-Err : goal.returns-in-Err
returns-in-Err c =
    sym (ap wide_start_of (sym c.as_bytes.ensures.value) ∙ in_two c.as_bytes.result.now
    ∙ with_fields (fields_of (words c.as_bytes.result.now)) (fields_view c.in-Some.fields) (Err c.in-Err.fault)
    (sym c.split_fields.ensures ∙ ap (option_map fields_view) c.in-Some.is) (sym c.in-Err.is ∙ c.read_position.ensures))

pub returns-in-Ok : goal.returns-in-Ok
returns-in-Ok c =
    c.with_counts.ensures ∙ sym (ap wide_start_of (sym c.as_bytes.ensures.value) ∙ in_two c.as_bytes.result.now
    ∙ with_fields (fields_of (words c.as_bytes.result.now)) (fields_view c.in-Some.fields) (Ok c.in-Ok.position)
    (sym c.split_fields.ensures ∙ ap (option_map fields_view) c.in-Some.is) (sym c.in-Ok.is ∙ c.read_position.ensures))
