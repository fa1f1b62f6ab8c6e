use Rattle.std.proofs.Common.{refl, ap, ◌∙◌}
use Rattle.std.proofs.lemmas.Result.{on_err_weaker}
use Rattle.sha2.specs.Sha256.{sha256}
use Rattle.study_tablefile.specs.Format.{written_version, fields_text, header_text}
use Rattle.study_text.proofs.TextTaken.{OnErr-known, stops_first, stops_second}
use Rattle.study_tablefile.proofs.format.put_header.Goals as goal

pub returns-in_err-write_text-clause-err : goal.returns-in_err-write_text-clause-err
unfolding header_text
returns-in_err-write_text-clause-err g c =
    OnErr-known c.from_residual.result _
    (stops_first _ _ (header_text c.args.class written_version) _ (fields_text c.args.class written_version)
    (sha256 (fields_text c.args.class written_version)) refl (c.as_slice.ensures ∙ c.fields-fields.ensures)
    c.in_err-write_text.ensures.err)

pub returns-clause-err : goal.returns-clause-err
unfolding header_text
returns-clause-err g c =
    let digest = c.as_slice-3.ensures ∙ c.digest.ensures ∙ ap sha256 (c.as_slice-2.ensures ∙ c.fields-fields.ensures) in
    on_err_weaker c.write_text-2.result (λ h. stops_second _ _ _ (header_text c.args.class written_version) _ _
    (fields_text c.args.class written_version) (sha256 (fields_text c.args.class written_version)) refl
    (c.as_slice.ensures ∙ c.fields-fields.ensures) digest c.in_ok-write_text.ensures.ok h) c.write_text-2.ensures.err
