-- Not part of any public contract: the fields of a text as contracts see them.
use Rattle.study_notation.specs.Fen.{Fields}
use Rattle.study_notation.specs.declared.fields.FenFields.{FenFields}

abbrev pub fields_view : FenFields → Fields
fields_view f =
    record {
      placement = f.placement.now;
      side = f.side.now;
      castling = f.castling.now;
      passed = f.passed.now;
      clock = f.clock.now;
      number = f.number.now;
    }
