use Rattle.std.proofs.lemmas.Result.{err_from_is_err_and}
use Rattle.json_fields.specs.Reading.{required_at}
use Rattle.json_fields.proofs.Places.{Fails-bind}
use Rattle.json_fields.proofs.readers.required.Goals as goal

pub returns-in_err-field : goal.returns-in_err-field
unfolding required_at
returns-in_err-field g c =
    let p = err_from_is_err_and c.from_residual.result c.from_residual.ensures.1 in
    rw (p.1, p.2) (Fails-bind c.in_err-field.field-0.0 _ _ c.in_err-field.ensures)
