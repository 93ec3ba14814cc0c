use Rattle.std.proofs.lemmas.Result.{err_from_is_err_and}
use Rattle.json_fields.specs.Reading.{name_at}
use Rattle.json_fields.proofs.Places.{Fails-bind}
use Rattle.json_fields.proofs.texts.required_name.Goals as goal

pub returns-in_err-name : goal.returns-in_err-name
unfolding name_at
returns-in_err-name c =
    let p = err_from_is_err_and c.from_residual.result c.from_residual.ensures.1 in
    rw (p.1, p.2) (Fails-bind c.in_err-name.field-0.0 _ _ c.in_err-name.ensures)
