use Rattle.std.proofs.Common.{ℕ, length, ap, refl, arith, length-drop}
use Rattle.std.proofs.lemmas.List.{length-take-le}
use Rattle.mlb_edge.specs.Reading.{Reading}
use Rattle.mlb_edge.proofs.Lists.{range_past}
use Rattle.mlb_edge.proofs.line_reader.LineReader.pass.Goals as goal

pub returns : goal.returns
returns c =
    let s = c.self.inside in
    let held = ap (λ (r : Reading). length r.held) c.self.view_is in
    rw (← c.self.view_is, range_past s.buffer.items s.start s.end c.args.size (omega (arith, length-take-le {A = ℕ}, length-drop {A = ℕ}))) refl
