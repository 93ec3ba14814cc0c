use Rattle.std.proofs.Common.{arith}
use Rattle.bgp_reading.proofs.Answered.{read-by, refused-by}
use Rattle.bgp_reading.proofs.Bytes.{octets-from}
use Rattle.bgp_reading.proofs.reading.read_update.Goals as goal

pub returns-clause-read : goal.returns-clause-read
returns-clause-read c =
    read-by c.args.bytes.now c.read_in_form.result (octets-from c.args.bytes.now (λ i. omega (arith, c.type_inv.bytes i))) c.read_in_form.ensures.value

pub returns-clause-not_update : goal.returns-clause-not_update
returns-clause-not_update c = λ fault parts is. refused-by c.args.bytes.now (c.read_in_form.ensures.none fault) parts is
