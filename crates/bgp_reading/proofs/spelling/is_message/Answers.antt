use Rattle.std.proofs.Common.{ap, length, sym, arith}
use Rattle.bgp_reading.proofs.Spelled.{other-size}
use Rattle.bgp_reading.proofs.spelling.is_message.Goals as goal

pub returns-then-len-bytes : goal.returns-then-len-bytes
returns-then-len-bytes c = sym (other-size c.args.part.now c.args.prefixes.now c.args.bytes.now (omega (arith, ap length c.in_ok-told.ensures)))
