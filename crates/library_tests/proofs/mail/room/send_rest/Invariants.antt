use Rattle.std.proofs.Common.{◌≡◌, length}
use Rattle.lane_mail.specs.declared.lane.Lane.TheVariants.{First}
use Rattle.library_tests.proofs.mail.room.send_rest.Given as goal

abbrev pub invariant-loop-number : goal.invariant-loop-number
invariant-loop-number g l = (l.pass.mail ≡ l.mail) × (l.pass.lane ≡ First) × (length l.pass.sent ≡ l.number)
