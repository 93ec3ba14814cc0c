use Rattle.std.proofs.Common.{◌≡◌}
use Rattle.library_tests.proofs.mail.room.take_behind.Given as goal

abbrev pub invariant-loop-number : goal.invariant-loop-number
invariant-loop-number g l = l.inbox.mail ≡ l.mail
