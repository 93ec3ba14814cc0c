use Rattle.lane_mail.proofs.Looking.{OnlyMarks}
use Rattle.lane_mail.proofs.mail.Mail.take.Given as goal

abbrev pub invariant-loop : goal.invariant-loop
invariant-loop g l = OnlyMarks l.fn.pass l.pass
