use Rattle.std.proofs.Common.{◌≡◌, List}
use Rattle.lane_mail.specs.declared.item.Item.{Item}
use Rattle.lane_mail.specs.Values.{Took}
use Rattle.lane_run.proofs.paced.AnyPacedWait.drop_rest.Given as goal

abbrev pub invariant-loop : goal.invariant-loop
invariant-loop g l = record {
  mail : l.inbox.mail ≡ l.fn.inbox.mail;
  taken : (items : List Item) × Took items l.fn.inbox l.inbox;
}
