use Rattle.std.proofs.Common.{◌≡◌, List, subst, sym, ◌∙◌, ap, map}
use Rattle.std.specs.Prelude.{IfOk}
use Rattle.ip_ranges.specs.Values.{AddressValue}
use Rattle.l2_elect.specs.Kept.{AreMoves, move_to}
use Rattle.l2_elect.proofs.Keeping.{all-right}
use Rattle.l2_elect.proofs.announcers.Announcers.all_moves.Goals as goal

pub returns : goal.returns
returns c = all-right c.args.self.now c.args.view.now c.in_ok-addresses.addresses c.elected_moves.result c.in_ok-addresses.ensures c.elected_moves.ensures
