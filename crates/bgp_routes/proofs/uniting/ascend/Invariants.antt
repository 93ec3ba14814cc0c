use Rattle.std.proofs.Common.{◌≡◌, ◌≤◌, ◌^◌, drop}
use Rattle.bgp_routes.specs.Uniting.{ascend_from}
use Rattle.bgp_routes.proofs.uniting.ascend.Given as goal

abbrev pub invariant-loop-number : goal.invariant-loop-number
invariant-loop-number l = record {
  rest : ascend_from l.low (drop l.number-index l.numbers) ≡ ascend_from 0 l.numbers;
  fits : l.low ≤ 2 ^ 32;
}
