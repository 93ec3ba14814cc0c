use Rattle.std.proofs.Common.{false, ◌≡◌, ◌≤◌, ◌<◌, ◌+◌, ◌-◌, ℕ}
use Rattle.number_sets.specs.Blocks.{is_open}
use Rattle.number_sets.proofs.blocks.BlockSet.first_absent.Given as goal

abbrev pub invariant-loop-number : goal.invariant-loop-number
invariant-loop-number l =
    record {
      begun : l.low ≤ l.from;
      before : (m : ℕ) → l.low ≤ m → m < l.from → is_open l.inside l.self m ≡ false;
    }

abbrev pub decreases-loop-number : goal.decreases-loop-number
decreases-loop-number l = l.high + 1 - l.from
