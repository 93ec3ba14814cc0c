use Rattle.std.proofs.Common.{◌≡◌, ◌≤◌, length, take, vec_capacity}
use Rattle.number_sets.specs.RunLists.{AreCountedTo, count_numbers}
use Rattle.number_sets.proofs.counts.recount.Given as goal

abbrev pub invariant-loop-place : goal.invariant-loop-place
invariant-loop-place l =
    record {
      placed : length l.before.items ≡ l.place;
      counts : AreCountedTo l.place l.runs l.before.items;
      sum : l.count ≡ count_numbers (take l.place l.runs);
      room : vec_capacity l.fn.before ≤ vec_capacity l.before;
    }
