use Rattle.std.proofs.Common.{◌≡◌, ◌≤◌, ◌<◌, ◌+◌, ◌==◌, filter, length, drop}
use Rattle.std.specs.List.Sorted.{IsStrictlySortedBy}
use Rattle.std.specs.Map.{lookup, keys_of}
use Rattle.std.specs.Ordering.{nat_cmp}
use Rattle.claim_index.specs.Reading.{is_odd}
use Rattle.claim_index.proofs.index.count_odd.Given as goal

abbrev pub invariant-loop-number : goal.invariant-loop-number
invariant-loop-number l =
    record {
      fits : l.count ≤ l.number-index;
      rest : l.count + length (filter (λ n. is_odd l.terms l.address (lookup (λ m. m == n) l.claims.items)) (drop l.number-index l.numbers))
          ≡ length (filter (λ n. is_odd l.terms l.address (lookup (λ m. m == n) l.claims.items)) l.numbers);
      ascending : 0 < l.number-index → IsStrictlySortedBy nat_cmp (keys_of l.claims.items);
    }
