use Rattle.std.proofs.Common.{◌≡◌, ◌++◌, drop, map, filter_map, slice_get}
use Rattle.std.specs.List.{All, Contains}
use Rattle.alloc_book.proofs.choosing.pools_at.Given as goal

abbrev pub invariant-loop-place : goal.invariant-loop-place
invariant-loop-place l =
    record {
      places : map (λ p. p.now) l.found.items ++ filter_map (slice_get l.pools) (drop l.place-index l.places) ≡ filter_map (slice_get l.pools) l.places;
      among : All (λ p. Contains l.pools p.now) l.found.items;
    }
