use Rattle.std.proofs.Common.{◌≡◌, ◌++◌, ◌∷◌, [], slice_get, map, Bor}
use Rattle.std.proofs.lemmas.List.{map-append}
use Rattle.std.proofs.lemmas.List.Elements.{All-push}
use Rattle.std.specs.List.{Contains}
use Rattle.pool_config.specs.declared.compiled.CompiledPool.{CompiledPool}
use Rattle.alloc_book.proofs.ChooseLaws.{filter_map-some, filter_map-none}
use Rattle.alloc_book.proofs.EntryLaws.{contained}
use Rattle.alloc_book.proofs.choosing.pools_at.Goals as goal

pub loop-place-preserved-in_default : goal.loop-place-preserved-in_default
loop-place-preserved-in_default c =
    record {
      places = filter_map-none (slice_get c.args.pools.now) c.args.places.now c.loop-place.place-index _ _ _ c.loop-place-test.true c.in_default.ensures
          c.loop-place.invariant.places;
      among = c.loop-place.invariant.among;
    }

pub loop-place-preserved : goal.loop-place-preserved
loop-place-preserved c =
    let shown : Bor CompiledPool → CompiledPool = λ p. p.now in
    let grown : map shown c.push.new.self.items ≡ map shown c.loop-place.found.items ++ c.in-Some.pool.now ∷ [] =
    rw c.in_ok-push.ensures.items (map-append shown c.loop-place.found.items (c.in-Some.pool ∷ [])) in
    record {
      places = rw grown (filter_map-some (slice_get c.args.pools.now) c.args.places.now c.loop-place.place-index _ _ _ c.in-Some.pool.now
          c.loop-place-test.true c.in-Some.ensures c.loop-place.invariant.places);
      among = rw c.in_ok-push.ensures.items (All-push (λ (p : Bor CompiledPool). Contains c.args.pools.now p.now) c.loop-place.found.items c.in-Some.pool
          c.loop-place.invariant.among (contained c.args.pools.now _ c.in-Some.pool.now c.in-Some.ensures));
    }
