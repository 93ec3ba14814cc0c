use Rattle.std.proofs.Common.{rules}
use Rattle.std.proofs.lemmas.Fn.{always_returns_same}
use Rattle.status_store.specs.Places.{Place, place_of, place_cmp}
use Rattle.status_store.proofs.Searching.{searched}
use Rattle.status_store.proofs.stored.search.Goals as goal

-- the closure orders an object against the place
pub returns : goal.returns
returns c =
    let place : Place = (c.args.kind, record { namespace = c.args.namespace.now; name = c.args.name.now }) in
    let by_place =
    c.binary_search_by.ensures.position (λ held. place_cmp (place_of held.object) place) (always_returns_same _ _ _ (λ a r f called. search rules)) in
    let facts = searched c.args.objects.now place c.binary_search_by.result c.requires c.binary_search_by.ensures.bound by_place in
    record { found = facts.0; absent = facts.1 }
