use Rattle.std.proofs.Common.{◌≡◌, ◌∷◌, [], drop, map}
use Rattle.std.specs.List.{list_any}
use Rattle.alloc_book.specs.Choose.{one_of_each}
use Rattle.alloc_book.proofs.requests.fit_alone.Given as goal

abbrev pub invariant-loop-family : goal.invariant-loop-family
invariant-loop-family l =
    list_any (λ families. one_of_each families l.addresses) (map (λ family. family ∷ []) (drop l.family-index l.families))
    ≡ list_any (λ families. one_of_each families l.addresses) (map (λ family. family ∷ []) l.families)
