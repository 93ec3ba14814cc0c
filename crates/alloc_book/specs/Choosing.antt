-- For whom addresses are chosen, by whose claims, and what is offered.
use Rattle.std.specs.Prelude.{List}
use Rattle.alloc_book.specs.declared.choosing.Choosing.{Choosing}
use Rattle.alloc_book.specs.Asking.{Asker, Offer, asking, offer_of}
use Rattle.claim_index.specs.Claims.{ClaimValue}
use Rattle.full_entries.specs.Entries.{AreThose}

abbrev pub claims_in : Choosing → List ClaimValue
claims_in c = c.book.now.claims

-- the pools of the configuration
abbrev pub offer_for : Choosing → Offer
offer_for c = offer_of c.config.now.pools c.service.now c.namespace.now

-- the service, under these terms
abbrev pub asker_in : Choosing → Asker
asker_in c = asking c.service.now c.terms.now

-- the entries of which the book keeps whether they are full are those of the configuration, if there are any
abbrev pub IsEntered : Choosing → Type 0
IsEntered c = AreThose c.config.now.pools c.book.now.entries
