-- How services that clash are looked for: those whose records are marked, by key, each against all.
use Rattle.std.specs.Prelude.{Bool, ◌&&◌, not, if◌then◌else◌, List, [], ◌∷◌, ◌++◌, Option, Some, None}
use Rattle.std.specs.Borrow.{Bor}
use Rattle.std.specs.List.{list_any}
use Rattle.ip_ranges.specs.Values.{has_address}
use Rattle.kube_model.specs.declared.key.Key.{Key}
use Rattle.kube_model.specs.declared.object.Object.{Object}
use Rattle.kube_model.specs.declared.object.Object.TheVariants as objects
use Rattle.kube_model.specs.declared.service.Service.{Service}
use Rattle.kube_model.specs.Keys.{same_key}
use Rattle.sharing_terms.specs.declared.terms.Terms.{Terms}
use Rattle.sharing_terms.specs.Sharing.{may_share}
use Rattle.sharing_terms.specs.Spelled.{recorded_terms}
use Rattle.status_store.specs.declared.stored.Stored.{Stored}
use Rattle.ctl_world.specs.declared.clashes.Marked.{Marked}

-- the service under these terms, if there are some
abbrev pub under : Service → Option Terms → List Marked
under service None = []
under service (Some terms) = record { key = service.key; addresses = service.holding.addresses; terms = terms } ∷ []

-- a service under the terms of its mark; there is none where its record isn't marked, or the object is of another kind
abbrev pub marked_of : Object → List Marked
marked_of (objects.Service service) = under service (recorded_terms service.holding.mark)
marked_of (objects.Pool pool) = []
marked_of (objects.L2 adv) = []
marked_of (objects.Bgp adv) = []
marked_of (objects.Peer peer) = []
marked_of (objects.Community community) = []
marked_of (objects.Namespace namespace) = []
marked_of (objects.Node node) = []
marked_of (objects.Slice slice) = []

-- the marked services of these, in their order
abbrev pub marked_in : List Stored → List Marked
marked_in [] = []
marked_in (held ∷ more) = marked_of held.object ++ marked_in more

-- whether these are two services with a common address, which their terms may not share
unfoldable pub clash : Marked → Marked → Bool
clash a b = not (same_key a.key b.key) && list_any (has_address b.addresses) a.addresses && not (may_share a.terms b.terms)

-- the first of these with which it clashes
abbrev pub partner : Marked → List Marked → Option Key
partner a [] = None
partner a (b ∷ more) = if clash a b then Some b.key else partner a more

-- the key and the other, if there is one; else what was found later
abbrev pub paired : Key → Option Key → Option (Key × Key) → Option (Key × Key)
paired key None later = later
paired key (Some other) later = Some (key, other)

-- the first of these that clashes with one of all, and the first with which it does
abbrev pub first_pair : List Marked → List Marked → Option (Key × Key)
first_pair [] all = None
first_pair (a ∷ more) all = paired a.key (partner a all) (first_pair more all)

-- the keys that these refer to
abbrev pub copied_pair : Option (Bor Key × Bor Key) → Option (Key × Key)
copied_pair None = None
copied_pair (Some pair) = Some (pair.0.now, pair.1.now)

-- the first two of these objects that clash
abbrev pub clash_in : List Stored → Option (Key × Key)
clash_in stored = first_pair (marked_in stored) (marked_in stored)
