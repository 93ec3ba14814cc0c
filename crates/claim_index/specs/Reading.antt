-- What is asked of the claim under a number.
use Rattle.std.specs.Prelude.{Bool, true, false, not, ◌&&◌, ◌||◌, List, Option, Some, None}
use Rattle.std.specs.List.{list_all}
use Rattle.ip_ranges.specs.Values.{AddressValue, has_address}
use Rattle.kube_model.specs.declared.key.Key.{Key}
use Rattle.kube_model.specs.declared.port.Port.{Port}
use Rattle.kube_model.specs.declared.record.Record.{Record}
use Rattle.kube_model.specs.Keys.{same_key}
use Rattle.sharing_terms.specs.Sharing.{may_share}
use Rattle.sharing_terms.specs.declared.terms.Terms.{Terms}
use Rattle.claim_index.specs.SharingGroups.{sharing_group_of}
use Rattle.claim_index.specs.Slots.{Slot, OfPort}
use Rattle.claim_index.specs.Alike.{are_alike}
use Rattle.claim_index.specs.Slots.{occupies}
use Rattle.claim_index.specs.Claims.{ClaimValue, is_under}

-- there is a claim, and it is this record under these terms
abbrev pub is_claim_under : Record → Terms → Option ClaimValue → Bool
is_claim_under holding terms None = false
is_claim_under holding terms (Some c) = is_under holding terms c

-- the claim, if there is one, leaves its addresses to a service of this key and these terms
abbrev pub gives_way : Key → Terms → Option ClaimValue → Bool
gives_way key terms None = true
gives_way key terms (Some c) = same_key c.key key || may_share terms c.terms

-- the claim, if there is one, is of the key
abbrev pub is_of : Key → Option ClaimValue → Bool
is_of key None = true
is_of key (Some c) = same_key c.key key

-- the claim isn't in the slot at the address, or it is of the key
abbrev pub yields : Key → Slot → AddressValue → ClaimValue → Bool
yields key slot a c = not (occupies slot c && has_address c.holding.addresses a) || same_key c.key key

-- there is a claim, and it has the address, and its terms aren't alike with these
abbrev pub is_odd : Terms → AddressValue → Option ClaimValue → Bool
is_odd terms a None = false
is_odd terms a (Some c) = has_address c.holding.addresses a && not (are_alike c.terms terms)

-- the claim doesn't have the address, or is of the key, or its terms are alike with these
abbrev pub belongs : Key → Terms → AddressValue → ClaimValue → Bool
belongs key terms a c = not (has_address c.holding.addresses a) || (same_key c.key key || are_alike c.terms terms)

-- the claim leaves the address to a service of this key and these terms
abbrev pub leaves : Key → Terms → AddressValue → ClaimValue → Bool
leaves key terms a c = same_key c.key key || not (has_address c.holding.addresses a) || may_share terms c.terms

-- each claim of the terms' group that has the port leaves the address, or is of the key
abbrev pub yields_port : List ClaimValue → Key → Terms → AddressValue → Port → Bool
yields_port claims key terms a port = list_all (yields key (OfPort port (sharing_group_of terms)) a) claims
