-- The numbers of what is read of a value.
use Rattle.std.proofs.Common.{◌≡◌, ◌≤◌, ◌<◌, ◌+◌, ◌-◌, ◌/◌, ◌%◌, ◌^◌, ◌∙◌, ℕ, zero, suc, Bool, true, false, List, [], ◌∷◌, ◌++◌, length, replicate}
use Rattle.std.proofs.Common.{length-append, Option, Some, None, Result, Ok, Err, IfOk, IfSome, option_and_then, codes, refl, sym, ap, subst, inl, inr, arith}
use Rattle.std.specs.Bool.{⊤}
use Rattle.std.proofs.lemmas.Int.Digits.{digits_value-lt}
use Rattle.std.proofs.lemmas.List.{length-replicate}
use Rattle.std.specs.Int.{w32, w128, from_be_bytes}
use Rattle.std.specs.List.{AllByRecursion}
use Rattle.std.specs.Net.Addr.{octets_of, segments_of}
use Rattle.std.specs.Net.Grammar.{IsColonHex, IsDotted, IsGroup, IsGroupsAfter}
use Rattle.std.specs.Result.{result_ok}
use Rattle.std.specs.Str.Parse.{digits_value}
use Rattle.serde_json.specs.Find.{as_str}
use Rattle.json_fields.specs.Reading.{or_itself, object_of, number_in}
use Rattle.json_text_laws.proofs.Readers.{Reads, then_ok, any_ok, reads-optional_at, reads-required_at, reads-default_at, reads-number_in, reads-list_at}
use Rattle.ip_ranges.specs.AddressText.{IsSpelled, IsAddressText, address_of}
use Rattle.ip_ranges.specs.Values.{AddressValue, IsOfFamily, width_of}
use Rattle.ip_ranges.specs.declared.family.Family.{Family}
use Rattle.ip_ranges.specs.declared.family.Family.TheVariants.{V4, V6}
use Rattle.ip_ranges.specs.declared.fault.RangeFault.{RangeFault}
use Rattle.ip_ranges.proofs.SpelledLemmas.{address_of-ok}
use Rattle.kube_model.specs.declared.key.Key.{Key}
use Rattle.kube_model.specs.declared.bgp.BgpAdv.{BgpAdv}
use Rattle.kube_model.specs.declared.peer.BgpPeer.{BgpPeer}
use Rattle.kube_model.specs.declared.object.Kind.{Kind}
use Rattle.kube_model.specs.declared.object.Kind.TheVariants as kinds
use Rattle.kube_model.specs.declared.service.Service.{Service}
use Rattle.kube_events.specs.Named.{address_in}
use Rattle.kube_events.specs.Fields.{Pairs, pools_field, pool_selectors_field, node_selectors_field}
use Rattle.kube_events.specs.BgpFields.{length_field, length_v6_field, local_pref_field, communities_field, peers_field, bgp_of}
use Rattle.kube_events.specs.PeerFields.{my_asn_field, peer_asn_field, peer_of}
use Rattle.kube_events.specs.ServiceFields.{annotations_field, balancer_field, class_field, address_field, families_field, prefer_dual_field}
use Rattle.kube_events.specs.ServiceFields.{policy_field, selector_field, ports_field, places_field, ingress_of, addresses_in, service_of}
use Rattle.kube_events.specs.PoolFields.{pool_of}
use Rattle.kube_events.specs.L2Fields.{l2_of}
use Rattle.kube_events.specs.CommunityFields.{named_values_field}
use Rattle.kube_events.specs.SliceFields.{slice_of}
use Rattle.kube_events.specs.ObjectFields.{body_of}
use Rattle.line_event_laws.specs.Numbers.{HasRouteNumbers, HasAsn, ShowsNumbers, LinesShowNumbers}
use Rattle.line_event_laws.proofs.Events.{Makes, HoldsOfOthers, lines_hold}

-- ---- addresses

four : (a b c d : ℕ) → a < 256 → b < 256 → c < 256 → d < 256 → from_be_bytes w32 (a ∷ b ∷ c ∷ d ∷ []) < 2 ^ 32
four a b c d ha hb hc hd = omega (arith, ha, hb, hc, hd)

dotted-short : (text octets : List ℕ) → IsDotted text octets → from_be_bytes w32 octets < 2 ^ 32
dotted-short text octets is =
    subst (λ (o : List ℕ). from_be_bytes w32 o < 2 ^ 32) (sym is.value) (four is.a is.b is.c is.d is.fit.0 is.fit.1 is.fit.2 is.fit.3)

-- groups of 16 bits
abbrev Groups : List ℕ → Type 0
Groups groups = AllByRecursion (λ g. g < 2 ^ 16) groups

few-digits : (k : ℕ) → k ≤ 4 → 16 ^ k ≤ 2 ^ 16
few-digits zero few = omega arith
few-digits (suc zero) few = omega arith
few-digits (suc (suc zero)) few = omega arith
few-digits (suc (suc (suc zero))) few = omega arith
few-digits (suc (suc (suc (suc zero)))) few = omega arith
few-digits (suc (suc (suc (suc (suc k))))) few = absurd (omega (arith, few))

group-fits : (text : List ℕ) (g : ℕ) → IsGroup text g → g < 2 ^ 16
group-fits text g is =
    let below : digits_value 16 text < 16 ^ length text = digits_value-lt 16 text is.0.0.1 in
    let most : 16 ^ length text ≤ 2 ^ 16 = few-digits (length text) is.1 in
    let value : digits_value 16 text ≡ g = is.0.1 in
    omega (arith, below, most, value)

dotted-groups : (text octets : List ℕ) → IsDotted text octets → Groups (segments_of octets)
dotted-groups text octets is =
    let (a, b, c, d) = is.fit in
    subst (λ (o : List ℕ). Groups (segments_of o)) (sym is.value) (omega (arith, a, b), (omega (arith, c, d), tt))

groups-fit : (ipv4 : Bool) (lead text groups : List ℕ) → IsGroupsAfter ipv4 lead text groups → Groups groups
groups-fit ipv4 lead text [] is = tt
groups-fit ipv4 lead text (g ∷ groups) (inl (first, rest, split, own, more)) = (group-fits first g own, groups-fit ipv4 (codes ":") rest groups more)
groups-fit ipv4 lead text (g ∷ groups) (inr (last, octets, on, split, dotted, are)) = subst Groups (sym are) (dotted-groups last octets dotted)

append-fits : (a b : List ℕ) → Groups a → Groups b → Groups (a ++ b)
append-fits [] b x y = y
append-fits (g ∷ a) b x y = (x.0, append-fits a b x.1 y)

zeros-fit : (n : ℕ) → Groups (replicate n 0)
zeros-fit zero = tt
zeros-fit (suc n) = (omega arith, zeros-fit n)

elided-length : (head tail : List ℕ) → length head + length tail < 8 → length (head ++ replicate (8 - length head - length tail) 0 ++ tail) ≡ 8
elided-length head tail room = grind (arith, length-append, length-replicate)

colon-groups : (text groups : List ℕ) → IsColonHex text groups → Groups groups × (length groups ≡ 8)
colon-groups text groups (inl (are, eight)) = (groups-fit true [] text groups are, eight)
colon-groups text groups (inr is) = (
  subst Groups (sym is.value)
      (append-fits (is.head ++ replicate (8 - length is.head - length is.tail) 0) is.tail
      (append-fits is.head (replicate (8 - length is.head - length is.tail) 0) (groups-fit false [] is.head_text is.head is.head_groups)
      (zeros-fit (8 - length is.head - length is.tail)))
      (groups-fit true [] is.tail_text is.tail is.tail_groups)),
  ap length is.value ∙ elided-length is.head is.tail is.room,
)

high-fits : (g : ℕ) → g < 2 ^ 16 → g / 256 < 256
high-fits g fits = omega (arith, fits)

low-fits : (g : ℕ) → g % 256 < 256
low-fits g = omega arith

sixteen : (a b c d e f g h i j k l m n o p : ℕ) → a < 256 → b < 256 → c < 256 → d < 256 → e < 256 → f < 256 → g < 256 → h < 256
    → i < 256 → j < 256 → k < 256 → l < 256 → m < 256 → n < 256 → o < 256 → p < 256
    → from_be_bytes w128 (a ∷ b ∷ c ∷ d ∷ e ∷ f ∷ g ∷ h ∷ i ∷ j ∷ k ∷ l ∷ m ∷ n ∷ o ∷ p ∷ []) < 2 ^ 128
sixteen a b c d e f g h i j k l m n o p ha hb hc hd he hf hg hh hi hj hk hl hm hn ho hp =
    omega (arith, ha, hb, hc, hd, he, hf, hg, hh, hi, hj, hk, hl, hm, hn, ho, hp)

eight-fit : (groups : List ℕ) → Groups groups → length groups ≡ 8 → from_be_bytes w128 (octets_of groups) < 2 ^ 128
eight-fit (a ∷ b ∷ c ∷ d ∷ e ∷ f ∷ g ∷ h ∷ []) (ha, (hb, (hc, (hd, (he, (hf, (hg, (hh, end)))))))) eight =
    sixteen (a / 256) (a % 256) (b / 256) (b % 256) (c / 256) (c % 256) (d / 256) (d % 256) (e / 256) (e % 256) (f / 256) (f % 256) (g / 256) (g % 256)
    (h / 256) (h % 256)
    (high-fits a ha) (low-fits a) (high-fits b hb) (low-fits b) (high-fits c hc) (low-fits c) (high-fits d hd) (low-fits d)
    (high-fits e he) (low-fits e) (high-fits f hf) (low-fits f) (high-fits g hg) (low-fits g) (high-fits h hh) (low-fits h)
eight-fit (a ∷ b ∷ c ∷ d ∷ e ∷ f ∷ g ∷ h ∷ i ∷ more) fit eight = absurd (omega (arith, eight))
eight-fit (a ∷ b ∷ c ∷ d ∷ e ∷ f ∷ g ∷ []) fit eight = absurd (omega (arith, eight))
eight-fit (a ∷ b ∷ c ∷ d ∷ e ∷ f ∷ []) fit eight = absurd (omega (arith, eight))
eight-fit (a ∷ b ∷ c ∷ d ∷ e ∷ []) fit eight = absurd (omega (arith, eight))
eight-fit (a ∷ b ∷ c ∷ d ∷ []) fit eight = absurd (omega (arith, eight))
eight-fit (a ∷ b ∷ c ∷ []) fit eight = absurd (omega (arith, eight))
eight-fit (a ∷ b ∷ []) fit eight = absurd (omega (arith, eight))
eight-fit (a ∷ []) fit eight = absurd (omega (arith, eight))
eight-fit [] fit eight = absurd (omega (arith, eight))

spelled-fits : (f : Family) (text : List ℕ) (n : ℕ) → IsSpelled f text n → n < 2 ^ width_of f
spelled-fits V4 text n (octets, dotted, is) = subst (λ (m : ℕ). m < 2 ^ 32) (sym is) (dotted-short text octets dotted)
spelled-fits V6 text n (groups, colons, is) =
    let (fit, eight) = colon-groups text groups colons in
    subst (λ (m : ℕ). m < 2 ^ 128) (sym is) (eight-fit groups fit eight)

-- the address of a text
pub text-fits : (text : List ℕ) (a : AddressValue) → IsAddressText text a → IsOfFamily a
text-fits text a is = spelled-fits a.family text a.number is

result-fits : (text : List ℕ) (r : Result AddressValue RangeFault) → address_of text ≡ r → IfSome (result_ok r) IsOfFamily
result-fits text (Ok a) e = text-fits text a ((address_of-ok text a).0 e).0
result-fits text (Err fault) e = tt

named-fits : (o : Option (List ℕ)) → IfSome (option_and_then (λ text. result_ok (address_of text)) o) IsOfFamily
named-fits None = tt
named-fits (Some text) = result-fits text (address_of text) refl

itself-fits : (o : Option AddressValue) → IfSome o IsOfFamily → IfOk (or_itself o) IsOfFamily
itself-fits (Some a) h = h
itself-fits None h = tt

reads-address_in : Reads IsOfFamily address_in
unfolding address_in
reads-address_in d h = itself-fits (option_and_then (λ text. result_ok (address_of text)) (as_str d)) (named-fits (as_str d))

abbrev PlaceFits : Option AddressValue → Type 0
PlaceFits place = IfSome place IsOfFamily

reads-ingress_of : Reads PlaceFits ingress_of
unfolding ingress_of
reads-ingress_of d h =
    then_ok (λ _. ⊤) PlaceFits (object_of d) _ (any_ok (object_of d)) (λ members _. reads-optional_at IsOfFamily address_in (codes "ip") reads-address_in d h)

all-there : (places : List (Option AddressValue)) → AllByRecursion PlaceFits places → AllByRecursion IsOfFamily (addresses_in places)
all-there [] all = tt
all-there (None ∷ places) all = all-there places all.1
all-there (Some a ∷ places) all = (all.0, all-there places all.1)

-- ---- objects

-- the addresses of each service of a key and labels fit their families
abbrev MakesAddresses : (Key → Pairs → Service) → Type 0
MakesAddresses make = (key : Key) (labels : Pairs) → AllByRecursion IsOfFamily (make key labels).holding.addresses

reads-service_of : Reads MakesAddresses service_of
unfolding service_of
reads-service_of d h =
    then_ok (λ _. ⊤) MakesAddresses (annotations_field d) _ (any_ok (annotations_field d)) (λ annotations _.
    then_ok (λ _. ⊤) MakesAddresses (balancer_field d) _ (any_ok (balancer_field d)) (λ balancer _.
    then_ok (λ _. ⊤) MakesAddresses (class_field d) _ (any_ok (class_field d)) (λ class _.
    then_ok (λ _. ⊤) MakesAddresses (address_field d) _ (any_ok (address_field d)) (λ address _.
    then_ok (λ _. ⊤) MakesAddresses (families_field d) _ (any_ok (families_field d)) (λ families _.
    then_ok (λ _. ⊤) MakesAddresses (prefer_dual_field d) _ (any_ok (prefer_dual_field d)) (λ prefer_dual _.
    then_ok (λ _. ⊤) MakesAddresses (policy_field d) _ (any_ok (policy_field d)) (λ policy _.
    then_ok (λ _. ⊤) MakesAddresses (selector_field d) _ (any_ok (selector_field d)) (λ selector _.
    then_ok (λ _. ⊤) MakesAddresses (ports_field d) _ (any_ok (ports_field d)) (λ ports _.
    then_ok (AllByRecursion PlaceFits) MakesAddresses (places_field d)
    _ (reads-list_at PlaceFits ingress_of (codes "status.loadBalancer.ingress") reads-ingress_of d h)
    (λ places all key labels. all-there places all))))))))))

abbrev MakesRoutes : (Key → BgpAdv) → Type 0
MakesRoutes make = (key : Key) → HasRouteNumbers (make key)

abbrev Within : ℕ → ℕ → ℕ → Type 0
Within low high n = (low ≤ n) × (n ≤ high)

reads-bgp_of : Reads MakesRoutes bgp_of
unfolding bgp_of
reads-bgp_of d h =
    then_ok (Within 1 32) MakesRoutes (length_field d) _ (reads-default_at (Within 1 32) (number_in 1 32) (codes "spec.aggregationLength") 32 (
      omega arith,
      omega arith,
    ) (reads-number_in 1 32) d h) (λ length short.
    then_ok (Within 0 128) MakesRoutes (length_v6_field d) _ (reads-default_at (Within 0 128) (number_in 0 128) (codes "spec.aggregationLengthV6") 128
    (omega arith, omega arith) (reads-number_in 0 128) d h) (λ length_v6 short_v6.
    then_ok (Within 0 4294967295) MakesRoutes (local_pref_field d) _ (reads-default_at (Within 0 4294967295) (number_in 0 4294967295) (codes "spec.localPref") 0
    (omega arith, omega arith) (reads-number_in 0 4294967295) d h) (λ local_pref small.
    then_ok (λ _. ⊤) MakesRoutes (communities_field d) _ (any_ok (communities_field d)) (λ communities _.
    then_ok (λ _. ⊤) MakesRoutes (pools_field d) _ (any_ok (pools_field d)) (λ pools _.
    then_ok (λ _. ⊤) MakesRoutes (pool_selectors_field d) _ (any_ok (pool_selectors_field d)) (λ pool_selectors _.
    then_ok (λ _. ⊤) MakesRoutes (node_selectors_field d) _ (any_ok (node_selectors_field d)) (λ node_selectors _.
    then_ok (λ _. ⊤) MakesRoutes (peers_field d) _ (any_ok (peers_field d)) (λ peers _ key.
    let top : local_pref ≤ 4294967295 = small.1 in record { length = short.1; length_v6 = short_v6.1; local_pref = omega (arith, top) }))))))))

abbrev MakesAsn : (Key → BgpPeer) → Type 0
MakesAsn make = (key : Key) → HasAsn (make key)

reads-peer_of : Reads MakesAsn peer_of
unfolding peer_of
reads-peer_of d h =
    then_ok (Within 1 4294967295) MakesAsn (my_asn_field d)
    _ (reads-required_at (Within 1 4294967295) (number_in 1 4294967295) (codes "spec.myASN") (reads-number_in 1 4294967295) d h) (λ my_asn small.
    then_ok (λ _. ⊤) MakesAsn (peer_asn_field d) _ (any_ok (peer_asn_field d)) (λ peer_asn _.
    then_ok (λ _. ⊤) MakesAsn (node_selectors_field d) _ (any_ok (node_selectors_field d)) (λ node_selectors _ key.
    let top : my_asn ≤ 4294967295 = small.1 in omega (arith, top))))

-- ---- events

reads-body_of : (kind : Kind) → Reads (Makes ShowsNumbers) (body_of kind)
unfolding body_of
reads-body_of kinds.Service d h =
    then_ok MakesAddresses (Makes ShowsNumbers) (service_of d) _ (reads-service_of d h) (λ make short version key labels text. short key labels)
reads-body_of kinds.Bgp d h = then_ok MakesRoutes (Makes ShowsNumbers) (bgp_of d) _ (reads-bgp_of d h) (λ make numbers version key labels text. numbers key)
reads-body_of kinds.Peer d h = then_ok MakesAsn (Makes ShowsNumbers) (peer_of d) _ (reads-peer_of d h) (λ make asn version key labels text. asn key)
reads-body_of kinds.Pool d h = then_ok (λ _. ⊤) (Makes ShowsNumbers) (pool_of d) _ (any_ok (pool_of d)) (λ make _ version key labels text. tt)
reads-body_of kinds.L2 d h = then_ok (λ _. ⊤) (Makes ShowsNumbers) (l2_of d) _ (any_ok (l2_of d)) (λ make _ version key labels text. tt)
reads-body_of kinds.Community d h =
    then_ok (λ _. ⊤) (Makes ShowsNumbers) (named_values_field d) _ (any_ok (named_values_field d)) (λ values _ version key labels text. tt)
reads-body_of kinds.Namespace d h = λ version key labels text. tt
reads-body_of kinds.Node d h = λ version key labels text. tt
reads-body_of kinds.Slice d h = then_ok (λ _. ⊤) (Makes ShowsNumbers) (slice_of d) _ (any_ok (slice_of d)) (λ make _ version key labels text. tt)

others : HoldsOfOthers ShowsNumbers
others = record { deleted = λ kind key. tt; ended = λ group. tt; expired = tt; members = λ names. tt; frame = λ interface bytes. tt; ignored = tt }

pub lines_show_numbers : LinesShowNumbers
lines_show_numbers = lines_hold ShowsNumbers reads-body_of others
