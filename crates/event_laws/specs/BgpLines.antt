-- The lines that spell BGP advertisements.
use Rattle.std.specs.Prelude.{◌≡◌, ◌≤◌, ℕ, List, [], ◌∷◌, Bool, Option, option_map, Ok, IfSome, unwrap_or, codes}
use Rattle.serde_json.specs.Data.{Data}
use Rattle.kube_model.specs.declared.event.Event.TheVariants.{Changed}
use Rattle.kube_model.specs.declared.object.Object.TheVariants as objects
use Rattle.kube_model.specs.declared.bgp.BgpAdv.{BgpAdv}
use Rattle.kube_model.specs.Lengths.{IsLengthV4, IsLengthV6}
use Rattle.kube_events.specs.Event.{event_of_line}
use Rattle.event_laws.specs.ObjectLines.{Field, Head, IsHead, object_line, texts_data, number_data, SelectorLines, selectors_data, selectors_spelled, Spells}

-- what is chosen freely of the line; a spec without any member may be left out
pub record BgpLine : Type 0 where
  pub head : Head
  pub without_spec : Bool
  pub length : Option ℕ
  pub length_v6 : Option ℕ
  pub local_pref : Option ℕ
  pub communities : Option (List (List ℕ))
  pub pools : Option (List (List ℕ))
  pub pool_selectors : SelectorLines
  pub node_selectors : SelectorLines
  pub peers : Option (List (List ℕ))

abbrev pub bgp_fields : BgpLine → List Field
bgp_fields s =
    (codes "aggregationLength", option_map number_data s.length) ∷
    (codes "aggregationLengthV6", option_map number_data s.length_v6) ∷
    (codes "communities", option_map texts_data s.communities) ∷
    (codes "ipAddressPoolSelectors", selectors_data s.pool_selectors) ∷
    (codes "ipAddressPools", option_map texts_data s.pools) ∷
    (codes "localPref", option_map number_data s.local_pref) ∷
    (codes "nodeSelectors", selectors_data s.node_selectors) ∷
    (codes "peers", option_map texts_data s.peers) ∷ []

abbrev pub bgp_line : BgpLine → Data
bgp_line s = object_line (codes "BGPAdvertisement") s.head s.without_spec (bgp_fields s)

-- the advertisement that the line spells
abbrev pub bgp_spelled : BgpLine → BgpAdv
bgp_spelled s = record {
  name = s.head.name;
  length = unwrap_or s.length 32;
  length_v6 = unwrap_or s.length_v6 128;
  local_pref = unwrap_or s.local_pref 0;
  communities = unwrap_or s.communities [];
  pools = unwrap_or s.pools [];
  pool_selectors = selectors_spelled s.pool_selectors;
  node_selectors = selectors_spelled s.node_selectors;
  peers = unwrap_or s.peers [];
}

-- the numbers that are there are in their ranges
abbrev pub IsBgpLine : BgpLine → Type 0
IsBgpLine s = IfSome s.length IsLengthV4 × IfSome s.length_v6 IsLengthV6 × IfSome s.local_pref (λ n. n ≤ 4294967295)

-- The line that spells an advertisement is read as it.
abbrev pub BgpAdvsAreRead : Type 0
BgpAdvsAreRead = (line : List ℕ) (s : BgpLine) (n : ℕ) → Spells line (bgp_line s) → IsHead s.head n → IsBgpLine s
    → event_of_line line ≡ Ok (Changed n (objects.Bgp (bgp_spelled s)))
