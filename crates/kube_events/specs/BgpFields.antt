-- The fields of a BGP advertisement beside its metadata, in the order in which the first faulty one is named.
use Rattle.std.specs.Prelude.{ℕ, List, Result, Ok, codes}
use Rattle.serde_json.specs.Data.{Data}
use Rattle.json_fields.specs.Path.{Path}
use Rattle.json_fields.specs.Reading.{◌>>=◌, default_at, list_at, text_of, number_in}
use Rattle.kube_model.specs.declared.key.Key.{Key}
use Rattle.kube_model.specs.declared.bgp.BgpAdv.{BgpAdv}
use Rattle.kube_events.specs.declared.bgp_fields.RouteSpec.{RouteSpec}
use Rattle.kube_events.specs.declared.bgp_fields.ChoiceSpec.{ChoiceSpec}
use Rattle.kube_events.specs.Fields.{pools_field, pool_selectors_field, node_selectors_field}
use Rattle.kube_events.specs.declared.bgp_fields.BgpSpec.{BgpSpec}

abbrev pub length_field : Data → Result ℕ Path
length_field d = default_at (number_in 1 32) (codes "spec.aggregationLength") 32 d

abbrev pub length_v6_field : Data → Result ℕ Path
length_v6_field d = default_at (number_in 0 128) (codes "spec.aggregationLengthV6") 128 d

abbrev pub local_pref_field : Data → Result ℕ Path
local_pref_field d = default_at (number_in 0 4294967295) (codes "spec.localPref") 0 d

abbrev pub communities_field : Data → Result (List (List ℕ)) Path
communities_field d = list_at text_of (codes "spec.communities") d

abbrev pub peers_field : Data → Result (List (List ℕ)) Path
peers_field d = list_at text_of (codes "spec.peers") d

-- the advertisement of a key
unfoldable pub bgp_of : Data → Result (Key → BgpAdv) Path
bgp_of d = do
  length ← length_field d
  length_v6 ← length_v6_field d
  local_pref ← local_pref_field d
  communities ← communities_field d
  pools ← pools_field d
  pool_selectors ← pool_selectors_field d
  node_selectors ← node_selectors_field d
  peers ← peers_field d
  Ok (λ key. record {
    name = key.name;
    length = length;
    length_v6 = length_v6;
    local_pref = local_pref;
    communities = communities;
    pools = pools;
    pool_selectors = pool_selectors;
    node_selectors = node_selectors;
    peers = peers;
  })

-- ---- the same in two parts, as they are read

unfoldable pub route_spec_of : Data → Result RouteSpec Path
route_spec_of d = do
  length ← length_field d
  length_v6 ← length_v6_field d
  local_pref ← local_pref_field d
  communities ← communities_field d
  Ok (record { length = length; length_v6 = length_v6; local_pref = local_pref; communities = communities })

unfoldable pub choice_spec_of : Data → Result ChoiceSpec Path
choice_spec_of d = do
  pools ← pools_field d
  pool_selectors ← pool_selectors_field d
  node_selectors ← node_selectors_field d
  peers ← peers_field d
  Ok (record { pools = pools; pool_selectors = pool_selectors; node_selectors = node_selectors; peers = peers })

abbrev pub bgp_with : BgpSpec → Key → BgpAdv
bgp_with s key = record {
  name = key.name;
  length = s.route.length;
  length_v6 = s.route.length_v6;
  local_pref = s.route.local_pref;
  communities =
      s.route.communities;
  pools = s.choice.pools;
  pool_selectors = s.choice.pool_selectors;
  node_selectors = s.choice.node_selectors;
  peers = s.choice.peers;
}
