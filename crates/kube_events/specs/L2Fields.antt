-- The fields of an L2 advertisement beside its metadata, in the order in which the first faulty one is named.
use Rattle.std.specs.Prelude.{ℕ, List, Result, Ok, codes}
use Rattle.serde_json.specs.Data.{Data}
use Rattle.json_fields.specs.Path.{Path}
use Rattle.json_fields.specs.Reading.{◌>>=◌, list_at, text_of}
use Rattle.kube_model.specs.declared.key.Key.{Key}
use Rattle.kube_model.specs.declared.l2.L2Adv.{L2Adv}
use Rattle.kube_events.specs.Fields.{pools_field, pool_selectors_field, node_selectors_field}
use Rattle.kube_events.specs.declared.l2_fields.L2Spec.{L2Spec}

abbrev pub interfaces_field : Data → Result (List (List ℕ)) Path
interfaces_field d = list_at text_of (codes "spec.interfaces") d

-- the advertisement of a key
unfoldable pub l2_of : Data → Result (Key → L2Adv) Path
l2_of d = do
  pools ← pools_field d
  pool_selectors ← pool_selectors_field d
  node_selectors ← node_selectors_field d
  interfaces ← interfaces_field d
  Ok (λ key. record { name = key.name; pools = pools; pool_selectors = pool_selectors; node_selectors = node_selectors; interfaces = interfaces })

-- ---- as it is read

abbrev pub l2_with : L2Spec → Key → L2Adv
l2_with s key = record { name = key.name; pools = s.pools; pool_selectors = s.pool_selectors; node_selectors = s.node_selectors; interfaces = s.interfaces }
