-- The lines that spell L2 advertisements.
use Rattle.std.specs.Prelude.{◌≡◌, ℕ, List, [], ◌∷◌, Bool, Option, option_map, Ok, unwrap_or, codes}
use Rattle.serde_json.specs.Data.{Data}
use Rattle.kube_model.specs.declared.event.Event.TheVariants.{Changed}
use Rattle.kube_model.specs.declared.object.Object.TheVariants as objects
use Rattle.kube_model.specs.declared.l2.L2Adv.{L2Adv}
use Rattle.kube_events.specs.Event.{event_of_line}
use Rattle.event_laws.specs.ObjectLines.{Field, Head, IsHead, object_line, texts_data, SelectorLines, selectors_data, selectors_spelled, Spells}

-- what is chosen freely of the line; a spec without any member may be left out
pub record L2Line : Type 0 where
  pub head : Head
  pub without_spec : Bool
  pub pools : Option (List (List ℕ))
  pub pool_selectors : SelectorLines
  pub node_selectors : SelectorLines
  pub interfaces : Option (List (List ℕ))

abbrev pub l2_fields : L2Line → List Field
l2_fields s =
    (codes "interfaces", option_map texts_data s.interfaces) ∷
    (codes "ipAddressPoolSelectors", selectors_data s.pool_selectors) ∷
    (codes "ipAddressPools", option_map texts_data s.pools) ∷
    (codes "nodeSelectors", selectors_data s.node_selectors) ∷ []

abbrev pub l2_line : L2Line → Data
l2_line s = object_line (codes "L2Advertisement") s.head s.without_spec (l2_fields s)

-- the advertisement that the line spells
abbrev pub l2_spelled : L2Line → L2Adv
l2_spelled s = record {
  name = s.head.name;
  pools = unwrap_or s.pools [];
  pool_selectors = selectors_spelled s.pool_selectors;
  node_selectors = selectors_spelled s.node_selectors;
  interfaces = unwrap_or s.interfaces [];
}

-- The line that spells an advertisement is read as it.
abbrev pub L2AdvsAreRead : Type 0
L2AdvsAreRead = (line : List ℕ) (s : L2Line) (n : ℕ) → Spells line (l2_line s) → IsHead s.head n
    → event_of_line line ≡ Ok (Changed n (objects.L2 (l2_spelled s)))
