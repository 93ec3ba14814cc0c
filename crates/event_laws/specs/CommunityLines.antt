-- The lines that spell communities.
use Rattle.std.specs.Prelude.{◌≡◌, ℕ, List, [], ◌∷◌, Bool, Option, Some, option_map, Ok, unwrap_or, codes}
use Rattle.serde_json.specs.Data.{Data, string}
use Rattle.kube_model.specs.declared.event.Event.TheVariants.{Changed}
use Rattle.kube_model.specs.declared.object.Object.TheVariants as objects
use Rattle.kube_events.specs.Event.{event_of_line}
use Rattle.event_laws.specs.ObjectLines.{Pairs, Head, IsHead, spelled, object_line, list_data, Spells}

-- a name and its value
abbrev pub named_value_data : List ℕ × List ℕ → Data
named_value_data pair = spelled ((codes "name", Some (string pair.0)) ∷ (codes "value", Some (string pair.1)) ∷ [])

abbrev pub community_line : Head → Bool → Option Pairs → Data
community_line head left_out values = object_line (codes "Community") head left_out ((codes "communities", option_map (list_data named_value_data) values) ∷ [])

-- The line that spells names with values is read as they are, in their order.
abbrev pub CommunitiesAreRead : Type 0
CommunitiesAreRead = (line : List ℕ) (head : Head) (left_out : Bool) (values : Option Pairs) (n : ℕ) → Spells line (community_line head left_out values)
    → IsHead head n
    → event_of_line line ≡ Ok (Changed n (objects.Community (record { name = head.name; values = unwrap_or values [] })))
