-- Communities are read as they are spelled.
use Rattle.std.proofs.Common.{◌≡◌, ℕ, List, [], ◌∷◌, Some, option_map, unwrap_or, Ok, codes, refl}
use Rattle.serde_json.specs.Data.{Data, string}
use Rattle.json_fields.specs.Reading.{required_at, object_of, text_of}
use Rattle.kube_model.specs.declared.object.Kind.TheVariants as kinds
use Rattle.kube_model.specs.declared.object.Object.TheVariants as objects
use Rattle.kube_events.specs.ObjectFields.{body_of}
use Rattle.kube_events.specs.CommunityFields.{named_value_of, named_values_field}
use Rattle.event_laws.specs.ObjectLines.{Field, spelled, object_fields, list_data}
use Rattle.event_laws.specs.CommunityLines.{named_value_data, CommunitiesAreRead}
use Rattle.event_laws.proofs.Spelled.{own_value, spec_value, head_read, required_read, same_list_read, text_read}

pair_read : (pair : List ℕ × List ℕ) → named_value_of (named_value_data pair) ≡ Ok pair
unfolding named_value_of object_of
pair_read pair =
    let fields : List Field = (codes "name", Some (string pair.0)) ∷ (codes "value", Some (string pair.1)) ∷ [] in
    let name : required_at text_of (codes "name") (spelled fields) ≡ Ok pair.0 =
    required_read text_of (codes "name") (spelled fields) (string pair.0) pair.0 (own_value (codes "name") fields refl) (text_read pair.0) in
    let value : required_at text_of (codes "value") (spelled fields) ≡ Ok pair.1 =
    required_read text_of (codes "value") (spelled fields) (string pair.1) pair.1 (own_value (codes "value") fields refl) (text_read pair.1) in
    rw (name, value) refl

pub communities_are_read : CommunitiesAreRead
unfolding body_of
communities_are_read line head left_out values n spells is_head =
    let own : List Field = (codes "communities", option_map (list_data named_value_data) values) ∷ [] in
    let d : Data = spelled (object_fields (codes "Community") head left_out own) in
    let list : named_values_field d ≡ Ok (unwrap_or values []) = same_list_read named_value_of named_value_data (codes "spec.communities") d values
    (spec_value (codes "spec.communities") (codes "communities") (codes "Community") head left_out own refl) pair_read in
    head_read kinds.Community line head left_out own n (λ key labels. objects.Community (record { name = key.name; values = unwrap_or values [] })) spells
    (λ d. refl) is_head (rw list refl)
