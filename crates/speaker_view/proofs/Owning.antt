-- Where services are held under their own keys, an endpoint slice is of the one that is held under the key of its service.
use Rattle.std.proofs.Common.{◌≡◌, Bool, true, false, cond, List, [], ◌∷◌, ◌++◌, Option, Some, None, option_map, filter, refl, sym, ap, ◌∙◌}
use Rattle.std.proofs.lemmas.List.{append-nil}
use Rattle.std.proofs.lemmas.Map.Keys.{sorted_tail}
use Rattle.std.specs.BTreeMap.{is_at}
use Rattle.std.specs.Cmp.{tied_itself}
use Rattle.std.specs.List.{flat_map}
use Rattle.std.specs.List.Sorted.{IsStrictlySortedBy}
use Rattle.std.specs.Map.{keys_of}
use Rattle.ip_ranges.specs.Values.{AddressValue}
use Rattle.kube_model.proofs.KeyLaws.{is_eq-key_cmp, key_cmp-total, key_cmp-exact}
use Rattle.kube_model.specs.Keys.{key_cmp, same_key}
use Rattle.kube_model.specs.declared.key.Key.{Key}
use Rattle.kube_model.specs.declared.service.Service.{Service}
use Rattle.kube_model.specs.declared.slice.EndpointSlice.{EndpointSlice}
use Rattle.versioned_map.specs.declared.map.Versioned.{Versioned}
use Rattle.versioned_map.specs.Objects.{held_at, object_at}
use Rattle.speaker_view.specs.Change.{recorded_by}
use Rattle.speaker_view.specs.Endpoints.{is_slice_of}
use Rattle.speaker_view.specs.Grouped.{service_of}
use Rattle.speaker_view.specs.Held.{objects_of}
use Rattle.speaker_view.proofs.KeyLookups.{later-by, past}

abbrev Entries : Type 0
Entries = List (Key × Versioned Service)

abbrev pub AreOwn : Entries → Type 0
AreOwn entries = (key : Key) (service : Service) → object_at key_cmp entries key ≡ Some service → service.key ≡ key

own-first : (e : Key × Versioned Service) (es : Entries) → AreOwn (e ∷ es) → e.1.object.key ≡ e.0
own-first e es own = own e.0 e.1.object (rw (tied_itself key_cmp-total e.0) refl)

own-rest : (e : Key × Versioned Service) (es : Entries) → IsStrictlySortedBy key_cmp (keys_of (e ∷ es)) → AreOwn (e ∷ es) → AreOwn es
own-rest e es s own key service found =
    own key service (later-by key_cmp-total key_cmp-exact (λ (x : Service). true) (is_at (key_cmp key) e.0) e (held_at key_cmp es key) service
    (past key_cmp-total key_cmp-exact (λ (x : Service). true) e es key s) found)

module _ (slice : EndpointSlice) where
  abbrev addresses : Service → List AddressValue
  addresses service = service.holding.addresses

  abbrev served : Entries → List AddressValue
  served entries = flat_map addresses (filter (λ service. is_slice_of service.key slice) (objects_of entries))

  abbrev recorded : Option (Versioned Service) → List AddressValue
  recorded held = recorded_by (option_map (λ h. h.object) held)

  served-by : (b : Bool) (e : Key × Versioned Service) (rest : List Service) (found : Option (Versioned Service)) → (b ≡ true → found ≡ None)
      → flat_map addresses rest ≡ recorded found
      → flat_map addresses (cond b (e.1.object ∷ rest) rest) ≡ recorded (cond b (Some e.1) found)
  served-by true e rest found none is =
      let nothing : flat_map addresses rest ≡ [] = is ∙ ap recorded (none refl) in
      ap (λ more. e.1.object.holding.addresses ++ more) nothing ∙ append-nil e.1.object.holding.addresses
  served-by false e rest found none is = is

  pub served-own : (entries : Entries) → IsStrictlySortedBy key_cmp (keys_of entries) → AreOwn entries
      → served entries ≡ recorded (held_at key_cmp entries (service_of slice))
  served-own [] s own = refl
  served-own (e ∷ es) s own =
      let rest = filter (λ (service : Service). is_slice_of service.key slice) (objects_of es) in
      let same : is_slice_of e.1.object.key slice ≡ is_at (key_cmp (service_of slice)) e.0 =
      ap (λ key. same_key (service_of slice) key) (own-first e es own) ∙ sym (is_eq-key_cmp (service_of slice) e.0) in
      ap (λ b. flat_map addresses (cond b (e.1.object ∷ rest) rest)) same
      ∙ served-by (is_at (key_cmp (service_of slice)) e.0) e rest (held_at key_cmp es (service_of slice))
      (past key_cmp-total key_cmp-exact (λ (x : Service). true) e es (service_of slice) s)
      (served-own es (sorted_tail key_cmp e.0 (keys_of es) s) (own-rest e es s own))
