-- The values that are written have no floats, and lists of services are read off item by item.
use Rattle.std.proofs.Common.{◌≡◌, ℕ, ◌+◌, ◌<◌, ◌≤◌, List, [], ◌∷◌, ◌++◌, false, length, get_or, take, map}
use Rattle.std.proofs.Common.{Vec, Global, refl, sym, ap, ◌∙◌}
use Rattle.std.proofs.lemmas.List.{map-append, map_more, take_all}
use Rattle.serde_json.specs.Data.{Data, array}
use Rattle.serde_json.specs.View.{view, items_of}
use Rattle.serde_json.specs.declared.value.Value.{Value, Array}
use Rattle.serde_json.specs.Written.{has_float, items_have_float}
use Rattle.serde_json.proofs.Views.{view-Array}
use Rattle.put_fence.specs.declared.known.Known.{Known}
use Rattle.put_fence.specs.declared.lease.ServiceVersion.{ServiceVersion}
use Rattle.fence_lines.specs.Lines.{check_data, lease_data, named_items, service_data}

no_float : (named : List ServiceVersion) → items_have_float (named_items named) ≡ false
no_float [] = refl
no_float (n ∷ named) = no_float named

pub lease_has_float : (k : Known) → has_float (lease_data k) ≡ false
lease_has_float k = rw (no_float k.asked.named) refl

pub check_has_float : (op : List ℕ) (n : ServiceVersion) → has_float (check_data op n) ≡ false
check_has_float op n = refl

-- one more value after those of the services so far
pub services_more : (values more : List Value) (value : Value) (named : List ServiceVersion) (i : ℕ) (n : ServiceVersion) → more ≡ values ++ value ∷ []
    → i < length named → n ≡ get_or named i n → view value ≡ service_data n → map view values ≡ map service_data (take i named)
    → map view more ≡ map service_data (take (i + 1) named)
services_more values more value named i n pushed within is same so_far = ap (λ (l : List Value). map view l) pushed
    ∙ map-append view values (value ∷ []) ∙ ap (λ (l : List Data). l ++ view value ∷ []) so_far
    ∙ ap (λ (d : Data). map service_data (take i named) ++ d ∷ []) (same ∙ ap service_data is)
    ∙ sym (map_more service_data named i n within)

-- the list of values, where they are those of all services
pub services_all : (values : Vec Value Global) (named : List ServiceVersion) (i : ℕ) → map view values.items ≡ map service_data (take i named)
    → length named ≤ i → view (Array values) ≡ array (named_items named)
services_all values named i so_far all = view-Array values ∙ ap (λ (ds : List Data). array (items_of ds)) (so_far ∙ ap
    (λ (l : List ServiceVersion). map service_data l) (take_all i named all))
