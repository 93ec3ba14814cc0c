-- The values of texts, one after the other.
use Rattle.std.proofs.Common.{◌≡◌, ℕ, ◌+◌, ◌<◌, ◌≤◌, List, [], ◌∷◌, ◌++◌, length, get_or, take, map, Vec, Global, sym, ap, ◌∙◌}
use Rattle.std.proofs.lemmas.List.{map-append, map_more, take_all}
use Rattle.serde_json.specs.Data.{Data, array}
use Rattle.serde_json.specs.View.{view, items_of}
use Rattle.serde_json.specs.declared.value.Value.{Value, Array}
use Rattle.serde_json.proofs.Views.{view-Array}

-- one more value after those of the items so far
pub values_more : {A : Type 0} (data_of : A → Data) (values more : List Value) (value : Value) (items : List A) (i : ℕ) (at : A)
    → more ≡ values ++ value ∷ [] → i < length items → at ≡ get_or items i at → view value ≡ data_of at
    → map view values ≡ map data_of (take i items) → map view more ≡ map data_of (take (i + 1) items)
values_more data_of values more value items i at pushed within is same so_far = ap (λ (l : List Value). map view l) pushed
    ∙ map-append view values (value ∷ []) ∙ ap (λ (l : List Data). l ++ view value ∷ []) so_far
    ∙ ap (λ (d : Data). map data_of (take i items) ++ d ∷ []) (same ∙ ap data_of is)
    ∙ sym (map_more data_of items i at within)

-- the list of values, where they are those of all items
pub values_all : {A : Type 0} (data_of : A → Data) (values : Vec Value Global) (items : List A) (i : ℕ)
    → map view values.items ≡ map data_of (take i items) → length items ≤ i → view (Array values) ≡ array (items_of (map data_of items))
values_all data_of values items i so_far all = view-Array values ∙ ap (λ (ds : List Data). array (items_of ds)) (so_far ∙ ap
    (λ l. map data_of l) (take_all i items all))
