-- Values that are alike as far as they are read.
use Rattle.std.specs.Prelude.{◌≡◌, Option, Some, None, Result, Ok, Err, is_some, option_map, if◌then◌else◌, ⊤}
use Rattle.serde_json.specs.Data.{Data, Items, no_items, item, Members, no_members, member}
use Rattle.serde_json.specs.Find.{as_null, as_array, as_object}
use Rattle.json_fields.specs.Path.{Path}
use Rattle.json_fields.specs.Reading.{value_at}

abbrev pub Same : Data → Data → Type 0
Same d e = d ≡ e

-- both absent, both faulty, or both there and alike
abbrev pub FoundAlike : (Data → Data → Type 0) → Result (Option Data) Path → Result (Option Data) Path → Type 0
FoundAlike Like (Ok (Some d)) (Ok (Some e)) = Like d e
FoundAlike Like (Ok (Some d)) (Ok None) = ⊥
FoundAlike Like (Ok (Some d)) (Err path) = ⊥
FoundAlike Like (Ok None) other = other ≡ Ok None
FoundAlike Like (Err path) other = other ≡ Err path

-- What stands at the path in one value is like what stands there in the other.
abbrev pub At : Path → (Data → Data → Type 0) → Data → Data → Type 0
At path Like d e = FoundAlike Like (value_at path d) (value_at path e)

abbrev pub ItemsAlike : (Data → Data → Type 0) → Items → Items → Type 0
ItemsAlike Like no_items no_items = ⊤
ItemsAlike Like (item d ds) (item e es) = Like d e × ItemsAlike Like ds es
ItemsAlike Like no_items (item e es) = ⊥
ItemsAlike Like (item d ds) no_items = ⊥

abbrev pub ListsAlike : (Data → Data → Type 0) → Option Items → Option Items → Type 0
ListsAlike Like (Some ds) (Some es) = ItemsAlike Like ds es
ListsAlike Like None None = ⊤
ListsAlike Like (Some ds) None = ⊥
ListsAlike Like None (Some es) = ⊥

-- lists of as many items, each like the other's at its place; or neither is a list
abbrev pub Each : (Data → Data → Type 0) → Data → Data → Type 0
Each Like d e = ListsAlike Like (as_array d) (as_array e)

-- the members that are not null
abbrev pub members_not_null : Members → Members
members_not_null no_members = no_members
members_not_null (member name d ms) = if is_some (as_null d) then members_not_null ms else member name d (members_not_null ms)

-- text maps of the same members but for those that are null
abbrev pub SameMap : Data → Data → Type 0
SameMap d e = option_map members_not_null (as_object d) ≡ option_map members_not_null (as_object e)
