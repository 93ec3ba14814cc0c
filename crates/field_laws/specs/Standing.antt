-- What stands in a value after names, one inside the other.
use Rattle.std.specs.Prelude.{ℕ, List, [], ◌∷◌, Option, Some, None}
use Rattle.serde_json.specs.Data.{Data, null, object}
use Rattle.serde_json.specs.Find.{get_member}

pub data Standing : Type 0 where
  nothing : Standing
  astray : Standing
  here : Data → Standing

-- A member that is null is as one that is absent.
abbrev pub if_there : (Data → Standing) → Option Data → Standing
if_there next None = nothing
if_there next (Some null) = nothing
if_there next (Some d) = next d

-- Nothing stands there where a member on the way is absent, and the way is astray where it leads through what is no object.
abbrev pub look : List (List ℕ) → Data → Standing
look [] d = here d
look (name ∷ names) (object members) = if_there (look names) (get_member name members)
look (name ∷ names) d = astray
