-- Lists of keys.
use Rattle.std.specs.Prelude.{Bool, ◌&&◌, not, if◌then◌else◌, List, [], ◌∷◌}
use Rattle.kube_model.specs.declared.key.Key.{Key}
use Rattle.kube_model.specs.Keys.{has_key}

-- the key, where it isn't in the list
abbrev pub own_key : Key → List Key → List Key
own_key key queue = if has_key queue key then [] else key ∷ []

-- neither queued nor awaiting
abbrev pub is_free : List Key → List Key → Key → Bool
is_free queue awaiting key = not (has_key queue key) && not (has_key awaiting key)
