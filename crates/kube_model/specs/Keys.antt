-- Keys of objects, and lists of them.
use Rattle.std.specs.Prelude.{Bool, ◌&&◌, not, List, filter}
use Rattle.std.specs.List.{list_any}
use Rattle.std.specs.Ordering.{ordering_then}
use Rattle.std.specs.declared.cmp.Ordering.{Ordering}
use Rattle.std.specs.Str.{bytes_eq}
use Rattle.kube_labels.specs.Names.{name_cmp}
use Rattle.kube_model.specs.declared.key.Key.{Key}

-- keys are ordered by namespace, then by name, each by its bytes
abbrev pub key_cmp : Key → Key → Ordering
key_cmp a b = ordering_then (name_cmp a.namespace b.namespace) (name_cmp a.name b.name)

-- whether the keys are one
abbrev pub same_key : Key → Key → Bool
same_key a b = bytes_eq a.namespace b.namespace && bytes_eq a.name b.name

-- the key stands in the list
abbrev pub has_key : List Key → Key → Bool
has_key keys key = list_any (λ k. same_key k key) keys

-- the other keys of the list
abbrev pub without : Key → List Key → List Key
without key keys = filter (λ k. not (same_key k key)) keys
