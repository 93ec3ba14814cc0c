-- The fields that say which services a pool serves, in the order in which the first faulty one is named.
use Rattle.std.specs.Prelude.{Result, Ok, codes}
use Rattle.serde_json.specs.Data.{Data}
use Rattle.json_fields.specs.Path.{Path}
use Rattle.json_fields.specs.Reading.{◌>>=◌, default_at, list_at, object_of, text_of, number_in}
use Rattle.kube_model.specs.declared.pool.Allocation.{Allocation}
use Rattle.kube_model.specs.SelectorFields.{selector_of}

unfoldable pub allocation_of : Data → Result Allocation Path
allocation_of d = do
  members ← object_of d
  priority ← default_at (number_in 0 2147483647) (codes "priority") 0 d
  namespaces ← list_at text_of (codes "namespaces") d
  namespace_selectors ← list_at selector_of (codes "namespaceSelectors") d
  service_selectors ← list_at selector_of (codes "serviceSelectors") d
  Ok (record {
    priority = priority;
    namespaces = namespaces;
    namespace_selectors = namespace_selectors;
    service_selectors = service_selectors;
  })
