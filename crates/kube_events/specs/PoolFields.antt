-- The fields of a pool beside its metadata, in the order in which the first faulty one is named.
use Rattle.std.specs.Prelude.{ℕ, List, Bool, true, false, Option, Result, Ok, codes}
use Rattle.serde_json.specs.Data.{Data}
use Rattle.json_fields.specs.Path.{Path}
use Rattle.json_fields.specs.Reading.{◌>>=◌, optional_at, default_at, list_at, text_of, bool_of}
use Rattle.kube_model.specs.declared.key.Key.{Key}
use Rattle.kube_model.specs.declared.pool.Pool.{Pool}
use Rattle.kube_model.specs.declared.pool.Allocation.{Allocation}
use Rattle.kube_model.specs.AllocationFields.{allocation_of}
use Rattle.kube_events.specs.Fields.{Pairs}
use Rattle.kube_events.specs.declared.pool_fields.PoolSpec.{PoolSpec}

abbrev pub entries_field : Data → Result (List (List ℕ)) Path
entries_field d = list_at text_of (codes "spec.addresses") d

abbrev pub auto_assign_field : Data → Result Bool Path
auto_assign_field d = default_at bool_of (codes "spec.autoAssign") true d

abbrev pub avoid_buggy_field : Data → Result Bool Path
avoid_buggy_field d = default_at bool_of (codes "spec.avoidBuggyIPs") false d

abbrev pub allocation_field : Data → Result (Option Allocation) Path
allocation_field d = optional_at allocation_of (codes "spec.serviceAllocation") d

-- the pool of a key and labels
unfoldable pub pool_of : Data → Result (Key → Pairs → Pool) Path
pool_of d = do
  entries ← entries_field d
  auto_assign ← auto_assign_field d
  avoid_buggy ← avoid_buggy_field d
  allocation ← allocation_field d
  Ok (λ key labels.
      record { name = key.name; labels = labels; entries = entries; auto_assign = auto_assign; avoid_buggy = avoid_buggy; allocation = allocation })

-- ---- as it is read

abbrev pub pool_with : PoolSpec → Key → Pairs → Pool
pool_with s key labels =
    record { name = key.name; labels = labels; entries = s.entries; auto_assign = s.auto_assign; avoid_buggy = s.avoid_buggy; allocation = s.allocation }
