-- The speakers that are active.
use Rattle.std.specs.Prelude.{ℕ, List, [], fold, Result, Ok, codes}
use Rattle.std.specs.Ordering.{nat_cmp}
use Rattle.std.specs.Cmp.Lexicographic.{slice_cmp}
use Rattle.std.specs.BTreeSet.{insert_key}
use Rattle.serde_json.specs.Data.{Data}
use Rattle.json_fields.specs.Path.{Path}
use Rattle.json_fields.specs.Reading.{◌>>=◌, list_at, text_of}
use Rattle.kube_model.specs.declared.event.Event.{Event}
use Rattle.kube_model.specs.declared.event.Event.TheVariants.{Members}

-- the names put one after the other into a list in byte order that has each once
abbrev pub names_with : List (List ℕ) → List (List ℕ) → List (List ℕ)
names_with found names = fold (insert_key (slice_cmp nat_cmp)) found names

abbrev pub distinct_names : List (List ℕ) → List (List ℕ)
distinct_names names = names_with [] names

-- the names, if the line says them
abbrev pub members_field : Data → Result (List (List ℕ)) Path
members_field line = list_at text_of (codes "members") line

unfoldable pub members_of : Data → Result Event Path
members_of line = do
  names ← members_field line
  Ok (Members (distinct_names names))
