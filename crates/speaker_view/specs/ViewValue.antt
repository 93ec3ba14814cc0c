-- A view as contracts see it.
use Rattle.std.specs.Prelude.{ℕ, List, Option}
use Rattle.object_history.specs.Cache.{Cached}

-- what a speaker sees
pub record ViewValue : Type 0 where
  pub class : Option (List ℕ)  -- the class of the services that are announced; with none, those that name none
  pub held : Cached  -- what is held of the cluster
  pub members : List (List ℕ)  -- the names of the nodes whose speakers are active
