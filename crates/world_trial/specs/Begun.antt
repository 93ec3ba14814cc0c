-- The world that a trial begins with: two pools, no services and no class.
use Rattle.std.specs.Prelude.{ℕ, List, [], ◌∷◌, Bool, true, false, None, codes}
use Rattle.kube_model.specs.declared.object.Object.{Object}
use Rattle.kube_model.specs.declared.object.Object.TheVariants as objects
use Rattle.kube_model.specs.declared.pool.Pool.{Pool}
use Rattle.world_rules.specs.World.{WorldValue, new_world}

-- a pool of one entry, from which services get addresses that don't ask for it
abbrev pub pool_of : List ℕ → List ℕ → Bool → Pool
pool_of name entry avoid_buggy = record {
  name = name;
  labels = [];
  entries = entry ∷ [];
  auto_assign = true;
  avoid_buggy = avoid_buggy;
  allocation = None;
}

-- `p1`, and `p2`, of which addresses that end in 0 or 255 are left out
abbrev pub first_pools : List Object
first_pools =
    objects.Pool (pool_of (codes "p1") (codes "192.0.2.0-192.0.2.15") false) ∷
    objects.Pool (pool_of (codes "p2") (codes "198.51.100.0/29") true) ∷ []

unfoldable pub first_world : WorldValue
first_world = new_world None first_pools
