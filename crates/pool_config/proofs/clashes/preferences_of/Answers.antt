use Rattle.std.proofs.Common.{◌≡◌, ◌∷◌, [], ◌++◌, List, map, Result, Ok, Err, append_assoc, ap, refl}
use Rattle.std.specs.List.{AllByRecursion}
use Rattle.std.specs.Result.{IfOk, IsOkAnd}
use Rattle.pool_config.specs.Preferences.{KnowsPool}
use Rattle.pool_config.specs.declared.preferences.PoolPreferences.{PoolPreferences}
use Rattle.pool_config.proofs.KnownClashes.{all_push}
use Rattle.pool_config.proofs.Steps.{left_at}
use Rattle.pool_config.proofs.clashes.preferences_of.Goals as goal

map_push : {A B : Type 0} (part : A → B) (xs : List A) (x : A) → map part (xs ++ x ∷ []) ≡ map part xs ++ part x ∷ []
map_push part [] x = refl
map_push {B = B} part (y ∷ ys) x = ap (λ (rest : List B). part y ∷ rest) (map_push part ys x)

module _ {A E : Type 0} (before after : List A) where
  -- what was made has the part, and so has the list after its others
  one_made : {B : Type 0} (part : A → B) (b : B) (made : Result A E) → IsOkAnd made (λ item. after ≡ before ++ item ∷ []) → IfOk made (λ item. part item ≡ b)
      → map part after ≡ map part before ++ b ∷ []
  one_made part b (Ok item) pushed is = rw (pushed, map_push part before item, is) refl
  one_made part b (Err e) pushed is = absurd pushed

  all_made : (P : A → Type 0) (made : Result A E) → IsOkAnd made (λ item. after ≡ before ++ item ∷ []) → IfOk made P → AllByRecursion P before
      → AllByRecursion P after
  all_made P (Ok item) pushed holds all = rw pushed (all_push P before item all holds)
  all_made P (Err e) pushed holds all = absurd pushed

pub loop-pool-preserved : goal.loop-pool-preserved
loop-pool-preserved c =
    let i = c.loop-pool.invariant in
    let before = c.loop-pool.known.items in
    let after = c.push_made.new.held.items in
    record {
      pools = rw (one_made before after (λ (held : PoolPreferences). held.pool.now) c.pool-item.result c.new.result c.in-Ok.ensures c.new.ensures.pool, append_assoc)
          (rw (left_at c.args.pools.now c.loop-pool.pool-index c.pool-item.result c.loop-pool-test.true c.pool-item.is) at i.pools);
      known = all_made before after (KnowsPool c.args.bgp.now) c.new.result c.in-Ok.ensures c.new.ensures.known i.known;
    }
