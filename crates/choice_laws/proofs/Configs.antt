-- What objects are compiled to is a configuration: by name, with spans that don't overlap, and few communities.
use Rattle.std.proofs.Common.{◌≡◌, List, Option, Some, None, Result, Ok, Err, refl, sym, ap, subst, ◌∙◌}
use Rattle.std.specs.Option.{option_or}
use Rattle.kube_model.specs.declared.config_fault.ConfigFault.{ConfigFault}
use Rattle.pool_config.specs.declared.object_set.ObjectSet.{ObjectSet}
use Rattle.pool_config.specs.Compile.{compiled, compiled_unless}
use Rattle.pool_config.specs.ConfigValue.{ConfigValue, IsConfig}
use Rattle.pool_config.specs.Laws.{IsOrdered}
use Rattle.pool_config.specs.Lists.{lists_of, compiled_pool, compiled_l2, compiled_bgp, compiled_peer}
use Rattle.pool_config.specs.Objects.{Objects, objects_of}
use Rattle.pool_config.specs.Search.{found_among, first_fault, pool_rows, later_rows}
use Rattle.pool_config.proofs.ByName.{ascending_kept}
use Rattle.pool_config.proofs.Few.{compiled-few}
use Rattle.pool_config.proofs.Stages.{apart_unless, found-append}

none-behind : {X : Type 0} (a b : Option X) → option_or a b ≡ None → b ≡ None
none-behind None b e = e
none-behind (Some x) b e = absurd (cc)

none-found : (o : Objects) → first_fault o ≡ None → found_among o later_rows ≡ None
unfolding first_fault
none-found o e = none-behind (found_among o pool_rows) (found_among o later_rows) (sym (found-append o pool_rows later_rows) ∙ e)

accepted-by : (r : Option ConfigFault) (lists c : ConfigValue) → compiled_unless r lists ≡ Ok c → (r ≡ None) × (c ≡ lists)
accepted-by None lists c e = let same : lists ≡ c = cc in (refl, sym same)
accepted-by (Some fault) lists c e = absurd (cc)

pub compiled-config : (s : ObjectSet) (c : ConfigValue) → IsOrdered s → compiled s ≡ Ok c → IsConfig c
compiled-config s c ordered e =
    let o : Objects = objects_of s in
    let by = accepted-by (first_fault o) (lists_of o) c e in
    let is : IsConfig (lists_of o) = record {
      pools = ascending_kept compiled_pool (λ p. p.name) (λ e. refl) s.pools (lists_of o).pools refl ordered.0;
      l2 = ascending_kept compiled_l2 (λ a. a.name) (λ e. refl) s.l2s (lists_of o).l2 refl ordered.1;
      bgp = ascending_kept (compiled_bgp o.communities) (λ a. a.name) (λ e. refl) s.bgps (lists_of o).bgp refl ordered.2;
      peers = ascending_kept compiled_peer (λ p. p.name) (λ e. refl) s.peers (lists_of o).peers refl ordered.3;
      apart = apart_unless o (none-found o by.0);
      communities = compiled-few s (lists_of o) (e ∙ ap Ok by.1);
    } in
    subst IsConfig (sym by.1) is
