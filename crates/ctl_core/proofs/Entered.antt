-- The entries of which it is kept whether they are full are those of the configuration in force.
use Rattle.std.proofs.Common.{◌≡◌, Bool, true, false, cond, List, Option, Result, Ok, Err, refl, sym, ap, ◌∙◌, subst, true≢false}
use Rattle.kube_model.specs.declared.config_fault.ConfigFault.{ConfigFault}
use Rattle.kube_model.specs.declared.event.Event.{Event}
use Rattle.object_cache.specs.Change.{applied, note_in}
use Rattle.object_cache.specs.declared.change.Applied.{Applied}
use Rattle.object_cache.specs.declared.change.TakeNote.TheVariants.{Quiet}
use Rattle.object_history.specs.Cache.{Cached, cached_after, event_compiles, in_force, objects_after}
use Rattle.object_history.specs.Observations.{Watched}
use Rattle.pool_config.specs.Compile.{compiled}
use Rattle.pool_config.specs.ConfigValue.{ConfigValue}
use Rattle.full_entries.specs.declared.entries.Entry.{Entry}
use Rattle.full_entries.specs.Entries.{AreThose}
use Rattle.core_rules.specs.Core.{pools_in}
use Rattle.core_rules.specs.Take.{is_accepted}

-- where neither the configuration nor the entries change they still are
pub still-those : (before after : Cached) (entries later : List Entry) → after.config ≡ before.config → later ≡ entries
    → AreThose (pools_in before.config) entries
    → AreThose (pools_in after.config) later
still-those before after entries later same kept those =
    subst (λ (config : Option ConfigValue). AreThose (pools_in config) later) (sym same) (subst (AreThose (pools_in before.config)) (sym kept) those)

-- where no configuration is accepted the last one is in force
unaccepted : (compiles : Bool) (result : Result ConfigValue ConfigFault) (before : Option ConfigValue)
    → is_accepted (cond compiles (note_in result) Quiet) ≡ false → cond compiles (in_force before result) before ≡ before
unaccepted true (Ok config) before e = absurd (true≢false e)
unaccepted true (Err fault) before e = refl
unaccepted false result before e = refl

-- so they are where those of an accepted configuration were entered
pub entered : (event : Event) (before after : Cached) (by : Applied) (entries later : List Entry) → after ≡ cached_after (Watched event) before
    → by ≡ applied before event → (is_accepted by.note ≡ true → AreThose (pools_in after.config) later) → (is_accepted by.note ≡ false → later ≡ entries)
    → AreThose (pools_in before.config) entries → AreThose (pools_in after.config) later
entered event before after by entries later after_is by_is new kept those = go (is_accepted by.note) refl
  where
    go : (b : Bool) → is_accepted by.note ≡ b → AreThose (pools_in after.config) later
    go true e = new e
    go false e =
        let quiet = ap (λ (a : Applied). is_accepted a.note) (sym by_is) ∙ e in
        let same : after.config ≡ before.config =
        ap (λ (held : Cached). held.config) after_is
        ∙ unaccepted (event_compiles before.objects before.config_ended event) (compiled (objects_after (Watched event) before.objects)) before.config quiet in
        still-those before after entries later same (kept e) those
