-- What is queued where an event of the configuration wakes the services.
use Rattle.std.proofs.Common.{◌≡◌, ℕ, not, Bool, true, false, cond, ◌&&◌, ◌||◌, List, [], ◌++◌, take, length, is_some, refl, sym, ap, ◌∙◌}
use Rattle.std.proofs.lemmas.Bool.{and_parts, and_from, or_left, or_right, true≢false}
use Rattle.std.proofs.lemmas.List.{take_at}
use Rattle.kube_model.specs.declared.event.Event.{Event}
use Rattle.kube_model.specs.declared.event.Event.TheVariants.{Changed, Deleted, ListEnd, Expired, Members, Frame, Ignored}
use Rattle.kube_model.specs.declared.event.ListGroup.TheVariants as groups
use Rattle.kube_model.specs.declared.key.Key.{Key}
use Rattle.object_history.specs.Cache.{Cached, cached_after}
use Rattle.object_history.specs.Observations.{Watched}
use Rattle.object_cache.specs.Change.{applied}
use Rattle.core_rules.specs.Core.{State, is_ready, all_free}
use Rattle.core_rules.specs.Take.{Configures, effect_of, is_accepted, wakes, configured}
use Rattle.core_rules.proofs.Effects.{config-services_ended}
use Rattle.ctl_core.specs.Waking.{ends_config, may_wake}

config-ends : (event : Event) (s : Cached) → (cached_after (Watched event) s).config_ended ≡ true → (s.config_ended || ends_config event) ≡ true
config-ends (Changed version object) s e = or_left s.config_ended false e
config-ends (Deleted kind key) s e = or_left s.config_ended false e
config-ends (ListEnd groups.Config) s e = or_right s.config_ended true refl
config-ends (ListEnd groups.Service) s e = or_left s.config_ended false e
config-ends (ListEnd groups.Endpoint) s e = or_left s.config_ended false e
config-ends Expired s e = absurd (true≢false (sym e))
config-ends (Members names) s e = or_left s.config_ended false e
config-ends (Frame interface bytes) s e = or_left s.config_ended false e
config-ends Ignored s e = or_left s.config_ended false e

-- where the core is ready after the event, it might
ready-may : (event : Event) (s : Cached) → effect_of event ≡ Configures → is_ready (cached_after (Watched event) s) ≡ true → may_wake s event ≡ true
ready-may event s c ready =
    let after = cached_after (Watched event) s in
    let parts = and_parts (after.config_ended && after.services_ended) (is_some after.config) ready in
    let ends = and_parts after.config_ended after.services_ended parts.0 in
    and_from s.services_ended (s.config_ended || ends_config event) (sym (config-services_ended event s c) ∙ ends.1) (config-ends event s ends.0)

taken-back : (wakes may : Bool) (queue free : List Key) → (wakes ≡ true → may ≡ true)
    → cond wakes (queue ++ cond may free []) (take (length queue) (queue ++ cond may free [])) ≡ cond wakes (queue ++ free) queue
taken-back true may queue free woken = ap (λ b. queue ++ cond b free []) (woken refl)
taken-back false may queue free woken = take_at queue (cond may free []) (length queue) refl

-- the keys that might be woken are queued, and taken back where none is
pub woken : (event : Event) (s : Cached) (told : Bool) (queue free : List Key) → effect_of event ≡ Configures
    → let wakes = is_ready (cached_after (Watched event) s) && told in
    cond wakes (queue ++ cond (may_wake s event) free []) (take (length queue) (queue ++ cond (may_wake s event) free [])) ≡ cond wakes (queue ++ free) queue
woken event s told queue free c =
    taken-back (is_ready (cached_after (Watched event) s) && told) (may_wake s event) queue free
    (λ wakes. ready-may event s c (and_parts (is_ready (cached_after (Watched event) s)) told wakes).0)

-- the state then
pub woken-configured : (s : State) (event : Event) (held : Cached) (wake : Bool) (len : ℕ) (more queued queue : List Key) → effect_of event ≡ Configures
    → wake ≡ wakes s.held (applied s.held event) (cached_after (Watched event) s.held) → len ≡ length s.queue
    → more ≡ cond (may_wake s.held event) (all_free s.queue s.awaiting s.held.services) []
    → held ≡ cached_after (Watched event) s.held → queued ≡ s.queue ++ more → queue ≡ cond wake queued (take len queued)
    → record s { held = held; queue = queue } ≡ configured s event
woken-configured s event held wake len more queued queue c wake_is len_is more_is held_is queued_is queue_is =
    rw (queue_is, queued_is, held_is, more_is, len_is, wake_is)
    (ap (λ (ks : List Key). record s { held = cached_after (Watched event) s.held; queue = ks })
    (woken event s.held (not (is_ready s.held) || is_accepted (applied s.held event).note || (applied s.held event).namespace_changed) s.queue
    (all_free s.queue s.awaiting s.held.services) c))
