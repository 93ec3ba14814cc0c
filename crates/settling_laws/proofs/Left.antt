-- How many steps are left until a controller waits, where nobody edits and each put is delivered: a number that falls with each of them.
use Rattle.std.proofs.Common.{ℕ, suc, ◌+◌, ◌*◌, Bool, true, false, cond, not, ◌||◌, List, [], ◌∷◌, length, Option, Some, None}
use Rattle.std.specs.List.{list_any}
use Rattle.std.specs.Option.{option_map_or}
use Rattle.kube_model.specs.declared.event.Event.{Event}
use Rattle.kube_model.specs.declared.event.ListGroup.TheVariants as groups
use Rattle.kube_model.specs.declared.key.Key.{Key}
use Rattle.kube_model.specs.Records.{empty_record, same_record}
use Rattle.object_history.specs.Cache.{Cached}
use Rattle.object_history.specs.LookBack.{event_ends_list}
use Rattle.status_store.specs.Changes.{StoreValue}
use Rattle.core_rules.specs.Core.{State, service_of}
use Rattle.core_rules.specs.Take.{Effect, Shows, Drops, EndsServices, Configures, Expires, Nothing, effect_of}
use Rattle.world_rules.specs.World.{WorldValue}
use Rattle.settling_laws.specs.Clear.{is_current}
use Rattle.settling_laws.specs.Settling.{behind_end, doubts_in}

-- what an event is about is news, but where it shows a service that is held already as it is stored
abbrev pub are_news : StoreValue → State → Effect → Bool
are_news store s (Shows version service) = not (is_current store s service.key)
are_news store s (Drops key) = true
are_news store s EndsServices = true
are_news store s Configures = true
are_news store s Expires = true
are_news store s Nothing = true

-- how many of the events are news
abbrev pub news_among : StoreValue → State → List Event → ℕ
news_among store s [] = 0
news_among store s (event ∷ more) = cond (are_news store s (effect_of event)) 1 0 + news_among store s more

-- how many of them are the end of their list, or stand after it
abbrev pub late_among : StoreValue → State → List Event → ℕ
late_among store s [] = 0
late_among store s (event ∷ more) = cond (are_news store s (effect_of event)) (cond (list_any (event_ends_list groups.Service) more) 0 1) 0 + late_among store s more

-- the service of the key is held with a record
abbrev pub has_record : Cached → Key → Bool
has_record held key = option_map_or (λ service. not (same_record service.holding empty_record)) (service_of held key) false

-- how many keys there are up to the last one that passes
abbrev pub up_to_last : (Key → Bool) → List Key → ℕ
up_to_last test [] = 0
up_to_last test (key ∷ keys) = cond (test key || list_any test keys) (suc (up_to_last test keys)) 0

-- How many turns may be made before news are taken, where so many services are held, and no service without a record has a claim. A put may take a claim
-- away up to the last queued service that has a record. After that all services may be queued, none of which has one; and none is queued any more.
abbrev pub turns_for : ℕ → (Key → Bool) → List Key → ℕ
turns_for held test queue = cond (list_any test queue) (up_to_last test queue + held) (length queue)

abbrev pub turns_in : State → ℕ
turns_in s = turns_for (length s.held.services) (has_record s.held) s.queue

-- For so many services held or to be held, news from a list's end on, claims in doubt, turns and pending events. Each of the news may have all services
-- queued, and so may each claim in doubt that is taken away. A turn may leave one event pending more.
abbrev pub steps_for : ℕ → ℕ → ℕ → ℕ → ℕ → ℕ
steps_for held late doubts turns pending = 2 * (held * (2 * late + doubts) + turns) + pending

abbrev pub steps_of : Option State → WorldValue → ℕ
steps_of None w = 0
steps_of (Some s) w =
    steps_for (length s.held.services + news_among w.store s w.service_lane) (behind_end groups.Config w.config_lane + late_among w.store s w.service_lane)
    (length (doubts_in s)) (turns_in s) (length w.config_lane + length w.service_lane)

-- how many steps are left
abbrev pub steps_left : WorldValue → ℕ
steps_left w = steps_of w.core w
