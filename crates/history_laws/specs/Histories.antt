-- Histories of clusters that there are: what was stored when a controller was started, which list it was going to be shown, what happened, and
-- what the controller took, decided and heard. Lines stand in the order in which they came.
use Rattle.std.specs.Prelude.{ℕ, List, [], ◌∷◌, Some, None, reverse, true, false, ⊤}
use Rattle.kube_model.specs.declared.event.Event.{Event}
use Rattle.kube_model.specs.declared.event.Event.TheVariants.{Deleted, Expired as WatchesExpired}
use Rattle.kube_model.specs.declared.event.ListGroup.TheVariants as groups
use Rattle.kube_model.specs.declared.key.Key.{Key}
use Rattle.kube_model.specs.declared.object.Kind.TheVariants as kinds
use Rattle.kube_model.specs.declared.object.Object.TheVariants as objects
use Rattle.kube_model.specs.declared.put.Put.{Put}
use Rattle.kube_model.specs.declared.reason.Reason.TheVariants.{Exhausted}
use Rattle.kube_model.specs.declared.record.Record.{Record}
use Rattle.kube_model.specs.declared.reply.PutReply.TheVariants.{Ok as Stored, Stale, Missing, Unknown}
use Rattle.status_store.specs.declared.change.Outcome.TheVariants.{Delivered, Lost, Refused}
use Rattle.status_store.specs.Changes.{StoreValue, empty_store}
use Rattle.core_rules.specs.declared.turn.Turn.TheVariants.{NoPut, Wants}
use Rattle.core_rules.specs.Run.{TranscriptEntry, Took, Expired, Turned, Heard, IsRun}
use Rattle.world_rules.specs.Explaining.{Explains}
use Rattle.world_rules.specs.Moves.{Move, Sets, Deletes, Tells, Takes, Turns, ConfigExpires, ServicesExpire, EndsLater, Lands}
use Rattle.world_rules.specs.World.{store_of, records_store}
use Rattle.history_laws.specs.Objects.{pool, first, second, other, x, y, z, service, plain, foreign, given, unmarked, bare, emptied_record}
use Rattle.history_laws.specs.Objects.{shows, shows_pool, config_end, services_end}

pub record History : Type 0 where
  pub store : StoreValue
  pub list : List Event
  pub moves : List Move
  pub run : List TranscriptEntry

-- the entries are a run of a core, and the world explains it
pub record IsTrue (h : History) : Type 0 where
  pub is_run : IsRun None (reverse h.run)
  pub explained : Explains None h.store h.list h.moves (reverse h.run)

abbrev pub put_of : Key → ℕ → Record → Put
put_of key version holding = record { key = key; version = version; holding = holding }

-- a turn that puts; one that doesn't, since the service has what it is to have; and one that finds all addresses given
abbrev pub puts : Key → ℕ → Record → TranscriptEntry
puts key version holding = Turned (Wants (put_of key version holding) None)

abbrev pub keeps : Key → TranscriptEntry
keeps key = Turned (NoPut key None)

abbrev pub waits : Key → TranscriptEntry
waits key = Turned (NoPut key (Some Exhausted))

-- Of two namespaces the API server lists `a-b` ahead of `a`, since it goes by `a-b/..` and `a/..`. There are two addresses for three services.
abbrev pub in_namespace_order : History
in_namespace_order = record {
  store = store_of (objects.Pool pool ∷ objects.Service (service y bare) ∷ objects.Service (service x bare) ∷ objects.Service (service z bare) ∷ []) empty_store;
  list = shows 2 (service y bare) ∷ shows 3 (service x bare) ∷ shows 4 (service z bare) ∷ services_end ∷ [];
  moves = Tells (shows_pool 1) ∷ Takes ∷ Tells config_end ∷ Takes ∷ Takes ∷ Takes ∷ Turns Delivered ∷ Takes ∷ Turns Delivered ∷ Takes ∷ Turns Delivered ∷
      [];
  run = Took (shows_pool 1) ∷ Took (shows 2 (service y bare)) ∷ Took config_end ∷ Took (shows 3 (service x bare)) ∷ Took (shows 4 (service z bare)) ∷
      Took services_end ∷ puts x 3 (given first) ∷ Heard (Stored 5) ∷ Took (shows 5 (service x (given first))) ∷ puts z 4 (given second) ∷
      Heard (Stored 6) ∷ Took (shows 6 (service z (given second))) ∷ waits y ∷ [];
}

-- Both watches expire, by one ERROR line, when half of the list was shown and a service was edited; all is listed anew.
abbrev pub watches_restarted_in_the_list : History
watches_restarted_in_the_list = record {
  store = store_of (objects.Pool pool ∷ objects.Service (service x bare) ∷ objects.Service (service y bare) ∷ []) empty_store;
  list = shows 3 (service y bare) ∷ shows 2 (service x bare) ∷ services_end ∷ [];
  moves = Tells (shows_pool 1) ∷ Takes ∷ Sets (objects.Service (service y bare)) bare ∷ ConfigExpires ∷
      ServicesExpire (shows 4 (service y bare) ∷ shows 2 (service x bare) ∷ services_end ∷ []) ∷ Takes ∷ Takes ∷ Takes ∷ Tells (shows_pool 1) ∷
      Tells config_end ∷ Turns Delivered ∷ Takes ∷ Turns Delivered ∷ Takes ∷ [];
  run = Took (shows_pool 1) ∷ Took (shows 3 (service y bare)) ∷ Took WatchesExpired ∷ Took (shows 4 (service y bare)) ∷
      Took (shows 2 (service x bare)) ∷ Took services_end ∷ Took (shows_pool 1) ∷ Took config_end ∷ puts x 2 (given first) ∷ Heard (Stored 5) ∷
      Took (shows 5 (service x (given first))) ∷ puts y 4 (given second) ∷ Heard (Stored 6) ∷ Took (shows 6 (service y (given second))) ∷ [];
}

-- A service is deleted and created anew under its name; then its put arrives, which names the version of the old one.
abbrev pub created_anew : History
created_anew = record {
  store = store_of (objects.Pool pool ∷ objects.Service (service x bare) ∷ []) empty_store;
  list = shows 2 (service x bare) ∷ services_end ∷ [];
  moves = Tells (shows_pool 1) ∷ Tells config_end ∷ Takes ∷ Takes ∷ Deletes kinds.Service x ∷ Sets (objects.Service (service x bare)) bare ∷
      Turns Delivered ∷ Takes ∷ Takes ∷ Turns Delivered ∷ Takes ∷ [];
  run = Took (shows_pool 1) ∷ Took config_end ∷ Took (shows 2 (service x bare)) ∷ Took services_end ∷ puts x 2 (given first) ∷ Heard Stale ∷
      Took (Deleted kinds.Service x) ∷ Took (shows 4 (service x bare)) ∷ puts x 4 (given first) ∷ Heard (Stored 5) ∷
      Took (shows 5 (service x (given first))) ∷ [];
}

-- A service is deleted, and then its put arrives.
abbrev pub gone : History
gone = record {
  store = store_of (objects.Pool pool ∷ objects.Service (service x bare) ∷ []) empty_store;
  list = shows 2 (service x bare) ∷ services_end ∷ [];
  moves = Tells (shows_pool 1) ∷ Tells config_end ∷ Takes ∷ Takes ∷ Deletes kinds.Service x ∷ Turns Delivered ∷ Takes ∷ [];
  run = Took (shows_pool 1) ∷ Took config_end ∷ Took (shows 2 (service x bare)) ∷ Took services_end ∷ puts x 2 (given first) ∷ Heard Missing ∷
      Took (Deleted kinds.Service x) ∷ [];
}

-- A service changes its type, and the API server empties its addresses; the annotations stay.
abbrev pub emptied : History
emptied = record {
  store = store_of (objects.Pool pool ∷ objects.Service (service x bare) ∷ []) empty_store;
  list = shows 2 (service x bare) ∷ services_end ∷ [];
  moves = Tells (shows_pool 1) ∷ Tells config_end ∷ Takes ∷ Takes ∷ Turns Delivered ∷ Takes ∷ Sets (objects.Service (plain x bare)) emptied_record ∷
      Takes ∷ Turns Delivered ∷ Takes ∷ [];
  run = Took (shows_pool 1) ∷ Took config_end ∷ Took (shows 2 (service x bare)) ∷ Took services_end ∷ puts x 2 (given first) ∷ Heard (Stored 3) ∷
      Took (shows 3 (service x (given first))) ∷ Took (shows 4 (plain x emptied_record)) ∷ puts x 4 bare ∷ Heard (Stored 5) ∷
      Took (shows 5 (plain x bare)) ∷ [];
}

-- A put is stored and its reply lost; it is made once more, and is stale then.
abbrev pub lost_and_applied : History
lost_and_applied = record {
  store = store_of (objects.Pool pool ∷ objects.Service (service x bare) ∷ []) empty_store;
  list = shows 2 (service x bare) ∷ services_end ∷ [];
  moves = Tells (shows_pool 1) ∷ Tells config_end ∷ Takes ∷ Takes ∷ Turns (Lost true) ∷ Turns Delivered ∷ Takes ∷ Turns Delivered ∷ [];
  run = Took (shows_pool 1) ∷ Took config_end ∷ Took (shows 2 (service x bare)) ∷ Took services_end ∷ puts x 2 (given first) ∷ Heard Unknown ∷
      puts x 2 (given first) ∷ Heard Stale ∷ Took (shows 3 (service x (given first))) ∷ keeps x ∷ [];
}

-- A put is lost on its way; it is made once more.
abbrev pub lost_on_the_way : History
lost_on_the_way = record {
  store = store_of (objects.Pool pool ∷ objects.Service (service x bare) ∷ []) empty_store;
  list = shows 2 (service x bare) ∷ services_end ∷ [];
  moves = Tells (shows_pool 1) ∷ Tells config_end ∷ Takes ∷ Takes ∷ Turns (Lost false) ∷ Turns Delivered ∷ Takes ∷ [];
  run = Took (shows_pool 1) ∷ Took config_end ∷ Took (shows 2 (service x bare)) ∷ Took services_end ∷ puts x 2 (given first) ∷ Heard Unknown ∷
      puts x 2 (given first) ∷ Heard (Stored 3) ∷ Took (shows 3 (service x (given first))) ∷ [];
}

-- The API server refuses a put for good; the service is edited, and put for again.
abbrev pub refused : History
refused = record {
  store = store_of (objects.Pool pool ∷ objects.Service (service x bare) ∷ []) empty_store;
  list = shows 2 (service x bare) ∷ services_end ∷ [];
  moves = Tells (shows_pool 1) ∷ Tells config_end ∷ Takes ∷ Takes ∷ Turns Refused ∷ Sets (objects.Service (service x bare)) bare ∷ Takes ∷
      Turns Delivered ∷ Takes ∷ [];
  run = Took (shows_pool 1) ∷ Took config_end ∷ Took (shows 2 (service x bare)) ∷ Took services_end ∷ puts x 2 (given first) ∷ Heard Stale ∷
      Took (shows 3 (service x bare)) ∷ puts x 3 (given first) ∷ Heard (Stored 4) ∷ Took (shows 4 (service x (given first))) ∷ [];
}

-- A service has an address of MetalLB's, without a mark: it keeps it, and is marked. The other one gets the next address.
abbrev pub adopted : History
adopted = record {
  store = records_store (objects.Pool pool ∷ objects.Service (service x (unmarked first)) ∷ objects.Service (service y bare) ∷ []) empty_store;
  list = shows 3 (service y bare) ∷ shows 2 (service x (unmarked first)) ∷ services_end ∷ [];
  moves = Tells (shows_pool 1) ∷ Tells config_end ∷ Takes ∷ Takes ∷ Takes ∷ Turns Delivered ∷ Turns Delivered ∷ Takes ∷ Takes ∷ [];
  run = Took (shows_pool 1) ∷ Took config_end ∷ Took (shows 3 (service y bare)) ∷ Took (shows 2 (service x (unmarked first))) ∷ Took services_end ∷
      puts x 2 (given first) ∷ Heard (Stored 4) ∷ puts y 3 (given second) ∷ Heard (Stored 5) ∷ Took (shows 4 (service x (given first))) ∷
      Took (shows 5 (service y (given second))) ∷ [];
}

-- The connection breaks while a put is in flight, which is stored: the watch of the services expires alone, and they are listed anew.
abbrev pub one_watch_expired : History
one_watch_expired = record {
  store = store_of (objects.Pool pool ∷ objects.Service (service x bare) ∷ []) empty_store;
  list = shows 2 (service x bare) ∷ services_end ∷ [];
  moves = Tells (shows_pool 1) ∷ Tells config_end ∷ Takes ∷ Takes ∷ Turns (Lost true) ∷
      ServicesExpire (shows 3 (service x (given first)) ∷ services_end ∷ []) ∷ Takes ∷ Takes ∷ Turns Delivered ∷ [];
  run = Took (shows_pool 1) ∷ Took config_end ∷ Took (shows 2 (service x bare)) ∷ Took services_end ∷ puts x 2 (given first) ∷ Heard Unknown ∷
      Expired groups.Service ∷ Took (shows 3 (service x (given first))) ∷ Took services_end ∷ keeps x ∷ [];
}

-- The configuration is shown after all services, twice, and its last change late.
abbrev pub config_late_and_twice : History
config_late_and_twice = record {
  store = store_of (objects.Pool pool ∷ objects.Service (service x bare) ∷ []) empty_store;
  list = shows 2 (service x bare) ∷ services_end ∷ [];
  moves = Takes ∷ Takes ∷ Sets (objects.Pool pool) bare ∷ Tells (shows_pool 1) ∷ Tells (shows_pool 1) ∷ Tells config_end ∷ Turns Delivered ∷ Takes ∷
      Tells (shows_pool 3) ∷ Turns Delivered ∷ [];
  run = Took (shows 2 (service x bare)) ∷ Took services_end ∷ Took (shows_pool 1) ∷ Took (shows_pool 1) ∷ Took config_end ∷ puts x 2 (given first) ∷
      Heard (Stored 4) ∷ Took (shows 4 (service x (given first))) ∷ Took (shows_pool 3) ∷ keeps x ∷ [];
}

-- A service is made and another one edited while the list is shown; both changes come ahead of its end.
abbrev pub edited_within_the_list : History
edited_within_the_list = record {
  store = store_of (objects.Pool pool ∷ objects.Service (service x bare) ∷ []) empty_store;
  list = shows 2 (service x bare) ∷ services_end ∷ [];
  moves = Tells (shows_pool 1) ∷ Tells config_end ∷ Sets (objects.Service (service y bare)) bare ∷
      EndsLater (shows 2 (service x bare) ∷ []) (shows 3 (service y bare)) [] ∷ Sets (objects.Service (service x bare)) bare ∷
      EndsLater (shows 2 (service x bare) ∷ shows 3 (service y bare) ∷ []) (shows 4 (service x bare)) [] ∷ Takes ∷ Takes ∷ Takes ∷ Takes ∷
      Turns Delivered ∷ Turns Delivered ∷ [];
  run = Took (shows_pool 1) ∷ Took config_end ∷ Took (shows 2 (service x bare)) ∷ Took (shows 3 (service y bare)) ∷ Took (shows 4 (service x bare)) ∷
      Took services_end ∷ puts x 4 (given first) ∷ Heard (Stored 5) ∷ puts y 3 (given second) ∷ Heard (Stored 6) ∷ [];
}

-- Another controller gives a service of its class an address, and somebody takes the mark off a service that has one: neither has a mark then.
abbrev pub beside_another : History
beside_another = record {
  store = store_of (objects.Pool pool ∷ objects.Service (service x bare) ∷ []) empty_store;
  list = shows 2 (service x bare) ∷ services_end ∷ [];
  moves = Tells (shows_pool 1) ∷ Tells config_end ∷ Takes ∷ Takes ∷ Turns Delivered ∷ Takes ∷ Sets (objects.Service (foreign y bare)) (unmarked other) ∷
      Takes ∷ Turns Delivered ∷ Sets (objects.Service (service x bare)) (unmarked first) ∷ Takes ∷ Turns Delivered ∷ [];
  run = Took (shows_pool 1) ∷ Took config_end ∷ Took (shows 2 (service x bare)) ∷ Took services_end ∷ puts x 2 (given first) ∷ Heard (Stored 3) ∷
      Took (shows 3 (service x (given first))) ∷ Took (shows 4 (foreign y (unmarked other))) ∷ keeps y ∷
      Took (shows 5 (service x (unmarked first))) ∷ puts x 5 (given first) ∷ Heard (Stored 6) ∷ [];
}

-- The connection of a put breaks, and the controller goes on at once; the service is edited by nobody, and the put is stored after all, after
-- the turn of another service.
abbrev pub landed_late : History
landed_late = record {
  store = store_of (objects.Pool pool ∷ objects.Service (service x bare) ∷ []) empty_store;
  list = shows 2 (service x bare) ∷ services_end ∷ [];
  moves = Tells (shows_pool 1) ∷ Tells config_end ∷ Takes ∷ Takes ∷ Turns (Lost false) ∷ Sets (objects.Service (service y bare)) bare ∷ Takes ∷
      Lands (put_of x 2 (given first)) ∷ Turns Delivered ∷ Turns Delivered ∷ Takes ∷ Turns Delivered ∷ [];
  run = Took (shows_pool 1) ∷ Took config_end ∷ Took (shows 2 (service x bare)) ∷ Took services_end ∷ puts x 2 (given first) ∷ Heard Unknown ∷
      Took (shows 3 (service y bare)) ∷ puts x 2 (given first) ∷ Heard Stale ∷ puts y 3 (given second) ∷ Heard (Stored 5) ∷
      Took (shows 4 (service x (given first))) ∷ keeps x ∷ [];
}

abbrev pub AreTrue : List History → Type 0
AreTrue [] = ⊤
AreTrue (h ∷ more) = IsTrue h × AreTrue more

abbrev pub histories : List History
histories =
    in_namespace_order ∷ watches_restarted_in_the_list ∷ created_anew ∷ gone ∷ emptied ∷ lost_and_applied ∷ lost_on_the_way ∷ refused ∷ adopted ∷
    one_watch_expired ∷ config_late_and_twice ∷ edited_within_the_list ∷ beside_another ∷ landed_late ∷ []

abbrev pub HistoriesAreExplained : Type 0
HistoriesAreExplained = AreTrue histories
