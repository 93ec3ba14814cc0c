-- Histories that are less common: an event that comes twice, puts that land late in another order, terms that change.
use Rattle.std.specs.Prelude.{ℕ, List, [], ◌∷◌, None, reverse, true, false, codes, ⊤}
use Rattle.kube_model.specs.declared.event.Event.TheVariants.{Deleted}
use Rattle.kube_model.specs.declared.event.ListGroup.TheVariants as groups
use Rattle.kube_model.specs.declared.key.Key.{Key}
use Rattle.kube_model.specs.declared.object.Kind.TheVariants as kinds
use Rattle.kube_model.specs.declared.object.Object.TheVariants as objects
use Rattle.kube_model.specs.declared.port.Protocol.TheVariants.{Tcp}
use Rattle.kube_model.specs.declared.record.Record.{Record}
use Rattle.kube_model.specs.declared.reply.PutReply.TheVariants.{Ok as Stored, Stale, Unknown}
use Rattle.kube_model.specs.declared.service.Service.{Service}
use Rattle.ip_ranges.specs.Values.{AddressValue}
use Rattle.status_store.specs.declared.change.Outcome.TheVariants.{Delivered, Lost}
use Rattle.status_store.specs.Changes.{empty_store}
use Rattle.core_rules.specs.Run.{Took, Expired, Heard, IsRun}
use Rattle.world_rules.specs.Moves.{Sets, Deletes, Tells, Takes, Turns, ConfigExpires, Lands}
use Rattle.world_rules.specs.Outside.{Happening, SetBy, DeletedBy, ReadsConfig, Reads, ReadsAgain}
use Rattle.world_rules.specs.Outside.{Writes, ConfigRunsOut, LandsLate}
use Rattle.world_rules.specs.World.{store_of}
use Rattle.history_laws.specs.Objects.{pool, first, second, x, y, z, service, given, bare, shows}
use Rattle.history_laws.specs.Objects.{shows_pool, config_end, services_end}
use Rattle.history_laws.specs.Histories.{History, IsTrue, AreTrue, put_of, puts, keeps, waits}
use Rattle.history_laws.specs.Seen.{IsSeen}

-- a service at another port, and one that shares its addresses
abbrev pub at_port : ℕ → Key → Record → Service
at_port n k holding = record (service k holding) { ports = record { protocol = Tcp; port = n } ∷ [] }

abbrev pub sharing : ℕ → Key → Record → Service
sharing n k holding = record (at_port n k holding) { share_key = codes "k" }

-- an address of the pool with this mark
abbrev pub given_as : List ℕ → AddressValue → Record
given_as mark a = record { addresses = a ∷ []; pool = codes "p"; mark = mark }

-- A service is shown twice in a row, before the list has ended; and once more when its put is stored and shown.
abbrev pub shown_twice : History
shown_twice = record {
  store = store_of (
      objects.Pool pool ∷ objects.Service (service x bare) ∷ []) empty_store;
  list =
      shows 2 (service x bare) ∷ services_end ∷ [];
  moves =
      Tells (shows_pool 1) ∷ Tells config_end ∷ Takes ∷ Tells (shows 2 (service x bare)) ∷
      Takes ∷ Turns Delivered ∷ Takes ∷ Tells (shows 3 (service x (given first))) ∷ [];
  run =
      Took (shows_pool 1) ∷ Took config_end ∷ Took (shows 2 (service x bare)) ∷
      Took (shows 2 (service x bare)) ∷ Took services_end ∷ puts x 2 (given first) ∷
      Heard (Stored 3) ∷ Took (shows 3 (service x (given first))) ∷
      Took (shows 3 (service x (given first))) ∷ [];
}

abbrev pub shown_twice_seen : List Happening
shown_twice_seen =
    ReadsConfig (shows_pool 1) ∷ ReadsConfig config_end ∷ Reads ∷
    ReadsAgain ∷ Reads ∷ Writes (put_of x 2 (given first)) Delivered ∷ Reads ∷ ReadsAgain ∷ []

-- A service is deleted, which comes twice: the second time when another one has got its address, and it was created anew.
abbrev pub gone_twice : History
gone_twice = record {
  store = store_of (
      objects.Pool pool ∷ objects.Service (service x bare) ∷ []) empty_store;
  list =
      shows 2 (service x bare) ∷ services_end ∷ [];
  moves =
      Tells (shows_pool 1) ∷ Tells config_end ∷ Takes ∷ Takes ∷ Turns Delivered ∷ Takes ∷
      Sets (objects.Service (service y bare)) bare ∷ Deletes kinds.Service x ∷ Takes ∷
      Takes ∷ Turns Delivered ∷ Sets (objects.Service (service x bare)) bare ∷
      Tells (Deleted kinds.Service x) ∷ Takes ∷ Takes ∷ Turns Delivered ∷ Takes ∷ [];
  run =
      Took (shows_pool 1) ∷ Took config_end ∷ Took (shows 2 (service x bare)) ∷
      Took services_end ∷ puts x 2 (given first) ∷ Heard (Stored 3) ∷
      Took (shows 3 (service x (given first))) ∷ Took (shows 4 (service y bare)) ∷
      Took (Deleted kinds.Service x) ∷ puts y 4 (given first) ∷ Heard (Stored 6) ∷
      Took (Deleted kinds.Service x) ∷ Took (shows 6 (service y (given first))) ∷
      Took (shows 7 (service x bare)) ∷ puts x 7 (given second) ∷ Heard (Stored 8) ∷
      Took (shows 8 (service x (given second))) ∷ [];
}

abbrev pub gone_twice_seen : List Happening
gone_twice_seen =
    ReadsConfig (shows_pool 1) ∷ ReadsConfig config_end ∷ Reads ∷ Reads ∷
    Writes (put_of x 2 (given first)) Delivered ∷ Reads ∷
    SetBy (objects.Service (service y bare)) bare ∷ DeletedBy kinds.Service x ∷ Reads ∷
    Reads ∷ Writes (put_of y 4 (given first)) Delivered ∷
    SetBy (objects.Service (service x bare)) bare ∷ ReadsAgain ∷ Reads ∷ Reads ∷
    Writes (put_of x 7 (given second)) Delivered ∷ Reads ∷ []

-- The end of the list of services comes three times, with a put after each. It is told as it is seen; that moves explain it follows (`seen_are_explained`).
abbrev pub ended_thrice : History
ended_thrice = record {
  store = store_of (
      objects.Pool pool ∷ objects.Service (service x bare) ∷ objects.Service (service y bare) ∷ []) empty_store;
  list =
      shows 3 (service y bare) ∷ shows 2 (service x bare) ∷ services_end ∷ [];
  moves = [];
  run =
      Took (shows_pool 1) ∷ Took config_end ∷ Took (shows 3 (service y bare)) ∷
      Took (shows 2 (service x bare)) ∷ Took services_end ∷ puts x 2 (given first) ∷
      Heard (Stored 4) ∷ Took services_end ∷ puts y 3 (given second) ∷ Heard (Stored 5) ∷
      Took services_end ∷ Took (shows 4 (service x (given first))) ∷
      Took (shows 5 (service y (given second))) ∷ [];
}

abbrev pub ended_thrice_seen : List Happening
ended_thrice_seen =
    ReadsConfig (shows_pool 1) ∷ ReadsConfig config_end ∷ Reads ∷ Reads ∷ Reads ∷
    Writes (put_of x 2 (given first)) Delivered ∷ ReadsAgain ∷
    Writes (put_of y 3 (given second)) Delivered ∷ ReadsAgain ∷ Reads ∷ Reads ∷ []

-- Of three services the last one waits for one of two addresses; the first is deleted, and its address goes to the one that waits.
abbrev pub given_back : History
given_back = record {
  store = store_of (
      objects.Pool pool ∷ objects.Service (service y bare) ∷ objects.Service (service x bare) ∷
      objects.Service (service z bare) ∷ []) empty_store;
  list =
      shows 2 (service y bare) ∷ shows 3 (service x bare) ∷ shows 4 (service z bare) ∷
      services_end ∷ [];
  moves =
      Tells (shows_pool 1) ∷ Takes ∷ Tells config_end ∷ Takes ∷ Takes ∷ Takes ∷
      Turns Delivered ∷ Takes ∷ Turns Delivered ∷ Takes ∷ Turns Delivered ∷
      Deletes kinds.Service x ∷ Takes ∷ Turns Delivered ∷ Takes ∷ [];
  run =
      Took (shows_pool 1) ∷ Took (shows 2 (service y bare)) ∷ Took config_end ∷
      Took (shows 3 (service x bare)) ∷ Took (shows 4 (service z bare)) ∷ Took services_end ∷
      puts x 3 (given first) ∷ Heard (Stored 5) ∷ Took (shows 5 (service x (given first))) ∷
      puts z 4 (given second) ∷ Heard (Stored 6) ∷ Took (shows 6 (service z (given second))) ∷
      waits y ∷ Took (Deleted kinds.Service x) ∷ puts y 2 (given first) ∷ Heard (Stored 8) ∷
      Took (shows 8 (service y (given first))) ∷ [];
}

abbrev pub given_back_seen : List Happening
given_back_seen =
    ReadsConfig (shows_pool 1) ∷ Reads ∷ ReadsConfig config_end ∷ Reads ∷ Reads ∷ Reads ∷
    Writes (put_of x 3 (given first)) Delivered ∷ Reads ∷
    Writes (put_of z 4 (given second)) Delivered ∷ Reads ∷ DeletedBy kinds.Service x ∷ Reads ∷
    Writes (put_of y 2 (given first)) Delivered ∷ Reads ∷ []

-- The replies to two puts are lost; both are stored after all, the later one first, and the services are put again in vain.
abbrev pub two_landed_late : History
two_landed_late = record {
  store = store_of (
      objects.Pool pool ∷ objects.Service (service x bare) ∷ objects.Service (service y bare) ∷ []) empty_store;
  list =
      shows 3 (service y bare) ∷ shows 2 (service x bare) ∷ services_end ∷ [];
  moves =
      Tells (shows_pool 1) ∷ Tells config_end ∷ Takes ∷ Takes ∷ Takes ∷ Turns (Lost false) ∷
      Turns (Lost false) ∷ Lands (put_of y 3 (given second)) ∷
      Lands (put_of x 2 (given first)) ∷ Turns Delivered ∷ Turns Delivered ∷ Takes ∷
      Turns Delivered ∷ Takes ∷ Turns Delivered ∷ [];
  run =
      Took (shows_pool 1) ∷ Took config_end ∷ Took (shows 3 (service y bare)) ∷
      Took (shows 2 (service x bare)) ∷ Took services_end ∷ puts x 2 (given first) ∷
      Heard Unknown ∷ puts y 3 (given second) ∷ Heard Unknown ∷ puts x 2 (given first) ∷
      Heard Stale ∷ puts y 3 (given second) ∷ Heard Stale ∷
      Took (shows 4 (service y (given second))) ∷ keeps y ∷
      Took (shows 5 (service x (given first))) ∷ keeps x ∷ [];
}

abbrev pub two_landed_late_seen : List Happening
two_landed_late_seen =
    ReadsConfig (shows_pool 1) ∷ ReadsConfig config_end ∷ Reads ∷ Reads ∷ Reads ∷
    Writes (put_of x 2 (given first)) (Lost false) ∷
    Writes (put_of y 3 (given second)) (Lost false) ∷ LandsLate (put_of y 3 (given second)) ∷
    LandsLate (put_of x 2 (given first)) ∷ Writes (put_of x 2 (given first)) Delivered ∷
    Writes (put_of y 3 (given second)) Delivered ∷ Reads ∷ Reads ∷ []

-- The port of a service that has an address is changed, by whoever keeps its record: it keeps the address, with the mark of its new terms.
abbrev pub port_changed : History
port_changed = record {
  store = store_of (
      objects.Pool pool ∷ objects.Service (service x bare) ∷ []) empty_store;
  list =
      shows 2 (service x bare) ∷ services_end ∷ [];
  moves =
      Tells (shows_pool 1) ∷ Tells config_end ∷ Takes ∷ Takes ∷ Turns Delivered ∷ Takes ∷
      Sets (objects.Service (at_port 81 x bare)) (given first) ∷ Takes ∷ Turns Delivered ∷
      Takes ∷ [];
  run =
      Took (shows_pool 1) ∷ Took config_end ∷ Took (shows 2 (service x bare)) ∷
      Took services_end ∷ puts x 2 (given first) ∷ Heard (Stored 3) ∷
      Took (shows 3 (service x (given first))) ∷ Took (shows 4 (at_port 81 x (given first))) ∷
      puts x 4 (given_as (codes "v1;;T81;C") first) ∷ Heard (Stored 5) ∷
      Took (shows 5 (at_port 81 x (given_as (codes "v1;;T81;C") first))) ∷ [];
}

abbrev pub port_changed_seen : List Happening
port_changed_seen =
    ReadsConfig (shows_pool 1) ∷ ReadsConfig config_end ∷ Reads ∷ Reads ∷
    Writes (put_of x 2 (given first)) Delivered ∷ Reads ∷
    SetBy (objects.Service (at_port 81 x bare)) (given first) ∷ Reads ∷
    Writes (put_of x 4 (given_as (codes "v1;;T81;C") first)) Delivered ∷ Reads ∷ []

-- The watch of the configuration expires before the list of the services has ended; it is listed anew, and then puts are made.
abbrev pub config_listed_anew : History
config_listed_anew = record {
  store = store_of (
      objects.Pool pool ∷ objects.Service (service x bare) ∷ []) empty_store;
  list =
      shows 2 (service x bare) ∷ services_end ∷ [];
  moves =
      Tells (shows_pool 1) ∷ Tells config_end ∷ Takes ∷ ConfigExpires ∷ Takes ∷
      Tells (shows_pool 1) ∷ Tells config_end ∷ Turns Delivered ∷ Takes ∷ [];
  run =
      Took (shows_pool 1) ∷ Took config_end ∷ Took (shows 2 (service x bare)) ∷
      Expired groups.Config ∷ Took services_end ∷ Took (shows_pool 1) ∷ Took config_end ∷
      puts x 2 (given first) ∷ Heard (Stored 3) ∷ Took (shows 3 (service x (given first))) ∷ [];
}

abbrev pub config_listed_anew_seen : List Happening
config_listed_anew_seen =
    ReadsConfig (shows_pool 1) ∷ ReadsConfig config_end ∷ Reads ∷ ConfigRunsOut ∷ Reads ∷
    ReadsConfig (shows_pool 1) ∷ ReadsConfig config_end ∷
    Writes (put_of x 2 (given first)) Delivered ∷ Reads ∷ []

-- Two services of one sharing key, at two ports, get one address: it is recorded twice, and they may share it.
abbrev pub shared : History
shared = record {
  store = store_of (
      objects.Pool pool ∷ objects.Service (sharing 80 x bare) ∷
      objects.Service (sharing 81 z bare) ∷ []) empty_store;
  list =
      shows 2 (sharing 80 x bare) ∷ shows 3 (sharing 81 z bare) ∷ services_end ∷ [];
  moves =
      Tells (shows_pool 1) ∷ Tells config_end ∷ Takes ∷ Takes ∷ Takes ∷ Turns Delivered ∷
      Turns Delivered ∷ Takes ∷ Takes ∷ [];
  run =
      Took (shows_pool 1) ∷ Took config_end ∷ Took (shows 2 (sharing 80 x bare)) ∷
      Took (shows 3 (sharing 81 z bare)) ∷ Took services_end ∷
      puts x 2 (given_as (codes "v1;6b;T80;C") first) ∷ Heard (Stored 4) ∷
      puts z 3 (given_as (codes "v1;6b;T81;C") first) ∷ Heard (Stored 5) ∷
      Took (shows 4 (sharing 80 x (given_as (codes "v1;6b;T80;C") first))) ∷
      Took (shows 5 (sharing 81 z (given_as (codes "v1;6b;T81;C") first))) ∷ [];
}

abbrev pub shared_seen : List Happening
shared_seen =
    ReadsConfig (shows_pool 1) ∷ ReadsConfig config_end ∷ Reads ∷ Reads ∷ Reads ∷
    Writes (put_of x 2 (given_as (codes "v1;6b;T80;C") first)) Delivered ∷
    Writes (put_of z 3 (given_as (codes "v1;6b;T81;C") first)) Delivered ∷ Reads ∷ Reads ∷ []

-- each is a run of a core, which its world explains; of `ended_thrice`, which has no moves, it is said that it is a run
abbrev pub FurtherAreExplained : Type 0
FurtherAreExplained =
    AreTrue (shown_twice ∷ gone_twice ∷ given_back ∷ two_landed_late ∷ port_changed ∷ config_listed_anew ∷ shared ∷ [])
    × IsRun None (reverse ended_thrice.run)

-- and is seen in a world without a core
abbrev pub FurtherAreSeen : Type 0
FurtherAreSeen =
    IsSeen shown_twice shown_twice_seen
    × IsSeen gone_twice gone_twice_seen
    × IsSeen ended_thrice ended_thrice_seen
    × IsSeen given_back given_back_seen
    × IsSeen two_landed_late two_landed_late_seen
    × IsSeen port_changed port_changed_seen
    × IsSeen config_listed_anew config_listed_anew_seen
    × IsSeen shared shared_seen
