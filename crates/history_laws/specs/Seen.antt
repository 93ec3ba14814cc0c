-- The same histories without a core: what was edited, read, written and stored late, in the order in which it came.
use Rattle.std.specs.Prelude.{List, [], ◌∷◌, reverse, true, false}
use Rattle.kube_model.specs.declared.object.Kind.TheVariants as kinds
use Rattle.kube_model.specs.declared.object.Object.TheVariants as objects
use Rattle.status_store.specs.declared.change.Outcome.TheVariants.{Delivered, Lost, Refused}
use Rattle.world_rules.specs.Outside.{Happening, SetBy, DeletedBy, ReadsConfig, Reads, Writes, ConfigRunsOut, ServicesRunOut, EndComesLater, LandsLate}
use Rattle.world_rules.specs.Outside.{IsRunSeenIn}
use Rattle.history_laws.specs.Objects.{pool, first, second, other, x, y, z, service, plain, foreign, given, unmarked, bare, emptied_record}
use Rattle.history_laws.specs.Objects.{shows, shows_pool, config_end, services_end}
use Rattle.history_laws.specs.Histories.{History, put_of}
use Rattle.history_laws.specs.Histories.{in_namespace_order, watches_restarted_in_the_list, created_anew, gone, emptied, lost_and_applied, lost_on_the_way, refused, adopted, one_watch_expired, config_late_and_twice, edited_within_the_list, beside_another, landed_late}

-- the run of the history is seen, where this happens
abbrev pub IsSeen : History → List Happening → Type 0
IsSeen h happenings = IsRunSeenIn h.store h.list (reverse happenings) (reverse h.run)

abbrev pub in_namespace_order_seen : List Happening
in_namespace_order_seen =
    ReadsConfig (shows_pool 1) ∷ Reads ∷ ReadsConfig config_end ∷ Reads ∷ Reads ∷ Reads ∷ Writes (put_of x 3 (given first)) Delivered ∷ Reads ∷
    Writes (put_of z 4 (given second)) Delivered ∷ Reads ∷ []

abbrev pub watches_restarted_in_the_list_seen : List Happening
watches_restarted_in_the_list_seen =
    ReadsConfig (shows_pool 1) ∷ Reads ∷ SetBy (objects.Service (service y bare)) bare ∷ ConfigRunsOut ∷
    ServicesRunOut (shows 4 (service y bare) ∷ shows 2 (service x bare) ∷ services_end ∷ []) ∷ Reads ∷ Reads ∷ Reads ∷ ReadsConfig (shows_pool 1) ∷
    ReadsConfig config_end ∷ Writes (put_of x 2 (given first)) Delivered ∷ Reads ∷ Writes (put_of y 4 (given second)) Delivered ∷ Reads ∷ []

abbrev pub created_anew_seen : List Happening
created_anew_seen =
    ReadsConfig (shows_pool 1) ∷ ReadsConfig config_end ∷ Reads ∷ Reads ∷ DeletedBy kinds.Service x ∷ SetBy (objects.Service (service x bare)) bare ∷
    Writes (put_of x 2 (given first)) Delivered ∷ Reads ∷ Reads ∷ Writes (put_of x 4 (given first)) Delivered ∷ Reads ∷ []

abbrev pub gone_seen : List Happening
gone_seen =
    ReadsConfig (shows_pool 1) ∷ ReadsConfig config_end ∷ Reads ∷ Reads ∷ DeletedBy kinds.Service x ∷ Writes (put_of x 2 (given first)) Delivered ∷
    Reads ∷ []

abbrev pub emptied_seen : List Happening
emptied_seen =
    ReadsConfig (shows_pool 1) ∷ ReadsConfig config_end ∷ Reads ∷ Reads ∷ Writes (put_of x 2 (given first)) Delivered ∷ Reads ∷
    SetBy (objects.Service (plain x bare)) emptied_record ∷ Reads ∷ Writes (put_of x 4 bare) Delivered ∷ Reads ∷ []

abbrev pub lost_and_applied_seen : List Happening
lost_and_applied_seen =
    ReadsConfig (shows_pool 1) ∷ ReadsConfig config_end ∷ Reads ∷ Reads ∷ Writes (put_of x 2 (given first)) (Lost true) ∷
    Writes (put_of x 2 (given first)) Delivered ∷ Reads ∷ []

abbrev pub lost_on_the_way_seen : List Happening
lost_on_the_way_seen =
    ReadsConfig (shows_pool 1) ∷ ReadsConfig config_end ∷ Reads ∷ Reads ∷ Writes (put_of x 2 (given first)) (Lost false) ∷
    Writes (put_of x 2 (given first)) Delivered ∷ Reads ∷ []

abbrev pub refused_seen : List Happening
refused_seen =
    ReadsConfig (shows_pool 1) ∷ ReadsConfig config_end ∷ Reads ∷ Reads ∷ Writes (put_of x 2 (given first)) Refused ∷
    SetBy (objects.Service (service x bare)) bare ∷ Reads ∷ Writes (put_of x 3 (given first)) Delivered ∷ Reads ∷ []

abbrev pub adopted_seen : List Happening
adopted_seen =
    ReadsConfig (shows_pool 1) ∷ ReadsConfig config_end ∷ Reads ∷ Reads ∷ Reads ∷ Writes (put_of x 2 (given first)) Delivered ∷
    Writes (put_of y 3 (given second)) Delivered ∷ Reads ∷ Reads ∷ []

abbrev pub one_watch_expired_seen : List Happening
one_watch_expired_seen =
    ReadsConfig (shows_pool 1) ∷ ReadsConfig config_end ∷ Reads ∷ Reads ∷ Writes (put_of x 2 (given first)) (Lost true) ∷
    ServicesRunOut (shows 3 (service x (given first)) ∷ services_end ∷ []) ∷ Reads ∷ Reads ∷ []

abbrev pub config_late_and_twice_seen : List Happening
config_late_and_twice_seen =
    Reads ∷ Reads ∷ SetBy (objects.Pool pool) bare ∷ ReadsConfig (shows_pool 1) ∷ ReadsConfig (shows_pool 1) ∷ ReadsConfig config_end ∷
    Writes (put_of x 2 (given first)) Delivered ∷ Reads ∷ ReadsConfig (shows_pool 3) ∷ []

abbrev pub edited_within_the_list_seen : List Happening
edited_within_the_list_seen =
    ReadsConfig (shows_pool 1) ∷ ReadsConfig config_end ∷ SetBy (objects.Service (service y bare)) bare ∷
    EndComesLater (shows 2 (service x bare) ∷ []) (shows 3 (service y bare)) [] ∷ SetBy (objects.Service (service x bare)) bare ∷
    EndComesLater (shows 2 (service x bare) ∷ shows 3 (service y bare) ∷ []) (shows 4 (service x bare)) [] ∷ Reads ∷ Reads ∷ Reads ∷ Reads ∷
    Writes (put_of x 4 (given first)) Delivered ∷ Writes (put_of y 3 (given second)) Delivered ∷ []

abbrev pub beside_another_seen : List Happening
beside_another_seen =
    ReadsConfig (shows_pool 1) ∷ ReadsConfig config_end ∷ Reads ∷ Reads ∷ Writes (put_of x 2 (given first)) Delivered ∷ Reads ∷
    SetBy (objects.Service (foreign y bare)) (unmarked other) ∷ Reads ∷ SetBy (objects.Service (service x bare)) (unmarked first) ∷ Reads ∷
    Writes (put_of x 5 (given first)) Delivered ∷ []

abbrev pub landed_late_seen : List Happening
landed_late_seen =
    ReadsConfig (shows_pool 1) ∷ ReadsConfig config_end ∷ Reads ∷ Reads ∷ Writes (put_of x 2 (given first)) (Lost false) ∷
    SetBy (objects.Service (service y bare)) bare ∷ Reads ∷ LandsLate (put_of x 2 (given first)) ∷ Writes (put_of x 2 (given first)) Delivered ∷
    Writes (put_of y 3 (given second)) Delivered ∷ Reads ∷ []

abbrev pub HistoriesAreSeen : Type 0
HistoriesAreSeen =
    IsSeen in_namespace_order in_namespace_order_seen
    × IsSeen watches_restarted_in_the_list watches_restarted_in_the_list_seen
    × IsSeen created_anew created_anew_seen
    × IsSeen gone gone_seen
    × IsSeen emptied emptied_seen
    × IsSeen lost_and_applied lost_and_applied_seen
    × IsSeen lost_on_the_way lost_on_the_way_seen
    × IsSeen refused refused_seen
    × IsSeen adopted adopted_seen
    × IsSeen one_watch_expired one_watch_expired_seen
    × IsSeen config_late_and_twice config_late_and_twice_seen
    × IsSeen edited_within_the_list edited_within_the_list_seen
    × IsSeen beside_another beside_another_seen
    × IsSeen landed_late landed_late_seen
