-- Each service that is stored in a trial is one of the 48.
use Rattle.std.proofs.Common.{ℕ, ◌<◌, Bool, List, [], ◌∷◌, ◌++◌, Option, Some, None, is_some, refl}
use Rattle.std.proofs.lemmas.Bool.{cond_both}
use Rattle.std.specs.List.{AllByRecursion}
use Rattle.std.specs.Prelude.{IfSome, ⊤}
use Rattle.ip_ranges.specs.Values.{AddressValue}
use Rattle.kube_model.specs.declared.key.Key.{Key}
use Rattle.kube_model.specs.declared.event.ListGroup.{ListGroup}
use Rattle.kube_model.specs.declared.event.ListGroup.TheVariants as groups
use Rattle.kube_model.specs.declared.object.Object.{Object}
use Rattle.kube_model.specs.declared.object.Object.TheVariants as objects
use Rattle.kube_model.specs.declared.put.Put.{Put}
use Rattle.kube_model.specs.declared.record.Record.{Record}
use Rattle.core_rules.specs.Core.{State}
use Rattle.core_rules.specs.Turn.{core_turn, after_turn, put_in}
use Rattle.status_store.specs.declared.change.Edit.{Edit}
use Rattle.status_store.specs.declared.change.Edit.TheVariants.{Set, Reset, Delete}
use Rattle.status_store.specs.declared.change.Outcome.{Outcome}
use Rattle.status_store.specs.declared.change.Outcome.TheVariants.{Lost}
use Rattle.status_store.specs.declared.stored.Stored.{Stored}
use Rattle.status_store.specs.Changes.{StoreValue, with_record, kept_record, set_as, reset_as, edited, recorded, with_put, is_made, after_put}
use Rattle.status_store.specs.Objects.{is_of, stored_at, with_stored, without_stored}
use Rattle.status_store.specs.Places.{Place, place_of, service_at}
use Rattle.status_store.proofs.ListLaws.{all-with_stored, all-without_stored}
use Rattle.world_rules.specs.declared.step.Step.{Step}
use Rattle.world_rules.specs.declared.step.ListOrder.{ListOrder}
use Rattle.world_rules.specs.declared.step.Step.TheVariants.{Edit as Edits, Take, Turn, Crash, Restart, Expire}
use Rattle.world_rules.specs.World.{WorldValue, after_take, after_turning, turned, next_put, reached, restarted, world_step}
use Rattle.world_trial.specs.Begun.{first_world}
use Rattle.world_trial.specs.Draws.{draws}
use Rattle.world_trial.specs.Lines.{line_in, lines_in, keys_in, IsNumbered}
use Rattle.world_trial.specs.Run.{is_made as is_made_in, after, step_in, after_draw, after_draws, trial_world}
use Rattle.world_trial.specs.Services.{service_of}
use Rattle.world_trial.proofs.Sets.{EditSets, Sets, step-sets}

-- a service is one of the 48
abbrev IsOurs : Object → Type 0
IsOurs (objects.Service service) = IsNumbered service.key
IsOurs (objects.Pool pool) = ⊤
IsOurs (objects.L2 adv) = ⊤
IsOurs (objects.Bgp adv) = ⊤
IsOurs (objects.Peer peer) = ⊤
IsOurs (objects.Community community) = ⊤
IsOurs (objects.Namespace namespace) = ⊤
IsOurs (objects.Node node) = ⊤
IsOurs (objects.Slice slice) = ⊤

abbrev AreOurs : List Stored → Type 0
AreOurs stored = AllByRecursion (λ held. IsOurs held.object) stored

-- ---- stores

ours-record : (holding : Record) (object : Object) → IsOurs object → IsOurs (with_record holding object)
ours-record holding (objects.Service service) is = is
ours-record holding (objects.Pool pool) is = tt
ours-record holding (objects.L2 adv) is = tt
ours-record holding (objects.Bgp adv) is = tt
ours-record holding (objects.Peer peer) is = tt
ours-record holding (objects.Community community) is = tt
ours-record holding (objects.Namespace namespace) is = tt
ours-record holding (objects.Node node) is = tt
ours-record holding (objects.Slice slice) is = tt

ours-with : (stored : List Stored) (added : Stored) → IsOurs added.object → AreOurs stored → AreOurs (with_stored added stored)
ours-with = all-with_stored (λ (held : Stored). IsOurs held.object)

ours-without : (stored : List Stored) (place : Place) → AreOurs stored → AreOurs (without_stored place stored)
ours-without = all-without_stored (λ (held : Stored). IsOurs held.object)

ours-at : (stored : List Stored) (place : Place) → AreOurs stored → IfSome (stored_at stored place) (λ held. IsOurs held.object)
ours-at [] place all = tt
ours-at (held ∷ more) place all =
    cond_both (is_of place held) (Some held) (stored_at more place) (λ o. IfSome o (λ found. IsOurs found.object)) (λ _. all.0) (λ _. ours-at more place all.1)

ours-with_put : (found : Option Stored) (version : ℕ) (put : Put) (stored : List Stored) → IfSome found (λ held. IsOurs held.object) → AreOurs stored
    → AreOurs (with_put version put found stored)
ours-with_put None version put stored is all = all
ours-with_put (Some held) version put stored is all = ours-with stored (recorded version put.holding held) (ours-record put.holding held.object is) all

ours-put : (put : Put) (outcome : Outcome) (store : StoreValue) → AreOurs store.objects → AreOurs (after_put put outcome store).objects
ours-put put outcome store all =
    cond_both (is_made put outcome store.objects) _ store.objects AreOurs
    (λ _. ours-with_put (stored_at store.objects (service_at put.key)) _ put store.objects (ours-at store.objects (service_at put.key) all) all)
    (λ _. all)

ours-edited : (edit : Edit) (store : StoreValue) → EditSets IsOurs edit → AreOurs store.objects → AreOurs (edited edit store).objects
ours-edited (Set object) store sets all =
    ours-with store.objects (set_as store object) (ours-record (kept_record (stored_at store.objects (place_of object))) object sets.0) all
ours-edited (Reset object) store sets all = ours-with store.objects (reset_as store object) sets.1 all
ours-edited (Delete kind key) store sets all = ours-without store.objects (kind, key) all

-- ---- worlds

abbrev OursIn : WorldValue → Type 0
OursIn w = AreOurs w.store.objects

ours-take : (group : ListGroup) (w : WorldValue) → OursIn w → OursIn (after_take group w)
ours-take groups.Config w all = all
ours-take groups.Service w all = all
ours-take groups.Endpoint w all = all

ours-turned : (s : State) (put : Option Put) (outcome : Outcome) (w : WorldValue) → OursIn w → OursIn (turned s put outcome w)
ours-turned s None outcome w all = all
ours-turned s (Some put) outcome w all = ours-put put outcome w.store all

ours-turn : (core : Option State) (outcome : Outcome) (w : WorldValue) → OursIn w → OursIn (after_turning core outcome w)
ours-turn None outcome w all = all
ours-turn (Some s) outcome w all = ours-turned (after_turn s) (put_in (core_turn s)) outcome w all

ours-reached : (put : Option Put) (applied : Bool) (store : StoreValue) → AreOurs store.objects → AreOurs (reached put applied store).objects
ours-reached None applied store all = all
ours-reached (Some put) applied store all = ours-put put (Lost applied) store all

ours-restart : (order : ListOrder) (core : Option State) (w : WorldValue) → OursIn w → OursIn (restarted order core w)
ours-restart order None w all = all
ours-restart order (Some s) w all = all

ours-step : (step : Step) (w : WorldValue) → Sets IsOurs step → OursIn w → OursIn (world_step step w)
ours-step (Edits edit) w sets all = ours-edited edit w.store sets all
ours-step (Take group) w sets all = ours-take group w all
ours-step (Turn outcome) w sets all = ours-turn w.core outcome w all
ours-step (Crash applied) w sets all = ours-reached (next_put w.core) applied w.store all
ours-step (Restart order) w sets all = ours-restart order w.core w all
ours-step (Expire group order) w sets all = all

ours-service : (y z : ℕ) → y < 48 → IsOurs (objects.Service (service_of y z))
unfolding service_of
ours-service y z few = (y, few, refl)

ours-after : (step : Option Step) (w : WorldValue) → IfSome step (Sets IsOurs) → OursIn w → OursIn (after step w)
ours-after None w sets all = all
ours-after (Some step) w sets all = cond_both (is_made_in step w) (world_step step w) w OursIn (λ _. ours-step step w sets all) (λ _. all)

ours-draw : (x : ℕ) (w : WorldValue) → OursIn w → OursIn (after_draw x w)
unfolding after_draw
ours-draw x w all = ours-after (step_in x w) w (step-sets IsOurs ours-service x (is_some w.core)) all

ours-draws : (xs : List ℕ) (w : WorldValue) → OursIn w → OursIn (after_draws xs w)
ours-draws [] w all = all
ours-draws (x ∷ xs) w all = ours-draws xs (after_draw x w) (ours-draw x w all)

ours-first : OursIn first_world
unfolding first_world
ours-first = (tt, (tt, tt))

-- ---- lines

numbered_by : (object : Object) (rest : List (Key × List AddressValue)) → IsOurs object → AllByRecursion IsNumbered (keys_in rest)
    → AllByRecursion IsNumbered (keys_in (line_in object ++ rest))
numbered_by (objects.Service service) rest is all = (is, all)
numbered_by (objects.Pool pool) rest is all = all
numbered_by (objects.L2 adv) rest is all = all
numbered_by (objects.Bgp adv) rest is all = all
numbered_by (objects.Peer peer) rest is all = all
numbered_by (objects.Community community) rest is all = all
numbered_by (objects.Namespace namespace) rest is all = all
numbered_by (objects.Node node) rest is all = all
numbered_by (objects.Slice slice) rest is all = all

numbered-lines : (stored : List Stored) → AreOurs stored → AllByRecursion IsNumbered (keys_in (lines_in stored))
numbered-lines [] all = tt
numbered-lines (held ∷ more) all = numbered_by held.object (lines_in more) all.0 (numbered-lines more all.1)

pub trial-numbered : (seed n : ℕ) → AllByRecursion IsNumbered (keys_in (lines_in (trial_world seed n).store.objects))
trial-numbered seed n = numbered-lines (trial_world seed n).store.objects (ours-draws (draws seed n) first_world ours-first)
