-- Stores of objects with their records, and steps that give no unmarked record.
use Rattle.std.proofs.Common.{◌≡◌, ◌⊎◌, inl, inr, ⊎_elim, ◌+◌, Bool, true, false, List, [], ◌∷◌, Option, Some, None, IfSome, refl, sym, ap, subst, ◌∙◌}
use Rattle.std.proofs.lemmas.Bool.{true≢false}
use Rattle.std.specs.List.Sorted.{IsStrictlySortedBy}
use Rattle.kube_model.specs.declared.event.Event.{Event}
use Rattle.kube_model.specs.declared.key.Key.{Key}
use Rattle.kube_model.specs.declared.object.Object.{Object}
use Rattle.kube_model.specs.declared.put.Put.{Put}
use Rattle.kube_model.specs.declared.record.Record.{Record}
use Rattle.kube_model.specs.Records.{is_assigned}
use Rattle.sharing_terms.specs.declared.terms.Terms.{Terms}
use Rattle.sharing_terms.specs.Marked.{IsMarkOf}
use Rattle.status_store.specs.declared.change.Edit.TheVariants.{Delete}
use Rattle.status_store.specs.declared.change.Outcome.{Outcome}
use Rattle.status_store.specs.declared.change.Outcome.TheVariants.{Lost}
use Rattle.status_store.specs.Changes.{StoreValue, IsWellFormed, edited, empty_store, after_put}
use Rattle.status_store.proofs.ChangeLaws.{kept-with_stored}
use Rattle.core_rules.specs.Core.{State}
use Rattle.core_rules.specs.Turn.{core_turn, after_turn, put_in}
use Rattle.world_rules.specs.Moves.{Move, Sets, Deletes, Tells, Takes, Turns, Stops, Starts, ConfigExpires}
use Rattle.world_rules.specs.Moves.{ServicesExpire, EndsLater, Lands, KeepsOrBares, after_move, after_start}
use Rattle.world_rules.specs.Good.{IsGood, IsFollowed}
use Rattle.world_rules.specs.Laws.{RecordsAreGood, UnmarkedStay}
use Rattle.world_rules.specs.World.{WorldValue, with_object, records_store, turned, after_turning, next_put, reached}
use Rattle.world_rules.proofs.Bare.{record_at, record-at, recorded-at, set_store, set-records, delete-records, put-record}
use Rattle.world_rules.proofs.Turns.{put-marked}
use Rattle.world_rules.proofs.Worlds.{steps_keep_good}

-- ---- stores of objects
kept-more : (held : List Object) (store : StoreValue) → IsWellFormed store → IsWellFormed (records_store held store)
kept-more [] store kept = kept
kept-more (object ∷ more) store kept =
    kept-more more (with_object object store) (kept-with_stored store (record { version = store.counter + 1; object = object }) refl kept)

kept-empty : IsWellFormed empty_store
unfolding IsStrictlySortedBy
kept-empty = record { ascending = tt; counted = tt }

pub records_are_good : RecordsAreGood
records_are_good held safe = record { safe = safe; kept = kept-more held empty_store kept-empty }

-- ---- moves
-- each record is as it was, or has no address, or is marked where it has one
abbrev StayUnmarked : (Key → Record) → (Key → Record) → Type 0
StayUnmarked f g = (key : Key) → (g key ≡ f key) ⊎ (is_assigned (g key) ≡ false) ⊎ (is_assigned (g key) ≡ true → (t : Terms) × IsMarkOf t (g key).mark)

same-records : (f : Key → Record) → StayUnmarked f f
same-records f key = inl refl

less-records : (f g : Key → Record) → ((key : Key) → (f key ≡ g key) ⊎ (is_assigned (g key) ≡ false)) → StayUnmarked f g
less-records f g less key = ⊎_elim (λ same. inl (sym same)) (λ bare. inr (inl bare)) (less key)

put_by : (put : Put) (outcome : Outcome) (store : StoreValue) → (is_assigned put.holding ≡ true → (t : Terms) × IsMarkOf t put.holding.mark)
    → StayUnmarked (record_at store) (record_at (after_put put outcome store))
put_by put outcome store marked key =
    ⊎_elim (λ same. inl same)
    (λ new. inr (inr (subst (λ (r : Record). is_assigned r ≡ true → (t : Terms) × IsMarkOf t r.mark) (sym new) marked)))
    (put-record put outcome store key)

turned_by : (found : Option Put) (w : WorldValue) (s : State) (outcome : Outcome) → put_in (core_turn s) ≡ found → IsFollowed w s
    → StayUnmarked (record_at w.store) (record_at (turned (after_turn s) found outcome w).store)
turned_by None w s outcome e up = same-records (record_at w.store)
turned_by (Some put) w s outcome e up = put_by put outcome w.store (put-marked w s put e up)

turning_by : (c : Option State) (w : WorldValue) (outcome : Outcome) → IfSome c (IsFollowed w)
    → StayUnmarked (record_at w.store) (record_at (after_turning c outcome w).store)
turning_by None w outcome up = same-records (record_at w.store)
turning_by (Some s) w outcome up = turned_by (put_in (core_turn s)) w s outcome refl up

reached_by : (found : Option Put) (applied : Bool) (w : WorldValue) (s : State) → put_in (core_turn s) ≡ found → IsFollowed w s
    → StayUnmarked (record_at w.store) (record_at (reached found applied w.store))
reached_by None applied w s e up = same-records (record_at w.store)
reached_by (Some put) applied w s e up = put_by put (Lost applied) w.store (put-marked w s put e up)

crashed_by : (c : Option State) (applied : Bool) (w : WorldValue) → IfSome c (IsFollowed w)
    → StayUnmarked (record_at w.store) (record_at (reached (next_put c) applied w.store))
crashed_by None applied w up = same-records (record_at w.store)
crashed_by (Some s) applied w up = reached_by (put_in (core_turn s)) applied w s refl up

start_by : (c : Option State) (list : List Event) (w : WorldValue) → StayUnmarked (record_at w.store) (record_at (after_start c list w).store)
start_by None list w = same-records (record_at w.store)
start_by (Some s) list w = same-records (record_at w.store)

move-unmarked : (move : Move) (w : WorldValue) → KeepsOrBares move w → IsGood w → StayUnmarked (record_at w.store) (record_at (after_move move w).store)
move-unmarked (Sets object holding) w may good =
    less-records (record_at w.store) (record_at (set_store object holding w.store)) (set-records object holding w.store may)
move-unmarked (Deletes kind gone) w may good =
    less-records (record_at w.store) (record_at (edited (Delete kind gone) w.store)) (delete-records kind gone w.store good.stored.kept)
move-unmarked (Tells event) w may good = same-records (record_at w.store)
move-unmarked Takes w may good = same-records (record_at w.store)
move-unmarked (Turns outcome) w may good = turning_by w.core w outcome good.up
move-unmarked (Stops applied) w may good = crashed_by w.core applied w good.up
move-unmarked (Starts list) w may good = start_by w.core list w
move-unmarked ConfigExpires w may good = same-records (record_at w.store)
move-unmarked (ServicesExpire list) w may good = same-records (record_at w.store)
move-unmarked (EndsLater before event behind) w may good = same-records (record_at w.store)
move-unmarked (Lands put) w may good = absurd may

pub unmarked_stay : UnmarkedStay
unmarked_stay old new move step good keeps key r is unmarked has =
    let store : new.store ≡ (after_move move old).store = ap (λ (w : WorldValue). w.store) step.leads in
    let now : record_at new.store key ≡ r = record-at new.store (steps_keep_good old new move step good).stored.kept key r is in
    let after : record_at (after_move move old).store key ≡ r = ap (λ (s : StoreValue). record_at s key) (sym store) ∙ now in
    ⊎_elim
    (λ same. recorded-at old.store key r (sym same ∙ after) has)
    (λ rest. ⊎_elim
    (λ bare. absurd (true≢false (sym has ∙ ap is_assigned (sym after) ∙ bare)))
    (λ marked. let by = marked (ap is_assigned after ∙ has) in absurd (unmarked by.0 (subst (λ (x : Record). IsMarkOf by.0 x.mark) after by.1)))
    rest)
    (move-unmarked move old keeps good key)
