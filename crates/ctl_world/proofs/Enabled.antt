-- The tests say which steps there are, and which would pass a limit.
use Rattle.std.proofs.Common.{◌≡◌, ◌≢◌, ℕ, Bool, true, false, ◌&&◌, cond, eqb, List, [], ◌∷◌, Option, Some, None, is_some, refl, sym, ap, ◌∙◌}
use Rattle.std.proofs.lemmas.Bool.{true≢false, eqb-true, not-true, and_parts, not-false}
use Rattle.std.specs.Prelude.{IfSome}
use Rattle.mlb_base.specs.Items.{is_nil}
use Rattle.mlb_base.proofs.Bools.{none_from}
use Rattle.mlb_base.proofs.Lists.{Decides-nil}
use Rattle.kube_model.specs.declared.event.ListGroup.{ListGroup}
use Rattle.kube_model.specs.declared.event.ListGroup.TheVariants as groups
use Rattle.kube_model.specs.declared.key.Key.{Key}
use Rattle.kube_model.specs.declared.record.Record.{Record}
use Rattle.kube_model.specs.declared.service.Service.{Service}
use Rattle.kube_model.specs.Keys.{key_cmp}
use Rattle.kube_model.specs.Records.{is_assigned}
use Rattle.versioned_map.specs.Objects.{version_at}
use Rattle.alloc_book.specs.declared.choice.Choice.{Choice}
use Rattle.status_store.specs.declared.change.Edit.{Edit}
use Rattle.status_store.specs.declared.change.Edit.TheVariants.{Set, Reset, Delete}
use Rattle.status_store.specs.Changes.{IsWellFormed, DeletesNothing, record_of}
use Rattle.status_store.proofs.EditLaws.{edit-absent}
use Rattle.core_rules.specs.declared.turn.Turn.TheVariants.{Idle, NoPut, Wants}
use Rattle.core_rules.specs.Core.{State, service_of, has_other}
use Rattle.core_rules.specs.Turn.{wanted_record, reason_in, is_kept, chosen_at, turn_at, turn_of, core_turn}
use Rattle.world_rules.specs.declared.step.Step.{Step}
use Rattle.world_rules.specs.declared.step.Step.TheVariants.{Edit as Edits, Take, Turn as Turns, Crash, Restart, Expire}
use Rattle.world_rules.specs.World.{WorldValue, IsEnabled, IsLimited, HasLane, ResetsBare, lane_of, most_versions}
use Rattle.ctl_world.specs.Steps.{is_enabled, is_used_up, may_edit, has_turn, has_lane}

-- ---- tests

not-both : (a b : Bool) → a && b ≡ false → a ≡ true → b ≡ false
not-both true b e is = e
not-both false b e is = absurd (true≢false (sym is))

is-there : {X : Type 0} (o : Option X) → is_some o ≡ true → o ≢ None
is-there None e = absurd (true≢false (sym e))
is-there (Some x) e = λ none. absurd (cc)

is-filled : {X : Type 0} (xs : List X) → is_nil xs ≡ false → xs ≢ []
is-filled [] e = absurd (true≢false e)
is-filled (x ∷ xs) e = λ none. absurd (cc)

-- ---- turns

not-idle_by : (b : Bool) (key : Key) (version : ℕ) (held : Record) (choice : Choice)
    → cond b (NoPut key (reason_in choice)) (Wants (record { key = key; version = version; holding = wanted_record held choice }) (reason_in choice)) ≢ Idle
not-idle_by true key version held choice = λ e. absurd (cc)
not-idle_by false key version held choice = λ e. absurd (cc)

not-idle_at : (s : State) (key : Key) (found : Option Service) → turn_at s key found ≢ Idle
not-idle_at s key None = λ e. absurd (cc)
not-idle_at s key (Some service) = not-idle_by (is_kept service.holding (has_other service s.claims) (chosen_at s service)) key
    (version_at key_cmp s.held.services key) service.holding (chosen_at s service)

not-idle : (s : State) (queue : List Key) → is_nil queue ≡ false → turn_of s queue ≢ Idle
not-idle s [] e = absurd (true≢false e)
not-idle s (key ∷ keys) e = not-idle_at s key (service_of s.held key)

idle : (s : State) (queue : List Key) → is_nil queue ≡ true → turn_of s queue ≡ Idle
idle s [] e = refl
idle s (key ∷ keys) e = absurd (true≢false (sym e))

turns-there : (core : Option State) → has_turn core ≡ true → (core ≢ None) × IfSome core (λ s. core_turn s ≢ Idle)
turns-there None e = absurd (true≢false (sym e))
turns-there (Some s) e = (λ none. absurd (cc), not-idle s s.queue (not-true (is_nil s.queue) e))

no-turns : (core : Option State) → has_turn core ≡ false → IfSome core (λ s. core_turn s ≢ Idle) → core ≡ None
no-turns None e turns = refl
no-turns (Some s) e turns = absurd (turns (idle s s.queue (not-false (is_nil s.queue) e)))

-- ---- lanes

lanes-there : (group : ListGroup) → has_lane group ≡ true → HasLane group
lanes-there groups.Config e = λ other. absurd (cc)
lanes-there groups.Service e = λ other. absurd (cc)
lanes-there groups.Endpoint e = absurd (true≢false (sym e))

no-lanes : (group : ListGroup) → has_lane group ≡ false → group ≡ groups.Endpoint
no-lanes groups.Config e = absurd (true≢false e)
no-lanes groups.Service e = absurd (true≢false e)
no-lanes groups.Endpoint e = refl

-- ---- edits

edits-there : (edit : Edit) (w : WorldValue) → IsWellFormed w.store → may_edit edit w.store ≡ true → ¬ (DeletesNothing edit w.store.objects) × ResetsBare edit
edits-there (Set object) w kept e = (λ nothing. nothing, tt)
edits-there (Reset object) w kept e = (λ nothing. nothing, not-true (is_assigned (record_of object)) e)
edits-there (Delete kind key) w kept e = (λ nothing. true≢false (sym e ∙ (edit-absent (Delete kind key) w.store kept).1 nothing), tt)

no-edits : (edit : Edit) (w : WorldValue) → IsWellFormed w.store → may_edit edit w.store ≡ false → ¬ (¬ (DeletesNothing edit w.store.objects) × ResetsBare edit)
no-edits (Set object) w kept e = absurd (true≢false e)
no-edits (Reset object) w kept e = λ is. true≢false (sym (not-false (is_assigned (record_of object)) e) ∙ is.1)
no-edits (Delete kind key) w kept e = λ is. is.0 ((edit-absent (Delete kind key) w.store kept).0 e)

-- ---- steps

pub enabled : (step : Step) (w : WorldValue) → IsWellFormed w.store → is_enabled step w ≡ true → IsEnabled step w
enabled (Edits edit) w kept e = edits-there edit w kept e
enabled (Take group) w kept e =
    let parts = and_parts (is_some w.core) _ e in
    (is-there w.core parts.0, is-filled (lane_of group w) (not-true (is_nil (lane_of group w)) parts.1))
enabled (Turns outcome) w kept e = turns-there w.core e
enabled (Crash applied) w kept e = is-there w.core e
enabled (Restart order) w kept e = none_from w.core (not-true (is_some w.core) e)
enabled (Expire group order) w kept e =
    let parts = and_parts (is_some w.core) (has_lane group) e in
    (is-there w.core parts.0, lanes-there group parts.1)

up : {X : Type 0} (o : Option X) → o ≢ None → is_some o ≡ true
up None is = absurd (is refl)
up (Some x) is = refl

down-then : {X : Type 0} (o : Option X) (b : Bool) → is_some o && b ≡ false → o ≢ None → b ≡ false
down-then o b e is = not-both (is_some o) b e (up o is)

pub disabled : (step : Step) (w : WorldValue) → IsWellFormed w.store → is_enabled step w ≡ false → ¬ (IsEnabled step w)
disabled (Edits edit) w kept e = no-edits edit w kept e
disabled (Take group) w kept e = λ is. is.1 ((Decides-nil (lane_of group w)).0 (not-false (is_nil (lane_of group w)) (down-then w.core _ e is.0)))
disabled (Turns outcome) w kept e = λ is. is.0 (no-turns w.core e is.1)
disabled (Crash applied) w kept e = λ is. is (none_from w.core e)
disabled (Restart order) w kept e = λ is. true≢false (sym (not-false (is_some w.core) e) ∙ ap is_some is)
disabled (Expire group order) w kept e = λ is. is.1 (no-lanes group (down-then w.core (has_lane group) e is.0))

-- ---- limits

pub used-up : (step : Step) (w : WorldValue) → is_used_up step w ≡ true → IsLimited step w
used-up (Edits edit) w e = eqb-true w.store.counter most_versions e
used-up (Take group) w e = absurd (true≢false (sym e))
used-up (Turns outcome) w e = eqb-true w.store.counter most_versions e
used-up (Crash applied) w e = let parts = and_parts applied (eqb w.store.counter most_versions) e in (parts.0, eqb-true w.store.counter most_versions parts.1)
used-up (Restart order) w e = absurd (true≢false (sym e))
used-up (Expire group order) w e = absurd (true≢false (sym e))
