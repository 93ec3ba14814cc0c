-- Turns: the front key is taken out of the queue and chosen for.
use Rattle.std.specs.Prelude.{ℕ, Bool, true, false, ◌&&◌, ◌||◌, not, if◌then◌else◌, List, [], ◌∷◌, Option, Some, None}
use Rattle.kube_model.specs.declared.key.Key.{Key}
use Rattle.kube_model.specs.declared.put.Put.{Put}
use Rattle.kube_model.specs.declared.reason.Reason.{Reason}
use Rattle.kube_model.specs.declared.record.Record.{Record}
use Rattle.kube_model.specs.declared.service.Service.{Service}
use Rattle.versioned_map.specs.Objects.{version_at}
use Rattle.kube_model.specs.Keys.{key_cmp}
use Rattle.alloc_book.specs.declared.choice.Choice.{Choice}
use Rattle.alloc_book.specs.declared.choice.Choice.TheVariants.{Foreign, Clear, Pending, Keep, New}
use Rattle.alloc_book.specs.Choose.{choose}
use Rattle.kube_model.specs.Records.{same_record, empty_record}
use Rattle.core_rules.specs.declared.turn.Turn.{Turn}
use Rattle.core_rules.specs.declared.turn.Turn.TheVariants.{Idle, NoPut, Wants}
use Rattle.core_rules.specs.Core.{State, offer_in, service_of, has_other}

-- the record that a choice wants, where this one is held
abbrev pub wanted_record : Record → Choice → Record
wanted_record held Foreign = held
wanted_record held Clear = empty_record
wanted_record held (Pending reason) = empty_record
wanted_record held (Keep holding) = holding
wanted_record held (New holding) = holding

abbrev pub reason_in : Choice → Option Reason
reason_in (Pending reason) = Some reason
reason_in Foreign = None
reason_in Clear = None
reason_in (Keep holding) = None
reason_in (New holding) = None

-- what is chosen for a held service
abbrev pub chosen_at : State → Service → Choice
chosen_at s service = choose s.claims (offer_in s.held service) s.class service

-- the service is of another class
abbrev pub is_foreign : Choice → Bool
is_foreign Foreign = true
is_foreign Clear = false
is_foreign (Pending reason) = false
is_foreign (Keep holding) = false
is_foreign (New holding) = false

-- No put is wanted for a service of another class, nor where the chosen record is the held one and the service has no other claim. Where it
-- has one, of a put whose reply didn't tell whether the record was stored, the chosen record is put once more, which settles what it has.
abbrev pub is_kept : Record → Bool → Choice → Bool
is_kept held other choice = is_foreign choice || (same_record (wanted_record held choice) held && not other)

-- what a choice comes to, where this record is held, and the service has another claim or not
abbrev pub turn_for : Key → ℕ → Record → Bool → Choice → Turn
turn_for key version held other choice = if is_kept held other choice
    then NoPut key (reason_in choice)
    else Wants (record { key = key; version = version; holding = wanted_record held choice }) (reason_in choice)

abbrev pub turn_at : State → Key → Option Service → Turn
turn_at s key None = NoPut key None
turn_at s key (Some service) =
    turn_for key (version_at key_cmp s.held.services key) service.holding (has_other service s.claims) (chosen_at s service)

abbrev pub turn_of : State → List Key → Turn
turn_of s [] = Idle
turn_of s (key ∷ keys) = turn_at s key (service_of s.held key)

-- what the next turn is
abbrev pub core_turn : State → Turn
core_turn s = turn_of s s.queue

abbrev pub put_in : Turn → Option Put
put_in Idle = None
put_in (NoPut key pending) = None
put_in (Wants put pending) = Some put

abbrev pub rest_of : List Key → List Key
rest_of [] = []
rest_of (key ∷ keys) = keys

-- the core after its next turn
abbrev pub after_turn : State → State
after_turn s = record s { queue = rest_of s.queue; out = put_in (core_turn s) }
