-- Which keys wait for a newer event, by the look back.
use Rattle.std.specs.Prelude.{◌≡◌, ℕ, Bool, true, false, ◌&&◌, ◌||◌, ◌==◌, not, nat_le, if◌then◌else◌, List, [], ◌∷◌, Option, Some, None}
use Rattle.kube_model.specs.declared.key.Key.{Key}
use Rattle.kube_model.specs.declared.put.Put.{Put}
use Rattle.kube_model.specs.declared.reply.PutReply.{PutReply}
use Rattle.kube_model.specs.declared.reply.PutReply.TheVariants.{Ok as StoredReply, Stale, Missing, Unknown}
use Rattle.kube_model.specs.Keys.{same_key, has_key}
use Rattle.core_rules.specs.declared.turn.Turn.{Turn}
use Rattle.core_rules.specs.declared.turn.Turn.TheVariants.{Idle, NoPut, Wants}
use Rattle.core_rules.specs.Take.{Effect, Shows, Drops, EndsServices, Configures, Expires, Nothing, effect_of}
use Rattle.core_rules.specs.Run.{core_after, TranscriptEntry, Took, Expired, Turned, Heard, IsRun, put_out, version_shown}

abbrev pub awaits_told : Key → Effect → ℕ → Bool → Bool
awaits_told key (Shows version service) shown before = if same_key service.key key && not (nat_le version shown) then false else before
awaits_told key (Drops k) shown before = if same_key k key then false else before
awaits_told key EndsServices shown before = if shown == 0 then false else before
awaits_told key Configures shown before = before
awaits_told key Expires shown before = before
awaits_told key Nothing shown before = before

abbrev pub awaits_heard : Key → Option Put → PutReply → Bool → Bool
awaits_heard key None reply before = before
awaits_heard key (Some put) (StoredReply version) before = before
awaits_heard key (Some put) Stale before = before || same_key put.key key
awaits_heard key (Some put) Missing before = before || same_key put.key key
awaits_heard key (Some put) Unknown before = before

-- The last put of the key that was answered was refused, and since then no newer event was shown, nor was the key deleted.
abbrev pub awaits_shown : Key → List TranscriptEntry → Bool
awaits_shown key [] = false
awaits_shown key (Took event ∷ earlier) = awaits_told key (effect_of event) (version_shown key earlier) (awaits_shown key earlier)
awaits_shown key (Expired group ∷ earlier) = awaits_shown key earlier
awaits_shown key (Turned turn ∷ earlier) = awaits_shown key earlier
awaits_shown key (Heard reply ∷ earlier) = awaits_heard key (put_out earlier) reply (awaits_shown key earlier)

-- the keys that the core keeps as awaiting are those
abbrev pub AwaitingIsShown : Type 0
AwaitingIsShown =
    (class : Option (List ℕ)) (run : List TranscriptEntry) → IsRun class run → (key : Key) → has_key (core_after class run).awaiting key ≡ awaits_shown key run

abbrev pub is_turn_of : Turn → Key → Bool
is_turn_of Idle key = false
is_turn_of (NoPut k pending) key = same_key k key
is_turn_of (Wants put pending) key = same_key put.key key

-- no key is chosen for while it awaits a newer event
abbrev pub TurnsAreOfFreeKeys : Type 0
TurnsAreOfFreeKeys = (class : Option (List ℕ)) (turn : Turn) (earlier : List TranscriptEntry) → IsRun class (Turned turn ∷ earlier) → (key : Key)
    → is_turn_of turn key ≡ true → awaits_shown key earlier ≡ false
