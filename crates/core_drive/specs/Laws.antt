-- What holds of every drive.
use Rattle.std.specs.Prelude.{◌≡◌, ℕ, true, List, [], ◌++◌, None, Option, is_some}
use Rattle.kube_model.specs.declared.event.Event.{Event}
use Rattle.kube_model.specs.declared.event.ListGroup.{ListGroup}
use Rattle.kube_model.specs.declared.reply.PutReply.{PutReply}
use Rattle.core_rules.specs.Core.{State, fresh}
use Rattle.core_laws.specs.QuietShown.{IsQuietAsShown}
use Rattle.core_drive.specs.Drive.{TranscriptEntry, behind, taking, expiring, hearing}
use Rattle.core_drive.specs.Settled.{AllHaveTheirOwn}
use Rattle.core_drive.specs.Sound.{IsSound, LeadsTo, ShowsTerms, ShowsFamilies}

-- nothing was told before anything arrives
abbrev pub BeginsFresh : Type 0
BeginsFresh = (class : Option (List ℕ)) → LeadsTo class [] (fresh class)

-- an event goes on from what was told, where no put is in flight
abbrev pub EventsGoOn : Type 0
EventsGoOn =
    (class : Option (List ℕ)) (told : List TranscriptEntry) (s : State) (event : Event) → LeadsTo class told s → s.out ≡ None → ShowsTerms event
    → ShowsFamilies event
    → LeadsTo class (told ++ (taking s event).entries) (taking s event).core

-- and so does the end of one list's watch
abbrev pub ExpiriesGoOn : Type 0
ExpiriesGoOn =
    (class : Option (List ℕ)) (told : List TranscriptEntry) (s : State) (group : ListGroup) → LeadsTo class told s → s.out ≡ None
    → LeadsTo class (told ++ (expiring s group).entries) (expiring s group).core

-- and so does a reply, where one is
abbrev pub RepliesGoOn : Type 0
RepliesGoOn =
    (class : Option (List ℕ)) (told : List TranscriptEntry) (s : State) (reply : PutReply) → LeadsTo class told s → is_some s.out ≡ true
    → LeadsTo class (told ++ (hearing s reply).entries) (hearing s reply).core

-- what was told is sound, and where no put is in flight nothing is left waiting that could be served
abbrev pub DrivesAreSound : Type 0
DrivesAreSound = (class : Option (List ℕ)) (told : List TranscriptEntry) (s : State) → LeadsTo class told s → IsSound class told

abbrev pub DrivesAreQuiet : Type 0
DrivesAreQuiet = (class : Option (List ℕ)) (told : List TranscriptEntry) (s : State) → LeadsTo class told s → s.out ≡ None
    → IsQuietAsShown class (behind told [])

-- and then each settled service has its own: an address where it can have one, and where it can't a reason
abbrev pub DrivesAreSettled : Type 0
DrivesAreSettled = (class : Option (List ℕ)) (told : List TranscriptEntry) (s : State) → LeadsTo class told s → s.out ≡ None
    → AllHaveTheirOwn class (behind told [])
