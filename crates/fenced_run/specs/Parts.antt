-- The parts of a transcript: the core's, the fence's, and how the two are linked.
use Rattle.std.specs.Prelude.{◌≡◌, List, [], ◌∷◌, Option, Some, None, ⊤}
use Rattle.std.specs.List.{flat_map}
use Rattle.kube_model.specs.declared.put.Put.{Put}
use Rattle.kube_model.specs.declared.reply.PutReply.{PutReply}
use Rattle.core_drive.specs.Drive.{TranscriptEntry as CoreEntry}
use Rattle.core_drive.specs.Drive.{Took, ListExpired, Turned, Heard}
use Rattle.core_rules.specs.Turn.{put_in}
use Rattle.put_fence.specs.declared.answer.Input.{Input}
use Rattle.put_fence.specs.declared.answer.Input.TheVariants as inputs
use Rattle.put_fence.specs.declared.fence.Fence.{Fence}
use Rattle.put_fence.specs.Fences.{taken}
use Rattle.fenced_run.specs.Drive.{TranscriptEntry, OfCore, Told, given_in}

-- ---- the parts of a transcript

abbrev pub core_entry : TranscriptEntry → List CoreEntry
core_entry (OfCore entry) = entry ∷ []
core_entry (Told input t) = []

-- the core's part
abbrev pub core_part : List TranscriptEntry → List CoreEntry
core_part told = flat_map core_entry told

abbrev pub input_entry : TranscriptEntry → List Input
input_entry (OfCore entry) = []
input_entry (Told input t) = input ∷ []

-- what the fence was told
abbrev pub inputs_in : List TranscriptEntry → List Input
inputs_in told = flat_map input_entry told

-- ---- the fence's part

-- What the fence came to each time is what a fence comes to that is told this, from the first fence on.
abbrev pub AreFolded : Fence → List TranscriptEntry → Type 0
AreFolded f [] = ⊤
AreFolded f (OfCore entry ∷ more) = AreFolded f more
AreFolded f (Told input t ∷ more) = (t ≡ taken input f) × AreFolded t.fence more

-- the fence after all of it
abbrev pub fence_after : Fence → List TranscriptEntry → Fence
fence_after f [] = f
fence_after f (OfCore entry ∷ more) = fence_after f more
fence_after f (Told input t ∷ more) = fence_after t.fence more

-- ---- both together

-- what stands right before an entry, if anything does
abbrev pub Before : Type 0
Before = Option TranscriptEntry

abbrev pub put_of_core : CoreEntry → Option Put
put_of_core (Took event note) = None
put_of_core (ListExpired group) = None
put_of_core (Turned turn) = put_in turn
put_of_core (Heard reply) = None

-- the put that the core wants there
abbrev pub wanted_there : Before → Option Put
wanted_there None = None
wanted_there (Some (OfCore entry)) = put_of_core entry
wanted_there (Some (Told input t)) = None

-- the reply that the fence gives there
abbrev pub given_there : Before → Option PutReply
given_there None = None
given_there (Some (OfCore entry)) = None
given_there (Some (Told input t)) = given_in t.output

-- where this put is wanted, the fence is told of it
abbrev pub IsToldOf : Option Put → Input → Type 0
IsToldOf None input = ⊤
IsToldOf (Some put) input = input ≡ inputs.Put put

-- what the core hears is what the fence gave right before; and nothing else of the core's stands right after a put that it wants
abbrev pub IsHeard : Before → CoreEntry → Type 0
IsHeard before (Took event note) = wanted_there before ≡ None
IsHeard before (ListExpired group) = wanted_there before ≡ None
IsHeard before (Turned turn) = wanted_there before ≡ None
IsHeard before (Heard reply) = given_there before ≡ Some reply

-- right where the core wants a put the fence is told of it
abbrev pub IsLinked : Before → TranscriptEntry → Type 0
IsLinked before (OfCore entry) = IsHeard before entry
IsLinked before (Told input t) = IsToldOf (wanted_there before) input

abbrev pub AreLinked : Before → List TranscriptEntry → Type 0
AreLinked before [] = ⊤
AreLinked before (entry ∷ more) = IsLinked before entry × AreLinked (Some entry) more
