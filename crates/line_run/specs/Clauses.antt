-- What a run owes at each status: one definition for each clause of a call that runs a machine.
use Rattle.std.specs.Prelude.{◌≡◌, ℕ, ◌+◌, ◌^◌, ⊤, Option, List, ◌⊎◌}
use Rattle.std.specs.Io.KnownBytes.{IsAtEnd}
use Rattle.kube_model.specs.declared.put.Put.{Put}
use Rattle.kube_model.specs.declared.status.LaneName.{LaneName}
use Rattle.kube_model.specs.declared.status.LaneName.TheVariants as lanes
use Rattle.kube_model.specs.declared.status.What.{What}
use Rattle.kube_model.specs.declared.status.What.TheVariants.{Line, Input, Services, Nodes}
use Rattle.kube_model.specs.declared.status.Status.{Status}
use Rattle.kube_model.specs.declared.status.Status.TheVariants.{Done, Usage, OpenFault, ReadFault, WriteFault, BadLine, BadReply, NoReply, Limit, NoMemory}
use Rattle.mlb_edge.specs.Causes.{Rose}
use Rattle.line_run.specs.Explains.{StopsFor, IsStatusOf}
use Rattle.line_run.specs.Machine.{Rules}
use Rattle.line_run.specs.Statuses.{IsEndStatus, IsHeld, IsFault}
use Rattle.line_run.specs.RunOutput.{StopsAs, WritesInPart, WritesUpTo, WritesRead, WritesOnly, IsReadable}

-- an end of the input was an end of the source
abbrev pub AtEnd : Status → Option (List ℕ) → Type 0
AtEnd status left' = IsEndStatus status → IsAtEnd left'

-- the limit that is told is one of what has a limit here
abbrev pub CanPass : (Status → Type 0) → What → ℕ → Type 0
CanPass cause Line count = count ≡ 1048577
CanPass cause Input count = count ≡ 2 ^ 40 + 1
CanPass cause Services count = cause (Limit Services count)
CanPass cause Nodes count = cause (Limit Nodes count)

-- A run may end so: with a status of the machine's, for its cause, or with one that any run may have. It opens no file, and
-- knows no lane but the input.
abbrev pub CanEnd : (Status → Type 0) → Status → Type 0
CanEnd cause Done = cause Done
CanEnd cause Usage = ⊥
CanEnd cause (OpenFault lane) = ⊥
CanEnd cause (ReadFault lane) = lane ≡ lanes.Input
CanEnd cause WriteFault = ⊤
CanEnd cause (BadLine lane number bytes) = (lane ≡ lanes.Input) × cause (BadLine lane number bytes)
CanEnd cause (BadReply number bytes) = cause (BadReply number bytes)
CanEnd cause (NoReply put) = cause (NoReply put)
CanEnd cause (Limit what count) = CanPass cause what count
CanEnd cause NoMemory = ⊤

module _ {S E : Type 0} (rules : Rules S E) (cause : Status → Type 0) (s : S) (status : Status) (left before after : Option (List ℕ)) where
  abbrev pub AtDone : Type 0
  AtDone = status ≡ Done → StopsFor rules cause s left before after status

  abbrev pub AtBadLine : Type 0
  AtBadLine = (lane : LaneName) (number : ℕ) (bytes : List ℕ) → status ≡ BadLine lane number bytes
      → (lane ≡ lanes.Input) × StopsFor rules cause s left before after status

  abbrev pub AtBadReply : Type 0
  AtBadReply = (number : ℕ) (bytes : List ℕ) → status ≡ BadReply number bytes → StopsFor rules cause s left before after status

  abbrev pub AtNoReply : Type 0
  AtNoReply = (put : Put) → status ≡ NoReply put → StopsFor rules cause s left before after status

  -- more is held than the machine may hold
  abbrev pub AtHeldLimit : Type 0
  AtHeldLimit = (what : What) (count : ℕ) → IsHeld what → status ≡ Limit what count → StopsFor rules cause s left before after status

module _ {S E : Type 0} (rules : Rules S E) (s : S) (status : Status) (left before after : Option (List ℕ)) where
  abbrev pub AtLineLimit : Type 0
  AtLineLimit = (count : ℕ) → status ≡ Limit Line count → (count ≡ 1048577) × StopsAs rules s left before after status

  abbrev pub AtInputLimit : Type 0
  AtInputLimit = (count : ℕ) → status ≡ Limit Input count → (count ≡ 2 ^ 40 + 1) × StopsAs rules s left before after status

  abbrev pub AtNoMemory : Type 0
  AtNoMemory = status ≡ NoMemory → WritesUpTo rules s left before after

  -- a beginning of the text, and not the whole
  abbrev pub AfterWrite : Type 0
  AfterWrite = status ≡ WriteFault → WritesInPart rules s left before after

-- the text of the lines that were read whole
abbrev pub AfterRead : {S E : Type 0} → Rules S E → S → Status → (left left' before after : Option (List ℕ)) → Type 0
AfterRead rules s status left left' before after = (lane : LaneName) → status ≡ ReadFault lane → WritesRead rules s left left' before after

-- a fault comes only where its count rose
abbrev pub AtReadFault : Status → (reads reads' : ℕ) → Type 0
AtReadFault status reads reads' = (lane : LaneName) → status ≡ ReadFault lane → (lane ≡ lanes.Input) × Rose reads reads'

abbrev pub AtWriteFault : Status → (writes writes' : ℕ) → Type 0
AtWriteFault status writes writes' = status ≡ WriteFault → Rose writes writes'

-- the status is that of the lines, but for a fault and running out of memory
abbrev pub IsExact : {S E : Type 0} → Rules S E → S → Status → Option (List ℕ) → Type 0
IsExact rules s status left = IsStatusOf rules s left status ⊎ IsFault status

-- where all can be driven the run is done, but for a fault and running out of memory
abbrev pub IsComplete : {S E : Type 0} → Rules S E → S → Status → Option (List ℕ) → Type 0
IsComplete rules s status left = IsReadable rules s left → (status ≡ Done) ⊎ IsFault status

-- What a run over a stream owes, however it ends.
module _ {S E : Type 0} (rules : Rules S E) (cause : Status → Type 0) (s : S) (status : Status) (left left' before after : Option (List ℕ)) where
  pub record RunOwes : Type 0 where
    -- at the end of the input: nothing of it is left, and just the text of its run was written
    pub done : AtDone rules cause s status left before after
    pub no_reply : AtNoReply rules cause s status left before after
    pub at_end : AtEnd status left'
    -- a line that ends the run, and just the text of the run before it was written
    pub bad_line : AtBadLine rules cause s status left before after
    pub bad_reply : AtBadReply rules cause s status left before after
    pub held_limit : AtHeldLimit rules cause s status left before after
    pub line_limit : AtLineLimit rules s status left before after
    pub input_limit : AtInputLimit rules s status left before after
    -- after a failed read the text of the lines that were read whole; after a failed write a beginning of the text, and not the whole
    pub read : AfterRead rules s status left left' before after
    pub part : AfterWrite rules s status left before after
    pub no_memory : AtNoMemory rules s status left before after
    -- over any input at all a beginning of the text of its lines' run
    pub only : WritesOnly rules s left before after
    -- but for a fault or running out of memory the status is that of the lines; and where all can be driven, the run is done
    pub exact : IsExact rules s status left
    pub complete : IsComplete rules s status left
