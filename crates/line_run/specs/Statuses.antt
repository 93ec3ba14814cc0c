-- Which statuses a machine may give, and where.
use Rattle.std.specs.Prelude.{◌≡◌, ⊤}
use Rattle.kube_model.specs.declared.status.LaneName.TheVariants as lanes
use Rattle.kube_model.specs.declared.status.What.{What}
use Rattle.kube_model.specs.declared.status.What.TheVariants.{Line, Input, Services, Nodes}
use Rattle.kube_model.specs.declared.status.Status.{Status}
use Rattle.kube_model.specs.declared.status.Status.TheVariants.{Done, Usage, OpenFault, ReadFault, WriteFault, BadLine, BadReply, NoReply, Limit, NoMemory}

-- what a machine may have too many of
abbrev pub IsHeld : What → Type 0
IsHeld Line = ⊥
IsHeld Input = ⊥
IsHeld Services = ⊤
IsHeld Nodes = ⊤

-- a run may stop so at a line
abbrev pub IsLineStatus : Status → Type 0
IsLineStatus Done = ⊥
IsLineStatus Usage = ⊥
IsLineStatus (OpenFault lane) = ⊥
IsLineStatus (ReadFault lane) = ⊥
IsLineStatus WriteFault = ⊥
IsLineStatus (BadLine lane number bytes) = lane ≡ lanes.Input
IsLineStatus (BadReply number bytes) = ⊤
IsLineStatus (NoReply put) = ⊥
IsLineStatus (Limit what count) = IsHeld what
IsLineStatus NoMemory = ⊥

-- a run may stop so at the end of the input
abbrev pub IsEndStatus : Status → Type 0
IsEndStatus Done = ⊤
IsEndStatus Usage = ⊥
IsEndStatus (OpenFault lane) = ⊥
IsEndStatus (ReadFault lane) = ⊥
IsEndStatus WriteFault = ⊥
IsEndStatus (BadLine lane number bytes) = ⊥
IsEndStatus (BadReply number bytes) = ⊥
IsEndStatus (NoReply put) = ⊤
IsEndStatus (Limit what count) = ⊥
IsEndStatus NoMemory = ⊥

-- no line decides it: a fault of the source or the sink, or running out of memory
abbrev pub IsFault : Status → Type 0
IsFault Done = ⊥
IsFault Usage = ⊥
IsFault (OpenFault lane) = ⊥
IsFault (ReadFault lane) = ⊤
IsFault WriteFault = ⊤
IsFault (BadLine lane number bytes) = ⊥
IsFault (BadReply number bytes) = ⊥
IsFault (NoReply put) = ⊥
IsFault (Limit what count) = ⊥
IsFault NoMemory = ⊤
