-- What stands after each status of a run, by the status.
use Rattle.std.specs.Prelude.{◌≡◌, ℕ, ◌+◌, ◌^◌, ⊤, Option, Some, None, List}
use Rattle.std.specs.Io.KnownBytes.{IsAtEnd}
use Rattle.kube_model.specs.declared.status.LaneName.TheVariants as lanes
use Rattle.kube_model.specs.declared.status.What.{What}
use Rattle.kube_model.specs.declared.status.What.TheVariants.{Line, Input, Services, Nodes}
use Rattle.kube_model.specs.declared.status.Status.{Status}
use Rattle.kube_model.specs.declared.status.Status.TheVariants.{Done, Usage, OpenFault, ReadFault, WriteFault, BadLine, BadReply, NoReply, Limit, NoMemory}
use Rattle.mlb_edge.specs.Causes.{Rose}
use Rattle.line_run.specs.Machine.{Rules}
use Rattle.line_run.specs.Run.{run_of}
use Rattle.line_run.specs.RunOutput.{StopsAs, WritesInPart, WritesUpTo, WritesRead}

-- The run stopped with this status, for a cause of the machine's.
pub record StopsFor {S E : Type 0} (rules : Rules S E) (cause : Status → Type 0) (s : S) (left before after : Option (List ℕ)) (status : Status) : Type 0 where
  pub caused : cause status
  pub stops : StopsAs rules s left before after status

-- the run stopped at a limit
abbrev pub LimitStops : {S E : Type 0} → Rules S E → (Status → Type 0) → S → Option (List ℕ) → Option (List ℕ) → Option (List ℕ) → What → ℕ → Type 0
LimitStops rules cause s left before after Line count = (count ≡ 1048577) × StopsAs rules s left before after (Limit Line count)
LimitStops rules cause s left before after Input count = (count ≡ 2 ^ 40 + 1) × StopsAs rules s left before after (Limit Input count)
LimitStops rules cause s left before after Services count = StopsFor rules cause s left before after (Limit Services count)
LimitStops rules cause s left before after Nodes count = StopsFor rules cause s left before after (Limit Nodes count)

abbrev pub Explains : {S E : Type 0} → Rules S E → (Status → Type 0) → S → Status
    → (left left' before after : Option (List ℕ)) (reads reads' writes writes' : ℕ) → Type 0
Explains rules cause s Done left left' before after reads reads' writes writes' = StopsFor rules cause s left before after Done × IsAtEnd left'
Explains rules cause s (NoReply put) left left' before after reads reads' writes writes' =
    StopsFor rules cause s left before after (NoReply put) × IsAtEnd left'
Explains rules cause s (BadLine lane number bytes) left left' before after reads reads' writes writes' =
    (lane ≡ lanes.Input) × StopsFor rules cause s left before after (BadLine lane number bytes)
Explains rules cause s (BadReply number bytes) left left' before after reads reads' writes writes' =
    StopsFor rules cause s left before after (BadReply number bytes)
Explains rules cause s (Limit what count) left left' before after reads reads' writes writes' = LimitStops rules cause s left before after what count
Explains rules cause s (ReadFault lane) left left' before after reads reads' writes writes' =
    (lane ≡ lanes.Input) × WritesRead rules s left left' before after × Rose reads reads'
Explains rules cause s WriteFault left left' before after reads reads' writes writes' = WritesInPart rules s left before after × Rose writes writes'
Explains rules cause s NoMemory left left' before after reads reads' writes writes' = WritesUpTo rules s left before after
Explains rules cause s Usage left left' before after reads reads' writes writes' = ⊥
Explains rules cause s (OpenFault lane) left left' before after reads reads' writes writes' = ⊥

-- the status is that of the run, where the source tells its bytes
abbrev pub IsStatusOf : {S E : Type 0} → Rules S E → S → Option (List ℕ) → Status → Type 0
IsStatusOf rules s None status = ⊤
IsStatusOf rules s (Some bytes) status = status ≡ (run_of rules s bytes).stop
