-- Which faults a run stops with, and where each comes from.
use Rattle.std.proofs.Common.{◌≡◌, ◌≢◌, ◌⊎◌, inl, inr, ℕ, ◌≤◌, List, [], Option, refl, arith}
use Rattle.std.specs.Bool.{⊤}
use Rattle.kube_model.specs.declared.status.LaneName.TheVariants as lanes
use Rattle.kube_model.specs.declared.status.Status.{Status}
use Rattle.kube_model.specs.declared.status.Status.TheVariants.{Done, Usage, OpenFault, ReadFault, WriteFault, BadLine, BadReply, NoReply, Limit, NoMemory}
use Rattle.line_run.specs.declared.halt.Halt.{Halt}
use Rattle.line_run.specs.declared.halt.Halt.TheVariants as halts
use Rattle.line_run.specs.declared.halt.Refusal.{Refusal}
use Rattle.line_run.specs.declared.halt.Refusal.TheVariants.{Stopped, Halted}
use Rattle.line_run.specs.Ended.{status_of_end, status_of_halt, status_of_refusal}
use Rattle.line_run.specs.Ends.{IsLast, Ends}
use Rattle.line_run.specs.Machine.{Stops, Rules}
use Rattle.line_run.specs.Statuses.{IsLineStatus, IsEndStatus}
use Rattle.line_run.specs.Steps.{Refuses, HaltsAt}
use Rattle.mlb_edge.specs.Causes.{Rose}
use Rattle.mlb_edge.specs.declared.lines.Line.{Line}
use Rattle.mlb_edge.specs.declared.lines.LineEnd.{LineEnd}
use Rattle.mlb_edge.specs.declared.lines.LineEnd.TheVariants as reader
use Rattle.mlb_edge.specs.InputLines.{Input}
use Rattle.mlb_edge.specs.Written.{Grows}

-- the run stopped so at a line or a reply: a fault of the input or the output rose, and it is neither done nor a fault of a file
abbrev pub IsIllBy : Status → (reads reads' writes writes' : ℕ) → Type 0
IsIllBy Done reads reads' writes writes' = ⊥
IsIllBy Usage reads reads' writes writes' = ⊥
IsIllBy (OpenFault lane) reads reads' writes writes' = ⊥
IsIllBy (ReadFault lane) reads reads' writes writes' = (lane ≡ lanes.Input) × Rose reads reads'
IsIllBy WriteFault reads reads' writes writes' = Rose writes writes'
IsIllBy (BadLine lane number bytes) reads reads' writes writes' = ⊤
IsIllBy (BadReply number bytes) reads reads' writes writes' = ⊤
IsIllBy (NoReply put) reads reads' writes writes' = ⊤
IsIllBy (Limit what count) reads reads' writes writes' = ⊤
IsIllBy NoMemory reads reads' writes writes' = ⊤

-- a machine stops so at an item or a line
pub line_ill : (status : Status) (reads reads' writes writes' : ℕ) → IsLineStatus status → IsIllBy status reads reads' writes writes'
line_ill Done reads reads' writes writes' is = is
line_ill Usage reads reads' writes writes' is = is
line_ill (OpenFault lane) reads reads' writes writes' is = is
line_ill (ReadFault lane) reads reads' writes writes' is = absurd is
line_ill WriteFault reads reads' writes writes' is = absurd is
line_ill (BadLine lane number bytes) reads reads' writes writes' is = tt
line_ill (BadReply number bytes) reads reads' writes writes' is = tt
line_ill (NoReply put) reads reads' writes writes' is = tt
line_ill (Limit what count) reads reads' writes writes' is = tt
line_ill NoMemory reads reads' writes writes' is = tt

-- and so at the end of the input, unless it is done
pub end_ill : (status : Status) (reads reads' writes writes' : ℕ) → IsEndStatus status → status ≢ Done → IsIllBy status reads reads' writes writes'
end_ill Done reads reads' writes writes' is ill = absurd (ill refl)
end_ill Usage reads reads' writes writes' is ill = is
end_ill (OpenFault lane) reads reads' writes writes' is ill = is
end_ill (ReadFault lane) reads reads' writes writes' is ill = absurd is
end_ill WriteFault reads reads' writes writes' is ill = absurd is
end_ill (BadLine lane number bytes) reads reads' writes writes' is ill = tt
end_ill (BadReply number bytes) reads reads' writes writes' is ill = tt
end_ill (NoReply put) reads reads' writes writes' is ill = tt
end_ill (Limit what count) reads reads' writes writes' is ill = tt
end_ill NoMemory reads reads' writes writes' is ill = tt

-- a text isn't written whole
pub halt_ill : (halt : Halt) (reads reads' writes writes' : ℕ) → (halt ≡ halts.WriteFault → Rose writes writes')
    → IsIllBy (status_of_halt halt) reads reads' writes writes'
halt_ill halts.WriteFault reads reads' writes writes' rose = rose refl
halt_ill halts.NoMemory reads reads' writes writes' rose = tt

-- a line can't be read
reader_ill : (end : LineEnd) (reads reads' writes writes' : ℕ) → (end ≡ reader.ReadFault → Rose reads reads')
    → IsIllBy (status_of_end end) reads reads' writes writes'
reader_ill reader.ReadFault reads reads' writes writes' rose = (refl, rose refl)
reader_ill (reader.LineLimit number) reads reads' writes writes' rose = tt
reader_ill reader.InputLimit reads reads' writes writes' rose = tt
reader_ill reader.NoMemory reads reads' writes writes' rose = tt

-- the counts of before are no greater
pub ill_since : (status : Status) (r reads reads' w writes writes' : ℕ) → r ≤ reads → w ≤ writes → IsIllBy status reads reads' writes writes'
    → IsIllBy status r reads' w writes'
ill_since Done r reads reads' w writes writes' x y ill = ill
ill_since Usage r reads reads' w writes writes' x y ill = ill
ill_since (OpenFault lane) r reads reads' w writes writes' x y ill = ill
ill_since (ReadFault lane) r reads reads' w writes writes' x y ill =
    let rose = ill.1 in
    (ill.0, omega (arith, rose, x))
ill_since WriteFault r reads reads' w writes writes' x y ill = omega (arith, ill, y)
ill_since (BadLine lane number bytes) r reads reads' w writes writes' x y ill = tt
ill_since (BadReply number bytes) r reads reads' w writes writes' x y ill = tt
ill_since (NoReply put) r reads reads' w writes writes' x y ill = tt
ill_since (Limit what count) r reads reads' w writes writes' x y ill = tt
ill_since NoMemory r reads reads' w writes writes' x y ill = tt

module _ {S E : Type 0} (rules : Rules S E) (s : S) (can : (line : Line) (status : Status) → rules.step s line ≡ Stops status → IsLineStatus status) where
  halted_ill : (halt : Halt) (line : Line) (before after : Option (List ℕ)) (reads reads' writes writes' : ℕ)
      → HaltsAt halt rules s line before after writes writes' → IsIllBy (status_of_halt halt) reads reads' writes writes'
  halted_ill halts.WriteFault line before after reads reads' writes writes' b = b.halts.1
  halted_ill halts.NoMemory line before after reads reads' writes writes' b = tt

  refusal_ill : (refusal : Refusal) (line : Line) (before after : Option (List ℕ)) (reads reads' writes writes' : ℕ)
      → Refuses refusal rules s line before after writes writes' → IsIllBy (status_of_refusal refusal) reads reads' writes writes'
  refusal_ill (Stopped status) line before after reads reads' writes writes' r = line_ill status reads reads' writes writes' (can line status r.0)
  refusal_ill (Halted halt) line before after reads reads' writes writes' r = halted_ill halt line before after reads reads' writes writes' r

  -- Where the next line ends the run, no line is left or it is for one of these reasons.
  pub ends_ill : (status : Status) (now next : Option Input) (held' : List ℕ) (left' before after : Option (List ℕ)) (reads reads' writes writes' : ℕ)
      → Ends rules s status now next held' left' before after reads reads' writes writes'
      → (IsLast rules s status now left' × Grows before after []) ⊎ IsIllBy status reads reads' writes writes'
  ends_ill status now next held' left' before after reads reads' writes writes' (inl last) = inl last
  ends_ill status now next held' left' before after reads reads' writes writes' (inr (inl (u, nothing))) =
      let ill : IsIllBy (status_of_end u.end) reads reads' writes writes' = reader_ill u.end reads reads' writes writes' (λ e. (u.failed e).1) in
      inr (rw u.is ill)
  ends_ill status now next held' left' before after reads reads' writes writes' (inr (inr u)) =
      let ill : IsIllBy (status_of_refusal u.refusal) reads reads' writes writes' =
      refusal_ill u.refusal u.line before after reads reads' writes writes' u.refuses in
      inr (rw u.is ill)
