use Rattle.fenced_run.proofs.run.run_started.Goals as goal

pub run_machine-status-requires : goal.run_machine-status-requires
run_machine-status-requires g c = record {
  live = λ i r o name answered. c.requires.live (g.K.Sink.written c.write_given-written.new.out) c.in-Ok.ensures.ok i r o name answered;
}
