-- No wrong step is one of a cluster.
use Rattle.std.proofs.Common.{⊎_elim, sym, ◌∙◌}
use Rattle.std.proofs.lemmas.Bool.{true≢false}
use Rattle.fence_rules.specs.Refused.{WrongStepsAreRefused}

pub wrong_steps_are_refused : WrongStepsAreRefused
wrong_steps_are_refused c i = record {
  unnamed = λ put no may. no may.named;
  not_holding = λ put no may. no may.own;
  beside_a_request = λ put no may. no may.quiet;
  sent_again = λ put no may. no may.free;
  stale_once_sent = λ move no may. no may.free;
  owed_dropped = λ named put has left unnamed other may. ⊎_elim other (λ o. ⊎_elim left unnamed (o.2 put has)) may.names;
  listed_while_owed = λ list put has left may. left (may.listed put has);
  blind_put = λ put no may. true≢false (sym may.1 ∙ no);
  blind_lease = λ ask version no may. no may.1;
  two_requests = λ named no may. no may.quiet;
  names_dropped = λ named down no may. ⊎_elim no (λ o. o.1 down) may.names;
  goes_on = λ named up no may. ⊎_elim up no may.own;
  unfenced = λ list no may. no may.fenced;
  started_again = λ list up may. up may.down;
}
