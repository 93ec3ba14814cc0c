use Rattle.std.proofs.Common.{◌≡◌, map}
use Rattle.kube_events.specs.Wanted.{spelled_all}
use Rattle.kube_events.proofs.AskedParts.{with_front, parts_after}
use Rattle.kube_events.proofs.wanted.spelled_all.Given as goal

abbrev pub invariant-loop-part : goal.invariant-loop-part
invariant-loop-part l = with_front l.addresses (spelled_all (parts_after l.part-index l.parts)) ≡ spelled_all (map (λ part. part.now) l.parts)
