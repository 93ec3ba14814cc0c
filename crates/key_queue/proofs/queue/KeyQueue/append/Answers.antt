use Rattle.std.proofs.Common.{[], ◌∙◌, ap, sym, subst, take}
use Rattle.std.proofs.lemmas.List.{append-nil, nil_from_length}
use Rattle.std.specs.Vec.Iter.{into_iter_items}
use Rattle.key_queue.specs.Queue.{queued_all}
use Rattle.key_queue.proofs.QueueLaws.{Begins, begun-queued, take-begun}
use Rattle.key_queue.proofs.queue.KeyQueue.append.Goals as goal

pub loop-key-preserved : goal.loop-key-preserved
loop-key-preserved g c =
    let eq = g.K.PartialEq.eq in
    record {
      whole = ap (λ s. queued_all eq s (into_iter_items c.next.new.self)) c.in-Ok.ensures.ok
          ∙ (ap (queued_all eq c.loop-key.self) (sym c.in-Some.ensures.steps.0) ∙ c.loop-key.invariant.whole);
      begins = subst (Begins c.args.self.now) (sym c.in-Ok.ensures.ok)
          (begun-queued eq c.args.self.now c.loop-key.self c.in-Some.key c.loop-key.invariant.begins);
    }

pub returns-in-Err-clause-err : goal.returns-in-Err-clause-err
returns-in-Err-clause-err g c =
    c.truncate.ensures ∙ ap (take c.len-len.result) c.in-Err.ensures.err ∙ ap (λ n. take n c.loop-key.self) c.len-len.ensures
    ∙ take-begun c.args.self.now c.loop-key.self c.loop-key.invariant.begins

pub returns-in-Err-clause-ok : goal.returns-in-Err-clause-ok
returns-in-Err-clause-ok g c = tt

-- none is left to come
pub returns-clause-ok : goal.returns-clause-ok
returns-clause-ok g c =
    sym (ap (queued_all g.K.PartialEq.eq c.loop-key.self) (nil_from_length _ (sym c.loop-key.key-iterator.rest.ok.0 ∙ c.in-None.ensures.steps.0)))
    ∙ c.loop-key.invariant.whole

pub returns-clause-err : goal.returns-clause-err
returns-clause-err g c = tt

pub loop-key-init : goal.loop-key-init
loop-key-init g c = record {
  whole = ap (queued_all g.K.PartialEq.eq c.args.self.now) c.into_iter-key-iterator.ensures.into_iter_gives.0;
  begins = ([], sym (append-nil c.args.self.now));
}
