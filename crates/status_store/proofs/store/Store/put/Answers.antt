use Rattle.std.proofs.Common.{◌≡◌, ◌+◌}
use Rattle.status_store.specs.Places.{service_at}
use Rattle.status_store.specs.Objects.{SameElsewhere}
use Rattle.status_store.specs.Changes.{StoreValue, IsMade, RecordsPut}
use Rattle.status_store.proofs.PutLaws.{put-facts}
use Rattle.status_store.proofs.Results.{if_ok-same, on_ok-same}
use Rattle.status_store.proofs.store.Store.put.Goals as goal

pub returns-clause-missing : goal.returns-clause-missing
returns-clause-missing c =
    let facts = put-facts c.args.self.now c.args.put.now c.args.outcome c.put_exactly.ensures.kept in
    if_ok-same _ _ _ c.put_exactly.ensures.reply facts.missing

pub returns-clause-stale : goal.returns-clause-stale
returns-clause-stale c =
    let facts = put-facts c.args.self.now c.args.put.now c.args.outcome c.put_exactly.ensures.kept in
    if_ok-same _ _ _ c.put_exactly.ensures.reply facts.stale

pub returns-clause-stored : goal.returns-clause-stored
returns-clause-stored c =
    let facts = put-facts c.args.self.now c.args.put.now c.args.outcome c.put_exactly.ensures.kept in
    if_ok-same _ _ _ c.put_exactly.ensures.reply facts.stored

pub returns-clause-recorded : goal.returns-clause-recorded
returns-clause-recorded c =
    let facts = put-facts c.args.self.now c.args.put.now c.args.outcome c.put_exactly.ensures.kept in
    on_ok-same _ _ _ (λ (new : StoreValue). IsMade c.args.put.now c.args.outcome c.args.self.now.objects → RecordsPut c.args.put.now c.args.self.now new)
    c.put_exactly.ensures.store facts.recorded

pub returns-clause-counter : goal.returns-clause-counter
returns-clause-counter c =
    let facts = put-facts c.args.self.now c.args.put.now c.args.outcome c.put_exactly.ensures.kept in
    on_ok-same _ _ _ (λ (new : StoreValue). IsMade c.args.put.now c.args.outcome c.args.self.now.objects → new.counter ≡ c.args.self.now.counter + 1)
    c.put_exactly.ensures.store facts.counter

pub returns-clause-others : goal.returns-clause-others
returns-clause-others c =
    let facts = put-facts c.args.self.now c.args.put.now c.args.outcome c.put_exactly.ensures.kept in
    on_ok-same _ _ _ (λ (new : StoreValue). SameElsewhere (service_at c.args.put.now.key) c.args.self.now.objects new.objects) c.put_exactly.ensures.store
    facts.others

pub returns-clause-unchanged : goal.returns-clause-unchanged
returns-clause-unchanged c =
    let facts = put-facts c.args.self.now c.args.put.now c.args.outcome c.put_exactly.ensures.kept in
    on_ok-same _ _ _ (λ (new : StoreValue). ¬ (IsMade c.args.put.now c.args.outcome c.args.self.now.objects) → new ≡ c.args.self.now)
    c.put_exactly.ensures.store facts.unchanged
