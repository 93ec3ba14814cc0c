use Rattle.std.proofs.Common.{◌≡◌, sym, ap, subst, ◌∙◌}
use Rattle.std.proofs.lemmas.Result.{on_ok_weaker}
use Rattle.kube_model.specs.declared.object.Object.{Object}
use Rattle.kube_model.specs.declared.record.Record.{Record}
use Rattle.kube_model.specs.Records.{empty_record}
use Rattle.status_store.specs.declared.change.Edit.TheVariants.{Set, Reset}
use Rattle.status_store.specs.Places.{Place, place_of}
use Rattle.status_store.specs.Objects.{IsGapFor}
use Rattle.status_store.specs.Changes.{StoreValue, edited, with_record}
use Rattle.status_store.proofs.ChangeLaws.{set-gap, place_of-with_record}
use Rattle.status_store.proofs.store.Store.insert.Goals as goal

pub insert_whole-requires-clause-absent : goal.insert_whole-requires-clause-absent
insert_whole-requires-clause-absent c =
    subst (λ (place : Place). IsGapFor c.args.self.now.objects place c.args.at)
    (sym (ap place_of c.set_record.ensures ∙ place_of-with_record c.empty.result c.args.object)) c.requires.absent

pub returns-clause-store : goal.returns-clause-store
returns-clause-store c =
    let s : StoreValue = c.args.self.now in
    let object : c.set_record.new.object ≡ with_record empty_record c.args.object =
    c.set_record.ensures ∙ ap (λ (r : Record). with_record r c.args.object) c.empty.ensures in
    let is : edited (Reset c.set_record.new.object) s ≡ edited (Set c.args.object) s =
    ap (λ (o : Object). edited (Reset o) s) object ∙ sym (set-gap s c.args.object c.args.at c.requires.absent) in
    on_ok_weaker c.insert_whole.result (λ (e : c.insert_whole.new.self ≡ edited (Reset c.set_record.new.object) s). e ∙ is) c.insert_whole.ensures.store
