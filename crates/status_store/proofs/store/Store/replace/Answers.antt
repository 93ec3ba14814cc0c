use Rattle.std.proofs.Common.{◌≡◌, get_or, sym, ap, subst, ◌∙◌}
use Rattle.std.proofs.lemmas.Result.{on_ok_weaker}
use Rattle.kube_model.specs.declared.object.Object.{Object}
use Rattle.kube_model.specs.declared.record.Record.{Record}
use Rattle.status_store.specs.declared.change.Edit.TheVariants.{Set, Reset}
use Rattle.status_store.specs.declared.stored.Stored.{Stored}
use Rattle.status_store.specs.Places.{Place, place_of}
use Rattle.status_store.specs.Objects.{IsAt}
use Rattle.status_store.specs.Changes.{StoreValue, edited, record_of, with_record}
use Rattle.status_store.proofs.ChangeLaws.{set-at, place_of-with_record}
use Rattle.status_store.proofs.store.Store.replace.Goals as goal

pub replace_whole-requires-clause-found : goal.replace_whole-requires-clause-found
replace_whole-requires-clause-found c =
    subst (λ (place : Place). IsAt c.args.self.now.objects place c.args.at)
    (sym (ap place_of c.set_record.ensures ∙ place_of-with_record c.in-Ok.holding c.args.object)) c.requires.found

pub returns-clause-store : goal.returns-clause-store
returns-clause-store c =
    let s : StoreValue = c.args.self.now in
    let held : Stored = c.index-as_slice-at.result in
    let inside : held ≡ get_or c.self.inside.objects c.args.at held = rw c.as_slice.ensures at c.index-as_slice-at.is in
    let same : held ≡ get_or s.objects c.args.at held = inside ∙ ap (λ (v : StoreValue). get_or v.objects c.args.at held) c.self.view_is in
    let own : c.in-Ok.holding ≡ record_of held.object = c.in-Ok.ensures in
    let object : c.set_record.new.object ≡ with_record (record_of (get_or s.objects c.args.at held).object) c.args.object =
    c.set_record.ensures ∙ ap (λ (r : Record). with_record r c.args.object) own ∙ ap (λ (h : Stored). with_record (record_of h.object) c.args.object) same in
    let is : edited (Reset c.set_record.new.object) s ≡ edited (Set c.args.object) s =
    ap (λ (o : Object). edited (Reset o) s) object ∙ sym (set-at s c.args.object c.args.at held c.replace_whole.ensures.kept c.requires.found) in
    on_ok_weaker c.replace_whole.result (λ (e : c.replace_whole.new.self ≡ edited (Reset c.set_record.new.object) s). e ∙ is) c.replace_whole.ensures.store
