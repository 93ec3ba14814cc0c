-- Stores whose records have no mark, or no address, are good.
use Rattle.std.proofs.Common.{◌≡◌, false, List, [], ◌∷◌, refl, sym, subst, ◌∙◌}
use Rattle.std.proofs.lemmas.Bool.{true≢false}
use Rattle.std.specs.List.{AllByRecursion}
use Rattle.kube_model.specs.declared.object.Object.{Object}
use Rattle.kube_model.specs.declared.object.Object.TheVariants as objects
use Rattle.status_store.specs.Changes.{StoreValue, empty_store, record_of, with_record}
use Rattle.world_rules.specs.Good.{IsGoodStore}
use Rattle.world_rules.specs.Tracked.{is_given}
use Rattle.world_rules.specs.World.{records_store, with_object}
use Rattle.world_rules.proofs.Storing.{good-store_of, good-set_store, set_store}

own-record : (object : Object) → with_record (record_of object) object ≡ object
own-record (objects.Service service) = refl
own-record (objects.Pool pool) = refl
own-record (objects.L2 adv) = refl
own-record (objects.Bgp adv) = refl
own-record (objects.Peer peer) = refl
own-record (objects.Community community) = refl
own-record (objects.Namespace namespace) = refl
own-record (objects.Node node) = refl
own-record (objects.Slice slice) = refl

good-more : (held : List Object) (store : StoreValue) → AllByRecursion (λ object. is_given (record_of object) ≡ false) held → IsGoodStore store
    → IsGoodStore (records_store held store)
good-more [] store all good = good
good-more (object ∷ more) store all good =
    let set : IsGoodStore (set_store object (record_of object) store) =
    good-set_store object (record_of object) store (λ has. absurd (true≢false (sym has ∙ all.0))) good in
    good-more more (with_object object store) all.1
    (subst (λ (o : Object). IsGoodStore (with_object o store)) (own-record object) set)

pub good-records : (held : List Object) → AllByRecursion (λ object. is_given (record_of object) ≡ false) held → IsGoodStore (records_store held empty_store)
good-records held all = good-more held empty_store all (good-store_of [])
