-- The services of a store that is in its order stand by key.
use Rattle.std.proofs.Common.{◌≡◌, List, [], ◌∷◌, Less, inl, inr, refl}
use Rattle.std.specs.List.{AllByRecursion}
use Rattle.std.specs.List.Sorted.{IsStrictlySortedBy}
use Rattle.ip_ranges.specs.Values.{AddressValue}
use Rattle.kube_model.specs.declared.key.Key.{Key}
use Rattle.kube_model.specs.declared.object.Object.TheVariants as objects
use Rattle.kube_model.specs.Keys.{key_cmp}
use Rattle.status_store.specs.declared.stored.Stored.{Stored}
use Rattle.status_store.specs.Objects.{IsAscending}
use Rattle.status_store.proofs.ServicesByKey.{GivesOne, AreByKey as StandByKey, by_key}
use Rattle.world_trial.specs.Lines.{line_in, lines_in, keys_in, AreByKey}

one-line : GivesOne (λ (line : Key × List AddressValue). line.0) line_in
one-line (objects.Service service) = inr ((service.key, service.holding.addresses), refl, refl)
one-line (objects.Pool pool) = inl refl
one-line (objects.L2 adv) = inl refl
one-line (objects.Bgp adv) = inl refl
one-line (objects.Peer peer) = inl refl
one-line (objects.Community community) = inl refl
one-line (objects.Namespace namespace) = inl refl
one-line (objects.Node node) = inl refl
one-line (objects.Slice slice) = inl refl

keys-above : (key : Key) (records : List (Key × List AddressValue)) → AllByRecursion (λ (line : Key × List AddressValue). key_cmp key line.0 ≡ Less) records
    → AllByRecursion (λ (other : Key). key_cmp key other ≡ Less) (keys_in records)
keys-above key [] all = tt
keys-above key (line ∷ records) all = (all.0, keys-above key records all.1)

sorted : (records : List (Key × List AddressValue)) → StandByKey (λ (line : Key × List AddressValue). line.0) records → AreByKey records
unfolding IsStrictlySortedBy
sorted [] s = tt
sorted (line ∷ records) s = (keys-above line.0 records s.0, sorted records s.1)

pub lines-by_key : (stored : List Stored) → IsAscending stored → AreByKey (lines_in stored)
lines-by_key stored s = sorted (lines_in stored) (by_key (λ (line : Key × List AddressValue). line.0) line_in one-line stored s)
