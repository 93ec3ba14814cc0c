-- Keys that may be queued as they are.
use Rattle.std.proofs.Common.{◌≡◌, Bool, true, false, ◌||◌, List, [], ◌∷◌, ◌++◌, refl, ◌∙◌}
use Rattle.std.proofs.lemmas.Bool.{true≢false, or_left, or_right}
use Rattle.std.specs.Cmp.{IsEquivalence}
use Rattle.std.specs.List.{list_any, AllByRecursion, IsDistinct}
use Rattle.kube_model.specs.declared.key.Key.{Key}
use Rattle.kube_model.specs.Keys.{same_key, has_key}
use Rattle.kube_model.proofs.KeyLaws.{same_key-flip, same_key-itself, same_key-left}
use Rattle.key_queue.specs.Queue.{AreNew, queued_all}
use Rattle.key_queue.proofs.QueueLaws.{queued_all-new}
use Rattle.core_laws.specs.Queue.{AreApart, NoneAmong}
use Rattle.core_keys.proofs.KeyLists.{any-has}

other-by : (b : Bool) (k key : Key) (keys : List Key) → same_key k key ≡ b → (has_key keys key ≡ false → AllByRecursion (λ x. same_key key x ≡ false) keys)
    → (b || has_key keys key) ≡ false → (same_key key k ≡ false) × AllByRecursion (λ x. same_key key x ≡ false) keys
other-by true k key keys same rest none = absurd (true≢false none)
other-by false k key keys same rest none = (same_key-flip key k ∙ same, rest none)

each-other : (keys : List Key) (key : Key) → has_key keys key ≡ false → AllByRecursion (λ k. same_key key k ≡ false) keys
each-other [] key none = tt
each-other (k ∷ keys) key none = other-by (same_key k key) k key keys refl (each-other keys key) none

distinct-apart : (keys : List Key) → AreApart keys → IsDistinct same_key keys
unfolding IsDistinct
distinct-apart [] apart = tt
distinct-apart (k ∷ keys) apart = (each-other keys k apart.0, distinct-apart keys apart.1)

absent-among : (more queue : List Key) → NoneAmong more queue → AllByRecursion (λ k. list_any (same_key k) queue ≡ false) more
absent-among [] queue none = tt
absent-among (k ∷ more) queue none = (
  any-has queue k ∙ none k (or_left (same_key k k) (has_key more k) (same_key-itself k)),
  absent-among more queue (λ key there. none key (or_right (same_key k key) (has_key more key) there)),
)

-- keys that differ from one another, of which none is queued, are new
pub new-keys : (queue more : List Key) → AreApart more → NoneAmong more queue → AreNew same_key queue more
new-keys queue more apart none = record { absent = absent-among more queue none; distinct = distinct-apart more apart }

pub key_equivalence : IsEquivalence same_key
key_equivalence = record { refl = same_key-itself; symm = same_key-flip; congr = same_key-left }

-- they go to the back as they are
pub queued-as-they-are : (queue more : List Key) → AreApart more → NoneAmong more queue → queued_all same_key queue more ≡ queue ++ more
queued-as-they-are queue more apart none = queued_all-new key_equivalence queue more (new-keys queue more apart none)
