-- How often names stand in the lists of what failed.
use Rattle.std.proofs.Common.{◌≡◌, ℕ, List, [], ◌∷◌, ◌++◌, Option, Some, Ok, Err, IsErrOf, ap, refl}
use Rattle.mlb_edge.specs.declared.files.OpenEnd.TheVariants.{Failed, NoMemory}
use Rattle.mlb_edge.specs.Failed.{CountsFault, times-same, times-other}

-- the name was added, and it failed
pub counts_added : (name : List ℕ) (failed : Type 0) (old new : List (List ℕ)) → failed → new ≡ old ++ name ∷ [] → CountsFault (Some name) failed old new
counts_added name failed old new holds added = record {
  once_more = λ _ own same. let own_is : own ≡ name = cc in rw (own_is, added) (times-same name old);
  unless_failed = λ no any. absurd (no holds);
  others = λ other differs. rw added (times-other other name old (λ same. differs (ap (λ (t : List ℕ). Some t) same)));
}

-- nothing failed, and no name was added
counts_same : (name : Option (List ℕ)) (failed : Type 0) (names : List (List ℕ)) → (failed → ⊥) → CountsFault name failed names names
counts_same name failed names none = record {
  once_more = λ holds own same. absurd (none holds);
  unless_failed = λ no any. refl;
  others = λ other differs. refl;
}

-- a running out of memory is no failed opening
pub counts_memory : {T : Type 0} (name : Option (List ℕ)) (names : List (List ℕ)) → CountsFault name (IsErrOf {T = T} (Err NoMemory) Failed) names names
counts_memory name names = counts_same name _ names (λ e. absurd (cc))

pub counts_opened : {T : Type 0} (input : T) (name : Option (List ℕ)) (names : List (List ℕ)) → CountsFault name (IsErrOf (Ok input) Failed) names names
counts_opened input name names = counts_same name _ names (λ e. absurd (cc))
