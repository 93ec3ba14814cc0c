-- What is said of a change is right.
use Rattle.std.proofs.Common.{◌≡◌, ◌↔◌, ◌≢◌, ℕ, List, Result, Ok, Err, refl, sym, ap, ◌∙◌, subst}
use Rattle.kube_model.specs.declared.config_fault.ConfigFault.{ConfigFault}
use Rattle.pool_config.specs.declared.object_set.ObjectSet.{ObjectSet}
use Rattle.pool_config.specs.Compile.{compiled}
use Rattle.pool_config.specs.ConfigValue.{ConfigValue}
use Rattle.pool_config.specs.Faults.{HasNoFault, IsFirstFault}
use Rattle.pool_config.specs.Lists.{lists_of}
use Rattle.pool_config.specs.Objects.{objects_of}
use Rattle.pool_config.proofs.FirstFault.{refused_is, accepted_is}
use Rattle.admission_reviews.specs.declared.response.Verdict.{Verdict}
use Rattle.admission_reviews.specs.declared.response.Verdict.TheVariants.{Allowed, Refused}
use Rattle.admission_reviews.specs.declared.review.Change.{Change}
use Rattle.admission_reviews.specs.declared.review.Change.TheVariants.{Set, Remove, Unread, Nothing}
use Rattle.admission_judge.specs.Judging.{fault_text, unread_text, after_change, verdict_by, verdict_on, verdict_of, IsAllowed, NamesFault, Names}

-- ---- of objects

same_message : (a b : List ℕ) (v : Verdict) → v ≡ Refused a → v ≡ Refused b → a ≡ b
same_message a b v is other = cc

allowed_by : (s : ObjectSet) (r : Result ConfigValue ConfigFault) → compiled s ≡ r → (verdict_by r ≡ Allowed) ↔ HasNoFault (objects_of s)
allowed_by s (Ok config) is = ((λ _. ((accepted_is s config).0 is).0), (λ _. refl))
allowed_by s (Err fault) is = (
  (λ (e : Refused (fault_text fault) ≡ Allowed). absurd (cc)),
  (λ (none : HasNoFault (objects_of s)). let fine = (accepted_is s (lists_of (objects_of s))).1 (none, refl) in absurd (cc)),
)

pub allowed_on : (s : ObjectSet) → (verdict_on s ≡ Allowed) ↔ HasNoFault (objects_of s)
allowed_on s = allowed_by s (compiled s) refl

named_by : (s : ObjectSet) (r : Result ConfigValue ConfigFault) → compiled s ≡ r → (message : List ℕ) → (verdict_by r ≡ Refused message) ↔ NamesFault s message
named_by s (Ok config) is message = (
  (λ (e : Allowed ≡ Refused message). absurd (cc)),
  (λ (n : NamesFault s message). let other : compiled s ≡ Err n.0 = (refused_is s n.0).1 n.1 in absurd (cc)),
)
named_by s (Err fault) is message = (
  (λ (e : Refused (fault_text fault) ≡ Refused message).
      (fault, (refused_is s fault).0 is, same_message message (fault_text fault) (Refused message) refl (sym e))),
  (λ (n : NamesFault s message).
      let other : compiled s ≡ Err n.0 = (refused_is s n.0).1 n.1 in
      let one : fault ≡ n.0 = cc in
      ap (λ (f : ConfigFault). Refused (fault_text f)) one ∙ ap Refused (sym n.2)),
)

pub named_on : (s : ObjectSet) (message : List ℕ) → (verdict_on s ≡ Refused message) ↔ NamesFault s message
named_on s message = named_by s (compiled s) refl message

-- ---- of changes

pub allowed_is : (s : ObjectSet) (change : Change) → (verdict_of s change ≡ Allowed) ↔ IsAllowed s change
allowed_is s Nothing = ((λ _. tt), (λ _. refl))
allowed_is s (Unread path) = ((λ (e : Refused (unread_text path) ≡ Allowed). absurd (cc)), (λ none. absurd none))
allowed_is s (Set object) = allowed_on (after_change s (Set object))
allowed_is s (Remove kind name) = allowed_on (after_change s (Remove kind name))

pub named_is : (s : ObjectSet) (change : Change) (message : List ℕ) → (verdict_of s change ≡ Refused message) ↔ Names s change message
named_is s Nothing message = ((λ (e : Allowed ≡ Refused message). absurd (cc)), (λ none. absurd none))
named_is s (Unread path) message = (
  (λ (e : Refused (unread_text path) ≡ Refused message). same_message message (unread_text path) (Refused message) refl (sym e)),
  (λ (is : message ≡ unread_text path). ap Refused (sym is)),
)
named_is s (Set object) message = named_on (after_change s (Set object)) message
named_is s (Remove kind name) message = named_on (after_change s (Remove kind name)) message

-- of what a call says

pub allowed_where : (s : ObjectSet) (change : Change) (verdict : Verdict) → verdict ≡ verdict_of s change → (verdict ≡ Allowed) ↔ IsAllowed s change
allowed_where s change verdict is = subst (λ (v : Verdict). (v ≡ Allowed) ↔ IsAllowed s change) (sym is) (allowed_is s change)

pub named_where : (s : ObjectSet) (change : Change) (verdict : Verdict) → verdict ≡ verdict_of s change → (message : List ℕ)
    → (verdict ≡ Refused message) ↔ Names s change message
named_where s change verdict is message = subst (λ (v : Verdict). (v ≡ Refused message) ↔ Names s change message) (sym is) (named_is s change message)
