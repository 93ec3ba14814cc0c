-- Which changes may be made to the objects of a configuration.
use Rattle.std.specs.Prelude.{◌≡◌, ℕ, List, [], ◌∷◌, ◌++◌, Result, Ok, Err, codes, ⊤}
use Rattle.std.specs.List.{concat}
use Rattle.kube_model.specs.declared.config_fault.ConfigFault.{ConfigFault}
use Rattle.kube_model.specs.LineWords.{cause_text, kind_text}
use Rattle.pool_config.specs.declared.object_set.ObjectSet.{ObjectSet}
use Rattle.pool_config.specs.Compile.{compiled}
use Rattle.pool_config.specs.ConfigValue.{ConfigValue}
use Rattle.pool_config.specs.Faults.{HasNoFault, IsFirstFault}
use Rattle.pool_config.specs.Objects.{objects_of, set_put, set_without}
use Rattle.admission_reviews.specs.declared.response.Verdict.{Verdict}
use Rattle.admission_reviews.specs.declared.response.Verdict.TheVariants.{Allowed, Refused}
use Rattle.admission_reviews.specs.declared.review.Change.{Change}
use Rattle.admission_reviews.specs.declared.review.Change.TheVariants.{Set, Remove, Unread, Nothing}

-- ---- messages

abbrev pub unread_text : List ℕ → List ℕ
unread_text path = codes "field " ++ path

-- the cause, the kind and the name, with a blank between
abbrev pub fault_text : ConfigFault → List ℕ
fault_text fault = cause_text fault.cause ++ 32 ∷ (kind_text fault.kind ++ 32 ∷ fault.name)

-- ---- changes

-- The objects with this object in place of the one of its kind and name, or without that kind and name, or the same.
abbrev pub after_change : ObjectSet → Change → ObjectSet
after_change objects (Set object) = set_put objects object
after_change objects (Remove kind name) = set_without objects kind name
after_change objects (Unread path) = objects
after_change objects Nothing = objects

-- A change may be made where it changes nothing, or where it can be read and the objects with it have no fault.
abbrev pub IsAllowed : ObjectSet → Change → Type 0
IsAllowed objects Nothing = ⊤
IsAllowed objects (Unread path) = ⊥
IsAllowed objects (Set object) = HasNoFault (objects_of (after_change objects (Set object)))
IsAllowed objects (Remove kind name) = HasNoFault (objects_of (after_change objects (Remove kind name)))

-- the message names the first fault of the objects
abbrev pub NamesFault : ObjectSet → List ℕ → Type 0
NamesFault objects message = (fault : ConfigFault) × IsFirstFault (objects_of objects) fault × (message ≡ fault_text fault)

-- The message names why a change may not be made: the field that can't be read, or the first fault of the objects with the change.
abbrev pub Names : ObjectSet → Change → List ℕ → Type 0
Names objects Nothing message = ⊥
Names objects (Unread path) message = message ≡ unread_text path
Names objects (Set object) message = NamesFault (after_change objects (Set object)) message
Names objects (Remove kind name) message = NamesFault (after_change objects (Remove kind name)) message

-- ---- the same as a function

abbrev pub verdict_by : Result ConfigValue ConfigFault → Verdict
verdict_by (Ok config) = Allowed
verdict_by (Err fault) = Refused (fault_text fault)

abbrev pub verdict_on : ObjectSet → Verdict
verdict_on objects = verdict_by (compiled objects)

abbrev pub verdict_of : ObjectSet → Change → Verdict
verdict_of objects Nothing = Allowed
verdict_of objects (Unread path) = Refused (unread_text path)
verdict_of objects (Set object) = verdict_on (after_change objects (Set object))
verdict_of objects (Remove kind name) = verdict_on (after_change objects (Remove kind name))
