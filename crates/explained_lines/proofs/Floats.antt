-- No number that is told is a float.
use Rattle.std.proofs.Common.{◌≡◌, ℕ, List, [], ◌∷◌, Option, Some, None, false, map, refl}
use Rattle.serde_json.specs.Data.{string}
use Rattle.serde_json.specs.View.{items_of}
use Rattle.serde_json.specs.Written.{has_float, items_have_float}
use Rattle.kube_model.specs.declared.event.Event.{Event as Said}
use Rattle.kube_model.specs.declared.event.Event.TheVariants.{Changed, Deleted, ListEnd, Expired, Members as Speakers, Frame, Ignored}
use Rattle.kube_model.specs.declared.event.EventFault.{EventFault}
use Rattle.kube_model.specs.declared.event.EventFault.TheVariants.{NotJson, NotEvent, Field, NoMemory}
use Rattle.kube_model.specs.declared.object.Kind.{Kind}
use Rattle.kube_model.specs.Kinds.{kind_of}
use Rattle.admission_reviews.specs.declared.review.Change.{Change}
use Rattle.admission_reviews.specs.declared.review.Change.TheVariants.{Set, Remove, Unread, Nothing}
use Rattle.explained_lines.specs.declared.explained.Explained.{Explained}
use Rattle.explained_lines.specs.declared.explained.Explained.TheVariants.{Review, Event, Refused}
use Rattle.explained_lines.specs.Lines.{object_data, namespace_of, namespace_in, name_of, event_data, refused_data, review_data, explained_data}

strings_have_float : (texts : List (List ℕ)) → items_have_float (items_of (map string texts)) ≡ false
strings_have_float [] = refl
strings_have_float (text ∷ texts) = strings_have_float texts

object_has_float : (n : ℕ) (kind : Kind) (namespace : Option (List ℕ)) (name type : List ℕ) (unused : List (List ℕ))
    → has_float (object_data n kind namespace name type unused) ≡ false
object_has_float n kind None name type [] = refl
object_has_float n kind None name type (path ∷ paths) = rw (strings_have_float paths) refl
object_has_float n kind (Some namespace) name type [] = refl
object_has_float n kind (Some namespace) name type (path ∷ paths) = rw (strings_have_float paths) refl

event_has_float : (n : ℕ) (event : Said) (unused : List (List ℕ)) → has_float (event_data n event unused) ≡ false
event_has_float n (Changed version object) unused = object_has_float n (kind_of object) (namespace_of object) (name_of object) _ unused
event_has_float n (Deleted kind key) unused = object_has_float n kind (namespace_in kind key) key.name _ []
event_has_float n (ListEnd group) unused = refl
event_has_float n Expired unused = refl
event_has_float n (Speakers names) unused = refl
event_has_float n (Frame interface bytes) unused = refl
event_has_float n Ignored unused = refl

refused_has_float : (n : ℕ) (fault : EventFault) → has_float (refused_data n fault) ≡ false
refused_has_float n NotJson = refl
refused_has_float n NotEvent = refl
refused_has_float n (Field path) = refl
refused_has_float n NoMemory = refl

review_has_float : (n : ℕ) (uid : List ℕ) (change : Change) → has_float (review_data n uid change) ≡ false
review_has_float n uid (Set object) = refl
review_has_float n uid (Remove kind name) = refl
review_has_float n uid (Unread path) = refl
review_has_float n uid Nothing = refl

pub explained_has_float : (n : ℕ) (explained : Explained) → has_float (explained_data n explained) ≡ false
explained_has_float n (Review review) = review_has_float n review.uid review.change
explained_has_float n (Event event unused) = event_has_float n event unused
explained_has_float n (Refused fault) = refused_has_float n fault
