-- What a review asks, field by field, in the order in which the first faulty one is named.
use Rattle.std.specs.Prelude.{ℕ, List, Bool, Option, Some, None, Result, Ok, Err, codes, if◌then◌else◌}
use Rattle.serde_json.specs.Data.{Data}
use Rattle.json_fields.specs.Path.{Path}
use Rattle.json_values.specs.Line.{value_of_line}
use Rattle.json_fields.specs.Reading.{◌>>=◌, required_at, name_at, some_of, is_text, object_of, text_of}
use Rattle.kube_model.specs.declared.event.EventFault.{EventFault}
use Rattle.kube_model.specs.declared.event.EventFault.TheVariants.{NotJson}
use Rattle.kube_model.specs.declared.object.Kind.{Kind}
use Rattle.kube_model.specs.declared.object.Object.{Object}
use Rattle.kube_model.specs.Named.{kind_named}
use Rattle.kube_events.specs.Event.{text_in, in_field}
use Rattle.kube_events.specs.Fields.{name_field}
use Rattle.object_history.specs.Observations.{is_config_kind}
use Rattle.admission_reviews.specs.declared.operation.Operation.{Operation}
use Rattle.admission_reviews.specs.declared.operation.Operation.TheVariants.{Create, Update, Delete, Connect}
use Rattle.admission_reviews.specs.declared.review.Change.{Change}
use Rattle.admission_reviews.specs.declared.review.Change.TheVariants.{Set, Remove, Unread, Nothing}
use Rattle.admission_reviews.specs.declared.review.Review.{Review}
use Rattle.admission_reviews.specs.Admitted.{admitted_of}
use Rattle.admission_reviews.specs.Operations.{operation_of}

-- ---- what is asked of an object

-- an object that is written is set, where it is of a kind that matters and can be read
abbrev pub set_change : Result (Option Object) Path → Change
set_change (Ok (Some object)) = Set object
set_change (Ok None) = Nothing
set_change (Err path) = Unread path

-- the object of the kind and name is taken out, where the name can be read
abbrev pub removal : Kind → Result (List ℕ) Path → Change
removal kind (Ok name) = Remove kind name
removal kind (Err path) = Unread path

-- of an object that is deleted the name alone is read, where it is of a kind that matters
abbrev pub remove_change : Option Kind → Data → Change
remove_change None d = Nothing
remove_change (Some kind) d = if is_config_kind kind then removal kind (name_field d) else Nothing

unfoldable pub written_of : Data → Result Change Path
written_of d = do
  members ← object_of d
  kind ← required_at text_of (codes "kind") d
  Ok (set_change (admitted_of d))

unfoldable pub gone_of : Data → Result Change Path
gone_of d = do
  members ← object_of d
  kind ← required_at text_of (codes "kind") d
  Ok (remove_change (kind_named kind) d)

-- ---- requests

abbrev pub change_by : Operation → Data → Result Change Path
change_by Create d = required_at written_of (codes "object") d
change_by Update d = required_at written_of (codes "object") d
change_by Delete d = required_at gone_of (codes "oldObject") d
change_by Connect d = Ok Nothing

unfoldable pub request_of : Data → Result Review Path
request_of d = do
  members ← object_of d
  uid ← name_at (codes "uid") d
  operation ← required_at operation_of (codes "operation") d
  change ← change_by operation d
  Ok (record { uid = uid; change = change })

-- ---- lines

abbrev pub is_review : Data → Bool
is_review d = is_text (text_in (codes "kind") d) (codes "AdmissionReview")

unfoldable pub review_of : Data → Result (Option Review) Path
review_of d = if is_review d then some_of (required_at request_of (codes "request") d) else Ok None

abbrev pub review_if : Option Data → Result (Option Review) EventFault
review_if None = Err NotJson
review_if (Some d) = in_field (review_of d)

-- the review of a line, or what is wrong with it; nothing where it is none
unfoldable pub review_of_line : List ℕ → Result (Option Review) EventFault
review_of_line line = review_if (value_of_line line)
