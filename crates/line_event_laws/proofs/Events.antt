-- What holds of each object that is read of a value with texts holds of every event that a line is read as.
use Rattle.std.proofs.Common.{◌≡◌, ℕ, Bool, true, false, List, Option, Some, None, Result, Ok, Err, IfOk, IfSome, codes}
use Rattle.std.proofs.lemmas.Bool.{cond_both}
use Rattle.std.proofs.lemmas.Result.{IfOk-at_ok}
use Rattle.std.specs.Bool.{⊤}
use Rattle.std.specs.Str.{bytes_eq}
use Rattle.serde_json.specs.Data.{Data}
use Rattle.serde_json.specs.Find.{get}
use Rattle.json_fields.specs.Path.{Path}
use Rattle.json_values.specs.Line.{value_of_line}
use Rattle.json_text_laws.specs.Texts.{HasTexts}
use Rattle.json_text_laws.proofs.Readers.{Reads, then_ok, any_ok, get_texts}
use Rattle.json_text_laws.proofs.Values.{value_texts}
use Rattle.kube_model.specs.declared.event.Event.{Event}
use Rattle.kube_model.specs.declared.event.Event.TheVariants.{Changed, Deleted, ListEnd, Expired, Members, Frame, Ignored}
use Rattle.kube_model.specs.declared.event.EventFault.{EventFault}
use Rattle.kube_model.specs.declared.event.ListGroup.{ListGroup}
use Rattle.kube_model.specs.declared.key.Key.{Key}
use Rattle.kube_model.specs.declared.object.Kind.{Kind}
use Rattle.kube_model.specs.declared.object.Object.{Object}
use Rattle.kube_model.specs.Named.{kind_named}
use Rattle.kube_events.specs.Fields.{Pairs, key_of, version_field, labels_field}
use Rattle.kube_events.specs.ObjectFields.{body_of, changed_of, deleted_of}
use Rattle.kube_events.specs.Members.{distinct_names, members_field, members_of}
use Rattle.kube_events.specs.Frame.{interface_field, bytes_field, frame_of}
use Rattle.kube_events.specs.Event.{in_field, listed_in, text_in, ends_list, list_end, Says, set_event, deleted_event, bookmark_event}
use Rattle.kube_events.specs.Event.{of_kind, of_object, watched, of_type, of_type_if, event_of, event_if, event_of_line}
use Rattle.line_event_laws.proofs.Keys.{HasText, reads-key_of}

-- it holds of each object of these fields, at any version
abbrev pub Makes : (Event → Type 0) → (Key → Pairs → Object) → Type 0
Makes P make = (version : ℕ) (key : Key) (labels : Pairs) → HasText key → P (Changed version (make key labels))

-- it holds of every event that shows no object
pub record HoldsOfOthers (P : Event → Type 0) : Type 0 where
  pub deleted : (kind : Kind) (key : Key) → P (Deleted kind key)
  pub ended : (group : ListGroup) → P (ListEnd group)
  pub expired : P Expired
  pub members : (names : List (List ℕ)) → P (Members names)
  pub frame : (interface bytes : List ℕ) → P (Frame interface bytes)
  pub ignored : P Ignored

module _ (P : Event → Type 0) (made : (kind : Kind) → Reads (Makes P) (body_of kind)) (others : HoldsOfOthers P) where
  -- the event, if there is one, is such
  abbrev Holds : Result Event EventFault → Type 0
  Holds r = IfOk r P

  -- so is what is said of an object of a value with texts
  abbrev SaysSuch : Says → Type 0
  SaysSuch says = (kind : Kind) (d : Data) → HasTexts d → Holds (says kind d)

  field_holds : (r : Result Event Path) → IfOk r P → Holds (in_field r)
  field_holds (Ok event) h = h
  field_holds (Err path) h = tt

  -- ---- what is said of an object

  reads-changed_of : (kind : Kind) → Reads P (changed_of kind)
  unfolding changed_of
  reads-changed_of kind d h =
      then_ok HasText P (key_of kind d) _ (reads-key_of kind d h) (λ key text.
      then_ok (λ _. ⊤) P (version_field d) _ (any_ok (version_field d)) (λ version _.
      then_ok (λ _. ⊤) P (labels_field d) _ (any_ok (labels_field d)) (λ labels _.
      then_ok (Makes P) P (body_of kind d) _ (made kind d h) (λ make such. such version key labels text))))

  reads-deleted_of : (kind : Kind) → Reads P (deleted_of kind)
  unfolding deleted_of
  reads-deleted_of kind d h =
      then_ok (λ _. ⊤) P (key_of kind d) _ (any_ok (key_of kind d)) (λ key _.
      then_ok (λ _. ⊤) P (version_field d) _ (any_ok (version_field d)) (λ version _. others.deleted kind key))

  set_holds : SaysSuch set_event
  set_holds kind d h = field_holds (changed_of kind d) (reads-changed_of kind d h)

  deleted_holds : SaysSuch deleted_event
  deleted_holds kind d h = field_holds (deleted_of kind d) (reads-deleted_of kind d h)

  list_end_holds : (group : Option ListGroup) (ends : Bool) → P (list_end group ends)
  list_end_holds None ends = others.ignored
  list_end_holds (Some group) false = others.ignored
  list_end_holds (Some group) true = others.ended group

  bookmark_holds : SaysSuch bookmark_event
  bookmark_holds kind d h = list_end_holds (listed_in kind) (ends_list d)

  module _ (says : Says) (such : SaysSuch says) where
    kind_holds : (kind : Option Kind) (d : Data) → HasTexts d → Holds (of_kind says kind d)
    kind_holds None d h = others.ignored
    kind_holds (Some kind) d h = such kind d h

    object_holds : (name : Option (List ℕ)) (d : Data) → HasTexts d → Holds (of_object says name d)
    object_holds None d h = tt
    object_holds (Some name) d h = kind_holds (kind_named name) d h

    watched_holds : (o : Option Data) → IfSome o HasTexts → Holds (watched says o)
    watched_holds None h = tt
    watched_holds (Some d) h = object_holds (text_in (codes "kind") d) d h

    said_holds : (line : Data) → HasTexts line → Holds (watched says (get (codes "object") line))
    said_holds line h = watched_holds (get (codes "object") line) (get_texts (codes "object") line h)

  -- ---- lines

  members_hold : (d : Data) → IfOk (members_of d) P
  unfolding members_of
  members_hold d = then_ok (λ _. ⊤) P (members_field d) _ (any_ok (members_field d)) (λ names _. others.members (distinct_names names))

  frame_holds : (d : Data) → IfOk (frame_of d) P
  unfolding frame_of
  frame_holds d =
      then_ok (λ _. ⊤) P (interface_field d) _ (any_ok (interface_field d)) (λ interface _.
      then_ok (λ _. ⊤) P (bytes_field d) _ (any_ok (bytes_field d)) (λ bytes _. others.frame interface bytes))

  type_holds : (name : List ℕ) (line : Data) → HasTexts line → Holds (of_type name line)
  type_holds name line h =
      cond_both (bytes_eq name (codes "ADDED")) _ _ Holds (λ _. said_holds set_event set_holds line h) (λ _.
      cond_both (bytes_eq name (codes "MODIFIED")) _ _ Holds (λ _. said_holds set_event set_holds line h) (λ _.
      cond_both (bytes_eq name (codes "DELETED")) _ _ Holds (λ _. said_holds deleted_event deleted_holds line h) (λ _.
      cond_both (bytes_eq name (codes "BOOKMARK")) _ _ Holds (λ _. said_holds bookmark_event bookmark_holds line h) (λ _.
      cond_both (bytes_eq name (codes "ERROR")) _ _ Holds (λ _. others.expired) (λ _.
      cond_both (bytes_eq name (codes "MEMBERS")) _ _ Holds (λ _. field_holds (members_of line) (members_hold line)) (λ _.
      cond_both (bytes_eq name (codes "FRAME")) _ _ Holds (λ _. field_holds (frame_of line) (frame_holds line)) (λ _. tt)))))))

  typed_holds : (name : Option (List ℕ)) (d : Data) → HasTexts d → Holds (of_type_if name d)
  typed_holds None d h = tt
  typed_holds (Some name) d h = type_holds name d h

  value_holds : (o : Option Data) → IfSome o HasTexts → Holds (event_if o)
  unfolding event_of
  value_holds None h = tt
  value_holds (Some d) h = typed_holds (text_in (codes "type") d) d h

  line_holds : (line : List ℕ) → Holds (event_of_line line)
  unfolding event_of_line
  line_holds line = value_holds (value_of_line line) (value_texts line)

  pub lines_hold : (line : List ℕ) (event : Event) → event_of_line line ≡ Ok event → P event
  lines_hold line event e = IfOk-at_ok P e (line_holds line)
