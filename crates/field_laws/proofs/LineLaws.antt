-- Which lines are refused, which are ignored, and how the others are read.
use Rattle.std.proofs.Common.{◌≡◌, ◌⊎◌, ℕ, List, Bool, true, false, cond, Option, Some, None, option_and_then}
use Rattle.std.proofs.Common.{Result, Ok, Err, refl, sym, ap, subst, ◌∙◌, inl, inr, ⊎_elim, bytes_eq, codes}
use Rattle.std.proofs.lemmas.Slice.Eq.{bytes_eq-Decides}
use Rattle.mlb_base.specs.Items.{IsIn}
use Rattle.serde_json.specs.Data.{Data, null, boolean, number, string, array, object}
use Rattle.serde_json.specs.Find.{get, as_str}
use Rattle.json_fields.specs.Path.{Path}
use Rattle.json_values.specs.Line.{value_of_line}
use Rattle.json_fields.specs.Reading.{is_text}
use Rattle.kube_model.specs.declared.event.Event.{Event}
use Rattle.kube_model.specs.declared.event.Event.TheVariants.{ListEnd, Expired, Ignored}
use Rattle.kube_model.specs.declared.event.EventFault.{EventFault}
use Rattle.kube_model.specs.declared.event.EventFault.TheVariants.{NotJson, NotEvent}
use Rattle.kube_model.specs.declared.event.ListGroup.{ListGroup}
use Rattle.kube_model.specs.declared.event.ListGroup.TheVariants as groups
use Rattle.kube_model.specs.declared.object.Kind.{Kind}
use Rattle.kube_model.specs.declared.object.Kind.TheVariants as kinds
use Rattle.kube_model.specs.Named.{kind_named}
use Rattle.kube_events.specs.ObjectFields.{changed_of, deleted_of}
use Rattle.kube_events.specs.Members.{members_of}
use Rattle.kube_events.specs.Frame.{frame_of}
use Rattle.kube_events.specs.Event.{in_field, text_in, end_annotation, ends_list, list_end, listed_in, Says, set_event, deleted_event}
use Rattle.kube_events.specs.Event.{bookmark_event, of_kind, of_object, watched, of_type, of_type_if, event_of, event_if, event_of_line}
use Rattle.field_laws.specs.Told.{as_put, rows_told}
use Rattle.field_laws.specs.Tables.{changed_rows, deleted_rows, members_rows, frame_rows}
use Rattle.field_laws.specs.Events.{changed_with, deleted_with, members_with, frame_with}
use Rattle.field_laws.specs.Lines.{set_words, watch_words, line_words, Names, ending_kinds, HasText, IsAbout, SaysEnd}
use Rattle.field_laws.specs.Lines.{EndsList, IsNoEvent, IsPassedBy, OthersArePassedBy, IsReadByValue, LinesAsTold}
use Rattle.field_laws.proofs.ObjectLaws.{changed_as_told, deleted_as_told, members_as_told, frames_as_told}

-- ---- texts of members

str_there : (found : Option Data) (text : List ℕ) → option_and_then as_str found ≡ Some text → found ≡ Some (string text)
str_there None text e = absurd cc
str_there (Some null) text e = absurd cc
str_there (Some (boolean b)) text e = absurd cc
str_there (Some (number n)) text e = absurd cc
str_there (Some (string other)) text e = let same : other ≡ text = cc in ap (λ (it : List ℕ). Some (string it)) same
str_there (Some (array ds)) text e = absurd cc
str_there (Some (object ms)) text e = absurd cc

has_text : (name : List ℕ) (d : Data) (text : List ℕ) → text_in name d ≡ Some text → HasText name d text
has_text name d text e = str_there (get name d) text e

text_is : (name : List ℕ) (d : Data) (text : List ℕ) → HasText name d text → text_in name d ≡ Some text
text_is name d text has = rw has refl

-- ---- the names of kinds

first_or : (b : Bool) (text word : List ℕ) (kind one : Kind) (others : Option Kind) → bytes_eq text word ≡ b → cond b (Some kind) others ≡ Some one
    → ((text ≡ word) × (kind ≡ one)) ⊎ (others ≡ Some one)
first_or true text word kind one others is e = inl ((bytes_eq-Decides text word).0 is, cc)
first_or false text word kind one others is e = inr e

names_kind : (text : List ℕ) (one : Kind) → kind_named text ≡ Some one → Names text one
names_kind text one e =
    ⊎_elim (λ is. subst (Names text) is.1 is.0) (λ e2.
    ⊎_elim (λ is. subst (Names text) is.1 is.0) (λ e3.
    ⊎_elim (λ is. subst (Names text) is.1 is.0) (λ e4.
    ⊎_elim (λ is. subst (Names text) is.1 is.0) (λ e5.
    ⊎_elim (λ is. subst (Names text) is.1 is.0) (λ e6.
    ⊎_elim (λ is. subst (Names text) is.1 is.0) (λ e7.
    ⊎_elim (λ is. subst (Names text) is.1 is.0) (λ e8.
    ⊎_elim (λ is. subst (Names text) is.1 is.0) (λ e9.
    ⊎_elim (λ is. subst (Names text) is.1 is.0) (λ none. absurd (no_kind none))
    (first_or (bytes_eq text (codes "EndpointSlice")) text (codes "EndpointSlice") kinds.Slice one _ refl e9))
    (first_or (bytes_eq text (codes "Node")) text (codes "Node") kinds.Node one _ refl e8))
    (first_or (bytes_eq text (codes "Namespace")) text (codes "Namespace") kinds.Namespace one _ refl e7))
    (first_or (bytes_eq text (codes "Community")) text (codes "Community") kinds.Community one _ refl e6))
    (first_or (bytes_eq text (codes "BGPPeer")) text (codes "BGPPeer") kinds.Peer one _ refl e5))
    (first_or (bytes_eq text (codes "BGPAdvertisement")) text (codes "BGPAdvertisement") kinds.Bgp one _ refl e4))
    (first_or (bytes_eq text (codes "L2Advertisement")) text (codes "L2Advertisement") kinds.L2 one _ refl e3))
    (first_or (bytes_eq text (codes "IPAddressPool")) text (codes "IPAddressPool") kinds.Pool one _ refl e2))
    (first_or (bytes_eq text (codes "Service")) text (codes "Service") kinds.Service one _ refl e)
  where
    no_kind : None ≡ Some one → ⊥
    no_kind none = absurd cc

kind_named_so : (text : List ℕ) (one : Kind) → Names text one → kind_named text ≡ Some one
kind_named_so text kinds.Service is = rw is refl
kind_named_so text kinds.Pool is = rw is refl
kind_named_so text kinds.L2 is = rw is refl
kind_named_so text kinds.Bgp is = rw is refl
kind_named_so text kinds.Peer is = rw is refl
kind_named_so text kinds.Community is = rw is refl
kind_named_so text kinds.Namespace is = rw is refl
kind_named_so text kinds.Node is = rw is refl
kind_named_so text kinds.Slice is = rw is refl

unread_by : (text : List ℕ) (found : Option Kind) → kind_named text ≡ found → ((one : Kind) → Names text one → ⊥) → found ≡ None
unread_by text (Some one) is unread = absurd (unread one (names_kind text one is))
unread_by text None is unread = refl

unread : (text : List ℕ) → ((one : Kind) → Names text one → ⊥) → kind_named text ≡ None
unread text none = unread_by text (kind_named text) refl none

-- ---- what can't be

unlike : (word text : List ℕ) → word ≡ text → bytes_eq text word ≡ false → ⊥
unlike word text e is = let same : bytes_eq text word ≡ true = (bytes_eq-Decides text word).1 (sym e) in absurd cc

no_ending : (text word : List ℕ) → text ≡ word → IsIn ending_kinds text
    → bytes_eq word (codes "IPAddressPool") ≡ false → bytes_eq word (codes "Service") ≡ false → bytes_eq word (codes "EndpointSlice") ≡ false → ⊥
no_ending text word is (inl e) pool service slice = unlike (codes "IPAddressPool") word (e ∙ is) pool
no_ending text word is (inr (inl e)) pool service slice = unlike (codes "Service") word (e ∙ is) service
no_ending text word is (inr (inr (inl e))) pool service slice = unlike (codes "EndpointSlice") word (e ∙ is) slice
no_ending text word is (inr (inr (inr none))) pool service slice = none

no_such : {one : Kind} → None ≡ Some one → ⊥
no_such e = absurd cc

no_object : (d : Data) → None ≡ Some d → ⊥
no_object d e = absurd cc

no_text : (d other : Data) (kind : List ℕ) → Some d ≡ Some other → text_in (codes "kind") d ≡ None → HasText (codes "kind") other kind → ⊥
no_text d other kind same is has =
    let one : d ≡ other = cc in
    let none : text_in (codes "kind") other ≡ None = subst (λ it. text_in (codes "kind") it ≡ None) one is in
    let there : text_in (codes "kind") other ≡ Some kind = text_is (codes "kind") other kind has in
    absurd cc

no_type : (word : List ℕ) → None ≡ Some word → ⊥
no_type word e = absurd cc

-- ---- bookmarks

true_there : (found : Option (List ℕ)) → is_text found (codes "true") ≡ true → found ≡ Some (codes "true")
true_there (Some text) e = ap (λ it. Some it) ((bytes_eq-Decides text (codes "true")).0 e)
true_there None e = absurd cc

annotations_there : (found : Option Data) → option_and_then as_str (option_and_then (get (codes "k8s.io/initial-events-end")) found) ≡ Some (codes "true")
    → (annotations : Data) × (found ≡ Some annotations) × HasText (codes "k8s.io/initial-events-end") annotations (codes "true")
annotations_there (Some annotations) e = (annotations, refl, str_there (get (codes "k8s.io/initial-events-end") annotations) (codes "true") e)
annotations_there None e = absurd cc

metadata_there : (found : Option Data) (annotations : Data) → option_and_then (get (codes "annotations")) found ≡ Some annotations
    → (metadata : Data) × (found ≡ Some metadata) × (get (codes "annotations") metadata ≡ Some annotations)
metadata_there (Some metadata) annotations e = (metadata, refl, e)
metadata_there None annotations e = absurd cc

says_end : (d : Data) → ends_list d ≡ true → SaysEnd d
unfolding ends_list
says_end d e =
    let there = annotations_there (option_and_then (get (codes "annotations")) (get (codes "metadata") d)) (true_there (end_annotation d) e) in
    let above = metadata_there (get (codes "metadata") d) there.0 there.1 in
    (above.0, there.0, above.1, above.2, there.2)

ends : (d : Data) → SaysEnd d → ends_list d ≡ true
unfolding ends_list
ends d says = rw (says.2, says.3, says.4) refl

no_end_by : (d : Data) (b : Bool) → ends_list d ≡ b → (SaysEnd d → ⊥) → b ≡ false
no_end_by d true is none = absurd (none (says_end d is))
no_end_by d false is none = refl

no_end : (d : Data) → (SaysEnd d → ⊥) → ends_list d ≡ false
no_end d none = no_end_by d (ends_list d) refl none

ignored_end : (text : List ℕ) (kind : Kind) (d : Data) → Names text kind → (IsIn ending_kinds text × SaysEnd d → ⊥) → bookmark_event kind d ≡ Ok Ignored
ignored_end text kinds.Pool d is none = rw (no_end d (λ says. none (inl (sym is), says))) refl
ignored_end text kinds.Service d is none = rw (no_end d (λ says. none (inr (inl (sym is)), says))) refl
ignored_end text kinds.Slice d is none = rw (no_end d (λ says. none (inr (inr (inl (sym is))), says))) refl
ignored_end text kinds.L2 d is none = refl
ignored_end text kinds.Bgp d is none = refl
ignored_end text kinds.Peer d is none = refl
ignored_end text kinds.Community d is none = refl
ignored_end text kinds.Namespace d is none = refl
ignored_end text kinds.Node d is none = refl

-- ---- what is refused and what is ignored is so

watched_none : (says : Says) (found : Option Data) → ((d : Data) (kind : List ℕ) → found ≡ Some d → HasText (codes "kind") d kind → ⊥)
    → watched says found ≡ Err NotEvent
watched_none says None none = refl
watched_none says (Some d) none = object_none (text_in (codes "kind") d) refl
  where
    object_none : (found : Option (List ℕ)) → text_in (codes "kind") d ≡ found → of_object says found d ≡ Err NotEvent
    object_none None is = refl
    object_none (Some kind) is = absurd (none d kind refl (has_text (codes "kind") d kind is))

unwatched : (line : Data) (word : List ℕ) → IsIn watch_words word → HasText (codes "type") line word
    → ((d : Data) (kind : List ℕ) → IsAbout line word d kind → ⊥) → event_of line ≡ Err NotEvent
unfolding event_of
unwatched line word (inl is) has none =
    let typed : HasText (codes "type") line (codes "ADDED") = has ∙ ap (λ (it : List ℕ). Some (string it)) (sym is) in
    rw typed (watched_none set_event (get (codes "object") line)
    (λ d kind at of_kind. none d kind (record { of_type = has; has_object = at; of_kind = of_kind })))
unwatched line word (inr (inl is)) has none =
    let typed : HasText (codes "type") line (codes "MODIFIED") = has ∙ ap (λ (it : List ℕ). Some (string it)) (sym is) in
    rw typed (watched_none set_event (get (codes "object") line)
    (λ d kind at of_kind. none d kind (record { of_type = has; has_object = at; of_kind = of_kind })))
unwatched line word (inr (inr (inl is))) has none =
    let typed : HasText (codes "type") line (codes "DELETED") = has ∙ ap (λ (it : List ℕ). Some (string it)) (sym is) in
    rw typed (watched_none deleted_event (get (codes "object") line)
    (λ d kind at of_kind. none d kind (record { of_type = has; has_object = at; of_kind = of_kind })))
unwatched line word (inr (inr (inr (inl is)))) has none =
    let typed : HasText (codes "type") line (codes "BOOKMARK") = has ∙ ap (λ (it : List ℕ). Some (string it)) (sym is) in
    rw typed (watched_none bookmark_event (get (codes "object") line)
    (λ d kind at of_kind. none d kind (record { of_type = has; has_object = at; of_kind = of_kind })))
unwatched line word (inr (inr (inr (inr none)))) has about = absurd none

not_word_by : (b : Bool) (text word : List ℕ) → bytes_eq text word ≡ b → (word ≡ text → ⊥) → b ≡ false
not_word_by true text word is other = absurd (other (sym ((bytes_eq-Decides text word).0 is)))
not_word_by false text word is other = refl

not_word : (text word : List ℕ) → (word ≡ text → ⊥) → bytes_eq text word ≡ false
not_word text word other = not_word_by (bytes_eq text word) text word refl other

untyped_by : (line : Data) (found : Option (List ℕ)) → text_in (codes "type") line ≡ found
    → ((word : List ℕ) → IsIn line_words word → HasText (codes "type") line word → ⊥) → of_type_if found line ≡ Err NotEvent
untyped_by line None is none = refl
untyped_by line (Some word) is none =
    let has : HasText (codes "type") line word = has_text (codes "type") line word is in
    rw (
      not_word word (codes "ADDED") (λ e. none word (inl e) has),
      not_word word (codes "MODIFIED") (λ e. none word (inr (inl e)) has),
      not_word word (codes "DELETED") (λ e. none word (inr (inr (inl e))) has),
      not_word word (codes "BOOKMARK") (λ e. none word (inr (inr (inr (inl e)))) has),
      not_word word (codes "ERROR") (λ e. none word (inr (inr (inr (inr (inl e))))) has),
      not_word word (codes "MEMBERS") (λ e. none word (inr (inr (inr (inr (inr (inl e)))))) has),
      not_word word (codes "FRAME") (λ e. none word (inr (inr (inr (inr (inr (inr (inl e))))))) has),
    ) refl

untyped : (line : Data) → ((word : List ℕ) → IsIn line_words word → HasText (codes "type") line word → ⊥) → event_of line ≡ Err NotEvent
unfolding event_of
untyped line none = untyped_by line (text_in (codes "type") line) refl none

no_event_is : (line : Data) → IsNoEvent line → event_of line ≡ Err NotEvent
no_event_is line (inl none) = untyped line none
no_event_is line (inr is) = unwatched line is.0 is.1 is.2 is.3

-- A line about an object is what is said of the object, by its kind.
about_is : (line : Data) (word : List ℕ) (d : Data) (kind : List ℕ) (says : Says) → IsAbout line word d kind
    → watched says (get (codes "object") line) ≡ of_kind says (kind_named kind) d
about_is line word d kind says about = rw (about.has_object, about.of_kind) refl

passed_word : (line : Data) (word : List ℕ) (d : Data) (kind : List ℕ) (other : Result Event EventFault) → IsIn watch_words word → IsAbout line word d kind
    → of_kind set_event (kind_named kind) d ≡ other → of_kind deleted_event (kind_named kind) d ≡ other → of_kind bookmark_event (kind_named kind) d ≡ other
    → event_of line ≡ other
unfolding event_of
passed_word line word d kind other (inl is) about set deleted bookmark =
    rw (about.of_type ∙ ap (λ (it : List ℕ). Some (string it)) (sym is)) (about_is line word d kind set_event about ∙ set)
passed_word line word d kind other (inr (inl is)) about set deleted bookmark =
    rw (about.of_type ∙ ap (λ (it : List ℕ). Some (string it)) (sym is)) (about_is line word d kind set_event about ∙ set)
passed_word line word d kind other (inr (inr (inl is))) about set deleted bookmark =
    rw (about.of_type ∙ ap (λ (it : List ℕ). Some (string it)) (sym is)) (about_is line word d kind deleted_event about ∙ deleted)
passed_word line word d kind other (inr (inr (inr (inl is)))) about set deleted bookmark =
    rw (about.of_type ∙ ap (λ (it : List ℕ). Some (string it)) (sym is)) (about_is line word d kind bookmark_event about ∙ bookmark)
passed_word line word d kind other (inr (inr (inr (inr none)))) about set deleted bookmark = absurd none

bookmark_is : (line : Data) (d : Data) (kind : List ℕ) → IsAbout line (codes "BOOKMARK") d kind → event_of line ≡ of_kind bookmark_event (kind_named kind) d
unfolding event_of
bookmark_is line d kind about = rw about.of_type (about_is line (codes "BOOKMARK") d kind bookmark_event about)

no_end_ignored : (d : Data) (kind : List ℕ) (found : Option Kind) → kind_named kind ≡ found → (IsIn ending_kinds kind × SaysEnd d → ⊥)
    → of_kind bookmark_event found d ≡ Ok Ignored
no_end_ignored d kind None is none = refl
no_end_ignored d kind (Some one) is none = ignored_end kind one d (names_kind kind one is) none

passed_is : (line : Data) → IsPassedBy line → event_of line ≡ Ok Ignored
passed_is line (word, d, kind, is_in, about, inl none) =
    let unnamed : kind_named kind ≡ None = unread kind none in
    passed_word line word d kind (Ok Ignored) is_in about (rw unnamed refl) (rw unnamed refl) (rw unnamed refl)
passed_is line (word, d, kind, is_in, about, inr (is, none)) =
    bookmark_is line d kind (subst (λ it. IsAbout line it d kind) is about) ∙ no_end_ignored d kind (kind_named kind) refl none

expired_is : (line : Data) → HasText (codes "type") line (codes "ERROR") → event_of line ≡ Ok Expired
unfolding event_of
expired_is line has = rw has refl

list_end_is : (line d : Data) (kind : List ℕ) (group : ListGroup) → IsAbout line (codes "BOOKMARK") d kind → EndsList kind group → SaysEnd d
    → event_of line ≡ Ok (ListEnd group)
list_end_is line d kind groups.Config about is says = bookmark_is line d kind about ∙ rw (kind_named_so kind kinds.Pool is, ends d says) refl
list_end_is line d kind groups.Service about is says = bookmark_is line d kind about ∙ rw (kind_named_so kind kinds.Service is, ends d says) refl
list_end_is line d kind groups.Endpoint about is says = bookmark_is line d kind about ∙ rw (kind_named_so kind kinds.Slice is, ends d says) refl

-- ---- and nothing else is

-- what is told of a line by its result
record IsSorted (line : Data) (read : Result Event EventFault) : Type 0 where
  no_event : read ≡ Err NotEvent → IsNoEvent line
  ignored : read ≡ Ok Ignored → IsPassedBy line
  expired : read ≡ Ok Expired → HasText (codes "type") line (codes "ERROR")
  json : read ≡ Err NotJson → ⊥

-- an event of another kind, or a field at fault
field_sorted : {A : Type 0} (line : Data) (make : A → Event) (read : Result A Path) → ((x : A) → make x ≡ Ignored → ⊥) → ((x : A) → make x ≡ Expired → ⊥)
    → IsSorted line (in_field (as_put make read))
field_sorted line make (Ok x) ignored expired = record {
  no_event = λ e. absurd cc;
  ignored = λ e. absurd (ignored x cc);
  expired = λ e. absurd (expired x cc);
  json = λ e. absurd cc;
}
field_sorted line make (Err path) ignored expired = record {
  no_event = λ e. absurd cc;
  ignored = λ e. absurd cc;
  expired = λ e. absurd cc;
  json = λ e. absurd cc;
}

set_sorted : (line : Data) (kind : Kind) (d : Data) → IsSorted line (set_event kind d)
set_sorted line kind d = subst (λ it. IsSorted line (in_field it)) (sym (changed_as_told kind d))
    (field_sorted line (changed_with kind) (rows_told (changed_rows kind) d) (λ told e. absurd cc) (λ told e. absurd cc))

deleted_sorted : (line : Data) (kind : Kind) (d : Data) → IsSorted line (deleted_event kind d)
deleted_sorted line kind d = subst (λ it. IsSorted line (in_field it)) (sym (deleted_as_told kind d))
    (field_sorted line (deleted_with kind) (rows_told (deleted_rows kind) d) (λ told e. absurd cc) (λ told e. absurd cc))

members_sorted : (line : Data) → IsSorted line (in_field (members_of line))
members_sorted line = subst (λ it. IsSorted line (in_field it)) (sym (members_as_told line))
    (field_sorted line members_with (rows_told members_rows line) (λ told e. absurd cc) (λ told e. absurd cc))

frame_sorted : (line : Data) → IsSorted line (in_field (frame_of line))
frame_sorted line = subst (λ it. IsSorted line (in_field it)) (sym (frames_as_told line))
    (field_sorted line frame_with (rows_told frame_rows line) (λ told e. absurd cc) (λ told e. absurd cc))

-- a list ends, or nothing matters here
end_sorted : (line : Data) (group : Option ListGroup) (ends : Bool) → (list_end group ends ≡ Ignored → IsPassedBy line)
    → IsSorted line (Ok (list_end group ends))
end_sorted line (Some group) true passed = record { no_event = λ e. absurd cc; ignored = λ e. absurd cc; expired = λ e. absurd cc; json = λ e. absurd cc }
end_sorted line (Some group) false passed = record { no_event = λ e. absurd cc; ignored = λ e. passed refl; expired = λ e. absurd cc; json = λ e. absurd cc }
end_sorted line None ends passed = record { no_event = λ e. absurd cc; ignored = λ e. passed refl; expired = λ e. absurd cc; json = λ e. absurd cc }

listed : (text : List ℕ) (kind : Kind) → Names text kind → IsIn ending_kinds text → (group : ListGroup) × (listed_in kind ≡ Some group)
listed text kinds.Pool is ending = (_, refl)
listed text kinds.Service is ending = (_, refl)
listed text kinds.Slice is ending = (_, refl)
listed text kinds.L2 is ending = absurd (no_ending text (codes "L2Advertisement") is ending refl refl refl)
listed text kinds.Bgp is ending = absurd (no_ending text (codes "BGPAdvertisement") is ending refl refl refl)
listed text kinds.Peer is ending = absurd (no_ending text (codes "BGPPeer") is ending refl refl refl)
listed text kinds.Community is ending = absurd (no_ending text (codes "Community") is ending refl refl refl)
listed text kinds.Namespace is ending = absurd (no_ending text (codes "Namespace") is ending refl refl refl)
listed text kinds.Node is ending = absurd (no_ending text (codes "Node") is ending refl refl refl)

ends_ignored : (group : ListGroup) → list_end (Some group) true ≡ Ignored → ⊥
ends_ignored group e = absurd cc

bookmark_sorted : (line : Data) (d : Data) (text : List ℕ) (kind : Kind) → Names text kind → IsAbout line (codes "BOOKMARK") d text
    → IsSorted line (bookmark_event kind d)
bookmark_sorted line d text kind is about = end_sorted line (listed_in kind) (ends_list d) (λ e. (
  codes "BOOKMARK",
  d,
  text,
  inr (inr (inr (inl refl))),
  about,
  inr (
    refl,
    λ ending.
        let group = listed text kind is ending.0 in
        ends_ignored group.0 (ap (λ it. list_end it true) (sym group.1) ∙ ap (λ it. list_end (listed_in kind) it) (sym (ends d ending.1)) ∙ e),
  ),
))

-- ---- by the object of a line

watched_sorted : (line : Data) (word : List ℕ) → IsIn watch_words word → HasText (codes "type") line word → (says : Says)
    → ((d : Data) (text : List ℕ) (kind : Kind) → Names text kind → IsAbout line word d text → IsSorted line (says kind d))
    → IsSorted line (watched says (get (codes "object") line))
watched_sorted line word is_in has says each = by_object (get (codes "object") line) refl
  where
    none_of : ((d : Data) (kind : List ℕ) → IsAbout line word d kind → ⊥) → IsSorted line (Err NotEvent)
    none_of none = record { no_event = λ e. inr (word, is_in, has, none); ignored = λ e. absurd cc; expired = λ e. absurd cc; json = λ e. absurd cc }

    by_kind : (d : Data) (text : List ℕ) → IsAbout line word d text → (found : Option Kind) → kind_named text ≡ found → IsSorted line (of_kind says found d)
    by_kind d text about (Some kind) is = each d text kind (names_kind text kind is) about
    by_kind d text about None is = record {
      no_event = λ e. absurd cc;
      ignored = λ e. (word, d, text, is_in, about, inl (λ one names. no_such (sym is ∙ kind_named_so text one names)));
      expired = λ e. absurd cc;
      json = λ e. absurd cc;
    }

    by_text : (d : Data) → get (codes "object") line ≡ Some d → (found : Option (List ℕ)) → text_in (codes "kind") d ≡ found
        → IsSorted line (of_object says found d)
    by_text d at (Some text) is = by_kind d text (record { of_type = has; has_object = at; of_kind = has_text (codes "kind") d text is }) (kind_named text) refl
    by_text d at None is = none_of (λ other kind about. no_text d other kind (sym at ∙ about.has_object) is about.of_kind)

    by_object : (found : Option Data) → get (codes "object") line ≡ found → IsSorted line (watched says found)
    by_object (Some d) is = by_text d is (text_in (codes "kind") d) refl
    by_object None is = none_of (λ d kind about. no_object d (sym is ∙ about.has_object))

-- ---- by the type of a line

if_word : (line : Data) (b : Bool) (text word : List ℕ) (one other : Result Event EventFault) → bytes_eq text word ≡ b → (text ≡ word → IsSorted line one)
    → ((word ≡ text → ⊥) → IsSorted line other) → IsSorted line (cond b one other)
if_word line true text word one other is first others = first ((bytes_eq-Decides text word).0 is)
if_word line false text word one other is first others = others (λ e. unlike word text e is)

error_sorted : (line : Data) → HasText (codes "type") line (codes "ERROR") → IsSorted line (Ok Expired)
error_sorted line has = record { no_event = λ e. absurd cc; ignored = λ e. absurd cc; expired = λ e. has; json = λ e. absurd cc }

typed_sorted : (line : Data) (text : List ℕ) → HasText (codes "type") line text → IsSorted line (of_type text line)
typed_sorted line text has =
    if_word line (bytes_eq text (codes "ADDED")) text (codes "ADDED") _ _ refl
    (λ e. watched_sorted line (codes "ADDED") (inl refl) (typed (codes "ADDED") e) set_event (λ d name kind is about. set_sorted line kind d)) (λ n1.
    if_word line (bytes_eq text (codes "MODIFIED")) text (codes "MODIFIED") _ _ refl (λ e.
    watched_sorted line (codes "MODIFIED") (inr (inl refl)) (typed (codes "MODIFIED") e) set_event (λ d name kind is about. set_sorted line kind d)) (λ n2.
    if_word line (bytes_eq text (codes "DELETED")) text (codes "DELETED") _ _ refl (λ e. watched_sorted line (codes "DELETED") (inr (inr (inl refl)))
    (typed (codes "DELETED") e) deleted_event (λ d name kind is about. deleted_sorted line kind d)) (λ n3.
    if_word line (bytes_eq text (codes "BOOKMARK")) text (codes "BOOKMARK") _ _ refl (λ e. watched_sorted line (codes "BOOKMARK") (inr (inr (inr (inl refl))))
    (typed (codes "BOOKMARK") e) bookmark_event (λ d name kind is about. bookmark_sorted line d name kind is about)) (λ n4.
    if_word line (bytes_eq text (codes "ERROR")) text (codes "ERROR") _ _ refl (λ e. error_sorted line (typed (codes "ERROR") e)) (λ n5.
    if_word line (bytes_eq text (codes "MEMBERS")) text (codes "MEMBERS") _ _ refl (λ e. members_sorted line) (λ n6.
    if_word line (bytes_eq text (codes "FRAME")) text (codes "FRAME") _ _ refl (λ e. frame_sorted line) (λ n7.
    record {
      no_event = λ e. inl (λ word is_in other. none word (same_type word other) is_in n1 n2 n3 n4 n5 n6 n7);
      ignored = λ e. absurd cc;
      expired = λ e. absurd cc;
      json = λ e. absurd cc;
    })))))))
  where
    typed : (word : List ℕ) → text ≡ word → HasText (codes "type") line word
    typed word e = has ∙ ap (λ (it : List ℕ). Some (string it)) e

    same_type : (word : List ℕ) → HasText (codes "type") line word → word ≡ text
    same_type word other = let both : Some (string word) ≡ Some (string text) = sym other ∙ has in cc

    none : (word : List ℕ) → word ≡ text → IsIn line_words word → (codes "ADDED" ≡ text → ⊥) → (codes "MODIFIED" ≡ text → ⊥) → (codes "DELETED" ≡ text → ⊥)
        → (codes "BOOKMARK" ≡ text → ⊥)
        → (codes "ERROR" ≡ text → ⊥) → (codes "MEMBERS" ≡ text → ⊥) → (codes "FRAME" ≡ text → ⊥) → ⊥
    none word same (inl e) n1 n2 n3 n4 n5 n6 n7 = n1 (e ∙ same)
    none word same (inr (inl e)) n1 n2 n3 n4 n5 n6 n7 = n2 (e ∙ same)
    none word same (inr (inr (inl e))) n1 n2 n3 n4 n5 n6 n7 = n3 (e ∙ same)
    none word same (inr (inr (inr (inl e)))) n1 n2 n3 n4 n5 n6 n7 = n4 (e ∙ same)
    none word same (inr (inr (inr (inr (inl e))))) n1 n2 n3 n4 n5 n6 n7 = n5 (e ∙ same)
    none word same (inr (inr (inr (inr (inr (inl e)))))) n1 n2 n3 n4 n5 n6 n7 = n6 (e ∙ same)
    none word same (inr (inr (inr (inr (inr (inr (inl e))))))) n1 n2 n3 n4 n5 n6 n7 = n7 (e ∙ same)
    none word same (inr (inr (inr (inr (inr (inr (inr never))))))) n1 n2 n3 n4 n5 n6 n7 = never

type_sorted : (line : Data) (found : Option (List ℕ)) → text_in (codes "type") line ≡ found → IsSorted line (of_type_if found line)
type_sorted line (Some text) is = typed_sorted line text (has_text (codes "type") line text is)
type_sorted line None is = record {
  no_event = λ e. inl (λ word is_in has. no_type word (sym is ∙ text_is (codes "type") line word has));
  ignored = λ e. absurd cc;
  expired = λ e. absurd cc;
  json = λ e. absurd cc;
}

sorted : (line : Data) → IsSorted line (event_of line)
unfolding event_of
sorted line = type_sorted line (text_in (codes "type") line) refl

pub others_are_passed_by : (line : Data) → OthersArePassedBy line
others_are_passed_by line =
    let is : IsSorted line (event_of line) = sorted line in
    record {
      no_event = (is.no_event, no_event_is line);
      ignored = (is.ignored, passed_is line);
      expired = (is.expired, expired_is line);
      list_end = λ d kind group. list_end_is line d kind group;
    }

-- ---- bytes

json_by : (found : Option Data) → event_if found ≡ Err NotJson → found ≡ None
json_by (Some d) e = absurd ((sorted d).json e)
json_by None e = refl

pub lines_are_read_by_value : (line : List ℕ) → IsReadByValue line
unfolding event_of_line
lines_are_read_by_value line = record {
  value = λ d is. rw is refl;
  not_json = (λ e. json_by (value_of_line line) e, λ none. rw none refl);
}

-- ---- by their tables

set_told : (line d : Data) (word name : List ℕ) (kind : Kind) → IsIn set_words word → IsAbout line word d name → Names name kind
    → event_of line ≡ in_field (changed_of kind d)
unfolding event_of
set_told line d word name kind (inl is) about names =
    rw (about.of_type ∙ ap (λ (it : List ℕ). Some (string it)) (sym is)) (about_is line word d name set_event about ∙ rw (kind_named_so name kind names) refl)
set_told line d word name kind (inr (inl is)) about names =
    rw (about.of_type ∙ ap (λ (it : List ℕ). Some (string it)) (sym is)) (about_is line word d name set_event about ∙ rw (kind_named_so name kind names) refl)
set_told line d word name kind (inr (inr none)) about names = absurd none

deleted_told : (line d : Data) (name : List ℕ) (kind : Kind) → IsAbout line (codes "DELETED") d name → Names name kind
    → event_of line ≡ in_field (deleted_of kind d)
unfolding event_of
deleted_told line d name kind about names =
    rw about.of_type (about_is line (codes "DELETED") d name deleted_event about ∙ rw (kind_named_so name kind names) refl)

members_told : (line : Data) → HasText (codes "type") line (codes "MEMBERS") → event_of line ≡ in_field (members_of line)
unfolding event_of
members_told line has = rw has refl

frame_told : (line : Data) → HasText (codes "type") line (codes "FRAME") → event_of line ≡ in_field (frame_of line)
unfolding event_of
frame_told line has = rw has refl

pub lines_as_told : (line : Data) → LinesAsTold line
lines_as_told line = record {
  set = λ word d name kind is_in about names. set_told line d word name kind is_in about names ∙ ap in_field (changed_as_told kind d);
  deleted = λ d name kind about names. deleted_told line d name kind about names ∙ ap in_field (deleted_as_told kind d);
  members = λ has. members_told line has ∙ ap in_field (members_as_told line);
  frame = λ has. frame_told line has ∙ ap in_field (frames_as_told line);
}
