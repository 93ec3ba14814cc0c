-- Versions are decimal numbers without leading zeros, from 1 below 2 ^ 64.
use Rattle.std.proofs.Common.{◌≡◌, ℕ, zero, suc, ◌^◌, ◌<◌, ◌≤◌, Bool, true, false, List, [], ◌∷◌, length, get_or, Option, Some, None, Result, Ok}
use Rattle.std.proofs.Common.{Err, refl, sym, ap, subst, ◌∙◌, eqb, ltb, ltb-true, cond, ◌&&◌, not, arith, option_and_then, codes, bytes_eq, eq-eqb}
use Rattle.std.specs.Prelude.{decimal}
use Rattle.std.specs.List.{list_all}
use Rattle.std.specs.Char.{is_ascii_digit}
use Rattle.std.specs.Str.{all_ascii_digits}
use Rattle.std.specs.Str.Parse.{digits_value}
use Rattle.std.proofs.lemmas.Bool.{lt-ltb, ne_eqb}
use Rattle.std.proofs.lemmas.Fmt.{decimal-digits_value, digits_value-decimal, digits_decimal, first_decimal, decimal_digit}
use Rattle.serde_json.specs.Data.{Data}
use Rattle.serde_json.specs.Find.{get, as_str}
use Rattle.json_fields.specs.Path.{Path}
use Rattle.json_values.specs.Line.{value_of_line}
use Rattle.json_fields.specs.Reading.{◌>>=◌, within, where_there, some_of, or_missing, or_itself, value_at, optional_at, required_at}
use Rattle.kube_model.specs.declared.event.Event.{Event}
use Rattle.kube_model.specs.declared.event.Event.TheVariants.{Changed, Deleted, Members, Frame}
use Rattle.kube_model.specs.declared.event.EventFault.{EventFault}
use Rattle.kube_model.specs.declared.event.ListGroup.{ListGroup}
use Rattle.kube_model.specs.declared.object.Kind.{Kind}
use Rattle.kube_model.specs.declared.object.Object.{Object}
use Rattle.kube_model.specs.declared.key.Key.{Key}
use Rattle.kube_model.specs.Named.{kind_named}
use Rattle.kube_events.specs.Named.{version_named, version_of}
use Rattle.kube_events.specs.Fields.{key_of, version_field, labels_field}
use Rattle.kube_events.specs.ObjectFields.{body_of, changed_of, deleted_of}
use Rattle.kube_events.specs.Members.{members_field, members_of, distinct_names}
use Rattle.kube_events.specs.Frame.{interface_field, bytes_field, frame_of}
use Rattle.kube_events.specs.Event.{in_field, text_in, list_end, listed_in, ends_list, Says, set_event, deleted_event, bookmark_event}
use Rattle.kube_events.specs.Event.{of_kind, of_object, watched, of_type, of_type_if, event_of, event_if, event_of_line}
use Rattle.kube_events.proofs.Versions.{own, same_test, chosen}
use Rattle.event_laws.specs.Versions.{IsVersion, VersionsAreDecimal, SetVersionsAreVersions}

named_by : (a b c d : Bool) (value n : ℕ) → cond (a && not b && c && d) (Some value) None ≡ Some n
    → (a ≡ true) × (b ≡ false) × (c ≡ true) × (d ≡ true) × (value ≡ n)
named_by true false true true value n e = (refl, refl, refl, refl, cc)
named_by true false true false value n e = absurd cc
named_by true false false d value n e = absurd cc
named_by true true c d value n e = absurd cc
named_by false b c d value n e = absurd cc

not_equal : (a b : ℕ) → eqb a b ≡ false → a ≡ b → ⊥
not_equal a b differ same = let equal : eqb a b ≡ true = eq-eqb a b same in absurd cc

from_one : (n : ℕ) (text : List ℕ) → text ≡ decimal n → (get_or text 0 0 ≡ 48 → ⊥) → 1 ≤ n
from_one zero text is first = absurd (first (ap (λ (t : List ℕ). get_or t 0 0) (is ∙ decimal_digit 0 (omega arith))))
from_one (suc n) text is first = omega arith

to_decimal : (text : List ℕ) (n : ℕ) → version_named text ≡ Some n → (text ≡ decimal n) × IsVersion n
to_decimal text n named =
    let p = named_by (ltb 0 (length text)) (eqb (get_or text 0 0) 48) (list_all is_ascii_digit text) (ltb (digits_value 10 text) (2 ^ 64))
    (digits_value 10 text) n named in
    let first : get_or text 0 0 ≡ 48 → ⊥ = not_equal (get_or text 0 0) 48 p.1 in
    let small : digits_value 10 text < 2 ^ 64 = ltb-true (digits_value 10 text) (2 ^ 64) p.3 in
    let back : decimal (digits_value 10 text) ≡ text =
    decimal-digits_value own text (sym (same_test text) ∙ p.2) (ltb-true 0 (length text) p.0) (λ zero. absurd (first zero)) small in
    let is : text ≡ decimal n = sym back ∙ ap decimal p.4 in
    (is, (from_one n text is first, subst (λ m. m < 2 ^ 64) p.4 small))

not_empty : (text : List ℕ) → 48 < get_or text 0 0 → 0 < length text
not_empty [] high = omega (arith, high)
not_empty (c ∷ text) high = omega arith

from_decimal : (text : List ℕ) (n : ℕ) → (text ≡ decimal n) × IsVersion n → version_named text ≡ Some n
from_decimal text n is =
    let high : 48 < get_or text 0 0 = rw is.0 (first_decimal n is.1.0 is.1.1) in
    let value : digits_value 10 text ≡ n = ap (digits_value 10) is.0 ∙ digits_value-decimal own n is.1.1 in
    let digits : list_all is_ascii_digit text ≡ true = same_test text ∙ ap all_ascii_digits is.0 ∙ digits_decimal own n is.1.1 in
    chosen (ltb 0 (length text)) (eqb (get_or text 0 0) 48) (list_all is_ascii_digit text) (ltb (digits_value 10 text) (2 ^ 64)) (Some (digits_value 10 text))
    (lt-ltb _ _ (not_empty text high)) (ne_eqb _ _ (λ same. omega (arith, high, same))) digits (lt-ltb _ _ (rw value is.1.1))
    ∙ ap (λ (m : ℕ). Some m) value

pub versions_are_decimal : VersionsAreDecimal
versions_are_decimal text n = (to_decimal text n, from_decimal text n)

-- ---- the version of an object that a line sets

read_there : (path : Path) (read : Result ℕ Path) (n : ℕ) → (some_of (within path read) >>= or_missing path) ≡ Ok n → read ≡ Ok n
read_there path (Ok m) n e = cc
read_there path (Err fault) n e = absurd cc

value_there : (path : Path) (read : Data → Result ℕ Path) (found : Result (Option Data) Path) (n : ℕ)
    → ((found >>= where_there (λ value. some_of (within path (read value)))) >>= or_missing path) ≡ Ok n → (value : Data) × (read value ≡ Ok n)
value_there path read (Ok (Some value)) n e = (value, read_there path (read value) n e)
value_there path read (Ok None) n e = absurd cc
value_there path read (Err fault) n e = absurd cc

named_there : (found : Option ℕ) (n : ℕ) → or_itself found ≡ Ok n → found ≡ Some n
named_there (Some m) n e = cc
named_there None n e = absurd cc

text_there : (found : Option (List ℕ)) (n : ℕ) → or_itself (option_and_then version_named found) ≡ Ok n → IsVersion n
text_there (Some text) n e = (to_decimal text n (named_there (version_named text) n e)).1
text_there None n e = absurd cc

field_is_version : (d : Data) (n : ℕ) → version_field d ≡ Ok n → IsVersion n
unfolding required_at optional_at version_of
field_is_version d n e =
    let there = value_there (codes "metadata.resourceVersion") version_of (value_at (codes "metadata.resourceVersion") d) n e in
    text_there (as_str there.0) n there.1

set_by : {K L : Type 0} (key : Result K Path) (version : Result ℕ Path) (labels : Result L Path) (body : Result (K → L → Object) Path) (n : ℕ) (object : Object)
    → (key >>= λ k. version >>= λ v. labels >>= λ l. body >>= λ make. Ok (Changed v (make k l))) ≡ Ok (Changed n object) → version ≡ Ok n
set_by (Ok k) (Ok v) (Ok l) (Ok make) n object e = cc
set_by (Ok k) (Ok v) (Ok l) (Err path) n object e = absurd cc
set_by (Ok k) (Ok v) (Err path) body n object e = absurd cc
set_by (Ok k) (Err path) labels body n object e = absurd cc
set_by (Err path) version labels body n object e = absurd cc

changed_is_version : (kind : Kind) (d : Data) (n : ℕ) (object : Object) → changed_of kind d ≡ Ok (Changed n object) → IsVersion n
unfolding changed_of
changed_is_version kind d n object e = field_is_version d n (set_by (key_of kind d) (version_field d) (labels_field d) (body_of kind d) n object e)

-- What is read is no object that is set, but with a version.
abbrev SetsVersion : Result Event EventFault → Type 0
SetsVersion read = (n : ℕ) (object : Object) → read ≡ Ok (Changed n object) → IsVersion n

in_field_is : (read : Result Event Path) (event : Event) → in_field read ≡ Ok event → read ≡ Ok event
in_field_is (Ok e) event is = cc
in_field_is (Err path) event is = absurd cc

set_sets : (kind : Kind) (d : Data) → SetsVersion (set_event kind d)
set_sets kind d n object e = changed_is_version kind d n object (in_field_is (changed_of kind d) (Changed n object) e)

gone_by : (kind : Kind) (key : Result Key Path) (version : Result ℕ Path) → SetsVersion (in_field (key >>= λ k. version >>= λ v. Ok (Deleted kind k)))
gone_by kind (Ok k) (Ok v) n object e = absurd cc
gone_by kind (Ok k) (Err path) n object e = absurd cc
gone_by kind (Err path) version n object e = absurd cc

gone_sets : (kind : Kind) (d : Data) → SetsVersion (deleted_event kind d)
unfolding deleted_of
gone_sets kind d = gone_by kind (key_of kind d) (version_field d)

list_end_sets : (group : Option ListGroup) (ends : Bool) → SetsVersion (Ok (list_end group ends))
list_end_sets (Some group) true n object e = absurd cc
list_end_sets (Some group) false n object e = absurd cc
list_end_sets None ends n object e = absurd cc

bookmark_sets : (kind : Kind) (d : Data) → SetsVersion (bookmark_event kind d)
bookmark_sets kind d = list_end_sets (listed_in kind) (ends_list d)

kind_sets : (says : Says) → ((kind : Kind) (d : Data) → SetsVersion (says kind d)) → (kind : Option Kind) (d : Data) → SetsVersion (of_kind says kind d)
kind_sets says each (Some kind) d = each kind d
kind_sets says each None d = λ n object e. absurd cc

object_sets : (says : Says) → ((kind : Kind) (d : Data) → SetsVersion (says kind d)) → (name : Option (List ℕ)) (d : Data) → SetsVersion (of_object says name d)
object_sets says each (Some name) d = kind_sets says each (kind_named name) d
object_sets says each None d = λ n object e. absurd cc

watched_sets : (says : Says) → ((kind : Kind) (d : Data) → SetsVersion (says kind d)) → (found : Option Data) → SetsVersion (watched says found)
watched_sets says each (Some d) = object_sets says each (text_in (codes "kind") d) d
watched_sets says each None = λ n object e. absurd cc

members_by : (names : Result (List (List ℕ)) Path) → SetsVersion (in_field (names >>= λ found. Ok (Members (distinct_names found))))
members_by (Ok names) n object e = absurd cc
members_by (Err path) n object e = absurd cc

members_sets : (line : Data) → SetsVersion (in_field (members_of line))
unfolding members_of
members_sets line = members_by (members_field line)

frame_by : (interface bytes : Result (List ℕ) Path) → SetsVersion (in_field (interface >>= λ i. bytes >>= λ b. Ok (Frame i b)))
frame_by (Ok i) (Ok b) n object e = absurd cc
frame_by (Ok i) (Err path) n object e = absurd cc
frame_by (Err path) bytes n object e = absurd cc

frame_sets : (line : Data) → SetsVersion (in_field (frame_of line))
unfolding frame_of
frame_sets line = frame_by (interface_field line) (bytes_field line)

either : (b : Bool) (one other : Result Event EventFault) → SetsVersion one → SetsVersion other → SetsVersion (cond b one other)
either true one other first second = first
either false one other first second = second

type_sets : (name : List ℕ) (line : Data) → SetsVersion (of_type name line)
type_sets name line =
    let found : Option Data = get (codes "object") line in
    let set : SetsVersion (watched set_event found) = watched_sets set_event set_sets found in
    either (bytes_eq name (codes "ADDED")) _ _ set
    (either (bytes_eq name (codes "MODIFIED")) _ _ set
    (either (bytes_eq name (codes "DELETED")) _ _ (watched_sets deleted_event gone_sets found)
    (either (bytes_eq name (codes "BOOKMARK")) _ _ (watched_sets bookmark_event bookmark_sets found)
    (either (bytes_eq name (codes "ERROR")) _ _ (λ n object e. absurd cc)
    (either (bytes_eq name (codes "MEMBERS")) _ _ (members_sets line)
    (either (bytes_eq name (codes "FRAME")) _ _ (frame_sets line) (λ n object e. absurd cc)))))))

type_if_sets : (name : Option (List ℕ)) (line : Data) → SetsVersion (of_type_if name line)
type_if_sets (Some name) line = type_sets name line
type_if_sets None line = λ n object e. absurd cc

value_sets : (value : Option Data) → SetsVersion (event_if value)
unfolding event_of
value_sets (Some d) = type_if_sets (text_in (codes "type") d) d
value_sets None = λ n object e. absurd cc

pub set_versions_are_versions : SetVersionsAreVersions
unfolding event_of_line
set_versions_are_versions line n object e = value_sets (value_of_line line) n object e
