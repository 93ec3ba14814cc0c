-- Lines of bookmarks, members and frames.
use Rattle.std.proofs.Common.{◌≡◌, ◌≢◌, ◌⊎◌, ℕ, Bool, true, false, List, [], ◌∷◌, Option, Some, None, Ok, Ordering}
use Rattle.std.proofs.Common.{Less, Equal, Greater, refl, sym, ap, ◌∙◌, inl, inr, ⊎_elim, codes, bytes_eq}
use Rattle.std.specs.Ordering.{match_ordering, ordering_reverse}
use Rattle.std.specs.List.{AllByRecursion}
use Rattle.std.specs.List.Sorted.{IsStrictlySortedBy}
use Rattle.std.specs.BTreeSet.{insert_key}
use Rattle.std.proofs.lemmas.Slice.Eq.{bytes_eq-Decides}
use Rattle.hex.specs.Hex.{decode_of, encode_lower}
use Rattle.hex.proofs.HexLemmas.{decode_of-encode_lower}
use Rattle.serde_json.specs.Data.{Data, string}
use Rattle.json_fields.specs.Reading.{is_text, text_of}
use Rattle.mlb_base.specs.Items.{IsIn}
use Rattle.kube_labels.specs.Names.{name_cmp}
use Rattle.kube_labels.proofs.NameLaws.{name_cmp-total, name_cmp-exact}
use Rattle.kube_model.specs.declared.event.Event.TheVariants.{Frame, Ignored}
use Rattle.kube_model.specs.declared.event.ListGroup.{ListGroup}
use Rattle.kube_model.specs.declared.object.Kind.{Kind}
use Rattle.kube_events.specs.Members.{names_with, distinct_names, members_of}
use Rattle.kube_events.specs.Frame.{bytes_of, interface_field, bytes_field, frame_of}
use Rattle.kube_events.specs.Event.{list_end, listed_in, end_annotation, ends_list, event_of, event_of_line}
use Rattle.event_laws.specs.ObjectLines.{Field, spelled}
use Rattle.event_laws.specs.Telling.{Tells}
use Rattle.event_laws.specs.OtherLines.{BookmarksAreRead, AreMembers, MembersAreRead, frame_line, FramesAreRead, FramesReadBack}
use Rattle.event_laws.proofs.Spelled.{kinds_named, own_value, required_read, text_read, from_bytes}

-- ---- bookmarks

bookmark_read : (line : List ℕ) (kind : Kind) (d : Data) → Tells line (codes "BOOKMARK") kind d
    → event_of_line line ≡ Ok (list_end (listed_in kind) (is_text (end_annotation d) (codes "true")))
unfolding event_of event_of_line ends_list
bookmark_read line kind d tells = rw (tells.spells, tells.of_type, tells.has_object, tells.of_kind, kinds_named kind) refl

no_list : (ends : Bool) → list_end None ends ≡ Ignored
no_list ends = refl

not_ended : (group : Option ListGroup) → list_end group false ≡ Ignored
not_ended (Some group) = refl
not_ended None = refl

not_true_by : (b : Bool) (text : List ℕ) → bytes_eq text (codes "true") ≡ b → Some text ≢ Some (codes "true") → b ≡ false
not_true_by true text e other = absurd (other (ap (λ (t : List ℕ). Some t) ((bytes_eq-Decides text (codes "true")).0 e)))
not_true_by false text e other = refl

is_not_true : (found : Option (List ℕ)) → found ≢ Some (codes "true") → is_text found (codes "true") ≡ false
is_not_true (Some text) other = not_true_by (bytes_eq text (codes "true")) text refl other
is_not_true None other = refl

pub bookmarks_are_read : BookmarksAreRead
bookmarks_are_read line kind d tells =
    let read = bookmark_read line kind d tells in
    record {
      ends = λ group listed ends. read ∙ rw (listed, ends) refl;
      other_kind = λ unlisted. read ∙ rw unlisted refl;
      not_true = λ other. read ∙ rw (is_not_true (end_annotation d) other) (ap (λ e. Ok e) (not_ended (listed_in kind)));
    }

-- ---- members

abbrev Names : Type 0
Names = List (List ℕ)

all_inserted_by : (r : Ordering) (P : List ℕ → Type 0) (x k : List ℕ) (xs : Names) → AllByRecursion P (insert_key name_cmp xs k) → P x → AllByRecursion P xs
    → P k
    → AllByRecursion P (match_ordering r (k ∷ x ∷ xs) (x ∷ xs) (x ∷ insert_key name_cmp xs k))
all_inserted_by Less P x k xs later first rest new = (new, (first, rest))
all_inserted_by Equal P x k xs later first rest new = (first, rest)
all_inserted_by Greater P x k xs later first rest new = (first, later)

all_inserted : (P : List ℕ → Type 0) (xs : Names) (k : List ℕ) → AllByRecursion P xs → P k → AllByRecursion P (insert_key name_cmp xs k)
all_inserted P [] k all new = (new, tt)
all_inserted P (x ∷ xs) k all new = all_inserted_by (name_cmp k x) P x k xs (all_inserted P xs k all.1 new) all.0 all.1 new

all_above : (k x : List ℕ) → name_cmp k x ≡ Less → (xs : Names) → AllByRecursion (λ y. name_cmp x y ≡ Less) xs → AllByRecursion (λ y. name_cmp k y ≡ Less) xs
all_above k x below [] all = tt
all_above k x below (y ∷ xs) all = (name_cmp-total.trans k x y below all.0, all_above k x below xs all.1)

ascend_by : (r : Ordering) (x k : List ℕ) (xs : Names) → name_cmp k x ≡ r → IsStrictlySortedBy name_cmp (insert_key name_cmp xs k)
    → IsStrictlySortedBy name_cmp (x ∷ xs)
    → IsStrictlySortedBy name_cmp (match_ordering r (k ∷ x ∷ xs) (x ∷ xs) (x ∷ insert_key name_cmp xs k))
unfolding IsStrictlySortedBy
ascend_by Less x k xs p later s = ((p, all_above k x p xs s.0), s)
ascend_by Equal x k xs p later s = s
ascend_by Greater x k xs p later s =
    let above : name_cmp x k ≡ Less = name_cmp-total.antisymm x k ∙ ap ordering_reverse p in
    (all_inserted (λ y. name_cmp x y ≡ Less) xs k s.0 above, later)

inserted_ascend : (xs : Names) (k : List ℕ) → IsStrictlySortedBy name_cmp xs → IsStrictlySortedBy name_cmp (insert_key name_cmp xs k)
unfolding IsStrictlySortedBy
inserted_ascend [] k s = (tt, tt)
inserted_ascend (x ∷ xs) k s = ascend_by (name_cmp k x) x k xs refl (inserted_ascend xs k s.1) s

found_by : (r : Ordering) (x k q : List ℕ) (xs : Names) → (IsIn (insert_key name_cmp xs k) q → (k ≡ q) ⊎ IsIn xs q)
    → IsIn (match_ordering r (k ∷ x ∷ xs) (x ∷ xs) (x ∷ insert_key name_cmp xs k)) q → (k ≡ q) ⊎ IsIn (x ∷ xs) q
found_by Less x k q xs later found = found
found_by Equal x k q xs later found = inr found
found_by Greater x k q xs later (inl here) = inr (inl here)
found_by Greater x k q xs later (inr there) = ⊎_elim (λ new. inl new) (λ old. inr (inr old)) (later there)

found_inserted : (xs : Names) (k q : List ℕ) → IsIn (insert_key name_cmp xs k) q → (k ≡ q) ⊎ IsIn xs q
found_inserted [] k q found = found
found_inserted (x ∷ xs) k q found = found_by (name_cmp k x) x k q xs (found_inserted xs k q) found

there_by : (r : Ordering) (x k q : List ℕ) (xs : Names) → name_cmp k x ≡ r → ((k ≡ q) ⊎ IsIn xs q → IsIn (insert_key name_cmp xs k) q)
    → (k ≡ q) ⊎ IsIn (x ∷ xs) q → IsIn (match_ordering r (k ∷ x ∷ xs) (x ∷ xs) (x ∷ insert_key name_cmp xs k)) q
there_by Less x k q xs p later found = found
there_by Equal x k q xs p later (inl new) = inl (sym (name_cmp-exact k x p) ∙ new)
there_by Equal x k q xs p later (inr old) = old
there_by Greater x k q xs p later (inl new) = inr (later (inl new))
there_by Greater x k q xs p later (inr (inl here)) = inl here
there_by Greater x k q xs p later (inr (inr old)) = inr (later (inr old))

there_inserted : (xs : Names) (k q : List ℕ) → (k ≡ q) ⊎ IsIn xs q → IsIn (insert_key name_cmp xs k) q
there_inserted [] k q found = found
there_inserted (x ∷ xs) k q found = there_by (name_cmp k x) x k q xs refl (there_inserted xs k q) found

with_ascend : (found names : Names) → IsStrictlySortedBy name_cmp found → IsStrictlySortedBy name_cmp (names_with found names)
with_ascend found [] s = s
with_ascend found (name ∷ names) s = with_ascend (insert_key name_cmp found name) names (inserted_ascend found name s)

with_found : (found names : Names) (q : List ℕ) → IsIn (names_with found names) q → IsIn found q ⊎ IsIn names q
with_found found [] q is = inl is
with_found found (name ∷ names) q is =
    ⊎_elim
    (λ before. ⊎_elim (λ new. inr (inl new)) (λ old. inl old) (found_inserted found name q before))
    (λ later. inr (inr later))
    (with_found (insert_key name_cmp found name) names q is)

with_there : (found names : Names) (q : List ℕ) → IsIn found q ⊎ IsIn names q → IsIn (names_with found names) q
with_there found [] q (inl is) = is
with_there found [] q (inr none) = absurd none
with_there found (name ∷ names) q (inl is) = with_there (insert_key name_cmp found name) names q (inl (there_inserted found name q (inr is)))
with_there found (name ∷ names) q (inr (inl new)) = with_there (insert_key name_cmp found name) names q (inl (there_inserted found name q (inl new)))
with_there found (name ∷ names) q (inr (inr later)) = with_there (insert_key name_cmp found name) names q (inr later)

none_ascend : IsStrictlySortedBy name_cmp []
unfolding IsStrictlySortedBy
none_ascend = tt

distinct_are_members : (names : Names) → AreMembers names (distinct_names names)
distinct_are_members names = record {
  ascend = with_ascend [] names none_ascend;
  same = λ name. (
    (λ is. ⊎_elim (λ none. absurd none) (λ is. is) (with_found [] names name is)),
    (λ is. with_there [] names name (inr is)),
  );
}

pub members_are_read : MembersAreRead
unfolding event_of event_of_line members_of
members_are_read line value names spells of_type are = (distinct_names names, rw (spells, of_type, are) refl, distinct_are_members names)

-- ---- frames

digits_read : (digits bytes : List ℕ) → decode_of digits ≡ Ok bytes → bytes_of (string digits) ≡ Ok bytes
unfolding bytes_of
digits_read digits bytes is = rw is refl

frame_event : (d : Data) (interface bytes : List ℕ) → interface_field d ≡ Ok interface → bytes_field d ≡ Ok bytes → frame_of d ≡ Ok (Frame interface bytes)
unfolding frame_of
frame_event d interface bytes is_interface are_bytes = rw (is_interface, are_bytes) refl

frame_read : (interface digits bytes : List ℕ) → decode_of digits ≡ Ok bytes → event_of (frame_line interface digits) ≡ Ok (Frame interface bytes)
unfolding event_of
frame_read interface digits bytes is =
    let fields : List Field =
    (codes "bytes", Some (string digits)) ∷ (codes "interface", Some (string interface)) ∷ (codes "type", Some (string (codes "FRAME"))) ∷ [] in
    let at_interface : interface_field (spelled fields) ≡ Ok interface = required_read text_of (codes "interface") (spelled fields) (string interface) interface
    (own_value (codes "interface") fields refl) (text_read interface) in
    let at_bytes : bytes_field (spelled fields) ≡ Ok bytes =
    required_read bytes_of (codes "bytes") (spelled fields) (string digits) bytes (own_value (codes "bytes") fields refl) (digits_read digits bytes is) in
    rw (frame_event (spelled fields) interface bytes at_interface at_bytes) refl

pub frames_are_read : FramesAreRead
frames_are_read line interface digits bytes spells is =
    from_bytes line (frame_line interface digits) (Frame interface bytes) spells (frame_read interface digits bytes is)

pub frames_read_back : FramesReadBack
frames_read_back line interface bytes are_bytes spells =
    frames_are_read line interface (encode_lower bytes) bytes spells (decode_of-encode_lower bytes are_bytes)
