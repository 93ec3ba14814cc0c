-- When a value is read as one of its type.
use Rattle.std.proofs.Common.{◌≡◌, ◌≤◌, ◌↔◌, ℕ, List, [], ◌∷◌, Bool, true, false, cond, ◌&&◌, leb, leb-true, Option, Some, None}
use Rattle.std.proofs.Common.{option_map, option_and_then, Result, Ok, Err, refl, sym, ap, subst, ◌∙◌, inl, inr, bytes_eq, codes}
use Rattle.std.specs.Result.{result_ok}
use Rattle.std.proofs.lemmas.Bool.{le-leb}
use Rattle.std.proofs.lemmas.Slice.Eq.{bytes_eq-Decides}
use Rattle.hex.specs.Hex.{decode_of}
use Rattle.serde_json.specs.Data.{Data, null, boolean, number, string, array, object, unsigned, negative, float, Members, no_members, member}
use Rattle.serde_json.specs.Find.{as_str, as_bool, as_number, as_u64, as_object}
use Rattle.json_fields.specs.Path.{Path}
use Rattle.json_fields.specs.Reading.{or_itself, one_of, in_range, number_in, text_of, bool_of, labels_of, pairs_after}
use Rattle.ip_ranges.specs.declared.family.Family.{Family}
use Rattle.ip_ranges.specs.declared.family.Family.TheVariants.{V4, V6}
use Rattle.ip_ranges.specs.AddressText.{address_of}
use Rattle.kube_model.specs.declared.port.Protocol.{Protocol}
use Rattle.kube_model.specs.declared.port.Protocol.TheVariants.{Tcp, Udp, Sctp}
use Rattle.kube_model.specs.declared.service.Policy.{Policy}
use Rattle.kube_model.specs.declared.service.Policy.TheVariants.{Cluster, Local}
use Rattle.kube_model.specs.Named.{protocol_named, protocol_of, policy_named, policy_of}
use Rattle.kube_events.specs.Named.{family_named, family_of, version_named, version_of, address_in}
use Rattle.kube_events.specs.Frame.{bytes_of}
use Rattle.field_laws.specs.Told.{Pairs, pairs_among, in_order}
use Rattle.field_laws.specs.FieldLaws.{IsReadWhere, IsText, IsTruth, IsNumber, IsTextOf, SaysFamily, SaysProtocol}
use Rattle.field_laws.specs.FieldLaws.{SaysPolicy, SaysVersion, SaysAddress, SaysBytes, AreTexts, IsTextMap}
use Rattle.field_laws.proofs.Types.{pairs_told}

-- ---- what is found in a value, or the value is itself at fault

found_there : {A : Type 0} (found : Option A) (x : A) → or_itself found ≡ Ok x → found ≡ Some x
found_there (Some y) x e = cc
found_there None x e = absurd cc

not_found : {A : Type 0} (found : Option A) (path : Path) → or_itself found ≡ Err path → (found ≡ None) × ([] ≡ path)
not_found (Some y) path e = absurd cc
not_found None path e = (refl, cc)

none_some : {A : Type 0} (found : Option A) (x : A) → found ≡ None → found ≡ Some x → ⊥
none_some (Some y) x e f = absurd cc
none_some None x e f = absurd cc

refused_by : {A : Type 0} (found : Option A) (path : Path) → [] ≡ path → ((x : A) → found ≡ Some x → ⊥) → or_itself found ≡ Err path
refused_by (Some y) path e none = absurd (none y refl)
refused_by None path e none = ap (λ it. Err it) e

where_found : {A : Type 0} (read : Data → Result A Path) (Is : Data → A → Type 0) (found : Data → Option A)
    → ((d : Data) → read d ≡ or_itself (found d)) → ((d : Data) (x : A) → (found d ≡ Some x) ↔ Is d x) → IsReadWhere read Is
where_found read Is found same law = record {
  read_as = λ d x. (
    (λ e. (law d x).0 (found_there (found d) x (sym (same d) ∙ e))),
    (λ is. same d ∙ ap or_itself ((law d x).1 is)),
  );
  refused = λ d path. (
    (λ e. let none = not_found (found d) path (sym (same d) ∙ e) in (none.1, λ x is. none_some (found d) x none.0 ((law d x).1 is))),
    (λ none. same d ∙ refused_by (found d) path none.0 (λ x e. none.1 x ((law d x).0 e))),
  );
}

-- ---- texts

text_there : (d : Data) (text : List ℕ) → as_str d ≡ Some text → d ≡ string text
text_there null text e = absurd cc
text_there (boolean b) text e = absurd cc
text_there (number n) text e = absurd cc
text_there (string other) text e = let same : other ≡ text = cc in ap (λ (it : List ℕ). string it) same
text_there (array ds) text e = absurd cc
text_there (object ms) text e = absurd cc

pub texts_are_read : IsReadWhere text_of IsText
unfolding text_of
texts_are_read = where_found text_of IsText as_str (λ d. refl) (λ d text. (text_there d text, λ is. rw is refl))

truth_there : (d : Data) (b : Bool) → as_bool d ≡ Some b → d ≡ boolean b
truth_there null b e = absurd cc
truth_there (boolean other) b e = let same : other ≡ b = cc in ap (λ (it : Bool). boolean it) same
truth_there (number n) b e = absurd cc
truth_there (string text) b e = absurd cc
truth_there (array ds) b e = absurd cc
truth_there (object ms) b e = absurd cc

pub truths_are_read : IsReadWhere bool_of IsTruth
unfolding bool_of
truths_are_read = where_found bool_of IsTruth as_bool (λ d. refl) (λ d b. (truth_there d b, λ is. rw is refl))

-- ---- numbers

range_by : (a b : Bool) (m n : ℕ) → cond (a && b) (Some m) None ≡ Some n → (a ≡ true) × (b ≡ true) × (m ≡ n)
range_by true true m n e = (refl, refl, cc)
range_by true false m n e = absurd cc
range_by false b m n e = absurd cc

abbrev number_found : ℕ → ℕ → Data → Option ℕ
number_found low high d = option_and_then (in_range low high) (option_and_then as_u64 (as_number d))

number_there : (low high : ℕ) (d : Data) (n : ℕ) → number_found low high d ≡ Some n → IsNumber low high d n
number_there low high null n e = absurd cc
number_there low high (boolean b) n e = absurd cc
number_there low high (number (unsigned m)) n e =
    let is = range_by (leb low m) (leb m high) m n e in
    (ap (λ (it : ℕ). number (unsigned it)) is.2, subst (λ it. low ≤ it) is.2 (leb-true low m is.0), subst (λ it. it ≤ high) is.2 (leb-true m high is.1))
number_there low high (number (negative z)) n e = absurd cc
number_there low high (number (float x)) n e = absurd cc
number_there low high (string text) n e = absurd cc
number_there low high (array ds) n e = absurd cc
number_there low high (object ms) n e = absurd cc

pub numbers_are_read : (low high : ℕ) → IsReadWhere (number_in low high) (IsNumber low high)
unfolding number_in
numbers_are_read low high = where_found (number_in low high) (IsNumber low high) (number_found low high) (λ d. refl)
    (λ d n. (number_there low high d n, λ is. rw (is.0, le-leb low n is.1, le-leb n high is.2) refl))

-- ---- texts that say something

says_there : {A : Type 0} (named : List ℕ → Option A) (Says : List ℕ → A → Type 0) → ((text : List ℕ) (x : A) → (named text ≡ Some x) ↔ Says text x)
    → (d : Data) (x : A) → option_and_then named (as_str d) ≡ Some x → IsTextOf Says d x
says_there named Says law null x e = absurd cc
says_there named Says law (boolean b) x e = absurd cc
says_there named Says law (number n) x e = absurd cc
says_there named Says law (string text) x e = (text, refl, (law text x).0 e)
says_there named Says law (array ds) x e = absurd cc
says_there named Says law (object ms) x e = absurd cc

said_by : {A : Type 0} (named : List ℕ → Option A) (Says : List ℕ → A → Type 0) → ((text : List ℕ) (x : A) → (named text ≡ Some x) ↔ Says text x)
    → IsReadWhere (one_of named) (IsTextOf Says)
said_by named Says law = where_found (one_of named) (IsTextOf Says) (λ d. option_and_then named (as_str d)) (λ d. refl)
    (λ d x. (says_there named Says law d x, λ is. rw is.1 ((law is.0 x).1 is.2)))

result_there : {A E : Type 0} (found : Result A E) (x : A) → result_ok found ≡ Some x → found ≡ Ok x
result_there (Ok y) x e = let same : y ≡ x = cc in ap (λ it. Ok it) same
result_there (Err fault) x e = absurd cc

pub versions_are_read : IsReadWhere version_of (IsTextOf SaysVersion)
unfolding version_of
versions_are_read = said_by version_named SaysVersion (λ text n. (λ e. e, λ e. e))

pub addresses_are_read : IsReadWhere address_in (IsTextOf SaysAddress)
unfolding address_in
addresses_are_read = said_by (λ text. result_ok (address_of text)) SaysAddress (λ text address. (result_there (address_of text) address, λ is. rw is refl))

pub bytes_are_read : IsReadWhere bytes_of (IsTextOf SaysBytes)
unfolding bytes_of
bytes_are_read = said_by (λ text. result_ok (decode_of text)) SaysBytes (λ text bytes. (result_there (decode_of text) bytes, λ is. rw is refl))

-- ---- words

family_said_by : (a b : Bool) (text : List ℕ) (family : Family) → bytes_eq text (codes "IPv4") ≡ a → bytes_eq text (codes "IPv6") ≡ b
    → cond a (Some V4) (cond b (Some V6) None) ≡ Some family → SaysFamily text family
family_said_by true b text V4 first second e = (bytes_eq-Decides text (codes "IPv4")).0 first
family_said_by true b text V6 first second e = absurd cc
family_said_by false true text V4 first second e = absurd cc
family_said_by false true text V6 first second e = (bytes_eq-Decides text (codes "IPv6")).0 second
family_said_by false false text family first second e = absurd cc

family_named_by : (text : List ℕ) (family : Family) → SaysFamily text family → family_named text ≡ Some family
family_named_by text V4 is = rw is refl
family_named_by text V6 is = rw is refl

pub families_are_read : IsReadWhere family_of (IsTextOf SaysFamily)
unfolding family_of
families_are_read = said_by family_named SaysFamily (λ text family. (
  family_said_by (bytes_eq text (codes "IPv4")) (bytes_eq text (codes "IPv6")) text family refl refl,
  family_named_by text family,
))

protocol_said_by : (a b c : Bool) (text : List ℕ) (protocol : Protocol) → bytes_eq text (codes "TCP") ≡ a → bytes_eq text (codes "UDP") ≡ b
    → bytes_eq text (codes "SCTP") ≡ c
    → cond a (Some Tcp) (cond b (Some Udp) (cond c (Some Sctp) None)) ≡ Some protocol → SaysProtocol text protocol
protocol_said_by true b c text protocol first second third e = let is : Tcp ≡ protocol = cc in
    subst (SaysProtocol text) is ((bytes_eq-Decides text (codes "TCP")).0 first)
protocol_said_by false true c text protocol first second third e = let is : Udp ≡ protocol = cc in
    subst (SaysProtocol text) is ((bytes_eq-Decides text (codes "UDP")).0 second)
protocol_said_by false false true text protocol first second third e = let is : Sctp ≡ protocol = cc in
    subst (SaysProtocol text) is ((bytes_eq-Decides text (codes "SCTP")).0 third)
protocol_said_by false false false text protocol first second third e = absurd cc

protocol_named_by : (text : List ℕ) (protocol : Protocol) → SaysProtocol text protocol → protocol_named text ≡ Some protocol
protocol_named_by text Tcp is = rw is refl
protocol_named_by text Udp is = rw is refl
protocol_named_by text Sctp is = rw is refl

pub protocols_are_read : IsReadWhere protocol_of (IsTextOf SaysProtocol)
unfolding protocol_of
protocols_are_read = said_by protocol_named SaysProtocol (λ text protocol. (
  protocol_said_by (bytes_eq text (codes "TCP")) (bytes_eq text (codes "UDP")) (bytes_eq text (codes "SCTP")) text protocol refl refl refl,
  protocol_named_by text protocol,
))

policy_said_by : (a b c : Bool) (text : List ℕ) (policy : Policy) → bytes_eq text (codes "Cluster") ≡ a → bytes_eq text (codes "") ≡ b
    → bytes_eq text (codes "Local") ≡ c
    → cond a (Some Cluster) (cond b (Some Cluster) (cond c (Some Local) None)) ≡ Some policy → SaysPolicy text policy
policy_said_by true b c text policy first second third e = let is : Cluster ≡ policy = cc in
    subst (SaysPolicy text) is (inl ((bytes_eq-Decides text (codes "Cluster")).0 first))
policy_said_by false true c text policy first second third e = let is : Cluster ≡ policy = cc in
    subst (SaysPolicy text) is (inr ((bytes_eq-Decides text (codes "")).0 second))
policy_said_by false false true text policy first second third e = let is : Local ≡ policy = cc in
    subst (SaysPolicy text) is ((bytes_eq-Decides text (codes "Local")).0 third)
policy_said_by false false false text policy first second third e = absurd cc

policy_named_by : (text : List ℕ) (policy : Policy) → SaysPolicy text policy → policy_named text ≡ Some policy
policy_named_by text Cluster (inl is) = rw is refl
policy_named_by text Cluster (inr is) = rw is refl
policy_named_by text Local is = rw is refl

pub policies_are_read : IsReadWhere policy_of (IsTextOf SaysPolicy)
unfolding policy_of
policies_are_read = said_by policy_named SaysPolicy (λ text policy. (
  policy_said_by (bytes_eq text (codes "Cluster")) (bytes_eq text (codes "")) (bytes_eq text (codes "Local")) text policy refl refl refl,
  policy_named_by text policy,
))

-- ---- text maps

more_there : (name text : List ℕ) (found : Option Pairs) (pairs : Pairs) → option_map (λ rest. (name, text) ∷ rest) found ≡ Some pairs
    → (rest : Pairs) × (found ≡ Some rest) × ((name, text) ∷ rest ≡ pairs)
more_there name text (Some rest) pairs e = (rest, refl, cc)
more_there name text None pairs e = absurd cc

texts_there : (ms : Members) (pairs : Pairs) → pairs_among ms ≡ Some pairs → AreTexts ms pairs
texts_there no_members pairs e = cc
texts_there (member name null others) pairs e = texts_there others pairs e
texts_there (member name (boolean b) others) pairs e = absurd cc
texts_there (member name (number n) others) pairs e = absurd cc
texts_there (member name (string text) others) pairs e =
    let more = more_there name text (pairs_among others) pairs e in
    (more.0, texts_there others more.0 more.1, more.2)
texts_there (member name (array ds) others) pairs e = absurd cc
texts_there (member name (object ms) others) pairs e = absurd cc

are_texts : (ms : Members) (pairs : Pairs) → AreTexts ms pairs → pairs_among ms ≡ Some pairs
are_texts no_members pairs are = ap (λ it. Some it) are
are_texts (member name null others) pairs are = are_texts others pairs are
are_texts (member name (boolean b) others) pairs are = absurd are
are_texts (member name (number n) others) pairs are = absurd are
are_texts (member name (string text) others) pairs are = rw (are_texts others are.0 are.1) (ap (λ it. Some it) are.2)
are_texts (member name (array ds) others) pairs are = absurd are
are_texts (member name (object ms) others) pairs are = absurd are

ordered_there : (found : Option Pairs) (pairs : Pairs) → option_map (in_order []) found ≡ Some pairs
    → (texts : Pairs) × (found ≡ Some texts) × (in_order [] texts ≡ pairs)
ordered_there (Some texts) pairs e = (texts, refl, cc)
ordered_there None pairs e = absurd cc

abbrev map_found : Data → Option Pairs
map_found d = option_and_then (pairs_after []) (as_object d)

map_there : (d : Data) (pairs : Pairs) → map_found d ≡ Some pairs → IsTextMap d pairs
map_there null pairs e = absurd cc
map_there (boolean b) pairs e = absurd cc
map_there (number n) pairs e = absurd cc
map_there (string text) pairs e = absurd cc
map_there (array ds) pairs e = absurd cc
map_there (object ms) pairs e =
    let there = ordered_there (pairs_among ms) pairs (sym (pairs_told [] ms) ∙ e) in
    (ms, there.0, refl, texts_there ms there.0 there.1, there.2)

map_is : (d : Data) (pairs : Pairs) → IsTextMap d pairs → map_found d ≡ Some pairs
map_is d pairs is = rw is.2 (pairs_told [] is.0 ∙ rw (are_texts is.0 is.1 is.3) (ap (λ it. Some it) is.4))

pub maps_are_read : IsReadWhere labels_of IsTextMap
unfolding labels_of
maps_are_read = where_found labels_of IsTextMap map_found (λ d. refl) (λ d pairs. (map_there d pairs, map_is d pairs))
