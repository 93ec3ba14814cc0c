-- The text of each value that is written.
use Rattle.std.proofs.Common.{◌≡◌, ℕ, ◌+◌, ◌<◌, ◌≤◌, List, [], ◌∷◌, ◌++◌, true, false, length, get_or, take, map}
use Rattle.std.proofs.Common.{Result, Vec, Global, refl, sym, ap, ◌∙◌, append_assoc, codes}
use Rattle.std.proofs.lemmas.List.{map-append, map_more, take_all}
use Rattle.std.proofs.lemmas.Result.{IfOk-weaker}
use Rattle.std.specs.Prelude.{IfOk}
use Rattle.json.specs.Print.{quoted}
use Rattle.serde_json.specs.Data.{Data, string, array}
use Rattle.serde_json.specs.View.{view, items_of}
use Rattle.serde_json.specs.declared.value.Value.{Value, Array}
use Rattle.serde_json.specs.Written.{compact_text, items_text, has_float, items_have_float}
use Rattle.serde_json.proofs.Views.{view-Array}
use Rattle.serde_json.proofs.OnLiterals.{serde_json_on_literals}
use Rattle.ip_ranges.specs.Values.{AddressValue}
use Rattle.ip_ranges.specs.AddressText.{canonical_text}
use Rattle.kube_model.specs.declared.key.Key.{Key}
use Rattle.kube_model.specs.declared.put.Put.{Put}
use Rattle.kube_model.specs.declared.reason.Reason.{Reason}
use Rattle.kube_model.specs.declared.config_fault.ConfigFault.{ConfigFault}
use Rattle.kube_model.specs.declared.status.LaneName.{LaneName}
use Rattle.kube_lines.specs.OutputLines.{quoted_texts, address_strings, put_text, put_data, pending_text, pending_data, refused_text}
use Rattle.kube_lines.specs.OutputLines.{refused_data, seen_text, seen_data, took_text, took_data, address_data, announce_text, withdraw_text, send_text}
use Rattle.kube_lines.specs.OutputLines.{send_data, update_text, update_data, record_text, record_data, trial_text, trial_data}

-- an address as it is written
abbrev pub address_string : AddressValue → Data
address_string address = string (canonical_text address)

-- a value's line is its text
pub line_is : {E : Type 0} (line : Result (List ℕ) E) (value is : Data) (text : List ℕ) → IfOk line (λ l. l ≡ compact_text value) → value ≡ is
    → compact_text is ≡ text → IfOk line (λ l. l ≡ text)
line_is line value is text written same reads = IfOk-weaker line _ _ (λ l e. e ∙ ap compact_text same ∙ reads) written

no_float : (addresses : List AddressValue) → items_have_float (address_strings addresses) ≡ false
no_float [] = refl
no_float (address ∷ addresses) = no_float addresses

later : (address : AddressValue) (addresses : List AddressValue)
    → items_text true (address_strings (address ∷ addresses)) ≡ 44 ∷ (quoted_texts (map canonical_text (address ∷ addresses)) ++ 93 ∷ [])
later address [] = refl
later address (next ∷ addresses) = ap (λ (rest : List ℕ). 44 ∷ (quoted (canonical_text address) ++ rest)) (later next addresses) ∙ ap
    (λ (rest : List ℕ). 44 ∷ rest) (sym (append_assoc (quoted (canonical_text address)) (44 ∷ quoted_texts (map canonical_text (next ∷ addresses))) (93 ∷ [])))

pub items_text-strings : (addresses : List AddressValue) → items_text false (address_strings addresses) ≡ quoted_texts (map canonical_text addresses) ++ 93 ∷ []
items_text-strings [] = refl
items_text-strings (address ∷ []) = refl
items_text-strings (address ∷ next ∷ addresses) = ap (λ (rest : List ℕ). quoted (canonical_text address) ++ rest) (later next addresses)
    ∙ sym (append_assoc (quoted (canonical_text address)) (44 ∷ quoted_texts (map canonical_text (next ∷ addresses))) (93 ∷ []))

-- one more value after those of the addresses so far
pub strings_more : (values more : List Value) (value : Value) (addresses : List AddressValue) (i : ℕ) (address : AddressValue) → more ≡ values ++ value ∷ []
    → i < length addresses → address ≡ get_or addresses i address → view value ≡ address_string address
    → map view values ≡ map address_string (take i addresses) → map view more ≡ map address_string (take (i + 1) addresses)
strings_more values more value addresses i address pushed within is same so_far = ap (λ (l : List Value). map view l) pushed
    ∙ map-append view values (value ∷ []) ∙ ap (λ (l : List Data). l ++ view value ∷ []) so_far
    ∙ ap (λ (d : Data). map address_string (take i addresses) ++ d ∷ []) (same ∙ ap address_string is)
    ∙ sym (map_more address_string addresses i address within)

-- the list of values, where they are those of all addresses
pub strings_all : (values : Vec Value Global) (addresses : List AddressValue) (i : ℕ) → map view values.items ≡ map address_string (take i addresses)
    → length addresses ≤ i → view (Array values) ≡ array (address_strings addresses)
strings_all values addresses i so_far all = view-Array values ∙ ap (λ (ds : List Data). array (items_of ds)) (so_far ∙ ap
    (λ (l : List AddressValue). map address_string l) (take_all i addresses all))

pub put_has_float : (put : Put) → has_float (put_data put) ≡ false
put_has_float put = rw (no_float put.holding.addresses) refl

pub put_is : (put : Put) → compact_text (put_data put) ≡ put_text put
unfolding serde_json_on_literals
put_is put = rw (items_text-strings put.holding.addresses) refl

pub pending_is : (key : Key) (reason : Reason) → compact_text (pending_data key reason) ≡ pending_text key reason
unfolding serde_json_on_literals
pending_is key reason = refl

pub refused_is : (fault : ConfigFault) → compact_text (refused_data fault) ≡ refused_text fault
unfolding serde_json_on_literals
refused_is fault = refl

pub took_is : (lane : LaneName) (number : ℕ) → compact_text (took_data lane number) ≡ took_text lane number
unfolding serde_json_on_literals
took_is lane number = refl

pub seen_is : (events : ℕ) → compact_text (seen_data events) ≡ seen_text events
unfolding serde_json_on_literals
seen_is events = refl

pub announce_is : (address : AddressValue) → compact_text (address_data address (codes "announce")) ≡ announce_text address
unfolding serde_json_on_literals
announce_is address = refl

pub withdraw_is : (address : AddressValue) → compact_text (address_data address (codes "withdraw")) ≡ withdraw_text address
unfolding serde_json_on_literals
withdraw_is address = refl

pub send_is : (interface bytes : List ℕ) → compact_text (send_data interface bytes) ≡ send_text interface bytes
unfolding serde_json_on_literals
send_is interface bytes = refl

pub update_is : (peer bytes : List ℕ) → compact_text (update_data peer bytes) ≡ update_text peer bytes
unfolding serde_json_on_literals
update_is peer bytes = refl

pub record_has_float : (key : Key) (addresses : List AddressValue) → has_float (record_data key addresses) ≡ false
record_has_float key addresses = rw (no_float addresses) refl

pub record_is : (key : Key) (addresses : List AddressValue) → compact_text (record_data key addresses) ≡ record_text key addresses
unfolding serde_json_on_literals
record_is key addresses = rw (items_text-strings addresses) refl

pub trial_is : (assigned puts services steps : ℕ) → compact_text (trial_data assigned puts services steps) ≡ trial_text assigned puts services steps
unfolding serde_json_on_literals
trial_is assigned puts services steps = refl
