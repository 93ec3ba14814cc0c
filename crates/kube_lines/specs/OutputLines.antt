-- Lines that are written: compact JSON, the members in the byte order of their names.
use Rattle.std.specs.Prelude.{ℕ, List, [], ◌∷◌, ◌++◌, Bool, true, false, codes, decimal, fold, map}
use Rattle.std.specs.Borrow.{Bor}
use Rattle.std.specs.List.{concat}
use Rattle.json.specs.Print.{quoted}
use Rattle.serde_json.specs.Data.{Data, string, number, unsigned, array, object, Items, Members, member, no_members, put as with_member}
use Rattle.serde_json.specs.View.{items_of}
use Rattle.ip_ranges.specs.Values.{AddressValue}
use Rattle.ip_ranges.specs.AddressText.{canonical_text}
use Rattle.kube_model.specs.declared.key.Key.{Key}
use Rattle.kube_model.specs.declared.put.Put.{Put}
use Rattle.kube_model.specs.declared.reason.Reason.{Reason}
use Rattle.kube_model.specs.declared.config_fault.ConfigFault.{ConfigFault}
use Rattle.hex.specs.Hex.{encode_lower}
use Rattle.kube_model.specs.declared.status.LaneName.{LaneName}
use Rattle.kube_model.specs.declared.status.LaneName.TheVariants as lanes
use Rattle.kube_model.specs.Status.{lane_text}
use Rattle.kube_model.specs.LineWords.{reason_text, cause_text, kind_text}

-- the texts in quotes, with commas between
abbrev pub quoted_texts : List (List ℕ) → List ℕ
quoted_texts [] = []
quoted_texts (text ∷ []) = quoted text
quoted_texts (text ∷ next ∷ texts) = quoted text ++ 44 ∷ quoted_texts (next ∷ texts)

-- a list of addresses
abbrev pub addresses_text : List AddressValue → List ℕ
addresses_text addresses = 91 ∷ (quoted_texts (map canonical_text addresses) ++ 93 ∷ [])

abbrev pub put_text : Put → List ℕ
put_text put = concat (
    codes "{\"addresses\":" ∷ addresses_text put.holding.addresses ∷
    codes ",\"mark\":" ∷ quoted put.holding.mark ∷
    codes ",\"name\":" ∷ quoted put.key.name ∷
    codes ",\"namespace\":" ∷ quoted put.key.namespace ∷
    codes ",\"op\":\"put\",\"pool\":" ∷ quoted put.holding.pool ∷
    codes ",\"version\":" ∷ decimal put.version ∷ codes "}" ∷ [])

abbrev pub pending_text : Key → Reason → List ℕ
pending_text key reason = concat (
    codes "{\"name\":" ∷ quoted key.name ∷
    codes ",\"namespace\":" ∷ quoted key.namespace ∷
    codes ",\"op\":\"pending\",\"reason\":" ∷ quoted (reason_text reason) ∷ codes "}" ∷ [])

abbrev pub accepted_text : List ℕ
accepted_text = codes "{\"op\":\"config\",\"result\":\"accepted\"}"

abbrev pub refused_text : ConfigFault → List ℕ
refused_text fault = concat (
    codes "{\"fault\":" ∷ quoted (cause_text fault.cause) ∷
    codes ",\"kind\":" ∷ quoted (kind_text fault.kind) ∷
    codes ",\"name\":" ∷ quoted fault.name ∷
    codes ",\"op\":\"config\",\"result\":\"refused\"}" ∷ [])

-- whether events are taken of the lane: of each but the input
abbrev pub is_taken : LaneName → Bool
is_taken lanes.Input = false
is_taken lanes.Config = true
is_taken lanes.Service = true
is_taken lanes.Watch = true
is_taken lanes.Frame = true

-- the event of the lane's line of this number was taken
abbrev pub took_text : LaneName → ℕ → List ℕ
took_text lane n = concat (
    codes "{\"lane\":" ∷ quoted (lane_text lane) ∷
    codes ",\"n\":" ∷ decimal n ∷ codes ",\"op\":\"took\"}" ∷ [])

-- a frame was answered by what is shown after so many events
abbrev pub seen_text : ℕ → List ℕ
seen_text events = concat (codes "{\"events\":" ∷ decimal events ∷ codes ",\"op\":\"seen\"}" ∷ [])

-- the address is answered for from now on
abbrev pub announce_text : AddressValue → List ℕ
announce_text address = concat (
    codes "{\"address\":" ∷ quoted (canonical_text address) ∷ codes ",\"op\":\"announce\"}" ∷ [])

-- the address isn't answered for any more
abbrev pub withdraw_text : AddressValue → List ℕ
withdraw_text address = concat (
    codes "{\"address\":" ∷ quoted (canonical_text address) ∷ codes ",\"op\":\"withdraw\"}" ∷ [])

-- a frame that is to be sent, in hexadecimal of lower case
abbrev pub send_text : List ℕ → List ℕ → List ℕ
send_text interface bytes = concat (
    codes "{\"bytes\":" ∷ quoted (encode_lower bytes) ∷
    codes ",\"interface\":" ∷ quoted interface ∷ codes ",\"op\":\"send\"}" ∷ [])

-- a message to a BGP peer, in hexadecimal of lower case
abbrev pub update_text : List ℕ → List ℕ → List ℕ
update_text peer bytes = concat (
    codes "{\"bytes\":" ∷ quoted (encode_lower bytes) ∷
    codes ",\"op\":\"update\",\"peer\":" ∷ quoted peer ∷ codes "}" ∷ [])

-- the addresses that a service has
abbrev pub record_text : Key → List AddressValue → List ℕ
record_text key addresses = concat (
    codes "{\"addresses\":" ∷ addresses_text addresses ∷
    codes ",\"name\":" ∷ quoted key.name ∷
    codes ",\"namespace\":" ∷ quoted key.namespace ∷ codes ",\"op\":\"record\"}" ∷ [])

-- the counts of a trial, and its steps
abbrev pub trial_text : ℕ → ℕ → ℕ → ℕ → List ℕ
trial_text assigned puts services steps = concat (
    codes "{\"assigned\":" ∷ decimal assigned ∷
    codes ",\"op\":\"trial\",\"puts\":" ∷ decimal puts ∷
    codes ",\"services\":" ∷ decimal services ∷
    codes ",\"steps\":" ∷ decimal steps ∷ codes "}" ∷ [])

-- ---- the same as values

abbrev pub address_strings : List AddressValue → Items
address_strings addresses = items_of (map (λ address. string (canonical_text address)) addresses)

abbrev pub number_data : ℕ → Data
number_data n = number (unsigned n)

abbrev pub put_data : Put → Data
put_data put = object (member (codes "addresses") (array (address_strings put.holding.addresses))
    (member (codes "mark") (string put.holding.mark)
    (member (codes "name") (string put.key.name)
    (member (codes "namespace") (string put.key.namespace)
    (member (codes "op") (string (codes "put"))
    (member (codes "pool") (string put.holding.pool)
    (member (codes "version") (number_data put.version) no_members)))))))

abbrev pub pending_data : Key → Reason → Data
pending_data key reason = object (member (codes "name") (string key.name)
    (member (codes "namespace") (string key.namespace)
    (member (codes "op") (string (codes "pending"))
    (member (codes "reason") (string (reason_text reason)) no_members))))

abbrev pub refused_data : ConfigFault → Data
refused_data fault = object (member (codes "fault") (string (cause_text fault.cause))
    (member (codes "kind") (string (kind_text fault.kind))
    (member (codes "name") (string fault.name)
    (member (codes "op") (string (codes "config"))
    (member (codes "result") (string (codes "refused")) no_members)))))

abbrev pub took_data : LaneName → ℕ → Data
took_data lane n = object (member (codes "lane") (string (lane_text lane))
    (member (codes "n") (number_data n)
    (member (codes "op") (string (codes "took")) no_members)))

abbrev pub seen_data : ℕ → Data
seen_data events = object (member (codes "events") (number_data events) (member (codes "op") (string (codes "seen")) no_members))

-- what is to be done with an address
abbrev pub told_data : List ℕ → List ℕ → Data
told_data address op = object (member (codes "address") (string address)
    (member (codes "op") (string op) no_members))

abbrev pub address_data : AddressValue → List ℕ → Data
address_data address op = told_data (canonical_text address) op

abbrev pub send_data : List ℕ → List ℕ → Data
send_data interface bytes = object (member (codes "bytes") (string (encode_lower bytes))
    (member (codes "interface") (string interface)
    (member (codes "op") (string (codes "send")) no_members)))

abbrev pub update_data : List ℕ → List ℕ → Data
update_data peer bytes = object (member (codes "bytes") (string (encode_lower bytes))
    (member (codes "op") (string (codes "update"))
    (member (codes "peer") (string peer) no_members)))

abbrev pub record_data : Key → List AddressValue → Data
record_data key addresses = object (member (codes "addresses") (array (address_strings addresses))
    (member (codes "name") (string key.name)
    (member (codes "namespace") (string key.namespace)
    (member (codes "op") (string (codes "record")) no_members))))

abbrev pub trial_data : ℕ → ℕ → ℕ → ℕ → Data
trial_data assigned puts services steps = object (member (codes "assigned") (number_data assigned)
    (member (codes "op") (string (codes "trial"))
    (member (codes "puts") (number_data puts)
    (member (codes "services") (number_data services)
    (member (codes "steps") (number_data steps) no_members)))))

-- ---- members, whatever the order in which they are put together

-- what a pair with references points to
abbrev pub pair_text : Bor (List ℕ) × Bor (List ℕ) → List ℕ × List ℕ
pair_text pair = (pair.0.now, pair.1.now)

abbrev pub pair_number : Bor (List ℕ) × ℕ → List ℕ × ℕ
pair_number pair = (pair.0.now, pair.1)

-- the members with these texts, by their names
abbrev pub with_texts : List (List ℕ × List ℕ) → Members → Members
with_texts texts members = fold (λ held text. with_member text.0 (string text.1) held) members texts

-- the members with these numbers, by their names
abbrev pub with_numbers : List (List ℕ × ℕ) → Members → Members
with_numbers numbers members = fold (λ held n. with_member n.0 (number_data n.1) held) members numbers

-- the members with these addresses
abbrev pub with_addresses : List AddressValue → Members → Members
with_addresses addresses members = with_member (codes "addresses") (array (address_strings addresses)) members

-- what is to be done with bytes, in hexadecimal, and by the name of that whom they are for
abbrev pub bytes_data : List ℕ → List ℕ → List ℕ → List ℕ → Data
bytes_data bytes name text op = object (with_texts ((codes "bytes", bytes) ∷ (name, text) ∷ (codes "op", op) ∷ []) no_members)
