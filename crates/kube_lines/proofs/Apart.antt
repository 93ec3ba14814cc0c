-- Each line that a speaker writes is one line, and what it says is read off it; addresses are read off their texts.
use Rattle.std.proofs.Common.{◌≡◌, ℕ, ◌<◌, ◌^◌, true, not, ◌==◌, List, [], ◌∷◌, ◌++◌, Some, codes, refl, sym, ap, ◌∙◌, arith}
use Rattle.std.proofs.lemmas.Bool.{and_from, and_parts}
use Rattle.std.proofs.lemmas.Bool.Decides.{nat_tests}
use Rattle.std.proofs.lemmas.Nat.{from_be_bytes-to_be_bytes_4}
use Rattle.std.proofs.NetLemmas.Texts.{IsDotted-ipv4_text, IsColonHex-hex_groups_text}
use Rattle.std.specs.Char.{digit_char}
use Rattle.std.specs.Int.{w32, w128, to_be_bytes, from_be_bytes}
use Rattle.std.specs.Net.Addr.{segments_of}
use Rattle.hex.specs.Hex.{encode_lower}
use Rattle.json.specs.Lex.{tokens}
use Rattle.json.specs.Print.{escape, escape_byte, quoted, print, ArePrintable}
use Rattle.json.specs.Token.{Token, bad, begin_array, begin_object, boolean, end_array, end_object, key, null, number, string}
use Rattle.json.proofs.Printed.Tokens.{tokens-print}
use Rattle.serde_json.proofs.OnLiterals.{serde_json_on_literals}
use Rattle.ip_ranges.specs.declared.family.Family.{Family}
use Rattle.ip_ranges.specs.declared.family.Family.TheVariants.{V4, V6}
use Rattle.ip_ranges.specs.Values.{AddressValue, IsOfFamily, width_of}
use Rattle.ip_ranges.specs.AddressText.{canonical_text, spelled, text_in}
use Rattle.ip_ranges.proofs.BytesLemmas.{AreBytes-high_first, segments_fit, octets_of-segments_of, from_be_bytes-to_be_bytes_16}
use Rattle.ip_ranges.proofs.SpelledLemmas.{spelled_v4, spelled_v6}
use Rattle.kube_model.specs.declared.config_fault.ConfigFault.{ConfigFault}
use Rattle.kube_model.specs.LineWords.{cause_text, kind_text}
use Rattle.kube_lines.specs.Apart.{IsLineOf, LinesAreRead, accepted_pairs, announce_pairs, is_plain, members_of}
use Rattle.kube_lines.specs.Apart.{refused_pairs, send_pairs, texts_object, update_pairs, withdraw_pairs}
use Rattle.kube_lines.specs.OutputLines.{accepted_text, refused_text, announce_text, withdraw_text, send_text, update_text}

-- ---- no line end stands in a line
plain-append : (xs ys : List ℕ) → is_plain xs ≡ true → is_plain ys ≡ true → is_plain (xs ++ ys) ≡ true
plain-append [] ys x y = y
plain-append (b ∷ xs) ys x y =
    let parts = and_parts (not (b == 10)) (is_plain xs) x in
    and_from (not (b == 10)) (is_plain (xs ++ ys)) parts.0 (plain-append xs ys parts.1 y)

digit-plain : (d : ℕ) → not (digit_char d == 10) ≡ true
digit-plain d = grind (arith, nat_tests)

byte-plain : (b : ℕ) → is_plain (escape_byte b) ≡ true
unfolding escape_byte
byte-plain b = grind (arith, nat_tests, digit-plain)

escape-plain : (s : List ℕ) → is_plain (escape s) ≡ true
escape-plain [] = refl
escape-plain (b ∷ s) = plain-append (escape_byte b) (escape s) (byte-plain b) (escape-plain s)

-- a text in quotes, and what follows it
quoted-plain : (s rest : List ℕ) → is_plain rest ≡ true → is_plain (quoted s ++ rest) ≡ true
quoted-plain s rest more = plain-append (quoted s) rest (plain-append (escape s) (34 ∷ []) (escape-plain s) refl) more

-- ---- what is printed of texts
printable : (pairs : List (List ℕ × List ℕ)) → ArePrintable (members_of pairs)
unfolding ArePrintable
printable [] = (tt, tt)
printable (p ∷ pairs) = (tt, (tt, printable pairs))

object-printable : (pairs : List (List ℕ × List ℕ)) → ArePrintable (texts_object pairs)
unfolding ArePrintable
object-printable pairs = (tt, printable pairs)

read-back : (text : List ℕ) (pairs : List (List ℕ × List ℕ)) → is_plain text ≡ true → print (texts_object pairs) ≡ text → IsLineOf text pairs
read-back text pairs plain is = record {
  one = plain;
  reads = ap tokens (sym is) ∙ tokens-print (texts_object pairs) (object-printable pairs);
}

accepted-prints : print (texts_object accepted_pairs) ≡ accepted_text
unfolding serde_json_on_literals
accepted-prints = refl

refused-prints : (fault : ConfigFault) → print (texts_object (refused_pairs fault)) ≡ refused_text fault
unfolding serde_json_on_literals
refused-prints fault = refl

announce-prints : (a : AddressValue) → print (texts_object (announce_pairs a)) ≡ announce_text a
unfolding serde_json_on_literals
announce-prints a = refl

withdraw-prints : (a : AddressValue) → print (texts_object (withdraw_pairs a)) ≡ withdraw_text a
unfolding serde_json_on_literals
withdraw-prints a = refl

send-prints : (interface bytes : List ℕ) → print (texts_object (send_pairs interface bytes)) ≡ send_text interface bytes
unfolding serde_json_on_literals
send-prints interface bytes = refl

update-prints : (peer bytes : List ℕ) → print (texts_object (update_pairs peer bytes)) ≡ update_text peer bytes
unfolding serde_json_on_literals
update-prints peer bytes = refl

pub lines-read : LinesAreRead
lines-read = record {
  accepted = read-back accepted_text accepted_pairs refl accepted-prints;
  refused = λ fault. read-back (refused_text fault) (refused_pairs fault)
      (quoted-plain (cause_text fault.cause) _ (quoted-plain (kind_text fault.kind) _ (quoted-plain fault.name _ refl)))
      (refused-prints fault);
  announce = λ a. read-back (announce_text a) (announce_pairs a) (quoted-plain (canonical_text a) _ refl) (announce-prints a);
  withdraw = λ a. read-back (withdraw_text a) (withdraw_pairs a) (quoted-plain (canonical_text a) _ refl) (withdraw-prints a);
  send = λ interface bytes. read-back (send_text interface bytes) (send_pairs interface bytes)
      (quoted-plain (encode_lower bytes) _ (quoted-plain interface _ refl)) (send-prints interface bytes);
  update = λ peer bytes.
      read-back (update_text peer bytes) (update_pairs peer bytes) (quoted-plain (encode_lower bytes) _ (quoted-plain peer _ refl)) (update-prints peer bytes);
}

-- ---- an address is read off its text
spelled-in : (f : Family) (n : ℕ) → n < 2 ^ width_of f → spelled (text_in f n) ≡ Some (record { family = f; number = n })
spelled-in V4 n fits =
    let bytes = to_be_bytes w32 n in
    spelled_v4 (text_in V4 n) bytes (IsDotted-ipv4_text bytes refl (AreBytes-high_first 4 n))
    ∙ ap (λ (m : ℕ). Some (record { family = V4; number = m })) (from_be_bytes-to_be_bytes_4 n fits)
spelled-in V6 n fits =
    let bytes = to_be_bytes w128 n in
    let fit = AreBytes-high_first 16 n in
    spelled_v6 (text_in V6 n) (segments_of bytes) (IsColonHex-hex_groups_text (segments_of bytes) refl (segments_fit bytes fit))
    ∙ ap (λ (m : ℕ). Some (record { family = V6; number = m }))
    (ap (from_be_bytes w128) (octets_of-segments_of bytes fit refl) ∙ from_be_bytes-to_be_bytes_16 n fits)

some-is : (a b : AddressValue) → Some a ≡ Some b → a ≡ b
some-is a b e = cc

pub one-address : (a b : AddressValue) → IsOfFamily a → IsOfFamily b → canonical_text a ≡ canonical_text b → a ≡ b
unfolding canonical_text
one-address a b fits fits' same =
    some-is a b (sym (spelled-in a.family a.number fits) ∙ ap spelled same ∙ spelled-in b.family b.number fits')

-- ---- lines that say other things are other lines
-- equal lines say the same
same-said : (one other : List ℕ) (pairs others : List (List ℕ × List ℕ)) → IsLineOf one pairs → IsLineOf other others → one ≡ other
    → texts_object pairs ≡ texts_object others
same-said one other pairs others a b is = sym a.reads ∙ ap tokens is ∙ b.reads

address-said : (a b : AddressValue) (op : List ℕ)
    → texts_object ((codes "address", canonical_text a) ∷ (codes "op", op) ∷ []) ≡ texts_object ((codes "address", canonical_text b) ∷ (codes "op", op) ∷ [])
    → canonical_text a ≡ canonical_text b
address-said a b op e = cc

pub one-announced : (a b : AddressValue) → IsOfFamily a → IsOfFamily b → announce_text a ≡ announce_text b → a ≡ b
one-announced a b fits fits' is =
    one-address a b fits fits' (address-said a b (codes "announce")
    (same-said (announce_text a) (announce_text b) (announce_pairs a) (announce_pairs b) (lines-read.announce a) (lines-read.announce b) is))

pub one-withdrawn : (a b : AddressValue) → IsOfFamily a → IsOfFamily b → withdraw_text a ≡ withdraw_text b → a ≡ b
one-withdrawn a b fits fits' is =
    one-address a b fits fits' (address-said a b (codes "withdraw")
    (same-said (withdraw_text a) (withdraw_text b) (withdraw_pairs a) (withdraw_pairs b) (lines-read.withdraw a) (lines-read.withdraw b) is))

-- the first byte of a text
abbrev first-byte : List ℕ → ℕ
first-byte [] = 0
first-byte (b ∷ text) = b

abbrev byte_of : Token → ℕ
byte_of (string s) = first-byte s
byte_of (key s) = first-byte s
byte_of begin_object = 0
byte_of end_object = 0
byte_of begin_array = 0
byte_of end_array = 0
byte_of (number s) = 0
byte_of (boolean b) = 0
byte_of null = 0
byte_of bad = 0

abbrev tail : List Token → List Token
tail [] = []
tail (t ∷ ts) = ts

abbrev first-of : List Token → ℕ
first-of [] = 0
first-of (t ∷ ts) = byte_of t

pub announced-withdrawn : (a b : AddressValue) → announce_text a ≡ withdraw_text b → ⊥
announced-withdrawn a b is =
    let e : 97 ≡ 119 = ap (λ (ts : List Token). first-of (tail (tail (tail (tail ts)))))
    (same-said (announce_text a) (withdraw_text b) (announce_pairs a) (withdraw_pairs b) (lines-read.announce a) (lines-read.withdraw b) is) in
    omega (arith, e)

-- the first letter of the first member's name
abbrev letter : List ℕ → ℕ
letter [] = 0
letter (a ∷ []) = 0
letter (a ∷ b ∷ []) = 0
letter (a ∷ b ∷ c ∷ text) = c

pub accepted-announced : (a : AddressValue) → accepted_text ≡ announce_text a → ⊥
accepted-announced a is = let e : 111 ≡ 97 = ap letter is in omega (arith, e)

pub accepted-withdrawn : (a : AddressValue) → accepted_text ≡ withdraw_text a → ⊥
accepted-withdrawn a is = let e : 111 ≡ 97 = ap letter is in omega (arith, e)

pub accepted-updated : (peer bytes : List ℕ) → accepted_text ≡ update_text peer bytes → ⊥
accepted-updated peer bytes is = let e : 111 ≡ 98 = ap letter is in omega (arith, e)

pub refused-announced : (fault : ConfigFault) (a : AddressValue) → refused_text fault ≡ announce_text a → ⊥
refused-announced fault a is = let e : 102 ≡ 97 = ap letter is in omega (arith, e)

pub refused-withdrawn : (fault : ConfigFault) (a : AddressValue) → refused_text fault ≡ withdraw_text a → ⊥
refused-withdrawn fault a is = let e : 102 ≡ 97 = ap letter is in omega (arith, e)

pub refused-updated : (fault : ConfigFault) (peer bytes : List ℕ) → refused_text fault ≡ update_text peer bytes → ⊥
refused-updated fault peer bytes is = let e : 102 ≡ 98 = ap letter is in omega (arith, e)

pub sent-announced : (interface frame : List ℕ) (a : AddressValue) → send_text interface frame ≡ announce_text a → ⊥
sent-announced interface frame a is = let e : 98 ≡ 97 = ap letter is in omega (arith, e)

pub sent-withdrawn : (interface frame : List ℕ) (a : AddressValue) → send_text interface frame ≡ withdraw_text a → ⊥
sent-withdrawn interface frame a is = let e : 98 ≡ 97 = ap letter is in omega (arith, e)

pub updated-announced : (peer bytes : List ℕ) (a : AddressValue) → update_text peer bytes ≡ announce_text a → ⊥
updated-announced peer bytes a is = let e : 98 ≡ 97 = ap letter is in omega (arith, e)

pub updated-withdrawn : (peer bytes : List ℕ) (a : AddressValue) → update_text peer bytes ≡ withdraw_text a → ⊥
updated-withdrawn peer bytes a is = let e : 98 ≡ 97 = ap letter is in omega (arith, e)

pub sent-updated : (interface frame peer bytes : List ℕ) → send_text interface frame ≡ update_text peer bytes → ⊥
sent-updated interface frame peer bytes is =
    let e : 105 ≡ 111 = ap (λ (ts : List Token). first-of (tail (tail (tail ts))))
    (same-said (send_text interface frame) (update_text peer bytes) (send_pairs interface frame) (update_pairs peer bytes)
    (lines-read.send interface frame) (lines-read.update peer bytes) is) in
    omega (arith, e)

peers-said : (peer bytes other message : List ℕ) → texts_object (update_pairs peer bytes) ≡ texts_object (update_pairs other message) → peer ≡ other
peers-said peer bytes other message e = cc

pub one-updated : (peer bytes other message : List ℕ) → update_text peer bytes ≡ update_text other message → peer ≡ other
one-updated peer bytes other message is =
    peers-said peer bytes other message
    (same-said (update_text peer bytes) (update_text other message) (update_pairs peer bytes) (update_pairs other message) (lines-read.update peer bytes)
    (lines-read.update other message) is)
