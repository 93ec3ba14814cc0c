-- The texts of the JSON value that tokens spell.
use Rattle.std.proofs.Common.{ℕ, zero, suc, List, [], ◌∷◌, length, Option, Some, None, option_and_then, IfSome}
use Rattle.std.specs.List.{AllByRecursion}
use Rattle.std.specs.Bool.{⊤}
use Rattle.std.specs.Str.{IsUtf8}
use Rattle.json.specs.Token as token
use Rattle.json.specs.Token.{Token}
use Rattle.json.specs.Json.{Json, null, boolean, number, string, array, object, Items, no_items, item, Members, no_members, member, Parse}
use Rattle.json.specs.Json.{parse_map, after_end_array, read_key, items_step, members_step, items, members, value_with, value, if_last}
use Rattle.json_text_laws.proofs.Tokens.{TokenText}

abbrev mutual
  pub JsonTexts : Json → Type 0
  JsonTexts null = ⊤
  JsonTexts (boolean b) = ⊤
  JsonTexts (number s) = ⊤
  JsonTexts (string s) = IsUtf8 s
  JsonTexts (array js) = ItemsTexts js
  JsonTexts (object ms) = MembersTexts ms

  pub ItemsTexts : Items → Type 0
  ItemsTexts no_items = ⊤
  ItemsTexts (item j js) = JsonTexts j × ItemsTexts js

  pub MembersTexts : Members → Type 0
  MembersTexts no_members = ⊤
  MembersTexts (member k j ms) = IsUtf8 k × JsonTexts j × MembersTexts ms

-- what was read, and the texts of the tokens that follow it
abbrev Found : {A : Type 0} → (A → Type 0) → Option (A × List Token) → Type 0
Found P r = IfSome r (λ p. P p.0 × AllByRecursion TokenText p.1)

abbrev Finds : {A : Type 0} → (A → Type 0) → Parse A → Type 0
Finds P parse = (ts : List Token) → AllByRecursion TokenText ts → Found P (parse ts)

mapped : {A B : Type 0} (P : A → Type 0) (Q : B → Type 0) (f : A → B) (r : Option (A × List Token)) → ((x : A) → P x → Q (f x)) → Found P r
    → Found Q (parse_map f r)
mapped P Q f None each h = tt
mapped P Q f (Some p) each h = (each p.0 h.0, h.1)

then_found : {A B : Type 0} (P : A → Type 0) (Q : B → Type 0) (f : A × List Token → Option (B × List Token)) (r : Option (A × List Token))
    → ((p : A × List Token) → P p.0 → AllByRecursion TokenText p.1 → Found Q (f p)) → Found P r → Found Q (option_and_then f r)
then_found P Q f None each h = tt
then_found P Q f (Some p) each h = each p h.0 h.1

after_array : (ts : List Token) → AllByRecursion TokenText ts → IfSome (after_end_array ts) (AllByRecursion TokenText)
after_array [] h = tt
after_array (token.end_array ∷ ts) h = h.1
after_array (t ∷ ts) h = tt

key_found : Finds (λ k. IfSome k IsUtf8) read_key
key_found [] h = tt
key_found (token.end_object ∷ ts) h = (tt, h.1)
key_found (token.key s ∷ ts) h = (h.0, h.1)
key_found (t ∷ ts) h = tt

items_by : (read : Parse Json) (more : Parse Items) (ts : List Token) (end : Option (List Token)) → Finds JsonTexts read → Finds ItemsTexts more
    → AllByRecursion TokenText ts → IfSome end (AllByRecursion TokenText)
    → Found ItemsTexts (items_step read more ts end)
items_by read more ts (Some rest) first others h e = (tt, e)
items_by read more ts None first others h e =
    then_found JsonTexts ItemsTexts _ (read ts) (λ p j rest. mapped ItemsTexts ItemsTexts (item p.0) (more p.1) (λ js all. (j, all)) (others p.1 rest))
    (first ts h)

items_found : (read : Parse Json) → Finds JsonTexts read → (n : ℕ) → Finds ItemsTexts (items read n)
unfolding items
items_found read first zero ts h = tt
items_found read first (suc n) ts h = items_by read (items read n) ts (after_end_array ts) first (items_found read first n) h (after_array ts h)

members_by : (read : Parse Json) (more : Parse Members) (k : Option (List ℕ)) (ts : List Token) → Finds JsonTexts read → Finds MembersTexts more
    → IfSome k IsUtf8 → AllByRecursion TokenText ts
    → Found MembersTexts (members_step read more k ts)
members_by read more None ts first others k h = (tt, h)
members_by read more (Some s) ts first others k h =
    then_found JsonTexts MembersTexts _ (read ts)
    (λ p j rest. mapped MembersTexts MembersTexts (member s p.0) (more p.1) (λ ms all. (k, j, all)) (others p.1 rest)) (first ts h)

members_found : (read : Parse Json) → Finds JsonTexts read → (n : ℕ) → Finds MembersTexts (members read n)
unfolding members
members_found read first zero ts h = tt
members_found read first (suc n) ts h =
    then_found (λ k. IfSome k IsUtf8) MembersTexts _ (read_key ts)
    (λ p k rest. members_by read (members read n) p.0 p.1 first (members_found read first n) k rest) (key_found ts h)

value_by : (a : Parse Items) (o : Parse Members) → Finds ItemsTexts a → Finds MembersTexts o → Finds JsonTexts (value_with a o)
value_by a o in_array in_object [] h = tt
value_by a o in_array in_object (token.begin_object ∷ ts) h = mapped MembersTexts JsonTexts object (o ts) (λ ms all. all) (in_object ts h.1)
value_by a o in_array in_object (token.end_object ∷ ts) h = tt
value_by a o in_array in_object (token.begin_array ∷ ts) h = mapped ItemsTexts JsonTexts array (a ts) (λ js all. all) (in_array ts h.1)
value_by a o in_array in_object (token.end_array ∷ ts) h = tt
value_by a o in_array in_object (token.key s ∷ ts) h = tt
value_by a o in_array in_object (token.string s ∷ ts) h = (h.0, h.1)
value_by a o in_array in_object (token.number s ∷ ts) h = (tt, h.1)
value_by a o in_array in_object (token.boolean b ∷ ts) h = (tt, h.1)
value_by a o in_array in_object (token.null ∷ ts) h = (tt, h.1)
value_by a o in_array in_object (token.bad ∷ ts) h = tt

pub value_found : (n : ℕ) → Finds JsonTexts (value n)
unfolding value
value_found zero = value_by (λ ts. None) (λ ts. None) (λ ts h. tt) (λ ts h. tt)
value_found (suc n) =
    value_by (λ ts. items (value n) (length ts) ts) (λ ts. members (value n) (length ts) ts)
    (λ ts h. items_found (value n) (value_found n) (length ts) ts h) (λ ts h. members_found (value n) (value_found n) (length ts) ts h)

pub last_texts : (r : Option (Json × List Token)) → IfSome r (λ p. JsonTexts p.0 × AllByRecursion TokenText p.1)
    → IfSome (option_and_then (λ p. if_last p.0 p.1) r) JsonTexts
last_texts None h = tt
last_texts (Some p) h = by p.0 p.1 h.0
  where
    by : (j : Json) (ts : List Token) → JsonTexts j → IfSome (if_last j ts) JsonTexts
    by j [] h = h
    by j (t ∷ ts) h = tt
