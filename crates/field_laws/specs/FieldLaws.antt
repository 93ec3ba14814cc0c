-- When a value is read as one of its type, when a field is read, and what is refused, in words apart from the reader.
use Rattle.std.specs.Prelude.{◌≡◌, ◌≤◌, ◌↔◌, ◌⊎◌, ℕ, ◌+◌, List, [], ◌∷◌, Bool, Some, None, Result, Ok, Err, codes}
use Rattle.hex.specs.Hex.{decode_of}
use Rattle.serde_json.specs.Data.{Data, null, boolean, number, string, array, object, unsigned, Items, no_items, item, Members, no_members, member}
use Rattle.json_fields.specs.Path.{Path, names_of, joined, item_place}
use Rattle.json_fields.specs.Reading.{optional_at, required_at, default_at, list_of}
use Rattle.ip_ranges.specs.declared.family.Family.{Family}
use Rattle.ip_ranges.specs.declared.family.Family.TheVariants.{V4, V6}
use Rattle.ip_ranges.specs.Values.{AddressValue}
use Rattle.ip_ranges.specs.AddressText.{address_of}
use Rattle.kube_model.specs.declared.port.Protocol.{Protocol}
use Rattle.kube_model.specs.declared.port.Protocol.TheVariants.{Tcp, Udp, Sctp}
use Rattle.kube_model.specs.declared.service.Policy.{Policy}
use Rattle.kube_model.specs.declared.service.Policy.TheVariants.{Cluster, Local}
use Rattle.kube_events.specs.Named.{version_named}
use Rattle.field_laws.specs.Standing.{nothing, astray, here, look}
use Rattle.field_laws.specs.Told.{Pairs, in_order}

-- ---- values

-- A value is read as x exactly where it is x of the type, and else it is itself refused.
pub record IsReadWhere {A : Type 0} (read : Data → Result A Path) (Is : Data → A → Type 0) : Type 0 where
  pub read_as : (d : Data) (x : A) → (read d ≡ Ok x) ↔ Is d x
  pub refused : (d : Data) (path : Path) → (read d ≡ Err path) ↔ (([] ≡ path) × ((x : A) → Is d x → ⊥))

abbrev pub IsText : Data → List ℕ → Type 0
IsText d text = d ≡ string text

abbrev pub IsTruth : Data → Bool → Type 0
IsTruth d b = d ≡ boolean b

-- a whole number without sign, fraction and exponent, from low to high
abbrev pub IsNumber : ℕ → ℕ → Data → ℕ → Type 0
IsNumber low high d n = (d ≡ number (unsigned n)) × (low ≤ n) × (n ≤ high)

-- a text that says x
abbrev pub IsTextOf : {A : Type 0} → (List ℕ → A → Type 0) → Data → A → Type 0
IsTextOf Says d x = (text : List ℕ) × (d ≡ string text) × Says text x

abbrev pub SaysFamily : List ℕ → Family → Type 0
SaysFamily text V4 = text ≡ codes "IPv4"
SaysFamily text V6 = text ≡ codes "IPv6"

abbrev pub SaysProtocol : List ℕ → Protocol → Type 0
SaysProtocol text Tcp = text ≡ codes "TCP"
SaysProtocol text Udp = text ≡ codes "UDP"
SaysProtocol text Sctp = text ≡ codes "SCTP"

-- the empty text says Cluster too
abbrev pub SaysPolicy : List ℕ → Policy → Type 0
SaysPolicy text Cluster = (text ≡ codes "Cluster") ⊎ (text ≡ codes "")
SaysPolicy text Local = text ≡ codes "Local"

-- a decimal number without leading zeros, from 1 below 2 ^ 64, by the law `versions_are_decimal`
abbrev pub SaysVersion : List ℕ → ℕ → Type 0
SaysVersion text n = version_named text ≡ Some n

-- RFC 4291, section 2.2, by the laws of ip_ranges
abbrev pub SaysAddress : List ℕ → AddressValue → Type 0
SaysAddress text address = address_of text ≡ Ok address

-- hexadecimal digits of either case, two for each byte
abbrev pub SaysBytes : List ℕ → List ℕ → Type 0
SaysBytes text bytes = decode_of text ≡ Ok bytes

-- The members that aren't null are these texts by their names.
abbrev pub AreTexts : Members → Pairs → Type 0
AreTexts no_members pairs = [] ≡ pairs
AreTexts (member name null others) pairs = AreTexts others pairs
AreTexts (member name (boolean b) others) pairs = ⊥
AreTexts (member name (number n) others) pairs = ⊥
AreTexts (member name (string text) others) pairs = (rest : Pairs) × AreTexts others rest × ((name, text) ∷ rest ≡ pairs)
AreTexts (member name (array ds) others) pairs = ⊥
AreTexts (member name (object ms) others) pairs = ⊥

-- an object of texts, members that are null apart
abbrev pub IsTextMap : Data → Pairs → Type 0
IsTextMap d pairs = (members : Members) × (texts : Pairs) × (d ≡ object members) × AreTexts members texts × (in_order [] texts ≡ pairs)

-- ---- fields

-- Nothing stands at the path: a member on the way is absent, or null.
abbrev pub IsAbsent : Path → Data → Type 0
IsAbsent path d = look (names_of path) d ≡ nothing

-- What stands there is read as x.
abbrev pub IsThere : {A : Type 0} → (Data → Result A Path) → Path → Data → A → Type 0
IsThere read path d x = (value : Data) × (look (names_of path) d ≡ here value) × (read value ≡ Ok x)

-- The path leads through what is no object, and then the whole path is refused; or what stands there is refused, at its path from there on.
abbrev pub IsFaulty : {A : Type 0} → (Data → Result A Path) → Path → Data → Path → Type 0
IsFaulty read path d at = (look (names_of path) d ≡ astray) × (path ≡ at)
    ⊎ ((value : Data) × (rest : Path) × (look (names_of path) d ≡ here value) × (read value ≡ Err rest) × (joined path rest ≡ at))

-- When fields of a type are read, and as what; else they are refused at this path.
pub record FieldsAreRead {A : Type 0} (read : Data → Result A Path) : Type 0 where
  pub required : (path : Path) (d : Data) (x : A) → (required_at read path d ≡ Ok x) ↔ IsThere read path d x
  pub required_refused : (path : Path) (d : Data) (at : Path) → (required_at read path d ≡ Err at) ↔ (IsAbsent path d × (path ≡ at) ⊎ IsFaulty read path d at)
  pub there : (path : Path) (d : Data) (x : A) → (optional_at read path d ≡ Ok (Some x)) ↔ IsThere read path d x
  pub absent : (path : Path) (d : Data) → (optional_at read path d ≡ Ok None) ↔ IsAbsent path d
  pub optional_refused : (path : Path) (d : Data) (at : Path) → (optional_at read path d ≡ Err at) ↔ IsFaulty read path d at
  pub default : (path : Path) (default : A) (d : Data) (x : A)
      → (default_at read path default d ≡ Ok x)
      ↔ (IsAbsent path d × (default ≡ x) ⊎ IsThere read path d x)
  pub default_refused : (path : Path) (default : A) (d : Data) (at : Path) → (default_at read path default d ≡ Err at) ↔ IsFaulty read path d at

-- ---- lists

-- Each item is read as the one at its place.
abbrev pub AreRead : {A : Type 0} → (Data → Result A Path) → Items → List A → Type 0
AreRead read no_items xs = [] ≡ xs
AreRead {A} read (item d items) xs = (x : A) × (rest : List A) × (read d ≡ Ok x) × AreRead read items rest × (x ∷ rest ≡ xs)

-- The first item that is refused is named by its place, counted on from this one.
abbrev pub IsFirstFault : {A : Type 0} → (Data → Result A Path) → ℕ → Items → Path → Type 0
IsFirstFault read index no_items at = ⊥
IsFirstFault {A} read index (item d items) at = ((rest : Path) × (read d ≡ Err rest) × (joined (item_place index) rest ≡ at))
    ⊎ ((x : A) × (read d ≡ Ok x) × IsFirstFault read (index + 1) items at)

abbrev pub IsNoList : Data → Type 0
IsNoList d = (items : Items) → d ≡ array items → ⊥

pub record ListsAreRead {A : Type 0} (read : Data → Result A Path) : Type 0 where
  pub read_as : (d : Data) (xs : List A) → (list_of read d ≡ Ok xs) ↔ ((items : Items) × (d ≡ array items) × AreRead read items xs)
  pub refused : (d : Data) (at : Path)
      → (list_of read d ≡ Err at)
      ↔ (IsNoList d × ([] ≡ at) ⊎ ((items : Items) × (d ≡ array items) × IsFirstFault read 0 items at))
