-- The one text that an address is printed as, as RFC 5952, section 4, describes it: apart from how it is made.
use Rattle.std.specs.Prelude.{◌≡◌, ◌≢◌, ℕ, ◌+◌, ◌<◌, ◌≤◌, ◌⊎◌, List, [], ◌∷◌, ◌++◌, length, take, drop, slice_index, replicate, codes}
use Rattle.std.specs.List.{AllByRecursion}
use Rattle.std.specs.Int.{w32, w128, from_be_bytes, IsInRange}
use Rattle.std.specs.Net.Addr.{octets_of}
use Rattle.std.specs.Net.Grammar.{IsDotted, IsGroup}
use Rattle.ip_ranges.specs.declared.family.Family.{Family}
use Rattle.ip_ranges.specs.declared.family.Family.TheVariants.{V4, V6}
use Rattle.ip_ranges.specs.Values.{AddressValue}

-- `0` to `9`, or `a` to `f`
abbrev pub IsLowerHexDigit : ℕ → Type 0
IsLowerHexDigit c = IsInRange 48 57 c ⊎ IsInRange 97 102 c

-- One to four digits that write the group of 16 bits: in lower case (4.3), and no zero leads them (4.1).
pub record IsField (text : List ℕ) (group : ℕ) : Type 0 where
  pub writes : IsGroup text group
  pub lower : AllByRecursion IsLowerHexDigit text
  pub no_leading_zero : 1 < length text → slice_index text 0 ≢ 48

-- fields, each after a colon
abbrev pub AreMoreFields : List ℕ → List ℕ → Type 0
AreMoreFields text [] = text ≡ []
AreMoreFields text (group ∷ groups) = (field rest : List ℕ) × (text ≡ codes ":" ++ field ++ rest) × IsField field group × AreMoreFields rest groups

-- fields with colons between them
abbrev pub AreFields : List ℕ → List ℕ → Type 0
AreFields text [] = text ≡ []
AreFields text (group ∷ groups) = (field rest : List ℕ) × (text ≡ field ++ rest) × IsField field group × AreMoreFields rest groups

-- from the start on, so many groups are zero
abbrev pub IsZeroRun : List ℕ → ℕ → ℕ → Type 0
IsZeroRun groups start len = (start + len ≤ length groups) × (take len (drop start groups) ≡ replicate len 0)

-- This run is shortened: it has two groups at least (4.2.2), none is longer (4.2.1), and none as long begins before it (4.2.3).
pub record IsShortened (groups : List ℕ) (start len : ℕ) : Type 0 where
  pub several : 2 ≤ len
  pub zeros : IsZeroRun groups start len
  pub longest : (other size : ℕ) → IsZeroRun groups other size → size ≤ len
  pub first : (other : ℕ) → IsZeroRun groups other len → start ≤ other

-- `::` stands for the run that is shortened
pub record HasShortened (text groups : List ℕ) : Type 0 where
  pub start : ℕ
  pub len : ℕ
  pub run : IsShortened groups start len
  pub front : List ℕ
  pub back : List ℕ
  pub spelled : text ≡ front ++ codes "::" ++ back
  pub front_fields : AreFields front (take start groups)
  pub back_fields : AreFields back (drop (start + len) groups)

-- no two groups of zeros stand together, and all groups are written
pub record HasAll (text groups : List ℕ) : Type 0 where
  pub alone : (start len : ℕ) → IsZeroRun groups start len → len < 2
  pub fields : AreFields text groups

-- Four decimal numbers without leading zeros, with dots between them; or eight groups, with `::` exactly for the run that is shortened.
abbrev pub IsCanonicalIn : Family → List ℕ → ℕ → Type 0
IsCanonicalIn V4 text number = (octets : List ℕ) × IsDotted text octets × (number ≡ from_be_bytes w32 octets)
IsCanonicalIn V6 text number =
    (groups : List ℕ) × (length groups ≡ 8) × (number ≡ from_be_bytes w128 (octets_of groups)) × (HasShortened text groups ⊎ HasAll text groups)

-- the text is the canonical one of the address
abbrev pub IsCanonical : List ℕ → AddressValue → Type 0
IsCanonical text a = IsCanonicalIn a.family text a.number
