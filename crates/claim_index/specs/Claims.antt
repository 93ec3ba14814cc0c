-- Claims: which records a key has, or may have, and under which terms.
use Rattle.std.specs.Prelude.{◌≡◌, List, [], ◌∷◌, ◌++◌, Bool, true, ◌&&◌, not, filter, map, if◌then◌else◌, Option, Some, None}
use Rattle.std.specs.List.{Contains, list_any}
use Rattle.std.specs.Option.{unwrap_or}
use Rattle.kube_model.specs.declared.key.Key.{Key}
use Rattle.kube_model.specs.declared.record.Record.{Record}
use Rattle.kube_model.specs.Records.{is_assigned, same_record}
use Rattle.kube_model.specs.Keys.{same_key}
use Rattle.sharing_terms.specs.declared.terms.Terms.{Terms}
use Rattle.sharing_terms.specs.Spelled.{recorded_terms}
use Rattle.claim_index.specs.Alike.{same_terms}

-- A key has this record, or may have it, and shares its addresses under these terms.
pub record ClaimValue : Type 0 where
  pub key : Key
  pub holding : Record
  pub terms : Terms

-- Who has what: for each key its claims. A list of claims gives it, and so does a look back over what was shown.
abbrev pub Holders : Type 0
Holders = Key → List ClaimValue

-- the terms of the record's mark; those that are adopted, where it is the mark of none
abbrev pub terms_under : Record → Terms → Terms
terms_under holding adopted = unwrap_or (recorded_terms holding.mark) adopted

-- the claim is this record under these terms
abbrev pub is_under : Record → Terms → ClaimValue → Bool
is_under holding terms c = same_record c.holding holding && same_terms c.terms terms

-- the claims of the key
abbrev pub claims_of : Key → List ClaimValue → List ClaimValue
claims_of key [] = []
claims_of key (c ∷ claims) = if same_key c.key key then c ∷ claims_of key claims else claims_of key claims

-- the records of claims
abbrev pub records_in : List ClaimValue → List Record
records_in claims = map (λ c. c.holding) claims

-- the records of the key's claims
abbrev pub records_of : Key → List ClaimValue → List Record
records_of key claims = records_in (claims_of key claims)

-- who has what, by the claims
abbrev pub holders : List ClaimValue → Holders
holders claims = λ key. claims_of key claims

-- the claims of other keys
abbrev pub others : Key → List ClaimValue → List ClaimValue
others key claims = filter (λ c. not (same_key c.key key)) claims

-- the claim of a record under these terms, where it has an address
abbrev pub claim_of : Key → Record → Terms → List ClaimValue
claim_of key holding terms = if is_assigned holding then record { key = key; holding = holding; terms = terms } ∷ [] else []

-- the key has this claim and no other
abbrev pub settled : Key → Record → Terms → List ClaimValue → List ClaimValue
settled key holding terms claims = others key claims ++ claim_of key holding terms

-- the key has a claim of this very record under these very terms
abbrev pub claims_it : Key → Record → Terms → List ClaimValue → Bool
claims_it key holding terms claims = list_any (λ c. same_key c.key key && is_under holding terms c) claims

-- the key has this claim too, unless it stands already
abbrev pub doubted : Key → Record → Terms → List ClaimValue → List ClaimValue
doubted key holding terms claims = if claims_it key holding terms claims then claims else claims ++ claim_of key holding terms

-- the key may have this record too, under the terms of its mark; where it is the mark of none, nothing is added
abbrev pub doubted_by : Key → Record → Option Terms → List ClaimValue → List ClaimValue
doubted_by key holding None claims = claims
doubted_by key holding (Some terms) claims = doubted key holding terms claims

-- the key has another claim than this one: of another record, or under other terms
abbrev pub loses : Key → Record → Terms → List ClaimValue → Bool
loses key holding terms claims = list_any (λ c. same_key c.key key && not (is_under holding terms c)) claims

-- the key has a claim
abbrev pub has_claims : Key → List ClaimValue → Bool
has_claims key claims = list_any (λ c. same_key c.key key) claims

-- each claim's record has an address
abbrev pub AreAssigned : List ClaimValue → Type 0
AreAssigned claims = (c : ClaimValue) → Contains claims c → is_assigned c.holding ≡ true

-- the record, where it has an address
abbrev pub claimed_by : Record → List Record
claimed_by holding = if is_assigned holding then holding ∷ [] else []

-- one claim of a key more, unless it stands among them
abbrev pub added : Key → Record → Terms → List ClaimValue → List ClaimValue
added key holding terms claims = if list_any (is_under holding terms) claims then claims else claims ++ claim_of key holding terms
