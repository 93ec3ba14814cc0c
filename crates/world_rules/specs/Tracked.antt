-- What a world comes to for one service: what is stored and held of it, what is claimed, and what is still to be shown.
use Rattle.std.specs.Prelude.{◌≡◌, ℕ, ◌≤◌, ◌<◌, Bool, true, false, ◌==◌, ◌&&◌, nat_le, if◌then◌else◌, List, [], ◌∷◌, Option, Some, None, is_some, MatchBool, ⊤}
use Rattle.std.specs.List.{Contains}
use Rattle.kube_model.specs.declared.record.Record.{Record}
use Rattle.kube_model.specs.Records.{is_assigned}
use Rattle.claim_index.specs.Claims.{claimed_by}
use Rattle.sharing_terms.specs.Spelled.{recorded_terms}

-- it has an address and a mark
abbrev pub is_given : Record → Bool
is_given r = is_assigned r && is_some (recorded_terms r.mark)

-- a version, and the record that was shown at it
pub record Shown : Type 0 where
  pub version : ℕ
  pub holding : Record

-- what is pending of the service
pub data Notice : Type 0 where
  Shows : Shown → Notice  -- it is shown so
  Gone : Notice  -- it is deleted
  End : Notice  -- the list of services ends

abbrev pub version_at : Option Shown → ℕ
version_at None = 0
version_at (Some x) = x.version

-- it isn't stored, or without an address
abbrev pub IsBare : Option Shown → Type 0
IsBare None = ⊤
IsBare (Some x) = is_given x.holding ≡ false

-- where it is stored with an address, it is with this record
abbrev pub Agrees : Option Shown → Record → Type 0
Agrees None r = ⊤
Agrees (Some x) r = is_given x.holding ≡ true → r ≡ x.holding

-- where it is stored, it is at this version or a later one
abbrev pub IsUpTo : Option Shown → ℕ → Type 0
IsUpTo None v = ⊤
IsUpTo (Some x) v = v ≤ x.version

-- where it is stored, it is at a later version than this
abbrev pub IsBehind : Option Shown → ℕ → Type 0
IsBehind None v = ⊤
IsBehind (Some x) v = v < x.version

-- what is held after it was shown so
abbrev pub after_shows : Option Shown → Shown → Option Shown
after_shows h x = if nat_le x.version (version_at h) then h else Some x

-- it is held, and wasn't listed since its watch expired
abbrev pub is_unlisted : Option Shown → Bool
is_unlisted None = false
is_unlisted (Some x) = x.version == 0

-- what is held after the list has ended
abbrev pub after_end : Option Shown → Option Shown
after_end h = if is_unlisted h then None else h

-- a deletion is pending
abbrev pub has_gone : List Notice → Bool
has_gone [] = false
has_gone (Shows x ∷ more) = has_gone more
has_gone (Gone ∷ more) = true
has_gone (End ∷ more) = has_gone more

-- it is stored; and where it is with an address, it is with this record
abbrev pub IsJust : Option Shown → Record → Type 0
IsJust None r = ⊥
IsJust (Some x) r = is_given x.holding ≡ true → r ≡ x.holding

-- what is shown is the stored record, where that has an address; or a deletion follows, and nothing is stored, or without an address
abbrev pub IsCarried : Option Shown → Record → List Notice → Type 0
IsCarried s r more = MatchBool (has_gone more) (IsBare s) (IsJust s r)

-- All the notices together lead from what is held to what is stored, and no step of it drops a stored address.
abbrev pub Follows : Option Shown → Option Shown → List Notice → Type 0
Follows s h [] = h ≡ s
Follows s h (Shows x ∷ more) = IsUpTo s x.version × (version_at h < x.version → IsCarried s x.holding more) × Follows s (after_shows h x) more
Follows s h (Gone ∷ more) = IsBare s × IsBehind s (version_at h) × Follows s None more
Follows s h (End ∷ more) = (is_unlisted h ≡ true → IsBare s) × Follows s (after_end h) more

-- a stored address is claimed with its record
abbrev pub IsClaimed : Option Shown → List Record → Type 0
IsClaimed None claims = ⊤
IsClaimed (Some x) claims = is_given x.holding ≡ true → Contains claims x.holding

-- so it is once the list of services has ended
abbrev pub WillBeClaimed : Option Shown → Option Shown → List Record → List Notice → Type 0
WillBeClaimed s h claims [] = IsClaimed s claims
WillBeClaimed s h claims (Shows x ∷ more) =
    WillBeClaimed s (after_shows h x) (if nat_le x.version (version_at h) then claims else claimed_by x.holding) more
WillBeClaimed s h claims (Gone ∷ more) = WillBeClaimed s None [] more
WillBeClaimed s h claims (End ∷ more) = IsClaimed s claims

-- the versions shown ascend, from above the first number up to the counter
abbrev pub AreGiven : ℕ → ℕ → List Notice → Type 0
AreGiven low counter [] = ⊤
AreGiven low counter (Shows x ∷ more) = (low < x.version) × (x.version ≤ counter) × AreGiven x.version counter more
AreGiven low counter (Gone ∷ more) = AreGiven low counter more
AreGiven low counter (End ∷ more) = AreGiven low counter more

-- what is held with an address is claimed, and nothing is that isn't held
abbrev pub MatchesClaims : Option Shown → List Record → Type 0
MatchesClaims None claims = claims ≡ []
MatchesClaims (Some x) claims = is_assigned x.holding ≡ true → Contains claims x.holding

-- nothing newer than this version is pending, and no deletion
abbrev pub AreOld : ℕ → List Notice → Type 0
AreOld version [] = ⊤
AreOld version (Shows x ∷ more) = (x.version ≤ version) × AreOld version more
AreOld version (Gone ∷ more) = ⊥
AreOld version (End ∷ more) = AreOld version more

-- the end of the list is still to come, once, exactly where it hasn't come
abbrev pub EndsOnce : Bool → List Notice → Type 0
EndsOnce true [] = ⊤
EndsOnce false [] = ⊥
EndsOnce true (End ∷ more) = ⊥
EndsOnce false (End ∷ more) = EndsOnce true more
EndsOnce ended (Shows x ∷ more) = EndsOnce ended more
EndsOnce ended (Gone ∷ more) = EndsOnce ended more

-- What holds of each service while the controller is up.
pub record IsTracked (counter : ℕ) (ended : Bool) (s h : Option Shown) (claims : List Record) (notices : List Notice) : Type 0 where
  pub stored_given : version_at s ≤ counter
  pub stored_later : IsBehind s 0  -- stored versions begin at 1
  pub held_given : version_at h ≤ counter
  pub notices_given : AreGiven 0 counter notices
  pub kept : MatchesClaims h claims
  pub ends : EndsOnce ended notices
  pub follows : Follows s h notices
  pub claimed : MatchBool ended (IsClaimed s claims) (WillBeClaimed s h claims notices)
