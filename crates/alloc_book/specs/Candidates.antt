-- Where the least usable address is looked for, and which addresses a search may skip.
use Rattle.std.specs.Prelude.{◌≡◌, ◌≤◌, ◌<◌, ℕ, Bool, true, false, ◌&&◌, not, List, Option, Some, None}
use Rattle.std.specs.List.{list_any}
use Rattle.ip_ranges.specs.Values.{AddressValue, has_address, is_buggy}
use Rattle.kube_model.specs.declared.key.Key.{Key}
use Rattle.kube_model.specs.Keys.{same_key}
use Rattle.pool_config.specs.declared.compiled.CompiledPool.{CompiledPool}
use Rattle.claim_index.specs.Claims.{ClaimValue}
use Rattle.claim_index.specs.Index.{is_shared}

-- a claim has the address
abbrev pub is_claimed : List ClaimValue → AddressValue → Bool
is_claimed claims a = list_any (λ c. has_address c.holding.addresses a) claims

-- a claim of the key has the address
abbrev pub is_own : Key → List ClaimValue → AddressValue → Bool
is_own key claims a = list_any (λ c. same_key c.key key && has_address c.holding.addresses a) claims

-- a claim of this group has the address, and none of the key does
abbrev pub is_offered : Key → List ℕ → List ClaimValue → AddressValue → Bool
is_offered key group claims a = is_shared group claims a && not (is_own key claims a)

-- no claim has the address, and the pool doesn't avoid it
abbrev pub is_free : List ClaimValue → CompiledPool → AddressValue → Bool
is_free claims pool a = not (pool.avoid_buggy && is_buggy a) && not (is_claimed claims a)

-- of the numbers from low to high that are candidates this is the least that passes, or one that passes ahead of each of them
abbrev pub Covers : (ℕ → Bool) → (ℕ → Bool) → ℕ → ℕ → Option ℕ → Type 0
Covers candidate test low high (Some n) = (low ≤ n) × (n ≤ high) × (test n ≡ true) × ((m : ℕ) → low ≤ m → m < n → candidate m ≡ true → test m ≡ false)
Covers candidate test low high None = (m : ℕ) → low ≤ m → m ≤ high → candidate m ≡ true → test m ≡ false
