-- Which addresses of a pool may be used, by who has what.
use Rattle.std.specs.Prelude.{◌≡◌, ◌≢◌, Bool, true, false}
use Rattle.std.specs.List.{Contains, list_any}
use Rattle.ip_ranges.specs.declared.family.Family.{Family}
use Rattle.ip_ranges.specs.Values.{AddressValue, holds, is_buggy}
use Rattle.kube_model.specs.declared.key.Key.{Key}
use Rattle.sharing_terms.specs.declared.terms.Terms.{Terms}
use Rattle.sharing_terms.specs.Sharing.{MayShare}
use Rattle.pool_config.specs.declared.compiled.CompiledPool.{CompiledPool}
use Rattle.claim_index.specs.Claims.{ClaimValue, Holders}

-- whoever else has the address has it under terms that may share it
abbrev pub IsLeftTo : Holders → Key → Terms → AddressValue → Type 0
IsLeftTo has key terms a =
    (other : Key) → other ≢ key → (c : ClaimValue) → Contains (has other) c → Contains c.holding.addresses a → MayShare terms c.terms

-- one of the pool's entries has the address
abbrev pub is_in : CompiledPool → AddressValue → Bool
is_in pool a = list_any (λ span. holds span a) pool.spans

-- It lies in the pool, isn't one that the pool avoids, and whoever else has it shares it.
pub record IsUsable (has : Holders) (key : Key) (terms : Terms) (pool : CompiledPool) (a : AddressValue) : Type 0 where
  pub in_pool : is_in pool a ≡ true
  pub not_avoided : pool.avoid_buggy ≡ true → is_buggy a ≡ false
  pub left : IsLeftTo has key terms a

-- a usable address of the family
abbrev pub IsUsableOf : Holders → Key → Terms → CompiledPool → Family → AddressValue → Type 0
IsUsableOf has key terms pool family a = (a.family ≡ family) × IsUsable has key terms pool a
