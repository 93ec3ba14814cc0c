-- Usable addresses as tests over a list of claims, and the least of them by a search.
use Rattle.std.specs.Prelude.{ℕ, ◌+◌, ◌-◌, suc, zero, Bool, ◌&&◌, not, if◌then◌else◌, List, [], ◌∷◌, Option, Some, None}
use Rattle.std.specs.Option.{option_map}
use Rattle.std.specs.List.{list_all}
use Rattle.ip_ranges.specs.declared.family.Family.{Family}
use Rattle.ip_ranges.specs.Values.{AddressValue, SpanValue, same_family, is_buggy}
use Rattle.kube_model.specs.declared.key.Key.{Key}
use Rattle.kube_model.specs.declared.record.Record.{Record}
use Rattle.sharing_terms.specs.declared.terms.Terms.{Terms}
use Rattle.pool_config.specs.declared.compiled.CompiledPool.{CompiledPool}
use Rattle.alloc_book.specs.Asking.{Asker}
use Rattle.claim_index.specs.Claims.{ClaimValue}
use Rattle.address_holders.specs.Holders.{address_of}
use Rattle.claim_index.specs.Reading.{leaves}
use Rattle.alloc_book.specs.First.{record_in}
use Rattle.alloc_book.specs.Usable.{is_in}

abbrev pub usable : List ClaimValue → Key → Terms → CompiledPool → AddressValue → Bool
usable claims key terms pool a = is_in pool a && not (pool.avoid_buggy && is_buggy a) && list_all (leaves key terms a) claims

-- the least number that passes, of so many numbers from low on
abbrev pub least_between : (ℕ → Bool) → ℕ → ℕ → Option ℕ
least_between test low zero = None
least_between test low (suc count) = if test low then Some low else least_between test (low + 1) count

abbrev pub or_else : {X : Type 0} → Option X → Option X → Option X
or_else (Some x) other = Some x
or_else None other = other

-- the test of an address, by its number
abbrev pub numbered : (AddressValue → Bool) → Family → ℕ → Bool
numbered test family n = test (address_of family n)

-- the least address of the range that passes, where the range is of the family
abbrev pub least_in : (AddressValue → Bool) → Family → SpanValue → Option AddressValue
least_in test family span = if same_family span.family family
    then option_map (address_of family) (least_between (numbered test family) span.low (span.high + 1 - span.low))
    else None

-- the same over ranges, as they are listed
abbrev pub least_of : (AddressValue → Bool) → Family → List SpanValue → Option AddressValue
least_of test family [] = None
least_of test family (span ∷ spans) = or_else (least_in test family span) (least_of test family spans)

-- the first usable address of the family, entries as listed, addresses of an entry ascending
abbrev pub least_usable : List ClaimValue → Key → Terms → CompiledPool → Family → Option AddressValue
least_usable claims key terms pool family = least_of (usable claims key terms pool) family pool.spans

abbrev pub both : {X : Type 0} → Option X → Option (List X) → Option (List X)
both None rest = None
both (Some a) None = None
both (Some a) (Some more) = Some (a ∷ more)

-- the least usable address of each family, in the order of the families
abbrev pub least_each : List ClaimValue → Key → Terms → CompiledPool → List Family → Option (List AddressValue)
least_each claims key terms pool [] = Some []
least_each claims key terms pool (family ∷ families) =
    both (least_usable claims key terms pool family) (least_each claims key terms pool families)

-- the least usable addresses of the first pool that has one of each of the families
abbrev pub first_pool : List ClaimValue → Asker → List Family → List CompiledPool → Option Record
first_pool claims q families [] = None
first_pool claims q families (pool ∷ pools) =
    or_else (option_map (record_in pool q) (least_each claims q.key q.terms pool families)) (first_pool claims q families pools)

-- the same for the first of the lists of families for which some pool has one of each
abbrev pub first_of : List ClaimValue → Asker → List CompiledPool → List (List Family) → Option Record
first_of claims q pools [] = None
first_of claims q pools (families ∷ options) = or_else (first_pool claims q families pools) (first_of claims q pools options)

abbrev pub first_option : List ClaimValue → Asker → List CompiledPool → Option Record
first_option claims q pools = first_of claims q pools q.options
