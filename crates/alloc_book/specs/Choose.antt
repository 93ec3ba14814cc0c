-- The choice as it is computed over a list of claims.
use Rattle.std.specs.Prelude.{ℕ, ◌==◌, Bool, false, ◌&&◌, ◌||◌, not, if◌then◌else◌, List, Option, Some, None, is_some, is_none, find, filter, length}
use Rattle.std.specs.List.{list_all, list_any}
use Rattle.std.specs.Str.{bytes_eq}
use Rattle.ip_ranges.specs.declared.family.Family.{Family}
use Rattle.ip_ranges.specs.declared.family.Family.TheVariants.{V4, V6}
use Rattle.ip_ranges.specs.Values.{AddressValue, same_family, has_address}
use Rattle.kube_model.specs.declared.reason.Reason.{Reason}
use Rattle.kube_model.specs.declared.reason.Reason.TheVariants.{RequestUnreadable, RequestFamilies, PoolUnknown, PoolRefused}
use Rattle.kube_model.specs.declared.reason.Reason.TheVariants.{AddressOutside, AddressUnusable, PoolExhausted, NoPool, Exhausted}
use Rattle.kube_model.specs.declared.record.Record.{Record}
use Rattle.kube_model.specs.declared.service.Service.{Service}
use Rattle.kube_model.specs.Service.{same_class}
use Rattle.alloc_book.specs.declared.choice.Choice.{Choice}
use Rattle.alloc_book.specs.declared.choice.Choice.TheVariants.{Foreign, Clear, Pending, Keep, New}
use Rattle.pool_config.specs.declared.compiled.CompiledPool.{CompiledPool}
use Rattle.alloc_book.specs.Asking.{Asker, Offer, asker_of, asked_in, is_asked, is_unreadable, is_given}
use Rattle.alloc_book.specs.Chosen.{named, asked_pools}
use Rattle.claim_index.specs.Claims.{ClaimValue}
use Rattle.alloc_book.specs.First.{record_in}
use Rattle.alloc_book.specs.Search.{usable, first_option}
use Rattle.mlb_base.specs.Items.{is_nil}
use Rattle.alloc_book.specs.Usable.{is_in}

-- how many of these addresses, and of these families, are of the family
abbrev pub addresses_of : Family → List AddressValue → ℕ
addresses_of family addresses = length (filter (λ a. same_family a.family family) addresses)

abbrev pub wanted_of : Family → List Family → ℕ
wanted_of family families = length (filter (λ f. same_family f family) families)

abbrev pub one_of_each : List Family → List AddressValue → Bool
one_of_each families addresses =
    (addresses_of V4 addresses == wanted_of V4 families) && (addresses_of V6 addresses == wanted_of V6 families)

abbrev pub fits_option : Asker → List AddressValue → Bool
fits_option q addresses = list_any (λ families. one_of_each families addresses) q.options

abbrev pub is_open : Offer → Asker → CompiledPool → Bool
is_open o q pool = o.serves pool && (not (is_given q.pool_asked) || bytes_eq pool.name q.pool_asked)

abbrev pub all_usable : List ClaimValue → Asker → CompiledPool → List AddressValue → Bool
all_usable claims q pool addresses = list_all (usable claims q.key q.terms pool) addresses

abbrev pub same_addresses : List AddressValue → List AddressValue → Bool
same_addresses xs ys = list_all (has_address ys) xs && list_all (has_address xs) ys

abbrev pub is_kept : List ClaimValue → Offer → Asker → CompiledPool → Bool
is_kept claims o q pool =
    is_open o q pool && fits_option q q.recorded && all_usable claims q pool q.recorded
    && (not (is_asked q.wanted) || same_addresses q.recorded (asked_in q.wanted))

abbrev pub is_home : Offer → Asker → CompiledPool → Bool
is_home o q pool = is_open o q pool && list_all (is_in pool) (asked_in q.wanted)

-- the pool of the recorded addresses, and that of those asked for
abbrev pub kept_in : List ClaimValue → Offer → Asker → Option CompiledPool
kept_in claims o q = find (is_kept claims o q) o.pools

abbrev pub home_of : Offer → Asker → Option CompiledPool
home_of o q = find (is_home o q) o.pools

abbrev pub is_refused : Offer → Option CompiledPool → Bool
is_refused o None = false
is_refused o (Some pool) = not (o.serves pool)

abbrev pub is_unusable : List ClaimValue → Asker → Option CompiledPool → Bool
is_unusable claims q None = false
is_unusable claims q (Some pool) = not (all_usable claims q pool (asked_in q.wanted))

abbrev pub kept_from : Asker → Option CompiledPool → Choice
kept_from q None = Clear
kept_from q (Some pool) = Keep (record_in pool q q.recorded)

abbrev pub asked_from : Asker → Option CompiledPool → Choice
asked_from q None = Clear
asked_from q (Some pool) = New (record_in pool q (asked_in q.wanted))

-- the record found, or the reason that there is none
abbrev pub new_or : Reason → Option Record → Choice
new_or reason (Some holding) = New holding
new_or reason None = Pending reason

-- case 11
abbrev pub from_asked : List ClaimValue → Offer → Asker → Choice
from_asked claims o q = new_or PoolExhausted (first_option claims q (asked_pools o q))

-- cases 12 and 13
abbrev pub from_eligible : List ClaimValue → Offer → Asker → Choice
from_eligible claims o q = if is_nil o.eligible then Pending NoPool else new_or Exhausted (first_option claims q o.eligible)

-- cases 11 to 13
abbrev pub unasked : List ClaimValue → Offer → Asker → Choice
unasked claims o q = if is_given q.pool_asked then from_asked claims o q else from_eligible claims o q

-- cases 8 to 13
abbrev pub anew : List ClaimValue → Offer → Asker → Choice
anew claims o q =
    if is_asked q.wanted && is_none (home_of o q) then Pending AddressOutside
    else (if is_asked q.wanted && is_unusable claims q (home_of o q) then Pending AddressUnusable
    else (if is_asked q.wanted then asked_from q (home_of o q)
    else unasked claims o q))

-- cases 7 to 13
abbrev pub granted : List ClaimValue → Offer → Asker → Choice
granted claims o q = if is_some (kept_in claims o q) then kept_from q (kept_in claims o q) else anew claims o q

-- cases 5 to 13
abbrev pub pooled : List ClaimValue → Offer → Asker → Choice
pooled claims o q =
    if is_given q.pool_asked && is_none (named o.pools q.pool_asked) then Pending PoolUnknown
    else (if is_given q.pool_asked && is_refused o (named o.pools q.pool_asked) then Pending PoolRefused
    else granted claims o q)

-- cases 4 to 13
abbrev pub fitting : List ClaimValue → Offer → Asker → Choice
fitting claims o q =
    if is_asked q.wanted && not (fits_option q (asked_in q.wanted)) then Pending RequestFamilies
    else pooled claims o q

-- the whole table
abbrev pub choose_for : List ClaimValue → Offer → Option (List ℕ) → Service → Asker → Choice
choose_for claims o class service q =
    if service.balancer && not (same_class class service.class) then Foreign
    else (if not service.balancer then Clear
    else (if is_unreadable q.wanted then Pending RequestUnreadable
    else fitting claims o q))

abbrev pub choose : List ClaimValue → Offer → Option (List ℕ) → Service → Choice
choose claims o class service = choose_for claims o class service (asker_of service)
