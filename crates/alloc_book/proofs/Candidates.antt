-- The least of several candidates is the least usable number, and each usable number is a candidate.
use Rattle.std.proofs.Common.{◌≡◌, ℕ, ◌+◌, ◌-◌, ◌<◌, ◌≤◌, suc, zero, Bool, true, false, cond, not, ◌&&◌, ◌||◌, leb, eqb}
use Rattle.std.proofs.Common.{add-one, get_or, IfSome, IfNone, List, [], ◌∷◌, take, filter, length, Option, Some, None}
use Rattle.std.proofs.Common.{◌⊎◌, inl, inr, refl, sym, ap, ◌∙◌, subst, arith, ⊎_elim, eq-or-lt_of_le, leb-true, true≢false}
use Rattle.std.proofs.lemmas.Bool.{cases_lt, and_parts, and_from, or_cases, le-leb, not-true, false_from_ne_true}
use Rattle.std.proofs.lemmas.Bool.Decides.{nat_tests}
use Rattle.std.proofs.lemmas.Slice.Eq.{bytes_eq-Decides}
use Rattle.std.specs.List.{Contains, list_any, list_all}
use Rattle.std.specs.List.Sorted.{IsStrictlySortedBy}
use Rattle.std.specs.Map.{lookup, keys_of, values_of}
use Rattle.std.specs.Option.{option_map, option_or, unwrap_or}
use Rattle.std.specs.Ordering.{nat_cmp}
use Rattle.std.specs.Str.{bytes_eq}
use Rattle.ip_ranges.specs.declared.family.Family.{Family}
use Rattle.ip_ranges.specs.Values.{AddressValue, SpanValue, same_family, has_address, is_buggy, holds}
use Rattle.ip_ranges.proofs.AddressLaws.{same_family-is, same_family-itself, has_address-is, has_address-from}
use Rattle.kube_model.specs.declared.key.Key.{Key}
use Rattle.kube_model.specs.Keys.{same_key}
use Rattle.mlb_base.specs.Items.{is_nil}
use Rattle.mlb_base.proofs.Among.{contains-none, contains-cons, contains-later, contains-first, any-contains, any-found, all-contains, all-from}
use Rattle.number_sets.specs.Least.{IsLeastIn, NonePasses}
use Rattle.pool_config.specs.declared.compiled.CompiledPool.{CompiledPool}
use Rattle.sharing_terms.specs.declared.terms.Terms.{Terms}
use Rattle.sharing_terms.specs.Sharing.{has_port, is_alike, may_share}
use Rattle.sharing_terms.proofs.SharingLaws.{may_share-is}
use Rattle.claim_index.specs.Claims.{ClaimValue, has_claims}
use Rattle.claim_index.specs.SharingGroups.{sharing_group_of, is_grouped}
use Rattle.claim_index.specs.Index.{numbers_of, is_barred, is_shared, is_shareable, is_taken, NoneShareable}
use Rattle.alloc_book.specs.Candidates.{is_claimed, is_own, is_offered, is_free, Covers}
use Rattle.claim_index.specs.Reading.{leaves}
use Rattle.alloc_book.specs.Search.{usable, numbered, least_between, least_in}
use Rattle.address_holders.specs.Holders.{address_of}
use Rattle.alloc_book.specs.Usable.{is_in}
use Rattle.claim_index.specs.Slots.{OfPort, is_member, occupies}
use Rattle.alloc_book.proofs.LeastLaws.{numbered-is}
use Rattle.claim_index.proofs.TermLaws.{backend-same}
use Rattle.claim_index.proofs.IndexReading.{found-of}
use Rattle.claim_index.proofs.GroupLaws.{group-same, yields-left}
use Rattle.claim_index.proofs.ShareLaws.{nil-from_empty}

-- the least number is the only one

least_here : (test : ℕ → Bool) (low count n : ℕ) → low ≡ n → test n ≡ true → least_between test low (suc count) ≡ Some n
least_here test low count n same passes =
    let first : test low ≡ true = ap test same ∙ passes in
    rw first (ap (λ (m : ℕ). Some m) same)

least_later : (test : ℕ → Bool) (low count : ℕ) (found : Option ℕ) → test low ≡ false → least_between test (low + 1) count ≡ found
    → least_between test low (suc count) ≡ found
least_later test low count found fails rest = rw fails rest

pub least_between-some : (test : ℕ → Bool) (count low n : ℕ) → low ≤ n → n < low + count → test n ≡ true → ((m : ℕ) → low ≤ m → m < n → test m ≡ false)
    → least_between test low count ≡ Some n
least_between-some test zero low n from below passes ahead = absurd (omega (arith, from, below))
least_between-some test (suc count) low n from below passes ahead =
    ⊎_elim
    (λ same. least_here test low count n same passes)
    (λ more. least_later test low count (Some n) (ahead low (omega arith) (omega (arith, more)))
    (least_between-some test count (low + 1) n (omega (arith, more)) (omega (arith, below)) passes (λ m later less. ahead m (omega (arith, later)) less)))
    (eq-or-lt_of_le from)

pub least_between-nothing : (test : ℕ → Bool) (count low : ℕ) → ((m : ℕ) → low ≤ m → m < low + count → test m ≡ false) → least_between test low count ≡ None
least_between-nothing test zero low fails = refl
least_between-nothing test (suc count) low fails =
    least_later test low count None (fails low (omega arith) (omega arith))
    (least_between-nothing test count (low + 1) (λ m later below. fails m (omega (arith, later)) (omega (arith, below))))

-- of the numbers from low to high that P holds of, this is the least that passes, or one that passes ahead of each of them
abbrev pub Ahead : (ℕ → Type 0) → (ℕ → Bool) → ℕ → ℕ → Option ℕ → Type 0
Ahead P test low high (Some n) = (low ≤ n) × (n ≤ high) × (test n ≡ true) × ((m : ℕ) → low ≤ m → m < n → P m → test m ≡ false)
Ahead P test low high None = (m : ℕ) → low ≤ m → m ≤ high → P m → test m ≡ false

pub covers-is : (candidate test : ℕ → Bool) (low high : ℕ) (found : Option ℕ) → Covers candidate test low high found
    → Ahead (λ m. candidate m ≡ true) test low high found
covers-is candidate test low high None covers = covers
covers-is candidate test low high (Some n) covers = covers

pub ahead-fewer : (P Q : ℕ → Type 0) (test : ℕ → Bool) (low high : ℕ) (found : Option ℕ) → ((m : ℕ) → Q m → P m) → Ahead P test low high found
    → Ahead Q test low high found
ahead-fewer P Q test low high None each ahead = λ m from upto q. ahead m from upto (each m q)
ahead-fewer P Q test low high (Some n) each ahead = (ahead.0, ahead.1, ahead.2, λ m from below q. ahead.3 m from below (each m q))

pub covers-from : (P : ℕ → Type 0) (candidate test : ℕ → Bool) (low high : ℕ) (found : Option ℕ) → ((m : ℕ) → candidate m ≡ true → P m)
    → Ahead P test low high found → Covers candidate test low high found
covers-from P candidate test low high None each ahead = λ m from upto q. ahead m from upto (each m q)
covers-from P candidate test low high (Some n) each ahead = (ahead.0, ahead.1, ahead.2, λ m from below q. ahead.3 m from below (each m q))

-- what is found up to the one found before is ahead of both
pub ahead-both : (P Q : ℕ → Type 0) (test : ℕ → Bool) (low high : ℕ) (first second : Option ℕ)
    → Ahead P test low high first → Ahead Q test low (unwrap_or first high) second → Ahead (λ m. P m ⊎ Q m) test low high (option_or second first)
ahead-both P Q test low high None None p q = λ m from upto either. ⊎_elim (λ x. p m from upto x) (λ y. q m from upto y) either
ahead-both P Q test low high None (Some k) p q =
    (q.0, q.1, q.2, λ m from below either. ⊎_elim (λ x. p m from (omega (arith, below, q.1)) x) (λ y. q.3 m from below y) either)
ahead-both P Q test low high (Some n) None p q =
    (p.0, p.1, p.2, λ m from below either. ⊎_elim (λ x. p.3 m from below x) (λ y. q m from (omega (arith, below)) y) either)
ahead-both P Q test low high (Some n) (Some k) p q =
    (q.0, omega (arith, q.1, p.1), q.2, λ m from below either. ⊎_elim (λ x. p.3 m from (omega (arith, below, q.1)) x) (λ y. q.3 m from below y) either)

-- where each number that passes is a candidate, the least candidate that passes is the least that passes
pub ahead-least : (P : ℕ → Type 0) (test : ℕ → Bool) (low high : ℕ) (found : Option ℕ) → ((m : ℕ) → low ≤ m → m ≤ high → test m ≡ true → P m)
    → Ahead P test low high found → least_between test low (high + 1 - low) ≡ found
ahead-least P test low high None each ahead =
    least_between-nothing test (high + 1 - low) low (λ m from below.
    false_from_ne_true (test m)
    (λ passes. true≢false (sym passes ∙ ahead m from (omega (arith, from, below)) (each m from (omega (arith, from, below)) passes))))
ahead-least P test low high (Some n) each ahead =
    let from = ahead.0 in
    let upto = ahead.1 in
    least_between-some test (high + 1 - low) low n from (omega (arith, from, upto)) ahead.2 (λ m first below.
    false_from_ne_true (test m) (λ passes. true≢false (sym passes ∙ ahead.3 m first below (each m first (omega (arith, below, upto)) passes))))

-- usable addresses are candidates, and free ones of the pool are usable

left_free : (own has shared : Bool) → has ≡ false → (own || not has || shared) ≡ true
left_free true has shared e = refl
left_free false false shared e = refl
left_free false true shared e = absurd (true≢false e)

free_by : (held avoided : Bool) → (not avoided && not held) ≡ true → (held ≡ false) × (not avoided ≡ true)
free_by false false e = (refl, refl)
free_by true false e = absurd (true≢false (sym e))
free_by held true e = absurd (true≢false (sym e))

pub free-usable : (claims : List ClaimValue) (key : Key) (terms : Terms) (pool : CompiledPool) (span : SpanValue) (family : Family) (n : ℕ)
    → Contains pool.spans span → span.family ≡ family → span.low ≤ n → n ≤ span.high
    → numbered (is_free claims pool) family n ≡ true → numbered (usable claims key terms pool) family n ≡ true
free-usable claims key terms pool span family n listed same from upto free =
    let a = address_of family n in
    let parts = free_by (is_claimed claims a) (pool.avoid_buggy && is_buggy a) free in
    let families : same_family span.family family ≡ true = subst (λ f. same_family span.family f ≡ true) same (same_family-itself span.family) in
    let lower : leb span.low n ≡ true = le-leb span.low n from in
    let upper : leb n span.high ≡ true = le-leb n span.high upto in
    let within : is_in pool a ≡ true =
    any-contains (λ s. holds s a) pool.spans span listed
    (and_from (same_family span.family family && leb span.low n) (leb n span.high) (and_from (same_family span.family family) (leb span.low n) families lower)
    upper) in
    let left : list_all (leaves key terms a) claims ≡ true =
    all-from (leaves key terms a) claims (λ c there.
    left_free (same_key c.key key) (has_address c.holding.addresses a) (may_share terms c.terms)
    (false_from_ne_true (has_address c.holding.addresses a)
    (λ has. true≢false (sym (any-contains (λ (d : ClaimValue). has_address d.holding.addresses a) claims c there has) ∙ parts.0)))) in
    and_from (is_in pool a && not (pool.avoid_buggy && is_buggy a)) (list_all (leaves key terms a) claims)
    (and_from (is_in pool a) (not (pool.avoid_buggy && is_buggy a)) within parts.1) left

-- terms that share with those are of their group
member_by : (terms t : Terms) → may_share terms t ≡ true → is_member (sharing_group_of terms) t ≡ true
member_by terms t e =
    let most =
    and_parts (bytes_eq terms.key t.key && not (is_nil terms.key) && not (list_any (has_port t.ports) terms.ports)) (is_alike terms.backend t.backend) e in
    let keys = and_parts (bytes_eq terms.key t.key && not (is_nil terms.key)) (not (list_any (has_port t.ports) terms.ports)) most.0 in
    let key : terms.key ≡ t.key = (may_share-is terms t e).same_key in
    let backend : terms.backend ≡ t.backend = backend-same terms.backend t.backend most.1 in
    let given : not (is_nil t.key) ≡ true =
    subst (λ (k : List ℕ). not (is_nil k) ≡ true) key (and_parts (bytes_eq terms.key t.key) (not (is_nil terms.key)) keys.0).1 in
    and_from (not (is_nil t.key)) (is_grouped (sharing_group_of terms) t) given
    ((bytes_eq-Decides (sharing_group_of t) (sharing_group_of terms)).1 (sym (group-same terms t key backend)))

-- an address that the asker may use is free, its own or offered to it by its group
abbrev pub IsCandidate : List ClaimValue → Key → Terms → CompiledPool → AddressValue → Type 0
IsCandidate claims key terms pool a = ((is_free claims pool a ≡ true) ⊎ (is_own key claims a ≡ true))
    ⊎ (is_offered key (sharing_group_of terms) claims a ≡ true)

claimed_candidate : (claims : List ClaimValue) (key : Key) (terms : Terms) (pool : CompiledPool) (a : AddressValue) (c : ClaimValue)
    → Contains claims c → has_address c.holding.addresses a ≡ true → leaves key terms a c ≡ true → IsCandidate claims key terms pool a
claimed_candidate claims key terms pool a c there has left =
    ⊎_elim
    (λ first. ⊎_elim
    (λ own. inl (inr (any-contains (λ (d : ClaimValue). same_key d.key key && has_address d.holding.addresses a) claims c there
    (and_from (same_key c.key key) (has_address c.holding.addresses a) own has))))
    (λ gone. absurd (true≢false (sym has ∙ not-true (has_address c.holding.addresses a) gone)))
    (or_cases (same_key c.key key) (not (has_address c.holding.addresses a)) first))
    (λ shared. own-or_offered (is_own key claims a) refl
    (any-contains (λ (d : ClaimValue). is_member (sharing_group_of terms) d.terms && has_address d.holding.addresses a) claims c there
    (and_from (is_member (sharing_group_of terms) c.terms) (has_address c.holding.addresses a) (member_by terms c.terms shared) has)))
    (or_cases (same_key c.key key || not (has_address c.holding.addresses a)) (may_share terms c.terms) left)
  where
    own-or_offered : (own : Bool) → is_own key claims a ≡ own → is_shared (sharing_group_of terms) claims a ≡ true → IsCandidate claims key terms pool a
    own-or_offered true e shared = inl (inr e)
    own-or_offered false e shared = inr (and_from (is_shared (sharing_group_of terms) claims a) (not (is_own key claims a)) shared (ap not e))

candidate_by : (held : Bool) (claims : List ClaimValue) (key : Key) (terms : Terms) (pool : CompiledPool) (a : AddressValue)
    → held ≡ is_claimed claims a → not (pool.avoid_buggy && is_buggy a) ≡ true → list_all (leaves key terms a) claims ≡ true
    → IsCandidate claims key terms pool a
candidate_by false claims key terms pool a s kept left =
    inl (inl (and_from (not (pool.avoid_buggy && is_buggy a)) (not (is_claimed claims a)) kept (ap not (sym s))))
candidate_by true claims key terms pool a s kept left =
    let found = any-found (λ (d : ClaimValue). has_address d.holding.addresses a) claims (sym s) in
    claimed_candidate claims key terms pool a found.0 found.1 found.2 (all-contains (leaves key terms a) claims found.0 left found.1)

pub usable-candidate : (claims : List ClaimValue) (key : Key) (terms : Terms) (pool : CompiledPool) (a : AddressValue) → usable claims key terms pool a ≡ true
    → IsCandidate claims key terms pool a
usable-candidate claims key terms pool a e =
    let two = and_parts (is_in pool a && not (pool.avoid_buggy && is_buggy a)) (list_all (leaves key terms a) claims) e in
    let one = and_parts (is_in pool a) (not (pool.avoid_buggy && is_buggy a)) two.0 in
    candidate_by (is_claimed claims a) claims key terms pool a refl one.1 two.1

-- the least free number is ahead of the free ones
pub free-ahead : (claims : List ClaimValue) (key : Key) (terms : Terms) (pool : CompiledPool) (span : SpanValue) (family : Family) (found : Option ℕ)
    → Contains pool.spans span → span.family ≡ family
    → IfSome found (IsLeastIn (numbered (is_free claims pool) family) span.low span.high)
    → IfNone found (NonePasses (numbered (is_free claims pool) family) span.low span.high)
    → Ahead (λ m. numbered (is_free claims pool) family m ≡ true) (numbered (usable claims key terms pool) family) span.low span.high found
free-ahead claims key terms pool span family None listed same some none = λ m from upto free. absurd (true≢false (sym free ∙ none m from upto))
free-ahead claims key terms pool span family (Some n) listed same some none = (
  some.0,
  some.1,
  free-usable claims key terms pool span family n listed same some.0 some.1 some.2,
  λ m from below free. absurd (true≢false (sym free ∙ some.3 m from below)),
)

-- the three candidates together
pub least-of_three : (claims : List ClaimValue) (key : Key) (terms : Terms) (pool : CompiledPool) (span : SpanValue) (family : Family)
    (free own shared : Option ℕ)
    → Contains pool.spans span → span.family ≡ family
    → IfSome free (IsLeastIn (numbered (is_free claims pool) family) span.low span.high)
    → IfNone free (NonePasses (numbered (is_free claims pool) family) span.low span.high)
    → Covers (numbered (is_own key claims) family) (numbered (usable claims key terms pool) family) span.low (unwrap_or free span.high) own
    → Covers (numbered (is_offered key (sharing_group_of terms) claims) family) (numbered (usable claims key terms pool) family) span.low
    (unwrap_or own (unwrap_or free span.high)) shared
    → least_between (numbered (usable claims key terms pool) family) span.low (span.high + 1 - span.low) ≡ option_or (option_or shared own) free
least-of_three claims key terms pool span family free own shared listed same some none owned others =
    let test = numbered (usable claims key terms pool) family in
    let F : ℕ → Type 0 = λ m. numbered (is_free claims pool) family m ≡ true in
    let O : ℕ → Type 0 = λ m. numbered (is_own key claims) family m ≡ true in
    let S : ℕ → Type 0 = λ m. numbered (is_offered key (sharing_group_of terms) claims) family m ≡ true in
    let first = free-ahead claims key terms pool span family free listed same some none in
    let second = covers-is (numbered (is_own key claims) family) test span.low (unwrap_or free span.high) own owned in
    let third = covers-is (numbered (is_offered key (sharing_group_of terms) claims) family) test span.low
    (unwrap_or own (unwrap_or free span.high)) shared others in
    let two = ahead-both O S test span.low (unwrap_or free span.high) own shared second third in
    let all = ahead-both F (λ m. O m ⊎ S m) test span.low span.high free (option_or shared own) first two in
    ahead-least (λ m. F m ⊎ (O m ⊎ S m)) test span.low span.high (option_or (option_or shared own) free)
    (λ m from upto passes. three_from m (usable-candidate claims key terms pool (address_of family m) passes))
    all
  where
    three_from : (m : ℕ) → IsCandidate claims key terms pool (address_of family m)
        → (numbered (is_free claims pool) family m ≡ true)
        ⊎ ((numbered (is_own key claims) family m ≡ true) ⊎ (numbered (is_offered key (sharing_group_of terms) claims) family m ≡ true))
    three_from m (inl (inl free_one)) = inl free_one
    three_from m (inl (inr own_one)) = inr (inl own_one)
    three_from m (inr shared_one) = inr (inr shared_one)

-- one of several addresses

pub none-ahead : (family : Family) (test : ℕ → Bool) (low high : ℕ) → Ahead (λ m. Contains [] (address_of family m)) test low high None
none-ahead family test low high = λ m from upto there. absurd (contains-none (address_of family m) there)

taken : {X : Type 0} (xs : List X) (i : ℕ) (d x : X) → i < length xs → Contains (take (suc i) xs) x → Contains (take i xs) x ⊎ (get_or xs i d ≡ x)
taken [] i d x within there = absurd (omega (arith, within))
taken (z ∷ xs) zero d x within there =
    ⊎_elim (λ same. inr same) (λ more. absurd (contains-none x more)) (contains-cons z [] x there)
taken (z ∷ xs) (suc i) d x within there =
    ⊎_elim
    (λ same. inl (subst (λ w. Contains (z ∷ take i xs) w) same (contains-first z (take i xs))))
    (λ more. ⊎_elim (λ before. inl (contains-later z (take i xs) x before)) (λ same. inr same) (taken xs i d x (omega (arith, within)) more))
    (contains-cons z (take (suc i) xs) x there)

taken_next : {X : Type 0} (xs : List X) (i : ℕ) (d x : X) → i < length xs → Contains (take (i + 1) xs) x → Contains (take i xs) x ⊎ (get_or xs i d ≡ x)
taken_next xs i d x within there = taken xs i d x within (subst (λ k. Contains (take k xs) x) (add-one i) there)

-- the addresses met so far, and this one
pub met-address : (xs : List AddressValue) (i : ℕ) (d a : AddressValue) (family : Family) (test : ℕ → Bool) (low high : ℕ) (first second : Option ℕ)
    → get_or xs i d ≡ a → i < length xs
    → Ahead (λ m. Contains (take i xs) (address_of family m)) test low high first
    → Ahead (λ m. a ≡ address_of family m) test low (unwrap_or first high) second
    → Ahead (λ m. Contains (take (i + 1) xs) (address_of family m)) test low high (option_or second first)
met-address xs i d a family test low high first second at within before here =
    ahead-fewer (λ m. Contains (take i xs) (address_of family m) ⊎ (a ≡ address_of family m)) (λ m. Contains (take (i + 1) xs) (address_of family m)) test low
    high (option_or second first)
    (λ m there. ⊎_elim (λ x. inl x) (λ y. inr (sym at ∙ y)) (taken_next xs i d (address_of family m) within there))
    (ahead-both (λ m. Contains (take i xs) (address_of family m)) (λ m. a ≡ address_of family m) test low high first second before here)

-- whether an address of the family may be used, by whether its number does
pub address-usable : (claims : List ClaimValue) (key : Key) (terms : Terms) (pool : CompiledPool) (family : Family) (low high : ℕ) (a : AddressValue)
    → (same_family a.family family && leb low a.number && leb a.number high && usable claims key terms pool a) ≡ true
    → Ahead (λ m. a ≡ address_of family m) (numbered (usable claims key terms pool) family) low high (Some a.number)
address-usable claims key terms pool family low high a e =
    let three = and_parts (same_family a.family family && leb low a.number && leb a.number high) (usable claims key terms pool a) e in
    let two = and_parts (same_family a.family family && leb low a.number) (leb a.number high) three.0 in
    let one = and_parts (same_family a.family family) (leb low a.number) two.0 in
    let same : a.family ≡ family = same_family-is a.family family one.0 in (
      leb-true low a.number one.1,
      leb-true a.number high two.1,
      numbered-is (usable claims key terms pool) family a same three.1,
      λ m from below is. absurd (let n : a.number ≡ m = ap (λ (x : AddressValue). x.number) is in omega (arith, n, below)),
    )

pub address-not_usable : (claims : List ClaimValue) (key : Key) (terms : Terms) (pool : CompiledPool) (family : Family) (low high : ℕ) (a : AddressValue)
    → (same_family a.family family && leb low a.number && leb a.number high && usable claims key terms pool a) ≡ false
    → Ahead (λ m. a ≡ address_of family m) (numbered (usable claims key terms pool) family) low high None
address-not_usable claims key terms pool family low high a e = λ m from upto is.
    false_from_ne_true (usable claims key terms pool (address_of family m)) (λ passes.
    let families : same_family a.family family ≡ true = subst (λ (x : AddressValue). same_family x.family family ≡ true) (sym is) (same_family-itself family) in
    let lower : leb low a.number ≡ true = subst (λ (x : AddressValue). leb low x.number ≡ true) (sym is) (le-leb low m from) in
    let upper : leb a.number high ≡ true = subst (λ (x : AddressValue). leb x.number high ≡ true) (sym is) (le-leb m high upto) in
    let used : usable claims key terms pool a ≡ true = subst (λ (x : AddressValue). usable claims key terms pool x ≡ true) (sym is) passes in
    let all =
    and_from (same_family a.family family && leb low a.number && leb a.number high) (usable claims key terms pool a)
    (and_from (same_family a.family family && leb low a.number) (leb a.number high) (and_from (same_family a.family family) (leb low a.number) families lower)
    upper) used in
    true≢false (sym all ∙ e))

-- the step over an address, by whether it may be used

pub met-usable : (claims : List ClaimValue) (key : Key) (terms : Terms) (pool : CompiledPool) (family : Family) (low high last : ℕ) (xs : List AddressValue)
    (i : ℕ) (d a : AddressValue) (first : Option ℕ)
    → get_or xs i d ≡ a → i < length xs → last ≡ unwrap_or first high
    → (same_family a.family family && leb low a.number && leb a.number last && usable claims key terms pool a) ≡ true
    → Ahead (λ m. Contains (take i xs) (address_of family m)) (numbered (usable claims key terms pool) family) low high first
    → Ahead (λ m. Contains (take (i + 1) xs) (address_of family m)) (numbered (usable claims key terms pool) family) low high (Some a.number)
met-usable claims key terms pool family low high last xs i d a first at within is e before =
    let test = numbered (usable claims key terms pool) family in
    met-address xs i d a family test low high first (Some a.number) at within before
    (subst (λ h. Ahead (λ m. a ≡ address_of family m) test low h (Some a.number)) is (address-usable claims key terms pool family low last a e))

pub met-not_usable : (claims : List ClaimValue) (key : Key) (terms : Terms) (pool : CompiledPool) (family : Family) (low high last : ℕ) (xs : List AddressValue)
    (i : ℕ) (d a : AddressValue) (first : Option ℕ)
    → get_or xs i d ≡ a → i < length xs → last ≡ unwrap_or first high
    → (same_family a.family family && leb low a.number && leb a.number last && usable claims key terms pool a) ≡ false
    → Ahead (λ m. Contains (take i xs) (address_of family m)) (numbered (usable claims key terms pool) family) low high first
    → Ahead (λ m. Contains (take (i + 1) xs) (address_of family m)) (numbered (usable claims key terms pool) family) low high first
met-not_usable claims key terms pool family low high last xs i d a first at within is e before =
    let test = numbered (usable claims key terms pool) family in
    met-address xs i d a family test low high first None at within before
    (subst (λ h. Ahead (λ m. a ≡ address_of family m) test low h None) is (address-not_usable claims key terms pool family low last a e))

taken_all : {X : Type 0} (xs : List X) (i : ℕ) → length xs ≤ i → take i xs ≡ xs
taken_all [] zero all = refl
taken_all [] (suc i) all = refl
taken_all (x ∷ xs) zero all = absurd (omega (arith, all))
taken_all {X = X} (x ∷ xs) (suc i) all = ap (λ (rest : List X). x ∷ rest) (taken_all xs i (omega (arith, all)))

pub all-met : (xs : List AddressValue) (i : ℕ) (family : Family) (test : ℕ → Bool) (low high : ℕ) (found : Option ℕ) → length xs ≤ i
    → Ahead (λ m. Contains (take i xs) (address_of family m)) test low high found → Covers (numbered (has_address xs) family) test low high found
all-met xs i family test low high found all ahead =
    covers-from (λ m. Contains (take i xs) (address_of family m)) (numbered (has_address xs) family) test low high found
    (λ m has. subst (λ (ys : List AddressValue). Contains ys (address_of family m)) (sym (taken_all xs i all)) (has_address-is xs (address_of family m) has))
    ahead

-- the addresses of claims

-- one of the claims of these numbers has the address of the family
abbrev pub IsOneOf : List (ℕ × ClaimValue) → List ℕ → Family → ℕ → Type 0
IsOneOf items numbers family m = (p : ℕ × ClaimValue) × Contains items p × Contains numbers p.0 × Contains p.1.holding.addresses (address_of family m)

pub no-claim_ahead : (items : List (ℕ × ClaimValue)) (family : Family) (test : ℕ → Bool) (low high : ℕ) → Ahead (IsOneOf items [] family) test low high None
no-claim_ahead items family test low high = λ m from upto one. absurd (contains-none one.0.0 one.2)

keyed : (b : Bool) (n : ℕ) (c : ClaimValue) (rest : List (ℕ × ClaimValue)) (x : ℕ) → Contains (keys_of rest) x
    → Contains (keys_of (cond b ((n, c) ∷ rest) rest)) x
keyed true n c rest x there = contains-later n (keys_of rest) x there
keyed false n c rest x there = there

keyed_here : (b : Bool) (n : ℕ) (c : ClaimValue) (rest : List (ℕ × ClaimValue)) → b ≡ true → Contains (keys_of (cond b ((n, c) ∷ rest) rest)) n
keyed_here true n c rest e = contains-first n (keys_of rest)
keyed_here false n c rest e = absurd (true≢false (sym e))

-- a key without claims has no address
pub none-own : (claims : List ClaimValue) (key : Key) (family : Family) (test : ℕ → Bool) (low high : ℕ) (holder : Bool)
    → holder ≡ has_claims key claims → holder ≡ false → Covers (numbered (is_own key claims) family) test low high None
none-own claims key family test low high holder known none m from to own =
    let a = address_of family m in
    let found = any-found (λ (c : ClaimValue). same_key c.key key && has_address c.holding.addresses a) claims own in
    let here = (and_parts (same_key found.0.key key) (has_address found.0.holding.addresses a) found.2).0 in
    absurd (true≢false (sym (any-contains (λ (c : ClaimValue). same_key c.key key) claims found.0 found.1 here) ∙ sym known ∙ none))

-- an own address is that of a claim with one of the key's numbers
pub own-one : (items : List (ℕ × ClaimValue)) (key : Key) (family : Family) (m : ℕ) → is_own key (values_of items) (address_of family m) ≡ true
    → IsOneOf items (numbers_of key items) family m
own-one [] key family m e = absurd (true≢false (sym e))
own-one ((n, c) ∷ items) key family m e =
    let a = address_of family m in
    ⊎_elim
    (λ here. let parts = and_parts (same_key c.key key) (has_address c.holding.addresses a) here in (
      (n, c),
      contains-first (n, c) items,
      keyed_here (same_key c.key key) n c (filter (λ (p : ℕ × ClaimValue). same_key p.1.key key) items) parts.0,
      has_address-is c.holding.addresses a parts.1,
    ))
    (λ later. let one = own-one items key family m later in (
      one.0,
      contains-later (n, c) items one.0 one.1,
      keyed (same_key c.key key) n c (filter (λ (p : ℕ × ClaimValue). same_key p.1.key key) items) one.0.0 one.2,
      one.3,
    ))
    (or_cases (same_key c.key key && has_address c.holding.addresses a)
    (list_any (λ (d : ClaimValue). same_key d.key key && has_address d.holding.addresses a) (values_of items)) e)

one_more : (items : List (ℕ × ClaimValue)) (numbers : List ℕ) (i d n : ℕ) (found : Option ClaimValue) (family : Family) (m : ℕ)
    → get_or numbers i d ≡ n → i < length numbers → IsStrictlySortedBy nat_cmp (keys_of items) → found ≡ lookup (λ k. eqb k n) items
    → IsOneOf items (take (i + 1) numbers) family m
    → IsOneOf items (take i numbers) family m ⊎ ((c : ClaimValue) × (found ≡ Some c) × Contains c.holding.addresses (address_of family m))
one_more items numbers i d n found family m at within sorted is one =
    ⊎_elim
    (λ before. inl (one.0, one.1, before, one.3))
    (λ same. inr (one.0.1, is ∙ ap (λ k. lookup (λ j. eqb j k) items) (sym at ∙ same) ∙ found-of items one.0 sorted one.1, one.3))
    (taken_next numbers i d one.0.0 within one.2)

-- the claims met so far, and this one
pub met-claim : (items : List (ℕ × ClaimValue)) (numbers : List ℕ) (i d n : ℕ) (c : ClaimValue) (family : Family) (test : ℕ → Bool) (low high : ℕ)
    (first second : Option ℕ)
    → get_or numbers i d ≡ n → i < length numbers → IsStrictlySortedBy nat_cmp (keys_of items) → Some c ≡ lookup (λ k. eqb k n) items
    → Ahead (IsOneOf items (take i numbers) family) test low high first
    → Covers (numbered (has_address c.holding.addresses) family) test low (unwrap_or first high) second
    → Ahead (IsOneOf items (take (i + 1) numbers) family) test low high (option_or second first)
met-claim items numbers i d n c family test low high first second at within sorted is before here =
    let P = IsOneOf items (take i numbers) family in
    let Q : ℕ → Type 0 = λ m. numbered (has_address c.holding.addresses) family m ≡ true in
    ahead-fewer (λ m. P m ⊎ Q m) (IsOneOf items (take (i + 1) numbers) family) test low high (option_or second first)
    (λ m one. ⊎_elim (λ x. inl x) (λ y. inr (has_it m y.0 y.1 y.2)) (one_more items numbers i d n (Some c) family m at within sorted is one))
    (ahead-both P Q test low high first second before
    (covers-is (numbered (has_address c.holding.addresses) family) test low (unwrap_or first high) second here))
  where
    has_it : (m : ℕ) (d : ClaimValue) → Some c ≡ Some d → Contains d.holding.addresses (address_of family m)
        → has_address c.holding.addresses (address_of family m) ≡ true
    has_it m d same there =
        let is_same : d ≡ c = cc in
        has_address-from c.holding.addresses (address_of family m)
        (subst (λ (x : ClaimValue). Contains x.holding.addresses (address_of family m)) is_same there)

pub met-none : (items : List (ℕ × ClaimValue)) (numbers : List ℕ) (i d n : ℕ) (family : Family) (test : ℕ → Bool) (low high : ℕ) (first : Option ℕ)
    → get_or numbers i d ≡ n → i < length numbers → IsStrictlySortedBy nat_cmp (keys_of items) → None ≡ lookup (λ k. eqb k n) items
    → Ahead (IsOneOf items (take i numbers) family) test low high first
    → Ahead (IsOneOf items (take (i + 1) numbers) family) test low high first
met-none items numbers i d n family test low high first at within sorted is before =
    ahead-fewer (IsOneOf items (take i numbers) family) (IsOneOf items (take (i + 1) numbers) family) test low high first
    (λ m one. ⊎_elim (λ x. x) (λ y. absurd (none_is y.0 y.1)) (one_more items numbers i d n None family m at within sorted is one))
    before
  where
    none_is : (d : ClaimValue) → None ≡ Some d → ⊥
    none_is d e = cc

-- what holds of the numbers ahead

pub before-more : (P : ℕ → Type 0) (low from n : ℕ) → ((m : ℕ) → low ≤ m → m < from → P m) → ((m : ℕ) → from ≤ m → m < n → P m) → (m : ℕ) → low ≤ m → m < n
    → P m
before-more P low from n before here m first below = ⊎_elim (λ less. before m first less) (λ more. here m more below) (cases_lt m from)

pub before-next : (P : ℕ → Type 0) (low from n : ℕ) → ((m : ℕ) → low ≤ m → m < from → P m) → ((m : ℕ) → from ≤ m → m < n → P m) → P n → (m : ℕ) → low ≤ m
    → m < n + 1 → P m
before-next P low from n before here last m first below =
    ⊎_elim (λ less. before-more P low from n before here m first less) (λ more. let same : n ≡ m = omega (arith, more, below) in subst P same last)
    (cases_lt m n)

-- nothing that another key has is left to terms without a sharing key
keyless : (terms t : Terms) → eqb (length terms.key) 0 ≡ true → may_share terms t ≡ false
keyless terms t e = by terms.key refl
  where
    nothing : (x : Bool) → (x && false) ≡ false
    nothing true = refl
    nothing false = refl

    by : (key : List ℕ) → key ≡ terms.key → may_share terms t ≡ false
    by [] is = rw (← is, nothing (bytes_eq [] t.key)) refl
    by (k ∷ key) is =
        let none : eqb (length (k ∷ key)) 0 ≡ true = ap (λ (x : List ℕ). eqb (length x) 0) is ∙ e in
        grind (arith, nat_tests, none)

pub keyless-unusable : (claims : List ClaimValue) (key : Key) (terms : Terms) (pool : CompiledPool) (a : AddressValue) → eqb (length terms.key) 0 ≡ true
    → is_offered key (sharing_group_of terms) claims a ≡ true → usable claims key terms pool a ≡ false
keyless-unusable claims key terms pool a e offered =
    let parts = and_parts (is_shared (sharing_group_of terms) claims a) (not (is_own key claims a)) offered in
    let found = any-found (λ (c : ClaimValue). is_member (sharing_group_of terms) c.terms && has_address c.holding.addresses a) claims parts.0 in
    let c = found.0 in
    let has = (and_parts (is_member (sharing_group_of terms) c.terms) (has_address c.holding.addresses a) found.2).1 in
    false_from_ne_true (usable claims key terms pool a) (λ passes.
    let left = all-contains (leaves key terms a) claims c
    (and_parts (is_in pool a && not (pool.avoid_buggy && is_buggy a)) (list_all (leaves key terms a) claims) passes).1 found.1 in
    ⊎_elim
    (λ first. ⊎_elim
    (λ own. true≢false (sym (any-contains (λ (d : ClaimValue). same_key d.key key && has_address d.holding.addresses a) claims c found.1
    (and_from (same_key c.key key) (has_address c.holding.addresses a) own has))
    ∙ not-true (is_own key claims a) parts.1))
    (λ gone. true≢false (sym has ∙ not-true (has_address c.holding.addresses a) gone))
    (or_cases (same_key c.key key) (not (has_address c.holding.addresses a)) first))
    (λ shared. true≢false (sym shared ∙ keyless terms c.terms e))
    (or_cases (same_key c.key key || not (has_address c.holding.addresses a)) (may_share terms c.terms) left))

-- what is found is within the bounds
pub least-within : (test : ℕ → Bool) (low high bound : ℕ) (found : Option ℕ) → IfSome found (IsLeastIn test low high) → high < bound
    → unwrap_or found high < bound
least-within test low high bound None e within = within
least-within test low high bound (Some n) e within = omega (arith, e.1, within)

pub covers-within : (candidate test : ℕ → Bool) (low high bound : ℕ) (found : Option ℕ) → Covers candidate test low high found → high < bound
    → unwrap_or found high < bound
covers-within candidate test low high bound None e within = within
covers-within candidate test low high bound (Some n) e within = omega (arith, e.1, within)

pub all-claims_met : (items : List (ℕ × ClaimValue)) (claims : List ClaimValue) (key : Key) (numbers : List ℕ) (i : ℕ) (family : Family) (test : ℕ → Bool)
    (low high : ℕ) (found : Option ℕ)
    → claims ≡ values_of items → numbers ≡ numbers_of key items → length numbers ≤ i
    → Ahead (IsOneOf items (take i numbers) family) test low high found → Covers (numbered (is_own key claims) family) test low high found
all-claims_met items claims key numbers i family test low high found are listed all ahead =
    covers-from (IsOneOf items (take i numbers) family) (numbered (is_own key claims) family) test low high found
    (λ m own. subst (λ (ns : List ℕ). IsOneOf items ns family m) (sym (taken_all numbers i all ∙ listed))
    (own-one items key family m (subst (λ (cs : List ClaimValue). is_own key cs (address_of family m) ≡ true) are own)))
    ahead

-- what is known of those that are offered, ahead of a number

abbrev pub NoneUsable : List ClaimValue → Key → Terms → CompiledPool → Family → ℕ → Type 0
NoneUsable claims key terms pool family m =
    numbered (is_offered key (sharing_group_of terms) claims) family m ≡ true → numbered (usable claims key terms pool) family m ≡ false

-- where a claim of another key has one of the ports at the address, it doesn't share it
barred-unusable : (claims : List ClaimValue) (key : Key) (terms : Terms) (pool : CompiledPool) (a : AddressValue)
    → is_barred (sharing_group_of terms) terms.ports claims a ≡ true → is_own key claims a ≡ false → usable claims key terms pool a ≡ false
barred-unusable claims key terms pool a barred others =
    false_from_ne_true (usable claims key terms pool a) (λ passes.
    let port = any-found (λ port. is_taken (OfPort port (sharing_group_of terms)) claims a) terms.ports barred in
    let slot = OfPort port.0 (sharing_group_of terms) in
    let held = any-found (λ (c : ClaimValue). occupies slot c && has_address c.holding.addresses a) claims port.2 in
    let c = held.0 in
    let parts = and_parts (occupies slot c) (has_address c.holding.addresses a) held.2 in
    let left = all-contains (leaves key terms a) claims c
    (and_parts (is_in pool a && not (pool.avoid_buggy && is_buggy a)) (list_all (leaves key terms a) claims) passes).1 held.1 in
    let given = yields-left (same_key c.key key) (has_address c.holding.addresses a) terms c.terms port.0 port.1 left in
    let own : same_key c.key key ≡ true = subst (λ (b : Bool). (not b || same_key c.key key) ≡ true) held.2 given in
    true≢false (sym (any-contains (λ (d : ClaimValue). same_key d.key key && has_address d.holding.addresses a) claims c held.1
    (and_from (same_key c.key key) (has_address c.holding.addresses a) own parts.1)) ∙ others))

-- an offered address that isn't shareable by the ports isn't usable
unshareable : (claims : List ClaimValue) (key : Key) (terms : Terms) (pool : CompiledPool) (family : Family) (m : ℕ)
    → is_shareable terms claims (address_of family m) ≡ false → NoneUsable claims key terms pool family m
unshareable claims key terms pool family m none offered =
    let a = address_of family m in
    let parts = and_parts (is_shared (sharing_group_of terms) claims a) (not (is_own key claims a)) offered in
    barred-unusable claims key terms pool a (barred (is_shared (sharing_group_of terms) claims a)
    (is_barred (sharing_group_of terms) terms.ports claims a) parts.0 none)
    (not-true (is_own key claims a) parts.1)
  where
    barred : (shared barred : Bool) → shared ≡ true → (shared && not barred) ≡ false → barred ≡ true
    barred true true here none = refl
    barred true false here none = absurd (true≢false none)
    barred false b here none = absurd (true≢false (sym here))

-- the same of the claims of a walk
pub shareable-in : (found_in claims : List ClaimValue) (family : Family) (terms : Terms) (low high : ℕ) → found_in ≡ claims
    → NoneShareable family terms found_in low high → NoneShareable family terms claims low high
shareable-in found_in claims family terms low high is none = subst (λ (cs : List ClaimValue). NoneShareable family terms cs low high) is none

-- none up to the next one that is left for the ports
pub shareable-more : (claims : List ClaimValue) (key : Key) (terms : Terms) (pool : CompiledPool) (family : Family) (low from n : ℕ)
    → ((m : ℕ) → low ≤ m → m < from → NoneUsable claims key terms pool family m)
    → NoneShareable family terms claims from n → (m : ℕ) → low ≤ m → m < n → NoneUsable claims key terms pool family m
shareable-more claims key terms pool family low from n before here =
    before-more (NoneUsable claims key terms pool family) low from n before (λ m first below. unshareable claims key terms pool family m (here m first below))

pub shareable-next : (claims : List ClaimValue) (key : Key) (terms : Terms) (pool : CompiledPool) (family : Family) (low from n : ℕ)
    → ((m : ℕ) → low ≤ m → m < from → NoneUsable claims key terms pool family m)
    → NoneShareable family terms claims from n → usable claims key terms pool (address_of family n) ≡ false
    → (m : ℕ) → low ≤ m → m < n + 1 → NoneUsable claims key terms pool family m
shareable-next claims key terms pool family low from n before here fails =
    before-next (NoneUsable claims key terms pool family) low from n before (λ m first below. unshareable claims key terms pool family m (here m first below))
    (λ offered. fails)

-- the same over the values of a walk
pub least-number : (found_in claims : List ClaimValue) (key : Key) (terms : Terms) (pool : CompiledPool) (span : SpanValue) (family : Family)
    (low high last later : ℕ) (free own shared either found : Option ℕ)
    → found_in ≡ claims → low ≡ span.low → high ≡ span.high → last ≡ unwrap_or free high → later ≡ unwrap_or own last → either ≡ option_or shared own
    → found ≡ option_or either free
    → Contains pool.spans span → span.family ≡ family
    → IfSome free (IsLeastIn (numbered (is_free found_in pool) family) low high)
    → IfNone free (NonePasses (numbered (is_free found_in pool) family) low high)
    → Covers (numbered (is_own key claims) family) (numbered (usable claims key terms pool) family) low last own
    → Covers (numbered (is_offered key (sharing_group_of terms) claims) family) (numbered (usable claims key terms pool) family) low later shared
    → least_between (numbered (usable claims key terms pool) family) span.low (span.high + 1 - span.low) ≡ found
least-number found_in claims key terms pool span family low high last later free own shared either found are low_is high_is last_is later_is either_is found_is
    listed same some none owned others =
    let test = numbered (usable claims key terms pool) family in
    let O = numbered (is_own key claims) family in
    let S = numbered (is_offered key (sharing_group_of terms) claims) family in
    let some_here =
    subst (λ (h : ℕ). IfSome free (IsLeastIn (numbered (is_free claims pool) family) span.low h)) high_is
    (subst (λ (l : ℕ). IfSome free (IsLeastIn (numbered (is_free claims pool) family) l high)) low_is
    (subst (λ (cs : List ClaimValue). IfSome free (IsLeastIn (numbered (is_free cs pool) family) low high)) are some)) in
    let none_here =
    subst (λ (h : ℕ). IfNone free (NonePasses (numbered (is_free claims pool) family) span.low h)) high_is
    (subst (λ (l : ℕ). IfNone free (NonePasses (numbered (is_free claims pool) family) l high)) low_is
    (subst (λ (cs : List ClaimValue). IfNone free (NonePasses (numbered (is_free cs pool) family) low high)) are none)) in
    let last_here : last ≡ unwrap_or free span.high = last_is ∙ ap (λ (h : ℕ). unwrap_or free h) high_is in
    let later_here : later ≡ unwrap_or own (unwrap_or free span.high) = later_is ∙ ap (λ (h : ℕ). unwrap_or own h) last_here in
    let owned_here = subst (λ (h : ℕ). Covers O test span.low h own) last_here (subst (λ (l : ℕ). Covers O test l last own) low_is owned) in
    let others_here = subst (λ (h : ℕ). Covers S test span.low h shared) later_here (subst (λ (l : ℕ). Covers S test l later shared) low_is others) in
    least-of_three claims key terms pool span family free own shared listed same some_here none_here owned_here others_here
    ∙ sym (found_is ∙ ap (λ (e : Option ℕ). option_or e free) either_is)

-- an entry without a free address has none for a key without claims, whose terms have no sharing key
pub full-unusable : (claims : List ClaimValue) (key : Key) (terms : Terms) (pool : CompiledPool) (span : SpanValue) (family : Family)
    → has_claims key claims ≡ false → is_nil terms.key ≡ true → NonePasses (numbered (is_free claims pool) span.family) span.low span.high
    → least_in (usable claims key terms pool) family span ≡ None
full-unusable claims key terms pool span family unheld keyless none = go (same_family span.family family) refl
  where
    test : ℕ → Bool
    test = numbered (usable claims key terms pool) family

    fails : span.family ≡ family → (m : ℕ) → span.low ≤ m → m ≤ span.high → test m ≡ false
    fails same m from upto =
        let a = address_of family m in
        let taken : is_free claims pool a ≡ false =
        subst (λ (f : Family). numbered (is_free claims pool) f m ≡ false) same (none m from upto) in
        false_from_ne_true (test m) (λ passes.
        ⊎_elim
        (λ first. ⊎_elim
        (λ free. true≢false (sym free ∙ taken))
        (λ own. true≢false (sym passes ∙ none-own claims key family test span.low span.high false (sym unheld) refl m from upto own))
        first)
        (λ offered. true≢false (sym passes
        ∙ keyless-unusable claims key terms pool a (sym (nil-from_empty terms (eqb (length terms.key) 0) refl) ∙ keyless) offered))
        (usable-candidate claims key terms pool a passes))

    go : (same : Bool) → same_family span.family family ≡ same
        → cond same (option_map (address_of family) (least_between test span.low (span.high + 1 - span.low))) None ≡ None
    go true e =
        ap (option_map (address_of family))
        (least_between-nothing test (span.high + 1 - span.low) span.low
        (λ m from below. fails (same_family-is span.family family e) m from (omega (arith, from, below))))
    go false e = refl
