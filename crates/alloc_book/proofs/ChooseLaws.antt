-- What is computed is what is chosen.
use Rattle.std.proofs.Common.{Bor, slice_get, drop, drop-cons, get_or, add-one, append_assoc, ◌++◌, ◌+◌, ◌<◌, ◌≡◌, ◌≢◌, ℕ, Bool, true, false, not, ◌&&◌, ◌||◌}
use Rattle.std.proofs.Common.{eqb, eqb-true, List, [], ◌∷◌, Option, Some, None, is_some, is_none, length, refl, sym, ap, ◌∙◌, subst, ◌⊎◌, inl, inr, ⊎_elim}
use Rattle.std.proofs.lemmas.Bool.{or_cases, or_left, or_right, not-true, not-false, not_from_false, eq-eqb, true≢false}
use Rattle.std.proofs.lemmas.Option.{same_Some}
use Rattle.std.proofs.lemmas.Slice.Eq.{bytes_eq-Decides}
use Rattle.std.specs.Bool.{Decides}
use Rattle.std.proofs.lemmas.Bool.Decides.{Decides-and, Decides-not}
use Rattle.std.specs.List.{Contains, list_all, list_any}
use Rattle.std.specs.Str.{bytes_eq}
use Rattle.ip_ranges.specs.declared.family.Family.{Family}
use Rattle.ip_ranges.specs.declared.family.Family.TheVariants.{V4, V6}
use Rattle.ip_ranges.specs.Values.{AddressValue, has_address}
use Rattle.kube_model.specs.Service.{same_class}
use Rattle.kube_model.specs.declared.reason.Reason.TheVariants.{PoolExhausted, Exhausted}
use Rattle.kube_model.specs.declared.record.Record.{Record}
use Rattle.kube_model.specs.declared.service.Service.{Service}
use Rattle.kube_model.specs.declared.service.Wanted.{Wanted}
use Rattle.kube_model.specs.declared.service.Wanted.TheVariants.{NotAsked, Unreadable, Asked}
use Rattle.mlb_base.proofs.Among.{all-contains, all-from}
use Rattle.alloc_book.specs.declared.choice.Choice.{Choice}
use Rattle.alloc_book.specs.declared.choice.Choice.TheVariants.{Keep, New}
use Rattle.pool_config.specs.declared.compiled.CompiledPool.{CompiledPool}
use Rattle.alloc_book.specs.Asking.{Asker, Offer, asker_of, asked_in, is_asked, is_unreadable, is_given}
use Rattle.mlb_base.specs.Cases.{IsFirst, NoneIs}
use Rattle.alloc_book.specs.Choose.{addresses_of, wanted_of, one_of_each, fits_option, is_open, all_usable, same_addresses, is_kept}
use Rattle.alloc_book.specs.Choose.{is_home, kept_in, home_of, is_refused, is_unusable, kept_from, asked_from, choose_for, choose}
use Rattle.alloc_book.specs.Chosen.{named, asked_pools, Gives, IsChosenFor, IsChosen}
use Rattle.claim_index.specs.Claims.{ClaimValue, Holders, holders}
use Rattle.alloc_book.specs.First.{record_in, IsOneOfEach, FitsOption, IsOpen, AllUsable, AreSame, IsKept, IsHome}
use Rattle.alloc_book.specs.Search.{usable}
use Rattle.mlb_base.specs.Items.{Has, is_nil}
use Rattle.pool_choice.proofs.ServingLaws.{nil-Decides}
use Rattle.alloc_book.specs.Usable.{IsUsable, is_in}
use Rattle.mlb_base.proofs.CaseLaws.{case-at, find-first, find-none, first-none, first-only}
use Rattle.alloc_book.proofs.ChosenLaws.{chosen_for-only, chosen_for-granted}
use Rattle.alloc_book.proofs.SearchLaws.{gives-is}
use Rattle.std.specs.Prelude.{Result, Ok, Err, IfOk, OnOk, map, filter_map}
use Rattle.kube_model.specs.declared.record.Record.{Record}
use Rattle.sharing_terms.specs.Marked.{AreTerms, IsMarkOf}
use Rattle.alloc_book.specs.Granted.{IsFor}
use Rattle.sharing_terms.specs.Terms.{terms_of}
use Rattle.alloc_book.proofs.UsableLaws.{usable-is, usable-from}
use Rattle.ip_ranges.proofs.AddressLaws.{has_address-is, has_address-from}

decides-itself : (a : Bool) → Decides a (a ≡ true)
decides-itself a = (λ e. e, λ e. e)

decides-false : (a : Bool) → Decides (not a) (a ≡ false)
decides-false a = (λ e. not-true a e, λ e. not_from_false a e)

-- where the first holds the second does
decides-then : {P : Type 0} (a b : Bool) → Decides b P → Decides (not a || b) (a ≡ true → P)
decides-then true b p = (λ e _. p.0 e, λ h. p.1 (h refl))
decides-then false b p = (λ _ e. absurd (true≢false (sym e)), λ _. refl)

same_class-is : (a b : Option (List ℕ)) → Decides (same_class a b) (b ≡ a)
same_class-is None None = (λ _. refl, λ _. refl)
same_class-is None (Some b) = (λ e. absurd (true≢false (sym e)), λ h. absurd (cc))
same_class-is (Some a) None = (λ e. absurd (true≢false (sym e)), λ h. absurd (cc))
same_class-is (Some a) (Some b) =
    let some : List ℕ → Option (List ℕ) = λ x. Some x in
    (λ e. ap some (sym ((bytes_eq-Decides a b).0 e)), λ h. let same : a ≡ b = cc in (bytes_eq-Decides a b).1 same)

unreadable-is : (wanted : Wanted) → Decides (is_unreadable wanted) (wanted ≡ Unreadable)
unreadable-is NotAsked = (λ e. absurd (true≢false (sym e)), λ h. absurd (cc))
unreadable-is Unreadable = (λ _. refl, λ _. refl)
unreadable-is (Asked addresses) = (λ e. absurd (true≢false (sym e)), λ h. absurd (cc))

given-is : (text : List ℕ) → Decides (is_given text) (text ≢ [])
given-is [] = (λ e. absurd (true≢false (sym e)), λ n. absurd (n refl))
given-is (c ∷ text) = (λ _ e. absurd (cc), λ _. refl)

none-is : {X : Type 0} (o : Option X) → Decides (is_none o) (o ≡ None)
none-is None = (λ _. refl, λ _. refl)
none-is (Some x) = (λ e. absurd (true≢false (sym e)), λ h. absurd (cc))

number-is : (m n : ℕ) → Decides (eqb m n) (m ≡ n)
number-is m n = (eqb-true m n, eq-eqb m n)

by_family : (families : List Family) (addresses : List AddressValue) → addresses_of V4 addresses ≡ wanted_of V4 families
    → addresses_of V6 addresses ≡ wanted_of V6 families → IsOneOfEach families addresses
by_family families addresses four six V4 = four
by_family families addresses four six V6 = six

one_of_each-is : (families : List Family) (addresses : List AddressValue) → Decides (one_of_each families addresses) (IsOneOfEach families addresses)
one_of_each-is families addresses =
    let both = Decides-and (eqb (addresses_of V4 addresses) (wanted_of V4 families)) (eqb (addresses_of V6 addresses) (wanted_of V6 families))
    (number-is (addresses_of V4 addresses) (wanted_of V4 families)) (number-is (addresses_of V6 addresses) (wanted_of V6 families)) in
    (λ e. let parts = both.0 e in by_family families addresses parts.0 parts.1, λ each. both.1 (each V4, each V6))

all-is : {X : Type 0} (P : X → Type 0) (test : X → Bool) (xs : List X) → ((x : X) → Decides (test x) (P x))
    → Decides (list_all test xs) ((x : X) → Contains xs x → P x)
all-is P test xs d = (λ e x there. (d x).0 (all-contains test xs x e there), λ each. all-from test xs (λ x there. (d x).1 (each x there)))

any_by : {P : Type 0} {Q : Type 0} (a b : Bool) → Decides a P → Decides b Q → Decides (a || b) (P ⊎ Q)
any_by a b p q = (
  λ e. ⊎_elim (λ here. inl (p.0 here)) (λ there. inr (q.0 there)) (or_cases a b e),
  λ h. ⊎_elim (λ here. or_left a b (p.1 here)) (λ there. or_right a b (q.1 there)) h,
)

any-is : {X : Type 0} (P : X → Type 0) (test : X → Bool) (xs : List X) → ((x : X) → Decides (test x) (P x)) → Decides (list_any test xs) (Has P xs)
any-is P test [] d = (λ e. true≢false (sym e), λ h. absurd h)
any-is P test (x ∷ xs) d = any_by (test x) (list_any test xs) (d x) (any-is P test xs d)

pub fits_option-is : (q : Asker) (addresses : List AddressValue) → Decides (fits_option q addresses) (FitsOption q addresses)
fits_option-is q addresses =
    any-is (λ families. IsOneOfEach families addresses) (λ families. one_of_each families addresses) q.options (λ families. one_of_each-is families addresses)

has_address-Decides : (addresses : List AddressValue) (a : AddressValue) → Decides (has_address addresses a) (Contains addresses a)
has_address-Decides addresses a = (has_address-is addresses a, has_address-from addresses a)

same_addresses-is : (xs ys : List AddressValue) → Decides (same_addresses xs ys) (AreSame xs ys)
same_addresses-is xs ys =
    Decides-and (list_all (has_address ys) xs) (list_all (has_address xs) ys) (all-is (Contains ys) (has_address ys) xs (has_address-Decides ys))
    (all-is (Contains xs) (has_address xs) ys (has_address-Decides xs))

open-is : (o : Offer) (q : Asker) (pool : CompiledPool) → Decides (is_open o q pool) (IsOpen o q pool)
open-is o q pool =
    let asked = decides-then (is_given q.pool_asked) (bytes_eq pool.name q.pool_asked) (bytes_eq-Decides pool.name q.pool_asked) in
    let both = Decides-and (o.serves pool) (not (is_given q.pool_asked) || bytes_eq pool.name q.pool_asked) (decides-itself (o.serves pool)) asked in
    (λ e. let parts = both.0 e in (parts.0, λ given. parts.1 ((given-is q.pool_asked).1 given)), λ h. both.1 (h.0, λ e. h.1 ((given-is q.pool_asked).0 e)))

module _ (claims : List ClaimValue) (o : Offer) (q : Asker) where
  all_usable-is : (pool : CompiledPool) (addresses : List AddressValue)
      → Decides (all_usable claims q pool addresses) (AllUsable (holders claims) q pool addresses)
  all_usable-is pool addresses =
      all-is (IsUsable (holders claims) q.key q.terms pool) (usable claims q.key q.terms pool) addresses
      (λ a. (usable-is claims q.key q.terms pool a, usable-from claims q.key q.terms pool a))

  kept-is : (pool : CompiledPool) → Decides (is_kept claims o q pool) (IsKept (holders claims) o q pool)
  kept-is pool =
      let asked = decides-then (is_asked q.wanted) (same_addresses q.recorded (asked_in q.wanted)) (same_addresses-is q.recorded (asked_in q.wanted)) in
      let two = Decides-and (is_open o q pool) (fits_option q q.recorded) (open-is o q pool) (fits_option-is q q.recorded) in
      let three = Decides-and (is_open o q pool && fits_option q q.recorded) (all_usable claims q pool q.recorded) two (all_usable-is pool q.recorded) in
      let four = Decides-and (is_open o q pool && fits_option q q.recorded && all_usable claims q pool q.recorded)
      (not (is_asked q.wanted) || same_addresses q.recorded (asked_in q.wanted)) three asked in (
        λ e. let h = four.0 e in record { is_open = h.0.0.0; fits = h.0.0.1; usable = h.0.1; as_asked = h.1 },
        λ k. four.1 (((k.is_open, k.fits), k.usable), k.as_asked),
      )

  home-is : (pool : CompiledPool) → Decides (is_home o q pool) (IsHome o q pool)
  home-is pool =
      let inside = all-is (λ a. is_in pool a ≡ true) (is_in pool) (asked_in q.wanted) (λ a. decides-itself (is_in pool a)) in
      let both = Decides-and (is_open o q pool) (list_all (is_in pool) (asked_in q.wanted)) (open-is o q pool) inside in
      (λ e. let h = both.0 e in record { is_open = h.0; in_pool = h.1 }, λ h. both.1 (h.is_open, h.in_pool))

  kept_found : (found : Option CompiledPool) → found ≡ kept_in claims o q → is_some found ≡ true
      → (pool : CompiledPool) × IsFirst (IsKept (holders claims) o q) o.pools pool × (kept_from q found ≡ Keep (record_in pool q q.recorded))
  kept_found None is e = absurd (true≢false (sym e))
  kept_found (Some pool) is e = (pool, find-first (IsKept (holders claims) o q) (is_kept claims o q) o.pools pool kept-is (sym is), refl)

  some-kept : (found : Option CompiledPool) → found ≡ kept_in claims o q
      → Decides (is_some found) ((pool : CompiledPool) × IsFirst (IsKept (holders claims) o q) o.pools pool)
  some-kept None is = (
    λ e. absurd (true≢false (sym e)),
    λ h. absurd
        (first-none (IsKept (holders claims) o q) o.pools h.0 h.1 (find-none (IsKept (holders claims) o q) (is_kept claims o q) o.pools kept-is (sym is))),
  )
  some-kept (Some pool) is = (λ _. (pool, find-first (IsKept (holders claims) o q) (is_kept claims o q) o.pools pool kept-is (sym is)), λ _. refl)

  no-home : (found : Option CompiledPool) → found ≡ home_of o q → Decides (is_none found) (NoneIs (IsHome o q) o.pools)
  no-home None is = (λ _. find-none (IsHome o q) (is_home o q) o.pools home-is (sym is), λ _. refl)
  no-home (Some pool) is = (
    λ e. absurd (true≢false (sym e)),
    λ none. absurd (first-none (IsHome o q) o.pools pool (find-first (IsHome o q) (is_home o q) o.pools pool home-is (sym is)) none),
  )

  unusable-is : (found : Option CompiledPool) → found ≡ home_of o q → Decides (is_unusable claims q found)
      ((pool : CompiledPool) × IsFirst (IsHome o q) o.pools pool × ¬ (AllUsable (holders claims) q pool (asked_in q.wanted)))
  unusable-is None is = (
    λ e. absurd (true≢false (sym e)),
    λ h. absurd (first-none (IsHome o q) o.pools h.0 h.1 (find-none (IsHome o q) (is_home o q) o.pools home-is (sym is))),
  )
  unusable-is (Some pool) is =
      let here = find-first (IsHome o q) (is_home o q) o.pools pool home-is (sym is) in
      let no = Decides-not (all_usable claims q pool (asked_in q.wanted)) (all_usable-is pool (asked_in q.wanted)) in (
        λ e. (pool, here, no.0 e),
        λ h. no.1 (λ all.
            h.2 (subst (λ (p : CompiledPool). AllUsable (holders claims) q p (asked_in q.wanted)) (first-only (IsHome o q) o.pools pool h.0 here h.1) all)),
      )

  home_found : (found : Option CompiledPool) → found ≡ home_of o q → is_none found ≡ false → is_unusable claims q found ≡ false
      → (pool : CompiledPool) × IsFirst (IsHome o q) o.pools pool × AllUsable (holders claims) q pool (asked_in q.wanted)
      × (asked_from q found ≡ New (record_in pool q (asked_in q.wanted)))
  home_found None is e u = absurd (true≢false e)
  home_found (Some pool) is e u = (
    pool,
    find-first (IsHome o q) (is_home o q) o.pools pool home-is (sym is),
    (all_usable-is pool (asked_in q.wanted)).0 (not-false (all_usable claims q pool (asked_in q.wanted)) u),
    refl,
  )

  refused-is : (found : Option CompiledPool) → Decides (is_refused o found) ((pool : CompiledPool) × (found ≡ Some pool) × (o.serves pool ≡ false))
  refused-is None = (λ e. absurd (true≢false (sym e)), λ h. let none = h.1 in absurd (cc))
  refused-is (Some pool) = (
    λ e. (pool, refl, not-true (o.serves pool) e),
    λ h. let is : pool ≡ h.0 = same_Some pool h.0 h.1 in not_from_false (o.serves pool) (ap o.serves is ∙ h.2),
  )

  and-false : (a b : Bool) → a ≡ true → (a && b) ≡ false → b ≡ false
  and-false true b s e = e
  and-false false b s e = absurd (true≢false (sym s))

  -- what is computed is what is chosen
  pub choose_for-is : (class : Option (List ℕ)) (service : Service) (c : Choice) → c ≡ choose_for claims o class service q
      → IsChosenFor (holders claims) o class service q c
  choose_for-is class service c start =
      case-at (service.balancer && not (same_class class service.class))
      (Decides-and service.balancer (not (same_class class service.class)) (decides-itself service.balancer)
      (Decides-not (same_class class service.class) (same_class-is class service.class)))
      start (λ is _. is) (λ one _.
      case-at (not service.balancer) (decides-false service.balancer) one (λ is _. is) (λ two _.
      case-at (is_unreadable q.wanted) (unreadable-is q.wanted) two (λ is _. is) (λ three _.
      case-at (is_asked q.wanted && not (fits_option q (asked_in q.wanted)))
      (Decides-and (is_asked q.wanted) (not (fits_option q (asked_in q.wanted))) (decides-itself (is_asked q.wanted))
      (Decides-not (fits_option q (asked_in q.wanted)) (fits_option-is q (asked_in q.wanted))))
      three (λ is _. is) (λ four _.
      case-at (is_given q.pool_asked && is_none (named o.pools q.pool_asked))
      (Decides-and (is_given q.pool_asked) (is_none (named o.pools q.pool_asked)) (given-is q.pool_asked) (none-is (named o.pools q.pool_asked)))
      four (λ is _. is) (λ five _.
      case-at (is_given q.pool_asked && is_refused o (named o.pools q.pool_asked))
      (Decides-and (is_given q.pool_asked) (is_refused o (named o.pools q.pool_asked)) (given-is q.pool_asked) (refused-is (named o.pools q.pool_asked)))
      five (λ is _. is) (λ six _.
      case-at (is_some (kept_in claims o q)) (some-kept (kept_in claims o q) refl)
      six (λ is e. let k = kept_found (kept_in claims o q) refl e in (k.0, k.1, is ∙ k.2)) (λ seven _.
      case-at (is_asked q.wanted && is_none (home_of o q))
      (Decides-and (is_asked q.wanted) (is_none (home_of o q)) (decides-itself (is_asked q.wanted)) (no-home (home_of o q) refl))
      seven (λ is _. is) (λ eight e8.
      case-at (is_asked q.wanted && is_unusable claims q (home_of o q))
      (Decides-and (is_asked q.wanted) (is_unusable claims q (home_of o q)) (decides-itself (is_asked q.wanted)) (unusable-is (home_of o q) refl))
      eight (λ is _. is) (λ nine e9.
      case-at (is_asked q.wanted) (decides-itself (is_asked q.wanted))
      nine (λ is asked. let h = home_found (home_of o q) refl (and-false (is_asked q.wanted) (is_none (home_of o q)) asked e8)
      (and-false (is_asked q.wanted) (is_unusable claims q (home_of o q)) asked e9) in (h.0, h.1, h.2, is ∙ h.3)) (λ ten _.
      case-at (is_given q.pool_asked) (given-is q.pool_asked)
      ten (λ is _. subst (Gives (holders claims) q (asked_pools o q) PoolExhausted) (sym is) (gives-is claims q (asked_pools o q) PoolExhausted)) (λ eleven _.
      case-at (is_nil o.eligible) (nil-Decides o.eligible) eleven (λ is _. is) (λ twelve _.
      subst (Gives (holders claims) q o.eligible Exhausted) (sym twelve) (gives-is claims q o.eligible Exhausted)))))))))))))

pub choose-is : (claims : List ClaimValue) (o : Offer) (class : Option (List ℕ)) (service : Service) (c : Choice) → c ≡ choose claims o class service
    → IsChosen (holders claims) o class service c
choose-is claims o class service c e = choose_for-is claims o (asker_of service) class service c e

-- what a call answers
pub answer-chosen : {E : Type 0} (claims : List ClaimValue) (o : Offer) (class : Option (List ℕ)) (service : Service) (answer : Result Choice E)
    → IfOk answer (λ c. c ≡ choose claims o class service) → IfOk answer (IsChosen (holders claims) o class service)
answer-chosen claims o class service (Ok c) e = choose-is claims o class service c e
answer-chosen claims o class service (Err f) e = tt

pub answer-only : {E : Type 0} (has : Holders) (o : Offer) (class : Option (List ℕ)) (service : Service) (answer : Result Choice E)
    → IfOk answer (IsChosen has o class service) → IfOk answer (λ c. (d : Choice) → IsChosen has o class service d → d ≡ c)
answer-only has o class service (Ok c) chosen = λ d other. chosen_for-only has o (asker_of service) class service d c other chosen
answer-only has o class service (Err f) chosen = tt

-- the record chosen has the mark of the terms
pub answer-marked : {E : Type 0} (has : Holders) (o : Offer) (class : Option (List ℕ)) (service : Service) (answer : Result Choice E)
    → IfOk answer (IsChosen has o class service) → OnOk answer (AreTerms (terms_of service))
    → IfOk answer (λ c. (r : Record) → IsFor r c → IsMarkOf (terms_of service) r.mark)
answer-marked has o class service (Ok c) chosen are = λ r for.
    let granted = chosen_for-granted has o (asker_of service) class service r c for chosen in
    record { terms = are; mark = sym (ap (λ (x : Record). x.mark) granted.is) }
answer-marked has o class service (Err f) chosen are = tt

-- what is found at the places of the eligible pools
pub filter_map-found : {X Y : Type 0} (f : X → Option Y) (xs : List X) (ys : List Y) → map f xs ≡ map (λ y. Some y) ys → filter_map f xs ≡ ys
filter_map-found f [] [] e = refl
filter_map-found f [] (y ∷ ys) e = absurd (cc)
filter_map-found f (x ∷ xs) [] e = absurd (cc)
filter_map-found {X} {Y} f (x ∷ xs) (y ∷ ys) e =
    let here : f x ≡ Some y = cc in
    let rest : map f xs ≡ map (λ z. Some z) ys = cc in
    let more : List Y → List Y = λ zs. y ∷ zs in
    rw here (ap more (filter_map-found f xs ys rest))

pub filter_map-some : {Y : Type 0} (f : ℕ → Option Y) (xs : List ℕ) (i d : ℕ) (kept all : List Y) (y : Y) → i < length xs → Some y ≡ f (get_or xs i d)
    → kept ++ filter_map f (drop i xs) ≡ all
    → (kept ++ y ∷ []) ++ filter_map f (drop (i + 1) xs) ≡ all
filter_map-some f xs i d kept all y lt is e =
    let there = rw (drop-cons xs i d lt) at e in
    let same : f (get_or xs i d) ≡ Some y = sym is in
    let taken = rw same at there in
    rw (append_assoc kept (y ∷ []) (filter_map f (drop (i + 1) xs)), add-one) taken

pub filter_map-none : {Y : Type 0} (f : ℕ → Option Y) (xs : List ℕ) (i d : ℕ) (kept all : List Y) → i < length xs → None ≡ f (get_or xs i d)
    → kept ++ filter_map f (drop i xs) ≡ all
    → kept ++ filter_map f (drop (i + 1) xs) ≡ all
filter_map-none f xs i d kept all lt is e =
    let there = rw (drop-cons xs i d lt) at e in
    let same : f (get_or xs i d) ≡ None = sym is in
    let taken = rw same at there in
    rw add-one taken

pub answer-found : {V E : Type 0} (items : V → List (Bor CompiledPool)) (pools same : List CompiledPool) (places those : List ℕ) (found : List CompiledPool)
    (answer : Result V E) → pools ≡ same → those ≡ places
    → map (slice_get same) places ≡ map (λ p. Some p) found → IfOk answer (λ v. map (λ p. p.now) (items v) ≡ filter_map (slice_get pools) those)
    → IfOk answer (λ v. map (λ p. p.now) (items v) ≡ found)
answer-found items pools same places those found (Ok v) one two is e =
    e ∙ ap (λ (q : List CompiledPool). filter_map (slice_get q) those) one ∙ ap (λ (ps : List ℕ). filter_map (slice_get same) ps) two
    ∙ filter_map-found (slice_get same) places found is
answer-found items pools same places those found (Err f) one two is e = tt
