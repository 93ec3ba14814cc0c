-- Distinct services of the 48 are at most 48.
use Rattle.std.proofs.Common.{◌≡◌, ◌≢◌, ℕ, ◌<◌, ◌≤◌, true, false, List, [], ◌∷◌, length, Less, Equal, eqb, refl, sym, ap, subst, ◌∙◌, ⊎_elim}
use Rattle.std.proofs.lemmas.Bool.{eqb-true, ne_eqb, or_cases, true≢false}
use Rattle.std.proofs.lemmas.Map.Steps.{length-le_from_distinct_below}
use Rattle.std.specs.Cmp.{tied_itself}
use Rattle.std.specs.List.{AllByRecursion, IsDistinct, list_any}
use Rattle.std.specs.List.Sorted.{IsStrictlySortedBy}
use Rattle.ip_ranges.specs.Values.{AddressValue}
use Rattle.kube_model.specs.declared.key.Key.{Key}
use Rattle.kube_model.specs.Keys.{key_cmp}
use Rattle.kube_model.proofs.KeyLaws.{key_cmp-total}
use Rattle.world_trial.specs.Services.{numbered}
use Rattle.world_trial.specs.Lines.{IsNumbered, AreByKey, keys_in}

-- the numbers of these
numbers : (keys : List Key) → AllByRecursion IsNumbered keys → List ℕ
numbers [] all = []
numbers (key ∷ keys) all = all.0.0 ∷ numbers keys all.1

length-numbers : (keys : List Key) (all : AllByRecursion IsNumbered keys) → length (numbers keys all) ≡ length keys
unfolding numbers
length-numbers [] all = refl
length-numbers (key ∷ keys) all = rw (length-numbers keys all.1) refl

numbers-below : (keys : List Key) (all : AllByRecursion IsNumbered keys) (q : ℕ) → list_any (eqb q) (numbers keys all) ≡ true → q < 48
unfolding numbers
numbers-below [] all q e = absurd (true≢false (sym e))
numbers-below (key ∷ keys) all q e =
    ⊎_elim (λ is. subst (λ (n : ℕ). n < 48) (sym (eqb-true q all.0.0 is)) all.0.1) (λ more. numbers-below keys all.1 q more) (or_cases (eqb q all.0.0) _ e)

not-below : (key : Key) → key_cmp key key ≢ Less
not-below key e = let tied : key_cmp key key ≡ Equal = tied_itself key_cmp-total key in cc

apart : (x y : ℕ) (key other : Key) → key ≡ numbered x → other ≡ numbered y → key_cmp key other ≡ Less → eqb x y ≡ false
apart x y key other is also less =
    ne_eqb x y (λ same. not-below key (subst (λ (k : Key). key_cmp key k ≡ Less) (also ∙ ap numbered (sym same) ∙ sym is) less))

apart-all : (key : Key) (own : IsNumbered key) (keys : List Key) (all : AllByRecursion IsNumbered keys) → AllByRecursion (λ k. key_cmp key k ≡ Less) keys
    → AllByRecursion (λ y. eqb own.0 y ≡ false) (numbers keys all)
unfolding numbers
apart-all key own [] all below = tt
apart-all key own (other ∷ keys) all below =
    (apart own.0 all.0.0 key other own.2 all.0.2 below.0, apart-all key own keys all.1 below.1)

numbers-distinct : (keys : List Key) (all : AllByRecursion IsNumbered keys) → IsStrictlySortedBy key_cmp keys → IsDistinct eqb (numbers keys all)
unfolding numbers IsStrictlySortedBy IsDistinct
numbers-distinct [] all s = tt
numbers-distinct (key ∷ keys) all s = (apart-all key all.0 keys all.1 s.0, numbers-distinct keys all.1 s.1)

few : (keys : List Key) → AllByRecursion IsNumbered keys → IsStrictlySortedBy key_cmp keys → length keys ≤ 48
few keys all s =
    subst (λ (n : ℕ). n ≤ 48) (length-numbers keys all)
    (length-le_from_distinct_below (numbers keys all) 48 (numbers-distinct keys all s) (numbers-below keys all))

length-keys : (records : List (Key × List AddressValue)) → length (keys_in records) ≡ length records
length-keys [] = refl
length-keys (line ∷ records) = rw (length-keys records) refl

pub few-lines : (records : List (Key × List AddressValue)) → AllByRecursion IsNumbered (keys_in records) → AreByKey records → length records ≤ 48
few-lines records all s = subst (λ (n : ℕ). n ≤ 48) (length-keys records) (few (keys_in records) all s)
