-- The options of a service, and addresses that are one of each family of one.
use Rattle.std.proofs.Common.{◌≡◌, ℕ, Bool, true, false, not, cond, List, [], ◌∷◌, ◌++◌, map, filter, length, IsPermutation}
use Rattle.std.proofs.Common.{◌⊎◌, inl, inr, ⊎_elim, refl, sym, ap, ◌∙◌, subst, arith}
use Rattle.std.proofs.lemmas.Bool.{ne_eqb}
use Rattle.std.proofs.lemmas.List.Sorted.{sum_by-IsPermutation, IsPermutation-filter_both, IsPermutation-sym, IsPermutation-trans}
use Rattle.std.proofs.lemmas.List.Sums.{length-filter}
use Rattle.std.specs.List.{AllZip, Contains}
use Rattle.mlb_base.specs.Cases.{IsFirst, NoneIs}
use Rattle.mlb_base.specs.Items.{Has, IsIn, ItemAt}
use Rattle.mlb_base.proofs.Among.{contains-first, contains-later}
use Rattle.mlb_base.proofs.Lists.{filter-contains}
use Rattle.ip_ranges.specs.declared.family.Family.{Family}
use Rattle.ip_ranges.specs.declared.family.Family.TheVariants.{V4, V6}
use Rattle.ip_ranges.proofs.AddressLaws.{same_family-is}
use Rattle.ip_ranges.specs.Values.{AddressValue, same_family}
use Rattle.kube_model.specs.declared.service.Service.{Service}
use Rattle.sharing_terms.specs.Terms.{terms_of}
use Rattle.pool_config.specs.declared.compiled.CompiledPool.{CompiledPool}
use Rattle.pool_config.proofs.ItemLaws.{at_has, in_list}
use Rattle.claim_index.specs.Claims.{Holders}
use Rattle.alloc_book.specs.Asking.{options_by, options_of, asker_of}
use Rattle.alloc_book.specs.First.{HasEach, IsOneOfEach, FitsOption}
use Rattle.alloc_book.specs.Usable.{IsUsableOf}
use Rattle.choice_laws.specs.Laws.{OptionsAre}
use Rattle.choice_laws.specs.Options.{Prefers, IsOption, families_of, AreOfOption, MayUseAll, HasUsable}

-- ---- some item of a list
pub in-at : {X : Type 0} (xs : List X) (x : X) → IsIn xs x → (i : ℕ) × ItemAt xs i x
in-at {X} xs x there =
    let (i, y, stands, same) = in_list (λ (y : X). y ≡ x) xs there in
    (i, subst (λ (z : X). ItemAt xs i z) same stands)

pub has-at : {X : Type 0} (P : X → Type 0) (xs : List X) (x : X) → IsIn xs x → P x → Has P xs
has-at P xs x there p = let (i, stands) = in-at xs x there in at_has P xs i x stands p

pub none-at : {X : Type 0} (P : X → Type 0) (xs : List X) (x : X) → NoneIs P xs → IsIn xs x → ¬ (P x)
none-at P [] x none there p = absurd there
none-at P (y ∷ ys) x none there p = ⊎_elim (λ here. none.0 (subst P (sym here) p)) (λ later. none-at P ys x none.1 later p) there

-- where it holds of some item, it can't be that none is the first
pub some-first : {X : Type 0} (P : X → Type 0) (xs : List X) (x : X) → IsIn xs x → P x → ¬ (¬ ((y : X) × IsFirst P xs y))
some-first P [] x there p none = absurd there
some-first P (y ∷ ys) x there p none =
    let not_here : ¬ (P y) = λ here. none (y, inl (here, refl)) in
    ⊎_elim
    (λ here. not_here (subst P (sym here) p))
    (λ later. some-first P ys x later p (λ found. none (found.0, inr (not_here, found.1))))
    there

-- ---- the options
options-two : (service : Service) (f g : Family) → Prefers service f g → options_of service ≡ (f ∷ g ∷ []) ∷ (f ∷ []) ∷ (g ∷ []) ∷ []
options-two service f g prefers =
    ap (λ (b : Bool). options_by b service.families) prefers.0 ∙ ap (λ (families : List Family). options_by true families) prefers.1

abbrev AreNotTwo : Bool → List Family → Type 0
AreNotTwo prefers families = (f g : Family) → ¬ ((prefers ≡ true) × (families ≡ f ∷ g ∷ []))

options-else : (prefers : Bool) (families : List Family) → AreNotTwo prefers families → options_by prefers families ≡ families ∷ []
options-else false families none = refl
options-else true [] none = refl
options-else true (f ∷ []) none = refl
options-else true (f ∷ g ∷ []) none = absurd (none f g (refl, refl))
options-else true (f ∷ g ∷ h ∷ more) none =
    let all : List Family = f ∷ g ∷ h ∷ more in
    ap (λ (two : Bool). all ∷ map (λ (family : Family). family ∷ []) (cond two all [])) (ne_eqb (length all) 2 (λ two. omega (arith, two)))

pub options-are : OptionsAre
options-are = record {
  preferred = options-two;
  others = λ service none. options-else service.prefer_dual service.families none;
}

-- it prefers two families, or it doesn't
two-or-not : (prefers : Bool) (families : List Family) → ((f g : Family) × ((prefers ≡ true) × (families ≡ f ∷ g ∷ []))) ⊎ AreNotTwo prefers families
two-or-not false families = inr (λ f g two. let no = two.0 in absurd (cc))
two-or-not true [] = inr (λ f g two. let no = two.1 in absurd (cc))
two-or-not true (f ∷ []) = inr (λ x y two. let no = two.1 in absurd (cc))
two-or-not true (f ∷ g ∷ []) = inl (f, g, (refl, refl))
two-or-not true (f ∷ g ∷ h ∷ more) = inr (λ x y two. let no = two.1 in absurd (cc))

pub prefers-or-not : (service : Service) → ((f g : Family) × Prefers service f g) ⊎ ((f g : Family) → ¬ (Prefers service f g))
prefers-or-not service = two-or-not service.prefer_dual service.families

pub option-in : (service : Service) (families : List Family) → IsOption service families → IsIn (options_of service) families
option-in service families option =
    ⊎_elim
    (λ whole. inl (sym whole))
    (λ alone. subst (λ (options : List (List Family)). IsIn options families) (sym (options-two service alone.0 alone.1 alone.2))
    (inr (⊎_elim (λ first. inl (sym first)) (λ second. inr (inl (sym second))) alone.3)))
    option

pub option-from : (service : Service) (families : List Family) → IsIn (options_of service) families → IsOption service families
option-from service families there =
    ⊎_elim
    (λ two.
    ⊎_elim
    (λ whole. inl (sym whole ∙ sym two.2.1))
    (λ alone. inr (
      two.0,
      two.1,
      two.2,
      ⊎_elim (λ first. inl (sym first)) (λ last. ⊎_elim (λ second. inr (sym second)) (λ none. absurd none) last) alone,
    ))
    (subst (λ (options : List (List Family)). IsIn options families) (options-two service two.0 two.1 two.2) there))
    (λ none.
    ⊎_elim
    (λ whole. inl (sym whole))
    (λ end. absurd end)
    (subst (λ (options : List (List Family)). IsIn options families) (options-else service.prefer_dual service.families none) there))
    (prefers-or-not service)

-- ---- one of each family
count_by_family : (b : Bool) (a : AddressValue) (f : Family) (addresses : List AddressValue) (families : List Family)
    → length addresses ≡ length families
    → length (cond b (a ∷ addresses) addresses) ≡ length (cond b (f ∷ families) families)
count_by_family true a f addresses families same = omega (arith, same)
count_by_family false a f addresses families same = same

count-families : (p : Family → Bool) (addresses : List AddressValue)
    → length (filter (λ (a : AddressValue). p a.family) addresses) ≡ length (filter p (families_of addresses))
count-families p [] = refl
count-families p (a ∷ addresses) =
    count_by_family (p a.family) a a.family (filter (λ (b : AddressValue). p b.family) addresses) (filter p (families_of addresses))
    (count-families p addresses)

count-moved : {X : Type 0} (p : X → Bool) (xs ys : List X) → IsPermutation xs ys → length (filter p xs) ≡ length (filter p ys)
count-moved {X} p xs ys moved = length-filter p xs ∙ sym (sum_by-IsPermutation (λ (x : X). cond (p x) 1 0) xs ys moved) ∙ sym (length-filter p ys)

one_of_each : (families : List Family) (addresses : List AddressValue) → IsPermutation (families_of addresses) families → IsOneOfEach families addresses
one_of_each families addresses moved family =
    count-families (λ (f : Family). same_family f family) addresses
    ∙ count-moved (λ (f : Family). same_family f family) (families_of addresses) families moved

-- and the other way round: what is counted alike is alike in some order
all-alike : (k : Family) (xs ys : List Family) → ((x : Family) → Contains xs x → x ≡ k) → ((y : Family) → Contains ys y → y ≡ k) → length xs ≡ length ys
    → xs ≡ ys
all-alike k [] [] each each_too same = refl
all-alike k [] (y ∷ ys) each each_too same = absurd (omega (arith, same))
all-alike k (x ∷ xs) [] each each_too same = absurd (omega (arith, same))
all-alike k (x ∷ xs) (y ∷ ys) each each_too same =
    ap (λ (z : Family). z ∷ xs) (each x (contains-first x xs) ∙ sym (each_too y (contains-first y ys)))
    ∙ ap (λ (zs : List Family). y ∷ zs)
    (all-alike k xs ys (λ z there. each z (contains-later x xs z there)) (λ z there. each_too z (contains-later y ys z there)) (omega (arith, same)))

abbrev is_of : Family → Family → Bool
is_of k f = same_family f k

filtered-alike : (k : Family) (xs ys : List Family) → length (filter (is_of k) xs) ≡ length (filter (is_of k) ys) → filter (is_of k) xs ≡ filter (is_of k) ys
filtered-alike k xs ys same =
    all-alike k (filter (is_of k) xs) (filter (is_of k) ys) (λ x there. same_family-is x k (filter-contains (is_of k) xs x there).1)
    (λ y there. same_family-is y k (filter-contains (is_of k) ys y there).1) same

other-family : (f : Family) → is_of V6 f ≡ not (is_of V4 f)
other-family V4 = refl
other-family V6 = refl

counted-moved : (xs ys : List Family) → ((k : Family) → length (filter (is_of k) xs) ≡ length (filter (is_of k) ys)) → IsPermutation xs ys
counted-moved xs ys same =
    let parts : List Family → List Family = λ zs. filter (is_of V4) zs ++ filter (is_of V6) zs in
    let alike : parts xs ≡ parts ys =
    ap (λ (zs : List Family). zs ++ filter (is_of V6) xs) (filtered-alike V4 xs ys (same V4))
    ∙ ap (λ (zs : List Family). filter (is_of V4) ys ++ zs) (filtered-alike V6 xs ys (same V6)) in
    IsPermutation-trans xs (parts xs) ys (IsPermutation-filter_both (is_of V4) (is_of V6) other-family xs)
    (subst (λ (zs : List Family). IsPermutation zs ys) (sym alike)
    (IsPermutation-sym ys (parts ys) (IsPermutation-filter_both (is_of V4) (is_of V6) other-family ys)))

one_of_each-moved : (families : List Family) (addresses : List AddressValue) → IsOneOfEach families addresses → IsPermutation (families_of addresses) families
one_of_each-moved families addresses each =
    counted-moved (families_of addresses) families (λ k. sym (count-families (is_of k) addresses) ∙ each k)

pub fits-option : (service : Service) (addresses : List AddressValue) → AreOfOption service addresses → FitsOption (asker_of service) addresses
fits-option service addresses of =
    has-at (λ (families : List Family). IsOneOfEach families addresses) (options_of service) of.0 (option-in service of.0 of.1)
    (one_of_each of.0 addresses of.2)

pub option-fits : (service : Service) (addresses : List AddressValue) → FitsOption (asker_of service) addresses → AreOfOption service addresses
option-fits service addresses fits =
    let (i, families, stands, each) = in_list (λ (fs : List Family). IsOneOfEach fs addresses) (options_of service) fits in (
      families,
      option-from service families (at_has (λ (fs : List Family). fs ≡ families) (options_of service) i families stands refl),
      one_of_each-moved families addresses each,
    )

-- ---- usable ones, one by one
module _ (has : Holders) (service : Service) (pool : CompiledPool) where
  zip-usable : (addresses : List AddressValue) → MayUseAll has service pool addresses
      → AllZip (IsUsableOf has service.key (terms_of service) pool) (families_of addresses) addresses
  zip-usable [] all = tt
  zip-usable (a ∷ addresses) all =
      ((refl, all a (contains-first a addresses)), zip-usable addresses (λ b there. all b (contains-later a addresses b there)))

  pub has-each : (families : List Family) → HasUsable has service pool families → HasEach has (asker_of service) families pool
  has-each families usable = (
    usable.0,
    subst (λ (fs : List Family). AllZip (IsUsableOf has service.key (terms_of service) pool) fs usable.0) usable.1 (zip-usable usable.0 usable.2),
  )

pub zip-families : (R : Family → AddressValue → Type 0) → ((f : Family) (a : AddressValue) → R f a → a.family ≡ f) → (families : List Family)
    (addresses : List AddressValue) → AllZip R families addresses → families_of addresses ≡ families
zip-families R of [] [] zip = refl
zip-families R of [] (a ∷ addresses) zip = absurd zip
zip-families R of (f ∷ families) [] zip = absurd zip
zip-families R of (f ∷ families) (a ∷ addresses) zip =
    ap (λ (g : Family). g ∷ families_of addresses) (of f a zip.0)
    ∙ ap (λ (rest : List Family). f ∷ rest) (zip-families R of families addresses zip.1)
