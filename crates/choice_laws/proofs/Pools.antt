-- The pools of a configuration that are open to a service: by their name, by an address, and among those that are eligible.
use Rattle.std.proofs.Common.{◌≡◌, ◌≢◌, ℕ, Bool, true, false, cond, List, [], ◌∷◌, Option, Some, None, Less, Equal}
use Rattle.std.proofs.Common.{◌⊎◌, inl, ⊎_elim, refl, sym, ap, ◌∙◌, subst}
use Rattle.std.proofs.lemmas.Bool.{true≢false, true_from_ne_false}
use Rattle.std.proofs.lemmas.Cmp.{tied_itself}
use Rattle.std.proofs.lemmas.Slice.Eq.{bytes_eq-Decides}
use Rattle.std.specs.List.{Contains}
use Rattle.std.specs.Option.{option_to_list}
use Rattle.std.specs.Str.{bytes_eq}
use Rattle.mlb_base.specs.Cases.{IsFirst}
use Rattle.mlb_base.specs.Items.{ItemAt, IsIn}
use Rattle.mlb_base.proofs.Among.{contains-none, contains-cons}
use Rattle.mlb_base.proofs.CaseLaws.{find-first, first-holds, first-stands}
use Rattle.mlb_base.proofs.Lists.{contains-in}
use Rattle.ip_ranges.specs.Values.{AddressValue}
use Rattle.kube_labels.specs.Names.{name_cmp}
use Rattle.kube_labels.proofs.NameLaws.{name_cmp-total}
use Rattle.kube_model.specs.declared.service.Service.{Service}
use Rattle.pool_config.specs.ConfigValue.{ConfigValue, IsConfig, AreApart, placed_spans}
use Rattle.pool_config.specs.PoolOf.{HasAddress}
use Rattle.pool_config.specs.declared.compiled.CompiledPool.{CompiledPool}
use Rattle.pool_config.proofs.ItemLaws.{same_item}
use Rattle.pool_config.proofs.OnePool.{one_pool}
use Rattle.pool_choice.specs.Eligible.{eligible}
use Rattle.pool_choice.specs.Serving.{serves}
use Rattle.pool_choice.proofs.EligibleLaws.{eligible-are}
use Rattle.pool_choice.proofs.RankedLaws.{NamesAscend, names-ascend}
use Rattle.pool_choice.proofs.ServingLaws.{serves-Decides}
use Rattle.pool_choice.proofs.SortLaws.{all-at}
use Rattle.alloc_book.specs.Chosen.{named}
use Rattle.choice_laws.specs.Options.{IsOpenTo, GivesTo}
use Rattle.choice_laws.proofs.Options.{in-at}

-- ---- by its name
name-apart : (p pool : CompiledPool) → name_cmp p.name pool.name ≡ Less → p.name ≢ pool.name
name-apart p pool less same =
    let tied : name_cmp pool.name pool.name ≡ Equal = tied_itself name_cmp-total pool.name in
    let moved : name_cmp pool.name pool.name ≡ Less = subst (λ (name : List ℕ). name_cmp name pool.name ≡ Less) same less in
    absurd (cc)

named_by : (b : Bool) (p pool : CompiledPool) (found : Option CompiledPool) (pools : List CompiledPool) → b ≡ bytes_eq p.name pool.name
    → (Contains pools pool → name_cmp p.name pool.name ≡ Less) → (Contains pools pool → found ≡ Some pool) → (p ≡ pool) ⊎ Contains pools pool
    → cond b (Some p) found ≡ Some pool
named_by true p pool found pools e above ih there =
    ⊎_elim
    (λ same. ap (λ (x : CompiledPool). Some x) same)
    (λ later. absurd (name-apart p pool (above later) ((bytes_eq-Decides p.name pool.name).0 (sym e))))
    there
named_by false p pool found pools e above ih there =
    ⊎_elim
    (λ same. absurd (true≢false (sym ((bytes_eq-Decides p.name pool.name).1 (ap (λ (x : CompiledPool). x.name) same)) ∙ sym e)))
    ih
    there

named-at : (pools : List CompiledPool) → NamesAscend pools → (pool : CompiledPool) → Contains pools pool → named pools pool.name ≡ Some pool
named-at [] up pool there = absurd (contains-none pool there)
named-at (p ∷ pools) up pool there =
    named_by (bytes_eq p.name pool.name) p pool (named pools pool.name) pools refl
    (all-at (λ (q : CompiledPool). name_cmp p.name q.name ≡ Less) pools pool up.0) (named-at pools up.1 pool) (contains-cons p pools pool there)

pub named-only : (config : ConfigValue) → IsConfig config → (p q : CompiledPool) → Contains config.pools p → Contains config.pools q → p.name ≡ q.name
    → p ≡ q
named-only config is p q here there same =
    let up = names-ascend config.pools is.pools in
    let first : named config.pools p.name ≡ Some p = named-at config.pools up p here in
    let second : named config.pools p.name ≡ Some q =
    subst (λ (name : List ℕ). named config.pools name ≡ Some q) (sym same) (named-at config.pools up q there) in
    cc

-- the one that is found by a name has it
found-named : (pools : List CompiledPool) (name : List ℕ) (found : Option CompiledPool) (pool : CompiledPool) → named pools name ≡ found
    → Contains (option_to_list found) pool → (named pools name ≡ Some pool) × Contains pools pool × (pool.name ≡ name)
found-named pools name None pool e there = absurd (contains-none pool there)
found-named pools name (Some p) pool e there =
    let one : p ≡ pool = ⊎_elim (λ same. same) (λ none. absurd (contains-none pool none)) (contains-cons p [] pool there) in
    let it : named pools name ≡ Some pool = e ∙ ap (λ (x : CompiledPool). Some x) one in
    let first : IsFirst (λ (x : CompiledPool). x.name ≡ name) pools pool =
    find-first (λ (x : CompiledPool). x.name ≡ name) (λ x. bytes_eq x.name name) pools pool (λ x. bytes_eq-Decides x.name name) it in
    (it, first-stands (λ (x : CompiledPool). x.name ≡ name) pools pool first, first-holds (λ (x : CompiledPool). x.name ≡ name) pools pool first)

-- ---- by an address
pub pool-only : (pools : List CompiledPool) → AreApart (placed_spans pools) → (a : AddressValue) (p q : CompiledPool) → Contains pools p → Contains pools q
    → HasAddress a p → HasAddress a q → p ≡ q
pool-only pools apart a p q here there has has_too =
    let (i, at) = in-at pools p (contains-in pools p here) in
    let (j, at_too) = in-at pools q (contains-in pools q there) in
    let same : i ≡ j = one_pool pools apart a i j p q at at_too has has_too in
    same_item pools j p q (subst (λ (n : ℕ). ItemAt pools n p) same at) at_too

-- ---- where it is looked for
module _ (config : ConfigValue) (labels : List (List ℕ × List ℕ)) (service : Service) (is : IsConfig config) (pool : CompiledPool)
    (opens : IsOpenTo config.pools labels service pool) where
  pub serves-it : serves service labels pool ≡ true
  serves-it = (serves-Decides service labels pool).1 opens.serves

  pub named-it : service.pool_asked ≢ [] → named config.pools service.pool_asked ≡ Some pool
  named-it asks =
      subst (λ (name : List ℕ). named config.pools name ≡ Some pool) (opens.asked asks)
      (named-at config.pools (names-ascend config.pools is.pools) pool opens.stands)

  pub asked-in : service.pool_asked ≢ [] → IsIn (option_to_list (named config.pools service.pool_asked)) pool
  asked-in asks = subst (λ (found : Option CompiledPool). IsIn (option_to_list found) pool) (sym (named-it asks)) (inl refl)

  pub eligible-in : service.pool_asked ≡ [] → GivesTo service pool → IsIn (eligible service labels config.pools) pool
  eligible-in none gives =
      contains-in (eligible service labels config.pools) pool
      (((eligible-are service labels config.pools is.pools).exact pool).1 (opens.stands, (gives none, opens.serves)))

-- the other way round: which pools are asked for and eligible
module _ (config : ConfigValue) (labels : List (List ℕ × List ℕ)) (service : Service) (pool : CompiledPool) where
  pub is-open : Contains config.pools pool → serves service labels pool ≡ true → (service.pool_asked ≢ [] → pool.name ≡ service.pool_asked)
      → IsOpenTo config.pools labels service pool
  is-open stands served asked = record { stands = stands; serves = (serves-Decides service labels pool).0 served; asked = asked }

  pub asked-open : service.pool_asked ≢ []
      → ¬ ((service.pool_asked ≢ []) × ((p : CompiledPool) × (named config.pools service.pool_asked ≡ Some p) × (serves service labels p ≡ false)))
      → Contains (option_to_list (named config.pools service.pool_asked)) pool → IsOpenTo config.pools labels service pool × GivesTo service pool
  asked-open asks not_refused there =
      let found = found-named config.pools service.pool_asked (named config.pools service.pool_asked) pool refl there in
      let served = true_from_ne_false (serves service labels pool) (λ refused. not_refused (asks, (pool, found.0, refused))) in
      (is-open found.1 served (λ _. found.2), λ none. absurd (asks none))

  pub eligible-open : IsConfig config → ¬ (service.pool_asked ≢ []) → Contains (eligible service labels config.pools) pool
      → IsOpenTo config.pools labels service pool × GivesTo service pool
  eligible-open is none there =
      let offered = ((eligible-are service labels config.pools is.pools).exact pool).0 there in
      (record { stands = offered.0; serves = offered.1.1; asked = λ asks. absurd (none asks) }, λ _. offered.1.0)
