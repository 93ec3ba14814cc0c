-- The announcer of an address where all stays but at some nodes: the least of the one that it had and of those nodes, as long as that one is eligible.
use Rattle.std.proofs.Common.{◌≡◌, ◌⊎◌, ℕ, Bool, true, false, not, ◌&&◌, ◌||◌, List, [], ◌∷◌, ◌++◌, filter, Option, Some, None}
use Rattle.std.proofs.Common.{All, Contains, inl, inr, refl, sym, ap, subst, ◌∙◌, option_to_list}
use Rattle.std.proofs.lemmas.Bool.{and_parts, false≢true, true≢false}
use Rattle.std.proofs.lemmas.List.Elements.{All-contains}
use Rattle.std.proofs.lemmas.Map.Lookups.{exact_bytes}
use Rattle.std.specs.BTreeSet.{contains}
use Rattle.std.specs.Cmp.Lexicographic.{nat_list_cmp_total}
use Rattle.mlb_base.proofs.Among.{contains-cons, contains-first, contains-later, contains-none}
use Rattle.mlb_base.proofs.Lists.{filter-contains, filter-keeps, in-contains, contains-in}
use Rattle.ip_ranges.specs.AddressText.{canonical_text}
use Rattle.ip_ranges.specs.Values.{AddressValue}
use Rattle.kube_labels.specs.Names.{has_text, name_cmp}
use Rattle.kube_labels.proofs.NameLaws.{has_text-Decides}
use Rattle.pool_config.proofs.KeySets.{held-Decides}
use Rattle.pool_config.specs.declared.compiled.CompiledL2.{CompiledL2}
use Rattle.pool_config.specs.declared.compiled.CompiledPool.{CompiledPool}
use Rattle.pool_config.specs.ConfigValue.{ConfigValue}
use Rattle.pool_config.specs.PoolOf.{pool_with}
use Rattle.speaker_view.specs.Change.{StaysAt}
use Rattle.speaker_view.specs.Endpoints.{announced_from}
use Rattle.speaker_view.specs.ViewValue.{ViewValue}
use Rattle.l2_elect.specs.Eligible.{advertises, is_eligible, is_eligible_by, passes_for, passes_in, IsEligible}
use Rattle.l2_elect.specs.Election.{announcer_of, best_from, comes_before, IsAnnouncer}
use Rattle.l2_elect.specs.Kept.{AreMembersAmong, WasKeptAt}
use Rattle.l2_elect.proofs.Eligibility.{eligible-member, member-eligible}
use Rattle.l2_elect.proofs.Least.{before_order, elected-least, least_of, least_where, none-eligible, none_of}
use Rattle.l2_elect.proofs.Unrecorded.{still-eligible, was-eligible}

abbrev Names : Type 0
Names = List (List ℕ)

-- ---- the best of such as cover all that are eligible
module _ (v : ViewValue) (a : AddressValue) where
  abbrev text : List ℕ
  text = canonical_text a

  nobody-none : ((node : List ℕ) → ¬ IsEligible v a node) → (o : Option (List ℕ)) → announcer_of v a ≡ o → o ≡ None
  nobody-none none None is = refl
  nobody-none none (Some node) is = absurd (none node (elected-least v a node is).eligible)

  passes : (node : List ℕ) → IsEligible v a node → is_eligible v a node ≡ true
  passes node e = (filter-contains (is_eligible v a) v.members node (eligible-member v a node e)).1

  best-announcer : (all : Names) → ((node : List ℕ) → Contains all node → IsEligible v a node)
      → ((node : List ℕ) → IsEligible v a node → Contains all node ⊎ ((k : List ℕ) × Contains all k × (comes_before text node k ≡ false)))
      → (o : Option (List ℕ)) → best_from text None all ≡ o → o ≡ announcer_of v a
  best-announcer all eligible covers None is =
      let none : all ≡ [] = none_of text all is in
      sym (nobody-none (λ node e. elim (covers node e) [
        | inl there ↦ contains-none node (subst (λ (ns : Names). Contains ns node) none there)
        | inr behind ↦ contains-none behind.0 (subst (λ (ns : Names). Contains ns behind.0) none behind.1)
      ]) (announcer_of v a) refl)
  best-announcer all eligible covers (Some node) is =
      let p = least_of text all node is in
      let least : (m : List ℕ) → Contains all m → comes_before text m node ≡ false =
      λ m there. All-contains (λ (x : List ℕ). comes_before text x node ≡ false) all m p.1 there in
      let announcer : IsAnnouncer v a node = record {
        eligible = eligible node p.0;
        least = λ m e. elim (covers m e) [
          | inl there ↦ least m there
          | inr behind ↦ (before_order text).chain m behind.0 node behind.2 (least behind.0 behind.1)
        ];
      } in
      sym (least_where v a (announcer_of v a) node refl announcer)

-- ---- where one was kept
module _ (w : ViewValue) (nodes members : Names) (a : AddressValue) (kept : Option (List ℕ)) (was : WasKeptAt nodes a kept w)
    (are : AreMembersAmong nodes w members) where
  abbrev v : ViewValue
  v = was.before

  abbrev list : Names
  list = filter (is_eligible w a) members

  among-Decides : (node : List ℕ) → (contains name_cmp (record { keys = nodes }) node ≡ true → Contains nodes node)
      × (Contains nodes node → contains name_cmp (record { keys = nodes }) node ≡ true)
  among-Decides node = (
    λ e. in-contains nodes node ((held-Decides nat_list_cmp_total exact_bytes nodes node).0 e),
    λ there. (held-Decides nat_list_cmp_total exact_bytes nodes node).1 (contains-in nodes node there),
  )

  -- an eligible node is one of these, or was eligible before
  either : (node : List ℕ) → IsEligible w a node → Contains list node ⊎ IsEligible v a node
  either node e = by (contains name_cmp (record { keys = nodes }) node) refl where
    by : (b : Bool) → contains name_cmp (record { keys = nodes }) node ≡ b → Contains list node ⊎ IsEligible v a node
    by true is =
        inl (filter-keeps (is_eligible w a) members node ((are node).1 ((among-Decides node).0 is, e.member)) (passes w a node e))
    by false is =
        inr (was-eligible v w nodes a was.stays node (λ there. true≢false (sym ((among-Decides node).1 there) ∙ is)) e)

  listed : (node : List ℕ) → Contains list node → IsEligible w a node
  listed node there =
      let passed = filter-contains (is_eligible w a) members node there in
      member-eligible w a node (filter-keeps (is_eligible w a) w.members node ((are node).0 passed.0).1 passed.1)

  -- one that stands is eligible still
  pub stands-eligible : (node : List ℕ) → IsEligible v a node
      → (not (contains name_cmp (record { keys = nodes }) node) || (has_text w.members node && is_eligible w a node)) ≡ true → IsEligible w a node
  stands-eligible node e is = by (contains name_cmp (record { keys = nodes }) node) refl is where
    by : (b : Bool) → contains name_cmp (record { keys = nodes }) node ≡ b
        → (not b || (has_text w.members node && is_eligible w a node)) ≡ true → IsEligible w a node
    by true here stands =
        let parts = and_parts (has_text w.members node) (is_eligible w a node) stands in
        member-eligible w a node (filter-keeps (is_eligible w a) w.members node ((has_text-Decides w.members node).0 parts.0) parts.1)
    by false here stands = still-eligible v w nodes a was.stays node (λ there. true≢false (sym ((among-Decides node).1 there) ∙ here)) e

  pub since-none : kept ≡ None → best_from (canonical_text a) None list ≡ announcer_of w a
  since-none none =
      best-announcer w a list listed (λ node e. elim (either node e) [
        | inl there ↦ inl there
        | inr before ↦ absurd (none-eligible v a (sym was.right ∙ none) node before)
      ]) (best_from (canonical_text a) None list) refl

  pub since-some : (name : List ℕ) → kept ≡ Some name
      → (not (contains name_cmp (record { keys = nodes }) name) || (has_text w.members name && is_eligible w a name)) ≡ true
      → best_from (canonical_text a) (Some name) list ≡ announcer_of w a
  since-some name is stands =
      let announcer : IsAnnouncer v a name = elected-least v a name (sym was.right ∙ is) in
      best-announcer w a (name ∷ list)
      (λ node there. elim (contains-cons name list node there) [
        | inl here ↦ subst (λ (n : List ℕ). IsEligible w a n) here (stands-eligible name announcer.eligible stands)
        | inr later ↦ listed node later
      ])
      (λ node e. elim (either node e) [
        | inl there ↦ inl (contains-later name list node there)
        | inr before ↦ inr (name, contains-first name list, announcer.least node before)
      ])
      (best_from (canonical_text a) (Some name) list) refl

-- where no node changed, what was kept is right
pub kept-still : (w : ViewValue) (a : AddressValue) (kept : Option (List ℕ)) → WasKeptAt [] a kept w → kept ≡ announcer_of w a
kept-still w a kept was = by kept refl where
  none-among : AreMembersAmong [] w []
  none-among node = (λ there. absurd (contains-none node there), λ both. absurd (contains-none node both.0))

  by : (o : Option (List ℕ)) → kept ≡ o → o ≡ announcer_of w a
  by None is = since-none w [] [] a kept was none-among is
  by (Some name) is = since-some w [] [] a kept was none-among name is refl

-- ---- by the address's pool
module _ (v : ViewValue) (a : AddressValue) (config : ConfigValue) (pool : CompiledPool) (in_force : v.held.config ≡ Some config)
    (is : pool_with config.pools a ≡ Some pool) where
  pub eligible-by : (node : List ℕ) → is_eligible v a node ≡ is_eligible_by v a pool config.l2 node
  eligible-by node =
      ap (λ (held : Option ConfigValue). passes_in (advertises v node) a held && announced_from v a node) in_force
      ∙ ap (λ (found : Option CompiledPool). passes_for (advertises v node) config.l2 found && announced_from v a node) is

  pub filtered-by : (nodes : Names) → filter (is_eligible_by v a pool config.l2) nodes ≡ filter (is_eligible v a) nodes
  filtered-by nodes = λ i. filter (λ node. sym (eligible-by node) i) nodes

-- ---- what a call answers that starts with nobody, or with the one that is kept
module _ (v : ViewValue) (names members : Names) (a : AddressValue) (kept : Option (List ℕ)) (was : WasKeptAt names a kept v)
    (are : AreMembersAmong names v members) (config : ConfigValue) (pool : CompiledPool) (in_force : v.held.config ≡ Some config)
    (found : pool_with config.pools a ≡ Some pool) (written : List ℕ) (text_is : written ≡ canonical_text a) (l2 : List CompiledL2) (l2_is : l2 ≡ config.l2) where
  answered : (first : Option (List ℕ)) (o : Option (List ℕ)) → o ≡ best_from written first (filter (is_eligible_by v a pool l2) members)
      → o ≡ best_from (canonical_text a) first (filter (is_eligible v a) members)
  answered first o is =
      is ∙ (λ i. best_from (text_is i) first (filter (is_eligible_by v a pool (l2_is i)) members))
      ∙ ap (best_from (canonical_text a) first) (filtered-by v a config pool in_force found members)

  pub none-since : kept ≡ None → (o : Option (List ℕ)) → o ≡ best_from written None (filter (is_eligible_by v a pool l2) members) → o ≡ announcer_of v a
  none-since none o is = answered None o is ∙ since-none v names members a kept was are none

  pub some-since : (name node first : List ℕ) → kept ≡ Some name → node ≡ name → first ≡ name → (b : Bool) → b ≡ true
      → b ≡ (not (contains name_cmp (record { keys = names }) node) || (has_text v.members node && is_eligible_by v a pool l2 node))
      → (o : Option (List ℕ)) → o ≡ best_from written (Some first) (filter (is_eligible_by v a pool l2) members) → o ≡ announcer_of v a
  some-since name node first is node_is first_is b stands by o o_is =
      let test : (not (contains name_cmp (record { keys = names }) name) || (has_text v.members name && is_eligible v a name)) ≡ true =
      (λ i. not (contains name_cmp (record { keys = names }) name) || (has_text v.members name && eligible-by v a config pool in_force found name i))
      ∙ (λ i. not (contains name_cmp (record { keys = names }) (sym node_is i))
      || (has_text v.members (sym node_is i) && is_eligible_by v a pool (sym l2_is i) (sym node_is i)))
      ∙ sym by ∙ stands in
      answered (Some first) o o_is ∙ ap (λ (n : List ℕ). best_from (canonical_text a) (Some n) (filter (is_eligible v a) members)) first_is
      ∙ since-some v names members a kept was are name is test
