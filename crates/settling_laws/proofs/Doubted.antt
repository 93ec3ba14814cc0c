-- No claims come into doubt by what is taken, or by a put that is delivered.
use Rattle.std.proofs.Common.{◌≡◌, ℕ, ◌+◌, ◌≤◌, Bool, true, false, cond, not, leb, eqb, List, [], ◌∷◌, length, filter, is_eq}
use Rattle.std.proofs.Common.{Option, Some, None, option_map, refl, sym, ap, ◌∙◌, arith}
use Rattle.std.proofs.lemmas.Bool.{true≢false, false_from_ne_true}
use Rattle.std.proofs.lemmas.List.{length-append}
use Rattle.std.proofs.lemmas.List.Elements.{filter-append}
use Rattle.std.proofs.lemmas.Map.Entries.{option_filter}
use Rattle.std.specs.List.Sorted.{IsStrictlySortedBy}
use Rattle.std.specs.Map.{keys_of}
use Rattle.std.specs.Option.{option_map_or}
use Rattle.kube_model.specs.declared.event.Event.{Event}
use Rattle.kube_model.specs.declared.event.Event.TheVariants.{Changed, Deleted, Expired}
use Rattle.kube_model.specs.declared.key.Key.{Key}
use Rattle.kube_model.specs.declared.object.Kind.TheVariants as kinds
use Rattle.kube_model.specs.declared.object.Object.TheVariants as objects
use Rattle.kube_model.specs.declared.record.Record.{Record}
use Rattle.kube_model.specs.declared.service.Service.{Service}
use Rattle.kube_model.specs.Keys.{key_cmp, same_key}
use Rattle.kube_model.specs.Records.{empty_record, is_assigned, same_record}
use Rattle.kube_model.proofs.KeyLaws.{key_cmp-total, same_key-flip, same_key-itself, is_eq-key_cmp}
use Rattle.kube_model.proofs.RecordLaws.{same_record-is}
use Rattle.versioned_map.specs.declared.map.Versioned.{Versioned}
use Rattle.versioned_map.specs.Objects.{at_version, held_at, listed, version_at as version_held}
use Rattle.versioned_map.proofs.HeldLaws.{held_at-shown, held_at-removed, held_at-listed, held_at-expired}
use Rattle.sharing_terms.specs.declared.terms.Terms.{Terms}
use Rattle.claim_index.specs.Claims.{ClaimValue, claim_of, has_claims, others, settled}
use Rattle.core_rules.specs.Core.{State, shown_terms}
use Rattle.core_rules.specs.Take.{Shows as ShowsService, Drops, Configures, Expires, core_by, core_take, is_unlisted}
use Rattle.core_rules.proofs.Effects.{by_effect, config-services}
use Rattle.world_rules.proofs.Lanes.{here-same}
use Rattle.settling_laws.specs.Settling.{is_bare, doubts_in}
use Rattle.settling_laws.proofs.Counts.{claims-fewer, claims-less, others-fewer}

-- held with an empty record, by what is held
abbrev bare_in : Option (Versioned Service) → Bool
bare_in o = option_map_or (λ (service : Service). same_record service.holding empty_record) (option_map (λ (v : Versioned Service). v.object) o) false

pub assigned-some : (r : Record) → is_assigned r ≡ true → same_record r empty_record ≡ false
assigned-some r assigned =
    false_from_ne_true (same_record r empty_record)
    (λ e. let none : is_assigned empty_record ≡ false = refl in true≢false (sym assigned ∙ ap is_assigned (same_record-is r empty_record e) ∙ none))

not-false : (b : Bool) → not b ≡ true → b ≡ false
not-false true e = absurd (true≢false (sym e))
not-false false e = refl

-- ---- the key's claims become one, or none
module _ (s : State) (bare : Key → Bool) (k : Key) (r : Record) (terms : Terms) (else : (key : Key) → same_key key k ≡ false → bare key ≡ is_bare s key)
    (own : is_assigned r ≡ true → bare k ≡ false)
  where
    abbrev bare-claim : ClaimValue → Bool
    bare-claim c = bare c.key

    kept : (c : ClaimValue) → not (same_key c.key k) ≡ true → bare c.key ≡ true → is_bare s c.key ≡ true
    kept c other is = sym (else c.key (not-false (same_key c.key k) other)) ∙ is

    claim_by : (assigned : Bool) → (assigned ≡ true → bare k ≡ false)
        → length (filter bare-claim (cond assigned (record { key = k; holding = r; terms = terms } ∷ []) [])) ≡ 0
    claim_by true none = rw (none refl) refl
    claim_by false none = refl

    split : length (filter bare-claim (settled k r terms s.claims)) ≡ length (filter bare-claim (others k s.claims))
    split =
        let a = ap length (filter-append bare-claim (others k s.claims) (claim_of k r terms)) in
        let b = length-append (filter bare-claim (others k s.claims)) (filter bare-claim (claim_of k r terms)) in
        let c = claim_by (is_assigned r) own in
        omega (arith, a, b, c)

    pub settled-doubts : length (filter bare-claim (settled k r terms s.claims)) ≤ length (doubts_in s)
    settled-doubts =
        let a = claims-fewer (is_bare s) bare (λ (c : ClaimValue). not (same_key c.key k)) s.claims kept in
        omega (arith, split, a)

    pub settled-fewer : is_bare s k ≡ true → has_claims k s.claims ≡ true → length (filter bare-claim (settled k r terms s.claims)) + 1 ≤ length (doubts_in s)
    settled-fewer is has =
        let a = others-fewer (is_bare s) bare k is kept s.claims has in
        omega (arith, split, a)

-- ---- events
listed_by : (b : Bool) (v : Versioned Service) → bare_in (cond b (Some v) None) ≡ true → bare_in (Some v) ≡ true
listed_by true v e = e
listed_by false v e = absurd (true≢false (sym e))

listed-bare : (o : Option (Versioned Service)) → bare_in (option_filter (λ (v : Versioned Service). not (eqb v.version 0)) o) ≡ true → bare_in o ≡ true
listed-bare None e = e
listed-bare (Some v) e = listed_by (not (eqb v.version 0)) v e

expired-bare : (o : Option (Versioned Service)) → bare_in (option_map (at_version 0) o) ≡ bare_in o
expired-bare None = refl
expired-bare (Some v) = refl

shown_by : (b same : Bool) (o : Option (Versioned Service)) (new : Versioned Service) → same ≡ false → cond b o (cond same (Some new) o) ≡ o
shown_by true same o new e = refl
shown_by false true o new e = absurd (true≢false e)
shown_by false false o new e = refl

now_by : (old same : Bool) (o : Option (Versioned Service)) (new : Versioned Service) → old ≡ false → same ≡ true → cond old o (cond same (Some new) o) ≡ Some new
now_by true same o new e f = absurd (true≢false e)
now_by false true o new e f = refl
now_by false false o new e f = absurd (true≢false (sym f))

gone_by : (same : Bool) (o : Option (Versioned Service)) → same ≡ false → cond same None o ≡ o
gone_by true o e = absurd (true≢false e)
gone_by false o e = refl

module _ (s : State) (sorted : IsStrictlySortedBy key_cmp (keys_of s.held.services)) where
  abbrev here : Key → Option (Versioned Service)
  here key = held_at key_cmp s.held.services key

  -- a service is shown
  module _ (version : ℕ) (service : Service) where
    abbrev k : Key
    k = service.key

    abbrev new : Versioned Service
    new = record { version = version; object = service }

    abbrev is-old : Bool
    is-old = leb version (version_held key_cmp s.held.services k)

    abbrev after : Key → Option (Versioned Service)
    after key = held_at key_cmp (core_by (ShowsService version service) s (Changed version (objects.Service service))).held.services key

    after-is : (key : Key) → after key ≡ cond is-old (here key) (cond (same_key k key) (Some new) (here key))
    after-is key =
        held_at-shown key_cmp-total s.held.services k key version service
        ∙ ap (λ (b : Bool). cond is-old (here key) (cond b (Some new) (here key))) (here-same key k)

    shown-doubts : (b : Bool) → is-old ≡ b
        → length (filter (λ (c : ClaimValue). bare_in (after c.key)) (cond (not b) (settled k service.holding (shown_terms service) s.claims) s.claims))
        ≤ length (doubts_in s)
    shown-doubts true e =
        claims-less (is_bare s) (λ key. bare_in (after key)) s.claims
        (λ c is. ap bare_in (sym (after-is c.key ∙ ap (λ (b : Bool). cond b (here c.key) (cond (same_key k c.key) (Some new) (here c.key))) e)) ∙ is)
    shown-doubts false e =
        settled-doubts s (λ key. bare_in (after key)) k service.holding (shown_terms service)
        (λ key other. ap bare_in (after-is key ∙ shown_by is-old (same_key k key) (here key) new (same_key-flip k key ∙ other)))
        (λ assigned. ap bare_in (after-is k ∙ now_by is-old (same_key k k) (here k) new e (same_key-itself k)) ∙ assigned-some service.holding assigned)

  -- whatever is taken
  pub took-doubts : (event : Event) → length (doubts_in (core_take s event)) ≤ length (doubts_in s)
  took-doubts = by_effect (λ event c. length (doubts_in (core_by c s event)) ≤ length (doubts_in s))
      (λ version service. shown-doubts version service (leb version (version_held key_cmp s.held.services service.key)) refl)
      (λ gone.
      claims-fewer (is_bare s) (λ key. bare_in (held_at key_cmp (core_by (Drops gone) s (Deleted kinds.Service gone)).held.services key))
      (λ (c : ClaimValue). not (same_key c.key gone)) s.claims
      (λ c other is.
      ap bare_in (sym (held_at-removed key_cmp-total s.held.services gone c.key sorted
      ∙ gone_by (is_eq (key_cmp gone c.key)) (here c.key) (is_eq-key_cmp gone c.key ∙ same_key-flip gone c.key ∙ not-false (same_key c.key gone) other))) ∙ is))
      (claims-fewer (is_bare s) (λ key. bare_in (held_at key_cmp (listed s.held.services) key))
      (λ (c : ClaimValue). not (is_unlisted (listed s.held.services) c.key)) s.claims
      (λ c listed is. listed-bare (here c.key) (ap bare_in (sym (held_at-listed key_cmp-total s.held.services c.key sorted)) ∙ is)))
      (λ event c.
      let same = config-services event s.held c in
      claims-less (is_bare s) (λ key. bare_in (held_at key_cmp (core_by Configures s event).held.services key)) s.claims
      (λ c is. ap (λ (es : List (Key × Versioned Service)). bare_in (held_at key_cmp es c.key)) (sym same) ∙ is))
      (claims-less (is_bare s) (λ key. bare_in (held_at key_cmp (core_by Expires s Expired).held.services key)) s.claims
      (λ c is. sym (expired-bare (here c.key)) ∙ ap bare_in (sym (held_at-expired key_cmp s.held.services c.key)) ∙ is))
      (λ event. omega arith)
