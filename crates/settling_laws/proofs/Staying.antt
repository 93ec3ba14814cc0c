-- What is left to a service stays left to it.
use Rattle.std.proofs.Common.{◌≡◌, ◌≢◌, ℕ, Bool, true, false, cond, not, ◌&&◌, eqb, List, [], ◌∷◌, ◌++◌, Option, Some, None, option_map, ⊎_elim, refl, sym, ap, subst, ◌∙◌}
use Rattle.std.proofs.lemmas.Bool.{true≢false}
use Rattle.std.proofs.lemmas.List.Elements.{Contains-append_left, Contains-append_right}
use Rattle.std.proofs.lemmas.List.Sorted.{IsPermutation-refl}
use Rattle.std.specs.List.{AllByRecursion, Contains}
use Rattle.std.specs.Option.{unwrap_or}
use Rattle.mlb_base.specs.Items.{is_nil}
use Rattle.mlb_base.proofs.Among.{contains-first, contains-none}
use Rattle.ip_ranges.specs.Values.{AddressValue}
use Rattle.kube_model.specs.declared.key.Key.{Key}
use Rattle.kube_model.specs.declared.put.Put.{Put}
use Rattle.kube_model.specs.declared.reason.Reason.{Reason}
use Rattle.kube_model.specs.declared.record.Record.{Record}
use Rattle.kube_model.specs.declared.reply.PutReply.TheVariants.{Ok as StoredReply}
use Rattle.kube_model.specs.declared.service.Service.{Service}
use Rattle.kube_model.specs.declared.service.Wanted.{Wanted}
use Rattle.kube_model.specs.declared.service.Wanted.TheVariants.{NotAsked, Unreadable, Asked}
use Rattle.kube_model.specs.Keys.{same_key}
use Rattle.kube_model.specs.Records.{empty_record, is_assigned}
use Rattle.kube_model.specs.Service.{with_holding}
use Rattle.kube_model.proofs.KeyLaws.{same_key-is, same_key-itself}
use Rattle.sharing_terms.specs.declared.terms.Terms.{Terms}
use Rattle.sharing_terms.specs.Sharing.{MayShare}
use Rattle.sharing_terms.specs.Marked.{IsMarkOf}
use Rattle.sharing_terms.specs.Spelled.{recorded_terms}
use Rattle.sharing_terms.specs.Terms.{terms_of}
use Rattle.sharing_terms.proofs.ReadBack.{recorded-exact}
use Rattle.sharing_terms.proofs.SharingLaws.{may_share-turned}
use Rattle.claim_index.specs.Claims.{ClaimValue, Holders, claim_of, terms_under}
use Rattle.versioned_map.specs.declared.map.Versioned.{Versioned}
use Rattle.pool_config.specs.ConfigValue.{ConfigValue, IsConfig}
use Rattle.pool_config.specs.declared.compiled.CompiledAllocation.{CompiledAllocation}
use Rattle.pool_config.specs.declared.compiled.CompiledPool.{CompiledPool}
use Rattle.pool_choice.specs.Serving.{ServesBy}
use Rattle.object_history.specs.Kinds.{service_resource}
use Rattle.object_history.specs.LookBack.{last_shown, IsInForce}
use Rattle.object_history.specs.Observations.{Observation}
use Rattle.object_history.proofs.Force.{all_is_as_shown}
use Rattle.object_history.proofs.Seen.{is-last_shown}
use Rattle.choice_laws.specs.Options.{AreAsAsked, AreAsWanted, AreOfOption, CouldHave, MayStay, families_of}
use Rattle.choice_laws.proofs.Configs.{compiled-config}
use Rattle.choice_laws.proofs.Records.{kept-whole, new-could-be-had, whole-kept}
use Rattle.alloc_book.specs.declared.choice.Choice.{Choice}
use Rattle.alloc_book.specs.declared.choice.Choice.TheVariants.{Foreign, Clear, Pending, Keep, New}
use Rattle.alloc_book.specs.Asking.{asker_of}
use Rattle.alloc_book.specs.Chosen.{IsChosen}
use Rattle.core_rules.specs.Turn.{wanted_record}
use Rattle.alloc_book.proofs.BookLaws.{claim_of-is}
use Rattle.core_rules.specs.declared.turn.Turn.TheVariants.{Wants}
use Rattle.core_rules.specs.Core.{offer_at, service_of, shown_terms}
use Rattle.core_rules.specs.Take.{Effect, Shows, Drops, EndsServices, Configures, Expires, Nothing, effect_of}
use Rattle.core_rules.specs.Run.{TranscriptEntry, Took, Expired, Turned, Heard, IsRun, core_after, observed, put_out, claims_shown, claims_told, terms_shown, version_shown}
use Rattle.core_rules.proofs.ByMark.{terms_under-marked}
use Rattle.core_rules.proofs.Claims.{claims_are_shown, shown-held}
use Rattle.core_laws.specs.Claimed.{IsClaimedAs}
use Rattle.core_laws.specs.Puts.{IsRightPut, labels_shown}
use Rattle.core_laws.specs.Shared.{may_have, claim_out, has_claim, is_event, AllShowTerms, SharesRightly}
use Rattle.core_laws.proofs.Ages.{has-is, has-not}
use Rattle.core_laws.proofs.Came.{Came, came}
use Rattle.core_laws.proofs.Claimed.{chosen-foreign, services_are_claimed}
use Rattle.core_laws.proofs.Keyed.{service-key, terms-kept}
use Rattle.core_laws.proofs.Puts.{puts_are_right}
use Rattle.core_laws.proofs.Shared.{none-out, alone, assigned_by, puts_share_rightly}
use Rattle.settling_laws.specs.Staying.{AreLeft, HasThem, HasThemAlong, NoneIsShown, ShowsNone, LeftStay, PutsAreLeft, CouldStay, AddressesStay}
use Rattle.settling_laws.specs.Staying.{IsAsShown, StaysAsShown, LeavesAddresses, KeepsLeft, KeepsPut, RunsKeepAddresses}

same-put : (put other : Put) (pending p : Option Reason) → Turned (Wants put pending) ≡ Turned (Wants other p) → put ≡ other
same-put put other pending p e = cc

-- ---- a claim that came by an event
claimed_by : (b late : Bool) (service : Service) (key : Key) (before : List ClaimValue) (c : ClaimValue) → same_key service.key key ≡ b
    → Contains (cond (b && late) (claim_of service.key service.holding (shown_terms service)) before) c → ¬ (Contains before c)
    → (service.key ≡ key) × (service.holding ≡ c.holding)
claimed_by true true service key before c e there not =
    (same_key-is service.key key e, ap (λ (x : ClaimValue). x.holding) (sym (claim_of-is service.key service.holding (shown_terms service) c there).0))
claimed_by true false service key before c e there not = absurd (not there)
claimed_by false late service key before c e there not = absurd (not there)

dropped_by : (b : Bool) (before : List ClaimValue) (c : ClaimValue) → Contains (cond b [] before) c → Contains before c
dropped_by true before c there = absurd (contains-none c there)
dropped_by false before c there = there

none_shown : (about : Effect) (key own : Key) (addresses : List AddressValue) (version : ℕ) (before : List ClaimValue) (c : ClaimValue) → NoneIsShown own addresses about
    → key ≢ own → Contains (claims_told key about version before) c → ¬ (Contains before c) → (a : AddressValue) → Contains addresses a
    → Contains c.holding.addresses a → ⊥
none_shown (Shows v service) key own addresses version before c none apart there not a in_own in_c =
    let is = claimed_by (same_key service.key key) _ service key before c refl there not in
    none (λ same. apart (sym is.0 ∙ same)) a in_own (subst (λ (r : Record). Contains r.addresses a) (sym is.1) in_c)
none_shown (Drops k) key own addresses version before c none apart there not a in_own in_c = not (dropped_by (same_key k key) before c there)
none_shown EndsServices key own addresses version before c none apart there not a in_own in_c = not (dropped_by (eqb version 0) before c there)
none_shown Configures key own addresses version before c none apart there not a in_own in_c = not there
none_shown Expires key own addresses version before c none apart there not a in_own in_c = not there
none_shown Nothing key own addresses version before c none apart there not a in_own in_c = not there

-- ---- one entry more
module _ (class : Option (List ℕ)) (earlier : List TranscriptEntry) (key : Key) (terms : Terms) (addresses : List AddressValue) where
  -- by an event
  by_event : (x : TranscriptEntry) → IsRun class (x ∷ earlier) → ShowsNone key addresses x → is_event x ≡ true → (other : Key) → other ≢ key → (c : ClaimValue)
      → Contains (may_have other (x ∷ earlier)) c → ¬ (Contains (may_have other earlier) c) → (a : AddressValue) → Contains addresses a
      → Contains c.holding.addresses a → ⊥
  by_event (Took event) is none e other apart c there not a in_own in_c =
      let out : put_out earlier ≡ None = none-out class earlier is.1 is.0 in
      let now : may_have other (Took event ∷ earlier) ≡ claims_shown other (Took event ∷ earlier) = alone other (Took event ∷ earlier) out in
      none_shown (effect_of event) other key addresses (version_shown other earlier) (claims_shown other earlier) c none apart
      (subst (λ (cs : List ClaimValue). Contains cs c) now there) (λ old. not (subst (λ (cs : List ClaimValue). Contains cs c) (sym (alone other earlier out)) old))
      a in_own in_c
  by_event (Expired group) is none e other apart c there not a in_own in_c = true≢false (sym e)
  by_event (Turned turn) is none e other apart c there not a in_own in_c = true≢false (sym e)
  by_event (Heard reply) is none e other apart c there not a in_own in_c = true≢false (sym e)

  step : (x : TranscriptEntry) → IsRun class (x ∷ earlier) → AllShowTerms earlier → AreLeft earlier key terms addresses → HasThem earlier key terms addresses
      → ShowsNone key addresses x → AreLeft (x ∷ earlier) key terms addresses
  step x is all left has none other apart c there a in_own in_c = by_test (has_claim other c earlier) refl
    where
      by_test : (b : Bool) → has_claim other c earlier ≡ b → MayShare terms c.terms
      by_test true e = left other apart c (has-is other c earlier e) a in_own in_c
      by_test false e =
          let new : ¬ (Contains (may_have other earlier) c) = has-not other c earlier e in
          let came_to : Came x (terms_shown other earlier) other c = came class x earlier (none-out class earlier is.1) is other c there new in
          ⊎_elim
          (λ event. absurd (by_event x is none event other apart c there new a in_own in_c))
          (λ p.
          let run : IsRun class (Turned (Wants p.0 p.1) ∷ earlier) = subst (λ (y : TranscriptEntry). IsRun class (y ∷ earlier)) p.2 is in
          let in_put : Contains p.0.holding.addresses a = subst (λ (y : Record). Contains y.addresses a) (sym p.3.holding_is) in_c in
          let right : IsRightPut class p.0 p.1 earlier = puts_are_right class p.0 p.1 earlier run in
          let given : SharesRightly p.0 right.decision.held.object earlier = puts_share_rightly class p.0 p.1 earlier run all right in
          let shares : MayShare (terms_of right.decision.held.object) has.0.terms =
          given.shares key (λ same. apart (sym (same ∙ p.3.of_key))) has.0 has.1 a in_put (has.3 a in_own) in
          let its : terms_under p.0.holding (terms_shown other earlier) ≡ terms_of right.decision.held.object =
          terms_under-marked p.0.holding (terms_shown other earlier) (terms_of right.decision.held.object) (given.marked (assigned_by p.0.holding.addresses a in_put))
          in
          let turned : MayShare has.0.terms (terms_of right.decision.held.object) = may_share-turned (terms_of right.decision.held.object) has.0.terms shares in
          subst (λ (t : Terms). MayShare t c.terms) has.2 (subst (MayShare has.0.terms) (sym its ∙ p.3.terms_is) turned))
          came_to.by

-- what is behind a later part of a run
run-behind : (class : Option (List ℕ)) (later earlier : List TranscriptEntry) → IsRun class (later ++ earlier) → IsRun class earlier
run-behind class [] earlier is = is
run-behind class (entry ∷ later) earlier is = run-behind class later earlier is.1

terms-behind-all : (later earlier : List TranscriptEntry) → AllShowTerms (later ++ earlier) → AllShowTerms earlier
terms-behind-all [] earlier all = all
terms-behind-all (entry ∷ later) earlier all = terms-behind-all later earlier all.1

terms-behind : (entry : TranscriptEntry) (earlier : List TranscriptEntry) → AllShowTerms (entry ∷ earlier) → AllShowTerms earlier
terms-behind entry earlier all = all.1

pub left_stay : LeftStay
left_stay class [] earlier is all key terms addresses left along = left
left_stay class (entry ∷ later) earlier is all key terms addresses left along =
    step class (later ++ earlier) key terms addresses entry is all.1 (left_stay class later earlier is.1 all.1 key terms addresses left along.2) along.0 along.1

-- ---- what is put
pub puts_are_left : PutsAreLeft
puts_are_left class put pending earlier is all right other apart c there a in_put in_c =
    let given : SharesRightly put right.decision.held.object earlier = puts_share_rightly class put pending earlier is all right in
    by_test (has_claim other c earlier) refl given
  where
    by_test : (b : Bool) → has_claim other c earlier ≡ b → SharesRightly put right.decision.held.object earlier → MayShare (terms_of right.decision.held.object) c.terms
    by_test true e given = given.shares other apart c (has-is other c earlier e) a in_put in_c
    by_test false e given =
        let new : ¬ (Contains (may_have other earlier) c) = has-not other c earlier e in
        let came_to = came class (Turned (Wants put pending)) earlier (none-out class earlier is.1) is other c there new in
        absurd (⊎_elim (λ event. true≢false (sym event))
        (λ p. let same : put ≡ p.0 = same-put put p.0 pending p.1 p.2 in apart (sym (ap (λ (x : Put). x.key) same ∙ p.3.of_key)))
        came_to.by)

-- ---- what is kept
force-config : (config : ConfigValue) (observations : List Observation) → IsInForce config observations → IsConfig config
force-config config observations force =
    let shown = force.accepted.shown in
    compiled-config force.accepted.held config
    (shown.pools.ascend, shown.l2s.ascend, shown.bgps.ascend, shown.peers.ascend, shown.communities.ascend) force.accepted.accepted

pub addresses_stay : AddressesStay
addresses_stay class put pending earlier is right balancer pool could left =
    let service : Service = right.decision.held.object in
    let labels = labels_shown service.key.namespace (observed earlier) in
    let has : Holders = λ key. claims_shown key earlier in
    let out : put_out earlier ≡ None = none-out class earlier is.1 is.0.0 in
    let stay : MayStay has right.decision.config.pools labels service pool =
    record {
      is_open = could.is_open;
      fits = could.fits;
      as_asked = could.as_asked;
      usable = λ a there. record {
        in_pool = could.in_pool a there;
        not_avoided = could.not_avoided a there;
        left = λ other apart c there' in_c.
            left other apart c (subst (λ (cs : List ClaimValue). Contains cs c) (sym (alone other earlier out)) there') a there in_c;
      };
    } in
    let kept = whole-kept has right.decision.config labels class service pool
    (force-config right.decision.config (observed earlier) right.decision.in_force) stay balancer (right.own balancer) right.decision.choice
    right.decision.chosen in
    ap (λ (r : Record). r.addresses) (right.holding_is ∙ ap (wanted_record service.holding) kept.1) ∙ kept.2

-- ---- an address stays
some-is : {X : Type 0} (x y : X) → Some x ≡ Some y → x ≡ y
some-is x y e = cc

-- a service with another record could keep what it could keep with this one, where their addresses are the same
module _ (service : Service) (r : Record) where
  abbrev with : Service
  with = with_holding r service

  asked-with : (wanted : Wanted) (addresses : List AddressValue) → AreAsAsked wanted service addresses → AreAsAsked wanted with addresses
  asked-with NotAsked addresses asked = tt
  asked-with Unreadable addresses asked = asked
  asked-with (Asked named) addresses asked = asked

  serves-with : (allocation : Option CompiledAllocation) (labels : List (List ℕ × List ℕ)) → ServesBy allocation service labels → ServesBy allocation with labels
  serves-with None labels serves = tt
  serves-with (Some a) labels serves = serves

  stays-with : r.addresses ≡ service.holding.addresses → (config : ConfigValue) (labels : List (List ℕ × List ℕ)) (pool : CompiledPool)
      → CouldStay config labels service pool → CouldStay config labels with pool
  stays-with same config labels pool could = record {
    is_open = record { stands = could.is_open.stands; serves = serves-with pool.allocation labels could.is_open.serves; asked = could.is_open.asked };
    fits = subst (AreOfOption service) (sym same) could.fits;
    as_asked = asked-with service.wanted r.addresses (subst (AreAsAsked service.wanted service) (sym same) could.as_asked);
    in_pool = λ a there. could.in_pool a (subst (λ (addresses : List AddressValue). Contains addresses a) same there);
    not_avoided = λ a there. could.not_avoided a (subst (λ (addresses : List AddressValue). Contains addresses a) same there);
  }

-- under which terms a record is claimed
under : (claimed adopted : Terms) (r : Record) (found : Option Terms) → recorded_terms r.mark ≡ found → ((t : Terms) → IsMarkOf t r.mark → claimed ≡ t)
    → (((t : Terms) → ¬ (IsMarkOf t r.mark)) → claimed ≡ adopted) → claimed ≡ unwrap_or found adopted
under claimed adopted r None is marked adopts = adopts (λ t mark. let no : None ≡ Some t = sym is ∙ (recorded-exact r.mark t).1 mark in absurd (cc))
under claimed adopted r (Some t) is marked adopts = marked t ((recorded-exact r.mark t).0 is)

module _ (class : Option (List ℕ)) (config : ConfigValue) (labels : List (List ℕ × List ℕ)) (service : Service) (pool : CompiledPool)
    (balancer : service.balancer ≡ true) (assigned : is_assigned service.holding ≡ true) (could : CouldStay config labels service pool)
  where
    abbrev addresses : List AddressValue
    addresses = service.holding.addresses

    -- the service has them while it is held so
    has-them : (run : List TranscriptEntry) → IsRun class run → IsAsShown config labels service run → HasThem run service.key (terms_of service) addresses
    has-them run is is_so =
        let object : Service = is_so.held.object in
        let found : service_of (core_after class run).held service.key ≡ Some object =
        ap (option_map (λ (h : Versioned Service). h.object))
        (shown-held class run is service.key ∙ is-last_shown service_resource service.key (observed run) is_so.held is_so.shown) in
        let claimed : IsClaimedAs (core_after class run).claims service.key object =
        services_are_claimed class run is service.key object found (ap (λ (l : List AddressValue). not (is_nil l)) is_so.addresses ∙ assigned) in
        let there : Contains (claims_shown service.key run) claimed.claim =
        subst (λ (cs : List ClaimValue). Contains cs claimed.claim) (claims_are_shown class run is service.key) claimed.stands in
        let terms : claimed.claim.terms ≡ terms_of service =
        under claimed.claim.terms (terms_of object) object.holding (recorded_terms object.holding.mark) refl claimed.marked claimed.adopted ∙ is_so.terms in
        let more : List ClaimValue = claim_out service.key (put_out run) (terms_shown service.key run) in
        let all : claimed.claim.holding.addresses ≡ addresses = ap (λ (r : Record). r.addresses) claimed.with_record ∙ is_so.addresses in (
          claimed.claim,
          Contains-append_left (claims_shown service.key run) more claimed.claim there,
          terms,
          λ a in_own. subst (λ (l : List AddressValue). Contains l a) (sym all) in_own,
        )

    along : (later earlier : List TranscriptEntry) → IsRun class (later ++ earlier) → StaysAsShown config labels service later earlier
        → HasThemAlong later earlier service.key (terms_of service) addresses
    along [] earlier is stays = tt
    along (entry ∷ later) earlier is stays = (has-them (later ++ earlier) is.1 stays.0, stays.1, along later earlier is.1 stays.2)

    -- a put leaves them
    leaves : (put : Put) (pending : Option Reason) (run : List TranscriptEntry) → IsRun class (Turned (Wants put pending) ∷ run)
        → IsAsShown config labels service run → AreLeft run service.key (terms_of service) addresses → put.key ≡ service.key
        → put.holding.addresses ≡ addresses
    leaves put pending run is is_so left own =
        let right : IsRightPut class put pending run = puts_are_right class put pending run is in
        let held : right.decision.held ≡ is_so.held =
        some-is right.decision.held is_so.held
        (sym (is-last_shown service_resource put.key (observed run) right.decision.held right.decision.shown)
        ∙ ap (λ (k : Key). last_shown service_resource k (observed run)) own
        ∙ is-last_shown service_resource service.key (observed run) is_so.held is_so.shown) in
        let object : right.decision.held.object ≡ with_holding is_so.held.object.holding service = ap (λ (h : Versioned Service). h.object) held ∙ is_so.same in
        let in_force : right.decision.config ≡ config =
        some-is right.decision.config config
        (sym (((all_is_as_shown (observed run)).config right.decision.config).1 right.decision.in_force)
        ∙ ((all_is_as_shown (observed run)).config config).1 is_so.in_force) in
        let with : Service = with_holding is_so.held.object.holding service in
        let stay : CouldStay right.decision.config (labels_shown right.decision.held.object.key.namespace (observed run)) right.decision.held.object pool =
        subst (λ (x : Service). CouldStay right.decision.config (labels_shown x.key.namespace (observed run)) x pool) (sym object)
        (subst (λ (c : ConfigValue). CouldStay c (labels_shown service.key.namespace (observed run)) with pool) (sym in_force)
        (subst (λ (l : List (List ℕ × List ℕ)). CouldStay config l with pool) (sym is_so.labels_are)
        (stays-with service is_so.held.object.holding is_so.addresses config labels pool could))) in
        let left_to : AreLeft run right.decision.held.object.key (terms_of right.decision.held.object) right.decision.held.object.holding.addresses =
        subst (λ (x : Service). AreLeft run x.key (terms_of x) x.holding.addresses) (sym object)
        (subst (λ (t : Terms). AreLeft run service.key t with.holding.addresses) (sym (terms-kept service is_so.held.object.holding))
        (subst (λ (l : List AddressValue). AreLeft run service.key (terms_of service) l) (sym is_so.addresses) left)) in
        let balances : right.decision.held.object.balancer ≡ true = ap (λ (x : Service). x.balancer) object ∙ balancer in
        addresses_stay class put pending run is right balances pool stay left_to
        ∙ ap (λ (x : Service). x.holding.addresses) object ∙ is_so.addresses

    leave-all : (later earlier : List TranscriptEntry) → IsRun class (later ++ earlier) → AllShowTerms (later ++ earlier)
        → AreLeft earlier service.key (terms_of service) addresses → StaysAsShown config labels service later earlier
        → AllByRecursion (LeavesAddresses service) later
    leave-all [] earlier is all left stays = tt
    leave-all (entry ∷ later) earlier is all left stays =
        let now : AreLeft (later ++ earlier) service.key (terms_of service) addresses =
        left_stay class later earlier is.1 all.1 service.key (terms_of service) addresses left (along later earlier is.1 stays.2) in (
          λ put pending e own.
              leaves put pending (later ++ earlier) (subst (λ (x : TranscriptEntry). IsRun class (x ∷ later ++ earlier)) e is) stays.0 now own,
          leave-all later earlier is.1 all.1 left stays.2,
        )

keeps_left : (class : Option (List ℕ)) (run : List TranscriptEntry) → IsRun class run → AllShowTerms run → KeepsLeft run
keeps_left class run is all config labels service pool later earlier split balancer assigned could left stays =
    let is' : IsRun class (later ++ earlier) = subst (IsRun class) split is in
    let all' : AllShowTerms (later ++ earlier) = subst AllShowTerms split all in (
      leave-all class config labels service pool balancer assigned could later earlier is' all' left stays,
      subst (λ (r : List TranscriptEntry). AreLeft r service.key (terms_of service) service.holding.addresses) (sym split)
          (left_stay class later earlier is' all' service.key (terms_of service) service.holding.addresses left
          (along class config labels service pool balancer assigned could later earlier is' stays)),
    )

-- ---- what was put could be kept
module _ (has : Holders) (config : ConfigValue) (labels : List (List ℕ × List ℕ)) (service : Service) (r : Record) (pool : CompiledPool) where
  asked-had : (wanted : Wanted) (addresses : List AddressValue) → AreAsWanted wanted service pool addresses → AreAsAsked wanted service addresses
  asked-had NotAsked _ had = tt
  asked-had Unreadable _ had = had
  asked-had (Asked named) given had =
      (had.1, (λ a there. subst (λ (l : List AddressValue). Contains l a) had.0 there, λ a there. subst (λ (l : List AddressValue). Contains l a) (sym had.0) there))

  fits-had : (wanted : Wanted) (addresses : List AddressValue) → AreAsWanted wanted service pool addresses → AreOfOption service addresses
  fits-had NotAsked given had = (families_of given, had.0, IsPermutation-refl (families_of given))
  fits-had Unreadable _ had = absurd had
  fits-had (Asked named) _ had = subst (AreOfOption service) (sym had.0) had.1

  had-stays : CouldHave has config.pools labels service pool r.addresses → CouldStay config labels (with_holding r service) pool
  had-stays had = record {
    is_open = record {
      stands = had.is_open.stands;
      serves = serves-with service r pool.allocation labels had.is_open.serves;
      asked = had.is_open.asked;
    };
    fits = fits-had service.wanted r.addresses had.wanted;
    as_asked = asked-with service r service.wanted r.addresses (asked-had service.wanted r.addresses had.wanted);
    in_pool = λ a there. (had.usable a there).in_pool;
    not_avoided = λ a there. (had.usable a there).not_avoided;
  }

  kept-stays : r.addresses ≡ service.holding.addresses → MayStay has config.pools labels service pool → CouldStay config labels (with_holding r service) pool
  kept-stays same may =
      stays-with service r same config labels pool
      (record {
        is_open = may.is_open;
        fits = may.fits;
        as_asked = may.as_asked;
        in_pool = λ a there. (may.usable a there).in_pool;
        not_avoided = λ a there. (may.usable a there).not_avoided;
      })

none-assigned : (r : Record) → is_assigned r ≡ true → r ≡ empty_record → ⊥
none-assigned r assigned e = let none : is_assigned empty_record ≡ false = refl in true≢false (sym assigned ∙ ap is_assigned e ∙ none)

module _ (class : Option (List ℕ)) (put : Put) (pending : Option Reason) (before : List TranscriptEntry)
    (is : IsRun class (Turned (Wants put pending) ∷ before)) (right : IsRightPut class put pending before) (assigned : is_assigned put.holding ≡ true)
  where
    abbrev object : Service
    object = right.decision.held.object

    abbrev shown : List (List ℕ × List ℕ)
    shown = labels_shown object.key.namespace (observed before)

    abbrev had-by : Holders
    had-by = λ key. claims_shown key before

    could-by : (c : Choice) → IsChosen had-by (offer_at right.decision.config.pools shown object) class object c → put.holding ≡ wanted_record object.holding c
        → (pool : CompiledPool) × CouldStay right.decision.config shown (with_holding put.holding object) pool
    could-by Foreign chosen e =
        let foreign = chosen-foreign had-by (offer_at right.decision.config.pools shown object) (asker_of object) Foreign refl class object chosen in
        absurd (foreign.1 (right.own foreign.0))
    could-by Clear chosen e = absurd (none-assigned put.holding assigned e)
    could-by (Pending reason) chosen e = absurd (none-assigned put.holding assigned e)
    could-by (Keep r) chosen e =
        let kept = kept-whole had-by right.decision.config shown class object r chosen in (
          kept.1.0,
          subst (λ (x : Record). CouldStay right.decision.config shown (with_holding x object) kept.1.0) (sym e)
              (kept-stays had-by right.decision.config shown object r kept.1.0 kept.0 kept.1.1),
        )
    could-by (New r) chosen e =
        let had = new-could-be-had had-by right.decision.config shown class object r
        (force-config right.decision.config (observed before) right.decision.in_force) chosen in (
          had.0,
          subst (λ (x : Record). CouldStay right.decision.config shown (with_holding x object) had.0) (sym e)
              (had-stays had-by right.decision.config shown object r had.0 had.1),
        )

    pub could-stay : (pool : CompiledPool) × CouldStay right.decision.config shown (with_holding put.holding object) pool
    could-stay = could-by right.decision.choice right.decision.chosen right.holding_is

-- the service that is decided for is held under its own key
own-key : (class : Option (List ℕ)) (put : Put) (pending : Option Reason) (before : List TranscriptEntry) → IsRun class before
    → (right : IsRightPut class put pending before) → right.decision.held.object.key ≡ put.key
own-key class put pending before is right =
    service-key class before is put.key right.decision.held.object
    (ap (option_map (λ (h : Versioned Service). h.object))
    (shown-held class before is put.key ∙ is-last_shown service_resource put.key (observed before) right.decision.held right.decision.shown))

-- while it is written the service has what is put
put-has : (put : Put) (pending : Option Reason) (before : List TranscriptEntry) (terms : Terms) → put_out before ≡ None → IsMarkOf terms put.holding.mark
    → is_assigned put.holding ≡ true → HasThem (Turned (Wants put pending) ∷ before) put.key terms put.holding.addresses
put-has put pending before terms none mark assigned =
    let adopted : Terms = terms_shown put.key before in
    let claim : ClaimValue = record { key = put.key; holding = put.holding; terms = terms_under put.holding adopted } in
    let out : claim_out put.key (Some put) adopted ≡ claim ∷ [] =
    ap (λ (b : Bool). cond b (claim_of put.key put.holding (terms_under put.holding adopted)) []) (same_key-itself put.key)
    ∙ ap (λ (b : Bool). cond b (claim ∷ []) []) assigned in (
      claim,
      Contains-append_right (claims_shown put.key before) (claim_out put.key (Some put) adopted) claim
          (subst (λ (cs : List ClaimValue). Contains cs claim) (sym out) (contains-first claim [])),
      terms_under-marked put.holding adopted terms mark,
      λ a there. there,
    )

keeps_put : (class : Option (List ℕ)) (run : List TranscriptEntry) → IsRun class run → AllShowTerms run → KeepsPut class run
keeps_put class run is all put pending version later before split right balancer assigned stays =
    let turn : List TranscriptEntry = Turned (Wants put pending) ∷ before in
    let earlier : List TranscriptEntry = Heard (StoredReply version) ∷ turn in
    let service : Service = with_holding put.holding right.decision.held.object in
    let is' : IsRun class (later ++ earlier) = subst (IsRun class) split is in
    let all' : AllShowTerms (later ++ earlier) = subst AllShowTerms split all in
    let heard : IsRun class earlier = run-behind class later earlier is' in
    let terms' : AllShowTerms earlier = terms-behind-all later earlier all' in
    let own : right.decision.held.object.key ≡ put.key = own-key class put pending before heard.1.1 right in
    let terms : Terms = terms_of right.decision.held.object in
    let given : SharesRightly put right.decision.held.object before = puts_share_rightly class put pending before heard.1 terms'.1.1 right in
    let first : AreLeft turn put.key terms put.holding.addresses = puts_are_left class put pending before heard.1 terms'.1.1 right in
    let has : HasThem turn put.key terms put.holding.addresses =
    put-has put pending before terms (none-out class before heard.1.1 heard.1.0.0) (given.marked assigned) assigned in
    let then : AreLeft earlier put.key terms put.holding.addresses =
    left_stay class (Heard (StoredReply version) ∷ []) turn heard terms' put.key terms put.holding.addresses first (has, tt, tt) in
    let left : AreLeft earlier service.key (terms_of service) service.holding.addresses =
    subst (λ (t : Terms). AreLeft earlier service.key t put.holding.addresses) (sym (terms-kept right.decision.held.object put.holding))
    (subst (λ (k : Key). AreLeft earlier k terms put.holding.addresses) (sym own) then) in
    let could = could-stay class put pending before heard.1 right assigned in
    keeps_left class run is all right.decision.config (labels_shown service.key.namespace (observed before)) service could.0 later earlier split balancer assigned
    could.1 left stays

pub runs_keep_addresses : RunsKeepAddresses
runs_keep_addresses class run is all = record { left = keeps_left class run is all; put = keeps_put class run is all }
