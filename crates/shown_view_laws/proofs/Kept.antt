-- Every event that a line is read as keeps the numbers of a view such as their fields hold.
use Rattle.std.specs.Prelude.{nat_le, option_and_then}
use Rattle.std.proofs.Common.{◌≡◌, ◌<◌, ◌≤◌, ◌^◌, ℕ, Bool, true, false, cond, not, List, [], ◌∷◌, map, filter, Option, Some, None}
use Rattle.std.proofs.Common.{Result, Ok, Err, IfSome, Ordering, Less, Equal, Greater, inl, inr, refl, sym, ap, subst, arith}
use Rattle.std.specs.Ordering.{match_ordering, nat_cmp}
use Rattle.std.specs.List.{AllByRecursion, filter_map}
use Rattle.std.specs.List.Sorted.{IsStrictlySortedBy}
use Rattle.std.specs.Map.{keys_of, remove_entry}
use Rattle.std.specs.BTreeMap.{insert_entry, is_at}
use Rattle.std.proofs.lemmas.Bool.{cond_both}
use Rattle.std.proofs.lemmas.Cmp.{nat_cmp_total}
use Rattle.std.proofs.lemmas.Map.Lookups.{CmpEqualImpliesEq, exact_unsigned}
use Rattle.std.specs.Cmp.{IsTotalOrder}
use Rattle.kube_labels.specs.Names.{name_cmp}
use Rattle.kube_labels.proofs.NameLaws.{name_cmp-total}
use Rattle.kube_model.specs.declared.bgp.BgpAdv.{BgpAdv}
use Rattle.kube_model.specs.declared.community.CommunityList.{CommunityList}
use Rattle.kube_model.specs.declared.peer.BgpPeer.{BgpPeer}
use Rattle.kube_model.specs.declared.event.Event.{Event}
use Rattle.kube_model.specs.declared.event.Event.TheVariants.{Changed, Deleted, ListEnd, Expired, Members, Frame, Ignored}
use Rattle.kube_model.specs.declared.object.Object.{Object}
use Rattle.kube_model.specs.declared.object.Object.TheVariants as objects
use Rattle.kube_model.specs.declared.service.Service.{Service}
use Rattle.line_event_laws.specs.Numbers.{HasNumbers, ShowsNumbers, HasRouteNumbers, HasAsn}
use Rattle.line_event_laws.proofs.Shown.{lines_show_numbers}
use Rattle.bgp_reading.specs.Update.{IsLarge}
use Rattle.large_numbers.specs.declared.numbers.LargeCommunity.{LargeCommunity}
use Rattle.versioned_map.specs.declared.map.Versioned.{Versioned}
use Rattle.versioned_map.specs.Objects.{shown, version_at, expired, listed, is_listed}
use Rattle.pool_config.specs.Compile.{compiled}
use Rattle.pool_config.specs.ConfigValue.{ConfigValue}
use Rattle.pool_config.specs.declared.compiled.CompiledBgp.{CompiledBgp}
use Rattle.pool_config.specs.declared.compiled.CompiledPeer.{CompiledPeer}
use Rattle.pool_config.specs.declared.object_set.ObjectSet.{ObjectSet}
use Rattle.pool_config.specs.KeySets.{keys_with}
use Rattle.pool_config.specs.Large.{IsLargeText, large_of}
use Rattle.pool_config.specs.Lists.{named_value, number_in, large_in, compiled_bgp, compiled_peer, lists_of}
use Rattle.pool_config.specs.Numbers.{has_colon, number_of, IsNumberText}
use Rattle.pool_config.specs.Objects.{named, objects_of as objects_in}
use Rattle.pool_config.proofs.CommunitySets.{large_cmp-exact, large_cmp-total}
use Rattle.pool_config.proofs.FirstFault.{accepted_is}
use Rattle.pool_config.proofs.ItemLaws.{in_list, in_filter_map}
use Rattle.pool_config.proofs.KeySets.{in_keys}
use Rattle.pool_config.proofs.LargeTexts.{large_texts_are_read}
use Rattle.pool_config.proofs.NumberTexts.{numbers_are_read}
use Rattle.object_history.specs.Cache.{held_after_event, shown_in, deleted_in, compiles, in_force, objects_after}
use Rattle.object_history.specs.Kinds.{Resource, service_resource, bgp_resource, peer_resource, show_service, show_bgp, show_peer}
use Rattle.object_history.specs.Observations.{Watched, same_group}
use Rattle.object_history.proofs.Held.{ascending-held_after}
use Rattle.speaker_view.specs.Held.{objects_of}
use Rattle.speaker_view.specs.ViewValue.{ViewValue}
use Rattle.speaker_view.specs.View.{fresh, view_after, view_of}
use Rattle.bgp_routes.proofs.Few.{all-from, each-of}
use Rattle.shown_view_laws.proofs.InForce.{kept-force}
use Rattle.shown_view_laws.specs.Numbered.{HasFittingAddresses, HasCompiledNumbers, HasCompiledAsn, IsNumberedConfig, IsNumbered, IsRead, ShownViewsAreNumbered}

-- ---- what is held of a kind

module _ {K T : Type 0} (P : T → Type 0) where
  -- so is each object
  abbrev All : List (K × Versioned T) → Type 0
  All entries = AllByRecursion P (objects_of entries)

  inserted_by : (r : Ordering) (k : K) (h : Versioned T) (e : K × Versioned T) (es more : List (K × Versioned T)) → P h.object → All (e ∷ es) → All more
      → All (match_ordering r ((k, h) ∷ e ∷ es) ((e.0, h) ∷ es) (e ∷ more))
  inserted_by Less k h e es more own all rest = (own, all)
  inserted_by Equal k h e es more own all rest = (own, all.1)
  inserted_by Greater k h e es more own all rest = (all.0, rest)

  all-inserted : (cmp : K → K → Ordering) (es : List (K × Versioned T)) (k : K) (h : Versioned T) → P h.object → All es → All (insert_entry cmp es k h)
  all-inserted cmp [] k h own all = (own, tt)
  all-inserted cmp (e ∷ es) k h own all = inserted_by (cmp k e.0) k h e es (insert_entry cmp es k h) own all (all-inserted cmp es k h own all.1)

  all-removed : (test : K → Bool) (es : List (K × Versioned T)) → All es → All (remove_entry test es)
  all-removed test [] all = tt
  all-removed test (e ∷ es) all = cond_both (test e.0) es (e ∷ remove_entry test es) All (λ _. all.1) (λ _. (all.0, all-removed test es all.1))

  all-listed : (es : List (K × Versioned T)) → All es → All (listed es)
  all-listed [] all = tt
  all-listed (e ∷ es) all = cond_both (is_listed e) (e ∷ listed es) (listed es) All (λ _. (all.0, all-listed es all.1)) (λ _. all-listed es all.1)

  all-expired : (es : List (K × Versioned T)) → All es → All (expired es)
  all-expired [] all = tt
  all-expired (e ∷ es) all = (all.0, all-expired es all.1)

  module _ (resource : Resource K T) where
    all-shown : (p : Option (K × T)) (version : ℕ) (es : List (K × Versioned T)) → IfSome p (λ q. P q.1) → All es → All (shown_in resource p version es)
    all-shown None version es own all = all
    all-shown (Some p) version es own all =
        cond_both (nat_le version (version_at resource.cmp es p.0)) es (insert_entry resource.cmp es p.0 (record { version = version; object = p.1 })) All
        (λ _. all) (λ _. all-inserted resource.cmp es p.0 (record { version = version; object = p.1 }) own all)

    all-deleted : (k : Option K) (es : List (K × Versioned T)) → All es → All (deleted_in resource k es)
    all-deleted None es all = all
    all-deleted (Some k) es all = all-removed (is_at (resource.cmp k)) es all

    -- the object that the event shows, if it is of the kind, is such
    abbrev ShowsSuch : Event → Type 0
    ShowsSuch (Changed version object) = IfSome (resource.shown object) (λ q. P q.1)
    ShowsSuch (Deleted kind key) = Unit {0}
    ShowsSuch (ListEnd group) = Unit {0}
    ShowsSuch Expired = Unit {0}
    ShowsSuch (Members names) = Unit {0}
    ShowsSuch (Frame interface bytes) = Unit {0}
    ShowsSuch Ignored = Unit {0}

    all-held_after : (event : Event) (es : List (K × Versioned T)) → ShowsSuch event → All es → All (held_after_event resource event es)
    all-held_after (Changed version object) es own all = all-shown (resource.shown object) version es own all
    all-held_after (Deleted kind key) es own all = all-deleted (resource.deleted kind key) es all
    all-held_after (ListEnd group) es own all = cond_both (same_group group resource.group) (listed es) es All (λ _. all-listed es all) (λ _. all)
    all-held_after Expired es own all = all-expired es all
    all-held_after (Members names) es own all = all
    all-held_after (Frame interface bytes) es own all = all
    all-held_after Ignored es own all = all

-- ---- what events show of three kinds

object-service : (object : Object) → HasNumbers object → IfSome (show_service object) (λ q. HasFittingAddresses q.1)
object-service (objects.Service service) h = h
object-service (objects.Pool pool) h = tt
object-service (objects.L2 adv) h = tt
object-service (objects.Bgp adv) h = tt
object-service (objects.Peer peer) h = tt
object-service (objects.Community community) h = tt
object-service (objects.Namespace namespace) h = tt
object-service (objects.Node node) h = tt
object-service (objects.Slice slice) h = tt

object-bgp : (object : Object) → HasNumbers object → IfSome (show_bgp object) (λ q. HasRouteNumbers q.1)
object-bgp (objects.Bgp adv) h = h
object-bgp (objects.Service service) h = tt
object-bgp (objects.Pool pool) h = tt
object-bgp (objects.L2 adv) h = tt
object-bgp (objects.Peer peer) h = tt
object-bgp (objects.Community community) h = tt
object-bgp (objects.Namespace namespace) h = tt
object-bgp (objects.Node node) h = tt
object-bgp (objects.Slice slice) h = tt

object-peer : (object : Object) → HasNumbers object → IfSome (show_peer object) (λ q. HasAsn q.1)
object-peer (objects.Peer peer) h = h
object-peer (objects.Service service) h = tt
object-peer (objects.Pool pool) h = tt
object-peer (objects.L2 adv) h = tt
object-peer (objects.Bgp adv) h = tt
object-peer (objects.Community community) h = tt
object-peer (objects.Namespace namespace) h = tt
object-peer (objects.Node node) h = tt
object-peer (objects.Slice slice) h = tt

shows-by : {K T : Type 0} (P : T → Type 0) (resource : Resource K T)
    (each : (object : Object) → HasNumbers object → IfSome (resource.shown object) (λ q. P q.1)) (event : Event) → ShowsNumbers event
    → ShowsSuch P resource event
shows-by P resource each (Changed version object) h = each object h
shows-by P resource each (Deleted kind key) h = tt
shows-by P resource each (ListEnd group) h = tt
shows-by P resource each Expired h = tt
shows-by P resource each (Members names) h = tt
shows-by P resource each (Frame interface bytes) h = tt
shows-by P resource each Ignored h = tt

-- ---- what is compiled

module _ (communities : List (List ℕ × CommunityList)) where
  text-small : (text : List ℕ) (n : ℕ) → IsNumberText text n → n < 2 ^ 32
  text-small text n (a, b, small_a, small_b, spelled, is) = omega (arith, small_a, small_b, is)

  read-small : (text : List ℕ) (n : ℕ) → number_of text ≡ Some n → n < 2 ^ 32
  read-small text n e = text-small text n ((numbers_are_read text n).0 e)

  value-small : (value : Option (List ℕ)) (n : ℕ) → option_and_then number_of value ≡ Some n → n < 2 ^ 32
  value-small None n e = absurd (cc)
  value-small (Some text) n e = read-small text n e

  number-small : (text : List ℕ) (n : ℕ) → number_in communities text ≡ Some n → n < 2 ^ 32
  number-small text n e = by_colon (has_colon text) e where
    by_colon : (b : Bool) → cond b (number_of text) (option_and_then number_of (named_value communities text)) ≡ Some n → n < 2 ^ 32
    by_colon true f = read-small text n f
    by_colon false f = value-small (named_value communities text) n f

  -- what is read of one of the texts holds of each that is listed
  among-all : {K : Type 0} {R : K → K → Ordering} (o : IsTotalOrder R) (exact : CmpEqualImpliesEq R) (P : K → Type 0) (read : List ℕ → Option K)
      → ((text : List ℕ) (k : K) → read text ≡ Some k → P k) → (texts : List (List ℕ)) → AllByRecursion P (keys_with R [] (filter_map read texts))
  among-all {K} {R} o exact P read each texts =
      all-from P (keys_with R [] (filter_map read texts)) (λ k there. elim (in_keys o exact [] (filter_map read texts) k there) [
        | inl none ↦ absurd none
        | inr among ↦
            let (i, text, at, e) = in_list (λ x. read x ≡ Some k) texts (in_filter_map read texts k among) in
            each text k e
      ])

  large-by : (text : List ℕ) (c : LargeCommunity) → IsLargeText text c → IsLarge c
  large-by text c is = record { global = is.global; first = is.first; second = is.second }

  large-read : (text : List ℕ) (c : LargeCommunity) → large_of text ≡ Some c → IsLarge c
  large-read text c e = large-by text c ((large_texts_are_read text c).0 e)

  named-large : (value : Option (List ℕ)) (c : LargeCommunity) → option_and_then large_of value ≡ Some c → IsLarge c
  named-large None c e = absurd (cc)
  named-large (Some text) c e = large-read text c e

  large-fits : (text : List ℕ) (c : LargeCommunity) → large_in communities text ≡ Some c → IsLarge c
  large-fits text c e = by_colon (has_colon text) e where
    by_colon : (b : Bool) → cond b (large_of text) (option_and_then large_of (named_value communities text)) ≡ Some c → IsLarge c
    by_colon true f = large-read text c f
    by_colon false f = named-large (named_value communities text) c f

  compiled-numbers : (entries : List (List ℕ × Versioned BgpAdv)) → AllByRecursion HasRouteNumbers (objects_of entries)
      → AllByRecursion HasCompiledNumbers (map (compiled_bgp communities) (named entries))
  compiled-numbers [] all = tt
  compiled-numbers (e ∷ entries) all = (
    record {
      length = all.0.length;
      length_v6 = all.0.length_v6;
      local_pref = all.0.local_pref;
      communities = among-all nat_cmp_total exact_unsigned (λ n. n < 2 ^ 32) (number_in communities) number-small e.1.object.communities;
      large = among-all large_cmp-total large_cmp-exact IsLarge (large_in communities) large-fits e.1.object.communities;
    },
    compiled-numbers entries all.1,
  )

compiled-asns : (entries : List (List ℕ × Versioned BgpPeer)) → AllByRecursion HasAsn (objects_of entries)
    → AllByRecursion HasCompiledAsn (map compiled_peer (named entries))
compiled-asns [] all = tt
compiled-asns (e ∷ entries) all = (all.0, compiled-asns entries all.1)

compiled-names : (entries : List (List ℕ × Versioned BgpPeer)) → map (λ (p : CompiledPeer). p.name) (map compiled_peer (named entries)) ≡ keys_of entries
compiled-names [] = refl
compiled-names (e ∷ entries) = ap (λ names. e.0 ∷ names) (compiled-names entries)

compiled-numbered : (s : ObjectSet) → AllByRecursion HasRouteNumbers (objects_of s.bgps) → AllByRecursion HasAsn (objects_of s.peers)
    → IsStrictlySortedBy name_cmp (keys_of s.peers)
    → (c : ConfigValue) → compiled s ≡ Ok c → IsNumberedConfig c
compiled-numbered s bgps peers names c e =
    let is : c ≡ lists_of (objects_in s) = ((accepted_is s c).0 e).1 in
    subst IsNumberedConfig (sym is) (record {
      bgp = compiled-numbers (objects_in s).communities s.bgps bgps;
      peers = compiled-asns s.peers peers;
      names = subst (IsStrictlySortedBy name_cmp) (sym (compiled-names s.peers)) names;
    })

-- ---- views

none-sorted : IsStrictlySortedBy name_cmp []
unfolding IsStrictlySortedBy
none-sorted = tt

pub fresh-numbered : (class : Option (List ℕ)) → IsNumbered (fresh class)
fresh-numbered class =
    record { services = tt; advertisements = tt; peers = tt; names = none-sorted; config = λ c e. absurd (let none : None ≡ Some c = e in cc) }

pub after-numbered : (event : Event) (v : ViewValue) → ShowsNumbers event → IsNumbered v → IsNumbered (view_after event v)
after-numbered event v shows is =
    let after = objects_after (Watched event) v.held.objects in
    let bgps : AllByRecursion HasRouteNumbers (objects_of after.bgps) = all-held_after HasRouteNumbers bgp_resource event v.held.objects.bgps
    (shows-by HasRouteNumbers bgp_resource object-bgp event shows) is.advertisements in
    let peers : AllByRecursion HasAsn (objects_of after.peers) =
    all-held_after HasAsn peer_resource event v.held.objects.peers (shows-by HasAsn peer_resource object-peer event shows) is.peers in
    let names : IsStrictlySortedBy name_cmp (keys_of after.peers) =
    ascending-held_after peer_resource name_cmp-total (Watched event) v.held.objects.peers is.names in
    record {
      services = all-held_after HasFittingAddresses service_resource event v.held.services
          (shows-by HasFittingAddresses service_resource object-service event shows) is.services;
      advertisements = bgps;
      peers = peers;
      names = names;
      config = kept-force IsNumberedConfig (compiles v.held.objects v.held.config_ended (Watched event)) after v.held.config
          (compiled-numbered after bgps peers names) is.config;
    }

pub read-numbered : (event : Event) (v : ViewValue) → IsRead event → IsNumbered v → IsNumbered (view_after event v)
read-numbered event v (line, e) is = after-numbered event v (lines_show_numbers line event e) is

pub shown_views_are_numbered : ShownViewsAreNumbered
shown_views_are_numbered class [] all = fresh-numbered class
shown_views_are_numbered class (event ∷ earlier) all = read-numbered event (view_of class earlier) all.0 (shown_views_are_numbered class earlier all.1)
