-- A store is safe exactly where no two services clash.
use Rattle.std.proofs.Common.{◌≡◌, Bool, true, false, refl, sym, ◌∙◌}
use Rattle.std.proofs.lemmas.Bool.{true≢false}
use Rattle.kube_model.specs.declared.key.Key.{Key}
use Rattle.sharing_terms.specs.declared.terms.Terms.{Terms}
use Rattle.sharing_terms.specs.Sharing.{MayShare, may_share}
use Rattle.sharing_terms.proofs.SharingLaws.{may_share-is, may_share-from}
use Rattle.status_store.specs.Changes.{StoreValue}
use Rattle.world_rules.specs.Clash.{Clash, SafeWithoutClash}
use Rattle.world_rules.specs.Safe.{IsSafe}

shares_by : (b : Bool) (t u : Terms) → may_share t u ≡ b → (¬ (MayShare t u) → ⊥) → MayShare t u
shares_by true t u e clash = may_share-is t u e
shares_by false t u e clash = absurd (clash (λ shares. true≢false (sym (may_share-from t u shares) ∙ e)))

none : (store : StoreValue) → IsSafe store → (first second : Key) → ¬ (Clash store first second)
none store safe first second c =
    c.unshared (safe first second c.apart c.r c.q c.recorded c.recorded_too c.address c.there c.there_too c.terms c.others c.marked c.marked_too)

safe : (store : StoreValue) → ((first second : Key) → ¬ (Clash store first second)) → IsSafe store
safe store clash key other apart r q is is' a there there' t u marked marked' =
    shares_by (may_share t u) t u refl (λ unshared.
    clash key other (record {
      apart = apart;
      r = r;
      q = q;
      recorded = is;
      recorded_too = is';
      address = a;
      there = there;
      there_too = there';
      terms = t;
      others = u;
      marked = marked;
      marked_too = marked';
      unshared = unshared;
    }))

pub safe_without_clash : SafeWithoutClash
safe_without_clash store = (none store, safe store)
