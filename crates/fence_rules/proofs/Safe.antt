-- However many controllers there are, the store stays safe.
use Rattle.std.proofs.Common.{◌≡◌, ℕ, List, [], ◌∷◌, Option, None, inl, ⊎_elim, refl, arith}
use Rattle.std.specs.List.{Contains}
use Rattle.mlb_base.proofs.Among.{contains-none}
use Rattle.status_store.specs.Changes.{StoreValue}
use Rattle.world_rules.specs.Good.{IsGoodStore}
use Rattle.world_rules.proofs.Landing.{none-expected}
use Rattle.fence_rules.specs.Cluster.{Cluster, Free, Sent, Carried, Happening, Edits, Carries, Changes, Gives, Reads, Asks, Starts, Does, Sends, Hears, GivesUp}
use Rattle.fence_rules.specs.Cluster.{ClustersAreSafe, IsSafeThroughout, MayAllHappen, after, first_bridge, first_cluster, first_lease}
use Rattle.fence_rules.specs.Fenced.{IsFenced, IsKept, IsOut, HappeningsKeepFenced}
use Rattle.fence_rules.proofs.Sending.{sends, changes, edits, carries}
use Rattle.fence_rules.proofs.Steps.{store-of, gives, reads, asks, starts, does, hears, gives-up}

pub happenings_keep_fenced : HappeningsKeepFenced
happenings_keep_fenced (Edits move) c may f = edits c f move may.0 may.1
happenings_keep_fenced (Carries by put) c may f = carries c f by put may.0 may.1
happenings_keep_fenced (Changes by ask version) c may f = changes c f by ask version may.0 may.1 may.2
happenings_keep_fenced (Gives i) c may f = gives c f i
happenings_keep_fenced (Reads i) c may f = reads c f i
happenings_keep_fenced (Asks i named) c may f = asks c f i named may
happenings_keep_fenced (Starts i list) c may f = starts c f i list may
happenings_keep_fenced (Does i move) c may f = does c f i move may
happenings_keep_fenced (Sends i put) c may f = sends c f i put may
happenings_keep_fenced (Hears i version) c may f = hears c f i version may
happenings_keep_fenced (GivesUp i put) c may f = gives-up c f i put may

first-kept : (store : StoreValue) (j : ℕ) → IsKept store first_lease 0 j first_bridge
first-kept store j = record {
  seen = record { past = omega arith; same = λ e. refl; own = λ quiet mine. refl; may_send = λ up quiet mine. absurd (up refl) };
  given = record { past = omega arith; same = λ e. refl; own = λ quiet mine. refl; may_send = λ up quiet mine. absurd (up refl) };
  below = omega arith;
  single = λ up at. absurd (up refl);
  fits = λ at. (let e : 0 ≡ 1 = at in absurd (omega (arith, e)));
  carried = λ version put is wants. (let e : Free ≡ Carried version = is in absurd (cc));
  apart = λ put other out has same. absurd (contains-none other has);
  none = λ down put has. contains-none put has;
}

pub first-fenced : (class : Option (List ℕ)) (store : StoreValue) → IsGoodStore store → IsFenced (first_cluster class store)
first-fenced class store good = record {
  active = 0;
  good = (record { stored = good; up = tt }, none-expected store None);
  each = first-kept store;
  holder = inl refl;
  asked = λ by ask has. absurd (contains-none (by, ask) has);
  sent = λ by put has. absurd (contains-none (by, put) has);
  out = λ put pending.
      ⊎_elim (λ (out : IsOut first_bridge put). (let e : Free ≡ Sent = out.sent in absurd (cc))) (λ (has : Contains [] put). absurd (contains-none put has)) pending;
}

safe-throughout : (happenings : List Happening) (c : Cluster) → MayAllHappen happenings c → IsFenced c → IsSafeThroughout happenings c
safe-throughout [] c may f = (store-of c f).safe
safe-throughout (happening ∷ more) c may f =
    ((store-of c f).safe, safe-throughout more (after happening c) may.1 (happenings_keep_fenced happening c may.0 f))

pub clusters_are_safe : ClustersAreSafe
clusters_are_safe class store happenings good may = safe-throughout happenings (first_cluster class store) may (first-fenced class store good)
