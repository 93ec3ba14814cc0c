-- Whatever comes to bridges that are fences is a history of the cluster.
use Rattle.std.proofs.Common.{◌≡◌, ℕ, Bool, true, false, cond, eqb, List, [], ◌∷◌, ◌++◌, Option, Some, None, ⊎_elim, refl, sym, subst, ◌∙◌}
use Rattle.std.proofs.lemmas.Bool.{eqb-true, true≢false}
use Rattle.std.specs.List.{Contains}
use Rattle.mlb_base.proofs.Among.{contains-cons, contains-none}
use Rattle.kube_model.specs.declared.event.Event.{Event}
use Rattle.kube_model.specs.declared.event.ListGroup.TheVariants as groups
use Rattle.kube_model.specs.declared.key.Key.{Key}
use Rattle.kube_model.specs.declared.put.Put.{Put}
use Rattle.status_store.specs.Changes.{StoreValue, IsWellFormed}
use Rattle.status_store.proofs.ChangeLaws.{version-same}
use Rattle.core_rules.specs.Core.{State, fresh}
use Rattle.core_laws.specs.Shared.{AllShowTerms}
use Rattle.world_rules.specs.Moves.{Move, Sets, Deletes, Tells as IsShown, Takes, Turns, Stops, Starts as StartsAnew, ConfigExpires, ServicesExpire, EndsLater, Lands, after_move, entries_expired}
use Rattle.fence_rules.specs.Among.{after_all}
use Rattle.fence_rules.specs.Cluster as clusters
use Rattle.fence_rules.specs.Cluster.{Bridge, Cluster, Happening, Does, Starts, AreCovered, AreOver, IsGone, MayAllHappen, MayHappen, MayStart, after, in_world, first_cluster, name_of, world_of}
use Rattle.fence_rules.specs.Fenced.{IsFenced}
use Rattle.fence_rules.proofs.Safe.{clusters_are_safe, first-fenced, happenings_keep_fenced}
use Rattle.fence_rules.proofs.Steps.{by-bridge, store-of}
use Rattle.put_fence.specs.declared.answer.Input.{Input}
use Rattle.put_fence.specs.declared.fence.Fence.{Fence}
use Rattle.put_fence.specs.declared.known.Known.{Known}
use Rattle.put_fence.specs.declared.stage.Stage.{Stage}
use Rattle.put_fence.specs.declared.stage.Stage.TheVariants as stages
use Rattle.put_fence.specs.Fences.{taken}
use Rattle.fence_laws.specs.Follows.{Directory, Follows, IsAt, IsListing, IsTold, happened, names_of}
use Rattle.put_fence.specs.declared.lease.ServiceVersion.{ServiceVersion}
use Rattle.fence_laws.specs.Runs.{AllCome, AreEarlier, Coming, Comes, Lists, Relists, Goes, Tells, FencesAreSafe, IsFollowed, IsUnlisted, IsUp, MayCome, MayGo, MayList, MayRelist}
use Rattle.fence_laws.specs.Runs.{comes_to, fences_after, first_fences, history, with_fence}
use Rattle.fence_laws.proofs.Staying.{outside-follows, stays-gone}
use Rattle.fence_laws.proofs.Taking.{fence_follows}

-- ---- lists of happenings

fenced-all : (happenings : List Happening) (c : Cluster) → MayAllHappen happenings c → IsFenced c → IsFenced (after_all happenings c)
fenced-all [] c may f = f
fenced-all (happening ∷ more) c may f = fenced-all more (after happening c) may.1 (happenings_keep_fenced happening c may.0 f)

may-append : (happenings more : List Happening) (c : Cluster) → MayAllHappen happenings c → MayAllHappen more (after_all happenings c)
    → MayAllHappen (happenings ++ more) c
may-append [] more c may then_may = then_may
may-append (happening ∷ rest) more c may then_may = (may.0, may-append rest more (after happening c) may.1 then_may)

-- ---- what holds of the cluster and the fences at each moment

record IsKept (who : Directory) (fences : ℕ → Fence) (c : Cluster) (past : List StoreValue) : Type 0 where
  pub fenced : IsFenced c
  pub earlier : AreEarlier past c.store
  pub follows : (j : ℕ) → Follows who j (fences j) c.store (c.bridges j)

-- the store of this moment is an earlier one too
earlier-now : (c : Cluster) (past : List StoreValue) → IsFenced c → AreEarlier past c.store → AreEarlier (c.store ∷ past) c.store
earlier-now c past f earlier old has =
    ⊎_elim
    (λ (e : c.store ≡ old). (subst IsWellFormed e (store-of c f).kept, λ n gone. subst (λ (s : StoreValue). IsGone s n) (sym e) gone))
    (λ later. earlier old later) (contains-cons c.store past old has)

-- and stays one
earlier-then : (past : List StoreValue) (store next : StoreValue) → ((n : Key × ℕ) → IsGone store n → IsGone next n) → AreEarlier past store
    → AreEarlier past next
earlier-then past store next gone earlier old has = let was = earlier old has in (was.0, λ n is. gone n (was.1 n is))

-- what is up awaits no reply, and stays so
up-free : (stage : Stage) (k : Known) (store : StoreValue) (b : Bridge) → IsUp stage → IsAt stage k store b → b.phase ≡ clusters.Free
up-free (stages.Waiting call) k store b up at = absurd up
up-free (stages.Fencing call next) k store b up at = absurd up
up-free stages.Listing k store b up at = absurd up
up-free (stages.Free call) k store b up at = at
up-free (stages.Naming put call) k store b up at = absurd up
up-free (stages.Sent put) k store b up at = absurd up
up-free (stages.Checking put call tries) k store b up at = absurd up
up-free (stages.Chasing call None) k store b up at = at
up-free (stages.Chasing call (Some put)) k store b up at = absurd up
up-free stages.Relisting k store b up at = at.0
up-free stages.Lost k store b up at = absurd up

up-again : (stage : Stage) (k : Known) (store : StoreValue) (b next : Bridge) → IsUp stage → IsAt stage k store b → next.phase ≡ clusters.Free → IsAt stage k store next
up-again (stages.Waiting call) k store b next up at free = absurd up
up-again (stages.Fencing call place) k store b next up at free = absurd up
up-again stages.Listing k store b next up at free = absurd up
up-again (stages.Free call) k store b next up at free = free
up-again (stages.Naming put call) k store b next up at free = absurd up
up-again (stages.Sent put) k store b next up at free = absurd up
up-again (stages.Checking put call tries) k store b next up at free = absurd up
up-again (stages.Chasing call None) k store b next up at free = free
up-again (stages.Chasing call (Some put)) k store b next up at free = absurd up
up-again stages.Relisting k store b next up at free = (free, at.1)
up-again stages.Lost k store b next up at free = absurd up

unlisted-may : (move : Move) → IsUnlisted move → (store : StoreValue) (late : List Put) → clusters.MayList move store late
unlisted-may (Sets object holding) is store late = tt
unlisted-may (Deletes kind key) is store late = tt
unlisted-may (IsShown event) is store late = tt
unlisted-may Takes is store late = tt
unlisted-may (Turns outcome) is store late = tt
unlisted-may (Stops applied) is store late = tt
unlisted-may (StartsAnew list) is store late = tt
unlisted-may ConfigExpires is store late = tt
unlisted-may (ServicesExpire list) is store late = absurd is
unlisted-may (EndsLater before event behind) is store late = tt
unlisted-may (Lands put) is store late = tt

expired-typed : (core : Option State) → AllShowTerms (entries_expired core groups.Service)
expired-typed None = tt
expired-typed (Some s) = (tt, tt)

-- where nothing is owed all that was given up is gone
covered-over : (owed : List ServiceVersion) → owed ≡ [] → (store : StoreValue) (late : List Put) → AreCovered store (names_of owed) late → AreOver store late
covered-over owed e store late covered put has =
    ⊎_elim (λ (g : IsGone store (name_of put)). g)
    (λ (n : Contains (names_of owed) (name_of put)).
    absurd (contains-none (name_of put) (subst (λ (named : List ServiceVersion). Contains (names_of named) (name_of put)) e n))) (covered put has)

-- what comes may happen, and all is kept
record Comes_well (who : Directory) (coming : Coming) (fences : ℕ → Fence) (c : Cluster) (past : List StoreValue) : Type 0 where
  pub may : MayAllHappen (comes_to coming fences) c
  pub kept : IsKept who (fences_after coming fences) (after_all (comes_to coming fences) c) (c.store ∷ past)

module _ (who : Directory) (fences : ℕ → Fence) (c : Cluster) (past : List StoreValue) (kept : IsKept who fences c past) where
  now : AreEarlier (c.store ∷ past) c.store
  now = earlier-now c past kept.fenced kept.earlier

  -- one thing that isn't told to a fence
  one-comes : (happening : Happening) → MayHappen happening c
      → ((j : ℕ) → Follows who j (fences j) (after happening c).store ((after happening c).bridges j))
      → IsKept who fences (after happening c) (c.store ∷ past)
  one-comes happening may follows = record {
    fenced = happenings_keep_fenced happening c may kept.fenced;
    earlier = earlier-then (c.store ∷ past) c.store (after happening c).store (stays-gone happening c kept.fenced may) now;
    follows = follows;
  }

  -- the list that was asked for is given
  module _ (i : ℕ) (list : List Event) (lists : MayList list (fences i) i c) where
    listing : IsListing c.store (c.bridges i)
    listing = subst (λ (stage : Stage). IsAt stage (fences i).known c.store (c.bridges i)) lists.asked (kept.follows i).at

    may-start : MayStart list c.store (c.bridges i)
    may-start = record { down = lists.down; quiet = listing.quiet; fenced = listing.gone; listed = lists.listed }

    abbrev begun : Bridge
    begun = let b = c.bridges i in record b { core = Some (fresh c.class); lane = list; given = b.seen; phase = clusters.Free; late = [] }

    own-begun : Follows who i (fences i) c.store begun
    own-begun =
        let knows = (kept.follows i).knows in
        record {
          knows = record { named = knows.named; asked = knows.asked; seen = knows.seen; owed = λ put has. absurd (contains-none put has) };
          at = subst (λ (stage : Stage). IsAt stage (fences i).known c.store begun) (sym lists.asked)
              (record { free = refl; quiet = listing.quiet; gone = listing.gone });
        }

    lists-well : Comes_well who (Lists i list) fences c past
    lists-well = record {
      may = (may-start, tt);
      kept = one-comes (Starts i list) may-start (by-bridge (λ j x. Follows who j (fences j) c.store x) i begun c.bridges own-begun kept.follows);
    }

  -- a program does something of its own
  module _ (i : ℕ) (move : Move) (goes : MayGo move (fences i) i c) where
    free-now : (c.bridges i).phase ≡ clusters.Free
    free-now = up-free (fences i).stage (fences i).known c.store (c.bridges i) goes.free (kept.follows i).at

    may-do : clusters.MayDo move (world_of c.class c.store (c.bridges i)) (c.bridges i).phase (c.bridges i).late
    may-do = record {
      free = free-now;
      own = goes.own;
      may = goes.may;
      typed = goes.typed;
      listed = unlisted-may move goes.unlisted c.store (c.bridges i).late;
    }

    abbrev gone_on : Bridge
    gone_on = in_world (after_move move (world_of c.class c.store (c.bridges i))) (c.bridges i)

    own-gone_on : Follows who i (fences i) c.store gone_on
    own-gone_on =
        let knows = (kept.follows i).knows in
        record {
          knows = record { named = knows.named; asked = knows.asked; seen = knows.seen; owed = knows.owed };
          at = up-again (fences i).stage (fences i).known c.store (c.bridges i) gone_on goes.free (kept.follows i).at free-now;
        }

    goes-well : Comes_well who (Goes i move) fences c past
    goes-well = record {
      may = (may-do, tt);
      kept = one-comes (Does i move) may-do (by-bridge (λ j x. Follows who j (fences j) c.store x) i gone_on c.bridges own-gone_on kept.follows);
    }

  -- the list that was asked for anew is given
  module _ (i : ℕ) (list : List Event) (relists : MayRelist list (fences i) c) where
    abbrev anew : Move
    anew = ServicesExpire list

    relisting : ((c.bridges i).phase ≡ clusters.Free) × ((fences i).known.owed ≡ [])
    relisting = subst (λ (stage : Stage). IsAt stage (fences i).known c.store (c.bridges i)) relists.asked (kept.follows i).at

    may-list : clusters.MayDo anew (world_of c.class c.store (c.bridges i)) (c.bridges i).phase (c.bridges i).late
    may-list = record {
      free = relisting.0;
      own = tt;
      may = relists.listed;
      typed = expired-typed (c.bridges i).core;
      listed = covered-over (fences i).known.owed relisting.1 c.store (c.bridges i).late (kept.follows i).knows.owed;
    }

    abbrev shown_anew : Bridge
    shown_anew = in_world (after_move anew (world_of c.class c.store (c.bridges i))) (c.bridges i)

    own-shown : Follows who i (fences i) c.store shown_anew
    own-shown =
        let knows = (kept.follows i).knows in
        record {
          knows = record { named = knows.named; asked = knows.asked; seen = knows.seen; owed = knows.owed };
          at = subst (λ (stage : Stage). IsAt stage (fences i).known c.store shown_anew) (sym relists.asked) (relisting.0, relisting.1);
        }

    relists-well : Comes_well who (Relists i list) fences c past
    relists-well = record {
      may = (may-list, tt);
      kept = one-comes (Does i anew) may-list (by-bridge (λ j x. Follows who j (fences j) c.store x) i shown_anew c.bridges own-shown kept.follows);
    }

  -- a fence is told something
  module _ (i : ℕ) (input : Input) (told : IsTold who (c.store ∷ past) input (fences i) (c.bridges i)) where
    abbrev made : List Happening
    made = happened i input (fences i).stage (taken input (fences i))

    abbrev next : Fence
    next = (taken input (fences i)).fence

    followed : IsFollowed who i made c next
    followed = (fence_follows who i (c.store ∷ past) c (fences i) input now (kept.follows i) told).0

    each-by : (j : ℕ) (here : Bool) → eqb j i ≡ here → Follows who j (cond here next (fences j)) c.store ((after_all made c).bridges j)
    each-by j true e =
        subst (λ (n : ℕ). Follows who n next c.store ((after_all made c).bridges n)) (sym (eqb-true j i e)) followed.follows
    each-by j false e =
        let other : ¬ (j ≡ i) = λ same. true≢false (sym (version-same j i same) ∙ e) in
        subst (Follows who j (fences j) c.store) (sym (followed.others j other)) (kept.follows j)

    tells-well : Comes_well who (Tells i input) fences c past
    tells-well = record {
      may = followed.may;
      kept = record {
        fenced = fenced-all made c followed.may kept.fenced;
        earlier = subst (AreEarlier (c.store ∷ past)) (sym followed.store) now;
        follows = λ j. subst (λ (s : StoreValue). Follows who j (with_fence i next fences j) s ((after_all made c).bridges j)) (sym followed.store) (each-by j (eqb j i) refl);
      };
    }

  comes-well : (coming : Coming) → MayCome who coming fences c past → Comes_well who coming fences c past
  comes-well (Comes happening) may = record {
    may = (may.1, tt);
    kept = one-comes happening may.1 (λ j. outside-follows happening may.0 c kept.fenced may.1 who j (fences j) (kept.follows j));
  }
  comes-well (Lists i list) may = lists-well i list may
  comes-well (Relists i list) may = relists-well i list may
  comes-well (Goes i move) may = goes-well i move may
  comes-well (Tells i input) told = tells-well i input told

runs : (who : Directory) (comings : List Coming) (fences : ℕ → Fence) (c : Cluster) (past : List StoreValue) → IsKept who fences c past
    → AllCome who comings fences c past → MayAllHappen (history comings fences) c
runs who [] fences c past kept all = tt
runs who (coming ∷ more) fences c past kept all =
    let well = comes-well who fences c past kept coming all.0 in
    may-append (comes_to coming fences) (history more (fences_after coming fences)) c well.may
    (runs who more (fences_after coming fences) (after_all (comes_to coming fences) c) (c.store ∷ past) well.kept all.1)

pub fences_are_safe : FencesAreSafe
fences_are_safe class store who names comings good named all =
    let kept : IsKept who (first_fences names) (first_cluster class store) [] =
    record {
      fenced = first-fenced class store good;
      earlier = λ old has. absurd (contains-none old has);
      follows = λ j.
          record {
            knows = record {
              named = named j;
              asked = refl;
              seen = λ lease is. (let e : None ≡ Some lease = is in absurd (cc));
              owed = λ put has. absurd (contains-none put has);
            };
            at = (refl, refl);
          };
    } in
    let may = runs who comings (first_fences names) (first_cluster class store) [] kept all in
    (may, clusters_are_safe class store (history comings (first_fences names)) good may)
