-- Whatever a fence is told, what it does may happen.
use Rattle.std.proofs.Common.{◌≡◌, ◌≢◌, ◌⊎◌, inl, inr, ℕ, ◌<◌, Bool, true, false, cond, eqb, ltb, ltb-true, ◌&&◌, ◌+◌, List, [], ◌∷◌, ◌++◌, ◌||◌, Option, Some, None}
use Rattle.std.proofs.Common.{refl, sym, ap, subst, ◌∙◌, arith}
use Rattle.std.proofs.lemmas.Bool.{true≢false, and_parts}
use Rattle.std.proofs.lemmas.Slice.Eq.{bytes_eq-Decides}
use Rattle.std.specs.List.{Contains, slice_get}
use Rattle.kube_model.specs.declared.put.Put.{Put}
use Rattle.status_store.specs.Changes.{StoreValue}
use Rattle.world_rules.specs.World.{next_put}
use Rattle.fence_rules.specs.Cluster as clusters
use Rattle.fence_rules.specs.Cluster.{Bridge, Cluster, Happening, Named, Reads, AreCovered, IsGone, IsQuiet, after, name_of}
use Rattle.fence_rules.proofs.Steps.{wants-up}
use Rattle.put_fence.specs.declared.answer.Answer.{Answer}
use Rattle.put_fence.specs.declared.answer.Answer.TheVariants as answers
use Rattle.put_fence.specs.declared.answer.Input.TheVariants as inputs
use Rattle.put_fence.specs.declared.fence.Fence.{Fence}
use Rattle.put_fence.specs.declared.known.Known.{Known}
use Rattle.put_fence.specs.declared.lease.Asked.{Asked}
use Rattle.put_fence.specs.declared.lease.Lease.{Lease}
use Rattle.put_fence.specs.declared.lease.ServiceVersion.{ServiceVersion}
use Rattle.put_fence.specs.declared.output.Taken.{Taken}
use Rattle.put_fence.specs.declared.stage.CheckCall.{CheckCall}
use Rattle.put_fence.specs.declared.stage.CheckCall.TheVariants as checks
use Rattle.put_fence.specs.declared.stage.LeaseCall.{LeaseCall}
use Rattle.put_fence.specs.declared.stage.LeaseCall.TheVariants.{Idle, Read, Change}
use Rattle.put_fence.specs.declared.stage.Stage.{Stage}
use Rattle.put_fence.specs.declared.stage.Stage.TheVariants.{Waiting, Fencing, Listing, Free, Naming, Sent, Checking, Chasing, Relisting, Lost}
use Rattle.put_fence.specs.Fences.{answered, asking, check_behind, check_request, checking_told, fencing, fencing_from, fencing_told, free_told, is_named, is_other, is_own, is_quiet, lapsed, lapsed_by}
use Rattle.put_fence.specs.Fences.{checked, listing_told, may_send, named_by, named_in, naming_told, reads, renewed, renewed_by, sending, sending_by, sent_told, shows_gone}
use Rattle.put_fence.specs.Fences.{ticked, waiting_told, wanted, wanted_by, wanted_free}
use Rattle.put_fence.specs.Fences.{behind_chase, but_first, chased, chased_by, chasing_on, chasing_told, checking_on, first_last, is_full, is_owed, owed_and, owes}
use Rattle.put_fence.specs.Fences.{forgets, is_gone, is_held_back, relisted, relisted_by, relisting_told, sees_gone}
use Rattle.fence_laws.specs.Follows.{Directory, ChecksAbsent, ChecksAt, IsAdmitted, IsAnswer, IsAt, IsFencing, IsNaming, IsOut, Knows}
use Rattle.fence_laws.specs.Follows.{asked_of, done_of, happened, gives_up, lease_of, name_at, names_of, put_of, read_of, reads_at}
use Rattle.fence_laws.specs.Runs.{AreEarlier, FenceFollows, IsFollowed}
use Rattle.fence_laws.proofs.Gone.{all-gone, gone-absent, gone-at, gone-more, named-contains}
use Rattle.fence_laws.proofs.Gone.{covered-and, covered-rest, covered-round, named-and, unowed-gone, unowed-rest, unowed-round}
use Rattle.fence_laws.proofs.Doing.{asks, at-read, gives-up, hears, nothing, reads-first, refuses, sends}

-- what holds of either choice holds of what is chosen
by-if : {X : Type 0} (P : X → Type 0) (b : Bool) (x y : X) → (b ≡ true → P x) → (b ≡ false → P y) → P (cond b x y)
by-if P true x y first second = first refl
by-if P false x y first second = second refl

or-left : (b d : Bool) → (b || d) ≡ false → b ≡ false
or-left true d e = absurd (true≢false e)
or-left false d e = refl

-- a put that isn't held back is of no service of which one is owed
goes-unowed : (put : Put) (k : Known) → is_held_back put k ≡ false → is_owed put k ≡ false
goes-unowed put k goes = or-left (is_owed put k) (is_full k) (or-left (is_owed put k || is_full k) (is_gone put k) goes)

module _ (who : Directory) (i : ℕ) where
  -- what is done, from this stage
  abbrev IsDone : Cluster → Stage → Taken → Type 0
  IsDone c old t = IsFollowed who i (done_of i old t.output t.fence) c t.fence × IsAdmitted t.output

  abbrev KnowsAt : Cluster → Known → Type 0
  KnowsAt c k = Knows who i k c.store (c.bridges i)

  -- the stage, whatever is done
  stays : (c : Cluster) (k : Known) (stage : Stage) → KnowsAt c k → IsAt stage k c.store (c.bridges i)
      → IsFollowed who i [] c (record { known = k; stage = stage })
  stays c k stage knows at = nothing who i c (record { known = k; stage = stage }) (record { knows = knows; at = at })

  check-asks : (call : CheckCall) (f : Fence) → asked_of i (check_request call) f ≡ []
  check-asks checks.Get f = refl
  check-asks checks.Touch f = refl

  -- a service is asked about
  checks-on : (c : Cluster) (k : Known) (stage : Stage) (call : CheckCall) → KnowsAt c k → IsAt stage k c.store (c.bridges i)
      → IsFollowed who i (asked_of i (check_request call) (record { known = k; stage = stage })) c (record { known = k; stage = stage })
  checks-on c k stage call knows at =
      let f : Fence = record { known = k; stage = stage } in
      subst (λ (happenings : List Happening). IsFollowed who i happenings c f) (sym (check-asks call f)) (stays c k stage knows at)

  -- what is kept of gone puts is nothing that the cluster knows of
  sees-knows : (c : Cluster) (put : Put) (k : Known) → KnowsAt c k → KnowsAt c (sees_gone put k)
  sees-knows c put k knows = record { named = knows.named; asked = knows.asked; seen = knows.seen; owed = knows.owed }

  forgets-knows : (c : Cluster) (put : Put) (k : Known) → KnowsAt c k → KnowsAt c (forgets put k)
  forgets-knows c put k knows = record { named = knows.named; asked = knows.asked; seen = knows.seen; owed = knows.owed }

  anew-knows : (c : Cluster) (k : Known) → KnowsAt c k → (let next : Known = record k { gone = [] } in KnowsAt c next)
  anew-knows c k knows = record { named = knows.named; asked = knows.asked; seen = knows.seen; owed = knows.owed }

  -- ---- the Lease

  holds : (c : Cluster) (k : Known) (lease : Lease) → KnowsAt c k → k.seen ≡ Some lease → is_own k lease ≡ true → (c.bridges i).seen.holder ≡ i
  holds c k lease knows is own =
      ap (λ (l : clusters.Lease). l.holder) (knows.seen lease is) ∙ ap who ((bytes_eq-Decides lease.holder k.name).0 own) ∙ knows.named

  quiet-so : (c : Cluster) (k : Known) (lease : Lease) → KnowsAt c k → k.seen ≡ Some lease → is_quiet k lease ≡ true → IsQuiet (c.bridges i)
  quiet-so c k lease knows is quiet =
      let version : (c.bridges i).seen.version ≡ lease.version = ap (λ (l : clusters.Lease). l.version) (knows.seen lease is) in
      let asked : (c.bridges i).ask.at ≡ k.asked.at = ap (λ (a : clusters.Ask). a.at) knows.asked in
      let lt : k.asked.at < lease.version = ltb-true k.asked.at lease.version quiet in
      omega (arith, version, asked, lt)

  names-so : (c : Cluster) (k : Known) (lease : Lease) → KnowsAt c k → k.seen ≡ Some lease → (c.bridges i).seen.named ≡ names_of lease.named
  names-so c k lease knows is = ap (λ (l : clusters.Lease). l.named) (knows.seen lease is)

  asking-done : (c : Cluster) (old : Stage) (k : Known) (lease : Lease) (named : List ServiceVersion) (stage : Stage) → KnowsAt c k → k.seen ≡ Some lease
      → ((c.bridges i).core ≡ None) ⊎ ((c.bridges i).seen.holder ≡ i)
      → (names_of named ≡ (c.bridges i).seen.named)
      ⊎ (((c.bridges i).phase ≡ clusters.Free) × ((c.bridges i).core ≢ None) × AreCovered c.store (names_of named) (c.bridges i).late)
      → ((made : Asked) (ask : clusters.Ask) → IsAt stage (record k { asked = made }) c.store (let b = c.bridges i in record b { ask = ask }))
      → IsDone c old (asking lease.version named stage k)
  asking-done c old k lease named stage knows is own names at =
      by-if (IsDone c old) (ltb k.asked.at lease.version) _ _
      (λ later. (asks who i c k lease named stage knows is (ltb-true k.asked.at lease.version later) own names at, tt))
      (λ late. (stays c k stage knows (at k.asked (c.bridges i).ask), tt))

  fencing-by : (c : Cluster) (old : Stage) (found : Option ServiceVersion) (next : ℕ) (k : Known) → slice_get (named_in k.seen) next ≡ found → KnowsAt c k
      → IsFencing next k c.store (c.bridges i) → IsDone c old (fencing_from found next k)
  fencing-by c old None next k e knows at =
      let gone = all-gone (named_in k.seen) next c.store e at.gone in
      (stays c k Listing knows (record { free = at.free; quiet = at.quiet; gone = subst (clusters.AreGone c.store) (sym at.named) gone }), tt)
  fencing-by c old (Some n) next k e knows at =
      (stays c k (Fencing _ next) knows (record { free = at.free; quiet = at.quiet; named = at.named; gone = at.gone }), tt)

  fencing-done : (c : Cluster) (old : Stage) (next : ℕ) (k : Known) → KnowsAt c k → IsFencing next k c.store (c.bridges i) → IsDone c old (fencing next k)
  fencing-done c old next k knows at = fencing-by c old (slice_get (named_in k.seen) next) next k refl knows at

  sending-by : (c : Cluster) (old : Stage) (may : Bool) (put : Put) (lease : Lease) (k : Known) → may_send put lease k ≡ may → KnowsAt c k
      → k.seen ≡ Some lease → is_own k lease ≡ true → IsNaming put k (c.bridges i) → IsDone c old (sending_by may put lease.version k)
  sending-by c old true put lease k e knows is own at =
      let parts = and_parts (is_quiet k lease) (is_named put lease.named) e in
      let out : clusters.Sent ≡ clusters.Free → ⊥ = λ e. absurd (cc) in (
        sends who i c put k (Sent put) knows at.free at.wants (quiet-so c k lease knows is parts.0) (holds c k lease knows is own)
            (subst (λ (named : Named). Contains named (name_of put)) (sym (names-so c k lease knows is)) (named-contains put lease.named parts.1))
            (unowed-gone put k c.store (c.bridges i).late knows.owed at.unowed)
            (record { out = out; wants = at.wants }),
        tt,
      )
  sending-by c old false put lease k e knows is own at =
      asking-done c old k lease (owed_and put k) (Naming put Change) knows is (inr (holds c k lease knows is own))
      (inr (at.free, wants-up (c.bridges i).core put at.wants, covered-and put k c.store (c.bridges i).late knows.owed))
      (λ made ask. record { free = at.free; wants = at.wants; unowed = at.unowed })

  sending-done : (c : Cluster) (old : Stage) (put : Put) (lease : Lease) (k : Known) → KnowsAt c k → k.seen ≡ Some lease → is_own k lease ≡ true
      → IsNaming put k (c.bridges i) → IsDone c old (sending put lease k)
  sending-done c old put lease k knows is own at = sending-by c old (may_send put lease k) put lease k refl knows is own at

  -- ---- the clock, and the program's put

  module _ (c : Cluster) where
    ticked-done : (stage : Stage) (k : Known) → KnowsAt c k → IsAt stage k c.store (c.bridges i) → IsDone c stage (ticked stage k)
    ticked-done (Waiting Idle) k knows at = (stays c k (Waiting Read) knows at, tt)
    ticked-done (Waiting Read) k knows at = (stays c k (Waiting Read) knows at, tt)
    ticked-done (Waiting Change) k knows at = (stays c k (Waiting Change) knows at, tt)
    ticked-done (Fencing call next) k knows at = (stays c k (Fencing call next) knows at, tt)
    ticked-done Listing k knows at = (stays c k Listing knows at, tt)
    ticked-done (Free Idle) k knows at = (stays c k (Free Read) knows at, tt)
    ticked-done (Free Read) k knows at = (stays c k (Free Read) knows at, tt)
    ticked-done (Free Change) k knows at = (stays c k (Free Change) knows at, tt)
    ticked-done (Naming put call) k knows at = (stays c k (Naming put call) knows at, tt)
    ticked-done (Sent put) k knows at = (stays c k (Sent put) knows at, tt)
    ticked-done (Checking put call tries) k knows at = (stays c k (Checking put call tries) knows at, tt)
    ticked-done (Chasing call put) k knows at = (stays c k (Chasing call put) knows at, tt)
    ticked-done Relisting k knows at = (stays c k Relisting knows at, tt)
    ticked-done Lost k knows at = (stays c k Lost knows tt, tt)

    renewed-by : (seen : Option Lease) (k : Known) → k.seen ≡ seen → KnowsAt c k → (c.bridges i).phase ≡ clusters.Free
        → IsDone c (Free Idle) (renewed_by seen k)
    renewed-by None k is knows free = (stays c k (Free Idle) knows free, tt)
    renewed-by (Some lease) k is knows free =
        by-if (IsDone c (Free Idle)) (is_own k lease) _ _
        (λ own. asking-done c (Free Idle) k lease lease.named (Free Change) knows is (inr (holds c k lease knows is own))
        (inl (sym (names-so c k lease knows is))) (λ k ask. free))
        (λ lost. (stays c k (Free Idle) knows free, tt))

    renewed-done : (stage : Stage) (k : Known) → KnowsAt c k → IsAt stage k c.store (c.bridges i) → IsDone c stage (renewed stage k)
    renewed-done (Waiting call) k knows at = (stays c k (Waiting call) knows at, tt)
    renewed-done (Fencing call next) k knows at = (stays c k (Fencing call next) knows at, tt)
    renewed-done Listing k knows at = (stays c k Listing knows at, tt)
    renewed-done (Free Idle) k knows at = renewed-by k.seen k refl knows at
    renewed-done (Free Read) k knows at = (stays c k (Free Read) knows at, tt)
    renewed-done (Free Change) k knows at = (stays c k (Free Change) knows at, tt)
    renewed-done (Naming put call) k knows at = (stays c k (Naming put call) knows at, tt)
    renewed-done (Sent put) k knows at = (stays c k (Sent put) knows at, tt)
    renewed-done (Checking put call tries) k knows at = (stays c k (Checking put call tries) knows at, tt)
    renewed-done (Chasing call put) k knows at = (stays c k (Chasing call put) knows at, tt)
    renewed-done Relisting k knows at = (stays c k Relisting knows at, tt)
    renewed-done Lost k knows at = (stays c k Lost knows tt, tt)

    lapsed-by : (seen : Option Lease) (version : ℕ) (k : Known) → k.seen ≡ seen → KnowsAt c k
        → ((c.bridges i).core ≡ None) × ((c.bridges i).phase ≡ clusters.Free) → IsDone c (Waiting Idle) (lapsed_by seen version k)
    lapsed-by None version k is knows at = (stays c k (Waiting Idle) knows at, tt)
    lapsed-by (Some lease) version k is knows at =
        by-if (IsDone c (Waiting Idle)) (eqb lease.version version) _ _
        (λ same. asking-done c (Waiting Idle) k lease lease.named (Waiting Change) knows is (inl at.0)
        (inl (sym (names-so c k lease knows is))) (λ k ask. at))
        (λ other. (stays c k (Waiting Idle) knows at, tt))

    lapsed-done : (stage : Stage) (version : ℕ) (k : Known) → KnowsAt c k → IsAt stage k c.store (c.bridges i) → IsDone c stage (lapsed stage version k)
    lapsed-done (Waiting Idle) version k knows at = lapsed-by k.seen version k refl knows at
    lapsed-done (Waiting Read) version k knows at = (stays c k (Waiting Read) knows at, tt)
    lapsed-done (Waiting Change) version k knows at = (stays c k (Waiting Change) knows at, tt)
    lapsed-done (Fencing call next) version k knows at = (stays c k (Fencing call next) knows at, tt)
    lapsed-done Listing version k knows at = (stays c k Listing knows at, tt)
    lapsed-done (Free call) version k knows at = (stays c k (Free call) knows at, tt)
    lapsed-done (Naming put call) version k knows at = (stays c k (Naming put call) knows at, tt)
    lapsed-done (Sent put) version k knows at = (stays c k (Sent put) knows at, tt)
    lapsed-done (Checking put call tries) version k knows at = (stays c k (Checking put call tries) knows at, tt)
    lapsed-done (Chasing call put) version k knows at = (stays c k (Chasing call put) knows at, tt)
    lapsed-done Relisting version k knows at = (stays c k Relisting knows at, tt)
    lapsed-done Lost version k knows at = (stays c k Lost knows tt, tt)

    wanted-by : (old : Stage) (seen : Option Lease) (put : Put) (k : Known) → k.seen ≡ seen → KnowsAt c k → IsNaming put k (c.bridges i)
        → IsDone c old (wanted_by seen put k)
    wanted-by old None put k is knows at = (refuses who i c k (Free Idle) knows at.free (λ b free. free), tt)
    wanted-by old (Some lease) put k is knows at =
        by-if (IsDone c old) (is_own k lease) _ _ (λ own. sending-done c old put lease k knows is own at)
        (λ lost. (refuses who i c k (Free Idle) knows at.free (λ b free. free), tt))

    wanted-free : (call : LeaseCall) (put : Put) (k : Known) → KnowsAt c k → IsNaming put k (c.bridges i) → IsDone c (Free call) (wanted_free call put k)
    wanted-free Idle put k knows at = wanted-by (Free Idle) k.seen put k refl knows at
    wanted-free Read put k knows at = (stays c k (Naming put Read) knows at, tt)
    wanted-free Change put k knows at = (stays c k (Naming put Change) knows at, tt)

    -- what is owed
    chased-by : (owed : List ServiceVersion) (k : Known) → KnowsAt c k → (c.bridges i).phase ≡ clusters.Free → IsDone c (Free Idle) (chased_by owed k)
    chased-by [] k knows free = (stays c k (Free Idle) knows free, tt)
    chased-by (n ∷ more) k knows free = (stays c k (Chasing checks.Get None) knows free, tt)

    chased-done : (stage : Stage) (k : Known) → KnowsAt c k → IsAt stage k c.store (c.bridges i) → IsDone c stage (chased stage k)
    chased-done (Waiting call) k knows at = (stays c k (Waiting call) knows at, tt)
    chased-done (Fencing call next) k knows at = (stays c k (Fencing call next) knows at, tt)
    chased-done Listing k knows at = (stays c k Listing knows at, tt)
    chased-done (Free Idle) k knows at = chased-by k.owed k knows at
    chased-done (Free Read) k knows at = (stays c k (Free Read) knows at, tt)
    chased-done (Free Change) k knows at = (stays c k (Free Change) knows at, tt)
    chased-done (Naming put call) k knows at = (stays c k (Naming put call) knows at, tt)
    chased-done (Sent put) k knows at = (stays c k (Sent put) knows at, tt)
    chased-done (Checking put call tries) k knows at = (stays c k (Checking put call tries) knows at, tt)
    chased-done (Chasing call put) k knows at = (stays c k (Chasing call put) knows at, tt)
    chased-done Relisting k knows at = (stays c k Relisting knows at, tt)
    chased-done Lost k knows at = (stays c k Lost knows tt, tt)

    relisted-by : (owed : List ServiceVersion) (k : Known) → k.owed ≡ owed → KnowsAt c k → (c.bridges i).phase ≡ clusters.Free
        → IsDone c (Free Idle) (relisted_by owed k)
    relisted-by [] k e knows free = (stays c (record k { gone = [] }) Relisting (anew-knows c k knows) (free, e), tt)
    relisted-by (n ∷ more) k e knows free = (stays c k (Free Idle) knows free, tt)

    relisted-done : (stage : Stage) (k : Known) → KnowsAt c k → IsAt stage k c.store (c.bridges i) → IsDone c stage (relisted stage k)
    relisted-done (Waiting call) k knows at = (stays c k (Waiting call) knows at, tt)
    relisted-done (Fencing call next) k knows at = (stays c k (Fencing call next) knows at, tt)
    relisted-done Listing k knows at = (stays c k Listing knows at, tt)
    relisted-done (Free Idle) k knows at = relisted-by k.owed k refl knows at
    relisted-done (Free Read) k knows at = (stays c k (Free Read) knows at, tt)
    relisted-done (Free Change) k knows at = (stays c k (Free Change) knows at, tt)
    relisted-done (Naming put call) k knows at = (stays c k (Naming put call) knows at, tt)
    relisted-done (Sent put) k knows at = (stays c k (Sent put) knows at, tt)
    relisted-done (Checking put call tries) k knows at = (stays c k (Checking put call tries) knows at, tt)
    relisted-done (Chasing call put) k knows at = (stays c k (Chasing call put) knows at, tt)
    relisted-done Relisting k knows at = (stays c k Relisting knows at, tt)
    relisted-done Lost k knows at = (stays c k Lost knows tt, tt)

    wanted-done : (stage : Stage) (put : Put) (k : Known) → KnowsAt c k → IsAt stage k c.store (c.bridges i) → next_put (c.bridges i).core ≡ Some put
        → IsDone c stage (wanted stage put k)
    wanted-done (Waiting call) put k knows at wants = (stays c k (Waiting call) knows at, tt)
    wanted-done (Fencing call next) put k knows at wants = (stays c k (Fencing call next) knows at, tt)
    wanted-done Listing put k knows at wants = (stays c k Listing knows at, tt)
    wanted-done (Free call) put k knows at wants =
        by-if (IsDone c (Free call)) (is_held_back put k) _ _ (λ held. (refuses who i c k (Free call) knows at (λ b free. free), tt))
        (λ goes. wanted-free call put k knows (record { free = at; wants = wants; unowed = goes-unowed put k goes }))
    wanted-done (Naming other call) put k knows at wants = (stays c k (Naming other call) knows at, tt)
    wanted-done (Sent other) put k knows at wants = (stays c k (Sent other) knows at, tt)
    wanted-done (Checking other call tries) put k knows at wants = (stays c k (Checking other call tries) knows at, tt)
    wanted-done (Chasing call None) put k knows at wants =
        by-if (IsDone c (Chasing call None)) (is_held_back put k) _ _
        (λ held. (refuses who i c k (Chasing call None) knows at (λ b free. free), tt))
        (λ goes.
        (stays c k (Chasing call (Some put)) knows (record { free = at; wants = wants; unowed = goes-unowed put k goes }), tt))
    wanted-done (Chasing call (Some other)) put k knows at wants = (stays c k (Chasing call (Some other)) knows at, tt)
    wanted-done Relisting put k knows at wants = (stays c k Relisting knows at, tt)
    wanted-done Lost put k knows at wants = (stays c k Lost knows tt, tt)

  -- ---- answers

  -- what comes of an answer, from this stage
  abbrev IsTaken : Cluster → Answer → Stage → Taken → Type 0
  IsTaken c answer old t = IsFollowed who i (happened i (inputs.Answer answer) old t) c t.fence × IsAdmitted t.output

  module _ (c : Cluster) where
    -- the Lease was read
    abbrev c1 : Cluster
    c1 = after (Reads i) c

    read-knows : (lease : Lease) (k : Known) → KnowsAt c k → (c.bridges i).given ≡ lease_of who lease → KnowsAt c1 (reads lease k)
    read-knows lease k knows given =
        at-read who i c (Knows who i (reads lease k) c.store)
        (record {
          named = knows.named;
          asked = knows.asked;
          owed = knows.owed;
          seen = λ other e. (let same : lease ≡ other = cc in given ∙ ap (lease_of who) same);
        })

    read-free : (c.bridges i).phase ≡ clusters.Free → (c1.bridges i).phase ≡ clusters.Free
    read-free free = at-read who i c (λ (b : Bridge). b.phase ≡ clusters.Free) free

    waiting-read : (old : Stage) (lease : Lease) (k : Known) → KnowsAt c k → ((c.bridges i).core ≡ None) × ((c.bridges i).phase ≡ clusters.Free)
        → (c.bridges i).given ≡ lease_of who lease → IsDone c1 old (waiting_told Read (answers.Lease lease) k)
    waiting-read old lease k knows at given =
        let then_knows = read-knows lease k knows given in
        by-if (IsDone c1 old) (is_own k lease && is_quiet k lease) _ _
        (λ takes.
        (let parts = and_parts (is_own k lease) (is_quiet k lease) takes in
        fencing-done c1 old 0 (reads lease k) then_knows
        (record {
          free = read-free at.1;
          quiet = quiet-so c1 (reads lease k) lease then_knows refl parts.1;
          named = names-so c1 (reads lease k) lease then_knows refl;
          gone = λ place lt. absurd (omega (arith, lt));
        })))
        (λ waits.
        (stays c1 (reads lease k) (Waiting Idle) then_knows (at-read who i c (λ (b : Bridge). b.core ≡ None) at.0, read-free at.1), tt))

    free-read : (old : Stage) (lease : Lease) (k : Known) → KnowsAt c k → (c.bridges i).phase ≡ clusters.Free
        → (c.bridges i).given ≡ lease_of who lease → IsDone c1 old (free_told Read (answers.Lease lease) k)
    free-read old lease k knows at given =
        let then_knows = read-knows lease k knows given in
        by-if (IsDone c1 old) (is_own k lease) _ _ (λ own. (stays c1 (reads lease k) (Free Idle) then_knows (read-free at), tt))
        (λ lost. (stays c1 (reads lease k) Lost then_knows tt, tt))

    naming-read : (old : Stage) (put : Put) (lease : Lease) (k : Known) → KnowsAt c k → IsNaming put k (c.bridges i)
        → (c.bridges i).given ≡ lease_of who lease → IsDone c1 old (naming_told put Read (answers.Lease lease) k)
    naming-read old put lease k knows at given =
        let then_knows = read-knows lease k knows given in
        by-if (IsDone c1 old) (is_own k lease) _ _
        (λ own. sending-done c1 old put lease (reads lease k) then_knows refl own
        (at-read who i c (IsNaming put (reads lease k)) (record { free = at.free; wants = at.wants; unowed = at.unowed })))
        (λ lost. (stays c1 (reads lease k) Lost then_knows tt, tt))

    first : (old : Stage) (t : Taken) → IsDone c1 old t → IsFollowed who i (Reads i ∷ done_of i old t.output t.fence) c t.fence × IsAdmitted t.output
    first old t done = (reads-first who i c (done_of i old t.output t.fence) t.fence done.0, done.1)

    -- no answer is a reading of the Lease where none was asked for
    unread-by : (answer : Answer) (stage : Stage) → reads_at i stage ≡ [] → read_of i (inputs.Answer answer) stage ≡ []
    unread-by (answers.Lease lease) stage e = e
    unread-by (answers.At version) stage e = refl
    unread-by answers.Listed stage e = refl
    unread-by answers.Missing stage e = refl
    unread-by answers.Refused stage e = refl
    unread-by answers.Unknown stage e = refl

    unread : (answer : Answer) (old : Stage) (t : Taken) → reads_at i old ≡ [] → IsDone c old t → IsTaken c answer old t
    unread answer old t e done =
        (subst (λ (read : List Happening). IsFollowed who i (read ++ done_of i old t.output t.fence) c t.fence) (sym (unread-by answer old e)) done.0, done.1)

    -- by stage, where a request for the Lease is under way
    module _ (past : List StoreValue) (earlier : AreEarlier past c.store) where
      waiting-read_done : (answer : Answer) (k : Known) → KnowsAt c k → ((c.bridges i).core ≡ None) × ((c.bridges i).phase ≡ clusters.Free)
          → IsAnswer who past answer (Waiting Read) k (c.bridges i) → IsTaken c answer (Waiting Read) (waiting_told Read answer k)
      waiting-read_done (answers.Lease lease) k knows at given = first (Waiting Read) _ (waiting-read (Waiting Read) lease k knows at given)
      waiting-read_done (answers.At version) k knows at told = (stays c k (Waiting Read) knows at, tt)
      waiting-read_done answers.Listed k knows at told = (stays c k (Waiting Read) knows at, tt)
      waiting-read_done answers.Missing k knows at told = (stays c k (Waiting Idle) knows at, tt)
      waiting-read_done answers.Refused k knows at told = (stays c k (Waiting Read) knows at, tt)
      waiting-read_done answers.Unknown k knows at told = (stays c k (Waiting Read) knows at, tt)

      waiting-change_done : (answer : Answer) (k : Known) → KnowsAt c k → ((c.bridges i).core ≡ None) × ((c.bridges i).phase ≡ clusters.Free)
          → IsAnswer who past answer (Waiting Change) k (c.bridges i) → IsTaken c answer (Waiting Change) (waiting_told Change answer k)
      waiting-change_done (answers.Lease lease) k knows at given = first (Waiting Change) _ (waiting-read (Waiting Change) lease k knows at given)
      waiting-change_done (answers.At version) k knows at told = (stays c k (Waiting Change) knows at, tt)
      waiting-change_done answers.Listed k knows at told = (stays c k (Waiting Change) knows at, tt)
      waiting-change_done answers.Missing k knows at told = (stays c k (Waiting Idle) knows at, tt)
      waiting-change_done answers.Refused k knows at told = (stays c k (Waiting Read) knows at, tt)
      waiting-change_done answers.Unknown k knows at told = (stays c k (Waiting Change) knows at, tt)

      free-read_done : (answer : Answer) (k : Known) → KnowsAt c k → (c.bridges i).phase ≡ clusters.Free
          → IsAnswer who past answer (Free Read) k (c.bridges i) → IsTaken c answer (Free Read) (free_told Read answer k)
      free-read_done (answers.Lease lease) k knows at given = first (Free Read) _ (free-read (Free Read) lease k knows at given)
      free-read_done (answers.At version) k knows at told = (stays c k (Free Read) knows at, tt)
      free-read_done answers.Listed k knows at told = (stays c k (Free Read) knows at, tt)
      free-read_done answers.Missing k knows at told = (stays c k (Free Idle) knows at, tt)
      free-read_done answers.Refused k knows at told = (stays c k (Free Read) knows at, tt)
      free-read_done answers.Unknown k knows at told = (stays c k (Free Read) knows at, tt)

      free-change_done : (answer : Answer) (k : Known) → KnowsAt c k → (c.bridges i).phase ≡ clusters.Free
          → IsAnswer who past answer (Free Change) k (c.bridges i) → IsTaken c answer (Free Change) (free_told Change answer k)
      free-change_done (answers.Lease lease) k knows at given = first (Free Change) _ (free-read (Free Change) lease k knows at given)
      free-change_done (answers.At version) k knows at told = (stays c k (Free Change) knows at, tt)
      free-change_done answers.Listed k knows at told = (stays c k (Free Change) knows at, tt)
      free-change_done answers.Missing k knows at told = (stays c k (Free Idle) knows at, tt)
      free-change_done answers.Refused k knows at told = (stays c k (Free Read) knows at, tt)
      free-change_done answers.Unknown k knows at told = (stays c k (Free Change) knows at, tt)

      naming-read_done : (answer : Answer) (put : Put) (k : Known) → KnowsAt c k → IsNaming put k (c.bridges i)
          → IsAnswer who past answer (Naming put Read) k (c.bridges i) → IsTaken c answer (Naming put Read) (naming_told put Read answer k)
      naming-read_done (answers.Lease lease) put k knows at given = first (Naming put Read) _ (naming-read (Naming put Read) put lease k knows at given)
      naming-read_done (answers.At version) put k knows at told = (stays c k (Naming put Read) knows at, tt)
      naming-read_done answers.Listed put k knows at told = (stays c k (Naming put Read) knows at, tt)
      naming-read_done answers.Missing put k knows at told = (refuses who i c k (Free Idle) knows at.free (λ b free. free), tt)
      naming-read_done answers.Refused put k knows at told = (stays c k (Naming put Read) knows at, tt)
      naming-read_done answers.Unknown put k knows at told = (stays c k (Naming put Read) knows at, tt)

      naming-change_done : (answer : Answer) (put : Put) (k : Known) → KnowsAt c k → IsNaming put k (c.bridges i)
          → IsAnswer who past answer (Naming put Change) k (c.bridges i) → IsTaken c answer (Naming put Change) (naming_told put Change answer k)
      naming-change_done (answers.Lease lease) put k knows at given =
          first (Naming put Change) _ (naming-read (Naming put Change) put lease k knows at given)
      naming-change_done (answers.At version) put k knows at told = (stays c k (Naming put Change) knows at, tt)
      naming-change_done answers.Listed put k knows at told = (stays c k (Naming put Change) knows at, tt)
      naming-change_done answers.Missing put k knows at told = (refuses who i c k (Free Idle) knows at.free (λ b free. free), tt)
      naming-change_done answers.Refused put k knows at told = (stays c k (Naming put Read) knows at, tt)
      naming-change_done answers.Unknown put k knows at told = (stays c k (Naming put Change) knows at, tt)

      -- ---- a service

      gone-by : (answer : Answer) (n : ServiceVersion) (stage : Stage) (k : Known) → checked stage k ≡ Some n
          → IsAnswer who past answer stage k (c.bridges i) → shows_gone n.version answer ≡ true → IsGone c.store (name_at n)
      gone-by (answers.Lease lease) n stage k is told shown = absurd (true≢false (sym shown))
      gone-by (answers.At version) n stage k is told shown = gone-at past c.store n version earlier (subst (ChecksAt past version) is told.0) shown
      gone-by answers.Listed n stage k is told shown = absurd (true≢false (sym shown))
      gone-by answers.Missing n stage k is told shown = gone-absent past c.store n earlier (subst (ChecksAbsent past) is told)
      gone-by answers.Refused n stage k is told shown = absurd (true≢false (sym shown))
      gone-by answers.Unknown n stage k is told shown = absurd (true≢false (sym shown))

      fencing-told_by : (found : Option ServiceVersion) (call : CheckCall) (next : ℕ) (answer : Answer) (k : Known) → slice_get (named_in k.seen) next ≡ found
          → KnowsAt c k → IsFencing next k c.store (c.bridges i) → IsAnswer who past answer (Fencing call next) k (c.bridges i)
          → IsDone c (Fencing call next) (fencing_told found call next answer k)
      fencing-told_by None call next answer k e knows at told = (stays c k (Fencing call next) knows at, tt)
      fencing-told_by (Some n) call next answer k e knows at told =
          by-if (IsDone c (Fencing call next)) (is_other answer) _ _ (λ other. (stays c k (Fencing call next) knows at, tt))
          (λ service.
          by-if (IsDone c (Fencing call next)) (shows_gone n.version answer) _ _
          (λ shown.
          fencing-done c (Fencing call next) (next + 1) k knows
          (record {
            free = at.free;
            quiet = at.quiet;
            named = at.named;
            gone = gone-more (named_in k.seen) next c.store n e (gone-by answer n (Fencing call next) k e told shown) at.gone;
          }))
          (λ left. (
            checks-on c k (Fencing (check_behind call answer) next) (check_behind call answer) knows
                (record { free = at.free; quiet = at.quiet; named = at.named; gone = at.gone }),
            tt,
          )))

      listing-done : (answer : Answer) (k : Known) → KnowsAt c k → IsAt Listing k c.store (c.bridges i) → IsTaken c answer Listing (listing_told answer k)
      listing-done (answers.Lease lease) k knows at = (stays c k Listing knows at, tt)
      listing-done (answers.At version) k knows at = (stays c k Listing knows at, tt)
      listing-done answers.Listed k knows at = (stays c k (Free Idle) knows at.free, tt)
      listing-done answers.Missing k knows at = (stays c k Listing knows at, tt)
      listing-done answers.Refused k knows at = (stays c k Listing knows at, tt)
      listing-done answers.Unknown k knows at = (stays c k Listing knows at, tt)

      sent-done : (answer : Answer) (put : Put) (k : Known) → KnowsAt c k → IsOut put (c.bridges i) → IsAnswer who past answer (Sent put) k (c.bridges i)
          → IsTaken c answer (Sent put) (sent_told put answer k)
      sent-done (answers.Lease lease) put k knows at told = (stays c k (Sent put) knows at, tt)
      sent-done (answers.At version) put k knows at told = (hears who i c version (forgets put k) (Free Idle) (forgets-knows c put k knows) told.1 (λ b free. free), tt)
      sent-done answers.Listed put k knows at told = (stays c k (Sent put) knows at, tt)
      sent-done answers.Missing put k knows at told = (stays c k (Checking put checks.Get 0) knows at, tt)
      sent-done answers.Refused put k knows at told = (stays c k (Checking put checks.Get 0) knows at, tt)
      sent-done answers.Unknown put k knows at told = (stays c k (Checking put checks.Get 0) knows at, tt)

      owes-knows : (put : Put) (k : Known) → KnowsAt c k → KnowsAt c (owes put k)
      owes-knows put k knows =
          record { named = knows.named; asked = knows.asked; seen = knows.seen; owed = covered-and put k c.store (c.bridges i).late knows.owed }

      checking-on_by : (call : CheckCall) (put : Put) (tries : ℕ) (old : Stage) (k : Known) → put_of old ≡ Some put → KnowsAt c k → IsOut put (c.bridges i) → IsDone c old (checking_on call put tries k)
      checking-on_by checks.Touch put tries old k is knows at = (stays c k (Checking put checks.Touch tries) knows at, tt)
      checking-on_by checks.Get put tries old k is knows at =
          by-if (IsDone c old) (ltb tries 2) _ _ (λ more. (stays c k (Checking put checks.Get (tries + 1)) knows at, tt))
          (λ last. (
            subst (λ (found : Option Put). IsFollowed who i (gives_up i found) c (record { known = owes put k; stage = Free Idle })) (sym is)
                (gives-up who i c put (owes put k) (Free Idle) (owes-knows put k knows) at.out at.wants (inr (named-and put k)) (λ b free. free)),
            tt,
          ))

      checking-told_by : (answer : Answer) (put : Put) (call : CheckCall) (tries : ℕ) (k : Known) → KnowsAt c k → IsOut put (c.bridges i)
          → IsAnswer who past answer (Checking put call tries) k (c.bridges i) → IsDone c (Checking put call tries) (checking_told put call tries answer k)
      checking-told_by answer put call tries k knows at told =
          let old : Stage = Checking put call tries in
          by-if (IsDone c old) (is_other answer) _ _ (λ other. (stays c k old knows at, tt))
          (λ service.
          by-if (IsDone c old) (shows_gone put.version answer) _ _
          (λ shown. (
            gives-up who i c put (sees_gone put k) (Free Idle) (sees-knows c put k knows) at.out at.wants
                (inl (gone-by answer (named_by put) old k refl told shown)) (λ b free. free),
            tt,
          ))
          (λ left. checking-on_by (check_behind call answer) put tries old k refl knows at))

      -- ---- what is owed

      behind-done : (old : Stage) (call : CheckCall) (put : Option Put) (k : Known) → KnowsAt c k → IsAt (Chasing call put) k c.store (c.bridges i)
          → IsDone c old (behind_chase put k)
      behind-done old call None k knows at = (stays c k (Free Idle) knows at, tt)
      behind-done old call (Some put) k knows at = wanted-by c old k.seen put k refl knows at

      -- of what is owed then the put that is awaited isn't one either
      chasing-at : (call : CheckCall) (put : Option Put) (k : Known) (owed : List ServiceVersion)
          → ((p : Put) → is_owed p k ≡ false → (let next : Known = record k { owed = owed } in is_owed p next ≡ false))
          → IsAt (Chasing call put) k c.store (c.bridges i) → (let next : Known = record k { owed = owed } in IsAt (Chasing call put) next c.store (c.bridges i))
      chasing-at call None k owed none at = at
      chasing-at call (Some put) k owed none at = record { free = at.free; wants = at.wants; unowed = none put at.unowed }

      chasing-told_on : (behind : CheckCall) (call : CheckCall) (put : Option Put) (old : Stage) (k : Known) → KnowsAt c k
          → IsAt (Chasing call put) k c.store (c.bridges i) → IsDone c old (chasing_on behind put k)
      chasing-told_on checks.Touch call None old k knows at = (stays c k (Chasing checks.Touch None) knows at, tt)
      chasing-told_on checks.Touch call (Some put) old k knows at = (stays c k (Chasing checks.Touch (Some put)) knows at, tt)
      chasing-told_on checks.Get call put old k knows at =
          let next : Known = record k { owed = first_last k.owed } in
          behind-done old call put next
          (record { named = knows.named; asked = knows.asked; seen = knows.seen; owed = covered-round k.owed c.store (c.bridges i).late knows.owed })
          (chasing-at call put k (first_last k.owed) (λ p none. unowed-round p k.owed none) at)

      chasing-told_by : (found : Option ServiceVersion) (call : CheckCall) (put : Option Put) (answer : Answer) (k : Known) → slice_get k.owed 0 ≡ found
          → KnowsAt c k → IsAt (Chasing call put) k c.store (c.bridges i) → IsAnswer who past answer (Chasing call put) k (c.bridges i)
          → IsDone c (Chasing call put) (chasing_told found call put answer k)
      chasing-told_by None call put answer k e knows at told = (stays c k (Chasing call put) knows at, tt)
      chasing-told_by (Some n) call put answer k e knows at told =
          let old : Stage = Chasing call put in
          by-if (IsDone c old) (is_other answer) _ _ (λ other. (stays c k old knows at, tt))
          (λ service.
          by-if (IsDone c old) (shows_gone n.version answer) _ _
          (λ shown.
          (let next : Known = record k { owed = but_first k.owed } in
          behind-done old call put next
          (record {
            named = knows.named;
            asked = knows.asked;
            seen = knows.seen;
            owed = covered-rest k.owed n c.store (c.bridges i).late e (gone-by answer n old k e told shown) knows.owed;
          })
          (chasing-at call put k (but_first k.owed) (λ p none. unowed-rest p k.owed none) at)))
          (λ left. chasing-told_on (check_behind call answer) call put old k knows at))

      relisting-done : (answer : Answer) (k : Known) → KnowsAt c k → IsAt Relisting k c.store (c.bridges i)
          → IsTaken c answer Relisting (relisting_told answer k)
      relisting-done (answers.Lease lease) k knows at = (stays c k Relisting knows at, tt)
      relisting-done (answers.At version) k knows at = (stays c k Relisting knows at, tt)
      relisting-done answers.Listed k knows at = (stays c k (Free Idle) knows at.0, tt)
      relisting-done answers.Missing k knows at = (stays c k Relisting knows at, tt)
      relisting-done answers.Refused k knows at = (stays c k Relisting knows at, tt)
      relisting-done answers.Unknown k knows at = (stays c k Relisting knows at, tt)

      answered-done : (stage : Stage) (answer : Answer) (k : Known) → KnowsAt c k → IsAt stage k c.store (c.bridges i)
          → IsAnswer who past answer stage k (c.bridges i) → IsTaken c answer stage (answered stage answer k)
      answered-done (Waiting Idle) answer k knows at told = unread answer (Waiting Idle) (answered (Waiting Idle) answer k) refl (stays c k (Waiting Idle) knows at, tt)
      answered-done (Waiting Read) answer k knows at told = waiting-read_done answer k knows at told
      answered-done (Waiting Change) answer k knows at told = waiting-change_done answer k knows at told
      answered-done (Fencing call next) answer k knows at told =
          unread answer (Fencing call next) (answered (Fencing call next) answer k) refl (fencing-told_by (slice_get (named_in k.seen) next) call next answer k refl knows at told)
      answered-done Listing answer k knows at told = listing-done answer k knows at
      answered-done (Free Idle) answer k knows at told = unread answer (Free Idle) (answered (Free Idle) answer k) refl (stays c k (Free Idle) knows at, tt)
      answered-done (Free Read) answer k knows at told = free-read_done answer k knows at told
      answered-done (Free Change) answer k knows at told = free-change_done answer k knows at told
      answered-done (Naming put Idle) answer k knows at told = unread answer (Naming put Idle) (answered (Naming put Idle) answer k) refl (stays c k (Naming put Idle) knows at, tt)
      answered-done (Naming put Read) answer k knows at told = naming-read_done answer put k knows at told
      answered-done (Naming put Change) answer k knows at told = naming-change_done answer put k knows at told
      answered-done (Sent put) answer k knows at told = sent-done answer put k knows at told
      answered-done (Checking put call tries) answer k knows at told =
          unread answer (Checking put call tries) (answered (Checking put call tries) answer k) refl (checking-told_by answer put call tries k knows at told)
      answered-done (Chasing call put) answer k knows at told =
          unread answer (Chasing call put) (answered (Chasing call put) answer k) refl (chasing-told_by (slice_get k.owed 0) call put answer k refl knows at told)
      answered-done Relisting answer k knows at told = relisting-done answer k knows at
      answered-done Lost answer k knows at told = unread answer Lost (answered Lost answer k) refl (stays c k Lost knows tt, tt)

-- ---- all of it

pub fence_follows : FenceFollows
fence_follows who i past c f inputs.Tick earlier follows told = ticked-done who i c f.stage f.known follows.knows follows.at
fence_follows who i past c f inputs.Renew earlier follows told = renewed-done who i c f.stage f.known follows.knows follows.at
fence_follows who i past c f (inputs.Lapsed version) earlier follows told = lapsed-done who i c f.stage version f.known follows.knows follows.at
fence_follows who i past c f inputs.Chase earlier follows told = chased-done who i c f.stage f.known follows.knows follows.at
fence_follows who i past c f inputs.Relist earlier follows told = relisted-done who i c f.stage f.known follows.knows follows.at
fence_follows who i past c f (inputs.Put put) earlier follows wants = wanted-done who i c f.stage put f.known follows.knows follows.at wants
fence_follows who i past c f (inputs.Answer answer) earlier follows told =
    answered-done who i c past earlier f.stage answer f.known follows.knows follows.at told
