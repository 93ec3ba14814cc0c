-- The program of each bridge goes through a run of its core.
use Rattle.std.proofs.Common.{◌≡◌, ◌≢◌, ◌⊎◌, inl, inr, ⊎_elim, ℕ, ◌+◌, Bool, true, false, cond, eqb, List, [], ◌∷◌, ◌++◌, map, Option, Some, None, is_some}
use Rattle.std.proofs.Common.{refl, sym, ap, subst, ◌∙◌}
use Rattle.std.proofs.lemmas.Bool.{true≢false, eqb-true}
use Rattle.kube_model.specs.declared.reply.PutReply.{PutReply}
use Rattle.kube_model.specs.declared.reply.PutReply.TheVariants as replies
use Rattle.core_rules.specs.Core.{State, fresh}
use Rattle.core_rules.specs.Replied.{core_reply}
use Rattle.core_rules.specs.Run.{TranscriptEntry, core_after, IsRun}
use Rattle.core_rules.specs.Turn.{core_turn, after_turn, put_in}
use Rattle.core_rules.proofs.Runs.{heard-out}
use Rattle.world_rules.specs.Explaining.{IsRunning, answered as but_unanswered, puts_of}
use Rattle.world_rules.specs.Moves.{Move, Sets, Deletes, Tells, Takes, Turns, Stops, Starts as StartsAnew, ConfigExpires, ServicesExpire, EndsLater, Lands}
use Rattle.world_rules.specs.Moves.{after_move, entries_of}
use Rattle.world_rules.specs.World.{WorldValue, next_put}
use Rattle.world_rules.proofs.Explaining.{GoesThrough, act_of, acts-normal, answered-run, move-through, normal, normal-leads, puts-normal, same-runs}
use Rattle.fence_rules.specs.Among.{RunsAreSafeAmongOthers, after_all, entries_at, entries_heard, run_at}
use Rattle.fence_rules.specs.Cluster.{Phase, Free, Sent, Carried, Bridge, Cluster, Happening, Edits, Carries, Changes, Gives, Reads, Asks, Starts, Does, Sends, Hears, GivesUp}
use Rattle.fence_rules.specs.Cluster.{IsOwnMove, MayHappen, MayAllHappen, after, answered, carried_out, first_cluster, world_of}
use Rattle.fence_rules.proofs.Safe.{clusters_are_safe}
use Rattle.fence_rules.proofs.Worlds.{edit-core, stays-down}

-- whoever has a put out wants it still
abbrev IsWaiting : Phase → Option State → Type 0
IsWaiting phase core = phase ≢ Free → is_some (next_put core) ≡ true

-- the core is that of the run, and has no put out
record RunsAs (class : Option (List ℕ)) (core : Option State) (run : List TranscriptEntry) : Type 0 where
  pub is : IsRun class run
  pub core_is : core ≡ Some (core_after class run)
  pub none : (core_after class run).out ≡ None

-- what holds of a bridge and its program's run
record IsRunOf (class : Option (List ℕ)) (b : Bridge) (run : List TranscriptEntry) : Type 0 where
  pub runs : ((b.core ≡ None) × (run ≡ [])) ⊎ RunsAs class b.core run
  pub waiting : IsWaiting b.phase b.core

own-running : (move : Move) → IsOwnMove move → IsRunning move
own-running (Sets object holding) is = absurd is
own-running (Deletes kind key) is = absurd is
own-running (Tells event) is = tt
own-running Takes is = tt
own-running (Turns outcome) is = tt
own-running (Stops applied) is = absurd is
own-running (StartsAnew list) is = absurd is
own-running ConfigExpires is = tt
own-running (ServicesExpire list) is = tt
own-running (EndsLater before event behind) is = tt
own-running (Lands put) is = absurd is

-- nothing happens to a program that isn't started
down-entries : (move : Move) → IsOwnMove move → (w : WorldValue) → w.core ≡ None → entries_of move w ≡ []
down-entries (Sets object holding) is w down = absurd is
down-entries (Deletes kind key) is w down = absurd is
down-entries (Tells event) is w down = rw down refl
down-entries Takes is w down = rw down refl
down-entries (Turns outcome) is w down = rw down refl
down-entries (Stops applied) is w down = absurd is
down-entries (StartsAnew list) is w down = absurd is
down-entries ConfigExpires is w down = rw down refl
down-entries (ServicesExpire list) is w down = rw down refl
down-entries (EndsLater before event behind) is w down = refl
down-entries (Lands put) is w down = absurd is

pub carried-free : (here : Bool) (version : ℕ) (phase : Phase) → phase ≡ Free → carried_out here version phase ≡ Free
carried-free true version Free e = refl
carried-free true version Sent e = absurd (cc)
carried-free true version (Carried earlier) e = e
carried-free false version phase e = e

module _ (class : Option (List ℕ)) where
  own-runs : (move : Move) → IsOwnMove move → (w : WorldValue) (run : List TranscriptEntry) → w.class ≡ class
      → ((w.core ≡ None) × (run ≡ [])) ⊎ RunsAs class w.core run
      → (((after_move move w).core ≡ None) × (entries_of move w ++ run ≡ [])) ⊎ RunsAs class (after_move move w).core (entries_of move w ++ run)
  own-runs move is w run of =
      ⊎_elim
      (λ (d : (w.core ≡ None) × (run ≡ [])).
      inl (stays-down move is w d.0, ap (λ (es : List TranscriptEntry). es ++ run) (down-entries move is w d.0) ∙ d.1))
      (λ (r : RunsAs class w.core run).
      (let g : GoesThrough class (after_move move w) (entries_of move w ++ run) =
      move-through class move w run (own-running move is) (record { class_is = of; is = r.is; core = r.core_is; none = r.none }) in
      inr (record { is = g.is; core_is = g.core; none = g.none })))

  heard-runs : (core : Option State) (run : List TranscriptEntry) (reply : PutReply) → is_some (next_put core) ≡ true
      → ((core ≡ None) × (run ≡ [])) ⊎ RunsAs class core run
      → RunsAs class (answered core reply) (entries_heard core reply ++ run)
  heard-runs None run reply wants is = absurd (true≢false (sym wants))
  heard-runs (Some s) run reply wants is =
      ⊎_elim (λ (d : (Some s ≡ None) × (run ≡ [])). (let none : Some s ≡ None = d.0 in absurd (cc)))
      (λ (r : RunsAs class (Some s) run). heard r (let e : Some s ≡ Some (core_after class run) = r.core_is in cc)) is
    where
      heard : RunsAs class (Some s) run → s ≡ core_after class run → RunsAs class (answered (Some s) reply) (entries_heard (Some s) reply ++ run)
      heard r e =
          let t = core_after class run in
          let out : is_some (after_turn t).out ≡ true = subst (λ (x : State). is_some (put_in (core_turn x)) ≡ true) e wants in
          record {
            is = (out, ((r.none, ap core_turn e), r.is));
            core_is = ap (λ (x : State). Some (core_reply (after_turn x) reply)) e;
            none = heard-out (after_turn t).out reply (after_turn t) out;
          }

  -- ---- one step
  one-quiet : (i j : ℕ) (next : Bridge) (c : Cluster) (run : List TranscriptEntry) (here : Bool) → eqb j i ≡ here → IsRunOf class (c.bridges j) run
      → (IsRunOf class (c.bridges i) run → IsRunOf class next run) → IsRunOf class (cond here next (c.bridges j)) run
  one-quiet i j next c run true e of step = step (subst (λ (k : ℕ). IsRunOf class (c.bridges k) run) (eqb-true j i e) of)
  one-quiet i j next c run false e of step = of

  one-heard : (i j : ℕ) (next : Bridge) (c : Cluster) (entries run : List TranscriptEntry) (here : Bool) → eqb j i ≡ here → IsRunOf class (c.bridges j) run
      → (IsRunOf class (c.bridges i) run → IsRunOf class next (entries ++ run)) → IsRunOf class (cond here next (c.bridges j)) (cond here entries [] ++ run)
  one-heard i j next c entries run true e of step = step (subst (λ (k : ℕ). IsRunOf class (c.bridges k) run) (eqb-true j i e) of)
  one-heard i j next c entries run false e of step = of

  free-waiting : (core : Option State) → IsWaiting Free core
  free-waiting core out = absurd (out refl)

  started-runs : (core : Option State) (of_class : Option (List ℕ)) (run : List TranscriptEntry) → core ≡ None → of_class ≡ class
      → ((core ≡ None) × (run ≡ [])) ⊎ RunsAs class core run → RunsAs class (Some (fresh of_class)) run
  started-runs core of_class run down of is =
      ⊎_elim (λ (d : (core ≡ None) × (run ≡ [])). begins d.1)
      (λ (r : RunsAs class core run). (let e : None ≡ Some (core_after class run) = sym down ∙ r.core_is in absurd (cc))) is
    where
      begins : run ≡ [] → RunsAs class (Some (fresh of_class)) run
      begins empty =
          subst (RunsAs class (Some (fresh of_class))) (sym empty)
          (record { is = tt; core_is = ap (λ (x : Option (List ℕ)). Some (fresh x)) of; none = refl })

  step-run : (happening : Happening) (c : Cluster) (j : ℕ) (run : List TranscriptEntry) → MayHappen happening c → c.class ≡ class
      → IsRunOf class (c.bridges j) run → IsRunOf class ((after happening c).bridges j) (entries_at happening j c ++ run)
  step-run (Edits move) c j run may of is =
      let same = sym (edit-core move may.0 (world_of c.class c.store (c.bridges j))) in
      record {
        runs = subst (λ (core : Option State). ((core ≡ None) × (run ≡ [])) ⊎ RunsAs class core run) same is.runs;
        waiting = subst (IsWaiting (c.bridges j).phase) same is.waiting;
      }
  step-run (Carries by put) c j run may of is = record {
    runs = is.runs;
    waiting = λ out. is.waiting (λ free. out (carried-free _ (c.store.counter + 1) (c.bridges j).phase free));
  }
  step-run (Changes by ask version) c j run may of is = is
  step-run (Gives i) c j run may of is =
      let b = c.bridges i in
      one-quiet i j (record b { given = c.lease }) c run (eqb j i) refl is (λ own. record { runs = own.runs; waiting = own.waiting })
  step-run (Reads i) c j run may of is =
      let b = c.bridges i in
      one-quiet i j (record b { seen = b.given }) c run (eqb j i) refl is (λ own. record { runs = own.runs; waiting = own.waiting })
  step-run (Asks i named) c j run may of is =
      let b = c.bridges i in
      one-quiet i j (record b { ask = record { at = b.seen.version; named = named } }) c run (eqb j i) refl is
      (λ own. record { runs = own.runs; waiting = own.waiting })
  step-run (Starts i list) c j run may of is =
      let b = c.bridges i in
      one-quiet i j (record b { core = Some (fresh c.class); lane = list; given = b.seen; phase = Free; late = [] }) c run (eqb j i) refl is
      (λ own. record { runs = inr (started-runs b.core c.class run may.down of own.runs); waiting = free-waiting (Some (fresh c.class)) })
  step-run (Does i move) c j run may of is =
      let b = c.bridges i in
      let w = world_of c.class c.store b in
      one-heard i j (record b { lane = (after_move move w).service_lane; core = (after_move move w).core }) c (entries_of move w) run (eqb j i) refl is
      (λ own. record { runs = own-runs move may.own w run of own.runs; waiting = λ out. absurd (out may.free) })
  step-run (Sends i put) c j run may of is =
      let b = c.bridges i in
      one-quiet i j (record b { phase = Sent }) c run (eqb j i) refl is (λ own. record { runs = own.runs; waiting = λ out. ap is_some may.wants })
  step-run (Hears i version) c j run may of is =
      let b = c.bridges i in
      one-heard i j (record b { core = answered b.core (replies.Ok version); phase = Free }) c (entries_heard b.core (replies.Ok version)) run (eqb j i) refl is
      (λ own. record {
        runs = inr (heard-runs b.core run (replies.Ok version) (own.waiting (λ free. (let e : Carried version ≡ Free = sym may ∙ free in absurd (cc)))) own.runs);
        waiting = free-waiting (answered b.core (replies.Ok version));
      })
  step-run (GivesUp i put) c j run may of is =
      let b = c.bridges i in
      one-heard i j (record b { core = answered b.core replies.Unknown; phase = Free; late = put ∷ b.late }) c (entries_heard b.core replies.Unknown) run (eqb j i) refl is
      (λ own. record {
        runs = inr (heard-runs b.core run replies.Unknown (ap is_some may.wants) own.runs);
        waiting = free-waiting (answered b.core replies.Unknown);
      })

  after-class : (happening : Happening) (c : Cluster) → (after happening c).class ≡ c.class
  after-class (Edits move) c = refl
  after-class (Carries by put) c = refl
  after-class (Changes by ask version) c = refl
  after-class (Gives i) c = refl
  after-class (Reads i) c = refl
  after-class (Asks i named) c = refl
  after-class (Starts i list) c = refl
  after-class (Does i move) c = refl
  after-class (Sends i put) c = refl
  after-class (Hears i version) c = refl
  after-class (GivesUp i put) c = refl

  steps-run : (happenings : List Happening) (c : Cluster) (j : ℕ) (run : List TranscriptEntry) → MayAllHappen happenings c → c.class ≡ class
      → IsRunOf class (c.bridges j) run → IsRunOf class ((after_all happenings c).bridges j) (run_at happenings j c run)
  steps-run [] c j run may of is = is
  steps-run (happening ∷ more) c j run may of is =
      steps-run more (after happening c) j (entries_at happening j c ++ run) may.1 (after-class happening c ∙ of) (step-run happening c j run may.0 of is)

  up-runs : (core : Option State) (run : List TranscriptEntry) → core ≢ None → ((core ≡ None) × (run ≡ [])) ⊎ RunsAs class core run → RunsAs class core run
  up-runs core run up is = ⊎_elim (λ (d : (core ≡ None) × (run ≡ [])). absurd (up d.0)) (λ (r : RunsAs class core run). r) is

pub runs_are_safe_among_others : RunsAreSafeAmongOthers
runs_are_safe_among_others class run is store happenings j ex =
    let c = first_cluster class store in
    let along = run_at happenings j c [] in
    let last = (after_all happenings c).bridges j in
    let through : IsRunOf class last along = steps-run class happenings c j [] ex.may refl (record { runs = inl (refl, refl); waiting = free-waiting class None }) in
    let runs : RunsAs class last.core along = up-runs class last.core along ex.up through.runs in
    let mine = normal-leads class along runs.is in
    let theirs = normal-leads class (but_unanswered run) (answered-run class run is) in
    let acts : map act_of (normal along) ≡ map act_of (normal (but_unanswered run)) = acts-normal along ∙ ex.same ∙ sym (acts-normal (but_unanswered run)) in
    let same : normal along ≡ normal (but_unanswered run) = same-runs class (normal along) (normal (but_unanswered run)) mine.0 theirs.0 acts in
    let cores : core_after class along ≡ core_after class (but_unanswered run) = sym mine.1 ∙ ap (core_after class) same ∙ theirs.1 in
    record {
      core = runs.core_is ∙ ap Some cores;
      puts = sym (puts-normal along) ∙ ap puts_of same ∙ puts-normal (but_unanswered run);
      safe = clusters_are_safe class store happenings ex.good ex.may;
    }
