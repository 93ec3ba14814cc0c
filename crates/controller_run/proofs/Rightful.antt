-- What the lines of a stream lead to is a run of the core, so its transcript is sound, and a run that is done leaves nothing waiting.
use Rattle.std.proofs.Common.{◌≡◌, ℕ, ◌+◌, Bool, true, false, cond, List, [], ◌∷◌, ◌++◌, Option, Some, None, Result, Ok, Err, inl, inr, is_some, refl, ap}
use Rattle.kube_model.specs.declared.event.Event.{Event}
use Rattle.kube_model.specs.declared.event.EventFault.{EventFault}
use Rattle.kube_model.specs.declared.put.Put.{Put}
use Rattle.kube_model.specs.declared.reply.PutReply.{PutReply}
use Rattle.kube_model.specs.declared.status.Status.TheVariants.{Done, Limit}
use Rattle.kube_model.specs.declared.status.What.TheVariants as whats
use Rattle.kube_events.specs.Event.{event_of_line}
use Rattle.kube_lines.specs.ReplyLines.{reply_of}
use Rattle.core_rules.specs.Core.{State, fresh}
use Rattle.core_rules.specs.Take.{limits}
use Rattle.core_rules.specs.Run.{TranscriptEntry as CoreEntry, IsRun}
use Rattle.core_laws.specs.Shared.{AllShowTerms}
use Rattle.core_drive.specs.Drive.{Driven, TranscriptEntry, taking, hearing, core_entry, behind}
use Rattle.core_drive.specs.Sound.{IsSound, LeadsTo}
use Rattle.core_drive.proofs.Goes.{begins_fresh, events_go_on, replies_go_on, drives_are_sound, drives_are_quiet}
use Rattle.core_drive.proofs.Settled.{drives_are_settled}
use Rattle.fence_rules.proofs.Among.{runs_are_safe_among_others}
use Rattle.settling_laws.proofs.Explained.{runs_settle_worlds}
use Rattle.settling_laws.proofs.Staying.{runs_keep_addresses}
use Rattle.world_rules.proofs.Explaining.{runs_are_safe_in_worlds}
use Rattle.line_run.specs.Machine.{Transition, Goes, Stops}
use Rattle.line_run.specs.Run.{run_from, status_at}
use Rattle.line_run.proofs.Kept.{Kept, StopsIn, run-keeps}
use Rattle.line_run.specs.RunOutput.{StopsAs}
use Rattle.mlb_edge.specs.declared.lines.Line.{Line}
use Rattle.mlb_edge.specs.InputLines.{Ending, Whole, LongLine, LongInput, input_of}
use Rattle.shown_service_laws.proofs.EventTerms.{events_show_terms, events_show_families}
use Rattle.object_cache.specs.Limits.{most_services}
use Rattle.controller_run.specs.Causes.{line_causes}
use Rattle.controller_run.specs.Stream.{goes_by, arrival, event_step, reply_step, step_where, controller_rules, end_of}
use Rattle.controller_run.specs.Sound.{IsSafeThroughout, SettlesThroughout, KeepsThroughout, LeavesNothing, EndsQuiet}

module _ (class : Option (List ℕ)) where
  -- what goes on from a core goes on from what was told of it
  abbrev pub GoesOn : State → Transition State TranscriptEntry → Type 0
  GoesOn s step = (next : State) (entries told : List TranscriptEntry) → step ≡ Goes next entries → LeadsTo class told s → LeadsTo class (told ++ entries) next

  pub by_driven : (d : Driven) (next : State) (entries told : List TranscriptEntry) → goes_by d ≡ Goes next entries → LeadsTo class (told ++ d.entries) d.core
      → LeadsTo class (told ++ entries) next
  by_driven d next entries told e leads =
      let core : d.core ≡ next = cc in
      let same : d.entries ≡ entries = cc in
      rw (← core, ← same) leads

  within_goes : (b : Bool) (s : State) (bytes : List ℕ) (event : Event) → s.out ≡ None → event_of_line bytes ≡ Ok event
      → GoesOn s (cond b (Stops (Limit whats.Services (most_services + 1))) (goes_by (taking s event)))
  within_goes true s bytes event none reads next entries told e leads = absurd (cc)
  within_goes false s bytes event none reads next entries told e leads =
      by_driven (taking s event) next entries told e
      (events_go_on class told s event leads none (events_show_terms bytes event reads) (events_show_families bytes event reads))

  pub arrival_goes : (s : State) (bytes : List ℕ) (event : Event) → s.out ≡ None → event_of_line bytes ≡ Ok event → GoesOn s (arrival s event)
  arrival_goes s bytes event none reads = within_goes (limits s event) s bytes event none reads

  event_goes : (read : Result Event EventFault) (s : State) (line : Line) → s.out ≡ None → event_of_line line.bytes ≡ read → GoesOn s (event_step s line read)
  event_goes (Err fault) s line none reads next entries told e leads = absurd (cc)
  event_goes (Ok event) s line none reads next entries told e leads = arrival_goes s line.bytes event none reads next entries told e leads

  reply_goes : (read : Option PutReply) (put : Put) (s : State) (line : Line) → s.out ≡ Some put → GoesOn s (reply_step s line read)
  reply_goes None put s line out next entries told e leads = absurd (cc)
  reply_goes (Some reply) put s line out next entries told e leads =
      by_driven (hearing s reply) next entries told e (replies_go_on class told s reply leads (ap is_some out))

  pub where_goes : (o : Option Put) (s : State) (line : Line) → s.out ≡ o → GoesOn s (step_where o s line)
  where_goes None s line out = event_goes (event_of_line line.bytes) s line out refl
  where_goes (Some put) s line out = reply_goes (reply_of put line.bytes) put s line out

  -- the transcript of a stream leads to a state
  leads_in : (lines : List Line) (ending : Ending) → Kept controller_rules (LeadsTo class) [] (run_from controller_rules lines ending (fresh class))
  leads_in lines ending =
      run-keeps controller_rules (LeadsTo class) (λ s next line entries told e leads. where_goes s.out s line refl next entries told e leads)
      lines ending (fresh class) [] (begins_fresh class)

  -- so it is sound
  pub sound_in : (lines : List Line) (ending : Ending) → IsSound class (run_from controller_rules lines ending (fresh class)).entries
  sound_in lines ending = let led = leads_in lines ending in
      drives_are_sound class (run_from controller_rules lines ending (fresh class)).entries led.state led.kept

  -- a beginning of a run is one
  begun_run : (later : List TranscriptEntry) (earlier : List CoreEntry) → IsRun class (behind later earlier) → IsRun class earlier
  begun_run [] earlier is = is
  begun_run (entry ∷ later) earlier is = (begun_run later (core_entry entry ∷ earlier) is).1

  pub beginning_run : (first later : List TranscriptEntry) (earlier : List CoreEntry) → IsRun class (behind (first ++ later) earlier)
      → IsRun class (behind first earlier)
  beginning_run [] later earlier is = begun_run later earlier is
  beginning_run (entry ∷ first) later earlier is = beginning_run first later (core_entry entry ∷ earlier) is

  -- and what it was shown has terms
  begun_terms : (later : List TranscriptEntry) (earlier : List CoreEntry) → AllShowTerms (behind later earlier) → AllShowTerms earlier
  begun_terms [] earlier all = all
  begun_terms (entry ∷ later) earlier all = (begun_terms later (core_entry entry ∷ earlier) all).1

  pub beginning_terms : (first later : List TranscriptEntry) (earlier : List CoreEntry) → AllShowTerms (behind (first ++ later) earlier)
      → AllShowTerms (behind first earlier)
  beginning_terms [] later earlier all = begun_terms later earlier all
  beginning_terms (entry ∷ first) later earlier all = beginning_terms first later (core_entry entry ∷ earlier) all

  -- what leads to a core is safe in every world
  pub safe_led : (told : List TranscriptEntry) (s : State) → LeadsTo class told s → IsSafeThroughout class told
  safe_led told s leads first later e =
      let run = beginning_run first later [] (rw e at leads.is) in (
        runs_are_safe_in_worlds class (behind first []) run (beginning_terms first later [] (rw e at leads.typed)),
        runs_are_safe_among_others class (behind first []) run,
      )

  -- which settles when it is left alone
  pub settles_led : (told : List TranscriptEntry) (s : State) → LeadsTo class told s → SettlesThroughout class told
  settles_led told s leads first later e =
      runs_settle_worlds class (behind first []) (beginning_run first later [] (rw e at leads.is)) (beginning_terms first later [] (rw e at leads.typed))

  -- and along it addresses stay
  pub stays_led : (told : List TranscriptEntry) (s : State) → LeadsTo class told s → KeepsThroughout class told
  stays_led told s leads first later e =
      runs_keep_addresses class (behind first []) (beginning_run first later [] (rw e at leads.is)) (beginning_terms first later [] (rw e at leads.typed))

  -- and so is the stream
  pub settles_in : (lines : List Line) (ending : Ending) → SettlesThroughout class (run_from controller_rules lines ending (fresh class)).entries
  settles_in lines ending =
      let led = leads_in lines ending in settles_led (run_from controller_rules lines ending (fresh class)).entries led.state led.kept

  pub stays_in : (lines : List Line) (ending : Ending) → KeepsThroughout class (run_from controller_rules lines ending (fresh class)).entries
  stays_in lines ending = let led = leads_in lines ending in stays_led (run_from controller_rules lines ending (fresh class)).entries led.state led.kept

  pub safe_in : (lines : List Line) (ending : Ending) → IsSafeThroughout class (run_from controller_rules lines ending (fresh class)).entries
  safe_in lines ending = let led = leads_in lines ending in safe_led (run_from controller_rules lines ending (fresh class)).entries led.state led.kept

  ends_done : (o : Option Put) → Done ≡ end_of o → o ≡ None
  ends_done None e = refl
  ends_done (Some put) e = absurd (cc)

  at_ending : (ending : Ending) (s : State) → Done ≡ status_at controller_rules ending s → s.out ≡ None
  at_ending Whole s e = ends_done s.out e
  at_ending (LongLine number) s e = absurd (cc)
  at_ending LongInput s e = absurd (cc)

  -- a run that is done stops where no put is in flight
  done_in : (s : State) → StopsIn controller_rules s Done → s.out ≡ None
  done_in s (inl ended) = at_ending ended.0 s ended.1
  done_in s (inr stopped) = absurd ((line_causes s stopped.0 Done stopped.1).0)

  -- and nothing is left waiting
  pub led_quiet : (told : List TranscriptEntry) (s : State) → LeadsTo class told s → s.out ≡ None → LeavesNothing class told
  led_quiet told s leads none = record { quiet = drives_are_quiet class told s leads none; settled = drives_are_settled class told s leads none }

  quiet_in : (lines : List Line) (ending : Ending) → (run_from controller_rules lines ending (fresh class)).stop ≡ Done
      → LeavesNothing class (run_from controller_rules lines ending (fresh class)).entries
  quiet_in lines ending done =
      let led = leads_in lines ending in
      let stops : StopsIn controller_rules led.state Done = rw done at led.stops in
      led_quiet (run_from controller_rules lines ending (fresh class)).entries led.state led.kept (done_in led.state stops)

  pub quiet_where_done : (left before after : Option (List ℕ)) → StopsAs controller_rules (fresh class) left before after Done
      → EndsQuiet class left before after
  quiet_where_done None before after stops =
      record { lines = stops.0; ending = stops.1; stops = stops.2; quiet = quiet_in stops.0 stops.1 stops.2.0 }
  quiet_where_done (Some bytes) before after stops = quiet_in (input_of bytes).lines (input_of bytes).ending stops.0
