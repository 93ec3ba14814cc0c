use Rattle.std.proofs.Common.{ℕ, List, Err, inr, refl, ap, subst, ◌∙◌}
use Rattle.mlb_edge.specs.Failed.{times, with_failed}
use Rattle.mlb_edge.specs.Reading.{Reading}
use Rattle.lane_run.specs.Outside.{outside, source_state}
use Rattle.lane_drive.specs.Asking.{AnswersAll, AsksOf, HasStopped}
use Rattle.lane_drive.specs.Sending.{turned}
use Rattle.lane_run.proofs.RanSo.{turned_none}
use Rattle.lane_drive.proofs.Left.{left_none, left_with}
use Rattle.lane_drive.proofs.Sent.{turned_lawful}
use Rattle.lane_drive.proofs.Complete.{complete}
use Rattle.lane_drive.proofs.Endings.{writes_none}
use Rattle.lane_drive.proofs.OverFiles as files
use Rattle.lane_drive.proofs.turned_files.run_turned_files.Goals as goal

pub run_opened-status-requires-clause-may : goal.run_opened-status-requires-clause-may
run_opened-status-requires-clause-may g c = λ _ _. record {
  live = λ i r o name more. c.requires.may.live i r o name (
    more.0,
    more.1,
    files.of_files c.args.first.now c.args.second.now _ _ _ _ _ _ _ _ _ _ _ _ _ _ c.in-Ok-open.ensures.opened c.in-Ok-open-2.ensures.opened
        (c.open.ensures.bytes c.args.second.now) (c.open.ensures.unfailing c.args.second.now) c.in-Ok.reader c.in-Ok.ensures
        (λ v v' reader. AsksOf (turned g.A.Turner.Turns g.B.Turner.Turns g.M.Lanes.belongs (g.A.Turner.state c.args.first_turner.now) more.0
        (g.B.Turner.state c.args.second_turner.now) more.1) g.M.LaneMachine.rules (g.M.LaneMachine.state c.args.machine) v v'
        (outside reader (source_state (g.I.PacedSource.left c.args.input.now) (g.I.PacedSource.name c.args.input.now) (g.I.PacedSource.faults c.args.input.now))
        (g.K.Sink.written c.args.out.now) (g.K.Sink.faults c.args.out.now))
        (outside r (source_state (g.I.PacedSource.left i) (g.I.PacedSource.name i) (g.I.PacedSource.faults i)) (g.K.Sink.written o) (g.K.Sink.faults o)))
        more.2,
  );
  waits = λ items out answers.
      c.requires.may.waits items out
      (subst
      (λ (reader : Reading). AnswersAll g.M.LaneMachine.rules (g.M.LaneMachine.state c.args.machine)
      (outside reader (source_state (g.I.PacedSource.left c.args.input.now) (g.I.PacedSource.name c.args.input.now) (g.I.PacedSource.faults c.args.input.now))
      (g.K.Sink.written c.args.out.now) (g.K.Sink.faults c.args.out.now))
      items (g.K.Sink.written out))
      c.in-Ok.ensures answers);
  drops = λ items out stopped.
      c.requires.may.drops items out
      (subst
      (λ (reader : Reading). HasStopped g.M.LaneMachine.rules (g.M.LaneMachine.state c.args.machine)
      (outside reader (source_state (g.I.PacedSource.left c.args.input.now) (g.I.PacedSource.name c.args.input.now) (g.I.PacedSource.faults c.args.input.now))
      (g.K.Sink.written c.args.out.now) (g.K.Sink.faults c.args.out.now))
      items (g.K.Sink.written out))
      c.in-Ok.ensures stopped);
}

pub returns-in_default-clause-ended : goal.returns-in_default-clause-ended
returns-in_default-clause-ended g c =
    λ other. files.ends_none turned_lawful g.M.LaneMachine.rules (g.M.LaneMachine.state c.args.machine) c.requires.quiet _ _ _ _ _ _ _ _ _ _ refl
    (turned_none g.A.Turner.Turns g.B.Turner.Turns g.M.Lanes.belongs _ _ _ _ _ _ refl refl)

pub returns-in_default-clause-only : goal.returns-in_default-clause-only
returns-in_default-clause-only g c =
    writes_none turned_lawful g.M.LaneMachine.rules (g.M.LaneMachine.state c.args.machine) _ _ _ _
    (turned_none g.A.Turner.Turns g.B.Turner.Turns g.M.Lanes.belongs _ _ _ _ _ _ refl refl)

pub returns-in-Err-clause-ended : goal.returns-in-Err-clause-ended
returns-in-Err-clause-ended g c = λ other.
    files.ends_none turned_lawful g.M.LaneMachine.rules (g.M.LaneMachine.state c.args.machine) c.requires.quiet _ _ _ _ _ _ _ _ _ c.status_of_open.result
    (files.memory_wants c.lane_name.result c.in-Err.end c.status_of_open.result c.status_of_open.ensures other)
    (turned_none g.A.Turner.Turns g.B.Turner.Turns g.M.Lanes.belongs _ _ _ _ _ _ refl refl)

pub returns-in-Err-clause-only : goal.returns-in-Err-clause-only
returns-in-Err-clause-only g c =
    writes_none turned_lawful g.M.LaneMachine.rules (g.M.LaneMachine.state c.args.machine) _ _ _ _
    (turned_none g.A.Turner.Turns g.B.Turner.Turns g.M.Lanes.belongs _ _ _ _ _ _ refl refl)

pub returns-in-Err-open-clause-ended : goal.returns-in-Err-open-clause-ended
returns-in-Err-open-clause-ended g c = λ other. files.ends_none turned_lawful g.M.LaneMachine.rules (g.M.LaneMachine.state c.args.machine) c.requires.quiet
    _ _ _ _ _ _ _ _ _ c.status_of_open-in-Err-open.result
    (files.memory_wants c.lane_name-in-Err-open.result c.in-Err-open.end c.status_of_open-in-Err-open.result c.status_of_open-in-Err-open.ensures other)
    (turned_none g.A.Turner.Turns g.B.Turner.Turns g.M.Lanes.belongs _ _ _ _ _ _ refl refl)

pub returns-in-Err-open-clause-only : goal.returns-in-Err-open-clause-only
returns-in-Err-open-clause-only g c =
    writes_none turned_lawful g.M.LaneMachine.rules (g.M.LaneMachine.state c.args.machine) _ _ _ _
    (turned_none g.A.Turner.Turns g.B.Turner.Turns g.M.Lanes.belongs _ _ _ _ _ _ refl refl)

pub returns-in-Ok-Ok-clause-ended : goal.returns-in-Ok-Ok-clause-ended
returns-in-Ok-Ok-clause-ended g c = λ other.
    let same = c.open-2.ensures.reads ∙ c.open.ensures.reads in
    let one = c.in-Ok-Ok.ensures.ok in
    let two = c.in-Ok-Ok.ensures'.ok in
    let names = c.run_opened-status.ensures.names in
    files.ends_with turned_lawful g.M.LaneMachine.rules (g.M.LaneMachine.state c.args.machine) c.requires.quiet
    c.in-Ok-open.ensures.opened c.in-Ok-open-2.ensures.opened (c.open.ensures.bytes c.args.second.now) (c.open.ensures.unfailing c.args.second.now)
    c.in-Ok.ensures c.run_opened-status.ensures.ended _ _
    (files.kept_so c.args.first.now c.args.second.now _ _ _ _ _ _ _ _ same one two (names.0 ∙ c.in-Ok-open.ensures.opened.named)
    (names.1 ∙ c.in-Ok-open-2.ensures.opened.named))

pub returns-in-Ok-Ok-clause-done : goal.returns-in-Ok-Ok-clause-done
returns-in-Ok-Ok-clause-done g c =
    let laws = g.met.M.LaneMachine g.world.𝓛 g.world.𝓜 g.world.𝓡 ((λ s x. x), (λ x. x), (λ x. x), λ x. x) in
    files.done turned_lawful g.M.LaneMachine.rules (g.M.LaneMachine.state c.args.machine) c.requires.quiet
    c.in-Ok-open.ensures.opened c.in-Ok-open-2.ensures.opened (c.open.ensures.bytes c.args.second.now) (c.open.ensures.unfailing c.args.second.now)
    c.in-Ok.ensures c.run_opened-status.ensures.ended laws.items_stop laws.replies_stop laws.unanswered_puts

pub returns-in-Ok-Ok-clause-only : goal.returns-in-Ok-Ok-clause-only
returns-in-Ok-Ok-clause-only g c =
    files.only turned_lawful g.M.LaneMachine.rules (g.M.LaneMachine.state c.args.machine) c.requires.quiet
    c.in-Ok-open.ensures.opened c.in-Ok-open-2.ensures.opened (c.open.ensures.bytes c.args.second.now) (c.open.ensures.unfailing c.args.second.now)
    c.in-Ok.ensures c.run_opened-status.ensures.ended

pub returns-in-Ok-Ok-clause-open_fault : goal.returns-in-Ok-Ok-clause-open_fault
returns-in-Ok-Ok-clause-open_fault g c =
    let laws = g.met.M.LaneMachine g.world.𝓛 g.world.𝓜 g.world.𝓡 ((λ s x. x), (λ x. x), (λ x. x), λ x. x) in
    files.none_failed g.M.LaneMachine.rules.name c.args.first.now c.args.second.now c.run_opened-status.result _ _ _ _
    (files.no_open_fault turned_lawful g.M.LaneMachine.rules (g.M.LaneMachine.state c.args.machine) c.requires.quiet
    c.in-Ok-open.ensures.opened c.in-Ok-open-2.ensures.opened (c.open.ensures.bytes c.args.second.now) (c.open.ensures.unfailing c.args.second.now)
    c.in-Ok.ensures c.run_opened-status.ensures.ended laws.items_stop laws.replies_stop laws.unanswered_puts)
    (c.close-3.ensures.opens ∙ (c.close-2.ensures.opens ∙ ((rw c.in-Ok-open-2.is at c.open-2.ensures.opens) ∙ (rw c.in-Ok-open.is at c.open.ensures.opens))))

pub returns-in-Ok-Ok-clause-unopened : goal.returns-in-Ok-Ok-clause-unopened
returns-in-Ok-Ok-clause-unopened g c =
    let laws = g.met.M.LaneMachine g.world.𝓛 g.world.𝓜 g.world.𝓡 ((λ s x. x), (λ x. x), (λ x. x), λ x. x) in
    λ lane is. absurd (files.no_open_fault turned_lawful g.M.LaneMachine.rules (g.M.LaneMachine.state c.args.machine) c.requires.quiet
    c.in-Ok-open.ensures.opened c.in-Ok-open-2.ensures.opened (c.open.ensures.bytes c.args.second.now) (c.open.ensures.unfailing c.args.second.now)
    c.in-Ok.ensures c.run_opened-status.ensures.ended laws.items_stop laws.replies_stop laws.unanswered_puts lane is)

pub returns-in-Ok-Ok-clause-write_fault : goal.returns-in-Ok-Ok-clause-write_fault
returns-in-Ok-Ok-clause-write_fault g c =
    let laws = g.met.M.LaneMachine g.world.𝓛 g.world.𝓜 g.world.𝓡 ((λ s x. x), (λ x. x), (λ x. x), λ x. x) in
    files.write_fault turned_lawful g.M.LaneMachine.rules (g.M.LaneMachine.state c.args.machine) c.requires.quiet
    c.in-Ok-open.ensures.opened c.in-Ok-open-2.ensures.opened (c.open.ensures.bytes c.args.second.now) (c.open.ensures.unfailing c.args.second.now)
    c.in-Ok.ensures c.run_opened-status.ensures.ended laws.items_stop laws.replies_stop laws.unanswered_puts

pub returns-in-Ok-Ok-clause-read_fault : goal.returns-in-Ok-Ok-clause-read_fault
returns-in-Ok-Ok-clause-read_fault g c =
    let laws = g.met.M.LaneMachine g.world.𝓛 g.world.𝓜 g.world.𝓡 ((λ s x. x), (λ x. x), (λ x. x), λ x. x) in
    let same = c.open-2.ensures.reads ∙ c.open.ensures.reads in
    let one = c.in-Ok-Ok.ensures.ok in
    let two = c.in-Ok-Ok.ensures'.ok in
    let names = c.run_opened-status.ensures.names in
    files.read_fault turned_lawful g.M.LaneMachine.rules (g.M.LaneMachine.state c.args.machine) c.requires.quiet
    c.in-Ok-open.ensures.opened c.in-Ok-open-2.ensures.opened (c.open.ensures.bytes c.args.second.now) (c.open.ensures.unfailing c.args.second.now)
    c.in-Ok.ensures c.run_opened-status.ensures.ended laws.items_stop laws.replies_stop laws.unanswered_puts _ _
    (files.first_counted c.args.first.now _ _ _ _ _ _ _ _ same one two (names.0 ∙ c.in-Ok-open.ensures.opened.named))
    (files.second_counted c.args.second.now _ _ _ _ _ _ _ _ same one two (names.1 ∙ c.in-Ok-open-2.ensures.opened.named))

pub returns-clause-ended : goal.returns-clause-ended
returns-clause-ended g c =
    λ other. files.ends_unkept turned_lawful g.M.LaneMachine.rules (g.M.LaneMachine.state c.args.machine) c.requires.quiet
    c.in-Ok-open.ensures.opened c.in-Ok-open-2.ensures.opened (c.open.ensures.bytes c.args.second.now) (c.open.ensures.unfailing c.args.second.now)
    c.in-Ok.ensures c.run_opened-status.ensures.ended _ _

pub returns-clause-only : goal.returns-clause-only
returns-clause-only g c =
    files.only turned_lawful g.M.LaneMachine.rules (g.M.LaneMachine.state c.args.machine) c.requires.quiet
    c.in-Ok-open.ensures.opened c.in-Ok-open-2.ensures.opened (c.open.ensures.bytes c.args.second.now) (c.open.ensures.unfailing c.args.second.now)
    c.in-Ok.ensures c.run_opened-status.ensures.ended

pub returns-in_default-clause-open_fault : goal.returns-in_default-clause-open_fault
returns-in_default-clause-open_fault g c =
    files.none_failed g.M.LaneMachine.rules.name c.args.first.now c.args.second.now _ _ _ _ _ (λ lane. (files.no_fault lane).0) refl

pub returns-in-Err-clause-open_fault : goal.returns-in-Err-clause-open_fault
returns-in-Err-clause-open_fault g c =
    files.first_failed g.M.LaneMachine.rules.name c.args.first.now c.args.second.now c.status_of_open.result _ _ _ _ g.row.F-In.Denot c.in-Err.end
    (rw c.lane_name.ensures at c.status_of_open.ensures) (rw c.in-Err.is at c.open.ensures.opens) c.open.ensures.reads

pub returns-in-Err-open-clause-open_fault : goal.returns-in-Err-open-clause-open_fault
returns-in-Err-open-clause-open_fault g c =
    let opened = rw c.in-Ok-open.is at c.open.ensures.opens in
    let failed = (rw c.in-Err-open.is at c.open-2.ensures.opens)
    ∙ ap (λ (names : List (List ℕ)). with_failed {T = g.row.F-In.Denot} names c.args.second.now (Err c.in-Err-open.end)) opened in
    files.second_failed g.M.LaneMachine.rules.name c.args.first.now c.args.second.now c.status_of_open-in-Err-open.result _ _ _ _ g.row.F-In.Denot
    c.in-Err-open.end (rw c.lane_name-in-Err-open.ensures at c.status_of_open-in-Err-open.ensures) (c.close.ensures.opens ∙ failed)
    (files.unread_closed c.close.result _ _ _ _ c.close.ensures.ok c.close.ensures.err c.in-Ok-open.ensures.opened.none
    ∙ (c.open-2.ensures.reads ∙ c.open.ensures.reads))

pub returns-clause-open_fault : goal.returns-clause-open_fault
returns-clause-open_fault g c =
    files.none_failed g.M.LaneMachine.rules.name c.args.first.now c.args.second.now _ _ _ _ _ (λ lane. (files.no_fault lane).0)
    (c.close-3.ensures.opens ∙ (c.close-2.ensures.opens ∙ ((rw c.in-Ok-open-2.is at c.open-2.ensures.opens) ∙ (rw c.in-Ok-open.is at c.open.ensures.opens))))

pub returns-in_default-clause-complete : goal.returns-in_default-clause-complete
returns-in_default-clause-complete g c = λ ready opens reads none none'. inr refl

pub returns-in-Err-clause-complete : goal.returns-in-Err-clause-complete
returns-in-Err-clause-complete g c =
    let laws = g.met.M.LaneMachine g.world.𝓛 g.world.𝓜 g.world.𝓡 ((λ s x. x), (λ x. x), (λ x. x), λ x. x) in
    complete g.A.Turner.Turns g.B.Turner.Turns g.M.Lanes.belongs _ _ _ _
    g.M.LaneMachine.rules (g.M.LaneMachine.state c.args.machine) laws.unheard c.args.first.now c.args.second.now
    _ _ _ _ _ _ _ _ _ _ c.status_of_open.result
    (returns-in-Err-clause-ended g c) (returns-in-Err-clause-open_fault g c) refl refl

pub returns-in-Err-open-clause-complete : goal.returns-in-Err-open-clause-complete
returns-in-Err-open-clause-complete g c =
    let laws = g.met.M.LaneMachine g.world.𝓛 g.world.𝓜 g.world.𝓡 ((λ s x. x), (λ x. x), (λ x. x), λ x. x) in
    complete g.A.Turner.Turns g.B.Turner.Turns g.M.Lanes.belongs _ _ _ _
    g.M.LaneMachine.rules (g.M.LaneMachine.state c.args.machine) laws.unheard c.args.first.now c.args.second.now
    _ _ _ _ _ _ _ _ _ _ c.status_of_open-in-Err-open.result
    (returns-in-Err-open-clause-ended g c) (returns-in-Err-open-clause-open_fault g c) refl refl

pub returns-in-Ok-Ok-clause-complete : goal.returns-in-Ok-Ok-clause-complete
returns-in-Ok-Ok-clause-complete g c =
    let laws = g.met.M.LaneMachine g.world.𝓛 g.world.𝓜 g.world.𝓡 ((λ s x. x), (λ x. x), (λ x. x), λ x. x) in
    complete g.A.Turner.Turns g.B.Turner.Turns g.M.Lanes.belongs _ _ _ _
    g.M.LaneMachine.rules (g.M.LaneMachine.state c.args.machine) laws.unheard c.args.first.now c.args.second.now
    _ _ _ _ _ _ _ _ _ _ c.run_opened-status.result
    (returns-in-Ok-Ok-clause-ended g c) (returns-in-Ok-Ok-clause-open_fault g c) refl refl

pub returns-clause-complete : goal.returns-clause-complete
returns-clause-complete g c = λ ready opens reads none none'. inr refl

pub returns-in_default-clause-behind : goal.returns-in_default-clause-behind
returns-in_default-clause-behind g c = λ none fresh. left_none turned_lawful g.M.LaneMachine.rules (g.M.LaneMachine.state c.args.machine) _ _ _ _ _
    (turned_none g.A.Turner.Turns g.B.Turner.Turns g.M.Lanes.belongs _ _ _ _ _ _ refl refl) fresh

pub returns-in-Err-clause-behind : goal.returns-in-Err-clause-behind
returns-in-Err-clause-behind g c = λ none fresh. left_none turned_lawful g.M.LaneMachine.rules (g.M.LaneMachine.state c.args.machine) _ _ _ _ _
    (turned_none g.A.Turner.Turns g.B.Turner.Turns g.M.Lanes.belongs _ _ _ _ _ _ refl refl) fresh

pub returns-in-Err-open-clause-behind : goal.returns-in-Err-open-clause-behind
returns-in-Err-open-clause-behind g c = λ none fresh. left_none turned_lawful g.M.LaneMachine.rules (g.M.LaneMachine.state c.args.machine) _ _ _ _ _
    (turned_none g.A.Turner.Turns g.B.Turner.Turns g.M.Lanes.belongs _ _ _ _ _ _ refl refl) fresh

pub returns-in-Ok-Ok-clause-behind : goal.returns-in-Ok-Ok-clause-behind
returns-in-Ok-Ok-clause-behind g c = λ none fresh. left_with turned_lawful g.M.LaneMachine.rules (g.M.LaneMachine.state c.args.machine) _
    c.in-Ok-open.ensures.opened c.in-Ok-open-2.ensures.opened (c.open.ensures.bytes c.args.second.now) c.in-Ok.ensures _ _ _
    (c.run_opened-status.ensures.behind none fresh)

pub returns-clause-behind : goal.returns-clause-behind
returns-clause-behind g c = λ none fresh. left_with turned_lawful g.M.LaneMachine.rules (g.M.LaneMachine.state c.args.machine) _
    c.in-Ok-open.ensures.opened c.in-Ok-open-2.ensures.opened (c.open.ensures.bytes c.args.second.now) c.in-Ok.ensures _ _ _
    (c.run_opened-status.ensures.behind none fresh)

pub returns-in_default-clause-done : goal.returns-in_default-clause-done
returns-in_default-clause-done g c = λ is. absurd (files.not_done.0 is)

pub returns-in_default-clause-read_fault : goal.returns-in_default-clause-read_fault
returns-in_default-clause-read_fault g c = λ lane is. absurd ((files.no_fault lane).1 is)

pub returns-in_default-clause-write_fault : goal.returns-in_default-clause-write_fault
returns-in_default-clause-write_fault g c = λ is. absurd (files.not_done.1 is)

pub returns-in-Err-clause-done : goal.returns-in-Err-clause-done
returns-in-Err-clause-done g c =
    λ is. absurd ((files.unopened_alone c.lane_name.result c.in-Err.end c.status_of_open.result c.status_of_open.ensures).0 is)

pub returns-in-Err-clause-read_fault : goal.returns-in-Err-clause-read_fault
returns-in-Err-clause-read_fault g c =
    λ lane is. absurd ((files.unopened_alone c.lane_name.result c.in-Err.end c.status_of_open.result c.status_of_open.ensures).2 lane is)

pub returns-in-Err-clause-write_fault : goal.returns-in-Err-clause-write_fault
returns-in-Err-clause-write_fault g c =
    λ is. absurd ((files.unopened_alone c.lane_name.result c.in-Err.end c.status_of_open.result c.status_of_open.ensures).1 is)

pub returns-in-Err-clause-bytes : goal.returns-in-Err-clause-bytes
returns-in-Err-clause-bytes g c = c.open.ensures.bytes

pub returns-in-Err-clause-others : goal.returns-in-Err-clause-others
returns-in-Err-clause-others g c =
    λ file one two. (files.uncounted c.args.first.now file _ _ _ _ c.open.ensures.faults refl one, ap (times file) c.open.ensures.reads)

pub returns-in-Err-open-clause-done : goal.returns-in-Err-open-clause-done
returns-in-Err-open-clause-done g c = λ is. absurd ((files.unopened_alone c.lane_name-in-Err-open.result c.in-Err-open.end
    c.status_of_open-in-Err-open.result c.status_of_open-in-Err-open.ensures).0 is)

pub returns-in-Err-open-clause-read_fault : goal.returns-in-Err-open-clause-read_fault
returns-in-Err-open-clause-read_fault g c = λ lane is. absurd ((files.unopened_alone c.lane_name-in-Err-open.result c.in-Err-open.end
    c.status_of_open-in-Err-open.result c.status_of_open-in-Err-open.ensures).2 lane is)

pub returns-in-Err-open-clause-write_fault : goal.returns-in-Err-open-clause-write_fault
returns-in-Err-open-clause-write_fault g c = λ is. absurd ((files.unopened_alone c.lane_name-in-Err-open.result c.in-Err-open.end
    c.status_of_open-in-Err-open.result c.status_of_open-in-Err-open.ensures).1 is)

pub returns-in-Err-open-clause-bytes : goal.returns-in-Err-open-clause-bytes
returns-in-Err-open-clause-bytes g c = λ file. c.close.ensures.bytes file ∙ (c.open-2.ensures.bytes file ∙ c.open.ensures.bytes file)

pub returns-in-Err-open-clause-others : goal.returns-in-Err-open-clause-others
returns-in-Err-open-clause-others g c = λ file one two. (
  ap (times file) c.close.ensures.opens
      ∙ (files.uncounted c.args.second.now file _ _ _ _ c.open-2.ensures.faults refl two
      ∙ files.uncounted c.args.first.now file _ _ _ _ c.open.ensures.faults refl one),
  files.uncounted c.args.first.now file _ _ _ _ c.close.ensures.faults c.in-Ok-open.ensures.opened.named one
      ∙ ap (times file) (c.open-2.ensures.reads ∙ c.open.ensures.reads),
)

pub returns-in-Ok-Ok-clause-bytes : goal.returns-in-Ok-Ok-clause-bytes
returns-in-Ok-Ok-clause-bytes g c =
    λ file. c.close-3.ensures.bytes file ∙ (c.close-2.ensures.bytes file ∙ (c.open-2.ensures.bytes file ∙ c.open.ensures.bytes file))

pub returns-in-Ok-Ok-clause-others : goal.returns-in-Ok-Ok-clause-others
returns-in-Ok-Ok-clause-others g c =
    let names = c.run_opened-status.ensures.names in
    λ file one two. (
      ap (times file) (c.close-3.ensures.opens ∙ c.close-2.ensures.opens)
          ∙ (files.uncounted c.args.second.now file _ _ _ _ c.open-2.ensures.faults refl two
          ∙ files.uncounted c.args.first.now file _ _ _ _ c.open.ensures.faults refl one),
      files.uncounted c.args.second.now file _ _ _ _ c.close-3.ensures.faults (names.1 ∙ c.in-Ok-open-2.ensures.opened.named) two
          ∙ (files.uncounted c.args.first.now file _ _ _ _ c.close-2.ensures.faults (names.0 ∙ c.in-Ok-open.ensures.opened.named) one
          ∙ ap (times file) (c.open-2.ensures.reads ∙ c.open.ensures.reads)),
    )

pub returns-clause-done : goal.returns-clause-done
returns-clause-done g c = λ is. absurd (files.not_done.0 is)

pub returns-clause-read_fault : goal.returns-clause-read_fault
returns-clause-read_fault g c = λ lane is. absurd ((files.no_fault lane).1 is)

pub returns-clause-write_fault : goal.returns-clause-write_fault
returns-clause-write_fault g c = λ is. absurd (files.not_done.1 is)

pub returns-clause-unopened : goal.returns-clause-unopened
returns-clause-unopened g c = λ lane is. absurd ((files.no_fault lane).0 is)

pub returns-clause-bytes : goal.returns-clause-bytes
returns-clause-bytes g c =
    λ file. c.close-3.ensures.bytes file ∙ (c.close-2.ensures.bytes file ∙ (c.open-2.ensures.bytes file ∙ c.open.ensures.bytes file))

pub returns-clause-others : goal.returns-clause-others
returns-clause-others g c =
    let names = c.run_opened-status.ensures.names in
    λ file one two. (
      ap (times file) (c.close-3.ensures.opens ∙ c.close-2.ensures.opens)
          ∙ (files.uncounted c.args.second.now file _ _ _ _ c.open-2.ensures.faults refl two
          ∙ files.uncounted c.args.first.now file _ _ _ _ c.open.ensures.faults refl one),
      files.uncounted c.args.second.now file _ _ _ _ c.close-3.ensures.faults (names.1 ∙ c.in-Ok-open-2.ensures.opened.named) two
          ∙ (files.uncounted c.args.first.now file _ _ _ _ c.close-2.ensures.faults (names.0 ∙ c.in-Ok-open.ensures.opened.named) one
          ∙ ap (times file) (c.open-2.ensures.reads ∙ c.open.ensures.reads)),
    )
