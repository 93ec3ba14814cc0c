-- What is seen in a world without a core is explained by one with a core.
use Rattle.std.proofs.Common.{◌≡◌, ℕ, true, List, [], ◌∷◌, ◌++◌, take, drop, Option, Some, None, is_some, inl, inr, refl, sym, ap, subst, ◌∙◌}
use Rattle.std.proofs.lemmas.Bool.{true≢false, and_parts}
use Rattle.std.specs.List.{AllByRecursion}
use Rattle.kube_model.specs.declared.event.Event.{Event}
use Rattle.kube_model.specs.declared.event.Event.TheVariants.{Changed, Deleted, ListEnd, Expired as WatchesExpired, Members, Frame, Ignored}
use Rattle.kube_model.specs.declared.event.ListGroup.{ListGroup}
use Rattle.kube_model.specs.declared.event.ListGroup.TheVariants as groups
use Rattle.kube_model.specs.declared.object.Object.TheVariants as objects
use Rattle.kube_model.specs.declared.object.Kind.TheVariants as kinds
use Rattle.kube_model.specs.declared.put.Put.{Put}
use Rattle.kube_model.specs.declared.record.Record.{Record}
use Rattle.kube_model.specs.declared.reply.PutReply.{PutReply}
use Rattle.kube_model.specs.Records.{is_assigned}
use Rattle.sharing_terms.specs.declared.terms.Terms.{Terms}
use Rattle.sharing_terms.specs.Marked.{IsMarkOf}
use Rattle.sharing_terms.specs.Spelled.{recorded_terms}
use Rattle.sharing_terms.proofs.ReadBack.{recorded-exact}
use Rattle.world_rules.specs.Tracked.{is_given}
use Rattle.status_store.specs.declared.change.Outcome.{Outcome}
use Rattle.status_store.specs.declared.change.Outcome.TheVariants.{Delivered, Lost}
use Rattle.status_store.specs.declared.change.Edit.TheVariants.{Delete}
use Rattle.status_store.specs.Changes.{StoreValue, after_put, reply_to}
use Rattle.core_rules.specs.declared.turn.Turn.{Turn}
use Rattle.core_rules.specs.declared.turn.Turn.TheVariants.{Idle, NoPut, Wants}
use Rattle.core_rules.specs.Core.{State}
use Rattle.core_rules.specs.Take.{core_take}
use Rattle.core_laws.specs.Shared.{AllShowTerms}
use Rattle.core_rules.proofs.Runs.{core_holds_what_was_observed}
use Rattle.core_laws.proofs.Orderly.{sorted-services}
use Rattle.mlb_base.proofs.Lists.{all-append}
use Rattle.kube_model.specs.Kinds.{kind_of, group_of}
use Rattle.core_rules.specs.Turn.{core_turn, after_turn, put_in}
use Rattle.core_rules.specs.Replied.{core_reply}
use Rattle.core_rules.specs.Run.{TranscriptEntry, Took, Expired, Turned, Heard, core_after, observed, put_out, IsRun}
use Rattle.world_rules.specs.Chain.{late_along}
use Rattle.world_rules.specs.Good.{IsGoodStore, IsOfGroup}
use Rattle.world_rules.specs.Safe.{IsSafe}
use Rattle.world_rules.specs.Explaining.{Act, ListExpired, Decided, Answered as AnsweredBy}
use Rattle.world_rules.specs.Explaining.{acts_of, acts_of_event, answered, IsRunning}
use Rattle.world_rules.specs.Moves.{Move, Sets, Deletes, Tells, Takes, Turns, ConfigExpires, ServicesExpire, EndsLater, Lands}
use Rattle.world_rules.specs.Moves.{IsMove, IsListOf, IsOld, AreMoves, after_move, after_moves, stored_with, entries_of, entries_put, entries_taken, run_along, begun, under_way, given_up}
use Rattle.world_rules.specs.Outside.{Outside, Happening, SetBy, DeletedBy, ReadsConfig, Reads, ReadsAgain, Writes, ConfigRunsOut, ServicesRunOut, EndComesLater, LandsLate}
use Rattle.world_rules.specs.Outside.{after_happening, MayHappen, outside_after, MayAllHappen, Seen, Read, RanOut, Wrote, Answered, read_first}
use Rattle.world_rules.specs.Outside.{seen_in, seen_by, seen_entry, seen_of, wrote, AreSafeSince, IsSafeBehind, SeenAreExplained, SeenAreSafe}
use Rattle.world_rules.specs.World.{WorldValue, as_shown, shown_edit, shown_put, to_lane, turned, told, untold}
use Rattle.world_rules.proofs.Again.{KeepsLast, AreCountedIn, read-again, read-last, told-last, answered-last, counted-set, counted-deleted, counted-put}
use Rattle.world_rules.proofs.Edits.{deleted-of, set-of}
use Rattle.world_rules.proofs.Explaining.{normal_event, normal, normal-leads, answered-run, terms-normal, terms-answered, runs_are_safe_in_worlds}
use Rattle.world_rules.proofs.Landing.{none-expected}
use Rattle.world_rules.proofs.Lanes.{of-lane, of-list}
use Rattle.world_rules.proofs.Later.{of-late}
use Rattle.world_rules.proofs.Turns.{put-of}
use Rattle.world_rules.proofs.Worlds.{starts_are_good, good-moves}

-- ---- lists of moves with one more
moves-more : (moves : List Move) (move : Move) (w : WorldValue) → after_moves (moves ++ move ∷ []) w ≡ after_move move (after_moves moves w)
moves-more [] move w = refl
moves-more (first ∷ moves) move w = moves-more moves move (after_move first w)

late-more : (moves : List Move) (move : Move) (w : WorldValue) (late : List Put)
    → late_along (moves ++ move ∷ []) w late ≡ under_way move (after_moves moves w) (late_along moves w late)
late-more [] move w late = refl
late-more (first ∷ moves) move w late = late-more moves move (after_move first w) (under_way first w late)

along-more : (moves : List Move) (move : Move) (w : WorldValue) (earlier : List TranscriptEntry)
    → run_along (moves ++ move ∷ []) w earlier ≡ entries_of move (after_moves moves w) ++ run_along moves w earlier
along-more [] move w earlier = refl
along-more (first ∷ moves) move w earlier = along-more moves move (after_move first w) (entries_of first w ++ earlier)

may-more : (moves : List Move) (move : Move) (w : WorldValue) (late : List Put) → AreMoves moves w late
    → IsMove move (after_moves moves w) (late_along moves w late) → AreMoves (moves ++ move ∷ []) w late
may-more [] move w late all may = (may, tt)
may-more (first ∷ moves) move w late all may = (all.0, may-more moves move (after_move first w) (under_way first w late) all.1 may)

running-more : (moves : List Move) (move : Move) → AllByRecursion IsRunning moves → IsRunning move → AllByRecursion IsRunning (moves ++ move ∷ [])
running-more [] move all one = (one, tt)
running-more (first ∷ moves) move all one = (all.0, running-more moves move all.1 one)

-- ---- what is seen of a run, without what is ignored
abbrev seen_one : TranscriptEntry → List Seen
seen_one (Took event) = Read event ∷ []
seen_one (Expired group) = RanOut group ∷ []
seen_one (Turned turn) = wrote (put_in turn)
seen_one (Heard reply) = Answered reply ∷ []

abbrev seen_each : List TranscriptEntry → List Seen
seen_each [] = []
seen_each (entry ∷ earlier) = seen_one entry ++ seen_each earlier

event-seen : (event : Event) (more : List TranscriptEntry) → seen_each (normal_event event ++ more) ≡ seen_entry (Took event) ++ seen_each more
event-seen (Changed version (objects.Service service)) more = refl
event-seen (Changed version (objects.Pool pool)) more = refl
event-seen (Changed version (objects.L2 adv)) more = refl
event-seen (Changed version (objects.Bgp adv)) more = refl
event-seen (Changed version (objects.Peer peer)) more = refl
event-seen (Changed version (objects.Community community)) more = refl
event-seen (Changed version (objects.Namespace namespace)) more = refl
event-seen (Changed version (objects.Node node)) more = refl
event-seen (Changed version (objects.Slice slice)) more = refl
event-seen (Deleted kinds.Service key) more = refl
event-seen (Deleted kinds.Pool key) more = refl
event-seen (Deleted kinds.L2 key) more = refl
event-seen (Deleted kinds.Bgp key) more = refl
event-seen (Deleted kinds.Peer key) more = refl
event-seen (Deleted kinds.Community key) more = refl
event-seen (Deleted kinds.Namespace key) more = refl
event-seen (Deleted kinds.Node key) more = refl
event-seen (Deleted kinds.Slice key) more = refl
event-seen (ListEnd groups.Config) more = refl
event-seen (ListEnd groups.Service) more = refl
event-seen (ListEnd groups.Endpoint) more = refl
event-seen WatchesExpired more = refl
event-seen (Members names) more = refl
event-seen (Frame interface bytes) more = refl
event-seen Ignored more = refl

event-acts : (event : Event) (more : List TranscriptEntry) → acts_of (normal_event event ++ more) ≡ acts_of_event event ++ acts_of more
event-acts (Changed version (objects.Service service)) more = refl
event-acts (Changed version (objects.Pool pool)) more = refl
event-acts (Changed version (objects.L2 adv)) more = refl
event-acts (Changed version (objects.Bgp adv)) more = refl
event-acts (Changed version (objects.Peer peer)) more = refl
event-acts (Changed version (objects.Community community)) more = refl
event-acts (Changed version (objects.Namespace namespace)) more = refl
event-acts (Changed version (objects.Node node)) more = refl
event-acts (Changed version (objects.Slice slice)) more = refl
event-acts (Deleted kinds.Service key) more = refl
event-acts (Deleted kinds.Pool key) more = refl
event-acts (Deleted kinds.L2 key) more = refl
event-acts (Deleted kinds.Bgp key) more = refl
event-acts (Deleted kinds.Peer key) more = refl
event-acts (Deleted kinds.Community key) more = refl
event-acts (Deleted kinds.Namespace key) more = refl
event-acts (Deleted kinds.Node key) more = refl
event-acts (Deleted kinds.Slice key) more = refl
event-acts (ListEnd groups.Config) more = refl
event-acts (ListEnd groups.Service) more = refl
event-acts (ListEnd groups.Endpoint) more = refl
event-acts WatchesExpired more = refl
event-acts (Members names) more = refl
event-acts (Frame interface bytes) more = refl
event-acts Ignored more = refl

seen-normal : (run : List TranscriptEntry) → seen_each (normal run) ≡ seen_of run
seen-normal [] = refl
seen-normal (Took event ∷ earlier) = event-seen event (normal earlier) ∙ ap (λ (l : List Seen). seen_entry (Took event) ++ l) (seen-normal earlier)
seen-normal (Expired group ∷ earlier) = ap (λ (l : List Seen). RanOut group ∷ l) (seen-normal earlier)
seen-normal (Turned Idle ∷ earlier) = seen-normal earlier
seen-normal (Turned (NoPut key pending) ∷ earlier) = seen-normal earlier
seen-normal (Turned (Wants put pending) ∷ earlier) = ap (λ (l : List Seen). Wrote put ∷ l) (seen-normal earlier)
seen-normal (Heard reply ∷ earlier) = ap (λ (l : List Seen). Answered reply ∷ l) (seen-normal earlier)

acts-normal : (run : List TranscriptEntry) → acts_of (normal run) ≡ acts_of run
acts-normal [] = refl
acts-normal (Took event ∷ earlier) = event-acts event (normal earlier) ∙ ap (λ (l : List Act). acts_of_event event ++ l) (acts-normal earlier)
acts-normal (Expired group ∷ earlier) = ap (λ (l : List Act). ListExpired group ∷ l) (acts-normal earlier)
acts-normal (Turned Idle ∷ earlier) = acts-normal earlier
acts-normal (Turned (NoPut key pending) ∷ earlier) = ap (λ (l : List Act). Decided ∷ l) (acts-normal earlier)
acts-normal (Turned (Wants put pending) ∷ earlier) = ap (λ (l : List Act). Decided ∷ l) (acts-normal earlier)
acts-normal (Heard reply ∷ earlier) = ap (λ (l : List Act). AnsweredBy reply ∷ l) (acts-normal earlier)

-- a record with an address and a mark has the terms of the mark
given_of : (holding : Record) (found : Option Terms) (X : Type 0) → recorded_terms holding.mark ≡ found → is_some found ≡ true
    → ((terms : Terms) → IsMarkOf terms holding.mark → X) → X
given_of holding None X is some f = absurd (true≢false (sym some))
given_of holding (Some terms) X is some f = f terms ((recorded-exact holding.mark terms).0 is)

given_by : (holding : Record) (X : Type 0) → (is_assigned holding ≡ true → (terms : Terms) → IsMarkOf terms holding.mark → X)
    → is_given holding ≡ true → X
given_by holding X f has =
    let parts = and_parts (is_assigned holding) (is_some (recorded_terms holding.mark)) has in
    given_of holding (recorded_terms holding.mark) X refl parts.1 (f parts.0)

abbrev AreOfServices : List Event → Type 0
AreOfServices events = AllByRecursion (IsOfGroup groups.Service) events

module _ (class : Option (List ℕ)) (store : StoreValue) (list : List Event) (counted : AreCountedIn store) (services : AreOfServices list) where
  abbrev w0 : WorldValue
  w0 = begun class store list

  abbrev at : List Happening → Outside
  at happenings = outside_after store list happenings

  -- a world with this core, of which this is seen
  abbrev view : List Event → Outside → State → WorldValue
  view config o s = record { class = class; store = o.store; config_lane = config; service_lane = o.lane; core = Some s }

  -- moves that come to the run, and to what is seen from outside
  record Matches (o : Outside) (n : List TranscriptEntry) : Type 0 where
    moves : List Move
    config : List Event
    running : AllByRecursion IsRunning moves
    may : AreMoves moves w0 []
    is : after_moves moves w0 ≡ view config o (core_after class n)
    late : late_along moves w0 [] ≡ o.late
    along : run_along moves w0 [] ≡ n
    again : KeepsLast o.last (core_after class n)

  more : (o p : Outside) (n m : List TranscriptEntry) (before : Matches o n) (move : Move) (config : List Event) → IsRunning move
      → IsMove move (view before.config o (core_after class n)) o.late
      → after_move move (view before.config o (core_after class n)) ≡ view config p (core_after class m)
      → under_way move (view before.config o (core_after class n)) o.late ≡ p.late
      → entries_of move (view before.config o (core_after class n)) ++ n ≡ m → KeepsLast p.last (core_after class m) → Matches p m
  more o p n m before move config one may leads under entries again =
      let v = view before.config o (core_after class n) in
      let moves = before.moves in
      record {
        moves = moves ++ move ∷ [];
        config = config;
        running = running-more moves move before.running one;
        may = may-more moves move w0 [] before.may
            (subst (λ (w : WorldValue). IsMove move w (late_along moves w0 [])) (sym before.is) (subst (IsMove move v) (sym before.late) may));
        is = moves-more moves move w0 ∙ ap (after_move move) before.is ∙ leads;
        late = late-more moves move w0 [] ∙ ap (λ (w : WorldValue). under_way move w (late_along moves w0 [])) before.is
            ∙ ap (under_way move v) before.late ∙ under;
        along = along-more moves move w0 [] ∙ ap (λ (w : WorldValue). entries_of move w ++ run_along moves w0 []) before.is
            ∙ ap (λ (r : List TranscriptEntry). entries_of move v ++ r) before.along ∙ entries;
        again = again;
      }

  -- a turn without a put
  silent : (o : Outside) (turn : Turn) (n : List TranscriptEntry) → put_in turn ≡ None → IsRun class (Turned turn ∷ n) → Matches o n
      → Matches o (Turned turn ∷ n)
  silent o turn n none is m =
      let s = core_after class n in
      let nothing : put_in (core_turn s) ≡ None = ap put_in (sym is.0.1) ∙ none in
      more o o n (Turned turn ∷ n) m (Turns Delivered) m.config tt tt
      (ap (λ (p : Option Put). turned (after_turn s) p Delivered (view m.config o s)) nothing) refl
      (ap (λ (p : Option Put). (entries_put p Delivered o.store ++ Turned (core_turn s) ∷ []) ++ n) nothing
      ∙ ap (λ (t : Turn). Turned t ∷ n) (sym is.0.1)) m.again

  written : (o : Outside) (turn : Turn) (put : Put) (outcome : Outcome) (reply : PutReply) (n : List TranscriptEntry) → put_in turn ≡ Some put
      → IsRun class (Turned turn ∷ n) → reply_to put outcome o.store ≡ reply → AreCountedIn o.store → Matches o n
      → Matches (after_happening (Writes put outcome) o) (Heard reply ∷ Turned turn ∷ n)
  written o turn put outcome reply n some is replied counted m =
      let s = core_after class n in
      let p : Outside = after_happening (Writes put outcome) o in
      let wanted : put_in (core_turn s) ≡ Some put = ap put_in (sym is.0.1) ∙ some in
      more o p n (Heard reply ∷ Turned turn ∷ n) m (Turns outcome) m.config tt tt
      (ap (λ (q : Option Put). turned (after_turn s) q outcome (view m.config o s)) wanted
      ∙ ap (λ (r : PutReply). view m.config p (core_reply (after_turn s) r)) replied)
      (ap (λ (q : Option Put). given_up outcome q ++ o.late) wanted)
      (ap (λ (q : Option Put). (entries_put q outcome o.store ++ Turned (core_turn s) ∷ []) ++ n) wanted
      ∙ ap (λ (r : PutReply). Heard r ∷ Turned (core_turn s) ∷ n) replied ∙ ap (λ (t : Turn). Heard reply ∷ Turned t ∷ n) (sym is.0.1))
      (subst (λ (r : PutReply). KeepsLast o.last (core_reply (after_turn s) r)) replied (answered-last s put outcome o.store o.last wanted counted m.again))

  read : (o : Outside) (event : Event) (rest : List Event) (n : List TranscriptEntry) → o.lane ≡ event ∷ rest → IsOfGroup groups.Service event → IsRun class n
      → Matches o n → Matches (after_happening Reads o) (Took event ∷ n)
  read o event rest n lane of is m =
      let s = core_after class n in
      let sorted = sorted-services s (observed n) (core_holds_what_was_observed class n is).0 in
      more o (after_happening Reads o) n (Took event ∷ n) m Takes m.config tt tt
      (ap (λ (l : List Event). (let v : WorldValue = record {
        class = class;
        store = o.store;
        config_lane = m.config;
        service_lane = untold (Some s) l;
        core = told (Some s) l;
      } in v)) lane
      ∙ sym (ap (λ (l : List Event). (let q : Outside = record { store = o.store; lane = drop 1 l; last = take 1 l; late = o.late } in view m.config q (core_take s event)))
      lane)) refl
      (ap (λ (l : List Event). entries_taken (Some s) l ++ n) lane)
      (subst (λ (l : List Event). KeepsLast (take 1 l) (core_take s event)) (sym lane) (read-last s sorted event of))

  read-none : (o : Outside) (n : List TranscriptEntry) → o.lane ≡ [] → Matches o n → Matches (after_happening Reads o) n
  read-none o n lane m =
      let s = core_after class n in
      more o (after_happening Reads o) n n m Takes m.config tt tt
      (ap (λ (l : List Event). (let v : WorldValue = record {
        class = class;
        store = o.store;
        config_lane = m.config;
        service_lane = untold (Some s) l;
        core = told (Some s) l;
      } in v)) lane
      ∙ sym (ap (λ (l : List Event). (let q : Outside = record { store = o.store; lane = drop 1 l; last = take 1 l; late = o.late } in view m.config q s)) lane)) refl
      (ap (λ (l : List Event). entries_taken (Some s) l ++ n) lane)
      (subst (λ (l : List Event). KeepsLast (take 1 l) s) (sym lane) tt)

  -- ---- turns without a put are peeled off
  peel : (x : Seen) (rest : List Seen) (Goal : List TranscriptEntry → Type 0)
      → ((turn : Turn) (n : List TranscriptEntry) → put_in turn ≡ None → IsRun class (Turned turn ∷ n) → Goal n → Goal (Turned turn ∷ n))
      → ((entry : TranscriptEntry) (n : List TranscriptEntry) → seen_one entry ≡ x ∷ [] → IsRun class (entry ∷ n) → rest ≡ seen_each n → Goal (entry ∷ n))
      → (n : List TranscriptEntry) → IsRun class n → x ∷ rest ≡ seen_each n → Goal n
  peel x rest Goal quiet here [] is e = absurd (cc)
  peel x rest Goal quiet here (Took event ∷ n) is e =
      let head : x ≡ Read event = cc in
      let tail : rest ≡ seen_each n = cc in
      here (Took event) n (ap (λ (y : Seen). y ∷ []) (sym head)) is tail
  peel x rest Goal quiet here (Expired group ∷ n) is e =
      let head : x ≡ RanOut group = cc in
      let tail : rest ≡ seen_each n = cc in
      here (Expired group) n (ap (λ (y : Seen). y ∷ []) (sym head)) is tail
  peel x rest Goal quiet here (Turned Idle ∷ n) is e = quiet Idle n refl is (peel x rest Goal quiet here n is.1 e)
  peel x rest Goal quiet here (Turned (NoPut key pending) ∷ n) is e = quiet (NoPut key pending) n refl is (peel x rest Goal quiet here n is.1 e)
  peel x rest Goal quiet here (Turned (Wants put pending) ∷ n) is e =
      let head : x ≡ Wrote put = cc in
      let tail : rest ≡ seen_each n = cc in
      here (Turned (Wants put pending)) n (ap (λ (y : Seen). y ∷ []) (sym head)) is tail
  peel x rest Goal quiet here (Heard reply ∷ n) is e =
      let head : x ≡ Answered reply = cc in
      let tail : rest ≡ seen_each n = cc in
      here (Heard reply) n (ap (λ (y : Seen). y ∷ []) (sym head)) is tail

  begins : (n : List TranscriptEntry) → IsRun class n → [] ≡ seen_each n → Matches (at []) n
  begins [] is e = record { moves = []; config = []; running = tt; may = tt; is = refl; late = refl; along = refl; again = tt }
  begins (Took event ∷ n) is e = absurd (cc)
  begins (Expired group ∷ n) is e = absurd (cc)
  begins (Turned Idle ∷ n) is e = silent (at []) Idle n refl is (begins n is.1 e)
  begins (Turned (NoPut key pending) ∷ n) is e = silent (at []) (NoPut key pending) n refl is (begins n is.1 e)
  begins (Turned (Wants put pending) ∷ n) is e = absurd (cc)
  begins (Heard reply ∷ n) is e = absurd (cc)

  -- what matches what was before, in words
  abbrev Follows : List Happening → Type 0
  Follows earlier = (n : List TranscriptEntry) → IsRun class n → seen_in store list earlier ≡ seen_each n → Matches (at earlier) n

  -- each that is seen, where the entry is the one that is seen so
  config-read : (earlier : List Happening) (event : Event) → MayHappen (ReadsConfig event) (at earlier) → Follows earlier
      → (entry : TranscriptEntry) (n : List TranscriptEntry) → seen_one entry ≡ Read event ∷ [] → IsRun class (entry ∷ n) → seen_in store list earlier ≡ seen_each n
      → Matches (at (ReadsConfig event ∷ earlier)) (entry ∷ n)
  config-read earlier event may follows (Took taken) n e is rest =
      let same : event ≡ taken = cc in
      let m = follows n is.1 rest in
      subst (λ (x : Event). Matches (at earlier) (Took x ∷ n)) same
      (more (at earlier) (at earlier) n (Took event ∷ n) m (Tells event) m.config tt (inl may) refl refl refl (told-last (core_after class n) event (at earlier).last (inl may) m.again))
  config-read earlier event may follows (Expired group) n e is rest = absurd (cc)
  config-read earlier event may follows (Turned Idle) n e is rest = absurd (cc)
  config-read earlier event may follows (Turned (NoPut key pending)) n e is rest = absurd (cc)
  config-read earlier event may follows (Turned (Wants put pending)) n e is rest = absurd (cc)
  config-read earlier event may follows (Heard reply) n e is rest = absurd (cc)

  service-read : (earlier : List Happening) (event : Event) (behind : List Event) → (at earlier).lane ≡ event ∷ behind → IsOfGroup groups.Service event
      → Follows earlier → (entry : TranscriptEntry) (n : List TranscriptEntry) → seen_one entry ≡ Read event ∷ [] → IsRun class (entry ∷ n) → seen_in store list earlier ≡ seen_each n
      → Matches (at (Reads ∷ earlier)) (entry ∷ n)
  service-read earlier event behind lane of follows (Took taken) n e is rest =
      let same : event ≡ taken = cc in
      subst (λ (x : Event). Matches (at (Reads ∷ earlier)) (Took x ∷ n)) same (read (at earlier) event behind n lane of is.1 (follows n is.1 rest))
  service-read earlier event behind lane of follows (Expired group) n e is rest = absurd (cc)
  service-read earlier event behind lane of follows (Turned Idle) n e is rest = absurd (cc)
  service-read earlier event behind lane of follows (Turned (NoPut key pending)) n e is rest = absurd (cc)
  service-read earlier event behind lane of follows (Turned (Wants put pending)) n e is rest = absurd (cc)
  service-read earlier event behind lane of follows (Heard reply) n e is rest = absurd (cc)

  -- a service once more
  again-read : (earlier : List Happening) (event : Event) (more_read : List Event) → (at earlier).last ≡ event ∷ more_read → Follows earlier
      → (entry : TranscriptEntry) (n : List TranscriptEntry) → seen_one entry ≡ Read event ∷ [] → IsRun class (entry ∷ n)
      → seen_in store list earlier ≡ seen_each n → Matches (at (ReadsAgain ∷ earlier)) (entry ∷ n)
  again-read earlier event more_read last follows (Took taken) n e is rest =
      let same : event ≡ taken = cc in
      let m = follows n is.1 rest in
      let s = core_after class n in
      let kept = (subst (λ (l : List Event). KeepsLast l s) last m.again).0 in
      let old : IsOld event (Some s) = read-again class n is.1 event kept.0 kept.1 in
      subst (λ (x : Event). Matches (at earlier) (Took x ∷ n)) same
      (more (at earlier) (at earlier) n (Took event ∷ n) m (Tells event) m.config tt (inr old) refl refl refl
      (told-last s event (at earlier).last (inr old) m.again))
  again-read earlier event more_read last follows (Expired group) n e is rest = absurd (cc)
  again-read earlier event more_read last follows (Turned Idle) n e is rest = absurd (cc)
  again-read earlier event more_read last follows (Turned (NoPut key pending)) n e is rest = absurd (cc)
  again-read earlier event more_read last follows (Turned (Wants put pending)) n e is rest = absurd (cc)
  again-read earlier event more_read last follows (Heard reply) n e is rest = absurd (cc)

  config-out : (earlier : List Happening) → Follows earlier → (entry : TranscriptEntry) (n : List TranscriptEntry) → seen_one entry ≡ RanOut groups.Config ∷ []
      → IsRun class (entry ∷ n) → seen_in store list earlier ≡ seen_each n → Matches (at (ConfigRunsOut ∷ earlier)) (entry ∷ n)
  config-out earlier follows (Took taken) n e is rest = absurd (cc)
  config-out earlier follows (Expired group) n e is rest =
      let same : groups.Config ≡ group = cc in
      let m = follows n is.1 rest in
      subst (λ (x : ListGroup). Matches (at earlier) (Expired x ∷ n)) same
      (more (at earlier) (at earlier) n (Expired groups.Config ∷ n) m ConfigExpires m.config tt tt refl refl refl m.again)
  config-out earlier follows (Turned Idle) n e is rest = absurd (cc)
  config-out earlier follows (Turned (NoPut key pending)) n e is rest = absurd (cc)
  config-out earlier follows (Turned (Wants put pending)) n e is rest = absurd (cc)
  config-out earlier follows (Heard reply) n e is rest = absurd (cc)

  services-out : (earlier : List Happening) (anew : List Event) → MayHappen (ServicesRunOut anew) (at earlier) → Follows earlier
      → (entry : TranscriptEntry) (n : List TranscriptEntry) → seen_one entry ≡ RanOut groups.Service ∷ [] → IsRun class (entry ∷ n)
      → seen_in store list earlier ≡ seen_each n → Matches (at (ServicesRunOut anew ∷ earlier)) (entry ∷ n)
  services-out earlier anew may follows (Took taken) n e is rest = absurd (cc)
  services-out earlier anew may follows (Expired group) n e is rest =
      let same : groups.Service ≡ group = cc in
      let m = follows n is.1 rest in
      subst (λ (x : ListGroup). Matches (at (ServicesRunOut anew ∷ earlier)) (Expired x ∷ n)) same
      (more (at earlier) (at (ServicesRunOut anew ∷ earlier)) n (Expired groups.Service ∷ n) m (ServicesExpire anew) m.config tt may refl refl refl tt)
  services-out earlier anew may follows (Turned Idle) n e is rest = absurd (cc)
  services-out earlier anew may follows (Turned (NoPut key pending)) n e is rest = absurd (cc)
  services-out earlier anew may follows (Turned (Wants put pending)) n e is rest = absurd (cc)
  services-out earlier anew may follows (Heard reply) n e is rest = absurd (cc)

  -- a reply comes to a put that was written just before
  no-put-out : (turn : Turn) (n : List TranscriptEntry) → put_in turn ≡ None → IsRun class (Turned turn ∷ n)
      → is_some (core_after class (Turned turn ∷ n)).out ≡ true → ⊥
  no-put-out turn n none is out = true≢false (sym out ∙ ap (λ (t : Turn). is_some (put_in t)) (sym is.0.1) ∙ ap is_some none)

  written-before : (earlier : List Happening) (put : Put) (outcome : Outcome) → AreCountedIn (at earlier).store → Follows earlier → (reply : PutReply)
      → reply_to put outcome (at earlier).store ≡ reply → (n : List TranscriptEntry) → IsRun class (Heard reply ∷ n)
      → Wrote put ∷ seen_in store list earlier ≡ seen_each n → Matches (at (Writes put outcome ∷ earlier)) (Heard reply ∷ n)
  written-before earlier put outcome counted follows reply same [] is e = absurd (cc)
  written-before earlier put outcome counted follows reply same (Took event ∷ n) is e = absurd (cc)
  written-before earlier put outcome counted follows reply same (Expired group ∷ n) is e = absurd (cc)
  written-before earlier put outcome counted follows reply same (Turned Idle ∷ n) is e = absurd (no-put-out Idle n refl is.1 is.0)
  written-before earlier put outcome counted follows reply same (Turned (NoPut key pending) ∷ n) is e = absurd (no-put-out (NoPut key pending) n refl is.1 is.0)
  written-before earlier put outcome counted follows reply same (Turned (Wants wanted pending) ∷ n) is e =
      let head : wanted ≡ put = cc in
      let tail : seen_in store list earlier ≡ seen_each n = cc in
      written (at earlier) (Wants wanted pending) put outcome reply n (ap Some head) is.1 same counted (follows n is.1.1 tail)
  written-before earlier put outcome counted follows reply same (Heard other ∷ n) is e = absurd (cc)

  answered-so : (earlier : List Happening) (put : Put) (outcome : Outcome) → AreCountedIn (at earlier).store → Follows earlier → (entry : TranscriptEntry) (n : List TranscriptEntry)
      → seen_one entry ≡ Answered (reply_to put outcome (at earlier).store) ∷ [] → IsRun class (entry ∷ n)
      → Wrote put ∷ seen_in store list earlier ≡ seen_each n → Matches (at (Writes put outcome ∷ earlier)) (entry ∷ n)
  answered-so earlier put outcome counted follows (Took taken) n e is rest = absurd (cc)
  answered-so earlier put outcome counted follows (Expired group) n e is rest = absurd (cc)
  answered-so earlier put outcome counted follows (Turned Idle) n e is rest = absurd (cc)
  answered-so earlier put outcome counted follows (Turned (NoPut key pending)) n e is rest = absurd (cc)
  answered-so earlier put outcome counted follows (Turned (Wants wanted pending)) n e is rest = absurd (cc)
  answered-so earlier put outcome counted follows (Heard reply) n e is rest =
      let same : reply_to put outcome (at earlier).store ≡ reply = cc in
      written-before earlier put outcome counted follows reply same n is rest

  -- the next event of the services, if one is there
  reads_by : (earlier : List Happening) (lane : List Event) → (at earlier).lane ≡ lane → AreOfServices lane → Follows earlier
      → (n : List TranscriptEntry) → IsRun class n → read_first lane ++ seen_in store list earlier ≡ seen_each n → Matches (at (Reads ∷ earlier)) n
  reads_by earlier [] lane of follows n is e = read-none (at earlier) n lane (follows n is e)
  reads_by earlier (event ∷ behind) lane of follows n is e =
      peel (Read event) (seen_in store list earlier) (Matches (at (Reads ∷ earlier))) (silent (at (Reads ∷ earlier)))
      (service-read earlier event behind lane of.0 follows) n is e

  -- the one that was read last, if one was
  again_by : (earlier : List Happening) (last : List Event) → (at earlier).last ≡ last → Follows earlier → (n : List TranscriptEntry) → IsRun class n
      → read_first last ++ seen_in store list earlier ≡ seen_each n → Matches (at (ReadsAgain ∷ earlier)) n
  again_by earlier [] last follows n is e = follows n is e
  again_by earlier (event ∷ more_read) last follows n is e =
      peel (Read event) (seen_in store list earlier) (Matches (at (ReadsAgain ∷ earlier))) (silent (at (ReadsAgain ∷ earlier)))
      (again-read earlier event more_read last follows) n is e

  all-drop : (lane : List Event) → AreOfServices lane → AreOfServices (drop 1 lane)
  all-drop [] of = tt
  all-drop (event ∷ behind) of = of.1

  -- what is going to be read is of the services
  lane-of : (happenings : List Happening) → MayAllHappen store list happenings → AreOfServices (at happenings).lane
  lane-of [] may = services
  lane-of (SetBy object holding ∷ earlier) may =
      let now = (at earlier).store in
      let shown : List Event = as_shown (stored_with now object holding) ∷ [] in
      all-append (IsOfGroup groups.Service) (at earlier).lane (to_lane groups.Service (group_of (kind_of object)) shown) (lane-of earlier may.1)
      (of-lane groups.Service (group_of (kind_of object)) shown (set-of object holding now))
  lane-of (DeletedBy kind key ∷ earlier) may =
      let shown = shown_edit (Delete kind key) (at earlier).store in
      all-append (IsOfGroup groups.Service) (at earlier).lane (to_lane groups.Service (group_of kind) shown) (lane-of earlier may.1)
      (of-lane groups.Service (group_of kind) shown (deleted-of kind key (at earlier).store))
  lane-of (ReadsConfig event ∷ earlier) may = lane-of earlier may.1
  lane-of (Reads ∷ earlier) may = all-drop (at earlier).lane (lane-of earlier may.1)
  lane-of (ReadsAgain ∷ earlier) may = lane-of earlier may.1
  lane-of (Writes put outcome ∷ earlier) may =
      all-append (IsOfGroup groups.Service) (at earlier).lane (shown_put put outcome (at earlier).store) (lane-of earlier may.1)
      (put-of put outcome (at earlier).store)
  lane-of (ConfigRunsOut ∷ earlier) may = lane-of earlier may.1
  lane-of (ServicesRunOut anew ∷ earlier) may = of-list (at earlier).store anew may.0
  lane-of (EndComesLater before event behind ∷ earlier) may =
      of-late before event behind (subst AreOfServices may.0 (lane-of earlier may.1))
  lane-of (LandsLate put ∷ earlier) may =
      all-append (IsOfGroup groups.Service) (at earlier).lane (shown_put put (Lost true) (at earlier).store) (lane-of earlier may.1)
      (put-of put (Lost true) (at earlier).store)

  -- stored versions are none past the counter
  counted-at : (happenings : List Happening) → AreCountedIn (at happenings).store
  counted-at [] = counted
  counted-at (SetBy object holding ∷ earlier) = counted-set (at earlier).store object holding (counted-at earlier)
  counted-at (DeletedBy kind key ∷ earlier) = counted-deleted (at earlier).store kind key (counted-at earlier)
  counted-at (ReadsConfig event ∷ earlier) = counted-at earlier
  counted-at (Reads ∷ earlier) = counted-at earlier
  counted-at (ReadsAgain ∷ earlier) = counted-at earlier
  counted-at (Writes put outcome ∷ earlier) = counted-put put outcome (at earlier).store (counted-at earlier)
  counted-at (ConfigRunsOut ∷ earlier) = counted-at earlier
  counted-at (ServicesRunOut anew ∷ earlier) = counted-at earlier
  counted-at (EndComesLater before event behind ∷ earlier) = counted-at earlier
  counted-at (LandsLate put ∷ earlier) = counted-put put (Lost true) (at earlier).store (counted-at earlier)

  follow : (happenings : List Happening) → MayAllHappen store list happenings → Follows happenings
  follow [] may n is e = begins n is e
  follow (SetBy object holding ∷ earlier) may n is e =
      let m = follow earlier may.1 n is e in
      more (at earlier) (at (SetBy object holding ∷ earlier)) n n m (Sets object holding) m.config tt (given_by holding _ may.0) refl refl refl m.again
  follow (DeletedBy kind key ∷ earlier) may n is e =
      let m = follow earlier may.1 n is e in
      more (at earlier) (at (DeletedBy kind key ∷ earlier)) n n m (Deletes kind key) _ tt tt refl refl refl m.again
  follow (ReadsConfig event ∷ earlier) may n is e =
      peel (Read event) (seen_in store list earlier) (Matches (at (ReadsConfig event ∷ earlier))) (silent (at (ReadsConfig event ∷ earlier)))
      (config-read earlier event may.0 (follow earlier may.1)) n is e
  follow (Reads ∷ earlier) may n is e = reads_by earlier (at earlier).lane refl (lane-of earlier may.1) (follow earlier may.1) n is e
  follow (ReadsAgain ∷ earlier) may n is e = again_by earlier (at earlier).last refl (follow earlier may.1) n is e
  follow (Writes put outcome ∷ earlier) may n is e =
      peel (Answered (reply_to put outcome (at earlier).store)) (Wrote put ∷ seen_in store list earlier) (Matches (at (Writes put outcome ∷ earlier)))
      (silent (at (Writes put outcome ∷ earlier))) (answered-so earlier put outcome (counted-at earlier) (follow earlier may.1)) n is e
  follow (ConfigRunsOut ∷ earlier) may n is e =
      peel (RanOut groups.Config) (seen_in store list earlier) (Matches (at (ConfigRunsOut ∷ earlier))) (silent (at (ConfigRunsOut ∷ earlier)))
      (config-out earlier (follow earlier may.1)) n is e
  follow (ServicesRunOut anew ∷ earlier) may n is e =
      peel (RanOut groups.Service) (seen_in store list earlier) (Matches (at (ServicesRunOut anew ∷ earlier))) (silent (at (ServicesRunOut anew ∷ earlier)))
      (services-out earlier anew may.0 (follow earlier may.1)) n is e
  follow (EndComesLater before event behind ∷ earlier) may n is e =
      let m = follow earlier may.1 n is e in
      more (at earlier) (at (EndComesLater before event behind ∷ earlier)) n n m (EndsLater before event behind) m.config tt may.0 refl refl refl m.again
  follow (LandsLate put ∷ earlier) may n is e =
      let m = follow earlier may.1 n is e in
      more (at earlier) (at (LandsLate put ∷ earlier)) n n m (Lands put) m.config tt may.0 refl refl refl m.again

  -- ---- and each moment of it is safe
  -- what is seen of a run is seen of its beginnings
  record Begins (n : List TranscriptEntry) (seen : List Seen) : Type 0 where
    run : List TranscriptEntry
    is : IsRun class run
    typed : AllShowTerms run
    same : seen ≡ seen_each run

  begins-more : (first rest : List Seen) (n : List TranscriptEntry) → IsRun class n → AllShowTerms n → first ++ rest ≡ seen_each n → Begins n rest
  begins-more [] rest n is typed e = record { run = n; is = is; typed = typed; same = e }
  begins-more (x ∷ first) rest [] is typed e = absurd (cc)
  begins-more (x ∷ first) rest (Took event ∷ n) is typed e =
      let b = begins-more first rest n is.1 typed.1 (cc) in record { run = b.run; is = b.is; typed = b.typed; same = b.same }
  begins-more (x ∷ first) rest (Expired group ∷ n) is typed e =
      let b = begins-more first rest n is.1 typed.1 (cc) in record { run = b.run; is = b.is; typed = b.typed; same = b.same }
  begins-more (x ∷ first) rest (Turned Idle ∷ n) is typed e =
      let b = begins-more (x ∷ first) rest n is.1 typed.1 e in record { run = b.run; is = b.is; typed = b.typed; same = b.same }
  begins-more (x ∷ first) rest (Turned (NoPut key pending) ∷ n) is typed e =
      let b = begins-more (x ∷ first) rest n is.1 typed.1 e in record { run = b.run; is = b.is; typed = b.typed; same = b.same }
  begins-more (x ∷ first) rest (Turned (Wants put pending) ∷ n) is typed e =
      let b = begins-more first rest n is.1 typed.1 (cc) in record { run = b.run; is = b.is; typed = b.typed; same = b.same }
  begins-more (x ∷ first) rest (Heard reply ∷ n) is typed e =
      let b = begins-more first rest n is.1 typed.1 (cc) in record { run = b.run; is = b.is; typed = b.typed; same = b.same }

  module _ (good : IsGoodStore store) (listed : IsListOf store list) where
    safe-at : (happenings : List Happening) → MayAllHappen store list happenings → (n : List TranscriptEntry) → IsRun class n → AllShowTerms n
        → seen_in store list happenings ≡ seen_each n → IsSafe (at happenings).store
    safe-at happenings may n is typed e =
        let m = follow happenings may n is e in
        let begun_good = starts_are_good class store list good listed in
        let now = good-moves m.moves w0 [] [] m.may (subst AllShowTerms (sym m.along) typed) begun_good (none-expected store w0.core) in
        subst IsSafe (ap (λ (w : WorldValue). w.store) m.is) now.stored.safe

    safe-since : (happenings : List Happening) → MayAllHappen store list happenings → (n : List TranscriptEntry) → IsRun class n → AllShowTerms n
        → seen_in store list happenings ≡ seen_each n → AreSafeSince store list happenings
    safe-since [] may n is typed e = good.safe
    safe-since (h ∷ earlier) may n is typed e =
        let b = begins-more (seen_by h (at earlier)) (seen_in store list earlier) n is typed e in (
          safe-at (h ∷ earlier) may n is typed e,
          safe-since earlier may.1 b.run b.is b.typed b.same,
        )

pub seen_are_explained : SeenAreExplained
seen_are_explained class store list happenings run is seen =
    let n = normal (answered run) in
    let m = follow class store list seen.good.kept.counted (of-list store list seen.listed) happenings seen.may n (normal-leads class (answered run) (answered-run class run is)).0
    (seen.same ∙ sym (seen-normal (answered run))) in
    record {
      moves = m.moves;
      explains = record {
        good = seen.good;
        listed = seen.listed;
        running = m.running;
        may = m.may;
        same = ap acts_of m.along ∙ acts-normal (answered run);
      };
      leads = ap (λ (w : WorldValue). w.store) m.is;
    }

behind_by : (found : Option Put) (store : StoreValue) → ((put : Put) → found ≡ Some put → (outcome : Outcome) → IsSafe (after_put put outcome store))
    → IsSafeBehind found store
behind_by None store safe = tt
behind_by (Some put) store safe = safe put refl

pub seen_are_safe : SeenAreSafe
seen_are_safe class run is typed store list happenings seen =
    let n = normal (answered run) in
    let explained = seen_are_explained class store list happenings run is seen in
    let known = (runs_are_safe_in_worlds class run is typed store list explained.moves explained.explains).0 in (
      safe-since class store list seen.good.kept.counted (of-list store list seen.listed) seen.good seen.listed happenings seen.may n
          (normal-leads class (answered run) (answered-run class run is)).0 (terms-normal (answered run) (terms-answered run typed))
          (seen.same ∙ sym (seen-normal (answered run))),
      subst (IsSafeBehind (put_out run)) explained.leads
          (behind_by (put_out run) (after_moves explained.moves (begun class store list)).store known.last),
    )
