-- What is driven goes on from what was told: its core's part from a run of the core, and its fence's part from the fence.
use Rattle.std.proofs.Common.{◌≡◌, ℕ, Bool, true, false, List, [], ◌∷◌, ◌++◌, Option, Some, None, is_some, refl, sym, ap, ◌∙◌, subst, append_assoc}
use Rattle.std.proofs.lemmas.List.{append-nil}
use Rattle.kube_model.specs.declared.event.Event.{Event}
use Rattle.kube_model.specs.declared.key.Key.{Key}
use Rattle.kube_model.specs.declared.put.Put.{Put}
use Rattle.kube_model.specs.declared.reply.PutReply.{PutReply}
use Rattle.core_drive.specs.Drive.{Took, Turned, Heard, TranscriptEntry as CoreEntry, turned as core_turned, turns as core_turns, turns_from as core_turns_from}
use Rattle.core_drive.specs.Sound.{LeadsTo, ShowsTerms, ShowsFamilies}
use Rattle.core_drive.proofs.Goes.{events_go_on, replies_go_on}
use Rattle.core_rules.specs.Core.{State}
use Rattle.core_rules.specs.Replied.{core_reply}
use Rattle.core_rules.specs.Take.{core_note, core_take}
use Rattle.core_rules.specs.Turn.{core_turn, after_turn, put_in, rest_of}
use Rattle.core_rules.specs.declared.turn.Turn.{Turn}
use Rattle.core_rules.specs.declared.turn.Turn.TheVariants.{Idle, NoPut, Wants}
use Rattle.put_fence.specs.declared.answer.Input.{Input}
use Rattle.put_fence.specs.declared.answer.Input.TheVariants as inputs
use Rattle.put_fence.specs.declared.fence.Fence.{Fence}
use Rattle.put_fence.specs.declared.output.Taken.{Taken}
use Rattle.put_fence.specs.Fences.{taken}
use Rattle.fenced_run.specs.Drive.{Driven, FencedState, Step, TranscriptEntry, OfCore, Told, behind, driven, driven_by, entering, given_in, heard, taking, telling, told}
use Rattle.fenced_run.specs.Drive.{turning_by, turns, turns_from, with_core, with_fence}
use Rattle.fenced_run.specs.Parts.{AreFolded, AreLinked, Before, IsToldOf, core_part, fence_after, wanted_there}
use Rattle.fenced_run.proofs.AtOnce.{GivesRefusal, at_once, refused-queue}

-- ---- lists of entries

pub core-append : (xs ys : List TranscriptEntry) → core_part (xs ++ ys) ≡ core_part xs ++ core_part ys
core-append [] ys = refl
core-append (OfCore entry ∷ xs) ys = ap (λ (es : List CoreEntry). entry ∷ es) (core-append xs ys)
core-append (Told input t ∷ xs) ys = core-append xs ys

pub folded-append : (f : Fence) (xs ys : List TranscriptEntry) → AreFolded f xs → AreFolded (fence_after f xs) ys → AreFolded f (xs ++ ys)
folded-append f [] ys first then = then
folded-append f (OfCore entry ∷ xs) ys first then = folded-append f xs ys first then
folded-append f (Told input t ∷ xs) ys first then = (first.0, folded-append t.fence xs ys first.1 then)

pub folded-first : (f : Fence) (xs ys : List TranscriptEntry) → AreFolded f (xs ++ ys) → AreFolded f xs
folded-first f [] ys all = tt
folded-first f (OfCore entry ∷ xs) ys all = folded-first f xs ys all
folded-first f (Told input t ∷ xs) ys all = (all.0, folded-first t.fence xs ys all.1)

pub fence-append : (f : Fence) (xs ys : List TranscriptEntry) → fence_after f (xs ++ ys) ≡ fence_after (fence_after f xs) ys
fence-append f [] ys = refl
fence-append f (OfCore entry ∷ xs) ys = fence-append f xs ys
fence-append f (Told input t ∷ xs) ys = fence-append t.fence xs ys

-- what stands last
abbrev pub last_of : Before → List TranscriptEntry → Before
last_of before [] = before
last_of before (entry ∷ more) = last_of (Some entry) more

pub linked-append : (before : Before) (xs ys : List TranscriptEntry) → AreLinked before xs → AreLinked (last_of before xs) ys → AreLinked before (xs ++ ys)
linked-append before [] ys first then = then
linked-append before (x ∷ xs) ys first then = (first.0, linked-append (Some x) xs ys first.1 then)

pub last-append : (before : Before) (xs ys : List TranscriptEntry) → last_of before (xs ++ ys) ≡ last_of (last_of before xs) ys
last-append before [] ys = refl
last-append before (x ∷ xs) ys = last-append (Some x) xs ys

-- ---- the fence's part, and both together

-- the fence comes to this, each entry is linked to what stands before it, and none of what is wanted is left untold
pub record GoesWell (before : Before) (f : Fence) (entries : List TranscriptEntry) (then : Fence) : Type 0 where
  pub folded : AreFolded f entries
  pub fence : then ≡ fence_after f entries
  pub linked : AreLinked before entries
  pub last : wanted_there (last_of before entries) ≡ None

pub joins : (before : Before) (f g h : Fence) (xs ys : List TranscriptEntry) → GoesWell before f xs g → GoesWell (last_of before xs) g ys h
    → GoesWell before f (xs ++ ys) h
joins before f g h xs ys first then = record {
  folded = folded-append f xs ys first.folded (subst (λ (x : Fence). AreFolded x ys) first.fence then.folded);
  fence = then.fence ∙ ap (λ (x : Fence). fence_after x ys) first.fence ∙ sym (fence-append f xs ys);
  linked = linked-append before xs ys first.linked then.linked;
  last = ap wanted_there (last-append before xs ys) ∙ then.last;
}

nothing-more : (before : Before) (f : Fence) → wanted_there before ≡ None → GoesWell before f [] f
nothing-more before f none = record { folded = tt; fence = refl; linked = tt; last = none }

-- the fence is told this, and the core hears what it gives
tells-well : (before : Before) (input : Input) (s : FencedState) (t : Taken) (out : Option Put) (given : Option PutReply) → t ≡ taken input s.fence
    → given_in t.output ≡ given → IsToldOf (wanted_there before) input
    → GoesWell before s.fence (Told input t ∷ (heard out given (with_fence t.fence s)).entries) (heard out given (with_fence t.fence s)).state.fence
tells-well before input s t None given is gives wants = record { folded = (is, tt); fence = refl; linked = (wants, tt); last = refl }
tells-well before input s t (Some put) None is gives wants = record { folded = (is, tt); fence = refl; linked = (wants, tt); last = refl }
tells-well before input s t (Some put) (Some reply) is gives wants =
    record { folded = (is, tt); fence = refl; linked = (wants, (gives, tt)); last = refl }

pub telling-well : (before : Before) (input : Input) (s : FencedState) → IsToldOf (wanted_there before) input
    → GoesWell before s.fence (telling input s).entries (telling input s).state.fence
telling-well before input s wants =
    let t = taken input s.fence in tells-well before input s t s.core.out (given_in t.output) refl refl wants

turn-well : (before : Before) (turn : Turn) (s : FencedState) → wanted_there before ≡ None
    → GoesWell before s.fence (turning_by turn s).entries (turning_by turn s).state.fence
turn-well before Idle s none = nothing-more before s.fence none
turn-well before (NoPut key pending) s none = record { folded = tt; fence = refl; linked = (none, tt); last = refl }
turn-well before (Wants put pending) s none =
    let rest = telling-well (Some (OfCore (Turned (Wants put pending)))) (inputs.Put put) s refl in
    record { folded = rest.folded; fence = rest.fence; linked = (none, rest.linked); last = rest.last }

by-more : (before : Before) (f : Fence) (b : Bool) (step : Step) (rest : FencedState → Driven) → b ≡ step.goes_on
    → GoesWell before f step.entries step.state.fence
    → GoesWell (last_of before step.entries) step.state.fence (rest step.state).entries (rest step.state).state.fence
    → GoesWell before f (driven step rest).entries (driven step rest).state.fence
by-more before f true step rest e first then =
    subst (λ (d : Driven). GoesWell before f d.entries d.state.fence) (ap (λ (b : Bool). driven_by b step rest) e)
    (joins before f step.state.fence (rest step.state).state.fence step.entries (rest step.state).entries first then)
by-more before f false step rest e first then =
    subst (λ (d : Driven). GoesWell before f d.entries d.state.fence) (ap (λ (b : Bool). driven_by b step rest) e) first

pub turns-well : (keys : List Key) (before : Before) (s : FencedState) → wanted_there before ≡ None
    → GoesWell before s.fence (turns keys s).entries (turns keys s).state.fence
turns-well [] before s none = nothing-more before s.fence none
turns-well (key ∷ keys) before s none =
    let step = turning_by (core_turn s.core) (with_core (after_turn s.core) s) in
    let first = turn-well before (core_turn s.core) (with_core (after_turn s.core) s) none in
    by-more before s.fence step.goes_on step (λ next. turns keys next) refl first (turns-well keys (last_of before step.entries) step.state first.last)

pub told-well : (before : Before) (input : Input) (s : FencedState) → IsToldOf (wanted_there before) input
    → GoesWell before s.fence (told input s).entries (told input s).state.fence
told-well before input s wants =
    let step = telling input s in
    let first = telling-well before input s wants in
    by-more before s.fence step.goes_on step turns_from refl first
    (turns-well step.state.core.queue (last_of before step.entries) step.state first.last)

pub taking-well : (before : Before) (event : Event) (s : FencedState) → wanted_there before ≡ None
    → GoesWell before s.fence (taking event s).entries (taking event s).state.fence
taking-well before event s none =
    let step = entering event s in
    let first : GoesWell before s.fence step.entries step.state.fence = record { folded = tt; fence = refl; linked = (none, tt); last = refl } in
    by-more before s.fence true step turns_from refl first
    (turns-well step.state.core.queue (last_of before step.entries) step.state first.last)

-- ---- the core's part

module _ (class : Option (List ℕ)) where
  abbrev Leads : List CoreEntry → State → Type 0
  Leads entries s = LeadsTo class entries s

  regroup : (a b c : List CoreEntry) (s : State) → Leads (a ++ (b ++ c)) s → Leads ((a ++ b) ++ c) s
  regroup a b c s leads = subst (λ (es : List CoreEntry). Leads es s) (sym (append_assoc a b c)) leads

  ungroup : (a b c : List CoreEntry) (s : State) → Leads ((a ++ b) ++ c) s → Leads (a ++ (b ++ c)) s
  ungroup a b c s leads = subst (λ (es : List CoreEntry). Leads es s) (append_assoc a b c) leads

  -- what is so of a state from which turns are made: where the core's own turns lead to a state, so do these
  abbrev TurnsLead : List Key → Type 0
  TurnsLead keys = (s : FencedState) (earlier : List CoreEntry) → keys ≡ s.core.queue
      → Leads (earlier ++ (core_turns keys s.core).entries) (core_turns keys s.core).core
      → Leads (earlier ++ core_part (turns keys s).entries) (turns keys s).state.core

  -- what the core hears, and the turns after it
  heard-leads : (keys : List Key) → TurnsLead keys → (s : FencedState) (earlier : List CoreEntry) (out : Option Put) (given : Option PutReply)
      → s.core.out ≡ out → ((reply : PutReply) → given ≡ Some reply → (core_reply s.core reply).queue ≡ keys) → Leads earlier s.core
      → Leads (earlier ++ core_part (driven (heard out given s) (λ next. turns keys next)).entries) (driven (heard out given s) (λ next. turns keys next)).state.core
  heard-leads keys more s earlier None given e queue leads = subst (λ (es : List CoreEntry). Leads es s.core) (sym (append-nil earlier)) leads
  heard-leads keys more s earlier (Some put) None e queue leads = subst (λ (es : List CoreEntry). Leads es s.core) (sym (append-nil earlier)) leads
  heard-leads keys more s earlier (Some put) (Some reply) e queue leads =
      let next = with_core (core_reply s.core reply) s in
      let same = queue reply refl in
      let went = replies_go_on class earlier s.core reply leads (ap is_some e) in
      let there : Leads (earlier ++ (Heard reply ∷ (core_turns keys next.core).entries)) (core_turns keys next.core).core =
      subst (λ (ks : List Key). Leads (earlier ++ (Heard reply ∷ (core_turns ks next.core).entries)) (core_turns ks next.core).core) same went in
      ungroup earlier (Heard reply ∷ []) (core_part (turns keys next).entries) (turns keys next).state.core
      (more next (earlier ++ Heard reply ∷ []) (sym same)
      (regroup earlier (Heard reply ∷ []) (core_turns keys next.core).entries (core_turns keys next.core).core there))

  refusal-queue : (given : Option PutReply) (s : State) (keys : List Key) → GivesRefusal given → s.queue ≡ keys → (reply : PutReply) → given ≡ Some reply
      → (core_reply s reply).queue ≡ keys
  refusal-queue None s keys is e reply none = absurd (cc)
  refusal-queue (Some given) s keys is e reply some =
      let same : given ≡ reply = cc in
      subst (λ (r : PutReply). (core_reply s r).queue ≡ keys) same (refused-queue s.out given s is ∙ e)

  -- one turn, and those after it
  turn-leads : (keys : List Key) → TurnsLead keys → (turn : Turn) (s : FencedState) (earlier : List CoreEntry) → s.core.out ≡ put_in turn → s.core.queue ≡ keys
      → Leads (earlier ++ (core_turned turn s.core (core_turns keys s.core)).entries) (core_turned turn s.core (core_turns keys s.core)).core
      → Leads (earlier ++ core_part (driven (turning_by turn s) (λ next. turns keys next)).entries)
      (driven (turning_by turn s) (λ next. turns keys next)).state.core
  turn-leads keys more Idle s earlier out queue leads = more s earlier (sym queue) leads
  turn-leads keys more (NoPut key pending) s earlier out queue leads =
      let entry = Turned (NoPut key pending) in
      ungroup earlier (entry ∷ []) (core_part (turns keys s).entries) (turns keys s).state.core
      (more s (earlier ++ entry ∷ []) (sym queue) (regroup earlier (entry ∷ []) (core_turns keys s.core).entries (core_turns keys s.core).core leads))
  turn-leads keys more (Wants put pending) s earlier out queue leads =
      let entry = Turned (Wants put pending) in
      let t = taken (inputs.Put put) s.fence in
      let given = given_in t.output in
      let next = with_fence t.fence s in
      let heard_on = heard-leads keys more next (earlier ++ entry ∷ []) s.core.out given refl
      (refusal-queue given s.core keys (at_once put s.fence) queue) leads in
      told_on entry (inputs.Put put) t s.core.out given next earlier heard_on
    where
      -- entries of the fence have no part in the core's
      told_on : (entry : CoreEntry) (input : Input) (t : Taken) (out : Option Put) (given : Option PutReply) (next : FencedState) (earlier : List CoreEntry)
          → Leads ((earlier ++ entry ∷ []) ++ core_part (driven (heard out given next) (λ next. turns keys next)).entries)
          (driven (heard out given next) (λ next. turns keys next)).state.core
          → Leads (earlier ++ core_part (driven (behind (OfCore entry) (behind (Told input t) (heard out given next))) (λ next. turns keys next)).entries)
          (driven (behind (OfCore entry) (behind (Told input t) (heard out given next))) (λ next. turns keys next)).state.core
      told_on entry input t None given next earlier leads = ungroup earlier (entry ∷ []) [] next.core leads
      told_on entry input t (Some put) None next earlier leads = ungroup earlier (entry ∷ []) [] next.core leads
      told_on entry input t (Some put) (Some reply) next earlier leads =
          let then = turns keys (with_core (core_reply next.core reply) next) in
          ungroup earlier (entry ∷ []) (Heard reply ∷ core_part then.entries) then.state.core leads

  turns-lead : (keys : List Key) → TurnsLead keys
  turns-lead [] s earlier e leads = leads
  turns-lead (key ∷ keys) s earlier e leads =
      turn-leads keys (turns-lead keys) (core_turn s.core) (with_core (after_turn s.core) s) earlier refl (ap rest_of (sym e)) leads

  -- an event
  pub taking-leads : (event : Event) (s : FencedState) (earlier : List CoreEntry) → s.core.out ≡ None → ShowsTerms event → ShowsFamilies event
      → Leads earlier s.core → Leads (earlier ++ core_part (taking event s).entries) (taking event s).state.core
  taking-leads event s earlier none terms families leads =
      let entry = Took event (core_note s.core event) in
      let next = with_core (core_take s.core event) s in
      let went = events_go_on class earlier s.core event leads none terms families in
      ungroup earlier (entry ∷ []) (core_part (turns_from next).entries) (turns_from next).state.core
      (turns-lead next.core.queue next (earlier ++ entry ∷ []) refl
      (regroup earlier (entry ∷ []) (core_turns_from next.core).entries (core_turns_from next.core).core went))

  -- what the fence is told
  by-heard : (input : Input) (t : Taken) (out : Option Put) (given : Option PutReply) (s : FencedState) (earlier : List CoreEntry) → s.core.out ≡ out
      → Leads earlier s.core
      → Leads (earlier ++ core_part (driven (behind (Told input t) (heard out given s)) turns_from).entries)
      (driven (behind (Told input t) (heard out given s)) turns_from).state.core
  by-heard input t None given s earlier e leads = subst (λ (es : List CoreEntry). Leads es s.core) (sym (append-nil earlier)) leads
  by-heard input t (Some put) None s earlier e leads = subst (λ (es : List CoreEntry). Leads es s.core) (sym (append-nil earlier)) leads
  by-heard input t (Some put) (Some reply) s earlier e leads =
      let next = with_core (core_reply s.core reply) s in
      let went = replies_go_on class earlier s.core reply leads (ap is_some e) in
      ungroup earlier (Heard reply ∷ []) (core_part (turns_from next).entries) (turns_from next).state.core
      (turns-lead next.core.queue next (earlier ++ Heard reply ∷ []) refl
      (regroup earlier (Heard reply ∷ []) (core_turns_from next.core).entries (core_turns_from next.core).core went))

  pub told-leads : (input : Input) (s : FencedState) (earlier : List CoreEntry) → Leads earlier s.core
      → Leads (earlier ++ core_part (told input s).entries) (told input s).state.core
  told-leads input s earlier leads =
      let t = taken input s.fence in by-heard input t s.core.out (given_in t.output) (with_fence t.fence s) earlier refl leads
