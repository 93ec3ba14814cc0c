-- The end of the list of services comes later than a change: what is followed still is.
use Rattle.std.proofs.Common.{◌≡◌, ℕ, ◌<◌, Bool, true, false, cond, leb, eqb, List, [], ◌∷◌, ◌++◌, Option}
use Rattle.std.proofs.Common.{Some, None, IfSome, refl, sym, ap, subst, ◌∙◌, append_assoc, arith, MatchBool}
use Rattle.std.proofs.lemmas.Bool.{true≢false}
use Rattle.std.specs.List.{AllByRecursion}
use Rattle.mlb_base.proofs.Lists.{all-append, all-front, all-behind}
use Rattle.kube_model.specs.declared.event.Event.{Event}
use Rattle.kube_model.specs.declared.event.Event.TheVariants.{ListEnd}
use Rattle.kube_model.specs.declared.event.ListGroup.TheVariants as groups
use Rattle.kube_model.specs.declared.key.Key.{Key}
use Rattle.kube_model.specs.declared.record.Record.{Record}
use Rattle.claim_index.specs.Claims.{claimed_by, records_of}
use Rattle.core_rules.specs.Core.{State}
use Rattle.world_rules.specs.Tracked.{Shown, Notice, Shows, Gone, End, version_at, IsBare, IsBehind, after_shows, after_end}
use Rattle.world_rules.specs.Tracked.{is_unlisted, has_gone, IsJust, Follows, IsClaimed, WillBeClaimed, AreGiven, EndsOnce, IsTracked}
use Rattle.world_rules.specs.Good.{stored_of, held_of, notices_of, notices_in, IsOfGroup, IsTrackedIn, IsFollowed, IsGood}
use Rattle.world_rules.specs.World.{WorldValue}
use Rattle.world_rules.proofs.Following.{eqb-apart, after_shows-newer, agrees-carried}
use Rattle.world_rules.proofs.Rows.{after_end-held, newer-taken}
use Rattle.world_rules.proofs.Tracking.{IsClaimed-bare, IsClaimed-shown}
use Rattle.world_rules.proofs.Lanes.{notices_in-append, tracked-as}

-- ---- for one service
shows-later : (c : Bool) (s h : Option Shown) (x : Shown) (more : List Notice) → leb x.version (version_at h) ≡ c → (is_unlisted h ≡ true → IsBare s)
    → Follows s (after_shows (after_end h) x) more → Follows s (after_shows h x) (End ∷ more)
shows-later true s h x more e bare f =
    let held : after_shows h x ≡ h = ap (λ (b : Bool). cond b h (Some x)) e in
    let ended : after_shows (after_end h) x ≡ after_end h =
    ap (λ v. cond (leb x.version v) (after_end h) (Some x)) (after_end-held h) ∙ ap (λ (b : Bool). cond b (after_end h) (Some x)) e in
    subst (λ (o : Option Shown). Follows s o (End ∷ more)) (sym held) (bare, subst (λ (o : Option Shown). Follows s o more) ended f)
shows-later false s h x more e bare f =
    let lt : version_at h < x.version = newer-taken x.version (version_at h) e in
    let given : eqb x.version 0 ≡ false = eqb-apart x.version (omega (arith, lt)) in
    let ended : after_shows (after_end h) x ≡ Some x = after_shows-newer (after_end h) x (subst (λ v. v < x.version) (sym (after_end-held h)) lt) in
    let kept : after_end (Some x) ≡ Some x = ap (λ (b : Bool). cond b None (Some x)) given in
    subst (λ (o : Option Shown). Follows s o (End ∷ more)) (sym (after_shows-newer h x lt))
    (λ is. absurd (true≢false (sym is ∙ given)), subst (λ (o : Option Shown). Follows s o more) (ended ∙ sym kept) f)

follows-here : (s h : Option Shown) (n : Notice) (more : List Notice) → EndsOnce true (n ∷ more) → Follows s h (End ∷ n ∷ more) → Follows s h (n ∷ End ∷ more)
follows-here s h (Shows x) more once f = (
  f.1.0,
  λ lt. f.1.1 (subst (λ v. v < x.version) (sym (after_end-held h)) lt),
  shows-later (leb x.version (version_at h)) s h x more refl f.0 f.1.2,
)
follows-here s h Gone more once f = (f.1.0, subst (IsBehind s) (after_end-held h) f.1.1, (λ is. absurd (true≢false (sym is)), f.1.2))
follows-here s h End more once f = absurd once

claims-here : (c : Bool) (s h : Option Shown) (x : Shown) (claims : List Record) (more : List Notice) → leb x.version (version_at h) ≡ c
    → Follows s h (End ∷ Shows x ∷ more)
    → IsClaimed s claims → IsClaimed s (cond c claims (claimed_by x.holding))
claims-here true s h x claims more e f claimed = claimed
claims-here false s h x claims more e f claimed =
    let lt : version_at (after_end h) < x.version = subst (λ v. v < x.version) (sym (after_end-held h)) (newer-taken x.version (version_at h) e) in
    IsClaimed-shown s x.holding (agrees-carried (has_gone more) s x.holding (f.1.1 lt))

claimed-here : (s h : Option Shown) (claims : List Record) (n : Notice) (more : List Notice) → EndsOnce true (n ∷ more) → Follows s h (End ∷ n ∷ more)
    → IsClaimed s claims → WillBeClaimed s h claims (n ∷ End ∷ more)
claimed-here s h claims (Shows x) more once f claimed = claims-here (leb x.version (version_at h)) s h x claims more refl f claimed
claimed-here s h claims Gone more once f claimed = IsClaimed-bare s [] f.1.0
claimed-here s h claims End more once f claimed = absurd once

given-here : (low counter : ℕ) (n : Notice) (more : List Notice) → AreGiven low counter (End ∷ n ∷ more) → AreGiven low counter (n ∷ End ∷ more)
given-here low counter (Shows x) more g = g
given-here low counter Gone more g = g
given-here low counter End more g = g

once-here : (ended : Bool) (n : Notice) (more : List Notice) → EndsOnce ended (End ∷ n ∷ more) → EndsOnce ended (n ∷ End ∷ more)
once-here true n more once = absurd once
once-here false (Shows x) more once = once
once-here false Gone more once = once
once-here false End more once = absurd once

-- after other notices
once-later : (ended : Bool) (before : List Notice) (n : Notice) (more : List Notice) → EndsOnce ended (before ++ End ∷ n ∷ more)
    → EndsOnce ended (before ++ n ∷ End ∷ more)
once-later ended [] n more once = once-here ended n more once
once-later true (Shows x ∷ before) n more once = once-later true before n more once
once-later false (Shows x ∷ before) n more once = once-later false before n more once
once-later true (Gone ∷ before) n more once = once-later true before n more once
once-later false (Gone ∷ before) n more once = once-later false before n more once
once-later true (End ∷ before) n more once = absurd once
once-later false (End ∷ before) n more once = once-later true before n more once

-- after the end there is no other
once-behind : (ended : Bool) (before later : List Notice) → EndsOnce ended (before ++ End ∷ later) → EndsOnce true later
once-behind true [] later once = absurd once
once-behind false [] later once = once
once-behind true (Shows x ∷ before) later once = once-behind true before later once
once-behind false (Shows x ∷ before) later once = once-behind false before later once
once-behind true (Gone ∷ before) later once = once-behind true before later once
once-behind false (Gone ∷ before) later once = once-behind false before later once
once-behind true (End ∷ before) later once = absurd once
once-behind false (End ∷ before) later once = once-behind true before later once

given-later : (low counter : ℕ) (before : List Notice) (n : Notice) (more : List Notice) → AreGiven low counter (before ++ End ∷ n ∷ more)
    → AreGiven low counter (before ++ n ∷ End ∷ more)
given-later low counter [] n more g = given-here low counter n more g
given-later low counter (Shows x ∷ before) n more g = (g.0, g.1, given-later x.version counter before n more g.2)
given-later low counter (Gone ∷ before) n more g = given-later low counter before n more g
given-later low counter (End ∷ before) n more g = given-later low counter before n more g

gone-later : (before : List Notice) (n : Notice) (more : List Notice) → has_gone (before ++ End ∷ n ∷ more) ≡ has_gone (before ++ n ∷ End ∷ more)
gone-later [] (Shows x) more = refl
gone-later [] Gone more = refl
gone-later [] End more = refl
gone-later (Shows x ∷ before) n more = gone-later before n more
gone-later (Gone ∷ before) n more = refl
gone-later (End ∷ before) n more = gone-later before n more

follows-later : (s h : Option Shown) (before : List Notice) (n : Notice) (more : List Notice) → EndsOnce true (n ∷ more)
    → Follows s h (before ++ End ∷ n ∷ more)
    → Follows s h (before ++ n ∷ End ∷ more)
follows-later s h [] n more once f = follows-here s h n more once f
follows-later s h (Shows x ∷ before) n more once f = (
  f.0,
  λ lt. subst (λ (b : Bool). MatchBool b (IsBare s) (IsJust s x.holding)) (gone-later before n more) (f.1 lt),
  follows-later s (after_shows h x) before n more once f.2,
)
follows-later s h (Gone ∷ before) n more once f = (f.0, f.1, follows-later s None before n more once f.2)
follows-later s h (End ∷ before) n more once f = (f.0, follows-later s (after_end h) before n more once f.1)

claimed-later : (s h : Option Shown) (claims : List Record) (before : List Notice) (n : Notice) (more : List Notice) → EndsOnce true (n ∷ more)
    → Follows s h (before ++ End ∷ n ∷ more)
    → WillBeClaimed s h claims (before ++ End ∷ n ∷ more) → WillBeClaimed s h claims (before ++ n ∷ End ∷ more)
claimed-later s h claims [] n more once f w = claimed-here s h claims n more once f w
claimed-later s h claims (Shows x ∷ before) n more once f w = claimed-later s (after_shows h x) _ before n more once f.2 w
claimed-later s h claims (Gone ∷ before) n more once f w = claimed-later s None [] before n more once f.2 w
claimed-later s h claims (End ∷ before) n more once f w = w

claimed-when : (ended : Bool) (s h : Option Shown) (claims : List Record) (before : List Notice) (n : Notice) (more : List Notice) → EndsOnce true (n ∷ more)
    → Follows s h (before ++ End ∷ n ∷ more) → MatchBool ended (IsClaimed s claims) (WillBeClaimed s h claims (before ++ End ∷ n ∷ more))
    → MatchBool ended (IsClaimed s claims) (WillBeClaimed s h claims (before ++ n ∷ End ∷ more))
claimed-when true s h claims before n more once f c = c
claimed-when false s h claims before n more once f c = claimed-later s h claims before n more once f c

tracked-later : (counter : ℕ) (ended : Bool) (s h : Option Shown) (claims : List Record) (before : List Notice) (n : Notice) (more : List Notice)
    → IsTracked counter ended s h claims (before ++ End ∷ n ∷ more) → IsTracked counter ended s h claims (before ++ n ∷ End ∷ more)
tracked-later counter ended s h claims before n more t =
    let once = once-behind ended before (n ∷ more) t.ends in
    record {
      stored_given = t.stored_given;
      stored_later = t.stored_later;
      held_given = t.held_given;
      notices_given = given-later 0 counter before n more t.notices_given;
      kept = t.kept;
      ends = once-later ended before n more t.ends;
      follows = follows-later s h before n more once t.follows;
      claimed = claimed-when ended s h claims before n more once t.follows t.claimed;
    }

-- so it is of all the notices of an event
tracked-ahead : (ns : List Notice) (counter : ℕ) (ended : Bool) (s h : Option Shown) (claims : List Record) (before more : List Notice)
    → IsTracked counter ended s h claims (before ++ End ∷ (ns ++ more)) → IsTracked counter ended s h claims (before ++ (ns ++ End ∷ more))
tracked-ahead [] counter ended s h claims before more t = t
tracked-ahead (n ∷ ns) counter ended s h claims before more t =
    let follow : List Notice → Type 0 = λ notices. IsTracked counter ended s h claims notices in
    let once : IsTracked counter ended s h claims (before ++ n ∷ End ∷ (ns ++ more)) = tracked-later counter ended s h claims before n (ns ++ more) t in
    let ahead =
    tracked-ahead ns counter ended s h claims (before ++ n ∷ []) more (subst follow (sym (append_assoc before (n ∷ []) (End ∷ (ns ++ more)))) once) in
    subst follow (append_assoc before (n ∷ []) (ns ++ End ∷ more)) ahead

-- ---- for a world
module _ (before : List Event) (event : Event) (behind : List Event) where
  -- the end of the list, and then the event; and the other way round
  abbrev pub soon : List Event
  soon = before ++ ListEnd groups.Service ∷ event ∷ behind

  abbrev pub late : List Event
  late = before ++ event ∷ ListEnd groups.Service ∷ behind

  tracked-late : (w : WorldValue) (s : State) (key : Key) → w.service_lane ≡ soon → IsTrackedIn w s key
      → (let v : WorldValue = record w { service_lane = late } in IsTrackedIn v s key)
  tracked-late w s key is t =
      tracked-as _ _ _ _ refl refl refl (notices_in-append key before (event ∷ ListEnd groups.Service ∷ behind))
      (tracked-ahead (notices_of key event) w.store.counter s.held.services_ended (stored_of w.store key) (held_of s key) (records_of key s.claims)
      (notices_in key before) (notices_in key behind)
      (tracked-as _ _ _ _ refl refl refl (sym (ap (notices_in key) is ∙ notices_in-append key before (ListEnd groups.Service ∷ event ∷ behind))) t))

  pub of-late : AllByRecursion (IsOfGroup groups.Service) soon → AllByRecursion (IsOfGroup groups.Service) late
  of-late all =
      let rest = all-behind (IsOfGroup groups.Service) before (ListEnd groups.Service ∷ event ∷ behind) all in
      all-append (IsOfGroup groups.Service) before (event ∷ ListEnd groups.Service ∷ behind)
      (all-front (IsOfGroup groups.Service) before (ListEnd groups.Service ∷ event ∷ behind) all)
      (rest.1.0, (rest.0, rest.1.1))

  late-by : (c : Option State) (w : WorldValue) → w.service_lane ≡ soon → IfSome c (IsFollowed w)
      → (let v : WorldValue = record w { service_lane = late } in IfSome c (IsFollowed v))
  late-by None w is up = tt
  late-by (Some s) w is up = record {
    run = up.run;
    is = up.is;
    leads = up.leads;
    typed = up.typed;
    none_out = up.none_out;
    services = of-late (subst (AllByRecursion (IsOfGroup groups.Service)) is up.services);
    tracked = λ key. tracked-late w s key is (up.tracked key);
  }

  pub good-late : (w : WorldValue) → w.service_lane ≡ soon → IsGood w → (let v : WorldValue = record w { service_lane = late } in IsGood v)
  good-late w is good = record { stored = good.stored; up = late-by w.core w is good.up }
