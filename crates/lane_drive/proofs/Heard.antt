-- Replies that are heard, and others after them.
use Rattle.std.proofs.Common.{◌≡◌, ◌≤◌, Bool, true, false, if◌then◌else◌, List, [], ◌∷◌, ◌++◌, refl, sym, ap, ◌∙◌, subst, arith, append_assoc}
use Rattle.std.specs.List.{flat_map}
use Rattle.std.proofs.lemmas.Grind.{flat_map-append}
use Rattle.std.proofs.lemmas.List.{append-nil}
use Rattle.kube_model.specs.declared.status.Status.TheVariants as statuses
use Rattle.lane_run.specs.Outside.{Outside}
use Rattle.line_run.specs.Ends.{Drives}
use Rattle.line_run.specs.Machine.{Transition, Goes, Stops}
use Rattle.lane_drive.specs.LaneRules.{LaneRules, reply_rules}
use Rattle.lane_drive.specs.Drive.{AreHeard}
use Rattle.lane_drive.specs.Hearing.{HearsSome}
use Rattle.mlb_edge.specs.declared.lines.Line.{Line}
use Rattle.mlb_edge.specs.InputLines.{Follows-refl, Follows-append, to_come}
use Rattle.mlb_edge.specs.Written.{Grows-none, Grows-append}

-- where two lists are none, each is
pub both_none : {T : Type 0} (xs ys : List T) → xs ++ ys ≡ [] → (xs ≡ []) × (ys ≡ [])
both_none [] ys e = (refl, e)
both_none (x ∷ xs) ys e = absurd (cc)

module _ {S E : Type 0} (rules : LaneRules S E) where
  -- where a reply is awaited, the next line is it
  pub hears_line : (b : Bool) (s : S) (line : Line) (step : Transition S E) → rules.waits s ≡ b → b ≡ true
      → (if b then rules.hear s line else Stops (statuses.BadReply line.number line.bytes)) ≡ step → rules.hear s line ≡ step
  hears_line true s line step is sure e = e
  hears_line false s line step is sure e = absurd (cc)

  -- some, and then others
  pub AreHeard-append : (xs ys : List Line) (s t u : S) (es fs : List E) → AreHeard rules xs s t es → AreHeard rules ys t u fs
      → AreHeard rules (xs ++ ys) s u (es ++ fs)
  AreHeard-append [] ys s t u es fs first second = rw first.1 (subst (λ (x : S). AreHeard rules ys x u fs) first.0 second)
  AreHeard-append (line ∷ xs) ys s t u es fs (next, mine, rest, waits, goes, others, is) second =
      (next, mine, rest ++ fs, waits, goes, AreHeard-append xs ys next t u rest fs others second, rw is (append_assoc mine rest fs))

  pub hears_none : (s : S) (o : Outside) → HearsSome rules s s o o
  hears_none s o = record {
    replies = [];
    entries = [];
    heard = (refl, refl);
    comes = Follows-refl (to_come o.reading o.replies.left);
    wrote = Grows-none o.written;
    reads = omega arith;
    writes = omega arith;
    still = λ _. refl;
  }

  pub hears_more : (s t u : S) (before mid after : Outside) → HearsSome rules s t before mid → HearsSome rules t u mid after → HearsSome rules s u before after
  hears_more s t u before mid after first second = record {
    replies = first.replies ++ second.replies;
    entries = first.entries ++ second.entries;
    heard = AreHeard-append first.replies second.replies s t u first.entries second.entries first.heard second.heard;
    comes = Follows-append (to_come before.reading before.replies.left) (to_come mid.reading mid.replies.left) (to_come after.reading after.replies.left)
        first.replies second.replies first.comes second.comes;
    wrote = rw (flat_map-append rules.text first.entries second.entries) (Grows-append before.written mid.written after.written
        (flat_map rules.text first.entries) (flat_map rules.text second.entries) first.wrote second.wrote);
    reads = omega (arith, first.reads, second.reads);
    writes = omega (arith, first.writes, second.writes);
    still = λ none.
        let e = both_none first.replies second.replies none in
        second.still e.1 ∙ first.still e.0;
  }

  -- one reply
  pub hears_one : (s t : S) (before after : Outside) → rules.waits s ≡ true
      → Drives (reply_rules rules) s t (to_come before.reading before.replies.left) (to_come after.reading after.replies.left) before.written after.written
      → before.replies.faults ≤ after.replies.faults → before.faults ≤ after.faults → HearsSome rules s t before after
  hears_one s t before after waits d reads writes = record {
    replies = d.line ∷ [];
    entries = d.takes.entries;
    heard = (
      t,
      d.takes.entries,
      [],
      waits,
      hears_line (rules.waits s) s d.line (Goes t d.takes.entries) refl waits d.takes.steps,
      (refl, refl),
      sym (append-nil d.takes.entries),
    );
    comes = d.comes;
    wrote = d.takes.wrote;
    reads = reads;
    writes = writes;
    still = λ none. absurd (cc);
  }

  pub none_heard : (s t : S) (lines : List Line) (entries : List E) → rules.waits s ≡ false → AreHeard rules lines s t entries → (lines ≡ []) × (t ≡ s)
  none_heard s t [] entries quiet heard = (refl, heard.0)
  none_heard s t (line ∷ lines) entries quiet (next, first, rest, waits, goes, others, is) = absurd (cc)

  -- where none is ever awaited, none is in this state
  pub never_waits : ((x : S) → rules.waits x ≡ false) → (s : S) → rules.waits s ≡ true → ⊥
  never_waits never s waits =
      let quiet : rules.waits s ≡ false = never s in
      absurd (cc)

  -- where none is awaited, none is heard
  pub hears_not : (s t : S) (before after : Outside) → rules.waits s ≡ false → HearsSome rules s t before after → (t ≡ s) × (after ≡ before)
  hears_not s t before after quiet hears =
      let none = none_heard s t hears.replies hears.entries quiet hears.heard in
      (none.1, hears.still none.0)

  -- none is awaited then either
  pub never : (s t : S) (before after : Outside) → rules.waits s ≡ false → HearsSome rules s t before after → rules.waits t ≡ true → ⊥
  never s t before after quiet hears waits =
      let quiet' : rules.waits t ≡ false = ap rules.waits (hears_not s t before after quiet hears).0 ∙ quiet in
      absurd (cc)
