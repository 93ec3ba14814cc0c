-- Items that are taken, with the replies after each.
use Rattle.std.proofs.Common.{◌≡◌, inl, inr, ℕ, ◌≤◌, true, false, List, [], ◌∷◌, ◌++◌, Option, refl, sym, ap, ◌∙◌, subst, arith, append_assoc}
use Rattle.std.specs.List.{flat_map}
use Rattle.std.proofs.lemmas.Grind.{flat_map-append}
use Rattle.std.proofs.lemmas.List.{append-nil}
use Rattle.kube_model.specs.declared.status.Status.{Status}
use Rattle.lane_mail.specs.declared.item.Item.{Item}
use Rattle.lane_run.specs.Reconciled.{AreDriven, AsksIn, HasDriven, HasRefused}
use Rattle.lane_run.specs.Outside.{SourceState, Outside}
use Rattle.line_run.specs.Ended.{status_of_refusal}
use Rattle.line_run.specs.Machine.{Goes}
use Rattle.line_run.specs.Text.{line_of}
use Rattle.line_run.specs.declared.halt.Refusal.{Refusal}
use Rattle.kube_lines.specs.OutputLines.{took_text}
use Rattle.lane_drive.specs.Asking.{AnswersAll, AwaitsMore, AwaitsReply, AsksFor, HasStopped}
use Rattle.lane_drive.specs.LaneRules.{LaneRules, item_text, TakesItem, RefusesItem}
use Rattle.lane_drive.specs.Drive.{Told, AreHeard, AreTaken, Drives, told_text}
use Rattle.lane_drive.specs.Hearing.{HearsSome, Hears, StopsHearing, DrivesItem, FailsItem, RefusesNext}
use Rattle.lane_drive.proofs.Heard.{both_none, AreHeard-append, hears_not}
use Rattle.mlb_edge.specs.declared.lines.Line.{Line}
use Rattle.mlb_edge.specs.InputLines.{Follows-refl, Follows-append, to_come}
use Rattle.mlb_edge.specs.Written.{Grows, Grows-none, Grows-append}

-- nothing is read where no line is, and none after
unread_both : (a b c : Outside) (xs ys : List Line) → (xs ≡ [] → (b.reading ≡ a.reading) × (b.replies ≡ a.replies))
    → (ys ≡ [] → (c.reading ≡ b.reading) × (c.replies ≡ b.replies))
    → xs ++ ys ≡ [] → (c.reading ≡ a.reading) × (c.replies ≡ a.replies)
unread_both a b c xs ys first second none =
    let e = both_none xs ys none in
    ((second e.1).0 ∙ (first e.0).0, (second e.1).1 ∙ (first e.0).1)

-- what is told of one item
abbrev pub one_told : {E : Type 0} → Item → List E → List (Told E)
one_told {E} item entries =
    let one : Told E = record { item = item; entries = entries } in
    one ∷ []

module _ {S E : Type 0} (rules : LaneRules S E) where
  -- the text of an item with more entries
  pub item_text-append : (item : Item) (es fs : List E) → item_text rules item (es ++ fs) ≡ item_text rules item es ++ flat_map rules.text fs
  item_text-append item es fs =
      let head = line_of (took_text (rules.name item.lane) item.number) in
      ap (λ (t : List ℕ). head ++ t) (flat_map-append rules.text es fs) ∙ sym (append_assoc head (flat_map rules.text es) (flat_map rules.text fs))

  -- the text of two lists
  pub told_text-append : (xs ys : List (Told E)) → told_text rules (xs ++ ys) ≡ told_text rules xs ++ told_text rules ys
  told_text-append xs ys = flat_map-append (λ (one : Told E). item_text rules one.item one.entries) xs ys

  -- some items, and then others
  pub AreTaken-append : (items items' : List Item) (xs ys : List Line) (s t u : S) (told told' : List (Told E)) → AreTaken rules items xs s t told
      → AreTaken rules items' ys t u told' → AreTaken rules (items ++ items') (xs ++ ys) s u (told ++ told')
  AreTaken-append [] items' xs ys s t u told told' first second = rw (first.0, first.2) (subst (λ (x : S). AreTaken rules items' ys x u told') first.1 second)
  AreTaken-append (item ∷ items) items' xs ys s t u told told' (own, behind, next, entries, more, replies_are, taken, others, told_are) second = (
    own,
    behind ++ ys,
    next,
    entries,
    more ++ told',
    rw replies_are (append_assoc own behind ys),
    taken,
    AreTaken-append items items' behind ys next t u more told' others second,
    ap (λ (l : List (Told E)). l ++ told') told_are,
  )

  -- The first of these items are taken with the first of the replies, and then the others with the other replies.
  pub record TakenFirst (items others : List Item) (lines : List Line) (s t : S) : Type 0 where
    pub heard : List Line
    pub rest : List Line
    pub split : lines ≡ heard ++ rest
    pub state : S
    pub told : List (Told E)
    pub taken : AreTaken rules items heard s state told
    pub told' : List (Told E)
    pub behind : AreTaken rules others rest state t told'

  pub taken_first : (items others : List Item) (lines : List Line) (s t : S) (told : List (Told E)) → AreTaken rules (items ++ others) lines s t told
      → TakenFirst items others lines s t
  taken_first [] others lines s t told taken = record {
    heard = [];
    rest = lines;
    split = refl;
    state = s;
    told = [];
    taken = (refl, refl, refl);
    told' = told;
    behind = taken;
  }
  taken_first (item ∷ items) others lines s t told (own, behind, next, entries, more, split, taken, rest, is) =
      let tail = taken_first items others behind next t more rest in
      record {
        heard = own ++ tail.heard;
        rest = tail.rest;
        split = split ∙ (ap (λ (l : List Line). own ++ l) tail.split ∙ sym (append_assoc own tail.heard tail.rest));
        state = tail.state;
        told = (record { item = item; entries = entries }) ∷ tail.told;
        taken = (own, tail.heard, next, entries, tail.told, refl, taken, tail.taken, refl);
        told' = tail.told';
        behind = tail.behind;
      }

  -- One reply more after the last of these items.
  pub hears_behind : (item : Item) (items : List Item) (lines : List Line) (s t u : S) (told : List (Told E)) (line : Line) (more : List E)
      → AreTaken rules (item ∷ items) lines s t told → rules.waits t ≡ true → rules.hear t line ≡ Goes u more
      → (told' : List (Told E)) × AreTaken rules (item ∷ items) (lines ++ line ∷ []) s u told'
      × (told_text rules told' ≡ told_text rules told ++ flat_map rules.text more)
  hears_behind item [] lines s t u told line more (own, behind, next, entries, rest, lines_are, taken, (none, same, last), told_are) waits hears =
      let waits' : rules.waits next ≡ true = ap rules.waits (sym same) ∙ waits in
      let hears' : rules.hear next line ≡ Goes u more = ap (λ (x : S). rules.hear x line) (sym same) ∙ hears in
      let heard : AreHeard rules (line ∷ []) next u more = (u, more, [], waits', hears', (refl, refl), sym (append-nil more)) in
      let one : Told E = record { item = item; entries = entries ++ more } in
      let text = item_text rules item entries in
      let text_is : told_text rules (one ∷ []) ≡ text ++ flat_map rules.text more =
      append-nil (item_text rules item (entries ++ more)) ∙ item_text-append item entries more in
      let before : told_text rules told ≡ text =
      ap (told_text rules) told_are ∙ (ap (λ (l : List (Told E)). text ++ told_text rules l) last ∙ append-nil text) in (
        one ∷ [],
        (
          own ++ line ∷ [],
          [],
          u,
          entries ++ more,
          [],
          rw (lines_are, none, append-nil own) (sym (append-nil (own ++ line ∷ []))),
          record {
            quiet = taken.quiet;
            next = taken.next;
            first = taken.first;
            rest = taken.rest ++ more;
            steps = taken.steps;
            heard = AreHeard-append rules own (line ∷ []) taken.next next u taken.rest more taken.heard heard;
            entries_are = rw taken.entries_are (append_assoc taken.first taken.rest more);
          },
          (refl, refl, refl),
          refl,
        ),
        text_is ∙ ap (λ (l : List ℕ). l ++ flat_map rules.text more) (sym before),
      )
  hears_behind item (other ∷ items) lines s t u told line more (own, behind, next, entries, rest, lines_are, taken, others, told_are) waits hears =
      let last = hears_behind other items behind next t u rest line more others waits hears in
      let one : Told E = record { item = item; entries = entries } in (
        one ∷ last.0,
        (own, behind ++ line ∷ [], next, entries, last.0, rw lines_are (append_assoc own behind (line ∷ [])), taken, last.1, refl),
        rw told_are (ap (λ (l : List ℕ). item_text rules item entries ++ l) last.2
            ∙ sym (append_assoc (item_text rules item entries) (told_text rules rest) (flat_map rules.text more))),
      )

  -- where a reply is awaited and none was at first, there is such an item
  pub hears_last : (items : List Item) (lines : List Line) (s t u : S) (told : List (Told E)) (line : Line) (more : List E) → rules.waits s ≡ false
      → AreTaken rules items lines s t told → rules.waits t ≡ true → rules.hear t line ≡ Goes u more
      → (told' : List (Told E)) × AreTaken rules items (lines ++ line ∷ []) s u told'
      × (told_text rules told' ≡ told_text rules told ++ flat_map rules.text more)
  hears_last [] lines s t u told line more quiet taken waits hears =
      let waits' : rules.waits s ≡ true = ap rules.waits (sym taken.1) ∙ waits in
      absurd (cc)
  hears_last (item ∷ items) lines s t u told line more quiet taken waits hears = hears_behind item items lines s t u told line more taken waits hears

  pub drives_none : (s : S) (o : Outside) → Drives rules [] s s [] o o
  drives_none s o = record {
    replies = [];
    taken = (refl, refl, refl);
    comes = Follows-refl (to_come o.reading o.replies.left);
    wrote = Grows-none o.written;
    reads = omega arith;
    writes = omega arith;
    unread = λ _. (refl, refl);
  }

  pub drives_more : (items items' : List Item) (s t u : S) (told told' : List (Told E)) (before mid after : Outside) → Drives rules items s t told before mid
      → Drives rules items' t u told' mid after
      → Drives rules (items ++ items') s u (told ++ told') before after
  drives_more items items' s t u told told' before mid after first second = record {
    replies = first.replies ++ second.replies;
    taken = AreTaken-append items items' first.replies second.replies s t u told told' first.taken second.taken;
    comes = Follows-append (to_come before.reading before.replies.left) (to_come mid.reading mid.replies.left) (to_come after.reading after.replies.left)
        first.replies second.replies first.comes second.comes;
    wrote = rw (told_text-append told told')
        (Grows-append before.written mid.written after.written (told_text rules told) (told_text rules told') first.wrote second.wrote);
    reads = omega (arith, first.reads, second.reads);
    writes = omega (arith, first.writes, second.writes);
    unread = unread_both before mid after first.replies second.replies first.unread second.unread;
  }

  pub takes_one : (s t u : S) (item : Item) (lines : List Line) (first rest : List E) → rules.waits s ≡ false → rules.take s item ≡ Goes t first
      → AreHeard rules lines t u rest → AreTaken rules (item ∷ []) lines s u (one_told item (first ++ rest))
  takes_one s t u item lines first rest quiet steps heard = (
    lines,
    [],
    u,
    first ++ rest,
    [],
    sym (append-nil lines),
    record { quiet = quiet; next = t; first = first; rest = rest; steps = steps; heard = heard; entries_are = refl },
    (refl, refl, refl),
    refl,
  )

  drives_one : (s t u : S) (item : Item) (before mid after : Outside) → rules.waits s ≡ false → (took : TakesItem rules s t item before.written mid.written)
      → mid.reading ≡ before.reading → mid.replies ≡ before.replies → before.faults ≤ mid.faults
      → (hears : HearsSome rules t u mid after) → Drives rules (item ∷ []) s u (one_told item (took.entries ++ hears.entries)) before after
  drives_one s t u item before mid after quiet took reading replies later hears =
      let text = item_text rules item took.entries in
      let more = flat_map rules.text hears.entries in
      let wrote : Grows before.written after.written (text ++ more) = Grows-append before.written mid.written after.written text more took.wrote hears.wrote in
      let same : to_come before.reading before.replies.left ≡ to_come mid.reading mid.replies.left = rw (reading, replies) refl in
      record {
        replies = hears.replies;
        taken = takes_one s t u item hears.replies took.entries hears.entries quiet took.steps hears.heard;
        comes = rw same hears.comes;
        wrote = subst (λ (x : List ℕ). Grows before.written after.written x)
            (sym (append-nil (item_text rules item (took.entries ++ hears.entries)) ∙ item_text-append item took.entries hears.entries)) wrote;
        reads = omega (arith, hears.reads, ap (λ (v : SourceState). v.faults) replies);
        writes = omega (arith, later, hears.writes);
        unread = λ none.
            let still = hears.still none in
            (ap (λ (o : Outside). o.reading) still ∙ reading, ap (λ (o : Outside). o.replies) still ∙ replies);
      }

  -- What the reconciler makes of an item: where no reply is awaited, none is heard before it.
  module _ (s s' t : S) (item : Item) (before mid mid' : Outside) (first : HearsSome rules s s' before mid)
      (took : TakesItem rules s' t item mid.written mid'.written)
      (reading : mid'.reading ≡ mid.reading) (replies : mid'.replies ≡ mid.replies) (later : mid.faults ≤ mid'.faults) where
    driven_one : (u : S) (after : Outside) → rules.waits s ≡ false → (hears : HearsSome rules t u mid' after)
        → Drives rules (item ∷ []) s u (one_told item (took.entries ++ hears.entries)) before after
    driven_one u after quiet hears =
        let same = hears_not rules s s' before mid quiet first in
        let told = one_told item (took.entries ++ hears.entries) in
        let quiet' : rules.waits s' ≡ false = ap rules.waits same.0 ∙ quiet in
        let drives = drives_one s' t u item mid mid' after quiet' took reading replies later hears in
        subst (λ (o : Outside). Drives rules (item ∷ []) s u told o after) same.1 (subst (λ (x : S). Drives rules (item ∷ []) x u told mid after) same.0 drives)

    pub drives_item : (u : S) (after : Outside) → Hears rules t u mid' after → DrivesItem rules s u item before after
    drives_item u after hears quiet = (one_told item (took.entries ++ hears.0.entries), driven_one u after quiet hears.0, hears.1)

    -- a reply after it is awaited
    pub awaits_behind : (now : Outside) → AwaitsMore rules t mid' now → AsksFor rules s item before now
    awaits_behind now more quiet = record {
      state = more.state;
      told = one_told item (took.entries ++ more.hears.entries);
      drove = driven_one more.state now quiet more.hears;
      none_held = more.none_held;
      waits = more.waits;
    }

    pub fails_behind : (after : Outside) (status : Status) → StopsHearing rules t status mid' after → RefusesNext rules status s item before after
    fails_behind after status stops quiet = inr (record {
      state = stops.state;
      told = one_told item (took.entries ++ stops.hears.entries);
      mid = stops.mid;
      drove = driven_one stops.state stops.mid quiet stops.hears;
      waits = stops.waits;
      stops = stops.stops;
    })

  -- the item isn't taken
  pub fails_item : (s s' : S) (item : Item) (before mid after : Outside) (status : Status) (refusal : Refusal) → HearsSome rules s s' before mid
      → status ≡ status_of_refusal refusal
      → RefusesItem refusal rules s' item mid.written after.written mid.faults after.faults → after.reading ≡ mid.reading → after.replies ≡ mid.replies
      → RefusesNext rules status s item before after
  fails_item s s' item before mid after status refusal first is refuses reading replies quiet =
      let same = hears_not rules s s' before mid quiet first in
      let fails : FailsItem rules status s' item mid after = record { refusal = refusal; is = is; refuses = refuses; unread = (reading, replies) } in
      inl (subst (λ (o : Outside). FailsItem rules status s item o after) same.1 (subst (λ (x : S). FailsItem rules status x item mid after) same.0 fails))

  -- no reply is awaited, so none is asked for
  pub asks_not : (s : S) (item : Item) (before now : Outside) → AwaitsMore rules s before now → AsksFor rules s item before now
  asks_not s item before now more quiet =
      let same = hears_not rules s more.state before now quiet more.hears in
      let waits : rules.waits more.state ≡ true = more.waits in
      let quiet' : rules.waits more.state ≡ false = ap rules.waits same.0 ∙ quiet in
      absurd (cc)

  -- no reply is awaited, so none stops the run
  pub fails_not : (s : S) (item : Item) (before after : Outside) (status : Status) → StopsHearing rules s status before after
      → RefusesNext rules status s item before after
  fails_not s item before after status stops quiet =
      let same = hears_not rules s stops.state before stops.mid quiet stops.hears in
      let waits : rules.waits stops.state ≡ true = stops.waits in
      let quiet' : rules.waits stops.state ≡ false = ap rules.waits same.0 ∙ quiet in
      absurd (cc)

  -- The items that drove the reconciler were taken one after the other.
  pub drives_all : (items : List Item) (s t : S) (before after : Outside) → rules.waits s ≡ false → AreDriven (DrivesItem rules) items s t before after
      → (told : List (Told E)) × Drives rules items s t told before after × (rules.waits t ≡ false)
  drives_all [] s t before after quiet are = ([], rw (are.0, are.1) (drives_none s before), rw are.0 quiet)
  drives_all (item ∷ items) s t before after quiet (next, mid, one, others) =
      let x = one quiet in
      let y = drives_all items next t mid after x.2 others in
      (x.0 ++ y.0, drives_more (item ∷ []) items s next t x.0 y.0 before mid after x.1 y.1, y.2)

  -- Where a reply is asked for while the reconciler takes an item, it is awaited after all that were taken.
  pub awaits_in : (s : S) (before now : Outside) → rules.waits s ≡ false → AsksIn (DrivesItem rules) (AsksFor rules) s before now
      → (items : List Item) × AwaitsReply rules items s before now
  awaits_in s before now quiet asks =
      let d = drives_all asks.driven s asks.state before asks.mid quiet asks.drove in
      let more = asks.asks d.2 in (
        asks.driven ++ asks.item ∷ [],
        record {
          state = more.state;
          told = d.0 ++ more.told;
          drove = drives_more asks.driven (asks.item ∷ []) s asks.state more.state d.0 more.told before asks.mid now d.1 more.drove;
          none_held = more.none_held;
          waits = more.waits;
        },
      )

  -- Where the next item is waited for, all that were taken are answered.
  pub answers_in : (s : S) (before : Outside) (items : List Item) (written : Option (List ℕ)) → rules.waits s ≡ false
      → HasDriven (DrivesItem rules) s before items written → AnswersAll rules s before items written
  answers_in s before items written quiet has =
      let d = drives_all items s has.state before has.now quiet has.drove in
      record { state = has.state; told = d.0; now = has.now; drove = d.1; quiet = d.2; is = has.is }

  -- Where what the lanes still send is dropped, the run has stopped.
  pub stopped_in : (s : S) (before : Outside) (items : List Item) (written : Option (List ℕ)) → rules.waits s ≡ false
      → HasRefused (DrivesItem rules) (RefusesNext rules) s before items written → HasStopped rules s before items written
  stopped_in s before items written quiet has =
      let d = drives_all has.driven s has.state before has.mid quiet has.drove in
      record {
        driven = has.driven;
        item = has.item;
        items_are = has.items_are;
        state = has.state;
        told = d.0;
        mid = has.mid;
        drove = d.1;
        quiet = d.2;
        status = has.status;
        now = has.now;
        stops = has.refused d.2;
        is = has.is;
      }
