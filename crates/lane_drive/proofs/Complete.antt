-- Where all can be taken, a run over two lane files is done.
use Rattle.std.proofs.Common.{◌≡◌, ◌≢◌, ◌⊎◌, inl, inr, ℕ, ◌+◌, ◌==◌, Bool, true, false, if◌then◌else◌, List, [], ◌∷◌, ◌++◌}
use Rattle.std.proofs.Common.{length, Option, Some, None, refl, sym, ap, ◌∙◌, subst, arith, append_assoc, length-append}
use Rattle.std.specs.Option.{option_to_list}
use Rattle.std.proofs.lemmas.Bool.{eqb-true}
use Rattle.std.proofs.lemmas.List.{append-nil}
use Rattle.kube_model.specs.declared.event.Event.{Event}
use Rattle.kube_model.specs.declared.status.LaneName.{LaneName}
use Rattle.kube_model.specs.declared.status.Status.{Status}
use Rattle.kube_model.specs.declared.status.Status.TheVariants as statuses
use Rattle.lane_mail.specs.declared.lane.Lane.{Lane}
use Rattle.lane_mail.specs.declared.lane.Lane.TheVariants.{First, Second}
use Rattle.lane_mail.specs.declared.item.Item.{Item}
use Rattle.lane_run.specs.declared.lane_end.LaneEnd.{LaneEnd}
use Rattle.lane_run.specs.declared.lane_end.LaneEnd.TheVariants.{Done, ReadFault, LineLimit, InputLimit, BadLine, NoMemory}
use Rattle.lane_run.specs.LaneInputs.{LaneInput, lane_input, IsInputOf}
use Rattle.lane_run.specs.Outside.{SourceState, Outside, outside}
use Rattle.lane_run.specs.Watched.{Sends}
use Rattle.line_run.specs.declared.halt.Halt.{Halt}
use Rattle.line_run.specs.declared.halt.Halt.TheVariants as halts
use Rattle.line_run.specs.declared.halt.Refusal.{Refusal}
use Rattle.line_run.specs.declared.halt.Refusal.TheVariants.{Stopped, Halted}
use Rattle.line_run.specs.Ended.{status_of_end, status_of_halt, status_of_refusal}
use Rattle.line_run.specs.Ends.{Ends}
use Rattle.line_run.specs.Machine.{Transition, Goes, Stops}
use Rattle.line_run.specs.Steps.{Refuses}
use Rattle.mlb_edge.specs.Causes.{Rose}
use Rattle.mlb_edge.specs.Failed.{with_closed}
use Rattle.mlb_edge.specs.Reading.{Reading}
use Rattle.mlb_edge.specs.declared.lines.Line.{Line}
use Rattle.mlb_edge.specs.declared.lines.LineEnd.{LineEnd}
use Rattle.mlb_edge.specs.declared.lines.LineEnd.TheVariants as reader
use Rattle.mlb_edge.specs.InputLines.{Input, Whole, LongLine, LongInput, Follows, EndsAs, input_of, to_come}
use Rattle.mlb_edge.specs.Written.{Grows}
use Rattle.lane_drive.specs.Clauses.{AreLinesOf, EndOf, AtOpenFault, EndsWith, FailsToOpen, unread}
use Rattle.lane_drive.specs.Complete.{AreSent, CompleteOf, TakesFirst, WantsMemory}
use Rattle.lane_drive.specs.Drive.{Told, AreHeard, AreTaken, IsTaken, Drives}
use Rattle.lane_drive.specs.Files.{FilesState}
use Rattle.lane_drive.specs.LaneRules.{LaneRules, reply_rules, HaltsItem}
use Rattle.lane_drive.specs.Sending.{Sending, turned}
use Rattle.lane_drive.specs.Stops.{StopsAtItem, StopsAtReply, StopsBehind, EndsAsLanes, TakesAll, EndsBy, status_of_lanes}
use Rattle.lane_drive.proofs.Sent.{SendsLawfully, turned_lawful}
use Rattle.lane_drive.proofs.Endings.{begins_all, begins_of}
use Rattle.lane_drive.proofs.Heard.{hears_line, never_waits, none_heard}
use Rattle.lane_drive.proofs.Taken.{taken_first}
use Rattle.lane_drive.proofs.Ways.{silent}

-- ---- what is kept of failed readings

abbrev count : Bool → ℕ
count true = 0
count false = 1

length_closed : (b : Bool) (names : List (List ℕ)) (own : List ℕ) → length (names ++ (if b then [] else option_to_list (Some own))) ≡ length names + count b
length_closed true names own = omega (arith, ap length (append-nil names))
length_closed false names own = omega (arith, length-append names (own ∷ []))

none_counted : (b : Bool) → count b ≡ 0 → b ≡ true
none_counted true e = refl
none_counted false e = absurd (omega (arith, e))

-- where no name more is kept, no reading failed
none_closed : (names : List (List ℕ)) (own own' : List ℕ) (faults faults' : ℕ) → names ≡ with_closed (with_closed names (Some own) faults) (Some own') faults'
    → (faults ≡ 0) × (faults' ≡ 0)
none_closed names own own' faults faults' same =
    let one = length_closed (faults == 0) names own in
    let two = length_closed (faults' == 0) (with_closed names (Some own) faults) own' in
    let all = ap length same in
    let none : count (faults == 0) ≡ 0 = omega (arith, one, two, all) in
    let none' : count (faults' == 0) ≡ 0 = omega (arith, one, two, all) in
    (eqb-true faults 0 (none_counted (faults == 0) none), eqb-true faults' 0 (none_counted (faults' == 0) none'))

grows_not : {T : Type 0} (xs : List T) (x : T) → xs ≡ xs ++ x ∷ [] → ⊥
grows_not xs x e = absurd (omega (arith, ap length e, length-append xs (x ∷ [])))

is_memory : (status : Status) → (status ≡ statuses.NoMemory) ⊎ (status ≢ statuses.NoMemory)
is_memory statuses.NoMemory = inl refl
is_memory statuses.Done = inr (λ e. absurd (cc))
is_memory statuses.Usage = inr (λ e. absurd (cc))
is_memory (statuses.OpenFault lane) = inr (λ e. absurd (cc))
is_memory (statuses.ReadFault lane) = inr (λ e. absurd (cc))
is_memory statuses.WriteFault = inr (λ e. absurd (cc))
is_memory (statuses.BadLine lane number bytes) = inr (λ e. absurd (cc))
is_memory (statuses.BadReply number bytes) = inr (λ e. absurd (cc))
is_memory (statuses.NoReply put) = inr (λ e. absurd (cc))
is_memory (statuses.Limit what count') = inr (λ e. absurd (cc))

-- what is still to come of the lines
comes_left : (bytes : List ℕ) (lines xs : List Line) (now : Option Input) → Follows (Some (input_of bytes)) xs now → AreLinesOf (Some bytes) lines
    → (input : Input) × (now ≡ Some input) × (lines ≡ xs ++ input.lines) × (input.ending ≡ Whole)
comes_left bytes lines xs None follows are = absurd follows
comes_left bytes lines xs (Some input) follows are = (input, refl, sym are.0 ∙ follows.0, sym follows.1 ∙ are.1)

-- the one is the last item, or one before it
last_or : (items : List Item) (item : Item) (front : List Item) (one : Item) (others : List Item) → items ++ item ∷ [] ≡ front ++ one ∷ others
    → ((items ≡ front) × (item ≡ one)) ⊎ ((rest : List Item) × (items ≡ front ++ one ∷ rest))
last_or [] item [] one others e = inl (refl, cc)
last_or [] item (f ∷ front) one others e = absurd (omega (arith, ap length e, length-append front (one ∷ others)))
last_or (i ∷ items) item [] one others e =
    let same : i ≡ one = cc in
    inr (items, ap (λ (x : Item). x ∷ items) same)
last_or (i ∷ items) item (f ∷ front) one others e =
    let head : i ≡ f = cc in
    let tail : items ++ item ∷ [] ≡ front ++ one ∷ others = cc in
    behind head (last_or items item front one others tail)
  where
    behind : i ≡ f → ((items ≡ front) × (item ≡ one)) ⊎ ((rest : List Item) × (items ≡ front ++ one ∷ rest))
        → ((i ∷ items ≡ f ∷ front) × (item ≡ one)) ⊎ ((rest : List Item) × (i ∷ items ≡ (f ∷ front) ++ one ∷ rest))
    behind head (inl (same, last)) = inl (cc, last)
    behind head (inr (rest, is)) = inr (rest, cc)

module _ {S E : Type 0} (rules : LaneRules S E) where
  -- ---- what is heard and taken is one

  goes_same : (a b : S) (es fs : List E) (step : Transition S E) → step ≡ Goes a es → step ≡ Goes b fs → a ≡ b
  goes_same a b es fs step e f = cc

  -- the replies that were heard are the first of those that are heard until none is awaited
  hears_on : (own own' a b : List Line) (s p q : S) (es fs : List E) → AreHeard rules own s p es → AreHeard rules own' s q fs → rules.waits q ≡ false
      → own ++ a ≡ own' ++ b
      → (more : List Line) × (gs : List E) × AreHeard rules more p q gs × (a ≡ more ++ b)
  hears_on [] own' a b s p q es fs mine theirs quiet same = (own', fs, subst (λ (x : S). AreHeard rules own' x q fs) (sym mine.0) theirs, same)
  hears_on (line ∷ own) [] a b s p q es fs (next, first, rest, waits, goes, others, is) theirs quiet same =
      let waits' : rules.waits q ≡ true = ap rules.waits theirs.0 ∙ waits in
      absurd (cc)
  hears_on (line ∷ own) (line' ∷ own') a b s p q es fs (next, first, rest, waits, goes, others, is) (next', first', rest', waits', goes', others', is') quiet
      same =
      let whole : line ∷ (own ++ a) ≡ line' ∷ (own' ++ b) = same in
      let lines : line ≡ line' = cc in
      let tails : own ++ a ≡ own' ++ b = cc in
      let theirs : rules.hear s line ≡ Goes next' first' = ap (rules.hear s) lines ∙ goes' in
      let states : next ≡ next' = goes_same next next' first first' (rules.hear s line) goes theirs in
      hears_on own own' a b next p q rest rest' others (subst (λ (x : S). AreHeard rules own' x q rest') (sym states) others') quiet tails

  pub quiet_first : (items : List Item) (lines : List Line) (s t : S) (told : List (Told E)) → AreTaken rules items lines s t told → rules.waits t ≡ false
      → rules.waits s ≡ false
  quiet_first [] lines s t told taken quiet = ap rules.waits (sym taken.1) ∙ quiet
  quiet_first (item ∷ items) lines s t told (own, behind, next, entries, more, split, taken, others, is) quiet = taken.quiet

  -- of an item that was taken twice, once with all replies to it, those that were heard are the first
  same_item : (item : Item) (own own' behind behind' xs ys zs after : List Line) (s p q : S) (es fs : List E) → IsTaken rules item own s p es
      → IsTaken rules item own' s q fs → rules.waits q ≡ false → xs ≡ own ++ behind → zs ≡ own' ++ behind' → zs ++ after ≡ xs ++ ys
      → (more : List Line) × (gs : List E) × AreHeard rules more p q gs × (behind ++ ys ≡ more ++ (behind' ++ after))
  same_item item own own' behind behind' xs ys zs after s p q es fs mine theirs quiet split split' same =
      let states : mine.next ≡ theirs.next = goes_same mine.next theirs.next mine.first theirs.first (rules.take s item) mine.steps theirs.steps in
      let lines : own ++ (behind ++ ys) ≡ own' ++ (behind' ++ after) = sym (append_assoc own behind ys)
      ∙ (ap (λ (l : List Line). l ++ ys) (sym split) ∙ (sym same ∙ (ap (λ (l : List Line). l ++ after) split' ∙ append_assoc own' behind' after))) in
      hears_on own own' (behind ++ ys) (behind' ++ after) mine.next p q mine.rest theirs.rest mine.heard
      (subst (λ (x : S). AreHeard rules own' x q theirs.rest) (sym states) theirs.heard) quiet lines

  -- Of the same items, taken twice with replies that are the first of the same lines: where more of them are heard than the first time before the items, so
  -- it is behind them.
  same_items : (items : List Item) (more : List Line) (gs : List E) (xs ys zs after : List Line) (p q u t : S) (told told' : List (Told E))
      → AreHeard rules more p q gs → AreTaken rules items xs p u told → AreTaken rules items zs q t told' → rules.waits t ≡ false
      → xs ++ ys ≡ more ++ (zs ++ after) → (rest : List Line) × (hs : List E) × AreHeard rules rest u t hs × (ys ≡ rest ++ after)
  same_items [] more gs xs ys zs after p q u t told told' heard mine theirs quiet same = (
    more,
    gs,
    rw (mine.1, theirs.1) heard,
    sym (ap (λ (l : List Line). l ++ ys) mine.0) ∙ (same ∙ ap (λ (l : List Line). more ++ (l ++ after)) theirs.0),
  )
  same_items (item ∷ items) more gs xs ys zs after p q u t told told' heard (own, behind, next, entries, rest, split, taken, others, is)
      (own', behind', next', entries', rest', split', taken', others', is') quiet same =
      let none = none_heard rules p q more gs taken.quiet heard in
      let quiet' : rules.waits next' ≡ false = quiet_first items behind' next' t rest' others' quiet in
      let whole : zs ++ after ≡ xs ++ ys = sym (same ∙ ap (λ (l : List Line). l ++ (zs ++ after)) none.0) in
      let on = same_item item own own' behind behind' xs ys zs after p next next' entries entries' taken
      (subst (λ (x : S). IsTaken rules item own' x next' entries') none.1 taken') quiet' split split' whole in
      same_items items on.0 on.1 behind ys behind' after next next' u t rest rest' on.2 others others' quiet on.3

  -- After some items more replies are heard, until none is awaited, and then the others are taken.
  pub record GoesOn (rest : List Item) (u t : S) (lines after : List Line) : Type 0 where
    pub more : List Line
    pub entries : List E
    pub state : S
    pub behind : List Line
    pub told : List (Told E)
    pub hears : AreHeard rules more u state entries
    pub lines_are : lines ≡ more ++ (behind ++ after)
    pub taken : AreTaken rules rest behind state t told
    pub quiet : rules.waits state ≡ false

  goes_on : (items rest : List Item) (xs ys zs after : List Line) (s u t : S) (told told' : List (Told E)) → AreTaken rules items xs s u told
      → AreTaken rules (items ++ rest) zs s t told' → rules.waits t ≡ false → zs ++ after ≡ xs ++ ys → GoesOn rest u t ys after
  goes_on items rest xs ys zs after s u t told told' mine theirs quiet same =
      let first = taken_first rules items rest zs s t told' theirs in
      let quiet' = quiet_first rest first.rest first.state t first.told' first.behind quiet in
      let whole : xs ++ ys ≡ first.heard ++ (first.rest ++ after) =
      sym same ∙ (ap (λ (l : List Line). l ++ after) first.split ∙ append_assoc first.heard first.rest after) in
      let on = same_items items [] [] xs ys first.heard (first.rest ++ after) s s u first.state told first.told (refl, refl) mine first.taken quiet' whole in
      record {
        more = on.0;
        entries = on.1;
        state = first.state;
        behind = first.rest;
        told = first.told';
        hears = on.2;
        lines_are = on.3;
        taken = first.behind;
        quiet = quiet';
      }

  -- the same items, with replies that are both the first of the same lines, lead to one state that awaits none
  same_state : (items : List Item) (xs ys zs after : List Line) (s u t : S) (told told' : List (Told E)) → AreTaken rules items xs s u told
      → rules.waits u ≡ false → AreTaken rules items zs s t told' → rules.waits t ≡ false → zs ++ after ≡ xs ++ ys → t ≡ u
  same_state items xs ys zs after s u t told told' mine quiet theirs quiet' same =
      let on = same_items items [] [] xs ys zs after s s u t told told' (refl, refl) mine theirs quiet' (sym same) in
      (none_heard rules u t on.0 on.1 quiet on.2).1

  -- for none of the items that were taken memory was wanting
  wants_not : (items : List Item) (xs ys lines : List Line) (s t : S) (told : List (Told E)) → AreTaken rules items xs s t told → lines ≡ xs ++ ys
      → WantsMemory rules s lines items → ⊥
  wants_not items xs ys lines s t told mine split w =
      let at = taken_first rules w.front (w.item ∷ w.others) xs s t told (subst (λ (l : List Item). AreTaken rules l xs s t told) w.items_are mine) in
      let taken = at.behind.6 in
      let whole : w.heard ++ w.rest ≡ at.heard ++ (at.rest ++ ys) =
      sym w.split ∙ (split ∙ (ap (λ (l : List Line). l ++ ys) at.split ∙ append_assoc at.heard at.rest ys)) in
      let same = same_state w.front at.heard (at.rest ++ ys) w.heard w.rest s at.state w.state at.told w.told at.taken taken.quiet w.taken w.quiet whole in
      let goes : rules.take at.state w.item ≡ Goes taken.next taken.first = taken.steps in
      let stops : rules.take at.state w.item ≡ Stops statuses.NoMemory = ap (λ (x : S). rules.take x w.item) (sym same) ∙ w.stops in
      absurd (cc)

  -- where memory is wanting for the last item, the run stops at it for that
  wants_last : (items : List Item) (item : Item) (xs ys lines : List Line) (s u : S) (told : List (Told E)) → AreTaken rules items xs s u told
      → rules.waits u ≡ false → lines ≡ xs ++ ys → (w : WantsMemory rules s lines (items ++ item ∷ []))
      → ((items ≡ w.front) × (item ≡ w.item)) ⊎ ((rest : List Item) × (items ≡ w.front ++ w.item ∷ rest)) → rules.take u item ≡ Stops statuses.NoMemory
  wants_last items item xs ys lines s u told mine quiet split w (inl (same, last)) =
      let mine' : AreTaken rules w.front xs s u told = subst (λ (l : List Item). AreTaken rules l xs s u told) same mine in
      let states = same_state w.front xs ys w.heard w.rest s u w.state told w.told mine' quiet w.taken w.quiet (sym w.split ∙ split) in
      ap (rules.take u) last ∙ (ap (λ (x : S). rules.take x w.item) (sym states) ∙ w.stops)
  wants_last items item xs ys lines s u told mine quiet split w (inr (rest, is)) =
      absurd (wants_not items xs ys lines s u told mine split (record {
        front = w.front;
        item = w.item;
        others = rest;
        items_are = is;
        heard = w.heard;
        rest = w.rest;
        split = w.split;
        state = w.state;
        told = w.told;
        taken = w.taken;
        quiet = w.quiet;
        stops = w.stops;
      }))

  -- where a reply is awaited, one more is heard
  first_more : (more : List Line) (u v : S) (es : List E) → AreHeard rules more u v es → rules.waits u ≡ true → rules.waits v ≡ false
      → (line : Line) × (lines : List Line) × (next : S) × (fs : List E) × (more ≡ line ∷ lines) × (rules.hear u line ≡ Goes next fs)
  first_more [] u v es heard waits quiet =
      let waits' : rules.waits v ≡ true = ap rules.waits heard.0 ∙ waits in
      absurd (cc)
  first_more (line ∷ lines) u v es (next, fs, rest, waits', goes, others, is) waits quiet = (line, lines, next, fs, refl, goes)

  -- ---- what stops a run all the same

  unread_by : (end : LineEnd) (status : Status) (input : Input) → input.ending ≡ Whole → status ≡ status_of_end end
      → ((number : ℕ) → end ≡ reader.LineLimit number → EndsAs (Some input) (LongLine number)) → (end ≡ reader.InputLimit → EndsAs (Some input) LongInput)
      → (end ≡ reader.ReadFault → ⊥) → status ≡ statuses.NoMemory
  unread_by reader.ReadFault status input whole is long far none = absurd (none refl)
  unread_by (reader.LineLimit number) status input whole is long far none =
      let e : LongLine number ≡ Whole = ap (λ (i : Input). i.ending) (sym (long number refl)) ∙ whole in
      absurd (cc)
  unread_by reader.InputLimit status input whole is long far none =
      let e : LongInput ≡ Whole = ap (λ (i : Input). i.ending) (sym (far refl)) ∙ whole in
      absurd (cc)
  unread_by reader.NoMemory status input whole is long far none = is

  refused_by : (refusal : Refusal) (status : Status) (s t : S) (line : Line) (es : List E) (b a : Option (List ℕ)) (writes writes' : ℕ) → rules.waits s ≡ true
      → rules.hear s line ≡ Goes t es → (Rose writes writes' → ⊥)
      → status ≡ status_of_refusal refusal → Refuses refusal (reply_rules rules) s line b a writes writes' → status ≡ statuses.NoMemory
  refused_by (Stopped stop) status s t line es b a writes writes' waits goes none is r =
      let stops : rules.hear s line ≡ Stops stop = hears_line rules (rules.waits s) s line (Stops stop) refl waits r.0 in
      absurd (cc)
  refused_by (Halted halts.WriteFault) status s t line es b a writes writes' waits goes none is r = absurd (none r.halts.1)
  refused_by (Halted halts.NoMemory) status s t line es b a writes writes' waits goes none is r = is

  line_same : (input : Input) (next : Option Input) (line line' : Line) (tail : List Line) → Follows (Some input) (line ∷ []) next → input.lines ≡ line' ∷ tail
      → line ≡ line'
  line_same input None line line' tail follows lines = absurd follows
  line_same input (Some next) line line' tail follows lines =
      let e : line ∷ next.lines ≡ line' ∷ tail = sym follows.0 ∙ lines in
      cc

  -- the reply that is awaited comes
  can_hear : (s t : S) (status : Status) (input : Input) (line : Line) (tail : List Line) (es : List E) (next : Option Input) (held' : List ℕ)
      (left' b a : Option (List ℕ)) (reads reads' writes writes' : ℕ) → input.lines ≡ line ∷ tail → input.ending ≡ Whole
      → rules.waits s ≡ true → rules.hear s line ≡ Goes t es → (Rose reads reads' → ⊥) → (Rose writes writes' → ⊥)
      → Ends (reply_rules rules) s status (Some input) next held' left' b a reads reads' writes writes' → status ≡ statuses.NoMemory
  can_hear s t status input line tail es next held' left' b a reads reads' writes writes' lines whole waits goes none none' (inl (last, nothing)) =
      let e : [] ≡ line ∷ tail = ap (λ (i : Input). i.lines) (sym last.ends) ∙ lines in
      absurd (cc)
  can_hear s t status input line tail es next held' left' b a reads reads' writes writes' lines whole waits goes none none' (inr (inl (u, nothing))) =
      unread_by u.end status input whole u.is u.long_line u.long_input (λ e. none (u.failed e).1)
  can_hear s t status input line tail es next held' left' b a reads reads' writes writes' lines whole waits goes none none' (inr (inr u)) =
      let same : u.line ≡ line = line_same input next u.line line tail u.comes lines in
      let goes' : rules.hear s u.line ≡ Goes t es = ap (rules.hear s) same ∙ goes in
      refused_by u.refusal status s t u.line es b a writes writes' waits goes' none' u.is u.refuses

  -- no line is left
  no_line : (s : S) (status : Status) (input : Input) (next : Option Input) (held' : List ℕ) (left' b a : Option (List ℕ)) (reads reads' writes writes' : ℕ)
      → input.lines ≡ [] → input.ending ≡ Whole → rules.waits s ≡ false → (Rose reads reads' → ⊥)
      → Ends (reply_rules rules) s status (Some input) next held' left' b a reads reads' writes writes'
      → (status ≡ statuses.Done) ⊎ (status ≡ statuses.NoMemory)
  no_line s status input next held' left' b a reads reads' writes writes' lines whole quiet none (inl (last, nothing)) = ended last.is
    where
      ended : (status ≡ (reply_rules rules).end s) ⊎ (status ≡ statuses.NoMemory) → (status ≡ statuses.Done) ⊎ (status ≡ statuses.NoMemory)
      ended (inl is) =
          let end : (reply_rules rules).end s ≡ statuses.Done = rw quiet refl in
          inl (is ∙ end)
      ended (inr is) = inr is
  no_line s status input next held' left' b a reads reads' writes writes' lines whole quiet none (inr (inl (u, nothing))) =
      inr (unread_by u.end status input whole u.is u.long_line u.long_input (λ e. none (u.failed e).1))
  no_line s status input None held' left' b a reads reads' writes writes' lines whole quiet none (inr (inr u)) = absurd u.comes
  no_line s status input (Some next) held' left' b a reads reads' writes writes' lines whole quiet none (inr (inr u)) =
      let e : u.line ∷ next.lines ≡ [] = sym u.comes.0 ∙ lines in
      absurd (cc)

-- ---- where all can be read
module _ (belongs : Lane → Event → Bool) where
  -- the lane was read to its end
  pub stops_told : (lane : Lane) (left : Option (List ℕ)) (bytes : List ℕ) (items : List Item) (end : LaneEnd) → left ≡ Some bytes
      → IsInputOf belongs lane left (record { items = items; end = end }) → record { items = items; end = end } ≡ lane_input belongs lane bytes
  stops_told lane left bytes items end told is =
      let at_left : Option (List ℕ) → Type 0 = λ o. IsInputOf belongs lane o (record { items = items; end = end }) in
      subst at_left told is

  ends_not : (lane : Lane) (left : Option (List ℕ)) (bytes : List ℕ) (items : List Item) (end : LaneEnd) → left ≡ Some bytes
      → (lane_input belongs lane bytes).end ≡ Done → IsInputOf belongs lane left (record { items = items; end = end }) → end ≡ Done
  ends_not lane left bytes items end told done is = ap (λ (i : LaneInput). i.end) (stops_told lane left bytes items end told is) ∙ done

  lane_done : (lane : Lane) (before after : SourceState) (bytes : List ℕ) (items : List Item) (end : LaneEnd) → before.left ≡ Some bytes
      → (lane_input belongs lane bytes).end ≡ Done → end ≢ NoMemory → (Rose before.faults after.faults → ⊥)
      → Sends belongs lane before after items end → end ≡ Done
  lane_done lane before after bytes items Done told done known none sends = refl
  lane_done lane before after bytes items ReadFault told done known none sends = absurd (none sends.1)
  lane_done lane before after bytes items (LineLimit number) told done known none sends =
      ends_not lane before.left bytes items (LineLimit number) told done sends
  lane_done lane before after bytes items InputLimit told done known none sends = ends_not lane before.left bytes items InputLimit told done sends
  lane_done lane before after bytes items (BadLine number wrong) told done known none sends =
      ends_not lane before.left bytes items (BadLine number wrong) told done sends
  lane_done lane before after bytes items NoMemory told done known none sends = absurd (known refl)

module _ {S E U V : Type 0} (TurnsFirst : U → U → Event → Event → Type 0) (TurnsSecond : V → V → Event → Event → Type 0) (belongs : Lane → Event → Bool)
    (u u' : U) (v v' : V) (rules : LaneRules S E) (start : S) (never : rules.hears ≡ false → (x : S) → rules.waits x ≡ false) where
  -- what both lanes send
  abbrev sending : Sending
  sending = turned TurnsFirst TurnsSecond belongs u u' v v'

  laws : SendsLawfully sending
  laws = turned_lawful

  hears_there : (b : Bool) (s : S) → rules.hears ≡ b → rules.waits s ≡ true → rules.hears ≡ true
  hears_there true s is waits = is
  hears_there false s is waits = absurd (never_waits rules (never is) s waits)

  module _ (first first' second second' : SourceState) (before after : Outside) (fresh : before.reading ≡ unread)
      (ready : AreSent belongs rules start sending first.left second.left before.replies.left)
      (unrisen : Rose before.replies.faults after.replies.faults → ⊥) (unrisen' : Rose before.faults after.faults → ⊥) where
    -- the lines after those that were heard
    module _ (items : List Item) (state : S) (told : List (Told E)) (mid : Outside) (drove : Drives rules items start state told before mid) where
      comes_told : (bytes : List ℕ) → before.replies.left ≡ Some bytes → Follows (Some (input_of bytes)) drove.replies (to_come mid.reading mid.replies.left)
      comes_told bytes is =
          let fresh' : Follows (to_come unread before.replies.left) drove.replies (to_come mid.reading mid.replies.left) =
          subst (λ (r : Reading). Follows (to_come r before.replies.left) drove.replies (to_come mid.reading mid.replies.left)) fresh drove.comes in
          subst (λ (o : Option (List ℕ)). Follows (to_come unread o) drove.replies (to_come mid.reading mid.replies.left)) is fresh'

      heard_left : rules.hears ≡ true → (input : Input) × (to_come mid.reading mid.replies.left ≡ Some input) × (ready.lines ≡ drove.replies ++ input.lines)
          × (input.ending ≡ Whole)
      heard_left hears =
          let heard = ready.events.heard hears in
          comes_left heard.0 ready.lines drove.replies (to_come mid.reading mid.replies.left) (comes_told heard.0 heard.1) heard.2

      left_by : (b : Bool) → rules.hears ≡ b → (lines : List Line) × (ready.lines ≡ drove.replies ++ lines)
      left_by true is =
          let l = heard_left is in
          (l.0.lines, l.2)
      left_by false is =
          let none : drove.replies ≡ [] = silent rules items drove.replies start state told (never is) drove.taken in
          ([], ready.events.unheard is ∙ (sym none ∙ sym (append-nil drove.replies)))

      unrisen_mid : Rose mid.replies.faults after.replies.faults → ⊥
      unrisen_mid rose = unrisen (omega (arith, rose, drove.reads))

      unrisen_mid' : Rose mid.faults after.faults → ⊥
      unrisen_mid' rose = unrisen' (omega (arith, rose, drove.writes))

      -- after the items the others can be taken
      then_taken : (others : List Item) (heard after : List Line) (t : S) (told' : List (Told E)) → AreTaken rules (items ++ others) heard start t told'
          → rules.waits t ≡ false → ready.lines ≡ heard ++ after → (lines : List Line) → ready.lines ≡ drove.replies ++ lines
          → GoesOn rules others state t lines after
      then_taken others heard after t told' can quiet split lines are =
          goes_on rules items others drove.replies lines heard after start state t told told' drove.taken can quiet (sym split ∙ are)

      -- and after them their replies are heard
      then_heard : (takes : TakesFirst sending rules start first.left second.left ready.lines items) (lines : List Line)
          → ready.lines ≡ drove.replies ++ lines → GoesOn rules [] state takes.state lines takes.rest
      then_heard takes lines are =
          then_taken [] takes.heard takes.rest takes.state takes.told
          (subst (λ (l : List Item). AreTaken rules l takes.heard start takes.state takes.told) (sym (append-nil items)) takes.taken) takes.quiet takes.split
          lines are

    item_goes : (item : Item) (u t : S) (lines after : List Line) (on : GoesOn rules (item ∷ []) u t lines after) → rules.waits u ≡ false
        → (next : S) × (es : List E) × (rules.take u item ≡ Goes next es)
    item_goes item u t lines after on quiet =
        let none = none_heard rules u on.state on.more on.entries quiet on.hears in
        let taken = on.taken.6 in
        (taken.next, taken.first, ap (λ (x : S). rules.take x item) (sym none.1) ∙ taken.steps)

    item_memory : (status : Status) (item : Item) (u next : S) (es : List E) (b a : Option (List ℕ)) (writes writes' : ℕ) → rules.take u item ≡ Goes next es
        → (Rose writes writes' → ⊥)
        → ((rules.take u item ≡ Stops status) × Grows b a [])
        ⊎ ((halt : Halt) × (status ≡ status_of_halt halt) × HaltsItem halt rules u item b a writes writes') → status ≡ statuses.NoMemory
    item_memory status item u next es b a writes writes' goes none (inl stops) =
        let stop = stops.0 in
        absurd (cc)
    item_memory status item u next es b a writes writes' goes none (inr (halts.WriteFault, is, h)) = absurd (none h.halts.1)
    item_memory status item u next es b a writes writes' goes none (inr (halts.NoMemory, is, h)) = is

    -- the run stops at an item for which memory is wanting
    item_stopped : (status : Status) (item : Item) (u : S) (b a : Option (List ℕ)) (writes writes' : ℕ) → rules.take u item ≡ Stops statuses.NoMemory
        → ((rules.take u item ≡ Stops status) × Grows b a [])
        ⊎ ((halt : Halt) × (status ≡ status_of_halt halt) × HaltsItem halt rules u item b a writes writes') → status ≡ statuses.NoMemory
    item_stopped status item u b a writes writes' wants (inl stops) =
        let stop = stops.0 in
        cc
    item_stopped status item u b a writes writes' wants (inr (halts.WriteFault, is, h)) =
        let goes = h.steps in
        absurd (cc)
    item_stopped status item u b a writes writes' wants (inr (halts.NoMemory, is, h)) = is

    at_item_by : (status : Status) (s : StopsAtItem sending rules start first first' second second' before after status)
        → TakesFirst sending rules start first.left second.left ready.lines (s.items ++ s.item ∷ [])
        ⊎ WantsMemory rules start ready.lines (s.items ++ s.item ∷ []) → status ≡ statuses.NoMemory
    at_item_by status s (inl takes) =
        let l = left_by s.items s.state s.told s.mid s.drove rules.hears refl in
        let on = then_taken s.items s.state s.told s.mid s.drove (s.item ∷ []) takes.heard takes.rest takes.state takes.told takes.taken takes.quiet takes.split
        l.0 l.1 in
        let goes = item_goes s.item s.state takes.state l.0 takes.rest on s.quiet in
        item_memory status s.item s.state goes.0 goes.1 s.mid.written after.written s.mid.faults after.faults goes.2
        (unrisen_mid' s.items s.state s.told s.mid s.drove) s.stops
    at_item_by status s (inr wants) =
        let l = left_by s.items s.state s.told s.mid s.drove rules.hears refl in
        item_stopped status s.item s.state s.mid.written after.written s.mid.faults after.faults
        (wants_last rules s.items s.item s.drove.replies l.0 ready.lines start s.state s.told s.drove.taken s.quiet l.1 wants
        (last_or s.items s.item wants.front wants.item wants.others wants.items_are)) s.stops

    at_item : (status : Status) → StopsAtItem sending rules start first first' second second' before after status → status ≡ statuses.NoMemory
    at_item status s =
        at_item_by status s (ready.taken (s.items ++ s.item ∷ [])
        (begins_of laws rules start first first' second second' (s.items ++ s.item ∷ s.dropped) (s.items ++ s.item ∷ []) s.dropped s.end s.end' s.lanes
        (sym (append_assoc s.items (s.item ∷ []) s.dropped))))

    -- what was taken can be taken
    can_take : (items : List Item) (state : S) (told : List (Told E)) (mid : Outside) (drove : Drives rules items start state told before mid)
        (lines : List Line) → ready.lines ≡ drove.replies ++ lines
        → TakesFirst sending rules start first.left second.left ready.lines items ⊎ WantsMemory rules start ready.lines items
        → TakesFirst sending rules start first.left second.left ready.lines items
    can_take items state told mid drove lines split (inl takes) = takes
    can_take items state told mid drove lines split (inr wants) =
        absurd (wants_not rules items drove.replies lines ready.lines start state told drove.taken split wants)

    at_reply : (status : Status) → StopsAtReply sending rules start first first' second second' before after status → status ≡ statuses.NoMemory
    at_reply status s =
        let l = heard_left s.items s.state s.told s.mid s.drove (hears_there rules.hears s.state refl s.waits) in
        let takes = can_take s.items s.state s.told s.mid s.drove l.0.lines l.2 (ready.taken s.items
        (begins_of laws rules start first first' second second' (s.items ++ s.dropped) s.items s.dropped s.end s.end' s.lanes refl)) in
        let on = then_heard s.items s.state s.told s.mid s.drove takes l.0.lines l.2 in
        let one = first_more rules on.more s.state on.state on.entries on.hears s.waits on.quiet in
        let lines : l.0.lines ≡ one.0 ∷ (one.1 ++ (on.behind ++ takes.rest)) =
        on.lines_are ∙ ap (λ (m : List Line). m ++ (on.behind ++ takes.rest)) one.4 in
        let stops : Ends (reply_rules rules) s.state status (Some l.0) (to_come after.reading after.replies.left) after.reading.held after.replies.left
        s.mid.written after.written s.mid.replies.faults after.replies.faults s.mid.faults after.faults =
        subst (λ (o : Option Input). Ends (reply_rules rules) s.state status o (to_come after.reading after.replies.left) after.reading.held after.replies.left
        s.mid.written after.written s.mid.replies.faults after.replies.faults s.mid.faults after.faults) l.1 s.stops in
        can_hear rules s.state one.2 status l.0 one.0 (one.1 ++ (on.behind ++ takes.rest)) one.3 _ _ _ _ _ s.mid.replies.faults after.replies.faults
        s.mid.faults after.faults lines l.3 s.waits one.5
        (unrisen_mid s.items s.state s.told s.mid s.drove) (unrisen_mid' s.items s.state s.told s.mid s.drove) stops

    -- where no reading of the lanes failed, all that both carry was taken
    module _ (unrisen_first : Rose first.faults first'.faults → ⊥) (unrisen_second : Rose second.faults second'.faults → ⊥) where
      both_done : (mid : Outside) (end end' : LaneEnd) (all : TakesAll sending rules start first first' second second' before mid end end')
          → (end ≡ Done) × (end' ≡ Done)
      both_done mid end end' all = (
        lane_done belongs First first first' ready.events.one all.lanes.first_ended.items end ready.events.first_is ready.events.first_done all.known.0
            unrisen_first all.lanes.first_ended.ended.sends,
        lane_done belongs Second second second' ready.events.two all.lanes.second_ended.items end' ready.events.second_is ready.events.second_done all.known.1
            unrisen_second all.lanes.second_ended.ended.sends,
      )

      behind_last : (status : Status) → StopsBehind sending rules start first first' second second' before after status
          → (status ≡ statuses.Done) ⊎ (status ≡ statuses.NoMemory)
      behind_last status s =
          let done = both_done s.mid s.end s.end' s.all in
          let items = s.all.items in
          let ended : sending.Ended first first' second second' items Done Done =
          subst (λ (end : LaneEnd). sending.Ended first first' second second' items Done end) done.1
          (subst (λ (end : LaneEnd). sending.Ended first first' second second' items end s.end') done.0 s.all.lanes) in
          let whole = laws.whole first first' second second' items ended in
          let begin = begins_all laws rules start first first' second second' items s.end s.end' s.all.lanes in
          let l = heard_left items s.all.state s.all.told s.mid s.all.drove s.hears in
          let takes = can_take items s.all.state s.all.told s.mid s.all.drove l.0.lines l.2 (ready.taken items begin) in
          let on = then_heard items s.all.state s.all.told s.mid s.all.drove takes l.0.lines l.2 in
          let none = none_heard rules s.all.state on.state on.more on.entries s.all.quiet on.hears in
          let lines : l.0.lines ≡ [] = on.lines_are ∙ (ap (λ (m : List Line). m ++ (on.behind ++ takes.rest)) none.0
          ∙ (ap (λ (m : List Line). m ++ takes.rest) on.taken.0 ∙ takes.all whole.0 whole.1)) in
          let stops : Ends (reply_rules rules) s.all.state status (Some l.0) (to_come after.reading after.replies.left) after.reading.held after.replies.left
          s.mid.written after.written s.mid.replies.faults after.replies.faults s.mid.faults after.faults =
          subst (λ (o : Option Input). Ends (reply_rules rules) s.all.state status o (to_come after.reading after.replies.left) after.reading.held
          after.replies.left s.mid.written after.written s.mid.replies.faults after.replies.faults s.mid.faults after.faults) l.1 s.stops in
          no_line rules s.all.state status l.0 _ _ _ _ _ s.mid.replies.faults after.replies.faults s.mid.faults after.faults lines l.3 s.all.quiet
          (unrisen_mid items s.all.state s.all.told s.mid s.all.drove) stops

      as_lanes : (status : Status) → EndsAsLanes sending rules start first first' second second' before after status → status ≡ statuses.Done
      as_lanes status s =
          let done = both_done s.mid s.end s.end' s.all in
          let ends : status_of_lanes rules.name s.end s.end' ≡ statuses.Done =
          ap (λ (e : LaneEnd). status_of_lanes rules.name e s.end') done.0 ∙ ap (λ (e : LaneEnd). status_of_lanes rules.name Done e) done.1 in
          s.is ∙ ends

      pub ends_done : (status : Status) → EndsBy sending rules start first first' second second' before after status
          → (status ≡ statuses.Done) ⊎ (status ≡ statuses.NoMemory)
      ends_done status (inl s) = inr (at_item status s)
      ends_done status (inr (inl s)) = inr (at_reply status s)
      ends_done status (inr (inr (inl s))) = behind_last status s
      ends_done status (inr (inr (inr (inl s)))) = inl (as_lanes status s)
      ends_done status (inr (inr (inr (inr s)))) = inr s.0

  -- a count that rose isn't 0
  unrisen_from : (faults : ℕ) → faults ≡ 0 → Rose 0 faults → ⊥
  unrisen_from faults none rose = absurd (omega (arith, none, rose))

  module _ (file file' : List ℕ) (files files' : FilesState) (first second replies replies' : SourceState) (before after : Option (List ℕ)) (writes writes' : ℕ)
      (status : Status) where
    opened_not : AtOpenFault rules.name file file' status files files' → files'.failed_opens ≡ files.failed_opens → (lane : LaneName)
        → status ≢ statuses.OpenFault lane
    opened_not opens same lane is = fails ((opens.0 lane is).0)
      where
        fails : FailsToOpen lane (rules.name First) file files files' ⊎ FailsToOpen lane (rules.name Second) file' files files' → ⊥
        fails (inl one) = grows_not files.failed_opens file (sym same ∙ one.1)
        fails (inr two) = grows_not files.failed_opens file' (sym same ∙ two.1)

    by_status : (status ≡ statuses.NoMemory) ⊎ (status ≢ statuses.NoMemory)
        → EndsWith sending rules start file file' files files' first second replies replies' before after writes writes' status
        → AreSent belongs rules start sending first.left second.left replies.left → files'.failed_reads ≡ files.failed_reads
        → (Rose replies.faults replies'.faults → ⊥) → (Rose writes writes' → ⊥)
        → first.faults ≡ 0 → second.faults ≡ 0 → (status ≡ statuses.Done) ⊎ (status ≡ statuses.NoMemory)
    by_status (inl memory) ends ready same none none' unread' unread'' = inr memory
    by_status (inr known) ends ready same none none' unread' unread'' =
        let kept = none_closed files.failed_reads file file' ends.first'.faults ends.second'.faults (sym same ∙ ends.kept known) in
        ends_done first ends.first' second ends.second' (outside unread replies before writes) (outside ends.reading replies' after writes') refl ready none
        none'
        (λ rose. unrisen_from ends.first'.faults kept.0 (subst (λ (n : ℕ). Rose n ends.first'.faults) unread' rose))
        (λ rose. unrisen_from ends.second'.faults kept.1 (subst (λ (n : ℕ). Rose n ends.second'.faults) unread'' rose)) status ends.ends

    -- the run is done where all can be taken
    pub complete : EndOf sending rules start file file' files files' first second replies replies' before after writes writes' status
        → AtOpenFault rules.name file file' status files files' → first.faults ≡ 0 → second.faults ≡ 0
        → CompleteOf belongs rules start sending first.left second.left status files files' replies.left replies.faults replies'.faults writes writes'
    complete at_end opens unread' unread'' ready same_opens same_reads none none' =
        by_status (is_memory status) (at_end (opened_not opens same_opens)) ready same_reads none none' unread' unread''
