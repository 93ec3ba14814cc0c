-- The run of two lanes, whose sources are files that were opened.
use Rattle.std.proofs.Common.{◌≡◌, ◌≢◌, ◌⊎◌, inl, inr, ℕ, ◌≤◌, Bool, true, false, List, [], ◌++◌, Option}
use Rattle.std.proofs.Common.{Some, Result, Ok, Err, OnOk, OnErr, refl, ap, ◌∙◌, subst, arith}
use Rattle.std.proofs.lemmas.List.{append-nil}
use Rattle.mlb_base.specs.declared.memory.NoMemory.{NoMemory as MemoryEnd}
use Rattle.kube_model.specs.declared.put.Put.{Put}
use Rattle.kube_model.specs.declared.status.LaneName.{LaneName}
use Rattle.kube_model.specs.declared.status.LaneName.TheVariants as lanes
use Rattle.kube_model.specs.declared.status.Status.{Status}
use Rattle.kube_model.specs.declared.status.Status.TheVariants as statuses
use Rattle.lane_mail.specs.declared.item.Item.{Item}
use Rattle.lane_mail.specs.declared.lane.Lane.{Lane}
use Rattle.lane_mail.specs.declared.lane.Lane.TheVariants.{First, Second}
use Rattle.lane_run.specs.Outside.{SourceState, Outside, lane_state, outside}
use Rattle.line_run.specs.Machine.{Stops}
use Rattle.mlb_edge.specs.Causes.{Rose}
use Rattle.mlb_edge.specs.Failed.{CountsFault, IsOpened, times, with_closed, with_failed, times-later, Rose-closed}
use Rattle.mlb_edge.specs.declared.files.OpenEnd.{OpenEnd}
use Rattle.mlb_edge.specs.declared.files.OpenEnd.TheVariants.{Failed, NoMemory}
use Rattle.mlb_edge.specs.declared.lines.Line.{Line}
use Rattle.mlb_edge.specs.InputLines.{to_come}
use Rattle.mlb_edge.specs.Reading.{Reading}
use Rattle.lane_drive.specs.Clauses.{AtOpenFault, EndsWith, RoseFor, TakesAllOf, status_of_open, unread}
use Rattle.lane_drive.specs.Files.{FilesState, files_state}
use Rattle.lane_drive.specs.LaneRules.{LaneRules, IsHeldLimit, IsItemLimit}
use Rattle.lane_drive.specs.Sending.{Sending}
use Rattle.lane_drive.specs.Stops.{WritesBegun, EndsBy}
use Rattle.lane_drive.proofs.Sent.{SendsLawfully}
use Rattle.lane_drive.proofs.Endings as endings
use Rattle.lane_drive.proofs.Ways.{ends_undriven}

-- a file isn't opened: but for OpenFault it is where memory ran out
pub memory_wants : (own : LaneName) (end : OpenEnd) (status : Status) → status ≡ status_of_open own end → ((lane : LaneName) → status ≢ statuses.OpenFault lane)
    → status ≡ statuses.NoMemory
memory_wants own Failed status is other = absurd (other own is)
memory_wants own NoMemory status is other = is

-- and it is neither done nor a fault of anything else
pub unopened_alone : (own : LaneName) (end : OpenEnd) (status : Status) → status ≡ status_of_open own end
    → (status ≢ statuses.Done) × (status ≢ statuses.WriteFault) × ((lane : LaneName) → status ≢ statuses.ReadFault lane)
unopened_alone own Failed status is = ((λ it. absurd (cc)), (λ it. absurd (cc)), λ lane it. absurd (cc))
unopened_alone own NoMemory status is = ((λ it. absurd (cc)), (λ it. absurd (cc)), λ lane it. absurd (cc))

-- running out of memory is no fault
pub no_fault : (lane : LaneName) → (statuses.NoMemory ≢ statuses.OpenFault lane) × (statuses.NoMemory ≢ statuses.ReadFault lane)
no_fault lane = ((λ it. absurd (cc)), λ it. absurd (cc))

pub not_done : (statuses.NoMemory ≢ statuses.Done) × (statuses.NoMemory ≢ statuses.WriteFault)
not_done = ((λ it. absurd (cc)), λ it. absurd (cc))

-- a fault is counted of no other name
pub uncounted : (own other : List ℕ) (name : Option (List ℕ)) (failed : Type 0) (names names' : List (List ℕ)) → CountsFault name failed names names'
    → name ≡ Some own → other ≢ own → times other names' ≡ times other names
uncounted own other name failed names names' counts is differs = counts.others other (λ same. differs (cc))

-- a fault of an input that was new is one more of its name, once both are handed back
counted : (own : List ℕ) (names : List (List ℕ)) (name : Option (List ℕ)) (faults : ℕ) → name ≡ Some own → faults ≢ 0
    → Rose (times own names) (times own (with_closed names name faults))
counted own names name faults is some = rw is (Rose-closed own names faults some)

-- a count that rose from nothing
risen : (faults : ℕ) → Rose 0 faults → faults ≢ 0
risen faults rose = λ none. absurd (omega (arith, none, rose))

pub first_counted : (own : List ℕ) (m0 m1 m2 m3 : List (List ℕ)) (name name' : Option (List ℕ)) (faults faults' : ℕ) → m1 ≡ m0 → m2 ≡ with_closed m1 name faults
    → m3 ≡ with_closed m2 name' faults' → name ≡ Some own → faults ≢ 0 → Rose (times own m0) (times own m3)
first_counted own m0 m1 m2 m3 name name' faults faults' a b c is some =
    let rises : Rose (times own m1) (times own (with_closed m1 name faults)) = counted own m1 name faults is some in
    let later : times own m2 ≤ times own (with_closed m2 name' faults') = times-later own m2 _ in
    omega (arith, rises, later, ap (times own) a, ap (times own) b, ap (times own) c)

pub second_counted : (own : List ℕ) (m0 m1 m2 m3 : List (List ℕ)) (name name' : Option (List ℕ)) (faults faults' : ℕ) → m1 ≡ m0
    → m2 ≡ with_closed m1 name faults → m3 ≡ with_closed m2 name' faults' → name' ≡ Some own → faults' ≢ 0 → Rose (times own m0) (times own m3)
second_counted own m0 m1 m2 m3 name name' faults faults' a b c is some =
    let later : times own m1 ≤ times own (with_closed m1 name faults) = times-later own m1 _ in
    let rises : Rose (times own m2) (times own (with_closed m2 name' faults')) = counted own m2 name' faults' is some in
    omega (arith, rises, later, ap (times own) a, ap (times own) b, ap (times own) c)

-- of both inputs it is kept whether their readings failed
pub kept_so : (own own' : List ℕ) (m0 m1 m2 m3 : List (List ℕ)) (name name' : Option (List ℕ)) (faults faults' : ℕ) → m1 ≡ m0 → m2 ≡ with_closed m1 name faults
    → m3 ≡ with_closed m2 name' faults' → name ≡ Some own → name' ≡ Some own'
    → m3 ≡ with_closed (with_closed m0 (Some own) faults) (Some own') faults'
kept_so own own' m0 m1 m2 m3 name name' faults faults' a b c is is' = rw (c, b, a, is, is') refl

-- an input that wasn't read leaves nothing to keep
pub unread_closed : {T : Type 0} (closed : Result T MemoryEnd) (names names' : List (List ℕ)) (name : Option (List ℕ)) (faults : ℕ)
    → OnOk closed (names' ≡ with_closed names name faults) → OnErr closed (names' ≡ names) → faults ≡ 0 → names' ≡ names
unread_closed (Ok done) names names' name faults ok err none =
    let kept : names' ≡ names ++ [] = rw none at ok in
    kept ∙ append-nil names
unread_closed (Err end) names names' name faults ok err none = err

-- Which openings failed.
module _ (name : Lane → LaneName) (file file' : List ℕ) (status : Status) (opens opens' reads reads' : List (List ℕ)) where
  -- none
  pub none_failed : ((lane : LaneName) → status ≢ statuses.OpenFault lane) → opens' ≡ opens
      → AtOpenFault name file file' status (files_state opens reads) (files_state opens' reads')
  none_failed other same = ((λ lane is. absurd (other lane is)), (λ not. same))

  -- that of the first file, or memory was wanting
  pub first_failed : (T : Type 0) (end : OpenEnd) → status ≡ status_of_open (name First) end → opens' ≡ with_failed {T = T} opens file (Err end)
      → reads' ≡ reads → AtOpenFault name file file' status (files_state opens reads) (files_state opens' reads')
  first_failed T Failed is failed same = ((λ lane it. (inl (cc, failed), same)), (λ other. absurd (other (name First) is)))
  first_failed T NoMemory is failed same = ((λ lane it. absurd (cc)), (λ other. failed))

  -- that of the second file, or memory was wanting
  pub second_failed : (T : Type 0) (end : OpenEnd) → status ≡ status_of_open (name Second) end → opens' ≡ with_failed {T = T} opens file' (Err end)
      → reads' ≡ reads → AtOpenFault name file file' status (files_state opens reads) (files_state opens' reads')
  second_failed T Failed is failed same = ((λ lane it. (inr (cc, failed), same)), (λ other. absurd (other (name Second) is)))
  second_failed T NoMemory is failed same = ((λ lane it. absurd (cc)), (λ other. failed))

-- Both inputs were just opened, and the reader has read nothing: what is so of them is so of the bytes of their files.
pub of_files : (own own' : List ℕ) (bytes bytes' told : Option (List ℕ)) (unfailing unfailing' known : Bool) (name left : Option (List ℕ))
    (faults : ℕ) (is_unfailing : Bool) (name' left' : Option (List ℕ)) (faults' : ℕ) (is_unfailing' : Bool) → IsOpened name left faults is_unfailing own bytes unfailing
    → IsOpened name' left' faults' is_unfailing' own' told known → told ≡ bytes' → known ≡ unfailing'
    → (reader : Reading) → reader ≡ unread → (So : SourceState → SourceState → Reading → Type 0) → So (lane_state left name faults is_unfailing)
    (lane_state left' name' faults' is_unfailing') reader → So (lane_state bytes (Some own) 0 unfailing) (lane_state bytes' (Some own') 0 unfailing') unread
of_files own own' bytes bytes' told unfailing unfailing' known name left faults is_unfailing name' left' faults' is_unfailing' opened opened' same same' reader fresh So so =
    let one : lane_state left name faults is_unfailing ≡ lane_state bytes (Some own) 0 unfailing = rw (opened.named, opened.whole, opened.none, opened.safety) refl in
    let two : lane_state left' name' faults' is_unfailing' ≡ lane_state bytes' (Some own') 0 unfailing' =
    rw (opened'.named, opened'.whole, opened'.none, opened'.safety, same, same') refl in
    let x = subst (λ (v : SourceState). So v (lane_state left' name' faults' is_unfailing') reader) one so in
    let y = subst (λ (v : SourceState). So (lane_state bytes (Some own) 0 unfailing) v reader) two x in
    subst (λ (r : Reading). So (lane_state bytes (Some own) 0 unfailing) (lane_state bytes' (Some own') 0 unfailing') r) fresh y

module _ {S E : Type 0} {sending : Sending} (laws : SendsLawfully sending) (rules : LaneRules S E) (start : S) (quiet : rules.waits start ≡ false) where
  -- nothing was read or written
  pub ends_none : (file file' : List ℕ) (files files' : FilesState) (first second replies : SourceState) (before : Option (List ℕ)) (writes : ℕ)
      (status : Status)
      → status ≡ statuses.NoMemory → sending.Begins first.left second.left []
      → EndsWith sending rules start file file' files files' first second replies replies before before writes writes status
  ends_none file file' files files' first second replies before writes status is begin = record {
    first' = first;
    second' = second;
    reading = unread;
    ends = rw is
        (ends_undriven laws rules start quiet first first second second (outside unread replies before writes) (outside unread replies before writes) refl
        begin);
    kept = λ known. absurd (known is);
  }

  -- both inputs were just opened, and the reader has read nothing
  module _ {own own' : List ℕ} {bytes bytes' told : Option (List ℕ)} {unfailing unfailing' known : Bool} {name left : Option (List ℕ)}
      {faults : ℕ} {is_unfailing : Bool} {name' left' : Option (List ℕ)} {faults' : ℕ} {is_unfailing' : Bool} (opened : IsOpened name left faults is_unfailing own bytes unfailing)
      (opened' : IsOpened name' left' faults' is_unfailing' own' told known) (same : told ≡ bytes') (same' : known ≡ unfailing')
      {reader : Reading} (fresh : reader ≡ unread) {first second replies : SourceState} {before : Option (List ℕ)} {writes : ℕ} {after : Outside}
      {status : Status}
      (run : EndsBy sending rules start (lane_state left name faults is_unfailing) first (lane_state left' name' faults' is_unfailing') second
      (outside reader replies before writes) after status) where
    over_files : EndsBy sending rules start (lane_state bytes (Some own) 0 unfailing) first (lane_state bytes' (Some own') 0 unfailing') second
        (outside unread replies before writes) after status
    over_files =
        of_files own own' bytes bytes' told unfailing unfailing' known name left faults is_unfailing name' left' faults' is_unfailing' opened opened' same same' reader fresh
        (λ v v' r. EndsBy sending rules start v first v' second (outside r replies before writes) after status) run

    pub ends_with : (files files' : FilesState)
        → files'.failed_reads ≡ with_closed (with_closed files.failed_reads (Some own) first.faults) (Some own') second.faults
        → EndsWith sending rules start own own' files files' (lane_state bytes (Some own) 0 unfailing) (lane_state bytes' (Some own') 0 unfailing') replies after.replies
        before after.written writes after.faults status
    ends_with files files' kept = record { first' = first; second' = second; reading = after.reading; ends = over_files; kept = λ known. kept }

    pub only : WritesBegun sending rules start bytes bytes' (to_come unread replies.left) before after.written
    only = endings.writes_upto laws rules start (lane_state bytes (Some own) 0 unfailing) first (lane_state bytes' (Some own') 0 unfailing') second
        (outside unread replies before writes) after status quiet over_files

    -- that a reading failed isn't kept
    pub ends_unkept : (files files' : FilesState)
        → EndsWith sending rules start own own' files files' (lane_state bytes (Some own) 0 unfailing) (lane_state bytes' (Some own') 0 unfailing') replies after.replies
        before after.written writes after.faults statuses.NoMemory
    ends_unkept files files' = record {
      first' = first;
      second' = second;
      reading = after.reading;
      ends = inr (inr (inr (inr (refl, only))));
      kept = λ known. absurd (known refl);
    }

    module _ (items_stop : (s : S) (item : Item) (status' : Status) → rules.take s item ≡ Stops status' → IsItemLimit status')
        (replies_stop : (s : S) (line : Line) (status' : Status) → rules.waits s ≡ true → rules.hear s line ≡ Stops status'
        → (status' ≡ statuses.BadReply line.number line.bytes) ⊎ IsHeldLimit status')
        (puts : (s : S) → rules.waits s ≡ true → (put : Put) × (rules.unanswered s ≡ statuses.NoReply put)) where
      pub done : status ≡ statuses.Done → TakesAllOf sending rules start bytes bytes' replies.left after.replies.left before after.written
      done = endings.done_whole laws rules start (lane_state bytes (Some own) 0 unfailing) first (lane_state bytes' (Some own') 0 unfailing') second
          (outside unread replies before writes) after items_stop replies_stop puts status refl over_files

      pub write_fault : status ≡ statuses.WriteFault → Rose writes after.faults
      write_fault = endings.write_fault laws rules start (lane_state bytes (Some own) 0 unfailing) first (lane_state bytes' (Some own') 0 unfailing') second
          (outside unread replies before writes) after items_stop replies_stop puts status over_files

      pub no_open_fault : (lane : LaneName) → status ≢ statuses.OpenFault lane
      no_open_fault = endings.no_open_fault laws rules start (lane_state bytes (Some own) 0 unfailing) first (lane_state bytes' (Some own') 0 unfailing') second
          (outside unread replies before writes) after items_stop replies_stop puts status over_files

      by_lane : (names names' : List (List ℕ)) → (first.faults ≢ 0 → Rose (times own names) (times own names'))
          → (second.faults ≢ 0 → Rose (times own' names) (times own' names')) → (lane : LaneName)
          → ((lane ≡ lanes.Input) × Rose replies.faults after.replies.faults)
          ⊎ (((lane ≡ rules.name First) × Rose 0 first.faults) ⊎ ((lane ≡ rules.name Second) × Rose 0 second.faults))
          → ((lane ≡ lanes.Input) × Rose replies.faults after.replies.faults)
          ⊎ (RoseFor lane (rules.name First) own names names' ⊎ RoseFor lane (rules.name Second) own' names names')
      by_lane names names' rise rise' lane (inl input) = inl input
      by_lane names names' rise rise' lane (inr (inl one)) = inr (inl (one.0, rise (risen first.faults one.1)))
      by_lane names names' rise rise' lane (inr (inr two)) = inr (inr (two.0, rise' (risen second.faults two.1)))

      pub read_fault : (names names' : List (List ℕ)) → (first.faults ≢ 0 → Rose (times own names) (times own names'))
          → (second.faults ≢ 0 → Rose (times own' names) (times own' names')) → (lane : LaneName) → status ≡ statuses.ReadFault lane
          → ((lane ≡ lanes.Input) × Rose replies.faults after.replies.faults)
          ⊎ (RoseFor lane (rules.name First) own names names' ⊎ RoseFor lane (rules.name Second) own' names names')
      read_fault names names' rise rise' lane is =
          by_lane names names' rise rise' lane
          (endings.read_fault laws rules start (lane_state bytes (Some own) 0 unfailing) first (lane_state bytes' (Some own') 0 unfailing') second
          (outside unread replies before writes) after items_stop replies_stop puts status over_files lane is)
