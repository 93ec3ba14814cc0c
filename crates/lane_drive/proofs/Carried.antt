-- A run over what two lanes send is one over whatever else they may be said to send.
use Rattle.std.proofs.Common.{ℕ, List, ◌∷◌, ◌++◌, Option, inl, inr}
use Rattle.kube_model.specs.declared.status.Status.{Status}
use Rattle.lane_mail.specs.declared.lane.Lane.TheVariants.{First, Second}
use Rattle.lane_mail.specs.declared.item.Item.{Item}
use Rattle.lane_mail.specs.Lanes.{items_of}
use Rattle.lane_run.specs.declared.lane_end.LaneEnd.{LaneEnd}
use Rattle.lane_run.specs.Outside.{SourceState, Outside, outside}
use Rattle.mlb_edge.specs.InputLines.{Input, to_come}
use Rattle.lane_drive.specs.Asking.{AsksOf}
use Rattle.lane_drive.specs.Clauses.{DoneOf, EndOf, unread}
use Rattle.lane_drive.specs.Files.{FilesState}
use Rattle.lane_drive.specs.LaneRules.{LaneRules}
use Rattle.lane_drive.specs.Sending.{Sending}
use Rattle.lane_drive.specs.Stops.{EndsBy, TakesAll, WritesBegun}

-- What the one is said to send, the other may send.
pub record Carries (one other : Sending) : Type 0 where
  pub ended : (first first' second second' : SourceState) (sent : List Item) (end end' : LaneEnd) → one.Ended first first' second second' sent end end'
      → other.Ended first first' second second' sent end end'
  pub begins : (first second : Option (List ℕ)) (items : List Item) → one.Begins first second items → other.Begins first second items
  pub firsts : (left : Option (List ℕ)) (items : List Item) → one.Firsts left (items_of First items) → other.Firsts left (items_of First items)
  pub seconds : (left : Option (List ℕ)) (items : List Item) → one.Seconds left (items_of Second items) → other.Seconds left (items_of Second items)

module _ (one other : Sending) (carries : Carries one other) {S E : Type 0} (rules : LaneRules S E) (start : S) where
  abbrev all_carried : (first first' second second' : SourceState) (before mid : Outside) (end end' : LaneEnd)
      → TakesAll one rules start first first' second second' before mid end end' → TakesAll other rules start first first' second second' before mid end end'
  all_carried first first' second second' before mid end end' s = record {
    items = s.items;
    lanes = carries.ended first first' second second' s.items end end' s.lanes;
    state = s.state;
    told = s.told;
    drove = s.drove;
    quiet = s.quiet;
    known = s.known;
  }

  pub writes_carried : (first second : Option (List ℕ)) (now : Option Input) (before after : Option (List ℕ))
      → WritesBegun one rules start first second now before after → WritesBegun other rules start first second now before after
  writes_carried first second now before after s = record {
    items = s.items;
    replies = s.replies;
    next = s.next;
    comes = s.comes;
    begin = carries.begins first second s.items s.begin;
    state = s.state;
    told = s.told;
    taken = s.taken;
    wrote = s.wrote;
  }

  module _ (first first' second second' : SourceState) (before after : Outside) (status : Status) where
    pub ends_carried : EndsBy one rules start first first' second second' before after status
        → EndsBy other rules start first first' second second' before after status
    ends_carried (inl s) = inl (record {
      items = s.items;
      item = s.item;
      dropped = s.dropped;
      end = s.end;
      end' = s.end';
      lanes = carries.ended first first' second second' (s.items ++ s.item ∷ s.dropped) s.end s.end' s.lanes;
      state = s.state;
      told = s.told;
      mid = s.mid;
      drove = s.drove;
      quiet = s.quiet;
      stops = s.stops;
      unread = s.unread;
      known = s.known;
    })
    ends_carried (inr (inl s)) = inr (inl (record {
      items = s.items;
      dropped = s.dropped;
      end = s.end;
      end' = s.end';
      lanes = carries.ended first first' second second' (s.items ++ s.dropped) s.end s.end' s.lanes;
      state = s.state;
      told = s.told;
      mid = s.mid;
      drove = s.drove;
      waits = s.waits;
      stops = s.stops;
      known = s.known;
    }))
    ends_carried (inr (inr (inl s))) = inr (inr (inl (record {
      end = s.end;
      end' = s.end';
      mid = s.mid;
      all = all_carried first first' second second' before s.mid s.end s.end' s.all;
      hears = s.hears;
      stops = s.stops;
      ill = s.ill;
    })))
    ends_carried (inr (inr (inr (inl s)))) = inr (inr (inr (inl (record {
      end = s.end;
      end' = s.end';
      mid = s.mid;
      all = all_carried first first' second second' before s.mid s.end s.end' s.all;
      is = s.is;
      kept = s.kept;
      ended = s.ended;
      unheard = s.unheard;
    }))))
    ends_carried (inr (inr (inr (inr s)))) =
        inr (inr (inr (inr (s.0, writes_carried first.left second.left (to_come before.reading before.replies.left) before.written after.written s.1))))

  pub asks_carried : (first second : SourceState) (before now : Outside) → AsksOf one rules start first second before now
      → AsksOf other rules start first second before now
  asks_carried first second before now (inl more) = inl more
  asks_carried first second before now (inr s) = inr (record {
    first' = s.first';
    second' = s.second';
    end = s.end;
    end' = s.end';
    all = all_carried first s.first' second s.second' before now s.end s.end' s.all;
    none_held = s.none_held;
    hears = s.hears;
  })

  pub done_carried : (first second : Option (List ℕ)) (status : Status) (replies left before after : Option (List ℕ))
      → DoneOf one rules start first second status replies left before after → DoneOf other rules start first second status replies left before after
  done_carried first second status replies left before after at done =
      let s = at done in
      record {
        items = s.items;
        firsts = carries.firsts first s.items s.firsts;
        seconds = carries.seconds second s.items s.seconds;
        merge = s.merge;
        heard = s.heard;
        state = s.state;
        told = s.told;
        taken = s.taken;
        quiet = s.quiet;
        wrote = s.wrote;
        whole = s.whole;
      }

  pub end_carried : (file file' : List ℕ) (files files' : FilesState) (first second replies replies' : SourceState) (before after : Option (List ℕ))
      (writes writes' : ℕ) (status : Status) → EndOf one rules start file file' files files' first second replies replies' before after writes writes' status
      → EndOf other rules start file file' files files' first second replies replies' before after writes writes' status
  end_carried file file' files files' first second replies replies' before after writes writes' status at opened =
      let s = at opened in
      record {
        first' = s.first';
        second' = s.second';
        reading = s.reading;
        ends = ends_carried first s.first' second s.second' (outside unread replies before writes) (outside s.reading replies' after writes') status s.ends;
        kept = s.kept;
      }
