use Rattle.std.proofs.Common.{◌≡◌, ◌≤◌, ◌-◌, ◌^◌, List, length}
use Rattle.lane_mail.specs.declared.item.Item.{Item}
use Rattle.mlb_edge.specs.InputLines.{to_come, Passes}
use Rattle.lane_run.specs.Turned.{AreTurned}
use Rattle.lane_run.proofs.LaneSoFar.{Watching}
use Rattle.line_run.proofs.ReadSoFar.{fresh}
use Rattle.lane_run.proofs.watching.send_lines.Given as goal

abbrev pub invariant-lines : goal.invariant-lines
invariant-lines g l = record {
  mail : l.pass.mail ≡ l.fn.pass.mail;
  lane : l.pass.lane ≡ l.fn.pass.lane;
  turned : (items : List Item) × Watching g.L.Lanes.belongs l.lane (g.S.Source.left l.fn.source) (to_come l.reader (g.S.Source.left l.source)) items
      × AreTurned g.T.Turner.Turns (g.T.Turner.state l.fn.turner) (g.T.Turner.state l.turner) items l.pass.sent;
  passes : Passes fresh l.reader (g.S.Source.left l.fn.source) (g.S.Source.left l.source);
  counted : length l.pass.sent ≤ l.reader.passed;
  later : g.S.Source.faults l.fn.source ≤ g.S.Source.faults l.source;
  named : g.S.Source.name l.source ≡ g.S.Source.name l.fn.source;
  safety : g.S.Source.unfailing l.source ≡ g.S.Source.unfailing l.fn.source;
}

abbrev pub decreases-lines : goal.decreases-lines
decreases-lines g l = 2 ^ 40 - l.reader.passed
