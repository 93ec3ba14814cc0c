-- What was written over two lanes is right.
use Rattle.std.proofs.Common.{◌≡◌, ℕ, List, Option, Some}
use Rattle.std.specs.Prelude.{String}
use Rattle.lane_drive.specs.Clauses.{OnlyWrites}
use Rattle.speaker_machine.specs.Lanes.{belongs_to, lane_rules}
use Rattle.speaker_laws.specs.Clauses.{begun_by}
use Rattle.speaker_laws.proofs.LaneLines.{lanes_right}
use Rattle.speaker_run.specs.LaneClauses.{WritesItemsRightly}

pub writes_rightly : {Z : Type 0} → (words : List (String Z)) (first second left before after : Option (List ℕ))
    → OnlyWrites belongs_to lane_rules (begun_by words) first second left before after → WritesItemsRightly words first second left before after
writes_rightly words first second left before after written = record {
  written = written;
  right = lanes_right words written.items written.state written.told
      (record { first = first; second = second; begin = written.begin; replies = written.replies; taken = written.taken });
}

pub some-same : {A : Type 0} → {x y : A} → Some x ≡ Some y → x ≡ y
some-same e = cc
