-- What is read of objects and of lines is what their tables tell: the value of each row, or the first row at fault.
use Rattle.std.specs.Prelude.{◌≡◌}
use Rattle.serde_json.specs.Data.{Data}
use Rattle.kube_model.specs.declared.object.Kind.{Kind}
use Rattle.kube_events.specs.ObjectFields.{stated_object, changed_of, deleted_of}
use Rattle.kube_events.specs.Members.{members_of}
use Rattle.kube_events.specs.Frame.{frame_of}
use Rattle.field_laws.specs.Told.{as_put, rows_told}
use Rattle.field_laws.specs.Tables.{changed_rows, stated_rows, deleted_rows, members_rows, frame_rows}
use Rattle.field_laws.specs.Events.{changed_with, stated_with, deleted_with, members_with, frame_with}

abbrev pub ChangedAsTold : Type 0
ChangedAsTold = (kind : Kind) (d : Data) → changed_of kind d ≡ as_put (changed_with kind) (rows_told (changed_rows kind) d)

abbrev pub StatedAsTold : Type 0
StatedAsTold = (kind : Kind) (d : Data) → stated_object kind d ≡ as_put (stated_with kind) (rows_told (stated_rows kind) d)

abbrev pub DeletedAsTold : Type 0
DeletedAsTold = (kind : Kind) (d : Data) → deleted_of kind d ≡ as_put (deleted_with kind) (rows_told (deleted_rows kind) d)

abbrev pub MembersAsTold : Type 0
MembersAsTold = (line : Data) → members_of line ≡ as_put members_with (rows_told members_rows line)

abbrev pub FramesAsTold : Type 0
FramesAsTold = (line : Data) → frame_of line ≡ as_put frame_with (rows_told frame_rows line)
