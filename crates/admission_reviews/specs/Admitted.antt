-- Objects that are to be admitted, which have no version yet.
use Rattle.std.specs.Prelude.{Option, Some, None, Result, Ok, option_and_then, codes, if◌then◌else◌}
use Rattle.serde_json.specs.Data.{Data}
use Rattle.json_fields.specs.Path.{Path}
use Rattle.json_fields.specs.Reading.{some_of}
use Rattle.kube_model.specs.declared.object.Kind.{Kind}
use Rattle.kube_model.specs.declared.object.Object.{Object}
use Rattle.kube_model.specs.Named.{kind_named}
use Rattle.kube_events.specs.Event.{text_in}
use Rattle.kube_events.specs.ObjectFields.{stated_object}
use Rattle.object_history.specs.Observations.{is_config_kind}

-- the kind that an object names, if it is one that is read
abbrev pub kind_in : Data → Option Kind
kind_in d = option_and_then kind_named (text_in (codes "kind") d)

-- the object, if it is of a kind that a configuration is compiled from
abbrev pub stated_where : Option Kind → Data → Result (Option Object) Path
stated_where None d = Ok None
stated_where (Some kind) d = if is_config_kind kind then some_of (stated_object kind d) else Ok None

unfoldable pub admitted_of : Data → Result (Option Object) Path
admitted_of d = stated_where (kind_in d) d
