use Rattle.std.proofs.Common.{Option, ap, sym}
use Rattle.std.specs.BTreeSet.{BTreeSet}
use Rattle.grouped_keys.specs.Grouped.{is_in}
use Rattle.kube_model.specs.Keys.{key_cmp}
use Rattle.kube_model.specs.declared.key.Key.{Key}
use Rattle.speaker_view.proofs.index.Index.has_slices.Goals as goal

pub returns-in-None : goal.returns-in-None
returns-in-None c e key = sym (ap (λ (keys : Option (BTreeSet Key)). is_in key_cmp keys key) c.in-None.ensures)
