use Rattle.field_laws.proofs.TypeReads.{texts_are_read, truths_are_read, maps_are_read}
use Rattle.field_laws.proofs.values.values_are_read.Goals as goal

pub returns : goal.returns
returns c = record {
  text = texts_are_read;
  truth = truths_are_read;
  text_map = maps_are_read;
}
