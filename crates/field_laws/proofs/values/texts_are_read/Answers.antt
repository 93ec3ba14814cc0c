use Rattle.field_laws.proofs.TypeReads.{families_are_read, protocols_are_read, policies_are_read, versions_are_read, addresses_are_read, bytes_are_read}
use Rattle.field_laws.proofs.values.texts_are_read.Goals as goal

pub returns : goal.returns
returns c = record {
  family = families_are_read;
  protocol = protocols_are_read;
  policy = policies_are_read;
  version = versions_are_read;
  address = addresses_are_read;
  hex = bytes_are_read;
}
