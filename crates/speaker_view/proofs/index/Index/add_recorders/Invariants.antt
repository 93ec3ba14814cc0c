use Rattle.std.proofs.Common.{◌≡◌, true, take}
use Rattle.ip_ranges.specs.Values.{AddressValue, has_address}
use Rattle.speaker_view.specs.Index.{Grows, is_recorder}
use Rattle.speaker_view.proofs.index.Index.add_recorders.Given as goal

abbrev pub invariant-loop-address : goal.invariant-loop-address
invariant-loop-address l = record {
  grows : Grows l.fn.self l.self;
  slices : l.self.slices ≡ l.fn.self.slices;
  so_far : (a : AddressValue) → has_address (take l.address-index l.addresses) a ≡ true → is_recorder l.self a l.service.key ≡ true;
}
