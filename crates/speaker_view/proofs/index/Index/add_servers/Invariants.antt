use Rattle.std.proofs.Common.{◌≡◌, true, take}
use Rattle.ip_ranges.specs.Values.{AddressValue, has_address}
use Rattle.speaker_view.specs.Index.{Grows, is_server}
use Rattle.speaker_view.proofs.index.Index.add_servers.Given as goal

abbrev pub invariant-loop-address : goal.invariant-loop-address
invariant-loop-address l = record {
  grows : Grows l.fn.self l.self;
  so_far : (a : AddressValue) → has_address (take l.address-index l.addresses) a ≡ true → is_server l.self a l.key ≡ true;
}
