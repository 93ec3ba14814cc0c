-- Each further history is one: what computes is computed.
use Rattle.std.proofs.Common.{◌≡◌, [], ◌∷◌, None, reverse, codes, inl, inr, refl, sym}
use Rattle.std.proofs.lemmas.Bool.{true≢false}
use Rattle.hex.specs.Hex.{encode_with, decode_pairs}
use Rattle.core.specs.Fmt.{digits}
use Rattle.core.specs.Str.{is_utf8, chars}
use Rattle.std.specs.Net.Reader.{read_ipv4, read_octet, read_number}
use Rattle.mlb_base.proofs.Among.{contains-first, contains-later}
use Rattle.pool_config.specs.Search.{first_fault}
use Rattle.ip_ranges.specs.EntryText.{entry_of}
use Rattle.ip_ranges.specs.AddressText.{address_of, spelled}
use Rattle.kube_model.specs.declared.object.Object.TheVariants as objects
use Rattle.core_rules.specs.Run.{IsRun}
use Rattle.world_rules.specs.Explaining.{acts_of, answered}
use Rattle.world_rules.specs.Moves.{AreMoves, run_along, begun}
use Rattle.world_rules.proofs.Storing.{good-store_of}
use Rattle.history_laws.specs.Objects.{pool, first, second, x, y, z, service, given, bare}
use Rattle.history_laws.specs.Histories.{IsTrue, put_of}
use Rattle.history_laws.specs.Seen.{IsSeen}
use Rattle.history_laws.specs.Further.{at_port, sharing, FurtherAreExplained, FurtherAreSeen}
use Rattle.history_laws.specs.Further.{shown_twice, shown_twice_seen}
use Rattle.history_laws.specs.Further.{gone_twice, gone_twice_seen}
use Rattle.history_laws.specs.Further.{ended_thrice, ended_thrice_seen}
use Rattle.history_laws.specs.Further.{given_back, given_back_seen}
use Rattle.history_laws.specs.Further.{two_landed_late, two_landed_late_seen}
use Rattle.history_laws.specs.Further.{port_changed, port_changed_seen}
use Rattle.history_laws.specs.Further.{config_listed_anew, config_listed_anew_seen}
use Rattle.history_laws.specs.Further.{shared, shared_seen}

shown_twice-runs : IsRun None (reverse shown_twice.run)
unfolding first_fault entry_of address_of spelled read_ipv4 read_octet read_number encode_with digits decode_pairs is_utf8 chars
shown_twice-runs = (refl, (refl, (refl, ((refl, refl), (refl, (refl, (refl, (refl, (refl, tt)))))))))

shown_twice-may : AreMoves shown_twice.moves (begun None shown_twice.store shown_twice.list) []
unfolding first_fault entry_of address_of spelled read_ipv4 read_octet read_number encode_with digits decode_pairs is_utf8 chars
shown_twice-may = (inl refl, (inl refl, (tt, (inr refl, (tt, (tt, (tt, (inr refl, tt))))))))

shown_twice-same : acts_of (run_along shown_twice.moves (begun None shown_twice.store shown_twice.list) []) ≡ acts_of (answered (reverse shown_twice.run))
unfolding first_fault entry_of address_of spelled read_ipv4 read_octet read_number encode_with digits decode_pairs is_utf8 chars
shown_twice-same = refl

shown_twice-is : IsTrue shown_twice
unfolding first_fault entry_of address_of spelled read_ipv4 read_octet read_number encode_with digits decode_pairs is_utf8 chars
shown_twice-is = record {
  is_run = shown_twice-runs;
  explained = record {
    good = good-store_of (objects.Pool pool ∷ objects.Service (service x bare) ∷ []);
    listed = (_, refl, ([], [], refl, refl));
    running = (tt, (tt, (tt, (tt, (tt, (tt, (tt, (tt, tt))))))));
    may = shown_twice-may;
    same = shown_twice-same;
  };
}

shown_twice-seen : IsSeen shown_twice shown_twice_seen
unfolding first_fault entry_of address_of spelled read_ipv4 read_octet read_number encode_with digits decode_pairs is_utf8 chars
shown_twice-seen = record {
  good = good-store_of (objects.Pool pool ∷ objects.Service (service x bare) ∷ []);
  listed = (_, refl, ([], [], refl, refl));
  may = (tt, (tt, (tt, (tt, (tt, (tt, (refl, (refl, tt))))))));
  same = refl;
}

gone_twice-runs : IsRun None (reverse gone_twice.run)
unfolding first_fault entry_of address_of spelled read_ipv4 read_octet read_number encode_with digits decode_pairs is_utf8 chars
gone_twice-runs = (refl, (refl, ((refl, refl), (refl, (refl, (refl, (refl, ((refl, refl), (refl, (refl, (refl, (refl, ((refl, refl), (refl, (refl, (refl, (refl, tt)))))))))))))))))

gone_twice-may : AreMoves gone_twice.moves (begun None gone_twice.store gone_twice.list) []
unfolding first_fault entry_of address_of spelled read_ipv4 read_octet read_number encode_with digits decode_pairs is_utf8 chars
gone_twice-may = (inl refl, (inl refl, (tt, (tt, (tt, (tt, ((λ has. absurd (true≢false (sym has))), (tt, (tt, (tt, (tt, ((λ has. absurd (true≢false (sym has))), (inr refl, (tt, (tt, (tt, (tt, tt)))))))))))))))))

gone_twice-same : acts_of (run_along gone_twice.moves (begun None gone_twice.store gone_twice.list) []) ≡ acts_of (answered (reverse gone_twice.run))
unfolding first_fault entry_of address_of spelled read_ipv4 read_octet read_number encode_with digits decode_pairs is_utf8 chars
gone_twice-same = refl

gone_twice-is : IsTrue gone_twice
unfolding first_fault entry_of address_of spelled read_ipv4 read_octet read_number encode_with digits decode_pairs is_utf8 chars
gone_twice-is = record {
  is_run = gone_twice-runs;
  explained = record {
    good = good-store_of (objects.Pool pool ∷ objects.Service (service x bare) ∷ []);
    listed = (_, refl, ([], [], refl, refl));
    running = (tt, (tt, (tt, (tt, (tt, (tt, (tt, (tt, (tt, (tt, (tt, (tt, (tt, (tt, (tt, (tt, (tt, tt)))))))))))))))));
    may = gone_twice-may;
    same = gone_twice-same;
  };
}

gone_twice-seen : IsSeen gone_twice gone_twice_seen
unfolding first_fault entry_of address_of spelled read_ipv4 read_octet read_number encode_with digits decode_pairs is_utf8 chars
gone_twice-seen = record {
  good = good-store_of (objects.Pool pool ∷ objects.Service (service x bare) ∷ []);
  listed = (_, refl, ([], [], refl, refl));
  may = (tt, (tt, (tt, (tt, (tt, ((λ has terms marked. absurd (true≢false (sym has))), (tt, (tt, (tt, (tt, ((λ has terms marked. absurd (true≢false (sym has))), (tt, (tt, (tt, (tt, (refl, (refl, tt)))))))))))))))));
  same = refl;
}

ended_thrice-runs : IsRun None (reverse ended_thrice.run)
unfolding first_fault entry_of address_of spelled read_ipv4 read_octet read_number encode_with digits decode_pairs is_utf8 chars
ended_thrice-runs = (refl, (refl, (refl, (refl, ((refl, refl), (refl, (refl, ((refl, refl), (refl, (refl, (refl, (refl, (refl, tt)))))))))))))

ended_thrice-seen : IsSeen ended_thrice ended_thrice_seen
unfolding first_fault entry_of address_of spelled read_ipv4 read_octet read_number encode_with digits decode_pairs is_utf8 chars
ended_thrice-seen = record {
  good = good-store_of (objects.Pool pool ∷ objects.Service (service x bare) ∷ objects.Service (service y bare) ∷ []);
  listed = (_, refl, (_ ∷ [], [], refl, ([], [], refl, refl)));
  may = (tt, (tt, (tt, (tt, (tt, (tt, (tt, (tt, (tt, (refl, (refl, tt)))))))))));
  same = refl;
}

given_back-runs : IsRun None (reverse given_back.run)
unfolding first_fault entry_of address_of spelled read_ipv4 read_octet read_number encode_with digits decode_pairs is_utf8 chars
given_back-runs = (refl, (refl, ((refl, refl), (refl, ((refl, refl), (refl, (refl, ((refl, refl), (refl, (refl, ((refl, refl), (refl, (refl, (refl, (refl, (refl, (refl, tt)))))))))))))))))

given_back-may : AreMoves given_back.moves (begun None given_back.store given_back.list) []
unfolding first_fault entry_of address_of spelled read_ipv4 read_octet read_number encode_with digits decode_pairs is_utf8 chars
given_back-may = (inl refl, (tt, (inl refl, (tt, (tt, (tt, (tt, (tt, (tt, (tt, (tt, (tt, (tt, (tt, (tt, tt)))))))))))))))

given_back-same : acts_of (run_along given_back.moves (begun None given_back.store given_back.list) []) ≡ acts_of (answered (reverse given_back.run))
unfolding first_fault entry_of address_of spelled read_ipv4 read_octet read_number encode_with digits decode_pairs is_utf8 chars
given_back-same = refl

given_back-is : IsTrue given_back
unfolding first_fault entry_of address_of spelled read_ipv4 read_octet read_number encode_with digits decode_pairs is_utf8 chars
given_back-is = record {
  is_run = given_back-runs;
  explained = record {
    good = good-store_of (objects.Pool pool ∷ objects.Service (service y bare) ∷ objects.Service (service x bare) ∷ objects.Service (service z bare) ∷ []);
    listed = (_, refl, (_ ∷ [], _ ∷ [], refl, (_ ∷ [], [], refl, ([], [], refl, refl))));
    running = (tt, (tt, (tt, (tt, (tt, (tt, (tt, (tt, (tt, (tt, (tt, (tt, (tt, (tt, (tt, tt)))))))))))))));
    may = given_back-may;
    same = given_back-same;
  };
}

given_back-seen : IsSeen given_back given_back_seen
unfolding first_fault entry_of address_of spelled read_ipv4 read_octet read_number encode_with digits decode_pairs is_utf8 chars
given_back-seen = record {
  good = good-store_of (objects.Pool pool ∷ objects.Service (service y bare) ∷ objects.Service (service x bare) ∷ objects.Service (service z bare) ∷ []);
  listed = (_, refl, (_ ∷ [], _ ∷ [], refl, (_ ∷ [], [], refl, ([], [], refl, refl))));
  may = (tt, (tt, (tt, (tt, (tt, (tt, (tt, (tt, (tt, (tt, (tt, (refl, (tt, (refl, tt))))))))))))));
  same = refl;
}

two_landed_late-runs : IsRun None (reverse two_landed_late.run)
unfolding first_fault entry_of address_of spelled read_ipv4 read_octet read_number encode_with digits decode_pairs is_utf8 chars
two_landed_late-runs = ((refl, refl), (refl, ((refl, refl), (refl, (refl, ((refl, refl), (refl, ((refl, refl), (refl, ((refl, refl), (refl, ((refl, refl), (refl, (refl, (refl, (refl, (refl, tt)))))))))))))))))

two_landed_late-may : AreMoves two_landed_late.moves (begun None two_landed_late.store two_landed_late.list) []
unfolding first_fault entry_of address_of spelled read_ipv4 read_octet read_number encode_with digits decode_pairs is_utf8 chars
two_landed_late-may = (inl refl, (inl refl, (tt, (tt, (tt, (tt, (tt, (contains-first (put_of y 3 (given second)) (put_of x 2 (given first) ∷ []), (contains-later (put_of y 3 (given second)) (put_of x 2 (given first) ∷ []) (put_of x 2 (given first)) (contains-first (put_of x 2 (given first)) []), (tt, (tt, (tt, (tt, (tt, (tt, tt)))))))))))))))

two_landed_late-same : acts_of (run_along two_landed_late.moves (begun None two_landed_late.store two_landed_late.list) []) ≡ acts_of (answered (reverse two_landed_late.run))
unfolding first_fault entry_of address_of spelled read_ipv4 read_octet read_number encode_with digits decode_pairs is_utf8 chars
two_landed_late-same = refl

two_landed_late-is : IsTrue two_landed_late
unfolding first_fault entry_of address_of spelled read_ipv4 read_octet read_number encode_with digits decode_pairs is_utf8 chars
two_landed_late-is = record {
  is_run = two_landed_late-runs;
  explained = record {
    good = good-store_of (objects.Pool pool ∷ objects.Service (service x bare) ∷ objects.Service (service y bare) ∷ []);
    listed = (_, refl, (_ ∷ [], [], refl, ([], [], refl, refl)));
    running = (tt, (tt, (tt, (tt, (tt, (tt, (tt, (tt, (tt, (tt, (tt, (tt, (tt, (tt, (tt, tt)))))))))))))));
    may = two_landed_late-may;
    same = two_landed_late-same;
  };
}

two_landed_late-seen : IsSeen two_landed_late two_landed_late_seen
unfolding first_fault entry_of address_of spelled read_ipv4 read_octet read_number encode_with digits decode_pairs is_utf8 chars
two_landed_late-seen = record {
  good = good-store_of (objects.Pool pool ∷ objects.Service (service x bare) ∷ objects.Service (service y bare) ∷ []);
  listed = (_, refl, (_ ∷ [], [], refl, ([], [], refl, refl)));
  may = (tt, (tt, (tt, (tt, (contains-later (put_of y 3 (given second)) (put_of x 2 (given first) ∷ []) (put_of x 2 (given first)) (contains-first (put_of x 2 (given first)) []), (contains-first (put_of y 3 (given second)) (put_of x 2 (given first) ∷ []), (tt, (tt, (tt, (tt, (tt, (refl, (refl, tt)))))))))))));
  same = refl;
}

port_changed-runs : IsRun None (reverse port_changed.run)
unfolding first_fault entry_of address_of spelled read_ipv4 read_octet read_number encode_with digits decode_pairs is_utf8 chars
port_changed-runs = (refl, (refl, ((refl, refl), (refl, (refl, (refl, ((refl, refl), (refl, (refl, (refl, (refl, tt)))))))))))

port_changed-may : AreMoves port_changed.moves (begun None port_changed.store port_changed.list) []
unfolding first_fault entry_of address_of spelled read_ipv4 read_octet read_number encode_with digits decode_pairs is_utf8 chars
port_changed-may = (inl refl, (inl refl, (tt, (tt, (tt, (tt, ((λ has. refl), (tt, (tt, (tt, tt))))))))))

port_changed-same : acts_of (run_along port_changed.moves (begun None port_changed.store port_changed.list) []) ≡ acts_of (answered (reverse port_changed.run))
unfolding first_fault entry_of address_of spelled read_ipv4 read_octet read_number encode_with digits decode_pairs is_utf8 chars
port_changed-same = refl

port_changed-is : IsTrue port_changed
unfolding first_fault entry_of address_of spelled read_ipv4 read_octet read_number encode_with digits decode_pairs is_utf8 chars
port_changed-is = record {
  is_run = port_changed-runs;
  explained = record {
    good = good-store_of (objects.Pool pool ∷ objects.Service (service x bare) ∷ []);
    listed = (_, refl, ([], [], refl, refl));
    running = (tt, (tt, (tt, (tt, (tt, (tt, (tt, (tt, (tt, (tt, tt))))))))));
    may = port_changed-may;
    same = port_changed-same;
  };
}

port_changed-seen : IsSeen port_changed port_changed_seen
unfolding first_fault entry_of address_of spelled read_ipv4 read_octet read_number encode_with digits decode_pairs is_utf8 chars
port_changed-seen = record {
  good = good-store_of (objects.Pool pool ∷ objects.Service (service x bare) ∷ []);
  listed = (_, refl, ([], [], refl, refl));
  may = (tt, (tt, (tt, ((λ has terms marked. refl), (tt, (tt, (tt, (tt, (refl, (refl, tt))))))))));
  same = refl;
}

config_listed_anew-runs : IsRun None (reverse config_listed_anew.run)
unfolding first_fault entry_of address_of spelled read_ipv4 read_octet read_number encode_with digits decode_pairs is_utf8 chars
config_listed_anew-runs = (refl, (refl, ((refl, refl), (refl, (refl, (refl, (refl, (refl, (refl, (refl, tt))))))))))

config_listed_anew-may : AreMoves config_listed_anew.moves (begun None config_listed_anew.store config_listed_anew.list) []
unfolding first_fault entry_of address_of spelled read_ipv4 read_octet read_number encode_with digits decode_pairs is_utf8 chars
config_listed_anew-may = (inl refl, (inl refl, (tt, (tt, (tt, (inl refl, (inl refl, (tt, (tt, tt)))))))))

config_listed_anew-same : acts_of (run_along config_listed_anew.moves (begun None config_listed_anew.store config_listed_anew.list) []) ≡ acts_of (answered (reverse config_listed_anew.run))
unfolding first_fault entry_of address_of spelled read_ipv4 read_octet read_number encode_with digits decode_pairs is_utf8 chars
config_listed_anew-same = refl

config_listed_anew-is : IsTrue config_listed_anew
unfolding first_fault entry_of address_of spelled read_ipv4 read_octet read_number encode_with digits decode_pairs is_utf8 chars
config_listed_anew-is = record {
  is_run = config_listed_anew-runs;
  explained = record {
    good = good-store_of (objects.Pool pool ∷ objects.Service (service x bare) ∷ []);
    listed = (_, refl, ([], [], refl, refl));
    running = (tt, (tt, (tt, (tt, (tt, (tt, (tt, (tt, (tt, tt)))))))));
    may = config_listed_anew-may;
    same = config_listed_anew-same;
  };
}

config_listed_anew-seen : IsSeen config_listed_anew config_listed_anew_seen
unfolding first_fault entry_of address_of spelled read_ipv4 read_octet read_number encode_with digits decode_pairs is_utf8 chars
config_listed_anew-seen = record {
  good = good-store_of (objects.Pool pool ∷ objects.Service (service x bare) ∷ []);
  listed = (_, refl, ([], [], refl, refl));
  may = (tt, (tt, (refl, (refl, (tt, (tt, (tt, (refl, (refl, tt)))))))));
  same = refl;
}

shared-runs : IsRun None (reverse shared.run)
unfolding first_fault entry_of address_of spelled read_ipv4 read_octet read_number encode_with digits decode_pairs is_utf8 chars lib.Utf8.encode
shared-runs = (refl, (refl, (refl, ((refl, refl), (refl, ((refl, refl), (refl, (refl, (refl, (refl, (refl, tt)))))))))))

shared-may : AreMoves shared.moves (begun None shared.store shared.list) []
unfolding first_fault entry_of address_of spelled read_ipv4 read_octet read_number encode_with digits decode_pairs is_utf8 chars lib.Utf8.encode
shared-may = (inl refl, (inl refl, (tt, (tt, (tt, (tt, (tt, (tt, (tt, tt)))))))))

shared-same : acts_of (run_along shared.moves (begun None shared.store shared.list) []) ≡ acts_of (answered (reverse shared.run))
unfolding first_fault entry_of address_of spelled read_ipv4 read_octet read_number encode_with digits decode_pairs is_utf8 chars lib.Utf8.encode
shared-same = refl

shared-is : IsTrue shared
unfolding first_fault entry_of address_of spelled read_ipv4 read_octet read_number encode_with digits decode_pairs is_utf8 chars lib.Utf8.encode
shared-is = record {
  is_run = shared-runs;
  explained = record {
    good = good-store_of (objects.Pool pool ∷ objects.Service (sharing 80 x bare) ∷ objects.Service (sharing 81 z bare) ∷ []);
    listed = (_, refl, ([], _ ∷ [], refl, ([], [], refl, refl)));
    running = (tt, (tt, (tt, (tt, (tt, (tt, (tt, (tt, (tt, tt)))))))));
    may = shared-may;
    same = shared-same;
  };
}

shared-seen : IsSeen shared shared_seen
unfolding first_fault entry_of address_of spelled read_ipv4 read_octet read_number encode_with digits decode_pairs is_utf8 chars lib.Utf8.encode
shared-seen = record {
  good = good-store_of (objects.Pool pool ∷ objects.Service (sharing 80 x bare) ∷ objects.Service (sharing 81 z bare) ∷ []);
  listed = (_, refl, ([], _ ∷ [], refl, ([], [], refl, refl)));
  may = (tt, (tt, (tt, (tt, (tt, (tt, (tt, (refl, (refl, tt)))))))));
  same = refl;
}

pub further_are_explained : FurtherAreExplained
further_are_explained =
    ((shown_twice-is, (gone_twice-is, (given_back-is, (two_landed_late-is, (port_changed-is, (config_listed_anew-is, (shared-is, tt))))))), ended_thrice-runs)

pub further_are_seen : FurtherAreSeen
further_are_seen =
    (shown_twice-seen, gone_twice-seen, ended_thrice-seen, given_back-seen, two_landed_late-seen, port_changed-seen, config_listed_anew-seen, shared-seen)
