-- Each history is one: what computes is computed.
use Rattle.std.proofs.Common.{◌≡◌, [], ◌∷◌, None, reverse, inl, refl, sym}
use Rattle.std.proofs.lemmas.Bool.{true≢false}
use Rattle.hex.specs.Hex.{encode_with, decode_pairs}
use Rattle.core.specs.Fmt.{digits}
use Rattle.core.specs.Str.{is_utf8, chars}
use Rattle.std.specs.Net.Reader.{read_ipv4, read_octet, read_number}
use Rattle.mlb_base.proofs.Among.{contains-first}
use Rattle.pool_config.specs.Search.{first_fault}
use Rattle.ip_ranges.specs.EntryText.{entry_of}
use Rattle.ip_ranges.specs.AddressText.{address_of, spelled}
use Rattle.kube_model.specs.declared.object.Object.TheVariants as objects
use Rattle.core_rules.specs.Run.{IsRun}
use Rattle.world_rules.specs.Explaining.{acts_of, answered}
use Rattle.world_rules.specs.Moves.{AreMoves, run_along, begun}
use Rattle.world_rules.proofs.Storing.{good-store_of}
use Rattle.history_laws.specs.Objects.{pool, first, x, y, z, service, bare, unmarked}
use Rattle.history_laws.specs.Histories.{IsTrue, HistoriesAreExplained}
use Rattle.history_laws.specs.Histories.{in_namespace_order, watches_restarted_in_the_list, created_anew, gone, emptied, lost_and_applied, lost_on_the_way, refused, adopted, one_watch_expired, config_late_and_twice, edited_within_the_list, beside_another, landed_late}
use Rattle.history_laws.proofs.Stores.{good-records}

in_namespace_order-runs : IsRun None (reverse in_namespace_order.run)
unfolding first_fault entry_of address_of spelled read_ipv4 read_octet read_number encode_with digits decode_pairs is_utf8 chars
in_namespace_order-runs = ((refl, refl), (refl, (refl, ((refl, refl), (refl, (refl, ((refl, refl), (refl, (refl, (refl, (refl, (refl, (refl, tt)))))))))))))

in_namespace_order-may : AreMoves in_namespace_order.moves (begun None in_namespace_order.store in_namespace_order.list) []
unfolding first_fault entry_of address_of spelled read_ipv4 read_octet read_number encode_with digits decode_pairs is_utf8 chars
in_namespace_order-may = (inl refl, (tt, (inl refl, (tt, (tt, (tt, (tt, (tt, (tt, (tt, (tt, tt)))))))))))

in_namespace_order-same : acts_of (run_along in_namespace_order.moves (begun None in_namespace_order.store in_namespace_order.list) []) ≡ acts_of (answered (reverse in_namespace_order.run))
unfolding first_fault entry_of address_of spelled read_ipv4 read_octet read_number encode_with digits decode_pairs is_utf8 chars
in_namespace_order-same = refl

in_namespace_order-is : IsTrue in_namespace_order
unfolding first_fault entry_of address_of spelled read_ipv4 read_octet read_number encode_with digits decode_pairs is_utf8 chars
in_namespace_order-is = record {
  is_run = in_namespace_order-runs;
  explained = record {
    good = good-store_of (objects.Pool pool ∷ objects.Service (service y bare) ∷ objects.Service (service x bare) ∷ objects.Service (service z bare) ∷ []);
    listed = (_, refl, (_ ∷ [], _ ∷ [], refl, (_ ∷ [], [], refl, ([], [], refl, refl))));
    running = (tt, (tt, (tt, (tt, (tt, (tt, (tt, (tt, (tt, (tt, (tt, tt)))))))))));
    may = in_namespace_order-may;
    same = in_namespace_order-same;
  };
}

watches_restarted_in_the_list-runs : IsRun None (reverse watches_restarted_in_the_list.run)
unfolding first_fault entry_of address_of spelled read_ipv4 read_octet read_number encode_with digits decode_pairs is_utf8 chars
watches_restarted_in_the_list-runs = (refl, (refl, ((refl, refl), (refl, (refl, ((refl, refl), (refl, (refl, (refl, (refl, (refl, (refl, (refl, (refl, tt))))))))))))))

watches_restarted_in_the_list-may : AreMoves watches_restarted_in_the_list.moves (begun None watches_restarted_in_the_list.store watches_restarted_in_the_list.list) []
unfolding first_fault entry_of address_of spelled read_ipv4 read_octet read_number encode_with digits decode_pairs is_utf8 chars
watches_restarted_in_the_list-may = (inl refl, (tt, ((λ has. absurd (true≢false (sym has))), (tt, ((_, refl, (_ ∷ [], [], refl, ([], [], refl, refl))), (tt, (tt, (tt, (inl refl, (inl refl, (tt, (tt, (tt, (tt, tt))))))))))))))

watches_restarted_in_the_list-same : acts_of (run_along watches_restarted_in_the_list.moves (begun None watches_restarted_in_the_list.store watches_restarted_in_the_list.list) []) ≡ acts_of (answered (reverse watches_restarted_in_the_list.run))
unfolding first_fault entry_of address_of spelled read_ipv4 read_octet read_number encode_with digits decode_pairs is_utf8 chars
watches_restarted_in_the_list-same = refl

watches_restarted_in_the_list-is : IsTrue watches_restarted_in_the_list
unfolding first_fault entry_of address_of spelled read_ipv4 read_octet read_number encode_with digits decode_pairs is_utf8 chars
watches_restarted_in_the_list-is = record {
  is_run = watches_restarted_in_the_list-runs;
  explained = record {
    good = good-store_of (objects.Pool pool ∷ objects.Service (service x bare) ∷ objects.Service (service y bare) ∷ []);
    listed = (_, refl, (_ ∷ [], [], refl, ([], [], refl, refl)));
    running = (tt, (tt, (tt, (tt, (tt, (tt, (tt, (tt, (tt, (tt, (tt, (tt, (tt, (tt, tt))))))))))))));
    may = watches_restarted_in_the_list-may;
    same = watches_restarted_in_the_list-same;
  };
}

created_anew-runs : IsRun None (reverse created_anew.run)
unfolding first_fault entry_of address_of spelled read_ipv4 read_octet read_number encode_with digits decode_pairs is_utf8 chars
created_anew-runs = (refl, (refl, ((refl, refl), (refl, (refl, (refl, ((refl, refl), (refl, (refl, (refl, (refl, tt)))))))))))

created_anew-may : AreMoves created_anew.moves (begun None created_anew.store created_anew.list) []
unfolding first_fault entry_of address_of spelled read_ipv4 read_octet read_number encode_with digits decode_pairs is_utf8 chars
created_anew-may = (inl refl, (inl refl, (tt, (tt, (tt, ((λ has. absurd (true≢false (sym has))), (tt, (tt, (tt, (tt, (tt, tt)))))))))))

created_anew-same : acts_of (run_along created_anew.moves (begun None created_anew.store created_anew.list) []) ≡ acts_of (answered (reverse created_anew.run))
unfolding first_fault entry_of address_of spelled read_ipv4 read_octet read_number encode_with digits decode_pairs is_utf8 chars
created_anew-same = refl

created_anew-is : IsTrue created_anew
unfolding first_fault entry_of address_of spelled read_ipv4 read_octet read_number encode_with digits decode_pairs is_utf8 chars
created_anew-is = record {
  is_run = created_anew-runs;
  explained = record {
    good = good-store_of (objects.Pool pool ∷ objects.Service (service x bare) ∷ []);
    listed = (_, refl, ([], [], refl, refl));
    running = (tt, (tt, (tt, (tt, (tt, (tt, (tt, (tt, (tt, (tt, (tt, tt)))))))))));
    may = created_anew-may;
    same = created_anew-same;
  };
}

gone-runs : IsRun None (reverse gone.run)
unfolding first_fault entry_of address_of spelled read_ipv4 read_octet read_number encode_with digits decode_pairs is_utf8 chars
gone-runs = (refl, (refl, ((refl, refl), (refl, (refl, (refl, (refl, tt)))))))

gone-may : AreMoves gone.moves (begun None gone.store gone.list) []
unfolding first_fault entry_of address_of spelled read_ipv4 read_octet read_number encode_with digits decode_pairs is_utf8 chars
gone-may = (inl refl, (inl refl, (tt, (tt, (tt, (tt, (tt, tt)))))))

gone-same : acts_of (run_along gone.moves (begun None gone.store gone.list) []) ≡ acts_of (answered (reverse gone.run))
unfolding first_fault entry_of address_of spelled read_ipv4 read_octet read_number encode_with digits decode_pairs is_utf8 chars
gone-same = refl

gone-is : IsTrue gone
unfolding first_fault entry_of address_of spelled read_ipv4 read_octet read_number encode_with digits decode_pairs is_utf8 chars
gone-is = record {
  is_run = gone-runs;
  explained = record {
    good = good-store_of (objects.Pool pool ∷ objects.Service (service x bare) ∷ []);
    listed = (_, refl, ([], [], refl, refl));
    running = (tt, (tt, (tt, (tt, (tt, (tt, (tt, tt)))))));
    may = gone-may;
    same = gone-same;
  };
}

emptied-runs : IsRun None (reverse emptied.run)
unfolding first_fault entry_of address_of spelled read_ipv4 read_octet read_number encode_with digits decode_pairs is_utf8 chars
emptied-runs = (refl, (refl, ((refl, refl), (refl, (refl, (refl, ((refl, refl), (refl, (refl, (refl, (refl, tt)))))))))))

emptied-may : AreMoves emptied.moves (begun None emptied.store emptied.list) []
unfolding first_fault entry_of address_of spelled read_ipv4 read_octet read_number encode_with digits decode_pairs is_utf8 chars
emptied-may = (inl refl, (inl refl, (tt, (tt, (tt, (tt, ((λ has. absurd (true≢false (sym has))), (tt, (tt, (tt, tt))))))))))

emptied-same : acts_of (run_along emptied.moves (begun None emptied.store emptied.list) []) ≡ acts_of (answered (reverse emptied.run))
unfolding first_fault entry_of address_of spelled read_ipv4 read_octet read_number encode_with digits decode_pairs is_utf8 chars
emptied-same = refl

emptied-is : IsTrue emptied
unfolding first_fault entry_of address_of spelled read_ipv4 read_octet read_number encode_with digits decode_pairs is_utf8 chars
emptied-is = record {
  is_run = emptied-runs;
  explained = record {
    good = good-store_of (objects.Pool pool ∷ objects.Service (service x bare) ∷ []);
    listed = (_, refl, ([], [], refl, refl));
    running = (tt, (tt, (tt, (tt, (tt, (tt, (tt, (tt, (tt, (tt, tt))))))))));
    may = emptied-may;
    same = emptied-same;
  };
}

lost_and_applied-runs : IsRun None (reverse lost_and_applied.run)
unfolding first_fault entry_of address_of spelled read_ipv4 read_octet read_number encode_with digits decode_pairs is_utf8 chars
lost_and_applied-runs = ((refl, refl), (refl, (refl, ((refl, refl), (refl, ((refl, refl), (refl, (refl, (refl, (refl, tt))))))))))

lost_and_applied-may : AreMoves lost_and_applied.moves (begun None lost_and_applied.store lost_and_applied.list) []
unfolding first_fault entry_of address_of spelled read_ipv4 read_octet read_number encode_with digits decode_pairs is_utf8 chars
lost_and_applied-may = (inl refl, (inl refl, (tt, (tt, (tt, (tt, (tt, (tt, tt))))))))

lost_and_applied-same : acts_of (run_along lost_and_applied.moves (begun None lost_and_applied.store lost_and_applied.list) []) ≡ acts_of (answered (reverse lost_and_applied.run))
unfolding first_fault entry_of address_of spelled read_ipv4 read_octet read_number encode_with digits decode_pairs is_utf8 chars
lost_and_applied-same = refl

lost_and_applied-is : IsTrue lost_and_applied
unfolding first_fault entry_of address_of spelled read_ipv4 read_octet read_number encode_with digits decode_pairs is_utf8 chars
lost_and_applied-is = record {
  is_run = lost_and_applied-runs;
  explained = record {
    good = good-store_of (objects.Pool pool ∷ objects.Service (service x bare) ∷ []);
    listed = (_, refl, ([], [], refl, refl));
    running = (tt, (tt, (tt, (tt, (tt, (tt, (tt, (tt, tt))))))));
    may = lost_and_applied-may;
    same = lost_and_applied-same;
  };
}

lost_on_the_way-runs : IsRun None (reverse lost_on_the_way.run)
unfolding first_fault entry_of address_of spelled read_ipv4 read_octet read_number encode_with digits decode_pairs is_utf8 chars
lost_on_the_way-runs = (refl, (refl, ((refl, refl), (refl, ((refl, refl), (refl, (refl, (refl, (refl, tt)))))))))

lost_on_the_way-may : AreMoves lost_on_the_way.moves (begun None lost_on_the_way.store lost_on_the_way.list) []
unfolding first_fault entry_of address_of spelled read_ipv4 read_octet read_number encode_with digits decode_pairs is_utf8 chars
lost_on_the_way-may = (inl refl, (inl refl, (tt, (tt, (tt, (tt, (tt, tt)))))))

lost_on_the_way-same : acts_of (run_along lost_on_the_way.moves (begun None lost_on_the_way.store lost_on_the_way.list) []) ≡ acts_of (answered (reverse lost_on_the_way.run))
unfolding first_fault entry_of address_of spelled read_ipv4 read_octet read_number encode_with digits decode_pairs is_utf8 chars
lost_on_the_way-same = refl

lost_on_the_way-is : IsTrue lost_on_the_way
unfolding first_fault entry_of address_of spelled read_ipv4 read_octet read_number encode_with digits decode_pairs is_utf8 chars
lost_on_the_way-is = record {
  is_run = lost_on_the_way-runs;
  explained = record {
    good = good-store_of (objects.Pool pool ∷ objects.Service (service x bare) ∷ []);
    listed = (_, refl, ([], [], refl, refl));
    running = (tt, (tt, (tt, (tt, (tt, (tt, (tt, tt)))))));
    may = lost_on_the_way-may;
    same = lost_on_the_way-same;
  };
}

refused-runs : IsRun None (reverse refused.run)
unfolding first_fault entry_of address_of spelled read_ipv4 read_octet read_number encode_with digits decode_pairs is_utf8 chars
refused-runs = (refl, (refl, ((refl, refl), (refl, (refl, ((refl, refl), (refl, (refl, (refl, (refl, tt))))))))))

refused-may : AreMoves refused.moves (begun None refused.store refused.list) []
unfolding first_fault entry_of address_of spelled read_ipv4 read_octet read_number encode_with digits decode_pairs is_utf8 chars
refused-may = (inl refl, (inl refl, (tt, (tt, (tt, ((λ has. absurd (true≢false (sym has))), (tt, (tt, (tt, tt)))))))))

refused-same : acts_of (run_along refused.moves (begun None refused.store refused.list) []) ≡ acts_of (answered (reverse refused.run))
unfolding first_fault entry_of address_of spelled read_ipv4 read_octet read_number encode_with digits decode_pairs is_utf8 chars
refused-same = refl

refused-is : IsTrue refused
unfolding first_fault entry_of address_of spelled read_ipv4 read_octet read_number encode_with digits decode_pairs is_utf8 chars
refused-is = record {
  is_run = refused-runs;
  explained = record {
    good = good-store_of (objects.Pool pool ∷ objects.Service (service x bare) ∷ []);
    listed = (_, refl, ([], [], refl, refl));
    running = (tt, (tt, (tt, (tt, (tt, (tt, (tt, (tt, (tt, tt)))))))));
    may = refused-may;
    same = refused-same;
  };
}

adopted-runs : IsRun None (reverse adopted.run)
unfolding first_fault entry_of address_of spelled read_ipv4 read_octet read_number encode_with digits decode_pairs is_utf8 chars
adopted-runs = (refl, (refl, (refl, ((refl, refl), (refl, ((refl, refl), (refl, (refl, (refl, (refl, (refl, tt)))))))))))

adopted-may : AreMoves adopted.moves (begun None adopted.store adopted.list) []
unfolding first_fault entry_of address_of spelled read_ipv4 read_octet read_number encode_with digits decode_pairs is_utf8 chars
adopted-may = (inl refl, (inl refl, (tt, (tt, (tt, (tt, (tt, (tt, (tt, tt)))))))))

adopted-same : acts_of (run_along adopted.moves (begun None adopted.store adopted.list) []) ≡ acts_of (answered (reverse adopted.run))
unfolding first_fault entry_of address_of spelled read_ipv4 read_octet read_number encode_with digits decode_pairs is_utf8 chars
adopted-same = refl

adopted-is : IsTrue adopted
unfolding first_fault entry_of address_of spelled read_ipv4 read_octet read_number encode_with digits decode_pairs is_utf8 chars
adopted-is = record {
  is_run = adopted-runs;
  explained = record {
    good = good-records (objects.Pool pool ∷ objects.Service (service x (unmarked first)) ∷ objects.Service (service y bare) ∷ []) (refl, (refl, (refl, tt)));
    listed = (_, refl, (_ ∷ [], [], refl, ([], [], refl, refl)));
    running = (tt, (tt, (tt, (tt, (tt, (tt, (tt, (tt, (tt, tt)))))))));
    may = adopted-may;
    same = adopted-same;
  };
}

one_watch_expired-runs : IsRun None (reverse one_watch_expired.run)
unfolding first_fault entry_of address_of spelled read_ipv4 read_octet read_number encode_with digits decode_pairs is_utf8 chars
one_watch_expired-runs = ((refl, refl), (refl, (refl, (refl, (refl, ((refl, refl), (refl, (refl, (refl, (refl, tt))))))))))

one_watch_expired-may : AreMoves one_watch_expired.moves (begun None one_watch_expired.store one_watch_expired.list) []
unfolding first_fault entry_of address_of spelled read_ipv4 read_octet read_number encode_with digits decode_pairs is_utf8 chars
one_watch_expired-may = (inl refl, (inl refl, (tt, (tt, (tt, ((_, refl, ([], [], refl, refl)), (tt, (tt, (tt, tt)))))))))

one_watch_expired-same : acts_of (run_along one_watch_expired.moves (begun None one_watch_expired.store one_watch_expired.list) []) ≡ acts_of (answered (reverse one_watch_expired.run))
unfolding first_fault entry_of address_of spelled read_ipv4 read_octet read_number encode_with digits decode_pairs is_utf8 chars
one_watch_expired-same = refl

one_watch_expired-is : IsTrue one_watch_expired
unfolding first_fault entry_of address_of spelled read_ipv4 read_octet read_number encode_with digits decode_pairs is_utf8 chars
one_watch_expired-is = record {
  is_run = one_watch_expired-runs;
  explained = record {
    good = good-store_of (objects.Pool pool ∷ objects.Service (service x bare) ∷ []);
    listed = (_, refl, ([], [], refl, refl));
    running = (tt, (tt, (tt, (tt, (tt, (tt, (tt, (tt, (tt, tt)))))))));
    may = one_watch_expired-may;
    same = one_watch_expired-same;
  };
}

config_late_and_twice-runs : IsRun None (reverse config_late_and_twice.run)
unfolding first_fault entry_of address_of spelled read_ipv4 read_octet read_number encode_with digits decode_pairs is_utf8 chars
config_late_and_twice-runs = ((refl, refl), (refl, (refl, (refl, ((refl, refl), (refl, (refl, (refl, (refl, (refl, tt))))))))))

config_late_and_twice-may : AreMoves config_late_and_twice.moves (begun None config_late_and_twice.store config_late_and_twice.list) []
unfolding first_fault entry_of address_of spelled read_ipv4 read_octet read_number encode_with digits decode_pairs is_utf8 chars
config_late_and_twice-may = (tt, (tt, ((λ has. absurd (true≢false (sym has))), (inl refl, (inl refl, (inl refl, (tt, (tt, (inl refl, (tt, tt))))))))))

config_late_and_twice-same : acts_of (run_along config_late_and_twice.moves (begun None config_late_and_twice.store config_late_and_twice.list) []) ≡ acts_of (answered (reverse config_late_and_twice.run))
unfolding first_fault entry_of address_of spelled read_ipv4 read_octet read_number encode_with digits decode_pairs is_utf8 chars
config_late_and_twice-same = refl

config_late_and_twice-is : IsTrue config_late_and_twice
unfolding first_fault entry_of address_of spelled read_ipv4 read_octet read_number encode_with digits decode_pairs is_utf8 chars
config_late_and_twice-is = record {
  is_run = config_late_and_twice-runs;
  explained = record {
    good = good-store_of (objects.Pool pool ∷ objects.Service (service x bare) ∷ []);
    listed = (_, refl, ([], [], refl, refl));
    running = (tt, (tt, (tt, (tt, (tt, (tt, (tt, (tt, (tt, (tt, tt))))))))));
    may = config_late_and_twice-may;
    same = config_late_and_twice-same;
  };
}

edited_within_the_list-runs : IsRun None (reverse edited_within_the_list.run)
unfolding first_fault entry_of address_of spelled read_ipv4 read_octet read_number encode_with digits decode_pairs is_utf8 chars
edited_within_the_list-runs = (refl, ((refl, refl), (refl, ((refl, refl), (refl, (refl, (refl, (refl, (refl, (refl, tt))))))))))

edited_within_the_list-may : AreMoves edited_within_the_list.moves (begun None edited_within_the_list.store edited_within_the_list.list) []
unfolding first_fault entry_of address_of spelled read_ipv4 read_octet read_number encode_with digits decode_pairs is_utf8 chars
edited_within_the_list-may = (inl refl, (inl refl, ((λ has. absurd (true≢false (sym has))), (refl, ((λ has. absurd (true≢false (sym has))), (refl, (tt, (tt, (tt, (tt, (tt, (tt, tt))))))))))))

edited_within_the_list-same : acts_of (run_along edited_within_the_list.moves (begun None edited_within_the_list.store edited_within_the_list.list) []) ≡ acts_of (answered (reverse edited_within_the_list.run))
unfolding first_fault entry_of address_of spelled read_ipv4 read_octet read_number encode_with digits decode_pairs is_utf8 chars
edited_within_the_list-same = refl

edited_within_the_list-is : IsTrue edited_within_the_list
unfolding first_fault entry_of address_of spelled read_ipv4 read_octet read_number encode_with digits decode_pairs is_utf8 chars
edited_within_the_list-is = record {
  is_run = edited_within_the_list-runs;
  explained = record {
    good = good-store_of (objects.Pool pool ∷ objects.Service (service x bare) ∷ []);
    listed = (_, refl, ([], [], refl, refl));
    running = (tt, (tt, (tt, (tt, (tt, (tt, (tt, (tt, (tt, (tt, (tt, (tt, tt))))))))))));
    may = edited_within_the_list-may;
    same = edited_within_the_list-same;
  };
}

beside_another-runs : IsRun None (reverse beside_another.run)
unfolding first_fault entry_of address_of spelled read_ipv4 read_octet read_number encode_with digits decode_pairs is_utf8 chars
beside_another-runs = (refl, ((refl, refl), (refl, ((refl, refl), (refl, (refl, (refl, ((refl, refl), (refl, (refl, (refl, (refl, tt))))))))))))

beside_another-may : AreMoves beside_another.moves (begun None beside_another.store beside_another.list) []
unfolding first_fault entry_of address_of spelled read_ipv4 read_octet read_number encode_with digits decode_pairs is_utf8 chars
beside_another-may = (inl refl, (inl refl, (tt, (tt, (tt, (tt, ((λ has. absurd (true≢false (sym has))), (tt, (tt, ((λ has. absurd (true≢false (sym has))), (tt, (tt, tt))))))))))))

beside_another-same : acts_of (run_along beside_another.moves (begun None beside_another.store beside_another.list) []) ≡ acts_of (answered (reverse beside_another.run))
unfolding first_fault entry_of address_of spelled read_ipv4 read_octet read_number encode_with digits decode_pairs is_utf8 chars
beside_another-same = refl

beside_another-is : IsTrue beside_another
unfolding first_fault entry_of address_of spelled read_ipv4 read_octet read_number encode_with digits decode_pairs is_utf8 chars
beside_another-is = record {
  is_run = beside_another-runs;
  explained = record {
    good = good-store_of (objects.Pool pool ∷ objects.Service (service x bare) ∷ []);
    listed = (_, refl, ([], [], refl, refl));
    running = (tt, (tt, (tt, (tt, (tt, (tt, (tt, (tt, (tt, (tt, (tt, (tt, tt))))))))))));
    may = beside_another-may;
    same = beside_another-same;
  };
}

landed_late-runs : IsRun None (reverse landed_late.run)
unfolding first_fault entry_of address_of spelled read_ipv4 read_octet read_number encode_with digits decode_pairs is_utf8 chars
landed_late-runs = ((refl, refl), (refl, (refl, ((refl, refl), (refl, ((refl, refl), (refl, (refl, ((refl, refl), (refl, (refl, (refl, (refl, tt)))))))))))))

landed_late-may : AreMoves landed_late.moves (begun None landed_late.store landed_late.list) []
unfolding first_fault entry_of address_of spelled read_ipv4 read_octet read_number encode_with digits decode_pairs is_utf8 chars
landed_late-may = (inl refl, (inl refl, (tt, (tt, (tt, ((λ has. absurd (true≢false (sym has))), (tt, (contains-first _ [], (tt, (tt, (tt, (tt, tt))))))))))))

landed_late-same : acts_of (run_along landed_late.moves (begun None landed_late.store landed_late.list) []) ≡ acts_of (answered (reverse landed_late.run))
unfolding first_fault entry_of address_of spelled read_ipv4 read_octet read_number encode_with digits decode_pairs is_utf8 chars
landed_late-same = refl

landed_late-is : IsTrue landed_late
unfolding first_fault entry_of address_of spelled read_ipv4 read_octet read_number encode_with digits decode_pairs is_utf8 chars
landed_late-is = record {
  is_run = landed_late-runs;
  explained = record {
    good = good-store_of (objects.Pool pool ∷ objects.Service (service x bare) ∷ []);
    listed = (_, refl, ([], [], refl, refl));
    running = (tt, (tt, (tt, (tt, (tt, (tt, (tt, (tt, (tt, (tt, (tt, (tt, tt))))))))))));
    may = landed_late-may;
    same = landed_late-same;
  };
}

pub histories_are_explained : HistoriesAreExplained
histories_are_explained = (in_namespace_order-is, (watches_restarted_in_the_list-is, (created_anew-is, (gone-is, (emptied-is, (lost_and_applied-is, (lost_on_the_way-is, (refused-is, (adopted-is, (one_watch_expired-is, (config_late_and_twice-is, (edited_within_the_list-is, (beside_another-is, (landed_late-is, tt))))))))))))))
