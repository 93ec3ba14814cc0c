-- Each history is seen: what computes is computed.
use Rattle.std.proofs.Common.{◌≡◌, [], ◌∷◌, refl, sym}
use Rattle.std.proofs.lemmas.Bool.{true≢false}
use Rattle.hex.specs.Hex.{encode_with, decode_pairs}
use Rattle.core.specs.Fmt.{digits}
use Rattle.core.specs.Str.{is_utf8, chars}
use Rattle.mlb_base.proofs.Among.{contains-first}
use Rattle.kube_model.specs.declared.object.Object.TheVariants as objects
use Rattle.sharing_terms.specs.declared.terms.Terms.{Terms}
use Rattle.sharing_terms.specs.Marked.{IsMarkOf}
use Rattle.sharing_terms.specs.Marks.{mark_of}
use Rattle.world_rules.proofs.Storing.{good-store_of}
use Rattle.history_laws.specs.Objects.{pool, first, x, y, z, service, bare, unmarked}
use Rattle.history_laws.specs.Histories.{in_namespace_order, watches_restarted_in_the_list, created_anew, gone, emptied, lost_and_applied, lost_on_the_way, refused, adopted, one_watch_expired, config_late_and_twice, edited_within_the_list, beside_another, landed_late}
use Rattle.history_laws.specs.Seen.{IsSeen, HistoriesAreSeen}
use Rattle.history_laws.specs.Seen.{in_namespace_order_seen, watches_restarted_in_the_list_seen, created_anew_seen, gone_seen, emptied_seen, lost_and_applied_seen, lost_on_the_way_seen, refused_seen, adopted_seen, one_watch_expired_seen, config_late_and_twice_seen, edited_within_the_list_seen, beside_another_seen, landed_late_seen}
use Rattle.history_laws.proofs.Stores.{good-records}

-- the empty text is the mark of no terms
none-marked : (terms : Terms) → IsMarkOf terms [] → ⊥
none-marked terms marked = let none : mark_of terms ≡ [] = marked.mark in absurd (cc)

in_namespace_order-is : IsSeen in_namespace_order in_namespace_order_seen
unfolding encode_with digits decode_pairs is_utf8 chars
in_namespace_order-is = record {
  good = good-store_of (objects.Pool pool ∷ objects.Service (service y bare) ∷ objects.Service (service x bare) ∷ objects.Service (service z bare) ∷ []);
  listed = (_, refl, (_ ∷ [], _ ∷ [], refl, (_ ∷ [], [], refl, ([], [], refl, refl))));
  may = (tt, (tt, (tt, (tt, (tt, (tt, (tt, (refl, (tt, (refl, tt))))))))));
  same = refl;
}

watches_restarted_in_the_list-is : IsSeen watches_restarted_in_the_list watches_restarted_in_the_list_seen
unfolding encode_with digits decode_pairs is_utf8 chars
watches_restarted_in_the_list-is = record {
  good = good-store_of (objects.Pool pool ∷ objects.Service (service x bare) ∷ objects.Service (service y bare) ∷ []);
  listed = (_, refl, (_ ∷ [], [], refl, ([], [], refl, refl)));
  may = (tt, (tt, (tt, (tt, (refl, (refl, (tt, (tt, (tt, ((_, refl, (_ ∷ [], [], refl, ([], [], refl, refl))), (tt, ((λ has terms marked. absurd (true≢false (sym has))), (tt, (refl, tt))))))))))))));
  same = refl;
}

created_anew-is : IsSeen created_anew created_anew_seen
unfolding encode_with digits decode_pairs is_utf8 chars
created_anew-is = record {
  good = good-store_of (objects.Pool pool ∷ objects.Service (service x bare) ∷ []);
  listed = (_, refl, ([], [], refl, refl));
  may = (tt, (tt, (tt, (tt, (tt, ((λ has terms marked. absurd (true≢false (sym has))), (tt, (tt, (tt, (refl, (refl, tt)))))))))));
  same = refl;
}

gone-is : IsSeen gone gone_seen
unfolding encode_with digits decode_pairs is_utf8 chars
gone-is = record {
  good = good-store_of (objects.Pool pool ∷ objects.Service (service x bare) ∷ []);
  listed = (_, refl, ([], [], refl, refl));
  may = (tt, (tt, (tt, (tt, (tt, (refl, (refl, tt)))))));
  same = refl;
}

emptied-is : IsSeen emptied emptied_seen
unfolding encode_with digits decode_pairs is_utf8 chars
emptied-is = record {
  good = good-store_of (objects.Pool pool ∷ objects.Service (service x bare) ∷ []);
  listed = (_, refl, ([], [], refl, refl));
  may = (tt, (tt, (tt, ((λ has terms marked. absurd (true≢false (sym has))), (tt, (tt, (tt, (tt, (refl, (refl, tt))))))))));
  same = refl;
}

lost_and_applied-is : IsSeen lost_and_applied lost_and_applied_seen
unfolding encode_with digits decode_pairs is_utf8 chars
lost_and_applied-is = record {
  good = good-store_of (objects.Pool pool ∷ objects.Service (service x bare) ∷ []);
  listed = (_, refl, ([], [], refl, refl));
  may = (tt, (tt, (tt, (tt, (tt, (refl, (refl, tt)))))));
  same = refl;
}

lost_on_the_way-is : IsSeen lost_on_the_way lost_on_the_way_seen
unfolding encode_with digits decode_pairs is_utf8 chars
lost_on_the_way-is = record {
  good = good-store_of (objects.Pool pool ∷ objects.Service (service x bare) ∷ []);
  listed = (_, refl, ([], [], refl, refl));
  may = (tt, (tt, (tt, (tt, (tt, (refl, (refl, tt)))))));
  same = refl;
}

refused-is : IsSeen refused refused_seen
unfolding encode_with digits decode_pairs is_utf8 chars
refused-is = record {
  good = good-store_of (objects.Pool pool ∷ objects.Service (service x bare) ∷ []);
  listed = (_, refl, ([], [], refl, refl));
  may = (tt, (tt, (tt, ((λ has terms marked. absurd (true≢false (sym has))), (tt, (tt, (tt, (refl, (refl, tt)))))))));
  same = refl;
}

adopted-is : IsSeen adopted adopted_seen
unfolding encode_with digits decode_pairs is_utf8 chars
adopted-is = record {
  good = good-records (objects.Pool pool ∷ objects.Service (service x (unmarked first)) ∷ objects.Service (service y bare) ∷ []) (refl, (refl, (refl, tt)));
  listed = (_, refl, (_ ∷ [], [], refl, ([], [], refl, refl)));
  may = (tt, (tt, (tt, (tt, (tt, (tt, (tt, (refl, (refl, tt)))))))));
  same = refl;
}

one_watch_expired-is : IsSeen one_watch_expired one_watch_expired_seen
unfolding encode_with digits decode_pairs is_utf8 chars
one_watch_expired-is = record {
  good = good-store_of (objects.Pool pool ∷ objects.Service (service x bare) ∷ []);
  listed = (_, refl, ([], [], refl, refl));
  may = (tt, (tt, ((_, refl, ([], [], refl, refl)), (tt, (tt, (tt, (refl, (refl, tt))))))));
  same = refl;
}

config_late_and_twice-is : IsSeen config_late_and_twice config_late_and_twice_seen
unfolding encode_with digits decode_pairs is_utf8 chars
config_late_and_twice-is = record {
  good = good-store_of (objects.Pool pool ∷ objects.Service (service x bare) ∷ []);
  listed = (_, refl, ([], [], refl, refl));
  may = (refl, (tt, (tt, (refl, (refl, (refl, ((λ has terms marked. absurd (true≢false (sym has))), (tt, (tt, tt)))))))));
  same = refl;
}

edited_within_the_list-is : IsSeen edited_within_the_list edited_within_the_list_seen
unfolding encode_with digits decode_pairs is_utf8 chars
edited_within_the_list-is = record {
  good = good-store_of (objects.Pool pool ∷ objects.Service (service x bare) ∷ []);
  listed = (_, refl, ([], [], refl, refl));
  may = (tt, (tt, (tt, (tt, (tt, (tt, (refl, ((λ has terms marked. absurd (true≢false (sym has))), (refl, ((λ has terms marked. absurd (true≢false (sym has))), (refl, (refl, tt))))))))))));
  same = refl;
}

beside_another-is : IsSeen beside_another beside_another_seen
unfolding encode_with digits decode_pairs is_utf8 chars
beside_another-is = record {
  good = good-store_of (objects.Pool pool ∷ objects.Service (service x bare) ∷ []);
  listed = (_, refl, ([], [], refl, refl));
  may = (tt, (tt, ((λ has terms marked. absurd (none-marked terms marked)), (tt, ((λ has terms marked. absurd (none-marked terms marked)), (tt, (tt, (tt, (tt, (refl, (refl, tt)))))))))));
  same = refl;
}

landed_late-is : IsSeen landed_late landed_late_seen
unfolding encode_with digits decode_pairs is_utf8 chars
landed_late-is = record {
  good = good-store_of (objects.Pool pool ∷ objects.Service (service x bare) ∷ []);
  listed = (_, refl, ([], [], refl, refl));
  may = (tt, (tt, (tt, (contains-first _ [], (tt, ((λ has terms marked. absurd (true≢false (sym has))), (tt, (tt, (tt, (refl, (refl, tt)))))))))));
  same = refl;
}

pub histories_are_seen : HistoriesAreSeen
histories_are_seen = (in_namespace_order-is, watches_restarted_in_the_list-is, created_anew-is, gone-is, emptied-is, lost_and_applied-is, lost_on_the_way-is, refused-is, adopted-is, one_watch_expired-is, config_late_and_twice-is, edited_within_the_list-is, beside_another-is, landed_late-is)
