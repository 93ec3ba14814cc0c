-- Settled services go on meeting their rows.
use Rattle.std.proofs.Common.{◌≡◌, ℕ, Bool, true, false, cond, not, ◌&&◌, ◌||◌, List, [], ◌∷◌, Option, Some, None, is_some, refl, sym, ap, subst, ◌∙◌}
use Rattle.std.proofs.lemmas.Bool.{true≢false}
use Rattle.kube_model.specs.declared.key.Key.{Key}
use Rattle.kube_model.specs.declared.put.Put.{Put}
use Rattle.kube_model.specs.declared.reason.Reason.{Reason}
use Rattle.kube_model.specs.declared.service.Service.{Service}
use Rattle.kube_model.specs.Service.{is_handled, same_class}
use Rattle.versioned_map.specs.declared.map.Versioned.{Versioned}
use Rattle.versioned_map.specs.Objects.{object_at, version_at}
use Rattle.object_history.specs.Cache.{Cached}
use Rattle.kube_model.specs.Keys.{key_cmp, same_key, has_key}
use Rattle.object_cache.specs.Stays.{passing}
use Rattle.alloc_book.specs.declared.choice.Choice.TheVariants.{Pending}
use Rattle.alloc_book.specs.Asking.{Offer}
use Rattle.alloc_book.specs.Chosen.{IsChosen}
use Rattle.claim_index.specs.Claims.{holders, Holders}
use Rattle.kube_model.specs.declared.record.Record.{Record}
use Rattle.kube_model.specs.Records.{empty_record, same_record}
use Rattle.kube_model.proofs.RecordLaws.{same_record-is}
use Rattle.mlb_base.proofs.CaseLaws.{case-has, fails}
use Rattle.alloc_book.proofs.ChooseLaws.{choose-is}
use Rattle.kube_model.proofs.KeyLaws.{same_key-is}
use Rattle.core_rules.specs.declared.turn.Turn.TheVariants.{NoPut, Wants}
use Rattle.core_rules.specs.Core.{State, is_ready, service_of, offer_in, has_other, is_settled, waits}
use Rattle.core_rules.specs.Turn.{wanted_record, reason_in, chosen_at, turn_at, turn_of, rest_of, put_in, after_turn}
use Rattle.core_laws.specs.Quiet.{MeetsRow, is_put_of, IsQuiet}
use Rattle.core_laws.proofs.Classes.{same_class-is}
use Rattle.core_laws.proofs.Kept.{kept_at, kept-same}
use Rattle.core_laws.proofs.Rows.{passing-has, handled-by}

-- ---- settled
settled-by : (r f q a : Bool) → (r && f && (not q && not a)) ≡ true → (r ≡ true) × (q ≡ false) × (a ≡ false)
settled-by true true false false e = (refl, refl, refl)
settled-by true true false true e = absurd (cc)
settled-by true true true a e = absurd (cc)
settled-by true false q a e = absurd (cc)
settled-by false f q a e = absurd (cc)

pub settled-parts : (s : State) (key : Key) → is_settled s key ≡ true
    → (is_ready s.held ≡ true) × (has_key s.queue key ≡ false) × (has_key s.awaiting key ≡ false)
settled-parts s key e = settled-by (is_ready s.held) (is_some (service_of s.held key)) (has_key s.queue key) (has_key s.awaiting key) e

pub settled-from : (s : State) (key : Key) (service : Service) → is_ready s.held ≡ true → service_of s.held key ≡ Some service → has_key s.queue key ≡ false
    → has_key s.awaiting key ≡ false → is_settled s key ≡ true
settled-from s key service r found q a = rw (r, found, q, a) refl

-- ---- a turn
-- what is chosen now, and held
chosen-row : (s : State) (service : Service) → same_record (wanted_record service.holding (chosen_at s service)) service.holding ≡ true
    → MeetsRow s.class (offer_in s.held) (holders s.claims) service
chosen-row s service same =
    let chosen : IsChosen (holders s.claims) (offer_in s.held service) s.class service (chosen_at s service) =
    choose-is s.claims (offer_in s.held service) s.class service (chosen_at s service) refl in
    record {
      before = service;
      only_record = refl;
      chosen_by = holders s.claims;
      choice = chosen_at s service;
      chosen = chosen;
      holding_is = sym (same_record-is (wanted_record service.holding (chosen_at s service)) service.holding same);
      pending_now = λ reason is. subst (IsChosen (holders s.claims) (offer_in s.held service) s.class service) is chosen;
    }

front-by : (b : Bool) (s : State) (key : Key) (service : Service) → b ≡ kept_at s service
    → same_key key key ≡ true
    → is_put_of (put_in (cond b (NoPut key (reason_in (chosen_at s service))) (Wants (record {
      key = key;
      version = version_at key_cmp s.held.services key;
      holding = wanted_record service.holding (chosen_at s service);
    }) (reason_in (chosen_at s service))))) key ≡ false
    → MeetsRow s.class (offer_in s.held) (holders s.claims) service
front-by true s key service b own out = chosen-row s service (kept-same service.holding (has_other service s.claims) (chosen_at s service) (sym b))
front-by false s key service b own out = absurd (true≢false (sym own ∙ out))

front-found : (found : Option Service) (s : State) (key : Key) (service : Service) → found ≡ Some service → same_key key key ≡ true
    → is_put_of (put_in (turn_at s key found)) key ≡ false → MeetsRow s.class (offer_in s.held) (holders s.claims) service
front-found None s key service f own out = absurd (cc)
front-found (Some other) s key service f own out =
    let is : other ≡ service = cc in
    subst (λ (x : Service). MeetsRow s.class (offer_in s.held) (holders s.claims) x) is
    (front-by (kept_at s other) s key other refl own out)

turned-by : (b : Bool) (s : State) (k : Key) (ks : List Key) (key : Key) (service : Service) → b ≡ same_key k key
    → (has_key (k ∷ ks) key ≡ false → MeetsRow s.class (offer_in s.held) (holders s.claims) service)
    → service_of s.held key ≡ Some service → has_key ks key ≡ false → is_put_of (put_in (turn_at s k (service_of s.held k))) key ≡ false
    → MeetsRow s.class (offer_in s.held) (holders s.claims) service
turned-by true s k ks key service b quiet found q out =
    let is : k ≡ key = same_key-is k key (sym b) in
    let own : same_key key key ≡ true = subst (λ x. same_key x key ≡ true) is (sym b) in
    front-found (service_of s.held key) s key service found own (subst (λ x. is_put_of (put_in (turn_at s x (service_of s.held x))) key ≡ false) is out)
turned-by false s k ks key service b quiet found q out = quiet (ap (λ x. x || has_key ks key) (sym b) ∙ q)

turned-at : (queue : List Key) (s : State) (key : Key) (service : Service)
    → (has_key queue key ≡ false → MeetsRow s.class (offer_in s.held) (holders s.claims) service)
    → service_of s.held key ≡ Some service → has_key (rest_of queue) key ≡ false → is_put_of (put_in (turn_of s queue)) key ≡ false
    → MeetsRow s.class (offer_in s.held) (holders s.claims) service
turned-at [] s key service quiet found q out = quiet refl
turned-at (k ∷ ks) s key service quiet found q out = turned-by (same_key k key) s k ks key service refl quiet found q out

-- after a turn the settled services but that of the put meet their rows
pub turned-quiet : (s : State) → s.out ≡ None → IsQuiet s → IsQuiet (after_turn s)
turned-quiet s o quiet key service settled out found =
    let parts = settled-parts (after_turn s) key settled in
    turned-at s.queue s key service
    (λ q. quiet key service (settled-from s key service parts.0 found q parts.2) (ap (λ (p : Option Put). is_put_of p key) o) found)
    found parts.1 out

-- ---- what waits is queued where a claim is lost
-- a lost claim and a place that isn't taken can't be, where the service waits
pub waits-queued : (class : Option (List ℕ)) (told : Key → Bool) (queue awaiting : List Key) (services : List (Key × Versioned Service)) (key : Key)
    (service : Service)
    → object_at key_cmp services key ≡ Some service → told key ≡ false → has_key queue key ≡ false → has_key awaiting key ≡ false
    → is_handled class service ≡ true → same_record service.holding empty_record ≡ true
    → has_key (passing (waits class told queue awaiting) services) key ≡ true
waits-queued class told queue awaiting services key service found t q a handled empty =
    passing-has (waits class told queue awaiting) services key service found (rw (t, q, a, handled, empty) refl)

-- what is pending is handled
pub pending-handled : (has : Holders) (o : Offer) (class : Option (List ℕ)) (service : Service) (reason : Reason)
    → IsChosen has o class service (Pending reason) → is_handled class service ≡ true
pending-handled has o class service reason =
    case-has _ _ _ _ (λ _ is. absurd (cc)) (λ one.
    case-has _ _ _ _ (λ _ is. absurd (cc)) (λ two _.
    handled-by service.balancer (same_class class service.class) (λ b s. one (b, fails (same_class class service.class) (same_class-is class service.class) s))
    two))

-- a row that waits is one of a handled service with an empty record
pub row-handled : (class : Option (List ℕ)) (held : Cached) (has : Holders) (service : Service) (row : MeetsRow class (offer_in held) has service)
    (reason : Reason) → row.choice ≡ Pending reason → is_handled class service ≡ true
row-handled class held has service row reason is =
    ap (is_handled class) row.only_record ∙ pending-handled has (offer_in held row.before) class row.before reason (row.pending_now reason is)

pub row-empty : (class : Option (List ℕ)) (held : Cached) (has : Holders) (service : Service) (row : MeetsRow class (offer_in held) has service)
    (reason : Reason) → row.choice ≡ Pending reason → same_record service.holding empty_record ≡ true
row-empty class held has service row reason is = ap (λ (r : Record). same_record r empty_record) (row.holding_is ∙ ap (wanted_record row.before.holding) is)
