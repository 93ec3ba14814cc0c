-- What is sent, and carried out late, keeps what holds of a cluster.
use Rattle.std.proofs.Common.{◌≡◌, ◌≢◌, ◌⊎◌, inl, inr, ⊎_elim, ℕ, ◌+◌, ◌<◌, ◌≤◌, Bool, true, false, eqb, ◌&&◌, ◌∷◌, ◌++◌, Option, Some, None, []}
use Rattle.std.proofs.Common.{refl, sym, ap, subst, ◌∙◌, arith}
use Rattle.std.proofs.lemmas.Bool.{true≢false, and_from, and_parts, eqb-true}
use Rattle.std.specs.List.{Contains}
use Rattle.mlb_base.proofs.Among.{contains-cons}
use Rattle.kube_model.specs.Keys.{same_key}
use Rattle.kube_model.specs.declared.key.Key.{Key}
use Rattle.kube_model.specs.declared.put.Put.{Put}
use Rattle.kube_model.proofs.KeyLaws.{same_key-is, same_key-itself}
use Rattle.status_store.specs.declared.change.Outcome.TheVariants.{Delivered}
use Rattle.status_store.specs.Changes.{StoreValue, after_put, is_made}
use Rattle.status_store.proofs.ChangeLaws.{version-same}
use Rattle.core_rules.specs.Core.{State}
use Rattle.world_rules.specs.Moves.{Move, IsMove, after_move}
use Rattle.world_rules.specs.World.{next_put, shown_put, while_up}
use Rattle.fence_rules.specs.Cluster.{Lease, Ask, Phase, Free, Sent, Carried, Bridge, Cluster, Named, AreCovered, AreGone, IsEdit, IsGone, MaySend}
use Rattle.fence_rules.specs.Cluster.{Edits, Carries, Changes, Sends, after, carried, carried_out, edited_by, is_awaited, name_of, store_alone, with_bridge, world_of}
use Rattle.fence_rules.specs.Fenced.{IsOut, IsPending, IsKept, IsKnown, IsGoodIn, IsFenced}
use Rattle.fence_rules.proofs.Gone.{gone-all, gone-among, gone-edit, gone-put, gone-carried, gone-unmade}
use Rattle.fence_rules.proofs.Steps.{by-bridge, at-itself, is-down, wants-up, same-put, IsGoodAt, AreAsked, good-of, store-of, past-asking, is-active}
use Rattle.fence_rules.proofs.Worlds.{edit-core, good-edit, good-carried, good-landed}

-- ---- a put is sent
module _ (c : Cluster) (f : IsFenced c) (i : ℕ) (put : Put) (may : MaySend i put c.store (c.bridges i)) where
  abbrev b : Bridge
  b = c.bridges i

  abbrev next : Bridge
  next = record b { phase = Sent }

  up : b.core ≢ None
  up = wants-up b.core put may.wants

  covered : IsGone c.store (name_of put) ⊎ ((i ≡ f.active) × Contains c.lease.named (name_of put))
  covered =
      ⊎_elim (λ g. inl (gone-among c.store b.seen.named (name_of put) g may.named))
      (λ (o : (i ≡ f.active) × (b.seen.named ≡ c.lease.named)). inr (o.0, subst (λ (named : Named). Contains named (name_of put)) o.1 may.named))
      ((f.each i).seen.may_send up may.quiet may.own)

  was-free : (other : Put) → IsOut b other → ⊥
  was-free other out = let e : Free ≡ Sent = sym may.free ∙ out.sent in absurd (cc)

  sent-kept : IsKept c.store c.lease f.active i next
  sent-kept =
      let k = f.each i in
      record {
        seen = (let n = k.seen in record { past = n.past; same = n.same; own = n.own; may_send = n.may_send });
        given = (let n = k.given in record { past = n.past; same = n.same; own = n.own; may_send = n.may_send });
        below = k.below;
        single = k.single;
        fits = λ at. absurd (past-asking c f i may.quiet at);
        carried = λ version other is wants. (let e : Sent ≡ Carried version = is in absurd (cc));
        apart = λ own other out has same.
            may.unowed other has (same ∙ ap (λ (p : Put). p.key) (same-put b.core own put out.wants may.wants));
        none = k.none;
      }

  now-good : (j : ℕ) → j ≡ f.active → IsGoodAt c (with_bridge i next c.bridges j)
  now-good =
      by-bridge (λ j x. j ≡ f.active → IsGoodAt c x) i next c.bridges
      (λ e. subst (λ (phase : Phase). IsGoodIn phase c.class c.store b.lane b.core b.late) may.free (good-of c f i e)) (good-of c f)

  now-down : (c.bridges c.lease.holder).core ≡ None → (with_bridge i next c.bridges c.lease.holder).core ≡ None
  now-down none =
      by-bridge (λ j x. c.lease.holder ≡ j → x.core ≡ None) i next c.bridges (λ e. subst (λ (k : ℕ). (c.bridges k).core ≡ None) e none)
      (λ j e. subst (λ (k : ℕ). (c.bridges k).core ≡ None) e none) c.lease.holder refl

  now-out : i ≡ f.active → IsOut (with_bridge i next c.bridges f.active) put
  now-out e =
      subst (λ (k : ℕ). IsOut (with_bridge i next c.bridges k) put) e
      (subst (λ (x : Bridge). IsOut x put) (sym (at-itself i next c.bridges)) (record { sent = refl; wants = may.wants }))

  still-own : (other : Put) → IsPending b other → IsPending next other
  still-own other pending = ⊎_elim (λ (out : IsOut b other). absurd (was-free other out)) (λ (has : Contains b.late other). inr has) pending

  still-out : (other : Put) → IsPending (c.bridges f.active) other → IsPending (with_bridge i next c.bridges f.active) other
  still-out other out = by-bridge (λ j x. IsPending (c.bridges j) other → IsPending x other) i next c.bridges (still-own other) (λ j o. o) f.active out

  own-sent : (by : ℕ) (other : Put) → by ≡ i → other ≡ put
      → IsGone c.store (name_of other) ⊎ ((by ≡ f.active) × IsPending (with_bridge i next c.bridges f.active) other)
  own-sent by other e same =
      ⊎_elim (λ g. inl (subst (λ (p : Put). IsGone c.store (name_of p)) (sym same) g))
      (λ (o : (i ≡ f.active) × Contains c.lease.named (name_of put)).
      inr (e ∙ o.0, subst (IsPending (with_bridge i next c.bridges f.active)) (sym same) (inl (now-out o.0)))) covered

  all-sent : (by : ℕ) (other : Put) → Contains ((i, put) ∷ c.sent) (by, other)
      → IsGone c.store (name_of other) ⊎ ((by ≡ f.active) × IsPending (with_bridge i next c.bridges f.active) other)
  all-sent by other has =
      ⊎_elim (λ (e : (i, put) ≡ (by, other)). own-sent by other (sym (ap (λ (r : ℕ × Put). r.0) e)) (sym (ap (λ (r : ℕ × Put). r.1) e)))
      (λ earlier. ⊎_elim inl (λ (o : (by ≡ f.active) × IsPending (c.bridges f.active) other). inr (o.0, still-out other o.1)) (f.sent by other earlier))
      (contains-cons (i, put) c.sent (by, other) has)

  out-named : (other : Put) → (j : ℕ) → j ≡ f.active → IsPending (with_bridge i next c.bridges j) other
      → IsGone c.store (name_of other) ⊎ Contains c.lease.named (name_of other)
  out-named other =
      by-bridge (λ j x. j ≡ f.active → IsPending x other → IsGone c.store (name_of other) ⊎ Contains c.lease.named (name_of other)) i next c.bridges
      own-pending (λ j e out. f.out other (subst (λ (k : ℕ). IsPending (c.bridges k) other) e out))
    where
      own-named : put ≡ other → IsGone c.store (name_of other) ⊎ Contains c.lease.named (name_of other)
      own-named same =
          ⊎_elim (λ g. inl (subst (λ (p : Put). IsGone c.store (name_of p)) same g))
          (λ (o : (i ≡ f.active) × Contains c.lease.named (name_of put)). inr (subst (λ (p : Put). Contains c.lease.named (name_of p)) same o.1)) covered

      own-pending : i ≡ f.active → IsPending next other → IsGone c.store (name_of other) ⊎ Contains c.lease.named (name_of other)
      own-pending e pending =
          ⊎_elim (λ (out : IsOut next other). own-named (same-put b.core put other may.wants out.wants))
          (λ (has : Contains b.late other). f.out other (subst (λ (k : ℕ). IsPending (c.bridges k) other) e (inr has))) pending

  pub sends : IsFenced (after (Sends i put) c)
  sends = record {
    active = f.active;
    good = now-good f.active refl;
    each = by-bridge (λ j x. IsKept c.store c.lease f.active j x) i next c.bridges sent-kept f.each;
    holder = ⊎_elim inl (λ none. inr (now-down none)) f.holder;
    asked = by-bridge (AreAsked c) i next c.bridges (f.asked i) f.asked;
    sent = all-sent;
    out = λ other out. out-named other f.active refl out;
  }

-- ---- what was asked for of the Lease is carried out
module _ (c : Cluster) (f : IsFenced c) (i : ℕ) (version : ℕ) (at : (c.bridges i).ask.at ≡ c.lease.version) (more : c.lease.version < version) where
  abbrev asker : Bridge
  asker = c.bridges i

  abbrev new_lease : Lease
  new_lease = record { version = version; holder = i; named = asker.ask.named }

  -- none of its own is under way, so it isn't the asker
  not-asker : (j : ℕ) (known : Lease) → known.version ≤ c.lease.version → (c.bridges j).ask.at < known.version → i ≡ j → ⊥
  not-asker j known past quiet mine =
      let lt : (c.bridges i).ask.at < known.version = subst (λ (k : ℕ). (c.bridges k).ask.at < known.version) (sym mine) quiet in omega (arith, lt, past, at)

  renamed : (j : ℕ) (known : Lease) → known.version ≤ c.lease.version → (c.bridges j).ask.at < known.version → j ≡ f.active → known.named ≡ c.lease.named
      → AreGone c.store known.named ⊎ ((j ≡ f.active) × (known.named ≡ asker.ask.named))
  renamed j known past quiet e n =
      ⊎_elim (λ (m : asker.ask.named ≡ c.lease.named). inr (e, n ∙ sym m))
      (λ (o : (c.lease.holder ≡ i) × (i ≡ f.active) × (asker.phase ≢ Sent) × AreCovered c.store asker.ask.named asker.late).
      absurd (not-asker j known past quiet (o.1 ∙ sym e))) ((f.each i).fits at)

  changed-known : (j : ℕ) (known : Lease) → IsKnown c.store c.lease f.active j (c.bridges j) known
      → IsKnown c.store new_lease f.active j (c.bridges j) known
  changed-known j known k =
      let past : known.version ≤ c.lease.version = k.past in
      record {
        past = omega (arith, past, more);
        same = λ e. absurd (omega (arith, e, past, more));
        own = λ quiet mine. absurd (not-asker j known past quiet mine);
        may_send = λ up quiet own. ⊎_elim inl (λ o. renamed j known past quiet o.0 o.1) (k.may_send up quiet own);
      }

  changed-kept : (j : ℕ) → IsKept c.store new_lease f.active j (c.bridges j)
  changed-kept j =
      let k = f.each j in
      let below : (c.bridges j).ask.at ≤ c.lease.version = k.below in
      record {
        seen = changed-known j (c.bridges j).seen k.seen;
        given = changed-known j (c.bridges j).given k.given;
        below = omega (arith, below, more);
        single = λ up e. absurd (omega (arith, e, below, more));
        fits = λ e. absurd (omega (arith, e, below, more));
        carried = k.carried;
        apart = k.apart;
        none = k.none;
      }

  covers : (put : Put) → IsPending asker put → asker.phase ≢ Sent → AreCovered c.store asker.ask.named asker.late
      → IsGone c.store (name_of put) ⊎ Contains asker.ask.named (name_of put)
  covers put pending unsent covered =
      ⊎_elim (λ (out : IsOut asker put). absurd (unsent out.sent)) (λ (has : Contains asker.late put). covered put has) pending

  changed-out : (put : Put) → IsPending (c.bridges f.active) put → IsGone c.store (name_of put) ⊎ Contains asker.ask.named (name_of put)
  changed-out put out =
      ⊎_elim inl
      (λ (n : Contains c.lease.named (name_of put)).
      ⊎_elim (λ (m : asker.ask.named ≡ c.lease.named). inr (subst (λ (named : Named). Contains named (name_of put)) (sym m) n))
      (λ (o : (c.lease.holder ≡ i) × (i ≡ f.active) × (asker.phase ≢ Sent) × AreCovered c.store asker.ask.named asker.late).
      covers put (subst (λ (k : ℕ). IsPending (c.bridges k) put) (sym o.1) out) o.2 o.3) ((f.each i).fits at))
      (f.out put out)

  last-changes : IsFenced (after (Changes i asker.ask version) c)
  last-changes = record {
    active = f.active;
    good = f.good;
    each = changed-kept;
    holder = ⊎_elim (λ none. inr none) (λ (up : asker.core ≢ None). inl (is-active c f i ((f.each i).single up at) up)) (is-down asker.core);
    asked = λ by ask has. ⊎_elim inl (λ (lt : ask.at < c.lease.version). inr (omega (arith, lt, more))) (f.asked by ask has);
    sent = f.sent;
    out = changed-out;
  }

pub changes : (c : Cluster) (f : IsFenced c) (by : ℕ) (ask : Ask) (version : ℕ) → Contains c.asks (by, ask) → ask.at ≡ c.lease.version
    → c.lease.version < version → IsFenced (after (Changes by ask version) c)
changes c f by ask version has at more =
    ⊎_elim
    (λ (same : ask ≡ (c.bridges by).ask).
    subst (λ (a : Ask). IsFenced (after (Changes by a version) c)) (sym same)
    (last-changes c f by version (sym (ap (λ (a : Ask). a.at) same) ∙ at) more))
    (λ (lt : ask.at < c.lease.version). absurd (omega (arith, lt, at))) (f.asked by ask has)

-- ---- others edit the store
module _ (c : Cluster) (f : IsFenced c) (move : Move) (is : IsEdit move) (may : IsMove move (store_alone c) []) where
  abbrev edited_store : StoreValue
  edited_store = (after_move move (store_alone c)).store

  still-gone : (n : Key × ℕ) → IsGone c.store n → IsGone edited_store n
  still-gone n gone = gone-edit move (store_alone c) n is (store-of c f).kept gone

  core-of : (j : ℕ) → (edited_by move c j).core ≡ (c.bridges j).core
  core-of j = edit-core move is (world_of c.class c.store (c.bridges j))

  wants-before : (j : ℕ) (put : Put) → next_put (edited_by move c j).core ≡ Some put → next_put (c.bridges j).core ≡ Some put
  wants-before j put wants = subst (λ (core : Option State). next_put core ≡ Some put) (core-of j) wants

  edited-known : (j : ℕ) (known : Lease) → IsKnown c.store c.lease f.active j (c.bridges j) known
      → IsKnown edited_store c.lease f.active j (edited_by move c j) known
  edited-known j known k = record {
    past = k.past;
    same = k.same;
    own = k.own;
    may_send = λ up quiet own.
        ⊎_elim (λ g. inl (gone-all c.store edited_store still-gone known.named g)) (λ o. inr o) (k.may_send (λ none. up (core-of j ∙ none)) quiet own);
  }

  edited-kept : (j : ℕ) → IsKept edited_store c.lease f.active j (edited_by move c j)
  edited-kept j =
      let k = f.each j in
      record {
        seen = edited-known j (c.bridges j).seen k.seen;
        given = edited-known j (c.bridges j).given k.given;
        below = k.below;
        single = λ up at. k.single (λ none. up (core-of j ∙ none)) at;
        fits = λ at. ⊎_elim inl (λ o. inr (o.0, o.1, o.2, λ put has. ⊎_elim (λ g. inl (still-gone (name_of put) g)) (λ n. inr n) (o.3 put has))) (k.fits at);
        carried = λ version put is wants. still-gone (name_of put) (k.carried version put is (wants-before j put wants));
        apart = λ put other out has same.
            still-gone (name_of other) (k.apart put other (record { sent = out.sent; wants = wants-before j put out.wants }) has same);
        none = λ down. k.none (sym (core-of j) ∙ down);
      }

  was-pending : (j : ℕ) (put : Put) → IsPending (edited_by move c j) put → IsPending (c.bridges j) put
  was-pending j put pending =
      ⊎_elim (λ (out : IsOut (edited_by move c j) put). inl (record { sent = out.sent; wants = wants-before j put out.wants }))
      (λ (has : Contains (c.bridges j).late put). inr has) pending

  is-pending : (j : ℕ) (put : Put) → IsPending (c.bridges j) put → IsPending (edited_by move c j) put
  is-pending j put pending =
      ⊎_elim
      (λ (out : IsOut (c.bridges j) put).
      inl (record { sent = out.sent; wants = subst (λ (core : Option State). next_put core ≡ Some put) (sym (core-of j)) out.wants }))
      (λ (has : Contains (c.bridges j).late put). inr has) pending

  pub edits : IsFenced (after (Edits move) c)
  edits =
      let b = c.bridges f.active in
      record {
        active = f.active;
        good = good-edit b.phase move is c.class c.store b.lane b.core b.late may f.good;
        each = edited-kept;
        holder = ⊎_elim inl (λ none. inr (core-of c.lease.holder ∙ none)) f.holder;
        asked = f.asked;
        sent = λ by put has.
            ⊎_elim (λ g. inl (still-gone (name_of put) g))
            (λ (o : (by ≡ f.active) × IsPending b put). inr (o.0, is-pending f.active put o.1)) (f.sent by put has);
        out = λ put out. ⊎_elim (λ g. inl (still-gone (name_of put) g)) (λ n. inr n) (f.out put (was-pending f.active put out));
      }

-- ---- a put is carried out
carried-unsent : (here : Bool) (version : ℕ) (phase : Phase) → phase ≢ Sent → carried_out here version phase ≢ Sent
carried-unsent true version Free unsent e = unsent e
carried-unsent true version Sent unsent e = unsent refl
carried-unsent true version (Carried earlier) unsent e = unsent e
carried-unsent false version phase unsent e = unsent e

-- who waits still did before
carried-sent : (here : Bool) (version : ℕ) (phase : Phase) → carried_out here version phase ≡ Sent → phase ≡ Sent
carried-sent true version Free e = e
carried-sent true version Sent e = refl
carried-sent true version (Carried earlier) e = e
carried-sent false version phase e = e

-- who may hear the answer did before, or it is that put's
carried-before : (here : Bool) (version : ℕ) (phase : Phase) (at : ℕ) → carried_out here version phase ≡ Carried at → (phase ≡ Carried at) ⊎ (here ≡ true)
carried-before true version phase at e = inr refl
carried-before false version phase at e = inl e

carried-same : (here : Bool) (version : ℕ) (phase : Phase) → (here ≡ true → phase ≡ Sent → ⊥) → carried_out here version phase ≡ phase
carried-same true version Free other = refl
carried-same true version Sent other = absurd (other refl refl)
carried-same true version (Carried earlier) other = refl
carried-same false version phase other = refl

pub awaited-itself : (put : Put) → is_awaited put (Some put) ≡ true
awaited-itself put = and_from (same_key put.key put.key) (eqb put.version put.version) (same_key-itself put.key) (version-same put.version put.version refl)

awaited-key : (put wanted : Put) → is_awaited put (Some wanted) ≡ true → (wanted.key ≡ put.key) × (wanted.version ≡ put.version)
awaited-key put wanted e =
    let parts = and_parts (same_key wanted.key put.key) (eqb wanted.version put.version) e in
    (same_key-is wanted.key put.key parts.0, eqb-true wanted.version put.version parts.1)

awaited-name : (put wanted : Put) → is_awaited put (Some wanted) ≡ true → name_of wanted ≡ name_of put
awaited-name put wanted e =
    let same = awaited-key put wanted e in
    ap (λ (key : Key). (key, wanted.version)) same.0 ∙ ap (λ (version : ℕ). (put.key, version)) same.1

module _ (c : Cluster) (f : IsFenced c) (by : ℕ) (put : Put) (has : Contains c.sent (by, put)) (made : is_made put Delivered c.store.objects ≡ true) where
  abbrev put_store : StoreValue
  put_store = after_put put Delivered c.store

  abbrev now : ℕ → Bridge
  now = carried by put c.store c.bridges

  abbrev own : Bridge
  own = c.bridges f.active

  -- whether the bridge waits for this put
  abbrev waits : ℕ → Bool
  waits j = eqb j by && is_awaited put (next_put (c.bridges j).core)

  waited : (by ≡ f.active) × IsPending own put
  waited = ⊎_elim (λ g. absurd (gone-unmade put c.store g made)) (λ (o : (by ≡ f.active) × IsPending own put). o) (f.sent by put has)

  gone-now : IsGone put_store (name_of put)
  gone-now = gone-carried put c.store (store-of c f).kept made

  still-gone_now : (n : Key × ℕ) → IsGone c.store n → IsGone put_store n
  still-gone_now n gone = gone-put put c.store n gone

  awaits : (j : ℕ) → waits j ≡ true → is_awaited put (next_put (c.bridges j).core) ≡ true
  awaits j e = (and_parts (eqb j by) (is_awaited put (next_put (c.bridges j).core)) e).1

  -- what it waits for is gone then
  gone-waited : (j : ℕ) (other : Put) → waits j ≡ true → next_put (c.bridges j).core ≡ Some other → IsGone put_store (name_of other)
  gone-waited j other e wants =
      subst (IsGone put_store) (sym (awaited-name put other (subst (λ (found : Option Put). is_awaited put found ≡ true) wants (awaits j e)))) gone-now

  carried-known : (j : ℕ) (known : Lease) → IsKnown c.store c.lease f.active j (c.bridges j) known → IsKnown put_store c.lease f.active j (now j) known
  carried-known j known k = record {
    past = k.past;
    same = k.same;
    own = k.own;
    may_send = λ up quiet mine.
        ⊎_elim (λ g. inl (gone-all c.store put_store (gone-put put c.store) known.named g)) (λ o. inr o) (k.may_send up quiet mine);
  }

  was-out : (j : ℕ) (other : Put) → IsOut (now j) other → IsOut (c.bridges j) other
  was-out j other out = record { sent = carried-sent (waits j) (c.store.counter + 1) (c.bridges j).phase out.sent; wants = out.wants }

  carried-kept : (j : ℕ) → IsKept put_store c.lease f.active j (now j)
  carried-kept j =
      let k = f.each j in
      record {
        seen = carried-known j (c.bridges j).seen k.seen;
        given = carried-known j (c.bridges j).given k.given;
        below = k.below;
        single = k.single;
        fits = λ at.
            ⊎_elim inl
            (λ o.
            inr (
              o.0,
              o.1,
              carried-unsent (waits j) (c.store.counter + 1) (c.bridges j).phase o.2,
              λ other late. ⊎_elim (λ g. inl (still-gone_now (name_of other) g)) (λ n. inr n) (o.3 other late),
            )) (k.fits at);
        carried = λ version other is wants.
            ⊎_elim (λ (before : (c.bridges j).phase ≡ Carried version). still-gone_now (name_of other) (k.carried version other before wants))
            (λ (e : waits j ≡ true). gone-waited j other e wants) (carried-before (waits j) (c.store.counter + 1) (c.bridges j).phase version is);
        apart = λ one other out late same. still-gone_now (name_of other) (k.apart one other (was-out j one out) late same);
        none = k.none;
      }

  -- each that may come still may, or is gone
  pending-by : (j : ℕ) (other : Put) (here : Bool) → waits j ≡ here → IsOut (c.bridges j) other → IsGone put_store (name_of other) ⊎ IsPending (now j) other
  pending-by j other true e out = inl (gone-waited j other e out.wants)
  pending-by j other false e out =
      inr (inl (record { sent = ap (λ (here : Bool). carried_out here (c.store.counter + 1) (c.bridges j).phase) e ∙ out.sent; wants = out.wants }))

  now-pending : (j : ℕ) (other : Put) → IsPending (c.bridges j) other → IsGone put_store (name_of other) ⊎ IsPending (now j) other
  now-pending j other pending =
      ⊎_elim (λ (out : IsOut (c.bridges j) other). pending-by j other (waits j) refl out) (λ (late : Contains (c.bridges j).late other). inr (inr late)) pending

  was-pending_before : (j : ℕ) (other : Put) → IsPending (now j) other → IsPending (c.bridges j) other
  was-pending_before j other pending =
      ⊎_elim (λ (out : IsOut (now j) other). inl (was-out j other out)) (λ (late : Contains (c.bridges j).late other). inr late) pending

  -- the world of the active one is good, whether it waits for the put or gave it up
  abbrev IsGoodNow : Phase → Type 0
  IsGoodNow phase = IsGoodIn phase c.class put_store (own.lane ++ while_up own.core (shown_put put Delivered c.store)) own.core own.late

  waits-now : IsOut own put → waits f.active ≡ true
  waits-now out =
      and_from (eqb f.active by) (is_awaited put (next_put own.core)) (version-same f.active by (sym waited.0))
      (ap (is_awaited put) out.wants ∙ awaited-itself put)

  phase-now : IsOut own put → (now f.active).phase ≡ Carried (c.store.counter + 1)
  phase-now out =
      ap (λ (here : Bool). carried_out here (c.store.counter + 1) own.phase) (waits-now out) ∙ ap (carried_out true (c.store.counter + 1)) out.sent

  good-out : IsOut own put → IsGoodNow (now f.active).phase
  good-out out =
      subst IsGoodNow (sym (phase-now out))
      (good-carried own.core c.class c.store own.lane own.late put out.wants made
      (subst (λ (phase : Phase). IsGoodIn phase c.class c.store own.lane own.core own.late) out.sent f.good))

  -- no other put of its service is out
  not-waited : Contains own.late put → (found : Option Put) → next_put own.core ≡ found → is_awaited put found ≡ true → own.phase ≡ Sent → ⊥
  not-waited late None wants e sent = true≢false (sym e)
  not-waited late (Some other) wants e sent =
      gone-unmade put c.store
      ((f.each f.active).apart other put (record { sent = sent; wants = wants }) late (sym (awaited-key put other e).0)) made

  good-late : Contains own.late put → IsGoodNow (now f.active).phase
  good-late late =
      subst IsGoodNow
      (sym (carried-same (waits f.active) (c.store.counter + 1) own.phase (λ e sent. not-waited late (next_put own.core) refl (awaits f.active e) sent)))
      (good-landed own.phase c.class c.store own.lane own.core own.late put late f.good)

  pub carries : IsFenced (after (Carries by put) c)
  carries = record {
    active = f.active;
    good = ⊎_elim good-out good-late waited.1;
    each = carried-kept;
    holder = f.holder;
    asked = f.asked;
    sent = λ from other in_sent.
        ⊎_elim (λ g. inl (still-gone_now (name_of other) g))
        (λ (o : (from ≡ f.active) × IsPending own other). ⊎_elim (λ g. inl g) (λ pending. inr (o.0, pending)) (now-pending f.active other o.1))
        (f.sent from other in_sent);
    out = λ other out. ⊎_elim (λ g. inl (still-gone_now (name_of other) g)) (λ n. inr n) (f.out other (was-pending_before f.active other out));
  }
