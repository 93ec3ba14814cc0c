-- Whatever happens keeps what holds of a cluster.
use Rattle.std.proofs.Common.{◌≡◌, ◌≢◌, ◌⊎◌, inl, inr, ⊎_elim, ℕ, ◌<◌, ◌≤◌, Bool, true, false, cond, eqb, List, [], ◌∷◌, Option, Some, None}
use Rattle.std.proofs.Common.{refl, sym, ap, subst, ◌∙◌, arith}
use Rattle.std.proofs.lemmas.Bool.{true≢false, eqb-true}
use Rattle.std.specs.List.{Contains}
use Rattle.mlb_base.proofs.Among.{contains-cons, contains-first, contains-later, contains-none}
use Rattle.kube_model.specs.declared.event.Event.{Event}
use Rattle.kube_model.specs.declared.put.Put.{Put}
use Rattle.kube_model.specs.declared.reply.PutReply.TheVariants as replies
use Rattle.status_store.proofs.ChangeLaws.{version-same}
use Rattle.core_rules.specs.Core.{State, fresh}
use Rattle.world_rules.specs.Good.{IsGoodStore}
use Rattle.world_rules.specs.Moves.{Move, after_move}
use Rattle.world_rules.specs.World.{next_put}
use Rattle.world_rules.proofs.Landing.{none-expected}
use Rattle.world_rules.proofs.Worlds.{starts_are_good}
use Rattle.fence_rules.specs.Cluster.{Lease, Ask, Phase, Free, Sent, Carried, Bridge, Cluster, Named, AreCovered, AreGone, IsGone, IsQuiet, MayAsk, MayStart, MayDo, MayGiveUp}
use Rattle.fence_rules.specs.Cluster.{Asks, Does, Hears, GivesUp}
use Rattle.fence_rules.specs.Cluster.{after, answered, at_bridge, name_of, with_bridge, world_of}
use Rattle.fence_rules.specs.Fenced.{IsOut, IsPending, IsKept, IsKnown, IsGoodIn, IsFenced}
use Rattle.fence_rules.proofs.Gone.{gone-among}
use Rattle.fence_rules.proofs.Worlds.{good-store, stays-down, stays-up, answered-down, answered-up, good-own, good-unknown}

-- ---- one bridge among the others
bridge_by : (P : ℕ → Bridge → Type 0) (i j : ℕ) (b old : Bridge) (here : Bool) → eqb j i ≡ here → P i b → P j old → P j (cond here b old)
bridge_by P i j b old true e own other = subst (λ (k : ℕ). P k b) (sym (eqb-true j i e)) own
bridge_by P i j b old false e own other = other

pub by-bridge : (P : ℕ → Bridge → Type 0) (i : ℕ) (b : Bridge) (bridges : ℕ → Bridge) → P i b → ((j : ℕ) → P j (bridges j))
    → (j : ℕ) → P j (with_bridge i b bridges j)
by-bridge P i b bridges own others j = bridge_by P i j b (bridges j) (eqb j i) refl own (others j)

pub at-itself : (i : ℕ) (b : Bridge) (bridges : ℕ → Bridge) → with_bridge i b bridges i ≡ b
at-itself i b bridges = ap (λ (here : Bool). cond here b (bridges i)) (version-same i i refl)

pub is-down : (core : Option State) → (core ≡ None) ⊎ (core ≢ None)
is-down None = inl refl
is-down (Some s) = inr (λ down. absurd (cc))

pub wants-up : (core : Option State) (put : Put) → next_put core ≡ Some put → core ≢ None
wants-up None put wants down = absurd (cc)
wants-up (Some s) put wants down = absurd (cc)

pub same-put : (core : Option State) (p q : Put) → next_put core ≡ Some p → next_put core ≡ Some q → p ≡ q
same-put core p q one other = let e : Some p ≡ Some q = sym one ∙ other in cc

abbrev pub IsGoodAt : Cluster → Bridge → Type 0
IsGoodAt c b = IsGoodIn b.phase c.class c.store b.lane b.core b.late

pub good-of : (c : Cluster) (f : IsFenced c) (i : ℕ) → i ≡ f.active → IsGoodAt c (c.bridges i)
good-of c f i e = subst (λ (k : ℕ). IsGoodAt c (c.bridges k)) (sym e) f.good

pub store-of : (c : Cluster) (f : IsFenced c) → IsGoodStore c.store
store-of c f = let b = c.bridges f.active in good-store b.phase c.class c.store b.lane b.core b.late f.good

-- of two bridges that are alike
pub same-out : (b x : Bridge) → x.phase ≡ b.phase → x.core ≡ b.core → (put : Put) → IsOut b put → IsOut x put
same-out b x phase core put out = record { sent = phase ∙ out.sent; wants = ap next_put core ∙ out.wants }

pub same-pending : (b x : Bridge) → x.phase ≡ b.phase → x.core ≡ b.core → x.late ≡ b.late → (put : Put) → IsPending b put → IsPending x put
same-pending b x phase core late put pending =
    ⊎_elim (λ (out : IsOut b put). inl (same-out b x phase core put out))
    (λ (has : Contains b.late put). inr (subst (λ (puts : List Put). Contains puts put) (sym late) has)) pending

-- what a step of one bridge owes
record IsLikeBefore (c : Cluster) (f : IsFenced c) (i : ℕ) (b : Bridge) : Type 0 where
  pub kept : IsKept c.store c.lease f.active i b
  pub good : i ≡ f.active → IsGoodAt c b
  pub down : c.lease.holder ≡ i → (c.bridges i).core ≡ None → b.core ≡ None
  pub fewer : (put : Put) → IsPending b put → IsPending (c.bridges i) put ⊎ IsGone c.store (name_of put)
  pub keeps : (put : Put) → IsPending (c.bridges i) put → IsPending b put ⊎ IsGone c.store (name_of put)

-- each request is the bridge's last one, or comes too late
abbrev pub AreAsked : Cluster → ℕ → Bridge → Type 0
AreAsked c j b = (ask : Ask) → Contains c.asks (j, ask) → (ask ≡ b.ask) ⊎ (ask.at < c.lease.version)

step-asking : (c : Cluster) (f : IsFenced c) (i : ℕ) (b : Bridge) → IsLikeBefore c f i b → (asks : List (ℕ × Ask))
    → ((by : ℕ) (ask : Ask) → Contains asks (by, ask) → (ask ≡ (with_bridge i b c.bridges by).ask) ⊎ (ask.at < c.lease.version))
    → IsFenced (record c { asks = asks; bridges = with_bridge i b c.bridges })
step-asking c f i b l asks asked = record {
  active = f.active;
  good = by-bridge (λ j x. j ≡ f.active → IsGoodAt c x) i b c.bridges l.good (good-of c f) f.active refl;
  each = by-bridge (λ j x. IsKept c.store c.lease f.active j x) i b c.bridges l.kept f.each;
  holder = ⊎_elim inl (λ none. inr (still-down none)) f.holder;
  asked = asked;
  sent = λ by put has. ⊎_elim inl (λ out. still-out by put out.0 out.1) (f.sent by put has);
  out = λ put out.
      ⊎_elim (λ was. f.out put was) (λ g. inl g)
      (by-bridge (λ j x. IsPending x put → IsPending (c.bridges j) put ⊎ IsGone c.store (name_of put)) i b c.bridges (l.fewer put) (λ j o. inl o) f.active out);
}
  where
    still-down : (c.bridges c.lease.holder).core ≡ None → (with_bridge i b c.bridges c.lease.holder).core ≡ None
    still-down none =
        by-bridge (λ j x. c.lease.holder ≡ j → x.core ≡ None) i b c.bridges
        (λ e. l.down e (subst (λ (k : ℕ). (c.bridges k).core ≡ None) e none)) (λ j e. subst (λ (k : ℕ). (c.bridges k).core ≡ None) e none)
        c.lease.holder refl

    still-out : (by : ℕ) (put : Put) → by ≡ f.active → IsPending (c.bridges f.active) put
        → IsGone c.store (name_of put) ⊎ ((by ≡ f.active) × IsPending (with_bridge i b c.bridges f.active) put)
    still-out by put e out =
        ⊎_elim (λ o. inr (e, o)) (λ g. inl g)
        (by-bridge (λ j x. IsPending (c.bridges j) put → IsPending x put ⊎ IsGone c.store (name_of put)) i b c.bridges (l.keeps put) (λ j o. inl o) f.active out)

bridge-step : (c : Cluster) (f : IsFenced c) (i : ℕ) (b : Bridge) → b.ask ≡ (c.bridges i).ask → IsLikeBefore c f i b → IsFenced (at_bridge i c b)
bridge-step c f i b same l =
    step-asking c f i b l c.asks
    (by-bridge (AreAsked c) i b c.bridges (λ ask has. ⊎_elim (λ (e : ask ≡ (c.bridges i).ask). inl (e ∙ sym same)) inr (f.asked i ask has)) f.asked)

-- ---- what a bridge does
module _ (c : Cluster) (f : IsFenced c) (i : ℕ) where
  abbrev b : Bridge
  b = c.bridges i

  abbrev kept : IsKept c.store c.lease f.active i (c.bridges i)
  kept = f.each i

  -- no request is under way, so none at the version of the Lease
  pub past-asking : IsQuiet b → b.ask.at ≡ c.lease.version → ⊥
  past-asking quiet at = let past : b.seen.version ≤ c.lease.version = kept.seen.past in omega (arith, quiet, at, past)

  -- who holds the Lease with its program up is the active one
  pub is-active : c.lease.holder ≡ i → b.core ≢ None → i ≡ f.active
  is-active mine up =
      ⊎_elim (λ (e : c.lease.holder ≡ f.active). sym mine ∙ e) (λ none. absurd (up (subst (λ (k : ℕ). (c.bridges k).core ≡ None) mine none))) f.holder

  -- of a step that leaves its core and what it asked for
  abbrev IsKnownAt : Bridge → Lease → Type 0
  IsKnownAt x known = IsKnown c.store c.lease f.active i x known

  pub gives : IsFenced (at_bridge i c (record b { given = c.lease }))
  gives = bridge-step c f i (record b { given = c.lease }) refl (record {
    kept = record {
      seen = (let k = kept.seen in record { past = k.past; same = k.same; own = k.own; may_send = k.may_send });
      given = record { past = omega arith; same = λ e. refl; own = λ quiet mine. refl; may_send = λ up quiet mine. inr (is-active mine up, refl) };
      below = kept.below;
      single = kept.single;
      fits = kept.fits;
      carried = kept.carried;
      apart = λ put other out has same. kept.apart put other (same-out next_given b refl refl put out) has same;
      none = kept.none;
    };
    good = λ e. good-of c f i e;
    down = λ mine none. none;
    fewer = λ put pending. inl (same-pending next_given b refl refl refl put pending);
    keeps = λ put pending. inl (same-pending b next_given refl refl refl put pending);
  })
    where
      next_given : Bridge
      next_given = record b { given = c.lease }

  pub reads : IsFenced (at_bridge i c (record b { seen = b.given }))
  reads = bridge-step c f i (record b { seen = b.given }) refl (record {
    kept = record {
      seen = (let k = kept.given in record { past = k.past; same = k.same; own = k.own; may_send = k.may_send });
      given = (let k = kept.given in record { past = k.past; same = k.same; own = k.own; may_send = k.may_send });
      below = kept.below;
      single = kept.single;
      fits = kept.fits;
      carried = kept.carried;
      apart = λ put other out has same. kept.apart put other (same-out next_seen b refl refl put out) has same;
      none = kept.none;
    };
    good = λ e. good-of c f i e;
    down = λ mine none. none;
    fewer = λ put pending. inl (same-pending next_seen b refl refl refl put pending);
    keeps = λ put pending. inl (same-pending b next_seen refl refl refl put pending);
  })
    where
      next_seen : Bridge
      next_seen = record b { seen = b.given }

  abbrev asking : Named → Ask
  asking named = record { at = b.seen.version; named = named }

  pub asks : (named : Named) → MayAsk i c.store b named → IsFenced (after (Asks i named) c)
  asks named may = step-asking c f i (record b { ask = asking named }) (record {
    kept = record {
      seen = asked-known b.seen kept.seen;
      given = asked-known b.given kept.given;
      below = kept.seen.past;
      single = single;
      fits = λ at. ⊎_elim (λ (n : named ≡ b.seen.named). inl (n ∙ ap (λ (l : Lease). l.named) (kept.seen.same at))) (λ p. inr (fits at p.0 p.1 p.2)) may.names;
      carried = kept.carried;
      apart = λ put other out has same. kept.apart put other (same-out asked_now b refl refl put out) has same;
      none = kept.none;
    };
    good = λ e. good-of c f i e;
    down = λ mine none. none;
    fewer = λ put pending. inl (same-pending asked_now b refl refl refl put pending);
    keeps = λ put pending. inl (same-pending b asked_now refl refl refl put pending);
  }) ((i, asking named) ∷ c.asks) asked
    where
      asked_now : Bridge
      asked_now = record b { ask = asking named }

      next : ℕ → Bridge
      next = with_bridge i (record b { ask = asking named }) c.bridges

      earlier-quiet : (known : Lease) → b.seen.version < known.version → b.ask.at < known.version
      earlier-quiet known lt = let quiet : b.ask.at < b.seen.version = may.quiet in omega (arith, quiet, lt)

      asked-known : (known : Lease) → IsKnownAt b known → IsKnownAt (record b { ask = asking named }) known
      asked-known known k = record {
        past = k.past;
        same = k.same;
        own = λ quiet mine. k.own (earlier-quiet known quiet) mine;
        may_send = λ up quiet mine. k.may_send up (earlier-quiet known quiet) mine;
      }

      first : (by : ℕ) (ask : Ask) → by ≡ i → ask ≡ asking named → ask ≡ (next by).ask
      first by ask e same =
          same ∙ subst (λ (k : ℕ). asking named ≡ (next k).ask) (sym e) (sym (ap (λ (x : Bridge). x.ask) (at-itself i (record b { ask = asking named }) c.bridges)))

      earlier : (by : ℕ) (ask : Ask) → Contains c.asks (by, ask) → (ask ≡ (next by).ask) ⊎ (ask.at < c.lease.version)
      earlier =
          by-bridge (AreAsked c) i (record b { ask = asking named }) c.bridges
          (λ ask has. ⊎_elim (λ (e : ask ≡ b.ask). inr (late ask e)) inr (f.asked i ask has)) f.asked
        where
          late : (ask : Ask) → ask ≡ b.ask → ask.at < c.lease.version
          late ask e =
              let at : ask.at ≡ b.ask.at = ap (λ (a : Ask). a.at) e in
              let quiet : b.ask.at < b.seen.version = may.quiet in
              let past : b.seen.version ≤ c.lease.version = kept.seen.past in
              omega (arith, at, quiet, past)

      asked : (by : ℕ) (ask : Ask) → Contains ((i, asking named) ∷ c.asks) (by, ask) → (ask ≡ (next by).ask) ⊎ (ask.at < c.lease.version)
      asked by ask has =
          ⊎_elim (λ (e : (i, asking named) ≡ (by, ask)). inl (first by ask (sym (ap (λ (r : ℕ × Ask). r.0) e)) (sym (ap (λ (r : ℕ × Ask). r.1) e))))
          (λ other. earlier by ask other) (contains-cons (i, asking named) c.asks (by, ask) has)

      single : b.core ≢ None → b.seen.version ≡ c.lease.version → c.lease.holder ≡ i
      single up at = ⊎_elim (λ none. absurd (up none)) (λ mine. sym (ap (λ (l : Lease). l.holder) (kept.seen.same at)) ∙ mine) may.own

      fits : b.seen.version ≡ c.lease.version → b.phase ≡ Free → b.core ≢ None → AreCovered c.store named b.late
          → (c.lease.holder ≡ i) × (i ≡ f.active) × (b.phase ≢ Sent) × AreCovered c.store named b.late
      fits at free up covered =
          let mine : c.lease.holder ≡ i = single up at in
          (mine, is-active mine up, λ sent. (let e : Free ≡ Sent = sym free ∙ sent in absurd (cc)), covered)

  -- a program is started
  abbrev started : List Event → Bridge
  started list = record b { core = Some (fresh c.class); lane = list; given = b.seen; phase = Free; late = [] }

  module _ (list : List Event) (may : MayStart list c.store b) where
    started-good : IsGoodAt c (started list)
    started-good = (starts_are_good c.class c.store list (store-of c f) may.listed, none-expected c.store (Some (fresh c.class)))

    started-known : (active : ℕ) → IsKnown c.store c.lease active i (started list) b.seen
    started-known active = let k = kept.seen in record { past = k.past; same = k.same; own = k.own; may_send = λ up quiet mine. inl may.fenced }

    started-kept : (active : ℕ) → IsKept c.store c.lease active i (started list)
    started-kept active = record {
      seen = started-known active;
      given = started-known active;
      below = kept.below;
      single = λ up at. absurd (past-asking may.quiet at);
      fits = λ at. absurd (past-asking may.quiet at);
      carried = λ version put e wants. (let is : Free ≡ Carried version = e in absurd (cc));
      apart = λ put other out has same. absurd (contains-none other has);
      none = λ down put has. contains-none put has;
    }

    not-out : (put : Put) → IsPending (started list) put → ⊥
    not-out put pending =
        ⊎_elim (λ (out : IsOut (started list) put). (let e : Free ≡ Sent = out.sent in absurd (cc))) (λ (has : Contains [] put). contains-none put has) pending

    was-not-out : (put : Put) → IsPending b put → ⊥
    was-not-out put pending =
        ⊎_elim (λ (out : IsOut b put). wants-up b.core put out.wants may.down) (λ (has : Contains b.late put). kept.none may.down put has) pending

    -- by one who doesn't hold the Lease any more
    starts-late : (c.lease.holder ≡ i → ⊥) → IsFenced (at_bridge i c (started list))
    starts-late lost = bridge-step c f i (started list) refl (record {
      kept = started-kept f.active;
      good = λ e. started-good;
      down = λ mine none. absurd (lost mine);
      fewer = λ put out. absurd (not-out put out);
      keeps = λ put out. absurd (was-not-out put out);
    })

    -- by the holder: no put is left that can be carried out
    module _ (mine : c.lease.holder ≡ i) where
      lease-gone : AreGone c.store c.lease.named
      lease-gone = subst (λ (l : Lease). AreGone c.store l.named) (kept.seen.own may.quiet mine) may.fenced

      all-gone : (by : ℕ) (put : Put) → Contains c.sent (by, put) → IsGone c.store (name_of put)
      all-gone by put has =
          ⊎_elim (λ g. g) (λ o. ⊎_elim (λ g. g) (λ (n : Contains c.lease.named (name_of put)). gone-among c.store c.lease.named (name_of put) lease-gone n) (f.out put o.1)) (f.sent by put has)

      other-known : (j : ℕ) (known : Lease) → IsKnown c.store c.lease f.active j (c.bridges j) known → IsKnown c.store c.lease i j (c.bridges j) known
      other-known j known k = record {
        past = k.past;
        same = k.same;
        own = k.own;
        may_send = λ up quiet own. ⊎_elim inl (λ o. inl (subst (AreGone c.store) (sym o.1) lease-gone)) (k.may_send up quiet own);
      }

      others-kept : (j : ℕ) → IsKept c.store c.lease i j (c.bridges j)
      others-kept j =
          let k = f.each j in
          record {
            seen = other-known j (c.bridges j).seen k.seen;
            given = other-known j (c.bridges j).given k.given;
            below = k.below;
            single = k.single;
            fits = λ at. ⊎_elim inl (λ o. inr (o.0, sym o.0 ∙ mine, o.2, o.3)) (k.fits at);
            carried = k.carried;
            apart = k.apart;
            none = k.none;
          }

      starts-holding : IsFenced (at_bridge i c (started list))
      starts-holding = record {
        active = i;
        good = subst (IsGoodAt c) (sym (at-itself i (started list) c.bridges)) started-good;
        each = by-bridge (λ j x. IsKept c.store c.lease i j x) i (started list) c.bridges (started-kept i) others-kept;
        holder = inl mine;
        asked = by-bridge (AreAsked c) i (started list) c.bridges (f.asked i) f.asked;
        sent = λ by put has. inl (all-gone by put has);
        out = λ put out. absurd (not-out put (subst (λ (x : Bridge). IsPending x put) (at-itself i (started list) c.bridges) out));
      }

    starts_by : (holds : Bool) → eqb c.lease.holder i ≡ holds → IsFenced (at_bridge i c (started list))
    starts_by true e = starts-holding (eqb-true c.lease.holder i e)
    starts_by false e = starts-late (λ mine. true≢false (sym (version-same c.lease.holder i mine) ∙ e))

    pub starts : IsFenced (at_bridge i c (started list))
    starts = starts_by (eqb c.lease.holder i) refl

  -- The program does something that the store isn't asked about, or is answered: its put isn't out before, or it is gone or given up, and none is
  -- after. What is given up then may still come, or is gone.
  settles : (core : Option State) (lane : List Event) (late : List Put) → (b.core ≡ None → core ≡ None) → (core ≡ None → b.core ≡ None)
      → (i ≡ f.active → IsGoodIn Free c.class c.store lane core late) → ((put : Put) → IsOut b put → Contains late put ⊎ IsGone c.store (name_of put))
      → ((put : Put) → Contains b.late put → Contains late put) → ((put : Put) → Contains late put → IsPending b put ⊎ IsGone c.store (name_of put))
      → (b.core ≡ None → (put : Put) → ¬ (Contains late put))
      → IsFenced (at_bridge i c (record b { core = core; lane = lane; phase = Free; late = late }))
  settles core lane late down up good gone stays more none = bridge-step c f i (record b { core = core; lane = lane; phase = Free; late = late }) refl (record {
    kept = record {
      seen = settled-known b.seen kept.seen;
      given = settled-known b.given kept.given;
      below = kept.below;
      single = λ up at. kept.single (λ none. up (down none)) at;
      fits = λ at. ⊎_elim inl (λ o. inr (o.0, o.1, λ sent. (let e : Free ≡ Sent = sent in absurd (cc)), covered o.2 o.3)) (kept.fits at);
      carried = λ version put is wants. (let e : Free ≡ Carried version = is in absurd (cc));
      apart = λ put other out has same. (let e : Free ≡ Sent = out.sent in absurd (cc));
      none = λ is put has. none (up is) put has;
    };
    good = good;
    down = λ mine none. down none;
    fewer = fewer;
    keeps = λ put pending. ⊎_elim (λ (out : IsOut b put). still put (gone put out)) (λ (has : Contains b.late put). inl (inr (stays put has))) pending;
  })
    where
      settled : Bridge
      settled = record b { core = core; lane = lane; phase = Free; late = late }

      still : (put : Put) → Contains late put ⊎ IsGone c.store (name_of put) → IsPending settled put ⊎ IsGone c.store (name_of put)
      still put is = ⊎_elim (λ (has : Contains late put). inl (inr has)) (λ (g : IsGone c.store (name_of put)). inr g) is

      fewer : (put : Put) → IsPending settled put → IsPending b put ⊎ IsGone c.store (name_of put)
      fewer put pending =
          ⊎_elim (λ (out : IsOut settled put). (let e : Free ≡ Sent = out.sent in absurd (cc))) (λ (has : Contains late put). more put has) pending

      covered : b.phase ≢ Sent → AreCovered c.store b.ask.named b.late → AreCovered c.store b.ask.named late
      covered unsent was put has =
          ⊎_elim
          (λ (pending : IsPending b put).
          ⊎_elim (λ (out : IsOut b put). absurd (unsent out.sent)) (λ (before : Contains b.late put). was put before) pending)
          (λ (g : IsGone c.store (name_of put)). inl g) (more put has)

      settled-known : (known : Lease) → IsKnownAt b known → IsKnownAt (record b { core = core; lane = lane; phase = Free; late = late }) known
      settled-known known k =
          record { past = k.past; same = k.same; own = k.own; may_send = λ up quiet mine. k.may_send (λ none. up (down none)) quiet mine }

  pub does : (move : Move) → MayDo move (world_of c.class c.store b) b.phase b.late → IsFenced (after (Does i move) c)
  does move may =
      let w = world_of c.class c.store b in
      subst (λ (phase : Phase). IsFenced (at_bridge i c (record b { core = (after_move move w).core; lane = (after_move move w).service_lane; phase = phase })))
      (sym may.free)
      (settles (after_move move w).core (after_move move w).service_lane b.late (stays-down move may.own w) (stays-up move may.own w)
      (λ e.
      (let good : IsGoodIn Free c.class c.store b.lane b.core b.late =
      subst (λ (phase : Phase). IsGoodIn phase c.class c.store b.lane b.core b.late) may.free (good-of c f i e) in
      good-own move w b.late may.own may.may may.typed may.listed good.0 good.1))
      (λ put out. (let e : Free ≡ Sent = sym may.free ∙ out.sent in absurd (cc))) (λ put has. has) (λ put has. inl (inr has)) kept.none)

  pub hears : (version : ℕ) → b.phase ≡ Carried version → IsFenced (after (Hears i version) c)
  hears version is =
      settles (answered b.core (replies.Ok version)) b.lane b.late (answered-down b.core (replies.Ok version)) (answered-up b.core (replies.Ok version))
      (λ e. (subst (λ (phase : Phase). IsGoodIn phase c.class c.store b.lane b.core b.late) is (good-of c f i e)).0)
      (λ put out. (let e : Carried version ≡ Sent = sym is ∙ out.sent in absurd (cc))) (λ put has. has) (λ put has. inl (inr has)) kept.none

  module _ (put : Put) (may : MayGiveUp put b) where
    pending-by : (phase : Phase) → b.phase ≡ phase → IsPending b put ⊎ IsGone c.store (name_of put)
    pending-by Free e = absurd (may.out e)
    pending-by Sent e = inl (inl (record { sent = e; wants = may.wants }))
    pending-by (Carried version) e = inr (kept.carried version put e may.wants)

    pub gives-up : IsFenced (after (GivesUp i put) c)
    gives-up =
        settles (answered b.core replies.Unknown) b.lane (put ∷ b.late) (answered-down b.core replies.Unknown) (answered-up b.core replies.Unknown)
        (λ e. good-unknown b.phase b.core c.class c.store b.lane b.late put may.out may.wants (good-of c f i e))
        (λ other out. inl (subst (Contains (put ∷ b.late)) (same-put b.core put other may.wants out.wants) (contains-first put b.late)))
        (λ other has. contains-later put b.late other has)
        (λ other has.
        ⊎_elim (λ (e : put ≡ other). subst (λ (p : Put). IsPending b p ⊎ IsGone c.store (name_of p)) e (pending-by b.phase refl))
        (λ (later : Contains b.late other). inl (inr later)) (contains-cons put b.late other has))
        (λ down other has. wants-up b.core put may.wants down)
