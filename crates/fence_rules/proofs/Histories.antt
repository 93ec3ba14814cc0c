-- Late, repeated and lost requests are admitted.
use Rattle.std.proofs.Common.{◌≡◌, ◌≢◌, ℕ, true, false, ◌<◌, ◌+◌, Bool, [], ◌∷◌, ◌++◌, Option, Some, None, inl, inr, ⊎_elim, refl, sym, ap, subst, ◌∙◌, arith}
use Rattle.std.specs.List.{Contains}
use Rattle.mlb_base.proofs.Among.{contains-cons, contains-first, contains-later}
use Rattle.kube_model.specs.declared.event.ListGroup.TheVariants as groups
use Rattle.kube_model.specs.declared.put.Put.{Put}
use Rattle.kube_model.specs.declared.reply.PutReply.TheVariants as replies
use Rattle.status_store.specs.declared.change.Outcome.TheVariants.{Delivered, Refused}
use Rattle.status_store.specs.Changes.{StoreValue, after_put}
use Rattle.core_laws.specs.Shared.{AllShowTerms}
use Rattle.core_rules.specs.Core.{State}
use Rattle.core_rules.specs.Turn.{core_turn, put_in}
use Rattle.core_rules.specs.Run.{Turned}
use Rattle.world_rules.specs.Moves.{entries_expired, entries_put, entries_turned}
use Rattle.world_rules.specs.World.{next_put}
use Rattle.fence_rules.specs.Cluster.{Ask, Lease, Free, Sent, Carried, Edits, IsGone, after, answered, carried_out, is_awaited, name_of, world_of}
use Rattle.fence_rules.specs.Histories.{NamingsMayBeLost, PutsMayBeHeldBack, PutsMayBeOwed, PutsMayBeResent, naming}
use Rattle.fence_rules.proofs.Among.{carried-free}
use Rattle.fence_rules.proofs.Going.{not-late}
use Rattle.fence_rules.proofs.Gone.{gone-carried, gone-unmade}
use Rattle.fence_rules.proofs.Sending.{awaited-itself}
use Rattle.fence_rules.proofs.Steps.{wants-up}
use Rattle.fence_rules.proofs.Worlds.{edit-core}

pub puts_may_be_held_back : PutsMayBeHeldBack
puts_may_be_held_back c put touch list can =
    let b = c.bridges 0 in
    let named = name_of put ∷ [] in
    let own : Ask = naming c put in
    let ask : Ask = record { at = c.lease.version + 1; named = named } in
    let at : b.seen.version ≡ c.lease.version = ap (λ (l : Lease). l.version) can.sends.known in
    let quiet : (c.bridges 1).ask.at < c.lease.version = can.quiet in
    let unsent : Sent ≡ Free → ⊥ = λ e. absurd (cc) in (
      (
        record { quiet = can.sends.quiet; own = inr (ap (λ (l : Lease). l.holder) can.sends.known ∙ can.sends.holds); names = inr (can.sends.free, wants-up b.core put can.sends.wants, λ other has. absurd (not-late b.late can.sends.none other has)) },
        (
          (contains-first (0, own) c.asks, at, omega arith),
          (
            tt,
            (
              tt,
              (
                record { free = can.sends.free; wants = can.sends.wants; quiet = omega (arith, at); own = refl; named = contains-first (name_of put) []; unowed = λ other has. absurd (not-late b.late can.sends.none other has) },
                (
                  tt,
                  (
                    tt,
                    (
                      record { quiet = omega (arith, quiet); own = inl can.down; names = inl refl },
                      (
                        (contains-first (1, ask) ((0, own) ∷ c.asks), refl, omega arith),
                        (
                          tt,
                          (
                            tt,
                            (
                              (can.edit, can.may),
                              (
                                record {
                                  down = edit-core touch can.edit (world_of c.class c.store (c.bridges 1)) ∙ can.down;
                                  quiet = omega arith;
                                  fenced = (can.gone, tt);
                                  listed = can.listed;
                                },
                                (
                                  record {
                                    out = unsent;
                                    wants = subst (λ (core : Option State). next_put core ≡ Some put) (sym (edit-core touch can.edit (world_of c.class c.store b))) can.sends.wants;
                                  },
                                  tt,
                                ),
                              ),
                            ),
                          ),
                        ),
                      ),
                    ),
                  ),
                ),
              ),
            ),
          ),
        ),
      ),
      λ may. gone-unmade put (after (Edits touch) c).store can.gone may.1,
    )

-- who waited for a put has one out still
carried-out : (here : Bool) (version : ℕ) → carried_out here version Sent ≢ Free
carried-out true version = λ (e : Carried version ≡ Free). absurd (cc)
carried-out false version = λ (e : Sent ≡ Free). absurd (cc)

pub puts_may_be_resent : PutsMayBeResent
puts_may_be_resent c put can kept =
    let b = c.bridges 0 in
    let own : Ask = naming c put in
    let at : b.seen.version ≡ c.lease.version = ap (λ (l : Lease). l.version) can.known in
    let gone = gone-carried put c.store kept can.current in (
      (
        record { quiet = can.quiet; own = inr (ap (λ (l : Lease). l.holder) can.known ∙ can.holds); names = inr (can.free, wants-up b.core put can.wants, λ other has. absurd (not-late b.late can.none other has)) },
        (
          (contains-first (0, own) c.asks, at, omega arith),
          (
            tt,
            (
              tt,
              (
                record { free = can.free; wants = can.wants; quiet = omega (arith, at); own = refl; named = contains-first (name_of put) []; unowed = λ other has. absurd (not-late b.late can.none other has) },
                ((contains-first (0, put) c.sent, can.current), (record { out = carried-out _ (c.store.counter + 1); wants = can.wants }, tt)),
              ),
            ),
          ),
        ),
      ),
      refl,
      λ may. gone-unmade put (after_put put Delivered c.store) gone may.1,
    )

-- nothing is shown by a turn of which nothing is sent
refused-by : (wanted : Option Put) (store : StoreValue) (s : State) → AllShowTerms (entries_put wanted Refused store ++ Turned (core_turn s) ∷ [])
refused-by None store s = (tt, tt)
refused-by (Some put) store s = (tt, (tt, tt))

pub refused-typed : (core : Option State) (store : StoreValue) → AllShowTerms (entries_turned core Refused store)
refused-typed None store = tt
refused-typed (Some s) store = refused-by (put_in (core_turn s)) store s

pub namings_may_be_lost : NamingsMayBeLost
namings_may_be_lost c put can =
    let b = c.bridges 0 in
    let own : Ask = naming c put in
    let ask : Ask = record { at = (c.bridges 1).seen.version; named = (c.bridges 1).seen.named } in
    let at : b.seen.version ≡ c.lease.version = ap (λ (l : Lease). l.version) can.wants.known in
    let other : (c.bridges 1).seen.version ≡ c.lease.version = ap (λ (l : Lease). l.version) can.known in (
      (
        record { quiet = can.wants.quiet; own = inr (ap (λ (l : Lease). l.holder) can.wants.known ∙ can.wants.holds); names = inr (can.wants.free, wants-up b.core put can.wants.wants, λ other has. absurd (not-late b.late can.wants.none other has)) },
        (
          record { quiet = can.quiet; own = inl can.down; names = inl refl },
          (
            (contains-first (1, ask) ((0, own) ∷ c.asks), other, omega arith),
            (tt, (tt, (record { free = can.wants.free; own = tt; may = tt; typed = refused-typed b.core c.store; listed = tt }, tt))),
          ),
        ),
      ),
      λ version may. (let e : b.seen.version ≡ c.lease.version + 1 = may.1 in absurd (omega (arith, e, at))),
      λ wanted may. (let e : 1 ≡ 0 = may.own in absurd (omega (arith, e))),
    )

expired-typed : (core : Option State) → AllShowTerms (entries_expired core groups.Service)
expired-typed None = tt
expired-typed (Some s) = (tt, tt)

pub puts_may_be_owed : PutsMayBeOwed
puts_may_be_owed c put other list can =
    let b = c.bridges 0 in
    let own : Ask = naming c put in
    let both = name_of other ∷ name_of put ∷ [] in
    let ask : Ask = record { at = c.lease.version + 1; named = both } in
    let at : b.seen.version ≡ c.lease.version = ap (λ (l : Lease). l.version) can.sends.known in
    let unsent : Sent ≡ Free → ⊥ = λ e. absurd (cc) in
    let empty : (p : Put) → Contains b.late p → ⊥ = not-late b.late can.sends.none in
    let after_other : StoreValue = after_put other Delivered c.store in
    let then_up = wants-up (answered b.core replies.Unknown) other can.then_wants in
    let gone : IsGone (after_put put Delivered after_other) (name_of put) = gone-carried put after_other can.kept can.still in (
      (
        record { quiet = can.sends.quiet; own = inr (ap (λ (l : Lease). l.holder) can.sends.known ∙ can.sends.holds); names = inr (can.sends.free, wants-up b.core put can.sends.wants, λ p has. absurd (empty p has)) },
        (
          (contains-first (0, own) c.asks, at, omega arith),
          (
            tt,
            (
              tt,
              (
                record { free = can.sends.free; wants = can.sends.wants; quiet = omega (arith, at); own = refl; named = contains-first (name_of put) []; unowed = λ p has. absurd (empty p has) },
                (
                  record { out = unsent; wants = can.sends.wants },
                  (
                    record {
                      quiet = omega (arith, at);
                      own = inr refl;
                      names = inr (
                        refl,
                        then_up,
                        λ p has.
                            ⊎_elim (λ (e : put ≡ p). inr (subst (λ (q : Put). Contains both (name_of q)) e (contains-later (name_of other) (name_of put ∷ []) (name_of put) (contains-first (name_of put) []))))
                            (λ (later : Contains b.late p). absurd (empty p later)) (contains-cons put b.late p has),
                      );
                    },
                    (
                      (contains-first (0, ask) ((0, own) ∷ c.asks), refl, omega arith),
                      (
                        tt,
                        (
                          tt,
                          (
                            record {
                              free = refl;
                              wants = can.then_wants;
                              quiet = omega arith;
                              own = refl;
                              named = contains-first (name_of other) (name_of put ∷ []);
                              unowed = λ p has same.
                                  ⊎_elim (λ (e : put ≡ p). absurd (can.apart (ap (λ (q : Put). q.key) e ∙ same))) (λ (later : Contains b.late p). absurd (empty p later))
                                  (contains-cons put b.late p has);
                            },
                            (
                              (contains-first (0, other) ((0, put) ∷ c.sent), can.current),
                              (
                                ap (λ (here : Bool). carried_out here (c.store.counter + 1) Sent) (ap (is_awaited other) can.then_wants ∙ awaited-itself other),
                                (
                                  (contains-later (0, other) ((0, put) ∷ c.sent) (0, put) (contains-first (0, put) c.sent), can.still),
                                  (
                                    record {
                                      free = carried-free _ (after_other.counter + 1) Free refl;
                                      own = tt;
                                      may = can.listed;
                                      typed = expired-typed (answered (answered b.core replies.Unknown) (replies.Ok (c.store.counter + 1)));
                                      listed = λ p has.
                                          ⊎_elim (λ (e : put ≡ p). subst (λ (q : Put). IsGone (after_put put Delivered after_other) (name_of q)) e gone)
                                          (λ (later : Contains b.late p). absurd (empty p later)) (contains-cons put b.late p has);
                                    },
                                    tt,
                                  ),
                                ),
                              ),
                            ),
                          ),
                        ),
                      ),
                    ),
                  ),
                ),
              ),
            ),
          ),
        ),
      ),
      refl,
    )
