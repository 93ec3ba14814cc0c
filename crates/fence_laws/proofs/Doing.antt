-- What a fence does, one happening at a time.
use Rattle.std.proofs.Common.{◌≡◌, ◌≢◌, ◌⊎◌, ℕ, ◌<◌, Bool, true, false, eqb, cond, List, [], ◌∷◌, Some, None, ⊎_elim}
use Rattle.std.proofs.Common.{refl, sym, ap, subst, ◌∙◌, arith}
use Rattle.std.proofs.lemmas.Bool.{eqb-true}
use Rattle.std.specs.List.{Contains}
use Rattle.mlb_base.proofs.Among.{contains-cons}
use Rattle.kube_model.specs.declared.put.Put.{Put}
use Rattle.kube_model.specs.declared.reply.PutReply.TheVariants as replies
use Rattle.status_store.specs.declared.change.Outcome.TheVariants.{Refused}
use Rattle.world_rules.specs.Moves.{Turns, after_move}
use Rattle.world_rules.specs.World.{next_put}
use Rattle.fence_rules.specs.Cluster as clusters
use Rattle.fence_rules.specs.Cluster.{Bridge, Cluster, Happening, Asks, Carried, Does, GivesUp, Hears, Reads, Sends, AreCovered, IsGone, IsQuiet, MayHappen, after, name_of, with_bridge}
use Rattle.fence_rules.proofs.Histories.{refused-typed}
use Rattle.fence_rules.proofs.Steps.{at-itself}
use Rattle.put_fence.specs.declared.fence.Fence.{Fence}
use Rattle.put_fence.specs.declared.known.Known.{Known}
use Rattle.put_fence.specs.declared.lease.Asked.{Asked}
use Rattle.put_fence.specs.declared.lease.Lease.{Lease}
use Rattle.put_fence.specs.declared.lease.ServiceVersion.{ServiceVersion}
use Rattle.put_fence.specs.declared.stage.Stage.{Stage}
use Rattle.fence_laws.specs.Follows.{Directory, Follows, IsAt, Knows, lease_of, names_of}
use Rattle.fence_laws.specs.Runs.{IsFollowed}

-- nothing happens
pub nothing : (who : Directory) (i : ℕ) (c : Cluster) (f : Fence) → Follows who i f c.store (c.bridges i) → IsFollowed who i [] c f
nothing who i c f follows = record { may = tt; store = refl; others = λ j other. refl; follows = follows }

other_by : (j i : ℕ) (here : Bool) (b old : Bridge) → eqb j i ≡ here → ¬ (j ≡ i) → cond here b old ≡ old
other_by j i true b old e other = absurd (other (eqb-true j i e))
other_by j i false b old e other = refl

pub at-others : (i : ℕ) (b : Bridge) (bridges : ℕ → Bridge) (j : ℕ) → ¬ (j ≡ i) → with_bridge i b bridges j ≡ bridges j
at-others i b bridges j other = other_by j i (eqb j i) b (bridges j) refl other

module _ (who : Directory) (i : ℕ) (c : Cluster) where
  -- one thing happens to the bridge
  pub one : (happening : Happening) (f : Fence) (b : Bridge) → MayHappen happening c → (after happening c).store ≡ c.store
      → (after happening c).bridges ≡ with_bridge i b c.bridges → Follows who i f c.store b → IsFollowed who i (happening ∷ []) c f
  one happening f b may store is follows = record {
    may = (may, tt);
    store = store;
    others = λ j other. ap (λ (bridges : ℕ → Bridge). bridges j) is ∙ at-others i b c.bridges j other;
    follows = subst (Follows who i f c.store) (sym (ap (λ (bridges : ℕ → Bridge). bridges i) is ∙ at-itself i b c.bridges)) follows;
  }

  -- the bridge once the Lease was read
  abbrev pub having_read : Bridge
  having_read = let b = c.bridges i in record b { seen = b.given }

  pub at-read : (P : Bridge → Type 0) → P having_read → P ((after (Reads i) c).bridges i)
  at-read P is = subst P (sym (at-itself i having_read c.bridges)) is

  -- the Lease is read first
  pub reads-first : (more : List Happening) (f : Fence) → IsFollowed who i more (after (Reads i) c) f → IsFollowed who i (Reads i ∷ more) c f
  reads-first more f then_more = record {
    may = (tt, then_more.may);
    store = then_more.store;
    others = λ j other. then_more.others j other ∙ at-others i having_read c.bridges j other;
    follows = then_more.follows;
  }

  -- it asks for the Lease
  pub asks : (k : Known) (lease : Lease) (named : List ServiceVersion) (stage : Stage) → Knows who i k c.store (c.bridges i) → k.seen ≡ Some lease
      → k.asked.at < lease.version → ((c.bridges i).core ≡ None) ⊎ ((c.bridges i).seen.holder ≡ i)
      → (names_of named ≡ (c.bridges i).seen.named)
      ⊎ (((c.bridges i).phase ≡ clusters.Free) × ((c.bridges i).core ≢ None) × AreCovered c.store (names_of named) (c.bridges i).late)
      → ((made : Asked) (ask : clusters.Ask) → IsAt stage (record k { asked = made }) c.store (let b = c.bridges i in record b { ask = ask }))
      → IsFollowed who i (Asks i (names_of named) ∷ []) c
      (record { known = record k { asked = record { at = lease.version; named = named } }; stage = stage })
  asks k lease named stage knows is later own names at =
      let b = c.bridges i in
      let seen : b.seen ≡ lease_of who lease = knows.seen lease is in
      let version : b.seen.version ≡ lease.version = ap (λ (l : clusters.Lease). l.version) seen in
      let asked : b.ask.at ≡ k.asked.at = ap (λ (a : clusters.Ask). a.at) knows.asked in
      let ask : clusters.Ask = record { at = b.seen.version; named = names_of named } in
      let made : Asked = record { at = lease.version; named = named } in
      let ask_at : ℕ → clusters.Ask = λ n. record { at = n; named = names_of named } in
      let next : Known = record k { asked = made } in
      one (Asks i (names_of named)) (record { known = next; stage = stage }) (record b { ask = ask })
      (record { quiet = omega (arith, version, asked, later); own = own; names = names }) refl refl
      (record { knows = record { named = knows.named; asked = ap ask_at version; seen = knows.seen; owed = knows.owed }; at = at made ask })

  -- it sends its put
  pub sends : (put : Put) (k : Known) (stage : Stage) → Knows who i k c.store (c.bridges i) → (c.bridges i).phase ≡ clusters.Free
      → next_put (c.bridges i).core ≡ Some put → IsQuiet (c.bridges i) → (c.bridges i).seen.holder ≡ i
      → Contains (c.bridges i).seen.named (name_of put)
      → ((other : Put) → Contains (c.bridges i).late other → other.key ≡ put.key → IsGone c.store (name_of other))
      → IsAt stage k c.store (let b = c.bridges i in record b { phase = clusters.Sent })
      → IsFollowed who i (Sends i put ∷ []) c (record { known = k; stage = stage })
  sends put k stage knows free wants quiet own named unowed at =
      let b = c.bridges i in
      one (Sends i put) (record { known = k; stage = stage }) (record b { phase = clusters.Sent })
      (record { free = free; wants = wants; quiet = quiet; own = own; named = named; unowed = unowed }) refl refl
      (record { knows = record { named = knows.named; asked = knows.asked; seen = knows.seen; owed = knows.owed }; at = at })

  -- the program hears `ok`
  pub hears : (version : ℕ) (k : Known) (stage : Stage) → Knows who i k c.store (c.bridges i) → (c.bridges i).phase ≡ Carried version
      → ((b : Bridge) → b.phase ≡ clusters.Free → IsAt stage k c.store b) → IsFollowed who i (Hears i version ∷ []) c (record { known = k; stage = stage })
  hears version k stage knows carried at =
      let b = c.bridges i in
      let next : Bridge = record b { core = clusters.answered b.core (replies.Ok version); phase = clusters.Free } in
      one (Hears i version) (record { known = k; stage = stage }) next carried refl refl
      (record { knows = record { named = knows.named; asked = knows.asked; seen = knows.seen; owed = knows.owed }; at = at next refl })

  -- it hears `unknown` of a put that is gone, or owed
  pub gives-up : (put : Put) (k : Known) (stage : Stage) → Knows who i k c.store (c.bridges i) → (c.bridges i).phase ≢ clusters.Free
      → next_put (c.bridges i).core ≡ Some put → IsGone c.store (name_of put) ⊎ Contains (names_of k.owed) (name_of put)
      → ((b : Bridge) → b.phase ≡ clusters.Free → IsAt stage k c.store b) → IsFollowed who i (GivesUp i put ∷ []) c (record { known = k; stage = stage })
  gives-up put k stage knows out wants gone at =
      let b = c.bridges i in
      let next : Bridge = record b { core = clusters.answered b.core replies.Unknown; phase = clusters.Free; late = put ∷ b.late } in
      let covered : AreCovered c.store (names_of k.owed) (put ∷ b.late) = λ other has.
      ⊎_elim (λ (e : put ≡ other). subst (λ (p : Put). IsGone c.store (name_of p) ⊎ Contains (names_of k.owed) (name_of p)) e gone)
      (λ (later : Contains b.late other). knows.owed other later) (contains-cons put b.late other has) in
      one (GivesUp i put) (record { known = k; stage = stage }) next (record { out = out; wants = wants }) refl refl
      (record { knows = record { named = knows.named; asked = knows.asked; seen = knows.seen; owed = covered }; at = at next refl })

  -- it hears `stale` of what isn't sent
  pub refuses : (k : Known) (stage : Stage) → Knows who i k c.store (c.bridges i) → (c.bridges i).phase ≡ clusters.Free
      → ((b : Bridge) → b.phase ≡ clusters.Free → IsAt stage k c.store b) → IsFollowed who i (Does i (Turns Refused) ∷ []) c (record { known = k; stage = stage })
  refuses k stage knows free at =
      let b = c.bridges i in
      let next : Bridge = clusters.in_world (after_move (Turns Refused) (clusters.world_of c.class c.store b)) b in
      one (Does i (Turns Refused)) (record { known = k; stage = stage }) next
      (record { free = free; own = tt; may = tt; typed = refused-typed b.core c.store; listed = tt }) refl refl
      (record { knows = record { named = knows.named; asked = knows.asked; seen = knows.seen; owed = knows.owed }; at = at next free })
