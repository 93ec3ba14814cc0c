-- A fence stands for its bridge, whatever else happens.
use Rattle.std.proofs.Common.{◌≡◌, ◌≢◌, ℕ, ◌<◌, ◌+◌, Bool, true, false, List, Some, None, ⊎_elim, inl, inr, refl, sym, ap, subst, ◌∙◌, arith}
use Rattle.std.specs.List.{Contains}
use Rattle.kube_model.specs.declared.key.Key.{Key}
use Rattle.kube_model.specs.declared.put.Put.{Put}
use Rattle.status_store.specs.Changes.{StoreValue}
use Rattle.world_rules.specs.World.{next_put}
use Rattle.fence_rules.specs.Cluster as clusters
use Rattle.fence_rules.specs.Cluster.{Ask, Bridge, Cluster, Happening, Edits, Carries, Changes, Gives, Reads, Asks, Starts, Does, Hears, GivesUp}
use Rattle.fence_rules.specs.Cluster.{AreCovered, AreGone, IsGone, IsQuiet, MayHappen, after, carried_out, name_of, store_alone, world_of}
use Rattle.fence_rules.specs.Fenced.{IsFenced}
use Rattle.fence_rules.proofs.Gone.{gone-all, gone-edit, gone-put}
use Rattle.fence_rules.proofs.Steps.{by-bridge, store-of}
use Rattle.fence_rules.proofs.Worlds.{edit-core}
use Rattle.put_fence.specs.declared.fence.Fence.{Fence}
use Rattle.put_fence.specs.declared.known.Known.{Known}
use Rattle.put_fence.specs.declared.stage.Stage.{Stage}
use Rattle.put_fence.specs.declared.stage.Stage.TheVariants.{Waiting, Fencing, Listing, Free, Naming, Sent, Checking, Chasing, Relisting, Lost}
use Rattle.fence_laws.specs.Follows.{Directory, Follows, IsAt, name_at, names_of}
use Rattle.fence_laws.specs.Runs.{IsOutside}

-- what is gone stays so, whatever happens
pub stays-gone : (happening : Happening) (c : Cluster) → IsFenced c → MayHappen happening c → (n : Key × ℕ) → IsGone c.store n
    → IsGone (after happening c).store n
stays-gone (Edits move) c f may n gone = gone-edit move (store_alone c) n may.0 (store-of c f).kept gone
stays-gone (Carries by put) c f may n gone = gone-put put c.store n gone
stays-gone (Changes by ask version) c f may n gone = gone
stays-gone (Gives i) c f may n gone = gone
stays-gone (Reads i) c f may n gone = gone
stays-gone (Asks i named) c f may n gone = gone
stays-gone (Starts i list) c f may n gone = gone
stays-gone (Does i move) c f may n gone = gone
stays-gone (clusters.Sends i put) c f may n gone = gone
stays-gone (Hears i version) c f may n gone = gone
stays-gone (GivesUp i put) c f may n gone = gone

-- the bridge is as before, but for its lane, what it was given, and whether its put was carried out
pub record IsLike (b next : Bridge) : Type 0 where
  pub seen : next.seen ≡ b.seen
  pub ask : next.ask ≡ b.ask
  pub core : next.core ≡ b.core
  pub late : next.late ≡ b.late
  pub free : b.phase ≡ clusters.Free → next.phase ≡ clusters.Free
  pub out : b.phase ≢ clusters.Free → next.phase ≢ clusters.Free

like-quiet : (b next : Bridge) → IsLike b next → IsQuiet b → IsQuiet next
like-quiet b next like quiet =
    let seen : next.seen.version ≡ b.seen.version = ap (λ (l : clusters.Lease). l.version) like.seen in
    let ask : next.ask.at ≡ b.ask.at = ap (λ (a : Ask). a.at) like.ask in
    let lt : b.ask.at < b.seen.version = quiet in
    omega (arith, seen, ask, lt)

like-named : (b next : Bridge) → IsLike b next → next.seen.named ≡ b.seen.named
like-named b next like = ap (λ (l : clusters.Lease). l.named) like.seen

module _ (old new : StoreValue) (gone : (n : Key × ℕ) → IsGone old n → IsGone new n) (b next : Bridge) (like : IsLike b next) where
  like-at : (stage : Stage) (k : Known) → IsAt stage k old b → IsAt stage k new next
  like-at (Waiting call) k at = (like.core ∙ at.0, like.free at.1)
  like-at (Fencing call place) k at = record {
    free = like.free at.free;
    quiet = like-quiet b next like at.quiet;
    named = like-named b next like ∙ at.named;
    gone = λ before lt n is. gone (name_at n) (at.gone before lt n is);
  }
  like-at Listing k at = record {
    free = like.free at.free;
    quiet = like-quiet b next like at.quiet;
    gone = subst (AreGone new) (sym (like-named b next like)) (gone-all old new gone b.seen.named at.gone);
  }
  like-at (Free call) k at = like.free at
  like-at (Naming put call) k at = record { free = like.free at.free; wants = ap next_put like.core ∙ at.wants; unowed = at.unowed }
  like-at (Sent put) k at = record { out = like.out at.out; wants = ap next_put like.core ∙ at.wants }
  like-at (Checking put call tries) k at = record { out = like.out at.out; wants = ap next_put like.core ∙ at.wants }
  like-at (Chasing call None) k at = like.free at
  like-at (Chasing call (Some put)) k at = record { free = like.free at.free; wants = ap next_put like.core ∙ at.wants; unowed = at.unowed }
  like-at Relisting k at = (like.free at.0, at.1)
  like-at Lost k at = tt

  like-covered : (named : clusters.Named) → AreCovered old named b.late → AreCovered new named next.late
  like-covered named covered put has =
      ⊎_elim (λ (g : IsGone old (name_of put)). inl (gone (name_of put) g)) (λ (n : Contains named (name_of put)). inr n)
      (covered put (subst (λ (puts : List Put). Contains puts put) like.late has))

  pub like-follows : (who : Directory) (i : ℕ) (f : Fence) → Follows who i f old b → Follows who i f new next
  like-follows who i f follows = record {
    knows = record {
      named = follows.knows.named;
      asked = like.ask ∙ follows.knows.asked;
      seen = λ lease is. like.seen ∙ follows.knows.seen lease is;
      owed = like-covered (names_of f.known.owed) follows.knows.owed;
    };
    at = like-at f.stage f.known follows.at;
  }

carried-free : (here : Bool) (version : ℕ) (phase : clusters.Phase) → phase ≡ clusters.Free → carried_out here version phase ≡ clusters.Free
carried-free true version clusters.Free e = refl
carried-free true version clusters.Sent e = absurd (cc)
carried-free true version (clusters.Carried earlier) e = absurd (cc)
carried-free false version phase e = e

carried-out : (here : Bool) (version : ℕ) (phase : clusters.Phase) → phase ≢ clusters.Free → carried_out here version phase ≢ clusters.Free
carried-out true version clusters.Free out = out
carried-out true version clusters.Sent out = λ (e : clusters.Carried version ≡ clusters.Free). absurd (cc)
carried-out true version (clusters.Carried earlier) out = out
carried-out false version phase out = out

same-like : (b : Bridge) → IsLike b b
same-like b = record { seen = refl; ask = refl; core = refl; late = refl; free = λ e. e; out = λ e. e }

-- what comes from outside leaves each bridge like before
outside-like : (happening : Happening) → IsOutside happening → (c : Cluster) → MayHappen happening c → (j : ℕ)
    → IsLike (c.bridges j) ((after happening c).bridges j)
outside-like (Edits move) is c may j =
    record { seen = refl; ask = refl; core = edit-core move may.0 (world_of c.class c.store (c.bridges j)); late = refl; free = λ e. e; out = λ e. e }
outside-like (Carries by put) is c may j = record {
  seen = refl;
  ask = refl;
  core = refl;
  late = refl;
  free = carried-free _ (c.store.counter + 1) (c.bridges j).phase;
  out = carried-out _ (c.store.counter + 1) (c.bridges j).phase;
}
outside-like (Changes by ask version) is c may j = same-like (c.bridges j)
outside-like (Gives i) is c may j =
    let b = c.bridges i in
    by-bridge (λ j x. IsLike (c.bridges j) x) i (record b { given = c.lease }) c.bridges
    (record { seen = refl; ask = refl; core = refl; late = refl; free = λ e. e; out = λ e. e }) (λ j. same-like (c.bridges j)) j
outside-like (Reads i) is c may j = absurd is
outside-like (Asks i named) is c may j = absurd is
outside-like (Starts i list) is c may j = absurd is
outside-like (Does i move) is c may j = absurd is
outside-like (clusters.Sends i put) is c may j = absurd is
outside-like (Hears i version) is c may j = absurd is
outside-like (GivesUp i put) is c may j = absurd is

-- so each fence stands for its bridge still
pub outside-follows : (happening : Happening) → IsOutside happening → (c : Cluster) → IsFenced c → MayHappen happening c → (who : Directory) (j : ℕ) (f : Fence)
    → Follows who j f c.store (c.bridges j) → Follows who j f (after happening c).store ((after happening c).bridges j)
outside-follows happening is c fenced may who j f follows =
    like-follows c.store (after happening c).store (stays-gone happening c fenced may) (c.bridges j) ((after happening c).bridges j)
    (outside-like happening is c may j) who j f follows
