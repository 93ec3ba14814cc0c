-- What was seen to be gone is held back.
use Rattle.std.proofs.Common.{◌≡◌, ℕ, ◌≤◌, Bool, true, false, cond, leb, leb-true, le-leb, ◌||◌, Option, Some, None, is_eq, refl, sym, ap, subst, ◌∙◌, arith}
use Rattle.std.proofs.lemmas.Bool.{true≢false}
use Rattle.std.proofs.Math.Bool.{or-true}
use Rattle.std.specs.Option.{option_map_or}
use Rattle.kube_model.specs.declared.key.Key.{Key}
use Rattle.kube_model.specs.declared.put.Put.{Put}
use Rattle.kube_model.specs.Keys.{key_cmp}
use Rattle.kube_model.proofs.KeyLaws.{is_eq-key_cmp, key_cmp-total, same_key-itself}
use Rattle.kube_model.specs.declared.reply.PutReply.TheVariants as replies
use Rattle.put_fence.specs.declared.answer.Answer.TheVariants as answers
use Rattle.put_fence.specs.declared.known.Known.{Known}
use Rattle.put_fence.specs.declared.output.Output.TheVariants as outputs
use Rattle.put_fence.specs.declared.output.Taken.{Taken}
use Rattle.put_fence.specs.declared.stage.Stage.TheVariants as stages
use Rattle.put_fence.specs.Fences.{is_full, is_gone, is_held_back, is_owed, sees_gone, to, wanted_free}
use Rattle.versioned_map.specs.declared.map.Versioned.{Versioned}
use Rattle.versioned_map.specs.Objects.{held_at, version_at}
use Rattle.versioned_map.proofs.HeldLaws.{held_at-shown}
use Rattle.fence_laws.specs.HeldBack.{AreHeldBack, GoneAreHeldBack}

abbrev version_in : {T : Type 0} → Option (Versioned T) → ℕ
version_in {T} found = option_map_or (λ (v : Versioned T). v.version) found 0

shown_by : {T : Type 0} (old here : Bool) (version : ℕ) (object : T) (found : Option (Versioned T)) → leb version (version_in found) ≡ old → here ≡ true
    → version ≤ version_in (cond old found (cond here (Some (record { version = version; object = object })) found))
shown_by true here version object found e is = leb-true version (version_in found) e
shown_by false true version object found e is = omega arith
shown_by false false version object found e is = absurd (cc)

-- it is gone up to the version of the put that was seen to be gone
seen-to : (put : Put) (k : Known) → put.version ≤ version_at key_cmp (sees_gone put k).gone put.key
seen-to put k =
    let found = held_at key_cmp k.gone put.key in
    subst (λ o. put.version ≤ version_in o) (sym (held_at-shown key_cmp-total k.gone put.key put.key put.version tt))
    (shown_by (leb put.version (version_in found)) (is_eq (key_cmp put.key put.key)) put.version tt found refl
    (is_eq-key_cmp put.key put.key ∙ same_key-itself put.key))

other-gone : (put other : Put) (k : Known) → put.version ≤ version_at key_cmp k.gone put.key → other.key ≡ put.key → other.version ≤ put.version
    → is_gone other k ≡ true
other-gone put other k seen key before =
    let same : version_at key_cmp k.gone other.key ≡ version_at key_cmp k.gone put.key = ap (λ (at : Key). version_at key_cmp k.gone at) key in
    le-leb other.version (version_at key_cmp k.gone other.key) (omega (arith, same, seen, before))

other-held : (other : Put) (k : Known) → is_gone other k ≡ true → is_held_back other k ≡ true
other-held other k gone = ap (λ (b : Bool). (is_owed other k || is_full k) || b) gone ∙ or-true (is_owed other k || is_full k)

held-by : (b : Bool) (held goes : Taken) → b ≡ true → cond b held goes ≡ held
held-by true held goes e = refl
held-by false held goes e = absurd (true≢false (sym e))

held-back : (put : Put) (k : Known) → put.version ≤ version_at key_cmp k.gone put.key → AreHeldBack put k
held-back put k seen (stages.Waiting call) other may key before = absurd may
held-back put k seen (stages.Fencing call next) other may key before = absurd may
held-back put k seen stages.Listing other may key before = absurd may
held-back put k seen (stages.Free call) other may key before =
    held-by (is_held_back other k) (to (stages.Free call) (outputs.Reply replies.Stale) k) (wanted_free call other k)
    (other-held other k (other-gone put other k seen key before))
held-back put k seen (stages.Naming wanted call) other may key before = absurd may
held-back put k seen (stages.Sent sent) other may key before = absurd may
held-back put k seen (stages.Checking checked call tries) other may key before = absurd may
held-back put k seen (stages.Chasing call None) other may key before =
    held-by (is_held_back other k) (to (stages.Chasing call None) (outputs.Reply replies.Stale) k)
    (to (stages.Chasing call (Some other)) outputs.Nothing k) (other-held other k (other-gone put other k seen key before))
held-back put k seen (stages.Chasing call (Some wanted)) other may key before = absurd may
held-back put k seen stages.Relisting other may key before = absurd may
held-back put k seen stages.Lost other may key before = absurd may

-- it is `unknown`, and held back
abbrev IsGivenUp : Put → Taken → Type 0
IsGivenUp put t = (t.output ≡ outputs.Reply replies.Unknown) × AreHeldBack put t.fence.known

by-shown : (shown : Bool) (put : Put) (gone left : Taken) → shown ≡ true → IsGivenUp put gone → IsGivenUp put (cond shown gone left)
by-shown true put gone left e is = is
by-shown false put gone left e is = absurd (true≢false (sym e))

pub gone_are_held_back : GoneAreHeldBack
gone_are_held_back k put call tries (answers.Lease lease) shown = absurd (true≢false (sym shown))
gone_are_held_back k put call tries (answers.At version) shown =
    by-shown _ put _ _ shown (refl, held-back put (sees_gone put k) (seen-to put k))
gone_are_held_back k put call tries answers.Listed shown = absurd (true≢false (sym shown))
gone_are_held_back k put call tries answers.Missing shown = (refl, held-back put (sees_gone put k) (seen-to put k))
gone_are_held_back k put call tries answers.Refused shown = absurd (true≢false (sym shown))
gone_are_held_back k put call tries answers.Unknown shown = absurd (true≢false (sym shown))
