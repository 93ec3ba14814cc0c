-- None comes to await anything where no put is refused for good.
use Rattle.std.proofs.Common.{◌≡◌, Bool, true, false, cond, not, leb, eqb, List}
use Rattle.std.proofs.Common.{Option, Some, None, option_map, refl, sym, ap, subst, ◌∙◌}
use Rattle.std.proofs.lemmas.Bool.{true≢false}
use Rattle.std.proofs.lemmas.Map.Entries.{option_filter}
use Rattle.std.specs.List.Sorted.{IsStrictlySortedBy}
use Rattle.std.specs.Map.{keys_of}
use Rattle.std.specs.Option.{option_map_or}
use Rattle.kube_model.specs.declared.event.Event.{Event}
use Rattle.kube_model.specs.declared.event.ListGroup.TheVariants as groups
use Rattle.kube_model.specs.declared.key.Key.{Key}
use Rattle.kube_model.specs.declared.service.Service.{Service}
use Rattle.kube_model.specs.Keys.{key_cmp, same_key, has_key, without}
use Rattle.kube_model.proofs.KeyLaws.{key_cmp-total, is_eq-key_cmp}
use Rattle.versioned_map.specs.declared.map.Versioned.{Versioned}
use Rattle.versioned_map.specs.Objects.{held_at, listed, version_at as version_held}
use Rattle.versioned_map.proofs.HeldLaws.{held_at-shown, held_at-removed, held_at-listed}
use Rattle.status_store.specs.Changes.{StoreValue}
use Rattle.core_rules.specs.Core.{State}
use Rattle.core_rules.specs.Take.{core_by, core_take, is_unlisted}
use Rattle.core_rules.proofs.Effects.{by_effect, config-services}
use Rattle.core_laws.proofs.Awaiting.{has_key-kept, has_key-without}
use Rattle.world_rules.specs.Good.{stored_of, held_as, IsOfGroup}
use Rattle.world_rules.specs.Tracked.{Shown}
use Rattle.world_rules.proofs.Lanes.{here-same}
use Rattle.settling_laws.specs.Clear.{at_one_version, IsClear}

-- by what is stored and held of a service, and whether it awaits something
pub record IsClearBy (st : Option Shown) (o : Option (Versioned Service)) (awaits : Bool) : Type 0 where
  pub at : at_one_version st (option_map held_as o) ≡ true → awaits ≡ false

-- one that is clear is so in other words
pub clear-as : {st : Option Shown} {o : Option (Versioned Service)} {awaits : Bool} (st' : Option Shown) (o' : Option (Versioned Service)) (awaits' : Bool)
    → st' ≡ st → o' ≡ o → awaits' ≡ awaits → IsClearBy st o awaits → IsClearBy st' o' awaits'
clear-as {st} {o} {awaits} st' o' awaits' a b c clear =
    subst (λ (x : Option Shown). IsClearBy x o' awaits') (sym a)
    (subst (λ (x : Option (Versioned Service)). IsClearBy st x awaits') (sym b) (subst (λ (x : Bool). IsClearBy st o x) (sym c) clear))

pub none-current : (st : Option Shown) → at_one_version st None ≡ true → ⊥
none-current None e = true≢false (sym e)
none-current (Some x) e = true≢false (sym e)

-- ---- events that are taken
shown_by : (old same : Bool) (st : Option Shown) (o : Option (Versioned Service)) (awaits : Bool) (new : Versioned Service) → IsClearBy st o awaits
    → IsClearBy st (cond old o (cond same (Some new) o)) (cond (not old) (cond same false awaits) awaits)
shown_by true same st o awaits new clear = clear
shown_by false true st o awaits new clear = record { at = λ _. refl }
shown_by false false st o awaits new clear = clear

gone_by : (same : Bool) (st : Option Shown) (o : Option (Versioned Service)) (awaits : Bool) → IsClearBy st o awaits
    → IsClearBy st (cond same None o) (cond same false awaits)
gone_by true st o awaits clear = record { at = λ e. absurd (none-current st e) }
gone_by false st o awaits clear = clear

abbrev left_of : Option (Versioned Service) → Option (Versioned Service)
left_of o = option_filter (λ (v : Versioned Service). not (eqb v.version 0)) o

abbrev unlisted_in : Option (Versioned Service) → Bool
unlisted_in o = eqb (option_map_or (λ (v : Versioned Service). v.version) o 0) 0

end_at : (b : Bool) (st : Option Shown) (v : Versioned Service) (awaits : Bool) → eqb v.version 0 ≡ b → IsClearBy st (Some v) awaits
    → (let o : Option (Versioned Service) = cond (not b) (Some v) None in IsClearBy st o (cond (unlisted_in o) false awaits))
end_at true st v awaits e clear = record { at = λ current. absurd (none-current st current) }
end_at false st v awaits e clear = clear-as st (Some v) _ refl refl (ap (λ (b : Bool). cond b false awaits) e) clear

end_by : (st : Option Shown) (o : Option (Versioned Service)) (awaits : Bool) → IsClearBy st o awaits
    → IsClearBy st (left_of o) (cond (unlisted_in (left_of o)) false awaits)
end_by st None awaits clear = record { at = λ current. absurd (none-current st current) }
end_by st (Some v) awaits clear = end_at (eqb v.version 0) st v awaits refl clear

has-either : (b : Bool) (xs ys : List Key) (key : Key) → has_key (cond b xs ys) key ≡ cond b (has_key xs key) (has_key ys key)
has-either true xs ys key = refl
has-either false xs ys key = refl

module _ (store : StoreValue) (s : State) (key : Key) (is : IsClear store s key) where
  clear : IsClearBy (stored_of store key) (held_at key_cmp s.held.services key) (has_key s.awaiting key)
  clear = record { at = is }

  abbrev here : Option (Versioned Service)
  here = held_at key_cmp s.held.services key

  abbrev awaits : Bool
  awaits = has_key s.awaiting key

  abbrev IsClearIn : State → Type 0
  IsClearIn t = IsClearBy (stored_of store key) (held_at key_cmp t.held.services key) (has_key t.awaiting key)

  pub told-clear : (event : Event) → IsOfGroup groups.Config event → IsClearIn (core_take s event)
  told-clear = by_effect (λ event c. IsOfGroup groups.Config event → IsClearIn (core_by c s event))
      (λ version service of. absurd (cc)) (λ gone of. absurd (cc)) (λ of. absurd (cc))
      (λ event c of. clear-as _ _ _ refl (ap (λ (es : List (Key × Versioned Service)). held_at key_cmp es key) (config-services event s.held c)) refl clear)
      (λ of. absurd of) (λ event of. clear)

  pub took-clear : IsStrictlySortedBy key_cmp (keys_of s.held.services) → (event : Event) → IsOfGroup groups.Service event → IsClearIn (core_take s event)
  took-clear sorted = by_effect (λ event c. IsOfGroup groups.Service event → IsClearIn (core_by c s event))
      (λ version service of.
      let old = leb version (version_held key_cmp s.held.services service.key) in
      let same = same_key service.key key in
      let new : Versioned Service = record { version = version; object = service } in
      clear-as _ _ _ refl
      (held_at-shown key_cmp-total s.held.services service.key key version service
      ∙ ap (λ (b : Bool). cond old here (cond b (Some new) here)) (here-same key service.key))
      (has-either (not old) (without service.key s.awaiting) s.awaiting key
      ∙ ap (λ (b : Bool). cond (not old) b awaits) (has_key-without service.key s.awaiting key))
      (shown_by old same (stored_of store key) here awaits new clear))
      (λ gone of.
      clear-as _ _ _ refl
      (held_at-removed key_cmp-total s.held.services gone key sorted ∙ ap (λ (b : Bool). cond b None here) (is_eq-key_cmp gone key))
      (has_key-without gone s.awaiting key) (gone_by (same_key gone key) (stored_of store key) here awaits clear))
      (λ of.
      let left = held_at-listed key_cmp-total s.held.services key sorted in
      clear-as _ _ _ refl left
      (has_key-kept (is_unlisted (listed s.held.services)) s.awaiting key
      ∙ ap (λ (o : Option (Versioned Service)). cond (unlisted_in o) false awaits) left)
      (end_by (stored_of store key) here awaits clear))
      (λ event c of. clear-as _ _ _ refl (ap (λ (es : List (Key × Versioned Service)). held_at key_cmp es key) (config-services event s.held c)) refl clear)
      (λ of. absurd of)
      (λ event of. clear)
