-- What is held after an event is the cache's, and the members are told apart from it.
use Rattle.std.proofs.Common.{◌≡◌, ◌↔◌, ℕ, List, Option, Some, Result, Ok, Err, refl, sym, ap, ◌∙◌}
use Rattle.std.specs.Result.{OnOk}
use Rattle.kube_model.specs.declared.event.Event.{Event}
use Rattle.kube_model.specs.declared.event.Event.TheVariants.{Changed, Deleted, ListEnd, Expired, Members, Frame, Ignored}
use Rattle.kube_model.specs.declared.object.Kind.{Kind}
use Rattle.object_cache.specs.declared.change.Applied.{Applied}
use Rattle.object_cache.specs.declared.change.ApplyFault.{ApplyFault}
use Rattle.object_cache.specs.declared.change.ApplyFault.TheVariants.{Limit}
use Rattle.object_cache.specs.declared.change.TakeNote.{TakeNote}
use Rattle.object_cache.specs.Limits.{limit_of}
use Rattle.object_history.specs.Observations.{Watched}
use Rattle.object_history.specs.Cache.{Cached, cached_after}
use Rattle.speaker_view.specs.View.{members_after, view_after}
use Rattle.speaker_view.specs.ViewValue.{ViewValue}

abbrev limit : {T : Type 0} → Kind → ℕ → Result T ApplyFault
limit kind count = Err (Limit kind count)

-- an answer is at a limit exactly where this says so
abbrev pub TellsLimit : {T : Type 0} → Result T ApplyFault → Option (Kind × ℕ) → Type 0
TellsLimit answer passed = (kind : Kind) (count : ℕ) → (answer ≡ Err (Limit kind count)) ↔ (passed ≡ Some (kind, count))

pub limit-ok : (a : Applied) (note : TakeNote) (passed : Option (Kind × ℕ)) → TellsLimit {T = Applied} (Ok a) passed
    → TellsLimit {T = TakeNote} (Ok note) passed
limit-ok a note passed h kind count = (
  λ e. absurd (cc),
  λ e. let wrong : Ok a ≡ limit kind count = (h kind count).1 e in absurd (cc),
)

pub limit-err : {A B : Type 0} (fault : ApplyFault) (passed : Option (Kind × ℕ)) → TellsLimit {T = A} (Err fault) passed → TellsLimit {T = B} (Err fault) passed
limit-err {A} {B} fault passed h kind count = (
  λ e. let same : fault ≡ Limit kind count = cc in (h kind count).0 (cc),
  λ e. let there : Err fault ≡ limit {T = A} kind count = (h kind count).1 e in let same : fault ≡ Limit kind count = cc in (cc),
)

-- the same of what is seen of a view
pub limit-seen : (answer : Result TakeNote ApplyFault) (held held' : Cached) (event : Event) → held' ≡ held → TellsLimit answer (limit_of held' event)
    → TellsLimit answer (limit_of held event)
limit-seen answer held held' event at h kind count =
    let is : limit_of held' event ≡ limit_of held event = ap (λ (x : Cached). limit_of x event) at in
    (λ e. sym is ∙ (h kind count).0 e, λ e. (h kind count).1 (is ∙ e))

-- an event that doesn't tell the members leaves them
members-stay : (event : Event) (members : List (List ℕ)) → ((names : List (List ℕ)) → event ≡ Members names → ⊥) → members_after event members ≡ members
members-stay (Members names) members other = absurd (other names refl)
members-stay (Changed version object) members other = refl
members-stay (Deleted kind key) members other = refl
members-stay (ListEnd group) members other = refl
members-stay Expired members other = refl
members-stay (Frame interface bytes) members other = refl
members-stay Ignored members other = refl

applied-view : (v : ViewValue) (class : Option (List ℕ)) (cache cache' : Cached) (members : List (List ℕ)) (event : Event)
    → record { class = class; held = cache; members = members } ≡ v → ((names : List (List ℕ)) → event ≡ Members names → ⊥)
    → cache' ≡ cached_after (Watched event) cache
    → record { class = class; held = cache'; members = members } ≡ view_after event v
applied-view v class cache cache' members event is other new =
    let with_held : Cached → ViewValue = λ h. record { class = class; held = h; members = members } in
    let with_members : List (List ℕ) → ViewValue = λ m. record { class = class; held = cached_after (Watched event) cache; members = m } in
    ap with_held new ∙ ap with_members (sym (members-stay event members other)) ∙ ap (view_after event) is

pub applied-on_ok : (answer : Result TakeNote ApplyFault) (v : ViewValue) (class : Option (List ℕ)) (cache cache' : Cached) (members : List (List ℕ))
    (event : Event)
    → record { class = class; held = cache; members = members } ≡ v → ((names : List (List ℕ)) → event ≡ Members names → ⊥)
    → OnOk answer (cache' ≡ cached_after (Watched event) cache)
    → OnOk answer (record { class = class; held = cache'; members = members } ≡ view_after event v)
applied-on_ok (Ok note) v class cache cache' members event is other new = applied-view v class cache cache' members event is other new
applied-on_ok (Err fault) v class cache cache' members event is other new = tt
