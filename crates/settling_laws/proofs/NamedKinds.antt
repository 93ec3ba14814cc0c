-- What is stored, held and pending of one kind of the configuration, by name.
use Rattle.std.proofs.Common.{◌≡◌, ◌≢◌, ℕ, ◌+◌, ◌<◌, Bool, true, false, cond, ltb, eqb, ◌&&◌, ◌||◌, List, [], ◌∷◌, ◌++◌, map, flat_map}
use Rattle.std.proofs.Common.{Option, Some, None, option_map, Ordering, Less, is_eq, ◌⊎◌, inl, inr, ⊎_elim, refl, sym, ap, subst, ◌∙◌, arith, lt-ltb}
use Rattle.std.proofs.lemmas.Bool.{true≢false, false_from_ne_true, and_parts, eqb-true}
use Rattle.std.specs.Bool.{then_some}
use Rattle.std.specs.List.{AllByRecursion, Contains}
use Rattle.std.specs.List.Sorted.{IsStrictlySortedBy}
use Rattle.std.specs.Map.{keys_of}
use Rattle.std.specs.Ordering.{ordering_then}
use Rattle.std.proofs.lemmas.Map.Made.{lookup-map_values, keys_of-map_values}
use Rattle.std.specs.BTreeMap.{is_at}
use Rattle.std.specs.Cmp.{Equal-is, tied_itself, nat_cmp_total}
use Rattle.mlb_base.proofs.Among.{contains-first, contains-later, contains-cons, contains-none}
use Rattle.kube_labels.specs.Names.{name_cmp}
use Rattle.kube_labels.proofs.NameLaws.{name_cmp-total, name_cmp-exact}
use Rattle.kube_model.specs.declared.event.Event.{Event}
use Rattle.kube_model.specs.declared.event.Event.TheVariants.{Changed, Deleted, ListEnd}
use Rattle.kube_model.specs.declared.event.ListGroup.{ListGroup}
use Rattle.kube_model.specs.declared.event.ListGroup.TheVariants as groups
use Rattle.kube_model.specs.declared.key.Key.{Key}
use Rattle.kube_model.specs.declared.object.Kind.{Kind}
use Rattle.kube_model.specs.declared.object.Kind.TheVariants as kinds
use Rattle.kube_model.specs.declared.object.Object.{Object}
use Rattle.kube_model.specs.declared.object.Object.TheVariants as objects
use Rattle.kube_model.specs.Keys.{key_cmp}
use Rattle.kube_model.specs.Kinds.{kind_of, group_of}
use Rattle.versioned_map.specs.declared.map.Versioned.{Versioned}
use Rattle.versioned_map.specs.Objects.{held_at, object_at}
use Rattle.versioned_map.proofs.Unique.{entries-same}
use Rattle.pool_config.specs.Objects.{named}
use Rattle.object_history.specs.Kinds.{Resource, deletes_named, no_record}
use Rattle.object_history.specs.Kinds.{show_pool, show_l2, show_bgp, show_peer, show_community, show_namespace}
use Rattle.object_history.specs.Observations.{Watched, same_group, same_kind}
use Rattle.object_history.specs.LookBack.{names_key, newer_than, of_key, seen_after, version_of}
use Rattle.status_store.specs.declared.stored.Stored.{Stored}
use Rattle.status_store.specs.Places.{Place, bare_key, kind_rank, place_of, place_cmp}
use Rattle.status_store.specs.Objects.{IsAscending, is_of, places_of, stored_at}
use Rattle.status_store.specs.Changes.{StoreValue}
use Rattle.status_store.proofs.PlaceLaws.{place_cmp-total, place_cmp-exact}
use Rattle.status_store.proofs.StoredLaws.{is_of-is, is_of-by, found-stored, stored-found}
use Rattle.settling_laws.specs.Configured.{held_behind, LeadsTo}
use Rattle.settling_laws.specs.StoredConfig.{entry_of, stored_in}

bool_by : (a b : Bool) → (a ≡ true → b ≡ true) → (b ≡ true → a ≡ true) → a ≡ b
bool_by true true f g = refl
bool_by false false f g = refl
bool_by true false f g = sym (f refl)
bool_by false true f g = g refl

mapped : {X : Type 0} → (o : Option X) → option_map (λ x. x) o ≡ o
mapped None = refl
mapped (Some x) = refl

either_same : {X : Type 0} → (b : Bool) (x : X) → cond b x x ≡ x
either_same true x = refl
either_same false x = refl

-- ---- kinds whose objects stand under names
module _ {T : Type 0} (kind : Kind) (shown : Object → Option (List ℕ × T)) where
  abbrev pub resource : Resource (List ℕ) T
  resource = record { cmp = name_cmp; group = groups.Config; shown = shown; deleted = deletes_named kind; recorded = no_record }

  -- where an object of the kind stands
  abbrev pub place : List ℕ → Place
  place name = (kind, bare_key name)

  -- an object is of the kind, and stands under its name; or it is of another
  abbrev pub StandsRight : Object → Type 0
  StandsRight object =
      ((p : List ℕ × T) × (shown object ≡ Some p) × (place_of object ≡ place p.0)) ⊎ ((shown object ≡ None) × (kind_of object ≢ kind))

  -- what is asked of a kind
  pub record IsNamed : Type 0 where
    pub stands : (object : Object) → StandsRight object
    pub same : (k : Kind) → same_kind kind k ≡ true → kind ≡ k
    pub itself : same_kind kind kind ≡ true
    pub group : group_of kind ≡ groups.Config

  -- what a stored object is, where it is of the kind
  abbrev pub at : ℕ → Option (List ℕ × T) → Option (Versioned T)
  at version None = None
  at version (Some p) = Some (record { version = version; object = p.1 })

  abbrev pub as_held : Option Stored → Option (Versioned T)
  as_held None = None
  as_held (Some held) = at held.version (shown held.object)

  name-place : (name other : List ℕ) → is_eq (place_cmp (place name) (place other)) ≡ is_eq (name_cmp name other)
  name-place name other =
      bool_by (is_eq (place_cmp (place name) (place other))) (is_eq (name_cmp name other))
      (λ e.
      let same : place name ≡ place other = place_cmp-exact (place name) (place other) ((Equal-is (place_cmp (place name) (place other))).0 e) in
      let is : name ≡ other = ap (λ (q : Place). q.1.name) same in
      subst (λ (x : List ℕ). is_eq (name_cmp name x) ≡ true) is (ap is_eq (tied_itself name_cmp-total name)))
      (λ e.
      let is : name ≡ other = name_cmp-exact name other ((Equal-is (name_cmp name other)).0 e) in
      subst (λ (x : List ℕ). is_eq (place_cmp (place name) (place x)) ≡ true) is (ap is_eq (tied_itself place_cmp-total (place name))))

  module _ (law : IsNamed) where
    stands_here : (held : Stored) (name : List ℕ) (p : List ℕ × T) → place_of held.object ≡ place p.0 → is_of (place name) held ≡ is_eq (name_cmp name p.0)
    stands_here held name p e = ap (λ (q : Place). is_eq (place_cmp (place name) q)) e ∙ name-place name p.0

    stands_elsewhere : (held : Stored) (name : List ℕ) → kind_of held.object ≢ kind → is_of (place name) held ≡ false
    stands_elsewhere held name other =
        false_from_ne_true (is_of (place name) held) (λ e. other (ap (λ (q : Place). q.0) (is_of-is (place name) held e)))

    -- ---- a look-up in what is stored
    first_by : (b : Bool) (held : Stored) (p : List ℕ × T) (rest : Option (Versioned T)) (more : Option Stored) → shown held.object ≡ Some p
        → rest ≡ as_held more
        → cond b (Some (record { version = held.version; object = p.1 })) rest ≡ as_held (cond b (Some held) more)
    first_by true held p rest more is e = sym (ap (at held.version) is)
    first_by false held p rest more is e = e

    abbrev entries : List Stored → List (List ℕ × Versioned T)
    entries held = flat_map (λ (x : Stored). entry_of x.version (shown x.object)) held

    lookup : (held : List Stored) (name : List ℕ) → held_at name_cmp (entries held) name ≡ as_held (stored_at held (place name))
    lookup [] name = refl
    lookup (held ∷ more) name =
        ⊎_elim
        (λ one.
        ap (λ (o : Option (List ℕ × T)). held_at name_cmp (entry_of held.version o ++ entries more) name) one.1
        ∙ first_by (is_eq (name_cmp name one.0.0)) held one.0 (held_at name_cmp (entries more) name) (stored_at more (place name)) one.1 (lookup more name)
        ∙ ap (λ (b : Bool). as_held (cond b (Some held) (stored_at more (place name)))) (sym (stands_here held name one.0 one.2)))
        (λ none.
        ap (λ (o : Option (List ℕ × T)). held_at name_cmp (entry_of held.version o ++ entries more) name) none.0
        ∙ lookup more name
        ∙ ap (λ (b : Bool). as_held (cond b (Some held) (stored_at more (place name)))) (sym (stands_elsewhere held name none.1)))
        (law.stands held.object)

    pub stored-under : (store : StoreValue) (name : List ℕ) → held_at name_cmp (stored_in resource store) name ≡ as_held (stored_at store.objects (place name))
    stored-under store name = lookup store.objects name

    -- ---- what is stored stands by name
    less-name : (name other : List ℕ) → place_cmp (place name) (place other) ≡ Less → name_cmp name other ≡ Less
    less-name name other e =
        let keys : key_cmp (bare_key name) (bare_key other) ≡ Less =
        subst (λ (r : Ordering). ordering_then r (key_cmp (bare_key name) (bare_key other)) ≡ Less) (tied_itself nat_cmp_total (kind_rank kind)) e in
        subst (λ (r : Ordering). ordering_then r (name_cmp name other) ≡ Less) (tied_itself name_cmp-total []) keys

    abbrev IsBelow : List ℕ → List (List ℕ × Versioned T) → Type 0
    IsBelow name es = AllByRecursion (λ (other : List ℕ). name_cmp name other ≡ Less) (keys_of es)

    below : (name : List ℕ) (held : List Stored) → AllByRecursion (λ (q : Place). place_cmp (place name) q ≡ Less) (places_of held)
        → IsBelow name (entries held)
    below name [] all = tt
    below name (x ∷ more) all =
        ⊎_elim
        (λ one.
        let less : name_cmp name one.0.0 ≡ Less = less-name name one.0.0 (subst (λ (q : Place). place_cmp (place name) q ≡ Less) one.2 all.0) in
        subst (λ (o : Option (List ℕ × T)). IsBelow name (entry_of x.version o ++ entries more)) (sym one.1) (less, below name more all.1))
        (λ none. subst (λ (o : Option (List ℕ × T)). IsBelow name (entry_of x.version o ++ entries more)) (sym none.0) (below name more all.1))
        (law.stands x.object)

    ascending : (held : List Stored) → IsAscending held → IsStrictlySortedBy name_cmp (keys_of (entries held))
    unfolding IsStrictlySortedBy
    ascending [] s = tt
    ascending (x ∷ more) s =
        ⊎_elim
        (λ one.
        let all = subst (λ (q : Place). AllByRecursion (λ (other : Place). place_cmp q other ≡ Less) (places_of more)) one.2 s.0 in
        subst (λ (o : Option (List ℕ × T)). IsStrictlySortedBy name_cmp (keys_of (entry_of x.version o ++ entries more))) (sym one.1)
        (below one.0.0 more all, ascending more s.1))
        (λ none.
        subst (λ (o : Option (List ℕ × T)). IsStrictlySortedBy name_cmp (keys_of (entry_of x.version o ++ entries more))) (sym none.0) (ascending more s.1))
        (law.stands x.object)

    -- what is held is what is stored, where each look-up finds the same
    pub same-entries : (store : StoreValue) (es : List (List ℕ × Versioned T)) → IsAscending store.objects → IsStrictlySortedBy name_cmp (keys_of es)
        → LeadsTo resource store es [] → es ≡ stored_in resource store
    same-entries store es sorted s leads = entries-same name_cmp-total name_cmp-exact es (stored_in resource store) s (ascending store.objects sorted) leads

    -- and what is held is so but for versions, where each look-up finds the same object
    pub same-named : (store : StoreValue) (es : List (List ℕ × Versioned T)) → IsAscending store.objects → IsStrictlySortedBy name_cmp (keys_of es)
        → ((name : List ℕ) → object_at name_cmp es name ≡ object_at name_cmp (stored_in resource store) name) → named es ≡ named (stored_in resource store)
    same-named store es sorted s same =
        let value : Versioned T → T = λ v. v.object in
        let other = stored_in resource store in
        entries-same name_cmp-total name_cmp-exact (named es) (named other)
        (subst (IsStrictlySortedBy name_cmp) (sym (keys_of-map_values value es)) s)
        (subst (IsStrictlySortedBy name_cmp) (sym (keys_of-map_values value other)) (ascending store.objects sorted))
        (λ name. lookup-map_values value (is_at (name_cmp name)) es ∙ same name ∙ sym (lookup-map_values value (is_at (name_cmp name)) other))

    -- ---- what an event makes of what is held
    seen_by : (b : Bool) (name : List ℕ) (version : ℕ) (p : List ℕ × T) (before : Option (Versioned T))
        → (let object : Option (Versioned T) = cond b (Some (record { version = version; object = p.1 })) None in
        cond (newer_than resource name (version_of resource name before) object) object (option_map (λ x. x) before))
        ≡ cond (b && ltb (version_of resource name before) version) (Some (record { version = version; object = p.1 })) before
    seen_by true name version p before =
        ap (λ (o : Option (Versioned T)). cond (ltb (version_of resource name before) version) (Some (record { version = version; object = p.1 })) o) (mapped before)
    seen_by false name version p before = mapped before

    abbrev Seen : ℕ → List ℕ → Option (Versioned T) → Option (List ℕ × T) → Option (Versioned T)
    Seen version name before o =
        let object = of_key resource name version o in cond (newer_than resource name (version_of resource name before) object) object (option_map (λ x. x) before)

    -- an object that is shown is held from then on, where it is of the name and newer
    seen-shown : (held : Stored) (name : List ℕ) (before : Option (Versioned T))
        → seen_after resource name (Watched (Changed held.version held.object)) before
        ≡ cond (is_of (place name) held && ltb (version_of resource name before) held.version) (as_held (Some held)) before
    seen-shown held name before =
        let newer = ltb (version_of resource name before) held.version in
        ⊎_elim
        (λ one.
        ap (Seen held.version name before) one.1
        ∙ seen_by (is_eq (name_cmp name one.0.0)) name held.version one.0 before
        ∙ ap (λ (o : Option (Versioned T)). cond (is_eq (name_cmp name one.0.0) && newer) o before) (sym (ap (at held.version) one.1))
        ∙ ap (λ (b : Bool). cond (b && newer) (as_held (Some held)) before) (sym (stands_here held name one.0 one.2)))
        (λ none.
        ap (Seen held.version name before) none.0
        ∙ mapped before
        ∙ ap (λ (b : Bool). cond (b && newer) (as_held (Some held)) before) (sym (stands_elsewhere held name none.1)))
        (law.stands held.object)

    -- ---- an object is set
    set_by : (b newer : Bool) (added : Stored) (st : Option Stored) → newer ≡ true
        → as_held (cond b (Some added) st) ≡ cond (b && newer) (as_held (Some added)) (as_held st)
    set_by true newer added st e = sym (ap (λ (n : Bool). cond n (as_held (Some added)) (as_held st)) e)
    set_by false newer added st e = refl

    pub set-seen : (st : Option Stored) (added : Stored) (name : List ℕ) → version_of resource name (as_held st) < added.version
        → as_held (cond (is_of (place name) added) (Some added) st) ≡ seen_after resource name (Watched (Changed added.version added.object)) (as_held st)
    set-seen st added name newer =
        set_by (is_of (place name) added) (ltb (version_of resource name (as_held st)) added.version) added st
        (lt-ltb (version_of resource name (as_held st)) added.version newer)
        ∙ sym (seen-shown added name (as_held st))

    -- one of another list
    pub set-other : (st : Option Stored) (added : Stored) (name : List ℕ) → same_group (group_of (kind_of added.object)) groups.Config ≡ false
        → as_held (cond (is_of (place name) added) (Some added) st) ≡ as_held st
    set-other st added name e =
        let other : kind_of added.object ≢ kind =
        λ same. true≢false (sym (ap (λ (g : ListGroup). same_group g groups.Config) (ap group_of same ∙ law.group)) ∙ e) in
        ap (λ (b : Bool). as_held (cond b (Some added) st)) (stands_elsewhere added name other)

    -- ---- an object is deleted
    names_then : (b : Bool) (gone name : List ℕ) → names_key resource name (then_some b gone) ≡ (b && is_eq (name_cmp gone name))
    names_then true gone name = refl
    names_then false gone name = refl

    -- what is stored at a place of the kind has a name alone
    bare : (objects : List Stored) (there : Stored) (k : Kind) (key : Key) → stored_at objects (k, key) ≡ Some there → k ≡ kind
        → (let at_key : Place = (k, key) in at_key ≡ place key.name)
    bare objects there k key found is =
        let at_key : Place = (k, key) in
        let stands : place_of there.object ≡ at_key = (found-stored objects at_key there found).1 in
        ⊎_elim
        (λ one.
        let same : at_key ≡ place one.0.0 = sym stands ∙ one.2 in
        same ∙ ap place (sym (ap (λ (q : Place). q.1.name) same)))
        (λ none. absurd (none.1 (ap (λ (q : Place). q.0) stands ∙ is)))
        (law.stands there.object)

    names-place : (objects : List Stored) (there : Stored) (k : Kind) (key : Key) (name : List ℕ) → stored_at objects (k, key) ≡ Some there
        → names_key resource name (deletes_named kind k key) ≡ is_eq (place_cmp (k, key) (place name))
    names-place objects there k key name found =
        let at_key : Place = (k, key) in
        bool_by (names_key resource name (deletes_named kind k key)) (is_eq (place_cmp at_key (place name)))
        (λ e.
        let parts = and_parts (same_kind kind k) (is_eq (name_cmp key.name name)) (sym (names_then (same_kind kind k) key.name name) ∙ e) in
        let same : key.name ≡ name = name_cmp-exact key.name name ((Equal-is (name_cmp key.name name)).0 parts.1) in
        let one : at_key ≡ place name = bare objects there k key found (sym (law.same k parts.0)) ∙ ap place same in
        subst (λ (q : Place). is_eq (place_cmp q (place name)) ≡ true) (sym one) (ap is_eq (tied_itself place_cmp-total (place name))))
        (λ e.
        let one : at_key ≡ place name = place_cmp-exact at_key (place name) ((Equal-is (place_cmp at_key (place name))).0 e) in
        let here : names_key resource name (deletes_named kind kind (bare_key name)) ≡ true =
        names_then (same_kind kind kind) name name
        ∙ ap (λ (b : Bool). b && is_eq (name_cmp name name)) law.itself
        ∙ ap is_eq (tied_itself name_cmp-total name) in
        subst (λ (q : Place). names_key resource name (deletes_named kind q.0 q.1) ≡ true) (sym one) here)

    gone_by : (b : Bool) (before : Option (Versioned T)) → cond (b || false) None (option_map (λ x. x) before) ≡ cond b None before
    gone_by true before = refl
    gone_by false before = mapped before

    none_by : (b : Bool) (st : Option Stored) → as_held (cond b None st) ≡ cond b None (as_held st)
    none_by true st = refl
    none_by false st = refl

    pub deleted-seen : (objects : List Stored) (there : Stored) (k : Kind) (key : Key) (name : List ℕ) (st : Option Stored) → stored_at objects (k, key) ≡ Some there
        → as_held (cond (is_eq (place_cmp (k, key) (place name))) None st) ≡ seen_after resource name (Watched (Deleted k key)) (as_held st)
    deleted-seen objects there k key name st found =
        none_by (is_eq (place_cmp (k, key) (place name))) st
        ∙ ap (λ (b : Bool). cond b None (as_held st)) (sym (names-place objects there k key name found))
        ∙ sym (gone_by (names_key resource name (deletes_named kind k key)) (as_held st))

    -- one of another list
    pub deleted-other : (k : Kind) (key : Key) (name : List ℕ) (st : Option Stored) → same_group (group_of k) groups.Config ≡ false
        → as_held (cond (is_eq (place_cmp (k, key) (place name))) None st) ≡ as_held st
    deleted-other k key name st e =
        let at_key : Place = (k, key) in
        let apart : is_eq (place_cmp at_key (place name)) ≡ false =
        false_from_ne_true (is_eq (place_cmp at_key (place name)))
        (λ same.
        let one : k ≡ kind = ap (λ (q : Place). q.0) (place_cmp-exact at_key (place name) ((Equal-is (place_cmp at_key (place name))).0 same)) in
        true≢false (sym (ap (λ (g : ListGroup). same_group g groups.Config) (ap group_of one ∙ law.group)) ∙ e)) in
        ap (λ (b : Bool). as_held (cond b None st)) apart

    -- ---- a list
    abbrev each_shown : List Stored → List Event
    each_shown held = map (λ (x : Stored). Changed x.version x.object) held

    abbrev behind : List ℕ → List Event → Option (Versioned T) → Option (Versioned T)
    behind = held_behind resource

    module _ (objects : List Stored) (sorted : IsAscending objects) (given : (x : Stored) → Contains objects x → 0 < x.version) (name : List ℕ) where
      abbrev look : Option (Versioned T)
      look = as_held (stored_at objects (place name))

      there : (x : Stored) → Contains objects x → is_of (place name) x ≡ true → stored_at objects (place name) ≡ Some x
      there x in_it e = stored-found objects (place name) x sorted (in_it, is_of-is (place name) x e)

      abbrev AreOf : List Stored → Type 0
      AreOf held = (x : Stored) → Contains held x → Contains objects x

      keeps_by : (b : Bool) (x : Stored) (h : Option (Versioned T)) → (b ≡ true → as_held (Some x) ≡ look) → h ≡ look → cond b (as_held (Some x)) h ≡ look
      keeps_by true x h f e = f refl
      keeps_by false x h f e = e

      keeps : (held : List Stored) → AreOf held → (h : Option (Versioned T)) → h ≡ look → behind name (each_shown held) h ≡ look
      keeps [] of h e = e
      keeps (x ∷ more) of h e =
          let b = is_of (place name) x in
          let newer = ltb (version_of resource name h) x.version in
          keeps more (λ y in_it. of y (contains-later x more y in_it)) (seen_after resource name (Watched (Changed x.version x.object)) h)
          (seen-shown x name h
          ∙ keeps_by (b && newer) x h (λ t. ap as_held (sym (there x (of x (contains-first x more)) (and_parts b newer t).0))) e)

      -- an object that isn't of the name changes nothing
      passed : (x : Stored) (h : Option (Versioned T)) → is_of (place name) x ≡ false
          → seen_after resource name (Watched (Changed x.version x.object)) h ≡ h
      passed x h e =
          seen-shown x name h
          ∙ ap (λ (b : Bool). cond (b && ltb (version_of resource name h) x.version) (as_held (Some x)) h) e

      finds_by : (b : Bool) (y : Stored) (more : List Stored) (x : Stored) (h : Option (Versioned T)) → AreOf (y ∷ more) → Contains (y ∷ more) x
          → is_of (place name) x ≡ true → version_of resource name h ≡ 0
          → ((now : Option (Versioned T)) → Contains more x → version_of resource name now ≡ 0 → behind name (each_shown more) now ≡ look)
          → is_of (place name) y ≡ b → behind name (each_shown more) (seen_after resource name (Watched (Changed y.version y.object)) h) ≡ look
      finds_by true y more x h of in_it is zero ih e =
          let own = of y (contains-first y more) in
          let later : 0 < y.version = given y own in
          let newer : version_of resource name h < y.version = omega (arith, zero, later) in
          keeps more (λ z z_in. of z (contains-later y more z z_in)) (seen_after resource name (Watched (Changed y.version y.object)) h)
          (seen-shown y name h
          ∙ ap (λ (b : Bool). cond (b && ltb (version_of resource name h) y.version) (as_held (Some y)) h) e
          ∙ ap (λ (b : Bool). cond b (as_held (Some y)) h) (lt-ltb (version_of resource name h) y.version newer)
          ∙ ap as_held (sym (there y own e)))
      finds_by false y more x h of in_it is zero ih e =
          let later : Contains more x =
          ⊎_elim (λ one. absurd (true≢false (sym is ∙ ap (λ (z : Stored). is_of (place name) z) (sym one) ∙ e))) (λ z. z) (contains-cons y more x in_it) in
          ih (seen_after resource name (Watched (Changed y.version y.object)) h) later (ap (version_of resource name) (passed y h e) ∙ zero)

      finds : (held : List Stored) → AreOf held → (x : Stored) → Contains held x → is_of (place name) x ≡ true → (h : Option (Versioned T))
          → version_of resource name h ≡ 0 → behind name (each_shown held) h ≡ look
      finds [] of x in_it is h zero = absurd (contains-none x in_it)
      finds (y ∷ more) of x in_it is h zero =
          finds_by (is_of (place name) y) y more x h of in_it is zero
          (λ now later low. finds more (λ z z_in. of z (contains-later y more z z_in)) x later is now low) refl

      none-some : (x : Stored) → None ≡ Some x → ⊥
      none-some x e = absurd (cc)

      passes : (held : List Stored) → AreOf held → stored_at objects (place name) ≡ None → (h : Option (Versioned T)) → behind name (each_shown held) h ≡ h
      passes [] of none h = refl
      passes (x ∷ more) of none h =
          let apart : is_of (place name) x ≡ false =
          false_from_ne_true (is_of (place name) x) (λ e. none-some x (sym none ∙ there x (of x (contains-first x more)) e)) in
          passes more (λ y in_it. of y (contains-later x more y in_it)) none (seen_after resource name (Watched (Changed x.version x.object)) h)
          ∙ passed x h apart

      ended_by : (b : Bool) (h : Option (Versioned T)) → b ≡ true → cond b None (option_map (λ x. x) h) ≡ None
      ended_by true h e = refl
      ended_by false h e = absurd (true≢false (sym e))

      lasts_by : (b : Bool) (h : Option (Versioned T)) → b ≡ false → cond b None (option_map (λ x. x) h) ≡ h
      lasts_by true h e = absurd (true≢false e)
      lasts_by false h e = mapped h

      later-by : (x : Stored) → Contains objects x → is_of (place name) x ≡ true → eqb (version_of resource name (as_held (Some x))) 0 ≡ false
      later-by x in_it e =
          ⊎_elim
          (λ one.
          ap (λ (o : Option (List ℕ × T)). eqb (version_of resource name (at x.version o)) 0) one.1 ∙ positive x.version (given x in_it))
          (λ none. absurd (none.1 (ap (λ (q : Place). q.0) (is_of-is (place name) x e))))
          (law.stands x.object)
        where
          positive : (n : ℕ) → 0 < n → eqb n 0 ≡ false
          positive n less = false_from_ne_true (eqb n 0) (λ e. let zero = eqb-true n 0 e in absurd (omega (arith, zero, less)))

      listed_by : (found : Option Stored) → stored_at objects (place name) ≡ found → (held : List Stored) → AreOf held
          → ((x : Stored) → Contains objects x → is_of (place name) x ≡ true → Contains held x) → (h : Option (Versioned T)) → version_of resource name h ≡ 0
          → seen_after resource name (Watched (ListEnd groups.Config)) (behind name (each_shown held) h) ≡ as_held found
      listed_by None is held of all h zero =
          ap (seen_after resource name (Watched (ListEnd groups.Config))) (passes held of is h)
          ∙ ended_by (eqb (version_of resource name h) 0) h (ap (λ (n : ℕ). eqb n 0) zero)
      listed_by (Some x) is held of all h zero =
          let found = found-stored objects (place name) x is in
          let here : is_of (place name) x ≡ true = is_of-by (place name) x found.1 in
          ap (seen_after resource name (Watched (ListEnd groups.Config))) (finds held of x (all x found.0 here) here h zero ∙ ap as_held is)
          ∙ lasts_by (eqb (version_of resource name (as_held (Some x))) 0) (as_held (Some x)) (later-by x found.0 here)

      -- whatever is held at version 0: once a list of all that is stored is taken, what is stored is held
      pub listed : (held : List Stored) → AreOf held → ((x : Stored) → Contains objects x → is_of (place name) x ≡ true → Contains held x)
          → (h : Option (Versioned T)) → version_of resource name h ≡ 0
          → seen_after resource name (Watched (ListEnd groups.Config)) (behind name (each_shown held) h) ≡ look
      listed held of all h zero = listed_by (stored_at objects (place name)) refl held of all h zero

-- ---- events one after the other
pub behind-append : {K T : Type 0} → (r : Resource K T) (key : K) (lane more : List Event) (h : Option (Versioned T))
    → held_behind r key (lane ++ more) h ≡ held_behind r key more (held_behind r key lane h)
behind-append r key [] more h = refl
behind-append r key (event ∷ lane) more h = behind-append r key lane more (seen_after r key (Watched event) h)

-- ---- the kinds
pub named-pool : IsNamed kinds.Pool show_pool
named-pool = record { stands = stands; same = same; itself = refl; group = refl }
  where
    stands : (object : Object) → StandsRight kinds.Pool show_pool object
    stands (objects.Pool pool) = inl ((pool.name, pool), refl, refl)
    stands _ = inr (refl, λ e. absurd (cc))

    same : (k : Kind) → same_kind kinds.Pool k ≡ true → kinds.Pool ≡ k
    same kinds.Pool e = refl
    same _ e = absurd (cc)

pub named-l2 : IsNamed kinds.L2 show_l2
named-l2 = record { stands = stands; same = same; itself = refl; group = refl }
  where
    stands : (object : Object) → StandsRight kinds.L2 show_l2 object
    stands (objects.L2 adv) = inl ((adv.name, adv), refl, refl)
    stands _ = inr (refl, λ e. absurd (cc))

    same : (k : Kind) → same_kind kinds.L2 k ≡ true → kinds.L2 ≡ k
    same kinds.L2 e = refl
    same _ e = absurd (cc)

pub named-bgp : IsNamed kinds.Bgp show_bgp
named-bgp = record { stands = stands; same = same; itself = refl; group = refl }
  where
    stands : (object : Object) → StandsRight kinds.Bgp show_bgp object
    stands (objects.Bgp adv) = inl ((adv.name, adv), refl, refl)
    stands _ = inr (refl, λ e. absurd (cc))

    same : (k : Kind) → same_kind kinds.Bgp k ≡ true → kinds.Bgp ≡ k
    same kinds.Bgp e = refl
    same _ e = absurd (cc)

pub named-peer : IsNamed kinds.Peer show_peer
named-peer = record { stands = stands; same = same; itself = refl; group = refl }
  where
    stands : (object : Object) → StandsRight kinds.Peer show_peer object
    stands (objects.Peer peer) = inl ((peer.name, peer), refl, refl)
    stands _ = inr (refl, λ e. absurd (cc))

    same : (k : Kind) → same_kind kinds.Peer k ≡ true → kinds.Peer ≡ k
    same kinds.Peer e = refl
    same _ e = absurd (cc)

pub named-community : IsNamed kinds.Community show_community
named-community = record { stands = stands; same = same; itself = refl; group = refl }
  where
    stands : (object : Object) → StandsRight kinds.Community show_community object
    stands (objects.Community community) = inl ((community.name, community), refl, refl)
    stands _ = inr (refl, λ e. absurd (cc))

    same : (k : Kind) → same_kind kinds.Community k ≡ true → kinds.Community ≡ k
    same kinds.Community e = refl
    same _ e = absurd (cc)

pub named-namespace : IsNamed kinds.Namespace show_namespace
named-namespace = record { stands = stands; same = same; itself = refl; group = refl }
  where
    stands : (object : Object) → StandsRight kinds.Namespace show_namespace object
    stands (objects.Namespace namespace) = inl ((namespace.name, namespace), refl, refl)
    stands _ = inr (refl, λ e. absurd (cc))

    same : (k : Kind) → same_kind kinds.Namespace k ≡ true → kinds.Namespace ≡ k
    same kinds.Namespace e = refl
    same _ e = absurd (cc)
