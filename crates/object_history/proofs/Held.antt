-- What is held of one kind, key by key, is what was last shown.
use Rattle.std.proofs.Common.{◌≡◌, ℕ, ◌<◌, ◌≤◌, Bool, true, false, cond, leb, ltb, eqb, not, ◌&&◌, ◌||◌, List, Option}
use Rattle.std.proofs.Common.{Some, None, option_map, is_eq, refl, sym, subst, lt-ltb, le-ltb, leb-true, leb-false}
use Rattle.std.specs.List.Sorted.{IsStrictlySortedBy}
use Rattle.std.specs.Map.{keys_of}
use Rattle.std.specs.BTreeMap.{is_at}
use Rattle.std.specs.Cmp.{IsTotalOrder, Equal-is}
use Rattle.std.proofs.lemmas.Map.Entries.{option_filter}
use Rattle.std.proofs.lemmas.Map.Lookups.{CmpEqualImpliesEq}
use Rattle.mlb_base.proofs.Entries.{ascending-remove_entry}
use Rattle.kube_model.specs.declared.event.Event.TheVariants.{Changed, Deleted, ListEnd, Expired, Members, Frame, Ignored}
use Rattle.versioned_map.specs.declared.map.Versioned.{Versioned}
use Rattle.versioned_map.specs.Objects.{held_at, version_at, at_version, expired, listed, amended_at}
use Rattle.versioned_map.proofs.HeldLaws.{held_at-shown, held_at-removed, held_at-expired, held_at-listed, held_at-amended}
use Rattle.versioned_map.proofs.HeldLaws.{ascending-shown, ascending-expired, ascending-listed, ascending-amended}
use Rattle.object_history.specs.Kinds.{Resource}
use Rattle.object_history.specs.Observations.{Observation, Watched, WatchExpired, Written, same_group}
use Rattle.object_history.specs.Cache.{shown_in, deleted_in, written_in, held_after}
use Rattle.object_history.specs.LookBack.{of_key, names_key, record_for, written_over, version_of, newer_than, seen_after}

mapped_same : {X : Type 0} → (o : Option X) → o ≡ option_map (λ x. x) o
mapped_same None = refl
mapped_same (Some x) = refl

module _ {K T : Type 0} (resource : Resource K T) (o : IsTotalOrder resource.cmp) (exact : CmpEqualImpliesEq resource.cmp) (key : K) where
  -- an object of the key is shown, or one of another
  shown_by : (old same : Bool) (entries : List (K × Versioned T)) (k : K) (version : ℕ) (object : T)
      → old ≡ leb version (version_at resource.cmp entries k) → same ≡ is_eq (resource.cmp key k)
      → cond old (held_at resource.cmp entries key) (cond same (Some (record { version = version; object = object })) (held_at resource.cmp entries key))
      ≡ (let object' : Option (Versioned T) = cond same (Some (record { version = version; object = object })) None in
      let before = held_at resource.cmp entries key in
      cond (newer_than resource key (version_of resource key before) object') object' (option_map (λ x. x) before))
  shown_by true true entries k version object old_is same_is =
      let same : key ≡ k = exact key k ((Equal-is (resource.cmp key k)).0 (sym same_is)) in
      let few : version ≤ version_at resource.cmp entries key =
      subst (λ q. version ≤ version_at resource.cmp entries q) (sym same) (leb-true version (version_at resource.cmp entries k) (sym old_is)) in
      let older : ltb (version_at resource.cmp entries key) version ≡ false = le-ltb (version_at resource.cmp entries key) version few in
      rw older (mapped_same (held_at resource.cmp entries key))
  shown_by true false entries k version object old_is same_is = mapped_same (held_at resource.cmp entries key)
  shown_by false true entries k version object old_is same_is =
      let same : key ≡ k = exact key k ((Equal-is (resource.cmp key k)).0 (sym same_is)) in
      let more : version_at resource.cmp entries key < version =
      subst (λ q. version_at resource.cmp entries q < version) (sym same) (leb-false version (version_at resource.cmp entries k) (sym old_is)) in
      let newer : ltb (version_at resource.cmp entries key) version ≡ true = lt-ltb (version_at resource.cmp entries key) version more in
      rw newer refl
  shown_by false false entries k version object old_is same_is = mapped_same (held_at resource.cmp entries key)

  deleted_by : (gone : Bool) (before : Option (Versioned T)) → cond gone None before ≡ cond (gone || false) None (option_map (λ x. x) before)
  deleted_by true before = refl
  deleted_by false before = mapped_same before

  listed_held : (unlisted : Bool) (held : Versioned T) → cond (not unlisted) (Some held) None ≡ cond (true && unlisted) None (option_map (λ x. x) (Some held))
  listed_held true held = refl
  listed_held false held = refl

  listed_by : (before : Option (Versioned T)) → option_filter (λ held. not (eqb held.version 0)) before
      ≡ cond (true && eqb (version_of resource key before) 0) None (option_map (λ x. x) before)
  listed_by None = refl
  listed_by (Some held) = listed_held (eqb held.version 0) held

  amended_none : (same : Bool) (entries : List (K × Versioned T)) (k : K) (version : ℕ) (change : T → T) → same ≡ is_eq (resource.cmp k key)
      → held_at resource.cmp entries k ≡ None
      → held_at resource.cmp entries key ≡ option_map (written_over resource key (cond same (Some (version, change)) None)) (held_at resource.cmp entries key)
  amended_none true entries k version change e found =
      let same : k ≡ key = exact k key ((Equal-is (resource.cmp k key)).0 (sym e)) in
      let none : held_at resource.cmp entries key ≡ None = subst (λ q. held_at resource.cmp entries q ≡ None) same found in
      rw none refl
  amended_none false entries k version change e found = mapped_same (held_at resource.cmp entries key)

  amended_some : (same : Bool) (entries : List (K × Versioned T)) (k : K) (version : ℕ) (change : T → T) (held : Versioned T)
      → same ≡ is_eq (resource.cmp k key) → held_at resource.cmp entries k ≡ Some held
      → cond same (Some (record { version = version; object = change held.object })) (held_at resource.cmp entries key)
      ≡ option_map (written_over resource key (cond same (Some (version, change)) None)) (held_at resource.cmp entries key)
  amended_some true entries k version change held e found =
      let same : k ≡ key = exact k key ((Equal-is (resource.cmp k key)).0 (sym e)) in
      let some : held_at resource.cmp entries key ≡ Some held = subst (λ q. held_at resource.cmp entries q ≡ Some held) same found in
      rw some refl
  amended_some false entries k version change held e found = mapped_same (held_at resource.cmp entries key)

  -- the record of this key or of another is written
  pub amended_seen : (found : Option (Versioned T)) (entries : List (K × Versioned T)) (k : K) (version : ℕ) (change : T → T)
      → held_at resource.cmp entries k ≡ found
      → held_at resource.cmp (amended_at resource.cmp entries k version change found) key
      ≡ option_map (written_over resource key (cond (is_eq (resource.cmp k key)) (Some (version, change)) None)) (held_at resource.cmp entries key)
  amended_seen None entries k version change found = amended_none (is_eq (resource.cmp k key)) entries k version change refl found
  amended_seen (Some held) entries k version change found =
      rw (held_at-amended o entries k key version change held found) (amended_some (is_eq (resource.cmp k key)) entries k version change held refl found)

  shown_seen : (p : Option (K × T)) (entries : List (K × Versioned T)) (version : ℕ)
      → held_at resource.cmp (shown_in resource p version entries) key
      ≡ (let object = of_key resource key version p in
      let before = held_at resource.cmp entries key in
      cond (newer_than resource key (version_of resource key before) object) object (option_map (λ x. x) before))
  shown_seen None entries version = mapped_same (held_at resource.cmp entries key)
  shown_seen (Some p) entries version =
      rw (held_at-shown o entries p.0 key version p.1)
      (shown_by (leb version (version_at resource.cmp entries p.0)) (is_eq (resource.cmp key p.0)) entries p.0 version p.1 refl refl)

  deleted_seen : (gone : Option K) (entries : List (K × Versioned T)) → IsStrictlySortedBy resource.cmp (keys_of entries)
      → held_at resource.cmp (deleted_in resource gone entries) key
      ≡ cond (names_key resource key gone || false) None (option_map (λ x. x) (held_at resource.cmp entries key))
  deleted_seen None entries s = mapped_same (held_at resource.cmp entries key)
  deleted_seen (Some gone) entries s = rw (held_at-removed o entries gone key s) (deleted_by (is_eq (resource.cmp gone key)) (held_at resource.cmp entries key))

  written_seen : (p : Option (K × (T → T))) (entries : List (K × Versioned T)) (version : ℕ)
      → held_at resource.cmp (written_in resource p version entries) key
      ≡ option_map (written_over resource key (record_for resource key version p)) (held_at resource.cmp entries key)
  written_seen None entries version = mapped_same (held_at resource.cmp entries key)
  written_seen (Some p) entries version = amended_seen (held_at resource.cmp entries p.0) entries p.0 version p.1 refl

  ended_seen : (ends : Bool) (entries : List (K × Versioned T)) → IsStrictlySortedBy resource.cmp (keys_of entries)
      → held_at resource.cmp (cond ends (listed entries) entries) key
      ≡ cond (ends && eqb (version_of resource key (held_at resource.cmp entries key)) 0) None (option_map (λ x. x) (held_at resource.cmp entries key))
  ended_seen true entries s = rw (held_at-listed o entries key s) (listed_by (held_at resource.cmp entries key))
  ended_seen false entries s = mapped_same (held_at resource.cmp entries key)

  expired_seen : (expires : Bool) (entries : List (K × Versioned T))
      → held_at resource.cmp (cond expires (expired entries) entries) key
      ≡ option_map (λ (held : Versioned T). cond expires (at_version 0 held) held) (held_at resource.cmp entries key)
  expired_seen true entries = held_at-expired resource.cmp entries key
  expired_seen false entries = mapped_same (held_at resource.cmp entries key)

  -- what is held of the key after an observation is what is last shown of it then
  pub held_at-held_after : (observation : Observation) (entries : List (K × Versioned T)) → IsStrictlySortedBy resource.cmp (keys_of entries)
      → held_at resource.cmp (held_after resource observation entries) key ≡ seen_after resource key observation (held_at resource.cmp entries key)
  held_at-held_after (Watched (Changed version object)) entries s = shown_seen (resource.shown object) entries version
  held_at-held_after (Watched (Deleted kind gone)) entries s = deleted_seen (resource.deleted kind gone) entries s
  held_at-held_after (Watched (ListEnd group)) entries s = ended_seen (same_group group resource.group) entries s
  held_at-held_after (Watched Expired) entries s = expired_seen true entries
  held_at-held_after (Watched (Members names)) entries s = mapped_same (held_at resource.cmp entries key)
  held_at-held_after (Watched (Frame interface bytes)) entries s = mapped_same (held_at resource.cmp entries key)
  held_at-held_after (Watched Ignored) entries s = mapped_same (held_at resource.cmp entries key)
  held_at-held_after (WatchExpired group) entries s = expired_seen (same_group group resource.group) entries
  held_at-held_after (Written k version holding) entries s = written_seen (resource.recorded k holding) entries version

module _ {K T : Type 0} (resource : Resource K T) (o : IsTotalOrder resource.cmp) where
  either : (b : Bool) (x y : List (K × Versioned T)) → IsStrictlySortedBy resource.cmp (keys_of x) → IsStrictlySortedBy resource.cmp (keys_of y)
      → IsStrictlySortedBy resource.cmp (keys_of (cond b x y))
  either true x y p q = p
  either false x y p q = q

  shown_ascend : (p : Option (K × T)) (version : ℕ) (entries : List (K × Versioned T)) → IsStrictlySortedBy resource.cmp (keys_of entries)
      → IsStrictlySortedBy resource.cmp (keys_of (shown_in resource p version entries))
  shown_ascend None version entries s = s
  shown_ascend (Some p) version entries s = ascending-shown o entries p.0 version p.1 s

  deleted_ascend : (gone : Option K) (entries : List (K × Versioned T)) → IsStrictlySortedBy resource.cmp (keys_of entries)
      → IsStrictlySortedBy resource.cmp (keys_of (deleted_in resource gone entries))
  deleted_ascend None entries s = s
  deleted_ascend (Some gone) entries s = ascending-remove_entry resource.cmp (is_at (resource.cmp gone)) entries s

  written_ascend : (p : Option (K × (T → T))) (version : ℕ) (entries : List (K × Versioned T)) → IsStrictlySortedBy resource.cmp (keys_of entries)
      → IsStrictlySortedBy resource.cmp (keys_of (written_in resource p version entries))
  written_ascend None version entries s = s
  written_ascend (Some p) version entries s = ascending-amended resource.cmp entries p.0 version p.1 s

  -- the keys still ascend
  pub ascending-held_after : (observation : Observation) (entries : List (K × Versioned T)) → IsStrictlySortedBy resource.cmp (keys_of entries)
      → IsStrictlySortedBy resource.cmp (keys_of (held_after resource observation entries))
  ascending-held_after (Watched (Changed version object)) entries s = shown_ascend (resource.shown object) version entries s
  ascending-held_after (Watched (Deleted kind gone)) entries s = deleted_ascend (resource.deleted kind gone) entries s
  ascending-held_after (Watched (ListEnd group)) entries s =
      either (same_group group resource.group) (listed entries) entries (ascending-listed resource.cmp entries s) s
  ascending-held_after (Watched Expired) entries s = ascending-expired resource.cmp entries s
  ascending-held_after (Watched (Members names)) entries s = s
  ascending-held_after (Watched (Frame interface bytes)) entries s = s
  ascending-held_after (Watched Ignored) entries s = s
  ascending-held_after (WatchExpired group) entries s =
      either (same_group group resource.group) (expired entries) entries (ascending-expired resource.cmp entries s) s
  ascending-held_after (Written k version holding) entries s = written_ascend (resource.recorded k holding) version entries s
