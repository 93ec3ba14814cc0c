-- What holds of each pending notice of a service.
use Rattle.world_rules.specs.Tracked.{is_given}
use Rattle.std.proofs.Common.{◌≡◌, ℕ, ◌≤◌, ◌<◌, Bool, true, false, cond, leb, eqb, List, [], ◌∷◌, ◌++◌}
use Rattle.std.proofs.Common.{Option, Some, None, ◌⊎◌, inl, inr, ⊎_elim, refl, sym, ap, ◌∙◌, arith}
use Rattle.std.specs.List.{Contains}
use Rattle.std.proofs.lemmas.Bool.{true≢false}
use Rattle.std.proofs.lemmas.Bool.Decides.{nat_tests}
use Rattle.mlb_base.proofs.Among.{contains-none, contains-cons}
use Rattle.kube_model.specs.declared.record.Record.{Record}
use Rattle.kube_model.specs.Records.{is_assigned}
use Rattle.claim_index.specs.Claims.{claimed_by}
use Rattle.world_rules.proofs.Following.{Follows-old}
use Rattle.world_rules.specs.Tracked.{Shown, Notice, Shows, Gone, End, version_at, IsBare, IsUpTo, IsBehind, after_shows, after_end}
use Rattle.world_rules.specs.Tracked.{is_unlisted, has_gone, IsCarried, Follows, WillBeClaimed, AreGiven, AreOld, EndsOnce}

-- whether the end of the list is pending
abbrev pub has_end : List Notice → Bool
has_end [] = false
has_end (Shows x ∷ more) = has_end more
has_end (Gone ∷ more) = has_end more
has_end (End ∷ more) = true

pub ends-has_end : (notices : List Notice) → EndsOnce false notices → has_end notices ≡ true
ends-has_end [] e = absurd e
ends-has_end (Shows x ∷ more) e = ends-has_end more e
ends-has_end (Gone ∷ more) e = ends-has_end more e
ends-has_end (End ∷ more) e = refl

-- ---- versions of what is held
older-kept : (a b : ℕ) → leb a b ≡ true → a ≤ b
older-kept a b e = grind (arith, nat_tests)

pub newer-taken : (a b : ℕ) → leb a b ≡ false → b < a
newer-taken a b e = grind (arith, nat_tests)

shows-held : (b : Bool) (h : Option Shown) (x : Shown) → b ≡ leb x.version (version_at h)
    → (version_at h ≤ version_at (cond b h (Some x))) × (x.version ≤ version_at (cond b h (Some x)))
shows-held true h x e = let older = older-kept x.version (version_at h) (sym e) in (omega arith, older)
shows-held false h x e = let newer = newer-taken x.version (version_at h) (sym e) in (omega (arith, newer), omega arith)

-- what is held isn't older after it was shown, and not older than what was shown
pub after_shows-held : (h : Option Shown) (x : Shown) → (version_at h ≤ version_at (after_shows h x)) × (x.version ≤ version_at (after_shows h x))
after_shows-held h x = shows-held (leb x.version (version_at h)) h x refl

zero-is : (n : ℕ) → eqb n 0 ≡ true → n ≡ 0
zero-is n e = grind (arith, nat_tests)

end-held : (b : Bool) (x : Shown) → b ≡ eqb x.version 0 → version_at (cond b None (Some x)) ≡ x.version
end-held true x e = sym (zero-is x.version (sym e))
end-held false x e = refl

pub after_end-held : (h : Option Shown) → version_at (after_end h) ≡ version_at h
after_end-held None = refl
after_end-held (Some x) = end-held (eqb x.version 0) x refl

-- ---- no version is greater than the stored one
up_to-less : (s : Option Shown) (a b : ℕ) → a ≤ b → IsUpTo s b → IsUpTo s a
up_to-less None a b le u = tt
up_to-less (Some x) a b le u = omega (arith, le, u)

behind-less : (s : Option Shown) (a b : ℕ) → a ≤ b → IsBehind s b → IsBehind s a
behind-less None a b le u = tt
behind-less (Some x) a b le u = omega (arith, le, u)

behind-up_to : (s : Option Shown) (a : ℕ) → IsBehind s a → IsUpTo s a
behind-up_to None a u = tt
behind-up_to (Some x) a u = omega (arith, u)

stored-up_to : (s : Option Shown) → IsUpTo s (version_at s)
stored-up_to None = tt
stored-up_to (Some x) = omega arith

-- what is held is at most at the stored version
pub held-up_to : (notices : List Notice) (s h : Option Shown) → Follows s h notices → IsUpTo s (version_at h)
held-up_to [] s h f = rw f (stored-up_to s)
held-up_to (Shows x ∷ more) s h f =
    up_to-less s (version_at h) (version_at (after_shows h x)) (after_shows-held h x).0 (held-up_to more s (after_shows h x) f.2)
held-up_to (Gone ∷ more) s h f = behind-up_to s (version_at h) f.1
held-up_to (End ∷ more) s h f = rw (← after_end-held h) (held-up_to more s (after_end h) f.1)

-- what is pending is
pub pending-up_to : (before behind : List Notice) (s h : Option Shown) (x : Shown) → Follows s h (before ++ Shows x ∷ behind) → IsUpTo s x.version
pending-up_to [] behind s h x f = f.0
pending-up_to (Shows y ∷ more) behind s h x f = pending-up_to more behind s (after_shows h y) x f.2
pending-up_to (Gone ∷ more) behind s h x f = pending-up_to more behind s None x f.2
pending-up_to (End ∷ more) behind s h x f = pending-up_to more behind s (after_end h) x f.1

-- ---- where a deletion is pending
pub gone-bare : (notices : List Notice) (s h : Option Shown) → has_gone notices ≡ true → Follows s h notices → IsBare s × IsBehind s (version_at h)
gone-bare [] s h e f = absurd (cc)
gone-bare (Shows x ∷ more) s h e f =
    let rest = gone-bare more s (after_shows h x) e f.2 in
    (rest.0, behind-less s (version_at h) (version_at (after_shows h x)) (after_shows-held h x).0 rest.1)
gone-bare (Gone ∷ more) s h e f = (f.0, f.1)
gone-bare (End ∷ more) s h e f =
    let rest = gone-bare more s (after_end h) e f.1 in
    (rest.0, rw (after_end-held h) at rest.1)

-- what is shown before it is at less than the stored version
pub pending-behind : (before behind : List Notice) (s h : Option Shown) (x : Shown) → has_gone behind ≡ true → Follows s h (before ++ Shows x ∷ behind)
    → IsBehind s x.version
pending-behind [] behind s h x e f =
    behind-less s x.version (version_at (after_shows h x)) (after_shows-held h x).1 (gone-bare behind s (after_shows h x) e f.2).1
pending-behind (Shows y ∷ more) behind s h x e f = pending-behind more behind s (after_shows h y) x e f.2
pending-behind (Gone ∷ more) behind s h x e f = pending-behind more behind s None x e f.2
pending-behind (End ∷ more) behind s h x e f = pending-behind more behind s (after_end h) x e f.1

-- ---- versions ascend
pub given-above : (before behind : List Notice) (low n : ℕ) (x : Shown) → AreGiven low n (before ++ Shows x ∷ behind)
    → (low < x.version) × (x.version ≤ n) × AreGiven x.version n behind
given-above [] behind low n x g = g
given-above (Shows y ∷ more) behind low n x g =
    let above = given-above more behind y.version n x g.2 in
    (omega (arith, g.0, above.0), above.1, above.2)
given-above (Gone ∷ more) behind low n x g = given-above more behind low n x g
given-above (End ∷ more) behind low n x g = given-above more behind low n x g

-- ---- what is held at the stored version is what is stored, and nothing newer comes
old-gone : (notices : List Notice) (v : ℕ) → AreOld v notices → has_gone notices ≡ false
old-gone [] v old = refl
old-gone (Shows x ∷ more) v old = old-gone more v old.1
old-gone (Gone ∷ more) v old = absurd old
old-gone (End ∷ more) v old = old-gone more v old

pub old-shows : (before behind : List Notice) (v : ℕ) (x : Shown) → AreOld v (before ++ Shows x ∷ behind) → x.version ≤ v
old-shows [] behind v x old = old.0
old-shows (Shows y ∷ more) behind v x old = old-shows more behind v x old.1
old-shows (Gone ∷ more) behind v x old = absurd old
old-shows (End ∷ more) behind v x old = old-shows more behind v x old

pub current-stays : (notices : List Notice) (x y : Shown) → y.version ≡ x.version → 0 < x.version → Follows (Some x) (Some y) notices → has_gone notices ≡ false
current-stays notices x y e pos f = old-gone notices x.version (Follows-old x y notices e pos f).0

-- ---- live notices
below-shown : (h : Option Shown) (y : Shown) (v : ℕ) → version_at h < v → y.version < v → version_at (after_shows h y) < v
below-shown h y v a b = pick (leb y.version (version_at h))
  where
    pick : (c : Bool) → version_at (cond c h (Some y)) < v
    pick true = a
    pick false = b

-- a notice that is newer than what is held, or stands after a deletion, shows what is stored; or a deletion stands after it
pub live-carried : (before behind : List Notice) (low n : ℕ) (s h : Option Shown) (x : Shown) → Follows s h (before ++ Shows x ∷ behind)
    → AreGiven low n (before ++ Shows x ∷ behind)
    → (version_at h < x.version) ⊎ (has_gone before ≡ true) → IsCarried s x.holding behind
live-carried [] behind low n s h x f g (inl newer) = f.1 newer
live-carried [] behind low n s h x f g (inr gone) = absurd (cc)
live-carried (Shows y ∷ more) behind low n s h x f g (inl newer) =
    live-carried more behind y.version n s (after_shows h y) x f.2 g.2 (inl (below-shown h y x.version newer (given-above more behind y.version n x g.2).0))
live-carried (Shows y ∷ more) behind low n s h x f g (inr gone) = live-carried more behind y.version n s (after_shows h y) x f.2 g.2 (inr gone)
live-carried (Gone ∷ more) behind low n s h x f g live =
    let above = (given-above more behind low n x g).0 in
    live-carried more behind low n s None x f.2 g (inl (omega (arith, above)))
live-carried (End ∷ more) behind low n s h x f g (inl newer) = live-carried more behind low n s (after_end h) x f.1 g (inl (rw (after_end-held h) newer))
live-carried (End ∷ more) behind low n s h x f g (inr gone) = live-carried more behind low n s (after_end h) x f.1 g (inr gone)

-- ---- a notice that stands somewhere
-- This is pending, between these.
pub record Stands (notices : List Notice) (x : Shown) (behind : List Notice) : Type 0 where
  pub before : List Notice
  pub is : notices ≡ before ++ Shows x ∷ behind

stands-first : (x : Shown) (behind : List Notice) → Stands (Shows x ∷ behind) x behind
stands-first x behind = record { before = []; is = refl }

stands-later : (n : Notice) (notices : List Notice) (x : Shown) (behind : List Notice) → Stands notices x behind → Stands (n ∷ notices) x behind
stands-later n notices x behind st = record { before = n ∷ st.before; is = ap (λ (ns : List Notice). n ∷ ns) st.is }

-- It is pending with this record, newer than what is held, before the list ends.
pub record IsListed (h : Option Shown) (notices : List Notice) (r : Record) : Type 0 where
  pub x : Shown
  pub behind : List Notice
  pub stands : Stands notices x behind
  pub with_record : x.holding ≡ r
  pub newer : version_at h < x.version
  pub before_end : has_end behind ≡ true

claimed-is : (b : Bool) (h r : Record) → Contains (cond b (h ∷ []) []) r → h ≡ r
claimed-is true h r there = ⊎_elim (λ same. same) (λ none. absurd (contains-none r none)) (contains-cons h [] r there)
claimed-is false h r there = absurd (contains-none r there)

listed-shown : (b : Bool) (h : Option Shown) (z : Shown) (claims : List Record) (r : Record) (more : List Notice) → b ≡ leb z.version (version_at h)
    → EndsOnce false more
    → Contains (cond b claims (claimed_by z.holding)) r → Contains claims r ⊎ IsListed h (Shows z ∷ more) r
listed-shown true h z claims r more e ends there = inl there
listed-shown false h z claims r more e ends there =
    inr (record {
      x = z;
      behind = more;
      stands = stands-first z more;
      with_record = claimed-is (is_assigned z.holding) z.holding r there;
      newer = newer-taken z.version (version_at h) (sym e);
      before_end = ends-has_end more ends;
    })

listed-later : (h : Option Shown) (z : Shown) (more : List Notice) (r : Record) → IsListed (after_shows h z) more r → IsListed h (Shows z ∷ more) r
listed-later h z more r l =
    let more_held = (after_shows-held h z).0 in
    record {
      x = l.x;
      behind = l.behind;
      stands = stands-later (Shows z) more l.x l.behind l.stands;
      with_record = l.with_record;
      newer = omega (arith, more_held, l.newer);
      before_end = l.before_end;
    }

bare-unassigned : (x : Shown) → IsBare (Some x) → is_given x.holding ≡ true → ⊥
bare-unassigned x bare has = true≢false (sym has ∙ bare)

-- until the list has ended: a stored address is claimed, or listed
pub claimed-or-listed : (notices : List Notice) (x : Shown) (h : Option Shown) (claims : List Record) → is_given x.holding ≡ true → EndsOnce false notices
    → Follows (Some x) h notices → WillBeClaimed (Some x) h claims notices
    → Contains claims x.holding ⊎ IsListed h notices x.holding
claimed-or-listed [] x h claims has ends f w = absurd ends
claimed-or-listed (Shows z ∷ more) x h claims has ends f w =
    ⊎_elim
    (λ there. listed-shown (leb z.version (version_at h)) h z claims x.holding more refl ends there)
    (λ l. inr (listed-later h z more x.holding l))
    (claimed-or-listed more x (after_shows h z) (cond (leb z.version (version_at h)) claims (claimed_by z.holding)) has ends f.2 w)
claimed-or-listed (Gone ∷ more) x h claims has ends f w = absurd (bare-unassigned x f.0 has)
claimed-or-listed (End ∷ more) x h claims has ends f w = inl (w has)

-- ---- what is stored is held, or going to be shown
-- It is pending at this version, and no deletion after it.
pub record IsComing (notices : List Notice) (version : ℕ) : Type 0 where
  pub x : Shown
  pub behind : List Notice
  pub stands : Stands notices x behind
  pub at_version : x.version ≡ version
  pub stays : has_gone behind ≡ false

coming-later : (n : Notice) (notices : List Notice) (version : ℕ) → IsComing notices version → IsComing (n ∷ notices) version
coming-later n notices version c =
    record { x = c.x; behind = c.behind; stands = stands-later n notices c.x c.behind c.stands; at_version = c.at_version; stays = c.stays }

abbrev pub IsHeldAt : Option Shown → ℕ → Type 0
IsHeldAt None version = ⊥
IsHeldAt (Some y) version = y.version ≡ version

held-same : (s h : Option Shown) (x : Shown) → h ≡ Some x → IsHeldAt h x.version
held-same s h x e = rw e refl

held-or-shown : (b : Bool) (x : Shown) (h : Option Shown) (z : Shown) (more : List Notice) → 0 < x.version → Follows (Some x) (cond b h (Some z)) more
    → IsHeldAt (cond b h (Some z)) x.version
    → IsHeldAt h x.version ⊎ IsComing (Shows z ∷ more) x.version
held-or-shown true x h z more pos f at = inl at
held-or-shown false x h z more pos f at =
    inr (record { x = z; behind = more; stands = stands-first z more; at_version = at; stays = current-stays more x z at pos f })

held-end : (b : Bool) (h : Option Shown) (v : ℕ) → IsHeldAt (cond b None h) v → IsHeldAt h v
held-end true h v at = absurd at
held-end false h v at = at

pub held-or-coming : (notices : List Notice) (x : Shown) (h : Option Shown) → 0 < x.version → Follows (Some x) h notices
    → IsHeldAt h x.version ⊎ IsComing notices x.version
held-or-coming [] x h pos f = inl (held-same (Some x) h x f)
held-or-coming (Shows z ∷ more) x h pos f =
    ⊎_elim
    (λ at. held-or-shown (leb z.version (version_at h)) x h z more pos f.2 at)
    (λ c. inr (coming-later (Shows z) more x.version c))
    (held-or-coming more x (after_shows h z) pos f.2)
held-or-coming (Gone ∷ more) x h pos f =
    ⊎_elim (λ at. absurd at) (λ c. inr (coming-later Gone more x.version c)) (held-or-coming more x None pos f.2)
held-or-coming (End ∷ more) x h pos f =
    ⊎_elim (λ at. inl (held-end (is_unlisted h) h x.version at)) (λ c. inr (coming-later End more x.version c)) (held-or-coming more x (after_end h) pos f.1)

-- ---- what wasn't listed
-- It is pending before the list ends.
pub record IsBeforeEnd (notices : List Notice) : Type 0 where
  pub x : Shown
  pub behind : List Notice
  pub stands : Stands notices x behind
  pub before_end : has_end behind ≡ true

pub unlisted-shown : (notices : List Notice) (x y : Shown) → y.version ≡ 0 → EndsOnce false notices → Follows (Some x) (Some y) notices
    → IsBeforeEnd notices ⊎ IsBare (Some x)
unlisted-shown [] x y none ends f = absurd ends
unlisted-shown (Shows z ∷ more) x y none ends f = inl (record { x = z; behind = more; stands = stands-first z more; before_end = ends-has_end more ends })
unlisted-shown (Gone ∷ more) x y none ends f = inr f.0
unlisted-shown (End ∷ more) x y none ends f = inr (f.0 (ap (λ (n : ℕ). eqb n 0) none))
