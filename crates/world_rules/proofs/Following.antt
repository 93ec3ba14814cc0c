-- What is pending of a service leads from what is held to what is stored: how each change keeps that.
use Rattle.world_rules.specs.Tracked.{is_given}
use Rattle.std.proofs.Common.{◌≡◌, ℕ, ◌+◌, ◌≤◌, ◌<◌, Bool, true, false, cond, leb, eqb, List, [], ◌∷◌, ◌++◌}
use Rattle.std.proofs.Common.{Option, Some, None, refl, sym, ap, ◌∙◌, arith, MatchBool}
use Rattle.std.proofs.lemmas.Bool.{true≢false}
use Rattle.std.proofs.lemmas.Bool.Decides.{nat_tests}
use Rattle.kube_model.specs.declared.record.Record.{Record}
use Rattle.world_rules.specs.Tracked.{Shown, Notice, Shows, Gone, End, version_at, IsBare, Agrees, after_shows}
use Rattle.world_rules.specs.Tracked.{after_end, is_unlisted, Follows, has_gone, IsJust, AreGiven, AreOld}

pub leb-newer : (a b : ℕ) → b < a → leb a b ≡ false
leb-newer a b h = grind (arith, nat_tests)

pub leb-older : (a b : ℕ) → a ≤ b → leb a b ≡ true
leb-older a b h = grind (arith, nat_tests)

pub eqb-apart : (a : ℕ) → 0 < a → eqb a 0 ≡ false
eqb-apart a h = grind (arith, nat_tests)

-- a notice that is newer takes the place of what is held
pub after_shows-newer : (h : Option Shown) (x : Shown) → version_at h < x.version → after_shows h x ≡ Some x
after_shows-newer h x lt = rw leb-newer refl

pub after_shows-older : (h : Option Shown) (x : Shown) → x.version ≤ version_at h → after_shows h x ≡ h
after_shows-older h x le = rw leb-older refl

abbrev pub at_next : ℕ → Record → Shown
at_next n r = record { version = n + 1; holding = r }

has_gone-more : (x : Shown) (notices : List Notice) → has_gone (notices ++ Shows x ∷ []) ≡ has_gone notices
has_gone-more x [] = refl
has_gone-more x (Shows y ∷ more) = has_gone-more x more
has_gone-more x (Gone ∷ more) = refl
has_gone-more x (End ∷ more) = has_gone-more x more

has_gone-last : (notices : List Notice) → has_gone (notices ++ Gone ∷ []) ≡ true
has_gone-last [] = refl
has_gone-last (Shows y ∷ more) = has_gone-last more
has_gone-last (Gone ∷ more) = refl
has_gone-last (End ∷ more) = has_gone-last more

-- a record whose address is another one's has none where that one has none
bare_by : (b : Bool) (y x : Record) → is_given y ≡ b → (is_given y ≡ true → y ≡ x) → is_given x ≡ false → is_given y ≡ false
bare_by true y x e keeps bare = absurd (true≢false (sym (ap is_given (sym (keeps e)) ∙ e) ∙ bare))
bare_by false y x e keeps bare = e

pub stays-bare : (y x : Record) → (is_given y ≡ true → y ≡ x) → is_given x ≡ false → is_given y ≡ false
stays-bare y x keeps bare = bare_by (is_given y) y x refl keeps bare

carried-same : (b : Bool) (x y : Shown) (r : Record) → (is_given y.holding ≡ true → y.holding ≡ x.holding)
    → MatchBool b (IsBare (Some x)) (IsJust (Some x) r) → MatchBool b (IsBare (Some y)) (IsJust (Some y) r)
carried-same true x y r keeps c = stays-bare y.holding x.holding keeps c
carried-same false x y r keeps c = λ has. c (ap is_given (sym (keeps has)) ∙ has) ∙ sym (keeps has)

carried-create : (b : Bool) (y : Shown) (r : Record) → is_given y.holding ≡ false → MatchBool b (IsBare None) (IsJust None r)
    → MatchBool b (IsBare (Some y)) (IsJust (Some y) r)
carried-create true y r bare c = bare
carried-create false y r bare c = absurd c

agrees-bare : (s : Option Shown) (r : Record) → IsBare s → Agrees s r
agrees-bare None r bare = tt
agrees-bare (Some x) r bare = λ has. absurd (true≢false (sym has ∙ bare))

agrees-just : (s : Option Shown) (r : Record) → IsJust s r → Agrees s r
agrees-just None r is = absurd is
agrees-just (Some x) r is = is

pub agrees-carried : (b : Bool) (s : Option Shown) (r : Record) → MatchBool b (IsBare s) (IsJust s r) → Agrees s r
agrees-carried true s r c = agrees-bare s r c
agrees-carried false s r c = agrees-just s r c

-- a stored service is changed: where it has an address then, it keeps its record
pub Follows-set : (n : ℕ) (x : Shown) (r : Record) (notices : List Notice) (h : Option Shown) → x.version ≤ n → (is_given r ≡ true → r ≡ x.holding)
    → Follows (Some x) h notices → Follows (Some (at_next n r)) h (notices ++ Shows (at_next n r) ∷ [])
Follows-set n x r [] h le keeps f =
    let lt : version_at h < n + 1 = rw f (omega arith) in
    (omega arith, λ _ has. refl, after_shows-newer h _ lt)
Follows-set n x r (Shows y ∷ more) h le keeps f = (
  omega (arith, f.0),
  λ newer.
      rw (has_gone-more (at_next n r) more) (carried-same (has_gone more) x (at_next n r) y.holding keeps (f.1 newer)),
  Follows-set n x r more _ le keeps f.2,
)
Follows-set n x r (Gone ∷ more) h le keeps f = (stays-bare r x.holding keeps f.0, omega (arith, f.1), Follows-set n x r more _ le keeps f.2)
Follows-set n x r (End ∷ more) h le keeps f = (λ unlisted. stays-bare r x.holding keeps (f.0 unlisted), Follows-set n x r more _ le keeps f.1)

pick-given : (b : Bool) (h k : Option Shown) (n : ℕ) → version_at h ≤ n → version_at k ≤ n → version_at (cond b h k) ≤ n
pick-given true h k n a b = a
pick-given false h k n a b = b

-- what is held stays below the counter
pub after_shows-given : (n : ℕ) (h : Option Shown) (x : Shown) → version_at h ≤ n → x.version ≤ n → version_at (after_shows h x) ≤ n
after_shows-given n h x a b = pick-given (leb x.version (version_at h)) h (Some x) n a b

pub after_end-given : (n : ℕ) (h : Option Shown) → version_at h ≤ n → version_at (after_end h) ≤ n
after_end-given n h a = pick-given (is_unlisted h) None h n (omega arith) a

-- a service is made where none was stored
pub Follows-create : (n low : ℕ) (r : Record) (notices : List Notice) (h : Option Shown) → is_given r ≡ false → version_at h ≤ n → AreGiven low n notices
    → Follows None h notices → Follows (Some (at_next n r)) h (notices ++ Shows (at_next n r) ∷ [])
Follows-create n low r [] h bare le given f =
    let lt : version_at h < n + 1 = omega arith in
    (omega arith, λ _ has. refl, after_shows-newer h _ lt)
Follows-create n low r (Shows y ∷ more) h bare le given f = (
  omega (arith, given.1),
  λ newer. rw (has_gone-more (at_next n r) more) (carried-create (has_gone more) (at_next n r) y.holding bare (f.1 newer)),
  Follows-create n y.version r more _ bare (after_shows-given n h y le given.1) given.2 f.2,
)
Follows-create n low r (Gone ∷ more) h bare le given f = (bare, omega arith, Follows-create n low r more None bare (omega arith) given f.2)
Follows-create n low r (End ∷ more) h bare le given f = (λ _. bare, Follows-create n low r more _ bare (after_end-given n h le) given f.1)

-- a stored service is deleted
pub Follows-delete : (s : Option Shown) (notices : List Notice) (h : Option Shown) → Follows s h notices → Follows None h (notices ++ Gone ∷ [])
Follows-delete s [] h f = (tt, tt, refl)
Follows-delete s (Shows y ∷ more) h f = (tt, λ _. rw (has_gone-last more) tt, Follows-delete s more _ f.2)
Follows-delete s (Gone ∷ more) h f = (tt, tt, Follows-delete s more _ f.2)
Follows-delete s (End ∷ more) h f = (λ _. tt, Follows-delete s more _ f.1)

-- what is held at the stored version is what is stored, and nothing newer comes
pub Follows-old : (x y : Shown) (notices : List Notice) → y.version ≡ x.version → 0 < x.version → Follows (Some x) (Some y) notices
    → AreOld x.version notices × (y ≡ x)
Follows-old x y [] e pos f = (tt, cc)
Follows-old x y (Shows z ∷ more) e pos f =
    let kept : after_shows (Some y) z ≡ Some y = after_shows-older (Some y) z (omega (arith, f.0)) in
    let rest = Follows-old x y more e pos (rw kept at f.2) in
    ((f.0, rest.0), rest.1)
Follows-old x y (Gone ∷ more) e pos f = absurd (omega (arith, f.1))
Follows-old x y (End ∷ more) e pos f =
    let apart : eqb y.version 0 ≡ false = eqb-apart y.version (omega arith) in
    let kept : after_end (Some y) ≡ Some y = rw apart refl in
    Follows-old x y more e pos (rw kept at f.1)

-- a put is accepted, and the reply says so
pub Follows-accepted : (v : ℕ) (z : Shown) (notices : List Notice) → v < z.version → 0 < v → AreOld v notices
    → Follows (Some z) (Some z) (notices ++ Shows z ∷ [])
Follows-accepted v z [] lt pos old = (omega arith, λ later. absurd (omega arith), after_shows-older (Some z) z (omega arith))
Follows-accepted v z (Shows y ∷ more) lt pos old =
    let kept : after_shows (Some z) y ≡ Some z = after_shows-older (Some z) y (omega (arith, old.0)) in
    (omega (arith, old.0), λ later. absurd (omega (arith, old.0)), rw kept (Follows-accepted v z more lt pos old.1))
Follows-accepted v z (Gone ∷ more) lt pos old = absurd old
Follows-accepted v z (End ∷ more) lt pos old =
    let kept : eqb z.version 0 ≡ false = eqb-apart z.version (omega arith) in
    (λ unlisted. absurd (cc), rw kept (Follows-accepted v z more lt pos old))

-- a put is accepted, and the reply is lost
pub Follows-lost : (y z : Shown) (notices : List Notice) → y.version < z.version → 0 < y.version → AreOld y.version notices
    → Follows (Some z) (Some y) (notices ++ Shows z ∷ [])
Follows-lost y z [] lt pos old = (omega arith, λ _ has. refl, after_shows-newer (Some y) z lt)
Follows-lost y z (Shows x ∷ more) lt pos old =
    let kept : after_shows (Some y) x ≡ Some y = after_shows-older (Some y) x old.0 in
    (omega (arith, old.0), λ later. absurd (omega (arith, old.0)), rw kept (Follows-lost y z more lt pos old.1))
Follows-lost y z (Gone ∷ more) lt pos old = absurd old
Follows-lost y z (End ∷ more) lt pos old =
    let kept : eqb y.version 0 ≡ false = eqb-apart y.version pos in
    (λ unlisted. absurd (cc), rw kept (Follows-lost y z more lt pos old))

-- notices of the store's list, to a core that holds nothing newer than it
pub Follows-listed : (x : Shown) (h : Option Shown) → version_at h < x.version → Follows (Some x) h (Shows x ∷ End ∷ [])
Follows-listed x h lt =
    let kept : after_shows h x ≡ Some x = after_shows-newer h x lt in
    let apart : eqb x.version 0 ≡ false = eqb-apart x.version (omega arith) in
    (omega arith, λ _ has. refl, rw (kept, apart) (λ unlisted. absurd (cc), refl))

-- the key isn't in the store's list, and what is held of it has no version any more
pub Follows-unlisted : (h : Option Shown) → version_at h ≡ 0 → Follows None h (End ∷ [])
Follows-unlisted None e = (λ _. tt, refl)
Follows-unlisted (Some x) e =
    let none : eqb x.version 0 ≡ true = rw e refl in
    (λ _. tt, rw none refl)
