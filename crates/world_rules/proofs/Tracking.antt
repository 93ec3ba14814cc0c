-- How each step keeps what holds of one service.
use Rattle.kube_model.specs.Records.{is_assigned}
use Rattle.std.specs.Prelude.{is_some}
use Rattle.sharing_terms.specs.Spelled.{recorded_terms}
use Rattle.world_rules.specs.Tracked.{is_given}
use Rattle.std.proofs.Common.{◌≡◌, ℕ, ◌+◌, ◌≤◌, ◌<◌, Bool, true, false, cond, eqb, List, [], ◌∷◌, ◌++◌}
use Rattle.std.proofs.Common.{Option, Some, None, refl, sym, ap, subst, ◌∙◌, arith, MatchBool}
use Rattle.std.proofs.lemmas.Bool.{true≢false, and_parts}
use Rattle.std.specs.List.{Contains}
use Rattle.mlb_base.proofs.Among.{contains-first}
use Rattle.kube_model.specs.declared.record.Record.{Record}
use Rattle.claim_index.specs.Claims.{claimed_by}
use Rattle.world_rules.specs.Tracked.{Shown, Notice, Shows, Gone, End, version_at, IsBare, Agrees, IsBehind, after_end, is_unlisted}
use Rattle.world_rules.specs.Tracked.{has_gone, MatchesClaims, IsClaimed, WillBeClaimed, AreGiven, EndsOnce, IsTracked}
use Rattle.world_rules.proofs.Following.{leb-newer, leb-older, after_shows-newer, after_shows-older, after_end-given, at_next, Follows-set, Follows-create}
use Rattle.world_rules.proofs.Following.{Follows-delete, Follows-old, Follows-accepted, Follows-lost, Follows-listed, Follows-unlisted, agrees-carried}

AreGiven-later : (low n : ℕ) (notices : List Notice) → AreGiven low n notices → AreGiven low (n + 1) notices
AreGiven-later low n [] g = tt
AreGiven-later low n (Shows x ∷ more) g = (g.0, omega (arith, g.1), AreGiven-later x.version n more g.2)
AreGiven-later low n (Gone ∷ more) g = AreGiven-later low n more g
AreGiven-later low n (End ∷ more) g = AreGiven-later low n more g

AreGiven-lower : (low less n : ℕ) (notices : List Notice) → less ≤ low → AreGiven low n notices → AreGiven less n notices
AreGiven-lower low less n [] le g = tt
AreGiven-lower low less n (Shows x ∷ more) le g = (omega (arith, g.0), g.1, g.2)
AreGiven-lower low less n (Gone ∷ more) le g = AreGiven-lower low less n more le g
AreGiven-lower low less n (End ∷ more) le g = AreGiven-lower low less n more le g

AreGiven-more : (low n : ℕ) (r : Record) (notices : List Notice) → low ≤ n → AreGiven low n notices → AreGiven low (n + 1) (notices ++ Shows (at_next n r) ∷ [])
AreGiven-more low n r [] le g = (omega arith, omega arith, tt)
AreGiven-more low n r (Shows x ∷ more) le g = (g.0, omega (arith, g.1), AreGiven-more x.version n r more g.1 g.2)
AreGiven-more low n r (Gone ∷ more) le g = AreGiven-more low n r more le g
AreGiven-more low n r (End ∷ more) le g = AreGiven-more low n r more le g

AreGiven-gone : (low n : ℕ) (notices : List Notice) → AreGiven low n notices → AreGiven low (n + 1) (notices ++ Gone ∷ [])
AreGiven-gone low n [] g = tt
AreGiven-gone low n (Shows x ∷ more) g = (g.0, omega (arith, g.1), AreGiven-gone x.version n more g.2)
AreGiven-gone low n (Gone ∷ more) g = AreGiven-gone low n more g
AreGiven-gone low n (End ∷ more) g = AreGiven-gone low n more g

EndsOnce-more : (ended : Bool) (x : Shown) (notices : List Notice) → EndsOnce ended notices → EndsOnce ended (notices ++ Shows x ∷ [])
EndsOnce-more true x [] e = tt
EndsOnce-more false x [] e = absurd e
EndsOnce-more true x (Shows y ∷ more) e = EndsOnce-more true x more e
EndsOnce-more false x (Shows y ∷ more) e = EndsOnce-more false x more e
EndsOnce-more true x (Gone ∷ more) e = EndsOnce-more true x more e
EndsOnce-more false x (Gone ∷ more) e = EndsOnce-more false x more e
EndsOnce-more true x (End ∷ more) e = absurd e
EndsOnce-more false x (End ∷ more) e = EndsOnce-more true x more e

EndsOnce-gone : (ended : Bool) (notices : List Notice) → EndsOnce ended notices → EndsOnce ended (notices ++ Gone ∷ [])
EndsOnce-gone true [] e = tt
EndsOnce-gone false [] e = absurd e
EndsOnce-gone true (Shows y ∷ more) e = EndsOnce-gone true more e
EndsOnce-gone false (Shows y ∷ more) e = EndsOnce-gone false more e
EndsOnce-gone true (Gone ∷ more) e = EndsOnce-gone true more e
EndsOnce-gone false (Gone ∷ more) e = EndsOnce-gone false more e
EndsOnce-gone true (End ∷ more) e = absurd e
EndsOnce-gone false (End ∷ more) e = EndsOnce-gone true more e

-- a stored service without an address is claimed by nothing
pub IsClaimed-bare : (s : Option Shown) (claims : List Record) → IsBare s → IsClaimed s claims
IsClaimed-bare None claims bare = tt
IsClaimed-bare (Some x) claims bare = λ has. absurd (true≢false (sym has ∙ bare))

-- what lasts from one record to another, which has an address only where it is the same
IsClaimed-same : (x y : Shown) (claims : List Record) → (is_given y.holding ≡ true → y.holding ≡ x.holding) → IsClaimed (Some x) claims
    → IsClaimed (Some y) claims
IsClaimed-same x y claims keeps c = λ has. subst (Contains claims) (sym (keeps has)) (c (ap is_given (sym (keeps has)) ∙ has))

WillBeClaimed-bare : (s : Option Shown) (notices : List Notice) (h : Option Shown) (claims : List Record) → IsBare s → WillBeClaimed s h claims notices
WillBeClaimed-bare s [] h claims bare = IsClaimed-bare s claims bare
WillBeClaimed-bare s (Shows x ∷ more) h claims bare = WillBeClaimed-bare s more _ _ bare
WillBeClaimed-bare s (Gone ∷ more) h claims bare = WillBeClaimed-bare s more _ _ bare
WillBeClaimed-bare s (End ∷ more) h claims bare = IsClaimed-bare s claims bare

-- an event after the end of the list changes nothing here
WillBeClaimed-more : (x y : Shown) (last : List Notice) (notices : List Notice) (h : Option Shown) (claims : List Record) → (is_given y.holding ≡ true
    → y.holding ≡ x.holding) → EndsOnce false notices → WillBeClaimed (Some x) h claims notices → WillBeClaimed (Some y) h claims (notices ++ last)
WillBeClaimed-more x y last [] h claims e ends w = absurd ends
WillBeClaimed-more x y last (Shows z ∷ more) h claims e ends w = WillBeClaimed-more x y last more _ _ e ends w
WillBeClaimed-more x y last (Gone ∷ more) h claims e ends w = WillBeClaimed-more x y last more _ _ e ends w
WillBeClaimed-more x y last (End ∷ more) h claims e ends w = IsClaimed-same x y claims e w

-- a claim of the record that is shown is one of what is stored, where they agree
pub IsClaimed-shown : (s : Option Shown) (r : Record) → Agrees s r → IsClaimed s (claimed_by r)
IsClaimed-shown None r a = tt
IsClaimed-shown (Some x) r a = λ has.
    let e : r ≡ x.holding = a has in
    let assigned : is_assigned x.holding ≡ true = (and_parts (is_assigned x.holding) (is_some (recorded_terms x.holding.mark)) has).0 in
    rw (e, assigned) (contains-first x.holding [])

-- more claims than before
abbrev pub Grows : List Record → List Record → Type 0
Grows claims more = (r : Record) → Contains claims r → Contains more r

IsClaimed-more : (s : Option Shown) (claims more : List Record) → Grows claims more → IsClaimed s claims → IsClaimed s more
IsClaimed-more None claims more grows c = tt
IsClaimed-more (Some x) claims more grows c = λ has. grows x.holding (c has)

claimed-set : (ended : Bool) (x y : Shown) (h : Option Shown) (claims : List Record) (notices last : List Notice)
    → (is_given y.holding ≡ true → y.holding ≡ x.holding) → EndsOnce ended notices → MatchBool ended (IsClaimed (Some x) claims)
    (WillBeClaimed (Some x) h claims notices) → MatchBool ended (IsClaimed (Some y) claims) (WillBeClaimed (Some y) h claims (notices ++ last))
claimed-set true x y h claims notices last e ends c = IsClaimed-same x y claims e c
claimed-set false x y h claims notices last e ends c = WillBeClaimed-more x y last notices h claims e ends c

claimed-bare : (ended : Bool) (s h : Option Shown) (claims : List Record) (notices : List Notice) → IsBare s
    → MatchBool ended (IsClaimed s claims) (WillBeClaimed s h claims notices)
claimed-bare true s h claims notices bare = IsClaimed-bare s claims bare
claimed-bare false s h claims notices bare = WillBeClaimed-bare s notices h claims bare

MatchesClaims-shown : (x : Shown) → MatchesClaims (Some x) (claimed_by x.holding)
MatchesClaims-shown x = λ has. rw has (contains-first x.holding [])

unlisted-kept : (b : Bool) (x : Shown) (claims : List Record) → MatchesClaims (Some x) claims → MatchesClaims (cond b None (Some x)) (cond b [] claims)
unlisted-kept true x claims k = refl
unlisted-kept false x claims k = k

kept-end : (h : Option Shown) (claims : List Record) → MatchesClaims h claims → MatchesClaims (after_end h) (cond (is_unlisted h) [] claims)
kept-end None claims k = k
kept-end (Some x) claims k = unlisted-kept (eqb x.version 0) x claims k

-- an edit of another key
pub tracked-other : (n : ℕ) (ended : Bool) (s h : Option Shown) (claims : List Record) (notices : List Notice) → IsTracked n ended s h claims notices
    → IsTracked (n + 1) ended s h claims notices
tracked-other n ended s h claims notices t =
    record {
      stored_given = omega (arith, t.stored_given);
      stored_later = t.stored_later;
      held_given = omega (arith, t.held_given);
      notices_given = AreGiven-later 0 n notices t.notices_given;
      kept = t.kept;
      ends = t.ends;
      follows = t.follows;
      claimed = t.claimed;
    }

-- the service is changed: where it has an address then, it keeps its record
pub tracked-set : (n : ℕ) (ended : Bool) (x : Shown) (r : Record) (h : Option Shown) (claims : List Record) (notices : List Notice) → (is_given r ≡ true
    → r ≡ x.holding) → IsTracked n ended (Some x) h claims notices → IsTracked (n + 1) ended (Some (at_next n r)) h claims (notices ++ Shows (at_next n r) ∷ [])
tracked-set n ended x r h claims notices keeps t =
    record {
      stored_given = omega arith;
      stored_later = omega arith;
      held_given = omega (arith, t.held_given);
      notices_given = AreGiven-more 0 n r notices (omega arith) t.notices_given;
      kept = t.kept;
      ends = EndsOnce-more ended _ notices t.ends;
      follows = Follows-set n x r notices h t.stored_given keeps t.follows;
      claimed = claimed-set ended x (at_next n r) h claims notices (Shows (at_next n r) ∷ []) keeps t.ends t.claimed;
    }

-- the service is made
pub tracked-create : (n : ℕ) (ended : Bool) (r : Record) (h : Option Shown) (claims : List Record) (notices : List Notice) → is_given r ≡ false
    → IsTracked n ended None h claims notices → IsTracked (n + 1) ended (Some (at_next n r)) h claims (notices ++ Shows (at_next n r) ∷ [])
tracked-create n ended r h claims notices bare t =
    record {
      stored_given = omega arith;
      stored_later = omega arith;
      held_given = omega (arith, t.held_given);
      notices_given = AreGiven-more 0 n r notices (omega arith) t.notices_given;
      kept = t.kept;
      ends = EndsOnce-more ended _ notices t.ends;
      follows = Follows-create n 0 r notices h bare t.held_given t.notices_given t.follows;
      claimed = claimed-bare ended (Some (at_next n r)) h claims (notices ++ Shows (at_next n r) ∷ []) bare;
    }

-- the service is deleted
pub tracked-delete : (n : ℕ) (ended : Bool) (s h : Option Shown) (claims : List Record) (notices : List Notice) → IsTracked n ended s h claims notices
    → IsTracked (n + 1) ended None h claims (notices ++ Gone ∷ [])
tracked-delete n ended s h claims notices t =
    record {
      stored_given = omega arith;
      stored_later = tt;
      held_given = omega (arith, t.held_given);
      notices_given = AreGiven-gone 0 n notices t.notices_given;
      kept = t.kept;
      ends = EndsOnce-gone ended notices t.ends;
      follows = Follows-delete s notices h t.follows;
      claimed = claimed-bare ended None h claims (notices ++ Gone ∷ []) tt;
    }

claimed-shows : (ended : Bool) (s h : Option Shown) (x : Shown) (claims : List Record) (notices : List Notice)
    → version_at h < x.version → Agrees s x.holding → MatchBool ended (IsClaimed s claims) (WillBeClaimed s h claims (Shows x ∷ notices))
    → MatchBool ended (IsClaimed s (claimed_by x.holding)) (WillBeClaimed s (Some x) (claimed_by x.holding) notices)
claimed-shows true s h x claims notices lt a c = IsClaimed-shown s x.holding a
claimed-shows false s h x claims notices lt a c = let newer = leb-newer x.version (version_at h) lt in rw newer at c

claimed-older : (ended : Bool) (s h : Option Shown) (x : Shown) (claims : List Record) (notices : List Notice) → x.version ≤ version_at h → MatchBool ended
    (IsClaimed s claims) (WillBeClaimed s h claims (Shows x ∷ notices)) → MatchBool ended (IsClaimed s claims) (WillBeClaimed s h claims notices)
claimed-older true s h x claims notices le c = c
claimed-older false s h x claims notices le c = let older = leb-older x.version (version_at h) le in rw older at c

ends-shows : (ended : Bool) (x : Shown) (notices : List Notice) → EndsOnce ended (Shows x ∷ notices) → EndsOnce ended notices
ends-shows true x notices e = e
ends-shows false x notices e = e

ends-gone : (ended : Bool) (notices : List Notice) → EndsOnce ended (Gone ∷ notices) → EndsOnce ended notices
ends-gone true notices e = e
ends-gone false notices e = e

-- a newer event is taken
pub tracked-newer : (n : ℕ) (ended : Bool) (s h : Option Shown) (x : Shown) (claims : List Record) (notices : List Notice) → version_at h < x.version
    → IsTracked n ended s h claims (Shows x ∷ notices) → IsTracked n ended s (Some x) (claimed_by x.holding) notices
tracked-newer n ended s h x claims notices lt t =
    let newer = after_shows-newer h x lt in
    record {
      stored_given = t.stored_given;
      stored_later = t.stored_later;
      held_given = t.notices_given.1;
      notices_given = AreGiven-lower x.version 0 n notices (omega arith) t.notices_given.2;
      kept = MatchesClaims-shown x;
      ends = ends-shows ended x notices t.ends;
      follows = rw newer at t.follows.2;
      claimed = claimed-shows ended s h x claims notices lt (agrees-carried (has_gone notices) s x.holding (t.follows.1 lt)) t.claimed;
    }

-- an older event is ignored
pub tracked-older : (n : ℕ) (ended : Bool) (s h : Option Shown) (x : Shown) (claims : List Record) (notices : List Notice) → x.version ≤ version_at h
    → IsTracked n ended s h claims (Shows x ∷ notices) → IsTracked n ended s h claims notices
tracked-older n ended s h x claims notices le t =
    let older = after_shows-older h x le in
    record {
      stored_given = t.stored_given;
      stored_later = t.stored_later;
      held_given = t.held_given;
      notices_given = AreGiven-lower x.version 0 n notices (omega arith) t.notices_given.2;
      kept = t.kept;
      ends = ends-shows ended x notices t.ends;
      follows = rw older at t.follows.2;
      claimed = claimed-older ended s h x claims notices le t.claimed;
    }

claimed-gone : (ended : Bool) (s h : Option Shown) (claims : List Record) (notices : List Notice) → IsBare s
    → MatchBool ended (IsClaimed s claims) (WillBeClaimed s h claims (Gone ∷ notices)) → MatchBool ended (IsClaimed s []) (WillBeClaimed s None [] notices)
claimed-gone true s h claims notices bare c = IsClaimed-bare s [] bare
claimed-gone false s h claims notices bare c = c

-- a deletion is taken
pub tracked-gone : (n : ℕ) (ended : Bool) (s h : Option Shown) (claims : List Record) (notices : List Notice) → IsTracked n ended s h claims (Gone ∷ notices)
    → IsTracked n ended s None [] notices
tracked-gone n ended s h claims notices t =
    record {
      stored_given = t.stored_given;
      stored_later = t.stored_later;
      held_given = omega arith;
      notices_given = t.notices_given;
      kept = refl;
      ends = ends-gone ended notices t.ends;
      follows = t.follows.2;
      claimed = claimed-gone ended s h claims notices t.follows.0 t.claimed;
    }

dropped : (b : Bool) (s : Option Shown) (claims : List Record) → (b ≡ true → IsBare s) → IsClaimed s claims → IsClaimed s (cond b [] claims)
dropped true s claims bare c = IsClaimed-bare s [] (bare refl)
dropped false s claims bare c = c

-- the end of the list is taken
pub tracked-end : (n : ℕ) (s h : Option Shown) (claims : List Record) (notices : List Notice) → IsTracked n false s h claims (End ∷ notices)
    → IsTracked n true s (after_end h) (cond (is_unlisted h) [] claims) notices
tracked-end n s h claims notices t =
    record {
      stored_given = t.stored_given;
      stored_later = t.stored_later;
      held_given = after_end-given n h t.held_given;
      notices_given = t.notices_given;
      kept = kept-end h claims t.kept;
      ends = t.ends;
      follows = t.follows.1;
      claimed = dropped (is_unlisted h) s claims t.follows.0 t.claimed;
    }

-- a put is accepted at the held version, and its reply comes
pub tracked-accepted : (n : ℕ) (x y : Shown) (r : Record) (claims : List Record) (notices : List Notice) → y.version ≡ x.version → IsTracked n true (Some x)
    (Some y) claims notices → IsTracked (n + 1) true (Some (at_next n r)) (Some (at_next n r)) (claimed_by r) (notices ++ Shows (at_next n r) ∷ [])
tracked-accepted n x y r claims notices e t =
    let old = Follows-old x y notices e t.stored_later t.follows in
    record {
      stored_given = omega arith;
      stored_later = omega arith;
      held_given = omega arith;
      notices_given = AreGiven-more 0 n r notices (omega arith) t.notices_given;
      kept = MatchesClaims-shown (at_next n r);
      ends = EndsOnce-more true _ notices t.ends;
      follows = Follows-accepted x.version (at_next n r) notices (omega (arith, t.stored_given)) t.stored_later old.0;
      claimed = IsClaimed-shown (Some (at_next n r)) r (λ _. refl);
    }

-- a put is accepted, and its reply is lost
pub tracked-lost : (n : ℕ) (x y : Shown) (r : Record) (claims more : List Record) (notices : List Notice) → y.version ≡ x.version → Grows claims more
    → (is_given r ≡ true → Contains more r)
    → IsTracked n true (Some x) (Some y) claims notices → IsTracked (n + 1) true (Some (at_next n r)) (Some y) more (notices ++ Shows (at_next n r) ∷ [])
tracked-lost n x y r claims more notices e grows own t =
    let old = Follows-old x y notices e t.stored_later t.follows in
    record {
      stored_given = omega arith;
      stored_later = omega arith;
      held_given = omega (arith, t.held_given);
      notices_given = AreGiven-more 0 n r notices (omega arith) t.notices_given;
      kept = λ has. grows y.holding (t.kept has);
      ends = EndsOnce-more true _ notices t.ends;
      follows = Follows-lost y (at_next n r) notices (omega (arith, t.held_given)) (omega (arith, t.stored_later)) (rw e old.0);
      claimed = own;
    }

-- a put isn't accepted, and its reply is lost
pub tracked-doubted : (n : ℕ) (s : Option Shown) (y : Shown) (claims more : List Record) (notices : List Notice) → Grows claims more
    → IsTracked n true s (Some y) claims notices → IsTracked n true s (Some y) more notices
tracked-doubted n s y claims more notices grows t =
    record {
      stored_given = t.stored_given;
      stored_later = t.stored_later;
      held_given = t.held_given;
      notices_given = t.notices_given;
      kept = λ has. grows y.holding (t.kept has);
      ends = t.ends;
      follows = t.follows;
      claimed = IsClaimed-more s claims more grows t.claimed;
    }

-- what a new core is told of a key
abbrev pub listed_notices : Option Shown → List Notice
listed_notices None = End ∷ []
listed_notices (Some x) = Shows x ∷ End ∷ []

pub tracked-fresh : (n : ℕ) (s : Option Shown) → version_at s ≤ n → IsBehind s 0 → IsTracked n false s None [] (listed_notices s)
tracked-fresh n None given later =
    record {
      stored_given = given;
      stored_later = tt;
      held_given = omega arith;
      notices_given = tt;
      kept = refl;
      ends = tt;
      follows = (λ _. tt, refl);
      claimed = tt;
    }
tracked-fresh n (Some x) given later =
    let newer = leb-newer x.version 0 later in
    record {
      stored_given = given;
      stored_later = later;
      held_given = omega arith;
      notices_given = (later, given, tt);
      kept = refl;
      ends = tt;
      follows = Follows-listed x None later;
      claimed = rw newer (IsClaimed-shown (Some x) x.holding (λ _. refl));
    }

-- what is held, with no version any more
abbrev pub unversion : Option Shown → Option Shown
unversion None = None
unversion (Some x) = Some (record { version = 0; holding = x.holding })

unversion-zero : (h : Option Shown) → version_at (unversion h) ≡ 0
unversion-zero None = refl
unversion-zero (Some x) = refl

unversion-kept : (h : Option Shown) (claims : List Record) → MatchesClaims h claims → MatchesClaims (unversion h) claims
unversion-kept None claims k = k
unversion-kept (Some x) claims k = k

-- the watch expires, and the key is listed anew or isn't stored
pub tracked-expired : (n : ℕ) (ended : Bool) (s h : Option Shown) (claims : List Record) (notices : List Notice) → IsTracked n ended s h claims notices
    → IsTracked n false s (unversion h) claims (listed_notices s)
tracked-expired n ended None h claims notices t =
    record {
      stored_given = t.stored_given;
      stored_later = tt;
      held_given = rw (unversion-zero h) (omega arith);
      notices_given = tt;
      ends = tt;
      follows = Follows-unlisted (unversion h) (unversion-zero h);
      claimed = tt;
      kept = unversion-kept h claims t.kept;
    }
tracked-expired n ended (Some x) h claims notices t =
    let later : version_at (unversion h) < x.version = rw (unversion-zero h) t.stored_later in
    let newer = leb-newer x.version (version_at (unversion h)) later in
    record {
      stored_given = t.stored_given;
      stored_later = t.stored_later;
      held_given = rw (unversion-zero h) (omega arith);
      notices_given = (t.stored_later, t.stored_given, tt);
      ends = tt;
      follows = Follows-listed x (unversion h) later;
      claimed = rw newer (IsClaimed-shown (Some x) x.holding (λ _. refl));
      kept = unversion-kept h claims t.kept;
    }
