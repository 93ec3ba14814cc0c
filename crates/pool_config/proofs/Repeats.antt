-- The first list of communities with a name that stood before.
use Rattle.std.proofs.Common.{◌≡◌, ℕ, zero, suc, ◌<◌, Bool, true, false, ◌||◌, List, [], ◌∷◌, ◌++◌, ◌⊎◌, inl, inr, map}
use Rattle.std.proofs.Common.{cond, length, Option, Some, None, refl, sym, ◌∙◌, ap, subst, arith, Decides, append_assoc}
use Rattle.std.proofs.lemmas.Bool.{cases_lt}
use Rattle.std.proofs.lemmas.Bool.Decides.{not_from_Decides}
use Rattle.std.specs.List.{list_any}
use Rattle.std.specs.BTreeMap.{is_at}
use Rattle.std.specs.BTreeSet.{insert_key}
use Rattle.kube_model.specs.declared.community.CommunityList.{CommunityList}
use Rattle.pool_config.specs.Faults.{FaultyItem, IsBefore, key_of, community_aliases}
use Rattle.kube_labels.specs.Names.{name_cmp}
use Rattle.kube_labels.proofs.NameLaws.{name_cmp-total, name_cmp-exact}
use Rattle.mlb_base.specs.Items.{ItemAt, Has, IsIn}
use Rattle.pool_config.specs.Search.{first_repeat, repeats, names_with}
use Rattle.pool_config.proofs.Firsts.{Finds}
use Rattle.pool_config.proofs.ItemLaws.{item_at_length, item_bound, length_push, append_nil}
use Rattle.pool_config.proofs.KeySets.{held-Decides, in_insert, insert_in}

-- an entry: the name of its list, and its own
abbrev Alias : Type 0
Alias = List ℕ × List ℕ

-- the same search over all entries
abbrev pub repeat_from : List (List ℕ) → List Alias → Option (List ℕ)
repeat_from held [] = None
repeat_from held (v ∷ more) = cond (list_any (is_at (name_cmp v.1)) held) (Some v.0) (repeat_from (insert_key name_cmp held v.1) more)

one_list : (c : List ℕ) (held : List (List ℕ)) (values rest : List Alias)
    → repeat_from held (map (λ v. (c, v.0)) values ++ rest) ≡ cond (repeats held values) (Some c) (repeat_from (names_with held values) rest)
one_list c held [] rest = refl
one_list c held (v ∷ vs) rest = go (list_any (is_at (name_cmp v.0)) held) (one_list c (insert_key name_cmp held v.0) vs rest)
  where
    go : (b : Bool) → repeat_from (insert_key name_cmp held v.0) (map (λ w. (c, w.0)) vs ++ rest)
        ≡ cond (repeats (insert_key name_cmp held v.0) vs) (Some c) (repeat_from (names_with (insert_key name_cmp held v.0) vs) rest)
        → cond b (Some c) (repeat_from (insert_key name_cmp held v.0) (map (λ w. (c, w.0)) vs ++ rest))
        ≡ cond (b || repeats (insert_key name_cmp held v.0) vs) (Some c) (repeat_from (names_with (insert_key name_cmp held v.0) vs) rest)
    go true later = refl
    go false later = later

pub all_lists : (held : List (List ℕ)) (communities : List (List ℕ × CommunityList))
    → repeat_from held (community_aliases communities) ≡ first_repeat held communities
all_lists held [] = refl
all_lists held (c ∷ cs) = one_list c.0 held c.1.values (community_aliases cs) ∙ rw (all_lists (names_with held c.1.values) cs) refl

-- some entry has the name
abbrev Named : List Alias → List ℕ → Type 0
Named entries n = Has (λ w. w.1 ≡ n) entries

push_named : (done : List Alias) (v : Alias) (n : List ℕ) → (v.1 ≡ n) ⊎ Named done n → Named (done ++ v ∷ []) n
push_named [] v n (inl here) = inl here
push_named [] v n (inr none) = absurd none
push_named (x ∷ xs) v n (inl here) = inr (push_named xs v n (inl here))
push_named (x ∷ xs) v n (inr (inl first)) = inl first
push_named (x ∷ xs) v n (inr (inr later)) = inr (push_named xs v n (inr later))

named_push : (done : List Alias) (v : Alias) (n : List ℕ) → Named (done ++ v ∷ []) n → (v.1 ≡ n) ⊎ Named done n
named_push [] v n (inl here) = inl here
named_push [] v n (inr none) = absurd none
named_push (x ∷ xs) v n (inl first) = inr (inl first)
named_push (x ∷ xs) v n (inr later) = elim (named_push xs v n later) [ inl here ↦ inl here | inr old ↦ inr (inr old) ]

record Holds (done : List Alias) (held : List (List ℕ)) : Type 0 where
  to : (n : List ℕ) → IsIn held n → Named done n
  from : (n : List ℕ) → Named done n → IsIn held n

holds_more : (done : List Alias) (v : Alias) (held : List (List ℕ)) → Holds done held → Holds (done ++ v ∷ []) (insert_key name_cmp held v.1)
holds_more done v held h = record {
  to = λ n inside. push_named done v n (elim (in_insert name_cmp-total name_cmp-exact held v.1 n inside) [ inl new ↦ inl new | inr old ↦ inr (h.to n old) ]);
  from = λ n inside.
      insert_in name_cmp-total name_cmp-exact held v.1 n (elim (named_push done v n inside) [ inl new ↦ inl new | inr old ↦ inr (h.from n old) ]);
}

-- an entry whose name stands at a place before
abbrev pub Repeated : List Alias → ℕ → Alias → Type 0
Repeated entries place v = (k : ℕ) × (w : Alias) × (k < place) × ItemAt entries k w × (w.1 ≡ v.1)

abbrev pub RepeatAt : List Alias → ℕ → ℕ → List ℕ → Type 0
RepeatAt entries first second name = FaultyItem key_of (Repeated entries first) entries first second name

named_before : (done rest : List Alias) (n : List ℕ) → Named done n → (k : ℕ) × (w : Alias) × (k < length done) × ItemAt (done ++ rest) k w × (w.1 ≡ n)
named_before [] rest n h = absurd h
named_before (x ∷ xs) rest n (inl here) = (0, x, omega arith, refl, here)
named_before (x ∷ xs) rest n (inr later) = let (k, w, below, stands, is) = named_before xs rest n later in (suc k, w, omega arith, stands, is)

before_named : (done rest : List Alias) (n : List ℕ) (k : ℕ) (w : Alias) → k < length done → ItemAt (done ++ rest) k w → w.1 ≡ n → Named done n
before_named [] rest n k w below stands is = absurd (omega arith)
before_named (x ∷ xs) rest n zero w below stands is = inl (ap (λ (e : Alias). e.1) stands ∙ is)
before_named (x ∷ xs) rest n (suc k) w below stands is = inr (before_named xs rest n k w (omega arith) stands is)

item_is : (done rest : List Alias) (v w : Alias) → ItemAt (done ++ v ∷ rest) (length done) w → v ≡ w
item_is [] rest v w h = h
item_is (x ∷ xs) rest v w h = item_is xs rest v w h

repeats_from : (entries done rest : List Alias) (held : List (List ℕ)) → entries ≡ done ++ rest → Holds done held
    → ((i : ℕ) (v : Alias) → i < length done → ItemAt entries i v → ¬ Repeated entries i v) → Finds (RepeatAt entries) (repeat_from held rest)
repeats_from entries done [] held split h before = λ first second name f.
    let whole : entries ≡ done = split ∙ append_nil done in
    before first f.item (let bound : first < length entries = item_bound entries first f.item f.stands in
    omega (arith, ap (λ (l : List Alias). length l) whole)) f.stands f.faulty
repeats_from entries done (v ∷ rest) held split h before =
    go (list_any (is_at (name_cmp v.1)) held) (held-Decides name_cmp-total name_cmp-exact held v.1)
    (repeats_from entries (done ++ v ∷ []) rest (insert_key name_cmp held v.1) (split ∙ sym (append_assoc done (v ∷ []) rest)) (holds_more done v held h))
  where
    len : length (done ++ v ∷ []) ≡ suc (length done)
    len = length_push done v

    least : (first second : ℕ) (name : List ℕ) → RepeatAt entries first second name → IsBefore first second (length done) (length done) → ⊥
    least first second name f (inl below) = before first f.item below f.stands f.faulty
    least first second name f (inr tied) = let alone = f.alone in omega arith

    go : (b : Bool) → Decides b (IsIn held v.1)
        → (((i : ℕ) (w : Alias) → i < length (done ++ v ∷ []) → ItemAt entries i w → ¬ Repeated entries i w)
        → Finds (RepeatAt entries) (repeat_from (insert_key name_cmp held v.1) rest))
        → Finds (RepeatAt entries) (cond b (Some v.0) (repeat_from (insert_key name_cmp held v.1) rest))
    go true decides later =
        let (k, w, below, stands, is) = named_before done (v ∷ rest) v.1 (h.to v.1 (decides.0 refl)) in
        let S : List Alias → Type 0 = λ l. ItemAt l (length done) v in
        let Q : List Alias → Type 0 = λ l. ItemAt l k w in
        record {
          first = length done;
          second = length done;
          here = record {
            item = v;
            stands = subst S (sym split) (item_at_length done rest v);
            faulty = (k, w, below, subst Q (sym split) stands, is);
            named = refl;
            alone = refl;
          };
          least = least;
        }
    go false decides later = later (λ i w below stands repeated. elim (cases_lt i (length done)) [
      | inl earlier ↦ before i w earlier stands repeated
      | inr here ↦
          let at : i ≡ length done = omega (arith, len) in
          let (k, u, less, there, is) = repeated in
          let Q : List Alias → Type 0 = λ l. ItemAt l k u in
          let S : List Alias → Type 0 = λ l. ItemAt l i w in
          let P : ℕ → Type 0 = λ n. ItemAt (done ++ v ∷ rest) n w in
          let same : v ≡ w = item_is done rest v w (subst P at (subst S split stands)) in
          let named : Named done v.1 = before_named done (v ∷ rest) v.1 k u (omega arith) (subst Q split there) (is ∙ sym (ap (λ (e : Alias). e.1) same)) in
          not_from_Decides false decides refl (h.from v.1 named)
    ])

pub finds_repeat : (communities : List (List ℕ × CommunityList)) → Finds (RepeatAt (community_aliases communities)) (first_repeat [] communities)
finds_repeat communities =
    let P : Option (List ℕ) → Type 0 = Finds (RepeatAt (community_aliases communities)) in
    subst P (all_lists [] communities)
    (repeats_from (community_aliases communities) [] (community_aliases communities) [] refl (record { to = λ n h. h; from = λ n h. h })
    (λ i v below. absurd (omega arith)))
