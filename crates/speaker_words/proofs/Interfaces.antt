-- What is read of an interface is what the value says, and which interfaces are taken.
use Rattle.std.proofs.Common.{◌≡◌, ◌≢◌, ℕ, zero, suc, ◌+◌, ◌<◌, ◌≤◌, Bool, true, false, cond, not, ltb, eqb, eqb-true, List, []}
use Rattle.std.proofs.Common.{◌∷◌, ◌++◌, length, map, get_or, Option, Some, None, refl, sym, ap, ◌∙◌, subst, arith, inl, inr}
use Rattle.std.specs.Prelude.{◌&&◌}
use Rattle.std.specs.List.{AllByRecursion, list_any, before_first, after_first}
use Rattle.std.specs.Option.{option_map}
use Rattle.std.specs.Str.{bytes_eq}
use Rattle.std.proofs.lemmas.Bool.{and_right, or_parts, true≢false, ltb-true, lt-ltb, eqb-false}
use Rattle.std.proofs.lemmas.List.{length-append, get_or_append_left, get_or-append-add}
use Rattle.std.proofs.lemmas.List.Quantifiers.{all_pairs_push}
use Rattle.std.proofs.lemmas.Slice.Eq.{bytes_eq-Decides}
use Rattle.mlb_base.proofs.Among.{any-found}
use Rattle.command_options.specs.Options.{CommandOption, AreOptions, is_given, is_equals, has_equals, options_in}
use Rattle.command_options.proofs.Reading.{options_are_read}
use Rattle.speaker_words.specs.Interface.{InterfaceValue, IsMac, IsInterface, mac_of, interface_of}
use Rattle.speaker_words.specs.Words.{AreApart}
use Rattle.speaker_words.specs.Reading.{is_named, with_one}
use Rattle.speaker_words.proofs.Macs.{read-mac, mac-read}

-- ---- a value `NAME=MAC`
abbrev name_in : List ℕ → List ℕ
name_in value = before_first is_equals value

abbrev text_in : List ℕ → List ℕ
text_in value = after_first is_equals value

-- a word of its own is read as an option with a value where it has a `=`
joined-word : (value : List ℕ) → has_equals value ≡ true → is_given (text_in value) ≡ true
    → options_in (value ∷ []) ≡ Some (record { name = name_in value; value = text_in value } ∷ [])
joined-word value has given = rw (has, given) refl

joins-of : (o : CommandOption) (value : List ℕ) → AreOptions (o ∷ []) (value ∷ []) → (value ≡ o.name ++ 61 ∷ o.value) × AllByRecursion (λ c. c ≢ 61) o.name
joins-of o value (rest, lacks, inl one, more) = let is : value ≡ o.name ++ 61 ∷ o.value = cc in (is, lacks)
joins-of o value (rest, lacks, inr two, more) = absurd (cc)

text-given : (text mac : List ℕ) → IsMac text mac → is_given text ≡ true
text-given [] mac is = let long = is.long in absurd (omega (arith, long))
text-given (c ∷ text) mac is = refl

pub read-interface : (value : List ℕ) (i : InterfaceValue) → interface_of value ≡ Some i → IsInterface value i
read-interface value i e = by (has_equals value) (mac_of (text_in value)) refl refl e where
  by : (b : Bool) (m : Option (List ℕ)) → has_equals value ≡ b → mac_of (text_in value) ≡ m
      → cond b (option_map (λ mac. record { name = name_in value; mac = mac }) m) None ≡ Some i → IsInterface value i
  by false m t u f = absurd (cc)
  by true None t u f = absurd (cc)
  by true (Some mac) t u f =
      let is : IsMac (text_in value) mac = read-mac (text_in value) mac u in
      let o : CommandOption = record { name = name_in value; value = text_in value } in
      let parts = joins-of o value ((options_are_read (value ∷ []) (o ∷ [])).0 (joined-word value t (text-given (text_in value) mac is))) in
      let same : record { name = name_in value; mac = mac } ≡ i = cc in
      subst (IsInterface value) same (record { text = text_in value; joined = parts.0; lacks = parts.1; mac = is })

pub interface-read : (value : List ℕ) (i : InterfaceValue) → IsInterface value i → interface_of value ≡ Some i
interface-read value i is = by (has_equals value) (is_given (text_in value)) refl refl read where
  o : CommandOption
  o = record { name = i.name; value = is.text }

  read : options_in (value ∷ []) ≡ Some (o ∷ [])
  read = (options_are_read (value ∷ []) (o ∷ [])).1 ([], is.lacks, inl (ap (λ (v : List ℕ). v ∷ []) is.joined, text-given is.text i.mac is.mac), refl)

  by : (b g : Bool) → has_equals value ≡ b → is_given (text_in value) ≡ g → options_in (value ∷ []) ≡ Some (o ∷ []) → interface_of value ≡ Some i
  by false g t u f = let none : None ≡ Some (o ∷ []) = rw t at f in absurd (cc)
  by true false t u f = let none : None ≡ Some (o ∷ []) = rw (t, u) at f in absurd (cc)
  by true true t u f =
      let same : record { name = name_in value; value = text_in value } ≡ o =
      (let all : Some (record { name = name_in value; value = text_in value } ∷ []) ≡ Some (o ∷ []) = sym (joined-word value t u) ∙ f in cc) in
      let name : name_in value ≡ i.name = ap (λ (x : CommandOption). x.name) same in
      let text : text_in value ≡ is.text = ap (λ (x : CommandOption). x.value) same in
      rw (t, name, ap mac_of text ∙ mac-read is.text i.mac is.mac) refl

-- ---- at most 16 interfaces of distinct names
abbrev pub IsTable : List InterfaceValue → Type 0
IsTable is = (length is ≤ 16) × AreApart is

none-at : {X : Type 0} (test : X → Bool) (xs : List X) → list_any test xs ≡ false → (k : ℕ) (d : X) → k < length xs → test (get_or xs k d) ≡ false
none-at test [] e k d lt = absurd (omega (arith, lt))
none-at test (x ∷ xs) e zero d lt = (or_parts (test x) (list_any test xs) e).0
none-at test (x ∷ xs) e (suc k) d lt = none-at test xs (or_parts (test x) (list_any test xs) e).1 k d (omega (arith, lt))

unlike : (name other : List ℕ) → bytes_eq name other ≡ false → name ≢ other
unlike name other e same = true≢false (sym ((bytes_eq-Decides name other).1 same) ∙ e)

pub takes-one : (held : List InterfaceValue) (i : InterfaceValue) → length held < 16 → is_named i.name held ≡ false → with_one held i ≡ Some (held ++ i ∷ [])
takes-one held i room new = rw (lt-ltb (length held) 16 room, new) refl

-- what is taken, and that the interfaces stay a table
pub one-taken : (held is : List InterfaceValue) (i : InterfaceValue) → IsTable held → with_one held i ≡ Some is → (is ≡ held ++ i ∷ []) × IsTable is
one-taken held is i table e = by (ltb (length held) 16) (is_named i.name held) refl refl e where
  by : (room named : Bool) → ltb (length held) 16 ≡ room → is_named i.name held ≡ named → cond (room && not named) (Some (held ++ i ∷ [])) None ≡ Some is
      → (is ≡ held ++ i ∷ []) × IsTable is
  by false named t u f = absurd (cc)
  by true true t u f = absurd (cc)
  by true false t u f =
      let are : held ++ i ∷ [] ≡ is = cc in
      let room = ltb-true (length held) 16 t in
      let long = length-append held (i ∷ []) in
      let apart : AreApart (held ++ i ∷ []) =
      all_pairs_push (λ (x y : InterfaceValue). x.name ≢ y.name) held i table.1
      (λ k d lt. unlike (get_or held k d).name i.name (none-at (λ (x : InterfaceValue). bytes_eq x.name i.name) held u k d lt)) in
      (sym are, subst IsTable are (omega (arith, long, room), apart))

-- in a table the names ahead of an interface are others
pub new-name : (held more : List InterfaceValue) (i : InterfaceValue) → AreApart (held ++ i ∷ more) → is_named i.name held ≡ false
new-name held more i apart = by (is_named i.name held) refl where
  by : (b : Bool) → is_named i.name held ≡ b → b ≡ false
  by false e = refl
  by true e =
      let found = any-found (λ (x : InterfaceValue). bytes_eq x.name i.name) held e in
      let x : InterfaceValue = found.0 in
      let (k, lt, there) = found.1 in
      let long = length-append held (i ∷ more) in
      let first : get_or (held ++ i ∷ more) k x ≡ x = get_or_append_left held (i ∷ more) x k lt ∙ there in
      let second : get_or (held ++ i ∷ more) (length held + 0) x ≡ i = get_or-append-add held (i ∷ more) 0 x in
      let other = apart k (length held + 0) x (omega (arith, lt)) (omega (arith, long)) in
      absurd (other (ap (λ (j : InterfaceValue). j.name) first ∙ (bytes_eq-Decides x.name i.name).0 found.2 ∙ ap (λ (j : InterfaceValue). j.name) (sym second)))

pub room-for : (held more : List InterfaceValue) (i : InterfaceValue) → length (held ++ i ∷ more) ≤ 16 → length held < 16
room-for held more i few = let long = length-append held (i ∷ more) in omega (arith, long, few)

-- ---- what a call adds
module _ {X : Type 0} (seen : X → InterfaceValue) where
  any-seen : (test : InterfaceValue → Bool) (xs : List X) → list_any (λ x. test (seen x)) xs ≡ list_any test (map seen xs)
  any-seen test [] = refl
  any-seen test (x ∷ xs) = rw (any-seen test xs) refl

  seen-long : (xs : List X) → length (map seen xs) ≡ length xs
  seen-long [] = refl
  seen-long (x ∷ xs) = ap suc (seen-long xs)

  seen-more : (xs : List X) (x : X) → map seen (xs ++ x ∷ []) ≡ map seen xs ++ seen x ∷ []
  seen-more [] x = refl
  seen-more (y ∷ ys) x = ap (λ (is : List InterfaceValue). seen y ∷ is) (seen-more ys x)

  pub none-full : (xs : List X) (x : X) → eqb (length xs) 16 ≡ true → None ≡ with_one (map seen xs) (seen x)
  none-full xs x full =
      let long : length (map seen xs) ≡ 16 = seen-long xs ∙ eqb-true (length xs) 16 full in
      rw long refl

  pub none-named : (xs : List X) (x : X) → list_any (λ y. bytes_eq (seen y).name (seen x).name) xs ≡ true → None ≡ with_one (map seen xs) (seen x)
  none-named xs x named =
      let one : is_named (seen x).name (map seen xs) ≡ true = sym (any-seen (λ i. bytes_eq i.name (seen x).name) xs) ∙ named in
      ap (λ (b : Bool). cond b (Some (map seen xs ++ seen x ∷ [])) None)
      (sym (and_right (ltb (length (map seen xs)) 16) (not (is_named (seen x).name (map seen xs))) (ap not one)))

  pub one-added : (xs : List X) (x : X) → length xs ≤ 16 → eqb (length xs) 16 ≡ false → list_any (λ y. bytes_eq (seen y).name (seen x).name) xs ≡ false
      → Some (map seen (xs ++ x ∷ [])) ≡ with_one (map seen xs) (seen x)
  one-added xs x fits free new =
      let other = eqb-false (length xs) 16 free in
      let long = seen-long xs in
      ap (λ (is : List InterfaceValue). Some is) (seen-more xs x)
      ∙ sym (takes-one (map seen xs) (seen x) (omega (arith, other, long, fits)) (sym (any-seen (λ i. bytes_eq i.name (seen x).name) xs) ∙ new))
