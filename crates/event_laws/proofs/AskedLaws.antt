-- The addresses that a service asks for.
use Rattle.std.proofs.Common.{◌≡◌, ◌≢◌, ℕ, List, [], ◌∷◌, map, Option, Some, None, option_map, option_and_then, Result, Ok, Err, refl, sym, ap, ◌∙◌, inl, inr}
use Rattle.std.specs.Result.{result_ok}
use Rattle.std.specs.Prelude.{IsErr}
use Rattle.mlb_base.specs.Items.{Has}
use Rattle.mlb_base.proofs.Lists.{not_empty}
use Rattle.ip_ranges.specs.declared.fault.RangeFault.{RangeFault}
use Rattle.ip_ranges.specs.Values.{AddressValue}
use Rattle.ip_ranges.specs.AddressText.{address_of}
use Rattle.kube_model.specs.declared.service.Wanted.TheVariants.{NotAsked, Unreadable, Asked}
use Rattle.kube_events.specs.Wanted.{spelled_all, asked_of, single_of, wanted_of}
use Rattle.event_laws.specs.Asked.{parts_of, part_address, AnnotationsAreRead, FieldsAreRead, NothingIsAsked}

both_there : (first : Option AddressValue) (others : Option (List AddressValue)) (addresses : List AddressValue)
    → option_and_then (λ a. option_map (λ rest. a ∷ rest) others) first ≡ Some addresses
    → (a : AddressValue) × (rest : List AddressValue) × (first ≡ Some a) × (others ≡ Some rest) × (addresses ≡ a ∷ rest)
both_there (Some a) (Some rest) addresses e = (a, rest, refl, refl, sym cc)
both_there (Some a) None addresses e = absurd cc
both_there None others addresses e = absurd cc

one_more : (part : List ℕ) (parts : List (List ℕ)) (addresses : List AddressValue) (a : AddressValue) (rest : List AddressValue)
    → part_address part ≡ Some a → map part_address parts ≡ map Some rest → addresses ≡ a ∷ rest → map part_address (part ∷ parts) ≡ map Some addresses
one_more part parts addresses a rest first others is = rw (first, others, is) refl

each_spelled : (parts : List (List ℕ)) (addresses : List AddressValue) → spelled_all parts ≡ Some addresses → map part_address parts ≡ map Some addresses
each_spelled [] [] e = refl
each_spelled [] (a ∷ addresses) e = absurd cc
each_spelled (part ∷ parts) addresses e =
    let there = both_there (part_address part) (spelled_all parts) addresses e in
    one_more part parts addresses there.0 there.1 there.2 (each_spelled parts there.1 there.3) there.4

all_spelled : (parts : List (List ℕ)) (addresses : List AddressValue) → map part_address parts ≡ map Some addresses → spelled_all parts ≡ Some addresses
all_spelled [] [] e = refl
all_spelled [] (a ∷ addresses) e = absurd cc
all_spelled (part ∷ parts) [] e = absurd cc
all_spelled (part ∷ parts) (a ∷ addresses) e =
    let first : part_address part ≡ Some a = cc in
    let others : map part_address parts ≡ map Some addresses = cc in
    rw (first, all_spelled parts addresses others) refl

one_missing : (part : List ℕ) (parts : List (List ℕ)) (first : Option AddressValue) (others : Option (List AddressValue)) → part_address part ≡ first
    → (others ≡ None → Has (λ part. part_address part ≡ None) parts)
    → option_and_then (λ a. option_map (λ rest. a ∷ rest) others) first ≡ None → Has (λ part. part_address part ≡ None) (part ∷ parts)
one_missing part parts None others is later e = inl is
one_missing part parts (Some a) None is later e = inr (later refl)
one_missing part parts (Some a) (Some rest) is later e = absurd cc

some_missing : (parts : List (List ℕ)) → spelled_all parts ≡ None → Has (λ part. part_address part ≡ None) parts
some_missing [] e = absurd cc
some_missing (part ∷ parts) e = one_missing part parts (part_address part) (spelled_all parts) refl (some_missing parts) e

none_after : (first : Option AddressValue) → option_and_then (λ (a : AddressValue). option_map (λ (rest : List AddressValue). a ∷ rest) None) first ≡ None
none_after None = refl
none_after (Some a) = refl

missing_spells_none : (parts : List (List ℕ)) → Has (λ part. part_address part ≡ None) parts → spelled_all parts ≡ None
missing_spells_none [] has = absurd has
missing_spells_none (part ∷ parts) (inl here) = rw here refl
missing_spells_none (part ∷ parts) (inr later) = rw (missing_spells_none parts later) (none_after (part_address part))

asked_there : (found : Option (List AddressValue)) (addresses : List AddressValue) → asked_of found ≡ Asked addresses → found ≡ Some addresses
asked_there (Some rest) addresses e = cc
asked_there None addresses e = absurd cc

unreadable_there : (found : Option (List AddressValue)) → asked_of found ≡ Unreadable → found ≡ None
unreadable_there (Some rest) e = absurd cc
unreadable_there None e = refl

wanted_of-annotation : (annotation field : List ℕ) → annotation ≢ [] → wanted_of annotation field ≡ asked_of (spelled_all (parts_of annotation))
wanted_of-annotation [] field full = absurd (full refl)
wanted_of-annotation (c ∷ annotation) field full = rw (not_empty c annotation) refl

pub annotations_are_read : AnnotationsAreRead
annotations_are_read annotation field full =
    let is : wanted_of annotation field ≡ asked_of (spelled_all (parts_of annotation)) = wanted_of-annotation annotation field full in
    let found : Option (List AddressValue) = spelled_all (parts_of annotation) in
    record {
      asked = λ addresses. (
        (λ e. each_spelled (parts_of annotation) addresses (asked_there found addresses (sym is ∙ e))),
        (λ e. is ∙ ap asked_of (all_spelled (parts_of annotation) addresses e)),
      );
      unreadable = (
        (λ e. some_missing (parts_of annotation) (unreadable_there found (sym is ∙ e))),
        (λ has. is ∙ ap asked_of (missing_spells_none (parts_of annotation) has)),
      );
    }

wanted_of-field : (field : List ℕ) → field ≢ [] → wanted_of [] field ≡ single_of field
wanted_of-field [] full = absurd (full refl)
wanted_of-field (c ∷ field) full = rw (not_empty c field) refl

one_asked : (read : Result AddressValue RangeFault) (addresses : List AddressValue) → asked_of (option_map (λ a. a ∷ []) (result_ok read)) ≡ Asked addresses
    → (a : AddressValue) × (read ≡ Ok a) × (addresses ≡ a ∷ [])
one_asked (Ok a) addresses e = (a, refl, sym cc)
one_asked (Err fault) addresses e = absurd cc

one_unreadable : (read : Result AddressValue RangeFault) → asked_of (option_map (λ a. a ∷ []) (result_ok read)) ≡ Unreadable → IsErr read
one_unreadable (Ok a) e = absurd cc
one_unreadable (Err fault) e = refl

err_unreadable : (read : Result AddressValue RangeFault) → IsErr read → asked_of (option_map (λ a. a ∷ []) (result_ok read)) ≡ Unreadable
err_unreadable (Ok a) none = absurd cc
err_unreadable (Err fault) none = refl

pub fields_are_read : FieldsAreRead
fields_are_read field full =
    let is : wanted_of [] field ≡ single_of field = wanted_of-field field full in
    record {
      asked = λ addresses. (
        (λ e. one_asked (address_of field) addresses (sym is ∙ e)),
        (λ there. is ∙ rw (there.1, there.2) refl),
      );
      unreadable = (
        (λ e. one_unreadable (address_of field) (sym is ∙ e)),
        (λ none. is ∙ err_unreadable (address_of field) none),
      );
    }

asks : (found : Option (List AddressValue)) → asked_of found ≡ NotAsked → ⊥
asks (Some rest) e = absurd cc
asks None e = absurd cc

not_asked : (annotation field : List ℕ) → wanted_of annotation field ≡ NotAsked → (annotation ≡ []) × (field ≡ [])
not_asked [] [] e = (refl, refl)
not_asked [] (c ∷ field) e =
    absurd (asks (option_map (λ a. a ∷ []) (result_ok (address_of (c ∷ field)))) (sym (wanted_of-field (c ∷ field) (λ none. absurd cc)) ∙ e))
not_asked (c ∷ annotation) field e =
    absurd (asks (spelled_all (parts_of (c ∷ annotation))) (sym (wanted_of-annotation (c ∷ annotation) field (λ none. absurd cc)) ∙ e))

pub nothing_is_asked : NothingIsAsked
nothing_is_asked annotation field = (not_asked annotation field, λ empty. rw (empty.0, empty.1) refl)
