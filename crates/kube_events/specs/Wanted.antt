-- The addresses that a service asks for.
use Rattle.std.specs.Prelude.{ℕ, List, [], ◌∷◌, ◌==◌, length, Option, Some, None, option_and_then, option_map, if◌then◌else◌}
use Rattle.std.specs.Result.{result_ok}
use Rattle.std.specs.List.{slice_split}
use Rattle.ip_ranges.specs.Values.{AddressValue}
use Rattle.ip_ranges.specs.AddressText.{address_of}
use Rattle.ip_ranges.specs.EntryText.{trimmed}
use Rattle.kube_model.specs.declared.service.Wanted.{Wanted}
use Rattle.kube_model.specs.declared.service.Wanted.TheVariants.{NotAsked, Unreadable, Asked}

-- the addresses that the parts spell, blanks round them dropped, if each of them spells one
abbrev pub spelled_all : List (List ℕ) → Option (List AddressValue)
spelled_all [] = Some []
spelled_all (part ∷ parts) =
    option_and_then (λ address. option_map (λ addresses. address ∷ addresses) (spelled_all parts)) (result_ok (address_of (trimmed part)))

abbrev pub asked_of : Option (List AddressValue) → Wanted
asked_of (Some addresses) = Asked addresses
asked_of None = Unreadable

-- a list with commas between
abbrev pub listed_of : List ℕ → Wanted
listed_of text = asked_of (spelled_all (slice_split (λ c. c == 44) text))

-- one address, with no blanks dropped
abbrev pub single_of : List ℕ → Wanted
single_of text = asked_of (option_map (λ address. address ∷ []) (result_ok (address_of text)))

-- The annotation wins over the field. Neither asks for anything where it is empty.
abbrev pub wanted_of : List ℕ → List ℕ → Wanted
wanted_of annotation field = if length annotation == 0 then if length field == 0 then NotAsked else single_of field else listed_of annotation
