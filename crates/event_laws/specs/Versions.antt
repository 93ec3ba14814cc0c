-- Versions are decimal numbers without leading zeros, from 1 below 2 ^ 64.
use Rattle.std.specs.Prelude.{◌≡◌, ◌↔◌, ◌≤◌, ◌<◌, ◌^◌, ℕ, List, Some, Ok, decimal}
use Rattle.kube_model.specs.declared.event.Event.TheVariants.{Changed}
use Rattle.kube_model.specs.declared.object.Object.{Object}
use Rattle.kube_events.specs.Named.{version_named}
use Rattle.kube_events.specs.Event.{event_of_line}

abbrev pub IsVersion : ℕ → Type 0
IsVersion n = (1 ≤ n) × (n < 2 ^ 64)

-- A text names a version exactly where it is the decimal text of one.
abbrev pub VersionsAreDecimal : Type 0
VersionsAreDecimal = (text : List ℕ) (n : ℕ) → (version_named text ≡ Some n) ↔ ((text ≡ decimal n) × IsVersion n)

-- The version of an object that a line sets is one, so it is at least 1.
abbrev pub SetVersionsAreVersions : Type 0
SetVersionsAreVersions = (line : List ℕ) (n : ℕ) (object : Object) → event_of_line line ≡ Ok (Changed n object) → IsVersion n
