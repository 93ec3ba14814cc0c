-- What a call returned, against what is read.
use Rattle.std.specs.Prelude.{◌≡◌, Result, Ok, Err, ⊤}
use Rattle.json_fields.specs.Path.{Path}
use Rattle.kube_model.specs.declared.event.EventFault.{EventFault}
use Rattle.kube_model.specs.declared.event.EventFault.TheVariants.{NotJson, NotEvent, Field, NoMemory}

-- The fault is the path that reading meets, unless memory ran out, and no other.
abbrev pub FailsRead : {A : Type 0} → EventFault → Result A Path → Type 0
FailsRead NotJson read = ⊥
FailsRead NotEvent read = ⊥
FailsRead (Field path) read = read ≡ Err path
FailsRead NoMemory read = ⊤

-- What a call returned is what reading gives, unless memory ran out.
abbrev pub GivesRead : {A : Type 0} → Result A EventFault → Result A Path → Type 0
GivesRead (Ok x) read = read ≡ Ok x
GivesRead (Err fault) read = FailsRead fault read

-- The fault is the one that the line has, unless memory ran out. A line has no fault of an event.
abbrev pub FailsLine : {A : Type 0} → EventFault → Result A EventFault → Type 0
FailsLine NotJson read = read ≡ Err NotJson
FailsLine NotEvent read = ⊥
FailsLine (Field path) read = read ≡ Err (Field path)
FailsLine NoMemory read = ⊤

-- What a call returned is what the line says, unless memory ran out.
abbrev pub GivesLine : {A : Type 0} → Result A EventFault → Result A EventFault → Type 0
GivesLine (Ok x) read = read ≡ Ok x
GivesLine (Err fault) read = FailsLine fault read
