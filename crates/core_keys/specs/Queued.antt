-- Which keys can be queued as they are.
use Rattle.std.specs.Prelude.{List}
use Rattle.kube_model.specs.declared.key.Key.{Key}
use Rattle.core_laws.specs.Queue.{AreApart, NoneAmong}

-- each once, and none that is queued
abbrev pub GoBehind : List Key → List Key → Type 0
GoBehind more queue = AreApart more × NoneAmong more queue
