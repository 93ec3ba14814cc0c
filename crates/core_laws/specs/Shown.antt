-- What holds of each service that the events of a run show.
use Rattle.std.specs.Prelude.{List, [], ◌∷◌, ⊤}
use Rattle.kube_model.specs.declared.key.Key.{Key}
use Rattle.kube_model.specs.declared.service.Service.{Service}
use Rattle.core_rules.specs.Take.{Effect, Shows, Drops, EndsServices, Configures, Expires, Nothing, effect_of}
use Rattle.core_rules.specs.Run.{TranscriptEntry, Took, Expired, Turned, Heard}

module _ (P : Key → Service → Type 0) where
  abbrev pub OfEffect : Effect → Type 0
  OfEffect (Shows version service) = P service.key service
  OfEffect (Drops key) = ⊤
  OfEffect EndsServices = ⊤
  OfEffect Configures = ⊤
  OfEffect Expires = ⊤
  OfEffect Nothing = ⊤

  abbrev pub OfEntry : TranscriptEntry → Type 0
  OfEntry (Took event) = OfEffect (effect_of event)
  OfEntry (Expired group) = ⊤
  OfEntry (Turned turn) = ⊤
  OfEntry (Heard reply) = ⊤

  -- it holds of each service that an event shows, under its key
  abbrev pub HoldsOfShown : List TranscriptEntry → Type 0
  HoldsOfShown [] = ⊤
  HoldsOfShown (e ∷ earlier) = OfEntry e × HoldsOfShown earlier
