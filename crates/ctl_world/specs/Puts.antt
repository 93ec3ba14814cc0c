-- What a put makes of a world, and what is left where there is no memory to hear of it.
use Rattle.std.specs.Prelude.{◌≡◌, ◌++◌, Bool, [], Option, Some, None, option_map}
use Rattle.kube_model.specs.declared.put.Put.{Put}
use Rattle.kube_model.specs.declared.reply.PutReply.{PutReply}
use Rattle.status_store.specs.declared.change.Outcome.{Outcome}
use Rattle.status_store.specs.Changes.{StoreValue, after_put, reply_to}
use Rattle.core_rules.specs.Core.{State}
use Rattle.core_rules.specs.Replied.{core_reply}
use Rattle.world_rules.specs.World.{WorldValue, shown_put, reached}

-- the controller has stopped, over this store
abbrev pub stopped : StoreValue → WorldValue → WorldValue
stopped store w = record w { store = store; config_lane = []; service_lane = []; core = None }

-- the core has heard the reply
abbrev pub after_reply : Option State → PutReply → Option State
after_reply core reply = option_map (λ s. core_reply s reply) core

-- the put has gone to the store, its service is going to be shown, and the core has heard the reply
abbrev pub put_to : Option State → Put → Outcome → WorldValue → WorldValue
put_to core put outcome w = record w {
  store = after_put put outcome w.store;
  service_lane = w.service_lane ++ shown_put put outcome w.store;
  core = after_reply core (reply_to put outcome w.store);
}

-- the controller has stopped, and the put has reached the store, or it hasn't
abbrev pub MayHaveReached : Put → WorldValue → WorldValue → Type 0
MayHaveReached put old new = (applied : Bool) × (new ≡ stopped (reached (Some put) applied old.store) old)
