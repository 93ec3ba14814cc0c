use Rattle.std.proofs.Common.{◌≡◌, ap, ◌∙◌}
use Rattle.object_cache.specs.declared.change.ApplyFault.TheVariants.{Limit}
use Rattle.l2_elect.proofs.Keeping.{were-kept}
use Rattle.speaker_machine.specs.Stream.{SpeakerState, state_of, changes_of}
use Rattle.speaker_machine.proofs.Parts.{were-routes}
use Rattle.speaker_machine.proofs.Steps.{no_limit, changes-are, handed_on}
use Rattle.speaker_machine.proofs.speaker.Speaker.changes_by.Goals as goal

pub told_since-requires-clause-announcers : goal.told_since-requires-clause-announcers
told_since-requires-clause-announcers c =
    were-kept c.in-Ok.standing.announcers c.self.inside.view c.apply_noting.new.self _ c.in-Ok.ensures.announcers c.in-Ok-apply_noting.ensures.stay

pub told_since-requires-clause-routes : goal.told_since-requires-clause-routes
told_since-requires-clause-routes c = (
  c.self.inside.view,
  were-routes c.in-Ok.standing.routes c.self.inside.view c.apply_noting.new.self c.self.inside.local _ c.in-Ok.ensures.routes
      c.in-Ok-apply_noting.ensures.stay,
)

pub returns-clause-within : goal.returns-clause-within
returns-clause-within c = rw (← c.self.view_is) (no_limit c.in-Ok-apply_noting.noted _ c.in-Ok-apply_noting.ensures.limit)

pub returns-in-Err-apply_noting-clause-limit : goal.returns-in-Err-apply_noting-clause-limit
returns-in-Err-apply_noting-clause-limit c =
    rw (← c.self.view_is) (λ kind count e. (c.in-Err-apply_noting.ensures.limit kind count).0 (handed_on c.in-Err-apply_noting.fault (Limit kind count) e))

pub returns-clause-ok : goal.returns-clause-ok
returns-clause-ok c =
    let was : state_of c.self.inside.view c.self.inside.local ≡ c.args.self.now = c.self.view_is in
    changes-are c.self.inside.view c.self.inside.local c.args.event c.in-Ok-apply_noting.noted.0 c.apply_noting.new.self c.in-Ok-told_since.entries
    (c.in-Ok-told_since.ensures.entries c.self.inside.view c.in-Ok.ensures.announcers
    (were-routes c.in-Ok.standing.routes c.self.inside.view c.apply_noting.new.self c.self.inside.local _ c.in-Ok.ensures.routes
    c.in-Ok-apply_noting.ensures.stay))
    c.in-Ok-apply_noting.ensures.ok c.in-Ok-apply_noting.ensures.note
    ∙ ap (λ (s : SpeakerState). changes_of s c.args.event) was
