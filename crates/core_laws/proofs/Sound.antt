-- Every run is sound.
use Rattle.std.proofs.Common.{ℕ, List, [], ◌∷◌, Option, refl, sym, ◌∙◌}
use Rattle.kube_model.proofs.KeyLaws.{same_key-itself}
use Rattle.core_rules.specs.declared.turn.Turn.{Turn}
use Rattle.core_rules.specs.declared.turn.Turn.TheVariants.{Idle, NoPut, Wants}
use Rattle.core_rules.specs.Run.{TranscriptEntry, Took, Expired, Turned, Heard, IsRun, core_after}
use Rattle.core_rules.proofs.Runs.{core_holds_what_was_observed}
use Rattle.core_laws.specs.Shared.{AllShowTerms}
use Rattle.core_laws.specs.Sound.{IsRightTurn, IsRightEntry, RunsAreSound}
use Rattle.core_laws.proofs.NoPuts.{no_puts_are_right}
use Rattle.core_laws.proofs.Puts.{idle-queue, puts_are_right, turns_are_ready}
use Rattle.core_laws.proofs.QuietShown.{runs_are_quiet_as_shown}
use Rattle.core_laws.proofs.Shared.{puts_share_rightly, runs_are_shared}
use Rattle.core_laws.proofs.Telling.{reasons_are_right}
use Rattle.core_laws.proofs.Free.{turns_are_of_free_keys}

turn-right : (class : Option (List ℕ)) (turn : Turn) (earlier : List TranscriptEntry) → IsRun class (Turned turn ∷ earlier) → AllShowTerms earlier
    → IsRightTurn class turn earlier
turn-right class Idle earlier is all =
    let s = core_after class earlier in
    runs_are_quiet_as_shown class earlier is.1 (idle-queue s s.queue (sym is.0.1)) (sym (core_holds_what_was_observed class earlier is.1).1 ∙ is.0.0)
turn-right class (NoPut key pending) earlier is all = (
  record {
    ready = turns_are_ready class (NoPut key pending) earlier is (λ e. absurd (cc));
    free = turns_are_of_free_keys class (NoPut key pending) earlier is key (same_key-itself key);
    reason_is = λ reason e. reasons_are_right class (NoPut key pending) key reason earlier is (refl, e);
  },
  no_puts_are_right class key pending earlier is,
)
turn-right class (Wants put pending) earlier is all = (
  record {
    ready = turns_are_ready class (Wants put pending) earlier is (λ e. absurd (cc));
    free = turns_are_of_free_keys class (Wants put pending) earlier is put.key (same_key-itself put.key);
    reason_is = λ reason e. reasons_are_right class (Wants put pending) put.key reason earlier is (refl, e);
  },
  (puts_are_right class put pending earlier is, puts_share_rightly class put pending earlier is all (puts_are_right class put pending earlier is)),
)

entry-right : (class : Option (List ℕ)) (entry : TranscriptEntry) (earlier : List TranscriptEntry) → IsRun class (entry ∷ earlier) → AllShowTerms earlier
    → IsRightEntry class entry earlier
entry-right class (Took event) earlier is all = tt
entry-right class (Expired group) earlier is all = tt
entry-right class (Turned turn) earlier is all = turn-right class turn earlier is all
entry-right class (Heard reply) earlier is all = tt

pub runs_are_sound : RunsAreSound
runs_are_sound class [] is all = tt
runs_are_sound class (entry ∷ earlier) is all = (
  record { right = entry-right class entry earlier is all.1; shared = runs_are_shared class (entry ∷ earlier) is all },
  runs_are_sound class earlier is.1 all.1,
)
