use Rattle.std.proofs.Common.{◌++◌, ℕ, Bool, List, map, sym, ap, ◌∙◌}
use Rattle.std.specs.List.{flat_map}
use Rattle.pool_config.specs.declared.compiled.CompiledPeer.{CompiledPeer}
use Rattle.speaker_machine.specs.declared.transcript.TranscriptEntry.{TranscriptEntry}
use Rattle.speaker_machine.specs.Kept.{part_at, part_updates}
use Rattle.speaker_machine.proofs.NamedPeers.{names-known}
use Rattle.speaker_machine.proofs.Parts.{all-told, on-ok}
use Rattle.speaker_machine.proofs.peers.renew_told.Goals as goal
use Rattle.speaker_machine.proofs.peers.renew_told.Goals.{in-Ok, in-Err}

pub returns-clause-entries : goal.returns-clause-entries
returns-clause-entries c = elim c.match-renew_kept.branch [
  | in-Ok w ↦
      let change = c.args.change.now in
      let view = c.args.view.now in
      let node = c.args.kept.now.node in
      let hops = c.args.hops.now in
      let both = c.args.kept.now.both in
      let peers = c.peers_of-peers.result.now in
      let kept = c.renew_kept.new.kept in
      rw (w.told-is, w.entries-is)
      (on-ok w.push_changes-told.result
      (λ told before were.
      told before view
      (w.as_slice.ensures ∙ c.in_ok-before.ensures before were.right ∙ ap (λ (n : List ℕ). map (part_at change before n both) peers)
      (sym c.renew_kept.ensures.node) ∙ ap (λ (b : Bool). map (part_at change before c.renew_kept.new.kept.node b) peers) (sym c.renew_kept.ensures.both))
      w.in-Ok.ensures.right
      ∙ ap (λ (n : List ℕ). c.args.entries.now ++ flat_map (part_updates change before view n hops) peers) c.renew_kept.ensures.node
      ∙ ap (λ (ps : List CompiledPeer). c.args.entries.now ++ flat_map (part_updates change before view node hops) ps) c.peers_of-peers.ensures.peers
      ∙ ap (λ (es : List TranscriptEntry). c.args.entries.now ++ es)
      (all-told change before view node hops were.differs (names-known view.held.config c.config-known.ensures.known)
      (λ config in_force. (c.config-known.ensures.known config in_force).communities)))
      w.push_changes-told.ensures)
  | in-Err w ↦ rw w.told-is tt
]
