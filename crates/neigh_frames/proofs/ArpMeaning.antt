-- The tests of an ARP request decide what they should.
use Rattle.std.proofs.Common.{◌≡◌, ◌↔◌, ◌≤◌, ℕ, Bool, ◌&&◌, List, length, Option, Some, None, refl, sym, ap, ◌∙◌, Decides}
use Rattle.std.specs.Prelude.{slice_range, nat_le, if◌then◌else◌}
use Rattle.std.specs.Str.{bytes_eq}
use Rattle.std.proofs.lemmas.Bool.Decides.{Decides-and}
use Rattle.std.proofs.lemmas.Slice.Eq.{bytes_eq-Decides}
use Rattle.speaker_view.specs.ViewValue.{ViewValue}
use Rattle.l2_elect.specs.Listening.{listens_of, Listens}
use Rattle.l2_elect.proofs.ListenLaws.{listens-means}
use Rattle.neigh_frames.specs.Arp.{IsArpAnswer, address_at, arp_answer_of, arp_header, arp_reply, is_arp_request}
use Rattle.neigh_frames.proofs.Tests.{Decides-nat_le, answered}

module _ (v : ViewValue) (node interface mac frame : List ℕ) where
  abbrev reply : List ℕ
  reply = arp_reply mac (slice_range frame 38 42) (slice_range frame 22 28) (slice_range frame 28 32)

  asked-Decides : Decides (is_arp_request frame && listens_of v node interface (address_at frame 38))
      (((42 ≤ length frame) × (slice_range frame 12 22 ≡ arp_header 1)) × Listens v node interface (address_at frame 38))
  asked-Decides =
      Decides-and (is_arp_request frame) (listens_of v node interface (address_at frame 38))
      (Decides-and (nat_le 42 (length frame)) (bytes_eq (slice_range frame 12 22) (arp_header 1)) (Decides-nat_le 42 (length frame))
      (bytes_eq-Decides (slice_range frame 12 22) (arp_header 1)))
      (listens-means v node interface (address_at frame 38) (listens_of v node interface (address_at frame 38)) refl)

  -- what a call tells by the tests
  pub arp-means : (answer : List ℕ) (told : Option (List ℕ)) → told ≡ arp_answer_of (listens_of v node interface) mac frame
      → (told ≡ Some answer) ↔ IsArpAnswer v node interface mac frame answer
  arp-means answer told is = (
    λ e.
        let given = answered (is_arp_request frame && listens_of v node interface (address_at frame 38)) reply answer (sym is ∙ e) in
        let asked = asked-Decides.0 given.0 in
        record { long = asked.0.0; request = asked.0.1; listens = asked.1; reply = given.1 },
    λ a.
        is
        ∙ ap (λ (asked : Bool). if asked then Some reply else None) (asked-Decides.1 ((a.long, a.request), a.listens))
        ∙ ap (λ (r : List ℕ). Some r) (sym a.reply),
  )
