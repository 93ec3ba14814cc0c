-- An answer is sent exactly where its address stands announced by what was told.
use Rattle.std.proofs.Common.{◌≡◌, ◌↔◌, ℕ, Bool, true, false, if◌then◌else◌, List, [], ◌∷◌, Option, Some, None, refl, sym, ◌∙◌, subst, inl, inr}
use Rattle.std.proofs.lemmas.Bool.{false≢true, true≢false}
use Rattle.std.proofs.lemmas.Option.{none-some}
use Rattle.ip_ranges.specs.Values.{AddressValue}
use Rattle.l2_elect.specs.Election.{IsAnnouncer, announces_of}
use Rattle.l2_elect.proofs.Least.{announcer-announces, announces-announcer}
use Rattle.speaker_machine.specs.Stream.{SpeakerState}
use Rattle.speaker_machine.specs.declared.transcript.TranscriptEntry.{TranscriptEntry}
use Rattle.speaker_machine.specs.declared.transcript.TranscriptEntry.TheVariants.{Sent}
use Rattle.speaker_laws.specs.Told.{IsToldOf}
use Rattle.speaker_run.specs.ResponderClauses.{SendsStanding}
use Rattle.speaker_run.specs.Responding.{Tells, sent_answer}
use Rattle.speaker_run.specs.Standing.{IsForStanding, answered_address, is_announced, standing_answer}

-- what has an address is sent
sent_one : (interface answer : List ℕ) (a : AddressValue) → answered_address answer ≡ Some a → sent_answer interface answer ≡ Tells (Sent interface answer) ∷ []
sent_one interface [] a is = absurd (none-some a is)
sent_one interface (octet ∷ answer) a is = refl

module _ (node : List ℕ) (s : SpeakerState) (own : s.local.node ≡ node) (told : List TranscriptEntry)
    (tells : (a : AddressValue) → IsToldOf told a ↔ IsAnnouncer s.view a node) where
  is_told : (a : AddressValue) → announces_of s.view s.local.node a ≡ true → IsToldOf told a
  is_told a is = (tells a).1 (subst (λ (n : List ℕ). IsAnnouncer s.view a n) own (announces-announcer s.view a s.local.node is))

  announces_told : (a : AddressValue) → IsToldOf told a → announces_of s.view s.local.node a ≡ true
  announces_told a is = announcer-announces s.view a s.local.node (subst (λ (n : List ℕ). IsAnnouncer s.view a n) (sym own) ((tells a).0 is))

  none_for : (answer : List ℕ) → answered_address answer ≡ None → IsForStanding told answer → ⊥
  none_for answer is (a, its, stands) = none-some a (sym is ∙ its)

  not_told : (answer : List ℕ) (a : AddressValue) → answered_address answer ≡ Some a → announces_of s.view s.local.node a ≡ false → IsForStanding told answer
      → ⊥
  not_told answer a is unsaid (b, its, stands) =
      let both : Some b ≡ Some a = sym its ∙ is in
      let same : b ≡ a = cc in
      true≢false (sym (announces_told a (subst (IsToldOf told) same stands)) ∙ unsaid)

  by_test : (interface answer : List ℕ) (o : Option AddressValue) → answered_address answer ≡ o → (b : Bool) → is_announced s o ≡ b
      → SendsStanding told interface answer (sent_answer interface (if b then answer else []))
  by_test interface answer None is true e = absurd (false≢true e)
  by_test interface answer None is false e = inr (none_for answer is, refl)
  by_test interface answer (Some a) is true e = inl ((a, is, is_told a e), sent_one interface answer a is)
  by_test interface answer (Some a) is false e = inr (not_told answer a is e, refl)

  pub sends_standing : (interface answer : List ℕ) → SendsStanding told interface answer (sent_answer interface (standing_answer s answer))
  sends_standing interface answer = by_test interface answer (answered_address answer) refl (is_announced s (answered_address answer)) refl
