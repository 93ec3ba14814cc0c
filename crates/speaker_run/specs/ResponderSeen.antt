-- An answer as contracts see it.
use Rattle.std.specs.Prelude.{ℕ, List, []}
use Rattle.view_board.specs.declared.answer.Answer.{Answer}
use Rattle.view_board.specs.declared.answer.Answer.TheVariants.{Arp, Ndp, Silent}

-- the frame that is sent, nothing where there is none
abbrev pub octets_of : Answer → List ℕ
octets_of (Arp bytes) = bytes
octets_of (Ndp bytes) = bytes
octets_of Silent = []
