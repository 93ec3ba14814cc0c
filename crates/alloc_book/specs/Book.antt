-- The book's claims, and what a change of them gives up.
use Rattle.std.specs.Prelude.{◌≡◌, Bool, true, false, List}
use Rattle.std.specs.List.{Contains}
use Rattle.alloc_book.specs.declared.choice.Loss.{Loss}
use Rattle.alloc_book.specs.declared.choice.Loss.TheVariants.{Kept, Lost}
use Rattle.claim_index.specs.Claims.{ClaimValue}
use Rattle.claim_index.specs.Room.{HasRoomFor, IndexRoom}
use Rattle.full_entries.specs.declared.entries.Entry.{Entry}
use Rattle.kube_model.specs.Records.{is_assigned}

-- A book as contracts see it.
pub record BookValue : Type 0 where
  pub claims : List ClaimValue  -- the records that each key has, or may have, under their terms
  pub room : IndexRoom  -- for what more it has room
  pub entries : List Entry  -- of these it is kept which are full

-- the book can take the claim without memory
abbrev pub HasRoom : BookValue → ClaimValue → Type 0
HasRoom book claim = is_assigned claim.holding ≡ true → HasRoomFor book.room claim

-- a claim that stood isn't there any more
abbrev pub HasLost : List ClaimValue → List ClaimValue → Type 0
HasLost before after = (c : ClaimValue) × Contains before c × ¬ (Contains after c)

-- a test of a loss, as the answer
abbrev pub loss_of : Bool → Loss
loss_of true = Lost
loss_of false = Kept
