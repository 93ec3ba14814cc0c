use Rattle.bgp_updates.proofs.Spelling.{messages-spell}
use Rattle.bgp_updates.proofs.ReceivedLaws.{messages-give}
use Rattle.bgp_updates.proofs.laws.messages_give_the_table.Goals as goal

pub returns : goal.returns
returns c = record { spelled = messages-spell; table = messages-give }
