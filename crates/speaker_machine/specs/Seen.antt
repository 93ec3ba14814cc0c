-- A frame as contracts see it.
use Rattle.speaker_machine.specs.declared.events.Received.{Received as ReceivedFrame}
use Rattle.speaker_machine.specs.Stream.{Received}

abbrev pub received_seen : ReceivedFrame → Received
received_seen r = record { interface = r.interface.now; frame = r.frame.now }
