-- The first option as contracts see it.
use Rattle.command_options.specs.declared.options.FirstOption.{FirstOption}
use Rattle.command_options.specs.Options.{First, texts_of}

abbrev pub seen : FirstOption → First
seen o = record { option = record { name = o.name.now; value = o.value.now }; rest = texts_of o.rest.now }
