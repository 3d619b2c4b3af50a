-- What contracts see of the state of the reader of sends files.
use Rattle.s7_script.specs.Sends.{Send}
use Rattle.s7_script.specs.declared.sends.send_line.NamedBlock.{NamedBlock}

abbrev pub block_of : NamedBlock → Send
block_of b = record { rid = b.rid; body = b.body }
