-- The arguments of the relay as contracts see them: texts in place of the references to them.
use Rattle.s7_args.specs.Relay.{RelayTold}
use Rattle.s7_args.specs.declared.relay_words.RelayWords.{RelayWords}

abbrev pub relay_told_of : RelayWords → RelayTold
relay_told_of r =
    record { windows = r.windows.now; host = r.host.now; port = r.port; polls = r.polls; journal = r.journal }
