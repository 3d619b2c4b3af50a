use Rattle.s7_relay.proofs.SpellingLemmas.{texts_read}
use Rattle.s7_relay.proofs.laws.windows_have_texts.Goals as goal

pub returns : goal.returns
returns c = texts_read
