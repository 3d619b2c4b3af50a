use Rattle.s7_szl.proofs.TableLemmas.{mode_is_read, order_code_is_read, pdu_is_read, protection_is_read, components_are_read, no_other_is_read}
use Rattle.s7_szl.proofs.laws.written_is_read.Goals as goal

pub returns-clause-mode : goal.returns-clause-mode
returns-clause-mode c = λ running. mode_is_read running

pub returns-clause-order_code : goal.returns-clause-order_code
returns-clause-order_code c = λ running. order_code_is_read running

pub returns-clause-pdu : goal.returns-clause-pdu
returns-clause-pdu c = λ running. pdu_is_read running

pub returns-clause-protection : goal.returns-clause-protection
returns-clause-protection c = λ running. protection_is_read running

pub returns-clause-components : goal.returns-clause-components
returns-clause-components c = λ running. components_are_read running

pub returns-clause-no_other : goal.returns-clause-no_other
returns-clause-no_other c = λ running index h. no_other_is_read running index h
