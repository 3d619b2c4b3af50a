use Rattle.s7_cotp.proofs.SpellLemmas.{connect_again, confirm_again, data_again, disconnect_again}
use Rattle.s7_cotp.proofs.laws.written_is_read.Goals as goal

pub returns-clause-connect : goal.returns-clause-connect
returns-clause-connect c = λ d h. connect_again d h

pub returns-clause-confirm : goal.returns-clause-confirm
returns-clause-confirm c = λ d h. confirm_again d h

pub returns-clause-data : goal.returns-clause-data
returns-clause-data c = λ last user. data_again last user

pub returns-clause-disconnect : goal.returns-clause-disconnect
returns-clause-disconnect c = λ dst_ref src_ref reason. disconnect_again dst_ref src_ref reason
