use Rattle.s7_session.proofs.session.Session.end.Goals as goal

pub returns-clause-octets : goal.returns-clause-octets
returns-clause-octets c = (c.torn.result, c.of_torn.ensures)
