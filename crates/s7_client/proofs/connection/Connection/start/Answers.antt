use Rattle.s7_client.proofs.connection.Connection.start.Goals as goal

pub set_out_anew-requires-clause-begins : goal.set_out_anew-requires-clause-begins
set_out_anew-requires-clause-begins c = c.in-Ok.ensures.begins c.args.self.now.config

pub set_out-requires-clause-begins : goal.set_out-requires-clause-begins
set_out-requires-clause-begins c = c.in-Ok.ensures.begins c.args.self.now.config

pub turn_down-requires-clause-begins : goal.turn_down-requires-clause-begins
turn_down-requires-clause-begins c = c.in-Ok.ensures.begins c.args.self.now.config
