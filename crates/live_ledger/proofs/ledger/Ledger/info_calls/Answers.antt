use Rattle.live_ledger.proofs.ledger.Ledger.info_calls.Goals as goal

pub returns-clause-calls : goal.returns-clause-calls
returns-clause-calls c = rw (← c.self.view_is) (λ events stands. c.info_calls.ensures.calls events stands.whole)
