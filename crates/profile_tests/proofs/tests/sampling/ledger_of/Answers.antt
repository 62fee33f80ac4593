use Rattle.std.proofs.Common.{[]}
use Rattle.profile_tests.proofs.tests.sampling.ledger_of.Goals as goal

pub returns-clause-stands : goal.returns-clause-stands
returns-clause-stands c =
    c.grow_info-3.ensures.stands []
    (c.grow_info-2.ensures.stands [] (c.grow_info.ensures.stands [] c.in_ok-ledger.ensures.stands))
