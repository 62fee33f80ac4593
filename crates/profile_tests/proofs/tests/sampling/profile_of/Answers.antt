use Rattle.std.proofs.Common.{[], sym, subst}
use Rattle.std.specs.Fn.{FnReturnsAt}
use Rattle.massif_sample.specs.FunctionNames.{AreStated}
use Rattle.profile_tests.proofs.tests.sampling.profile_of.Goals as goal

pub follow-followed-requires-clause-stacks : goal.follow-followed-requires-clause-stacks
follow-followed-requires-clause-stacks g c = rw c.new-tables.ensures.nodes c.in_ok-ledger.ensures.stacks

pub follow-followed-requires-clause-none_yet : goal.follow-followed-requires-clause-none_yet
follow-followed-requires-clause-none_yet g c = c.in_ok-ledger.ensures.stands.whole.figures.events_is

pub follow-followed-requires-clause-stands : goal.follow-followed-requires-clause-stands
follow-followed-requires-clause-stands g c =
    let made = c.in-Ok.ensures in
    let names = c.requires.stated.0 in
    let stated : AreStated (FnReturnsAt g.A.Fn c.in-Ok.sampler.alloc_fns.test)
    (FnReturnsAt g.I.Fn c.in-Ok.sampler.ignore_fns.test) names =
    subst (λ given. AreStated (FnReturnsAt g.A.Fn given.test) (FnReturnsAt g.I.Fn c.in-Ok.sampler.ignore_fns.test)
    names) (sym
    made.alloc_fns)
    (subst (λ given. AreStated (FnReturnsAt g.A.Fn c.args.alloc_fns.test) (FnReturnsAt g.I.Fn given.test) names)
    (sym made.ignore_fns) c.requires.stated.1) in
    (names, [], stated, made.stands names c.requires.stated.1, c.in_ok-ledger.ensures.stands)
