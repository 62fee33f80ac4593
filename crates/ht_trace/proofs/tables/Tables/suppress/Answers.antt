use Rattle.std.proofs.Common.{[], sym, subst}
use Rattle.std.specs.Option.{option_to_list}
use Rattle.std.proofs.lemmas.Result.{MatchResult-weaker}
use Rattle.ht_trace.specs.Continues.{Continues}
use Rattle.ht_trace.specs.Pattern.{pattern_of}
use Rattle.ht_trace.specs.StandsFor.{StandsAfter}
use Rattle.ht_trace.specs.TableState.{TableState}
use Rattle.ht_trace.proofs.GrowthLemmas.{continues-pattern, continues-trans}
use Rattle.ht_trace.proofs.LineLemmas.{stands-given}
use Rattle.ht_trace.proofs.tables.Tables.suppress.Goals as goal

-- the tables before the pattern, as contracts see them
before : (c : goal.After-add) → TableState
before c = record {
  version = c.self.inside.version;
  strings = c.self.inside.strings;
  instructions = c.self.inside.instructions;
  nodes = c.self.inside.nodes;
  infos = c.self.inside.infos;
  command = c.self.inside.command;
  patterns = c.self.inside.patterns;
}

pub returns-clause-stands : goal.returns-clause-stands
unfolding before
returns-clause-stands c =
    MatchResult-weaker c.add.result c.add.ensures.added
    (λ done added given stands. stands-given (before c) c.add.new.self c.args.text.now given added
    (subst (λ (t : TableState). StandsAfter t given []) (sym c.self.view_is) stands))
    (λ error all. all)

-- the tables go on
continues : (c : goal.After-add) → Continues c.args.self.now (record (before c) { patterns = c.add.new.self })
unfolding before
continues c =
    subst (λ (t : TableState). Continues t (record (before c) { patterns = c.add.new.self })) c.self.view_is
    (continues-pattern (before c) c.add.new.self (option_to_list (pattern_of c.args.text.now)) c.add.result
    c.self.invariant c.add.ensures.added c.add.ensures.unchanged)

pub returns-clause-continues : goal.returns-clause-continues
unfolding before
returns-clause-continues c = continues c

pub returns-clause-goes_on : goal.returns-clause-goes_on
unfolding before
returns-clause-goes_on c =
    λ first one. continues-trans first c.args.self.now (record (before c) { patterns = c.add.new.self }) one
    (continues c)
