use Rattle.std.proofs.Common.{◌++◌, Option, sym, ap, ◌∙◌, append-nil}
use Rattle.std.specs.Option.{option_to_list}
use Rattle.std.proofs.lemmas.Result.{MatchResult-weaker}
use Rattle.interpret.specs.SymbolLine.{Symbol}
use Rattle.interpret.proofs.TableLemmas.{said-in, skipped-in, symbols-push}
use Rattle.interpret.proofs.symbols.Symbols.line.Goals as goal

pub returns-then-is_skipped-clause-stands : goal.returns-then-is_skipped-clause-stands
returns-then-is_skipped-clause-stands c =
    symbols-push c.args.self.now c.args.self.now c.args.line.now
    (sym (ap (λ (o : Option Symbol). c.args.self.now ++ option_to_list o)
    (skipped-in c.args.line.now (sym c.is_skipped.ensures ∙ c.if-is_skipped.true))
    ∙ append-nil _))

pub returns-clause-stands : goal.returns-clause-stands
returns-clause-stands c =
    MatchResult-weaker c.add.result c.add.ensures.added (λ done added.
    symbols-push c.args.self.now c.add.new.self c.args.line.now
    (added
    ∙ sym (ap (λ (o : Option Symbol). c.args.self.now ++ option_to_list o)
    (said-in c.args.line.now _ (sym c.is_skipped.ensures ∙ c.if-is_skipped.false) c.in-Some.ensures.said))))
    (λ error all. all)
