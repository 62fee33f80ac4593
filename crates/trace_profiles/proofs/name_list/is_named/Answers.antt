use Rattle.std.proofs.Common.{ℕ, ◌↔◌, List, sym, subst, rules, IsTrue, Contains}
use Rattle.massif_sample.specs.NameList.{names_in}
use Rattle.trace_profiles.proofs.NameLemmas.{Contains-once}
use Rattle.trace_profiles.proofs.name_list.is_named.Goals as goal

pub returns : goal.returns
returns c = λ list is.
    let held : List (List ℕ) → Type 0 = λ names. Contains names c.args.name.now in
    let found : IsTrue c.is_some.result ↔ held c.args.names.now = search rules in
    let once = Contains-once (names_in list) c.args.name.now in (
      (λ named. once.0 (subst held is (found.0 named))),
      (λ named. found.1 (subst held (sym is) (once.1 named))),
    )
