use Rattle.std.proofs.Common.{◌≡◌, ℕ, List, [], ◌∷◌, ◌++◌, map, false, ap, sym, ◌∙◌, subst}
use Rattle.std.specs.Prelude.{◌==◌}
use Rattle.std.specs.List.{list_any}
use Rattle.interpret.specs.KnownEntries.{known_kept}
use Rattle.interpret.specs.RawTables.{KnownIp}
use Rattle.interpret.proofs.FirstLemmas.{known-added}
use Rattle.interpret.proofs.known_ips.KnownIps.add.Goals as goal

pub returns-clause-added : goal.returns-clause-added
returns-clause-added c =
    let none =
    subst (λ (held : List KnownIp). list_any (λ (k : KnownIp). c.args.ip == k.ip) held ≡ false) (sym c.self.view_is)
    c.requires.new in
    ap (λ (es : List (ℕ × ℕ)). map known_kept es) c.in_ok-insert.ensures.entries
    ∙ known-added c.self.inside.frames.entries c.args.ip c.args.frames none
    ∙ ap (λ (held : List KnownIp). held ++ record { ip = c.args.ip; frames = c.args.frames } ∷ []) c.self.view_is
