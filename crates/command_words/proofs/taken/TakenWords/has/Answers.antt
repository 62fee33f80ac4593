use Rattle.std.proofs.Common.{◌≡◌, Some, None, Option, List, ℕ, false, option_map, ap, sym, codes, ◌∙◌}
use Rattle.std.specs.Str.{bytes_eq}
use Rattle.std.specs.Option.{option_map_or}
use Rattle.clap.specs.Words.{found_of}
use Rattle.clap.proofs.WalkLemmas.{first_value-rows}
use Rattle.command_words.proofs.taken.TakenWords.has.Goals as goal

pub returns-in-Some : goal.returns-in-Some
returns-in-Some c =
    let is =
    ap (option_map (λ s. s.now)) (sym c.in-Some.is)
    ∙ (c.get_str.ensures ∙ first_value-rows (found_of c.args.self.now.matches) c.args.flag.now) in
    c.eq.ensures ∙ ap (λ value. option_map_or (λ text. bytes_eq text (codes "true")) value false) is

pub returns-in-None : goal.returns-in-None
returns-in-None c =
    let is =
    ap (option_map (λ s. s.now)) (sym c.in-None.is)
    ∙ (c.get_str.ensures ∙ first_value-rows (found_of c.args.self.now.matches) c.args.flag.now) in
    ap (λ value. option_map_or (λ text. bytes_eq text (codes "true")) value false) is
