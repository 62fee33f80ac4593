use Rattle.std.proofs.Common.{arith, sym, subst}
use Rattle.std.specs.Prelude.{IsUtf8}
use Rattle.std.proofs.lemmas.List.Elements.{All-get_or}
use Rattle.dhat_json.proofs.tokens.put_strings.Goals as goal

pub put_string-requires : goal.put_string-requires
put_string-requires c =
    subst IsUtf8 (sym c.text-item.is)
    (All-get_or IsUtf8 c.args.texts.now c.loop-text.text-index c.text-item.result (omega arith) c.requires)
