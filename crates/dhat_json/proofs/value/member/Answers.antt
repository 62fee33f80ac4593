use Rattle.std.proofs.Common.{List, ℕ, option_map, sym, ap, ◌∙◌}
use Rattle.json.specs.Find as find
use Rattle.json.specs.Value.{value_view}
use Rattle.dhat_json.specs.DataOf.{json_data}
use Rattle.dhat_json.proofs.DataLemmas.{data_mapped, get_data}
use Rattle.dhat_json.proofs.value.member.Goals as goal

pub returns : goal.returns
returns c =
    let j = value_view c.args.value.now in
    data_mapped c.get.result
    ∙ ap (option_map json_data) (c.get.ensures ∙ ap (λ (k : List ℕ). find.get k j) c.name.ensures.name)
    ∙ sym (get_data _ j)
