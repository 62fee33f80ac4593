use Rattle.std.proofs.Common.{List, Some, map, sym, ap, ◌∙◌}
use Rattle.std.specs.declared.alloc.Global.{Global}
use Rattle.json.specs.Value.{value_view}
use Rattle.json.specs.declared.value.Value.{Value}
use Rattle.json.proofs.Trees.{view-Array}
use Rattle.dhat_json.specs.DataOf.{data_of, json_data}
use Rattle.dhat_json.specs.Kinds.{as_list}
use Rattle.dhat_json.proofs.DataLemmas.{list_data}
use Rattle.dhat_json.proofs.value.as_list.Goals as goal

pub returns-in-Array : goal.returns-in-Array
returns-in-Array c =
    ap (λ (values : List (Value Global)). Some (map data_of values)) c.as_slice.ensures.value
    ∙ ap Some (sym (list_data c.in-Array.items.items))
    ∙ ap (λ j. as_list (json_data j)) (sym (ap value_view c.in-Array.is ∙ view-Array c.in-Array.items))
