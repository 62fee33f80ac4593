-- What the faults of a line are called.
use Rattle.std.specs.Prelude.{ℕ, List, codes}
use Rattle.ht_lines.specs.declared.item.Malformed.{Malformed}
use Rattle.ht_lines.specs.declared.item.Malformed.TheVariants.{BadField, MissingField, ExtraField, NotInterpreted}
use Rattle.ht_lines.specs.declared.item.Malformed.TheVariants.{NotRaw, BadVersion}

abbrev pub fault_text : Malformed → List ℕ
fault_text BadField = codes "bad field"
fault_text MissingField = codes "missing field"
fault_text ExtraField = codes "extra field"
fault_text NotInterpreted = codes "raw line"
fault_text NotRaw = codes "interpreted line"
fault_text BadVersion = codes "file version not 1 to 3"
