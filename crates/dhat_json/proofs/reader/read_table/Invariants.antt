use Rattle.std.proofs.Common.{None, All}
use Rattle.std.specs.Prelude.{IsUtf8}
use Rattle.serde_json.specs.Find.{as_str}
use Rattle.dhat_json.specs.declared.key.Key.TheVariants.{Ftbl}
use Rattle.dhat_json.specs.DhatFault.{other_kind}
use Rattle.dhat_json.specs.ProfileIn.{text_in}
use Rattle.dhat_json.proofs.ValueLists.{Passed}
use Rattle.dhat_json.proofs.reader.read_table.Given as goal

abbrev pub invariant-loop-text : goal.invariant-loop-text
invariant-loop-text l = Passed (other_kind as_str None Ftbl) text_in l.values l.text-index l.texts × All IsUtf8 l.texts
