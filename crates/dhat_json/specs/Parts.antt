-- The parts of the profile that a value says, for private clauses.
use Rattle.std.specs.Prelude.{List, IfSome, IsUtf8}
use Rattle.serde_json.specs.Data.{Data}
use Rattle.serde_json.specs.Find.{as_str}
use Rattle.dhat_json.specs.declared.key.Key.TheVariants.{Mode, Verb, Bklt, Bkacc, Bu, Bsu, Bksu, Tu, Mtu, Tuth, Cmd}
use Rattle.dhat_json.specs.declared.key.Key.TheVariants.{Pid, Te, Tg}
use Rattle.dhat_json.specs.declared.parts.Front.{Front}
use Rattle.dhat_json.specs.declared.parts.Head.{Head}
use Rattle.dhat_json.specs.declared.parts.Units.{Units}
use Rattle.dhat_json.specs.declared.parts.BlockUnits.{BlockUnits}
use Rattle.dhat_json.specs.declared.parts.TimeUnits.{TimeUnits}
use Rattle.dhat_json.specs.declared.parts.Run.{Run}
use Rattle.dhat_json.specs.declared.profile.Point.{Point}
use Rattle.dhat_json.specs.declared.profile.Dhat.{Dhat}
use Rattle.dhat_json.specs.Kinds.{as_whole}
use Rattle.dhat_json.specs.ProfileIn.{found, text_at, whole_at, flag_at}

abbrev pub head_in : Data → Head
head_in value = record {
  mode = text_at Mode value;
  verb = text_at Verb value;
  bklt = flag_at Bklt value;
  bkacc = flag_at Bkacc value;
}

abbrev pub block_units_in : Data → BlockUnits
block_units_in value = record {
  bu = found as_str Bu value;
  bsu = found as_str Bsu value;
  bksu = found as_str Bksu value;
}

abbrev pub time_units_in : Data → TimeUnits
time_units_in value = record {
  tu = text_at Tu value;
  mtu = text_at Mtu value;
  tuth = found as_whole Tuth value;
}

abbrev pub units_in : Data → Units
units_in value = record { block = block_units_in value; time = time_units_in value }

abbrev pub run_in : Data → Run
run_in value = record {
  cmd = text_at Cmd value;
  pid = whole_at Pid value;
  te = whole_at Te value;
  tg = found as_whole Tg value;
}

-- the texts are UTF-8
abbrev pub HasBlockTexts : BlockUnits → Type 0
HasBlockTexts units = IfSome units.bu IsUtf8 × IfSome units.bsu IsUtf8 × IfSome units.bksu IsUtf8

abbrev pub HasTimeTexts : TimeUnits → Type 0
HasTimeTexts units = IsUtf8 units.tu × IsUtf8 units.mtu

abbrev pub joined : Front → List Point → Dhat
joined front pps = record {
  mode = front.head.mode;
  verb = front.head.verb;
  bklt = front.head.bklt;
  bkacc = front.head.bkacc;
  bu = front.units.block.bu;
  bsu = front.units.block.bsu;
  bksu = front.units.block.bksu;
  tu = front.units.time.tu;
  mtu = front.units.time.mtu;
  tuth = front.units.time.tuth;
  cmd = front.run.cmd;
  pid = front.run.pid;
  te = front.run.te;
  tg = front.run.tg;
  pps = pps;
  ftbl = front.ftbl;
}
