-- The texts of the program.
use Rattle.std.specs.Prelude.{codes}
use Rattle.command_frame.specs.Texts.{Texts}

abbrev pub heaprec_texts : Texts
heaprec_texts = record {
  name = codes "heaprec";
  usage = codes "usage: heaprec [--modules=FILE] [--summary] [--check=TRACE] SCRIPT...\n";
  out_of_memory = codes "heaprec: out of memory\n";
  write_failed = codes "heaprec: write failed\n";
}
