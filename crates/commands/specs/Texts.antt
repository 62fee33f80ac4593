-- The texts of the program.
use Rattle.std.specs.Prelude.{codes}
use Rattle.command_frame.specs.Texts.{Texts}
use Rattle.commands.specs.Commands.{usage as the_usage}

abbrev pub heapsuite_texts : Texts
heapsuite_texts = record {
  name = codes "heapsuite";
  usage = the_usage;
  out_of_memory = codes "heapsuite: out of memory\n";
  write_failed = codes "heapsuite: write failed\n";
}
