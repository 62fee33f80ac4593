-- The texts of a program, and the messages at a file and at a line of it.
use Rattle.std.specs.Prelude.{ℕ, List, ◌++◌, codes, decimal}
use Rattle.command_frame.specs.declared.texts.ProgramTexts.{ProgramTexts}

pub record Texts : Type 0 where
  pub name : List ℕ
  -- what is written where the words aren't taken
  pub usage : List ℕ
  -- what is written where memory was wanting
  pub out_of_memory : List ℕ
  -- what is written where standard output took less than was to be written
  pub write_failed : List ℕ

abbrev pub texts_of : ProgramTexts → Texts
texts_of texts = record {
  name = texts.name.now;
  usage = texts.usage.now;
  out_of_memory = texts.out_of_memory.now;
  write_failed = texts.write_failed.now;
}

-- a fault of a file
abbrev pub at_file : Texts → List ℕ → List ℕ → List ℕ
at_file texts file fault = texts.name
    ++ (codes ": " ++ (file ++ (codes ": " ++ (fault ++ codes "\n"))))

-- a fault at a line of a file, the lines being numbered from 1
abbrev pub at_line : Texts → List ℕ → ℕ → List ℕ → List ℕ
at_line texts file number fault =
    texts.name ++ (codes ": "
    ++ (file ++ (codes ":" ++ (decimal number ++ (codes ": " ++ (fault ++ codes "\n"))))))
