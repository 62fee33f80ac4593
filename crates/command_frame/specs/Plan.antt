-- What a command does with its files, one after another, each read by lines or whole; or a text
-- that it writes while it is made.
use Rattle.std.specs.Prelude.{ℕ, List}
use Rattle.command_frame.specs.Report.{Report, Verdict}

pub data Plan : Type 0 where
  -- no file is left to be read; a fault is one of the file that was read last
  Ends : Verdict → Plan
  -- no file is left to be read, and this text is written piece by piece while it is made
  Pieces : List ℕ → Plan
  -- a named file is read line by line, and then goes on what is made of its lines
  Lines : List ℕ → Report → (List (List ℕ) → Plan) → Plan
  -- a named file is read whole, and then goes on what is made of its bytes
  Document : List ℕ → (List ℕ → Plan) → Plan

-- one file by lines, and what is made of them
abbrev pub one_file : List ℕ → Report → Plan
one_file name report = Lines name report (λ lines. Ends (report.verdict lines))

-- two files by lines: what is made of the second one's lines depends on the first one's
abbrev pub two_files : List ℕ → Report → List ℕ → (List (List ℕ) → Report) → Plan
two_files first report second next = Lines first report (λ lines. one_file second (next lines))

-- one file that is read whole, and what is made of its bytes
abbrev pub one_document : List ℕ → (List ℕ → Verdict) → Plan
one_document name verdict = Document name (λ bytes. Ends (verdict bytes))
