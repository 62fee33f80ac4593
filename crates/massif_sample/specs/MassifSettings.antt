-- What is settled of a profile before its trace is read.
use Rattle.std.specs.Prelude.{ℕ, List}
use Rattle.massif_sample.specs.declared.options.MassifOptions.{MassifOptions}
use Rattle.massif_sample.specs.FunctionNames.{FunctionNames}

-- how snapshots are taken, and which functions stacks are shown without or are ignored for
pub record MassifSettings : Type 0 where
  pub options : MassifOptions
  pub names : FunctionNames

-- what options and two lists of names settle
abbrev pub settings_of : MassifOptions → List (List ℕ) → List (List ℕ) → MassifSettings
settings_of options alloc_fns ignore_fns
    = record {
      options = options;
      names = record { alloc_fns = alloc_fns; ignore_fns = ignore_fns };
    }
