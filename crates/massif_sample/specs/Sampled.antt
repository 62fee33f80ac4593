-- The profile of a trace is that of the kept snapshots, with a description of its own and the
-- command without leading blanks, or `(none)`.
use Rattle.std.specs.Prelude.{ℕ, List, [], ◌∷◌, map, codes}
use Rattle.ht_trace.specs.TableState.{TableState}
use Rattle.live_ledger.specs.declared.event.Event.{Event}
use Rattle.massif_file.specs.declared.profile.Profile.{Profile}
use Rattle.massif_file.specs.Blanks.{without_blanks}
use Rattle.massif_sample.specs.declared.options.MassifOptions.{MassifOptions}
use Rattle.massif_sample.specs.FunctionNames.{FunctionNames, ignores}
use Rattle.massif_sample.specs.Offers.{kept}
use Rattle.massif_sample.specs.Snapshots.{snap_of}

abbrev pub or_none : List ℕ → List ℕ
or_none [] = codes "(none)"
or_none (b ∷ bs) = b ∷ bs

-- the command without its leading blanks, and `(none)` where nothing is left
unfoldable pub shown_command : List ℕ → List ℕ
shown_command cmd = or_none (without_blanks cmd)

unfoldable pub description : List ℕ
description = codes "heapsuite massif"

-- the snapshots that are kept of the events, with their figures
unfoldable pub sampled : MassifOptions → FunctionNames → TableState → List Event → List ℕ → Profile
sampled options names tables events cmd = record {
  desc = description;
  cmd = shown_command cmd;
  unit = options.unit;
  snaps = map (snap_of options names tables events)
      (kept options (ignores tables names) events).entries;
}
