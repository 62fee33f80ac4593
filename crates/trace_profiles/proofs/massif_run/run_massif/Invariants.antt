use Rattle.massif_sample.specs.SettingsIn.{settings_in}
use Rattle.trace_profiles.proofs.massif_run.run_massif.Given as goal

-- the settings are those that are handed in
abbrev pub ghosts-run_settled : goal.ghosts-run_settled
ghosts-run_settled g a = record { settings = settings_in a.profiled.now.settings.now }
