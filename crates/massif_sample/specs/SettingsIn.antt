-- The settings of the code as what they settle.
use Rattle.massif_sample.specs.declared.sample_settings.SampleSettings.{SampleSettings}
use Rattle.massif_sample.specs.MassifSettings.{MassifSettings, settings_of}
use Rattle.massif_sample.specs.NameList.{names_in}

-- the options, and the names of both lists
abbrev pub settings_in : SampleSettings → MassifSettings
settings_in settings = settings_of settings.options (names_in settings.alloc_fns.now)
    (names_in settings.ignore_fns.now)
