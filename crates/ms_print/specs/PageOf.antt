-- The page that options ask for.
use Rattle.std.specs.Prelude.{ℕ, List}
use Rattle.massif_file.specs.declared.profile.Profile.{Profile}
use Rattle.ms_print.specs.declared.options.PageOptions.{PageOptions}
use Rattle.ms_print.specs.PageText.{page_text}

abbrev pub page_of : PageOptions → Profile → List ℕ
page_of options profile = page_text options.threshold options.x options.y options.words profile
