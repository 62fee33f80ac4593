-- What a sampler is made with. The options of a sampler, and the ranges of their numbers.
use Rattle.std.specs.Prelude.{◌≡◌, ◌≢◌, ℕ, ◌^◌, ◌≤◌}
use Rattle.massif_cull.specs.Kept.{Settings}
use Rattle.massif_file.specs.declared.profile.TimeUnit.TheVariants.{Instructions}
use Rattle.massif_tree.specs.declared.options.TreeOptions.{TreeOptions}
use Rattle.massif_sample.specs.declared.options.MassifOptions.{MassifOptions}

-- the options are within their ranges
pub record AreInRange (options : MassifOptions) : Type 0 where
  pub threshold : options.threshold ≤ 10000
  pub inaccuracy : options.inaccuracy ≤ 10000
  pub detailed_freq_least : 1 ≤ options.detailed_freq
  pub detailed_freq_most : options.detailed_freq ≤ 1000000
  pub max_least : 10 ≤ options.max_snapshots
  pub max_most : options.max_snapshots ≤ 1000
  pub depth_least : 1 ≤ options.depth
  pub depth_most : options.depth ≤ 200
  pub admin : options.admin ≤ 1024
  pub exponent : ℕ
  pub alignment : options.alignment ≡ 2 ^ exponent
  pub alignment_most : options.alignment ≤ 4096
  pub unit : options.unit ≢ Instructions

-- what the array of snapshots is made with
abbrev pub settings_of : MassifOptions → Settings
settings_of options = record {
  max = options.max_snapshots;
  detailed_freq = options.detailed_freq;
  inaccuracy = options.inaccuracy;
}

-- what is asked of a tree
abbrev pub tree_options : MassifOptions → TreeOptions
tree_options options = record { threshold = options.threshold; depth = options.depth }
