-- The ranges of the numbers that snapshots are taken by. What snapshots are taken by has each
-- number in the range of its option, and settles its options and the names of both its lists.
use Rattle.std.specs.Prelude.{◌≡◌, ◌≢◌, ◌≤◌, true}
use Rattle.std.specs.Int.{is_power_of_two}
use Rattle.massif_file.specs.declared.profile.TimeUnit.TheVariants.{Instructions}
use Rattle.massif_sample.specs.declared.options.MassifOptions.{MassifOptions}

-- the numbers are within the ranges of their options
pub record AreWithin (options : MassifOptions) : Type 0 where
  pub threshold : options.threshold ≤ 10000
  pub inaccuracy : options.inaccuracy ≤ 10000
  pub detailed_freq_least : 1 ≤ options.detailed_freq
  pub detailed_freq_most : options.detailed_freq ≤ 1000000
  pub max_least : 10 ≤ options.max_snapshots
  pub max_most : options.max_snapshots ≤ 1000
  pub depth_least : 1 ≤ options.depth
  pub depth_most : options.depth ≤ 200
  pub admin : options.admin ≤ 1024
  pub alignment : is_power_of_two options.alignment ≡ true
  pub alignment_most : options.alignment ≤ 4096
  pub unit : options.unit ≢ Instructions
