-- A profile is that of lines where the lines say it; it is the one such profile.
use Rattle.std.specs.Prelude.{◌≡◌, ℕ, List, [], ◌++◌, not, filter}
use Rattle.massif_file.specs.declared.profile.Profile.{Profile}
use Rattle.massif_file.specs.Blanks.{is_skipped}
use Rattle.massif_file.specs.Items.{items_of, Say}
use Rattle.massif_file.specs.Descriptions.{Describe}
use Rattle.massif_file.specs.IsRight.{IsRight}

-- the lines without those that say nothing
abbrev pub saying : List (List ℕ) → List (List ℕ)
saying lines = filter (λ line. not (is_skipped line)) lines

-- Without the lines that say nothing, there are descriptions, and then one line for each thing that the profile says.
pub record is_profile (lines : List (List ℕ)) (profile : Profile) : Type 0 where
  pub descriptions : List (List ℕ)
  pub others : List (List ℕ)
  pub parts : saying lines ≡ descriptions ++ others
  pub described : Describe [] descriptions profile.desc
  pub said : Say others (items_of profile)
  pub right : IsRight profile
