-- A text is whole lines about modules where it is the written forms of such lines one after
-- another, each with its line feed; no name in them has one, and each can be read again.
use Rattle.std.specs.Prelude.{◌≡◌, ◌<◌, ◌^◌, ℕ, true, List, [], ◌∷◌, ◌++◌, length}
use Rattle.std.specs.List.{AllByRecursion}
use Rattle.ht_lines.specs.Content.{Content}
use Rattle.ht_lines.specs.OneLine.{HasOneLineTexts}
use Rattle.ht_lines.specs.declared.item.Form.TheVariants.{Raw}
use Rattle.ht_lines.specs.Written.{IsWritable, written}
use Rattle.record_scripts.specs.ModuleLine.{is_module}

-- what one line about modules says in file version 2: a name in it has no line feed, and its
-- written form is no longer than what can be read
pub record IsModuleSaid (said : Content) : Type 0 where
  pub about : is_module said ≡ true
  pub texts : HasOneLineTexts said
  pub writable : IsWritable Raw 2 said
  pub short : length (written 2 said) < 2 ^ 32

-- the written forms of what is said, each with its line feed
abbrev pub module_lines : List Content → List ℕ
module_lines [] = []
module_lines (said ∷ more) = (written 2 said ++ 10 ∷ []) ++ module_lines more

-- the text is a sequence of such lines
abbrev pub AreModuleLines : List ℕ → Type 0
AreModuleLines text = (said : List Content) × AllByRecursion IsModuleSaid said
    × (text ≡ module_lines said)
