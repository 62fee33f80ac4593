-- No words at all ask for nothing.
use Rattle.std.proofs.Common.{◌≡◌, ℕ, List, [], ◌∷◌, length, map, None, refl, arith}
use Rattle.std.specs.Option.{option_and_then}
use Rattle.command_words.specs.WordsTaken.{fault_for, files_in, flag_in, matches_for, rows_without, value_in}
use Rattle.heaprec_commands.specs.RecordWords.{record_asked, record_by, record_table}

no_words : record_asked [] ≡ None
unfolding record_asked
no_words = by (fault_for record_table [])
  where
    by : (kinds : _)
        → option_and_then (λ rows. record_by (value_in rows) (flag_in rows) (files_in rows))
        (rows_without kinds (matches_for record_table []))
        ≡ None
    by [] = refl
    by (kind ∷ kinds) = refl

pub none_asked : {X : Type 0} (bytes : X → List ℕ) (words : List X) → length words ≡ 0
    → record_asked (map bytes words) ≡ None
none_asked bytes [] none = no_words
none_asked bytes (word ∷ words) none = absurd (omega (arith, none))
