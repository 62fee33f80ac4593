-- Which calls of a store or a sink in memory fail, and how they are counted.
use Rattle.std.specs.Prelude.{ℕ, List, [], ◌∷◌, ◌++◌, Bool, ◌==◌, if◌then◌else◌, refl}
use Rattle.std.specs.List.{list_any}
use Rattle.std.specs.Coded.{Coded, code_by, coded×, coded_ℕ, coded_list}
use Rattle.hp_outside.specs.Faults.{next_count}

-- calls in a row, of which some are to fail
pub record Calls : Type 0 where
  -- the numbers of the calls that are to fail, counted from 1
  pub failing : List ℕ
  -- how many calls there were
  pub count : ℕ
  -- how many of them were faults
  pub faults : ℕ

-- no call was made, and none is to fail
abbrev pub no_calls : Calls
no_calls = record { failing = []; count = 0; faults = 0 }

-- one more call is to fail
abbrev pub fail_also_at : Calls → ℕ → Calls
fail_also_at calls number = record calls { failing = calls.failing ++ number ∷ [] }

-- whether the next call is to fail
abbrev pub next_fails : Calls → Bool
next_fails calls = list_any (λ number. number == next_count calls.count) calls.failing

-- one call further, which is a fault or not
abbrev pub after_call : Calls → Bool → Calls
after_call calls is_fault = record calls {
  count = next_count calls.count;
  faults = if is_fault then next_count calls.faults else calls.faults;
}

-- calls are stored as the pair of their fields
abbrev pub calls_code : Coded Calls
calls_code =
    code_by (List ℕ × (ℕ × ℕ)) (coded× (coded_list coded_ℕ) (coded× coded_ℕ coded_ℕ))
    (λ c. (c.failing, (c.count, c.faults)))
    (λ p. record { failing = p.0; count = p.1.0; faults = p.1.1 }) (λ _. refl)
