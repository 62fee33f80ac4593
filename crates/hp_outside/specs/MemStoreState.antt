-- What a store in memory holds, and which of its calls fail.
use Rattle.std.specs.Prelude.{ℕ, List, None, Result, Ok, Err, is_ok, if◌then◌else◌, refl}
use Rattle.std.specs.Coded.{Coded, code_by, coded×}
use Rattle.hp_outside.specs.declared.store.Failed.{Failed}
use Rattle.hp_outside.specs.declared.store.OpenFault.{OpenFault}
use Rattle.hp_outside.specs.Calls.{Calls, calls_code, next_fails}
use Rattle.hp_outside.specs.Folder.{file_of}
use Rattle.hp_outside.specs.SureStoreState.{SureStoreState, after_open, after_read, read_count, sure_store_code}

-- a store in memory of whose calls some fail
pub record MemStoreState : Type 0 where
  pub store : SureStoreState
  pub calls : Calls

-- the state is stored as the pair of its fields
abbrev pub mem_store_code : Coded MemStoreState
mem_store_code =
    code_by (SureStoreState × Calls) (coded× sure_store_code calls_code)
    (λ s. (s.store, s.calls)) (λ p. record { store = p.0; calls = p.1 }) (λ _. refl)

-- what is left where an open of the name has answered so
abbrev pub opened_by : SureStoreState → List ℕ → Result (Unit {0}) OpenFault → SureStoreState
opened_by store name answer = after_open store
    (if is_ok answer then file_of store.folder name else None)

-- what the next read into a buffer of this length answers
abbrev pub read_answer : MemStoreState → ℕ → Result ℕ Failed
read_answer state room = if next_fails state.calls then Err (record {})
    else Ok (read_count state.store room)

-- what is held after it
abbrev pub store_read : MemStoreState → ℕ → SureStoreState
store_read state room = if next_fails state.calls then state.store else after_read state.store room
