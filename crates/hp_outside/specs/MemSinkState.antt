-- What a sink in memory holds, and which of its calls fail.
use Rattle.std.specs.Prelude.{ℕ, ◌-◌, List, [], ◌++◌, Bool, true, false, ◌==◌, ◌||◌, ◌&&◌, nat_lt, length, take, min}
use Rattle.std.specs.Prelude.{Result, Ok, Err, if◌then◌else◌, refl}
use Rattle.std.specs.Coded.{Coded, code_by, coded×, coded_ℕ, coded_list}
use Rattle.hp_outside.specs.declared.store.Failed.{Failed}
use Rattle.hp_outside.specs.Calls.{Calls, no_calls, next_fails, after_call, calls_code}

-- a sink in memory with so much room, of whose calls some fail
pub record MemSinkState : Type 0 where
  pub written : List ℕ
  -- how many bytes still fit
  pub room : ℕ
  pub calls : Calls

-- an empty sink with so much room
abbrev pub new_sink : ℕ → MemSinkState
new_sink room = record { written = []; room = room; calls = no_calls }

-- how many of so many bytes still fit
abbrev pub fitting_count : MemSinkState → ℕ → ℕ
fitting_count sink count = min count sink.room

-- whether a write of so many bytes is a fault: its call is to fail, or the sink is full and there is a byte to take
abbrev pub write_fails : MemSinkState → ℕ → Bool
write_fails sink count = next_fails sink.calls || (nat_lt 0 count && (sink.room == 0))

-- the sink with a front of the piece, as much as fits
abbrev pub with_front : MemSinkState → List ℕ → MemSinkState
with_front sink piece = record sink {
  written = sink.written ++ take (fitting_count sink (length piece)) piece;
  room = sink.room - fitting_count sink (length piece);
  calls = after_call sink.calls false;
}

-- the sink after a call that is a fault
abbrev pub after_fault : MemSinkState → MemSinkState
after_fault sink = record sink { calls = after_call sink.calls true }

-- the state is stored as the pair of its fields
abbrev pub mem_sink_code : Coded MemSinkState
mem_sink_code =
    code_by (List ℕ × (ℕ × Calls)) (coded× (coded_list coded_ℕ) (coded× coded_ℕ calls_code))
    (λ s. (s.written, (s.room, s.calls)))
    (λ p. record { written = p.0; room = p.1.0; calls = p.1.1 }) (λ _. refl)

-- what a write of so many bytes answers
abbrev pub write_answer : MemSinkState → ℕ → Result ℕ Failed
write_answer sink count = if write_fails sink count then Err (record {})
    else Ok (fitting_count sink count)

-- the sink after a write of the piece
abbrev pub after_write : MemSinkState → List ℕ → MemSinkState
after_write sink piece = if write_fails sink (length piece) then after_fault sink
    else with_front sink piece

-- the sink after a flush
abbrev pub after_flush : MemSinkState → MemSinkState
after_flush sink = record sink { calls = after_call sink.calls (next_fails sink.calls) }
