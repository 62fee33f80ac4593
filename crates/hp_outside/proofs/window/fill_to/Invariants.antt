-- What stood there stays, and the buffer only grows.
use Rattle.std.proofs.Common.{◌≡◌, ◌-◌, ◌≤◌, ℕ, take, vec_len, vec_capacity}
use Rattle.hp_outside.proofs.window.fill_to.Given as goal

abbrev pub invariant-growth : goal.invariant-growth
invariant-growth l = record {
  front : (count : ℕ) → count ≤ vec_len l.initial.buffer
      → take count l.buffer.items ≡ take count l.initial.buffer.items;
  longer : vec_len l.initial.buffer ≤ vec_len l.buffer;
  capacity : vec_capacity l.initial.buffer ≤ vec_capacity l.buffer;
}

abbrev pub decreases-growth : goal.decreases-growth
decreases-growth l = l.len - vec_len l.buffer
