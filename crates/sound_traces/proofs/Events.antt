-- The lines of events of a generated trace: what they say, and that it follows.
use Rattle.std.proofs.Common.{◌≡◌, ◌≢◌, ℕ, ◌+◌, ◌*◌, ◌^◌, ◌<◌, ◌≤◌, ◌==◌, ◌&&◌, nat_lt, Bool, true, false, cond, List}
use Rattle.std.proofs.Common.{◌++◌, codes, length, slice_get, Some, refl, ap, sym, append-nil, arith}
use Rattle.std.proofs.lemmas.Bool.{le-ltb, lt-ltb, ltb-true, ne_eqb}
use Rattle.std.specs.Option.{option_map}
use Rattle.hp_num.specs.Hexadecimal.{hexadecimal}
use Rattle.live_ledger.specs.declared.event.Event.{Event}
use Rattle.live_ledger.specs.declared.event.Event.TheVariants.{Alloc, Free}
use Rattle.live_ledger.specs.InfoBlocks.{allocs_of, frees_of}
use Rattle.live_ledger.specs.LedgerState.{HeldInfo}
use Rattle.live_ledger.specs.LiveBytes.{allocated_bytes}
use Rattle.ht_lines.specs.Content.{Content, allocation_line, free_line}
use Rattle.ht_lines.specs.declared.item.Form.TheVariants.{Interpreted}
use Rattle.ht_lines.specs.Written.{IsWritable, written}
use Rattle.ht_trace.specs.StepOf.{event_of, event_step}
use Rattle.ht_trace.specs.TableState.{TableState}
use Rattle.trace_gen.specs.Draws.{draw}
use Rattle.trace_gen.specs.GeneratedTrace.{event_line, move_line}
use Rattle.trace_gen.specs.Moves.{allocated, freed, moves, next_move}
use Rattle.trace_gen.specs.Sizes.{Sizes}
use Rattle.sound_traces.proofs.Figures.{Figures, figures_allocated, figures_freed}
use Rattle.sound_traces.proofs.Groups.{drawn_below}
use Rattle.sound_traces.proofs.Held.{Held}
use Rattle.sound_traces.proofs.Walk.{Follows}

-- what a move says
abbrev pub says_move : Bool → ℕ → Content
says_move frees info = cond {A = Content} frees (free_line info) (allocation_line info)

abbrev pub says_event : Sizes → ℕ → Content
says_event sizes k = says_move (next_move sizes k (moves sizes k)).frees (next_move sizes k (moves sizes k)).info

-- what holds before each
abbrev pub BeforeEvent : Sizes → ℕ → TableState → List Event → Type 0
BeforeEvent sizes k tables taken =
    Held (sizes.stacks + 1) sizes.stacks sizes.stacks sizes.stacks tables × Figures sizes k taken

-- the line of a move is that of what it says
move_reads : (frees : Bool) (info : ℕ) → info < 2 ^ 64
    → (move_line (record { info = info; frees = frees }) ≡ written 2 (says_move frees info))
    × IsWritable Interpreted 2 (says_move frees info)
move_reads true info fits = (ap (λ tail. codes "- " ++ tail) (sym (append-nil (hexadecimal info))), (fits, refl))
move_reads false info fits = (ap (λ tail. codes "+ " ++ tail) (sym (append-nil (hexadecimal info))), (fits, refl))

-- a free that was drawn has a block
has_block : (kind : Bool) (less all : ℕ) → (kind && nat_lt less all) ≡ true → less < all
has_block true less all is = ltb-true less all is
has_block false less all is = absurd (cc)

module _ (sizes : Sizes) (some : 1 ≤ sizes.stacks) (most : sizes.stacks ≤ 4000) where
  info_below : (k : ℕ) → (next_move sizes k (moves sizes k)).info < sizes.stacks
  info_below k = drawn_below sizes.seed (2 * sizes.stacks + 2 * k) sizes.stacks some

  pub event_reads : (k : ℕ)
      → (event_line sizes k ≡ written 2 (says_event sizes k)) × IsWritable Interpreted 2 (says_event sizes k)
  event_reads k =
      move_reads (next_move sizes k (moves sizes k)).frees (next_move sizes k (moves sizes k)).info
      (omega (arith, info_below k, most))

  module _ (k : ℕ) (few : k < 10000000) (tables : TableState) (taken : List Event) (version : tables.version ≡ Some 2)
      (before : BeforeEvent sizes k tables taken) where
    freed_follows : (found : HeldInfo) → slice_get tables.infos (next_move sizes k (moves sizes k)).info ≡ Some found
        → (next_move sizes k (moves sizes k)).frees ≡ true
        → Follows (BeforeEvent sizes (k + 1)) (free_line (next_move sizes k (moves sizes k)).info) tables taken
    freed_follows found is kind =
        let info : ℕ = (next_move sizes k (moves sizes k)).info in
        let less : freed info (moves sizes k) < allocated info (moves sizes k) =
        has_block (draw sizes.seed (2 * sizes.stacks + 2 * k + 1) 2 == 0) (freed info (moves sizes k))
        (allocated info (moves sizes k)) kind in
        let other : allocs_of info taken ≢ frees_of info taken =
        λ same. omega (arith, same, less, before.1.allocs info, before.1.frees info) in
        record {
          no_fault = rw (lt-ltb info (length tables.infos) (omega (arith, info_below k, before.0.infos_are))) refl;
          event = Some (Free info found.stack found.size);
          brings =
              ap (λ held. event_of (event_step (option_map (λ (held : HeldInfo). Free info held.stack held.size) held)))
              is;
          no_event_fault = rw (ne_eqb (allocs_of info taken) (frees_of info taken) other) refl;
          version = version;
          holds = (before.0, figures_freed sizes k found.stack found.size taken kind before.1);
        }

    allocated_follows : (found : HeldInfo)
        → slice_get tables.infos (next_move sizes k (moves sizes k)).info ≡ Some found → found.size ≤ 4096
        → (next_move sizes k (moves sizes k)).frees ≡ false
        → Follows (BeforeEvent sizes (k + 1)) (allocation_line (next_move sizes k (moves sizes k)).info) tables taken
    allocated_follows found is fits kind =
        let info : ℕ = (next_move sizes k (moves sizes k)).info in
        record {
          no_fault = rw (lt-ltb info (length tables.infos) (omega (arith, info_below k, before.0.infos_are))) refl;
          event = Some (Alloc info found.stack found.size);
          brings =
              ap (λ held. event_of (event_step (option_map
              (λ (held : HeldInfo). Alloc info held.stack held.size) held)))
              is;
          no_event_fault =
              rw (le-ltb (2 ^ 62) (allocated_bytes taken + found.size) (omega (arith, before.1.bytes, fits, few))) refl;
          version = version;
          holds = (before.0, figures_allocated sizes k found.stack found.size taken kind fits before.1);
        }

    pub event_follows : Follows (BeforeEvent sizes (k + 1)) (says_event sizes k) tables taken
    event_follows =
        let info : ℕ = (next_move sizes k (moves sizes k)).info in
        let found = before.0.small info (info_below k) in
        elim ((next_move sizes k (moves sizes k)).frees) as
        (λ frees. (next_move sizes k (moves sizes k)).frees ≡ frees
        → Follows (BeforeEvent sizes (k + 1)) (says_move frees info) tables taken) [
          | true ↦ λ kind. freed_follows found.0 found.1.0 kind
          | false ↦ λ kind. allocated_follows found.0 found.1.0 found.1.1 kind
        ] refl
