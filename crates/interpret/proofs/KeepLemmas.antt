-- That interpretation keeps the ledger and the stacks.
use Rattle.std.proofs.Common.{ℕ, cond, List, [], ◌∷◌, ◌++◌, refl, sym, arith, append_assoc, append-nil, subst}
use Rattle.std.specs.List.{AllByRecursion}
use Rattle.ht_lines.specs.Content.{Content}
use Rattle.live_ledger.specs.InStack.{alloc_size_in, free_size_in, is_alloc_in, is_free_in}
use Rattle.interpret.specs.RawBlocks.{RawBlock}
use Rattle.interpret.specs.RawContents.{IsRaw}
use Rattle.interpret.specs.RawLedger.{KeepsLedger, bytes_of, is_of}
use Rattle.interpret.specs.SymbolLine.{Symbol}
use Rattle.interpret.proofs.IpLemmas.{AreIps, ips-none, ips-step, same-ips}
use Rattle.interpret.proofs.LedgerLemmas.{AreTold, told-none, told-step}
use Rattle.interpret.proofs.RawLedgerLemmas.{AreHeld, held-none, held-step}
use Rattle.interpret.proofs.ToldLemmas.{AreTables, tables-none, tables-step}

-- all of them hold of all raw lines
pub record Holds (symbols : List Symbol) (said : List Content) : Type 0 where
  pub are_held : AreHeld said
  pub are_told : AreTold symbols said
  pub are_tables : AreTables symbols said
  pub are_ips : AreIps symbols said

pub none-hold : (symbols : List Symbol) → Holds symbols []
none-hold symbols =
    record {
      are_held = held-none;
      are_told = told-none symbols;
      are_tables = tables-none symbols;
      are_ips = ips-none symbols;
    }

pub holds-step : (symbols : List Symbol) (said : List Content) (c : Content) → IsRaw c → Holds symbols said
    → Holds symbols (said ++ c ∷ [])
holds-step symbols said c raw all =
    record {
      are_held = held-step said c all.are_held;
      are_told = told-step symbols said c raw all.are_told;
      are_tables = tables-step symbols said c raw all.are_tables;
      are_ips = ips-step symbols said c all.are_ips;
    }

steps : (symbols : List Symbol) (earlier said : List Content) → Holds symbols earlier → AllByRecursion IsRaw said
    → Holds symbols (earlier ++ said)
steps symbols earlier [] all raw = subst (λ (l : List Content). Holds symbols l) (sym (append-nil earlier)) all
steps symbols earlier (c ∷ said) all raw =
    subst (λ (l : List Content). Holds symbols l) (append_assoc earlier (c ∷ []) said)
    (steps symbols (earlier ++ c ∷ []) said (holds-step symbols earlier c raw.0 all) raw.1)

pub all-hold : (symbols : List Symbol) (said : List Content) → AllByRecursion IsRaw said → Holds symbols said
all-hold symbols said raw = steps symbols [] said (none-hold symbols) raw

-- so the ledger of the interpreted lines is that of the raw ones, and the tables are
pub keeps-ledger : (symbols : List Symbol) (said : List Content) → AllByRecursion IsRaw said → KeepsLedger symbols said
keeps-ledger symbols said raw =
    let all = all-hold symbols said raw in
    record {
      bytes = λ node.
          let a =
          all.are_told.allocs (alloc_size_in node) (bytes_of node)
          (record { alloc = λ n block. refl; free = λ n stack size. refl; tick = λ ms. refl }) in
          let b =
          all.are_told.frees (free_size_in node) (bytes_of node)
          (record { alloc = λ n stack size. refl; free = λ n block. refl; tick = λ ms. refl }) in
          let c = all.are_held.balance (bytes_of node) in
          omega (arith, a, b, c);
      blocks = λ node.
          let w = λ (block : RawBlock). cond {A = ℕ} (is_of node block) 1 0 in
          let a =
          all.are_told.allocs (λ event. cond {A = ℕ} (is_alloc_in node event) 1 0) w
          (record { alloc = λ n block. refl; free = λ n stack size. refl; tick = λ ms. refl }) in
          let b =
          all.are_told.frees (λ event. cond {A = ℕ} (is_free_in node event) 1 0) w
          (record { alloc = λ n stack size. refl; free = λ n block. refl; tick = λ ms. refl }) in
          let c = all.are_held.balance w in
          omega (arith, a, b, c);
      stacks = same-ips symbols said all.are_tables all.are_ips;
    }
