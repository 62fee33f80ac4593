use Rattle.std.proofs.Common.{◌≡◌, ◌∙◌, ℕ, ◌+◌, ◌<◌, List, length, drop, get_or, Bool, true, false, Some, Bor}
use Rattle.std.proofs.Common.{sym, add-one, drop-cons, arith, if◌then◌else◌}
use Rattle.std.specs.Str.{bytes_eq}
use Rattle.commands.specs.NameWords.{meaning_in, names_in}
use Rattle.commands.proofs.name_words.meaning_in.Goals as goal

-- the next name is the one that is looked for, or another
step : {T : Type 0} (names : List (Bor (List ℕ) × T)) (at : ℕ) (known : Bor (List ℕ) × T) (name : List ℕ) (same : Bool)
    → at < length names → known ≡ get_or names at known → bytes_eq name known.0.now ≡ same
    → meaning_in (names_in (drop at names)) name
    ≡ (if same then Some known.1 else meaning_in (names_in (drop (at + 1) names)) name)
step names at known name same below is test = rw (add-one, drop-cons names at known, ← is, test)

pub returns-then-eq : goal.returns-then-eq
returns-then-eq g c =
    sym (c.loop-known.invariant
    ∙ step c.args.names.now c.loop-known.known-index c.known-item.result c.args.name.now true (omega arith)
    c.known-item.is (sym c.eq.ensures ∙ c.if-eq.true))

pub loop-known-preserved : goal.loop-known-preserved
loop-known-preserved g c =
    c.loop-known.invariant
    ∙ step c.args.names.now c.loop-known.known-index c.known-item.result c.args.name.now false (omega arith)
    c.known-item.is (sym c.eq.ensures ∙ c.if-eq.false)
