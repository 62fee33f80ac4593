-- The events that one line more of a raw trace brings, by what it says.
use Rattle.std.proofs.Common.{◌≡◌, ℕ, List, [], ◌∷◌, ◌++◌, Some, refl, sym, ap, ◌∙◌, subst, append_assoc, append-nil}
use Rattle.std.specs.List.{AllByRecursion}
use Rattle.ht_lines.specs.Content.{Content, version_line, executable_line, command_line, system_line, clear_line}
use Rattle.ht_lines.specs.Content.{module_line, node_line, raw_allocation_line, raw_free_line, resident_line}
use Rattle.ht_lines.specs.Content.{attached_line, suppression_line, comment_line, other_line}
use Rattle.live_ledger.specs.declared.event.Event.{Event}
use Rattle.live_ledger.specs.declared.event.Event.TheVariants.{Alloc, Free}
use Rattle.interpret.specs.InterpretedSaid.{events_said, interpreted_events, interpreted_said, told_after}
use Rattle.interpret.specs.Eventless.{IsEventless}
use Rattle.interpret.specs.RawBlocks.{RawBlock, held}
use Rattle.interpret.specs.RawContents.{IsRaw}
use Rattle.interpret.specs.RawTables.{info_number, infos}
use Rattle.interpret.specs.SymbolLine.{Symbol}
use Rattle.interpret.proofs.LedgerLemmas.{AreTold, IsQuiet, alloc-event, events-push, free-event}
use Rattle.interpret.proofs.LedgerLemmas.{node-quiet, quiet-events, told-none, told-step}
use Rattle.interpret.proofs.PointerLemmas.{held-push}

told-more : (symbols : List Symbol) (earlier said : List Content) → AreTold symbols earlier → AllByRecursion IsRaw said
    → AreTold symbols (earlier ++ said)
told-more symbols earlier [] are raw = subst (AreTold symbols) (sym (append-nil earlier)) are
told-more symbols earlier (c ∷ said) are raw =
    subst (AreTold symbols) (append_assoc earlier (c ∷ []) said)
    (told-more symbols (earlier ++ c ∷ []) said (told-step symbols earlier c raw.0 are) raw.1)

are-told : (symbols : List Symbol) (said : List Content) → AllByRecursion IsRaw said → AreTold symbols said
are-told symbols said raw = told-more symbols [] said (told-none symbols) raw

-- no line, no event
pub events-none : (symbols : List Symbol) → interpreted_events symbols [] ≡ []
unfolding interpreted_events interpreted_said events_said
events-none symbols = refl

-- an allocation brings one of its size at its node
pub event-allocated : (symbols : List Symbol) (said : List Content) (size trace ptr : ℕ) → AllByRecursion IsRaw said
    → (info : ℕ)
    × (interpreted_events symbols (said ++ raw_allocation_line size trace ptr ∷ [])
    ≡ interpreted_events symbols said ++ Alloc info trace size ∷ [])
event-allocated symbols said size trace ptr raw = (
  info_number (infos (said ++ raw_allocation_line size trace ptr ∷ [])) (record { size = size; trace = trace }),
  events-push symbols said (raw_allocation_line size trace ptr)
      ∙ ap (λ (l : List Event). interpreted_events symbols said ++ l)
      (alloc-event symbols said size trace ptr (are-told symbols said raw)),
)

-- a free brings one of the block that its pointer stands for
pub event-freed : (symbols : List Symbol) (said : List Content) (ptr : ℕ) (block : RawBlock) → AllByRecursion IsRaw said
    → held said ptr ≡ Some block
    → (info : ℕ)
    × (interpreted_events symbols (said ++ raw_free_line ptr ∷ [])
    ≡ interpreted_events symbols said ++ Free info block.info.trace block.info.size ∷ [])
event-freed symbols said ptr block raw here = (
  info_number (infos said) block.info,
  events-push symbols said (raw_free_line ptr)
      ∙ ap (λ (l : List Event). interpreted_events symbols said ++ l)
      (free-event symbols said ptr block here (are-told symbols said raw)),
)

-- another line of a raw trace without a clock value brings none
pub event-none : (symbols : List Symbol) (said : List Content) (c : Content) → IsEventless c
    → interpreted_events symbols (said ++ c ∷ []) ≡ interpreted_events symbols said
event-none symbols said c none =
    events-push symbols said c
    ∙ ap (λ (l : List Event). interpreted_events symbols said ++ l)
    (quiet-events (interpreted_said symbols said) (told_after symbols said c) (quiet c none))
    ∙ append-nil (interpreted_events symbols said)
  where
    quiet : (c : Content) → IsEventless c → AllByRecursion IsQuiet (told_after symbols said c)
    quiet (version_line heaptrack file) none = ((refl, λ infos. refl), tt)
    quiet (executable_line bytes) none = ((refl, λ infos. refl), tt)
    quiet (command_line bytes) none = ((refl, λ infos. refl), tt)
    quiet (system_line page pages) none = ((refl, λ infos. refl), tt)
    quiet clear_line none = tt
    quiet (module_line name start ranges) none = tt
    quiet (node_line ip parent) none = node-quiet symbols said ip parent
    quiet (resident_line pages) none = ((refl, λ infos. refl), tt)
    quiet attached_line none = ((refl, λ infos. refl), tt)
    quiet (suppression_line bytes) none = ((refl, λ infos. refl), tt)
    quiet (comment_line bytes) none = ((refl, λ infos. refl), tt)
    quiet (other_line bytes) none = ((refl, λ infos. refl), tt)
    quiet _ none = absurd none

-- and leaves every pointer its block
pub held-none : (said : List Content) (c : Content) (ptr : ℕ) → IsEventless c
    → held (said ++ c ∷ []) ptr ≡ held said ptr
unfolding held
held-none said (version_line heaptrack file) ptr none = held-push said (version_line heaptrack file) ptr
held-none said (executable_line bytes) ptr none = held-push said (executable_line bytes) ptr
held-none said (command_line bytes) ptr none = held-push said (command_line bytes) ptr
held-none said (system_line page pages) ptr none = held-push said (system_line page pages) ptr
held-none said clear_line ptr none = held-push said clear_line ptr
held-none said (module_line name start ranges) ptr none = held-push said (module_line name start ranges) ptr
held-none said (node_line ip parent) ptr none = held-push said (node_line ip parent) ptr
held-none said (resident_line pages) ptr none = held-push said (resident_line pages) ptr
held-none said attached_line ptr none = held-push said attached_line ptr
held-none said (suppression_line bytes) ptr none = held-push said (suppression_line bytes) ptr
held-none said (comment_line bytes) ptr none = held-push said (comment_line bytes) ptr
held-none said (other_line bytes) ptr none = held-push said (other_line bytes) ptr
held-none said _ ptr none = absurd none
