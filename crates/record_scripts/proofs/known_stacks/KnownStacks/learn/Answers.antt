use Rattle.std.proofs.lemmas.List.Elements.{All-set}
use Rattle.record_scripts.specs.declared.known_stacks.KnownStack.{KnownStack}
use Rattle.record_scripts.specs.KnownText.{IsKnownText}
use Rattle.record_scripts.proofs.known_stacks.KnownStacks.learn.Goals as goal

pub returns-then-slot-len : goal.returns-then-slot-len
returns-then-slot-len c = λ nodes known here.
    All-set (λ (slot : KnownStack). IsKnownText nodes slot.text.items slot.node)
    c.open.new.self.slots.items c.slot_of-slot.result c.take.new.self (c.take.ensures nodes here)
    (c.open.ensures nodes known)

pub returns-else-slot-len : goal.returns-else-slot-len
returns-else-slot-len c = λ nodes known here. c.open.ensures nodes known
