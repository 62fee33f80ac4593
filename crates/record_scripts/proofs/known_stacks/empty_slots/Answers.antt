use Rattle.std.proofs.Common.{ℕ, List, subst, sym}
use Rattle.std.proofs.lemmas.List.Elements.{All-push}
use Rattle.record_scripts.specs.declared.known_stacks.KnownStack.{KnownStack}
use Rattle.record_scripts.specs.KnownText.{AreKnownSlots, IsKnownText}
use Rattle.record_scripts.proofs.KnownLemmas.{known-none}
use Rattle.record_scripts.proofs.known_stacks.empty_slots.Goals as goal

pub loop-preserved : goal.loop-preserved
loop-preserved c = λ nodes.
    subst (λ (slots : List KnownStack). AreKnownSlots nodes slots) (sym c.in_ok-push.ensures.items)
    (All-push (λ (slot : KnownStack). IsKnownText nodes slot.text.items slot.node)
    c.loop.slots.items (record { text = c.new.result; node = 0 }) (c.loop.invariant nodes)
    (subst (λ (text : List ℕ). IsKnownText nodes text 0) (sym c.new.ensures.items)
    (known-none nodes)))
