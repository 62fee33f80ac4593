use Rattle.std.proofs.Common.{◌≡◌, ℕ, List, [], ◌∷◌, ◌++◌, length, Some, sym, ap, ◌∙◌, subst}
use Rattle.std.specs.Prelude.{if◌then◌else◌}
use Rattle.std.specs.List.{list_any}
use Rattle.interpret.specs.declared.modules.AddressRange.{AddressRange}
use Rattle.interpret.specs.declared.modules.ModuleEntry.{ModuleEntry}
use Rattle.interpret.specs.Holders.{holder_at}
use Rattle.interpret.specs.ModuleEntries.{AreHeld}
use Rattle.interpret.specs.Modules.{in_range}
use Rattle.interpret.proofs.HolderLemmas.{held-push}
use Rattle.interpret.proofs.modules.ModuleList.add.Goals as goal

-- the entry that is added
abbrev entry : goal.In_ok-push → ModuleEntry
entry c = record { name = c.in_ok-name.name; start = c.args.start; ranges = c.in_ok-ranges.ranges }

-- its place
count : (c : goal.In_ok-push) → c.len-place.result ≡ length c.self.inside.entries.items
count c =
    let held = c.self.inside.entries.ok.0 in
    c.len-place.ensures ∙ c.reserve.ensures.len ∙ held

-- it is put over all others
put : (c : goal.In_ok-push) (ip : ℕ)
    → holder_at c.put_ranges.new.index ip
    ≡ (if list_any (in_range ip) (entry c).ranges.items then Some (length c.self.inside.entries.items) else holder_at
    c.self.inside.index ip)
put c ip =
    c.in_default.ensures ip
    ∙ ap (λ (ranges : List AddressRange). if list_any (in_range ip) ranges then Some c.len-place.result else holder_at
    c.self.inside.index ip) c.deref.ensures.value
    ∙ ap (λ (place : ℕ). if list_any (in_range ip) (entry c).ranges.items then Some place else holder_at
    c.self.inside.index ip) (count
    c)

pub invariant_of-self-2 : goal.invariant_of-self-2
invariant_of-self-2 c =
    let pushed =
    c.in_ok-push.ensures.items ∙ ap (λ (es : List ModuleEntry). es ++ entry c ∷ []) c.reserve.ensures.items in
    subst (λ (es : List ModuleEntry). AreHeld es c.put_ranges.new.index) (sym pushed)
    (held-push c.self.inside.entries.items (entry c) c.self.inside.index c.put_ranges.new.index c.self.invariant
    (put c))
