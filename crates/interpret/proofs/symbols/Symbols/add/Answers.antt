use Rattle.std.proofs.Common.{◌≡◌, ℕ, Bool, List, [], ◌∷◌, ◌++◌, length, Option, Some, None, refl, sym, ap, ◌∙◌}
use Rattle.std.specs.Prelude.{if◌then◌else◌, unwrap_or}
use Rattle.std.specs.List.{list_any}
use Rattle.interpret.specs.declared.fault.SymbolFault.{SymbolFault}
use Rattle.interpret.specs.declared.fault.SymbolFault.TheVariants.{SymbolOverlap}
use Rattle.interpret.specs.declared.symbols.SymbolEntry.{SymbolEntry}
use Rattle.interpret.specs.SymbolLine.{fields}
use Rattle.interpret.specs.SymbolEntries.{meets_range, said_by}
use Rattle.interpret.proofs.ListLemmas.{on-err}
use Rattle.interpret.proofs.TableLemmas.{meets-view, table-grown, table-push, view-grown, view-push}
use Rattle.interpret.proofs.symbols.Symbols.add.Goals as goal

pub invariant_of-self-then-meets_any : goal.invariant_of-self-then-meets_any
invariant_of-self-then-meets_any c =
    table-grown c.self.inside.module_names c.intern.new.self c.self.inside.entries.items c.self.inside.entries.items
    c.self.inside.starts c.self.inside.starts c.self.invariant
    (record {
      stay = c.intern.ensures.names_stay;
      numbers = c.intern.ensures.numbers_stay;
      none_lost = c.intern.ensures.none_lost;
    })
    refl (λ number start. refl)

pub returns-then-meets_any-clause-unchanged : goal.returns-then-meets_any-clause-unchanged
returns-then-meets_any-clause-unchanged c =
    view-grown c.self.inside.module_names c.intern.new.self c.self.inside.entries.items c.self.inside.entries.items
    c.args.self.now c.self.view_is c.self.invariant.0
    (record {
      stay = c.intern.ensures.names_stay;
      numbers = c.intern.ensures.numbers_stay;
      none_lost = c.intern.ensures.none_lost;
    })
    refl

-- the fault of a symbol that meets another, or none
abbrev fault_of : Bool → Option SymbolFault
fault_of meeting = if meeting then Some SymbolOverlap else None

pub returns-then-meets_any-clause-fault : goal.returns-then-meets_any-clause-fault
returns-then-meets_any-clause-fault c = λ other.
    ap fault_of
    (meets-view c.self.inside.module_names c.intern.new.self c.self.inside.entries.items c.deref.result.now
    c.args.self.now (said_by c.args.said.now) c.in_ok-module_number.module_number c.self.view_is c.self.invariant.0
    (record {
      stay = c.intern.ensures.names_stay;
      numbers = c.intern.ensures.numbers_stay;
      none_lost = c.intern.ensures.none_lost;
    })
    c.deref.ensures.value c.in_ok-module_number.ensures.name c.in_ok-module_number.ensures.number
    ∙ sym c.if-meets_any.ensures)

pub returns-clause-no_fault : goal.returns-clause-no_fault
returns-clause-no_fault c =
    ap fault_of
    (meets-view c.self.inside.module_names c.intern.new.self c.self.inside.entries.items c.deref.result.now
    c.args.self.now (said_by c.args.said.now) c.in_ok-module_number.module_number c.self.view_is c.self.invariant.0
    (record {
      stay = c.intern.ensures.names_stay;
      numbers = c.intern.ensures.numbers_stay;
      none_lost = c.intern.ensures.none_lost;
    })
    c.deref.ensures.value c.in_ok-module_number.ensures.name c.in_ok-module_number.ensures.number
    ∙ sym c.if-meets_any.ensures)

pub invariant_of-self-in_err-reserve : goal.invariant_of-self-in_err-reserve
invariant_of-self-in_err-reserve c =
    table-grown c.self.inside.module_names c.intern.new.self c.self.inside.entries.items c.reserve.new.self.items
    c.self.inside.starts c.self.inside.starts c.self.invariant
    (record {
      stay = c.intern.ensures.names_stay;
      numbers = c.intern.ensures.numbers_stay;
      none_lost = c.intern.ensures.none_lost;
    })
    c.reserve.ensures.items (λ number start. refl)

pub returns-in_err-reserve-clause-unchanged : goal.returns-in_err-reserve-clause-unchanged
returns-in_err-reserve-clause-unchanged c =
    on-err c.from_residual-in_err-reserve.result _
    (view-grown c.self.inside.module_names c.intern.new.self c.self.inside.entries.items c.reserve.new.self.items
    c.args.self.now c.self.view_is c.self.invariant.0
    (record {
      stay = c.intern.ensures.names_stay;
      numbers = c.intern.ensures.numbers_stay;
      none_lost = c.intern.ensures.none_lost;
    })
    c.reserve.ensures.items)

pub invariant_of-self-in_err-texts : goal.invariant_of-self-in_err-texts
invariant_of-self-in_err-texts c =
    table-grown c.self.inside.module_names c.intern.new.self c.self.inside.entries.items c.reserve.new.self.items
    c.self.inside.starts c.self.inside.starts c.self.invariant
    (record {
      stay = c.intern.ensures.names_stay;
      numbers = c.intern.ensures.numbers_stay;
      none_lost = c.intern.ensures.none_lost;
    })
    c.reserve.ensures.items (λ number start. refl)

pub returns-in_err-texts-clause-unchanged : goal.returns-in_err-texts-clause-unchanged
returns-in_err-texts-clause-unchanged c =
    on-err c.from_residual-in_err-texts.result _
    (view-grown c.self.inside.module_names c.intern.new.self c.self.inside.entries.items c.reserve.new.self.items
    c.args.self.now c.self.view_is c.self.invariant.0
    (record {
      stay = c.intern.ensures.names_stay;
      numbers = c.intern.ensures.numbers_stay;
      none_lost = c.intern.ensures.none_lost;
    })
    c.reserve.ensures.items)

pub invariant_of-self-in_err-insert : goal.invariant_of-self-in_err-insert
invariant_of-self-in_err-insert c =
    table-grown c.self.inside.module_names c.intern.new.self c.self.inside.entries.items c.reserve.new.self.items
    c.self.inside.starts c.insert.new.self c.self.invariant
    (record {
      stay = c.intern.ensures.names_stay;
      numbers = c.intern.ensures.numbers_stay;
      none_lost = c.intern.ensures.none_lost;
    })
    c.reserve.ensures.items c.in_err-insert.ensures.unchanged

pub returns-in_err-insert-clause-unchanged : goal.returns-in_err-insert-clause-unchanged
returns-in_err-insert-clause-unchanged c =
    on-err c.from_residual-in_err-insert.result _
    (view-grown c.self.inside.module_names c.intern.new.self c.self.inside.entries.items c.reserve.new.self.items
    c.args.self.now c.self.view_is c.self.invariant.0
    (record {
      stay = c.intern.ensures.names_stay;
      numbers = c.intern.ensures.numbers_stay;
      none_lost = c.intern.ensures.none_lost;
    })
    c.reserve.ensures.items)

-- the entry that is added
abbrev entry : goal.In_ok-push → SymbolEntry
entry c =
    record {
      module_number = c.in_ok-module_number.module_number;
      start = c.args.said.now.start;
      end = c.args.said.now.end;
      texts = c.in_ok-texts.texts;
    }

pushed : (c : goal.In_ok-push) → c.push.new.self.items ≡ c.self.inside.entries.items ++ entry c ∷ []
pushed c = c.in_ok-push.ensures.items ∙ ap (λ (es : List SymbolEntry). es ++ entry c ∷ []) c.reserve.ensures.items

pub invariant_of-self-2 : goal.invariant_of-self-2
invariant_of-self-2 c =
    table-push c.self.inside.module_names c.intern.new.self c.self.inside.entries.items c.push.new.self.items
    c.self.inside.starts c.insert.new.self (entry c) c.args.said.now.name.now c.self.invariant
    (record {
      stay = c.intern.ensures.names_stay;
      numbers = c.intern.ensures.numbers_stay;
      none_lost = c.intern.ensures.none_lost;
    })
    (pushed c)
    c.in_ok-module_number.ensures.name c.in_ok-module_number.ensures.number c.in_ok-module_number.ensures.within.1
    c.requires.some
    (ap (λ (es : List SymbolEntry). list_any
    (meets_range c.in_ok-module_number.module_number c.args.said.now.start c.args.said.now.end) es) (sym
    c.deref.ensures.value)
    ∙ sym c.if-meets_any.ensures)
    (c.in_ok-insert.ensures.here
    ∙ ap (λ (n : ℕ). Some n)
    (c.len-place.ensures ∙ c.reserve.ensures.len ∙ sym c.deref.ensures.len
    ∙ ap (λ (es : List SymbolEntry). length es) c.deref.ensures.value))
    c.in_ok-insert.ensures.others

pub returns-clause-added : goal.returns-clause-added
returns-clause-added c =
    view-push c.self.inside.module_names c.intern.new.self c.self.inside.entries.items c.push.new.self.items
    c.args.self.now (entry c) (said_by c.args.said.now) c.self.view_is c.self.invariant.0
    (record {
      stay = c.intern.ensures.names_stay;
      numbers = c.intern.ensures.numbers_stay;
      none_lost = c.intern.ensures.none_lost;
    })
    (pushed c)
    (ap (λ (o : Option (List ℕ)). record {
      module_name = unwrap_or o [];
      start = c.args.said.now.start;
      end = c.args.said.now.end;
      texts = fields c.in_ok-texts.texts;
    }) c.in_ok-module_number.ensures.name
    ∙ ap (λ (bytes : List ℕ). record {
      module_name = c.args.said.now.name.now;
      start = c.args.said.now.start;
      end = c.args.said.now.end;
      texts = fields bytes;
    }) c.in_ok-texts.ensures.copied)
