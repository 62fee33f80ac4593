use Rattle.std.proofs.Common.{List, Some, None, sym, ap, ◌∙◌, subst}
use Rattle.interpret.specs.declared.symbols.SymbolEntry.{SymbolEntry}
use Rattle.interpret.specs.SymbolEntries.{AreIndexed}
use Rattle.interpret.specs.SymbolLine.{fields}
use Rattle.interpret.proofs.EntryLemmas.{holds-last, holds-none, holds-past}
use Rattle.interpret.proofs.TableLemmas.{texts-kept, texts-unnamed}
use Rattle.interpret.proofs.symbols.Symbols.texts_at.Goals as goal

pub returns-in_err-module_number : goal.returns-in_err-module_number
returns-in_err-module_number c =
    rw c.from_residual.ensures
    (texts-unnamed c.self.inside.module_names c.self.inside.entries.items c.args.self.now c.args.name.now
    c.args.offset c.self.invariant.0 c.self.view_is (sym c.in_err-module_number.ensures.number))

pub returns-in_err-last : goal.returns-in_err-last
returns-in_err-last c =
    rw c.from_residual-in_err-last.ensures
    (texts-kept c.self.inside.module_names c.self.inside.entries.items c.deref.result.now c.args.self.now
    c.args.name.now c.in_ok-module_number.module_number c.args.offset None c.self.invariant.0 c.self.view_is
    c.deref.ensures.value c.in_ok-module_number.ensures.name (sym c.in_ok-module_number.ensures.number)
    (sym (holds-none c.deref.result.now c.in_ok-module_number.module_number c.args.offset c.in_err-last.ensures.none)))

pub returns-then-offset-last : goal.returns-then-offset-last
returns-then-offset-last c =
    let indexed =
    subst (λ (es : List SymbolEntry). AreIndexed es c.self.inside.starts) (sym c.deref.ensures.value)
    c.self.invariant.1 in
    texts-kept c.self.inside.module_names c.self.inside.entries.items c.deref.result.now c.args.self.now
    c.args.name.now c.in_ok-module_number.module_number c.args.offset None c.self.invariant.0 c.self.view_is
    c.deref.ensures.value c.in_ok-module_number.ensures.name (sym c.in_ok-module_number.ensures.number)
    (sym (holds-past c.deref.result.now c.self.inside.starts c.in_ok-module_number.module_number c.args.offset _ indexed
    c.in_ok-last.ensures.last c.if-offset-last.true))

pub returns : goal.returns
returns c =
    let indexed =
    subst (λ (es : List SymbolEntry). AreIndexed es c.self.inside.starts) (sym c.deref.ensures.value)
    c.self.invariant.1 in
    ap (λ bytes. Some (fields bytes)) c.bytes.ensures.content
    ∙ texts-kept c.self.inside.module_names c.self.inside.entries.items c.deref.result.now c.args.self.now
    c.args.name.now c.in_ok-module_number.module_number c.args.offset (Some c.in_ok-last.last.now) c.self.invariant.0
    c.self.view_is
    c.deref.ensures.value c.in_ok-module_number.ensures.name (sym c.in_ok-module_number.ensures.number)
    (sym (holds-last c.deref.result.now c.self.inside.starts c.in_ok-module_number.module_number c.args.offset _ indexed
    c.in_ok-last.ensures.last c.if-offset-last.false))
