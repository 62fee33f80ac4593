use Rattle.std.proofs.Common.{arith, subst, sym, ◌∙◌}
use Rattle.ht_lines.specs.ItemContent.{content}
use Rattle.record_scripts.specs.ModuleLines.{AreModuleLines}
use Rattle.record_scripts.proofs.ModuleLemmas.{lines-more, one-line}
use Rattle.record_scripts.proofs.ModuleLength.{module-length}
use Rattle.record_scripts.proofs.module_text.ModuleText.add.Goals as goal

pub invariant_of-self-2 : goal.invariant_of-self-2
invariant_of-self-2 c =
    let about = sym c.is_module.ensures ∙ c.if-not-is_module.false in
    let length = module-length c.args.line.now (content c.in-Ok.item) c.in-Ok.ensures.item about in
    subst AreModuleLines (sym c.in_ok-put_item.ensures.appended)
    (lines-more c.self.inside.lines.items (content c.in-Ok.item) c.self.invariant (record {
      about = about;
      texts = c.in-Ok.ensures.texts (one-line c.args.line.now (sym c.has_line_feed.ensures ∙ c.if-has_line_feed.false));
      writable = c.in-Ok.ensures.writable;
      short = omega (arith, length, c.requires);
    }))
