use Rattle.std.proofs.Common.{ℕ, ◌-◌, List, ◌++◌, drop, get_or, refl, ap, ◌∙◌, arith, append_assoc}
use Rattle.std.specs.Prelude.{codes}
use Rattle.hp_num.proofs.Laws.{extends_more, extends_same, extends_trans}
use Rattle.convert.specs.Folded.{folded_name}
use Rattle.cost_tree.specs.Texts.{text_of}
use Rattle.convert.proofs.Appends.{appended-more, appended-none}
use Rattle.convert.specs.Numbers.{later_texts}
use Rattle.convert.proofs.LineTexts.{later-more, later-none}
use Rattle.convert.proofs.lines.put_before.Goals as goal

pub each_text-init : goal.each_text-init
each_text-init c = record {
  written = appended-none c.args.out.now.items _ (later-none c.args.names.now c.args.before.now);
  kept = extends_same c.args.out.now.items c.args.out.now.items refl;
}

pub each_text-preserved : goal.each_text-preserved
each_text-preserved c =
    let names = c.args.names.now in
    let before = c.args.before.now in
    let place = c.each_text.place in
    let name : List ℕ = folded_name (text_of names (get_or before (place - 1) 0)) in
    let written =
    appended-more c.args.out.now.items c.each_text.out.items c.put_name.new.out.items
    (later_texts names (drop place before)) (codes ";" ++ name) _
    c.each_text.invariant.written
    (c.in_ok-put_name.ensures.appended ∙ ap (λ (bytes : List ℕ). bytes ++ name) c.in_ok-put_bytes.ensures.appended
    ∙ append_assoc c.each_text.out.items (codes ";") name)
    (later-more names before place (omega arith) (omega arith)) in
    record { written = written; kept = extends_more c.args.out.now.items c.put_name.new.out.items _ written }

pub returns-in_err-put_name-clause-kept : goal.returns-in_err-put_name-clause-kept
returns-in_err-put_name-clause-kept c =
    extends_trans c.args.out.now.items c.put_bytes.new.out.items c.put_name.new.out.items
    (extends_trans c.args.out.now.items c.each_text.out.items c.put_bytes.new.out.items c.each_text.invariant.kept
    (extends_more c.each_text.out.items c.put_bytes.new.out.items (codes ";") c.in_ok-put_bytes.ensures.appended))
    c.put_name.ensures.kept
