use Rattle.hp_num.proofs.Laws.{extends_more, extends_same, extends_trans}
use Rattle.interpret.proofs.node_lines.add_new_node.Goals as goal

pub returns-in_err-add_names-clause-kept : goal.returns-in_err-add_names-clause-kept
returns-in_err-add_names-clause-kept c = c.add_names.ensures.kept

pub returns-in_err-put_instruction-clause-kept : goal.returns-in_err-put_instruction-clause-kept
returns-in_err-put_instruction-clause-kept c =
    extends_trans c.args.out.now.items c.add_names.new.out.items c.put_instruction.new.out.items
    c.add_names.ensures.kept
    c.put_instruction.ensures.kept

pub returns-in_err-put_item-clause-kept : goal.returns-in_err-put_item-clause-kept
returns-in_err-put_item-clause-kept c =
    extends_trans c.args.out.now.items c.put_instruction.new.out.items c.put_item.new.out.items
    (extends_trans c.args.out.now.items c.add_names.new.out.items c.put_instruction.new.out.items
    c.add_names.ensures.kept c.put_instruction.ensures.kept)
    (extends_same c.put_instruction.new.out.items c.put_item.new.out.items c.in_err-put_item.ensures.unchanged)

pub returns-clause-kept : goal.returns-clause-kept
returns-clause-kept c =
    extends_trans c.args.out.now.items c.put_instruction.new.out.items c.put_item.new.out.items
    (extends_trans c.args.out.now.items c.add_names.new.out.items c.put_instruction.new.out.items
    c.add_names.ensures.kept c.put_instruction.ensures.kept)
    (extends_more c.put_instruction.new.out.items c.put_item.new.out.items _ c.in_ok-put_item.ensures.appended)
