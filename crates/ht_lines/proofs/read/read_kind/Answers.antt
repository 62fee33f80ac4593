-- Each kind is read by its call, and the tail of an instruction is the same in each version.
use Rattle.std.proofs.Common.{refl}
use Rattle.ht_lines.specs.Reading.{reading_kind}
use Rattle.ht_lines.proofs.read.read_kind.Goals as goal

pub returns-in-105-clause-tail : goal.returns-in-105-clause-tail
returns-in-105-clause-tail c = c.read_instruction.ensures.tail c.args.version

pub returns-in-118-clause-exact : goal.returns-in-118-clause-exact
unfolding reading_kind
returns-in-118-clause-exact c = rw c.in-118.is c.read_version.ensures.exact

pub returns-in-73-clause-exact : goal.returns-in-73-clause-exact
unfolding reading_kind
returns-in-73-clause-exact c = rw c.in-73.is c.read_system.ensures.exact

pub returns-in-109-clause-exact : goal.returns-in-109-clause-exact
unfolding reading_kind
returns-in-109-clause-exact c = rw c.in-109.is c.read_module.ensures.exact

pub returns-in-105-clause-exact : goal.returns-in-105-clause-exact
unfolding reading_kind
returns-in-105-clause-exact c = rw c.in-105.is c.read_instruction.ensures.exact

pub returns-in-116-clause-exact : goal.returns-in-116-clause-exact
unfolding reading_kind
returns-in-116-clause-exact c = rw c.in-116.is c.read_node.ensures.exact

pub returns-in-97-clause-exact : goal.returns-in-97-clause-exact
unfolding reading_kind
returns-in-97-clause-exact c = rw c.in-97.is c.read_info.ensures.exact

pub returns-in-43-clause-exact : goal.returns-in-43-clause-exact
unfolding reading_kind
returns-in-43-clause-exact c = rw c.in-43.is c.read_allocation.ensures.exact

pub returns-in-45-clause-exact : goal.returns-in-45-clause-exact
unfolding reading_kind
returns-in-45-clause-exact c = rw c.in-45.is c.read_free.ensures.exact

pub returns-in-99-clause-exact : goal.returns-in-99-clause-exact
unfolding reading_kind
returns-in-99-clause-exact c = rw c.in-99.is c.read_clock.ensures.exact

pub returns-in-82-clause-exact : goal.returns-in-82-clause-exact
unfolding reading_kind
returns-in-82-clause-exact c = rw c.in-82.is c.read_resident.ensures.exact

pub returns-in-120-clause-exact : goal.returns-in-120-clause-exact
unfolding reading_kind
returns-in-120-clause-exact c = rw (c.in-120.is, c.text_of.ensures) refl

pub returns-in-88-clause-exact : goal.returns-in-88-clause-exact
unfolding reading_kind
returns-in-88-clause-exact c = rw (c.in-88.is, c.text_of-in-88.ensures) refl

pub returns-in-83-clause-exact : goal.returns-in-83-clause-exact
unfolding reading_kind
returns-in-83-clause-exact c = rw (c.in-83.is, c.text_of-in-83.ensures) refl

pub returns-in-115-clause-exact : goal.returns-in-115-clause-exact
unfolding reading_kind
returns-in-115-clause-exact c = rw (c.in-115.is, c.text_of-in-115.ensures) refl
