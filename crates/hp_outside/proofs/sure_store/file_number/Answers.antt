use Rattle.std.proofs.Common.{◌≡◌, ◌<◌, ◌∙◌, false, true, length, nat_eq, get_or, ◌≤◌, rules}
use Rattle.std.specs.Cmp.Lexicographic.{pointwise}
use Rattle.hp_outside.proofs.HeldFilesLemmas.{file_of-drop, file_of-drop_all}
use Rattle.hp_outside.proofs.sure_store.file_number.Goals as goal

pub returns-then-eq : goal.returns-then-eq
returns-then-eq c =
    let within : c.loop-number.number < length c.args.files.now.items = search rules in
    let is : c.file-item.result ≡ get_or c.args.files.now.items c.loop-number.number c.file-item.result =
    rw (← c.deref-file-items.ensures.value) c.file-item.is in
    let same : true ≡ pointwise nat_eq c.file-item.result.name.items c.args.name.now =
    rw (← c.as_slice.ensures.value) c.if-eq.ensures in
    (within, c.loop-number.invariant ∙ file_of-drop _ _ _ _ true within is same)

pub loop-number-preserved : goal.loop-number-preserved
loop-number-preserved c =
    let within : c.loop-number.number < length c.args.files.now.items = search rules in
    let is : c.file-item.result ≡ get_or c.args.files.now.items c.loop-number.number c.file-item.result =
    rw (← c.deref-file-items.ensures.value) c.file-item.is in
    let same : false ≡ pointwise nat_eq c.file-item.result.name.items c.args.name.now =
    rw (← c.as_slice.ensures.value) c.if-eq.ensures in
    c.loop-number.invariant ∙ file_of-drop _ _ _ _ false within is same

pub returns : goal.returns
returns c =
    let past : length c.args.files.now.items ≤ c.loop-number.number = search rules in
    c.loop-number.invariant ∙ file_of-drop_all _ _ _ past
