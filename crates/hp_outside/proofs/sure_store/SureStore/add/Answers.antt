use Rattle.std.proofs.Common.{◌≡◌, ◌∙◌, ap}
use Rattle.std.specs.FinMap.{insert}
use Rattle.hp_outside.specs.Folder.{file_of}
use Rattle.hp_outside.specs.HeldFiles.{folder_of}
use Rattle.hp_outside.proofs.HeldFilesLemmas.{within-pushed, folder_of-pushed, state-push, file_of-insert}
use Rattle.hp_outside.proofs.HeldFilesLemmas.{file_of-insert_other}
use Rattle.hp_outside.proofs.sure_store.SureStore.add.Goals as goal

-- the folder with the file that was added
added : (c : goal.In_ok-push)
    → folder_of c.push.new.self.items ≡ insert (folder_of c.self.inside.files.items) c.args.name.now c.args.bytes.now
added c =
    folder_of-pushed _ _ _ _ _ c.in_ok-push.ensures.items (c.in_ok-name.ensures.items ∙ c.as_bytes.ensures.value)
    c.in_ok-bytes.ensures.items
    (rw (← c.self.view_is) at c.requires)

pub returns-clause-added : goal.returns-clause-added
returns-clause-added c =
    rw (← c.self.view_is) (state-push _ _ _ _ _ _ _ c.in_ok-push.ensures.items (added c) c.self.invariant.1)

pub returns-clause-held : goal.returns-clause-held
returns-clause-held c = ap (λ folder. file_of folder c.args.name.now) (added c) ∙ file_of-insert _ _ _

pub returns-clause-others : goal.returns-clause-others
returns-clause-others c =
    rw (← c.self.view_is)
    (λ other apart. ap (λ folder. file_of folder other) (added c) ∙ file_of-insert_other _ _ _ other apart)

pub invariant_of-self-2 : goal.invariant_of-self-2
invariant_of-self-2 c = (c.self.invariant.0, within-pushed _ _ _ _ c.in_ok-push.ensures.items c.self.invariant.1)
