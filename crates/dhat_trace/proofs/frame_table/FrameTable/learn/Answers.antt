use Rattle.std.proofs.Common.{◌≡◌, ◌+◌, ◌<◌, [], length, refl, ◌∙◌, sym, subst, arith}
use Rattle.std.proofs.lemmas.Grind.{get_or-set_at}
use Rattle.std.proofs.lemmas.Option.{get_or_from_slice_get}
use Rattle.std.proofs.lemmas.Result.{on_ok_weaker}
use Rattle.dhat_trace.specs.KnownPlaces.{AreKnown, HavePlaces, instruction_texts}
use Rattle.dhat_trace.proofs.KnownLemmas.{adds_known, known_later, known_more, made_places}
use Rattle.dhat_trace.proofs.frame_table.FrameTable.learn.Goals as goal
use Rattle.dhat_trace.proofs.frame_table.FrameTable.learn.Goals.{After-drop-places-2, Then-of-gt0}

-- the places that were known before
held : (c : Then-of-gt0)
    → HavePlaces c.args.self.now.texts (instruction_texts c.args.tables.now c.args.instruction) c.of.result.now
held c = c.requires.known.told c.args.instruction c.of.result.now c.of.ensures (omega (arith, c.if-of-gt0.true))

pub returns-then-of-gt0-clause-added : goal.returns-then-of-gt0-clause-added
returns-then-of-gt0-clause-added c =
    adds_known c.args.self.now.texts (instruction_texts c.args.tables.now c.args.instruction) c.of.result.now (held c)

pub returns-then-of-gt0-clause-told : goal.returns-then-of-gt0-clause-told
returns-then-of-gt0-clause-told c = λ places is.
    let before = c.of.ensures in
    let same : c.of.result.now ≡ places = cc in
    subst (HavePlaces c.args.self.now.texts (instruction_texts c.args.tables.now c.args.instruction)) same (held c)

-- those that were made
made : (c : After-drop-places-2)
    → HavePlaces c.push_places.new.texts (instruction_texts c.args.tables.now c.args.instruction) c.deref-2.result.now
made c =
    made_places c.args.tables.now c.args.instruction c.args.self.now.texts c.push_places.new.texts c.deref.result.now
    c.new-places.result.items c.push_places.new.places.items c.deref-2.result.now
    (c.deref.ensures.value ∙ c.in_ok-instruction_frames_into.ensures.of_tables) c.new-places.ensures.items
    c.in_ok-push_places.ensures.gains c.deref-2.ensures.value

pub returns-clause-known : goal.returns-clause-known
returns-clause-known c =
    let known = c.args.self.now.known in
    on_ok_weaker c.set.result
    (λ is.
    subst (AreKnown c.args.tables.now c.push_places.new.texts) (sym is)
    (known_more (instruction_texts c.args.tables.now) (length c.args.tables.now.instructions + 1)
    c.push_places.new.texts known c.args.instruction c.deref-2.result.now
    (known_later (instruction_texts c.args.tables.now) (length c.args.tables.now.instructions + 1) c.args.self.now.texts
    c.push_places.new.texts known c.in_ok-push_places.ensures.gains.added.keeps c.requires.known)
    (made c)))
    c.set.ensures

pub returns-clause-told : goal.returns-clause-told
returns-clause-told c =
    let known = c.args.self.now.known in
    let within : c.args.instruction < length known = omega (arith, c.requires.held, c.requires.known.count) in
    on_ok_weaker c.set.result
    (λ is. λ places there.
    let same : c.deref-2.result.now ≡ places =
    sym (get_or-set_at known c.args.instruction c.args.instruction c.deref-2.result.now [] refl within)
    ∙ get_or_from_slice_get _ c.args.instruction places [] (rw (← is) there) in
    subst (HavePlaces c.push_places.new.texts (instruction_texts c.args.tables.now c.args.instruction)) same (made c))
    c.set.ensures
