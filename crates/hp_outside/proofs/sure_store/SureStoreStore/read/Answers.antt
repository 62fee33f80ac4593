use Rattle.std.proofs.Common.{◌≡◌, ◌≤◌, ◌-◌, ◌∙◌, ap, sym, Some, Ok, length, length-drop, take, drop, arith}
use Rattle.hp_outside.specs.HeldFiles.{bytes_at, folder_of, left_at}
use Rattle.hp_outside.specs.SureStoreState.{read_count, after_read}
use Rattle.hp_outside.proofs.Known.{front_of_read, rest_of}
use Rattle.hp_outside.proofs.HeldFilesLemmas.{bytes_at-here, left_at-here, read_count-here, after_read-here}
use Rattle.hp_outside.proofs.HeldFilesLemmas.{within-moved, nothing_left}
use Rattle.hp_outside.proofs.sure_store.SureStoreStore.read.Goals as goal

-- the bytes of the current file
here : (c : goal.After-self-1) → c.as_slice.result.now ≡ bytes_at c.self.inside.files.items c.in-Some.place.file
here c =
    c.as_slice.ensures.value ∙ bytes_at-here _ _ _ (c.self.invariant.1 c.in-Some.place c.in-Some.is).0 c.index.ensures

counted : (c : goal.After-self-1)
    → c.min-count.result
    ≡ read_count
    (record {
      folder = folder_of c.self.inside.files.items;
      piece = c.self.inside.piece;
      opens = c.self.inside.opens;
      left = left_at c.self.inside.files.items c.self.inside.place;
    })
    (length c.args.buf.now)
counted c =
    read_count-here c.self.inside.files.items c.self.inside.place c.in-Some.place c.self.inside.piece
    c.self.inside.opens (length c.args.buf.now) c.min.result c.min-count.result c.as_slice.result.now
    c.in-Some.is (here c) c.min.ensures c.min-count.ensures

pub invariant_of-self : goal.invariant_of-self
invariant_of-self c =
    let within = c.self.invariant.1 c.in-Some.place c.in-Some.is in (
      c.self.invariant.0,
      within-moved c.self.inside.files.items c.in-Some.place c.min-count.result within.0
          (omega (
            arith,
            within.1,
            ap length (here c),
            ap length (rest_of c.as_slice.result.now c.in-Some.place.at),
            length-drop c.in-Some.place.at c.as_slice.result.now,
            c.min-count.ensures,
          )),
    )

pub returns-clause-answer : goal.returns-clause-answer
returns-clause-answer c = ap Ok (counted c ∙ ap (λ s. read_count s (length c.args.buf.now)) c.self.view_is)

pub returns-clause-after : goal.returns-clause-after
returns-clause-after c =
    after_read-here c.self.inside.files.items c.self.inside.place c.in-Some.place c.self.inside.piece
    c.self.inside.opens (length c.args.buf.now) c.min-count.result c.in-Some.is (counted c)
    ∙ ap (λ s. after_read s (length c.args.buf.now)) c.self.view_is

pub returns-clause-end : goal.returns-clause-end
returns-clause-end c = λ none value told.
    let rest =
    take (length c.as_slice.result.now - c.in-Some.place.at) (drop c.in-Some.place.at c.as_slice.result.now) in
    let left : c.args.self.now.left ≡ Some rest =
    ap (λ s. s.left) (sym c.self.view_is) ∙ left_at-here _ _ _ c.in-Some.is
    ∙ ap (λ b. Some (drop c.in-Some.place.at b)) (sym (here c))
    ∙ ap Some (sym (rest_of c.as_slice.result.now c.in-Some.place.at)) in
    nothing_left rest value c.args.self.now.left c.min.result c.min-count.result left
    (omega (arith, c.min.ensures, c.self.invariant.0, c.requires.room)) c.min-count.ensures none told

pub returns-clause-taken : goal.returns-clause-taken
returns-clause-taken c =
    let bytes = here c in
    let fits : c.min-count.result
    ≤ length
    (take (length c.as_slice.result.now - c.in-Some.place.at)
    (drop c.in-Some.place.at c.as_slice.result.now)) = omega
    arith in
    let copied = rw bytes at c.copy_from_slice.ensures.after in
    let within = rw bytes at fits in
    ap (λ s. s.left) (sym c.self.view_is) ∙ left_at-here _ _ _ c.in-Some.is
    ∙ ap Some (sym (front_of_read _ _ _ _ _ copied within))
