use Rattle.std.proofs.Common.{rules, ◌≡◌, ◌+◌, ◌-◌, ◌++◌, ◌∙◌, ap, sym, arith, take, length}
use Rattle.std.specs.Io.KnownBytes.{prepend_known}
use Rattle.std.proofs.Math.Seq.{take-length}
use Rattle.std.proofs.lemmas.Result.{err_from_is_err_and}
use Rattle.hp_outside.specs.WindowState.{part_of}
use Rattle.hp_outside.proofs.WindowLemmas.{length-part_of, part_of-front, part_of-further, rest_of_read, front_of_grown}
use Rattle.hp_outside.proofs.window.Window.fill.Goals as goal

-- a read that failed leaves what is kept
pub returns-in_err-count-clause-filled : goal.returns-in_err-count-clause-filled
returns-in_err-count-clause-filled g c =
    let same : part_of c.read_part.new.buffer.items c.make_room-self-inside.result
    (c.make_room-self-inside.result + (c.self.inside.end - c.self.inside.start))
    ≡ c.args.self.now.kept =
    part_of-front _ _ c.make_room-self-inside.result _ (omega arith) c.read_part.ensures.buffer.front
    ∙ c.make_room-self-inside.ensures.kept ∙ ap (λ w. w.kept) c.self.view_is in
    let p = err_from_is_err_and c.from_residual.result c.from_residual.ensures.1 in
    record {
      most = search rules;
      rest = λ i. prepend_known (sym same i) (sym c.in_err-count.ensures.read.left i);
      front = ap (take (length c.args.self.now.kept)) same ∙ take-length c.args.self.now.kept;
      count = search rules;
      end = search rules;
      kept = rw p.1 same;
      left = search rules;
      sound = search rules;
      failed = search rules;
    }

-- a read puts what it gives behind what is kept
pub returns-clause-filled : goal.returns-clause-filled
returns-clause-filled g c =
    let more : part_of c.read_part.new.buffer.items c.make_room-self-inside.result
    (c.make_room-self-inside.result + (c.self.inside.end - c.self.inside.start) + c.in_ok-count.count)
    ≡ c.args.self.now.kept
    ++ part_of c.read_part.new.buffer.items
    (c.make_room-self-inside.result + (c.self.inside.end - c.self.inside.start))
    (c.make_room-self-inside.result + (c.self.inside.end - c.self.inside.start) + c.in_ok-count.count) =
    part_of-further _ _ c.make_room-self-inside.result _ c.in_ok-count.count (omega arith)
    c.read_part.ensures.buffer.front
    ∙ ap (λ l. l
    ++ part_of c.read_part.new.buffer.items (c.make_room-self-inside.result + (c.self.inside.end - c.self.inside.start))
    (c.make_room-self-inside.result + (c.self.inside.end - c.self.inside.start) + c.in_ok-count.count))
    (c.make_room-self-inside.ensures.kept
    ∙ ap (λ w. w.kept) c.self.view_is) in
    let inside = c.self.inside in
    let old : length c.args.self.now.kept ≡ inside.end - inside.start =
    ap (λ w. length w.kept) (sym c.self.view_is)
    ∙ length-part_of inside.buffer.items inside.start inside.end (omega arith) in
    let new =
    length-part_of c.read_part.new.buffer.items c.make_room-self-inside.result
    (c.make_room-self-inside.result + (inside.end - inside.start) + c.in_ok-count.count)
    (omega (arith, c.in_ok-count.ensures.read.count, c.read_part.ensures.buffer.len)) in
    record {
      most = search rules;
      rest = rest_of_read _ _ _ _ _ c.in_ok-count.ensures.read.taken more;
      front = front_of_grown _ _ _ more;
      count = (omega (arith, c.in_ok-count.ensures.read.count), omega (arith, old, new));
      end = search rules;
      kept = tt;
      left = tt;
      sound = search rules;
      failed = tt;
    }
