use Rattle.std.proofs.Common.{◌≡◌, ℕ, false, List, ◌++◌, Option, refl, sym, ap, ◌∙◌}
use Rattle.std.specs.Prelude.{slice_get}
use Rattle.std.specs.List.{prefix_len}
use Rattle.std.specs.Option.{option_map_or}
use Rattle.std.proofs.lemmas.Option.{slice_get_past, slice_get_read}
use Rattle.ht_trace.specs.declared.frame.FrameAt.{FrameAt}
use Rattle.ht_trace.specs.StackFrames.{outer_frames, stack_frames}
use Rattle.ht_trace.specs.TableState.{TableState}
use Rattle.massif_tree.specs.FunctionLists.{is_ignored, is_listed}
use Rattle.massif_tree.proofs.Listed.{ignored-is, ignored-own}
use Rattle.massif_tree.proofs.function_lists.is_ignored.Goals as goal

-- the answer is that of the first frame which is left of the stack's frames
by-all : (tables : TableState) (alloc_names ignore_names : List (List ℕ)) (stack n : ℕ) (frames : List FrameAt)
    (found : Option FrameAt) → slice_get frames n ≡ found → frames ≡ stack_frames tables.instructions tables.nodes stack
    → n ≡ prefix_len (is_listed tables alloc_names) frames
    → option_map_or (is_listed tables ignore_names) found false ≡ is_ignored tables alloc_names ignore_names stack
by-all tables alloc_names ignore_names stack n frames found at are front =
    ap (λ (f : Option FrameAt). option_map_or (is_listed tables ignore_names) f false) (sym at)
    ∙ sym (ignored-is tables alloc_names ignore_names stack n frames are front)

pub returns-in-Some : goal.returns-in-Some
returns-in-Some g c = record {
  ignored = λ alloc_names ignore_names alloc_are ignore_are.
      let tables = c.args.tables.now in
      let outer : List FrameAt = outer_frames tables.instructions tables.nodes c.in_ok-own_frames_into.field-0 in
      c.is_listed.ensures.listed ignore_names ignore_are
      ∙ ap (λ (found : Option FrameAt). option_map_or (is_listed tables ignore_names) found false)
      (sym (slice_get_read c.deref-2.result.now _ c.listed_front-front.result c.in-Some.at.now refl
      c.in-Some.ensures.lookup.3.0 c.in-Some.ensures.lookup.1))
      ∙ sym (ignored-own tables alloc_names ignore_names c.args.stack c.listed_front-front.result c.deref-2.result.now
      outer
      (c.in_ok-own_frames_into.ensures.frames ∙ ap (λ (own : List FrameAt). own ++ outer) (sym c.deref-2.ensures.value))
      (c.listed_front-front.ensures.front alloc_names alloc_are
      ∙ ap (λ (frames : List FrameAt). prefix_len (is_listed tables alloc_names) frames)
      (c.deref.ensures.value ∙ sym c.deref-2.ensures.value))
      c.in-Some.ensures.lookup.3.0);
}

pub returns-in-Some-get : goal.returns-in-Some-get
returns-in-Some-get g c = record {
  ignored = λ alloc_names ignore_names alloc_are ignore_are.
      c.is_listed-in-Some-get.ensures.listed ignore_names ignore_are
      ∙ by-all c.args.tables.now alloc_names ignore_names c.args.stack c.listed_front-front-2.result c.deref-4.result.now
      _ (slice_get_read c.deref-4.result.now _ c.listed_front-front-2.result c.in-Some-get.at.now refl
      c.in-Some-get.ensures.lookup.3.0 c.in-Some-get.ensures.lookup.1)
      (c.deref-4.ensures.value ∙ c.in_ok-frames_into.ensures.of_tables)
      (c.listed_front-front-2.ensures.front alloc_names alloc_are
      ∙ ap (λ (frames : List FrameAt). prefix_len (is_listed c.args.tables.now alloc_names) frames)
      (c.deref-3.ensures.value ∙ sym c.deref-4.ensures.value));
}

pub returns-in-None : goal.returns-in-None
returns-in-None g c = record {
  ignored = λ alloc_names ignore_names alloc_are ignore_are.
      by-all c.args.tables.now alloc_names ignore_names c.args.stack c.listed_front-front-2.result c.deref-4.result.now
      _ (slice_get_past c.deref-4.result.now c.listed_front-front-2.result c.in-None.ensures.lookup.3)
      (c.deref-4.ensures.value ∙ c.in_ok-frames_into.ensures.of_tables)
      (c.listed_front-front-2.ensures.front alloc_names alloc_are
      ∙ ap (λ (frames : List FrameAt). prefix_len (is_listed c.args.tables.now alloc_names) frames)
      (c.deref-3.ensures.value ∙ sym c.deref-4.ensures.value));
}
