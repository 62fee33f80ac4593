use Rattle.std.proofs.Common.{◌≡◌, ◌≢◌, ℕ, ◌+◌, List, [], get_or, length, map, refl, ap, ◌∙◌, sym, subst, arith}
use Rattle.std.specs.Prelude.{All}
use Rattle.std.proofs.lemmas.Bool.{false≢true}
use Rattle.std.proofs.lemmas.List.Elements.{All-nil, All-weaker}
use Rattle.std.proofs.lemmas.Result.{IfOk-weaker}
use Rattle.dhat_trace.specs.declared.segment.Segment.{Segment}
use Rattle.dhat_trace.specs.FrameTable.{AddsTexts, frame_texts, profile_frame}
use Rattle.dhat_trace.specs.KnownPlaces.{HavePlaces}
use Rattle.dhat_trace.proofs.KnownLemmas.{known_later, outer_are, outer_none}
use Rattle.dhat_trace.proofs.SegmentLemmas.{IsBegun, adds_outwards, begun_here, begun_more, begun_noted, gathered}
use Rattle.dhat_trace.proofs.SegmentLemmas.{root_gathered, told_outer}
use Rattle.dhat_trace.proofs.frame_table.FrameTable.gather.Goals as goal

pub returns-then-stack-eq0-clause-known : goal.returns-then-stack-eq0-clause-known
returns-then-stack-eq0-clause-known c =
    known_later _ (length c.args.tables.now.instructions + 1) c.args.self.now.texts c.push_places.new.texts
    c.args.self.now.known c.in_ok-push_places.ensures.gains.added.keeps c.requires.known

pub returns-then-stack-eq0-clause-gathered : goal.returns-then-stack-eq0-clause-gathered
unfolding frame_texts
returns-then-stack-eq0-clause-gathered c =
    let texts =
    ap (map (profile_frame c.args.tables.now)) (c.deref.ensures.value ∙ c.in_ok-frames_into.ensures.of_tables) in
    root_gathered c.args.tables.now c.args.stack c.args.self.now.texts _ c.push_places.new.texts c.clear.new.self.items
    c.push_places.new.places.items _ c.clear-2.new.self.items
    texts c.clear.ensures.items c.clear-2.ensures.items refl c.in_ok-push_places.ensures.gains

pub outwards-init : goal.outwards-init
outwards-init c =
    let tables = c.args.tables.now in
    let none : 0 ≡ length c.clear.new.self.items = ap (λ (ps : List ℕ). length ps) (sym c.clear.ensures.items) in
    record {
      held = c.requires.held;
      known = c.requires.known;
      told = c.requires.told;
      adds =
          λ later added. subst (λ (texts : List (List ℕ)). AddsTexts c.args.self.now.texts texts later)
          (outer_are tables c.args.stack c.if-stack-eq0.false) added;
      first =
          begun_here tables c.args.self.now.texts c.args.stack c.clear.new.self.items 0 c.if-stack-eq0.false
          c.requires.held none;
      segments =
          subst (All (IsBegun tables c.args.self.now.texts c.args.stack c.clear.new.self.items))
          (sym c.clear-2.ensures.items) (All-nil _);
    }

pub outwards-preserved : goal.outwards-preserved
outwards-preserved c =
    let tables = c.args.tables.now in
    let at = c.outwards.at in
    let texts = c.outwards.self.texts in
    let places = c.outwards.places.items in
    let own = c.of.result.now in
    let more = c.extend_from_slice.new.self.items in
    let new = c.learn.new.self.texts in
    let instruction = c.in-Some.instruction in
    let caller = c.in-Some.caller in
    let some : at ≢ 0 = omega (arith, c.in-Some.ensures.lower) in
    let added = c.in_ok-learn.ensures.added in
    let here = begun_here tables texts at places c.len.result some c.outwards.invariant.held (omega arith) in
    let next : (segment : Segment) → IsBegun tables texts at places segment → IsBegun tables new caller more segment =
    λ segment begun.
    begun_more tables texts new at instruction caller places own more segment some c.in-Some.ensures.frames added.keeps
    (c.in_ok-learn.ensures.told own c.of.ensures) c.in_ok-extend_from_slice.ensures.items begun in
    record {
      held = omega (arith, c.in-Some.ensures.lower, c.outwards.invariant.held);
      known = c.in_ok-learn.ensures.known;
      told =
          known_later (frame_texts tables) (length tables.nodes + 1) texts new c.args.told.now added.keeps
          c.outwards.invariant.told;
      adds =
          adds_outwards tables c.args.self.now.texts texts new c.args.stack at instruction caller some
          c.in-Some.ensures.frames c.outwards.invariant.adds added;
      first = next (record { stack = c.args.stack; start = 0 }) c.outwards.invariant.first;
      segments =
          All-weaker (IsBegun tables texts at places) (IsBegun tables new caller more) next _
          (begun_noted (IsBegun tables texts at places) c.outwards.segments.items c.note_segment.new.segments.items _
          c.in_ok-note_segment.ensures c.outwards.invariant.segments here);
    }

pub returns-clause-gathered : goal.returns-clause-gathered
returns-clause-gathered c =
    let tables = c.args.tables.now in
    let texts = c.outwards.self.texts in
    let none =
    outer_none tables c.outwards.at (λ held. false≢true (c.in_default.ensures.found.1 held))
    c.outwards.invariant.held in
    gathered tables c.args.stack c.args.self.now.texts texts c.outwards.at c.outwards.places.items [] _
    c.outwards.segments.items c.outwards.invariant.adds c.outwards.invariant.first c.outwards.invariant.segments
    (subst (λ (outer : List (List ℕ)). HavePlaces texts outer []) (sym none) tt) refl

-- a stack that was told before
pub returns-then-count-gt0-clause-gathered : goal.returns-then-count-gt0-clause-gathered
returns-then-count-gt0-clause-gathered c =
    let tables = c.args.tables.now in
    let at = c.outwards.at in
    let texts = c.outwards.self.texts in
    let told = c.args.told.now in
    let some : at ≢ 0 = omega (arith, c.in-Some.ensures.lower) in
    let outer =
    told_outer tables texts told at some c.outwards.invariant.held c.outwards.invariant.told
    (omega (arith, c.count.ensures.count, c.if-count-gt0.true)) in
    IfOk-weaker c.go_on.result _ _
    (λ next whole. gathered tables c.args.stack c.args.self.now.texts texts at c.outwards.places.items
    (get_or told at []) _ c.outwards.segments.items
    c.outwards.invariant.adds c.outwards.invariant.first c.outwards.invariant.segments outer whole)
    c.go_on.ensures.whole
