use Rattle.std.proofs.Common.{◌≡◌, ◌<◌, ◌≤◌, List, Ok, length, ap, ◌∙◌, sym, subst, map, string_bytes, arith}
use Rattle.std.proofs.lemmas.Result.{IfOk-weaker}
use Rattle.std.proofs.lemmas.List.Elements.{All-weaker}
use Rattle.std.specs.Prelude.{All}
use Rattle.dhat_json.specs.declared.profile.Dhat.{Dhat}
use Rattle.dhat_json.specs.Begun.{with_points}
use Rattle.dhat_json.specs.DhatValue.{dhat_text}
use Rattle.dhat_json.specs.Document.{document_of}
use Rattle.dhat_json.specs.IsSound.{IsSound}
use Rattle.live_ledger.specs.declared.totals.Totals.{Totals}
use Rattle.live_ledger.specs.LedgerState.{LedgerState}
use Rattle.dhat_trace.specs.declared.points.CalledStack.{CalledStack}
use Rattle.dhat_trace.specs.DhatOf.{profile_of}
use Rattle.dhat_trace.specs.PointFigures.{figures_of}
use Rattle.dhat_trace.specs.Points.{points_in}
use Rattle.dhat_trace.proofs.PointLists.{called_held}
use Rattle.dhat_trace.proofs.ProfileLemmas.{profile_is, profile_sound, texts_writable, trace_is}
use Rattle.dhat_trace.proofs.profile.trace_profile_text.Goals as goal
use Rattle.dhat_trace.proofs.profile.trace_profile_text.Goals.{After-drop-stacks-2}

pub told_stacks-requires : goal.told_stacks-requires
told_stacks-requires c =
    let figures = figures_of c.args.peaks c.args.lifetimes in
    record {
      held =
          subst (λ (items : List CalledStack). All (λ (s : CalledStack). s.stack ≤ length c.args.tables.nodes) items)
          (sym (c.deref.ensures.value ∙ c.in-Ok.ensures))
          (called_held figures c.args.peaks.ledger.stacks (length c.args.tables.nodes) c.requires.peaks);
    }

pub written-requires-clause-texts : goal.written-requires-clause-texts
written-requires-clause-texts c =
    texts_writable c.args.tables _ _ (map (λ (s : CalledStack). s.stack) c.deref.result.now) c.in_ok-head.head
    c.in_ok-told.told.cmd c.in_ok-told.told.ftbl
    c.in_ok-head.ensures c.in_ok-told.ensures.cmd c.in_ok-told.ensures.backtraces.table_is

pub written-requires-clause-held : goal.written-requires-clause-held
written-requires-clause-held c =
    let figures = figures_of c.args.peaks c.args.lifetimes in
    let count = c.in_ok-told.ensures.backtraces.told_are.count in
    subst (λ (items : List CalledStack). All (λ (s : CalledStack). s.stack < length c.in_ok-told.told.backtraces) items)
    (sym (c.deref-2.ensures.value ∙ c.in-Ok.ensures))
    (All-weaker (λ (s : CalledStack). s.stack ≤ length c.args.tables.nodes)
    (λ (s : CalledStack). s.stack < length c.in_ok-told.told.backtraces) (λ s held. omega (arith, held, count))
    _ (called_held figures c.args.peaks.ledger.stacks (length c.args.tables.nodes) c.requires.peaks))

-- what was put together
whole : (c : After-drop-stacks-2)
    → with_points c.in_ok-head.head (points_in c.deref-2.result.now c.in_ok-told.told.backtraces)
    ≡ profile_of c.args.tables c.args.peaks.ledger.totals.events c.args.peaks.moment
    (figures_of c.args.peaks c.args.lifetimes)
whole c =
    let last : c.totals-te.result.events ≡ c.args.peaks.ledger.totals.events =
    ap (λ (t : Totals). t.events) c.totals-te.ensures.value
    ∙ ap (λ (l : LedgerState). l.totals.events) c.ledger.ensures in
    let items = c.deref-2.ensures.value ∙ c.in-Ok.ensures in
    let same = c.deref.ensures.value ∙ sym c.deref-2.ensures.value in
    profile_is c.args.tables c.args.peaks c.args.lifetimes c.totals-te.result.events c.peak_moment-tg.result
    c.in_ok-head.head c.in_ok-told.told.cmd c.in_ok-told.told.ftbl c.in_ok-told.told.backtraces c.deref-2.result.now
    last c.peak_moment-tg.ensures.value c.requires.peaks c.in_ok-head.ensures c.in_ok-told.ensures.cmd items
    (rw (← same) c.in_ok-told.ensures.backtraces)

pub returns-clause-profile : goal.returns-clause-profile
returns-clause-profile c =
    IfOk-weaker c.written.result _ _ (λ text is. is ∙ ap dhat_text (whole c)) c.written.ensures.text

pub returns-clause-trace : goal.returns-clause-trace
returns-clause-trace c = IfOk-weaker c.written.result _ _
    (λ text is. λ events by_peaks by_lives. is
    ∙ ap dhat_text (whole c ∙ trace_is c.args.tables c.args.peaks c.args.lifetimes events by_peaks by_lives))
    c.written.ensures.text

pub returns-clause-reads_back : goal.returns-clause-reads_back
returns-clause-reads_back c =
    let sound =
    profile_sound c.args.tables c.args.peaks c.args.lifetimes c.in_ok-told.told.ftbl c.in_ok-told.told.backtraces
    c.deref.result.now
    c.peak_moment-tg.ensures.sound.ledger c.requires.few c.requires.peaks (c.deref.ensures.value ∙ c.in-Ok.ensures)
    c.in_ok-told.ensures.backtraces in
    IfOk-weaker c.written.result _ _
    (λ text is. subst (λ (dhat : Dhat). IsSound dhat → document_of (string_bytes text) ≡ Ok dhat) (whole c) is sound)
    c.written.ensures.reads_back
