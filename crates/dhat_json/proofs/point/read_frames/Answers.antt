use Rattle.std.proofs.Common.{◌+◌, ℕ, List, [], ◌∷◌, ◌++◌, Some, arith, sym, ap, ◌∙◌, subst}
use Rattle.std.proofs.lemmas.Result.{err_from_is_err_and}
use Rattle.dhat_json.specs.DataOf.{data_of}
use Rattle.dhat_json.specs.declared.key.Key.TheVariants.{Fs}
use Rattle.dhat_json.specs.DhatFault.{frame_finding, needed}
use Rattle.dhat_json.specs.Kinds.{as_list}
use Rattle.dhat_json.specs.ProfileIn.{list_at, whole_in}
use Rattle.dhat_json.proofs.Findings.{fault_follows}
use Rattle.dhat_json.proofs.ValueLists.{Passed, passed_none, passed_more, list_refused, list_read}
use Rattle.dhat_json.proofs.point.read_frames.Goals as goal

pub loop-frame-preserved : goal.loop-frame-preserved
loop-frame-preserved c =
    let l = c.loop-frame in
    let values = c.in_ok-values.values.now in
    let x = c.frame-item.result in
    let read = c.in_ok-read_frame.ensures in
    let P : List ℕ → Type 0 =
    λ frames. Passed (frame_finding c.args.number c.args.frames) whole_in values (l.frame-index + 1) frames in
    let more =
    passed_more (frame_finding c.args.number c.args.frames) whole_in values l.frame-index l.list x (omega arith)
    c.frame-item.is l.invariant read.0 in
    subst P (sym (c.in_ok-push.ensures.appended ∙ ap (λ (frame : ℕ). l.list ++ frame ∷ []) read.1)) more

pub loop-frame-init : goal.loop-frame-init
loop-frame-init c =
    rw c.new-list.ensures.empty
    (passed_none (frame_finding c.args.number c.args.frames) whole_in c.in_ok-values.values.now)

pub returns-in_err-read_frame : goal.returns-in_err-read_frame
returns-in_err-read_frame c =
    let l = c.loop-frame in
    let d = data_of c.args.value.now in
    let number = c.args.number in
    let frames = c.args.frames in
    let p = err_from_is_err_and c.from_residual-in_err-read_frame.result c.from_residual-in_err-read_frame.ensures.1 in
    let fault = c.in_err-read_frame.field-0.0 in
    let list = c.in_ok-values.ensures.ok in
    rw (p.1, p.2) (fault_follows _ _ fault c.in_err-read_frame.ensures (λ found.
    list_refused (needed as_list (Some number) Fs d) (frame_finding number frames) whole_in c.in_ok-values.values.now
    (list_at Fs d) l.frame-index l.list c.frame-item.result fault list.0 list.1 (omega arith) c.frame-item.is
    l.invariant found))

pub returns-in_err-push : goal.returns-in_err-push
returns-in_err-push c =
    let p = err_from_is_err_and c.from_residual-in_err-push.result c.from_residual-in_err-push.ensures.1 in
    rw (p.1, p.2) tt

pub returns : goal.returns
returns c =
    let l = c.loop-frame in
    let d = data_of c.args.value.now in
    let number = c.args.number in
    let frames = c.args.frames in
    let list = c.in_ok-values.ensures.ok in
    list_read (needed as_list (Some number) Fs d) (frame_finding number frames) whole_in c.in_ok-values.values.now
    (list_at Fs d) l.frame-index l.list list.0 list.1 (omega arith) l.invariant
