use Rattle.std.proofs.Common.{◌+◌, ℕ, None, List, [], ◌∷◌, ◌++◌, All, arith, sym, ap, ◌∙◌, subst}
use Rattle.std.specs.Prelude.{IsUtf8}
use Rattle.std.proofs.lemmas.Result.{err_from_is_err_and}
use Rattle.std.proofs.lemmas.List.Elements.{All-nil, All-push}
use Rattle.serde_json.specs.Find.{as_str}
use Rattle.dhat_json.specs.DataOf.{data_of}
use Rattle.dhat_json.specs.declared.key.Key.TheVariants.{Ftbl}
use Rattle.dhat_json.specs.DhatFault.{needed, other_kind}
use Rattle.dhat_json.specs.Kinds.{as_list}
use Rattle.dhat_json.specs.ProfileIn.{list_at, text_in}
use Rattle.dhat_json.proofs.Findings.{fault_follows}
use Rattle.dhat_json.proofs.ValueLists.{Passed, passed_none, passed_more, list_refused, list_read}
use Rattle.dhat_json.proofs.reader.read_table.Goals as goal

pub loop-text-preserved : goal.loop-text-preserved
loop-text-preserved c =
    let l = c.loop-text in
    let values = c.in_ok-values.values.now in
    let x = c.text-item.result in
    let read = c.in_ok-read_entry.ensures.read in
    let P : List (List ℕ) → Type 0 =
    λ texts. Passed (other_kind as_str None Ftbl) text_in values (l.text-index + 1) texts × All IsUtf8 texts in
    let more =
    passed_more (other_kind as_str None Ftbl) text_in values l.text-index l.texts x (omega arith) c.text-item.is
    l.invariant.0 read.0 in
    let utf8 : IsUtf8 (text_in (data_of x)) = subst IsUtf8 read.1 c.in_ok-read_entry.ensures.utf8 in
    subst P (sym (c.in_ok-push.ensures.appended ∙ ap (λ (text : List ℕ). l.texts ++ text ∷ []) read.1))
    (more, All-push IsUtf8 l.texts (text_in (data_of x)) l.invariant.1 utf8)

pub loop-text-init : goal.loop-text-init
loop-text-init c =
    let empty = c.new-texts.ensures.empty in (
      rw empty (passed_none (other_kind as_str None Ftbl) text_in c.in_ok-values.values.now),
      subst (All IsUtf8) (sym empty) (All-nil IsUtf8),
    )

pub returns-in_err-read_entry-clause-read : goal.returns-in_err-read_entry-clause-read
returns-in_err-read_entry-clause-read c =
    let l = c.loop-text in
    let d = data_of c.args.value.now in
    let p = err_from_is_err_and c.from_residual-in_err-read_entry.result c.from_residual-in_err-read_entry.ensures.1 in
    let fault = c.in_err-read_entry.field-0.0 in
    let list = c.in_ok-values.ensures.ok in
    rw (p.1, p.2) (fault_follows _ _ fault c.in_err-read_entry.ensures.read (λ found.
    list_refused (needed as_list None Ftbl d) (other_kind as_str None Ftbl) text_in c.in_ok-values.values.now
    (list_at Ftbl d) l.text-index l.texts c.text-item.result fault list.0 list.1 (omega arith) c.text-item.is
    l.invariant.0 found))

pub returns-in_err-push-clause-read : goal.returns-in_err-push-clause-read
returns-in_err-push-clause-read c =
    let p = err_from_is_err_and c.from_residual-in_err-push.result c.from_residual-in_err-push.ensures.1 in
    rw (p.1, p.2) tt

pub returns-clause-read : goal.returns-clause-read
returns-clause-read c =
    let l = c.loop-text in
    let d = data_of c.args.value.now in
    let list = c.in_ok-values.ensures.ok in
    list_read (needed as_list None Ftbl d) (other_kind as_str None Ftbl) text_in c.in_ok-values.values.now
    (list_at Ftbl d) l.text-index l.texts list.0 list.1 (omega arith) l.invariant.0
