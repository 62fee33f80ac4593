use Rattle.std.proofs.Common.{◌≡◌, ◌∷◌, None, Some, sym, ap, ◌∙◌, arith, rules}
use Rattle.std.proofs.lemmas.Result.{err_from_is_err_and}
use Rattle.json.specs.Json as json
use Rattle.json.specs.Json.{parse_map, value}
use Rattle.json.specs.Reads.{token_of}
use Rattle.json.specs.Value.{value_view}
use Rattle.json.specs.declared.value.Value.{Null, Bool, String, Number, the_lemmas}
use Rattle.json.proofs.Grammar.{value_is}
use Rattle.serde_json.specs.Read.{converted, number_of, of_json}
use Rattle.dhat_json.specs.Ahead.{value_ahead}
use Rattle.dhat_json.specs.DataOf.{json_data}
use Rattle.dhat_json.specs.Outline.{hollow}
use Rattle.dhat_json.proofs.AheadLemmas.{boolean_ahead, empty_list, empty_object, hollow_array, hollow_number}
use Rattle.dhat_json.proofs.AheadLemmas.{hollow_object, no_array, no_object, null_ahead, number_in, number_out}
use Rattle.dhat_json.proofs.AheadLemmas.{string_ahead}
use Rattle.dhat_json.proofs.outline.outline_from.Goals as goal

pub returns-in-Null-clause-outlined : goal.returns-in-Null-clause-outlined
returns-in-Null-clause-outlined c =
    let ts = c.args.reader.now in
    let seen : value_view (Null) ≡ json.null = search (rules, the_lemmas) in
    ap (parse_map hollow) (ap (λ k. value_ahead 126 (token_of k ∷ ts)) c.in-Null.is ∙ null_ahead 126 ts)
    ∙ ap (λ j. Some (json_data j, ts)) (sym seen)

pub returns-in-Bool-clause-outlined : goal.returns-in-Bool-clause-outlined
returns-in-Bool-clause-outlined c =
    let ts = c.args.reader.now in
    let seen : value_view (Bool c.in-Bool.flag) ≡ json.boolean c.in-Bool.flag = search (rules, the_lemmas) in
    ap (parse_map hollow) (ap (λ k. value_ahead 126 (token_of k ∷ ts)) c.in-Bool.is ∙ boolean_ahead 126 _ ts)
    ∙ ap (λ j. Some (json_data j, ts)) (sym seen)

pub returns-in-String-clause-outlined : goal.returns-in-String-clause-outlined
returns-in-String-clause-outlined c =
    let ts = c.args.reader.now in
    let seen : value_view (String c.in-String.text) ≡ json.string c.in-String.text.now = search (rules, the_lemmas) in
    ap (parse_map hollow) (ap (λ k. value_ahead 126 (token_of k ∷ ts)) c.in-String.is ∙ string_ahead 126 _ ts)
    ∙ ap (λ j. Some (json_data j, ts)) (sym seen)

pub returns-then-is_in_range-clause-outlined : goal.returns-then-is_in_range-clause-outlined
returns-then-is_in_range-clause-outlined c =
    let ts = c.args.reader.now in
    let s = c.in-Number.text.now in
    let seen : value_view (Number c.in-Number.text) ≡ json.number s = search (rules, the_lemmas) in
    let read =
    ap (λ k. value_ahead 126 (token_of k ∷ ts)) c.in-Number.is
    ∙ number_in 126 s ts (sym c.is_in_range.ensures ∙ c.if-is_in_range.true) in
    ap (parse_map hollow) read ∙ ap (λ d. Some (d, ts)) (hollow_number (number_of s))
    ∙ ap (λ j. Some (json_data j, ts)) (sym seen)

pub returns-else-is_in_range-clause-outlined : goal.returns-else-is_in_range-clause-outlined
returns-else-is_in_range-clause-outlined c =
    let ts = c.args.reader.now in
    ap (λ k. value_ahead 126 (token_of k ∷ ts)) c.in-Number.is
    ∙ number_out 126 _ ts (sym c.is_in_range.ensures ∙ c.if-is_in_range.false)

pub returns-in_err-pass_items-in-BeginArray-clause-outlined :
    goal.returns-in_err-pass_items-in-BeginArray-clause-outlined
returns-in_err-pass_items-in-BeginArray-clause-outlined c =
    let ts = c.args.reader.now in
    let p = err_from_is_err_and c.from_residual.result c.from_residual.ensures.1 in
    rw p.1 (ap (λ k. value_ahead 126 (token_of k ∷ ts)) c.in-BeginArray.is
    ∙ no_array 126 ts (omega arith) c.in_err-pass_items-in-BeginArray.ensures.passed)

pub returns-in_err-pass_members-in-BeginObject-clause-outlined :
    goal.returns-in_err-pass_members-in-BeginObject-clause-outlined
returns-in_err-pass_members-in-BeginObject-clause-outlined c =
    let ts = c.args.reader.now in
    let p =
    err_from_is_err_and c.from_residual-in_err-pass_members-in-BeginObject.result
    c.from_residual-in_err-pass_members-in-BeginObject.ensures.1 in
    rw p.1 (ap (λ k. value_ahead 126 (token_of k ∷ ts)) c.in-BeginObject.is
    ∙ no_object 126 ts (omega arith) c.in_err-pass_members-in-BeginObject.ensures.passed)

pub returns-in_ok-pass_items-in-BeginArray-clause-outlined : goal.returns-in_ok-pass_items-in-BeginArray-clause-outlined
returns-in_ok-pass_items-in-BeginArray-clause-outlined c =
    let ts = c.args.reader.now in
    let r = c.pass_items.new.reader in
    ap (λ k. parse_map hollow (value_ahead 126 (token_of k ∷ ts))) c.in-BeginArray.is
    ∙ hollow_array 126 ts r (omega arith) c.in_ok-pass_items-in-BeginArray.ensures.passed
    ∙ ap (λ d. Some (d, r)) (sym (empty_list c.new.result c.new.ensures.items))

pub returns-in_ok-pass_members-in-BeginObject-clause-outlined :
    goal.returns-in_ok-pass_members-in-BeginObject-clause-outlined
returns-in_ok-pass_members-in-BeginObject-clause-outlined c =
    let ts = c.args.reader.now in
    let r = c.pass_members.new.reader in
    ap (λ k. parse_map hollow (value_ahead 126 (token_of k ∷ ts))) c.in-BeginObject.is
    ∙ hollow_object 126 ts r (omega arith) c.in_ok-pass_members-in-BeginObject.ensures.passed
    ∙ ap (λ d. Some (d, r)) (sym (empty_object c.new-in-BeginObject.result c.new-in-BeginObject.ensures.items))

pub returns-in-EndObject-clause-outlined : goal.returns-in-EndObject-clause-outlined
returns-in-EndObject-clause-outlined c =
    let ts = c.args.reader.now in
    let none : value 126 (token_of c.args.token ∷ ts) ≡ None =
    rw (value_is 126 (token_of c.args.token ∷ ts)) (grind arith) in
    ap (converted of_json) none
