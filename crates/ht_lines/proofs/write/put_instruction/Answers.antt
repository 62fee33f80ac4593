use Rattle.std.proofs.Common.{◌≡◌, ℕ, List, [], ◌∷◌, ◌++◌, ◌∙◌, ap, append_assoc, append-nil}
use Rattle.std.proofs.lemmas.Result.{on_ok_weaker}
use Rattle.hp_num.specs.Spelled.{spelled}
use Rattle.hp_num.proofs.Laws.{extends_more, extends_trans}
use Rattle.ht_lines.specs.Fields.{numbers}
use Rattle.ht_lines.proofs.write.put_instruction.Goals as goal

-- a line of an instruction, number by number
by_number : (old : List ℕ) (ip module_string : ℕ) (frames : List ℕ)
    → ((((old ++ (105 ∷ [])) ++ spelled (ip ∷ [])) ++ spelled (module_string ∷ [])) ++ spelled frames) ++ (10 ∷ [])
    ≡ old ++ ((105 ∷ spelled (ip ∷ module_string ∷ frames)) ++ (10 ∷ []))
by_number old ip module_string frames = simp (append_assoc, append-nil)

pub returns-clause-appended : goal.returns-clause-appended
returns-clause-appended c =
    let start = c.in_ok-put_bytes.ensures.appended in
    let first = c.in_ok-put_number.ensures.appended ∙ ap (λ l. l ++ spelled (c.args.ip ∷ [])) start in
    let second = c.in_ok-put_number-2.ensures.appended ∙ ap (λ l. l ++ spelled (c.args.module_string ∷ [])) first in
    let third = c.in_ok-put_numbers.ensures.appended ∙ ap (λ l. l ++ spelled (numbers c.args.tail.now)) second in
    on_ok_weaker c.put_feed.result
    (λ fed. fed ∙ ap (λ l. l ++ (10 ∷ [])) third
    ∙ by_number c.args.out.now.items c.args.ip c.args.module_string (numbers c.args.tail.now))
    c.put_feed.ensures.appended

pub returns-in_err-put_number-clause-kept : goal.returns-in_err-put_number-clause-kept
returns-in_err-put_number-clause-kept c =
    extends_trans _ _ _ (extends_more _ _ _ c.in_ok-put_bytes.ensures.appended) c.put_number.ensures.kept

pub returns-in_err-put_number-2-clause-kept : goal.returns-in_err-put_number-2-clause-kept
returns-in_err-put_number-2-clause-kept c =
    extends_trans _ _ _
    (extends_trans _ _ _ (extends_more _ _ _ c.in_ok-put_bytes.ensures.appended) c.put_number.ensures.kept)
    c.put_number-2.ensures.kept

pub returns-in_err-put_numbers-clause-kept : goal.returns-in_err-put_numbers-clause-kept
returns-in_err-put_numbers-clause-kept c =
    extends_trans _ _ _
    (extends_trans _ _ _
    (extends_trans _ _ _ (extends_more _ _ _ c.in_ok-put_bytes.ensures.appended) c.put_number.ensures.kept)
    c.put_number-2.ensures.kept)
    c.put_numbers.ensures.kept

pub returns-clause-kept : goal.returns-clause-kept
returns-clause-kept c =
    extends_trans _ _ _
    (extends_trans _ _ _
    (extends_trans _ _ _
    (extends_trans _ _ _ (extends_more _ _ _ c.in_ok-put_bytes.ensures.appended) c.put_number.ensures.kept)
    c.put_number-2.ensures.kept)
    c.put_numbers.ensures.kept)
    c.put_feed.ensures.kept
