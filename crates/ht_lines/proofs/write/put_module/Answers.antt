use Rattle.std.proofs.Common.{◌≡◌, ℕ, List, [], ◌∷◌, ◌++◌, ◌∙◌, ap, append_assoc, append-nil}
use Rattle.std.proofs.lemmas.Result.{on_ok_weaker}
use Rattle.hp_num.specs.Spelled.{spelled}
use Rattle.hp_num.proofs.Laws.{extends_trans}
use Rattle.ht_lines.specs.Fields.{numbers}
use Rattle.ht_lines.specs.Written.{spelled_text}
use Rattle.ht_lines.proofs.write.put_module.Goals as goal

-- a line of a module, piece by piece
by_piece : (old name : List ℕ) (start : ℕ) (ranges : List ℕ)
    → (((old ++ (109 ∷ 32 ∷ name)) ++ spelled (start ∷ [])) ++ spelled ranges) ++ (10 ∷ [])
    ≡ old ++ ((109 ∷ 32 ∷ (name ++ spelled (start ∷ ranges))) ++ (10 ∷ []))
by_piece old name start ranges = simp (append_assoc, append-nil)

pub returns-clause-appended : goal.returns-clause-appended
returns-clause-appended c =
    let first =
    c.in_ok-put_number.ensures.appended
    ∙ ap (λ l. l ++ spelled (c.args.start ∷ [])) c.in_ok-put_kind_text.ensures.appended in
    let second = c.in_ok-put_numbers.ensures.appended ∙ ap (λ l. l ++ spelled (numbers c.args.tail.now)) first in
    on_ok_weaker c.put_feed.result
    (λ fed. fed ∙ ap (λ l. l ++ (10 ∷ [])) second
    ∙ by_piece c.args.out.now.items (spelled_text c.args.version c.args.name.now) c.args.start
    (numbers c.args.tail.now))
    c.put_feed.ensures.appended

pub returns-in_err-put_number-clause-kept : goal.returns-in_err-put_number-clause-kept
returns-in_err-put_number-clause-kept c = extends_trans _ _ _ c.put_kind_text.ensures.kept c.put_number.ensures.kept

pub returns-in_err-put_numbers-clause-kept : goal.returns-in_err-put_numbers-clause-kept
returns-in_err-put_numbers-clause-kept c =
    extends_trans _ _ _ (extends_trans _ _ _ c.put_kind_text.ensures.kept c.put_number.ensures.kept)
    c.put_numbers.ensures.kept

pub returns-clause-kept : goal.returns-clause-kept
returns-clause-kept c =
    extends_trans _ _ _
    (extends_trans _ _ _ (extends_trans _ _ _ c.put_kind_text.ensures.kept c.put_number.ensures.kept)
    c.put_numbers.ensures.kept)
    c.put_feed.ensures.kept
