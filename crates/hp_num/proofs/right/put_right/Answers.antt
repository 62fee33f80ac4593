use Rattle.std.proofs.Common.{◌≡◌, ℕ, ◌-◌, List, [], ◌∷◌, ◌++◌, Result, Ok, Err, OnOk, OnErr, IsOk, length}
use Rattle.std.proofs.Common.{length-append, max, replicate, ap, ◌∙◌, append_assoc, arith}
use Rattle.std.proofs.lemmas.Bool.{false≢true}
use Rattle.std.proofs.lemmas.List.{length-replicate, replicate_more}
use Rattle.hp_num.specs.declared.memory.NoMemory.{NoMemory}
use Rattle.hp_num.specs.Right.{right_aligned}
use Rattle.hp_num.proofs.right.put_right.Goals as goal

-- a text that is set to the right is as long as the column or the bytes
length-right : (width : ℕ) (bytes : List ℕ) → length (right_aligned width bytes) ≡ max width (length bytes)
length-right width bytes =
    omega (
      arith,
      length-append (replicate (width - length bytes) 32) bytes,
      length-replicate {A = ℕ} (width - length bytes) 32,
    )

-- bytes behind all of the blanks are the text
aligned : (answer : Result (Unit {0}) NoMemory) (old out new bytes : List ℕ) (blanks width : ℕ)
    → out ≡ old ++ replicate blanks 32 → blanks ≡ width - length bytes
    → OnOk answer (new ≡ out ++ bytes) → OnOk answer (new ≡ old ++ right_aligned width bytes)
aligned (Ok done) old out new bytes blanks width out_is blanks_are put =
    put ∙ ap (λ l. l ++ bytes) out_is ∙ append_assoc old (replicate blanks 32) bytes
    ∙ ap (λ n. old ++ (replicate n 32 ++ bytes)) blanks_are
aligned (Err fault) old out new bytes blanks width out_is blanks_are put = tt

-- what succeeds has no fault
no_fault : (answer : Result (Unit {0}) NoMemory) (P : Type 0) → IsOk answer → OnErr answer P
no_fault (Ok done) P ok = tt
no_fault (Err fault) P ok = absurd (false≢true ok)

pub returns-clause-appended : goal.returns-clause-appended
returns-clause-appended c =
    aligned c.put_bytes.result _ _ _ c.args.bytes.now c.loop.counter c.args.width c.loop.invariant.items (omega arith)
    c.put_bytes.ensures.appended

pub returns-clause-unchanged : goal.returns-clause-unchanged
returns-clause-unchanged c = no_fault c.put_bytes.result _ (c.put_bytes.ensures.room (omega arith))

pub returns-clause-text_len : goal.returns-clause-text_len
returns-clause-text_len c = length-right c.args.width c.args.bytes.now

pub returns-in_err-reserve-clause-text_len : goal.returns-in_err-reserve-clause-text_len
returns-in_err-reserve-clause-text_len c = length-right c.args.width c.args.bytes.now

pub returns-in_err-push-clause-text_len : goal.returns-in_err-push-clause-text_len
returns-in_err-push-clause-text_len c = length-right c.args.width c.args.bytes.now

pub loop-preserved : goal.loop-preserved
loop-preserved c =
    let before = c.loop.invariant in
    record {
      items =
          c.in_ok-push.ensures.items ∙ ap (λ l. l ++ 32 ∷ []) before.items
          ∙ append_assoc c.args.out.now.items (replicate c.loop.counter 32) (32 ∷ [])
          ∙ ap (λ l. c.args.out.now.items ++ l) (replicate_more c.loop.counter 32);
      len = omega (arith, c.in_ok-push.ensures.len);
      room = omega (arith, c.in_ok-push.ensures.capacity);
      capacity = omega (arith, c.in_ok-push.ensures.capacity);
    }
