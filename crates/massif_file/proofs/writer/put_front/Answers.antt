-- The blanks of the array before the numbers are those of the line.
use Rattle.std.proofs.Common.{◌≡◌, ℕ, ◌-◌, List, ◌∷◌, ◌++◌, drop, replicate, set, take, ap, ◌∙◌, arith}
use Rattle.std.proofs.lemmas.List.{length-drop, length-set, take-replicate, take_all}
use Rattle.std.proofs.lemmas.Result.{on_ok_weaker}
use Rattle.massif_file.specs.Blanks.{blanks}
use Rattle.massif_file.proofs.WrittenLemmas.{front_is}
use Rattle.massif_file.proofs.writer.put_front.Goals as goal

pub returns-clause-appended : goal.returns-clause-appended
returns-clause-appended c =
    let front : List ℕ = c.write_head-head.new.front in
    let head : ℕ = c.write_head-head.result in
    let level = c.args.level in
    let room = c.write_head-head.ensures.room in
    let within = c.write_head-head.ensures.within in
    let usual = c.if-level-gt-USUAL_LEVEL.false in
    let long = c.write_head-head.array_long in
    let start : ℕ = head - level - 1 in
    let text : List ℕ = set front start 10 in
    let blank : take head front ≡ replicate head 32 =
    c.write_head-head.ensures.before ∙ take-replicate head 301 32 (omega arith) in
    let all : take (301 - start) (drop start text) ≡ drop start text =
    take_all (301 - start) (drop start text) (omega (arith, length-drop start text, length-set front start 10)) in
    let is =
    all ∙ front_is front head level (omega arith) (omega arith) blank
    ∙ ap (λ (t : List ℕ). 10 ∷ (blanks level ++ t)) c.write_head-head.ensures.written in
    on_ok_weaker c.put_bytes.result (λ h. h ∙ ap (λ (t : List ℕ). c.args.out.now.items ++ t) is)
    c.put_bytes.ensures.appended
