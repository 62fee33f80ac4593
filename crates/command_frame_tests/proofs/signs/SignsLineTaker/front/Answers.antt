use Rattle.std.proofs.Common.{◌≢◌, ◌+◌, [], ◌∷◌, arith, refl, drop, length-append, append-nil, sym, ◌∙◌}
use Rattle.std.proofs.lemmas.List.Elements.{All-cons, All-nil}
use Rattle.command_frame_tests.proofs.signs.SignsLineTaker.front.Goals as goal

pub returns-then-begins_with_sign-clause-taken : goal.returns-then-begins_with_sign-clause-taken
returns-then-begins_with_sign-clause-taken c = record {
  line = 43 ∷ [];
  one_line = All-cons (λ byte. byte ≢ 10) 43 [] (λ is. absurd (omega (arith, is))) (All-nil (λ byte. byte ≢ 10));
  short = omega arith;
  rest = drop 2 c.args.ready.now;
  split = c.begins_with_sign.ensures c.if-begins_with_sign.true;
  size = refl;
  no_fault = λ earlier old. refl;
  gained = λ earlier old. sym (append-nil c.args._output.now.items);
  taken = λ earlier old. length-append earlier ((43 ∷ []) ∷ []) ∙ omega (arith, old);
}
