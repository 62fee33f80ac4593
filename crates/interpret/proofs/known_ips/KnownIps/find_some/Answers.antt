use Rattle.std.proofs.Common.{◌≡◌, ◌≢◌, ℕ, ◌+◌, true, false, eqb, List, Option, ap, sym, ◌∙◌, subst, arith}
use Rattle.std.specs.Prelude.{◌==◌, unwrap_or}
use Rattle.std.specs.List.{list_any}
use Rattle.std.specs.Map.{keys_of}
use Rattle.std.proofs.lemmas.Bool.Decides.{nat_tests}
use Rattle.interpret.specs.RawTables.{KnownIp, ip_frames, ip_number}
use Rattle.interpret.proofs.FirstLemmas.{known-any, known-frames, known-place, position-none, position-some}
use Rattle.interpret.proofs.known_ips.KnownIps.find_some.Goals as goal

not_zero : (ip : ℕ) → ip ≢ 0 → eqb ip 0 ≡ false
not_zero ip some = grind (arith, nat_tests)

pub returns-in_err-place-clause-none : goal.returns-in_err-place-clause-none
returns-in_err-place-clause-none c =
    rw c.from_residual.ensures
    (subst (λ (held : List KnownIp). list_any (λ (k : KnownIp). c.args.ip == k.ip) held ≡ false) c.self.view_is
    (known-any c.self.inside.frames.entries c.args.ip
    ∙ position-none (λ (k : ℕ). c.args.ip == k) (keys_of c.self.inside.frames.entries)
    (sym c.in_err-place.ensures.index)))

pub returns-clause-some : goal.returns-clause-some
returns-clause-some c =
    subst (λ (held : List KnownIp). list_any (λ (k : KnownIp). c.args.ip == k.ip) held ≡ true) c.self.view_is
    (known-any c.self.inside.frames.entries c.args.ip
    ∙ (position-some (λ (k : ℕ). c.args.ip == k) (keys_of c.self.inside.frames.entries) c.in_ok-place.place
    (sym c.in_ok-place.ensures.index)).0)

pub returns-clause-number : goal.returns-clause-number
returns-clause-number c =
    subst (λ (held : List KnownIp). c.in_ok-place.place + 1 ≡ ip_number held c.args.ip) c.self.view_is
    (rw (not_zero c.args.ip c.requires.some)
    (ap (λ (n : ℕ). n + 1)
    (sym (known-place c.self.inside.frames.entries c.args.ip
    ∙ (position-some (λ (k : ℕ). c.args.ip == k) (keys_of c.self.inside.frames.entries) c.in_ok-place.place
    (sym c.in_ok-place.ensures.index)).1))))

pub returns-clause-frames : goal.returns-clause-frames
returns-clause-frames c =
    subst (λ (held : List KnownIp). c.in_ok-place.frames.now ≡ ip_frames held c.args.ip) c.self.view_is
    (rw (not_zero c.args.ip c.requires.some)
    (ap (λ (o : Option ℕ). unwrap_or o 1)
    (c.in_ok-place.ensures.value ∙ sym (known-frames c.self.inside.frames.entries c.args.ip))))
