-- A list without its repeats, as it grows.
use Rattle.std.proofs.Common.{◌≡◌, ℕ, Bool, List, [], ◌∷◌, ◌++◌, sym, ap, ◌∙◌, append-nil, append_assoc}
use Rattle.std.specs.Prelude.{◌==◌}
use Rattle.std.specs.Bool.{Decides}
use Rattle.std.proofs.lemmas.Bool.{and_from, and_parts, eqb-true, eq-eqb}
use Rattle.intern_tables.specs.WithoutRepeats.{without_repeats}
use Rattle.intern_tables.proofs.Laws.{repeats-push}
use Rattle.interpret.specs.declared.infos.AllocationInfo.{AllocationInfo}
use Rattle.interpret.specs.FirstAppearances.{with_all}
use Rattle.interpret.specs.RawTables.{same_info, same_ip}
use Rattle.interpret.specs.Resolved.{Resolved}

-- several more elements are added one by one
pub repeats-all :
    {X K : Type 0} (key : X → K) (same : X → X → Bool) → ((a b : X) → Decides (same a b) (key a ≡ key b))
    → (xs ys : List X)
    → without_repeats same (xs ++ ys) ≡ with_all same (without_repeats same xs) ys
repeats-all key same decides xs [] = ap (without_repeats same) (append-nil xs)
repeats-all {X} {K} key same decides xs (y ∷ ys) =
    ap (without_repeats same) (sym (append_assoc xs (y ∷ []) ys)) ∙ repeats-all key same decides (xs ++ y ∷ []) ys
    ∙ ap (λ (zs : List X). with_all same zs ys) (repeats-push key same decides xs y)

pub ips-decide : (x y : Resolved) → Decides (same_ip x y) (x.ip ≡ y.ip)
ips-decide x y = (λ same. eqb-true x.ip y.ip same, λ is. eq-eqb x.ip y.ip is)

info_of : ℕ → ℕ → AllocationInfo
info_of size trace = record { size = size; trace = trace }

pub infos-decide : (x y : AllocationInfo) → Decides (same_info x y) (x ≡ y)
unfolding info_of
infos-decide x y = (
  (λ same. let parts = and_parts (x.size == y.size) (x.trace == y.trace) same in ap (λ (n : ℕ). info_of n x.trace)
      (eqb-true x.size y.size parts.0)
      ∙ ap (λ (n : ℕ). info_of y.size n) (eqb-true x.trace y.trace parts.1)),
  (λ is. and_from (x.size == y.size) (x.trace == y.trace)
      (eq-eqb x.size y.size (ap (λ (i : AllocationInfo). i.size) is))
      (eq-eqb x.trace y.trace (ap (λ (i : AllocationInfo). i.trace) is))),
)
