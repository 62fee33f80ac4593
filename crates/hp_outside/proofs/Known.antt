-- What fronts do to bytes that are told: two calls in a row are one call with both fronts.
use Rattle.std.proofs.Common.{◌≡◌, ℕ, ◌+◌, ◌-◌, ◌≤◌, List, [], ◌++◌, Option, None, Some, length, take, drop, refl, sym}
use Rattle.std.proofs.Common.{ap, ◌∙◌, append_assoc, arith, length-drop}
use Rattle.std.proofs.Math.Seq.{take-add, take-append-add}
use Rattle.std.proofs.lemmas.List.{take-append-le, take-take, length-take-le, take-append-drop, drop-drop}
use Rattle.std.proofs.lemmas.Grind.{common_steps}
use Rattle.std.specs.Io.KnownBytes.{prepend_known, append_known}

-- nothing more is written
pub append_known-nil : (known : Option (List ℕ)) → append_known known [] ≡ known
append_known-nil None = refl
append_known-nil (Some xs) = ap Some (grind (arith, common_steps))

-- two writes in a row write one piece after the other
pub append_known-append : (known : Option (List ℕ)) (xs ys : List ℕ)
    → append_known (append_known known xs) ys ≡ append_known known (xs ++ ys)
append_known-append None xs ys = refl
append_known-append (Some bytes) xs ys = ap Some (append_assoc bytes xs ys)

-- two reads in a row read one piece after the other
pub prepend_known-append : (known : Option (List ℕ)) (xs ys : List ℕ)
    → prepend_known xs (prepend_known ys known) ≡ prepend_known (xs ++ ys) known
prepend_known-append None xs ys = refl
prepend_known-append (Some bytes) xs ys = ap Some (sym (append_assoc xs ys bytes))

-- the rest of a slice, as the code takes it
pub rest_of : (xs : List ℕ) (i : ℕ) → take (length xs - i) (drop i xs) ≡ drop i xs
rest_of xs i = grind (arith, common_steps, length-drop)

-- after a front of the slice, a front of its rest is written
pub append_known-further : (known mid new : Option (List ℕ)) (xs : List ℕ) (i n : ℕ)
    → mid ≡ append_known known (take i xs)
    → new ≡ append_known mid (take n (take (length xs - i) (drop i xs)))
    → new ≡ append_known known (take (i + n) xs)
append_known-further known mid new xs i n first second =
    second ∙ ap (λ l. append_known mid (take n l)) (rest_of xs i)
    ∙ ap (λ k. append_known k (take n (drop i xs))) first
    ∙ append_known-append known (take i xs) (take n (drop i xs))
    ∙ ap (append_known known) (sym (take-add i n xs))

-- after a front is read, the next front is read
pub prepend_known-further : (known mid new : Option (List ℕ)) (xs ys : List ℕ) → known ≡ prepend_known xs mid
    → mid ≡ prepend_known ys new → known ≡ prepend_known (xs ++ ys) new
prepend_known-further known mid new xs ys first second =
    first ∙ ap (prepend_known xs) second ∙ prepend_known-append new xs ys

-- the front of a buffer into which a read wrote behind its first n bytes
pub front_of_filled : (front buf post tail : List ℕ) (n count whole : ℕ) → length front ≡ n → count ≤ length buf
    → n + count ≤ whole
    → take (n + count) (take whole ((front ++ (buf ++ post)) ++ tail)) ≡ front ++ take count buf
front_of_filled front buf post tail n count whole is within fits =
    take-take (n + count) whole _ fits
    ∙ ap (λ m. take (m + count) ((front ++ (buf ++ post)) ++ tail)) (sym is)
    ∙ ap (take (length front + count)) (append_assoc front (buf ++ post) tail)
    ∙ take-append-add front ((buf ++ post) ++ tail) count
    ∙ ap (λ l. front ++ take count l) (append_assoc buf post tail)
    ∙ ap (λ l. front ++ l) (take-append-le count buf (post ++ tail) within)

-- what was read so far stands at the front of a buffer of which a further read filled the next part
pub prepend_known-filled : (known mid new : Option (List ℕ)) (old items buf post tail : List ℕ) (n count whole : ℕ)
    → known ≡ prepend_known (take n old) mid → mid ≡ prepend_known (take count buf) new
    → take n items ≡ take n old → n ≤ length items → count ≤ length buf → n + count ≤ whole
    → known ≡ prepend_known (take (n + count) (take whole ((take n items ++ (buf ++ post)) ++ tail))) new
prepend_known-filled known mid new old items buf post tail n count whole first second same held within fits =
    prepend_known-further known mid new (take n old) (take count buf) first second
    ∙ ap (λ l. prepend_known (l ++ take count buf) new) (sym same)
    ∙ ap (λ l. prepend_known l new)
    (sym (front_of_filled (take n items) buf post tail n count whole (length-take-le n items held) within fits))

-- what a read copied, and what then is left, is what was left before
pub front_of_read : (bytes copied tail : List ℕ) (at count : ℕ)
    → copied ≡ take count (take (length bytes - at) (drop at bytes))
    → count ≤ length (take (length bytes - at) (drop at bytes))
    → take count (copied ++ tail) ++ drop (at + count) bytes ≡ drop at bytes
front_of_read bytes copied tail at count is within =
    let rest = drop at bytes in
    let copied_is : copied ≡ take count rest = is ∙ ap (take count) (rest_of bytes at) in
    let long : count ≤ length copied =
    omega (arith, ap length copied_is, length-take-le count rest, ap length (rest_of bytes at)) in
    let front : take count (copied ++ tail) ≡ take count rest =
    take-append-le count copied tail long ∙ ap (take count) copied_is ∙ take-take count count rest (omega arith) in
    ap (λ l. l ++ drop (at + count) bytes) front ∙ ap (λ l. take count rest ++ l) (sym (drop-drop count at bytes))
    ∙ take-append-drop count rest
