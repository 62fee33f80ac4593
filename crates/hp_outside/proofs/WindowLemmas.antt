-- Parts of a buffer.
use Rattle.std.proofs.Common.{◌≡◌, ◌+◌, ◌-◌, ◌≤◌, ℕ, List, ◌++◌, Option, length, length-take, length-drop, take, drop}
use Rattle.std.proofs.Common.{ap, sym, ◌∙◌, arith}
use Rattle.std.proofs.Math.Seq.{take-add, take-append_seam}
use Rattle.std.specs.Io.KnownBytes.{prepend_known}
use Rattle.hp_outside.proofs.Known.{prepend_known-append}
use Rattle.std.proofs.lemmas.List.{drop-take, drop-drop}
use Rattle.hp_outside.specs.WindowState.{part_of}

-- how long a part of a buffer is
pub length-part_of : (bytes : List ℕ) (start end : ℕ) → end ≤ length bytes
    → length (part_of bytes start end) ≡ end - start
length-part_of bytes start end within =
    omega (arith, length-take (end - start) (drop start bytes), length-drop start bytes)

-- without its front a part begins later
pub part_of-drop : (bytes : List ℕ) (start end count : ℕ) → count ≤ end - start
    → part_of bytes (start + count) end ≡ drop count (part_of bytes start end)
part_of-drop bytes start end count within =
    let rest : ℕ = end - (start + count) in
    let whole : end - start ≡ count + rest = omega arith in
    ap (take rest) (sym (drop-drop count start bytes)) ∙ sym (drop-take count rest (drop start bytes))
    ∙ ap (λ n. drop count (take n (drop start bytes))) (sym whole)

-- a part is its front and what stands behind that
part_of-append : (bytes : List ℕ) (start mid end : ℕ) → start ≤ mid → mid ≤ end
    → part_of bytes start end ≡ part_of bytes start mid ++ part_of bytes mid end
part_of-append bytes start mid end low high =
    let whole : end - start ≡ (mid - start) + (end - mid) = omega arith in
    let place : start + (mid - start) ≡ mid = omega arith in
    ap (λ n. take n (drop start bytes)) whole ∙ take-add (mid - start) (end - mid) (drop start bytes)
    ∙ ap (λ l. part_of bytes start mid ++ take (end - mid) l)
    (drop-drop (mid - start) start bytes ∙ ap (λ n. drop n bytes) place)

-- a part of two buffers that agree up to its end
pub part_of-front : (old new : List ℕ) (start mid : ℕ) → start ≤ mid → take mid new ≡ take mid old
    → part_of new start mid ≡ part_of old start mid
part_of-front old new start mid low same =
    let place : mid ≡ start + (mid - start) = omega arith in
    sym (drop-take start (mid - start) new) ∙ ap (λ n. drop start (take n new)) (sym place) ∙ ap (drop start) same
    ∙ ap (λ n. drop start (take n old)) place ∙ drop-take start (mid - start) old

-- what is kept after a read into the buffer behind it
pub part_of-further : (old new : List ℕ) (start mid count : ℕ) → start ≤ mid → take mid new ≡ take mid old
    → part_of new start (mid + count) ≡ part_of old start mid ++ part_of new mid (mid + count)
part_of-further old new start mid count low same =
    part_of-append new start mid (mid + count) low (omega arith)
    ∙ ap (λ l. l ++ part_of new mid (mid + count)) (part_of-front old new start mid low same)

-- the rest of a file is what it was, after a read moved its front from the store to what is kept
pub rest_of_read : (left new_left : Option (List ℕ)) (kept part new_kept : List ℕ) → left ≡ prepend_known part new_left
    → new_kept ≡ kept ++ part
    → prepend_known kept left ≡ prepend_known new_kept new_left
rest_of_read left new_left kept part new_kept read grown =
    ap (prepend_known kept) read ∙ prepend_known-append new_left kept part
    ∙ ap (λ l. prepend_known l new_left) (sym grown)

-- what was kept stands in front of what is kept
pub front_of_grown : (kept part new_kept : List ℕ) → new_kept ≡ kept ++ part → take (length kept) new_kept ≡ kept
front_of_grown kept part new_kept grown = ap (take (length kept)) grown ∙ take-append_seam kept part
