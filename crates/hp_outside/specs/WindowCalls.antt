-- What the calls of a window on a file change in it, and in its buffer.
use Rattle.std.specs.Prelude.{◌≡◌, ℕ, ◌+◌, ◌-◌, ◌≤◌, List, [], Result, Vec, take, length, vec_len, vec_capacity, IfOk}
use Rattle.std.specs.Prelude.{OnErr, OnOk}
use Rattle.std.specs.Io.KnownBytes.{prepend_known}
use Rattle.hp_outside.specs.declared.store.Failed.{Failed}
use Rattle.hp_outside.specs.declared.store.Store as store
use Rattle.hp_outside.specs.Faults.{Faulted}
use Rattle.hp_outside.specs.Taken.{WhereTold}
use Rattle.hp_outside.specs.WindowState.{WindowState, part_of}

-- the buffer has the same front, reaches so far at least, and has all its room
pub record KeepsFront {Z : Type 0} (old new : Vec ℕ Z) (start end : ℕ) : Type 0 where
  pub front : take start new.items ≡ take start old.items
  pub len : end ≤ vec_len new
  pub longer : vec_len old ≤ vec_len new
  pub capacity : vec_capacity old ≤ vec_capacity new

-- a part of the buffer has the next bytes of the file, or a read failed and the file stands where it stood
pub record ReadsPart {S Z : Type 0} (g : store.Ghosts S) (before now : S) (new : Vec ℕ Z)
    (start most : ℕ) (result : Result ℕ Failed) : Type 0 where
  pub count : IfOk result (λ count. start + count ≤ most)
  pub taken : IfOk result (λ count. g.left before
      ≡ prepend_known (part_of new.items start (start + count)) (g.left now))
  pub end : IfOk result (λ count. count ≡ 0 → WhereTold (g.left before) (λ bytes. bytes ≡ []))
  pub left : OnErr result (g.left now ≡ g.left before)
  pub sound : OnOk result (g.faults now ≡ g.faults before)
  pub failed : OnErr result (Faulted (g.faults before) (g.faults now))

-- the window keeps more bytes of the file, at most so many, or a read failed and it keeps what it kept
pub record Fills {S : Type 0} (g : store.Ghosts S) (before now : S) (old new : WindowState)
    (limit : ℕ) (result : Result ℕ Failed) : Type 0 where
  pub most : new.most ≡ old.most
  pub rest : prepend_known old.kept (g.left before) ≡ prepend_known new.kept (g.left now)
  pub front : take (length old.kept) new.kept ≡ old.kept
  pub count : IfOk result
      (λ count. (count ≤ limit) × (length new.kept ≡ length old.kept + count))
  pub end : IfOk result (λ count. count ≡ 0 → WhereTold (g.left before) (λ bytes. bytes ≡ []))
  pub kept : OnErr result (new.kept ≡ old.kept)
  pub left : OnErr result (g.left now ≡ g.left before)
  pub sound : OnOk result (g.faults now ≡ g.faults before)
  pub failed : OnErr result (Faulted (g.faults before) (g.faults now))

-- what stood from one place up to another in the buffer stands at a place with room for a read behind it
pub record MakesRoom {Z : Type 0} (old new : Vec ℕ Z) (start end place : ℕ) : Type 0 where
  pub kept : part_of new.items place (place + (end - start)) ≡ part_of old.items start end
  pub room : place + (end - start) + 65536 ≤ vec_capacity new
  pub within : place + (end - start) ≤ vec_len new
  pub capacity : vec_capacity new ≡ vec_capacity old
  pub len : vec_len new ≡ vec_len old

-- all that the buffer held it holds in its place
abbrev pub KeepsHeld : {Z : Type 0} → Vec ℕ Z → Vec ℕ Z → Type 0
KeepsHeld old new = (count : ℕ) → count ≤ vec_len old → take count new.items ≡ take count old.items
