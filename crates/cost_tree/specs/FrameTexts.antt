-- A closure states a list of names where it answers true exactly for them.
use Rattle.std.specs.Prelude.{ℕ, ◌↔◌, Bool, List, Contains, IsTrue}
use Rattle.std.specs.Borrow.{Bor}
use Rattle.std.specs.Fn.{FnReturnsAt, Shared}
use Rattle.cost_tree.specs.declared.frame_test.FrameTest.{FrameTest}

-- a closure with these answers answers true exactly for the names of the list
pub record StatesNames (answers : List ℕ → Bool → Type 0) (texts : List (List ℕ)) : Type 0 where
  pub answer : (name : List ℕ) (answer : Bool) → answers name answer
      → (IsTrue answer ↔ Contains texts name)

-- what one closure says of a list's names, another says too
abbrev pub TellsSame : (List ℕ → Bool → Type 0) → (List ℕ → Bool → Type 0) → Type 0
TellsSame answers others = (texts : List (List ℕ)) → StatesNames answers texts
    → StatesNames others texts

-- a name's answer is whether a list has it, where the closure states that list
abbrev pub TellsOf : (List ℕ → Bool → Type 0) → List ℕ → Bool → Type 0
TellsOf answers name answer = (texts : List (List ℕ)) → StatesNames answers texts
    → IsTrue answer ↔ Contains texts name

-- what a test answers of a name
abbrev pub says : {F : Type 0} → Shared F (Bor (List ℕ) × Unit {0}) Bool → FrameTest F → List ℕ
    → Bool → Type 0
says callable test = FnReturnsAt callable test.test
