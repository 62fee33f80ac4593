-- Room in a page, for private clauses.
use Rattle.std.specs.Prelude.{◌≡◌, ◌+◌, ◌<◌, ◌≤◌, ℕ, [], OnErr, Result, Vec, vec_capacity, vec_len}

-- how many bytes a page has
abbrev pub page_bytes : ℕ
page_bytes = 65536

-- an empty page with room for a piece of so many bytes behind it
pub record HasPageRoom {Z : Type 0} (longest : ℕ) (page : Vec ℕ Z) : Type 0 where
  pub empty : page.items ≡ []
  pub room : page_bytes + longest ≤ vec_capacity page

-- a page was emptied
pub record IsEmptied {Z : Type 0} (old new : Vec ℕ Z) : Type 0 where
  pub empty : new.items ≡ []
  pub capacity : vec_capacity new ≡ vec_capacity old

-- what was full of a page was passed on
pub record IsPassedOn {Z T E : Type 0} (result : Result T E) (old new : Vec ℕ Z) : Type 0 where
  pub short : vec_len new < page_bytes
  pub empty : OnErr result (new.items ≡ [])
  pub capacity : vec_capacity new ≡ vec_capacity old
